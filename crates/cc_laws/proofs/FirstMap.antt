-- Before its first map a stream has no object, hold, touch or transfer, and its bytes are the opening
-- ones.
use Rattle.std.specs.Prelude.{◌≡◌, ℕ, ◌/◌, ◌%◌, true, false, List, [], ◌∷◌, slice_index, refl}
use Rattle.std.proofs.Common.{ap, sym, ◌∙◌}
use Rattle.std.specs.declared.option.Option.TheVariants.{Some, None}
use Rattle.cc_entry.specs.declared.call.Call.{Call}
use Rattle.cc_entry.specs.declared.reply.Reply.{Reply}
use Rattle.cc_model.specs.History.{Effect, Did, CameIn, WentOut, Began, Ended, Synced}
use Rattle.cc_model.specs.Acts.{Act, act_of, Opens, Closes, Resizes, Writes, Zeroes, Stores, Stamps, Discards, Looks}
use Rattle.cc_model.specs.Objects.{objects, had_map}
use Rattle.cc_model.specs.Holds.{holds_of, held_after, id_of}
use Rattle.cc_model.specs.Touches.{touches, is_dirty}
use Rattle.cc_model.specs.Bytes.{content}
use Rattle.cc_model.specs.Images.{open_of, begun, image}
use Rattle.cc_laws.proofs.ObjectSteps.{objects-looks, had_map-opens, had_map-closes, had_map-resizes, had_map-writes, had_map-zeroes, had_map-stores, had_map-stamps, had_map-discards, had_map-looks}
use Rattle.cc_laws.proofs.TouchSteps.{touches-looks}
use Rattle.cc_laws.proofs.ByteSteps.{content-opens, content-looks}
use Rattle.cc_laws.proofs.Steady.{needs_no_map, IsSteadyCall, IsSteady}

pub record IsFirst (h : List Effect) : Type 0 where
  pub unopened : objects h ≡ []
  pub unheld : holds_of h ≡ []
  pub no_transfer : open_of h ≡ None
  pub not_begun : (p : ℕ) → begun h p ≡ None
  pub untouched : (p : ℕ) → touches false h p ≡ []
  pub opening : (pages : ℕ → List ℕ) (i : ℕ) → content pages h i ≡ slice_index (pages (i / 4096)) (i % 4096)
  pub opening_page : (pages : ℕ → List ℕ) (p : ℕ) → image pages h p ≡ Some (pages p)

IsFirst-looks : (pass : ℕ) (call : Call) (reply : Reply) (h : List Effect) → act_of call ≡ Looks → IsSteadyCall h call → IsFirst h → IsFirst (Did pass call reply ∷ h)
unfolding holds_of open_of begun image
IsFirst-looks pass call reply h is steady first =
    record {
      unopened = objects-looks pass call reply h is ∙ first.unopened;
      unheld = ap (λ holds. held_after pass call (id_of reply) holds) first.unheld ∙ steady.unheld first.unopened first.unheld pass (id_of reply);
      no_transfer = first.no_transfer;
      not_begun = first.not_begun;
      untouched = λ p. touches-looks false pass call reply h p is ∙ first.untouched p;
      opening = λ pages i. content-looks pages pass call reply h i is ∙ first.opening pages i;
      opening_page = first.opening_page;
    }

IsFirst-done : (pass : ℕ) (call : Call) (reply : Reply) (h : List Effect) → IsSteadyCall h call → IsFirst h → had_map (Did pass call reply ∷ h) ≡ false → IsFirst (Did pass call reply ∷ h)
IsFirst-done pass call reply h steady first never = go (act_of call) refl (steady.first first.unopened first.unheld)
  where
    go : (a : Act) → act_of call ≡ a → needs_no_map (act_of call) ≡ true → IsFirst (Did pass call reply ∷ h)
    go (Opens file given quota temporary) is fits = absurd (cc (had_map-opens pass call reply h is))
    go Looks is fits = IsFirst-looks pass call reply h is steady first
    go other is fits = absurd (cc (ap needs_no_map is))

-- a call that may be done before the first map changes no content
pub content-first : (pages : ℕ → List ℕ) (pass : ℕ) (call : Call) (reply : Reply) (h : List Effect) (i : ℕ) → IsSteadyCall h call → IsFirst h → content pages (Did pass call reply ∷ h) i ≡ content pages h i
content-first pages pass call reply h i steady first = go (act_of call) refl (steady.first first.unopened first.unheld)
  where
    go : (a : Act) → act_of call ≡ a → needs_no_map (act_of call) ≡ true → content pages (Did pass call reply ∷ h) i ≡ content pages h i
    go (Opens file given quota temporary) is fits = content-opens pages pass call reply h i is
    go Looks is fits = content-looks pages pass call reply h i is
    go other is fits = absurd (cc (ap needs_no_map is))

-- a stream that has no map after a call had none before it
never_before : (pass : ℕ) (call : Call) (reply : Reply) (h : List Effect) → had_map (Did pass call reply ∷ h) ≡ false → had_map h ≡ false
never_before pass call reply h never = go (act_of call) refl
  where
    go : (a : Act) → act_of call ≡ a → had_map h ≡ false
    go (Opens file given quota temporary) is = absurd (cc (had_map-opens pass call reply h is))
    go (Closes file truncate) is = sym (had_map-closes pass call reply h is) ∙ never
    go (Resizes allocation size) is = sym (had_map-resizes pass call reply h is) ∙ never
    go (Writes at bytes) is = sym (had_map-writes pass call reply h is) ∙ never
    go (Zeroes from to) is = sym (had_map-zeroes pass call reply h is) ∙ never
    go (Stores page bytes) is = sym (had_map-stores pass call reply h is) ∙ never
    go (Stamps hold lsn) is = sym (had_map-stamps pass call reply h is) ∙ never
    go (Discards span) is = sym (had_map-discards pass call reply h is) ∙ never
    go Looks is = sym (had_map-looks pass call reply h is) ∙ never

clean : (h : List Effect) (p : ℕ) → touches false h p ≡ [] → is_dirty h p ≡ true → ⊥
clean h p none dirty = absurd (cc)

pub IsFirst-steady : (h : List Effect) → IsSteady h → had_map h ≡ false → IsFirst h
unfolding objects had_map holds_of touches content open_of begun image
IsFirst-steady [] steady never =
    record {
      unopened = refl;
      unheld = refl;
      no_transfer = refl;
      not_begun = λ p. refl;
      untouched = λ p. refl;
      opening = λ pages i. refl;
      opening_page = λ pages p. refl;
    }
IsFirst-steady (Did pass call reply ∷ h) steady never =
    IsFirst-done pass call reply h steady.0 (IsFirst-steady h steady.1 (never_before pass call reply h never)) never
IsFirst-steady (CameIn pass page from_disk ∷ h) steady never =
    let f : IsFirst h = IsFirst-steady h steady.1 never in
    record { unopened = f.unopened; unheld = f.unheld; no_transfer = f.no_transfer; not_begun = f.not_begun; untouched = f.untouched; opening = f.opening; opening_page = f.opening_page }
IsFirst-steady (WentOut pass page ∷ h) steady never =
    let f : IsFirst h = IsFirst-steady h steady.1 never in
    record { unopened = f.unopened; unheld = f.unheld; no_transfer = f.no_transfer; not_begun = f.not_begun; untouched = f.untouched; opening = f.opening; opening_page = f.opening_page }
IsFirst-steady (Began pass page ∷ h) steady never =
    let f : IsFirst h = IsFirst-steady h steady.1 never in
    absurd (clean h page (f.untouched page) steady.0)
IsFirst-steady (Ended pass page how ∷ h) steady never =
    let f : IsFirst h = IsFirst-steady h steady.1 never in
    absurd (cc (f.no_transfer, steady.0))
IsFirst-steady (Synced pass how ∷ h) steady never =
    let f : IsFirst h = IsFirst-steady h steady.1 never in
    record { unopened = f.unopened; unheld = f.unheld; no_transfer = f.no_transfer; not_begun = f.not_begun; untouched = f.untouched; opening = f.opening; opening_page = f.opening_page }

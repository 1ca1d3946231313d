-- A call that neither discards a page nor leaves anything of its own in it leaves the page's bytes, and
-- raises the valid data length over none of them.
use Rattle.std.specs.Prelude.{◌≡◌, ℕ, suc, ◌+◌, ◌*◌, ◌/◌, ◌<◌, ◌≤◌, Bool, true, false, ◌&&◌, nat_le, List, [], ◌∷◌, length, max, refl}
use Rattle.std.proofs.Common.{arith, ap, sym, subst, ◌∙◌}
use Rattle.std.proofs.lemmas.Bool.{leb-true}
use Rattle.std.specs.declared.option.Option.{Option}
use Rattle.std.specs.declared.option.Option.TheVariants.{Some, None}
use Rattle.cc_entry.specs.Place.{File, Range}
use Rattle.cc_entry.specs.declared.place.FileSizes.{FileSizes}
use Rattle.cc_entry.specs.declared.call.Call.{Call}
use Rattle.cc_entry.specs.declared.reply.Reply.{Reply}
use Rattle.cc_model.specs.History.{Effect, Did}
use Rattle.cc_model.specs.Acts.{Act, act_of, Opens, Closes, Resizes, Writes, Zeroes, Stores, Stamps, Discards, Looks}
use Rattle.cc_entry.specs.Pages.{has_byte, has_page}
use Rattle.cc_model.specs.Objects.{objects, had_map, truncation}
use Rattle.cc_model.specs.Holds.{holds_of, hold_at}
use Rattle.cc_model.specs.Sizes.{Sizes, resized_by, stored_range, touched_if, cut_if, dropped_if, hold_has}
use Rattle.cc_model.specs.Ranges.{span_has}
use Rattle.cc_model.specs.Touches.{sizes, touches, size_of, valid_of, is_dirty, is_mapped}
use Rattle.cc_model.specs.Bytes.{content}
use Rattle.cc_laws.specs.ByPlaces.{act_discards}
use Rattle.cc_laws.proofs.SizeSteps.{sizes-opens_mapped, sizes-opens_anew, sizes-closes, sizes-resizes, sizes-writes, sizes-zeroes, sizes-stores, sizes-stamps, sizes-discards, sizes-looks}
use Rattle.cc_laws.proofs.TouchSteps.{touches-opens, touches-closes, touches-resizes, touches-writes, touches-zeroes, touches-stores, touches-stamps, touches-discards, touches-looks}
use Rattle.cc_laws.proofs.ByteSteps.{content-opens, content-closes, content-resizes, content-writes_past, content-zeroes_past, content-stores_past, content-stamps, content-discards_kept, content-looks}
use Rattle.cc_laws.proofs.Steady.{BeginsWithin, ComesBackWithin, IsSteadyCall}
use Rattle.cc_laws.proofs.CoveredBytes.{IsUncovered-page, IsUntouched-none}

-- nothing stood before the call that is not written, and the byte lay below the valid data length
pub record IsKept (ended : Bool) (h : List Effect) (p i : ℕ) : Type 0 where
  pub clean : touches ended h p ≡ []
  pub below : i < valid_of h

-- the byte is as it was too
pub record IsKeptByte (pages : ℕ → List ℕ) (ended : Bool) (e : Effect) (h : List Effect) (p i : ℕ) : Type 0 where
  pub kept : IsKept ended h p i
  pub same : content pages (e ∷ h) i ≡ content pages h i

-- a size step, where there is one
IsKept-cut : (o : Option ℕ) (ended : Bool) (h : List Effect) (p i : ℕ) → cut_if o p (touches ended h p) ≡ [] → 4096 * p ≤ i → i < (resized_by o (sizes h)).valid → IsKept ended h p i
IsKept-cut None ended h p i none low below = record { clean = none; below = below }
IsKept-cut (Some to) ended h p i none low below = go (nat_le to (4096 * p)) refl none
  where
    go : (b : Bool) → nat_le to (4096 * p) ≡ b → cut_if (Some to) p (touches ended h p) ≡ [] → IsKept ended h p i
    go true is e = absurd (let k : to ≤ 4096 * p = leb-true to (4096 * p) is in omega arith)
    go false is e = record { clean = rw is at e; below = omega arith }

-- the part of a step that is on the range of a change
record IsApart (ended : Bool) (r : Range) (h : List Effect) (p i : ℕ) : Type 0 where
  kept : IsKept ended h p i
  other : has_byte r i ≡ false

IsApart-range : (ended : Bool) (r : Range) (h : List Effect) (p i place : ℕ) (lsn : Option ℕ) → r.from ≤ valid_of h → touched_if (has_page r p) place lsn (touches ended h p) ≡ [] → 4096 * p ≤ i → i < 4096 * p + 4096 → i < max (valid_of h) r.to → IsApart ended r h p i
IsApart-range ended r h p i place lsn within none low high below =
    let u = IsUntouched-none (has_page r p) place lsn (touches ended h p) none in
    let c = IsUncovered-page r p i (valid_of h) within u.apart low high below in
    record { kept = record { clean = u.none; below = c.below }; other = c.other }

module _ (pages : ℕ → List ℕ) (ended : Bool) (pass : ℕ) (call : Call) (reply : Reply) (h : List Effect) (p i : ℕ) (low : 4096 * p ≤ i) (high : i < 4096 * p + 4096) (none : touches ended (Did pass call reply ∷ h) p ≡ []) (below : i < valid_of (Did pass call reply ∷ h)) where
  below_as : (s : Sizes) → sizes (Did pass call reply ∷ h) ≡ s → i < s.valid
  below_as s e = subst (λ (t : Sizes). i < t.valid) e below

  kept-opens_mapped : (file : File) (given : FileSizes) (quota : ℕ) (temporary : Bool) → act_of call ≡ Opens file given quota temporary → is_mapped h ≡ true → IsKeptByte pages ended (Did pass call reply) h p i
  kept-opens_mapped file given quota temporary is mapped =
      record {
        kept = record {
          clean = sym (touches-opens ended pass call reply h p is) ∙ none;
          below = below_as (sizes h) (sizes-opens_mapped pass call reply h is mapped);
        };
        same = content-opens pages pass call reply h i is;
      }

  kept-opens_anew : (file : File) (given : FileSizes) (quota : ℕ) (temporary : Bool) → act_of call ≡ Opens file given quota temporary → is_mapped h ≡ false → given.valid ≤ valid_of h → IsKeptByte pages ended (Did pass call reply) h p i
  kept-opens_anew file given quota temporary is unmapped back =
      let now : i < given.valid = below_as (record { size = given.size; valid = given.valid }) (sizes-opens_anew pass call reply h is unmapped) in
      record {
        kept = record { clean = sym (touches-opens ended pass call reply h p is) ∙ none; below = omega arith };
        same = content-opens pages pass call reply h i is;
      }

  kept-opens : (file : File) (given : FileSizes) (quota : ℕ) (temporary : Bool) → act_of call ≡ Opens file given quota temporary → (is_mapped h ≡ false → given.valid ≤ valid_of h) → IsKeptByte pages ended (Did pass call reply) h p i
  kept-opens file given quota temporary is back = go (is_mapped h) refl
    where
      go : (b : Bool) → is_mapped h ≡ b → IsKeptByte pages ended (Did pass call reply) h p i
      go true m = kept-opens_mapped file given quota temporary is m
      go false m = kept-opens_anew file given quota temporary is m (back m)

  kept-closes : (file : File) (truncate : Option ℕ) → act_of call ≡ Closes file truncate → IsKeptByte pages ended (Did pass call reply) h p i
  kept-closes file truncate is =
      record {
        kept = IsKept-cut (truncation (objects h) (size_of h) file truncate) ended h p i (sym (touches-closes ended pass call reply h p is) ∙ none) low (below_as _ (sizes-closes pass call reply h is));
        same = content-closes pages pass call reply h i is;
      }

  kept-resizes : (allocation size : ℕ) → act_of call ≡ Resizes allocation size → IsKeptByte pages ended (Did pass call reply) h p i
  kept-resizes allocation size is =
      record {
        kept = IsKept-cut (Some size) ended h p i (sym (touches-resizes ended pass call reply h p is) ∙ none) low (below_as _ (sizes-resizes pass call reply h is));
        same = content-resizes pages pass call reply h i is;
      }

  kept-writes : (at : ℕ) (bytes : List ℕ) → act_of call ≡ Writes at bytes → at ≤ valid_of h → IsKeptByte pages ended (Did pass call reply) h p i
  kept-writes at bytes is within =
      let r : Range = record { from = at; to = at + length bytes } in
      let a = IsApart-range ended r h p i (suc (length h)) None within (sym (touches-writes ended pass call reply h p is) ∙ none) low high (below_as _ (sizes-writes pass call reply h is)) in
      record { kept = a.kept; same = content-writes_past pages pass call reply h i is a.other }

  kept-zeroes : (from to : ℕ) → act_of call ≡ Zeroes from to → from ≤ valid_of h → IsKeptByte pages ended (Did pass call reply) h p i
  kept-zeroes from to is within =
      let r : Range = record { from = from; to = to } in
      let a = IsApart-range ended r h p i (suc (length h)) None within (sym (touches-zeroes ended pass call reply h p is) ∙ none) low high (below_as _ (sizes-zeroes pass call reply h is)) in
      record { kept = a.kept; same = content-zeroes_past pages pass call reply h i is a.other }

  kept-stores : (page : ℕ) (bytes : List ℕ) → act_of call ≡ Stores page bytes → 4096 * page ≤ valid_of h → IsKeptByte pages ended (Did pass call reply) h p i
  kept-stores page bytes is within =
      let a = IsApart-range ended (stored_range page (size_of h)) h p i (suc (length h)) None within (sym (touches-stores ended pass call reply h p is) ∙ none) low high (below_as _ (sizes-stores pass call reply h is)) in
      record { kept = a.kept; same = content-stores_past pages pass call reply h i is a.other }

  kept-stamps : (hold : ℕ) (lsn : Option ℕ) → act_of call ≡ Stamps hold lsn → IsKeptByte pages ended (Did pass call reply) h p i
  kept-stamps hold lsn is =
      let u = IsUntouched-none (hold_has (hold_at (holds_of h) hold) p) (suc (length h)) lsn (touches ended h p) (sym (touches-stamps ended pass call reply h p is) ∙ none) in
      record {
        kept = record { clean = u.none; below = below_as (sizes h) (sizes-stamps pass call reply h is) };
        same = content-stamps pages pass call reply h i is;
      }

  kept-discards : (span : Option Range) → act_of call ≡ Discards span → span_has span p ≡ false → IsKeptByte pages ended (Did pass call reply) h p i
  kept-discards span is apart =
      record {
        kept = record {
          clean = sym (touches-discards ended pass call reply h p is ∙ ap (λ b. dropped_if b (touches ended h p)) apart) ∙ none;
          below = below_as (sizes h) (sizes-discards pass call reply h is);
        };
        same = content-discards_kept pages pass call reply h i is (aside (i / 4096) (omega arith));
      }
    where
      aside : (q : ℕ) → q ≡ p → (span_has span q && is_dirty h q) ≡ false
      aside q same = ap (λ b. b && is_dirty h q) (ap (span_has span) same ∙ apart)

  kept-looks : act_of call ≡ Looks → IsKeptByte pages ended (Did pass call reply) h p i
  kept-looks is =
      record {
        kept = record {
          clean = sym (touches-looks ended pass call reply h p is) ∙ none;
          below = below_as (sizes h) (sizes-looks pass call reply h is);
        };
        same = content-looks pages pass call reply h i is;
      }

  pub IsKeptByte-done : IsSteadyCall h call → had_map h ≡ true → act_discards (act_of call) p ≡ false → IsKeptByte pages ended (Did pass call reply) h p i
  IsKeptByte-done steady had apart = go (act_of call) refl steady.within steady.back
    where
      go : (a : Act) → act_of call ≡ a → BeginsWithin (valid_of h) a → ComesBackWithin h a → IsKeptByte pages ended (Did pass call reply) h p i
      go (Opens file given quota temporary) is within back = kept-opens file given quota temporary is (λ m. back m had)
      go (Closes file truncate) is within back = kept-closes file truncate is
      go (Resizes allocation size) is within back = kept-resizes allocation size is
      go (Writes at bytes) is within back = kept-writes at bytes is within
      go (Zeroes from to) is within back = kept-zeroes from to is within
      go (Stores page bytes) is within back = kept-stores page bytes is within
      go (Stamps hold lsn) is within back = kept-stamps hold lsn is
      go (Discards span) is within back = kept-discards span is (sym (ap (λ a. act_discards a p) is) ∙ apart)
      go Looks is within back = kept-looks is

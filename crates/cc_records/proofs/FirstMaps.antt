-- The place of a history at which its stream was first initialised.
use Rattle.std.specs.Prelude.{◌≡◌, ℕ, Bool, true, false, not, List, [], ◌∷◌, ◌++◌, refl}
use Rattle.std.specs.List.{list_any}
use Rattle.std.proofs.Common.{ap, sym, ◌∙◌}
use Rattle.cc_entry.specs.Place.{File}
use Rattle.cc_entry.specs.declared.place.FileSizes.{FileSizes}
use Rattle.cc_entry.specs.declared.call.Call.{Call}
use Rattle.cc_entry.specs.declared.reply.Reply.{Reply}
use Rattle.cc_model.specs.Numbers.{is_empty}
use Rattle.cc_model.specs.History.{Effect, Did, CameIn, WentOut, Began, Ended, Synced}
use Rattle.cc_model.specs.Acts.{Act, act_of, Opens, Closes, Resizes, Writes, Zeroes, Stores, Stamps, Discards, Looks}
use Rattle.cc_model.specs.Objects.{objects, had_map}
use Rattle.cc_model.specs.Records.{first_valid}
use Rattle.cc_model.specs.Sizes.{Sizes}
use Rattle.cc_model.specs.Touches.{sizes, touches, touched, valid_of, is_mapped, maps_by}
use Rattle.cc_laws.proofs.ObjectSteps.{had_map-opens, had_map-closes, had_map-resizes, had_map-writes, had_map-zeroes, had_map-stores, had_map-stamps, had_map-discards, had_map-looks}
use Rattle.cc_laws.proofs.SizeSteps.{sizes-opens_anew, sizes-looks}
use Rattle.cc_laws.proofs.Steady.{needs_no_map, IsSteady}
use Rattle.cc_laws.proofs.FirstMap.{IsFirst, IsFirst-steady}

-- the act of a call, where the stream had no map after it, is a look
pub looks-never : (pass : ℕ) (call : Call) (reply : Reply) (h : List Effect) → IsSteady (Did pass call reply ∷ h) → had_map h ≡ false → had_map (Did pass call reply ∷ h) ≡ false → act_of call ≡ Looks
looks-never pass call reply h steady before never =
    let first = IsFirst-steady h steady.1 before in go (act_of call) refl (steady.0.first first.unopened first.unheld)
  where
    go : (a : Act) → act_of call ≡ a → needs_no_map (act_of call) ≡ true → act_of call ≡ Looks
    go (Opens file given quota temporary) is fits = absurd (cc (had_map-opens pass call reply h is))
    go Looks is fits = is
    go other is fits = absurd (cc (ap needs_no_map is))

-- one that had a map before or not
pub had-before : (pass : ℕ) (call : Call) (reply : Reply) (h : List Effect) → had_map (Did pass call reply ∷ h) ≡ false → had_map h ≡ false
had-before pass call reply h never = go (act_of call) refl
  where
    go : (a : Act) → act_of call ≡ a → had_map h ≡ false
    go (Opens file given quota temporary) is = absurd (cc (had_map-opens pass call reply h is))
    go (Closes file truncate) is = sym (had_map-closes pass call reply h is) ∙ never
    go (Resizes allocation size) is = sym (had_map-resizes pass call reply h is) ∙ never
    go (Writes at bytes) is = sym (had_map-writes pass call reply h is) ∙ never
    go (Zeroes from to) is = sym (had_map-zeroes pass call reply h is) ∙ never
    go (Stores page bytes) is = sym (had_map-stores pass call reply h is) ∙ never
    go (Stamps hold lsn) is = sym (had_map-stamps pass call reply h is) ∙ never
    go (Discards span) is = sym (had_map-discards pass call reply h is) ∙ never
    go Looks is = sym (had_map-looks pass call reply h is) ∙ never

-- before the first map no byte is valid
pub valid-never : (h : List Effect) → IsSteady h → had_map h ≡ false → valid_of h ≡ 0
unfolding sizes had_map
valid-never [] steady never = refl
valid-never (Did pass call reply ∷ h) steady never =
    let before = had-before pass call reply h never in
    ap (λ (s : Sizes). s.valid) (sizes-looks pass call reply h (looks-never pass call reply h steady before never)) ∙ valid-never h steady.1 before
valid-never (CameIn pass page from_disk ∷ h) steady never = valid-never h steady.1 never
valid-never (WentOut pass page ∷ h) steady never = valid-never h steady.1 never
valid-never (Began pass page ∷ h) steady never = valid-never h steady.1 never
valid-never (Ended pass page how ∷ h) steady never = valid-never h steady.1 never
valid-never (Synced pass how ∷ h) steady never = valid-never h steady.1 never

-- and there is no map
untouched-all : (h : List Effect) (pages : List ℕ) → ((p : ℕ) → touches false h p ≡ []) → list_any (λ p. not (is_empty (touches false h p))) pages ≡ false
untouched-all h [] none = refl
untouched-all h (p ∷ pages) none = rw (none p) (untouched-all h pages none)

pub unmapped-never : (h : List Effect) → IsFirst h → is_mapped h ≡ false
unmapped-never h first = rw first.unopened (untouched-all h (touched h) first.untouched)

-- the valid data length of the first initialise stays what it was
pub first_valid-did : (pass : ℕ) (call : Call) (reply : Reply) (h : List Effect) → had_map h ≡ true → first_valid (Did pass call reply ∷ h) ≡ first_valid h
unfolding first_valid
first_valid-did pass call reply h had = rw (had, first_valid) refl

pub first_valid-opens : (file : File) (given : FileSizes) (quota : ℕ) (temporary : Bool) (pass : ℕ) (call : Call) (reply : Reply) (h : List Effect) → act_of call ≡ Opens file given quota temporary → had_map h ≡ false → first_valid (Did pass call reply ∷ h) ≡ given.valid
unfolding first_valid
first_valid-opens file given quota temporary pass call reply h is never = rw (never, is, first_valid) refl

-- as the stream is first initialised, as much is valid as that initialise says
pub valid-opened : (pass : ℕ) (call : Call) (reply : Reply) (h : List Effect) → IsSteady h → had_map h ≡ false → had_map (Did pass call reply ∷ h) ≡ true → valid_of (Did pass call reply ∷ h) ≡ first_valid (Did pass call reply ∷ h)
valid-opened pass call reply h steady never had = go (act_of call) refl
  where
    go : (a : Act) → act_of call ≡ a → valid_of (Did pass call reply ∷ h) ≡ first_valid (Did pass call reply ∷ h)
    go (Opens file given quota temporary) is =
        ap (λ (s : Sizes). s.valid) (sizes-opens_anew pass call reply h is (unmapped-never h (IsFirst-steady h steady never)))
        ∙ sym (first_valid-opens file given quota temporary pass call reply h is never)
    go (Closes file truncate) is = absurd (cc (had_map-closes pass call reply h is))
    go (Resizes allocation size) is = absurd (cc (had_map-resizes pass call reply h is))
    go (Writes at bytes) is = absurd (cc (had_map-writes pass call reply h is))
    go (Zeroes from to) is = absurd (cc (had_map-zeroes pass call reply h is))
    go (Stores page bytes) is = absurd (cc (had_map-stores pass call reply h is))
    go (Stamps hold lsn) is = absurd (cc (had_map-stamps pass call reply h is))
    go (Discards span) is = absurd (cc (had_map-discards pass call reply h is))
    go Looks is = absurd (cc (had_map-looks pass call reply h is))

-- a place of the history since the first initialise, at which as much was valid as that initialise said
pub record FirstPlace (h : List Effect) : Type 0 where
  pub later : List Effect
  pub before : List Effect
  pub places : h ≡ later ++ before
  pub initialised : had_map before ≡ true
  pub least : valid_of before ≡ first_valid h

pub first-place : (h : List Effect) → IsSteady h → had_map h ≡ true → FirstPlace h
unfolding had_map first_valid
first-place [] steady had = absurd (cc)
first-place (Did pass call reply ∷ h) steady had = go (had_map h) refl (first-place h steady.1)
  where
    go : (b : Bool) → had_map h ≡ b → (had_map h ≡ true → FirstPlace h) → FirstPlace (Did pass call reply ∷ h)
    go true was before =
        let k = before was in
        record {
          later = Did pass call reply ∷ k.later;
          before = k.before;
          places = ap (λ l. Did pass call reply ∷ l) k.places;
          initialised = k.initialised;
          least = k.least ∙ sym (first_valid-did pass call reply h was);
        }
    go false never before =
        record { later = []; before = Did pass call reply ∷ h; places = refl; initialised = had; least = valid-opened pass call reply h steady.1 never had }
first-place (CameIn pass page from_disk ∷ h) steady had =
    let k = first-place h steady.1 had in
    record { later = CameIn pass page from_disk ∷ k.later; before = k.before; places = ap (λ l. CameIn pass page from_disk ∷ l) k.places; initialised = k.initialised; least = k.least }
first-place (WentOut pass page ∷ h) steady had =
    let k = first-place h steady.1 had in
    record { later = WentOut pass page ∷ k.later; before = k.before; places = ap (λ l. WentOut pass page ∷ l) k.places; initialised = k.initialised; least = k.least }
first-place (Began pass page ∷ h) steady had =
    let k = first-place h steady.1 had in
    record { later = Began pass page ∷ k.later; before = k.before; places = ap (λ l. Began pass page ∷ l) k.places; initialised = k.initialised; least = k.least }
first-place (Ended pass page how ∷ h) steady had =
    let k = first-place h steady.1 had in
    record { later = Ended pass page how ∷ k.later; before = k.before; places = ap (λ l. Ended pass page how ∷ l) k.places; initialised = k.initialised; least = k.least }
first-place (Synced pass how ∷ h) steady had =
    let k = first-place h steady.1 had in
    record { later = Synced pass how ∷ k.later; before = k.before; places = ap (λ l. Synced pass how ∷ l) k.places; initialised = k.initialised; least = k.least }

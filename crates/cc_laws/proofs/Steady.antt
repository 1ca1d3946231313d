-- Steady histories: each change begins at or below the valid data length, a stream that comes back has
-- no more valid data than it left, a discard throws away what the disk is known to hold, and before the
-- first map nothing is changed or held.
use Rattle.std.specs.Prelude.{◌≡◌, ℕ, ◌*◌, ◌≤◌, Bool, true, false, List, [], ◌∷◌}
use Rattle.std.specs.declared.option.Option.{Option}
use Rattle.std.specs.declared.option.Option.TheVariants.{Some, None}
use Rattle.std.specs.List.{cons_option}
use Rattle.cc_entry.specs.Place.{Range}
use Rattle.cc_entry.specs.declared.call.Call.{Call}
use Rattle.cc_model.specs.History.{Effect, Did, CameIn, WentOut, Began, Ended, Synced}
use Rattle.cc_model.specs.Acts.{Act, act_of, Opens, Closes, Resizes, Writes, Zeroes, Stores, Stamps, Discards, Looks}
use Rattle.cc_model.specs.Objects.{objects, had_map}
use Rattle.cc_model.specs.Holds.{holds_of, held_after}
use Rattle.cc_model.specs.Touches.{valid_of, is_dirty, is_mapped}
use Rattle.cc_model.specs.Ranges.{span_has}
use Rattle.cc_model.specs.Images.{open_of}
use Rattle.cc_model.specs.Discards.{is_known}

-- a change begins at or below the valid data length
abbrev pub BeginsWithin : ℕ → Act → Type 0
BeginsWithin valid (Writes at bytes) = at ≤ valid
BeginsWithin valid (Zeroes from to) = from ≤ valid
BeginsWithin valid (Stores page bytes) = 4096 * page ≤ valid
BeginsWithin valid (Opens file given quota temporary) = Unit {0}
BeginsWithin valid (Closes file truncate) = Unit {0}
BeginsWithin valid (Resizes allocation size) = Unit {0}
BeginsWithin valid (Stamps hold lsn) = Unit {0}
BeginsWithin valid (Discards span) = Unit {0}
BeginsWithin valid Looks = Unit {0}

-- an initialise that makes the map again brings no valid data that the stream did not have
abbrev pub ComesBackWithin : List Effect → Act → Type 0
ComesBackWithin h (Opens file given quota temporary) = is_mapped h ≡ false → had_map h ≡ true → given.valid ≤ valid_of h
ComesBackWithin h (Closes file truncate) = Unit {0}
ComesBackWithin h (Resizes allocation size) = Unit {0}
ComesBackWithin h (Writes at bytes) = Unit {0}
ComesBackWithin h (Zeroes from to) = Unit {0}
ComesBackWithin h (Stores page bytes) = Unit {0}
ComesBackWithin h (Stamps hold lsn) = Unit {0}
ComesBackWithin h (Discards span) = Unit {0}
ComesBackWithin h Looks = Unit {0}

-- a discard comes while no transfer is under way, and the disk is known to hold each dirty page of its span
pub record IsSettled (h : List Effect) (span : Option Range) : Type 0 where
  pub no_transfer : open_of h ≡ None
  pub known : (p : ℕ) → span_has span p ≡ true → is_dirty h p ≡ true → is_known h p ≡ true

abbrev pub DiscardsSettled : List Effect → Act → Type 0
DiscardsSettled h (Discards span) = IsSettled h span
DiscardsSettled h other = Unit {0}

-- whether an act may stand before the first map
abbrev pub needs_no_map : Act → Bool
needs_no_map (Opens file given quota temporary) = true
needs_no_map (Closes file truncate) = false
needs_no_map (Resizes allocation size) = false
needs_no_map (Writes at bytes) = false
needs_no_map (Zeroes from to) = false
needs_no_map (Stores page bytes) = false
needs_no_map (Stamps hold lsn) = false
needs_no_map (Discards span) = false
needs_no_map Looks = true

-- what a done call keeps to, given the stream before it
pub record IsSteadyCall (h : List Effect) (call : Call) : Type 0 where
  pub within : BeginsWithin (valid_of h) (act_of call)
  pub back : ComesBackWithin h (act_of call)
  pub settled : DiscardsSettled h (act_of call)
  pub first : objects h ≡ [] → holds_of h ≡ [] → needs_no_map (act_of call) ≡ true
  pub unheld : objects h ≡ [] → holds_of h ≡ [] → (pass id : ℕ) → held_after pass call id [] ≡ []

-- what an effect keeps to: a transfer is of a dirty page, and ends where it began
abbrev pub IsSteadyEffect : Effect → List Effect → Type 0
IsSteadyEffect (Did pass call reply) h = IsSteadyCall h call
IsSteadyEffect (CameIn pass page from_disk) h = Unit {0}
IsSteadyEffect (WentOut pass page) h = Unit {0}
IsSteadyEffect (Began pass page) h = is_dirty h page ≡ true
IsSteadyEffect (Ended pass page how) h = open_of h ≡ Some (record { pass = pass; page = page })
IsSteadyEffect (Synced pass how) h = Unit {0}

abbrev pub IsSteady : List Effect → Type 0
IsSteady [] = Unit {0}
IsSteady (e ∷ h) = IsSteadyEffect e h × IsSteady h

-- the same of what an entry means to a stream, where it means something
abbrev pub IsSteadyOption : Option Effect → List Effect → Type 0
IsSteadyOption None h = Unit {0}
IsSteadyOption (Some e) h = IsSteadyEffect e h

pub IsSteady-onto : (o : Option Effect) (h : List Effect) → IsSteadyOption o h → IsSteady h → IsSteady (cons_option o h)
IsSteady-onto None h this before = before
IsSteady-onto (Some e) h this before = (this, before)

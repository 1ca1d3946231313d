-- What the entries of one pass change from one moment to another.
use Rattle.std.specs.Prelude.{◌≡◌, ℕ, Bool, true, false, List, ◌∷◌, ◌++◌, ◌⊎◌}
use Rattle.std.specs.List.{AllByRecursion}
use Rattle.std.specs.declared.option.Option.TheVariants.{None}
use Rattle.cc_entry.specs.declared.call.Call.{Call}
use Rattle.cc_entry.specs.declared.call.Call.TheVariants as call
use Rattle.cc_entry.specs.declared.entry.Entry.{Entry}
use Rattle.cc_model.specs.Passes.{is_mine}
use Rattle.cc_model.specs.Faults.{fault_of}
use Rattle.cc_effects.specs.Moments.{Between, EachOwn}
use Rattle.cc_effects.specs.Asked.{brings_in}
use Rattle.cc_refused_laws.specs.Same.{ChangesNoFile, ChangesNothing}

-- an entry changes no file behind its front, or nothing at all
abbrev pub KeepsFiles : List Entry → Entry → Type 0
KeepsFiles past e = ChangesNoFile past (e ∷ past)

abbrev pub KeepsAll : List Entry → Entry → Type 0
KeepsAll past e = ChangesNothing past (e ∷ past)

-- From one moment to another, each entry of the pass is so over its front.
pub record EachIs (me : ℕ) (Is : List Entry → Entry → Type 0) (old new : List Entry) : Type 0 where
  pub during : List Entry
  pub grew : new ≡ during ++ old
  pub each : EachOwn me Is during old

-- The pass changed no file; nothing at all; no file but by entries of which some is said.
abbrev pub ChangedNoFile : ℕ → Between
ChangedNoFile me old new = EachIs me KeepsFiles old new

abbrev pub ChangedNothing : ℕ → Between
ChangedNothing me old new = EachIs me KeepsAll old new

abbrev pub ChangedNoFileBut : ℕ → (Entry → Type 0) → Between
ChangedNoFileBut me Excepted old new = EachIs me (λ past e. KeepsFiles past e ⊎ Excepted e) old new

-- From one moment to another, each entry that is not the pass's is so over its front.
abbrev pub OthersAre : ℕ → (List Entry → Entry → Type 0) → Between
OthersAre me Is old new =
    (later during : List Entry) (e : Entry) → new ≡ later ++ e ∷ (during ++ old) → is_mine me e ≡ false → Is (during ++ old) e

-- Whether a call may bring a page in, read one, write one, take one out or sync the disk: one that may not places its own entry
-- alone.
abbrev pub may_step : Call → Bool
may_step (call.Flush file span) = true
may_step (call.Purge file span) = true
may_step (call.NcRead file page) = true
may_step (call.NcStore file page bytes) = true
may_step (call.NcWrite file page) = true
may_step other = brings_in other

-- no entry of a past tells a fault of a pass
abbrev pub TellsNoFault : List Entry → Type 0
TellsNoFault past = AllByRecursion (λ e. (me : ℕ) → fault_of me e ≡ None) past

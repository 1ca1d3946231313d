-- What each entry of a pass in a stretch has to be, where a call explains the stretch.
use Rattle.std.specs.Prelude.{◌≡◌, ℕ, Bool, true, false, List, ◌⊎◌}
use Rattle.std.specs.declared.option.Option.{Option}
use Rattle.std.specs.declared.option.Option.TheVariants.{Some, None}
use Rattle.std.specs.List.{list_any}
use Rattle.cc_entry.specs.declared.call.Call.{Call}
use Rattle.cc_entry.specs.declared.error.CcError.{CcError}
use Rattle.cc_entry.specs.declared.reply.Outcome.{Outcome}
use Rattle.cc_entry.specs.declared.entry.Entry.{Entry}
use Rattle.cc_entry.specs.declared.entry.Entry.TheVariants as entry
use Rattle.cc_model.specs.Faults.{Fault, fault_of}
use Rattle.cc_effects.specs.Moments.{own}
use Rattle.cc_effects.specs.Asked.{Calls}
use Rattle.cc_effects.specs.Places.{MayPlace}
use Rattle.cc_effects.specs.Stops.{tells}

-- an entry is that of the call with this outcome
abbrev pub IsEntryOf : Call → Outcome → Entry → Type 0
IsEntryOf it answered (entry.Call pass nth stream other ended) = (other ≡ it) × (ended ≡ answered)
IsEntryOf it answered other = ⊥

-- an entry is the call's own one, or one that the call may place before it
abbrev pub IsLicensed : ℕ → Call → Outcome → List Entry → List Entry → Entry → Type 0
IsLicensed me it answered old past e = IsEntryOf it answered e ⊎ MayPlace me (Calls it) old past e

abbrev pub is_call_entry : Entry → Bool
is_call_entry (entry.Call pass nth stream call ended) = true
is_call_entry other = false

-- whether a fault, where there is one, is told by a refusal of the call
abbrev pub is_fault_told : Call → CcError → Option Fault → Bool
is_fault_told it e None = false
is_fault_told it e (Some fault) = tells it e fault

-- whether an entry of the pass shows the fault that a refusal of the call tells
abbrev pub shows_told_fault : ℕ → Call → CcError → List Entry → Bool
shows_told_fault me it e during = list_any (λ stop. is_fault_told it e (fault_of me stop)) (own me during)

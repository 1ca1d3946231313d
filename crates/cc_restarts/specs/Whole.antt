-- What follows of all restarts of a script.
use Rattle.std.specs.Prelude.{◌≡◌, ℕ, ◌≤◌, false, true, Bool, List, length, slice_get, Result, Ok, Err}
use Rattle.std.specs.declared.option.Option.{Option}
use Rattle.std.specs.declared.option.Option.TheVariants.{Some}
use Rattle.std.specs.List.{list_all, list_any}
use Rattle.cc_entry.specs.declared.error.CcError.{CcError}
use Rattle.cc_model.specs.Allowed.{is_fault}
use Rattle.cc_traits.specs.Log.{Log}
use Rattle.cc_script.specs.declared.script.RestartLine.{RestartLine}
use Rattle.cc_restarts.specs.declared.ended.LogRestart.{LogRestart}
use Rattle.cc_restarts.specs.declared.ended.Numbers.{Numbers}

-- there are as many, and no count of faults fell
pub record HaveNotFallen {D : Type 0} (faults : D → ℕ) (old new : List D) : Type 0 where
  pub count : length new ≡ length old
  pub each : (s : ℕ) (was now : D) → slice_get old s ≡ Some was → slice_get new s ≡ Some now → faults was ≤ faults now

-- no count rose
abbrev pub HaveNotRisen : {D : Type 0} → (D → ℕ) → List D → List D → Type 0
HaveNotRisen {D} faults old new =
    (s : ℕ) (was now : D) → slice_get old s ≡ Some was → slice_get new s ≡ Some now → faults now ≤ faults was

-- each log tells what it told
abbrev pub LogsTell : {L : Type 0} → (L → Option Log) → List L → List L → Type 0
LogsTell {L} told old new =
    (handle : ℕ) (was now : L) → slice_get old handle ≡ Some was → slice_get new handle ≡ Some now → told now ≡ told was

-- whether a restart ended by a fault of a disk or of its log
abbrev pub has_failed : Result Numbers CcError → Bool
has_failed (Ok numbers) = false
has_failed (Err e) = is_fault e

-- The refusals of restarts.
use Rattle.std.specs.Prelude.{◌≡◌, ℕ, ◌+◌, List, [], ◌∷◌, slice_set, Result, Ok, Err, refl, ◌⊎◌}
use Rattle.std.specs.declared.option.Option.{Option}
use Rattle.std.specs.List.{AllByRecursion}
use Rattle.std.proofs.Common.{sym, subst, inl, inr}
use Rattle.cc_entry.specs.declared.error.CcError.{CcError}
use Rattle.cc_entry.specs.declared.error.CcError.TheVariants as error
use Rattle.cc_traits.specs.Disk.{Disk}
use Rattle.cc_traits.specs.Log.{Log}
use Rattle.cc_script.specs.declared.script.RestartLine.{RestartLine}
use Rattle.cc_script.specs.declared.script.StreamLine.{StreamLine}
use Rattle.cc_redo.specs.declared.redo.Redo.{Redo}
use Rattle.cc_redo.specs.declared.streams.Restarted.{Restarted}
use Rattle.cc_redo.specs.Ends.{IsRestartRefusal}
use Rattle.cc_restarts.specs.Restarting.{IsOwnRefusal, LogRestarted, LogsRestarted, ReadingLeft, numbers_of, with_handle}
use Rattle.cc_restarts.specs.declared.ended.LogRestart.{LogRestart}
use Rattle.cc_restarts.specs.declared.ended.Numbers.{Numbers}

reading-own : {D : Type 0} (told : D → Option Disk) (faults : D → ℕ) (handle : ℕ) (streams : List StreamLine) (old new : List D) (why : CcError) → ReadingLeft told faults handle streams old new why → IsOwnRefusal (Err why)
reading-own told faults handle streams old new (error.ReadFault page) left = tt
reading-own told faults handle streams old new error.NoMemory left = tt
reading-own told faults handle streams old new other left = absurd left

refused-own : {D : Type 0} (told : D → Option Disk) (faults : D → ℕ) (given : List Redo) (log : Option Log) (handle : ℕ) (old new : List D) (e : CcError) → IsRestartRefusal told faults given log old new e → IsOwnRefusal (Err (with_handle handle e))
refused-own told faults given log handle old new (error.TooLong limit) refused = tt
refused-own told faults given log handle old new (error.LogFault h) refused = tt
refused-own told faults given log handle old new (error.ReadFault page) refused = tt
refused-own told faults given log handle old new (error.WriteFault page) refused = tt
refused-own told faults given log handle old new error.NoMemory refused = tt
refused-own told faults given log handle old new other refused = absurd refused

answered-own : {D : Type 0} (told : D → Option Disk) (faults : D → ℕ) (given : List Redo) (log : Option Log) (handle : ℕ) (old new : List D) (answered : Result Restarted CcError) →
    ((e : CcError) → answered ≡ Err e → IsRestartRefusal told faults given log old new e) → IsOwnRefusal (numbers_of handle answered)
answered-own told faults given log handle old new (Ok done) refused = tt
answered-own told faults given log handle old new (Err e) refused = refused-own told faults given log handle old new e (refused e refl)

module _ {D L : Type 0} (told : D → Option Disk) (faults : D → ℕ) (log_told : L → Option Log) (log_count : L → ℕ) where
  one-own : (handle : ℕ) (streams : List StreamLine) (ended : Result Numbers CcError) (old new : List D) (was now : L) →
      LogRestarted told faults log_told log_count handle streams ended old new was now → IsOwnRefusal ended
  one-own handle streams ended old new was now (inl unread) = subst IsOwnRefusal (sym unread.ended_is) (reading-own told faults handle streams old new unread.why unread.left)
  one-own handle streams ended old new was now (inr restarted) =
      subst IsOwnRefusal (sym restarted.ended_is) (answered-own told faults restarted.given (log_told was) handle restarted.between new restarted.answered restarted.refused)

  pub all-own : (streams : List StreamLine) (restarts : List RestartLine) (ended : List LogRestart) (old new : List D) (logs logs_after : List L) →
      LogsRestarted told faults log_told log_count streams restarts ended old new logs logs_after → AllByRecursion (λ restart. IsOwnRefusal restart.ended) ended
  all-own streams [] [] old new logs logs_after restarted = tt
  all-own streams [] (one ∷ ended) old new logs logs_after restarted = absurd restarted
  all-own streams (restart ∷ restarts) [] old new logs logs_after restarted = absurd restarted
  all-own streams (restart ∷ restarts) (one ∷ ended) old new logs logs_after restarted = (
    one-own restart.handle streams one.ended old restarted.0 restarted.1 restarted.2 restarted.6,
    all-own streams restarts ended restarted.0 new (slice_set logs restart.handle restarted.2) logs_after restarted.7,
  )

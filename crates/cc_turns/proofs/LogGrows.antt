-- A log goes on standing while others go on without its turn.
use Rattle.std.specs.Prelude.{◌≡◌, ℕ, true, false, List, [], ◌∷◌, ◌++◌, Option, refl}
use Rattle.std.proofs.Common.{sym, ◌∙◌}
use Rattle.cc_entry.specs.declared.entry.Entry.{Entry}
use Rattle.cc_entry.specs.declared.entry.Entry.TheVariants as entry
use Rattle.cc_traits.specs.Log.{Log}
use Rattle.cc_model.specs.Turns.{Log as log_turn, needs, is_quiet}
use Rattle.cc_laws.proofs.LogSteps.{flushed_to-quiet, floor_of-quiet}
use Rattle.cc_laws.proofs.QuietSteps.{eqb-swapped, is_quiet-first, is_quiet-rest}
use Rattle.cc_log.specs.Turn.{LogTurnState, appended}
use Rattle.cc_turns.specs.Standing.{LogAtFirst}
use Rattle.cc_turns.specs.Log.{LogStands, log_failures, is_failure_of_log}

-- an entry that does not need the log shows no failure of it
is_log_failure-unneeded : (e : Entry) (log : ℕ) → needs e (log_turn log) ≡ false → is_failure_of_log log e ≡ false
is_log_failure-unneeded (entry.LogFailed pass handle) log unneeded = eqb-swapped log handle unneeded
is_log_failure-unneeded other log unneeded = refl

-- entries that do not need the log show no failure of it
pub log_failures-quiet : (later past : List Entry) (log : ℕ) → is_quiet (log_turn log) later ≡ true → log_failures log (later ++ past) ≡ log_failures log past
unfolding log_failures
log_failures-quiet [] past log quiet = refl
log_failures-quiet (e ∷ later) past log quiet =
    rw (is_log_failure-unneeded e log (is_quiet-first (log_turn log) e later quiet))
    (log_failures-quiet later past log (is_quiet-rest (log_turn log) e later quiet))

-- an entry that does not need the log appends nothing to it
appended-unneeded : (e : Entry) (past : List Entry) (log : ℕ) → needs e (log_turn log) ≡ false → appended (e ∷ past) log ≡ appended past log
unfolding appended
appended-unneeded (entry.Append pass handle lsn bytes) past log unneeded = rw (eqb-swapped log handle unneeded) refl
appended-unneeded other past log unneeded = refl

-- nor do several
pub appended-quiet : (later past : List Entry) (log : ℕ) → is_quiet (log_turn log) later ≡ true → appended (later ++ past) log ≡ appended past log
appended-quiet [] past log quiet = refl
appended-quiet (e ∷ later) past log quiet =
    appended-unneeded e (later ++ past) log (is_quiet-first (log_turn log) e later quiet)
    ∙ appended-quiet later past log (is_quiet-rest (log_turn log) e later quiet)

-- entries that do not need the log's turn leave what it stands for
pub log_grows : {L : Type 0} (told : L → Option Log) (faults : L → ℕ) (first : LogAtFirst) (later past : List Entry) (log : LogTurnState L) → is_quiet (log_turn log.handle) later ≡ true → LogStands told faults first past log → LogStands told faults first (later ++ past) log
log_grows told faults first later past log quiet stands = record {
  stands = record {
    floor_is = stands.stands.floor_is ∙ sym (floor_of-quiet later past log.handle quiet);
    flushed_is = stands.stands.flushed_is ∙ sym (flushed_to-quiet later past log.handle quiet);
    file_is = rw (appended-quiet later past log.handle quiet) stands.stands.file_is;
  };
  counted = rw (log_failures-quiet later past log.handle quiet) stands.counted;
}

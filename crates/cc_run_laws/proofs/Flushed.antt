-- Each record that was flushed is kept by every stop behind it, and each that is kept is redone.
use Rattle.std.specs.Prelude.{◌≡◌, ℕ, zero, suc, ◌+◌, ◌^◌, ◌≤◌, List, [], ◌∷◌, ◌++◌, Contains, length, refl}
use Rattle.std.specs.List.{AllByRecursion, cons_option, filter_map}
use Rattle.std.specs.declared.option.Option.{Option}
use Rattle.std.specs.declared.option.Option.TheVariants.{Some, None}
use Rattle.std.proofs.Common.{ap, sym, subst, ◌∙◌, arith, inl, inr}
use Rattle.std.proofs.lemmas.List.Elements.{Contains-append_left, Contains-append_right}
use Rattle.cc_entry.specs.declared.entry.Entry.{Entry}
use Rattle.cc_entry.specs.declared.entry.Entry.TheVariants as entry
use Rattle.cc_format.specs.declared.record.StreamRecord.{StreamRecord}
use Rattle.cc_log.specs.Turn.{HoldsLogEntries, appended}
use Rattle.cc_model.specs.Logs.{flushed_to}
use Rattle.cc_redo.specs.Heard.{Change, change_said, last_lsn_of, readings}
use Rattle.cc_redo.specs.Reading.{said_by}
use Rattle.cc_redo.specs.declared.record.LogRecord.{LogRecord}
use Rattle.cc_redo.specs.declared.record.LogRecord.TheVariants.{Update}
use Rattle.cc_redo.specs.declared.redo.Redo.{Redo}
use Rattle.cc_restart_laws.proofs.Kept.{kept-durable}
use Rattle.cc_restart_laws.proofs.Logs.{among-all, is-listed, update-said}
use Rattle.cc_restart_laws.proofs.Records.{appended-more}
use Rattle.cc_restart_laws.proofs.Redoing.{IsAmong}
use Rattle.cc_restart_laws.specs.Stops.{updates_in}
use Rattle.cc_restarts.specs.Given.{size_said, valid_said}
use Rattle.cc_script.specs.declared.script.StreamLine.{StreamLine}
use Rattle.cc_stop_laws.specs.Redoable.{IsHandedIn}
use Rattle.cc_stop_laws.specs.Runs.{IsRedoneFrom, as_read}
use Rattle.cc_traits.specs.Disk.{Disk, page_of}
use Rattle.cc_traits.specs.Log.{Log, LogEntry}
use Rattle.cc_update_laws.proofs.Devices.{begun-durable, last-least, log-front}
use Rattle.cc_update_laws.specs.Devices.{GoesOnFrom}
use Rattle.cc_update_laws.specs.Logs.{EachEndsWithin, EndsWithin, IsLogOf}
use Rattle.cc_program.specs.Calls.{ProgramCall}
use Rattle.cc_run_laws.proofs.Asked.{log-below, within-run}
use Rattle.cc_run_laws.proofs.Calls.{tells-once, went-on}
use Rattle.cc_run_laws.proofs.Chains.{all-left, its-file}
use Rattle.cc_run_laws.proofs.Left.{log-gone}
use Rattle.cc_run_laws.specs.Calls.{HasRestarted, LogEntryIsFlushed}
use Rattle.cc_run_laws.specs.Chains.{HaveLeft, IsFirst, IsRunOf, RunsOn, StopsBefore}

-- ---- of lists

among-contains : {A : Type 0} (xs : List A) (x : A) → IsAmong xs x → Contains xs x
among-contains [] x among = absurd among
among-contains (y ∷ ys) x (inl same) = (0, omega arith, sym same)
among-contains (y ∷ ys) x (inr among) = let rest = among-contains ys x among in let below = rest.1 in (suc rest.0, omega (arith, below), rest.2)

contains-among : {A : Type 0} (xs : List A) (x : A) → Contains xs x → IsAmong xs x
contains-among [] x (k, below, is) = absurd (omega (arith, below))
contains-among (y ∷ ys) x (zero, below, is) = inl (sym is)
contains-among (y ∷ ys) x (suc k, below, is) = inr (contains-among ys x (k, omega (arith, below), is))

-- what an item gives is among what all give
among-mapped : {A B : Type 0} (f : A → Option B) (xs : List A) (x : A) (y : B) → IsAmong xs x → f x ≡ Some y → IsAmong (filter_map f xs) y
among-mapped f [] x y among gives = absurd among
among-mapped {A} {B} f (z ∷ zs) x y (inl same) gives = here (f z) (ap f (sym same) ∙ gives)
  where
    here : (o : Option B) → o ≡ Some y → IsAmong (cons_option o (filter_map f zs)) y
    here None is = absurd (cc is)
    here (Some w) is = inl (cc is)
among-mapped {A} {B} f (z ∷ zs) x y (inr among) gives = there (f z) (among-mapped f zs x y among gives)
  where
    there : (o : Option B) → IsAmong (filter_map f zs) y → IsAmong (cons_option o (filter_map f zs)) y
    there None among = among
    there (Some w) among = inr among

-- ---- each kept update is redone

pub change-applied : (s size : ℕ) (kept : List LogEntry) (redo : Redo) → EachEndsWithin s size kept → redo.stream ≡ s → redo.size ≡ size → (it : LogEntry) → Contains kept it → (at : ℕ) (bytes : List ℕ) → said_by it.bytes ≡ Some (Update s at bytes) →
    Contains (updates_in redo kept) (record { at = at; bytes = bytes })
change-applied s size kept redo within stream_is size_is it contains at bytes said =
    among-contains (updates_in redo kept) (record { at = at; bytes = bytes })
    (among-mapped (λ (entry : LogEntry). change_said redo (said_by entry.bytes)) kept it (record { at = at; bytes = bytes }) (contains-among kept it contains)
    (ap (change_said redo) (said ∙ ap (λ (n : ℕ). Some (Update n at bytes)) (sym stream_is)) ∙ update-said redo at bytes ends))
  where
    its : EndsWithin s size (Some (Update s at bytes))
    its = subst (EndsWithin s size) said (among-all (λ (entry : LogEntry). EndsWithin s size (said_by entry.bytes)) kept it within (contains-among kept it contains))

    ends : at + length bytes ≤ redo.size
    ends = let fits = its refl in omega (arith, fits, size_is)

-- ---- what is kept

-- the log has the entry, and it is durable
pub record HasDurable (it : LogEntry) (log : Log) : Type 0 where
  pub contains : Contains log.entries it
  pub durable : it.lsn ≤ log.durable

run-durable : (past : List Entry) (log : ℕ) (begun after : Log) → HoldsLogEntries (appended past log) (flushed_to past log) begun after → (it : LogEntry) → LogEntryIsFlushed log it past → HasDurable it after
run-durable past log begun after holds it is = record {
  contains =
      subst (λ (l : List LogEntry). Contains l it) (sym holds.entries_are)
      (Contains-append_right begun.entries (appended past log) it
      (among-contains (appended past log) it
      (subst (λ (l : List Entry). IsAmong (appended l log) it) (sym is.splits)
      (is-listed log it.lsn it.bytes (is.later ++ entry.Append is.pass log it.lsn it.bytes ∷ is.front)
      (appended-more log it.lsn it.bytes is.later (entry.Append is.pass log it.lsn it.bytes ∷ is.front) (inl (is.pass, refl)))))));
  durable = let reached = is.reached in let flushed = holds.durable in omega (arith, reached, flushed);
}

module _ {D L : Type 0} (told : D → Option Disk) (faults : D → ℕ) (log_told : L → Option Log) (log_faults : L → ℕ) (s log : ℕ) (stream : StreamLine) where
  -- each durable one is handed in
  pub handed-durable : (was : Disk) (had : Log) (disks : List D) (logs : List L) (handed : Disk) (kept : Log) → IsHandedIn told log_told disks logs s log was had handed kept → (it : LogEntry) → Contains had.entries it → it.lsn ≤ had.durable →
      Contains kept.entries it
  handed-durable was had disks logs handed kept is it contains durable = kept-durable had.durable had.entries kept.entries is.keeps it contains durable

  module _ (read : Option StreamRecord) (opening : Disk) where
    abbrev Left : List (ProgramCall D L) → Disk → Log → Type 0
    Left calls left after = HaveLeft told faults log_told log_faults s log stream read opening calls left after

    redone : (calls : List (ProgramCall D L)) (left : Disk) (after : Log) → Left calls left after → IsRedoneFrom s stream (size_said stream read) (page_of opening) (valid_said stream read) left after
    redone = all-left told faults log_told log_faults s log stream read opening

    -- of a first run
    first-durable : (call : ProgramCall D L) (left : Disk) (after : Log) → IsFirst told faults log_told log_faults s log stream read opening call left after → (it : LogEntry) → LogEntryIsFlushed log it call.past → HasDurable it after
    first-durable call left after is it flushed =
        run-durable call.past log is.begun after
        (log-gone log_told log_faults call.past call.logs_begun call.logs_left is.clauses.logs log
        (log-below is.script (within-run told faults log_told log_faults call is.clauses is.script is.ran) s log stream is.named is.logged) is.begun after is.run.log_begun is.run.log_left)
        it flushed

    -- of a run behind a restart
    module _ (calls : List (ProgramCall D L)) (was : Disk) (had : Log) (have : Left calls was had) (call : ProgramCall D L) (left : Disk) (after : Log) where
      module _ (runs : RunsOn told faults log_told log_faults s log stream was had call left after) where
        holds : HoldsLogEntries (appended call.past log) (flushed_to call.past log) runs.begun after
        holds =
            log-gone log_told log_faults call.past call.logs_begun call.logs_left runs.restarted.clauses.logs log
            (log-below runs.restarted.script (within-run told faults log_told log_faults call runs.restarted.clauses runs.restarted.script runs.restarted.ran) s log runs.restarted.line runs.restarted.lines.named runs.restarted.lines.logged) runs.begun after
            runs.run.log_begun runs.run.log_left

        file : IsLogOf s (size_said stream read) runs.restarted.kept.entries
        file = (its-file told faults log_told log_faults s log (size_said stream read) (valid_said stream read) stream (page_of opening) was had (redone calls was had have) call runs.restarted).4

        kept-is : runs.restarted.kept ≡ runs.begun
        kept-is =
            tells-once log_told call.logs_begun log runs.restarted.kept runs.begun
            (its-file told faults log_told log_faults s log (size_said stream read) (valid_said stream read) stream (page_of opening) was had (redone calls was had have) call runs.restarted).2 runs.run.log_begun

        -- what was durable as it began is so as it ends
        on-durable : (it : LogEntry) → HasDurable it had → HasDurable it after
        on-durable it has = record {
          contains = subst (λ (l : List LogEntry). Contains l it) (sym holds.entries_are) (Contains-append_left runs.begun.entries (appended call.past log) it begun);
          durable = among-all (λ (e : LogEntry). e.lsn ≤ after.durable) runs.begun.entries it durables (contains-among runs.begun.entries it begun);
        }
          where
            begun : Contains runs.begun.entries it
            begun = subst (λ (l : Log). Contains l.entries it) kept-is (handed-durable was had call.disks call.logs runs.restarted.handed runs.restarted.kept runs.restarted.handed_in it has.contains has.durable)

            durables : AllByRecursion (λ (e : LogEntry). e.lsn ≤ after.durable) runs.begun.entries
            durables =
                begun-durable call.past log runs.begun after
                (subst (λ (l : Log). GoesOnFrom log (last_lsn_of (readings l.entries)) call.past) kept-is (went-on told faults log_told log_faults s log stream was had call runs.restarted))
                (subst (λ (l : Log). AllByRecursion (λ (e : LogEntry). e.lsn ≤ 2 ^ 62) l.entries) kept-is file.in_range) holds

      -- behind a call that was stopped before its run the next one reads the same entries
      stops-durable : (opening_disk : Disk) → StopsBefore told faults log_told log_faults s log stream was had call opening_disk after → (it : LogEntry) → HasDurable it had → HasDurable it after
      stops-durable opening_disk stops it has = subst (HasDurable it) (sym stops.after_is) (record { contains = kept; durable = least })
        where
          kept : Contains stops.kept.entries it
          kept = handed-durable was had call.disks call.logs stops.handed stops.kept stops.handed_in it has.contains has.durable

          is-log : IsLogOf s (size_said stream read) stops.kept.entries
          is-log = log-front s (size_said stream read) had.durable had.entries stops.kept.entries (redone calls was had have).entries stops.handed_in.keeps

          least : it.lsn ≤ last_lsn_of (readings stops.kept.entries)
          least =
              let among = contains-among stops.kept.entries it kept in
              last-least 0 stops.kept.entries it among (among-all (λ (e : LogEntry). e.lsn ≤ 2 ^ 62) stops.kept.entries it is-log.in_range among)

    pub stays-durable : (calls : List (ProgramCall D L)) (left : Disk) (after : Log) (have : Left calls left after) (run : ProgramCall D L) → IsRunOf told faults log_told log_faults s log stream read opening calls left after have run → (it : LogEntry) →
        LogEntryIsFlushed log it run.past → HasDurable it after
    stays-durable [] left after have run among it flushed = absurd among
    stays-durable (call ∷ []) left after have run among it flushed = first-durable call left after have it (subst (λ (c : ProgramCall D L). LogEntryIsFlushed log it c.past) among flushed)
    stays-durable (call ∷ one ∷ earlier) left after (was, had, have, inl runs) run (inl same) it flushed =
        run-durable call.past log runs.begun after (holds (one ∷ earlier) was had have call left after runs) it (subst (λ (c : ProgramCall D L). LogEntryIsFlushed log it c.past) same flushed)
    stays-durable (call ∷ one ∷ earlier) left after (was, had, have, inl runs) run (inr among) it flushed =
        on-durable (one ∷ earlier) was had have call left after runs it (stays-durable (one ∷ earlier) was had have run among it flushed)
    stays-durable (call ∷ one ∷ earlier) left after (was, had, have, inr (inl stops)) run among it flushed =
        stops-durable (one ∷ earlier) was had have call left after left stops it (stays-durable (one ∷ earlier) was had have run among it flushed)
    stays-durable (call ∷ one ∷ earlier) left after (was, had, have, inr (inr runs)) run among it flushed =
        stops-durable (one ∷ earlier) was had have call left after runs.opening runs.stops it (stays-durable (one ∷ earlier) was had have run among it flushed)

    -- so the next restart reads it
    pub flushed-kept : (calls : List (ProgramCall D L)) (was : Disk) (had : Log) (have : Left calls was had) (call : ProgramCall D L) (restarted : HasRestarted told faults log_told log_faults s log stream was had call) (run : ProgramCall D L) →
        IsRunOf told faults log_told log_faults s log stream read opening calls was had have run → (it : LogEntry) → LogEntryIsFlushed log it run.past → Contains restarted.kept.entries it
    flushed-kept calls was had have call restarted run among it flushed =
        let has = stays-durable calls was had have run among it flushed in
        handed-durable was had call.disks call.logs restarted.handed restarted.kept restarted.handed_in it has.contains has.durable

    pub kept-applied : (calls : List (ProgramCall D L)) (was : Disk) (had : Log) → Left calls was had → (call : ProgramCall D L) (restarted : HasRestarted told faults log_told log_faults s log stream was had call) (redo : Redo) →
        redo.stream ≡ s → redo.size ≡ size_said stream read → (it : LogEntry) → Contains restarted.kept.entries it → (at : ℕ) (bytes : List ℕ) → said_by it.bytes ≡ Some (Update s at bytes) →
        Contains (updates_in redo restarted.kept.entries) (record { at = at; bytes = bytes })
    kept-applied calls was had have call restarted redo stream_is size_is it contains at bytes said =
        let is-log = log-front s (size_said stream read) had.durable had.entries restarted.kept.entries (redone calls was had have).entries restarted.handed_in.keeps in
        change-applied s (size_said stream read) restarted.kept.entries redo is-log.within stream_is size_is it contains at bytes said

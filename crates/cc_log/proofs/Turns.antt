-- What a log stands for after an append, a flush and a failure.
use Rattle.std.proofs.Common.{◌≡◌, ℕ, ◌+◌, ◌==◌, true, List, [], ◌∷◌, ◌++◌, max, append-nil, append_assoc, refl, sym, ◌∙◌, ap, arith, subst, Option, Some, None, Err}
use Rattle.cc_entry.specs.declared.error.CcError.{CcError}
use Rattle.std.specs.List.{cons_option}
use Rattle.cc_entry.specs.declared.entry.Entry.{Entry}
use Rattle.cc_entry.specs.declared.entry.Entry.TheVariants as entry
use Rattle.cc_traits.specs.Log.{Log, LogEntry, Appended, LogKept, Flushed}
use Rattle.cc_traits.specs.Told.{Both}
use Rattle.cc_model.specs.Logs.{flushed_to, floor_of}
use Rattle.cc_traits.specs.Stop.{OnFailed, OnNoMemory}
use Rattle.cc_traits.specs.declared.stop.Stop.{Stop}
use Rattle.cc_traits.specs.declared.stop.Stop.TheVariants as stop
use Rattle.cc_log.specs.Turn.{LogTurnState, appended, HoldsLogEntries, Stands, entry_left_by, refusal_of}

-- a file that nothing was done to
opened-holds : (handle : ℕ) (file : Option Log) → Both file file (HoldsLogEntries (appended [] handle) 0)
unfolding appended
opened-holds handle None = tt
opened-holds handle (Some log) = record { entries_are = sym (append-nil log.entries); durable = omega arith }

same-handle : (h : ℕ) → (h == h) ≡ true
same-handle h = grind arith

pub Stands-opened : {L : Type 0} (told : L → Option Log) (handle : ℕ) (file : L) → Stands told (told file) [] (record { handle = handle; floor = 0; flushed = 0; file = file })
unfolding floor_of flushed_to
Stands-opened told handle file = record { floor_is = refl; flushed_is = refl; file_is = opened-holds handle (told file) }

-- a file that took one entry more
took-entry : (past : List Entry) (pass handle lsn flushed : ℕ) (bytes : List ℕ) (begun old new : Option Log) → Both begun old (HoldsLogEntries (appended past handle) flushed) → Both old new (Appended lsn bytes) → Both begun new (HoldsLogEntries (appended (entry.Append pass handle lsn bytes ∷ past) handle) flushed)
unfolding appended
took-entry past pass handle lsn flushed bytes None None None first second = tt
took-entry past pass handle lsn flushed bytes None None (Some c) first second = absurd second
took-entry past pass handle lsn flushed bytes None (Some b) c first second = absurd first
took-entry past pass handle lsn flushed bytes (Some a) None c first second = absurd first
took-entry past pass handle lsn flushed bytes (Some a) (Some b) None first second = absurd second
took-entry past pass handle lsn flushed bytes (Some a) (Some b) (Some c) first second =
    rw (same-handle handle) (record {
      entries_are = second.entries ∙ (ap (λ l. l ++ record { lsn = lsn; bytes = bytes } ∷ []) first.entries_are ∙ append_assoc a.entries (appended past handle) (record { lsn = lsn; bytes = bytes } ∷ []));
      durable = omega (arith, first.durable, second.durable);
    })

-- a file whose entries stayed
kept-entries : (entries : List LogEntry) (flushed : ℕ) (begun old new : Option Log) → Both begun old (HoldsLogEntries entries flushed) → Both old new LogKept → Both begun new (HoldsLogEntries entries flushed)
kept-entries entries flushed None None None first second = tt
kept-entries entries flushed None None (Some c) first second = absurd second
kept-entries entries flushed None (Some b) c first second = absurd first
kept-entries entries flushed (Some a) None c first second = absurd first
kept-entries entries flushed (Some a) (Some b) None first second = absurd second
kept-entries entries flushed (Some a) (Some b) (Some c) first second =
    record { entries_are = second.entries ∙ first.entries_are; durable = omega (arith, first.durable, second.durable) }

-- and one that is durable up to an LSN too
flushed-entries : (entries : List LogEntry) (flushed to : ℕ) (begun old new : Option Log) → Both begun old (HoldsLogEntries entries flushed) → Both old new (Flushed to) → Both begun new (HoldsLogEntries entries (max flushed to))
flushed-entries entries flushed to None None None first second = tt
flushed-entries entries flushed to None None (Some c) first second = absurd second
flushed-entries entries flushed to None (Some b) c first second = absurd first
flushed-entries entries flushed to (Some a) None c first second = absurd first
flushed-entries entries flushed to (Some a) (Some b) None first second = absurd second
flushed-entries entries flushed to (Some a) (Some b) (Some c) first second =
    record { entries_are = second.entries ∙ first.entries_are; durable = omega (arith, first.durable, second.durable, second.reached) }

-- after an append, a failure and a flush
pub Stands-appended : {L : Type 0} (told : L → Option Log) (begun : Option Log) (past : List Entry) (pass lsn : ℕ) (bytes : List ℕ) (log : LogTurnState L) (file : L) → Stands told begun past log → lsn ≡ log.floor + 1 → Both (told log.file) (told file) (Appended lsn bytes) → Stands told begun (entry.Append pass log.handle lsn bytes ∷ past) (record log { floor = lsn; file = file })
unfolding floor_of flushed_to
Stands-appended told begun past pass lsn bytes log file stood next took =
    let floor_is : log.floor ≡ floor_of past log.handle = stood.floor_is in
    let flushed_is : log.flushed ≡ flushed_to past log.handle = stood.flushed_is in
    record {
      floor_is = rw (same-handle log.handle) (omega (arith, floor_is, next));
      flushed_is = omega (arith, flushed_is);
      file_is = took-entry past pass log.handle lsn log.flushed bytes begun (told log.file) (told file) stood.file_is took;
    }

pub Stands-failed : {L : Type 0} (told : L → Option Log) (begun : Option Log) (past : List Entry) (pass : ℕ) (log : LogTurnState L) (file : L) → Stands told begun past log → Both (told log.file) (told file) LogKept → Stands told begun (entry.LogFailed pass log.handle ∷ past) (record log { file = file })
unfolding floor_of flushed_to appended
Stands-failed told begun past pass log file stood kept =
    let floor_is : log.floor ≡ floor_of past log.handle = stood.floor_is in
    let flushed_is : log.flushed ≡ flushed_to past log.handle = stood.flushed_is in
    record {
      floor_is = omega (arith, floor_is);
      flushed_is = omega (arith, flushed_is);
      file_is = kept-entries (appended past log.handle) log.flushed begun (told log.file) (told file) stood.file_is kept;
    }

pub Stands-flushed : {L : Type 0} (told : L → Option Log) (begun : Option Log) (past : List Entry) (pass to : ℕ) (log : LogTurnState L) (file : L) → Stands told begun past log → Both (told log.file) (told file) (Flushed to) → Stands told begun (entry.Flushed pass log.handle to ∷ past) (record log { floor = max log.floor to; flushed = max log.flushed to; file = file })
unfolding floor_of flushed_to appended
Stands-flushed told begun past pass to log file stood reached =
    let floor_is : log.floor ≡ floor_of past log.handle = stood.floor_is in
    let flushed_is : log.flushed ≡ flushed_to past log.handle = stood.flushed_is in
    record {
      floor_is = rw (same-handle log.handle) (omega (arith, floor_is));
      flushed_is = rw (same-handle log.handle) (omega (arith, flushed_is));
      file_is = flushed-entries (appended past log.handle) log.flushed to begun (told log.file) (told file) stood.file_is reached;
    }

-- what a call leaves whose file stopped: its failure, or nothing
stopped-so : {L T : Type 0} (done : T → Entry) (told : L → Option Log) (begun : Option Log) (past : List Entry) (pass : ℕ) (log : LogTurnState L) (file : L) (its_stop : Stop) → Stands told begun past log → OnFailed {T = Unit {0}} (Err its_stop) (Both (told log.file) (told file) LogKept) → OnNoMemory {T = Unit {0}} (Err its_stop) (told file ≡ told log.file) → Stands told begun (cons_option (entry_left_by done pass log.handle (Err (refusal_of log.handle its_stop))) past) (record log { file = file })
stopped-so done told begun past pass log file stop.Failed stood failed same = Stands-failed told begun past pass log file stood failed
stopped-so done told begun past pass log file stop.NoMemory stood failed same =
    record { floor_is = stood.floor_is; flushed_is = stood.flushed_is; file_is = rw same stood.file_is }

pub Stands-stopped : {L T : Type 0} (done : T → Entry) (told : L → Option Log) (begun : Option Log) (past : List Entry) (pass : ℕ) (log : LogTurnState L) (file : L) (its_stop : Stop) (e : CcError) → e ≡ refusal_of log.handle its_stop → Stands told begun past log → OnFailed {T = Unit {0}} (Err its_stop) (Both (told log.file) (told file) LogKept) → OnNoMemory {T = Unit {0}} (Err its_stop) (told file ≡ told log.file) → Stands told begun (cons_option (entry_left_by done pass log.handle (Err e)) past) (record log { file = file })
Stands-stopped done told begun past pass log file its_stop e is stood failed same =
    subst (λ (error : CcError). Stands told begun (cons_option (entry_left_by done pass log.handle (Err error)) past) (record log { file = file })) (sym is) (stopped-so done told begun past pass log file its_stop stood failed same)

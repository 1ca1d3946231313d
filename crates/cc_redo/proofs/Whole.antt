-- The stages of a restart, put together for all streams.
use Rattle.std.specs.Prelude.{◌≡◌, ℕ, ◌≤◌, List, [], ◌∷◌, length, ◌⊎◌, Result, Ok, Err, IfOk, IfErr, refl}
use Rattle.std.specs.declared.option.Option.{Option}
use Rattle.std.specs.declared.option.Option.TheVariants.{Some, None}
use Rattle.std.proofs.Common.{ap, sym, subst, ◌∙◌, arith, inl, inr}
use Rattle.cc_entry.specs.declared.error.CcError.{CcError}
use Rattle.cc_entry.specs.declared.error.CcError.TheVariants as error
use Rattle.cc_traits.specs.Told.{Both, IfTold}
use Rattle.cc_traits.specs.Disk.{Disk}
use Rattle.cc_traits.specs.Log.{Log}
use Rattle.cc_model.specs.Records.{record_page}
use Rattle.cc_redo.specs.declared.redo.Redo.{Redo}
use Rattle.cc_redo.specs.declared.streams.Restarted.{Restarted}
use Rattle.cc_redo.specs.declared.scan.ReadEntry.{ReadEntry}
use Rattle.cc_redo.specs.Heard.{from_of, readings, redone_of, redone_valid}
use Rattle.cc_redo.specs.Disks.{DataIsMade, IsBetween, DiskIsMade, changed_page}
use Rattle.cc_redo.specs.Ends.{AwaitsSync, EachDisk, IsRestartAnswer, IsAnswerOf, IsFaultBy, IsFaultOf, IsRestartRefusal, LeavesDisk, LeavesBy, OneFailed, log_faults, made_by_log}
use Rattle.cc_redo.specs.Scanned.{DataIsSettled, HoldsMadePages, IsLogRefusal, DiskIsSettled, IsSettling, IsPartlyWritten}
use Rattle.cc_redo.specs.Stages.{IsRecordFault, IsStageRefusal, PagesDone, RedonePagesLeft, RecordDone, RedoneRecordLeft}
use Rattle.cc_redo.proofs.Options.{both-map, both-then, both-with}
use Rattle.cc_redo.proofs.Stopped.{between-begun, between-pages, between-record, made-all}
use Rattle.cc_redo.proofs.Disking.{each-map, each-same, each-then, failed-then}

-- the entries are those of the log, where it tells them
abbrev pub AreOf : Option Log → List ReadEntry → Type 0
AreOf log items = IfTold log (λ told. (items ≡ readings told.entries) × (length told.entries ≤ 4194304))

-- what is said by the entries is said by the log
pub leaves-told : (streams : List Redo) (log : Option Log) (items : List ReadEntry) (answer : Result Restarted CcError) (redo : Redo) (was now : Option Disk) → AreOf log items →
    LeavesBy streams items answer redo was now → LeavesDisk streams log answer redo was now
leaves-told streams None items answer redo was now are left = tt
leaves-told streams (Some log) items answer redo was now are left =
    subst (λ (l : List ReadEntry). LeavesBy streams l answer redo was now) are.0 left

pub answer-told : (streams : List Redo) (log : Option Log) (items : List ReadEntry) (answer : Result Restarted CcError) → AreOf log items →
    IfOk answer (IsAnswerOf streams items) → IfOk answer (λ done. IfTold log (λ told. IsRestartAnswer streams told done))
answer-told streams None items (Ok done) are is = tt
answer-told streams (Some log) items (Ok done) are is = record {
  numbers = subst (λ (l : List ReadEntry). IsAnswerOf streams l done) are.0 is;
  short = are.1;
}
answer-told streams log items (Err e) are is = tt

-- nothing was begun
left-begun : (streams : List Redo) (log : Option Log) (redo : Redo) (e : CcError) (disk : Option Disk) → LeavesDisk streams log (Err e) redo disk disk
left-begun streams None redo e disk = tt
left-begun streams (Some log) redo e None = tt
left-begun streams (Some log) redo e (Some disk) = between-begun _ disk

by-begun : (streams : List Redo) (items : List ReadEntry) (redo : Redo) (e : CcError) (disk : Option Disk) → LeavesBy streams items (Err e) redo disk disk
by-begun streams items redo e None = tt
by-begun streams items redo e (Some disk) = between-begun _ disk

module _ {D : Type 0} (told : D → Option Disk) (faults : D → ℕ) (streams : List Redo) (items : List ReadEntry) where
  -- the pages are all written
  abbrev IsWritten : Redo → Disk → Disk → Type 0
  IsWritten redo old new =
      IsPartlyWritten (changed_page (redone_of redo (from_of streams items) items) old) old new × HoldsMadePages (changed_page (redone_of redo (from_of streams items) items) old) new

  left-pages : (e : CcError) (redo : Redo) (was now : D) → RedonePagesLeft told faults (from_of streams items) items redo was now → LeavesBy streams items (Err e) redo (told was) (told now)
  left-pages e redo was now left =
      both-map
      (λ old new. IsPartlyWritten (changed_page (redone_of redo (from_of streams items) items) old) old new)
      (λ old new. IsBetween (made_by_log streams items redo old) old new)
      (told was) (told now)
      (λ o n writing. between-pages (record_page redo.size (redone_valid items redo)) (changed_page (redone_of redo (from_of streams items) items) o) o n writing)
      left.writing

  written : (redo : Redo) (was here : D) → PagesDone told faults (from_of streams items) items redo was here → Both (told was) (told here) (IsWritten redo)
  written redo was here done =
      both-with
      (λ old new. IsPartlyWritten (changed_page (redone_of redo (from_of streams items) items) old) old new)
      (λ old new. HoldsMadePages (changed_page (redone_of redo (from_of streams items) items) old) new)
      (IsWritten redo) (told was) (told here) (λ o n w h. (w, h)) done.writing done.holds

  left-records : (e : CcError) (redo : Redo) (was here now : D) → PagesDone told faults (from_of streams items) items redo was here → RedoneRecordLeft told faults items redo here now →
      LeavesBy streams items (Err e) redo (told was) (told now)
  left-records e redo was here now done left =
      both-then
      (IsWritten redo)
      (λ old new. (new ≡ old) ⊎ IsSettling (record_page redo.size (redone_valid items redo)) old new)
      (λ old new. IsBetween (made_by_log streams items redo old) old new)
      (told was) (told here) (told now)
      (λ o n x w s. between-record (record_page redo.size (redone_valid items redo)) (changed_page (redone_of redo (from_of streams items) items) o) o n x w.0 w.1 s)
      (written redo was here done) left.settling

  made-records : (answer : Restarted) (redo : Redo) (was here now : D) → PagesDone told faults (from_of streams items) items redo was here → RecordDone told faults items redo here now →
      LeavesBy streams items (Ok answer) redo (told was) (told now)
  made-records answer redo was here now done settled =
      both-then
      (IsWritten redo)
      (DiskIsSettled (record_page redo.size (redone_valid items redo)))
      (λ old new. DiskIsMade (made_by_log streams items redo old) new)
      (told was) (told here) (told now)
      (λ o n x w s. made-all (record_page redo.size (redone_valid items redo)) (changed_page (redone_of redo (from_of streams items) items) o) n x w.1 s)
      (written redo was here done) settled.settled

  -- a fault as the record was written says it of the disk as the restart found it
  record-fault : (e : CcError) (redo : Redo) (was here now : D) → PagesDone told faults (from_of streams items) items redo was here → IsRecordFault told e redo here now →
      IsFaultOf told (from_of streams items) items e redo was now
  record-fault (error.WriteFault page) redo was here now done (inl first) =
      inr (inl (
        first.0,
        subst (λ (d : Option Disk). Both (told was) d (AwaitsSync (redone_of redo (from_of streams items) items))) (sym first.1)
            (both-map (IsWritten redo) (AwaitsSync (redone_of redo (from_of streams items) items)) (told was) (told here)
            (λ o n w. record { holds = w.1; stands = w.0.stands }) (written redo was here done)),
      ))
  record-fault (error.WriteFault page) redo was here now done (inr last) =
      inr (inr (
        last.0,
        both-then (IsWritten redo) DataIsSettled (λ old new. DataIsMade (changed_page (redone_of redo (from_of streams items) items) old) new)
            (told was) (told here) (told now)
            (λ o n x w s. λ page e. ((s page e).0 ∙ w.1 page, (s page e).1 ∙ ap (λ (l : List ℕ). l ∷ []) (w.1 page)))
            (written redo was here done) last.1,
      ))
  record-fault other redo was here now done fault = absurd fault

-- why it was refused
pub refused-log : {D : Type 0} (told : D → Option Disk) (faults : D → ℕ) (streams : List Redo) (log : Option Log) (old new : List D) (e : CcError) → new ≡ old →
    IsLogRefusal log e → IsRestartRefusal told faults streams log old new e
refused-log told faults streams log old new (error.TooLong limit) same refused = (refused.0, refused.1, same)
refused-log told faults streams log old new (error.LogFault handle) same refused = (refused, same)
refused-log told faults streams log old new error.NoMemory same refused = tt
refused-log told faults streams log old new other same refused = absurd refused

-- what a fault says by the entries it says by the log
fault-told : {D : Type 0} (told : D → Option Disk) (streams : List Redo) (log : Option Log) (items : List ReadEntry) (e : CcError) (redo : Redo) (was now : D) →
    AreOf log items → IsFaultOf told (from_of streams items) items e redo was now → IsFaultBy told streams log e redo was now
fault-told told streams None items e redo was now are fault = tt
fault-told told streams (Some log) items e redo was now are fault =
    subst (λ (l : List ReadEntry). IsFaultOf told (from_of streams l) l e redo was now) are.0 fault

failed-so : {D : Type 0} (faults : D → ℕ) (P Q : Redo → D → D → Type 0) (streams : List Redo) (old new : List D) →
    ((redo : Redo) (was now : D) → P redo was now → Q redo was now) → OneFailed faults P streams old new → OneFailed faults Q streams old new
failed-so faults P Q streams old new weaker failed =
    (failed.0, failed.1, failed.2, failed.3, failed.4, failed.5, failed.6, failed.7, weaker failed.1 failed.2 failed.3 failed.8)

pub refused-stage : {D : Type 0} (told : D → Option Disk) (faults : D → ℕ) (streams : List Redo) (log : Option Log) (items : List ReadEntry) (old new : List D)
    (e : CcError) → AreOf log items → IsStageRefusal faults (IsFaultOf told (from_of streams items) items) streams old new e → IsRestartRefusal told faults streams log old new e
refused-stage told faults streams log items old new (error.ReadFault page) are refused =
    failed-so faults (IsFaultOf told (from_of streams items) items (error.ReadFault page)) (IsFaultBy told streams log (error.ReadFault page)) streams old new
    (λ redo was now fault. fault-told told streams log items (error.ReadFault page) redo was now are fault) refused
refused-stage told faults streams log items old new (error.WriteFault page) are refused =
    failed-so faults (IsFaultOf told (from_of streams items) items (error.WriteFault page)) (IsFaultBy told streams log (error.WriteFault page)) streams old new
    (λ redo was now fault. fault-told told streams log items (error.WriteFault page) redo was now are fault) refused
refused-stage told faults streams log items old new error.NoMemory are refused = tt
refused-stage told faults streams log items old new other are refused = absurd refused

pub refused-later : {D : Type 0} (faults : D → ℕ) (Q R : CcError → Redo → D → D → Type 0) (streams : List Redo) (P : Redo → D → D → Type 0) (old now new : List D)
    (e : CcError) → EachDisk streams P old now → ((redo : Redo) (was here : D) → P redo was here → faults here ≡ faults was) →
    ((x : CcError) (redo : Redo) (was here next : D) → P redo was here → Q x redo here next → R x redo was next) → length new ≡ length now →
    IsStageRefusal faults Q streams now new e → IsStageRefusal faults R streams old new e
refused-later faults Q R streams P old now new (error.ReadFault page) each none joined long refused =
    failed-then faults (Q (error.ReadFault page)) (R (error.ReadFault page)) streams P old now new each none (joined (error.ReadFault page)) refused long
refused-later faults Q R streams P old now new (error.WriteFault page) each none joined long refused =
    failed-then faults (Q (error.WriteFault page)) (R (error.WriteFault page)) streams P old now new each none (joined (error.WriteFault page)) refused long
refused-later faults Q R streams P old now new error.NoMemory each none joined long refused = tt
refused-later faults Q R streams P old now new other each none joined long refused = absurd refused

-- what each disk is left as, and its count of faults
module _ {D : Type 0} (told : D → Option Disk) (faults : D → ℕ) (streams : List Redo) where
  -- before the first call of a disk
  pub log-left : (log : Option Log) (e : CcError) (old : List D) → EachDisk streams (λ redo was now. LeavesDisk streams log (Err e) redo (told was) (told now)) old old
  log-left log e old = each-same streams (λ redo was now. LeavesDisk streams log (Err e) redo (told was) (told now)) old old refl (λ redo d. left-begun streams log redo e (told d))

  pub none-left : (items : List ReadEntry) (e : CcError) (old : List D) → EachDisk streams (λ redo was now. LeavesBy streams items (Err e) redo (told was) (told now)) old old
  none-left items e old = each-same streams (λ redo was now. LeavesBy streams items (Err e) redo (told was) (told now)) old old refl (λ redo d. by-begun streams items redo e (told d))

  pub none-counted : (old : List D) → EachDisk streams (λ redo was now. faults was ≤ faults now) old old
  none-counted old = each-same streams (λ redo was now. faults was ≤ faults now) old old refl (λ redo d. omega arith)

  -- behind the first call
  pub each-told : (log : Option Log) (items : List ReadEntry) (answer : Result Restarted CcError) (old new : List D) → AreOf log items →
      EachDisk streams (λ redo was now. LeavesBy streams items answer redo (told was) (told now)) old new → EachDisk streams (λ redo was now. LeavesDisk streams log answer redo (told was) (told now)) old new
  each-told log items answer old new are each =
      each-map streams (λ redo was now. LeavesBy streams items answer redo (told was) (told now)) (λ redo was now. LeavesDisk streams log answer redo (told was) (told now)) old new
      (λ redo was now left. leaves-told streams log items answer redo (told was) (told now) are left) each

  module _ (items : List ReadEntry) (old here new : List D) where
    pub pages-left : (e : CcError) → EachDisk streams (RedonePagesLeft told faults (from_of streams items) items) old new →
        EachDisk streams (λ redo was now. LeavesBy streams items (Err e) redo (told was) (told now)) old new
    pages-left e each =
        each-map streams (RedonePagesLeft told faults (from_of streams items) items) (λ redo was now. LeavesBy streams items (Err e) redo (told was) (told now)) old new
        (λ redo was now left. left-pages told faults streams items e redo was now left) each

    pub pages-counted : EachDisk streams (RedonePagesLeft told faults (from_of streams items) items) old new → EachDisk streams (λ redo was now. faults was ≤ faults now) old new
    pages-counted each =
        each-map streams (RedonePagesLeft told faults (from_of streams items) items) (λ redo was now. faults was ≤ faults now) old new
        (λ redo was now left. left.counted) each

    pub records-left : (e : CcError) → EachDisk streams (PagesDone told faults (from_of streams items) items) old here → EachDisk streams (RedoneRecordLeft told faults items) here new →
        EachDisk streams (λ redo was now. LeavesBy streams items (Err e) redo (told was) (told now)) old new
    records-left e first second =
        each-then streams (PagesDone told faults (from_of streams items) items) (RedoneRecordLeft told faults items) (λ redo was now. LeavesBy streams items (Err e) redo (told was) (told now)) old here new
        (λ redo was mid now done left. left-records told faults streams items e redo was mid now done left) first second

    pub records-counted : EachDisk streams (PagesDone told faults (from_of streams items) items) old here → EachDisk streams (RedoneRecordLeft told faults items) here new →
        EachDisk streams (λ redo was now. faults was ≤ faults now) old new
    records-counted first second =
        each-then streams (PagesDone told faults (from_of streams items) items) (RedoneRecordLeft told faults items) (λ redo was now. faults was ≤ faults now) old here new
        (λ redo was mid now done left. let same : faults mid ≡ faults was = done.counted in let more : faults mid ≤ faults now = left.counted in omega arith) first second

    pub records-made : (answer : Restarted) → EachDisk streams (PagesDone told faults (from_of streams items) items) old here → EachDisk streams (RecordDone told faults items) here new →
        EachDisk streams (λ redo was now. LeavesBy streams items (Ok answer) redo (told was) (told now)) old new
    records-made answer first second =
        each-then streams (PagesDone told faults (from_of streams items) items) (RecordDone told faults items) (λ redo was now. LeavesBy streams items (Ok answer) redo (told was) (told now)) old here new
        (λ redo was mid now done made. made-records told faults streams items answer redo was mid now done made) first second

    pub records-same : EachDisk streams (PagesDone told faults (from_of streams items) items) old here → EachDisk streams (RecordDone told faults items) here new →
        EachDisk streams (λ redo was now. faults now ≡ faults was) old new
    records-same first second =
        each-then streams (PagesDone told faults (from_of streams items) items) (RecordDone told faults items) (λ redo was now. faults now ≡ faults was) old here new
        (λ redo was mid now done made. made.counted ∙ done.counted) first second

    pub records-refused : (e : CcError) → EachDisk streams (PagesDone told faults (from_of streams items) items) old here → EachDisk streams (RedoneRecordLeft told faults items) here new →
        IsStageRefusal faults (IsRecordFault told) streams here new e → IsStageRefusal faults (IsFaultOf told (from_of streams items) items) streams old new e
    records-refused e first second refused =
        refused-later faults (IsRecordFault told) (IsFaultOf told (from_of streams items) items) streams (PagesDone told faults (from_of streams items) items) old here new e first
        (λ redo was mid done. done.counted) (λ x redo was mid now done fault. record-fault told faults streams items x redo was mid now done fault) second.count refused

-- a stage that was refused is a restart that was refused, and not by the log
pub refused-so : {D A : Type 0} (told : D → Option Disk) (faults : D → ℕ) (streams : List Redo) (log : Option Log) (items : List ReadEntry) (old new : List D)
    (answer : Result A CcError) → AreOf log items → IfErr answer (IsStageRefusal faults (IsFaultOf told (from_of streams items) items) streams old new) →
    IfErr answer (IsRestartRefusal told faults streams log old new)
refused-so told faults streams log items old new (Ok done) are refused = tt
refused-so told faults streams log items old new (Err e) are refused = refused-stage told faults streams log items old new e are refused

no-log : {D : Type 0} (A : Type 0) (faults : D → ℕ) (Q : CcError → Redo → D → D → Type 0) (streams : List Redo) (old new : List D) (e : CcError) →
    IsStageRefusal faults Q streams old new e → (let r : Result A CcError = Err e in log_faults r) ≡ 0
no-log A faults Q streams old new (error.ReadFault page) refused = refl
no-log A faults Q streams old new (error.WriteFault page) refused = refl
no-log A faults Q streams old new error.NoMemory refused = refl
no-log A faults Q streams old new other refused = absurd refused

pub no-log_fault : {D A : Type 0} (faults : D → ℕ) (Q : CcError → Redo → D → D → Type 0) (streams : List Redo) (old new : List D) (answer : Result A CcError) →
    IfErr answer (IsStageRefusal faults Q streams old new) → log_faults answer ≡ 0
no-log_fault faults Q streams old new (Ok done) refused = refl
no-log_fault {A = A} faults Q streams old new (Err e) refused = no-log A faults Q streams old new e refused

-- A desk that stands, of which no turn is held, is safe from a crash: its disks have gone with their streams, and its logs are durable
-- to what was stamped on each page as a transfer of it began.
use Rattle.std.specs.Prelude.{◌≡◌, ℕ, ◌≤◌, true, List, [], ◌∷◌, ◌++◌, length, map, slice_get, is_some}
use Rattle.std.specs.List.{list_all}
use Rattle.std.specs.Option.{option_map}
use Rattle.std.specs.declared.option.Option.{Option}
use Rattle.std.specs.declared.option.Option.TheVariants.{Some, None}
use Rattle.std.proofs.Common.{refl, sym, subst, ap, ◌∙◌, arith}
use Rattle.cc_book.specs.Book.{BookState}
use Rattle.cc_entry.specs.declared.entry.Entry.{Entry}
use Rattle.cc_entry.specs.declared.entry.Entry.TheVariants as entry
use Rattle.cc_journal.specs.Journal.{JournalState}
use Rattle.cc_laws.proofs.LogSteps.{flushed_to-entry}
use Rattle.cc_log.specs.Turn.{HoldsLogEntries, LogTurnState, appended}
use Rattle.cc_model.specs.Covered.{FlushedUpTo, IsCovered, IsCoveredEntry, IsLogged}
use Rattle.cc_model.specs.History.{history}
use Rattle.cc_model.specs.Logs.{flushed_to}
use Rattle.cc_model.specs.Settings.{log_of}
use Rattle.cc_model.specs.Stamps.{newest_of}
use Rattle.cc_traits.specs.Disk.{Disk}
use Rattle.cc_traits.specs.Log.{Log, LogEntry}
use Rattle.cc_traits.specs.Told.{Both, IfTold}
use Rattle.cc_turns.specs.Standing.{LogAtFirst, nothing}
use Rattle.cc_turns.specs.Disk.{DiskStands}
use Rattle.cc_turns.specs.Log.{FileStands}
use Rattle.cc_turns.specs.Places.{AreHome, at_home}
use Rattle.cc_turns.specs.Desk.{DeskState, DeskStands, DeskDisksEnded, DeskLogsEnded, Tells, disk_at_first, log_at_first}
use Rattle.cc_turns.specs.Crash.{DiskIsCrashSafe, IsCrashSafe, IsDurableForBegins}
use Rattle.cc_turns.proofs.RowSteps.{all_home}
use Rattle.cc_turns.proofs.Fresh.{disks_end, logs_end}

-- what a log was flushed to it stays flushed to
flushed-grows : (later past : List Entry) (log : ℕ) → flushed_to past log ≤ flushed_to (later ++ past) log
flushed-grows [] past log = omega arith
flushed-grows (e ∷ later) past log =
    let before = flushed-grows later past log in
    let step = flushed_to-entry e (later ++ past) log in
    omega (arith, before, step)

covered-at : (later : List Entry) (e : Entry) (front : List Entry) → IsCovered (later ++ e ∷ front) → IsCoveredEntry front e
unfolding IsCovered
covered-at [] e front covered = covered.0
covered-at (x ∷ later) e front covered = covered-at later e front covered.1

begun-logged : (past later front : List Entry) (pass s p : ℕ) → IsCovered past → past ≡ later ++ entry.WriteBegin pass (record { stream = s; page = p }) ∷ front → IsLogged front s p
unfolding IsCoveredEntry
begun-logged past later front pass s p covered is =
    covered-at later (entry.WriteBegin pass (record { stream = s; page = p })) front (subst (λ (l : List Entry). IsCovered l) is covered)

flushed-up : (past : List Entry) (log lsn : ℕ) (its newest : Option ℕ) → FlushedUpTo past its newest → its ≡ Some log → newest ≡ Some lsn → lsn ≤ flushed_to past log
flushed-up past log lsn None newest up of is = absurd (cc)
flushed-up past log lsn (Some handle) None up of is = absurd (cc)
flushed-up past log lsn (Some handle) (Some n) up of is =
    let at : handle ≡ log = cc in
    let same : n ≡ lsn = cc in
    subst (λ (k : ℕ). lsn ≤ flushed_to past k) at (subst (λ (k : ℕ). k ≤ flushed_to past handle) same up)

durable-begins : (past : List Entry) (handle : ℕ) (log : Log) → IsCovered past → flushed_to past handle ≤ log.durable → IsDurableForBegins past handle log
durable-begins past handle log covered durable later front pass s p lsn is of newest =
    let begin = entry.WriteBegin pass (record { stream = s; page = p }) in
    let up = flushed-up front handle lsn (log_of (history front s)) (newest_of (history front s) p) (begun-logged past later front pass s p covered is).flushed of newest in
    let here = flushed_to-entry begin front handle in
    let grown = flushed-grows later (begin ∷ front) handle in
    let whole = ap (λ (l : List Entry). flushed_to l handle) is in
    omega (arith, up, here, grown, whole, durable)

-- of a log that tells what it holds
if-told : (past : List Entry) (handle flushed : ℕ) (begun now : Option Log) (entries : List LogEntry) → IsCovered past → flushed ≡ flushed_to past handle → Both begun now (HoldsLogEntries entries flushed) → IfTold now (IsDurableForBegins past handle)
if-told past handle flushed None None entries covered is holds = tt
if-told past handle flushed None (Some now) entries covered is holds = absurd holds
if-told past handle flushed (Some begun) None entries covered is holds = absurd holds
if-told past handle flushed (Some begun) (Some now) entries covered is holds =
    let durable = holds.durable in
    durable-begins past handle now covered (omega (arith, is, durable))

-- a file that stands for a past which is covered
pub file_safe : {L : Type 0} (told : L → Option Log) (faults : L → ℕ) (first : LogAtFirst) (past : List Entry) (handle : ℕ) (file : L) → IsCovered past → FileStands told faults first past handle file → IfTold (told file) (IsDurableForBegins past handle)
file_safe {L} told faults first past handle file covered (log, stands, at, same) =
    subst (λ (f : L). IfTold (told f) (IsDurableForBegins past handle)) same
    (if-told past handle log.flushed _ (told log.file) (appended past log.handle) covered
    (stands.stands.flushed_is ∙ ap (λ (n : ℕ). flushed_to past n) at) stands.stands.file_is)

-- a disk that stands
pub disk_safe : {D L Q : Type 0} (tells : Tells D L Q) (begun : List D) (past : List Entry) (s : ℕ) (disk : D) → DiskStands tells.disk tells.disk_faults (disk_at_first tells.disk tells.disk_faults (slice_get begun s)) past s disk → DiskIsCrashSafe tells begun past s disk
disk_safe tells begun past s disk stands = record { pages = stands.has_gone; record_page = stands.record_has_gone }

-- where something is at each place, what is at home is what is there
home_is : {A : Type 0} (places : List (Option A)) → list_all is_some places ≡ true → map (λ a. Some a) (at_home places) ≡ places
home_is [] all = refl
home_is (None ∷ places) all = absurd (cc)
home_is {A} (Some a ∷ places) all = ap (λ (ps : List (Option A)). Some a ∷ ps) (home_is places all)

files_are : {A B : Type 0} (f : A → B) (places : List (Option A)) → list_all is_some places ≡ true → map (λ b. Some b) (map f (at_home places)) ≡ map (option_map f) places
files_are f [] all = refl
files_are f (None ∷ places) all = absurd (cc)
files_are {A} {B} f (Some a ∷ places) all = ap (λ (ps : List (Option B)). Some (f a) ∷ ps) (files_are f places all)

-- a row that has a place for each of its things has them at home
pub row_home : {A : Type 0} (row : List A) (places : List (Option A)) → map (λ a. Some a) row ≡ places → row ≡ at_home places
row_home row places is = all_in row ∙ ap at_home is
  where
    all_in : {A : Type 0} (row : List A) → row ≡ at_home (map (λ a. Some a) row)
    all_in [] = refl
    all_in {A} (a ∷ row) = ap (λ (r : List A). a ∷ r) (all_in row)

pub files_home : {A B : Type 0} (f : A → B) (row : List B) (places : List (Option A)) → map (λ b. Some b) row ≡ map (option_map f) places → row ≡ map f (at_home places)
files_home {A} {B} f row places is = row_home row (map (option_map f) places) is ∙ inside places
  where
    inside : (places : List (Option A)) → at_home (map (option_map f) places) ≡ map f (at_home places)
    inside [] = refl
    inside (None ∷ places) = inside places
    inside (Some a ∷ places) = ap (λ (r : List B). f a ∷ r) (inside places)

-- the desk is
pub desk_safe : {D L Q : Type 0} (tells : Tells D L Q) (d : DeskState D L Q) (disks : List (Option D)) (books : List (Option BookState)) (logs : List (Option (LogTurnState L))) (journal : Option (JournalState Q)) → d.held ≡ nothing → d.disks ≡ at_home disks → d.logs ≡ map (λ log. log.file) (at_home logs) → DeskStands tells d disks books logs journal → IsCrashSafe tells d
desk_safe {D} {L} {Q} tells d disks books logs journal free disks_are logs_are stands =
    let rows : DeskDisksEnded tells.disk tells.disk_faults d d.disks =
    disks_end tells.disk tells.disk_faults d disks d.disks d.held.device stands.disks_are
    (ap (λ (l : List D). map (λ (a : D). Some a) l) disks_are ∙ home_is disks (all_home _ _ disks (ap (λ held. held.device) free) stands.disks_are)) in
    let files : DeskLogsEnded tells.log tells.log_faults d d.logs =
    logs_end tells.log tells.log_faults d logs d.logs d.held.log stands.logs_are
    (ap (λ (l : List L). map (λ (a : L). Some a) l) logs_are ∙ files_are (λ (log : LogTurnState L). log.file) logs (all_home _ _ logs (ap (λ held. held.log) free) stands.logs_are)) in
    record {
      all = (rows.counted, files.counted);
      disks = λ s disk is. disk_safe tells d.begun.disks d.last.entries s disk (rows.each s disk is).stands;
      logs = λ handle file is. file_safe tells.log tells.log_faults (log_at_first tells.log tells.log_faults (slice_get d.begun.logs handle)) d.last.entries handle file stands.journal_was.good.covered (files.each handle file is);
    }

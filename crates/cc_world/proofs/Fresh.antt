-- A World as it begins, and as it ends.
use Rattle.std.specs.Prelude.{◌≡◌, ℕ, ◌≤◌, List, [], length, map, slice_get, Contains}
use Rattle.std.specs.declared.option.Option.{Option}
use Rattle.std.specs.declared.option.Option.TheVariants.{Some, None}
use Rattle.std.specs.Option.{option_map}
use Rattle.std.proofs.Common.{refl, sym, subst, ap, ◌∙◌, arith}
use Rattle.std.proofs.lemmas.List.{length-map}
use Rattle.std.proofs.lemmas.List.Elements.{All-nil, Contains-push}
use Rattle.std.proofs.lemmas.Option.{slice_get-map}
use Rattle.cc_entry.specs.declared.entry.Entry.{Entry}
use Rattle.cc_traits.specs.Disk.{Disk, page_of}
use Rattle.cc_traits.specs.Told.{Both}
use Rattle.cc_traits.specs.Setup.{capacity_of}
use Rattle.cc_traits.specs.declared.setup.Setup.{Setup as Begins}
use Rattle.cc_effects.specs.Failures.{failures}
use Rattle.cc_journal.specs.Capacity.{IsWithinCapacity}
use Rattle.cc_journal.specs.Journal.{JournalState}
use Rattle.cc_log.specs.Turn.{LogTurnState}
use Rattle.cc_model.specs.Allowed.{IsAllowed, IsAllowedSoFar}
use Rattle.cc_model.specs.Covered.{IsCovered}
use Rattle.cc_model.specs.Good.{IsGood}
use Rattle.cc_model.specs.History.{history}
use Rattle.cc_model.specs.Holds.{holds_of}
use Rattle.cc_model.specs.Images.{image, open_of, crash_pages}
use Rattle.cc_model.specs.Legal.{IsLegal}
use Rattle.cc_model.specs.Logs.{flushed_to}
use Rattle.cc_model.specs.Room.{reserved_in, stores_unfinished}
use Rattle.cc_model.specs.Setup.{Setup}
use Rattle.cc_turns.specs.Desk.{Tells, LogIsHome, IsNew, disk_at_first, log_at_first, made_from, openings}
use Rattle.cc_turns.specs.Disk.{HasGone}
use Rattle.cc_turns.specs.RecordPage.{RecordHasGone}
use Rattle.cc_turns.specs.Log.{FileStands}
use Rattle.cc_turns.specs.Places.{IsRoomFor}
use Rattle.cc_world.specs.Rows.{DiskIsUsed, DiskIsAtRest}
use Rattle.cc_turns.proofs.Capacity.{within_none}
use Rattle.cc_turns.proofs.RecordPage.{record_gone-none}
use Rattle.cc_world.specs.World.{AreAt, WorldDisksEnded, IsNewRow, WorldLogsEnded, RowIsHome, WorldStands, WorldState, world_of}
use Rattle.cc_world.specs.declared.rows.BegunTransfer.{BegunTransfer}
use Rattle.cc_world.specs.declared.rows.StreamRow.{StreamRow}
use Rattle.cc_turns.specs.Slots.{setup_in}

-- the empty journal is good, and owes nothing
good-none : (u : Setup) → IsGood u []
unfolding IsLegal IsAllowed IsAllowedSoFar IsCovered
good-none u = record { legal = tt; allowed = (tt, refl); covered = tt }

reserved-none : reserved_in [] ≡ 0
unfolding reserved_in stores_unfinished history holds_of open_of
reserved-none = refl

flushed-none : (handle : ℕ) → flushed_to [] handle ≡ 0
unfolding flushed_to
flushed-none handle = refl

history-none : (s : ℕ) → history [] s ≡ []
unfolding history
history-none s = refl

-- a disk as the run begins has gone nowhere
gone-none : (now : Option Disk) → Both now now (HasGone [])
unfolding image crash_pages
gone-none None = tt
gone-none (Some disk) = record {
  images = λ p bytes apart is. one (page_of disk p) bytes is;
  among = λ p apart alone. subst (λ contents. Contains contents (page_of disk p)) (sym alone) (Contains-push [] (page_of disk p));
  crash = λ p content apart alone among. subst (λ contents. Contains contents content) alone among;
  exact = λ p apart alone free well. alone;
}
  where
    one : (a b : List ℕ) → Some a ≡ Some b → a ≡ b
    one a b is = cc

record-none : (s : ℕ) (now : Option Disk) → Both now now (RecordHasGone [] s)
record-none s None = tt
record-none s (Some disk) = record_gone-none s disk

disk-none : {D : Type 0} (told : D → Option Disk) (faults : D → ℕ) (disks : List D) (s : ℕ) (disk : D) → slice_get disks s ≡ Some disk → DiskIsAtRest told faults (disk_at_first told faults (slice_get disks s)) [] s disk
unfolding history failures open_of
disk-none told faults disks s disk is = record {
  stands = rw is (record { has_gone = gone-none (told disk); record_has_gone = record-none s (told disk); counted = omega arith });
  no_transfer = refl;
}

used-none : {D : Type 0} (told : D → Option Disk) (faults : D → ℕ) (disks : List D) (s n : ℕ) (disk : D) (kept : Option BegunTransfer) → slice_get disks s ≡ Some disk → n ≡ s → kept ≡ None → DiskIsUsed told faults (disk_at_first told faults (slice_get disks s)) [] n disk kept
used-none told faults disks s n disk None is at none =
    subst (λ (m : ℕ). DiskIsAtRest told faults (disk_at_first told faults (slice_get disks s)) [] m disk) (sym at) (disk-none told faults disks s disk is)
used-none told faults disks s n disk (Some kept) is at none = absurd (cc)

new-home : {D L Q : Type 0} (tells : Tells D L Q) (disks : List D) (s : ℕ) (row : StreamRow D) → IsNewRow disks s row → RowIsHome tells disks [] s row
new-home tells disks s row new = record {
  stream = new.book.stream;
  stands = record {
    book = new.book.stands (openings tells.disk tells.disk_faults disks s);
    disk = used-none tells.disk tells.disk_faults disks s row.book.stream row.disk row.kept new.disk new.book.stream new.kept;
  };
}

-- rows over the disks of a setup, logs that were opened, and an empty journal stand
fresh-stands : {D L Q : Type 0} (tells : Tells D L Q) (setup : Begins D L) (rows : List (StreamRow D)) (logs : List (LogTurnState L)) (j : JournalState Q) → length setup.disks.items ≤ 16 → length setup.logs.items ≤ 4 → IsNew (made_from setup) j → AreAt (length setup.disks.items) (IsNewRow setup.disks.items) rows → AreAt (length setup.logs.items) (LogIsHome tells.log tells.log_faults setup.logs.items []) logs → WorldStands tells (world_of setup rows logs j)
fresh-stands {D} {L} {Q} tells setup rows logs j few_disks few_logs new rows_are logs_are =
    let empty : j.entries ≡ [] = new.empty.0 in
    record {
      rows = record {
        counted = rows_are.counted;
        each = λ s row is. subst (λ (past : List Entry). RowIsHome tells setup.disks.items past s row) (sym empty) (new-home tells setup.disks.items s row (rows_are.each s row is));
      };
      logs = record {
        counted = logs_are.counted;
        each = λ h log is. subst (λ (past : List Entry). LogIsHome tells.log tells.log_faults setup.logs.items past h log) (sym empty) (logs_are.each h log is);
      };
      journal = record {
        good = subst (λ (past : List Entry). IsGood (setup_in tells (made_from setup)) past) (sym empty) (good-none (setup_in tells (made_from setup)));
        limits = new.limits;
        reserved = new.empty.1 ∙ sym (ap reserved_in empty ∙ reserved-none);
        unposted = rw new.empty.2 (All-nil _);
        strange = λ handle beyond. ap (λ (past : List Entry). flushed_to past handle) empty ∙ flushed-none handle;
        no_stream = λ s beyond. ap (λ (past : List Entry). history past s) empty ∙ history-none s;
        within = subst (λ (past : List Entry). IsWithinCapacity (capacity_of setup.journal) past) (sym empty) (within_none (capacity_of setup.journal));
      };
      few = (few_disks, few_logs);
    }

pub fresh-world : {D L Q : Type 0} (tells : Tells D L Q) (setup made : Begins D L) (rows : List (StreamRow D)) (logs : List (LogTurnState L)) (j : JournalState Q) (disk_room : List D) (log_room : List L) (disks_most logs_most : ℕ) → made ≡ setup → length setup.disks.items ≤ 16 → length setup.logs.items ≤ 4 → IsNew (made_from setup) j → AreAt (length setup.disks.items) (IsNewRow setup.disks.items) rows → AreAt (length setup.logs.items) (LogIsHome tells.log tells.log_faults setup.logs.items []) logs → IsRoomFor (length setup.disks.items) disk_room disks_most → IsRoomFor (length setup.logs.items) log_room logs_most → WorldStands tells (world_of made rows logs j) × IsRoomFor (length made.disks.items) disk_room disks_most × IsRoomFor (length made.logs.items) log_room logs_most
fresh-world {D} {L} {Q} tells setup made rows logs j disk_room log_room disks_most logs_most is few_disks few_logs new rows_are logs_are room log_space =
    subst (λ (s : Begins D L). WorldStands tells (world_of s rows logs j) × IsRoomFor (length s.disks.items) disk_room disks_most × IsRoomFor (length s.logs.items) log_room logs_most) (sym is)
    (fresh-stands tells setup rows logs j few_disks few_logs new rows_are logs_are, room, log_space)

-- what the disks are that a World gives back, and the logs
pub row-at : {D : Type 0} (o : Option (StreamRow D)) (disk : D) → Some disk ≡ option_map (λ (row : StreamRow D). row.disk) o → (row : StreamRow D) × (o ≡ Some row) × (row.disk ≡ disk)
row-at None disk is = absurd (cc)
row-at (Some row) disk is = (row, refl, cc)

pub disks-end : {D L Q : Type 0} (tells : Tells D L Q) (w : WorldState D L Q) (disks : List D) → WorldStands tells w → disks ≡ map (λ (row : StreamRow D). row.disk) w.rows → WorldDisksEnded tells w disks
disks-end {D} {L} {Q} tells w disks stands back = record {
  counted = ap length back ∙ (length-map w.rows (λ (row : StreamRow D). row.disk) ∙ stands.rows.counted);
  each = λ s disk is. ends s disk (row-at (slice_get w.rows s) disk (sym is ∙ (ap (λ ds. slice_get ds s) back ∙ slice_get-map (λ (row : StreamRow D). row.disk) w.rows s)));
}
  where
    ends : (s : ℕ) (disk : D) → (row : StreamRow D) × (slice_get w.rows s ≡ Some row) × (row.disk ≡ disk) → (kept : Option BegunTransfer) × DiskIsUsed tells.disk tells.disk_faults (disk_at_first tells.disk tells.disk_faults (slice_get w.begun.disks s)) w.journal.entries s disk kept
    ends s disk (row, there, same) =
        let home = stands.rows.each s row there in (
          row.kept,
          subst (λ (d : D). DiskIsUsed tells.disk tells.disk_faults (disk_at_first tells.disk tells.disk_faults (slice_get w.begun.disks s)) w.journal.entries s d row.kept) same
              (subst (λ (n : ℕ). DiskIsUsed tells.disk tells.disk_faults (disk_at_first tells.disk tells.disk_faults (slice_get w.begun.disks s)) w.journal.entries n row.disk row.kept) home.stream home.stands.disk),
        )

pub log-at : {L : Type 0} (o : Option (LogTurnState L)) (file : L) → Some file ≡ option_map (λ (log : LogTurnState L). log.file) o → (log : LogTurnState L) × (o ≡ Some log) × (log.file ≡ file)
log-at None file is = absurd (cc)
log-at (Some log) file is = (log, refl, cc)

pub logs-end : {D L Q : Type 0} (tells : Tells D L Q) (w : WorldState D L Q) (files : List L) → WorldStands tells w → files ≡ map (λ (log : LogTurnState L). log.file) w.logs → WorldLogsEnded tells w files
logs-end {D} {L} {Q} tells w files stands back = record {
  counted = ap length back ∙ (length-map w.logs (λ (log : LogTurnState L). log.file) ∙ stands.logs.counted);
  each = λ handle file is. ends handle file (log-at (slice_get w.logs handle) file (sym is ∙ (ap (λ fs. slice_get fs handle) back ∙ slice_get-map (λ (log : LogTurnState L). log.file) w.logs handle)));
}
  where
    ends : (handle : ℕ) (file : L) → (log : LogTurnState L) × (slice_get w.logs handle ≡ Some log) × (log.file ≡ file) → FileStands tells.log tells.log_faults (log_at_first tells.log tells.log_faults (slice_get w.begun.logs handle)) w.journal.entries handle file
    ends handle file (log, there, same) =
        let home = stands.logs.each handle log there in
        (log, home.stands, home.handle_is, same)

-- A run as it begins, and as it ends.
use Rattle.std.specs.Prelude.{◌≡◌, ℕ, ◌≤◌, List, [], length, map, slice_get, Contains}
use Rattle.std.specs.declared.option.Option.{Option}
use Rattle.std.specs.declared.option.Option.TheVariants.{Some, None}
use Rattle.std.specs.Option.{option_map}
use Rattle.std.proofs.Common.{refl, sym, subst, ap, ◌∙◌, arith}
use Rattle.std.proofs.lemmas.List.{length-map}
use Rattle.std.proofs.lemmas.List.Elements.{All-nil, Contains-push}
use Rattle.std.proofs.lemmas.Option.{slice_get-map}
use Rattle.cc_traits.specs.Disk.{Disk, page_of}
use Rattle.cc_traits.specs.Log.{Log}
use Rattle.cc_traits.specs.Told.{Both}
use Rattle.cc_traits.specs.declared.setup.Setup.{Setup}
use Rattle.cc_book.specs.Book.{BookState}
use Rattle.cc_entry.specs.declared.entry.Entry.{Entry}
use Rattle.cc_effects.specs.Failures.{failures}
use Rattle.cc_journal.specs.Journal.{JournalState}
use Rattle.cc_log.specs.Turn.{LogTurnState, Stands}
use Rattle.cc_model.specs.Allowed.{IsAllowed, IsAllowedSoFar}
use Rattle.cc_model.specs.Covered.{IsCovered}
use Rattle.cc_model.specs.Good.{IsGood}
use Rattle.cc_model.specs.Holds.{holds_of}
use Rattle.cc_model.specs.History.{history}
use Rattle.cc_model.specs.Images.{image, open_of, crash_pages}
use Rattle.cc_model.specs.Legal.{IsLegal}
use Rattle.cc_model.specs.Room.{reserved_in, stores_unfinished}
use Rattle.cc_model.specs.Setup.{Setup as ModelSetup}
use Rattle.cc_turns.specs.Standing.{nothing}
use Rattle.cc_turns.specs.Disk.{HasGone}
use Rattle.cc_turns.specs.RecordPage.{RecordHasGone}
use Rattle.cc_turns.specs.Log.{FileStands, log_failures}
use Rattle.cc_turns.specs.Places.{AreHome, IsRoomFor}
use Rattle.cc_turns.specs.Desk.{Begun, DeskState, DeskStands, Tells, DiskIsHome, BookIsHome, LogIsHome, DeskDisksEnded, DeskLogsEnded, IsNew, made_from, openings, log_at_first}
use Rattle.cc_turns.proofs.Capacity.{within_none}
use Rattle.cc_turns.proofs.RecordPage.{record_gone-none}
use Rattle.cc_turns.proofs.RowSteps.{all_at_home}

-- the empty journal is good, and owes nothing
good_none : (u : ModelSetup) → IsGood u []
unfolding IsLegal IsAllowed IsAllowedSoFar IsCovered
good_none u = record { legal = tt; allowed = (tt, refl); covered = tt }

reserved_none : reserved_in [] ≡ 0
unfolding reserved_in stores_unfinished history holds_of open_of
reserved_none = refl

-- a disk as the run begins has gone nowhere
gone_none : (now : Option Disk) → Both now now (HasGone [])
unfolding image crash_pages
gone_none None = tt
gone_none (Some disk) = record {
  images = λ p bytes apart is. one (page_of disk p) bytes is;
  among = λ p apart alone. subst (λ contents. Contains contents (page_of disk p)) (sym alone) (Contains-push [] (page_of disk p));
  crash = λ p content apart alone among. subst (λ contents. Contains contents content) alone among;
  exact = λ p apart alone free well. alone;
}
  where
    one : (a b : List ℕ) → Some a ≡ Some b → a ≡ b
    one a b is = cc

record_none : (s : ℕ) (now : Option Disk) → Both now now (RecordHasGone [] s)
record_none s None = tt
record_none s (Some disk) = record_gone-none s disk

disk_fresh : {D : Type 0} (told : D → Option Disk) (faults : D → ℕ) (disks : List D) (s : ℕ) (disk : D) → slice_get disks s ≡ Some disk → DiskIsHome told faults disks [] s disk
unfolding history failures open_of
disk_fresh told faults disks s disk is = record {
  stands = rw is (record { has_gone = gone_none (told disk); record_has_gone = record_none s (told disk); counted = omega arith });
  at_rest = refl;
}

-- each disk is at its place
disks_fresh : {D : Type 0} (told : D → Option Disk) (faults : D → ℕ) (disks : List D) → AreHome (length disks) None (DiskIsHome told faults disks []) (map (λ a. Some a) disks)
disks_fresh told faults disks = all_at_home _ (length disks) disks refl (disk_fresh told faults disks)

-- a log as the run begins
pub log_fresh : {L : Type 0} (told : L → Option Log) (faults : L → ℕ) (logs : List L) (handle at : ℕ) (file : L) (log : LogTurnState L) → slice_get logs handle ≡ Some file → at ≡ handle → log ≡ record { handle = at; floor = 0; flushed = 0; file = file } → Stands told (told file) [] log → LogIsHome told faults logs [] handle log
unfolding log_failures
log_fresh told faults logs handle at file log is same new stands = record {
  handle_is = ap (λ l. l.handle) new ∙ same;
  stands = rw is (record { stands = stands; counted = let file_is : log.file ≡ file = ap (λ l. l.file) new in rw file_is (omega arith) });
}

-- a run as it begins stands
fresh_stands : {D L Q : Type 0} (tells : Tells D L Q) (begun : Begun D L) (j last : JournalState Q) (disks : List (Option D)) (books : List (Option BookState)) (logs : List (Option (LogTurnState L))) (home : List D) (files : List L) → length begun.disks ≤ 16 → length begun.logs ≤ 4 → last ≡ j → IsNew begun j → disks ≡ map (λ a. Some a) begun.disks → ((opening : ℕ → Option (ℕ → List ℕ)) → AreHome (length begun.disks) None (BookIsHome opening []) books) → AreHome (length begun.logs) None (LogIsHome tells.log tells.log_faults begun.logs []) logs → DeskStands tells (record { begun = begun; disks = home; logs = files; last = last; since = last.entries; pass = 0; held = nothing; device_turns = 0 }) disks books logs (Some j)
fresh_stands {D} {L} {Q} tells begun j last disks books logs home files few_disks few_logs same new moved books_new logs_new = subst (λ l. DeskStands tells (record { begun = begun; disks = home; logs = files; last = l; since = l.entries; pass = 0; held = nothing; device_turns = 0 }) disks books logs (Some j)) (sym same) (record {
  disks_are = rw (new.empty.0, moved) (disks_fresh tells.disk tells.disk_faults begun.disks);
  books_are = rw new.empty.0 (books_new (openings tells.disk tells.disk_faults begun.disks));
  logs_are = rw new.empty.0 logs_new;
  few = (few_disks, few_logs);
  journal_was = record {
    entries_are = refl;
    good = rw new.empty.0 (good_none _);
    capacity_is = new.limits.0;
    threshold_is = new.limits.1;
    logs_are = new.limits.2;
    reserved_is = omega (arith, new.empty.1, ap reserved_in new.empty.0 ∙ reserved_none);
    unposted = rw new.empty.2 (All-nil _);
  };
  journal_is = refl;
  within = rw new.empty.0 (within_none begun.capacity);
  acted = record { added = []; grew = refl; own = tt };
})

pub fresh_desk : {D L Q : Type 0} (tells : Tells D L Q) (setup made : Setup D L) (j last : JournalState Q) (since : List Entry) (disks : List (Option D)) (books : List (Option BookState)) (logs : List (Option (LogTurnState L))) (home : List D) (files : List L) (disk_room : List D) (log_room : List L) (disks_most logs_most : ℕ) → made ≡ setup → last ≡ j → since ≡ last.entries → length setup.disks.items ≤ 16 → length setup.logs.items ≤ 4 → IsNew (made_from setup) j → disks ≡ map (λ a. Some a) setup.disks.items → ((opening : ℕ → Option (ℕ → List ℕ)) → AreHome (length setup.disks.items) None (BookIsHome opening []) books) → AreHome (length setup.logs.items) None (LogIsHome tells.log tells.log_faults setup.logs.items []) logs → IsRoomFor (length setup.disks.items) disk_room disks_most → IsRoomFor (length setup.logs.items) log_room logs_most → DeskStands tells (record { begun = made_from made; disks = home; logs = files; last = last; since = since; pass = 0; held = nothing; device_turns = 0 }) disks books logs (Some j) × IsRoomFor (length made.disks.items) disk_room disks_most × IsRoomFor (length made.logs.items) log_room logs_most
fresh_desk tells setup made j last since disks books logs home files disk_room log_room disks_most logs_most is same begun few_disks few_logs new moved books_new logs_new room log_space =
    subst (λ s. DeskStands tells (record { begun = made_from s; disks = home; logs = files; last = last; since = since; pass = 0; held = nothing; device_turns = 0 }) disks books logs (Some j)
    × IsRoomFor (length s.disks.items) disk_room disks_most × IsRoomFor (length s.logs.items) log_room logs_most) (sym is)
    (rw begun (fresh_stands tells (made_from setup) j last disks books logs home files few_disks few_logs same new moved books_new logs_new), room, log_space)

-- what the disks are that a run gives back
pub disks_end : {D L Q : Type 0} (told : D → Option Disk) (faults : D → ℕ) (d : DeskState D L Q) (places : List (Option D)) (disks : List D) (held : Option ℕ) → AreHome (length d.begun.disks) held (DiskIsHome told faults d.begun.disks d.last.entries) places → map (λ a. Some a) disks ≡ places → DeskDisksEnded told faults d disks
disks_end {D} told faults d places disks held are back = record {
  counted = sym (length-map disks (λ (a : D). Some a)) ∙ ap length back ∙ are.counted;
  each = λ s disk is. are.home s disk (ap (λ ps. slice_get ps s) (sym back) ∙ slice_get-map (λ (a : D). Some a) disks s ∙ ap (option_map (λ (a : D). Some a)) is);
}

-- what the logs are
log_at : {L : Type 0} (o : Option (Option (LogTurnState L))) (file : L) → Some (Some file) ≡ option_map (option_map (λ (l : LogTurnState L). l.file)) o → (log : LogTurnState L) × (o ≡ Some (Some log)) × (log.file ≡ file)
log_at None file is = absurd (cc)
log_at (Some None) file is = absurd (cc)
log_at (Some (Some log)) file is = (log, refl, cc)

pub logs_end : {D L Q : Type 0} (told : L → Option Log) (faults : L → ℕ) (d : DeskState D L Q) (places : List (Option (LogTurnState L))) (logs : List L) (held : Option ℕ) → AreHome (length d.begun.logs) held (LogIsHome told faults d.begun.logs d.last.entries) places → map (λ a. Some a) logs ≡ map (option_map (λ (l : LogTurnState L). l.file)) places → DeskLogsEnded told faults d logs
logs_end {D} {L} {Q} told faults d places logs held are back = record {
  counted = sym (length-map logs (λ (a : L). Some a)) ∙ ap length back ∙ length-map places (option_map (λ (l : LogTurnState L). l.file)) ∙ are.counted;
  each = λ handle file is. ends handle file (log_at (slice_get places handle) file
      (sym (slice_get-map (λ (a : L). Some a) logs handle ∙ ap (option_map (λ (a : L). Some a)) is) ∙ ap (λ ps. slice_get ps handle) back
      ∙ slice_get-map (option_map (λ (l : LogTurnState L). l.file)) places handle));
}
  where
    ends : (handle : ℕ) (file : L) → (log : LogTurnState L) × (slice_get places handle ≡ Some (Some log)) × (log.file ≡ file) → FileStands told faults (log_at_first told faults (slice_get d.begun.logs handle)) d.last.entries handle file
    ends handle file at = (at.0, (are.home handle at.0 at.1).stands, (are.home handle at.0 at.1).handle_is, at.2)

-- nothing happened to any stream
pub history_none : (s : ℕ) → history [] s ≡ []
unfolding history
history_none s = refl

-- What a pass holds goes on standing as it takes a turn more, and a journal with nothing new may be given.
use Rattle.std.specs.Prelude.{◌≡◌, ℕ, true, List, [], Option, Some}
use Rattle.std.proofs.Common.{refl, ap, ◌∙◌}
use Rattle.std.proofs.lemmas.Bool.{eq-eqb}
use Rattle.cc_entry.specs.declared.entry.Entry.{Entry}
use Rattle.cc_traits.specs.Disk.{Disk}
use Rattle.cc_traits.specs.Log.{Log}
use Rattle.cc_book.specs.Book.{BookState, BookStands}
use Rattle.cc_log.specs.Turn.{LogTurnState}
use Rattle.cc_model.specs.History.{history}
use Rattle.cc_model.specs.Images.{open_of}
use Rattle.cc_model.specs.Turns.{Device, Book, Log as log_turn}
use Rattle.cc_laws.proofs.TurnSteps.{is_quiet-none}
use Rattle.cc_turns.specs.Standing.{Standing, is_the}
use Rattle.cc_turns.specs.Disk.{DiskStands}
use Rattle.cc_turns.specs.Log.{LogStands}
use Rattle.cc_turns.specs.Takes.{Takes, AddsEvent}
use Rattle.cc_turns.proofs.BookGrows.{book_grows}
use Rattle.cc_turns.proofs.DiskGrows.{disk_grows, open_of-quiet}
use Rattle.cc_turns.proofs.LogGrows.{log_grows}

is_held : (n : ℕ) (held : Option ℕ) → held ≡ Some n → is_the n held ≡ true
is_held n held is = rw is (eq-eqb n n refl)

-- a take leaves what the pass knows of the run
pub setup_kept : (now : Standing → Standing) (w v : Standing) → Takes now w v → (now w).setup ≡ w.setup → v.setup ≡ w.setup
setup_kept now w v takes same = ap (λ x. x.setup) takes.same ∙ same

pub disks_kept : (now : Standing → Standing) (w v : Standing) (s : ℕ) → Takes now w v → (now w).disks ≡ w.disks → v.disks s ≡ w.disks s
disks_kept now w v s takes same = ap (λ x. x.disks s) takes.same ∙ ap (λ disks. disks s) same

pub logs_kept : (now : Standing → Standing) (w v : Standing) (handle : ℕ) → Takes now w v → (now w).logs ≡ w.logs → v.logs handle ≡ w.logs handle
logs_kept now w v handle takes same = ap (λ x. x.logs handle) takes.same ∙ ap (λ logs. logs handle) same

-- a book that is held goes on standing
pub book_kept : (now : Standing → Standing) (w v : Standing) (s : ℕ) (b : BookState) → Takes now w v → (now w).setup ≡ w.setup → w.held.book ≡ Some s → b.stream ≡ s → BookStands (w.setup.opening s) w.seen b → BookStands (v.setup.opening s) v.seen b
book_kept now w v s b takes same held is stands =
    rw (setup_kept now w v takes same, takes.grows.grew)
    (book_grows takes.grows.later w.seen s (w.setup.opening s) b (takes.grows.quiet (Book s) (is_held s w.held.book held)) is stands)

-- so does a disk, and no transfer of it begins or ends
pub disk_kept : {D : Type 0} (told : D → Option Disk) (faults : D → ℕ) (now : Standing → Standing) (w v : Standing) (s : ℕ) (disk : D) → Takes now w v → (now w).disks ≡ w.disks → w.held.device ≡ Some s → DiskStands told faults (w.disks s) w.seen s disk → DiskStands told faults (v.disks s) v.seen s disk
disk_kept told faults now w v s disk takes same held stands =
    rw (disks_kept now w v s takes same, takes.grows.grew)
    (disk_grows told faults (w.disks s) takes.grows.later w.seen s disk (takes.grows.quiet (Device s) (is_held s w.held.device held)) stands)

pub transfer_kept : (now : Standing → Standing) (w v : Standing) (s : ℕ) → Takes now w v → w.held.device ≡ Some s → open_of (history v.seen s) ≡ open_of (history w.seen s)
transfer_kept now w v s takes held =
    ap (λ past. open_of (history past s)) takes.grows.grew
    ∙ open_of-quiet takes.grows.later w.seen s (takes.grows.quiet (Device s) (is_held s w.held.device held))

-- so does a log
pub log_kept : {L : Type 0} (told : L → Option Log) (faults : L → ℕ) (now : Standing → Standing) (w v : Standing) (handle : ℕ) (log : LogTurnState L) → Takes now w v → (now w).logs ≡ w.logs → w.held.log ≡ Some handle → log.handle ≡ handle → LogStands told faults (w.logs handle) w.seen log → LogStands told faults (v.logs handle) v.seen log
log_kept told faults now w v handle log takes same held is stands =
    rw (logs_kept now w v handle takes same, takes.grows.grew)
    (log_grows told faults (w.logs handle) takes.grows.later w.seen log (rw is (takes.grows.quiet (log_turn handle) (is_held handle w.held.log held))) stands)

-- a journal with no entry more than the pass has seen may be given
pub adds_nothing : (w : Standing) (entries : List Entry) → entries ≡ w.seen → AddsEvent w entries
adds_nothing w entries same = record { added = []; grew = same; event = tt; held = λ t there free. is_quiet-none t; own = tt }

-- What a tick of the lazy writer leaves, and its parts: the scan, and the writing of the pages that it picked.
use Rattle.std.specs.Prelude.{◌≡◌, ℕ, ◌⊎◌, ◌+◌, ◌≤◌, Bool, true, nat_lt, Result, Ok, Err, List, ◌∷◌, ◌++◌, length, reverse}
use Rattle.std.specs.List.{list_all, list_any, count_by, IsDistinct}
use Rattle.cc_entry.specs.Place.{Page}
use Rattle.cc_entry.specs.declared.answer.Tick.{Tick}
use Rattle.cc_entry.specs.declared.error.CcError.{CcError}
use Rattle.cc_entry.specs.declared.error.CcError.TheVariants as error
use Rattle.cc_entry.specs.declared.entry.Entry.{Entry}
use Rattle.cc_entry.specs.declared.entry.Entry.TheVariants as entry
use Rattle.cc_effects.specs.Asked.{Writes}
use Rattle.cc_effects.specs.Moments.{own, IsIdle, Between}
use Rattle.cc_effects.specs.PageWrites.{PageWrite as Became, BecameOfAll, CutOffSo, HadMemory, HasScanned, TickLeft, are_in_order, has_end, is_failed_page, is_log_failure, is_not_logged, is_skipped, is_written, pages_begun, pages_ended}
use Rattle.cc_effects.specs.Places.{Works}
use Rattle.cc_journal.specs.Journal.{JournalState}
use Rattle.cc_model.specs.Good.{IsGood}
use Rattle.cc_model.specs.Passes.{is_same_page}
use Rattle.cc_model.specs.Pick.{pick}
use Rattle.cc_model.specs.Setup.{Setup}
use Rattle.cc_turns.specs.Standing.{Standing}
use Rattle.cc_turns.specs.Takes.{Grows}
use Rattle.cc_writes.specs.Fetch.{WentOn}
use Rattle.cc_writes.specs.Logs.{IsStopAt, IsWant}
use Rattle.cc_writes.specs.Visits.{HasPlaced}
use Rattle.cc_writes.specs.Ways.{IsFullError}
use Rattle.cc_writes.specs.Writes.{IsToWrite}
use Rattle.cc_calls.specs.declared.page_writes.PageWriteAnswer.{PageWriteAnswer}
use Rattle.cc_calls.specs.declared.page_writes.PageWriteAnswer.TheVariants as write
use Rattle.cc_calls.specs.declared.ticks.TickCounts.{TickCounts}

-- A page that a scan of the pass picked since a moment is to be written: it is dirty, and no pin owes it a stamp.
pub record HasPicked (me : ℕ) (old new : List Entry) : Type 0 where
  pub picked : List Page
  pub during : List Entry
  pub scanned : HasScanned me picked during old new
  pub page : Page
  pub among : list_any (is_same_page page) picked ≡ true
  pub to_write : IsToWrite page new

-- Where a tick finds the journal full, the pass placed nothing, and there is no room for the entry of its scan; or a page that
-- it picked is to be written as it finds that, and there is none for the begin of its transfer with the end.
abbrev pub IsFullTick : Standing → Standing → Result Tick CcError → Type 0
IsFullTick old new (Err (error.JournalFull entries)) =
    (IsIdle old.number old.seen new.seen × IsFullError 1 new (error.JournalFull entries))
    ⊎ (HasPicked old.number old.seen new.seen × IsFullError 2 new (error.JournalFull entries))
IsFullTick old new other = Unit {0}

-- A tick was answered so: it left what explains its answer, a journal that is full is full, the pass goes on as it stood and
-- may call again, and what it has seen is good. So its scan picked what the definition picks at its front.
pub record TickEnds (old new : Standing) (answer : Result Tick CcError) : Type 0 where
  pub left : TickLeft old.number answer old.seen new.seen
  pub full : IsFullTick old new answer
  pub goes_on : WentOn old new
  pub good : IsGood old.setup new.seen

-- the three numbers of a tick sum to how many pages were picked
abbrev pub AddsUp : Tick → Type 0
AddsUp tick = tick.written + tick.skipped + tick.failed ≡ length tick.picked

-- whether a page is of a stream that has a disk, where so many streams have one
abbrev pub has_disk : ℕ → Page → Bool
has_disk streams page = nat_lt page.stream streams

-- Pages that a scan picked: each is of a stream that has a disk, no two are the same, and they are no more than the cache may
-- have dirty.
pub record ArePicked (streams : ℕ) (pages : List Page) : Type 0 where
  pub known : list_all (has_disk streams) pages ≡ true
  pub distinct : IsDistinct is_same_page pages
  pub few : length pages ≤ 16384

-- Others went on, and then the pass placed its scan; or it placed nothing, for want of room or of memory.
abbrev pub ScanLeft : Standing → Result (List Page) CcError → List Entry → Type 0
ScanLeft w (Ok picked) seen = HasPlaced w (entry.Scan w.number picked) seen × ArePicked w.streams picked
ScanLeft w (Err e) seen = Grows w seen × IsWant e

-- The pages that a scan picks, twice, each of a stream that has a disk.
pub record IsPickedTwice {Q : Type 0} (streams : ℕ) (j : JournalState Q) (pages : List Page × List Page) : Type 0 where
  pub is_pick : (u : Setup) → u.threshold ≡ j.threshold → pages.0 ≡ pick u j.entries
  pub known : list_all (has_disk streams) pages.0 ≡ true
  pub again : pages.1 ≡ pages.0

-- The scan of a journal in hand.
pub record HasScannedIn {Q : Type 0} (pass streams : ℕ) (picked : List Page) (j k : JournalState Q) : Type 0 where
  pub is_pick : (u : Setup) → u.threshold ≡ j.threshold → picked ≡ pick u j.entries
  pub are_picked : ArePicked streams picked
  pub placed : k ≡ record j { entries = entry.Scan pass picked ∷ j.entries; rows = k.rows }

abbrev pub ScanIn : {Q : Type 0} → ℕ → ℕ → Result (List Page) CcError → JournalState Q → JournalState Q → Type 0
ScanIn pass streams (Ok picked) j k = HasScannedIn pass streams picked j k
ScanIn pass streams (Err e) j k = IsStopAt 1 j e × (k ≡ j)

-- Of pages that are to be written the first were written, or not, in their order, and each is counted by what became of it.
pub record AreWritten (me : ℕ) (pages first : List Page) (counts : TickCounts) (old new : List Entry) : Type 0 where
  pub during : List Entry
  pub grew : new ≡ during ++ old
  pub works : Works me (Writes pages) during old
  pub in_order : are_in_order (pages_begun (own me during)) (reverse first) ≡ true
  pub memory : HadMemory me during
  pub once : pages_ended me during ≤ length first
  pub ended : (page : Page) → has_end (λ how. true) me page during ≡ true → list_any (is_same_page page) first ≡ true
  pub ends : List Became
  pub became : BecameOfAll me first ends during old
  pub written : counts.written ≡ count_by is_written ends
  pub skipped : counts.skipped ≡ count_by is_skipped ends
  pub failed : counts.failed ≡ count_by is_failed_page ends
  pub by_logs : count_by is_not_logged ends ≤ count_by is_log_failure (own me during)

-- what is counted with one page more, by what is told of it
abbrev pub counted_page : PageWriteAnswer → TickCounts → TickCounts
counted_page write.Written counts = record counts { written = counts.written + 1 }
counted_page write.Skipped counts = record counts { skipped = counts.skipped + 1 }
counted_page write.Failed counts = record counts { failed = counts.failed + 1 }

-- how many pages are counted
abbrev pub pages_counted : TickCounts → ℕ
pages_counted counts = counts.written + counts.skipped + counts.failed

-- Room or memory was wanting while they were written.
pub record AreCutOff (me : ℕ) (pages : List Page) (e : CcError) (old new : List Entry) : Type 0 where
  pub during : List Entry
  pub grew : new ≡ during ++ old
  pub works : Works me (Writes pages) during old
  pub in_order : are_in_order (pages_begun (own me during)) (reverse pages) ≡ true
  pub want : IsWant e
  pub so : CutOffSo me pages e during

-- What the writing of pages left, by cases over how it was counted.
abbrev pub AllLeft : ℕ → List Page → Result TickCounts CcError → Between
AllLeft me pages (Ok counts) old new = AreWritten me pages pages counts old new
AllLeft me pages (Err e) old new = AreCutOff me pages e old new

-- Where it finds the journal full, one of the pages is to be written, and there is no room for the entries of its transfer.
abbrev pub IsFullAmong : List Page → Standing → Result TickCounts CcError → Type 0
IsFullAmong pages w (Err (error.JournalFull entries)) =
    ((page : Page) × (list_any (is_same_page page) pages ≡ true) × IsToWrite page w.seen)
    × IsFullError 2 w (error.JournalFull entries)
IsFullAmong pages w other = Unit {0}

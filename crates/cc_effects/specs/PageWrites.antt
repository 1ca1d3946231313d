-- What the lazy writer leaves: the writing of one page, and a tick. Neither has a call's entry.
use Rattle.std.specs.Prelude.{◌≡◌, ℕ, ◌≤◌, ◌<◌, Bool, true, false, not, ◌&&◌, ◌||◌, List, [], ◌∷◌, ◌++◌, length, reverse, Result, Ok, Err, ◌⊎◌, if◌then◌else◌}
use Rattle.std.specs.declared.option.Option.TheVariants.{Some}
use Rattle.std.specs.List.{list_any, count_by}
use Rattle.cc_entry.specs.Place.{Page}
use Rattle.cc_entry.specs.declared.answer.Tick.{Tick}
use Rattle.cc_entry.specs.declared.error.CcError.{CcError}
use Rattle.cc_entry.specs.declared.error.CcError.TheVariants as error
use Rattle.cc_entry.specs.declared.entry.End.{End}
use Rattle.cc_entry.specs.declared.entry.Entry.{Entry}
use Rattle.cc_entry.specs.declared.entry.Entry.TheVariants as entry
use Rattle.cc_model.specs.History.{history}
use Rattle.cc_model.specs.Sizes.{ended_ok}
use Rattle.cc_model.specs.Touches.{is_dirty, is_mapped}
use Rattle.cc_model.specs.Settings.{log_of}
use Rattle.cc_model.specs.Stamps.{is_unstamped}
use Rattle.cc_model.specs.Faults.{is_failed}
use Rattle.cc_model.specs.Passes.{is_same_page, is_mine}
use Rattle.cc_effects.specs.Moments.{own, Others, IsIdle, AtSome, Between}
use Rattle.cc_effects.specs.Asked.{Writes}
use Rattle.cc_effects.specs.Places.{Works}
use Rattle.cc_effects.specs.Stops.{found_no_memory}

-- what became of a page that was to be written
pub data PageWrite : Type 0 where
  Written : PageWrite
  Skipped : PageWrite
  -- since the disk failed, and since the log failed
  NotWritten : PageWrite
  NotLogged : PageWrite

-- whether an entry ends a transfer of the page, and how: in any way, well, or by a fault
abbrev pub is_end_of : (End → Bool) → Page → Entry → Bool
is_end_of test page (entry.WriteEnd pass other how) = is_same_page page other && test how
is_end_of test page other = false

-- whether the pass ended a transfer of the page so
abbrev pub has_end : (End → Bool) → ℕ → Page → List Entry → Bool
has_end test me page during = list_any (is_end_of test page) (own me during)

-- the log of the page's stream failed in the pass's hands
pub record HasLogFailed (me : ℕ) (page : Page) (during old : List Entry) : Type 0 where
  pub handle : ℕ
  pub after : List Entry
  pub before : List Entry
  pub split : during ≡ after ++ entry.LogFailed me handle ∷ before
  pub log : log_of (history (before ++ old) page.stream) ≡ Some handle

-- whether a page is not written as it stands: it is not dirty, its stream has no map, or it is Unstamped
abbrev pub is_passed_over : Page → List Entry → Bool
is_passed_over page past =
    let h = history past page.stream in
    not (is_dirty h page.page) || (not (is_mapped h) || is_unstamped h page.page)

-- the pass ended no transfer of the page, which at a moment was not to be written
pub record IsPassedOver (me : ℕ) (page : Page) (during old : List Entry) : Type 0 where
  pub untouched : has_end (λ how. true) me page during ≡ false
  pub moment : AtSome (λ moment. is_passed_over page moment ≡ true) old (during ++ old)

-- what became of the page, by what the pass placed
abbrev pub BecameOf : ℕ → Page → PageWrite → List Entry → List Entry → Type 0
BecameOf me page Written during old = has_end ended_ok me page during ≡ true
BecameOf me page Skipped during old = IsPassedOver me page during old
BecameOf me page NotWritten during old = has_end is_failed me page during ≡ true
BecameOf me page NotLogged during old = HasLogFailed me page during old

-- no transfer found no memory, which would be the answer
abbrev pub HadMemory : ℕ → List Entry → Type 0
HadMemory me during = list_any found_no_memory (own me during) ≡ false

-- whether an entry is the last that the writing of a page places: the end of its transfer, or its log's failure
abbrev pub ends_page : Entry → Bool
ends_page (entry.WriteEnd pass page how) = true
ends_page (entry.LogFailed pass handle) = true
ends_page other = false

-- how many pages the pass came to the end of
abbrev pub pages_ended : ℕ → List Entry → ℕ
pages_ended me during = count_by ends_page (own me during)

-- one page was to be written, and this became of it
pub record PageLeft (me : ℕ) (page : Page) (written : PageWrite) (old new : List Entry) : Type 0 where
  pub during : List Entry
  pub grew : new ≡ during ++ old
  pub works : Works me (Writes (page ∷ [])) during old
  pub memory : HadMemory me during
  pub once : pages_ended me during ≤ 1
  pub became : BecameOf me page written during old

-- A transfer of the pass found no memory: it placed nothing after, and no transfer had found none before.
pub record WantedMemory (me : ℕ) (during : List Entry) : Type 0 where
  pub since : List Entry
  pub want : Entry
  pub before : List Entry
  pub split : during ≡ since ++ want ∷ before
  pub is_own : is_mine me want ≡ true
  pub is_want : found_no_memory want ≡ true
  pub quiet : Others me since
  pub memory : HadMemory me before

-- What may stand where memory was wanting, and where the journal had no room: then a page is left, whose entries
-- found none.
abbrev pub CutOffSo : ℕ → List Page → CcError → List Entry → Type 0
CutOffSo me pages error.NoMemory during = HadMemory me during ⊎ WantedMemory me during
CutOffSo me pages other during = HadMemory me during × (pages_ended me during < length pages)

-- room or memory were wanting while pages were written
pub record IsCutOff (me : ℕ) (pages : List Page) (e : CcError) (old new : List Entry) : Type 0 where
  pub during : List Entry
  pub grew : new ≡ during ++ old
  pub works : Works me (Writes pages) during old
  pub so : CutOffSo me pages e during

-- the writing of one page
abbrev pub PageWriteLeft : ℕ → Page → Result PageWrite CcError → Between
PageWriteLeft me page (Ok written) old new = PageLeft me page written old new
PageWriteLeft me page (Err (error.JournalFull entries)) old new = IsCutOff me (page ∷ []) (error.JournalFull entries) old new
PageWriteLeft me page (Err error.NoMemory) old new = IsCutOff me (page ∷ []) error.NoMemory old new
PageWriteLeft me page (Err other) old new = ⊥

-- this became of each of the pages
abbrev pub BecameOfAll : ℕ → List Page → List PageWrite → List Entry → List Entry → Type 0
BecameOfAll me [] [] during old = Unit {0}
BecameOfAll me (page ∷ pages) (one ∷ all) during old = BecameOf me page one during old × BecameOfAll me pages all during old
BecameOfAll me pages all during old = ⊥

abbrev pub is_written : PageWrite → Bool
is_written Written = true
is_written Skipped = false
is_written NotWritten = false
is_written NotLogged = false

abbrev pub is_skipped : PageWrite → Bool
is_skipped Written = false
is_skipped Skipped = true
is_skipped NotWritten = false
is_skipped NotLogged = false

abbrev pub is_not_logged : PageWrite → Bool
is_not_logged Written = false
is_not_logged Skipped = false
is_not_logged NotWritten = false
is_not_logged NotLogged = true

-- whether a page failed, by the disk or by the log
abbrev pub is_failed_page : PageWrite → Bool
is_failed_page each = not (is_written each || is_skipped each)

abbrev pub is_log_failure : Entry → Bool
is_log_failure (entry.LogFailed pass handle) = true
is_log_failure other = false

-- the pages whose transfers begin in a list of entries, in its order
abbrev pub pages_begun : List Entry → List Page
pages_begun [] = []
pages_begun (entry.WriteBegin pass page ∷ entries) = page ∷ pages_begun entries
pages_begun (other ∷ entries) = pages_begun entries

-- whether pages are some of others, in the same order
abbrev pub are_in_order : List Page → List Page → Bool
are_in_order [] among = true
are_in_order (page ∷ pages) [] = false
are_in_order (page ∷ pages) (first ∷ among) =
    if is_same_page page first then are_in_order pages among else are_in_order (page ∷ pages) among

-- A scan of the pass stands in the stretch, with what the pass placed after it; before it the pass placed
-- nothing. The pass began transfers in the order in which the scan picked their pages.
pub record HasScanned (me : ℕ) (picked : List Page) (during old new : List Entry) : Type 0 where
  pub before : List Entry
  pub grew : new ≡ during ++ (entry.Scan me picked ∷ (before ++ old))
  pub quiet : Others me before
  pub works : Works me (Writes picked) during (entry.Scan me picked ∷ (before ++ old))
  pub in_order : are_in_order (pages_begun (own me during)) (reverse picked) ≡ true

-- A tick: its scan, and then each page that it picked is counted once, by what became of it. No more pages
-- fail by a log than a log failed.
pub record HasTicked (me : ℕ) (tick : Tick) (old new : List Entry) : Type 0 where
  pub during : List Entry
  pub scanned : HasScanned me tick.picked during old new
  pub memory : HadMemory me during
  pub once : pages_ended me during ≤ length tick.picked
  pub ends : List PageWrite
  pub became : BecameOfAll me tick.picked ends during (entry.Scan me tick.picked ∷ (scanned.before ++ old))
  pub written : tick.written ≡ count_by is_written ends
  pub skipped : tick.skipped ≡ count_by is_skipped ends
  pub failed : tick.failed ≡ count_by is_failed_page ends
  pub by_logs : count_by is_not_logged ends ≤ count_by is_log_failure (own me during)

-- room or memory were wanting in a tick: before its scan, or after it
abbrev pub TickCutOff : ℕ → CcError → Between
TickCutOff me e old new =
    IsIdle me old new
    ⊎ ((picked : List Page) × (during : List Entry) × HasScanned me picked during old new × CutOffSo me picked e during)

-- a tick of the lazy writer
abbrev pub TickLeft : ℕ → Result Tick CcError → Between
TickLeft me (Ok tick) old new = HasTicked me tick old new
TickLeft me (Err (error.JournalFull entries)) old new = TickCutOff me (error.JournalFull entries) old new
TickLeft me (Err error.NoMemory) old new = TickCutOff me error.NoMemory old new
TickLeft me (Err other) old new = ⊥

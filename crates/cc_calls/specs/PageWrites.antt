-- What the writing of one page leaves, that the lazy writer picked or that is named.
use Rattle.std.specs.Prelude.{◌≡◌, ℕ, ◌⊎◌, true, Result, Ok, Err, List, [], ◌∷◌, ◌++◌}
use Rattle.std.specs.List.{list_any}
use Rattle.cc_entry.specs.Place.{Page}
use Rattle.cc_entry.specs.declared.error.CcError.{CcError}
use Rattle.cc_entry.specs.declared.error.CcError.TheVariants as error
use Rattle.cc_entry.specs.declared.entry.End.{End}
use Rattle.cc_entry.specs.declared.entry.End.TheVariants as how
use Rattle.cc_entry.specs.declared.entry.Entry.{Entry}
use Rattle.cc_entry.specs.declared.entry.Entry.TheVariants as entry
use Rattle.cc_effects.specs.Asked.{Writes}
use Rattle.cc_effects.specs.Moments.{own, AtSome, Between}
use Rattle.cc_effects.specs.PageWrites.{PageWrite as Became, Written, Skipped, NotWritten, NotLogged, HasLogFailed, PageWriteLeft, is_passed_over}
use Rattle.cc_effects.specs.Places.{Works}
use Rattle.cc_model.specs.Good.{IsGood}
use Rattle.cc_model.specs.Passes.{is_same_page}
use Rattle.cc_turns.specs.Standing.{Standing}
use Rattle.cc_writes.specs.Fetch.{WentOn}
use Rattle.cc_writes.specs.Ways.{IsFullError}
use Rattle.cc_writes.specs.Writes.{IsToWrite}
use Rattle.cc_writes.specs.declared.writes.PageTransfer.{PageTransfer as Transferred}
use Rattle.cc_writes.specs.declared.writes.PageTransfer.TheVariants as transferred
use Rattle.cc_calls.specs.declared.page_writes.PageWriteAnswer.{PageWriteAnswer}
use Rattle.cc_calls.specs.declared.page_writes.PageWriteAnswer.TheVariants as write

-- what is told of a page of which this became: not whether the disk failed or the log
abbrev pub told_page_write : Became → PageWriteAnswer
told_page_write Written = write.Written
told_page_write Skipped = write.Skipped
told_page_write NotWritten = write.Failed
told_page_write NotLogged = write.Failed

-- What the writing of a page left, by cases over its answer: this became of the page, and is told; or room or memory was
-- wanting.
abbrev pub WriteOneLeft : ℕ → Page → Result PageWriteAnswer CcError → Between
WriteOneLeft me page (Ok told) old new = (became : Became) × (told ≡ told_page_write became) × PageWriteLeft me page (Ok became) old new
WriteOneLeft me page (Err e) old new = PageWriteLeft me page (Err e) old new

-- Where the writing of a page finds the journal full, the page is to be written as it finds that, and there is no room for
-- the begin of its transfer with the end.
abbrev pub IsFullPage : Page → Standing → Result PageWriteAnswer CcError → Type 0
IsFullPage page w (Err (error.JournalFull entries)) = IsToWrite page w.seen × IsFullError 2 w (error.JournalFull entries)
IsFullPage page w other = Unit {0}

-- The writing of a page was answered so: it left what explains its answer, a journal that is full is full, the pass goes on as
-- it stood and may call again, and what it has seen is good.
pub record WriteOneEnds (old new : Standing) (page : Page) (answer : Result PageWriteAnswer CcError) : Type 0 where
  pub left : WriteOneLeft old.number page answer old.seen new.seen
  pub full : IsFullPage page new answer
  pub goes_on : WentOn old new
  pub good : IsGood old.setup new.seen

-- the entries of a pass are none, or that a log was flushed
abbrev pub AreOfLog : ℕ → List Entry → Type 0
AreOfLog me entries = (entries ≡ []) ⊎ ((handle : ℕ) × (to : ℕ) × (entries ≡ entry.Flushed me handle to ∷ []))

-- they are those of one transfer of the page, which ended so, and before it that its log was flushed, where it had to be
pub record AreOfTransfer (me : ℕ) (page : Page) (how : End) (entries : List Entry) : Type 0 where
  pub before : List Entry
  pub log : AreOfLog me before
  pub placed : entries ≡ entry.WriteEnd me page how ∷ (entry.WriteBegin me page ∷ before)

-- they are that the log of the page's stream failed
pub record AreOfFailure (me : ℕ) (page : Page) (during old : List Entry) : Type 0 where
  pub failed : HasLogFailed me page during old
  pub only : own me during ≡ entry.LogFailed me failed.handle ∷ []

-- What the pass placed for a page, by cases over the answer. One that was skipped was not to be written at a moment.
abbrev pub PlacedFor : ℕ → Page → Result PageWriteAnswer CcError → List Entry → List Entry → Type 0
PlacedFor me page (Ok write.Written) during old = AreOfTransfer me page how.Good (own me during)
PlacedFor me page (Ok write.Skipped) during old =
    (own me during ≡ []) × AtSome (λ moment. is_passed_over page moment ≡ true) old (during ++ old)
PlacedFor me page (Ok write.Failed) during old =
    AreOfTransfer me page how.Failed (own me during) ⊎ AreOfFailure me page during old
PlacedFor me page (Err (error.JournalFull entries)) during old = AreOfLog me (own me during)
PlacedFor me page (Err error.NoMemory) during old =
    AreOfLog me (own me during) ⊎ AreOfTransfer me page how.NoMemory (own me during)
PlacedFor me page (Err other) during old = ⊥

-- One of the pages that are to be written was written, or not, as the answer says.
pub record IsWrittenOf (me : ℕ) (pages : List Page) (page : Page) (answer : Result PageWriteAnswer CcError)
    (old new : List Entry) : Type 0 where
  pub during : List Entry
  pub grew : new ≡ during ++ old
  pub works : Works me (Writes pages) during old
  pub placed : PlacedFor me page answer during old

-- So of whichever pages it is among.
abbrev pub IsWrittenAmong : ℕ → Page → Result PageWriteAnswer CcError → Between
IsWrittenAmong me page answer old new =
    (pages : List Page) → list_any (is_same_page page) pages ≡ true → IsWrittenOf me pages page answer old new

-- what is answered of a page whose writing ended so
abbrev pub page_write_answer : Result Transferred CcError → Result PageWriteAnswer CcError
page_write_answer (Ok transferred.Written) = Ok write.Written
page_write_answer (Ok transferred.NotWritten) = Ok write.Failed
page_write_answer (Ok (transferred.NotLogged handle)) = Ok write.Failed
page_write_answer (Err e) = Err e

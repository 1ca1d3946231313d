-- What the writing of one page of a noncached write leaves that was ready to be stored.
use Rattle.std.specs.Prelude.{◌≡◌, ℕ, ◌⊎◌, false, Result, Ok, Err, List}
use Rattle.cc_entry.specs.Place.{File, Page}
use Rattle.cc_entry.specs.declared.entry.End.TheVariants as how
use Rattle.cc_entry.specs.declared.entry.Entry.{Entry}
use Rattle.cc_entry.specs.declared.error.CcError.{CcError}
use Rattle.cc_entry.specs.declared.error.CcError.TheVariants as error
use Rattle.cc_effects.specs.Moments.{IsIdle}
use Rattle.cc_effects.specs.Noncached.{IsPageWritten, TransferRefused}
use Rattle.cc_turns.specs.Standing.{Standing}
use Rattle.cc_turns.specs.Takes.{Grows}
use Rattle.cc_writes.specs.Hands.{Went}
use Rattle.cc_writes.specs.Logs.{IsWant}
use Rattle.cc_writes.specs.Transfers.{IsFinished}
use Rattle.cc_ranges.specs.Ends.{HasFinished, HasFailedWrite}

-- The transfer of the stored page ended well, and then the write was done.
pub record StoreIsWritten (w : Standing) (file : File) (page : Page) (seen : List Entry) : Type 0 where
  pub then_was : Standing
  pub went : Went w then_was
  pub finished : IsFinished w page how.Good false then_was.seen
  pub ended : HasFinished then_was file page seen

-- It failed, and then the write told so.
pub record IsUnwritten (w : Standing) (file : File) (page : Page) (seen : List Entry) : Type 0 where
  pub then_was : Standing
  pub went : Went w then_was
  pub finished : IsFinished w page how.Failed false then_was.seen
  pub ended : HasFailedWrite then_was file page seen

-- It found no memory, and then the pass placed nothing.
pub record IsGivenUp (w : Standing) (page : Page) (seen : List Entry) : Type 0 where
  pub then_was : Standing
  pub finished : IsFinished w page how.NoMemory false then_was.seen
  pub idle : IsIdle w.number then_was.seen seen

-- What follows the store of a page, by cases over the answer.
abbrev pub FinishedLeft : Standing → File → Page → ℕ → Result ℕ CcError → List Entry → Type 0
FinishedLeft w file page count (Ok n) seen = (n ≡ count) × StoreIsWritten w file page seen
FinishedLeft w file page count (Err (error.WriteFault failed)) seen = (failed ≡ page.page) × IsUnwritten w file page seen
FinishedLeft w file page count (Err error.NoMemory) seen = IsGivenUp w page seen
FinishedLeft w file page count (Err other) seen = ⊥

-- What the writing of a page leaves that was ready to be stored, by cases over the answer: it was written; there was no
-- room for its store, or no memory; or its transfer failed, or found no memory.
abbrev pub ReadyWriteLeft : Standing → File → ℕ → List ℕ → Result ℕ CcError → List Entry → List Entry → Type 0
ReadyWriteLeft w file page bytes (Ok count) begun seen = IsPageWritten w.number file page bytes count begun seen
ReadyWriteLeft w file page bytes (Err e) begun seen = (Grows w seen × IsWant e) ⊎ TransferRefused w.number file page bytes e begun seen

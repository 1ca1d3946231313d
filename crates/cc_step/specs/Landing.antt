-- A page that a call waits for, and what it takes to bring it in.
use Rattle.std.specs.Prelude.{◌≡◌, ℕ, ◌&&◌, Bool, true, List}
use Rattle.cc_entry.specs.declared.call.Call.{Call}
use Rattle.cc_entry.specs.declared.entry.Entry.{Entry}
use Rattle.cc_book.specs.Book.{BookState}
use Rattle.cc_effects.specs.Asked.{brings_in}
use Rattle.cc_journal.specs.Journal.{JournalState}
use Rattle.cc_model.specs.History.{history}
use Rattle.cc_model.specs.Setup.{Setup}
use Rattle.cc_step.specs.Step.{is_stepped, is_awaited}
use Rattle.cc_step.specs.Fill.{MayFill}
use Rattle.cc_step.specs.Room.{has_room, IsWaiting}

-- whether a call waits for a page for whose block there is room
abbrev pub is_wanted : Setup → List Entry → ℕ → Call → ℕ → Bool
is_wanted u past s it page = is_awaited u past s it page && has_room (history past s) page

-- a call waits for a page for whose block there is room
pub record IsWanted (u : Setup) (past : List Entry) (s : ℕ) (it : Call) (page : ℕ) : Type 0 where
  pub waits : IsWaiting u past s it page
  pub room : has_room (history past s) page ≡ true

-- what a pass asks of a book on which a page that a call waits for comes in
pub record MayBring {Q : Type 0} (u : Setup) (pass : ℕ) (it : Call) (page : ℕ)
    (b : BookState) (j : JournalState Q) : Type 0 where
  pub may : MayFill u pass it b j
  pub stepped : is_stepped it ≡ true
  pub brings : brings_in it ≡ true
  pub wanted : IsWanted u j.entries b.stream it page

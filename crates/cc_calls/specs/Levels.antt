-- What a question for the levels of a view index leaves.
use Rattle.std.specs.Prelude.{◌≡◌, ℕ, true, false, List, Result, Ok, Err}
use Rattle.std.specs.declared.option.Option.{Option}
use Rattle.std.specs.Result.{OnErr}
use Rattle.cc_entry.specs.Place.{File}
use Rattle.cc_entry.specs.declared.error.CcError.{CcError}
use Rattle.cc_entry.specs.declared.error.CcError.TheVariants as error
use Rattle.cc_entry.specs.declared.entry.Entry.{Entry}
use Rattle.cc_book.specs.Book.{BookState, BookStands}
use Rattle.cc_effects.specs.Levels.{LevelsLeft}
use Rattle.cc_model.specs.History.{history}
use Rattle.cc_model.specs.Reasons.{is_open}
use Rattle.cc_model.specs.Touches.{size_of}
use Rattle.cc_turns.specs.Standing.{Standing}
use Rattle.cc_vacb.specs.Levels.{levels_of}
use Rattle.cc_writes.specs.Hands.{Went}
use Rattle.cc_calls.specs.Pages.{StaysGood}

-- The levels of a stream were asked: they are those of its size at a moment of the call at which the object was open, or it
-- was not open at one. No room and no memory were asked, so nothing else is answered. The pass placed nothing, goes on as it
-- stood, and what it has seen stays good.
pub record LevelsEnds (old new : Standing) (file : File) (answer : Result ℕ CcError) : Type 0 where
  pub left : LevelsLeft levels_of old.number file answer old.seen new.seen
  pub sure : (e : CcError) → answer ≡ Err e → e ≡ error.NotCached
  pub goes_on : Went old new
  pub good : StaysGood old new

-- what a book tells of the levels of its stream for an object, wherever it stands
abbrev pub IsKeptOf : File → Result ℕ CcError → List Entry → Type 0
IsKeptOf file (Ok n) past = (is_open (history past file.stream) file ≡ true) × (n ≡ levels_of (size_of (history past file.stream)))
IsKeptOf file (Err e) past = (e ≡ error.NotCached) × (is_open (history past file.stream) file ≡ false)

abbrev pub LevelsKept : BookState → File → Result ℕ CcError → Type 0
LevelsKept book file answer = (opening : Option (ℕ → List ℕ)) (past : List Entry) → BookStands opening past book → IsKeptOf file answer past

-- A tick: where it is told of a full journal it found it so, what it leaves explains its line, and the words stand on.
use Rattle.std.specs.Prelude.{ℕ, Ok, Err, List, refl}
use Rattle.std.proofs.Common.{inl, inr, arith}
use Rattle.cc_entry.specs.declared.answer.Answer.{Answer}
use Rattle.cc_entry.specs.declared.answer.Answer.TheVariants as answer
use Rattle.cc_entry.specs.declared.entry.Entry.{Entry}
use Rattle.cc_entry.specs.declared.error.CcError.{CcError}
use Rattle.cc_entry.specs.declared.error.CcError.TheVariants as error
use Rattle.cc_script.specs.declared.script.Action.TheVariants as action
use Rattle.cc_model.specs.Good.{IsGood}
use Rattle.cc_own.specs.Own.{IsUnchanged}
use Rattle.cc_own.proofs.VerbsKeep.{tick-unchanged}
use Rattle.cc_pieces.specs.Answered.{TickAnswered}
use Rattle.cc_calls.specs.Pages.{WentOn}
use Rattle.cc_calls.specs.Ticks.{IsFullTick}
use Rattle.cc_turns.specs.Standing.{Standing}
use Rattle.cc_lines.specs.Holds.{NamesState}
use Rattle.cc_lines.specs.Line.{IsFullTold, LineServed}
use Rattle.cc_lines.proofs.WordLines.{full-told, stand-on}

pub tick-full : (old new : Standing) (e : CcError) → IsFullTick old new (Err e) → IsFullTold new (answer.Refused e)
tick-full old new (error.JournalFull entries) (inl full) = full-told 1 new (error.JournalFull entries) (omega arith) full.1
tick-full old new (error.JournalFull entries) (inr full) = full-told 2 new (error.JournalFull entries) (omega arith) full.1
tick-full old new other full = tt

ticked-unchanged : (me : ℕ) (told : Answer) (old new : List Entry) → TickAnswered me told old new → (id : ℕ) → IsUnchanged me id old new
ticked-unchanged me (answer.Ticked tick) old new left id = tick-unchanged me id (Ok tick) old new left
ticked-unchanged me (answer.Refused e) old new left id = tick-unchanged me id (Err e) old new left
ticked-unchanged me other old new left id = absurd left

pub tick-line : (old new : Standing) (told : Answer) (names : NamesState) → IsFullTold new told → WentOn old new → IsGood old.setup new.seen → TickAnswered old.number told old.seen new.seen → LineServed old new action.Tick told names names
tick-line old new told names full went good left = record {
  served = λ bounds bindings stand right. (left, stand-on old new went good bounds bindings names (ticked-unchanged old.number told old.seen new.seen left) stand);
  full = inl full;
  goes_on = went;
  good = good;
  room = refl;
  placed = refl;
}

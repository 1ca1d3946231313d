-- What a read through a hold is told, and a call on a hold that is not made for want of memory.
use Rattle.std.specs.Prelude.{◌≡◌, ℕ, true, Bool, Ok, Err, List}
use Rattle.std.proofs.Common.{sym, subst, arith}
use Rattle.cc_entry.specs.declared.answer.Answer.TheVariants as answer
use Rattle.cc_entry.specs.declared.call.Call.{Call}
use Rattle.cc_entry.specs.declared.error.CcError.{CcError}
use Rattle.cc_entry.specs.declared.error.CcError.TheVariants as error
use Rattle.cc_entry.specs.declared.hold.HoldKind.{HoldKind}
use Rattle.cc_entry.specs.declared.reply.Outcome.TheVariants as outcome
use Rattle.cc_entry.specs.declared.reply.Reply.TheVariants as reply
use Rattle.cc_effects.specs.Calls.{CallLeft}
use Rattle.cc_effects.specs.Refusals.{may_refuse, may_want}
use Rattle.cc_turns.specs.Standing.{Standing}
use Rattle.cc_calls.specs.Held.{IsHolding}
use Rattle.cc_calls.specs.Ends.{HeldReadEnds}
use Rattle.cc_calls.specs.declared.held.Held.{Held}
use Rattle.cc_lines.specs.Line.{HeldReadTold}
use Rattle.cc_lines.proofs.Calls.{unplaced}
use Rattle.cc_lines.proofs.WordLines.{full-told, went-none, went-on}

pub no-memory : (w : Standing) (of_kind : HoldKind → Bool) (held : Held) (it : Call) → may_refuse it error.NoMemory ≡ true → may_want it w.seen ≡ true → IsHolding w of_kind held → HeldReadTold w w of_kind held it (answer.Refused error.NoMemory)
no-memory w of_kind held it listed wants holding = record {
  answered = unplaced w.number it w.seen listed wants;
  full = tt;
  goes_on = went-none w;
  good = λ good. good;
  holding = λ good. holding;
}

module _ (old new : Standing) (of_kind : HoldKind → Bool) (held : Held) (it asked : Call) (was now : List ℕ) (same : it ≡ asked) where
  pub read-told : (bytes : List ℕ) → bytes ≡ now → HeldReadEnds old new of_kind held it (Ok tt) was now → HeldReadTold old new of_kind held asked (answer.Given (reply.Read bytes))
  read-told bytes is ends = record {
    answered =
        subst (λ c. CallLeft old.setup old.number c (outcome.Done (reply.Read bytes)) old.seen new.seen) same
        (subst (λ l. CallLeft old.setup old.number it (outcome.Done (reply.Read l)) old.seen new.seen) (sym is) ends.left);
    full = tt;
    goes_on = went-on old new ends.goes_on;
    good = ends.good;
    holding = λ good. ends.holding;
  }

  pub read-refused : (e : CcError) → HeldReadEnds old new of_kind held it (Err e) was now → HeldReadTold old new of_kind held asked (answer.Refused e)
  read-refused e ends = record {
    answered = subst (λ c. CallLeft old.setup old.number c (outcome.Failed e) old.seen new.seen) same ends.left;
    full = full-told 1 new e (omega arith) ends.full;
    goes_on = went-on old new ends.goes_on;
    good = ends.good;
    holding = λ good. ends.holding;
  }

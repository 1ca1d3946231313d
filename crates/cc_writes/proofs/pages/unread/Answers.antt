-- A failed read is a fault that the call may tell, behind the entry of the fill that failed.
use Rattle.std.specs.Prelude.{ℕ, Bool, refl}
use Rattle.std.proofs.Common.{ap, sym, subst, inr}
use Rattle.cc_entry.specs.declared.error.CcError.TheVariants as error
use Rattle.cc_model.specs.Setup.{Setup}
use Rattle.cc_step.proofs.Failing.{stepped-answered}
use Rattle.cc_turns.specs.Standing.{Standing}
use Rattle.cc_writes.specs.Visits.{VisitUnreadLeft, UnreadPlaced}
use Rattle.cc_writes.specs.Ways.{IsHalted}
use Rattle.cc_writes.proofs.Refusals.{may-tell}
use Rattle.cc_writes.proofs.pages.unread.Goals as goal

pub fail-requires-clause-listed : goal.fail-requires-clause-listed
fail-requires-clause-listed g c = may-tell c.args.call (error.ReadFault c.args.page) (stepped-answered c.args.call c.requires.stepped) c.requires.brings refl

pub fail-requires-clause-answered : goal.fail-requires-clause-answered
fail-requires-clause-answered g c = stepped-answered c.args.call c.requires.stepped

pub fail-requires-clause-halted : goal.fail-requires-clause-halted
fail-requires-clause-halted g c =
    let w = g.T.Turns.standing c.args.turns.now in
    let v = g.T.Turns.standing c.unread_at.new.turns in
    let wanted = c.requires.wanted in
    let fault = error.ReadFault c.args.page in
    let left = subst (λ (b : Bool). VisitUnreadLeft w.setup w.number c.args.book.stream c.args.call c.args.page b wanted.0 v.seen) c.if-unread_at.true
    (c.unread_at.ensures.left c.args.call wanted.0 c.requires.brings wanted.1 wanted.2) in (
      wanted.0,
      subst (λ (n : ℕ). IsHalted v.setup n c.args.book.stream c.args.call fault wanted.0 v.seen) (sym (ap (λ (x : Standing). x.number) c.unread_at.ensures.went.same))
          (subst (λ (u : Setup). IsHalted u w.number c.args.book.stream c.args.call fault wanted.0 v.seen) (sym (ap (λ (x : Standing). x.setup) c.unread_at.ensures.went.same)) left),
    )

pub returns-else-unread_at-clause-told : goal.returns-else-unread_at-clause-told
returns-else-unread_at-clause-told g c =
    let w = g.T.Turns.standing c.args.turns.now in
    let x = g.T.Turns.standing c.unread_at.new.turns in
    inr (subst (λ (b : Bool). UnreadPlaced w x c.args.book.stream c.args.page b) c.if-unread_at.false c.unread_at.ensures.placed).0

pub returns-else-unread_at-clause-passed_over : goal.returns-else-unread_at-clause-passed_over
returns-else-unread_at-clause-passed_over g c =
    let w = g.T.Turns.standing c.args.turns.now in
    let x = g.T.Turns.standing c.unread_at.new.turns in
    (subst (λ (b : Bool). UnreadPlaced w x c.args.book.stream c.args.page b) c.if-unread_at.false c.unread_at.ensures.placed).1

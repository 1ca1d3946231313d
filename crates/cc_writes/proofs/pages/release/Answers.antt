use Rattle.std.proofs.Common.{subst, sym}
use Rattle.std.specs.Prelude.{Result}
use Rattle.cc_entry.specs.declared.call.Call.{Call}
use Rattle.cc_entry.specs.declared.error.CcError.{CcError}
use Rattle.cc_step.proofs.Failing.{stepped-answered}
use Rattle.cc_writes.proofs.Refusals.{brings-free}
use Rattle.cc_writes.specs.Calls.{PageStepLeft}
use Rattle.cc_writes.proofs.Halting.{no-memory}
use Rattle.cc_writes.proofs.pages.release.Goals as goal

pub returns-clause-book : goal.returns-clause-book
returns-clause-book g c = c.release_at.ensures.book c.args.book.stream c.args.book c.requires.book

pub returns-clause-left : goal.returns-clause-left
returns-clause-left g c begun way =
    let w = g.T.Turns.standing c.args.turns.now in
    let v = g.T.Turns.standing c.release_at.new.turns in
    subst (λ (r : Result Call CcError). PageStepLeft w.setup w.number c.args.call r begun v.seen) (sym c.given_up.ensures)
    (no-memory w.number c.args.call begun v.seen (stepped-answered c.args.call c.requires.stepped) (brings-free c.args.call c.requires.brings) (c.release_at.ensures.left c.args.call begun way))

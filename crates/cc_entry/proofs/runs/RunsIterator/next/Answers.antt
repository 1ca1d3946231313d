use Rattle.std.proofs.Common.{arith, length, ap, ◌∙◌, sym}
use Rattle.cc_entry.proofs.Longest.{first_run, no_run}
use Rattle.cc_entry.proofs.runs.RunsIterator.next.Goals as goal

pub returns-in_err-byte-clause-steps : goal.returns-in_err-byte-clause-steps
returns-in_err-byte-clause-steps c =
    let none = sym c.self.view_is ∙ no_run c.self.inside.left (sym c.in_err-byte.ensures) in
    rw c.from_residual.ensures (none, none)

pub returns-clause-steps : goal.returns-clause-steps
returns-clause-steps c =
    sym c.self.view_is ∙ first_run c.in_ok-byte.byte c.skip_same-count.result c.skip_same-count.new.self c.self.inside.left (sym c.skip_same-count.ensures.skipped) (sym c.in_ok-byte.ensures) c.skip_same-count.ensures.all

pub returns-clause-goes : goal.returns-clause-goes
returns-clause-goes c =
    let fewer = ap length (returns-clause-steps c) in
    record { on = λ finite. (tt, tt, omega (arith, fewer)); keeps = tt; rests = λ finite. tt }

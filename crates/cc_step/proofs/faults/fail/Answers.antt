use Rattle.std.proofs.Common.{sym}
use Rattle.cc_step.proofs.faults.fail.Goals as goal

pub answer-requires-clause-may : goal.answer-requires-clause-may
answer-requires-clause-may g c =
    let u = c.requires.may.0 in
    let may = c.requires.may.1 in
    (u, may, sym (c.in-Ok.ensures u (u.opening c.args.book.now.stream) may.may.stand.logs_are may.may.stand.stands))

pub returns-in-Ok : goal.returns-in-Ok
returns-in-Ok g c u may =
    c.answer.ensures u may (sym (c.in-Ok.ensures u (u.opening c.args.book.now.stream) may.may.stand.logs_are may.may.stand.stands))

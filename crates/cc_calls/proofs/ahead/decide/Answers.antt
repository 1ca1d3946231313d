-- By the refusal; and where there is none, by what became of the request that the reads lead to.
use Rattle.std.proofs.Common.{sym, ◌∙◌}
use Rattle.cc_calls.proofs.AskedAhead.{decided-pushed, decided-refused, kept-refused}
use Rattle.cc_calls.proofs.ahead.decide.Goals as goal

pub returns-in-Ok-None-clause-decided : goal.returns-in-Ok-None-clause-decided
returns-in-Ok-None-clause-decided g c = λ u stand.
    decided-pushed u c.args.journal.now.entries c.args.book.now.stream c.args.file c.args.at c.args.len c.ahead_of.result c.push_request.result
    (sym (c.in-Ok-None.ensures u (u.opening c.args.book.now.stream) stand.logs_are stand.stands) ∙ c.in-Ok-None.field-0-is)
    (c.ahead_of.ensures (u.opening c.args.book.now.stream) c.args.journal.now.entries stand.stands) c.push_request.ensures.pushed c.push_request.ensures.full

pub returns-in-Ok-Some-clause-decided : goal.returns-in-Ok-Some-clause-decided
returns-in-Ok-Some-clause-decided g c = λ u stand.
    decided-refused u c.args.journal.now.entries c.args.book.now.stream c.args.file c.args.at c.args.len c.in-Ok-Some.error
    (sym (c.in-Ok-Some.ensures u (u.opening c.args.book.now.stream) stand.logs_are stand.stands) ∙ c.in-Ok-Some.field-0-is)

pub returns-in-Ok-Some-clause-asked : goal.returns-in-Ok-Some-clause-asked
returns-in-Ok-Some-clause-asked g c =
    let u = c.requires.stand.0 in
    let stand = c.requires.stand.1 in
    kept-refused u c.args.journal.now.entries c.args.book.now.stream c.args.file c.args.at c.args.len c.in-Ok-Some.error c.args.place.now
    (sym (c.in-Ok-Some.ensures u (u.opening c.args.book.now.stream) stand.logs_are stand.stands) ∙ c.in-Ok-Some.field-0-is)

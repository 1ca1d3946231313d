-- Without an absent page the range is filled, so the call is ready and may be finished; with one it waits for that.
use Rattle.std.specs.Prelude.{refl}
use Rattle.std.proofs.Common.{sym, ◌∙◌}
use Rattle.cc_model.specs.History.{history}
use Rattle.cc_step.proofs.Filled.{filled-none}
use Rattle.cc_step.proofs.steps.admitted.Goals as goal

pub finish-requires-clause-may : goal.finish-requires-clause-may
finish-requires-clause-may g c =
    let u = c.requires.may.0 in
    let may = c.requires.may.1 in
    let admitted = c.requires.may.2 in
    let past = c.args.journal.now.entries in
    let none = sym (c.in-Ok-None.ensures u (u.opening c.args.book.now.stream) past may.stand.stands admitted) ∙ c.in-Ok-None.field-0-is in
    (u, may, record { admitted = admitted; filled = filled-none (history past c.args.book.now.stream) _ none })

pub returns-in-Ok-Some : goal.returns-in-Ok-Some
returns-in-Ok-Some g c u may admitted =
    let least = sym (c.in-Ok-Some.ensures u (u.opening c.args.book.now.stream) c.args.journal.now.entries may.stand.stands admitted) ∙ c.in-Ok-Some.field-0-is in
    record { admitted = admitted; least = least; call_is = refl; same_book = refl; same_journal = refl }

pub returns-in-Ok-None : goal.returns-in-Ok-None
returns-in-Ok-None g c u may admitted =
    let past = c.args.journal.now.entries in
    let none = sym (c.in-Ok-None.ensures u (u.opening c.args.book.now.stream) past may.stand.stands admitted) ∙ c.in-Ok-None.field-0-is in
    c.finish.ensures u may (record { admitted = admitted; filled = filled-none (history past c.args.book.now.stream) _ none })

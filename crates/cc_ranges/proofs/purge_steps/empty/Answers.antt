-- The least resident page of the span is clean, so it may go out; with none left the purge may be done.
use Rattle.std.proofs.Common.{subst}
use Rattle.cc_entry.specs.Place.{Page}
use Rattle.cc_entry.specs.declared.entry.Entry.TheVariants as entry
use Rattle.cc_book.specs.Book.{Gains}
use Rattle.cc_model.specs.History.{history}
use Rattle.cc_ranges.proofs.Emptying.{all-out}
use Rattle.cc_ranges.proofs.PurgeStepping.{page-numbered, may-take_out, taken-out}
use Rattle.cc_ranges.proofs.purge_steps.empty.Goals as goal

pub page_id-going-requires : goal.page_id-going-requires
page_id-going-requires g c =
    let u = c.requires.may.0 in
    let m = c.requires.may.1 in
    page-numbered u c.args.pass c.args.file c.args.span.now c.args.book.now c.args.journal.now m.may c.requires.reserved m.admitted c.in-Some.page m.clean
    (c.in-Some.ensures u c.args.journal.now.entries m.may.may.stand.good m.may.may.stand.stands)

pub take_out-requires-clause-may : goal.take_out-requires-clause-may
take_out-requires-clause-may g c =
    let u = c.requires.may.0 in
    let m = c.requires.may.1 in
    rw c.page_id-going.ensures
    (may-take_out u c.args.pass c.args.file c.args.span.now c.args.book.now c.args.journal.now m.may c.requires.reserved m.admitted c.in-Some.page m.clean
    (c.in-Some.ensures u c.args.journal.now.entries m.may.may.stand.good m.may.may.stand.stands))

pub end-requires-clause-may : goal.end-requires-clause-may
end-requires-clause-may g c =
    let u = c.requires.may.0 in
    let m = c.requires.may.1 in (
      u,
      record {
        may = m.may;
        admitted = m.admitted;
        out = all-out (history c.args.journal.now.entries c.args.book.now.stream) c.args.span.now (c.in-None.ensures u c.args.journal.now.entries m.may.may.stand.good m.may.may.stand.stands);
      },
    )

pub returns-in-Some-clause-left : goal.returns-in-Some-clause-left
returns-in-Some-clause-left g c u m =
    taken-out u c.args.pass c.args.file c.args.span.now c.args.book.now c.args.journal.now m.may c.requires.reserved m.admitted c.in-Some.page m.clean
    (c.in-Some.ensures u c.args.journal.now.entries m.may.may.stand.good m.may.may.stand.stands)
    c.take_out.new.self c.take_out.new.journal
    (subst (λ (p : Page). Gains (entry.PageOut c.args.pass p) c.args.journal.now c.take_out.new.journal) c.page_id-going.ensures c.take_out.ensures.placed)
    c.take_out.ensures.stands c.take_out.ensures.stream

pub returns-in-None-clause-left : goal.returns-in-None-clause-left
returns-in-None-clause-left g c u m =
    c.end.ensures.left u (record {
      may = m.may;
      admitted = m.admitted;
      out = all-out (history c.args.journal.now.entries c.args.book.now.stream) c.args.span.now (c.in-None.ensures u c.args.journal.now.entries m.may.may.stand.good m.may.may.stand.stands);
    })

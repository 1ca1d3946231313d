-- With room for its block the page is ready; without it, room may be made, and what that leaves is the next step.
use Rattle.std.proofs.Common.{sym, ◌∙◌, subst}
use Rattle.cc_ranges.specs.WriteSteps.{WriteNextLeft}
use Rattle.cc_ranges.specs.declared.write_steps.WriteNext.{WriteNext}
use Rattle.cc_ranges.proofs.WriteStepping.{crowded-here, made-room, ready-here}
use Rattle.cc_ranges.proofs.write_steps.admitted.Goals as goal

pub returns-then-has_room : goal.returns-then-has_room
returns-then-has_room g c u may =
    ready-here u c.args.pass c.args.file c.args.page c.args.book.now c.args.journal.now may
    (sym (c.has_room.ensures (u.opening c.args.book.now.stream) c.args.journal.now.entries may.may.may.stand.stands) ∙ c.if-has_room.true)

pub make_room-requires-clause-may : goal.make_room-requires-clause-may
make_room-requires-clause-may g c =
    let u = c.requires.may.0 in
    let may = c.requires.may.1 in (
      u,
      c.args.page,
      may.may,
      crowded-here u c.args.pass c.args.file c.args.page c.args.book.now c.args.journal.now may
          (sym (c.has_room.ensures (u.opening c.args.book.now.stream) c.args.journal.now.entries may.may.may.stand.stands) ∙ c.if-has_room.false),
    )

pub returns : goal.returns
returns g c u may =
    subst (λ (n : WriteNext). WriteNextLeft u c.args.pass c.args.file c.args.page n c.args.book.now c.make_room.new.book c.args.journal.now c.make_room.new.journal) (sym c.next_of.ensures)
    (made-room u c.args.pass c.args.file c.args.page c.args.book.now c.args.journal.now may c.make_room.result c.make_room.new.book c.make_room.new.journal c.make_room.ensures.way
    (c.make_room.ensures.left u c.args.page may.may (crowded-here u c.args.pass c.args.file c.args.page c.args.book.now c.args.journal.now may
    (sym (c.has_room.ensures (u.opening c.args.book.now.stream) c.args.journal.now.entries may.may.may.stand.stands) ∙ c.if-has_room.false))))

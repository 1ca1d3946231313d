use Rattle.std.proofs.Common.{ap, sym, subst, ◌∙◌}
use Rattle.cc_turns.specs.Standing.{Standing}
use Rattle.cc_turns.specs.Takes.{without_device}
use Rattle.cc_writes.specs.Fetch.{IsFullFetching}
use Rattle.cc_writes.proofs.Fullness.{given-fetching}
use Rattle.cc_writes.proofs.TakingBoth.{both_begun, ended_since}
use Rattle.cc_writes.proofs.rounds.fetch.Goals as goal

pub until_ended-book-requires-clause-both : goal.until_ended-book-requires-clause-both
until_ended-book-requires-clause-both g c =
    both_begun (g.T.Turns.standing c.args.turns.now) (g.T.Turns.standing c.take_device-disk.new.self) (g.T.Turns.standing c.take_book-book.new.self)
    c.args.stream c.requires.can c.take_device-disk.ensures.took c.take_book-book.ensures.took g.T.Disk.Told.told g.T.Disk.Told.faults
    c.take_book-book.result c.take_device-disk.result c.take_device-disk.ensures.opening c.take_device-disk.ensures.stands c.take_device-disk.ensures.at_rest
    c.take_book-book.ensures.stream c.take_book-book.ensures.stands

pub returns-clause-left : goal.returns-clause-left
returns-clause-left g c =
    ended_since (g.T.Turns.standing c.args.turns.now) (g.T.Turns.standing c.take_device-disk.new.self) (g.T.Turns.standing c.take_book-book.new.self)
    c.args.stream c.requires.can c.take_device-disk.ensures.took c.take_book-book.ensures.took (g.T.Turns.standing c.until_ended-book.new.turns)
    (g.T.Turns.standing c.give_device.new.self) c.args.call c.until_ended-book.result.1 c.args.out.now c.until_ended-book.new.out
    (c.give_device.ensures ∙ ap without_device c.give_book.ensures) c.until_ended-book.ensures.left

pub returns-clause-full : goal.returns-clause-full
returns-clause-full g c =
    let y = g.T.Turns.standing c.until_ended-book.new.turns in
    let answer = c.until_ended-book.result.1 in
    subst (λ (z : Standing). IsFullFetching c.args.call z answer) (sym (c.give_device.ensures ∙ ap without_device c.give_book.ensures))
    (given-fetching c.args.call y answer c.until_ended-book.ensures.full)

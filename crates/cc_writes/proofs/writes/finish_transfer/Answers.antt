-- The transfer is open still after it was carried, since its disk was in hand; so it may end.
use Rattle.std.proofs.Common.{ap, ◌∙◌}
use Rattle.cc_writes.proofs.OneVisit.{went-held, went-then}
use Rattle.cc_writes.proofs.Quiet.{holds_the_book}
use Rattle.cc_writes.proofs.Writing.{still_begun, finished, both-finished}
use Rattle.cc_writes.proofs.writes.finish_transfer.Goals as goal

pub end_at-requires-clause-begun : goal.end_at-requires-clause-begun
end_at-requires-clause-begun g c =
    let w = g.T.Turns.standing c.args.turns.now in
    still_begun w.in_flight w (g.T.Turns.standing c.carry-book.new.turns) c.args.page c.args.keeps c.requires.begun.before c.carry-book.ensures.went c.requires.begun.placed c.carry-book.ensures.grows

pub returns-clause-both : goal.returns-clause-both
returns-clause-both g c =
    let w = g.T.Turns.standing c.args.turns.now in
    let x = g.T.Turns.standing c.carry-book.new.turns in
    let y = g.T.Turns.standing c.end_at.new.turns in
    let device = ap (λ h. h.device) (went-held w.in_flight w x c.carry-book.ensures.went) ∙ c.requires.begun.device in
    let book = holds_the_book x c.args.page.stream c.carry-book.result.0 c.carry-book.ensures.book in
    let went = went-then w.in_flight x.in_flight w x y c.carry-book.ensures.went c.end_at.ensures.went in
    both-finished g.T.Disk.Told.told g.T.Disk.Told.faults x.in_flight w y c.args.page c.args.bytes.now c.carry-book.result.1 c.args.keeps c.args.book c.end_at.new.book c.args.disk.now c.carry-book.new.disk
    c.requires.begun c.carry-book.ensures.carried went
    (finished w.in_flight w x c.args.page c.carry-book.result.1 c.args.keeps y.seen c.carry-book.ensures.went device book c.carry-book.ensures.grows c.end_at.ensures.placed)
    c.end_at.ensures.book

pub returns-clause-left : goal.returns-clause-left
returns-clause-left g c =
    let w = g.T.Turns.standing c.args.turns.now in
    let x = g.T.Turns.standing c.carry-book.new.turns in
    let y = g.T.Turns.standing c.end_at.new.turns in
    let device = ap (λ h. h.device) (went-held w.in_flight w x c.carry-book.ensures.went) ∙ c.requires.begun.device in
    let book = holds_the_book x c.args.page.stream c.carry-book.result.0 c.carry-book.ensures.book in
    finished w.in_flight w x c.args.page c.carry-book.result.1 c.args.keeps y.seen c.carry-book.ensures.went device book c.carry-book.ensures.grows c.end_at.ensures.placed

use Rattle.std.proofs.Common.{sym, subst, Result, List, ℕ}
use Rattle.cc_entry.specs.declared.error.CcError.{CcError}
use Rattle.cc_writes.specs.Transfers.{TransferFinishLeft, OwnTransferIsUnderWay}
use Rattle.cc_writes.specs.declared.writes.PageTransfer.{PageTransfer}
use Rattle.cc_writes.proofs.Writing.{finish-left}
use Rattle.cc_writes.proofs.writes.finish.Goals as goal

pub finish_transfer-book-requires-clause-begun : goal.finish_transfer-book-requires-clause-begun
finish_transfer-book-requires-clause-begun g c =
    let w = g.T.Turns.standing c.args.turns.now in
    subst (λ (bytes : List ℕ). OwnTransferIsUnderWay g.T.Disk.Told.told g.T.Disk.Told.faults w c.args.page bytes c.args.book c.args.disk.now) (sym c.bytes.ensures) c.requires.begun

pub returns-clause-left : goal.returns-clause-left
returns-clause-left g c =
    let w = g.T.Turns.standing c.args.turns.now in
    let y = g.T.Turns.standing c.finish_transfer-book.new.turns in
    subst (λ (r : Result PageTransfer CcError). TransferFinishLeft w c.args.page c.args.keeps r y.seen) (sym c.answer_of.ensures)
    (finish-left w c.args.page c.finish_transfer-book.result.1 c.args.keeps y.seen c.finish_transfer-book.ensures.left)

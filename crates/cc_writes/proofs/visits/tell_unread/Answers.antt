-- A page whose number is 2^51 or more begins past each size, so it is not on the disk alone.
use Rattle.cc_step.proofs.Awaiting.{beyond-disk}
use Rattle.cc_step.proofs.Placed.{so-far}
use Rattle.cc_writes.proofs.visits.tell_unread.Goals as goal

pub returns-else-page : goal.returns-else-page
returns-else-page g c u stand = record {
  not_on_disk = beyond-disk u c.args.journal.now.entries c.args.book.now.stream c.args.page (so-far u _ stand.good) c.if-page.false;
  given_back = c.release.ensures;
}

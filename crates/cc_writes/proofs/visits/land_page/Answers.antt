-- A page whose number is 2^51 or more begins past each size, so no call waits for it.
use Rattle.std.specs.Prelude.{refl}
use Rattle.std.proofs.Common.{inl, inr}
use Rattle.cc_step.proofs.Awaiting.{unnumbered}
use Rattle.cc_step.proofs.Placed.{so-far}
use Rattle.cc_writes.proofs.visits.land_page.Goals as goal

pub returns-else-page : goal.returns-else-page
returns-else-page g c u may = inr (record {
  reason = inl (unnumbered u c.args.journal.now.entries c.args.book.now.stream c.args.call.now c.args.page (so-far u _ may.may.may.stand.good) c.requires.stepped c.requires.brings c.if-page.false);
  given_back = c.release.ensures;
  same = refl;
})

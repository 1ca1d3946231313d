use Rattle.std.proofs.Common.{ℕ, subst, ◌∙◌}
use Rattle.cc_crash.specs.Effects.{AreSizesOverJournal}
use Rattle.cc_crash.proofs.PageSteps.{page_state-first, page_state-next}
use Rattle.cc_crash.proofs.contents.crash_pages.Goals as goal

pub loop-i-init : goal.loop-i-init
loop-i-init c = record {
  sizes = subst (λ (s : ℕ). AreSizesOverJournal c.in_ok-found.found.items c.args.journal.now s) c.stream.ensures c.in_ok-found.ensures.each;
  state = λ pages is. c.in_ok-left.ensures ∙ page_state-first pages c.args.opening.now c.args.page.stream c.args.page.page c.told-opening is;
}

pub loop-i-preserved : goal.loop-i-preserved
loop-i-preserved c = record {
  sizes = c.loop-i.invariant.sizes;
  state = λ pages is.
      page_state-next pages c.args.journal.now c.loop-i.i c.index-journal-i.result c.args.page.stream c.args.page.page c.follow.new.left
      c.index-journal-i.is c.loop-i-test.true (c.in_ok-follow.ensures pages (c.loop-i.invariant.state pages is));
}

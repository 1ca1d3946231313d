use Rattle.std.proofs.Common.{rules, arith, ap, vec_len, vec_capacity}
use Rattle.cc_holds.proofs.Pages.{with_pages-more}
use Rattle.cc_holds.proofs.touched.add_pages.Goals as goal
use Rattle.cc_holds.proofs.touched.add_pages.Goals.{then-not-contains, else-not-contains}

pub loop-page-preserved : goal.loop-page-preserved
loop-page-preserved c = elim c.if-not-contains.branch [
  | then-not-contains w ↦ (with_pages-more _ c.loop-page.pages.items _ c.args.first c.loop-page.page-counter (omega arith) c.loop-page.invariant.0 (search rules), omega (arith, ap vec_len w.pages-is, ap vec_capacity w.pages-is))
  | else-not-contains w ↦ (with_pages-more _ c.loop-page.pages.items _ c.args.first c.loop-page.page-counter (omega arith) c.loop-page.invariant.0 (search rules), omega (arith, ap vec_len w.pages-is, ap vec_capacity w.pages-is))
]

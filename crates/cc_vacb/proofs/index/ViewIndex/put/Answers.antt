use Rattle.std.proofs.Common.{◌≡◌, ◌+◌, ap, arith, subst, if◌then◌else◌, is_some}
use Rattle.cc_vacb.specs.Index.{Index, StartsBelow, entry_count, entry_at, entry_count_in}
use Rattle.cc_vacb.proofs.Kept.{covered_at, root_at, put_count}
use Rattle.cc_vacb.proofs.index.ViewIndex.put.Goals as goal

pub put_view-requires-clause-covered : goal.put_view-requires-clause-covered
put_view-requires-clause-covered c =
    let s : StartsBelow c.args.block c.self.inside.size = omega (arith, c.requires, ap (λ (x : Index). x.size) c.self.view_is) in
    covered_at c.self.inside.size c.top_for-top.result c.args.block c.self.invariant.fits c.top_for-top.ensures.levels s

pub put_view-requires-clause-root_in : goal.put_view-requires-clause-root_in
put_view-requires-clause-root_in c = λ _.
    let s : StartsBelow c.args.block c.self.inside.size = omega (arith, c.requires, ap (λ (x : Index). x.size) c.self.view_is) in
    root_at c.self.inside.size c.args.block c.self.inside.blocks.items s c.self.invariant

pub returns-clause-count : goal.returns-clause-count
returns-clause-count c =
    subst (λ (x : Index). entry_count_in c.put_view.new.blocks.items ≡ entry_count x + (if is_some (entry_at x c.args.block) then 0 else 1)) c.self.view_is (put_count c.self.inside.size c.top_for-top.result c.args.block c.args.view _ _ c.top_for-top.ensures.levels c.in_ok-put_view.ensures.ok)

use Rattle.std.proofs.Common.{◌≡◌, ◌+◌, subst, if◌then◌else◌, is_some}
use Rattle.cc_vacb.specs.Index.{Index, entry_count, entry_count_in}
use Rattle.cc_vacb.proofs.Kept.{take_count}
use Rattle.cc_vacb.proofs.index.ViewIndex.take.Goals as goal

pub returns-clause-count : goal.returns-clause-count
returns-clause-count c =
    subst (λ (x : Index). entry_count_in c.take_view.new.blocks.items + (if is_some c.take_view.result then 1 else 0) ≡ entry_count x) c.self.view_is (take_count c.top_for-top.result c.args.block _ _ _ c.take_view.ensures.value c.take_view.ensures.taken)

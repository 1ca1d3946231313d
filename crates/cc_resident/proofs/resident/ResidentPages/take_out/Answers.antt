-- The frame is cleared, and its block dropped where it was the last; every other page stays.
use Rattle.std.proofs.Common.{None, ◌∙◌}
use Rattle.cc_resident.proofs.Kept.{blocks-left, AreResidents-left, frames-out, below-out, Puts-before, others_alike, page_from}
use Rattle.cc_resident.proofs.resident.ResidentPages.take_out.Goals as goal

pub invariant_of-self : goal.invariant_of-self
invariant_of-self c =
    let old = c.self.inside.views in
    let mid = c.clear.new.views in
    let new = c.drop_if_empty.new.views in
    let out = Puts-before old mid new c.args.page None c.clear.ensures.page c.drop_if_empty.ensures.pages in
    AreResidents-left old new c.self.invariant (frames-out old new c.args.page c.self.invariant.frames out) (below-out old new c.args.page c.self.invariant.below out)
    (blocks-left old mid new c.args.page c.self.invariant c.clear.ensures.page c.clear.ensures.blocks c.drop_if_empty.ensures.pages c.drop_if_empty.ensures.blocks)

pub returns-clause-page : goal.returns-clause-page
returns-clause-page c = page_from c.drop_if_empty.new.views c.args.page None (c.drop_if_empty.ensures.pages.frames c.args.page ∙ c.clear.ensures.page.here)

pub returns-clause-others : goal.returns-clause-others
returns-clause-others c = rw (← c.self.view_is) (others_alike c.self.inside.views c.drop_if_empty.new.views c.args.page None (Puts-before c.self.inside.views c.clear.new.views c.drop_if_empty.new.views c.args.page None c.clear.ensures.page c.drop_if_empty.ensures.pages))

pub returns-clause-blocks : goal.returns-clause-blocks
returns-clause-blocks c = rw (← c.self.view_is) (blocks-left c.self.inside.views c.clear.new.views c.drop_if_empty.new.views c.args.page c.self.invariant c.clear.ensures.page c.clear.ensures.blocks c.drop_if_empty.ensures.pages c.drop_if_empty.ensures.blocks)

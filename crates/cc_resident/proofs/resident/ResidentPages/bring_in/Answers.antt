-- The page renewed in its block, or added with it: the views hold sound frames, and only that page has changed.
use Rattle.std.proofs.Common.{◌/◌, Some, ap, sym, ◌∙◌}
use Rattle.cc_pages.specs.Pages.{owned}
use Rattle.cc_views.specs.Views.{frames_at}
use Rattle.cc_resident.specs.Residents.{is_block_among, blocks}
use Rattle.cc_resident.proofs.Frames.{among_is, none_from}
use Rattle.cc_resident.proofs.Kept.{AreResidents-tried, others-tried, page-tried}
use Rattle.cc_resident.proofs.resident.ResidentPages.bring_in.Goals as goal

pub renew-requires : goal.renew-requires
renew-requires c = among_is c.self.inside.views (c.args.page / 64) ∙ ap (λ m. is_block_among (c.args.page / 64) (blocks m)) c.self.view_is ∙ sym c.is_mapped.ensures.mapped ∙ c.if-is_mapped.true

pub invariant_of-self : goal.invariant_of-self
invariant_of-self c = AreResidents-tried c.renew.result c.self.inside.views c.renew.new.views c.args.page c.args.bytes.now c.self.invariant (rw c.self.view_is c.requires.starts) c.renew.ensures.page c.told-bytes c.renew.ensures.blocks c.renew.ensures.err

pub add-requires-clause-unmapped : goal.add-requires-clause-unmapped
add-requires-clause-unmapped c = none_from (frames_at c.self.inside.views (c.args.page / 64)) (among_is c.self.inside.views (c.args.page / 64) ∙ ap (λ m. is_block_among (c.args.page / 64) (blocks m)) c.self.view_is ∙ sym c.is_mapped.ensures.mapped ∙ c.if-is_mapped.false)

pub invariant_of-self-else-is_mapped : goal.invariant_of-self-else-is_mapped
invariant_of-self-else-is_mapped c = AreResidents-tried c.add.result c.self.inside.views c.add.new.views c.args.page c.args.bytes.now c.self.invariant (rw c.self.view_is c.requires.starts) c.add.ensures.page c.told-bytes c.add.ensures.blocks c.add.ensures.err

pub returns-then-is_mapped-clause-page : goal.returns-then-is_mapped-clause-page
returns-then-is_mapped-clause-page c = page-tried c.renew.result c.self.inside.views c.renew.new.views c.args.page c.args.bytes.now c.renew.ensures.page

pub returns-then-is_mapped-clause-others : goal.returns-then-is_mapped-clause-others
returns-then-is_mapped-clause-others c = rw (← c.self.view_is) (others-tried c.renew.result c.self.inside.views c.renew.new.views c.args.page (Some (owned c.args.bytes.now)) c.renew.ensures.page c.renew.ensures.err)

pub returns-else-is_mapped-clause-page : goal.returns-else-is_mapped-clause-page
returns-else-is_mapped-clause-page c = page-tried c.add.result c.self.inside.views c.add.new.views c.args.page c.args.bytes.now c.add.ensures.page

pub returns-else-is_mapped-clause-others : goal.returns-else-is_mapped-clause-others
returns-else-is_mapped-clause-others c = rw (← c.self.view_is) (others-tried c.add.result c.self.inside.views c.add.new.views c.args.page (Some (owned c.args.bytes.now)) c.add.ensures.page c.add.ensures.err)

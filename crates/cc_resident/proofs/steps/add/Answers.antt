use Rattle.std.proofs.Common.{◌/◌, Some, ap, ◌∙◌}
use Rattle.cc_pages.specs.Pages.{owned}
use Rattle.cc_views.specs.Views.{without_view}
use Rattle.cc_resident.proofs.Frames.{put_views, Keeps-last, mapped_last, blocks-last, unmapped}
use Rattle.cc_resident.proofs.Kept.{Puts-after}
use Rattle.cc_resident.proofs.steps.add.Goals as goal

pub put-requires : goal.put-requires
put-requires c = mapped_last c.args.views.now c.add.new.self (c.args.page / 64) c.requires.unmapped c.in_ok-add.ensures.last

pub returns-in-Ok-clause-page : goal.returns-in-Ok-clause-page
returns-in-Ok-clause-page c = Puts-after c.args.views.now c.add.new.self c.put.new.views c.args.page (Some (owned c.args.bytes.now)) (Keeps-last c.args.views.now c.add.new.self (c.args.page / 64) c.requires.unmapped c.in_ok-add.ensures.last c.add.ensures.quota c.add.ensures.size) c.in-Ok.ensures.page

pub returns-in-Ok-clause-blocks : goal.returns-in-Ok-clause-blocks
returns-in-Ok-clause-blocks c = c.put.ensures.blocks ∙ blocks-last c.args.views.now c.add.new.self (c.args.page / 64) c.requires.unmapped c.in_ok-add.ensures.last

pub returns-in-Err-clause-err : goal.returns-in-Err-clause-err
returns-in-Err-clause-err c =
    c.remove-frames.ensures.rest ∙ ap (λ m. put_views m (without_view m.views (c.args.page / 64))) c.in-Err.ensures.err
    ∙ unmapped c.args.views.now c.add.new.self (c.args.page / 64) c.requires.unmapped c.in_ok-add.ensures.last c.add.ensures.quota c.add.ensures.size

use Rattle.std.proofs.Common.{ap, subst, sym, ◌∙◌, if◌then◌else◌}
use Rattle.cc_resident.specs.Changes.{KeepsFrames}
use Rattle.cc_resident.specs.Residents.{blocks, order_without}
use Rattle.cc_resident.proofs.Frames.{Keeps-without, keys-without}
use Rattle.cc_resident.proofs.steps.drop_if_empty.Goals as goal

pub returns-then-not-has_page-clause-pages : goal.returns-then-not-has_page-clause-pages
returns-then-not-has_page-clause-pages c = subst (KeepsFrames c.args.views.now) (sym c.remove-frames.ensures.rest) (Keeps-without c.args.views.now c.args.block c.has_page.ensures.sound.distinct (sym c.has_page.ensures.has ∙ c.if-not-has_page.true))

pub returns-then-not-has_page-clause-blocks : goal.returns-then-not-has_page-clause-blocks
returns-then-not-has_page-clause-blocks c =
    let m = c.args.views.now in
    ap blocks c.remove-frames.ensures.rest ∙ keys-without m.views c.args.block c.has_page.ensures.sound.distinct
    ∙ sym (ap (λ b. if b then blocks m else order_without c.args.block (blocks m)) (sym c.has_page.ensures.has ∙ c.if-not-has_page.true))

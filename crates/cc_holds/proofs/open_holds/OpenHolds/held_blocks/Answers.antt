use Rattle.std.proofs.Common.{◌∙◌, sym, subst}
use Rattle.std.proofs.lemmas.Result.{IfOk-weaker}
use Rattle.cc_holds.specs.Stands.{HoldsStand}
use Rattle.cc_holds.proofs.KeptBlocks.{has-kept}
use Rattle.cc_holds.proofs.open_holds.OpenHolds.held_blocks.Goals as goal

pub returns-clause-same : goal.returns-clause-same
returns-clause-same c =
    IfOk-weaker c.all.result _ _
    (λ blocks has h stands b. has b ∙ sym (has-kept h c.self.inside.holds c.blocks-2.result.now (subst (HoldsStand h) (sym c.self.view_is) stands) c.blocks-2.ensures b)) c.all.ensures.same

pub returns-clause-counted : goal.returns-clause-counted
returns-clause-counted c =
    IfOk-weaker c.all.result _ _
    (λ blocks counted h stands. counted _ (has-kept h c.self.inside.holds c.blocks-2.result.now (subst (HoldsStand h) (sym c.self.view_is) stands) c.blocks-2.ensures)) c.all.ensures.counted

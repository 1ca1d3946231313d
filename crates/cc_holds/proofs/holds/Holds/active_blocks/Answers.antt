use Rattle.std.proofs.Common.{List, ◌∙◌, ap, min}
use Rattle.cc_holds.specs.Holds.{active_blocks}
use Rattle.cc_holds.specs.declared.holds.KeptHold.{KeptHold}
use Rattle.cc_holds.proofs.KeptBlocks.{has-held}
use Rattle.cc_holds.proofs.holds.Holds.active_blocks.Goals as goal

pub returns : goal.returns
returns c =
    c.min.ensures
    ∙ (ap (λ n. min n 4294967295) (c.count.ensures _ (has-held c.self.inside.holds.items c.self.inside.blocks c.self.invariant.counts))
    ∙ ap (λ (holds : List KeptHold). min (active_blocks holds) 4294967295) c.self.view_is)

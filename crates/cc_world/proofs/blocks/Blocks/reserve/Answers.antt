use Rattle.std.proofs.Common.{List, subst, sym}
use Rattle.cc_world.proofs.BlockRows.{blocks-pruned}
use Rattle.cc_world.specs.Blocks.{BlocksStand}
use Rattle.cc_world.specs.declared.blocks.Blocks.{Blocks}
use Rattle.cc_world.specs.declared.blocks.PagePlace.{PagePlace}
use Rattle.cc_world.proofs.blocks.Blocks.reserve.Goals.{then-len-capacity, else-len-capacity}
use Rattle.cc_world.proofs.blocks.Blocks.reserve.Goals as goal

pub returns-clause-stands : goal.returns-clause-stands
returns-clause-stands g c stood = subst (λ (pages : List PagePlace). BlocksStand c.args.machine.now.journal.entries pages) (sym c.reserve.ensures.items) pruned
  where
    pruned : BlocksStand c.args.machine.now.journal.entries c.if-len-capacity.self.pages.items
    pruned = elim c.if-len-capacity.branch [
      | then-len-capacity w ↦
          subst (λ (b : Blocks). BlocksStand c.args.machine.now.journal.entries b.pages.items) (sym w.self-is)
          (blocks-pruned c.args.machine.now.journal.entries c.args.self.now.pages.items _ w.drop_unmapped.ensures stood)
      | else-len-capacity w ↦ subst (λ (b : Blocks). BlocksStand c.args.machine.now.journal.entries b.pages.items) (sym w.self-is) stood
    ]

use Rattle.std.proofs.Common.{List, ℕ, nat_eq, ◌++◌, ◌∙◌, ap, sym, subst}
use Rattle.std.specs.Set.{distinct_count}
use Rattle.cc_entry.specs.Pages.{blocks_of}
use Rattle.cc_model.specs.Holds.{holds_of, held_blocks}
use Rattle.cc_holds.specs.Stands.{HoldsStand}
use Rattle.cc_holds.proofs.KeptBlocks.{has-kept, range-of}
use Rattle.cc_holds.proofs.open_holds.OpenHolds.needed_blocks.Goals as goal

pub returns : goal.returns
returns c = λ h stands.
    c.count_with.ensures _ (has-kept h c.self.inside.holds c.blocks-2.result.now (subst (HoldsStand h) (sym c.self.view_is) stands) c.blocks-2.ensures)
    ∙ ap (λ (range : List ℕ). distinct_count nat_eq (held_blocks (holds_of h) ++ range)) (c.block_range-first.ensures.blocks ∙ ap blocks_of (range-of c.args.span (c.from-2.ensures ∙ c.from.ensures.same) (c.from-3.ensures ∙ c.to.ensures.same)))

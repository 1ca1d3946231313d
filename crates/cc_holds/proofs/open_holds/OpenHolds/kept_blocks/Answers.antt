use Rattle.std.proofs.Common.{List, ℕ, nat_eq, ◌-◌, ◌||◌, ◌++◌, ◌∙◌, ap, sym, subst}
use Rattle.std.proofs.lemmas.Result.{IfOk-weaker}
use Rattle.std.specs.List.{range_with_len}
use Rattle.std.specs.Set.{distinct_count}
use Rattle.cc_entry.specs.Pages.{blocks_of}
use Rattle.cc_model.specs.Numbers.{is_among}
use Rattle.cc_model.specs.Holds.{holds_of, held_blocks}
use Rattle.cc_holds.specs.Stands.{HoldsStand}
use Rattle.cc_holds.proofs.KeptBlocks.{has-kept, range-of}
use Rattle.cc_holds.proofs.open_holds.OpenHolds.kept_blocks.Goals as goal

pub returns-clause-same : goal.returns-clause-same
returns-clause-same c =
    IfOk-weaker c.with.result _ _
    (λ blocks same h stands b.
    same b
    ∙ (ap (λ t. t || is_among b (range_with_len c.block_range-first.result.0 (c.block_range-first.result.1 - c.block_range-first.result.0))) (sym (has-kept h c.self.inside.holds c.blocks-2.result.now (subst (HoldsStand h) (sym c.self.view_is) stands) c.blocks-2.ensures b))
    ∙ ap (λ (range : List ℕ). is_among b (held_blocks (holds_of h)) || is_among b range) (c.block_range-first.ensures.blocks ∙ ap blocks_of (range-of c.args.span (c.from-2.ensures ∙ c.from.ensures.same) (c.from-3.ensures ∙ c.to.ensures.same))))) c.with.ensures.same

pub returns-clause-counted : goal.returns-clause-counted
returns-clause-counted c =
    IfOk-weaker c.with.result _ _
    (λ blocks counted h stands.
    counted _ (has-kept h c.self.inside.holds c.blocks-2.result.now (subst (HoldsStand h) (sym c.self.view_is) stands) c.blocks-2.ensures)
    ∙ ap (λ (range : List ℕ). distinct_count nat_eq (held_blocks (holds_of h) ++ range)) (c.block_range-first.ensures.blocks ∙ ap blocks_of (range-of c.args.span (c.from-2.ensures ∙ c.from.ensures.same) (c.from-3.ensures ∙ c.to.ensures.same)))) c.with.ensures.counted

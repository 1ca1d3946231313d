-- The row that the definitions make is the one that is kept, and no other call makes one; only making takes memory.
use Rattle.std.specs.Prelude.{◌≡◌}
use Rattle.std.specs.declared.option.Option.TheVariants.{Some, None}
use Rattle.std.proofs.Common.{sym, subst, ◌∙◌}
use Rattle.std.specs.Prelude.{All, ◌<◌, ℕ}
use Rattle.std.proofs.lemmas.Result.{on_ok_weaker}
use Rattle.cc_model.specs.Holds.{Hold, holds_of}
use Rattle.cc_holds.specs.Makes.{row_made}
use Rattle.cc_holds.proofs.RowsMade.{row-id, sure-makes_none}
use Rattle.cc_holds.proofs.open_holds.OpenHolds.done.Goals as goal

pub returns-in-Some-clause-stands : goal.returns-in-Some-clause-stands
returns-in-Some-clause-stands c =
    on_ok_weaker c.make.result
    (λ given h reply stands same above.
    let makes = sym (c.row_made.ensures.is h stands) ∙ c.in-Some.is in
    given h c.args.call.now reply stands
    (subst (λ (n : ℕ). row_made c.args.call.now n (holds_of h) ≡ Some c.in-Some.row) (sym same) makes)
    (subst (λ (n : ℕ). All (λ (hold : Hold). hold.id < n) (holds_of h)) (sym (row-id c.args.call.now c.args.id (holds_of h) c.in-Some.row makes)) (above c.in-Some.row makes)))
    c.make.ensures.stands

pub returns-in-None-clause-stands : goal.returns-in-None-clause-stands
returns-in-None-clause-stands c =
    on_ok_weaker c.changed.result
    (λ given h reply stands same above.
    given h c.args.pass reply stands
    (subst (λ (n : ℕ). row_made c.args.call.now n (holds_of h) ≡ None) (sym same) (sym (c.row_made.ensures.is h stands) ∙ c.in-None.is)))
    c.changed.ensures.stands

pub returns-in-Some-clause-sure : goal.returns-in-Some-clause-sure
returns-in-Some-clause-sure c sure = absurd (cc (sym (c.row_made.ensures.none (sure-makes_none c.args.call.now sure)) ∙ c.in-Some.is))

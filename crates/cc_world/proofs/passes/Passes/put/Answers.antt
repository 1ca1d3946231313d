-- The rows of other passes are kept, and there is a place behind them.
use Rattle.std.specs.Prelude.{ℕ, ◌==◌, not, ◌∷◌, [], ◌++◌, List}
use Rattle.std.specs.List.{filter}
use Rattle.std.proofs.Common.{rules, ap, ◌∙◌, arith}
use Rattle.std.proofs.lemmas.Fn.{filter_same}
use Rattle.cc_world.proofs.PassRows.{has-place, is-put}
use Rattle.cc_world.specs.declared.passes.PassRow.{PassRow}
use Rattle.cc_world.proofs.passes.Passes.put.Goals as goal

pub push_reserved-requires : goal.push_reserved-requires
push_reserved-requires c =
    let kept = filter_same _ (λ (r : ℕ × PassRow). not (r.0 == c.args.pass)) _ (λ x b f' k. search rules) _ _ c.retain.ensures.filtered in
    let place = has-place c.args.pass _ c.args.self.now.rows.items c.retain.new.self.items kept (omega (arith, c.args.self.now.rows.ok.0)) c.requires.room in
    omega (arith, place, c.retain.ensures.capacity, c.retain.new.self.ok.0)

pub returns : goal.returns
returns c =
    let kept = filter_same _ (λ (r : ℕ × PassRow). not (r.0 == c.args.pass)) _ (λ x b f' k. search rules) _ _ c.retain.ensures.filtered in
    is-put c.args.self.now.rows.items c.push_reserved.new.self.items c.args.pass c.args.row (c.push_reserved.ensures.items ∙ ap (λ (rows : List (ℕ × PassRow)). rows ++ (c.args.pass, c.args.row) ∷ []) kept)

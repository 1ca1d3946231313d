-- What was posted so far, and what one more post leaves.
use Rattle.std.specs.Prelude.{ℕ, List, [], ◌∷◌, ◌++◌, Ok, Err, refl}
use Rattle.std.specs.declared.option.Option.TheVariants.{None, Some}
use Rattle.std.proofs.Common.{ap, sym, subst, ◌∙◌}
use Rattle.cc_pieces.specs.Answered.{PostsLeft}
use Rattle.cc_lines.proofs.ThrottleLines.{PostsOn, posts-more, posts-refused, posts-told, posts-wanting}
use Rattle.cc_lines.proofs.throttle_lines.post_all.Goals as goal

pub returns-then-is_err-clause-answered : goal.returns-then-is_err-clause-answered
returns-then-is_err-clause-answered g c = posts-wanting (g.T.Turns.standing c.args.turns.now) (g.T.Turns.standing c.loop.turns) c.loop.ids.items c.loop.invariant

pub returns-in-Ok-None-clause-answered : goal.returns-in-Ok-None-clause-answered
returns-in-Ok-None-clause-answered g c =
    subst (λ (ids : List ℕ). PostsLeft (g.T.Turns.standing c.args.turns.now).setup (g.T.Turns.standing c.args.turns.now).number ids (g.T.Turns.standing c.args.turns.now).seen (g.T.Turns.standing c.post_next.new.turns).seen)
    (sym (c.from_vec.ensures ∙ c.reserve.ensures.items))
    (posts-told (g.T.Turns.standing c.args.turns.now) (g.T.Turns.standing c.loop.turns) c.loop.ids.items c.loop.invariant (g.T.Turns.standing c.post_next.new.turns) (Ok None)
    (rw c.in-Ok-None.field-0-is at c.in-Ok-None.ensures.ends) refl)

pub returns-in-Err-clause-answered : goal.returns-in-Err-clause-answered
returns-in-Err-clause-answered g c =
    posts-refused (g.T.Turns.standing c.args.turns.now) (g.T.Turns.standing c.loop.turns) c.loop.ids.items c.loop.invariant (g.T.Turns.standing c.post_next.new.turns) (Err c.in-Err.error)
    c.in-Err.ensures.ends c.in-Err.error refl

pub loop-preserved : goal.loop-preserved
loop-preserved g c =
    subst (λ (ids : List ℕ). PostsOn (g.T.Turns.standing c.args.turns.now) (g.T.Turns.standing c.post_next.new.turns) ids)
    (sym (c.push_reserved.ensures.items ∙ ap (λ ids. ids ++ c.in-Ok-Some.posted.id ∷ []) c.reserve.ensures.items))
    (posts-more (g.T.Turns.standing c.args.turns.now) (g.T.Turns.standing c.loop.turns) c.loop.ids.items c.loop.invariant (g.T.Turns.standing c.post_next.new.turns) (Ok (Some c.in-Ok-Some.posted.id))
    (rw c.in-Ok-Some.field-0-is at c.in-Ok-Some.ensures.ends) c.in-Ok-Some.posted.id refl)

pub returns-clause-answered : goal.returns-clause-answered
returns-clause-answered g c = posts-wanting (g.T.Turns.standing c.args.turns.now) (g.T.Turns.standing c.loop.turns) c.loop.ids.items c.loop.invariant

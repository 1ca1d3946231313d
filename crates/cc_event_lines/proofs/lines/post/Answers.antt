use Rattle.std.specs.Prelude.{ℕ, List, ◌∷◌, ◌++◌, []}
use Rattle.std.proofs.Common.{ap, ◌∙◌}
use Rattle.cc_event_lines.proofs.Deferrals.{went-not, went-posted, went-wanting}
use Rattle.cc_event_lines.proofs.lines.post.Goals as goal

pub returns-in_default : goal.returns-in_default
returns-in_default g c = went-wanting _ _ c.args.pass c.args.routines.now c.requires

pub returns-in-Posted-Some : goal.returns-in-Posted-Some
returns-in-Posted-Some g c =
    went-posted _ _ _ c.args.pass c.in-Posted-Some.field-0-0.id c.in-Posted-Some.field-0-0.routine c.args.routines.now c.put_back.new.self c.from_vec.result
    (rw c.in-Posted-Some.field-0-is at c.in-Posted-Some.ensures) c.requires c.put_back.ensures
    (c.from_vec.ensures ∙ (c.push_reserved.ensures.items ∙ ap (λ (ids : List ℕ). ids ++ c.in-Posted-Some.field-0-0.id ∷ []) c.in-Ok.ensures.items))

pub returns-in-Refused : goal.returns-in-Refused
returns-in-Refused g c = went-not _ _ _ c.args.pass c.in-Refused.error c.args.routines.now c.in-Refused.ensures c.requires

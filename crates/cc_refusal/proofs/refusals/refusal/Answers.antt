-- A reason of an earlier group comes before one of a later group, as in the order of the definitions.
use Rattle.std.proofs.Common.{sym, ◌∙◌}
use Rattle.cc_refusal.proofs.FirstReasons.{within_size, refusal-argument, refusal-hold, refusal-use, refusal-disk}
use Rattle.cc_refusal.proofs.refusals.refusal.Goals as goal

pub returns-in-Some : goal.returns-in-Some
returns-in-Some c = λ u past h stands least free.
    refusal-argument u past h c.args.call.now c.in-Some.refused (sym c.in-Some.is ∙ c.by_arguments.ensures u past h stands)

pub returns-in-Some-by_conflicts : goal.returns-in-Some-by_conflicts
returns-in-Some-by_conflicts c = λ u past h stands least free.
    refusal-hold u past h c.args.call.now c.in-Some-by_conflicts.refused (sym c.in_default.is ∙ c.by_arguments.ensures u past h stands)
    (sym c.in-Some-by_conflicts.is ∙ c.by_conflicts.ensures u past h stands)

pub returns-in-Some-2 : goal.returns-in-Some-2
returns-in-Some-2 c = λ u past h stands least free.
    let none = sym c.in_default.is ∙ c.by_arguments.ensures u past h stands in
    refusal-use u past h c.args.call.now c.in-Some-2.refused none (sym c.in_default-by_conflicts.is ∙ c.by_conflicts.ensures u past h stands)
    (sym c.in-Some-2.is ∙ c.in_ok-refused.ensures u past h stands least free (within_size u h c.args.call.now none))

pub returns : goal.returns
returns c = λ u past h stands least free.
    let none = sym c.in_default.is ∙ c.by_arguments.ensures u past h stands in
    c.by_disk.ensures u past h stands
    ∙ refusal-disk u past h c.args.call.now none (sym c.in_default-by_conflicts.is ∙ c.by_conflicts.ensures u past h stands)
    (sym c.in_default-2.is ∙ c.in_ok-refused.ensures u past h stands least free (within_size u h c.args.call.now none))

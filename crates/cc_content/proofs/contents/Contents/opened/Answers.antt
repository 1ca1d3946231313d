use Rattle.std.proofs.Common.{sym, ◌∙◌}
use Rattle.cc_content.proofs.ContentSteps.{stands-joined}
use Rattle.cc_content.proofs.DoneStands.{where_ok}
use Rattle.cc_content.proofs.contents.Contents.opened.Goals as goal

pub returns-then-has_map-clause-stands : goal.returns-then-has_map-clause-stands
returns-then-has_map-clause-stands c = λ opening h pass file sizes temporary reply stands size valid.
    stands-joined opening pass file sizes c.args.quota temporary reply h _
    (sym (c.has_map.ensures.stands opening h stands) ∙ c.if-has_map.true) stands

pub returns-clause-stands : goal.returns-clause-stands
returns-clause-stands c =
    where_ok c.open.result _ _
    (λ opens opening h pass file sizes temporary reply stands size valid.
    let unmapped = sym (c.has_map.ensures.stands opening h stands) ∙ c.if-has_map.false in
    opens opening h pass file sizes temporary reply unmapped size valid)
    c.open.ensures.stands

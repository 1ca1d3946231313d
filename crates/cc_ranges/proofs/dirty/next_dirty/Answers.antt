use Rattle.std.specs.Prelude.{ℕ, Option, Some}
use Rattle.std.specs.Option.{option_map}
use Rattle.std.proofs.Common.{sym, subst, ◌∙◌}
use Rattle.cc_dirty.specs.declared.row.Row.{Row}
use Rattle.cc_model.specs.History.{history}
use Rattle.cc_ranges.specs.Dirty.{IsNextDirty}
use Rattle.cc_ranges.proofs.DirtyRows.{row-next}
use Rattle.cc_ranges.proofs.dirty.next_dirty.Goals as goal

pub returns-in-Some-clause-next : goal.returns-in-Some-clause-next
returns-in-Some-clause-next g c =
    let h = history c.args.journal.now.entries c.args.stream in
    let row = subst (λ (o : Option Row). IsNextDirty h c.args.span c.args.from (option_map (λ (row : Row). row.page.page) o)) (sym c.first_of_span.ensures.first ∙ c.in-Some.is)
    (row-next c.args.journal.now.entries c.args.stream c.args.span c.args.from c.dirty.result.now.rows c.first_of_span.ensures.sound c.dirty.ensures.follows) in
    subst (λ (n : ℕ). IsNextDirty h c.args.span c.args.from (Some n)) (sym c.page.ensures.same) row

pub returns-in-None-clause-next : goal.returns-in-None-clause-next
returns-in-None-clause-next g c =
    let h = history c.args.journal.now.entries c.args.stream in
    subst (λ (o : Option Row). IsNextDirty h c.args.span c.args.from (option_map (λ (row : Row). row.page.page) o)) (sym c.first_of_span.ensures.first ∙ c.in-None.is)
    (row-next c.args.journal.now.entries c.args.stream c.args.span c.args.from c.dirty.result.now.rows c.first_of_span.ensures.sound c.dirty.ensures.follows)

-- The two parts of the page's row together are what is unwritten of it.
use Rattle.std.specs.Prelude.{Option}
use Rattle.std.proofs.Common.{ap, sym, subst, ◌∙◌}
use Rattle.cc_dirty.specs.declared.row.Row.{Row}
use Rattle.cc_dirty.specs.declared.row.Unwritten.{Unwritten}
use Rattle.cc_journal.specs.Rows.{journal_place, IsRowOf}
use Rattle.cc_model.specs.History.{history}
use Rattle.cc_journal.proofs.oldest.oldest_unwritten.Goals as goal

pub returns-in-Some : goal.returns-in-Some
returns-in-Some g c =
    let past = c.args.journal.now.entries in
    let q = c.args.page in
    let there = subst (λ (o : Option Row). IsRowOf (journal_place past q.stream) (history past q.stream) q.page o) (sym c.row_of.ensures.row ∙ c.in-Some.is) (c.dirty.ensures.follows q) in
    c.oldest.ensures ∙ ap (λ (u : Unwritten). u.oldest) there.unwritten

pub returns-in-None : goal.returns-in-None
returns-in-None g c =
    let past = c.args.journal.now.entries in
    let q = c.args.page in
    let there = subst (λ (o : Option Row). IsRowOf (journal_place past q.stream) (history past q.stream) q.page o) (sym c.row_of.ensures.row ∙ c.in-None.is) (c.dirty.ensures.follows q) in
    ap (λ (u : Unwritten). u.oldest) there.unwritten

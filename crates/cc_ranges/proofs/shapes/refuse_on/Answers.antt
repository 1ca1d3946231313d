-- With a place reserved the refusal's entry is good; what is released is the place of the end that the pass owed.
use Rattle.std.specs.Prelude.{◌≡◌, ℕ, ◌-◌, ◌≤◌, List}
use Rattle.std.proofs.Common.{ap, sym, ◌∙◌, subst}
use Rattle.cc_book.specs.Book.{Gains, GoesOn, MayPlaceOnBook, failed}
use Rattle.cc_entry.specs.declared.entry.Entry.{Entry}
use Rattle.cc_entry.specs.declared.error.CcError.{CcError}
use Rattle.cc_journal.specs.Calls.{owed_end}
use Rattle.cc_journal.specs.Journal.{JournalState}
use Rattle.cc_step.proofs.Attempts.{forgoing}
use Rattle.cc_ranges.specs.Shapes.{RefuseLeft}
use Rattle.cc_ranges.proofs.Misshapen.{may-refuse, refused-so, refused-within}
use Rattle.cc_ranges.proofs.shapes.refuse_on.Goals as goal

pub fail-requires-clause-may : goal.fail-requires-clause-may
fail-requires-clause-may g c =
    let u = c.requires.may.0 in
    let may = c.requires.may.1 in
    let j = c.args.journal.now in
    let b = c.args.book.now in
    subst (λ (x : JournalState g.row.Q.Denot). MayPlaceOnBook x.entries (failed c.args.pass x.entries b.stream c.args.call c.refusal_first-error.result) b) (sym c.in-Ok.ensures.reserved)
    (subst (λ (e : CcError). MayPlaceOnBook j.entries (failed c.args.pass j.entries b.stream c.args.call e) b) (sym (c.refusal_first-error.ensures j.entries u may.stand.stands))
    (may-refuse u c.args.pass c.args.file c.args.call c.args.refusal b j c.requires.page c.requires.shape may))

pub release-requires : goal.release-requires
release-requires g c =
    let u = c.requires.may.0 in
    let may = c.requires.may.1 in
    let j = c.args.journal.now in
    let b = c.args.book.now in
    subst (λ (n : ℕ). n ≤ c.fail.new.journal.reserved) (sym c.owed_end-owed.ensures)
    (subst (λ (past : List Entry). owed_end past c.args.pass ≤ c.fail.new.journal.reserved) (sym (ap (λ (x : JournalState g.row.Q.Denot). x.entries) c.in-Ok.ensures.reserved))
    (refused-within u c.args.pass c.args.file c.args.call c.args.refusal b j c.requires.page c.requires.shape may c.refusal_first-error.result c.fail.new.journal
    (subst (λ (x : JournalState g.row.Q.Denot). Gains (failed c.args.pass x.entries b.stream c.args.call c.refusal_first-error.result) x c.fail.new.journal) c.in-Ok.ensures.reserved c.fail.ensures.placed)))

pub returns-in-Ok : goal.returns-in-Ok
returns-in-Ok g c u may =
    let j = c.args.journal.now in
    let b = c.args.book.now in
    let before = c.in-Ok.ensures.reserved in
    let owed : c.owed_end-owed.result ≡ owed_end j.entries c.args.pass =
    c.owed_end-owed.ensures ∙ ap (λ (x : JournalState g.row.Q.Denot). owed_end x.entries c.args.pass) before in
    let given : c.release.new.self ≡ forgoing j c.args.pass c.fail.new.journal =
    c.release.ensures ∙ ap (λ (n : ℕ). record c.fail.new.journal { reserved = c.fail.new.journal.reserved - n }) owed in
    subst (λ (k : JournalState g.row.Q.Denot). RefuseLeft u c.args.pass c.args.call c.args.refusal c.refusal_first-error.result b c.fail.new.self j k) (sym given)
    (refused-so u c.args.pass c.args.file c.args.call c.args.refusal b j c.requires.page c.requires.shape may c.refusal_first-error.result c.fail.new.self c.fail.new.journal
    (c.refusal_first-error.ensures j.entries u may.stand.stands)
    (subst (λ (x : JournalState g.row.Q.Denot). Gains (failed c.args.pass x.entries b.stream c.args.call c.refusal_first-error.result) x c.fail.new.journal) before c.fail.ensures.placed)
    (subst (λ (x : JournalState g.row.Q.Denot). GoesOn x.entries c.fail.new.journal.entries b c.fail.new.self) before c.fail.ensures.stands)
    c.fail.ensures.same)

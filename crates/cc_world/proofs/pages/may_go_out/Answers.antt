-- A page that is not resident, or that a hold has, may not go out; any other may where it is clean.
use Rattle.std.specs.Prelude.{◌≡◌, ℕ, true, false, not}
use Rattle.std.proofs.Common.{ap, sym, ◌∙◌}
use Rattle.cc_model.specs.History.{history}
use Rattle.cc_model.specs.Holds.{holds_of, is_held}
use Rattle.cc_model.specs.Residency.{is_resident}
use Rattle.cc_model.specs.Touches.{is_dirty}
use Rattle.cc_world.proofs.Tests.{clash, goes-out}
use Rattle.cc_world.proofs.pages.may_go_out.Goals as goal

pub returns-then-is_none : goal.returns-then-is_none
returns-then-is_none g c opening stands none may =
    let h = history c.args.journal.now.entries c.args.book.now.stream in
    let away : is_resident h c.args.page.page ≡ false =
    ap (λ (p : ℕ). is_resident h p) (sym c.page.ensures.same)
    ∙ (sym (c.page-2.ensures.resident opening c.args.journal.now.entries stands) ∙ (c.is_none.ensures ∙ ap not c.if-is_none.true)) in
    clash (sym may.resident ∙ away)

pub returns-then-is_held : goal.returns-then-is_held
returns-then-is_held g c opening stands none may =
    let h = history c.args.journal.now.entries c.args.book.now.stream in
    let held : is_held (holds_of h) c.args.page.page ≡ true =
    ap (λ (p : ℕ). is_held (holds_of h) p) (sym c.page-3.ensures.same) ∙ (sym (c.is_held.ensures opening c.args.journal.now.entries stands) ∙ c.if-is_held.true) in
    clash (sym held ∙ may.not_held)

pub returns : goal.returns
returns g c opening stands none =
    let h = history c.args.journal.now.entries c.args.book.now.stream in
    let here : is_resident h c.args.page.page ≡ true =
    ap (λ (p : ℕ). is_resident h p) (sym c.page.ensures.same)
    ∙ (sym (c.page-2.ensures.resident opening c.args.journal.now.entries stands) ∙ (c.is_none.ensures ∙ ap not c.if-is_none.false)) in
    let free : is_held (holds_of h) c.args.page.page ≡ false =
    ap (λ (p : ℕ). is_held (holds_of h) p) (sym c.page-3.ensures.same) ∙ (sym (c.is_held.ensures opening c.args.journal.now.entries stands) ∙ c.if-is_held.false) in
    goes-out h c.args.page.page c.is_dirty.result here free none
    (c.is_dirty.ensures ∙ ap (λ (s : ℕ). is_dirty (history c.args.journal.now.entries s) c.args.page.page) c.requires)

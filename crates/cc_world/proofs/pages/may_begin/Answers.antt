-- A page that a pin owes a stamp may not begin; any other with a row in the table may where its log is flushed.
use Rattle.std.specs.Prelude.{◌≡◌, ℕ, true, false, Option}
use Rattle.std.proofs.Common.{ap, sym, ◌∙◌, subst}
use Rattle.cc_model.specs.Covered.{FlushedUpTo}
use Rattle.cc_model.specs.History.{history}
use Rattle.cc_model.specs.Settings.{log_of}
use Rattle.cc_model.specs.Stamps.{is_unstamped}
use Rattle.cc_world.specs.Pages.{Says}
use Rattle.cc_world.proofs.Tests.{begins-there, clash}
use Rattle.cc_world.proofs.pages.may_begin.Goals as goal

pub returns-then-is_unstamped : goal.returns-then-is_unstamped
returns-then-is_unstamped g c u opening good stands none may =
    let h = history c.args.journal.now.entries c.args.book.now.stream in
    let owed : is_unstamped h c.args.page.page ≡ true =
    ap (λ (p : ℕ). is_unstamped h p) (sym c.page.ensures.same) ∙ (sym (c.is_unstamped.ensures opening c.args.journal.now.entries stands) ∙ c.if-is_unstamped.true) in
    clash (sym owed ∙ may.logged.stamped)

pub returns : goal.returns
returns g c u opening good stands none =
    let past = c.args.journal.now.entries in
    let s = c.args.book.now.stream in
    let rows = c.dirty.result.now.rows in
    let stamped : is_unstamped (history past s) c.args.page.page ≡ false =
    ap (λ (p : ℕ). is_unstamped (history past s) p) (sym c.page.ensures.same) ∙ (sym (c.is_unstamped.ensures opening past stands) ∙ c.if-is_unstamped.false) in
    begins-there u past c.args.page s rows c.in-Some.row c.is_flushed.result c.requires.stream good c.row_of.ensures.sound
    c.dirty.ensures.follows (sym c.row_of.ensures.row ∙ c.in-Some.is) stamped none
    (subst (λ (newest : Option ℕ). Says c.is_flushed.result (FlushedUpTo past (log_of (history past s)) newest)) c.newest_later.ensures
    (c.is_flushed.ensures opening past stands c.requires.logs.1))

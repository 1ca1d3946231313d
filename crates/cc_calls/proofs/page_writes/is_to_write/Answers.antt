-- A page that has no unwritten touch is passed over; one that has is where a pin owes it a stamp.
use Rattle.std.specs.Prelude.{◌≡◌, ℕ, Bool, true, false, not, is_some, refl}
use Rattle.std.proofs.Common.{ap, sym, ◌∙◌, subst}
use Rattle.cc_model.specs.History.{history}
use Rattle.cc_model.specs.Stamps.{is_unstamped}
use Rattle.cc_calls.proofs.Looking.{oldest-dirty, over-clean, over-dirty}
use Rattle.cc_calls.proofs.page_writes.is_to_write.Goals as goal

twice-not : (b : Bool) → b ≡ not (not b)
twice-not true = refl
twice-not false = refl

pub returns-then-is_some : goal.returns-then-is_some
returns-then-is_some g c opening stands =
    let past = c.args.journal.now.entries in
    let page = c.args.page in
    over-dirty past page (sym (oldest-dirty past page) ∙ (ap is_some (sym c.oldest_unwritten.ensures) ∙ (sym c.is_some.ensures ∙ c.if-is_some.true)))
    ∙ (sym (ap (λ (s : ℕ). is_unstamped (history past s) page.page) c.requires.stream)
    ∙ (sym (ap (λ (p : ℕ). is_unstamped (history past c.args.book.now.stream) p) c.page.ensures.same)
    ∙ (sym (c.is_unstamped.ensures opening past stands) ∙ twice-not c.is_unstamped.result)))

pub returns-else-is_some : goal.returns-else-is_some
returns-else-is_some g c opening stands =
    let past = c.args.journal.now.entries in
    let page = c.args.page in
    over-clean past page (sym (oldest-dirty past page) ∙ (ap is_some (sym c.oldest_unwritten.ensures) ∙ (sym c.is_some.ensures ∙ c.if-is_some.false)))
    ∙ sym (ap not c.if-is_some.false)

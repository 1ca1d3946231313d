-- A page that the book has, that no hold has and that is not dirty, is so in the history: resident, clean, not held; and
-- one that is so in the history is so in the book.
use Rattle.std.specs.Prelude.{◌≡◌, ℕ, true, false, refl}
use Rattle.std.proofs.Common.{ap, sym, ◌∙◌, subst, true≢false}
use Rattle.cc_model.specs.History.{history}
use Rattle.cc_model.specs.Holds.{holds_of, is_held}
use Rattle.cc_model.specs.Residency.{is_resident}
use Rattle.cc_model.specs.Touches.{is_dirty}
use Rattle.cc_ranges.proofs.DirtyNext.{always, never}
use Rattle.cc_ranges.proofs.Idle.{none-there, some-there}
use Rattle.cc_ranges.proofs.ends.may_go.Goals as goal

pub returns-in-Some-clause-goes : goal.returns-in-Some-clause-goes
returns-in-Some-clause-goes g c clean u stand here =
    let past = c.args.journal.now.entries in
    let b = c.args.book.now in
    let resident = sym (c.page.ensures.resident (u.opening b.stream) past stand.stands) ∙ some-there c.page.result _ c.in-Some.is in
    let free = sym (c.is_held.ensures (u.opening b.stream) past stand.stands) ∙ c.if-is_held.false in
    record {
      resident = rw (here, sym c.page-number.ensures.same) resident;
      not_held = rw (here, sym c.page-number.ensures.same) free;
      clean = subst (λ (s : ℕ). is_dirty (history past s) c.args.page.page ≡ false) c.stream.ensures
          (subst (λ (n : ℕ). is_dirty (history past c.stream.result) n ≡ false) c.page-number.ensures.same
          (sym c.is_dirty.ensures ∙ never c.is_dirty.result clean));
    }

pub returns-in-Some-clause-stays : goal.returns-in-Some-clause-stays
returns-in-Some-clause-stays g c unclean u stand here idle =
    let past = c.args.journal.now.entries in
    let dirty : is_dirty (history past c.args.page.stream) c.args.page.page ≡ true =
    subst (λ (s : ℕ). is_dirty (history past s) c.args.page.page ≡ true) c.stream.ensures
    (subst (λ (n : ℕ). is_dirty (history past c.stream.result) n ≡ true) c.page-number.ensures.same
    (sym c.is_dirty.ensures ∙ always c.is_dirty.result unclean)) in
    true≢false (sym dirty ∙ idle.clean)

pub returns-in-None-clause-stays : goal.returns-in-None-clause-stays
returns-in-None-clause-stays g c none u stand here idle =
    let past = c.args.journal.now.entries in
    let b = c.args.book.now in
    let absent = sym (c.page.ensures.resident (u.opening b.stream) past stand.stands) ∙ none-there c.page.result c.in-None.is in
    let out : is_resident (history past c.args.page.stream) c.args.page.page ≡ false = rw (here, sym c.page-number.ensures.same) absent in
    true≢false (sym idle.resident ∙ out)

pub returns-then-is_held-clause-stays : goal.returns-then-is_held-clause-stays
returns-then-is_held-clause-stays g c none u stand here idle =
    let past = c.args.journal.now.entries in
    let b = c.args.book.now in
    let is = sym (c.is_held.ensures (u.opening b.stream) past stand.stands) ∙ c.if-is_held.true in
    let held : is_held (holds_of (history past c.args.page.stream)) c.args.page.page ≡ true = rw (here, sym c.page-number.ensures.same) is in
    true≢false (sym held ∙ idle.not_held)

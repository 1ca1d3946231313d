use Rattle.std.specs.Prelude.{◌≡◌, ℕ, true, false}
use Rattle.std.proofs.Common.{sym, ◌∙◌, subst}
use Rattle.cc_model.specs.History.{history}
use Rattle.cc_model.specs.Numbers.{is_among}
use Rattle.cc_model.specs.Objects.{objects}
use Rattle.cc_ranges.proofs.Misshapen.{open-first, closed-is}
use Rattle.cc_ranges.proofs.shapes.refusal_first.Goals as goal

pub returns-then-is_open : goal.returns-then-is_open
returns-then-is_open c past u stands =
    let h = history past c.args.book.now.stream in
    open-first h c.args.file c.args.refusal
    (subst (λ (n : ℕ). is_among n (objects h) ≡ true) c.object.ensures.same (sym (c.is_open.ensures (u.opening c.args.book.now.stream) past stands) ∙ c.if-is_open.true))

pub returns-else-is_open : goal.returns-else-is_open
returns-else-is_open c past u stands =
    let h = history past c.args.book.now.stream in
    closed-is h c.args.file c.args.refusal
    (subst (λ (n : ℕ). is_among n (objects h) ≡ false) c.object.ensures.same (sym (c.is_open.ensures (u.opening c.args.book.now.stream) past stands) ∙ c.if-is_open.false))

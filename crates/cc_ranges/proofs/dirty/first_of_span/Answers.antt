-- The pages of the span, from a page on, lie between two numbers, and those of the whole stream from that page on.
use Rattle.std.specs.Prelude.{◌≡◌, ℕ, ◌/◌, max, find}
use Rattle.std.proofs.Common.{ap, subst, ◌∙◌}
use Rattle.cc_dirty.specs.Order.{is_between}
use Rattle.cc_dirty.specs.declared.row.Row.{Row}
use Rattle.cc_ranges.specs.Dirty.{pages_end}
use Rattle.cc_ranges.proofs.DirtyRows.{first-of-all, first-of-span}
use Rattle.cc_ranges.proofs.dirty.first_of_span.Goals as goal

pub returns-in-None-clause-first : goal.returns-in-None-clause-first
returns-in-None-clause-first c = rw c.in-None.is (c.first_from.ensures.first ∙ first-of-all c.args.stream c.args.from c.args.table.now.rows)

pub returns-in-Some-clause-first : goal.returns-in-Some-clause-first
returns-in-Some-clause-first c =
    let rows = c.args.table.now.rows in
    let span = c.in-Some.span in
    let first : c.max-first.result ≡ max c.args.from (span.from / 4096) = c.max-first.ensures ∙ ap (λ (n : ℕ). max c.args.from (n / 4096)) c.from.ensures.same in
    let found : c.first_between.result ≡ find (λ (r : Row). is_between c.args.stream (max c.args.from (span.from / 4096)) (pages_end span) r.page) rows =
    subst (λ (n : ℕ). c.first_between.result ≡ find (λ (r : Row). is_between c.args.stream n (pages_end span) r.page) rows) first
    (subst (λ (n : ℕ). c.first_between.result ≡ find (λ (r : Row). is_between c.args.stream c.max-first.result n r.page) rows) c.pages_end.ensures c.first_between.ensures.first) in
    rw c.in-Some.is (found ∙ first-of-span c.args.stream c.args.from span rows)

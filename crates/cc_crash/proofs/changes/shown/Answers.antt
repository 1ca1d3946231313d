use Rattle.std.specs.Prelude.{nat_lt, if◌then◌else◌}
use Rattle.std.proofs.Common.{ℕ, ◌+◌, ◌*◌, refl, ap, ◌∙◌, arith}
use Rattle.std.specs.List.{slice_index}
use Rattle.std.proofs.lemmas.List.{length-set}
use Rattle.std.proofs.lemmas.List.FromFn.{fill_by_all}
use Rattle.cc_crash.proofs.PageSteps.{bytes-more}
use Rattle.cc_crash.proofs.changes.shown.Goals as goal

pub loop-i-init : goal.loop-i-init
loop-i-init c = record { long = refl; same = λ k below. absurd (omega (arith, below)) }

pub loop-i-preserved : goal.loop-i-preserved
loop-i-preserved c =
    let at : ℕ → ℕ → ℕ = λ p k. if nat_lt (4096 * p + k) c.args.valid then slice_index c.args.bytes.now k else 0 in
    record {
      long = length-set c.loop-i.shown c.loop-i.i c.byte_below.result ∙ c.loop-i.invariant.long;
      same =
          bytes-more (at c.args.page.page) c.loop-i.shown c.loop-i.i c.byte_below.result (omega (arith, c.loop-i.invariant.long, c.loop-i-test.true))
          (c.byte_below.ensures ∙ ap (λ (p : ℕ). at p c.loop-i.i) (c.from-first.ensures ∙ c.page.ensures.same)) c.loop-i.invariant.same;
    }

pub returns : goal.returns
returns c =
    fill_by_all (λ (k : ℕ). if nat_lt (4096 * c.args.page.page + k) c.args.valid then slice_index c.args.bytes.now k else 0) c.loop-i.shown 4096 0
    c.loop-i.invariant.long (λ k below. c.loop-i.invariant.same k (omega (arith, below, c.loop-i-test.false)))

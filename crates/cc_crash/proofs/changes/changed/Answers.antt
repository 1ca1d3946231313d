use Rattle.std.proofs.Common.{ℕ, ◌+◌, ◌*◌, refl, ap, ◌∙◌, arith}
use Rattle.std.specs.List.{slice_index}
use Rattle.std.specs.Option.{unwrap_or}
use Rattle.std.proofs.lemmas.List.{length-set}
use Rattle.std.proofs.lemmas.List.FromFn.{fill_by_all}
use Rattle.cc_model.specs.Acts.{act_of}
use Rattle.cc_crash.specs.Changes.{change_by}
use Rattle.cc_crash.proofs.PageSteps.{bytes-more}
use Rattle.cc_crash.proofs.changes.changed.Goals as goal

pub loop-i-init : goal.loop-i-init
loop-i-init c = record { long = refl; same = λ k below. absurd (omega (arith, below)) }

pub loop-i-preserved : goal.loop-i-preserved
loop-i-preserved c =
    let a = act_of c.args.call.now in
    let at : ℕ → ℕ → ℕ = λ p k. unwrap_or (change_by a c.args.size (4096 * p + k)) (slice_index c.args.bytes.now k) in
    record {
      long = length-set c.loop-i.changed c.loop-i.i c.byte_after.result ∙ c.loop-i.invariant.long;
      same =
          bytes-more (at c.args.page.page) c.loop-i.changed c.loop-i.i c.byte_after.result (omega (arith, c.loop-i.invariant.long, c.loop-i-test.true))
          (c.byte_after.ensures ∙ ap (λ (p : ℕ). at p c.loop-i.i) c.page-first.ensures.same) c.loop-i.invariant.same;
    }

pub returns : goal.returns
returns c =
    let a = act_of c.args.call.now in
    fill_by_all (λ (k : ℕ). unwrap_or (change_by a c.args.size (4096 * c.args.page.page + k)) (slice_index c.args.bytes.now k)) c.loop-i.changed 4096 0
    c.loop-i.invariant.long (λ k below. c.loop-i.invariant.same k (omega (arith, below, c.loop-i-test.false)))

-- The loop's invariant: the sum so far is that of the streams looked at, each at most 255, so it never wraps.
use Rattle.std.specs.Prelude.{ℕ, ◌+◌, ◌-◌}
use Rattle.std.specs.List.{range_with_len, fold}
use Rattle.std.proofs.Common.{ap, sym, ◌∙◌, arith, refl}
use Rattle.cc_model.specs.Cache.{views_of, views_taken}
use Rattle.cc_model.specs.History.{history}
use Rattle.cc_journal.proofs.Sums.{sum_more, sum_done}
use Rattle.cc_journal.proofs.streams.Streams.views_taken.Goals as goal

pub loop-n-init : goal.loop-n-init
loop-n-init c = record { small = omega arith; sum = λ past stands. refl }

pub overflow_add-taken : goal.overflow_add-taken
overflow_add-taken c = omega (arith, c.loop-n.invariant.small, c.views_of-taken.ensures.most, c.loop-n-test.true)

pub loop-n-preserved : goal.loop-n-preserved
loop-n-preserved c = record {
  small = omega (arith, c.loop-n.invariant.small, c.views_of-taken.ensures.most);
  sum = λ past stands.
      ap (λ (k : ℕ). fold (λ a s. a + views_of (history past s)) (c.loop-n.taken + k) (range_with_len (c.loop-n.n + 1) (16 - (c.loop-n.n + 1))))
      (c.views_of-taken.ensures.views past stands ∙ ap (λ (k : ℕ). views_of (history past k)) (rw c.unwrap-stream.ensures at c.new.ensures.number))
      ∙ (sym (sum_more (λ s. views_of (history past s)) c.loop-n.taken c.loop-n.n 16 c.loop-n-test.true)
      ∙ c.loop-n.invariant.sum past stands);
}

pub returns : goal.returns
unfolding views_taken
returns c past stands = sym (sum_done (λ s. views_of (history past s)) c.loop-n.taken c.loop-n.n 16 c.loop-n-test.false) ∙ c.loop-n.invariant.sum past stands

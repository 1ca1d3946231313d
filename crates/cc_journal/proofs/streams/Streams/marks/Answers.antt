-- The loop's invariant: the streams looked at so far are marked as the definitions mark them.
use Rattle.std.specs.Prelude.{◌≡◌, ℕ}
use Rattle.std.proofs.Common.{ap, ◌∙◌, arith, refl}
use Rattle.std.proofs.lemmas.List.{length-set}
use Rattle.cc_model.specs.History.{history}
use Rattle.cc_journal.specs.Streams.{is_written_behind}
use Rattle.cc_journal.proofs.Sums.{mark_more}
use Rattle.cc_journal.proofs.streams.Streams.marks.Goals as goal

pub loop-n-init : goal.loop-n-init
loop-n-init c = record { long = refl; marked = λ past stands s below. absurd (omega (arith, below)) }

pub loop-n-preserved : goal.loop-n-preserved
loop-n-preserved c =
    let stream : c.unwrap-stream.result ≡ c.loop-n.n = rw c.unwrap-stream.ensures at c.new.ensures.number in
    record {
      long = length-set c.loop-n.marks c.from.result c.is_written_behind.result ∙ c.loop-n.invariant.long;
      marked = λ past stands.
          rw c.from.ensures
          (mark_more (λ s. is_written_behind (history past s)) c.loop-n.marks c.loop-n.n c.is_written_behind.result (omega (arith, c.loop-n.invariant.long, c.loop-n-test.true))
          (c.is_written_behind.ensures past stands ∙ ap (λ (s : ℕ). is_written_behind (history past s)) stream)
          (c.loop-n.invariant.marked past stands));
    }

pub returns : goal.returns
returns c past stands s below = c.loop-n.invariant.marked past stands s (omega (arith, below, c.loop-n-test.false))

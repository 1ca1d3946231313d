-- The answers come together: what is merged of the rest of the lines from here on, is merged of all.
use Rattle.std.proofs.Common.{◌≡◌, ◌+◌, length, map, drop, vec_capacity}
use Rattle.cc_run.specs.Callers.{AreAnswerRows}
use Rattle.cc_run.specs.Threads.{Merged}
use Rattle.cc_run.proofs.threads.merge.Given as goal

abbrev pub invariant-loop-line : goal.invariant-loop-line
invariant-loop-line l = record {
  rows : AreAnswerRows (drop l.line-index l.lines) (map (λ row. row.items) l.rows.items);
  long : length l.replies.items ≡ length l.initial.replies.items + l.line-index;
  room : vec_capacity l.replies ≡ vec_capacity l.initial.replies;
  rest : (after : _) → Merged (drop l.line-index l.lines) (map (λ row. row.items) l.rows.items) l.replies.items after
      → Merged l.lines (map (λ row. row.items) l.initial.rows.items) l.initial.replies.items after;
}

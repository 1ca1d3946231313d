use Rattle.std.proofs.Common.{◌≡◌, ℕ, ◌==◌, drop, find}
use Rattle.std.specs.Ordering.{nat_cmp}
use Rattle.std.specs.BTreeMap.{get}
use Rattle.cc_print.specs.Replies.{reply_at}
use Rattle.cc_print.proofs.replies.first_places.Given as goal

abbrev pub invariant-loop-i : goal.invariant-loop-i
invariant-loop-i l = (line : ℕ) → reply_at l.replies (get nat_cmp l.places line) ≡ find (λ reply. reply.line == line) (drop l.i l.replies)

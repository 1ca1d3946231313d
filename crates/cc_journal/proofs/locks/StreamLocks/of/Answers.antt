-- The stream's number is the place of its locks.
use Rattle.std.proofs.Common.{◌<◌, ℕ, List, ap, sym, subst, ◌∙◌, arith}
use Rattle.cc_locks.specs.Locks.{HeldLocks}
use Rattle.cc_journal.specs.Locks.{LocksStand}
use Rattle.cc_model.specs.Locks.{locks_of}
use Rattle.cc_journal.proofs.locks.StreamLocks.of.Goals as goal

pub index-requires : goal.index-requires
index-requires c = omega (arith, c.from.ensures, c.number.ensures.same, c.number.ensures.in_range, c.self.inside.each.ok.0, c.self.invariant.count)

pub returns-clause-stream : goal.returns-clause-stream
returns-clause-stream c =
    let below : c.from.result < 16 = omega (arith, c.from.ensures, c.number.ensures.in_range) in
    ap (λ (h : HeldLocks). h.stream) c.index.ensures ∙ (c.self.invariant.each c.from.result c.index.result.now below ∙ (c.from.ensures ∙ c.number.ensures.same))

pub returns-clause-stands : goal.returns-clause-stands
returns-clause-stands c past stands =
    let below : c.from.result < 16 = omega (arith, c.from.ensures, c.number.ensures.in_range) in
    let there : LocksStand past c.self.inside.each.items = subst (λ (locks : List HeldLocks). LocksStand past locks) (sym c.self.view_is) stands in
    ap (λ (h : HeldLocks). h.table) c.index.ensures ∙ (there c.from.result c.index.result.now below ∙ ap (λ (n : ℕ). locks_of past n) (c.from.ensures ∙ c.number.ensures.same))

use Rattle.std.proofs.Common.{refl, ◌∙◌}
use Rattle.cc_journal.proofs.KeptSteps.{kept_none, memory_none}
use Rattle.cc_journal.proofs.journal.Journal.new.Goals as goal

-- src/journal.rt:78:9
pub invariant_of-result : goal.invariant_of-result
invariant_of-result g c = (
  rw c.new.ensures.none (kept_none _ _ _ _ _ _ _ c.in_ok-new.ensures.stands c.new-4.ensures c.in_ok-new-2.ensures.stands c.new-6.ensures
      c.in_ok-new.ensures.empty c.in_ok-new.ensures.capacity c.in_ok-new-2.ensures.none),
  rw c.new.ensures.none (memory_none _ _ _ _ c.requires.limit),
  rw c.new.ensures.none c.in_ok-new-3.ensures.stands,
  λ few. c.new.ensures.kind ∙ c.is_recorded.ensures few,
)

-- src/journal.rt:74:5
pub returns-clause-empty : goal.returns-clause-empty
returns-clause-empty g c = (c.new.ensures.none, refl, c.in_ok-new.ensures.empty, c.in_ok-new-2.ensures.none)

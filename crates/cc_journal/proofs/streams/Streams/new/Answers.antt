use Rattle.std.specs.Prelude.{[], ◌∷◌}
use Rattle.std.proofs.Common.{◌∙◌}
use Rattle.cc_journal.proofs.StreamsSteps.{stands_none, each_of}
use Rattle.cc_journal.proofs.streams.Streams.new.Goals as goal

-- src/streams.rt:41:5
pub returns-clause-stands : goal.returns-clause-stands
returns-clause-stands c =
    let s = c.new.result in
    rw c.in-Ok.ensures.ok (stands_none (s ∷ s ∷ s ∷ s ∷ s ∷ s ∷ s ∷ s ∷ s ∷ s ∷ s ∷ s ∷ s ∷ s ∷ s ∷ s ∷ []) c.new-3.result.places.entries c.reserve.new.self.rows
    (each_of s c.new.ensures.stands) c.new-3.ensures (c.in_ok-reserve.ensures.rows ∙ c.new-dirty.ensures))

-- By kinds of call: a write or a set-dirty asks by whether its pin owes a set-dirty, which is kept with the hold.
use Rattle.std.specs.Prelude.{ℕ, Bool, if◌then◌else◌}
use Rattle.std.proofs.Common.{ap, sym, ◌∙◌}
use Rattle.cc_step.proofs.steps.places_asked.Goals as goal

-- what a pinned write and a set-dirty ask, by whether the pin owes a set-dirty
abbrev to_write : Bool → ℕ
to_write owes = if owes then 1 else 2

abbrev to_stamp : Bool → ℕ
to_stamp owes = if owes then 0 else 1

pub returns-then-owes_set_dirty : goal.returns-then-owes_set_dirty
returns-then-owes_set_dirty c opening past stands =
    rw c.in-PinnedWrite.is (ap to_write (sym c.if-owes_set_dirty.true ∙ c.owes_set_dirty.ensures opening past stands))

pub returns-else-owes_set_dirty : goal.returns-else-owes_set_dirty
returns-else-owes_set_dirty c opening past stands =
    rw c.in-PinnedWrite.is (ap to_write (sym c.if-owes_set_dirty.false ∙ c.owes_set_dirty.ensures opening past stands))

pub returns-then-owes_set_dirty-2 : goal.returns-then-owes_set_dirty-2
returns-then-owes_set_dirty-2 c opening past stands =
    rw c.in-SetDirty.is (ap to_stamp (sym c.if-owes_set_dirty-2.true ∙ c.owes_set_dirty-in-SetDirty.ensures opening past stands))

pub returns-else-owes_set_dirty-2 : goal.returns-else-owes_set_dirty-2
returns-else-owes_set_dirty-2 c opening past stands =
    rw c.in-SetDirty.is (ap to_stamp (sym c.if-owes_set_dirty-2.false ∙ c.owes_set_dirty-in-SetDirty.ensures opening past stands))

-- The deferred writes that wait, and how they stand for a past.
use Rattle.std.specs.Prelude.{◌≡◌, ℕ, Bool, false, All, List, [], ◌∷◌, map}
use Rattle.cc_entry.specs.declared.entry.Entry.{Entry}
use Rattle.cc_entry.specs.declared.hold.Deferral.{Deferral}
use Rattle.cc_model.specs.Throttle.{queue, deferred}

-- the writes that wait, the head of the queue first, each with its routine, and how many were ever deferred
pub record Waiting (Q : Type 0) : Type 0 where
  pub writes : List (Deferral × Q)
  pub count : ℕ

-- each of some writes with its routine, of those that stand at the same places with their ids
abbrev pub with_routines : {Q : Type 0} → List Deferral → List (ℕ × Q) → List (Deferral × Q)
with_routines [] routines = []
with_routines (deferral ∷ deferrals) [] = []
with_routines (deferral ∷ deferrals) (routine ∷ routines) =
    (deferral, routine.1) ∷ with_routines deferrals routines

-- the same ids stand at the same places
abbrev pub SameIds : {Q : Type 0} → List Deferral → List (ℕ × Q) → Type 0
SameIds deferrals routines = map (λ w. w.0) routines ≡ map (λ d. d.id) deferrals

-- the writes without their routines
abbrev pub deferrals_of_writes : {Q : Type 0} → List (Deferral × Q) → List Deferral
deferrals_of_writes writes = map (λ w. w.0) writes

-- the ids of the writes with their routines
abbrev pub routines_of : {Q : Type 0} → List (Deferral × Q) → List (ℕ × Q)
routines_of writes = map (λ w. (w.0.id, w.1)) writes

-- the writes that wait are those of a past's queue
abbrev pub QueueStands : {Q : Type 0} → List Entry → List (Deferral × Q) → ℕ → Type 0
QueueStands past writes count = (deferrals_of_writes writes ≡ queue past) × (count ≡ deferred past)

-- no routine that waits was posted
abbrev pub AllUnposted : {Q : Type 0} → (Q → Bool) → List (Deferral × Q) → Type 0
AllUnposted posted writes = All (λ w. posted w.1 ≡ false) writes

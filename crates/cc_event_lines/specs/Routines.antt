-- The post routines that were handed in, and how they stand for a past.
use Rattle.std.specs.Prelude.{◌≡◌, ℕ, ◌+◌, ◌≤◌, ◌==◌, Bool, true, false, All, List, [], ◌∷◌, length, map, slice_get, if◌then◌else◌}
use Rattle.std.specs.declared.option.Option.{Option}
use Rattle.std.specs.declared.option.Option.TheVariants.{Some, None}
use Rattle.cc_entry.specs.declared.entry.Entry.{Entry}
use Rattle.cc_entry.specs.declared.hold.Deferral.{Deferral}
use Rattle.cc_model.specs.Throttle.{deferred}
use Rattle.cc_pieces.specs.Steps.{was_posted}
use Rattle.cc_event_lines.specs.declared.routines.RoutineSlot.{RoutineSlot}

-- The routines of the `defer` lines so far, those of the lines to come, the next first, all that were handed in, and for
-- how many there is room.
pub record RoutinesState (Q : Type 0) : Type 0 where
  pub slots : List (RoutineSlot Q)
  pub unused : List Q
  pub handed : List Q
  pub room : ℕ

-- the numbers of the writes that were deferred, by the lines
abbrev pub deferrals_of_slots : {Q : Type 0} → List (RoutineSlot Q) → List (Option ℕ)
deferrals_of_slots slots = map (λ slot. slot.deferral) slots

-- whether a routine waits under a number
abbrev pub waits_as : {Q : Type 0} → ℕ → Option ℕ → Option Q → Bool
waits_as id (Some own) None = own == id
waits_as id deferral routine = false

abbrev pub waits_for : {Q : Type 0} → ℕ → RoutineSlot Q → Bool
waits_for id slot = waits_as id slot.deferral slot.routine

-- a routine that comes back to its place, by the number of its write
abbrev pub come_back : {Q : Type 0} → ℕ → Q → List (RoutineSlot Q) → List (RoutineSlot Q)
come_back id routine [] = []
come_back id routine (slot ∷ slots) =
    if waits_for id slot then record { deferral = Some id; routine = Some routine } ∷ slots
    else slot ∷ come_back id routine slots

-- several, the last first
abbrev pub all_back : {Q : Type 0} → List (ℕ × Q) → List (RoutineSlot Q) → List (RoutineSlot Q)
all_back [] slots = slots
all_back (back ∷ rest) slots = come_back back.0 back.1 (all_back rest slots)

-- the routines that are here, in their order
abbrev pub and_here : {Q : Type 0} → Option Q → List Q → List Q
and_here None rest = rest
and_here (Some routine) rest = routine ∷ rest

abbrev pub here : {Q : Type 0} → List (RoutineSlot Q) → List Q
here [] = []
here (slot ∷ slots) = and_here slot.routine (here slots)

-- A routine waits in the queue under a number: it is there, as it was handed in.
pub record RoutineWaits {Q : Type 0} (queue : List (Deferral × Q)) (id : ℕ) (handed : Q) : Type 0 where
  pub place : ℕ
  pub waiting : Deferral × Q
  pub there : slice_get queue place ≡ Some waiting
  pub number : waiting.0.id ≡ id
  pub same : (n : ℕ) (other : Deferral × Q) → slice_get queue n ≡ Some other → other.0.id ≡ id → other.1 ≡ handed

-- What became of a routine: no write was deferred with it; or its write waits; or was posted, and the routine with it.
abbrev pub SlotStands : {Q : Type 0} → (Q → Bool) → List Entry → List (Deferral × Q) → Q → Option ℕ → Option Q → Type 0
SlotStands posted past queue handed None (Some routine) = routine ≡ handed
SlotStands posted past queue handed (Some id) None =
    RoutineWaits queue id handed × (was_posted past (Some (Some id)) ≡ false) × (id ≤ deferred past)
SlotStands posted past queue handed (Some id) (Some routine) =
    (posted routine ≡ true) × (was_posted past (Some (Some id)) ≡ true) × (id ≤ deferred past)
SlotStands posted past queue handed None None = ⊥

-- No two writes have one number.
abbrev pub AreApart : List (Option ℕ) → Type 0
AreApart deferrals =
    (k m id : ℕ) → slice_get deferrals k ≡ Some (Some id) → slice_get deferrals m ≡ Some (Some id) → k ≡ m

-- The routines stand for a past and its queue: each became what its line was answered, those of the lines to come are
-- as they were handed in, none was posted before, and the numbers of writes are distinct.
pub record RoutinesStand {Q : Type 0} (posted : Q → Bool) (past : List Entry) (queue : List (Deferral × Q))
    (r : RoutinesState Q) : Type 0 where
  pub unposted : All (λ routine. posted routine ≡ false) r.handed
  pub slots : (k : ℕ) (slot : RoutineSlot Q) (handed : Q) → slice_get r.slots k ≡ Some slot → slice_get r.handed k ≡ Some handed →
      SlotStands posted past queue handed slot.deferral slot.routine
  pub unused : (k : ℕ) → slice_get r.unused k ≡ slice_get r.handed (length r.slots + k)
  pub counted : length r.slots + length r.unused ≡ length r.handed
  pub room : length r.handed ≤ r.room
  pub apart : AreApart (deferrals_of_slots r.slots)
  pub numbered : (n : ℕ) (waiting : Deferral × Q) → slice_get queue n ≡ Some waiting → waiting.0.id ≤ deferred past
  pub known : (id : ℕ) → was_posted past (Some (Some id)) ≡ true → id ≤ deferred past

-- Routines of which none was taken yet.
pub record AreNew {Q : Type 0} (posted : Q → Bool) (r : RoutinesState Q) : Type 0 where
  pub slots : r.slots ≡ []
  pub unused : r.unused ≡ r.handed
  pub unposted : All (λ routine. posted routine ≡ false) r.handed
  pub room : length r.handed ≤ r.room

-- No write was deferred and none posted from one moment to another.
pub record IsQuiet (old new : List Entry) : Type 0 where
  pub deferred_is : deferred new ≡ deferred old
  pub posted_is : (id : ℕ) → was_posted new (Some (Some id)) ≡ was_posted old (Some (Some id))

-- A pass's place at a queue, and what its calls leave of it.
use Rattle.std.specs.Prelude.{◌≡◌, ℕ, suc, ◌-◌, ◌^◌, Bool, true, false, min, List, [], ◌∷◌, ◌++◌}
use Rattle.std.specs.declared.option.Option.{Option}
use Rattle.std.specs.declared.option.Option.TheVariants.{Some, None}
use Rattle.atomic_table.specs.Seated.{TableId}
use Rattle.crossbeam_queue.specs.Fifo.{Held}
use Rattle.cc_queue.specs.Order.{MayHold}

-- Which queue the place is at; the items that were pushed there, and those that were taken, the oldest first; how often
-- it found the queue empty, and how often full.
pub record PlaceState (T : Type 0) : Type 0 where
  pub queue : TableId
  pub pushed : List T
  pub taken : List T
  pub empties : ℕ
  pub fulls : ℕ

-- a place at a queue where nothing was done yet
abbrev pub new_place : {T : Type 0} → TableId → PlaceState T
new_place queue = record { queue = queue; pushed = []; taken = []; empties = 0; fulls = 0 }

-- a count that rises stands still at its last value
abbrev pub risen : ℕ → ℕ
risen count = min (suc count) (2 ^ 64 - 1)

-- a place that pushed one item more, or took one more
abbrev pub pushing : {T : Type 0} → T → PlaceState T → PlaceState T
pushing item place = record place { pushed = place.pushed ++ item ∷ [] }

abbrev pub taking : {T : Type 0} → T → PlaceState T → PlaceState T
taking item place = record place { taken = place.taken ++ item ∷ [] }

-- At one moment of a call of this place the queue held so many items, in a state that its rule allows. The kit's queue
-- promises that moment, and tells this of it.
abbrev pub WasHeld : {T : Type 0} → ℕ → PlaceState T → Type 0
WasHeld n place = Held n (MayHold (record { pushed = place.pushed; taken = place.taken }))

-- a place found the queue full, or empty, which alone is counted
abbrev pub FoundFull : {T : Type 0} → PlaceState T → PlaceState T → Type 0
FoundFull old new = (new ≡ record old { fulls = risen old.fulls }) × WasHeld 64 old

abbrev pub FoundEmpty : {T : Type 0} → PlaceState T → PlaceState T → Type 0
FoundEmpty old new = (new ≡ record old { empties = risen old.empties }) × WasHeld 0 old

-- A push was answered so: the item was pushed, or the queue was full.
abbrev pub PushLeft : {T : Type 0} → T → Bool → PlaceState T → PlaceState T → Type 0
PushLeft item true old new = new ≡ pushing item old
PushLeft item false old new = FoundFull old new

-- A pop was answered so: the item was taken, or the queue was empty.
abbrev pub PopLeft : {T : Type 0} → Option T → PlaceState T → PlaceState T → Type 0
PopLeft (Some item) old new = new ≡ taking item old
PopLeft None old new = FoundEmpty old new

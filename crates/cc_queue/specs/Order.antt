-- The rule of a queue: one order of all that was pushed, whose front was taken.
use Rattle.std.specs.Prelude.{◌≡◌, ℕ, ◌≤◌, ◌==◌, List, [], ◌∷◌, ◌++◌, length, map, if◌then◌else◌}
use mathlib.Core.Option.{some}
use lib.ListN.{get_elem?}
use Rattle.cc_queue.specs.declared.rule.Hand.{Hand}

-- what a place has that pushed and took nothing
abbrev pub empty_hand : {T : Type 0} → Hand T
empty_hand = record { pushed = []; taken = [] }

-- the items of one place, in their order, among those of all, each of which has the number of its place
abbrev pub items_by : {T : Type 0} → ℕ → List (ℕ × T) → List T
items_by place [] = []
items_by place ((number, item) ∷ rest) = if number == place then item ∷ items_by place rest else items_by place rest

-- all items in their order, whosever they are
abbrev pub all_items : {T : Type 0} → List (ℕ × T) → List T
all_items numbered = map (λ entry. entry.1) numbered

-- There is one order of all items that the places have pushed, in which those of each place stand in its own order. What
-- the places have taken, those of each in its own order, is a prefix of it, and the queue holds the rest.
pub record IsInOneOrder {T : Type 0} (items : List T) (hands : List (Hand T)) : Type 0 where
  pub pushed : List (ℕ × T)
  pub taken : List (ℕ × T)
  pub front : all_items pushed ≡ all_items taken ++ items
  pub each_pushed : (place : ℕ) (hand : Hand T) → get_elem? hands place ≡ some hand → hand.pushed ≡ items_by place pushed
  pub each_taken : (place : ℕ) (hand : Hand T) → get_elem? hands place ≡ some hand → hand.taken ≡ items_by place taken
  pub none_pushed : (place : ℕ) → length hands ≤ place → items_by place pushed ≡ []
  pub none_taken : (place : ℕ) → length hands ≤ place → items_by place taken ≡ []

-- a place pushed an item, or took one, behind what it had pushed and taken
abbrev pub HasPushed : {T : Type 0} → Hand T → T → Hand T → Type 0
HasPushed old item new = new ≡ record old { pushed = old.pushed ++ item ∷ [] }

abbrev pub HasTaken : {T : Type 0} → Hand T → T → Hand T → Type 0
HasTaken old item new = new ≡ record old { taken = old.taken ++ item ∷ [] }

-- The rule allows that the queue holds these items while a place has pushed and taken so.
pub record MayHold {T : Type 0} (hand : Hand T) (items : List T) : Type 0 where
  pub hands : List (Hand T)
  pub place : ℕ
  pub rule : IsInOneOrder items hands
  pub has : get_elem? hands place ≡ some hand

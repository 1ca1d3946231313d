-- What an object tells of its content: something of an object in memory, nothing of a file or a stream.
use Rattle.std.specs.Prelude.{◌≡◌, ℕ, Option, Some, None, List, ◌++◌}

-- a relation of what is told before and after; an object that tells nothing goes on telling nothing,
-- and one that tells goes on telling
abbrev pub Both : {A : Type 0} → Option A → Option A → (A → A → Type 0) → Type 0
Both None None P = Unit {0}
Both None (Some _) P = ⊥
Both (Some _) None P = ⊥
Both (Some old) (Some new) P = P old new

-- a fact of what is told, if something is
abbrev pub IfTold : {A : Type 0} → Option A → (A → Type 0) → Type 0
IfTold None P = Unit {0}
IfTold (Some a) P = P a

-- bytes went out of the front of those that a source has left
abbrev pub Gave : List ℕ → List ℕ → List ℕ → Type 0
Gave bytes old new = old ≡ bytes ++ new

-- bytes were put behind those that a sink has taken
abbrev pub SinkTook : List ℕ → List ℕ → List ℕ → Type 0
SinkTook bytes old new = new ≡ old ++ bytes

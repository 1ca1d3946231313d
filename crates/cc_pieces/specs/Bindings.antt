-- Which hold a word of a script names, by what the caller's earlier lines were answered.
use Rattle.std.specs.Prelude.{◌≡◌, ℕ, ◌==◌, Bool, List, ◌∷◌, map, if◌then◌else◌}
use Rattle.std.specs.declared.option.Option.{Option}
use Rattle.std.specs.declared.option.Option.TheVariants.{Some, None}
use Rattle.std.specs.List.{find}
use Rattle.cc_entry.specs.declared.hold.HoldKind.{HoldKind}
use Rattle.cc_entry.specs.declared.hold.HoldKind.TheVariants as kind
use Rattle.cc_entry.specs.declared.reply.Reply.TheVariants as reply
use Rattle.cc_entry.specs.declared.answer.Answer.{Answer}
use Rattle.cc_entry.specs.declared.answer.Answer.TheVariants as answer
use Rattle.cc_effects.specs.Moments.{IsIdle, Between}

-- a word of a caller, by its number among those that the caller binds, that names a hold: its id, and what the hold is
-- now
pub record Binding : Type 0 where
  pub word : ℕ
  pub id : ℕ
  pub kind : HoldKind

-- after a line that makes a hold of this kind, and binds the word to it where it is done
abbrev pub bound : ℕ → HoldKind → Answer → List Binding → List Binding
bound word its_kind (answer.Given (reply.Hold id)) bindings = record { word = word; id = id; kind = its_kind } ∷ bindings
bound word its_kind other bindings = bindings

-- a binding of this word names a pin from now on
abbrev pub pinned_if : ℕ → Binding → Binding
pinned_if word b = if b.word == word then record b { kind = kind.Pin } else b

-- after a line that makes a pin of the map that the word names, where it is done
abbrev pub bindings_pinned : ℕ → Answer → List Binding → List Binding
bindings_pinned word (answer.Given (reply.Hold id)) bindings = map (pinned_if word) bindings
bindings_pinned word other bindings = bindings

-- the id of a binding, where the hold is of such a kind
abbrev pub id_if : (HoldKind → Bool) → Option Binding → Option ℕ
id_if of_kind None = None
id_if of_kind (Some b) = if of_kind b.kind then Some b.id else None

-- the hold that the word names, where it was made and is of a kind that the line needs
abbrev pub hold_named : List Binding → ℕ → (HoldKind → Bool) → Option ℕ
hold_named bindings word of_kind = id_if of_kind (find (λ b. b.word == word) bindings)

-- A line on the hold that a word names: what the line leaves on that hold. Where the word names none that
-- serves, no call is made, nothing is placed, and the line is answered so.
abbrev pub OnHold : ℕ → Option ℕ → (ℕ → Answer → Between) → Answer → Between
OnHold me None Left told old new = (told ≡ answer.NoHold) × IsIdle me old new
OnHold me (Some id) Left told old new = Left id told old new

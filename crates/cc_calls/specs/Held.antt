-- A hold that a caller has: when it is open and the caller's own.
use Rattle.std.specs.Prelude.{◌≡◌, ℕ, ◌+◌, Bool, true, ◌&&◌, nat_le, List}
use Rattle.cc_entry.specs.Place.{Range}
use Rattle.cc_entry.specs.declared.entry.Entry.{Entry}
use Rattle.cc_entry.specs.declared.hold.HoldKind.{HoldKind}
use Rattle.cc_model.specs.Holds.{Hold}
use Rattle.cc_own.specs.Own.{HasHold}
use Rattle.cc_turns.specs.Standing.{Standing}
use Rattle.cc_calls.specs.declared.held.Held.{Held}

-- whether so many bytes at a place lie in what is held
abbrev pub held_covers : Held → ℕ → ℕ → Bool
held_covers held at n = nat_le held.at at && nat_le (at + n) (held.at + held.len)

-- the range of what is held
abbrev pub held_range : Held → Range
held_range held = record { from = held.at; to = held.at + held.len }

-- A pass has what a caller holds, after a past: the hold of this id is open, was made by the pass, for the file and with
-- the range, and is of such a kind.
pub record HoldsAfter (me : ℕ) (past : List Entry) (of_kind : HoldKind → Bool) (held : Held) : Type 0 where
  pub hold : Hold
  pub has : HasHold me held.file.stream held.id hold past
  pub kind_is : of_kind hold.kind ≡ true
  pub file_is : hold.file ≡ held.file
  pub at_is : hold.at ≡ held.at
  pub len_is : hold.len ≡ held.len

-- It has it as it has seen the journal.
abbrev pub IsHolding : Standing → (HoldKind → Bool) → Held → Type 0
IsHolding w of_kind held = HoldsAfter w.number w.seen of_kind held

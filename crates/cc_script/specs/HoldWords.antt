-- The rules on the words that name holds, over several lines of a caller: which kind of hold a word names, on which bytes,
-- and whether it was ended, as far as the lines say it.
use Rattle.std.specs.Prelude.{ℕ, suc, ◌≡◌, ◌+◌, ◌≤◌, ◌==◌, Bool, true, false, ◌&&◌, ◌||◌, not, Option, Some, None, List, [], ◌∷◌, ◌++◌, length, nat_le, slice_get, slice_set, if◌then◌else◌}
use Rattle.cc_entry.specs.Place.{File}
use Rattle.cc_entry.specs.Kinds.{is_map, is_pin, is_repin, is_read_chain, is_write_chain}
use Rattle.cc_entry.specs.declared.hold.HoldKind.{HoldKind}
use Rattle.cc_entry.specs.declared.hold.HoldKind.TheVariants as kind
use Rattle.cc_script.specs.declared.bound.Bound.{Bound}
use Rattle.cc_script.specs.declared.bound.Need.{Need}
use Rattle.cc_script.specs.declared.bound.Need.TheVariants as need
use Rattle.cc_script.specs.declared.script.Action.{Action}
use Rattle.cc_script.specs.declared.script.Action.TheVariants as action
use Rattle.cc_script.specs.declared.script.ActionLine.{ActionLine}

-- a kind of hold serves a verb that needs one of these kinds
abbrev pub meets : Need → HoldKind → Bool
meets need.Map k = is_map k
meets need.Pin k = is_pin k
meets need.MapOrPin k = is_map k || is_pin k
meets need.Repin k = is_repin k
meets need.ReadChain k = is_read_chain k
meets need.WriteChain k = is_write_chain k
meets need.Chain k = is_read_chain k || is_write_chain k

-- the bytes lie in those of the hold
abbrev pub bound_covers : ℕ → ℕ → Bound → Bool
bound_covers at len b = nat_le b.at at && nat_le (at + len) (b.at + b.len)

-- a word may be used: it was bound, its hold was not ended, and is of a kind that serves
abbrev pub is_usable_word : Need → Option Bound → Bool
is_usable_word n None = false
is_usable_word n (Some b) = not b.ended && meets n b.kind

-- and the bytes lie in the hold
abbrev pub bound_has_range : Need → ℕ → ℕ → Option Bound → Bool
bound_has_range n at len None = false
bound_has_range n at len (Some b) = is_usable_word n (Some b) && bound_covers at len b

-- the words that an action uses may be used, where its caller bound these before
unfoldable pub may_use : Action → List Bound → Bool
may_use (action.PinMapped word _) bounds = is_usable_word need.Map (slice_get bounds word)
may_use (action.HeldRead word at len) bounds = bound_has_range need.MapOrPin at len (slice_get bounds word)
may_use (action.PinnedWrite word at bytes) bounds = bound_has_range need.Pin at (length bytes) (slice_get bounds word)
may_use (action.SetDirty word _) bounds = is_usable_word need.Pin (slice_get bounds word)
may_use (action.Unpin word) bounds = is_usable_word need.MapOrPin (slice_get bounds word)
may_use (action.Repin word _) bounds = is_usable_word need.Pin (slice_get bounds word)
may_use (action.UnpinRepinned word _) bounds = is_usable_word need.Repin (slice_get bounds word)
may_use (action.MdlBytes word at len) bounds = bound_has_range need.ReadChain at len (slice_get bounds word)
may_use (action.MdlStore word at bytes) bounds = bound_has_range need.WriteChain at (length bytes) (slice_get bounds word)
may_use (action.MdlDone word) bounds = is_usable_word need.Chain (slice_get bounds word)
may_use (action.MdlAbort word) bounds = is_usable_word need.WriteChain (slice_get bounds word)
may_use other bounds = true

-- a hold of this kind on bytes of a file
abbrev pub fresh : HoldKind → File → ℕ → ℕ → Bound
fresh k file at len = record { kind = k; file = file; at = at; len = len; ended = false }

-- the hold of a word changes, where the word was bound
abbrev pub with_hold_changed : (Bound → Bound) → Option Bound → List Bound → ℕ → List Bound
with_hold_changed change None bounds word = bounds
with_hold_changed change (Some b) bounds word = slice_set bounds word (change b)

-- a map becomes a pin; a hold is ended; a repin has the bytes of its pin
abbrev pub as_pin : Bound → Bound
as_pin b = record b { kind = kind.Pin }

abbrev pub as_ended : Bound → Bound
as_ended b = record b { ended = true }

abbrev pub bound_repinned : Option Bound → List Bound
bound_repinned None = []
bound_repinned (Some b) = fresh kind.Repin b.file b.at b.len ∷ []

-- what a caller bound, behind one more line
abbrev pub bound_after : Action → List Bound → List Bound
bound_after (action.Map file at len _) bounds = bounds ++ fresh kind.Map file at len ∷ []
bound_after (action.PinRead file at len _ _) bounds = bounds ++ fresh kind.Pin file at len ∷ []
bound_after (action.PinMapped word _) bounds = with_hold_changed as_pin (slice_get bounds word) bounds word
bound_after (action.PreparePin file at len _ _ _) bounds = bounds ++ fresh kind.Pin file at len ∷ []
bound_after (action.Unpin word) bounds = with_hold_changed as_ended (slice_get bounds word) bounds word
bound_after (action.Repin word _) bounds = bounds ++ bound_repinned (slice_get bounds word)
bound_after (action.UnpinRepinned word _) bounds = with_hold_changed as_ended (slice_get bounds word) bounds word
bound_after (action.MdlRead file at len _) bounds = bounds ++ fresh kind.ReadChain file at len ∷ []
bound_after (action.MdlWrite file at len _) bounds = bounds ++ fresh kind.WriteChain file at len ∷ []
bound_after (action.MdlDone word) bounds = with_hold_changed as_ended (slice_get bounds word) bounds word
bound_after (action.MdlAbort word) bounds = with_hold_changed as_ended (slice_get bounds word) bounds word
bound_after other bounds = bounds

-- A word names a hold that its caller bound, of a kind that serves, and that no line ended.
pub record UsesHold (n : Need) (bounds : List Bound) (word : ℕ) : Type 0 where
  pub bound : Bound
  pub named : slice_get bounds word ≡ Some bound
  pub still : bound.ended ≡ false
  pub serves : meets n bound.kind ≡ true

-- and the bytes lie in those of the hold
pub record UsesBytes (n : Need) (bounds : List Bound) (word at len : ℕ) : Type 0 where
  pub uses : UsesHold n bounds word
  pub from : uses.bound.at ≤ at
  pub to : at + len ≤ uses.bound.at + uses.bound.len

-- An action binds and uses words as a run relies on, where its caller bound these before: a word that it binds has the
-- next number, and a word that it uses names a hold that serves.
abbrev pub UsesRight : List Bound → Action → Type 0
UsesRight bounds (action.Map _ _ _ word) = word ≡ length bounds
UsesRight bounds (action.PinRead _ _ _ word _) = word ≡ length bounds
UsesRight bounds (action.PinMapped word _) = UsesHold need.Map bounds word
UsesRight bounds (action.PreparePin _ _ _ word _ _) = word ≡ length bounds
UsesRight bounds (action.HeldRead word at len) = UsesBytes need.MapOrPin bounds word at len
UsesRight bounds (action.PinnedWrite word at bytes) = UsesBytes need.Pin bounds word at (length bytes)
UsesRight bounds (action.SetDirty word _) = UsesHold need.Pin bounds word
UsesRight bounds (action.Unpin word) = UsesHold need.MapOrPin bounds word
UsesRight bounds (action.Repin word made) = UsesHold need.Pin bounds word × (made ≡ length bounds)
UsesRight bounds (action.UnpinRepinned word _) = UsesHold need.Repin bounds word
UsesRight bounds (action.MdlRead _ _ _ word) = word ≡ length bounds
UsesRight bounds (action.MdlWrite _ _ _ word) = word ≡ length bounds
UsesRight bounds (action.MdlBytes word at len) = UsesBytes need.ReadChain bounds word at len
UsesRight bounds (action.MdlStore word at bytes) = UsesBytes need.WriteChain bounds word at (length bytes)
UsesRight bounds (action.MdlDone word) = UsesHold need.Chain bounds word
UsesRight bounds (action.MdlAbort word) = UsesHold need.WriteChain bounds word
UsesRight bounds other = Unit {0}

-- behind a line that is the caller's, or that of another, which changes nothing
abbrev pub bound_if : Bool → Action → List Bound → List Bound
bound_if own asked bounds = if own then bound_after asked bounds else bounds

abbrev pub IsRightIf : Bool → List Bound → Action → Type 0
IsRightIf true bounds asked = UsesRight bounds asked
IsRightIf false bounds asked = Unit {0}

-- what a caller bound, behind several lines
abbrev pub bound_so_far : ℕ → List Bound → List ActionLine → List Bound
bound_so_far caller bounds [] = bounds
bound_so_far caller bounds (line ∷ lines) = bound_so_far caller (bound_if (line.caller == caller) line.action bounds) lines

-- each line of a caller is right over what the caller bound before it
abbrev pub AreUsedRight : ℕ → List Bound → List ActionLine → Type 0
AreUsedRight caller bounds [] = Unit {0}
AreUsedRight caller bounds (line ∷ lines) =
    IsRightIf (line.caller == caller) bounds line.action
    × AreUsedRight caller (bound_if (line.caller == caller) line.action bounds) lines

-- whether an action binds a word
abbrev pub binds : Action → Bool
binds (action.Map _ _ _ _) = true
binds (action.PinRead _ _ _ _ _) = true
binds (action.PreparePin _ _ _ _ _ _) = true
binds (action.Repin _ _) = true
binds (action.MdlRead _ _ _ _) = true
binds (action.MdlWrite _ _ _ _) = true
binds other = false

-- how many words a caller binds by these lines
abbrev pub words_bound : ℕ → List ActionLine → ℕ
words_bound caller [] = 0
words_bound caller (line ∷ lines) =
    if line.caller == caller && binds line.action then suc (words_bound caller lines) else words_bound caller lines

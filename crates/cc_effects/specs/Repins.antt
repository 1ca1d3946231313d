-- What the end of a repin leaves (CcUnpinRepinnedBcb): the end of the hold, and with write through what a
-- flush of the hold's range leaves, with an entry of its own.
use Rattle.std.specs.Prelude.{◌≡◌, ℕ, Bool, true, false, List, ◌++◌}
use Rattle.std.specs.declared.option.Option.TheVariants.{Some}
use Rattle.cc_entry.specs.declared.call.Call.TheVariants as call
use Rattle.cc_entry.specs.declared.reply.Reply.TheVariants as reply
use Rattle.cc_entry.specs.declared.reply.Outcome.{Outcome}
use Rattle.cc_entry.specs.declared.entry.Entry.{Entry}
use Rattle.cc_model.specs.Setup.{Setup}
use Rattle.cc_model.specs.Holds.{Hold, holds_of, hold_at, range_held}
use Rattle.cc_model.specs.Legal.{stream_history}
use Rattle.cc_effects.specs.Moments.{Between}
use Rattle.cc_effects.specs.Calls.{IsDone, CallLeft}

-- the hold of this id, as it stood, was ended
pub record IsHoldEnded (me id : ℕ) (hold : Hold) (old new : List Entry) : Type 0 where
  pub done : IsDone me (call.EndHold id) reply.Unit old new
  pub found : hold_at (holds_of (stream_history (done.earlier ++ old) done.placed.stream)) id ≡ Some hold

-- The hold is spent, whatever the flush answers. Without write through there is no refusal.
abbrev pub UnpinLeft : Setup → ℕ → ℕ → Bool → Outcome → Between
UnpinLeft u me id false answered old new = CallLeft u me (call.EndHold id) answered old new
UnpinLeft u me id true answered old new =
    (between : List Entry)
    × (hold : Hold)
    × IsHoldEnded me id hold old between
    × CallLeft u me (call.Flush hold.file (Some (range_held hold))) answered between new

-- A range that is held, read and let go leaves its part, as a caller's calls one after the other.
use Rattle.std.specs.Prelude.{ℕ, ◌+◌, List, ◌∷◌, ◌++◌}
use Rattle.std.specs.declared.option.Option.TheVariants.{Some}
use Rattle.cc_entry.specs.Place.{Range}
use Rattle.cc_entry.specs.declared.call.Call.TheVariants as call
use Rattle.cc_entry.specs.declared.reply.Reply.TheVariants as reply
use Rattle.cc_entry.specs.declared.entry.Entry.{Entry}
use Rattle.cc_model.specs.Acts.{file_of}
use Rattle.cc_model.specs.Holds.{holds_of}
use Rattle.cc_model.specs.Legal.{stream_history}
use Rattle.cc_model.specs.Filing.{IsFiled}
use Rattle.cc_effects.specs.Calls.{IsUnderWay, HasDone}
use Rattle.cc_effects.proofs.Starts.{begins, ends_done}
use Rattle.cc_pieces.specs.Shim.{HoldPath, PartRead}
use Rattle.cc_worked.specs.Values.{setup, answers}
use Rattle.cc_worked.specs.PiecesShim.{holds}

-- the hold is made on what its call brought in, and then read
abbrev pub made_on : HoldPath → Range → ℕ → ℕ → List Entry → List Entry
made_on path r nth id came = answers 1 nth (path.make r) (reply.Hold id) ∷ came

abbrev pub seen_on : HoldPath → Range → ℕ → ℕ → List ℕ → List Entry → List Entry
seen_on path r nth id bytes came = answers 1 (nth + 1) (path.look id r) (reply.Read bytes) ∷ made_on path r nth id came

pub part-left : (path : HoldPath) (r : Range) (nth id : ℕ) (bytes : List ℕ) (old came : List Entry) → IsUnderWay 1 (path.make r) old came → IsFiled (holds_of (stream_history came (Some 0))) 1 (Some 0) (path.make r) (file_of (path.make r)) → IsFiled (holds_of (stream_history (made_on path r nth id came) (Some 0))) 1 (Some 0) (path.look id r) (file_of (path.look id r)) → IsFiled (holds_of (stream_history (seen_on path r nth id bytes came) (Some 0))) 1 (Some 0) (call.EndHold id) (file_of (call.EndHold id)) → ((during : List Entry) → HasDone 1 (path.make r) during old) → ((during : List Entry) → HasDone 1 (path.look id r) during (made_on path r nth id came)) → PartRead setup 1 path r bytes old (holds nth id (path.make r) (path.look id r) bytes ++ came)
part-left path r nth id bytes old came way make look end makes looks = (
  id,
  made_on path r nth id came,
  seen_on path r nth id bytes came,
  ends_done 1 nth (Some 0) (path.make r) (reply.Hold id) old came way make makes,
  ends_done 1 (nth + 1) (Some 0) (path.look id r) (reply.Read bytes) (made_on path r nth id came) (made_on path r nth id came) (begins 1 (path.look id r) (made_on path r nth id came)) look looks,
  ends_done 1 (nth + 2) (Some 0) (call.EndHold id) reply.Unit (seen_on path r nth id bytes came) (seen_on path r nth id bytes came) (begins 1 (call.EndHold id) (seen_on path r nth id bytes came)) end (λ during. tt),
)

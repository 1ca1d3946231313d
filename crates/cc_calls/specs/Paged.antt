-- What a call on a stream leaves of itself, that is made in one turn of the stream's book, or that needs pages.
use Rattle.std.specs.Prelude.{◌≡◌, ℕ, Bool, true, false, Result, List}
use Rattle.cc_entry.specs.Queries.{is_of_stream}
use Rattle.cc_entry.specs.declared.call.Call.{Call}
use Rattle.cc_entry.specs.declared.call.Call.TheVariants as call
use Rattle.cc_entry.specs.declared.error.CcError.{CcError}
use Rattle.cc_effects.specs.Asked.{brings_in}
use Rattle.cc_model.specs.Good.{IsGood}
use Rattle.cc_step.specs.Step.{most_asked}
use Rattle.cc_turns.specs.Standing.{Standing}
use Rattle.cc_writes.specs.Hands.{Went}
use Rattle.cc_writes.specs.Ways.{EndedSo, IsFull}
use Rattle.cc_writes.specs.declared.tell.Returned.{Returned}
use Rattle.cc_writes.specs.Fetch.{WentOn}
use Rattle.cc_calls.specs.Pages.{IsFullFor, TookDeviceFor}

-- Whether a call is done on pages of its stream, all of which have to be resident. A query of a stream may need none.
abbrev pub is_paged : Call → Bool
is_paged (call.CopyRead file at len wait) = true
is_paged (call.CopyWrite file at bytes) = true
is_paged (call.Zero file span) = true
is_paged (call.Map file at len) = true
is_paged (call.PinRead file at len exclusive) = true
is_paged (call.PreparePin file at len zero exclusive) = true
is_paged (call.MdlRead file at len) = true
is_paged (call.MdlWrite file at len) = true
is_paged (call.AheadStep request) = true
is_paged (call.Query query) = is_of_stream query
is_paged other = false

-- A call that needs no page ended so, and its caller was told what it returns. The pass goes on as it stood and may call
-- again, and what it has seen is good.
pub record CalledAtOnce (old new : Standing) (it : Call) (answer : Result Returned CcError) (was now : List ℕ) : Type 0 where
  pub left : EndedSo old.setup old.number it answer old.seen new.seen was now
  pub full : IsFull (most_asked it) new answer
  pub goes_on : Went old new
  pub good : IsGood old.setup new.seen

-- A call that needs pages ended so. The turn of a disk was taken only for a page that was not resident, and for none
-- where the call brings no page in.
pub record Paged (old new : Standing) (it : Call) (answer : Result Returned CcError) (was now : List ℕ) : Type 0 where
  pub left : EndedSo old.setup old.number it answer old.seen new.seen was now
  pub full : IsFullFor it old new answer
  pub goes_on : WentOn old new
  pub good : IsGood old.setup new.seen
  pub missed : TookDeviceFor it old new
  pub no_wait : brings_in it ≡ false → new.device_turns ≡ old.device_turns

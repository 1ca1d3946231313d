-- What a read-ahead step leaves that took a request, or none.
use Rattle.std.specs.Prelude.{◌≡◌, ℕ, Result, Ok, Err}
use Rattle.std.specs.declared.option.Option.{Option}
use Rattle.std.specs.declared.option.Option.TheVariants.{Some, None}
use Rattle.cc_entry.specs.declared.place.Request.{Request}
use Rattle.cc_entry.specs.declared.answer.AheadDone.{AheadDone}
use Rattle.cc_entry.specs.declared.call.Call.TheVariants as call
use Rattle.cc_entry.specs.declared.error.CcError.{CcError}
use Rattle.cc_entry.specs.declared.reply.Reply.TheVariants as reply
use Rattle.cc_entry.specs.declared.reply.Outcome.TheVariants as outcome
use Rattle.cc_model.specs.Setup.{Setup}
use Rattle.cc_effects.specs.Moments.{IsIdle, Between}
use Rattle.cc_effects.specs.Calls.{CallLeft}

-- A step that took a request served that one, and tells it where it is done; a refusal does not tell it, but it is spent. A
-- step that took none leaves nothing, and is not refused.
abbrev pub AheadLeft : Setup → ℕ → Option Request → Result (Option AheadDone) CcError → Between
AheadLeft u me None (Ok None) old new = IsIdle me old new
AheadLeft u me None other old new = ⊥
AheadLeft u me (Some request) (Ok None) old new = ⊥
AheadLeft u me (Some request) (Ok (Some done)) old new =
    (done.request ≡ request)
    × CallLeft u me (call.AheadStep request) (outcome.Done (reply.Whole done.whole)) old new
AheadLeft u me (Some request) (Err e) old new = CallLeft u me (call.AheadStep request) (outcome.Failed e) old new

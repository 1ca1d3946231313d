use Rattle.std.proofs.Common.{sym, ◌∙◌}
use Rattle.cc_model.specs.History.{history}
use Rattle.cc_model.specs.Holds.{holds_of}
use Rattle.cc_world.proofs.CallSums.{asked-else}
use Rattle.cc_world.proofs.ends.asked.Goals as goal

pub returns-in_default : goal.returns-in_default
returns-in_default c opening past stands =
    c.places_asked.ensures opening past stands ∙ sym (asked-else (holds_of (history past c.args.book.now.stream)) c.args.call.now c.in_default.not-NcWrite)

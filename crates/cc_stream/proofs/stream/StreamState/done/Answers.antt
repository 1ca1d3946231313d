use Rattle.cc_stream.proofs.StreamSteps.{stands-done}
use Rattle.cc_stream.proofs.stream.StreamState.done.Goals as goal

pub returns : goal.returns
returns c =
    record { stands = rw c.after.ensures.after (stands-done c.args.call.now c.args.mapped c.args.self.now c.after.ensures.numbered c.after.ensures.sixteen) }

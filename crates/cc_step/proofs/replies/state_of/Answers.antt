use Rattle.std.specs.Prelude.{refl}
use Rattle.cc_step.proofs.replies.state_of.Goals as goal

pub returns : goal.returns
returns c opening past stands =
    rw (c.allocation.ensures opening past stands, c.size.ensures opening past stands, c.valid.ensures opening past stands, c.log.ensures opening past stands) refl

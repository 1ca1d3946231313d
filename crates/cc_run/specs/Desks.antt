-- What a run on a desk keeps from one line to the next.
use Rattle.std.specs.Prelude.{◌≡◌}
use Rattle.cc_turns.specs.Standing.{Standing, nothing}

-- Any pass may act next: no turn is held, and nothing is under way.
pub record PassIsReady (w : Standing) : Type 0 where
  pub free : w.held ≡ nothing
  pub at_rest : w.in_flight ≡ 0

-- It is the same run: made from the same, whoever acts.
pub record IsSameRun (old new : Standing) : Type 0 where
  pub setup : new.setup ≡ old.setup
  pub streams : new.streams ≡ old.streams
  pub disks : new.disks ≡ old.disks
  pub logs : new.logs ≡ old.logs

-- The same pass acts in it.
pub record IsSamePass (old new : Standing) : Type 0 where
  pub run : IsSameRun old new
  pub number : new.number ≡ old.number
  pub since : new.since ≡ old.since

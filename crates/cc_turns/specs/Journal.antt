-- What the journal stands for under its turn.
use Rattle.std.specs.Prelude.{◌≡◌, ◌+◌, Bool}
use Rattle.cc_journal.specs.Journal.{JournalState}
use Rattle.cc_journal.specs.Queue.{AllUnposted}
use Rattle.cc_model.specs.Good.{IsGood}
use Rattle.cc_model.specs.Room.{reserved_in}
use Rattle.cc_turns.specs.Standing.{Standing}

-- The journal, as a pass has it: it has what the pass has seen, which is good; its limits are those of the setup;
-- its reserved entries are those that its past owes, and what this pass and others have under way; and no routine
-- that waits was posted.
pub record JournalStands {Q : Type 0} (posted : Q → Bool) (w : Standing) (j : JournalState Q) : Type 0 where
  pub entries_are : j.entries ≡ w.seen
  pub good : IsGood w.setup w.seen
  pub capacity_is : j.capacity ≡ w.setup.capacity
  pub threshold_is : j.threshold ≡ w.setup.threshold
  pub logs_are : j.logs ≡ w.setup.logs
  pub reserved_is : j.reserved ≡ reserved_in w.seen + w.in_flight + w.others
  pub unposted : AllUnposted posted j.queue

-- What one event leaves of the World, as the lines of a script see it: an entry at its place, and what waits in the queue.
use Rattle.std.specs.Prelude.{◌≡◌}
use Rattle.std.specs.declared.option.Option.TheVariants.{Some, None}
use Rattle.cc_turns.specs.Desk.{Tells}
use Rattle.cc_world.specs.Journals.{Queued}
use Rattle.cc_pieces.specs.Moments.{EventLeft}
use Rattle.cc_world.specs.World.{WorldState}
use Rattle.cc_effects.specs.declared.events.Event.{Event}
use Rattle.cc_effects.specs.declared.events.Event.TheVariants as event
use Rattle.cc_effects.specs.declared.events.StepReply.{StepReply}
use Rattle.cc_effects.specs.declared.events.StepReply.TheVariants as step
use Rattle.cc_turns.specs.Slots.{setup_in}

-- an event with nothing in place of its routine
abbrev pub without_routine : {Q : Type 0} → Event Q → Event (Unit {0})
without_routine (event.Fill pass page) = event.Fill pass page
without_routine (event.Drop page) = event.Drop page
without_routine (event.WriteBegin pass page) = event.WriteBegin pass page
without_routine (event.WriteEnd page) = event.WriteEnd page
without_routine (event.Sync pass stream) = event.Sync pass stream
without_routine (event.Do pass it) = event.Do pass it
without_routine (event.Fail pass it) = event.Fail pass it
without_routine (event.Append pass handle bytes) = event.Append pass handle bytes
without_routine (event.LogFlush pass handle to) = event.LogFlush pass handle to
without_routine (event.Scan pass) = event.Scan pass
without_routine (event.Defer pass file bytes retrying routine) = event.Defer pass file bytes retrying tt
without_routine (event.Post pass) = event.Post pass

-- a reply likewise: a deferral that hands its routine back was refused
abbrev pub reply_without : {Q : Type 0} → StepReply Q → StepReply (Unit {0})
reply_without (step.Done r) = step.Done r
reply_without (step.NewLsn lsn) = step.NewLsn lsn
reply_without (step.Deferred id) = step.Deferred id
reply_without (step.Posted None) = step.Posted None
reply_without (step.Posted (Some posted)) = step.Posted (Some (record { id = posted.id; routine = tt }))
reply_without (step.Refused e) = step.Refused e
reply_without (step.Kept routine e) = step.Refused e
reply_without step.Faulted = step.Faulted
reply_without step.NotNow = step.NotNow

-- a reply that posts no write
abbrev pub PostsNone : {Q : Type 0} → StepReply Q → Type 0
PostsNone (step.Posted posted) = ⊥
PostsNone other = Unit {0}

-- An event happened at the end of the journal: what was placed, what became of the routines that wait, and that the run
-- is the same.
pub record HasHappened {D L Q : Type 0} (tells : Tells D L Q) (it : Event Q) (reply : StepReply Q) (old new : WorldState D L Q)
    : Type 0 where
  pub left : EventLeft (setup_in tells old.begun) (without_routine it) (reply_without reply)
      old.journal.entries new.journal.entries
  pub queued : Queued tells.posted it reply old.journal.queue new.journal.queue
  pub begun : new.begun ≡ old.begun

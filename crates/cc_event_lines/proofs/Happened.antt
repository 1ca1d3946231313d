-- What a step of the World leaves, seen from the journal alone.
--
-- The clauses of an event do not look at its routine, and the room that the World asks is the room of the law, since the
-- journal has the setup's capacity and has reserved just what its entries owe (`room-same`). So a step leaves one event at
-- its place (`has-happened`).
use Rattle.std.specs.Prelude.{◌≡◌, ℕ, ◌≤◌, List, [], ◌∷◌, ◌++◌, refl}
use Rattle.std.specs.declared.option.Option.{Option}
use Rattle.std.specs.declared.option.Option.TheVariants.{Some, None}
use Rattle.std.proofs.Common.{ap, arith, ◌∙◌}
use Rattle.cc_entry.specs.declared.entry.Entry.{Entry}
use Rattle.cc_entry.specs.declared.error.CcError.{CcError}
use Rattle.cc_entry.specs.declared.error.CcError.TheVariants as error
use Rattle.cc_entry.specs.declared.reply.Reply.TheVariants as reply
use Rattle.cc_journal.specs.Journal.{JournalState, room_of}
use Rattle.cc_model.specs.Room.{room_in}
use Rattle.cc_model.specs.Setup.{Setup}
use Rattle.cc_turns.specs.Desk.{Begun, Tells}
use Rattle.cc_world.specs.Journals.{refused_plainly}
use Rattle.cc_pieces.specs.Moments.{EventLeft}
use Rattle.cc_effects.specs.Events.{Answers, IsWanting, MayFault, MayHappen, Where, OnStream, OnLog, OnJournal, Nowhere, asked_by_event, faulted_by, place_of_event}
use Rattle.cc_world.specs.World.{Faulted, Happened, JournalRests, WorldEventLeft, WentAt, WorldState}
use Rattle.cc_effects.specs.declared.events.Event.{Event}
use Rattle.cc_effects.specs.declared.events.Event.TheVariants as event
use Rattle.cc_effects.specs.declared.events.StepReply.{StepReply}
use Rattle.cc_effects.specs.declared.events.StepReply.TheVariants as step
use Rattle.cc_event_lines.specs.Happening.{HasHappened, reply_without, without_routine}
use Rattle.cc_turns.specs.Slots.{setup_in}

-- whether an event may happen, what it asks, and what it places, without its routine
may-without : {Q : Type 0} (u : Setup) (past : List Entry) (it : Event Q) → MayHappen u past it → MayHappen u past (without_routine it)
may-without u past (event.Fill pass page) may = may
may-without u past (event.Drop page) may = may
may-without u past (event.WriteBegin pass page) may = may
may-without u past (event.WriteEnd page) may = may
may-without u past (event.Sync pass stream) may = may
may-without u past (event.Do pass it) may = may
may-without u past (event.Fail pass it) may = may
may-without u past (event.Append pass handle bytes) may = may
may-without u past (event.LogFlush pass handle to) may = may
may-without u past (event.Scan pass) may = may
may-without u past (event.Defer pass file bytes retrying routine) may = may
may-without u past (event.Post pass) may = may

may-with : {Q : Type 0} (u : Setup) (past : List Entry) (it : Event Q) → MayHappen u past (without_routine it) → MayHappen u past it
may-with u past (event.Fill pass page) may = may
may-with u past (event.Drop page) may = may
may-with u past (event.WriteBegin pass page) may = may
may-with u past (event.WriteEnd page) may = may
may-with u past (event.Sync pass stream) may = may
may-with u past (event.Do pass it) may = may
may-with u past (event.Fail pass it) may = may
may-with u past (event.Append pass handle bytes) may = may
may-with u past (event.LogFlush pass handle to) may = may
may-with u past (event.Scan pass) may = may
may-with u past (event.Defer pass file bytes retrying routine) may = may
may-with u past (event.Post pass) may = may

asked-without : {Q : Type 0} (u : Setup) (past : List Entry) (it : Event Q) → asked_by_event u past (without_routine it) ≡ asked_by_event u past it
asked-without u past (event.Fill pass page) = refl
asked-without u past (event.Drop page) = refl
asked-without u past (event.WriteBegin pass page) = refl
asked-without u past (event.WriteEnd page) = refl
asked-without u past (event.Sync pass stream) = refl
asked-without u past (event.Do pass it) = refl
asked-without u past (event.Fail pass it) = refl
asked-without u past (event.Append pass handle bytes) = refl
asked-without u past (event.LogFlush pass handle to) = refl
asked-without u past (event.Scan pass) = refl
asked-without u past (event.Defer pass file bytes retrying routine) = refl
asked-without u past (event.Post pass) = refl

fault-without : {Q : Type 0} (past : List Entry) (it : Event Q) → faulted_by past (without_routine it) ≡ faulted_by past it
fault-without past (event.Fill pass page) = refl
fault-without past (event.Drop page) = refl
fault-without past (event.WriteBegin pass page) = refl
fault-without past (event.WriteEnd page) = refl
fault-without past (event.Sync pass stream) = refl
fault-without past (event.Do pass it) = refl
fault-without past (event.Fail pass it) = refl
fault-without past (event.Append pass handle bytes) = refl
fault-without past (event.LogFlush pass handle to) = refl
fault-without past (event.Scan pass) = refl
fault-without past (event.Defer pass file bytes retrying routine) = refl
fault-without past (event.Post pass) = refl

may_fault-without : {Q : Type 0} (u : Setup) (past : List Entry) (it : Event Q) → MayFault u past it → MayFault u past (without_routine it)
may_fault-without u past (event.Fill pass page) may = may
may_fault-without u past (event.Drop page) may = may
may_fault-without u past (event.WriteBegin pass page) may = may
may_fault-without u past (event.WriteEnd page) may = may
may_fault-without u past (event.Sync pass stream) may = may
may_fault-without u past (event.Do pass it) may = may
may_fault-without u past (event.Fail pass it) may = may
may_fault-without u past (event.Append pass handle bytes) may = may
may_fault-without u past (event.LogFlush pass handle to) may = may
may_fault-without u past (event.Scan pass) may = may
may_fault-without u past (event.Defer pass file bytes retrying routine) may = may
may_fault-without u past (event.Post pass) may = may

wanting-without : {Q : Type 0} (past : List Entry) (it : Event Q) (added : List Entry) → IsWanting past it added → IsWanting past (without_routine it) added
wanting-without past (event.Fill pass page) added wants = wants
wanting-without past (event.Drop page) added wants = wants
wanting-without past (event.WriteBegin pass page) added wants = wants
wanting-without past (event.WriteEnd page) added wants = wants
wanting-without past (event.Sync pass stream) added wants = wants
wanting-without past (event.Do pass it) added wants = wants
wanting-without past (event.Fail pass it) added wants = wants
wanting-without past (event.Append pass handle bytes) added wants = wants
wanting-without past (event.LogFlush pass handle to) added wants = wants
wanting-without past (event.Scan pass) added wants = wants
wanting-without past (event.Defer pass file bytes retrying routine) added wants = wants
wanting-without past (event.Post pass) added wants = wants

answers-without : {Q : Type 0} (u : Setup) (past : List Entry) (it : Event Q) (r : StepReply Q) (added : List Entry) → Answers u past it r added → Answers u past (without_routine it) (reply_without r) added
answers-without u past (event.Fill pass page) (step.Done reply.Unit) added a = a
answers-without u past (event.Fill pass page) other added a = absurd a
answers-without u past (event.Drop page) (step.Done reply.Unit) added a = a
answers-without u past (event.Drop page) other added a = absurd a
answers-without u past (event.WriteBegin pass page) (step.Done reply.Unit) added a = a
answers-without u past (event.WriteBegin pass page) other added a = absurd a
answers-without u past (event.WriteEnd page) (step.Done reply.Unit) added a = a
answers-without u past (event.WriteEnd page) other added a = absurd a
answers-without u past (event.Sync pass stream) (step.Done reply.Unit) added a = a
answers-without u past (event.Sync pass stream) other added a = absurd a
answers-without u past (event.Do pass it) (step.Done r) added a = a
answers-without u past (event.Do pass it) (step.Refused e) added a = a
answers-without u past (event.Do pass it) other added a = absurd a
answers-without u past (event.Fail pass it) (step.Refused e) added a = a
answers-without u past (event.Fail pass it) other added a = absurd a
answers-without u past (event.Append pass handle bytes) (step.NewLsn lsn) added a = a
answers-without u past (event.Append pass handle bytes) (step.Refused (error.NoLog n)) added a = a
answers-without u past (event.Append pass handle bytes) (step.Refused (error.LogFull n)) added a = a
answers-without u past (event.Append pass handle bytes) other added a = absurd a
answers-without u past (event.LogFlush pass handle to) (step.Done reply.Unit) added a = a
answers-without u past (event.LogFlush pass handle to) (step.Refused (error.NoLog n)) added a = a
answers-without u past (event.LogFlush pass handle to) other added a = absurd a
answers-without u past (event.Scan pass) (step.Done reply.Unit) added a = a
answers-without u past (event.Scan pass) other added a = absurd a
answers-without u past (event.Defer pass file bytes retrying routine) (step.Deferred id) added a = a
answers-without u past (event.Defer pass file bytes retrying routine) (step.Refused error.NotCached) added a = a
answers-without u past (event.Defer pass file bytes retrying routine) (step.Refused error.QueueFull) added a = a
answers-without u past (event.Defer pass file bytes retrying routine) other added a = absurd a
answers-without u past (event.Post pass) (step.Posted (Some posted)) added a = a
answers-without u past (event.Post pass) (step.Posted None) added a = a
answers-without u past (event.Post pass) other added a = absurd a

-- what was placed stands on top of what was there, and the run is the same
placed-at : {D L Q : Type 0} (tells : Tells D L Q) (place : Where) (n : ℕ) (added : List Entry) (w v : WorldState D L Q) → WentAt tells place n added w v → v.journal.entries ≡ added ++ w.journal.entries
placed-at tells (OnStream s) n added w v went = ap (λ j. j.entries) went.placed
placed-at tells (OnLog handle) n added w v went = ap (λ j. j.entries) went.placed
placed-at tells OnJournal n added w v went = ap (λ j. j.entries) went.placed
placed-at tells Nowhere n added w v went = rw (went.0, went.1) refl

begun-at : {D L Q : Type 0} (tells : Tells D L Q) (place : Where) (n : ℕ) (added : List Entry) (w v : WorldState D L Q) → WentAt tells place n added w v → v.begun ≡ w.begun
begun-at tells (OnStream s) n added w v went = ap (λ x. x.begun) went.same
begun-at tells (OnLog handle) n added w v went = ap (λ x. x.begun) went.same
begun-at tells OnJournal n added w v went = ap (λ x. x.begun) went.same
begun-at tells Nowhere n added w v went = ap (λ x. x.begun) went.1

-- the room of the journal is the room of the law
room-same : {D L Q : Type 0} (tells : Tells D L Q) (begun : Begun D L) (j : JournalState Q) → JournalRests tells begun j → room_of j ≡ room_in (setup_in tells begun) j.entries 0
unfolding room_in
room-same tells begun j rests = omega (arith, rests.limits.0, rests.reserved)

faulted-at : {D L Q : Type 0} (tells : Tells D L Q) (place : Where) (o : Option Entry) (w v : WorldState D L Q) → Faulted tells place o w v → (e : Entry) × (o ≡ Some e) × (v.journal.entries ≡ e ∷ w.journal.entries)
faulted-at tells place None w v faulted = absurd faulted
faulted-at tells place (Some e) w v faulted = (e, refl, placed-at tells place 1 (e ∷ []) w v faulted)

faulted-begun : {D L Q : Type 0} (tells : Tells D L Q) (place : Where) (o : Option Entry) (w v : WorldState D L Q) → Faulted tells place o w v → v.begun ≡ w.begun
faulted-begun tells place None w v faulted = absurd faulted
faulted-begun tells place (Some e) w v faulted = begun-at tells place 1 (e ∷ []) w v faulted

-- a refused deferral hands its routine back by no entry
kept-none : {Q : Type 0} (u : Setup) (past : List Entry) (it : Event Q) (routine : Q) (e : CcError) (added : List Entry) → Answers u past it (step.Kept routine e) added → ⊥
kept-none u past (event.Fill pass page) routine e added a = a
kept-none u past (event.Drop page) routine e added a = a
kept-none u past (event.WriteBegin pass page) routine e added a = a
kept-none u past (event.WriteEnd page) routine e added a = a
kept-none u past (event.Sync pass stream) routine e added a = a
kept-none u past (event.Do pass it) routine e added a = a
kept-none u past (event.Fail pass it) routine e added a = a
kept-none u past (event.Append pass handle bytes) routine e added a = a
kept-none u past (event.LogFlush pass handle to) routine e added a = a
kept-none u past (event.Scan pass) routine e added a = a
kept-none u past (event.Defer pass file bytes retrying own) routine e added a = a
kept-none u past (event.Post pass) routine e added a = a

-- what an event leaves that may happen and finds room
abbrev EndedSo : {D L Q : Type 0} → Tells D L Q → Event Q → StepReply Q → WorldState D L Q → WorldState D L Q → Type 0
EndedSo tells it r w v =
    MayHappen (setup_in tells w.begun) w.journal.entries it
    × (asked_by_event (setup_in tells w.begun) w.journal.entries it ≤ room_of w.journal)
    × ((added : List Entry) × Answers (setup_in tells w.begun) w.journal.entries it r added
    × WentAt tells (place_of_event (setup_in tells w.begun) w.journal.entries it) 0 added w v)

abbrev LeftSo : Setup → Event (Unit {0}) → StepReply (Unit {0}) → List Entry → List Entry → Type 0
LeftSo u it r old new =
    MayHappen u old it × (asked_by_event u old it ≤ room_in u old 0)
    × ((added : List Entry) × Answers u old it r added × (new ≡ added ++ old))

left-so : {D L Q : Type 0} (tells : Tells D L Q) (it : Event Q) (w v : WorldState D L Q) (rests : JournalRests tells w.begun w.journal) (r : StepReply Q) → EndedSo tells it r w v → LeftSo (setup_in tells w.begun) (without_routine it) (reply_without r) w.journal.entries v.journal.entries
left-so tells it w v rests r ended = (
  may-without (setup_in tells w.begun) w.journal.entries it ended.0,
  omega (arith, ended.1, room-same tells w.begun w.journal rests, asked-without (setup_in tells w.begun) w.journal.entries it),
  (
    ended.2.0,
    answers-without (setup_in tells w.begun) w.journal.entries it r ended.2.0 ended.2.1,
    placed-at tells (place_of_event (setup_in tells w.begun) w.journal.entries it) 0 ended.2.0 w v ended.2.2,
  ),
)

left-of : {D L Q : Type 0} (tells : Tells D L Q) (it : Event Q) (w v : WorldState D L Q) (rests : JournalRests tells w.begun w.journal) (r : StepReply Q) → Happened tells it r w v → EventLeft (setup_in tells w.begun) (without_routine it) (reply_without r) w.journal.entries v.journal.entries
left-of tells it w v rests (step.Done r) h = left-so tells it w v rests (step.Done r) h
left-of tells it w v rests (step.NewLsn lsn) h = left-so tells it w v rests (step.NewLsn lsn) h
left-of tells it w v rests (step.Deferred id) h = left-so tells it w v rests (step.Deferred id) h
left-of tells it w v rests (step.Posted None) h = left-so tells it w v rests (step.Posted None) h
left-of tells it w v rests (step.Posted (Some posted)) h = left-so tells it w v rests (step.Posted (Some posted)) h
left-of tells it w v rests (step.Refused (error.JournalFull entries)) h = (
  may-without (setup_in tells w.begun) w.journal.entries it h.0,
  omega (arith, h.1, room-same tells w.begun w.journal rests, asked-without (setup_in tells w.begun) w.journal.entries it),
  h.2,
  ap (λ x. x.journal.entries) h.3,
)
left-of tells it w v rests (step.Refused error.NoMemory) h = (
  h.0,
  wanting-without w.journal.entries it h.0 h.1,
  placed-at tells (place_of_event (setup_in tells w.begun) w.journal.entries it) 0 h.0 w v h.2,
)
left-of tells it w v rests (step.Refused e) h = left-so tells it w v rests (step.Refused e) h
left-of tells it w v rests (step.Kept routine e) h = absurd (kept-none (setup_in tells w.begun) w.journal.entries it routine e h.2.0 h.2.1)
left-of tells it w v rests step.Faulted h =
    let f = faulted-at tells (place_of_event (setup_in tells w.begun) w.journal.entries it) (faulted_by w.journal.entries it) w v h.2.1 in (
      may-without (setup_in tells w.begun) w.journal.entries it h.0,
      omega (arith, h.1, room-same tells w.begun w.journal rests, asked-without (setup_in tells w.begun) w.journal.entries it),
      may_fault-without (setup_in tells w.begun) w.journal.entries it h.2.0,
      (f.0, fault-without w.journal.entries it ∙ f.1, f.2),
    )
left-of tells it w v rests step.NotNow h =
    (λ may. h.0 (may-with (setup_in tells w.begun) w.journal.entries it may), ap (λ x. x.journal.entries) h.1)

begun-of : {D L Q : Type 0} (tells : Tells D L Q) (it : Event Q) (w v : WorldState D L Q) (r : StepReply Q) → Happened tells it r w v → v.begun ≡ w.begun
begun-of tells it w v (step.Refused (error.JournalFull entries)) h = ap (λ x. x.begun) h.3
begun-of tells it w v (step.Refused error.NoMemory) h = begun-at tells (place_of_event (setup_in tells w.begun) w.journal.entries it) 0 h.0 w v h.2
begun-of tells it w v step.Faulted h = faulted-begun tells (place_of_event (setup_in tells w.begun) w.journal.entries it) (faulted_by w.journal.entries it) w v h.2.1
begun-of tells it w v step.NotNow h = ap (λ x. x.begun) h.1
begun-of tells it w v other h = begun-at tells (place_of_event (setup_in tells w.begun) w.journal.entries it) 0 h.2.0 w v h.2.2

-- a step leaves an event at its place
pub has-happened : {D L Q : Type 0} (tells : Tells D L Q) (it : Event Q) (reply : StepReply Q) (w v : WorldState D L Q) → JournalRests tells w.begun w.journal → WorldEventLeft tells it reply w v → HasHappened tells it reply w v
has-happened {Q = Q} tells it reply w v rests stepped = record {
  left = by reply stepped.0;
  queued = stepped.1;
  begun = begun-of tells it w v (refused_plainly reply) stepped.0;
}
  where
    by : (r : StepReply Q) → Happened tells it (refused_plainly r) w v → EventLeft (setup_in tells w.begun) (without_routine it) (reply_without r) w.journal.entries v.journal.entries
    by (step.Kept routine e) h = left-of tells it w v rests (step.Refused e) h
    by other h = left-of tells it w v rests other h

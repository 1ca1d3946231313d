-- The journal of the World, and what an event leaves of it that happens to no stream and no log.
use Rattle.std.specs.Prelude.{◌≡◌, ◌<◌, ◌≤◌, Bool, true, List, [], ◌∷◌, ◌++◌, drop, length, slice_get, if◌then◌else◌}
use Rattle.std.specs.declared.option.Option.TheVariants.{Some}
use Rattle.std.specs.Option.{option_map}
use Rattle.cc_entry.specs.declared.entry.Entry.{Entry}
use Rattle.cc_entry.specs.declared.error.CcError.TheVariants as error
use Rattle.cc_entry.specs.declared.hold.Deferral.{Deferral}
use Rattle.cc_journal.specs.Journal.{JournalState, room_of}
use Rattle.cc_journal.specs.Queue.{AllUnposted}
use Rattle.cc_model.specs.Good.{IsGood}
use Rattle.cc_model.specs.Room.{reserved_in}
use Rattle.cc_model.specs.Setup.{Setup}
use Rattle.cc_model.specs.Throttle.{pages_for}
use Rattle.cc_effects.specs.Events.{Answers, IsWanting, MayHappen, asked_by_event}
use Rattle.cc_effects.specs.declared.events.Event.{Event}
use Rattle.cc_effects.specs.declared.events.Event.TheVariants as event
use Rattle.cc_effects.specs.declared.events.StepReply.{StepReply}
use Rattle.cc_effects.specs.declared.events.StepReply.TheVariants as step

-- The journal gained these entries, and nothing else of it changed but what is reserved, its rows and its queue.
abbrev pub JournalHasPlaced : {Q : Type 0} → List Entry → JournalState Q → JournalState Q → Type 0
JournalHasPlaced added j k =
    k ≡ record j { entries = added ++ j.entries; reserved = k.reserved; rows = k.rows; queue = k.queue }

-- a deferral that is refused hands its routine back
abbrev pub refused_plainly : {Q : Type 0} → StepReply Q → StepReply Q
refused_plainly (step.Kept routine e) = step.Refused e
refused_plainly other = other

-- What an event leaves of the routines that wait: a deferral that is done puts its own at the tail, or at the head where
-- it is tried again, and one that is refused hands it back; a post hands out the head, posted; no other event changes
-- any.
abbrev pub Queued : {Q : Type 0} → (Q → Bool) → Event Q → StepReply Q → List (Deferral × Q) → List (Deferral × Q) → Type 0
Queued posted (event.Defer pass file bytes retrying routine) (step.Deferred id) old new =
    let deferral : Deferral = record { id = id; file = file; pages = pages_for bytes } in
    new ≡ (if retrying then (deferral, routine) ∷ old else old ++ (deferral, routine) ∷ [])
Queued posted (event.Defer pass file bytes retrying routine) (step.Kept kept e) old new = (kept ≡ routine) × (new ≡ old)
Queued posted (event.Defer pass file bytes retrying routine) other old new = ⊥
Queued posted (event.Post pass) (step.Posted (Some head)) old new =
    (option_map (λ w. w.0.id) (slice_get old 0) ≡ Some head.id) × (posted head.routine ≡ true) × (new ≡ drop 1 old)
Queued posted it (step.Kept kept e) old new = ⊥
Queued posted it other old new = new ≡ old

-- The journal stands under a setup: it is good, has the setup's limits, has reserved just what its entries owe, and no
-- routine that waits was posted.
pub record JournalStandsUnder {Q : Type 0} (posted : Q → Bool) (u : Setup) (j : JournalState Q) : Type 0 where
  pub good : IsGood u j.entries
  pub limits : (u.logs ≡ j.logs) × (u.threshold ≡ j.threshold)
  pub reserved : j.reserved ≡ reserved_in j.entries
  pub unposted : AllUnposted posted j.queue

abbrev pub IsJournalStanding : {Q : Type 0} → (Q → Bool) → JournalState Q → Type 0
IsJournalStanding posted j = (u : Setup) × JournalStandsUnder posted u j

-- these entries were placed, and the journal goes on standing
pub record JournalWent {Q : Type 0} (posted : Q → Bool) (u : Setup) (added : List Entry) (j k : JournalState Q) : Type 0 where
  pub stands : JournalStandsUnder posted u k
  pub placed : JournalHasPlaced added j k

-- What an event leaves of the journal alone, its routine aside, by cases over its reply.
abbrev pub JournalEnded : {Q : Type 0} → (Q → Bool) → Setup → Event Q → StepReply Q → JournalState Q → JournalState Q → Type 0
JournalEnded posted u it step.NotNow j k = (MayHappen u j.entries it → ⊥) × (k ≡ j)
JournalEnded posted u it step.Faulted j k = ⊥
JournalEnded posted u it (step.Refused (error.JournalFull entries)) j k =
    MayHappen u j.entries it × (room_of j < asked_by_event u j.entries it) × (entries ≡ length j.entries) × (k ≡ j)
JournalEnded posted u it (step.Refused error.NoMemory) j k =
    (added : List Entry) × IsWanting j.entries it added × JournalWent posted u added j k
JournalEnded posted u it other j k =
    MayHappen u j.entries it × (asked_by_event u j.entries it ≤ room_of j)
    × ((added : List Entry) × Answers u j.entries it other added × JournalWent posted u added j k)

abbrev pub JournalLeft : {Q : Type 0} → (Q → Bool) → Setup → Event Q → StepReply Q → JournalState Q → JournalState Q → Type 0
JournalLeft posted u it reply j k =
    JournalEnded posted u it (refused_plainly reply) j k × Queued posted it reply j.queue k.queue

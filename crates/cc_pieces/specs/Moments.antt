-- What an event leaves between two moments of the journal: one event at its place.
use Rattle.std.specs.Prelude.{◌≡◌, ◌<◌, ◌≤◌, List, ◌∷◌, ◌++◌, length}
use Rattle.std.specs.declared.option.Option.TheVariants.{Some}
use Rattle.cc_entry.specs.declared.entry.Entry.{Entry}
use Rattle.cc_entry.specs.declared.error.CcError.TheVariants as error
use Rattle.cc_model.specs.Room.{room_in}
use Rattle.cc_model.specs.Setup.{Setup}
use Rattle.cc_effects.specs.Events.{Answers, IsWanting, MayFault, MayHappen, asked_by_event, faulted_by}
use Rattle.cc_effects.specs.declared.events.Event.{Event}
use Rattle.cc_effects.specs.declared.events.StepReply.{StepReply}
use Rattle.cc_effects.specs.declared.events.StepReply.TheVariants as step

-- An event that was replied so placed these entries, and nothing else came: it is not now exactly where the law forbids
-- it, the journal is full exactly where there is less room than it asks, a fault comes only behind these two and where the
-- event goes to its device or its log, and any other reply is what its entries say.
abbrev pub EventLeft : {Q : Type 0} → Setup → Event Q → StepReply Q → List Entry → List Entry → Type 0
EventLeft u it step.NotNow old new = (MayHappen u old it → ⊥) × (new ≡ old)
EventLeft u it step.Faulted old new =
    MayHappen u old it × (asked_by_event u old it ≤ room_in u old 0) × MayFault u old it
    × ((e : Entry) × (faulted_by old it ≡ Some e) × (new ≡ e ∷ old))
EventLeft u it (step.Refused (error.JournalFull entries)) old new =
    MayHappen u old it × (room_in u old 0 < asked_by_event u old it) × (entries ≡ length old) × (new ≡ old)
EventLeft u it (step.Refused error.NoMemory) old new =
    (added : List Entry) × IsWanting old it added × (new ≡ added ++ old)
EventLeft u it other old new =
    MayHappen u old it × (asked_by_event u old it ≤ room_in u old 0)
    × ((added : List Entry) × Answers u old it other added × (new ≡ added ++ old))

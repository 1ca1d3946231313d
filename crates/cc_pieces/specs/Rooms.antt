-- When a line may be told that the journal is full.
use Rattle.std.specs.Prelude.{◌≡◌, ℕ, ◌<◌, Bool, true, ◌&&◌, ◌==◌, List, [], ◌∷◌, length, Result, Err, if◌then◌else◌}
use Rattle.std.specs.declared.option.Option.TheVariants.{Some}
use Rattle.std.specs.List.{list_all}
use Rattle.cc_entry.specs.declared.error.CcError.{CcError}
use Rattle.cc_entry.specs.declared.error.CcError.TheVariants as error
use Rattle.cc_entry.specs.declared.answer.Answer.{Answer}
use Rattle.cc_entry.specs.declared.answer.Answer.TheVariants as answer
use Rattle.cc_script.specs.declared.script.ActionLine.{ActionLine}
use Rattle.cc_model.specs.Setup.{Setup}
use Rattle.cc_model.specs.Room.{room_in}
use Rattle.cc_effects.specs.Moments.{AtSome, Between}

-- at a moment of the line the journal had so many entries, and less room than this
abbrev pub JournalWasFull : Setup → ℕ → ℕ → Between
JournalWasFull u limit entries old new = AtSome (λ moment. (entries ≡ length moment) × (room_in u moment 0 < limit)) old new

-- what a queued read was completed with says that the journal was full only where it was
abbrev pub ToldNoRoom : {A : Type 0} → Setup → ℕ → Result A CcError → Between
ToldNoRoom u limit (Err (error.JournalFull entries)) old new = JournalWasFull u limit entries old new
ToldNoRoom u limit other old new = Unit {0}

-- the answer says that the journal was full only where it was
abbrev pub HadNoRoom : Setup → ℕ → Answer → Between
HadNoRoom u limit (answer.Refused (error.JournalFull entries)) old new = JournalWasFull u limit entries old new
HadNoRoom u limit (answer.NcRefused done (error.JournalFull entries)) old new = JournalWasFull u limit entries old new
HadNoRoom u limit (answer.Completed (Some done)) old new = ToldNoRoom u limit done.answer old new
HadNoRoom u limit other old new = Unit {0}

-- whether all the lines of a phase are those of one caller
abbrev pub is_alone : ℕ → List ActionLine → Bool
is_alone phase [] = true
is_alone phase (line ∷ lines) =
    if line.phase == phase then list_all (λ other. if other.phase == phase then other.caller == line.caller else true) lines
    else is_alone phase lines

-- With how much room a line may find the journal full. Each call asks at most 4 entries, and where callers
-- or workers run beside one another, what their calls have under way is not in the journal.
abbrev pub room_limit : ℕ → ℕ → Bool → ℕ
room_limit ticks aheads alone = if alone && (ticks == 0 && aheads == 0) then 4 else 32

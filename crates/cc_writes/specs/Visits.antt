-- What the visits of a pass to the journal leave of a call.
use Rattle.std.specs.Prelude.{◌≡◌, ℕ, suc, ◌⊎◌, Bool, true, false, List, ◌∷◌, Option, Result}
use Rattle.std.specs.declared.option.Option.TheVariants.{Some, None}
use Rattle.cc_entry.specs.declared.call.Call.{Call}
use Rattle.cc_entry.specs.declared.error.CcError.TheVariants as error
use Rattle.cc_entry.specs.declared.entry.Entry.{Entry}
use Rattle.cc_entry.specs.declared.entry.Entry.TheVariants as entry
use Rattle.cc_content.specs.Filling.{IsReadFrom}
use Rattle.cc_effects.specs.Asked.{is_in_the_way, makes_way}
use Rattle.cc_effects.specs.Calls.{IsUnderWay}
use Rattle.cc_effects.specs.Places.{is_on_disk_alone}
use Rattle.cc_model.specs.Acts.{file_of}
use Rattle.cc_model.specs.Filing.{IsFiled}
use Rattle.cc_model.specs.History.{history}
use Rattle.cc_model.specs.Holds.{Hold, holds_of}
use Rattle.cc_model.specs.Refusals.{refusal}
use Rattle.cc_model.specs.Residency.{is_resident}
use Rattle.cc_model.specs.Setup.{Setup}
use Rattle.cc_model.specs.Stamps.{is_unstamped}
use Rattle.cc_model.specs.Touches.{is_dirty}
use Rattle.cc_step.specs.Fill.{IsNotToLand}
use Rattle.cc_step.specs.Room.{has_room}
use Rattle.cc_step.specs.Step.{is_awaited, least_absent, needed_range, IsNeeding}
use Rattle.cc_turns.specs.Standing.{Standing}
use Rattle.cc_turns.specs.Takes.{Grows}
use Rattle.cc_writes.specs.Hands.{SameDisk, Went, WentWith}
use Rattle.cc_writes.specs.Ways.{EndedSo, IsFullCall, IsFullOn, IsHalted}
use Rattle.cc_step.specs.declared.ways.Way.{Way}
use Rattle.cc_step.specs.declared.ways.Way.TheVariants as way
use Rattle.cc_entry.specs.declared.error.CcError.{CcError}
use Rattle.cc_writes.specs.declared.course.Course.{Course}
use Rattle.cc_writes.specs.declared.course.Course.TheVariants as course
use Rattle.cc_writes.specs.declared.tell.Returned.{Returned}

-- the call is filed under the stream, whatever holds are open
abbrev pub CallIsOfStream : Call → ℕ → Type 0
CallIsOfStream it s = (holds : List Hold) (pass : ℕ) → IsFiled holds pass (Some s) it (file_of it)

-- The call is filed under the stream, as the pass has seen it: one that names a hold is filed where that hold is open
-- there, was made by the pass, and serves.
abbrev pub IsFiledNow : Standing → ℕ → Call → Type 0
IsFiledNow w s it = IsFiled (holds_of (history w.seen s)) w.number (Some s) it (file_of it)

-- Nothing refuses a call, and this is the least page that it needs and that is not resident.
pub record IsWaitedFor (u : Setup) (s : ℕ) (it : Call) (page : ℕ) (past : List Entry) : Type 0 where
  pub admitted : refusal u past (history past s) it ≡ None
  pub least : least_absent (history past s) (needed_range (history past s) it) ≡ Some page

-- A page is to be written so that its block can be given up for a call, which nothing refuses and which needs pages.
pub record IsToBeWritten (u : Setup) (s : ℕ) (it : Call) (page : ℕ) (past : List Entry) : Type 0 where
  pub admitted : refusal u past (history past s) it ≡ None
  pub needing : IsNeeding (history past s) it
  pub in_the_way : is_in_the_way it (record { stream = s; page = page }) past ≡ true
  pub dirty : is_dirty (history past s) page ≡ true
  pub stamped : is_unstamped (history past s) page ≡ false

-- What a part of a call that was under way leaves of it, by cases over its course: where it goes on, that is so which is
-- said of the way.
abbrev pub CourseLeft : {T : Type 0} → (T → Type 0) → Setup → ℕ → Call → Course T
    → List Entry → List Entry → List ℕ → List ℕ → Type 0
CourseLeft said u me it (course.Ended answer) old new was now = EndedSo u me it answer old new was now
CourseLeft said u me it (course.GoesOn way) old new was now = said way

-- Where a call ended, this is so of its answer.
abbrev pub OnEnded : {T : Type 0} → Course T → (Result Returned CcError → Type 0) → Type 0
OnEnded (course.Ended answer) said = said answer
OnEnded (course.GoesOn way) said = Unit {0}

-- Where a call goes on, this is so of the way.
abbrev pub OnGoing : {T : Type 0} → Course T → (T → Type 0) → Type 0
OnGoing (course.Ended answer) said = Unit {0}
OnGoing (course.GoesOn way) said = said way

-- a call waits for a page, which was under way and still is, and its caller was told nothing
abbrev pub WaitsFor : Setup → ℕ → ℕ → Call → ℕ → Call → List Entry → List Entry → List ℕ → List ℕ → Type 0
WaitsFor u me s it page again old new was now =
    (again ≡ it) × IsUnderWay me it old new × IsWaitedFor u s it page new × (now ≡ was)

-- What an attempt at a call that was under way leaves: where it goes on, it waits for a page.
abbrev pub TriedLeft : Setup → ℕ → ℕ → Call → Course (ℕ × Call) → List Entry → List Entry → List ℕ → List ℕ → Type 0
TriedLeft u me s it tried old new was now =
    CourseLeft (λ (waits : ℕ × Call). WaitsFor u me s it waits.0 waits.1 old new was now) u me it tried old new was now

-- What each way leaves of a call that was under way, by cases.
abbrev pub WayGone : Setup → ℕ → ℕ → Call → Way → List Entry → List Entry → List ℕ → List ℕ → Type 0
WayGone u me s it (way.WentOut again) old new was now = (again ≡ it) × IsUnderWay me it old new × (now ≡ was)
WayGone u me s it (way.Writes page again) old new was now =
    (again ≡ it) × IsUnderWay me it old new × IsToBeWritten u s it page new × (now ≡ was)
WayGone u me s it (way.Reads page again) old new was now = WaitsFor u me s it page again old new was now

-- What the next step of a call that was under way leaves.
abbrev pub CallStepLeft : Setup → ℕ → ℕ → Call → Course Way → List Entry → List Entry → List ℕ → List ℕ → Type 0
CallStepLeft u me s it step old new was now =
    CourseLeft (λ (taken : Way). WayGone u me s it taken old new was now) u me it step old new was now

-- an attempt at a call on a stream that stopped for want of room, or ended otherwise
abbrev pub IsFullTried : Standing → ℕ → Call → Course (ℕ × Call) → Type 0
IsFullTried w s it tried = OnEnded tried (λ (answer : Result Returned CcError). IsFullOn s it w answer)

-- the same of a step of a call that may bring pages in, each of which asks a place too
abbrev pub IsFullCallStep : Standing → Call → Course Way → Type 0
IsFullCallStep w it step = OnEnded step (λ (answer : Result Returned CcError). IsFullCall it w answer)

-- The pass goes on as it stood; with a page that is to be read it has a place reserved for the entry.
abbrev pub CallStepWent : Course Way → Standing → Standing → Type 0
CallStepWent (course.GoesOn (way.Reads page again)) old new = WentWith (suc old.in_flight) old new
CallStepWent other old new = Went old new

-- A page that is to come in was read from what the disk is known to hold, if it was read.
abbrev pub WasReadFor : Standing → ℕ → ℕ → Option (List ℕ) → Type 0
WasReadFor w s page None = Unit {0}
WasReadFor w s page (Some raw) =
    is_resident (history w.seen s) page ≡ false → IsReadFrom (w.setup.opening s) (history w.seen s) page raw

-- Others went on, and then the pass placed this entry.
pub record HasPlaced (w : Standing) (e : Entry) (new : List Entry) : Type 0 where
  pub front : List Entry
  pub grows : Grows w front
  pub placed : new ≡ e ∷ front

-- The page that a call waited for came in: its entry is the last, and the call waited for it at that front.
pub record HasLanded (w : Standing) (s : ℕ) (it : Call) (page : ℕ) (seen : List Entry) : Type 0 where
  pub from_disk : Bool
  pub placed : HasPlaced w (entry.PageIn w.number (record { stream = s; page = page }) from_disk) seen
  pub awaited : is_awaited w.setup placed.front s it page ≡ true

-- A page of which this was read did not come in, for a reason, and the pass placed nothing.
pub record HasNotLanded (w : Standing) (s : ℕ) (it : Call) (page : ℕ) (raw : Option (List ℕ)) (seen : List Entry) : Type 0 where
  pub grows : Grows w seen
  pub reason : IsNotToLand w.setup seen s it page raw

-- What became of a page that was looked for.
abbrev pub VisitLandLeft : Standing → ℕ → Call → ℕ → Option (List ℕ) → List Entry → Type 0
VisitLandLeft w s it page raw seen = HasLanded w s it page seen ⊎ HasNotLanded w s it page raw seen

-- A page is not on the disk alone any more, and the pass placed nothing.
pub record IsElsewhere (w : Standing) (s page : ℕ) (seen : List Entry) : Type 0 where
  pub grows : Grows w seen
  pub elsewhere : is_on_disk_alone (record { stream = s; page = page }) seen ≡ false

-- What the failure of a read left: its entry, or nothing of the pass.
abbrev pub UnreadPlaced : Standing → Standing → ℕ → ℕ → Bool → Type 0
UnreadPlaced old new s page true = HasPlaced old (entry.FillFailed old.number (record { stream = s; page = page })) new.seen
UnreadPlaced old new s page false = SameDisk old.seen new.seen s × IsElsewhere old s page new.seen

-- Where the entry stands the call was halted by it, else it is under way.
abbrev pub VisitUnreadLeft : Setup → ℕ → ℕ → Call → ℕ → Bool → List Entry → List Entry → Type 0
VisitUnreadLeft u me s it page true old new = IsHalted u me s it (error.ReadFault page) old new
VisitUnreadLeft u me s it page false old new = IsUnderWay me it old new

-- A page of the block to give up went out: its entry is the last, and it was the next to go at that front.
pub record HasGoneOut (w : Standing) (s : ℕ) (it : Call) (seen : List Entry) : Type 0 where
  pub page : ℕ
  pub placed : HasPlaced w (entry.PageOut w.number (record { stream = s; page = page })) seen
  pub next : makes_way it (record { stream = s; page = page }) placed.front ≡ true
  pub resident : is_resident (history placed.front s) page ≡ true

-- What each way placed, by cases: where a page is asked for, nothing, and for the block of one that is to come in there is
-- room.
abbrev pub WayPlaced : Standing → ℕ → Call → Way → List Entry → Type 0
WayPlaced w s it (way.WentOut again) seen = HasGoneOut w s it seen
WayPlaced w s it (way.Writes page again) seen = Grows w seen
WayPlaced w s it (way.Reads page again) seen = Grows w seen × (has_room (history seen s) page ≡ true)

-- What a step placed where the call goes on.
abbrev pub CallStepPlaced : Standing → ℕ → Call → Course Way → List Entry → Type 0
CallStepPlaced w s it step seen = OnGoing step (λ (taken : Way). WayPlaced w s it taken seen)

-- What a line of a script asks, and what it leaves.
use Rattle.std.specs.Prelude.{◌≡◌, ℕ, Bool, ◌<◌, ◌≤◌, ◌⊎◌, List, [], ◌∷◌, length, Result, Ok, Err, IfSome}
use Rattle.std.specs.declared.option.Option.{Option}
use Rattle.std.specs.declared.option.Option.TheVariants.{Some}
use Rattle.cc_entry.specs.Queries.{file_of_query}
use Rattle.cc_entry.specs.Place.{File, Page}
use Rattle.cc_entry.specs.declared.place.Request.{Request}
use Rattle.cc_entry.specs.declared.answer.AheadDone.{AheadDone}
use Rattle.cc_entry.specs.declared.answer.AsyncStart.{AsyncStart}
use Rattle.cc_entry.specs.declared.answer.Answer.{Answer}
use Rattle.cc_entry.specs.declared.answer.Answer.TheVariants as answer
use Rattle.cc_entry.specs.declared.error.CcError.{CcError}
use Rattle.cc_entry.specs.declared.reply.Reply.{Reply}
use Rattle.cc_entry.specs.declared.reply.Reply.TheVariants as reply
use Rattle.cc_entry.specs.declared.query.Value.TheVariants as value
use Rattle.cc_entry.specs.declared.call.Call.{Call}
use Rattle.cc_entry.specs.declared.hold.HoldKind.{HoldKind}
use Rattle.cc_pieces.specs.Answered.{AheadAnswered, CallAnswered}
use Rattle.cc_pieces.specs.Queue.{AheadStepPlaced}
use Rattle.cc_script.specs.declared.script.Action.{Action}
use Rattle.cc_script.specs.declared.script.Action.TheVariants as action
use Rattle.cc_script.specs.HoldWords.{UsesRight, bound_after}
use Rattle.cc_script.specs.declared.bound.Bound.{Bound}
use Rattle.cc_model.specs.Good.{IsGood}
use Rattle.cc_pieces.specs.Bindings.{Binding}
use Rattle.cc_pieces.specs.Served.{Served, bindings_after}
use Rattle.cc_turns.specs.Standing.{Standing, nothing}
use Rattle.cc_calls.specs.Pages.{StaysGood}
use Rattle.cc_queue.specs.Places.{PlaceState}
use Rattle.cc_ranges.specs.Stores.{HasToStore}
use Rattle.cc_ranges.specs.declared.error.NcError.{NcError}
use Rattle.cc_calls.specs.Held.{IsHolding}
use Rattle.cc_calls.specs.declared.held.Held.{Held}
-- a journal that is full as a line ends, or was so at a moment; how a pass goes on; one that holds no turn
pub use Rattle.cc_writes.specs.Ways.{IsFullError}
pub use Rattle.cc_shim.specs.Ends.{WasFullError}
pub use Rattle.cc_calls.specs.Pages.{WentOn}
pub use Rattle.cc_calls.specs.Answers.{IsFree}
use Rattle.cc_lines.specs.Holds.{NamesState, NamesStand, HasRoomForWord}
use Rattle.cc_lines.specs.Queues.{PlacesWent, hand_of}

-- An action of a run on one of so many streams, or on none; one on a hold names no stream. Those of `steps` alone are no
-- actions of a run.
abbrev pub IsServable : ℕ → Action → Type 0
IsServable streams (action.Initialise file sizes quota temporary) = file.stream < streams
IsServable streams (action.Uninitialise file truncate) = file.stream < streams
IsServable streams (action.CopyRead file at len wait) = file.stream < streams
IsServable streams (action.CopyWrite file at bytes) = file.stream < streams
IsServable streams (action.Zero file span) = file.stream < streams
IsServable streams (action.Map file at len word) = file.stream < streams
IsServable streams (action.PinRead file at len word exclusive) = file.stream < streams
IsServable streams (action.PinMapped word exclusive) = Unit {0}
IsServable streams (action.PreparePin file at len word zero exclusive) = file.stream < streams
IsServable streams (action.HeldRead word at len) = Unit {0}
IsServable streams (action.PinnedWrite word at bytes) = Unit {0}
IsServable streams (action.SetDirty word lsn) = Unit {0}
IsServable streams (action.Unpin word) = Unit {0}
IsServable streams (action.Repin word made) = Unit {0}
IsServable streams (action.UnpinRepinned word through) = Unit {0}
IsServable streams (action.MdlRead file at len word) = file.stream < streams
IsServable streams (action.MdlWrite file at len word) = file.stream < streams
IsServable streams (action.MdlBytes word at len) = Unit {0}
IsServable streams (action.MdlStore word at bytes) = Unit {0}
IsServable streams (action.MdlDone word) = Unit {0}
IsServable streams (action.MdlAbort word) = Unit {0}
IsServable streams (action.SetSizes file allocation size) = file.stream < streams
IsServable streams (action.Flush file span) = file.stream < streams
IsServable streams (action.Purge file span) = file.stream < streams
IsServable streams (action.Discard file span) = file.stream < streams
IsServable streams (action.NcRead file at len) = file.stream < streams
IsServable streams (action.NcWrite file at bytes) = file.stream < streams
IsServable streams (action.Read file path at len) = file.stream < streams
IsServable streams (action.Write file at bytes) = file.stream < streams
IsServable streams (action.Update file at bytes) = file.stream < streams
IsServable streams (action.Lock file span exclusive) = file.stream < streams
IsServable streams (action.Unlock file id) = file.stream < streams
IsServable streams (action.Levels file) = file.stream < streams
IsServable streams (action.Settle file) = file.stream < streams
IsServable streams (action.Checkpoint count handle) = (count ≤ streams) × (count ≤ 16)
IsServable streams (action.Query asked) = IfSome (file_of_query asked) (λ file. file.stream < streams)
IsServable streams (action.SetLog file handle) = file.stream < streams
IsServable streams (action.Append handle bytes) = Unit {0}
IsServable streams (action.LogFlush handle lsn) = Unit {0}
IsServable streams (action.SetGranularity file bytes) = file.stream < streams
IsServable streams (action.SetAttributes file no_read_ahead no_write_behind) = file.stream < streams
IsServable streams (action.SetThreshold file pages) = file.stream < streams
IsServable streams (action.AskAhead file at len) = file.stream < streams
IsServable streams action.AheadStep = Unit {0}
IsServable streams (action.AsyncRead file at len) = file.stream < streams
IsServable streams action.Complete = Unit {0}
IsServable streams action.Tick = Unit {0}
IsServable streams (action.NcReadPage file page) = ⊥
IsServable streams (action.NcStorePage file page bytes) = ⊥
IsServable streams (action.NcWritePage file page) = ⊥
IsServable streams (action.Fill page) = ⊥
IsServable streams (action.Drop page) = ⊥
IsServable streams (action.WriteBegin page) = ⊥
IsServable streams (action.WriteEnd page) = ⊥
IsServable streams (action.Sync stream) = ⊥
IsServable streams action.Scan = ⊥
IsServable streams (action.Defer file bytes retrying) = file.stream < streams
IsServable streams action.Post = Unit {0}

-- What is kept of the words of a pass stands for what it has seen.
abbrev pub NamesStandFor : Standing → List Bound → List Binding → NamesState → Type 0
NamesStandFor w bounds bindings names = NamesStand w.streams w.number w.seen bounds bindings names.named

-- A pass may make the call of an action: it holds no turn and has nothing under way; what it has seen is good; and the
-- action uses right the words that are kept for it, with room for the one that it binds.
pub record CanServe (w : Standing) (asked : Action) (names : NamesState) : Type 0 where
  pub servable : IsServable w.streams asked
  pub free : w.held ≡ nothing
  pub none : w.in_flight ≡ 0
  pub good : IsGood w.setup w.seen
  pub bounds : List Bound
  pub bindings : List Binding
  pub stand : NamesStandFor w bounds bindings names
  pub right : UsesRight bounds asked
  pub room : HasRoomForWord asked names

-- A page is to be stored by a noncached write.
pub record IsStoring (w : Standing) : Type 0 where
  pub file : File
  pub page : Page
  pub to_store : HasToStore w.setup file page w.seen

-- What a queued read was completed with says that the journal is full only where it is; and only where it was so at a moment.
abbrev pub IsFullIn : {A : Type 0} → Standing → Result A CcError → Type 0
IsFullIn w (Ok value) = Unit {0}
IsFullIn w (Err e) = IsFullError 3 w e

abbrev pub WasFullIn : {A : Type 0} → Standing → Standing → Result A CcError → Type 0
WasFullIn old new (Ok value) = Unit {0}
WasFullIn old new (Err e) = WasFullError 3 old new e

-- An answer says that the journal is full only where it is: with no room for so many places as a call asks at once, 3 at
-- most; or, where it is a noncached one, 2, or the 4 of a store where a page is to be stored as it finds that.
abbrev pub IsFullTold : Standing → Answer → Type 0
IsFullTold w (answer.Refused e) = IsFullError 3 w e
IsFullTold w (answer.NcRefused done cause) = IsFullError 2 w cause ⊎ (IsStoring w × IsFullError 4 w cause)
IsFullTold w (answer.Completed (Some done)) = IsFullIn w done.answer
IsFullTold w other = Unit {0}

-- The same of a moment of the line, at which others had no more under way than they ever have.
abbrev pub WasFullTold : Standing → Standing → Answer → Type 0
WasFullTold old new (answer.Refused e) = WasFullError 3 old new e
WasFullTold old new (answer.NcRefused done cause) = WasFullError 2 old new cause ⊎ (IsStoring new × WasFullError 4 old new cause)
WasFullTold old new (answer.Completed (Some done)) = WasFullIn old new done.answer
WasFullTold old new other = Unit {0}

-- A line was served: it left what explains its answer, over what the caller's words name, and what is kept of them
-- stands for it then; of a journal that is told to be full this is so, and this of the pass's places at the queues; the
-- pass goes on as it stood and may call again; and what it has seen is good.
pub record LineWith (Full Placed : Type 0) (old new : Standing) (asked : Action) (told : Answer) (was now : NamesState) : Type 0 where
  pub served : (bounds : List Bound) (bindings : List Binding) → NamesStandFor old bounds bindings was → UsesRight bounds asked →
      Served old.setup old.number bindings asked told old.seen new.seen
      × NamesStandFor new (bound_after asked bounds) (bindings_after asked told bindings) now
  pub full : Full
  pub goes_on : WentOn old new
  pub good : IsGood old.setup new.seen
  pub room : now.room ≡ was.room
  pub placed : Placed

-- the lines that are lists of calls
abbrev pub IsList : Action → Type 0
IsList (action.Read file path at len) = Unit {0}
IsList (action.Write file at bytes) = Unit {0}
IsList (action.Update file at bytes) = Unit {0}
IsList (action.Checkpoint count handle) = Unit {0}
IsList other = ⊥

-- Where a line tells that the journal is full, it was so at the line's end; or at a moment of it, if it is a list of calls.
abbrev pub IsFullLine : Standing → Standing → Action → Answer → Type 0
IsFullLine old new asked told = IsFullTold new told ⊎ (IsList asked × WasFullTold old new told)

-- a line that was served which is none of the queues
abbrev pub LineServed : Standing → Standing → Action → Answer → NamesState → NamesState → Type 0
LineServed old new asked told was now = LineWith (IsFullLine old new asked told) (now.places ≡ was.places) old new asked told was now

-- a line that was served
abbrev pub AnyServed : Standing → Standing → Action → Answer → NamesState → NamesState → Type 0
AnyServed old new asked told was now =
    LineWith (IsFullLine old new asked told)
    (PlacesWent old.number ((asked, told) ∷ []) was.places now.places old.seen new.seen) old new asked told was now

-- the same, and of each line that tells of a full journal a moment at which it was so
abbrev pub LineEnds : Standing → Standing → Action → Answer → NamesState → NamesState → Type 0
LineEnds old new asked told was now =
    LineWith (IsFullLine old new asked told × WasFullTold old new told)
    (PlacesWent old.number ((asked, told) ∷ []) was.places now.places old.seen new.seen) old new asked told was now

-- a step of read-ahead, which took a request, or none
pub record StepAt (old new : Standing) (told : Answer) (was now : PlaceState Request) : Type 0 where
  pub taken : Option Request
  pub answered : AheadAnswered old.setup old.number taken told old.seen new.seen
  pub placed : AheadStepPlaced taken (hand_of was) (hand_of now)
  pub queue_is : now.queue ≡ was.queue

-- The same of an action that binds a word, which is the next one: it may be asked so, and its line was served so.
abbrev pub CanServeNext : Standing → (ℕ → Action) → NamesState → Type 0
CanServeNext w asked names = CanServe w (asked (length names.named)) names

abbrev pub NextEnds : Standing → Standing → (ℕ → Action) → Answer → NamesState → NamesState → Type 0
NextEnds old new asked told was now = LineServed old new (asked (length was.named)) told was now

-- the answer of a line whose call answers no value
abbrev pub told_answer : Result (Unit {0}) CcError → Answer
told_answer (Ok done) = answer.Given reply.Unit
told_answer (Err e) = answer.Refused e

-- the answer of a line that makes a query, and of one that asks for a flag
abbrev pub reply_answer : Result Reply CcError → Answer
reply_answer (Ok r) = answer.Given r
reply_answer (Err e) = answer.Refused e

abbrev pub flag_told : Result Bool CcError → Answer
flag_told (Ok flag) = answer.Given (reply.Value (value.Flag flag))
flag_told (Err e) = answer.Refused e

-- the answer of a line that asks for read-ahead, and of one that asks for a step of it
abbrev pub ask_told : Result (Option Request) CcError → Answer
ask_told (Ok request) = answer.Given (reply.Ahead request)
ask_told (Err e) = answer.Refused e

abbrev pub step_told : Result (Option AheadDone) CcError → Answer
step_told (Ok step) = answer.Stepped step
step_told (Err e) = answer.Refused e

-- the answer of a read that may be queued
abbrev pub start_told : Result AsyncStart CcError → Answer
start_told (Ok start) = answer.Started start
start_told (Err e) = answer.Refused e

-- the answer of a noncached line that was refused
abbrev pub nc_refused : NcError → Answer
nc_refused e = answer.NcRefused e.done e.cause

-- A read through a hold was answered so, and the pass has the hold still.
pub record HeldReadTold (old new : Standing) (of_kind : HoldKind → Bool) (held : Held) (it : Call) (told : Answer) : Type 0 where
  pub answered : CallAnswered old.setup old.number it told old.seen new.seen
  pub full : IsFullTold new told
  pub goes_on : WentOn old new
  pub good : StaysGood old new
  pub holding : IsGood old.setup old.seen → IsHolding new of_kind held

-- What a line of a caller leaves, entry by entry: what may be said of each entry that a call places is true of each own entry
-- of the line's piece.
use Rattle.std.specs.Prelude.{◌≡◌, ℕ, zero, suc, ◌+◌, ◌*◌, ◌/◌, ◌<◌, Bool, true, false, ◌||◌, List, [], ◌∷◌, ◌++◌, length, ◌≤◌, map, take, drop, Result, Ok, Err, refl, ◌⊎◌, IfSome}
use Rattle.std.specs.declared.option.Option.{Option}
use Rattle.std.specs.declared.option.Option.TheVariants.{Some, None}
use Rattle.std.specs.List.{AllByRecursion}
use Rattle.std.proofs.Common.{arith, sym, subst, inl, inr}
use Rattle.cc_entry.specs.Queries.{file_of_query}
use Rattle.cc_entry.specs.Place.{File, Page, Range}
use Rattle.cc_entry.specs.declared.place.DirtyRow.{DirtyRow}
use Rattle.cc_entry.specs.declared.place.FileState.{FileState}
use Rattle.cc_entry.specs.declared.answer.Answer.{Answer}
use Rattle.cc_entry.specs.declared.answer.Answer.TheVariants as answer
use Rattle.cc_entry.specs.declared.answer.AsyncStart.TheVariants as start
use Rattle.cc_entry.specs.declared.call.Call.{Call}
use Rattle.cc_entry.specs.declared.call.Call.TheVariants as call
use Rattle.cc_entry.specs.declared.query.Query.TheVariants as query
use Rattle.cc_entry.specs.declared.entry.End.{End}
use Rattle.cc_entry.specs.declared.entry.End.TheVariants as how
use Rattle.cc_entry.specs.declared.entry.Entry.{Entry}
use Rattle.cc_entry.specs.declared.entry.Entry.TheVariants as entry
use Rattle.cc_entry.specs.declared.error.CcError.{CcError}
use Rattle.cc_entry.specs.declared.error.CcError.TheVariants as error
use Rattle.cc_entry.specs.declared.hold.HoldKind.{HoldKind}
use Rattle.cc_entry.specs.declared.reply.Outcome.{Outcome}
use Rattle.cc_entry.specs.declared.reply.Outcome.TheVariants as outcome
use Rattle.cc_entry.specs.declared.reply.Reply.{Reply}
use Rattle.cc_entry.specs.declared.reply.Reply.TheVariants as reply
use Rattle.cc_entry.specs.declared.query.Value.TheVariants as value
use Rattle.cc_entry.specs.Kinds.{is_map, is_pin, is_repin, is_read_chain, is_write_chain}
use Rattle.cc_script.specs.declared.script.Action.{Action}
use Rattle.cc_script.specs.declared.script.Action.TheVariants as action
use Rattle.cc_model.specs.Acts.{file_of}
use Rattle.cc_model.specs.Filing.{IsFiled}
use Rattle.cc_model.specs.Holds.{Hold, hold_at, holds_of, range_held}
use Rattle.cc_model.specs.Legal.{stream_history}
use Rattle.cc_model.specs.Setup.{Setup}
use Rattle.cc_effects.specs.Asked.{Calls, Writes}
use Rattle.cc_effects.specs.Calls.{CallLeft, IsDone, IsOvertaken, IsPlaced, IsRefused}
use Rattle.cc_effects.specs.LogCalls.{AppendRefused, FlushRefused, WasFlushed}
use Rattle.cc_effects.specs.Moments.{EachOwn, IsIdle, Others, PlacedOnly}
use Rattle.cc_effects.specs.Noncached.{AlignedReadLeft, AlignedWriteLeft, IsPageWritten, StoreIsTransferred, IsUntold, MisshapenLeft, PageReadsRefused, PageRefused, PagesRead, PagesWritten, ShapedReadLeft, ShapedWriteLeft, TakesOut, TransferRefused, pages_from, shape_refusal}
use Rattle.cc_effects.specs.PageWrites.{HasScanned, TickCutOff}
use Rattle.cc_effects.specs.Places.{Works}
use Rattle.cc_effects.specs.Repins.{UnpinLeft}
use Rattle.cc_effects.specs.Throttle.{PostLeft}
use Rattle.cc_effects.proofs.Stretches.{each-append, each-implies, each-others, grew-after}
use Rattle.cc_records.specs.Left.{StreamHasFlushed, IsUnflushed, RecordStopped, SettleLeft, SyncedRecord, SyncedSome, WroteRecord, WroteSome}
use Rattle.cc_pieces.specs.Answered.{AppendAnswered, CallAnswered, LevelsAnswered, LogFlushAnswered, DeferAnswered, PostsAnswered, PostsLeft, PostsRefused, NcReadAnswered, NcWriteAnswered, SettleAnswered, TickAnswered, StartAnswered, CompletionAnswered, bytes_outcome}
use Rattle.cc_pieces.specs.Bindings.{Binding, OnHold, hold_named}
use Rattle.cc_pieces.specs.HoldLines.{HeldReadBy, HoldLine, UnpinAnswered, UnrepinLine}
use Rattle.cc_pieces.specs.Locks.{LockAnswered, UnlockAnswered}
use Rattle.cc_pieces.specs.Shim.{CallsLeft}
use Rattle.cc_pieces.specs.Checkpoints.{AskingStopped, CheckpointAnswered, CheckpointLeft, RecordFlushed, RecordLogged, RowsLogged, StateAsked, StatesAsked, StateRefused, SyncedLogged, first_object, record_of_rows, sync_call}
use Rattle.cc_pieces.specs.Restarts.{LastFlushed, RestartAnswered}
use Rattle.cc_pieces.proofs.CheckpointSteps.{found-below}
use Rattle.cc_pieces.specs.Queue.{is_queue_action, is_queue_call}
use Rattle.cc_pieces.specs.Served.{Served}
use Rattle.cc_vacb.specs.Levels.{levels_of}
use Rattle.cc_pieces.proofs.ShimLines.{Follows, FollowsTests, IsMadeOn, Told, told-read, told-update, told-write}

-- from one moment to another, each entry that the pass placed may stand on its front
pub record Walked (Stays : List Entry → Entry → Type 0) (me : ℕ) (old new : List Entry) : Type 0 where
  pub during : List Entry
  pub grew : new ≡ during ++ old
  pub each : EachOwn me Stays during old

pub walked-idle : (Stays : List Entry → Entry → Type 0) (me : ℕ) (old new : List Entry) → IsIdle me old new → Walked Stays me old new
walked-idle Stays me old new idle = record { during = idle.during; grew = idle.grew; each = each-others me Stays idle.during old idle.others }

pub walked-then : (Stays : List Entry → Entry → Type 0) (me : ℕ) (old between new : List Entry) → Walked Stays me old between → Walked Stays me between new → Walked Stays me old new
walked-then Stays me old between new first second = record {
  during = second.during ++ first.during;
  grew = grew-after second.during first.during old between new second.grew first.grew;
  each = each-append me Stays second.during first.during old (rw first.grew at second.each) first.each;
}

walked-entry : (Stays : List Entry → Entry → Type 0) (me : ℕ) (e : Entry) (old : List Entry) → Stays old e → Walked Stays me old (e ∷ old)
walked-entry Stays me e old stays = record { during = e ∷ []; grew = refl; each = ((λ is. stays), tt) }

walked-others : (Stays : List Entry → Entry → Type 0) (me : ℕ) (later old : List Entry) → Others me later → Walked Stays me old (later ++ old)
walked-others Stays me later old others = record { during = later; grew = refl; each = each-others me Stays later old others }

pub walked-only : (Stays : List Entry → Entry → Type 0) (me : ℕ) (e : Entry) (old new : List Entry) → PlacedOnly me e old new → ((past : List Entry) → Stays past e) → Walked Stays me old new
walked-only Stays me e old new only stays =
    subst (Walked Stays me old) (sym only.grew)
    (walked-then Stays me old (only.earlier ++ old) _ (walked-others Stays me only.earlier old only.quiet_before)
    (walked-then Stays me (only.earlier ++ old) (e ∷ (only.earlier ++ old)) _ (walked-entry Stays me e (only.earlier ++ old) (stays (only.earlier ++ old)))
    (walked-others Stays me only.later _ only.quiet_after)))

-- What is to be known of a property of entries: that it is kept by what calls that fit place, each kind of entry by itself. A
-- call fits on such a file, on none, and on the file of a hold that was found; and its own entry has the property, as an
-- entry has that no call of a line owns.
pub record Keeps (u : Setup) (Stays : List Entry → Entry → Type 0) (Fits : List Entry → Call → Type 0) (On : File → Type 0) (me : ℕ) : Type 0 where
  pub works : (it : Call) (during old : List Entry) → Fits old it → Works me (Calls it) during old → EachOwn me Stays during old
  pub writes : (pages : List Page) (during old : List Entry) → Works me (Writes pages) during old → EachOwn me Stays during old
  pub called : (it : Call) (ended : Outcome) (nth : ℕ) (stream : Option ℕ) (earlier old : List Entry) → Fits old it → IsFiled (holds_of (stream_history (earlier ++ old) stream)) me stream it (file_of it) → Stays (earlier ++ old) (entry.Call me nth stream it ended)
  pub on_file : (it : Call) (file : File) (old : List Entry) → On file → file_of it ≡ Some file → is_queue_call it ≡ false → Fits old it
  pub on_none : (it : Call) (old : List Entry) → file_of it ≡ None → is_queue_call it ≡ false → Fits old it
  pub on_hold : (id nth : ℕ) (stream : Option ℕ) (ended : Outcome) (hold : Hold) (span : Option Range) (later front : List Entry) → hold_at (holds_of (stream_history front stream)) id ≡ Some hold → Fits (later ++ (entry.Call me nth stream (call.EndHold id) ended ∷ front)) (call.Flush hold.file span)
  pub stored : (it : Call) (file : File) (nth : ℕ) (r : Reply) (past : List Entry) → On file → file_of it ≡ Some file → is_queue_call it ≡ false → Stays past (entry.Call me nth (Some file.stream) it (outcome.Done r))
  pub refused : (it : Call) (nth s : ℕ) (e : CcError) (past : List Entry) → is_queue_call it ≡ false → Stays past (entry.Call me nth (Some s) it (outcome.Failed e))
  pub begun : (file : File) (page : ℕ) (past : List Entry) → On file → Stays past (entry.WriteBegin me (record { stream = file.stream; page = page }))
  pub ended : (file : File) (page : ℕ) (end : End) (past : List Entry) → On file → Stays past (entry.WriteEnd me (record { stream = file.stream; page = page }) end)
  pub recorded : (file : File) (size valid : ℕ) (end : End) (past : List Entry) → On file → Stays past (entry.Record me file.stream size valid end)
  pub synced : (file : File) (end : End) (past : List Entry) → On file → Stays past (entry.Sync me file.stream end)
  pub out : (file : File) (page : ℕ) (past : List Entry) → On file → Stays past (entry.PageOut me (record { stream = file.stream; page = page }))
  pub scanned : (picked : List Page) (past : List Entry) → Stays past (entry.Scan me picked)
  pub appended : (handle lsn : ℕ) (bytes : List ℕ) (past : List Entry) → Stays past (entry.Append me handle lsn bytes)
  pub flushed : (handle to : ℕ) (past : List Entry) → Stays past (entry.Flushed me handle to)
  pub log_failed : (handle : ℕ) (past : List Entry) → handle < u.logs → Stays past (entry.LogFailed me handle)
  pub locked : (file : File) (range : Range) (exclusive granted : Bool) (id : ℕ) (past : List Entry) → Stays past (entry.Locked me file range exclusive granted id)
  pub unlocked : (file : File) (id : ℕ) (gone : Bool) (past : List Entry) → Stays past (entry.Unlocked me file id gone)
  pub tested : (file : File) (range : Range) (write : Bool) (conflict : Option ℕ) (past : List Entry) → Stays past (entry.Tested me file range write conflict)
  pub deferred : (id : ℕ) (file : File) (pages : ℕ) (retrying : Bool) (past : List Entry) → Stays past (entry.Defer me id file pages retrying)

-- whether an action completes a queued read
abbrev pub is_completion : Action → Bool
is_completion action.Complete = true
is_completion other = false

-- what is asked of the file of an action of a run, where it names one, and of each file of the one that completes a queued read
abbrev pub IsActionOn : (File → Type 0) → Action → Type 0
IsActionOn On (action.Initialise file _ _ _) = On file
IsActionOn On (action.Uninitialise file _) = On file
IsActionOn On (action.CopyRead file _ _ _) = On file
IsActionOn On (action.CopyWrite file _ _) = On file
IsActionOn On (action.Zero file _) = On file
IsActionOn On (action.Map file _ _ _) = On file
IsActionOn On (action.PinRead file _ _ _ _) = On file
IsActionOn On (action.PreparePin file _ _ _ _ _) = On file
IsActionOn On (action.MdlRead file _ _ _) = On file
IsActionOn On (action.MdlWrite file _ _ _) = On file
IsActionOn On (action.NcRead file _ _) = On file
IsActionOn On (action.NcWrite file _ _) = On file
IsActionOn On (action.Read file _ _ _) = On file
IsActionOn On (action.Write file _ _) = On file
IsActionOn On (action.Update file _ _) = On file
IsActionOn On (action.Lock file _ _) = On file
IsActionOn On (action.Unlock file _) = On file
IsActionOn On (action.Levels file) = On file
IsActionOn On (action.Settle file) = On file
IsActionOn On (action.Checkpoint streams _) = (s : ℕ) → s < streams → On (first_object s)
IsActionOn On (action.SetSizes file _ _) = On file
IsActionOn On (action.Query asked) = IfSome (file_of_query asked) On
IsActionOn On (action.Flush file _) = On file
IsActionOn On (action.Purge file _) = On file
IsActionOn On (action.Discard file _) = On file
IsActionOn On (action.SetLog file _) = On file
IsActionOn On (action.SetGranularity file _) = On file
IsActionOn On (action.SetAttributes file _ _) = On file
IsActionOn On (action.SetThreshold file _) = On file
IsActionOn On (action.Defer file _ _) = On file
IsActionOn On (action.AskAhead file _ _) = On file
IsActionOn On (action.AsyncRead file _ _) = On file
IsActionOn On action.Complete = (file : File) → On file
IsActionOn On other = Unit {0}

module _ (u : Setup) (Stays : List Entry → Entry → Type 0) (Fits : List Entry → Call → Type 0) (On : File → Type 0) (keeps : (me : ℕ) → Keeps u Stays Fits On me) where
  pub walk-works : (me : ℕ) (it : Call) (during old : List Entry) → Fits old it → Works me (Calls it) during old → Walked Stays me old (during ++ old)
  walk-works me it during old fits works = record { during = during; grew = refl; each = (keeps me).works it during old fits works }

  walk-writing : (me : ℕ) (pages : List Page) (during old : List Entry) → Works me (Writes pages) during old → Walked Stays me old (during ++ old)
  walk-writing me pages during old works = record { during = during; grew = refl; each = (keeps me).writes pages during old works }

  -- a tick: its scan, and the pages that it wrote
  walk-scanned : (me : ℕ) (picked : List Page) (during old new : List Entry) → HasScanned me picked during old new → Walked Stays me old new
  walk-scanned me picked during old new is =
      subst (Walked Stays me old) (sym is.grew)
      (walked-then Stays me old (entry.Scan me picked ∷ (is.before ++ old)) _
      (walked-then Stays me old (is.before ++ old) _ (walked-others Stays me is.before old is.quiet)
      (walked-entry Stays me (entry.Scan me picked) (is.before ++ old) ((keeps me).scanned picked (is.before ++ old))))
      (walk-writing me picked during _ is.works))

  walk-cut-off : (me : ℕ) (e : CcError) (old new : List Entry) → TickCutOff me e old new → Walked Stays me old new
  walk-cut-off me e old new (inl idle) = walked-idle Stays me old new idle
  walk-cut-off me e old new (inr after) = walk-scanned me after.0 after.1 old new after.2

  pub walk-tick : (me : ℕ) (told : Answer) (old new : List Entry) → TickAnswered me told old new → Walked Stays me old new
  walk-tick me (answer.Ticked tick) old new left = walk-scanned me tick.picked left.during old new left.scanned
  walk-tick me (answer.Refused (error.JournalFull entries)) old new left = walk-cut-off me (error.JournalFull entries) old new left
  walk-tick me (answer.Refused error.NoMemory) old new left = walk-cut-off me error.NoMemory old new left
  walk-tick me (answer.Refused other) old new left = absurd left
  walk-tick me other old new left = absurd left

  walk-placed : (me : ℕ) (it : Call) (ended : Outcome) (earlier old new : List Entry) → Fits old it → IsPlaced me it ended earlier old new → Walked Stays me old new
  walk-placed me it ended earlier old new fits p =
      subst (Walked Stays me old) (sym p.grew)
      (walked-then Stays me old (earlier ++ old) _ (walk-works me it earlier old fits p.works)
      (walked-then Stays me (earlier ++ old) (entry.Call me p.nth p.stream it ended ∷ (earlier ++ old)) _
      (walked-entry Stays me (entry.Call me p.nth p.stream it ended) (earlier ++ old) ((keeps me).called it ended p.nth p.stream earlier old fits p.filed))
      (walked-others Stays me p.later _ p.quiet)))

  pub walk-call : (me : ℕ) (it : Call) (ended : Outcome) (old new : List Entry) → Fits old it → CallLeft u me it ended old new → Walked Stays me old new
  walk-call me it (outcome.Done r) old new fits left = walk-placed me it (outcome.Done r) left.earlier old new fits left.placed
  walk-call me it (outcome.Failed (error.JournalFull entries)) old new fits left =
      subst (Walked Stays me old) (sym left.grew) (walk-works me it left.during old fits left.works)
  walk-call me it (outcome.Failed error.NoMemory) old new fits left =
      subst (Walked Stays me old) (sym left.grew) (walk-works me it left.during old fits left.works)
  walk-call me it (outcome.Failed (error.ReadFault page)) old new fits left = walk-placed me it _ left.earlier old new fits left.placed
  walk-call me it (outcome.Failed (error.WriteFault page)) old new fits left = walk-placed me it _ left.earlier old new fits left.placed
  walk-call me it (outcome.Failed (error.LogFault handle)) old new fits left = walk-placed me it _ left.earlier old new fits left.placed
  walk-call me it (outcome.Failed e) old new fits left = by e left
    where
      by : (e : CcError) → IsRefused me it e old new ⊎ IsOvertaken u me it e old new → Walked Stays me old new
      by e (inl is) = walk-placed me it (outcome.Failed e) is.earlier old new fits is.placed
      by e (inr is) = walk-placed me it (outcome.Failed e) is.earlier old new fits is.placed

  pub walk-answered : (me : ℕ) (it : Call) (told : Answer) (old new : List Entry) → Fits old it → CallAnswered u me it told old new → Walked Stays me old new
  walk-answered me it (answer.Given r) old new fits left = walk-call me it (outcome.Done r) old new fits left
  walk-answered me it (answer.Refused e) old new fits left = walk-call me it (outcome.Failed e) old new fits left
  walk-answered me it other old new fits left = absurd left

  -- a read that may be queued, and the step that completes one
  walk-started : (me : ℕ) (file : File) (at len : ℕ) (told : Answer) (old new : List Entry) → Fits old (call.CopyRead file at len false) → StartAnswered u me file at len told old new → Walked Stays me old new
  walk-started me file at len (answer.Started (start.Ready bytes)) old new fits left = walk-call me (call.CopyRead file at len false) (outcome.Done (reply.Read bytes)) old new fits left
  walk-started me file at len (answer.Started (start.Queued id)) old new fits left = walk-call me (call.CopyRead file at len false) (outcome.Failed (error.NotResident left.0)) old new fits left.1
  walk-started me file at len (answer.Refused error.QueueFull) old new fits left = walk-call me (call.CopyRead file at len false) (outcome.Failed (error.NotResident left.0)) old new fits left.1
  walk-started me file at len (answer.Refused (error.NotResident page)) old new fits left = absurd left
  walk-started me file at len (answer.Refused e) old new fits left = walk-call me (call.CopyRead file at len false) (outcome.Failed e) old new fits left
  walk-started me file at len other old new fits left = absurd left

  walk-completed : ((file : File) → On file) → (me : ℕ) (told : Answer) (old new : List Entry) → CompletionAnswered u me told old new → Walked Stays me old new
  walk-completed on me (answer.Completed None) old new left = walked-idle Stays me old new left
  walk-completed on me (answer.Completed (Some done)) old new left =
      walk-call me (call.CopyRead done.file done.at done.len true) (bytes_outcome done.answer) old new
      ((keeps me).on_file (call.CopyRead done.file done.at done.len true) done.file old (on done.file) refl refl) left
  walk-completed on me other old new left = absurd left

  -- the end of a repin, and with write through a flush of its hold's file
  walk-unpin : (me id : ℕ) (through : Bool) (ended : Outcome) (old new : List Entry) → UnpinLeft u me id through ended old new → Walked Stays me old new
  walk-unpin me id false ended old new left = walk-call me (call.EndHold id) ended old new ((keeps me).on_none (call.EndHold id) old refl refl) left
  walk-unpin me id true ended old new left =
      walked-then Stays me old left.0 new (walk-placed me (call.EndHold id) (outcome.Done reply.Unit) p0.earlier old left.0 ((keeps me).on_none (call.EndHold id) old refl refl) p0.placed)
      (walk-call me (call.Flush left.1.file (Some (range_held left.1))) ended left.0 new held left.3)
    where
      p0 : IsDone me (call.EndHold id) reply.Unit old left.0
      p0 = left.2.done

      held : Fits left.0 (call.Flush left.1.file (Some (range_held left.1)))
      held =
          subst (λ past. Fits past (call.Flush left.1.file (Some (range_held left.1)))) (sym p0.placed.grew)
          ((keeps me).on_hold id p0.placed.nth p0.placed.stream (outcome.Done reply.Unit) left.1 (Some (range_held left.1)) p0.placed.later (p0.earlier ++ old) left.2.found)

  -- an append to a log, and a flush of one
  walk-append-refused : (me handle : ℕ) (e : CcError) (old new : List Entry) → AppendRefused u me handle e old new → Walked Stays me old new
  walk-append-refused me handle (error.NoLog missing) old new left = walked-idle Stays me old new left.2
  walk-append-refused me handle (error.LogFull full) old new left = walked-idle Stays me old new left.2
  walk-append-refused me handle (error.LogFault failed) old new left = walked-only Stays me _ old new left.2.1 (λ past. (keeps me).log_failed handle past left.2.0)
  walk-append-refused me handle (error.JournalFull entries) old new left = walked-idle Stays me old new left
  walk-append-refused me handle error.NoMemory old new left = walked-idle Stays me old new left
  walk-append-refused me handle other old new left = absurd left

  walk-append : (me handle : ℕ) (bytes : List ℕ) (told : Answer) (old new : List Entry) → AppendAnswered u me handle bytes told old new → Walked Stays me old new
  walk-append me handle bytes (answer.NewLsn lsn) old new left = walked-only Stays me _ old new left.1 ((keeps me).appended handle lsn bytes)
  walk-append me handle bytes (answer.Refused e) old new left = walk-append-refused me handle e old new left
  walk-append me handle bytes other old new left = absurd left

  walk-flush-refused : (me handle lsn : ℕ) (e : CcError) (old new : List Entry) → FlushRefused u me handle lsn e old new → Walked Stays me old new
  walk-flush-refused me handle lsn (error.NoLog missing) old new left = walked-idle Stays me old new left.2
  walk-flush-refused me handle lsn (error.LogFault failed) old new left = walked-only Stays me _ old new left.2.1 (λ past. (keeps me).log_failed handle past left.2.0)
  walk-flush-refused me handle lsn (error.JournalFull entries) old new left = walked-idle Stays me old new left
  walk-flush-refused me handle lsn error.NoMemory old new left = walked-idle Stays me old new left
  walk-flush-refused me handle lsn other old new left = absurd left

  walk-log-flush : (me handle lsn : ℕ) (told : Answer) (old new : List Entry) → LogFlushAnswered u me handle lsn told old new → Walked Stays me old new
  walk-log-flush me handle lsn (answer.Given reply.Unit) old new left = by left.1
    where
      by : PlacedOnly me (entry.Flushed me handle lsn) old new ⊎ WasFlushed me handle lsn old new → Walked Stays me old new
      by (inl only) = walked-only Stays me _ old new only ((keeps me).flushed handle lsn)
      by (inr was) = walked-idle Stays me old new was.idle
  walk-log-flush me handle lsn (answer.Refused e) old new left = walk-flush-refused me handle lsn e old new left
  walk-log-flush me handle lsn other old new left = absurd left

  -- the end of a restart: a flush of its log, or nothing
  pub walk-restart : (handle : ℕ) (told : Answer) (old new : List Entry) → RestartAnswered u handle told old new → Walked Stays 0 old new
  walk-restart handle (answer.Restarted updates) old new left = by left.0 left.1
    where
      by : (last : ℕ) → LastFlushed u handle last old new → Walked Stays 0 old new
      by zero flushed = walked-idle Stays 0 old new flushed
      by (suc n) flushed = walk-log-flush 0 handle (suc n) (answer.Given reply.Unit) old new flushed.1
  walk-restart handle (answer.Refused e) old new (inl idle) = walked-idle Stays 0 old new idle
  walk-restart handle (answer.Refused e) old new (inr left) = walk-log-flush 0 handle left.0 (answer.Refused e) old new left.1
  walk-restart handle other old new left = absurd left

  -- noncached reads and writes of a file that calls fit on
  module _ (file : File) (on : On file) where
    walk-misshapen : (me : ℕ) (it : Call) (refusal e : CcError) (old new : List Entry) → is_queue_call it ≡ false → MisshapenLeft me file it refusal e old new → Walked Stays me old new
    walk-misshapen me it refusal error.NoMemory old new plain left = walked-idle Stays me old new left
    walk-misshapen me it refusal (error.JournalFull entries) old new plain left = walked-idle Stays me old new left
    walk-misshapen me it refusal error.NotCached old new plain left = walked-only Stays me _ old new left.1 (λ past. (keeps me).refused it _ _ error.NotCached past plain)
    walk-misshapen me it refusal e old new plain left = walked-only Stays me _ old new left.2 (λ past. (keeps me).refused it _ _ e past plain)

    -- the page behind one that came short
    walk-untold : (me : ℕ) (pages : List ℕ) (old new : List Entry) → IsUntold u me file pages old new → Walked Stays me old new
    walk-untold me [] old new left = walked-idle Stays me old new left
    walk-untold me (page ∷ pages) old new left = walk-call me (call.NcRead file page) (outcome.Done (reply.Read left.0)) old new ((keeps me).on_file (call.NcRead file page) file old on refl refl) left.1

    walk-reads : (me : ℕ) (pages bytes : List ℕ) (old new : List Entry) → PagesRead u me file pages bytes old new → Walked Stays me old new
    walk-reads me [] bytes old new left = walked-idle Stays me old new left.1
    walk-reads me (page ∷ pages) [] old new left = walk-call me (call.NcRead file page) (outcome.Done (reply.Read [])) old new ((keeps me).on_file (call.NcRead file page) file old on refl refl) left
    walk-reads me (page ∷ pages) (byte ∷ bytes) old new (inl left) =
        walked-then Stays me old left.0 new (walk-call me (call.NcRead file page) (outcome.Done (reply.Read left.1)) old left.0 ((keeps me).on_file (call.NcRead file page) file old on refl refl) left.5)
        (walk-reads me pages left.2 left.0 new left.6)
    walk-reads me (page ∷ pages) (byte ∷ bytes) old new (inr left) =
        walked-then Stays me old left.0 new (walk-call me (call.NcRead file page) (outcome.Done (reply.Read (byte ∷ bytes))) old left.0 ((keeps me).on_file (call.NcRead file page) file old on refl refl) left.2)
        (walk-untold me pages left.0 new left.3)

    walk-reads-refused : (me page done : ℕ) (e : CcError) (old new : List Entry) → PageReadsRefused u me file page done e old new → Walked Stays me old new
    walk-reads-refused me page zero e old new left = walk-call me (call.NcRead file page) (outcome.Failed e) old new ((keeps me).on_file (call.NcRead file page) file old on refl refl) left.1
    walk-reads-refused me page (suc done) e old new left =
        walked-then Stays me old left.0 new (walk-call me (call.NcRead file page) (outcome.Done (reply.Read left.1)) old left.0 ((keeps me).on_file (call.NcRead file page) file old on refl refl) left.3)
        (walk-reads-refused me (suc page) done e left.0 new left.4)

    walk-aligned-read : (me at len : ℕ) (answered : Result (List ℕ) (ℕ × CcError)) (old new : List Entry) → AlignedReadLeft u me file at len answered old new → Walked Stays me old new
    walk-aligned-read me at zero (Ok bytes) old new left = walked-idle Stays me old new left.1
    walk-aligned-read me at zero (Err failed) old new left = walked-idle Stays me old new left.1
    walk-aligned-read me at (suc len) (Ok bytes) old new left = walk-reads me (pages_from at (suc len)) bytes old new left
    walk-aligned-read me at (suc len) (Err failed) old new left = walk-reads-refused me (at / 4096) failed.0 failed.1 old new left.1

    walk-shaped-read : (me at len : ℕ) (shape : Option CcError) (answered : Result (List ℕ) (ℕ × CcError)) (old new : List Entry) → ShapedReadLeft u me file at len shape answered old new → Walked Stays me old new
    walk-shaped-read me at len None answered old new left = walk-aligned-read me at len answered old new left
    walk-shaped-read me at len (Some refusal) (Ok bytes) old new left = absurd left
    walk-shaped-read me at len (Some refusal) (Err failed) old new left =
        walk-misshapen me (call.NcRead file (at / 4096)) refusal failed.1 old new refl left.1

    walk-nc-read : (me at len : ℕ) (told : Answer) (old new : List Entry) → NcReadAnswered u me file at len told old new → Walked Stays me old new
    walk-nc-read me at len (answer.Given (reply.Read bytes)) old new left = walk-shaped-read me at len (shape_refusal at len) (Ok bytes) old new left
    walk-nc-read me at len (answer.NcRefused done cause) old new left = walk-shaped-read me at len (shape_refusal at len) (Err (done, cause)) old new left
    walk-nc-read me at len other old new left = absurd left

    walk-transferred : (me page : ℕ) (bytes : List ℕ) (end : End) (old new : List Entry) → StoreIsTransferred me file page bytes end old new → Walked Stays me old new
    walk-transferred me page bytes end old new is =
        subst (Walked Stays me old) (sym is.grew)
        (walked-then Stays me old _ _
        (walked-then Stays me old _ _
        (walked-then Stays me old _ _
        (walked-then Stays me old (is.earlier ++ old) _ (walk-works me (call.NcStore file page bytes) is.earlier old ((keeps me).on_file (call.NcStore file page bytes) file old on refl refl) is.works) (walked-entry Stays me (entry.Call me is.nth (Some file.stream) (call.NcStore file page bytes) (outcome.Done reply.Unit)) (is.earlier ++ old) ((keeps me).stored (call.NcStore file page bytes) file is.nth reply.Unit (is.earlier ++ old) on refl refl)))
        (walked-entry Stays me (entry.WriteBegin me (record { stream = file.stream; page = page })) _ ((keeps me).begun file page _ on)))
        (walked-others Stays me is.waiting _ is.quiet))
        (walked-entry Stays me (entry.WriteEnd me (record { stream = file.stream; page = page }) end) _ ((keeps me).ended file page end _ on)))

    walk-page-written : (me page : ℕ) (bytes : List ℕ) (count : ℕ) (old new : List Entry) → IsPageWritten me file page bytes count old new → Walked Stays me old new
    walk-page-written me page bytes count old new is =
        subst (Walked Stays me old) (sym is.grew)
        (walked-then Stays me old is.ended _ (walk-transferred me page bytes how.Good old is.ended is.transferred)
        (walked-then Stays me is.ended _ _
        (walked-then Stays me is.ended (is.tidied ++ is.ended) _ tidied (walked-entry Stays me (entry.Call me is.nth (Some file.stream) (call.NcWrite file page) (outcome.Done reply.Unit)) (is.tidied ++ is.ended) ((keeps me).stored (call.NcWrite file page) file is.nth reply.Unit (is.tidied ++ is.ended) on refl refl)))
        (walked-others Stays me is.later _ is.quiet)))
      where
        out : (past : List Entry) (e : Entry) → TakesOut me file page is.ended past e → Stays past e
        out past e takes = rw takes.0 ((keeps me).out file page past on)

        tidied : Walked Stays me is.ended (is.tidied ++ is.ended)
        tidied = record { during = is.tidied; grew = refl; each = each-implies me (TakesOut me file page is.ended) Stays out is.tidied is.ended is.goes_out }

    walk-transfer-refused : (me page : ℕ) (bytes : List ℕ) (e : CcError) (old new : List Entry) → TransferRefused me file page bytes e old new → Walked Stays me old new
    walk-transfer-refused me page bytes (error.WriteFault failed) old new left =
        walked-then Stays me old left.1 new (walk-transferred me page bytes how.Failed old left.1 left.3) (walked-only Stays me _ left.1 new left.4 (λ past. (keeps me).refused (call.NcWrite file page) _ _ _ past refl))
    walk-transfer-refused me page bytes error.NoMemory old new left =
        walked-then Stays me old left.0 new (walk-transferred me page bytes how.NoMemory old left.0 left.1) (walked-idle Stays me left.0 new left.2)
    walk-transfer-refused me page bytes other old new left = absurd left

    walk-page-refused : (me page : ℕ) (bytes : List ℕ) (e : CcError) (old new : List Entry) → PageRefused u me file page bytes e old new → Walked Stays me old new
    walk-page-refused me page bytes e old new (inl is) = walk-call me (call.NcWrite file page) (outcome.Failed e) old new ((keeps me).on_file (call.NcWrite file page) file old on refl refl) is.1
    walk-page-refused me page bytes e old new (inr is) = walk-transfer-refused me page bytes e old new is

    walk-writes : (me page done : ℕ) (bytes : List ℕ) (count : ℕ) (old new : List Entry) → PagesWritten me file page done bytes count old new → Walked Stays me old new
    walk-writes me page zero bytes count old new left = walked-idle Stays me old new left.1
    walk-writes me page (suc done) bytes count old new left =
        walked-then Stays me old left.0 new (walk-page-written me page (take 4096 bytes) left.1 old left.0 left.4)
        (walk-writes me (suc page) done (drop 4096 bytes) left.2 left.0 new left.5)

    walk-aligned-write : (me at : ℕ) (bytes : List ℕ) (answered : Result ℕ (ℕ × CcError)) (old new : List Entry) → AlignedWriteLeft u me file at bytes answered old new → Walked Stays me old new
    walk-aligned-write me at [] (Ok count) old new left = walked-idle Stays me old new left.1
    walk-aligned-write me at [] (Err failed) old new left = walked-idle Stays me old new left.1
    walk-aligned-write me at (byte ∷ bytes) (Ok count) old new left =
        walk-writes me (at / 4096) (length (byte ∷ bytes) / 4096) (byte ∷ bytes) count old new left
    walk-aligned-write me at (byte ∷ bytes) (Err failed) old new left =
        walked-then Stays me old left.1.0 new (walk-writes me (at / 4096) failed.0 (byte ∷ bytes) left.1.1 old left.1.0 left.1.2)
        (walk-page-refused me (at / 4096 + failed.0) (take 4096 (drop (4096 * failed.0) (byte ∷ bytes))) failed.1 left.1.0 new left.1.3)

    walk-shaped-write : (me at : ℕ) (bytes : List ℕ) (shape : Option CcError) (answered : Result ℕ (ℕ × CcError)) (old new : List Entry) → ShapedWriteLeft u me file at bytes shape answered old new → Walked Stays me old new
    walk-shaped-write me at bytes None answered old new left = walk-aligned-write me at bytes answered old new left
    walk-shaped-write me at bytes (Some refusal) (Ok count) old new left = absurd left
    walk-shaped-write me at bytes (Some refusal) (Err failed) old new left =
        walk-misshapen me (call.NcWrite file (at / 4096)) refusal failed.1 old new refl left.1

    walk-nc-write : (me at : ℕ) (bytes : List ℕ) (told : Answer) (old new : List Entry) → NcWriteAnswered u me file at bytes told old new → Walked Stays me old new
    walk-nc-write me at bytes (answer.Count count) old new left = walk-shaped-write me at bytes (shape_refusal at (length bytes)) (Ok count) old new left
    walk-nc-write me at bytes (answer.NcRefused done cause) old new left = walk-shaped-write me at bytes (shape_refusal at (length bytes)) (Err (done, cause)) old new left
    walk-nc-write me at bytes other old new left = absurd left

    -- the lists of calls of the shim on a file of the first streams
    made-fits : (me : ℕ) (own : Option ℕ) (it : Call) (old : List Entry) → IsMadeOn file own it → Fits old it
    made-fits me own (call.MappedRead id at len) old made = (keeps me).on_none (call.MappedRead id at len) old refl refl
    made-fits me own (call.PinnedRead id at len) old made = (keeps me).on_none (call.PinnedRead id at len) old refl refl
    made-fits me own (call.MdlBytes id at len) old made = (keeps me).on_none (call.MdlBytes id at len) old refl refl
    made-fits me own (call.PinnedWrite id at bytes) old made = (keeps me).on_none (call.PinnedWrite id at bytes) old refl refl
    made-fits me own (call.SetDirty id lsn) old made = (keeps me).on_none (call.SetDirty id lsn) old refl refl
    made-fits me own (call.EndHold id) old made = (keeps me).on_none (call.EndHold id) old refl refl
    made-fits me own (call.AskAhead asked at len) old made = absurd made
    made-fits me own (call.AheadStep request) old made = absurd made
    made-fits me own other old made = (keeps me).on_file other file old on made refl

    walk-shim : (me : ℕ) → Follows u me file (λ own. Walked Stays me) (λ own e. Walked Stays me)
    walk-shim me = record {
      idle = λ own old new idle. walked-idle Stays me old new idle;
      joins = λ own old between new first rest. walked-then Stays me old between new first rest;
      done = λ own it r old new made left. walk-call me it (outcome.Done r) old new (made-fits me own it old made) left;
      failed = λ own it e old new made left. walk-call me it (outcome.Failed e) old new (made-fits me own it old made) left;
      after = λ own e old between new first rest. walked-then Stays me old between new first rest;
      before = λ id e old between new first rest. walked-then Stays me old between new first rest;
      tested = λ own e old new calm idle. walked-idle Stays me old new idle;
      held = λ it id old made new makes on left rest. walked-then Stays me old made new (walk-call me it (outcome.Done (reply.Hold id)) old made (made-fits me None it old on) left) rest;
      unheld = λ it id e old made new makes on left rest. walked-then Stays me old made new (walk-call me it (outcome.Done (reply.Hold id)) old made (made-fits me None it old on) left) rest;
      read = λ at len bytes old new left. walk-nc-read me at len (answer.Given (reply.Read bytes)) old new left;
      unread = λ at len done e old new left. walk-nc-read me at len (answer.NcRefused done e) old new left;
      appended = λ own handle bytes lsn old new left. walk-append me handle bytes (answer.NewLsn lsn) old new left;
      unappended = λ own handle bytes e old new left. walk-append me handle bytes (answer.Refused e) old new left;
    }

    walk-tests : (me : ℕ) → FollowsTests me file (λ own. Walked Stays me) (λ own e. Walked Stays me)
    walk-tests me = record {
      noted = λ range write old new only. walked-only Stays me _ old new only ((keeps me).tested file range write None);
      barred = λ range write id old new only. walked-only Stays me _ old new only ((keeps me).tested file range write (Some id));
    }

  walk-told : {me : ℕ} {old new : List Entry} (told : Answer) → Told (λ own. Walked Stays me) (λ own e. Walked Stays me) told old new → Walked Stays me old new
  walk-told (answer.Refused e) left = left
  walk-told other left = left

  -- a lock, and the end of one
  walk-lock : (me : ℕ) (file : File) (range : Range) (exclusive : Bool) (told : Answer) (old new : List Entry) → LockAnswered me file range exclusive told old new → Walked Stays me old new
  walk-lock me file range exclusive (answer.LockId id) old new left = walked-only Stays me _ old new left ((keeps me).locked file range exclusive true id)
  walk-lock me file range exclusive (answer.Refused (error.LockConflict id)) old new left = walked-only Stays me _ old new left ((keeps me).locked file range exclusive false id)
  walk-lock me file range exclusive (answer.Refused (error.JournalFull entries)) old new left = walked-idle Stays me old new left
  walk-lock me file range exclusive (answer.Refused error.NoMemory) old new left = walked-idle Stays me old new left
  walk-lock me file range exclusive (answer.Refused other) old new left = absurd left
  walk-lock me file range exclusive other old new left = absurd left

  walk-unlock : (me : ℕ) (file : File) (id : ℕ) (told : Answer) (old new : List Entry) → UnlockAnswered me file id told old new → Walked Stays me old new
  walk-unlock me file id (answer.Given (reply.Value (value.Flag gone))) old new left = walked-only Stays me _ old new left ((keeps me).unlocked file id gone)
  walk-unlock me file id (answer.Refused (error.JournalFull entries)) old new left = walked-idle Stays me old new left
  walk-unlock me file id (answer.Refused error.NoMemory) old new left = walked-idle Stays me old new left
  walk-unlock me file id (answer.Refused other) old new left = absurd left
  walk-unlock me file id other old new left = absurd left

  -- a question for levels
  walk-levels : (me : ℕ) (file : File) (told : Answer) (old new : List Entry) → LevelsAnswered levels_of me file told old new → Walked Stays me old new
  walk-levels me file (answer.Levels levels) old new left = walked-idle Stays me old new left.idle
  walk-levels me file (answer.Refused error.NotCached) old new left = walked-idle Stays me old new left.idle
  walk-levels me file (answer.Refused error.NoMemory) old new left = walked-idle Stays me old new left
  walk-levels me file other old new left = absurd left

  -- the settling of a stream: its state, a flush of it, a write of its record and a sync
  module _ (me : ℕ) (file : File) (on : On file) where
    walk-wrote : (first size valid : ℕ) (end : End) (old new : List Entry) → WroteRecord me file.stream first size valid end old new → Walked Stays me old new
    walk-wrote first size valid end old new is =
        walked-then Stays me old is.front new (walked-idle Stays me old is.front is.before)
        (walked-then Stays me is.front (entry.Record me file.stream size valid end ∷ is.front) new
        (walked-entry Stays me (entry.Record me file.stream size valid end) is.front ((keeps me).recorded file size valid end is.front on))
        (walked-idle Stays me _ new is.after))

    walk-synced : (first size valid : ℕ) (end : End) (old new : List Entry) → SyncedRecord me file.stream first size valid end old new → Walked Stays me old new
    walk-synced first size valid end old new is =
        walked-then Stays me old is.written new (walk-wrote first size valid how.Good old is.written is.wrote)
        (walked-only Stays me (entry.Sync me file.stream end) is.written new is.synced (λ past. (keeps me).synced file end past on))

    walk-some : (first : ℕ) (end : End) (old new : List Entry) → WroteSome me file.stream first end old new → Walked Stays me old new
    walk-some first end old new is = walk-wrote first is.size is.valid end old new is.wrote

    walk-synced-some : (first : ℕ) (end : End) (old new : List Entry) → SyncedSome me file.stream first end old new → Walked Stays me old new
    walk-synced-some first end old new is = walk-synced first is.size is.valid end old new is.synced

    walk-stopped : (first : ℕ) (e : CcError) (old new : List Entry) → RecordStopped me file.stream first e old new → Walked Stays me old new
    walk-stopped first (error.JournalFull entries) old new (inl idle) = walked-idle Stays me old new idle
    walk-stopped first (error.JournalFull entries) old new (inr wrote) = walk-some first how.Good old new wrote
    walk-stopped first error.NoMemory old new (inl (inl idle)) = walked-idle Stays me old new idle
    walk-stopped first error.NoMemory old new (inl (inr wrote)) = walk-some first how.NoMemory old new wrote
    walk-stopped first error.NoMemory old new (inr (inl wrote)) = walk-some first how.Good old new wrote
    walk-stopped first error.NoMemory old new (inr (inr synced)) = walk-synced-some first how.NoMemory old new synced
    walk-stopped first (error.WriteFault page) old new left = by left.1
      where
        by : WroteSome me file.stream first how.Failed old new ⊎ SyncedSome me file.stream first how.Failed old new → Walked Stays me old new
        by (inl wrote) = walk-some first how.Failed old new wrote
        by (inr synced) = walk-synced-some first how.Failed old new synced
    walk-stopped first other old new left = absurd left

    walk-state : (ended : Outcome) (old new : List Entry) → CallLeft u me (call.Query (query.State file)) ended old new → Walked Stays me old new
    walk-state ended old new left = walk-call me (call.Query (query.State file)) ended old new ((keeps me).on_file (call.Query (query.State file)) file old on refl refl) left

    walk-flush : (ended : Outcome) (old new : List Entry) → CallLeft u me (call.Flush file None) ended old new → Walked Stays me old new
    walk-flush ended old new left = walk-call me (call.Flush file None) ended old new ((keeps me).on_file (call.Flush file None) file old on refl refl) left

    walk-flushed : (told : FileState) (begun old new : List Entry) → StreamHasFlushed u me file told begun old new → Walked Stays me old new
    walk-flushed told begun old new is =
        walked-then Stays me old is.stated new (walk-state (outcome.Done (reply.Value (value.State told))) old is.stated is.state)
        (walked-then Stays me is.stated begun new (walked-idle Stays me is.stated begun is.idle) (walk-flush (outcome.Done reply.Unit) begun new is.flush))

    walk-unflushed : (e : CcError) (old new : List Entry) → IsUnflushed u me file e old new → Walked Stays me old new
    walk-unflushed e old new is =
        walked-then Stays me old is.stated new (walk-state (outcome.Done (reply.Value (value.State is.told))) old is.stated is.state)
        (walked-then Stays me is.stated is.begun new (walked-idle Stays me is.stated is.begun is.idle) (walk-flush (outcome.Failed e) is.begun new is.flush))

    pub walk-settle : (answered : Result FileState CcError) (old new : List Entry) → SettleLeft u me file answered old new → Walked Stays me old new
    walk-settle (Ok state) old new is =
        walked-then Stays me old is.flushed new (walk-flushed is.told is.begun old is.flushed is.has_flushed)
        (walk-synced _ state.sizes.size state.sizes.valid how.Good is.flushed new is.recorded)
    walk-settle (Err e) old new (inl left) = walk-state (outcome.Failed e) old new left
    walk-settle (Err e) old new (inr (inl is)) = walk-unflushed e old new is
    walk-settle (Err e) old new (inr (inr is)) =
        walked-then Stays me old is.flushed new (walk-flushed is.told is.begun old is.flushed is.has_flushed)
        (walk-stopped _ e is.flushed new is.stopped)

    walk-settled : (told : Answer) (old new : List Entry) → SettleAnswered u me file told old new → Walked Stays me old new
    walk-settled (answer.Given (reply.Value (value.State state))) old new left = walk-settle (Ok state) old new left
    walk-settled (answer.Refused e) old new left = walk-settle (Err e) old new left
    walk-settled other old new left = absurd left

  -- a checkpoint: the table, the states of the first streams, the syncs of some of them, an append and a flush of the log
  module _ (me handle streams : ℕ) (on : (s : ℕ) → s < streams → On (first_object s)) where
    walk-first : (it : Call) (s : ℕ) (ended : Outcome) (old new : List Entry) → s < streams → file_of it ≡ Some (first_object s) → is_queue_call it ≡ false → CallLeft u me it ended old new → Walked Stays me old new
    walk-first it s ended old new low of plain left = walk-call me it ended old new ((keeps me).on_file it (first_object s) old (on s low) of plain) left

    walk-asked : (s : ℕ) (state : Option FileState) (old new : List Entry) → s < streams → StateAsked u me s state old new → Walked Stays me old new
    walk-asked s (Some state) old new low left = walk-first (call.Query (query.State (first_object s))) s (outcome.Done (reply.Value (value.State state))) old new low refl refl left
    walk-asked s None old new low left = walk-first (call.Query (query.State (first_object s))) s (outcome.Failed error.NotCached) old new low refl refl left

    walk-states : (n : ℕ) (found : List ℕ) (old new : List Entry) → n ≤ streams → StatesAsked u me handle n found old new → Walked Stays me old new
    walk-states zero found old new low left = walked-idle Stays me old new left.1
    walk-states (suc n) found old new low left =
        walked-then Stays me old left.2 new (walk-states n left.0 old left.2 (omega (arith, low)) left.4) (walk-asked n left.1 left.2 new (omega (arith, low)) left.5)

    walk-syncs : (found : List ℕ) (answered : Result (Unit {0}) CcError) (old new : List Entry) → AllByRecursion (λ s. s < streams) found → CallsLeft u me (map sync_call found) answered old new → Walked Stays me old new
    walk-syncs [] (Ok done) old new low left = walked-idle Stays me old new left
    walk-syncs [] (Err e) old new low left = absurd left
    walk-syncs (s ∷ found) (Ok done) old new low left =
        walked-then Stays me old left.0 new (walk-first (sync_call s) s (outcome.Done reply.Unit) old left.0 low.0 refl refl left.1) (walk-syncs found (Ok done) left.0 new low.1 left.2)
    walk-syncs (s ∷ found) (Err e) old new low (inl left) = walk-first (sync_call s) s (outcome.Failed e) old new low.0 refl refl left
    walk-syncs (s ∷ found) (Err e) old new low (inr left) =
        walked-then Stays me old left.0 new (walk-first (sync_call s) s (outcome.Done reply.Unit) old left.0 low.0 refl refl left.1) (walk-syncs found (Err e) left.0 new low.1 left.2)

    walk-record-flushed : (lsn : ℕ) (answered : Result ℕ CcError) (old new : List Entry) → RecordFlushed u me handle lsn answered old new → Walked Stays me old new
    walk-record-flushed lsn (Ok told) old new left = walk-log-flush me handle lsn (answer.Given reply.Unit) old new left.1
    walk-record-flushed lsn (Err e) old new left = walk-log-flush me handle lsn (answer.Refused e) old new left

    walk-record-logged : (spelled : List ℕ) (answered : Result ℕ CcError) (old new : List Entry) → RecordLogged u me handle spelled answered old new → Walked Stays me old new
    walk-record-logged spelled answered old new (inl left) = walk-append me handle spelled (answer.Refused left.0) old new left.2
    walk-record-logged spelled answered old new (inr left) =
        walked-then Stays me old left.0 new (walk-append me handle spelled (answer.NewLsn left.1) old left.0 left.2) (walk-record-flushed left.1 answered left.0 new left.3)

    walk-synced-logged : (found spelled : List ℕ) (answered : Result ℕ CcError) (old new : List Entry) → AllByRecursion (λ s. s < streams) found → SyncedLogged u me handle found spelled answered old new → Walked Stays me old new
    walk-synced-logged found spelled answered old new low (inl left) = walk-syncs found (Err left.0) old new low left.2
    walk-synced-logged found spelled answered old new low (inr left) =
        walked-then Stays me old left.0 new (walk-syncs found (Ok tt) old left.0 low left.1) (walk-record-logged spelled answered left.0 new left.2)

    walk-rows-logged : (rows : List DirtyRow) (answered : Result ℕ CcError) (old new : List Entry) → RowsLogged u me streams handle rows answered old new → Walked Stays me old new
    walk-rows-logged rows answered old new (inl left) = by left.2
      where
        by : AskingStopped u me handle streams left.0 old new ⊎ StateRefused u me handle streams left.0 old new → Walked Stays me old new
        by (inl stopped) = walk-states stopped.n stopped.found old new stopped.within stopped.asked
        by (inr refused) =
            let low = refused.below in
            walked-then Stays me old refused.between new (walk-states refused.n refused.found old refused.between (omega (arith, low)) refused.asked)
            (walk-first (call.Query (query.State (first_object refused.n))) refused.n (outcome.Failed left.0) refused.between new low refl refl refused.refused)
    walk-rows-logged rows answered old new (inr left) =
        walked-then Stays me old left.0 new (walk-states streams left.1 old left.0 (omega arith) left.2)
        (walk-synced-logged left.1 (record_of_rows rows) answered left.0 new (found-below u me handle streams left.1 old left.0 left.2) left.3)

    walk-checkpoint-left : (answered : Result ℕ CcError) (old new : List Entry) → CheckpointLeft u me streams handle answered old new → Walked Stays me old new
    walk-checkpoint-left answered old new (inl left) =
        walk-call me (call.Query (query.DirtyPages handle)) (outcome.Failed left.0) old new ((keeps me).on_none (call.Query (query.DirtyPages handle)) old refl refl) left.2
    walk-checkpoint-left answered old new (inr left) =
        walked-then Stays me old left.0 new
        (walk-call me (call.Query (query.DirtyPages handle)) (outcome.Done (reply.Rows left.1)) old left.0 ((keeps me).on_none (call.Query (query.DirtyPages handle)) old refl refl) left.2)
        (walk-rows-logged left.1 answered left.0 new left.3)

    walk-checkpoint : (told : Answer) (old new : List Entry) → CheckpointAnswered u me streams handle told old new → Walked Stays me old new
    walk-checkpoint (answer.NewLsn lsn) old new left = walk-checkpoint-left (Ok lsn) old new left
    walk-checkpoint (answer.Refused e) old new left = walk-checkpoint-left (Err e) old new left
    walk-checkpoint other old new left = absurd left

  -- lines on holds
  walk-on-hold : (me : ℕ) (hold : Option ℕ) (Left : ℕ → Answer → List Entry → List Entry → Type 0) (told : Answer) (old new : List Entry) → ((id : ℕ) → Left id told old new → Walked Stays me old new) → OnHold me hold Left told old new → Walked Stays me old new
  walk-on-hold me None Left told old new step left = walked-idle Stays me old new left.1
  walk-on-hold me (Some id) Left told old new step left = step id left

  walk-hold-line : (me : ℕ) (bindings : List Binding) (word : ℕ) (of_kind : HoldKind → Bool) (call_on : ℕ → Call) (told : Answer) (old new : List Entry) → ((id : ℕ) → Fits old (call_on id)) → HoldLine u me bindings word of_kind call_on told old new → Walked Stays me old new
  walk-hold-line me bindings word of_kind call_on told old new fits left =
      walk-on-hold me (hold_named bindings word of_kind) (λ id. CallAnswered u me (call_on id)) told old new (λ id one. walk-answered me (call_on id) told old new (fits id) one) left

  walk-held-read : (me : ℕ) (bindings : List Binding) (word at len : ℕ) (mapped : Option ℕ) (told : Answer) (old new : List Entry) → HeldReadBy u me bindings word at len mapped told old new → Walked Stays me old new
  walk-held-read me bindings word at len (Some id) told old new left = walk-answered me (call.MappedRead id at len) told old new ((keeps me).on_none (call.MappedRead id at len) old refl refl) left
  walk-held-read me bindings word at len None told old new left = walk-hold-line me bindings word is_pin (λ id. call.PinnedRead id at len) told old new (λ id. (keeps me).on_none (call.PinnedRead id at len) old refl refl) left

  walk-unpinned : (me : ℕ) (through : Bool) (id : ℕ) (told : Answer) (old new : List Entry) → UnpinAnswered u me through id told old new → Walked Stays me old new
  walk-unpinned me through id (answer.Given r) old new left = walk-unpin me id through (outcome.Done r) old new left.left
  walk-unpinned me through id (answer.Refused e) old new left = walk-unpin me id through (outcome.Failed e) old new left.left
  walk-unpinned me through id other old new left = absurd left

  walk-unrepin : (me : ℕ) (bindings : List Binding) (word : ℕ) (through : Bool) (told : Answer) (old new : List Entry) → UnrepinLine u me bindings word through told old new → Walked Stays me old new
  walk-unrepin me bindings word through told old new left =
      walk-on-hold me (hold_named bindings word is_repin) (UnpinAnswered u me through) told old new (λ id one. walk-unpinned me through id told old new one) left

  -- a line that names a file of the first streams, or none
  -- a deferral, and posts, which are no pass's
  walk-defer : (me : ℕ) (file : File) (bytes : ℕ) (retrying : Bool) (told : Answer) (old new : List Entry) → DeferAnswered me file bytes retrying told old new → Walked Stays me old new
  walk-defer me file bytes retrying (answer.Deferred id) old new left = walked-only Stays me _ old new left ((keeps me).deferred id file _ retrying)
  walk-defer me file bytes retrying (answer.Refused error.NotCached) old new left = walked-idle Stays me old new left.idle
  walk-defer me file bytes retrying (answer.Refused error.QueueFull) old new left = walked-idle Stays me old new left.idle
  walk-defer me file bytes retrying (answer.Refused (error.JournalFull entries)) old new left = walked-idle Stays me old new left
  walk-defer me file bytes retrying (answer.Refused error.NoMemory) old new left = walked-idle Stays me old new left
  walk-defer me file bytes retrying (answer.Refused other) old new left = absurd left
  walk-defer me file bytes retrying other old new left = absurd left

  walk-post : (me : ℕ) (answered : Result (Option ℕ) CcError) (old new : List Entry) → PostLeft u me answered old new → Walked Stays me old new
  walk-post me (Ok (Some id)) old new left = walked-idle Stays me old new left.idle
  walk-post me (Ok None) old new left = walked-idle Stays me old new left.idle
  walk-post me (Err (error.JournalFull entries)) old new left = walked-idle Stays me old new left
  walk-post me (Err error.NoMemory) old new left = walked-idle Stays me old new left
  walk-post me (Err other) old new left = absurd left

  walk-posted : (me : ℕ) (ids : List ℕ) (old new : List Entry) → PostsLeft u me ids old new → Walked Stays me old new
  walk-posted me [] old new left = walk-post me (Ok None) old new left
  walk-posted me (id ∷ ids) old new left =
      walked-then Stays me old left.0 new (walk-post me (Ok (Some id)) old left.0 left.1) (walk-posted me ids left.0 new left.2)

  walk-unposted : (me : ℕ) (ids : List ℕ) (e : CcError) (old new : List Entry) → PostsRefused u me ids e old new → Walked Stays me old new
  walk-unposted me [] e old new left = walk-post me (Err e) old new left
  walk-unposted me (id ∷ ids) e old new left =
      walked-then Stays me old left.0 new (walk-post me (Ok (Some id)) old left.0 left.1) (walk-unposted me ids e left.0 new left.2)

  walk-posts : (me : ℕ) (told : Answer) (old new : List Entry) → PostsAnswered u me told old new → Walked Stays me old new
  walk-posts me (answer.Posts ids) old new left = walk-posted me ids old new left
  walk-posts me (answer.Refused e) old new left = walk-unposted me left.0 e old new left.1
  walk-posts me other old new left = absurd left

  pub walk-served : (me : ℕ) (bindings : List Binding) (asked : Action) (told : Answer) (old new : List Entry) → is_queue_action asked ≡ false → IsActionOn On asked → Served u me bindings asked told old new → Walked Stays me old new
  walk-served me bindings (action.Initialise file sizes quota temporary) told old new plain on left =
      walk-answered me (call.Initialise file sizes quota temporary) told old new ((keeps me).on_file (call.Initialise file sizes quota temporary) file old on refl refl) left
  walk-served me bindings (action.Uninitialise file truncate) told old new plain on left = walk-answered me (call.Uninitialise file truncate) told old new ((keeps me).on_file (call.Uninitialise file truncate) file old on refl refl) left
  walk-served me bindings (action.CopyRead file at len wait) told old new plain on left = walk-answered me (call.CopyRead file at len wait) told old new ((keeps me).on_file (call.CopyRead file at len wait) file old on refl refl) left
  walk-served me bindings (action.CopyWrite file at bytes) told old new plain on left = walk-answered me (call.CopyWrite file at bytes) told old new ((keeps me).on_file (call.CopyWrite file at bytes) file old on refl refl) left
  walk-served me bindings (action.Zero file span) told old new plain on left = walk-answered me (call.Zero file span) told old new ((keeps me).on_file (call.Zero file span) file old on refl refl) left
  walk-served me bindings (action.Map file at len word) told old new plain on left = walk-answered me (call.Map file at len) told old new ((keeps me).on_file (call.Map file at len) file old on refl refl) left
  walk-served me bindings (action.PinRead file at len word exclusive) told old new plain on left = walk-answered me (call.PinRead file at len exclusive) told old new ((keeps me).on_file (call.PinRead file at len exclusive) file old on refl refl) left
  walk-served me bindings (action.PinMapped word exclusive) told old new plain on left =
      walk-hold-line me bindings word is_map (λ id. call.PinMapped id exclusive) told old new (λ id. (keeps me).on_none (call.PinMapped id exclusive) old refl refl) left
  walk-served me bindings (action.PreparePin file at len word zeroed exclusive) told old new plain on left =
      walk-answered me (call.PreparePin file at len zeroed exclusive) told old new ((keeps me).on_file (call.PreparePin file at len zeroed exclusive) file old on refl refl) left
  walk-served me bindings (action.HeldRead word at len) told old new plain on left = walk-held-read me bindings word at len (hold_named bindings word is_map) told old new left
  walk-served me bindings (action.PinnedWrite word at bytes) told old new plain on left =
      walk-hold-line me bindings word is_pin (λ id. call.PinnedWrite id at bytes) told old new (λ id. (keeps me).on_none (call.PinnedWrite id at bytes) old refl refl) left
  walk-served me bindings (action.SetDirty word lsn) told old new plain on left =
      walk-hold-line me bindings word is_pin (λ id. call.SetDirty id lsn) told old new (λ id. (keeps me).on_none (call.SetDirty id lsn) old refl refl) left
  walk-served me bindings (action.Unpin word) told old new plain on left =
      walk-hold-line me bindings word (λ its_kind. is_map its_kind || is_pin its_kind) (λ id. call.EndHold id) told old new (λ id. (keeps me).on_none (call.EndHold id) old refl refl) left
  walk-served me bindings (action.Repin word made) told old new plain on left =
      walk-hold-line me bindings word is_pin (λ id. call.Repin id) told old new (λ id. (keeps me).on_none (call.Repin id) old refl refl) left
  walk-served me bindings (action.UnpinRepinned word through) told old new plain on left = walk-unrepin me bindings word through told old new left
  walk-served me bindings (action.MdlRead file at len word) told old new plain on left = walk-answered me (call.MdlRead file at len) told old new ((keeps me).on_file (call.MdlRead file at len) file old on refl refl) left
  walk-served me bindings (action.MdlWrite file at len word) told old new plain on left = walk-answered me (call.MdlWrite file at len) told old new ((keeps me).on_file (call.MdlWrite file at len) file old on refl refl) left
  walk-served me bindings (action.MdlBytes word at len) told old new plain on left =
      walk-hold-line me bindings word is_read_chain (λ id. call.MdlBytes id at len) told old new (λ id. (keeps me).on_none (call.MdlBytes id at len) old refl refl) left
  walk-served me bindings (action.MdlStore word at bytes) told old new plain on left =
      walk-hold-line me bindings word is_write_chain (λ id. call.MdlStore id at bytes) told old new (λ id. (keeps me).on_none (call.MdlStore id at bytes) old refl refl) left
  walk-served me bindings (action.MdlDone word) told old new plain on left =
      walk-hold-line me bindings word (λ its_kind. is_read_chain its_kind || is_write_chain its_kind) (λ id. call.EndHold id) told old new (λ id. (keeps me).on_none (call.EndHold id) old refl refl) left
  walk-served me bindings (action.MdlAbort word) told old new plain on left =
      walk-hold-line me bindings word is_write_chain (λ id. call.EndHold id) told old new (λ id. (keeps me).on_none (call.EndHold id) old refl refl) left
  walk-served me bindings (action.SetSizes file allocation size) told old new plain on left = walk-answered me (call.SetSizes file allocation size) told old new ((keeps me).on_file (call.SetSizes file allocation size) file old on refl refl) left
  walk-served me bindings (action.Query asked) told old new plain on left = walk-answered me (call.Query asked) told old new (by (file_of_query asked) refl on) left
    where
      by : (named : Option File) → file_of_query asked ≡ named → IfSome named On → Fits old (call.Query asked)
      by None is on = (keeps me).on_none (call.Query asked) old is refl
      by (Some file) is on = (keeps me).on_file (call.Query asked) file old on is refl
  walk-served me bindings (action.Flush file span) told old new plain on left = walk-answered me (call.Flush file span) told old new ((keeps me).on_file (call.Flush file span) file old on refl refl) left.left
  walk-served me bindings (action.Purge file span) told old new plain on left = walk-answered me (call.Purge file span) told old new ((keeps me).on_file (call.Purge file span) file old on refl refl) left
  walk-served me bindings (action.Discard file span) told old new plain on left = walk-answered me (call.Discard file span) told old new ((keeps me).on_file (call.Discard file span) file old on refl refl) left
  walk-served me bindings (action.NcRead file at len) told old new plain on left = walk-nc-read file on me at len told old new left
  walk-served me bindings (action.NcWrite file at bytes) told old new plain on left = walk-nc-write file on me at bytes told old new left
  walk-served me bindings (action.Read file path at len) told old new plain on left =
      walk-told told (told-read u me file _ _ (walk-shim file on me) (walk-tests file on me) path at len told old new left)
  walk-served me bindings (action.Write file at bytes) told old new plain on left =
      walk-told told (told-write u me file _ _ (walk-shim file on me) (walk-tests file on me) at bytes told old new left)
  walk-served me bindings (action.Update file at bytes) told old new plain on left =
      walk-told told (told-update u me file _ _ (walk-shim file on me) (walk-tests file on me) at bytes told old new left)
  walk-served me bindings (action.Lock file span exclusive) told old new plain on left = walk-lock me file span exclusive told old new left
  walk-served me bindings (action.Unlock file id) told old new plain on left = walk-unlock me file id told old new left
  walk-served me bindings (action.Levels file) told old new plain on left = walk-levels me file told old new left
  walk-served me bindings (action.Settle file) told old new plain on left = walk-settled me file on told old new left
  walk-served me bindings (action.Checkpoint streams handle) told old new plain on left = walk-checkpoint me handle streams on told old new left
  walk-served me bindings (action.SetLog file handle) told old new plain on left = walk-answered me (call.SetLog file handle) told old new ((keeps me).on_file (call.SetLog file handle) file old on refl refl) left
  walk-served me bindings (action.Append handle bytes) told old new plain on left = walk-append me handle bytes told old new left
  walk-served me bindings (action.LogFlush handle lsn) told old new plain on left = walk-log-flush me handle lsn told old new left
  walk-served me bindings (action.SetGranularity file bytes) told old new plain on left = walk-answered me (call.SetGranularity file bytes) told old new ((keeps me).on_file (call.SetGranularity file bytes) file old on refl refl) left
  walk-served me bindings (action.SetAttributes file no_read_ahead no_write_behind) told old new plain on left =
      walk-answered me (call.SetAttributes file no_read_ahead no_write_behind) told old new ((keeps me).on_file (call.SetAttributes file no_read_ahead no_write_behind) file old on refl refl) left
  walk-served me bindings (action.SetThreshold file pages) told old new plain on left = walk-answered me (call.SetThreshold file pages) told old new ((keeps me).on_file (call.SetThreshold file pages) file old on refl refl) left
  walk-served me bindings (action.Defer file bytes retrying) told old new plain on left = walk-defer me file bytes retrying told old new left
  walk-served me bindings action.Post told old new plain on left = walk-posts me told old new left
  walk-served me bindings action.Tick told old new plain on left = walk-tick me told old new left
  walk-served me bindings (action.AskAhead file at len) told old new plain on left = absurd (cc plain)
  walk-served me bindings action.AheadStep told old new plain on left = absurd (cc plain)
  walk-served me bindings (action.AsyncRead file at len) told old new plain on left =
      walk-started me file at len told old new ((keeps me).on_file (call.CopyRead file at len false) file old on refl refl) left
  walk-served me bindings action.Complete told old new plain on left = walk-completed on me told old new left
  walk-served me bindings other told old new plain on left = absurd left

-- What a line of a caller leaves, from its first moment to its last: what is said of two moments of a pass, where it is said of each
-- entry that the line may place, is said of the moments of the line.
use Rattle.std.specs.Prelude.{◌≡◌, ℕ, zero, suc, ◌+◌, ◌*◌, ◌/◌, Bool, true, false, ◌&&◌, ◌||◌, ◌==◌, nat_lt, min, List, [], ◌∷◌, ◌++◌, length, map, take, drop, Result, Ok, Err, refl, ◌⊎◌, if◌then◌else◌}
use Rattle.std.specs.declared.option.Option.{Option}
use Rattle.std.specs.declared.option.Option.TheVariants.{Some, None}
use Rattle.std.specs.List.{AllByRecursion}
use Rattle.std.proofs.Common.{sym, subst, inl, inr, eq-eqb}
use Rattle.cc_entry.specs.Place.{File, Page, Range}
use Rattle.cc_entry.specs.declared.place.DirtyRow.{DirtyRow}
use Rattle.cc_entry.specs.declared.place.FileState.{FileState}
use Rattle.cc_entry.specs.declared.place.Request.{Request}
use Rattle.cc_entry.specs.declared.answer.Answer.{Answer}
use Rattle.cc_entry.specs.declared.answer.Answer.TheVariants as answer
use Rattle.cc_entry.specs.declared.answer.AsyncStart.TheVariants as start
use Rattle.cc_entry.specs.declared.call.Call.{Call}
use Rattle.cc_entry.specs.declared.call.Call.TheVariants as call
use Rattle.cc_entry.specs.declared.query.Query.TheVariants as query
use Rattle.cc_entry.specs.declared.entry.End.{End}
use Rattle.cc_entry.specs.declared.entry.End.TheVariants as how
use Rattle.cc_entry.specs.declared.entry.Entry.{Entry}
use Rattle.cc_entry.specs.declared.entry.Entry.TheVariants as entry
use Rattle.cc_entry.specs.declared.error.CcError.{CcError}
use Rattle.cc_entry.specs.declared.error.CcError.TheVariants as error
use Rattle.cc_entry.specs.declared.hold.HoldKind.{HoldKind}
use Rattle.cc_entry.specs.declared.reply.Outcome.{Outcome}
use Rattle.cc_entry.specs.declared.reply.Outcome.TheVariants as outcome
use Rattle.cc_entry.specs.declared.reply.Reply.TheVariants as reply
use Rattle.cc_entry.specs.declared.query.Value.TheVariants as value
use Rattle.cc_entry.specs.Kinds.{is_map, is_pin, is_repin, is_read_chain, is_write_chain}
use Rattle.cc_script.specs.declared.script.Action.{Action}
use Rattle.cc_script.specs.declared.script.Action.TheVariants as action
use Rattle.cc_script.specs.declared.script.ReadPath.{ReadPath}
use Rattle.cc_script.specs.declared.script.ReadPath.TheVariants.{Cached, Mapped, Pinned, Descriptor, Noncached}
use Rattle.cc_model.specs.Acts.{file_of}
use Rattle.cc_model.specs.Filing.{IsFiled}
use Rattle.cc_model.specs.History.{history}
use Rattle.cc_model.specs.Holds.{Hold, holds_of}
use Rattle.cc_model.specs.Legal.{stream_history}
use Rattle.cc_model.specs.Passes.{is_mine}
use Rattle.cc_model.specs.Setup.{Setup}
use Rattle.cc_model.specs.Touches.{valid_of}
use Rattle.cc_effects.specs.Asked.{Calls, Work, Writes}
use Rattle.cc_effects.specs.Calls.{CallLeft, IsOvertaken, IsPlaced, IsRefused}
use Rattle.cc_effects.specs.LogCalls.{AppendRefused, FlushRefused, LogFlushLeft, WasFlushed}
use Rattle.cc_effects.specs.Moments.{EachOwn, IsIdle, Others, PlacedOnly}
use Rattle.cc_effects.specs.Noncached.{AlignedReadLeft, AlignedWriteLeft, IsPageWritten, StoreIsTransferred, IsUntold, MisshapenLeft, NcReadLeft, PageReadsRefused, PageRefused, PagesRead, PagesWritten, ShapedReadLeft, ShapedWriteLeft, TakesOut, TransferRefused, pages_from, shape_refusal}
use Rattle.cc_effects.specs.PageWrites.{HasScanned, TickCutOff}
use Rattle.cc_effects.specs.Places.{MayPlace, Works}
use Rattle.cc_effects.specs.Repins.{UnpinLeft}
use Rattle.cc_effects.specs.Throttle.{PostLeft}
use Rattle.cc_records.specs.Left.{StreamHasFlushed, RecordStopped, SettleLeft, SyncedRecord, SyncedSome, WroteRecord, WroteSome}
use Rattle.cc_pieces.specs.Answered.{AheadAnswered, AppendAnswered, CallAnswered, CompletionAnswered, DeferAnswered, LevelsAnswered, LogFlushAnswered, NcReadAnswered, NcWriteAnswered, PostsAnswered, PostsLeft, PostsRefused, SettleAnswered, StartAnswered, TickAnswered, bytes_outcome}
use Rattle.cc_pieces.specs.Bindings.{Binding, OnHold, hold_named}
use Rattle.cc_pieces.specs.Checkpoints.{AskingStopped, CheckpointAnswered, CheckpointLeft, RecordFlushed, RecordLogged, RowsLogged, StateAsked, StateRefused, StatesAsked, SyncedLogged, first_object, record_of_rows, sync_call}
use Rattle.cc_pieces.specs.HoldLines.{HeldReadBy, HoldLine, UnpinAnswered, UnrepinLine}
use Rattle.cc_pieces.specs.Locks.{FoundLeft, LockAnswered, LockedLeft, LockedReadAnswered, LockedUpdateAnswered, LockedWriteAnswered, TestLeft, UnlockAnswered, read_refused, tested_range, update_refused, write_refused}
use Rattle.cc_pieces.specs.Served.{Served}
use Rattle.cc_pieces.specs.Shim.{CallsLeft, HeldPartsLeft, HoldPath, PartRead, PartRefused, PartsLeft, LoggedLeft, PathReadLeft, PinnedUpdateLeft, ReadTested, RecordedLeft, ToldUpdateLeft, ToldWriteLeft, UpdateLeft, WriteTested, descriptor_path, extensions, mapped_path, misaligned_for, parts_of, pinned_path, too_long_for, update_record_of_file, whole_part, write_calls, zeroings}
use Rattle.cc_script_laws.specs.Lines.{is_one_call, was_refused}

pub same-pass : (me : ℕ) → (me == me) ≡ true
same-pass me = eq-eqb me me refl

-- whether an entry is none of a call, none of an append to a log and no write of a record
abbrev pub is_plain : Entry → Bool
is_plain (entry.Call pass nth stream it ended) = false
is_plain (entry.Append pass handle lsn bytes) = false
is_plain (entry.Record pass stream size valid end) = false
is_plain other = true

-- what is placed for a call that is under way is such
placed-plain : (me : ℕ) (work : Work) (old past : List Entry) (e : Entry) → MayPlace me work old past e → is_plain e ≡ true
placed-plain me work old past (entry.Call pass nth stream it ended) may = absurd may
placed-plain me work old past (entry.Append pass handle lsn bytes) may = absurd may
placed-plain me work old past (entry.Record pass stream size valid end) may = absurd may
placed-plain me work old past other may = refl

-- What is said of two moments of a pass: it is said where the pass placed nothing, it goes on from one moment to the next, and it is
-- said of each plain entry, and of the entry of each call of a kind.
pub record Follows (me : ℕ) (Makes : Call → Type 0) (W : List Entry → List Entry → Type 0) : Type 0 where
  pub idle : (old new : List Entry) → IsIdle me old new → W old new
  pub joins : (old between new : List Entry) → W old between → W between new → W old new
  pub plain : (e : Entry) (past : List Entry) → is_plain e ≡ true → is_mine me e ≡ true → W past (e ∷ past)
  pub called : (it : Call) (ended : Outcome) (nth : ℕ) (stream : Option ℕ) (past : List Entry) → Makes it → IsFiled (holds_of (stream_history past stream)) me stream it (file_of it) → W past (entry.Call me nth stream it ended ∷ past)

-- a call of a read along some path, and one of a write
abbrev pub IsReadOf : File → Call → Type 0
IsReadOf file (call.Query (query.State other)) = other ≡ file
IsReadOf file (call.CopyRead other at len wait) = other ≡ file
IsReadOf file (call.Map other at len) = other ≡ file
IsReadOf file (call.PinRead other at len exclusive) = other ≡ file
IsReadOf file (call.MdlRead other at len) = other ≡ file
IsReadOf file (call.NcRead other page) = other ≡ file
IsReadOf file (call.MappedRead hold at len) = Unit {0}
IsReadOf file (call.PinnedRead hold at len) = Unit {0}
IsReadOf file (call.MdlBytes hold at len) = Unit {0}
IsReadOf file (call.EndHold hold) = Unit {0}
IsReadOf file other = ⊥

abbrev pub IsWriteOf : File → Call → Type 0
IsWriteOf file (call.Query (query.State other)) = other ≡ file
IsWriteOf file (call.SetSizes other allocation size) = other ≡ file
IsWriteOf file (call.Zero other span) = other ≡ file
IsWriteOf file (call.CopyWrite other at bytes) = other ≡ file
IsWriteOf file other = ⊥

-- a call of a noncached write
abbrev pub IsNcWriteOf : File → Call → Type 0
IsNcWriteOf file (call.NcStore other page bytes) = other ≡ file
IsNcWriteOf file (call.NcWrite other page) = other ≡ file
IsNcWriteOf file other = ⊥

-- a call of an update, and one of a checkpoint
abbrev pub IsUpdateOf : File → Call → Type 0
IsUpdateOf file (call.PinRead other at len exclusive) = other ≡ file
IsUpdateOf file (call.Query (query.State other)) = other ≡ file
IsUpdateOf file (call.PinnedWrite hold at bytes) = Unit {0}
IsUpdateOf file (call.SetDirty hold lsn) = Unit {0}
IsUpdateOf file (call.EndHold hold) = Unit {0}
IsUpdateOf file other = ⊥

abbrev pub IsCheckpointOf : Call → Type 0
IsCheckpointOf (call.Query (query.DirtyPages handle)) = Unit {0}
IsCheckpointOf (call.Query (query.State file)) = Unit {0}
IsCheckpointOf (call.Flush file span) = Unit {0}
IsCheckpointOf other = ⊥

-- an update was answered as its line tells it
abbrev pub IsToldSo : Answer → Result ℕ CcError → Type 0
IsToldSo (answer.NewLsn lsn) answered = answered ≡ Ok lsn
IsToldSo (answer.Refused e) answered = answered ≡ Err e
IsToldSo other answered = ⊥

module _ (u : Setup) (me : ℕ) (Makes : Call → Type 0) (W : List Entry → List Entry → Type 0) (f : Follows me Makes W) where
  -- ---- entries

  follow-others : (later old : List Entry) → Others me later → W old (later ++ old)
  follow-others later old others = f.idle old (later ++ old) (record { during = later; grew = refl; others = others })

  pub follow-only : (e : Entry) (old new : List Entry) → PlacedOnly me e old new → ((past : List Entry) → W past (e ∷ past)) → W old new
  follow-only e old new only step =
      subst (W old) (sym only.grew)
      (f.joins old (e ∷ (only.earlier ++ old)) (only.later ++ (e ∷ (only.earlier ++ old)))
      (f.joins old (only.earlier ++ old) (e ∷ (only.earlier ++ old)) (follow-others only.earlier old only.quiet_before) (step (only.earlier ++ old)))
      (follow-others only.later (e ∷ (only.earlier ++ old)) only.quiet_after))

  pub follow-plain : (e : Entry) (old new : List Entry) → is_plain e ≡ true → PlacedOnly me e old new → W old new
  follow-plain e old new plain only = follow-only e old new only (λ past. f.plain e past plain only.is_own)

  follow-each : (work : Work) (base during old : List Entry) → EachOwn me (MayPlace me work base) during old → W old (during ++ old)
  follow-each work base [] old each = follow-others [] old tt
  follow-each work base (e ∷ during) old each =
      f.joins old (during ++ old) (e ∷ (during ++ old)) (follow-each work base during old each.1) (by (is_mine me e) refl)
    where
      by : (b : Bool) → is_mine me e ≡ b → W (during ++ old) (e ∷ (during ++ old))
      by true own = f.plain e (during ++ old) (placed-plain me work base (during ++ old) e (each.0 own)) own
      by false other = f.idle (during ++ old) (e ∷ (during ++ old)) (record { during = e ∷ []; grew = refl; others = (other, tt) })

  follow-works : (work : Work) (during old : List Entry) → Works me work during old → W old (during ++ old)
  follow-works work during old works = follow-each work old during old works.each

  -- ---- calls

  -- what is said of the entry of a call that ended so
  abbrev pub SaysOf : Call → Outcome → Type 0
  SaysOf it ended = (nth : ℕ) (stream : Option ℕ) (past : List Entry) → IsFiled (holds_of (stream_history past stream)) me stream it (file_of it) → W past (entry.Call me nth stream it ended ∷ past)

  follow-placed : (it : Call) (ended : Outcome) (earlier old new : List Entry) → SaysOf it ended → IsPlaced me it ended earlier old new → W old new
  follow-placed it ended earlier old new says p =
      let e : Entry = entry.Call me p.nth p.stream it ended in
      subst (W old) (sym p.grew)
      (f.joins old (e ∷ (earlier ++ old)) (p.later ++ (e ∷ (earlier ++ old)))
      (f.joins old (earlier ++ old) (e ∷ (earlier ++ old)) (follow-works (Calls it) earlier old p.works) (says p.nth p.stream (earlier ++ old) p.filed))
      (follow-others p.later (e ∷ (earlier ++ old)) p.quiet))

  follow-failed : (it : Call) (e : CcError) (old new : List Entry) → SaysOf it (outcome.Failed e) → CallLeft u me it (outcome.Failed e) old new → W old new
  follow-failed it (error.JournalFull entries) old new says left = subst (W old) (sym left.grew) (follow-works (Calls it) left.during old left.works)
  follow-failed it error.NoMemory old new says left = subst (W old) (sym left.grew) (follow-works (Calls it) left.during old left.works)
  follow-failed it (error.ReadFault page) old new says left = follow-placed it (outcome.Failed (error.ReadFault page)) left.earlier old new says left.placed
  follow-failed it (error.WriteFault page) old new says left = follow-placed it (outcome.Failed (error.WriteFault page)) left.earlier old new says left.placed
  follow-failed it (error.LogFault handle) old new says left = follow-placed it (outcome.Failed (error.LogFault handle)) left.earlier old new says left.placed
  follow-failed it e old new says left = by e says left
    where
      by : (e : CcError) → SaysOf it (outcome.Failed e) → IsRefused me it e old new ⊎ IsOvertaken u me it e old new → W old new
      by e says (inl is) = follow-placed it (outcome.Failed e) is.earlier old new says is.placed
      by e says (inr is) = follow-placed it (outcome.Failed e) is.earlier old new says is.placed

  pub follow-call : (it : Call) (ended : Outcome) (old new : List Entry) → Makes it → CallLeft u me it ended old new → W old new
  follow-call it (outcome.Done r) old new makes left =
      follow-placed it (outcome.Done r) left.earlier old new (λ nth stream past filed. f.called it (outcome.Done r) nth stream past makes filed) left.placed
  follow-call it (outcome.Failed e) old new makes left =
      follow-failed it e old new (λ nth stream past filed. f.called it (outcome.Failed e) nth stream past makes filed) left

  pub follow-answered : (it : Call) (told : Answer) (old new : List Entry) → Makes it → CallAnswered u me it told old new → W old new
  follow-answered it (answer.Given r) old new makes left = follow-call it (outcome.Done r) old new makes left
  follow-answered it (answer.Refused e) old new makes left = follow-call it (outcome.Failed e) old new makes left
  follow-answered it other old new makes left = absurd left

  pub follow-calls : (calls : List Call) (answered : Result (Unit {0}) CcError) (old new : List Entry) → AllByRecursion Makes calls → CallsLeft u me calls answered old new → W old new
  follow-calls [] (Ok done) old new makes left = f.idle old new left
  follow-calls [] (Err e) old new makes left = absurd left
  follow-calls (it ∷ more) (Ok done) old new makes left =
      f.joins old left.0 new (follow-call it (outcome.Done reply.Unit) old left.0 makes.0 left.1) (follow-calls more (Ok done) left.0 new makes.1 left.2)
  follow-calls (it ∷ more) (Err e) old new makes (inl left) = follow-call it (outcome.Failed e) old new makes.0 left
  follow-calls (it ∷ more) (Err e) old new makes (inr left) =
      f.joins old left.0 new (follow-call it (outcome.Done reply.Unit) old left.0 makes.0 left.1) (follow-calls more (Err e) left.0 new makes.1 left.2)

  -- ---- a tick: its scan, and the pages that it wrote

  follow-scanned : (picked : List Page) (during old new : List Entry) → HasScanned me picked during old new → W old new
  follow-scanned picked during old new is =
      let e : Entry = entry.Scan me picked in
      subst (W old) (sym is.grew)
      (f.joins old (e ∷ (is.before ++ old)) (during ++ (e ∷ (is.before ++ old)))
      (f.joins old (is.before ++ old) (e ∷ (is.before ++ old)) (follow-others is.before old is.quiet) (f.plain e (is.before ++ old) refl own))
      (follow-works (Writes picked) during (e ∷ (is.before ++ old)) is.works))
    where
      own : is_mine me (entry.Scan me picked) ≡ true
      own = same-pass me

  follow-cut-off : (e : CcError) (old new : List Entry) → TickCutOff me e old new → W old new
  follow-cut-off e old new (inl idle) = f.idle old new idle
  follow-cut-off e old new (inr after) = follow-scanned after.0 after.1 old new after.2

  pub follow-tick : (told : Answer) (old new : List Entry) → TickAnswered me told old new → W old new
  follow-tick (answer.Ticked tick) old new left = follow-scanned tick.picked left.during old new left.scanned
  follow-tick (answer.Refused (error.JournalFull entries)) old new left = follow-cut-off (error.JournalFull entries) old new left
  follow-tick (answer.Refused error.NoMemory) old new left = follow-cut-off error.NoMemory old new left
  follow-tick (answer.Refused other) old new left = absurd left
  follow-tick other old new left = absurd left

  -- ---- a read-ahead step, a read that may be queued, and the completion of one

  pub follow-ahead : (taken : Option Request) (told : Answer) (old new : List Entry) → ((request : Request) → Makes (call.AheadStep request)) → AheadAnswered u me taken told old new → W old new
  follow-ahead None (answer.Stepped None) old new makes left = f.idle old new left
  follow-ahead None (answer.Stepped (Some done)) old new makes left = absurd left
  follow-ahead None (answer.Refused e) old new makes left = absurd left
  follow-ahead (Some request) (answer.Stepped None) old new makes left = absurd left
  follow-ahead (Some request) (answer.Stepped (Some done)) old new makes left =
      follow-call (call.AheadStep request) (outcome.Done (reply.Whole done.whole)) old new (makes request) left.1
  follow-ahead (Some request) (answer.Refused e) old new makes left = follow-call (call.AheadStep request) (outcome.Failed e) old new (makes request) left
  follow-ahead taken other old new makes left = absurd left

  follow-started : (file : File) (at len : ℕ) (told : Answer) (old new : List Entry) → Makes (call.CopyRead file at len false) → StartAnswered u me file at len told old new → W old new
  follow-started file at len (answer.Started (start.Ready bytes)) old new makes left = follow-call (call.CopyRead file at len false) (outcome.Done (reply.Read bytes)) old new makes left
  follow-started file at len (answer.Started (start.Queued id)) old new makes left = follow-call (call.CopyRead file at len false) (outcome.Failed (error.NotResident left.0)) old new makes left.1
  follow-started file at len (answer.Refused error.QueueFull) old new makes left = follow-call (call.CopyRead file at len false) (outcome.Failed (error.NotResident left.0)) old new makes left.1
  follow-started file at len (answer.Refused (error.NotResident page)) old new makes left = absurd left
  follow-started file at len (answer.Refused e) old new makes left = follow-call (call.CopyRead file at len false) (outcome.Failed e) old new makes left
  follow-started file at len other old new makes left = absurd left

  follow-completed : ((file : File) (at len : ℕ) → Makes (call.CopyRead file at len true)) → (told : Answer) (old new : List Entry) → CompletionAnswered u me told old new → W old new
  follow-completed makes (answer.Completed None) old new left = f.idle old new left
  follow-completed makes (answer.Completed (Some done)) old new left =
      follow-call (call.CopyRead done.file done.at done.len true) (bytes_outcome done.answer) old new (makes done.file done.at done.len) left
  follow-completed makes other old new left = absurd left

  -- ---- lines on holds

  -- the end of a repin, and with write through a flush of its hold's file
  follow-unpin : (id : ℕ) (through : Bool) (ended : Outcome) (old new : List Entry) → Makes (call.EndHold id) → ((file : File) (span : Option Range) → Makes (call.Flush file span)) → UnpinLeft u me id through ended old new → W old new
  follow-unpin id false ended old new ends flushes left = follow-call (call.EndHold id) ended old new ends left
  follow-unpin id true ended old new ends flushes left =
      f.joins old left.0 new
      (follow-placed (call.EndHold id) (outcome.Done reply.Unit) left.2.done.earlier old left.0 (λ nth stream past filed. f.called (call.EndHold id) (outcome.Done reply.Unit) nth stream past ends filed) left.2.done.placed)
      (follow-call (call.Flush left.1.file _) ended left.0 new (flushes left.1.file _) left.3)

  follow-on-hold : (hold : Option ℕ) (Left : ℕ → Answer → List Entry → List Entry → Type 0) (told : Answer) (old new : List Entry) → ((id : ℕ) → Left id told old new → W old new) → OnHold me hold Left told old new → W old new
  follow-on-hold None Left told old new step left = f.idle old new left.1
  follow-on-hold (Some id) Left told old new step left = step id left

  follow-hold-line : (bindings : List Binding) (word : ℕ) (of_kind : HoldKind → Bool) (call_on : ℕ → Call) (told : Answer) (old new : List Entry) → ((id : ℕ) → Makes (call_on id)) → HoldLine u me bindings word of_kind call_on told old new → W old new
  follow-hold-line bindings word of_kind call_on told old new makes left =
      follow-on-hold (hold_named bindings word of_kind) (λ id. CallAnswered u me (call_on id)) told old new (λ id one. follow-answered (call_on id) told old new (makes id) one) left

  follow-refused-hold : (bindings : List Binding) (word : ℕ) (of_kind : HoldKind → Bool) (call_on : ℕ → Call) (e : CcError) (old new : List Entry) → ((it : Call) (e : CcError) → SaysOf it (outcome.Failed e)) → HoldLine u me bindings word of_kind call_on (answer.Refused e) old new → W old new
  follow-refused-hold bindings word of_kind call_on e old new says left =
      follow-on-hold (hold_named bindings word of_kind) (λ id. CallAnswered u me (call_on id)) (answer.Refused e) old new (λ id one. follow-failed (call_on id) e old new (says (call_on id) e) one) left

  follow-held-read : (bindings : List Binding) (word at len : ℕ) (mapped : Option ℕ) (told : Answer) (old new : List Entry) → ((id : ℕ) → Makes (call.MappedRead id at len)) → ((id : ℕ) → Makes (call.PinnedRead id at len)) → HeldReadBy u me bindings word at len mapped told old new → W old new
  follow-held-read bindings word at len (Some id) told old new maps pins left = follow-answered (call.MappedRead id at len) told old new (maps id) left
  follow-held-read bindings word at len None told old new maps pins left = follow-hold-line bindings word is_pin (λ id. call.PinnedRead id at len) told old new pins left

  follow-unpinned : (through : Bool) (id : ℕ) (told : Answer) (old new : List Entry) → Makes (call.EndHold id) → ((file : File) (span : Option Range) → Makes (call.Flush file span)) → UnpinAnswered u me through id told old new → W old new
  follow-unpinned through id (answer.Given r) old new ends flushes left = follow-unpin id through (outcome.Done r) old new ends flushes left.left
  follow-unpinned through id (answer.Refused e) old new ends flushes left = follow-unpin id through (outcome.Failed e) old new ends flushes left.left
  follow-unpinned through id other old new ends flushes left = absurd left

  follow-unrepin : (bindings : List Binding) (word : ℕ) (through : Bool) (told : Answer) (old new : List Entry) → ((id : ℕ) → Makes (call.EndHold id)) → ((file : File) (span : Option Range) → Makes (call.Flush file span)) → UnrepinLine u me bindings word through told old new → W old new
  follow-unrepin bindings word through told old new ends flushes left =
      follow-on-hold (hold_named bindings word is_repin) (UnpinAnswered u me through) told old new (λ id one. follow-unpinned through id told old new (ends id) flushes one) left

  -- ---- logs

  pub follow-append-refused : (handle : ℕ) (e : CcError) (old new : List Entry) → AppendRefused u me handle e old new → W old new
  follow-append-refused handle (error.NoLog missing) old new left = f.idle old new left.2
  follow-append-refused handle (error.LogFull full) old new left = f.idle old new left.2
  follow-append-refused handle (error.LogFault failed) old new left = follow-plain (entry.LogFailed me handle) old new refl left.2.1
  follow-append-refused handle (error.JournalFull entries) old new left = f.idle old new left
  follow-append-refused handle error.NoMemory old new left = f.idle old new left
  follow-append-refused handle other old new left = absurd left

  pub follow-append : (handle : ℕ) (bytes : List ℕ) (told : Answer) (old new : List Entry) → ((lsn : ℕ) (past : List Entry) → W past (entry.Append me handle lsn bytes ∷ past)) → AppendAnswered u me handle bytes told old new → W old new
  follow-append handle bytes (answer.NewLsn lsn) old new appended left = follow-only (entry.Append me handle lsn bytes) old new left.1 (appended lsn)
  follow-append handle bytes (answer.Refused e) old new appended left = follow-append-refused handle e old new left
  follow-append handle bytes other old new appended left = absurd left

  follow-flush-refused : (handle lsn : ℕ) (e : CcError) (old new : List Entry) → FlushRefused u me handle lsn e old new → W old new
  follow-flush-refused handle lsn (error.NoLog missing) old new left = f.idle old new left.2
  follow-flush-refused handle lsn (error.LogFault failed) old new left = follow-plain (entry.LogFailed me handle) old new refl left.2.1
  follow-flush-refused handle lsn (error.JournalFull entries) old new left = f.idle old new left
  follow-flush-refused handle lsn error.NoMemory old new left = f.idle old new left
  follow-flush-refused handle lsn other old new left = absurd left

  pub follow-log-flush : {T : Type 0} (handle lsn : ℕ) (answered : Result T CcError) (old new : List Entry) → LogFlushLeft u me handle lsn answered old new → W old new
  follow-log-flush handle lsn (Ok done) old new left = by left.1
    where
      by : PlacedOnly me (entry.Flushed me handle lsn) old new ⊎ WasFlushed me handle lsn old new → W old new
      by (inl only) = follow-plain (entry.Flushed me handle lsn) old new refl only
      by (inr was) = f.idle old new was.idle
  follow-log-flush handle lsn (Err e) old new left = follow-flush-refused handle lsn e old new left

  follow-flushed : (handle lsn : ℕ) (told : Answer) (old new : List Entry) → LogFlushAnswered u me handle lsn told old new → W old new
  follow-flushed handle lsn (answer.Given reply.Unit) old new left = follow-log-flush {T = Unit {0}} handle lsn (Ok tt) old new left
  follow-flushed handle lsn (answer.Refused e) old new left = follow-log-flush {T = Unit {0}} handle lsn (Err e) old new left
  follow-flushed handle lsn other old new left = absurd left

  -- ---- locks and their tests, levels, deferrals and posts

  follow-lock : (file : File) (range : Range) (exclusive : Bool) (told : Answer) (old new : List Entry) → LockAnswered me file range exclusive told old new → W old new
  follow-lock file range exclusive (answer.LockId id) old new left = follow-plain (entry.Locked me file range exclusive true id) old new refl left
  follow-lock file range exclusive (answer.Refused (error.LockConflict id)) old new left = follow-plain (entry.Locked me file range exclusive false id) old new refl left
  follow-lock file range exclusive (answer.Refused (error.JournalFull entries)) old new left = f.idle old new left
  follow-lock file range exclusive (answer.Refused error.NoMemory) old new left = f.idle old new left
  follow-lock file range exclusive (answer.Refused other) old new left = absurd left
  follow-lock file range exclusive other old new left = absurd left

  follow-unlock : (file : File) (id : ℕ) (told : Answer) (old new : List Entry) → UnlockAnswered me file id told old new → W old new
  follow-unlock file id (answer.Given (reply.Value (value.Flag gone))) old new left = follow-plain (entry.Unlocked me file id gone) old new refl left
  follow-unlock file id (answer.Refused (error.JournalFull entries)) old new left = f.idle old new left
  follow-unlock file id (answer.Refused error.NoMemory) old new left = f.idle old new left
  follow-unlock file id (answer.Refused other) old new left = absurd left
  follow-unlock file id other old new left = absurd left

  follow-test : (file : File) (range : Range) (write : Bool) (answered : Result (Unit {0}) CcError) (old new : List Entry) → TestLeft me file range write answered old new → W old new
  follow-test file range write (Ok done) old new left = follow-plain (entry.Tested me file range write None) old new refl left
  follow-test file range write (Err (error.LockConflict id)) old new left = follow-plain (entry.Tested me file range write (Some id)) old new refl left
  follow-test file range write (Err (error.JournalFull entries)) old new left = f.idle old new left
  follow-test file range write (Err error.NoMemory) old new left = f.idle old new left
  follow-test file range write (Err other) old new left = absurd left

  -- a call behind the test of its range
  follow-found : {A : Type 0} (file : File) (range : Range) (write : Bool) (refused : Option CcError) (Left : Result A CcError → List Entry → List Entry → Type 0) (answered : Result A CcError) (old new : List Entry) → ((between : List Entry) → Left answered between new → W between new) → FoundLeft me file range write refused Left answered old new → W old new
  follow-found file range write (Some e) Left answered old new step left = f.idle old new left.1
  follow-found file range write None Left answered old new step (inl left) = follow-test file range write (Err left.0) old new left.2
  follow-found file range write None Left answered old new step (inr left) =
      f.joins old left.0 new (follow-test file range write (Ok tt) old left.0 left.1) (step left.0 left.2)

  follow-locked : {A : Type 0} (file : File) (range : Range) (write : Bool) (refused : FileState → Option CcError) (Left : Result A CcError → List Entry → List Entry → Type 0) (answered : Result A CcError) (old new : List Entry) → Makes (call.Query (query.State file)) → ((between : List Entry) → Left answered between new → W between new) → LockedLeft u me file range write refused Left answered old new → W old new
  follow-locked file range write refused Left answered old new asks step (inl left) = follow-call (call.Query (query.State file)) (outcome.Failed left.0) old new asks left.2
  follow-locked file range write refused Left answered old new asks step (inr left) =
      f.joins old left.0 new (follow-call (call.Query (query.State file)) (outcome.Done (reply.Value (value.State left.1))) old left.0 asks left.2)
      (follow-found file range write (refused left.1) Left answered left.0 new step left.3)

  follow-levels : (levels : ℕ → ℕ) (file : File) (told : Answer) (old new : List Entry) → LevelsAnswered levels me file told old new → W old new
  follow-levels levels file (answer.Levels n) old new left = f.idle old new left.idle
  follow-levels levels file (answer.Refused error.NotCached) old new left = f.idle old new left.idle
  follow-levels levels file (answer.Refused error.NoMemory) old new left = f.idle old new left
  follow-levels levels file other old new left = absurd left

  follow-defer : (file : File) (bytes : ℕ) (retrying : Bool) (told : Answer) (old new : List Entry) → DeferAnswered me file bytes retrying told old new → W old new
  follow-defer file bytes retrying (answer.Deferred id) old new left = follow-plain (entry.Defer me id file _ retrying) old new refl left
  follow-defer file bytes retrying (answer.Refused error.NotCached) old new left = f.idle old new left.idle
  follow-defer file bytes retrying (answer.Refused error.QueueFull) old new left = f.idle old new left.idle
  follow-defer file bytes retrying (answer.Refused (error.JournalFull entries)) old new left = f.idle old new left
  follow-defer file bytes retrying (answer.Refused error.NoMemory) old new left = f.idle old new left
  follow-defer file bytes retrying (answer.Refused other) old new left = absurd left
  follow-defer file bytes retrying other old new left = absurd left

  follow-post : (answered : Result (Option ℕ) CcError) (old new : List Entry) → PostLeft u me answered old new → W old new
  follow-post (Ok (Some id)) old new left = f.idle old new left.idle
  follow-post (Ok None) old new left = f.idle old new left.idle
  follow-post (Err (error.JournalFull entries)) old new left = f.idle old new left
  follow-post (Err error.NoMemory) old new left = f.idle old new left
  follow-post (Err other) old new left = absurd left

  follow-posted : (ids : List ℕ) (old new : List Entry) → PostsLeft u me ids old new → W old new
  follow-posted [] old new left = follow-post (Ok None) old new left
  follow-posted (id ∷ ids) old new left = f.joins old left.0 new (follow-post (Ok (Some id)) old left.0 left.1) (follow-posted ids left.0 new left.2)

  follow-unposted : (ids : List ℕ) (e : CcError) (old new : List Entry) → PostsRefused u me ids e old new → W old new
  follow-unposted [] e old new left = follow-post (Err e) old new left
  follow-unposted (id ∷ ids) e old new left = f.joins old left.0 new (follow-post (Ok (Some id)) old left.0 left.1) (follow-unposted ids e left.0 new left.2)

  follow-posts : (told : Answer) (old new : List Entry) → PostsAnswered u me told old new → W old new
  follow-posts (answer.Posts ids) old new left = follow-posted ids old new left
  follow-posts (answer.Refused e) old new left = follow-unposted left.0 e old new left.1
  follow-posts other old new left = absurd left

  -- ---- noncached reads and writes

  -- a call that is refused for its place or its length
  follow-misshapen : (file : File) (it : Call) (refusal e : CcError) (old new : List Entry) → Makes it → ((holds : List Hold) → IsFiled holds me (Some file.stream) it (file_of it)) → MisshapenLeft me file it refusal e old new → W old new
  follow-misshapen file it refusal error.NoMemory old new makes filed left = f.idle old new left
  follow-misshapen file it refusal (error.JournalFull entries) old new makes filed left = f.idle old new left
  follow-misshapen file it refusal error.NotCached old new makes filed left =
      follow-only _ old new left.1 (λ past. f.called it (outcome.Failed error.NotCached) left.0 (Some file.stream) past makes (filed _))
  follow-misshapen file it refusal e old new makes filed left =
      follow-only _ old new left.2 (λ past. f.called it (outcome.Failed e) left.0 (Some file.stream) past makes (filed _))

  module _ (file : File) (reads : (page : ℕ) → Makes (call.NcRead file page)) where
    -- the page behind one that came short
    follow-untold : (pages : List ℕ) (old new : List Entry) → IsUntold u me file pages old new → W old new
    follow-untold [] old new left = f.idle old new left
    follow-untold (page ∷ pages) old new left = follow-call (call.NcRead file page) (outcome.Done (reply.Read left.0)) old new (reads page) left.1

    follow-pages-read : (pages bytes : List ℕ) (old new : List Entry) → PagesRead u me file pages bytes old new → W old new
    follow-pages-read [] bytes old new left = f.idle old new left.1
    follow-pages-read (page ∷ pages) [] old new left = follow-call (call.NcRead file page) (outcome.Done (reply.Read [])) old new (reads page) left
    follow-pages-read (page ∷ pages) (byte ∷ bytes) old new (inl left) =
        f.joins old left.0 new (follow-call (call.NcRead file page) (outcome.Done (reply.Read left.1)) old left.0 (reads page) left.5)
        (follow-pages-read pages left.2 left.0 new left.6)
    follow-pages-read (page ∷ pages) (byte ∷ bytes) old new (inr left) =
        f.joins old left.0 new (follow-call (call.NcRead file page) (outcome.Done (reply.Read (byte ∷ bytes))) old left.0 (reads page) left.2)
        (follow-untold pages left.0 new left.3)

    follow-reads-refused : (page done : ℕ) (e : CcError) (old new : List Entry) → PageReadsRefused u me file page done e old new → W old new
    follow-reads-refused page zero e old new left = follow-call (call.NcRead file page) (outcome.Failed e) old new (reads page) left.1
    follow-reads-refused page (suc done) e old new left =
        f.joins old left.0 new (follow-call (call.NcRead file page) (outcome.Done (reply.Read left.1)) old left.0 (reads page) left.3)
        (follow-reads-refused (suc page) done e left.0 new left.4)

    follow-aligned-read : (at len : ℕ) (answered : Result (List ℕ) (ℕ × CcError)) (old new : List Entry) → AlignedReadLeft u me file at len answered old new → W old new
    follow-aligned-read at zero (Ok bytes) old new left = f.idle old new left.1
    follow-aligned-read at zero (Err failed) old new left = f.idle old new left.1
    follow-aligned-read at (suc len) (Ok bytes) old new left = follow-pages-read (pages_from at (suc len)) bytes old new left
    follow-aligned-read at (suc len) (Err failed) old new left = follow-reads-refused (at / 4096) failed.0 failed.1 old new left.1

    follow-shaped-read : (at len : ℕ) (shape : Option CcError) (answered : Result (List ℕ) (ℕ × CcError)) (old new : List Entry) → ShapedReadLeft u me file at len shape answered old new → W old new
    follow-shaped-read at len None answered old new left = follow-aligned-read at len answered old new left
    follow-shaped-read at len (Some refusal) (Ok bytes) old new left = absurd left
    follow-shaped-read at len (Some refusal) (Err failed) old new left =
        follow-misshapen file (call.NcRead file (at / 4096)) refusal failed.1 old new (reads (at / 4096)) (λ holds. refl) left.1

    follow-nc-left : (at len : ℕ) (answered : Result (List ℕ) (ℕ × CcError)) (old new : List Entry) → NcReadLeft u me file at len answered old new → W old new
    follow-nc-left at len answered old new left = follow-shaped-read at len (shape_refusal at len) answered old new left

    follow-nc-read : (at len : ℕ) (told : Answer) (old new : List Entry) → NcReadAnswered u me file at len told old new → W old new
    follow-nc-read at len (answer.Given (reply.Read bytes)) old new left = follow-nc-left at len (Ok bytes) old new left
    follow-nc-read at len (answer.NcRefused done cause) old new left = follow-nc-left at len (Err (done, cause)) old new left
    follow-nc-read at len other old new left = absurd left

  module _ (file : File) (writes : (it : Call) → IsNcWriteOf file it → Makes it) where
    follow-transferred : (page : ℕ) (bytes : List ℕ) (end : End) (old new : List Entry) → StoreIsTransferred me file page bytes end old new → W old new
    follow-transferred page bytes end old new is =
        let place : Page = record { stream = file.stream; page = page } in
        let store : Call = call.NcStore file page bytes in
        let stored : List Entry = entry.Call me is.nth (Some file.stream) store (outcome.Done reply.Unit) ∷ (is.earlier ++ old) in
        let begun : List Entry = entry.WriteBegin me place ∷ stored in
        subst (W old) (sym is.grew)
        (f.joins old (is.waiting ++ begun) _
        (f.joins old begun (is.waiting ++ begun)
        (f.joins old stored begun
        (f.joins old (is.earlier ++ old) stored (follow-works (Calls store) is.earlier old is.works) (f.called store (outcome.Done reply.Unit) is.nth (Some file.stream) (is.earlier ++ old) (writes store refl) refl))
        (f.plain (entry.WriteBegin me place) stored refl (same-pass me)))
        (follow-others is.waiting begun is.quiet))
        (f.plain (entry.WriteEnd me place end) (is.waiting ++ begun) refl (same-pass me)))

    -- the page that was stored goes out again, or not
    follow-tidied : (page : ℕ) (base during old : List Entry) → EachOwn me (TakesOut me file page base) during old → W old (during ++ old)
    follow-tidied page base [] old each = follow-others [] old tt
    follow-tidied page base (e ∷ during) old each =
        f.joins old (during ++ old) (e ∷ (during ++ old)) (follow-tidied page base during old each.1) (by (is_mine me e) refl)
      where
        out : (x : Entry) → x ≡ entry.PageOut me (record { stream = file.stream; page = page }) → is_plain x ≡ true
        out x is = rw is refl

        by : (b : Bool) → is_mine me e ≡ b → W (during ++ old) (e ∷ (during ++ old))
        by true own = f.plain e (during ++ old) (out e (each.0 own).0) own
        by false other = f.idle (during ++ old) (e ∷ (during ++ old)) (record { during = e ∷ []; grew = refl; others = (other, tt) })

    follow-page-written : (page : ℕ) (bytes : List ℕ) (count : ℕ) (old new : List Entry) → IsPageWritten me file page bytes count old new → W old new
    follow-page-written page bytes count old new is =
        let it : Call = call.NcWrite file page in
        let tidy : List Entry = is.tidied ++ is.ended in
        let e : Entry = entry.Call me is.nth (Some file.stream) it (outcome.Done reply.Unit) in
        subst (W old) (sym is.grew)
        (f.joins old is.ended (is.later ++ (e ∷ tidy)) (follow-transferred page bytes how.Good old is.ended is.transferred)
        (f.joins is.ended (e ∷ tidy) (is.later ++ (e ∷ tidy))
        (f.joins is.ended tidy (e ∷ tidy) (follow-tidied page is.ended is.tidied is.ended is.goes_out) (f.called it (outcome.Done reply.Unit) is.nth (Some file.stream) tidy (writes it refl) refl))
        (follow-others is.later (e ∷ tidy) is.quiet)))

    follow-transfer-refused : (page : ℕ) (bytes : List ℕ) (e : CcError) (old new : List Entry) → TransferRefused me file page bytes e old new → W old new
    follow-transfer-refused page bytes (error.WriteFault failed) old new left =
        f.joins old left.1 new (follow-transferred page bytes how.Failed old left.1 left.3)
        (follow-only _ left.1 new left.4 (λ past. f.called (call.NcWrite file page) (outcome.Failed (error.WriteFault failed)) left.2 (Some file.stream) past (writes (call.NcWrite file page) refl) refl))
    follow-transfer-refused page bytes error.NoMemory old new left =
        f.joins old left.0 new (follow-transferred page bytes how.NoMemory old left.0 left.1) (f.idle left.0 new left.2)
    follow-transfer-refused page bytes other old new left = absurd left

    follow-page-refused : (page : ℕ) (bytes : List ℕ) (e : CcError) (old new : List Entry) → PageRefused u me file page bytes e old new → W old new
    follow-page-refused page bytes e old new (inl is) = follow-call (call.NcWrite file page) (outcome.Failed e) old new (writes (call.NcWrite file page) refl) is.1
    follow-page-refused page bytes e old new (inr is) = follow-transfer-refused page bytes e old new is

    follow-pages-written : (page done : ℕ) (bytes : List ℕ) (count : ℕ) (old new : List Entry) → PagesWritten me file page done bytes count old new → W old new
    follow-pages-written page zero bytes count old new left = f.idle old new left.1
    follow-pages-written page (suc done) bytes count old new left =
        f.joins old left.0 new (follow-page-written page (take 4096 bytes) left.1 old left.0 left.4)
        (follow-pages-written (suc page) done (drop 4096 bytes) left.2 left.0 new left.5)

    follow-aligned-write : (at : ℕ) (bytes : List ℕ) (answered : Result ℕ (ℕ × CcError)) (old new : List Entry) → AlignedWriteLeft u me file at bytes answered old new → W old new
    follow-aligned-write at [] (Ok count) old new left = f.idle old new left.1
    follow-aligned-write at [] (Err failed) old new left = f.idle old new left.1
    follow-aligned-write at (byte ∷ bytes) (Ok count) old new left =
        follow-pages-written (at / 4096) (length (byte ∷ bytes) / 4096) (byte ∷ bytes) count old new left
    follow-aligned-write at (byte ∷ bytes) (Err failed) old new left =
        f.joins old left.1.0 new (follow-pages-written (at / 4096) failed.0 (byte ∷ bytes) left.1.1 old left.1.0 left.1.2)
        (follow-page-refused (at / 4096 + failed.0) (take 4096 (drop (4096 * failed.0) (byte ∷ bytes))) failed.1 left.1.0 new left.1.3)

    follow-shaped-write : (at : ℕ) (bytes : List ℕ) (shape : Option CcError) (answered : Result ℕ (ℕ × CcError)) (old new : List Entry) → ShapedWriteLeft u me file at bytes shape answered old new → W old new
    follow-shaped-write at bytes None answered old new left = follow-aligned-write at bytes answered old new left
    follow-shaped-write at bytes (Some refusal) (Ok count) old new left = absurd left
    follow-shaped-write at bytes (Some refusal) (Err failed) old new left =
        follow-misshapen file (call.NcWrite file (at / 4096)) refusal failed.1 old new (writes (call.NcWrite file (at / 4096)) refl) (λ holds. refl) left.1

    follow-nc-write : (at : ℕ) (bytes : List ℕ) (told : Answer) (old new : List Entry) → NcWriteAnswered u me file at bytes told old new → W old new
    follow-nc-write at bytes (answer.Count count) old new left = follow-shaped-write at bytes (shape_refusal at (length bytes)) (Ok count) old new left
    follow-nc-write at bytes (answer.NcRefused done cause) old new left = follow-shaped-write at bytes (shape_refusal at (length bytes)) (Err (done, cause)) old new left
    follow-nc-write at bytes other old new left = absurd left

  -- ---- reads of the shim along their paths

  module _ (file : File) (reads : (it : Call) → IsReadOf file it → Makes it) where
    -- a path whose holds are made and read by such calls
    record GoesBy (path : HoldPath) : Type 0 where
      made : (r : Range) → Makes (path.make r)
      looked : (id : ℕ) (r : Range) → Makes (path.look id r)

    follow-end : (id : ℕ) (old new : List Entry) → CallLeft u me (call.EndHold id) (outcome.Done reply.Unit) old new → W old new
    follow-end id old new left = follow-call (call.EndHold id) (outcome.Done reply.Unit) old new (reads (call.EndHold id) tt) left

    follow-part : (path : HoldPath) → GoesBy path → (r : Range) (bytes : List ℕ) (old new : List Entry) → PartRead u me path r bytes old new → W old new
    follow-part path by r bytes old new left =
        f.joins old left.1 new (follow-call (path.make r) (outcome.Done (reply.Hold left.0)) old left.1 (by.made r) left.3)
        (f.joins left.1 left.2 new (follow-call (path.look left.0 r) (outcome.Done (reply.Read bytes)) left.1 left.2 (by.looked left.0 r) left.4) (follow-end left.0 left.2 new left.5))

    follow-part-refused : (path : HoldPath) → GoesBy path → (r : Range) (e : CcError) (old new : List Entry) → PartRefused u me path r e old new → W old new
    follow-part-refused path by r e old new (inl left) = follow-call (path.make r) (outcome.Failed e) old new (by.made r) left
    follow-part-refused path by r e old new (inr left) =
        f.joins old left.1 new (follow-call (path.make r) (outcome.Done (reply.Hold left.0)) old left.1 (by.made r) left.3)
        (f.joins left.1 left.2 new (follow-call (path.look left.0 r) (outcome.Failed e) left.1 left.2 (by.looked left.0 r) left.4) (follow-end left.0 left.2 new left.5))

    follow-parts : (path : HoldPath) → GoesBy path → (rs : List Range) (answered : Result (List ℕ) CcError) (old new : List Entry) → PartsLeft u me path rs answered old new → W old new
    follow-parts path by [] (Ok bytes) old new left = f.idle old new left.1
    follow-parts path by [] (Err e) old new left = absurd left
    follow-parts path by (r ∷ rs) (Ok bytes) old new left =
        f.joins old left.0 new (follow-part path by r left.1 old left.0 left.4) (follow-parts path by rs (Ok left.2) left.0 new left.5)
    follow-parts path by (r ∷ rs) (Err e) old new (inl left) = follow-part-refused path by r e old new left
    follow-parts path by (r ∷ rs) (Err e) old new (inr left) =
        f.joins old left.0 new (follow-part path by r left.1 old left.0 left.2) (follow-parts path by rs (Err e) left.0 new left.3)

    follow-state : (state : FileState) (old new : List Entry) → CallLeft u me (call.Query (query.State file)) (outcome.Done (reply.Value (value.State state))) old new → W old new
    follow-state state old new left = follow-call (call.Query (query.State file)) (outcome.Done (reply.Value (value.State state))) old new (reads (call.Query (query.State file)) refl) left

    follow-held-parts : (path : HoldPath) → GoesBy path → (parts : Range → List Range) (at len : ℕ) (answered : Result (List ℕ) CcError) (old new : List Entry) → HeldPartsLeft u me file path parts at len answered old new → W old new
    follow-held-parts path by parts at len (Ok bytes) old new left =
        f.joins old left.0 new (follow-state left.1 old left.0 left.2) (follow-parts path by _ (Ok bytes) left.0 new left.3)
    follow-held-parts path by parts at len (Err e) old new (inl left) = follow-call (call.Query (query.State file)) (outcome.Failed e) old new (reads (call.Query (query.State file)) refl) left
    follow-held-parts path by parts at len (Err e) old new (inr left) =
        f.joins old left.0 new (follow-state left.1 old left.0 left.2) (follow-parts path by _ (Err e) left.0 new left.3)

    by-maps : GoesBy (mapped_path file)
    by-maps = record { made = λ r. reads (call.Map file r.from _) refl; looked = λ id r. reads (call.MappedRead id r.from _) tt }

    by-pins : GoesBy (pinned_path file)
    by-pins = record { made = λ r. reads (call.PinRead file r.from _ false) refl; looked = λ id r. reads (call.PinnedRead id r.from _) tt }

    by-chains : GoesBy (descriptor_path file)
    by-chains = record { made = λ r. reads (call.MdlRead file r.from _) refl; looked = λ id r. reads (call.MdlBytes id r.from _) tt }

    follow-path : (path : ReadPath) (at len : ℕ) (answered : Result (List ℕ) CcError) (old new : List Entry) → PathReadLeft u me file path at len answered old new → W old new
    follow-path Cached at len (Ok bytes) old new left = follow-call (call.CopyRead file at len true) (outcome.Done (reply.Read bytes)) old new (reads (call.CopyRead file at len true) refl) left
    follow-path Cached at len (Err e) old new left = follow-call (call.CopyRead file at len true) (outcome.Failed e) old new (reads (call.CopyRead file at len true) refl) left
    follow-path Mapped at len answered old new left = follow-held-parts (mapped_path file) by-maps parts_of at len answered old new left
    follow-path Pinned at len answered old new left = follow-held-parts (pinned_path file) by-pins parts_of at len answered old new left
    follow-path Descriptor at len answered old new left = follow-held-parts (descriptor_path file) by-chains whole_part at len answered old new left
    follow-path Noncached at len (Ok bytes) old new left = follow-nc-left file (λ page. reads (call.NcRead file page) refl) at len (Ok bytes) old new left
    follow-path Noncached at len (Err e) old new left = follow-nc-left file (λ page. reads (call.NcRead file page) refl) at len (Err (left.0, e)) old new left.1

    follow-read-tested : (path : ReadPath) (at len : ℕ) (long misaligned : Option CcError) (answered : Result (List ℕ) CcError) (old new : List Entry) → ReadTested u me file path at len long misaligned answered old new → W old new
    follow-read-tested path at len (Some e) misaligned answered old new left = f.idle old new left.1
    follow-read-tested path at len None (Some e) answered old new left = f.idle old new left.1
    follow-read-tested path at len None None answered old new left = follow-path path at len answered old new left

    follow-read : (path : ReadPath) (at len : ℕ) (told : Answer) (old new : List Entry) → LockedReadAnswered u me file path at len told old new → W old new
    follow-read path at len (answer.Given (reply.Read bytes)) old new left =
        follow-locked {A = List ℕ} file (tested_range at len) false (read_refused path at len) (ReadTested u me file path at len (too_long_for path len) (misaligned_for path at len)) (Ok bytes) old new (reads (call.Query (query.State file)) refl)
        (λ between one. follow-read-tested path at len (too_long_for path len) (misaligned_for path at len) (Ok bytes) between new one) left
    follow-read path at len (answer.Refused e) old new left =
        follow-locked {A = List ℕ} file (tested_range at len) false (read_refused path at len) (ReadTested u me file path at len (too_long_for path len) (misaligned_for path at len)) (Err e) old new (reads (call.Query (query.State file)) refl)
        (λ between one. follow-read-tested path at len (too_long_for path len) (misaligned_for path at len) (Err e) between new one) left
    follow-read path at len other old new left = absurd left

  -- ---- writes of the shim

  module _ (file : File) (writes : (it : Call) → IsWriteOf file it → Makes it) where
    all-append : (first rest : List Call) → AllByRecursion Makes first → AllByRecursion Makes rest → AllByRecursion Makes (first ++ rest)
    all-append [] rest one two = two
    all-append (it ∷ first) rest one two = (one.0, all-append first rest one.1 two)

    all-zeroed : (span : ℕ → Range) (ks : List ℕ) → AllByRecursion Makes (map (λ k. call.Zero file (span k)) ks)
    all-zeroed span [] = tt
    all-zeroed span (k ∷ ks) = (writes (call.Zero file (span k)) refl, all-zeroed span ks)

    all-extended : (allocation size : ℕ) (b : Bool) → AllByRecursion Makes (if b then call.SetSizes file allocation size ∷ [] else [])
    all-extended allocation size true = (writes (call.SetSizes file allocation size) refl, tt)
    all-extended allocation size false = tt

    all-written : (at : ℕ) (bytes : List ℕ) (state : FileState) → AllByRecursion Makes (write_calls file at bytes state)
    all-written at bytes state =
        all-append (extensions file state (at + length bytes)) (zeroings file state.sizes.valid at ++ call.CopyWrite file at bytes ∷ [])
        (all-extended _ _ (nat_lt state.sizes.size (at + length bytes)))
        (all-append (zeroings file state.sizes.valid at) (call.CopyWrite file at bytes ∷ []) (all-zeroed _ _) (writes (call.CopyWrite file at bytes) refl, tt))

    follow-told-write : (at : ℕ) (bytes : List ℕ) (state : FileState) (answered : Result (Unit {0}) CcError) (old new : List Entry) → ToldWriteLeft u me file at bytes state answered old new → W old new
    follow-told-write at bytes state answered old new (inl left) = f.idle old new left.2
    follow-told-write at bytes state answered old new (inr left) = follow-calls (write_calls file at bytes state) answered old new (all-written at bytes state) left.1

    follow-write-tested : (at : ℕ) (bytes : List ℕ) (long : Bool) (answered : Result (Unit {0}) CcError) (old new : List Entry) → WriteTested u me file at bytes long answered old new → W old new
    follow-write-tested at bytes true answered old new left = f.idle old new left.1
    follow-write-tested at bytes false answered old new (inl left) = follow-call (call.Query (query.State file)) (outcome.Failed left.0) old new (writes (call.Query (query.State file)) refl) left.2
    follow-write-tested at bytes false answered old new (inr left) =
        f.joins old left.0 new (follow-call (call.Query (query.State file)) (outcome.Done (reply.Value (value.State left.1))) old left.0 (writes (call.Query (query.State file)) refl) left.2)
        (follow-told-write at bytes left.1 answered left.0 new left.3)

    follow-write : (at : ℕ) (bytes : List ℕ) (told : Answer) (old new : List Entry) → LockedWriteAnswered u me file at bytes told old new → W old new
    follow-write at bytes (answer.Given reply.Unit) old new left =
        follow-locked {A = Unit {0}} file (tested_range at (length bytes)) true (write_refused at (length bytes)) (WriteTested u me file at bytes (nat_lt 1048576 (length bytes))) (Ok tt) old new (writes (call.Query (query.State file)) refl)
        (λ between one. follow-write-tested at bytes (nat_lt 1048576 (length bytes)) (Ok tt) between new one) left
    follow-write at bytes (answer.Refused e) old new left =
        follow-locked {A = Unit {0}} file (tested_range at (length bytes)) true (write_refused at (length bytes)) (WriteTested u me file at bytes (nat_lt 1048576 (length bytes))) (Err e) old new (writes (call.Query (query.State file)) refl)
        (λ between one. follow-write-tested at bytes (nat_lt 1048576 (length bytes)) (Err e) between new one) left
    follow-write at bytes other old new left = absurd left

  -- ---- updates, settles and checkpoints, of which it is said as a whole

  -- the update is answered as the line is
  pub follow-update : (file : File) (at : ℕ) (bytes : List ℕ) (told : Answer) (old new : List Entry) → Makes (call.Query (query.State file)) → ((answered : Result ℕ CcError) (first last : List Entry) → IsToldSo told answered → UpdateLeft u me file at bytes answered first last → W first last) → LockedUpdateAnswered u me file at bytes told old new → W old new
  follow-update file at bytes (answer.NewLsn lsn) old new asks updates left =
      follow-locked {A = ℕ} file (tested_range at (length bytes)) true (update_refused at (length bytes)) (UpdateLeft u me file at bytes) (Ok lsn) old new asks (λ between one. updates (Ok lsn) between new refl one) left
  follow-update file at bytes (answer.Refused e) old new asks updates left =
      follow-locked {A = ℕ} file (tested_range at (length bytes)) true (update_refused at (length bytes)) (UpdateLeft u me file at bytes) (Err e) old new asks (λ between one. updates (Err e) between new refl one) left
  follow-update file at bytes other old new asks updates left = absurd left

  follow-settle : (file : File) (told : Answer) (old new : List Entry) → ((answered : Result FileState CcError) (first last : List Entry) → SettleLeft u me file answered first last → W first last) → SettleAnswered u me file told old new → W old new
  follow-settle file (answer.Given (reply.Value (value.State state))) old new settles left = settles (Ok state) old new left
  follow-settle file (answer.Refused e) old new settles left = settles (Err e) old new left
  follow-settle file other old new settles left = absurd left

  follow-checkpoint : (streams handle : ℕ) (told : Answer) (old new : List Entry) → ((answered : Result ℕ CcError) (first last : List Entry) → CheckpointLeft u me streams handle answered first last → W first last) → CheckpointAnswered u me streams handle told old new → W old new
  follow-checkpoint streams handle (answer.NewLsn lsn) old new logs left = logs (Ok lsn) old new left
  follow-checkpoint streams handle (answer.Refused e) old new logs left = logs (Err e) old new left
  follow-checkpoint streams handle other old new logs left = absurd left

  -- ---- the parts of an update, of a settle and of a checkpoint

  module _ (file : File) (at : ℕ) (bytes : List ℕ) (updates : (it : Call) → IsUpdateOf file it → Makes it)
      (appended : (handle lsn : ℕ) (past : List Entry) → W past (entry.Append me handle lsn (update_record_of_file file at bytes) ∷ past)) where
    follow-recorded-update : (id lsn : ℕ) (answered : Result ℕ CcError) (old new : List Entry) → RecordedLeft u me id at bytes lsn answered old new → W old new
    follow-recorded-update id lsn (Ok told) old new left =
        follow-calls (call.PinnedWrite id at bytes ∷ call.SetDirty id (Some lsn) ∷ []) (Ok tt) old new
        (updates (call.PinnedWrite id at bytes) tt, (updates (call.SetDirty id (Some lsn)) tt, tt)) left.1
    follow-recorded-update id lsn (Err e) old new left =
        follow-calls (call.PinnedWrite id at bytes ∷ call.SetDirty id (Some lsn) ∷ []) (Err e) old new
        (updates (call.PinnedWrite id at bytes) tt, (updates (call.SetDirty id (Some lsn)) tt, tt)) left.1

    follow-logged-update : (id handle : ℕ) (answered : Result ℕ CcError) (old new : List Entry) → LoggedLeft u me file id at bytes handle answered old new → W old new
    follow-logged-update id handle answered old new (inl left) = follow-append handle (update_record_of_file file at bytes) (answer.Refused left.0) old new (appended handle) left.2
    follow-logged-update id handle answered old new (inr left) =
        f.joins old left.0 new (follow-append handle (update_record_of_file file at bytes) (answer.NewLsn left.1) old left.0 (appended handle) left.2)
        (follow-recorded-update id left.1 answered left.0 new left.3)

    follow-told-update : (id : ℕ) (log : Option ℕ) (valid : ℕ) (answered : Result ℕ CcError) (old new : List Entry) → ToldUpdateLeft u me file id at bytes log valid answered old new → W old new
    follow-told-update id None valid answered old new left = f.idle old new left.1
    follow-told-update id (Some handle) valid answered old new (inl left) = f.idle old new left.2
    follow-told-update id (Some handle) valid answered old new (inr left) = follow-logged-update id handle answered old new left.1

    follow-pinned-update : (id : ℕ) (answered : Result ℕ CcError) (old new : List Entry) → PinnedUpdateLeft u me file id at bytes answered old new → W old new
    follow-pinned-update id answered old new (inl left) = follow-call (call.Query (query.State file)) (outcome.Failed left.0) old new (updates (call.Query (query.State file)) refl) left.2
    follow-pinned-update id answered old new (inr left) =
        f.joins old left.0 new (follow-call (call.Query (query.State file)) (outcome.Done (reply.Value (value.State left.1))) old left.0 (updates (call.Query (query.State file)) refl) left.2)
        (follow-told-update id left.1.log left.1.sizes.valid answered left.0 new left.3)

    pub follow-update-left : (answered : Result ℕ CcError) (old new : List Entry) → UpdateLeft u me file at bytes answered old new → W old new
    follow-update-left answered old new (inl left) =
        follow-call (call.PinRead file at (length bytes) true) (outcome.Failed left.0) old new (updates (call.PinRead file at (length bytes) true) refl) left.2
    follow-update-left answered old new (inr left) =
        f.joins old left.1 new
        (follow-call (call.PinRead file at (length bytes) true) (outcome.Done (reply.Hold left.0)) old left.1 (updates (call.PinRead file at (length bytes) true) refl) left.3)
        (f.joins left.1 left.2 new (follow-pinned-update left.0 answered left.1 left.2 left.4)
        (follow-call (call.EndHold left.0) (outcome.Done reply.Unit) left.2 new (updates (call.EndHold left.0) tt) left.5))

  -- a settle: the state of the stream, a flush of it, a write of its record and a sync
  module _ (file : File) (asks : Makes (call.Query (query.State file))) (flushes : Makes (call.Flush file None))
      (wrote : (told : FileState) (begun old flushed front : List Entry) (size valid : ℕ) (end : End) → StreamHasFlushed u me file told begun old flushed → IsIdle me flushed front →
      valid ≡ min (valid_of (history begun file.stream)) (valid_of (history front file.stream)) → W front (entry.Record me file.stream size valid end ∷ front)) where
    follow-has-flushed : (told : FileState) (begun old new : List Entry) → StreamHasFlushed u me file told begun old new → W old new
    follow-has-flushed told begun old new is =
        f.joins old is.stated new (follow-call (call.Query (query.State file)) (outcome.Done (reply.Value (value.State told))) old is.stated asks is.state)
        (f.joins is.stated begun new (f.idle is.stated begun is.idle) (follow-call (call.Flush file None) (outcome.Done reply.Unit) begun new flushes is.flush))

    module _ (told : FileState) (begun old flushed : List Entry) (has : StreamHasFlushed u me file told begun old flushed) where
      follow-wrote : (size valid : ℕ) (end : End) (new : List Entry) → WroteRecord me file.stream (valid_of (history begun file.stream)) size valid end flushed new → W flushed new
      follow-wrote size valid end new is =
          f.joins flushed is.front new (f.idle flushed is.front is.before)
          (f.joins is.front (entry.Record me file.stream size valid end ∷ is.front) new (wrote told begun old flushed is.front size valid end has is.before is.its_valid)
          (f.idle (entry.Record me file.stream size valid end ∷ is.front) new is.after))

      follow-synced : (size valid : ℕ) (end : End) (new : List Entry) → SyncedRecord me file.stream (valid_of (history begun file.stream)) size valid end flushed new → W flushed new
      follow-synced size valid end new is =
          f.joins flushed is.written new (follow-wrote size valid how.Good is.written is.wrote) (follow-plain (entry.Sync me file.stream end) is.written new refl is.synced)

      follow-some : (end : End) (new : List Entry) → WroteSome me file.stream (valid_of (history begun file.stream)) end flushed new → W flushed new
      follow-some end new is = follow-wrote is.size is.valid end new is.wrote

      follow-synced-some : (end : End) (new : List Entry) → SyncedSome me file.stream (valid_of (history begun file.stream)) end flushed new → W flushed new
      follow-synced-some end new is = follow-synced is.size is.valid end new is.synced

      follow-stopped : (e : CcError) (new : List Entry) → RecordStopped me file.stream (valid_of (history begun file.stream)) e flushed new → W flushed new
      follow-stopped (error.JournalFull entries) new (inl idle) = f.idle flushed new idle
      follow-stopped (error.JournalFull entries) new (inr wrote_it) = follow-some how.Good new wrote_it
      follow-stopped error.NoMemory new (inl (inl idle)) = f.idle flushed new idle
      follow-stopped error.NoMemory new (inl (inr wrote_it)) = follow-some how.NoMemory new wrote_it
      follow-stopped error.NoMemory new (inr (inl wrote_it)) = follow-some how.Good new wrote_it
      follow-stopped error.NoMemory new (inr (inr synced)) = follow-synced-some how.NoMemory new synced
      follow-stopped (error.WriteFault page) new left = by left.1
        where
          by : WroteSome me file.stream (valid_of (history begun file.stream)) how.Failed flushed new ⊎ SyncedSome me file.stream (valid_of (history begun file.stream)) how.Failed flushed new → W flushed new
          by (inl wrote_it) = follow-some how.Failed new wrote_it
          by (inr synced) = follow-synced-some how.Failed new synced
      follow-stopped other new left = absurd left

    pub follow-settle-left : (answered : Result FileState CcError) (old new : List Entry) → SettleLeft u me file answered old new → W old new
    follow-settle-left (Ok state) old new is =
        f.joins old is.flushed new (follow-has-flushed is.told is.begun old is.flushed is.has_flushed)
        (follow-synced is.told is.begun old is.flushed is.has_flushed state.sizes.size state.sizes.valid how.Good new is.recorded)
    follow-settle-left (Err e) old new (inl left) = follow-call (call.Query (query.State file)) (outcome.Failed e) old new asks left
    follow-settle-left (Err e) old new (inr (inl is)) =
        f.joins old is.stated new (follow-call (call.Query (query.State file)) (outcome.Done (reply.Value (value.State is.told))) old is.stated asks is.state)
        (f.joins is.stated is.begun new (f.idle is.stated is.begun is.idle) (follow-call (call.Flush file None) (outcome.Failed e) is.begun new flushes is.flush))
    follow-settle-left (Err e) old new (inr (inr is)) =
        f.joins old is.flushed new (follow-has-flushed is.told is.begun old is.flushed is.has_flushed)
        (follow-stopped is.told is.begun old is.flushed is.has_flushed e new is.stopped)

  -- a checkpoint: the table, the states of the first streams, the syncs of some of them, an append and a flush of the log
  module _ (streams handle : ℕ) (asks : (it : Call) → IsCheckpointOf it → Makes it) where
    follow-asked : (s : ℕ) (state : Option FileState) (old new : List Entry) → StateAsked u me s state old new → W old new
    follow-asked s (Some state) old new left = follow-call (call.Query (query.State (first_object s))) (outcome.Done (reply.Value (value.State state))) old new (asks (call.Query (query.State (first_object s))) tt) left
    follow-asked s None old new left = follow-call (call.Query (query.State (first_object s))) (outcome.Failed error.NotCached) old new (asks (call.Query (query.State (first_object s))) tt) left

    pub follow-states : (n : ℕ) (found : List ℕ) (old new : List Entry) → StatesAsked u me handle n found old new → W old new
    follow-states zero found old new left = f.idle old new left.1
    follow-states (suc n) found old new left = f.joins old left.2 new (follow-states n left.0 old left.2 left.4) (follow-asked n left.1 left.2 new left.5)

    all-syncs : (found : List ℕ) → AllByRecursion Makes (map sync_call found)
    all-syncs [] = tt
    all-syncs (s ∷ found) = (asks (sync_call s) tt, all-syncs found)

    follow-record-flushed : (lsn : ℕ) (answered : Result ℕ CcError) (old new : List Entry) → RecordFlushed u me handle lsn answered old new → W old new
    follow-record-flushed lsn (Ok told) old new left = follow-log-flush {T = Unit {0}} handle lsn (Ok tt) old new left.1
    follow-record-flushed lsn (Err e) old new left = follow-log-flush {T = Unit {0}} handle lsn (Err e) old new left

    -- the states were not asked to the end
    pub follow-asking : (e : CcError) (old new : List Entry) → AskingStopped u me handle streams e old new ⊎ StateRefused u me handle streams e old new → W old new
    follow-asking e old new (inl stopped) = follow-states stopped.n stopped.found old new stopped.asked
    follow-asking e old new (inr refused) =
        f.joins old refused.between new (follow-states refused.n refused.found old refused.between refused.asked)
        (follow-call (call.Query (query.State (first_object refused.n))) (outcome.Failed e) refused.between new (asks (call.Query (query.State (first_object refused.n))) tt) refused.refused)

    module _ (appended : (rows : List DirtyRow) (lsn : ℕ) (past : List Entry) → W past (entry.Append me handle lsn (record_of_rows rows) ∷ past)) where
      follow-record-logged : (rows : List DirtyRow) (answered : Result ℕ CcError) (old new : List Entry) → RecordLogged u me handle (record_of_rows rows) answered old new → W old new
      follow-record-logged rows answered old new (inl left) = follow-append handle (record_of_rows rows) (answer.Refused left.0) old new (appended rows) left.2
      follow-record-logged rows answered old new (inr left) =
          f.joins old left.0 new (follow-append handle (record_of_rows rows) (answer.NewLsn left.1) old left.0 (appended rows) left.2) (follow-record-flushed left.1 answered left.0 new left.3)

      follow-synced-logged : (found : List ℕ) (rows : List DirtyRow) (answered : Result ℕ CcError) (old new : List Entry) → SyncedLogged u me handle found (record_of_rows rows) answered old new → W old new
      follow-synced-logged found rows answered old new (inl left) = follow-calls (map sync_call found) (Err left.0) old new (all-syncs found) left.2
      follow-synced-logged found rows answered old new (inr left) =
          f.joins old left.0 new (follow-calls (map sync_call found) (Ok tt) old left.0 (all-syncs found) left.1) (follow-record-logged rows answered left.0 new left.2)

      follow-rows-logged : (rows : List DirtyRow) (answered : Result ℕ CcError) (old new : List Entry) → RowsLogged u me streams handle rows answered old new → W old new
      follow-rows-logged rows answered old new (inl left) = follow-asking left.0 old new left.2
      follow-rows-logged rows answered old new (inr left) =
          f.joins old left.0 new (follow-states streams left.1 old left.0 left.2) (follow-synced-logged left.1 rows answered left.0 new left.3)

      pub follow-checkpoint-left : (answered : Result ℕ CcError) (old new : List Entry) → CheckpointLeft u me streams handle answered old new → W old new
      follow-checkpoint-left answered old new (inl left) = follow-call (call.Query (query.DirtyPages handle)) (outcome.Failed left.0) old new (asks (call.Query (query.DirtyPages handle)) tt) left.2
      follow-checkpoint-left answered old new (inr left) =
          f.joins old left.0 new (follow-call (call.Query (query.DirtyPages handle)) (outcome.Done (reply.Rows left.1)) old left.0 (asks (call.Query (query.DirtyPages handle)) tt) left.2)
          (follow-rows-logged left.1 answered left.0 new left.3)

  -- ---- lines

  -- What is to be known of an action: that its calls are of the kind; of an append, an update, a settle and a checkpoint what is said of them.
  abbrev pub Admits : Action → Type 0
  Admits (action.Initialise file sizes quota temporary) = Makes (call.Initialise file sizes quota temporary)
  Admits (action.Uninitialise file truncate) = Makes (call.Uninitialise file truncate)
  Admits (action.CopyRead file at len wait) = Makes (call.CopyRead file at len wait)
  Admits (action.CopyWrite file at bytes) = Makes (call.CopyWrite file at bytes)
  Admits (action.Zero file span) = Makes (call.Zero file span)
  Admits (action.Map file at len word) = Makes (call.Map file at len)
  Admits (action.PinRead file at len word exclusive) = Makes (call.PinRead file at len exclusive)
  Admits (action.PinMapped word exclusive) = (id : ℕ) → Makes (call.PinMapped id exclusive)
  Admits (action.PreparePin file at len word zeroed exclusive) = Makes (call.PreparePin file at len zeroed exclusive)
  Admits (action.HeldRead word at len) = ((id : ℕ) → Makes (call.MappedRead id at len)) × ((id : ℕ) → Makes (call.PinnedRead id at len))
  Admits (action.PinnedWrite word at bytes) = (id : ℕ) → Makes (call.PinnedWrite id at bytes)
  Admits (action.SetDirty word lsn) = (id : ℕ) → Makes (call.SetDirty id lsn)
  Admits (action.Unpin word) = (id : ℕ) → Makes (call.EndHold id)
  Admits (action.Repin word made) = (id : ℕ) → Makes (call.Repin id)
  Admits (action.UnpinRepinned word through) = ((id : ℕ) → Makes (call.EndHold id)) × ((file : File) (span : Option Range) → Makes (call.Flush file span))
  Admits (action.MdlRead file at len word) = Makes (call.MdlRead file at len)
  Admits (action.MdlWrite file at len word) = Makes (call.MdlWrite file at len)
  Admits (action.MdlBytes word at len) = (id : ℕ) → Makes (call.MdlBytes id at len)
  Admits (action.MdlStore word at bytes) = (id : ℕ) → Makes (call.MdlStore id at bytes)
  Admits (action.MdlDone word) = (id : ℕ) → Makes (call.EndHold id)
  Admits (action.MdlAbort word) = (id : ℕ) → Makes (call.EndHold id)
  Admits (action.SetSizes file allocation size) = Makes (call.SetSizes file allocation size)
  Admits (action.Query asked) = Makes (call.Query asked)
  Admits (action.Flush file span) = Makes (call.Flush file span)
  Admits (action.Purge file span) = Makes (call.Purge file span)
  Admits (action.Discard file span) = Makes (call.Discard file span)
  Admits (action.NcRead file at len) = (page : ℕ) → Makes (call.NcRead file page)
  Admits (action.NcWrite file at bytes) = (it : Call) → IsNcWriteOf file it → Makes it
  Admits (action.Read file path at len) = (it : Call) → IsReadOf file it → Makes it
  Admits (action.Write file at bytes) = (it : Call) → IsWriteOf file it → Makes it
  Admits (action.Update file at bytes) = Makes (call.Query (query.State file)) × ((answered : Result ℕ CcError) (first last : List Entry) → UpdateLeft u me file at bytes answered first last → W first last)
  Admits (action.Settle file) = (answered : Result FileState CcError) (first last : List Entry) → SettleLeft u me file answered first last → W first last
  Admits (action.Checkpoint streams handle) = (answered : Result ℕ CcError) (first last : List Entry) → CheckpointLeft u me streams handle answered first last → W first last
  Admits (action.SetLog file handle) = Makes (call.SetLog file handle)
  Admits (action.Append handle bytes) = (lsn : ℕ) (past : List Entry) → W past (entry.Append me handle lsn bytes ∷ past)
  Admits (action.SetGranularity file bytes) = Makes (call.SetGranularity file bytes)
  Admits (action.SetAttributes file no_read_ahead no_write_behind) = Makes (call.SetAttributes file no_read_ahead no_write_behind)
  Admits (action.SetThreshold file pages) = Makes (call.SetThreshold file pages)
  Admits (action.AskAhead file at len) = Makes (call.AskAhead file at len)
  Admits action.AheadStep = (request : Request) → Makes (call.AheadStep request)
  Admits (action.AsyncRead file at len) = Makes (call.CopyRead file at len false)
  Admits action.Complete = (file : File) (at len : ℕ) → Makes (call.CopyRead file at len true)
  Admits other = Unit {0}

  pub follow-served : (bindings : List Binding) (asked : Action) (told : Answer) (old new : List Entry) → Admits asked → Served u me bindings asked told old new → W old new
  follow-served bindings (action.Initialise file sizes quota temporary) told old new admits left = follow-answered (call.Initialise file sizes quota temporary) told old new admits left
  follow-served bindings (action.Uninitialise file truncate) told old new admits left = follow-answered (call.Uninitialise file truncate) told old new admits left
  follow-served bindings (action.CopyRead file at len wait) told old new admits left = follow-answered (call.CopyRead file at len wait) told old new admits left
  follow-served bindings (action.CopyWrite file at bytes) told old new admits left = follow-answered (call.CopyWrite file at bytes) told old new admits left
  follow-served bindings (action.Zero file span) told old new admits left = follow-answered (call.Zero file span) told old new admits left
  follow-served bindings (action.Map file at len word) told old new admits left = follow-answered (call.Map file at len) told old new admits left
  follow-served bindings (action.PinRead file at len word exclusive) told old new admits left = follow-answered (call.PinRead file at len exclusive) told old new admits left
  follow-served bindings (action.PinMapped word exclusive) told old new admits left = follow-hold-line bindings word is_map (λ id. call.PinMapped id exclusive) told old new admits left
  follow-served bindings (action.PreparePin file at len word zeroed exclusive) told old new admits left = follow-answered (call.PreparePin file at len zeroed exclusive) told old new admits left
  follow-served bindings (action.HeldRead word at len) told old new admits left = follow-held-read bindings word at len (hold_named bindings word is_map) told old new admits.0 admits.1 left
  follow-served bindings (action.PinnedWrite word at bytes) told old new admits left = follow-hold-line bindings word is_pin (λ id. call.PinnedWrite id at bytes) told old new admits left
  follow-served bindings (action.SetDirty word lsn) told old new admits left = follow-hold-line bindings word is_pin (λ id. call.SetDirty id lsn) told old new admits left
  follow-served bindings (action.Unpin word) told old new admits left = follow-hold-line bindings word (λ its_kind. is_map its_kind || is_pin its_kind) (λ id. call.EndHold id) told old new admits left
  follow-served bindings (action.Repin word made) told old new admits left = follow-hold-line bindings word is_pin (λ id. call.Repin id) told old new admits left
  follow-served bindings (action.UnpinRepinned word through) told old new admits left = follow-unrepin bindings word through told old new admits.0 admits.1 left
  follow-served bindings (action.MdlRead file at len word) told old new admits left = follow-answered (call.MdlRead file at len) told old new admits left
  follow-served bindings (action.MdlWrite file at len word) told old new admits left = follow-answered (call.MdlWrite file at len) told old new admits left
  follow-served bindings (action.MdlBytes word at len) told old new admits left = follow-hold-line bindings word is_read_chain (λ id. call.MdlBytes id at len) told old new admits left
  follow-served bindings (action.MdlStore word at bytes) told old new admits left = follow-hold-line bindings word is_write_chain (λ id. call.MdlStore id at bytes) told old new admits left
  follow-served bindings (action.MdlDone word) told old new admits left = follow-hold-line bindings word (λ its_kind. is_read_chain its_kind || is_write_chain its_kind) (λ id. call.EndHold id) told old new admits left
  follow-served bindings (action.MdlAbort word) told old new admits left = follow-hold-line bindings word is_write_chain (λ id. call.EndHold id) told old new admits left
  follow-served bindings (action.SetSizes file allocation size) told old new admits left = follow-answered (call.SetSizes file allocation size) told old new admits left
  follow-served bindings (action.Query asked) told old new admits left = follow-answered (call.Query asked) told old new admits left
  follow-served bindings (action.Flush file span) told old new admits left = follow-answered (call.Flush file span) told old new admits left.left
  follow-served bindings (action.Purge file span) told old new admits left = follow-answered (call.Purge file span) told old new admits left
  follow-served bindings (action.Discard file span) told old new admits left = follow-answered (call.Discard file span) told old new admits left
  follow-served bindings (action.NcRead file at len) told old new admits left = follow-nc-read file admits at len told old new left
  follow-served bindings (action.NcWrite file at bytes) told old new admits left = follow-nc-write file admits at bytes told old new left
  follow-served bindings (action.Read file path at len) told old new admits left = follow-read file admits path at len told old new left
  follow-served bindings (action.Write file at bytes) told old new admits left = follow-write file admits at bytes told old new left
  follow-served bindings (action.Update file at bytes) told old new admits left = follow-update file at bytes told old new admits.0 (λ answered first last so one. admits.1 answered first last one) left
  follow-served bindings (action.Lock file span exclusive) told old new admits left = follow-lock file span exclusive told old new left
  follow-served bindings (action.Unlock file id) told old new admits left = follow-unlock file id told old new left
  follow-served bindings (action.Levels file) told old new admits left = follow-levels _ file told old new left
  follow-served bindings (action.Settle file) told old new admits left = follow-settle file told old new admits left
  follow-served bindings (action.Checkpoint streams handle) told old new admits left = follow-checkpoint streams handle told old new admits left
  follow-served bindings (action.SetLog file handle) told old new admits left = follow-answered (call.SetLog file handle) told old new admits left
  follow-served bindings (action.Append handle bytes) told old new admits left = follow-append handle bytes told old new admits left
  follow-served bindings (action.LogFlush handle lsn) told old new admits left = follow-flushed handle lsn told old new left
  follow-served bindings (action.SetGranularity file bytes) told old new admits left = follow-answered (call.SetGranularity file bytes) told old new admits left
  follow-served bindings (action.SetAttributes file no_read_ahead no_write_behind) told old new admits left = follow-answered (call.SetAttributes file no_read_ahead no_write_behind) told old new admits left
  follow-served bindings (action.SetThreshold file pages) told old new admits left = follow-answered (call.SetThreshold file pages) told old new admits left
  follow-served bindings (action.Defer file bytes retrying) told old new admits left = follow-defer file bytes retrying told old new left
  follow-served bindings action.Post told old new admits left = follow-posts told old new left
  follow-served bindings (action.AskAhead file at len) told old new admits left = follow-answered (call.AskAhead file at len) told old new admits left
  follow-served bindings action.AheadStep told old new admits left = follow-ahead left.0 told old new admits left.1
  follow-served bindings (action.AsyncRead file at len) told old new admits left = follow-started file at len told old new admits left
  follow-served bindings action.Complete told old new admits left = follow-completed admits told old new left
  follow-served bindings action.Tick told old new admits left = follow-tick told old new left
  follow-served bindings other told old new admits left = absurd left

  -- a line of one call, or of one append, that was refused
  pub follow-refused : (bindings : List Binding) (asked : Action) (told : Answer) (old new : List Entry) → (is_one_call asked && was_refused told) ≡ true → ((it : Call) (e : CcError) → SaysOf it (outcome.Failed e)) → Served u me bindings asked told old new → W old new
  follow-refused bindings (action.Uninitialise file truncate) (answer.Refused e) old new is says left = follow-failed (call.Uninitialise file truncate) e old new (says (call.Uninitialise file truncate) e) left
  follow-refused bindings (action.CopyWrite file at bytes) (answer.Refused e) old new is says left = follow-failed (call.CopyWrite file at bytes) e old new (says (call.CopyWrite file at bytes) e) left
  follow-refused bindings (action.Zero file span) (answer.Refused e) old new is says left = follow-failed (call.Zero file span) e old new (says (call.Zero file span) e) left
  follow-refused bindings (action.PreparePin file at len word zeroed exclusive) (answer.Refused e) old new is says left =
      follow-failed (call.PreparePin file at len zeroed exclusive) e old new (says (call.PreparePin file at len zeroed exclusive) e) left
  follow-refused bindings (action.PinnedWrite word at bytes) (answer.Refused e) old new is says left = follow-refused-hold bindings word is_pin (λ id. call.PinnedWrite id at bytes) e old new says left
  follow-refused bindings (action.MdlStore word at bytes) (answer.Refused e) old new is says left = follow-refused-hold bindings word is_write_chain (λ id. call.MdlStore id at bytes) e old new says left
  follow-refused bindings (action.SetDirty word lsn) (answer.Refused e) old new is says left = follow-refused-hold bindings word is_pin (λ id. call.SetDirty id lsn) e old new says left
  follow-refused bindings (action.SetSizes file allocation size) (answer.Refused e) old new is says left = follow-failed (call.SetSizes file allocation size) e old new (says (call.SetSizes file allocation size) e) left
  follow-refused bindings (action.Discard file span) (answer.Refused e) old new is says left = follow-failed (call.Discard file span) e old new (says (call.Discard file span) e) left
  follow-refused bindings (action.SetLog file handle) (answer.Refused e) old new is says left = follow-failed (call.SetLog file handle) e old new (says (call.SetLog file handle) e) left
  follow-refused bindings (action.Append handle bytes) (answer.Refused e) old new is says left = follow-append-refused handle e old new left
  follow-refused bindings asked told old new is says left = absurd (cc is)

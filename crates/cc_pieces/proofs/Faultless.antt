-- A line whose journal shows no failure is answered none.
use Rattle.std.specs.Prelude.{◌≡◌, ℕ, zero, suc, ◌+◌, ◌*◌, ◌/◌, ◌%◌, Bool, true, false, cond, ◌==◌, ◌&&◌, ◌||◌, nat_lt, Result, map, List, [], ◌∷◌, ◌++◌, length, take, drop, Err, refl, ◌⊎◌, if◌then◌else◌, Ok}
use Rattle.std.specs.declared.option.Option.{Option}
use Rattle.std.specs.declared.option.Option.TheVariants.{Some, None}
use Rattle.std.specs.List.{AllByRecursion, count_by, list_any}
use Rattle.std.proofs.Common.{sym, ap, subst, ◌∙◌, inl, inr}
use Rattle.std.proofs.lemmas.Option.{same_Some}
use Rattle.cc_entry.specs.Place.{File, Page, Range}
use Rattle.cc_entry.specs.Kinds.{is_map, is_pin, is_repin, is_read_chain, is_write_chain}
use Rattle.cc_entry.specs.declared.answer.Answer.{Answer}
use Rattle.cc_entry.specs.declared.answer.Answer.TheVariants as answer
use Rattle.cc_entry.specs.declared.answer.LineReply.{LineReply}
use Rattle.cc_entry.specs.declared.call.Call.{Call}
use Rattle.cc_entry.specs.declared.call.Call.TheVariants as call
use Rattle.cc_entry.specs.declared.query.Query.TheVariants as query
use Rattle.cc_entry.specs.declared.entry.End.{End}
use Rattle.cc_entry.specs.declared.entry.End.TheVariants as how
use Rattle.cc_entry.specs.declared.entry.Entry.{Entry}
use Rattle.cc_entry.specs.declared.entry.Entry.TheVariants as entry
use Rattle.cc_entry.specs.declared.place.DirtyRow.{DirtyRow}
use Rattle.cc_entry.specs.declared.place.Request.{Request}
use Rattle.cc_entry.specs.declared.error.CcError.{CcError}
use Rattle.cc_entry.specs.declared.error.CcError.TheVariants as error
use Rattle.cc_entry.specs.declared.hold.HoldKind.{HoldKind}
use Rattle.cc_entry.specs.declared.reply.Outcome.TheVariants as outcome
use Rattle.cc_entry.specs.declared.reply.Reply.TheVariants as reply
use Rattle.cc_entry.specs.declared.query.Value.TheVariants as value
use Rattle.cc_script.specs.declared.script.Action.{Action}
use Rattle.cc_script.specs.declared.script.Action.TheVariants as action
use Rattle.cc_format.specs.declared.record.StreamRecord.{StreamRecord}
use Rattle.cc_model.specs.Allowed.{is_fault}
use Rattle.cc_model.specs.Faults.{Fault, fault_of, is_failed}
use Rattle.cc_model.specs.Holds.{range_held}
use Rattle.cc_model.specs.Setup.{Setup}
use Rattle.cc_effects.specs.Calls.{CallLeft, IsFaulted}
use Rattle.cc_effects.specs.LogCalls.{AppendRefused, FlushRefused}
use Rattle.cc_effects.specs.Moments.{PlacedOnly, own}
use Rattle.cc_effects.specs.Noncached.{MisshapenLeft, PageReadsRefused, PageRefused, ShapedReadLeft, ShapedWriteLeft, TransferRefused, shape_refusal}
use Rattle.cc_effects.specs.PageWrites.{BecameOfAll, NotLogged, NotWritten, PageWrite, Skipped, TickLeft, Written, has_end, is_end_of, is_failed_page}
use Rattle.cc_effects.specs.Repins.{UnpinLeft}
use Rattle.cc_model.specs.Passes.{HasSeen, is_mine, is_same_page}
use Rattle.cc_script.specs.declared.script.ReadPath.{ReadPath}
use Rattle.cc_vacb.specs.Levels.{levels_of}
use Rattle.cc_records.specs.Left.{LoadLeft, RecordStopped, SettleLeft, SyncedSome, WroteSome}
use Rattle.cc_pieces.specs.Answered.{AppendAnswered, CallAnswered, LevelsAnswered, LogFlushAnswered, DeferAnswered, PostsAnswered, PostsRefused, NcReadAnswered, NcWriteAnswered, SettleAnswered, TickAnswered, AheadAnswered, StartAnswered, CompletionAnswered, bytes_outcome}
use Rattle.cc_pieces.specs.Bindings.{Binding, OnHold, hold_named}
use Rattle.cc_pieces.specs.Faultless.{is_faulty, shows_fault, tells_fault}
use Rattle.cc_pieces.specs.HoldLines.{HeldReadBy, HoldLine, UnpinAnswered, UnrepinLine}
use Rattle.cc_pieces.specs.Served.{Served}
use Rattle.cc_pieces.specs.Shim.{CallsLeft}
use Rattle.cc_pieces.specs.Checkpoints.{AskingStopped, CheckpointAnswered, RecordLogged, RowsLogged, StateRefused, SyncedLogged, first_object, record_of_rows, sync_call}
use Rattle.cc_pieces.specs.Locks.{LockAnswered, LockedReadAnswered, LockedUpdateAnswered, LockedWriteAnswered, UnlockAnswered}
use Rattle.cc_pieces.proofs.Grown.{grew-call, grew-only, grew-then}
use Rattle.cc_pieces.proofs.ShimLines.{Follows, FollowsTests, calm-faultless, told-read, told-update, told-write}

-- no entry of a stretch shows a failure
abbrev pub ShowsNone : List Entry → Type 0
ShowsNone past = AllByRecursion (λ e. shows_fault e ≡ false) past

pub none-front : (later past : List Entry) → ShowsNone (later ++ past) → ShowsNone past
none-front [] past none = none
none-front (e ∷ later) past none = none-front later past none.1

none-head : (later past : List Entry) → ShowsNone (later ++ past) → ShowsNone later
none-head [] past none = tt
none-head (e ∷ later) past none = (none.0, none-head later past none.1)

failed-end : (how : End) (b : Bool) (it fault : Fault) → (if b && is_failed how then Some it else None) ≡ Some fault → is_failed how ≡ true
failed-end how.Good true it fault is = absurd (cc is)
failed-end how.Good false it fault is = absurd (cc is)
failed-end how.Failed b it fault is = refl
failed-end how.NoMemory true it fault is = absurd (cc is)
failed-end how.NoMemory false it fault is = absurd (cc is)

-- an entry that tells a fault of its pass shows it
fault-shown : (me : ℕ) (stop : Entry) (fault : Fault) → fault_of me stop ≡ Some fault → shows_fault stop ≡ true
fault-shown me (entry.FillFailed pass page) fault is = refl
fault-shown me (entry.WriteEnd pass page how) fault is = failed-end how (pass == me) _ fault is
fault-shown me (entry.Sync pass stream how) fault is = failed-end how (pass == me) _ fault is
fault-shown me (entry.LogFailed pass handle) fault is = refl
fault-shown me other fault is = absurd (cc is)

-- an entry that shows a failure stands in no such stretch
not-shown : (e : Entry) (later earlier : List Entry) → ShowsNone (later ++ (e ∷ earlier)) → shows_fault e ≡ true → ⊥
not-shown e later earlier none shown = absurd (cc ((none-front later (e ∷ earlier) none).0, shown))

only-not-shown : (me : ℕ) (e : Entry) (old new : List Entry) → PlacedOnly me e old new → ShowsNone new → shows_fault e ≡ true → ⊥
only-not-shown me e old new only none shown = not-shown e only.later (only.earlier ++ old) (subst ShowsNone only.grew none) shown

not-faulted : (me : ℕ) (it : Call) (e : CcError) (old new : List Entry) → IsFaulted me it e old new → ShowsNone new → ⊥
not-faulted me it e old new is none =
    let front : ShowsNone (is.earlier ++ old) = (none-front is.placed.later _ (subst ShowsNone is.placed.grew none)).1 in
    let earlier : ShowsNone is.earlier = none-head is.earlier old front in
    not-shown is.stop is.stopped.since is.stopped.before (subst ShowsNone is.stopped.split earlier) (fault-shown me is.stop is.told.fault is.told.shown)

pub failed-tells-none : (u : Setup) (me : ℕ) (it : Call) (e : CcError) (old new : List Entry) → CallLeft u me it (outcome.Failed e) old new → ShowsNone new → is_fault e ≡ false
failed-tells-none u me it (error.ReadFault page) old new left none = absurd (not-faulted me it (error.ReadFault page) old new left none)
failed-tells-none u me it (error.WriteFault page) old new left none = absurd (not-faulted me it (error.WriteFault page) old new left none)
failed-tells-none u me it (error.LogFault handle) old new left none = absurd (not-faulted me it (error.LogFault handle) old new left none)
failed-tells-none u me it other old new left none = refl

pub answered-none : (u : Setup) (me : ℕ) (it : Call) (told : Answer) (old new : List Entry) → CallAnswered u me it told old new → ShowsNone new → tells_fault told ≡ false
answered-none u me it (answer.Given r) old new left none = refl
answered-none u me it (answer.Refused e) old new left none = failed-tells-none u me it e old new left none
answered-none u me it other old new left none = absurd left

and-false : (b : Bool) → (b && false) ≡ false
and-false true = refl
and-false false = refl

-- what a pass placed in such a stretch shows none either
own-none : (me : ℕ) (during : List Entry) → ShowsNone during → ShowsNone (own me during)
own-none me [] none = tt
own-none me (e ∷ during) none = by (is_mine me e) (own-none me during none.1)
  where
    by : (b : Bool) → ShowsNone (own me during) → ShowsNone (cond b (e ∷ own me during) (own me during))
    by true rest = (none.0, rest)
    by false rest = rest

-- no transfer of a page failed there
no-failed-end : (page : Page) (ends : List Entry) → ShowsNone ends → list_any (is_end_of is_failed page) ends ≡ false
no-failed-end page [] none = refl
no-failed-end page (entry.WriteEnd pass other how ∷ ends) none =
    rw (none.0, and-false (is_same_page page other)) (no-failed-end page ends none.1)
no-failed-end page (other ∷ ends) none = no-failed-end page ends none.1

-- so no page of a tick failed
became-none : (me : ℕ) (pages : List Page) (all : List PageWrite) (during old : List Entry) → ShowsNone during → BecameOfAll me pages all during old → count_by is_failed_page all ≡ 0
became-none me [] [] during old none became = refl
became-none me [] (one ∷ all) during old none became = absurd became
became-none me (page ∷ pages) [] during old none became = absurd became
became-none me (page ∷ pages) (Written ∷ all) during old none became = became-none me pages all during old none became.1
became-none me (page ∷ pages) (Skipped ∷ all) during old none became = became-none me pages all during old none became.1
became-none me (page ∷ pages) (NotWritten ∷ all) during old none became =
    let no : has_end is_failed me page during ≡ false = no-failed-end page (own me during) (own-none me during none) in
    absurd (cc (no, became.0))
became-none me (page ∷ pages) (NotLogged ∷ all) during old none became =
    absurd (not-shown (entry.LogFailed me became.0.handle) became.0.after became.0.before (subst ShowsNone became.0.split none) refl)

pub tick-none : (me : ℕ) (told : Answer) (old new : List Entry) → TickAnswered me told old new → ShowsNone new → tells_fault told ≡ false
tick-none me (answer.Ticked tick) old new left none =
    let during : ShowsNone left.during = none-head left.during _ (subst ShowsNone left.scanned.grew none) in
    rw (left.failed, became-none me tick.picked left.ends left.during _ during left.became) refl
tick-none me (answer.Refused e) old new left none = by e left
  where
    by : (e : CcError) → TickLeft me (Err e) old new → is_fault e ≡ false
    by (error.JournalFull entries) left = refl
    by error.NoMemory left = refl
    by other left = absurd left
tick-none me other old new left none = absurd left

pub step-none : (u : Setup) (me : ℕ) (taken : Option Request) (told : Answer) (old new : List Entry) → AheadAnswered u me taken told old new → ShowsNone new → tells_fault told ≡ false
step-none u me taken (answer.Stepped step) old new left none = refl
step-none u me None (answer.Refused e) old new left none = absurd left
step-none u me (Some request) (answer.Refused e) old new left none = failed-tells-none u me (call.AheadStep request) e old new left none
step-none u me taken other old new left none = absurd left

started-none : (u : Setup) (me : ℕ) (file : File) (at len : ℕ) (told : Answer) (old new : List Entry) → StartAnswered u me file at len told old new → ShowsNone new → tells_fault told ≡ false
started-none u me file at len (answer.Started start) old new left none = refl
started-none u me file at len (answer.Refused error.QueueFull) old new left none = refl
started-none u me file at len (answer.Refused (error.NotResident page)) old new left none = absurd left
started-none u me file at len (answer.Refused e) old new left none = failed-tells-none u me (call.CopyRead file at len false) e old new left none
started-none u me file at len other old new left none = absurd left

completed-none : (u : Setup) (me : ℕ) (told : Answer) (old new : List Entry) → CompletionAnswered u me told old new → ShowsNone new → tells_fault told ≡ false
completed-none u me (answer.Completed None) old new left none = refl
completed-none u me (answer.Completed (Some done)) old new left none = by done.answer left
  where
    by : (o : Result (List ℕ) CcError) → CallLeft u me (call.CopyRead done.file done.at done.len true) (bytes_outcome o) old new → is_faulty o ≡ false
    by (Ok bytes) left = refl
    by (Err e) left = failed-tells-none u me (call.CopyRead done.file done.at done.len true) e old new left none
completed-none u me other old new left none = absurd left

append-none : (u : Setup) (me handle : ℕ) (bytes : List ℕ) (told : Answer) (old new : List Entry) → AppendAnswered u me handle bytes told old new → ShowsNone new → tells_fault told ≡ false
append-none u me handle bytes (answer.NewLsn lsn) old new left none = refl
append-none u me handle bytes (answer.Refused e) old new left none = by e left
  where
    by : (e : CcError) → AppendRefused u me handle e old new → is_fault e ≡ false
    by (error.LogFault failed) left = absurd (only-not-shown me _ old new left.2.1 none refl)
    by (error.NoLog missing) left = refl
    by (error.LogFull full) left = refl
    by (error.JournalFull entries) left = refl
    by error.NoMemory left = refl
    by other left = absurd left
append-none u me handle bytes other old new left none = absurd left

log-flush-none : (u : Setup) (me handle lsn : ℕ) (told : Answer) (old new : List Entry) → LogFlushAnswered u me handle lsn told old new → ShowsNone new → tells_fault told ≡ false
log-flush-none u me handle lsn (answer.Given reply.Unit) old new left none = refl
log-flush-none u me handle lsn (answer.Refused e) old new left none = by e left
  where
    by : (e : CcError) → FlushRefused u me handle lsn e old new → is_fault e ≡ false
    by (error.LogFault failed) left = absurd (only-not-shown me _ old new left.2.1 none refl)
    by (error.NoLog missing) left = refl
    by (error.JournalFull entries) left = refl
    by error.NoMemory left = refl
    by other left = absurd left
log-flush-none u me handle lsn other old new left none = absurd left

-- a misshapen noncached call is refused by its shape
shape-none : (at len : ℕ) (refusal : CcError) → shape_refusal at len ≡ Some refusal → is_fault refusal ≡ false
shape-none at len refusal is = by (nat_lt 65536 len) (at % 4096 == 0 && len % 4096 == 0) is
  where
    by : (long whole : Bool) → (if long then Some (error.TooLong 65536) else (if whole then None else Some error.Unaligned)) ≡ Some refusal → is_fault refusal ≡ false
    by true whole is = ap is_fault (sym (same_Some _ refusal is))
    by false true is = absurd (cc is)
    by false false is = ap is_fault (sym (same_Some _ refusal is))

misshapen-none : (me : ℕ) (file : File) (it : Call) (refusal e : CcError) (old new : List Entry) → MisshapenLeft me file it refusal e old new → is_fault refusal ≡ false → is_fault e ≡ false
misshapen-none me file it refusal error.NoMemory old new left is = refl
misshapen-none me file it refusal (error.JournalFull entries) old new left is = refl
misshapen-none me file it refusal error.NotCached old new left is = refl
misshapen-none me file it refusal e old new left is = ap is_fault left.1 ∙ is

reads-refused-none : (u : Setup) (me : ℕ) (file : File) (page done : ℕ) (e : CcError) (old new : List Entry) → PageReadsRefused u me file page done e old new → ShowsNone new → is_fault e ≡ false
reads-refused-none u me file page zero e old new left none = failed-tells-none u me (call.NcRead file page) e old new left.1 none
reads-refused-none u me file page (suc done) e old new left none = reads-refused-none u me file (suc page) done e left.0 new left.4 none

shaped-read-none : (u : Setup) (me : ℕ) (file : File) (at len : ℕ) (shape : Option CcError) (failed : ℕ × CcError) (old new : List Entry) → shape_refusal at len ≡ shape → ShapedReadLeft u me file at len shape (Err failed) old new → ShowsNone new → is_fault failed.1 ≡ false
shaped-read-none u me file at zero None failed old new is left none = ap (λ f. is_fault f.1) left.0
shaped-read-none u me file at (suc len) None failed old new is left none = reads-refused-none u me file (at / 4096) failed.0 failed.1 old new left.1 none
shaped-read-none u me file at len (Some refusal) failed old new is left none =
    misshapen-none me file (call.NcRead file (at / 4096)) refusal failed.1 old new left.1 (shape-none at len refusal is)

nc-read-none : (u : Setup) (me : ℕ) (file : File) (at len : ℕ) (told : Answer) (old new : List Entry) → NcReadAnswered u me file at len told old new → ShowsNone new → tells_fault told ≡ false
nc-read-none u me file at len (answer.Given (reply.Read bytes)) old new left none = refl
nc-read-none u me file at len (answer.NcRefused done cause) old new left none =
    shaped-read-none u me file at len (shape_refusal at len) (done, cause) old new refl left none
nc-read-none u me file at len other old new left none = absurd left

page-refused-none : (u : Setup) (me : ℕ) (file : File) (page : ℕ) (bytes : List ℕ) (e : CcError) (old new : List Entry) → PageRefused u me file page bytes e old new → ShowsNone new → is_fault e ≡ false
page-refused-none u me file page bytes e old new (inl is) none = failed-tells-none u me (call.NcWrite file page) e old new is.1 none
page-refused-none u me file page bytes e old new (inr is) none = by e is
  where
    by : (e : CcError) → TransferRefused me file page bytes e old new → is_fault e ≡ false
    by (error.WriteFault failed) is =
        let ended : ShowsNone is.1 = none-front is.4.earlier is.1 (none-front is.4.later (entry.Call me is.2 (Some file.stream) (call.NcWrite file page) (outcome.Failed (error.WriteFault failed)) ∷ (is.4.earlier ++ is.1)) (subst ShowsNone is.4.grew none)).1 in
        absurd (cc ((subst ShowsNone is.3.grew ended).0))
    by error.NoMemory is = refl
    by other is = absurd is

shaped-write-none : (u : Setup) (me : ℕ) (file : File) (at : ℕ) (bytes : List ℕ) (shape : Option CcError) (failed : ℕ × CcError) (old new : List Entry) → shape_refusal at (length bytes) ≡ shape → ShapedWriteLeft u me file at bytes shape (Err failed) old new → ShowsNone new → is_fault failed.1 ≡ false
shaped-write-none u me file at [] None failed old new is left none = ap (λ f. is_fault f.1) left.0
shaped-write-none u me file at (byte ∷ bytes) None failed old new is left none =
    page-refused-none u me file (at / 4096 + failed.0) (take 4096 (drop (4096 * failed.0) (byte ∷ bytes))) failed.1 left.1.0 new left.1.3 none
shaped-write-none u me file at bytes (Some refusal) failed old new is left none =
    misshapen-none me file (call.NcWrite file (at / 4096)) refusal failed.1 old new left.1 (shape-none at (length bytes) refusal is)

nc-write-none : (u : Setup) (me : ℕ) (file : File) (at : ℕ) (bytes : List ℕ) (told : Answer) (old new : List Entry) → NcWriteAnswered u me file at bytes told old new → ShowsNone new → tells_fault told ≡ false
nc-write-none u me file at bytes (answer.Count count) old new left none = refl
nc-write-none u me file at bytes (answer.NcRefused done cause) old new left none =
    shaped-write-none u me file at bytes (shape_refusal at (length bytes)) (done, cause) old new refl left none
nc-write-none u me file at bytes other old new left none = absurd left

on-hold-none : (me : ℕ) (hold : Option ℕ) (Left : ℕ → Answer → List Entry → List Entry → Type 0) (told : Answer) (old new : List Entry) → ((id : ℕ) → Left id told old new → tells_fault told ≡ false) → OnHold me hold Left told old new → tells_fault told ≡ false
on-hold-none me None Left told old new step left = ap tells_fault left.0
on-hold-none me (Some id) Left told old new step left = step id left

hold-line-none : (u : Setup) (me : ℕ) (bindings : List Binding) (word : ℕ) (of_kind : HoldKind → Bool) (call_on : ℕ → Call) (told : Answer) (old new : List Entry) → HoldLine u me bindings word of_kind call_on told old new → ShowsNone new → tells_fault told ≡ false
hold-line-none u me bindings word of_kind call_on told old new left none =
    on-hold-none me (hold_named bindings word of_kind) (λ id. CallAnswered u me (call_on id)) told old new (λ id one. answered-none u me (call_on id) told old new one none) left

held-read-none : (u : Setup) (me : ℕ) (bindings : List Binding) (word at len : ℕ) (mapped : Option ℕ) (told : Answer) (old new : List Entry) → HeldReadBy u me bindings word at len mapped told old new → ShowsNone new → tells_fault told ≡ false
held-read-none u me bindings word at len (Some id) told old new left none = answered-none u me (call.MappedRead id at len) told old new left none
held-read-none u me bindings word at len None told old new left none = hold-line-none u me bindings word is_pin (λ id. call.PinnedRead id at len) told old new left none

unpin-none : (u : Setup) (me id : ℕ) (through : Bool) (e : CcError) (old new : List Entry) → UnpinLeft u me id through (outcome.Failed e) old new → ShowsNone new → is_fault e ≡ false
unpin-none u me id false e old new left none = failed-tells-none u me (call.EndHold id) e old new left none
unpin-none u me id true e old new left none =
    failed-tells-none u me (call.Flush left.1.file (Some (range_held left.1))) e left.0 new left.3 none

unrepin-none : (u : Setup) (me : ℕ) (bindings : List Binding) (word : ℕ) (through : Bool) (told : Answer) (old new : List Entry) → UnrepinLine u me bindings word through told old new → ShowsNone new → tells_fault told ≡ false
unrepin-none u me bindings word through told old new left none =
    on-hold-none me (hold_named bindings word is_repin) (UnpinAnswered u me through) told old new (λ id one. by id told one) left
  where
    by : (id : ℕ) (told : Answer) → UnpinAnswered u me through id told old new → tells_fault told ≡ false
    by id (answer.Given r) left = refl
    by id (answer.Refused e) left = unpin-none u me id through e old new left.left none
    by id other left = absurd left

-- the lists of calls of the shim: behind a call that was refused nothing but the end of its hold is told
abbrev GrewUnder : Option ℕ → List Entry → List Entry → Type 0
GrewUnder None old new = Unit {0}
GrewUnder (Some id) old new = HasSeen old new

abbrev TellsNone : Option ℕ → CcError → List Entry → List Entry → Type 0
TellsNone own e old new = ShowsNone new → is_fault e ≡ false

grew-under : (own : Option ℕ) (old new : List Entry) → HasSeen old new → GrewUnder own old new
grew-under None old new grew = tt
grew-under (Some id) old new grew = grew

under-then : (own : Option ℕ) (old between new : List Entry) → GrewUnder own old between → GrewUnder own between new → GrewUnder own old new
under-then None old between new first rest = tt
under-then (Some id) old between new first rest = grew-then old between new first rest

none-before : (id : ℕ) (e : CcError) (old between new : List Entry) → TellsNone (Some id) e old between → HasSeen between new → TellsNone (Some id) e old new
none-before id e old between new first rest none = first (none-front rest.later between (subst ShowsNone rest.grew none))

shim-none : (u : Setup) (me : ℕ) (file : File) → Follows u me file GrewUnder TellsNone
shim-none u me file = record {
  idle = λ own old new idle. grew-under own old new (record { later = idle.during; grew = idle.grew });
  joins = under-then;
  done = λ own it r old new on left. grew-under own old new (grew-call u me it (outcome.Done r) old new left);
  failed = λ own it e old new on left none. failed-tells-none u me it e old new left none;
  after = λ own e old between new first rest none. rest none;
  before = none-before;
  tested = λ own e old new calm idle none. calm-faultless e calm;
  held = λ it id old made new makes on left rest. tt;
  unheld = λ it id e old made new makes on left rest none. rest none;
  read = λ at len bytes old new left. tt;
  unread = λ at len done e old new left none. nc-read-none u me file at len (answer.NcRefused done e) old new left none;
  appended = λ own handle bytes lsn old new left. grew-under own old new (grew-only me _ old new left.1);
  unappended = λ own handle bytes e old new left none. append-none u me handle bytes (answer.Refused e) old new left none;
}

tests-none : (me : ℕ) (file : File) → FollowsTests me file GrewUnder TellsNone
tests-none me file = record {
  noted = λ range write old new only. tt;
  barred = λ range write id old new only none. refl;
}

read-none : (u : Setup) (me : ℕ) (file : File) (path : ReadPath) (at len : ℕ) (told : Answer) (old new : List Entry) → LockedReadAnswered u me file path at len told old new → ShowsNone new → tells_fault told ≡ false
read-none u me file path at len (answer.Given (reply.Read bytes)) old new left none = refl
read-none u me file path at len (answer.Refused e) old new left none =
    told-read u me file GrewUnder TellsNone (shim-none u me file) (tests-none me file) path at len (answer.Refused e) old new left none
read-none u me file path at len other old new left none = absurd left

write-none : (u : Setup) (me : ℕ) (file : File) (at : ℕ) (bytes : List ℕ) (told : Answer) (old new : List Entry) → LockedWriteAnswered u me file at bytes told old new → ShowsNone new → tells_fault told ≡ false
write-none u me file at bytes (answer.Given reply.Unit) old new left none = refl
write-none u me file at bytes (answer.Refused e) old new left none =
    told-write u me file GrewUnder TellsNone (shim-none u me file) (tests-none me file) at bytes (answer.Refused e) old new left none
write-none u me file at bytes other old new left none = absurd left

update-none : (u : Setup) (me : ℕ) (file : File) (at : ℕ) (bytes : List ℕ) (told : Answer) (old new : List Entry) → LockedUpdateAnswered u me file at bytes told old new → ShowsNone new → tells_fault told ≡ false
update-none u me file at bytes (answer.NewLsn lsn) old new left none = refl
update-none u me file at bytes (answer.Refused e) old new left none =
    told-update u me file GrewUnder TellsNone (shim-none u me file) (tests-none me file) at bytes (answer.Refused e) old new left none
update-none u me file at bytes other old new left none = absurd left

-- neither a lock nor its end goes to a disk or a log
lock-none : (me : ℕ) (file : File) (range : Range) (exclusive : Bool) (told : Answer) (old new : List Entry) → LockAnswered me file range exclusive told old new → tells_fault told ≡ false
lock-none me file range exclusive (answer.LockId id) old new left = refl
lock-none me file range exclusive (answer.Refused (error.LockConflict id)) old new left = refl
lock-none me file range exclusive (answer.Refused (error.JournalFull entries)) old new left = refl
lock-none me file range exclusive (answer.Refused error.NoMemory) old new left = refl
lock-none me file range exclusive (answer.Refused other) old new left = absurd left
lock-none me file range exclusive other old new left = absurd left

unlock-none : (me : ℕ) (file : File) (id : ℕ) (told : Answer) (old new : List Entry) → UnlockAnswered me file id told old new → tells_fault told ≡ false
unlock-none me file id (answer.Given (reply.Value (value.Flag gone))) old new left = refl
unlock-none me file id (answer.Refused (error.JournalFull entries)) old new left = refl
unlock-none me file id (answer.Refused error.NoMemory) old new left = refl
unlock-none me file id (answer.Refused other) old new left = absurd left
unlock-none me file id other old new left = absurd left

levels-none : (me : ℕ) (file : File) (told : Answer) (old new : List Entry) → LevelsAnswered levels_of me file told old new → tells_fault told ≡ false
levels-none me file (answer.Levels levels) old new left = refl
levels-none me file (answer.Refused error.NotCached) old new left = refl
levels-none me file (answer.Refused error.NoMemory) old new left = refl
levels-none me file other old new left = absurd left

-- the settling of a stream: a write of the record that failed shows it, and so does the sync behind it
wrote-shown : (me s first : ℕ) (old new : List Entry) → WroteSome me s first how.Failed old new → ShowsNone new → ⊥
wrote-shown me s first old new is none =
    not-shown (entry.Record me s is.size is.valid how.Failed) is.wrote.after.during is.wrote.front (subst ShowsNone is.wrote.after.grew none) refl

synced-shown : (me s first : ℕ) (old new : List Entry) → SyncedSome me s first how.Failed old new → ShowsNone new → ⊥
synced-shown me s first old new is none =
    only-not-shown me (entry.Sync me s how.Failed) is.synced.written new is.synced.synced none refl

stopped-none : (me s first : ℕ) (e : CcError) (old new : List Entry) → RecordStopped me s first e old new → ShowsNone new → is_fault e ≡ false
stopped-none me s first (error.JournalFull entries) old new left none = refl
stopped-none me s first error.NoMemory old new left none = refl
stopped-none me s first (error.WriteFault page) old new left none = by left.1
  where
    by : WroteSome me s first how.Failed old new ⊎ SyncedSome me s first how.Failed old new → is_fault (error.WriteFault page) ≡ false
    by (inl wrote) = absurd (wrote-shown me s first old new wrote none)
    by (inr synced) = absurd (synced-shown me s first old new synced none)
stopped-none me s first other old new left none = absurd left

-- nor is a read of a record that shows no failure told one
pub load-none : (me s : ℕ) (e : CcError) (old new : List Entry) → LoadLeft {A = Option StreamRecord} me s (Err e) old new → ShowsNone new → is_fault e ≡ false
load-none me s (error.ReadFault page) old new left none = absurd (only-not-shown me (entry.RecordFailed me s) old new left.1 none refl)
load-none me s (error.JournalFull entries) old new left none = refl
load-none me s error.NoMemory old new left none = refl
load-none me s other old new left none = absurd left

pub settle-none : (u : Setup) (me : ℕ) (file : File) (e : CcError) (old new : List Entry) → SettleLeft u me file (Err e) old new → ShowsNone new → is_fault e ≡ false
settle-none u me file e old new (inl left) none = failed-tells-none u me (call.Query (query.State file)) e old new left none
settle-none u me file e old new (inr (inl is)) none = failed-tells-none u me (call.Flush file None) e is.begun new is.flush none
settle-none u me file e old new (inr (inr is)) none = stopped-none me file.stream _ e is.flushed new is.stopped none

settled-none : (u : Setup) (me : ℕ) (file : File) (told : Answer) (old new : List Entry) → SettleAnswered u me file told old new → ShowsNone new → tells_fault told ≡ false
settled-none u me file (answer.Given (reply.Value (value.State state))) old new left none = refl
settled-none u me file (answer.Refused e) old new left none = settle-none u me file e old new left none
settled-none u me file other old new left none = absurd left

-- a checkpoint: each of its calls shows a failure that it tells
module _ (u : Setup) (me streams handle : ℕ) where
  syncs-none : (found : List ℕ) (e : CcError) (old new : List Entry) → CallsLeft u me (map sync_call found) (Err e) old new → ShowsNone new → is_fault e ≡ false
  syncs-none [] e old new left none = absurd left
  syncs-none (s ∷ found) e old new (inl left) none = failed-tells-none u me (sync_call s) e old new left none
  syncs-none (s ∷ found) e old new (inr left) none = syncs-none found e left.0 new left.2 none

  same-none : (e f : CcError) → (let told : Result ℕ CcError = Err e in told) ≡ Err f → is_fault f ≡ false → is_fault e ≡ false
  same-none e f same none = let is : f ≡ e = cc in subst (λ (e : CcError). is_fault e ≡ false) is none

  record-logged-none : (spelled : List ℕ) (e : CcError) (old new : List Entry) → RecordLogged u me handle spelled (Err e) old new → ShowsNone new → is_fault e ≡ false
  record-logged-none spelled e old new (inl left) none = same-none e left.0 left.1 (append-none u me handle spelled (answer.Refused left.0) old new left.2 none)
  record-logged-none spelled e old new (inr left) none = log-flush-none u me handle left.1 (answer.Refused e) left.0 new left.3 none

  synced-logged-none : (found spelled : List ℕ) (e : CcError) (old new : List Entry) → SyncedLogged u me handle found spelled (Err e) old new → ShowsNone new → is_fault e ≡ false
  synced-logged-none found spelled e old new (inl left) none = same-none e left.0 left.1 (syncs-none found left.0 old new left.2 none)
  synced-logged-none found spelled e old new (inr left) none = record-logged-none spelled e left.0 new left.2 none

  rows-logged-none : (rows : List DirtyRow) (e : CcError) (old new : List Entry) → RowsLogged u me streams handle rows (Err e) old new → ShowsNone new → is_fault e ≡ false
  rows-logged-none rows e old new (inl left) none = same-none e left.0 left.1 (by left.2)
    where
      by : AskingStopped u me handle streams left.0 old new ⊎ StateRefused u me handle streams left.0 old new → is_fault left.0 ≡ false
      by (inl stopped) = ap is_fault stopped.wanting
      by (inr refused) = failed-tells-none u me (call.Query (query.State (first_object refused.n))) left.0 refused.between new refused.refused none
  rows-logged-none rows e old new (inr left) none = synced-logged-none left.1 (record_of_rows rows) e left.0 new left.3 none

  checkpoint-none : (told : Answer) (old new : List Entry) → CheckpointAnswered u me streams handle told old new → ShowsNone new → tells_fault told ≡ false
  checkpoint-none (answer.NewLsn lsn) old new left none = refl
  checkpoint-none (answer.Refused e) old new (inl left) none = same-none e left.0 left.1 (failed-tells-none u me (call.Query (query.DirtyPages handle)) left.0 old new left.2 none)
  checkpoint-none (answer.Refused e) old new (inr left) none = rows-logged-none left.1 e left.0 new left.3 none
  checkpoint-none other old new left none = absurd left

-- neither a deferral nor a post goes to a disk or a log
defer-none : (me : ℕ) (file : File) (bytes : ℕ) (retrying : Bool) (told : Answer) (old new : List Entry) → DeferAnswered me file bytes retrying told old new → tells_fault told ≡ false
defer-none me file bytes retrying (answer.Deferred id) old new left = refl
defer-none me file bytes retrying (answer.Refused error.NotCached) old new left = refl
defer-none me file bytes retrying (answer.Refused error.QueueFull) old new left = refl
defer-none me file bytes retrying (answer.Refused (error.JournalFull entries)) old new left = refl
defer-none me file bytes retrying (answer.Refused error.NoMemory) old new left = refl
defer-none me file bytes retrying (answer.Refused other) old new left = absurd left
defer-none me file bytes retrying other old new left = absurd left

unposted-none : (u : Setup) (me : ℕ) (ids : List ℕ) (e : CcError) (old new : List Entry) → PostsRefused u me ids e old new → is_fault e ≡ false
unposted-none u me [] (error.JournalFull entries) old new left = refl
unposted-none u me [] error.NoMemory old new left = refl
unposted-none u me [] other old new left = absurd left
unposted-none u me (id ∷ ids) e old new left = unposted-none u me ids e left.0 new left.2

posts-none : (u : Setup) (me : ℕ) (told : Answer) (old new : List Entry) → PostsAnswered u me told old new → tells_fault told ≡ false
posts-none u me (answer.Posts ids) old new left = refl
posts-none u me (answer.Refused e) old new left = unposted-none u me left.0 e old new left.1
posts-none u me other old new left = absurd left

-- a line of a run
pub served-none : (u : Setup) (me : ℕ) (bindings : List Binding) (asked : Action) (told : Answer) (old new : List Entry) → Served u me bindings asked told old new → ShowsNone new → tells_fault told ≡ false
served-none u me bindings (action.Initialise file sizes quota temporary) told old new left none =
    answered-none u me (call.Initialise file sizes quota temporary) told old new left none
served-none u me bindings (action.Uninitialise file truncate) told old new left none = answered-none u me (call.Uninitialise file truncate) told old new left none
served-none u me bindings (action.CopyRead file at len wait) told old new left none = answered-none u me (call.CopyRead file at len wait) told old new left none
served-none u me bindings (action.CopyWrite file at bytes) told old new left none = answered-none u me (call.CopyWrite file at bytes) told old new left none
served-none u me bindings (action.Zero file span) told old new left none = answered-none u me (call.Zero file span) told old new left none
served-none u me bindings (action.Map file at len word) told old new left none = answered-none u me (call.Map file at len) told old new left none
served-none u me bindings (action.PinRead file at len word exclusive) told old new left none = answered-none u me (call.PinRead file at len exclusive) told old new left none
served-none u me bindings (action.PinMapped word exclusive) told old new left none =
    hold-line-none u me bindings word is_map (λ id. call.PinMapped id exclusive) told old new left none
served-none u me bindings (action.PreparePin file at len word zeroed exclusive) told old new left none =
    answered-none u me (call.PreparePin file at len zeroed exclusive) told old new left none
served-none u me bindings (action.HeldRead word at len) told old new left none = held-read-none u me bindings word at len (hold_named bindings word is_map) told old new left none
served-none u me bindings (action.PinnedWrite word at bytes) told old new left none =
    hold-line-none u me bindings word is_pin (λ id. call.PinnedWrite id at bytes) told old new left none
served-none u me bindings (action.SetDirty word lsn) told old new left none = hold-line-none u me bindings word is_pin (λ id. call.SetDirty id lsn) told old new left none
served-none u me bindings (action.Unpin word) told old new left none =
    hold-line-none u me bindings word (λ its_kind. is_map its_kind || is_pin its_kind) (λ id. call.EndHold id) told old new left none
served-none u me bindings (action.Repin word made) told old new left none = hold-line-none u me bindings word is_pin (λ id. call.Repin id) told old new left none
served-none u me bindings (action.UnpinRepinned word through) told old new left none = unrepin-none u me bindings word through told old new left none
served-none u me bindings (action.MdlRead file at len word) told old new left none = answered-none u me (call.MdlRead file at len) told old new left none
served-none u me bindings (action.MdlWrite file at len word) told old new left none = answered-none u me (call.MdlWrite file at len) told old new left none
served-none u me bindings (action.MdlBytes word at len) told old new left none =
    hold-line-none u me bindings word is_read_chain (λ id. call.MdlBytes id at len) told old new left none
served-none u me bindings (action.MdlStore word at bytes) told old new left none =
    hold-line-none u me bindings word is_write_chain (λ id. call.MdlStore id at bytes) told old new left none
served-none u me bindings (action.MdlDone word) told old new left none =
    hold-line-none u me bindings word (λ its_kind. is_read_chain its_kind || is_write_chain its_kind) (λ id. call.EndHold id) told old new left none
served-none u me bindings (action.MdlAbort word) told old new left none = hold-line-none u me bindings word is_write_chain (λ id. call.EndHold id) told old new left none
served-none u me bindings (action.SetSizes file allocation size) told old new left none = answered-none u me (call.SetSizes file allocation size) told old new left none
served-none u me bindings (action.Query asked) told old new left none = answered-none u me (call.Query asked) told old new left none
served-none u me bindings (action.Flush file span) told old new left none = answered-none u me (call.Flush file span) told old new left.left none
served-none u me bindings (action.Purge file span) told old new left none = answered-none u me (call.Purge file span) told old new left none
served-none u me bindings (action.Discard file span) told old new left none = answered-none u me (call.Discard file span) told old new left none
served-none u me bindings (action.NcRead file at len) told old new left none = nc-read-none u me file at len told old new left none
served-none u me bindings (action.NcWrite file at bytes) told old new left none = nc-write-none u me file at bytes told old new left none
served-none u me bindings (action.Read file path at len) told old new left none = read-none u me file path at len told old new left none
served-none u me bindings (action.Write file at bytes) told old new left none = write-none u me file at bytes told old new left none
served-none u me bindings (action.Update file at bytes) told old new left none = update-none u me file at bytes told old new left none
served-none u me bindings (action.Lock file span exclusive) told old new left none = lock-none me file span exclusive told old new left
served-none u me bindings (action.Unlock file id) told old new left none = unlock-none me file id told old new left
served-none u me bindings (action.Levels file) told old new left none = levels-none me file told old new left
served-none u me bindings (action.Settle file) told old new left none = settled-none u me file told old new left none
served-none u me bindings (action.Checkpoint streams handle) told old new left none = checkpoint-none u me streams handle told old new left none
served-none u me bindings (action.SetLog file handle) told old new left none = answered-none u me (call.SetLog file handle) told old new left none
served-none u me bindings (action.Append handle bytes) told old new left none = append-none u me handle bytes told old new left none
served-none u me bindings (action.LogFlush handle lsn) told old new left none = log-flush-none u me handle lsn told old new left none
served-none u me bindings (action.SetGranularity file bytes) told old new left none = answered-none u me (call.SetGranularity file bytes) told old new left none
served-none u me bindings (action.SetAttributes file no_read_ahead no_write_behind) told old new left none =
    answered-none u me (call.SetAttributes file no_read_ahead no_write_behind) told old new left none
served-none u me bindings (action.SetThreshold file pages) told old new left none = answered-none u me (call.SetThreshold file pages) told old new left none
served-none u me bindings (action.Defer file bytes retrying) told old new left none = defer-none me file bytes retrying told old new left
served-none u me bindings action.Post told old new left none = posts-none u me told old new left
served-none u me bindings (action.AskAhead file at len) told old new left none = answered-none u me (call.AskAhead file at len) told old new left none
served-none u me bindings action.AheadStep told old new left none = step-none u me left.0 told old new left.1 none
served-none u me bindings (action.AsyncRead file at len) told old new left none = started-none u me file at len told old new left none
served-none u me bindings action.Complete told old new left none = completed-none u me told old new left none
served-none u me bindings action.Tick told old new left none = tick-none me told old new left none
served-none u me bindings other told old new left none = absurd left

-- no answer of replies tells a fault
abbrev pub TellNone : List LineReply → Type 0
TellNone replies = AllByRecursion (λ reply. tells_fault reply.answer ≡ false) replies

pub tell-append : (first second : List LineReply) → TellNone first → TellNone second → TellNone (first ++ second)
tell-append [] second one two = two
tell-append (reply ∷ first) second one two = (one.0, tell-append first second one.1 two)

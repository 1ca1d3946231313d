-- What a line of a caller leaves is of the first streams, where its file is.
use Rattle.std.specs.Prelude.{◌≡◌, ℕ, ◌<◌, true, false, ◌&&◌, List, [], ◌∷◌, ◌++◌, Result, Ok, Err, refl}
use Rattle.std.specs.declared.option.Option.{Option}
use Rattle.std.specs.declared.option.Option.TheVariants.{Some, None}
use Rattle.std.proofs.Common.{sym, subst}
use Rattle.std.proofs.lemmas.Bool.{and_parts, eqb-true}
use Rattle.cc_entry.specs.Place.{File, Page}
use Rattle.cc_entry.specs.declared.answer.Answer.{Answer}
use Rattle.cc_entry.specs.declared.answer.Answer.TheVariants as answer
use Rattle.cc_entry.specs.declared.call.Call.{Call}
use Rattle.cc_entry.specs.declared.call.Call.TheVariants as call
use Rattle.cc_entry.specs.declared.entry.Entry.{Entry}
use Rattle.cc_entry.specs.declared.entry.Entry.TheVariants as entry
use Rattle.cc_entry.specs.declared.error.CcError.{CcError}
use Rattle.cc_entry.specs.declared.error.CcError.TheVariants as error
use Rattle.cc_entry.specs.declared.place.FileState.{FileState}
use Rattle.cc_entry.specs.declared.place.Request.{Request}
use Rattle.cc_entry.specs.declared.reply.Outcome.{Outcome}
use Rattle.cc_entry.specs.declared.reply.Outcome.TheVariants as outcome
use Rattle.cc_entry.specs.declared.reply.Reply.TheVariants as reply
use Rattle.cc_script.specs.declared.script.Action.{Action}
use Rattle.cc_script.specs.declared.script.Action.TheVariants as action
use Rattle.cc_model.specs.Acts.{file_of}
use Rattle.cc_model.specs.Allowed.{IsAllowedSoFar, MayStand}
use Rattle.cc_model.specs.History.{history}
use Rattle.cc_model.specs.Legal.{IsLegal}
use Rattle.cc_model.specs.Settings.{log_of}
use Rattle.cc_model.specs.Setup.{Setup}
use Rattle.cc_effects.specs.Asked.{Work, Calls, Writes, brings_in, is_admitted, is_file_of_page, may_sync, reaches}
use Rattle.cc_effects.specs.Calls.{CallLeft}
use Rattle.cc_effects.specs.Moments.{EachOwn, IsIdle}
use Rattle.cc_effects.specs.Places.{MayPlace}
use Rattle.cc_effects.proofs.Stretches.{each-implies}
use Rattle.cc_records.specs.Left.{LoadLeft, SettleLeft}
use Rattle.cc_pieces.specs.Answered.{AheadAnswered, CallAnswered, TickAnswered, CompletionAnswered, bytes_outcome}
use Rattle.cc_pieces.specs.Bindings.{Binding}
use Rattle.cc_pieces.specs.Served.{Served}
use Rattle.cc_pieces.proofs.Streams.{AllBelow, FitsBelow, IsBelow, IsFileBelow, call-below, done-fits, file-fits, hold-below, open-below, resident-below, sized-below}
use Rattle.cc_pieces.specs.Restarts.{RestartAnswered}
use Rattle.cc_pieces.proofs.Walks.{IsActionOn, Keeps, Walked, walk-answered, walk-call, walk-restart, walk-served, walk-settle, walk-tick, walked-idle, walked-only, walked-then, is_completion}

-- a journal is legal, and allowed so far
abbrev pub IsSound : Setup → List Entry → Type 0
IsSound u past = IsLegal u past × IsAllowedSoFar u past

pub sound-tail : (u : Setup) (e : Entry) (past : List Entry) → IsSound u (e ∷ past) → IsSound u past
unfolding IsLegal IsAllowedSoFar
sound-tail u e past sound = (sound.0.1, sound.1.2)

pub sound-front : (u : Setup) (later past : List Entry) → IsSound u (later ++ past) → IsSound u past
sound-front u [] past sound = sound
sound-front u (e ∷ later) past sound = sound-front u later past (sound-tail u e (later ++ past) sound)

pub stands : (u : Setup) (e : Entry) (past : List Entry) → IsSound u (e ∷ past) → MayStand u past e
unfolding IsAllowedSoFar
stands u e past sound = sound.1.1

-- an entry is of the first streams, where all before it are
abbrev pub StaysBelow : Setup → ℕ → List Entry → Entry → Type 0
StaysBelow u n past e = IsSound u (e ∷ past) → AllBelow n u.logs past → IsBelow n u.logs e

-- each log of a stream is one of the setup
abbrev pub HasHandles : Setup → Type 0
HasHandles u = (past : List Entry) (s handle : ℕ) → IsLegal u past → log_of (history past s) ≡ Some handle → handle < u.logs

-- what a pass placed between two moments is of the first streams, where all before it is
abbrev pub IsLeft : Setup → ℕ → ℕ → List Entry → List Entry → Type 0
IsLeft u n me old new = Walked (StaysBelow u n) me old new

pub left-idle : (u : Setup) (n me : ℕ) (old new : List Entry) → IsIdle me old new → IsLeft u n me old new
left-idle u n me old new idle = walked-idle (StaysBelow u n) me old new idle

pub left-then : (u : Setup) (n me : ℕ) (old between new : List Entry) → IsLeft u n me old between → IsLeft u n me between new → IsLeft u n me old new
left-then u n me old between new first second = walked-then (StaysBelow u n) me old between new first second

of-file : (n : ℕ) (file : Option File) (page : Page) → is_file_of_page file page ≡ true → IsFileBelow n file → page.stream < n
of-file n None page is below = absurd (cc is)
of-file n (Some file) page is below = subst (λ s. s < n) (eqb-true file.stream page.stream is) below

reached-of : (n : ℕ) (it : Call) (page : Page) (past : List Entry) → reaches it page past ≡ true → IsFileBelow n (file_of it) → page.stream < n
reached-of n it page past is below = of-file n (file_of it) page (and_parts _ _ is).0 below

reached-below : (n logs : ℕ) (it : Call) (page : Page) (past : List Entry) → AllBelow n logs past → reaches it page past ≡ true → FitsBelow n it → page.stream < n
reached-below n logs (call.AheadStep request) page past all is below =
    sized-below n logs page.stream request.at request.len page.page past all (and_parts (is_file_of_page (Some request.file) page) _ is).1
reached-below n logs (call.CopyRead file at len wait) page past all is below =
    sized-below n logs page.stream at len page.page past all (and_parts (is_file_of_page (Some file) page) _ is).1
reached-below n logs it page past all is below = reached-of n it page past is below

synced-below : (n s : ℕ) (it : Call) → may_sync (Calls it) s ≡ true → FitsBelow n it → s < n
synced-below n s (call.Flush file span) is below = subst (λ t. t < n) (eqb-true file.stream s is) below
synced-below n s other is below = absurd (cc is)

front-below : (n logs : ℕ) (later past : List Entry) → AllBelow n logs (later ++ past) → AllBelow n logs past
front-below n logs [] past all = all
front-below n logs (e ∷ later) past all = front-below n logs later past all.1

each-given : (u : Setup) (n me : ℕ) (during old : List Entry) → (AllBelow n u.logs old → EachOwn me (StaysBelow u n) during old) → EachOwn me (StaysBelow u n) during old
each-given u n me [] old given = tt
each-given u n me (e ∷ during) old given =
    ((λ is sound all. (given (front-below n u.logs during old all)).0 is sound all), each-given u n me during old (λ all. (given all).1))

-- an action names a file or a page of the first streams, or none
abbrev pub IsActionBelow : ℕ → Action → Type 0
IsActionBelow n (action.NcReadPage file page) = file.stream < n
IsActionBelow n (action.NcStorePage file page bytes) = file.stream < n
IsActionBelow n (action.NcWritePage file page) = file.stream < n
IsActionBelow n (action.Fill page) = page.stream < n
IsActionBelow n (action.Drop page) = page.stream < n
IsActionBelow n (action.WriteBegin page) = page.stream < n
IsActionBelow n (action.WriteEnd page) = page.stream < n
IsActionBelow n (action.Sync stream) = stream < n
IsActionBelow n action.Complete = Unit {0}
IsActionBelow n other = IsActionOn (λ file. file.stream < n) other

on-below : (n : ℕ) (asked : Action) → is_completion asked ≡ false → IsActionBelow n asked → IsActionOn (λ file. file.stream < n) asked
on-below n action.Complete apart below = absurd (cc apart)
on-below n (action.NcReadPage file page) apart below = tt
on-below n (action.NcStorePage file page bytes) apart below = tt
on-below n (action.NcWritePage file page) apart below = tt
on-below n (action.Fill page) apart below = tt
on-below n (action.Drop page) apart below = tt
on-below n (action.WriteBegin page) apart below = tt
on-below n (action.WriteEnd page) apart below = tt
on-below n (action.Sync stream) apart below = tt
on-below n other apart below = below

-- the file of a call that is under way is of the first streams; the writing of pages names none
abbrev IsWorkBelow : ℕ → Work → Type 0
IsWorkBelow n (Calls it) = FitsBelow n it
IsWorkBelow n (Writes pages) = Unit {0}

module _ (u : Setup) (n : ℕ) (handles : HasHandles u) where
  may-below : (me : ℕ) (work : Work) (old past : List Entry) (e : Entry) → IsWorkBelow n work → MayPlace me work old past e → StaysBelow u n past e
  may-below me (Calls it) old past (entry.PageIn pass page from_disk) below may sound all = reached-below n u.logs it page past all
      (and_parts (is_admitted it page.stream past) (reaches it page past) (and_parts (brings_in it) (is_admitted it page.stream past && reaches it page past) may).1).1 below
  may-below me (Writes pages) old past (entry.PageIn pass page from_disk) below may sound all = absurd (cc may)
  may-below me work old past (entry.PageOut pass page) below may sound all =
      resident-below n u.logs page.stream page.page past all (stands u (entry.PageOut pass page) past sound).resident
  may-below me (Calls it) old past (entry.FillFailed pass page) below may sound all =
      reached-below n u.logs it page may.1.moment (front-below n u.logs may.1.later may.1.moment (subst (AllBelow n u.logs) may.1.ends all)) may.1.holds.reached below
  may-below me (Writes pages) old past (entry.FillFailed pass page) below may sound all = absurd may
  may-below me work old past (entry.WriteBegin pass page) below may sound all =
      resident-below n u.logs page.stream page.page past all (stands u (entry.WriteBegin pass page) past sound).resident
  may-below me work old past (entry.WriteEnd pass page how) below may sound all =
      open-below n u.logs page.stream _ past all (stands u (entry.WriteEnd pass page how) past sound)
  may-below me (Calls it) old past (entry.Sync pass stream how) below may sound all = synced-below n stream it may.0 below
  may-below me (Writes pages) old past (entry.Sync pass stream how) below may sound all = absurd may
  may-below me work old past (entry.Flushed pass handle to) below may sound all = tt
  may-below me work old past (entry.LogFailed pass handle) below may sound all =
      handles past may.asks.page.stream handle (sound-tail u (entry.LogFailed pass handle) past sound).0 may.asks.log
  may-below me work old past other below may sound all = absurd may

  fits-at : (it : Call) (o : Option File) → file_of it ≡ o → IsFileBelow n o → FitsBelow n it
  fits-at it o is below = file-fits n it (subst (IsFileBelow n) (sym is) below)

  keeps-below : (me : ℕ) → Keeps u (StaysBelow u n) (λ past it. AllBelow n u.logs past → FitsBelow n it) (λ file. file.stream < n) me
  keeps-below me = record {
    works = λ it during old fits works. each-given u n me during old
        (λ all. each-implies me (MayPlace me (Calls it) old) (StaysBelow u n) (λ past e may. may-below me (Calls it) old past e (fits all) may) during old works.each);
    writes = λ pages during old works.
        each-implies me (MayPlace me (Writes pages) old) (StaysBelow u n) (λ past e may. may-below me (Writes pages) old past e tt may) during old works.each;
    called = λ it ended nth stream earlier old fits filed sound all.
        call-below n u.logs me nth stream it ended (earlier ++ old) filed (fits (front-below n u.logs earlier old all)) all;
    on_file = λ it file old on is plain all. fits-at it (Some file) is on;
    on_none = λ it old is plain all. fits-at it None is tt;
    on_hold = λ id nth stream ended hold span later front found all.
        hold-below n u.logs id stream hold front (front-below n u.logs later _ all).1 found;
    stored = λ it file nth r past on is plain sound all. done-fits n file.stream it (fits-at it (Some file) is on) (λ below. on);
    refused = λ it nth s e past plain sound all. tt;
    begun = λ file page past on sound all. on;
    ended = λ file page end past on sound all. on;
    recorded = λ file size valid end past on sound all. on;
    synced = λ file end past on sound all. on;
    out = λ file page past on sound all. on;
    scanned = λ picked past sound all. tt;
    appended = λ handle lsn bytes past sound all. tt;
    flushed = λ handle to past sound all. tt;
    log_failed = λ handle past low sound all. low;
    locked = λ file range exclusive granted id past sound all. tt;
    unlocked = λ file id gone past sound all. tt;
    tested = λ file range write conflict past sound all. tt;
    deferred = λ id file pages retrying past sound all. tt;
  }

  pub left-tick : (me : ℕ) (told : Answer) (old new : List Entry) → TickAnswered me told old new → IsLeft u n me old new
  left-tick me told old new left = walk-tick u _ _ _ keeps-below me told old new left

  pub left-call : (me : ℕ) (it : Call) (ended : Outcome) (old new : List Entry) → FitsBelow n it → CallLeft u me it ended old new → IsLeft u n me old new
  left-call me it ended old new fits left = walk-call u _ _ _ keeps-below me it ended old new (λ all. fits) left

  pub left-settle : (me : ℕ) (file : File) (answered : Result FileState CcError) (old new : List Entry) → file.stream < n → SettleLeft u me file answered old new → IsLeft u n me old new
  left-settle me file answered old new low left = walk-settle u _ _ _ keeps-below me file low answered old new left

  -- a read of a record, of which only a failed one has an entry
  pub left-load : {A : Type 0} (me s : ℕ) (answered : Result A CcError) (old new : List Entry) → s < n → LoadLeft me s answered old new → IsLeft u n me old new
  left-load me s (Ok told) old new low left = left-idle u n me old new left
  left-load me s (Err (error.ReadFault page)) old new low left = walked-only (StaysBelow u n) me (entry.RecordFailed me s) old new left.1 (λ past sound all. low)
  left-load me s (Err (error.JournalFull entries)) old new low left = left-idle u n me old new left
  left-load me s (Err error.NoMemory) old new low left = left-idle u n me old new left
  left-load me s (Err other) old new low left = absurd left

  -- the end of a restart
  pub left-restart : (handle : ℕ) (told : Answer) (old new : List Entry) → RestartAnswered u handle told old new → IsLeft u n 0 old new
  left-restart handle told old new left = walk-restart u _ _ _ keeps-below handle told old new left

  pub left-answered : (me : ℕ) (it : Call) (told : Answer) (old new : List Entry) → FitsBelow n it → CallAnswered u me it told old new → IsLeft u n me old new
  left-answered me it told old new fits left = walk-answered u _ _ _ keeps-below me it told old new (λ all. fits) left

  -- a read-ahead step, whosever the request is
  pub left-ahead : (me : ℕ) (taken : Option Request) (told : Answer) (old new : List Entry) → AheadAnswered u me taken told old new → IsLeft u n me old new
  left-ahead me None (answer.Stepped None) old new left = left-idle u n me old new left
  left-ahead me None (answer.Stepped (Some done)) old new left = absurd left
  left-ahead me None (answer.Refused e) old new left = absurd left
  left-ahead me (Some request) (answer.Stepped None) old new left = absurd left
  left-ahead me (Some request) (answer.Stepped (Some done)) old new left =
      left-call me (call.AheadStep request) (outcome.Done (reply.Whole done.whole)) old new tt left.1
  left-ahead me (Some request) (answer.Refused e) old new left = left-call me (call.AheadStep request) (outcome.Failed e) old new tt left
  left-ahead me taken other old new left = absurd left

  -- a step that completes a queued read, whosever that is
  left-completed : (me : ℕ) (told : Answer) (old new : List Entry) → CompletionAnswered u me told old new → IsLeft u n me old new
  left-completed me (answer.Completed None) old new left = left-idle u n me old new left
  left-completed me (answer.Completed (Some done)) old new left =
      left-call me (call.CopyRead done.file done.at done.len true) (bytes_outcome done.answer) old new tt left
  left-completed me other old new left = absurd left

  -- a line that names a file of the first streams, or none
  pub left-served : (me : ℕ) (bindings : List Binding) (asked : Action) (told : Answer) (old new : List Entry) → IsActionBelow n asked → Served u me bindings asked told old new → IsLeft u n me old new
  left-served me bindings (action.AskAhead file at len) told old new below left = left-answered me (call.AskAhead file at len) told old new below left
  left-served me bindings action.AheadStep told old new below left = left-ahead me left.0 told old new left.1
  left-served me bindings action.Complete told old new below left = left-completed me told old new left
  left-served me bindings asked told old new below left = walk-served u _ _ _ keeps-below me bindings asked told old new refl (on-below n asked refl below) left

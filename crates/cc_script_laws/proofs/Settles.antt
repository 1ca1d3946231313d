-- Each write of a stream's record in a run is that of a settle, which tells the lesser of two valid data lengths of moments at which
-- the stream had a map.
use Rattle.std.specs.Prelude.{◌≡◌, ℕ, suc, Bool, true, false, not, min, List, [], ◌∷◌, ◌++◌, Result, refl}
use Rattle.std.specs.declared.option.Option.{Option}
use Rattle.std.specs.declared.option.Option.TheVariants.{Some, None}
use Rattle.std.specs.List.{AllByRecursion}
use Rattle.std.proofs.Common.{ap, sym, subst, ◌∙◌, append_assoc}
use Rattle.cc_entry.specs.Place.{File}
use Rattle.cc_entry.specs.declared.answer.Answer.{Answer}
use Rattle.cc_entry.specs.declared.answer.LineReply.{LineReply}
use Rattle.cc_entry.specs.declared.call.Call.{Call}
use Rattle.cc_entry.specs.declared.call.Call.TheVariants as call
use Rattle.cc_entry.specs.declared.query.Query.TheVariants as query
use Rattle.cc_entry.specs.declared.entry.End.{End}
use Rattle.cc_entry.specs.declared.entry.Entry.{Entry}
use Rattle.cc_entry.specs.declared.entry.Entry.TheVariants as entry
use Rattle.cc_entry.specs.declared.error.CcError.{CcError}
use Rattle.cc_entry.specs.declared.error.CcError.TheVariants as error
use Rattle.cc_entry.specs.declared.place.FileState.{FileState}
use Rattle.cc_entry.specs.declared.place.Request.{Request}
use Rattle.cc_entry.specs.declared.reply.Outcome.TheVariants as outcome
use Rattle.cc_entry.specs.declared.reply.Reply.{Reply}
use Rattle.cc_entry.specs.declared.reply.Reply.TheVariants as reply
use Rattle.cc_entry.specs.declared.query.Value.TheVariants as value
use Rattle.cc_script.specs.declared.script.Action.{Action}
use Rattle.cc_script.specs.declared.script.Action.TheVariants as action
use Rattle.cc_script.specs.declared.script.ActionLine.{ActionLine}
use Rattle.cc_script.specs.declared.script.RestartLine.{RestartLine}
use Rattle.cc_script.specs.declared.script.StreamLine.{StreamLine}
use Rattle.cc_laws.proofs.FirstMap.{IsFirst-steady}
use Rattle.cc_laws.proofs.SteadyPasts.{IsSteady-good}
use Rattle.cc_laws.proofs.UnrefusedCalls.{unrefused}
use Rattle.cc_model.specs.Good.{IsGoodSoFar}
use Rattle.cc_model.specs.History.{Effect, history}
use Rattle.cc_model.specs.Legal.{IsLegal, IsLegalEntry, IsOutcome, stream_history}
use Rattle.cc_model.specs.Numbers.{is_among}
use Rattle.cc_model.specs.Objects.{had_map, objects}
use Rattle.cc_model.specs.Passes.{HasSeen, pass_of}
use Rattle.cc_model.specs.Reasons.{refuse_if}
use Rattle.cc_model.specs.Refusals.{refusal}
use Rattle.cc_model.specs.Setup.{Setup}
use Rattle.cc_model.specs.Touches.{valid_of}
use Rattle.cc_effects.specs.Calls.{IsDone}
use Rattle.cc_effects.specs.Moments.{IsIdle}
use Rattle.cc_effects.proofs.FrontLaws.{legal-tail}
use Rattle.cc_records.specs.Left.{StreamHasFlushed, SettleLeft}
use Rattle.cc_pieces.proofs.Grown.{grew-call, grew-then}
use Rattle.cc_pieces.specs.Answered.{AheadAnswered, TickAnswered}
use Rattle.cc_pieces.specs.Bindings.{Binding}
use Rattle.cc_pieces.specs.Explained.{Answered, GivenToRun, IsExplained}
use Rattle.cc_pieces.specs.Openings.{Opened, first_object_of}
use Rattle.cc_pieces.specs.Phases.{PhasesRan, Plan, lazy_writer, read_ahead_worker}
use Rattle.cc_pieces.specs.Restarts.{refused_for}
use Rattle.cc_pieces.specs.Served.{Served}
use Rattle.cc_script_laws.specs.Told.{TellsLesser}
use Rattle.cc_script_laws.proofs.Growing.{good-seen, had-seen, seen-entry, seen-idle, seen-none}
use Rattle.cc_script_laws.proofs.LineWalks.{Admits, Follows, follow-ahead, follow-checkpoint-left, follow-served, follow-settle-left, follow-tick, follow-update-left, is_plain}
use Rattle.cc_script_laws.proofs.RunWalks.{AllStand, Walked, all-begun, all-stand, follow-behind, follow-restarts, ran-phases, stand-rest, walked-entry, walked-idle, walked-then}

clash : {b : Bool} → b ≡ true → b ≡ false → ⊥
clash a b = cc

-- ---- a stream whose state was told has had a map

opened-had : (h : List Effect) (file : File) → (had_map h ≡ false → objects h ≡ []) → is_among file.object (objects h) ≡ true → had_map h ≡ true
opened-had h file none among = go (had_map h) refl
  where
    go : (b : Bool) → had_map h ≡ b → had_map h ≡ true
    go true had = had
    go false never = absurd (clash among (ap (is_among file.object) (none never)))

legal-call : (u : Setup) (me nth : ℕ) (stream : Option ℕ) (it : Call) (r : Reply) (front : List Entry) → IsLegal u (entry.Call me nth stream it (outcome.Done r) ∷ front) → IsOutcome u front me stream it (outcome.Done r)
unfolding IsLegal IsLegalEntry
legal-call u me nth stream it r front legal = legal.0

open-of : (b : Bool) (e : CcError) → refuse_if (not b) e ≡ None → b ≡ true
open-of true e is = refl
open-of false e is = absurd (cc is)

state-had : (u : Setup) (me : ℕ) (file : File) (r : Reply) (old new : List Entry) → IsGoodSoFar u new → IsDone me (call.Query (query.State file)) r old new → had_map (history new file.stream) ≡ true
state-had u me file r old new good left = had-seen u file.stream front new seen had
  where
    front : List Entry
    front = left.earlier ++ old

    e : Entry
    e = entry.Call me left.placed.nth left.placed.stream (call.Query (query.State file)) (outcome.Done r)

    seen : HasSeen front new
    seen = record { later = left.placed.later ++ e ∷ []; grew = left.placed.grew ∙ sym (append_assoc left.placed.later (e ∷ []) front) }

    told : IsOutcome u front me left.placed.stream (call.Query (query.State file)) (outcome.Done r)
    told = legal-call u me left.placed.nth left.placed.stream (call.Query (query.State file)) r front (legal-tail u left.placed.later (e ∷ front) (rw left.placed.grew at good.legal))

    here : left.placed.stream ≡ Some file.stream
    here = left.placed.filed

    none : refusal u front (history front file.stream) (call.Query (query.State file)) ≡ None
    none = subst (λ (o : Option ℕ). refusal u front (stream_history front o) (call.Query (query.State file)) ≡ None) here told.0

    had : had_map (history front file.stream) ≡ true
    had =
        opened-had (history front file.stream) file
        (λ never. (IsFirst-steady (history front file.stream) (IsSteady-good u front file.stream (good-seen u front new seen good)) never).unopened)
        (open-of (is_among file.object (objects (history front file.stream))) error.NotCached (unrefused u front (history front file.stream) (call.Query (query.State file)) none).cached)

-- ---- entries that write a record

-- a write of the stream's record tells the lesser of two
abbrev pub Tells : ℕ → List Entry → Entry → Type 0
Tells s past (entry.Record pass stream size valid end) = stream ≡ s → TellsLesser s valid past
Tells s past other = Unit {0}

plain-tells : (s : ℕ) (past : List Entry) (e : Entry) → is_plain e ≡ true → Tells s past e
plain-tells s past (entry.Record pass stream size valid end) plain = absurd (cc plain)
plain-tells s past other plain = tt

unpassed-tells : (s : ℕ) (past : List Entry) (e : Entry) → pass_of e ≡ None → Tells s past e
unpassed-tells s past (entry.Record pass stream size valid end) none = absurd (cc none)
unpassed-tells s past other none = tt

abbrev Any : Call → Type 0
Any it = Unit {0}

module _ (u : Setup) (whole : List Entry) (good : IsGoodSoFar u whole) (s : ℕ) where
  -- up to the whole journal
  abbrev Told : ℕ → List Entry → List Entry → Type 0
  Told me old new = HasSeen old new × (HasSeen new whole → Walked (Tells s) me old new)

  told-idle : (me : ℕ) (old new : List Entry) → IsIdle me old new → Told me old new
  told-idle me old new idle = (seen-idle me old new idle, λ seen. walked-idle (Tells s) me old new idle)

  told-then : (me : ℕ) (old between new : List Entry) → Told me old between → Told me between new → Told me old new
  told-then me old between new first second = (
    grew-then old between new first.0 second.0,
    λ seen. walked-then (Tells s) me old between new (first.1 (grew-then between new whole second.0 seen)) (second.1 seen),
  )

  told-entry : (me : ℕ) (e : Entry) (past : List Entry) → (HasSeen (e ∷ past) whole → Tells s past e) → Told me past (e ∷ past)
  told-entry me e past tells = (seen-entry e past, λ seen. walked-entry (Tells s) me e past (tells seen))

  told-follows : (me : ℕ) → Follows me Any (Told me)
  told-follows me = record {
    idle = told-idle me;
    joins = told-then me;
    plain = λ e past plain own. told-entry me e past (λ seen. plain-tells s past e plain);
    called = λ it ended nth stream past makes filed. told-entry me (entry.Call me nth stream it ended) past (λ seen. tt);
  }

  told-lesser : (me : ℕ) (file : File) (told : FileState) (begun old flushed front : List Entry) (valid : ℕ) → StreamHasFlushed u me file told begun old flushed → IsIdle me flushed front → valid ≡ min (valid_of (history begun file.stream)) (valid_of (history front file.stream)) → HasSeen front whole → TellsLesser file.stream valid front
  told-lesser me file told begun old flushed front valid has idle is seen = record { moment = begun; since = since; had = had; lesser = is }
    where
      since : HasSeen begun front
      since = grew-then begun flushed front (grew-call u me (call.Flush file None) (outcome.Done reply.Unit) begun flushed has.flush) (seen-idle me flushed front idle)

      before : HasSeen has.stated begun
      before = seen-idle me has.stated begun has.idle

      had : had_map (history begun file.stream) ≡ true
      had =
          had-seen u file.stream has.stated begun before
          (state-had u me file (reply.Value (value.State told)) old has.stated
          (good-seen u has.stated whole (grew-then has.stated begun whole before (grew-then begun front whole since seen)) good) has.state)

  told-settle : (me : ℕ) (file : File) (answered : Result FileState CcError) (old new : List Entry) → SettleLeft u me file answered old new → Told me old new
  told-settle me file answered old new left =
      follow-settle-left u me Any (Told me) (told-follows me) file tt tt
      (λ told begun first flushed front size valid end has idle is. told-entry me (entry.Record me file.stream size valid end) front
      (λ seen same. subst (λ (n : ℕ). TellsLesser n valid front) same
      (told-lesser me file told begun first flushed front valid has idle is (grew-then front (entry.Record me file.stream size valid end ∷ front) whole (seen-entry (entry.Record me file.stream size valid end) front) seen))))
      answered old new left

  told-admits : (me : ℕ) (asked : Action) → Admits u me Any (Told me) (told-follows me) asked
  told-admits me (action.PinMapped word exclusive) = λ id. tt
  told-admits me (action.HeldRead word at len) = ((λ id. tt), λ id. tt)
  told-admits me (action.PinnedWrite word at bytes) = λ id. tt
  told-admits me (action.SetDirty word lsn) = λ id. tt
  told-admits me (action.Unpin word) = λ id. tt
  told-admits me (action.Repin word made) = λ id. tt
  told-admits me (action.UnpinRepinned word through) = ((λ id. tt), λ file span. tt)
  told-admits me (action.MdlBytes word at len) = λ id. tt
  told-admits me (action.MdlStore word at bytes) = λ id. tt
  told-admits me (action.MdlDone word) = λ id. tt
  told-admits me (action.MdlAbort word) = λ id. tt
  told-admits me (action.NcRead file at len) = λ page. tt
  told-admits me (action.NcWrite file at bytes) = λ it is. tt
  told-admits me (action.Read file path at len) = λ it is. tt
  told-admits me (action.Write file at bytes) = λ it is. tt
  told-admits me (action.Update file at bytes) = (
    tt,
    λ answered first last left.
        follow-update-left u me Any (Told me) (told-follows me) file at bytes (λ it is. tt) (λ handle lsn past. told-entry me (entry.Append me handle lsn _) past (λ seen. tt)) answered first last left,
  )
  told-admits me (action.Settle file) = told-settle me file
  told-admits me (action.Checkpoint streams handle) =
      λ answered first last left.
      follow-checkpoint-left u me Any (Told me) (told-follows me) streams handle (λ it is. tt) (λ rows lsn past. told-entry me (entry.Append me handle lsn _) past (λ seen. tt)) answered first last left
  told-admits me (action.Append handle bytes) = λ lsn past. told-entry me (entry.Append me handle lsn bytes) past (λ seen. tt)
  told-admits me action.AheadStep = λ request. tt
  told-admits me action.Complete = λ file at len. tt
  told-admits me other = tt

  told-served : (me : ℕ) (bindings : List Binding) (asked : Action) (told : Answer) (old new : List Entry) → Unit {0} → Served u me bindings asked told old new → Told me old new
  told-served me bindings asked told old new fit left = follow-served u me Any (Told me) (told-follows me) bindings asked told old new (told-admits me asked) left

  told-tick : (told : Answer) (old new : List Entry) → TickAnswered lazy_writer told old new → Told lazy_writer old new
  told-tick told old new left = follow-tick u lazy_writer Any (Told lazy_writer) (told-follows lazy_writer) told old new left

  told-step : (taken : Option Request) (told : Answer) (old new : List Entry) → AheadAnswered u read_ahead_worker taken told old new → Told read_ahead_worker old new
  told-step taken told old new left = follow-ahead u read_ahead_worker Any (Told read_ahead_worker) (told-follows read_ahead_worker) taken told old new (λ request. tt) left

  told-opened : (restarts : List RestartLine) (ended : List LineReply) (t : ℕ) (streams : List StreamLine) (replies : List LineReply) (old new : List Entry) → Opened u restarts ended t streams replies old new → Told 0 old new
  told-opened restarts ended t [] [] old new opened = told-idle 0 old new opened
  told-opened restarts ended t [] (reply ∷ replies) old new opened = absurd opened
  told-opened restarts ended t (stream ∷ streams) [] old new opened = absurd opened
  told-opened restarts ended t (stream ∷ streams) (reply ∷ replies) old new opened =
      told-then 0 old opened.0 new
      (follow-behind u Any (Told 0) (told-follows 0) t stream (λ handle is. tt) (told-settle 0 (first_object_of t)) (refused_for stream.log restarts ended) reply.answer old opened.0 (λ read. tt) opened.1.opened)
      (told-opened restarts ended (suc t) streams replies opened.0 new opened.2)

  all-fit : (lines : List ActionLine) → AllByRecursion (λ (line : ActionLine). Unit {0}) lines
  all-fit [] = tt
  all-fit (line ∷ lines) = (tt, all-fit lines)

  -- the journal grows by phases
  pub phases-grow : (plan : Plan) (phase left : ℕ) (ticked stepped : List LineReply) (taken : List Request) (old new : List Entry) → PhasesRan u plan phase left ticked stepped taken old new → HasSeen old new
  phases-grow plan phase left ticked stepped taken old new ran =
      (ran-phases u Told told-idle told-then told-tick told-step (λ asked. Unit {0}) told-served plan (all-fit plan.lines) phase left ticked stepped taken old new ran 0).0

  module _ (given : GivenToRun) (told : Answered) (taken : List Request) (is : IsExplained u given told taken whole) where
    behind : (me : ℕ) → Told me is.begun whole
    behind me =
        ran-phases u Told told-idle told-then told-tick told-step (λ asked. Unit {0}) told-served
        (record { lines = given.lines; answers = is.answers; ticks = given.ticks; aheads = given.aheads }) (all-fit given.lines) 1 given.phases told.ticked told.stepped taken is.begun whole is.ran me

    -- the journal grows by the phases
    pub phases-seen : HasSeen is.begun whole
    phases-seen = (behind 0).0

    -- each write of the stream's record in a run
    pub told-run : AllStand (Tells s) whole
    told-run = all-stand (Tells s) (unpassed-tells s) [] whole (λ me. (each me).1 (seen-none whole)) tt
      where
        first : Told 0 [] is.begun
        first =
            told-then 0 [] is.restarted is.begun (follow-restarts u Any (Told 0) (told-follows 0) given.restarts is.ended [] is.restarted is.restarts_ended)
            (told-opened given.restarts is.ended 0 given.streams is.setup is.restarted is.begun is.opened)

        each : (me : ℕ) → Told me [] whole
        each me = told-then me [] is.begun whole (all-begun u Told told-idle told-then is.begun first is.alone me) (behind me)

pub tells-at : (s : ℕ) (later front : List Entry) (pass size valid : ℕ) (end : End) (past : List Entry) → past ≡ later ++ entry.Record pass s size valid end ∷ front → AllStand (Tells s) past → TellsLesser s valid front
tells-at s later front pass size valid end past is all =
    (stand-rest (Tells s) later (entry.Record pass s size valid end ∷ front) (subst (AllStand (Tells s)) is all)).0 refl

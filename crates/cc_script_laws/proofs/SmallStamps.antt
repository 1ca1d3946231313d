-- The LSNs with which holds are set dirty in a run whose lines leave a stream to its updates: a line names one below 2^64, and an update
-- has that of its record.
use Rattle.std.specs.Prelude.{◌≡◌, ℕ, suc, ◌^◌, ◌<◌, ◌≤◌, ◌&&◌, true, List, [], ◌∷◌, ◌++◌, length, Result, Ok, Err, refl, ◌⊎◌}
use Rattle.std.specs.List.{AllByRecursion}
use Rattle.std.specs.declared.option.Option.{Option}
use Rattle.std.specs.declared.option.Option.TheVariants.{Some, None}
use Rattle.std.proofs.Common.{subst, arith, inl, inr}
use Rattle.std.proofs.lemmas.Bool.{ltb-true}
use Rattle.cc_entry.specs.Place.{File}
use Rattle.cc_entry.specs.declared.answer.Answer.{Answer}
use Rattle.cc_entry.specs.declared.answer.Answer.TheVariants as answer
use Rattle.cc_entry.specs.declared.answer.LineReply.{LineReply}
use Rattle.cc_entry.specs.declared.call.Call.{Call}
use Rattle.cc_entry.specs.declared.call.Call.TheVariants as call
use Rattle.cc_entry.specs.declared.query.Query.TheVariants as query
use Rattle.cc_entry.specs.declared.entry.Entry.{Entry}
use Rattle.cc_entry.specs.declared.entry.Entry.TheVariants as entry
use Rattle.cc_entry.specs.declared.error.CcError.{CcError}
use Rattle.cc_entry.specs.declared.place.FileState.{FileState}
use Rattle.cc_entry.specs.declared.place.Request.{Request}
use Rattle.cc_entry.specs.declared.reply.Outcome.{Outcome}
use Rattle.cc_entry.specs.declared.reply.Outcome.TheVariants as outcome
use Rattle.cc_entry.specs.declared.reply.Reply.TheVariants as reply
use Rattle.cc_entry.specs.declared.query.Value.TheVariants as value
use Rattle.cc_script.specs.declared.script.Action.{Action}
use Rattle.cc_script.specs.declared.script.Action.TheVariants as action
use Rattle.cc_script.specs.declared.script.StreamLine.{StreamLine}
use Rattle.cc_model.specs.Good.{IsGoodSoFar}
use Rattle.cc_model.specs.Passes.{HasSeen, pass_of}
use Rattle.cc_model.specs.Setup.{Setup}
use Rattle.cc_effects.specs.LogCalls.{AppendLeft}
use Rattle.cc_effects.specs.Moments.{IsIdle}
use Rattle.cc_records.specs.Left.{SettleLeft}
use Rattle.cc_restart_laws.proofs.Logs.{lsn-fits}
use Rattle.cc_restart_laws.proofs.Records.{good-rest'}
use Rattle.cc_script.specs.declared.script.RestartLine.{RestartLine}
use Rattle.cc_pieces.proofs.Grown.{grew-then}
use Rattle.cc_pieces.specs.Answered.{AheadAnswered, TickAnswered}
use Rattle.cc_pieces.specs.Bindings.{Binding}
use Rattle.cc_pieces.specs.Explained.{Answered, GivenToRun, IsExplained}
use Rattle.cc_pieces.specs.Openings.{Opened, first_object_of}
use Rattle.cc_pieces.specs.Phases.{lazy_writer, read_ahead_worker}
use Rattle.cc_pieces.specs.Restarts.{refused_for}
use Rattle.cc_pieces.specs.Runs.{asked_of}
use Rattle.cc_pieces.specs.Served.{Served}
use Rattle.cc_pieces.specs.Shim.{LoggedLeft, PinnedUpdateLeft, RecordedLeft, ToldUpdateLeft, UpdateLeft, update_record_of_file}
use Rattle.cc_script_laws.specs.Lines.{is_one_call, leaves_to_updates, left_to_updates, was_refused}
use Rattle.cc_script_laws.proofs.BesideLines.{either, seen-follows}
use Rattle.cc_script_laws.proofs.Growing.{good-seen, seen-entry, seen-idle, seen-none}
use Rattle.cc_script_laws.proofs.LineWalks.{Admits, Follows, IsCheckpointOf, IsNcWriteOf, IsReadOf, IsWriteOf, follow-ahead, follow-append, follow-call, follow-calls, follow-checkpoint-left, follow-refused, follow-served, follow-settle-left, follow-tick, is_plain}
use Rattle.cc_script_laws.proofs.Rows.{StampsFit}
use Rattle.cc_script_laws.proofs.RunWalks.{AllStand, Walked, all-begun, all-stand, follow-behind, follow-restarts, ran-answered, stand-rest, walked-entry, walked-idle, walked-then}

-- ---- entries

-- a done set-dirty has an LSN below 2^64, where it has one
abbrev StampsSmall : List Entry → Entry → Type 0
StampsSmall past (entry.Call pass nth stream (call.SetDirty hold (Some lsn)) (outcome.Done reply)) = lsn < 2 ^ 64
StampsSmall past other = Unit {0}

-- and so has the call
abbrev MakesSmall : Call → Type 0
MakesSmall (call.SetDirty hold (Some lsn)) = lsn < 2 ^ 64
MakesSmall other = Unit {0}

plain-small : (past : List Entry) (e : Entry) → is_plain e ≡ true → StampsSmall past e
plain-small past (entry.Call pass nth stream it ended) plain = absurd (cc plain)
plain-small past other plain = tt

unpassed-small : (past : List Entry) (e : Entry) → pass_of e ≡ None → StampsSmall past e
unpassed-small past (entry.Call pass nth stream it ended) none = absurd (cc none)
unpassed-small past other none = tt

failed-small : (me nth : ℕ) (stream : Option ℕ) (it : Call) (e : CcError) (past : List Entry) → StampsSmall past (entry.Call me nth stream it (outcome.Failed e))
failed-small me nth stream (call.SetDirty hold (Some lsn)) e past = tt
failed-small me nth stream (call.SetDirty hold None) e past = tt
failed-small me nth stream other e past = tt

called-small : (me nth : ℕ) (stream : Option ℕ) (it : Call) (ended : Outcome) (past : List Entry) → MakesSmall it → StampsSmall past (entry.Call me nth stream it ended)
called-small me nth stream (call.SetDirty hold (Some lsn)) (outcome.Done reply) past small = small
called-small me nth stream (call.SetDirty hold (Some lsn)) (outcome.Failed e) past small = tt
called-small me nth stream (call.SetDirty hold None) ended past small = tt
called-small me nth stream other ended past small = tt

abbrev Any : Call → Type 0
Any it = Unit {0}

by-read : (file : File) (it : Call) → IsReadOf file it → MakesSmall it
by-read file (call.SetDirty hold lsn) is = absurd is
by-read file other is = tt

by-write : (file : File) (it : Call) → IsWriteOf file it → MakesSmall it
by-write file (call.SetDirty hold lsn) is = absurd is
by-write file other is = tt

by-nc-write : (file : File) (it : Call) → IsNcWriteOf file it → MakesSmall it
by-nc-write file (call.SetDirty hold lsn) is = absurd is
by-nc-write file other is = tt

by-checkpoint : (it : Call) → IsCheckpointOf it → MakesSmall it
by-checkpoint (call.SetDirty hold lsn) is = absurd is
by-checkpoint other is = tt

module _ (u : Setup) (whole : List Entry) (good : IsGoodSoFar u whole) where
  -- an LSN that was appended
  appended-small : (me handle lsn : ℕ) (bytes : List ℕ) (old new : List Entry) → AppendLeft u me handle bytes (Ok lsn) old new → HasSeen new whole → lsn < 2 ^ 64
  appended-small me handle lsn bytes old new left seen =
      let e : Entry = entry.Append me handle lsn bytes in
      let there : IsGoodSoFar u (e ∷ (left.1.earlier ++ old)) =
      good-rest' u left.1.later (e ∷ (left.1.earlier ++ old)) (subst (λ (l : List Entry). IsGoodSoFar u l) left.1.grew (good-seen u new whole seen good)) in
      small (lsn-fits u handle lsn bytes (e ∷ (left.1.earlier ++ old)) there (inl (me, refl)))
    where
      small : lsn ≤ 2 ^ 62 → lsn < 2 ^ 64
      small most = omega arith

  -- ---- what a pass placed, up to the whole journal

  abbrev Small : ℕ → List Entry → List Entry → Type 0
  Small me old new = HasSeen old new × (HasSeen new whole → Walked StampsSmall me old new)

  small-idle : (me : ℕ) (old new : List Entry) → IsIdle me old new → Small me old new
  small-idle me old new idle = (seen-idle me old new idle, λ seen. walked-idle StampsSmall me old new idle)

  small-then : (me : ℕ) (old between new : List Entry) → Small me old between → Small me between new → Small me old new
  small-then me old between new first second = (
    grew-then old between new first.0 second.0,
    λ seen. walked-then StampsSmall me old between new (first.1 (grew-then between new whole second.0 seen)) (second.1 seen),
  )

  small-entry : (me : ℕ) (e : Entry) (past : List Entry) → StampsSmall past e → Small me past (e ∷ past)
  small-entry me e past small = (seen-entry e past, λ seen. walked-entry StampsSmall me e past small)

  small-follows : (me : ℕ) → Follows me MakesSmall (Small me)
  small-follows me = record {
    idle = small-idle me;
    joins = small-then me;
    plain = λ e past plain own. small-entry me e past (plain-small past e plain);
    called = λ it ended nth stream past makes filed. small-entry me (entry.Call me nth stream it ended) past (called-small me nth stream it ended past makes);
  }

  small-append : (me handle lsn : ℕ) (bytes : List ℕ) (past : List Entry) → Small me past (entry.Append me handle lsn bytes ∷ past)
  small-append me handle lsn bytes past = small-entry me (entry.Append me handle lsn bytes) past tt

  small-settle : (me : ℕ) (file : File) (answered : Result FileState CcError) (old new : List Entry) → SettleLeft u me file answered old new → Small me old new
  small-settle me file answered old new left =
      follow-settle-left u me MakesSmall (Small me) (small-follows me) file tt tt
      (λ told begun first flushed front size valid end has idle is. small-entry me (entry.Record me file.stream size valid end) front tt) answered old new left

  -- ---- an update: it stamps with the LSN of its record

  module _ (me : ℕ) (file : File) (at : ℕ) (bytes : List ℕ) where
    recorded-seen : (id lsn : ℕ) (answered : Result ℕ CcError) (old new : List Entry) → RecordedLeft u me id at bytes lsn answered old new → HasSeen old new
    recorded-seen id lsn (Ok told) old new left = follow-calls u me Any HasSeen (seen-follows me) (call.PinnedWrite id at bytes ∷ call.SetDirty id (Some lsn) ∷ []) (Ok tt) old new (tt, (tt, tt)) left.1
    recorded-seen id lsn (Err e) old new left = follow-calls u me Any HasSeen (seen-follows me) (call.PinnedWrite id at bytes ∷ call.SetDirty id (Some lsn) ∷ []) (Err e) old new (tt, (tt, tt)) left.1

    recorded-small : (id lsn : ℕ) (answered : Result ℕ CcError) (old new : List Entry) → lsn < 2 ^ 64 → RecordedLeft u me id at bytes lsn answered old new → Small me old new
    recorded-small id lsn (Ok told) old new small left =
        follow-calls u me MakesSmall (Small me) (small-follows me) (call.PinnedWrite id at bytes ∷ call.SetDirty id (Some lsn) ∷ []) (Ok tt) old new (tt, (small, tt)) left.1
    recorded-small id lsn (Err e) old new small left =
        follow-calls u me MakesSmall (Small me) (small-follows me) (call.PinnedWrite id at bytes ∷ call.SetDirty id (Some lsn) ∷ []) (Err e) old new (tt, (small, tt)) left.1

    logged-small : (id handle : ℕ) (answered : Result ℕ CcError) (old new : List Entry) → LoggedLeft u me file id at bytes handle answered old new → Small me old new
    logged-small id handle answered old new (inl left) =
        follow-append u me MakesSmall (Small me) (small-follows me) handle (update_record_of_file file at bytes) (answer.Refused left.0) old new (λ lsn past. small-append me handle lsn _ past) left.2
    logged-small id handle answered old new (inr left) = small-then me old left.0 new first (seen, λ to. (recorded-small id left.1 answered left.0 new (appended-small me handle left.1 (update_record_of_file file at bytes) old left.0 left.2 (grew-then left.0 new whole seen to)) left.3).1 to)
      where
        first : Small me old left.0
        first = follow-append u me MakesSmall (Small me) (small-follows me) handle (update_record_of_file file at bytes) (answer.NewLsn left.1) old left.0 (λ lsn past. small-append me handle lsn _ past) left.2

        seen : HasSeen left.0 new
        seen = recorded-seen id left.1 answered left.0 new left.3

    told-small : (id : ℕ) (log : Option ℕ) (valid : ℕ) (answered : Result ℕ CcError) (old new : List Entry) → ToldUpdateLeft u me file id at bytes log valid answered old new → Small me old new
    told-small id None valid answered old new left = small-idle me old new left.1
    told-small id (Some handle) valid answered old new (inl left) = small-idle me old new left.2
    told-small id (Some handle) valid answered old new (inr left) = logged-small id handle answered old new left.1

    pinned-small : (id : ℕ) (answered : Result ℕ CcError) (old new : List Entry) → PinnedUpdateLeft u me file id at bytes answered old new → Small me old new
    pinned-small id answered old new (inl left) = follow-call u me MakesSmall (Small me) (small-follows me) (call.Query (query.State file)) (outcome.Failed left.0) old new tt left.2
    pinned-small id answered old new (inr left) =
        small-then me old left.0 new (follow-call u me MakesSmall (Small me) (small-follows me) (call.Query (query.State file)) (outcome.Done (reply.Value (value.State left.1))) old left.0 tt left.2)
        (told-small id left.1.log left.1.sizes.valid answered left.0 new left.3)

    small-update : (answered : Result ℕ CcError) (old new : List Entry) → UpdateLeft u me file at bytes answered old new → Small me old new
    small-update answered old new (inl left) = follow-call u me MakesSmall (Small me) (small-follows me) (call.PinRead file at (length bytes) true) (outcome.Failed left.0) old new tt left.2
    small-update answered old new (inr left) =
        small-then me old left.1 new
        (follow-call u me MakesSmall (Small me) (small-follows me) (call.PinRead file at (length bytes) true) (outcome.Done (reply.Hold left.0)) old left.1 tt left.3)
        (small-then me left.1 left.2 new (pinned-small left.0 answered left.1 left.2 left.4)
        (follow-call u me MakesSmall (Small me) (small-follows me) (call.EndHold left.0) (outcome.Done reply.Unit) left.2 new tt left.5))

  -- ---- lines

  module _ (s log : ℕ) where
    small-admits : (me : ℕ) (asked : Action) → leaves_to_updates s log asked ≡ true → Admits u me MakesSmall (Small me) (small-follows me) asked
    small-admits me (action.PinMapped word exclusive) leaves = λ id. tt
    small-admits me (action.HeldRead word at len) leaves = ((λ id. tt), λ id. tt)
    small-admits me (action.PinnedWrite word at bytes) leaves = λ id. tt
    small-admits me (action.SetDirty word None) leaves = λ id. tt
    small-admits me (action.SetDirty word (Some lsn)) leaves = λ id. ltb-true lsn (2 ^ 64) leaves
    small-admits me (action.Unpin word) leaves = λ id. tt
    small-admits me (action.Repin word made) leaves = λ id. tt
    small-admits me (action.UnpinRepinned word through) leaves = ((λ id. tt), λ file span. tt)
    small-admits me (action.MdlBytes word at len) leaves = λ id. tt
    small-admits me (action.MdlStore word at bytes) leaves = λ id. tt
    small-admits me (action.MdlDone word) leaves = λ id. tt
    small-admits me (action.MdlAbort word) leaves = λ id. tt
    small-admits me (action.NcRead file at len) leaves = λ page. tt
    small-admits me (action.NcWrite file at bytes) leaves = by-nc-write file
    small-admits me (action.Read file path at len) leaves = by-read file
    small-admits me (action.Write file at bytes) leaves = by-write file
    small-admits me (action.Update file at bytes) leaves = (tt, small-update me file at bytes)
    small-admits me (action.Settle file) leaves = small-settle me file
    small-admits me (action.Checkpoint streams handle) leaves =
        λ answered first last left.
        follow-checkpoint-left u me MakesSmall (Small me) (small-follows me) streams handle by-checkpoint (λ rows lsn past. small-append me handle lsn _ past) answered first last left
    small-admits me (action.Append handle bytes) leaves = λ lsn past. small-append me handle lsn bytes past
    small-admits me action.AheadStep leaves = λ request. tt
    small-admits me action.Complete leaves = λ file at len. tt
    small-admits me other leaves = tt

    small-served : (me : ℕ) (bindings : List Binding) (asked : Action) (told : Answer) (old new : List Entry) → left_to_updates s log asked told ≡ true → Served u me bindings asked told old new → Small me old new
    small-served me bindings asked told old new fits left = by (either (leaves_to_updates s log asked) (is_one_call asked && was_refused told) fits)
      where
        by : (leaves_to_updates s log asked ≡ true) ⊎ ((is_one_call asked && was_refused told) ≡ true) → Small me old new
        by (inl leaves) = follow-served u me MakesSmall (Small me) (small-follows me) bindings asked told old new (small-admits me asked leaves) left
        by (inr refused) =
            follow-refused u me MakesSmall (Small me) (small-follows me) bindings asked told old new refused
            (λ it e nth stream past filed. small-entry me (entry.Call me nth stream it (outcome.Failed e)) past (failed-small me nth stream it e past)) left

  small-tick : (told : Answer) (old new : List Entry) → TickAnswered lazy_writer told old new → Small lazy_writer old new
  small-tick told old new left = follow-tick u lazy_writer MakesSmall (Small lazy_writer) (small-follows lazy_writer) told old new left

  small-step : (taken : Option Request) (told : Answer) (old new : List Entry) → AheadAnswered u read_ahead_worker taken told old new → Small read_ahead_worker old new
  small-step taken told old new left = follow-ahead u read_ahead_worker MakesSmall (Small read_ahead_worker) (small-follows read_ahead_worker) taken told old new (λ request. tt) left

  small-opened : (restarts : List RestartLine) (ended : List LineReply) (t : ℕ) (streams : List StreamLine) (replies : List LineReply) (old new : List Entry) → Opened u restarts ended t streams replies old new → Small 0 old new
  small-opened restarts ended t [] [] old new opened = small-idle 0 old new opened
  small-opened restarts ended t [] (reply ∷ replies) old new opened = absurd opened
  small-opened restarts ended t (stream ∷ streams) [] old new opened = absurd opened
  small-opened restarts ended t (stream ∷ streams) (reply ∷ replies) old new opened =
      small-then 0 old opened.0 new
      (follow-behind u MakesSmall (Small 0) (small-follows 0) t stream (λ handle is. tt) (small-settle 0 (first_object_of t)) (refused_for stream.log restarts ended) reply.answer old opened.0 (λ read. tt) opened.1.opened)
      (small-opened restarts ended (suc t) streams replies opened.0 new opened.2)

  -- ---- a run

  module _ (given : GivenToRun) (told : Answered) (taken : List Request) (is : IsExplained u given told taken whole) (s log : ℕ)
      (leaves : AllByRecursion (λ (each : Action × Answer). left_to_updates s log each.0 each.1 ≡ true) (asked_of (λ line. true) given.lines is.answers)) where
    -- each LSN with which a hold was set dirty in the run
    pub stamps-small : StampsFit whole
    stamps-small = λ later front pass nth hold lsn stream reply at.
        (stand-rest StampsSmall later (entry.Call pass nth stream (call.SetDirty hold (Some lsn)) (outcome.Done reply) ∷ front) (subst (AllStand StampsSmall) at all)).0
      where
        first : Small 0 [] is.begun
        first =
            small-then 0 [] is.restarted is.begun (follow-restarts u MakesSmall (Small 0) (small-follows 0) given.restarts is.ended [] is.restarted is.restarts_ended)
            (small-opened given.restarts is.ended 0 given.streams is.setup is.restarted is.begun is.opened)

        behind : (me : ℕ) → Small me is.begun whole
        behind me =
            ran-answered u Small small-idle small-then small-tick small-step (λ asked told_it. left_to_updates s log asked told_it ≡ true) (small-served s log)
            (record { lines = given.lines; answers = is.answers; ticks = given.ticks; aheads = given.aheads }) leaves 1 given.phases told.ticked told.stepped taken is.begun whole is.ran me

        each : (me : ℕ) → Small me [] whole
        each me = small-then me [] is.begun whole (all-begun u Small small-idle small-then is.begun first is.alone me) (behind me)

        all : AllStand StampsSmall whole
        all = all-stand StampsSmall unpassed-small [] whole (λ me. (each me).1 (seen-none whole)) tt

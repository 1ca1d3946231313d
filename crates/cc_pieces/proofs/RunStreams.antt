-- The journal of a run is of the streams of its script.
use Rattle.std.specs.Prelude.{◌≡◌, ◌≢◌, ℕ, zero, suc, ◌+◌, ◌<◌, ◌≤◌, Bool, true, false, ◌==◌, List, [], ◌∷◌, ◌++◌, length, Ok, Err, refl, if◌then◌else◌}
use Rattle.std.specs.declared.option.Option.{Option}
use Rattle.std.specs.declared.option.Option.TheVariants.{Some, None}
use Rattle.std.specs.List.{AllByRecursion}
use Rattle.std.proofs.Common.{sym, ap, arith, subst, ◌∙◌, inl, inr, eq-eqb, append_assoc}
use Rattle.std.proofs.lemmas.Bool.{eqb-true, eqb-false}
use Rattle.std.proofs.lemmas.List.{append_cancel_right}
use Rattle.cc_entry.specs.declared.answer.Answer.{Answer}
use Rattle.cc_entry.specs.declared.answer.Answer.TheVariants as answer
use Rattle.cc_entry.specs.declared.answer.LineReply.{LineReply}
use Rattle.cc_entry.specs.declared.place.Request.{Request}
use Rattle.cc_entry.specs.declared.call.Call.{Call}
use Rattle.cc_entry.specs.declared.call.Call.TheVariants as call
use Rattle.cc_entry.specs.declared.entry.Entry.{Entry}
use Rattle.cc_entry.specs.declared.entry.Entry.TheVariants as entry
use Rattle.cc_entry.specs.declared.error.CcError.{CcError}
use Rattle.cc_entry.specs.declared.reply.Outcome.TheVariants as outcome
use Rattle.cc_entry.specs.declared.reply.Reply.TheVariants as reply
use Rattle.cc_script.specs.declared.script.Action.{Action}
use Rattle.cc_script.specs.declared.script.ActionLine.{ActionLine}
use Rattle.cc_script.specs.declared.script.RestartLine.{RestartLine}
use Rattle.cc_script.specs.declared.script.StreamLine.{StreamLine}
use Rattle.cc_format.specs.declared.record.StreamRecord.{StreamRecord}
use Rattle.cc_format.specs.declared.record.StreamRecord.TheVariants.{V1, V2}
use Rattle.cc_model.specs.Passes.{is_pass, pass_of}
use Rattle.cc_model.specs.Setup.{Setup}
use Rattle.cc_effects.specs.Moments.{EachOwn, IsIdle}
use Rattle.cc_pieces.specs.Bindings.{Binding}
use Rattle.cc_pieces.specs.Explained.{Answered, GivenToRun, IsExplained}
use Rattle.cc_pieces.specs.Openings.{LoggedOpening, MigrationLeft, Opened, OpeningBehind, RecordedOpening, StreamOpening, first_object_of, opening_call, recorded_call}
use Rattle.cc_pieces.specs.Restarts.{RestartsInOrder, refused_for}
use Rattle.cc_pieces.specs.Phases.{PhaseRan, PhasesRan, Plan, is_of_phase, lazy_writer, lines_in, read_ahead_worker}
use Rattle.cc_pieces.specs.Runs.{Ran, asked_of}
use Rattle.cc_pieces.specs.Served.{bindings_after}
use Rattle.cc_pieces.proofs.Streams.{AllBelow, FitsBelow, IsBelow}
use Rattle.cc_pieces.proofs.LeftStreams.{HasHandles, IsActionBelow, IsLeft, IsSound, StaysBelow, left-answered, left-call, left-idle, left-load, left-restart, left-served, left-settle, left-then, sound-front, sound-tail}
use Rattle.cc_pieces.proofs.TickSteps.{left-ticks}
use Rattle.cc_pieces.proofs.AheadSteps.{left-aheads}

-- an entry of no pass is of no stream
posted-below : (n logs : ℕ) (e : Entry) → pass_of e ≡ None → IsBelow n logs e
posted-below n logs (entry.Posted id) is = tt
posted-below n logs other is = absurd (cc is)

-- what every pass leaves of the first streams is of them as a whole
every-each : (u : Setup) (n : ℕ) (during old : List Entry) → ((me : ℕ) → EachOwn me (StaysBelow u n) during old) → IsSound u (during ++ old) → AllBelow n u.logs old → AllBelow n u.logs (during ++ old)
every-each u n [] old each sound all = all
every-each u n (e ∷ during) old each sound all =
    let rest = every-each u n during old (λ me. (each me).1) (sound-tail u e (during ++ old) sound) all in
    (by (pass_of e) refl rest, rest)
  where
    by : (o : Option ℕ) → pass_of e ≡ o → AllBelow n u.logs (during ++ old) → IsBelow n u.logs e
    by None is rest = posted-below n u.logs e is
    by (Some me) is rest = (each me).0 (ap (is_pass me) is ∙ eq-eqb me me refl) sound rest

pub every-left : (u : Setup) (n : ℕ) (old new : List Entry) → ((me : ℕ) → IsLeft u n me old new) → IsSound u new → AllBelow n u.logs old → AllBelow n u.logs new
every-left u n old new left sound all =
    subst (AllBelow n u.logs) (sym grew) (every-each u n (left 0).during old each (subst (IsSound u) grew sound) all)
  where
    grew : new ≡ (left 0).during ++ old
    grew = (left 0).grew

    each : (me : ℕ) → EachOwn me (StaysBelow u n) (left 0).during old
    each me =
        subst (λ during. EachOwn me (StaysBelow u n) during old)
        (append_cancel_right (left me).during (left 0).during old (sym (left me).grew ∙ grew)) (left me).each

-- lines with their answers, of the first streams
abbrev pub LinesBelow : ℕ → List (Action × Answer) → Type 0
LinesBelow n lines = AllByRecursion (λ line. IsActionBelow n line.0) lines

pub asked-below : (n : ℕ) (test : ActionLine → Bool) (lines : List ActionLine) (replies : List LineReply) → AllByRecursion (λ line. IsActionBelow n line.action) lines → LinesBelow n (asked_of test lines replies)
asked-below n test [] replies all = tt
asked-below n test (line ∷ lines) [] all = tt
asked-below n test (line ∷ lines) (reply ∷ replies) all = by (test line) (asked-below n test lines replies all.1)
  where
    by : (b : Bool) → LinesBelow n (asked_of test lines replies) → LinesBelow n (if b then (line.action, reply.answer) ∷ asked_of test lines replies else asked_of test lines replies)
    by true rest = (all.0, rest)
    by false rest = rest

module _ (u : Setup) (n : ℕ) (handles : HasHandles u) where
  pub left-ran : (limit me : ℕ) (bindings : List Binding) (lines : List (Action × Answer)) (old new : List Entry) → LinesBelow n lines → Ran u limit me bindings lines old new → IsLeft u n me old new
  left-ran limit me bindings [] old new below ran = left-idle u n me old new ran
  left-ran limit me bindings (line ∷ more) old new below ran =
      left-then u n me old ran.0 new (left-served u n handles me bindings line.0 line.1 old ran.0 below.0 ran.1.served)
      (left-ran limit me (bindings_after line.0 line.1 bindings) more ran.0 new below.1 ran.2)

  left-logged : (s : ℕ) (it : Call) (log : Option ℕ) (told : Answer) (old new : List Entry) → s < n → FitsBelow n it → LoggedOpening u s it log told old new → IsLeft u n 0 old new
  left-logged s it None told old new low fits opened = left-answered u n handles 0 it told old new fits opened
  left-logged s it (Some handle) told old new low fits (inl refused) = left-call u n handles 0 it (outcome.Failed refused.0) old new fits refused.2
  left-logged s it (Some handle) told old new low fits (inr done) =
      left-then u n 0 old done.0 new (left-call u n handles 0 it (outcome.Done reply.Unit) old done.0 fits done.1)
      (left-answered u n handles 0 (call.SetLog (first_object_of s) handle) told done.0 new low done.2)

  left-migration : (s : ℕ) (told : Answer) (old new : List Entry) → s < n → MigrationLeft u s told old new → IsLeft u n 0 old new
  left-migration s (answer.Given reply.Unit) old new low left = left-settle u n handles 0 (first_object_of s) (Ok left.0) old new low left.1
  left-migration s (answer.Refused e) old new low left = left-settle u n handles 0 (first_object_of s) (Err e) old new low left
  left-migration s other old new low left = absurd left

  left-recorded : (s : ℕ) (stream : StreamLine) (read : Option StreamRecord) (told : Answer) (old new : List Entry) → s < n → RecordedOpening u s stream read told old new → IsLeft u n 0 old new
  left-recorded s stream None told old new low opened = left-logged s (recorded_call s stream None) stream.log told old new low low opened
  left-recorded s stream (Some (V2 size valid)) told old new low opened = left-logged s (recorded_call s stream (Some (V2 size valid))) stream.log told old new low low opened
  left-recorded s stream (Some (V1 size)) told old new low (inl refused) = left-logged s (recorded_call s stream (Some (V1 size))) stream.log told old new low low refused.2
  left-recorded s stream (Some (V1 size)) told old new low (inr done) =
      left-then u n 0 old done.0 new (left-logged s (recorded_call s stream (Some (V1 size))) stream.log (answer.Given reply.Unit) old done.0 low low done.1)
      (left-migration s told done.0 new low done.2)

  left-opening : (s : ℕ) (stream : StreamLine) (stored : Bool) (told : Answer) (old new : List Entry) → s < n → StreamOpening u s stream stored told old new → IsLeft u n 0 old new
  left-opening s stream false told old new low opened = left-logged s (opening_call s stream) stream.log told old new low low opened
  left-opening s stream true told old new low (inl unread) = left-load u n handles {A = Option StreamRecord} 0 s (Err unread.0) old new low unread.2
  left-opening s stream true told old new low (inr is) =
      left-then u n 0 old is.loaded new (left-load u n handles {A = Option StreamRecord} 0 s (Ok is.read) old is.loaded low is.load)
      (left-recorded s stream is.read told is.loaded new low is.opened)

  left-behind : (s : ℕ) (stream : StreamLine) (refused : Option CcError) (told : Answer) (old new : List Entry) → s < n → OpeningBehind u s stream refused told old new → IsLeft u n 0 old new
  left-behind s stream (Some e) told old new low opened = left-idle u n 0 old new opened.1
  left-behind s stream None told old new low opened = left-opening s stream stream.stored told old new low opened

  module _ (restarts : List RestartLine) (ended : List LineReply) where
    pub left-opened : (s : ℕ) (streams : List StreamLine) (replies : List LineReply) (old new : List Entry) → s + length streams ≤ n → Opened u restarts ended s streams replies old new → IsLeft u n 0 old new
    left-opened s [] [] old new few opened = left-idle u n 0 old new opened
    left-opened s [] (reply ∷ replies) old new few opened = absurd opened
    left-opened s (stream ∷ streams) [] old new few opened = absurd opened
    left-opened s (stream ∷ streams) (reply ∷ replies) old new few opened =
        left-then u n 0 old opened.0 new
        (left-behind s stream (refused_for stream.log restarts ended) reply.answer old opened.0 (omega (arith, few)) opened.1.opened)
        (left-opened (suc s) streams replies opened.0 new (omega (arith, few)) opened.2)

  left-restarted : (restarts : List RestartLine) (replies : List LineReply) (old new : List Entry) → RestartsInOrder u restarts replies old new → IsLeft u n 0 old new
  left-restarted [] [] old new ended = left-idle u n 0 old new ended
  left-restarted [] (reply ∷ replies) old new ended = absurd ended
  left-restarted (restart ∷ restarts) [] old new ended = absurd ended
  left-restarted (restart ∷ restarts) (reply ∷ replies) old new ended =
      left-then u n 0 old ended.0 new (left-restart u n handles restart.handle reply.answer old ended.0 ended.1.left) (left-restarted restarts replies ended.0 new ended.2)

  -- the restarts were ended and the streams opened, and nobody but pass 0 placed anything
  pub opened-below : (restarts : List RestartLine) (ended : List LineReply) (streams : List StreamLine) (replies : List LineReply) (restarted begun : List Entry) → length streams ≤ n → RestartsInOrder u restarts ended [] restarted → Opened u restarts ended 0 streams replies restarted begun → ((me : ℕ) → me ≢ 0 → IsIdle me [] begun) → IsSound u begun → AllBelow n u.logs begun
  opened-below restarts ended streams replies restarted begun few done opened alone sound = every-left u n [] begun each sound tt
    where
      first : IsLeft u n 0 [] begun
      first =
          left-then u n 0 [] restarted begun (left-restarted restarts ended [] restarted done)
          (left-opened restarts ended 0 streams replies restarted begun (omega (arith, few)) opened)

      each : (me : ℕ) → IsLeft u n me [] begun
      each me = by (me == 0) refl
        where
          by : (b : Bool) → (me == 0) ≡ b → IsLeft u n me [] begun
          by true is = rw (eqb-true me 0 is) first
          by false is = left-idle u n me [] begun (alone me (eqb-false me 0 is))

  module _ (plan : Plan) (within : AllByRecursion (λ line. IsActionBelow n line.action) plan.lines) where
    left-phase : (phase : ℕ) (ticked stepped : List LineReply) (taken : List Request) (old new : List Entry) → PhaseRan u plan phase ticked stepped taken old new → (me : ℕ) → IsLeft u n me old new
    left-phase phase ticked stepped taken old new ran me = lazy (me == lazy_writer) refl
      where
        ahead : (b : Bool) → (me == read_ahead_worker) ≡ b → me ≢ lazy_writer → IsLeft u n me old new
        ahead true is other = rw (eqb-true me read_ahead_worker is) (left-aheads u n handles 32 phase stepped taken old new ran.steps)
        ahead false is other =
            left-ran _ me _ (lines_in plan phase me) old new (asked-below n (is_of_phase phase me) plan.lines plan.answers within)
            (ran.callers me other (eqb-false me read_ahead_worker is))

        lazy : (b : Bool) → (me == lazy_writer) ≡ b → IsLeft u n me old new
        lazy true is = rw (eqb-true me lazy_writer is) (left-ticks u n handles 32 phase ticked old new ran.ticks)
        lazy false is = ahead (me == read_ahead_worker) refl (eqb-false me lazy_writer is)

    -- the journal grew by the phases
    pub phases-grow : (phase left : ℕ) (ticked stepped : List LineReply) (taken : List Request) (old new : List Entry) → PhasesRan u plan phase left ticked stepped taken old new → (during : List Entry) × (new ≡ during ++ old)
    phases-grow phase zero ticked stepped taken old new ran = ([], ran.3)
    phases-grow phase (suc left) ticked stepped taken old new ran =
        let one = left-phase phase _ _ _ old ran.0 ran.3 0 in
        let more = phases-grow (suc phase) left _ _ _ ran.0 new ran.4 in
        (more.0 ++ one.during, more.1 ∙ (ap (λ l. more.0 ++ l) one.grew ∙ sym (append_assoc more.0 one.during old)))

    pub phases-below : (phase left : ℕ) (ticked stepped : List LineReply) (taken : List Request) (old new : List Entry) → PhasesRan u plan phase left ticked stepped taken old new → IsSound u new → AllBelow n u.logs old → AllBelow n u.logs new
    phases-below phase zero ticked stepped taken old new ran sound all = subst (AllBelow n u.logs) (sym ran.3) all
    phases-below phase (suc left) ticked stepped taken old new ran sound all =
        let more = phases-grow (suc phase) left _ _ _ ran.0 new ran.4 in
        phases-below (suc phase) left _ _ _ ran.0 new ran.4 sound
        (every-left u n old ran.0 (left-phase phase _ _ _ old ran.0 ran.3) (sound-front u more.0 ran.0 (subst (IsSound u) more.1 sound)) all)

-- Each entry of the journal of a run is of a stream of its script, and each log that failed is one of the run.
pub explained-below : (u : Setup) (n : ℕ) (handles : HasHandles u) (given : GivenToRun) (told : Answered) (taken : List Request) (past : List Entry) → length given.streams ≤ n → AllByRecursion (λ line. IsActionBelow n line.action) given.lines → IsSound u past → IsExplained u given told taken past → AllBelow n u.logs past
explained-below u n handles given told taken past few within sound is =
    phases-below u n handles plan within 1 given.phases told.ticked told.stepped taken is.begun past is.ran sound
    (opened-below u n handles given.restarts is.ended given.streams is.setup is.restarted is.begun few is.restarts_ended is.opened is.alone (sound-front u grown.0 is.begun (subst (IsSound u) grown.1 sound)))
  where
    plan : Plan
    plan = record { lines = given.lines; answers = is.answers; ticks = given.ticks; aheads = given.aheads }

    grown : (during : List Entry) × (past ≡ during ++ is.begun)
    grown = phases-grow u n handles plan within 1 given.phases told.ticked told.stepped taken is.begun past is.ran

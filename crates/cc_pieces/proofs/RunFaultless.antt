-- Where the journal of a run shows no failure, no answer tells one.
use Rattle.std.specs.Prelude.{◌≡◌, ◌≢◌, ℕ, zero, suc, ◌+◌, ◌<◌, ◌≤◌, Bool, true, false, ◌==◌, List, [], ◌∷◌, ◌++◌, length, take, drop, map, refl, ◌⊎◌, if◌then◌else◌}
use Rattle.std.specs.declared.option.Option.{Option}
use Rattle.std.specs.declared.option.Option.TheVariants.{Some, None}
use Rattle.std.specs.List.{AllByRecursion}
use Rattle.std.proofs.Common.{sym, ap, arith, subst, ◌∙◌, inl, inr, eq-eqb}
use Rattle.std.proofs.lemmas.Bool.{cases_lt}
use Rattle.std.proofs.lemmas.List.{length-map, take-append-drop, take_at}
use Rattle.cc_entry.specs.declared.answer.Answer.{Answer}
use Rattle.cc_entry.specs.declared.answer.Answer.TheVariants as answer
use Rattle.cc_entry.specs.declared.answer.LineReply.{LineReply}
use Rattle.cc_entry.specs.declared.place.Request.{Request}
use Rattle.cc_entry.specs.declared.call.Call.{Call}
use Rattle.cc_entry.specs.declared.call.Call.TheVariants as call
use Rattle.cc_entry.specs.declared.entry.Entry.{Entry}
use Rattle.cc_entry.specs.declared.error.CcError.{CcError}
use Rattle.cc_entry.specs.declared.reply.Reply.TheVariants as reply
use Rattle.cc_format.specs.declared.record.StreamRecord.{StreamRecord}
use Rattle.cc_format.specs.declared.record.StreamRecord.TheVariants.{V1, V2}
use Rattle.cc_script.specs.Within.{IsLineWithin}
use Rattle.cc_script.specs.declared.script.Action.{Action}
use Rattle.cc_script.specs.declared.script.ActionLine.{ActionLine}
use Rattle.cc_script.specs.declared.script.RestartLine.{RestartLine}
use Rattle.cc_script.specs.declared.script.StreamLine.{StreamLine}
use Rattle.cc_model.specs.Allowed.{is_fault}
use Rattle.cc_model.specs.Setup.{Setup}
use Rattle.cc_pieces.specs.Bindings.{Binding}
use Rattle.cc_pieces.specs.Explained.{Answered, GivenToRun, IsExplained, answered_lines}
use Rattle.cc_pieces.specs.Faultless.{tells_fault}
use Rattle.cc_pieces.specs.Openings.{LoggedOpening, MigrationLeft, Opened, OpeningBehind, RecordedOpening, StreamOpening, first_object_of, opening_call, recorded_call}
use Rattle.cc_pieces.specs.Phases.{PhasesRan, Plan, is_of_phase, lazy_writer, lines_in, read_ahead_worker}
use Rattle.cc_pieces.specs.Restarts.{refusal_told, refused_for, refused_restart}
use Rattle.cc_pieces.specs.Runs.{Ran, asked_of}
use Rattle.cc_pieces.specs.Served.{bindings_after}
use Rattle.cc_pieces.proofs.Faultless.{ShowsNone, TellNone, answered-none, failed-tells-none, load-none, none-front, served-none, settle-none, tell-append}
use Rattle.cc_pieces.proofs.LeftStreams.{HasHandles, IsActionBelow}
use Rattle.cc_pieces.proofs.RunStreams.{LinesBelow, asked-below, left-opened, left-ran, phases-grow}
use Rattle.cc_pieces.proofs.TickSteps.{ticks-none}
use Rattle.cc_pieces.proofs.AheadSteps.{aheads-none}

-- no answer of lines tells a fault
abbrev LinesTellNone : List (Action × Answer) → Type 0
LinesTellNone lines = AllByRecursion (λ line. tells_fault line.1 ≡ false) lines

-- the answer of a line that is among those asked, and those of the others
asked-head : (b : Bool) (line : Action × Answer) (rest : List (Action × Answer)) → b ≡ true → LinesTellNone (if b then line ∷ rest else rest) → tells_fault line.1 ≡ false
asked-head true line rest is all = all.0
asked-head false line rest is all = absurd (cc is)

asked-tail : (b : Bool) (line : Action × Answer) (rest : List (Action × Answer)) → LinesTellNone (if b then line ∷ rest else rest) → LinesTellNone rest
asked-tail true line rest all = all.1
asked-tail false line rest all = all

-- where no line of a caller of a phase is told a fault, no reply tells one
every-told : (streams : List StreamLine) (phases : ℕ) (lines : List ActionLine) (replies : List LineReply) → answered_lines replies ≡ map (λ line. line.line) lines → AllByRecursion (IsLineWithin streams phases) lines → ((phase me : ℕ) → 1 ≤ phase → phase ≤ phases → 1 ≤ me → me ≤ 16 → LinesTellNone (asked_of (is_of_phase phase me) lines replies)) → TellNone replies
every-told streams phases lines [] same within each = tt
every-told streams phases [] (reply ∷ replies) same within each = absurd (cc same)
every-told streams phases (line ∷ lines) (reply ∷ replies) same within each = (
  asked-head (is_of_phase line.phase line.caller line) (line.action, reply.answer) (asked_of (is_of_phase line.phase line.caller) lines replies)
      (rw (eq-eqb line.caller line.caller refl, eq-eqb line.phase line.phase refl) refl)
      (each line.phase line.caller within.0.first_phase within.0.last_phase within.0.first_caller within.0.last_caller),
  every-told streams phases lines replies (cc same) within.1
      (λ phase me first last low high. asked-tail (is_of_phase phase me line) (line.action, reply.answer) (asked_of (is_of_phase phase me) lines replies) (each phase me first last low high)),
)

-- where no restart told a fault, it is no fault by which the restart of a log was refused
told-none : (told : Answer) (e : CcError) → tells_fault told ≡ false → refusal_told told ≡ Some e → is_fault e ≡ false
told-none (answer.Refused f) e none is = let same : f ≡ e = cc is in subst (λ (e : CcError). is_fault e ≡ false) same none
told-none other e none is = absurd (cc is)

refused-none : (handle : ℕ) (restarts : List RestartLine) (ended : List LineReply) → TellNone ended → (e : CcError) → refused_restart handle restarts ended ≡ Some e → is_fault e ≡ false
refused-none handle [] ended none e is = absurd (cc is)
refused-none handle (restart ∷ restarts) [] none e is = absurd (cc is)
refused-none handle (restart ∷ restarts) (reply ∷ ended) none e is =
    by (restart.handle == handle) (refused-none handle restarts ended none.1 e) is
  where
    by : (b : Bool) → (refused_restart handle restarts ended ≡ Some e → is_fault e ≡ false) → (if b then refusal_told reply.answer else refused_restart handle restarts ended) ≡ Some e → is_fault e ≡ false
    by true rest is = told-none reply.answer e none.0 is
    by false rest is = rest is

refused_for-none : (log : Option ℕ) (restarts : List RestartLine) (ended : List LineReply) → TellNone ended → (e : CcError) → refused_for log restarts ended ≡ Some e → is_fault e ≡ false
refused_for-none None restarts ended none e is = absurd (cc is)
refused_for-none (Some handle) restarts ended none e is = refused-none handle restarts ended none e is

module _ (u : Setup) (n : ℕ) (handles : HasHandles u) where
  ran-none : (limit me : ℕ) (bindings : List Binding) (lines : List (Action × Answer)) (old new : List Entry) → LinesBelow n lines → Ran u limit me bindings lines old new → ShowsNone new → LinesTellNone lines
  ran-none limit me bindings [] old new below ran none = tt
  ran-none limit me bindings (line ∷ more) old new below ran none =
      let rest = left-ran u n handles limit me (bindings_after line.0 line.1 bindings) more ran.0 new below.1 ran.2 in
      let front : ShowsNone ran.0 = none-front rest.during ran.0 (subst ShowsNone rest.grew none) in
      (served-none u me bindings line.0 line.1 old ran.0 ran.1.served front, ran-none limit me (bindings_after line.0 line.1 bindings) more ran.0 new below.1 ran.2 none)

  logged-none : (s : ℕ) (it : Call) (log : Option ℕ) (told : Answer) (old new : List Entry) → LoggedOpening u s it log told old new → ShowsNone new → tells_fault told ≡ false
  logged-none s it None told old new opened none = answered-none u 0 it told old new opened none
  logged-none s it (Some handle) told old new (inl refused) none = ap tells_fault refused.1 ∙ failed-tells-none u 0 it refused.0 old new refused.2 none
  logged-none s it (Some handle) told old new (inr done) none = answered-none u 0 (call.SetLog (first_object_of s) handle) told done.0 new done.2 none

  migration-none : (s : ℕ) (told : Answer) (old new : List Entry) → MigrationLeft u s told old new → ShowsNone new → tells_fault told ≡ false
  migration-none s (answer.Given reply.Unit) old new left none = refl
  migration-none s (answer.Refused e) old new left none = settle-none u 0 (first_object_of s) e old new left none
  migration-none s other old new left none = absurd left

  recorded-none : (s : ℕ) (stream : StreamLine) (read : Option StreamRecord) (told : Answer) (old new : List Entry) → RecordedOpening u s stream read told old new → ShowsNone new → tells_fault told ≡ false
  recorded-none s stream None told old new opened none = logged-none s (recorded_call s stream None) stream.log told old new opened none
  recorded-none s stream (Some (V2 size valid)) told old new opened none = logged-none s (recorded_call s stream (Some (V2 size valid))) stream.log told old new opened none
  recorded-none s stream (Some (V1 size)) told old new (inl refused) none = logged-none s (recorded_call s stream (Some (V1 size))) stream.log told old new refused.2 none
  recorded-none s stream (Some (V1 size)) told old new (inr done) none = migration-none s told done.0 new done.2 none

  opening-none : (s : ℕ) (stream : StreamLine) (stored : Bool) (told : Answer) (old new : List Entry) → StreamOpening u s stream stored told old new → ShowsNone new → tells_fault told ≡ false
  opening-none s stream false told old new opened none = logged-none s (opening_call s stream) stream.log told old new opened none
  opening-none s stream true told old new (inl unread) none = ap tells_fault unread.1 ∙ load-none 0 s unread.0 old new unread.2 none
  opening-none s stream true told old new (inr is) none = recorded-none s stream is.read told is.loaded new is.opened none

  behind-none : (s : ℕ) (stream : StreamLine) (refused : Option CcError) (told : Answer) (old new : List Entry) → ((e : CcError) → refused ≡ Some e → is_fault e ≡ false) → OpeningBehind u s stream refused told old new → ShowsNone new → tells_fault told ≡ false
  behind-none s stream (Some e) told old new calm opened none = ap tells_fault opened.0 ∙ calm e refl
  behind-none s stream None told old new calm opened none = opening-none s stream stream.stored told old new opened none

  module _ (restarts : List RestartLine) (ended : List LineReply) (calm : TellNone ended) where
    opened-none : (s : ℕ) (streams : List StreamLine) (replies : List LineReply) (old new : List Entry) → s + length streams ≤ n → Opened u restarts ended s streams replies old new → ShowsNone new → TellNone replies
    opened-none s [] [] old new few opened none = tt
    opened-none s [] (reply ∷ replies) old new few opened none = absurd opened
    opened-none s (stream ∷ streams) [] old new few opened none = absurd opened
    opened-none s (stream ∷ streams) (reply ∷ replies) old new few opened none =
        let rest = left-opened u n handles restarts ended (suc s) streams replies opened.0 new (omega (arith, few)) opened.2 in
        let front : ShowsNone opened.0 = none-front rest.during opened.0 (subst ShowsNone rest.grew none) in (
          behind-none s stream (refused_for stream.log restarts ended) reply.answer old opened.0 (refused_for-none stream.log restarts ended calm) opened.1.opened front,
          opened-none (suc s) streams replies opened.0 new (omega (arith, few)) opened.2 none,
        )

  module _ (plan : Plan) (within : AllByRecursion (λ line. IsActionBelow n line.action) plan.lines) where
    phases-none : (phase left : ℕ) (ticked stepped : List LineReply) (taken : List Request) (old new : List Entry) → PhasesRan u plan phase left ticked stepped taken old new → ShowsNone new → (p me : ℕ) → phase ≤ p → p < phase + left → me ≢ lazy_writer → me ≢ read_ahead_worker → LinesTellNone (lines_in plan p me)
    phases-none phase zero ticked stepped taken old new ran none p me first last lazy ahead = absurd (omega (arith, first, last))
    phases-none phase (suc left) ticked stepped taken old new ran none p me first last lazy ahead =
        by (cases_lt phase p) (λ first last. phases-none (suc phase) left _ _ _ ran.0 new ran.4 none p me first last lazy ahead)
      where
        front : ShowsNone ran.0
        front =
            let more = phases-grow u n handles plan within (suc phase) left _ _ _ ran.0 new ran.4 in
            none-front more.0 ran.0 (subst ShowsNone more.1 none)

        here : LinesTellNone (lines_in plan phase me)
        here =
            ran-none _ me _ (lines_in plan phase me) old ran.0 (asked-below n (is_of_phase phase me) plan.lines plan.answers within)
            (ran.3.callers me lazy ahead) front

        by : (phase < p) ⊎ (p ≤ phase) → (suc phase ≤ p → p < suc phase + left → LinesTellNone (lines_in plan p me)) → LinesTellNone (lines_in plan p me)
        by (inl later) more = more (omega (arith, later)) (omega (arith, last))
        by (inr now) more = let same : phase ≡ p = omega (arith, now, first) in subst (λ q. LinesTellNone (lines_in plan q me)) same here

    -- nor is a tick of any phase
    phases-ticks-none : (phase left : ℕ) (ticked stepped : List LineReply) (taken : List Request) (old new : List Entry) → PhasesRan u plan phase left ticked stepped taken old new → ShowsNone new → TellNone ticked
    phases-ticks-none phase zero ticked stepped taken old new ran none = subst TellNone (sym ran.0) tt
    phases-ticks-none phase (suc left) ticked stepped taken old new ran none =
        let more = phases-grow u n handles plan within (suc phase) left _ _ _ ran.0 new ran.4 in
        subst TellNone (take-append-drop plan.ticks ticked)
        (tell-append (take plan.ticks ticked) (drop plan.ticks ticked)
        (ticks-none u n handles 32 phase (take plan.ticks ticked) old ran.0 ran.3.ticks (none-front more.0 ran.0 (subst ShowsNone more.1 none)))
        (phases-ticks-none (suc phase) left (drop plan.ticks ticked) _ _ ran.0 new ran.4 none))

    -- nor is a step of read-ahead
    phases-steps-none : (phase left : ℕ) (ticked stepped : List LineReply) (taken : List Request) (old new : List Entry) → PhasesRan u plan phase left ticked stepped taken old new → ShowsNone new → TellNone stepped
    phases-steps-none phase zero ticked stepped taken old new ran none = subst TellNone (sym ran.1) tt
    phases-steps-none phase (suc left) ticked stepped taken old new ran none =
        let more = phases-grow u n handles plan within (suc phase) left _ _ _ ran.0 new ran.4 in
        subst TellNone (take-append-drop ran.1 stepped)
        (tell-append (take ran.1 stepped) (drop ran.1 stepped)
        (aheads-none u n handles 32 phase (take ran.1 stepped) (take ran.2 taken) old ran.0 ran.3.steps (none-front more.0 ran.0 (subst ShowsNone more.1 none)))
        (phases-steps-none (suc phase) left _ (drop ran.1 stepped) _ ran.0 new ran.4 none))

-- Where the journal of a run shows no failure, and no restart told one, which has no entry, no answer tells one, of a line, of a
-- tick or of a read-ahead step.
pub explained-none : (u : Setup) (n : ℕ) (handles : HasHandles u) (given : GivenToRun) (told : Answered) (taken : List Request) (past : List Entry) → length given.streams ≤ n → AllByRecursion (λ line. IsActionBelow n line.action) given.lines → AllByRecursion (IsLineWithin given.streams given.phases) given.lines → IsExplained u given told taken past → ShowsNone past → TellNone (take (length given.restarts) told.replies) → TellNone (told.replies ++ told.ticked ++ told.stepped)
explained-none u n handles given told taken past few below within is none calm =
    tell-append (told.replies ++ told.ticked) told.stepped
    (tell-append told.replies told.ticked
    (subst TellNone (sym is.replies_are) (tell-append is.ended (is.setup ++ is.answers) ended
    (tell-append is.setup is.answers (opened-none u n handles given.restarts is.ended ended 0 given.streams is.setup is.restarted is.begun (omega (arith, few)) is.opened front) answers)))
    (phases-ticks-none u n handles plan below 1 given.phases told.ticked told.stepped taken is.begun past is.ran none))
    (phases-steps-none u n handles plan below 1 given.phases told.ticked told.stepped taken is.begun past is.ran none)
  where
    plan : Plan
    plan = record { lines = given.lines; answers = is.answers; ticks = given.ticks; aheads = given.aheads }

    front : ShowsNone is.begun
    front =
        let more = phases-grow u n handles plan below 1 given.phases told.ticked told.stepped taken is.begun past is.ran in
        none-front more.0 is.begun (subst ShowsNone more.1 none)

    as-many : length is.ended ≡ length given.restarts
    as-many =
        sym (length-map is.ended (λ reply. reply.line)) ∙ (ap length is.restart_lines ∙ length-map given.restarts (λ restart. restart.line))

    ended : TellNone is.ended
    ended =
        let first : take (length given.restarts) told.replies ≡ is.ended =
        ap (take (length given.restarts)) is.replies_are ∙ take_at is.ended (is.setup ++ is.answers) (length given.restarts) as-many in
        subst TellNone first calm

    answers : TellNone is.answers
    answers =
        every-told given.streams given.phases given.lines is.answers is.answer_lines within
        (λ phase me first last low high. phases-none u n handles plan below 1 given.phases told.ticked told.stepped taken is.begun past is.ran none phase me first (omega (arith, last))
        (λ same. absurd (omega (arith, same, high))) (λ same. absurd (omega (arith, same, high))))

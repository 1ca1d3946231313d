-- The run of the phases, one after the other, explains all answers.
use Rattle.std.specs.Prelude.{◌≡◌, ◌≢◌, ℕ, zero, suc, ◌+◌, ◌<◌, ◌≤◌, ◌==◌, ◌&&◌, Bool, true, false, List, [], ◌∷◌, ◌++◌, length, take, drop, refl, if◌then◌else◌}
use Rattle.std.specs.List.{AllByRecursion, list_all}
use Rattle.std.proofs.Common.{sym, ap, subst, ◌∙◌, arith, append-nil, append_assoc}
use Rattle.std.proofs.lemmas.Bool.{le-ltb, lt-ltb, ne_eqb}
use Rattle.std.proofs.lemmas.List.{length-append, length-map}
use Rattle.std.proofs.lemmas.List.Folds.{list_all-append}
use Rattle.cc_entry.specs.declared.answer.LineReply.{LineReply}
use Rattle.cc_entry.specs.declared.entry.Entry.{Entry}
use Rattle.cc_entry.specs.declared.place.Request.{Request}
use Rattle.cc_script.specs.declared.script.ActionLine.{ActionLine}
use Rattle.cc_script.specs.declared.script.Script.{Script}
use Rattle.cc_script.specs.Within.{ScriptIsWithin}
use Rattle.cc_model.specs.Setup.{Setup}
use Rattle.cc_effects.specs.Moments.{IsIdle}
use Rattle.cc_pieces.specs.Rooms.{is_alone}
use Rattle.cc_pieces.specs.Runs.{asked_of}
use Rattle.cc_pieces.specs.Phases.{Plan, PhaseRan, PhasesRan, is_before_phase, is_of_phase, lines_before}
use Rattle.cc_pieces.specs.Explained.{IsExplained}
use Rattle.cc_pieces.proofs.AskedLines.{asked-none}
use Rattle.cc_run.specs.Lines.{StreamsOpened, after_lines, asked_by_caller}
use Rattle.cc_program.specs.Runs.{given_of, run_answered}
use Rattle.cc_run.specs.Once.{AllTellPart, AreToldOnce}
use Rattle.cc_run.specs.Phases.{PhaseLeft, PhasesLeft, PhasesServed}
use Rattle.cc_run.specs.Aheads.{StepsLeft}
use Rattle.cc_run.specs.Ticks.{TicksLeft}
use Rattle.cc_run.proofs.Lists.{all-map, all-join}
use Rattle.cc_restarts.specs.declared.ended.LogRestart.{LogRestart}
use Rattle.cc_run.specs.Begun.{RunHasBegun}
use Rattle.cc_run.proofs.Begins.{streams-long}
use Rattle.cc_run.proofs.Ending.{ended-lines, restarted-ended}
use Rattle.cc_run.proofs.Opening.{opened-left}
use Rattle.cc_run.proofs.PhaseSteps.{phases-lines, same-long}
use Rattle.cc_run.proofs.RowSteps.{taken}
use Rattle.cc_run.proofs.ToldOnce.{kept-parts, part-lines, phases-part, told-parts}
use Rattle.cc_run.proofs.WordSteps.{asked-append}

-- a line of another phase, and one of another caller
of_other : (q me : ℕ) (line : ActionLine) → line.phase ≢ q → is_of_phase q me line ≡ false
of_other q me line apart = rw (ne_eqb line.phase q apart) (by (line.caller == me))
  where
    by : (b : Bool) → (b && false) ≡ false
    by true = refl
    by false = refl

-- nor is a line of this phase or a later one of an earlier phase, but one of an earlier phase is, where it is the caller's
no_before : (q me : ℕ) (line : ActionLine) → q ≤ line.phase → is_before_phase q me line ≡ false
no_before q me line least = rw (le-ltb line.phase q least) (by (line.caller == me))
  where
    by : (b : Bool) → (b && false) ≡ false
    by true = refl
    by false = refl

is_before : (q me : ℕ) (line : ActionLine) → line.phase < q → is_before_phase q me line ≡ (line.caller == me)
is_before q me line less = rw (lt-ltb line.phase q less) (by (line.caller == me))
  where
    by : (b : Bool) → (b && true) ≡ b
    by true = refl
    by false = refl

-- what a caller was asked before a phase, of the earlier phases' lines
asked-earlier : (q me : ℕ) (lines : List ActionLine) (replies : List LineReply) → AllByRecursion (λ line. line.phase < q) lines → asked_of (is_before_phase q me) lines replies ≡ asked_by_caller me lines replies
asked-earlier q me [] replies less = refl
asked-earlier q me (line ∷ lines) [] less = refl
asked-earlier q me (line ∷ lines) (reply ∷ replies) less = rw (is_before q me line less.0, asked-earlier q me lines replies less.1) refl

no_caller : (q me : ℕ) (line : ActionLine) → 16 < me → line.caller ≤ 16 → is_of_phase q me line ≡ false
no_caller q me line above few = rw (ne_eqb line.caller me (λ e. omega (arith, e, above, few))) refl

-- whether a phase is of one caller is said by its own lines
alone-behind : (phase : ℕ) (front lines : List ActionLine) → AllByRecursion (λ line. line.phase ≢ phase) front → is_alone phase (front ++ lines) ≡ is_alone phase lines
alone-behind phase [] lines apart = refl
alone-behind phase (line ∷ front) lines apart = rw (ne_eqb line.phase phase apart.0) (alone-behind phase front lines apart.1)

others-pass : (phase caller : ℕ) (lines : List ActionLine) → AllByRecursion (λ line. line.phase ≢ phase) lines → list_all (λ other. if other.phase == phase then other.caller == caller else true) lines ≡ true
others-pass phase caller [] apart = refl
others-pass phase caller (line ∷ lines) apart = rw (ne_eqb line.phase phase apart.0) (others-pass phase caller lines apart.1)

alone-before : (phase : ℕ) (lines more : List ActionLine) → AllByRecursion (λ line. line.phase ≢ phase) more → is_alone phase (lines ++ more) ≡ is_alone phase lines
alone-before phase [] more apart = ap (is_alone phase) (sym (append-nil more)) ∙ alone-behind phase more [] apart
alone-before phase (line ∷ lines) more apart = by (line.phase == phase) (alone-before phase lines more apart)
  where
    own : ActionLine → Bool
    own other = if other.phase == phase then other.caller == line.caller else true

    and-true : (b : Bool) → (b && true) ≡ b
    and-true true = refl
    and-true false = refl

    by : (b : Bool) → is_alone phase (lines ++ more) ≡ is_alone phase lines → (if b then list_all own (lines ++ more) else is_alone phase (lines ++ more)) ≡ (if b then list_all own lines else is_alone phase lines)
    by true rest =
        list_all-append own lines more ∙ (ap (λ b. list_all own lines && b) (others-pass phase line.caller more apart) ∙ and-true (list_all own lines))
    by false rest = rest

-- each line of several phases is of one of them
phases-within : (u : Setup) (ticks aheads n : ℕ) (lines : List ActionLine) (replies ticked stepped : List LineReply) (taken : List Request) (old new : List Entry) → PhasesLeft u ticks aheads n lines replies ticked stepped taken old new → AllByRecursion (λ line. line.phase ≤ n) lines
phases-within u ticks aheads zero lines replies ticked stepped taken old new left = rw left.0 tt
phases-within u ticks aheads (suc n) lines replies ticked stepped taken old new left =
    rw left.11 (all-join (λ line. line.phase ≤ suc n) left.0 left.1
    (all-map (λ line. line.phase ≤ n) (λ line. line.phase ≤ suc n) left.0 (λ line less. omega (arith, less)) (phases-within u ticks aheads n left.0 left.2 left.4 left.6 left.8 old left.10 left.16))
    (all-map (λ line. line.phase ≡ suc n) (λ line. line.phase ≤ suc n) left.1 (λ line is. omega (arith, is)) left.17))

-- What a phase of a run left: of the lines of all phases, its own are the last of those up to it.
module _ (u : Setup) (ticks aheads : ℕ) (all : List ActionLine) (answers : List LineReply) where
  abbrev plan : Plan
  plan = record { lines = all; answers = answers; ticks = ticks; aheads = aheads }

  phase-ran : (phase : ℕ) (earlier last later : List ActionLine) (told own others ticked stepped : List LineReply) (taken : List Request) (old new : List Entry) → all ≡ earlier ++ (last ++ later) → answers ≡ told ++ (own ++ others) → length earlier ≡ length told → AllByRecursion (λ line. line.phase < phase) earlier → AllByRecursion (λ line. line.phase ≡ phase) last → AllByRecursion (λ line. phase < line.phase) later → PhaseLeft u phase ticks aheads (after_lines earlier told (λ me. [])) last own old new → TicksLeft u phase ticks ticked old new → StepsLeft u phase aheads stepped taken old new → PhaseRan u plan phase ticked stepped taken old new
  phase-ran phase earlier last later told own others ticked stepped taken old new lines_are replies_are long less those more left ticks_left steps_left = record {
    callers = λ me lazy ahead. rw (asked me, alone, asked-before me) (left.ran me lazy ahead);
    all_ticks = ticks_left.counted;
    ticks = ticks_left.ran;
    all_steps = steps_left.counted;
    steps = steps_left.ran;
  }
    where
      other : (me : ℕ) (lines : List ActionLine) → AllByRecursion (λ line. line.phase ≢ phase) lines → AllByRecursion (λ line. is_of_phase phase me line ≡ false) lines
      other me lines apart = all-map (λ line. line.phase ≢ phase) (λ line. is_of_phase phase me line ≡ false) lines (of_other phase me) apart

      before : AllByRecursion (λ line. line.phase ≢ phase) earlier
      before = all-map (λ line. line.phase < phase) (λ line. line.phase ≢ phase) earlier (λ line lower e. omega (arith, lower, e)) less

      behind : AllByRecursion (λ line. line.phase ≢ phase) later
      behind = all-map (λ line. phase < line.phase) (λ line. line.phase ≢ phase) later (λ line higher e. omega (arith, higher, e)) more

      asked-before : (me : ℕ) → lines_before plan phase me ≡ asked_by_caller me earlier told
      asked-before me =
          let test = is_before_phase phase me in
          let rest : AllByRecursion (λ line. phase ≤ line.phase) (last ++ later) =
          all-join (λ line. phase ≤ line.phase) last later
          (all-map (λ line. line.phase ≡ phase) (λ line. phase ≤ line.phase) last (λ line is. omega (arith, is)) those)
          (all-map (λ line. phase < line.phase) (λ line. phase ≤ line.phase) later (λ line higher. omega (arith, higher)) more) in
          ap (λ l. asked_of test l answers) lines_are
          ∙ (ap (λ r. asked_of test (earlier ++ (last ++ later)) r) replies_are
          ∙ (asked-append test earlier (last ++ later) told (own ++ others) long
          ∙ (ap (λ l. asked_of test earlier told ++ l) (asked-none test (last ++ later) (own ++ others)
          (all-map (λ line. phase ≤ line.phase) (λ line. test line ≡ false) (last ++ later) (no_before phase me) rest))
          ∙ (append-nil (asked_of test earlier told) ∙ asked-earlier phase me earlier told less))))

      asked : (me : ℕ) → asked_of (is_of_phase phase me) all answers ≡ asked_of (is_of_phase phase me) last own
      asked me =
          let test = is_of_phase phase me in
          ap (λ l. asked_of test l answers) lines_are
          ∙ (ap (λ r. asked_of test (earlier ++ (last ++ later)) r) replies_are
          ∙ (asked-append test earlier (last ++ later) told (own ++ others) long
          ∙ (ap (λ l. l ++ asked_of test (last ++ later) (own ++ others)) (asked-none test earlier told (other me earlier before))
          ∙ (asked-append test last later own others (same-long last own left.lines_are)
          ∙ (ap (λ l. asked_of test last own ++ l) (asked-none test later others (other me later behind))
          ∙ append-nil (asked_of test last own))))))

      alone : is_alone phase all ≡ is_alone phase last
      alone = ap (is_alone phase) lines_are ∙ (alone-behind phase earlier (last ++ later) before ∙ alone-before phase last later behind)

  -- the phases up to one, where the later ones ran behind them
  phases-ran : (n left_over : ℕ) (lines more : List ActionLine) (replies others ticked later_ticked stepped later_stepped : List LineReply) (took later_took : List Request) (old between new : List Entry) → all ≡ lines ++ more → answers ≡ replies ++ others → AllByRecursion (λ line. n < line.phase) more → PhasesLeft u ticks aheads n lines replies ticked stepped took old between → PhasesRan u plan (suc n) left_over later_ticked later_stepped later_took between new → PhasesRan u plan 1 (n + left_over) (ticked ++ later_ticked) (stepped ++ later_stepped) (took ++ later_took) old new
  phases-ran zero left_over lines more replies others ticked later_ticked stepped later_stepped took later_took old between new lines_are replies_are later left ran =
      let counted : left_over ≡ 0 + left_over = omega arith in
      let ticks_are : later_ticked ≡ ticked ++ later_ticked = sym (ap (λ l. l ++ later_ticked) left.2) in
      let steps_are : later_stepped ≡ stepped ++ later_stepped = sym (ap (λ l. l ++ later_stepped) left.3) in
      let took_are : later_took ≡ took ++ later_took = sym (ap (λ l. l ++ later_took) left.4) in
      subst (λ past. PhasesRan u plan 1 (0 + left_over) (ticked ++ later_ticked) (stepped ++ later_stepped) (took ++ later_took) past new) left.5
      (subst (λ count. PhasesRan u plan 1 count (ticked ++ later_ticked) (stepped ++ later_stepped) (took ++ later_took) between new) counted
      (subst (λ l. PhasesRan u plan 1 left_over l (stepped ++ later_stepped) (took ++ later_took) between new) ticks_are
      (subst (λ l. PhasesRan u plan 1 left_over later_ticked l (took ++ later_took) between new) steps_are
      (subst (λ l. PhasesRan u plan 1 left_over later_ticked later_stepped l between new) took_are ran))))
  phases-ran (suc n) left_over lines more replies others ticked later_ticked stepped later_stepped took later_took old between new lines_are replies_are later left ran =
      let counted : n + suc left_over ≡ suc n + left_over = omega arith in
      subst (λ l. PhasesRan u plan 1 (suc n + left_over) l (stepped ++ later_stepped) (took ++ later_took) old new) ticked_parts
      (subst (λ l. PhasesRan u plan 1 (suc n + left_over) (left.4 ++ (left.5 ++ later_ticked)) l (took ++ later_took) old new) stepped_parts
      (subst (λ l. PhasesRan u plan 1 (suc n + left_over) (left.4 ++ (left.5 ++ later_ticked)) (left.6 ++ (left.7 ++ later_stepped)) l old new) took_parts
      (subst (λ count. PhasesRan u plan 1 count (left.4 ++ (left.5 ++ later_ticked)) (left.6 ++ (left.7 ++ later_stepped)) (left.8 ++ (left.9 ++ later_took)) old new) counted
      (phases-ran n (suc left_over) left.0 (left.1 ++ more) left.2 (left.3 ++ others) left.4 (left.5 ++ later_ticked) left.6 (left.7 ++ later_stepped) left.8 (left.9 ++ later_took) old left.10 new lines_parts replies_parts
      (all-join (λ line. n < line.phase) left.1 more
      (all-map (λ line. line.phase ≡ suc n) (λ line. n < line.phase) left.1 (λ line is. omega (arith, is)) left.17)
      (all-map (λ line. suc n < line.phase) (λ line. n < line.phase) more (λ line less. omega (arith, less)) later))
      left.16 (between, length left.7, length left.9, rw (parts.0, step_parts.0, request_parts.0) one, rw (parts.1, step_parts.1, request_parts.1) ran)))))
    where
      lines_parts : all ≡ left.0 ++ (left.1 ++ more)
      lines_parts = lines_are ∙ (ap (λ l. l ++ more) left.11 ∙ append_assoc left.0 left.1 more)

      replies_parts : answers ≡ left.2 ++ (left.3 ++ others)
      replies_parts = replies_are ∙ (ap (λ l. l ++ others) left.12 ∙ append_assoc left.2 left.3 others)

      ticked_parts : left.4 ++ (left.5 ++ later_ticked) ≡ ticked ++ later_ticked
      ticked_parts = sym (ap (λ l. l ++ later_ticked) left.13 ∙ append_assoc left.4 left.5 later_ticked)

      stepped_parts : left.6 ++ (left.7 ++ later_stepped) ≡ stepped ++ later_stepped
      stepped_parts = sym (ap (λ l. l ++ later_stepped) left.14 ∙ append_assoc left.6 left.7 later_stepped)

      took_parts : left.8 ++ (left.9 ++ later_took) ≡ took ++ later_took
      took_parts = sym (ap (λ l. l ++ later_took) left.15 ∙ append_assoc left.8 left.9 later_took)

      -- the ticks of the phase are the first of those from it on, and so are its steps and what they took
      parts : (take ticks (left.5 ++ later_ticked) ≡ left.5) × (drop ticks (left.5 ++ later_ticked) ≡ later_ticked)
      parts = taken ticks left.5 later_ticked (omega (arith, left.19.counted, length-append left.5 later_ticked))

      step_parts : (take (length left.7) (left.7 ++ later_stepped) ≡ left.7) × (drop (length left.7) (left.7 ++ later_stepped) ≡ later_stepped)
      step_parts = taken (length left.7) left.7 later_stepped (omega (arith, length-append left.7 later_stepped))

      request_parts : (take (length left.9) (left.9 ++ later_took) ≡ left.9) × (drop (length left.9) (left.9 ++ later_took) ≡ later_took)
      request_parts = taken (length left.9) left.9 later_took (omega (arith, length-append left.9 later_took))

      one : PhaseRan u plan (suc n) left.5 left.7 left.9 left.10 between
      one =
          phase-ran (suc n) left.0 left.1 more left.2 left.3 others left.5 left.7 left.9 left.10 between lines_parts replies_parts
          (same-long left.0 left.2 (phases-lines u ticks aheads n left.0 left.2 left.4 left.6 left.8 old left.10 left.16))
          (all-map (λ line. line.phase ≤ n) (λ line. line.phase < suc n) left.0 (λ line less. omega (arith, less)) (phases-within u ticks aheads n left.0 left.2 left.4 left.6 left.8 old left.10 left.16))
          left.17 later left.18 left.19 left.20

  pub all-ran : (n : ℕ) (ticked stepped : List LineReply) (took : List Request) (old new : List Entry) → PhasesLeft u ticks aheads n all answers ticked stepped took old new → PhasesRan u plan 1 n ticked stepped took old new
  all-ran n ticked stepped took old new left =
      let counted : n + 0 ≡ n = omega arith in
      subst (λ count. PhasesRan u plan 1 count ticked stepped took old new) counted
      (subst (λ l. PhasesRan u plan 1 (n + 0) l stepped took old new) (append-nil ticked)
      (subst (λ l. PhasesRan u plan 1 (n + 0) (ticked ++ []) l took old new) (append-nil stepped)
      (subst (λ l. PhasesRan u plan 1 (n + 0) (ticked ++ []) (stepped ++ []) l old new) (append-nil took)
      (phases-ran n 0 all [] answers [] ticked [] stepped [] took [] old new new (sym (append-nil all)) (sym (append-nil answers)) tt left (refl, refl, refl, refl)))))

-- What the restarts, the streams and the phases of a script left, one after the other, explains all answers.
pub run-explained : (u v : Setup) (script : Script) (restarted : List LogRestart) (ended between replies kept all ticked stepped : List LineReply) (took : List Request) (ends begun past : List Entry) → ScriptIsWithin script → v ≡ u → all ≡ ended ++ kept → RunHasBegun u script restarted ended between ends begun → PhasesServed v script.ticks script.aheads script.phases script.lines between replies ticked stepped took begun past → AreToldOnce script.streams script.lines replies kept → IsExplained u (given_of script) (run_answered all ticked stepped) took past
run-explained u v script restarted ended between replies kept all ticked stepped took ends begun past within same all_is begins served_by told = record {
  ended = ended;
  setup = opened.answers;
  answers = drop (length script.streams) kept;
  restarted = ends;
  begun = begun;
  replies_are = all_is ∙ ap (λ l. ended ++ l) (kept-parts script.streams opened.answers served.answers between replies opened.grew served.grew setup_long kept told.setup);
  restart_lines = ended-lines u restarted ended [] ends begins.ended_are ∙ begins.are.lines;
  setup_lines = opened.lines_are;
  answer_lines = part-lines script.lines served.answers (drop (length script.streams) kept) part ∙ phases-lines u script.ticks script.aheads script.phases script.lines served.answers ticked stepped took begun past served.left;
  restarts_ended = restarted-ended u script.restarts restarted ended [] ends begins.are.handles begins.ended_are;
  opened = opened-left u script.restarts ended 0 script.streams opened.answers ends begun opened.left;
  alone = begins.alone;
  ran =
      phases-part u script.lines served.answers (drop (length script.streams) kept) script.ticks script.aheads part 1 script.phases ticked stepped took begun past
      (all-ran u script.ticks script.aheads script.lines served.answers script.phases ticked stepped took begun past served.left);
  posted_once = told.once;
}
  where
    opened : StreamsOpened u script.restarts ended 0 script.streams [] between ends begun
    opened = begins.opened

    served : PhasesServed u script.ticks script.aheads script.phases script.lines between replies ticked stepped took begun past
    served = rw same at served_by

    setup_long : length opened.answers ≡ length script.streams
    setup_long = sym (length-map opened.answers (λ r. r.line)) ∙ (ap length opened.lines_are ∙ length-map script.streams (λ s. s.line))

    -- what the lines told, and what is left of it
    part : AllTellPart script.lines served.answers (drop (length script.streams) kept)
    part = subst (λ l. AllTellPart script.lines l (drop (length script.streams) kept))
        (told-parts script.streams opened.answers served.answers between replies opened.grew served.grew setup_long) told.part

-- each stream and each line has a reply
pub run-long : (u v : Setup) (script : Script) (restarted : List LogRestart) (ended between replies ticked stepped : List LineReply) (took : List Request) (ends begun past : List Entry) → RunHasBegun u script restarted ended between ends begun → PhasesServed v script.ticks script.aheads script.phases script.lines between replies ticked stepped took begun past → length replies ≡ length script.streams + length script.lines
run-long u v script restarted ended between replies ticked stepped took ends begun past begins served =
    omega (
      arith,
      ap length served.grew,
      length-append between served.answers,
      streams-long u script restarted ended between ends begun begins,
      same-long script.lines served.answers (phases-lines v script.ticks script.aheads script.phases script.lines served.answers ticked stepped took begun past served.left),
    )

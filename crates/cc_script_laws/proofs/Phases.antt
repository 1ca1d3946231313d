-- The phases of a run, of which those with a checkpoint of the log have one caller: behind each phase every recorded update is set dirty,
-- and each entry keeps the form.
use Rattle.std.specs.Prelude.{◌≡◌, ◌≢◌, ℕ, zero, suc, ◌+◌, ◌==◌, ◌&&◌, ◌||◌, Bool, true, false, List, [], ◌∷◌, ◌++◌, length, take, drop, refl, ◌⊎◌}
use Rattle.std.specs.List.{AllByRecursion, list_any}
use Rattle.std.specs.declared.option.Option.TheVariants.{Some}
use Rattle.std.proofs.Common.{ap, arith, sym, subst, ◌∙◌, inl, inr}
use Rattle.std.proofs.lemmas.Bool.{and_parts, eqb-false, eqb-true, ne_eqb, or_parts}
use Rattle.cc_entry.specs.declared.answer.Answer.{Answer}
use Rattle.cc_entry.specs.declared.answer.LineReply.{LineReply}
use Rattle.cc_entry.specs.declared.entry.Entry.{Entry}
use Rattle.cc_entry.specs.declared.place.Request.{Request}
use Rattle.cc_script.specs.Checkpoints.{CheckpointsStandApart, StandApart, is_checkpoint}
use Rattle.cc_script.specs.declared.script.Action.{Action}
use Rattle.cc_script.specs.declared.script.Action.TheVariants as action
use Rattle.cc_script.specs.declared.script.ActionLine.{ActionLine}
use Rattle.cc_model.specs.Good.{IsGoodSoFar}
use Rattle.cc_model.specs.History.{history}
use Rattle.cc_model.specs.Objects.{had_map}
use Rattle.cc_model.specs.Passes.{HasSeen}
use Rattle.cc_model.specs.Settings.{log_of}
use Rattle.cc_model.specs.Setup.{Setup}
use Rattle.cc_effects.specs.Moments.{IsIdle}
use Rattle.cc_restart_laws.proofs.Entries.{updated-rest}
use Rattle.cc_restart_laws.specs.Updates.{IsUpdated}
use Rattle.cc_update_laws.proofs.Keeping.{KeepsAll, all-idle, all-then}
use Rattle.cc_update_laws.proofs.Recorded.{RecordsNone, none-idle, none-then, stamped-over}
use Rattle.cc_update_laws.specs.Keeping.{AreStamped, HasNoneOpen, OthersRecordNone, RowsFit}
use Rattle.cc_pieces.proofs.Grown.{grew-then}
use Rattle.cc_pieces.specs.Bindings.{Binding}
use Rattle.cc_pieces.specs.Explained.{Answered, GivenToRun, IsExplained}
use Rattle.cc_pieces.specs.Phases.{PhaseRan, PhasesRan, Plan, is_of_phase, lazy_writer, limit_in, lines_before, lines_in, read_ahead_worker}
use Rattle.cc_pieces.specs.Runs.{Ran, asked_of, bindings_of}
use Rattle.cc_pieces.specs.Served.{bindings_after}
use Rattle.cc_script_laws.specs.Lines.{IsKnownAt, IsUnwanting, checkpoints, left_to_updates}
use Rattle.cc_script_laws.specs.Told.{initialises}
use Rattle.cc_script_laws.proofs.BesideLines.{Beside, beside-idle, beside-served, beside-step, beside-then, beside-tick}
use Rattle.cc_script_laws.proofs.Growing.{seen-none}
use Rattle.cc_script_laws.proofs.Numbered.{ended-long, setup-long}
use Rattle.cc_script_laws.proofs.RecordsNone.{none-follows, none-opened, none-step, none-tick, others-none}
use Rattle.cc_script_laws.proofs.RunWalks.{asked-all, follow-restarts, ran-steps, ran-ticks}
use Rattle.cc_script_laws.proofs.Scripts.{nil-cons, updated-by}
use Rattle.cc_script_laws.proofs.Settles.{phases-grow}
use Rattle.cc_script_laws.proofs.Stamps.{Stamps, stamped-all, stamped-each, stamps-by, stamps-idle, stamps-served, stamps-then}
use Rattle.cc_script_laws.proofs.Stamping.{Alone, IsInvariant, StampedIf, stamped-invariant, alone-idle, alone-served, alone-then}

-- ---- the one caller of a phase that has a checkpoint of the log

clash : {b : Bool} → b ≡ true → b ≡ false → ⊥
clash a b = cc

and-false : (a : Bool) → (a && false) ≡ false
and-false true = refl
and-false false = refl

-- whether a line is a checkpoint of the log in the phase
abbrev is_one_of : ℕ → ℕ → ActionLine → Bool
is_one_of log phase line = line.phase == phase && checkpoints log line.action

a-checkpoint : (log : ℕ) (asked : Action) → checkpoints log asked ≡ true → is_checkpoint asked ≡ true
a-checkpoint log (action.Checkpoint streams handle) is = refl
a-checkpoint log other is = absurd (cc is)

left-or : (a b : Bool) → a ≡ true → (a || b) ≡ true
left-or a b is = rw is refl

right-or : (a b : Bool) → b ≡ true → (a || b) ≡ true
right-or true b is = refl
right-or false b is = is

-- The caller of a checkpoint, which every line of its phase has, and every line that stands apart from these.
record HasOneCaller (phase : ℕ) (lines : List ActionLine) : Type 0 where
  caller : ℕ
  each : AllByRecursion (λ (line : ActionLine). line.phase ≡ phase → line.caller ≡ caller) lines
  before : (line : ActionLine) → AllByRecursion (StandApart line) lines → line.phase ≡ phase → line.caller ≡ caller

one-caller : (log phase : ℕ) (lines : List ActionLine) → CheckpointsStandApart lines → list_any (is_one_of log phase) lines ≡ true → HasOneCaller phase lines
one-caller log phase [] apart has = absurd (cc has)
one-caller log phase (line ∷ lines) apart has = go (is_one_of log phase line) refl (list_any (is_one_of log phase) lines) refl (λ later. one-caller log phase lines apart.1 later)
  where
    all-same : (one : ActionLine) (others : List ActionLine) → one.phase ≡ phase → is_checkpoint one.action ≡ true → AllByRecursion (StandApart one) others → AllByRecursion (λ (other : ActionLine). other.phase ≡ phase → other.caller ≡ one.caller) others
    all-same one [] of_phase logs stands = tt
    all-same one (other ∷ others) of_phase logs stands =
        ((λ same. sym (stands.0 (of_phase ∙ sym same) (left-or (is_checkpoint one.action) (is_checkpoint other.action) logs))), all-same one others of_phase logs stands.1)

    first : is_one_of log phase line ≡ true → HasOneCaller phase (line ∷ lines)
    first is =
        let parts = and_parts (line.phase == phase) (checkpoints log line.action) is in
        let of_phase : line.phase ≡ phase = eqb-true line.phase phase parts.0 in
        let logs : is_checkpoint line.action ≡ true = a-checkpoint log line.action parts.1 in
        record {
          caller = line.caller;
          each = ((λ same. refl), all-same line lines of_phase logs apart.0);
          before = λ other stands same. stands.0 (same ∙ sym of_phase) (right-or (is_checkpoint other.action) (is_checkpoint line.action) logs);
        }

    neither : is_one_of log phase line ≡ false → list_any (is_one_of log phase) lines ≡ false → (is_one_of log phase line || list_any (is_one_of log phase) lines) ≡ false
    neither is rest = rw (is, rest) refl

    go : (b : Bool) → is_one_of log phase line ≡ b → (c : Bool) → list_any (is_one_of log phase) lines ≡ c → (list_any (is_one_of log phase) lines ≡ true → HasOneCaller phase lines) → HasOneCaller phase (line ∷ lines)
    go true is c rest later = first is
    go false is true rest later =
        let k = later rest in
        record { caller = k.caller; each = ((λ same. k.before line apart.0 same), k.each); before = λ other stands same. k.before other stands.1 same }
    go false is false rest later = absurd (clash has (neither is rest))

-- another has no line in the phase
others-asked : (phase me caller : ℕ) (lines : List ActionLine) (replies : List LineReply) → AllByRecursion (λ (line : ActionLine). line.phase ≡ phase → line.caller ≡ caller) lines → me ≢ caller → asked_of (is_of_phase phase me) lines replies ≡ []
others-asked phase me caller [] replies all apart = refl
others-asked phase me caller (line ∷ lines) [] all apart = refl
others-asked phase me caller (line ∷ lines) (reply ∷ replies) all apart = skipped ∙ others-asked phase me caller lines replies all.1 apart
  where
    not_of : (b : Bool) → (line.phase == phase) ≡ b → (line.caller == me && b) ≡ false
    not_of true is = rw (ne_eqb line.caller me (λ same. apart (sym same ∙ all.0 (eqb-true line.phase phase is)))) refl
    not_of false is = and-false (line.caller == me)

    skipped : asked_of (is_of_phase phase me) (line ∷ lines) (reply ∷ replies) ≡ asked_of (is_of_phase phase me) lines replies
    skipped = rw (not_of (line.phase == phase) refl) refl

-- A pass that is neither worker, beside which no other pass but the workers has lines in the phase.
record IsCaller (phase : ℕ) (lines : List ActionLine) : Type 0 where
  caller : ℕ
  no_writer : caller ≢ lazy_writer
  no_worker : caller ≢ read_ahead_worker
  others : (me : ℕ) → me ≢ lazy_writer → me ≢ read_ahead_worker → me ≢ caller → (replies : List LineReply) → asked_of (is_of_phase phase me) lines replies ≡ []

caller-of : (log phase : ℕ) (lines : List ActionLine) → CheckpointsStandApart lines → list_any (is_one_of log phase) lines ≡ true → IsCaller phase lines
caller-of log phase lines apart has = go (one.caller == lazy_writer) refl (one.caller == read_ahead_worker) refl
  where
    one : HasOneCaller phase lines
    one = one-caller log phase lines apart has

    asked : (me : ℕ) → me ≢ one.caller → (replies : List LineReply) → asked_of (is_of_phase phase me) lines replies ≡ []
    asked me other replies = others-asked phase me one.caller lines replies one.each other

    go : (a : Bool) → (one.caller == lazy_writer) ≡ a → (b : Bool) → (one.caller == read_ahead_worker) ≡ b → IsCaller phase lines
    go true is b is_b = record {
      caller = 0;
      no_writer = λ same. absurd (cc same);
      no_worker = λ same. absurd (cc same);
      others = λ me writer worker other. asked me (λ same. writer (same ∙ eqb-true one.caller lazy_writer is));
    }
    go false is true is_b = record {
      caller = 0;
      no_writer = λ same. absurd (cc same);
      no_worker = λ same. absurd (cc same);
      others = λ me writer worker other. asked me (λ same. worker (same ∙ eqb-true one.caller read_ahead_worker is_b));
    }
    go false is false is_b = record {
      caller = one.caller;
      no_writer = eqb-false one.caller lazy_writer is;
      no_worker = eqb-false one.caller read_ahead_worker is_b;
      others = λ me writer worker other. asked me other;
    }

-- ---- what is known of the lines of a caller

each-none : {A : Type 0} (test : A → Bool) (xs : List A) → AllByRecursion (λ x. list_any test xs ≡ false → test x ≡ false) xs
each-none {A = A} test [] = tt
each-none {A = A} test (x ∷ xs) =
    ((λ none. (or_parts (test x) (list_any test xs) none).0), further xs (each-none test xs) (λ none. (or_parts (test x) (list_any test xs) none).1))
  where
    further : (ys : List A) → AllByRecursion (λ y. list_any test xs ≡ false → test y ≡ false) ys → (list_any test (x ∷ xs) ≡ false → list_any test xs ≡ false) → AllByRecursion (λ y. list_any test (x ∷ xs) ≡ false → test y ≡ false) ys
    further [] all more = tt
    further (y ∷ ys) all more = ((λ none. all.0 (more none)), further ys all.1 more)

-- both of each
pub both-of : {T : Type 0} (A B : T → Type 0) (xs : List T) → AllByRecursion A xs → AllByRecursion B xs → AllByRecursion (λ (x : T). A x × B x) xs
both-of A B [] a b = tt
both-of A B (x ∷ xs) a b = ((a.0, b.0), both-of A B xs a.1 b.1)

-- ---- the lines of a pass in a phase without a checkpoint

-- lines that left the stream to its updates, each answered so, and what they left
pub record RanLines (u : Setup) (s log : ℕ) (Line : Action → Answer → Type 0) (me : ℕ) (old new : List Entry) : Type 0 where
  pub limit : ℕ
  pub bindings : List Binding
  pub lines : List (Action × Answer)
  pub each : AllByRecursion (λ (each : Action × Answer). (left_to_updates s log each.0 each.1 ≡ true) × Line each.0 each.1) lines
  pub ran : Ran u limit me bindings lines old new

-- a pass recorded no update, or ran such lines
abbrev pub LinesOf : Setup → ℕ → ℕ → (Action → Answer → Type 0) → ℕ → List Entry → List Entry → Type 0
LinesOf u s log Line me old new = RecordsNone s log me old new ⊎ RanLines u s log Line me old new

module _ (u : Setup) (given : GivenToRun) (told : Answered) (taken : List Request) (past : List Entry) (is : IsExplained u given told taken past) (good : IsGoodSoFar u past) (s log : ℕ) (opened : Type 0) (has_opened : opened → had_map (history is.begun s) ≡ true)
    (has_log : (log_of (history is.begun s) ≡ Some log) ⊎ (had_map (history past s) ≡ false)) (begun_keeps : (me : ℕ) → KeepsAll s log me [] is.begun)
    (opens : AllByRecursion (λ (each : ActionLine). opened ⊎ (initialises s each.action ≡ false)) given.lines)
    (leaves : AllByRecursion (λ (each : Action × Answer). left_to_updates s log each.0 each.1 ≡ true) (asked_of (λ line. true) given.lines is.answers)) (apart : CheckpointsStandApart given.lines)
    (known : AllByRecursion (λ (each : ActionLine). checkpoints log each.action ≡ true → IsKnownAt s log each.caller past) given.lines) (Line : Action → Answer → Type 0) (told_so : AllByRecursion (λ (each : Action × Answer). Line each.0 each.1) (asked_of (λ each. true) given.lines is.answers)) (Inv : List Entry → Type 0)
    (fit : (front : List Entry) → HasSeen front past → RowsFit log front)
    (alone_keeps : (me : ℕ) (base end : List Entry) → HasSeen is.begun base → HasSeen end past → OthersRecordNone s log me base end → IsInvariant u past s log me base end Inv Line)
    (many_keep : (old new : List Entry) → HasSeen is.begun old → HasSeen new past → HasSeen old new → ((me : ℕ) → LinesOf u s log Line me old new) → Inv old → Inv new) (first_held : Inv is.begun) where
  abbrev plan : Plan
  plan = record { lines = given.lines; answers = is.answers; ticks = given.ticks; aheads = given.aheads }

  abbrev Behind : ℕ → List Entry → List Entry → Type 0
  Behind me old new = Beside u past good s log is.begun opened has_opened me old new

  -- a line of a caller in a phase, of which this is known
  record IsFit (phase me : ℕ) (each : Action × Answer) : Type 0 where
    leaves_it : left_to_updates s log each.0 each.1 ≡ true
    may : opened ⊎ (initialises s each.0 ≡ false)
    its_line : Line each.0 each.1
    known_at : checkpoints log each.0 ≡ true → IsKnownAt s log me past
    silent : list_any (is_one_of log phase) given.lines ≡ false → checkpoints log each.0 ≡ false

  fits : (phase me : ℕ) → AllByRecursion (IsFit phase me) (lines_in plan phase me)
  fits phase me =
      asked-all
      (λ (each : ActionLine). ((checkpoints log each.action ≡ true → IsKnownAt s log each.caller past) × (opened ⊎ (initialises s each.action ≡ false))) × (list_any (is_one_of log phase) given.lines ≡ false → is_one_of log phase each ≡ false))
      (λ each. (left_to_updates s log each.0 each.1 ≡ true) × Line each.0 each.1) (IsFit phase me) (is_of_phase phase me)
      (λ each answer_of mine a b.
      let parts = and_parts (each.caller == me) (each.phase == phase) mine in
      record {
        leaves_it = b.0;
        may = a.0.1;
        its_line = b.1;
        known_at = λ of_log. subst (λ (n : ℕ). IsKnownAt s log n past) (eqb-true each.caller me parts.0) (a.0.0 of_log);
        silent = λ none. quiet (each.phase == phase) (checkpoints log each.action) parts.1 (a.1 none);
      }) given.lines is.answers (both-of _ _ given.lines (both-of _ _ given.lines known opens) (nones given.lines)) (both-of _ _ (asked_of (λ line. true) given.lines is.answers) leaves told_so)
    where
      quiet : (a b : Bool) → a ≡ true → (a && b) ≡ false → b ≡ false
      quiet true b is none = none
      quiet false b is none = absurd (cc is)

      nones : (lines : List ActionLine) → AllByRecursion (λ (each : ActionLine). list_any (is_one_of log phase) lines ≡ false → is_one_of log phase each ≡ false) lines
      nones lines = each-none (is_one_of log phase) lines

  -- ---- one phase

  -- behind a phase
  record IsBehind (old new : List Entry) : Type 0 where
    keeps : (me : ℕ) → KeepsAll s log me old new
    held : Inv new

  module _ (phase : ℕ) (ticked stepped : List LineReply) (requests : List Request) (old new : List Entry) (ran : PhaseRan u plan phase ticked stepped requests old new) (since : HasSeen is.begun old) (to : HasSeen new past) (none : (me : ℕ) → HasNoneOpen s log me old)
      (held : Inv old) where
    writer-behind : KeepsAll s log lazy_writer old new
    writer-behind = ticks.1 since to (none lazy_writer)
      where
        ticks : Behind lazy_writer old new
        ticks =
            ran-ticks u Behind (beside-idle u past good s log is.begun opened has_opened) (beside-then u past good s log is.begun opened has_opened) (beside-tick u past good s log is.begun opened has_opened)
            (beside-step u past good s log is.begun opened has_opened) 32 phase ticked old new ran.ticks

    worker-behind : KeepsAll s log read_ahead_worker old new
    worker-behind = steps.1 since to (none read_ahead_worker)
      where
        steps : Behind read_ahead_worker old new
        steps =
            ran-steps u Behind (beside-idle u past good s log is.begun opened has_opened) (beside-then u past good s log is.begun opened has_opened) (beside-tick u past good s log is.begun opened has_opened)
            (beside-step u past good s log is.begun opened has_opened) 32 phase stepped requests old new ran.steps

    writer-none : RecordsNone s log lazy_writer old new
    writer-none = ran-ticks u (λ n. RecordsNone s log n) (none-idle s log) (none-then s log) (none-tick u s log) (none-step u s log) 32 phase ticked old new ran.ticks

    worker-none : RecordsNone s log read_ahead_worker old new
    worker-none = ran-steps u (λ n. RecordsNone s log n) (none-idle s log) (none-then s log) (none-tick u s log) (none-step u s log) 32 phase stepped requests old new ran.steps

    -- by which pass it is
    by-pass : (P : ℕ → Type 0) → P lazy_writer → P read_ahead_worker → ((me : ℕ) → me ≢ lazy_writer → me ≢ read_ahead_worker → P me) → (me : ℕ) → P me
    by-pass P writer worker caller me = lazy (me == lazy_writer) refl
      where
        ahead : (b : Bool) → (me == read_ahead_worker) ≡ b → me ≢ lazy_writer → P me
        ahead true is_it other = subst P (sym (eqb-true me read_ahead_worker is_it)) worker
        ahead false is_it other = caller me other (eqb-false me read_ahead_worker is_it)

        lazy : (b : Bool) → (me == lazy_writer) ≡ b → P me
        lazy true is_it = subst P (sym (eqb-true me lazy_writer is_it)) writer
        lazy false is_it = ahead (me == read_ahead_worker) refl (eqb-false me lazy_writer is_it)

    -- a phase with a checkpoint has one caller
    module _ (one : IsCaller phase given.lines) where
      idle-others : (me : ℕ) → me ≢ lazy_writer → me ≢ read_ahead_worker → me ≢ one.caller → IsIdle me old new
      idle-others me writer worker other =
          subst (λ (lines : List (Action × Answer)). Ran u (limit_in plan phase) me (bindings_of [] (lines_before plan phase me)) lines old new) (one.others me writer worker other is.answers) (ran.callers me writer worker)

      others : OthersRecordNone s log one.caller old new
      others =
          others-none s log one.caller old new
          (λ me other. by-pass (λ n. n ≢ one.caller → RecordsNone s log n old new) (λ apart_it. writer-none) (λ apart_it. worker-none) (λ n writer worker apart_it. none-idle s log n old new (idle-others n writer worker apart_it)) me other)

      invariant : IsInvariant u past s log one.caller old new Inv Line
      invariant = alone_keeps one.caller old new since to others

      abbrev Mine : List Entry → List Entry → Type 0
      Mine first last = Alone u past good s log is.begun opened has_opened has_log one.caller old new since to others fit Inv Line invariant first last

      ran-alone : (limit : ℕ) (bindings : List Binding) (lines : List (Action × Answer)) (first last : List Entry) → AllByRecursion (IsFit phase one.caller) lines → Ran u limit one.caller bindings lines first last → Mine first last
      ran-alone limit bindings [] first last fit_all run = alone-idle u past good s log is.begun opened has_opened has_log one.caller old new since to others fit Inv Line invariant first last run
      ran-alone limit bindings (each ∷ more) first last fit_all run =
          alone-then u past good s log is.begun opened has_opened has_log one.caller old new since to others fit Inv Line invariant first run.0 last
          (alone-served u past good s log is.begun opened has_opened has_log one.caller old new since to others fit Inv Line invariant bindings each.0 each.1 first run.0 fit_all.0.leaves_it fit_all.0.may fit_all.0.its_line fit_all.0.known_at run.1.served)
          (ran-alone limit (bindings_after each.0 each.1 bindings) more run.0 last fit_all.1 run.2)

      mine : Mine old new
      mine = ran-alone (limit_in plan phase) (bindings_of [] (lines_before plan phase one.caller)) (lines_in plan phase one.caller) old new (fits phase one.caller) (ran.callers one.caller one.no_writer one.no_worker)

      its : KeepsAll s log one.caller old new × Inv new
      its = mine.1 (seen-none old) (seen-none new) held (none one.caller)

      behind-alone : IsBehind old new
      behind-alone = record {
        keeps = by-pass (λ n. KeepsAll s log n old new) writer-behind worker-behind (λ n writer worker. by-caller n writer worker (n == one.caller) refl);
        held = its.1;
      }
        where
          by-caller : (me : ℕ) → me ≢ lazy_writer → me ≢ read_ahead_worker → (b : Bool) → (me == one.caller) ≡ b → KeepsAll s log me old new
          by-caller me writer worker true is_it = rw (eqb-true me one.caller is_it) its.0
          by-caller me writer worker false is_it = all-idle s log me old new (none me) (idle-others me writer worker (eqb-false me one.caller is_it))

    -- in one without, callers may run beside one another
    module _ (silent : list_any (is_one_of log phase) given.lines ≡ false) where
      keeps-caller : (me : ℕ) → me ≢ lazy_writer → me ≢ read_ahead_worker → KeepsAll s log me old new
      keeps-caller me writer worker = (ran-beside (limit_in plan phase) (bindings_of [] (lines_before plan phase me)) (lines_in plan phase me) old new (fits phase me) (ran.callers me writer worker)).1 since to (none me)
        where
          ran-beside : (limit : ℕ) (bindings : List Binding) (lines : List (Action × Answer)) (first last : List Entry) → AllByRecursion (IsFit phase me) lines → Ran u limit me bindings lines first last → Behind me first last
          ran-beside limit bindings [] first last fit_all run = beside-idle u past good s log is.begun opened has_opened me first last run
          ran-beside limit bindings (each ∷ more) first last fit_all run =
              beside-then u past good s log is.begun opened has_opened me first run.0 last
              (beside-served u past good s log is.begun opened has_opened me bindings each.0 each.1 first run.0 (fit_all.0.leaves_it, fit_all.0.silent silent, fit_all.0.may) run.1.served)
              (ran-beside limit (bindings_after each.0 each.1 bindings) more run.0 last fit_all.1 run.2)

      grown : HasSeen old new
      grown = record { later = writer-none.during; grew = writer-none.grew }

      lines-of : (me : ℕ) → LinesOf u s log Line me old new
      lines-of = by-pass (λ n. LinesOf u s log Line n old new) (inl writer-none) (inl worker-none) (λ n writer worker. inr (ran-of n (ran.callers n writer worker)))
        where
          all-of : (me : ℕ) (lines : List (Action × Answer)) → AllByRecursion (IsFit phase me) lines → AllByRecursion (λ (each : Action × Answer). (left_to_updates s log each.0 each.1 ≡ true) × Line each.0 each.1) lines
          all-of me [] fit_all = tt
          all-of me (each ∷ lines) fit_all = ((fit_all.0.leaves_it, fit_all.0.its_line), all-of me lines fit_all.1)

          ran-of : (me : ℕ) → Ran u (limit_in plan phase) me (bindings_of [] (lines_before plan phase me)) (lines_in plan phase me) old new → RanLines u s log Line me old new
          ran-of me run = record { limit = limit_in plan phase; bindings = bindings_of [] (lines_before plan phase me); lines = lines_in plan phase me; each = all-of me (lines_in plan phase me) (fits phase me); ran = run }

      behind-many : IsBehind old new
      behind-many = record { keeps = by-pass (λ n. KeepsAll s log n old new) writer-behind worker-behind keeps-caller; held = many_keep old new since to grown lines-of held }

    behind-phase : IsBehind old new
    behind-phase = go (list_any (is_one_of log phase) given.lines) refl
      where
        go : (b : Bool) → list_any (is_one_of log phase) given.lines ≡ b → IsBehind old new
        go true has = behind-alone (caller-of log phase given.lines apart has)
        go false silent = behind-many silent

  -- ---- all phases

  behind-phases : (phase left : ℕ) (ticked stepped : List LineReply) (requests : List Request) (old new : List Entry) → PhasesRan u plan phase left ticked stepped requests old new → HasSeen is.begun old → HasSeen new past → ((me : ℕ) → HasNoneOpen s log me old) → Inv old → (me : ℕ) → KeepsAll s log me old new
  behind-phases phase zero ticked stepped requests old new ran since to none held me = all-idle s log me old new (none me) (record { during = []; grew = ran.3; others = tt })
  behind-phases phase (suc left) ticked stepped requests old new ran since to none held me =
      let rest = phases-grow u past good s plan (suc phase) left (drop plan.ticks ticked) (drop ran.1 stepped) (drop ran.2 requests) ran.0 new ran.4 in
      let to_end = grew-then ran.0 new past rest to in
      let first = behind-phase phase (take plan.ticks ticked) (take ran.1 stepped) (take ran.2 requests) old ran.0 ran.3 since to_end none held in
      all-then s log me old ran.0 new (first.keeps me)
      (λ now.
      behind-phases (suc phase) left (drop plan.ticks ticked) (drop ran.1 stepped) (drop ran.2 requests) ran.0 new ran.4 (grew-then is.begun old ran.0 since (phase-seen first)) to (λ other. (first.keeps other).1) first.held me)
    where
      phase-seen : IsBehind old ran.0 → HasSeen old ran.0
      phase-seen first = record { later = (first.keeps 0).0.during; grew = (first.keeps 0).0.grew }

  pub updates-checkpointed : IsUpdated s log past
  updates-checkpointed =
      updated-by s log past
      (λ me.
      (all-then s log me [] is.begun past (begun_keeps me)
      (λ now. behind-phases 1 given.phases told.ticked told.stepped taken is.begun past is.ran (seen-none is.begun) (seen-none past) (λ other. (begun_keeps other).1) first_held me)).0)

-- ---- where no update is refused for want

module _ (u : Setup) (given : GivenToRun) (told : Answered) (taken : List Request) (past : List Entry) (is : IsExplained u given told taken past) (good : IsGoodSoFar u past) (s log : ℕ) where
  -- no update has a record before the phases
  begun-stamped : AreStamped s log is.begun
  begun-stamped = stamped-over s log 0 [] [] is.begun first (others-none s log 0 [] is.begun (λ me other. none-idle s log me [] is.begun (is.alone me other))) [] refl none-yet
    where
      first : RecordsNone s log 0 [] is.begun
      first =
          none-then s log 0 [] is.restarted is.begun (follow-restarts u _ _ (none-follows u s log 0) given.restarts is.ended [] is.restarted is.restarts_ended)
          (none-opened u s log given.restarts is.ended 0 given.streams is.setup is.restarted is.begun is.opened)

      none-yet : AreStamped s log []
      none-yet lsn has = absurd (nil-cons has.later _ has.front has.splits)

  stamped-many : (old new : List Entry) → HasSeen is.begun old → HasSeen new past → HasSeen old new → ((me : ℕ) → LinesOf u s log (IsUnwanting s) me old new) → StampedIf s log old → StampedIf s log new
  stamped-many old new since to grown each stamped updated =
      stamped-all s log new (λ me. (stamps me (each me)).1 since to updated (stamped-each s log me old (stamped (updated-rest s log grown.later old (subst (IsUpdated s log) grown.grew updated)))))
    where
      run : (me limit : ℕ) (bindings : List Binding) (lines : List (Action × Answer)) (first last : List Entry) → AllByRecursion (λ (each : Action × Answer). (left_to_updates s log each.0 each.1 ≡ true) × IsUnwanting s each.0 each.1) lines → Ran u limit me bindings lines first last → Stamps u past good s log is.begun me first last
      run me limit bindings [] first last fit_all ran = stamps-idle u past good s log is.begun me first last ran
      run me limit bindings (one ∷ more) first last fit_all ran =
          stamps-then u past good s log is.begun me first ran.0 last (stamps-served u past good s log is.begun me bindings one.0 one.1 first ran.0 fit_all.0.0 fit_all.0.1 ran.1.served)
          (run me limit (bindings_after one.0 one.1 bindings) more ran.0 last fit_all.1 ran.2)

      stamps : (me : ℕ) → LinesOf u s log (IsUnwanting s) me old new → Stamps u past good s log is.begun me old new
      stamps me (inl none) = stamps-by u past good s log is.begun me old new grown none
      stamps me (inr k) = run me k.limit k.bindings k.lines old new k.each k.ran

  pub stamped-phases : (leaves_alone : (alone_keeps : (me : ℕ) (base end : List Entry) → HasSeen is.begun base → HasSeen end past → OthersRecordNone s log me base end → IsInvariant u past s log me base end (StampedIf s log) (IsUnwanting s)) →
      ((old new : List Entry) → HasSeen is.begun old → HasSeen new past → HasSeen old new → ((me : ℕ) → LinesOf u s log (IsUnwanting s) me old new) → StampedIf s log old → StampedIf s log new) → StampedIf s log is.begun → IsUpdated s log past) → IsUpdated s log past
  stamped-phases run = run (λ me base end since to others. stamped-invariant u past good s log me base end to others) stamped-many (λ updated. begun-stamped)

-- the answers of the lines, behind those of the restarts and of the streams
dropped : {A : Type 0} (xs ys : List A) (n : ℕ) → length xs ≡ n → drop n (xs ++ ys) ≡ ys
dropped [] ys zero is = refl
dropped [] ys (suc n) is = absurd (cc is)
dropped (x ∷ xs) ys zero is = absurd (cc is)
dropped (x ∷ xs) ys (suc n) is = dropped xs ys n (omega (arith, is))

pub answers-are : (u : Setup) (given : GivenToRun) (told : Answered) (taken : List Request) (past : List Entry) (is : IsExplained u given told taken past) → drop (length given.streams) (drop (length given.restarts) told.replies) ≡ is.answers
answers-are u given told taken past is =
    ap (λ (l : List LineReply). drop (length given.streams) (drop (length given.restarts) l)) is.replies_are
    ∙ (ap (λ (l : List LineReply). drop (length given.streams) l) (dropped is.ended (is.setup ++ is.answers) (length given.restarts) (ended-long u given told taken past is))
    ∙ dropped is.setup is.answers (length given.streams) (setup-long u given told taken past is))

-- The phases one after the other: the lines of each, and what was served so far.
use Rattle.std.specs.Prelude.{◌≡◌, ℕ, zero, suc, ◌+◌, ◌*◌, ◌<◌, ◌≤◌, ◌==◌, ◌++◌, Bool, true, false, List, [], ◌∷◌, length, map, slice_get, Some, refl, ◌⊎◌, if◌then◌else◌}
use Rattle.std.specs.Bool.{MatchBool}
use Rattle.std.specs.List.{AllByRecursion, AllWithin, HoldsAt, list_all}
use Rattle.std.proofs.Common.{sym, ap, subst, ◌∙◌, arith, append-nil, append_assoc, inl, inr, mul-zero, mul-suc}
use Rattle.std.proofs.lemmas.Bool.{eq-eqb}
use Rattle.std.proofs.lemmas.Nat.{mul-le}
use Rattle.std.proofs.lemmas.List.{length-append, length-map, map-append}
use Rattle.std.proofs.lemmas.List.Elements.{All-from_all_within}
use Rattle.std.proofs.lemmas.List.Folds.{list_all_at}
use Rattle.std.proofs.lemmas.List.Sums.{list_all-from_AllPass}
use Rattle.cc_entry.specs.declared.answer.LineReply.{LineReply}
use Rattle.cc_entry.specs.declared.entry.Entry.{Entry}
use Rattle.cc_entry.specs.declared.place.Request.{Request}
use Rattle.cc_pieces.specs.Phases.{EndsWithNone}
use Rattle.cc_script.specs.declared.script.ActionLine.{ActionLine}
use Rattle.cc_script.specs.Within.{PhasesAscend}
use Rattle.cc_model.specs.Setup.{Setup}
use Rattle.cc_pieces.specs.Explained.{answered_lines}
use Rattle.cc_pieces.specs.Rooms.{is_alone}
use Rattle.cc_script.specs.declared.bound.Bound.{Bound}
use Rattle.cc_script.specs.HoldWords.{AreUsedRight}
use Rattle.cc_pieces.specs.Bindings.{Binding}
use Rattle.cc_lines.specs.Holds.{NamesState}
use Rattle.cc_run.specs.Lines.{AllStand, HaveNoWords, HaveRoom, KeepRoom, MayServe, after_lines, bound_by}
use Rattle.cc_run.specs.Phases.{PhaseEnds, PhaseLeft, PhaseServed, PhasesLeft, PhasesServed}
use Rattle.cc_run.specs.Aheads.{StepsLeft, StepsMade}
use Rattle.cc_run.specs.Ticks.{TicksLeft, TicksMade}
use Rattle.cc_run.specs.declared.aheads.Aheads.{Aheads}
use Rattle.cc_run.specs.declared.ticks.Ticks.{Ticks}
use Rattle.cc_run.specs.Places.{PlacesRan}
use Rattle.cc_run.proofs.Lists.{all-back}
use Rattle.cc_run.proofs.PlacesWent.{PlacesSo, places-none, places-ran, places-so, places-then}
use Rattle.cc_lines.proofs.NamesKept.{names-none}
use Rattle.cc_run.proofs.WordSteps.{after-append, bound-append, right-back, right-front, room-rest, words-append}

-- whether a test passed at each line
pub passes : (test : ActionLine → Bool) (lines : List ActionLine) (any : ActionLine) (r : Bool) → MatchBool r (AllWithin (λ line. test line ≡ true) lines 0 (length lines)) ((k : ℕ) × (k < length lines) × HoldsAt (λ line. test line ≡ false) lines k) → r ≡ list_all test lines
passes test lines any true all = sym (list_all-from_AllPass test lines (All-from_all_within (λ line. test line ≡ true) lines all))
passes test lines any false some = sym (list_all_at test lines some.0 any some.1 (some.2 any))

-- a phase is of one caller, where its lines are all of the first one's
own-test : (phase caller : ℕ) (lines : List ActionLine) → AllByRecursion (λ line. line.phase ≡ phase) lines → list_all (λ other. if other.phase == phase then other.caller == caller else true) lines ≡ list_all (λ other. other.caller == caller) lines
own-test phase caller [] those = refl
own-test phase caller (line ∷ lines) those = rw (eq-eqb line.phase phase those.0, own-test phase caller lines those.1) refl

pub alone-first : (phase : ℕ) (lines : List ActionLine) (first : ActionLine) → Some first ≡ slice_get lines 0 → AllByRecursion (λ line. line.phase ≡ phase) lines → list_all (λ line. line.caller == first.caller) lines ≡ is_alone phase lines
alone-first phase [] first is those = absurd (cc is)
alone-first phase (line ∷ lines) first is those =
    let same : first ≡ line = cc is in
    subst (λ one. list_all (λ other. other.caller == one.caller) (line ∷ lines) ≡ is_alone phase (line ∷ lines)) (sym same)
    (rw (eq-eqb line.phase phase those.0, own-test phase line.caller lines those.1, eq-eqb line.caller line.caller refl) refl)

-- each line of a phase has a reply
pub same-long : (lines : List ActionLine) (replies : List LineReply) → answered_lines replies ≡ map (λ line. line.line) lines → length lines ≡ length replies
same-long lines replies same =
    sym (length-map lines (λ line. line.line)) ∙ (sym (ap length same) ∙ length-map replies (λ reply. reply.line))

pub phase-long : (u : Setup) (phase ticks aheads : ℕ) (bindings : ℕ → List Binding) (lines : List ActionLine) (before after : List LineReply) (old new : List Entry) → PhaseServed u phase ticks aheads bindings lines before after old new → length after ≡ length before + length lines
phase-long u phase ticks aheads bindings lines before after old new served =
    ap length served.grew ∙ (length-append before served.answers ∙ ap (λ n. length before + n) (sym (same-long lines served.answers served.left.lines_are)))

-- so has each line of several phases
pub phases-lines : (u : Setup) (ticks aheads n : ℕ) (lines : List ActionLine) (replies ticked stepped : List LineReply) (taken : List Request) (old new : List Entry) → PhasesLeft u ticks aheads n lines replies ticked stepped taken old new → answered_lines replies ≡ map (λ line. line.line) lines
phases-lines u ticks aheads zero lines replies ticked stepped taken old new left = rw (left.0, left.1) refl
phases-lines u ticks aheads (suc n) lines replies ticked stepped taken old new left =
    rw (left.11, left.12) (map-append (λ reply. reply.line) left.2 left.3
    ∙ (ap (λ l. l ++ answered_lines left.3) (phases-lines u ticks aheads n left.0 left.2 left.4 left.6 left.8 old left.10 left.16)
    ∙ (ap (λ l. map (λ line. line.line) left.0 ++ l) left.18.lines_are ∙ sym (map-append (λ line. line.line) left.0 left.1))))

-- each phase has as many ticks
phases-ticks : (u : Setup) (ticks aheads n : ℕ) (lines : List ActionLine) (replies ticked stepped : List LineReply) (taken : List Request) (old new : List Entry) → PhasesLeft u ticks aheads n lines replies ticked stepped taken old new → length ticked ≡ ticks * n
phases-ticks u ticks aheads zero lines replies ticked stepped taken old new left = ap length left.2 ∙ sym (mul-zero ticks)
phases-ticks u ticks aheads (suc n) lines replies ticked stepped taken old new left =
    omega (
      arith,
      ap length left.13,
      length-append left.4 left.5,
      phases-ticks u ticks aheads n left.0 left.2 left.4 left.6 left.8 old left.10 left.16,
      left.19.counted,
      mul-suc ticks n,
    )

-- and no more steps of read-ahead than so many
few-steps : (count : ℕ) (stepped : List LineReply) → (length stepped ≡ count) ⊎ ((length stepped ≤ count) × EndsWithNone stepped) → length stepped ≤ count
few-steps count stepped (inl all) = omega (arith, all)
few-steps count stepped (inr some) = some.0

pub phases-steps : (u : Setup) (ticks aheads n : ℕ) (lines : List ActionLine) (replies ticked stepped : List LineReply) (taken : List Request) (old new : List Entry) → PhasesLeft u ticks aheads n lines replies ticked stepped taken old new → length stepped ≤ aheads * n
phases-steps u ticks aheads zero lines replies ticked stepped taken old new left = omega (arith, ap length left.3, mul-zero aheads)
phases-steps u ticks aheads (suc n) lines replies ticked stepped taken old new left =
    omega (
      arith,
      ap length left.14,
      length-append left.6 left.7,
      phases-steps u ticks aheads n left.0 left.2 left.4 left.6 left.8 old left.10 left.16,
      few-steps aheads left.7 left.20.counted,
      mul-suc aheads n,
    )

pub ticked-long : (u : Setup) (ticks aheads phases : ℕ) (lines : List ActionLine) (before after ticked stepped : List LineReply) (taken : List Request) (old new : List Entry) → PhasesServed u ticks aheads phases lines before after ticked stepped taken old new → length ticked ≡ ticks * phases
ticked-long u ticks aheads phases lines before after ticked stepped taken old new served = phases-ticks u ticks aheads phases lines served.answers ticked stepped taken old new served.left

-- no line ascends from a phase behind the last one
pub none-later : (from phases : ℕ) (lines : List ActionLine) → phases < from → PhasesAscend from lines → AllByRecursion (λ line. line.phase ≤ phases) lines → lines ≡ []
none-later from phases [] above ascend within = refl
none-later from phases (line ∷ lines) above ascend within = absurd (omega (arith, above, ascend.0, within.0))

-- nothing was bound, and no word names anything
abbrev pub no_bounds : ℕ → List Bound
no_bounds me = []

abbrev pub no_bindings : ℕ → List Binding
no_bindings me = []

-- what is so of each row is so of one
all-there : {A : Type 0} (P : A → Type 0) (xs : List A) (n : ℕ) (x : A) → AllByRecursion P xs → slice_get xs n ≡ Some x → P x
all-there P [] n x all at = absurd (cc at)
all-there P (y ∷ xs) zero x all at = let is : y ≡ x = cc at in subst P is all.0
all-there P (y ∷ xs) (suc n) x all at = all-there P xs n x all.1 at

stand-none : (streams : ℕ) (past : List Entry) (lines : List ActionLine) (rows : List NamesState) → HaveNoWords lines rows → AllStand streams past no_bounds no_bindings rows
stand-none streams past lines rows have = record {
  counted = have.counted;
  each = λ n names at. names-none streams (suc n) past names.named (all-there (λ names. names.named ≡ []) rows n names have.none at);
}

-- what was bound, and what words name, behind lines in two parts
stand-join : (streams : ℕ) (past : List Entry) (bounds : ℕ → List Bound) (bindings : ℕ → List Binding) (front now : List ActionLine) (told answers : List LineReply) (rows : List NamesState) → length front ≡ length told → AllStand streams past (bound_by now (bound_by front bounds)) (after_lines now answers (after_lines front told bindings)) rows → AllStand streams past (bound_by (front ++ now) bounds) (after_lines (front ++ now) (told ++ answers) bindings) rows
stand-join streams past bounds bindings front now told answers rows same stand = record {
  counted = stand.counted;
  each = λ n names at.
      rw (bound-append (suc n) (bounds (suc n)) front now, after-append (suc n) bindings front now told answers same) (stand.each n names at);
}

-- The phases before the next one were served; the rest are the lines of that one and of the later ones; what is kept of the
-- callers' words stands; and this is what the lines did at their callers' places.
pub record SoFar (u : Setup) (streams ticks aheads next : ℕ) (lines rest : List ActionLine) (before after ticked stepped : List LineReply)
    (taken : List Request) (old new : List Entry) (was rows : List NamesState) : Type 0 where
  pub phases : ℕ
  pub next_is : next ≡ suc phases
  pub front : List ActionLine
  pub lines_are : lines ≡ front ++ rest
  pub served : PhasesServed u ticks aheads phases front before after ticked stepped taken old new
  pub stand : AllStand streams new (bound_by front no_bounds) (after_lines front served.answers no_bindings) rows
  pub placed : PlacesSo front served.answers was rows old new

pub so_far-none : (u : Setup) (streams ticks aheads : ℕ) (lines : List ActionLine) (replies ticked stepped : List LineReply) (taken : List Request) (past : List Entry) (rows : List NamesState) → ticked ≡ [] → stepped ≡ [] → taken ≡ [] → HaveNoWords lines rows → SoFar u streams ticks aheads 1 lines lines replies replies ticked stepped taken past past rows rows
so_far-none u streams ticks aheads lines replies ticked stepped taken past rows none no_step none_taken have = record {
  phases = 0;
  next_is = refl;
  front = [];
  lines_are = refl;
  served = record { answers = []; grew = sym (append-nil replies); left = (refl, refl, none, no_step, none_taken, refl) };
  stand = stand-none streams past lines rows have;
  placed = places-none rows past;
}

module _ (u : Setup) (streams ticks aheads next : ℕ) (lines rest : List ActionLine) (before between ticked stepped : List LineReply) (taken : List Request) (old middle : List Entry) (was rows : List NamesState) (so_far : SoFar u streams ticks aheads next lines rest before between ticked stepped taken old middle was rows) where
  abbrev pub bound_there : ℕ → List Bound
  bound_there = bound_by so_far.front no_bounds

  abbrev pub named_there : ℕ → List Binding
  named_there = after_lines so_far.front so_far.served.answers no_bindings

  module _ (now later : List ActionLine) (have : HaveNoWords lines was) (parts : rest ≡ now ++ later) where
    lines_parts : lines ≡ so_far.front ++ (now ++ later)
    lines_parts = so_far.lines_are ∙ ap (λ l. so_far.front ++ l) parts

    right-all : (me : ℕ) → AreUsedRight me [] (so_far.front ++ (now ++ later))
    right-all me = subst (AreUsedRight me []) lines_parts (have.right me)

    -- the lines of the next phase use their words right, and may be served
    pub so_far-right : (me : ℕ) → AreUsedRight me (bound_there me) now
    so_far-right me = right-front me (bound_there me) now later (right-back me [] so_far.front (now ++ later) (right-all me))

    pub so_far-serve : KeepRoom was rows → MayServe streams middle now rows
    so_far-serve keep = record {
      bounds = bound_there;
      bindings = named_there;
      stand = so_far.stand;
      right = so_far-right;
      room = λ n names at.
          let room = room-rest streams old middle no_bounds no_bindings named_there so_far.front (now ++ later) was rows (stand-none streams old lines was have) so_far.stand
          (λ me. right-front me [] so_far.front (now ++ later) (right-all me)) keep (subst (λ l. HaveRoom l was) lines_parts have.room) n names at in
          omega (arith, room, words-append (suc n) now later);
    }

  -- there is room for the answers of one phase more
  pub so_far-room : (count capacity : ℕ) → next < count + 1 → ticks * count ≤ capacity → length ticked + ticks ≤ capacity
  so_far-room count capacity more room =
      omega (
        arith,
        phases-ticks u ticks aheads so_far.phases so_far.front so_far.served.answers ticked stepped taken old middle so_far.served.left,
        mul-suc ticks so_far.phases,
        mul-le ticks (suc so_far.phases) ticks count (omega arith) (omega (arith, more, so_far.next_is)),
        room,
      )

  -- and for those of its read-ahead steps
  pub so_far-step_room : (count capacity : ℕ) → next < count + 1 → aheads * count ≤ capacity → length stepped + aheads ≤ capacity
  so_far-step_room count capacity more room =
      omega (
        arith,
        phases-steps u ticks aheads so_far.phases so_far.front so_far.served.answers ticked stepped taken old middle so_far.served.left,
        mul-suc aheads so_far.phases,
        mul-le aheads (suc so_far.phases) aheads count (omega arith) (omega (arith, more, so_far.next_is)),
        room,
      )

  pub so_far-more : (ticks_was ticks_now : Ticks) (was_steps made_steps : Aheads) (now later : List ActionLine) (after : List LineReply) (new : List Entry) (rows_now : List NamesState) → ticked ≡ ticks_was.answers.items → stepped ≡ was_steps.answers.items → taken ≡ was_steps.place.taken → rest ≡ now ++ later → AllByRecursion (λ line. line.phase ≡ next) now → PhaseEnds u streams next ticks aheads bound_there named_there now between after middle new rows_now → TicksMade u next ticks ticks_was ticks_now middle new → StepsMade u next aheads was_steps made_steps middle new → length was ≡ 16 → PlacesRan now between after rows rows_now middle new → SoFar u streams ticks aheads (next + 1) lines later before after ticks_now.answers.items made_steps.answers.items made_steps.place.taken old new was rows_now
  so_far-more ticks_was ticks_now was_steps made_steps now later after new rows_now ticked_are stepped_are taken_are parts those_next ended ticks_made steps_made sixteen placed_now =
      let those : AllByRecursion (λ line. line.phase ≡ suc so_far.phases) now = rw so_far.next_is at those_next in
      record {
        phases = suc so_far.phases;
        next_is = omega (arith, so_far.next_is);
        front = so_far.front ++ now;
        lines_are = so_far.lines_are ∙ (ap (λ l. so_far.front ++ l) parts ∙ sym (append_assoc so_far.front now later));
        served = record {
          answers = so_far.served.answers ++ ended.served.answers;
          grew = ended.served.grew ∙ (ap (λ l. l ++ ended.served.answers) so_far.served.grew ∙ append_assoc before so_far.served.answers ended.served.answers);
          left = (
            so_far.front,
            now,
            so_far.served.answers,
            ended.served.answers,
            ticked,
            ticks_made.answers,
            stepped,
            steps_made.answers,
            taken,
            steps_made.taken,
            middle,
            refl,
            refl,
            rw (← ticked_are) at ticks_made.grew,
            rw (← stepped_are) at steps_made.grew,
            rw (← taken_are) at steps_made.took,
            so_far.served.left,
            those,
            last,
            last_ticks,
            last_steps,
          );
        };
        placed = places-then so_far.front now so_far.served.answers ended.served.answers was rows rows_now old middle new answered (so_far.stand.counted ∙ sym sixteen) so_far.placed
            (places-so now between after ended.served.answers rows rows_now middle new ended.served.grew placed_now);
        stand = stand-join streams new no_bounds no_bindings so_far.front now so_far.served.answers ended.served.answers rows_now
            answered ended.stand;
      }
    where
      answered : length so_far.front ≡ length so_far.served.answers
      answered =
          same-long so_far.front so_far.served.answers
          (phases-lines u ticks aheads so_far.phases so_far.front so_far.served.answers ticked stepped taken old middle so_far.served.left)

      last : PhaseLeft u (suc so_far.phases) ticks aheads named_there now ended.served.answers middle new
      last = rw so_far.next_is at ended.served.left

      last_ticks : TicksLeft u (suc so_far.phases) ticks ticks_made.answers middle new
      last_ticks = rw so_far.next_is at ticks_made.left

      last_steps : StepsLeft u (suc so_far.phases) aheads steps_made.answers steps_made.taken middle new
      last_steps = rw so_far.next_is at steps_made.left

  pub so_far-all : (phases : ℕ) → next ≡ phases + 1 → rest ≡ [] → PhasesServed u ticks aheads phases lines before between ticked stepped taken old middle
  so_far-all phases is none =
      let last : so_far.phases ≡ phases = omega (arith, is, so_far.next_is) in
      rw (so_far.lines_are, none, append-nil so_far.front, ← last) so_far.served

  -- what all lines did at their callers' places
  pub so_far-placed : rest ≡ [] → PlacesRan lines before between was rows old middle
  so_far-placed none =
      rw (so_far.lines_are, none, append-nil so_far.front)
      (places-ran so_far.front before between so_far.served.answers was rows old middle so_far.served.grew so_far.placed)

  -- what is so of each line is so of the rest
  pub so_far-rest : (P : ActionLine → Type 0) → AllByRecursion P lines → AllByRecursion P rest
  so_far-rest P all = all-back P so_far.front rest (rw so_far.lines_are at all)

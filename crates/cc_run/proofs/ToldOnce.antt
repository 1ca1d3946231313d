-- Answers of lines that post, of which some numbers go untold: what explained them explains what is left.
use Rattle.std.specs.Prelude.{◌≡◌, ℕ, zero, suc, nat_eq, ◌==◌, ◌||◌, Bool, true, false, List, [], ◌∷◌, ◌++◌, length, take, drop, refl, if◌then◌else◌}
use Rattle.std.specs.List.{AllByRecursion, IsDistinct, list_any}
use Rattle.std.proofs.Common.{sym, ap, subst, ◌∙◌, arith, inl, inr}
use Rattle.std.proofs.lemmas.List.{take-append-drop}
use Rattle.std.proofs.Math.Seq.{take-append_seam, drop-append_seam}
use Rattle.cc_entry.specs.declared.answer.Answer.{Answer}
use Rattle.cc_entry.specs.declared.answer.Answer.TheVariants as answer
use Rattle.cc_entry.specs.declared.answer.LineReply.{LineReply}
use Rattle.cc_entry.specs.declared.entry.Entry.{Entry}
use Rattle.cc_entry.specs.declared.place.Request.{Request}
use Rattle.cc_script.specs.declared.script.Action.{Action}
use Rattle.cc_script.specs.declared.script.Action.TheVariants as action
use Rattle.cc_script.specs.declared.script.ActionLine.{ActionLine}
use Rattle.cc_script.specs.declared.script.StreamLine.{StreamLine}
use Rattle.cc_model.specs.Setup.{Setup}
use Rattle.cc_pieces.specs.Answered.{PostsLeft}
use Rattle.cc_pieces.specs.Bindings.{Binding}
use Rattle.cc_pieces.specs.Explained.{answered_lines}
use Rattle.cc_pieces.specs.Phases.{PhaseRan, PhasesRan, Plan, is_before_phase, is_of_phase, limit_in}
use Rattle.cc_pieces.specs.Rooms.{HadNoRoom}
use Rattle.cc_pieces.specs.Runs.{Explains, Ran, asked_of, bindings_of}
use Rattle.cc_pieces.specs.Served.{Served, bindings_after}
use Rattle.cc_pieces.proofs.ThrottleSteps.{posts-before}
use Rattle.cc_run.specs.Once.{AllTellPart, ArePart, TellsPart}

-- ---- some of several numbers

pub part-same : (ids : List ℕ) → ArePart ids ids
part-same [] = refl
part-same (id ∷ ids) = inr (ids, refl, part-same ids)

pub part-then : (ids some fewer : List ℕ) → ArePart ids some → ArePart some fewer → ArePart ids fewer
part-then [] some fewer is part = subst (λ l. ArePart l fewer) is part
part-then (id ∷ ids) some fewer (inl first) part = inl (part-then ids some fewer first part)
part-then (id ∷ ids) some fewer (inr first) part = by (λ few more. part-then ids first.0 few first.2 more) (subst (λ l. ArePart l fewer) first.1 part)
  where
    by : ((few : List ℕ) → ArePart first.0 few → ArePart ids few) → ArePart (id ∷ first.0) fewer → ArePart (id ∷ ids) fewer
    by rest (inl more) = inl (rest fewer more)
    by rest (inr more) = inr (more.0, more.1, rest more.0 more.2)

-- one was left out
pub part-without : (at : ℕ) (ids : List ℕ) → ArePart ids (take at ids ++ drop (suc at) ids)
part-without zero [] = refl
part-without (suc at) [] = refl
part-without zero (id ∷ ids) = inl (part-same ids)
part-without (suc at) (id ∷ ids) = inr (take at ids ++ drop (suc at) ids, refl, part-without at ids)

-- ---- the answer of a line, and of several

pub tells-same : (asked : Action) (told : Answer) → TellsPart asked told told
tells-same action.Post (answer.Posts ids) = part-same ids
tells-same action.Post told = refl
tells-same asked told = refl

pub all-same : (lines : List ActionLine) (replies : List LineReply) → length lines ≡ length replies → AllTellPart lines replies replies
all-same [] [] long = tt
all-same [] (reply ∷ replies) long = absurd (omega (arith, long))
all-same (line ∷ lines) [] long = absurd (omega (arith, long))
all-same (line ∷ lines) (reply ∷ replies) long = (refl, tells-same line.action reply.answer, all-same lines replies (omega (arith, long)))

pub part-long : (lines : List ActionLine) (replies kept : List LineReply) → AllTellPart lines replies kept → length kept ≡ length lines
part-long [] [] [] part = refl
part-long [] [] (reply ∷ kept) part = absurd part
part-long [] (reply ∷ replies) kept part = absurd part
part-long (line ∷ lines) [] kept part = absurd part
part-long (line ∷ lines) (reply ∷ replies) [] part = absurd part
part-long (line ∷ lines) (reply ∷ replies) (one ∷ kept) part = ap suc (part-long lines replies kept part.2)

-- they are of the same lines
pub part-lines : (lines : List ActionLine) (replies kept : List LineReply) → AllTellPart lines replies kept → answered_lines kept ≡ answered_lines replies
part-lines [] [] [] part = refl
part-lines [] [] (reply ∷ kept) part = absurd part
part-lines [] (reply ∷ replies) kept part = absurd part
part-lines (line ∷ lines) [] kept part = absurd part
part-lines (line ∷ lines) (reply ∷ replies) [] part = absurd part
part-lines (line ∷ lines) (reply ∷ replies) (one ∷ kept) part = rw (part.0, part-lines lines replies kept part.2) refl

-- ---- what a line left

module _ (u : Setup) (me : ℕ) where
  posts-part : (ids kept : List ℕ) (old new : List Entry) → ArePart ids kept → PostsLeft u me ids old new → PostsLeft u me kept old new
  posts-part [] kept old new is left = subst (λ l. PostsLeft u me l old new) (sym is) left
  posts-part (id ∷ ids) kept old new (inl part) left = posts-before u me kept old left.0 new left.1.idle (posts-part ids kept left.0 new part left.2)
  posts-part (id ∷ ids) kept old new (inr part) left =
      subst (λ l. PostsLeft u me l old new) (sym part.1) (left.0, left.1, posts-part ids part.0 left.0 new part.2 left.2)

  served-part : (bindings : List Binding) (asked : Action) (told kept : Answer) (old new : List Entry) → TellsPart asked told kept → Served u me bindings asked told old new → Served u me bindings asked kept old new
  served-part bindings action.Post (answer.Posts ids) (answer.Posts kept) old new part left = posts-part ids kept old new part left
  served-part bindings action.Post (answer.Posts ids) kept old new is left = subst (λ a. Served u me bindings action.Post a old new) (sym is) left
  served-part bindings action.Post told kept old new is left = subst (λ a. Served u me bindings action.Post a old new) (sym is) left
  served-part bindings asked told kept old new is left = subst (λ a. Served u me bindings asked a old new) (sym is) left

  room-part : (limit : ℕ) (asked : Action) (told kept : Answer) (old new : List Entry) → TellsPart asked told kept → HadNoRoom u limit told old new → HadNoRoom u limit kept old new
  room-part limit action.Post (answer.Posts ids) (answer.Posts kept) old new part room = tt
  room-part limit action.Post (answer.Posts ids) kept old new is room = subst (λ a. HadNoRoom u limit a old new) (sym is) room
  room-part limit action.Post told kept old new is room = subst (λ a. HadNoRoom u limit a old new) (sym is) room
  room-part limit asked told kept old new is room = subst (λ a. HadNoRoom u limit a old new) (sym is) room

bindings-part : (asked : Action) (told kept : Answer) (bindings : List Binding) → TellsPart asked told kept → bindings_after asked kept bindings ≡ bindings_after asked told bindings
bindings-part action.Post told kept bindings part = refl
bindings-part asked told kept bindings is = ap (λ a. bindings_after asked a bindings) is

-- ---- the lines of a caller, each with its answer

abbrev PairsPart : List (Action × Answer) → List (Action × Answer) → Type 0
PairsPart [] [] = Unit {0}
PairsPart (told ∷ lines) (kept ∷ more) = (kept.0 ≡ told.0) × TellsPart told.0 told.1 kept.1 × PairsPart lines more
PairsPart lines more = ⊥

asked-part : (test : ActionLine → Bool) (lines : List ActionLine) (replies kept : List LineReply) → AllTellPart lines replies kept → PairsPart (asked_of test lines replies) (asked_of test lines kept)
asked-part test [] [] [] part = tt
asked-part test [] [] (reply ∷ kept) part = absurd part
asked-part test [] (reply ∷ replies) kept part = absurd part
asked-part test (line ∷ lines) [] kept part = absurd part
asked-part test (line ∷ lines) (reply ∷ replies) [] part = absurd part
asked-part test (line ∷ lines) (reply ∷ replies) (one ∷ kept) part = by (test line) (asked-part test lines replies kept part.2)
  where
    by : (b : Bool) → PairsPart (asked_of test lines replies) (asked_of test lines kept) → PairsPart (if b then (line.action, reply.answer) ∷ asked_of test lines replies else asked_of test lines replies) (if b then (line.action, one.answer) ∷ asked_of test lines kept else asked_of test lines kept)
    by true rest = (refl, part.1, rest)
    by false rest = rest

bound-part : (told kept : List (Action × Answer)) (bindings : List Binding) → PairsPart told kept → bindings_of bindings kept ≡ bindings_of bindings told
bound-part [] [] bindings part = refl
bound-part [] (one ∷ kept) bindings part = absurd part
bound-part (first ∷ told) [] bindings part = absurd part
bound-part (first ∷ told) (one ∷ kept) bindings part =
    ap (λ a. bindings_of (bindings_after a one.1 bindings) kept) part.0
    ∙ (ap (λ b. bindings_of b kept) (bindings-part first.0 first.1 one.1 bindings part.1)
    ∙ bound-part told kept (bindings_after first.0 first.1 bindings) part.2)

ran-part : (u : Setup) (limit me : ℕ) (told kept : List (Action × Answer)) (bindings : List Binding) (old new : List Entry) → PairsPart told kept → Ran u limit me bindings told old new → Ran u limit me bindings kept old new
ran-part u limit me [] [] bindings old new part ran = ran
ran-part u limit me [] (one ∷ kept) bindings old new part ran = absurd part
ran-part u limit me (first ∷ told) [] bindings old new part ran = absurd part
ran-part u limit me (first ∷ told) (one ∷ kept) bindings old new part ran =
    (ran.0, explains, subst (λ b. Ran u limit me b kept ran.0 new) (sym behind) (ran-part u limit me told kept (bindings_after first.0 first.1 bindings) ran.0 new part.2 ran.2))
  where
    explains : Explains u limit me bindings one.0 one.1 old ran.0
    explains = subst (λ a. Explains u limit me bindings a one.1 old ran.0) (sym part.0) (record {
      served = served-part u me bindings first.0 first.1 one.1 old ran.0 part.1 ran.1.served;
      room = room-part u me limit first.0 first.1 one.1 old ran.0 part.1 ran.1.room;
    })

    behind : bindings_after one.0 one.1 bindings ≡ bindings_after first.0 first.1 bindings
    behind = ap (λ a. bindings_after a one.1 bindings) part.0 ∙ bindings-part first.0 first.1 one.1 bindings part.1

-- ---- the phases

module _ (u : Setup) (lines : List ActionLine) (answers kept : List LineReply) (ticks aheads : ℕ) (part : AllTellPart lines answers kept) where
  abbrev before : Plan
  before = record { lines = lines; answers = answers; ticks = ticks; aheads = aheads }

  abbrev after : Plan
  after = record { lines = lines; answers = kept; ticks = ticks; aheads = aheads }

  phase-part : (phase : ℕ) (ticked stepped : List LineReply) (taken : List Request) (old new : List Entry) → PhaseRan u before phase ticked stepped taken old new → PhaseRan u after phase ticked stepped taken old new
  phase-part phase ticked stepped taken old new ran = record {
    callers = λ me lazy ahead.
        let earlier = asked-part (is_before_phase phase me) lines answers kept part in
        let now = asked-part (is_of_phase phase me) lines answers kept part in
        subst (λ b. Ran u (limit_in after phase) me b (asked_of (is_of_phase phase me) lines kept) old new)
        (sym (bound-part (asked_of (is_before_phase phase me) lines answers) (asked_of (is_before_phase phase me) lines kept) [] earlier))
        (ran-part u (limit_in before phase) me (asked_of (is_of_phase phase me) lines answers) (asked_of (is_of_phase phase me) lines kept)
        (bindings_of [] (asked_of (is_before_phase phase me) lines answers)) old new now (ran.callers me lazy ahead));
    all_ticks = ran.all_ticks;
    ticks = ran.ticks;
    all_steps = ran.all_steps;
    steps = ran.steps;
  }

  pub phases-part : (phase left : ℕ) (ticked stepped : List LineReply) (taken : List Request) (old new : List Entry) → PhasesRan u before phase left ticked stepped taken old new → PhasesRan u after phase left ticked stepped taken old new
  phases-part phase zero ticked stepped taken old new ran = ran
  phases-part phase (suc left) ticked stepped taken old new ran =
      (ran.0, ran.1, ran.2, phase-part phase _ _ _ old ran.0 ran.3, phases-part (suc phase) left _ _ _ ran.0 new ran.4)

-- ---- the replies of the streams, and behind them those of the lines

module _ (streams : List StreamLine) (setup answers between replies : List LineReply) (opened : between ≡ [] ++ setup) (grew : replies ≡ between ++ answers) (long : length setup ≡ length streams) where
  parts : replies ≡ setup ++ answers
  parts = grew ∙ ap (λ l. l ++ answers) opened

  pub told-parts : drop (length streams) replies ≡ answers
  told-parts = ap (λ l. drop (length streams) l) parts ∙ (ap (λ n. drop n (setup ++ answers)) (sym long) ∙ drop-append_seam setup answers)

  pub kept-parts : (kept : List LineReply) → take (length streams) kept ≡ take (length streams) replies → kept ≡ setup ++ drop (length streams) kept
  kept-parts kept same =
      sym (take-append-drop (length streams) kept)
      ∙ ap (λ l. l ++ drop (length streams) kept)
      (same ∙ (ap (λ l. take (length streams) l) parts ∙ (ap (λ n. take n (setup ++ answers)) (sym long) ∙ take-append_seam setup answers)))

-- ---- each number once

none-told : (n : ℕ) (ns : List ℕ) → list_any (λ other. n == other) ns ≡ false → AllByRecursion (λ other. nat_eq n other ≡ false) ns
none-told n [] apart = tt
none-told n (m ∷ ns) apart = by (nat_eq n m) refl apart (λ rest. none-told n ns rest)
  where
    by : (b : Bool) → nat_eq n m ≡ b → (b || list_any (λ other. n == other) ns) ≡ false → (list_any (λ other. n == other) ns ≡ false → AllByRecursion (λ other. nat_eq n other ≡ false) ns) → (nat_eq n m ≡ false) × AllByRecursion (λ other. nat_eq n other ≡ false) ns
    by false is rest more = (is, more rest)
    by true is rest more = absurd (cc rest)

-- a number is in front of those that it is not among
pub once-more : (id : ℕ) (ids : List ℕ) → list_any (λ other. id == other) ids ≡ false → IsDistinct nat_eq ids → IsDistinct nat_eq (id ∷ ids)
unfolding IsDistinct
once-more id ids apart once = (none-told id ids apart, once)

pub once-none : IsDistinct nat_eq []
unfolding IsDistinct
once-none = tt

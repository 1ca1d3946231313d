-- The opening, and the two phases behind it.
use Rattle.std.specs.Prelude.{◌≡◌, ◌≢◌, ℕ, ◌==◌, Bool, true, false, List, [], ◌∷◌, ◌++◌, refl}
use Rattle.std.specs.declared.option.Option.TheVariants.{Some}
use Rattle.std.specs.List.{IsDistinct}
use Rattle.std.proofs.Common.{◌∙◌, ap, arith, sym}
use Rattle.std.proofs.lemmas.Bool.{eqb-true}
use Rattle.cc_entry.specs.declared.answer.LineReply.{LineReply}
use Rattle.cc_entry.specs.declared.reply.Reply.TheVariants as reply
use Rattle.cc_effects.specs.Moments.{IsIdle}
use Rattle.cc_pieces.specs.Phases.{PhasesRan}
use Rattle.cc_pieces.specs.Explained.{answered_lines}
use Rattle.cc_effects.proofs.Starts.{begins, ends_done}
use Rattle.cc_effects.proofs.Stretches.{idle-none}
use Rattle.cc_worked.specs.Values.{setup}
use Rattle.cc_worked.specs.PiecesRuns.{initialises, opens, caller_opens, unit_at, of_one_answered, plan_with, all_replies, one_unanswered, reads_and_asks, stream_last}
use Rattle.cc_worked.proofs.Marks.{marks, marked-then, marked-idle, shows}
use Rattle.cc_worked.proofs.RunMarks.{read_mark, state_mark, phases-ran}
use Rattle.cc_worked.proofs.RunsRight.{two-phases}
use Rattle.cc_worked.proofs.pieces_runs.run_is_explained.Goals as goal

-- no caller places anything in the opening
alone : (me : ℕ) → me ≢ 0 → IsIdle me [] opens
alone me not = record { during = opens; grew = refl; others = (by (0 == me) refl, tt) }
  where
    by : (is : Bool) → (0 == me) ≡ is → (0 == me) ≡ false
    by true same = absurd (not (sym (eqb-true 0 me same)))
    by false other = other

pub returns-clause-explained : goal.returns-clause-explained
unfolding IsDistinct
returns-clause-explained c = record {
  ended = [];
  setup = unit_at 1 ∷ [];
  answers = of_one_answered;
  restarted = [];
  begun = opens;
  replies_are = refl;
  restart_lines = refl;
  setup_lines = refl;
  answer_lines = refl;
  restarts_ended = idle-none 0 [];
  opened = (opens, record { opened = ends_done 0 1 (Some 0) initialises reply.Unit [] [] (begins 0 initialises []) refl (λ during. tt); room = λ none. tt }, idle-none 0 opens);
  alone = alone;
  ran = two-phases;
  posted_once = tt;
}

-- the replies answer the lines in the order of the script
lines-told : (replies ended its answers : List LineReply) → answered_lines ended ≡ [] → answered_lines its ≡ 1 ∷ [] → answered_lines answers ≡ 2 ∷ 3 ∷ [] → replies ≡ ended ++ (its ++ answers) → answered_lines replies ≡ 1 ∷ 2 ∷ 3 ∷ []
lines-told replies (first ∷ ended) its answers none one more same = absurd (cc)
lines-told replies [] [] answers none one more same = absurd (cc)
lines-told replies [] (first ∷ next ∷ its) answers none one more same = absurd (cc)
lines-told replies [] (first ∷ []) answers none one more same =
    let line : first.line ≡ 1 = cc in
    ap answered_lines same ∙ rw (line, more) refl

pub returns-clause-streams_first : goal.returns-clause-streams_first
returns-clause-streams_first c left =
    other (lines-told stream_last left.ended left.setup left.answers left.restart_lines left.setup_lines left.answer_lines left.replies_are)
  where
    other : answered_lines stream_last ≡ 1 ∷ 2 ∷ 3 ∷ [] → ⊥
    other same = let first : ◌≡◌ {A = ℕ} 2 1 = cc in omega (arith, first)

pub returns-clause-each_line : goal.returns-clause-each_line
returns-clause-each_line c left =
    other (lines-told one_unanswered left.ended left.setup left.answers left.restart_lines left.setup_lines left.answer_lines left.replies_are)
  where
    other : answered_lines one_unanswered ≡ 1 ∷ 2 ∷ 3 ∷ [] → ⊥
    other same = absurd (cc)

-- no reply is that of a restart
no-ended : (ended its answers : List LineReply) → answered_lines ended ≡ [] → all_replies ≡ ended ++ (its ++ answers) → all_replies ≡ its ++ answers
no-ended [] its answers none replies = replies
no-ended (first ∷ ended) its answers none replies = absurd (cc)

-- the first reply is the stream's, the others are those of the lines
answers_are : (its answers : List LineReply) → all_replies ≡ its ++ answers → answered_lines its ≡ 1 ∷ [] → answers ≡ of_one_answered
answers_are [] answers replies lines = absurd (cc)
answers_are (first ∷ []) answers replies lines = cc
answers_are (first ∷ next ∷ rest) answers replies lines = absurd (cc)

one_is_not_zero : ◌≡◌ {A = ℕ} 1 0 → ⊥
one_is_not_zero same = omega (arith, same)

pub returns-clause-nothing_before : goal.returns-clause-nothing_before
returns-clause-nothing_before c left =
    let replies = no-ended left.ended left.setup left.answers left.restart_lines left.replies_are in
    let answers = answers_are left.setup left.answers replies left.setup_lines in
    let ran : PhasesRan setup (plan_with 0 0) 1 2 [] [] [] left.begun (reads_and_asks ++ caller_opens) = rw answers at left.ran in
    let all = marked-then 1 [] (read_mark ∷ state_mark ∷ []) [] left.begun (reads_and_asks ++ caller_opens) (marked-idle 1 [] left.begun (left.alone 1 one_is_not_zero)) (phases-ran [] [] [] left.begun (reads_and_asks ++ caller_opens) ran) in
    other (shows 1 (read_mark ∷ state_mark ∷ []) (reads_and_asks ++ caller_opens) [] all)
  where
    other : marks 1 (reads_and_asks ++ caller_opens) ≡ read_mark ∷ state_mark ∷ [] → ⊥
    other same = absurd (cc)

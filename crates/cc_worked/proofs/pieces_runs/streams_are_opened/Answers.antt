-- The calls of pass 0, by their ends.
use Rattle.std.specs.Prelude.{◌≡◌, ℕ, ◌<◌, false, [], ◌∷◌, ◌++◌, length, refl}
use Rattle.std.specs.declared.option.Option.TheVariants.{Some, None}
use Rattle.std.proofs.Common.{inl, inr, arith, ap}
use Rattle.cc_entry.specs.declared.call.Call.TheVariants as call
use Rattle.cc_entry.specs.declared.error.CcError.TheVariants as error
use Rattle.cc_entry.specs.declared.reply.Reply.TheVariants as reply
use Rattle.cc_entry.specs.declared.reply.Outcome.TheVariants as outcome
use Rattle.cc_model.specs.Room.{room_in}
use Rattle.cc_effects.specs.Calls.{CallLeft}
use Rattle.cc_effects.proofs.Licences.{some-here}
use Rattle.cc_effects.proofs.Starts.{begins, ends_done, ends_refused}
use Rattle.cc_effects.proofs.Stretches.{idle-none}
use Rattle.cc_worked.specs.Values.{setup, a, b, sized, opened}
use Rattle.cc_worked.specs.PiecesRuns.{stream_with, initialises, opens, opens_with, caller_opens, log_all_the_same, opens_both, opens_first_twice}
use Rattle.cc_worked.proofs.PiecesOpened.{computed, neither}
use Rattle.cc_worked.proofs.Marks.{Ended, marks, shows, marked-then, marked-idle}
use Rattle.cc_worked.proofs.RunMarks.{opened_marks, opening-marked, refused-opening}
use Rattle.cc_worked.proofs.pieces_runs.streams_are_opened.Goals as goal

its_opening : CallLeft setup 0 initialises (outcome.Done reply.Unit) [] opens
its_opening = ends_done 0 1 (Some 0) initialises reply.Unit [] [] (begins 0 initialises []) refl (λ during. tt)

pub returns-clause-opened : goal.returns-clause-opened
returns-clause-opened c = record { opened = its_opening; room = λ none. tt }

pub returns-clause-with_log : goal.returns-clause-with_log
returns-clause-with_log c = record {
  opened = inr (opens, its_opening, ends_done 0 2 (Some 0) (call.SetLog a 3) reply.Unit opens opens (begins 0 (call.SetLog a 3) opens) refl (λ during. tt));
  room = λ none. tt;
}

pub returns-clause-refused : goal.returns-clause-refused
returns-clause-refused c = record {
  opened = inl (error.NoVacbs 3, refl, inl (ends_refused 0 1 (Some 0) initialises (error.NoVacbs 3) [] [] (begins 0 initialises []) refl refl));
  room = λ none. tt;
}

pub returns-clause-both : goal.returns-clause-both
returns-clause-both c =
    let its = call.Initialise b (sized 8192 8192) 16 false in
    (opens, record { opened = its_opening; room = λ none. tt }, (opens_both, record { opened = ends_done 0 2 (Some 1) its reply.Unit opens opens (begins 0 its opens) refl (λ during. tt); room = λ none. tt }, idle-none 0 opens_both))

pub returns-clause-not_without_log : goal.returns-clause-not_without_log
returns-clause-not_without_log c left =
    other (shows 0 (opened_marks 0 (stream_with (Some 3)) (Some 3)) opens [] (opening-marked setup 0 (stream_with (Some 3)) (Some 3) [] opens left.opened))
  where
    other : marks 0 opens ≡ opened_marks 0 (stream_with (Some 3)) (Some 3) → ⊥
    other same = absurd (cc)

pub returns-clause-no_other_log : goal.returns-clause-no_other_log
returns-clause-no_other_log c left =
    other (shows 0 (opened_marks 0 (stream_with (Some 3)) (Some 3)) (opens_with 2) [] (opening-marked setup 0 (stream_with (Some 3)) (Some 3) [] (opens_with 2) left.opened))
  where
    other : marks 0 (opens_with 2) ≡ opened_marks 0 (stream_with (Some 3)) (Some 3) → ⊥
    other same = absurd (cc)

pub returns-clause-no_log_unasked : goal.returns-clause-no_log_unasked
returns-clause-no_log_unasked c left =
    other (shows 0 (opened_marks 0 (stream_with None) None) (opens_with 3) [] (opening-marked setup 0 (stream_with None) None [] (opens_with 3) left.opened))
  where
    other : marks 0 (opens_with 3) ≡ opened_marks 0 (stream_with None) None → ⊥
    other same = absurd (cc)

pub returns-clause-by_no_caller : goal.returns-clause-by_no_caller
returns-clause-by_no_caller c left =
    other (shows 0 (opened_marks 0 (stream_with None) None) caller_opens [] (opening-marked setup 0 (stream_with None) None [] caller_opens left.opened))
  where
    other : marks 0 caller_opens ≡ opened_marks 0 (stream_with None) None → ⊥
    other same = absurd (cc)

pub returns-clause-no_more : goal.returns-clause-no_more
returns-clause-no_more c left =
    neither (λ first. alone (shows 0 (Ended initialises (outcome.Failed (error.NoVacbs 3)) ∷ []) log_all_the_same [] first)) (λ second. done (shows 0 (Ended initialises (outcome.Done reply.Unit) ∷ Ended (call.SetLog a 0) (outcome.Failed (error.NoVacbs 3)) ∷ []) log_all_the_same [] second)) (refused-opening setup 0 (stream_with (Some 0)) 0 (error.NoVacbs 3) [] log_all_the_same left.opened)
  where
    alone : marks 0 log_all_the_same ≡ Ended initialises (outcome.Failed (error.NoVacbs 3)) ∷ [] → ⊥
    alone same = absurd (cc)

    done : marks 0 log_all_the_same ≡ Ended initialises (outcome.Done reply.Unit) ∷ Ended (call.SetLog a 0) (outcome.Failed (error.NoVacbs 3)) ∷ [] → ⊥
    done same = absurd (cc)

pub returns-clause-not_full : goal.returns-clause-not_full
unfolding computed
returns-clause-not_full c left =
    let here = some-here (λ moment. (0 ≡ length moment) × (room_in setup moment 0 < 4)) [] (left.room refl) in
    far here.1
  where
    far : room_in setup [] 0 < 4 → ⊥
    far less = omega (arith, less)

pub returns-clause-by_their_number : goal.returns-clause-by_their_number
returns-clause-by_their_number c left =
    let first = opening-marked setup 0 (stream_with None) None [] left.0 left.1.opened in
    let second = opening-marked setup 1 (stream_with None) None left.0 left.2.0 left.2.1.opened in
    let both = marked-then 0 (opened_marks 0 (stream_with None) None) (opened_marks 1 (stream_with None) None) [] left.0 left.2.0 first second in
    let all = marked-then 0 (opened_marks 0 (stream_with None) None ++ opened_marks 1 (stream_with None) None) [] [] left.2.0 opens_first_twice both (marked-idle 0 left.2.0 opens_first_twice left.2.2) in
    other (shows 0 (opened_marks 0 (stream_with None) None ++ opened_marks 1 (stream_with None) None) opens_first_twice [] all)
  where
    other : marks 0 opens_first_twice ≡ opened_marks 0 (stream_with None) None ++ opened_marks 1 (stream_with None) None → ⊥
    other same = absurd (cc)

pub returns-clause-no_other_sizes : goal.returns-clause-no_other_sizes
returns-clause-no_other_sizes c left =
    other (shows 0 (opened_marks 0 (stream_with None) None) (opened 8192 4096 ∷ []) [] (opening-marked setup 0 (stream_with None) None [] (opened 8192 4096 ∷ []) left.opened))
  where
    other : marks 0 (opened 8192 4096 ∷ []) ≡ opened_marks 0 (stream_with None) None → ⊥
    other same =
        let sizes : sized 8192 4096 ≡ sized 8192 8192 = cc in
        let valid : ◌≡◌ {A = ℕ} 4096 8192 = ap (λ its. its.valid) sizes in
        omega (arith, valid)

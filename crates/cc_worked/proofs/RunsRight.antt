-- The two phases of the run of two lines: the one caller runs its line in each, and all others are idle.
use Rattle.std.specs.Prelude.{◌≡◌, ℕ, ◌==◌, Bool, true, false, List, [], ◌∷◌, ◌++◌, refl}
use Rattle.std.specs.declared.option.Option.TheVariants.{Some, None}
use Rattle.std.proofs.Common.{inl, inr, sym, arith}
use Rattle.std.proofs.lemmas.Bool.{eqb-true}
use Rattle.cc_entry.specs.declared.call.Call.TheVariants as call
use Rattle.cc_entry.specs.declared.query.Query.TheVariants as query
use Rattle.cc_entry.specs.declared.reply.Reply.TheVariants as reply
use Rattle.cc_entry.specs.declared.query.Value.TheVariants as value
use Rattle.cc_entry.specs.declared.reply.Outcome.TheVariants as outcome
use Rattle.cc_entry.specs.declared.entry.Entry.{Entry}
use Rattle.cc_effects.specs.Moments.{IsIdle}
use Rattle.cc_effects.specs.Calls.{CallLeft}
use Rattle.cc_pieces.specs.Runs.{Ran, bindings_of}
use Rattle.cc_pieces.specs.Phases.{limit_in, lines_in, lines_before, PhaseRan, PhasesRan}
use Rattle.cc_effects.proofs.Starts.{begins, brings, ends_done}
use Rattle.cc_effects.proofs.Stretches.{idle-none}
use Rattle.cc_worked.specs.Values.{setup, a, page, answers, read_in}
use Rattle.cc_worked.specs.PiecesReads.{two_pages, first_byte, a_byte, page_comes_in}
use Rattle.cc_worked.specs.PiecesLines.{no_request}
use Rattle.cc_worked.specs.PiecesRuns.{plan_with, two_full, reads_and_asks}
use Rattle.cc_worked.proofs.PiecesOpened.{computed}
use Rattle.cc_worked.proofs.StateAsked.{state-told}

-- what the caller ran of a phase, and of the others nothing
each_caller : (ticks aheads phase : ℕ) (piece old : List Entry) → Ran setup (limit_in (plan_with ticks aheads) phase) 1 (bindings_of [] (lines_before (plan_with ticks aheads) phase 1)) (lines_in (plan_with ticks aheads) phase 1) old (piece ++ old) → ((me : ℕ) → (1 == me) ≡ false → Ran setup (limit_in (plan_with ticks aheads) phase) me (bindings_of [] (lines_before (plan_with ticks aheads) phase me)) (lines_in (plan_with ticks aheads) phase me) old (piece ++ old)) → (me : ℕ) → Ran setup (limit_in (plan_with ticks aheads) phase) me (bindings_of [] (lines_before (plan_with ticks aheads) phase me)) (lines_in (plan_with ticks aheads) phase me) old (piece ++ old)
each_caller ticks aheads phase piece old its others me = by (1 == me) refl
  where
    by : (is : Bool) → (1 == me) ≡ is → Ran setup (limit_in (plan_with ticks aheads) phase) me (bindings_of [] (lines_before (plan_with ticks aheads) phase me)) (lines_in (plan_with ticks aheads) phase me) old (piece ++ old)
    by true same = let one : me ≡ 1 = sym (eqb-true 1 me same) in rw one its
    by false other = others me other

its_read : CallLeft setup 1 first_byte (outcome.Done a_byte) two_pages (page_comes_in ++ two_pages)
unfolding computed
its_read =
    ends_done 1 1 (Some 0) first_byte a_byte two_pages (read_in 1 0 ∷ two_pages) (brings 1 first_byte two_pages two_pages (page 0) true (begins 1 first_byte two_pages) refl refl refl) refl (λ during. tt)

none_read : (ticks aheads me : ℕ) → (1 == me) ≡ false → Ran setup (limit_in (plan_with ticks aheads) 1) me (bindings_of [] (lines_before (plan_with ticks aheads) 1 me)) (lines_in (plan_with ticks aheads) 1 me) two_pages (page_comes_in ++ two_pages)
none_read ticks aheads me other = rw other (record { during = page_comes_in; grew = refl; others = (other, (other, tt)) })

first_callers : (ticks aheads me : ℕ) → Ran setup (limit_in (plan_with ticks aheads) 1) me (bindings_of [] (lines_before (plan_with ticks aheads) 1 me)) (lines_in (plan_with ticks aheads) 1 me) two_pages (page_comes_in ++ two_pages)
first_callers ticks aheads me =
    each_caller ticks aheads 1 page_comes_in two_pages (page_comes_in ++ two_pages, record { served = its_read; room = tt }, idle-none 1 (page_comes_in ++ two_pages)) (none_read ticks aheads) me

pub first-phase : PhaseRan setup (plan_with 0 0) 1 [] [] [] two_pages (page_comes_in ++ two_pages)
first-phase = record {
  callers = λ me x y. first_callers 0 0 me;
  all_ticks = refl;
  ticks = record { during = page_comes_in; grew = refl; others = (refl, (refl, tt)) };
  all_steps = inl refl;
  steps = (refl, record { during = page_comes_in; grew = refl; others = (refl, (refl, tt)) });
}

-- a worker that is asked twice finds no request
pub phase-with-steps : PhaseRan setup (plan_with 0 2) 1 [] (no_request ∷ []) [] two_pages (page_comes_in ++ two_pages)
phase-with-steps = record {
  callers = λ me x y. first_callers 0 2 me;
  all_ticks = refl;
  ticks = idle_beside 17 refl;
  all_steps = inr (omega arith, refl);
  steps = (page_comes_in ++ two_pages, None, [], refl, refl, idle_beside 18 refl, tt, (λ none. refl), (refl, idle-none 18 (page_comes_in ++ two_pages)));
}
  where
    idle_beside : (me : ℕ) → (1 == me) ≡ false → IsIdle me two_pages (page_comes_in ++ two_pages)
    idle_beside me other = record { during = page_comes_in; grew = refl; others = (other, (other, tt)) }

asked : List Entry
asked = answers 1 2 (call.Query (query.State a)) (reply.Value (value.State two_full)) ∷ []

none_asked : (me : ℕ) → (1 == me) ≡ false → Ran setup (limit_in (plan_with 0 0) 2) me (bindings_of [] (lines_before (plan_with 0 0) 2 me)) (lines_in (plan_with 0 0) 2 me) (page_comes_in ++ two_pages) (reads_and_asks ++ two_pages)
unfolding asked
none_asked me other = rw other (record { during = asked; grew = refl; others = (other, tt) })

second_phase : PhaseRan setup (plan_with 0 0) 2 [] [] [] (page_comes_in ++ two_pages) (reads_and_asks ++ two_pages)
unfolding asked
second_phase = record {
  callers = λ me x y. each_caller 0 0 2 asked (page_comes_in ++ two_pages) (reads_and_asks ++ two_pages, record { served = state-told 2 two_full (page_comes_in ++ two_pages); room = tt }, idle-none 1 (reads_and_asks ++ two_pages)) none_asked me;
  all_ticks = refl;
  ticks = record { during = asked; grew = refl; others = (refl, tt) };
  all_steps = inl refl;
  steps = (refl, record { during = asked; grew = refl; others = (refl, tt) });
}

pub two-phases : PhasesRan setup (plan_with 0 0) 1 2 [] [] [] two_pages (reads_and_asks ++ two_pages)
two-phases = (page_comes_in ++ two_pages, 0, 0, first-phase, (reads_and_asks ++ two_pages, 0, 0, second_phase, (refl, refl, refl, refl)))

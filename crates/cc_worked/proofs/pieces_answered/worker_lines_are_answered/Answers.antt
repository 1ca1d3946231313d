-- What the workers placed, by its marks.
use Rattle.std.specs.Prelude.{◌≡◌, ℕ, true, false, [], ◌∷◌, ◌++◌, List, refl}
use Rattle.std.specs.declared.option.Option.TheVariants.{Some}
use Rattle.std.proofs.Common.{ap, arith, inl}
use Rattle.cc_entry.specs.declared.call.Call.TheVariants as call
use Rattle.cc_entry.specs.declared.error.CcError.TheVariants as error
use Rattle.cc_entry.specs.declared.reply.Outcome.TheVariants as outcome
use Rattle.cc_entry.specs.declared.reply.Reply.TheVariants as reply
use Rattle.cc_entry.specs.declared.entry.Entry.TheVariants as entry
use Rattle.cc_model.specs.History.{history}
use Rattle.cc_model.specs.Reasons.{is_open}
use Rattle.cc_effects.specs.Asked.{Writes}
use Rattle.cc_effects.proofs.Starts.{begins, brings, ends_done, ends_unread}
use Rattle.cc_effects.proofs.Stretches.{idle-none}
use Rattle.cc_effects.proofs.Licences.{some-here}
use Rattle.cc_worked.specs.Values.{setup, a, page, read_in}
use Rattle.cc_worked.specs.PiecesReads.{two_pages}
use Rattle.cc_worked.specs.PiecesWithoutEntry.{dirty, page_of_tick, request, step}
use Rattle.cc_worked.specs.PiecesAnswered.{first_request, step_fails}
use Rattle.cc_worked.proofs.PiecesOpened.{computed}
use Rattle.cc_worked.proofs.Ticks.{ticked}
use Rattle.cc_worked.proofs.Marks.{Mark, Ended, Scanned, marked-call, marks, marks-works, marks-others, around, shows}
use Rattle.cc_worked.proofs.pieces_answered.worker_lines_are_answered.Goals as goal

pub returns-clause-ticked : goal.returns-clause-ticked
returns-clause-ticked c = ticked

pub returns-clause-stepped : goal.returns-clause-stepped
unfolding computed
returns-clause-stepped c = (
  refl,
  ends_done 18 1 (Some 0) (call.AheadStep request) (reply.Whole true) two_pages (read_in 18 1 ∷ two_pages) (brings 18 (call.AheadStep request) two_pages two_pages (page 1) true (begins 18 (call.AheadStep request) two_pages) refl refl refl) refl (λ during. tt),
)

pub returns-clause-levels : goal.returns-clause-levels
unfolding computed
returns-clause-levels c = record { idle = idle-none 1 two_pages; had = record { moment = two_pages; later = []; since = []; ends = refl; begins = refl; holds = (refl, refl) } }

pub returns-clause-none_picked : goal.returns-clause-none_picked
returns-clause-none_picked c left =
    let s = left.scanned in
    let after = marks-works 17 (Writes []) left.during (entry.Scan 17 [] ∷ (s.before ++ dirty)) s.works.each in
    other (shows 17 (Scanned [] ∷ []) page_of_tick dirty (around 17 (entry.Scan 17 []) left.during s.before dirty (page_of_tick ++ dirty) s.grew after (marks-others 17 s.before s.quiet)))
  where
    other : marks 17 page_of_tick ≡ Scanned [] ∷ [] → ⊥
    other same = absurd (cc)

pub returns-clause-tick_wants_memory : goal.returns-clause-tick_wants_memory
returns-clause-tick_wants_memory c = inl (idle-none 17 dirty)

pub returns-clause-step_failed : goal.returns-clause-step_failed
unfolding computed
returns-clause-step_failed c =
    ends_unread 18 1 (Some 0) (call.AheadStep request) (page 1) two_pages two_pages (begins 18 (call.AheadStep request) two_pages) refl refl refl refl refl

pub returns-clause-levels_not_cached : goal.returns-clause-levels_not_cached
unfolding computed
returns-clause-levels_not_cached c =
    record { idle = idle-none 1 []; closed = record { moment = []; later = []; since = []; ends = refl; begins = refl; holds = refl } }

pub returns-clause-step_not_refused : goal.returns-clause-step_not_refused
returns-clause-step_not_refused c left =
    other (shows 18 (Ended (call.AheadStep request) (outcome.Failed (error.ReadFault 1)) ∷ []) step two_pages (marked-call setup 18 (call.AheadStep request) (outcome.Failed (error.ReadFault 1)) two_pages (step ++ two_pages) left refl))
  where
    other : marks 18 step ≡ Ended (call.AheadStep request) (outcome.Failed (error.ReadFault 1)) ∷ [] → ⊥
    other same = absurd (cc)

-- the step's entry names the request for the second page
pub returns-clause-no_other_request : goal.returns-clause-no_other_request
returns-clause-no_other_request c left = let same : ◌≡◌ {A = ℕ} 4096 0 = ap (λ asked. asked.at) left.0 in omega (arith, same)

pub returns-clause-no_other_failed : goal.returns-clause-no_other_failed
returns-clause-no_other_failed c left =
    other (shows 18 (Ended (call.AheadStep first_request) (outcome.Failed (error.ReadFault 1)) ∷ []) step_fails two_pages (marked-call setup 18 (call.AheadStep first_request) (outcome.Failed (error.ReadFault 1)) two_pages (step_fails ++ two_pages) left refl))
  where
    place_of : List Mark → ℕ
    place_of (Ended (call.AheadStep asked) answered ∷ more) = asked.at
    place_of other = 0

    other : marks 18 step_fails ≡ Ended (call.AheadStep first_request) (outcome.Failed (error.ReadFault 1)) ∷ [] → ⊥
    other same = let at : ◌≡◌ {A = ℕ} 4096 0 = ap place_of same in omega (arith, at)

pub returns-clause-levels_cached : goal.returns-clause-levels_cached
unfolding computed
returns-clause-levels_cached c left = differ (some-here (λ moment. is_open (history moment 0) a ≡ false) two_pages left.closed)
  where
    differ : true ≡ false → ⊥
    differ same = absurd (cc)

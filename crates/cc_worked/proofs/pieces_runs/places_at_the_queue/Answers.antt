-- The passes are the caller, the worker and those that did nothing.
use Rattle.std.specs.Prelude.{◌≡◌, ℕ, ◌+◌, ◌≤◌, ◌==◌, Bool, true, false, List, [], ◌∷◌, length, reverse, refl}
use Rattle.std.proofs.Common.{ap, arith, inl, inr}
use Rattle.std.proofs.lemmas.Bool.{eqb-true}
use Rattle.cc_entry.specs.declared.entry.Entry.{Entry}
use Rattle.cc_entry.specs.declared.place.Request.{Request}
use Rattle.cc_effects.specs.Moments.{own}
use Rattle.cc_pieces.specs.Explained.{Answered, GivenToRun}
use Rattle.cc_pieces.specs.Queue.{AreAmong, AheadQueuePlace, answers_to, fulls_told, is_ask, lines_told, nones, requests_asked, requests_served, steps_told}
use Rattle.cc_worked.specs.PiecesAnswered.{first_request}
use Rattle.cc_worked.specs.PiecesQueue.{asks_ahead, asked_once, at_rest, finds_it_full, found_full, no_line, one_ask, one_served, places_with, told_full, told_steps, took_once}
use Rattle.cc_worked.specs.PiecesWithoutEntry.{request}
use Rattle.cc_worked.proofs.pieces_runs.places_at_the_queue.Goals as goal

-- what is so of the caller, of the worker and of any other pass is so of each
each-pass : (P : ℕ → Type 0) → P 1 → P 18 → ((me : ℕ) → (me == 1) ≡ false → (me == 18) ≡ false → P me) → (me : ℕ) → P me
each-pass P caller worker others me = by (me == 1) refl (me == 18) refl
  where
    by : (one : Bool) → (me == 1) ≡ one → (two : Bool) → (me == 18) ≡ two → P me
    by true is two other = rw (eqb-true me 1 is) caller
    by false is true other = rw (eqb-true me 18 other) worker
    by false is false other = others me is other

abbrev places : ℕ → AheadQueuePlace
places = places_with asked_once took_once

-- entries of the caller and of the worker alone
none-asked : (me : ℕ) → (me == 1) ≡ false → (me == 18) ≡ false → own me asks_ahead ≡ []
none-asked me caller worker = by (1 == me) refl (18 == me) refl
  where
    by : (one : Bool) → (1 == me) ≡ one → (two : Bool) → (18 == me) ≡ two → own me asks_ahead ≡ []
    by true is two other = let same : 1 ≡ me = eqb-true 1 me is in absurd (cc (caller, ap (λ n. n == 1) same))
    by false is true other = let same : 18 ≡ me = eqb-true 18 me other in absurd (cc (worker, ap (λ n. n == 18) same))
    by false is false other = rw (is, other) refl

pub returns-clause-queued : goal.returns-clause-queued
returns-clause-queued c = record {
  pushed = each-pass (λ me. (places me).pushed ≡ reverse (requests_asked (own me asks_ahead))) refl refl
      (λ me caller worker. rw (caller, worker, none-asked me caller worker) refl);
  fulls = each-pass (λ me. fulls_told (answers_to is_ask (lines_told no_line (told_steps one_served) me)) ≤ (places me).fulls) (omega arith) (omega arith)
      (λ me caller worker. rw (caller, worker) (omega arith));
  each_took = each-pass (λ me. length (places me).taken + nones (steps_told no_line (told_steps one_served) me) ≡ length (steps_told no_line (told_steps one_served) me)) refl refl
      (λ me caller worker. rw (caller, worker) refl);
  served = each-pass (λ me. AreAmong (reverse (requests_served (own me asks_ahead))) (places me).taken) tt (inl (refl, tt))
      (λ me caller worker. rw (caller, worker, none-asked me caller worker) tt);
  empties = each-pass (λ me. nones (steps_told no_line (told_steps one_served) me) ≤ (places me).empties) (omega arith) (omega arith)
      (λ me caller worker. rw (caller, worker) (omega arith));
  worker_took = refl;
}

abbrev full_places : ℕ → AheadQueuePlace
full_places = places_with found_full at_rest

none-full : (me : ℕ) → (me == 1) ≡ false → own me finds_it_full ≡ []
none-full me caller = by (1 == me) refl
  where
    by : (one : Bool) → (1 == me) ≡ one → own me finds_it_full ≡ []
    by true is = let same : 1 ≡ me = eqb-true 1 me is in absurd (cc (caller, ap (λ n. n == 1) same))
    by false is = rw is refl

not-caller : (me : ℕ) → (me == 1) ≡ false → (1 == me) ≡ false
not-caller me caller = by (1 == me) refl
  where
    by : (one : Bool) → (1 == me) ≡ one → one ≡ false
    by true is = let same : 1 ≡ me = eqb-true 1 me is in absurd (cc (caller, ap (λ n. n == 1) same))
    by false is = refl

pub returns-clause-found_full : goal.returns-clause-found_full
returns-clause-found_full c = record {
  pushed = each-pass (λ me. (full_places me).pushed ≡ reverse (requests_asked (own me finds_it_full))) refl refl
      (λ me caller worker. rw (caller, worker, none-full me caller) refl);
  fulls = each-pass (λ me. fulls_told (answers_to is_ask (lines_told one_ask told_full me)) ≤ (full_places me).fulls) (omega arith) (omega arith)
      (λ me caller worker. rw (caller, worker, not-caller me caller) (omega arith));
  each_took = each-pass (λ me. length (full_places me).taken + nones (steps_told one_ask told_full me) ≡ length (steps_told one_ask told_full me)) refl refl
      (λ me caller worker. rw (caller, worker, not-caller me caller) refl);
  served = each-pass (λ me. AreAmong (reverse (requests_served (own me finds_it_full))) (full_places me).taken) tt tt
      (λ me caller worker. rw (caller, worker, none-full me caller) tt);
  empties = each-pass (λ me. nones (steps_told one_ask told_full me) ≤ (full_places me).empties) (omega arith) (omega arith)
      (λ me caller worker. rw (caller, worker, not-caller me caller) (omega arith));
  worker_took = refl;
}

pub returns-clause-each_pushed : goal.returns-clause-each_pushed
returns-clause-each_pushed c left = let same : ◌≡◌ {A = List Request} [] (request ∷ []) = left.pushed 1 in absurd (cc same)

pub returns-clause-each_full : goal.returns-clause-each_full
returns-clause-each_full c left = let most : ◌≤◌ 1 0 = left.fulls 1 in omega (arith, most)

pub returns-clause-as_told : goal.returns-clause-as_told
returns-clause-as_told c left = let same : ◌≡◌ {A = List Request} [] (request ∷ []) = left.worker_took in absurd (cc same)

pub returns-clause-one_a_step : goal.returns-clause-one_a_step
returns-clause-one_a_step c left = let same : ◌≡◌ {A = ℕ} 1 0 = left.each_took 18 in omega (arith, same)

-- the entry's request is the one for the second page
pub returns-clause-as_served : goal.returns-clause-as_served
returns-clause-as_served c left = by (left.served 18)
  where
    by : AreAmong (request ∷ []) (first_request ∷ []) → ⊥
    by (inl both) = let same : ◌≡◌ {A = ℕ} 4096 0 = ap (λ asked. asked.at) both.0 in omega (arith, same)
    by (inr none) = absurd none

pub returns-clause-each_empty : goal.returns-clause-each_empty
returns-clause-each_empty c left = let most : ◌≤◌ 1 0 = left.empties 18 in omega (arith, most)

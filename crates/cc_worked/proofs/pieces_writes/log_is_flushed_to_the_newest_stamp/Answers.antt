-- The page of the span asks its log up to its newest stamp.
use Rattle.std.specs.Prelude.{◌≡◌, ℕ, ◌+◌, ◌*◌, ◌<◌, ◌==◌, ◌&&◌, ◌||◌, Bool, true, false, nat_lt, List, [], ◌∷◌, refl}
use Rattle.std.specs.declared.option.Option.{Option}
use Rattle.std.specs.declared.option.Option.TheVariants.{Some}
use Rattle.std.proofs.Common.{arith, sym}
use Rattle.std.proofs.lemmas.Bool.{and_parts, eqb-true, ltb-true}
use Rattle.cc_entry.specs.Pages.{has_page}
use Rattle.cc_model.specs.History.{history}
use Rattle.cc_model.specs.Stamps.{newest_of, is_unstamped}
use Rattle.cc_entry.specs.declared.reply.Reply.TheVariants as reply
use Rattle.cc_entry.specs.declared.error.CcError.TheVariants as error
use Rattle.cc_entry.specs.declared.reply.Outcome.TheVariants as outcome
use Rattle.cc_entry.specs.declared.entry.Entry.{Entry}
use Rattle.cc_entry.specs.declared.entry.Entry.TheVariants as entry
use Rattle.cc_model.specs.Faults.{LogFailed}
use Rattle.cc_effects.specs.Asked.{Calls, is_admitted}
use Rattle.cc_effects.specs.Places.{AsksLog}
use Rattle.cc_effects.proofs.Starts.{done_by, faulted_by}
use Rattle.cc_effects.proofs.Licences.{licensed}
use Rattle.cc_effects.proofs.Stretches.{some-begin}
use Rattle.cc_worked.specs.Values.{setup, page, begins, ends, synced}
use Rattle.cc_worked.specs.PiecesWrites.{first_page, stamped_twice, log_fails, written_again, log_goes_short}
use Rattle.cc_worked.proofs.PiecesOpened.{computed, neither}
use Rattle.cc_worked.proofs.pieces_writes.log_is_flushed_to_the_newest_stamp.Goals as goal

asks : AsksLog (Calls first_page) 0 2 stamped_twice
unfolding computed
asks = record { page = page 0; writes = refl; log = refl; stamped = refl; newest = refl }

pub returns-clause-done : goal.returns-clause-done
unfolding computed
returns-clause-done c =
    done_by 1 4 (Some 0) first_page reply.Unit (synced 1 ∷ ends 1 0 ∷ begins 1 0 ∷ entry.Flushed 1 0 2 ∷ []) stamped_twice (record { each = ((λ is. (refl, some-begin (λ moment. is_admitted first_page 0 moment ≡ true) (ends 1 0 ∷ begins 1 0 ∷ entry.Flushed 1 0 2 ∷ []) stamped_twice refl)), ((λ is. refl), ((λ is. refl), ((λ is. asks), tt)))); one_sync = omega arith; whole = refl }) refl refl (record { after = []; before = ends 1 0 ∷ begins 1 0 ∷ entry.Flushed 1 0 2 ∷ []; split = refl; quiet = tt; settled = refl })

pub returns-clause-log_failed : goal.returns-clause-log_failed
unfolding computed
returns-clause-log_failed c =
    faulted_by 1 4 (Some 0) first_page (error.LogFault 0) (entry.LogFailed 1 0) [] stamped_twice (record { each = ((λ is. record { to = 2; asks = asks; due = omega arith }), tt); one_sync = omega arith; whole = refl }) refl refl refl refl (record { fault = LogFailed 0; shown = refl; told = refl })

or_false : (b : Bool) → (b || false) ≡ true → b ≡ true
or_false true is = refl
or_false false is = is

-- the only page that the flush writes is the first
first_of : (to : ℕ) (past : List Entry) → (asked : AsksLog (Calls first_page) 0 to past) → (asked.page.stream ≡ 0) × (asked.page.page ≡ 0)
first_of to past asked =
    let names : Bool = 0 == asked.page.stream && has_page (record { from = 0; to = 4096 }) asked.page.page in
    let asks : (is_admitted first_page asked.page.stream past && names) ≡ true = or_false (is_admitted first_page asked.page.stream past && names) asked.writes in
    let writes : names ≡ true = (and_parts (is_admitted first_page asked.page.stream past) names asks).1 in
    let parts = and_parts (0 == asked.page.stream) (has_page (record { from = 0; to = 4096 }) asked.page.page) writes in
    let below : 4096 * asked.page.page < 4096 = ltb-true (4096 * asked.page.page) 4096 (and_parts (nat_lt 0 (4096 * asked.page.page + 4096)) (nat_lt (4096 * asked.page.page) 4096) parts.1).1 in
    (sym (eqb-true 0 asked.page.stream parts.0), omega (arith, below))

no_less : AsksLog (Calls first_page) 0 1 stamped_twice → ⊥
unfolding computed
no_less short =
    let first = first_of 1 stamped_twice short in
    let newest : newest_of (history stamped_twice 0) 0 ≡ Some 1 = rw (first.0, first.1) at short.newest in
    absurd (two_is_not_one newest)
  where
    two_is_not_one : ◌≡◌ {A = Option ℕ} (Some 2) (Some 1) → ⊥
    two_is_not_one same = absurd (cc)

unstamped : (to : ℕ) → AsksLog (Calls first_page) 0 to written_again → ⊥
unfolding computed
unstamped to asked =
    let first = first_of to written_again asked in
    let stamped : is_unstamped (history written_again 0) 0 ≡ false = rw (first.0, first.1) at asked.stamped in
    absurd (cc stamped)

pub returns-clause-not_unstamped : goal.returns-clause-not_unstamped
returns-clause-not_unstamped c left =
    neither (λ is. is) (λ may. unstamped may.to may.asks) ((licensed setup 1 first_page (outcome.Failed (error.LogFault 0)) log_fails written_again left refl).1.0 refl)

pub returns-clause-not_short : goal.returns-clause-not_short
returns-clause-not_short c left =
    neither (λ is. is) no_less ((licensed setup 1 first_page (outcome.Done reply.Unit) log_goes_short stamped_twice left refl).1.1.1.1.1.0 refl)

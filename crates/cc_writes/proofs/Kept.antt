-- With disk and book in hand nobody else changes the stream: what a call waited for it waits for still, and a page that
-- was looked for comes in.
use Rattle.std.specs.Prelude.{◌≡◌, ℕ, ◌*◌, ◌&&◌, nat_lt, not, Bool, true, false, List, ◌∷◌, [], refl}
use Rattle.std.specs.declared.option.Option.{Option}
use Rattle.std.specs.declared.option.Option.TheVariants.{Some, None}
use Rattle.std.proofs.Common.{ap, sym, ◌∙◌, inl, inr}
use Rattle.cc_entry.specs.Place.{Range}
use Rattle.cc_entry.specs.declared.call.Call.{Call}
use Rattle.cc_entry.specs.declared.call.Call.TheVariants as call
use Rattle.cc_entry.specs.declared.entry.Entry.{Entry}
use Rattle.cc_entry.specs.declared.error.CcError.{CcError}
use Rattle.cc_effects.specs.Asked.{brings_in}
use Rattle.cc_effects.specs.Places.{is_on_disk_alone}
use Rattle.cc_model.specs.Acts.{file_of}
use Rattle.cc_model.specs.Conflicts.{held, busy}
use Rattle.cc_model.specs.Discards.{unsettled, grown}
use Rattle.cc_model.specs.History.{Effect, history}
use Rattle.cc_model.specs.Holds.{holds_of}
use Rattle.cc_model.specs.Ranges.{range_of}
use Rattle.cc_model.specs.Reasons.{not_cached, cached_file, too_long, view_boundary, bad_sizes, bad_granularity, no_log, beyond_size, beyond_valid}
use Rattle.cc_model.specs.Refusals.{first_of, refusal}
use Rattle.cc_model.specs.Residency.{is_resident}
use Rattle.cc_model.specs.Setup.{Setup}
use Rattle.cc_model.specs.Touches.{size_of, valid_of}
use Rattle.cc_model.specs.Views.{viewed, no_views, no_vacbs, not_resident}
use Rattle.cc_step.specs.Fill.{IsNotToLand}
use Rattle.cc_step.specs.Room.{has_room}
use Rattle.cc_step.specs.Step.{is_awaited, least_absent, needed_range}
use Rattle.cc_step.proofs.Awaiting.{awaited-of}
use Rattle.cc_turns.specs.Standing.{Standing}
use Rattle.cc_turns.specs.Takes.{Grows}
use Rattle.cc_writes.specs.Visits.{HasLanded, IsElsewhere, IsWaitedFor, VisitLandLeft}
use Rattle.cc_writes.proofs.Brought.{apart}
use Rattle.cc_writes.proofs.Landing.{history-held}

-- a page that was read
pub some-none : {A : Type 0} (raw : List ℕ) → Some raw ≡ None → A
some-none raw is = absurd (cc)

-- a call that brings pages in asks nothing of the pool of views
pool-alike : (past now : List Entry) (h : List Effect) (it : Call) → brings_in it ≡ true → no_vacbs now h it ≡ no_vacbs past h it
pool-alike past now h (call.Initialise file sizes quota temporary) brings = absurd (cc)
pool-alike past now h other brings = refl

-- so the stream alone says what refuses it
pub refused-alike : (u : Setup) (past now : List Entry) (h : List Effect) (it : Call) → brings_in it ≡ true → refusal u now h it ≡ refusal u past h it
unfolding refusal
refused-alike u past now h it brings =
    ap (λ (pool : Option CcError).
    first_of
    (not_cached h (cached_file it (file_of it))
    ∷ too_long it
    ∷ view_boundary it
    ∷ bad_sizes h it
    ∷ bad_granularity it
    ∷ no_log u it
    ∷ beyond_size (size_of h) it
    ∷ beyond_valid (valid_of h) it
    ∷ held h it
    ∷ busy (holds_of h) it
    ∷ no_views h (viewed h it (range_of (size_of h) it))
    ∷ pool
    ∷ not_resident h it
    ∷ unsettled h it
    ∷ grown h it
    ∷ []))
    (pool-alike past now h it brings)

module _ (w : Standing) (s page : ℕ) (it : Call) (seen : List Entry) (book : w.held.book ≡ Some s) (device : w.held.device ≡ Some s) (brings : brings_in it ≡ true)
    (waited : IsWaitedFor w.setup s it page w.seen) where
  same : Grows w seen → history seen s ≡ history w.seen s
  same grows = history-held w s seen book device grows

  -- it waits for the page still
  still : Grows w seen → is_awaited w.setup seen s it page ≡ true
  still grows =
      awaited-of w.setup seen s it page (record {
        admitted = ap (λ (h : List Effect). refusal w.setup seen h it) (same grows) ∙ (refused-alike w.setup w.seen seen (history w.seen s) it brings ∙ waited.admitted);
        least = ap (λ (h : List Effect). least_absent h (needed_range h it)) (same grows) ∙ waited.least;
      })

  -- so a page for whose block there is room lands, if it was read where it had to be
  pub lands : (raw : Option (List ℕ)) → has_room (history w.seen s) page ≡ true → (raw ≡ None → nat_lt (4096 * page) (valid_of (history w.seen s)) ≡ false) → VisitLandLeft w s it page raw seen → HasLanded w s it page seen
  lands raw room above (inl came) = came
  lands raw room above (inr none) = by none.reason
    where
      by : IsNotToLand w.setup seen s it page raw → HasLanded w s it page seen
      by (inl other) = apart (is_awaited w.setup seen s it page) (still none.grows) other
      by (inr (inl full)) = apart (has_room (history seen s) page) (ap (λ (h : List Effect). has_room h page) (same none.grows) ∙ room) full
      by (inr (inr (below, unread))) =
          apart (nat_lt (4096 * page) (valid_of (history seen s))) below
          (ap (λ (h : List Effect). nat_lt (4096 * page) (valid_of h)) (same none.grows) ∙ above unread)

  -- and one that the disk failed to read is on the disk alone still
  pub is-alone : {A : Type 0} → is_on_disk_alone (record { stream = s; page = page }) w.seen ≡ true → IsElsewhere w s page seen → A
  is-alone on_disk gone =
      apart (is_on_disk_alone (record { stream = s; page = page }) seen)
      (ap (λ (h : List Effect). not (is_resident h page) && nat_lt (4096 * page) (valid_of h)) (same gone.grows) ∙ on_disk) gone.elsewhere

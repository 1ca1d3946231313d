-- With the book kept a purge that goes on has less left to do after each round.
use Rattle.std.specs.Prelude.{◌≡◌, ℕ, ◌<◌, Bool, true, false, not, Result, Ok, Err, IfOk, List, ◌∷◌, refl}
use Rattle.std.specs.declared.option.Option.{Option}
use Rattle.std.specs.declared.option.Option.TheVariants.{Some, None}
use Rattle.std.proofs.Common.{ap, sym, ◌∙◌, subst, arith, inl, inr}
use Rattle.std.proofs.lemmas.Bool.{eq-eqb, not-false, or_left}
use Rattle.cc_entry.specs.Place.{File, Page, Range}
use Rattle.cc_entry.specs.declared.call.Call.{Call}
use Rattle.cc_entry.specs.declared.call.Call.TheVariants as call
use Rattle.cc_entry.specs.declared.entry.End.TheVariants as how
use Rattle.cc_entry.specs.declared.entry.Entry.{Entry}
use Rattle.cc_entry.specs.declared.entry.Entry.TheVariants as entry
use Rattle.cc_entry.specs.declared.error.CcError.{CcError}
use Rattle.cc_book.specs.Book.{BookState}
use Rattle.cc_laws.proofs.HistorySteps.{history-page_out, history-write_begin, history-write_end}
use Rattle.cc_laws.proofs.Lists1.{among-not_empty}
use Rattle.cc_laws.proofs.ObjectSteps.{objects-began, objects-ended}
use Rattle.cc_laws.proofs.QuietSteps.{history-quiet}
use Rattle.cc_laws.proofs.SoundFacts.{dirty_resident-good}
use Rattle.cc_laws.proofs.UnrefusedCalls.{refuse_if-none, unrefused}
use Rattle.cc_model.specs.Good.{IsGoodSoFar}
use Rattle.cc_model.specs.History.{Effect, WentOut, Began, Ended, history}
use Rattle.cc_model.specs.Numbers.{is_empty}
use Rattle.cc_model.specs.Objects.{objects}
use Rattle.cc_model.specs.Refusals.{refusal}
use Rattle.cc_model.specs.Residency.{is_resident}
use Rattle.cc_model.specs.Setup.{Setup}
use Rattle.cc_model.specs.Touches.{is_dirty, is_mapped}
use Rattle.cc_step.proofs.Below.{resident-below}
use Rattle.cc_step.proofs.Placed.{so-far}
use Rattle.cc_turns.specs.Standing.{Standing}
use Rattle.cc_turns.specs.Takes.{Grows}
use Rattle.cc_writes.specs.Hands.{HasBook}
use Rattle.cc_writes.specs.Work.{work_left}
use Rattle.cc_writes.specs.Writes.{HasTransferred}
use Rattle.cc_writes.proofs.Landing.{history-held}
use Rattle.cc_writes.proofs.Work.{goes-less, writes-less}
use Rattle.cc_ranges.specs.Purge.{PurgedPageHasGone, PurgeHasLess, PurgeIsAtPage, PurgeStepPlaced, left_to_empty, purge_round_of}
use Rattle.cc_ranges.specs.declared.purge.Round.TheVariants as round
use Rattle.cc_ranges.specs.declared.purge_visits.PurgeStep.TheVariants as step

-- no page is to stay
abbrev none_stays : Range
none_stays = record { from = 0; to = 0 }

-- a purge that nothing refuses is of a file that is open, so its stream has a shared map
opened : (u : Setup) (past : List Entry) (h : List Effect) (file : File) (span : Option Range) → refusal u past h (call.Purge file span) ≡ None → is_empty (objects h) ≡ false
opened u past h file span admitted = among-not_empty file.object (objects h) (not-false _ (refuse_if-none _ _ (unrefused u past h (call.Purge file span) admitted).cached))

module _ (w : Standing) (s : ℕ) (b : BookState) (has : HasBook w s b) (device : w.held.device ≡ Some s) where
  book : w.held.book ≡ Some s
  book = ap (λ h. h.book) has.held

  abbrev h : List Effect
  h = history w.seen s

  good : IsGoodSoFar w.setup w.seen
  good = so-far w.setup w.seen has.good

  by-history : (seen : List Entry) (k : List Effect) → history seen s ≡ k → work_left k (Some none_stays) < work_left h (Some none_stays) → left_to_empty s seen < left_to_empty s w.seen
  by-history seen k is less = subst (λ (g : List Effect). work_left g (Some none_stays) < work_left h (Some none_stays)) (sym is) less

  -- where nothing was placed as much is left
  pub left-held : (seen : List Entry) → Grows w seen → left_to_empty s seen ≡ left_to_empty s w.seen
  left-held seen grows = ap (λ (g : List Effect). work_left g (Some none_stays)) (history-held w s seen book device grows)

  -- a page went out
  pub gone-less : (seen : List Entry) → PurgedPageHasGone w s seen → left_to_empty s seen < left_to_empty s w.seen
  gone-less seen gone =
      let front : history gone.placed.front s ≡ h = history-held w s gone.placed.front book device gone.placed.grows in
      let resident : is_resident h gone.page ≡ true = ap (λ (g : List Effect). is_resident g gone.page) (sym front) ∙ gone.resident in
      by-history seen (WentOut w.number gone.page ∷ h)
      (ap (λ (past : List Entry). history past s) gone.placed.placed
      ∙ (history-page_out w.number (record { stream = s; page = gone.page }) gone.placed.front s (eq-eqb s s refl) ∙ ap (λ (g : List Effect). WentOut w.number gone.page ∷ g) front))
      (goes-less w.number gone.page h none_stays refl resident (resident-below w.setup w.seen s gone.page good resident))

  -- a page was written
  pub wrote-less : (file : File) (span : Option Range) (page : ℕ) (seen : List Entry) → refusal w.setup w.seen h (call.Purge file span) ≡ None → is_dirty h page ≡ true → HasTransferred w (record { stream = s; page = page }) how.Good true seen → left_to_empty s seen < left_to_empty s w.seen
  wrote-less file span page seen admitted dirty done =
      let this : Page = record { stream = s; page = page } in
      let k : List Effect = Ended w.number page how.Good ∷ Began w.number page ∷ h in
      let mapped : is_mapped k ≡ true =
      or_left (not (is_empty (objects k))) _
      (ap (λ (l : List ℕ). not (is_empty l)) (objects-ended w.number page how.Good (Began w.number page ∷ h) ∙ objects-began w.number page h)
      ∙ ap not (opened w.setup w.seen h file span admitted)) in
      by-history seen k
      (ap (λ (past : List Entry). history past s) done.placed
      ∙ (history-write_end w.number this how.Good _ s (eq-eqb s s refl)
      ∙ ap (λ (g : List Effect). Ended w.number page how.Good ∷ g)
      (history-quiet done.later (entry.WriteBegin w.number this ∷ done.before) s (done.kept refl) done.quiet
      ∙ (history-write_begin w.number this done.before s (eq-eqb s s refl) ∙ ap (λ (g : List Effect). Began w.number page ∷ g) (done.is_before.same s book device)))))
      (writes-less w.number page how.Good h none_stays refl mapped refl dirty
      (resident-below w.setup w.seen s page good (dirty_resident-good w.setup w.seen s good page dirty)))

-- a round that took its step from the stream's first page, and went on
pub less-on : (w : Standing) (file : File) (span : Option Range) (b : BookState) (from : ℕ) (seen : List Entry) → HasBook w file.stream b → w.held.device ≡ Some file.stream → from ≡ 0 → PurgeStepPlaced w file span from step.GoesOn seen → PurgeHasLess file.stream round.GoesOn w.seen seen
less-on w file span b from seen has device first (inl gone) = gone-less w file.stream b has device seen gone
less-on w file span b from seen has device first (inr (later, grows)) = absurd (omega (arith, first, later))

-- one whose step asked for a page, which was written
pub less-wrote : (w v : Standing) (file : File) (span : Option Range) (b c : BookState) (s from page : ℕ) (keeps : Bool) (written : Result Call CcError) (seen : List Entry) → HasBook w file.stream b → w.held.device ≡ Some file.stream → HasBook v file.stream c → v.held.device ≡ Some file.stream → v.setup ≡ w.setup → s ≡ file.stream → keeps ≡ true → Grows w v.seen → PurgeIsAtPage w.setup file span from page v.seen → IfOk written (λ again. HasTransferred v (record { stream = s; page = page }) how.Good keeps seen) → PurgeHasLess file.stream (purge_round_of written page) w.seen seen
less-wrote w v file span b c s from page keeps (Err e) seen has device has_then device_then setup here kept grows asking done = tt
less-wrote w v file span b c s from page keeps (Ok again) seen has device has_then device_then setup here kept grows asking done =
    subst (λ (n : ℕ). left_to_empty file.stream seen < n) (left-held w file.stream b has device v.seen grows)
    (wrote-less v file.stream c has_then device_then file span page seen
    (subst (λ (u : Setup). refusal u v.seen (history v.seen file.stream) (call.Purge file span) ≡ None) (sym setup) asking.admitted)
    asking.to_write.dirty
    (subst (λ (t : ℕ). HasTransferred v (record { stream = t; page = page }) how.Good true seen) here
    (subst (λ (k : Bool). HasTransferred v (record { stream = s; page = page }) how.Good k seen) kept done)))

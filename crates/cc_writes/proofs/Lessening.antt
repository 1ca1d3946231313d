-- With the book kept a call that goes on has less left to do after each round.
use Rattle.std.specs.Prelude.{◌≡◌, ℕ, ◌*◌, ◌<◌, ◌≤◌, Bool, true, not, List, ◌∷◌, Result, Ok, Err, IfOk, OnOk, refl}
use Rattle.std.specs.declared.option.Option.{Option}
use Rattle.std.specs.declared.option.Option.TheVariants.{Some}
use Rattle.std.proofs.Common.{ap, sym, ◌∙◌, subst, arith}
use Rattle.std.proofs.lemmas.Bool.{and_parts, or_left, eq-eqb}
use Rattle.cc_entry.specs.Place.{Page, Range}
use Rattle.cc_entry.specs.declared.call.Call.{Call}
use Rattle.cc_entry.specs.declared.entry.End.TheVariants as how
use Rattle.cc_entry.specs.declared.entry.Entry.{Entry}
use Rattle.cc_entry.specs.declared.entry.Entry.TheVariants as entry
use Rattle.cc_entry.specs.declared.error.CcError.{CcError}
use Rattle.cc_book.specs.Book.{BookState}
use Rattle.cc_effects.specs.Asked.{goes_for, makes_room}
use Rattle.cc_laws.proofs.HistorySteps.{history-page_in, history-page_out, history-write_begin, history-write_end}
use Rattle.cc_laws.proofs.ObjectSteps.{objects-began, objects-ended}
use Rattle.cc_laws.proofs.QuietSteps.{history-quiet}
use Rattle.cc_laws.proofs.SoundFacts.{dirty_resident-good}
use Rattle.cc_laws.proofs.UnrefusedCalls.{unrefused}
use Rattle.cc_model.specs.Good.{IsGoodSoFar}
use Rattle.cc_model.specs.History.{Effect, CameIn, WentOut, Began, Ended, history}
use Rattle.cc_model.specs.Numbers.{is_empty}
use Rattle.cc_model.specs.Objects.{objects}
use Rattle.cc_model.specs.Ranges.{range_of}
use Rattle.cc_model.specs.Residency.{is_resident}
use Rattle.cc_model.specs.Touches.{size_of, is_dirty, is_mapped}
use Rattle.cc_step.specs.Step.{is_answered}
use Rattle.cc_step.proofs.Below.{resident-below}
use Rattle.cc_step.proofs.Found.{page-before}
use Rattle.cc_step.proofs.Outside.{IsOutside, goes-for, outside}
use Rattle.cc_step.proofs.Placed.{so-far}
use Rattle.cc_step.proofs.Waiting.{needs, opened, waiting-mapped, waiting-within}
use Rattle.cc_turns.specs.Standing.{Standing}
use Rattle.cc_turns.specs.Takes.{Grows}
use Rattle.cc_writes.specs.Hands.{HasBook}
use Rattle.cc_writes.specs.Rounds.{HasLess, course_of, left_for}
use Rattle.cc_writes.specs.Visits.{HasGoneOut, HasLanded, IsToBeWritten, IsWaitedFor}
use Rattle.cc_writes.specs.Work.{work_left}
use Rattle.cc_writes.specs.Writes.{HasTransferred}
use Rattle.cc_writes.specs.declared.course.Course.{Course}
use Rattle.cc_writes.proofs.Landing.{history-held}
use Rattle.cc_writes.proofs.Work.{comes-less, goes-less, writes-less, size-came, size-out, size-written}

-- a pass that holds the book and the disk
module _ (w : Standing) (s : ℕ) (b : BookState) (has : HasBook w s b) (device : w.held.device ≡ Some s) (it : Call)
    (answered : is_answered it ≡ true) (room : makes_room it ≡ true) where
  book : w.held.book ≡ Some s
  book = ap (λ h. h.book) has.held

  abbrev h : List Effect
  h = history w.seen s

  good : IsGoodSoFar w.setup w.seen
  good = so-far w.setup w.seen has.good

  -- what the history is then, with the size and the range as they were, says how much is left
  by-history : (seen : List Entry) (k : List Effect) (r : Range) → history seen s ≡ k → size_of k ≡ size_of h → range_of (size_of h) it ≡ Some r → work_left k (Some r) < work_left h (Some r) → left_for s it seen < left_for s it w.seen
  by-history seen k r is size range less =
      subst (λ (g : List Effect). work_left g (range_of (size_of g) it) < left_for s it w.seen) (sym is)
      (subst (λ (o : Option Range). work_left k o < left_for s it w.seen) (sym (ap (λ (n : ℕ). range_of n it) size ∙ range))
      (subst (λ (o : Option Range). work_left k (Some r) < work_left h o) (sym range) less))

  -- where nothing was placed as much is left
  pub left-held : (seen : List Entry) → Grows w seen → left_for s it seen ≡ left_for s it w.seen
  left-held seen grows = ap (λ (g : List Effect). work_left g (range_of (size_of g) it)) (history-held w s seen book device grows)

  -- a page went out
  pub went-less : (seen : List Entry) → HasGoneOut w s it seen → left_for s it seen < left_for s it w.seen
  went-less seen gone =
      let front : history gone.placed.front s ≡ h = history-held w s gone.placed.front book device gone.placed.grows in
      let resident : is_resident h gone.page ≡ true = ap (λ (g : List Effect). is_resident g gone.page) (sym front) ∙ gone.resident in
      let out : IsOutside (range_of (size_of h) it) gone.page =
      outside h (range_of (size_of h) it) gone.page
      (ap (λ (g : List Effect). goes_for g (range_of (size_of g) it) gone.page) (sym front) ∙ goes-for it s gone.page gone.placed.front (and_parts _ _ gone.next).0) in
      by-history seen (WentOut w.number gone.page ∷ h) out.range
      (ap (λ (past : List Entry). history past s) gone.placed.placed
      ∙ (history-page_out w.number (record { stream = s; page = gone.page }) gone.placed.front s (eq-eqb s s refl) ∙ ap (λ (g : List Effect). WentOut w.number gone.page ∷ g) front))
      (size-out w.number gone.page h out.range) out.is
      (goes-less w.number gone.page h out.range out.has resident (resident-below w.setup w.seen s gone.page good resident))

  -- a page came in
  pub came-less : (page : ℕ) (seen : List Entry) → IsWaitedFor w.setup s it page w.seen → HasLanded w s it page seen → left_for s it seen < left_for s it w.seen
  came-less page seen waited came =
      let n = needs w.setup w.seen s it page (record { admitted = waited.admitted; least = waited.least }) in
      by-history seen (CameIn w.number page came.from_disk ∷ h) n.range
      (ap (λ (past : List Entry). history past s) came.placed.placed
      ∙ (history-page_in w.number (record { stream = s; page = page }) came.from_disk came.placed.front s (eq-eqb s s refl)
      ∙ ap (λ (g : List Effect). CameIn w.number page came.from_disk ∷ g) (history-held w s came.placed.front book device came.placed.grows)))
      (size-came w.number page came.from_disk h n.range (waiting-mapped w.setup w.seen h it answered room n.needing waited.admitted)) n.range_is
      (comes-less w.number page came.from_disk h n.range (waiting-mapped w.setup w.seen h it answered room n.needing waited.admitted) n.has n.absent
      (below n.range.to (size_of h) page (page-before n.range page n.has) (waiting-within w.setup w.seen h it n.range answered room waited.admitted n.range_is)))
    where
      below : (end size p : ℕ) → 4096 * p < end → end ≤ size → 4096 * p < size
      below end size p before within = omega (arith, before, within)

  -- a page was written
  pub wrote-less : (page : ℕ) (seen : List Entry) → IsToBeWritten w.setup s it page w.seen → HasTransferred w (record { stream = s; page = page }) how.Good true seen → left_for s it seen < left_for s it w.seen
  wrote-less page seen asked done =
      let this : Page = record { stream = s; page = page } in
      let out : IsOutside (range_of (size_of h) it) page = outside h (range_of (size_of h) it) page (goes-for it s page w.seen asked.in_the_way) in
      let k : List Effect = Ended w.number page how.Good ∷ Began w.number page ∷ h in
      let mapped : is_mapped k ≡ true =
      or_left (not (is_empty (objects k))) _
      (ap (λ (l : List ℕ). not (is_empty l)) (objects-ended w.number page how.Good (Began w.number page ∷ h) ∙ objects-began w.number page h)
      ∙ ap not (opened h it answered room asked.needing (unrefused w.setup w.seen h it asked.admitted).cached)) in
      by-history seen k out.range
      (ap (λ (past : List Entry). history past s) done.placed
      ∙ (history-write_end w.number this how.Good _ s (eq-eqb s s refl)
      ∙ ap (λ (g : List Effect). Ended w.number page how.Good ∷ g)
      (history-quiet done.later (entry.WriteBegin w.number this ∷ done.before) s (done.kept refl) done.quiet
      ∙ (history-write_begin w.number this done.before s (eq-eqb s s refl) ∙ ap (λ (g : List Effect). Began w.number page ∷ g) (done.is_before.same s book device)))))
      (size-written w.number page how.Good h out.range refl mapped) out.is
      (writes-less w.number page how.Good h out.range refl mapped out.has asked.dirty
      (resident-below w.setup w.seen s page good (dirty_resident-good w.setup w.seen s good page asked.dirty)))

-- The pass took its step, which placed nothing, and then a page step.
module _ (w v : Standing) (s : ℕ) (b c : BookState) (has : HasBook w s b) (device : w.held.device ≡ Some s) (it : Call)
    (answered : is_answered it ≡ true) (room : makes_room it ≡ true) (grows : Grows w v.seen) (here : HasBook v s c) (disk : v.held.device ≡ Some s) where
  since : (seen : List Entry) → left_for s it seen < left_for s it v.seen → left_for s it seen < left_for s it w.seen
  since seen less = subst (λ (n : ℕ). left_for s it seen < n) (left-held w s b has device it answered room v.seen grows) less

  pub round-wrote : (page n : ℕ) (keeps : Bool) (r : Result Call CcError) (seen : List Entry) → n ≡ s → keeps ≡ true → IsToBeWritten v.setup n it page v.seen → IfOk r (λ again. HasTransferred v (record { stream = n; page = page }) how.Good keeps seen) → HasLess s it (course_of r) w.seen seen
  round-wrote page n keeps (Ok again) seen is kept asked done =
      since seen (wrote-less v s c here disk it answered room page seen (subst (λ (t : ℕ). IsToBeWritten v.setup t it page v.seen) is asked)
      (subst (λ (t : ℕ). HasTransferred v (record { stream = t; page = page }) how.Good true seen) is
      (subst (λ (k : Bool). HasTransferred v (record { stream = n; page = page }) how.Good k seen) kept done)))
  round-wrote page n keeps (Err e) seen is kept asked done = tt

  pub round-brought : (page n : ℕ) (r : Result Call CcError) (seen : List Entry) → n ≡ s → IsWaitedFor v.setup n it page v.seen → OnOk r (HasLanded v n it page seen) → HasLess s it (course_of r) w.seen seen
  round-brought page n (Ok again) seen is waited came =
      since seen (came-less v s c here disk it answered room page seen (subst (λ (t : ℕ). IsWaitedFor v.setup t it page v.seen) is waited)
      (subst (λ (t : ℕ). HasLanded v t it page seen) is came))
  round-brought page n (Err e) seen is waited came = tt

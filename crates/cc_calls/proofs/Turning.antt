-- One turn of a stream's book: what a pass has in its hands in it, and what is said of the turn as a whole.
use Rattle.std.specs.Prelude.{◌≡◌, ℕ, Result, Ok, Err, List, ◌++◌, Some, refl}
use Rattle.std.proofs.Common.{ap, sym, ◌∙◌, subst}
use Rattle.cc_entry.specs.declared.call.Call.{Call}
use Rattle.cc_entry.specs.declared.entry.Entry.{Entry}
use Rattle.cc_entry.specs.declared.error.CcError.{CcError}
use Rattle.cc_entry.specs.declared.error.CcError.TheVariants as error
use Rattle.cc_entry.specs.declared.reply.Outcome.{Outcome}
use Rattle.cc_entry.specs.declared.reply.Outcome.TheVariants as outcome
use Rattle.cc_book.specs.Book.{BookState, BookStands}
use Rattle.cc_effects.specs.Asked.{Calls}
use Rattle.cc_effects.specs.Calls.{CallLeft, IsUnderWay}
use Rattle.cc_effects.specs.Moments.{IsIdle}
use Rattle.cc_effects.proofs.Stretches.{grew-after}
use Rattle.cc_effects.proofs.WorkSteps.{works-after, unsynced-append, unsynced-others, unstopped-after}
use Rattle.cc_model.specs.Acts.{file_of}
use Rattle.cc_model.specs.Filing.{IsFiled}
use Rattle.cc_model.specs.Good.{IsGood, IsGoodSoFar}
use Rattle.cc_model.specs.History.{history}
use Rattle.cc_model.specs.Holds.{holds_of}
use Rattle.cc_own.proofs.OwnHolds.{filed-grows}
use Rattle.cc_step.specs.Step.{asked_now, most_asked}
use Rattle.cc_step.proofs.Asking.{most}
use Rattle.cc_step.proofs.Placed.{so-far}
use Rattle.cc_turns.specs.Standing.{Standing, TurnsHeld, nothing}
use Rattle.cc_turns.specs.Takes.{Takes, with_book, without_book}
use Rattle.cc_writes.specs.Hands.{HasBook, Went}
use Rattle.cc_writes.specs.Visits.{IsFiledNow, IsFullTried, TriedLeft}
use Rattle.cc_writes.specs.declared.tell.Returned.{Returned}
use Rattle.cc_writes.specs.declared.course.Course.{Course}
use Rattle.cc_writes.specs.declared.course.Course.TheVariants as course
use Rattle.cc_writes.specs.Fetch.{CanCall}
use Rattle.cc_writes.proofs.Fullness.{full-answer}
use Rattle.cc_calls.specs.Answers.{CallEnds}
use Rattle.cc_calls.specs.Paged.{CalledAtOnce}

-- a call that is under way is so after others went on
way-then : (me : ℕ) (it : Call) (begun old new : List Entry) → IsUnderWay me it begun old → IsIdle me old new → IsUnderWay me it begun new
way-then me it begun old new way idle = record {
  during = idle.during ++ way.during;
  grew = grew-after idle.during way.during begun old new idle.grew way.grew;
  works = works-after me (Calls it) idle.during way.during begun idle.others way.works;
  unsynced = unsynced-append me idle.during way.during (unsynced-others me idle.during idle.others) way.unsynced;
  unstopped = unstopped-after me idle.during way.during idle.others way.unstopped;
}

module _ (w v : Standing) (s : ℕ) (b : BookState) (took : Takes (with_book s) w v) (b_is : b.stream ≡ s) where
  -- the book that was taken is in hand
  pub has-book : CanCall w s → BookStands (v.setup.opening s) v.seen b → HasBook v b.stream b
  has-book can stands = record {
    held = let at : v.held ≡ record nothing { book = Some s } = ap (λ x. x.held) took.same ∙ ap (λ (h : TurnsHeld). record h { book = Some s }) can.free in rw (b_is, at) refl;
    stream = refl;
    stands = subst (λ (n : ℕ). BookStands (v.setup.opening n) v.seen b) (sym b_is) stands;
    good = took.good;
  }

  -- the call is filed under its stream still
  pub filed-now : (it : Call) → IsFiledNow w s it → IsFiledNow v b.stream it
  filed-now it filed =
      subst (λ (past : List Entry). IsFiled (holds_of (history past b.stream)) v.number (Some b.stream) it (file_of it)) (sym took.grows.grew)
      (subst (λ (me : ℕ). IsFiled (holds_of (history (took.grows.later ++ w.seen) b.stream)) me (Some b.stream) it (file_of it)) (sym (ap (λ x. x.number) took.same))
      (subst (λ (n : ℕ). IsFiled (holds_of (history (took.grows.later ++ w.seen) n)) w.number (Some n) it (file_of it)) (sym b_is)
      (filed-grows v.setup w.number s it took.grows.later w.seen sound took.grows.others filed)))
    where
      sound : IsGoodSoFar v.setup (took.grows.later ++ w.seen)
      sound = subst (λ (past : List Entry). IsGoodSoFar v.setup past) took.grows.grew (so-far v.setup v.seen took.good)

  -- what an attempt with it leaves, the turn leaves
  pub turn-left : (x y : Standing) (it : Call) (ended : Course (ℕ × Call)) (begun : List Entry) (was now : List ℕ) → y ≡ without_book x → (IsUnderWay v.number it begun v.seen → TriedLeft v.setup v.number b.stream it ended begun x.seen was now) → IsUnderWay w.number it begun w.seen → TriedLeft w.setup w.number s it ended begun y.seen was now
  turn-left x y it ended begun was now gave left way =
      let number : v.number ≡ w.number = ap (λ x. x.number) took.same in
      let idle : IsIdle w.number w.seen v.seen = record { during = took.grows.later; grew = took.grows.grew; others = took.grows.others } in
      let on : IsUnderWay v.number it begun v.seen = rw number (way-then w.number it begun w.seen v.seen way idle) in
      rw (ap (λ x. x.seen) gave) (rw (ap (λ x. x.setup) took.same, number, b_is) at (left on))

  -- and where it found the journal full, the turn did
  pub turn-full : (x y : Standing) (it : Call) (ended : Course (ℕ × Call)) → y ≡ without_book x → IsFullTried x b.stream it ended → IsFullTried y s it ended
  turn-full x y it ended gave full = rw gave (given ended (subst (λ (n : ℕ). IsFullTried x n it ended) b_is full))
    where
      given : (ended : Course (ℕ × Call)) → IsFullTried x s it ended → IsFullTried (without_book x) s it ended
      given (course.Ended (Ok told)) full = full
      given (course.Ended (Err (error.JournalFull entries))) full = full
      given (course.Ended (Err other)) full = full
      given (course.GoesOn (page, again)) full = full

-- a call that ended in it
pub at-once : (w v : Standing) (s : ℕ) (it : Call) (ended : Course (ℕ × Call)) (answer : Result Returned CcError) (was now : List ℕ) → ended ≡ course.Ended answer → Went w v → IsGood w.setup v.seen → IsFullTried v s it ended → TriedLeft w.setup w.number s it ended w.seen v.seen was now → CalledAtOnce w v it answer was now
at-once w v s it ended answer was now is went good full left = record {
  left = subst (λ (t : Course (ℕ × Call)). TriedLeft w.setup w.number s it t w.seen v.seen was now) is left;
  full = full-answer (asked_now v.seen s it) (most_asked it) v answer (most (holds_of (history v.seen s)) it)
      (subst (λ (t : Course (ℕ × Call)). IsFullTried v s it t) is full).0;
  goes_on = went;
  good = good;
}

-- and failed
pub failed-at-once : {A : Type 0} (told : Result A CcError → Outcome) (w v : Standing) (it : Call) (e : CcError) (was now : List ℕ) → told (Err e) ≡ outcome.Failed e → CalledAtOnce w v it (Err e) was now → CallEnds told w v it (Err e)
failed-at-once told w v it e was now is c = record {
  left = subst (λ (o : Outcome). CallLeft w.setup w.number it o w.seen v.seen) (sym is) c.left.0;
  full = c.full;
  goes_on = c.goes_on;
  good = λ was_good. c.good;
}

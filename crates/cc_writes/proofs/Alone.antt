-- Nobody else changes a stream while a pass has its book and its disk in hand.
use Rattle.std.specs.Prelude.{◌≡◌, ℕ, Bool, true, Result, Ok, Err, List, [], ◌∷◌, ◌++◌, length, refl}
use Rattle.std.specs.declared.option.Option.{Option}
use Rattle.std.specs.declared.option.Option.TheVariants.{Some, None}
use Rattle.std.specs.List.{AllByRecursion}
use Rattle.std.proofs.Common.{ap, sym, ◌∙◌, subst, arith, append_assoc, append-nil, inl, inr}
use Rattle.std.proofs.lemmas.Bool.{eq-eqb}
use Rattle.std.proofs.lemmas.List.{length-append}
use Rattle.cc_entry.specs.Place.{Page}
use Rattle.cc_entry.specs.declared.entry.End.{End}
use Rattle.cc_entry.specs.declared.entry.End.TheVariants as how
use Rattle.cc_entry.specs.declared.entry.Entry.{Entry}
use Rattle.cc_entry.specs.declared.entry.Entry.TheVariants as entry
use Rattle.cc_entry.specs.declared.error.CcError.{CcError}
use Rattle.cc_entry.specs.declared.error.CcError.TheVariants as error
use Rattle.cc_effects.proofs.Stretches.{grew-after}
use Rattle.cc_laws.proofs.HistorySteps.{history-effect, history-grown, history-write_begin, history-write_end}
use Rattle.cc_laws.proofs.QuietSteps.{history-quiet}
use Rattle.cc_model.specs.History.{Effect, Ended, effect_of, history}
use Rattle.cc_model.specs.Turns.{Device, Book}
use Rattle.cc_turns.specs.Standing.{Standing, is_the}
use Rattle.cc_turns.specs.Takes.{Grows}
use Rattle.cc_writes.specs.Alone.{NobodyElseChanged, changer_of}
use Rattle.cc_writes.specs.Hands.{WentWith}
use Rattle.cc_writes.specs.Visits.{HasPlaced}
use Rattle.cc_writes.specs.Writes.{HasTransferred, IsBefore, WriteShown}
use Rattle.cc_writes.specs.declared.writes.PageTransfer.{PageTransfer}
use Rattle.cc_writes.specs.declared.writes.PageTransfer.TheVariants as write

is_held : (n : ℕ) (held : Option ℕ) → held ≡ Some n → is_the n held ≡ true
is_held n held is = rw is (eq-eqb n n refl)

all-append : {A : Type 0} (P : A → Type 0) (xs ys : List A) → AllByRecursion P xs → AllByRecursion P ys → AllByRecursion P (xs ++ ys)
all-append P [] ys a b = b
all-append P (x ∷ xs) ys a b = (a.0, all-append P xs ys a.1 b)

none-before : {A : Type 0} (xs ys : List A) → xs ++ ys ≡ ys → xs ≡ []
none-before [] ys is = refl
none-before (x ∷ xs) ys is =
    let longer = ap (λ l. length l) is in
    let both = length-append xs ys in
    absurd (omega (arith, longer, both))

-- each effect is the pass's
abbrev AllOwn : ℕ → List Effect → Type 0
AllOwn me effects = AllByRecursion (λ effect. changer_of effect ≡ me) effects

-- nothing happened
pub alone-begins : (me s : ℕ) (past : List Entry) → NobodyElseChanged me s past past
unfolding history
alone-begins me s past = record { during = []; grew = refl; own = tt }

-- nobody else did in two stretches
pub alone-then : (me s : ℕ) (old between new : List Entry) → NobodyElseChanged me s old between → NobodyElseChanged me s between new → NobodyElseChanged me s old new
alone-then me s old between new first second = record {
  during = second.during ++ first.during;
  grew = grew-after second.during first.during old between new second.grew first.grew;
  own = subst (AllOwn me) (sym (history-grown second.during first.during s)) (all-append (λ effect. changer_of effect ≡ me) (history second.during s) (history first.during s) second.own first.own);
}

-- a stretch without an effect on the stream
unaffected : (me s : ℕ) (old new during : List Entry) → new ≡ during ++ old → history during s ≡ [] → NobodyElseChanged me s old new
unaffected me s old new during grew none = record { during = during; grew = grew; own = subst (AllOwn me) (sym none) tt }

module _ (w : Standing) (s : ℕ) (book : w.held.book ≡ Some s) (device : w.held.device ≡ Some s) where
  -- others went on
  pub alone-grows : (seen : List Entry) → Grows w seen → NobodyElseChanged w.number s w.seen seen
  unfolding history
  alone-grows seen grows =
      unaffected w.number s w.seen seen grows.later grows.grew
      (ap (λ (past : List Entry). history past s) (sym (append-nil grows.later))
      ∙ history-quiet grows.later [] s (grows.quiet (Book s) (is_held s w.held.book book)) (grows.quiet (Device s) (is_held s w.held.device device)))

  -- and then the pass placed an entry of its own
  pub alone-placed : (e : Entry) (effect : Effect) (seen : List Entry) → effect_of e s ≡ Some effect → changer_of effect ≡ w.number → HasPlaced w e seen → NobodyElseChanged w.number s w.seen seen
  unfolding history
  alone-placed e effect seen is mine placed =
      alone-then w.number s w.seen placed.front seen (alone-grows placed.front placed.grows)
      (record { during = e ∷ []; grew = placed.placed; own = subst (AllOwn w.number) (sym (history-effect e [] s (Some effect) is)) (mine, tt) })

  -- or one that has no effect on it
  pub alone-effectless : (e : Entry) (seen : List Entry) → effect_of e s ≡ None → HasPlaced w e seen → NobodyElseChanged w.number s w.seen seen
  unfolding history
  alone-effectless e seen none placed =
      alone-then w.number s w.seen placed.front seen (alone-grows placed.front placed.grows)
      (record { during = e ∷ []; grew = placed.placed; own = subst (AllOwn w.number) (sym (history-effect e [] s None none)) tt })

  -- or it flushed a log at most
  pub alone-before : (past : List Entry) → IsBefore w past → NobodyElseChanged w.number s w.seen past
  alone-before past is =
      unaffected w.number s w.seen past is.since is.grew
      (none-before (history is.since s) (history w.seen s)
      (sym (history-grown is.since w.seen s) ∙ (ap (λ (at : List Entry). history at s) (sym is.grew) ∙ is.same s book device)))

  -- or it transferred a page with the book kept
  pub alone-transferred : (page : ℕ) (end : End) (seen : List Entry) → HasTransferred w (record { stream = s; page = page }) end true seen → NobodyElseChanged w.number s w.seen seen
  unfolding history
  alone-transferred page end seen done =
      let this : Page = record { stream = s; page = page } in
      let begin = entry.WriteBegin w.number this in
      alone-then w.number s w.seen done.before seen (alone-before done.before done.is_before)
      (record {
        during = entry.WriteEnd w.number this end ∷ (done.later ++ (begin ∷ []));
        grew = done.placed ∙ ap (λ (past : List Entry). entry.WriteEnd w.number this end ∷ past) (sym (append_assoc done.later (begin ∷ []) done.before));
        own = subst (AllOwn w.number)
            (sym (history-write_end w.number this end (done.later ++ (begin ∷ [])) s (eq-eqb s s refl)
            ∙ ap (λ (h : List Effect). Ended w.number page end ∷ h)
            (history-quiet done.later (begin ∷ []) s (done.kept refl) done.quiet ∙ history-write_begin w.number this [] s (eq-eqb s s refl))))
            (refl, (refl, tt));
      })

  -- whatever the writing of a page answers, with the book kept
  pub alone-shown : (page : ℕ) (keeps : Bool) (r : Result PageTransfer CcError) (seen : List Entry) → keeps ≡ true → WriteShown w (record { stream = s; page = page }) keeps r seen → NobodyElseChanged w.number s w.seen seen
  alone-shown page keeps r seen kept shown = by r (subst (λ (k : Bool). WriteShown w (record { stream = s; page = page }) k r seen) kept shown)
    where
      by : (r : Result PageTransfer CcError) → WriteShown w (record { stream = s; page = page }) true r seen → NobodyElseChanged w.number s w.seen seen
      by (Ok write.Written) done = alone-transferred page how.Good seen done
      by (Ok write.NotWritten) done = alone-transferred page how.Failed seen done
      by (Ok (write.NotLogged handle)) done =
          alone-effectless (entry.LogFailed w.number handle) seen refl (record { front = done.front; grows = done.grows; placed = done.placed })
      by (Err (error.JournalFull entries)) done = alone-before seen done
      by (Err error.NoMemory) (inl before) = alone-before seen before
      by (Err error.NoMemory) (inr done) = alone-transferred page how.NoMemory seen done
      by (Err other) done = absurd done

-- and where the pass went on then
pub alone-ended : (flight n s : ℕ) (w v : Standing) (new : List Entry) → WentWith flight w v → n ≡ s → NobodyElseChanged w.number s w.seen v.seen → NobodyElseChanged v.number n v.seen new → NobodyElseChanged w.number s w.seen new
alone-ended flight n s w v new went same first then =
    alone-then w.number s w.seen v.seen new first
    (subst (λ (t : ℕ). NobodyElseChanged w.number t v.seen new) same
    (subst (λ (m : ℕ). NobodyElseChanged m n v.seen new) (ap (λ (x : Standing). x.number) went.same) then))

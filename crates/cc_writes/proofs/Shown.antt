-- What the writing of a page answers stands in the journal.
use Rattle.std.specs.Prelude.{◌≡◌, ℕ, Bool, ◌⊎◌, List, [], ◌∷◌, ◌++◌, Result, Ok, Err, refl}
use Rattle.std.proofs.Common.{ap, sym, ◌∙◌, subst, append_assoc, inl, inr, ⊎_elim}
use Rattle.std.proofs.lemmas.Bool.{eq-eqb}
use Rattle.cc_entry.specs.Place.{Page}
use Rattle.cc_entry.specs.declared.entry.End.{End}
use Rattle.cc_entry.specs.declared.entry.End.TheVariants as how
use Rattle.cc_entry.specs.declared.entry.Entry.{Entry}
use Rattle.cc_entry.specs.declared.entry.Entry.TheVariants as entry
use Rattle.cc_entry.specs.declared.error.CcError.{CcError}
use Rattle.cc_entry.specs.declared.error.CcError.TheVariants as error
use Rattle.cc_effects.specs.Moments.{Others}
use Rattle.cc_effects.proofs.Stretches.{own-others, own-after}
use Rattle.cc_laws.proofs.HistorySteps.{history-log_flushed}
use Rattle.cc_model.specs.History.{history}
use Rattle.cc_turns.specs.Transfers.{transferred}
use Rattle.cc_turns.specs.Standing.{TurnsHeld, Standing}
use Rattle.cc_turns.specs.Takes.{Grows}
use Rattle.cc_writes.specs.Hands.{WentWith}
use Rattle.cc_writes.specs.Writes.{IsBefore, HasTransferred, WriteShown}
use Rattle.cc_writes.specs.Logs.{FlushLeft, ReachedBy, IsWant}
use Rattle.cc_writes.specs.Transfers.{IsTransferred, PutLeft}
use Rattle.cc_writes.specs.declared.log.LogFlush.{LogFlush}
use Rattle.cc_writes.specs.declared.log.LogFlush.TheVariants as flush
use Rattle.cc_writes.specs.declared.writes.PageTransfer.{PageTransfer}
use Rattle.cc_writes.specs.declared.writes.PageTransfer.TheVariants as write
use Rattle.cc_writes.proofs.Landing.{history-held}
use Rattle.cc_writes.proofs.OneVisit.{went-number, went-held}

-- before the transfer the pass placed nothing, or that the log was flushed
before-grown : (w : Standing) (seen : List Entry) → Grows w seen → IsBefore w seen
before-grown w seen grows = record { since = grows.later; grew = grows.grew; only = inl (own-others w.number grows.later grows.others); same = λ s book device. history-held w s seen book device grows }

before-reached : (w : Standing) (page : Page) (seen : List Entry) → ReachedBy w page seen → IsBefore w seen
before-reached w page seen reached =
    ⊎_elim (λ grows. before-grown w seen grows)
    (λ flushed.
    let grows = flushed.2.placed.grows in
    record {
      since = entry.Flushed w.number flushed.0 flushed.1 ∷ grows.later;
      grew = flushed.2.placed.placed ∙ ap (λ (past : List Entry). entry.Flushed w.number flushed.0 flushed.1 ∷ past) grows.grew;
      only = inr (flushed.0, flushed.1, rw (eq-eqb w.number w.number refl) (ap (λ (l : List Entry). entry.Flushed w.number flushed.0 flushed.1 ∷ l) (own-others w.number grows.later grows.others)));
      same = λ s book device.
          ap (λ (past : List Entry). history past s) flushed.2.placed.placed
          ∙ (history-log_flushed w.number flushed.0 flushed.1 flushed.2.placed.front s ∙ history-held w s flushed.2.placed.front book device grows);
    })
    reached

-- others went on
before-then : (w x : Standing) (past : List Entry) → x.number ≡ w.number → x.held ≡ w.held → IsBefore w x.seen → Grows x past → IsBefore w past
before-then w x past same held is grows = record {
  since = grows.later ++ is.since;
  grew = grows.grew ∙ (ap (λ l. grows.later ++ l) is.grew ∙ sym (append_assoc grows.later is.since w.seen));
  only = subst (λ (l : List Entry). (l ≡ []) ⊎ ((handle : ℕ) × (to : ℕ) × (l ≡ entry.Flushed w.number handle to ∷ [])))
      (sym (own-after w.number grows.later is.since (subst (λ (m : ℕ). Others m grows.later) same grows.others))) is.only;
  same = λ s book device. history-held x s past (ap (λ (h : TurnsHeld). h.book) held ∙ book) (ap (λ (h : TurnsHeld). h.device) held ∙ device) grows ∙ is.same s book device;
}

transferred-then : (w x : Standing) (page : Page) (how : End) (keeps : Bool) (seen : List Entry) → x.number ≡ w.number → x.held ≡ w.held → IsBefore w x.seen → IsTransferred x page how keeps seen → HasTransferred w page how keeps seen
transferred-then w x page how keeps seen same held is ended = record {
  before = ended.before;
  is_before = before-then w x ended.before same held is ended.grows;
  later = ended.later;
  quiet = ended.quiet;
  others = subst (λ (m : ℕ). Others m ended.later) same ended.others;
  kept = ended.kept;
  placed = ended.placed ∙ ap (λ (m : ℕ). transferred m page.stream page.page how ended.later ended.before) same;
}

put-shown : (w x : Standing) (page : Page) (keeps : Bool) (result : Result PageTransfer CcError) (seen : List Entry) → x.number ≡ w.number → x.held ≡ w.held → IsBefore w x.seen → PutLeft x page keeps result seen → WriteShown w page keeps result seen
put-shown w x page keeps (Ok write.Written) seen same held is left = transferred-then w x page how.Good keeps seen same held is left
put-shown w x page keeps (Ok write.NotWritten) seen same held is left = transferred-then w x page how.Failed keeps seen same held is left
put-shown w x page keeps (Ok (write.NotLogged handle)) seen same held is left = absurd left
put-shown w x page keeps (Err (error.JournalFull entries)) seen same held is left = before-then w x seen same held is left
put-shown w x page keeps (Err error.NoMemory) seen same held is left =
    ⊎_elim (λ grows. inl (before-then w x seen same held is grows)) (λ ended. inr (transferred-then w x page how.NoMemory keeps seen same held is ended)) left
put-shown w x page keeps (Err other) seen same held is left = absurd left

want-shown : (w : Standing) (page : Page) (keeps : Bool) (e : CcError) (seen : List Entry) → IsWant e → Grows w seen → WriteShown w page keeps (Err e) seen
want-shown w page keeps (error.JournalFull entries) seen want grows = before-grown w seen grows
want-shown w page keeps error.NoMemory seen want grows = inl (before-grown w seen grows)
want-shown w page keeps other seen want grows = absurd want

module _ (n : ℕ) (w x : Standing) (page : Page) (keeps : Bool) (went : WentWith n w x) (flushed : Result LogFlush CcError) (left : FlushLeft w page flushed x.seen) where
  pub written-shown : (result : Result PageTransfer CcError) (seen : List Entry) → flushed ≡ Ok flush.Reached → PutLeft x page keeps result seen → WriteShown w page keeps result seen
  written-shown result seen reached put =
      let there = subst (λ (r : Result LogFlush CcError). FlushLeft w page r x.seen) reached left in
      put-shown w x page keeps result seen (went-number n w x went) (went-held n w x went) (before-reached w page x.seen there.0) put

  pub unlogged-shown : (handle : ℕ) → flushed ≡ Ok (flush.Failed handle) → WriteShown w page keeps (Ok (write.NotLogged handle)) x.seen
  unlogged-shown handle failed =
      let there = subst (λ (r : Result LogFlush CcError). FlushLeft w page r x.seen) failed left in
      record { front = there.1.placed.front; grows = there.1.placed.grows; log = there.1.due.log; placed = there.1.placed.placed }

  pub unflushed-shown : (e : CcError) → flushed ≡ Err e → WriteShown w page keeps (Err e) x.seen
  unflushed-shown e err =
      let there = subst (λ (r : Result LogFlush CcError). FlushLeft w page r x.seen) err left in
      want-shown w page keeps e x.seen there.1 there.0

-- What a flush that was done leaves of its span, and what it leaves with the disk and the book given back.
use Rattle.std.specs.Prelude.{◌≡◌, ℕ, ◌^◌, Bool, true, false, not, ◌==◌, List, [], ◌∷◌, ◌++◌, Contains, Result, Ok, Err, refl}
use Rattle.std.specs.declared.option.Option.{Option}
use Rattle.std.specs.declared.option.Option.TheVariants.{Some, None}
use Rattle.std.proofs.Common.{ap, sym, ◌∙◌, subst, append_assoc, arith}
use Rattle.std.proofs.lemmas.List.{append_cancel_right}
use Rattle.cc_entry.specs.Place.{File, Range}
use Rattle.cc_entry.specs.declared.call.Call.TheVariants as call
use Rattle.cc_entry.specs.declared.entry.Entry.{Entry}
use Rattle.cc_entry.specs.declared.entry.Entry.TheVariants as entry
use Rattle.cc_entry.specs.declared.entry.End.TheVariants as how
use Rattle.cc_entry.specs.declared.error.CcError.{CcError}
use Rattle.cc_entry.specs.declared.reply.Outcome.TheVariants as outcome
use Rattle.cc_entry.specs.declared.reply.Reply.{Reply}
use Rattle.cc_entry.specs.declared.reply.Reply.TheVariants as reply
use Rattle.cc_effects.specs.Calls.{CallLeft}
use Rattle.cc_effects.specs.Moments.{own}
use Rattle.cc_ranges.proofs.FlushedAlone.{clean-alone, none-other, own-rest, own-tail}
use Rattle.cc_ranges.proofs.KeptSince.{crash-since}
use Rattle.cc_laws.proofs.HistorySteps.{history-done, history-done_other, history-no_stream}
use Rattle.cc_laws.proofs.TouchSteps.{touches-looks}
use Rattle.cc_model.specs.Good.{IsGood, IsGoodSoFar}
use Rattle.cc_model.specs.History.{history}
use Rattle.cc_model.specs.Images.{crash_pages}
use Rattle.cc_model.specs.Numbers.{is_empty}
use Rattle.cc_model.specs.Setup.{Setup}
use Rattle.cc_model.specs.Sizes.{Touch}
use Rattle.cc_model.specs.Touches.{is_dirty}
use Rattle.cc_turns.specs.Standing.{Standing, TurnsHeld, nothing}
use Rattle.cc_turns.specs.Takes.{Grows, Takes, with_device, with_book, without_device, without_book}
use Rattle.cc_effects.specs.Begins.{BeginsAscending}
use Rattle.cc_writes.specs.Hands.{Went}
use Rattle.cc_effects.proofs.Begun.{ascend-none, ascend-then, none-idle}
use Rattle.cc_writes.specs.Ways.{IsFull}
use Rattle.cc_writes.specs.Calls.{IsFullWriting}
use Rattle.cc_writes.specs.Fetch.{WentOn}
use Rattle.cc_calls.specs.Answers.{outcome_of}
use Rattle.cc_calls.specs.Flushes.{LeavesClean, IsDurable, FlushEnds}

-- the entry of a flush leaves each page as dirty as it was
dirty-flush : (me nth : ℕ) (stream : Option ℕ) (file : File) (span : Option Range) (r : Reply) (past : List Entry) (s p : ℕ) → is_dirty (history (entry.Call me nth stream (call.Flush file span) (outcome.Done r) ∷ past) s) p ≡ is_dirty (history past s) p
dirty-flush me nth None file span r past s p = ap (λ h. is_dirty h p) (history-no_stream me nth (call.Flush file span) (outcome.Done r) past s)
dirty-flush me nth (Some stream) file span r past s p = go (stream == s) refl
  where
    go : (b : Bool) → (stream == s) ≡ b → is_dirty (history (entry.Call me nth (Some stream) (call.Flush file span) (outcome.Done r) ∷ past) s) p ≡ is_dirty (history past s) p
    go true same =
        ap (λ h. is_dirty h p) (history-done me nth stream (call.Flush file span) r past s same)
        ∙ ap (λ (ts : List Touch). not (is_empty ts)) (touches-looks false me (call.Flush file span) r (history past s) p refl)
    go false other = ap (λ h. is_dirty h p) (history-done_other me nth stream (call.Flush file span) r past s other)

module _ (u : Setup) (me : ℕ) (file : File) (span : Option Range) (r : Reply) (old new : List Entry) (left : CallLeft u me (call.Flush file span) (outcome.Done r) old new) where
  -- its own entry
  abbrev done : Entry
  done = entry.Call me left.placed.nth left.placed.stream (call.Flush file span) (outcome.Done r)

  -- Where its pass was alone, a flush that was done left no page of its span dirty.
  pub clean-flush : LeavesClean me file.stream span old new
  clean-flush alone p has =
      ap (λ past. is_dirty (history past file.stream) p) (left.placed.grew ∙ ap (λ l. l ++ (done ∷ (left.earlier ++ old))) none)
      ∙ (dirty-flush me left.placed.nth left.placed.stream file span r (left.earlier ++ old) file.stream p
      ∙ clean-alone me file.stream (call.Flush file span) span left.earlier old left.placed.works left.has_done mine p has)
    where
      same : alone.during ≡ left.placed.later ++ done ∷ left.earlier
      same = append_cancel_right alone.during (left.placed.later ++ done ∷ left.earlier) old
          (sym alone.grew ∙ (left.placed.grew ∙ sym (append_assoc left.placed.later (done ∷ left.earlier) old)))

      whole : own me (left.placed.later ++ done ∷ left.earlier) ≡ left.placed.later ++ done ∷ left.earlier
      whole = subst (λ l. own me l ≡ l) same alone.all_own

      none : left.placed.later ≡ []
      none = none-other me left.placed.later (done ∷ left.earlier) whole left.placed.quiet

      mine : own me left.earlier ≡ left.earlier
      mine = own-rest me done left.earlier (own-tail me left.placed.later (done ∷ left.earlier) whole)

  -- Behind its good sync the images that were known at it are kept.
  pub durable-flush : IsDurable u me file.stream span old new
  durable-flush = record {
    before = left.has_done.before;
    after = after;
    synced = split;
    settled = left.has_done.settled;
    kept = λ pages later p bytes content good has known among.
        crash-since u pages me file.stream p bytes (later ++ after) (left.has_done.before ++ old)
        (subst (IsGoodSoFar u) (longer later) good) known content
        (subst (λ past. Contains (crash_pages pages (history past file.stream) p) content) (longer later) among);
  }
    where
      sync : Entry
      sync = entry.Sync me file.stream how.Good

      after : List Entry
      after = left.placed.later ++ done ∷ left.has_done.after

      split : new ≡ after ++ (sync ∷ (left.has_done.before ++ old))
      split =
          left.placed.grew
          ∙ (ap (λ l. left.placed.later ++ (done ∷ (l ++ old))) left.has_done.split
          ∙ (ap (λ l. left.placed.later ++ (done ∷ l)) (append_assoc left.has_done.after (sync ∷ left.has_done.before) old)
          ∙ sym (append_assoc left.placed.later (done ∷ left.has_done.after) (sync ∷ (left.has_done.before ++ old)))))

      longer : (later : List Entry) → later ++ new ≡ (later ++ after) ++ (sync ∷ (left.has_done.before ++ old))
      longer later = ap (λ l. later ++ l) split ∙ sym (append_assoc later after (sync ∷ (left.has_done.before ++ old)))

-- what a flush leaves, where the rest is known of it
pub flush-ends : (w z : Standing) (file : File) (span : Option Range) (answer : Result (Unit {0}) CcError) → CallLeft w.setup w.number (call.Flush file span) (outcome_of answer) w.seen z.seen → IsFullWriting (call.Flush file span) z answer → WentOn w z → IsGood w.setup z.seen → BeginsAscending w.number 0 (2 ^ 51) w.seen z.seen → FlushEnds w z file span answer
flush-ends w z file span (Ok _) left full on good begun = record {
  left = left;
  full = full;
  goes_on = on;
  good = good;
  ascending = begun;
  clean = clean-flush w.setup w.number file span reply.Unit w.seen z.seen left;
  durable = durable-flush w.setup w.number file span reply.Unit w.seen z.seen left;
}
flush-ends w z file span (Err e) left full on good begun = record {
  left = left;
  full = full;
  goes_on = on;
  good = good;
  ascending = begun;
  clean = tt;
  durable = tt;
}

-- With the disk and the book given back the pass goes on as it stood, but has taken the turn of the disk.
pub went-both : (w v x y z : Standing) (s : ℕ) → w.held ≡ nothing → Takes (with_device s) w v → Takes (with_book s) v x → Went x y → z ≡ without_device (without_book y) → WentOn w z
went-both w v x y z s free first second went given = record {
  same = is ∙ sym (ap (λ (a : Standing). record w { seen = a.seen; others = a.others; device_turns = a.device_turns }) is);
}
  where
    turns : ℕ
    turns = (with_device s w).device_turns

    is : z ≡ record w { seen = y.seen; others = y.others; device_turns = turns }
    is =
        given
        ∙ (ap (λ (a : Standing). without_device (without_book a)) went.same
        ∙ (ap (λ (a : Standing). without_device (without_book (record a { seen = y.seen; others = y.others; in_flight = a.in_flight }))) second.same
        ∙ (ap (λ (a : Standing). without_device (without_book (record (with_book s a) { seen = y.seen; others = y.others }))) first.same
        ∙ (ap (λ (h : TurnsHeld). record w { held = record h { device = None; book = None }; seen = y.seen; others = y.others; device_turns = turns }) free
        ∙ ap (λ (h : TurnsHeld). record w { held = h; seen = y.seen; others = y.others; device_turns = turns }) (sym free)))))

-- the setup is the same
pub setup-both : (w v x y : Standing) (s : ℕ) → Takes (with_device s) w v → Takes (with_book s) v x → Went x y → y.setup ≡ w.setup
setup-both w v x y s first second went =
    ap (λ (a : Standing). a.setup) went.same ∙ (ap (λ (a : Standing). a.setup) second.same ∙ ap (λ (a : Standing). a.setup) first.same)

-- What the pass begins to write with both turns it begins since before it took them.
pub begun-both : (w v x y z : Standing) (s : ℕ) → Takes (with_device s) w v → Takes (with_book s) v x → BeginsAscending x.number 0 (2 ^ 51) x.seen y.seen → z ≡ without_device (without_book y) → BeginsAscending w.number 0 (2 ^ 51) w.seen z.seen
begun-both w v x y z s first second begun given =
    subst (λ (past : List Entry). BeginsAscending w.number 0 (2 ^ 51) w.seen past) (sym (ap (λ (a : Standing). a.seen) given))
    (since w v y.seen first.grows
    (subst (λ (n : ℕ). BeginsAscending n 0 (2 ^ 51) v.seen y.seen) (ap (λ (a : Standing). a.number) first.same)
    (since v x y.seen second.grows
    (subst (λ (n : ℕ). BeginsAscending n 0 (2 ^ 51) x.seen y.seen) (ap (λ (a : Standing). a.number) second.same) begun))))
  where
    since : (old new : Standing) (last : List Entry) → Grows old new.seen → BeginsAscending old.number 0 (2 ^ 51) new.seen last → BeginsAscending old.number 0 (2 ^ 51) old.seen last
    since old new last grows more =
        ascend-then old.number 0 0 (2 ^ 51) old.seen new.seen last
        (ascend-none old.number 0 0 old.seen new.seen (omega arith)
        (none-idle old.number old.seen new.seen (record { during = grows.later; grew = grows.grew; others = grows.others })))
        more

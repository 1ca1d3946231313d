-- A call on no stream: its entry may stand, needs no turn but the journal's, changes no history and reserves nothing; and
-- what a visit to the journal that placed it leaves.
use Rattle.std.specs.Prelude.{◌≡◌, ℕ, suc, ◌+◌, ◌-◌, ◌<◌, ◌≤◌, Bool, true, false, List, [], ◌∷◌, length, Result, Ok, Err, None, refl}
use Rattle.std.specs.Bool.{OnTrue}
use Rattle.std.proofs.Common.{ap, sym, ◌∙◌, subst, arith, inl, inr}
use Rattle.std.proofs.lemmas.Bool.{eq-eqb}
use Rattle.cc_entry.specs.declared.call.Call.{Call}
use Rattle.cc_entry.specs.declared.call.Call.TheVariants as call
use Rattle.cc_entry.specs.declared.query.Query.TheVariants as query
use Rattle.cc_entry.specs.declared.entry.Entry.{Entry}
use Rattle.cc_entry.specs.declared.entry.Entry.TheVariants as entry
use Rattle.cc_entry.specs.declared.error.CcError.{CcError}
use Rattle.cc_entry.specs.declared.error.CcError.TheVariants as error
use Rattle.cc_entry.specs.declared.reply.Outcome.{Outcome}
use Rattle.cc_entry.specs.declared.reply.Outcome.TheVariants as outcome
use Rattle.cc_entry.specs.declared.reply.Reply.{Reply}
use Rattle.cc_effects.specs.Calls.{CallLeft, HasDone, IsUnderWay}
use Rattle.cc_effects.specs.Refusals.{may_refuse, may_want}
use Rattle.cc_effects.proofs.Starts.{begins, ends_done, ends_refused, gives_up}
use Rattle.cc_journal.specs.Calls.{owed_end}
use Rattle.cc_journal.specs.Journal.{JournalState, MayBePushed}
use Rattle.cc_journal.proofs.GoodEntries.{MayBePushed-good}
use Rattle.cc_laws.proofs.HistorySteps.{history-no_effect}
use Rattle.cc_laws.proofs.TurnSteps.{is_quiet-none, is_quiet-unneeded}
use Rattle.cc_model.specs.Acts.{file_of}
use Rattle.cc_model.specs.Allowed.{IsAllowed, IsAllowedSoFar, IsOwed, MayEnd, is_fault, owed_begin}
use Rattle.cc_model.specs.Cache.{all_streams}
use Rattle.cc_model.specs.Conditions.{IsFilled}
use Rattle.cc_model.specs.Covered.{IsCovered, IsCoveredEntry}
use Rattle.cc_model.specs.Filing.{IsFiled}
use Rattle.cc_model.specs.Good.{IsGood}
use Rattle.cc_model.specs.History.{history}
use Rattle.cc_model.specs.Holds.{Hold, holds_of}
use Rattle.cc_model.specs.Legal.{IsLegal, IsLegalEntry, IsOutcome}
use Rattle.cc_model.specs.Passes.{calls_of, is_store}
use Rattle.cc_model.specs.Ranges.{needs_pages, range_of}
use Rattle.cc_model.specs.Refusals.{refusal}
use Rattle.cc_model.specs.Room.{owed_by_stream, reserved_in}
use Rattle.cc_model.specs.Setup.{Setup}
use Rattle.cc_model.specs.Touches.{size_of}
use Rattle.cc_model.specs.Turns.{Turn, Device, Book, Log, Journal, needs, is_quiet}
use Rattle.cc_step.specs.Step.{AddsOwing, IsStop, most_asked}
use Rattle.cc_step.proofs.Placed.{so-far}
use Rattle.cc_step.proofs.Reserved.{owed-least, stores-call, sum-same}
use Rattle.cc_turns.specs.Standing.{Standing, TurnsHeld, holds}
use Rattle.cc_turns.specs.Journal.{JournalStands}
use Rattle.cc_turns.specs.Takes.{Takes, with_journal, without_journal}
use Rattle.cc_writes.specs.Ways.{IsFull}
use Rattle.cc_writes.proofs.Others.{under_way-on}
use Rattle.cc_writes.proofs.Replies.{full-stopped}
use Rattle.cc_writes.proofs.OneVisit.{Visiting, Visited, visited, visiting, stepping-none}
use Rattle.cc_calls.specs.Answers.{CallEnds, IsFree}
use Rattle.cc_calls.specs.Pages.{StaysGood}
use Rattle.cc_calls.specs.Streamless.{StreamlessHasEnded, PlacesStreamless, StreamlessLeft, is_streamless, streamless}
use Rattle.cc_calls.proofs.LogCalls.{idle-grows}

-- such a call is filed under no stream, has no range, and is no store
filed : (holds : List Hold) (pass : ℕ) (it : Call) → is_streamless it ≡ true → IsFiled holds pass None it (file_of it)
filed holds pass (call.Query (query.DirtyPages handle)) alone = refl
filed holds pass (call.Query query.IsDirtyData) alone = refl
filed holds pass other alone = absurd (cc)

no-range : (size : ℕ) (it : Call) → is_streamless it ≡ true → range_of size it ≡ None
no-range size (call.Query (query.DirtyPages handle)) alone = refl
no-range size (call.Query query.IsDirtyData) alone = refl
no-range size other alone = absurd (cc)

no-store : (it : Call) (ended : Outcome) → is_streamless it ≡ true → is_store it ended ≡ false
no-store (call.NcStore file page bytes) ended alone = absurd (cc)
no-store other ended alone = refl

-- it asks one place
one-asked : (it : Call) → is_streamless it ≡ true → most_asked it ≡ 1
one-asked (call.Query (query.DirtyPages handle)) alone = refl
one-asked (call.Query query.IsDirtyData) alone = refl
one-asked other alone = absurd (cc)

-- it may find no room and no memory, and nothing is to do before it is done
may-stop : (it : Call) (entries : ℕ) → is_streamless it ≡ true → (may_refuse it (error.JournalFull entries) ≡ true) × (may_refuse it error.NoMemory ≡ true)
may-stop (call.Query (query.DirtyPages handle)) entries alone = (refl, refl)
may-stop (call.Query query.IsDirtyData) entries alone = (refl, refl)
may-stop other entries alone = absurd (cc)

may-want : (it : Call) (past : List Entry) → is_streamless it ≡ true → may_want it past ≡ true
may-want (call.SetDirty hold lsn) past alone = absurd (cc)
may-want other past alone = refl

has-done : (me : ℕ) (it : Call) (during old : List Entry) → is_streamless it ≡ true → HasDone me it during old
has-done me (call.Query (query.DirtyPages handle)) during old alone = tt
has-done me (call.Query query.IsDirtyData) during old alone = tt
has-done me other during old alone = absurd (cc)

on_needed : (b : Bool) (P : Type 0) → P → OnTrue b P
on_needed true P p = p
on_needed false P p = tt

-- nothing refuses the question whether a page is dirty
pub dirty-unrefused : (u : Setup) (past : List Entry) → refusal u past [] (call.Query query.IsDirtyData) ≡ None
unfolding refusal
dirty-unrefused u past = refl

-- one that may fail for want of its log may be refused for it
log-listed : (u : Setup) (past : List Entry) (pass handle : ℕ) (it : Call) → is_streamless it ≡ true → IsOutcome u past pass None it (outcome.Failed (error.NoLog handle)) → may_refuse it (error.NoLog handle) ≡ true
log-listed u past pass handle (call.Query (query.DirtyPages log)) alone is = refl
log-listed u past pass handle (call.Query query.IsDirtyData) alone is = let none = dirty-unrefused u past in absurd (cc (none, is))
log-listed u past pass handle other alone is = absurd (cc)

nothing_owed : (e : Entry) (past : List Entry) → owed_begin past ≡ None → IsOwed (owed_begin past) e
nothing_owed e past none = rw none tt

may-end : (u : Setup) (past : List Entry) (pass : ℕ) (it : Call) (ended : Outcome) → is_streamless it ≡ true → IsOutcome u past pass None it ended → MayEnd u past pass None it ended
may-end u past pass it (outcome.Done r) alone is = (on_needed (needs_pages it r) (IsFilled [] (range_of (size_of []) it)) (rw (no-range (size_of []) it alone) tt), tt)
may-end u past pass it (outcome.Failed e) alone is = on_needed (is_fault e) _ is

-- a good journal stays good with its entry
pub good-streamless : (u : Setup) (past : List Entry) (pass : ℕ) (it : Call) (ended : Outcome) → is_streamless it ≡ true → IsOutcome u past pass None it ended → IsGood u past → IsGood u (streamless pass past it ended ∷ past)
unfolding IsLegal IsLegalEntry IsAllowed IsAllowedSoFar IsCovered IsCoveredEntry
good-streamless u past pass it ended alone is good = record {
  legal = (is, good.legal);
  allowed = (
    (
      nothing_owed _ past good.allowed.1,
      record { number = refl; filed = filed (holds_of []) pass it alone; may_end = may-end u past pass it ended alone is },
      good.allowed.0,
    ),
    refl,
  );
  covered = (tt, good.covered);
}

pub pushed-streamless : (u : Setup) (past : List Entry) (pass : ℕ) (it : Call) (ended : Outcome) → is_streamless it ≡ true → IsOutcome u past pass None it ended → IsGood u past → MayBePushed past (streamless pass past it ended)
pushed-streamless u past pass it ended alone is good =
    MayBePushed-good u past (streamless pass past it ended) (so-far u (streamless pass past it ended ∷ past) (good-streamless u past pass it ended alone is good))

-- the entry needs the turn of the journal alone
quiet-streamless : (h : TurnsHeld) (pass : ℕ) (past : List Entry) (it : Call) (ended : Outcome) → h.journal ≡ true → (t : Turn) → holds h t ≡ false → is_quiet t (streamless pass past it ended ∷ []) ≡ true
quiet-streamless h pass past it ended journal t free = is_quiet-unneeded t (streamless pass past it ended) [] (unneeded t free) ∙ is_quiet-none t
  where
    unneeded : (x : Turn) → holds h x ≡ false → needs (streamless pass past it ended) x ≡ false
    unneeded (Device n) apart = refl
    unneeded (Book n) apart = refl
    unneeded (Log n) apart = refl
    unneeded Journal apart = absurd (clash (sym journal ∙ apart))
      where
        clash : true ≡ false → ⊥
        clash e = absurd (cc)

-- it leaves what is reserved, but for the end of a noncached write of the pass
reserved-streamless : (past : List Entry) (pass : ℕ) (it : Call) (ended : Outcome) → is_streamless it ≡ true → reserved_in (streamless pass past it ended ∷ past) + owed_end past pass ≡ reserved_in past
unfolding reserved_in
reserved-streamless past pass it ended alone =
    with-stores _ _ _ _ _
    (sum-same (λ s. owed_by_stream (history (streamless pass past it ended ∷ past) s)) (λ s. owed_by_stream (history past s)) all_streams (λ s. ap owed_by_stream (history-no_effect (streamless pass past it ended) past s refl)))
    (stores-call past pass (suc (calls_of past pass)) None it ended (no-store it ended alone))
  where
    with-stores : (n m now was owed : ℕ) → n ≡ m → owed + now ≡ was → (n + now) + owed ≡ m + was
    with-stores n m now was owed same stores = omega (arith, same, stores)

-- a journal with one place more reserved
abbrev pub reserving : {Q : Type 0} → JournalState Q → JournalState Q
reserving j = record j { reserved = j.reserved + 1 }

back : (n : ℕ) → (n + 1) - 1 ≡ n
back n = omega arith

-- an entry for which one place was reserved
pub adds-owing : {Q : Type 0} (pass : ℕ) (it : Call) (ended : Outcome) (j k : JournalState Q) → is_streamless it ≡ true → reserved_in j.entries ≤ j.reserved → PlacesStreamless pass it ended (reserving j) k → AddsOwing (streamless pass j.entries it ended) j k
adds-owing pass it ended j k alone within placed =
    placed ∙ ap (λ (n : ℕ). record j { entries = streamless pass j.entries it ended ∷ j.entries; reserved = n; rows = k.rows })
    (numbers _ _ _ _ (reserved-streamless j.entries pass it ended alone) within)
  where
    numbers : (after end before reserved : ℕ) → after + end ≡ before → before ≤ reserved → ((reserved + 1) - 1) - end ≡ after + (reserved - before)
    numbers after end before reserved sums most = omega (arith, sums, most)

-- there is room for the entry, and what is given back
pub owed-there : {Q : Type 0} (pass : ℕ) (j between : JournalState Q) → between ≡ reserving j → reserved_in j.entries ≤ j.reserved → owed_end between.entries pass < between.reserved
owed-there {Q} pass j between same within =
    subst (λ (x : JournalState Q). owed_end x.entries pass < x.reserved) (sym same) (below _ _ _ (owed-least j.entries pass) within)
  where
    below : (owed before reserved : ℕ) → owed ≤ before → before ≤ reserved → owed < reserved + 1
    below owed before reserved least most = omega (arith, least, most)

-- a journal that stands has reserved what its entries owe
pub journal-owes : {Q : Type 0} (posted : Q → Bool) (v : Standing) (j : JournalState Q) → JournalStands posted v j → reserved_in j.entries ≤ j.reserved
journal-owes posted v j stands = rw stands.entries_are (within _ _ _ _ stands.reserved_is)
  where
    within : (reserved owed flight others : ℕ) → reserved ≡ owed + flight + others → owed ≤ reserved
    within reserved owed flight others is = omega (arith, is)

-- the place was given back
pub given-back : {Q : Type 0} (j between k : JournalState Q) → between ≡ reserving j → k ≡ record between { reserved = between.reserved - 1 } → k ≡ j
given-back {Q = Q} j between k same given =
    subst (λ (x : JournalState Q). k ≡ record x { reserved = x.reserved - 1 }) same given
    ∙ ap (λ (n : ℕ). record j { reserved = n }) (back j.reserved)

-- the entry of the call was placed, and what was reserved for the end of a noncached write given back
pub placed-streamless : {Q : Type 0} (pass nth owed : ℕ) (it : Call) (ended : Outcome) (between pushed k : JournalState Q) → nth ≡ suc (calls_of between.entries pass) → owed ≡ owed_end between.entries pass → pushed ≡ record between { entries = entry.Call pass nth None it ended ∷ between.entries; reserved = between.reserved - 1; rows = pushed.rows } → k ≡ record pushed { reserved = pushed.reserved - owed } → PlacesStreamless pass it ended between k
placed-streamless {Q} pass nth owed it ended between pushed k next is placed given =
    subst (λ (n : ℕ). k ≡ record between { entries = entry.Call pass n None it ended ∷ between.entries; reserved = (between.reserved - 1) - owed_end between.entries pass; rows = k.rows }) next
    (subst (λ (n : ℕ). k ≡ record between { entries = entry.Call pass nth None it ended ∷ between.entries; reserved = (between.reserved - 1) - n; rows = k.rows }) is
    (given
    ∙ (ap (λ (x : JournalState Q). record x { reserved = x.reserved - owed }) placed
    ∙ ap (λ (x : JournalState Q). record between { entries = entry.Call pass nth None it ended ∷ between.entries; reserved = (between.reserved - 1) - owed; rows = x.rows }) (sym given))))

-- the call ended, whose entry was placed where one place was reserved for it
pub ended-streamless : {Q : Type 0} (pass nth owed : ℕ) (it : Call) (ended : Outcome) (j between pushed k : JournalState Q) → is_streamless it ≡ true → reserved_in j.entries ≤ j.reserved → between ≡ reserving j → nth ≡ suc (calls_of between.entries pass) → owed ≡ owed_end between.entries pass → pushed ≡ record between { entries = entry.Call pass nth None it ended ∷ between.entries; reserved = between.reserved - 1; rows = pushed.rows } → k ≡ record pushed { reserved = pushed.reserved - owed } → ((u : Setup) → u.logs ≡ j.logs → IsOutcome u between.entries pass None it ended) → StreamlessHasEnded pass it ended j k
ended-streamless {Q = Q} pass nth owed it ended j between pushed k alone within same next owes placed given is = record {
  is = λ u logs. subst (λ (past : List Entry). IsOutcome u past pass None it ended) (ap (λ (x : JournalState Q). x.entries) same) (is u logs);
  placed = adds-owing pass it ended j k alone within
      (subst (λ (x : JournalState Q). PlacesStreamless pass it ended x k) same (placed-streamless pass nth owed it ended between pushed k next owes placed given));
}

-- A visit to the journal in which such a call was made.
module _ {Q : Type 0} (posted : Q → Bool) (w v : Standing) (it : Call) (j k : JournalState Q) (can : IsFree w)
    (vis : Visiting posted w v j) (alone : is_streamless it ≡ true) where
  way : IsUnderWay w.number it w.seen j.entries
  way = under_way-on w.number it w.seen w.seen j.entries (begins w.number it w.seen) (idle-grows w j.entries vis.grows)

  number : v.number ≡ w.number
  number = ap (λ x. x.number) vis.taken.same

  away : w.held.journal ≡ false
  away = ap (λ h. h.journal) can.free

  logs : w.setup.logs ≡ j.logs
  logs = sym (vis.journal.logs_are ∙ ap (λ x. x.setup.logs) vis.taken.same)

  -- it ended with its entry
  module _ (ended : Outcome) (has : StreamlessHasEnded w.number it ended j k) where
    entries-are : k.entries ≡ streamless w.number j.entries it ended ∷ j.entries
    entries-are = ap (λ x. x.entries) has.placed

    visited-ended : Visited posted w v w.in_flight k
    visited-ended = visited posted w v w.in_flight (streamless w.number j.entries it ended ∷ []) j k away vis (record {
      kept = has.placed ∙ ap (λ (n : ℕ). record j { entries = streamless w.number j.entries it ended ∷ j.entries; reserved = n; rows = k.rows }) (sym (ap (λ (x : JournalState Q). x.reserved) has.placed));
      good = subst (λ (past : List Entry). IsGood w.setup past) (sym entries-are)
          (good-streamless w.setup j.entries w.number it ended alone (has.is w.setup logs) vis.good);
      event = tt;
      own = (eq-eqb w.number w.number refl, tt);
      held = quiet-streamless (record w.held { journal = true }) w.number j.entries it ended refl;
      reserved =
          count k.reserved j.reserved (reserved_in k.entries) (reserved_in (streamless w.number j.entries it ended ∷ j.entries)) (reserved_in j.entries) w.in_flight v.others
          (ap reserved_in entries-are) (ap (λ (x : JournalState Q). x.reserved) has.placed) vis.reserved_is;
    })
      where
        count : (now was owed after before flight others : ℕ) → owed ≡ after → now ≡ after + (was - before) → was ≡ before + flight + others → now ≡ owed + flight + others
        count now was owed after before flight others a n w = omega (arith, a, n, w)

  -- it stopped, and changed nothing
  visited-stopped : k ≡ j → Visited posted w v w.in_flight k
  visited-stopped same = visited posted w v w.in_flight [] j k away vis (stepping-none posted w v w.in_flight j.reserved j k vis same vis.reserved_is)

  stopped-left : (e : CcError) → IsStop 1 e j → k ≡ j → CallLeft w.setup w.number it (outcome.Failed e) w.seen k.entries
  stopped-left e stop same = subst (λ (x : JournalState Q). CallLeft w.setup w.number it (outcome.Failed e) w.seen x.entries) (sym same) (by stop)
    where
      by : IsStop 1 e j → CallLeft w.setup w.number it (outcome.Failed e) w.seen j.entries
      by (inl full) =
          subst (λ (x : CcError). CallLeft w.setup w.number it (outcome.Failed x) w.seen j.entries) (sym full.0)
          (gives_up w.number it (error.JournalFull (length j.entries)) w.seen j.entries way (may-stop it (length j.entries) alone).0 (may-want it j.entries alone))
      by (inr none) =
          subst (λ (x : CcError). CallLeft w.setup w.number it (outcome.Failed x) w.seen j.entries) (sym none.0)
          (gives_up w.number it error.NoMemory w.seen j.entries way (may-stop it 0 alone).1 (may-want it j.entries alone))

  -- by its answer
  module _ {A : Type 0} (told : Result A CcError → Outcome) where
    visited-streamless : (answer : Result A CcError) → StreamlessLeft told w.number it answer j k → Visited posted w v w.in_flight k
    visited-streamless (Ok a) left = visited-ended (told (Ok a)) left
    visited-streamless (Err (error.NoLog handle)) left = visited-ended (outcome.Failed (error.NoLog handle)) left
    visited-streamless (Err other) left = visited-stopped left.1

    stays-good : Visited posted w v w.in_flight k → StaysGood w (without_journal k v)
    stays-good given was_good = subst (λ (u : Setup). IsGood u k.entries) (ap (λ x. x.setup) given.went.same) given.good

    done-streamless : (a : A) (r : Reply) → told (Ok a) ≡ outcome.Done r → StreamlessLeft told w.number it (Ok a) j k → CallEnds told w (without_journal k v) it (Ok a)
    done-streamless a r is left = record {
      left = subst (λ (past : List Entry). CallLeft w.setup w.number it (told (Ok a)) w.seen past) (sym (entries-are (told (Ok a)) left))
          (subst (λ (o : Outcome). CallLeft w.setup w.number it o w.seen (streamless w.number j.entries it o ∷ j.entries)) (sym is)
          (ends_done w.number (suc (calls_of j.entries w.number)) None it r w.seen j.entries way (filed (holds_of []) w.number it alone) (λ during. has-done w.number it during w.seen alone)));
      full = tt;
      goes_on = (visited-ended (told (Ok a)) left).went;
      good = stays-good (visited-ended (told (Ok a)) left);
    }

    -- it was refused, for there is no such log
    refused-streamless : (handle : ℕ) → told (Err (error.NoLog handle)) ≡ outcome.Failed (error.NoLog handle) → StreamlessLeft told w.number it (Err (error.NoLog handle)) j k → CallEnds told w (without_journal k v) it (Err (error.NoLog handle))
    refused-streamless handle is left =
        let ended : Outcome = outcome.Failed (error.NoLog handle) in
        let listed = log-listed w.setup j.entries w.number handle it alone (left.is w.setup logs) in
        record {
          left = subst (λ (o : Outcome). CallLeft w.setup w.number it o w.seen k.entries) (sym is)
              (subst (λ (past : List Entry). CallLeft w.setup w.number it ended w.seen past) (sym (entries-are ended left))
              (inl (ends_refused w.number (suc (calls_of j.entries w.number)) None it (error.NoLog handle) w.seen j.entries way (filed (holds_of []) w.number it alone) listed)));
          full = tt;
          goes_on = (visited-ended ended left).went;
          good = stays-good (visited-ended ended left);
        }

    stopped-streamless : (e : CcError) → told (Err e) ≡ outcome.Failed e → IsStop 1 e j → k ≡ j → CallEnds told w (without_journal k v) it (Err e)
    stopped-streamless e is stop same = record {
      left = subst (λ (o : Outcome). CallLeft w.setup w.number it o w.seen k.entries) (sym is) (stopped-left e stop same);
      full = subst (λ (n : ℕ). IsFull {A = A} n (without_journal k v) (Err e)) (sym (one-asked it alone))
          (full-stopped A posted 1 (without_journal k v) k e (visited-stopped same).journal (subst (λ (x : JournalState Q). IsStop 1 e x) (sym same) stop));
      goes_on = (visited-stopped same).went;
      good = stays-good (visited-stopped same);
    }

    ends-streamless : (reply : A → Reply) → ((a : A) → told (Ok a) ≡ outcome.Done (reply a)) → ((e : CcError) → told (Err e) ≡ outcome.Failed e) → (answer : Result A CcError) → StreamlessLeft told w.number it answer j k → CallEnds told w (without_journal k v) it answer
    ends-streamless reply done failed (Ok a) left = done-streamless a (reply a) (done a) left
    ends-streamless reply done failed (Err (error.NoLog handle)) left = refused-streamless handle (failed (error.NoLog handle)) left
    ends-streamless reply done failed (Err other) left = stopped-streamless other (failed other) left.0 left.1

-- A visit as a whole, from the taking of the journal: what is given, and how the call ended.
module _ {Q A : Type 0} (posted : Q → Bool) (w v : Standing) (it : Call) (j k : JournalState Q) (pass : ℕ) (can : IsFree w)
    (took : Takes with_journal w v) (stands : JournalStands posted v j) (alone : is_streamless it ≡ true) (me : pass ≡ v.number)
    (told : Result A CcError → Outcome) (answer : Result A CcError) (left : StreamlessLeft told pass it answer j k) where
  vis : Visiting posted w v j
  vis = visiting posted w v j took stands

  mine : StreamlessLeft told w.number it answer j k
  mine = subst (λ (n : ℕ). StreamlessLeft told n it answer j k) (me ∙ ap (λ x. x.number) took.same) left

  pub gives-streamless : Visited posted w v w.in_flight k
  gives-streamless = visited-streamless posted w v it j k can vis alone told answer mine

  pub whole-streamless : (reply : A → Reply) → ((a : A) → told (Ok a) ≡ outcome.Done (reply a)) → ((e : CcError) → told (Err e) ≡ outcome.Failed e) → (z : Standing) → z ≡ without_journal k v → CallEnds told w z it answer
  whole-streamless reply done failed z is =
      subst (λ (x : Standing). CallEnds told w x it answer) (sym is) (ends-streamless posted w v it j k can vis alone told reply done failed answer mine)

-- One that stopped before it placed its entry.
pub stopped-answer : {Q A : Type 0} (told : Result A CcError → Outcome) (pass : ℕ) (it : Call) (e : CcError) (j k : JournalState Q) → IsStop 1 e j → k ≡ j → StreamlessLeft told pass it (Err e) j k
stopped-answer {Q = Q} {A = A} told pass it e j k (inl full) same = rw full.0 (inl (refl, full.1), same)
stopped-answer {Q = Q} {A = A} told pass it e j k (inr none) same = rw none.0 (inr (refl, none.1), same)

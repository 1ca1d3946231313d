-- An attempt is a step with a place reserved for it, which is released where nothing was placed.
use Rattle.std.specs.Prelude.{◌≡◌, ℕ, suc, ◌+◌, ◌-◌, ◌<◌, ◌≤◌, true, false, ◌∷◌, length}
use Rattle.std.proofs.Common.{ap, ◌∙◌, arith, inl, inr}
use Rattle.cc_entry.specs.declared.call.Call.{Call}
use Rattle.cc_entry.specs.declared.entry.Entry.{Entry}
use Rattle.cc_entry.specs.declared.error.CcError.{CcError}
use Rattle.cc_entry.specs.declared.reply.Reply.{Reply}
use Rattle.cc_book.specs.Book.{BookState, Gains, done, failed}
use Rattle.cc_journal.specs.Calls.{owed_end}
use Rattle.cc_journal.specs.Journal.{JournalState}
use Rattle.cc_model.specs.History.{history}
use Rattle.cc_model.specs.Holds.{holds_of}
use Rattle.cc_model.specs.Passes.{calls_of}
use Rattle.cc_model.specs.Room.{reserved_in}
use Rattle.cc_model.specs.Setup.{Setup}
use Rattle.cc_step.proofs.Asking.{asked-reserved, none-spared}
use Rattle.cc_step.proofs.Failing.{stepped-answered}
use Rattle.cc_step.proofs.Finishing.{may-more}
use Rattle.cc_step.proofs.Placed.{so-far}
use Rattle.cc_step.proofs.Reserved.{owed-least, reserved-failed}
use Rattle.cc_step.specs.Step.{is_answered, is_stepped, StandUnder, asked_now, places_spared, MayStep, StepLeft, AttemptLeft, Adds, AddsOwing, GainsWith, IsStop, IsWantOf, has_placed}
use Rattle.cc_step.specs.declared.ways.Attempt.{Attempt}
use Rattle.cc_step.specs.declared.ways.Attempt.TheVariants as attempt

-- a journal with one place more reserved, and with one less
abbrev pub reserving : {Q : Type 0} → JournalState Q → JournalState Q
reserving j = record j { reserved = j.reserved + 1 }

abbrev pub releasing : {Q : Type 0} → JournalState Q → JournalState Q
releasing j = record j { reserved = j.reserved - 1 }

back : (n : ℕ) → (n + 1) - 1 ≡ n
back n = omega arith

-- an entry for which one place was reserved
pub adds-reserving : {Q : Type 0} (e : Entry) (j k : JournalState Q) → Gains e (reserving j) k → Adds e j k
adds-reserving e j k placed = placed ∙ ap (λ (n : ℕ). record j { entries = e ∷ j.entries; reserved = n; rows = k.rows }) (back j.reserved)

pub may-reserving : {Q : Type 0} (u : Setup) (pass : ℕ) (it : Call) (b : BookState) (j : JournalState Q) → MayStep u pass it b j → MayStep u pass it b (reserving j)
may-reserving u pass it b j may = may-more u pass 1 it b j may

-- what the past owes after a done call that may be stepped, with what its pass owed before
pub owed-after : {Q : Type 0} (u : Setup) (pass : ℕ) (it : Call) (r : Reply) (b : BookState) (j : JournalState Q) → b.stream < 16 → is_stepped it ≡ true → MayStep u pass it b j → (owed_end j.entries pass + reserved_in (done pass j.entries b.stream it r ∷ j.entries)) + (1 + places_spared (holds_of (history j.entries b.stream)) it) ≡ reserved_in j.entries + asked_now j.entries b.stream it
owed-after u pass it r b j below stepped may =
    asked-reserved u j.entries pass (suc (calls_of j.entries pass)) b.stream it r below stepped (so-far u j.entries may.stand.good) may.filed

-- the end of a noncached write that the pass owed is owed no more
abbrev pub forgoing : {Q : Type 0} → JournalState Q → ℕ → JournalState Q → JournalState Q
forgoing j pass k = record k { reserved = k.reserved - owed_end j.entries pass }

-- the places reserved with the entry of a call are what the past owes after it, and what its pass owed before
pub adds-owing : {Q : Type 0} (u : Setup) (pass more : ℕ) (it : Call) (r : Reply) (b : BookState) (j k : JournalState Q) → b.stream < 16 → is_stepped it ≡ true → MayStep u pass it b j → asked_now j.entries b.stream it ≡ suc more → GainsWith more (done pass j.entries b.stream it r) (reserving j) k → AddsOwing (done pass j.entries b.stream it r) j (forgoing j pass k)
adds-owing {Q} u pass more it r b j k below stepped may asks placed =
    ap (λ (x : JournalState Q). forgoing j pass x) placed
    ∙ ap (λ (n : ℕ). record j { entries = done pass j.entries b.stream it r ∷ j.entries; reserved = n; rows = k.rows })
    (numbers _ _ _ _ _ _ (owed-after u pass it r b j below stepped may) (none-spared (holds_of (history j.entries b.stream)) it more asks) asks may.owed)
  where
    numbers : (owed after spared before asked reserved : ℕ) → (owed + after) + (1 + spared) ≡ before + asked → spared ≡ 0 → asked ≡ suc more → before ≤ reserved → (((reserved + 1) - 1) + more) - owed ≡ after + (reserved - before)
    numbers owed after spared before asked reserved is none so within = omega (arith, is, none, so, within)

-- so it is with the entry of a call that failed
pub failed-owing : {Q : Type 0} (pass : ℕ) (it : Call) (e : CcError) (b : BookState) (j k : JournalState Q) → is_answered it ≡ true → reserved_in j.entries ≤ j.reserved → Adds (failed pass j.entries b.stream it e) j k → AddsOwing (failed pass j.entries b.stream it e) j (forgoing j pass k)
failed-owing {Q} pass it e b j k here within placed =
    ap (λ (x : JournalState Q). forgoing j pass x) placed
    ∙ ap (λ (n : ℕ). record j { entries = failed pass j.entries b.stream it e ∷ j.entries; reserved = n; rows = k.rows })
    (numbers _ _ _ _ (reserved-failed j.entries pass (suc (calls_of j.entries pass)) b.stream it e here) within)
  where
    numbers : (owed after before reserved : ℕ) → owed + after ≡ before → before ≤ reserved → reserved - owed ≡ after + (reserved - before)
    numbers owed after before reserved is most = omega (arith, is, most)

-- what the pass owed is within what was reserved
pub forgone-within : {Q : Type 0} (pass : ℕ) (j : JournalState Q) → reserved_in j.entries ≤ j.reserved → owed_end j.entries pass ≤ j.reserved
forgone-within pass j within = most _ _ _ (owed-least j.entries pass) within
  where
    most : (owed before reserved : ℕ) → owed ≤ before → before ≤ reserved → owed ≤ reserved
    most owed before reserved less more = omega (arith, less, more)

pub stand-forgoing : {Q : Type 0} (u : Setup) (pass : ℕ) (c : BookState) (j k : JournalState Q) → StandUnder u c k → StandUnder u c (forgoing j pass k)
stand-forgoing u pass c j k stand = record { good = stand.good; stands = stand.stands; logs_are = stand.logs_are; threshold_is = stand.threshold_is }

pub placed-attempt : {Q : Type 0} (u : Setup) (pass more : ℕ) (it : Call) (ended : Attempt (ℕ × Call)) (b c : BookState) (j k : JournalState Q) → b.stream < 16 → is_stepped it ≡ true → MayStep u pass it b j → asked_now j.entries b.stream it ≡ suc more → has_placed ended ≡ true → StepLeft u pass more it ended b c (reserving j) k → AttemptLeft u pass it ended b c j (forgoing j pass k)
placed-attempt u pass more it attempt.Done b c j k below here may asks placed left = (
  left.0,
  record {
    placed = adds-owing u pass more it left.0 b j k below here may asks left.1.placed;
    stand = stand-forgoing u pass c j k left.1.stand;
    stream = left.1.stream;
  },
)
placed-attempt u pass more it (attempt.Refused e) b c j k below here may asks placed left = record {
  reason = left.reason;
  placed = failed-owing pass it e b j k (stepped-answered it here) may.owed (adds-reserving (failed pass j.entries b.stream it e) j k left.placed);
  stand = stand-forgoing u pass c j k left.stand;
  same = left.same;
}
placed-attempt u pass more it (attempt.GoesOn (page, again)) b c j k below here may asks placed left = absurd (cc)
placed-attempt u pass more it (attempt.Stopped e) b c j k below here may asks placed left = absurd (cc)

-- what the pass owed is still reserved once the entry is placed
pub forgone-placed : {Q : Type 0} (u : Setup) (pass more : ℕ) (it : Call) (ended : Attempt (ℕ × Call)) (b c : BookState) (j k : JournalState Q) → b.stream < 16 → is_stepped it ≡ true → MayStep u pass it b j → asked_now j.entries b.stream it ≡ suc more → has_placed ended ≡ true → StepLeft u pass more it ended b c (reserving j) k → owed_end j.entries pass ≤ k.reserved
forgone-placed {Q} u pass more it attempt.Done b c j k below here may asks placed left =
    within _ _ _ (forgone-within pass j may.owed) (ap (λ (x : JournalState Q). x.reserved) left.1.placed)
  where
    within : (owed reserved now : ℕ) → owed ≤ reserved → now ≡ ((reserved + 1) - 1) + more → owed ≤ now
    within owed reserved now most is = omega (arith, most, is)
forgone-placed {Q} u pass more it (attempt.Refused e) b c j k below here may asks placed left =
    within _ _ _ (forgone-within pass j may.owed) (ap (λ (x : JournalState Q). x.reserved) left.placed)
  where
    within : (owed reserved now : ℕ) → owed ≤ reserved → now ≡ (reserved + 1) - 1 → owed ≤ now
    within owed reserved now most is = omega (arith, most, is)
forgone-placed u pass more it (attempt.GoesOn (page, again)) b c j k below here may asks placed left = absurd (cc)
forgone-placed u pass more it (attempt.Stopped e) b c j k below here may asks placed left = absurd (cc)

-- a step that stopped for want of so many more places is an attempt that stopped for want of all that it asks
stop : {Q : Type 0} (more asked : ℕ) (e : CcError) (j : JournalState Q) → asked ≡ suc more → IsWantOf more e (reserving j) → IsStop asked e j
stop more asked e j asks (inl full) = inl (full.0, less j.capacity (length j.entries) j.reserved full.1)
  where
    less : (capacity long reserved : ℕ) → capacity - (long + (reserved + 1)) < more → capacity - (long + reserved) < asked
    less capacity long reserved short = omega (arith, short, asks)
stop more asked e j asks (inr none) = inr (none, some)
  where
    some : 0 < asked
    some = omega (arith, asks)

pub left-attempt : {Q : Type 0} (u : Setup) (pass more : ℕ) (it : Call) (ended : Attempt (ℕ × Call)) (b c : BookState) (j k : JournalState Q) → asked_now j.entries b.stream it ≡ suc more → has_placed ended ≡ false → StepLeft u pass more it ended b c (reserving j) k → AttemptLeft u pass it ended b c j (releasing k)
left-attempt u pass more it attempt.Done b c j k asks placed left = absurd (cc)
left-attempt u pass more it (attempt.Refused e) b c j k asks placed left = absurd (cc)
left-attempt u pass more it (attempt.GoesOn (page, again)) b c j k asks placed left = record {
  admitted = left.admitted;
  least = left.least;
  call_is = left.call_is;
  same_book = left.same_book;
  same_journal = ap releasing left.same_journal ∙ ap (λ (n : ℕ). record j { reserved = n }) (back j.reserved);
}
left-attempt u pass more it (attempt.Stopped e) b c j k asks placed left = (
  stop more (asked_now j.entries b.stream it) e j asks left.0,
  record {
    same_journal = ap releasing left.1.same_journal ∙ ap (λ (n : ℕ). record j { reserved = n }) (back j.reserved);
    stand = record { good = left.1.stand.good; stands = left.1.stand.stands; logs_are = left.1.stand.logs_are; threshold_is = left.1.stand.threshold_is };
    stream = left.1.stream;
  },
  inr left.2,
)

pub one-reserved : {Q : Type 0} (u : Setup) (pass more : ℕ) (it : Call) (ended : Attempt (ℕ × Call)) (b c : BookState) (j k : JournalState Q) → has_placed ended ≡ false → StepLeft u pass more it ended b c (reserving j) k → k.reserved ≡ j.reserved + 1
one-reserved u pass more it attempt.Done b c j k placed left = absurd (cc)
one-reserved u pass more it (attempt.Refused e) b c j k placed left = absurd (cc)
one-reserved u pass more it (attempt.GoesOn (page, again)) b c j k placed left = ap (λ x. x.reserved) left.same_journal
one-reserved u pass more it (attempt.Stopped e) b c j k placed left = ap (λ x. x.reserved) left.1.same_journal

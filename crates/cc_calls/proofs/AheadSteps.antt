-- What a read-ahead step leaves: of a stream that there is, by its pages; of one that there is not, by its entry alone.
use Rattle.std.specs.Prelude.{◌≡◌, ℕ, suc, ◌+◌, ◌-◌, ◌<◌, ◌≤◌, Bool, true, false, not, List, [], ◌∷◌, length, None, Some, Result, Ok, Err, refl}
use Rattle.std.proofs.Common.{ap, sym, ◌∙◌, subst, arith, inl, inr}
use Rattle.std.proofs.lemmas.Bool.{eq-eqb, ne_eqb, or_left}
use Rattle.cc_entry.specs.Place.{File}
use Rattle.cc_entry.specs.declared.call.Call.TheVariants as call
use Rattle.cc_entry.specs.declared.entry.Entry.{Entry}
use Rattle.cc_entry.specs.declared.entry.Entry.TheVariants as entry
use Rattle.cc_entry.specs.declared.error.CcError.{CcError}
use Rattle.cc_entry.specs.declared.error.CcError.TheVariants as error
use Rattle.cc_entry.specs.declared.place.Request.{Request}
use Rattle.cc_entry.specs.declared.reply.Outcome.TheVariants as outcome
use Rattle.cc_entry.specs.declared.reply.Reply.{Reply}
use Rattle.cc_entry.specs.declared.reply.Reply.TheVariants as reply
use Rattle.cc_entry.specs.declared.query.Value.TheVariants as value
use Rattle.cc_book.specs.Book.{done}
use Rattle.cc_effects.specs.Calls.{CallLeft, IsUnderWay}
use Rattle.cc_effects.proofs.FrontLaws.{outcome-defined}
use Rattle.cc_effects.proofs.Starts.{begins, ends_done, gives_up}
use Rattle.cc_journal.specs.Calls.{owed_end}
use Rattle.cc_journal.specs.Journal.{JournalState, MayBePushed}
use Rattle.cc_journal.proofs.GoodEntries.{MayBePushed-good}
use Rattle.cc_laws.proofs.Lists1.{among-not_empty}
use Rattle.cc_laws.proofs.TurnSteps.{is_quiet-none, is_quiet-unneeded}
use Rattle.cc_model.specs.Good.{IsGood}
use Rattle.cc_model.specs.History.{Effect, history}
use Rattle.cc_model.specs.Legal.{stream_history}
use Rattle.cc_model.specs.Numbers.{is_empty}
use Rattle.cc_model.specs.Objects.{objects}
use Rattle.cc_model.specs.Passes.{calls_of}
use Rattle.cc_model.specs.Reasons.{is_open}
use Rattle.cc_model.specs.Refusals.{refusal}
use Rattle.cc_model.specs.Replies.{is_whole}
use Rattle.cc_model.specs.Room.{reserved_in}
use Rattle.cc_model.specs.Setup.{Setup}
use Rattle.cc_model.specs.Touches.{is_mapped}
use Rattle.cc_model.specs.Turns.{Turn, Device, Book, Log, Journal, needs, is_quiet}
use Rattle.cc_step.specs.Step.{AddsOwing, IsStop}
use Rattle.cc_step.proofs.Asking.{asked-reserved}
use Rattle.cc_step.proofs.Attempts.{reserving}
use Rattle.cc_step.proofs.Placed.{good-done, so-far}
use Rattle.cc_turns.specs.Standing.{Standing, holds}
use Rattle.cc_turns.specs.Journal.{JournalStands}
use Rattle.cc_turns.specs.Takes.{IsThere, Takes, with_journal, without_journal}
use Rattle.cc_writes.specs.Ways.{IsFull}
use Rattle.cc_writes.specs.declared.tell.Returned.{Returned}
use Rattle.cc_writes.specs.declared.tell.Returned.TheVariants as returned
use Rattle.cc_writes.proofs.OneVisit.{Visiting, Visited, visited, visited-there, visiting, stepping-none}
use Rattle.cc_writes.proofs.Others.{under_way-on}
use Rattle.cc_writes.proofs.Replies.{full-stopped}
use Rattle.cc_calls.specs.Ahead.{PassedOver, RequestServed}
use Rattle.cc_calls.specs.Answers.{IsFree}
use Rattle.cc_calls.specs.Paged.{Paged}
use Rattle.cc_calls.proofs.LogCalls.{idle-grows}
use Rattle.cc_calls.proofs.Paging.{same-turns, went-on}

-- ---- of a stream that there is

-- its reply says whether its pages are there
whole-reply : (u : Setup) (me : ℕ) (request : Request) (r : Reply) (old new : List Entry) → IsGood u new → CallLeft u me (call.AheadStep request) (outcome.Done r) old new → (whole : Bool) × (r ≡ reply.Whole whole)
whole-reply u me request r old new good left =
    let d = outcome-defined u me (call.AheadStep request) (outcome.Done r) old new [] good left refl in
    (is_whole (stream_history _ d.1) request, d.5.1)

module _ (w v : Standing) (request : Request) (was now : List ℕ) where
  told-whole : (told : Returned) → Paged w v (call.AheadStep request) (Ok told) was now → (whole : Bool) × (told ≡ returned.Value (value.Flag whole)) × CallLeft w.setup w.number (call.AheadStep request) (outcome.Done (reply.Whole whole)) w.seen v.seen
  told-whole told c =
      let r = whole-reply w.setup w.number request c.left.0 w.seen v.seen c.good c.left.1 in
      let tells = rw r.1 at c.left.2 in
      (r.0, tells.0, rw r.1 at c.left.1)

  pub step-done : (whole : Bool) → Paged w v (call.AheadStep request) (Ok (returned.Value (value.Flag whole))) was now → RequestServed w v request (Ok whole)
  step-done whole c =
      let told = told-whole (returned.Value (value.Flag whole)) c in
      record { left = rw (inner told.0 told.1) told.2; full = inl (tt, inl tt); missed = c.missed; goes_on = c.goes_on; good = c.good }
    where
      inner : (x : Bool) → returned.Value (value.Flag whole) ≡ returned.Value (value.Flag x) → whole ≡ x
      inner x same = cc

  pub step-there : (told : Returned) → Paged w v (call.AheadStep request) (Ok told) was now → (whole : Bool) × (told ≡ returned.Value (value.Flag whole))
  step-there told c = let k = told-whole told c in (k.0, k.1)

  pub step-failed : (e : CcError) → Paged w v (call.AheadStep request) (Err e) was now → RequestServed w v request (Err e)
  step-failed e c = record { left = c.left.0; full = c.full; missed = c.missed; goes_on = c.goes_on; good = c.good }

-- ---- of a stream that there is not

-- nothing refuses a read-ahead step
pub step-unrefused : (u : Setup) (past : List Entry) (h : List Effect) (request : Request) → refusal u past h (call.AheadStep request) ≡ None
unfolding refusal
step-unrefused u past h request = refl

-- the entry of one that brings nothing in, for its object is not open
abbrev pub passed : ℕ → List Entry → Request → Entry
passed pass past request = done pass past request.file.stream (call.AheadStep request) (reply.Whole false)

pub good-passed : (u : Setup) (past : List Entry) (pass : ℕ) (request : Request) → is_open (history past request.file.stream) request.file ≡ false → IsGood u past → IsGood u (passed pass past request ∷ past)
good-passed u past pass request closed good =
    good-done u past pass request.file.stream (call.AheadStep request) (reply.Whole false) refl good refl
    (record { admitted = step-unrefused u past (history past request.file.stream) request; filled = rw closed tt })
    (rw closed refl)

-- a stream without a map has no object open
pub unopened : (h : List Effect) (file : File) → is_mapped h ≡ false → is_open h file ≡ false
unopened h file none = by (is_open h file) refl
  where
    by : (b : Bool) → is_open h file ≡ b → b ≡ false
    by false is = refl
    by true is =
        let mapped : is_mapped h ≡ true = or_left (not (is_empty (objects h))) _ (ap not (among-not_empty file.object (objects h) is)) in
        absurd (cc (none, mapped))

-- the entry was placed, for which one place was reserved, and the place of the end that the pass owed was given back
pub adds-passed : {Q : Type 0} (u : Setup) (pass nth owed : ℕ) (request : Request) (j between pushed k : JournalState Q) → request.file.stream < 16 → IsGood u j.entries → reserved_in j.entries ≤ j.reserved → between ≡ reserving j → nth ≡ suc (calls_of between.entries pass) → owed ≡ owed_end between.entries pass → pushed ≡ record between { entries = entry.Call pass nth (Some request.file.stream) (call.AheadStep request) (outcome.Done (reply.Whole false)) ∷ between.entries; reserved = between.reserved - 1; rows = pushed.rows } → k ≡ record pushed { reserved = pushed.reserved - owed } → AddsOwing (passed pass j.entries request) j k
adds-passed {Q} u pass nth owed request j between pushed k below good within same next is placed given =
    given
    ∙ (ap (λ (x : JournalState Q). record x { reserved = x.reserved - owed }) put
    ∙ (ap (λ (n : ℕ). record j { entries = passed pass j.entries request ∷ j.entries; reserved = n; rows = pushed.rows }) (numbers _ _ _ _ _ sums within (rw same at is))
    ∙ ap (λ (x : JournalState Q). record j { entries = passed pass j.entries request ∷ j.entries; reserved = reserved_in (passed pass j.entries request ∷ j.entries) + (j.reserved - reserved_in j.entries); rows = x.rows }) (sym given)))
  where
    put : pushed ≡ record j { entries = passed pass j.entries request ∷ j.entries; reserved = (j.reserved + 1) - 1; rows = pushed.rows }
    put = rw (same, rw same at next) at placed

    sums : (owed_end j.entries pass + reserved_in (passed pass j.entries request ∷ j.entries)) + (1 + 0) ≡ reserved_in j.entries + 1
    sums = asked-reserved u j.entries pass (suc (calls_of j.entries pass)) request.file.stream (call.AheadStep request) (reply.Whole false) below refl (so-far u j.entries good) refl

    numbers : (after end before reserved mine : ℕ) → (end + after) + (1 + 0) ≡ before + 1 → before ≤ reserved → mine ≡ end → ((reserved + 1) - 1) - mine ≡ after + (reserved - before)
    numbers after end before reserved mine sum most same = omega (arith, sum, most, same)

-- it may be pushed
pub pushed-passed : (u : Setup) (past : List Entry) (pass : ℕ) (request : Request) → is_open (history past request.file.stream) request.file ≡ false → IsGood u past → MayBePushed past (passed pass past request)
pushed-passed u past pass request closed good =
    MayBePushed-good u past (passed pass past request) (so-far u (passed pass past request ∷ past) (good-passed u past pass request closed good))

-- it needs the turn of the journal alone, of those that there are
quiet-passed : (w : Standing) (past : List Entry) (request : Request) → w.streams ≤ request.file.stream → (t : Turn) → IsThere w.streams t → holds (record w.held { journal = true }) t ≡ false → is_quiet t (passed w.number past request ∷ []) ≡ true
quiet-passed w past request beyond t there free = is_quiet-unneeded t (passed w.number past request) [] (unneeded t there free) ∙ is_quiet-none t
  where
    unneeded : (x : Turn) → IsThere w.streams x → holds (record w.held { journal = true }) x ≡ false → needs (passed w.number past request) x ≡ false
    unneeded (Device n) known apart = refl
    unneeded (Book n) known apart = ne_eqb n request.file.stream (λ same. absurd (omega (arith, known, beyond, same)))
    unneeded (Log n) known apart = refl
    unneeded Journal known apart = absurd (cc)

-- A visit to the journal in which such a step was told.
module _ {Q : Type 0} (posted : Q → Bool) (w v : Standing) (request : Request) (j k : JournalState Q) (can : IsFree w)
    (beyond : w.streams ≤ request.file.stream) (vis : Visiting posted w v j) where
  way : IsUnderWay w.number (call.AheadStep request) w.seen j.entries
  way = under_way-on w.number (call.AheadStep request) w.seen w.seen j.entries (begins w.number (call.AheadStep request) w.seen) (idle-grows w j.entries vis.grows)

  away : w.held.journal ≡ false
  away = ap (λ h. h.journal) can.free

  passed-visited : (answer : Result Bool CcError) → PassedOver w.number request answer j k → Visited posted w v w.in_flight k
  passed-visited (Ok whole) left = visited-there posted w v w.in_flight (passed w.number j.entries request ∷ []) j k away vis (record {
    kept = left.2 ∙ ap (λ (n : ℕ). record j { entries = passed w.number j.entries request ∷ j.entries; reserved = n; rows = k.rows }) (sym (ap (λ (x : JournalState Q). x.reserved) left.2));
    good = subst (λ (past : List Entry). IsGood w.setup past) (sym (ap (λ x. x.entries) left.2)) (good-passed w.setup j.entries w.number request left.1 vis.good);
    event = tt;
    own = (eq-eqb w.number w.number refl, tt);
    held = quiet-passed w j.entries request beyond;
    reserved =
        count k.reserved j.reserved (reserved_in k.entries) (reserved_in (passed w.number j.entries request ∷ j.entries)) (reserved_in j.entries) w.in_flight v.others
        (ap (λ (x : JournalState Q). reserved_in x.entries) left.2) (ap (λ (x : JournalState Q). x.reserved) left.2) vis.reserved_is;
  })
    where
      count : (now was owed after before flight others : ℕ) → owed ≡ after → now ≡ after + (was - before) → was ≡ before + flight + others → now ≡ owed + flight + others
      count now was owed after before flight others a n w = omega (arith, a, n, w)
  passed-visited (Err e) left = visited posted w v w.in_flight [] j k away vis (stepping-none posted w v w.in_flight j.reserved j k vis left.1 vis.reserved_is)

  stopped-left : (e : CcError) → IsStop 1 e j → k ≡ j → CallLeft w.setup w.number (call.AheadStep request) (outcome.Failed e) w.seen k.entries
  stopped-left e stop same = subst (λ (x : JournalState Q). CallLeft w.setup w.number (call.AheadStep request) (outcome.Failed e) w.seen x.entries) (sym same) (by stop)
    where
      by : IsStop 1 e j → CallLeft w.setup w.number (call.AheadStep request) (outcome.Failed e) w.seen j.entries
      by (inl full) =
          subst (λ (x : CcError). CallLeft w.setup w.number (call.AheadStep request) (outcome.Failed x) w.seen j.entries) (sym full.0)
          (gives_up w.number (call.AheadStep request) (error.JournalFull (length j.entries)) w.seen j.entries way refl refl)
      by (inr none) =
          subst (λ (x : CcError). CallLeft w.setup w.number (call.AheadStep request) (outcome.Failed x) w.seen j.entries) (sym none.0)
          (gives_up w.number (call.AheadStep request) error.NoMemory w.seen j.entries way refl refl)

  passed-served : (answer : Result Bool CcError) → PassedOver w.number request answer j k → RequestServed w (without_journal k v) request answer
  passed-served (Ok whole) left =
      let given = passed-visited (Ok whole) left in
      record {
        left = subst (λ (past : List Entry). CallLeft w.setup w.number (call.AheadStep request) (outcome.Done (reply.Whole whole)) w.seen past) (sym (ap (λ x. x.entries) left.2))
            (rw left.0 (ends_done w.number (suc (calls_of j.entries w.number)) (Some request.file.stream) (call.AheadStep request) (reply.Whole false) w.seen j.entries way refl (λ during. tt)));
        full = inl (tt, inl tt);
        missed = inl (same-turns w (without_journal k v) given.went);
        goes_on = went-on w (without_journal k v) given.went;
        good = subst (λ (u : Setup). IsGood u k.entries) (ap (λ x. x.setup) given.went.same) given.good;
      }
  passed-served (Err e) left =
      let given = passed-visited (Err e) left in
      let full : IsFull {A = Bool} 1 (without_journal k v) (Err e) =
      full-stopped Bool posted 1 (without_journal k v) k e given.journal (subst (λ (x : JournalState Q). IsStop 1 e x) (sym left.1) left.0) in
      record {
        left = stopped-left e left.0 left.1;
        full = inl (full, inl full);
        missed = inl (same-turns w (without_journal k v) given.went);
        goes_on = went-on w (without_journal k v) given.went;
        good = subst (λ (u : Setup). IsGood u k.entries) (ap (λ x. x.setup) given.went.same) given.good;
      }

-- The visit as a whole, from the taking of the journal.
module _ {Q : Type 0} (posted : Q → Bool) (w v : Standing) (request : Request) (j k : JournalState Q) (pass : ℕ) (can : IsFree w)
    (beyond : w.streams ≤ request.file.stream) (took : Takes with_journal w v) (stands : JournalStands posted v j) (me : pass ≡ v.number)
    (answer : Result Bool CcError) (left : PassedOver pass request answer j k) where
  vis : Visiting posted w v j
  vis = visiting posted w v j took stands

  mine : PassedOver w.number request answer j k
  mine = subst (λ (n : ℕ). PassedOver n request answer j k) (me ∙ ap (λ x. x.number) took.same) left

  pub gives-passed : Visited posted w v w.in_flight k
  gives-passed = passed-visited posted w v request j k can beyond vis answer mine

  pub whole-passed : (z : Standing) → z ≡ without_journal k v → RequestServed w z request answer
  whole-passed z is = subst (λ (x : Standing). RequestServed w x request answer) (sym is) (passed-served posted w v request j k can beyond vis answer mine)

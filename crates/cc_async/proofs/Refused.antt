-- What the refusal of a queued read leaves whose stream there is not: its entry, placed under the journal's turn alone.
use Rattle.std.specs.Prelude.{◌≡◌, ℕ, suc, ◌+◌, ◌-◌, ◌<◌, ◌≤◌, Bool, true, false, List, [], ◌∷◌, length, Some, Err, refl}
use Rattle.std.proofs.Common.{ap, sym, ◌∙◌, subst, arith, inl, inr}
use Rattle.std.proofs.lemmas.Bool.{eq-eqb, ne_eqb}
use Rattle.cc_entry.specs.declared.call.Call.{Call}
use Rattle.cc_entry.specs.declared.call.Call.TheVariants as call
use Rattle.cc_entry.specs.declared.entry.Entry.{Entry}
use Rattle.cc_entry.specs.declared.entry.Entry.TheVariants as entry
use Rattle.cc_entry.specs.declared.error.CcError.{CcError}
use Rattle.cc_entry.specs.declared.error.CcError.TheVariants as error
use Rattle.cc_entry.specs.declared.reply.Outcome.TheVariants as outcome
use Rattle.cc_book.specs.Book.{failed}
use Rattle.cc_effects.specs.Calls.{CallLeft, IsUnderWay}
use Rattle.cc_effects.proofs.Starts.{begins, ends_refused, gives_up}
use Rattle.cc_journal.specs.Calls.{owed_end}
use Rattle.cc_journal.specs.Journal.{JournalState, MayBePushed}
use Rattle.cc_journal.proofs.GoodEntries.{MayBePushed-good}
use Rattle.cc_laws.proofs.TurnSteps.{is_quiet-none, is_quiet-unneeded}
use Rattle.cc_model.specs.Good.{IsGood}
use Rattle.cc_model.specs.History.{Effect, history}
use Rattle.cc_model.specs.Passes.{calls_of}
use Rattle.cc_model.specs.Reasons.{is_open}
use Rattle.cc_model.specs.Refusals.{refusal}
use Rattle.cc_model.specs.Room.{reserved_in}
use Rattle.cc_model.specs.Setup.{Setup}
use Rattle.cc_model.specs.Turns.{Turn, Device, Book, Log, Journal, needs, is_quiet}
use Rattle.cc_step.specs.Step.{AddsOwing, IsStop}
use Rattle.cc_step.proofs.Attempts.{reserving}
use Rattle.cc_step.proofs.Placed.{good-failed, so-far}
use Rattle.cc_step.proofs.Reserved.{reserved-failed}
use Rattle.cc_turns.specs.Standing.{Standing, holds}
use Rattle.cc_turns.specs.Journal.{JournalStands}
use Rattle.cc_turns.specs.Takes.{IsThere, Takes, with_journal, without_journal}
use Rattle.cc_writes.specs.Ways.{IsFull}
use Rattle.cc_writes.proofs.OneVisit.{Visiting, Visited, visited, visited-there, visiting, stepping-none}
use Rattle.cc_writes.proofs.Others.{under_way-on}
use Rattle.cc_writes.proofs.Replies.{full-stopped}
use Rattle.cc_calls.specs.Answers.{IsFree}
use Rattle.cc_calls.proofs.LogCalls.{idle-grows}
use Rattle.cc_calls.proofs.Paging.{same-turns, went-on}
use Rattle.cc_async.specs.declared.queue.QueuedRead.{QueuedRead}
use Rattle.cc_async.specs.Reads.{IsRefusedIn, AsyncReadLeft}

-- ---- its entry

-- the call that a queued read is completed by
abbrev pub read_call : QueuedRead → Call
read_call read = call.CopyRead read.file read.at read.len true

-- an object that is not open refuses it
uncached : (u : Setup) (past : List Entry) (h : List Effect) (read : QueuedRead) → is_open h read.file ≡ false → refusal u past h (read_call read) ≡ Some error.NotCached
unfolding refusal
uncached u past h read closed = rw closed refl

abbrev pub refused : ℕ → List Entry → QueuedRead → Entry
refused pass past read = failed pass past read.file.stream (read_call read) error.NotCached

pub good-refused : (u : Setup) (past : List Entry) (pass : ℕ) (read : QueuedRead) → is_open (history past read.file.stream) read.file ≡ false → IsGood u past → IsGood u (refused pass past read ∷ past)
good-refused u past pass read closed good =
    good-failed u past pass read.file.stream (read_call read) error.NotCached refl good refl (uncached u past (history past read.file.stream) read closed)

-- it may be pushed
pub pushed-refused : (u : Setup) (past : List Entry) (pass : ℕ) (read : QueuedRead) → is_open (history past read.file.stream) read.file ≡ false → IsGood u past → MayBePushed past (refused pass past read)
pushed-refused u past pass read closed good =
    MayBePushed-good u past (refused pass past read) (so-far u (refused pass past read ∷ past) (good-refused u past pass read closed good))

-- the entry was placed, for which one place was reserved, and the place of the end that the pass owed was given back
pub adds-refused : {Q : Type 0} (pass nth owed : ℕ) (read : QueuedRead) (j between pushed k : JournalState Q) → reserved_in j.entries ≤ j.reserved → between ≡ reserving j → nth ≡ suc (calls_of between.entries pass) → owed ≡ owed_end between.entries pass → pushed ≡ record between { entries = entry.Call pass nth (Some read.file.stream) (read_call read) (outcome.Failed error.NotCached) ∷ between.entries; reserved = between.reserved - 1; rows = pushed.rows } → k ≡ record pushed { reserved = pushed.reserved - owed } → AddsOwing (refused pass j.entries read) j k
adds-refused {Q} pass nth owed read j between pushed k within same next is placed given =
    given
    ∙ (ap (λ (x : JournalState Q). record x { reserved = x.reserved - owed }) put
    ∙ (ap (λ (n : ℕ). record j { entries = refused pass j.entries read ∷ j.entries; reserved = n; rows = pushed.rows }) (numbers _ _ _ _ _ sums within (rw same at is))
    ∙ ap (λ (x : JournalState Q). record j { entries = refused pass j.entries read ∷ j.entries; reserved = reserved_in (refused pass j.entries read ∷ j.entries) + (j.reserved - reserved_in j.entries); rows = x.rows }) (sym given)))
  where
    put : pushed ≡ record j { entries = refused pass j.entries read ∷ j.entries; reserved = (j.reserved + 1) - 1; rows = pushed.rows }
    put = rw (same, rw same at next) at placed

    sums : owed_end j.entries pass + reserved_in (refused pass j.entries read ∷ j.entries) ≡ reserved_in j.entries
    sums = reserved-failed j.entries pass (suc (calls_of j.entries pass)) read.file.stream (read_call read) error.NotCached refl

    numbers : (after end before reserved mine : ℕ) → end + after ≡ before → before ≤ reserved → mine ≡ end → ((reserved + 1) - 1) - mine ≡ after + (reserved - before)
    numbers after end before reserved mine sum most same = omega (arith, sum, most, same)

-- it needs the turn of the journal alone, of those that there are
quiet-refused : (w : Standing) (past : List Entry) (read : QueuedRead) → w.streams ≤ read.file.stream → (t : Turn) → IsThere w.streams t → holds (record w.held { journal = true }) t ≡ false → is_quiet t (refused w.number past read ∷ []) ≡ true
quiet-refused w past read beyond t there free = is_quiet-unneeded t (refused w.number past read) [] (unneeded t there free) ∙ is_quiet-none t
  where
    unneeded : (x : Turn) → IsThere w.streams x → holds (record w.held { journal = true }) x ≡ false → needs (refused w.number past read) x ≡ false
    unneeded (Device n) known apart = refl
    unneeded (Book n) known apart = ne_eqb n read.file.stream (λ same. absurd (omega (arith, known, beyond, same)))
    unneeded (Log n) known apart = refl
    unneeded Journal known apart = absurd (cc)

-- ---- the visit to the journal in which it was refused
module _ {Q : Type 0} (posted : Q → Bool) (w v : Standing) (read : QueuedRead) (j k : JournalState Q) (can : IsFree w)
    (beyond : w.streams ≤ read.file.stream) (vis : Visiting posted w v j) where
  way : IsUnderWay w.number (read_call read) w.seen j.entries
  way = under_way-on w.number (read_call read) w.seen w.seen j.entries (begins w.number (read_call read) w.seen) (idle-grows w j.entries vis.grows)

  away : w.held.journal ≡ false
  away = ap (λ h. h.journal) can.free

  placed-visited : IsRefusedIn w.number read error.NotCached j k → Visited posted w v w.in_flight k
  placed-visited left = visited-there posted w v w.in_flight (refused w.number j.entries read ∷ []) j k away vis (record {
    kept = left.1 ∙ ap (λ (n : ℕ). record j { entries = refused w.number j.entries read ∷ j.entries; reserved = n; rows = k.rows }) (sym (ap (λ (x : JournalState Q). x.reserved) left.1));
    good = subst (λ (past : List Entry). IsGood w.setup past) (sym (ap (λ x. x.entries) left.1)) (good-refused w.setup j.entries w.number read left.0 vis.good);
    event = tt;
    own = (eq-eqb w.number w.number refl, tt);
    held = quiet-refused w j.entries read beyond;
    reserved =
        count k.reserved j.reserved (reserved_in k.entries) (reserved_in (refused w.number j.entries read ∷ j.entries)) (reserved_in j.entries) w.in_flight v.others
        (ap (λ (x : JournalState Q). reserved_in x.entries) left.1) (ap (λ (x : JournalState Q). x.reserved) left.1) vis.reserved_is;
  })
    where
      count : (now was owed after before flight others : ℕ) → owed ≡ after → now ≡ after + (was - before) → was ≡ before + flight + others → now ≡ owed + flight + others
      count now was owed after before flight others a n w = omega (arith, a, n, w)

  stopped-visited : k ≡ j → Visited posted w v w.in_flight k
  stopped-visited same = visited posted w v w.in_flight [] j k away vis (stepping-none posted w v w.in_flight j.reserved j k vis same vis.reserved_is)

  refused-visited : (e : CcError) → IsRefusedIn w.number read e j k → Visited posted w v w.in_flight k
  refused-visited error.NotCached left = placed-visited left
  refused-visited e left = stopped-visited left.1

  stopped-left : (e : CcError) → IsStop 1 e j → k ≡ j → CallLeft w.setup w.number (read_call read) (outcome.Failed e) w.seen k.entries
  stopped-left e stop same = subst (λ (x : JournalState Q). CallLeft w.setup w.number (read_call read) (outcome.Failed e) w.seen x.entries) (sym same) (by stop)
    where
      by : IsStop 1 e j → CallLeft w.setup w.number (read_call read) (outcome.Failed e) w.seen j.entries
      by (inl full) =
          subst (λ (x : CcError). CallLeft w.setup w.number (read_call read) (outcome.Failed x) w.seen j.entries) (sym full.0)
          (gives_up w.number (read_call read) (error.JournalFull (length j.entries)) w.seen j.entries way refl refl)
      by (inr none) =
          subst (λ (x : CcError). CallLeft w.setup w.number (read_call read) (outcome.Failed x) w.seen j.entries) (sym none.0)
          (gives_up w.number (read_call read) error.NoMemory w.seen j.entries way refl refl)

  -- a read that was refused so leaves what explains that, whatever stopped it
  refused-so : (e : CcError) → CallLeft w.setup w.number (read_call read) (outcome.Failed e) w.seen k.entries → IsFull {A = List ℕ} 1 (without_journal k v) (Err e) → Visited posted w v w.in_flight k → AsyncReadLeft w (without_journal k v) read.file read.at read.len true (Err e)
  refused-so e left full given = record {
    pages = record {
      left = left;
      goes_on = went-on w (without_journal k v) given.went;
      good = λ was_good. subst (λ (u : Setup). IsGood u k.entries) (ap (λ x. x.setup) given.went.same) given.good;
      missed = inl (same-turns w (without_journal k v) given.went);
    };
    full = inl (full, inl full);
    plain = λ good. tt;
    no_wait = λ is. same-turns w (without_journal k v) given.went;
  }

  stopped-so : (e : CcError) → IsStop 1 e j → k ≡ j → AsyncReadLeft w (without_journal k v) read.file read.at read.len true (Err e)
  stopped-so e stop same =
      let given = stopped-visited same in
      refused-so e (stopped-left e stop same)
      (full-stopped (List ℕ) posted 1 (without_journal k v) k e given.journal (subst (λ (x : JournalState Q). IsStop 1 e x) (sym same) stop)) given

  refused-left : (e : CcError) → IsRefusedIn w.number read e j k → AsyncReadLeft w (without_journal k v) read.file read.at read.len true (Err e)
  refused-left error.NotCached left =
      refused-so error.NotCached
      (subst (λ (past : List Entry). CallLeft w.setup w.number (read_call read) (outcome.Failed error.NotCached) w.seen past) (sym (ap (λ x. x.entries) left.1))
      (inl (ends_refused w.number (suc (calls_of j.entries w.number)) (Some read.file.stream) (read_call read) error.NotCached w.seen j.entries way refl refl)))
      tt (placed-visited left)
  refused-left e left = stopped-so e left.0 left.1

-- The visit as a whole, from the taking of the journal.
module _ {Q : Type 0} (posted : Q → Bool) (w v : Standing) (read : QueuedRead) (j k : JournalState Q) (pass : ℕ) (can : IsFree w)
    (beyond : w.streams ≤ read.file.stream) (took : Takes with_journal w v) (stands : JournalStands posted v j) (me : pass ≡ v.number)
    (e : CcError) (left : IsRefusedIn pass read e j k) where
  vis : Visiting posted w v j
  vis = visiting posted w v j took stands

  mine : IsRefusedIn w.number read e j k
  mine = subst (λ (n : ℕ). IsRefusedIn n read e j k) (me ∙ ap (λ x. x.number) took.same) left

  pub gives-refused : Visited posted w v w.in_flight k
  gives-refused = refused-visited posted w v read j k can beyond vis e mine

  pub whole-refused : (z : Standing) → z ≡ without_journal k v → AsyncReadLeft w z read.file read.at read.len true (Err e)
  whole-refused z is = subst (λ (x : Standing). AsyncReadLeft w x read.file read.at read.len true (Err e)) (sym is) (refused-left posted w v read j k can beyond vis e mine)

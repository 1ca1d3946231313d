-- One attempt at a call in a visit: what it gives, and what it leaves of the call.
use Rattle.std.specs.Prelude.{◌≡◌, ℕ, suc, ◌+◌, ◌<◌, ◌≤◌, ◌⊎◌, Bool, true, false, List, [], ◌∷◌, IfSome, Option, Some, None, Err}
use Rattle.std.proofs.Common.{ap, sym, ◌∙◌, subst, inl, inr, arith}
use Rattle.cc_entry.specs.Place.{File}
use Rattle.cc_entry.specs.Queries.{file_of_query}
use Rattle.cc_entry.specs.declared.call.Call.{Call}
use Rattle.cc_entry.specs.declared.call.Call.TheVariants as call
use Rattle.cc_entry.specs.declared.entry.Entry.{Entry}
use Rattle.cc_entry.specs.declared.error.CcError.{CcError}
use Rattle.cc_entry.specs.declared.error.CcError.TheVariants as error
use Rattle.cc_entry.specs.declared.reply.Outcome.TheVariants as outcome
use Rattle.cc_entry.specs.declared.reply.Reply.{Reply}
use Rattle.cc_book.specs.Book.{BookState, done, failed}
use Rattle.cc_effects.specs.Calls.{IsUnderWay, CallLeft}
use Rattle.cc_step.proofs.Stops.{stop-asks}
use Rattle.cc_journal.specs.Journal.{JournalState}
use Rattle.cc_model.specs.Acts.{file_of}
use Rattle.cc_model.specs.Filing.{IsFiled}
use Rattle.cc_model.specs.Good.{IsGood}
use Rattle.cc_model.specs.History.{history}
use Rattle.cc_model.specs.Holds.{Hold, holds_of}
use Rattle.cc_model.specs.Passes.{calls_of}
use Rattle.cc_model.specs.Room.{reserved_in}
use Rattle.cc_model.specs.Setup.{Setup}
use Rattle.cc_step.specs.Step.{StandUnder, MayStep, AttemptLeft, AttemptDone, AttemptRefused, IsReadyFor, IsShort, IsStop, is_answered, is_stepped, asked_now}
use Rattle.cc_step.specs.declared.ways.Attempt.{Attempt}
use Rattle.cc_step.specs.declared.ways.Attempt.TheVariants as attempt
use Rattle.cc_step.proofs.Reasons.{refusal-listed}
use Rattle.cc_turns.specs.Standing.{Standing}
use Rattle.cc_turns.specs.Takes.{without_journal}
use Rattle.cc_writes.specs.Hands.{HasBook}
use Rattle.cc_writes.specs.Told.{HasAnswered, FitsReply, FitsLast, FitsAttempt, CourseAs}
use Rattle.cc_writes.specs.Visits.{IsFiledNow, IsWaitedFor, TriedLeft, IsFullTried}
use Rattle.cc_writes.specs.Ways.{ReadFitsIn, IsFull, CallIsReady}
use Rattle.cc_writes.specs.declared.tell.Returned.{Returned}
use Rattle.cc_writes.specs.declared.course.Course.{Course}
use Rattle.cc_writes.proofs.VisitEnding.{done-left, refused-left, full-left, memoryless-left}
use Rattle.cc_writes.proofs.Others.{under_way-on}
use Rattle.cc_writes.proofs.Placing.{has-book, needs_disk, diskless, stepping-done, stepping-failed, stepping-same}
use Rattle.cc_writes.proofs.Refusals.{MayStop}
use Rattle.cc_writes.proofs.Replies.{replied, fits-reply, full-listed, full-stopped}
use Rattle.cc_writes.proofs.Resting.{filed-held}
use Rattle.cc_writes.proofs.Telling.{same-reply}
use Rattle.cc_writes.proofs.Visiting.{Visiting, Visited, visited}
use Rattle.cc_writes.proofs.Wanting.{stops-asked}

moved : (Says : ℕ → Type 0) (s n : ℕ) → Some s ≡ Some n → Says s → Says n
moved Says s n is said = subst Says (cc) said

-- what holds of the stream under which a call on a file is filed holds of the file's
pub of-file : (Says : ℕ → Type 0) (holds : List Hold) (pass s : ℕ) (it : Call) → IsFiled holds pass (Some s) it (file_of it) → Says s → IfSome (file_of it) (λ file. Says file.stream)
of-file Says holds pass s (call.Initialise file sizes quota temporary) filed said = moved Says s file.stream filed said
of-file Says holds pass s (call.Uninitialise file truncate) filed said = moved Says s file.stream filed said
of-file Says holds pass s (call.CopyRead file at len wait) filed said = moved Says s file.stream filed said
of-file Says holds pass s (call.CopyWrite file at bytes) filed said = moved Says s file.stream filed said
of-file Says holds pass s (call.Zero file span) filed said = moved Says s file.stream filed said
of-file Says holds pass s (call.Map file at len) filed said = moved Says s file.stream filed said
of-file Says holds pass s (call.PinRead file at len exclusive) filed said = moved Says s file.stream filed said
of-file Says holds pass s (call.PreparePin file at len zero exclusive) filed said = moved Says s file.stream filed said
of-file Says holds pass s (call.MdlRead file at len) filed said = moved Says s file.stream filed said
of-file Says holds pass s (call.MdlWrite file at len) filed said = moved Says s file.stream filed said
of-file Says holds pass s (call.NcRead file page) filed said = moved Says s file.stream filed said
of-file Says holds pass s (call.NcStore file page bytes) filed said = moved Says s file.stream filed said
of-file Says holds pass s (call.NcWrite file page) filed said = moved Says s file.stream filed said
of-file Says holds pass s (call.SetSizes file allocation size) filed said = moved Says s file.stream filed said
of-file Says holds pass s (call.Query asked) filed said = by (file_of_query asked) filed
  where
    by : (named : Option File) → IsFiled holds pass (Some s) (call.Query asked) named → IfSome named (λ file. Says file.stream)
    by None filed = tt
    by (Some file) filed = moved Says s file.stream filed said
of-file Says holds pass s (call.Flush file span) filed said = moved Says s file.stream filed said
of-file Says holds pass s (call.Purge file span) filed said = moved Says s file.stream filed said
of-file Says holds pass s (call.Discard file span) filed said = moved Says s file.stream filed said
of-file Says holds pass s (call.SetLog file handle) filed said = moved Says s file.stream filed said
of-file Says holds pass s (call.SetGranularity file bytes) filed said = moved Says s file.stream filed said
of-file Says holds pass s (call.SetAttributes file no_read_ahead no_write_behind) filed said = moved Says s file.stream filed said
of-file Says holds pass s (call.SetThreshold file pages) filed said = moved Says s file.stream filed said
of-file Says holds pass s (call.AskAhead file at len) filed said = moved Says s file.stream filed said
of-file Says holds pass s (call.AheadStep request) filed said = moved Says s request.file.stream filed said
of-file Says holds pass s other filed said = tt

module _ {Q : Type 0} (posted : Q → Bool) (w v : Standing) (it : Call) (b c : BookState) (j k : JournalState Q)
    (has : HasBook w b.stream b) (vis : Visiting posted w v b.stream b j) (here : is_answered it ≡ true) (filed : IsFiledNow w b.stream it) where
  -- the call is filed at the front too
  pub filed-front : IsFiled (holds_of (history j.entries b.stream)) w.number (Some b.stream) it (file_of it)
  filed-front = filed-held w b.stream it j.entries (has-book posted w v b c j k has vis) vis.grows filed

  -- the pass may step there
  pub may-step : MayStep w.setup w.number it b j
  may-step = record {
    stand = vis.stand;
    filed = filed-front;
    owed = covers (reserved_in j.entries) j.reserved w.in_flight v.others vis.reserved_is;
  }
    where
      covers : (owed was flight others : ℕ) → was ≡ owed + flight + others → owed ≤ was
      covers owed was flight others is = omega (arith, is)

  -- and under the number that it is given
  pub number-is : (pass : ℕ) → pass ≡ v.number → pass ≡ w.number
  number-is pass me = me ∙ vis.number_is

  pub may-as : (pass : ℕ) → pass ≡ v.number → MayStep w.setup pass it b j
  may-as pass me = subst (λ (n : ℕ). MayStep w.setup n it b j) (sym (number-is pass me)) may-step

  pub attempted : (pass : ℕ) (ended : Attempt (ℕ × Call)) → pass ≡ v.number → ((u : Setup) → MayStep u pass it b j → AttemptLeft u pass it ended b c j k) → AttemptLeft w.setup w.number it ended b c j k
  attempted pass ended me left = subst (λ (n : ℕ). AttemptLeft w.setup n it ended b c j k) (number-is pass me) (left w.setup (may-as pass me))

  pub way-on : (begun : List Entry) → IsUnderWay w.number it begun w.seen → IsUnderWay w.number it begun j.entries
  way-on begun way = under_way-on w.number it begun w.seen j.entries way vis.idle

  -- the entry of a call that was done is the last, and its reply fits
  pub last-done : (r : Reply) → AttemptDone w.setup w.number it r b c j k → HasAnswered r k.entries
  last-done r left = record {
    pass = w.number;
    nth = suc (calls_of j.entries w.number);
    stream = Some b.stream;
    it = it;
    front = j.entries;
    last = ap (λ (x : JournalState Q). x.entries) left.placed;
  }

  pub fits-done : is_stepped it ≡ true → (r : Reply) (out : List ℕ) → AttemptDone w.setup w.number it r b c j k → ReadFitsIn it out → FitsLast k.entries out
  fits-done stepped r out left fits x answered =
      let reply = replied w.setup w.number b.stream it r j.entries (subst (λ (past : List Entry). IsGood w.setup past) (ap (λ (x : JournalState Q). x.entries) left.placed) left.stand.good) in
      subst (λ (y : Reply). FitsReply y out) (same-reply k.entries r x (last-done r left) answered)
      (fits-reply w.setup j.entries (w.setup.opening b.stream) (history j.entries b.stream) w.number it r out stepped reply fits)

  pub fits-attempt : is_stepped it ≡ true → (ended : Attempt (ℕ × Call)) (out : List ℕ) → AttemptLeft w.setup w.number it ended b c j k → ReadFitsIn it out → FitsAttempt ended k.entries out
  fits-attempt is attempt.Done out left fits = fits-done is left.0 out left.1 fits
  fits-attempt is (attempt.Refused e) out left fits = tt
  fits-attempt is (attempt.GoesOn (page, again)) out left fits = tt
  fits-attempt is (attempt.Stopped e) out left fits = tt

  -- what each way of an attempt gives
  pub visited-done : needs_disk it ≡ false → (r : Reply) → AttemptDone w.setup w.number it r b c j k → Visited posted w v b.stream w.in_flight c k
  visited-done alone r left = visited posted w v b.stream w.in_flight (done w.number j.entries b.stream it r ∷ []) b c j k has vis (stepping-done posted w v b c j k has vis it r alone left)

  pub visited-refused : (e : CcError) → AttemptRefused w.setup w.number it e b c j k → Visited posted w v b.stream w.in_flight c k
  visited-refused e left =
      visited posted w v b.stream w.in_flight (failed w.number j.entries b.stream it e ∷ []) b c j k has vis
      (stepping-failed posted w v b c j k has vis it e left.placed left.stand (ap (λ (x : BookState). x.stream) left.same))

  pub visited-same : k ≡ j → StandUnder w.setup c k → c.stream ≡ b.stream → Visited posted w v b.stream w.in_flight c k
  visited-same same stand stream = visited posted w v b.stream w.in_flight [] b c j k has vis (stepping-same posted w v b c j k has vis same stand stream)

  -- and what it leaves of the call that was under way
  module _ (begun : List Entry) (way : IsUnderWay w.number it begun w.seen) where
    pub left-done : is_stepped it ≡ true → (r : Reply) → AttemptDone w.setup w.number it r b c j k → CallLeft w.setup w.number it (outcome.Done r) begun k.entries
    left-done stepped r left =
        subst (λ (past : List Entry). CallLeft w.setup w.number it (outcome.Done r) begun past) (sym (ap (λ (x : JournalState Q). x.entries) left.placed))
        (done-left w.setup w.number b.stream it here (suc (calls_of j.entries w.number)) begun j.entries filed-front stepped r (way-on begun way))

    pub left-refused : (e : CcError) → AttemptRefused w.setup w.number it e b c j k → CallLeft w.setup w.number it (outcome.Failed e) begun k.entries
    left-refused e left =
        subst (λ (past : List Entry). CallLeft w.setup w.number it (outcome.Failed e) begun past) (sym (ap (λ (x : JournalState Q). x.entries) left.placed))
        (refused-left w.setup w.number b.stream it here (suc (calls_of j.entries w.number)) begun j.entries filed-front e (way-on begun way) left.reason)

    pub left-stopped : (asked : ℕ) (e : CcError) → MayStop it j.entries → IsStop asked e j → k ≡ j → CallLeft w.setup w.number it (outcome.Failed e) begun k.entries
    left-stopped asked e stops stop same =
        subst (λ (x : JournalState Q). CallLeft w.setup w.number it (outcome.Failed e) begun x.entries) (sym same) (by stop)
      where
        by : IsStop asked e j → CallLeft w.setup w.number it (outcome.Failed e) begun j.entries
        by (inl full) =
            subst (λ (x : CcError). CallLeft w.setup w.number it (outcome.Failed x) begun j.entries) (sym full.0)
            (full-left w.setup w.number b.stream it here 0 begun j.entries filed-front _ stops (way-on begun way))
        by (inr none) =
            subst (λ (x : CcError). CallLeft w.setup w.number it (outcome.Failed x) begun j.entries) (sym none.0)
            (memoryless-left w.setup w.number b.stream it here 0 begun j.entries filed-front stops (way-on begun way))

  pub full-refused : (A : Type 0) (asked : ℕ) (e : CcError) → AttemptRefused w.setup w.number it e b c j k → IsFull {A = A} asked (without_journal k v) (Err e)
  full-refused A asked e left =
      full-listed A asked (without_journal k v) e (refusal-listed w.setup j.entries (history j.entries b.stream) it e left.reason)

  pub full-stop : (A : Type 0) (asked : ℕ) (e : CcError) → IsStop asked e j → k ≡ j → Visited posted w v b.stream w.in_flight c k → IsFull {A = A} asked (without_journal k v) (Err e)
  full-stop A asked e stop same given =
      full-stopped A posted asked (without_journal k v) k e given.journal (subst (λ (x : JournalState Q). IsStop asked e x) (sym same) stop)

  -- there was no room for one entry, or the call was ready to be done
  short-on : (A : Type 0) (asked : ℕ) (e : CcError) → IsStop asked e j → IsShort w.setup b.stream it e j → k ≡ j → Visited posted w v b.stream w.in_flight c k → IsFull {A = A} 1 (without_journal k v) (Err e) ⊎ IsReadyFor (without_journal k v).setup (without_journal k v).seen b.stream it
  short-on A asked e stop (inl none) unchanged given = inl (full-stop A 1 e (one stop) unchanged given)
    where
      one : IsStop asked e j → IsStop 1 e j
      one (inl full) = inl (full.0, none)
      one (inr memory) = inr (memory.0, omega arith)
  short-on A asked (error.JournalFull entries) stop (inr ready) unchanged given =
      inr
      (subst (λ (u : Setup). IsReadyFor u k.entries b.stream it) (sym vis.setup_is)
      (subst (λ (x : JournalState Q). IsReadyFor w.setup x.entries b.stream it) (sym unchanged) ready))
  short-on A asked other stop (inr ready) unchanged given = inl tt

  -- so is a call on a file
  pub full-short : (A : Type 0) (asked : ℕ) (e : CcError) → IsStop asked e j → IsShort w.setup b.stream it e j → k ≡ j → Visited posted w v b.stream w.in_flight c k → IsFull {A = A} 1 (without_journal k v) (Err e) ⊎ CallIsReady (without_journal k v).setup it (without_journal k v).seen
  full-short A asked e stop short unchanged given = named (short-on A asked e stop short unchanged given)
    where
      named : IsFull {A = A} 1 (without_journal k v) (Err e) ⊎ IsReadyFor (without_journal k v).setup (without_journal k v).seen b.stream it → IsFull {A = A} 1 (without_journal k v) (Err e) ⊎ CallIsReady (without_journal k v).setup it (without_journal k v).seen
      named (inl none) = inl none
      named (inr ready) = inr (of-file (λ (s : ℕ). IsReadyFor (without_journal k v).setup (without_journal k v).seen s it) (holds_of (history j.entries b.stream)) w.number b.stream it filed-front ready)

  -- an attempt, by how it ended
  pub visited-attempt : is_stepped it ≡ true → (ended : Attempt (ℕ × Call)) → AttemptLeft w.setup w.number it ended b c j k → Visited posted w v b.stream w.in_flight c k
  visited-attempt is attempt.Done left = visited-done (diskless it is) left.0 left.1
  visited-attempt is (attempt.Refused e) left = visited-refused e left
  visited-attempt is (attempt.GoesOn (page, again)) left =
      visited-same left.same_journal
      (subst (λ (x : BookState). StandUnder w.setup x k) (sym left.same_book) (subst (λ (x : JournalState Q). StandUnder w.setup b x) (sym left.same_journal) vis.stand))
      (ap (λ (x : BookState). x.stream) left.same_book)
  visited-attempt is (attempt.Stopped e) left = visited-same left.1.same_journal left.1.stand left.1.stream

  pub left-attempt : is_stepped it ≡ true → b.stream < 16 → (ended : Attempt (ℕ × Call)) (answer : Course (ℕ × Call)) (was now : List ℕ) → AttemptLeft w.setup w.number it ended b c j k → CourseAs ended answer k.entries was now → (begun : List Entry) → IsUnderWay w.number it begun w.seen → TriedLeft w.setup w.number b.stream it answer begun k.entries was now
  left-attempt is known attempt.Done answer was now left told begun way =
      subst (λ (x : Course (ℕ × Call)). TriedLeft w.setup w.number b.stream it x begun k.entries was now) (sym told.1)
      (left.0, left-done begun way is left.0 left.1, told.2 left.0 (last-done left.0 left.1))
  left-attempt is known (attempt.Refused e) answer was now left told begun way =
      subst (λ (x : Course (ℕ × Call)). TriedLeft w.setup w.number b.stream it x begun k.entries was now) (sym told.0)
      (left-refused begun way e left, told.1)
  left-attempt is known (attempt.GoesOn (page, again)) answer was now left told begun way =
      subst (λ (x : Course (ℕ × Call)). TriedLeft w.setup w.number b.stream it x begun k.entries was now) (sym told.0)
      (subst (λ (x : JournalState Q). (again ≡ it) × IsUnderWay w.number it begun x.entries × IsWaitedFor w.setup b.stream it page x.entries × (now ≡ was)) (sym left.same_journal)
      (left.call_is, way-on begun way, record { admitted = left.admitted; least = left.least }, told.1))
  left-attempt is known (attempt.Stopped e) answer was now left told begun way =
      subst (λ (x : Course (ℕ × Call)). TriedLeft w.setup w.number b.stream it x begun k.entries was now) (sym told.0)
      (left-stopped begun way (asked_now j.entries b.stream it) e stops left.0 left.1.same_journal, told.1)
    where
      stops : MayStop it j.entries
      stops = stops-asked j.entries b.stream w.number it known here filed-front (stop-asks (asked_now j.entries b.stream it) e j left.0)

  pub full-attempt : (ended : Attempt (ℕ × Call)) (answer : Course (ℕ × Call)) (was now : List ℕ) → AttemptLeft w.setup w.number it ended b c j k → CourseAs ended answer k.entries was now → IsFullTried (without_journal k v) b.stream it answer
  full-attempt attempt.Done answer was now left told = subst (λ (x : Course (ℕ × Call)). IsFullTried (without_journal k v) b.stream it x) (sym told.1) (tt, inl tt)
  full-attempt (attempt.Refused e) answer was now left told =
      subst (λ (x : Course (ℕ × Call)). IsFullTried (without_journal k v) b.stream it x) (sym told.0)
      (full-refused Returned (asked_now k.entries b.stream it) e left, inl (full-refused Returned 1 e left))
  full-attempt (attempt.GoesOn (page, again)) answer was now left told = subst (λ (x : Course (ℕ × Call)). IsFullTried (without_journal k v) b.stream it x) (sym told.0) tt
  full-attempt (attempt.Stopped e) answer was now left told =
      subst (λ (x : Course (ℕ × Call)). IsFullTried (without_journal k v) b.stream it x) (sym told.0) (
        subst (λ (n : ℕ). IsFull {A = Returned} n (without_journal k v) (Err e)) (sym (ap (λ (x : JournalState Q). asked_now x.entries b.stream it) left.1.same_journal))
            (full-stop Returned (asked_now j.entries b.stream it) e left.0 left.1.same_journal given),
        short-on Returned (asked_now j.entries b.stream it) e left.0 left.2 left.1.same_journal given,
      )
    where
      given : Visited posted w v b.stream w.in_flight c k
      given = visited-same left.1.same_journal left.1.stand left.1.stream

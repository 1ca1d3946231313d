-- What a call for read-ahead leaves: of the journal in hand, of the visit, and of the turn of its stream's book.
use Rattle.std.specs.Prelude.{◌≡◌, ℕ, Bool, true, is_some, IfOk, IfErr, ◌+◌, ◌-◌, ◌<◌, ◌≤◌, ◌⊎◌, List, [], ◌∷◌, length, Option, None, Some, Result, Ok, Err, refl}
use Rattle.std.proofs.Common.{ap, sym, ◌∙◌, subst, arith, inl, inr}
use Rattle.cc_entry.specs.Place.{File}
use Rattle.cc_entry.specs.declared.call.Call.{Call}
use Rattle.cc_entry.specs.declared.call.Call.TheVariants as call
use Rattle.cc_entry.specs.declared.entry.Entry.{Entry}
use Rattle.cc_entry.specs.declared.error.CcError.{CcError}
use Rattle.cc_entry.specs.declared.error.CcError.TheVariants as error
use Rattle.cc_entry.specs.declared.place.Request.{Request}
use Rattle.cc_entry.specs.declared.reply.Outcome.{Outcome}
use Rattle.cc_entry.specs.declared.reply.Outcome.TheVariants as outcome
use Rattle.cc_entry.specs.declared.reply.Reply.TheVariants as reply
use Rattle.cc_book.specs.Book.{BookState, BookStands, Gains, GoesOn, MayDoOnBook, MayPlaceOnBook, done, failed}
use Rattle.cc_effects.specs.Calls.{CallLeft}
use Rattle.cc_effects.proofs.CallSteps.{left-before}
use Rattle.cc_effects.proofs.Starts.{begins, ends_refused}
use Rattle.cc_journal.specs.Calls.{owed_end}
use Rattle.cc_journal.specs.Journal.{JournalState}
use Rattle.cc_model.specs.Good.{IsGood}
use Rattle.cc_model.specs.History.{history}
use Rattle.cc_model.specs.Passes.{calls_of}
use Rattle.cc_model.specs.Room.{reserved_in}
use Rattle.cc_model.specs.Setup.{Setup}
use Rattle.cc_queue.specs.Places.{PlaceState}
use Rattle.cc_step.specs.Step.{AddsOwing, AttemptDone, IsStop, MayStep, StandUnder, most_asked}
use Rattle.cc_step.proofs.Attempts.{adds-owing, adds-reserving, failed-owing, forgone-within, forgoing, reserving}
use Rattle.cc_step.proofs.Placed.{good-call, good-done, good-failed, so-far}
use Rattle.cc_step.proofs.PlacedPages.{stand-onto}
use Rattle.cc_model.specs.ReadAhead.{ahead_of}
use Rattle.cc_model.specs.Refusals.{refusal}
use Rattle.cc_step.proofs.Reasons.{is_listed, refusal-listed}
use Rattle.cc_turns.specs.Standing.{TurnsHeld, Standing}
use Rattle.cc_turns.specs.Takes.{Takes, with_book, without_book, without_journal}
use Rattle.cc_writes.specs.Fetch.{CanCall}
use Rattle.cc_writes.specs.Hands.{HasBook, Went}
use Rattle.cc_writes.specs.Visits.{IsFiledNow}
use Rattle.cc_writes.specs.Ways.{IsFull}
use Rattle.cc_writes.proofs.Attempting.{filed-front, full-refused, full-stop, left-done, left-refused, left-stopped, may-as, number-is, visited-done, visited-refused, visited-same, way-on}
use Rattle.cc_writes.proofs.Placing.{stepping-failed}
use Rattle.cc_writes.proofs.Refusals.{stops-free}
use Rattle.cc_writes.proofs.Visiting.{Visiting, Visited, visited}
use Rattle.cc_calls.specs.Ahead.{AskedAt, AskedIn, IsDecided, ahead_outcome}
use Rattle.cc_calls.specs.Answers.{CallEnds}
use Rattle.cc_calls.proofs.LogCalls.{idle-grows}

-- ---- on the journal in hand

-- without room or memory nothing was pushed
pub kept-asked : (e : CcError) (n : ℕ) (place : PlaceState Request) → (e ≡ error.JournalFull n) ⊎ (e ≡ error.NoMemory) → AskedAt (Err e) place place
kept-asked e n place (inl full) = rw full refl
kept-asked e n place (inr none) = rw none refl

module _ {Q : Type 0} (u : Setup) (pass : ℕ) (file : File) (at len : ℕ) (b : BookState) (j : JournalState Q)
    (may : MayStep u pass (call.AskAhead file at len) b j) where
  abbrev it : Call
  it = call.AskAhead file at len

  good-asked : (request : Option Request) → IsDecided u j.entries b.stream file at len (Ok request) → IsGood u (done pass j.entries b.stream it (reply.Ahead request) ∷ j.entries)
  good-asked request decided =
      good-done u j.entries pass b.stream it (reply.Ahead request) refl may.stand.good may.filed (record { admitted = decided.0; filled = tt }) (ap reply.Ahead decided.1)

  -- the call may be done with the request
  pub may-ask : (request : Option Request) → IsDecided u j.entries b.stream file at len (Ok request) → MayDoOnBook u j.entries pass it (reply.Ahead request) b
  may-ask request decided = record { good = so-far u _ (good-asked request decided); stands = may.stand.stands }

  -- or it may fail, as it was decided
  good-turned : (e : CcError) → (e ≡ error.NoMemory → ⊥) → IsDecided u j.entries b.stream file at len (Err e) → IsGood u (failed pass j.entries b.stream it e ∷ j.entries)
  good-turned error.QueueFull some decided =
      good-call u pass _ b.stream it (outcome.Failed error.QueueFull) j.entries refl decided (record { number = refl; filed = may.filed; may_end = tt }) may.stand.good
  good-turned error.NoMemory some decided = absurd (some refl)
  good-turned e some decided = good-failed u j.entries pass b.stream it e refl may.stand.good may.filed decided

  pub may-turn : (e : CcError) → (e ≡ error.NoMemory → ⊥) → IsDecided u j.entries b.stream file at len (Err e) → MayPlaceOnBook j.entries (failed pass j.entries b.stream it e) b
  may-turn e some decided = (u, so-far u _ (good-turned e some decided), may.stand.stands)

  -- the place of the end that the pass owed is reserved still
  pub owed-left : (e : Entry) (owed : ℕ) (k : JournalState Q) → Gains e (reserving j) k → owed ≡ owed_end j.entries pass → owed ≤ k.reserved
  owed-left e owed k gains is = within _ _ _ _ (forgone-within pass j may.owed) is (ap (λ (x : JournalState Q). x.reserved) gains)
    where
      within : (end was mine now : ℕ) → end ≤ was → mine ≡ end → now ≡ (was + 1) - 1 → mine ≤ now
      within end was mine now most same less = omega (arith, most, same, less)

  -- it was done
  pub asked-done : (request : Option Request) (owed : ℕ) (c : BookState) (k last : JournalState Q) → b.stream < 16 → IsDecided u j.entries b.stream file at len (Ok request) → Gains (done pass j.entries b.stream it (reply.Ahead request)) (reserving j) k → owed ≡ owed_end j.entries pass → last ≡ record k { reserved = k.reserved - owed } → c.stream ≡ b.stream → BookStands (u.opening b.stream) k.entries c → AttemptDone u pass it (reply.Ahead request) b c j last
  asked-done request owed c k last below decided gains is given stream stands = record {
    placed = placed;
    stand = stand-onto u (done pass j.entries b.stream it (reply.Ahead request)) b c j last may.stand (good-asked request decided) (ap (λ x. x.entries) placed) (ap (λ x. x.logs) placed) (ap (λ x. x.threshold) placed) stream
        (subst (λ (past : List Entry). BookStands (u.opening b.stream) past c) (sym (ap (λ (x : JournalState Q). x.entries) given)) stands);
    stream = stream;
  }
    where
      last-is : last ≡ forgoing j pass k
      last-is = given ∙ ap (λ (n : ℕ). record k { reserved = k.reserved - n }) is

      none : (n : ℕ) → n ≡ n + 0
      none n = omega arith

      placed : AddsOwing (done pass j.entries b.stream it (reply.Ahead request)) j last
      placed = rw last-is
          (adds-owing u pass 0 it (reply.Ahead request) b j k below refl may refl
          (gains ∙ ap (λ (n : ℕ). record j { entries = done pass j.entries b.stream it (reply.Ahead request) ∷ j.entries; reserved = n; rows = k.rows }) (none ((j.reserved + 1) - 1))))

  -- it failed
  pub asked-failed : (e : CcError) (owed : ℕ) (k last : JournalState Q) → (e ≡ error.NoMemory → ⊥) → IsDecided u j.entries b.stream file at len (Err e) → Gains (failed pass j.entries b.stream it e) (reserving j) k → owed ≡ owed_end j.entries pass → last ≡ record k { reserved = k.reserved - owed } → BookStands (u.opening b.stream) k.entries b → AskedIn u pass file at len (Err e) b b j last
  asked-failed e owed k last some decided gains is given stands = by e some decided placed stand
    where
      last-is : last ≡ forgoing j pass k
      last-is = given ∙ ap (λ (n : ℕ). record k { reserved = k.reserved - n }) is

      placed : AddsOwing (failed pass j.entries b.stream it e) j last
      placed = rw last-is (failed-owing pass it e b j k refl may.owed (adds-reserving (failed pass j.entries b.stream it e) j k gains))

      stand : StandUnder u b last
      stand =
          stand-onto u (failed pass j.entries b.stream it e) b b j last may.stand (good-turned e some decided) (ap (λ x. x.entries) placed) (ap (λ x. x.logs) placed) (ap (λ x. x.threshold) placed) refl
          (subst (λ (past : List Entry). BookStands (u.opening b.stream) past b) (sym (ap (λ (x : JournalState Q). x.entries) given)) stands)

      by : (x : CcError) → (x ≡ error.NoMemory → ⊥) → IsDecided u j.entries b.stream file at len (Err x) → AddsOwing (failed pass j.entries b.stream it x) j last → StandUnder u b last → AskedIn u pass file at len (Err x) b b j last
      by error.QueueFull some decided placed stand = record { admitted = decided.0; wanted = decided.1; placed = placed; stand = stand; same = refl }
      by error.NoMemory some decided placed stand = absurd (some refl)
      by (error.JournalFull entries) some decided placed stand =
          let listed = refusal-listed u j.entries (history j.entries b.stream) it (error.JournalFull entries) decided in absurd (cc (listed))
      by x some decided placed stand = record { reason = decided; placed = placed; stand = stand; same = refl }

  -- or it stopped
  pub asked-stopped : (e : CcError) (k : JournalState Q) → IsStop 1 e j → k ≡ j → AskedIn u pass file at len (Err e) b b j k
  asked-stopped e k (inl full) same = rw full.0 (record { stop = inl (refl, full.1); same_book = refl; same_journal = same })
  asked-stopped e k (inr none) same = rw none.0 (record { stop = inr (refl, none.1); same_book = refl; same_journal = same })

  -- ---- with the place of its entry reserved
  module _ (r : JournalState Q) (same : r ≡ reserving j) where
    pub stand-reserved : StandUnder u b r
    stand-reserved =
        subst (λ (x : JournalState Q). StandUnder u b x) (sym same)
        (record { good = may.stand.good; stands = may.stand.stands; logs_are = may.stand.logs_are; threshold_is = may.stand.threshold_is })

    pub some-reserved : 0 < r.reserved
    some-reserved = some _ _ (ap (λ (x : JournalState Q). x.reserved) same)
      where
        some : (now was : ℕ) → now ≡ was + 1 → 0 < now
        some now was more = omega (arith, more)

    pub reserved-may : (request told : Option Request) → told ≡ request → IsDecided u r.entries b.stream file at len (Ok request) → MayDoOnBook u r.entries pass it (reply.Ahead told) b
    reserved-may =
        subst (λ (x : JournalState Q). (request told : Option Request) → told ≡ request → IsDecided u x.entries b.stream file at len (Ok request) → MayDoOnBook u x.entries pass it (reply.Ahead told) b) (sym same)
        (λ request told is decided. subst (λ (o : Option Request). MayDoOnBook u j.entries pass it (reply.Ahead o) b) (sym is) (may-ask request decided))

    pub reserved-turn : (e : CcError) → (e ≡ error.NoMemory → ⊥) → IsDecided u r.entries b.stream file at len (Err e) → MayPlaceOnBook r.entries (failed pass r.entries b.stream it e) b
    reserved-turn =
        subst (λ (x : JournalState Q). (e : CcError) → (e ≡ error.NoMemory → ⊥) → IsDecided u x.entries b.stream file at len (Err e) → MayPlaceOnBook x.entries (failed pass x.entries b.stream it e) b) (sym same) may-turn

    pub reserved-owed : (e : Entry) (owed : ℕ) (k : JournalState Q) → Gains e r k → owed ≡ owed_end r.entries pass → owed ≤ k.reserved
    reserved-owed =
        subst (λ (x : JournalState Q). (e : Entry) (owed : ℕ) (k : JournalState Q) → Gains e x k → owed ≡ owed_end x.entries pass → owed ≤ k.reserved) (sym same) owed-left

    pub reserved-done : (request told : Option Request) (owed : ℕ) (c : BookState) (k last : JournalState Q) → told ≡ request → b.stream < 16 → IsDecided u r.entries b.stream file at len (Ok request) → Gains (done pass r.entries b.stream it (reply.Ahead told)) r k → owed ≡ owed_end r.entries pass → last ≡ record k { reserved = k.reserved - owed } → c.stream ≡ b.stream → BookStands (u.opening b.stream) k.entries c → AttemptDone u pass it (reply.Ahead request) b c j last
    reserved-done =
        subst (λ (x : JournalState Q). (request told : Option Request) (owed : ℕ) (c : BookState) (k last : JournalState Q) → told ≡ request → b.stream < 16 → IsDecided u x.entries b.stream file at len (Ok request) → Gains (done pass x.entries b.stream it (reply.Ahead told)) x k → owed ≡ owed_end x.entries pass → last ≡ record k { reserved = k.reserved - owed } → c.stream ≡ b.stream → BookStands (u.opening b.stream) k.entries c → AttemptDone u pass it (reply.Ahead request) b c j last) (sym same)
        (λ request told owed c k last is below decided gains end given stream stands. asked-done request owed c k last below decided (subst (λ (o : Option Request). Gains (done pass j.entries b.stream it (reply.Ahead o)) (reserving j) k) is gains) end given stream stands)

    pub reserved-failed : (e : CcError) (owed : ℕ) (c : BookState) (k last : JournalState Q) → (e ≡ error.NoMemory → ⊥) → IsDecided u r.entries b.stream file at len (Err e) → Gains (failed pass r.entries b.stream it e) r k → owed ≡ owed_end r.entries pass → last ≡ record k { reserved = k.reserved - owed } → GoesOn r.entries k.entries b c → c ≡ b → AskedIn u pass file at len (Err e) b c j last
    reserved-failed =
        subst (λ (x : JournalState Q). (e : CcError) (owed : ℕ) (c : BookState) (k last : JournalState Q) → (e ≡ error.NoMemory → ⊥) → IsDecided u x.entries b.stream file at len (Err e) → Gains (failed pass x.entries b.stream it e) x k → owed ≡ owed_end x.entries pass → last ≡ record k { reserved = k.reserved - owed } → GoesOn x.entries k.entries b c → c ≡ b → AskedIn u pass file at len (Err e) b c j last) (sym same)
        (λ e owed c k last some decided gains end given goes kept.
        subst (λ (d : BookState). AskedIn u pass file at len (Err e) b d j last) (sym kept)
        (asked-failed e owed k last some decided gains end given (subst (λ (d : BookState). BookStands (u.opening b.stream) k.entries d) kept (goes (u.opening b.stream) may.stand.stands))))

-- ---- what is decided
-- the request that the reads lead to was pushed, or there was no place for it
pub decided-pushed : (u : Setup) (past : List Entry) (s : ℕ) (file : File) (at len : ℕ) (request : Option Request) (answer : Result (Option Request) CcError) → refusal u past (history past s) (call.AskAhead file at len) ≡ None → request ≡ ahead_of (history past s) file at len → IfOk answer (λ answered. answered ≡ request) → IfErr answer (λ e. (e ≡ error.QueueFull) × (is_some request ≡ true)) → IsDecided u past s file at len answer
decided-pushed u past s file at len request (Ok answered) none is pushed full = (none, pushed ∙ is)
decided-pushed u past s file at len request (Err e) none is pushed full =
    subst (λ (x : CcError). IsDecided u past s file at len (Err x)) (sym full.0) (none, subst (λ (o : Option Request). is_some o ≡ true) is full.1)

-- it is refused, and by none of the answers that have other causes
pub decided-refused : (u : Setup) (past : List Entry) (s : ℕ) (file : File) (at len : ℕ) (e : CcError) → refusal u past (history past s) (call.AskAhead file at len) ≡ Some e → IsDecided u past s file at len (Err e)
decided-refused u past s file at len e is = by e is (refusal-listed u past (history past s) (call.AskAhead file at len) e is)
  where
    by : (x : CcError) → refusal u past (history past s) (call.AskAhead file at len) ≡ Some x → is_listed x ≡ true → IsDecided u past s file at len (Err x)
    by error.QueueFull is listed = absurd (cc (listed))
    by error.NoMemory is listed = tt
    by x is listed = is

-- nothing was pushed then
pub kept-refused : (u : Setup) (past : List Entry) (s : ℕ) (file : File) (at len : ℕ) (e : CcError) (place : PlaceState Request) → refusal u past (history past s) (call.AskAhead file at len) ≡ Some e → AskedAt (Err e) place place
kept-refused u past s file at len e place is = by e (refusal-listed u past (history past s) (call.AskAhead file at len) e is)
  where
    by : (x : CcError) → is_listed x ≡ true → AskedAt (Err x) place place
    by error.QueueFull listed = absurd (cc (listed))
    by x listed = refl

-- ---- in a visit to the journal with the book in hand
module _ {Q : Type 0} (posted : Q → Bool) (w v : Standing) (file : File) (at len : ℕ) (b c : BookState) (j k : JournalState Q)
    (has : HasBook w b.stream b) (vis : Visiting posted w v b.stream b j) (filed : IsFiledNow w b.stream (call.AskAhead file at len)) where
  abbrev this : Call
  this = call.AskAhead file at len

  -- the pass may step on the journal, and what it left is its own
  pub may-step-asked : (pass : ℕ) → pass ≡ v.number → MayStep w.setup pass this b j
  may-step-asked pass me = may-as posted w v this b c j k has vis refl filed pass me

  pub own-asked : (pass : ℕ) (answer : Result (Option Request) CcError) → pass ≡ v.number → ((u : Setup) → MayStep u pass this b j → AskedIn u pass file at len answer b c j k) → AskedIn w.setup w.number file at len answer b c j k
  own-asked pass answer me left =
      subst (λ (n : ℕ). AskedIn w.setup n file at len answer b c j k) (number-is posted w v this b c j k has vis refl filed pass me) (left w.setup (may-step-asked pass me))

  pub visited-asked : (answer : Result (Option Request) CcError) → AskedIn w.setup w.number file at len answer b c j k → Visited posted w v b.stream w.in_flight c k
  visited-asked (Ok request) left = visited-done posted w v this b c j k has vis refl filed refl (reply.Ahead request) left
  visited-asked (Err error.QueueFull) left =
      visited posted w v b.stream w.in_flight (failed w.number j.entries b.stream this error.QueueFull ∷ []) b c j k has vis
      (stepping-failed posted w v b c j k has vis this error.QueueFull left.placed left.stand (ap (λ (x : BookState). x.stream) left.same))
  visited-asked (Err (error.JournalFull entries)) left = stopped left.same_book left.same_journal
    where
      stopped : c ≡ b → k ≡ j → Visited posted w v b.stream w.in_flight c k
      stopped same_book same = visited-same posted w v this b c j k has vis refl filed same (rw (same_book, same) vis.stand) (ap (λ (x : BookState). x.stream) same_book)
  visited-asked (Err error.NoMemory) left =
      visited-same posted w v this b c j k has vis refl filed left.same_journal (rw (left.same_book, left.same_journal) vis.stand) (ap (λ (x : BookState). x.stream) left.same_book)
  visited-asked (Err e) left = visited-refused posted w v this b c j k has vis refl filed e left

  asked-left : (answer : Result (Option Request) CcError) → AskedIn w.setup w.number file at len answer b c j k → CallLeft w.setup w.number this (ahead_outcome answer) w.seen k.entries
  asked-left (Ok request) left = left-done posted w v this b c j k has vis refl filed w.seen (begins w.number this w.seen) refl (reply.Ahead request) left
  asked-left (Err error.QueueFull) left =
      subst (λ (past : List Entry). CallLeft w.setup w.number this (outcome.Failed error.QueueFull) w.seen past) (sym (ap (λ (x : JournalState Q). x.entries) left.placed))
      (inl (ends_refused w.number _ (Some b.stream) this error.QueueFull w.seen j.entries
      (way-on posted w v this b c j k has vis refl filed w.seen (begins w.number this w.seen)) (filed-front posted w v this b c j k has vis refl filed) refl))
  asked-left (Err (error.JournalFull entries)) left =
      left-stopped posted w v this b c j k has vis refl filed w.seen (begins w.number this w.seen) 1 (error.JournalFull entries) (stops-free this j.entries refl refl) left.stop left.same_journal
  asked-left (Err error.NoMemory) left =
      left-stopped posted w v this b c j k has vis refl filed w.seen (begins w.number this w.seen) 1 error.NoMemory (stops-free this j.entries refl refl) left.stop left.same_journal
  asked-left (Err e) left = left-refused posted w v this b c j k has vis refl filed w.seen (begins w.number this w.seen) e left

  asked-full : (answer : Result (Option Request) CcError) → AskedIn w.setup w.number file at len answer b c j k → IsFull 1 (without_journal k v) answer
  asked-full (Ok request) left = tt
  asked-full (Err error.QueueFull) left = tt
  asked-full (Err (error.JournalFull entries)) left =
      full-stop posted w v this b c j k has vis refl filed (Option Request) 1 (error.JournalFull entries) left.stop left.same_journal (visited-asked (Err (error.JournalFull entries)) left)
  asked-full (Err error.NoMemory) left = tt
  asked-full (Err e) left = full-refused posted w v this b c j k has vis refl filed (Option Request) 1 e left

  pub asked-ends : (z : Standing) → z ≡ without_journal k v → (answer : Result (Option Request) CcError) → AskedIn w.setup w.number file at len answer b c j k → CallEnds ahead_outcome w z this answer
  asked-ends z is answer left =
      let given = visited-asked answer left in
      subst (λ (x : Standing). CallEnds ahead_outcome w x this answer) (sym is) (record {
        left = asked-left answer left;
        full = asked-full answer left;
        goes_on = given.went;
        good = λ was_good. subst (λ (u : Setup). IsGood u k.entries) (ap (λ x. x.setup) given.went.same) given.book.good;
      })

-- ---- a turn of the book around a call
module _ {A : Type 0} (told : Result A CcError → Outcome) (w v x y : Standing) (s : ℕ) (it : Call) (answer : Result A CcError) (can : CanCall w s) (took : Takes (with_book s) w v) (ends : CallEnds told v x it answer) (gave : y ≡ without_book x) where
  number : v.number ≡ w.number
  number = ap (λ z. z.number) took.same

  setup : v.setup ≡ w.setup
  setup = ap (λ z. z.setup) took.same

  went : Went w y
  went = record {
    same =
        gave
        ∙ (ap without_book ends.goes_on.same
        ∙ (ap (λ (z : Standing). record z { held = record z.held { book = None }; seen = x.seen; others = x.others }) took.same
        ∙ (ap (λ (h : TurnsHeld). record w { seen = x.seen; held = record h { book = None }; others = x.others }) can.free
        ∙ (sym (ap (λ (h : TurnsHeld). record w { seen = x.seen; held = h; others = x.others }) can.free)
        ∙ ap (λ (z : Standing). record w { seen = z.seen; others = z.others }) (sym gave)))));
  }

  pub turned-good : IsGood w.setup y.seen
  turned-good = subst (λ (z : Standing). IsGood w.setup z.seen) (sym gave) (subst (λ (u : Setup). IsGood u x.seen) setup (ends.good took.good))

  pub turned-ends : CallEnds told w y it answer
  turned-ends = record {
    left = subst (λ (z : Standing). CallLeft w.setup w.number it (told answer) w.seen z.seen) (sym gave)
        (left-before w.setup w.number it (told answer) w.seen v.seen x.seen (idle-grows w v.seen took.grows)
        (subst (λ (u : Setup). CallLeft u w.number it (told answer) v.seen x.seen) setup
        (subst (λ (n : ℕ). CallLeft v.setup n it (told answer) v.seen x.seen) number ends.left)));
    full = subst (λ (z : Standing). IsFull (most_asked it) z answer) (sym gave) (full-turn (most_asked it) answer ends.full);
    goes_on = went;
    good = λ was_good. turned-good;
  }
    where
      full-turn : (asked : ℕ) (o : Result A CcError) → IsFull asked x o → IsFull asked (without_book x) o
      full-turn asked (Ok a) full = tt
      full-turn asked (Err (error.JournalFull entries)) full = full
      full-turn asked (Err other) full = tt

-- What a call leaves that needs pages: in one turn of its stream's book, or with the turn of the disk too.
use Rattle.std.specs.Prelude.{◌≡◌, ℕ, Bool, true, false, ◌==◌, List, [], ◌∷◌, ◌++◌, max, Result, Ok, Err, refl}
use Rattle.std.proofs.Common.{ap, sym, ◌∙◌, arith, inl, inr, append_assoc, subst, true≢false}
use Rattle.std.proofs.Math.Nat.{le-max_left, le-max_right}
use Rattle.cc_entry.specs.declared.call.Call.{Call}
use Rattle.cc_entry.specs.declared.entry.Entry.{Entry}
use Rattle.cc_entry.specs.declared.entry.Entry.TheVariants as entry
use Rattle.cc_entry.specs.declared.error.CcError.{CcError}
use Rattle.cc_entry.specs.declared.error.CcError.TheVariants as error
use Rattle.cc_entry.specs.declared.reply.Outcome.{Outcome}
use Rattle.cc_entry.specs.declared.reply.Outcome.TheVariants as outcome
use Rattle.cc_effects.specs.Asked.{Work, Calls}
use Rattle.cc_effects.specs.Calls.{CallLeft, IsUnderWay}
use Rattle.cc_effects.specs.Moments.{EachOwn}
use Rattle.cc_effects.specs.Places.{MayPlace}
use Rattle.cc_effects.proofs.FrontLaws.{placed-of}
use Rattle.cc_effects.proofs.Starts.{begins}
use Rattle.cc_laws.proofs.PassSteps.{calls_of-other}
use Rattle.cc_model.specs.Good.{IsGood}
use Rattle.cc_model.specs.Passes.{calls_of, is_call_of, is_mine}
use Rattle.cc_model.specs.Setup.{Setup}
use Rattle.cc_step.specs.Step.{most_asked}
use Rattle.cc_turns.specs.Standing.{Standing}
use Rattle.cc_writes.specs.Hands.{Went}
use Rattle.cc_writes.specs.Visits.{CallIsOfStream, IsWaitedFor, TriedLeft}
use Rattle.cc_writes.specs.declared.course.Course.{Course}
use Rattle.cc_writes.specs.declared.course.Course.TheVariants as course
use Rattle.cc_writes.specs.declared.tell.Returned.{Returned}
use Rattle.cc_writes.specs.Ways.{EndedSo, IsFull, IsFullCall}
use Rattle.cc_writes.specs.Calls.{IsFullWriting}
use Rattle.cc_writes.specs.Fetch.{IsFullFetching, WentOn}
use Rattle.cc_calls.specs.Paged.{Paged, is_paged}
use Rattle.cc_calls.specs.Pages.{HadMissed, IsFullFor}
use Rattle.cc_writes.proofs.Fullness.{full-answer}
use Rattle.cc_calls.proofs.Waiting.{IsMissed, brings, missed-page}

-- as many places as a call or a step of it may ask that brings pages in: those of its entry, or the two of a transfer
abbrev pub most_room : Call → ℕ
most_room it = max 2 (most_asked it)

pub full-within : {A : Type 0} (it : Call) (w v : Standing) (answer : Result A CcError) → IsFullFor it w v answer → IsFull (most_room it) v answer
full-within it w v answer (inl full) = full-answer (most_asked it) (most_room it) v answer (le-max_right 2 (most_asked it)) full.0
full-within it w v answer (inr full) = full-answer 2 (most_room it) v answer (le-max_left 2 (most_asked it)) full.2

-- and as many as one that writes pages may ask
pub writing-within : {A : Type 0} (it : Call) (w : Standing) (answer : Result A CcError) → IsFullWriting it w answer → IsFull 2 w answer
writing-within it w answer (inl full) = full-answer 1 2 w answer (omega arith) full
writing-within it w answer (inr full) = full.1

-- what its steps asked is said of the call
full-for : {A : Type 0} (it : Call) (w v : Standing) (answer : Result A CcError) → HadMissed w.number it w.seen v.seen → IsFullFetching it v answer → IsFullFor it w v answer
full-for it w v answer missed (inl full) = inl full
full-for it w v answer missed (inr full) = inr (missed, full.0, full.1)

pub same-turns : (w v : Standing) → Went w v → v.device_turns ≡ w.device_turns
same-turns w v went = ap (λ x. x.device_turns) went.same

pub went-on : (w v : Standing) → Went w v → WentOn w v
went-on w v went = record { same = went.same ∙ ap (λ (n : ℕ). record w { seen = v.seen; others = v.others; device_turns = n }) (sym (same-turns w v went)) }

-- what a pass places for a call before its entry ends no call
call-never : (me : ℕ) (work : Work) (base past : List Entry) (e : Entry) → (is_mine me e ≡ true → MayPlace me work base past e) → is_call_of me e ≡ false
call-never me work base past (entry.Call pass nth stream it ended) may = by (pass == me) refl
  where
    by : (b : Bool) → (pass == me) ≡ b → (pass == me) ≡ false
    by true is = absurd (may is)
    by false is = is
call-never me work base past other may = refl

works-uncalled : (me : ℕ) (work : Work) (base during old : List Entry) → EachOwn me (MayPlace me work base) during old → calls_of (during ++ old) me ≡ calls_of old me
works-uncalled me work base [] old each = refl
works-uncalled me work base (e ∷ during) old each =
    calls_of-other e (during ++ old) me (call-never me work base (during ++ old) e each.0) ∙ works-uncalled me work base during old each.1

-- it ended in that one turn
pub in-turn : (w v : Standing) (it : Call) (answer : Result Returned CcError) (was now : List ℕ) → Went w v → IsGood w.setup v.seen → IsFullCall it v answer → EndedSo w.setup w.number it answer w.seen v.seen was now → Paged w v it answer was now
in-turn w v it answer was now went good full left = record {
  left = left;
  full = inl full;
  goes_on = went-on w v went;
  good = good;
  missed = inl (same-turns w v went);
  no_wait = λ none. same-turns w v went;
}

-- a call that ended left a longer journal
call-grew : (u : Setup) (me : ℕ) (it : Call) (answered : Outcome) (old new : List Entry) → CallLeft u me it answered old new → (later : List Entry) × (new ≡ later ++ old)
call-grew u me it (outcome.Failed (error.JournalFull entries)) old new left = (left.during, left.grew)
call-grew u me it (outcome.Failed error.NoMemory) old new left = (left.during, left.grew)
call-grew u me it answered old new left =
    let p = placed-of u me it answered old new left refl in
    let own : List Entry = entry.Call me p.1.nth p.1.stream it answered ∷ p.0 in
    (p.1.later ++ own, p.1.grew ∙ sym (append_assoc p.1.later own old))

ended-grew : (u : Setup) (me : ℕ) (it : Call) (answer : Result Returned CcError) (old new : List Entry) (was now : List ℕ) → EndedSo u me it answer old new was now → (later : List Entry) × (new ≡ later ++ old)
ended-grew u me it (Ok told) old new was now ended = call-grew u me it (outcome.Done ended.0) old new ended.1
ended-grew u me it (Err e) old new was now ended = call-grew u me it (outcome.Failed e) old new ended.0

-- It waited after that turn, and ended with the turn of the disk.
pub record HasWaited (w v : Standing) (s page : ℕ) (it again : Call) (was now : List ℕ) : Type 0 where
  pub call_is : again ≡ it
  pub way : IsUnderWay w.number it w.seen v.seen
  pub waits : IsWaitedFor w.setup s it page v.seen
  pub same : now ≡ was

pub has-waited : (w v : Standing) (s page : ℕ) (it again : Call) (was now : List ℕ) (ended : Course (ℕ × Call)) → ended ≡ course.GoesOn (page, again) → ((begun : List Entry) → IsUnderWay w.number it begun w.seen → TriedLeft w.setup w.number s it ended begun v.seen was now) → HasWaited w v s page it again was now
has-waited w v s page it again was now ended is left =
    let k = rw is at (left w.seen (begins w.number it w.seen)) in
    record { call_is = k.0; way = k.1; waits = k.2; same = k.3 }

pub with-disk : (w v x : Standing) (s page : ℕ) (it again : Call) (answer : Result Returned CcError) (was between now : List ℕ) → is_paged it ≡ true → CallIsOfStream it s → Went w v → HasWaited w v s page it again was between → WentOn v x → IsGood x.setup x.seen → IsFullFetching again x answer → ((begun : List Entry) → IsUnderWay v.number again begun v.seen → EndedSo v.setup v.number again answer begun x.seen between now) → Paged w x it answer was now
with-disk w v x s page it again answer was between now paged filed went has on good full left = record {
  left = rw (setup, number, has.call_is, has.same) at (left w.seen way);
  full = full-for it w x answer had-missed (subst (λ (call : Call). IsFullFetching call x answer) has.call_is full);
  goes_on = record { same = on.same ∙ ap (λ (y : Standing). record y { seen = x.seen; others = x.others; device_turns = x.device_turns }) went.same };
  good = rw (ap (λ y. y.setup) on.same, setup) at good;
  missed = inr had-missed;
  no_wait = λ none. absurd (true≢false (sym (brings w.setup it s page v.seen paged has.waits) ∙ none));
}
  where
    setup : v.setup ≡ w.setup
    setup = ap (λ x. x.setup) went.same

    number : v.number ≡ w.number
    number = ap (λ x. x.number) went.same

    way : IsUnderWay v.number again w.seen v.seen
    way = rw (number, has.call_is) has.way

    grew : (later : List Entry) × (x.seen ≡ later ++ v.seen)
    grew = ended-grew v.setup v.number again answer v.seen x.seen between now (left v.seen (begins v.number again v.seen))

    uncalled : calls_of v.seen w.number ≡ calls_of w.seen w.number
    uncalled =
        ap (λ past. calls_of past w.number) has.way.grew
        ∙ works-uncalled w.number (Calls it) w.seen has.way.during w.seen has.way.works.each

    missed : IsMissed it s page v.seen
    missed = missed-page w.setup it s page v.seen paged filed has.waits

    had-missed : HadMissed w.number it w.seen x.seen
    had-missed = record {
      moment = v.seen;
      later = grew.0;
      since = has.way.during;
      ends = grew.1;
      begins = has.way.grew;
      holds = (uncalled, (record { stream = s; page = page }, missed.reached, missed.absent));
    }

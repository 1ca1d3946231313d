-- The write of a page that is ready to be stored: its log is flushed, and then it is stored.
use Rattle.std.specs.Prelude.{◌≡◌, ℕ, ◌*◌, ◌<◌, ◌^◌, Bool, true, false, ◌||◌, ◌==◌, Result, Ok, Err, List, refl}
use Rattle.std.specs.declared.option.Option.{Option}
use Rattle.std.specs.declared.option.Option.TheVariants.{None, Some}
use Rattle.std.proofs.Common.{ap, sym, subst, arith, inl, inr, ⊎_elim}
use Rattle.std.proofs.lemmas.Bool.{and_from, eq-eqb, or_right}
use Rattle.cc_entry.specs.Place.{File, Page}
use Rattle.cc_entry.specs.declared.call.Call.{Call}
use Rattle.cc_entry.specs.declared.call.Call.TheVariants as call
use Rattle.cc_entry.specs.declared.entry.Entry.{Entry}
use Rattle.cc_entry.specs.declared.error.CcError.{CcError}
use Rattle.cc_entry.specs.declared.error.CcError.TheVariants as error
use Rattle.cc_entry.specs.declared.reply.Outcome.TheVariants as outcome
use Rattle.cc_traits.specs.Disk.{Disk}
use Rattle.cc_book.specs.Book.{BookState}
use Rattle.cc_effects.specs.Asked.{Calls, Work, is_admitted, may_write, reaches, stores}
use Rattle.cc_effects.specs.Calls.{CallLeft, IsUnderWay}
use Rattle.cc_effects.proofs.Starts.{begins}
use Rattle.cc_ranges.proofs.Owing.{some-least}
use Rattle.cc_laws.proofs.SoundFacts.{size_of-good}
use Rattle.cc_laws.proofs.UnrefusedCalls.{unrefused}
use Rattle.cc_model.specs.Conflicts.{busy_by}
use Rattle.cc_model.specs.Faults.{LogFailed}
use Rattle.cc_model.specs.Good.{IsGood}
use Rattle.cc_model.specs.History.{Effect, history}
use Rattle.cc_model.specs.Holds.{holds_of, least_id}
use Rattle.cc_model.specs.Refusals.{refusal}
use Rattle.cc_model.specs.Setup.{Setup}
use Rattle.cc_model.specs.Stamps.{is_unstamped, owes_stamp}
use Rattle.cc_model.specs.Touches.{size_of}
use Rattle.cc_step.proofs.Admitted.{admitted}
use Rattle.cc_step.proofs.Placed.{so-far}
use Rattle.cc_turns.specs.Standing.{Standing}
use Rattle.cc_turns.specs.Takes.{Grows}
use Rattle.cc_writes.specs.Hands.{HasBook, WentWith}
use Rattle.cc_writes.specs.Ways.{WorkHasFailed, IsAtWork, IsHalted, IsCallReason}
use Rattle.cc_writes.specs.Logs.{FlushLeft, HoldsBoth, IsWant, ReachedBy}
use Rattle.cc_writes.specs.Writes.{HasBoth}
use Rattle.cc_writes.specs.declared.log.LogFlush.{LogFlush}
use Rattle.cc_writes.specs.declared.log.LogFlush.TheVariants as flush
use Rattle.cc_writes.proofs.Calling.{tells-log}
use Rattle.cc_writes.proofs.Explained.{both-flushed}
use Rattle.cc_writes.proofs.Flushing.{flush-history, work-reached, work-unlogged}
use Rattle.cc_writes.proofs.Halting.{at-work, given-up, halted-since, no-memory, under-way}
use Rattle.cc_writes.proofs.Quiet.{holds_both}
use Rattle.cc_writes.proofs.OneVisit.{went-number}
use Rattle.cc_writes.proofs.Works.{work-grown}
use Rattle.cc_ranges.specs.Pages.{ReadyWriteLeft}
use Rattle.cc_ranges.specs.WriteHeld.{IsReadyAfter, WriteOfPageLeft}
use Rattle.cc_ranges.specs.WriteVisits.{WriteIsTurnedAway, WriteIsUnderWay}
use Rattle.cc_ranges.proofs.Goods.{below-size, store-step_refusal, stores-page}
use Rattle.cc_ranges.proofs.Misshapen.{unshaped}
use Rattle.cc_ranges.proofs.Storing.{refusal-history}
use Rattle.cc_ranges.specs.ReadVisits.{file_page}

-- no pin owes a stamp to the page of a write that nothing refuses
pub stamped-page : (u : Setup) (past : List Entry) (h : List Effect) (file : File) (page : ℕ) → refusal u past h (call.NcWrite file page) ≡ None → is_unstamped h page ≡ false
stamped-page u past h file page admitted = go (is_unstamped h page) refl
  where
    nobody : (o : Option ℕ) → busy_by o ≡ None → o ≡ None
    nobody None none = refl
    nobody (Some id) none = absurd (cc)

    go : (b : Bool) → is_unstamped h page ≡ b → is_unstamped h page ≡ false
    go true owes =
        absurd (some-least (owes_stamp page) (holds_of h) owes (nobody (least_id (owes_stamp page) (holds_of h)) (unrefused u past h (call.NcWrite file page) admitted).not_busy))
    go false is = is

-- it has a number
pub ready-numbered : (u : Setup) (past : List Entry) (s : ℕ) (file : File) (page : ℕ) → IsGood u past → refusal u past (history past s) (call.NcWrite file page) ≡ None → page < 2 ^ 51
ready-numbered u past s file page good admitted =
    number (size_of (history past s)) (below-size u past (history past s) file page admitted) (size_of-good u past s (so-far u past good))
  where
    number : (size : ℕ) → 4096 * page < size → size < 2 ^ 63 → page < 2 ^ 51
    number size inside most = omega (arith, inside, most)

-- where room or memory was wanting, the write is turned away
pub want-turned : (u : Setup) (me : ℕ) (file : File) (page : ℕ) (e : CcError) (begun new : List Entry) → IsWant e → WriteIsUnderWay me file page begun new → WriteIsTurnedAway u me file page e begun new
want-turned u me file page (error.JournalFull entries) begun new want is = (refl, given-up u me (call.NcWrite file page) (file_page file page) (error.JournalFull entries) begun new refl refl (at-work me (call.NcWrite file page) begun new is.way))
want-turned u me file page error.NoMemory begun new want is = (refl, no-memory me (call.NcWrite file page) begun new refl refl is.way)
want-turned u me file page other begun new want is = absurd want

pub writing-grown : (w : Standing) (file : File) (page : ℕ) (begun seen : List Entry) → Grows w seen → WriteIsUnderWay w.number file page begun w.seen → WriteIsUnderWay w.number file page begun seen
writing-grown w file page begun seen grows is = record {
  way = under-way w.number (call.NcWrite file page) begun seen (on (Calls (call.NcWrite file page)) (at-work w.number (call.NcWrite file page) begun w.seen is.way));
  stores = λ bytes. on (Calls (call.NcStore file page bytes)) (is.stores bytes);
}
  where
    on : (work : Work) → IsAtWork w.number work begun w.seen → IsAtWork w.number work begun seen
    on work it = subst (λ (past : List Entry). IsAtWork w.number work begun past) (sym grows.grew) (work-grown w.number work begun w.seen grows.later grows.others it)

-- what the writing of the page leaves, where it was ready and its log is flushed
pub put-page-left : (u : Setup) (w : Standing) (file : File) (page : ℕ) (bytes : List ℕ) (answer : Result ℕ CcError) (begun seen : List Entry) → WriteIsUnderWay w.number file page begun w.seen → ReadyWriteLeft w file page bytes answer begun seen → WriteOfPageLeft u w.number file page bytes answer begun seen
put-page-left u w file page bytes (Ok count) begun seen is left = left
put-page-left u w file page bytes (Err e) begun seen is left =
    ⊎_elim (λ unstored. inl (want-turned u w.number file page e begun seen unstored.1 (writing-grown w file page begun seen unstored.0 is))) (λ refused. inr refused) left

-- After the flush of the page's log.
module _ {D : Type 0} (told : D → Option Disk) (faults : D → ℕ) (n : ℕ) (w x : Standing) (file : File) (page : ℕ) (b : BookState) (disk : D)
    (both : HasBoth told faults w file.stream b disk) (ready : IsReadyAfter w file page) (went : WentWith n w x) (has : HasBook x file.stream b)
    (flushed : Result LogFlush CcError) (left : FlushLeft w (file_page file page) flushed x.seen) where
  abbrev it : Call
  it = call.NcWrite file page

  abbrev its : Page
  its = file_page file page

  held : HoldsBoth w file.stream
  held = holds_both w file.stream b both.book both.rest.device

  same : history x.seen file.stream ≡ history w.seen file.stream
  same = flush-history w its flushed x.seen held left

  setup : x.setup ≡ w.setup
  setup = ap (λ (y : Standing). y.setup) went.same

  stamped : is_unstamped (history w.seen file.stream) page ≡ false
  stamped = stamped-page w.setup w.seen (history w.seen file.stream) file page ready.admitted

  pub both-after : HasBoth told faults x file.stream b disk
  both-after = both-flushed told faults n w x its b disk both went has flushed left

  pub ready-after : IsReadyAfter x file page
  ready-after = record {
    here = refl;
    admitted = subst (λ (u : Setup). refusal u x.seen (history x.seen file.stream) it ≡ None) (sym setup)
        (refusal-history w.setup w.seen x.seen file page file.stream same ready.admitted);
    in_quota = rw same ready.in_quota;
  }

  -- the page's log may be flushed for the write, and for its store
  reached : reaches it its w.seen ≡ true
  reached =
      and_from (file.stream == file.stream) _ (eq-eqb file.stream file.stream refl)
      (stores-page page (size_of (history w.seen file.stream)) (below-size w.setup w.seen (history w.seen file.stream) file page ready.admitted))

  admitted-write : is_admitted it file.stream w.seen ≡ true
  admitted-write = admitted w.setup w.seen file.stream it ready.admitted

  stores-write : stores (Calls it) its w.seen ≡ true
  stores-write = and_from (is_admitted it file.stream w.seen) _ admitted-write reached

  stores-bytes : (bytes : List ℕ) → stores (Calls (call.NcStore file page bytes)) its w.seen ≡ true
  stores-bytes bytes = rw (store-step_refusal (history w.seen file.stream) file page bytes) stores-write

  asked : (work : Work) → stores work its w.seen ≡ true → (may_write work its w.seen || stores work its w.seen) ≡ true
  asked work is = or_right (may_write work its w.seen) (stores work its w.seen) is

  pub reached-after : (begun : List Entry) → WriteIsUnderWay w.number file page begun w.seen → ReachedBy w its x.seen → WriteIsUnderWay x.number file page begun x.seen
  reached-after begun is found =
      subst (λ (m : ℕ). WriteIsUnderWay m file page begun x.seen) (sym (went-number n w x went))
      (record {
        way = under-way w.number it begun x.seen
            (work-reached w its held stamped (Calls it) begun (asked (Calls it) stores-write) (at-work w.number it begun w.seen is.way) x.seen found);
        stores = λ bytes.
            work-reached w its held stamped (Calls (call.NcStore file page bytes)) begun (asked (Calls (call.NcStore file page bytes)) (stores-bytes bytes)) (is.stores bytes) x.seen found;
      })

  -- and then the page was put on the disk, or was not stored
  pub put-left-since : (bytes : List ℕ) (answer : Result ℕ CcError) (begun seen : List Entry) → WriteIsUnderWay w.number file page begun w.seen → ReachedBy w its x.seen → ((begun : List Entry) → IsAtWork x.number (Calls (call.NcStore file page bytes)) begun x.seen → ReadyWriteLeft x file page bytes answer begun seen) → WriteOfPageLeft w.setup w.number file page bytes answer begun seen
  put-left-since bytes answer begun seen is found put =
      let there = reached-after begun is found in
      subst (λ (m : ℕ). WriteOfPageLeft w.setup m file page bytes answer begun seen) (went-number n w x went)
      (put-page-left w.setup x file page bytes answer begun seen there (put begun (there.stores bytes)))

  -- there was no room, or no memory
  pub turned-after : (bytes : List ℕ) (begun : List Entry) → WriteIsUnderWay w.number file page begun w.seen → (e : CcError) → flushed ≡ Err e → WriteOfPageLeft w.setup w.number file page bytes (Err e) begun x.seen
  turned-after bytes begun is e err =
      let there = subst (λ (r : Result LogFlush CcError). FlushLeft w its r x.seen) err left in
      inl (want-turned w.setup w.number file page e begun x.seen there.1 (writing-grown w file page begun x.seen there.0 is))

  -- the log failed, and halted the write
  pub halted-after : (handle told_as : ℕ) → told_as ≡ handle → flushed ≡ Ok (flush.Failed handle) → (begun : List Entry) → IsUnderWay w.number it begun w.seen → IsHalted x.setup x.number file.stream it (error.LogFault told_as) begun x.seen
  halted-after handle told_as told_is failed begun way =
      let there = subst (λ (r : Result LogFlush CcError). FlushLeft w its r x.seen) failed left in
      let fault : WorkHasFailed w.number (Calls it) (LogFailed handle) w.seen x.seen =
      work-unlogged w its held stamped (Calls it) w.seen (asked (Calls it) stores-write) (at-work w.number it w.seen w.seen (begins w.number it w.seen)) handle there.0 x.seen there.1 in
      subst (λ (m : ℕ). IsHalted x.setup m file.stream it (error.LogFault told_as) begun x.seen) (sym (went-number n w x went))
      (subst (λ (u : Setup). IsHalted u w.number file.stream it (error.LogFault told_as) begun x.seen) (sym setup)
      (halted-since w.setup w.number file.stream it (error.LogFault told_as) (LogFailed handle) begun w.seen x.seen way ready.admitted (tells-log it told_as handle told_is) fault))

  -- so the write fails, with the fault or with a refusal that others brought about
  pub failed-left : (bytes : List ℕ) (handle told_as : ℕ) → told_as ≡ handle → flushed ≡ Ok (flush.Failed handle) → (s : ℕ) → s ≡ file.stream → (e : CcError) (seen begun : List Entry) → WriteIsUnderWay w.number file page begun w.seen → ((begun : List Entry) → IsHalted x.setup x.number s it (error.LogFault told_as) begun x.seen → CallLeft x.setup x.number it (outcome.Failed e) begun seen) → IsCallReason x.setup s it e → WriteOfPageLeft w.setup w.number file page bytes (Err e) begun seen
  failed-left bytes handle told_as told_is failed s here e seen begun is ended reason =
      inl (
        unshaped x.setup s it e tt reason,
        subst (λ (m : ℕ). CallLeft w.setup m it (outcome.Failed e) begun seen) (went-number n w x went)
            (subst (λ (u : Setup). CallLeft u x.number it (outcome.Failed e) begun seen) setup
            (ended begun (subst (λ (m : ℕ). IsHalted x.setup x.number m it (error.LogFault told_as) begun x.seen) (sym here) (halted-after handle told_as told_is failed begun is.way)))),
      )

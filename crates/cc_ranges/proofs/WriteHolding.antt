-- The write of a page with the disk and the book of its stream in hand: its rounds, and how they go on.
use Rattle.std.specs.Prelude.{◌≡◌, ℕ, ◌<◌, Bool, true, Result, Ok, Err, IfErr, IfOk, List, refl}
use Rattle.std.specs.declared.option.Option.{Option}
use Rattle.std.proofs.Common.{ap, sym, ◌∙◌, subst, inl}
use Rattle.cc_entry.specs.Place.{File, Page}
use Rattle.cc_entry.specs.declared.call.Call.{Call}
use Rattle.cc_entry.specs.declared.call.Call.TheVariants as call
use Rattle.cc_entry.specs.declared.entry.Entry.{Entry}
use Rattle.cc_entry.specs.declared.error.CcError.{CcError}
use Rattle.cc_traits.specs.Disk.{Disk}
use Rattle.cc_book.specs.Book.{BookState}
use Rattle.cc_effects.specs.Asked.{Calls, asks_write, is_in_the_way, may_write}
use Rattle.cc_effects.specs.Calls.{IsUnderWay}
use Rattle.cc_model.specs.History.{history}
use Rattle.cc_model.specs.Setup.{Setup}
use Rattle.cc_turns.specs.Standing.{Standing}
use Rattle.cc_writes.specs.Hands.{Went, WentWith}
use Rattle.cc_writes.specs.Ways.{IsAtWork, IsCallReason}
use Rattle.cc_writes.specs.Calls.{KeepsWork, MayFaultInWriting, PageStepLeft}
use Rattle.cc_writes.specs.Writes.{HasBoth}
use Rattle.cc_effects.proofs.Starts.{begins}
use Rattle.cc_writes.proofs.Halting.{at-work}
use Rattle.cc_writes.proofs.OneVisit.{went-then}
use Rattle.cc_writes.proofs.Works.{either}
use Rattle.cc_writes.specs.Rounds.{course_of, IsNearer as CallIsNearer}
use Rattle.cc_writes.specs.declared.keeping.Rounds.{Rounds}
use Rattle.cc_ranges.specs.WriteHeld.{WriteIsNearer, WriteRoundLeft, write_round_of, WriteOfPageLeft as PageLeftBy}
use Rattle.cc_ranges.specs.WriteVisits.{WriteIsTurnedAway, WriteIsUnderWay}
use Rattle.cc_ranges.specs.declared.write_held.Round.{Round}
use Rattle.cc_ranges.proofs.Goods.{store-step_refusal}
use Rattle.cc_ranges.proofs.Misshapen.{unshaped}
use Rattle.cc_ranges.specs.ReadVisits.{file_page}

-- the write of a page begins
pub begins-writing : (me : ℕ) (file : File) (page : ℕ) (seen : List Entry) → WriteIsUnderWay me file page seen seen
begins-writing me file page seen = record {
  way = begins me (call.NcWrite file page) seen;
  stores = λ bytes. at-work me (call.NcStore file page bytes) seen seen (begins me (call.NcStore file page bytes) seen);
}

-- a page in the way may be written for the write, and for its store
pub may-fault : (file : File) (page : ℕ) → MayFaultInWriting (call.NcWrite file page)
may-fault file page = record { disk = λ other. refl; log = λ handle. refl }

pub way-asked : (it : Call) (page : Page) (past : List Entry) → is_in_the_way it page past ≡ true → may_write (Calls it) page past ≡ true
way-asked it page past way = either (is_in_the_way it page past) (asks_write it page past) way

-- a page in the way of the write is in the way of its store
pub store-way : (file : File) (page : ℕ) (bytes : List ℕ) (other : Page) (past : List Entry) → is_in_the_way (call.NcWrite file page) other past ≡ true → is_in_the_way (call.NcStore file page bytes) other past ≡ true
store-way file page bytes other past way = rw (store-step_refusal (history past other.stream) file page bytes) way

-- a page was written for it, or it failed
module _ (w v : Standing) (file : File) (page dirty s : ℕ) (seen : List Entry) (here : s ≡ file.stream) (went : Went w v)
    (way : is_in_the_way (call.NcWrite file page) (file_page file dirty) v.seen ≡ true) where
  abbrev it : Call
  it = call.NcWrite file page

  number : v.number ≡ w.number
  number = ap (λ (x : Standing). x.number) went.same

  setup : v.setup ≡ w.setup
  setup = ap (λ (x : Standing). x.setup) went.same

  stored-on : (bytes : List ℕ) (begun : List Entry) → KeepsWork v (record { stream = s; page = dirty }) seen → IsAtWork w.number (Calls (call.NcStore file page bytes)) begun v.seen → IsAtWork w.number (Calls (call.NcStore file page bytes)) begun seen
  stored-on bytes begun keeps is =
      subst (λ (n : ℕ). IsAtWork n (Calls (call.NcStore file page bytes)) begun seen) number
      (keeps (Calls (call.NcStore file page bytes)) begun
      (subst (λ (n : ℕ). may_write (Calls (call.NcStore file page bytes)) (record { stream = n; page = dirty }) v.seen ≡ true) (sym here)
      (way-asked (call.NcStore file page bytes) (file_page file dirty) v.seen (store-way file page bytes (file_page file dirty) v.seen way)))
      (subst (λ (n : ℕ). IsAtWork n (Calls (call.NcStore file page bytes)) begun v.seen) (sym number) is))

  pub round-wrote : (r : Result Call CcError) → ((begun : List Entry) → IsUnderWay v.number it begun v.seen → PageStepLeft v.setup v.number it r begun seen) → IfErr r (IsCallReason v.setup s it) → IfOk r (λ again. KeepsWork v (record { stream = s; page = dirty }) seen) → (begun : List Entry) → WriteIsUnderWay w.number file page begun v.seen → WriteRoundLeft w.setup w.number file page (write_round_of r) begun seen
  round-wrote (Ok again) left reason keeps begun is = record {
    way = subst (λ (n : ℕ). IsUnderWay n it begun seen) number (left begun (subst (λ (n : ℕ). IsUnderWay n it begun v.seen) (sym number) is.way)).1;
    stores = λ bytes. stored-on bytes begun keeps (is.stores bytes);
  }
  round-wrote (Err e) left reason keeps begun is =
      subst (λ (n : ℕ). WriteIsTurnedAway w.setup n file page e begun seen) number
      (subst (λ (u : Setup). WriteIsTurnedAway u v.number file page e begun seen) setup
      (unshaped v.setup s it e tt reason, left begun (subst (λ (n : ℕ). IsUnderWay n it begun v.seen) (sym number) is.way)))

-- where a page was written for it, it is nearer to being ready
pub near-round : (file : File) (page : ℕ) (r : Result Call CcError) (was now : Rounds) (old new : List Entry) → CallIsNearer file.stream (call.NcWrite file page) (course_of r) was now old new → WriteIsNearer file page (write_round_of r) was now old new
near-round file page (Ok again) was now old new near = near
near-round file page (Err e) was now old new near = tt

-- How the rounds go on: what is in hand stands, and a write that was under way as they began is still.
pub record ComesOn {D : Type 0} (told : D → Option Disk) (faults : D → ℕ) (w v : Standing) (file : File) (page : ℕ) (b : BookState) (disk : D)
    : Type 0 where
  pub stream : b.stream ≡ file.stream
  pub known : b.stream < v.streams
  pub both : HasBoth told faults v b.stream b disk
  pub none : v.in_flight ≡ 0
  pub went : Went w v
  pub left : (begun : List Entry) → WriteIsUnderWay w.number file page begun w.seen → WriteIsUnderWay w.number file page begun v.seen

module _ {D : Type 0} (told : D → Option Disk) (faults : D → ℕ) (w v x : Standing) (file : File) (page : ℕ) (b c : BookState) (disk now : D)
    (on : ComesOn told faults w v file page b disk) where
  number_on : v.number ≡ w.number
  number_on = ap (λ (y : Standing). y.number) on.went.same

  setup_on : v.setup ≡ w.setup
  setup_on = ap (λ (y : Standing). y.setup) on.went.same

  way_on : (begun : List Entry) → WriteIsUnderWay w.number file page begun w.seen → WriteIsUnderWay v.number file page begun v.seen
  way_on begun is = subst (λ (n : ℕ). WriteIsUnderWay n file page begun v.seen) (sym number_on) (on.left begun is)

  -- what a round left of it
  pub round-on : (came : Round) → ((begun : List Entry) → WriteIsUnderWay v.number file page begun v.seen → WriteRoundLeft v.setup v.number file page came begun x.seen) → (begun : List Entry) → WriteIsUnderWay w.number file page begun w.seen → WriteRoundLeft w.setup w.number file page came begun x.seen
  round-on came left begun is =
      subst (λ (n : ℕ). WriteRoundLeft w.setup n file page came begun x.seen) number_on
      (subst (λ (u : Setup). WriteRoundLeft u v.number file page came begun x.seen) setup_on (left begun (way_on begun is)))

  pub went-on : Went v x → Went w x
  went-on went = subst (λ (n : ℕ). WentWith n w x) (ap (λ (y : Standing). y.in_flight) on.went.same) (went-then w.in_flight v.in_flight w v x on.went went)

  pub comes-on : HasBoth told faults x b.stream c now → Went v x → ((begun : List Entry) → WriteIsUnderWay w.number file page begun w.seen → WriteIsUnderWay w.number file page begun x.seen) → ComesOn told faults w x file page c now
  comes-on both went left = record {
    stream = both.book.stream ∙ on.stream;
    known = subst (λ (n : ℕ). n < x.streams) (sym both.book.stream) (subst (λ (n : ℕ). b.stream < n) (sym (ap (λ (y : Standing). y.streams) went.same)) on.known);
    both = subst (λ (n : ℕ). HasBoth told faults x n c now) (sym both.book.stream) both;
    none = ap (λ (y : Standing). y.in_flight) went.same ∙ on.none;
    went = went-on went;
    left = left;
  }

-- The page is ready, and what the rest leaves the write leaves; or it was turned away.
pub ready-left : (w x : Standing) (file : File) (page : ℕ) (bytes : List ℕ) (answer : Result ℕ CcError) (begun seen : List Entry) → Went w x → WriteIsUnderWay w.number file page begun x.seen → ((begun : List Entry) → WriteIsUnderWay x.number file page begun x.seen → PageLeftBy x.setup x.number file page bytes answer begun seen) → PageLeftBy w.setup w.number file page bytes answer begun seen
ready-left w x file page bytes answer begun seen went is left =
    subst (λ (n : ℕ). PageLeftBy w.setup n file page bytes answer begun seen) (ap (λ (y : Standing). y.number) went.same)
    (subst (λ (u : Setup). PageLeftBy u x.number file page bytes answer begun seen) (ap (λ (y : Standing). y.setup) went.same)
    (left begun (subst (λ (n : ℕ). WriteIsUnderWay n file page begun x.seen) (sym (ap (λ (y : Standing). y.number) went.same)) is)))

pub turned-left : (u : Setup) (me : ℕ) (file : File) (page : ℕ) (bytes : List ℕ) (e : CcError) (begun seen : List Entry) → WriteIsTurnedAway u me file page e begun seen → PageLeftBy u me file page bytes (Err e) begun seen
turned-left u me file page bytes e begun seen turned = inl turned

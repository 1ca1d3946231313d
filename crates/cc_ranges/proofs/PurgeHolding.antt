-- A purge with the disk and the book of its stream in hand: its rounds, and how they go on.
use Rattle.std.specs.Prelude.{◌≡◌, ℕ, ◌<◌, ◌≤◌, ◌^◌, Bool, true, ◌==◌, Result, Ok, Err, Some, None, List, refl}
use Rattle.std.specs.declared.option.Option.{Option}
use Rattle.std.proofs.Common.{ap, sym, ◌∙◌, subst, arith}
use Rattle.std.proofs.lemmas.Bool.{and_from, eq-eqb}
use Rattle.cc_entry.specs.Place.{File, Range}
use Rattle.cc_entry.specs.declared.call.Call.{Call}
use Rattle.cc_entry.specs.declared.call.Call.TheVariants as call
use Rattle.cc_entry.specs.declared.entry.Entry.{Entry}
use Rattle.cc_entry.specs.declared.error.CcError.{CcError}
use Rattle.cc_entry.specs.declared.reply.Outcome.{Outcome}
use Rattle.cc_traits.specs.Disk.{Disk}
use Rattle.cc_book.specs.Book.{BookState}
use Rattle.cc_effects.specs.Asked.{Calls, is_admitted, may_write}
use Rattle.cc_effects.specs.Calls.{CallLeft, IsUnderWay}
use Rattle.cc_model.specs.Ranges.{span_has}
use Rattle.cc_model.specs.Setup.{Setup}
use Rattle.cc_turns.specs.Standing.{Standing}
use Rattle.cc_writes.specs.Hands.{Went, WentWith}
use Rattle.cc_writes.specs.Calls.{IsFullWriting, MayFaultInWriting, PageStepLeft}
use Rattle.cc_writes.specs.Writes.{HasBoth}
use Rattle.cc_writes.proofs.OneVisit.{went-then}
use Rattle.cc_ranges.specs.Flush.{outcome_of}
use Rattle.cc_writes.specs.Alone.{NobodyElseChanged}
use Rattle.cc_ranges.specs.Purge.{PurgeRoundLeft, RoundPlaced, IsFullPurgeRound, WentUpOnce, ended_of, purge_round_of}
use Rattle.cc_ranges.specs.declared.purge.Round.{Round}
use Rattle.cc_ranges.specs.declared.purge.Round.TheVariants as round

-- a purge may answer each fault of the writing of a page
pub may-fault : (file : File) (span : Option Range) → MayFaultInWriting (call.Purge file span)
may-fault file span = record { disk = λ page. refl; log = λ handle. refl }

-- a page of its span may be written for it, where nothing refuses it
pub asks-page : (file : File) (span : Option Range) (s page : ℕ) (past : List Entry) → is_admitted (call.Purge file span) s past ≡ true → s ≡ file.stream → span_has span page ≡ true → may_write (Calls (call.Purge file span)) (record { stream = s; page = page }) past ≡ true
asks-page file span s page past admitted here has =
    and_from (is_admitted (call.Purge file span) s past) _ admitted (and_from (file.stream == s) (span_has span page) (eq-eqb file.stream s (sym here)) has)

-- a page was written for it, or it failed
round-left : (u : Setup) (me : ℕ) (file : File) (span : Option Range) (page : ℕ) (written : Result Call CcError) (begun new : List Entry) → PageStepLeft u me (call.Purge file span) written begun new → PurgeRoundLeft u me file span (purge_round_of written page) begun new
round-left u me file span page (Ok again) begun new left = left.1
round-left u me file span page (Err e) begun new left = left

-- a round that wrote a page found no room as that did
pub full-round : (it : Call) (w : Standing) (page : ℕ) (written : Result Call CcError) → IsFullWriting it w written → IsFullPurgeRound it w (purge_round_of written page)
full-round it w page (Ok again) full = tt
full-round it w page (Err e) full = full

-- the same where the pass is said to stand as it did before the step
pub round-wrote : (w v : Standing) (file : File) (span : Option Range) (page : ℕ) (written : Result Call CcError) (new : List Entry) → Went w v → ((begun : List Entry) → IsUnderWay v.number (call.Purge file span) begun v.seen → PageStepLeft v.setup v.number (call.Purge file span) written begun new) → (begun : List Entry) → IsUnderWay w.number (call.Purge file span) begun v.seen → PurgeRoundLeft w.setup w.number file span (purge_round_of written page) begun new
round-wrote w v file span page written new went left begun way =
    round-left w.setup w.number file span page written begun new
    (subst (λ (m : ℕ). PageStepLeft w.setup m (call.Purge file span) written begun new) number
    (subst (λ (u : Setup). PageStepLeft u v.number (call.Purge file span) written begun new) (ap (λ (x : Standing). x.setup) went.same)
    (left begun (subst (λ (m : ℕ). IsUnderWay m (call.Purge file span) begun v.seen) (sym number) way))))
  where
    number : v.number ≡ w.number
    number = ap (λ (x : Standing). x.number) went.same

-- a round that did not end the purge left it under way
pub still-left : (u : Setup) (me : ℕ) (file : File) (span : Option Range) (came : Round) (begun new : List Entry) → ended_of came ≡ None → PurgeRoundLeft u me file span came begun new → IsUnderWay me (call.Purge file span) begun new
still-left u me file span (round.Ended answer) begun new none left = absurd (cc)
still-left u me file span (round.CameTo to) begun new none left = left
still-left u me file span round.GoesOn begun new none left = left

-- one that ended it left what it answers
pub ended-left : (u : Setup) (me : ℕ) (file : File) (span : Option Range) (came : Round) (answer : Result (Unit {0}) CcError) (begun new : List Entry) → ended_of came ≡ Some answer → PurgeRoundLeft u me file span came begun new → CallLeft u me (call.Purge file span) (outcome_of answer) begun new
ended-left u me file span (round.Ended other) answer begun new is left = subst (λ (a : Option (Result (Unit {0}) CcError)). Left a) is left
  where
    Left : Option (Result (Unit {0}) CcError) → Type 0
    Left (Some a) = CallLeft u me (call.Purge file span) (outcome_of a) begun new
    Left None = Unit {0}
ended-left u me file span (round.CameTo to) answer begun new is left = absurd (cc)
ended-left u me file span round.GoesOn answer begun new is left = absurd (cc)

pub ended-full : (it : Call) (w : Standing) (came : Round) (answer : Result (Unit {0}) CcError) → ended_of came ≡ Some answer → IsFullPurgeRound it w came → IsFullWriting it w answer
ended-full it w (round.Ended other) answer is full = subst (λ (a : Option (Result (Unit {0}) CcError)). Full a) is full
  where
    Full : Option (Result (Unit {0}) CcError) → Type 0
    Full (Some a) = IsFullWriting it w a
    Full None = Unit {0}
ended-full it w (round.CameTo to) answer is full = absurd (cc)
ended-full it w round.GoesOn answer is full = absurd (cc)

-- How the rounds go on: what is in hand stands, and a purge that was under way as they began is still.
pub record ComesOn {D : Type 0} (told : D → Option Disk) (faults : D → ℕ) (w v : Standing) (file : File) (span : Option Range)
    (from : ℕ) (b : BookState) (disk : D) : Type 0 where
  pub stream : b.stream ≡ file.stream
  pub known : b.stream < v.streams
  pub both : HasBoth told faults v b.stream b disk
  pub none : v.in_flight ≡ 0
  pub went : Went w v
  pub left : (begun : List Entry) → IsUnderWay w.number (call.Purge file span) begun w.seen → IsUnderWay w.number (call.Purge file span) begun v.seen
  pub within : from ≤ 2 ^ 51

-- they begin
pub comes-first : {D : Type 0} (told : D → Option Disk) (faults : D → ℕ) (w : Standing) (file : File) (span : Option Range) (b : BookState) (disk : D) → b.stream ≡ file.stream → b.stream < w.streams → HasBoth told faults w b.stream b disk → w.in_flight ≡ 0 → ComesOn told faults w w file span 0 b disk
comes-first told faults w file span b disk stream known both none = record {
  stream = stream;
  known = known;
  both = both;
  none = none;
  went = record { same = refl };
  left = λ begun way. way;
  within = omega arith;
}

-- The same on the way up the span: each page was written once so far.
pub record ComesOnUp {D : Type 0} (told : D → Option Disk) (faults : D → ℕ) (w v : Standing) (file : File) (span : Option Range)
    (from : ℕ) (b : BookState) (disk : D) : Type 0 where
  pub on : ComesOn told faults w v file span from b disk
  pub up : WentUpOnce w.number from w.seen v.seen

-- The same with the book kept: nobody else has changed the stream so far.
pub record ComesOnAlone {D : Type 0} (told : D → Option Disk) (faults : D → ℕ) (w v : Standing) (file : File) (span : Option Range)
    (b : BookState) (disk : D) : Type 0 where
  pub on : ComesOn told faults w v file span 0 b disk
  pub alone : NobodyElseChanged w.number file.stream w.seen v.seen

module _ {D : Type 0} (told : D → Option Disk) (faults : D → ℕ) (w v x : Standing) (file : File) (span : Option Range) (from : ℕ)
    (b c : BookState) (disk now : D) (on : ComesOn told faults w v file span from b disk) where
  number_on : v.number ≡ w.number
  number_on = ap (λ (y : Standing). y.number) on.went.same

  setup_on : v.setup ≡ w.setup
  setup_on = ap (λ (y : Standing). y.setup) on.went.same

  way_on : (begun : List Entry) → IsUnderWay w.number (call.Purge file span) begun w.seen → IsUnderWay v.number (call.Purge file span) begun v.seen
  way_on begun way = subst (λ (n : ℕ). IsUnderWay n (call.Purge file span) begun v.seen) (sym number_on) (on.left begun way)

  -- what a round left of it
  pub round-on : (came : Round) → ((begun : List Entry) → IsUnderWay v.number (call.Purge file span) begun v.seen → PurgeRoundLeft v.setup v.number file span came begun x.seen) → (begun : List Entry) → IsUnderWay w.number (call.Purge file span) begun w.seen → PurgeRoundLeft w.setup w.number file span came begun x.seen
  round-on came left begun way =
      subst (λ (n : ℕ). PurgeRoundLeft w.setup n file span came begun x.seen) number_on
      (subst (λ (u : Setup). PurgeRoundLeft u v.number file span came begun x.seen) setup_on (left begun (way_on begun way)))

  -- what it placed
  pub placed-on : (at : ℕ) (keeps : Bool) (came : Round) → RoundPlaced v.number b.stream at keeps came v.seen x.seen → RoundPlaced w.number file.stream at keeps came v.seen x.seen
  placed-on at keeps came placed =
      subst (λ (n : ℕ). RoundPlaced n file.stream at keeps came v.seen x.seen) number_on
      (subst (λ (n : ℕ). RoundPlaced v.number n at keeps came v.seen x.seen) on.stream placed)

  -- it goes on, from this page
  module _ (both : HasBoth told faults x b.stream c now) (went : Went v x) where
    pub comes-on : (to : ℕ) → to ≤ 2 ^ 51 → ((begun : List Entry) → IsUnderWay w.number (call.Purge file span) begun w.seen → IsUnderWay w.number (call.Purge file span) begun x.seen) → ComesOn told faults w x file span to c now
    comes-on to within left = record {
      stream = both.book.stream ∙ on.stream;
      known = subst (λ (n : ℕ). n < x.streams) (sym both.book.stream) (subst (λ (n : ℕ). b.stream < n) (sym (ap (λ (y : Standing). y.streams) went.same)) on.known);
      both = subst (λ (n : ℕ). HasBoth told faults x n c now) (sym both.book.stream) both;
      none = ap (λ (y : Standing). y.in_flight) went.same ∙ on.none;
      went = subst (λ (n : ℕ). WentWith n w x) flight (went-then w.in_flight v.in_flight w v x on.went went);
      left = left;
      within = within;
    }
      where
        flight : v.in_flight ≡ w.in_flight
        flight = ap (λ (y : Standing). y.in_flight) on.went.same

  -- what is left of it since then is left since the rounds began
  pub ended-on : (ended : Outcome) (new : List Entry) → ((begun : List Entry) → IsUnderWay x.number (call.Purge file span) begun x.seen → CallLeft x.setup x.number (call.Purge file span) ended begun new) → Went v x → ((begun : List Entry) → IsUnderWay w.number (call.Purge file span) begun w.seen → IsUnderWay w.number (call.Purge file span) begun x.seen) → (begun : List Entry) → IsUnderWay w.number (call.Purge file span) begun w.seen → CallLeft w.setup w.number (call.Purge file span) ended begun new
  ended-on ended new left went still begun way =
      subst (λ (n : ℕ). CallLeft w.setup n (call.Purge file span) ended begun new) number
      (subst (λ (u : Setup). CallLeft u x.number (call.Purge file span) ended begun new) (ap (λ (y : Standing). y.setup) went.same ∙ setup_on)
      (left begun (subst (λ (n : ℕ). IsUnderWay n (call.Purge file span) begun x.seen) (sym number) (still begun way))))
    where
      number : x.number ≡ w.number
      number = ap (λ (y : Standing). y.number) went.same ∙ number_on

-- A tick as a whole: its scan, and then the pages that it picked.
use Rattle.std.specs.Prelude.{◌≡◌, ℕ, ◌⊎◌, true, List, [], ◌∷◌, ◌++◌, reverse, Result, Ok, Err, refl}
use Rattle.std.proofs.Common.{ap, sym, ◌∙◌, subst, inl, inr}
use Rattle.cc_entry.specs.Place.{Page}
use Rattle.cc_entry.specs.declared.answer.Tick.{Tick}
use Rattle.cc_entry.specs.declared.entry.Entry.{Entry}
use Rattle.cc_entry.specs.declared.entry.Entry.TheVariants as entry
use Rattle.cc_entry.specs.declared.error.CcError.{CcError}
use Rattle.cc_entry.specs.declared.error.CcError.TheVariants as error
use Rattle.cc_effects.specs.Asked.{Writes}
use Rattle.cc_effects.specs.Moments.{own}
use Rattle.cc_effects.specs.PageWrites.{BecameOfAll, HasScanned, HasTicked, TickLeft, are_in_order, pages_begun}
use Rattle.cc_effects.specs.Places.{Works}
use Rattle.cc_model.specs.Good.{IsGood}
use Rattle.cc_model.specs.Setup.{Setup}
use Rattle.cc_turns.specs.Standing.{Standing}
use Rattle.cc_turns.specs.Takes.{Grows}
use Rattle.cc_writes.specs.Fetch.{WentOn}
use Rattle.cc_writes.specs.Hands.{Went}
use Rattle.cc_writes.specs.Logs.{IsWant}
use Rattle.cc_writes.specs.Visits.{HasPlaced}
use Rattle.cc_writes.specs.Ways.{IsFull}
use Rattle.cc_calls.specs.Answers.{IsFree}
use Rattle.cc_calls.specs.Pages.{StaysGood}
use Rattle.cc_calls.specs.Ticks.{AllLeft, AreCutOff, ArePicked, AreWritten, IsFullAmong, IsFullTick, ScanLeft, TickEnds}
use Rattle.cc_calls.specs.declared.ticks.TickCounts.{TickCounts}
use Rattle.cc_calls.proofs.LogCalls.{idle-grows}

-- how a tick is answered that picked these pages and counted them so
abbrev pub ticked : List Page → TickCounts → Tick
ticked picked counts = record { picked = picked; written = counts.written; skipped = counts.skipped; failed = counts.failed }

-- the pass goes on behind the scan as it stood
pub can-after : (w x : Standing) → IsFree w → Went w x → IsFree x
can-after w x can went = record { free = ap (λ (y : Standing). y.held) went.same ∙ can.free; none = ap (λ (y : Standing). y.in_flight) went.same ∙ can.none }

pub picked-after : (w x : Standing) (pages : List Page) → Went w x → ArePicked w.streams pages → ArePicked x.streams pages
picked-after w x pages went picked = subst (λ (n : ℕ). ArePicked n pages) (sym (ap (λ (y : Standing). y.streams) went.same)) picked

goes-on : (w x z : Standing) → Went w x → WentOn x z → WentOn w z
goes-on w x z first second = record { same = second.same ∙ ap (λ (y : Standing). record y { seen = z.seen; others = z.others; device_turns = z.device_turns }) first.same }

went-on : (w x : Standing) → Went w x → WentOn w x
went-on w x went = record { same = went.same ∙ ap (λ (n : ℕ). record w { seen = x.seen; others = x.others; device_turns = n }) (sym (ap (λ (y : Standing). y.device_turns) went.same)) }

-- It was cut off before its scan.
pub tick-unscanned : (w x : Standing) (e : CcError) → Went w x → IsGood w.setup x.seen → ScanLeft w (Err e) x.seen → IsFull {A = List Page} 1 x (Err e) → TickEnds w x (Err e)
tick-unscanned w x e went good left full = record {
  left = cut e left.1;
  full = full-so e full;
  goes_on = went-on w x went;
  good = good;
}
  where
    cut : (e : CcError) → IsWant e → TickLeft w.number (Err e) w.seen x.seen
    cut (error.JournalFull entries) want = inl (idle-grows w x.seen left.0)
    cut error.NoMemory want = inl (idle-grows w x.seen left.0)
    cut other want = absurd want

    full-so : (e : CcError) → IsFull {A = List Page} 1 x (Err e) → IsFullTick w x (Err e)
    full-so (error.JournalFull entries) is = inl (idle-grows w x.seen left.0, is)
    full-so other is = tt

-- Behind its scan the pass wrote the pages that it picked.
seen-behind : (w : Standing) (picked : List Page) (seen : List Entry) (scan : HasPlaced w (entry.Scan w.number picked) seen) → seen ≡ entry.Scan w.number picked ∷ (scan.grows.later ++ w.seen)
seen-behind w picked seen scan = scan.placed ∙ ap (λ (past : List Entry). entry.Scan w.number picked ∷ past) scan.grows.grew

abbrev scanned-behind : (w : Standing) (picked : List Page) (seen new : List Entry) (scan : HasPlaced w (entry.Scan w.number picked) seen) (during : List Entry) → new ≡ during ++ seen → Works w.number (Writes picked) during seen → are_in_order (pages_begun (own w.number during)) (reverse picked) ≡ true → HasScanned w.number picked during w.seen new
scanned-behind w picked seen new scan during grew works in_order = record {
  before = scan.grows.later;
  grew = grew ∙ ap (λ (past : List Entry). during ++ past) (seen-behind w picked seen scan);
  quiet = scan.grows.others;
  works = subst (λ (past : List Entry). Works w.number (Writes picked) during past) (seen-behind w picked seen scan) works;
  in_order = in_order;
}

ticked-behind : (w : Standing) (picked : List Page) (counts : TickCounts) (seen new : List Entry) → HasPlaced w (entry.Scan w.number picked) seen → AreWritten w.number picked picked counts seen new → HasTicked w.number (ticked picked counts) w.seen new
ticked-behind w picked counts seen new scan all = record {
  during = all.during;
  scanned = scanned-behind w picked seen new scan all.during all.grew all.works all.in_order;
  memory = all.memory;
  once = all.once;
  ends = all.ends;
  became = subst (λ (past : List Entry). BecameOfAll w.number picked all.ends all.during past) (seen-behind w picked seen scan) all.became;
  written = all.written;
  skipped = all.skipped;
  failed = all.failed;
  by_logs = all.by_logs;
}

module _ (w x z : Standing) (picked : List Page) (went : Went w x) (scan : HasPlaced w (entry.Scan w.number picked) x.seen)
    (goes : WentOn x z) (good : IsGood w.setup x.seen) (stays : StaysGood x z) where
  setup_is : x.setup ≡ w.setup
  setup_is = ap (λ (y : Standing). y.setup) went.same

  good-still : IsGood w.setup z.seen
  good-still = subst (λ (u : Setup). IsGood u z.seen) setup_is (stays (subst (λ (u : Setup). IsGood u x.seen) (sym setup_is) good))

  number_is : x.number ≡ w.number
  number_is = ap (λ (y : Standing). y.number) went.same

  pub tick-counted : (counts : TickCounts) → AllLeft x.number picked (Ok counts) x.seen z.seen → TickEnds w z (Ok (ticked picked counts))
  tick-counted counts left = record {
    left = ticked-behind w picked counts x.seen z.seen scan (subst (λ (n : ℕ). AreWritten n picked picked counts x.seen z.seen) number_is left);
    full = tt;
    goes_on = goes-on w x z went goes;
    good = good-still;
  }

  -- or was cut off
  pub tick-cut : (e : CcError) → AllLeft x.number picked (Err e) x.seen z.seen → IsFullAmong picked z (Err e) → TickEnds w z (Err e)
  tick-cut e left full = record { left = cut e here here.want; full = full-so e full; goes_on = goes-on w x z went goes; good = good-still }
    where
      here : AreCutOff w.number picked e x.seen z.seen
      here = subst (λ (n : ℕ). AreCutOff n picked e x.seen z.seen) number_is left

      cut : (e : CcError) → AreCutOff w.number picked e x.seen z.seen → IsWant e → TickLeft w.number (Err e) w.seen z.seen
      cut (error.JournalFull entries) is want = inr (picked, is.during, scanned-behind w picked x.seen z.seen scan is.during is.grew is.works is.in_order, is.so)
      cut error.NoMemory is want = inr (picked, is.during, scanned-behind w picked x.seen z.seen scan is.during is.grew is.works is.in_order, is.so)
      cut other is want = absurd want

      full-so : (e : CcError) → IsFullAmong picked z (Err e) → IsFullTick w z (Err e)
      full-so (error.JournalFull entries) is = inr (
        record {
          picked = picked;
          during = here.during;
          scanned = scanned-behind w picked x.seen z.seen scan here.during here.grew here.works here.in_order;
          page = is.0.0;
          among = is.0.1;
          to_write = is.0.2;
        },
        is.1,
      )
      full-so other is = tt

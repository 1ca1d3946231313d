-- How far a flush came, while others go on, and as it writes a page.
use Rattle.std.specs.Prelude.{◌≡◌, ℕ, suc, ◌≤◌, false, List, ◌++◌, length, None}
use Rattle.std.specs.declared.option.Option.{Option}
use Rattle.std.proofs.Common.{sym, subst, arith}
use Rattle.cc_entry.specs.Place.{File, Range}
use Rattle.cc_entry.specs.declared.call.Call.TheVariants as call
use Rattle.cc_entry.specs.declared.entry.End.TheVariants as how
use Rattle.cc_entry.specs.declared.entry.Entry.{Entry}
use Rattle.cc_effects.specs.Calls.{IsUnderWay}
use Rattle.cc_effects.specs.Moments.{IsIdle}
use Rattle.cc_model.specs.History.{history}
use Rattle.cc_model.specs.Refusals.{refusal}
use Rattle.cc_model.specs.Setup.{Setup}
use Rattle.cc_model.specs.Stamps.{is_unstamped}
use Rattle.cc_turns.specs.Standing.{Standing}
use Rattle.cc_writes.proofs.Others.{under_way-on}
use Rattle.cc_writes.specs.Writes.{HasTransferred}
use Rattle.cc_ranges.specs.Dirty.{IsNext, IsCleanFrom}
use Rattle.cc_ranges.specs.Flush.{IsFlushing, FlushIsAtPage, IsAtSync}
use Rattle.cc_ranges.specs.Settled.{IsSettledTo}
use Rattle.cc_ranges.proofs.Settling.{history-longer, settled_to-later, settled_to-clean, settled_all-clean, settled_to-transferred}

-- a stream has no fewer effects where the journal grew
pub effects-grown : (begun now during : List Entry) (s : ℕ) → now ≡ during ++ begun → length (history begun s) ≤ length (history now s)
effects-grown begun now during s grew =
    subst (λ (past : List Entry). length (history begun s) ≤ length (history past s)) (sym grew) (history-longer during begun s)

module _ (me : ℕ) (file : File) (span : Option Range) (begun : List Entry) where
  -- it begins
  pub flushing-begins : (new : List Entry) → IsUnderWay me (call.Flush file span) begun new → IsFlushing me file span 0 begun new
  flushing-begins new way = record { way = way; settled = λ p below has. absurd (omega (arith, below)) }

  -- others go on
  pub flushing-on : (to : ℕ) (old new : List Entry) → IsFlushing me file span to begun old → IsIdle me old new → IsFlushing me file span to begun new
  flushing-on to old new is idle = record {
    way = under_way-on me (call.Flush file span) begun old new is.way idle;
    settled = subst (λ (past : List Entry). IsSettledTo to (length (history begun file.stream)) (history past file.stream) span) (sym idle.grew)
        (settled_to-later to (length (history begun file.stream)) idle.during old file.stream span (effects-grown begun old is.way.during file.stream is.way.grew) is.settled);
  }

  -- the next page of the span is to be written, or none is left
  pub at-page : (u : Setup) (from page : ℕ) (new : List Entry) → IsFlushing me file span from begun new → refusal u new (history new file.stream) (call.Flush file span) ≡ None → IsNext (history new file.stream) span from page → is_unstamped (history new file.stream) page ≡ false → FlushIsAtPage u me file span page begun new
  at-page u from page new is admitted next stamped = record {
    flushing = record {
      way = is.way;
      settled = settled_to-clean from page (length (history begun file.stream)) (history new file.stream) span is.settled next.between;
    };
    admitted = admitted;
    in_span = next.in_span;
    to_write = record { dirty = next.dirty; stamped = stamped };
  }

  pub at-sync : (u : Setup) (from : ℕ) (new : List Entry) → IsFlushing me file span from begun new → refusal u new (history new file.stream) (call.Flush file span) ≡ None → IsCleanFrom (history new file.stream) span from → IsAtSync u me file span begun new
  at-sync u from new is admitted clean = record {
    way = is.way;
    settled = settled_all-clean from (length (history begun file.stream)) (history new file.stream) span is.settled clean;
    admitted = admitted;
  }

-- the page was written well
pub page-written : (u : Setup) (w : Standing) (file : File) (span : Option Range) (page : ℕ) (begun new : List Entry) → FlushIsAtPage u w.number file span page begun w.seen → IsUnderWay w.number (call.Flush file span) begun new → HasTransferred w (record { stream = file.stream; page = page }) how.Good false new → IsFlushing w.number file span (suc page) begun new
page-written u w file span page begun new at way written = record {
  way = way;
  settled = subst (λ (past : List Entry). IsSettledTo (suc page) seen (history past s) span) (sym written.placed)
      (settled_to-transferred page seen w.number s span written.later written.before (within at_begin) settled);
}
  where
    s : ℕ
    s = file.stream

    seen : ℕ
    seen = length (history begun s)

    at_begin : length (history w.seen s) ≤ length (history written.before s)
    at_begin = effects-grown w.seen written.before written.is_before.since s written.is_before.grew

    at_seen : seen ≤ length (history w.seen s)
    at_seen = effects-grown begun w.seen at.flushing.way.during s at.flushing.way.grew

    within : length (history w.seen s) ≤ length (history written.before s) → seen ≤ length (history written.before s)
    within more = omega (arith, more, at_seen)

    settled : IsSettledTo page seen (history written.before s) span
    settled = subst (λ (past : List Entry). IsSettledTo page seen (history past s) span) (sym written.is_before.grew)
        (settled_to-later page seen written.is_before.since w.seen s span at_seen at.flushing.settled)

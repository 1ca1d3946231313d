-- The end of a repin: the hold is ended, and with write through its range is flushed.
use Rattle.std.specs.Prelude.{◌≡◌, ℕ, ◌+◌, ◌<◌, ◌^◌, Bool, true, false, ◌&&◌, List, ◌∷◌, ◌++◌, length, Contains, Result, Ok, Err, OnOk, refl}
use Rattle.std.specs.declared.option.Option.{Option}
use Rattle.std.specs.declared.option.Option.TheVariants.{Some}
use Rattle.std.proofs.Common.{ap, sym, ◌∙◌, inl, subst, arith, append_assoc}
use Rattle.std.proofs.lemmas.Bool.{eq-eqb}
use Rattle.cc_entry.specs.Place.{File, Page, Range}
use Rattle.cc_entry.specs.declared.call.Call.TheVariants as call
use Rattle.cc_entry.specs.declared.entry.End.TheVariants as how
use Rattle.cc_entry.specs.declared.entry.Entry.{Entry}
use Rattle.cc_entry.specs.declared.entry.Entry.TheVariants as entry
use Rattle.cc_entry.specs.declared.error.CcError.{CcError}
use Rattle.cc_entry.specs.declared.hold.HoldKind.{HoldKind}
use Rattle.cc_entry.specs.declared.reply.Outcome.TheVariants as outcome
use Rattle.cc_entry.specs.declared.reply.Reply.TheVariants as reply
use Rattle.cc_calls.specs.Answers.{outcome_of}
use Rattle.cc_calls.specs.Flushes.{FlushEnds, IsDurable}
use Rattle.cc_effects.specs.Asked.{Calls, is_admitted, may_write}
use Rattle.cc_effects.specs.Calls.{CallLeft}
use Rattle.cc_effects.specs.Repins.{IsHoldEnded}
use Rattle.cc_ranges.specs.Crash.{IsKeptSince}
use Rattle.cc_ranges.proofs.Settling.{history-longer, settled_since-fewer}
use Rattle.cc_laws.proofs.SoundFacts.{size_of-good}
use Rattle.cc_model.specs.Flushed.{settled_since}
use Rattle.cc_model.specs.Good.{IsGoodSoFar}
use Rattle.cc_model.specs.History.{history}
use Rattle.cc_model.specs.Holds.{hold_at, holds_of, range_held}
use Rattle.cc_model.specs.Images.{crash_pages, image}
use Rattle.cc_model.specs.Legal.{stream_history}
use Rattle.cc_model.specs.Ranges.{span_has}
use Rattle.cc_model.specs.Setup.{Setup}
use Rattle.cc_own.specs.Own.{HasHold}
use Rattle.cc_own.proofs.CallsKeep.{at-front, front-keeps, placed-here}
use Rattle.cc_own.proofs.HeldPages.{held-within}
use Rattle.cc_turns.specs.Standing.{Standing}
use Rattle.cc_effects.specs.Begins.{BeginsAscending, BeginsNone}
use Rattle.cc_effects.proofs.Begun.{ascend-none, ascend-then, none-behind, none-idle, none-then, none-works}
use Rattle.cc_writes.specs.Calls.{IsFullWriting}
use Rattle.cc_calls.specs.Held.{IsHolding, held_range}
use Rattle.cc_calls.specs.Ends.{HoldEnded, UnpinEnds}
use Rattle.cc_calls.specs.declared.held.Held.{Held}
use Rattle.cc_calls.proofs.Holding.{so-far}

-- what is durable from a moment of a call on is so from its beginning on
durable-since : (u : Setup) (me s : ℕ) (span : Option Range) (middle old new : List Entry) → IsDurable u me s span (middle ++ old) new → IsDurable u me s span old new
durable-since u me s span middle old new d = record {
  before = d.before ++ middle;
  after = d.after;
  synced = subst (λ (past : List Entry). new ≡ d.after ++ (entry.Sync me s how.Good ∷ past)) same d.synced;
  settled =
      subst (λ (past : List Entry). settled_since (length (history old s)) (history past s) span ≡ true) same
      (settled_since-fewer (length (history (middle ++ old) s)) (length (history old s)) (history (d.before ++ (middle ++ old)) s) span (history-longer middle old s) d.settled);
  kept =
      subst
      (λ (past : List Entry). (pages : ℕ → List ℕ) (later : List Entry) (p : ℕ) (bytes content : List ℕ) → IsGoodSoFar u (later ++ new) → span_has span p ≡ true → image pages (history past s) p ≡ Some bytes → Contains (crash_pages pages (history (later ++ new) s) p) content → IsKeptSince pages s p bytes (later ++ d.after) (entry.Sync me s how.Good ∷ past) content)
      same d.kept;
}
  where
    same : d.before ++ (middle ++ old) ≡ (d.before ++ middle) ++ old
    same = sym (append_assoc d.before middle old)

durable-answer : (u : Setup) (me s : ℕ) (span : Option Range) (middle old new : List Entry) (answer : Result (Unit {0}) CcError) → OnOk answer (IsDurable u me s span (middle ++ old) new) → OnOk answer (IsDurable u me s span old new)
durable-answer u me s span middle old new (Ok done) d = durable-since u me s span middle old new d
durable-answer u me s span middle old new (Err e) d = d

-- the end of a hold writes no page, so it begins no transfer
never-writes : (id : ℕ) (page : Page) (past : List Entry) → may_write (Calls (call.EndHold id)) page past ≡ false
never-writes id page past = by (is_admitted (call.EndHold id) page.stream past)
  where
    by : (b : Bool) → (b && false) ≡ false
    by true = refl
    by false = refl

begun-ended : (w v : Standing) (held : Held) → HoldEnded w v held → BeginsNone w.number w.seen v.seen
begun-ended w v held ended =
    let placed = ended.left.placed in
    let front = ended.left.earlier ++ w.seen in
    let last = entry.Call w.number placed.nth placed.stream (call.EndHold held.id) (outcome.Done reply.Unit) in
    subst (λ (past : List Entry). BeginsNone w.number w.seen past) (sym placed.grew)
    (none-then w.number w.seen (last ∷ front) (placed.later ++ (last ∷ front))
    (none-behind w.number last w.seen front refl
    (record { during = ended.left.earlier; grew = refl; none = none-works w.number (call.EndHold held.id) ended.left.earlier w.seen (never-writes held.id) placed.works.each }))
    (none-idle w.number (last ∷ front) (placed.later ++ (last ∷ front)) (record { during = placed.later; grew = refl; others = placed.quiet })))

-- and without write through that is all
pub unpinned-alone : (w v : Standing) (held : Held) → HoldEnded w v held → UnpinEnds w v held false (Ok tt)
unpinned-alone w v held ended = record {
  left = ended.left;
  full = inl tt;
  goes_on = record { same = same ∙ sym (ap (λ (y : Standing). record w { seen = v.seen; others = v.others; device_turns = y.device_turns }) same) };
  good = ended.good;
  ascending = ascend-none w.number 0 (2 ^ 51) w.seen v.seen (omega arith) (begun-ended w v held ended);
  sure = λ alone. refl;
  durable = λ through. absurd (cc);
}
  where
    same : v ≡ record w { seen = v.seen; others = v.others; in_flight = w.in_flight }
    same = ended.goes_on.same

module _ (w v : Standing) (of_kind : HoldKind → Bool) (held : Held) (h : IsHolding w of_kind held) (ended : HoldEnded w v held) where
  abbrev front : List Entry
  front = ended.left.earlier ++ w.seen

  at-end : HasHold w.number held.file.stream held.id h.hold front
  at-end = front-keeps w.setup w.number held.file.stream held.id h.hold (call.EndHold held.id) (outcome.Done reply.Unit) ended.left.earlier w.seen v.seen ended.left.placed (so-far w.setup v.seen ended.good) h.has

  -- what was held ends below 2^64
  pub ends-below : held.at + held.len < 2 ^ 64
  ends-below =
      let good = at-front w.setup w.number (call.EndHold held.id) (outcome.Done reply.Unit) ended.left.earlier w.seen v.seen ended.left.placed (so-far w.setup v.seen ended.good) in
      let within = held-within w.setup w.number held.file.stream held.id h.hold front good at-end in
      let size = size_of-good w.setup front held.file.stream good in
      omega (arith, within, size, h.at_is, h.len_is)

  -- the hold as it stood was ended
  hold-gone : IsHoldEnded w.number held.id h.hold w.seen v.seen
  hold-gone =
      let here = placed-here w.setup w.number held.file.stream held.id h.hold (call.EndHold held.id) (outcome.Done reply.Unit) ended.left.earlier w.seen v.seen ended.left.placed (so-far w.setup v.seen ended.good) (eq-eqb held.id held.id refl) h.has in
      record {
        done = ended.left;
        found = subst (λ (o : Option ℕ). hold_at (holds_of (stream_history front o)) held.id ≡ Some h.hold) (sym here) at-end.found;
      }

  same-setup : v.setup ≡ w.setup
  same-setup = ap (λ (x : Standing). x.setup) ended.goes_on.same

  same-number : v.number ≡ w.number
  same-number = ap (λ (x : Standing). x.number) ended.goes_on.same

  -- with it the range of the hold is flushed
  module _ (x : Standing) (span : Range) (answer : Result (Unit {0}) CcError) (is : span ≡ held_range held) (flushed : FlushEnds v x held.file (Some span) answer) where
    range-is : range_held h.hold ≡ span
    range-is = rw (h.at_is, h.len_is) (sym is)

    flush-left : CallLeft w.setup w.number (call.Flush h.hold.file (Some (range_held h.hold))) (outcome_of answer) v.seen x.seen
    flush-left =
        subst (λ (r : Range). CallLeft w.setup w.number (call.Flush h.hold.file (Some r)) (outcome_of answer) v.seen x.seen) (sym range-is)
        (subst (λ (f : File). CallLeft w.setup w.number (call.Flush f (Some span)) (outcome_of answer) v.seen x.seen) (sym h.file_is)
        (rw (same-setup, same-number) at flushed.left))

    abbrev middle : List Entry
    middle = ended.left.placed.later ++ (entry.Call w.number ended.left.placed.nth ended.left.placed.stream (call.EndHold held.id) (outcome.Done reply.Unit) ∷ ended.left.earlier)

    grew : v.seen ≡ middle ++ w.seen
    grew = ended.left.placed.grew ∙ sym (append_assoc ended.left.placed.later _ w.seen)

    since : OnOk answer (IsDurable w.setup w.number held.file.stream (Some (held_range held)) w.seen x.seen)
    since =
        durable-answer w.setup w.number held.file.stream (Some (held_range held)) middle w.seen x.seen answer
        (subst (λ (past : List Entry). OnOk answer (IsDurable w.setup w.number held.file.stream (Some (held_range held)) past x.seen)) grew
        (subst (λ (r : Range). OnOk answer (IsDurable w.setup w.number held.file.stream (Some r) v.seen x.seen)) is
        (rw (same-setup, same-number) at flushed.durable)))

    begun : BeginsAscending w.number 0 (2 ^ 51) w.seen x.seen
    begun =
        ascend-then w.number 0 0 (2 ^ 51) w.seen v.seen x.seen (ascend-none w.number 0 0 w.seen v.seen (omega arith) (begun-ended w v held ended))
        (subst (λ (n : ℕ). BeginsAscending n 0 (2 ^ 51) v.seen x.seen) same-number flushed.ascending)

    pub unpinned-through : UnpinEnds w x held true answer
    unpinned-through = record {
      left = (v.seen, h.hold, hold-gone, flush-left);
      full = subst (λ (r : Range). IsFullWriting (call.Flush held.file (Some r)) x answer) is flushed.full;
      goes_on = record { same = flushed.goes_on.same ∙ ap (λ (y : Standing). record y { seen = x.seen; others = x.others; device_turns = x.device_turns }) ended.goes_on.same };
      good = rw same-setup at flushed.good;
      ascending = begun;
      sure = λ through. absurd (cc);
      durable = λ through. since;
    }

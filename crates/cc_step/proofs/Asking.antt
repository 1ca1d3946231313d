-- What a done call asks of the room: with its own place and those that it gives back, what the past owes grows by it.
use Rattle.std.specs.Prelude.{◌≡◌, ℕ, zero, suc, ◌+◌, ◌<◌, ◌≤◌, Bool, true, false, ◌&&◌, ◌==◌, List, [], ◌∷◌, length, refl, if◌then◌else◌}
use Rattle.std.specs.declared.option.Option.TheVariants.{Some}
use Rattle.std.specs.List.{sum_by, range_with_len}
use Rattle.std.proofs.Common.{ap, sym, ◌∙◌, arith, subst}
use Rattle.std.proofs.lemmas.Bool.{ne_eqb, eq-eqb, eqb-true, eqb-false}
use Rattle.std.proofs.lemmas.List.Sums.{sum_by-cons}
use Rattle.cc_entry.specs.Kinds.{is_map, is_pin}
use Rattle.cc_entry.specs.Place.{Range}
use Rattle.cc_entry.specs.declared.call.Call.{Call}
use Rattle.cc_entry.specs.declared.call.Call.TheVariants as call
use Rattle.cc_entry.specs.declared.entry.Entry.{Entry}
use Rattle.cc_entry.specs.declared.entry.Entry.TheVariants as entry
use Rattle.cc_entry.specs.declared.hold.HoldKind.TheVariants as kind
use Rattle.cc_entry.specs.declared.reply.Outcome.TheVariants as outcome
use Rattle.cc_entry.specs.declared.reply.Reply.{Reply}
use Rattle.cc_effects.specs.Asked.{brings_in}
use Rattle.cc_journal.specs.Calls.{owed_end}
use Rattle.cc_laws.proofs.HistorySteps.{history-done, history-done_other}
use Rattle.cc_laws.proofs.HoldSteps.{holds_of-done}
use Rattle.cc_laws.proofs.ImageSteps.{open_of-done}
use Rattle.cc_model.specs.Acts.{file_of}
use Rattle.cc_model.specs.Filing.{IsFiled}
use Rattle.cc_model.specs.Good.{IsGoodSoFar}
use Rattle.cc_model.specs.History.{history}
use Rattle.cc_model.specs.Holds.{Hold, hold_at, changed_at, id_of, held_after, holds_of}
use Rattle.cc_model.specs.Room.{owed_by_hold, owed_by_stream, reserved_in, owes_set_dirty, places_asked}
use Rattle.cc_model.specs.Setup.{Setup}
use Rattle.cc_own.specs.Own.{hold_of_range}
use Rattle.cc_own.proofs.DistinctIds.{ids-distinct}
use Rattle.cc_own.proofs.OwnHolds.{served, served-range}
use Rattle.cc_step.proofs.HoldSums.{owed-more, owed-changed, owed-ended}
use Rattle.cc_step.proofs.Maps.{serves-kind, map-owes_none}
use Rattle.cc_step.proofs.Failing.{stepped-answered}
use Rattle.cc_step.proofs.Reserved.{stores-call, no-store}
use Rattle.cc_step.specs.Step.{is_stepped, places_spared, most_asked, asked_now}

-- no call asks more than its most
pub most : (holds : List Hold) (it : Call) → places_asked holds it ≤ most_asked it
most holds (call.Map file at len) = omega arith
most holds (call.PinRead file at len exclusive) = omega arith
most holds (call.PreparePin file at len true exclusive) = omega arith
most holds (call.PreparePin file at len false exclusive) = omega arith
most holds (call.Repin hold) = omega arith
most holds (call.MdlRead file at len) = omega arith
most holds (call.MdlWrite file at len) = omega arith
most holds (call.PinnedWrite hold at bytes) = go (owes_set_dirty (hold_at holds hold))
  where
    go : (b : Bool) → (if b then 1 else 2) ≤ 2
    go true = omega arith
    go false = omega arith
most holds (call.SetDirty hold lsn) = go (owes_set_dirty (hold_at holds hold))
  where
    go : (b : Bool) → (if b then 0 else 1) ≤ 1
    go true = omega arith
    go false = omega arith
most holds (call.EndHold hold) = omega arith
most holds other = omega arith

-- a call that brings pages in asks a place at least
pub most-some : (it : Call) → brings_in it ≡ true → 0 < most_asked it
most-some (call.PreparePin file at len true exclusive) brings = omega arith
most-some (call.PreparePin file at len false exclusive) brings = omega arith
most-some (call.EndHold hold) brings = absurd (cc)
most-some (call.SetDirty hold lsn) brings = absurd (cc)
most-some other brings = omega arith

-- a call that asks a place gives none back beside it
pub none-spared : (holds : List Hold) (it : Call) (more : ℕ) → places_asked holds it ≡ suc more → places_spared holds it ≡ 0
none-spared holds (call.EndHold hold) more asks = absurd (cc)
none-spared holds other more asks = refl

-- the sums after a call that makes a hold, and one that changes none
one-new : (n m : ℕ) → n ≡ 1 + m → (n + 1) + 0 ≡ m + 2
one-new n m is = omega (arith, is)

two-new : (n m : ℕ) → n ≡ 2 + m → (n + 1) + 0 ≡ m + 3
two-new n m is = omega (arith, is)

same-owed : (n m : ℕ) → n ≡ m → (n + 1) + 0 ≡ m + 1
same-owed n m is = omega (arith, is)

-- a pinned write, a set-dirty, an end, by whether the set-dirty was owed
written : (b : Bool) (n m : ℕ) → n + (if b then 2 else 1) ≡ m + 2 → (n + 1) + 0 ≡ m + (if b then 1 else 2)
written true n m is = omega (arith, is)
written false n m is = omega (arith, is)

stamped : (b : Bool) (n m : ℕ) → n + (if b then 2 else 1) ≡ m + 1 → (n + 1) + 0 ≡ m + (if b then 0 else 1)
stamped true n m is = omega (arith, is)
stamped false n m is = omega (arith, is)

ended : (b : Bool) (n m : ℕ) → n + (if b then 2 else 1) ≡ m → (n + 1) + (if b then 1 else 0) ≡ m + 0
ended true n m is = omega (arith, is)
ended false n m is = omega (arith, is)

-- a pin of a map owes what the map owed
kept-owed : (n m : ℕ) → n + 1 ≡ m + 1 → (n + 1) + 0 ≡ m + 1
kept-owed n m is = omega (arith, is)

and-false : (b : Bool) → (b && false) ≡ false
and-false true = refl
and-false false = refl

-- what a map owes, also once it is a pin
map-owed : (hold : Hold) → is_map hold.kind ≡ true → hold.owed ≡ [] → owed_by_hold hold ≡ 1
map-owed hold map none = rw (none, and-false (is_pin hold.kind)) refl

pinned-owed : (hold : Hold) (exclusive : Bool) → hold.owed ≡ [] → owed_by_hold (record hold { kind = kind.Pin; exclusive = exclusive }) ≡ 1
pinned-owed hold exclusive none = rw none refl

written-owed : (hold : Hold) (r : Range) → is_pin hold.kind ≡ true → owed_by_hold (record hold { owed = r ∷ hold.owed }) ≡ 2
written-owed hold r pin = rw pin refl

stamped-owed : (hold : Hold) → owed_by_hold (record hold { owed = [] }) ≡ 1
stamped-owed hold = rw (and-false (is_pin hold.kind)) refl

asked-held : (u : Setup) (past : List Entry) (pass s id : ℕ) (it : Call) → is_stepped it ≡ true → IsGoodSoFar u past → IsFiled (holds_of (history past s)) pass (Some s) it (file_of it) → (sum_by owed_by_hold (held_after pass it id (holds_of (history past s))) + 1) + places_spared (holds_of (history past s)) it ≡ sum_by owed_by_hold (holds_of (history past s)) + asked_now past s it
asked-held u past pass s id (call.Map file at len) stepped good filed = one-new _ _ (owed-more (hold_of_range id pass file at len kind.Map false []) (holds_of (history past s)) 1 refl)
asked-held u past pass s id (call.PinRead file at len exclusive) stepped good filed = one-new _ _ (owed-more (hold_of_range id pass file at len kind.Pin exclusive []) (holds_of (history past s)) 1 refl)
asked-held u past pass s id (call.PreparePin file at len true exclusive) stepped good filed = two-new _ _ (owed-more (hold_of_range id pass file at len kind.Pin exclusive (record { from = at; to = at + len } ∷ [])) (holds_of (history past s)) 2 refl)
asked-held u past pass s id (call.PreparePin file at len false exclusive) stepped good filed = one-new _ _ (owed-more (hold_of_range id pass file at len kind.Pin exclusive []) (holds_of (history past s)) 1 refl)
asked-held u past pass s id (call.MdlRead file at len) stepped good filed = one-new _ _ (owed-more (hold_of_range id pass file at len kind.ReadChain false []) (holds_of (history past s)) 1 refl)
asked-held u past pass s id (call.MdlWrite file at len) stepped good filed = one-new _ _ (owed-more (hold_of_range id pass file at len kind.WriteChain false []) (holds_of (history past s)) 1 refl)
asked-held u past pass s id (call.Repin hold) stepped good filed =
    let has = served pass is_pin (hold_at (holds_of (history past s)) hold) filed in
    rw has.1.0 (one-new _ _ (owed-more (hold_of_range id pass has.0.file has.0.at has.0.len kind.Repin false []) (holds_of (history past s)) 1 refl))
asked-held u past pass s id (call.PinMapped hold exclusive) stepped good filed =
    let holds = holds_of (history past s) in
    let has = served pass is_map (hold_at holds hold) filed in
    let map = serves-kind pass is_map (hold_at holds hold) has.0 has.1.0 filed in
    let none = map-owes_none u past s hold has.0 good has.1.0 map in
    let change : Hold → Hold = λ it. record it { kind = kind.Pin; exclusive = exclusive } in
    let sums = owed-changed hold change has.0 holds (ids-distinct u past s good.legal) has.1.0 in
    kept-owed _ _ (ap (λ n. sum_by owed_by_hold (changed_at hold change holds) + n) (sym (map-owed has.0 map none)) ∙ sums ∙ ap (λ n. sum_by owed_by_hold holds + n) (pinned-owed has.0 exclusive none))
asked-held u past pass s id (call.PinnedWrite hold at bytes) stepped good filed =
    let holds = holds_of (history past s) in
    let serves_it = served-range pass is_pin at (length bytes) (hold_at holds hold) filed in
    let has = served pass is_pin (hold_at holds hold) serves_it in
    let pin = serves-kind pass is_pin (hold_at holds hold) has.0 has.1.0 serves_it in
    let change : Hold → Hold = λ it. record it { owed = record { from = at; to = at + length bytes } ∷ it.owed } in
    let sums = owed-changed hold change has.0 holds (ids-distinct u past s good.legal) has.1.0 in
    rw has.1.0 (written (owes_set_dirty (Some has.0)) _ _ (sums ∙ ap (λ n. sum_by owed_by_hold holds + n) (written-owed has.0 (record { from = at; to = at + length bytes }) pin)))
asked-held u past pass s id (call.SetDirty hold lsn) stepped good filed =
    let holds = holds_of (history past s) in
    let has = served pass is_pin (hold_at holds hold) filed in
    let change : Hold → Hold = λ it. record it { owed = [] } in
    let sums = owed-changed hold change has.0 holds (ids-distinct u past s good.legal) has.1.0 in
    rw has.1.0 (stamped (owes_set_dirty (Some has.0)) _ _ (sums ∙ ap (λ n. sum_by owed_by_hold holds + n) (stamped-owed has.0)))
asked-held u past pass s id (call.EndHold hold) stepped good filed =
    let holds = holds_of (history past s) in
    let has = served pass (λ its_kind. true) (hold_at holds hold) filed in
    let sums = owed-ended hold has.0 holds (ids-distinct u past s good.legal) has.1.0 in
    rw has.1.0 (ended (owes_set_dirty (Some has.0)) _ _ sums)
asked-held u past pass s id other stepped good filed = same-owed _ _ refl

-- a sum of which one member changed
past-it : (f g : ℕ → ℕ) (s from len : ℕ) → s < from → ((n : ℕ) → (n == s) ≡ false → f n ≡ g n) → sum_by f (range_with_len from len) ≡ sum_by g (range_with_len from len)
past-it f g s from zero after same = refl
past-it f g s from (suc len) after same =
    let rest : sum_by f (range_with_len (from + 1) len) ≡ sum_by g (range_with_len (from + 1) len) = past-it f g s (from + 1) len (omega arith) same in
    rw (sum_by-cons f from (range_with_len (from + 1) len), sum_by-cons g from (range_with_len (from + 1) len), same from (ne_eqb from s (λ e. omega arith)), rest) refl

one-changed : (f g : ℕ → ℕ) (s a b from len : ℕ) → from ≤ s → s < from + len → ((n : ℕ) → (n == s) ≡ false → f n ≡ g n) → f s + a ≡ g s + b → sum_by f (range_with_len from len) + a ≡ sum_by g (range_with_len from len) + b
one-changed f g s a b from zero low high same here = absurd (omega arith)
one-changed f g s a b from (suc len) low high same here = go (from == s) refl (λ later. one-changed f g s a b (from + 1) len later (omega arith) same here)
  where
    go : (t : Bool) → (from == s) ≡ t → (from + 1 ≤ s → sum_by f (range_with_len (from + 1) len) + a ≡ sum_by g (range_with_len (from + 1) len) + b) → sum_by f (range_with_len from (suc len)) + a ≡ sum_by g (range_with_len from (suc len)) + b
    go true is rest =
        let at_it : from ≡ s = eqb-true from s is in
        let at_from : f from + a ≡ g from + b = subst (λ n. f n + a ≡ g n + b) (sym at_it) here in
        let past : sum_by f (range_with_len (from + 1) len) ≡ sum_by g (range_with_len (from + 1) len) = past-it f g s (from + 1) len (omega arith) same in
        rw (sum_by-cons f from (range_with_len (from + 1) len), sum_by-cons g from (range_with_len (from + 1) len), past) (moved (f from) a (g from) b (sum_by g (range_with_len (from + 1) len)) at_from)
      where
        moved : (x a y b rest : ℕ) → x + a ≡ y + b → (x + rest) + a ≡ (y + rest) + b
        moved x a y b rest is = omega (arith, is)
    go false is rest =
        let later : from + 1 ≤ s = above (eqb-false from s is) in
        rw (sum_by-cons f from (range_with_len (from + 1) len), sum_by-cons g from (range_with_len (from + 1) len), same from is) (moved (g from) (sum_by f (range_with_len (from + 1) len)) a (sum_by g (range_with_len (from + 1) len)) b (rest later))
      where
        above : (from ≡ s → ⊥) → from + 1 ≤ s
        above apart = omega (arith, low, apart)

        moved : (x n a m b : ℕ) → n + a ≡ m + b → (x + n) + a ≡ (x + m) + b
        moved x n a m b is = omega (arith, is)

-- what a stream owes after the call, and any other
owed-there : (u : Setup) (past : List Entry) (pass nth s : ℕ) (it : Call) (r : Reply) → is_stepped it ≡ true → IsGoodSoFar u past → IsFiled (holds_of (history past s)) pass (Some s) it (file_of it) → owed_by_stream (history (entry.Call pass nth (Some s) it (outcome.Done r) ∷ past) s) + (1 + places_spared (holds_of (history past s)) it) ≡ owed_by_stream (history past s) + asked_now past s it
owed-there u past pass nth s it r stepped good filed =
    rw (history-done pass nth s it r past s (eq-eqb s s refl), holds_of-done pass it r (history past s), open_of-done pass it r (history past s))
    (with-open _ _ _ _ _ (asked-held u past pass s (id_of r) it stepped good filed))
  where
    with-open : (n spared m asked transfer : ℕ) → (n + 1) + spared ≡ m + asked → (n + transfer) + (1 + spared) ≡ (m + transfer) + asked
    with-open n spared m asked transfer is = omega (arith, is)

owed-elsewhere : (past : List Entry) (pass nth s other : ℕ) (it : Call) (r : Reply) → (other == s) ≡ false → owed_by_stream (history (entry.Call pass nth (Some s) it (outcome.Done r) ∷ past) other) ≡ owed_by_stream (history past other)
owed-elsewhere past pass nth s other it r apart = ap owed_by_stream (history-done_other pass nth s it r past other (flipped (s == other) refl))
  where
    flipped : (t : Bool) → (s == other) ≡ t → (s == other) ≡ false
    flipped false is = is
    flipped true is = absurd (clash (eq-eqb other s (sym (eqb-true s other is))) apart)
      where
        clash : (other == s) ≡ true → (other == s) ≡ false → ⊥
        clash is_so not_so = absurd (cc)

-- What the past owes after a done call, with what its pass owed before, its own place and those that it gives back: as
-- much as before, and what the call asks.
pub asked-reserved : (u : Setup) (past : List Entry) (pass nth s : ℕ) (it : Call) (r : Reply) → s < 16 → is_stepped it ≡ true → IsGoodSoFar u past → IsFiled (holds_of (history past s)) pass (Some s) it (file_of it) → (owed_end past pass + reserved_in (entry.Call pass nth (Some s) it (outcome.Done r) ∷ past)) + (1 + places_spared (holds_of (history past s)) it) ≡ reserved_in past + asked_now past s it
unfolding reserved_in
asked-reserved u past pass nth s it r below stepped good filed =
    with-stores _ _ _ _ _ _ _
    (one-changed (λ n. owed_by_stream (history (entry.Call pass nth (Some s) it (outcome.Done r) ∷ past) n)) (λ n. owed_by_stream (history past n)) s _ _ 0 16 (omega arith) (omega arith)
    (λ n apart. owed-elsewhere past pass nth s n it r apart) (owed-there u past pass nth s it r stepped good filed))
    (stores-call past pass nth (Some s) it (outcome.Done r) (no-store it (outcome.Done r) (stepped-answered it stepped)))
  where
    with-stores : (owed n a m b stores before : ℕ) → n + a ≡ m + b → owed + stores ≡ before → (owed + (n + stores)) + a ≡ (m + before) + b
    with-stores owed n a m b stores before is same = omega (arith, is, same)

-- A hold that a pass has lies within the size of its stream, and its pages are resident.
use Rattle.std.specs.Prelude.{◌≡◌, ℕ, suc, zero, ◌+◌, ◌-◌, ◌*◌, ◌/◌, ◌<◌, ◌≤◌, Bool, true, false, ◌&&◌, ◌==◌, nat_lt, nat_le, min, List, [], refl, if◌then◌else◌}
use Rattle.std.specs.declared.option.Option.{Option}
use Rattle.std.specs.declared.option.Option.TheVariants.{Some}
use Rattle.std.specs.List.{list_all, range_with_len}
use Rattle.std.proofs.Common.{arith, subst}
use Rattle.std.proofs.lemmas.Bool.{and_parts, and_from, ltb-true, lt-ltb, leb-true, ltb-false}
use Rattle.cc_entry.specs.Place.{Range}
use Rattle.cc_entry.specs.Pages.{has_page}
use Rattle.cc_entry.specs.declared.hold.HoldKind.{HoldKind}
use Rattle.cc_entry.specs.declared.entry.Entry.{Entry}
use Rattle.cc_model.specs.Setup.{Setup}
use Rattle.cc_model.specs.History.{Effect, history}
use Rattle.cc_model.specs.Holds.{Hold, hold_at, holds_of, range_held}
use Rattle.cc_model.specs.Touches.{size_of}
use Rattle.cc_model.specs.Ranges.{cut_range}
use Rattle.cc_model.specs.Residency.{is_resident, all_resident}
use Rattle.cc_model.specs.Filing.{serves_range}
use Rattle.cc_model.specs.Good.{IsGoodSoFar}
use Rattle.cc_laws.proofs.Lists1.{any-found}
use Rattle.cc_laws.proofs.SafeJournals.{good-safe}
use Rattle.cc_laws.proofs.SizeFacts.{ends_past, sized}
use Rattle.cc_laws.proofs.SoundFacts.{held_resident-good}
use Rattle.cc_own.specs.Own.{HasHold}
use Rattle.cc_own.proofs.OwnHolds.{served, served-range}

-- what holds of each number from one on holds of the list of them
all-from : (test : ℕ → Bool) (from len : ℕ) → ((n : ℕ) → from ≤ n → n < from + len → test n ≡ true) → list_all test (range_with_len from len) ≡ true
all-from test from zero passes = refl
all-from test from (suc len) passes =
    and_from _ _ (passes from (omega arith) (omega arith)) (all-from test (from + 1) len (λ n low high. passes n (omega arith) (omega arith)))

page-starts : (from p : ℕ) → from / 4096 ≤ p → from < 4096 * p + 4096
page-starts from p low = omega arith

page-ends : (from to p : ℕ) → from < to → from / 4096 ≤ p → p < from / 4096 + (((to - 1) / 4096 + 1) - from / 4096) → 4096 * p < to
page-ends from to p some low high = omega arith

-- a range has each of its pages resident where each page that it has is
pub all-resident : (h : List Effect) (r : Range) → ((p : ℕ) → has_page r p ≡ true → is_resident h p ≡ true) → all_resident h r ≡ true
all-resident h r each = go (nat_lt r.from r.to) refl
  where
    go : (t : Bool) → nat_lt r.from r.to ≡ t → list_all (is_resident h) (if t then range_with_len (r.from / 4096) (((r.to - 1) / 4096 + 1) - r.from / 4096) else []) ≡ true
    go false none = refl
    go true some =
        all-from (is_resident h) (r.from / 4096) _
        (λ p low high. each p (and_from _ _ some (and_from _ _ (lt-ltb r.from (4096 * p + 4096) (page-starts r.from p low)) (lt-ltb (4096 * p) r.to (page-ends r.from r.to p (ltb-true r.from r.to some) low high)))))

-- a range has each page that a narrower one has
pub page-wider : (a b : Range) (p : ℕ) → b.from ≤ a.from → a.to ≤ b.to → has_page a p ≡ true → has_page b p ≡ true
page-wider a b p low high has = and_from _ _ (lt-ltb b.from b.to (omega (arith, some))) (and_from _ _ (lt-ltb b.from (4096 * p + 4096) (omega (arith, starts))) (lt-ltb (4096 * p) b.to (omega (arith, ends))))
  where
    some : a.from < a.to
    some = ltb-true a.from a.to (and_parts (nat_lt a.from a.to) _ has).0

    starts : a.from < 4096 * p + 4096
    starts = ltb-true a.from (4096 * p + 4096) (and_parts _ _ (and_parts (nat_lt a.from a.to) _ has).1).0

    ends : 4096 * p < a.to
    ends = ltb-true (4096 * p) a.to (and_parts (nat_lt a.from (4096 * p + 4096)) _ (and_parts (nat_lt a.from a.to) _ has).1).1

-- each page in which the hold has a byte is resident
pub held-page : (u : Setup) (me s id : ℕ) (hold : Hold) (past : List Entry) → IsGoodSoFar u past → HasHold me s id hold past → (p : ℕ) → has_page (range_held hold) p ≡ true → is_resident (history past s) p ≡ true
held-page u me s id hold past good has p of =
    held_resident-good u past s good p (any-found (λ it. it.id == id) (λ it. has_page (range_held it) p) (holds_of (history past s)) hold has.found of)

pub held-resident : (u : Setup) (me s id : ℕ) (hold : Hold) (past : List Entry) → IsGoodSoFar u past → HasHold me s id hold past → all_resident (history past s) (range_held hold) ≡ true
held-resident u me s id hold past good has = all-resident (history past s) (range_held hold) (held-page u me s id hold past good has)

-- it ends within the size
pub held-within : (u : Setup) (me s id : ℕ) (hold : Hold) (past : List Entry) → IsGoodSoFar u past → HasHold me s id hold past → hold.at + hold.len ≤ size_of (history past s)
held-within u me s id hold past good has = ltb-false size (hold.at + hold.len) (go (nat_lt size (hold.at + hold.len)) refl)
  where
    size : ℕ
    size = size_of (history past s)

    go : (b : Bool) → nat_lt size (hold.at + hold.len) ≡ b → b ≡ false
    go false is = refl
    go true is =
        let past_it : ends_past size (holds_of (history past s)) ≡ true = any-found (λ it. it.id == id) (λ it. nat_lt size (it.at + it.len)) (holds_of (history past s)) hold has.found is in
        let none : ends_past size (holds_of (history past s)) ≡ false = (sized (history past s) (good-safe u past s good)).held_within in
        cc

-- so is each page of a part of it, as far as that goes
pub part-resident : (u : Setup) (me s id : ℕ) (hold : Hold) (at len : ℕ) (past : List Entry) → IsGoodSoFar u past → HasHold me s id hold past → hold.at ≤ at → at + len ≤ hold.at + hold.len → all_resident (history past s) (cut_range (size_of (history past s)) at len) ≡ true
part-resident u me s id hold at len past good has low high =
    all-resident (history past s) (cut_range size at len)
    (λ p of. held-page u me s id hold past good has p (page-wider (cut_range size at len) (range_held hold) p low (cut (at + len) size high) of))
  where
    size : ℕ
    size = size_of (history past s)

    cut : (end size : ℕ) → end ≤ hold.at + hold.len → min end size ≤ hold.at + hold.len
    cut end size within = omega arith

-- a hold that serves a range has its place and end
within-hold : (pass : ℕ) (of_kind : HoldKind → Bool) (at n : ℕ) (o : Option Hold) (hold : Hold) → o ≡ Some hold → serves_range pass of_kind at n o ≡ true → (hold.at ≤ at) × (at + n ≤ hold.at + hold.len)
within-hold pass of_kind at n o hold is filed =
    let at_hold : serves_range pass of_kind at n (Some hold) ≡ true = subst (λ x. serves_range pass of_kind at n x ≡ true) is filed in
    let range = (and_parts (hold.pass == pass && of_kind hold.kind) _ at_hold).1 in
    let parts = and_parts (nat_le hold.at at) _ range in
    (leb-true hold.at at parts.0, leb-true (at + n) (hold.at + hold.len) parts.1)

-- what a read through a hold needs: each page of its range is resident
pub served-resident : (u : Setup) (me s named : ℕ) (of_kind : HoldKind → Bool) (at len : ℕ) (past : List Entry) → IsGoodSoFar u past → serves_range me of_kind at len (hold_at (holds_of (history past s)) named) ≡ true → all_resident (history past s) (cut_range (size_of (history past s)) at len) ≡ true
served-resident u me s named of_kind at len past good filed =
    let has = served me of_kind (hold_at (holds_of (history past s)) named) (served-range me of_kind at len _ filed) in
    let within = within-hold me of_kind at len _ has.0 has.1.0 filed in
    part-resident u me s named has.0 at len past good (record { found = has.1.0; mine = has.1.1 }) within.0 within.1

-- and that range lies below the size
pub served-within : (u : Setup) (me s named : ℕ) (of_kind : HoldKind → Bool) (at len : ℕ) (past : List Entry) → IsGoodSoFar u past → serves_range me of_kind at len (hold_at (holds_of (history past s)) named) ≡ true → at + len ≤ size_of (history past s)
served-within u me s named of_kind at len past good filed =
    let has = served me of_kind (hold_at (holds_of (history past s)) named) (served-range me of_kind at len _ filed) in
    let within = within-hold me of_kind at len _ has.0 has.1.0 filed in
    let below = held-within u me s named has.0 past good (record { found = has.1.0; mine = has.1.1 }) in
    omega arith

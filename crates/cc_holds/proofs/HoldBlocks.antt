-- How many holds have a byte in a block, after a hold was made, ended or changed.
use Rattle.std.specs.Prelude.{◌≡◌, ℕ, ◌+◌, ◌-◌, ◌<◌, ◌≤◌, Bool, true, false, ◌&&◌, ◌||◌, nat_eq, nat_lt, nat_le, List, [], ◌∷◌, length, count_by, insert, remove, refl}
use Rattle.std.specs.List.{list_any, range_with_len, position_or_len}
use Rattle.std.specs.Set.{is_member}
use Rattle.std.proofs.Common.{cond, get_or, set, ap, sym, subst, ◌∙◌, arith}
use Rattle.std.proofs.lemmas.Bool.Decides.{nat_tests}
use Rattle.std.proofs.lemmas.List.Sums.{sum_by-cons, sum_by-set, sum_by-insert, sum_by-remove}
use Rattle.std.specs.Prelude.{Result, Ok, Err, OnOk, OnErr}
use Rattle.cc_entry.specs.Place.{Range}
use Rattle.cc_entry.specs.Pages.{blocks_of}
use Rattle.cc_holds.specs.Blocks.{holds_at, one_within, AreKept}
use Rattle.cc_holds.specs.Holds.{row_range, has_block, hold_written}
use Rattle.cc_holds.specs.declared.block_rows.BlockRow.{BlockRow}
use Rattle.cc_holds.specs.declared.holds.KeptHold.{KeptHold}
use Rattle.cc_holds.proofs.BlockNumbers.{is_member-range}
use Rattle.cc_holds.proofs.Order.{InOrder, InOrder-insert}

-- the rows are those of the holds
abbrev pub Count : List KeptHold → List BlockRow → Type 0
Count holds rows = (b : ℕ) → holds_at b rows ≡ count_by (has_block b) holds

-- a hold's blocks are those of its range
one-held : (h : KeptHold) (first end b : ℕ) → first ≤ end → range_with_len first (end - first) ≡ blocks_of (row_range h.row) → one_within first end b ≡ cond (has_block b h) 1 0
one-held h first end b le is =
    let to : first + (end - first) ≡ end = omega arith in
    ap (λ t. cond t 1 0) (sym (sym (ap (λ blocks. is_member nat_eq blocks b) is) ∙ (is_member-range first (end - first) b ∙ ap (λ n. nat_le first b && nat_lt b n) to)))

pub count-added : (holds : List KeptHold) (old new : List BlockRow) (place first end : ℕ) (h : KeptHold) → first ≤ end → range_with_len first (end - first) ≡ blocks_of (row_range h.row) → Count holds old → ((b : ℕ) → holds_at b new ≡ holds_at b old + one_within first end b) → Count (insert holds place h) new
count-added holds old new place first end h le is counts added b =
    added b
    ∙ (ap (λ n. n + one_within first end b) (counts b)
    ∙ (ap (λ n. count_by (has_block b) holds + n) (one-held h first end b le is)
    ∙ sym (sum_by-insert (λ x. cond (has_block b x) 1 0) holds place h)))

pub count-held : (holds : List KeptHold) (rows : List BlockRow) (place first end b : ℕ) (h : KeptHold) → place < length holds → h ≡ get_or holds place h → first ≤ end → range_with_len first (end - first) ≡ blocks_of (row_range h.row) → Count holds rows → one_within first end b ≤ holds_at b rows
count-held holds rows place first end b h within at le is counts =
    let fewer = sum_by-remove (λ x. cond (has_block b x) 1 0) holds place h within in
    let one = one-held h first end b le is ∙ ap (λ x. cond (has_block b x) 1 0) at in
    omega (arith, counts b, fewer, one)

pub count-removed : (holds : List KeptHold) (old new : List BlockRow) (place first end : ℕ) (h : KeptHold) → place < length holds → h ≡ get_or holds place h → first ≤ end → range_with_len first (end - first) ≡ blocks_of (row_range h.row) → Count holds old → ((b : ℕ) → holds_at b old ≡ holds_at b new + one_within first end b) → Count (remove holds place) new
count-removed holds old new place first end h within at le is counts removed b =
    let fewer = sum_by-remove (λ x. cond (has_block b x) 1 0) holds place h within in
    let one = one-held h first end b le is ∙ ap (λ x. cond (has_block b x) 1 0) at in
    omega (arith, counts b, fewer, one, removed b)

-- a change of a hold that leaves its range
pub count-set : (holds : List KeptHold) (rows : List BlockRow) (place : ℕ) (h new : KeptHold) → place < length holds → h ≡ get_or holds place h → new.row.at ≡ h.row.at → new.row.len ≡ h.row.len → Count holds rows → Count (set holds place new) rows
count-set holds rows place h new within at same_at same_len counts b =
    let changed = sum_by-set (λ x. cond (has_block b x) 1 0) holds place new h within in
    let same : has_block b new ≡ has_block b (get_or holds place h) =
    ap (λ n. is_member nat_eq (blocks_of (record { from = n; to = n + new.row.len })) b) same_at
    ∙ (ap (λ n. is_member nat_eq (blocks_of (record { from = h.row.at; to = h.row.at + n })) b) same_len
    ∙ ap (has_block b) at) in
    let one = ap {B = ℕ} (λ t. cond t 1 0) same in
    omega (arith, counts b, changed, one)

pub kept-added : {new reserved : List KeptHold} (h : KeptHold) (holds : List KeptHold) (old rows : List BlockRow) (place first end : ℕ) → new ≡ insert reserved place h → reserved ≡ holds → place ≡ position_or_len (λ x. nat_lt h.row.id x.row.id) holds → place ≤ length holds → first ≤ end → range_with_len first (end - first) ≡ blocks_of (row_range h.row) → ((b : ℕ) → holds_at b rows ≡ holds_at b old + one_within first end b) → AreKept holds old → AreKept new rows
kept-added h holds old rows place first end is same at within le blocks added kept =
    let whole = is ∙ ap (λ (xs : List KeptHold). insert xs place h) same in
    record {
      in_order = subst InOrder (sym whole) (InOrder-insert holds h place at within kept.in_order);
      counts = subst (λ (xs : List KeptHold). Count xs rows) (sym whole) (count-added holds old rows place first end h le blocks kept.counts added);
    }

-- a write leaves the range and the id, also where it finds no memory
pub written-same : {E : Type 0} {A : Type 0} (r : Result A E) (span : Range) (old new : KeptHold) → OnOk r (new ≡ hold_written span old) → OnErr r (new ≡ old) → (new.row.at ≡ old.row.at) × (new.row.len ≡ old.row.len) × (new.row.id ≡ old.row.id)
written-same (Ok a) span old new ok err = (ap (λ (h : KeptHold). h.row.at) ok, ap (λ (h : KeptHold). h.row.len) ok, ap (λ (h : KeptHold). h.row.id) ok)
written-same (Err e) span old new ok err = (ap (λ (h : KeptHold). h.row.at) err, ap (λ (h : KeptHold). h.row.len) err, ap (λ (h : KeptHold). h.row.id) err)

-- some hold passes where the count is not 0
pub any-counted : {A : Type 0} (p : A → Bool) (xs : List A) → list_any p xs ≡ nat_lt 0 (count_by p xs)
any-counted p [] = refl
any-counted p (x ∷ xs) = go (p x) (any-counted p xs) ∙ ap (nat_lt 0) (sym (sum_by-cons (λ y. cond (p y) 1 0) x xs))
  where
    go : (t : Bool) → list_any p xs ≡ nat_lt 0 (count_by p xs) → (t || list_any p xs) ≡ nat_lt 0 (cond t 1 0 + count_by p xs)
    go true rest = grind (arith, nat_tests)
    go false rest = let same : count_by p xs ≡ 0 + count_by p xs = omega arith in rest ∙ ap (nat_lt 0) same

-- What the definitions say of the open holds, said of those that are kept.
use Rattle.std.specs.Prelude.{◌≡◌, ℕ, suc, ◌+◌, ◌-◌, ◌/◌, ◌<◌, Bool, true, false, ◌&&◌, ◌||◌, ◌==◌, nat_lt, min, not, List, [], ◌∷◌, ◌++◌, length, reverse, cond, is_none, is_some, refl}
use Rattle.std.specs.declared.option.Option.{Option}
use Rattle.std.specs.declared.option.Option.TheVariants.{Some, None}
use Rattle.std.specs.List.{AllZip, AllByRecursion, find, list_any, range_with_len}
use Rattle.std.specs.Option.{option_map, option_or}
use Rattle.std.proofs.Common.{ap, sym, subst, ◌∙◌, arith}
use Rattle.std.proofs.lemmas.Bool.{eqb-true, ne_eqb, ltb-true}
use Rattle.std.proofs.lemmas.Bool.Decides.{nat_tests}
use Rattle.std.proofs.lemmas.List.{reverse-reverse, length-reverse}
use Rattle.std.proofs.lemmas.List.Folds.{find-append}
use Rattle.cc_entry.specs.Place.{Range}
use Rattle.cc_entry.specs.Pages.{has_page, pages_of, share_page, whole_range}
use Rattle.cc_entry.specs.Kinds.{is_pin}
use Rattle.cc_entry.specs.declared.hold.HoldRow.{HoldRow}
use Rattle.cc_model.specs.Numbers.{is_empty}
use Rattle.cc_model.specs.History.{Effect}
use Rattle.cc_model.specs.Holds.{holds_of, hold_at, is_held, least_id, lesser, range_held}
use Rattle.cc_model.specs.Holds as held
use Rattle.cc_model.specs.Stamps.{owes_stamp}
use Rattle.cc_model.specs.Conflicts.{has_page_of, bars_pin}
use Rattle.cc_holds.specs.Holds.{hold_of, row_range, hold_overlaps, pin_conflicts, is_unstamped_through, ends_past, first_id}
use Rattle.cc_holds.specs.declared.holds.KeptHold.{KeptHold}
use Rattle.cc_holds.proofs.Overlap.{share_page-ends}
use Rattle.cc_holds.specs.Stands.{Shown, shown, shown_row, IsHold, IdsAscend, HoldsStand}
use Rattle.cc_holds.specs.Looks.{keeps_page, has_bytes}
use Rattle.cc_holds.proofs.Zips.{reverse-onto, any-reversed, zip-any, zip-length}
use Rattle.cc_holds.proofs.KeptLists.{IdsAbove}
use Rattle.cc_holds.proofs.HoldsStanding.{same_id, all-reversed}
use Rattle.cc_model.specs.Room.{owes_set_dirty}

-- each hold of the definition has an id above this one
abbrev HeldAbove : ℕ → List held.Hold → Type 0
HeldAbove id holds = AllByRecursion (λ (hold : held.Hold). id < hold.id) holds

above-held : (id : ℕ) (xs : List held.Hold) (holds : List KeptHold) → AllZip IsHold xs holds → IdsAbove id holds → HeldAbove id xs
above-held id [] [] each above = tt
above-held id [] (kept ∷ holds) each above = absurd each
above-held id (hold ∷ xs) [] each above = absurd each
above-held id (hold ∷ xs) (kept ∷ holds) each above =
    (subst (λ n. id < n) (same_id hold kept each.0) above.0, above-held id xs holds each.1 above.1)

-- the ids of the later holds, from the back, lie above that of the first
above-first : (hold : held.Hold) (kept : KeptHold) (xs : List held.Hold) (holds : List KeptHold) → AllZip IsHold (hold ∷ xs) (kept ∷ holds) → IdsAscend (kept ∷ holds) → HeldAbove hold.id (reverse xs)
above-first hold kept xs holds each ascend =
    subst (λ n. HeldAbove n (reverse xs)) (same_id hold kept each.0)
    (all-reversed _ xs (above-held kept.row.id xs holds each.1 ascend.0))

-- the hold of the least id is the last of those that pass
least-onto : (test : held.Hold → Bool) (holds : List held.Hold) (last : held.Hold) → HeldAbove last.id holds → least_id test (holds ++ last ∷ []) ≡ cond (test last) (Some last.id) (least_id test holds)
least-onto test [] last above = refl
least-onto test (hold ∷ holds) last above = rw (least-onto test holds last above.1) (go (test hold) (test last))
  where
    lower : (n m : ℕ) → m < n → min n m ≡ m
    lower n m less = omega arith

    go : (a b : Bool) → cond a (lesser hold.id (cond b (Some last.id) (least_id test holds))) (cond b (Some last.id) (least_id test holds)) ≡ cond b (Some last.id) (cond a (lesser hold.id (least_id test holds)) (least_id test holds))
    go true true = ap (λ n. Some n) (lower hold.id last.id above.0)
    go true false = refl
    go false true = refl
    go false false = refl

least-listed : (p : held.Hold → Bool) (q : KeptHold → Bool) → ((hold : held.Hold) (kept : KeptHold) → IsHold hold kept → q kept ≡ p hold) → (xs : List held.Hold) (holds : List KeptHold) → AllZip IsHold xs holds → IdsAscend holds → first_id q holds ≡ least_id p (reverse xs)
least-listed p q same [] [] each ascend = refl
least-listed p q same [] (kept ∷ holds) each ascend = absurd each
least-listed p q same (hold ∷ xs) [] each ascend = absurd each
least-listed p q same (hold ∷ xs) (kept ∷ holds) each ascend =
    rw (same hold kept each.0) (go (p hold) (least-listed p q same xs holds each.1 ascend.1))
    ∙ sym (ap (least_id p) (reverse-onto hold xs) ∙ least-onto p (reverse xs) hold (above-first hold kept xs holds each ascend))
  where
    go : (b : Bool) → first_id q holds ≡ least_id p (reverse xs) → option_map (λ (k : KeptHold). k.row.id) (cond b (Some kept) (find q holds)) ≡ cond b (Some hold.id) (least_id p (reverse xs))
    go true rest = ap (λ n. Some n) (same_id hold kept each.0)
    go false rest = rest

-- a test that the definition's holds pass as those do that are kept for them: its least id
pub least-kept : (p : held.Hold → Bool) (q : KeptHold → Bool) → ((hold : held.Hold) (kept : KeptHold) → IsHold hold kept → q kept ≡ p hold) → (h : List Effect) (holds : List KeptHold) → HoldsStand h holds → first_id q holds ≡ least_id p (holds_of h)
least-kept p q same h holds stands =
    least-listed p q same (reverse (holds_of h)) holds stands.each stands.in_order
    ∙ ap (least_id p) (reverse-reverse (holds_of h))

-- and whether any passes it
pub any-kept : (p : held.Hold → Bool) (q : KeptHold → Bool) → ((hold : held.Hold) (kept : KeptHold) → IsHold hold kept → q kept ≡ p hold) → (h : List Effect) (holds : List KeptHold) → HoldsStand h holds → list_any q holds ≡ list_any p (holds_of h)
any-kept p q same h holds stands =
    zip-any IsHold p q same (reverse (holds_of h)) holds stands.each ∙ any-reversed p (holds_of h)

pub length-kept : (h : List Effect) (holds : List KeptHold) → HoldsStand h holds → length holds ≡ length (holds_of h)
length-kept h holds stands = zip-length IsHold (reverse (holds_of h)) holds stands.each ∙ length-reverse (holds_of h)

-- what is shown of the hold of an id
none-above : (id n : ℕ) (holds : List held.Hold) → n ≡ id → HeldAbove n holds → hold_at holds id ≡ None
none-above id n [] same above = refl
none-above id n (hold ∷ holds) same above =
    rw (ne_eqb hold.id id (λ e. absurd (apart hold.id above.0 e))) (none-above id n holds same above.1)
  where
    apart : (m : ℕ) → n < m → m ≡ id → ⊥
    apart m less e = absurd (omega arith)

-- what is the same of a hold and of the one that is kept for it
module _ {X : Type 0} (f : KeptHold → X) (g : held.Hold → X) (same : (hold : held.Hold) (kept : KeptHold) → IsHold hold kept → f kept ≡ g hold) (id : ℕ) where
  found-listed : (xs : List held.Hold) (holds : List KeptHold) → AllZip IsHold xs holds → IdsAscend holds → option_map f (hold_of holds id) ≡ option_map g (hold_at (reverse xs) id)
  found-listed [] [] each ascend = refl
  found-listed [] (kept ∷ holds) each ascend = absurd each
  found-listed (hold ∷ xs) [] each ascend = absurd each
  found-listed (hold ∷ xs) (kept ∷ holds) each ascend =
      rw (ap (λ n. n == id) (same_id hold kept each.0)) (go (hold.id == id) refl (found-listed xs holds each.1 ascend.1))
      ∙ sym (ap (λ (hs : List held.Hold). option_map g (hold_at hs id)) (reverse-onto hold xs) ∙ ap (option_map g) (find-append (λ (it : held.Hold). it.id == id) (reverse xs) (hold ∷ [])))
    where
      or_none : (o : Option held.Hold) → option_or o None ≡ o
      or_none None = refl
      or_none (Some it) = refl

      go : (b : Bool) → (hold.id == id) ≡ b → option_map f (hold_of holds id) ≡ option_map g (hold_at (reverse xs) id) → option_map f (cond b (Some kept) (hold_of holds id)) ≡ option_map g (option_or (hold_at (reverse xs) id) (cond b (Some hold) None))
      go true is rest =
          rw (none-above id hold.id (reverse xs) (eqb-true hold.id id is) (above-first hold kept xs holds each ascend))
          (ap (λ x. Some x) (same hold kept each.0))
      go false other rest = rest ∙ ap (option_map g) (sym (or_none (hold_at (reverse xs) id)))

  found-kept : (h : List Effect) (holds : List KeptHold) → HoldsStand h holds → option_map f (hold_of holds id) ≡ option_map g (hold_at (holds_of h) id)
  found-kept h holds stands =
      found-listed (reverse (holds_of h)) holds stands.each stands.in_order
      ∙ ap (λ (hs : List held.Hold). option_map g (hold_at hs id)) (reverse-reverse (holds_of h))

pub shown-kept : (id : ℕ) (h : List Effect) (holds : List KeptHold) → HoldsStand h holds → option_map shown_row (option_map (λ (k : KeptHold). k.row) (hold_of holds id)) ≡ option_map shown (hold_at (holds_of h) id)
shown-kept id h holds stands =
    twice (hold_of holds id) ∙ found-kept (λ (k : KeptHold). shown_row k.row) shown (λ hold kept is. is.shows) id h holds stands
  where
    twice : (o : Option KeptHold) → option_map shown_row (option_map (λ (k : KeptHold). k.row) o) ≡ option_map (λ (k : KeptHold). shown_row k.row) o
    twice None = refl
    twice (Some k) = refl

pub maker-kept : (id : ℕ) (h : List Effect) (holds : List KeptHold) → HoldsStand h holds → option_map (λ (k : KeptHold). k.pass) (hold_of holds id) ≡ option_map (λ (hold : held.Hold). hold.pass) (hold_at (holds_of h) id)
maker-kept id h holds stands = found-kept (λ (k : KeptHold). k.pass) (λ (hold : held.Hold). hold.pass) (λ hold kept is. is.by) id h holds stands

-- whether the row of a hold that is kept says that it owes a set-dirty
abbrev pub row_owes : Option HoldRow → Bool
row_owes None = false
row_owes (Some row) = is_pin row.kind && not (is_none row.written)

pub set_dirty-kept : (id : ℕ) (h : List Effect) (holds : List KeptHold) → HoldsStand h holds → row_owes (option_map (λ (k : KeptHold). k.row) (hold_of holds id)) ≡ owes_set_dirty (hold_at (holds_of h) id)
set_dirty-kept id h holds stands =
    both (hold_of holds id) (hold_at (holds_of h) id)
    (found-kept (λ (k : KeptHold). is_pin k.row.kind && not (is_none k.row.written)) (λ (hold : held.Hold). is_pin hold.kind && not (is_empty hold.owed)) (λ hold kept is. rw (ap (λ (s : Shown). is_pin s.kind) is.shows, is.changed) refl) id h holds stands)
  where
    both : (o : Option KeptHold) (p : Option held.Hold) → option_map (λ (k : KeptHold). is_pin k.row.kind && not (is_none k.row.written)) o ≡ option_map (λ (hold : held.Hold). is_pin hold.kind && not (is_empty hold.owed)) p → row_owes (option_map (λ (k : KeptHold). k.row) o) ≡ owes_set_dirty p
    both None None is = refl
    both None (Some hold) is = absurd (cc)
    both (Some k) None is = absurd (cc)
    both (Some k) (Some hold) is = some is
      where
        some : {a b : Bool} → Some a ≡ Some b → a ≡ b
        some e = cc

-- the range of a hold is that of the one that is kept for it
pub range-kept : (hold : held.Hold) (kept : KeptHold) → IsHold hold kept → row_range kept.row ≡ range_held hold
range-kept hold kept is = ap (λ (s : Shown). whole_range s.at s.len) is.shows

pub keeps_page-kept : (p : ℕ) (hold : held.Hold) (kept : KeptHold) → IsHold hold kept → keeps_page p kept ≡ has_page (range_held hold) p
keeps_page-kept p hold kept is = ap (λ r. has_page r p) (range-kept hold kept is)

pub owes-kept : (p : ℕ) (hold : held.Hold) (kept : KeptHold) → IsHold hold kept → is_unstamped_through p kept ≡ owes_stamp p hold
owes-kept p hold kept is = rw (ap (λ (s : Shown). is_pin s.kind) is.shows, is.owes p) refl

pub past-kept : (size : ℕ) (hold : held.Hold) (kept : KeptHold) → IsHold hold kept → ends_past size kept ≡ nat_lt size (hold.at + hold.len)
past-kept size hold kept is = ap (λ (s : Shown). nat_lt size (s.at + s.len)) is.shows

and_assoc : (a b c : Bool) → ((a && b) && c) ≡ (a && (b && c))
and_assoc true b c = refl
and_assoc false b c = refl

pub bars-kept : (span : Range) (exclusive : Bool) (hold : held.Hold) (kept : KeptHold) → IsHold hold kept → pin_conflicts span exclusive kept ≡ bars_pin span exclusive hold
bars-kept span exclusive hold kept is =
    and_assoc (is_pin kept.row.kind) (exclusive || kept.row.exclusive) (hold_overlaps span kept)
    ∙ ap (λ (s : Shown). is_pin s.kind && ((exclusive || s.exclusive) && share_page (whole_range s.at s.len) span)) is.shows

flip_share : (a b : Range) → share_page a b ≡ share_page b a
flip_share a b = share_page-ends a b ∙ (flip (nat_lt a.from a.to) (nat_lt b.from b.to) _ _ ∙ sym (share_page-ends b a))
  where
    flip : (p q r s : Bool) → (p && q && r && s) ≡ (q && p && s && r)
    flip true true true true = refl
    flip true true true false = refl
    flip true true false true = refl
    flip true true false false = refl
    flip true false r s = refl
    flip false true r s = refl
    flip false false r s = refl

pub shares-kept : (span : Range) (hold : held.Hold) (kept : KeptHold) → IsHold hold kept → hold_overlaps span kept ≡ has_page_of (Some span) hold
shares-kept span hold kept is =
    ap (λ r. share_page r span) (range-kept hold kept is) ∙ flip_share (range_held hold) span

some_page : (r : Range) (b : Bool) → nat_lt r.from r.to ≡ b → list_any (λ p. true) (pages_of r) ≡ b
some_page r true is = rw is (ap (λ n. list_any (λ p. true) (range_with_len (r.from / 4096) n)) (more ((r.to - 1) / 4096) (r.from / 4096) (omega (arith, ltb-true r.from r.to is))))
  where
    more : (a b : ℕ) → b < a + 1 → (a + 1) - b ≡ suc (a - b)
    more a b less = omega arith
some_page r false is = rw is refl

pub bytes-kept : (hold : held.Hold) (kept : KeptHold) → IsHold hold kept → has_bytes kept ≡ has_page_of None hold
bytes-kept hold kept is =
    ap (λ (s : Shown). nat_lt 0 s.len) is.shows
    ∙ sym (some_page (range_held hold) (nat_lt 0 hold.len) (shift hold.at hold.len))
  where
    shift : (at len : ℕ) → nat_lt at (at + len) ≡ nat_lt 0 len
    shift at len = grind (arith, nat_tests)

-- what is found is there
pub found-any : (test : KeptHold → Bool) (holds : List KeptHold) → is_some (first_id test holds) ≡ list_any test holds
found-any test [] = refl
found-any test (kept ∷ holds) = go (test kept) (found-any test holds)
  where
    go : (b : Bool) → is_some (first_id test holds) ≡ list_any test holds → is_some (option_map (λ (k : KeptHold). k.row.id) (cond b (Some kept) (find test holds))) ≡ (b || list_any test holds)
    go true rest = refl
    go false rest = rest

-- The view blocks of the pages that are kept, as a history has them.
use Rattle.std.proofs.Common.{◌≡◌, ℕ, ◌+◌, ◌-◌, ◌*◌, ◌/◌, ◌%◌, ◌<◌, ◌≤◌, zero, suc, Bool, true, false, cond, not, ◌&&◌, ◌||◌, ◌==◌, nat_eq, nat_lt, List, [], ◌∷◌, ◌++◌, Option, None, Some, is_some, refl, sym, ap, ◌∙◌, true≢false, inl, inr, arith}
use Rattle.std.proofs.lemmas.Bool.{eqb-true, eq-eqb, ltb-true, cases_lt}
use Rattle.std.proofs.lemmas.Map.Made.{is_some-lookup}
use Rattle.std.specs.List.{filter, list_any, list_all, range_with_len}
use Rattle.std.specs.Map.{keys_of}
use Rattle.std.specs.Option.{option_map, option_and_then}
use Rattle.cc_entry.specs.Pages.{block_of}
use Rattle.cc_entry.specs.Place.{Range}
use Rattle.cc_entry.specs.declared.call.Call.{Call}
use Rattle.cc_entry.specs.declared.reply.Reply.{Reply}
use Rattle.cc_pages.specs.Pages.{PageFrame, page_at as page_in}
use Rattle.cc_views.specs.Views.{MappedViews, ViewFrames, frames_at}
use Rattle.cc_resident.specs.Residents.{frame_at, page_bytes_at, is_resident as is_kept, all_resident as all_kept, all_mapped, blocks, has_pages, is_block_among, used as used_after}
use Rattle.cc_model.specs.History.{Effect, Did}
use Rattle.cc_model.specs.Residency.{residents, is_resident, block_is_mapped, used_by, used, order_of_use}
use Rattle.cc_laws.proofs.BlockLists.{same-flip}
use Rattle.cc_laws.proofs.Lists1.{among-any, among-range}
use Rattle.cc_laws.proofs.ResidencySteps.{order_of_use-done}

pub both_true : (a b : Bool) → (a && b) ≡ true → (a ≡ true) × (b ≡ true)
both_true true b h = (refl, h)
both_true false b h = absurd (true≢false (sym h))

pub tests_alike : (a b : Bool) → (a ≡ true → b ≡ true) → (b ≡ true → a ≡ true) → a ≡ b
tests_alike true b f g = sym (f refl)
tests_alike false true f g = g refl
tests_alike false false f g = refl

-- a number of a list that passes
pub record PassesIn (f : ℕ → Bool) (xs : List ℕ) : Type 0 where
  pub at : ℕ
  pub there : is_block_among at xs ≡ true
  pub passes : f at ≡ true

pub PassesIn-any : (f : ℕ → Bool) (xs : List ℕ) → list_any f xs ≡ true → PassesIn f xs
PassesIn-any f [] some = absurd (true≢false (sym some))
PassesIn-any f (x ∷ xs) some = by (f x) refl some (PassesIn-any f xs)
  where
    in_rest : PassesIn f xs → PassesIn f (x ∷ xs)
    in_rest w =
        record { at = w.at; there = or_true (x == w.at) (is_block_among w.at xs) w.there; passes = w.passes }
      where
        or_true : (s t : Bool) → t ≡ true → (s || t) ≡ true
        or_true true t e = refl
        or_true false t e = e

    by : (t : Bool) → f x ≡ t → (t || list_any f xs) ≡ true → (list_any f xs ≡ true → PassesIn f xs)
        → PassesIn f (x ∷ xs)
    by true is k rest = record { at = x; there = ap (λ t. t || is_block_among x xs) (eq-eqb x x refl); passes = is }
    by false is k rest = in_rest (rest k)

-- what holds of each number of a range
pub all_range : (f : ℕ → Bool) (a n : ℕ) → ((x : ℕ) → a ≤ x → x < a + n → f x ≡ true)
    → list_all f (range_with_len a n) ≡ true
all_range f a zero h = refl
all_range f a (suc n) h =
    ap (λ t. t && list_all f (range_with_len (a + 1) n)) (h a (omega arith) (omega arith))
    ∙ all_range f (a + 1) n (λ x low high. h x (omega arith) (omega arith))

pub all_among : (f : ℕ → Bool) (x : ℕ) (xs : List ℕ) → list_all f xs ≡ true → is_block_among x xs ≡ true
    → f x ≡ true
all_among f x [] all is = absurd (true≢false (sym is))
all_among f x (y ∷ ys) all is =
    let both = both_true (f y) (list_all f ys) all in
    by (y == x) refl is both.0 (all_among f x ys both.1)
  where
    by : (t : Bool) → (y == x) ≡ t → (t || is_block_among x ys) ≡ true → f y ≡ true
        → (is_block_among x ys ≡ true → f x ≡ true) → f x ≡ true
    by true same k here rest = ap f (sym (eqb-true y x same)) ∙ here
    by false other k here rest = rest k

-- where another test holds wherever one does
pub all_weaker : (f g : ℕ → Bool) (xs : List ℕ) → ((x : ℕ) → f x ≡ true → g x ≡ true) → list_all f xs ≡ true
    → list_all g xs ≡ true
all_weaker f g [] w h = refl
all_weaker f g (x ∷ xs) w h =
    let k = both_true (f x) (list_all f xs) h in
    ap (λ t. t && list_all g xs) (w x k.0) ∙ all_weaker f g xs w k.1

pub filter_all : (f : ℕ → Bool) (xs : List ℕ) → list_all f xs ≡ true → filter f xs ≡ xs
filter_all f [] h = refl
filter_all f (x ∷ xs) h =
    let k = both_true (f x) (list_all f xs) h in
    ap (λ t. cond t (x ∷ filter f xs) (filter f xs)) k.0 ∙ ap (λ l. x ∷ l) (filter_all f xs k.1)

pub filter_alike : (f g : ℕ → Bool) (xs : List ℕ) → ((x : ℕ) → f x ≡ g x) → filter f xs ≡ filter g xs
filter_alike f g [] h = refl
filter_alike f g (x ∷ xs) h =
    ap (λ t. cond t (x ∷ filter f xs) (filter f xs)) (h x)
    ∙ ap (λ l. cond (g x) (x ∷ l) l) (filter_alike f g xs h)

all_filtered : (f g : ℕ → Bool) (xs : List ℕ) → list_all f xs ≡ true → list_all f (filter g xs) ≡ true
all_filtered f g [] h = refl
all_filtered f g (x ∷ xs) h =
    let k = both_true (f x) (list_all f xs) h in
    by (g x) k.0 (all_filtered f g xs k.1)
  where
    by : (s : Bool) → f x ≡ true → list_all f (filter g xs) ≡ true
        → list_all f (cond s (x ∷ filter g xs) (filter g xs)) ≡ true
    by true here rest = ap (λ t. t && list_all f (filter g xs)) here ∙ rest
    by false here rest = rest

all_passed : (f : ℕ → Bool) (xs : List ℕ) → list_all f (filter f xs) ≡ true
all_passed f [] = refl
all_passed f (x ∷ xs) = by (f x) refl (all_passed f xs)
  where
    by : (s : Bool) → f x ≡ s → list_all f (filter f xs) ≡ true
        → list_all f (cond s (x ∷ filter f xs) (filter f xs)) ≡ true
    by true e rest = ap (λ t. t && list_all f (filter f xs)) e ∙ rest
    by false e rest = rest

all_pushed : (f : ℕ → Bool) (xs : List ℕ) (b : ℕ) → list_all f xs ≡ true → f b ≡ true
    → list_all f (xs ++ b ∷ []) ≡ true
all_pushed f [] b h t = ap (λ x. x && true) t
all_pushed f (x ∷ xs) b h t =
    let k = both_true (f x) (list_all f xs) h in
    ap (λ y. y && list_all f (xs ++ b ∷ [])) k.0 ∙ all_pushed f xs b k.1 t

-- what holds of the blocks of an order and of those used holds of those of the order after the use
all_used : (f : ℕ → Bool) (bs order : List ℕ) → list_all f bs ≡ true → list_all f order ≡ true
    → list_all f (used bs order) ≡ true
all_used f [] order new old = old
all_used f (b ∷ bs) order new old =
    let k = both_true (f b) (list_all f bs) new in
    all_used f bs (filter (λ m. not (m == b)) order ++ b ∷ []) k.1
    (all_pushed f (filter (λ m. not (m == b)) order) b (all_filtered f (λ m. not (m == b)) order old) k.0)

-- the two ways to say an order of use after blocks were used
pub used-same : (bs order : List ℕ) → used_after bs order ≡ used bs order
used-same [] order = refl
used-same (b ∷ bs) order = used-same bs (filter (λ m. not (m == b)) order ++ b ∷ [])

-- an order of use has mapped blocks alone
pub order-mapped : (h : List Effect) → list_all (block_is_mapped h) (order_of_use h) ≡ true
unfolding order_of_use
order-mapped [] = refl
order-mapped (e ∷ h) = all_passed (block_is_mapped (e ∷ h)) (used (used_by e h) (order_of_use h))

-- a call that takes no page uses blocks that are mapped after it
pub order-used : (pass : ℕ) (call : Call) (reply : Reply) (h : List Effect) (bs : List ℕ)
    → used_by (Did pass call reply) h ≡ bs
    → list_all (block_is_mapped (Did pass call reply ∷ h)) bs ≡ true
    → list_all (block_is_mapped (Did pass call reply ∷ h)) (order_of_use h) ≡ true
    → order_of_use (Did pass call reply ∷ h) ≡ used bs (order_of_use h)
order-used pass call reply h bs uses new old =
    let f = block_is_mapped (Did pass call reply ∷ h) in
    order_of_use-done pass call reply h ∙ ap (λ l. filter f (used l (order_of_use h))) uses
    ∙ filter_all f (used bs (order_of_use h)) (all_used f bs (order_of_use h) new old)

-- the block of a page that is kept is mapped
pub kept-mapped : (m : MappedViews) (p : ℕ) → is_kept m p ≡ true → is_block_among (block_of p) (blocks m) ≡ true
unfolding frame_at page_bytes_at
kept-mapped m p kept = by (frames_at m (block_of p)) refl kept
  where
    flipped : (b : ℕ) (xs : List ℕ) → list_any (nat_eq b) xs ≡ is_block_among b xs
    flipped b [] = refl
    flipped b (x ∷ xs) =
        ap (λ t. t || list_any (nat_eq b) xs) (same-flip b x) ∙ ap (λ t. (x == b) || t) (flipped b xs)

    by : (o : Option ViewFrames) → frames_at m (block_of p) ≡ o
        → is_some (option_map (λ (frame : PageFrame). frame.bytes) (option_and_then (λ (frames : ViewFrames). page_in frames (p % 64)) o)) ≡ true
        → is_block_among (block_of p) (blocks m) ≡ true
    by None e k = absurd (true≢false (sym k))
    by (Some frames) e k =
        sym (flipped (block_of p) (keys_of m.views)) ∙ sym (is_some-lookup (nat_eq (block_of p)) m.views)
        ∙ ap is_some e

-- a block has a page that is kept where a resident page of the history is in it
pub has_pages-is : (m : MappedViews) (h : List Effect) → ((p : ℕ) → is_kept m p ≡ is_resident h p) → (b : ℕ)
    → has_pages m b ≡ block_is_mapped h b
unfolding has_pages
has_pages-is m h same b = tests_alike _ _ on back
  where
    on : list_any (is_kept m) (range_with_len (64 * b) 64) ≡ true → block_is_mapped h b ≡ true
    on some =
        let w = PassesIn-any (is_kept m) (range_with_len (64 * b) 64) some in
        among-any (λ p. block_of p == b) w.at (residents h) (sym (same w.at) ∙ w.passes)
        (eq-eqb (block_of w.at) b (place w.at (within w.at (64 * b) 64 w.there)))
      where
        place : (p : ℕ) → (64 * b ≤ p) × (p < 64 * b + 64) → p / 64 ≡ b
        place p is = omega (arith, is.0, is.1)

        within : (p a n : ℕ) → is_block_among p (range_with_len a n) ≡ true → (a ≤ p) × (p < a + n)
        within p a zero is = absurd (true≢false (sym is))
        within p a (suc n) is = by (a == p) refl is (within p (a + 1) n)
          where
            by : (t : Bool) → (a == p) ≡ t → (t || is_block_among p (range_with_len (a + 1) n)) ≡ true
                → (is_block_among p (range_with_len (a + 1) n) ≡ true → (a + 1 ≤ p) × (p < a + 1 + n))
                → (a ≤ p) × (p < a + suc n)
            by true e k rest = let q : a ≡ p = eqb-true a p e in (omega (arith, q), omega (arith, q))
            by false e k rest = let w = rest k in (omega (arith, w.0), omega (arith, w.1))

    back : block_is_mapped h b ≡ true → list_any (is_kept m) (range_with_len (64 * b) 64) ≡ true
    back some =
        let w = PassesIn-any (λ p. block_of p == b) (residents h) some in
        let e : block_of w.at ≡ b = eqb-true (block_of w.at) b w.passes in
        among-any (is_kept m) w.at (range_with_len (64 * b) 64)
        (among-range w.at (64 * b) 64 (omega arith) (omega arith)) (same w.at ∙ w.there)

-- the blocks of a range whose pages are kept are mapped
pub kept-all_mapped : (m : MappedViews) (r : Range) → all_kept m r ≡ true → all_mapped m r ≡ true
kept-all_mapped m r kept = by (nat_lt r.from r.to) refl kept
  where
    first : ℕ
    first = r.from / 4096

    pages : ℕ
    pages = ((r.to - 1) / 4096 + 1) - r.from / 4096

    page_in_block : (b : ℕ) → r.from < r.to → r.from / 262144 ≤ b
        → b < r.from / 262144 + (((r.to - 1) / 262144 + 1) - r.from / 262144)
        → (p : ℕ) × (first ≤ p) × (p < first + pages) × (p / 64 ≡ b)
    page_in_block b some low high =
        elim (cases_lt (64 * b) first) [
          | inl before ↦ (first, omega arith, omega arith, omega arith)
          | inr after ↦ (64 * b, omega arith, omega arith, omega arith)
        ]

    by : (t : Bool) → nat_lt r.from r.to ≡ t
        → list_all (is_kept m) (cond t (range_with_len first pages) []) ≡ true
        → list_all (λ b. is_block_among b (blocks m)) (cond t (range_with_len (r.from / 262144) (((r.to - 1) / 262144 + 1) - r.from / 262144)) []) ≡ true
    by false e k = refl
    by true e k =
        all_range (λ b. is_block_among b (blocks m)) (r.from / 262144) (((r.to - 1) / 262144 + 1) - r.from / 262144)
        (λ b low high.
        let w = page_in_block b (ltb-true r.from r.to e) low high in
        ap (λ c. is_block_among c (blocks m)) (sym w.3)
        ∙ kept-mapped m w.0
        (all_among (is_kept m) w.0 (range_with_len first pages) k (among-range w.0 first pages w.1 w.2)))

-- each of a range's blocks is mapped where each is among those of an order
pub mapped-blocks : (h : List Effect) (m : MappedViews) (bs : List ℕ) → blocks m ≡ order_of_use h
    → list_all (λ b. is_block_among b (blocks m)) bs ≡ true → list_all (block_is_mapped h) bs ≡ true
mapped-blocks h m bs order all =
    all_weaker (λ b. is_block_among b (blocks m)) (block_is_mapped h) bs
    (λ b is. all_among (block_is_mapped h) b (order_of_use h) (order-mapped h) (sym (ap (is_block_among b) order) ∙ is)) all

-- Lists of blocks, and tests of them.
use Rattle.std.proofs.Common.{◌≡◌, ℕ, ◌+◌, ◌-◌, ◌<◌, ◌≤◌, zero, suc, Bool, true, false, cond, not, ◌&&◌, ◌||◌, ◌==◌, if◌then◌else◌, List, [], ◌∷◌, ◌++◌, None, Some, is_some, refl, sym, ap, subst, ◌∙◌, true≢false, arith}
use Rattle.std.proofs.lemmas.Bool.{eqb-true, eq-eqb}
use Rattle.std.specs.List.{filter, find, list_any, list_all, range_with_len}
use Rattle.cc_resident.specs.Residents.{is_block_among, order_without, used}

pub both_true : (a b : Bool) → (a && b) ≡ true → (a ≡ true) × (b ≡ true)
both_true true b h = (refl, h)
both_true false b h = absurd (true≢false (sym h))

or_true : (b : Bool) → (b || true) ≡ true
or_true true = refl
or_true false = refl

-- two tests that agree on the numbers of a range
pub any_alike : (f g : ℕ → Bool) (a b n : ℕ) → ((i : ℕ) → i < n → f (a + i) ≡ g (b + i)) → list_any f (range_with_len a n) ≡ list_any g (range_with_len b n)
any_alike f g a b zero h = refl
any_alike f g a b (suc n) h =
    let here : f a ≡ g b = ap f (omega arith) ∙ h 0 (omega arith) ∙ ap g (omega arith) in
    let rest = any_alike f g (a + 1) (b + 1) n (λ i l. ap f (omega arith) ∙ h (i + 1) (omega arith) ∙ ap g (omega arith)) in
    ap (λ x. x || list_any f (range_with_len (a + 1) n)) here ∙ ap (λ x. g b || x) rest

pub any_more : (test : ℕ → Bool) (page end : ℕ) → page < end → list_any test (range_with_len page (end - page)) ≡ (test page || list_any test (range_with_len (page + 1) (end - (page + 1))))
any_more test page end h =
    let n : end - page ≡ suc (end - (page + 1)) = omega arith in
    ap (λ l. list_any test (range_with_len page l)) n

pub any_next : (test : ℕ → Bool) (page end : ℕ) → page < end → test page ≡ false → list_any test (range_with_len page (end - page)) ≡ list_any test (range_with_len (page + 1) (end - (page + 1)))
any_next test page end h f = any_more test page end h ∙ ap (λ b. b || list_any test (range_with_len (page + 1) (end - (page + 1)))) f

pub any_here : (test : ℕ → Bool) (page end : ℕ) → page < end → test page ≡ true → list_any test (range_with_len page (end - page)) ≡ true
any_here test page end h f = any_more test page end h ∙ ap (λ b. b || list_any test (range_with_len (page + 1) (end - (page + 1)))) f

pub find_more : (test : ℕ → Bool) (page end : ℕ) → page < end → find test (range_with_len page (end - page)) ≡ (if test page then Some page else find test (range_with_len (page + 1) (end - (page + 1))))
find_more test page end h =
    let n : end - page ≡ suc (end - (page + 1)) = omega arith in
    ap (λ l. find test (range_with_len page l)) n

-- the first of the numbers of two ranges, one behind the other
pub find_past : (test : ℕ → Bool) (a k n m : ℕ) → k ≡ n + m → find test (range_with_len a n) ≡ None → find test (range_with_len a k) ≡ find test (range_with_len (a + n) m)
find_past test a k zero m e none = ap (λ i. find test (range_with_len i k)) {x = a} {y = a + 0} (omega arith) ∙ ap (λ i. find test (range_with_len (a + 0) i)) {x = k} {y = m} (omega arith)
find_past test a zero (suc n) m e none = absurd (omega arith)
find_past test a (suc k) (suc n) m e none = go (test a) refl (λ rest. find_past test (a + 1) k n m (omega arith) rest)
  where
    go : (b : Bool) → test a ≡ b → (find test (range_with_len (a + 1) n) ≡ None → find test (range_with_len (a + 1) k) ≡ find test (range_with_len (a + 1 + n) m))
        → find test (range_with_len a (suc k)) ≡ find test (range_with_len (a + suc n) m)
    go true is after =
        let found : cond true (Some a) (find test (range_with_len (a + 1) n)) ≡ None = subst (λ b. cond b (Some a) (find test (range_with_len (a + 1) n)) ≡ None) is none in
        absurd (cc)
    go false is after =
        let rest : find test (range_with_len (a + 1) n) ≡ None = subst (λ b. cond b (Some a) (find test (range_with_len (a + 1) n)) ≡ None) is none in
        ap (λ b. cond b (Some a) (find test (range_with_len (a + 1) k))) is
        ∙ after rest
        ∙ ap (λ i. find test (range_with_len i m)) {x = a + 1 + n} {y = a + suc n} (omega arith)

pub find_before : (test : ℕ → Bool) (a k n : ℕ) → n ≤ k → is_some (find test (range_with_len a n)) ≡ true → find test (range_with_len a k) ≡ find test (range_with_len a n)
find_before test a k zero le some = absurd (true≢false (sym some))
find_before test a zero (suc n) le some = absurd (omega arith)
find_before test a (suc k) (suc n) le some = go (test a) refl (λ rest. find_before test (a + 1) k n (omega arith) rest)
  where
    go : (b : Bool) → test a ≡ b → (is_some (find test (range_with_len (a + 1) n)) ≡ true → find test (range_with_len (a + 1) k) ≡ find test (range_with_len (a + 1) n))
        → find test (range_with_len a (suc k)) ≡ find test (range_with_len a (suc n))
    go true is after = ap (λ b. cond b (Some a) (find test (range_with_len (a + 1) k))) is ∙ sym (ap (λ b. cond b (Some a) (find test (range_with_len (a + 1) n))) is)
    go false is after =
        let rest : is_some (find test (range_with_len (a + 1) n)) ≡ true = subst (λ b. is_some (cond b (Some a) (find test (range_with_len (a + 1) n))) ≡ true) is some in
        ap (λ b. cond b (Some a) (find test (range_with_len (a + 1) k))) is
        ∙ after rest
        ∙ sym (ap (λ b. cond b (Some a) (find test (range_with_len (a + 1) n))) is)

-- a number of a range at which a test holds
pub any_within : (f : ℕ → Bool) (a n i : ℕ) → i < n → f (a + i) ≡ true → list_any f (range_with_len a n) ≡ true
any_within f a zero i h t = absurd (omega arith)
any_within f a (suc n) zero h t = ap (λ x. x || list_any f (range_with_len (a + 1) n)) (ap f (omega arith) ∙ t)
any_within f a (suc n) (suc i) h t =
    ap (λ x. f a || x) (any_within f (a + 1) n i (omega arith) (ap f (omega arith) ∙ t)) ∙ or_true (f a)

pub none_within : (f : ℕ → Bool) (a n i : ℕ) → i < n → list_any f (range_with_len a n) ≡ false → f (a + i) ≡ false
none_within f a n i h none = by (f (a + i)) refl
  where
    by : (b : Bool) → f (a + i) ≡ b → f (a + i) ≡ false
    by true e = absurd (true≢false (sym (any_within f a n i h e) ∙ none))
    by false e = e

-- a test that holds wherever another one does
pub any_weaken : (f g : ℕ → Bool) (a n : ℕ) → ((x : ℕ) → f x ≡ true → g x ≡ true) → list_any f (range_with_len a n) ≡ true → list_any g (range_with_len a n) ≡ true
any_weaken f g a zero w h = h
any_weaken f g a (suc n) w h = by (f a) refl h (any_weaken f g (a + 1) n w)
  where
    by : (b : Bool) → f a ≡ b → (b || list_any f (range_with_len (a + 1) n)) ≡ true → (list_any f (range_with_len (a + 1) n) ≡ true → list_any g (range_with_len (a + 1) n) ≡ true) → list_any g (range_with_len a (suc n)) ≡ true
    by true e k rest = ap (λ b. b || list_any g (range_with_len (a + 1) n)) (w a e)
    by false e k rest = ap (λ b. g a || b) (rest k) ∙ or_true (g a)

-- what holds of all holds of each that is among them
pub all_at : (f : ℕ → Bool) (b : ℕ) (xs : List ℕ) → list_all f xs ≡ true → is_block_among b xs ≡ true → f b ≡ true
all_at f b [] h k = absurd (true≢false (sym k))
all_at f b (x ∷ xs) h k =
    let both = both_true (f x) (list_all f xs) h in
    by (x == b) refl k both.0 (all_at f b xs both.1)
  where
    by : (t : Bool) → (x == b) ≡ t → (t || is_block_among b xs) ≡ true → f x ≡ true → (is_block_among b xs ≡ true → f b ≡ true) → f b ≡ true
    by true e o here rest = ap f (sym (eqb-true x b e)) ∙ here
    by false e o here rest = rest o

-- a list without a number that it does not have
pub without_absent : (b : ℕ) (xs : List ℕ) → is_block_among b xs ≡ false → order_without b xs ≡ xs
without_absent b [] h = refl
without_absent b (x ∷ xs) h = by (x == b) refl (without_absent b xs)
  where
    by : (t : Bool) → (x == b) ≡ t → (is_block_among b xs ≡ false → order_without b xs ≡ xs) → order_without b (x ∷ xs) ≡ x ∷ xs
    by true e rest = absurd (true≢false (sym (ap (λ t. t || is_block_among b xs) e) ∙ h))
    by false e rest = ap (λ t. cond (not t) (x ∷ order_without b xs) (order_without b xs)) e ∙ ap (λ l. x ∷ l) (rest (sym (ap (λ t. t || is_block_among b xs) e) ∙ h))

-- what holds of each number of a list
pub all_filter : (f g : ℕ → Bool) (xs : List ℕ) → list_all f xs ≡ true → list_all f (filter g xs) ≡ true
all_filter f g [] h = refl
all_filter f g (x ∷ xs) h =
    let k = both_true (f x) (list_all f xs) h in
    by (g x) k.0 (all_filter f g xs k.1)
  where
    by : (s : Bool) → f x ≡ true → list_all f (filter g xs) ≡ true → list_all f (cond s (x ∷ filter g xs) (filter g xs)) ≡ true
    by true here rest = ap (λ t. t && list_all f (filter g xs)) here ∙ rest
    by false here rest = rest

pub all_weaken : (f g : ℕ → Bool) (xs : List ℕ) → ((x : ℕ) → f x ≡ true → g x ≡ true) → list_all f xs ≡ true → list_all g xs ≡ true
all_weaken f g [] w h = refl
all_weaken f g (x ∷ xs) w h =
    let k = both_true (f x) (list_all f xs) h in
    ap (λ t. t && list_all g xs) (w x k.0) ∙ all_weaken f g xs w k.1

pub all_push : (f : ℕ → Bool) (xs : List ℕ) (b : ℕ) → list_all f xs ≡ true → f b ≡ true → list_all f (xs ++ b ∷ []) ≡ true
all_push f [] b h t = ap (λ x. x && true) t
all_push f (x ∷ xs) b h t =
    let k = both_true (f x) (list_all f xs) h in
    ap (λ y. y && list_all f (xs ++ b ∷ [])) k.0 ∙ all_push f xs b k.1 t

pub all_alike : (f g : ℕ → Bool) (xs : List ℕ) → ((x : ℕ) → f x ≡ g x) → list_all f xs ≡ true → list_all g xs ≡ true
all_alike f g xs e h = all_weaken f g xs (λ x t. sym (e x) ∙ t) h

-- a test that holds of each number but one leaves the list, or takes that one
pub filter_but : (f : ℕ → Bool) (b : ℕ) (xs : List ℕ) → list_all (λ x. (x == b) || f x) xs ≡ true → filter f xs ≡ (if f b then xs else order_without b xs)
filter_but f b xs h = by (f b) refl
  where
    kept : (ys : List ℕ) → f b ≡ true → list_all (λ x. (x == b) || f x) ys ≡ true → filter f ys ≡ ys
    kept [] t k = refl
    kept (y ∷ ys) t k =
        let both = both_true ((y == b) || f y) (list_all (λ x. (x == b) || f x) ys) k in
        let passes : f y ≡ true = elim (y == b) as (λ s. (y == b) ≡ s → (s || f y) ≡ true → f y ≡ true) [ true ↦ λ e o. ap f (eqb-true y b e) ∙ t | false ↦ λ e o. o ] refl both.0 in
        ap (λ s. cond s (y ∷ filter f ys) (filter f ys)) passes ∙ ap (λ l. y ∷ l) (kept ys t both.1)

    gone : (ys : List ℕ) → f b ≡ false → list_all (λ x. (x == b) || f x) ys ≡ true → filter f ys ≡ order_without b ys
    gone [] t k = refl
    gone (y ∷ ys) t k =
        let both = both_true ((y == b) || f y) (list_all (λ x. (x == b) || f x) ys) k in
        let passes : f y ≡ not (y == b) = elim (y == b) as (λ s. (y == b) ≡ s → (s || f y) ≡ true → f y ≡ not s) [ true ↦ λ e o. ap f (eqb-true y b e) ∙ t | false ↦ λ e o. o ] refl both.0 in
        ap (λ s. cond s (y ∷ filter f ys) (filter f ys)) passes ∙ ap (λ l. cond (not (y == b)) (y ∷ l) l) (gone ys t both.1)

    by : (s : Bool) → f b ≡ s → filter f xs ≡ (if f b then xs else order_without b xs)
    by true e = kept xs e h ∙ sym (ap (λ s. if s then xs else order_without b xs) e)
    by false e = gone xs e h ∙ sym (ap (λ s. if s then xs else order_without b xs) e)

pub all_kept : (f : ℕ → Bool) (xs : List ℕ) → list_all f (filter f xs) ≡ true
all_kept f [] = refl
all_kept f (x ∷ xs) = by (f x) refl (all_kept f xs)
  where
    by : (s : Bool) → f x ≡ s → list_all f (filter f xs) ≡ true → list_all f (cond s (x ∷ filter f xs) (filter f xs)) ≡ true
    by true e rest = ap (λ t. t && list_all f (filter f xs)) e ∙ rest
    by false e rest = rest

-- a filter is the same by a test that agrees
pub filter_alike : (f g : ℕ → Bool) (xs : List ℕ) → ((x : ℕ) → f x ≡ g x) → filter f xs ≡ filter g xs
filter_alike f g [] h = refl
filter_alike f g (x ∷ xs) h = ap (λ t. cond t (x ∷ filter f xs) (filter f xs)) (h x) ∙ ap (λ l. cond (g x) (x ∷ l) l) (filter_alike f g xs h)

-- an order of use after one more block
used-append : (xs ys order : List ℕ) → used (xs ++ ys) order ≡ used ys (used xs order)
used-append [] ys order = refl
used-append (x ∷ xs) ys order = used-append xs ys (order_without x order ++ x ∷ [])

range-push : (a n : ℕ) → range_with_len a (suc n) ≡ range_with_len a n ++ (a + n) ∷ []
range-push a zero = ap (λ k. k ∷ []) (omega arith)
range-push a (suc n) =
    let last : a + 1 + n ≡ a + suc n = omega arith in
    ap (λ l. a ∷ l) (range-push (a + 1) n ∙ ap (λ k. range_with_len (a + 1) n ++ k ∷ []) last)

pub used_more : (a block : ℕ) (first order new : List ℕ) → a ≤ block → order ≡ used (range_with_len a (block - a)) first → new ≡ used (block ∷ []) order → new ≡ used (range_with_len a (block + 1 - a)) first
used_more a block first order new h so_far more =
    let n : block + 1 - a ≡ suc (block - a) = omega arith in
    let last : a + (block - a) ≡ block = omega arith in
    more ∙ ap (used (block ∷ [])) so_far ∙ sym (ap (λ k. used (range_with_len a k) first) n ∙ ap (λ l. used l first) (range-push a (block - a) ∙ ap (λ k. range_with_len a (block - a) ++ k ∷ []) last) ∙ used-append (range_with_len a (block - a)) (block ∷ []) first)

pub among_push : (b x : ℕ) (xs : List ℕ) → is_block_among b (xs ++ x ∷ []) ≡ (is_block_among b xs || (x == b))
among_push b x [] = or_false (x == b)
  where
    or_false : (t : Bool) → (t || false) ≡ t
    or_false true = refl
    or_false false = refl
among_push b x (y ∷ xs) = ap (λ t. (y == b) || t) (among_push b x xs) ∙ or_assoc (y == b)
  where
    or_assoc : (t : Bool) → (t || (is_block_among b xs || (x == b))) ≡ ((t || is_block_among b xs) || (x == b))
    or_assoc true = refl
    or_assoc false = refl

among_without : (b x : ℕ) (xs : List ℕ) → (x == b) ≡ false → is_block_among b xs ≡ true → is_block_among b (order_without x xs) ≡ true
among_without b x [] ne h = h
among_without b x (y ∷ xs) ne h = by (y == x) (y == b) refl refl h (among_without b x xs ne)
  where
    by : (s t : Bool) → (y == x) ≡ s → (y == b) ≡ t → ((y == b) || is_block_among b xs) ≡ true → (is_block_among b xs ≡ true → is_block_among b (order_without x xs) ≡ true) → is_block_among b (order_without x (y ∷ xs)) ≡ true
    by s true es et h rest =
        let apart : (y == x) ≡ false = ap (λ k. k == x) (eqb-true y b et) ∙ other in
        ap (λ k. is_block_among b (cond (not k) (y ∷ order_without x xs) (order_without x xs))) apart ∙ ap (λ k. k || is_block_among b (order_without x xs)) et
      where
        other : (b == x) ≡ false
        other = by_case (b == x) refl
          where
            by_case : (k : Bool) → (b == x) ≡ k → (b == x) ≡ false
            by_case true e = absurd (true≢false (sym (eq-eqb x b (sym (eqb-true b x e))) ∙ ne))
            by_case false e = e
    by true false es et h rest = ap (λ k. is_block_among b (cond (not k) (y ∷ order_without x xs) (order_without x xs))) es ∙ rest (sym (ap (λ k. k || is_block_among b xs) et) ∙ h)
    by false false es et h rest =
        ap (λ k. is_block_among b (cond (not k) (y ∷ order_without x xs) (order_without x xs))) es ∙ ap (λ k. k || is_block_among b (order_without x xs)) et ∙ rest (sym (ap (λ k. k || is_block_among b xs) et) ∙ h)

-- a block stays mapped through uses of others, and of itself
pub among_used : (b : ℕ) (bs order : List ℕ) → is_block_among b order ≡ true → is_block_among b (used bs order) ≡ true
among_used b [] order h = h
among_used b (x ∷ bs) order h = among_used b bs (order_without x order ++ x ∷ []) (among_push b x (order_without x order) ∙ by (x == b) refl)
  where
    by : (t : Bool) → (x == b) ≡ t → (is_block_among b (order_without x order) || (x == b)) ≡ true
    by true e = ap (λ t. is_block_among b (order_without x order) || t) e ∙ or_true (is_block_among b (order_without x order))
    by false e = ap (λ t. t || (x == b)) (among_without b x order e h)

-- a test that holds of all keeps the list
pub filter_all : (f : ℕ → Bool) (xs : List ℕ) → list_all f xs ≡ true → filter f xs ≡ xs
filter_all f [] h = refl
filter_all f (x ∷ xs) h =
    let k = both_true (f x) (list_all f xs) h in
    ap (λ t. cond t (x ∷ filter f xs) (filter f xs)) k.0 ∙ ap (λ l. x ∷ l) (filter_all f xs k.1)

-- a number of a range that passes
pub record Passes (f : ℕ → Bool) (a n : ℕ) : Type 0 where
  pub at : ℕ
  pub from : a ≤ at
  pub to : at < a + n
  pub passes : f at ≡ true

pub Passes-any : (f : ℕ → Bool) (a n : ℕ) → list_any f (range_with_len a n) ≡ true → Passes f a n
Passes-any f a zero h = absurd (true≢false (sym h))
Passes-any f a (suc n) h = by (f a) refl h (Passes-any f (a + 1) n)
  where
    by : (b : Bool) → f a ≡ b → (b || list_any f (range_with_len (a + 1) n)) ≡ true → (list_any f (range_with_len (a + 1) n) ≡ true → Passes f (a + 1) n) → Passes f a (suc n)
    by true e k rest = record { at = a; from = omega arith; to = omega arith; passes = e }
    by false e k rest =
        let w = rest k in
        record { at = w.at; from = omega (arith, w.from); to = omega (arith, w.to); passes = w.passes }

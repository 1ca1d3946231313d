-- Rows of blocks in their order: where a block's row stands, and what an edit leaves.
use Rattle.std.proofs.Common.{◌≡◌, ℕ, suc, ◌+◌, ◌-◌, ◌<◌, ◌≤◌, Bool, true, false, nat_lt, ◌&&◌, List, [], ◌∷◌, length, get_or, set, insert, remove, inl, inr, refl, ap, ◌∙◌, sym, subst, arith, if◌then◌else◌, ◌==◌}
use Rattle.std.proofs.lemmas.Bool.{cases_lt}
use Rattle.std.proofs.lemmas.Bool.Decides.{nat_tests}
use Rattle.std.proofs.lemmas.List.{get_or_default}
use Rattle.std.proofs.lemmas.List.Edits.{length-insert, get_or-insert_below, get_or-insert_at, get_or-insert_above, length-remove, get_or-remove_below, get_or-remove_above}
use Rattle.std.proofs.lemmas.List.Sums.{sum_by-cons, sum_by-set, sum_by-remove}
use Rattle.std.specs.List.Sorted.{IsNonDecreasingBy, IsPartitionPoint}
use Rattle.cc_holds.specs.Blocks.{holds_at, AreBlockRows, IsPlaceOf, one_within}
use Rattle.cc_holds.specs.declared.block_rows.BlockRow.{BlockRow}

pub rows-rise : (rows : List BlockRow) → AreBlockRows rows → IsNonDecreasingBy (λ row. row.block) rows
rows-rise rows are i j d le within = elim (cases_lt i j) [
  | inl lt ↦ let less = are.ascend i j d lt within in omega (arith, less)
  | inr ge1 ↦ let same : i ≡ j = omega arith in subst (λ k. (get_or rows i d).block ≤ (get_or rows k d).block) same (omega arith)
]

pub place-at : (block : ℕ) (rows : List BlockRow) (place : ℕ) → place ≤ length rows → IsPartitionPoint (λ row. nat_lt row.block block ≡ true) (λ row. nat_lt row.block block ≡ false) rows place → IsPlaceOf block rows place
place-at block rows place within point = record {
  within = within;
  before = λ k d lt. let e = point.0 k d (omega arith) lt in grind (arith, nat_tests);
  after = λ k d le lt. let e = point.1 k d le lt in grind (arith, nat_tests);
}

-- rows of other blocks
none-at : (b : ℕ) (rows : List BlockRow) → ((k : ℕ) (d : BlockRow) → k < length rows → ((get_or rows k d).block == b) ≡ false) → holds_at b rows ≡ 0
none-at b [] others = refl
none-at b (row ∷ rows) others =
    let first = others 0 row (omega arith) in
    let rest = none-at b rows (λ k d lt. others (suc k) d (omega arith)) in
    sum_by-cons (λ (r : BlockRow). if r.block == b then r.holds else 0) row rows
    ∙ (ap (λ t. (if t then row.holds else 0) + holds_at b rows) first
    ∙ (let zeros : 0 + holds_at b rows ≡ 0 = omega (arith, rest) in zeros))

-- where the row at a block's place is past the block, no row is the block's
others-at : (block : ℕ) (rows : List BlockRow) (place : ℕ) → AreBlockRows rows → IsPlaceOf block rows place → ((d : BlockRow) → place < length rows → block < (get_or rows place d).block) → (k : ℕ) (d : BlockRow) → k < length rows → ((get_or rows k d).block == block) ≡ false
others-at block rows place are at other k d within = elim (cases_lt k place) [
  | inl lt ↦ let less = at.before k d lt in grind (arith, nat_tests)
  | inr ge2 ↦ elim (cases_lt place k) [
    | inl past ↦ let less = are.ascend place k d past within in let more = other d (omega arith) in grind (arith, nat_tests)
    | inr le ↦ let same : place ≡ k = omega arith in let more = subst (λ i. block < (get_or rows i d).block) same (other d (omega arith)) in grind (arith, nat_tests)
  ]
]

-- The row at a block's place is the block's.
pub record Found (block : ℕ) (rows : List BlockRow) (place : ℕ) : Type 0 where
  pub within : place < length rows
  pub same : (d : BlockRow) → (get_or rows place d).block ≡ block

-- so it is where a hold has a byte in the block
pub found-held : (block : ℕ) (rows : List BlockRow) (place : ℕ) → AreBlockRows rows → IsPlaceOf block rows place → 0 < holds_at block rows → Found block rows place
found-held block rows place are at some = elim (cases_lt place (length rows)) [
  | inl within ↦ record { within = within; same = λ d. same d within }
  | inr past ↦ let none = none-at block rows (others-at block rows place are at (λ d lt. absurd (omega arith))) in absurd (omega arith)
]
  where
    same : (d : BlockRow) → place < length rows → (get_or rows place d).block ≡ block
    same d within =
        let le = at.after place d (omega arith) within in
        elim (cases_lt block (get_or rows place d).block) [
          | inl less ↦
              let none = none-at block rows (others-at block rows place are at (λ e lt. subst (λ (row : BlockRow). block < row.block) (get_or_default rows place d e within) less)) in
              absurd (omega arith)
          | inr ge3 ↦ omega arith
        ]

-- a test of the row at a place
abbrev pub IsTest : ℕ → ℕ → List BlockRow → Bool → Type 0
IsTest block place rows r = (d : BlockRow) → r ≡ (nat_lt place (length rows) && ((get_or rows place d).block == block))

none : BlockRow
none = record { block = 0; holds = 0 }

pub test-within : (block place : ℕ) (rows : List BlockRow) (r : Bool) → IsTest block place rows r → r ≡ true → place < length rows
test-within block place rows r test passes = let e = test none in grind (arith, nat_tests)

test-past : (block place : ℕ) (rows : List BlockRow) (r : Bool) → IsTest block place rows r → r ≡ false → IsPlaceOf block rows place → (d : BlockRow) → place < length rows → block < (get_or rows place d).block
test-past block place rows r test fails at d within =
    let e = test d in
    let le = at.after place d (omega arith) within in
    grind (arith, nat_tests)

less : (x y u v : BlockRow) → x ≡ u → y ≡ v → u.block < v.block → x.block < y.block
less x y u v ex ey lt = subst (λ (r : BlockRow). r.block < y.block) (sym ex) (subst (λ (r : BlockRow). u.block < r.block) (sym ey) lt)

module _ (rows : List BlockRow) (place : ℕ) (y : BlockRow) (within : place ≤ length rows) where
  insert-here : (d : BlockRow) (k : ℕ) → place ≡ k → get_or (insert rows place y) k d ≡ y
  insert-here d k same = subst (λ i. get_or (insert rows place y) i d ≡ y) same (get_or-insert_at rows place y d within)

  insert-past : (d : BlockRow) (k : ℕ) → place < k → get_or (insert rows place y) k d ≡ get_or rows (k - 1) d
  insert-past d k past =
      let e : k - 1 + 1 ≡ k = omega arith in
      subst (λ i. get_or (insert rows place y) i d ≡ get_or rows (k - 1) d) e (get_or-insert_above rows place y d (k - 1) (omega arith) within)

-- a row goes in at its block's place, before the first of a later block
rows-inserted : (block place n : ℕ) (rows : List BlockRow) → AreBlockRows rows → IsPlaceOf block rows place → 0 < n → ((d : BlockRow) → place < length rows → block < (get_or rows place d).block) → AreBlockRows (insert rows place (record { block = block; holds = n }))
rows-inserted block place n rows are at some other = record {
  ascend = λ i j d lt within. elim (cases_lt j place) [
    | inl jb ↦ less _ _ _ _ (below i d (omega arith)) (below j d jb) (are.ascend i j d lt (omega arith))
    | inr ge4 ↦ elim (cases_lt place j) [
      | inl jp ↦ elim (cases_lt i place) [
        | inl ib ↦ less _ _ _ _ (below i d ib) (insert-past rows place y at.within d j jp) (are.ascend i (j - 1) d (omega arith) (omega (arith, long)))
        | inr ge5 ↦ elim (cases_lt place i) [
          | inl ip ↦ less _ _ _ _ (insert-past rows place y at.within d i ip) (insert-past rows place y at.within d j jp) (are.ascend (i - 1) (j - 1) d (omega arith) (omega (arith, long)))
          | inr ge6 ↦ less _ _ _ _ (insert-here rows place y at.within d i (omega arith)) (insert-past rows place y at.within d j jp) (after (j - 1) d (omega arith) (omega (arith, long)))
        ]
      ]
      | inr ge7 ↦ less _ _ _ _ (below i d (omega arith)) (insert-here rows place y at.within d j (omega arith)) (at.before i d (omega arith))
    ]
  ];
  held = λ k d within. elim (cases_lt k place) [
    | inl kb ↦ subst (λ (r : BlockRow). 0 < r.holds) (sym (below k d kb)) (are.held k d (omega (arith, at.within)))
    | inr ge8 ↦ elim (cases_lt place k) [
      | inl kp ↦ subst (λ (r : BlockRow). 0 < r.holds) (sym (insert-past rows place y at.within d k kp)) (are.held (k - 1) d (omega (arith, long)))
      | inr ge9 ↦ subst (λ (r : BlockRow). 0 < r.holds) (sym (insert-here rows place y at.within d k (omega arith))) some
    ]
  ];
}
  where
    y : BlockRow
    y = record { block = block; holds = n }

    long : length (insert rows place y) ≡ length rows + 1
    long = length-insert rows place y at.within

    below : (k : ℕ) (d : BlockRow) → k < place → get_or (insert rows place y) k d ≡ get_or rows k d
    below k d lt = get_or-insert_below rows place y d k lt at.within

    after : (k : ℕ) (d : BlockRow) → place ≤ k → k < length rows → block < (get_or rows k d).block
    after k d le within =
        let past = other d (omega arith) in
        elim (cases_lt place k) [
          | inl lt ↦ let more = are.ascend place k d lt within in omega arith
          | inr ge10 ↦ let same : place ≡ k = omega arith in subst (λ i. block < (get_or rows i d).block) same past
        ]

-- where the test has failed
pub rows-noted : (block place : ℕ) (rows : List BlockRow) (r : Bool) → AreBlockRows rows → IsPlaceOf block rows place → IsTest block place rows r → r ≡ false → AreBlockRows (insert rows place (record { block = block; holds = 1 }))
rows-noted block place rows r are at test fails =
    rows-inserted block place 1 rows are at (omega arith) (test-past block place rows r test fails at)

pub rows-removed : (rows : List BlockRow) (place : ℕ) → AreBlockRows rows → place < length rows → AreBlockRows (remove rows place)
rows-removed rows place are within = record {
  ascend = λ i j d lt jw. elim (cases_lt j place) [
    | inl jb ↦ less _ _ _ _ (below i d (omega arith)) (below j d jb) (are.ascend i j d lt (omega arith))
    | inr ge11 ↦ elim (cases_lt i place) [
      | inl ib ↦ less _ _ _ _ (below i d ib) (above j d (omega arith)) (are.ascend i (j + 1) d (omega arith) (omega (arith, short)))
      | inr ge12 ↦ less _ _ _ _ (above i d (omega arith)) (above j d (omega arith)) (are.ascend (i + 1) (j + 1) d (omega arith) (omega (arith, short)))
    ]
  ];
  held = λ k d kw. elim (cases_lt k place) [
    | inl kb ↦ subst (λ (r : BlockRow). 0 < r.holds) (sym (below k d kb)) (are.held k d (omega arith))
    | inr ge13 ↦ subst (λ (r : BlockRow). 0 < r.holds) (sym (above k d (omega arith))) (are.held (k + 1) d (omega (arith, short)))
  ];
}
  where
    short : length (remove rows place) + 1 ≡ length rows
    short = length-remove rows place within

    below : (k : ℕ) (d : BlockRow) → k < place → get_or (remove rows place) k d ≡ get_or rows k d
    below k d lt = get_or-remove_below rows place d k lt within

    above : (k : ℕ) (d : BlockRow) → place ≤ k → get_or (remove rows place) k d ≡ get_or rows (k + 1) d
    above k d le = get_or-remove_above rows place d k le within

-- the last hold of a block ends
pub removed-at : (block place b : ℕ) (rows : List BlockRow) (d : BlockRow) → Found block rows place → (get_or rows place d).holds ≡ 1 → holds_at b rows ≡ holds_at b (remove rows place) + (if block == b then 1 else 0)
removed-at block place b rows d found one =
    sym (sum_by-remove (λ (r : BlockRow). if r.block == b then r.holds else 0) rows place d found.within)
    ∙ (ap (λ n. holds_at b (remove rows place) + (if n == b then (get_or rows place d).holds else 0)) (found.same d)
    ∙ ap (λ n. holds_at b (remove rows place) + (if block == b then n else 0)) one)

-- a hold of a block ends that is not the last
pub lowered-at : (block place b : ℕ) (rows : List BlockRow) (d y : BlockRow) → Found block rows place → 0 < (get_or rows place d).holds → y.block ≡ (get_or rows place d).block → y.holds ≡ (get_or rows place d).holds - 1 → holds_at b rows ≡ holds_at b (set rows place y) + (if block == b then 1 else 0)
lowered-at block place b rows d y found some same fewer =
    go (block == b) y.holds (get_or rows place d).holds
    (ap (λ m. holds_at b (set rows place y) + (if m == b then (get_or rows place d).holds else 0)) (sym (found.same d))
    ∙ (sum_by-set (λ (r : BlockRow). if r.block == b then r.holds else 0) rows place y d found.within
    ∙ ap (λ m. holds_at b rows + (if m == b then y.holds else 0)) (same ∙ found.same d)))
    (omega (arith, fewer))
  where
    go : (t : Bool) (less more : ℕ) → holds_at b (set rows place y) + (if t then more else 0) ≡ holds_at b rows + (if t then less else 0) → more ≡ less + 1 → holds_at b rows ≡ holds_at b (set rows place y) + (if t then 1 else 0)
    go true less more e by = omega arith
    go false less more e by = omega arith

-- one number more of a range
pub one-more : (first block b : ℕ) → first ≤ block → one_within first block b + (if block == b then 1 else 0) ≡ one_within first (block + 1) b
one-more first block b le = grind (arith, nat_tests)

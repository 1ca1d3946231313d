-- The blocks of rows, with those of a range: each is there once, and as many as there are different ones.
use Rattle.std.specs.Prelude.{◌≡◌, ℕ, zero, suc, ◌+◌, ◌-◌, ◌<◌, ◌≤◌, Bool, true, false, not, ◌&&◌, ◌||◌, ◌==◌, nat_eq, nat_lt, nat_le, List, [], ◌∷◌, ◌++◌, length, map, count_by, if◌then◌else◌, refl}
use Rattle.std.specs.Cmp.{nat_eq_equiv}
use Rattle.std.specs.List.{AllByRecursion, IsDistinct, list_any, range_with_len}
use Rattle.std.specs.Set.{distinct_count, is_member, unique_keys}
use Rattle.std.proofs.Common.{cond, get_or, take, drop, inl, inr, ap, sym, ◌∙◌, arith}
use Rattle.std.proofs.lemmas.Bool.{cases_lt}
use Rattle.std.proofs.lemmas.Bool.Decides.{nat_tests}
use Rattle.std.proofs.lemmas.List.{length-append, length-take, length-drop, length-map, get_or-map}
use Rattle.std.proofs.lemmas.List.FromFn.{length-range_with_len}
use Rattle.std.proofs.lemmas.List.Folds.{list_any-append}
use Rattle.std.proofs.lemmas.List.Sums.{sum_by-cons}
use Rattle.std.proofs.lemmas.Map.Made.{length-from_keys}
use Rattle.cc_model.specs.Numbers.{is_among}
use Rattle.cc_laws.proofs.BlockPages.{is_member-among}
use Rattle.cc_laws.proofs.Lists1.{count-le}
use Rattle.cc_holds.specs.Blocks.{holds_at, AreBlockRows, IsPlaceOf, HasHeldBlocks}
use Rattle.cc_holds.specs.declared.block_rows.BlockRow.{BlockRow}

pub is_member-range : (first n b : ℕ) → is_member nat_eq (range_with_len first n) b ≡ (nat_le first b && nat_lt b (first + n))
is_member-range first zero b = grind (arith, nat_tests)
is_member-range first (suc n) b =
    let rest = is_member-range (first + 1) n b in
    grind (arith, nat_tests, rest)

-- a number before a range is not in it
is_member-later : (first n : ℕ) → is_member nat_eq (range_with_len (first + 1) n) first ≡ false
is_member-later first n =
    let is = is_member-range (first + 1) n first in
    grind (arith, nat_tests, is)

range-suc : (first n b : ℕ) → b ≡ first + n → range_with_len first (suc n) ≡ range_with_len first n ++ b ∷ []
range-suc first zero b e = ap (λ k. k ∷ []) (omega arith)
range-suc first (suc n) b e = ap (λ rest. first ∷ rest) (range-suc (first + 1) n b (omega arith))

append-assoc : (xs ys zs : List ℕ) → (xs ++ ys) ++ zs ≡ xs ++ (ys ++ zs)
append-assoc [] ys zs = refl
append-assoc (x ∷ xs) ys zs = ap (λ rest. x ∷ rest) (append-assoc xs ys zs)

-- the next number of a range goes in behind those before it
pub range-more : (before : List ℕ) (new old : List ℕ) (first b : ℕ) → first ≤ b → old ≡ before ++ range_with_len first (b - first) → new ≡ old ++ b ∷ [] → new ≡ before ++ range_with_len first (b + 1 - first)
range-more before new old first b le was is =
    let next : b + 1 - first ≡ suc (b - first) = omega arith in
    is
    ∙ (ap (λ bs. bs ++ b ∷ []) was
    ∙ (append-assoc before (range_with_len first (b - first)) (b ∷ [])
    ∙ ap (λ bs. before ++ bs) (sym (ap (range_with_len first) next ∙ range-suc first (b - first) b (omega arith)))))

-- lists of the same numbers have as many different ones
pub count-among : (ns ms : List ℕ) → ((b : ℕ) → is_among b ns ≡ is_among b ms) → distinct_count nat_eq ns ≡ distinct_count nat_eq ms
count-among ns ms same = even (count-le ns ms (goes ns ms same)) (count-le ms ns (goes ms ns (λ b. sym (same b))))
  where
    even : {n m : ℕ} → n ≤ m → m ≤ n → n ≡ m
    even a b = omega arith

    goes : (xs bs : List ℕ) → ((b : ℕ) → is_among b xs ≡ is_among b bs) → (b : ℕ) → is_member nat_eq xs b ≡ true → is_member nat_eq bs b ≡ true
    goes xs bs same b is = is_member-among b bs ∙ (sym (same b) ∙ (sym (is_member-among b xs) ∙ is))

-- numbers of which none is there twice are as many as the different ones of a list that has the same
length-among : (ns ms : List ℕ) → ((b : ℕ) → is_among b ns ≡ is_among b ms) → IsDistinct nat_eq ns → length ns ≡ distinct_count nat_eq ms
length-among ns ms same distinct =
    length-from_keys nat_eq_equiv ns ms distinct (λ b. is_member-among b ns ∙ (same b ∙ sym (is_member-among b ms)))

count_by-cons : (p : ℕ → Bool) (x : ℕ) (xs : List ℕ) → count_by p (x ∷ xs) ≡ cond (p x) 1 0 + count_by p xs
count_by-cons p x xs = sum_by-cons (λ b. cond (p b) 1 0) x xs

distinct_count-cons : (x : ℕ) (xs : List ℕ) → distinct_count nat_eq (x ∷ xs) ≡ cond (not (is_member nat_eq xs x)) 1 0 + distinct_count nat_eq xs
distinct_count-cons x xs = go (is_member nat_eq xs x)
  where
    go : (b : Bool) → length (cond b (unique_keys nat_eq xs) (x ∷ unique_keys nat_eq xs)) ≡ cond (not b) 1 0 + length (unique_keys nat_eq xs)
    go true = omega arith
    go false = omega arith

distinct_count-range : (first n : ℕ) → distinct_count nat_eq (range_with_len first n) ≡ n
distinct_count-range first zero = refl
distinct_count-range first (suc n) =
    let step = distinct_count-cons first (range_with_len (first + 1) n) in
    let none = is_member-later first n in
    let rest = distinct_count-range (first + 1) n in
    rw (step, none, rest) (omega arith)

apart-member : (x : ℕ) (xs : List ℕ) → AllByRecursion (λ y. nat_eq x y ≡ false) xs → is_member nat_eq xs x ≡ false
apart-member x [] apart = refl
apart-member x (y ∷ ys) apart = rw (apart.0) (apart-member x ys apart.1)

-- of numbers of which none is there twice, those count that another list has not
distinct_count-apart : (bs others : List ℕ) → IsDistinct nat_eq bs → distinct_count nat_eq (bs ++ others) ≡ count_by (λ b. not (is_member nat_eq others b)) bs + distinct_count nat_eq others
unfolding IsDistinct
distinct_count-apart [] others distinct = omega arith
distinct_count-apart (b ∷ bs) others distinct =
    let rest = distinct_count-apart bs others distinct.1 in
    let both = list_any-append (nat_eq b) bs others in
    let none = apart-member b bs distinct.0 in
    let same : is_member nat_eq (bs ++ others) b ≡ is_member nat_eq others b = both ∙ ap (λ t. t || is_member nat_eq others b) none in
    let step = distinct_count-cons b (bs ++ others) in
    let counted = count_by-cons (λ n. not (is_member nat_eq others n)) b bs in
    rw (step, counted, same, rest) (omega arith)

-- numbers that pass, but for those from one place to another
count-outside : (q : ℕ → Bool) (bs : List ℕ) (i j : ℕ) → i ≤ j → j ≤ length bs → ((k : ℕ) → k < i → q (get_or bs k 0) ≡ true) → ((k : ℕ) → i ≤ k → k < j → q (get_or bs k 0) ≡ false) → ((k : ℕ) → j ≤ k → k < length bs → q (get_or bs k 0) ≡ true) → count_by q bs + j ≡ i + length bs
count-outside q [] i j le within before between after = omega arith
count-outside q (b ∷ bs) i zero le within before between after =
    let rest = count-outside q bs 0 0 (omega arith) (omega arith) (λ k lt. absurd (omega arith)) (λ k ge lt. absurd (omega arith)) (λ k ge lt. after (suc k) (omega arith) (omega arith)) in
    let here : q b ≡ true = after 0 (omega arith) (omega arith) in
    rw (count_by-cons q b bs, here) (omega (arith, rest))
count-outside q (b ∷ bs) zero (suc j) le within before between after =
    let rest = count-outside q bs 0 j (omega arith) (omega arith) (λ k lt. absurd (omega arith)) (λ k ge lt. between (suc k) (omega arith) (omega arith)) (λ k ge lt. after (suc k) (omega arith) (omega arith)) in
    let here : q b ≡ false = between 0 (omega arith) (omega arith) in
    rw (count_by-cons q b bs, here) (omega (arith, rest))
count-outside q (b ∷ bs) (suc i) (suc j) le within before between after =
    let rest = count-outside q bs i j (omega arith) (omega arith) (λ k lt. before (suc k) (omega arith)) (λ k ge lt. between (suc k) (omega arith) (omega arith)) (λ k ge lt. after (suc k) (omega arith) (omega arith)) in
    let here : q b ≡ true = before 0 (omega arith) in
    rw (count_by-cons q b bs, here) (omega (arith, rest))

-- where none passes from one place to another, one that passes is before the one or from the other on
any-outside : (p : BlockRow → Bool) (rows : List BlockRow) (i j : ℕ) → i ≤ j → ((k : ℕ) (d : BlockRow) → i ≤ k → k < j → k < length rows → p (get_or rows k d) ≡ false) → (list_any p (take i rows) || list_any p (drop j rows)) ≡ list_any p rows
any-outside p [] zero zero le between = refl
any-outside p [] zero (suc j) le between = refl
any-outside p [] (suc i) zero le between = refl
any-outside p [] (suc i) (suc j) le between = refl
any-outside p (row ∷ rows) zero zero le between = refl
any-outside p (row ∷ rows) (suc i) zero le between = absurd (omega arith)
any-outside p (row ∷ rows) zero (suc j) le between =
    let rest = any-outside p rows 0 j (omega arith) (λ k d ge lt within. between (suc k) d (omega arith) (omega arith) (omega arith)) in
    let here : p row ≡ false = between 0 row (omega arith) (omega arith) (omega arith) in
    rw here rest
any-outside p (row ∷ rows) (suc i) (suc j) le between =
    go (p row) (any-outside p rows i j (omega arith) (λ k d ge lt within. between (suc k) d (omega arith) (omega arith) (omega arith)))
  where
    go : (t : Bool) → (list_any p (take i rows) || list_any p (drop j rows)) ≡ list_any p rows → ((t || list_any p (take i rows)) || list_any p (drop j rows)) ≡ (t || list_any p rows)
    go true rest = refl
    go false rest = rest

among-map : (b : ℕ) (rows : List BlockRow) → is_among b (map (λ row. row.block) rows) ≡ list_any (λ row. row.block == b) rows
among-map b [] = refl
among-map b (row ∷ rows) = ap (λ t. (row.block == b) || t) (among-map b rows)

-- each row is that of a hold at least
any-held : (b : ℕ) (rows : List BlockRow) → ((k : ℕ) (d : BlockRow) → k < length rows → 0 < (get_or rows k d).holds) → list_any (λ row. row.block == b) rows ≡ nat_lt 0 (holds_at b rows)
any-held b [] held = refl
any-held b (row ∷ rows) held =
    go (row.block == b) (any-held b rows (λ k d lt. held (suc k) d (omega arith))) (held 0 row (omega arith))
    ∙ ap (nat_lt 0) (sym (sum_by-cons (λ (r : BlockRow). if r.block == b then r.holds else 0) row rows))
  where
    go : (t : Bool) → list_any (λ row. row.block == b) rows ≡ nat_lt 0 (holds_at b rows) → 0 < row.holds → (t || list_any (λ row. row.block == b) rows) ≡ nat_lt 0 ((if t then row.holds else 0) + holds_at b rows)
    go true rest some = grind (arith, nat_tests)
    go false rest some = let same : holds_at b rows ≡ 0 + holds_at b rows = omega arith in rest ∙ ap (nat_lt 0) same

-- the blocks of the rows
pub has-blocks : (rows : List BlockRow) → AreBlockRows rows → HasHeldBlocks rows (map (λ row. row.block) rows)
has-blocks rows are b = among-map b rows ∙ any-held b rows are.held

pub distinct-blocks : (rows : List BlockRow) → AreBlockRows rows → IsDistinct nat_eq (map (λ row. row.block) rows)
unfolding IsDistinct
distinct-blocks [] are = tt
distinct-blocks (row ∷ rows) are = (
  later row.block rows (λ k d lt. are.ascend 0 (suc k) d (omega arith) (omega arith)),
  distinct-blocks rows (record {
    ascend = λ i j d lt within. are.ascend (suc i) (suc j) d (omega arith) (omega arith);
    held = λ k d within. are.held (suc k) d (omega arith);
  }),
)
  where
    later : (m : ℕ) (rows : List BlockRow) → ((k : ℕ) (d : BlockRow) → k < length rows → m < (get_or rows k d).block) → AllByRecursion (λ y. nat_eq m y ≡ false) (map (λ row. row.block) rows)
    later m [] past = tt
    later m (row ∷ rows) past =
        let more = past 0 row (omega arith) in
        (grind (arith, nat_tests), later m rows (λ k d lt. past (suc k) d (omega arith)))

pub count-blocks : (rows : List BlockRow) (bs : List ℕ) → AreBlockRows rows → HasHeldBlocks rows bs → length rows ≡ distinct_count nat_eq bs
count-blocks rows bs are has =
    sym (length-map rows (λ (row : BlockRow). row.block))
    ∙ length-among (map (λ row. row.block) rows) bs (λ b. has-blocks rows are b ∙ sym (has b)) (distinct-blocks rows are)

-- The places of the first block of a range and of the one behind it.
module _ (rows : List BlockRow) (are : AreBlockRows rows) (first end i j : ℕ) (le : first ≤ end) (at : IsPlaceOf first rows i) (past : IsPlaceOf end rows j) where
  none : BlockRow
  none = record { block = 0; holds = 0 }

  abbrev range : List ℕ
  range = range_with_len first (end - first)

  in-range : (b : ℕ) → is_member nat_eq range b ≡ (nat_le first b && nat_lt b end)
  in-range b =
      let is = is_member-range first (end - first) b in
      let to : first + (end - first) ≡ end = omega arith in
      is ∙ ap (λ n. nat_le first b && nat_lt b n) to

  places-rise : i ≤ j
  places-rise = elim (cases_lt j i) [
    | inl lt ↦ let less = at.before j none lt in let more = past.after j none (omega arith) (omega (arith, at.within)) in absurd (omega arith)
    | inr ge ↦ ge
  ]

  block-at : (k : ℕ) → k < length rows → get_or (map (λ row. row.block) rows) k 0 ≡ (get_or rows k none).block
  block-at k within = get_or-map (λ (row : BlockRow). row.block) rows k none 0 within

  outside : count_by (λ b. not (is_member nat_eq range b)) (map (λ row. row.block) rows) + j ≡ i + length rows
  outside =
      let same = length-map rows (λ (row : BlockRow). row.block) in
      let all = count-outside (λ b. not (is_member nat_eq range b)) (map (λ row. row.block) rows) i j places-rise (omega (arith, same, past.within))
      (λ k lt. let w : k < length rows = omega (arith, at.within) in let less = at.before k none lt in ap not (ap (is_member nat_eq range) (block-at k w) ∙ in-range (get_or rows k none).block) ∙ grind (arith, nat_tests))
      (λ k ge lt. let w : k < length rows = omega (arith, past.within) in let low = at.after k none ge w in let high = past.before k none lt in ap not (ap (is_member nat_eq range) (block-at k w) ∙ in-range (get_or rows k none).block) ∙ grind (arith, nat_tests))
      (λ k ge lt. let w : k < length rows = omega (arith, same) in let high = past.after k none ge w in ap not (ap (is_member nat_eq range) (block-at k w) ∙ in-range (get_or rows k none).block) ∙ grind (arith, nat_tests))
      in
      omega (arith, all, same)

  -- the rows before a range and behind it, and the range's blocks, are as many as all together
  pub count-with : (bs : List ℕ) → HasHeldBlocks rows bs → i + (length rows - j) + (end - first) ≡ distinct_count nat_eq (bs ++ range_with_len first (end - first))
  count-with bs has =
      let all = distinct_count-apart (map (λ row. row.block) rows) range (distinct-blocks rows are) in
      let ranged = distinct_count-range first (end - first) in
      let among : distinct_count nat_eq (map (λ row. row.block) rows ++ range) ≡ distinct_count nat_eq (bs ++ range) =
      count-among (map (λ row. row.block) rows ++ range) (bs ++ range) (λ b. list_any-append (λ m. m == b) (map (λ row. row.block) rows) range
      ∙ (ap (λ t. t || is_among b range) (has-blocks rows are b ∙ sym (has b))
      ∙ sym (list_any-append (λ m. m == b) bs range))) in
      let rest = outside in
      let rise = places-rise in
      omega (arith, all, ranged, among, rest, rise, past.within)

  pub among-with : (b : ℕ) → is_among b (map (λ row. row.block) (take i rows) ++ (range_with_len first (end - first) ++ map (λ row. row.block) (drop j rows))) ≡ (nat_lt 0 (holds_at b rows) || is_among b (range_with_len first (end - first)))
  among-with b =
      list_any-append (λ m. m == b) (map (λ row. row.block) (take i rows)) (range ++ map (λ row. row.block) (drop j rows))
      ∙ (ap (λ t. is_among b (map (λ row. row.block) (take i rows)) || t) (list_any-append (λ m. m == b) range (map (λ row. row.block) (drop j rows)))
      ∙ (ap (λ t. t || (is_among b range || is_among b (map (λ row. row.block) (drop j rows)))) (among-map b (take i rows))
      ∙ (ap (λ t. list_any (λ row. row.block == b) (take i rows) || (is_among b range || t)) (among-map b (drop j rows))
      ∙ go (is_among b range) refl)))
    where
      mixed : (a c r : Bool) → (a || (r || c)) ≡ ((a || c) || r)
      mixed true c r = refl
      mixed false true true = refl
      mixed false true false = refl
      mixed false false true = refl
      mixed false false false = refl

      go : (r : Bool) → is_among b range ≡ r → (list_any (λ row. row.block == b) (take i rows) || (r || list_any (λ row. row.block == b) (drop j rows))) ≡ (nat_lt 0 (holds_at b rows) || r)
      go true is = mixed (list_any (λ row. row.block == b) (take i rows)) (list_any (λ row. row.block == b) (drop j rows)) true ∙ (ends (list_any (λ row. row.block == b) (take i rows) || list_any (λ row. row.block == b) (drop j rows)) ∙ sym (ends (nat_lt 0 (holds_at b rows))))
        where
          ends : (t : Bool) → (t || true) ≡ true
          ends true = refl
          ends false = refl
      go false is =
          mixed (list_any (λ row. row.block == b) (take i rows)) (list_any (λ row. row.block == b) (drop j rows)) false
          ∙ ap (λ t. t || false) (any-outside (λ row. row.block == b) rows i j places-rise
          (λ k d ge lt within.
          let low = at.after k d ge within in
          let high = past.before k d lt in
          let not-in : (nat_le first b && nat_lt b end) ≡ false = sym (in-range b) ∙ (is_member-among b range ∙ is) in
          grind (arith, nat_tests))
          ∙ any-held b rows are.held)

  pub length-with : length (map (λ row. row.block) (take i rows) ++ (range_with_len first (end - first) ++ map (λ row. row.block) (drop j rows))) ≡ i + (length rows - j) + (end - first)
  length-with =
      let head = length-map (take i rows) (λ (row : BlockRow). row.block) in
      let tail = length-map (drop j rows) (λ (row : BlockRow). row.block) in
      let taken = length-take i rows in
      let dropped = length-drop j rows in
      let ranged = length-range_with_len first (end - first) in
      let all = length-append (map (λ row. row.block) (take i rows)) (range ++ map (λ row. row.block) (drop j rows)) in
      let rest = length-append range (map (λ row. row.block) (drop j rows)) in
      omega (arith, head, tail, taken, dropped, ranged, all, rest, at.within)

-- rows that are added to none
pub added-none : {new old : List ℕ} {given rows : List BlockRow} → new ≡ old ++ map (λ row. row.block) given → old ≡ [] → given ≡ rows → new ≡ map (λ row. row.block) rows
added-none {given = given} added empty is =
    added
    ∙ (ap (λ (ns : List ℕ). ns ++ map (λ (row : BlockRow). row.block) given) empty
    ∙ ap (map (λ (row : BlockRow). row.block)) is)

-- rows, further numbers and rows
pub added-three : {first second third : List ℕ} {given : List BlockRow} (head tail : List BlockRow) (ns : List ℕ) → first ≡ map (λ row. row.block) head → second ≡ first ++ ns → third ≡ second ++ map (λ row. row.block) given → given ≡ tail → third ≡ map (λ row. row.block) head ++ (ns ++ map (λ row. row.block) tail)
added-three {second = second} head tail ns one two three is =
    three
    ∙ (ap (λ (rows : List BlockRow). second ++ map (λ (row : BlockRow). row.block) rows) is
    ∙ (ap (λ (bs : List ℕ). bs ++ map (λ (row : BlockRow). row.block) tail) (two ∙ ap (λ (bs : List ℕ). bs ++ ns) one)
    ∙ append-assoc (map (λ (row : BlockRow). row.block) head) ns (map (λ (row : BlockRow). row.block) tail)))

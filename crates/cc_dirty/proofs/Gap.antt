-- The elements from a place on, as elements before or behind them are written.
use Rattle.std.proofs.Common.{◌≡◌, ℕ, suc, ◌+◌, ◌-◌, ◌<◌, ◌≤◌, List, ◌∷◌, ◌++◌, length, take, drop, set, insert, remove, ap, ◌∙◌, sym, arith}
use Rattle.std.proofs.lemmas.List.{drop-drop, drop_at, drop-set-add, length-take-le, length-drop, append_assoc, set-append_right, drop_more, take-append-drop}
use Rattle.std.proofs.lemmas.List.Edits.{remove-append_right, insert-append_right}
use lib.Seq.{paste}

module _ {X : Type 0} (xs : List X) where
  -- what a paste at a place leaves from there on
  pub drop_at-paste : (at : ℕ) (ys : List X) (n : ℕ) → at ≤ length xs → drop at (paste xs at ys n) ≡ take n ys ++ drop (at + n) xs
  drop_at-paste at ys n le = ap (drop at) (append_assoc (take at xs) (take n ys) (drop (at + n) xs)) ∙ drop_at (take at xs) (take n ys ++ drop (at + n) xs) at (length-take-le at xs le)

  -- the elements before the i-th from `first` on, moved up by one
  pub remove-up : (first i : ℕ) → first + i < length xs → drop (first + 1) (paste xs (first + 1) (drop first xs) i) ≡ remove (drop first xs) i
  remove-up first i lt =
      drop_at-paste (first + 1) (drop first xs) i (omega arith)
      ∙ ap (λ n. take i (drop first xs) ++ drop n xs) {x = first + 1 + i} {y = first + suc i} (omega arith)
      ∙ ap (λ l. take i (drop first xs) ++ l) (sym (drop-drop (suc i) first xs))

  pub remove-down : (first i : ℕ) → first ≤ length xs → drop first (remove xs (first + i)) ≡ remove (drop first xs) i
  remove-down first i le =
      let at : length (take first xs) ≡ first = length-take-le first xs le in
      ap (λ l. drop first (remove l (first + i))) (sym (take-append-drop first xs))
      ∙ ap (drop first) (remove-append_right (take first xs) (drop first xs) first (first + i) at (omega arith))
      ∙ drop_at (take first xs) (remove (drop first xs) (first + i - first)) first at
      ∙ ap (remove (drop first xs)) {x = first + i - first} {y = i} (omega arith)

  pub insert-up : (first i : ℕ) (y : X) → first ≤ length xs → drop first (insert xs (first + i) y) ≡ insert (drop first xs) i y
  insert-up first i y le =
      let at : length (take first xs) ≡ first = length-take-le first xs le in
      ap (λ l. drop first (insert l (first + i) y)) (sym (take-append-drop first xs))
      ∙ ap (drop first) (insert-append_right (take first xs) (drop first xs) first (first + i) y at (omega arith))
      ∙ drop_at (take first xs) (insert (drop first xs) (first + i - first) y) first at
      ∙ ap (λ n. insert (drop first xs) n y) {x = first + i - first} {y = i} (omega arith)

  -- the first i of them moved down by one, and one written behind them
  pub insert-down : (before i : ℕ) (y : X) → before + 1 + i ≤ length xs
      → drop before (set (paste xs before (drop (before + 1) xs) i) (before + i) y) ≡ insert (drop (before + 1) xs) i y
  insert-down before i y le =
      drop-set-add before (paste xs before (drop (before + 1) xs) i) i y
      ∙ ap (λ l. set l i y) (drop_at-paste before (drop (before + 1) xs) i (omega arith))
      ∙ set-append_right (take i (drop (before + 1) xs)) (drop (before + i) xs) i i y (length-take-le i (drop (before + 1) xs) (omega (arith, length-drop (before + 1) xs))) (omega arith)
      ∙ ap (λ l. take i (drop (before + 1) xs) ++ l) behind
    where
      behind : set (drop (before + i) xs) (i - i) y ≡ y ∷ drop i (drop (before + 1) xs)
      behind =
          ap (λ n. set (drop (before + i) xs) n y) {x = i - i} {y = 0} (omega arith)
          ∙ ap (λ l. set l 0 y) (drop_more xs (before + i) y (omega arith))
          ∙ ap (λ n. y ∷ drop n xs) {x = before + i + 1} {y = before + 1 + i} (omega arith)
          ∙ ap (λ l. y ∷ l) (sym (drop-drop i (before + 1) xs))

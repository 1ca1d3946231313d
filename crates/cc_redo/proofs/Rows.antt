-- The rows of a checkpoint are read one by one.
use Rattle.std.specs.Prelude.{◌≡◌, ℕ, zero, suc, ◌+◌, ◌-◌, ◌*◌, ◌<◌, List, [], ◌∷◌, ◌++◌, drop, refl}
use Rattle.std.proofs.Common.{ap, sym, ◌∙◌, append_assoc, arith}
use Rattle.std.proofs.lemmas.List.{append-nil, drop-drop}
use Rattle.cc_format.specs.declared.log.OldestRow.{OldestRow}
use Rattle.cc_redo.specs.Reading.{row_in, rows_in}

rows-suc : (count : ℕ) (bytes : List ℕ) → rows_in (suc count) bytes ≡ row_in bytes ∷ rows_in count (drop 17 bytes)
unfolding rows_in
rows-suc count bytes = refl

rows-none : (bytes : List ℕ) → rows_in zero bytes ≡ []
unfolding rows_in
rows-none bytes = refl

pub rows-step : (count k : ℕ) (items : List OldestRow) (row : OldestRow) (spelled : List ℕ) → k < count → row ≡ row_in (drop (17 * k) spelled) →
    items ++ rows_in (count - k) (drop (17 * k) spelled) ≡ rows_in count spelled →
    (items ++ row ∷ []) ++ rows_in (count - (k + 1)) (drop (17 * (k + 1)) spelled) ≡ rows_in count spelled
rows-step count k items row spelled below is so_far =
    let rest : ℕ = count - (k + 1) in
    let left : count - k ≡ suc rest = omega arith in
    let moved : drop 17 (drop (17 * k) spelled) ≡ drop (17 * (k + 1)) spelled = drop-drop 17 (17 * k) spelled ∙ ap (λ (n : ℕ). drop n spelled) (omega arith) in
    let first : rows_in (count - k) (drop (17 * k) spelled) ≡ row ∷ rows_in rest (drop (17 * (k + 1)) spelled) =
    ap (λ (n : ℕ). rows_in n (drop (17 * k) spelled)) left
    ∙ rows-suc rest (drop (17 * k) spelled)
    ∙ ap (λ (r : OldestRow). r ∷ rows_in rest (drop 17 (drop (17 * k) spelled))) (sym is)
    ∙ ap (λ (l : List ℕ). row ∷ rows_in rest l) moved in
    append_assoc items (row ∷ []) (rows_in rest (drop (17 * (k + 1)) spelled)) ∙ ap (λ (l : List OldestRow). items ++ l) (sym first) ∙ so_far

pub rows-done : (count k : ℕ) (items : List OldestRow) (bytes spelled : List ℕ) → count - k ≡ 0 → items ++ rows_in (count - k) bytes ≡ rows_in count spelled → items ≡ rows_in count spelled
rows-done count k items bytes spelled none so_far =
    sym (append-nil items)
    ∙ ap (λ (l : List OldestRow). items ++ l) (sym (rows-none bytes))
    ∙ ap (λ (n : ℕ). items ++ rows_in n bytes) (sym none)
    ∙ so_far

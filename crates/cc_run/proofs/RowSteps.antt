-- How the first items move out of a row that is turned round, and back.
use Rattle.std.specs.Prelude.{◌≡◌, ℕ, zero, suc, ◌+◌, List, [], ◌∷◌, ◌++◌, length, reverse, take, drop, min}
use Rattle.std.proofs.Common.{refl, sym, ap, ◌∙◌, arith, append_assoc}
use Rattle.std.proofs.lemmas.List.{reverse-append, length-append}

pub reverse_twice : {A : Type 0} (xs : List A) → reverse (reverse xs) ≡ xs
reverse_twice [] = refl
reverse_twice (x ∷ xs) =
    ap reverse (reverse-append (x ∷ []) xs) ∙ reverse-append (reverse xs) (x ∷ []) ∙ ap (λ ys. x ∷ ys) (reverse_twice xs)

-- the last item of a row is the first of the row turned round
pub last_first : {A : Type 0} (row rest : List A) (x : A) → row ≡ rest ++ x ∷ [] → reverse row ≡ x ∷ reverse rest
last_first row rest x is = ap reverse is ∙ reverse-append rest (x ∷ [])

-- what moved out, and what is left of the row, are the row as it was
pub out_begun : {A : Type 0} (old row first : List A) → row ≡ reverse old → first ≡ [] → first ++ reverse row ≡ old
out_begun old row first turned empty = rw empty (ap reverse turned ∙ reverse_twice old)

pub out_next : {A : Type 0} (old row rest first : List A) (x : A) → row ≡ rest ++ x ∷ [] → first ++ reverse row ≡ old → (first ++ x ∷ []) ++ reverse rest ≡ old
out_next old row rest first x is moved =
    append_assoc first (x ∷ []) (reverse rest) ∙ (ap (λ ys. first ++ ys) (sym (last_first row rest x is)) ∙ moved)

-- what moved out is the first part of the row
pub taken : {A : Type 0} (n : ℕ) (first rest : List A) → length first ≡ min (length (first ++ rest)) n → (take n (first ++ rest) ≡ first) × (drop n (first ++ rest) ≡ rest)
taken zero [] rest long = (refl, refl)
taken zero (x ∷ first) rest long = absurd (omega (arith, long))
taken (suc n) [] [] long = (refl, refl)
taken (suc n) [] (y ∷ rest) long = absurd (omega (arith, long))
taken (suc n) (x ∷ first) rest long =
    let more = taken n first rest (omega (arith, long)) in
    (ap (λ l. x ∷ l) more.0, more.1)

pub out_ended : {A : Type 0} (n : ℕ) (old first rest : List A) → first ++ rest ≡ old → length first ≡ min (length old) n → (first ≡ take n old) × (rest ≡ drop n old)
out_ended n old first rest moved long =
    let parts = taken n first rest (rw moved long) in
    (sym parts.0 ∙ ap (take n) moved, sym parts.1 ∙ ap (drop n) moved)

-- what has to move back, and what moved back, are the items as they were
pub back_next : {A : Type 0} (old : List A) (first rest row : List A) (x : A) → first ≡ rest ++ x ∷ [] → first ++ reverse row ≡ old → rest ++ reverse (row ++ x ∷ []) ≡ old
back_next old first rest row x is moved =
    ap (λ ys. rest ++ ys) (last_first (row ++ x ∷ []) row x refl)
    ∙ (sym (append_assoc rest (x ∷ []) (reverse row)) ∙ (ap (λ ys. ys ++ reverse row) (sym is) ∙ moved))

pub back_ended : {A : Type 0} (old first row : List A) → first ≡ [] → first ++ reverse row ≡ old → reverse row ≡ old
back_ended old first row none moved = rw none at moved

-- a row that one item is put behind, or taken from, has one more or one less
pub longer : {A : Type 0} (more fewer : List A) (x : A) → more ≡ fewer ++ x ∷ [] → length more ≡ length fewer + 1
longer more fewer x is = ap length is ∙ length-append fewer (x ∷ [])

pub no_items : {A : Type 0} (items : List A) (len : ℕ) → len ≡ length items → len ≡ 0 → items ≡ []
no_items [] len is none = refl
no_items (x ∷ items) len is none = absurd (omega (arith, is, none))

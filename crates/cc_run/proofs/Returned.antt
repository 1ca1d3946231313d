-- What comes back of a row, of which a run took the first items.
use Rattle.std.specs.Prelude.{◌≡◌, ℕ, zero, suc, ◌+◌, List, [], ◌∷◌, ◌++◌, length, take, drop}
use Rattle.std.specs.declared.option.Option.TheVariants.{Some}
use Rattle.std.proofs.Common.{sym, ap, ◌∙◌, subst, arith}
use Rattle.std.proofs.lemmas.List.{length-append, length-take, take-append-drop}
use Rattle.cc_program.specs.Disks.{Pairwise}
use Rattle.cc_run.proofs.RowSteps.{taken}

pub some-same : {A : Type 0} (a b : A) → Some a ≡ Some b → a ≡ b
some-same a b is = cc is

-- a relation of the first items and of those that stay as they are
pairwise-parts : {A : Type 0} (R : A → A → Type 0) (xs ys rest : List A) → length xs ≡ length ys → ((a : A) → R a a) → Pairwise (λ n. R) xs ys → Pairwise (λ n. R) (xs ++ rest) (ys ++ rest)
pairwise-parts R [] [] rest same stays each n before after was is =
    let one : after ≡ before = some-same after before (sym is ∙ was) in
    rw one (stays before)
pairwise-parts R [] (y ∷ ys) rest same stays each n before after was is = absurd (omega (arith, same))
pairwise-parts R (x ∷ xs) [] rest same stays each n before after was is = absurd (omega (arith, same))
pairwise-parts R (x ∷ xs) (y ∷ ys) rest same stays each zero before after was is = each 0 before after was is
pairwise-parts R (x ∷ xs) (y ∷ ys) rest same stays each (suc n) before after was is =
    pairwise-parts R xs ys rest (omega (arith, same)) stays (λ m. each (suc m)) n before after was is

-- a relation of each item to itself
pub pairwise-same : {A : Type 0} (R : ℕ → A → A → Type 0) (items : List A) → ((n : ℕ) (a : A) → R n a a) → Pairwise R items items
pairwise-same R items each n before after was is =
    let same : after ≡ before = some-same after before (sym is ∙ was) in
    rw same (each n before)

-- Items that a run took are in a relation to those that they were, and stand again before those that it did not take.
module _ {A : Type 0} (most : ℕ) (R : ℕ → A → A → Type 0) (old front new : List A) (counted : length front ≡ length (take most old)) (each : Pairwise R (take most old) front) (back : new ≡ front ++ drop most old) where
  long : length front + length (drop most old) ≡ length old
  long = ap (λ n. n + length (drop most old)) counted ∙ (sym (length-append (take most old) (drop most old)) ∙ ap length (take-append-drop most old))

  parts : (take most (front ++ drop most old) ≡ front) × (drop most (front ++ drop most old) ≡ drop most old)
  parts = taken most front (drop most old) (omega (arith, counted, length-take most old, length-append front (drop most old), long))

  -- as many come back
  pub as-many : length new ≡ length old
  as-many = ap length back ∙ (length-append front (drop most old) ∙ long)

  -- the first of them are those
  pub firsts : Pairwise R (take most old) (take most new)
  firsts = subst (Pairwise R (take most old)) (sym (ap (take most) back ∙ parts.0)) each

  -- the others are as they were
  pub others : drop most new ≡ drop most old
  others = ap (drop most) back ∙ parts.1

  -- a relation that each item has to itself, and that follows, is one of all
  pub of-all : (S : A → A → Type 0) → ((a : A) → S a a) → ((n : ℕ) (before after : A) → R n before after → S before after) → Pairwise (λ n. S) old new
  of-all S stays more =
      subst (λ l. Pairwise (λ n. S) l new) (take-append-drop most old)
      (subst (Pairwise (λ n. S) (take most old ++ drop most old)) (sym back)
      (pairwise-parts S (take most old) front (drop most old) (sym counted) stays (λ n before after was is. more n before after (each n before after was is))))

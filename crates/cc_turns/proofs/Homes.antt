-- Places: what goes out, what comes home, and what goes on meanwhile.
use Rattle.std.specs.Prelude.{◌≡◌, ◌≢◌, ◌⊎◌, ℕ, zero, suc, ◌<◌, ◌==◌, Bool, true, false, List, [], ◌∷◌, length, slice_get, slice_set}
use Rattle.std.specs.declared.option.Option.{Option}
use Rattle.std.specs.declared.option.Option.TheVariants.{Some, None}
use Rattle.std.proofs.Common.{refl, sym, subst, ap, ◌∙◌, arith}
use Rattle.std.proofs.Math.Logic.{⊎_elim}
use Rattle.std.proofs.Math.ListN.{length-set}
use Rattle.std.proofs.lemmas.Bool.{eqb-true, cases_eq}
use Rattle.std.proofs.lemmas.Option.{slice_get_within}
use Rattle.cc_turns.specs.Standing.{is_the}
use Rattle.cc_turns.specs.Places.{AreHome}

-- what is put at a place is there, and the other places are as they were
get-set_same : {A : Type 0} (xs : List A) (n : ℕ) (a : A) → n < length xs → slice_get (slice_set xs n a) n ≡ Some a
get-set_same [] n a within = absurd (omega arith)
get-set_same (x ∷ xs) zero a within = refl
get-set_same (x ∷ xs) (suc n) a within = get-set_same xs n a (omega arith)

get-set_other : {A : Type 0} (xs : List A) (n m : ℕ) (a : A) → m ≢ n → slice_get (slice_set xs n a) m ≡ slice_get xs m
get-set_other [] n m a apart = refl
get-set_other (x ∷ xs) zero zero a apart = absurd (apart refl)
get-set_other (x ∷ xs) zero (suc m) a apart = refl
get-set_other (x ∷ xs) (suc n) zero a apart = refl
get-set_other (x ∷ xs) (suc n) (suc m) a apart = get-set_other xs n m a (λ same. apart (ap suc same))

-- a number is another one, or it is not
same_or_apart : (m n : ℕ) → (m ≡ n) ⊎ (m ≢ n)
same_or_apart m n = cases_eq m n

-- what is in a place is not out of it
not_out : {A : Type 0} (o : Option (Option A)) (a : A) → o ≡ Some (Some a) → o ≡ Some None → ⊥
not_out o a is out = absurd (cc)

some_same : (n m : ℕ) → Some n ≡ Some m → n ≡ m
some_same n m is = cc

no_number : (m : ℕ) → None ≡ Some m → ⊥
no_number m is = absurd (cc)

one_there : {A : Type 0} (a b : A) → Some (Some a) ≡ Some (Some b) → a ≡ b
one_there a b is = cc

-- a number that is not the one that is held
not_held : (n : ℕ) (held : Option ℕ) → (held ≡ Some n → ⊥) → is_the n held ≡ false
not_held n None apart = refl
not_held n (Some m) apart = go (m == n) refl
  where
    go : (t : Bool) → (m == n) ≡ t → t ≡ false
    go false is = refl
    go true is = absurd (apart (ap Some (eqb-true m n is)))

-- a thing goes out of its place
pub taken : {A : Type 0} {IsHome : ℕ → A → Type 0} (count n : ℕ) (places : List (Option A)) → n < count → AreHome count None IsHome places → AreHome count (Some n) IsHome (slice_set places n None)
taken {A} {IsHome} count n places within are = record {
  counted = length-set places n None ∙ are.counted;
  home = λ m a is. ⊎_elim (λ same. absurd (not_out _ a (subst (λ k. slice_get (slice_set places n None) k ≡ Some (Some a)) same is) here))
      (λ apart. are.home m a (sym (get-set_other places n m None apart) ∙ is)) (same_or_apart m n);
  out = λ m. (
    λ is. ⊎_elim (λ same. ap Some (sym same))
        (λ apart. absurd (no_number m ((are.out m).0 (sym (get-set_other places n m None apart) ∙ is)))) (same_or_apart m n),
    λ is. subst (λ k. slice_get (slice_set places n None) k ≡ Some None) (some_same n m is) here,
  );
}
  where
    here : slice_get (slice_set places n None) n ≡ Some None
    here = get-set_same places n None (rw are.counted within)

-- it comes home
pub given : {A : Type 0} {IsHome : ℕ → A → Type 0} (count n : ℕ) (places : List (Option A)) (a : A) → IsHome n a → AreHome count (Some n) IsHome places → AreHome count None IsHome (slice_set places n (Some a))
given {A} {IsHome} count n places a is_home are = record {
  counted = length-set places n (Some a) ∙ are.counted;
  home = λ m b is. ⊎_elim (λ same. subst (λ k. IsHome k b) (sym same) (subst (IsHome n) (one_there a b (sym here ∙ subst (λ k. slice_get (slice_set places n (Some a)) k ≡ Some (Some b)) same is)) is_home))
      (λ apart. are.home m b (sym (get-set_other places n m (Some a) apart) ∙ is)) (same_or_apart m n);
  out = λ m. (
    λ is. ⊎_elim (λ same. absurd (not_out _ a here (subst (λ k. slice_get (slice_set places n (Some a)) k ≡ Some None) same is)))
        (λ apart. absurd (apart (sym (some_same n m ((are.out m).0 (sym (get-set_other places n m (Some a) apart) ∙ is)))))) (same_or_apart m n),
    λ is. absurd (no_number m is),
  );
}
  where
    here : slice_get (slice_set places n (Some a)) n ≡ Some (Some a)
    here = get-set_same places n (Some a) (slice_get_within places n None ((are.out n).1 refl))

-- what was said of the things at home is said of them later
pub grow : {A : Type 0} {IsHome Later : ℕ → A → Type 0} (count : ℕ) (held : Option ℕ) (places : List (Option A)) → ((n : ℕ) (a : A) → n < count → is_the n held ≡ false → IsHome n a → Later n a) → AreHome count held IsHome places → AreHome count held Later places
grow count held places goes_on are = record {
  counted = are.counted;
  home = λ n a is. goes_on n a (subst (λ long. n < long) are.counted (slice_get_within places n (Some a) is)) (not_held n held (λ out. not_out _ a is ((are.out n).1 out))) (are.home n a is);
  out = are.out;
}

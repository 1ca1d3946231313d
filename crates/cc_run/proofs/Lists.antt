-- Facts of lists and answers.
use Rattle.std.specs.Prelude.{◌≡◌, ◌⊎◌, ℕ, zero, suc, ◌<◌, ◌≤◌, List, [], ◌∷◌, ◌++◌, length, map, take, drop, slice_get, Result, Ok, Err, IfOk, IfSome, Option, Some, refl}
use Rattle.std.specs.Result.{result_ok}
use Rattle.std.specs.List.{AllByRecursion}
use Rattle.std.proofs.Common.{sym, subst, arith, ap, get_or, inl, inr}
use Rattle.std.proofs.lemmas.List.{take-append-drop}

-- a fact of each element, of one
pub all-at : {X : Type 0} (P : X → Type 0) (xs : List X) (i : ℕ) (d : X) → i < length xs → AllByRecursion P xs → P (get_or xs i d)
all-at P [] i d low all = absurd (omega (arith, low))
all-at P (x ∷ xs) zero d low all = all.0
all-at P (x ∷ xs) (suc i) d low all = all-at P xs i d (omega (arith, low)) all.1

-- a list is what stands before an element, it, and what stands behind
pub parted : {X : Type 0} (xs : List X) (i : ℕ) (d : X) → i < length xs → xs ≡ take i xs ++ get_or xs i d ∷ drop (suc i) xs
parted [] i d low = absurd (omega (arith, low))
parted (x ∷ xs) zero d low = refl
parted (x ∷ xs) (suc i) d low = ap (λ l. x ∷ l) (parted xs i d (omega (arith, low)))

-- facts of each element, of others, and of the parts of a list
pub all-map : {X : Type 0} (P Q : X → Type 0) (xs : List X) → ((x : X) → P x → Q x) → AllByRecursion P xs → AllByRecursion Q xs
all-map P Q [] more all = tt
all-map P Q (x ∷ xs) more all = (more x all.0, all-map P Q xs more all.1)

pub all-both : {X : Type 0} (P Q : X → Type 0) (xs : List X) → AllByRecursion P xs → AllByRecursion Q xs → AllByRecursion (λ x. P x × Q x) xs
all-both P Q [] ps qs = tt
all-both P Q (x ∷ xs) ps qs = ((ps.0, qs.0), all-both P Q xs ps.1 qs.1)

pub all-front : {X : Type 0} (P : X → Type 0) (xs ys : List X) → AllByRecursion P (xs ++ ys) → AllByRecursion P xs
all-front P [] ys all = tt
all-front P (x ∷ xs) ys all = (all.0, all-front P xs ys all.1)

pub all-back : {X : Type 0} (P : X → Type 0) (xs ys : List X) → AllByRecursion P (xs ++ ys) → AllByRecursion P ys
all-back P [] ys all = all
all-back P (x ∷ xs) ys all = all-back P xs ys all.1

pub all-join : {X : Type 0} (P : X → Type 0) (xs ys : List X) → AllByRecursion P xs → AllByRecursion P ys → AllByRecursion P (xs ++ ys)
all-join P [] ys first more = more
all-join P (x ∷ xs) ys first more = (first.0, all-join P xs ys first.1 more)

pub all-take : {X : Type 0} (P : X → Type 0) (n : ℕ) (xs : List X) → AllByRecursion P xs → AllByRecursion P (take n xs)
all-take P n xs all = all-front P (take n xs) (drop n xs) (subst (AllByRecursion P) (sym (take-append-drop n xs)) all)

-- a fact of an answer is one of what it gives, if anything
pub if_some-ok : {T E : Type 0} {P Q : T → Type 0} (r : Result T E) (o : Option T) → o ≡ result_ok r → ((t : T) → P t → Q t) → IfOk r P → IfSome o Q
if_some-ok (Ok t) o is more fact = rw is (more t fact)
if_some-ok (Err e) o is more fact = rw is tt

-- an item is there below the length
pub there : {A : Type 0} (xs : List A) (n : ℕ) → n < length xs → (x : A) × (slice_get xs n ≡ Some x)
there [] n within = absurd (omega (arith, within))
there (x ∷ xs) zero within = (x, refl)
there (x ∷ xs) (suc n) within = there xs n (omega (arith, within))

-- an item of a row that is mapped
pub mapped-at : {A B : Type 0} (f : A → B) (xs : List A) (n : ℕ) (x : A) (d : B) → slice_get xs n ≡ Some x → get_or (map f xs) n d ≡ f x
mapped-at f [] n x d at = absurd (cc (at))
mapped-at f (y ∷ xs) zero x d at = let is : y ≡ x = cc (at) in ap f is
mapped-at f (y ∷ xs) (suc n) x d at = mapped-at f xs n x d at

-- a number is below another, or not
pub below-or : (n k : ℕ) → (n < k) ⊎ (k ≤ n)
below-or n zero = inr (omega arith)
below-or zero (suc k) = inl (omega arith)
below-or (suc n) (suc k) = elim (below-or n k) [ inl below ↦ inl (omega (arith, below)) | inr above ↦ inr (omega (arith, above)) ]

-- How a row moves out into places, and back.
use Rattle.std.specs.Prelude.{◌≡◌, ◌⊎◌, ℕ, zero, suc, ◌+◌, true, List, [], ◌∷◌, ◌++◌, length, map, reverse, drop, slice_get, is_some}
use Rattle.std.specs.declared.option.Option.{Option}
use Rattle.std.specs.declared.option.Option.TheVariants.{Some, None}
use Rattle.std.specs.List.{list_all}
use Rattle.std.specs.Option.{option_map}
use Rattle.std.proofs.Common.{refl, sym, subst, ap, ◌∙◌, arith, append_assoc}
use Rattle.std.proofs.Math.Logic.{inl, inr, ⊎_elim}
use Rattle.std.proofs.lemmas.Bool.{and_parts}
use Rattle.std.proofs.lemmas.List.{reverse-append, append-nil, map-append, length-append, length-map}
use Rattle.std.proofs.lemmas.List.Folds.{list_all-append}
use Rattle.std.proofs.lemmas.Option.{slice_get-map}
use Rattle.cc_turns.specs.Places.{AreHome}

pub reverse_twice : {A : Type 0} (xs : List A) → reverse (reverse xs) ≡ xs
reverse_twice [] = refl
reverse_twice (x ∷ xs) =
    ap reverse (reverse-append (x ∷ []) xs) ∙ reverse-append (reverse xs) (x ∷ []) ∙ ap (λ ys. x ∷ ys) (reverse_twice xs)

-- the last item of a row is the first of the row turned round
last_first : {A : Type 0} (row rest : List A) (x : A) → row ≡ rest ++ x ∷ [] → reverse row ≡ x ∷ reverse rest
last_first row rest x is = ap reverse is ∙ reverse-append rest (x ∷ [])

-- What moved out behind what was there, and what is left of the row, which was turned round, are what was there and
-- the row as it was.
pub out_begun : {A P : Type 0} (f : A → P) (old row : List A) (places : List P) → row ≡ reverse old → places ++ map f (reverse row) ≡ places ++ map f old
out_begun f old row places turned = ap (λ xs. places ++ map f xs) (ap reverse turned ∙ reverse_twice old)

pub out_next : {A P : Type 0} (f : A → P) (row rest : List A) (x : A) (places all : List P) → row ≡ rest ++ x ∷ [] → places ++ map f (reverse row) ≡ all → (places ++ f x ∷ []) ++ map f (reverse rest) ≡ all
out_next f row rest x places all is moved =
    append_assoc places (f x ∷ []) (map f (reverse rest))
    ∙ ap (λ ys. places ++ ys) (sym (ap (map f) (last_first row rest x is)))
    ∙ moved

pub out_ended : {A P : Type 0} (f : A → P) (row : List A) (places all : List P) → row ≡ [] → places ++ map f (reverse row) ≡ all → places ≡ all
out_ended f row places all empty moved =
    sym (append-nil places) ∙ subst (λ xs. places ++ map f (reverse xs) ≡ all) empty moved

-- What has a place still, and what moved back, the last one first, are the places as they were.
pub back_begun : {A : Type 0} (old : List (Option A)) (row : List A) → row ≡ [] → old ++ map (λ a. Some a) (reverse row) ≡ old
back_begun old row empty = subst (λ xs. old ++ map (λ a. Some a) (reverse xs) ≡ old) (sym empty) (append-nil old)

pub back_next : {A : Type 0} (old places rest : List (Option A)) (row : List A) (x : A) → places ≡ rest ++ Some x ∷ [] → places ++ map (λ a. Some a) (reverse row) ≡ old → rest ++ map (λ a. Some a) (reverse (row ++ x ∷ [])) ≡ old
back_next old places rest row x is moved =
    ap (λ ys. rest ++ map (λ a. Some a) ys) (last_first (row ++ x ∷ []) row x refl)
    ∙ sym (append_assoc rest (Some x ∷ []) (map (λ a. Some a) (reverse row)))
    ∙ ap (λ ys. ys ++ map (λ a. Some a) (reverse row)) (sym is)
    ∙ moved

pub back_ended : {A : Type 0} (old places : List (Option A)) (row : List A) → places ≡ [] → places ++ map (λ a. Some a) (reverse row) ≡ old → map (λ a. Some a) (reverse row) ≡ old
back_ended old places row empty moved = subst (λ ys. ys ++ map (λ a. Some a) (reverse row) ≡ old) empty moved

-- the same where what is at a place is not what moves back
pub mapped_last : {A B : Type 0} (f : Option A → Option B) (places rest : List (Option A)) (o : Option A) (x : B) → places ≡ rest ++ o ∷ [] → f o ≡ Some x → map f places ≡ map f rest ++ Some x ∷ []
mapped_last f places rest o x is of =
    ap (map f) is ∙ map-append f rest (o ∷ []) ∙ ap (λ y. map f rest ++ y ∷ []) of

-- where something is at each place, it is at the last one and at the others
pub at_last : {A : Type 0} (places rest : List (Option A)) (o : Option A) → places ≡ rest ++ o ∷ [] → list_all is_some places ≡ true → is_some o ≡ true
at_last places rest o is all =
    (and_parts _ _ ((and_parts _ _ (sym (list_all-append is_some rest (o ∷ [])) ∙ ap (list_all is_some) (sym is) ∙ all)).1)).0

pub at_rest : {A : Type 0} (places rest : List (Option A)) (o : Option A) → places ≡ rest ++ o ∷ [] → list_all is_some places ≡ true → list_all is_some rest ≡ true
at_rest places rest o is all =
    (and_parts _ _ (sym (list_all-append is_some rest (o ∷ [])) ∙ ap (list_all is_some) (sym is) ∙ all)).0

-- nothing is at home at no place
pub none_home : {A : Type 0} (IsHome : ℕ → A → Type 0) (places : List (Option A)) → places ≡ [] → AreHome 0 None IsHome places
none_home {A} IsHome places empty = subst (λ ps. AreHome 0 None IsHome ps) (sym empty) (record {
  counted = refl;
  home = λ n a is. absurd (nowhere (Some a) is);
  out = λ n. (λ is. absurd (nowhere None is), λ is. absurd (no_number n is));
})
  where
    nowhere : (o : Option A) → None ≡ Some o → ⊥
    nowhere o is = absurd (cc)

    no_number : (n : ℕ) → None ≡ Some n → ⊥
    no_number n is = absurd (cc)

-- what is at a place of a row with one place more
get_pushed : {P : Type 0} (xs : List P) (y : P) (n : ℕ) → (slice_get (xs ++ y ∷ []) n ≡ slice_get xs n) ⊎ ((n ≡ length xs) × (slice_get (xs ++ y ∷ []) n ≡ Some y))
get_pushed [] y zero = inr (refl, refl)
get_pushed [] y (suc n) = inl refl
get_pushed (x ∷ xs) y zero = inl refl
get_pushed (x ∷ xs) y (suc n) = ⊎_elim (λ same. inl same) (λ last. inr (ap suc last.0, last.1)) (get_pushed xs y n)

-- one more is at home
pub pushed_home : {A : Type 0} {IsHome : ℕ → A → Type 0} (count next : ℕ) (places : List (Option A)) (a : A) → next ≡ count + 1 → IsHome count a → AreHome count None IsHome places → AreHome next None IsHome (places ++ Some a ∷ [])
pushed_home {A} {IsHome} count next places a more is_home are = record {
  counted = rw more (length-append places (Some a ∷ []) ∙ ap (λ n. n + 1) are.counted);
  home = λ n b is. ⊎_elim (λ same. are.home n b (sym same ∙ is))
      (λ last. subst (λ k. IsHome k b) (sym (last.0 ∙ are.counted)) (subst (IsHome count) (one a b (sym last.1 ∙ is)) is_home)) (get_pushed places (Some a) n);
  out = λ n. (
    λ is. ⊎_elim (λ same. (are.out n).0 (sym same ∙ is)) (λ last. absurd (not_out a (sym last.1 ∙ is))) (get_pushed places (Some a) n),
    λ is. absurd (no_number n is),
  );
}
  where
    one : (a b : A) → Some (Some a) ≡ Some (Some b) → a ≡ b
    one a b is = cc

    not_out : (a : A) → Some (Some a) ≡ Some None → ⊥
    not_out a is = absurd (cc)

    no_number : (n : ℕ) → None ≡ Some n → ⊥
    no_number n is = absurd (cc)

-- the first of what is left of a list
first_left : {A : Type 0} (xs rest : List A) (n : ℕ) (x : A) → x ∷ rest ≡ drop n xs → (slice_get xs n ≡ Some x) × (rest ≡ drop (suc n) xs)
first_left [] rest zero x is = absurd (cc)
first_left [] rest (suc n) x is = absurd (cc)
first_left (y ∷ xs) rest zero x is = (cc, cc)
first_left (y ∷ xs) rest (suc n) x is = first_left xs rest n x is

-- of a row turned round, whose rest is what is left of a list, the last item is the next of the list
pub next_left : {A : Type 0} (xs row rest : List A) (n : ℕ) (x : A) → row ≡ rest ++ x ∷ [] → reverse row ≡ drop n xs → (slice_get xs n ≡ Some x) × (reverse rest ≡ drop (suc n) xs)
next_left xs row rest n x is left = first_left xs (reverse rest) n x (sym (last_first row rest x is) ∙ left)

-- where nothing is out, something is at each place
pub all_home : {A : Type 0} {IsHome : ℕ → A → Type 0} (count : ℕ) (held : Option ℕ) (places : List (Option A)) → held ≡ None → AreHome count held IsHome places → list_all is_some places ≡ true
all_home count held places free are = each places (λ n is. no_number n (sym free ∙ (are.out n).0 is))
  where
    no_number : (n : ℕ) → None ≡ Some n → ⊥
    no_number n is = absurd (cc)

    each : {A : Type 0} (ps : List (Option A)) → ((n : ℕ) → slice_get ps n ≡ Some None → ⊥) → list_all is_some ps ≡ true
    each [] home = refl
    each (None ∷ ps) home = absurd (home 0 refl)
    each (Some a ∷ ps) home = each ps (λ n is. home (suc n) is)

-- it is so of the row turned round
pub all_turned : {A : Type 0} (places : List (Option A)) → list_all is_some places ≡ true → list_all is_some (reverse places) ≡ true
all_turned [] all = refl
all_turned (o ∷ places) all =
    let both : (is_some o ≡ true) × (list_all is_some places ≡ true) = and_parts _ _ all in
    ap (list_all is_some) (reverse-append (o ∷ []) places)
    ∙ list_all-append is_some (reverse places) (o ∷ [])
    ∙ rw (all_turned places both.1, both.0) refl

-- so many things that belong at home are there
pub all_at_home : {A : Type 0} (IsHome : ℕ → A → Type 0) (count : ℕ) (things : List A) → length things ≡ count → ((n : ℕ) (a : A) → slice_get things n ≡ Some a → IsHome n a) → AreHome count None IsHome (map (λ a. Some a) things)
all_at_home {A} IsHome count things counted home = record {
  counted = length-map things (λ (a : A). Some a) ∙ counted;
  home = λ n a is. home n a (some_of (slice_get things n) a (sym (slice_get-map (λ (a : A). Some a) things n) ∙ is));
  out = λ n. (λ is. absurd (none_of (slice_get things n) (sym (slice_get-map (λ (a : A). Some a) things n) ∙ is)), λ is. absurd (no_number n is));
}
  where
    some_of : {A : Type 0} (o : Option A) (a : A) → option_map (λ (x : A). Some x) o ≡ Some (Some a) → o ≡ Some a
    some_of None a is = absurd (cc)
    some_of (Some b) a is = cc

    none_of : {A : Type 0} (o : Option A) → option_map (λ (x : A). Some x) o ≡ Some None → ⊥
    none_of None is = absurd (cc)
    none_of (Some b) is = absurd (cc)

    no_number : (n : ℕ) → None ≡ Some n → ⊥
    no_number n is = absurd (cc)

-- a row with one item more is one longer, and one of no length has none
pub longer : {A : Type 0} (xs rest : List A) (x : A) → xs ≡ rest ++ x ∷ [] → length xs ≡ length rest + 1
longer xs rest x is = ap length is ∙ length-append rest (x ∷ [])

pub no_items : {A : Type 0} (xs : List A) (n : ℕ) → n ≡ length xs → n ≡ 0 → xs ≡ []
no_items [] n counted none = refl
no_items (x ∷ xs) n counted none = absurd (omega arith)

-- What is kept of the words of a caller, over a line of the caller: it stands on where the holds that are named stay as
-- they were; a word more is bound; what a word names changes.
use Rattle.std.specs.Prelude.{◌≡◌, ◌≢◌, ◌⊎◌, ℕ, zero, suc, ◌+◌, ◌<◌, ◌≤◌, ◌==◌, Bool, true, false, List, [], ◌∷◌, ◌++◌, length, slice_get, slice_set, refl}
use Rattle.std.specs.declared.option.Option.{Option}
use Rattle.std.specs.declared.option.Option.TheVariants.{Some, None}
use Rattle.std.proofs.Common.{sym, ap, subst, ◌∙◌, arith, inl, inr}
use Rattle.std.proofs.lemmas.Bool.{eq-eqb, eqb-true}
use Rattle.std.proofs.lemmas.List.{length-append}
use Rattle.std.proofs.lemmas.Option.{slice_get_within}
use Rattle.cc_entry.specs.declared.entry.Entry.{Entry}
use Rattle.cc_entry.specs.declared.hold.HoldKind.{HoldKind}
use Rattle.cc_script.specs.declared.bound.Bound.{Bound}
use Rattle.cc_model.specs.Good.{IsGoodSoFar}
use Rattle.cc_model.specs.Setup.{Setup}
use Rattle.cc_own.specs.Own.{IsUnchanged}
use Rattle.cc_own.proofs.Unchanged.{unchanged-keeps}
use Rattle.cc_pieces.specs.Bindings.{Binding}
use Rattle.cc_calls.specs.Held.{HoldsAfter}
use Rattle.cc_calls.specs.declared.held.Held.{Held}
use Rattle.cc_lines.specs.Holds.{HoldIsNamed, NamesStand, binding_of, named_held, named_at, or_nothing}
use Rattle.cc_lines.specs.declared.holds.Named.{Named}

-- ---- rows

pub get-set : {A : Type 0} (xs : List A) (i : ℕ) (x y : A) → slice_get xs i ≡ Some x → slice_get (slice_set xs i y) i ≡ Some y
get-set [] i x y at = absurd (cc at)
get-set (z ∷ xs) zero x y at = refl
get-set (z ∷ xs) (suc i) x y at = get-set xs i x y at

pub get-set_other : {A : Type 0} (xs : List A) (i j : ℕ) (y : A) → j ≢ i → slice_get (slice_set xs i y) j ≡ slice_get xs j
get-set_other [] i j y differ = refl
get-set_other (z ∷ xs) zero zero y differ = absurd (differ refl)
get-set_other (z ∷ xs) zero (suc j) y differ = refl
get-set_other (z ∷ xs) (suc i) zero y differ = refl
get-set_other (z ∷ xs) (suc i) (suc j) y differ = get-set_other xs i j y (λ same. differ (ap suc same))

pub length-set : {A : Type 0} (xs : List A) (i : ℕ) (y : A) → length (slice_set xs i y) ≡ length xs
length-set [] i y = refl
length-set (z ∷ xs) zero y = refl
length-set (z ∷ xs) (suc i) y = ap suc (length-set xs i y)

pub get-there : {A : Type 0} (xs : List A) (i : ℕ) → i < length xs → (x : A) × (slice_get xs i ≡ Some x)
get-there [] i within = absurd (omega (arith, within))
get-there (x ∷ xs) zero within = (x, refl)
get-there (x ∷ xs) (suc i) within = get-there xs i (omega (arith, within))

pub get-front : {A : Type 0} (xs ys : List A) (i : ℕ) → i < length xs → slice_get (xs ++ ys) i ≡ slice_get xs i
get-front [] ys i within = absurd (omega (arith, within))
get-front (x ∷ xs) ys zero within = refl
get-front (x ∷ xs) ys (suc i) within = get-front xs ys i (omega (arith, within))

pub get-last : {A : Type 0} (xs : List A) (y : A) → slice_get (xs ++ y ∷ []) (length xs) ≡ Some y
get-last [] y = refl
get-last (x ∷ xs) y = get-last xs y

-- ---- names

pub named-within : (names : List (Option Named)) (word : ℕ) (it : Named) → named_at names word ≡ Some it → word < length names
named-within [] word it is = absurd (cc is)
named-within (o ∷ names) zero it is = omega arith
named-within (o ∷ names) (suc word) it is = let less = named-within names word it is in omega (arith, less)

-- a word that is set to what it names, or twice
pub set-back : (names : List (Option Named)) (word : ℕ) → word < length names → slice_set names word (named_at names word) ≡ names
set-back [] word within = absurd (omega (arith, within))
set-back (o ∷ names) zero within = refl
set-back (o ∷ names) (suc word) within = ap (λ l. o ∷ l) (set-back names word (omega (arith, within)))

pub set-twice : {A : Type 0} (xs : List A) (i : ℕ) (x y : A) → slice_set (slice_set xs i x) i y ≡ slice_set xs i y
set-twice [] i x y = refl
set-twice (z ∷ xs) zero x y = refl
set-twice (z ∷ xs) (suc i) x y = ap (λ l. z ∷ l) (set-twice xs i x y)

some-same : {A : Type 0} (a b : A) → Some a ≡ Some b → a ≡ b
some-same a b is = cc is

module _ (u : Setup) (streams me : ℕ) (old new : List Entry) (good : IsGoodSoFar u new) where
  -- a hold stays as it was
  pub holds-on : (of_kind : HoldKind → Bool) (held : Held) → IsUnchanged me held.id old new → HoldsAfter me old of_kind held → HoldsAfter me new of_kind held
  holds-on of_kind held same has = record {
    hold = has.hold;
    has = unchanged-keeps u me held.file.stream held.id has.hold old new same good has.has;
    kind_is = has.kind_is;
    file_is = has.file_is;
    at_is = has.at_is;
    len_is = has.len_is;
  }

  -- so does what a word names
  pub named-on : (word : ℕ) (bound : Bound) (before bindings : List Binding) (o : Option Named) → ((it : Named) → o ≡ Some it → IsUnchanged me (named_held it).id old new) → binding_of bindings word ≡ binding_of before word → HoldIsNamed streams me old word bound before o → HoldIsNamed streams me new word bound bindings o
  named-on word bound before bindings None keeps same is = same ∙ is
  named-on word bound before bindings (Some it) keeps same is = record {
    binding = is.binding;
    found = same ∙ is.found;
    id_is = is.id_is;
    kind_is = is.kind_is;
    holds = holds-on _ _ (keeps it refl) is.holds;
    known = is.known;
    file_is = is.file_is;
    at_is = is.at_is;
    len_is = is.len_is;
  }

  module _ (bounds : List Bound) (before : List Binding) (names : List (Option Named)) (stand : NamesStand streams me old bounds before names) where
    -- all that is named stays as it was
    pub stand-kept : ((word : ℕ) (it : Named) → named_at names word ≡ Some it → IsUnchanged me (named_held it).id old new) → NamesStand streams me new bounds before names
    stand-kept keeps = record {
      counted = stand.counted;
      unbound = stand.unbound;
      each = λ word bound at still. named-on word bound before before (named_at names word) (keeps word) refl (stand.each word bound at still);
      ended = stand.ended;
      apart = stand.apart;
    }

    module _ (bindings : List Binding) where
      -- A word more is bound to a hold that was made, or to nothing.
      module _ (one : Bound) (o : Option Named) (keeps : (word : ℕ) (it : Named) → named_at names word ≡ Some it → IsUnchanged me (named_held it).id old new) (same : (word : ℕ) → word ≢ length bounds → binding_of bindings word ≡ binding_of before word) (is : HoldIsNamed streams me new (length bounds) one bindings o) (fresh : (word : ℕ) (it made : Named) → named_at names word ≡ Some it → o ≡ Some made → (named_held made).id ≢ (named_held it).id) where
        abbrev names_now : List (Option Named)
        names_now = names ++ o ∷ []

        front : (word : ℕ) → word < length bounds → named_at names_now word ≡ named_at names word
        front word within = ap or_nothing (get-front names (o ∷ []) word (omega (arith, within, stand.counted)))

        last : named_at names_now (length bounds) ≡ o
        last = subst (λ n. named_at names_now n ≡ o) stand.counted (ap or_nothing (get-last names o))

        where-is : (word : ℕ) (it : Named) → named_at names_now word ≡ Some it → ((word < length bounds) × (named_at names word ≡ Some it)) ⊎ ((word ≡ length bounds) × (o ≡ Some it))
        where-is word it named = elim (below word (length bounds)) [ inl less ↦ inl (less, sym (front word less) ∙ named) | inr more ↦ inr (at-end more) ]
          where
            below : (n k : ℕ) → (n < k) ⊎ (k ≤ n)
            below n zero = inr (omega arith)
            below zero (suc k) = inl (omega arith)
            below (suc n) (suc k) = elim (below n k) [ inl less ↦ inl (omega (arith, less)) | inr more ↦ inr (omega (arith, more)) ]

            at-end : length bounds ≤ word → (word ≡ length bounds) × (o ≡ Some it)
            at-end more =
                let within = named-within names_now word it named in
                let end : word ≡ length bounds = omega (arith, more, within, length-append names (o ∷ []), stand.counted) in
                (end, sym last ∙ (ap (named_at names_now) (sym end) ∙ named))

        bound-at : (word : ℕ) (bound : Bound) → slice_get (bounds ++ one ∷ []) word ≡ Some bound → ((word < length bounds) × (slice_get bounds word ≡ Some bound)) ⊎ ((word ≡ length bounds) × (one ≡ bound))
        bound-at word bound at = elim (below word (length bounds)) [ inl less ↦ inl (less, sym (get-front bounds (one ∷ []) word less) ∙ at) | inr more ↦ inr (at-end more) ]
          where
            below : (n k : ℕ) → (n < k) ⊎ (k ≤ n)
            below n zero = inr (omega arith)
            below zero (suc k) = inl (omega arith)
            below (suc n) (suc k) = elim (below n k) [ inl less ↦ inl (omega (arith, less)) | inr more ↦ inr (omega (arith, more)) ]

            at-end : length bounds ≤ word → (word ≡ length bounds) × (one ≡ bound)
            at-end more =
                let within = slice_get_within (bounds ++ one ∷ []) word bound at in
                let end : word ≡ length bounds = omega (arith, more, within, length-append bounds (one ∷ [])) in
                (end, some-same one bound (sym (get-last bounds one) ∙ (ap (slice_get (bounds ++ one ∷ [])) (sym end) ∙ at)))

        each-now : (word : ℕ) (bound : Bound) → slice_get (bounds ++ one ∷ []) word ≡ Some bound → bound.ended ≡ false → HoldIsNamed streams me new word bound bindings (named_at names_now word)
        each-now word bound at still = by (bound-at word bound at)
          where
            by : ((word < length bounds) × (slice_get bounds word ≡ Some bound)) ⊎ ((word ≡ length bounds) × (one ≡ bound)) → HoldIsNamed streams me new word bound bindings (named_at names_now word)
            by (inl old_one) =
                subst (HoldIsNamed streams me new word bound bindings) (sym (front word old_one.0))
                (named-on word bound before bindings (named_at names word) (keeps word) (same word (λ e. omega (arith, e, old_one.0))) (stand.each word bound old_one.1 still))
            by (inr end) =
                subst (λ n. HoldIsNamed streams me new n bound bindings (named_at names_now n)) (sym end.0)
                (subst (HoldIsNamed streams me new (length bounds) bound bindings) (sym last)
                (subst (λ b. HoldIsNamed streams me new (length bounds) b bindings o) end.1 is))

        pub stand-bound : one.ended ≡ false → NamesStand streams me new (bounds ++ one ∷ []) bindings names_now
        stand-bound begun = record {
          counted = length-append names (o ∷ []) ∙ (ap (λ n. n + 1) stand.counted ∙ sym (length-append bounds (one ∷ [])));
          unbound = λ word past. same word (λ e. omega (arith, e, past, length-append bounds (one ∷ []))) ∙ stand.unbound word (omega (arith, past, length-append bounds (one ∷ [])));
          each = each-now;
          ended = λ word bound at ended. elim (bound-at word bound at) [
            | inl old_one ↦ front word old_one.0 ∙ stand.ended word bound old_one.1 ended
            | inr end ↦ absurd (cc (begun, ap (λ b. b.ended) end.1, ended))
          ];
          apart = λ word other it another differ first second. by word other it another differ (where-is word it first) (where-is other another second);
        }
          where
            by : (word other : ℕ) (it another : Named) → word ≢ other → ((word < length bounds) × (named_at names word ≡ Some it)) ⊎ ((word ≡ length bounds) × (o ≡ Some it)) → ((other < length bounds) × (named_at names other ≡ Some another)) ⊎ ((other ≡ length bounds) × (o ≡ Some another)) → (named_held it).id ≢ (named_held another).id
            by word other it another differ (inl a) (inl b) = stand.apart word other it another differ a.1 b.1
            by word other it another differ (inl a) (inr b) = λ e. fresh word it another a.1 b.1 (sym e)
            by word other it another differ (inr a) (inl b) = fresh other another it b.1 a.1
            by word other it another differ (inr a) (inr b) = absurd (differ (a.0 ∙ sym b.0))

      -- What one word names changes: to nothing, or to a hold with the id that it named.
      module _ (word : ℕ) (b c : Bound) (o : Option Named) (now : List (Option Named)) (bounds_now : List Bound) (there : slice_get bounds word ≡ Some b) (now_bound : slice_get bounds_now word ≡ Some c) (other_bounds : (other : ℕ) → other ≢ word → slice_get bounds_now other ≡ slice_get bounds other) (as_many_bounds : length bounds_now ≡ length bounds) (now_named : named_at now word ≡ o) (other_names : (other : ℕ) → other ≢ word → named_at now other ≡ named_at names other) (as_many : length now ≡ length names) (keeps : (other : ℕ) (it : Named) → other ≢ word → named_at names other ≡ Some it → IsUnchanged me (named_held it).id old new) (same : (other : ℕ) → other ≢ word → binding_of bindings other ≡ binding_of before other) (is : c.ended ≡ false → HoldIsNamed streams me new word c bindings o) (gone : c.ended ≡ true → o ≡ None) (was_named : (it : Named) → o ≡ Some it → (was : Named) × (named_at names word ≡ Some was) × ((named_held it).id ≡ (named_held was).id)) where
        is-at : (other : ℕ) → (other ≡ word) ⊎ (other ≢ word)
        is-at other = by (other == word) refl
          where
            by : (t : Bool) → (other == word) ≡ t → (other ≡ word) ⊎ (other ≢ word)
            by true e = inl (eqb-true other word e)
            by false e = inr (λ s. absurd (cc (e, eq-eqb other word s)))

        id-was : (other : ℕ) (it : Named) → named_at now other ≡ Some it → (was : Named) × (named_at names other ≡ Some was) × ((named_held it).id ≡ (named_held was).id)
        id-was other it named = by (is-at other)
          where
            by : (other ≡ word) ⊎ (other ≢ word) → (was : Named) × (named_at names other ≡ Some was) × ((named_held it).id ≡ (named_held was).id)
            by (inl e) =
                let w = was_named it (sym now_named ∙ (ap (named_at now) (sym e) ∙ named)) in
                (w.0, ap (named_at names) e ∙ w.1, w.2)
            by (inr differ) = (it, sym (other_names other differ) ∙ named, refl)

        each-then : (other : ℕ) (bound : Bound) → slice_get bounds_now other ≡ Some bound → bound.ended ≡ false → HoldIsNamed streams me new other bound bindings (named_at now other)
        each-then other bound at still = by (is-at other)
          where
            by : (other ≡ word) ⊎ (other ≢ word) → HoldIsNamed streams me new other bound bindings (named_at now other)
            by (inl e) =
                let one : c ≡ bound = some-same c bound (sym now_bound ∙ (ap (slice_get bounds_now) (sym e) ∙ at)) in
                subst (λ n. HoldIsNamed streams me new n bound bindings (named_at now n)) (sym e)
                (subst (HoldIsNamed streams me new word bound bindings) (sym now_named)
                (subst (λ b. HoldIsNamed streams me new word b bindings o) one (is (ap (λ b. b.ended) one ∙ still))))
            by (inr differ) =
                subst (HoldIsNamed streams me new other bound bindings) (sym (other_names other differ))
                (named-on other bound before bindings (named_at names other) (λ it named. keeps other it differ named) (same other differ) (stand.each other bound (sym (other_bounds other differ) ∙ at) still))

        ended-then : (other : ℕ) (bound : Bound) → slice_get bounds_now other ≡ Some bound → bound.ended ≡ true → named_at now other ≡ None
        ended-then other bound at ended = by (is-at other)
          where
            by : (other ≡ word) ⊎ (other ≢ word) → named_at now other ≡ None
            by (inl e) =
                let one : c ≡ bound = some-same c bound (sym now_bound ∙ (ap (slice_get bounds_now) (sym e) ∙ at)) in
                ap (named_at now) e ∙ (now_named ∙ gone (ap (λ b. b.ended) one ∙ ended))
            by (inr differ) = other_names other differ ∙ stand.ended other bound (sym (other_bounds other differ) ∙ at) ended

        unbound-then : (other : ℕ) → length bounds_now ≤ other → binding_of bindings other ≡ None
        unbound-then other past =
            let within = slice_get_within bounds word b there in
            same other (λ e. omega (arith, e, past, within, as_many_bounds)) ∙ stand.unbound other (omega (arith, past, as_many_bounds))

        pub stand-changed : NamesStand streams me new bounds_now bindings now
        stand-changed = record {
          counted = as_many ∙ (stand.counted ∙ sym as_many_bounds);
          unbound = unbound-then;
          each = each-then;
          ended = ended-then;
          apart = λ first second it another differ a b.
              let x = id-was first it a in
              let y = id-was second another b in
              λ e. stand.apart first second x.0 y.0 differ x.1 y.1 (sym x.2 ∙ (e ∙ y.2));
        }

-- What open holds owe together, where one of them is changed or ends.
use Rattle.std.specs.Prelude.{◌≡◌, ℕ, ◌+◌, Bool, true, false, cond, not, ◌==◌, nat_eq, List, [], ◌∷◌, refl}
use Rattle.std.specs.declared.option.Option.TheVariants.{Some}
use Rattle.std.specs.List.{AllByRecursion, IsDistinct, filter, sum_by}
use Rattle.std.proofs.Common.{ap, sym, ◌∙◌, arith, subst}
use Rattle.std.proofs.lemmas.Bool.{eqb-true, eq-eqb}
use Rattle.std.proofs.lemmas.List.Sums.{sum_by-cons}
use Rattle.cc_model.specs.Holds.{Hold, hold_at, changed_at}
use Rattle.cc_model.specs.Room.{owed_by_hold}
use Rattle.cc_own.specs.Own.{ids_of}
use Rattle.cc_own.proofs.FoundHolds.{some-is}

abbrev pub AreDistinct : List Hold → Type 0
AreDistinct holds = IsDistinct nat_eq (ids_of holds)

-- an id apart from that of each hold
abbrev pub IsApart : ℕ → List Hold → Type 0
IsApart id holds = AllByRecursion (λ other. nat_eq id other ≡ false) (ids_of holds)

pub distinct-apart : (hold : Hold) (holds : List Hold) → AreDistinct (hold ∷ holds) → IsApart hold.id holds
unfolding IsDistinct
distinct-apart hold holds distinct = distinct.0

pub distinct-rest : (hold : Hold) (holds : List Hold) → AreDistinct (hold ∷ holds) → AreDistinct holds
unfolding IsDistinct
distinct-rest hold holds distinct = distinct.1

flipped : (a b : ℕ) → nat_eq a b ≡ false → (b == a) ≡ false
flipped a b apart = go (b == a) refl
  where
    go : (t : Bool) → (b == a) ≡ t → t ≡ false
    go false is = refl
    go true is = absurd (clash (eq-eqb a b (sym (eqb-true b a is))) apart)
      where
        clash : (a == b) ≡ true → (a == b) ≡ false → ⊥
        clash is_so not_so = absurd (cc)

pub changed-apart : (id : ℕ) (change : Hold → Hold) (holds : List Hold) → IsApart id holds → changed_at id change holds ≡ holds
changed-apart id change [] apart = refl
changed-apart id change (hold ∷ holds) apart = rw (flipped id hold.id apart.0, changed-apart id change holds apart.1) refl

ended-apart : (id : ℕ) (holds : List Hold) → IsApart id holds → filter (λ it. not (it.id == id)) holds ≡ holds
ended-apart id [] apart = refl
ended-apart id (hold ∷ holds) apart = rw (flipped id hold.id apart.0, ended-apart id holds apart.1) refl

-- the sum with a hold more
pub owed-more : (hold : Hold) (holds : List Hold) (n : ℕ) → owed_by_hold hold ≡ n → sum_by owed_by_hold (hold ∷ holds) ≡ n + sum_by owed_by_hold holds
owed-more hold holds n is = sum_by-cons owed_by_hold hold holds ∙ ap (λ k. k + sum_by owed_by_hold holds) is

-- the sum where the hold of an id is changed
pub owed-changed : (id : ℕ) (change : Hold → Hold) (hold : Hold) (holds : List Hold) → AreDistinct holds → hold_at holds id ≡ Some hold → sum_by owed_by_hold (changed_at id change holds) + owed_by_hold hold ≡ sum_by owed_by_hold holds + owed_by_hold (change hold)
owed-changed id change hold [] distinct found = absurd (cc)
owed-changed id change hold (it ∷ holds) distinct found = go (it.id == id) refl found (owed-changed id change hold holds (distinct-rest it holds distinct))
  where
    turned : (a b c : ℕ) → (a + b) + c ≡ (c + b) + a
    turned a b c = omega arith

    moved : (a b c d e : ℕ) → b + c ≡ d + e → (a + b) + c ≡ (a + d) + e
    moved a b c d e is = omega (arith, is)

    go : (b : Bool) → (it.id == id) ≡ b → cond b (Some it) (hold_at holds id) ≡ Some hold → (hold_at holds id ≡ Some hold → sum_by owed_by_hold (changed_at id change holds) + owed_by_hold hold ≡ sum_by owed_by_hold holds + owed_by_hold (change hold)) → sum_by owed_by_hold (cond b (change it) it ∷ changed_at id change holds) + owed_by_hold hold ≡ sum_by owed_by_hold (it ∷ holds) + owed_by_hold (change hold)
    go true is found rest =
        let same : it ≡ hold = some-is it hold found in
        let apart : IsApart id holds = subst (λ n. IsApart n holds) (eqb-true it.id id is) (distinct-apart it holds distinct) in
        rw (changed-apart id change holds apart, same, sum_by-cons owed_by_hold (change hold) holds, sum_by-cons owed_by_hold hold holds)
        (turned (owed_by_hold (change hold)) (sum_by owed_by_hold holds) (owed_by_hold hold))
    go false is found rest =
        rw (sum_by-cons owed_by_hold it (changed_at id change holds), sum_by-cons owed_by_hold it holds)
        (moved (owed_by_hold it) (sum_by owed_by_hold (changed_at id change holds)) (owed_by_hold hold) (sum_by owed_by_hold holds) (owed_by_hold (change hold)) (rest found))

-- the sum where the hold of an id ends
pub owed-ended : (id : ℕ) (hold : Hold) (holds : List Hold) → AreDistinct holds → hold_at holds id ≡ Some hold → sum_by owed_by_hold (filter (λ it. not (it.id == id)) holds) + owed_by_hold hold ≡ sum_by owed_by_hold holds
owed-ended id hold [] distinct found = absurd (cc)
owed-ended id hold (it ∷ holds) distinct found = go (it.id == id) refl found (owed-ended id hold holds (distinct-rest it holds distinct))
  where
    turned : (a b : ℕ) → a + b ≡ b + a
    turned a b = omega arith

    moved : (a b c d : ℕ) → b + c ≡ d → (a + b) + c ≡ a + d
    moved a b c d is = omega (arith, is)

    go : (b : Bool) → (it.id == id) ≡ b → cond b (Some it) (hold_at holds id) ≡ Some hold → (hold_at holds id ≡ Some hold → sum_by owed_by_hold (filter (λ it. not (it.id == id)) holds) + owed_by_hold hold ≡ sum_by owed_by_hold holds) → sum_by owed_by_hold (cond (not b) (it ∷ filter (λ it. not (it.id == id)) holds) (filter (λ it. not (it.id == id)) holds)) + owed_by_hold hold ≡ sum_by owed_by_hold (it ∷ holds)
    go true is found rest =
        let same : it ≡ hold = some-is it hold found in
        let apart : IsApart id holds = subst (λ n. IsApart n holds) (eqb-true it.id id is) (distinct-apart it holds distinct) in
        rw (ended-apart id holds apart, same, sum_by-cons owed_by_hold hold holds) (turned (sum_by owed_by_hold holds) (owed_by_hold hold))
    go false is found rest =
        rw (sum_by-cons owed_by_hold it (filter (λ it. not (it.id == id)) holds), sum_by-cons owed_by_hold it holds)
        (moved (owed_by_hold it) (sum_by owed_by_hold (filter (λ it. not (it.id == id)) holds)) (owed_by_hold hold) (sum_by owed_by_hold holds) (rest found))

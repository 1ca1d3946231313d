-- Kept holds in the order of their ids: where one stands, goes in, is changed and goes out.
use Rattle.std.specs.Prelude.{◌≡◌, ℕ, suc, ◌+◌, ◌<◌, Bool, true, false, not, ◌==◌, nat_lt, List, [], ◌∷◌, ◌++◌, map, cond, slice_set, IsSome, IfSome, if◌then◌else◌, refl}
use Rattle.std.specs.declared.option.Option.{Option}
use Rattle.std.specs.declared.option.Option.TheVariants.{Some, None}
use Rattle.std.specs.List.{AllByRecursion, filter, position_or_len}
use Rattle.std.proofs.Common.{ap, sym, subst, ◌∙◌, arith}
use Rattle.std.proofs.lemmas.Bool.{eqb-true, ne_eqb, ltb-true}
use Rattle.cc_holds.specs.Holds.{hold_of, has_id, without_hold, inserted, Changes}
use Rattle.cc_holds.specs.declared.holds.KeptHold.{KeptHold}
use Rattle.cc_holds.specs.Stands.{IdsAscend}

-- each hold has an id below this one
abbrev pub IdsBelow : ℕ → List KeptHold → Type 0
IdsBelow id holds = AllByRecursion (λ kept. kept.row.id < id) holds

-- each has one above it
abbrev pub IdsAbove : ℕ → List KeptHold → Type 0
IdsAbove id holds = AllByRecursion (λ kept. id < kept.row.id) holds

above-onto : (id : ℕ) (holds : List KeptHold) (last : KeptHold) → IdsAbove id holds → id < last.row.id → IdsAbove id (holds ++ last ∷ [])
above-onto id [] last above is = (is, tt)
above-onto id (kept ∷ holds) last above is = (above.0, above-onto id holds last above.1 is)

pub ascend-onto : (holds : List KeptHold) (last : KeptHold) → IdsAscend holds → IdsBelow last.row.id holds → IdsAscend (holds ++ last ∷ [])
ascend-onto [] last ascend below = (tt, tt)
ascend-onto (kept ∷ holds) last ascend below =
    (above-onto kept.row.id holds last ascend.0 below.0, ascend-onto holds last ascend.1 below.1)

one-more : (n : ℕ) → 1 + n ≡ suc n
one-more n = omega arith

-- a hold of a greater id than all goes in at the end
pub inserted-last : (holds : List KeptHold) (last : KeptHold) → IdsBelow last.row.id holds → inserted holds last ≡ holds ++ last ∷ []
inserted-last [] last below = refl
inserted-last (kept ∷ holds) last below =
    go (nat_lt last.row.id kept.row.id) refl (inserted-last holds last below.1)
  where
    go : (b : Bool) → nat_lt last.row.id kept.row.id ≡ b → inserted holds last ≡ holds ++ last ∷ [] → inserted (kept ∷ holds) last ≡ kept ∷ (holds ++ last ∷ [])
    go true less rest = let other : last.row.id < kept.row.id = ltb-true _ _ less in let first = below.0 in absurd (omega arith)
    go false less rest = rw (less, one-more) (ap (λ ks. kept ∷ ks) rest)

module _ (id : ℕ) where
  -- the holds of greater ids have another one
  others : (n : ℕ) (later : KeptHold) → n ≡ id → n < later.row.id → has_id id later ≡ false
  others n later same above = ne_eqb later.row.id id (λ e. absurd (omega arith))

  -- the hold of the id, changed
  module _ (change : KeptHold → KeptHold) where
    abbrev pub changed_one : KeptHold → KeptHold
    changed_one kept = if has_id id kept then change kept else kept

    changed-others : (n : ℕ) (holds : List KeptHold) → n ≡ id → IdsAbove n holds → map changed_one holds ≡ holds
    changed-others n [] same above = refl
    changed-others n (kept ∷ holds) same above = rw (others n kept same above.0) (ap (λ ks. kept ∷ ks) (changed-others n holds same above.1))

    pub changed-absent : (holds : List KeptHold) → hold_of holds id ≡ None → map changed_one holds ≡ holds
    changed-absent [] absent = refl
    changed-absent (kept ∷ holds) absent = go (has_id id kept) refl absent (changed-absent holds)
      where
        go : (b : Bool) → has_id id kept ≡ b → cond b (Some kept) (hold_of holds id) ≡ None → (hold_of holds id ≡ None → map changed_one holds ≡ holds) → map changed_one (kept ∷ holds) ≡ kept ∷ holds
        go true is absent rest = absurd (cc)
        go false is absent rest = rw is (ap (λ ks. kept ∷ ks) (rest absent))

    changed-found : (holds : List KeptHold) (found : KeptHold) → IdsAscend holds → hold_of holds id ≡ Some found → slice_set holds (position_or_len (has_id id) holds) (change found) ≡ map changed_one holds
    changed-found [] found ascend is = absurd (cc)
    changed-found (kept ∷ holds) found ascend is = go (has_id id kept) refl is (changed-found holds found ascend.1)
      where
        some : (a b : KeptHold) → Some a ≡ Some b → b ≡ a
        some a b e = cc

        go : (b : Bool) → has_id id kept ≡ b → cond b (Some kept) (hold_of holds id) ≡ Some found → (hold_of holds id ≡ Some found → slice_set holds (position_or_len (has_id id) holds) (change found) ≡ map changed_one holds) → slice_set (kept ∷ holds) (position_or_len (has_id id) (kept ∷ holds)) (change found) ≡ map changed_one (kept ∷ holds)
        go true same is rest =
            rw (same, some kept found is) (ap (λ ks. change kept ∷ ks) (sym (changed-others kept.row.id holds (eqb-true kept.row.id id same) ascend.0)))
        go false other is rest = rw (other, one-more) (ap (λ ks. kept ∷ ks) (rest is))

    pub changed-is : (holds new : List KeptHold) → IdsAscend holds → IsSome (hold_of holds id) → Changes holds new id change → new ≡ map changed_one holds
    changed-is holds new ascend there changes = go (hold_of holds id) refl there changes
      where
        go : (o : Option KeptHold) → hold_of holds id ≡ o → IsSome o → IfSome o (λ found. new ≡ slice_set holds (position_or_len (has_id id) holds) (change found)) → new ≡ map changed_one holds
        go None is there changes = absurd (cc)
        go (Some found) is there changes = changes ∙ changed-found holds found ascend is

    module _ (same_id : (kept : KeptHold) → (change kept).row.id ≡ kept.row.id) where
      pub id-changed : (kept : KeptHold) → (changed_one kept).row.id ≡ kept.row.id
      id-changed kept = go (has_id id kept)
        where
          go : (b : Bool) → (let it : KeptHold = cond b (change kept) kept in it.row.id) ≡ kept.row.id
          go true = same_id kept
          go false = refl

      above-changed : (n : ℕ) (holds : List KeptHold) → IdsAbove n holds → IdsAbove n (map changed_one holds)
      above-changed n [] above = tt
      above-changed n (kept ∷ holds) above = (subst (λ m. n < m) (sym (id-changed kept)) above.0, above-changed n holds above.1)

      pub ascend-changed : (holds : List KeptHold) → IdsAscend holds → IdsAscend (map changed_one holds)
      ascend-changed [] ascend = tt
      ascend-changed (kept ∷ holds) ascend =
          (subst (λ n. IdsAbove n (map changed_one holds)) (sym (id-changed kept)) (above-changed kept.row.id holds ascend.0), ascend-changed holds ascend.1)

  -- the others are left where the hold of the id goes
  abbrev pub is_other : KeptHold → Bool
  is_other kept = not (kept.row.id == id)

  filter-others : (n : ℕ) (holds : List KeptHold) → n ≡ id → IdsAbove n holds → filter is_other holds ≡ holds
  filter-others n [] same above = refl
  filter-others n (kept ∷ holds) same above = rw (others n kept same above.0) (ap (λ ks. kept ∷ ks) (filter-others n holds same above.1))

  pub without-is : (holds : List KeptHold) → IdsAscend holds → without_hold holds id ≡ filter is_other holds
  without-is [] ascend = refl
  without-is (kept ∷ holds) ascend = go (has_id id kept) refl (without-is holds ascend.1)
    where
      go : (b : Bool) → has_id id kept ≡ b → without_hold holds id ≡ filter is_other holds → without_hold (kept ∷ holds) id ≡ filter is_other (kept ∷ holds)
      go true same rest = rw same (sym (filter-others kept.row.id holds (eqb-true kept.row.id id same) ascend.0))
      go false other rest = rw (other, one-more) (ap (λ ks. kept ∷ ks) rest)

above-filtered : (test : KeptHold → Bool) (n : ℕ) (holds : List KeptHold) → IdsAbove n holds → IdsAbove n (filter test holds)
above-filtered test n [] above = tt
above-filtered test n (kept ∷ holds) above = go (test kept) (above-filtered test n holds above.1)
  where
    go : (b : Bool) → IdsAbove n (filter test holds) → IdsAbove n (cond b (kept ∷ filter test holds) (filter test holds))
    go true rest = (above.0, rest)
    go false rest = rest

pub ascend-filtered : (test : KeptHold → Bool) (holds : List KeptHold) → IdsAscend holds → IdsAscend (filter test holds)
ascend-filtered test [] ascend = tt
ascend-filtered test (kept ∷ holds) ascend = go (test kept) (ascend-filtered test holds ascend.1)
  where
    go : (b : Bool) → IdsAscend (filter test holds) → IdsAscend (cond b (kept ∷ filter test holds) (filter test holds))
    go true rest = (above-filtered test kept.row.id holds ascend.0, rest)
    go false rest = rest

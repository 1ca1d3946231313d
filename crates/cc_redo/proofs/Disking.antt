-- The disks of streams, one after the other.
use Rattle.std.specs.Prelude.{◌≡◌, ◌≢◌, ℕ, zero, suc, ◌+◌, ◌<◌, ◌≤◌, List, [], ◌∷◌, length, slice_get, ◌⊎◌, refl}
use Rattle.std.specs.declared.option.Option.TheVariants.{Some}
use Rattle.std.proofs.Common.{ap, sym, subst, ◌∙◌, arith, inl, inr, set}
use Rattle.std.proofs.lemmas.Bool.{cases_lt}
use Rattle.std.proofs.lemmas.Option.{same_Some, slice_get_within}
use Rattle.cc_redo.specs.declared.redo.Redo.{Redo}
use Rattle.cc_redo.specs.Ends.{DisksDiffer, EachDisk, OneFailed}
use Rattle.cc_redo.specs.Stages.{StageIsReached}

pub get-set_same : {D : Type 0} (xs : List D) (i : ℕ) (y : D) → i < length xs → slice_get (set xs i y) i ≡ Some y
get-set_same [] i y inside = absurd (omega arith)
get-set_same (x ∷ xs) zero y inside = refl
get-set_same (x ∷ xs) (suc i) y inside = get-set_same xs i y (omega arith)

pub get-set_other : {D : Type 0} (xs : List D) (i k : ℕ) (y : D) → i ≢ k → slice_get (set xs i y) k ≡ slice_get xs k
get-set_other [] i k y apart = refl
get-set_other (x ∷ xs) zero zero y apart = absurd (apart refl)
get-set_other (x ∷ xs) zero (suc k) y apart = refl
get-set_other (x ∷ xs) (suc i) zero y apart = refl
get-set_other (x ∷ xs) (suc i) (suc k) y apart = get-set_other xs i k y (λ e. apart (ap suc e))

-- a disk was changed, and no other
pub record Changed {D : Type 0} (k : ℕ) (here next : D) (now new : List D) : Type 0 where
  pub was : slice_get now k ≡ Some here
  pub is : slice_get new k ≡ Some next
  pub others : (other : ℕ) → k ≢ other → slice_get new other ≡ slice_get now other
  pub count : length new ≡ length now

pub reached-begun : {D : Type 0} (streams : List Redo) (P : Redo → D → D → Type 0) (old : List D) → StageIsReached streams 0 P old old
reached-begun streams P old = record {
  behind = λ i redo was here below _ _ _. absurd (omega arith);
  ahead = λ i redo _ _. refl;
  others = λ k _. refl;
  count = refl;
}

-- the disks of two streams are not one
disks-apart : (streams : List Redo) (i j : ℕ) (one other : Redo) → DisksDiffer streams → slice_get streams i ≡ Some one → slice_get streams j ≡ Some other →
    (i ≡ j → ⊥) → one.disk ≢ other.disk
disks-apart streams i j one other differ is also apart = λ same. apart (differ i j one other is also same)

-- what a stream's disk was as the first ones were reached
pub reached-was : {D : Type 0} (streams : List Redo) (n : ℕ) (P : Redo → D → D → Type 0) (old now : List D) (redo : Redo) (here : D) →
    slice_get streams n ≡ Some redo → StageIsReached streams n P old now → slice_get now redo.disk ≡ Some here → slice_get old redo.disk ≡ Some here
reached-was streams n P old now redo here is reached held = sym (reached.ahead n redo (omega arith) is) ∙ held

pub reached-step : {D : Type 0} (streams : List Redo) (n : ℕ) (P : Redo → D → D → Type 0) (old now new : List D) (redo : Redo) (here next : D) →
    DisksDiffer streams → slice_get streams n ≡ Some redo → StageIsReached streams n P old now → Changed redo.disk here next now new → P redo here next →
    StageIsReached streams (n + 1) P old new
reached-step {D} streams n P old now new redo here next differ is reached changed holds = record {
  behind = λ i one was last below of old_is new_is. behind_at i one was last below of old_is new_is (cases_lt i n);
  ahead = λ i one after of. changed.others one.disk (disks-apart streams n i redo one differ is of (λ e. omega arith)) ∙ reached.ahead i one (omega arith) of;
  others = λ k none. changed.others k (none n redo is) ∙ reached.others k none;
  count = changed.count ∙ reached.count;
}
  where
    behind_at : (i : ℕ) (one : Redo) (was last : D) → i < n + 1 → slice_get streams i ≡ Some one → slice_get old one.disk ≡ Some was →
        slice_get new one.disk ≡ Some last → (i < n) ⊎ (n ≤ i) → P one was last
    behind_at i one was last below of old_is new_is (inl less) =
        let apart = disks-apart streams n i redo one differ is of (λ e. omega arith) in
        reached.behind i one was last less of old_is (sym (changed.others one.disk apart) ∙ new_is)
    behind_at i one was last below of old_is new_is (inr more) =
        let here_i : i ≡ n = omega arith in
        let same : one ≡ redo = same_Some one redo (sym of ∙ ap (λ (k : ℕ). slice_get streams k) here_i ∙ is) in
        let was_is : was ≡ here = same_Some was here (sym old_is ∙ ap (λ (r : Redo). slice_get old r.disk) same ∙ reached-was streams n P old now redo here is reached changed.was) in
        let then_is : last ≡ next = same_Some last next (sym new_is ∙ ap (λ (r : Redo). slice_get new r.disk) same ∙ changed.is) in
        subst (λ (r : Redo). P r was last) (sym same) (subst (λ (w : D). P redo w last) (sym was_is) (subst (λ (t : D). P redo here t) (sym then_is) holds))

-- all were reached
pub reached-all : {D : Type 0} (streams : List Redo) (n : ℕ) (P : Redo → D → D → Type 0) (old now : List D) → length streams ≤ n →
    StageIsReached streams n P old now → EachDisk streams P old now
reached-all streams n P old now all reached = record {
  given = λ i redo was here is old_is now_is. reached.behind i redo was here (let inside = slice_get_within streams i redo is in omega arith) is old_is now_is;
  others = reached.others;
  count = reached.count;
}

-- some were, and the others are as they were
pub reached-some : {D : Type 0} (streams : List Redo) (n : ℕ) (P Q : Redo → D → D → Type 0) (old now : List D) →
    ((redo : Redo) (was here : D) → P redo was here → Q redo was here) → ((redo : Redo) (d : D) → Q redo d d) →
    StageIsReached streams n P old now → EachDisk streams Q old now
reached-some {D} streams n P Q old now weaker itself reached = record {
  given = λ i redo was here is old_is now_is. given_at i redo was here is old_is now_is (cases_lt i n);
  others = reached.others;
  count = reached.count;
}
  where
    given_at : (i : ℕ) (redo : Redo) (was here : D) → slice_get streams i ≡ Some redo → slice_get old redo.disk ≡ Some was →
        slice_get now redo.disk ≡ Some here → (i < n) ⊎ (n ≤ i) → Q redo was here
    given_at i redo was here is old_is now_is (inl less) = weaker redo was here (reached.behind i redo was here less is old_is now_is)
    given_at i redo was here is old_is now_is (inr more) =
        let same : here ≡ was = same_Some here was (sym now_is ∙ reached.ahead i redo more is ∙ old_is) in
        subst (λ (h : D). Q redo was h) (sym same) (itself redo was)

-- a fact of each disk that follows from others
pub each-map : {D : Type 0} (streams : List Redo) (P Q : Redo → D → D → Type 0) (old new : List D) →
    ((redo : Redo) (was now : D) → P redo was now → Q redo was now) → EachDisk streams P old new → EachDisk streams Q old new
each-map streams P Q old new weaker each = record {
  given = λ i redo was now is old_is new_is. weaker redo was now (each.given i redo was now is old_is new_is);
  others = each.others;
  count = each.count;
}

some-held : {D : Type 0} (xs : List D) (k : ℕ) → k < length xs → (x : D) × (slice_get xs k ≡ Some x)
some-held [] k inside = absurd (omega arith)
some-held (x ∷ xs) zero inside = (x, refl)
some-held (x ∷ xs) (suc k) inside = some-held xs k (omega arith)

pub each-then : {D : Type 0} (streams : List Redo) (P Q R : Redo → D → D → Type 0) (old now new : List D) →
    ((redo : Redo) (was here last : D) → P redo was here → Q redo here last → R redo was last) → EachDisk streams P old now → EachDisk streams Q now new →
    EachDisk streams R old new
each-then {D} streams P Q R old now new joined first second = record {
  given = λ i redo was last is old_is new_is.
      let inside : redo.disk < length now = let in_old = slice_get_within old redo.disk was old_is in let same = first.count in omega arith in
      let here = some-held now redo.disk inside in
      joined redo was here.0 last (first.given i redo was here.0 is old_is here.1) (second.given i redo here.0 last is here.1 new_is);
  others = λ k none. second.others k none ∙ first.others k none;
  count = second.count ∙ first.count;
}

pub each-same : {D : Type 0} (streams : List Redo) (Q : Redo → D → D → Type 0) (old new : List D) → new ≡ old → ((redo : Redo) (d : D) → Q redo d d) → EachDisk streams Q old new
each-same {D} streams Q old new same itself = subst (λ (l : List D). EachDisk streams Q old l) (sym same) (reached-some streams 0 (λ redo was here. ⊥) Q old old (λ redo was here no. absurd no) itself (reached-begun streams (λ redo was here. ⊥) old))

-- a disk that failed behind disks that were reached and did not
pub failed-at : {D : Type 0} (faults : D → ℕ) (Q : Redo → D → D → Type 0) (streams : List Redo) (n : ℕ) (P : Redo → D → D → Type 0) (old now new : List D)
    (redo : Redo) (here next : D) → slice_get streams n ≡ Some redo → StageIsReached streams n P old now → Changed redo.disk here next now new →
    faults next ≡ faults here + 1 → Q redo here next → OneFailed faults Q streams old new
failed-at faults Q streams n P old now new redo here next is reached changed failed of_it =
    (n, redo, here, next, is, reached-was streams n P old now redo here is reached changed.was, changed.is, failed, of_it)

-- one that failed behind a stage in which none did
pub failed-then : {D : Type 0} (faults : D → ℕ) (Q R : Redo → D → D → Type 0) (streams : List Redo) (P : Redo → D → D → Type 0) (old now new : List D) →
    EachDisk streams P old now → ((redo : Redo) (was here : D) → P redo was here → faults here ≡ faults was) →
    ((redo : Redo) (was here next : D) → P redo was here → Q redo here next → R redo was next) → OneFailed faults Q streams now new →
    length new ≡ length now → OneFailed faults R streams old new
failed-then faults Q R streams P old now new each none joined failed long =
    let redo = failed.1 in
    let here = failed.2 in
    let inside : redo.disk < length old = let in_now = slice_get_within now redo.disk here failed.5 in let same = each.count in omega arith in
    let was = some-held old redo.disk inside in
    let before = each.given failed.0 redo was.0 here failed.4 was.1 failed.5 in (
      failed.0,
      redo,
      was.0,
      failed.3,
      failed.4,
      was.1,
      failed.6,
      failed.7 ∙ ap (λ (f : ℕ). f + 1) (none redo was.0 here before),
      joined redo was.0 here failed.3 before failed.8,
    )

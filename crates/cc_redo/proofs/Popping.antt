-- A page is taken out of those that are kept, and written.
use Rattle.std.specs.Prelude.{◌≡◌, ℕ, ◌<◌, ◌≤◌, Bool, true, false, ◌==◌, List, Err, refl}
use Rattle.std.specs.declared.option.Option.{Option}
use Rattle.std.specs.declared.option.Option.TheVariants.{Some, None}
use Rattle.std.specs.Ordering.{nat_cmp}
use Rattle.std.specs.BTreeMap.{BTreeMap, get, is_at, Updates}
use Rattle.std.proofs.Common.{ap, sym, subst, ◌∙◌, arith, cond, ⊎_elim}
use Rattle.std.proofs.lemmas.Bool.{cases_lt, eqb-false, ne_eqb}
use Rattle.cc_traits.specs.declared.stop.Stop.{Stop}
use Rattle.cc_traits.specs.declared.stop.Stop.TheVariants as stop
use Rattle.cc_traits.specs.Stop.{OnFailed, OnNoMemory}
use Rattle.cc_traits.specs.Told.{Both}
use Rattle.cc_traits.specs.Disk.{Disk, WriteFailed, Wrote}
use Rattle.cc_redo.specs.Disks.{record_number}
use Rattle.cc_redo.specs.Scanned.{IsPartlyWritten, KeepsData}
use Rattle.cc_redo.proofs.Keeping.{not-at}
use Rattle.cc_redo.proofs.Options.{both-map, both-then}
use Rattle.cc_redo.proofs.Writes.{IsGoingOn, going-failed, going-wrote, page_by}

no-page : (b : Bool) → (let none : Option (List ℕ) = None in cond b none none) ≡ None
no-page true = refl
no-page false = refl

pub pop-keeps : (m n : BTreeMap ℕ (List ℕ)) (k : ℕ) → Updates nat_cmp m n k None → KeepsData m → KeepsData n
pop-keeps m n k updates keeps = λ page beyond.
    updates.0 page ∙ ap (λ (o : Option (List ℕ)). cond (is_at (nat_cmp k) page) None o) (keeps page beyond) ∙ no-page (is_at (nat_cmp k) page)

-- what was not kept is not kept then
pub pop-none : (m n : BTreeMap ℕ (List ℕ)) (k : ℕ) → Updates nat_cmp m n k None → (page : ℕ) → get nat_cmp m page ≡ None → get nat_cmp n page ≡ None
pop-none m n k updates page none =
    updates.0 page ∙ ap (λ (o : Option (List ℕ)). cond (is_at (nat_cmp k) page) None o) none ∙ no-page (is_at (nat_cmp k) page)

-- what is kept is no record
below : (m : BTreeMap ℕ (List ℕ)) (k : ℕ) (v : List ℕ) → KeepsData m → get nat_cmp m k ≡ Some v → k < record_number
below m k v keeps is = ⊎_elim (λ (b : k < record_number). b) (λ (a : record_number ≤ k). absurd (let none = keeps k a in (cc))) (cases_lt k record_number)

apart : (m : BTreeMap ℕ (List ℕ)) (k : ℕ) (v : List ℕ) → KeepsData m → get nat_cmp m k ≡ Some v → (k == record_number) ≡ false
apart m k v keeps is = ne_eqb k record_number (λ e. let b = below m k v keeps is in absurd (omega arith))

pub popped-wrote : (f : ℕ → Option (List ℕ)) (m n : BTreeMap ℕ (List ℕ)) (k : ℕ) (v : List ℕ) (old now next : Option Disk) → KeepsData m → get nat_cmp m k ≡ Some v →
    Updates nat_cmp m n k None → Both old now (IsGoingOn f (get nat_cmp m)) → Both now next (Wrote k v) → Both old next (IsGoingOn f (get nat_cmp n))
popped-wrote f m n k v old now next keeps is updates going wrote =
    both-then (IsGoingOn f (get nat_cmp m)) (Wrote k v) (IsGoingOn f (get nat_cmp n)) old now next
    (λ o w x on it.
    going-wrote f (get nat_cmp m) (get nat_cmp n) k v o w x is updates.1
    (λ q e. updates.2 q (not-at k q (λ same. eqb-false k q e (sym same)))) (apart m k v keeps is) on it)
    going wrote

pub popped-stopped : (reason : Stop) (f : ℕ → Option (List ℕ)) (m : BTreeMap ℕ (List ℕ)) (k : ℕ) (v : List ℕ) (old now next : Option Disk) → KeepsData m → get nat_cmp m k ≡ Some v →
    Both old now (IsGoingOn f (get nat_cmp m)) → OnFailed {T = Unit {0}} (Err reason) (Both now next (WriteFailed k v)) → OnNoMemory {T = Unit {0}} (Err reason) (next ≡ now) →
    Both old next (λ o x. IsPartlyWritten (page_by f o) o x)
popped-stopped stop.Failed f m k v old now next keeps is going failed none =
    both-then (IsGoingOn f (get nat_cmp m)) (WriteFailed k v) (λ o x. IsPartlyWritten (page_by f o) o x) old now next
    (λ o w x on it. going-failed f (get nat_cmp m) k v o w x is (apart m k v keeps is) on it)
    going failed
popped-stopped stop.NoMemory f m k v old now next keeps is going failed same =
    subst (λ (d : Option Disk). Both old d (λ o x. IsPartlyWritten (page_by f o) o x)) (sym same)
    (both-map (IsGoingOn f (get nat_cmp m)) (λ o x. IsPartlyWritten (page_by f o) o x) old now (λ o x on. on.writing) going)

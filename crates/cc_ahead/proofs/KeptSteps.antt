-- What is kept of an object after one object is changed.
use Rattle.std.specs.Prelude.{◌≡◌, ℕ, zero, suc, ◌<◌, ◌≢◌, Bool, true, false, not, ◌&&◌, ◌==◌, List, [], ◌∷◌, length, take, replicate, if◌then◌else◌, refl}
use Rattle.std.proofs.Common.{ap, sym, ◌∙◌, arith, get_or-set_other}
use Rattle.std.proofs.lemmas.Bool.{eqb-true, eqb-false}
use Rattle.std.proofs.lemmas.Grind.{get_or-set_at}
use Rattle.cc_entry.specs.Place.{Range}
use Rattle.cc_model.specs.Numbers.{is_among}
use Rattle.cc_model.specs.ReadAhead.{is_sequential}
use Rattle.cc_ahead.specs.Kept.{ObjectReads, unused, kept_of}
use Rattle.cc_ahead.specs.After.{with_object_changed}

pub kept_of-begun : (n k : ℕ) → kept_of (replicate n unused) k ≡ unused
kept_of-begun zero k = refl
kept_of-begun (suc n) zero = refl
kept_of-begun (suc n) (suc k) = kept_of-begun n k

-- the object that is changed, and the others
pub kept_of-changed : (maps : List ObjectReads) (n k : ℕ) (change : ObjectReads → ObjectReads) → k < length maps → kept_of (with_object_changed maps n change) k ≡ (if n == k then change (kept_of maps k) else kept_of maps k)
kept_of-changed maps n k change below = go (n == k) refl
  where
    go : (b : Bool) → (n == k) ≡ b → kept_of (with_object_changed maps n change) k ≡ (if n == k then change (kept_of maps k) else kept_of maps k)
    go true is =
        let same : k ≡ n = sym (eqb-true n k is) in
        rw is (get_or-set_at maps n k _ unused same (omega arith) ∙ ap (λ (x : ℕ). change (kept_of maps x)) (sym same))
    go false is =
        let other : k ≢ n = λ same. eqb-false n k is (sym same) in
        rw is (get_or-set_other maps n k _ unused other)

-- two reads of the last two and one more are those of all and one more
pub take-two : (read : Range) (reads : List Range) → take 2 (read ∷ take 2 reads) ≡ take 2 (read ∷ reads)
take-two read [] = refl
take-two read (r ∷ reads) = refl

-- the last two reads say as much as all
pub is_sequential-take : (at : ℕ) (reads : List Range) → is_sequential at (take 2 reads) ≡ is_sequential at reads
is_sequential-take at [] = refl
is_sequential-take at (r ∷ []) = refl
is_sequential-take at (newer ∷ older ∷ rest) = refl

-- an initialise forgets no reads where its object was open, and that object's where it was not
pub forgets-open : (n k : ℕ) (opened : List ℕ) → true ≡ is_among n opened → ((n == k) && not (is_among k opened)) ≡ false
forgets-open n k opened says = go (n == k) refl
  where
    go : (b : Bool) → (n == k) ≡ b → ((n == k) && not (is_among k opened)) ≡ false
    go true is = rw is (ap (λ (x : ℕ). not (is_among x opened)) (sym (eqb-true n k is)) ∙ ap not (sym says))
    go false is = rw is refl

pub forgets-closed : (n k : ℕ) (opened : List ℕ) → false ≡ is_among n opened → ((n == k) && not (is_among k opened)) ≡ (n == k)
forgets-closed n k opened says = go (n == k) refl
  where
    go : (b : Bool) → (n == k) ≡ b → ((n == k) && not (is_among k opened)) ≡ (n == k)
    go true is = rw is (ap (λ (x : ℕ). not (is_among x opened)) (sym (eqb-true n k is)) ∙ ap not (sym says))
    go false is = rw is refl

-- Flags of open objects, and the objects that they stand for.
use Rattle.std.specs.Prelude.{◌≡◌, ℕ, zero, suc, ◌<◌, ◌≢◌, Bool, true, false, not, ◌&&◌, ◌||◌, ◌==◌, nat_lt, List, [], ◌∷◌, length, slice_set, if◌then◌else◌, refl}
use Rattle.std.specs.declared.option.Option.{Option}
use Rattle.std.specs.declared.option.Option.TheVariants.{Some, None}
use Rattle.std.proofs.Common.{ap, sym, ◌∙◌, arith, get_or-set_other}
use Rattle.std.proofs.lemmas.Bool.{eqb-true, eqb-false}
use Rattle.std.proofs.lemmas.Grind.{get_or-set_at}
use Rattle.cc_model.specs.Numbers.{is_empty, is_among, without}
use Rattle.cc_events.specs.Events.{truncation_by}
use Rattle.cc_laws.proofs.PlacesResident.{among-in, among-without}
use Rattle.cc_stream.specs.Stream.{Stream, is_open_in, any_open, cut_of}

-- no flag is set, and one is
any_open-none : (opened : List Bool) → ((k : ℕ) → is_open_in opened k ≡ false) → any_open opened ≡ false
any_open-none [] none = refl
any_open-none (b ∷ bs) none = let first : b ≡ false = none 0 in rw first (any_open-none bs (λ k. none (suc k)))

any_open-some : (opened : List Bool) (k : ℕ) → is_open_in opened k ≡ true → any_open opened ≡ true
any_open-some [] k is = cc
any_open-some (b ∷ bs) zero is = let first : b ≡ true = is in rw first refl
any_open-some (true ∷ bs) (suc k) is = refl
any_open-some (false ∷ bs) (suc k) is = any_open-some bs k is

pub is_open_in-none : (opened : List Bool) → any_open opened ≡ false → (k : ℕ) → is_open_in opened k ≡ false
is_open_in-none [] none k = refl
is_open_in-none (true ∷ bs) none k = cc
is_open_in-none (false ∷ bs) none zero = refl
is_open_in-none (false ∷ bs) none (suc k) = is_open_in-none bs none k

-- some flag is set where there is an object
pub any_open-is : (opened : List Bool) (ns : List ℕ) → ((k : ℕ) → is_open_in opened k ≡ is_among k ns) → any_open opened ≡ not (is_empty ns)
any_open-is opened [] flags = any_open-none opened flags
any_open-is opened (n ∷ ns) flags = let same : (n == n) ≡ true = grind arith in any_open-some opened n (flags n ∙ rw same refl)

-- a flag that is cleared, also one past the end, and the others
is_open_in-cleared_same : (opened : List Bool) (n : ℕ) → is_open_in (slice_set opened n false) n ≡ false
is_open_in-cleared_same [] n = refl
is_open_in-cleared_same (b ∷ bs) zero = refl
is_open_in-cleared_same (b ∷ bs) (suc n) = is_open_in-cleared_same bs n

is_open_in-cleared : (opened : List Bool) (n k : ℕ) → is_open_in (slice_set opened n false) k ≡ (not (n == k) && is_open_in opened k)
is_open_in-cleared opened n k = go (n == k) refl
  where
    go : (b : Bool) → (n == k) ≡ b → is_open_in (slice_set opened n false) k ≡ (not (n == k) && is_open_in opened k)
    go true is = rw is (ap (is_open_in (slice_set opened n false)) (sym (eqb-true n k is)) ∙ is_open_in-cleared_same opened n)
    go false is = let other : k ≢ n = λ same. eqb-false n k is (sym same) in rw is (get_or-set_other opened n k false false other)

-- the flags after an object is opened, and closed
pub is_open_in-opens : (opened : List Bool) (ns : List ℕ) (n : ℕ) → n < length opened → ((k : ℕ) → is_open_in opened k ≡ is_among k ns) → (k : ℕ) → is_open_in (slice_set opened n true) k ≡ is_among k (n ∷ without n ns)
is_open_in-opens opened ns n within flags k = go (n == k) refl ∙ sym (among-in n k ns)
  where
    go : (b : Bool) → (n == k) ≡ b → is_open_in (slice_set opened n true) k ≡ ((n == k) || is_among k ns)
    go true is = rw is (get_or-set_at opened n k true false (sym (eqb-true n k is)) within)
    go false is = let other : k ≢ n = λ same. eqb-false n k is (sym same) in rw is (get_or-set_other opened n k true false other ∙ flags k)

pub is_open_in-closes : (opened : List Bool) (ns : List ℕ) (n : ℕ) → ((k : ℕ) → is_open_in opened k ≡ is_among k ns) → (k : ℕ) → is_open_in (slice_set opened n false) k ≡ is_among k (without n ns)
is_open_in-closes opened ns n flags k = is_open_in-cleared opened n k ∙ (ap (λ (b : Bool). not (n == k) && b) (flags k) ∙ sym (among-without n k ns))

-- an uninitialise sets the size that the definitions say
pub cut_of-is : (s : Stream) (object : ℕ) (truncate : Option ℕ) (ns : List ℕ) (size : ℕ) → ((k : ℕ) → is_open_in s.opened k ≡ is_among k ns) → s.size ≡ size → cut_of s object truncate ≡ truncation_by object truncate ns size
cut_of-is s object None ns size flags sizes = refl
cut_of-is s object (Some to) ns size flags sizes =
    rw (flags object, any_open-is (slice_set s.opened object false) (without object ns) (is_open_in-closes s.opened ns object flags), sizes)
    (go (is_among object ns) (is_empty (without object ns)) (nat_lt to size))
  where
    go : (a b c : Bool) → (if a && not (not b) && c then Some to else None) ≡ (if a && (b && c) then Some to else None)
    go true true c = refl
    go true false c = refl
    go false b c = refl

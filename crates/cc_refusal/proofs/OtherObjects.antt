-- Whether an object of a stream but one is open, by the numbers that an object may have.
use Rattle.std.specs.Prelude.{◌≡◌, ℕ, ◌<◌, Bool, true, not, ◌&&◌, ◌||◌, ◌==◌, List, [], ◌∷◌, All, length, get_or, refl}
use Rattle.std.specs.List.{list_any, range_with_len}
use Rattle.std.proofs.Common.{ap, sym, ◌∙◌, arith}
use Rattle.std.proofs.lemmas.List.Elements.{All-filter, All-head}
use Rattle.std.proofs.lemmas.List.Folds.{list_any_at}
use Rattle.std.proofs.lemmas.List.FromFn.{length-range_with_len, get_or-range_with_len}
use Rattle.cc_laws.proofs.PlacesResident.{among-without}
use Rattle.cc_model.specs.Numbers.{is_empty, is_among, without}
use Rattle.cc_stream.specs.Stream.{is_open_in}

-- two tests that say the same
any-same : (p q : ℕ → Bool) → ((n : ℕ) → p n ≡ q n) → (ns : List ℕ) → list_any p ns ≡ list_any q ns
any-same p q same [] = refl
any-same p q same (n ∷ ns) = let rest = any-same p q same ns in rw (same n, rest) refl

-- one of sixteen numbers is in a list of such numbers, where the list has any
any-among : (ns : List ℕ) → All (λ n. n < 16) ns → list_any (λ n. is_among n ns) (range_with_len 0 16) ≡ not (is_empty ns)
any-among [] below = refl
any-among (n ∷ ns) below =
    let here : n < 16 = All-head (λ n. n < 16) n ns below in
    let within : n < length (range_with_len 0 16) = omega (arith, length-range_with_len 0 16) in
    let found : get_or (range_with_len 0 16) n 0 ≡ n = omega (arith, get_or-range_with_len 0 16 n 0 here) in
    let same : (n == n) ≡ true = grind arith in
    list_any_at (λ m. is_among m (n ∷ ns)) (range_with_len 0 16) n 0 within
    (ap (λ (m : ℕ). is_among m (n ∷ ns)) found ∙ ap (λ (b : Bool). b || is_among n ns) same)

pub any-others : (object : ℕ) (opened : List Bool) (ns : List ℕ) → ((k : ℕ) → is_open_in opened k ≡ is_among k ns) → All (λ n. n < 16) ns → list_any (λ n. not (object == n) && is_open_in opened n) (range_with_len 0 16) ≡ not (is_empty (without object ns))
any-others object opened ns flags below =
    any-same _ _ (λ n. ap (λ (b : Bool). not (object == n) && b) (flags n) ∙ sym (among-without object n ns)) (range_with_len 0 16)
    ∙ any-among (without object ns) (All-filter (λ m. not (m == object)) (λ n. n < 16) ns below)

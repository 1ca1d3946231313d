-- The number of levels of a size.
use Rattle.std.proofs.Common.{◌≡◌, ℕ, suc, zero, ◌+◌, ◌-◌, ◌*◌, ◌/◌, ◌%◌, ◌^◌, ◌<◌, ◌≤◌, if◌then◌else◌, refl, sym, subst, arith, inl, inr}
use Rattle.std.proofs.lemmas.Bool.{cases_Bool, cases_lt, leb-true, leb-false, le-leb, lt-leb, cond-true, cond-false}
use Rattle.std.proofs.lemmas.Nat.{div_below}
use Rattle.std.proofs.Math.Nat.{pow-le-pow_right}
use native.Mathlib.Numerals.{unary_clauses}
use Rattle.std.specs.Prelude.{nat_le}
use Rattle.cc_vacb.specs.Index.{width_of, StartsBelow}
use Rattle.cc_vacb.specs.Levels.{levels_of, IsLeastLevels}

-- which range a size is in, by its levels
pub data SizeIn (size : ℕ) : ℕ → Type 0 where
  in_1 : size ≤ 33554432 → SizeIn size 1
  in_2 : 33554432 < size → size ≤ 4294967296 → SizeIn size 2
  in_3 : 4294967296 < size → size ≤ 549755813888 → SizeIn size 3
  in_4 : 549755813888 < size → size ≤ 70368744177664 → SizeIn size 4
  in_5 : 70368744177664 < size → size ≤ 9007199254740992 → SizeIn size 5
  in_6 : 9007199254740992 < size → size ≤ 1152921504606846976 → SizeIn size 6
  in_7 : 1152921504606846976 < size → SizeIn size 7

in_chain : (size n l rest : ℕ) → (size ≤ n → SizeIn size l) → (n < size → SizeIn size rest) → SizeIn size (if nat_le size n then l else rest)
in_chain size n l rest f g =
    elim (cases_Bool (nat_le size n)) [
      | inl e ↦ subst (SizeIn size) (sym (cond-true (nat_le size n) l rest e)) (f (leb-true size n e))
      | inr e ↦ subst (SizeIn size) (sym (cond-false (nat_le size n) l rest e)) (g (leb-false size n e))
    ]

pub size_in : (size : ℕ) → SizeIn size (levels_of size)
unfolding levels_of
size_in size =
    in_chain size (2 ^ 25) 1 _ in_1 (λ a.
    in_chain size (2 ^ 32) 2 _ (in_2 a) (λ b.
    in_chain size (2 ^ 39) 3 _ (in_3 b) (λ c.
    in_chain size (2 ^ 46) 4 _ (in_4 c) (λ d.
    in_chain size (2 ^ 53) 5 _ (in_5 d) (λ e.
    in_chain size (2 ^ 60) 6 7 (in_6 e) in_7)))))

least_by : (size l m : ℕ) → 2 ^ m < size → 18 + 7 * l ≡ m + 7 → (f : ℕ) → size ≤ 2 ^ (18 + 7 * f) → l ≤ f
least_by size l m g e f c =
    elim (cases_lt f l) [
      | inl h ↦ absurd (omega (arith, pow-le-pow_right {n = 2} (omega arith) {i = 18 + 7 * f} {j = m} (omega arith), g, c))
      | inr h ↦ h
    ]

pub least_levels : (size l : ℕ) → size < 2 ^ 64 → SizeIn size l → IsLeastLevels size l
least_levels size l c (in_1 h) = record { some = omega arith; covers = h; least = λ f g e. g }
least_levels size l c (in_2 g h) = record { some = omega arith; covers = h; least = λ f _ e. least_by size 2 25 g (omega arith) f e }
least_levels size l c (in_3 g h) = record { some = omega arith; covers = h; least = λ f _ e. least_by size 3 32 g (omega arith) f e }
least_levels size l c (in_4 g h) = record { some = omega arith; covers = h; least = λ f _ e. least_by size 4 39 g (omega arith) f e }
least_levels size l c (in_5 g h) = record { some = omega arith; covers = h; least = λ f _ e. least_by size 5 46 g (omega arith) f e }
least_levels size l c (in_6 g h) = record { some = omega arith; covers = h; least = λ f _ e. least_by size 6 53 g (omega arith) f e }
least_levels size l c (in_7 g) = record { some = omega arith; covers = omega arith; least = λ f _ e. least_by size 7 60 g (omega arith) f e }

pub levels_range : (size l : ℕ) → SizeIn size l → (1 ≤ l) × (l ≤ 7)
levels_range size l (in_1 h) = (omega arith, omega arith)
levels_range size l (in_2 g h) = (omega arith, omega arith)
levels_range size l (in_3 g h) = (omega arith, omega arith)
levels_range size l (in_4 g h) = (omega arith, omega arith)
levels_range size l (in_5 g h) = (omega arith, omega arith)
levels_range size l (in_6 g h) = (omega arith, omega arith)
levels_range size l (in_7 g) = (omega arith, omega arith)

-- the levels have a place for each block that starts below the size
pub number_covered : (size l b : ℕ) → size < 2 ^ 64 → SizeIn size l → StartsBelow b size → b < 128 ^ l
number_covered size l b c (in_1 h) s = omega (arith, s)
number_covered size l b c (in_2 g h) s = omega (arith, s)
number_covered size l b c (in_3 g h) s = omega (arith, s)
number_covered size l b c (in_4 g h) s = omega (arith, s)
number_covered size l b c (in_5 g h) s = omega (arith, s)
number_covered size l b c (in_6 g h) s = omega (arith, s)
number_covered size l b c (in_7 g) s = omega (arith, s)

pub prefix_covered : (l b : ℕ) → 1 ≤ l → b < 128 ^ l → b / 128 < 128 ^ (l - 1)
prefix_covered zero b g c = absurd (omega arith)
prefix_covered (suc l) b g c =
    let e : b < 128 ^ l * 128 = simp unary_clauses at c in
    simp unary_clauses (div_below b 128 (128 ^ l) (omega arith) e)

pub deep_size : (size l : ℕ) → SizeIn size l → 0 < l - 1 → 1048576 < size
deep_size size l (in_1 h) g = absurd (omega arith)
deep_size size l (in_2 a h) g = omega arith
deep_size size l (in_3 a h) g = omega arith
deep_size size l (in_4 a h) g = omega arith
deep_size size l (in_5 a h) g = omega arith
deep_size size l (in_6 a h) g = omega arith
deep_size size l (in_7 a) g = omega arith

pub flat_size : (size l : ℕ) → SizeIn size l → size ≤ 1048576 → l ≡ 1
flat_size size l (in_1 h) g = refl
flat_size size l (in_2 a h) g = absurd (omega arith)
flat_size size l (in_3 a h) g = absurd (omega arith)
flat_size size l (in_4 a h) g = absurd (omega arith)
flat_size size l (in_5 a h) g = absurd (omega arith)
flat_size size l (in_6 a h) g = absurd (omega arith)
flat_size size l (in_7 a) g = absurd (omega arith)

pub width_small : (size : ℕ) → size ≤ 1048576 → width_of size ≡ 4
unfolding width_of
width_small size h = cond-true (nat_le size 1048576) 4 128 (le-leb size 1048576 h)

pub width_large : (size : ℕ) → 1048576 < size → width_of size ≡ 128
unfolding width_of
width_large size h = cond-false (nat_le size 1048576) 4 128 (lt-leb size 1048576 h)

pub width_bound : (size : ℕ) → (4 ≤ width_of size) × (width_of size ≤ 128)
width_bound size =
    elim (cases_lt 1048576 size) [
      | inl h ↦ (omega (arith, width_large size h), omega (arith, width_large size h))
      | inr h ↦ (omega (arith, width_small size h), omega (arith, width_small size h))
    ]

pub width_deep : (size : ℕ) → 0 < levels_of size - 1 → width_of size ≡ 128
width_deep size g = width_large size (deep_size size (levels_of size) (size_in size) g)

-- the slot of a block's number in the root, where the root is the only level
pub root_slot : (size b : ℕ) → StartsBelow b size → b % 128 < width_of size
root_slot size b s =
    elim (cases_lt 1048576 size) [
      | inl h ↦ omega (arith, width_large size h)
      | inr h ↦ omega (arith, width_small size h, s)
    ]

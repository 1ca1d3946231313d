-- The streams that are given to a restart: each is a stream of the script, at the place of its number, and no two have one disk.
use Rattle.std.specs.Prelude.{◌≡◌, ◌≢◌, ℕ, zero, suc, ◌+◌, ◌<◌, ◌≤◌, Bool, true, false, List, [], ◌∷◌, ◌++◌, length, slice_get, All, refl, ◌⊎◌}
use Rattle.std.specs.declared.option.Option.{Option}
use Rattle.std.specs.declared.option.Option.TheVariants.{Some}
use Rattle.std.proofs.Common.{ap, sym, subst, ◌∙◌, arith, inl, inr, append_assoc, get_or}
use Rattle.std.proofs.lemmas.Bool.{cases_lt, false≢true}
use Rattle.std.proofs.lemmas.Option.{same_Some, slice_get-get_or, slice_get_within}
use Rattle.cc_traits.specs.Disk.{Disk}
use Rattle.cc_format.specs.declared.record.StreamRecord.{StreamRecord}
use Rattle.cc_script.specs.declared.script.StreamLine.{StreamLine}
use Rattle.cc_redo.specs.declared.redo.Redo.{Redo}
use Rattle.cc_redo.specs.Ends.{DisksDiffer}
use Rattle.cc_restarts.specs.Given.{GivenOf, GivenTo, GivenWith, is_restarted}

-- one stream more
pub given-more : {D : Type 0} (told : D → Option Disk) (disks : List D) (handle s n : ℕ) (streams : List StreamLine) (stream : StreamLine) (given one : List Redo) (disk : D) →
    n ≡ s + length streams → GivenTo told disks handle s streams given → slice_get disks n ≡ Some disk → GivenOf (told disk) n stream (is_restarted handle stream) one →
    GivenTo told disks handle s (streams ++ stream ∷ []) (given ++ one)
given-more {D} told disks handle s n [] stream given one disk is before here of_it =
    let number : n ≡ s = omega (arith, is) in
    let empty : given ≡ [] = before in
    let all : given ++ one ≡ one ++ [] = ap (λ (l : List Redo). l ++ one) empty ∙ sym (append-nil one) in
    (disk, one, [], ap (λ (k : ℕ). slice_get disks k) (sym number) ∙ here, all, subst (λ (k : ℕ). GivenOf (told disk) k stream (is_restarted handle stream) one) number of_it, refl)
  where
    append-nil : (l : List Redo) → l ++ [] ≡ l
    append-nil [] = refl
    append-nil (x ∷ l) = ap (λ (m : List Redo). x ∷ m) (append-nil l)
given-more told disks handle s n (first ∷ streams) stream given one disk is before here of_it = (
  before.0,
  before.1,
  before.2 ++ one,
  before.3,
  ap (λ (l : List Redo). l ++ one) before.4 ∙ append_assoc before.1 before.2 one,
  before.5,
  given-more told disks handle (suc s) n streams stream before.2 one disk (omega (arith, is)) before.6 here of_it,
)

-- a stream that is given is restarted, and its disk is that of its number
one-named : (told : Option Disk) (s : ℕ) (stream : StreamLine) (b : Bool) (one : List Redo) (i : ℕ) (redo : Redo) → GivenOf told s stream b one → slice_get one i ≡ Some redo →
    (i ≡ 0) × (redo.disk ≡ s) × (redo.stream ≡ s) × (b ≡ true)
one-named told s stream false one i redo given is = absurd (let none : one ≡ [] = given in cc (sym is ∙ ap (λ (l : List Redo). slice_get l i) none))
one-named told s stream true [] i redo given is = absurd (cc is)
one-named told s stream true (first ∷ []) zero redo given is =
    let same : first ≡ redo = same_Some first redo is in
    (refl, subst (λ (r : Redo). r.disk ≡ s) same given.2.disk_is, subst (λ (r : Redo). r.stream ≡ s) same given.2.stream_is, refl)
one-named told s stream true (first ∷ []) (suc i) redo given is = absurd (cc is)
one-named told s stream true (first ∷ second ∷ more) i redo given is = absurd given.2

-- what stands in two lists one behind the other
get-append : {A : Type 0} (xs ys : List A) (i : ℕ) (x : A) → slice_get (xs ++ ys) i ≡ Some x → (slice_get xs i ≡ Some x) ⊎ ((k : ℕ) × (i ≡ length xs + k) × (slice_get ys k ≡ Some x))
get-append [] ys i x is = inr (i, omega arith, is)
get-append (first ∷ xs) ys zero x is = inl is
get-append (first ∷ xs) ys (suc i) x is = elim (get-append xs ys i x is) [
  | inl here ↦ inl here
  | inr there ↦ inr (there.0, let place = there.1 in omega arith, there.2)
]

module _ {D : Type 0} (told : D → Option Disk) (disks : List D) (handle : ℕ) where
  pub given-named : (s : ℕ) (streams : List StreamLine) (given : List Redo) → GivenTo told disks handle s streams given → (i : ℕ) (redo : Redo) → slice_get given i ≡ Some redo →
      (k : ℕ) × (stream : StreamLine) × (redo.disk ≡ s + k) × (slice_get streams k ≡ Some stream) × (is_restarted handle stream ≡ true)
  given-named s [] given are i redo is = absurd (let none : given ≡ [] = are in cc (sym is ∙ ap (λ (l : List Redo). slice_get l i) none))
  given-named s (stream ∷ streams) given are i redo is = elim (get-append are.1 are.2 i redo (sym (ap (λ (l : List Redo). slice_get l i) are.4) ∙ is)) [
    | inl here ↦ let of_it = one-named (told are.0) s stream (is_restarted handle stream) are.1 i redo are.5 here in (0, stream, let place = of_it.1 in omega arith, refl, of_it.3)
    | inr there ↦
        let named = given-named (suc s) streams are.2 are.6 there.0 redo there.2 in
        (suc named.0, named.1, let place = named.2 in omega arith, named.3, named.4)
  ]

  -- the disk of each is one of the script's streams
  pub given-below : (s : ℕ) (streams : List StreamLine) (given : List Redo) → GivenTo told disks handle s streams given → All (λ redo. redo.disk < s + length streams) given
  given-below s streams given are = λ i d inside.
      let named = given-named s streams given are i (get_or given i d) (slice_get-get_or given i d inside) in
      let below = slice_get_within streams named.0 named.1 named.3 in
      let place = named.2 in
      omega arith

  one-few : (read : Option Disk) (s : ℕ) (stream : StreamLine) (b : Bool) (one : List Redo) → GivenOf read s stream b one → length one ≤ 1
  one-few read s stream false one given = let none : one ≡ [] = given in omega (arith, ap length none)
  one-few read s stream true [] given = omega arith
  one-few read s stream true (first ∷ []) given = omega arith
  one-few read s stream true (first ∷ second ∷ more) given = absurd given.2

  pub given-differ : (s : ℕ) (streams : List StreamLine) (given : List Redo) → GivenTo told disks handle s streams given → DisksDiffer given
  given-differ s [] given are i j one other is also same = absurd (let none : given ≡ [] = are in cc (sym is ∙ ap (λ (l : List Redo). slice_get l i) none))
  given-differ s (stream ∷ streams) given are i j one other is also same =
      elim (get-append are.1 are.2 i one (sym (ap (λ (l : List Redo). slice_get l i) are.4) ∙ is)) [
        | inl here ↦ elim (get-append are.1 are.2 j other (sym (ap (λ (l : List Redo). slice_get l j) are.4) ∙ also)) [
          | inl there ↦
              let first = (one-named (told are.0) s stream (is_restarted handle stream) are.1 i one are.5 here).0 in
              let second = (one-named (told are.0) s stream (is_restarted handle stream) are.1 j other are.5 there).0 in
              first ∙ sym second
          | inr there ↦
              let first = (one-named (told are.0) s stream (is_restarted handle stream) are.1 i one are.5 here).1 in
              let second = (given-named (suc s) streams are.2 are.6 there.0 other there.2).2 in
              absurd (omega (arith, first, second, same))
        ]
        | inr here ↦ elim (get-append are.1 are.2 j other (sym (ap (λ (l : List Redo). slice_get l j) are.4) ∙ also)) [
          | inl there ↦
              let first = (given-named (suc s) streams are.2 are.6 here.0 one here.2).2 in
              let second = (one-named (told are.0) s stream (is_restarted handle stream) are.1 j other are.5 there).1 in
              absurd (omega (arith, first, second, same))
          | inr there ↦
              let places : here.0 ≡ there.0 = given-differ (suc s) streams are.2 are.6 here.0 there.0 one other here.2 there.2 same in
              let first = here.1 in
              let second = there.1 in
              omega (arith, places, first, second)
        ]
      ]

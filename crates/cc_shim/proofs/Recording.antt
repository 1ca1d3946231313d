-- The bytes of a record, spelled number by number.
use Rattle.std.specs.Prelude.{◌≡◌, ℕ, zero, suc, ◌/◌, ◌%◌, ◌^◌, List, [], ◌∷◌, ◌++◌, length, Result, Ok, Err, OnOk, refl}
use Rattle.std.specs.Int.{byte_at, bytes_low_first}
use Rattle.std.proofs.Common.{ap, sym, ◌∙◌, append_assoc}
use Rattle.std.proofs.Math.Nat.{div-div-eq-div-mul, div-one, pow-suc}
use Rattle.cc_entry.specs.Place.{File}
use Rattle.cc_model.specs.Records.{little_endian}
use Rattle.cc_pieces.specs.Shim.{update_record_of_file}

byte-is : (i n : ℕ) → byte_at i n ≡ n / 256 ^ i % 256
byte-is zero n = ap (λ (m : ℕ). m % 256) (sym (div-one n))
byte-is (suc i) n = refl

bytes-are : (i k n : ℕ) → bytes_low_first i k n ≡ little_endian k (n / 256 ^ i)
bytes-are i zero n = refl
bytes-are i (suc k) n =
    let shift : n / 256 ^ suc i ≡ n / 256 ^ i / 256 = ap (λ (p : ℕ). n / p) (pow-suc 256 i) ∙ sym (div-div-eq-div-mul n (256 ^ i) 256) in
    let rest = bytes-are (suc i) k n ∙ ap (λ (m : ℕ). little_endian k m) shift in
    ap (λ (b : ℕ). b ∷ bytes_low_first (suc i) k n) (byte-is i n) ∙ ap (λ (l : List ℕ). n / 256 ^ i % 256 ∷ l) rest

pub low-first : (k n : ℕ) → bytes_low_first 0 k n ≡ little_endian k n
low-first k n = bytes-are 0 k n ∙ ap (λ (m : ℕ). little_endian k m) (div-one n)

pub spelled : {E : Type 0} (file : File) (at : ℕ) (piece out one two three four : List ℕ) (r : Result (Unit {0}) E) → one ≡ out ++ (file.stream ∷ []) → two ≡ one ++ bytes_low_first 0 8 at → three ≡ two ++ bytes_low_first 0 4 (length piece) → OnOk r (four ≡ three ++ piece) → OnOk r (four ≡ out ++ update_record_of_file file at piece)
spelled file at piece out one two three four (Err e) first second third last = tt
spelled file at piece out one two three four (Ok done) first second third last =
    let places = low-first 8 at in
    let count = low-first 4 (length piece) in
    let all : three ≡ ((out ++ (file.stream ∷ [])) ++ bytes_low_first 0 8 at) ++ bytes_low_first 0 4 (length piece) =
    third ∙ ap (λ (l : List ℕ). l ++ bytes_low_first 0 4 (length piece)) (second ∙ ap (λ (l : List ℕ). l ++ bytes_low_first 0 8 at) first) in
    last
    ∙ ap (λ (l : List ℕ). l ++ piece) all
    ∙ joined out (file.stream ∷ []) (bytes_low_first 0 8 at) (bytes_low_first 0 4 (length piece)) piece
    ∙ ap (λ (l : List ℕ). out ++ (file.stream ∷ (l ++ (bytes_low_first 0 4 (length piece) ++ piece)))) places
    ∙ ap (λ (l : List ℕ). out ++ (file.stream ∷ (little_endian 8 at ++ (l ++ piece)))) count
  where
    joined : (a b c d e : List ℕ) → (((a ++ b) ++ c) ++ d) ++ e ≡ a ++ (b ++ (c ++ (d ++ e)))
    joined a b c d e = append_assoc ((a ++ b) ++ c) d e ∙ append_assoc (a ++ b) c (d ++ e) ∙ append_assoc a b (c ++ (d ++ e))

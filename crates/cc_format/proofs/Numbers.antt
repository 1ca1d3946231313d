-- The numbers that a record page spells, read back.
use Rattle.std.specs.Prelude.{◌≡◌, ℕ, zero, suc, ◌/◌, ◌%◌, ◌^◌, ◌<◌, ◌≤◌, ◌≢◌, List, ◌∷◌, ◌++◌, drop, replicate, refl}
use Rattle.std.specs.Int.{byte_at, bytes_low_first}
use Rattle.std.proofs.Common.{ap, sym, ◌∙◌, arith}
use Rattle.std.proofs.Math.Nat.{div-div-eq-div-mul, div-one, pow-suc}
use Rattle.byteorder.specs.Endian.{little_number}
use Rattle.byteorder.specs.Numbers.{little_number-reads_back, little_from-take}
use borrow.Rule.Slice.PartMut.{mid_of}
use Rattle.cc_model.specs.Records.{little_endian, record_page}
use Rattle.cc_format.specs.declared.record.StreamRecord.{StreamRecord}
use Rattle.cc_format.specs.declared.record.StreamRecord.TheVariants.{V1, V2}
use Rattle.cc_format.specs.Spelling.{first_version_page, spelling, SpellsStreamRecord}

byte-is : (i n : ℕ) → byte_at i n ≡ n / 256 ^ i % 256
byte-is zero n = ap (λ (m : ℕ). m % 256) (sym (div-one n))
byte-is (suc i) n = refl

bytes-are : (i k n : ℕ) → bytes_low_first i k n ≡ little_endian k (n / 256 ^ i)
bytes-are i zero n = refl
bytes-are i (suc k) n =
    let shift : n / 256 ^ suc i ≡ n / 256 ^ i / 256 = ap (λ (p : ℕ). n / p) (pow-suc 256 i) ∙ sym (div-div-eq-div-mul n (256 ^ i) 256) in
    let rest = bytes-are (suc i) k n ∙ ap (λ (m : ℕ). little_endian k m) shift in
    ap (λ (b : ℕ). b ∷ bytes_low_first (suc i) k n) (byte-is i n) ∙ ap (λ (l : List ℕ). n / 256 ^ i % 256 ∷ l) rest

-- the bytes of a number, the least first
pub low-first : (k n : ℕ) → bytes_low_first 0 k n ≡ little_endian k n
low-first k n = bytes-are 0 k n ∙ ap (λ (m : ℕ). little_endian k m) (div-one n)

-- a number of so many bytes is read back, whatever stands behind
pub read_back : (k n : ℕ) (rest : List ℕ) → n < 256 ^ k → little_number k (little_endian k n ++ rest) ≡ n
read_back k n rest fits = ap (λ (l : List ℕ). little_number k (l ++ rest)) (sym (low-first k n)) ∙ little_number-reads_back k n rest fits

pub first_version : (size : ℕ) → little_number 4 (drop 4 (first_version_page size)) ≡ 1
unfolding first_version_page
first_version size = refl

pub first_size : (size : ℕ) → size < 2 ^ 63 → little_number 8 (drop 8 (first_version_page size)) ≡ size
unfolding first_version_page
first_size size fits = read_back 8 size (replicate 4080 0) (omega arith)

pub second_version : (size valid : ℕ) → little_number 4 (drop 4 (record_page size valid)) ≡ 2
unfolding record_page
second_version size valid = refl

pub second_size : (size valid : ℕ) → size < 2 ^ 63 → little_number 8 (drop 8 (record_page size valid)) ≡ size
unfolding record_page
second_size size valid fits = read_back 8 size (little_endian 8 valid ++ replicate 4072 0) (omega arith)

pub second_valid : (size valid : ℕ) → valid < 2 ^ 63 → little_number 8 (drop 16 (record_page size valid)) ≡ valid
unfolding record_page
second_valid size valid fits = read_back 8 valid (replicate 4072 0) (omega arith)

-- the numbers of a part of a page that spells a record
number_in : (at k : ℕ) (page : List ℕ) → little_number k (mid_of at k page) ≡ little_number k (drop at page)
number_in at k page = little_from-take 0 k k (drop at page) (omega arith)

version-is : (page : List ℕ) (told : StreamRecord) (version : ℕ) → SpellsStreamRecord page told → version ≡ little_number 4 (mid_of 4 4 page) → version ≡ little_number 4 (drop 4 (spelling told))
version-is page told version spells is = is ∙ number_in 4 4 page ∙ ap (λ (l : List ℕ). little_number 4 (drop 4 l)) spells.spelled

size-is : (page : List ℕ) (told : StreamRecord) (size : ℕ) → SpellsStreamRecord page told → size ≡ little_number 8 (mid_of 8 8 page) → size ≡ little_number 8 (drop 8 (spelling told))
size-is page told size spells is = is ∙ number_in 8 8 page ∙ ap (λ (l : List ℕ). little_number 8 (drop 8 l)) spells.spelled

-- what the numbers of a page say is the record that it spells
pub told_first : (page : List ℕ) (told : StreamRecord) (version size : ℕ) → version ≡ little_number 4 (mid_of 4 4 page) →
    size ≡ little_number 8 (mid_of 8 8 page) → version ≡ 1 → SpellsStreamRecord page told → V1 size ≡ told
told_first page (V1 s) version size version_is is one spells = ap V1 (size-is page (V1 s) size spells is ∙ first_size s spells.in_range.size_in_range)
told_first page (V2 s v) version size version_is is one spells =
    absurd (let two = sym one ∙ version-is page (V2 s v) version spells version_is ∙ second_version s v in omega arith)

pub told_second : (page : List ℕ) (told : StreamRecord) (version size valid : ℕ) → version ≡ little_number 4 (mid_of 4 4 page) →
    size ≡ little_number 8 (mid_of 8 8 page) → valid ≡ little_number 8 (mid_of 16 8 page) → version ≡ 2 → SpellsStreamRecord page told → V2 size valid ≡ told
told_second page (V1 s) version size valid version_is is valid_is two spells =
    absurd (let one = sym two ∙ version-is page (V1 s) version spells version_is ∙ first_version s in omega arith)
told_second page (V2 s v) version size valid version_is is valid_is two spells =
    let sizes : size ≡ s = size-is page (V2 s v) size spells is ∙ second_size s v spells.in_range.size_in_range in
    let below : v < 2 ^ 63 = let within : v ≤ s = spells.in_range.within in let fits : s < 2 ^ 63 = spells.in_range.size_in_range in omega arith in
    let valids : valid ≡ v = valid_is ∙ number_in 16 8 page ∙ ap (λ (l : List ℕ). little_number 8 (drop 16 l)) spells.spelled ∙ second_valid s v below in
    cc

pub told_neither : (page : List ℕ) (told : StreamRecord) (version : ℕ) → version ≡ little_number 4 (mid_of 4 4 page) → version ≢ 1 → version ≢ 2 → SpellsStreamRecord page told → ⊥
told_neither page (V1 s) version version_is not_one not_two spells = not_one (version-is page (V1 s) version spells version_is ∙ first_version s)
told_neither page (V2 s v) version version_is not_one not_two spells = not_two (version-is page (V2 s v) version spells version_is ∙ second_version s v)

-- a page spells one record at most
pub spelled_once : (page : List ℕ) (one other : StreamRecord) → SpellsStreamRecord page one → SpellsStreamRecord page other → one ≡ other
spelled_once page (V1 s) other spells also =
    let version = little_number 4 (mid_of 4 4 page) in
    let size = little_number 8 (mid_of 8 8 page) in
    let one : version ≡ 1 = version-is page (V1 s) version spells refl ∙ first_version s in
    sym (told_first page (V1 s) version size refl refl one spells) ∙ told_first page other version size refl refl one also
spelled_once page (V2 s v) other spells also =
    let version = little_number 4 (mid_of 4 4 page) in
    let size = little_number 8 (mid_of 8 8 page) in
    let valid = little_number 8 (mid_of 16 8 page) in
    let two : version ≡ 2 = version-is page (V2 s v) version spells refl ∙ second_version s v in
    sym (told_second page (V2 s v) version size valid refl refl refl two spells) ∙ told_second page other version size valid refl refl refl two also

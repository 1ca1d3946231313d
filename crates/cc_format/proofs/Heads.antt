-- The head of a record, as it is put together.
use Rattle.std.specs.Prelude.{◌≡◌, ℕ, List, [], ◌∷◌, ◌++◌, drop, length, replicate, refl}
use Rattle.std.proofs.Common.{ap, sym, ◌∙◌}
use Rattle.byteorder.specs.Endian.{little_bytes}
use borrow.Rule.Slice.PartMut.{mid_of, post_of, put_mid}
use Rattle.cc_model.specs.Records.{little_endian, record_page}
use Rattle.cc_format.specs.declared.record.StreamRecord.{StreamRecord}
use Rattle.cc_format.specs.Spelling.{first_version_page, spelling, IsInRange, SpellsStreamRecord}
use Rattle.cc_format.proofs.Numbers.{low-first}

-- the head with its letters alone
abbrev pub lettered : List ℕ → List ℕ
lettered letters = letters ++ replicate 20 0

pub first_head : (letters four eight : List ℕ) (size : ℕ) → letters ≡ 78 ∷ 84 ∷ 67 ∷ 83 ∷ [] →
    four ≡ little_bytes 4 1 ++ drop 4 (mid_of 4 4 (lettered letters)) →
    eight ≡ little_bytes 8 size ++ drop 8 (mid_of 8 8 (put_mid 4 4 (lettered letters) four)) →
    first_version_page size ≡ put_mid 8 8 (put_mid 4 4 (lettered letters) four) eight ++ replicate 4072 0
unfolding first_version_page
first_head letters four eight size letters_is four_is eight_is =
    let told : four ≡ 1 ∷ 0 ∷ 0 ∷ 0 ∷ [] = rw letters_is at four_is in
    let number : eight ≡ little_endian 8 size = (rw (letters_is, told) at eight_is) ∙ low-first 8 size in
    rw (number, told, letters_is) refl

pub second_head : (letters four eight last : List ℕ) (size valid : ℕ) → letters ≡ 78 ∷ 84 ∷ 67 ∷ 83 ∷ [] →
    four ≡ little_bytes 4 2 ++ drop 4 (mid_of 4 4 (lettered letters)) →
    eight ≡ little_bytes 8 size ++ drop 8 (mid_of 8 8 (put_mid 4 4 (lettered letters) four)) →
    last ≡ little_bytes 8 valid ++ drop 8 (mid_of 16 8 (put_mid 8 8 (put_mid 4 4 (lettered letters) four) eight)) →
    record_page size valid ≡ put_mid 16 8 (put_mid 8 8 (put_mid 4 4 (lettered letters) four) eight) last ++ replicate 4072 0
unfolding record_page
second_head letters four eight last size valid letters_is four_is eight_is last_is =
    let told : four ≡ 2 ∷ 0 ∷ 0 ∷ 0 ∷ [] = rw letters_is at four_is in
    let first : eight ≡ little_endian 8 size = (rw (letters_is, told) at eight_is) ∙ low-first 8 size in
    let second : last ≡ little_endian 8 valid = (rw (letters_is, told, first) at last_is) ∙ low-first 8 valid in
    rw (second, first, told, letters_is) refl

-- a head that was put over zeros
pub spelled_whole : (told : StreamRecord) (head copied filled out : List ℕ) → IsInRange told → spelling told ≡ head ++ replicate 4072 0 →
    copied ≡ head → filled ≡ replicate (length out) 0 → length out ≡ 4096 → SpellsStreamRecord (copied ++ post_of 0 24 filled) told
spelled_whole told head copied filled out in_range spelled copied_is filled_is long =
    let zeros : filled ≡ replicate 4096 0 = filled_is ∙ ap (λ (n : ℕ). replicate n 0) long in
    let behind : post_of 0 24 filled ≡ replicate 4072 0 = ap (λ (l : List ℕ). post_of 0 24 l) zeros in
    record { in_range = in_range; spelled = ap (λ (l : List ℕ). l ++ post_of 0 24 filled) copied_is ∙ ap (λ (l : List ℕ). head ++ l) behind ∙ sym spelled }

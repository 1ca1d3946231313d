-- What is read of an entry is what it spells.
use Rattle.std.specs.Prelude.{◌≡◌, ℕ, zero, suc, ◌+◌, ◌-◌, ◌*◌, ◌/◌, ◌%◌, ◌^◌, ◌<◌, ◌≤◌, ◌==◌, ◌&&◌, nat_le, Bool, true, false, List, [], ◌∷◌, ◌++◌, length, drop, slice_index, if◌then◌else◌, refl}
use Rattle.std.specs.declared.option.Option.{Option}
use Rattle.std.specs.declared.option.Option.TheVariants.{Some, None}
use Rattle.std.specs.List.{AllByRecursion}
use Rattle.std.proofs.Common.{ap, sym, subst, ◌∙◌, append_assoc, arith}
use Rattle.std.proofs.Math.ListN.{drop_of_length-le}
use Rattle.std.proofs.lemmas.Bool.{eqb-false, eqb-true}
use Rattle.std.proofs.lemmas.Option.{same_Some}
use Rattle.std.proofs.lemmas.Bool.Decides.{nat_tests}
use Rattle.std.proofs.lemmas.List.{append-nil, length-drop, drop-drop}
use Rattle.byteorder.specs.Endian.{little_number}
use Rattle.byteorder.specs.Numbers.{little_from-cons, little_from-lt}
use Rattle.cc_model.specs.Records.{little_endian}
use Rattle.cc_format.specs.LogRecords.{spelled_rows}
use Rattle.cc_format.specs.declared.log.OldestRow.{OldestRow}
use Rattle.cc_redo.specs.declared.record.LogRecord.{LogRecord}
use Rattle.cc_redo.specs.declared.record.LogRecord.TheVariants.{Update, Checkpoint}
use Rattle.cc_redo.specs.Reading.{FitsRow, SpellsLogRecord, SpellsCheckpoint, SpellsUpdate, checkpoint_in, row_in, rows_in, said_by, update_in}

-- the bytes are bytes
abbrev pub AreBytes : List ℕ → Type 0
AreBytes xs = AllByRecursion (λ b. b < 256) xs

bytes-drop : (n : ℕ) (xs : List ℕ) → AreBytes xs → AreBytes (drop n xs)
bytes-drop zero xs are = are
bytes-drop (suc n) [] are = are
bytes-drop (suc n) (x ∷ xs) are = bytes-drop n xs are.1

byte-at : (xs : List ℕ) (k : ℕ) → AreBytes xs → slice_index xs k < 256
byte-at [] k are = omega arith
byte-at (x ∷ xs) zero are = are.0
byte-at (x ∷ xs) (suc k) are = byte-at xs k are.1

-- the bytes of the number that bytes are
writes-back : (k : ℕ) (xs : List ℕ) → k ≤ length xs → AreBytes xs → little_endian k (little_number k xs) ++ drop k xs ≡ xs
writes-back zero xs long are = refl
writes-back (suc k) [] long are = absurd (omega arith)
writes-back (suc k) (x ∷ xs) long are =
    let n : ℕ = little_number k xs in
    let byte : x < 256 = are.0 in
    let whole : little_number (suc k) (x ∷ xs) ≡ x + 256 * n = ap (λ (r : ℕ). x + 256 * r) (little_from-cons 0 k x xs) in
    let low : (x + 256 * n) % 256 ≡ x = omega arith in
    let high : (x + 256 * n) / 256 ≡ n = omega arith in
    ap (λ (m : ℕ). (m % 256 ∷ little_endian k (m / 256)) ++ drop k xs) whole
    ∙ ap (λ (b : ℕ). (b ∷ little_endian k ((x + 256 * n) / 256)) ++ drop k xs) low
    ∙ ap (λ (m : ℕ). (x ∷ little_endian k m) ++ drop k xs) high
    ∙ ap (λ (l : List ℕ). x ∷ l) (writes-back k xs (omega arith) are.1)

fits : (k : ℕ) (xs : List ℕ) → AreBytes xs → little_number k xs < 256 ^ k
fits k xs are = little_from-lt 0 k xs (λ j. byte-at xs j are)

chosen-some : (tested : Bool) (x y : LogRecord) → (let none : Option LogRecord = None in if tested then Some x else none) ≡ Some y → (tested ≡ true) × (x ≡ y)
chosen-some true x y e = (refl, same_Some x y e)
chosen-some false x y e = absurd (cc)

both-true : (a b : Bool) → (a && b) ≡ true → (a ≡ true) × (b ≡ true)
both-true true true e = (refl, refl)
both-true true false e = absurd (cc)
both-true false b e = absurd (cc)

least : (a b : ℕ) → nat_le a b ≡ true → a ≤ b
least a b e = grind (arith, nat_tests)

-- an update
update-spells : (stream : ℕ) (rest : List ℕ) (told : LogRecord) → stream < 255 → AreBytes rest → update_in stream rest ≡ Some told → SpellsLogRecord (stream ∷ rest) told
update-spells stream rest told below are said =
    let parts = chosen-some (nat_le 12 (length rest) && (length rest == 12 + little_number 4 (drop 8 rest))) (Update stream (little_number 8 rest) (drop 12 rest)) told said in
    let tests = both-true (nat_le 12 (length rest)) (length rest == 12 + little_number 4 (drop 8 rest)) parts.0 in
    let long : 12 ≤ length rest = least 12 (length rest) tests.0 in
    let count : length rest ≡ 12 + little_number 4 (drop 8 rest) = eqb-true (length rest) (12 + little_number 4 (drop 8 rest)) tests.1 in
    let behind : length (drop 8 rest) ≡ length rest - 8 = length-drop 8 rest in
    let bytes : length (drop 12 rest) ≡ length rest - 12 = length-drop 12 rest in
    let len : length (drop 12 rest) ≡ little_number 4 (drop 8 rest) = omega arith in
    let place : little_endian 8 (little_number 8 rest) ++ drop 8 rest ≡ rest = writes-back 8 rest (omega arith) are in
    let counted : little_endian 4 (little_number 4 (drop 8 rest)) ++ drop 4 (drop 8 rest) ≡ drop 8 rest = writes-back 4 (drop 8 rest) (omega arith) (bytes-drop 8 rest are) in
    let there : drop 4 (drop 8 rest) ≡ drop 12 rest = drop-drop 4 8 rest in
    let whole : rest ≡ little_endian 8 (little_number 8 rest) ++ (little_endian 4 (length (drop 12 rest)) ++ drop 12 rest) =
    sym place
    ∙ ap (λ (l : List ℕ). little_endian 8 (little_number 8 rest) ++ l)
    (sym counted
    ∙ ap (λ (l : List ℕ). little_endian 4 (little_number 4 (drop 8 rest)) ++ l) there
    ∙ ap (λ (n : ℕ). little_endian 4 n ++ drop 12 rest) (sym len)) in
    let at_fits : little_number 8 rest < 256 ^ 8 = fits 8 rest are in
    let count_fits : little_number 4 (drop 8 rest) < 256 ^ 4 = fits 4 (drop 8 rest) (bytes-drop 8 rest are) in
    let spells : SpellsUpdate (stream ∷ rest) stream (little_number 8 rest) (drop 12 rest) = record {
      stream_fits = below;
      at_fits = omega arith;
      length_fits = omega arith;
      spelled = ap (λ (l : List ℕ). stream ∷ l) whole;
    } in
    subst (λ (r : LogRecord). SpellsLogRecord (stream ∷ rest) r) parts.1 spells

-- rows
rows-long : (n : ℕ) (bytes : List ℕ) → length (rows_in n bytes) ≡ n
unfolding rows_in
rows-long zero bytes = refl
rows-long (suc n) bytes = let rest = rows-long n (drop 17 bytes) in omega (arith, rest)

rows-fit : (n : ℕ) (bytes : List ℕ) → AreBytes bytes → AllByRecursion FitsRow (rows_in n bytes)
unfolding rows_in
rows-fit zero bytes are = tt
rows-fit (suc n) bytes are =
    let page : little_number 8 (drop 1 bytes) < 256 ^ 8 = fits 8 (drop 1 bytes) (bytes-drop 1 bytes are) in
    let oldest : little_number 8 (drop 9 bytes) < 256 ^ 8 = fits 8 (drop 9 bytes) (bytes-drop 9 bytes are) in
    let row : FitsRow (row_in bytes) = record { stream_fits = byte-at bytes 0 are; page_fits = omega arith; oldest_fits = omega arith } in
    (row, rows-fit n (drop 17 bytes) (bytes-drop 17 bytes are))

rows-spelled : (n : ℕ) (bytes : List ℕ) → 17 * n ≤ length bytes → AreBytes bytes → spelled_rows (rows_in n bytes) ++ drop (17 * n) bytes ≡ bytes
unfolding rows_in
rows-spelled zero bytes long are = refl
rows-spelled (suc n) [] long are = absurd (omega arith)
rows-spelled (suc n) (b ∷ rest) long are =
    let page : ℕ = little_number 8 rest in
    let oldest : ℕ = little_number 8 (drop 8 rest) in
    let spelled : List ℕ = spelled_rows (rows_in n (drop 16 rest)) in
    let left : List ℕ = drop (17 * suc n) (b ∷ rest) in
    let moved : 17 * suc n ≡ suc (16 + 17 * n) = omega arith in
    let left_is : left ≡ drop (17 * n) (drop 16 rest) = ap (λ (m : ℕ). drop m (b ∷ rest)) moved ∙ sym (drop-drop (17 * n) 16 rest) in
    let rest_long : length (drop 16 rest) ≡ length rest - 16 = length-drop 16 rest in
    let behind_long : length (drop 8 rest) ≡ length rest - 8 = length-drop 8 rest in
    let others : spelled ++ left ≡ drop 16 rest =
    ap (λ (l : List ℕ). spelled ++ l) left_is ∙ rows-spelled n (drop 16 rest) (omega arith) (bytes-drop 16 rest are.1) in
    let second : little_endian 8 oldest ++ drop 16 rest ≡ drop 8 rest =
    ap (λ (l : List ℕ). little_endian 8 oldest ++ l) (sym (drop-drop 8 8 rest)) ∙ writes-back 8 (drop 8 rest) (omega arith) (bytes-drop 8 rest are.1) in
    let first : little_endian 8 page ++ drop 8 rest ≡ rest = writes-back 8 rest (omega arith) are.1 in
    ap (λ (l : List ℕ). b ∷ l)
    (append_assoc (little_endian 8 page) (little_endian 8 oldest ++ spelled) left
    ∙ ap (λ (l : List ℕ). little_endian 8 page ++ l)
    (append_assoc (little_endian 8 oldest) spelled left ∙ ap (λ (l : List ℕ). little_endian 8 oldest ++ l) others ∙ second)
    ∙ first)

-- a checkpoint
checkpoint-spells : (rest : List ℕ) (told : LogRecord) → AreBytes rest → checkpoint_in rest ≡ Some told → SpellsLogRecord (255 ∷ rest) told
checkpoint-spells rest told are said =
    let n : ℕ = little_number 4 rest in
    let rows : List OldestRow = rows_in n (drop 4 rest) in
    let parts = chosen-some (nat_le 4 (length rest) && (length rest == 4 + 17 * n)) (Checkpoint rows) told said in
    let tests = both-true (nat_le 4 (length rest)) (length rest == 4 + 17 * n) parts.0 in
    let long : 4 ≤ length rest = least 4 (length rest) tests.0 in
    let count : length rest ≡ 4 + 17 * n = eqb-true (length rest) (4 + 17 * n) tests.1 in
    let behind : length (drop 4 rest) ≡ length rest - 4 = length-drop 4 rest in
    let first : little_endian 4 n ++ drop 4 rest ≡ rest = writes-back 4 rest (omega arith) are in
    let none : drop (17 * n) (drop 4 rest) ≡ [] = drop_of_length-le (drop 4 rest) (omega arith) in
    let all : spelled_rows rows ≡ drop 4 rest =
    sym (append-nil (spelled_rows rows)) ∙ ap (λ (l : List ℕ). spelled_rows rows ++ l) (sym none)
    ∙ rows-spelled n (drop 4 rest) (omega arith) (bytes-drop 4 rest are) in
    let rows_are : length rows ≡ n = rows-long n (drop 4 rest) in
    let whole : rest ≡ little_endian 4 (length rows) ++ spelled_rows rows =
    sym first ∙ ap (λ (l : List ℕ). little_endian 4 n ++ l) (sym all) ∙ ap (λ (m : ℕ). little_endian 4 m ++ spelled_rows rows) (sym rows_are) in
    let fits_count : n < 256 ^ 4 = fits 4 rest are in
    let spells : SpellsCheckpoint (255 ∷ rest) rows = record {
      rows_fit = rows-fit n (drop 4 rest) (bytes-drop 4 rest are);
      count_fits = omega arith;
      spelled = ap (λ (l : List ℕ). 255 ∷ l) whole;
    } in
    subst (λ (r : LogRecord). SpellsLogRecord (255 ∷ rest) r) parts.1 spells

either : (first : ℕ) (rest : List ℕ) (told : LogRecord) → first < 256 → AreBytes rest → (b : Bool) → (first == 255) ≡ b →
    (if b then checkpoint_in rest else update_in first rest) ≡ Some told → SpellsLogRecord (first ∷ rest) told
either first rest told byte are true e said =
    subst (λ (n : ℕ). SpellsLogRecord (n ∷ rest) told) (sym (eqb-true first 255 e)) (checkpoint-spells rest told are said)
either first rest told byte are false e said =
    update-spells first rest told (let other = eqb-false first 255 e in omega arith) are said

pub said-spells : (entry : List ℕ) (told : LogRecord) → AreBytes entry → said_by entry ≡ Some told → SpellsLogRecord entry told
said-spells [] told are said = absurd (cc)
said-spells (first ∷ rest) told are said = either first rest told are.0 are.1 (first == 255) refl said

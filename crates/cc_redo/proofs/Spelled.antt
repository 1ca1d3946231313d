-- What an entry spells is what is read of it.
use Rattle.std.specs.Prelude.{◌≡◌, ℕ, ◌+◌, ◌*◌, ◌^◌, ◌<◌, ◌==◌, ◌&&◌, nat_le, Bool, true, false, List, [], ◌∷◌, ◌++◌, length, drop, if◌then◌else◌, refl}
use Rattle.std.specs.declared.option.Option.{Option}
use Rattle.std.specs.declared.option.Option.TheVariants.{Some}
use Rattle.std.specs.List.{AllByRecursion}
use Rattle.std.proofs.Common.{ap, ◌∙◌, arith}
use Rattle.std.proofs.lemmas.Bool.Decides.{nat_tests}
use Rattle.byteorder.specs.Endian.{little_number}
use Rattle.cc_model.specs.Records.{little_endian}
use Rattle.cc_format.proofs.Numbers.{read_back}
use Rattle.cc_format.specs.LogRecords.{spelled_rows}
use Rattle.cc_format.specs.declared.log.OldestRow.{OldestRow}
use Rattle.cc_redo.specs.declared.record.LogRecord.{LogRecord}
use Rattle.cc_redo.specs.declared.record.LogRecord.TheVariants.{Update, Checkpoint}
use Rattle.cc_redo.specs.Reading.{FitsRow, SpellsLogRecord, checkpoint_in, rows_in, said_by, update_in}

chosen : {A : Type 0} (tested : Bool) (x y : A) → tested ≡ true → (if tested then x else y) ≡ x
chosen true x y e = refl
chosen false x y e = absurd (cc)

-- the bytes of an update behind its stream
update-read : (stream at : ℕ) (bytes : List ℕ) → at < 2 ^ 64 → length bytes < 2 ^ 32 →
    update_in stream (little_endian 8 at ++ (little_endian 4 (length bytes) ++ bytes)) ≡ Some (Update stream at bytes)
update-read stream at bytes at_fits length_fits =
    let rest : List ℕ = little_endian 8 at ++ (little_endian 4 (length bytes) ++ bytes) in
    let place : little_number 8 rest ≡ at = read_back 8 at (little_endian 4 (length bytes) ++ bytes) (omega arith) in
    let count : little_number 4 (drop 8 rest) ≡ length bytes = read_back 4 (length bytes) bytes (omega arith) in
    let long : length rest ≡ 12 + length bytes = omega arith in
    let tested : (nat_le 12 (length rest) && (length rest == 12 + little_number 4 (drop 8 rest))) ≡ true = grind (arith, nat_tests) in
    chosen _ _ _ tested ∙ ap (λ (n : ℕ). Some (Update stream n bytes)) place

-- rows that stand one behind the other
rows-read : (rows : List OldestRow) → AllByRecursion FitsRow rows → rows_in (length rows) (spelled_rows rows) ≡ rows
unfolding rows_in
rows-read [] fit = refl
rows-read (row ∷ rows) fit =
    let behind : List ℕ = little_endian 8 row.oldest ++ spelled_rows rows in
    let fits : FitsRow row = fit.0 in
    let page : little_number 8 (little_endian 8 row.page ++ behind) ≡ row.page = read_back 8 row.page behind (let f : row.page < 2 ^ 64 = fits.page_fits in omega arith) in
    let oldest : little_number 8 behind ≡ row.oldest = read_back 8 row.oldest (spelled_rows rows) (let f : row.oldest < 2 ^ 64 = fits.oldest_fits in omega arith) in
    let rest : rows_in (length rows) (spelled_rows rows) ≡ rows = rows-read rows fit.1 in
    let made : ℕ → ℕ → OldestRow = λ p o. record { stream = row.stream; page = p; oldest = o } in
    ap (λ (p : ℕ). made p (little_number 8 behind) ∷ rows_in (length rows) (spelled_rows rows)) page
    ∙ ap (λ (o : ℕ). made row.page o ∷ rows_in (length rows) (spelled_rows rows)) oldest
    ∙ ap (λ (l : List OldestRow). row ∷ l) rest

rows-long : (rows : List OldestRow) → length (spelled_rows rows) ≡ 17 * length rows
rows-long [] = refl
rows-long (row ∷ rows) = let rest = rows-long rows in omega (arith, rest)

-- the bytes of a checkpoint behind its first
checkpoint-read : (rows : List OldestRow) → AllByRecursion FitsRow rows → length rows < 2 ^ 32 →
    checkpoint_in (little_endian 4 (length rows) ++ spelled_rows rows) ≡ Some (Checkpoint rows)
checkpoint-read rows fit fits =
    let rest : List ℕ = little_endian 4 (length rows) ++ spelled_rows rows in
    let count : little_number 4 rest ≡ length rows = read_back 4 (length rows) (spelled_rows rows) (omega arith) in
    let spelled : length (spelled_rows rows) ≡ 17 * length rows = rows-long rows in
    let long : length rest ≡ 4 + 17 * length rows = omega arith in
    let tested : (nat_le 4 (length rest) && (length rest == 4 + 17 * little_number 4 rest)) ≡ true = grind (arith, nat_tests) in
    chosen _ _ _ tested ∙ ap (λ (n : ℕ). Some (Checkpoint (rows_in n (spelled_rows rows)))) count ∙ ap (λ (l : List OldestRow). Some (Checkpoint l)) (rows-read rows fit)

no_checkpoint : (stream : ℕ) (x y : Option LogRecord) → stream < 255 → (if stream == 255 then x else y) ≡ y
no_checkpoint stream x y h = grind (arith, nat_tests)

pub said-spelled : (entry : List ℕ) (told : LogRecord) → SpellsLogRecord entry told → said_by entry ≡ Some told
said-spelled entry (Update stream at bytes) spells =
    ap (λ (l : List ℕ). said_by l) spells.spelled
    ∙ no_checkpoint stream _ _ spells.stream_fits
    ∙ update-read stream at bytes spells.at_fits spells.length_fits
said-spelled entry (Checkpoint rows) spells =
    ap (λ (l : List ℕ). said_by l) spells.spelled ∙ checkpoint-read rows spells.rows_fit spells.count_fits

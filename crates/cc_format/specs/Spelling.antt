-- How a page spells the record of a stream, in two versions.
use Rattle.std.specs.Prelude.{◌≡◌, ℕ, ◌^◌, ◌<◌, ◌≤◌, List, ◌∷◌, ◌++◌, replicate}
use Rattle.std.specs.declared.option.Option.{Option}
use Rattle.std.specs.declared.option.Option.TheVariants.{Some, None}
use Rattle.cc_model.specs.Records.{little_endian, record_page}
use Rattle.cc_format.specs.declared.record.StreamRecord.{StreamRecord}
use Rattle.cc_format.specs.declared.record.StreamRecord.TheVariants.{V1, V2}

-- the size that a record says
abbrev pub recorded_size : StreamRecord → ℕ
recorded_size (V1 size) = size
recorded_size (V2 size valid) = size

-- the valid data length that a record says: of the first version, which says none, the size
abbrev pub recorded_valid : StreamRecord → ℕ
recorded_valid (V1 size) = size
recorded_valid (V2 size valid) = valid

-- the numbers are ones that a record may say
pub record IsInRange (told : StreamRecord) : Type 0 where
  pub size_in_range : recorded_size told < 2 ^ 63
  pub within : recorded_valid told ≤ recorded_size told

-- The record page of the first version, which says a size: the letters NTCS, the version 1, and the size. Every other byte
-- is 0.
unfoldable pub first_version_page : ℕ → List ℕ
first_version_page size = 78 ∷ 84 ∷ 67 ∷ 83 ∷ (little_endian 4 1 ++ (little_endian 8 size ++ replicate 4080 0))

-- the page of a record, by its version
abbrev pub spelling : StreamRecord → List ℕ
spelling (V1 size) = first_version_page size
spelling (V2 size valid) = record_page size valid

-- the page is the spelling of the record
pub record SpellsStreamRecord (page : List ℕ) (told : StreamRecord) : Type 0 where
  pub in_range : IsInRange told
  pub spelled : page ≡ spelling told

-- what a page is read as: the record that it spells, or none where it spells none
abbrev pub IsReadAs : List ℕ → Option StreamRecord → Type 0
IsReadAs page (Some told) = SpellsStreamRecord page told
IsReadAs page None = (told : StreamRecord) → SpellsStreamRecord page told → ⊥

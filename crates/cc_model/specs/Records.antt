-- The record of a stream on its disk: the size and the valid data length that it may tell, and what a crash may leave of it.
use Rattle.std.specs.Prelude.{◌≡◌, ℕ, zero, suc, ◌+◌, ◌*◌, ◌/◌, ◌%◌, ◌<◌, ◌≤◌, Bool, true, false, ◌&&◌, ◌||◌, ◌==◌, List, [], ◌∷◌, ◌++◌, replicate, if◌then◌else◌}
use Rattle.std.specs.declared.option.Option.{Option}
use Rattle.std.specs.declared.option.Option.TheVariants.{Some, None}
use Rattle.cc_entry.specs.declared.entry.End.{End}
use Rattle.cc_entry.specs.declared.entry.Entry.{Entry}
use Rattle.cc_entry.specs.declared.entry.Entry.TheVariants as entry
use Rattle.cc_model.specs.History.{Effect, Did, Ended, Synced}
use Rattle.cc_model.specs.Acts.{act_of, Opens}
use Rattle.cc_model.specs.Objects.{had_map}
use Rattle.cc_model.specs.Sizes.{ended_ok}
use Rattle.cc_model.specs.Touches.{size_of, valid_of}
use Rattle.cc_model.specs.Images.{open_of}

-- the valid data length of the first initialise of a stream, of all its maps; 0 where there was none
unfoldable pub first_valid : List Effect → ℕ
first_valid [] = 0
first_valid (Did pass call reply ∷ h) =
    elim (had_map h) [
      | true ↦ first_valid h
      | false ↦ elim (act_of call) [
        | Opens file sizes quota temporary ↦ sizes.valid
        | _ ↦ 0
      ]
    ]
first_valid (other ∷ h) = first_valid h

-- whether a transfer of the page ended, and the last that did ended well: then its image is known, and is no opening page
unfoldable pub is_stored : List Effect → ℕ → Bool
is_stored [] p = false
is_stored (Ended pass page how ∷ h) p = elim (page == p) [ true ↦ ended_ok how | false ↦ is_stored h p ]
is_stored (other ∷ h) p = is_stored h p

-- whether a good sync came while that was so
unfoldable pub is_settled : List Effect → ℕ → Bool
is_settled [] p = false
is_settled (Synced pass how ∷ h) p = (ended_ok how && is_stored h p) || is_settled h p
is_settled (other ∷ h) p = is_settled h p

-- Whether a valid data length may be told on the disk: each page with a byte below it, at or past the valid data length of the
-- first initialise, is settled.
abbrev pub MayTellValid : List Effect → ℕ → Type 0
MayTellValid h valid =
    (p : ℕ) → first_valid h < valid → first_valid h < 4096 * p + 4096 → 4096 * p < valid → is_settled h p ≡ true

-- a record of this size and valid data length may be written
pub record MayRecord (h : List Effect) (size valid : ℕ) : Type 0 where
  pub no_transfer : open_of h ≡ None
  pub its_size : size ≡ size_of h
  pub within : valid ≤ valid_of h
  pub told : MayTellValid h valid

-- n bytes of a number, the least first
abbrev pub little_endian : ℕ → ℕ → List ℕ
little_endian zero n = []
little_endian (suc count) n = (n % 256) ∷ little_endian count (n / 256)

-- The record page that says a size and a valid data length: the letters NTCS, the version 2, and the two numbers. Every other
-- byte is 0.
unfoldable pub record_page : ℕ → ℕ → List ℕ
record_page size valid =
    78 ∷ 84 ∷ 67 ∷ 83 ∷ (little_endian 4 2 ++ (little_endian 8 size ++ (little_endian 8 valid ++ replicate 4072 0)))

-- how the write of the stream's record ended that an entry tells of, where it does
abbrev pub record_end : ℕ → Entry → Option End
record_end s (entry.Record pass stream size valid how) = if stream == s then Some how else None
record_end s other = None

-- whether the last write of the stream's record ended well, or there was none
unfoldable pub is_record_stored : List Entry → ℕ → Bool
is_record_stored [] s = true
is_record_stored (e ∷ past) s = elim (record_end s e) [ None ↦ is_record_stored past s | Some how ↦ ended_ok how ]

-- the last of several contents, alone
abbrev pub last_alone : List (List ℕ) → List (List ℕ)
last_alone [] = []
last_alone (content ∷ []) = content ∷ []
last_alone (content ∷ next ∷ contents) = last_alone (next ∷ contents)

-- what a good sync leaves of what a crash may leave of the record, given whether its last write ended well
abbrev pub record_settled : Bool → List (List ℕ) → List (List ℕ)
record_settled false contents = contents
record_settled true contents = last_alone contents

-- What a crash may leave of the stream's record page: the opening page, and what each write of the record spells; a good sync
-- leaves the last alone, where the last write ended well.
unfoldable pub crash_records : List ℕ → List Entry → ℕ → List (List ℕ)
crash_records opening [] s = opening ∷ []
crash_records opening (entry.Record pass stream size valid how ∷ past) s =
    elim (stream == s) [
      | true ↦ crash_records opening past s ++ record_page size valid ∷ []
      | false ↦ crash_records opening past s
    ]
crash_records opening (entry.Sync pass stream how ∷ past) s =
    elim (stream == s && ended_ok how) [
      | true ↦ record_settled (is_record_stored past s) (crash_records opening past s)
      | false ↦ crash_records opening past s
    ]
crash_records opening (other ∷ past) s = crash_records opening past s

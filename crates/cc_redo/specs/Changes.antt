-- What changes make of a page.
use Rattle.std.specs.Prelude.{ℕ, ◌+◌, ◌-◌, ◌*◌, Bool, ◌&&◌, nat_le, nat_lt, List, [], ◌∷◌, fold, slice_index, if◌then◌else◌}
use Rattle.std.specs.List.{list_any}
use Rattle.cc_redo.specs.Heard.{Change, end_of_change}

-- the byte at a place of a page, below its 4096 bytes, as a change leaves it: its own where it covers the place
abbrev pub byte_by : Change → ℕ → ℕ → ℕ → ℕ
byte_by change page place byte =
    if nat_lt place 4096 && (nat_le change.at (4096 * page + place) && nat_lt (4096 * page + place) (end_of_change change))
    then slice_index change.bytes (4096 * page + place - change.at) else byte

-- as changes leave it that follow each other: the last that covers it decides
abbrev pub byte_after : List Change → ℕ → ℕ → ℕ → ℕ
byte_after changes page place byte = fold (λ before change. byte_by change page place before) byte changes

-- the bytes of a page from a place on
unfoldable pub bytes_after : List Change → ℕ → ℕ → List ℕ → List ℕ
bytes_after changes page place [] = []
bytes_after changes page place (byte ∷ bytes) = byte_after changes page place byte ∷ bytes_after changes page (place + 1) bytes

-- a page as the changes leave it
abbrev pub page_after : List Change → ℕ → List ℕ → List ℕ
page_after changes page bytes = bytes_after changes page 0 bytes

-- whether a change has a byte of a page, and whether one of several has
abbrev pub change_covers : Change → ℕ → Bool
change_covers change page =
    nat_lt change.at (end_of_change change) && (nat_lt change.at (4096 * page + 4096) && nat_lt (4096 * page) (end_of_change change))

abbrev pub is_changed : List Change → ℕ → Bool
is_changed changes page = list_any (λ change. change_covers change page) changes

-- What entries do to the pages that have grown.
use Rattle.std.specs.Prelude.{◌≡◌, ℕ, ◌+◌, ◌-◌, ◌*◌, ◌/◌, ◌<◌, ◌==◌, Bool, true, not, nat_lt, nat_le, ◌&&◌, max, List, [], ◌∷◌, ◌++◌, length, slice_index_or, map, filter, if◌then◌else◌}
use Rattle.std.specs.List.{list_any, range_with_len}

-- whether a page is among those of these bytes
abbrev pub has_page_of_bytes : List ℕ → ℕ → Bool
has_page_of_bytes bytes page = list_any (λ byte. byte / 4096 == page) bytes

-- with the byte, where none of its page is there
abbrev pub with_page_of : List ℕ → ℕ → List ℕ
with_page_of bytes byte = if has_page_of_bytes bytes (byte / 4096) then bytes else bytes ++ byte ∷ []

-- the first bytes of the pages from one number up to, and without, another
abbrev pub starts : ℕ → ℕ → List ℕ
starts from to = map (λ page. 4096 * page) (range_with_len from (to - from))

-- the valid data length rose: each page that it rose over has grown
abbrev pub with_raised_length : List ℕ → ℕ → ℕ → List ℕ
with_raised_length bytes was now = with_page_of bytes was ++ starts (was / 4096 + 1) ((now - 1) / 4096 + 1)

-- it fell
abbrev pub lowered : List ℕ → ℕ → List ℕ
lowered bytes now = filter (λ byte. nat_lt byte now) bytes

-- a byte of the page stands at this place
abbrev pub IsByteOfPage : List ℕ → ℕ → ℕ → Type 0
IsByteOfPage bytes page place = (place < length bytes) × ((slice_index_or bytes place 0 / 4096 == page) ≡ true)

-- whether a byte of the page, not valid at this least length, is valid now
abbrev pub grew_past : ℕ → ℕ → ℕ → Bool
grew_past page low valid = nat_lt low valid && nat_le (low / 4096) page

-- a byte, at this place or past it where it is of the page
abbrev pub moved_up : ℕ → ℕ → ℕ → ℕ
moved_up page low byte = if byte / 4096 == page then max byte low else byte

-- a page was written that has grown since its transfer began, from this valid data length on
abbrev pub regrown : List ℕ → ℕ → ℕ → List ℕ
regrown bytes page low = map (λ byte. moved_up page low byte) bytes

-- a page was written that has not grown since
abbrev pub without_page : List ℕ → ℕ → List ℕ
without_page bytes page = filter (λ byte. not (byte / 4096 == page)) bytes

-- a page was written, with this least valid data length since its transfer began
abbrev pub with_written_page : List ℕ → ℕ → ℕ → ℕ → List ℕ
with_written_page bytes page low valid =
    if grew_past page low valid then regrown bytes page low else without_page bytes page

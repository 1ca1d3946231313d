-- Open holds by id.
use Rattle.std.specs.Prelude.{◌≡◌, ℕ, ◌+◌, ◌==◌, ◌≤◌, Bool, true, ◌&&◌, ◌||◌, nat_lt, nat_eq, List, [], Option, None, Some, All, IfSome, insert, remove, slice_set, find}
use Rattle.std.specs.List.{position_or_len, flat_map}
use Rattle.std.specs.Option.{option_map}
use Rattle.std.specs.Set.{distinct_count, is_member}
use Rattle.cc_entry.specs.Place.{Range}
use Rattle.cc_entry.specs.declared.hold.HoldKind.TheVariants as kind
use Rattle.cc_entry.specs.declared.hold.HoldRow.{HoldRow}
use Rattle.cc_entry.specs.Kinds.{is_pin}
use Rattle.cc_entry.specs.Pages.{whole_range, share_page, pages_of, blocks_of}
use Rattle.cc_holds.specs.Touched.{has_touched, with_pages, widened}
use Rattle.cc_holds.specs.declared.holds.KeptHold.{KeptHold}

-- whether a hold has this id
abbrev pub has_id : ℕ → KeptHold → Bool
has_id id h = h.row.id == id

-- the hold of an id
abbrev pub hold_of : List KeptHold → ℕ → Option KeptHold
hold_of holds id = find (has_id id) holds

-- without the hold of an id
abbrev pub without_hold : List KeptHold → ℕ → List KeptHold
without_hold holds id = remove holds (position_or_len (has_id id) holds)

-- with a further hold in the order of ids
abbrev pub inserted : List KeptHold → KeptHold → List KeptHold
inserted holds h = insert holds (position_or_len (λ x. nat_lt h.row.id x.row.id) holds) h

-- the hold of this id is changed by f, and the others stay
abbrev pub Changes : List KeptHold → List KeptHold → ℕ → (KeptHold → KeptHold) → Type 0
Changes old new id f = IfSome (hold_of old id) (λ h. new ≡ slice_set old (position_or_len (has_id id) old) (f h))

-- the pages of a span, where there is one
abbrev pub touched_at : Option Range → List ℕ
touched_at None = []
touched_at (Some span) = with_pages [] (pages_of span)

-- a hold as a pass opens it: what it was written through so far is its span
abbrev pub opened : ℕ → HoldRow → KeptHold
opened pass row = record { row = row; pass = pass; touched = touched_at row.written }

-- a hold after a write through it
abbrev pub hold_written : Range → KeptHold → KeptHold
hold_written span h = record h {
  row = record (h.row) { written = widened h.row.written span };
  touched = with_pages h.touched (pages_of span);
}

-- a hold after a set-dirty
abbrev pub cleaned : KeptHold → KeptHold
cleaned h = record h { row = record (h.row) { written = None }; touched = [] }

-- a mapped hold made a pin
abbrev pub hold_pinned : Bool → KeptHold → KeptHold
hold_pinned exclusive h = record h { row = record (h.row) { kind = kind.Pin; exclusive = exclusive } }

-- the range of a hold
abbrev pub row_range : HoldRow → Range
row_range row = whole_range row.at row.len

-- whether a hold has a byte in a page of the span
abbrev pub hold_overlaps : Range → KeptHold → Bool
hold_overlaps span h = share_page (row_range h.row) span

-- whether a hold is a pin that forbids another one on the span
abbrev pub pin_conflicts : Range → Bool → KeptHold → Bool
pin_conflicts span exclusive h = is_pin h.row.kind && (exclusive || h.row.exclusive) && hold_overlaps span h

-- whether a hold is a pin through which the page was written, with no set-dirty since
abbrev pub is_unstamped_through : ℕ → KeptHold → Bool
is_unstamped_through page h = is_pin h.row.kind && has_touched h.touched page

-- whether a hold ends past a size
abbrev pub ends_past : ℕ → KeptHold → Bool
ends_past size h = nat_lt size (h.row.at + h.row.len)

-- the id of the first hold that passes
abbrev pub first_id : (KeptHold → Bool) → List KeptHold → Option ℕ
first_id passes holds = option_map (λ h. h.row.id) (find passes holds)

-- no hold that passes has a lesser id
abbrev pub IsLeastHold : (KeptHold → Bool) → List KeptHold → Option ℕ → Type 0
IsLeastHold passes holds least = IfSome least (λ id. All (λ h. passes h ≡ true → id ≤ h.row.id) holds)

-- whether a hold has a byte in the block
abbrev pub has_block : ℕ → KeptHold → Bool
has_block block h = is_member nat_eq (blocks_of (row_range h.row)) block

-- the blocks of each hold in turn
abbrev pub held_blocks : List KeptHold → List ℕ
held_blocks holds = flat_map (λ h. blocks_of (row_range h.row)) holds

-- how many blocks the holds have, each counted once
abbrev pub active_blocks : List KeptHold → ℕ
active_blocks holds = distinct_count nat_eq (held_blocks holds)

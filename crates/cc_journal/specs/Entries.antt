-- The entries that came, and what is kept of them.
use Rattle.std.specs.Prelude.{◌≡◌, ℕ, ◌-◌, ◌^◌, Bool, true, false, List, length, reverse, slice_get, vec_len, vec_capacity}
use Rattle.cc_entry.specs.declared.entry.Entry.{Entry}
use Rattle.cc_journal.specs.declared.entries.Keeping.{Keeping}
use Rattle.cc_journal.specs.declared.entries.Keeping.TheVariants as keeping

-- the entries that came, the newest first, whether all of them are kept, and for how many more there is memory
pub record Record : Type 0 where
  pub past : List Entry
  pub is_recorded : Bool
  pub room : ℕ

abbrev pub keeps_all : Keeping → Bool
keeps_all (keeping.All entries) = true
keeps_all (keeping.Last last count) = false

-- memory for so many more; the last one alone takes none, as long as it can be counted
abbrev pub entries_room : Keeping → ℕ
entries_room (keeping.All entries) = vec_capacity entries - vec_len entries
entries_room (keeping.Last last count) = 2 ^ 64 - 1 - count

-- what is kept is of those that came
abbrev pub Keeps : List Entry → Keeping → Type 0
Keeps past (keeping.All entries) = reverse entries.items ≡ past
Keeps past (keeping.Last last count) = (last ≡ slice_get past 0) × (count ≡ length past)

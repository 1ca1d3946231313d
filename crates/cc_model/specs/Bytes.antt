-- The plain file: what a byte is, and what a read answers.
use Rattle.std.specs.Prelude.{◌≡◌, ℕ, ◌<◌, ◌≤◌, ◌+◌, ◌-◌, ◌*◌, ◌/◌, ◌%◌, Bool, true, false, ◌&&◌, ◌||◌, ◌==◌, nat_lt, List, [], ◌∷◌, length, map, min, slice_index, if◌then◌else◌}
use Rattle.std.specs.List.{range_with_len}
use Rattle.std.specs.declared.option.Option.{Option}
use Rattle.std.specs.declared.option.Option.TheVariants.{Some, None}
use Rattle.cc_entry.specs.Pages.{has_byte}
use Rattle.cc_entry.specs.declared.reply.Reply.{Reply}
use Rattle.cc_entry.specs.declared.reply.Reply.TheVariants as reply
use Rattle.cc_model.specs.History.{Effect, Did, CameIn, WentOut, Began, Ended, Synced}
use Rattle.cc_model.specs.Acts.{act_of, Opens, Closes, Resizes, Writes, Zeroes, Stores, Stamps, Discards, Looks}
use Rattle.cc_model.specs.Ranges.{span_has}
use Rattle.cc_model.specs.Touches.{size_of, valid_of, is_dirty}
use Rattle.cc_model.specs.Sizes.{stored_range, ended_ok}

unfoldable mutual
  -- What the newest change or discard that covers the byte at i gave, or the opening byte of the disk,
  -- whose pages are the first argument. A change is a copied write, a zeroing, a pinned write, a prepare
  -- with zero, a descriptor store or a noncached store. A discard covers the pages of its span that are
  -- dirty as it comes, and gives what the disk holds.
  pub content : (ℕ → List ℕ) → List Effect → ℕ → ℕ
  content pages [] i = slice_index (pages (i / 4096)) (i % 4096)
  content pages (Did pass call reply ∷ h) i =
      elim (act_of call) [
        | Writes at bytes ↦
            elim (has_byte (record { from = at; to = at + length bytes }) i) [
              | true ↦ slice_index bytes (i - at)
              | false ↦ content pages h i
            ]
        | Zeroes from to ↦ elim (has_byte (record { from = from; to = to }) i) [ true ↦ 0 | false ↦ content pages h i ]
        | Stores page bytes ↦
            elim (has_byte (stored_range page (size_of h)) i) [
              | true ↦ slice_index bytes (i - 4096 * page)
              | false ↦ content pages h i
            ]
        | Discards span ↦
            elim (span_has span (i / 4096) && is_dirty h (i / 4096)) [ true ↦ on_disk pages false h i | false ↦ content pages h i ]
        | Opens file sizes quota temporary ↦ content pages h i
        | Closes file truncate ↦ content pages h i
        | Resizes allocation size ↦ content pages h i
        | Stamps hold lsn ↦ content pages h i
        | Looks ↦ content pages h i
      ]
  content pages (CameIn pass page from_disk ∷ h) i = content pages h i
  content pages (WentOut pass page ∷ h) i = content pages h i
  content pages (Began pass page ∷ h) i = content pages h i
  content pages (Ended pass page how ∷ h) i = content pages h i
  content pages (Synced pass how ∷ h) i = content pages h i

  -- The byte at i that the disk holds, where the last transfer of its page that ended did not fail: the
  -- byte as that transfer began, or the opening byte. `ended` says whether a transfer of the page ended
  -- well after the effects that are left to look at, so that its begin is the next one.
  pub on_disk : (ℕ → List ℕ) → Bool → List Effect → ℕ → ℕ
  on_disk pages ended [] i = slice_index (pages (i / 4096)) (i % 4096)
  on_disk pages ended (Began pass page ∷ h) i =
      elim (ended && page == i / 4096) [
        | true ↦ elim (nat_lt i (valid_of h)) [ true ↦ content pages h i | false ↦ 0 ]
        | false ↦ on_disk pages ended h i
      ]
  on_disk pages ended (Ended pass page how ∷ h) i = on_disk pages (ended || (page == i / 4096 && ended_ok how)) h i
  on_disk pages ended (Did pass call reply ∷ h) i = on_disk pages ended h i
  on_disk pages ended (CameIn pass page from_disk ∷ h) i = on_disk pages ended h i
  on_disk pages ended (WentOut pass page ∷ h) i = on_disk pages ended h i
  on_disk pages ended (Synced pass how ∷ h) i = on_disk pages ended h i

-- the byte at i: zero from the valid data length on
unfoldable pub byte_of : (ℕ → List ℕ) → List Effect → ℕ → ℕ
byte_of pages h i = if nat_lt i (valid_of h) then content pages h i else 0

-- how many bytes a read of n bytes from `at` on answers
abbrev pub answer_length : List Effect → ℕ → ℕ → ℕ
answer_length h at n = min (at + n) (size_of h) - at

-- what every read answers, copied, mapped, pinned, by descriptors or noncached: the bytes from `at` on,
-- n of them, up to the size
unfoldable pub answer : (ℕ → List ℕ) → List Effect → ℕ → ℕ → List ℕ
answer pages h at n = map (byte_of pages h) (range_with_len at (answer_length h at n))

-- the length of a page
unfoldable pub page_size : ℕ
page_size = 4096

-- the bytes of a page
unfoldable pub page_bytes : (ℕ → List ℕ) → List Effect → ℕ → List ℕ
page_bytes pages h p = map (byte_of pages h) (range_with_len (4096 * p) page_size)

-- What is known of a read's answer over a disk that doesn't tell its opening pages: how many bytes it
-- answers, and that each of them from the valid data length on is zero.
pub record IsUntoldRead (h : List Effect) (at n : ℕ) (r : Reply) : Type 0 where
  pub bytes : List ℕ
  pub is : r ≡ reply.Read bytes
  pub long : length bytes ≡ answer_length h at n
  pub zeros : (k : ℕ) → k < length bytes → valid_of h ≤ at + k → slice_index bytes k ≡ 0

-- A read answers the plain file's bytes; where the disk tells them not, what is known without it.
abbrev pub Reads : Option (ℕ → List ℕ) → List Effect → ℕ → ℕ → Reply → Type 0
Reads None h at n r = IsUntoldRead h at n r
Reads (Some pages) h at n r = r ≡ reply.Read (answer pages h at n)

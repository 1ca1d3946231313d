-- Sizes, and what is not yet written.
--
-- The two are one knot: a map outlives its last object while a page is dirty, a page is dirty by what
-- is neither written nor cut, and what an uninitialise cuts hangs on the size before it. A page is cut by
-- a size step to its first byte or below, and by a discard whose span has it.
use Rattle.std.specs.Prelude.{ℕ, suc, ◌+◌, Bool, true, false, ◌==◌, ◌&&◌, ◌||◌, not, List, [], ◌∷◌, ◌++◌, length}
use Rattle.std.specs.declared.option.Option.TheVariants.{Some, None}
use Rattle.std.specs.List.{list_any, filter}
use Rattle.cc_entry.specs.Pages.{has_page, pages_of}
use Rattle.cc_model.specs.Numbers.{is_empty, ascending}
use Rattle.cc_model.specs.History.{Effect, Did, CameIn, WentOut, Began, Ended, Synced}
use Rattle.cc_model.specs.Acts.{act_of, Opens, Closes, Resizes, Writes, Zeroes, Stores, Stamps, Discards, Looks}
use Rattle.cc_model.specs.Objects.{objects, truncation}
use Rattle.cc_model.specs.Holds.{holds_of, hold_at}
use Rattle.cc_model.specs.Ranges.{span_has}
use Rattle.cc_model.specs.Sizes.{Sizes, resized, resized_by, raised, stored_range, Touch, touched_if, cut_if, dropped_if, hold_has, hold_pages, ended_ok}

-- every page that was ever touched, with repeats
unfoldable pub touched : List Effect → List ℕ
touched [] = []
touched (Did pass call reply ∷ h) =
    elim (act_of call) [
      | Writes at bytes ↦ pages_of (record { from = at; to = at + length bytes }) ++ touched h
      | Zeroes from to ↦ pages_of (record { from = from; to = to }) ++ touched h
      | Stores page bytes ↦ page ∷ touched h
      | Stamps hold lsn ↦ hold_pages (hold_at (holds_of h) hold) ++ touched h
      | _ ↦ touched h
    ]
touched (other ∷ h) = touched h

-- whether there is a shared map, given the objects, the pages ever touched, and what is unwritten
abbrev pub maps_by : List ℕ → List ℕ → (ℕ → List Touch) → Bool
maps_by opened pages rest = not (is_empty opened) || list_any (λ p. not (is_empty (rest p))) pages

unfoldable mutual
  -- The size and the valid data length (CcSetFileSizes). An initialise that makes the map sets both.
  pub sizes : List Effect → Sizes
  sizes [] = record { size = 0; valid = 0 }
  sizes (Did pass call reply ∷ h) =
      elim (act_of call) [
        | Opens file given quota temporary ↦
            elim (maps_by (objects h) (touched h) (touches false h)) [
              | true ↦ sizes h
              | false ↦ record { size = given.size; valid = given.valid }
            ]
        | Closes file truncate ↦ let before = sizes h in resized_by (truncation (objects h) before.size file truncate) before
        | Resizes allocation size ↦ resized size (sizes h)
        | Writes at bytes ↦ raised (at + length bytes) (sizes h)
        | Zeroes from to ↦ raised to (sizes h)
        | Stores page bytes ↦ let before = sizes h in raised (stored_range page before.size).to before
        | Stamps hold lsn ↦ sizes h
        | Discards span ↦ sizes h
        | Looks ↦ sizes h
      ]
  sizes (CameIn pass page from_disk ∷ h) = sizes h
  sizes (WentOut pass page ∷ h) = sizes h
  sizes (Began pass page ∷ h) = sizes h
  sizes (Ended pass page how ∷ h) = sizes h
  sizes (Synced pass how ∷ h) = sizes h

  -- The touches of the page that are neither written nor cut, newest first, where `ended` says whether
  -- its transfer ended well after them: those before that transfer's begin are written.
  pub touches : Bool → List Effect → ℕ → List Touch
  touches ended [] p = []
  touches ended (Did pass call reply ∷ h) p =
      elim (act_of call) [
        | Opens file given quota temporary ↦ touches ended h p
        | Closes file truncate ↦ cut_if (truncation (objects h) (sizes h).size file truncate) p (touches ended h p)
        | Resizes allocation size ↦ cut_if (Some size) p (touches ended h p)
        | Writes at bytes ↦
            touched_if (has_page (record { from = at; to = at + length bytes }) p) (suc (length h)) None (touches ended h p)
        | Zeroes from to ↦
            touched_if (has_page (record { from = from; to = to }) p) (suc (length h)) None (touches ended h p)
        | Stores page bytes ↦
            touched_if (has_page (stored_range page (sizes h).size) p) (suc (length h)) None (touches ended h p)
        | Stamps hold lsn ↦ touched_if (hold_has (hold_at (holds_of h) hold) p) (suc (length h)) lsn (touches ended h p)
        | Discards span ↦ dropped_if (span_has span p) (touches ended h p)
        | Looks ↦ touches ended h p
      ]
  touches ended (CameIn pass page from_disk ∷ h) p = touches ended h p
  touches ended (WentOut pass page ∷ h) p = touches ended h p
  touches ended (Began pass page ∷ h) p = elim (ended && page == p) [ true ↦ [] | false ↦ touches ended h p ]
  touches ended (Ended pass page how ∷ h) p = touches (ended || (page == p && ended_ok how)) h p
  touches ended (Synced pass how ∷ h) p = touches ended h p

-- the size of a stream, past which no byte is read
abbrev pub size_of : List Effect → ℕ
size_of h = (sizes h).size

-- the valid data length of a stream, past which every byte reads as zero
abbrev pub valid_of : List Effect → ℕ
valid_of h = (sizes h).valid

-- the touches of a page that are neither written nor cut, newest first
abbrev pub unwritten : List Effect → ℕ → List Touch
unwritten h p = touches false h p

-- whether a page is dirty (CcSetDirtyPinnedData, CcFlushCache)
abbrev pub is_dirty : List Effect → ℕ → Bool
is_dirty h p = not (is_empty (unwritten h p))

-- the dirty pages of a stream, ascending
abbrev pub dirty_pages : List Effect → List ℕ
dirty_pages h = filter (is_dirty h) (ascending (touched h))

-- whether a stream has a shared cache map: an object is open, or a page is dirty
abbrev pub is_mapped : List Effect → Bool
is_mapped h = maps_by (objects h) (touched h) (unwritten h)

-- Transfers: which page is under way, what the disk holds, and what a crash may leave of it.
use Rattle.std.specs.Prelude.{ℕ, Bool, true, false, ◌==◌, List, [], ◌∷◌, ◌++◌}
use Rattle.std.specs.declared.option.Option.{Option}
use Rattle.std.specs.declared.option.Option.TheVariants.{Some, None}
use Rattle.cc_model.specs.History.{Effect, Did, CameIn, WentOut, Began, Ended, Synced}
use Rattle.cc_model.specs.Sizes.{ended_ok}
use Rattle.cc_model.specs.Bytes.{page_bytes}

-- a transfer that began and has not ended
pub record Transfer : Type 0 where
  pub pass : ℕ
  pub page : ℕ

-- the open transfer of a stream, where there is one
unfoldable pub open_of : List Effect → Option Transfer
open_of [] = None
open_of (Did pass call reply ∷ h) = open_of h
open_of (CameIn pass page from_disk ∷ h) = open_of h
open_of (WentOut pass page ∷ h) = open_of h
open_of (Began pass page ∷ h) = Some (record { pass = pass; page = page })
open_of (Ended pass page how ∷ h) = None
open_of (Synced pass how ∷ h) = open_of h

-- what stood before the last begin of the page's transfer, where there is one
unfoldable pub begun : List Effect → ℕ → Option (List Effect)
begun [] p = None
begun (Began pass page ∷ h) p = elim (page == p) [ true ↦ Some h | false ↦ begun h p ]
begun (other ∷ h) p = begun h p

-- what the end of a transfer makes of the image: the page as the transfer began, where it ended well
abbrev pub image_after : (ℕ → List ℕ) → ℕ → Option (List Effect) → Bool → Option (List ℕ) → Option (List ℕ)
image_after pages p None good old = old
image_after pages p (Some front) false old = None
image_after pages p (Some front) true old = Some (page_bytes pages front p)

-- The image of a page: what its disk holds for sure. It is the page as its last ended transfer began,
-- unknown where that ended badly, and the opening page where there was none.
unfoldable pub image : (ℕ → List ℕ) → List Effect → ℕ → Option (List ℕ)
image pages [] p = Some (pages p)
image pages (Ended pass page how ∷ h) p =
    elim (page == p) [
      | true ↦ image_after pages p (begun h p) (ended_ok how) (image pages h p)
      | false ↦ image pages h p
    ]
image pages (other ∷ h) p = image pages h p

-- what a good sync leaves of what a crash may leave
abbrev pub settled : Bool → Option (List ℕ) → List (List ℕ) → List (List ℕ)
settled false known contents = contents
settled true None contents = contents
settled true (Some bytes) contents = bytes ∷ []

-- What a crash may leave of a page: the opening page, and the page at the begin of each transfer, an
-- open one too; a good sync leaves the image alone, where it is known.
unfoldable pub crash_pages : (ℕ → List ℕ) → List Effect → ℕ → List (List ℕ)
crash_pages pages [] p = pages p ∷ []
crash_pages pages (Began pass page ∷ h) p =
    elim (page == p) [
      | true ↦ crash_pages pages h p ++ page_bytes pages h p ∷ []
      | false ↦ crash_pages pages h p
    ]
crash_pages pages (Synced pass how ∷ h) p = settled (ended_ok how) (image pages h p) (crash_pages pages h p)
crash_pages pages (other ∷ h) p = crash_pages pages h p

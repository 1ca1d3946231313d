-- The pages of a memory disk as plain data.
use Rattle.std.specs.Prelude.{◌≡◌, ℕ, Bool, true, false, List, [], ◌∷◌, ◌++◌, map}
use Rattle.cc_traits.specs.Disk.{Disk, or_alone, page_of, Wrote, WriteFailed}

-- a page that was written: what it holds, and the contents that a crash now can leave, none where that
-- is what it holds alone
pub record PageContents : Type 0 where
  pub held : List ℕ
  pub may : List (List ℕ)

-- one more content that a crash can leave; what the page holds stays
abbrev pub noted : PageContents → List ℕ → PageContents
noted page bytes = record { held = page.held; may = or_alone page.may page.held ++ bytes ∷ [] }

-- one more content that a crash can leave, which the page holds from now on, or not
abbrev pub recorded : Bool → PageContents → List ℕ → PageContents
recorded true page bytes = record { held = bytes; may = or_alone page.may page.held ++ bytes ∷ [] }
recorded false page bytes = noted page bytes

abbrev pub settled_page : PageContents → PageContents
settled_page page = record { held = page.held; may = [] }

-- what the pages that were written hold, and what a crash now can leave of them
unfoldable pub held_contents : List (ℕ × PageContents) → List (ℕ × List ℕ)
held_contents [] = []
held_contents (entry ∷ rest) = (entry.0, entry.1.held) ∷ held_contents rest

unfoldable pub may_list : List (ℕ × PageContents) → List (ℕ × List ℕ)
may_list [] = []
may_list (entry ∷ rest) = map (λ bytes. (entry.0, bytes)) entry.1.may ++ may_list rest

-- the disk of a fill byte, the pages that it was made with, and the pages that were written
abbrev pub disk_over : ℕ → List (ℕ × List ℕ) → List (ℕ × PageContents) → Disk
disk_over fill opening written = record {
  fill = fill;
  holds = opening ++ held_contents written;
  may = may_list written;
}

-- a write of a page failed, and the page holds what it held
pub record WriteFailedInPlace (page : ℕ) (bytes : List ℕ) (old new : Disk) : Type 0 where
  pub holds : (p : ℕ) → page_of new p ≡ page_of old p
  pub failed : WriteFailed page bytes old new

-- a write of a page ended well, or failed and left what the page holds
abbrev pub Records : Bool → ℕ → List ℕ → Disk → Disk → Type 0
Records true page bytes old new = Wrote page bytes old new
Records false page bytes old new = WriteFailedInPlace page bytes old new

-- What a disk in memory tells: the content of each page, and what a crash now can leave of it.
use Rattle.std.specs.Prelude.{◌≡◌, ℕ, ◌==◌, if◌then◌else◌, false, List, [], ◌∷◌, ◌++◌, replicate, Contains}

-- `fill` is every byte of a page that `holds` does not list. Of two pairs of `holds` with one page the
-- later stands. `may` lists the contents of a page that a crash now can leave, one pair a content, in
-- their order; a page that it does not list has what it holds alone
pub record Disk : Type 0 where
  pub fill : ℕ
  pub holds : List (ℕ × List ℕ)
  pub may : List (ℕ × List ℕ)

-- a page of 4096 equal bytes
unfoldable pub blank_page : ℕ → List ℕ
blank_page fill = replicate 4096 fill

-- the content that a list of pages gives a page: the last one, or the content given where there is none
unfoldable pub last_content : List (ℕ × List ℕ) → ℕ → List ℕ → List ℕ
last_content [] page bytes = bytes
last_content (listed ∷ rest) page bytes =
    last_content rest page (if listed.0 == page then listed.1 else bytes)

-- every content that a list of pages has for a page, in order
unfoldable pub contents : List (ℕ × List ℕ) → ℕ → List (List ℕ)
contents [] page = []
contents (listed ∷ rest) page =
    (if listed.0 == page then listed.1 ∷ contents rest page else contents rest page)

-- these contents, or one content alone where there are none
abbrev pub or_alone : List (List ℕ) → List ℕ → List (List ℕ)
or_alone [] bytes = bytes ∷ []
or_alone (first ∷ rest) bytes = first ∷ rest

-- the 4096 bytes of a page
unfoldable pub page_of : Disk → ℕ → List ℕ
page_of disk page = last_content disk.holds page (blank_page disk.fill)

-- the contents of a page that a crash now can leave
unfoldable pub may_of : Disk → ℕ → List (List ℕ)
may_of disk page = or_alone (contents disk.may page) (page_of disk page)

-- a read of a page found these bytes
abbrev pub Found : ℕ → List ℕ → Disk → Type 0
Found page bytes disk = bytes ≡ page_of disk page

-- a page was written: it holds the bytes, and a crash can leave them too
pub record Wrote (page : ℕ) (bytes : List ℕ) (old new : Disk) : Type 0 where
  pub holds : (p : ℕ) → page_of new p ≡ (if page == p then bytes else page_of old p)
  pub may : (p : ℕ) → may_of new p ≡ (if page == p then may_of old p ++ bytes ∷ [] else may_of old p)

-- a write of a page failed: other pages hold what they held, a crash can leave the bytes too, and the
-- page holds one of the contents that a crash can leave, if it did before
pub record WriteFailed (page : ℕ) (bytes : List ℕ) (old new : Disk) : Type 0 where
  pub others : (p : ℕ) → (page == p) ≡ false → page_of new p ≡ page_of old p
  pub may : (p : ℕ) → may_of new p ≡ (if page == p then may_of old p ++ bytes ∷ [] else may_of old p)
  pub among : Contains (may_of old page) (page_of old page) → Contains (may_of new page) (page_of new page)

-- all that was written is on the medium: each page holds what it held, and a crash can leave that alone
pub record Settled (old new : Disk) : Type 0 where
  pub holds : (p : ℕ) → page_of new p ≡ page_of old p
  pub may : (p : ℕ) → may_of new p ≡ page_of old p ∷ []

-- The pages that a flush wrote, and what no crash takes back of them.
use Rattle.std.specs.Prelude.{◌≡◌, ℕ, ◌==◌, Bool, true, false, ◌&&◌, List, ◌∷◌, ◌++◌, Contains}
use Rattle.std.specs.List.{list_any}
use Rattle.std.specs.declared.option.Option.{Option}
use Rattle.std.specs.declared.option.Option.TheVariants.{Some}
use Rattle.cc_entry.specs.Place.{Range}
use Rattle.cc_entry.specs.declared.entry.End.TheVariants as how
use Rattle.cc_entry.specs.declared.entry.Entry.{Entry}
use Rattle.cc_entry.specs.declared.entry.Entry.TheVariants as entry
use Rattle.cc_model.specs.Good.{IsGoodSoFar}
use Rattle.cc_model.specs.History.{history}
use Rattle.cc_model.specs.Images.{image, crash_pages}
use Rattle.cc_model.specs.Ranges.{span_has}
use Rattle.cc_model.specs.Setup.{Setup}
use Rattle.cc_ranges.specs.Crash.{IsKeptSince}

-- whether an entry is the begin of a transfer of the page
abbrev pub begins_page : ℕ → ℕ → Entry → Bool
begins_page s p (entry.WriteBegin pass page) = page.stream == s && page.page == p
begins_page s p other = false

-- In a stretch of entries, newest first, a transfer of the page by the pass ended well, and nobody began one behind it.
pub record IsWrittenLast (me s p : ℕ) (stretch : List Entry) : Type 0 where
  pub behind : List Entry
  pub until : List Entry
  pub ended : stretch ≡ behind ++ entry.WriteEnd me (record { stream = s; page = p }) how.Good ∷ until
  pub alone : list_any (begins_page s p) behind ≡ false

-- At a good sync of the pass behind the past `front` the disk holds these bytes of the page for sure. However far a good journal goes
-- on from `new`, the past at which the sync is followed by `after`, a crash leaves of the page these bytes, or the page as it was when
-- one of its transfers began behind the sync.
pub record IsKeptFrom (u : Setup) (pages : ℕ → List ℕ) (me s p : ℕ) (front after new : List Entry) : Type 0 where
  pub bytes : List ℕ
  pub known : image pages (history front s) p ≡ Some bytes
  pub kept : (later : List Entry) (content : List ℕ) → IsGoodSoFar u (later ++ new) →
      Contains (crash_pages pages (history (later ++ new) s) p) content →
      IsKeptSince pages s p bytes (later ++ after) (entry.Sync me s how.Good ∷ front) content

-- From one moment to another there is a good sync of the pass, and each page of the span that the pass wrote in between, last before
-- the sync, is kept from the sync on.
pub record KeepsWhatItWrote (u : Setup) (me s : ℕ) (span : Option Range) (old new : List Entry) : Type 0 where
  pub before : List Entry
  pub after : List Entry
  pub synced : new ≡ after ++ (entry.Sync me s how.Good ∷ (before ++ old))
  pub wrote : (pages : ℕ → List ℕ) (p : ℕ) → span_has span p ≡ true → IsWrittenLast me s p before →
      IsKeptFrom u pages me s p (before ++ old) after new

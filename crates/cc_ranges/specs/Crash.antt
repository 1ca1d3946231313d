-- What a crash may leave of a page after a good sync.
use Rattle.std.specs.Prelude.{◌≡◌, ℕ, List, ◌∷◌, ◌++◌, ◌⊎◌}
use Rattle.cc_entry.specs.declared.entry.Entry.{Entry}
use Rattle.cc_entry.specs.declared.entry.Entry.TheVariants as entry
use Rattle.cc_model.specs.History.{history}
use Rattle.cc_model.specs.Bytes.{page_bytes}

-- A transfer of the page began in the stretch `later` after the past `synced`, and this is the page as it was at that
-- begin.
pub record IsBegunSince (pages : ℕ → List ℕ) (s p : ℕ) (later synced : List Entry) (content : List ℕ) : Type 0 where
  pub pass : ℕ
  pub after : List Entry
  pub since : List Entry
  pub begins : later ≡ after ++ entry.WriteBegin pass (record { stream = s; page = p }) ∷ since
  pub same : content ≡ page_bytes pages (history (since ++ synced) s) p

-- What a crash may leave of a page behind a good sync, the newest entry of `synced`, at which the disk held `bytes` of
-- the page for sure: these bytes, or the page as it was when one of its transfers began in the stretch `later` since.
-- So what was on the disk at the sync is not lost to anything older, nor to bytes that the page never had.
abbrev pub IsKeptSince : (ℕ → List ℕ) → ℕ → ℕ → List ℕ → List Entry → List Entry → List ℕ → Type 0
IsKeptSince pages s p bytes later synced content = (content ≡ bytes) ⊎ IsBegunSince pages s p later synced content

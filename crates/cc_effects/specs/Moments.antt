-- Moments of a journal, and what one pass placed between two of them.
--
-- A moment is the past that the journal was then. From one moment to another the journal grew by the
-- entries between, and others' entries stand there too. A post has no pass, so it is nobody's own.
use Rattle.std.specs.Prelude.{◌≡◌, ℕ, true, false, List, [], ◌∷◌, ◌++◌}
use Rattle.std.specs.List.{AllByRecursion, filter}
use Rattle.cc_entry.specs.declared.entry.Entry.{Entry}
use Rattle.cc_model.specs.Passes.{is_mine}

-- what is said of two moments, the earlier one first
abbrev pub Between : Type 1
Between = List Entry → List Entry → Type 0

-- the entries of the pass in a stretch of the journal, newest first
abbrev pub own : ℕ → List Entry → List Entry
own me during = filter (is_mine me) during

-- no entry of a stretch is the pass's
abbrev pub Others : ℕ → List Entry → Type 0
Others me during = AllByRecursion (λ e. is_mine me e ≡ false) during

-- from one moment to another, the pass placed nothing
pub record IsIdle (me : ℕ) (old new : List Entry) : Type 0 where
  pub during : List Entry
  pub grew : new ≡ during ++ old
  pub others : Others me during

-- from one moment to another, the pass placed this entry alone
pub record PlacedOnly (me : ℕ) (e : Entry) (old new : List Entry) : Type 0 where
  pub later : List Entry
  pub earlier : List Entry
  pub grew : new ≡ later ++ (e ∷ (earlier ++ old))
  pub is_own : is_mine me e ≡ true
  pub quiet_after : Others me later
  pub quiet_before : Others me earlier

-- each entry of the pass in a stretch may stand on its front
abbrev pub EachOwn : ℕ → (List Entry → Entry → Type 0) → List Entry → List Entry → Type 0
EachOwn me May [] old = Unit {0}
EachOwn me May (e ∷ during) old = (is_mine me e ≡ true → May (during ++ old) e) × EachOwn me May during old

-- something held at a moment from one to another
pub record AtSome (Holds : List Entry → Type 0) (old new : List Entry) : Type 0 where
  pub moment : List Entry
  pub later : List Entry
  pub since : List Entry
  pub ends : new ≡ later ++ moment
  pub begins : moment ≡ since ++ old
  pub holds : Holds moment

-- What a question for the levels of a view index leaves: nothing.
use Rattle.std.specs.Prelude.{◌≡◌, ℕ, true, List, Result, Ok, Err}
use Rattle.cc_entry.specs.Place.{File}
use Rattle.cc_entry.specs.declared.error.CcError.{CcError}
use Rattle.cc_entry.specs.declared.error.CcError.TheVariants as error
use Rattle.cc_entry.specs.declared.entry.Entry.{Entry}
use Rattle.cc_model.specs.History.{history}
use Rattle.cc_model.specs.Touches.{size_of}
use Rattle.cc_model.specs.Reasons.{is_open}
use Rattle.cc_effects.specs.Moments.{IsIdle, AtSome, Between}
use Rattle.cc_effects.specs.Throttle.{WasNotCached}

-- at a moment the object was cached, and its stream's size had so many levels
pub record HadLevels (levels : ℕ → ℕ) (me : ℕ) (file : File) (n : ℕ) (old new : List Entry) : Type 0 where
  pub idle : IsIdle me old new
  pub had :
      AtSome (λ moment. (is_open (history moment file.stream) file ≡ true) × (n ≡ levels (size_of (history moment file.stream)))) old new

-- the question, over the levels of an index of each size
abbrev pub LevelsLeft : (ℕ → ℕ) → ℕ → File → Result ℕ CcError → Between
LevelsLeft levels me file (Ok n) old new = HadLevels levels me file n old new
LevelsLeft levels me file (Err error.NotCached) old new = WasNotCached me file old new
LevelsLeft levels me file (Err error.NoMemory) old new = IsIdle me old new
LevelsLeft levels me file (Err other) old new = ⊥

-- Grown pages, said of places of a history: a byte that is valid now, and was not at a place that the
-- disk's page is no older than.
use Rattle.std.specs.Prelude.{◌≡◌, ℕ, ◌+◌, ◌*◌, ◌<◌, ◌≤◌, true, List, ◌++◌}
use Rattle.cc_model.specs.History.{Effect}
use Rattle.cc_model.specs.Objects.{had_map}
use Rattle.cc_model.specs.Touches.{valid_of}
use Rattle.cc_laws.specs.ByPlacesDirty.{IsTransferredSince}

-- A place since the stream was initialised at which the byte was not valid, with no transfer of the page
-- that began later and ended well.
pub record WasPast (h : List Effect) (p i : ℕ) : Type 0 where
  pub later : List Effect
  pub before : List Effect
  pub places : h ≡ later ++ before
  pub past : valid_of before ≤ i
  pub initialised : had_map before ≡ true
  pub unwritten : IsTransferredSince later p → ⊥

-- a byte of the page that is valid now, and was not at such a place
pub record GrownByte (h : List Effect) (p : ℕ) : Type 0 where
  pub byte : ℕ
  pub low : 4096 * p ≤ byte
  pub high : byte < 4096 * p + 4096
  pub valid : byte < valid_of h
  pub was_past : WasPast h p byte

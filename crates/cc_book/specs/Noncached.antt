-- What is asked of a noncached read of a page: where the page starts, and what its disk gave.
use Rattle.std.specs.Prelude.{◌≡◌, ℕ, ◌*◌, ◌<◌, ◌≤◌, false, List}
use Rattle.std.specs.declared.option.Option.{Option}
use Rattle.std.specs.declared.option.Option.TheVariants.{Some, None}
use Rattle.cc_content.specs.Filling.{IsReadFrom}
use Rattle.cc_model.specs.History.{Effect}
use Rattle.cc_model.specs.Residency.{is_resident}
use Rattle.cc_model.specs.Touches.{size_of}

-- where a page starts, if it starts below the size
abbrev pub IsStart : ℕ → ℕ → Option ℕ → Type 0
IsStart size page None = size ≤ 4096 * page
IsStart size page (Some at) = (at ≡ 4096 * page) × (at < size)

-- A page that starts below the size was read from the disk, where it is not resident: below the valid data length these
-- are the plain file's bytes.
abbrev pub WasRead : Option (ℕ → List ℕ) → List Effect → ℕ → List ℕ → Type 0
WasRead opening h page raw = is_resident h page ≡ false → 4096 * page < size_of h → IsReadFrom opening h page raw

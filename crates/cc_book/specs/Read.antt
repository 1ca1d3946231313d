-- The bytes that a read gathers.
use Rattle.std.specs.Prelude.{ℕ, ◌+◌, ◌<◌, List, length, slice_index, Option}
use Rattle.cc_content.specs.Contents.{IsByteOfContents}
use Rattle.cc_model.specs.History.{Effect}

-- these are bytes of the stream, one after the other from a place on
abbrev pub IsPartOf : Option (ℕ → List ℕ) → List Effect → ℕ → List ℕ → Type 0
IsPartOf opening h at bytes = (k : ℕ) → k < length bytes → IsByteOfContents opening h (at + k) (slice_index bytes k)

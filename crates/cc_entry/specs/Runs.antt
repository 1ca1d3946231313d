-- Bytes as runs of equal bytes, always the longest.
use Rattle.std.specs.Prelude.{ℕ, ◌+◌, ◌==◌, List, [], ◌∷◌, ◌++◌, replicate, if◌then◌else◌, ◌<◌, ◌≢◌, ⊤}
use Rattle.cc_entry.specs.declared.runs.Run.{Run}

-- the bytes that runs spell
abbrev pub spelled : List Run → List ℕ
spelled [] = []
spelled (run ∷ runs) = replicate run.count run.byte ++ spelled runs

-- one byte more before runs, which joins the first run where that repeats the byte
abbrev pub joined_runs : ℕ → List Run → List Run
joined_runs byte [] = record { byte = byte; count = 1 } ∷ []
joined_runs byte (run ∷ runs) =
    if run.byte == byte then record run { count = run.count + 1 } ∷ runs
    else record { byte = byte; count = 1 } ∷ run ∷ runs

-- the longest runs of equal bytes in a list of bytes
abbrev pub runs_of : List ℕ → List Run
runs_of [] = []
runs_of (byte ∷ bytes) = joined_runs byte (runs_of bytes)

-- one byte as a run
abbrev pub byte_alone : ℕ → Run
byte_alone byte = record { byte = byte; count = 1 }

-- no run is empty, and neighbours have different bytes
abbrev pub AreLongest : List Run → Type 0
AreLongest [] = ⊤
AreLongest (run ∷ []) = 0 < run.count
AreLongest (run ∷ next ∷ runs) = (0 < run.count) × (run.byte ≢ next.byte) × AreLongest (next ∷ runs)

-- What an entry means to streams.
use Rattle.std.specs.Prelude.{◌≡◌, ℕ, ◌==◌, false, None}
use Rattle.cc_entry.specs.declared.entry.Entry.{Entry}
use Rattle.cc_model.specs.History.{effect_of}

-- an entry means something to one stream at most
abbrev pub IsOfStream : Entry → ℕ → Type 0
IsOfStream e stream = (s : ℕ) → (stream == s) ≡ false → effect_of e s ≡ None

-- an entry means nothing to any stream
abbrev pub IsOfNone : Entry → Type 0
IsOfNone e = (s : ℕ) → effect_of e s ≡ None

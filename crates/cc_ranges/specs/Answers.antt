-- How a noncached call tells how far it came.
use Rattle.std.specs.Prelude.{◌≡◌, ℕ, ◌*◌, ◌≤◌, Result, Ok, Err, List, length, take, drop}
use Rattle.cc_entry.specs.declared.error.CcError.{CcError}
use Rattle.cc_ranges.specs.declared.error.NcError.{NcError}

-- how many pages were finished, and why the next one was refused
abbrev pub refused_of : NcError → ℕ × CcError
refused_of e = (e.done, e.cause)

-- what a read answers: its bytes, in the front of what the caller handed in, or its refusal
abbrev pub read_answer : Result ℕ NcError → List ℕ → Result (List ℕ) (ℕ × CcError)
read_answer (Ok n) out = Ok (take n out)
read_answer (Err e) out = Err (refused_of e)

-- what a write answers: how many bytes its stores changed, or its refusal
abbrev pub write_of : Result ℕ NcError → Result ℕ (ℕ × CcError)
write_of (Ok count) = Ok count
write_of (Err e) = Err (refused_of e)

-- What the caller handed in is as it was beyond the answer, or beyond the pages that were read.
abbrev pub KeepsBeyondRead : Result ℕ NcError → List ℕ → List ℕ → Type 0
KeepsBeyondRead (Ok n) was now = (n ≤ length was) × (drop n now ≡ drop n was)
KeepsBeyondRead (Err e) was now = drop (4096 * e.done) now ≡ drop (4096 * e.done) was

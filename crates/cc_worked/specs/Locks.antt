-- Locks of bytes: who may lock, read and write what others have locked, and which lock is told.
use Rattle.std.specs.Prelude.{ℕ, Bool, true, false, List, [], ◌∷◌, ◌++◌, reverse}
use Rattle.std.specs.declared.option.Option.{Option}
use Rattle.std.specs.declared.option.Option.TheVariants.{Some, None}
use Rattle.cc_entry.specs.Place.{File, Range}
use Rattle.cc_entry.specs.declared.entry.Entry.{Entry}
use Rattle.cc_entry.specs.declared.entry.Entry.TheVariants as entry
use Rattle.cc_worked.specs.Values.{a, second, opened}

abbrev pub span : ℕ → ℕ → Range
span from to = record { from = from; to = to }

-- a lock is granted, or the lock in its way is told
abbrev pub grants : File → ℕ → ℕ → Bool → ℕ → Entry
grants file from to exclusive id = entry.Locked 1 file (span from to) exclusive true id

abbrev pub refuses : File → ℕ → ℕ → Bool → ℕ → Entry
refuses file from to exclusive id = entry.Locked 1 file (span from to) exclusive false id

-- a range is tested before it is read, or written
abbrev pub reads : File → ℕ → ℕ → Option ℕ → Entry
reads file from to conflict = entry.Tested 1 file (span from to) false conflict

abbrev pub writes : File → ℕ → ℕ → Option ℕ → Entry
writes file from to conflict = entry.Tested 1 file (span from to) true conflict

-- an exclusive lock bars the other object from its bytes, and its owner from none, until the owner gives it back
abbrev pub exclusive_lock : List Entry
exclusive_lock =
    grants a 0 10 true 1
    ∷ reads second 5 6 (Some 1)
    ∷ reads second 10 11 None
    ∷ writes a 0 1 None
    ∷ refuses second 9 12 false 1
    ∷ entry.Unlocked 1 second 1 false
    ∷ entry.Unlocked 1 a 1 true
    ∷ reads second 0 1 None
    ∷ grants second 0 10 true 2
    ∷ []

-- two shared locks may overlap; they bar every write, that of their owner too, and the least of them is told
abbrev pub shared_locks : List Entry
shared_locks =
    grants a 0 10 false 1
    ∷ grants second 5 20 false 2
    ∷ writes a 0 1 (Some 1)
    ∷ writes a 15 16 (Some 2)
    ∷ writes a 5 6 (Some 1)
    ∷ writes a 20 21 None
    ∷ reads second 0 1 None
    ∷ refuses a 8 9 true 1
    ∷ []

-- wrong, after the exclusive lock: a shared one is granted over it, its owner is barred from it, another object gives it back,
-- or a byte next to it is barred
abbrev pub after_lock : Entry → List Entry
after_lock e = e ∷ grants a 0 10 true 1 ∷ opened 8192 8192 ∷ []

-- wrong, after the shared ones: the greater one is told, a write through is let, or an id is given again
abbrev pub after_shared : Entry → List Entry
after_shared e = e ∷ grants second 5 20 false 2 ∷ grants a 0 10 false 1 ∷ []

-- wrong: the id of a lock that was given back is given again
abbrev pub id_again : List Entry
id_again = reverse (grants a 0 10 true 1 ∷ entry.Unlocked 1 a 1 true ∷ grants a 0 10 true 1 ∷ [])

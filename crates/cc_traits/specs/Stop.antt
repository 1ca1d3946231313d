-- How a call on an object outside ends, and what the object's count of faults makes of it.
use Rattle.std.specs.Prelude.{ℕ, zero, Bool, true, false, List, [], ◌∷◌, take, Result, Ok, Err}
use Rattle.cc_traits.specs.declared.stop.Stop.{Stop}
use Rattle.cc_traits.specs.declared.stop.Stop.TheVariants.{Failed, NoMemory}

-- by how much a call raises its object's count of faults: by one exactly where it failed
abbrev pub faults_of : Stop → ℕ
faults_of Failed = 1
faults_of NoMemory = 0

abbrev pub faults_in : {T : Type 0} → Result T Stop → ℕ
faults_in (Ok _) = 0
faults_in (Err stop) = faults_of stop

-- a fact for a call that failed
abbrev pub OnFailed : {T : Type 0} → Result T Stop → Type 0 → Type 0
OnFailed (Ok _) P = Unit {0}
OnFailed (Err Failed) P = P
OnFailed (Err NoMemory) P = Unit {0}

-- a fact for a call that found no memory
abbrev pub OnNoMemory : {T : Type 0} → Result T Stop → Type 0 → Type 0
OnNoMemory (Ok _) P = Unit {0}
OnNoMemory (Err Failed) P = Unit {0}
OnNoMemory (Err NoMemory) P = P

-- by how much a call that puts bytes out raises its sink's count of stalls: by one exactly where there
-- are bytes and none of them was taken
abbrev pub stalls_in : List ℕ → Result ℕ Stop → ℕ
stalls_in (byte ∷ bytes) (Ok zero) = 1
stalls_in bytes taken = 0

-- the bytes that a call on a source gave: the front of its buffer, as the call leaves it
abbrev pub given_in : List ℕ → Result ℕ Stop → List ℕ
given_in buffer (Ok n) = take n buffer
given_in buffer (Err stop) = []

-- whether a call on a source answered the end: no byte, for a buffer that is not empty
abbrev pub is_end : List ℕ → Result ℕ Stop → Bool
is_end (byte ∷ bytes) (Ok zero) = true
is_end buffer given = false

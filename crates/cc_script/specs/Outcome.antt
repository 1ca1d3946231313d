-- How a reader of the grammar answers: what a definition gives, or a fault where it gives nothing.
use Rattle.std.specs.Prelude.{◌≡◌, Option, Some, None, Result, Ok, Err, option_and_then}
use Rattle.cc_script.specs.declared.fault.LineFault.{LineFault}
use Rattle.cc_script.specs.declared.fault.LineFault.TheVariants as fault

-- one step of the grammar after another
infixl 10 ◌>>=◌
abbrev pub ◌>>=◌ : {A B : Type 0} → Option A → (A → Option B) → Option B
o >>= f = option_and_then f o

-- a value is what the grammar gives; a syntax fault comes where it gives nothing
abbrev pub Gives : {A : Type 0} → Option A → Result A LineFault → Type 0
Gives given (Ok value) = given ≡ Some value
Gives given (Err fault.Syntax) = given ≡ None
Gives given (Err fault.NoMemory) = Unit {0}

-- a value that is changed becomes what the grammar gives
abbrev pub Becomes : {A U : Type 0} → Option A → Result U LineFault → A → Type 0
Becomes given (Ok _) new = given ≡ Some new
Becomes given (Err fault.Syntax) new = given ≡ None
Becomes given (Err fault.NoMemory) new = Unit {0}

-- a value is read, and what is left behind it
abbrev pub ReadsValue : {A B : Type 0} → Option (A × B) → Option A → B → Type 0
ReadsValue given (Some value) rest = given ≡ Some (value, rest)
ReadsValue given None rest = given ≡ None

-- the same of a reader that may find no memory
abbrev pub TakesIf : {A B : Type 0} → Option (A × B) → Result A LineFault → B → Type 0
TakesIf given (Ok value) rest = given ≡ Some (value, rest)
TakesIf given (Err fault.Syntax) rest = given ≡ None
TakesIf given (Err fault.NoMemory) rest = Unit {0}

-- the same of a reader that binds a word too: the words that are bound then, before those that are left
abbrev pub TakesBound : {A B C : Type 0} → Option (A × B × C) → Result A LineFault → B → C → Type 0
TakesBound given (Ok value) bound rest = given ≡ Some (value, bound, rest)
TakesBound given (Err fault.Syntax) bound rest = given ≡ None
TakesBound given (Err fault.NoMemory) bound rest = Unit {0}

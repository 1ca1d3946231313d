-- What is said of an action that is read: what it names and moves, the word that it binds, and the mode that it stands in.
use Rattle.std.proofs.Common.{◌≡◌, ℕ, suc, ◌≤◌, true, Some, None, Option, List, length, refl, subst}
use Rattle.cc_script.specs.declared.script.Mode.{Mode}
use Rattle.cc_script.specs.declared.script.StreamLine.{StreamLine}
use Rattle.cc_script.specs.declared.script.Action.{Action}
use Rattle.cc_script.specs.declared.script.Action.TheVariants as action
use Rattle.cc_script.specs.ActionTable.{binds_none, bytes_moved}
use Rattle.cc_script.specs.Modes.{stands, action_modes}
use Rattle.cc_script.specs.Within.{IsActionWithin}

-- an action binds a word of the next number, or none
abbrev pub IsNumbered : Action → ℕ → ℕ → Type 0
IsNumbered (action.Map _ _ _ word) old new = (word ≡ old) × (new ≡ suc old)
IsNumbered (action.PinRead _ _ _ word _) old new = (word ≡ old) × (new ≡ suc old)
IsNumbered (action.PreparePin _ _ _ word _ _) old new = (word ≡ old) × (new ≡ suc old)
IsNumbered (action.Repin _ made) old new = (made ≡ old) × (new ≡ suc old)
IsNumbered (action.MdlRead _ _ _ word) old new = (word ≡ old) × (new ≡ suc old)
IsNumbered (action.MdlWrite _ _ _ word) old new = (word ≡ old) × (new ≡ suc old)
IsNumbered other old new = new ≡ old

-- an action that is read
pub record IsRead (m : Mode) (streams : List StreamLine) (old : ℕ) (found : Action × List (List ℕ)) : Type 0 where
  pub file : IsActionWithin streams found.0
  pub moved : bytes_moved found.0 ≤ 2097152
  pub numbered : IsNumbered found.0 old (length found.1)
  pub in_mode : stands (action_modes found.0) m ≡ true

-- one that binds no word
pub record IsPlain (m : Mode) (streams : List StreamLine) (a : Action) : Type 0 where
  pub file : IsActionWithin streams a
  pub moved : bytes_moved a ≤ 2097152
  pub numbered : (n : ℕ) → IsNumbered a n n
  pub in_mode : stands (action_modes a) m ≡ true

pub none-bound : (m : Mode) (streams : List StreamLine) (names : List (List ℕ)) (o : Option Action) (found : Action × List (List ℕ)) → ((a : Action) → o ≡ Some a → IsPlain m streams a) → binds_none names o ≡ Some found → IsRead m streams (length names) found
none-bound m streams names (Some a) found plain e =
    let is = plain a refl in
    let same : (let it : Action × List (List ℕ) = (a, names) in it) ≡ found = cc in
    subst (IsRead m streams (length names)) same (record { file = is.file; moved = is.moved; numbered = is.numbered (length names); in_mode = is.in_mode })
none-bound m streams names None found plain e = absurd (cc)

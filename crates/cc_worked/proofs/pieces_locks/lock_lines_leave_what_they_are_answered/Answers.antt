-- One entry of the caller, or none.
use Rattle.std.specs.Prelude.{◌≡◌, ℕ, true, false, List, [], ◌∷◌, refl}
use Rattle.std.proofs.Common.{ap, arith}
use Rattle.cc_entry.specs.declared.entry.Entry.{Entry}
use Rattle.cc_entry.specs.declared.entry.Entry.TheVariants as entry
use Rattle.cc_effects.proofs.Stretches.{idle-none}
use Rattle.cc_effects.proofs.Licences.{only-own}
use Rattle.cc_worked.specs.Values.{a, second}
use Rattle.cc_worked.specs.Locks.{span, grants, refuses}
use Rattle.cc_worked.specs.PiecesReads.{two_pages}
use Rattle.cc_worked.proofs.LockMarks.{alone}
use Rattle.cc_worked.proofs.pieces_locks.lock_lines_leave_what_they_are_answered.Goals as goal

pub returns-clause-granted : goal.returns-clause-granted
returns-clause-granted c = alone (grants a 0 10 true 1) two_pages refl

pub returns-clause-refused : goal.returns-clause-refused
returns-clause-refused c = alone (refuses second 0 10 false 1) two_pages refl

pub returns-clause-ended : goal.returns-clause-ended
returns-clause-ended c = alone (entry.Unlocked 1 a 1 true) two_pages refl

pub returns-clause-no_memory : goal.returns-clause-no_memory
returns-clause-no_memory c = idle-none 1 two_pages

pub returns-clause-no_other_id : goal.returns-clause-no_other_id
returns-clause-no_other_id c left = other (only-own 1 (grants a 0 10 true 2) (grants a 0 10 true 1 ∷ []) two_pages left)
  where
    other : ◌≡◌ {A = List Entry} (grants a 0 10 true 1 ∷ []) (grants a 0 10 true 2 ∷ []) → ⊥
    other same = let ids : ◌≡◌ {A = ℕ} 1 2 = cc in omega (arith, ids)

pub returns-clause-not_shared : goal.returns-clause-not_shared
returns-clause-not_shared c left = other (only-own 1 (grants a 0 10 true 1) (grants a 0 10 false 1 ∷ []) two_pages left)
  where
    other : ◌≡◌ {A = List Entry} (grants a 0 10 false 1 ∷ []) (grants a 0 10 true 1 ∷ []) → ⊥
    other same = absurd (cc)

pub returns-clause-no_other_bytes : goal.returns-clause-no_other_bytes
returns-clause-no_other_bytes c left = other (only-own 1 (grants a 0 10 true 1) (grants a 0 11 true 1 ∷ []) two_pages left)
  where
    other : ◌≡◌ {A = List Entry} (grants a 0 11 true 1 ∷ []) (grants a 0 10 true 1 ∷ []) → ⊥
    other same =
        let bytes : span 0 11 ≡ span 0 10 = cc in
        let end : ◌≡◌ {A = ℕ} 11 10 = ap (λ r. r.to) bytes in
        omega (arith, end)

pub returns-clause-not_granted : goal.returns-clause-not_granted
returns-clause-not_granted c left = other (only-own 1 (refuses a 0 10 true 1) (grants a 0 10 true 1 ∷ []) two_pages left)
  where
    other : ◌≡◌ {A = List Entry} (grants a 0 10 true 1 ∷ []) (refuses a 0 10 true 1 ∷ []) → ⊥
    other same = absurd (cc)

pub returns-clause-not_kept : goal.returns-clause-not_kept
returns-clause-not_kept c left = other (only-own 1 (entry.Unlocked 1 a 1 true) (entry.Unlocked 1 a 1 false ∷ []) two_pages left)
  where
    other : ◌≡◌ {A = List Entry} (entry.Unlocked 1 a 1 false ∷ []) (entry.Unlocked 1 a 1 true ∷ []) → ⊥
    other same = absurd (cc)

pub returns-clause-not_of_another : goal.returns-clause-not_of_another
returns-clause-not_of_another c left = other (only-own 1 (entry.Unlocked 1 a 1 true) (entry.Unlocked 1 second 1 true ∷ []) two_pages left)
  where
    other : ◌≡◌ {A = List Entry} (entry.Unlocked 1 second 1 true ∷ []) (entry.Unlocked 1 a 1 true ∷ []) → ⊥
    other same =
        let file : second ≡ a = cc in
        let object : ◌≡◌ {A = ℕ} 1 0 = ap (λ f. f.object) file in
        omega (arith, object)

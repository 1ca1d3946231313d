-- A place is shown by what stands on both sides of it; that there is none, by the newest entry and the lengths.
use Rattle.std.proofs.Common.{ap, ◌∙◌, ◌≡◌, ◌+◌, List, [], ◌∷◌, ◌++◌, length}
use Rattle.std.specs.Prelude.{suc, refl}
use native.Mathlib.Omega.{arith}
use Rattle.std.proofs.lemmas.List.{length-append}
use Rattle.cc_entry.specs.declared.entry.Entry.{Entry}
use Rattle.cc_worked.specs.Values.{read_in}
use Rattle.cc_worked.specs.Seen.{its_read, call_of_another, seen_after, whole_journal}
use Rattle.cc_worked.proofs.seen.call_stands_between.Goals as goal

pub returns-clause-placed : goal.returns-clause-placed
returns-clause-placed c =
    record { later = []; earlier = call_of_another ∷ read_in 1 0 ∷ []; grew = refl; is_own = refl }

pub returns-clause-not_seen_before : goal.returns-clause-not_seen_before
returns-clause-not_seen_before c placed = none placed.later placed.grew
  where
    none : (later : List Entry) → whole_journal ≡ later ++ its_read ∷ placed.earlier ++ seen_after → ⊥
    none [] grew = grind arith
    none (newest ∷ later) grew =
        let all : 5 ≡ length ((newest ∷ later) ++ (its_read ∷ placed.earlier)) + 4 =
        ap length grew ∙ length-append ((newest ∷ later) ++ (its_read ∷ placed.earlier)) seen_after
        in
        let its : length ((newest ∷ later) ++ (its_read ∷ placed.earlier)) ≡ length (newest ∷ later) + suc (length placed.earlier) =
        length-append (newest ∷ later) (its_read ∷ placed.earlier)
        in
        omega arith

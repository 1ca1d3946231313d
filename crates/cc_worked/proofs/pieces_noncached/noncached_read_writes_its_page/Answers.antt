-- The page is dirty from the start, so its write stands before the entry.
use Rattle.std.specs.Prelude.{◌≡◌, true, List, [], ◌∷◌, ◌++◌, refl}
use Rattle.std.specs.declared.option.Option.TheVariants.{Some}
use Rattle.std.proofs.Common.{arith, inl}
use Rattle.cc_entry.specs.declared.reply.Outcome.TheVariants as outcome
use Rattle.cc_entry.specs.declared.entry.Entry.{Entry}
use Rattle.cc_effects.specs.Moments.{AtSome}
use Rattle.cc_effects.specs.Calls.{has_no_write}
use Rattle.cc_effects.proofs.Starts.{done_by}
use Rattle.cc_effects.proofs.Licences.{placed-split, some-here}
use Rattle.cc_worked.specs.Values.{page, begins, ends}
use Rattle.cc_worked.specs.PiecesWrites.{both_dirty}
use Rattle.cc_worked.specs.PiecesNoncached.{first_read, a_page, read_around}
use Rattle.cc_worked.proofs.PiecesOpened.{computed, neither, not_so}
use Rattle.cc_worked.proofs.pieces_noncached.noncached_read_writes_its_page.Goals as goal

pub returns-clause-done : goal.returns-clause-done
unfolding computed
returns-clause-done c =
    done_by 1 3 (Some 0) first_read a_page (ends 1 0 ∷ begins 1 0 ∷ []) both_dirty (record { each = ((λ is. refl), ((λ is. refl), tt)); one_sync = omega arith; whole = refl }) refl refl (inl refl)

-- the entry of the call stands alone
alone : (x y : Entry) (later earlier : List Entry) → x ∷ [] ≡ later ++ (y ∷ earlier) → earlier ≡ []
alone x y [] [] is = refl
alone x y [] (z ∷ zs) is = absurd (cc)
alone x y (z ∷ []) earlier is = absurd (cc)
alone x y (z ∷ w ∷ later) earlier is = absurd (cc)

always_dirty : AtSome (λ moment. has_no_write (page 0) moment ≡ true) both_dirty both_dirty → ⊥
unfolding computed
always_dirty some = not_so (some-here (λ moment. has_no_write (page 0) moment ≡ true) both_dirty some)

pub returns-clause-not_around : goal.returns-clause-not_around
returns-clause-not_around c left =
    let none : left.earlier ≡ [] = alone _ _ left.placed.later left.earlier (placed-split 1 first_read (outcome.Done a_page) left.earlier read_around both_dirty left.placed) in
    neither not_so always_dirty (rw none at left.has_done)

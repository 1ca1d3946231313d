-- The state, the test and the read, each by its end; a wrong read by what stands newest, or by what it shows.
use Rattle.std.specs.Prelude.{◌≡◌, ℕ, false, List, [], ◌∷◌, ◌++◌, refl}
use Rattle.std.specs.declared.option.Option.TheVariants.{Some, None}
use Rattle.std.proofs.Common.{ap, arith, inl, inr}
use Rattle.cc_entry.specs.Place.{File, Range}
use Rattle.cc_entry.specs.declared.place.FileState.{FileState}
use Rattle.cc_entry.specs.declared.call.Call.TheVariants as call
use Rattle.cc_entry.specs.declared.query.Query.TheVariants as query
use Rattle.cc_entry.specs.declared.error.CcError.TheVariants as error
use Rattle.cc_entry.specs.declared.reply.Outcome.TheVariants as outcome
use Rattle.cc_entry.specs.declared.entry.Entry.{Entry}
use Rattle.cc_script.specs.declared.script.ReadPath.TheVariants.{Cached}
use Rattle.cc_effects.proofs.Starts.{begins, ends_done, ends_refused}
use Rattle.cc_pieces.specs.Locks.{tested_range}
use Rattle.cc_pieces.proofs.Conflicts.{read-tested}
use Rattle.cc_worked.specs.Values.{a, second, setup, answers}
use Rattle.cc_worked.specs.Locks.{reads}
use Rattle.cc_worked.specs.PiecesReads.{two_pages, first_resident, first_byte, a_byte}
use Rattle.cc_worked.specs.PiecesRuns.{two_full}
use Rattle.cc_worked.specs.PiecesLocks.{tells, tested_by, read_behind, read_untested}
use Rattle.cc_worked.proofs.PiecesOpened.{computed}
use Rattle.cc_worked.proofs.LockMarks.{alone, newest, read-made}
use Rattle.cc_worked.proofs.Marks.{Ended, Mark, Tested, marks, shows}
use Rattle.cc_worked.proofs.ShimMarks.{told_state}
use Rattle.cc_worked.proofs.StateAsked.{state-told}
use Rattle.cc_worked.proofs.pieces_locks.read_is_tested_before_it_is_made.Goals as goal

pub returns-clause-made : goal.returns-clause-made
unfolding computed
returns-clause-made c =
    let tested = tested_by (reads a 0 1 None) ++ first_resident in
    inr (
      tells two_full ++ first_resident,
      two_full,
      state-told 1 two_full first_resident,
      inr (
        tested,
        alone (reads a 0 1 None) (tells two_full ++ first_resident) refl,
        ends_done 1 2 (Some 0) first_byte a_byte tested tested (begins 1 first_byte tested) refl (λ during. tt),
      ),
    )

pub returns-clause-barred : goal.returns-clause-barred
returns-clause-barred c =
    inr (
      tells two_full ++ two_pages,
      two_full,
      state-told 1 two_full two_pages,
      inl (error.LockConflict 1, refl, alone (reads a 0 1 (Some 1)) (tells two_full ++ two_pages) refl),
    )

pub returns-clause-not_cached : goal.returns-clause-not_cached
unfolding computed
returns-clause-not_cached c =
    inl (error.NotCached, refl, inl (ends_refused 1 1 (Some 0) (call.Query (query.State a)) error.NotCached [] [] (begins 1 (call.Query (query.State a)) []) refl refl))

-- the marks of a read that is made, as its stretch shows them
its_marks : FileState → List Mark
its_marks state = told_state a state ∷ Tested a (tested_range 0 1) false None ∷ Ended first_byte (outcome.Done a_byte) ∷ []

pub returns-clause-not_untested : goal.returns-clause-not_untested
unfolding its_marks
returns-clause-not_untested c left =
    let made = read-made (90 ∷ []) first_resident (read_untested ++ first_resident) left in
    other made.0 (shows 1 (its_marks made.0) read_untested first_resident made.1)
  where
    other : (state : FileState) → marks 1 read_untested ≡ its_marks state → ⊥
    other state same = absurd (cc)

pub returns-clause-not_despite_a_lock : goal.returns-clause-not_despite_a_lock
unfolding its_marks
returns-clause-not_despite_a_lock c left =
    let made = read-made (90 ∷ []) first_resident (read_behind (Some 1) ++ first_resident) left in
    other made.0 (shows 1 (its_marks made.0) (read_behind (Some 1)) first_resident made.1)
  where
    other : (state : FileState) → marks 1 (read_behind (Some 1)) ≡ its_marks state → ⊥
    other state same = absurd (cc)

pub returns-clause-no_further_call : goal.returns-clause-no_further_call
returns-clause-no_further_call c left =
    let tested = read-tested setup 1 a 1 first_resident (read_behind (Some 1) ++ first_resident) Cached 0 1 left in
    other (newest (reads a 0 1 (Some 1)) (answers 1 2 first_byte a_byte) (tested_by (reads a 0 1 (Some 1)) ++ first_resident) tested.0 tested.1 refl)
  where
    other : answers 1 2 first_byte a_byte ≡ reads a 0 1 (Some 1) → ⊥
    other same = absurd (cc)

pub returns-clause-no_other_lock : goal.returns-clause-no_other_lock
returns-clause-no_other_lock c left =
    let tested = read-tested setup 1 a 2 two_pages (tested_by (reads a 0 1 (Some 1)) ++ two_pages) Cached 0 1 left in
    other (newest (reads a 0 1 (Some 2)) (reads a 0 1 (Some 1)) (tells two_full ++ two_pages) tested.0 tested.1 refl)
  where
    other : ◌≡◌ {A = Entry} (reads a 0 1 (Some 1)) (reads a 0 1 (Some 2)) → ⊥
    other same = let ids : ◌≡◌ {A = ℕ} 1 2 = cc in omega (arith, ids)

pub returns-clause-no_other_bytes : goal.returns-clause-no_other_bytes
returns-clause-no_other_bytes c left =
    let tested = read-tested setup 1 a 1 two_pages (tested_by (reads a 0 2 (Some 1)) ++ two_pages) Cached 0 1 left in
    other (newest (reads a 0 1 (Some 1)) (reads a 0 2 (Some 1)) (tells two_full ++ two_pages) tested.0 tested.1 refl)
  where
    other : ◌≡◌ {A = Entry} (reads a 0 2 (Some 1)) (reads a 0 1 (Some 1)) → ⊥
    other same =
        let bytes : ◌≡◌ {A = Range} (record { from = 0; to = 2 }) (record { from = 0; to = 1 }) = cc in
        let end : ◌≡◌ {A = ℕ} 2 1 = ap (λ (r : Range). r.to) bytes in
        omega (arith, end)

pub returns-clause-no_other_object : goal.returns-clause-no_other_object
returns-clause-no_other_object c left =
    let tested = read-tested setup 1 a 1 two_pages (tested_by (reads second 0 1 (Some 1)) ++ two_pages) Cached 0 1 left in
    other (newest (reads a 0 1 (Some 1)) (reads second 0 1 (Some 1)) (tells two_full ++ two_pages) tested.0 tested.1 refl)
  where
    other : ◌≡◌ {A = Entry} (reads second 0 1 (Some 1)) (reads a 0 1 (Some 1)) → ⊥
    other same =
        let file : second ≡ a = cc in
        let object : ◌≡◌ {A = ℕ} 1 0 = ap (λ (f : File). f.object) file in
        omega (arith, object)

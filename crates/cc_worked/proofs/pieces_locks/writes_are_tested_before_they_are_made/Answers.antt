-- The state, the test and the write's calls, each by its end; a wrong write by its test, which stands newest.
use Rattle.std.specs.Prelude.{◌≡◌, ℕ, false, [], ◌∷◌, ◌++◌, refl}
use Rattle.std.specs.declared.option.Option.TheVariants.{Some, None}
use Rattle.std.proofs.Common.{ap, arith, inl, inr}
use Rattle.cc_entry.specs.Place.{Range}
use Rattle.cc_entry.specs.declared.call.Call.TheVariants as call
use Rattle.cc_entry.specs.declared.query.Query.TheVariants as query
use Rattle.cc_entry.specs.declared.error.CcError.TheVariants as error
use Rattle.cc_entry.specs.declared.reply.Reply.TheVariants as reply
use Rattle.cc_entry.specs.declared.query.Value.TheVariants as value
use Rattle.cc_entry.specs.declared.entry.Entry.{Entry}
use Rattle.cc_entry.specs.declared.entry.Entry.TheVariants as entry
use Rattle.cc_script.specs.declared.script.ReadPath.TheVariants.{Cached}
use Rattle.cc_effects.proofs.Starts.{begins, ends_done}
use Rattle.cc_effects.proofs.Stretches.{idle-none}
use Rattle.cc_pieces.proofs.Conflicts.{read-tested, write-tested}
use Rattle.cc_worked.specs.Values.{a, setup, answers}
use Rattle.cc_worked.specs.Locks.{reads, writes}
use Rattle.cc_worked.specs.PiecesReads.{two_pages, first_resident}
use Rattle.cc_worked.specs.PiecesShim.{logged, logged_state, writes_at}
use Rattle.cc_worked.specs.PiecesRuns.{two_full}
use Rattle.cc_worked.specs.PiecesLocks.{tells, tested_by, written_behind, last_byte, uncut_test}
use Rattle.cc_worked.proofs.PiecesOpened.{computed}
use Rattle.cc_worked.proofs.LockMarks.{alone, newest}
use Rattle.cc_worked.proofs.StateAsked.{state-told}
use Rattle.cc_worked.proofs.pieces_locks.writes_are_tested_before_they_are_made.Goals as goal

pub returns-clause-made : goal.returns-clause-made
unfolding computed
returns-clause-made c =
    let tested = tested_by (writes a 0 1 None) ++ first_resident in
    let asked = answers 1 2 (call.Query (query.State a)) (reply.Value (value.State two_full)) ∷ tested in
    let written = written_behind ++ first_resident in
    inr (
      tells two_full ++ first_resident,
      two_full,
      state-told 1 two_full first_resident,
      inr (
        tested,
        alone (writes a 0 1 None) (tells two_full ++ first_resident) refl,
        inr (
          asked,
          two_full,
          state-told 2 two_full tested,
          inr (
            omega arith,
            (written, ends_done 1 3 (Some 0) (writes_at 0) reply.Unit asked asked (begins 1 (writes_at 0) asked) refl (λ during. tt), idle-none 1 written),
          ),
        ),
      ),
    )

pub returns-clause-barred : goal.returns-clause-barred
unfolding computed
returns-clause-barred c =
    inr (
      tells (logged_state 8192) ++ logged 8192,
      logged_state 8192,
      state-told 1 (logged_state 8192) (logged 8192),
      inl (error.LockConflict 1, refl, alone (writes a 0 1 (Some 1)) (tells (logged_state 8192) ++ logged 8192) refl),
    )

pub returns-clause-no_log : goal.returns-clause-no_log
unfolding computed
returns-clause-no_log c =
    inr (
      tells two_full ++ two_pages,
      two_full,
      state-told 1 two_full two_pages,
      (refl, idle-none 1 (tells two_full ++ two_pages)),
    )

pub returns-clause-cut : goal.returns-clause-cut
returns-clause-cut c = refl

pub returns-clause-not_as_a_read : goal.returns-clause-not_as_a_read
returns-clause-not_as_a_read c left =
    let its = write-tested setup 1 a 1 two_pages (tested_by (reads a 0 1 (Some 1)) ++ two_pages) 0 (171 ∷ []) left in
    other (newest (writes a 0 1 (Some 1)) (reads a 0 1 (Some 1)) (tells two_full ++ two_pages) its.0 its.1 refl)
  where
    other : ◌≡◌ {A = Entry} (reads a 0 1 (Some 1)) (writes a 0 1 (Some 1)) → ⊥
    other same = absurd (cc)

pub returns-clause-not_uncut : goal.returns-clause-not_uncut
returns-clause-not_uncut c left =
    let its = read-tested setup 1 a 1 two_pages (tested_by uncut_test ++ two_pages) Cached 18446744073709551614 4 left in
    other (newest (entry.Tested 1 a last_byte false (Some 1)) uncut_test (tells two_full ++ two_pages) its.0 its.1 refl)
  where
    other : uncut_test ≡ entry.Tested 1 a last_byte false (Some 1) → ⊥
    other same =
        let bytes : ◌≡◌ {A = Range} (record { from = 18446744073709551614; to = 18446744073709551618 }) last_byte = cc in
        let end : ◌≡◌ {A = ℕ} 18446744073709551618 18446744073709551615 = ap (λ (r : Range). r.to) bytes in
        omega (arith, end)

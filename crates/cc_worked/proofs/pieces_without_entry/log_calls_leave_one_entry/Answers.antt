-- One entry of the pass, or none.
use Rattle.std.specs.Prelude.{◌≡◌, ◌≤◌, ◌<◌, ◌^◌, List, [], ◌∷◌, refl}
use Rattle.std.proofs.Common.{inr, arith}
use Rattle.cc_entry.specs.declared.entry.Entry.{Entry}
use Rattle.cc_entry.specs.declared.entry.Entry.TheVariants as entry
use Rattle.cc_model.specs.Logs.{flushed_to}
use Rattle.cc_effects.proofs.Stretches.{idle-none}
use Rattle.cc_effects.proofs.Licences.{only-own, some-one}
use Rattle.cc_worked.specs.PiecesReads.{two_pages}
use Rattle.cc_worked.specs.PiecesWithoutEntry.{flushed_to_three, appended, log_fails}
use Rattle.cc_worked.proofs.PiecesOpened.{computed, neither}
use Rattle.cc_worked.proofs.pieces_without_entry.log_calls_leave_one_entry.Goals as goal

pub returns-clause-appended : goal.returns-clause-appended
returns-clause-appended c = (omega arith, record { later = []; earlier = []; grew = refl; is_own = refl; quiet_after = tt; quiet_before = tt })

pub returns-clause-no_other_lsn : goal.returns-clause-no_other_lsn
returns-clause-no_other_lsn c left = other (only-own 1 (entry.Append 1 0 3 (1 ∷ [])) appended flushed_to_three left.1)
  where
    other : ◌≡◌ {A = List Entry} (entry.Append 1 0 4 (1 ∷ []) ∷ []) (entry.Append 1 0 3 (1 ∷ []) ∷ []) → ⊥
    other same = absurd (cc)

pub returns-clause-log_failed : goal.returns-clause-log_failed
unfolding computed
returns-clause-log_failed c =
    let below : 3 < 2 ^ 62 = omega arith in
    (refl, record { moment = flushed_to_three; later = log_fails; since = []; ends = refl; begins = refl; holds = below }, (omega arith, record { later = []; earlier = []; grew = refl; is_own = refl; quiet_after = tt; quiet_before = tt }))

pub returns-clause-no_log : goal.returns-clause-no_log
returns-clause-no_log c = (refl, omega arith, idle-none 1 two_pages)

pub returns-clause-there_is_a_log : goal.returns-clause-there_is_a_log
returns-clause-there_is_a_log c left = let few : 4 ≤ 3 = left.1 in omega (arith, few)

pub returns-clause-flushed_before : goal.returns-clause-flushed_before
unfolding computed
returns-clause-flushed_before c = (omega arith, inr (record { idle = idle-none 1 flushed_to_three; reached = record { moment = flushed_to_three; later = []; since = []; ends = refl; begins = refl; holds = omega arith } }))

pub returns-clause-no_such_log : goal.returns-clause-no_such_log
returns-clause-no_such_log c left = let few : 4 < 4 = left.0 in omega (arith, few)

pub returns-clause-flushed_so_far : goal.returns-clause-flushed_so_far
unfolding computed
returns-clause-flushed_so_far c left = neither far far (some-one (λ moment. flushed_to moment 0 < 2) (entry.LogFailed 1 0) flushed_to_three left.1)
  where
    far : 3 < 2 → ⊥
    far less = omega (arith, less)

-- The one entry of the log, or none.
use Rattle.std.specs.Prelude.{◌≡◌, ◌<◌, ◌≤◌, ◌^◌, List, [], ◌∷◌, ◌++◌, refl}
use Rattle.std.proofs.Common.{arith, inl, sym}
use Rattle.std.proofs.lemmas.List.{append_cancel_right}
use Rattle.cc_entry.specs.declared.entry.Entry.{Entry}
use Rattle.cc_entry.specs.declared.entry.Entry.TheVariants as entry
use Rattle.cc_model.specs.Logs.{flushed_to}
use Rattle.cc_effects.specs.Moments.{PlacedOnly, Others}
use Rattle.cc_effects.proofs.Licences.{only-own, some-here}
use Rattle.cc_worked.specs.PiecesWithoutEntry.{flushed_to_three, appended, log_fails}
use Rattle.cc_worked.specs.PiecesAnswered.{flushed_to_four}
use Rattle.cc_worked.proofs.PiecesOpened.{computed, neither}
use Rattle.cc_worked.proofs.pieces_answered.log_lines_are_answered.Goals as goal

pub returns-clause-appended : goal.returns-clause-appended
returns-clause-appended c = (omega arith, record { later = []; earlier = []; grew = refl; is_own = refl; quiet_after = tt; quiet_before = tt })

pub returns-clause-append_failed : goal.returns-clause-append_failed
unfolding computed
returns-clause-append_failed c =
    let below : 3 < 2 ^ 62 = omega arith in
    (refl, record { moment = flushed_to_three; later = log_fails; since = []; ends = refl; begins = refl; holds = below }, (omega arith, record { later = []; earlier = []; grew = refl; is_own = refl; quiet_after = tt; quiet_before = tt }))

pub returns-clause-flushed : goal.returns-clause-flushed
returns-clause-flushed c =
    (omega arith, inl (record { later = []; earlier = []; grew = refl; is_own = refl; quiet_after = tt; quiet_before = tt }))

pub returns-clause-no_other_lsn : goal.returns-clause-no_other_lsn
returns-clause-no_other_lsn c left = other (only-own 1 (entry.Append 1 0 5 (1 ∷ [])) appended flushed_to_three left.1)
  where
    other : ◌≡◌ {A = List Entry} (entry.Append 1 0 4 (1 ∷ []) ∷ []) (entry.Append 1 0 5 (1 ∷ []) ∷ []) → ⊥
    other same = absurd (cc)

pub returns-clause-not_flushed : goal.returns-clause-not_flushed
unfolding computed
returns-clause-not_flushed c left = neither placed (λ was. far (some-here (λ moment. 4 ≤ flushed_to moment 0) flushed_to_three was.reached)) left.1
  where
    far : 4 ≤ 3 → ⊥
    far less = omega (arith, less)

    none : [] ≡ entry.Flushed 1 0 4 ∷ [] → ⊥
    none same = absurd (cc)

    placed : PlacedOnly 1 (entry.Flushed 1 0 4) flushed_to_three flushed_to_three → ⊥
    placed only = none (only-own 1 (entry.Flushed 1 0 4) [] flushed_to_three only)

pub returns-clause-flushed_no_less : goal.returns-clause-flushed_no_less
returns-clause-flushed_no_less c left = neither placed (λ was. idle (rw (sym (append_cancel_right flushed_to_four was.idle.during flushed_to_three was.idle.grew)) at was.idle.others)) left.1
  where
    less : entry.Flushed 1 0 4 ∷ [] ≡ entry.Flushed 1 0 5 ∷ [] → ⊥
    less same = absurd (cc)

    placed : PlacedOnly 1 (entry.Flushed 1 0 5) flushed_to_three (flushed_to_four ++ flushed_to_three) → ⊥
    placed only = less (only-own 1 (entry.Flushed 1 0 5) flushed_to_four flushed_to_three only)

    idle : Others 1 flushed_to_four → ⊥
    idle others = absurd (cc others.0)

-- The one entry of the log, or none.
use Rattle.std.specs.Prelude.{◌≡◌, ℕ, zero, suc, ◌<◌, ◌≤◌, ◌^◌, List, [], ◌∷◌, ◌++◌, length, Err, refl, ◌⊎◌}
use Rattle.std.proofs.Common.{arith, ap, inl, inr, sym}
use Rattle.std.proofs.lemmas.List.{append_cancel_right}
use Rattle.cc_entry.specs.declared.entry.Entry.{Entry}
use Rattle.cc_entry.specs.declared.entry.Entry.TheVariants as entry
use Rattle.cc_entry.specs.declared.error.CcError.TheVariants as error
use Rattle.cc_model.specs.Room.{room_in}
use Rattle.cc_effects.specs.LogCalls.{FlushRefused, LogFlushLeft, WasFlushed}
use Rattle.cc_effects.specs.Moments.{IsIdle, Others, PlacedOnly}
use Rattle.cc_effects.proofs.Licences.{only-own, some-here}
use Rattle.cc_effects.proofs.Stretches.{idle-none}
use Rattle.cc_pieces.specs.Restarts.{LastFlushed}
use Rattle.cc_worked.specs.Values.{setup}
use Rattle.cc_worked.specs.PiecesRestarts.{restart_flushes, restart_flush_fails}
use Rattle.cc_worked.proofs.PiecesOpened.{computed}
use Rattle.cc_worked.proofs.pieces_restarts.restarts_are_ended.Goals as goal

pub returns-clause-flushed : goal.returns-clause-flushed
returns-clause-flushed c = record {
  left = (
    4,
    (omega arith, (omega arith, inl (record { later = []; earlier = []; grew = refl; is_own = refl; quiet_after = tt; quiet_before = tt }))),
  );
  room = tt;
}

pub returns-clause-nothing_to_flush : goal.returns-clause-nothing_to_flush
returns-clause-nothing_to_flush c = record { left = (0, idle-none 0 []); room = tt }

pub returns-clause-refused : goal.returns-clause-refused
returns-clause-refused c = record { left = inl (idle-none 0 []); room = tt }

pub returns-clause-flush_failed : goal.returns-clause-flush_failed
unfolding computed
returns-clause-flush_failed c = record {
  left = inr (
    4,
    (
      refl,
      record { moment = []; later = restart_flush_fails; since = []; ends = refl; begins = refl; holds = lower },
      (omega arith, record { later = []; earlier = []; grew = refl; is_own = refl; quiet_after = tt; quiet_before = tt }),
    ),
  );
  room = tt;
}
  where
    lower : 0 < 4
    lower = omega arith

-- an entry of pass 0 is no idle stretch
not_idle : (piece : List Entry) → (Others 0 piece → ⊥) → IsIdle 0 [] (piece ++ []) → ⊥
not_idle piece own idle = own (rw (sym (append_cancel_right piece idle.during [] idle.grew)) at idle.others)

flushes-own : (handle : ℕ) → Others 0 (restart_flushes handle) → ⊥
flushes-own handle others = absurd (cc others.0)

fails-own : Others 0 restart_flush_fails → ⊥
fails-own others = absurd (cc others.0)

pub returns-clause-no_other_log : goal.returns-clause-no_other_log
returns-clause-no_other_log c left = by left.left.0 left.left.1
  where
    other : (lsn : ℕ) → entry.Flushed 0 1 4 ∷ [] ≡ entry.Flushed 0 0 lsn ∷ [] → ⊥
    other lsn same = absurd (cc)

    by : (last : ℕ) → LastFlushed setup 0 last [] (restart_flushes 1) → ⊥
    by zero idle = not_idle (restart_flushes 1) (flushes-own 1) idle
    by (suc n) (low, (known, inl only)) = other (suc n) (only-own 0 (entry.Flushed 0 0 (suc n)) (restart_flushes 1) [] only)
    by (suc n) (low, (known, inr was)) = not_idle (restart_flushes 1) (flushes-own 1) was.idle

pub returns-clause-failure_is_told : goal.returns-clause-failure_is_told
returns-clause-failure_is_told c left = by left.left.0 left.left.1
  where
    other : (lsn : ℕ) → entry.LogFailed 0 0 ∷ [] ≡ entry.Flushed 0 0 lsn ∷ [] → ⊥
    other lsn same = absurd (cc)

    by : (last : ℕ) → LastFlushed setup 0 last [] restart_flush_fails → ⊥
    by zero idle = not_idle restart_flush_fails fails-own idle
    by (suc n) (low, (known, inl only)) = other (suc n) (only-own 0 (entry.Flushed 0 0 (suc n)) restart_flush_fails [] only)
    by (suc n) (low, (known, inr was)) = not_idle restart_flush_fails fails-own was.idle

pub returns-clause-flush_is_told : goal.returns-clause-flush_is_told
returns-clause-flush_is_told c left = by left.left
  where
    by : IsIdle 0 [] (restart_flushes 0) ⊎ ((last : ℕ) × LogFlushLeft {T = Unit {0}} setup 0 0 last (Err (error.WriteFault 0)) [] (restart_flushes 0)) → ⊥
    by (inl idle) = not_idle (restart_flushes 0) (flushes-own 0) idle
    by (inr flush) = absurd flush.1

pub returns-clause-not_full : goal.returns-clause-not_full
unfolding computed
returns-clause-not_full c left =
    let here = some-here (λ moment. (0 ≡ length moment) × (room_in setup moment 0 < 4)) [] left.room in
    far here.1
  where
    far : room_in setup [] 0 < 4 → ⊥
    far less = omega (arith, less)

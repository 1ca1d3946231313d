-- By the floor and the file's answer: reached before, flushed with an entry, failed with an entry, or no memory.
use Rattle.std.proofs.Common.{ℕ, refl, ap, ◌∙◌, subst, arith, inl, inr, ⊎_elim}
use Rattle.std.specs.Prelude.{Err}
use Rattle.cc_entry.specs.declared.entry.Entry.TheVariants as entry
use Rattle.cc_entry.specs.declared.error.CcError.{CcError}
use Rattle.cc_writes.specs.Visits.{HasPlaced}
use Rattle.cc_writes.proofs.Logging.{failures-flushed, held-kept, held-reached, held-due, held-done, held-failed, held-refused}
use Rattle.cc_writes.proofs.log.flush_in_hand.Goals as goal

pub returns-then-number-flushed-clause-left : goal.returns-then-number-flushed-clause-left
returns-then-number-flushed-clause-left g c =
    inl (
      c.give_back.ensures.grows,
      held-reached g.T.Log.LogFile.told g.T.Log.LogFile.faults (g.T.Turns.standing c.args.turns.now) (g.T.Turns.standing c.give_back.new.turns) _ c.args.handle c.args.log.now
          c.requires.held c.requires.handle c.requires.stands c.give_back.ensures.went c.args.to c.give_back.ensures.grows (omega arith),
    )

pub returns-then-number-flushed-clause-stands : goal.returns-then-number-flushed-clause-stands
returns-then-number-flushed-clause-stands g c =
    held-kept g.T.Log.LogFile.told g.T.Log.LogFile.faults (g.T.Turns.standing c.args.turns.now) (g.T.Turns.standing c.give_back.new.turns) _ c.args.handle c.args.log.now
    c.requires.held c.requires.handle c.requires.stands c.give_back.ensures.went c.give_back.ensures.grows

pub returns-in-Ok-clause-left : goal.returns-in-Ok-clause-left
returns-in-Ok-clause-left g c =
    let w = g.T.Turns.standing c.args.turns.now in
    let x = g.T.Turns.standing c.place.new.turns in
    let placed : HasPlaced w (entry.Flushed w.number c.args.handle c.args.to) x.seen = subst (λ (n : ℕ). HasPlaced w (entry.Flushed n c.args.handle c.args.to) x.seen) c.me-pass.ensures c.place.ensures.placed in
    inr (record {
      placed = placed;
      due = held-due g.T.Log.LogFile.told g.T.Log.LogFile.faults w x _ c.args.handle c.args.log.now c.requires.held c.requires.handle c.requires.stands c.place.ensures.went c.args.to placed.front placed.grows (omega arith);
    })

pub returns-in-Ok-clause-stands : goal.returns-in-Ok-clause-stands
returns-in-Ok-clause-stands g c =
    let w = g.T.Turns.standing c.args.turns.now in
    let x = g.T.Turns.standing c.place.new.turns in
    held-done g.T.Log.LogFile.told g.T.Log.LogFile.faults w x _ c.args.handle c.args.log.now c.requires.held c.requires.handle c.requires.stands c.place.ensures.went
    (λ pass handle done. entry.Flushed pass handle c.args.to) c.flush.result c.flush.new.self
    (record { counted = c.flush.ensures.counted; handle = c.flush.ensures.handle; stands = c.flush.ensures.stands }) tt c.in-Ok.is
    (failures-flushed w.number c.args.handle c.args.to c.args.log.now.handle)
    (subst (λ (n : ℕ). HasPlaced w (entry.Flushed n c.args.handle c.args.to) x.seen) c.me-pass.ensures c.place.ensures.placed)

pub returns-in-LogFault-clause-left : goal.returns-in-LogFault-clause-left
returns-in-LogFault-clause-left g c =
    let w = g.T.Turns.standing c.args.turns.now in
    let x = g.T.Turns.standing c.place-in-LogFault.new.turns in
    let placed : HasPlaced w (entry.LogFailed w.number c.args.handle) x.seen = subst (λ (n : ℕ). HasPlaced w (entry.LogFailed n c.args.handle) x.seen) c.me-pass.ensures c.place-in-LogFault.ensures.placed in (
      refl,
      record {
        placed = placed;
        due = held-due g.T.Log.LogFile.told g.T.Log.LogFile.faults w x _ c.args.handle c.args.log.now c.requires.held c.requires.handle c.requires.stands c.place-in-LogFault.ensures.went c.args.to placed.front placed.grows (omega arith);
      },
    )

pub returns-in-LogFault-clause-stands : goal.returns-in-LogFault-clause-stands
returns-in-LogFault-clause-stands g c =
    let w = g.T.Turns.standing c.args.turns.now in
    let x = g.T.Turns.standing c.place-in-LogFault.new.turns in
    held-failed g.T.Log.LogFile.told g.T.Log.LogFile.faults w x _ c.args.handle c.args.log.now c.requires.held c.requires.handle c.requires.stands c.place-in-LogFault.ensures.went
    (λ pass handle done. entry.Flushed pass handle c.args.to) c.flush.result c.flush.new.self
    (record { counted = c.flush.ensures.counted; handle = c.flush.ensures.handle; stands = c.flush.ensures.stands }) c.in-LogFault.handle
    (c.in-Err.is ∙ ap (λ (e : CcError). Err e) c.in-LogFault.is)
    (subst (λ (n : ℕ). HasPlaced w (entry.LogFailed n c.args.handle) x.seen) c.me-pass.ensures c.place-in-LogFault.ensures.placed)

pub returns-in_default : goal.returns-in_default
returns-in_default g c =
    let w = g.T.Turns.standing c.args.turns.now in
    let x = g.T.Turns.standing c.give_back-in_default.new.turns in
    record {
      good = c.give_back-in_default.ensures.good;
      went = c.give_back-in_default.ensures.went;
      left = (
        c.give_back-in_default.ensures.grows,
        ⊎_elim (λ failed. absurd (c.in_default.not-LogFault _ failed)) (λ wanted. wanted) c.in-Err.ensures.causes,
      );
      handle = c.flush.ensures.handle ∙ c.requires.handle;
      stands = held-refused g.T.Log.LogFile.told g.T.Log.LogFile.faults w x _ c.args.handle c.args.log.now c.requires.held c.requires.handle c.requires.stands c.give_back-in_default.ensures.went
          (λ pass handle done. entry.Flushed pass handle c.args.to) c.flush.result c.flush.new.self
          (record { counted = c.flush.ensures.counted; handle = c.flush.ensures.handle; stands = c.flush.ensures.stands })
          c.in-Err.error c.in-Err.is c.in_default.not-LogFault c.give_back-in_default.ensures.grows;
    }

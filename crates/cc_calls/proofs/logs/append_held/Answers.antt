-- The entry that is placed is the append with the log's LSN, or its fault; a refusal places none, and the log stands.
use Rattle.std.proofs.Common.{ap, ◌∙◌, Err}
use Rattle.cc_entry.specs.declared.entry.Entry.TheVariants as entry
use Rattle.cc_entry.specs.declared.error.CcError.{CcError}
use Rattle.std.proofs.lemmas.Bool.{eq-eqb}
use Rattle.std.specs.Prelude.{refl}
use Rattle.cc_writes.specs.Visits.{HasPlaced}
use Rattle.cc_writes.proofs.Logging.{held-done, held-failed, held-floor, held-refused}
use Rattle.cc_calls.proofs.LogCalls.{failures-appended, left-failed, left-refused, only-placed}
use Rattle.cc_calls.proofs.logs.append_held.Goals as goal
use Rattle.cc_calls.proofs.logs.append_held.Goals.{in-LogFault, in_default}

pub returns-in-Ok-clause-left : goal.returns-in-Ok-clause-left
returns-in-Ok-clause-left g c =
    let w = g.T.Turns.standing c.args.turns.now in
    let placed : HasPlaced w (entry.Append w.number c.args.handle c.in-Ok.lsn c.args.piece.now) (g.T.Turns.standing c.place.new.turns).seen = rw (c.me-pass.ensures, c.requires.same) at c.place.ensures.placed in
    (c.requires.known, only-placed w (entry.Append w.number c.args.handle c.in-Ok.lsn c.args.piece.now) (g.T.Turns.standing c.place.new.turns).seen (eq-eqb w.number w.number refl) placed)

pub returns-in-Ok-clause-stands : goal.returns-in-Ok-clause-stands
returns-in-Ok-clause-stands g c =
    let w = g.T.Turns.standing c.args.turns.now in
    held-done g.T.Log.LogFile.told g.T.Log.LogFile.faults w (g.T.Turns.standing c.place.new.turns) _ c.args.handle c.args.log.now c.requires.held c.requires.handle c.requires.stands c.place.ensures.went
    (λ pass handle lsn. entry.Append pass handle lsn c.args.piece.now) c.append.result c.append.new.self
    (record { counted = c.append.ensures.counted; handle = c.append.ensures.handle; stands = c.append.ensures.stands }) c.in-Ok.lsn c.in-Ok.is
    (failures-appended w.number c.args.handle c.in-Ok.lsn c.args.piece.now c.args.log.now.handle)
    (rw (c.me-pass.ensures, c.requires.same) at c.place.ensures.placed)

pub returns-after-error-clause-left : goal.returns-after-error-clause-left
returns-after-error-clause-left g c =
    let w = g.T.Turns.standing c.args.turns.now in
    let causes = rw c.requires.handle at c.in-Err.ensures.causes in
    let full = rw c.requires.handle at c.in-Err.ensures.full in
    elim c.match-error.branch [
      | in-LogFault b ↦
          let x = g.T.Turns.standing b.place-in-LogFault.new.turns in
          let placed : HasPlaced w (entry.LogFailed w.number c.args.handle) x.seen = rw c.me-pass.ensures at b.place-in-LogFault.ensures.placed in
          rw b.turns-is
          (left-failed w c.args.handle c.args.piece.now c.in-Err.error c.args.log.now.floor causes full c.in-Err.ensures.within b.in-LogFault.handle x.seen b.in-LogFault.is c.requires.known placed
          (held-floor g.T.Log.LogFile.told g.T.Log.LogFile.faults w x _ c.args.handle c.args.log.now c.requires.held c.requires.handle c.requires.stands b.place-in-LogFault.ensures.went placed.front placed.grows))
      | in_default b ↦
          let x = g.T.Turns.standing b.give_back.new.turns in
          rw b.turns-is
          (left-refused w c.args.handle c.args.piece.now c.in-Err.error c.args.log.now.floor causes full c.in-Err.ensures.within x.seen b.in_default.not-LogFault b.give_back.ensures.grows
          (held-floor g.T.Log.LogFile.told g.T.Log.LogFile.faults w x _ c.args.handle c.args.log.now c.requires.held c.requires.handle c.requires.stands b.give_back.ensures.went x.seen b.give_back.ensures.grows))
    ]

pub returns-after-error-clause-stands : goal.returns-after-error-clause-stands
returns-after-error-clause-stands g c =
    let w = g.T.Turns.standing c.args.turns.now in
    elim c.match-error.branch [
      | in-LogFault b ↦
          rw b.turns-is
          (held-failed g.T.Log.LogFile.told g.T.Log.LogFile.faults w (g.T.Turns.standing b.place-in-LogFault.new.turns) _ c.args.handle c.args.log.now c.requires.held c.requires.handle c.requires.stands b.place-in-LogFault.ensures.went
          (λ pass handle lsn. entry.Append pass handle lsn c.args.piece.now) c.append.result c.append.new.self
          (record { counted = c.append.ensures.counted; handle = c.append.ensures.handle; stands = c.append.ensures.stands }) b.in-LogFault.handle
          (c.in-Err.is ∙ ap (λ (e : CcError). Err e) b.in-LogFault.is) (rw c.me-pass.ensures at b.place-in-LogFault.ensures.placed))
      | in_default b ↦
          rw b.turns-is
          (held-refused g.T.Log.LogFile.told g.T.Log.LogFile.faults w (g.T.Turns.standing b.give_back.new.turns) _ c.args.handle c.args.log.now c.requires.held c.requires.handle c.requires.stands b.give_back.ensures.went
          (λ pass handle lsn. entry.Append pass handle lsn c.args.piece.now) c.append.result c.append.new.self
          (record { counted = c.append.ensures.counted; handle = c.append.ensures.handle; stands = c.append.ensures.stands })
          c.in-Err.error c.in-Err.is b.in_default.not-LogFault b.give_back.ensures.grows)
    ]

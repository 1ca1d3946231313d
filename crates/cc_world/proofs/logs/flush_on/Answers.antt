-- By what the log answers: the entry of its flush, or that of its failure, may stand on the reserved place; a log that
-- found no memory leaves none.
use Rattle.std.specs.Prelude.{◌≡◌, ℕ, ◌+◌, ◌-◌, ◌<◌, [], ◌∷◌, Some, None, Err, refl}
use Rattle.std.proofs.Common.{ap, sym, ◌∙◌, subst, arith, ⊎_elim}
use Rattle.cc_entry.specs.declared.entry.Entry.{Entry}
use Rattle.cc_entry.specs.declared.entry.Entry.TheVariants as entry
use Rattle.cc_entry.specs.declared.error.CcError.{CcError}
use Rattle.cc_entry.specs.declared.error.CcError.TheVariants as error
use Rattle.cc_world.proofs.LogStanding.{flush-fails, flush-places, failures-failed, failures-flushed, log-may-push, log-went-none, log-went-one, told-by}
use Rattle.cc_world.proofs.Standing.{gained-so}
use Rattle.cc_world.proofs.logs.flush_on.Goals as goal

some : (n owed : ℕ) → n ≡ owed + 1 → 0 < n
some n owed is = omega arith

back : (k n owed : ℕ) → k ≡ n - 1 → n ≡ owed + 1 → k ≡ owed
back k n owed is was = omega arith

pub push-requires-clause-reserved : goal.push-requires-clause-reserved
push-requires-clause-reserved g c =
    let stand = c.requires.standing.0.2 in
    some _ _ stand.reserved

pub push-requires-clause-may : goal.push-requires-clause-may
push-requires-clause-may g c =
    let u = c.requires.standing.0.0 in
    let first = c.requires.standing.0.1 in
    let stand = c.requires.standing.0.2 in
    log-may-push g.L.LogFile.told g.L.LogFile.faults u first 1 c.args.log.now c.args.journal.now stand (entry.Flushed c.args.pass c.args.handle c.args.to) refl c.requires.standing.1

pub push-requires-in-LogFault-clause-may : goal.push-requires-in-LogFault-clause-may
push-requires-in-LogFault-clause-may g c =
    let u = c.requires.standing.0.0 in
    let first = c.requires.standing.0.1 in
    let stand = c.requires.standing.0.2 in
    log-may-push g.L.LogFile.told g.L.LogFile.faults u first 1 c.args.log.now c.args.journal.now stand (entry.LogFailed c.args.pass c.args.handle) refl tt

pub returns-in-Ok : goal.returns-in-Ok
returns-in-Ok g c u first stand =
    let j = c.args.journal.now in
    let log = c.args.log.now in
    let e : Entry = entry.Flushed c.args.pass c.args.handle c.args.to in
    let k = c.push.new.self in (
      e ∷ [],
      (subst (λ (h : ℕ). h < u.logs) c.requires.handle stand.known, flush-places j.entries c.args.pass c.args.handle c.args.to c.requires.standing.1),
      log-went-one g.L.LogFile.told g.L.LogFile.faults u first 1 log j stand 0 e c.flush.new.self k refl refl c.requires.standing.1
          (gained-so j.reserved e j j k refl c.push.ensures.placed)
          (back _ _ _ (ap (λ x. x.reserved) c.push.ensures.placed) stand.reserved) c.flush.ensures.handle
          (told-by g.L.LogFile.told first.told j.entries c.flush.new.self _ (Some e) (rw (c.in-Ok.is, c.requires.handle) refl) (c.flush.ensures.stands first.told j.entries c.args.pass stand.log_is.stands))
          (failures-flushed c.args.pass c.args.handle c.args.to log.handle j.entries)
          (rw c.in-Ok.is at c.flush.ensures.counted),
    )

pub returns-in-LogFault : goal.returns-in-LogFault
returns-in-LogFault g c u first stand =
    let j = c.args.journal.now in
    let log = c.args.log.now in
    let e : Entry = entry.LogFailed c.args.pass c.args.handle in
    let k = c.push-in-LogFault.new.self in
    let is : c.flush.result ≡ Err (error.LogFault c.in-LogFault.handle) = c.in-Err.is ∙ ap (λ (e : CcError). Err e) c.in-LogFault.is in (
      (subst (λ (h : ℕ). h < u.logs) c.requires.handle stand.known, c.requires.standing.1),
      flush-fails g.L.LogFile.told g.L.LogFile.faults u first c.args.pass c.args.handle c.args.to log c.flush.new.self j k c.requires.standing.1
          (log-went-one g.L.LogFile.told g.L.LogFile.faults u first 1 log j stand 1 e c.flush.new.self k refl refl tt
          (gained-so j.reserved e j j k refl c.push-in-LogFault.ensures.placed)
          (back _ _ _ (ap (λ x. x.reserved) c.push-in-LogFault.ensures.placed) stand.reserved) c.flush.ensures.handle
          (told-by g.L.LogFile.told first.told j.entries c.flush.new.self _ (Some e) (rw (is, c.requires.handle) refl) (c.flush.ensures.stands first.told j.entries c.args.pass stand.log_is.stands))
          (failures-failed c.args.pass c.args.handle log.handle j.entries (sym c.requires.handle))
          (rw is at c.flush.ensures.counted)),
    )

pub returns-in_default : goal.returns-in_default
returns-in_default g c u first stand =
    let j = c.args.journal.now in
    let log = c.args.log.now in
    let k = c.release.new.self in
    let none : c.in-Err.error ≡ error.NoMemory = ⊎_elim (λ failed. absurd (c.in_default.not-LogFault _ failed)) (λ wanted. wanted) c.in-Err.ensures.causes in
    let is : c.flush.result ≡ Err error.NoMemory = c.in-Err.is ∙ ap (λ (e : CcError). Err e) none in
    rw none (
      [],
      refl,
      log-went-none g.L.LogFile.told g.L.LogFile.faults u first 1 log j stand c.flush.new.self k
          (c.release.ensures ∙ ap (λ (n : ℕ). record j { reserved = n }) (sym (ap (λ x. x.reserved) c.release.ensures)))
          (back _ _ _ (ap (λ x. x.reserved) c.release.ensures) stand.reserved) c.flush.ensures.handle
          (told-by g.L.LogFile.told first.told j.entries c.flush.new.self _ None (rw is refl) (c.flush.ensures.stands first.told j.entries c.args.pass stand.log_is.stands))
          (rw is at c.flush.ensures.counted),
    )

-- By what the log answers: an entry with the next LSN, or that of its failure, may stand on the reserved place; a log
-- that is full, or found no memory, leaves none.
use Rattle.std.specs.Prelude.{◌≡◌, ℕ, suc, ◌+◌, ◌-◌, ◌^◌, ◌<◌, ◌≤◌, List, [], ◌∷◌, Some, None, Result, Ok, Err, IsErrOf, refl}
use Rattle.std.proofs.Common.{ap, sym, ◌∙◌, subst, arith, ⊎_elim}
use Rattle.cc_entry.specs.declared.entry.Entry.{Entry}
use Rattle.cc_entry.specs.declared.entry.Entry.TheVariants as entry
use Rattle.cc_entry.specs.declared.error.CcError.{CcError}
use Rattle.cc_entry.specs.declared.error.CcError.TheVariants as error
use Rattle.cc_book.specs.Book.{Gains}
use Rattle.cc_model.specs.Logs.{floor_of}
use Rattle.cc_world.proofs.LogStanding.{failures-failed, failures-appended, floor-of, log-may-push, log-went-none, log-went-one, next-lsn, told-by}
use Rattle.cc_world.proofs.Standing.{gained-so}
use Rattle.cc_world.proofs.logs.append_kept.Goals as goal

some : (n owed : ℕ) → n ≡ owed + 1 → 0 < n
some n owed is = omega arith

back : (k n owed : ℕ) → k ≡ n - 1 → n ≡ owed + 1 → k ≡ owed
back k n owed is was = omega arith

one-more : (a b : ℕ) → a ≡ b + 1 → a ≡ suc b
one-more a b is = omega arith

left-lsn : (floor lsn : ℕ) → floor ≤ 2 ^ 62 → lsn ≡ floor + 1 → (floor ≡ 2 ^ 62 → ⊥) → lsn ≤ 2 ^ 62
left-lsn floor lsn least next apart = omega (arith, least, next, apart)

below-all : (floor : ℕ) → floor ≤ 2 ^ 62 → (floor ≡ 2 ^ 62 → ⊥) → floor < 2 ^ 62
below-all floor least apart = omega (arith, least, apart)

no-full : (lsn : ℕ) (e : CcError) → IsErrOf {T = ℕ} {E = CcError} (Ok lsn) e → ⊥
no-full lsn e is = absurd (cc)

not-full : (x : CcError) (handle other : ℕ) → x ≡ error.LogFault handle → IsErrOf {T = ℕ} {E = CcError} (Err x) (error.LogFull other) → ⊥
not-full x handle other is full = absurd (cc (is, full))

as-err : (x y : CcError) → x ≡ y → IsErrOf {T = ℕ} {E = CcError} (Err x) y
as-err x y is =
    let f : CcError → Result ℕ CcError = λ z. Err z in
    ap f is

pub push-requires-clause-reserved : goal.push-requires-clause-reserved
push-requires-clause-reserved g c =
    let stand = c.requires.standing.2 in
    some _ _ stand.reserved

pub push-requires-clause-may : goal.push-requires-clause-may
push-requires-clause-may g c =
    let u = c.requires.standing.0 in
    let first = c.requires.standing.1 in
    let stand = c.requires.standing.2 in
    log-may-push g.L.LogFile.told g.L.LogFile.faults u first 1 c.args.log.now c.args.journal.now stand (entry.Append c.args.pass c.args.handle c.in-Ok.lsn c.args.bytes) refl
    (next-lsn g.L.LogFile.told g.L.LogFile.faults u first 1 c.args.log.now c.args.journal.now c.args.handle c.in-Ok.lsn stand c.requires.handle c.in-Ok.ensures.next
    (left-lsn c.args.log.now.floor c.in-Ok.lsn c.append.ensures.within c.in-Ok.ensures.next (λ is. no-full c.in-Ok.lsn _ (c.in-Ok.ensures.full.1 is))))

pub push-requires-in-LogFault-clause-may : goal.push-requires-in-LogFault-clause-may
push-requires-in-LogFault-clause-may g c =
    let u = c.requires.standing.0 in
    let first = c.requires.standing.1 in
    let stand = c.requires.standing.2 in
    log-may-push g.L.LogFile.told g.L.LogFile.faults u first 1 c.args.log.now c.args.journal.now stand (entry.LogFailed c.args.pass c.args.handle) refl tt

pub returns-in-Ok : goal.returns-in-Ok
returns-in-Ok g c u first stand =
    let j = c.args.journal.now in
    let log = c.args.log.now in
    let lsn = c.in-Ok.lsn in
    let e : Entry = entry.Append c.args.pass c.args.handle lsn c.args.bytes in
    let k = c.push.new.self in
    let gains : Gains e j k = c.push.ensures.placed in
    let left = left-lsn log.floor lsn c.append.ensures.within c.in-Ok.ensures.next (λ is. no-full lsn _ (c.in-Ok.ensures.full.1 is)) in
    let next : lsn ≡ suc (floor_of j.entries c.args.handle) =
    one-more _ _ c.in-Ok.ensures.next ∙ ap (λ (n : ℕ). suc n) (floor-of g.L.LogFile.told g.L.LogFile.faults u first 1 log j c.args.handle stand c.requires.handle) in (
      e ∷ [],
      (subst (λ (h : ℕ). h < u.logs) c.requires.handle stand.known, next, refl),
      log-went-one g.L.LogFile.told g.L.LogFile.faults u first 1 log j stand 0 e c.append.new.self k refl refl
          (next-lsn g.L.LogFile.told g.L.LogFile.faults u first 1 log j c.args.handle lsn stand c.requires.handle c.in-Ok.ensures.next left)
          (gained-so j.reserved e j j k refl gains)
          (back _ _ _ (ap (λ x. x.reserved) gains) stand.reserved) c.append.ensures.handle
          (told-by g.L.LogFile.told first.told j.entries c.append.new.self _ (Some e) (rw (c.in-Ok.is, c.requires.handle) (ap (λ (bs : List ℕ). Some (entry.Append c.args.pass c.args.handle lsn bs)) (c.deref.ensures.value ∙ sym c.requires.same))) (c.append.ensures.stands first.told j.entries c.args.pass stand.log_is.stands))
          (failures-appended c.args.pass c.args.handle lsn c.args.bytes log.handle j.entries)
          (rw c.in-Ok.is at c.append.ensures.counted),
    )

pub returns-in-LogFault : goal.returns-in-LogFault
returns-in-LogFault g c u first stand =
    let j = c.args.journal.now in
    let log = c.args.log.now in
    let e : Entry = entry.LogFailed c.args.pass c.args.handle in
    let k = c.push-in-LogFault.new.self in
    let is : c.append.result ≡ Err (error.LogFault c.in-LogFault.handle) = c.in-Err.is ∙ ap (λ (e : CcError). Err e) c.in-LogFault.is in
    let below = below-all log.floor c.append.ensures.within (λ top. not-full c.in-Err.error c.in-LogFault.handle log.handle c.in-LogFault.is (c.in-Err.ensures.full.1 top)) in (
      (
        subst (λ (h : ℕ). h < u.logs) c.requires.handle stand.known,
        subst (λ (n : ℕ). n < 2 ^ 62) (floor-of g.L.LogFile.told g.L.LogFile.faults u first 1 log j c.args.handle stand c.requires.handle) below,
      ),
      log-went-one g.L.LogFile.told g.L.LogFile.faults u first 1 log j stand 1 e c.append.new.self k refl refl tt
          (gained-so j.reserved e j j k refl c.push-in-LogFault.ensures.placed)
          (back _ _ _ (ap (λ x. x.reserved) c.push-in-LogFault.ensures.placed) stand.reserved) c.append.ensures.handle
          (told-by g.L.LogFile.told first.told j.entries c.append.new.self _ (Some e) (rw (is, c.requires.handle) refl) (c.append.ensures.stands first.told j.entries c.args.pass stand.log_is.stands))
          (failures-failed c.args.pass c.args.handle log.handle j.entries (sym c.requires.handle))
          (rw is at c.append.ensures.counted),
    )

pub returns : goal.returns
returns g c u first stand =
    let j = c.args.journal.now in
    let log = c.args.log.now in
    let k = c.release.new.self in
    ⊎_elim
    (λ (full : c.in-Err.error ≡ error.LogFull log.handle).
    let is : c.append.result ≡ Err (error.LogFull log.handle) = c.in-Err.is ∙ ap (λ (e : CcError). Err e) full in
    rw full (
      [],
      (
        subst (λ (h : ℕ). h < u.logs) c.requires.handle stand.known,
        sym (floor-of g.L.LogFile.told g.L.LogFile.faults u first 1 log j c.args.handle stand c.requires.handle)
            ∙ c.in-Err.ensures.full.0 (as-err c.in-Err.error (error.LogFull log.handle) full),
        c.requires.handle,
        refl,
      ),
      log-went-none g.L.LogFile.told g.L.LogFile.faults u first 1 log j stand c.append.new.self k
          (c.release.ensures ∙ ap (λ (n : ℕ). record j { reserved = n }) (sym (ap (λ x. x.reserved) c.release.ensures)))
          (back _ _ _ (ap (λ x. x.reserved) c.release.ensures) stand.reserved) c.append.ensures.handle
          (told-by g.L.LogFile.told first.told j.entries c.append.new.self _ None (rw is refl) (c.append.ensures.stands first.told j.entries c.args.pass stand.log_is.stands))
          (rw is at c.append.ensures.counted),
    ))
    (λ other.
    let none : c.in-Err.error ≡ error.NoMemory = ⊎_elim (λ failed. absurd (c.in_default.not-LogFault _ failed)) (λ wanted. wanted) other in
    let is : c.append.result ≡ Err error.NoMemory = c.in-Err.is ∙ ap (λ (e : CcError). Err e) none in
    rw none (
      [],
      refl,
      log-went-none g.L.LogFile.told g.L.LogFile.faults u first 1 log j stand c.append.new.self k
          (c.release.ensures ∙ ap (λ (n : ℕ). record j { reserved = n }) (sym (ap (λ x. x.reserved) c.release.ensures)))
          (back _ _ _ (ap (λ x. x.reserved) c.release.ensures) stand.reserved) c.append.ensures.handle
          (told-by g.L.LogFile.told first.told j.entries c.append.new.self _ None (rw is refl) (c.append.ensures.stands first.told j.entries c.args.pass stand.log_is.stands))
          (rw is at c.append.ensures.counted),
    ))
    c.in-Err.ensures.causes

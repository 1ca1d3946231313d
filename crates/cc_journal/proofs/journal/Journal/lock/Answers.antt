-- The locks of the stream grant or refuse, and the entry that tells of it takes a reserved place; it changes nothing else.
use Rattle.std.specs.Prelude.{◌≡◌, ◌∷◌, ◌<◌, List, length, true, false}
use Rattle.std.proofs.Common.{ap, sym, subst, refl, ◌∙◌}
use Rattle.std.proofs.lemmas.Result.{IfErr-at_err}
use Rattle.cc_entry.specs.declared.entry.Entry.{Entry}
use Rattle.cc_entry.specs.declared.entry.Entry.TheVariants as entry
use Rattle.cc_journal.proofs.KeptSteps.{kept_other, memory_placed}
use Rattle.cc_journal.proofs.LockSteps.{grants_lock, refuses_lock}
use Rattle.cc_journal.proofs.journal.Journal.lock.Goals as goal

pub invariant_of-self : goal.invariant_of-self
invariant_of-self g c =
    let past : List Entry = c.self.inside.entries.past in
    let e : Entry = entry.Locked c.args.pass c.args.file c.args.span c.args.exclusive true c.in-Ok.id in
    let grown : c.push_reserved.new.self.past ≡ e ∷ past = rw (c.push_reserved.ensures.past, c.locked.ensures) refl in
    let some : 0 < c.self.inside.reserved = subst (λ j. 0 < j.reserved) (sym c.self.view_is) c.requires.reserved in (
      rw grown
          (kept_other e past c.self.inside.streams.states.value c.self.inside.streams.places.places.entries c.self.inside.streams.dirty c.self.inside.calls.counts.entries c.self.inside.holds
          c.self.inside.waiting c.self.inside.scans.total c.self.inside.scans.cursor c.self.invariant.0 refl (λ me. refl) refl refl refl),
      memory_placed _ _ _ _ _ _ _ _ some (ap length grown) c.push_reserved.ensures.room c.self.invariant.1,
      rw grown ((c.in-Ok.ensures.granted past c.self.invariant.2).stands c.args.pass),
      λ few. c.push_reserved.ensures.kind ∙ c.self.invariant.3 few,
    )

pub invariant_of-self-in-Err-LockConflict : goal.invariant_of-self-in-Err-LockConflict
invariant_of-self-in-Err-LockConflict g c =
    let past : List Entry = c.self.inside.entries.past in
    let e : Entry = entry.Locked c.args.pass c.args.file c.args.span c.args.exclusive false c.in-Err-LockConflict.id in
    let grown : c.push_reserved-in-Err-LockConflict.new.self.past ≡ e ∷ past = rw (c.push_reserved-in-Err-LockConflict.ensures.past, c.locked-in-Err-LockConflict.ensures) refl in
    let some : 0 < c.self.inside.reserved = subst (λ j. 0 < j.reserved) (sym c.self.view_is) c.requires.reserved in (
      rw grown
          (kept_other e past c.self.inside.streams.states.value c.self.inside.streams.places.places.entries c.self.inside.streams.dirty c.self.inside.calls.counts.entries c.self.inside.holds
          c.self.inside.waiting c.self.inside.scans.total c.self.inside.scans.cursor c.self.invariant.0 refl (λ me. refl) refl refl refl),
      memory_placed _ _ _ _ _ _ _ _ some (ap length grown) c.push_reserved-in-Err-LockConflict.ensures.room c.self.invariant.1,
      rw grown ((IfErr-at_err _ (rw c.in-Err-LockConflict.field-0-is at c.in-Err-LockConflict.is) c.lock.ensures.refused past c.self.invariant.2).1 c.args.pass),
      λ few. c.push_reserved-in-Err-LockConflict.ensures.kind ∙ c.self.invariant.3 few,
    )

pub returns-in-Ok-clause-granted : goal.returns-in-Ok-clause-granted
returns-in-Ok-clause-granted g c =
    let past : List Entry = c.self.inside.entries.past in
    let grown : c.push_reserved.new.self.past ≡ entry.Locked c.args.pass c.args.file c.args.span c.args.exclusive true c.in-Ok.id ∷ past =
    rw (c.push_reserved.ensures.past, c.locked.ensures) refl in
    grants_lock _ _ _ past _ _ _ _ c.args.self.now c.self.view_is c.args.pass c.args.file c.args.span c.args.exclusive c.in-Ok.id c.lock.new.self grown
    (c.in-Ok.ensures.granted past c.self.invariant.2)

pub returns-in-Err-LockConflict-clause-refused : goal.returns-in-Err-LockConflict-clause-refused
returns-in-Err-LockConflict-clause-refused g c =
    let past : List Entry = c.self.inside.entries.past in
    let grown : c.push_reserved-in-Err-LockConflict.new.self.past ≡ entry.Locked c.args.pass c.args.file c.args.span c.args.exclusive false c.in-Err-LockConflict.id ∷ past =
    rw (c.push_reserved-in-Err-LockConflict.ensures.past, c.locked-in-Err-LockConflict.ensures) refl in
    refuses_lock _ _ _ past _ _ _ _ c.args.self.now c.self.view_is c.args.pass c.args.file c.args.span c.args.exclusive c.in-Err-LockConflict.id c.self.inside.locks c.lock.new.self grown
    (IfErr-at_err _ (rw c.in-Err-LockConflict.field-0-is at c.in-Err-LockConflict.is) c.lock.ensures.refused past c.self.invariant.2)

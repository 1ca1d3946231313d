-- The locks of the stream end the one that is named, and the entry that tells of it takes a reserved place; it changes nothing
-- else.
use Rattle.std.specs.Prelude.{◌≡◌, ◌∷◌, ◌<◌, List, length}
use Rattle.std.proofs.Common.{ap, sym, subst, refl, ◌∙◌}
use Rattle.cc_entry.specs.declared.entry.Entry.{Entry}
use Rattle.cc_entry.specs.declared.entry.Entry.TheVariants as entry
use Rattle.cc_journal.proofs.KeptSteps.{kept_other, memory_placed}
use Rattle.cc_journal.proofs.LockSteps.{ends_lock}
use Rattle.cc_journal.proofs.journal.Journal.unlock.Goals as goal

pub invariant_of-self : goal.invariant_of-self
invariant_of-self g c =
    let past : List Entry = c.self.inside.entries.past in
    let e : Entry = entry.Unlocked c.args.pass c.args.file c.args.id c.unlock-gone.result in
    let grown : c.push_reserved.new.self.past ≡ e ∷ past = c.push_reserved.ensures.past in
    let some : 0 < c.self.inside.reserved = subst (λ j. 0 < j.reserved) (sym c.self.view_is) c.requires.reserved in (
      rw grown
          (kept_other e past c.self.inside.streams.states.value c.self.inside.streams.places.places.entries c.self.inside.streams.dirty c.self.inside.calls.counts.entries c.self.inside.holds
          c.self.inside.waiting c.self.inside.scans.total c.self.inside.scans.cursor c.self.invariant.0 refl (λ me. refl) refl refl refl),
      memory_placed _ _ _ _ _ _ _ _ some (ap length grown) c.push_reserved.ensures.room c.self.invariant.1,
      rw grown ((c.unlock-gone.ensures.ended past c.self.invariant.2).stands c.args.pass),
      λ few. c.push_reserved.ensures.kind ∙ c.self.invariant.3 few,
    )

pub returns-clause-ended : goal.returns-clause-ended
returns-clause-ended g c =
    let past : List Entry = c.self.inside.entries.past in
    let grown : c.push_reserved.new.self.past ≡ entry.Unlocked c.args.pass c.args.file c.args.id c.unlock-gone.result ∷ past =
    c.push_reserved.ensures.past in
    ends_lock _ _ _ past _ _ _ _ c.args.self.now c.self.view_is c.args.pass c.args.file c.args.id c.unlock-gone.result c.unlock-gone.new.self grown
    (c.unlock-gone.ensures.ended past c.self.invariant.2)

-- The queue without its head is that of the past with the post; all else that is kept follows as for any entry.
use Rattle.std.specs.Prelude.{◌≡◌, ◌≤◌, ◌∷◌, List, length}
use Rattle.std.proofs.Common.{ap, arith, refl, ◌∙◌}
use Rattle.std.proofs.lemmas.List.{length-drop}
use Rattle.cc_entry.specs.declared.entry.Entry.{Entry}
use Rattle.cc_entry.specs.declared.entry.Entry.TheVariants as entry
use Rattle.cc_journal.proofs.KeptSteps.{kept_queue}
use Rattle.cc_journal.proofs.LockSteps.{locks_other}
use Rattle.cc_journal.proofs.journal.Journal.push_posted.Goals as goal

pub invariant_of-self : goal.invariant_of-self
invariant_of-self g c =
    let past : List Entry = c.self.inside.entries.past in
    let e : Entry = entry.Posted c.post-posted.result.id in
    let grown : c.push_reserved.new.self.past ≡ e ∷ past = c.push_reserved.ensures.past in
    let kept = c.self.invariant.0 in
    let memory = c.self.invariant.1 in
    let reserved = ap (λ j. j.reserved) c.self.view_is in
    let short : length c.post-posted.new.self.writes ≤ 64 = omega (arith, ap length c.post-posted.ensures.writes, length-drop 1 c.self.inside.waiting.writes, kept.short) in (
      rw grown
          (kept_queue e past c.self.inside.streams.states.value c.self.inside.streams.places.places.entries c.self.inside.streams.dirty c.self.inside.calls.counts.entries c.self.inside.holds
          c.self.inside.waiting c.post-posted.new.self c.self.inside.scans.total c.self.inside.scans.cursor kept refl (λ me. refl) refl refl (c.post-posted.ensures.stands past kept.queue) short),
      record {
        within = omega (arith, memory.within, ap length grown, c.requires.reserved, reserved);
        countable = memory.countable;
        for_entries = omega (arith, memory.for_entries, c.push_reserved.ensures.room);
        for_places = omega (arith, memory.for_places);
        for_counts = omega (arith, memory.for_counts);
      },
      rw grown (locks_other e past c.self.inside.locks refl c.self.invariant.2),
      λ few. c.push_reserved.ensures.kind ∙ c.self.invariant.3 few,
    )

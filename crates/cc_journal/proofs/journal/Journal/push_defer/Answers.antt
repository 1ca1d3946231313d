-- The deferrals that were made are fewer than the entries, so their count has room; the queue follows the deferral.
use Rattle.std.specs.Prelude.{◌≡◌, ◌≤◌, ◌∷◌, List, length}
use Rattle.std.proofs.Common.{ap, sym, arith, refl, ◌∙◌}
use Rattle.cc_entry.specs.declared.entry.Entry.{Entry}
use Rattle.cc_entry.specs.declared.entry.Entry.TheVariants as entry
use Rattle.cc_journal.proofs.DeferredSteps.{stands_length}
use Rattle.cc_journal.proofs.KeptSteps.{kept_queue, deferred_within, queue_more}
use Rattle.cc_journal.proofs.LockSteps.{locks_other}
use Rattle.cc_journal.proofs.journal.Journal.push_defer.Goals as goal

pub defer-id-requires-clause-few : goal.defer-id-requires-clause-few
defer-id-requires-clause-few g c =
    let past : List Entry = c.self.inside.entries.past in
    omega (arith, c.self.invariant.0.queue.1, deferred_within past, c.self.invariant.1.within, c.self.invariant.1.countable)

pub invariant_of-self : goal.invariant_of-self
invariant_of-self g c =
    let past : List Entry = c.self.inside.entries.past in
    let same : c.args.self.now.entries ≡ past = sym (ap (λ j. j.entries) c.self.view_is) in
    let e : Entry = entry.Defer c.args.pass c.defer-id.result c.args.file c.args.pages c.args.retrying in
    let grown : c.push_reserved.new.self.past ≡ e ∷ past = c.push_reserved.ensures.past in
    let kept = c.self.invariant.0 in
    let memory = c.self.invariant.1 in
    let reserved = ap (λ j. j.reserved) c.self.view_is in
    let stands = c.defer-id.ensures.stands past c.args.pass kept.queue in
    let room = rw same at c.requires.room in
    let short : length c.defer-id.new.self.writes ≤ 64 =
    omega (arith, stands_length c.defer-id.new.self.writes c.defer-id.new.self.count (e ∷ past) stands, queue_more c.args.pass c.defer-id.result c.args.file c.args.pages c.args.retrying past, room) in (
      rw grown
          (kept_queue e past c.self.inside.streams.states.value c.self.inside.streams.places.places.entries c.self.inside.streams.dirty c.self.inside.calls.counts.entries c.self.inside.holds
          c.self.inside.waiting c.defer-id.new.self c.self.inside.scans.total c.self.inside.scans.cursor kept refl (λ me. refl) refl refl stands short),
      record {
        within = omega (arith, memory.within, ap length grown, c.requires.reserved, reserved);
        countable = memory.countable;
        for_entries = omega (arith, memory.for_entries, c.push_reserved.ensures.room);
        for_places = omega (arith, memory.for_places);
        for_counts = omega (arith, memory.for_counts);
      },
      rw grown (locks_other e past c.self.inside.locks refl c.self.invariant.2),
      λ few. c.push_reserved.ensures.kind ∙ c.self.invariant.3 few,
    )

-- There is room among the rows and the holds; all that is kept follows the entry, so it stands for the longer list.
use Rattle.std.specs.Prelude.{◌≡◌, ◌∷◌, List, length}
use Rattle.std.proofs.Common.{ap, sym, arith, refl, ◌∙◌}
use Rattle.cc_entry.specs.declared.entry.Entry.{Entry}
use Rattle.cc_journal.specs.Journal.{MayBePushed}
use Rattle.cc_journal.proofs.KeptSteps.{kept_push, holds_within, made_by}
use Rattle.cc_journal.proofs.CallSteps.{calls_within}
use Rattle.cc_journal.proofs.LockSteps.{locks_other}
use Rattle.cc_journal.proofs.RoomFor.{room_for}
use Rattle.cc_journal.proofs.journal.Journal.push.Goals as goal

-- the entries before, as the model has them
pub follow-requires-clause-rows : goal.follow-requires-clause-rows
follow-requires-clause-rows g c =
    let past : List Entry = c.self.inside.entries.past in
    let same : c.args.self.now.entries ≡ past = sym (ap (λ j. j.entries) c.self.view_is) in
    room_for c.args.entry past c.self.inside.streams.states.value c.self.inside.streams.places.places.entries c.self.inside.streams.dirty
    (rw (ap (λ t. t.rows) c.dirty.ensures) at (rw c.rows-rows.ensures.rows at c.rows-rows.ensures.sound)) c.self.invariant.0.streams c.self.invariant.0.few c.self.invariant.0.capacity (rw same at c.requires.may)

pub follow-requires-2-clause-few : goal.follow-requires-2-clause-few
follow-requires-2-clause-few g c pass =
    let past : List Entry = c.self.inside.entries.past in
    omega (arith, c.self.invariant.0.calls.count pass, calls_within past pass, c.self.invariant.1.within, c.self.invariant.1.countable, c.requires.reserved, ap (λ j. j.reserved) c.self.view_is)

pub overflow_add-place : goal.overflow_add-place
overflow_add-place g c =
    omega (arith, c.len-place.ensures, c.self.invariant.1.within, c.self.invariant.1.countable, c.requires.reserved, ap (λ j. j.reserved) c.self.view_is)

pub overflow_add-self : goal.overflow_add-self
overflow_add-self g c =
    let past : List Entry = c.self.inside.entries.past in
    omega (arith, c.self.invariant.0.made, holds_within past, c.self.invariant.1.within, c.self.invariant.1.countable, c.holds_made_by.ensures, made_by c.args.entry)

pub invariant_of-self : goal.invariant_of-self
invariant_of-self g c =
    let past : List Entry = c.self.inside.entries.past in
    let same : c.args.self.now.entries ≡ past = sym (ap (λ j. j.entries) c.self.view_is) in
    let grown : c.push_reserved.new.self.past ≡ c.args.entry ∷ past = c.push_reserved.ensures.past in
    let kept = c.self.invariant.0 in
    let memory = c.self.invariant.1 in
    let may : MayBePushed past c.args.entry = rw same at c.requires.may in
    let scans = c.follow-3.ensures past (rw same at c.looked_at-looked_at.ensures.scan) kept.scans in
    let reserved = ap (λ j. j.reserved) c.self.view_is in (
      rw grown
          (kept_push c.args.entry past c.self.inside.streams.states.value c.follow.new.self.states.value c.self.inside.streams.places.places.entries c.follow.new.self.places.places.entries
          c.self.inside.streams.dirty c.follow.new.self.dirty c.self.inside.calls.counts.entries c.follow-2.new.self.counts.entries c.self.inside.holds c.holds_made_by.result
          c.self.inside.waiting c.self.inside.scans.total c.follow-3.new.self.total c.self.inside.scans.cursor c.follow-3.new.self.cursor kept c.requires.kind may.few
          (c.follow.ensures.stands past (omega (arith, c.len-place.ensures)) may.transfers kept.streams) c.follow.ensures.sound c.follow.ensures.capacity (c.follow-2.ensures.counted past kept.calls)
          c.holds_made_by.ensures scans),
      record {
        within = omega (arith, memory.within, ap length grown, c.requires.reserved, reserved);
        countable = memory.countable;
        for_entries = omega (arith, memory.for_entries, c.push_reserved.ensures.room);
        for_places = omega (arith, memory.for_places, c.follow.ensures.room);
        for_counts = omega (arith, memory.for_counts, c.follow-2.ensures.room);
      },
      rw grown (locks_other c.args.entry past c.self.inside.locks c.requires.no_lock c.self.invariant.2),
      λ few. c.push_reserved.ensures.kind ∙ c.self.invariant.3 few,
    )

pub returns-clause-rows : goal.returns-clause-rows
returns-clause-rows g c =
    let past : List Entry = c.self.inside.entries.past in
    let same : c.args.self.now.entries ≡ past = sym (ap (λ j. j.entries) c.self.view_is) in
    let grown : c.push_reserved.new.self.past ≡ c.args.entry ∷ past = c.push_reserved.ensures.past in
    let may : MayBePushed past c.args.entry = rw same at c.requires.may in
    rw grown (c.follow.ensures.stands past (omega (arith, c.len-place.ensures)) may.transfers c.self.invariant.0.streams).unwritten

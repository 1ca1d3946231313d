-- By the kind of the slot taken: it goes into its row, the others stay; turned round, the rows are those of a desk.
use Rattle.std.proofs.Common.{◌≡◌, ◌<◌, false, None, Some, [], ◌∷◌, length, refl, sym, ap, ◌∙◌, arith, rules}
use Rattle.std.specs.Prelude.{is_some, vec_capacity}
use Rattle.cc_turns.specs.Desk.{desk_state}
use Rattle.cc_turns.proofs.RowSteps.{at_last, at_rest, no_items}
use Rattle.cc_turns.proofs.SlotSteps.{picked, device_of, book_of, log_of, journal_of, sorted, returns_begun, returns_own, returns_room, returns_other, returns_ended, one_begun, one_own, one_other, one_ended, one_came, put_together, is_put_together}
use Rattle.cc_turns.proofs.slots.Emptied.put_together.Given.{Over}
use Rattle.cc_turns.proofs.slots.Emptied.put_together.Goals as goal

pub loop-slot-init : goal.loop-slot-init
loop-slot-init g c =
    let there = sorted _ _ c.requires.slots.0 c.requires.slots.1.0 c.args.slots.items c.requires.slots.1.1 in
    let streams : length c.self.inside.begun.value.disks.items ≡ length c.args.self.disks = ap (λ begun. length begun.disks) c.self.view_is in
    let handles : length c.self.inside.begun.value.logs.items ≡ length c.args.self.logs = ap (λ begun. length begun.logs) c.self.view_is in
    record {
      full = there.full;
      disks = returns_begun device_of c.args.slots.items c.self.inside.disks.items _ c.self.invariant.0.empty (omega (arith, there.disks.counted, streams, c.self.invariant.0.room));
      books = returns_begun book_of c.args.slots.items c.self.inside.books.items _ c.self.invariant.1.empty (omega (arith, there.books.counted, streams, c.self.invariant.1.room));
      logs = returns_begun log_of c.args.slots.items c.self.inside.logs.items _ c.self.invariant.2.empty (omega (arith, there.logs.counted, handles, c.self.invariant.2.room));
      journal = one_begun journal_of c.args.slots.items;
    }

pub unwrap-requires : goal.unwrap-requires
unwrap-requires g c = at_last _ _ c.in-Some.slot c.in-Some.ensures.items c.loop-slot.invariant.full

pub push_reserved-requires : goal.push_reserved-requires
push_reserved-requires g c =
    let room : length c.loop-slot.disks.items < vec_capacity c.loop-slot.disks =
    returns_room device_of c.args.slots.items c.loop-slot.slots.items c.pop.new.self.items c.in-Some.slot c.unwrap.result c.in-Device.disk c.loop-slot.disks.items _
    c.in-Some.ensures.items c.unwrap.ensures (ap device_of c.in-Device.is) c.loop-slot.invariant.disks in
    omega (arith, room, c.loop-slot.disks.ok.0)

pub loop-slot-preserved-in-Device : goal.loop-slot-preserved-in-Device
loop-slot-preserved-in-Device g c = record {
  full = at_rest _ _ c.in-Some.slot c.in-Some.ensures.items c.loop-slot.invariant.full;
  disks = returns_own device_of c.args.slots.items c.loop-slot.slots.items c.pop.new.self.items c.in-Some.slot c.unwrap.result c.in-Device.disk c.loop-slot.disks.items c.push_reserved.new.self.items _ _
      c.in-Some.ensures.items c.unwrap.ensures (ap device_of c.in-Device.is) c.push_reserved.ensures.items c.push_reserved.ensures.capacity c.loop-slot.invariant.disks;
  books = returns_other book_of c.args.slots.items c.loop-slot.slots.items c.pop.new.self.items c.in-Some.slot c.unwrap.result c.loop-slot.books.items _
      c.in-Some.ensures.items c.unwrap.ensures (ap book_of c.in-Device.is) c.loop-slot.invariant.books;
  logs = returns_other log_of c.args.slots.items c.loop-slot.slots.items c.pop.new.self.items c.in-Some.slot c.unwrap.result c.loop-slot.logs.items _
      c.in-Some.ensures.items c.unwrap.ensures (ap log_of c.in-Device.is) c.loop-slot.invariant.logs;
  journal = one_other journal_of c.args.slots.items c.loop-slot.slots.items c.pop.new.self.items c.in-Some.slot c.unwrap.result c.loop-slot.journal
      c.in-Some.ensures.items c.unwrap.ensures (ap journal_of c.in-Device.is) c.loop-slot.invariant.journal;
}

pub push_reserved-requires-in-Book : goal.push_reserved-requires-in-Book
push_reserved-requires-in-Book g c =
    let room : length c.loop-slot.books.items < vec_capacity c.loop-slot.books =
    returns_room book_of c.args.slots.items c.loop-slot.slots.items c.pop.new.self.items c.in-Some.slot c.unwrap.result c.in-Book.book c.loop-slot.books.items _
    c.in-Some.ensures.items c.unwrap.ensures (ap book_of c.in-Book.is) c.loop-slot.invariant.books in
    omega (arith, room, c.loop-slot.books.ok.0)

pub loop-slot-preserved-in-Book : goal.loop-slot-preserved-in-Book
loop-slot-preserved-in-Book g c = record {
  full = at_rest _ _ c.in-Some.slot c.in-Some.ensures.items c.loop-slot.invariant.full;
  disks = returns_other device_of c.args.slots.items c.loop-slot.slots.items c.pop.new.self.items c.in-Some.slot c.unwrap.result c.loop-slot.disks.items _
      c.in-Some.ensures.items c.unwrap.ensures (ap device_of c.in-Book.is) c.loop-slot.invariant.disks;
  books = returns_own book_of c.args.slots.items c.loop-slot.slots.items c.pop.new.self.items c.in-Some.slot c.unwrap.result c.in-Book.book c.loop-slot.books.items c.push_reserved-in-Book.new.self.items _ _
      c.in-Some.ensures.items c.unwrap.ensures (ap book_of c.in-Book.is) c.push_reserved-in-Book.ensures.items c.push_reserved-in-Book.ensures.capacity c.loop-slot.invariant.books;
  logs = returns_other log_of c.args.slots.items c.loop-slot.slots.items c.pop.new.self.items c.in-Some.slot c.unwrap.result c.loop-slot.logs.items _
      c.in-Some.ensures.items c.unwrap.ensures (ap log_of c.in-Book.is) c.loop-slot.invariant.logs;
  journal = one_other journal_of c.args.slots.items c.loop-slot.slots.items c.pop.new.self.items c.in-Some.slot c.unwrap.result c.loop-slot.journal
      c.in-Some.ensures.items c.unwrap.ensures (ap journal_of c.in-Book.is) c.loop-slot.invariant.journal;
}

pub push_reserved-requires-in-Log : goal.push_reserved-requires-in-Log
push_reserved-requires-in-Log g c =
    let room : length c.loop-slot.logs.items < vec_capacity c.loop-slot.logs =
    returns_room log_of c.args.slots.items c.loop-slot.slots.items c.pop.new.self.items c.in-Some.slot c.unwrap.result c.in-Log.log c.loop-slot.logs.items _
    c.in-Some.ensures.items c.unwrap.ensures (ap log_of c.in-Log.is) c.loop-slot.invariant.logs in
    omega (arith, room, c.loop-slot.logs.ok.0)

pub loop-slot-preserved-in-Log : goal.loop-slot-preserved-in-Log
loop-slot-preserved-in-Log g c = record {
  full = at_rest _ _ c.in-Some.slot c.in-Some.ensures.items c.loop-slot.invariant.full;
  disks = returns_other device_of c.args.slots.items c.loop-slot.slots.items c.pop.new.self.items c.in-Some.slot c.unwrap.result c.loop-slot.disks.items _
      c.in-Some.ensures.items c.unwrap.ensures (ap device_of c.in-Log.is) c.loop-slot.invariant.disks;
  books = returns_other book_of c.args.slots.items c.loop-slot.slots.items c.pop.new.self.items c.in-Some.slot c.unwrap.result c.loop-slot.books.items _
      c.in-Some.ensures.items c.unwrap.ensures (ap book_of c.in-Log.is) c.loop-slot.invariant.books;
  logs = returns_own log_of c.args.slots.items c.loop-slot.slots.items c.pop.new.self.items c.in-Some.slot c.unwrap.result c.in-Log.log c.loop-slot.logs.items c.push_reserved-in-Log.new.self.items _ _
      c.in-Some.ensures.items c.unwrap.ensures (ap log_of c.in-Log.is) c.push_reserved-in-Log.ensures.items c.push_reserved-in-Log.ensures.capacity c.loop-slot.invariant.logs;
  journal = one_other journal_of c.args.slots.items c.loop-slot.slots.items c.pop.new.self.items c.in-Some.slot c.unwrap.result c.loop-slot.journal
      c.in-Some.ensures.items c.unwrap.ensures (ap journal_of c.in-Log.is) c.loop-slot.invariant.journal;
}

pub loop-slot-preserved : goal.loop-slot-preserved
loop-slot-preserved g c = record {
  full = at_rest _ _ c.in-Some.slot c.in-Some.ensures.items c.loop-slot.invariant.full;
  disks = returns_other device_of c.args.slots.items c.loop-slot.slots.items c.pop.new.self.items c.in-Some.slot c.unwrap.result c.loop-slot.disks.items _
      c.in-Some.ensures.items c.unwrap.ensures (ap device_of c.in-Journal.is) c.loop-slot.invariant.disks;
  books = returns_other book_of c.args.slots.items c.loop-slot.slots.items c.pop.new.self.items c.in-Some.slot c.unwrap.result c.loop-slot.books.items _
      c.in-Some.ensures.items c.unwrap.ensures (ap book_of c.in-Journal.is) c.loop-slot.invariant.books;
  logs = returns_other log_of c.args.slots.items c.loop-slot.slots.items c.pop.new.self.items c.in-Some.slot c.unwrap.result c.loop-slot.logs.items _
      c.in-Some.ensures.items c.unwrap.ensures (ap log_of c.in-Journal.is) c.loop-slot.invariant.logs;
  journal = one_own journal_of c.args.slots.items c.loop-slot.slots.items c.pop.new.self.items c.in-Some.slot c.unwrap.result c.in-Journal.home _ c.loop-slot.journal
      c.in-Some.ensures.items c.unwrap.ensures (ap journal_of c.in-Journal.is)
      (sorted _ _ c.requires.slots.0 c.requires.slots.1.0 c.args.slots.items c.requires.slots.1.1).one c.loop-slot.invariant.journal;
}

pub unwrap-journal-requires : goal.unwrap-journal-requires
unwrap-journal-requires g c =
    let none : c.loop-slot.slots.len ≡ 0 = search rules in
    ap is_some (one_ended journal_of c.args.slots.items c.loop-slot.slots.items _ c.loop-slot.journal
    (no_items _ c.loop-slot.slots.len c.loop-slot.slots.ok.0 none)
    (sorted _ _ c.requires.slots.0 c.requires.slots.1.0 c.args.slots.items c.requires.slots.1.1).one c.loop-slot.invariant.journal)

-- the journal that came back is the one that was in the slots
the_one : (g : Over) (c : goal.After-of-since g) → picked journal_of c.args.slots.items ≡ Some c.unwrap-journal.result ∷ []
the_one g c =
    let none : c.loop-slot.slots.len ≡ 0 = search rules in
    one_came journal_of c.args.slots.items c.loop-slot.slots.items c.unwrap-journal.result c.loop-slot.journal
    (no_items _ c.loop-slot.slots.len c.loop-slot.slots.ok.0 none) c.unwrap-journal.ensures c.loop-slot.invariant.journal

pub invariant_of-result : goal.invariant_of-result
invariant_of-result g c =
    let none : c.loop-slot.slots.len ≡ 0 = search rules in
    let empty : c.loop-slot.slots.items ≡ [] = no_items _ c.loop-slot.slots.len c.loop-slot.slots.ok.0 none in (
      put_together _ (desk_state c.self.inside.begun.value c.reverse.new.self.items c.reverse-3.new.self.items c.of-last.result.value c.of-since.result.value.value.entries 0 (record { device = None; book = None; log = None; journal = false }) c.self.inside.device_turns) c.args.self c.requires.slots.0 c.requires.slots.1.0 c.args.slots.items c.reverse.new.self.items c.reverse-2.new.self.items c.reverse-3.new.self.items
          c.unwrap-journal.result c.requires.slots.1.1 (sorted _ _ c.requires.slots.0 c.requires.slots.1.0 c.args.slots.items c.requires.slots.1.1)
          c.self.view_is c.of-last.ensures (ap (λ s. s.value.entries) c.of-since.ensures ∙ ap (λ j. j.entries) c.of-last.ensures) refl
          (c.reverse.ensures.items ∙ returns_ended device_of c.args.slots.items _ c.loop-slot.disks.items _ empty c.loop-slot.invariant.disks)
          (c.reverse-2.ensures.items ∙ returns_ended book_of c.args.slots.items _ c.loop-slot.books.items _ empty c.loop-slot.invariant.books)
          (c.reverse-3.ensures.items ∙ returns_ended log_of c.args.slots.items _ c.loop-slot.logs.items _ empty c.loop-slot.invariant.logs)
          (the_one g c),
      c.self.invariant.3,
      c.self.invariant.4,
    )

pub returns : goal.returns
returns g c = record {
  desk = λ past under_way are.
      is_put_together _ _ c.args.self past under_way c.args.slots.items (sorted _ _ past under_way c.args.slots.items are) c.self.view_is
      (the_one g c ∙ ap (λ j. Some j ∷ []) (sym c.of-last.ensures)) refl refl;
}

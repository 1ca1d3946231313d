-- With nothing held every row is full; disks, books, logs and the journal follow one another in the slots.
use Rattle.std.proofs.Common.{◌≡◌, ◌+◌, Some, [], ◌∷◌, ◌++◌, length, map, subst, ap, ◌∙◌, arith}
use Rattle.std.specs.Option.{option_map}
use Rattle.cc_turns.specs.declared.slots.Place.TheVariants as place
use Rattle.cc_turns.specs.Desk.{tells_of}
use Rattle.cc_turns.specs.Slots.{AreInSlots, under_way_in}
use Rattle.cc_turns.proofs.RowSteps.{all_home}
use Rattle.cc_turns.proofs.SlotSteps.{device, book, log, moved_counted, desk_in_slots}
use Rattle.cc_turns.proofs.desk.Desk.into_slots.Goals as goal

pub disks_out-requires-clause-home : goal.disks_out-requires-clause-home
disks_out-requires-clause-home g c =
    all_home _ _ _ (ap (λ d. d.held.device) c.self.view_is ∙ ap (λ held. held.device) c.requires.free) c.self.invariant.0.disks_are

pub books_out-requires-clause-home : goal.books_out-requires-clause-home
books_out-requires-clause-home g c =
    all_home _ _ _ (ap (λ d. d.held.book) c.self.view_is ∙ ap (λ held. held.book) c.requires.free) c.self.invariant.0.books_are

pub logs_out-requires-clause-home : goal.logs_out-requires-clause-home
logs_out-requires-clause-home g c =
    all_home _ _ _ (ap (λ d. d.held.log) c.self.view_is ∙ ap (λ held. held.log) c.requires.free) c.self.invariant.0.logs_are

pub push_reserved-requires : goal.push_reserved-requires
push_reserved-requires g c =
    let counted : length c.logs_out.new.slots.items ≡ length c.self.inside.disks.items + length c.self.inside.books.items + length c.self.inside.logs.items =
    moved_counted device book log c.self.inside.disks.items c.self.inside.books.items c.self.inside.logs.items c.args.slots.items c.disks_out.new.slots.items c.books_out.new.slots.items c.logs_out.new.slots.items
    c.requires.slots.empty c.disks_out.ensures.moved c.books_out.ensures.moved c.logs_out.ensures.moved in
    omega (
      arith,
      counted,
      c.self.invariant.0.disks_are.counted,
      c.self.invariant.0.books_are.counted,
      c.self.invariant.0.logs_are.counted,
      ap (λ d. length d.begun.disks) c.self.view_is,
      ap (λ d. length d.begun.logs) c.self.view_is,
      c.requires.slots.room,
      c.disks_out.ensures.capacity,
      c.books_out.ensures.capacity,
      c.logs_out.ensures.capacity,
      c.logs_out.new.slots.ok.0,
    )

pub returns-clause-slots : goal.returns-clause-slots
returns-clause-slots g c =
    subst (λ d. AreInSlots (tells_of g.D.Told.told g.D.Told.faults g.L.LogFile.told g.L.LogFile.faults g.Q.PostRoutine.posted) d.begun d.last.entries (under_way_in d) c.push_reserved.new.self.items) c.self.view_is
    (desk_in_slots _ _ c.self.inside.disks.items c.self.inside.books.items c.self.inside.logs.items c.self.inside.journal c.unwrap.result c.push_reserved.new.self.items
    (ap (λ d. d.held) c.self.view_is ∙ c.requires.free) c.unwrap.ensures
    (c.push_reserved.ensures.items ∙ ap (λ xs. xs ++ Some (place.Journal c.unwrap.result) ∷ []) (c.logs_out.ensures.moved
    ∙ ap (λ xs. xs ++ map (option_map log) c.self.inside.logs.items) (c.books_out.ensures.moved
    ∙ ap (λ xs. xs ++ map (option_map book) c.self.inside.books.items) (c.disks_out.ensures.moved
    ∙ ap (λ xs. xs ++ map (option_map device) c.self.inside.disks.items) c.requires.slots.empty))))
    c.self.invariant.0)

-- As the disks and the books are taken in their order, each row so far has its own.
use Rattle.std.proofs.Common.{◌≡◌, ◌+◌, Some, [], ◌∷◌, ◌++◌, length, reverse, drop, suc, refl, sym, subst, ap, ◌∙◌, arith, rules}
use Rattle.std.specs.Prelude.{slice_get, option_to_list}
use Rattle.std.proofs.lemmas.List.{length-reverse}
use Rattle.cc_turns.proofs.RowSteps.{reverse_twice, next_left, longer, no_items}
use Rattle.cc_world.specs.World.{AreAt, IsNewRow}
use Rattle.cc_world.proofs.Emptying.{none-at, pushed-at}
use Rattle.cc_world.proofs.places.rows_of.Goals as goal

pub loop-disk-init : goal.loop-disk-init
loop-disk-init g c = record {
  rows = subst (λ n. AreAt n (IsNewRow c.args.disks.now.items) c.args.rows.items) (sym (ap length c.requires.room.empty)) (none-at (IsNewRow c.args.disks.now.items) c.args.rows.items c.requires.room.empty);
  left = ap reverse c.reverse.ensures.items ∙ reverse_twice c.args.disks.now.items ∙ ap (λ ps. drop (length ps) c.args.disks.now.items) (sym c.requires.room.empty);
  books = ap reverse c.reverse-2.ensures.items ∙ reverse_twice c.args.books.items ∙ ap (λ ps. drop (length ps) c.args.books.items) (sym c.requires.room.empty);
  paired = ap length c.reverse-2.ensures.items ∙ length-reverse c.args.books.items ∙ c.requires.books.counted ∙ sym (ap length c.reverse.ensures.items ∙ length-reverse c.args.disks.now.items);
  counted = omega (arith, ap length c.reverse.ensures.items ∙ length-reverse c.args.disks.now.items, ap length c.requires.room.empty);
  room = refl;
  capacity = c.reverse.ensures.capacity;
}

-- there is a book for each disk
pub unwrap-book-requires : goal.unwrap-book-requires
unwrap-book-requires g c = c.pop-in-Some.ensures.variant.1 (omega (arith, longer _ _ c.in-Some.disk c.in-Some.ensures.items, c.loop-disk.books.ok.0, c.loop-disk.invariant.paired))

pub push_reserved-requires : goal.push_reserved-requires
push_reserved-requires g c =
    omega (arith, longer _ _ c.in-Some.disk c.in-Some.ensures.items, c.loop-disk.rows.ok.0, c.loop-disk.invariant.counted, c.loop-disk.invariant.room, c.requires.room.room)

pub loop-disk-preserved : goal.loop-disk-preserved
loop-disk-preserved g c =
    let first : (slice_get c.args.disks.now.items (length c.loop-disk.rows.items) ≡ Some c.in-Some.disk) × (reverse c.pop.new.self.items ≡ drop (suc (length c.loop-disk.rows.items)) c.args.disks.now.items) =
    next_left c.args.disks.now.items c.loop-disk.disks.items c.pop.new.self.items (length c.loop-disk.rows.items) c.in-Some.disk
    c.in-Some.ensures.items c.loop-disk.invariant.left in
    let popped : c.loop-disk.books.items ≡ c.pop-in-Some.new.self.items ++ c.unwrap-book.result ∷ [] = c.pop-in-Some.ensures.items ∙ ap (λ o. c.pop-in-Some.new.self.items ++ option_to_list o) c.unwrap-book.ensures in
    let book : (slice_get c.args.books.items (length c.loop-disk.rows.items) ≡ Some c.unwrap-book.result) × (reverse c.pop-in-Some.new.self.items ≡ drop (suc (length c.loop-disk.rows.items)) c.args.books.items) =
    next_left c.args.books.items c.loop-disk.books.items c.pop-in-Some.new.self.items (length c.loop-disk.rows.items) c.unwrap-book.result popped c.loop-disk.invariant.books in
    let more : length c.push_reserved.new.self.items ≡ length c.loop-disk.rows.items + 1 = longer _ _ _ c.push_reserved.ensures.items in
    let next : length c.push_reserved.new.self.items ≡ suc (length c.loop-disk.rows.items) = omega (arith, more) in
    record {
      rows = rw c.push_reserved.ensures.items (pushed-at (length c.loop-disk.rows.items) _ c.loop-disk.rows.items _ (longer _ _ _ refl)
          (record {
            disk = first.0;
            book = c.requires.books.each (length c.loop-disk.rows.items) c.unwrap-book.result book.0;
            kept = refl;
          }) c.loop-disk.invariant.rows);
      left = subst (λ n. reverse c.pop.new.self.items ≡ drop n c.args.disks.now.items) (sym next) first.1;
      books = subst (λ n. reverse c.pop-in-Some.new.self.items ≡ drop n c.args.books.items) (sym next) book.1;
      paired = omega (arith, longer _ _ c.in-Some.disk c.in-Some.ensures.items, longer _ _ c.unwrap-book.result popped, c.loop-disk.invariant.paired);
      counted = omega (arith, longer _ _ c.in-Some.disk c.in-Some.ensures.items, more, c.loop-disk.invariant.counted);
      room = rw c.push_reserved.ensures.capacity c.loop-disk.invariant.room;
      capacity = c.pop.ensures.capacity ∙ c.loop-disk.invariant.capacity;
    }

pub loop-disk-smaller : goal.loop-disk-smaller
loop-disk-smaller g c = omega (arith, longer _ _ c.in-Some.disk c.in-Some.ensures.items)

pub returns-clause-rows : goal.returns-clause-rows
returns-clause-rows g c =
    let none : c.loop-disk.disks.len ≡ 0 = search rules in
    subst (λ n. AreAt n (IsNewRow c.args.disks.now.items) c.loop-disk.rows.items)
    (omega (arith, none, c.loop-disk.disks.ok.0, c.loop-disk.invariant.counted)) c.loop-disk.invariant.rows

pub returns-clause-emptied : goal.returns-clause-emptied
returns-clause-emptied g c =
    let none : c.pop.new.self.len ≡ 0 = search rules in
    record {
      empty = no_items _ c.pop.new.self.len c.pop.new.self.ok.0 none;
      room = omega (arith, c.args.disks.now.ok.0, c.args.disks.now.ok.1, c.pop.ensures.capacity, c.loop-disk.invariant.capacity);
    }

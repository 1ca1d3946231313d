-- With the disk held no page comes in or goes to it meanwhile; so what was read is what the page holds at the take.
use Rattle.std.specs.Prelude.{ℕ}
use Rattle.std.proofs.Common.{subst, ◌∙◌}
use Rattle.std.proofs.lemmas.Result.{on_ok_weaker}
use Rattle.cc_turns.specs.Standing.{Standing}
use Rattle.cc_turns.specs.Takes.{Takes, with_book, without_book}
use Rattle.cc_book.specs.Book.{BookStands}
use Rattle.cc_writes.proofs.Reading.{disk_given, opening_same, both_taken, found_for, may_tell, on_failed_weaker}
use Rattle.cc_writes.proofs.pages.read_free.Goals as goal

pub returns-clause-both : goal.returns-clause-both
returns-clause-both g c =
    let w = g.T.Turns.standing c.args.turns.now in
    let v = g.T.Turns.standing c.take_book-book.new.self in
    let s = c.args.book.stream in
    let took : Takes (with_book s) (without_book w) v =
    subst (λ (n : ℕ). Takes (with_book n) (without_book w) v) c.stream-stream.ensures
    (subst (λ (x : Standing). Takes (with_book c.stream-stream.result) x v) c.give_book.ensures c.take_book-book.ensures.took) in
    both_taken g.T.Disk.Told.told g.T.Disk.Told.faults w v s c.args.book c.args.disk.now c.requires.both took c.take_book-book.result c.read-answer.new.disk
    (c.take_book-book.ensures.stream ∙ c.stream-stream.ensures)
    (subst (λ (n : ℕ). BookStands (v.setup.opening n) v.seen c.take_book-book.result) c.stream-stream.ensures c.take_book-book.ensures.stands)
    (c.read-answer.ensures.kept (w.disks s) w.seen s c.requires.both.disk)

pub returns-clause-found : goal.returns-clause-found
returns-clause-found g c =
    let w = g.T.Turns.standing c.args.turns.now in
    let v = g.T.Turns.standing c.take_book-book.new.self in
    let s = c.args.book.stream in
    let took : Takes (with_book s) (without_book w) v =
    subst (λ (n : ℕ). Takes (with_book n) (without_book w) v) c.stream-stream.ensures
    (subst (λ (x : Standing). Takes (with_book c.stream-stream.result) x v) c.give_book.ensures c.take_book-book.ensures.took) in
    let told = g.T.Disk.Told.told in
    let faults = g.T.Disk.Told.faults in
    let disk = c.args.disk.now in
    on_ok_weaker c.read-answer.result
    (found_for told faults v s c.args.page disk c.read-answer.new.raw
    (disk_given told faults w v s c.args.book disk c.requires.both took disk c.requires.both.disk) took.good
    (opening_same told faults w v s c.args.book disk c.requires.both took))
    c.read-answer.ensures.found

pub returns-clause-failed : goal.returns-clause-failed
returns-clause-failed g c =
    let w = g.T.Turns.standing c.args.turns.now in
    let v = g.T.Turns.standing c.take_book-book.new.self in
    let s = c.args.book.stream in
    let took : Takes (with_book s) (without_book w) v =
    subst (λ (n : ℕ). Takes (with_book n) (without_book w) v) c.stream-stream.ensures
    (subst (λ (x : Standing). Takes (with_book c.stream-stream.result) x v) c.give_book.ensures c.take_book-book.ensures.took) in
    let told = g.T.Disk.Told.told in
    let faults = g.T.Disk.Told.faults in
    let disk = c.args.disk.now in
    on_failed_weaker c.read-answer.result
    (may_tell told faults v s c.args.page disk c.read-answer.new.disk
    (disk_given told faults w v s c.args.book disk c.requires.both took disk c.requires.both.disk))
    c.read-answer.ensures.failed

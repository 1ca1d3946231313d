-- The turns that are taken put the disk and the book in hand; what the write of the page left since, it left since
-- before they were taken.
use Rattle.std.specs.Prelude.{ℕ, List}
use Rattle.std.proofs.Common.{ap, sym, ◌∙◌, subst}
use Rattle.cc_entry.specs.declared.entry.Entry.{Entry}
use Rattle.cc_model.specs.Good.{IsGood}
use Rattle.cc_model.specs.Setup.{Setup}
use Rattle.cc_turns.specs.Standing.{Standing}
use Rattle.cc_turns.specs.Takes.{without_device}
use Rattle.cc_writes.specs.Fetch.{CanCall}
use Rattle.cc_writes.proofs.TakingBoth.{both_begun, setup_both}
use Rattle.cc_ranges.specs.Stores.{IsFullStoring}
use Rattle.cc_ranges.proofs.Callers.{went-both}
use Rattle.cc_ranges.proofs.WriteFull.{given-storing}
use Rattle.cc_ranges.proofs.WritePages.{page-since, tidy-both}
use Rattle.cc_ranges.proofs.writes.write_page.Goals as goal
use Rattle.cc_ranges.specs.ReadVisits.{file_page}

pub write_held-book-requires-clause-both : goal.write_held-book-requires-clause-both
write_held-book-requires-clause-both g c =
    both_begun (g.T.Turns.standing c.args.turns.now) (g.T.Turns.standing c.take_device-disk.new.self) (g.T.Turns.standing c.take_book-book.new.self)
    c.stream-stream.result (subst (λ (n : ℕ). CanCall (g.T.Turns.standing c.args.turns.now) n) (sym c.stream-stream.ensures) c.requires.can) c.take_device-disk.ensures.took c.take_book-book.ensures.took g.T.Disk.Told.told g.T.Disk.Told.faults
    c.take_book-book.result c.take_device-disk.result c.take_device-disk.ensures.opening c.take_device-disk.ensures.stands c.take_device-disk.ensures.at_rest
    c.take_book-book.ensures.stream c.take_book-book.ensures.stands

pub returns : goal.returns
returns g c =
    let w = g.T.Turns.standing c.args.turns.now in
    let v = g.T.Turns.standing c.take_device-disk.new.self in
    let x = g.T.Turns.standing c.take_book-book.new.self in
    let y = g.T.Turns.standing c.write_held-book.new.turns in
    let z = g.T.Turns.standing c.give_device.new.self in
    let s = c.stream-stream.result in
    let can = subst (λ (n : ℕ). CanCall w n) (sym c.stream-stream.ensures) c.requires.can in
    let answer = c.write_held-book.result.1 in
    let first = c.take_device-disk.ensures.took in
    let second = c.take_book-book.ensures.took in
    let went = c.write_held-book.ensures.went in
    let both = c.write_held-book.ensures.both in
    let given = c.give_device.ensures ∙ ap without_device c.give_book.ensures in
    record {
      ends = record {
        left = page-since w v x s can first second y z c.args.file c.args.page c.args.bytes.now answer given c.write_held-book.ensures.left;
        tidy = tidy-both w v x s can first second c.args.file (file_page c.args.file c.args.page) answer y.seen z.seen (ap (λ (a : Standing). a.seen) given) c.write_held-book.ensures.tidy;
        full = subst (λ (a : Standing). IsFullStoring c.args.file (file_page c.args.file c.args.page) a answer) (sym given)
            (given-storing c.args.file (file_page c.args.file c.args.page) y answer c.write_held-book.ensures.full);
        goes_on = went-both w v x y z s can.free first second went given;
        good = subst (λ (u : Setup). IsGood u z.seen) (ap (λ (a : Standing). a.setup) went.same ∙ setup_both w v x s can first second)
            (subst (λ (past : List Entry). IsGood y.setup past) (sym (ap (λ (a : Standing). a.seen) given)) both.book.good);
      };
    }

-- The turns that are taken put the disk and the book in hand; what the read of the page left since, it left since
-- before they were taken.
use Rattle.std.specs.Prelude.{ℕ, List}
use Rattle.std.proofs.Common.{ap, sym, ◌∙◌, subst}
use Rattle.cc_entry.specs.declared.call.Call.TheVariants as call
use Rattle.cc_entry.specs.declared.entry.Entry.{Entry}
use Rattle.cc_effects.proofs.Starts.{begins}
use Rattle.cc_model.specs.Good.{IsGood}
use Rattle.cc_model.specs.Setup.{Setup}
use Rattle.cc_turns.specs.Standing.{Standing}
use Rattle.cc_turns.specs.Takes.{without_device}
use Rattle.cc_writes.specs.Calls.{IsFullWriting}
use Rattle.cc_writes.specs.Fetch.{CanCall}
use Rattle.cc_writes.proofs.TakingBoth.{both_begun, left_since}
use Rattle.cc_ranges.specs.ReadVisits.{ReadEnded}
use Rattle.cc_writes.proofs.Fullness.{given-writing}
use Rattle.cc_ranges.proofs.ReadPages.{went-both, setup-both}
use Rattle.cc_ranges.proofs.reads.read_page.Goals as goal

pub read_held-book-requires-clause-both : goal.read_held-book-requires-clause-both
read_held-book-requires-clause-both g c =
    both_begun (g.T.Turns.standing c.args.turns.now) (g.T.Turns.standing c.take_device-disk.new.self) (g.T.Turns.standing c.take_book-book.new.self)
    c.stream-stream.result (subst (λ (n : ℕ). CanCall (g.T.Turns.standing c.args.turns.now) n) (sym c.stream-stream.ensures) c.requires.can) c.take_device-disk.ensures.took c.take_book-book.ensures.took g.T.Disk.Told.told g.T.Disk.Told.faults
    c.take_book-book.result c.take_device-disk.result c.take_device-disk.ensures.opening c.take_device-disk.ensures.stands c.take_device-disk.ensures.at_rest
    c.take_book-book.ensures.stream c.take_book-book.ensures.stands

pub returns : goal.returns
returns g c =
    let w = g.T.Turns.standing c.args.turns.now in
    let v = g.T.Turns.standing c.take_device-disk.new.self in
    let x = g.T.Turns.standing c.take_book-book.new.self in
    let y = g.T.Turns.standing c.read_held-book.new.turns in
    let z = g.T.Turns.standing c.give_device.new.self in
    let s = c.stream-stream.result in
    let can = subst (λ (n : ℕ). CanCall w n) (sym c.stream-stream.ensures) c.requires.can in
    let it = call.NcRead c.args.file c.args.page in
    let answer = c.read_held-book.result.1 in
    let first = c.take_device-disk.ensures.took in
    let second = c.take_book-book.ensures.took in
    let went = c.read_held-book.ensures.went in
    let both = c.read_held-book.ensures.both in
    let given = c.give_device.ensures ∙ ap without_device c.give_book.ensures in
    record {
      ends = record {
        ended = left_since w v x s can first second (λ u me begun past. ReadEnded u me c.args.file c.args.page answer begun past c.args.out.now c.read_held-book.new.out) y z it given
            c.read_held-book.ensures.left w.seen (begins w.number it w.seen);
        full = subst (λ (a : Standing). IsFullWriting it a answer) (sym given) (given-writing it y answer c.read_held-book.ensures.full);
        goes_on = went-both w v x y z s can.free first second went given;
        good = subst (λ (u : Setup). IsGood u z.seen) (setup-both w v x y s first second went)
            (subst (λ (past : List Entry). IsGood y.setup past) (sym (ap (λ (a : Standing). a.seen) given)) both.book.good);
      };
    }

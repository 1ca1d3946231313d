-- The page is written with disk and book of its stream at rest; what was left holds still after both turns are given.
use Rattle.std.specs.Prelude.{ℕ, List}
use Rattle.std.proofs.Common.{ap, sym, ◌∙◌, subst}
use Rattle.cc_entry.specs.declared.entry.Entry.{Entry}
use Rattle.cc_model.specs.Good.{IsGood}
use Rattle.cc_model.specs.Setup.{Setup}
use Rattle.cc_turns.specs.Standing.{Standing}
use Rattle.cc_turns.specs.Takes.{without_device}
use Rattle.cc_writes.specs.Fetch.{CanCall}
use Rattle.cc_writes.specs.Writes.{HasBoth}
use Rattle.cc_writes.proofs.TakingBoth.{both_begun, idle, number_both}
use Rattle.cc_calls.specs.PageWrites.{IsFullPage, IsWrittenAmong}
use Rattle.cc_calls.proofs.FlushCalls.{setup-both, went-both}
use Rattle.cc_calls.proofs.OnePage.{full-given, written-since}
use Rattle.cc_calls.proofs.page_writes.write_picked.Goals as goal

pub write_held-book-requires-clause-both : goal.write_held-book-requires-clause-both
write_held-book-requires-clause-both g c =
    subst (λ (n : ℕ). HasBoth g.T.Disk.Told.told g.T.Disk.Told.faults (g.T.Turns.standing c.take_book-book.new.self) n c.take_book-book.result c.take_device-disk.result)
    (c.take_book-book.ensures.stream ∙ c.stream-stream.ensures)
    (both_begun (g.T.Turns.standing c.args.turns.now) (g.T.Turns.standing c.take_device-disk.new.self) (g.T.Turns.standing c.take_book-book.new.self)
    c.stream-stream.result (subst (λ (n : ℕ). CanCall (g.T.Turns.standing c.args.turns.now) n) (sym c.stream-stream.ensures) c.requires.can) c.take_device-disk.ensures.took c.take_book-book.ensures.took g.T.Disk.Told.told g.T.Disk.Told.faults
    c.take_book-book.result c.take_device-disk.result c.take_device-disk.ensures.opening c.take_device-disk.ensures.stands c.take_device-disk.ensures.at_rest
    c.take_book-book.ensures.stream c.take_book-book.ensures.stands)

pub returns : goal.returns
returns g c =
    let w = g.T.Turns.standing c.args.turns.now in
    let v = g.T.Turns.standing c.take_device-disk.new.self in
    let x = g.T.Turns.standing c.take_book-book.new.self in
    let y = g.T.Turns.standing c.write_held-book.new.turns in
    let z = g.T.Turns.standing c.give_device.new.self in
    let s = c.stream-stream.result in
    let can = subst (λ (n : ℕ). CanCall w n) (sym c.stream-stream.ensures) c.requires.can in
    let page = c.args.page in
    let answer = c.write_held-book.result.1 in
    let first = c.take_device-disk.ensures.took in
    let second = c.take_book-book.ensures.took in
    let went = c.write_held-book.ensures.went in
    let both = c.write_held-book.ensures.both in
    let given = c.give_device.ensures ∙ ap without_device c.give_book.ensures in
    record {
      left =
          subst (λ (past : List Entry). IsWrittenAmong w.number page answer w.seen past) (sym (ap (λ (a : Standing). a.seen) given))
          (written-since w.number page answer w.seen x.seen y.seen (idle w v x s can first second)
          (subst (λ (n : ℕ). IsWrittenAmong n page answer x.seen y.seen) (number_both w v x s can first second) c.write_held-book.ensures.left));
      full = subst (λ (a : Standing). IsFullPage page a answer) (sym given) (full-given page y answer c.write_held-book.ensures.full);
      goes_on = went-both w v x y z s can.free first second went given;
      good =
          subst (λ (u : Setup). IsGood u z.seen) (setup-both w v x y s first second went)
          (subst (λ (past : List Entry). IsGood y.setup past) (sym (ap (λ (a : Standing). a.seen) given)) both.book.good);
    }

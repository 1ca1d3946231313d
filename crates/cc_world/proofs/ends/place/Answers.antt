-- The places are reserved that the call asks, and released where there is no memory for it.
use Rattle.cc_world.proofs.CallLeft.{placed-left, replied-reserving, unplaced, wanting-left}
use Rattle.cc_world.proofs.ends.place.Goals as goal

pub done-requires : goal.done-requires
done-requires g c =
    let u = c.requires.replied.0 in
    let replied = c.requires.replied.1 in
    record {
      replied = (
        u,
        replied-reserving u c.args.pass c.asked-asked.result c.args.call c.args.reply c.args.book.now c.args.journal.now replied
            (c.asked-asked.ensures (u.opening c.args.book.now.stream) c.args.journal.now.entries replied.unrefused.made.stands.stand.stands)
            c.reserve.new.self c.in-Ok.ensures.reserved,
      );
    }

pub returns-in-Ok-done : goal.returns-in-Ok-done
returns-in-Ok-done g c u replied =
    let asks = c.asked-asked.ensures (u.opening c.args.book.now.stream) c.args.journal.now.entries replied.unrefused.made.stands.stand.stands in
    placed-left u c.args.pass c.asked-asked.result c.args.call c.args.reply c.args.book.now c.args.journal.now replied asks
    c.reserve.new.self c.in-Ok.ensures.reserved _ _ _ c.done.new.book c.done.new.journal c.in-Ok.ensures.full.1
    (c.in-Ok-done.ensures.placed u
    (replied-reserving u c.args.pass c.asked-asked.result c.args.call c.args.reply c.args.book.now c.args.journal.now replied asks c.reserve.new.self c.in-Ok.ensures.reserved))

pub returns-in-Err-done : goal.returns-in-Err-done
returns-in-Err-done g c u replied =
    let asks = c.asked-asked.ensures (u.opening c.args.book.now.stream) c.args.journal.now.entries replied.unrefused.made.stands.stand.stands in
    wanting-left u c.args.pass c.asked-asked.result c.args.call c.args.reply c.args.book.now c.args.journal.now replied asks
    c.reserve.new.self c.in-Ok.ensures.reserved c.done.new.book c.done.new.journal c.release.new.self c.in-Err-done.ensures.err c.release.ensures

pub returns-in-Err : goal.returns-in-Err
returns-in-Err g c u replied =
    unplaced u c.args.pass c.asked-asked.result c.args.call c.args.reply c.args.book.now c.args.journal.now replied
    (c.asked-asked.ensures (u.opening c.args.book.now.stream) c.args.journal.now.entries replied.unrefused.made.stands.stand.stands)
    c.in-Err.error c.reserve.new.self c.in-Err.ensures.causes c.in-Err.ensures.full c.in-Err.ensures.err

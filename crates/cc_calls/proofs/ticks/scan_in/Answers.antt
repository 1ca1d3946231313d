-- The pick is that of the past, so its entry may stand; where memory is wanting the place is given back.
use Rattle.std.specs.Prelude.{refl}
use Rattle.std.proofs.Common.{inr}
use Rattle.cc_calls.proofs.Scanning.{may-scan, scanned-in}
use Rattle.cc_calls.proofs.Streamless.{given-back}
use Rattle.cc_calls.proofs.ticks.scan_in.Goals as goal

pub push-requires-clause-may : goal.push-requires-clause-may
push-requires-clause-may g c =
    may-scan c.requires.good.0 c.args.pass c.args.streams c.in-Ok-picked_twice.picked c.in-Ok-picked_twice.told c.args.journal.now c.reserve.new.self c.requires.good.1 c.requires.good.2
    c.in-Ok.ensures.reserved c.in-Ok-picked_twice.ensures

pub returns-in-Ok-picked_twice : goal.returns-in-Ok-picked_twice
returns-in-Ok-picked_twice g c =
    scanned-in c.requires.good.0 c.args.pass c.args.streams c.in-Ok-picked_twice.picked c.in-Ok-picked_twice.told c.args.journal.now c.reserve.new.self c.requires.good.1 c.requires.good.2
    c.in-Ok.ensures.reserved c.in-Ok-picked_twice.ensures c.push.new.self c.push.ensures.placed

pub returns-in-Err-picked_twice : goal.returns-in-Err-picked_twice
returns-in-Err-picked_twice g c = (inr refl, given-back c.args.journal.now c.reserve.new.self c.release.new.self c.in-Ok.ensures.reserved c.release.ensures)

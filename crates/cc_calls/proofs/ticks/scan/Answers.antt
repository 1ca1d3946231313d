-- One visit, which placed the scan or nothing.
use Rattle.std.proofs.Common.{arith}
use Rattle.cc_writes.proofs.Visiting.{few-left}
use Rattle.cc_calls.proofs.Scanning.{gives-scan, scan-full, scan-goes, scan-good, scan-left, scan-stays}
use Rattle.cc_calls.proofs.ticks.scan.Goals as goal

pub scan_in-picked-requires : goal.scan_in-picked-requires
scan_in-picked-requires g c = record {
  good =
      scan-good g.T.Post.PostRoutine.posted (g.T.Turns.standing c.args.turns.now) (g.T.Turns.standing c.take_journal-journal.new.self) c.take_journal-journal.result c.take_journal-journal.result
      c.requires.can c.take_journal-journal.ensures.took c.take_journal-journal.ensures.stands c.me-pass.result c.streams-streams.result c.me-pass.ensures c.streams-streams.ensures;
}

pub give_journal-requires-clause-adds : goal.give_journal-requires-clause-adds
give_journal-requires-clause-adds g c =
    (gives-scan g.T.Post.PostRoutine.posted (g.T.Turns.standing c.args.turns.now) (g.T.Turns.standing c.take_journal-journal.new.self) c.take_journal-journal.result c.scan_in-picked.new.journal
    c.requires.can c.take_journal-journal.ensures.took c.take_journal-journal.ensures.stands c.me-pass.result c.streams-streams.result c.me-pass.ensures c.streams-streams.ensures
    c.scan_in-picked.result c.scan_in-picked.ensures).adds

pub give_journal-requires-clause-stands : goal.give_journal-requires-clause-stands
give_journal-requires-clause-stands g c =
    (gives-scan g.T.Post.PostRoutine.posted (g.T.Turns.standing c.args.turns.now) (g.T.Turns.standing c.take_journal-journal.new.self) c.take_journal-journal.result c.scan_in-picked.new.journal
    c.requires.can c.take_journal-journal.ensures.took c.take_journal-journal.ensures.stands c.me-pass.result c.streams-streams.result c.me-pass.ensures c.streams-streams.ensures
    c.scan_in-picked.result c.scan_in-picked.ensures).journal

pub give_journal-requires-clause-few : goal.give_journal-requires-clause-few
give_journal-requires-clause-few g c =
    few-left (g.T.Turns.standing c.args.turns.now).in_flight
    (gives-scan g.T.Post.PostRoutine.posted (g.T.Turns.standing c.args.turns.now) (g.T.Turns.standing c.take_journal-journal.new.self) c.take_journal-journal.result c.scan_in-picked.new.journal
    c.requires.can c.take_journal-journal.ensures.took c.take_journal-journal.ensures.stands c.me-pass.result c.streams-streams.result c.me-pass.ensures c.streams-streams.ensures
    c.scan_in-picked.result c.scan_in-picked.ensures).went
    (omega (arith, c.requires.can.none))

pub returns : goal.returns
returns g c =
    let posted = g.T.Post.PostRoutine.posted in
    let w = g.T.Turns.standing c.args.turns.now in
    let v = g.T.Turns.standing c.take_journal-journal.new.self in
    let z = g.T.Turns.standing c.give_journal.new.self in
    let j = c.take_journal-journal.result in
    let k = c.scan_in-picked.new.journal in
    let took = c.take_journal-journal.ensures.took in
    let stands = c.take_journal-journal.ensures.stands in
    record {
      went = scan-goes posted w v j k c.requires.can took stands c.me-pass.result c.streams-streams.result c.me-pass.ensures c.streams-streams.ensures c.scan_in-picked.result c.scan_in-picked.ensures z c.give_journal.ensures;
      good = scan-stays posted w v j k c.requires.can took stands c.me-pass.result c.streams-streams.result c.me-pass.ensures c.streams-streams.ensures c.scan_in-picked.result c.scan_in-picked.ensures z c.give_journal.ensures;
      left = scan-left posted w v j k c.requires.can took stands c.me-pass.result c.streams-streams.result c.me-pass.ensures c.streams-streams.ensures c.scan_in-picked.result c.scan_in-picked.ensures z c.give_journal.ensures;
      full = scan-full posted w v j k c.requires.can took stands c.me-pass.result c.streams-streams.result c.me-pass.ensures c.streams-streams.ensures c.scan_in-picked.result c.scan_in-picked.ensures z c.give_journal.ensures;
    }

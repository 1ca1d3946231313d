-- A call that waits is handed on as it was; what one turn left, or both with the disk's, is the end of a paged call.
use Rattle.std.specs.Prelude.{[]}
use Rattle.cc_effects.proofs.Starts.{begins}
use Rattle.cc_writes.proofs.Fullness.{full-named}
use Rattle.cc_calls.proofs.Paging.{has-waited, in-turn, with-disk}
use Rattle.cc_calls.proofs.Waiting.{brings, stepped}
use Rattle.cc_calls.proofs.turned.call_paged.Goals as goal

pub fetch-requires-clause-stepped : goal.fetch-requires-clause-stepped
fetch-requires-clause-stepped g c =
    let w = g.T.Turns.standing c.args.turns.now in
    let v = g.T.Turns.standing c.turned.new.turns in
    let has = has-waited w v c.args.stream _ c.args.call c.in-GoesOn.call c.args.out.now c.turned.new.out c.turned.result c.in-GoesOn.is c.turned.ensures.left in
    rw has.call_is (stepped c.args.call c.requires.paged)

pub fetch-requires-clause-brings : goal.fetch-requires-clause-brings
fetch-requires-clause-brings g c =
    let w = g.T.Turns.standing c.args.turns.now in
    let v = g.T.Turns.standing c.turned.new.turns in
    let has = has-waited w v c.args.stream _ c.args.call c.in-GoesOn.call c.args.out.now c.turned.new.out c.turned.result c.in-GoesOn.is c.turned.ensures.left in
    rw has.call_is (brings w.setup c.args.call c.args.stream _ v.seen c.requires.paged has.waits)

pub fetch-requires-clause-filed : goal.fetch-requires-clause-filed
fetch-requires-clause-filed g c =
    let w = g.T.Turns.standing c.args.turns.now in
    let v = g.T.Turns.standing c.turned.new.turns in
    let has = has-waited w v c.args.stream _ c.args.call c.in-GoesOn.call c.args.out.now c.turned.new.out c.turned.result c.in-GoesOn.is c.turned.ensures.left in
    rw has.call_is c.requires.filed

pub fetch-requires-clause-fits : goal.fetch-requires-clause-fits
fetch-requires-clause-fits g c =
    let w = g.T.Turns.standing c.args.turns.now in
    let v = g.T.Turns.standing c.turned.new.turns in
    let has = has-waited w v c.args.stream _ c.args.call c.in-GoesOn.call c.args.out.now c.turned.new.out c.turned.result c.in-GoesOn.is c.turned.ensures.left in
    rw (has.call_is, has.same) c.requires.fits

pub returns-in-Ended : goal.returns-in-Ended
returns-in-Ended g c =
    let w = g.T.Turns.standing c.args.turns.now in
    in-turn w (g.T.Turns.standing c.turned.new.turns) c.args.call c.in-Ended.answer c.args.out.now c.turned.new.out
    c.turned.ensures.went c.turned.ensures.good
    (full-named [] w.number c.args.stream c.args.call (g.T.Turns.standing c.turned.new.turns) c.in-Ended.answer (c.requires.filed [] w.number) (rw c.in-Ended.is at c.turned.ensures.full))
    (rw c.in-Ended.is at (c.turned.ensures.left w.seen (begins w.number c.args.call w.seen)))

pub returns-in-GoesOn : goal.returns-in-GoesOn
returns-in-GoesOn g c =
    let w = g.T.Turns.standing c.args.turns.now in
    let v = g.T.Turns.standing c.turned.new.turns in
    let has = has-waited w v c.args.stream _ c.args.call c.in-GoesOn.call c.args.out.now c.turned.new.out c.turned.result c.in-GoesOn.is c.turned.ensures.left in
    with-disk w v (g.T.Turns.standing c.fetch.new.turns) c.args.stream _ c.args.call c.in-GoesOn.call c.fetch.result
    c.args.out.now c.turned.new.out c.fetch.new.out c.requires.paged c.requires.filed c.turned.ensures.went has
    c.fetch.ensures.goes_on c.fetch.ensures.good c.fetch.ensures.full c.fetch.ensures.left

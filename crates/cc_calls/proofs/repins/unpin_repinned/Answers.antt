-- The hold ends below the size, so its range is a span; with write through, what the flush left follows the end.
use Rattle.cc_calls.proofs.Through.{ends-below, unpinned-alone, unpinned-through}
use Rattle.cc_calls.proofs.repins.unpin_repinned.Goals as goal
use Rattle.cc_entry.specs.Kinds.{is_repin}

pub span_of-requires : goal.span_of-requires
span_of-requires g c =
    let w = g.T.Turns.standing c.args.turns.now in
    let v = g.T.Turns.standing c.end_hold.new.turns in
    record {
      below = ends-below w v is_repin c.hold.inside.held (rw (← c.hold.view_is) at c.requires.holding) c.end_hold.ensures.ends;
    }

pub returns-then-write_through : goal.returns-then-write_through
returns-then-write_through g c =
    let w = g.T.Turns.standing c.args.turns.now in
    let v = g.T.Turns.standing c.end_hold.new.turns in
    record {
      ends =
          rw (c.if-write_through.true, ← c.hold.view_is)
          (unpinned-through w v is_repin c.hold.inside.held (rw (← c.hold.view_is) at c.requires.holding) c.end_hold.ensures.ends
          (g.T.Turns.standing c.flush.new.turns) c.span_of.result c.flush.result c.span_of.ensures c.flush.ensures.ends);
    }

pub returns-else-write_through : goal.returns-else-write_through
returns-else-write_through g c =
    let w = g.T.Turns.standing c.args.turns.now in
    let v = g.T.Turns.standing c.end_hold.new.turns in
    record { ends = rw (c.if-write_through.false, ← c.hold.view_is) (unpinned-alone w v c.hold.inside.held c.end_hold.ensures.ends) }

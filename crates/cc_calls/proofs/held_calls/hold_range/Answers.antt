use Rattle.std.specs.Prelude.{true}
use Rattle.cc_calls.proofs.Making.{made-ends, made-id}
use Rattle.cc_calls.proofs.held_calls.hold_range.Goals as goal

pub unreachable-requires : goal.unreachable-requires
unreachable-requires g c =
    let w = g.T.Turns.standing c.args.turns.now in
    let v = g.T.Turns.standing c.call_paged.new.turns in
    let told = made-id w v (λ kind. true) c.args.file c.args.at c.args.len c.args.call _ _ c.requires.makes c.in-Ok.told (rw c.in-Ok.is at c.call_paged.ensures) in
    c.in_default.not-Hold told.0 told.1.0

pub returns-in-Hold : goal.returns-in-Hold
returns-in-Hold g c =
    let w = g.T.Turns.standing c.args.turns.now in
    let v = g.T.Turns.standing c.call_paged.new.turns in
    record {
      ends = λ of_kind of.
          made-ends w v of_kind c.args.file c.args.at c.args.len c.args.call _ _ c.requires.makes c.in-Hold.id of
          (rw (c.in-Ok.is, c.in-Hold.is) at c.call_paged.ensures);
    }

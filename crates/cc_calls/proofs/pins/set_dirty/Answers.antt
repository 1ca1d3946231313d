use Rattle.cc_entry.specs.Kinds.{is_pin}
use Rattle.cc_calls.proofs.Sure.{owed-asks}
use Rattle.cc_calls.proofs.pins.set_dirty.Goals as goal

pub returns : goal.returns
returns g c =
    let w = g.T.Turns.standing c.args.turns.now in
    record {
      ends =
          rw (← c.hold.view_is)
          (record {
            use_ends = c.write_hold.ensures.ends is_pin (rw (← c.hold.view_is) at c.requires.holding);
            sure = λ owes. c.write_hold.ensures.sure (owed-asks w c.hold.inside.held c.args.lsn owes);
          });
    }

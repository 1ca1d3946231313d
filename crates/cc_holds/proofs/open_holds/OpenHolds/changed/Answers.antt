-- By kinds of call: a pin of a map, a write, a stamp and an end change the row of their hold; others leave the rows.
use Rattle.std.proofs.Common.{refl, sym}
use Rattle.std.proofs.lemmas.Result.{on_ok_weaker}
use Rattle.cc_holds.proofs.RowsMade.{changes-none, stands-unmade}
use Rattle.cc_holds.proofs.open_holds.OpenHolds.changed.Goals as goal

pub written-requires : goal.written-requires
written-requires c =
    let ends = rw c.in-PinnedWrite.is at c.requires in
    rw c.len.ensures ends

pub returns-in-PinMapped-clause-stands : goal.returns-in-PinMapped-clause-stands
returns-in-PinMapped-clause-stands c h pass reply stands none = rw c.in-PinMapped.is (c.pin.ensures.stands h pass reply stands)

pub returns-in-PinnedWrite-clause-stands : goal.returns-in-PinnedWrite-clause-stands
returns-in-PinnedWrite-clause-stands c =
    on_ok_weaker c.written.result
    (λ given h pass reply stands none. rw c.in-PinnedWrite.is (given h pass c.in-PinnedWrite.bytes reply stands (sym c.len.ensures)))
    c.written.ensures.stands

pub returns-in-SetDirty-clause-stands : goal.returns-in-SetDirty-clause-stands
returns-in-SetDirty-clause-stands c h pass reply stands none = rw c.in-SetDirty.is (c.stamp.ensures.stands h pass c.in-SetDirty.lsn reply stands)

pub returns-in-EndHold-clause-stands : goal.returns-in-EndHold-clause-stands
returns-in-EndHold-clause-stands c h pass reply stands none = rw c.in-EndHold.is (c.end.ensures.stands h pass reply stands)

pub returns-in_default : goal.returns-in_default
returns-in_default c =
    let none_changed = changes-none c.args.call.now c.in_default.not-PinMapped c.in_default.not-PinnedWrite c.in_default.not-SetDirty c.in_default.not-EndHold in
    record {
      stands = λ h pass reply stands none. stands-unmade c.args.call.now h pass reply c.args.self.now none_changed stands none;
      refused = tt;
      sure = λ sure. refl;
    }

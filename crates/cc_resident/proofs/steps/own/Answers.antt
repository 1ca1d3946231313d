use Rattle.std.proofs.Common.{◌%◌, sym}
use Rattle.cc_resident.proofs.Shares.{SameBytes-reframed, SharesOnly-reframed, StaysOwned-reframed, shared_reframed, owned_if, still_owned, frame_unmapped, not_shared}
use Rattle.cc_resident.proofs.steps.own.Goals as goal

pub returns-in-Some-clause-owned : goal.returns-in-Some-clause-owned
returns-in-Some-clause-owned c =
    owned_if c.own_in.result _ _ (shared_reframed c.args.views.now c.args.page c.in-Some.frames.now c.own_in.new.frames (sym c.in-Some.ensures.frames) c.own_in.ensures.others) c.own_in.ensures.owned

pub returns-in-Some-clause-bytes : goal.returns-in-Some-clause-bytes
returns-in-Some-clause-bytes c = SameBytes-reframed c.args.views.now c.args.page c.in-Some.frames.now c.own_in.new.frames (sym c.in-Some.ensures.frames) c.own_in.ensures.others c.own_in.ensures.bytes

pub returns-in-Some-clause-stays : goal.returns-in-Some-clause-stays
returns-in-Some-clause-stays c =
    StaysOwned-reframed c.args.views.now c.args.page c.in-Some.frames.now c.own_in.new.frames (sym c.in-Some.ensures.frames) c.own_in.ensures.others
    (still_owned c.own_in.result c.in-Some.frames.now c.own_in.new.frames (c.args.page % 64) c.own_in.ensures.owned c.own_in.ensures.err)

pub returns-in-Some-clause-only : goal.returns-in-Some-clause-only
returns-in-Some-clause-only c = SharesOnly-reframed c.args.views.now c.args.page c.in-Some.frames.now c.own_in.new.frames (sym c.in-Some.ensures.frames) c.own_in.ensures.others

pub returns-in-None-clause-owned : goal.returns-in-None-clause-owned
returns-in-None-clause-owned c = not_shared c.args.views.now c.args.page (frame_unmapped c.args.views.now c.args.page (sym c.in-None.ensures.frames))

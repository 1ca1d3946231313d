use Rattle.std.proofs.Common.{ap, arith}
use Rattle.cc_model.specs.Acts.{act_of}
use Rattle.cc_content.proofs.DoneCalls.{fits-written, fits-zeroed}
use Rattle.cc_content.proofs.OwnedStand.{zeroes-prepared}
use Rattle.cc_content.proofs.contents.Contents.own.Goals as goal

pub overflow_add-at : goal.overflow_add-at
overflow_add-at c = omega (arith, c.len.ensures, fits-written c.requires.may.following.may (ap act_of c.in-CopyWrite.is))

pub overflow_add-at-in-PinnedWrite : goal.overflow_add-at-in-PinnedWrite
overflow_add-at-in-PinnedWrite c = omega (arith, c.len-in-PinnedWrite.ensures, fits-written c.requires.may.following.may (ap act_of c.in-PinnedWrite.is))

pub overflow_add-at-in-MdlStore : goal.overflow_add-at-in-MdlStore
overflow_add-at-in-MdlStore c = omega (arith, c.len-in-MdlStore.ensures, fits-written c.requires.may.following.may (ap act_of c.in-MdlStore.is))

pub overflow_add-at-then-zero : goal.overflow_add-at-then-zero
overflow_add-at-then-zero c =
    let w = c.in-PreparePin in
    omega (arith, fits-zeroed c.requires.may.following.may (zeroes-prepared c.args.call.now w.file w.at w.len w.zero w.exclusive w.is c.if-zero.true))

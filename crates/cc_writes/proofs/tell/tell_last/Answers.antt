-- The last entry of the journal is the reply's, so what is told is told of it; without a reply nothing is.
use Rattle.std.proofs.Common.{sym}
use Rattle.cc_writes.proofs.Telling.{replied-last, told-last, told-nothing, told-empty}
use Rattle.cc_writes.proofs.tell.tell_last.Goals as goal

pub told-requires : goal.told-requires
told-requires g c = record {
  fits =
      c.requires.fits c.in-Some-reply_of.reply.now
      (replied-last c.args.journal.now.entries c.in-Some.entry.now c.in-Some-reply_of.reply.now (sym c.in-Some.ensures) (sym c.in-Some-reply_of.ensures));
}

pub returns-in-Some-reply_of : goal.returns-in-Some-reply_of
returns-in-Some-reply_of g c =
    told-last c.args.journal.now.entries c.in-Some.entry.now c.in-Some-reply_of.reply.now c.told.result c.args.out.now c.told.new.out
    (sym c.in-Some.ensures) (sym c.in-Some-reply_of.ensures) c.told.ensures

pub returns-in-None-reply_of : goal.returns-in-None-reply_of
returns-in-None-reply_of g c =
    told-nothing c.args.journal.now.entries c.in-Some.entry.now _ c.args.out.now c.args.out.now
    (sym c.in-Some.ensures) (sym c.in-None-reply_of.ensures)

pub returns-in-None : goal.returns-in-None
returns-in-None g c =
    told-empty c.args.journal.now.entries _ c.args.out.now c.args.out.now (sym c.in-None.ensures)

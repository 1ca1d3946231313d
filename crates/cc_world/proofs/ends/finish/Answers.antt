use Rattle.std.proofs.Common.{sym, subst}
use Rattle.cc_entry.specs.declared.reply.Reply.{Reply}
use Rattle.cc_world.specs.Calls.{CallEventLeft}
use Rattle.cc_effects.specs.declared.events.StepReply.TheVariants as step
use Rattle.cc_world.proofs.CallLeft.{finished, unfinished}
use Rattle.cc_world.proofs.ends.finish.Goals as goal

pub returns-in-Ok-place : goal.returns-in-Ok-place
returns-in-Ok-place g c u replied =
    let left = c.place.ensures u replied in
    subst (λ (r : Reply). CallEventLeft u c.args.pass c.args.call (step.Done r) c.args.book.now c.place.new.book c.args.journal.now c.place.new.journal) (sym c.in-Ok.ensures)
    (finished u c.args.pass c.args.call c.args.reply c.args.book.now c.place.new.book c.args.journal.now c.place.new.journal replied _ (rw c.in-Ok-place.is at left))

pub returns-in-Err-place : goal.returns-in-Err-place
returns-in-Err-place g c u replied =
    let left = c.place.ensures u replied in
    unfinished u c.args.pass c.args.call c.args.reply c.args.book.now c.place.new.book c.args.journal.now c.place.new.journal replied c.in-Err-place.error (rw c.in-Err-place.is at left)

-- By kinds of query: the state is that of the book.
use Rattle.std.proofs.Common.{ap}
use Rattle.cc_entry.specs.declared.place.FileState.{FileState}
use Rattle.cc_entry.specs.declared.query.Value.TheVariants as value
use Rattle.cc_entry.specs.declared.reply.Reply.TheVariants as reply
use Rattle.cc_step.proofs.replies.reply_to.Goals as goal

pub returns-in-State : goal.returns-in-State
returns-in-State g c u pass stand filed ready =
    rw c.in-State.is
    (ap (λ (state : FileState). reply.Value (value.State state)) (c.state_of.ensures (u.opening c.args.book.now.stream) c.args.journal.now.entries stand.stands))

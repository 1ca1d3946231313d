use Rattle.cc_calls.proofs.Asking.{never-told}
use Rattle.cc_calls.proofs.queries.reply_told.Goals as goal

pub unreachable-requires : goal.unreachable-requires
unreachable-requires c = never-told c.args.told c.requires.0 c.requires.1 c.in_default.not-Value

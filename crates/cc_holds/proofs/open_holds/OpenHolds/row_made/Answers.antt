use Rattle.std.proofs.Common.{◌∙◌}
use Rattle.cc_holds.proofs.RowsMade.{repin-makes, row_named-none}
use Rattle.cc_holds.proofs.open_holds.OpenHolds.row_made.Goals as goal

pub returns-in-Repin-clause-none : goal.returns-in-Repin-clause-none
returns-in-Repin-clause-none c none = absurd (repin-makes c.args.call.now c.in-Repin.hold c.in-Repin.is none)

pub returns-in_default-clause-none : goal.returns-in_default-clause-none
returns-in_default-clause-none c none = c.row_named.ensures ∙ row_named-none c.args.call.now c.args.id none

use Rattle.std.proofs.Common.{◌-◌}
use Rattle.cc_vacb.proofs.roots.+raise.Given as goal

abbrev pub decreases-raise : goal.decreases-raise
decreases-raise l = l.to - l.top

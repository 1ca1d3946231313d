use Rattle.cc_laws.proofs.DirtyPages.{IsWithinLimits-good}
use Rattle.cc_laws.proofs.limits.cache_is_within_limits.Goals as goal

pub returns : goal.returns
returns c = IsWithinLimits-good

use Rattle.cc_laws.proofs.DirtyPages.{IsWithinLimits-good}
use Rattle.cc_laws.proofs.limits.dirty_pages_are_within_the_cache.Goals as goal

pub returns : goal.returns
returns c u past good = (IsWithinLimits-good u past good).dirty

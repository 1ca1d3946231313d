use Rattle.std.proofs.Common.{refl}
use Rattle.cc_traits.specs.Disk.{blank_page}
use Rattle.cc_memdev.proofs.content.blank.Goals as goal

pub returns : goal.returns
unfolding blank_page
returns c = refl

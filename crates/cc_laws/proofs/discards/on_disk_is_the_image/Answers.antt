use Rattle.cc_laws.proofs.DiscardLaws.{on_disk-page}
use Rattle.cc_laws.proofs.discards.on_disk_is_the_image.Goals as goal

pub returns : goal.returns
returns c = on_disk-page

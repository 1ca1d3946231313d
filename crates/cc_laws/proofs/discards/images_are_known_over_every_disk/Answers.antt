use Rattle.std.specs.Prelude.{[]}
use Rattle.cc_laws.proofs.DiskBytes.{image-known}
use Rattle.cc_laws.proofs.discards.images_are_known_over_every_disk.Goals as goal

pub returns : goal.returns
returns c = λ pages h p. image-known pages (λ page. []) h p

use Rattle.std.specs.Prelude.{false}
use Rattle.cc_laws.proofs.TouchSteps.{touches-ended_bad}
use Rattle.cc_laws.proofs.TransferLaws.{unwritten-transferred, image-transferred}
use Rattle.cc_laws.proofs.laws.transfers_clean_their_page.Goals as goal

pub returns-clause-clean : goal.returns-clause-clean
returns-clause-clean c = unwritten-transferred

pub returns-clause-on_disk : goal.returns-clause-on_disk
returns-clause-on_disk c = image-transferred

pub returns-clause-dirty : goal.returns-clause-dirty
returns-clause-dirty c = touches-ended_bad false

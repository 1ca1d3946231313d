use Rattle.cc_update_laws.proofs.Devices.{first-redone, later-redone}
use Rattle.cc_update_laws.proofs.laws.left_devices_are_redone.Goals as goal

pub returns-clause-first : goal.returns-clause-first
returns-clause-first c = first-redone

pub returns-clause-later : goal.returns-clause-later
returns-clause-later c = later-redone

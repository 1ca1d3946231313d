use Rattle.std.proofs.Common.{refl}
use Rattle.cc_lines.proofs.HeldReads.{no-memory}
use Rattle.cc_lines.proofs.held_lines.read_pin.Goals as goal

pub returns-in_default : goal.returns-in_default
returns-in_default g c = no-memory _ _ _ _ refl refl c.requires.holding

pub returns-in_default-new : goal.returns-in_default-new
returns-in_default-new g c = no-memory _ _ _ _ refl refl c.requires.holding

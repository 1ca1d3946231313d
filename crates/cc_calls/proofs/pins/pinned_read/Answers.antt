use Rattle.cc_entry.specs.Kinds.{is_pin}
use Rattle.cc_calls.proofs.pins.pinned_read.Goals as goal

pub returns : goal.returns
returns g c = record { ends = rw (← c.hold.view_is) (c.read_hold.ensures.ends is_pin (rw (← c.hold.view_is) at c.requires.holding)) }

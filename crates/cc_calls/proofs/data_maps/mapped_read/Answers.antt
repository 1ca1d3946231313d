use Rattle.cc_entry.specs.Kinds.{is_map}
use Rattle.cc_calls.proofs.data_maps.mapped_read.Goals as goal

pub returns : goal.returns
returns g c = record { ends = rw (← c.hold.view_is) (c.read_hold.ensures.ends is_map (rw (← c.hold.view_is) at c.requires.holding)) }

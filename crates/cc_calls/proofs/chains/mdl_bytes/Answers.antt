use Rattle.cc_entry.specs.Kinds.{is_read_chain}
use Rattle.cc_calls.proofs.chains.mdl_bytes.Goals as goal

pub returns : goal.returns
returns g c = record { ends = rw (← c.chain.view_is) (c.read_hold.ensures.ends is_read_chain (rw (← c.chain.view_is) at c.requires.holding)) }

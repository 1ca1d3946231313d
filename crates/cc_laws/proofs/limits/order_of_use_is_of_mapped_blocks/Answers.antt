use Rattle.cc_laws.proofs.OrderedPasts.{IsOrderOfMapped-legal}
use Rattle.cc_laws.proofs.limits.order_of_use_is_of_mapped_blocks.Goals as goal

pub returns : goal.returns
returns c = IsOrderOfMapped-legal

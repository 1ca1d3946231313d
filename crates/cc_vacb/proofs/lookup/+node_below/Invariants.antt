use Rattle.cc_vacb.proofs.lookup.+node_below.Given as goal

abbrev pub decreases-node_below : goal.decreases-node_below
decreases-node_below g l = l.depth

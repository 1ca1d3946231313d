use Rattle.cc_vacb.proofs.tree.+find.Given as goal

abbrev pub decreases-find : goal.decreases-find
decreases-find l = l.depth

use Rattle.cc_tests.proofs.vacb.index_blocks_come_and_go_with_size_and_entries.Given as goal

abbrev pub ghosts-looked_up : goal.ghosts-looked_up
ghosts-looked_up g a = record { name = a.blank.name; parts = a.blank.parts }

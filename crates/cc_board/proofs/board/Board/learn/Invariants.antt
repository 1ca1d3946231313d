use Rattle.cc_board.proofs.board.Board.learn.Given as goal

abbrev pub ghosts-learn_run : goal.ghosts-learn_run
ghosts-learn_run g a = record { begun = a.board.now.begun }

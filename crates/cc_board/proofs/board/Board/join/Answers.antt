use Rattle.std.proofs.Common.{rules}
use Rattle.cc_board.proofs.Passes.{counts_passes, joins}
use Rattle.cc_board.proofs.board.Board.join.Goals as goal

pub join_seat-requires : goal.join_seat-requires
join_seat-requires g c = (search rules, search rules, search rules, search rules, joins _ _ _ _ _ _ (search rules) (search rules) (search rules))

pub load-requires : goal.load-requires
load-requires g c = (search rules, search rules, counts_passes _ _ _ _ _ (search rules) (search rules))

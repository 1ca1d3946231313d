use Rattle.std.proofs.Common.{rules, arith, ℕ, ◌==◌}
use prog.Atomic.{either}
use Rattle.cc_board.proofs.Seating.{taken_either, may-step, told-whether}
use Rattle.cc_board.proofs.board.Board.try_take.Goals as goal

pub compare_exchange-requires : goal.compare_exchange-requires
compare_exchange-requires g c = (search rules, search rules, may-step _ _ _ _ _ _ _ _ _ c.requires.may (search rules) (search rules) (omega arith) (λ (n : ℕ). either (n == 0) 1 n) 0 1 taken_either)

pub returns-clause-told : goal.returns-clause-told
returns-clause-told g c = told-whether _ _ _ _ _ _ c.requires.may 0 1 _ _ (search rules)

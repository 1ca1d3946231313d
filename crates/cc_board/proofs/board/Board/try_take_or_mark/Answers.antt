use Rattle.std.proofs.Common.{rules, arith, ℕ}
use Rattle.cc_board.proofs.Seating.{may-step, told-whether}
use Rattle.cc_board.proofs.board.Board.try_take_or_mark.Goals as goal

pub swap-requires : goal.swap-requires
swap-requires g c = (search rules, search rules, may-step _ _ _ _ _ _ _ _ _ c.requires.may (search rules) (search rules) (omega arith) (λ (n : ℕ). 2) 2 0 (λ n is. absurd (omega arith)))

pub returns-clause-told : goal.returns-clause-told
returns-clause-told g c = told-whether _ _ _ _ _ _ c.requires.may 2 0 _ _ (search rules)

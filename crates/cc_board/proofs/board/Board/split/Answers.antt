use Rattle.std.proofs.Common.{rules, arith, ◌≡◌, ap, sym, ◌∙◌}
use Rattle.cc_board.proofs.Passes.{counts_passes, draws_number, splits}
use Rattle.cc_board.proofs.board.Board.split.Goals as goal

pub load-made-requires : goal.load-made-requires
load-made-requires g c = (search rules, search rules, counts_passes _ _ _ _ _ (search rules) (search rules))

pub store-requires : goal.store-requires
store-requires g c = let told = c.load-made.ensures.2 in
    let made : c.load-made.new.seat.me.0.made ≡ c.load-made.result = ap (λ m. m.0.made) told.same ∙ sym told.count in
    let passes : c.load-made.new.seat.me.0.passes ≡ c.first.inside.seat.me.0.passes = ap (λ m. m.0.passes) told.same in
    let most = c.first.invariant.4 in
    (search rules, search rules, draws_number _ _ _ _ _ _ (search rules) (search rules) (omega arith) (omega arith))

pub split_seat-seat-requires : goal.split_seat-seat-requires
split_seat-seat-requires g c = (search rules, search rules, splits _ _ _ _ (search rules) (search rules) (search rules) (search rules))

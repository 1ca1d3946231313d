-- The word that is read counts the passes; where all were joined, what the slots hold is what the desk gets back.
use Rattle.std.proofs.Common.{rules, arith, ◌≡◌, suc, length, ap, sym, ◌∙◌}
use Rattle.cc_board.specs.View.{run_in}
use Rattle.cc_board.proofs.Passes.{counts_passes}
use Rattle.cc_board.proofs.Closing.{ended}
use Rattle.cc_board.proofs.board.Board.close.Goals as goal

pub load-made-requires : goal.load-made-requires
load-made-requires g c = (search rules, search rules, counts_passes _ _ _ _ _ (search rules) (search rules))

pub put_together-desk-requires : goal.put_together-desk-requires
put_together-desk-requires g c =
    let told = c.load-made.ensures.2 in
    let begun : c.first.inside.rest.emptied ≡ run_in c.self.inside.table.shared.key = c.first.invariant.5.0 ∙ c.learn.ensures.run ∙ sym (ap (λ b. b.begun) c.self.view_is) in
    let same : c.load-made.new.seat.me.0 ≡ c.first.inside.seat.me.0 = ap (λ m. m.0) (told.same ∙ c.learn.ensures.same.2) in
    let joined : suc (length c.first.inside.seat.me.0.ended) ≡ c.first.inside.seat.me.0.made = omega (arith, told.count, ap (λ m. m.0.made) c.learn.ensures.same.2, ap (λ m. length m.0.ended) c.learn.ensures.same.2) in
    let end = ended _ _ c.first.inside.rest.emptied _ _ _ _ _ c.close_with.ensures.values.2 (search rules) (search rules) (rw same joined) begun c.take_out.ensures in
    record { slots = (end.past, (end.reserved, end.are)) }

pub crash_safe-requires : goal.crash_safe-requires
crash_safe-requires g c =
    let told = c.load-made.ensures.2 in
    let begun : c.first.inside.rest.emptied ≡ run_in c.self.inside.table.shared.key = c.first.invariant.5.0 ∙ c.learn.ensures.run ∙ sym (ap (λ b. b.begun) c.self.view_is) in
    let same : c.load-made.new.seat.me.0 ≡ c.first.inside.seat.me.0 = ap (λ m. m.0) (told.same ∙ c.learn.ensures.same.2) in
    let joined : suc (length c.first.inside.seat.me.0.ended) ≡ c.first.inside.seat.me.0.made = omega (arith, told.count, ap (λ m. m.0.made) c.learn.ensures.same.2, ap (λ m. length m.0.ended) c.learn.ensures.same.2) in
    let end = ended _ _ c.first.inside.rest.emptied _ _ _ _ _ c.close_with.ensures.values.2 (search rules) (search rules) (rw same joined) begun c.take_out.ensures in
    (c.put_together-desk.ensures.desk end.past end.reserved end.are).held_is

pub returns-clause-closed : goal.returns-clause-closed
returns-clause-closed g c =
    let told = c.load-made.ensures.2 in
    let begun : c.first.inside.rest.emptied ≡ run_in c.self.inside.table.shared.key = c.first.invariant.5.0 ∙ c.learn.ensures.run ∙ sym (ap (λ b. b.begun) c.self.view_is) in
    let same : c.load-made.new.seat.me.0 ≡ c.first.inside.seat.me.0 = ap (λ m. m.0) (told.same ∙ c.learn.ensures.same.2) in
    let joined : suc (length c.first.inside.seat.me.0.ended) ≡ c.first.inside.seat.me.0.made = omega (arith, told.count, ap (λ m. m.0.made) c.learn.ensures.same.2, ap (λ m. length m.0.ended) c.learn.ensures.same.2) in
    let end = ended _ _ c.first.inside.rest.emptied _ _ _ _ _ c.close_with.ensures.values.2 (search rules) (search rules) (rw same joined) begun c.take_out.ensures in
    end.closes c.args.self c.args.first c.put_together-desk.result (sym (ap (λ b. b.begun) c.self.view_is)) (sym (ap (λ p. p.knows) c.first.view_is) ∙ sym same)
    (c.put_together-desk.ensures.desk end.past end.reserved end.are)

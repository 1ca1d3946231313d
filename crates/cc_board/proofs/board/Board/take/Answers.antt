use Rattle.std.proofs.Common.{◌≡◌, rules, ℕ, List, ◌∷◌, Some, sym, ap, ◌∙◌}
use Rattle.atomic_table.specs.Table.{rest}
use Rattle.cc_board.proofs.board.Board.take.Goals as goal

-- the slot is the first that the seat holds
first_taken : {S : Type 0} (slot : ℕ) (taken : S) (held before : List (ℕ × S)) → held ≡ (slot, taken) ∷ before → held ≡ (slot, taken) ∷ rest held
first_taken {S} slot taken held before is = is ∙ ap (λ (l : List (ℕ × S)). (slot, taken) ∷ l) (sym (ap rest is))

pub exchange-requires : goal.exchange-requires
exchange-requires g c = let t = c.requires.may.taken c.take_word.new.seat.me c.take_word.ensures.told in
    (search rules, (Some t.0, first_taken c.args.slot (Some t.0) c.take_word.new.seat.me.1 c.args.seat.now.me.1 t.1))

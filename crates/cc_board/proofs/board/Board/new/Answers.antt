-- The words and slots are those with which a run of the board begins, so they keep its rule; or the desk comes back.
use Rattle.std.proofs.Common.{arith, ◌≡◌, ◌+◌, ◌*◌, ℕ, suc, length, refl, ap, sym, ◌∙◌}
use Rattle.cc_turns.specs.Desk.{made_from}
use Rattle.cc_turns.specs.Slots.{slots_of}
use Rattle.cc_board.specs.View.{run_in}
use Rattle.std.proofs.lemmas.List.{length-replicate}
use Rattle.cc_board.proofs.Opening.{opens, refused}
use Rattle.cc_board.proofs.board.Board.new.Goals as goal

pub new-requires : goal.new-requires
new-requires g c =
    let counted : 2 * c.from.result + c.from-2.result + 1 ≡ slots_of c.args.desk.begun = omega (arith, c.from.ensures, c.from-2.ensures, c.streams-streams.ensures, c.logs-logs.ensures) in
    opens _ record { begun = c.of.result; journal = c.of-journal.result; passes = c.from-3.result } c.as_slice.result.now c.in-Ok-take_apart.apart.slots.items (2 * c.from.result + c.from-2.result + 1) c.args.desk
    c.in-Ok-take_apart.ensures.slots (ap (λ s. made_from s.value) c.of.ensures ∙ c.begun.ensures ∙ c.in-Ok-take_apart.ensures.run) (c.of-journal.ensures ∙ c.journal.ensures)
    (c.as_slice.ensures.value ∙ c.in-Ok.ensures) counted

pub invariant_of-board : goal.invariant_of-board
invariant_of-board g c =
    let made = c.in-Ok-new.ensures.ok in
    let are = c.in-Ok-take_apart.ensures.slots in
    let turns : ℕ = 2 * c.from.result + c.from-2.result + 1 in
    let run : run_in c.in-Ok-new.table.shared.key ≡ c.args.desk.begun = ap (λ k. run_in k) made.5 ∙ ap (λ s. made_from s.value) c.of.ensures ∙ c.begun.ensures ∙ c.in-Ok-take_apart.ensures.run in
    let counted : turns ≡ slots_of c.args.desk.begun = omega (arith, c.from.ensures, c.from-2.ensures, c.streams-streams.ensures, c.logs-logs.ensures) in
    let same : slots_of (run_in c.in-Ok-new.table.shared.key) ≡ slots_of c.args.desk.begun = ap (λ b. slots_of b) run in
    let long : length c.as_slice.result.now ≡ suc turns = ap length (c.as_slice.ensures.value ∙ c.in-Ok.ensures) ∙ ap suc (length-replicate turns 0) in (
      made.0 ∙ long ∙ ap suc (counted ∙ sym same),
      made.1 ∙ are.counted ∙ sym same,
      c.streams-streams.ensures ∙ ap (λ b. length b.disks) (sym run),
      c.logs-logs.ensures ∙ ap (λ b. length b.logs) (sym run),
      omega (arith, c.streams-streams.ensures, are.few.0),
      omega (arith, c.logs-logs.ensures, are.few.1),
    )

pub returns-clause-err : goal.returns-clause-err
returns-clause-err g c =
    let run = c.in-Ok-take_apart.ensures.run in
    let back = c.put_together.ensures.desk _ _ (refused _ c.args.desk.begun c.in-Ok-take_apart.apart.emptied _ _ c.in-Ok-take_apart.apart.slots.items c.in-Err-new.field-0.slots.items
    c.in-Ok-take_apart.ensures.slots run c.in-Err-new.ensures.err) in
    (record { run_is = back.begun_is ∙ run; entries_are = back.past_is; under_way_is = back.under_way_is; held_is = back.held_is }, refl)

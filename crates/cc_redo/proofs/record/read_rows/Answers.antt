use Rattle.std.proofs.Common.{◌≡◌, ◌+◌, ◌-◌, ◌*◌, List, ◌++◌, drop, ap, subst, sym, ◌∙◌, arith}
use Rattle.std.proofs.lemmas.List.{take_rest}
use Rattle.cc_format.specs.declared.log.OldestRow.{OldestRow}
use Rattle.cc_redo.specs.Reading.{row_in, rows_in}
use Rattle.cc_redo.proofs.Rows.{rows-done, rows-step}
use Rattle.cc_redo.proofs.record.read_rows.Goals as goal

pub loop-k-preserved : goal.loop-k-preserved
loop-k-preserved c =
    subst
    (λ (l : List OldestRow). l ++ rows_in (c.args.count - (c.loop-k.k + 1)) (drop (17 * (c.loop-k.k + 1)) c.args.spelled.now) ≡ rows_in c.args.count c.args.spelled.now)
    (sym c.in_ok-push.ensures.items)
    (rows-step c.args.count c.loop-k.k c.loop-k.items.items c.read_row.result c.args.spelled.now c.loop-k-test.true (c.read_row.ensures ∙ ap row_in (take_rest c.args.spelled.now (17 * c.loop-k.k))) c.loop-k.invariant)

pub returns : goal.returns
returns c =
    rows-done c.args.count c.loop-k.k c.loop-k.items.items (drop (17 * c.loop-k.k) c.args.spelled.now) c.args.spelled.now (omega arith) c.loop-k.invariant

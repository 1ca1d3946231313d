use Rattle.std.proofs.Common.{List, ap, length, sym, take, ◌∙◌}
use Rattle.std.proofs.lemmas.List.{take_all}
use Rattle.cc_dirty.specs.declared.row.Row.{Row}
use Rattle.cc_entry.specs.declared.entry.Entry.{Entry}
use Rattle.cc_world.specs.Syncs.{unsettled_in}
use Rattle.cc_world.proofs.Synced.{all-unsettled}
use Rattle.cc_world.proofs.syncs.unsettled.Goals as goal

pub returns : goal.returns
returns g c me called =
    all-unsettled c.args.journal.now.entries me c.args.stream c.dirty.result.now.rows c.loop-row.pages.items c.dirty.ensures.follows
    (λ later front split is.
    c.loop-row.invariant later front split (ap (λ (es : List Entry). length es) is ∙ sym called)
    ∙ ap (λ (rows : List Row). unsettled_in front c.args.journal.now.entries c.args.stream rows)
    (take_all c.loop-row.row-index c.rows-row-items.result.now c.loop-row-test.false ∙ c.rows-row-items.ensures.rows))

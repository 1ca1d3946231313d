use Rattle.std.proofs.Common.{◌≡◌, ◌++◌, List, length, take}
use Rattle.cc_entry.specs.declared.entry.Entry.{Entry}
use Rattle.cc_world.specs.Syncs.{unsettled_in}
use Rattle.cc_world.proofs.syncs.unsettled.Given as goal

-- the pages so far are those of the rows so far
abbrev pub invariant-loop-row : goal.invariant-loop-row
invariant-loop-row g l =
    (later front : List Entry) → l.journal.entries ≡ later ++ front → length front ≡ l.entries →
    l.pages.items ≡ unsettled_in front l.journal.entries l.stream (take l.row-index l.row-items)

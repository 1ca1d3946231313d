use Rattle.std.proofs.Common.{◌≡◌, ◌<◌, ℕ, false, List}
use Rattle.cc_entry.specs.declared.entry.Entry.{Entry}
use Rattle.cc_world.specs.Filing.{AreBooks}
use Rattle.cc_world.proofs.Holders.{is_open_in}
use Rattle.cc_world.proofs.filing.holder_of.Given as goal

abbrev pub invariant-loop-row : goal.invariant-loop-row
invariant-loop-row g l =
    (past : List Entry) → AreBooks past l.rows → (s : ℕ) → s < l.row-index → is_open_in past l.hold s ≡ false

use Rattle.std.proofs.Common.{◌≡◌, ◌*◌, ◌-◌, ◌++◌, drop}
use Rattle.cc_redo.specs.Reading.{rows_in}
use Rattle.cc_redo.proofs.record.read_rows.Given as goal

-- the rows that were read, and behind them those that are left
abbrev pub invariant-loop-k : goal.invariant-loop-k
invariant-loop-k l = l.items.items ++ rows_in (l.count - l.k) (drop (17 * l.k) l.spelled) ≡ rows_in l.count l.spelled

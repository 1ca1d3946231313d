use Rattle.std.proofs.Common.{◌≤◌}
use Rattle.cc_filedev.proofs.entries.last_mark.Given as goal

-- the entries that were found end where the file does, at most
abbrev pub invariant-loop-nth : goal.invariant-loop-nth
invariant-loop-nth g l = l.place ≤ l.len

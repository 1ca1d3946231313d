use Rattle.std.proofs.Common.{◌≡◌, None, fold, take}
use Rattle.cc_holds.specs.Looks.{with_owed}
use Rattle.cc_holds.proofs.owed.least_owed.Given as goal

abbrev pub invariant-loop-hold : goal.invariant-loop-hold
invariant-loop-hold l = l.least ≡ fold (with_owed l.span) None (take l.hold-index l.holds)

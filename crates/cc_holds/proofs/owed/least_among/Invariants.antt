use Rattle.std.proofs.Common.{◌≡◌, fold, take}
use Rattle.cc_holds.specs.Looks.{with_least}
use Rattle.cc_holds.proofs.owed.least_among.Given as goal

abbrev pub invariant-loop-page : goal.invariant-loop-page
invariant-loop-page l = l.least ≡ fold (with_least l.span) l.fn.other (take l.page-index l.pages)

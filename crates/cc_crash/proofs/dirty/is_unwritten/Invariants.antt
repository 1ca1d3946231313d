use Rattle.std.proofs.Common.{◌≡◌, not, length}
use Rattle.cc_model.specs.Numbers.{is_empty}
use Rattle.cc_model.specs.Touches.{touches}
use Rattle.cc_crash.specs.Effects.{effects, AreSizesOverJournal}
use Rattle.cc_crash.proofs.dirty.is_unwritten.Given as goal

-- whether a touch is unwritten is so of the whole as of what is left
abbrev pub invariant-loop-last : goal.invariant-loop-last
invariant-loop-last l = record {
  sizes : AreSizesOverJournal l.sizes l.left l.stream;
  same :
      not (is_empty (touches l.fn.ended (effects l.fn.journal l.stream) l.page))
      ≡ not (is_empty (touches l.ended (effects l.left l.stream) l.page));
}

abbrev pub decreases-loop-last : goal.decreases-loop-last
decreases-loop-last l = length l.left

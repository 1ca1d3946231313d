use Rattle.std.proofs.Common.{◌≡◌, ◌-◌, not}
use Rattle.std.specs.List.{find, range_with_len}
use Rattle.cc_resident.specs.Residents.{is_resident}
use Rattle.cc_resident.proofs.steps.absent_in_block.Given as goal

abbrev pub invariant-loop-page : goal.invariant-loop-page
invariant-loop-page l = find (λ p. not (is_resident l.views p)) (range_with_len l.page (l.to - l.page)) ≡ find (λ p. not (is_resident l.views p)) (range_with_len l.from (l.to - l.from))

use Rattle.std.proofs.Common.{◌≡◌, ◌-◌, is_some}
use Rattle.std.specs.List.{list_any, range_with_len}
use Rattle.cc_pages.specs.Pages.{bytes_at}
use Rattle.cc_resident.proofs.steps.any_page.Given as goal

abbrev pub invariant-loop-i : goal.invariant-loop-i
invariant-loop-i l = list_any (λ i. is_some (bytes_at l.frames i)) (range_with_len l.i (64 - l.i)) ≡ list_any (λ i. is_some (bytes_at l.frames i)) (range_with_len 0 64)

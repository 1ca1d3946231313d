use Rattle.std.proofs.Common.{◌≡◌, ◌-◌, not}
use Rattle.std.specs.List.{find, range_with_len}
use Rattle.cc_entry.specs.Pages.{pages_of}
use Rattle.cc_resident.specs.Residents.{is_resident}
use Rattle.cc_resident.proofs.resident.ResidentPages.first_absent.Given as goal

abbrev pub invariant-loop-page : goal.invariant-loop-page
invariant-loop-page l = find (λ p. not (is_resident l.self-inside.views p)) (range_with_len l.page (l.end - l.page)) ≡ find (λ p. not (is_resident l.self-inside.views p)) (pages_of (record { from = l.from; to = l.to }))

abbrev pub decreases-loop-page : goal.decreases-loop-page
decreases-loop-page l = l.end - l.page

use Rattle.std.proofs.Common.{◌≡◌, ◌+◌, ◌-◌, ◌≤◌, vec_len, vec_capacity}
use Rattle.std.specs.List.{range_with_len}
use Rattle.cc_holds.specs.Touched.{with_pages}
use Rattle.cc_holds.proofs.touched.add_pages.Given as goal

abbrev pub invariant-loop-page : goal.invariant-loop-page
invariant-loop-page l =
    (l.pages.items ≡ with_pages l.initial.pages.items (range_with_len l.first (l.page-counter - l.first)))
    × (vec_len l.pages + (l.end - l.page-counter) ≤ vec_capacity l.pages)

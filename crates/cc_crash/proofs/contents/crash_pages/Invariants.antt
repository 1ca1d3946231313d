use Rattle.std.specs.Prelude.{◌≡◌, ℕ, List, take}
use Rattle.cc_crash.specs.Effects.{effects, AreSizesOverJournal}
use Rattle.cc_crash.specs.DiskPages.{page_state_of_history}
use Rattle.cc_crash.proofs.contents.crash_pages.Given as goal

abbrev pub invariant-loop-i : goal.invariant-loop-i
invariant-loop-i l = record {
  sizes : AreSizesOverJournal l.found.items l.journal l.page.stream;
  state : (pages : ℕ → List ℕ) → pages l.page.page ≡ l.opening →
      l.left ≡ page_state_of_history pages (effects (take l.i l.journal) l.page.stream) l.page.page;
}

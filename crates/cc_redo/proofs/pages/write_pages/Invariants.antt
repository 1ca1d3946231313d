use Rattle.std.specs.Prelude.{ℕ, None}
use Rattle.std.proofs.Common.{◌≡◌}
use Rattle.std.specs.Ordering.{nat_cmp}
use Rattle.std.specs.BTreeMap.{get, btree_map_len}
use Rattle.cc_traits.specs.Told.{Both}
use Rattle.cc_redo.specs.Scanned.{KeepsData}
use Rattle.cc_redo.proofs.Writes.{IsGoingOn}
use Rattle.cc_redo.proofs.pages.write_pages.Given as goal

abbrev pub invariant-loop-first : goal.invariant-loop-first
invariant-loop-first g l = record {
  counted : g.D.Told.faults l.disk ≡ g.D.Told.faults l.fn.disk;
  keeps : KeepsData l.left;
  among : (page : ℕ) → get nat_cmp l.fn.kept page ≡ None → get nat_cmp l.left page ≡ None;
  going : Both (g.D.Told.told l.fn.disk) (g.D.Told.told l.disk) (IsGoingOn (get nat_cmp l.fn.kept) (get nat_cmp l.left));
}

abbrev pub decreases-loop-first : goal.decreases-loop-first
decreases-loop-first g l = btree_map_len l.left

use Rattle.std.proofs.Common.{◌≡◌}
use Rattle.std.specs.Ordering.{nat_cmp}
use Rattle.std.specs.BTreeMap.{get}
use Rattle.cc_traits.specs.Told.{IfTold}
use Rattle.cc_redo.specs.Scanned.{KeepsData}
use Rattle.cc_redo.proofs.Changing.{IsChanging}
use Rattle.cc_redo.proofs.Covering.{IsApart}
use Rattle.cc_redo.proofs.pages.change_pages.Given as goal

abbrev pub invariant-loop-page : goal.invariant-loop-page
invariant-loop-page g l = record {
  stays : g.D.Told.told l.disk ≡ g.D.Told.told l.fn.disk;
  counted : g.D.Told.faults l.disk ≡ g.D.Told.faults l.fn.disk;
  keeps : KeepsData l.kept;
  apart : IsApart (record { at = l.at; bytes = l.bytes }) l.fn.kept l.kept;
  changing : IfTold (g.D.Told.told l.fn.disk)
      (IsChanging (record { at = l.at; bytes = l.bytes }) l.page (get nat_cmp l.fn.kept) (get nat_cmp l.kept));
}

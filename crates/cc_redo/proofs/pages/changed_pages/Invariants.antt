use Rattle.std.proofs.Common.{◌≡◌, drop}
use Rattle.std.specs.Ordering.{nat_cmp}
use Rattle.std.specs.BTreeMap.{get}
use Rattle.cc_traits.specs.Told.{IfTold}
use Rattle.cc_redo.specs.Scanned.{KeepsData}
use Rattle.cc_redo.proofs.Changing.{IsRedoing}
use Rattle.cc_redo.proofs.Covering.{AreChanged}
use Rattle.cc_redo.specs.Heard.{redone_of}
use Rattle.cc_redo.proofs.pages.changed_pages.Given as goal

abbrev pub invariant-loop-entry : goal.invariant-loop-entry
invariant-loop-entry g l = record {
  stays : g.D.Told.told l.disk ≡ g.D.Told.told l.fn.disk;
  counted : g.D.Told.faults l.disk ≡ g.D.Told.faults l.fn.disk;
  keeps : KeepsData l.kept;
  apart : AreChanged (redone_of l.redo l.from l.entries) l.kept;
  redoing : IfTold (g.D.Told.told l.fn.disk) (IsRedoing l.redo l.from (drop l.entry-index l.entries) l.entries (get nat_cmp l.kept));
}

-- Each page was looked at, and the pages were copied.
use Rattle.std.specs.Prelude.{List}
use Rattle.std.specs.List.{list_all}
use Rattle.std.proofs.Common.{ap, sym, ◌∙◌}
use Rattle.cc_entry.specs.Place.{Page}
use Rattle.cc_calls.specs.Ticks.{has_disk}
use Rattle.cc_calls.proofs.ticks.picked_twice.Goals as goal

pub returns-in_ok-told : goal.returns-in_ok-told
returns-in_ok-told g c = record {
  is_pick = λ u same. c.in_ok-picked.ensures u same;
  known = ap (list_all (has_disk c.args.streams)) (sym c.as_slice.ensures) ∙ (sym c.have_disks.ensures ∙ c.if-have_disks.true);
  again = c.from_vec.ensures ∙ (c.in_ok-told.ensures ∙ c.as_slice-then-have_disks.ensures);
}

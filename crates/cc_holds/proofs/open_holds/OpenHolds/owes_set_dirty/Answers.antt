use Rattle.std.proofs.Common.{◌∙◌, ap, sym, subst}
use Rattle.cc_holds.specs.Stands.{HoldsStand}
use Rattle.cc_holds.proofs.KeptReads.{set_dirty-kept, row_owes}
use Rattle.cc_holds.proofs.open_holds.OpenHolds.owes_set_dirty.Goals as goal

pub returns-in-Some : goal.returns-in-Some
returns-in-Some c h stands =
    c.owes_set_dirty.ensures
    ∙ (ap row_owes (c.in-Some.ensures)
    ∙ set_dirty-kept c.args.id h c.self.inside.holds (subst (HoldsStand h) (sym c.self.view_is) stands))

pub returns-in-None : goal.returns-in-None
returns-in-None c h stands =
    ap row_owes (c.in-None.ensures)
    ∙ set_dirty-kept c.args.id h c.self.inside.holds (subst (HoldsStand h) (sym c.self.view_is) stands)

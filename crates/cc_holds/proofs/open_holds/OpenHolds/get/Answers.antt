use Rattle.std.proofs.Common.{◌∙◌, ap, sym, subst}
use Rattle.cc_holds.specs.Stands.{HoldsStand}
use Rattle.std.specs.Option.{option_map}
use Rattle.cc_holds.specs.Stands.{shown_row}
use Rattle.cc_holds.proofs.KeptReads.{shown-kept}
use Rattle.cc_holds.proofs.open_holds.OpenHolds.get.Goals as goal

pub returns : goal.returns
returns c = λ h stands.
    ap (option_map shown_row) (c.copied.ensures ∙ c.get.ensures)
    ∙ shown-kept c.args.id h c.self.inside.holds (subst (HoldsStand h) (sym c.self.view_is) stands)

use Rattle.std.proofs.Common.{◌∙◌, ap, sym, subst}
use Rattle.cc_holds.specs.Stands.{HoldsStand}
use Rattle.std.specs.List.{list_any}
use Rattle.cc_holds.specs.Looks.{keeps_page}
use Rattle.cc_holds.proofs.KeptReads.{any-kept, keeps_page-kept}
use Rattle.cc_holds.proofs.open_holds.OpenHolds.is_held.Goals as goal

pub returns : goal.returns
returns c = λ h stands.
    c.any_keeps_page.ensures
    ∙ (ap (list_any (keeps_page c.args.page)) c.all.ensures
    ∙ any-kept _ _ (keeps_page-kept c.args.page) h c.self.inside.holds (subst (HoldsStand h) (sym c.self.view_is) stands))

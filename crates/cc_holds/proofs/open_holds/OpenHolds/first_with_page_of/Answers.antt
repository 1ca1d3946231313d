-- The holds with a byte of the span are found by their ranges; without a span, by their having a byte.
use Rattle.std.proofs.Common.{Option}
use Rattle.cc_entry.specs.Place.{Range}
use Rattle.cc_model.specs.Holds.{holds_of, least_id}
use Rattle.cc_model.specs.Conflicts.{has_page_of}
use Rattle.cc_holds.specs.Holds.{first_id}
use Rattle.cc_holds.specs.Looks.{has_bytes}
use Rattle.std.proofs.Common.{◌∙◌, ap, sym, subst}
use Rattle.cc_holds.specs.Stands.{HoldsStand}
use Rattle.cc_holds.proofs.KeptReads.{least-kept, shares-kept, bytes-kept}
use Rattle.cc_holds.proofs.open_holds.OpenHolds.first_with_page_of.Goals as goal

pub returns-in-Some : goal.returns-in-Some
returns-in-Some c = λ h stands.
    c.overlapping.ensures.first
    ∙ (least-kept _ _ (shares-kept c.in-Some.span) h c.self.inside.holds (subst (HoldsStand h) (sym c.self.view_is) stands)
    ∙ ap (λ (o : Option Range). least_id (has_page_of o) (holds_of h)) (sym c.in-Some.is))

pub returns-in-None : goal.returns-in-None
returns-in-None c = λ h stands.
    c.first_with_bytes.ensures
    ∙ (ap (first_id has_bytes) c.all.ensures
    ∙ (least-kept _ _ bytes-kept h c.self.inside.holds (subst (HoldsStand h) (sym c.self.view_is) stands)
    ∙ ap (λ (o : Option Range). least_id (has_page_of o) (holds_of h)) (sym c.in-None.is)))

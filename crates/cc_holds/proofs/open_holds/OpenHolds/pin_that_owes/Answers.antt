-- The least owed page of the rows is that of the definitions; the least pin that owes at it is found by its id.
use Rattle.std.proofs.Common.{◌∙◌, ap, sym, subst, fold, ℕ, Option, None}
use Rattle.std.specs.Option.{option_and_then}
use Rattle.cc_model.specs.Holds.{holds_of, least_id}
use Rattle.cc_model.specs.Stamps.{owes_stamp}
use Rattle.cc_holds.specs.Stands.{HoldsStand}
use Rattle.cc_holds.specs.Looks.{with_owed}
use Rattle.cc_holds.proofs.KeptReads.{least-kept, owes-kept}
use Rattle.cc_holds.proofs.LeastOwed.{least_owed-kept}
use Rattle.cc_holds.proofs.open_holds.OpenHolds.pin_that_owes.Goals as goal

pub returns-in-Some : goal.returns-in-Some
returns-in-Some c = λ h stands.
    let kept : HoldsStand h c.self.inside.holds = subst (HoldsStand h) (sym c.self.view_is) stands in
    let found = least_owed-kept c.args.span h c.self.inside.holds kept ∙ (ap (fold (with_owed c.args.span) None) (sym c.all.ensures) ∙ (sym c.least_owed.ensures ∙ c.in-Some.is)) in
    c.unstamped.ensures.first
    ∙ (least-kept _ _ (owes-kept c.in-Some.page) h c.self.inside.holds kept
    ∙ sym (ap (λ (o : Option ℕ). option_and_then (λ p. least_id (owes_stamp p) (holds_of h)) o) found))

pub returns-in-None : goal.returns-in-None
returns-in-None c = λ h stands.
    let kept : HoldsStand h c.self.inside.holds = subst (HoldsStand h) (sym c.self.view_is) stands in
    let found = least_owed-kept c.args.span h c.self.inside.holds kept ∙ (ap (fold (with_owed c.args.span) None) (sym c.all.ensures) ∙ (sym c.least_owed.ensures ∙ c.in-None.is)) in
    sym (ap (λ (o : Option ℕ). option_and_then (λ p. least_id (owes_stamp p) (holds_of h)) o) found)

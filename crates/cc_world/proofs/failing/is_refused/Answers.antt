use Rattle.std.proofs.Common.{◌≡◌, Bool, true, false, not, subst, sym, ◌∙◌}
use Rattle.std.specs.Bool.{OnFalse}
use Rattle.cc_model.specs.Legal.{NothingElse}
use Rattle.std.specs.declared.option.Option.TheVariants.{Some}
use Rattle.cc_world.proofs.FaultTold.{says-else}
use Rattle.cc_world.specs.Pages.{Says}
use Rattle.cc_world.proofs.failing.is_refused.Goals as goal

pub returns : goal.returns
returns g c u failing =
    let past = c.args.journal.now.entries in
    let s = c.args.book.now.stream in
    subst (λ (b : Bool). Says (not b) (NothingElse u past c.args.pass (Some s) c.args.call.now)) (sym c.is_some.ensures)
    (says-else u past c.args.pass s c.args.call.now failing.here c.in_ok-refused.refused (sym (c.ends_store.ensures past c.requires) ∙ c.if-ends_store.false)
    (c.in_ok-refused.ensures u (u.opening s) failing.stands.stand.logs_are failing.stands.stand.stands))

-- the end of a noncached write passed its tests at its store
pub returns-then-ends_store : goal.returns-then-ends_store
returns-then-ends_store g c u failing =
    OnFalse-at_true _ _ (sym (c.ends_store.ensures c.args.journal.now.entries c.requires) ∙ c.if-ends_store.true)
  where
    OnFalse-at_true : (b : Bool) (P : Type 0) → b ≡ true → OnFalse b P
    OnFalse-at_true true P is = tt
    OnFalse-at_true false P is = absurd (cc)

-- A call that may not be filed may not end.
use Rattle.std.specs.Prelude.{refl}
use Rattle.std.proofs.Common.{Bool, subst}
use Rattle.cc_world.specs.Calls.{IsFiledOn}
use Rattle.cc_world.specs.Pages.{Says}
use Rattle.cc_world.proofs.CallLeft.{unfiled-never}
use Rattle.cc_world.proofs.ends.end_call.Goals as goal

pub returns-then-not-is_filed : goal.returns-then-not-is_filed
returns-then-not-is_filed g c u made =
    let b = c.args.book.now in
    let past = c.args.journal.now.entries in (
      unfiled-never u past c.args.pass b.stream c.args.call made.here
          (subst (λ (filed : Bool). Says filed (IsFiledOn past c.args.pass b.stream c.args.call)) c.if-not-is_filed.true
          (c.is_filed.ensures (u.opening b.stream) past made.stands.stand.stands made.here)),
      refl,
      refl,
    )

-- It tells the oldest fault, where there is one, the call may be filed and nothing else refuses it.
use Rattle.std.proofs.Common.{Bool, not, subst, sym, ap, ◌∙◌}
use Rattle.std.specs.declared.option.Option.{Option}
use Rattle.std.specs.declared.option.Option.TheVariants.{Some}
use Rattle.std.specs.Option.{option_map}
use Rattle.cc_entry.specs.declared.error.CcError.{CcError}
use Rattle.cc_effects.specs.Events.{MayStandIf, told_entry}
use Rattle.cc_model.specs.Faults.{Fault}
use Rattle.cc_model.specs.Legal.{NothingElse}
use Rattle.cc_world.specs.Faults.{fault_in}
use Rattle.cc_world.proofs.FaultTold.{may-tell, unfiled-untold}
use Rattle.cc_world.specs.Calls.{IsFiledOn}
use Rattle.cc_world.specs.Failing.{MayTellFault}
use Rattle.cc_world.specs.Pages.{Says}
use Rattle.cc_world.proofs.failing.error_now.Goals as goal

pub returns : goal.returns
returns g c u failing =
    let past = c.args.journal.now.entries in
    let it = c.args.call.now in
    subst (λ (e : CcError). MayTellFault u past c.args.pass it e) (sym c.error_of.ensures)
    (may-tell u past c.args.pass c.args.book.now.stream it failing.here (fault_in c.in-Some.fault)
    (sym (c.fault.ensures past c.requires.notes.passes) ∙ ap (option_map fault_in) c.in-Some.is)
    (subst (λ (b : Bool). Says b (IsFiledOn past c.args.pass c.args.book.now.stream it)) c.if-not-is_filed.false (c.is_filed.ensures (u.opening c.args.book.now.stream) past failing.stands.stand.stands failing.here))
    (subst (λ (b : Bool). Says (not b) (NothingElse u past c.args.pass (Some c.args.book.now.stream) it)) c.if-branch.false (c.in_ok-is_refused.ensures u failing)))

pub returns-then-not-is_filed : goal.returns-then-not-is_filed
returns-then-not-is_filed g c u failing =
    let past = c.args.journal.now.entries in
    let s = c.args.book.now.stream in
    let it = c.args.call.now in
    unfiled-untold u past c.args.pass s it failing.here
    (subst (λ (b : Bool). Says b (IsFiledOn past c.args.pass s it)) c.if-not-is_filed.true (c.is_filed.ensures (u.opening s) past failing.stands.stand.stands failing.here))

-- with no fault it tells none
pub returns-in_default : goal.returns-in_default
returns-in_default g c u failing = λ may.
    let past = c.args.journal.now.entries in
    absurd (subst (λ (o : Option Fault). MayStandIf u past (told_entry past c.args.pass c.args.call.now o))
    (sym (c.fault.ensures past c.requires.notes.passes) ∙ ap (option_map fault_in) c.in_default.is) may)

-- By what the line does: its event, or its call, names streams that there are, and its answer is the line's; without
-- memory nothing happened.
use Rattle.std.proofs.Common.{ap, length, subst, sym, ◌∙◌}
use Rattle.cc_pieces.specs.Events.{Makes}
use Rattle.cc_turns.specs.Desk.{tells_of}
use Rattle.cc_effects.specs.Events.{IsKnown}
use Rattle.cc_event_lines.specs.Doing.{HappensPlainly, IsPlainEvent, doing_made}
use Rattle.cc_event_lines.specs.Happening.{without_routine}
use Rattle.cc_event_lines.specs.Lines.{WasAnswered, event_of_call}
use Rattle.cc_event_lines.specs.Names.{bindings_in}
use Rattle.cc_event_lines.proofs.KnownLines.{IsDoingKnown, IsNoDeferral, called-known, doing-known, event-known, no-defer, plain-no-deferral}
use Rattle.cc_event_lines.proofs.LineSteps.{called-same, happens-is, line-wanting, line-went, makes-is}
use Rattle.cc_event_lines.proofs.lines.step_line.Goals as goal

pub returns-in_default : goal.returns-in_default
returns-in_default g c = line-wanting _ _ _ _ c.args.line.now c.in_default.ensures.err c.requires.routines

pub answer_to-requires-clause-known : goal.answer_to-requires-clause-known
answer_to-requires-clause-known g c =
    let disks = length c.args.world.now.begun.disks in
    let me = c.args.line.now.caller in
    event-known disks c.in-Happens.event
    (subst (IsDoingKnown disks) (sym c.in-Ok.ensures.ok ∙ ap (doing_made me) c.in-Happens.is) (doing-known disks me _ c.args.line.now.action c.requires.known))

pub answer_to-requires-in-Makes-clause-known : goal.answer_to-requires-in-Makes-clause-known
answer_to-requires-in-Makes-clause-known g c =
    let disks = length c.args.world.now.begun.disks in
    let me = c.args.line.now.caller in
    subst (IsKnown disks) (sym c.called.ensures)
    (called-known g.row.Q.Denot disks me c.args.line.now.fails c.in-Makes.call
    (subst (IsDoingKnown disks) (sym c.in-Ok.ensures.ok ∙ ap (doing_made me) c.in-Makes.is) (doing-known disks me _ c.args.line.now.action c.requires.known)))

pub returns-in-Happens : goal.returns-in-Happens
returns-in-Happens g c =
    let line = c.args.line.now in
    let me = line.caller in
    let bindings = bindings_in c.args.names.now.named me in
    let it = c.in-Happens.event in
    let is = sym (ap (doing_made me) c.in-Happens.is) ∙ c.in-Ok.ensures.ok in
    let plain : IsPlainEvent it = subst HappensPlainly c.in-Happens.is c.in-Ok.ensures.plain in
    line-went _ _ _ c.args.routines.now bindings line c.answer_to.result (without_routine it)
    (happens-is me line.fails bindings line.action (without_routine it) is)
    (no-defer me bindings line.action (subst IsNoDeferral is (plain-no-deferral it plain)))
    c.answer_to.ensures c.requires.routines

pub returns-in-Makes : goal.returns-in-Makes
returns-in-Makes g c =
    let line = c.args.line.now in
    let me = line.caller in
    let bindings = bindings_in c.args.names.now.named me in
    let is = sym (ap (doing_made me) c.in-Makes.is) ∙ c.in-Ok.ensures.ok in
    let event_is = ap without_routine c.called.ensures ∙ called-same g.row.Q.Denot me line.fails c.in-Makes.call in
    line-went _ _ _ c.args.routines.now bindings line c.answer_to-in-Makes.result (without_routine (event_of_call me line.fails c.in-Makes.call))
    (makes-is me line.fails _ c.in-Makes.call is)
    (no-defer me bindings line.action (subst IsNoDeferral is (let t : IsNoDeferral (Makes c.in-Makes.call) = tt in t)))
    (subst (λ e. WasAnswered (tells_of g.D.Told.told g.D.Told.faults g.L.LogFile.told g.L.LogFile.faults g.Q.PostRoutine.posted) e c.answer_to-in-Makes.result c.args.world.now c.answer_to-in-Makes.new.world) event_is c.answer_to-in-Makes.ensures) c.requires.routines

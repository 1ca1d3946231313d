use Rattle.std.specs.Prelude.{length}
use Rattle.std.proofs.Common.{ap, ◌∙◌, arith}
use Rattle.cc_journal.proofs.DeferredSteps.{same_length, length_with_routines, stands_length}
use Rattle.cc_journal.proofs.queue.Deferred.len.Goals as goal

pub returns-clause-len : goal.returns-clause-len
returns-clause-len g c =
    let inside = c.self.inside in
    let is = length_with_routines inside.deferrals.items inside.routines.items (same_length inside.deferrals.items inside.routines.items c.self.invariant.0) in
    let view = ap (λ v. length v.writes) c.self.view_is in
    omega (arith, c.len.ensures, inside.routines.ok.0, is, view)

pub returns-clause-of_queue : goal.returns-clause-of_queue
returns-clause-of_queue g c past stood =
    returns-clause-len g c ∙ stands_length c.args.self.now.writes c.args.self.now.count past stood

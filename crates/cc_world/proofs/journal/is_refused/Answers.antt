use Rattle.std.proofs.Common.{ap, sym, ◌∙◌, is_some, []}
use Rattle.cc_entry.specs.declared.call.Call.{Call}
use Rattle.cc_model.specs.Refusals.{refusal}
use Rattle.cc_world.proofs.Unfiled.{asks-dirty, asks-rows, dirty-unrefused, log-asked}
use Rattle.cc_world.proofs.journal.is_refused.Goals as goal

pub returns-in-Some : goal.returns-in-Some
returns-in-Some g c u logs =
    log-asked u c.args.journal.now.entries c.in-Some.handle c.logs.result (logs ∙ sym c.logs.ensures)
    ∙ ap (λ (it : Call). is_some (refusal u c.args.journal.now.entries [] it))
    (sym (asks-rows c.args.call.now c.in-Some.handle (sym c.log_of.ensures ∙ c.in-Some.is)))

pub returns-in-None : goal.returns-in-None
returns-in-None g c u logs =
    sym (ap is_some (dirty-unrefused u c.args.journal.now.entries))
    ∙ ap (λ (it : Call). is_some (refusal u c.args.journal.now.entries [] it))
    (sym (asks-dirty c.args.call.now c.requires (sym c.log_of.ensures ∙ c.in-None.is)))

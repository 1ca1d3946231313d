-- It tells the oldest fault, where there is one.
use Rattle.std.specs.Prelude.{refl}
use Rattle.std.specs.declared.option.Option.{Option}
use Rattle.std.specs.Option.{option_map}
use Rattle.std.proofs.Common.{ap, subst, sym, ◌∙◌}
use Rattle.cc_effects.specs.Events.{MayStandIf, told_entry}
use Rattle.cc_model.specs.Faults.{Fault}
use Rattle.cc_world.specs.Faults.{fault_in}
use Rattle.cc_world.proofs.journal.fail_unfiled.Goals as goal

pub tell_fault-requires-clause-oldest : goal.tell_fault-requires-clause-oldest
tell_fault-requires-clause-oldest g c =
    sym (c.fault.ensures c.args.journal.now.entries c.requires.notes.passes) ∙ ap (option_map fault_in) c.in-Some.is

pub returns-in-None : goal.returns-in-None
returns-in-None g c u stand =
    let past = c.args.journal.now.entries in (
      (
        λ may. absurd (subst (λ (o : Option Fault). MayStandIf u past (told_entry past c.args.pass c.args.call o))
            (sym (c.fault.ensures past c.requires.notes.passes) ∙ ap (option_map fault_in) c.in-None.is) may),
        refl,
      ),
      refl,
    )

use Rattle.std.specs.Prelude.{List, map}
use Rattle.std.proofs.Common.{ap, subst, sym}
use Rattle.indexmap.specs.IndexMap.{spare}
use Rattle.cc_event_lines.specs.Names.{AreNewest, named_of, pinned_by}
use Rattle.cc_event_lines.specs.declared.names.NameChange.{NameChange}
use Rattle.cc_event_lines.proofs.NewestSteps.{newest-pinned}
use Rattle.cc_event_lines.proofs.names.NamedHolds.pin.Goals as goal

pub invariant_of-self : goal.invariant_of-self
invariant_of-self c =
    let kept = newest-pinned (named_of c.self.inside.past.noted) c.self.inside.room (spare c.self.inside.newest.holds) (spare c.pin.new.self.holds) c.args.caller c.args.word c.self.inside.newest.holds.entries c.pin.new.self.holds.entries c.self.invariant c.pin.ensures.pinned c.pin.ensures.room in
    subst (λ (ns : List NameChange). AreNewest (named_of ns) c.self.inside.room c.pin.new.self.holds.entries (spare c.pin.new.self.holds)) (sym c.grow.ensures) kept

-- Where a routine waits under the number it comes back to its place; where none does nothing comes back.
use Rattle.std.specs.Prelude.{List, position, reverse, slice_set, vec_capacity}
use Rattle.std.proofs.Common.{ap, sym, ◌∙◌}
use Rattle.cc_event_lines.specs.Routines.{RoutinesState, come_back, waits_for}
use Rattle.cc_event_lines.specs.declared.routines.RoutineSlot.{RoutineSlot}
use Rattle.cc_event_lines.proofs.Lists.{comes-nowhere, comes-there}
use Rattle.cc_event_lines.proofs.routines.Routines.put_back.Goals as goal

pub returns-in-Some : goal.returns-in-Some
returns-in-Some g c =
    let inside = c.self.inside in
    let slots = inside.slots.items in
    let at = sym (ap (position (waits_for c.args.id)) c.deref.ensures.value) ∙ (sym c.place_of.ensures.place ∙ c.in-Some.is) in
    ap (λ (s : List (RoutineSlot g.row.Q.Denot)). record { slots = s; unused = reverse inside.unused.items; handed = inside.handed.value.items; room = vec_capacity inside.slots })
    (ap (slice_set slots c.in-Some.place) c.replace.ensures.after
    ∙ (sym (comes-there c.args.id c.args.routine slots c.in-Some.place at) ∙ ap (λ (r : RoutinesState g.row.Q.Denot). come_back c.args.id c.args.routine r.slots) c.self.view_is))
    ∙ ap (λ (r : RoutinesState g.row.Q.Denot). record r { slots = come_back c.args.id c.args.routine c.args.self.now.slots }) c.self.view_is

pub returns-in_default : goal.returns-in_default
returns-in_default g c =
    let slots = c.self.inside.slots.items in
    let at = sym (ap (position (waits_for c.args.id)) c.deref.ensures.value) ∙ (sym c.place_of.ensures.place ∙ c.in_default.is) in
    let view = ap (λ (r : RoutinesState g.row.Q.Denot). r.slots) c.self.view_is in
    ap (λ (s : List (RoutineSlot g.row.Q.Denot)). record c.args.self.now { slots = s })
    (sym view ∙ (sym (comes-nowhere c.args.id c.args.routine slots at) ∙ ap (come_back c.args.id c.args.routine) view))

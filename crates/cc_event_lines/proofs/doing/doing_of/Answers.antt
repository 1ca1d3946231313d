use Rattle.std.specs.Option.{option_map}
use Rattle.std.proofs.Common.{ap, sym, ◌∙◌}
use Rattle.cc_event_lines.specs.Doing.{called_on, doing_made}
use Rattle.cc_event_lines.specs.Names.{bindings_in}
use Rattle.cc_event_lines.proofs.Doings.{on-hold, written-as}
use Rattle.cc_event_lines.proofs.doing.doing_of.Goals as goal

pub returns-in-Ok-None-clause-ok : goal.returns-in-Ok-None-clause-ok
returns-in-Ok-None-clause-ok g c =
    ap (doing_made c.args.me) (c.called_on.ensures ∙ ap called_on c.call_on_hold.ensures)
    ∙ on-hold g.row.Q.Denot c.args.me _ c.args.action.now
    (sym c.event_in.ensures.made ∙ ap (option_map (doing_made c.args.me)) c.in_default.is)
    (sym c.call_on_range.ensures ∙ c.in_default-call_on_range.is)
    (sym c.call_on_file.ensures ∙ c.in_default-call_on_file.is)
    (sym c.in-Ok-None.ensures.ok ∙ ap (option_map (doing_made c.args.me)) c.in-Ok-None.field-0-is)

pub returns-in-Ok-Some-clause-ok : goal.returns-in-Ok-Some-clause-ok
returns-in-Ok-Some-clause-ok g c =
    written-as c.args.me (bindings_in c.args.names.now.named c.args.me) c.args.action.now (doing_made c.args.me c.in-Ok-Some.doing)
    (sym c.in-Ok-Some.ensures.ok ∙ ap (option_map (doing_made c.args.me)) c.in-Ok-Some.field-0-is)

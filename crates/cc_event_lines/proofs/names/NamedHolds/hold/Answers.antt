use Rattle.std.proofs.Common.{ap, sym, ◌∙◌}
use Rattle.cc_script.specs.HoldWords.{meets}
use Rattle.cc_event_lines.specs.Names.{id_of_named}
use Rattle.cc_event_lines.proofs.NameSteps.{id-kept, id-lost, looked-up}
use Rattle.cc_event_lines.proofs.names.NamedHolds.hold.Goals as goal

pub returns-in_err-named : goal.returns-in_err-named
returns-in_err-named c =
    c.from_residual.ensures ∙ sym (looked-up c.args.caller c.args.word (meets c.args.need) c.args.self.now.named c.newest.result c.number.result c.newest.ensures c.number.ensures ∙ ap (id_of_named (meets c.args.need)) c.in_err-named.was)

pub returns-then-serves : goal.returns-then-serves
returns-then-serves c =
    sym (looked-up c.args.caller c.args.word (meets c.args.need) c.args.self.now.named c.newest.result c.number.result c.newest.ensures c.number.ensures ∙ (ap (id_of_named (meets c.args.need)) c.in_ok-named.was ∙ id-kept (meets c.args.need) c.in_ok-named.named (sym c.if-serves.ensures)))

pub returns-else-serves : goal.returns-else-serves
returns-else-serves c =
    sym (looked-up c.args.caller c.args.word (meets c.args.need) c.args.self.now.named c.newest.result c.number.result c.newest.ensures c.number.ensures ∙ (ap (id_of_named (meets c.args.need)) c.in_ok-named.was ∙ id-lost (meets c.args.need) c.in_ok-named.named (sym c.if-serves.ensures)))

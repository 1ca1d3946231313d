-- Where two entries came, the last one is the begin of a transfer, and the one before it the store of its page.
use Rattle.std.proofs.Common.{ap, sym, ◌∙◌}
use Rattle.std.specs.Prelude.{◌+◌}
use Rattle.std.specs.Option.{option_copied}
use Rattle.std.specs.declared.option.Option.TheVariants.{Some}
use Rattle.cc_world.proofs.Following.{count-two, follows-store}
use Rattle.cc_world.proofs.notes.Notes.follow.Goals as goal

pub returns-in-WriteBegin : goal.returns-in-WriteBegin
returns-in-WriteBegin g c past before can stood =
    let now = c.args.journal.now.entries in
    let two = count-two past now c.args.self.now c.args.unsettled.items can
    (λ same. c.if-len-before.false (c.len.ensures ∙ (same ∙ sym before)))
    (λ one. c.if-len-before-2.false (c.len-2.ensures ∙ (one ∙ ap (λ n. n + 1) (sym before))))
    in
    follows-store past now c.follow_store.new.self c.in-WriteBegin.pass c.in-WriteBegin.page two.store (sym c.last.ensures ∙ (ap option_copied c.in-Some.is ∙ ap (λ e. Some e) c.in-WriteBegin.is))
    (λ nth file bytes reply. c.follow_store.ensures past nth file bytes reply (ap (λ n. n + 1) before) stood)

use Rattle.std.proofs.Common.{ap, sym, ◌∙◌}
use Rattle.std.specs.Option.{option_map}
use Rattle.cc_entry.specs.declared.call.Call.{Call}
use Rattle.cc_entry.specs.declared.error.CcError.TheVariants as error
use Rattle.cc_model.specs.Discards.{unsettled}
use Rattle.cc_refusal.proofs.disk.by_images.Goals as goal

pub returns-in-Discard : goal.returns-in-Discard
returns-in-Discard c = λ h stands dirty.
    c.unsettled_at.ensures
    ∙ ap (option_map (λ p. error.Unsettled p)) (c.first_unknown-page.ensures h stands dirty)
    ∙ ap (λ (it : Call). unsettled h it) (sym c.in-Discard.is)

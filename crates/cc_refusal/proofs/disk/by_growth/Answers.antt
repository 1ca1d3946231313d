use Rattle.std.proofs.Common.{ap, sym, ◌∙◌}
use Rattle.std.specs.Option.{option_map}
use Rattle.cc_entry.specs.declared.call.Call.{Call}
use Rattle.cc_entry.specs.declared.error.CcError.TheVariants as error
use Rattle.cc_model.specs.Discards.{grown}
use Rattle.cc_refusal.proofs.disk.by_growth.Goals as goal

pub returns-in-Discard : goal.returns-in-Discard
returns-in-Discard c = λ h stands.
    c.grown_at.ensures
    ∙ ap (option_map (λ p. error.Grown p)) (c.first_grown.ensures h stands)
    ∙ ap (λ (it : Call). grown h it) (sym c.in-Discard.is)

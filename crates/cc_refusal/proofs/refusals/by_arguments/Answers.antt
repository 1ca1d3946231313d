use Rattle.std.proofs.Common.{ℕ, refl, ap, ◌∙◌}
use Rattle.cc_model.specs.Reasons.{beyond_size, beyond_valid}
use Rattle.cc_model.specs.Refusals.{first_of}
use Rattle.cc_refusal.proofs.FirstReasons.{same_reasons}
use Rattle.cc_refusal.proofs.refusals.by_arguments.Goals as goal

pub returns : goal.returns
returns c = λ u past h stands.
    let by_size = c.by_size.ensures ∙ ap (λ (n : ℕ). beyond_size n c.args.call.now) (c.size.ensures.stands h stands.state) in
    let by_valid = c.by_valid.ensures ∙ ap (λ (n : ℕ). beyond_valid n c.args.call.now) stands.valid in
    c.first_in.ensures
    ∙ ap first_of
    (same_reasons (c.by_map.ensures h stands.state)
    (same_reasons c.by_length.ensures
    (same_reasons c.by_view.ensures
    (same_reasons (c.by_sizes.ensures h stands.state stands.valid stands.mapped)
    (same_reasons c.by_granularity.ensures
    (same_reasons (c.by_log.ensures u stands.logs)
    (same_reasons by_size
    (same_reasons by_valid refl))))))))

use Rattle.std.proofs.Common.{rules, nat_lt}
use Rattle.std.proofs.lemmas.Fn.{filter_same}
use Rattle.cc_images.proofs.grown.lower.Goals as goal

pub returns-clause-bytes : goal.returns-clause-bytes
returns-clause-bytes c = filter_same _ (λ byte. nat_lt byte c.args.now) _ (λ x b f' k. search rules) _ _ c.retain.ensures.filtered

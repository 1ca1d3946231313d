use Rattle.std.proofs.Common.{ℕ, ◌∙◌, ap}
use Rattle.std.specs.declared.option.Option.{Option}
use Rattle.std.specs.Option.{unwrap_or}
use Rattle.std.proofs.lemmas.Option.{unwrap_or-slice_get}
use Rattle.cc_crash.proofs.changes.byte_in.Goals as goal

pub returns : goal.returns
returns c = c.unwrap_or.ensures ∙ (ap (λ (o : Option ℕ). unwrap_or o 0) c.get.ensures ∙ unwrap_or-slice_get c.args.bytes.now c.args.i 0)

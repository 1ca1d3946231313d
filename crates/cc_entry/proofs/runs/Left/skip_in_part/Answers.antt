-- Where the part ends, its bytes as they are are of this value, and so are those of one value, if there are any.
use Rattle.std.proofs.Common.{◌≡◌, ◌<◌, ◌+◌, ◌-◌, ◌++◌, replicate, arith, ap, sym, ◌∙◌}
use Rattle.std.proofs.lemmas.List.{take_all}
use Rattle.cc_entry.specs.Parts.{bytes_in}
use Rattle.cc_entry.proofs.Kept.{all_read, same_from_not}
use Rattle.cc_entry.proofs.runs.Left.skip_in_part.Goals as goal
use Rattle.cc_entry.proofs.runs.Left.skip_in_part.Goals.{then-self-gt0, else-self-gt0}

pub returns-clause-skipped : goal.returns-clause-skipped
returns-clause-skipped c =
    let own = c.self.inside in let n = c.end_of_same-same.result in let front = own.front.now in
    let from : n - 0 ≡ n = omega arith in
    let same : front ≡ replicate n c.args.byte = sym (take_all n front c.if-same-self.false) ∙ c.end_of_same-same.ensures.same ∙ ap (λ m. replicate m c.args.byte) from in
    let one : 0 < own.count → own.byte ≡ c.args.byte =
    elim c.if-self-gt0.branch [
      | then-self-gt0 w ↦ λ some. same_from_not own.byte c.args.byte c.if-self-gt0.value w.value-is c.if-self-byte.false
      | else-self-gt0 w ↦ λ some. absurd (omega (arith, some, w.if-self-gt0.false))
    ] in
    sym c.self.view_is ∙ all_read front (bytes_in own.parts.now own.plain.now) n own.count own.byte c.args.byte same one
    ∙ ap (replicate (n + own.count) c.args.byte ++◌) (sym (c.self-2.view_is ∙ c.new.ensures))

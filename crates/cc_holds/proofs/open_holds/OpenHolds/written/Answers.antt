use Rattle.std.specs.Prelude.{◌≡◌, ◌+◌, length, ℕ}
use Rattle.std.proofs.Common.{ap, sym, ◌∙◌}
use Rattle.std.proofs.lemmas.Result.{on_ok_weaker}
use Rattle.cc_holds.proofs.KeptBlocks.{range-of}
use Rattle.cc_holds.proofs.open_holds.OpenHolds.written.Goals as goal

pub returns-clause-stands : goal.returns-clause-stands
returns-clause-stands c =
    let ends = c.in-Some.ensures in
    on_ok_weaker c.write.result
    (λ given h pass bytes reply stands len.
    let to : c.args.at + length bytes ≡ c.in-Some.span.to = ap (λ (n : ℕ). c.args.at + n) len ∙ sym ends.end in
    given h pass c.args.at bytes reply stands (sym (range-of c.in-Some.span (sym ends.start) to)))
    c.write.ensures.stands

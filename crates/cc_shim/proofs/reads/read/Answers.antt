use Rattle.std.proofs.Common.{sym, ◌∙◌}
use Rattle.cc_shim.proofs.Reading.{tested}
use Rattle.cc_shim.proofs.reads.read.Goals as goal

pub returns-in-Some : goal.returns-in-Some
returns-in-Some g c =
    let w = g.T.Turns.standing c.args.turns.now in
    record { ends = tested w c.args.file c.args.path c.args.at c.args.out.now c.in-Some.refusal (sym c.refusal_of.ensures ∙ c.in-Some.is) }

use Rattle.std.proofs.Common.{◌≡◌, [], get_or, ap, ◌∙◌, arith}
use Rattle.cc_print.specs.declared.words.TheConstants.{PAIRS}
use Rattle.cc_print.specs.Words.{hex_pair}
use Rattle.cc_print.proofs.Pairs.{pair_at, pair_ascii}
use Rattle.cc_print.proofs.words.pair_of.Goals as goal

pub returns-clause-digits : goal.returns-clause-digits
returns-clause-digits c =
    ap (λ k. get_or PAIRS k []) c.from.ensures ∙ pair_at c.args.byte (omega arith)

pub returns-clause-ascii : goal.returns-clause-ascii
returns-clause-ascii c =
    let e : get_or PAIRS c.from.result [] ≡ hex_pair c.args.byte = ap (λ k. get_or PAIRS k []) c.from.ensures ∙ pair_at c.args.byte (omega arith) in
    rw e (pair_ascii c.args.byte (omega arith))

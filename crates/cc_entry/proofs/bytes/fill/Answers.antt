use Rattle.std.proofs.Common.{◌+◌, ◌-◌, arith, ◌∙◌}
use Rattle.std.proofs.lemmas.Slice.{drop-put_mid}
use Rattle.std.proofs.lemmas.List.Edits.{length-between}
use Rattle.cc_entry.proofs.bytes.fill.Goals as goal

pub returns-clause-behind : goal.returns-clause-behind
returns-clause-behind c =
    let n = c.args.count in
    drop-put_mid c.args.at (c.args.at + n - c.args.at) c.args.out.now c.fill.new.self (c.args.at + n) (omega arith) (omega (arith, c.requires)) (c.fill.ensures.len ∙ length-between c.args.out.now c.args.at (c.args.at + n) c.requires)

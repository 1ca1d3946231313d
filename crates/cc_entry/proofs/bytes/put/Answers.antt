use Rattle.std.proofs.Common.{◌≡◌, ◌+◌, ◌-◌, length, arith, ap}
use Rattle.std.proofs.lemmas.Slice.{drop-put_mid}
use Rattle.cc_entry.proofs.bytes.put.Goals as goal

pub returns-clause-behind : goal.returns-clause-behind
returns-clause-behind c =
    let n = length c.args.bytes.now in
    let long : length c.copy_from_slice.new.self ≡ n = ap length c.copy_from_slice.ensures.after in
    drop-put_mid c.args.at (c.args.at + n - c.args.at) c.args.out.now c.copy_from_slice.new.self (c.args.at + n) (omega arith) (omega (arith, c.requires)) (omega (arith, long))

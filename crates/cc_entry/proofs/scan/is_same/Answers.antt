use Rattle.std.proofs.Common.{◌≡◌, ◌-◌, length, take, drop, bytes_eq, ap₂, rules, sym, ◌∙◌}
use Rattle.std.proofs.lemmas.List.{places, take_rest}
use Rattle.std.proofs.lemmas.Slice.Eq.{bytes_eq-Decides}
use Rattle.cc_entry.proofs.Kept.{all_same}
use Rattle.cc_entry.proofs.scan.is_same.Goals as goal

pub returns-then-block-byte : goal.returns-then-block-byte
returns-then-block-byte c =
    let block = c.args.block.now in
    let rest = drop 1 block in let front = take (length block - 1) block in
    let test : c.eq.result ≡ bytes_eq rest front = c.eq.ensures ∙ ap₂ bytes_eq (take_rest block 1) (search (rules, places)) in
    λ same. all_same block c.args.byte c.if-block-byte.true ((bytes_eq-Decides rest front).0 (sym test ∙ same))

-- All four logs are made as the loop ends.
use Rattle.std.proofs.Common.{◌≡◌, ◌∙◌, ap, arith, replicate, ℕ}
use Rattle.ntcache.specs.Edge.{new_file_log}
use Rattle.ntcache.proofs.folder.file_logs.Goals as goal

pub returns : goal.returns
returns g c =
    let four : c.loop-k.k ≡ 4 = omega (arith, c.loop-k.auto.k-end, c.loop-k-test.false) in
    c.loop-k.invariant.logs ∙ ap (λ (k : ℕ). replicate k new_file_log) four

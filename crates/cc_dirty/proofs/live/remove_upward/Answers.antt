use Rattle.std.proofs.Common.{◌+◌, ◌-◌, ap, ◌∙◌, drop, arith}
use Rattle.cc_dirty.proofs.Gap.{remove-up}
use Rattle.cc_dirty.proofs.live.remove_upward.Goals as goal
use lib.Seq.{paste}

pub returns-clause-rows : goal.returns-clause-rows
returns-clause-rows c =
    let xs = c.args.places.now.items in
    ap (drop (c.args.first + 1)) c.copy_within.ensures.items
    ∙ ap (λ n. drop (c.args.first + 1) (paste xs (c.args.first + 1) (drop c.args.first xs) n)) {x = c.args.first + c.args.place - c.args.first} {y = c.args.place} (omega arith)
    ∙ remove-up xs c.args.first c.args.place (omega (arith, c.requires))

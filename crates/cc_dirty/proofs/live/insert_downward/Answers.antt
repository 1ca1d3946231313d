use Rattle.std.proofs.Common.{◌+◌, ◌-◌, ap, ◌∙◌, drop, set, insert, arith}
use Rattle.cc_dirty.proofs.Gap.{insert-down}
use Rattle.cc_dirty.proofs.live.insert_downward.Goals as goal
use lib.Seq.{paste}

pub returns-clause-rows : goal.returns-clause-rows
returns-clause-rows g c =
    let xs = c.args.places.now.items in
    let before = c.args.first - 1 in
    ap (λ l. drop before (set l (before + c.args.place) c.args.row)) c.copy_within.ensures.items
    ∙ ap (λ n. drop before (set (paste xs before (drop c.args.first xs) n) (before + c.args.place) c.args.row)) {x = c.args.first + c.args.place - c.args.first} {y = c.args.place} (omega arith)
    ∙ ap (λ n. drop before (set (paste xs before (drop n xs) c.args.place) (before + c.args.place) c.args.row)) {x = c.args.first} {y = before + 1} (omega (arith, c.requires.free))
    ∙ insert-down xs before c.args.place c.args.row (omega (arith, c.requires.free, c.requires.within))
    ∙ ap (λ n. insert (drop n xs) c.args.place c.args.row) {x = before + 1} {y = c.args.first} (omega (arith, c.requires.free))

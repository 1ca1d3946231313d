use Rattle.std.specs.Prelude.{◌≡◌, max}
use Rattle.std.proofs.Common.{arith, rules}
use Rattle.cc_shim.proofs.Writing.{extended}
use Rattle.cc_shim.proofs.writes.extend.Goals as goal

pub returns-then-end-state : goal.returns-then-end-state
returns-then-end-state g c =
    let w = g.T.Turns.standing c.args.turns.now in
    let v = g.T.Turns.standing c.set_file_sizes-answer.new.turns in
    let greater : c.max.result ≡ max c.args.end c.args.state.now.sizes.allocation = first_of (search rules, omega arith, grind arith) in
    record { ends = extended w v c.args.file c.args.state.now c.args.end c.set_file_sizes-answer.result c.if-end-state.true c.note_others.ensures.few (rw greater at c.set_file_sizes-answer.ensures) }

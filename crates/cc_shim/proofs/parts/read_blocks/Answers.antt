-- The parts so far and the next are one more; one that was refused ends the read.
use Rattle.std.specs.Prelude.{◌≡◌, ℕ, ◌+◌, ◌-◌, ◌/◌, ◌<◌, ◌≤◌, length}
use Rattle.std.proofs.Common.{◌∙◌, ap, arith, rules, subst, sym}
use Rattle.cc_entry.specs.Place.{Range}
use Rattle.cc_shim.specs.Reads.{hold_path_of}
use Rattle.cc_shim.proofs.Going.{can-then}
use Rattle.cc_shim.proofs.PartReads.{HasRead, block-begins, block-ends, first-last, read-all, read-more-at, read-none, read-refused}
use Rattle.cc_shim.proofs.parts.read_blocks.Goals as goal

pub loop-block-init : goal.loop-block-init
loop-block-init g c =
    let w = g.T.Turns.standing c.args.turns.now in
    subst (λ (n : ℕ). HasRead w w (hold_path_of c.args.by c.args.file) c.args.span (n / 262144) c.args.out.now) (sym c.from-from.ensures.same) (read-none w (hold_path_of c.args.by c.args.file) c.args.span c.args.out.now)

pub read_part-requires-clause-can : goal.read_part-requires-clause-can
read_part-requires-clause-can g c = can-then (g.T.Turns.standing c.args.turns.now) (g.T.Turns.standing c.loop-block.turns) c.args.file.stream c.requires.can c.loop-block.invariant.gone.on

pub returns-in-Err : goal.returns-in-Err
returns-in-Err g c =
    let w = g.T.Turns.standing c.args.turns.now in
    let v = g.T.Turns.standing c.loop-block.turns in
    let x = g.T.Turns.standing c.read_part.new.turns in
    let some : 0 < c.args.span.to = omega (arith, c.requires.some) in
    let below = subst (λ (n : ℕ). c.loop-block.block < (n - 1) / 262144 + 1) c.to.ensures.same c.loop-block-test.true in
    let least = subst (λ (n : ℕ). n / 262144 ≤ c.loop-block.block) c.from-from.ensures.same c.loop-block.auto.block in
    record {
      ends =
          read-refused w v x (hold_path_of c.args.by c.args.file) c.args.span c.loop-block.block c.loop-block.out c.loop-block.out c.read_part.new.out c.loop-block.invariant
          (block-begins c.args.span.to c.loop-block.block some below) (block-ends c.args.span.from c.loop-block.block least) least
          c.in-Err.error ((c.to.result - 1) / 262144) c.args.out.now c.args.out.now c.requires.some (ap (λ (n : ℕ). (n - 1) / 262144) c.to.ensures.same) c.loop-block-test.true
          (rw c.part_of-part.ensures at c.in-Err.ensures.ends);
    }

pub loop-block-preserved : goal.loop-block-preserved
loop-block-preserved g c =
    let w = g.T.Turns.standing c.args.turns.now in
    let v = g.T.Turns.standing c.loop-block.turns in
    let x = g.T.Turns.standing c.read_part.new.turns in
    let some : 0 < c.args.span.to = omega (arith, c.requires.some) in
    let below = subst (λ (n : ℕ). c.loop-block.block < (n - 1) / 262144 + 1) c.to.ensures.same c.loop-block-test.true in
    let least = subst (λ (n : ℕ). n / 262144 ≤ c.loop-block.block) c.from-from.ensures.same c.loop-block.auto.block in
    let begins = block-begins c.args.span.to c.loop-block.block some below in
    let ends = block-ends c.args.span.from c.loop-block.block least in
    let from_at = c.from.ensures.same ∙ ap (λ (r : Range). r.from) c.part_of-part.ensures in
    let to_at = c.to-in-loop-block.ensures.same ∙ ap (λ (r : Range). r.to) c.part_of-part.ensures in
    let long : length c.read_part.new.out ≡ c.to-in-loop-block.result - c.from.result = first_of (omega (arith, c.read_part.auto.out, c.from-from.ensures.same, from_at, to_at, begins, ends), search rules, omega arith) in
    read-more-at w v x (hold_path_of c.args.by c.args.file) c.args.span c.loop-block.block c.loop-block.out c.loop-block.out c.read_part.new.out c.loop-block.invariant begins ends least
    c.from-from.result c.from.result c.to-in-loop-block.result c.from-from.ensures.same from_at to_at long (omega (arith, c.loop-block.auto.out, c.requires.fits, c.from-from.ensures.same, to_at))
    (rw c.part_of-part.ensures at c.in-Ok.ensures.ends)

pub returns : goal.returns
returns g c =
    let w = g.T.Turns.standing c.args.turns.now in
    let v = g.T.Turns.standing c.loop-block.turns in
    let order = first-last c.args.span.from c.args.span.to c.requires.some in
    let all : c.loop-block.block ≡ (c.args.span.to - 1) / 262144 + 1 =
    subst (λ (n : ℕ). c.loop-block.block ≡ (n - 1) / 262144 + 1) c.to.ensures.same (omega (arith, c.loop-block-test.false, c.loop-block.auto.block-end (rw (sym c.from-from.ensures.same, sym c.to.ensures.same) at order))) in
    record { ends = read-all w v (hold_path_of c.args.by c.args.file) c.args.span c.loop-block.block c.args.out.now c.loop-block.out c.loop-block.invariant c.requires.some (omega (arith, c.loop-block.auto.out, c.requires.fits)) all }

-- The pieces so far and the next are one more; one that was refused ends it.
use Rattle.std.specs.Prelude.{◌≡◌, ℕ, ◌+◌, ◌-◌, ◌*◌, ◌/◌, ◌<◌, min}
use Rattle.std.proofs.Common.{◌∙◌, arith, rules, subst}
use Rattle.cc_shim.proofs.Going.{can-then}
use Rattle.cc_shim.proofs.Writing.{pieces-are, zeroed-all, zeroed-more, zeroed-none, zeroed-refused}
use Rattle.cc_shim.proofs.writes.zero_gap.Goals as goal

pub loop-k-init : goal.loop-k-init
loop-k-init g c = zeroed-none (g.T.Turns.standing c.args.turns.now) c.args.file c.args.from c.args.to

pub zero_data-requires : goal.zero_data-requires
zero_data-requires g c = record {
  can = can-then (g.T.Turns.standing c.args.turns.now) (g.T.Turns.standing c.loop-k.turns) c.args.file.stream c.requires.can c.loop-k.invariant.gone.on;
}

pub returns-in-Err : goal.returns-in-Err
returns-in-Err g c =
    let w = g.T.Turns.standing c.args.turns.now in
    let v = g.T.Turns.standing c.loop-k.turns in
    let x = g.T.Turns.standing c.zero_data.new.turns in
    let count : c.div_ceil-pieces.result ≡ ((c.args.to - c.args.from) + 1048575) / 1048576 = (rw c.saturating_sub.ensures at c.div_ceil-pieces.ensures) ∙ pieces-are (c.args.to - c.args.from) in
    let least : c.min.result ≡ min c.args.to (c.args.from + 1048576 * c.loop-k.k + 1048576) = first_of (search rules, omega arith, grind arith) in
    record {
      ends =
          zeroed-refused w v x c.args.file c.args.from c.args.to c.loop-k.k c.loop-k.invariant c.unwrap-span.result (rw c.unwrap-span.ensures at c.new.ensures.start) ((rw c.unwrap-span.ensures at c.new.ensures.end) ∙ least)
          c.in-Err.error (subst (λ (n : ℕ). c.loop-k.k < n) count c.loop-k-test.true) c.note_others.ensures.few c.in-Err.ensures.ends;
    }

pub loop-k-preserved : goal.loop-k-preserved
loop-k-preserved g c =
    let w = g.T.Turns.standing c.args.turns.now in
    let v = g.T.Turns.standing c.loop-k.turns in
    let x = g.T.Turns.standing c.zero_data.new.turns in
    let least : c.min.result ≡ min c.args.to (c.args.from + 1048576 * c.loop-k.k + 1048576) = first_of (search rules, omega arith, grind arith) in
    zeroed-more w v x c.args.file c.args.from c.args.to c.loop-k.k c.loop-k.invariant c.unwrap-span.result (rw c.unwrap-span.ensures at c.new.ensures.start) ((rw c.unwrap-span.ensures at c.new.ensures.end) ∙ least) c.in-Ok.ensures.ends

pub returns : goal.returns
returns g c =
    let w = g.T.Turns.standing c.args.turns.now in
    let v = g.T.Turns.standing c.loop-k.turns in
    let count : c.div_ceil-pieces.result ≡ ((c.args.to - c.args.from) + 1048575) / 1048576 = (rw c.saturating_sub.ensures at c.div_ceil-pieces.ensures) ∙ pieces-are (c.args.to - c.args.from) in
    let all : c.loop-k.k ≡ c.div_ceil-pieces.result = omega (arith, c.loop-k-test.false, c.loop-k.auto.k-end) in
    record { ends = zeroed-all w v c.args.file c.args.from c.args.to c.loop-k.k c.loop-k.invariant (all ∙ count) }

-- The place or the length refuses it, the test does, or the read was made.
use Rattle.std.specs.Prelude.{false, length, refl}
use Rattle.std.proofs.Common.{sym, ◌∙◌}
use Rattle.cc_pieces.specs.Locks.{tested_range}
use Rattle.cc_pieces.specs.Shim.{ReadTested, first_of_two, misaligned_for, too_long_for}
use Rattle.cc_shim.specs.Locked.{FoundReadEnds}
use Rattle.cc_shim.specs.Reads.{read_in}
use Rattle.cc_shim.proofs.Going.{handed}
use Rattle.cc_shim.proofs.LockedCalls.{found-made, found-refused, found-untested, read-tells}
use Rattle.cc_shim.proofs.locked.read_found.Goals as goal

pub returns-in-Some : goal.returns-in-Some
returns-in-Some g c =
    let w = g.T.Turns.standing c.args.turns.now in
    record {
      ends = record {
        ends =
            found-refused c.args.file (tested_range c.args.at (length c.args.out.now)) false (λ u me. ReadTested u me c.args.file c.args.path c.args.at (length c.args.out.now) (too_long_for c.args.path (length c.args.out.now)) (misaligned_for c.args.path c.args.at (length c.args.out.now))) w (first_of_two (too_long_for c.args.path (length c.args.out.now)) (misaligned_for c.args.path c.args.at (length c.args.out.now))) c.in-Some.refusal (sym c.refusal_of.ensures ∙ c.in-Some.is)
            (read-tells w c.args.path c.args.at (length c.args.out.now) c.in-Some.refusal (sym c.refusal_of.ensures ∙ c.in-Some.is));
        rest = refl;
      };
    }

pub returns-in_err-test_range : goal.returns-in_err-test_range
returns-in_err-test_range g c =
    let w = g.T.Turns.standing c.args.turns.now in
    let v = g.T.Turns.standing c.test_range.new.turns in
    record {
      ends =
          handed (λ answer. FoundReadEnds w v c.args.file c.args.path c.args.at answer c.args.out.now c.args.out.now)
          c.from_residual.result c.in_err-test_range.field-0.0 c.from_residual.ensures.1
          (record {
            ends = found-untested c.args.file (tested_range c.args.at (length c.args.out.now)) false (λ u me. ReadTested u me c.args.file c.args.path c.args.at (length c.args.out.now) (too_long_for c.args.path (length c.args.out.now)) (misaligned_for c.args.path c.args.at (length c.args.out.now))) w v (first_of_two (too_long_for c.args.path (length c.args.out.now)) (misaligned_for c.args.path c.args.at (length c.args.out.now))) c.in_err-test_range.field-0.0 (sym c.refusal_of.ensures ∙ c.in_default.is) c.in_err-test_range.ensures.ends;
            rest = refl;
          });
    }

pub returns : goal.returns
returns g c =
    let w = g.T.Turns.standing c.args.turns.now in
    let v = g.T.Turns.standing c.test_range.new.turns in
    let x = g.T.Turns.standing c.read.new.turns in
    record {
      ends = record {
        ends = found-made c.args.file (tested_range c.args.at (length c.args.out.now)) false (λ u me. ReadTested u me c.args.file c.args.path c.args.at (length c.args.out.now) (too_long_for c.args.path (length c.args.out.now)) (misaligned_for c.args.path c.args.at (length c.args.out.now))) w v x (first_of_two (too_long_for c.args.path (length c.args.out.now)) (misaligned_for c.args.path c.args.at (length c.args.out.now))) (read_in c.read.result c.read.new.out) (sym c.refusal_of.ensures ∙ c.in_default.is) c.in_ok-test_range.ensures.ends c.read.ensures.ends.ends;
        rest = c.read.ensures.ends.rest;
      };
    }

-- By the place and the length: out of order, the entry of the first page refuses the write; in order, what its pages
-- leave is what the write leaves.
use Rattle.std.specs.Prelude.{length, refl}
use Rattle.std.proofs.Common.{sym, ◌∙◌}
use Rattle.cc_ranges.proofs.Callers.{shape-is}
use Rattle.cc_ranges.proofs.WritePages.{misshapen-write, whole-write}
use Rattle.cc_ranges.proofs.writes.noncached_write.Goals as goal

pub refuse-cause-requires-clause-shape : goal.refuse-cause-requires-clause-shape
refuse-cause-requires-clause-shape g c = shape-is c.args.at (length c.args.piece.now) c.in-Some.refusal (sym c.shape_refusal.ensures ∙ c.in-Some.is)

pub returns-in-Some : goal.returns-in-Some
returns-in-Some g c =
    let w = g.T.Turns.standing c.args.turns.now in
    let v = g.T.Turns.standing c.refuse-cause.new.turns in
    record {
      ends = misshapen-write w v c.args.file c.args.at c.in-Some.refusal (record { done = 0; cause = c.refuse-cause.result }) c.args.piece.now
          (sym c.shape_refusal.ensures ∙ c.in-Some.is) refl c.refuse-cause.ensures.left c.refuse-cause.ensures.full c.refuse-cause.ensures.goes_on c.refuse-cause.ensures.good;
    }

pub returns-in-None : goal.returns-in-None
returns-in-None g c =
    let w = g.T.Turns.standing c.args.turns.now in
    let v = g.T.Turns.standing c.write_pages.new.turns in
    record {
      ends = whole-write w v c.args.file c.args.at c.args.piece.now c.write_pages.result (sym c.shape_refusal.ensures ∙ c.in-None.is) c.write_pages.ensures.ends;
    }

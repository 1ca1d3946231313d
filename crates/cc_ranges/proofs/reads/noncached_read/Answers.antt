-- By the place and the length: out of order, the entry of the first page refuses the read; in order, what its pages
-- leave is what the read leaves.
use Rattle.std.specs.Prelude.{length, refl}
use Rattle.std.proofs.Common.{sym, ◌∙◌}
use Rattle.cc_ranges.proofs.ReadPages.{whole-read, misshapen-read, shape-is, shape-fits}
use Rattle.cc_ranges.proofs.reads.noncached_read.Goals as goal

pub refuse-cause-requires-clause-shape : goal.refuse-cause-requires-clause-shape
refuse-cause-requires-clause-shape g c = shape-is c.args.at (length c.args.out.now) c.in-Some.refusal (sym c.shape_refusal.ensures ∙ c.in-Some.is)

pub returns-in-Some : goal.returns-in-Some
returns-in-Some g c = record {
  ends = misshapen-read (g.T.Turns.standing c.args.turns.now) (g.T.Turns.standing c.refuse-cause.new.turns) c.args.file c.args.at c.in-Some.refusal
      (record { done = 0; cause = c.refuse-cause.result }) c.args.out.now
      (sym c.shape_refusal.ensures ∙ c.in-Some.is) refl
      c.refuse-cause.ensures.left c.refuse-cause.ensures.full c.refuse-cause.ensures.goes_on c.refuse-cause.ensures.good;
}

pub read_pages-requires-clause-most : goal.read_pages-requires-clause-most
read_pages-requires-clause-most g c =
    shape-fits c.args.at (length c.args.out.now) (sym c.shape_refusal.ensures ∙ c.in-None.is)

pub returns-in-None : goal.returns-in-None
returns-in-None g c = record {
  ends = whole-read (g.T.Turns.standing c.args.turns.now) (g.T.Turns.standing c.read_pages.new.turns) c.args.file c.args.at c.read_pages.result c.args.out.now c.read_pages.new.out
      (sym c.shape_refusal.ensures ∙ c.in-None.is) c.read_pages.ensures.ends;
}

-- By what the last entry does to the page: a begin whose transfer ended well, or a cut, leaves no touch before it.
use Rattle.std.proofs.Common.{not, List, ap, sym, ◌∙◌}
use Rattle.std.proofs.lemmas.List.{nil_from_length}
use Rattle.cc_events.specs.declared.touching.Touching.TheVariants as touching
use Rattle.cc_model.specs.Numbers.{is_empty}
use Rattle.cc_model.specs.Sizes.{Touch}
use Rattle.cc_crash.proofs.TouchSteps.{sizes_back, begins_ended, begins_open, unwritten_by, unwritten_none}
use Rattle.cc_crash.proofs.dirty.is_unwritten.Goals as goal

pub returns-in-Touches : goal.returns-in-Touches
returns-in-Touches c =
    sym (c.loop-last.invariant.same
    ∙ unwritten_by _ _ _ c.args.stream (touching.Touches c.in-Touches.field-0) c.loop-last.ended c.args.page c.in-Some.ensures.cases.0 (sym c.in-Touches.is ∙ c.in_ok-touching_by.ensures))

pub returns-in-Cuts : goal.returns-in-Cuts
returns-in-Cuts c =
    sym (c.loop-last.invariant.same
    ∙ unwritten_by _ _ _ c.args.stream touching.Cuts c.loop-last.ended c.args.page c.in-Some.ensures.cases.0 (sym c.in-Cuts.is ∙ c.in_ok-touching_by.ensures))

pub returns-in-Begins : goal.returns-in-Begins
returns-in-Begins c =
    sym (c.loop-last.invariant.same
    ∙ (unwritten_by _ _ _ c.args.stream touching.Begins c.loop-last.ended c.args.page c.in-Some.ensures.cases.0 (sym c.in-Begins.is ∙ c.in_ok-touching_by.ensures)
    ∙ ap (λ (ts : List Touch). not (is_empty ts)) (begins_ended c.loop-last.ended _ c.args.page c.if-ended.true)))

pub returns : goal.returns
returns c =
    sym (c.loop-last.invariant.same
    ∙ unwritten_none c.loop-last.ended _ c.args.stream c.args.page (nil_from_length _ c.in_default.ensures.cases))

pub loop-last-preserved-in-Rests : goal.loop-last-preserved-in-Rests
loop-last-preserved-in-Rests c = record {
  sizes = sizes_back _ _ _ _ c.args.stream c.in-Some.ensures.cases.0 c.loop-last.invariant.sizes;
  same = c.loop-last.invariant.same
      ∙ unwritten_by _ _ _ c.args.stream touching.Rests c.loop-last.ended c.args.page c.in-Some.ensures.cases.0 (sym c.in-Rests.is ∙ c.in_ok-touching_by.ensures);
}

pub loop-last-preserved-else-ended : goal.loop-last-preserved-else-ended
loop-last-preserved-else-ended c = record {
  sizes = sizes_back _ _ _ _ c.args.stream c.in-Some.ensures.cases.0 c.loop-last.invariant.sizes;
  same = c.loop-last.invariant.same
      ∙ (unwritten_by _ _ _ c.args.stream touching.Begins c.loop-last.ended c.args.page c.in-Some.ensures.cases.0 (sym c.in-Begins.is ∙ c.in_ok-touching_by.ensures)
      ∙ ap (λ (ts : List Touch). not (is_empty ts)) (begins_open c.loop-last.ended _ c.args.page c.if-ended.false));
}

pub loop-last-preserved : goal.loop-last-preserved
loop-last-preserved c = record {
  sizes = sizes_back _ _ _ _ c.args.stream c.in-Some.ensures.cases.0 c.loop-last.invariant.sizes;
  same = c.loop-last.invariant.same
      ∙ unwritten_by _ _ _ c.args.stream touching.Ends c.loop-last.ended c.args.page c.in-Some.ensures.cases.0 (sym c.in-Ends.is ∙ c.in_ok-touching_by.ensures);
}

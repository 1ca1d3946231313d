-- By what the last entry does to holds: it makes the one that is looked for, ends it, or leaves the place as it was.
use Rattle.std.proofs.Common.{rules, sym, ◌∙◌}
use Rattle.std.proofs.lemmas.List.{nil_from_length}
use Rattle.cc_model.specs.Holds.{holds_of}
use Rattle.cc_crash.specs.Effects.{effects}
use Rattle.cc_crash.proofs.HoldPlaces.{place_in_back, place_in_none, place_after-repins, place_after-repins_none, place_after-repins_other}
use Rattle.cc_events.proofs.HoldEvents.{choose_same, choose_other}
use Rattle.cc_crash.proofs.maps.+hold_place.Goals as goal

pub returns-in-Makes : goal.returns-in-Makes
returns-in-Makes t c =
    sym (c.loop-last.invariant.place
    ∙ (place_in_back _ _ _ _ _ c.args.hold c.in-Some.ensures.cases.0 c.in-Makes.ensures
    ∙ choose_same _ _ _ _ c.if-id-hold.true))

pub returns-in-Ends : goal.returns-in-Ends
returns-in-Ends t c =
    sym (c.loop-last.invariant.place
    ∙ (place_in_back _ _ _ _ _ c.args.hold c.in-Some.ensures.cases.0 c.in-Ends.ensures
    ∙ choose_same _ _ _ _ c.if-id-hold-2.true))

pub returns-in-Some-hold_place : goal.returns-in-Some-hold_place
returns-in-Some-hold_place t c =
    sym (c.loop-last.invariant.place
    ∙ (place_in_back _ _ _ _ _ c.args.hold c.in-Some.ensures.cases.0 c.in-Repins.ensures
    ∙ (place_after-repins c.in-Repins.id c.in-Repins.of c.args.hold (holds_of (effects c.in-Some.rest.now c.args.stream)) _ c.in-Some-hold_place.ensures
    ∙ choose_same c.in-Repins.id c.args.hold _ _ c.if-id-hold-3.true)))

pub returns : goal.returns
returns t c = sym (c.loop-last.invariant.place ∙ place_in_none _ _ _ (nil_from_length _ c.in_default.ensures.cases))

pub loop-last-preserved-in-Rests : goal.loop-last-preserved-in-Rests
loop-last-preserved-in-Rests t c = record {
  fewer = search rules;
  place = c.loop-last.invariant.place ∙ place_in_back _ _ _ _ _ c.args.hold c.in-Some.ensures.cases.0 c.in-Rests.ensures;
}

pub loop-last-preserved-else-id-hold : goal.loop-last-preserved-else-id-hold
loop-last-preserved-else-id-hold t c = record {
  fewer = search rules;
  place = c.loop-last.invariant.place
      ∙ (place_in_back _ _ _ _ _ c.args.hold c.in-Some.ensures.cases.0 c.in-Makes.ensures
      ∙ choose_other _ _ _ _ c.if-id-hold.false);
}

pub loop-last-preserved-else-id-hold-2 : goal.loop-last-preserved-else-id-hold-2
loop-last-preserved-else-id-hold-2 t c = record {
  fewer = search rules;
  place = c.loop-last.invariant.place
      ∙ (place_in_back _ _ _ _ _ c.args.hold c.in-Some.ensures.cases.0 c.in-Ends.ensures
      ∙ choose_other _ _ _ _ c.if-id-hold-2.false);
}

pub loop-last-preserved-in_default-hold_place : goal.loop-last-preserved-in_default-hold_place
loop-last-preserved-in_default-hold_place t c = record {
  fewer = search rules;
  place = c.loop-last.invariant.place
      ∙ (place_in_back _ _ _ _ _ c.args.hold c.in-Some.ensures.cases.0 c.in-Repins.ensures
      ∙ place_after-repins_none c.in-Repins.id c.in-Repins.of c.args.hold (holds_of (effects c.in-Some.rest.now c.args.stream)) c.in_default-hold_place.ensures);
}

pub loop-last-preserved : goal.loop-last-preserved
loop-last-preserved t c = record {
  fewer = search rules;
  place = c.loop-last.invariant.place
      ∙ (place_in_back _ _ _ _ _ c.args.hold c.in-Some.ensures.cases.0 c.in-Repins.ensures
      ∙ place_after-repins_other c.in-Repins.id c.in-Repins.of c.args.hold (holds_of (effects c.in-Some.rest.now c.args.stream)) c.if-id-hold-3.false);
}

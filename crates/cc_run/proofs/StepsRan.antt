-- The read-ahead steps of a phase: one more of them, others before and behind them, and what they did at the worker's place.
use Rattle.std.specs.Prelude.{◌≡◌, ◌≢◌, ℕ, ◌+◌, ◌≤◌, true, false, List, [], ◌∷◌, ◌++◌, length, vec_capacity, refl}
use Rattle.std.specs.declared.option.Option.{Option}
use Rattle.std.specs.declared.option.Option.TheVariants.{Some, None}
use Rattle.std.specs.List.{AllByRecursion}
use Rattle.std.proofs.Common.{ap, sym, subst, ◌∙◌, arith, append_assoc, inl, inr}
use Rattle.std.proofs.lemmas.List.{append-nil, length-append, map-append}
use Rattle.cc_entry.specs.declared.answer.Answer.{Answer}
use Rattle.cc_entry.specs.declared.answer.Answer.TheVariants as answer
use Rattle.cc_entry.specs.declared.answer.LineReply.{LineReply}
use Rattle.cc_entry.specs.declared.entry.Entry.{Entry}
use Rattle.cc_entry.specs.declared.error.CcError.TheVariants as error
use Rattle.cc_entry.specs.declared.place.Request.{Request}
use Rattle.cc_script.specs.declared.bound.Bound.{Bound}
use Rattle.cc_script.specs.declared.script.Action.TheVariants as action
use Rattle.cc_script.specs.declared.script.ActionLine.{ActionLine}
use Rattle.cc_model.specs.Setup.{Setup}
use Rattle.cc_effects.specs.Moments.{IsIdle}
use Rattle.cc_effects.proofs.Stretches.{idle-none, idle-then}
use Rattle.cc_lines.specs.Holds.{NamesState}
use Rattle.cc_lines.specs.Line.{IsFullTold, StepAt, WentOn}
use Rattle.cc_lines.specs.Queues.{PlaceWent, hand_of}
use Rattle.cc_pieces.specs.Answered.{AheadAnswered}
use Rattle.cc_pieces.specs.Bindings.{Binding}
use Rattle.cc_pieces.specs.Phases.{EndsWithNone, lazy_writer, read_ahead_worker}
use Rattle.cc_pieces.specs.Queue.{AheadStepPlaced, is_none_stepped}
use Rattle.cc_pieces.specs.Rooms.{HadNoRoom}
use Rattle.cc_pieces.proofs.AheadSteps.{AllTook, aheads-idle, aheads-since, none-more, took-more, took-ran}
use Rattle.cc_pieces.proofs.PlaceSteps.{place-stepped}
use Rattle.cc_queue.specs.Places.{PlaceState}
use Rattle.cc_turns.specs.Standing.{Standing}
use Rattle.cc_run.specs.Aheads.{WorkerMayStep, StepsMade, step_lines}
use Rattle.cc_run.specs.Desks.{PassIsReady}
use Rattle.cc_run.specs.Lines.{IsCaller, LinesEnd}
use Rattle.cc_run.specs.declared.aheads.Aheads.{Aheads}
use Rattle.cc_run.proofs.Acting.{full-at}
use Rattle.cc_run.proofs.LinesRan.{idle-lines}
use Rattle.cc_run.proofs.PlacesWent.{placed-idle, placed-on, placed-since, placed-then}

-- with little room, where others have little under way at most
pub room-stepped : (old new : Standing) (taken : Option Request) (told : Answer) → AheadAnswered old.setup old.number taken told old.seen new.seen → IsFullTold new told → new.others ≤ new.most_others → WentOn old new → old.in_flight ≡ 0 → old.most_others ≤ 28 → HadNoRoom old.setup 32 told old.seen new.seen
room-stepped old new (Some request) (answer.Refused (error.JournalFull entries)) answered full others went none few =
    let setup : new.setup ≡ old.setup = ap (λ w. w.setup) went.same in
    let idle : new.in_flight ≡ 0 = ap (λ w. w.in_flight) went.same ∙ none in
    let most : new.most_others ≡ old.most_others = ap (λ w. w.most_others) went.same in
    subst (λ u. HadNoRoom u 32 (answer.Refused (error.JournalFull entries)) old.seen new.seen) setup
    (full-at new 32 entries 3 (omega arith) answered.during old.seen answered.grew idle (omega (arith, others, most, few)) full)
room-stepped old new None (answer.Refused e) answered full others went none few = absurd answered
room-stepped old new taken (answer.NcRefused done cause) answered full others went none few = absurd answered
room-stepped old new taken (answer.Completed done) answered full others went none few = absurd answered
room-stepped old new taken other answered full others went none few = tt

-- ---- the steps so far, of which each took a request

pub record TookSo (u : Setup) (phase count : ℕ) (was now : Aheads) (old new : List Entry) : Type 0 where
  pub answers : List LineReply
  pub grew : now.answers.items ≡ was.answers.items ++ answers
  pub taken : List Request
  pub took : now.place.taken ≡ was.place.taken ++ taken
  pub counted : length answers ≡ count
  pub all : AllTook u 32 phase answers taken old new
  pub placed : PlaceWent read_ahead_worker (step_lines answers) was.place now.place old new
  pub each_is : now.each ≡ was.each
  pub room_is : vec_capacity now.answers ≡ vec_capacity was.answers

pub took-none : (u : Setup) (phase : ℕ) (aheads : Aheads) (past : List Entry) → TookSo u phase 0 aheads aheads past past
took-none u phase aheads past = record {
  answers = [];
  grew = sym (append-nil aheads.answers.items);
  taken = [];
  took = sym (append-nil aheads.place.taken);
  counted = refl;
  all = (refl, idle-none read_ahead_worker past);
  placed = placed-idle read_ahead_worker aheads.place past past (idle-none read_ahead_worker past);
  each_is = refl;
  room_is = refl;
}

-- all of them took one
pub took-made : (u : Setup) (phase count : ℕ) (was now : Aheads) (old new : List Entry) → TookSo u phase count was now old new → StepsMade u phase count was now old new
took-made u phase count was now old new so = record {
  answers = so.answers;
  grew = so.grew;
  taken = so.taken;
  took = so.took;
  left = record { counted = inl so.counted; ran = took-ran u 32 phase so.answers so.taken old new so.all };
  placed = so.placed;
  each_is = so.each_is;
  room_is = so.room_is;
}

-- one more that took one
pub took-on : (u : Setup) (phase count : ℕ) (was now next : Aheads) (reply : LineReply) (request : Request) (old between new : List Entry) → TookSo u phase count was now old between → next.answers.items ≡ now.answers.items ++ reply ∷ [] → next.place.taken ≡ now.place.taken ++ request ∷ [] → next.each ≡ now.each → vec_capacity next.answers ≡ vec_capacity now.answers → reply.line ≡ phase → AheadAnswered u read_ahead_worker (Some request) reply.answer between new → HadNoRoom u 32 reply.answer between new → PlaceWent read_ahead_worker ((action.AheadStep, reply.answer) ∷ []) now.place next.place between new → TookSo u phase (count + 1) was next old new
took-on u phase count was now next reply request old between new so items took each capacity is left room went = record {
  answers = so.answers ++ reply ∷ [];
  grew = items ∙ (ap (λ l. l ++ reply ∷ []) so.grew ∙ append_assoc was.answers.items so.answers (reply ∷ []));
  taken = so.taken ++ request ∷ [];
  took = took ∙ (ap (λ l. l ++ request ∷ []) so.took ∙ append_assoc was.place.taken so.taken (request ∷ []));
  counted = omega (arith, length-append so.answers (reply ∷ []), so.counted);
  all = took-more u 32 phase so.answers so.taken reply request old between new so.all is left room;
  placed =
      subst (λ l. PlaceWent read_ahead_worker l was.place next.place old new) (sym (map-append (λ (one : LineReply). (action.AheadStep, one.answer)) so.answers (reply ∷ [])))
      (placed-then read_ahead_worker (step_lines so.answers) ((action.AheadStep, reply.answer) ∷ []) was.place now.place next.place old between new so.placed went);
  each_is = each ∙ so.each_is;
  room_is = capacity ∙ so.room_is;
}

-- the last of several
ends-with : (replies : List LineReply) (reply : LineReply) → reply.answer ≡ answer.Stepped None → EndsWithNone (replies ++ reply ∷ [])
ends-with [] reply none = none
ends-with (first ∷ []) reply none = none
ends-with (first ∷ next ∷ replies) reply none = ends-with (next ∷ replies) reply none

-- one that found no request ends the phase
pub none-made : (u : Setup) (phase count limit : ℕ) (was now next : Aheads) (reply : LineReply) (old between new : List Entry) → TookSo u phase count was now old between → count + 1 ≤ limit → next.answers.items ≡ now.answers.items ++ reply ∷ [] → next.place.taken ≡ now.place.taken → next.each ≡ now.each → vec_capacity next.answers ≡ vec_capacity now.answers → reply.line ≡ phase → reply.answer ≡ answer.Stepped None → AheadAnswered u read_ahead_worker None reply.answer between new → HadNoRoom u 32 reply.answer between new → PlaceWent read_ahead_worker ((action.AheadStep, reply.answer) ∷ []) now.place next.place between new → StepsMade u phase limit was next old new
none-made u phase count limit was now next reply old between new so less items took each capacity is none left room went = record {
  answers = so.answers ++ reply ∷ [];
  grew = items ∙ (ap (λ l. l ++ reply ∷ []) so.grew ∙ append_assoc was.answers.items so.answers (reply ∷ []));
  taken = so.taken;
  took = took ∙ so.took;
  left = record {
    counted = inr (omega (arith, length-append so.answers (reply ∷ []), so.counted, less), ends-with so.answers reply none);
    ran = none-more u 32 phase so.answers so.taken reply old between new so.all is left room;
  };
  placed =
      subst (λ l. PlaceWent read_ahead_worker l was.place next.place old new) (sym (map-append (λ (one : LineReply). (action.AheadStep, one.answer)) so.answers (reply ∷ [])))
      (placed-then read_ahead_worker (step_lines so.answers) ((action.AheadStep, reply.answer) ∷ []) was.place now.place next.place old between new so.placed went);
  each_is = each ∙ so.each_is;
  room_is = capacity ∙ so.room_is;
}

-- ---- a step more, over any turns

-- a step that does not say that there was no request took one, and one that says so took none
step-took : (u : Setup) (me : ℕ) (taken : Option Request) (told : Answer) (old new : List Entry) → AheadAnswered u me taken told old new → is_none_stepped told ≡ false → (request : Request) × (taken ≡ Some request)
step-took u me (Some request) told old new left calm = (request, refl)
step-took u me None (answer.Stepped None) old new left calm = absurd (cc calm)
step-took u me None (answer.Stepped (Some done)) old new left calm = absurd left
step-took u me None (answer.Refused e) old new left calm = absurd left
step-took u me None other old new left calm = absurd left

step-found : (u : Setup) (me : ℕ) (taken : Option Request) (told : Answer) (old new : List Entry) → AheadAnswered u me taken told old new → is_none_stepped told ≡ true → (taken ≡ None) × (told ≡ answer.Stepped None)
step-found u me None (answer.Stepped None) old new left is = (refl, refl)
step-found u me (Some request) (answer.Stepped None) old new left is = absurd left
step-found u me taken (answer.Stepped (Some done)) old new left is = absurd (cc is)
step-found u me taken (answer.Refused e) old new left is = absurd (cc is)
step-found u me taken other old new left is = absurd left

module _ (w between new : Standing) (phase count : ℕ) (was now next : Aheads) (told : Answer) (may : WorkerMayStep w) (went : WentOn w between) (one : WentOn between new) (step : StepAt between new told now.place next.place) (full : IsFullTold new told) (few : new.others ≤ new.most_others) (so : TookSo w.setup phase count was now w.seen between.seen) (items : next.answers.items ≡ now.answers.items ++ record { line = phase; answer = told } ∷ []) (each : next.each ≡ now.each) (capacity : vec_capacity next.answers ≡ vec_capacity now.answers) where
  abbrev reply : LineReply
  reply = record { line = phase; answer = told }

  number-is : between.number ≡ read_ahead_worker
  number-is = ap (λ v. v.number) went.same ∙ may.is_worker

  setup-is : between.setup ≡ w.setup
  setup-is = ap (λ v. v.setup) went.same

  answered-as : AheadAnswered w.setup read_ahead_worker step.taken told between.seen new.seen
  answered-as =
      subst (λ me. AheadAnswered w.setup me step.taken told between.seen new.seen) number-is
      (subst (λ u. AheadAnswered u between.number step.taken told between.seen new.seen) setup-is step.answered)

  room-as : HadNoRoom w.setup 32 told between.seen new.seen
  room-as =
      let idle : between.in_flight ≡ 0 = ap (λ v. v.in_flight) went.same ∙ may.free.none in
      let least : between.most_others ≤ 28 = subst (λ (n : ℕ). n ≤ 28) (sym (ap (λ v. v.most_others) went.same)) may.few in
      subst (λ u. HadNoRoom u 32 told between.seen new.seen) setup-is (room-stepped between new step.taken told step.answered full few one idle least)

  placed-so : PlaceWent read_ahead_worker ((action.AheadStep, told) ∷ []) now.place next.place between.seen new.seen
  placed-so =
      subst (λ me. PlaceWent me ((action.AheadStep, told) ∷ []) now.place next.place between.seen new.seen) number-is
      (record {
        ran = place-stepped between.setup between.number (hand_of now.place) (hand_of next.place) between.seen new.seen step.taken told step.answered step.placed;
        queue_is = step.queue_is;
      })

  -- it took a request
  pub step-on : is_none_stepped told ≡ false → TookSo w.setup phase (count + 1) was next w.seen new.seen
  step-on calm =
      let some = step-took between.setup between.number step.taken told between.seen new.seen step.answered calm in
      let placed : AheadStepPlaced (Some some.0) (hand_of now.place) (hand_of next.place) = rw some.1 at step.placed in
      took-on w.setup phase count was now next reply some.0 w.seen between.seen new.seen so items (ap (λ p. p.taken) placed) each capacity refl
      (subst (λ taken. AheadAnswered w.setup read_ahead_worker taken told between.seen new.seen) some.1 answered-as) room-as placed-so

  -- it found none
  pub step-last : (limit : ℕ) → count + 1 ≤ limit → is_none_stepped told ≡ true → StepsMade w.setup phase limit was next w.seen new.seen
  step-last limit less found =
      let none = step-found between.setup between.number step.taken told between.seen new.seen step.answered found in
      let placed : AheadStepPlaced None (hand_of now.place) (hand_of next.place) = rw none.0 at step.placed in
      none-made w.setup phase count limit was now next reply w.seen between.seen new.seen so less items (ap (λ p. p.taken) placed) each capacity refl none.1
      (subst (λ taken. AheadAnswered w.setup read_ahead_worker taken told between.seen new.seen) none.0 answered-as) room-as placed-so

-- others go on behind them, and were there before
pub steps-idle : (u : Setup) (phase count : ℕ) (was now : Aheads) (old between new : List Entry) → StepsMade u phase count was now old between → IsIdle read_ahead_worker between new → StepsMade u phase count was now old new
steps-idle u phase count was now old between new made idle = record {
  answers = made.answers;
  grew = made.grew;
  taken = made.taken;
  took = made.took;
  left = record { counted = made.left.counted; ran = aheads-idle u 32 phase made.answers made.taken old between new made.left.ran idle };
  placed = placed-on read_ahead_worker (step_lines made.answers) was.place now.place old between new made.placed idle;
  each_is = made.each_is;
  room_is = made.room_is;
}

pub steps-since : (u : Setup) (phase count : ℕ) (was now : Aheads) (older old new : List Entry) → IsIdle read_ahead_worker older old → StepsMade u phase count was now old new → StepsMade u phase count was now older new
steps-since u phase count was now older old new idle made = record {
  answers = made.answers;
  grew = made.grew;
  taken = made.taken;
  took = made.took;
  left = record { counted = made.left.counted; ran = aheads-since u 32 phase made.answers made.taken older old new idle made.left.ran };
  placed = placed-since read_ahead_worker (step_lines made.answers) was.place now.place older old new idle made.placed;
  each_is = made.each_is;
  room_is = made.room_is;
}

-- on a desk that acts as the worker, it may make its steps, and what they left is what the desk's steps left
pub desk-may-step : (w0 w1 : Standing) → w1 ≡ record w0 { number = read_ahead_worker; since = w0.seen } → w1.most_others ≡ 0 → PassIsReady w0 → WorkerMayStep w1
desk-may-step w0 w1 acts alone ready = record {
  is_worker = ap (λ w. w.number) acts;
  free = record { free = ap (λ w. w.held) acts ∙ ready.free; none = ap (λ w. w.in_flight) acts ∙ ready.at_rest };
  few = omega (arith, alone);
}

pub desk-stepped : (w0 w1 : Standing) (phase : ℕ) (was now : Aheads) (new : List Entry) → w1 ≡ record w0 { number = read_ahead_worker; since = w0.seen } → StepsMade w1.setup phase was.each was now w1.seen new → StepsMade w0.setup phase was.each was now w0.seen new
desk-stepped w0 w1 phase was now new acts made =
    let setup : w1.setup ≡ w0.setup = ap (λ w. w.setup) acts in
    let seen : w1.seen ≡ w0.seen = ap (λ w. w.seen) acts in
    rw (setup, seen) at made

-- steps behind the lines and the ticks of a phase on a desk, whose callers are not the worker, are those of the phase from its begin on
pub steps-behind : (u v x : Standing) (phase : ℕ) (was at now : Aheads) (bounds : ℕ → List Bound) (bindings : ℕ → List Binding) (lines : List ActionLine) (before after : List LineReply) (old middle new newer newest : List Entry) (rows : List NamesState) → v.setup ≡ u.setup → x.setup ≡ v.setup → middle ≡ old → at ≡ was → AllByRecursion (λ line. IsCaller line.caller) lines → LinesEnd v bounds bindings lines before after middle new rows → ((me : ℕ) → me ≢ lazy_writer → IsIdle me new newer) → StepsMade x.setup phase at.each at now newer newest → StepsMade u.setup phase was.each was now old newest
steps-behind u v x phase was at now bounds bindings lines before after old middle new newer newest rows setup same entries steps callers ended alone made =
    let lines_idle = idle-lines v.setup read_ahead_worker bindings lines ended.served.answers middle new (omega arith) callers ended.served.left in
    let idle = idle-then read_ahead_worker middle new newer lines_idle (alone read_ahead_worker (λ e. omega (arith, e))) in
    let all : StepsMade x.setup phase at.each at now middle newest = steps-since x.setup phase at.each at now middle newer newest idle made in
    rw (same, setup, entries, steps) at all

-- what the steps of a phase did at the worker's place, behind those of the phases before
pub steps-placed : (u : Setup) (phase count : ℕ) (first : PlaceState Request) (was now : Aheads) (old between new : List Entry) → PlaceWent read_ahead_worker (step_lines was.answers.items) first was.place old between → StepsMade u phase count was now between new → PlaceWent read_ahead_worker (step_lines now.answers.items) first now.place old new
steps-placed u phase count first was now old between new went made =
    subst (λ l. PlaceWent read_ahead_worker (step_lines l) first now.place old new) (sym made.grew)
    (subst (λ l. PlaceWent read_ahead_worker l first now.place old new) (sym (map-append (λ (one : LineReply). (action.AheadStep, one.answer)) was.answers.items made.answers))
    (placed-then read_ahead_worker (step_lines was.answers.items) (step_lines made.answers) first was.place now.place old between new went made.placed))

pub none-placed : (place : PlaceState Request) (answers : List LineReply) (past : List Entry) → answers ≡ [] → PlaceWent read_ahead_worker (step_lines answers) place place past past
none-placed place answers past none = rw none (placed-idle read_ahead_worker place past past (idle-none read_ahead_worker past))

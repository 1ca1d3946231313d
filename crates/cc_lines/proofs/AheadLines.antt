-- The lines of read-ahead, and those of no queue: where one is told of a full journal it found it so, what it leaves explains it,
-- in the journal and at the queues, and the words stand on.
use Rattle.std.specs.Prelude.{◌≡◌, ℕ, ◌≤◌, false, Result, Ok, Err, List, [], ◌∷◌, refl}
use Rattle.std.specs.declared.option.Option.{Option}
use Rattle.std.specs.declared.option.Option.TheVariants.{Some, None}
use Rattle.std.proofs.Common.{ap, arith, inl, subst, sym}
use Rattle.cc_entry.specs.Place.{File}
use Rattle.cc_entry.specs.declared.place.Request.{Request}
use Rattle.cc_entry.specs.declared.answer.AheadDone.{AheadDone}
use Rattle.cc_entry.specs.declared.answer.Answer.{Answer}
use Rattle.cc_entry.specs.declared.answer.Answer.TheVariants as answer
use Rattle.cc_entry.specs.declared.call.Call.TheVariants as call
use Rattle.cc_entry.specs.declared.entry.Entry.{Entry}
use Rattle.cc_entry.specs.declared.error.CcError.{CcError}
use Rattle.cc_entry.specs.declared.error.CcError.TheVariants as error
use Rattle.cc_script.specs.declared.script.Action.{Action}
use Rattle.cc_script.specs.declared.script.Action.TheVariants as action
use Rattle.cc_model.specs.Good.{IsGood}
use Rattle.cc_model.specs.Setup.{Setup}
use Rattle.cc_effects.specs.Calls.{CallLeft}
use Rattle.cc_effects.specs.ReadAhead.{AheadLeft}
use Rattle.cc_own.specs.Own.{IsUnchanged}
use Rattle.cc_own.proofs.VerbsKeep.{ahead-unchanged}
use Rattle.cc_pieces.specs.Answered.{AheadAnswered, CallAnswered}
use Rattle.cc_pieces.specs.Queue.{AskPlaced, AheadStepPlaced, is_queue_action}
use Rattle.cc_pieces.specs.AsyncQueue.{is_async}
use Rattle.cc_pieces.proofs.AsyncPlaces.{async-other}
use Rattle.cc_pieces.proofs.PlaceSteps.{place-asked, place-other, place-stepped}
use Rattle.cc_async.specs.declared.queue.QueuedRead.{QueuedRead}
use Rattle.cc_queue.specs.Places.{PlaceState, PopLeft}
use Rattle.cc_calls.specs.Ahead.{AskedAt, IsFullAheadStep, StepEnds, ahead_outcome}
use Rattle.cc_calls.specs.Pages.{WentOn}
use Rattle.cc_calls.proofs.Paging.{full-within}
use Rattle.cc_turns.specs.Standing.{Standing}
use Rattle.cc_writes.specs.Ways.{IsFull}
use Rattle.cc_lines.specs.Holds.{NamesState}
use Rattle.cc_lines.specs.Line.{AnyServed, CanServe, IsFullTold, LineServed, NamesStandFor, StepAt, ask_told, step_told}
use Rattle.cc_lines.specs.Queues.{CopiesWent, PlaceWent, PlacesWent, copies_of, hand_of}
use Rattle.cc_lines.specs.declared.queues.Places.{Places}
use Rattle.cc_lines.proofs.WordLines.{answered-unchanged, full-told, stand-on}

-- ---- a read that is announced

pub ask-answered : (u : Setup) (me : ℕ) (file : File) (at len : ℕ) (ended : Result (Option Request) CcError) (old new : List Entry) → CallLeft u me (call.AskAhead file at len) (ahead_outcome ended) old new → CallAnswered u me (call.AskAhead file at len) (ask_told ended) old new
ask-answered u me file at len (Ok request) old new left = left
ask-answered u me file at len (Err e) old new left = left

pub ask-full : (n : ℕ) (w : Standing) (ended : Result (Option Request) CcError) → n ≤ 3 → IsFull n w ended → IsFullTold w (ask_told ended)
ask-full n w (Ok request) less full = tt
ask-full n w (Err e) less full = full-told n w e less full

pub ask-placed : (ended : Result (Option Request) CcError) (was now : PlaceState Request) → AskedAt ended was now → AskPlaced (ask_told ended) (hand_of was) (hand_of now)
ask-placed (Ok (Some request)) was now asked = ap hand_of asked
ask-placed (Ok None) was now asked = ap hand_of asked
ask-placed (Err error.QueueFull) was now asked = ap hand_of asked.0
ask-placed (Err other) was now asked = ap hand_of asked

pub ask-queue : (ended : Result (Option Request) CcError) (was now : PlaceState Request) → AskedAt ended was now → now.queue ≡ was.queue
ask-queue (Ok (Some request)) was now asked = ap (λ p. p.queue) asked
ask-queue (Ok None) was now asked = ap (λ p. p.queue) asked
ask-queue (Err error.QueueFull) was now asked = ap (λ p. p.queue) asked.0
ask-queue (Err other) was now asked = ap (λ p. p.queue) asked

-- ---- a step

step-answered : (u : Setup) (me : ℕ) (taken : Option Request) (ended : Result (Option AheadDone) CcError) (old new : List Entry) → AheadLeft u me taken ended old new → AheadAnswered u me taken (step_told ended) old new
step-answered u me taken (Ok step) old new left = left
step-answered u me taken (Err e) old new left = left

step-placed : (taken : Option Request) (was now : PlaceState Request) → PopLeft taken was now → AheadStepPlaced taken (hand_of was) (hand_of now) × (now.queue ≡ was.queue)
step-placed (Some request) was now popped = (ap hand_of popped, ap (λ p. p.queue) popped)
step-placed None was now popped = (ap hand_of popped.0, ap (λ p. p.queue) popped.0)

pub step-at : (old new : Standing) (ended : Result (Option AheadDone) CcError) (was now : PlaceState Request) → StepEnds old new was now ended → StepAt old new (step_told ended) was now
step-at old new ended was now ends =
    let placed = step-placed ends.taken was now ends.popped in
    record {
      taken = ends.taken;
      answered = step-answered old.setup old.number ends.taken ended old.seen new.seen ends.left;
      placed = placed.0;
      queue_is = placed.1;
    }

pub step-full : (old new : Standing) (taken : Option Request) (ended : Result (Option AheadDone) CcError) → AheadLeft old.setup old.number taken ended old.seen new.seen → IsFullAheadStep taken old new ended → IsFullTold new (step_told ended)
step-full old new taken (Ok step) left full = tt
step-full old new None (Err e) left full = absurd left
step-full old new (Some request) (Err e) left full = full-told 2 new e (omega arith) (full-within {A = Option AheadDone} (call.AheadStep request) old new (Err e) full)

-- ---- the lines

stepped-unchanged : (u : Setup) (me id : ℕ) (taken : Option Request) (told : Answer) (old new : List Entry) → AheadAnswered u me taken told old new → IsUnchanged me id old new
stepped-unchanged u me id taken (answer.Stepped step) old new left = ahead-unchanged u me id taken (Ok step) old new left
stepped-unchanged u me id taken (answer.Refused e) old new left = ahead-unchanged u me id taken (Err e) old new left
stepped-unchanged u me id taken other old new left = absurd left

module _ (old new : Standing) (told : Answer) (was now : NamesState) (full : IsFullTold new told) (went : WentOn old new) (good : IsGood old.setup new.seen) (rest : now ≡ record was { places = record was.places { ahead = now.places.ahead } }) where
  placed-at : (asked : Action) → is_async asked ≡ false → PlaceWent old.number ((asked, told) ∷ []) was.places.ahead now.places.ahead old.seen new.seen → PlacesWent old.number ((asked, told) ∷ []) was.places now.places old.seen new.seen
  placed-at asked apart went = record {
    ahead = went;
    copies =
        subst (λ (p : PlaceState QueuedRead). CopiesWent old.number ((asked, told) ∷ []) was.places.copies p) (sym (ap (λ n. n.places.copies) rest))
        (record { ran = async-other old.number asked told (copies_of was.places.copies) apart; queue_is = refl });
  }

  pub ask-line : (file : File) (at len : ℕ) → CallAnswered old.setup old.number (call.AskAhead file at len) told old.seen new.seen → AskPlaced told (hand_of was.places.ahead) (hand_of now.places.ahead) → now.places.ahead.queue ≡ was.places.ahead.queue → AnyServed old new (action.AskAhead file at len) told was now
  ask-line file at len left placed queue = record {
    served = λ bounds bindings stand right. (
      left,
      subst (λ (n : NamesState). NamesStandFor new bounds bindings n) (sym rest)
          (stand-on old new went good bounds bindings was
          (λ id. answered-unchanged old.setup old.number id (call.AskAhead file at len) told old.seen new.seen left refl) stand),
    );
    full = inl full;
    goes_on = went;
    good = good;
    room = ap (λ n. n.room) rest;
    placed = placed-at (action.AskAhead file at len) refl (record {
      ran = place-asked old.setup old.number file at len (hand_of was.places.ahead) (hand_of now.places.ahead) old.seen new.seen told left placed;
      queue_is = queue;
    });
  }

  pub step-line : StepAt old new told was.places.ahead now.places.ahead → AnyServed old new action.AheadStep told was now
  step-line at = record {
    served = λ bounds bindings stand right. (
      (at.taken, at.answered),
      subst (λ (n : NamesState). NamesStandFor new bounds bindings n) (sym rest)
          (stand-on old new went good bounds bindings was
          (λ id. stepped-unchanged old.setup old.number id at.taken told old.seen new.seen at.answered) stand),
    );
    full = inl full;
    goes_on = went;
    good = good;
    room = ap (λ n. n.room) rest;
    placed = placed-at action.AheadStep refl (record {
      ran = place-stepped old.setup old.number (hand_of was.places.ahead) (hand_of now.places.ahead) old.seen new.seen at.taken told at.answered at.placed;
      queue_is = at.queue_is;
    });
  }

-- a line that is none of the queues, which leaves the places as they are
pub other-line : (old new : Standing) (asked : Action) (told : Answer) (was now : NamesState) → CanServe old asked was → is_queue_action asked ≡ false → is_async asked ≡ false → LineServed old new asked told was now → AnyServed old new asked told was now
other-line old new asked told was now can plain apart line = record {
  served = line.served;
  full = line.full;
  goes_on = line.goes_on;
  good = line.good;
  room = line.room;
  placed =
      subst (λ (p : Places). PlacesWent old.number ((asked, told) ∷ []) was.places p old.seen new.seen) (sym line.placed)
      (record {
        ahead = record {
          ran =
              place-other old.setup old.number can.bindings asked told (hand_of was.places.ahead) old.seen new.seen plain
              (line.served can.bounds can.bindings can.stand can.right).0;
          queue_is = refl;
        };
        copies = record { ran = async-other old.number asked told (copies_of was.places.copies) apart; queue_is = refl };
      });
}

-- an action that is neither of the two of a queue
pub not-queue : (asked : Action) → ((file : File) (at len : ℕ) → asked ≡ action.AskAhead file at len → ⊥) → (asked ≡ action.AheadStep → ⊥) → is_queue_action asked ≡ false
not-queue (action.AskAhead file at len) never no_step = absurd (never file at len refl)
not-queue action.AheadStep never no_step = absurd (no_step refl)
not-queue other never no_step = refl

pub not-async : (asked : Action) → ((file : File) (at len : ℕ) → asked ≡ action.AsyncRead file at len → ⊥) → (asked ≡ action.Complete → ⊥) → is_async asked ≡ false
not-async (action.AsyncRead file at len) never not_over = absurd (never file at len refl)
not-async action.Complete never not_over = absurd (not_over refl)
not-async other never not_over = refl

-- the action is the one that was served
pub any-as : (old new : Standing) (asked plain : Action) (told : Answer) (was now : NamesState) → asked ≡ plain → AnyServed old new plain told was now → AnyServed old new asked told was now
any-as old new asked plain told was now is line = rw is line

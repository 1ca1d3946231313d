-- What a line of a caller leaves on a desk.
use Rattle.std.specs.Prelude.{◌≡◌, ◌≢◌, ℕ, ◌+◌, ◌<◌, ◌≤◌, List, ◌++◌, length, Result, Err, refl}
use Rattle.std.specs.declared.option.Option.TheVariants.{Some}
use Rattle.std.proofs.Common.{sym, ap, ◌∙◌, arith, inl, inr}
use Rattle.cc_entry.specs.declared.answer.Answer.{Answer}
use Rattle.cc_entry.specs.declared.answer.Answer.TheVariants as answer
use Rattle.cc_entry.specs.declared.call.Call.{Call}
use Rattle.cc_entry.specs.declared.error.CcError.{CcError}
use Rattle.cc_entry.specs.declared.error.CcError.TheVariants as error
use Rattle.cc_entry.specs.declared.entry.Entry.{Entry}
use Rattle.cc_script.specs.declared.bound.Bound.{Bound}
use Rattle.cc_script.specs.declared.script.ActionLine.{ActionLine}
use Rattle.cc_script.specs.HoldWords.{UsesRight}
use Rattle.cc_model.specs.Good.{IsGood}
use Rattle.cc_model.specs.Passes.{HasSeen}
use Rattle.cc_model.specs.Room.{room_in}
use Rattle.cc_model.specs.Setup.{Setup}
use Rattle.cc_effects.specs.Moments.{IsIdle}
use Rattle.cc_effects.proofs.Stretches.{some-end}
use Rattle.cc_pieces.specs.Answered.{CallAnswered}
use Rattle.cc_pieces.specs.Bindings.{Binding}
use Rattle.cc_pieces.specs.Rooms.{HadNoRoom, ToldNoRoom, JournalWasFull}
use Rattle.cc_pieces.specs.Served.{Served}
use Rattle.cc_turns.specs.Standing.{Standing}
use Rattle.cc_turns.specs.Takes.{HasActed}
use Rattle.cc_run.specs.Desks.{PassIsReady, IsSameRun, IsSamePass}
use Rattle.cc_lines.specs.Holds.{NamesStand, NamesState}
use Rattle.cc_lines.specs.Line.{CanServe, IsFullError, IsFullIn, IsFullTold, IsServable, LineEnds, WasFullError, WasFullIn, WasFullTold, WentOn}
use Rattle.cc_run.specs.Lines.{LineEnd, LineLeft, MayServeLine}
use Rattle.cc_run.proofs.Others.{idle-acted}

-- a journal that is full, with nothing of the pass under way and not much of others, was so at the end of the line
pub full-at : (w : Standing) (limit entries asked : ℕ) → 0 < asked → (during old : List Entry) → w.seen ≡ during ++ old → w.in_flight ≡ 0 → w.others + asked ≤ limit → IsFullError asked w (error.JournalFull entries) → JournalWasFull w.setup limit entries old w.seen
unfolding room_in
full-at w limit entries asked above during old grew rest few full =
    rw grew (some-end (λ moment. (entries ≡ length moment) × (room_in w.setup moment 0 < limit)) during old
    (rw (← grew) (full.0, omega (arith, full.1, rest, few, above))))

-- so at a moment of a line
full-then : (w v : Standing) (limit entries asked : ℕ) → 0 < asked → w.in_flight ≡ 0 → w.most_others + asked ≤ limit → WasFullError asked w v (error.JournalFull entries) → JournalWasFull w.setup limit entries w.seen v.seen
unfolding room_in
full-then w v limit entries asked above rest few was = record {
  moment = was.moment;
  later = was.later;
  since = was.since;
  ends = was.ends;
  begins = was.begins;
  holds = (was.holds.2.0, omega (arith, was.holds.2.1, was.holds.1, rest, few, above));
}

-- a line that found the journal full was so with little room, where others have little under way at most: it asks four
-- places at once at most
pub room-then : (w v : Standing) (limit : ℕ) (told : Answer) → w.in_flight ≡ 0 → w.most_others + 4 ≤ limit → WasFullTold w v told → HadNoRoom w.setup limit told w.seen v.seen
room-then w v limit (answer.Refused (error.JournalFull entries)) rest few was = full-then w v limit entries 3 (omega arith) rest (omega (arith, few)) was
room-then w v limit (answer.NcRefused done (error.JournalFull entries)) rest few (inl was) = full-then w v limit entries 2 (omega arith) rest (omega (arith, few)) was
room-then w v limit (answer.NcRefused done (error.JournalFull entries)) rest few (inr was) = full-then w v limit entries 4 (omega arith) rest few was.1
room-then w v limit (answer.Completed (Some done)) rest few was = by done.answer was
  where
    by : (o : Result (List ℕ) CcError) → WasFullIn w v o → ToldNoRoom w.setup limit o w.seen v.seen
    by (Err (error.JournalFull entries)) was = full-then w v limit entries 3 (omega arith) rest (omega (arith, few)) was
    by other was = tt
room-then w v limit other rest few was = tt

-- on a desk others have nothing under way
pub room-left : (w : Standing) (told : Answer) (old : List Entry) → HasSeen old w.seen → w.in_flight ≡ 0 → w.others ≡ 0 → IsFullTold w told → HadNoRoom w.setup 4 told old w.seen
room-left w (answer.Refused (error.JournalFull entries)) old seen rest alone full = full-at w 4 entries 3 (omega arith) seen.later old seen.grew rest (omega (arith, alone)) full
room-left w (answer.NcRefused done (error.JournalFull entries)) old seen rest alone (inl full) = full-at w 4 entries 2 (omega arith) seen.later old seen.grew rest (omega (arith, alone)) full
room-left w (answer.NcRefused done (error.JournalFull entries)) old seen rest alone (inr full) = full-at w 4 entries 4 (omega arith) seen.later old seen.grew rest (omega (arith, alone)) full.1
room-left w (answer.Completed (Some done)) old seen rest alone full = by done.answer full
  where
    by : (o : Result (List ℕ) CcError) → IsFullIn w o → ToldNoRoom w.setup 4 o old w.seen
    by (Err (error.JournalFull entries)) full = full-at w 4 entries 3 (omega arith) seen.later old seen.grew rest (omega (arith, alone)) full
    by other full = tt
room-left w other old seen rest alone full = tt

-- the same pass in the same run, where a call went on
pub goes-pass : (old new : Standing) → WentOn old new → IsSamePass old new
goes-pass old new went = record {
  run = record {
    setup = ap (λ w. w.setup) went.same;
    streams = ap (λ w. w.streams) went.same;
    disks = ap (λ w. w.disks) went.same;
    logs = ap (λ w. w.logs) went.same;
  };
  number = ap (λ w. w.number) went.same;
  since = ap (λ w. w.since) went.same;
}

pub run-then : (old between new : Standing) → IsSameRun old between → IsSameRun between new → IsSameRun old new
run-then old between new first second = record {
  setup = second.setup ∙ first.setup;
  streams = second.streams ∙ first.streams;
  disks = second.disks ∙ first.disks;
  logs = second.logs ∙ first.logs;
}

pub run-same : (w : Standing) → IsSameRun w w
run-same w = record { setup = refl; streams = refl; disks = refl; logs = refl }

pub pass-then : (old between new : Standing) → IsSamePass old between → IsSamePass between new → IsSamePass old new
pass-then old between new first second = record {
  run = run-then old between new first.run second.run;
  number = second.number ∙ first.number;
  since = second.since ∙ first.since;
}

-- a line is served by its caller, as what is kept of the caller's words allows
pub can-serve-line : (w0 w1 : Standing) (line : ActionLine) (names : NamesState) → w1 ≡ record w0 { number = line.caller; since = w0.seen } → PassIsReady w0 → IsServable w0.streams line.action → IsGood w1.setup w1.seen → MayServeLine w0.streams w0.seen line names → CanServe w1 line.action names
can-serve-line w0 w1 line names acts ready servable good may =
    let streams : w1.streams ≡ w0.streams = ap (λ w. w.streams) acts in
    let number : w1.number ≡ line.caller = ap (λ w. w.number) acts in
    let seen : w1.seen ≡ w0.seen = ap (λ w. w.seen) acts in
    record {
      servable = rw streams servable;
      free = ap (λ w. w.held) acts ∙ ready.free;
      none = ap (λ w. w.in_flight) acts ∙ ready.at_rest;
      good = good;
      bounds = may.bounds;
      bindings = may.bindings;
      stand = rw (streams, number, seen) may.stand;
      right = may.right;
      room = may.room;
    }

module _ (w0 w1 w2 : Standing) (caller : ℕ) (acts : w1 ≡ record w0 { number = caller; since = w0.seen }) (went : WentOn w1 w2) (own : HasActed w2.number w2.since w2.seen) (ready : PassIsReady w0) where
  number-is : w2.number ≡ caller
  number-is = ap (λ w. w.number) went.same ∙ ap (λ w. w.number) acts

  acted : HasActed caller w0.seen w2.seen
  acted =
      let since : w2.since ≡ w0.seen = ap (λ w. w.since) went.same ∙ ap (λ w. w.since) acts in
      rw (number-is, since) at own

  pub alone-after : (me : ℕ) → me ≢ caller → IsIdle me w0.seen w2.seen
  alone-after me other = idle-acted me caller w0.seen w2.seen other acted

  pub run-after : IsSameRun w0 w2
  run-after = record {
    setup = ap (λ w. w.setup) went.same ∙ ap (λ w. w.setup) acts;
    streams = ap (λ w. w.streams) went.same ∙ ap (λ w. w.streams) acts;
    disks = ap (λ w. w.disks) went.same ∙ ap (λ w. w.disks) acts;
    logs = ap (λ w. w.logs) went.same ∙ ap (λ w. w.logs) acts;
  }

  at_rest : w2.in_flight ≡ 0
  at_rest = ap (λ w. w.in_flight) went.same ∙ (ap (λ w. w.in_flight) acts ∙ ready.at_rest)

  pub ready-after : PassIsReady w2
  ready-after = record {
    free = ap (λ w. w.held) went.same ∙ (ap (λ w. w.held) acts ∙ ready.free);
    at_rest = at_rest;
  }

  pub left-after : (bindings : List Binding) (line : ActionLine) (told : Answer) → line.caller ≡ caller → Served w1.setup w1.number bindings line.action told w1.seen w2.seen → WasFullTold w1 w2 told → w1.most_others ≡ 0 → LineLeft w0.setup bindings line told w0.seen w2.seen
  left-after bindings line told is served full alone = record {
    explained = record {
      served =
          let setup : w1.setup ≡ w0.setup = ap (λ w. w.setup) acts in
          let number : w1.number ≡ line.caller = ap (λ w. w.number) acts ∙ sym is in
          let seen : w1.seen ≡ w0.seen = ap (λ w. w.seen) acts in
          rw (setup, number, seen) at served;
      room =
          let setup : w1.setup ≡ w0.setup = ap (λ w. w.setup) acts in
          let seen : w1.seen ≡ w0.seen = ap (λ w. w.seen) acts in
          let rest : w1.in_flight ≡ 0 = ap (λ w. w.in_flight) acts ∙ ready.at_rest in
          rw (setup, seen) at (room-then w1 w2 4 told rest (omega (arith, alone)) full);
    };
    alone = λ me other. alone-after me (λ e. other (e ∙ sym is));
  }

  -- and what is kept of the caller's words stands
  pub line-end : (bounds : List Bound) (bindings : List Binding) (line : ActionLine) (told : Answer) (was now : NamesState) → line.caller ≡ caller → LineEnds w1 w2 line.action told was now → w1.most_others ≡ 0 → NamesStand w0.streams line.caller w0.seen bounds bindings was.named → UsesRight bounds line.action → LineEnd w0 bounds bindings line told w0.seen w2.seen now
  line-end bounds bindings line told was now is ended alone stand right =
      let streams : w1.streams ≡ w0.streams = ap (λ w. w.streams) acts in
      let number : w1.number ≡ line.caller = ap (λ w. w.number) acts ∙ sym is in
      let seen : w1.seen ≡ w0.seen = ap (λ w. w.seen) acts in
      let so = ended.served bounds bindings (rw (streams, number, seen) stand) right in
      record {
        left = left-after bindings line told is so.0 ended.full.1 alone;
        stand = let now_is : w2.number ≡ line.caller = number-is ∙ sym is in rw (run-after.streams, now_is) at so.1;
      }

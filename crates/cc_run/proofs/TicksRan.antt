-- The ticks of a phase: one more of them, others before and behind them, and the answers of all phases.
use Rattle.std.specs.Prelude.{◌≡◌, ℕ, zero, suc, ◌+◌, ◌≤◌, ◌==◌, Bool, true, false, ◌&&◌, List, [], ◌∷◌, ◌++◌, vec_capacity, refl, if◌then◌else◌}
use Rattle.std.specs.List.{AllByRecursion}
use Rattle.std.proofs.Common.{ap, sym, subst, ◌∙◌, arith, append-nil, append_assoc, inl, inr}
use Rattle.std.proofs.lemmas.Bool.{ne_eqb}
use Rattle.std.proofs.lemmas.List.{length-append}
use Rattle.cc_entry.specs.declared.answer.Answer.{Answer}
use Rattle.cc_entry.specs.declared.answer.Answer.TheVariants as answer
use Rattle.cc_entry.specs.declared.answer.LineReply.{LineReply}
use Rattle.cc_entry.specs.declared.entry.Entry.{Entry}
use Rattle.cc_entry.specs.declared.entry.Entry.TheVariants as entry
use Rattle.cc_entry.specs.declared.error.CcError.{CcError}
use Rattle.cc_entry.specs.declared.error.CcError.TheVariants as error
use Rattle.cc_script.specs.declared.bound.Bound.{Bound}
use Rattle.cc_script.specs.declared.script.ActionLine.{ActionLine}
use Rattle.cc_model.specs.Setup.{Setup}
use Rattle.cc_effects.specs.Moments.{IsIdle}
use Rattle.cc_effects.specs.PageWrites.{TickCutOff}
use Rattle.cc_effects.proofs.Stretches.{idle-none}
use Rattle.cc_lines.specs.Line.{WentOn}
use Rattle.cc_pieces.specs.Answered.{TickAnswered}
use Rattle.cc_pieces.specs.Bindings.{Binding}
use Rattle.cc_pieces.specs.Phases.{lazy_writer}
use Rattle.cc_pieces.specs.Rooms.{HadNoRoom, room_limit}
use Rattle.cc_pieces.proofs.TickSteps.{ticks-idle, ticks-more, ticks-since}
use Rattle.cc_turns.specs.Standing.{Standing}
use Rattle.cc_lines.specs.Holds.{NamesState}
use Rattle.cc_lines.specs.Line.{IsFullTold}
use Rattle.cc_run.specs.Desks.{PassIsReady}
use Rattle.cc_run.specs.Lines.{IsCaller, LinesEnd}
use Rattle.cc_run.specs.Ticks.{MayTick, TicksMade}
use Rattle.cc_run.specs.declared.ticks.Ticks.{Ticks}
use Rattle.cc_run.proofs.Acting.{full-at}
use Rattle.cc_run.proofs.LinesRan.{idle-lines}

-- the journal grew by a tick
grew-cut_off : (me : ℕ) (e : CcError) (old new : List Entry) → TickCutOff me e old new → (during : List Entry) × (new ≡ during ++ old)
grew-cut_off me e old new (inl idle) = (idle.during, idle.grew)
grew-cut_off me e old new (inr after) =
    let is = after.2 in (
      after.1 ++ (entry.Scan me after.0 ∷ is.before),
      is.grew ∙ sym (append_assoc after.1 (entry.Scan me after.0 ∷ is.before) old),
    )

-- the pass goes on as it stood behind a tick more
pub ticked-on : (old between new : Standing) → WentOn old between → WentOn between new → WentOn old new
ticked-on old between new first second = record {
  same = second.same ∙ ap (λ (v : Standing). record v { seen = new.seen; others = new.others; device_turns = new.device_turns }) first.same;
}

-- with little room, where others have little under way at most
pub room-ticked : (old new : Standing) (told : Answer) → TickAnswered old.number told old.seen new.seen → IsFullTold new told → new.others ≤ new.most_others → WentOn old new → old.in_flight ≡ 0 → old.most_others ≤ 28 → HadNoRoom old.setup 32 told old.seen new.seen
room-ticked old new (answer.Refused (error.JournalFull entries)) answered full others went none few =
    let grew = grew-cut_off old.number (error.JournalFull entries) old.seen new.seen answered in
    let setup : new.setup ≡ old.setup = ap (λ w. w.setup) went.same in
    let idle : new.in_flight ≡ 0 = ap (λ w. w.in_flight) went.same ∙ none in
    let most : new.most_others ≡ old.most_others = ap (λ w. w.most_others) went.same in
    subst (λ u. HadNoRoom u 32 (answer.Refused (error.JournalFull entries)) old.seen new.seen) setup
    (full-at new 32 entries 3 (omega arith) grew.0 old.seen grew.1 idle (omega (arith, others, most, few)) full)
room-ticked old new (answer.NcRefused done cause) answered full others went none few = absurd answered
room-ticked old new (answer.Completed done) answered full others went none few = absurd answered
room-ticked old new other answered full others went none few = tt

-- none were made yet
pub made-none : (u : Setup) (phase : ℕ) (ticks : Ticks) (past : List Entry) → TicksMade u phase 0 ticks ticks past past
made-none u phase ticks past = record {
  answers = [];
  grew = sym (append-nil ticks.answers.items);
  left = record { counted = refl; ran = idle-none lazy_writer past };
  each_is = refl;
  room_is = refl;
}

-- one more was made
pub made-more : (u : Setup) (phase count : ℕ) (was now next : Ticks) (reply : LineReply) (old between new : List Entry) → TicksMade u phase count was now old between → next.answers.items ≡ now.answers.items ++ reply ∷ [] → next.each ≡ now.each → vec_capacity next.answers ≡ vec_capacity now.answers → reply.line ≡ phase → TickAnswered lazy_writer reply.answer between new → HadNoRoom u 32 reply.answer between new → TicksMade u phase (count + 1) was next old new
made-more u phase count was now next reply old between new made items each capacity is left room = record {
  answers = made.answers ++ reply ∷ [];
  grew = items ∙ (ap (λ l. l ++ reply ∷ []) made.grew ∙ append_assoc was.answers.items made.answers (reply ∷ []));
  left = record {
    counted = omega (arith, length-append made.answers (reply ∷ []), made.left.counted);
    ran = ticks-more u 32 phase made.answers reply old between new made.left.ran is left room;
  };
  each_is = each ∙ made.each_is;
  room_is = capacity ∙ made.room_is;
}

-- others go on behind them, and were there before
pub made-idle : (u : Setup) (phase count : ℕ) (was now : Ticks) (old between new : List Entry) → TicksMade u phase count was now old between → IsIdle lazy_writer between new → TicksMade u phase count was now old new
made-idle u phase count was now old between new made idle = record {
  answers = made.answers;
  grew = made.grew;
  left = record { counted = made.left.counted; ran = ticks-idle u 32 phase made.answers old between new made.left.ran idle };
  each_is = made.each_is;
  room_is = made.room_is;
}

pub made-since : (u : Setup) (phase count : ℕ) (was now : Ticks) (older old new : List Entry) → IsIdle lazy_writer older old → TicksMade u phase count was now old new → TicksMade u phase count was now older new
made-since u phase count was now older old new idle made = record {
  answers = made.answers;
  grew = made.grew;
  left = record { counted = made.left.counted; ran = ticks-since u 32 phase made.answers older old new idle made.left.ran };
  each_is = made.each_is;
  room_is = made.room_is;
}

-- on a desk that acts as the lazy writer, it may make its ticks
pub desk-may : (w0 w1 : Standing) → w1 ≡ record w0 { number = lazy_writer; since = w0.seen } → w1.most_others ≡ 0 → PassIsReady w0 → MayTick w1
desk-may w0 w1 acts alone ready = record {
  is_lazy = ap (λ w. w.number) acts;
  free = record { free = ap (λ w. w.held) acts ∙ ready.free; none = ap (λ w. w.in_flight) acts ∙ ready.at_rest };
  few = omega (arith, alone);
}

-- what they left is what the desk's ticks left
pub desk-made : (w0 w1 : Standing) (phase : ℕ) (was now : Ticks) (new : List Entry) → w1 ≡ record w0 { number = lazy_writer; since = w0.seen } → TicksMade w1.setup phase was.each was now w1.seen new → TicksMade w0.setup phase was.each was now w0.seen new
desk-made w0 w1 phase was now new acts made =
    let setup : w1.setup ≡ w0.setup = ap (λ w. w.setup) acts in
    let seen : w1.seen ≡ w0.seen = ap (λ w. w.seen) acts in
    rw (setup, seen) at made

-- where there are ticks, read-ahead steps, or several callers, a line may find little room
pub beside-limit : (ticks aheads : ℕ) (alone : Bool) → (ticks ≡ 0 → aheads ≡ 0 → alone ≡ true → ⊥) → room_limit ticks aheads alone ≡ 32
beside-limit zero zero true never = absurd (never refl refl refl)
beside-limit zero zero false never = refl
beside-limit zero (suc aheads) alone never = rw (ne_eqb (suc aheads) 0 (λ e. omega (arith, e))) (by alone)
  where
    by : (b : Bool) → ◌≡◌ {A = ℕ} (if b && (true && false) then 4 else 32) 32
    by true = refl
    by false = refl
beside-limit (suc ticks) aheads alone never = rw (ne_eqb (suc ticks) 0 (λ e. omega (arith, e))) (by alone)
  where
    by : (b : Bool) → ◌≡◌ {A = ℕ} (if b && (false && (aheads == 0)) then 4 else 32) 32
    by true = refl
    by false = refl

-- ticks behind the lines of a phase on a desk, whose callers are not the lazy writer, are those of the phase from its begin on
pub ticks-behind : (u v : Standing) (phase : ℕ) (was at now : Ticks) (bounds : ℕ → List Bound) (bindings : ℕ → List Binding) (lines : List ActionLine) (before after : List LineReply) (old middle new newer : List Entry) (rows : List NamesState) → v.setup ≡ u.setup → middle ≡ old → at ≡ was → AllByRecursion (λ line. IsCaller line.caller) lines → LinesEnd v bounds bindings lines before after middle new rows → TicksMade v.setup phase at.each at now new newer → TicksMade u.setup phase was.each was now old newer
ticks-behind u v phase was at now bounds bindings lines before after old middle new newer rows setup entries ticks callers ended made =
    let idle = idle-lines v.setup lazy_writer bindings lines ended.served.answers middle new (omega arith) callers ended.served.left in
    rw (setup, entries, ticks) at (made-since v.setup phase at.each at now middle new newer idle made)

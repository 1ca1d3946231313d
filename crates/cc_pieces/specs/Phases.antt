-- The phases of a run: in each, every caller runs its lines of the phase, the lazy writer its ticks and the
-- read-ahead worker its steps, all between the same two moments.
use Rattle.std.specs.Prelude.{◌≡◌, ◌≢◌, ℕ, zero, suc, ◌≤◌, Bool, ◌&&◌, ◌==◌, nat_lt, List, [], ◌∷◌, length, take, drop, ◌⊎◌}
use Rattle.std.specs.declared.option.Option.{Option}
use Rattle.std.specs.declared.option.Option.TheVariants.{Some, None}
use Rattle.cc_entry.specs.declared.answer.Answer.{Answer}
use Rattle.cc_entry.specs.declared.answer.Answer.TheVariants as answer
use Rattle.cc_entry.specs.declared.answer.LineReply.{LineReply}
use Rattle.cc_entry.specs.declared.place.Request.{Request}
use Rattle.cc_entry.specs.declared.entry.Entry.{Entry}
use Rattle.cc_script.specs.declared.script.Action.{Action}
use Rattle.cc_script.specs.declared.script.ActionLine.{ActionLine}
use Rattle.cc_model.specs.Setup.{Setup}
use Rattle.cc_effects.specs.Moments.{IsIdle, Between}
use Rattle.cc_pieces.specs.Answered.{TickAnswered, AheadAnswered}
use Rattle.cc_pieces.specs.Rooms.{HadNoRoom, is_alone, room_limit}
use Rattle.cc_pieces.specs.Runs.{Ran, bindings_of, asked_of}

-- the passes of the lazy writer and of the read-ahead worker
abbrev pub lazy_writer : ℕ
lazy_writer = 17

abbrev pub read_ahead_worker : ℕ
read_ahead_worker = 18

-- The lines of a run with their answers, in the order of the script, how many ticks a phase has, and how many read-ahead
-- steps at most.
pub record Plan : Type 0 where
  pub lines : List ActionLine
  pub answers : List LineReply
  pub ticks : ℕ
  pub aheads : ℕ

-- whether a line is the caller's and of the phase, or of an earlier phase
abbrev pub is_of_phase : ℕ → ℕ → ActionLine → Bool
is_of_phase phase me line = line.caller == me && line.phase == phase

abbrev pub is_before_phase : ℕ → ℕ → ActionLine → Bool
is_before_phase phase me line = line.caller == me && nat_lt line.phase phase

-- ticks of a phase, one after the other
abbrev pub TicksRan : Setup → ℕ → ℕ → List LineReply → Between
TicksRan u limit phase [] old new = IsIdle lazy_writer old new
TicksRan u limit phase (reply ∷ replies) old new =
    (between : List Entry)
    × (reply.line ≡ phase)
    × TickAnswered lazy_writer reply.answer old between
    × HadNoRoom u limit reply.answer old between
    × TicksRan u limit phase replies between new

-- the requests that steps took, of which the first took this one, or none
abbrev pub with_request : Option Request → List Request → List Request
with_request None taken = taken
with_request (Some request) taken = request ∷ taken

-- read-ahead steps of a phase, one after the other, that took these requests; none comes after one that took no request
abbrev pub AheadsRan : Setup → ℕ → ℕ → List LineReply → List Request → Between
AheadsRan u limit phase [] taken old new = (taken ≡ []) × IsIdle read_ahead_worker old new
AheadsRan u limit phase (reply ∷ replies) taken old new =
    (between : List Entry)
    × (request : Option Request)
    × (others : List Request)
    × (taken ≡ with_request request others)
    × (reply.line ≡ phase)
    × AheadAnswered u read_ahead_worker request reply.answer old between
    × HadNoRoom u limit reply.answer old between
    × (request ≡ None → replies ≡ [])
    × AheadsRan u limit phase replies others between new

-- the last of several answers was that there was no request
abbrev pub EndsWithNone : List LineReply → Type 0
EndsWithNone [] = ⊥
EndsWithNone (reply ∷ []) = reply.answer ≡ answer.Stepped None
EndsWithNone (reply ∷ next ∷ replies) = EndsWithNone (next ∷ replies)

-- the caller's lines of the phase with their answers, and those of earlier phases
abbrev pub lines_in : Plan → ℕ → ℕ → List (Action × Answer)
lines_in plan phase me = asked_of (is_of_phase phase me) plan.lines plan.answers

abbrev pub lines_before : Plan → ℕ → ℕ → List (Action × Answer)
lines_before plan phase me = asked_of (is_before_phase phase me) plan.lines plan.answers

-- with how much room a line of the phase may find the journal full
abbrev pub limit_in : Plan → ℕ → ℕ
limit_in plan phase = room_limit plan.ticks plan.aheads (is_alone phase plan.lines)

-- One phase: each caller ran its lines of the phase, with the bindings of its earlier ones; so many ticks were
-- made, and so many read-ahead steps, or fewer where the last found no request, and these took the requests. No other pass
-- placed anything.
pub record PhaseRan (u : Setup) (plan : Plan) (phase : ℕ) (ticked stepped : List LineReply) (taken : List Request)
    (old new : List Entry) : Type 0 where
  pub callers :
      (me : ℕ) → me ≢ lazy_writer → me ≢ read_ahead_worker →
      Ran u (limit_in plan phase) me (bindings_of [] (lines_before plan phase me)) (lines_in plan phase me) old new
  pub all_ticks : length ticked ≡ plan.ticks
  pub ticks : TicksRan u 32 phase ticked old new
  pub all_steps : (length stepped ≡ plan.aheads) ⊎ ((length stepped ≤ plan.aheads) × EndsWithNone stepped)
  pub steps : AheadsRan u 32 phase stepped taken old new

-- so many phases, numbered from this one on, one after the other
abbrev pub PhasesRan : Setup → Plan → ℕ → ℕ → List LineReply → List LineReply → List Request → Between
PhasesRan u plan phase zero ticked stepped taken old new = (ticked ≡ []) × (stepped ≡ []) × (taken ≡ []) × (new ≡ old)
PhasesRan u plan phase (suc left) ticked stepped taken old new =
    (between : List Entry)
    × (steps : ℕ)
    × (requests : ℕ)
    × PhaseRan u plan phase (take plan.ticks ticked) (take steps stepped) (take requests taken) old between
    × PhasesRan u plan (suc phase) left (drop plan.ticks ticked) (drop steps stepped) (drop requests taken) between new

-- What the phases of a script leave, one after the other.
use Rattle.std.specs.Prelude.{◌≡◌, ◌≢◌, ℕ, zero, suc, List, [], ◌++◌, map}
use Rattle.std.specs.List.{AllByRecursion}
use Rattle.cc_entry.specs.declared.answer.LineReply.{LineReply}
use Rattle.cc_entry.specs.declared.entry.Entry.{Entry}
use Rattle.cc_entry.specs.declared.place.Request.{Request}
use Rattle.cc_script.specs.declared.script.ActionLine.{ActionLine}
use Rattle.cc_model.specs.Setup.{Setup}
use Rattle.cc_effects.specs.Moments.{Between}
use Rattle.cc_pieces.specs.Bindings.{Binding}
use Rattle.cc_pieces.specs.Explained.{answered_lines}
use Rattle.cc_pieces.specs.Phases.{is_of_phase, lazy_writer, read_ahead_worker}
use Rattle.cc_pieces.specs.Rooms.{is_alone, room_limit}
use Rattle.cc_pieces.specs.Runs.{Ran, asked_of}
use Rattle.cc_script.specs.declared.bound.Bound.{Bound}
use Rattle.cc_lines.specs.Holds.{NamesState}
use Rattle.cc_run.specs.Lines.{AllStand, after_lines, bound_by}
use Rattle.cc_run.specs.Aheads.{StepsLeft}
use Rattle.cc_run.specs.Ticks.{TicksLeft}

-- Each line of a phase, in which so many ticks are made and so many read-ahead steps at most, has a reply, and each pass but the
-- two workers made the calls of its lines of the phase, over what its words name, and placed nothing else.
pub record PhaseLeft (u : Setup) (phase ticks aheads : ℕ) (bindings : ℕ → List Binding) (lines : List ActionLine)
    (replies : List LineReply) (old new : List Entry) : Type 0 where
  pub lines_are : answered_lines replies ≡ map (λ line. line.line) lines
  pub ran : (me : ℕ) → me ≢ lazy_writer → me ≢ read_ahead_worker →
      Ran u (room_limit ticks aheads (is_alone phase lines)) me (bindings me) (asked_of (is_of_phase phase me) lines replies) old new

-- The lines of a phase were served, and their replies stand behind those that were there.
pub record PhaseServed (u : Setup) (phase ticks aheads : ℕ) (bindings : ℕ → List Binding) (lines : List ActionLine)
    (before after : List LineReply) (old new : List Entry) : Type 0 where
  pub answers : List LineReply
  pub grew : after ≡ before ++ answers
  pub left : PhaseLeft u phase ticks aheads bindings lines answers old new

-- A phase was served, and what is kept of the callers' words stands for it.
pub record PhaseEnds (u : Setup) (streams phase ticks aheads : ℕ) (bounds : ℕ → List Bound) (bindings : ℕ → List Binding)
    (lines : List ActionLine) (before after : List LineReply) (old new : List Entry) (rows : List NamesState) : Type 0 where
  pub served : PhaseServed u phase ticks aheads bindings lines before after old new
  pub stand : AllStand streams new (bound_by lines bounds) (after_lines lines served.answers bindings) rows

-- so many phases, each with so many ticks and so many read-ahead steps at most, from the first on, one after the other, of which
-- these are the lines, with their replies, the answers of the ticks, those of the steps, and the requests that these took
abbrev pub PhasesLeft : Setup → ℕ → ℕ → ℕ → List ActionLine → List LineReply → List LineReply → List LineReply → List Request → Between
PhasesLeft u ticks aheads zero lines replies ticked stepped taken old new =
    (lines ≡ []) × (replies ≡ []) × (ticked ≡ []) × (stepped ≡ []) × (taken ≡ []) × (new ≡ old)
PhasesLeft u ticks aheads (suc before) lines replies ticked stepped taken old new =
    (earlier : List ActionLine)
    × (last : List ActionLine)
    × (told : List LineReply)
    × (answers : List LineReply)
    × (ticked_before : List LineReply)
    × (ticked_last : List LineReply)
    × (stepped_before : List LineReply)
    × (stepped_last : List LineReply)
    × (taken_before : List Request)
    × (taken_last : List Request)
    × (between : List Entry)
    × (lines ≡ earlier ++ last)
    × (replies ≡ told ++ answers)
    × (ticked ≡ ticked_before ++ ticked_last)
    × (stepped ≡ stepped_before ++ stepped_last)
    × (taken ≡ taken_before ++ taken_last)
    × PhasesLeft u ticks aheads before earlier told ticked_before stepped_before taken_before old between
    × AllByRecursion (λ line. line.phase ≡ suc before) last
    × PhaseLeft u (suc before) ticks aheads (after_lines earlier told (λ me. [])) last answers between new
    × TicksLeft u (suc before) ticks ticked_last between new
    × StepsLeft u (suc before) aheads stepped_last taken_last between new

-- The phases were served, the replies of their lines stand behind those that were there, these are the answers of the ticks and of
-- the read-ahead steps, and these the requests that the steps took.
pub record PhasesServed (u : Setup) (ticks aheads phases : ℕ) (lines : List ActionLine) (before after ticked stepped : List LineReply)
    (taken : List Request) (old new : List Entry) : Type 0 where
  pub answers : List LineReply
  pub grew : after ≡ before ++ answers
  pub left : PhasesLeft u ticks aheads phases lines answers ticked stepped taken old new

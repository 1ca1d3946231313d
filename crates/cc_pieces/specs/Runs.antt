-- The run of one caller: its lines in their order left pieces that follow each other.
use Rattle.std.specs.Prelude.{ℕ, Bool, List, [], ◌∷◌, if◌then◌else◌}
use Rattle.cc_entry.specs.declared.answer.Answer.{Answer}
use Rattle.cc_entry.specs.declared.answer.LineReply.{LineReply}
use Rattle.cc_entry.specs.declared.entry.Entry.{Entry}
use Rattle.cc_script.specs.declared.script.Action.{Action}
use Rattle.cc_script.specs.declared.script.ActionLine.{ActionLine}
use Rattle.cc_model.specs.Setup.{Setup}
use Rattle.cc_effects.specs.Moments.{IsIdle, Between}
use Rattle.cc_pieces.specs.Bindings.{Binding}
use Rattle.cc_pieces.specs.Served.{Served, bindings_after}
use Rattle.cc_pieces.specs.Rooms.{HadNoRoom}

-- from one moment to another, a caller's line left a piece that explains its answer
pub record Explains (u : Setup) (limit me : ℕ) (bindings : List Binding) (asked : Action) (told : Answer)
    (old new : List Entry) : Type 0 where
  pub served : Served u me bindings asked told old new
  pub room : HadNoRoom u limit told old new

-- From one moment to another, a caller's lines, each with its answer, left pieces that follow each other, and
-- the caller placed nothing else.
abbrev pub Ran : Setup → ℕ → ℕ → List Binding → List (Action × Answer) → Between
Ran u limit me bindings [] old new = IsIdle me old new
Ran u limit me bindings (line ∷ more) old new =
    (between : List Entry)
    × Explains u limit me bindings line.0 line.1 old between
    × Ran u limit me (bindings_after line.0 line.1 bindings) more between new

-- the bindings after several lines
abbrev pub bindings_of : List Binding → List (Action × Answer) → List Binding
bindings_of bindings [] = bindings
bindings_of bindings (line ∷ more) = bindings_of (bindings_after line.0 line.1 bindings) more

-- the lines that pass a test, each with what it was answered
abbrev pub asked_of : (ActionLine → Bool) → List ActionLine → List LineReply → List (Action × Answer)
asked_of test (line ∷ lines) (reply ∷ replies) =
    if test line then (line.action, reply.answer) ∷ asked_of test lines replies else asked_of test lines replies
asked_of test lines replies = []

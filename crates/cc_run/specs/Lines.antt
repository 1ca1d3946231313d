-- What the lines of a script leave, one after the other.
use Rattle.std.specs.Prelude.{◌≡◌, ◌≢◌, ℕ, suc, ◌+◌, ◌≤◌, ◌==◌, List, [], ◌∷◌, ◌++◌, length, map, slice_get, if◌then◌else◌}
use Rattle.std.specs.declared.option.Option.TheVariants.{Some}
use Rattle.std.specs.List.{AllByRecursion}
use Rattle.cc_entry.specs.declared.answer.Answer.{Answer}
use Rattle.cc_entry.specs.declared.answer.LineReply.{LineReply}
use Rattle.cc_entry.specs.declared.entry.Entry.{Entry}
use Rattle.cc_script.specs.declared.script.Action.{Action}
use Rattle.cc_script.specs.declared.script.ActionLine.{ActionLine}
use Rattle.cc_script.specs.declared.script.StreamLine.{StreamLine}
use Rattle.cc_script.specs.declared.script.RestartLine.{RestartLine}
use Rattle.cc_pieces.specs.Restarts.{refused_for}
use Rattle.cc_script.specs.HoldWords.{AreUsedRight, UsesRight, bound_after, bound_so_far, words_bound}
use Rattle.cc_script.specs.declared.bound.Bound.{Bound}
use Rattle.cc_model.specs.Setup.{Setup}
use Rattle.cc_effects.specs.Moments.{Between, IsIdle}
use Rattle.cc_pieces.specs.Bindings.{Binding}
use Rattle.cc_pieces.specs.Openings.{Opens}
use Rattle.cc_pieces.specs.Runs.{Explains, asked_of, bindings_of}
use Rattle.cc_pieces.specs.Served.{bindings_after}
use Rattle.cc_pieces.specs.Explained.{answered_lines}
use Rattle.cc_turns.specs.Standing.{Standing}
use Rattle.cc_lines.specs.Holds.{NamesState, NamesStand, HasRoomForWord}

-- the number of a caller of a script
pub record IsCaller (number : ℕ) : Type 0 where
  pub first : 1 ≤ number
  pub last : number ≤ 16

-- the bindings of each caller behind a line
abbrev pub after_line : ActionLine → Answer → (ℕ → List Binding) → ℕ → List Binding
after_line line told bindings me =
    if line.caller == me then bindings_after line.action told (bindings me) else bindings me

-- the lines of a caller, each with its answer
abbrev pub asked_by_caller : ℕ → List ActionLine → List LineReply → List (Action × Answer)
asked_by_caller me lines replies = asked_of (λ line. line.caller == me) lines replies

-- the bindings of each caller behind several lines
abbrev pub after_lines : List ActionLine → List LineReply → (ℕ → List Binding) → ℕ → List Binding
after_lines lines replies bindings me = bindings_of (bindings me) (asked_by_caller me lines replies)

-- what each caller bound, behind several lines
abbrev pub bound_by : List ActionLine → (ℕ → List Bound) → ℕ → List Bound
bound_by lines bounds me = bound_so_far me (bounds me) lines

-- A line left what explains its answer, and its caller alone placed anything.
pub record LineLeft (u : Setup) (bindings : List Binding) (line : ActionLine) (told : Answer) (old new : List Entry) : Type 0 where
  pub explained : Explains u 4 line.caller bindings line.action told old new
  pub alone : (me : ℕ) → me ≢ line.caller → IsIdle me old new

-- lines left what explains their answers, each with a reply of its own
abbrev pub LinesLeft : Setup → (ℕ → List Binding) → List ActionLine → List LineReply → Between
LinesLeft u bindings [] [] old new = new ≡ old
LinesLeft u bindings (line ∷ lines) (reply ∷ replies) old new =
    (between : List Entry)
    × (reply.line ≡ line.line)
    × LineLeft u (bindings line.caller) line reply.answer old between
    × LinesLeft u (after_line line reply.answer bindings) lines replies between new
LinesLeft u bindings lines replies old new = ⊥

-- The lines were served, and their replies stand behind those that were there.
pub record LinesServed (u : Setup) (bindings : ℕ → List Binding) (lines : List ActionLine) (before after : List LineReply)
    (old new : List Entry) : Type 0 where
  pub answers : List LineReply
  pub grew : after ≡ before ++ answers
  pub left : LinesLeft u bindings lines answers old new

-- What is kept of the words of the 16 callers stands for a past.
pub record AllStand (streams : ℕ) (past : List Entry) (bounds : ℕ → List Bound) (bindings : ℕ → List Binding)
    (rows : List NamesState) : Type 0 where
  pub counted : length rows ≡ 16
  pub each : (n : ℕ) (names : NamesState) → slice_get rows n ≡ Some names →
      NamesStand streams (suc n) past (bounds (suc n)) (bindings (suc n)) names.named

-- There is room for the words that each caller binds in these lines.
abbrev pub HaveRoom : List ActionLine → List NamesState → Type 0
HaveRoom lines rows =
    (n : ℕ) (names : NamesState) → slice_get rows n ≡ Some names → length names.named + words_bound (suc n) lines ≤ names.room

-- Lines may be served with what is kept of the callers' words: it stands for the past, each caller uses its words right,
-- and there is room for those that it binds.
pub record MayServe (streams : ℕ) (past : List Entry) (lines : List ActionLine) (rows : List NamesState) : Type 0 where
  pub bounds : ℕ → List Bound
  pub bindings : ℕ → List Binding
  pub stand : AllStand streams past bounds bindings rows
  pub right : (me : ℕ) → AreUsedRight me (bounds me) lines
  pub room : HaveRoom lines rows

-- A line may be served with what is kept of its caller's words.
pub record MayServeLine (streams : ℕ) (past : List Entry) (line : ActionLine) (names : NamesState) : Type 0 where
  pub bounds : List Bound
  pub bindings : List Binding
  pub stand : NamesStand streams line.caller past bounds bindings names.named
  pub right : UsesRight bounds line.action
  pub room : HasRoomForWord line.action names

-- A line was served, and what is kept of its caller's words stands for it.
pub record LineEnd (w : Standing) (bounds : List Bound) (bindings : List Binding) (line : ActionLine) (told : Answer)
    (old new : List Entry) (names : NamesState) : Type 0 where
  pub left : LineLeft w.setup bindings line told old new
  pub stand :
      NamesStand w.streams line.caller new (bound_after line.action bounds) (bindings_after line.action told bindings) names.named

-- Lines were served, and what is kept of the callers' words stands for them.
pub record LinesEnd (w : Standing) (bounds : ℕ → List Bound) (bindings : ℕ → List Binding) (lines : List ActionLine)
    (before after : List LineReply) (old new : List Entry) (rows : List NamesState) : Type 0 where
  pub served : LinesServed w.setup bindings lines before after old new
  pub stand : AllStand w.streams new (bound_by lines bounds) (after_lines lines served.answers bindings) rows

-- Nothing is kept of any word yet; each of the 16 callers uses its words right in these lines, and there is room for
-- those that it binds.
pub record HaveNoWords (lines : List ActionLine) (rows : List NamesState) : Type 0 where
  pub counted : length rows ≡ 16
  pub none : AllByRecursion (λ names. names.named ≡ []) rows
  pub right : (me : ℕ) → AreUsedRight me [] lines
  pub room : HaveRoom lines rows

-- the rows of words have the room that they had
abbrev pub KeepRoom : List NamesState → List NamesState → Type 0
KeepRoom was now = map (λ names. names.room) now ≡ map (λ names. names.room) was

-- the streams, numbered from one on, were opened one after the other, each with a reply of its own, behind restarts that were
-- answered so
abbrev pub StreamsLeft : Setup → List RestartLine → List LineReply → ℕ → List StreamLine → List LineReply → Between
StreamsLeft u restarts ended s [] [] old new = new ≡ old
StreamsLeft u restarts ended s (stream ∷ streams) (reply ∷ replies) old new =
    (between : List Entry)
    × Opens u s stream (refused_for stream.log restarts ended) reply.answer old between
    × StreamsLeft u restarts ended (suc s) streams replies between new
StreamsLeft u restarts ended s streams replies old new = ⊥

-- The streams were opened, behind restarts that were answered so, and the replies of their lines stand behind those that were there.
pub record StreamsOpened (u : Setup) (restarts : List RestartLine) (ended : List LineReply) (s : ℕ) (streams : List StreamLine)
    (before after : List LineReply) (old new : List Entry) : Type 0 where
  pub answers : List LineReply
  pub grew : after ≡ before ++ answers
  pub lines_are : answered_lines answers ≡ map (λ stream. stream.line) streams
  pub left : StreamsLeft u restarts ended s streams answers old new

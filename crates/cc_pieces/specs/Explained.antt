-- The journal of a run, and the answers of a script's lines, explain each other.
use Rattle.std.specs.Prelude.{◌≡◌, ◌≢◌, ℕ, nat_eq, true, List, [], ◌++◌, map}
use Rattle.std.specs.List.{flat_map, IsDistinct}
use Rattle.cc_entry.specs.declared.answer.LineReply.{LineReply}
use Rattle.cc_entry.specs.declared.place.Request.{Request}
use Rattle.cc_entry.specs.declared.entry.Entry.{Entry}
use Rattle.cc_script.specs.declared.script.ActionLine.{ActionLine}
use Rattle.cc_script.specs.declared.script.StreamLine.{StreamLine}
use Rattle.cc_script.specs.declared.script.RestartLine.{RestartLine}
use Rattle.cc_model.specs.Setup.{Setup}
use Rattle.cc_effects.specs.Moments.{IsIdle}
use Rattle.cc_pieces.specs.Served.{posted_by}
use Rattle.cc_pieces.specs.Runs.{asked_of}
use Rattle.cc_pieces.specs.Restarts.{RestartsInOrder}
use Rattle.cc_pieces.specs.Openings.{Opened}
use Rattle.cc_pieces.specs.Phases.{PhasesRan}

-- the numbers of the lines that replies answer
abbrev pub answered_lines : List LineReply → List ℕ
answered_lines replies = map (λ reply. reply.line) replies

-- the deferred writes that the lines posted
abbrev pub posted_in : List ActionLine → List LineReply → List ℕ
posted_in lines answers = flat_map (λ line. posted_by line.0 line.1) (asked_of (λ line. true) lines answers)

-- what a run was given: the lines of a script, how many phases they have, how many ticks a phase has, and how many
-- read-ahead steps at most
pub record GivenToRun : Type 0 where
  pub restarts : List RestartLine
  pub streams : List StreamLine
  pub lines : List ActionLine
  pub phases : ℕ
  pub ticks : ℕ
  pub aheads : ℕ

-- what it answered: the replies of the lines, those of restarts and then of streams first, and the answers of the two workers
pub record Answered : Type 0 where
  pub replies : List LineReply
  pub ticked : List LineReply
  pub stepped : List LineReply

-- A script and its answers are explained by a past: each line has one reply, in the script's order, those of the restarts
-- and then the streams' first. The pass that sets the run up, 0, ended the restarts and opened the streams before all else;
-- then the phases ran,
-- each caller made the calls of its lines, and no other pass placed anything; a post is no pass's. No deferred
-- write was posted in two answers. The read-ahead worker took these requests, of all phases.
pub record IsExplained (u : Setup) (given : GivenToRun) (told : Answered) (taken : List Request) (past : List Entry) : Type 0 where
  pub ended : List LineReply
  pub setup : List LineReply
  pub answers : List LineReply
  pub restarted : List Entry
  pub begun : List Entry
  pub replies_are : told.replies ≡ ended ++ (setup ++ answers)
  pub restart_lines : answered_lines ended ≡ map (λ restart. restart.line) given.restarts
  pub setup_lines : answered_lines setup ≡ map (λ stream. stream.line) given.streams
  pub answer_lines : answered_lines answers ≡ map (λ line. line.line) given.lines
  pub restarts_ended : RestartsInOrder u given.restarts ended [] restarted
  pub opened : Opened u given.restarts ended 0 given.streams setup restarted begun
  pub alone : (me : ℕ) → me ≢ 0 → IsIdle me [] begun
  pub ran :
      PhasesRan u (record { lines = given.lines; answers = answers; ticks = given.ticks; aheads = given.aheads })
      1 given.phases told.ticked told.stepped taken begun past
  pub posted_once : IsDistinct nat_eq (posted_in given.lines answers)

-- The run of a script as contracts see it.
use Rattle.std.specs.Prelude.{◌≡◌, ℕ, List}
use Rattle.std.specs.declared.option.Option.{Option}
use Rattle.cc_entry.specs.declared.answer.LineReply.{LineReply}
use Rattle.cc_script.specs.declared.script.Script.{Script}
use Rattle.cc_pieces.specs.Steps.{IsSteppedThrough, deferrals_by}
use Rattle.cc_turns.specs.Desk.{Begun, Tells}
-- the World that a run leaves, and the disks and logs that it gives back
pub use Rattle.cc_world.specs.World.{WorldDisksEnded, WorldLogsEnded, WorldState}
use Rattle.cc_turns.specs.Slots.{setup_in}

-- The World that a run left, the reply of each line, the numbers of the writes that its `defer` lines deferred, or none
-- where one was refused, and the post routines as they were handed in.
pub record RunState (D L Q : Type 0) : Type 0 where
  pub world : WorldState D L Q
  pub replies : List LineReply
  pub deferrals : List (Option ℕ)
  pub posts : List Q

-- A script was run over this: its answers and the journal explain each other.
pub record IsScriptRun {D L Q : Type 0} (tells : Tells D L Q) (script : Script) (begun : Begun D L) (handed : List Q)
    (run : RunState D L Q) : Type 0 where
  pub begun_is : run.world.begun ≡ begun
  pub explained : IsSteppedThrough (setup_in tells begun) script.streams script.lines run.replies run.world.journal.entries
  pub deferrals : run.deferrals ≡ deferrals_by script.streams script.lines run.replies
  pub posts : run.posts ≡ handed

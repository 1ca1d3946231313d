-- With what a run began, and how.
use Rattle.std.specs.Prelude.{◌≢◌, ℕ, List, []}
use Rattle.cc_entry.specs.declared.answer.LineReply.{LineReply}
use Rattle.cc_entry.specs.declared.entry.Entry.{Entry}
use Rattle.cc_script.specs.declared.script.Script.{Script}
use Rattle.cc_model.specs.Setup.{Setup}
use Rattle.cc_effects.specs.Moments.{IsIdle}
use Rattle.cc_restarts.specs.declared.ended.LogRestart.{LogRestart}
use Rattle.cc_run.specs.Lines.{StreamsOpened}
use Rattle.cc_program.specs.Restarting.{AreEndsOf, RestartsEnded}

-- Before the first phase the restarts of the script, which ended so, were ended, and then its streams were opened, each line with a
-- reply of its own, by pass 0 alone.
pub record RunHasBegun (u : Setup) (script : Script) (restarted : List LogRestart) (ended between : List LineReply) (ends begun : List Entry)
    : Type 0 where
  pub are : AreEndsOf script.restarts restarted
  pub ended_are : RestartsEnded u restarted ended [] ends
  pub ended_alone : (me : ℕ) → me ≢ 0 → IsIdle me [] ends
  pub opened : StreamsOpened u script.restarts ended 0 script.streams [] between ends begun
  pub alone : (me : ℕ) → me ≢ 0 → IsIdle me [] begun

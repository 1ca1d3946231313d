-- What a script left that was run: what explains its answers, by its mode, and what comes back.
use Rattle.std.specs.Prelude.{◌≡◌, ℕ, ◌*◌, List, [], IfSome, drop, length, reverse}
use Rattle.std.specs.declared.option.Option.{Option}
use Rattle.std.specs.declared.option.Option.TheVariants.{Some, None}
use Rattle.cc_entry.specs.declared.answer.LineReply.{LineReply}
use Rattle.cc_entry.specs.declared.entry.Entry.{Entry}
use Rattle.cc_entry.specs.declared.place.Request.{Request}
use Rattle.cc_async.specs.declared.queue.QueuedRead.{QueuedRead}
use Rattle.cc_queue.specs.Places.{PlaceState}
use Rattle.cc_journal.specs.Capacity.{IsWithinCapacity}
use Rattle.cc_model.specs.Good.{IsGood}
use Rattle.cc_pieces.specs.Explained.{Answered}
use Rattle.cc_pieces.specs.Steps.{RoutinesLeft, deferrals_by}
use Rattle.cc_pieces.specs.Table.{table_of}
use Rattle.cc_script.specs.declared.script.Mode.{Mode}
use Rattle.cc_script.specs.declared.script.Mode.TheVariants as mode
use Rattle.cc_script.specs.declared.script.Script.{Script}
use Rattle.cc_turns.specs.Desk.{Tells}
use Rattle.cc_program.specs.Disks.{DisksLeft}
use Rattle.cc_program.specs.Runs.{IsExplainedBy, given_of, run_answered}
use Rattle.cc_program.specs.Logs.{LogsLeft}
use Rattle.cc_run.specs.Places.{AreAsyncQueued, AreQueued, taken_at}
use Rattle.cc_program.specs.Setups.{setup_of}
use Rattle.cc_run.specs.declared.modes.RunResult.{RunResult}
use Rattle.cc_run.specs.declared.modes.RestartedRun.{RestartedRun}
use Rattle.cc_program.specs.Restarting.{RanBehind}

-- What the passes have at the queue of read-ahead: in a run each has a place, as the journal and the answers say; in steps there are
-- no places and no steps of read-ahead.
abbrev pub AreQueuedBy : Mode → Script → Answered → List (PlaceState Request) → List Entry → Type 0
AreQueuedBy mode.Run script told places past = AreQueued (given_of script) told places past
AreQueuedBy mode.Steps script told places past = (places ≡ []) × (told.stepped ≡ [])

-- The same of the callers at the queue of copied reads.
abbrev pub AreAsyncQueuedBy : Mode → Script → Answered → List (PlaceState QueuedRead) → Type 0
AreAsyncQueuedBy mode.Run script told places = AreAsyncQueued (given_of script) told places
AreAsyncQueuedBy mode.Steps script told places = places ≡ []

-- the replies of a script's lines behind those of its restarts, those of the streams first
abbrev pub run_replies : Script → List LineReply → List LineReply
run_replies script replies = drop (length script.restarts) replies

-- the numbers of the deferred writes of a script's `defer` lines, where one was run
abbrev pub deferrals_of_script : Option Script → List LineReply → List (Option ℕ)
deferrals_of_script None replies = []
deferrals_of_script (Some script) replies = deferrals_by script.streams script.lines (run_replies script replies)

-- how many ticks a script asks for in its phases, where one was run; in steps there are none
abbrev pub ticks_asked : Mode → Option Script → ℕ
ticks_asked m None = 0
ticks_asked mode.Run (Some script) = script.ticks * script.phases
ticks_asked mode.Steps (Some script) = 0

-- A script was run in a mode over these disks, logs and post routines. Its journal is good, was always within the script's
-- capacity, and explains each answer; the rows are those of its dirty page table, where memory was found for them; and
-- disks, logs and routines came back as the journal says.
pub record HasRun {D L Q : Type 0} (tells : Tells D L Q) (m : Mode) (script : Script) (disks : List D) (logs : List L)
    (posts : List Q) (ran : RunResult D L Q) : Type 0 where
  pub good : IsGood (setup_of tells.disk tells.disk_faults script disks logs) (reverse ran.journal.items)
  pub within : IsWithinCapacity script.journal (reverse ran.journal.items)
  pub explained : IsExplainedBy m (setup_of tells.disk tells.disk_faults script disks logs) script
      (run_answered ran.replies.items ran.ticks.items ran.aheads.items) (taken_at ran.places.items) (reverse ran.journal.items)
  pub queued : AreQueuedBy m script (run_answered ran.replies.items ran.ticks.items ran.aheads.items) ran.places.items
      (reverse ran.journal.items)
  pub async_queued :
      AreAsyncQueuedBy m script (run_answered ran.replies.items ran.ticks.items ran.aheads.items) ran.async_places.items
  pub ticked : length ran.ticks.items ≡ ticks_asked m (Some script)
  pub table : IfSome ran.table (λ rows. rows.items ≡ table_of (reverse ran.journal.items))
  pub disks_left : DisksLeft tells.disk tells.disk_faults (reverse ran.journal.items) disks ran.disks.items
  pub logs_left : LogsLeft tells.log tells.log_faults (reverse ran.journal.items) logs ran.logs.items
  pub posts_left : RoutinesLeft tells.posted (deferrals_of_script (Some script) ran.replies.items) (reverse ran.journal.items)
      posts ran.posts.items

-- A script was run behind its restarts, over the disks and the logs that these left.
pub record HasRunBehind {D L Q : Type 0} (tells : Tells D L Q) (m : Mode) (script : Script) (disks : List D) (logs : List L)
    (posts : List Q) (done : RestartedRun D L Q) : Type 0 where
  pub behind : RanBehind tells.disk tells.disk_faults tells.log tells.log_faults
      (setup_of tells.disk tells.disk_faults script done.disks_begun.value.items done.logs_begun.value.items) script
      done.ran.replies.items (reverse done.ran.journal.items) disks done.disks_begun.value.items logs done.logs_begun.value.items
  pub ran : HasRun tells m script done.disks_begun.value.items done.logs_begun.value.items posts done.ran

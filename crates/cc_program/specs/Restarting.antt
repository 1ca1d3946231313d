-- What the restarts of a script leave before its run, and how the run tells them.
use Rattle.std.specs.Prelude.{◌≡◌, ◌≢◌, ℕ, List, [], ◌∷◌, ◌++◌, map, Result, Ok, Err, ◌⊎◌}
use Rattle.std.specs.List.{AllByRecursion}
use Rattle.std.specs.declared.option.Option.{Option}
use Rattle.std.specs.declared.option.Option.TheVariants.{Some, None}
use Rattle.cc_entry.specs.declared.answer.Answer.{Answer}
use Rattle.cc_entry.specs.declared.answer.Answer.TheVariants as answer
use Rattle.cc_entry.specs.declared.answer.LineReply.{LineReply}
use Rattle.cc_entry.specs.declared.entry.Entry.{Entry}
use Rattle.cc_entry.specs.declared.error.CcError.{CcError}
use Rattle.cc_traits.specs.Disk.{Disk}
use Rattle.cc_traits.specs.Log.{Log}
use Rattle.cc_model.specs.Setup.{Setup}
use Rattle.cc_script.specs.declared.script.RestartLine.{RestartLine}
use Rattle.cc_script.specs.declared.script.Script.{Script}
use Rattle.cc_effects.specs.Moments.{Between, IsIdle}
use Rattle.cc_pieces.specs.Restarts.{RestartEnded}
use Rattle.cc_pieces.specs.Rooms.{HadNoRoom}
use Rattle.cc_restarts.specs.Restarting.{IsOwnRefusal, LogsRestarted}
use Rattle.cc_restarts.specs.declared.ended.LogRestart.{LogRestart}
use Rattle.cc_restarts.specs.declared.ended.Numbers.{Numbers}
use Rattle.cc_program.specs.Ends.{Input, IsAsked}

-- the number of the last LSN that a restart read, 0 where there was none
abbrev pub last_number : Option ℕ → ℕ
last_number None = 0
last_number (Some lsn) = lsn

-- A restart that was done is answered with the number of its updates behind the flush of its log, or with the flush's refusal; one
-- that was refused is answered so, and leaves nothing.
abbrev pub TellsEnd : Setup → ℕ → Result Numbers CcError → Answer → Between
TellsEnd u handle (Ok numbers) told old new = RestartEnded u handle (last_number numbers.last) numbers.updates told old new
TellsEnd u handle (Err e) told old new = (told ≡ answer.Refused e) × IsIdle 0 old new

-- these are the ends of a script's restarts
pub record AreEndsOf (restarts : List RestartLine) (ended : List LogRestart) : Type 0 where
  pub lines : map (λ restart. restart.line) ended ≡ map (λ restart. restart.line) restarts
  pub handles : map (λ restart. restart.handle) ended ≡ map (λ restart. restart.handle) restarts
  pub refusals : AllByRecursion (λ restart. IsOwnRefusal restart.ended) ended

-- the line of one restart, which says that the journal is full only where it was
pub record EndLeft (u : Setup) (restart : LogRestart) (reply : LineReply) (old new : List Entry) : Type 0 where
  pub line_is : reply.line ≡ restart.line
  pub told : TellsEnd u restart.handle restart.ended reply.answer old new
  pub room : HadNoRoom u 4 reply.answer old new

-- the restarts were ended one after the other, and each line was answered so
abbrev pub RestartsEnded : Setup → List LogRestart → List LineReply → Between
RestartsEnded u [] [] old new = new ≡ old
RestartsEnded u (restart ∷ restarts) (reply ∷ replies) old new =
    (between : List Entry) × EndLeft u restart reply old between × RestartsEnded u restarts replies between new
RestartsEnded u restarts replies old new = ⊥

-- The run tells the restarts by its first replies, and its journal begins with what their ends left, where pass 0 alone placed anything.
pub record RestartsTold (u : Setup) (ended : List LogRestart) (replies : List LineReply) (past : List Entry) : Type 0 where
  pub first : List LineReply
  pub others : List LineReply
  pub begun : List Entry
  pub later : List Entry
  pub replies_are : replies ≡ first ++ others
  pub grew : past ≡ later ++ begun
  pub ended_are : RestartsEnded u ended first [] begun
  pub alone : (me : ℕ) → me ≢ 0 → IsIdle me [] begun

-- Between the disks and the logs that were handed in and those with which the run of a script began, its restarts were made, one
-- after the other, and the run tells how they ended.
pub record RanBehind {D L : Type 0} (told : D → Option Disk) (faults : D → ℕ) (log_told : L → Option Log) (log_faults : L → ℕ)
    (u : Setup) (script : Script) (replies : List LineReply) (past : List Entry) (disks disks_begun : List D) (logs logs_begun : List L)
    : Type 0 where
  pub ended : List LogRestart
  pub made : LogsRestarted told faults log_told log_faults script.streams script.restarts ended disks disks_begun logs logs_begun
  pub ends_told : RestartsTold u ended replies past

-- The restarts of a script were made, and then memory was wanting for its run.
pub record MadeAlone {D L : Type 0} (told : D → Option Disk) (faults : D → ℕ) (log_told : L → Option Log) (log_faults : L → ℕ)
    (script : Script) (disks disks_begun : List D) (logs logs_begun : List L) : Type 0 where
  pub ended : List LogRestart
  pub made : LogsRestarted told faults log_told log_faults script.streams script.restarts ended disks disks_begun logs logs_begun

-- those of the script that the words ask for, where the program ended for want of memory
pub record MadeOf {D L : Type 0} (told : D → Option Disk) (faults : D → ℕ) (log_told : L → Option Log) (log_faults : L → ℕ)
    (i : Input) (status : ℕ) (disks disks_begun : List D) (logs logs_begun : List L) : Type 0 where
  pub status_is : status ≡ 6
  pub script : Script
  pub asked : IsAsked i script
  pub alone : MadeAlone told faults log_told log_faults script disks disks_begun logs logs_begun

-- disks and logs are as they were handed in
pub record AreUntouched {D L : Type 0} (disks disks_begun : List D) (logs logs_begun : List L) : Type 0 where
  pub disks_are : disks_begun ≡ disks
  pub logs_are : logs_begun ≡ logs

-- Without a run nothing was restarted, or memory was wanting behind the restarts.
abbrev pub LeftAlone : {D L : Type 0} → (D → Option Disk) → (D → ℕ) → (L → Option Log) → (L → ℕ) → Input → ℕ → List D → List D
    → List L → List L → Type 0
LeftAlone told faults log_told log_faults i status disks disks_begun logs logs_begun =
    AreUntouched disks disks_begun logs logs_begun
    ⊎ MadeOf told faults log_told log_faults i status disks disks_begun logs logs_begun

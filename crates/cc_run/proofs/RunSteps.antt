-- A run on a desk: where it begins, what it may serve, and the disks at its end.
use Rattle.std.specs.declared.option.Option.TheVariants.{Some, None}
use Rattle.std.specs.Prelude.{◌≡◌, ℕ, zero, suc, ◌+◌, ◌<◌, ◌≤◌, nat_le, nat_lt, Bool, true, false, ◌&&◌, List, [], ◌∷◌, All, length, take, slice_get, refl, IfSome}
use Rattle.std.specs.List.{AllByRecursion, list_all}
use Rattle.std.proofs.Common.{sym, ap, subst, ◌∙◌, arith, get_or}
use Rattle.std.proofs.lemmas.Bool.{leb-true, ltb-true}
use Rattle.std.proofs.lemmas.List.{length-map, length-append}
use Rattle.cc_entry.specs.Place.{File}
use Rattle.cc_entry.specs.Queries.{file_of_query}
use Rattle.cc_entry.specs.declared.answer.LineReply.{LineReply}
use Rattle.cc_entry.specs.declared.entry.Entry.{Entry}
use Rattle.cc_traits.specs.Disk.{Disk}
use Rattle.cc_traits.specs.Log.{Log}
use Rattle.cc_script.specs.declared.script.Script.{Script}
use Rattle.std.specs.declared.option.Option.{Option}
use Rattle.cc_script.specs.declared.script.Action.{Action}
use Rattle.cc_script.specs.declared.script.Action.TheVariants as action
use Rattle.cc_script.specs.declared.script.ActionLine.{ActionLine}
use Rattle.cc_script.specs.declared.script.RestartLine.{RestartLine}
use Rattle.cc_script.specs.declared.script.StreamLine.{StreamLine}
use Rattle.cc_script.specs.declared.script.Mode.TheVariants as mode
use Rattle.cc_script.specs.EventActions.{defer_lines}
use Rattle.cc_script.specs.Modes.{IsLineOf, action_modes, stands}
use Rattle.cc_script.specs.Within.{IsActionWithin, IsLineWithin, IsFileWithin}
use Rattle.cc_model.specs.Setup.{Setup}
use Rattle.cc_turns.specs.Disk.{DiskStands}
use Rattle.cc_turns.specs.Log.{FileStands}
use Rattle.cc_turns.specs.Standing.{DiskAtFirst, LogAtFirst}
use Rattle.cc_turns.specs.Desk.{Begun, DeskState, DeskDisksEnded, DeskLogsEnded, disk_at_first, log_at_first, standing_of}
use Rattle.cc_program.specs.Disks.{DisksStand}
use Rattle.cc_program.specs.Ends.{has_devices, is_log_given}
use Rattle.cc_program.specs.Logs.{LogsStand}
use Rattle.cc_program.specs.Setups.{setup_of}
use Rattle.cc_lines.specs.Line.{IsServable}
use Rattle.cc_run.specs.Lines.{StreamsOpened}
use Rattle.cc_run.proofs.Lists.{all-both, all-map}

-- an action of a run on a stream of the script is served, and so is one on no stream
servable : (streams : List StreamLine) (n : ℕ) (asked : Action) → length streams ≤ n → length streams ≤ 16 → stands (action_modes asked) mode.Run ≡ true → IsActionWithin streams asked → IsServable n asked
servable streams n (action.Initialise file sizes quota temporary) few most run within = let there = within.stream in omega (arith, there, few)
servable streams n (action.Uninitialise file truncate) few most run within = let there = within.stream in omega (arith, there, few)
servable streams n (action.CopyRead file at len wait) few most run within = let there = within.stream in omega (arith, there, few)
servable streams n (action.CopyWrite file at bytes) few most run within = let there = within.stream in omega (arith, there, few)
servable streams n (action.Zero file span) few most run within = let there = within.stream in omega (arith, there, few)
servable streams n (action.Map file at len word) few most run within = let there = within.stream in omega (arith, there, few)
servable streams n (action.PinRead file at len word exclusive) few most run within = let there = within.stream in omega (arith, there, few)
servable streams n (action.PreparePin file at len word zeroed exclusive) few most run within = let there = within.stream in omega (arith, there, few)
servable streams n (action.MdlRead file at len word) few most run within = let there = within.stream in omega (arith, there, few)
servable streams n (action.MdlWrite file at len word) few most run within = let there = within.stream in omega (arith, there, few)
servable streams n (action.SetSizes file allocation size) few most run within = let there = within.stream in omega (arith, there, few)
servable streams n (action.Query asked) few most run within = by (file_of_query asked) within
  where
    by : (named : Option File) → IfSome named (λ file. IsFileWithin streams file) → IfSome named (λ file. file.stream < n)
    by None within = tt
    by (Some file) within = let there = within.stream in omega (arith, there, few)
servable streams n (action.Flush file span) few most run within = let there = within.stream in omega (arith, there, few)
servable streams n (action.Purge file span) few most run within = let there = within.stream in omega (arith, there, few)
servable streams n (action.Discard file span) few most run within = let there = within.stream in omega (arith, there, few)
servable streams n (action.NcRead file at len) few most run within = let there = within.stream in omega (arith, there, few)
servable streams n (action.Read file path at len) few most run within = let there = within.stream in omega (arith, there, few)
servable streams n (action.Write file at bytes) few most run within = let there = within.stream in omega (arith, there, few)
servable streams n (action.Update file at bytes) few most run within = let there = within.stream in omega (arith, there, few)
servable streams n (action.Lock file span exclusive) few most run within = let there = within.stream in omega (arith, there, few)
servable streams n (action.Unlock file id) few most run within = let there = within.stream in omega (arith, there, few)
servable streams n (action.Levels file) few most run within = let there = within.stream in omega (arith, there, few)
servable streams n (action.Settle file) few most run within = let there = within.stream in omega (arith, there, few)
servable streams n (action.Checkpoint count handle) few most run within = (omega (arith, within, few), omega (arith, within, most))
servable streams n (action.NcWrite file at bytes) few most run within = let there = within.stream in omega (arith, there, few)
servable streams n (action.SetLog file handle) few most run within = let there = within.stream in omega (arith, there, few)
servable streams n (action.PinMapped word exclusive) few most run within = tt
servable streams n (action.HeldRead word at len) few most run within = tt
servable streams n (action.PinnedWrite word at bytes) few most run within = tt
servable streams n (action.SetDirty word lsn) few most run within = tt
servable streams n (action.Unpin word) few most run within = tt
servable streams n (action.Repin word made) few most run within = tt
servable streams n (action.UnpinRepinned word through) few most run within = tt
servable streams n (action.MdlBytes word at len) few most run within = tt
servable streams n (action.MdlStore word at bytes) few most run within = tt
servable streams n (action.MdlDone word) few most run within = tt
servable streams n (action.MdlAbort word) few most run within = tt
servable streams n (action.Append handle bytes) few most run within = tt
servable streams n (action.LogFlush handle lsn) few most run within = tt
servable streams n (action.SetGranularity file bytes) few most run within = let there = within.stream in omega (arith, there, few)
servable streams n (action.SetAttributes file no_read_ahead no_write_behind) few most run within = let there = within.stream in omega (arith, there, few)
servable streams n (action.SetThreshold file pages) few most run within = let there = within.stream in omega (arith, there, few)
servable streams n (action.NcReadPage file page) few most run within = absurd (cc run)
servable streams n (action.NcStorePage file page bytes) few most run within = absurd (cc run)
servable streams n (action.NcWritePage file page) few most run within = absurd (cc run)
servable streams n (action.Fill page) few most run within = absurd (cc run)
servable streams n (action.Drop page) few most run within = absurd (cc run)
servable streams n (action.WriteBegin page) few most run within = absurd (cc run)
servable streams n (action.WriteEnd page) few most run within = absurd (cc run)
servable streams n (action.Sync stream) few most run within = absurd (cc run)
servable streams n action.Scan few most run within = absurd (cc run)
servable streams n (action.AskAhead file at len) few most run within = let there = within.stream in omega (arith, there, few)
servable streams n action.AheadStep few most run within = tt
servable streams n (action.AsyncRead file at len) few most run within = let there = within.stream in omega (arith, there, few)
servable streams n action.Complete few most run within = tt
servable streams n action.Tick few most run within = tt
servable streams n (action.Defer file bytes retrying) few most run within = let there = within.stream in omega (arith, there, few)
servable streams n action.Post few most run within = tt

pub servable-all : (streams : List StreamLine) (phases n : ℕ) (lines : List ActionLine) → length streams ≤ n → length streams ≤ 16 → AllByRecursion (IsLineOf mode.Run) lines → AllByRecursion (IsLineWithin streams phases) lines → AllByRecursion (λ line. IsServable n line.action) lines
servable-all streams phases n lines few most run within =
    all-map (λ line. IsLineOf mode.Run line × IsLineWithin streams phases line) (λ line. IsServable n line.action) lines (λ line is. servable streams n line.action few most is.0.in_mode is.1.file)
    (all-both (IsLineOf mode.Run) (IsLineWithin streams phases) lines run within)

both-true : (a b : Bool) → (a && b) ≡ true → (a ≡ true) × (b ≡ true)
both-true true b is = (refl, is)
both-true false b is = absurd (cc is)

-- each restart is of one of so many logs
restarted-within : (logs : ℕ) (restarts : List RestartLine) → list_all (λ restart. nat_lt restart.handle logs) restarts ≡ true → (i : ℕ) (d : RestartLine) → i < length restarts → (get_or restarts i d).handle < logs
restarted-within logs [] is i d inside = absurd (omega (arith, inside))
restarted-within logs (restart ∷ restarts) is zero d inside =
    ltb-true restart.handle logs (both-true (nat_lt restart.handle logs) (list_all (λ (r : RestartLine). nat_lt r.handle logs) restarts) is).0
restarted-within logs (restart ∷ restarts) is (suc i) d inside =
    restarted-within logs restarts (both-true (nat_lt restart.handle logs) (list_all (λ (r : RestartLine). nat_lt r.handle logs) restarts) is).1 i d (omega (arith, inside))

-- where there are devices for a script, there is a disk for each stream, a log for each restart, and a routine for each line that
-- defers a write
module _ (disks logs posts : ℕ) (script : Script) (enough : has_devices disks logs posts script ≡ true) where
  abbrev have_logs : Bool
  have_logs = list_all (λ stream. is_log_given logs stream.log) script.streams

  abbrev have_restarted : Bool
  have_restarted = list_all (λ restart. nat_lt restart.handle logs) script.restarts

  abbrev have_posts : Bool
  have_posts = nat_le (defer_lines script.lines) posts

  rests : (nat_le (length script.streams) disks ≡ true) × ((have_logs && (have_restarted && have_posts)) ≡ true)
  rests = both-true (nat_le (length script.streams) disks) (have_logs && (have_restarted && have_posts)) enough

  further : (have_restarted ≡ true) × (have_posts ≡ true)
  further = both-true have_restarted have_posts (both-true have_logs (have_restarted && have_posts) rests.1).1

  pub enough-disks : length script.streams ≤ disks
  enough-disks = leb-true (length script.streams) disks rests.0

  pub enough-logs : All (λ restart. restart.handle < logs) script.restarts
  enough-logs = restarted-within logs script.restarts further.0

  pub enough-posts : defer_lines script.lines ≤ posts
  enough-posts = leb-true (defer_lines script.lines) posts further.1

-- the disks that a desk gives back stand for its journal, each having begun as the run did
pub disks-stand : {D L Q : Type 0} (told : D → Option Disk) (faults : D → ℕ) (first : ℕ → DiskAtFirst) (count : ℕ) (past : List Entry) (d : DeskState D L Q) (disks : List D) → DeskDisksEnded told faults d disks → length d.begun.disks ≡ count → (λ s. disk_at_first told faults (slice_get d.begun.disks s)) ≡ first → past ≡ d.last.entries → DisksStand told faults first count past disks
disks-stand told faults first count past d disks ended same at_first is = record {
  counted = ended.counted ∙ same;
  each = λ s disk at. rw is (subst (λ (f : ℕ → DiskAtFirst). DiskStands told faults (f s) d.last.entries s disk) at_first (ended.each s disk at).stands);
}

-- so do the logs
pub logs-stand : {D L Q : Type 0} (told : L → Option Log) (faults : L → ℕ) (first : ℕ → LogAtFirst) (count : ℕ) (past : List Entry) (d : DeskState D L Q) (logs : List L) → DeskLogsEnded told faults d logs → length d.begun.logs ≡ count → (λ handle. log_at_first told faults (slice_get d.begun.logs handle)) ≡ first → past ≡ d.last.entries → LogsStand told faults first count past logs
logs-stand told faults first count past d logs ended same at_first is = record {
  counted = ended.counted ∙ same;
  each = λ handle log at. rw is (subst (λ (f : ℕ → LogAtFirst). FileStands told faults (f handle) d.last.entries handle log) at_first (ended.each handle log at));
}

-- the setup that a run is made from is that of the script, of the disks and of the logs
pub setup-is : {D L Q : Type 0} (told : D → Option Disk) (faults : D → ℕ) (log_told : L → Option Log) (log_faults : L → ℕ) (d : DeskState D L Q) (begun : Begun D L) (script : Script) (disks : List D) (logs : List L) → d.begun ≡ begun → begun.disks ≡ take 16 disks → begun.logs ≡ take 4 logs → begun.capacity ≡ script.journal → begun.threshold ≡ script.threshold → (standing_of told faults log_told log_faults d).setup ≡ setup_of told faults script disks logs
setup-is told faults log_told log_faults d begun script disks logs is same same_logs capacity threshold = rw (is, same, same_logs, capacity, threshold) refl

-- A run in which no count of faults rose shows no failure and tells none.
use Rattle.std.specs.declared.option.Option.{Option}
use Rattle.std.specs.Prelude.{◌≡◌, ℕ, zero, suc, ◌+◌, ◌<◌, ◌≤◌, Bool, true, false, ◌==◌, ◌&&◌, nat_le, List, [], ◌∷◌, ◌++◌, length, reverse, slice_get, take, IfOk, Result, Ok, Err, refl, if◌then◌else◌, IfSome}
use Rattle.std.specs.declared.option.Option.TheVariants.{Some, None}
use Rattle.std.specs.List.{AllByRecursion, list_any}
use Rattle.std.proofs.Common.{ap, arith, eq-eqb}
use Rattle.std.proofs.lemmas.Bool.{and_parts, leb-true}
use Rattle.std.proofs.lemmas.List.{length-take}
use Rattle.cc_entry.specs.Place.{File}
use Rattle.cc_entry.specs.Queries.{file_of_query}
use Rattle.cc_entry.specs.declared.answer.LineReply.{LineReply}
use Rattle.cc_entry.specs.declared.entry.End.{End}
use Rattle.cc_entry.specs.declared.entry.End.TheVariants as how
use Rattle.cc_entry.specs.declared.entry.Entry.{Entry}
use Rattle.cc_entry.specs.declared.entry.Entry.TheVariants as entry
use Rattle.cc_script.specs.Within.{IsActionWithin, IsLineWithin, ScriptIsWithin, IsFileWithin}
use Rattle.cc_script.specs.declared.script.Action.{Action}
use Rattle.cc_script.specs.declared.script.Action.TheVariants as action
use Rattle.cc_script.specs.declared.script.ActionLine.{ActionLine}
use Rattle.cc_script.specs.declared.script.Mode.{Mode}
use Rattle.cc_script.specs.declared.script.Mode.TheVariants as mode
use Rattle.cc_script.specs.declared.script.Script.{Script}
use Rattle.cc_script.specs.declared.script.StreamLine.{StreamLine}
use Rattle.cc_model.specs.Allowed.{IsAllowed}
use Rattle.cc_model.specs.Faults.{is_failed}
use Rattle.cc_model.specs.Good.{IsGood}
use Rattle.cc_model.specs.Setup.{Setup}
use Rattle.cc_effects.specs.Failures.{failures, is_failure}
use Rattle.cc_turns.specs.Desk.{Tells}
use Rattle.cc_turns.specs.Log.{is_failure_of_log, log_failures}
use Rattle.cc_turns.proofs.Handles.{handle-below}
use Rattle.cc_pieces.specs.Faultless.{shows_fault, tells_fault}
use Rattle.cc_pieces.proofs.Faultless.{ShowsNone, TellNone, tell-append}
use Rattle.cc_pieces.proofs.LeftStreams.{HasHandles, IsActionBelow, IsSound}
use Rattle.cc_pieces.proofs.RunFaultless.{explained-none}
use Rattle.cc_pieces.proofs.RunStreams.{explained-below}
use Rattle.cc_pieces.proofs.SteppedStreams.{stepped-below, stepped-none}
use Rattle.cc_pieces.proofs.Streams.{AllBelow, IsBelow}
use Rattle.cc_program.specs.Complete.{HaveStayed, RanWithoutFault}
use Rattle.cc_program.specs.Disks.{Pairwise}
use Rattle.cc_program.specs.Ends.{has_devices}
use Rattle.cc_program.specs.Runs.{IsExplainedBy, given_of, run_answered}
use Rattle.cc_run.specs.Places.{taken_at}
use Rattle.cc_program.specs.Restarting.{RestartsTold}
use Rattle.cc_run.specs.Runs.{AreQueuedBy, HasRun, HasRunBehind, ticks_asked}
use Rattle.cc_program.specs.Setups.{run_disks, run_logs, setup_of}
use Rattle.cc_run.specs.declared.modes.RestartedRun.{RestartedRun}
use Rattle.cc_run.specs.declared.modes.RunResult.{RunResult}
use Rattle.cc_restarts.specs.Restarting.{LogsRestarted}
use Rattle.cc_restarts.specs.declared.ended.LogRestart.{LogRestart}
use Rattle.cc_restarts.proofs.Kept.{all-lines}
use Rattle.cc_run.proofs.Behind.{restarts-calm, run-logs_stayed, run-stayed}
use Rattle.cc_run.proofs.Ending.{told-none}
use Rattle.cc_run.proofs.RestartsMade.{begun-enough}

-- a count of none is one of none before
counted-tail : (b : Bool) (count : ℕ) → (if b then suc count else count) ≡ 0 → count ≡ 0
counted-tail true count none = absurd (omega (arith, none))
counted-tail false count none = none

counted-head : (b : Bool) (count : ℕ) → b ≡ true → (if b then suc count else count) ≡ 0 → ⊥
counted-head true count is none = absurd (omega (arith, none))
counted-head false count is none = absurd (cc is)

-- where no failure is counted of any stream or log of the run, an entry of one of them shows none
module _ (n logs : ℕ) (e : Entry) (past : List Entry) (of_disks : (s : ℕ) → s < n → (if is_failure s e then suc (failures s past) else failures s past) ≡ 0) (of_logs : (handle : ℕ) → handle < logs → (if is_failure_of_log handle e then suc (log_failures handle past) else log_failures handle past) ≡ 0) where
  not-failed : (s : ℕ) → s < n → is_failure s e ≡ true → ⊥
  not-failed s low is = counted-head (is_failure s e) (failures s past) is (of_disks s low)

  not-log-failed : (handle : ℕ) → handle < logs → is_failure_of_log handle e ≡ true → ⊥
  not-log-failed handle low is = counted-head (is_failure_of_log handle e) (log_failures handle past) is (of_logs handle low)

end-shows-none : (how : End) (s : ℕ) → (((s == s) && is_failed how) ≡ true → ⊥) → is_failed how ≡ false
end-shows-none how.Good s not = refl
end-shows-none how.Failed s not = absurd (not (rw (eq-eqb s s refl) refl))
end-shows-none how.NoMemory s not = refl

entry-shows-none : (n logs : ℕ) (e : Entry) → IsBelow n logs e → ((s : ℕ) → s < n → is_failure s e ≡ true → ⊥) → ((handle : ℕ) → handle < logs → is_failure_of_log handle e ≡ true → ⊥) → shows_fault e ≡ false
entry-shows-none n logs (entry.FillFailed pass page) below not not_log = absurd (not page.stream below (eq-eqb page.stream page.stream refl))
entry-shows-none n logs (entry.WriteEnd pass page how) below not not_log = end-shows-none how page.stream (not page.stream below)
entry-shows-none n logs (entry.Sync pass stream how) below not not_log = end-shows-none how stream (not stream below)
entry-shows-none n logs (entry.LogFailed pass handle) below not not_log = absurd (not_log handle below (eq-eqb handle handle refl))
entry-shows-none n logs (entry.Record pass stream size valid how) below not not_log = end-shows-none how stream (not stream below)
entry-shows-none n logs (entry.RecordFailed pass stream) below not not_log = absurd (not stream below (eq-eqb stream stream refl))
entry-shows-none n logs other below not not_log = refl

shows-none : (n logs : ℕ) (past : List Entry) → AllBelow n logs past → ((s : ℕ) → s < n → failures s past ≡ 0) → ((handle : ℕ) → handle < logs → log_failures handle past ≡ 0) → ShowsNone past
unfolding failures log_failures
shows-none n logs [] all of_disks of_logs = tt
shows-none n logs (e ∷ past) all of_disks of_logs = (
  entry-shows-none n logs e all.0 (not-failed n logs e past of_disks of_logs) (not-log-failed n logs e past of_disks of_logs),
  shows-none n logs past all.1 (λ s low. counted-tail (is_failure s e) (failures s past) (of_disks s low))
      (λ handle low. counted-tail (is_failure_of_log handle e) (log_failures handle past) (of_logs handle low)),
)

-- an item of a row
item-at : {D : Type 0} (items : List D) (s : ℕ) → s < length items → (item : D) × (slice_get items s ≡ Some item)
item-at [] s low = absurd (omega (arith, low))
item-at (item ∷ items) zero low = (item, refl)
item-at (item ∷ items) (suc s) low = item-at items s (omega (arith, low))

-- what no count rose by
counted-none : {D : Type 0} (faults : D → ℕ) (count : ℕ → ℕ) (old new : List D) → length new ≡ length old → Pairwise (λ s before after. faults before + count s ≤ faults after) old new → HaveStayed faults old new → (s : ℕ) → s < length old → count s ≡ 0
counted-none faults count old new same counted stayed s low =
    let was = item-at old s low in
    let is = item-at new s (omega (arith, same, low)) in
    omega (arith, counted s was.0 is.0 was.1 is.1, stayed s was.0 is.0 was.1 is.1)

at-least : (a b c : ℕ) → c ≡ a + b → a + b ≤ c
at-least a b c is = omega (arith, is)

any-none : {A : Type 0} (test : A → Bool) (xs : List A) → AllByRecursion (λ x. test x ≡ false) xs → list_any test xs ≡ false
any-none test [] none = refl
any-none test (x ∷ xs) none = rw none.0 (any-none test xs none.1)

none-of : (replies : List LineReply) → length replies ≡ 0 → TellNone replies
none-of [] none = tt
none-of (reply ∷ replies) none = absurd (omega (arith, none))

-- an action of a script names a stream for which there is a disk
action-below : (streams : List StreamLine) (n : ℕ) (asked : Action) → length streams ≤ n → IsActionWithin streams asked → IsActionBelow n asked
action-below streams n (action.PinMapped _ _) few within = tt
action-below streams n (action.HeldRead _ _ _) few within = tt
action-below streams n (action.PinnedWrite _ _ _) few within = tt
action-below streams n (action.SetDirty _ _) few within = tt
action-below streams n (action.Unpin _) few within = tt
action-below streams n (action.Repin _ _) few within = tt
action-below streams n (action.UnpinRepinned _ _) few within = tt
action-below streams n (action.MdlBytes _ _ _) few within = tt
action-below streams n (action.MdlStore _ _ _) few within = tt
action-below streams n (action.MdlDone _) few within = tt
action-below streams n (action.MdlAbort _) few within = tt
action-below streams n (action.Query asked) few within = by (file_of_query asked) within
  where
    by : (named : Option File) → IfSome named (λ file. IsFileWithin streams file) → IfSome named (λ file. file.stream < n)
    by None within = tt
    by (Some file) within = omega (arith, few, within.stream)
action-below streams n (action.Checkpoint count _) few within = λ s low. omega (arith, low, within, few)
action-below streams n (action.Append _ _) few within = tt
action-below streams n (action.LogFlush _ _) few within = tt
action-below streams n action.Scan few within = tt
action-below streams n action.AheadStep few within = tt
action-below streams n action.Complete few within = tt
action-below streams n action.Tick few within = tt
action-below streams n action.Post few within = tt
action-below streams n (action.NcReadPage file page) few within = omega (arith, few, within.in_file.stream)
action-below streams n (action.NcStorePage file page bytes) few within = omega (arith, few, within.0.in_file.stream)
action-below streams n (action.NcWritePage file page) few within = omega (arith, few, within.in_file.stream)
action-below streams n (action.Sync stream) few within = omega (arith, few, within)
action-below streams n other few within = omega (arith, few, within.stream)

lines-below : (streams : List StreamLine) (phases n : ℕ) (lines : List ActionLine) → length streams ≤ n → AllByRecursion (IsLineWithin streams phases) lines → AllByRecursion (λ line. IsActionBelow n line.action) lines
lines-below streams phases n [] few within = tt
lines-below streams phases n (line ∷ lines) few within = (action-below streams n line.action few within.0.file, lines-below streams phases n lines few within.1)

sound-of : (u : Setup) (past : List Entry) → IsGood u past → IsSound u past
unfolding IsAllowed
sound-of u past good = (good.legal, good.allowed.0)

module _ {D L Q : Type 0} (tells : Tells D L Q) (m : Mode) (script : Script) (disks : List D) (logs : List L) (posts : List Q) (ran : RunResult D L Q) (within : ScriptIsWithin script) (enough : has_devices (length disks) (length logs) (length posts) script ≡ true) (has : HasRun tells m script disks logs posts ran) (calm : ShowsNone (reverse ran.journal.items) → TellNone (take (length script.restarts) ran.replies.items)) where
  abbrev u : Setup
  u = setup_of tells.disk tells.disk_faults script disks logs

  abbrev past : List Entry
  past = reverse ran.journal.items

  abbrev n : ℕ
  n = length (run_disks disks)

  few : length script.streams ≤ n
  few =
      let all = leb-true (length script.streams) (length disks) (and_parts (nat_le (length script.streams) (length disks)) _ enough).0 in
      omega (arith, all, within.few_streams, length-take 16 disks)

  handles : HasHandles u
  handles past s handle legal is = handle-below u past s handle legal is

  sound : IsSound u past
  sound = sound-of u past has.good

  below : AllByRecursion (λ line. IsActionBelow n line.action) script.lines
  below = lines-below script.streams script.phases n script.lines few within.lines

  all-below : AllBelow n u.logs past
  all-below = by m has.explained
    where
      by : (m : Mode) → IsExplainedBy m u script (run_answered ran.replies.items ran.ticks.items ran.aheads.items) (taken_at ran.places.items) past → AllBelow n u.logs past
      by mode.Run is =
          explained-below u n handles (given_of script) (run_answered ran.replies.items ran.ticks.items ran.aheads.items) (taken_at ran.places.items) past few below sound is
      by mode.Steps is = stepped-below u n script.streams script.lines ran.replies.items past few below sound is

  tells-none : ShowsNone past → TellNone (ran.replies.items ++ ran.ticks.items ++ ran.aheads.items)
  tells-none none = by m has.explained has.ticked has.queued
    where
      by : (m : Mode) → IsExplainedBy m u script (run_answered ran.replies.items ran.ticks.items ran.aheads.items) (taken_at ran.places.items) past → length ran.ticks.items ≡ ticks_asked m (Some script) → AreQueuedBy m script (run_answered ran.replies.items ran.ticks.items ran.aheads.items) ran.places.items past → TellNone (ran.replies.items ++ ran.ticks.items ++ ran.aheads.items)
      by mode.Run is count queued =
          explained-none u n handles (given_of script) (run_answered ran.replies.items ran.ticks.items ran.aheads.items) (taken_at ran.places.items) past few below within.lines is none (calm none)
      by mode.Steps is count queued =
          tell-append (ran.replies.items ++ ran.ticks.items) ran.aheads.items
          (tell-append ran.replies.items ran.ticks.items (stepped-none u n script.streams script.lines ran.replies.items past few below sound is none) (none-of ran.ticks.items count))
          (none-of ran.aheads.items (ap length queued.1))

  ran-without-fault : RanWithoutFault tells.disk_faults tells.log_faults disks ran.disks.items logs ran.logs.items (ran.replies.items ++ ran.ticks.items ++ ran.aheads.items) past
  ran-without-fault disks_stayed logs_stayed = record {
    entries = any-none shows_fault past none;
    answers = any-none (λ reply. tells_fault reply.answer) (ran.replies.items ++ ran.ticks.items ++ ran.aheads.items) (tells-none none);
  }
    where
      as-many : length (run_disks ran.disks.items) ≡ n
      as-many = omega (arith, has.disks_left.are.count, length-take 16 disks, length-take 16 ran.disks.items)

      as-many-logs : length (run_logs ran.logs.items) ≡ u.logs
      as-many-logs = omega (arith, has.logs_left.are.count, length-take 4 logs, length-take 4 ran.logs.items)

      none : ShowsNone past
      none =
          shows-none n u.logs past all-below
          (counted-none tells.disk_faults (λ s. failures s past) (run_disks disks) (run_disks ran.disks.items) as-many has.disks_left.counted disks_stayed)
          (counted-none tells.log_faults (λ handle. log_failures handle past) (run_logs logs) (run_logs ran.logs.items) as-many-logs
          (λ handle before after was is. at-least _ _ _ (has.logs_left.counted handle before after was is)) logs_stayed)

-- a run behind its restarts, by what these left
pub ran-behind : {D L Q : Type 0} (tells : Tells D L Q) (m : Mode) (script : Script) (ended : List LogRestart) (disks begun : List D) (logs logs_begun : List L) (posts : List Q) (done : RestartedRun D L Q) → done.disks_begun.value.items ≡ begun → done.logs_begun.value.items ≡ logs_begun → LogsRestarted tells.disk tells.disk_faults tells.log tells.log_faults script.streams script.restarts ended disks begun logs logs_begun → HasRun tells m script begun logs_begun posts done.ran → RestartsTold (setup_of tells.disk tells.disk_faults script begun logs_begun) ended done.ran.replies.items (reverse done.ran.journal.items) → HasRunBehind tells m script disks logs posts done
ran-behind tells m script ended disks begun logs logs_begun posts done is logs_is made ran told = record {
  behind = record {
    ended = ended;
    made = rw (is, logs_is) made;
    ends_told = rw (is, logs_is) told;
  };
  ran = rw (is, logs_is) ran;
}

-- where a run was made behind restarts
pub behind-without-fault : {D L Q : Type 0} (tells : Tells D L Q) (m : Mode) (script : Script) (disks : List D) (logs : List L) (posts : List Q) (done : RestartedRun D L Q) → ScriptIsWithin script → has_devices (length disks) (length logs) (length posts) script ≡ true → HasRunBehind tells m script disks logs posts done → RanWithoutFault tells.disk_faults tells.log_faults disks done.ran.disks.items logs done.ran.logs.items (done.ran.replies.items ++ done.ran.ticks.items ++ done.ran.aheads.items) (reverse done.ran.journal.items)
behind-without-fault tells m script disks logs posts done within enough has stayed logs_stayed =
    ran-without-fault tells m script done.disks_begun.value.items done.logs_begun.value.items posts done.ran within begun_enough has.ran calm
    (run-stayed tells.disk tells.disk_faults tells.log tells.log_faults script.streams script.restarts has.behind.ended disks done.disks_begun.value.items done.ran.disks.items logs done.logs_begun.value.items done.ran.logs.items within.few_streams within.restarts has.behind.made has.ran.disks_left.risen has.ran.logs_left.risen has.ran.disks_left.are.count has.ran.logs_left.are.count stayed logs_stayed)
    (run-logs_stayed tells.disk tells.disk_faults tells.log tells.log_faults script.streams script.restarts has.behind.ended disks done.disks_begun.value.items done.ran.disks.items logs done.logs_begun.value.items done.ran.logs.items within.few_streams within.restarts has.behind.made has.ran.disks_left.risen has.ran.logs_left.risen has.ran.disks_left.are.count has.ran.logs_left.are.count stayed logs_stayed)
  where
    begun_enough : has_devices (length done.disks_begun.value.items) (length done.logs_begun.value.items) (length posts) script ≡ true
    begun_enough =
        begun-enough tells.disk tells.disk_faults tells.log tells.log_faults script has.behind.ended disks done.disks_begun.value.items logs done.logs_begun.value.items has.behind.made (length posts) enough

    calm : ShowsNone (reverse done.ran.journal.items) → TellNone (take (length script.restarts) done.ran.replies.items)
    calm none =
        told-none _ script.restarts has.behind.ended done.ran.replies.items (reverse done.ran.journal.items)
        (all-lines tells.disk tells.disk_faults tells.log tells.log_faults script.streams script.restarts has.behind.ended disks done.disks_begun.value.items logs done.logs_begun.value.items has.behind.made)
        has.behind.ends_told
        (restarts-calm tells.disk tells.disk_faults tells.log tells.log_faults script.streams script.restarts has.behind.ended disks done.disks_begun.value.items done.ran.disks.items logs done.logs_begun.value.items done.ran.logs.items within.few_streams within.restarts has.behind.made has.ran.disks_left.risen has.ran.logs_left.risen has.ran.disks_left.are.count has.ran.logs_left.are.count stayed logs_stayed)
        none

-- nothing happened where no run was made
pub faultless-none : {D L : Type 0} (disk_faults : D → ℕ) (log_faults : L → ℕ) (disks disks_after : List D) (logs logs_after : List L) (replies ticked stepped : List LineReply) (journal : List Entry) → replies ≡ [] → ticked ≡ [] → stepped ≡ [] → journal ≡ [] → RanWithoutFault disk_faults log_faults disks disks_after logs logs_after (replies ++ ticked ++ stepped) (reverse journal)
faultless-none disk_faults log_faults disks disks_after logs logs_after replies ticked stepped journal no_reply no_tick no_step no_entry disks_stayed logs_stayed = record {
  entries = rw no_entry refl;
  answers = rw (no_reply, no_tick, no_step) refl;
}

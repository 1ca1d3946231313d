-- What the clauses of the program's call say of a call: of its devices, of its restarts, and of the run behind them.
use Rattle.std.specs.Prelude.{◌≡◌, ℕ, zero, suc, ◌<◌, List, [], ◌∷◌, IfSome, slice_get, slice_set, Ok, refl}
use Rattle.std.specs.declared.option.Option.{Option}
use Rattle.std.specs.declared.option.Option.TheVariants.{Some}
use Rattle.std.proofs.Common.{ap, sym, subst, ◌∙◌}
use Rattle.std.proofs.lemmas.Option.{same_Some}
use Rattle.cc_model.specs.Good.{IsGood}
use Rattle.cc_pieces.specs.Explained.{IsExplained}
use Rattle.cc_redo.specs.Heard.{last_lsn_of, readings}
use Rattle.cc_restarts.specs.Restarting.{LogsRestarted, lsn_of}
use Rattle.cc_restarts.specs.declared.ended.LogRestart.{LogRestart}
use Rattle.cc_restarts.specs.declared.ended.Numbers.{Numbers}
use Rattle.cc_program.specs.Begun.{RunIsBegun}
use Rattle.cc_program.specs.Runs.{IsExplainedBy, given_of}
use Rattle.cc_program.specs.Restarting.{RanBehind, last_number}
use Rattle.cc_program.specs.Setups.{IsSetupOf, setup_of}
use Rattle.cc_command.specs.Words.{mode_in}
use Rattle.cc_script.specs.declared.script.Mode.{Mode}
use Rattle.cc_script.specs.declared.script.Mode.TheVariants as mode
use Rattle.cc_script.specs.declared.script.RestartLine.{RestartLine}
use Rattle.cc_script.specs.declared.script.Script.{Script}
use Rattle.cc_script.specs.declared.script.StreamLine.{StreamLine}
use Rattle.cc_stop_laws.proofs.Restarting.{tells-last}
use Rattle.cc_stop_laws.specs.Redoable.{RestartsOnce, TellsAt}
use Rattle.cc_stop_laws.specs.Runs.{IsUpdatedRun}
use Rattle.cc_traits.specs.Disk.{Disk}
use Rattle.cc_traits.specs.Log.{Log}
use Rattle.cc_update_laws.specs.Devices.{GoesOnFrom}
use Rattle.cc_format.specs.declared.record.StreamRecord.{StreamRecord}
use Rattle.cc_run_laws.proofs.Asked.{restarts-once, within-run}
use Rattle.cc_run_laws.proofs.GoesOn.{answered-done, goes-on, number-last}
use Rattle.cc_run_laws.proofs.Left.{has-left, so-far}
use Rattle.cc_run_laws.specs.Calls.{HasRestarted, RanUpdated}
use Rattle.cc_program.specs.Calls.{HasClauses, ProgramCall}

-- a device tells one thing
pub tells-once : {A T : Type 0} (told : A → Option T) (devices : List A) (n : ℕ) (one other : T) → TellsAt told devices n one → TellsAt told devices n other → one ≡ other
tells-once told devices n one other first second =
    let same = same_Some first.device second.device (sym first.at ∙ second.at) in
    same_Some one other (sym first.tells ∙ (ap told same ∙ second.tells))

-- each restart has an end, of its log
pub record HasEnd (ended : List LogRestart) (n handle : ℕ) : Type 0 where
  pub one : LogRestart
  pub at : slice_get ended n ≡ Some one
  pub of_log : one.handle ≡ handle

module _ {D L : Type 0} (told : D → Option Disk) (faults : D → ℕ) (log_told : L → Option Log) (log_faults : L → ℕ) where
  pub has-end : (streams : List StreamLine) (restarts : List RestartLine) (ended : List LogRestart) (disks disks_begun : List D) (logs logs_begun : List L) → LogsRestarted told faults log_told log_faults streams restarts ended disks disks_begun logs logs_begun →
      (n : ℕ) (restart : RestartLine) → slice_get restarts n ≡ Some restart → HasEnd ended n restart.handle
  has-end streams [] ended disks disks_begun logs logs_begun made n restart at = absurd (cc at)
  has-end streams (first ∷ restarts) [] disks disks_begun logs logs_begun made n restart at = absurd made
  has-end streams (first ∷ restarts) (one ∷ ended) disks disks_begun logs logs_begun made zero restart at =
      record { one = one; at = refl; of_log = made.4 ∙ ap (λ (r : RestartLine). r.handle) (same_Some first restart at) }
  has-end streams (first ∷ restarts) (one ∷ ended) disks disks_begun logs logs_begun made (suc n) restart at =
      let rest = has-end streams restarts ended made.0 disks_begun (slice_set logs first.handle made.2) logs_begun made.7 n restart at in
      record { one = rest.one; at = rest.at; of_log = rest.of_log }

  module _ (call : ProgramCall D L) (clauses : HasClauses told faults log_told log_faults call) where
    abbrev pub Behind : Script → Type 0
    Behind script =
        RanBehind told faults log_told log_faults (setup_of told faults script call.disks_begun call.logs_begun) script call.told.replies call.past call.disks call.disks_begun call.logs call.logs_begun

    -- a run was made behind its restarts
    pub ran-behind : (script : Script) → call.script ≡ Some script → Behind script
    ran-behind script ran =
        subst (λ (o : Option Script). RunIsBegun told faults log_told log_faults call.input o call.told.replies call.past call.status call.disks call.disks_begun call.logs call.logs_begun) ran clauses.restarted

    pub good-run : (script : Script) → call.script ≡ Some script → IsGood (setup_of told faults script call.disks_begun call.logs_begun) call.past
    good-run script ran =
        clauses.good (setup_of told faults script call.disks_begun call.logs_begun)
        (subst (λ (o : Option Script). IsSetupOf told faults o call.disks_begun call.logs_begun (setup_of told faults script call.disks_begun call.logs_begun)) (sym ran) refl)

    pub explained-run : (script : Script) → call.script ≡ Some script → mode_in call.input.words ≡ mode.Run →
        IsExplained (setup_of told faults script call.disks_begun call.logs_begun) (given_of script) call.told call.taken call.past
    explained-run script ran is =
        subst (λ (m : Mode). IsExplainedBy m (setup_of told faults script call.disks_begun call.logs_begun) script call.told call.taken call.past) is
        (subst (λ (o : Option Script). IfSome o (λ script. IsExplainedBy (mode_in call.input.words) (setup_of told faults script call.disks_begun call.logs_begun) script call.told call.taken call.past)) ran clauses.explained)

    -- it is one in which the stream changed by logged updates alone
    pub updated-run : (script : Script) → call.script ≡ Some script → (s log : ℕ) (line : StreamLine) (read : Option StreamRecord) (opening left : Disk) (begun after : Log) → s < 16 → log < 4 → RanUpdated told log_told call s log line read opening left begun after →
        IsUpdatedRun (setup_of told faults script call.disks_begun call.logs_begun) call.past s log line read opening left begun after
    updated-run script ran s log line read opening left begun after below low run = record {
      below = below;
      good = so-far (setup_of told faults script call.disks_begun call.logs_begun) call.past (good-run script ran);
      updated = run.updated;
      reads = run.reads;
      numbered = run.numbered;
      has_left =
          has-left told faults log_told log_faults call.past call.disks_begun call.disks_left call.logs_begun call.logs_left clauses.disks clauses.logs s log opening left begun after below low run.disk_begun run.disk_left
          run.log_begun run.log_left;
    }

  -- ---- behind a restart that was answered as done

  module _ (s log : ℕ) (stream : StreamLine) (was : Disk) (had : Log) (call : ProgramCall D L) (restarted : HasRestarted told faults log_told log_faults s log stream was had call) where
    pub behind : Behind call restarted.clauses restarted.script
    behind = ran-behind call restarted.clauses restarted.script restarted.ran

    pub its-end : HasEnd behind.ended restarted.n log
    its-end =
        let one = has-end restarted.script.streams restarted.script.restarts behind.ended call.disks call.disks_begun call.logs call.logs_begun behind.made restarted.n restarted.lines.restart restarted.lines.at in
        record { one = one.one; at = one.at; of_log = one.of_log ∙ restarted.lines.of_log }

    -- no other line restarts the log
    pub its-once : RestartsOnce log restarted.script.restarts restarted.n
    its-once = restarts-once restarted.script.restarts (within-run told faults log_told log_faults call restarted.clauses restarted.script restarted.ran).restarts log restarted.n restarted.lines.restart restarted.lines.at restarted.lines.of_log

    -- it was done
    pub numbers-told : (numbers : Numbers) × (its-end.one.ended ≡ Ok numbers)
    numbers-told =
        answered-done (setup_of told faults restarted.script call.disks_begun call.logs_begun) behind.ended call.told call.past behind.ends_told restarted.n its-end.one log restarted.restart restarted.updates its-end.at its-end.of_log restarted.restart_at
        restarted.restarted

    -- and the run goes on with the log from the last LSN
    pub went-on : GoesOnFrom log (last_lsn_of (readings restarted.kept.entries)) call.past
    went-on = subst (λ (m : ℕ). GoesOnFrom log m call.past) (number-last restarted.kept.entries k.0.last last) k.2
      where
        k : (numbers : Numbers) × (its-end.one.ended ≡ Ok numbers) × GoesOnFrom log (last_number numbers.last) call.past
        k =
            goes-on (setup_of told faults restarted.script call.disks_begun call.logs_begun) behind.ended call.told call.past behind.ends_told restarted.n its-end.one log restarted.restart restarted.updates its-end.at its-end.of_log restarted.restart_at
            restarted.restarted

        last : k.0.last ≡ lsn_of (last_lsn_of (readings restarted.kept.entries))
        last =
            tells-last told faults log_told log_faults restarted.script.streams restarted.script.restarts behind.ended call.disks call.disks_begun call.logs call.logs_begun behind.made s log restarted.n restarted.line its-end.one restarted.kept
            restarted.lines its-once its-end.at restarted.handed_in.log_at k.0 k.1

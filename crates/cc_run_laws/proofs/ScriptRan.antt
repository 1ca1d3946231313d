-- A run whose script leaves a stream to its updates: its setup, its journal, and what the laws on stops ask of it.
use Rattle.std.specs.Prelude.{◌≡◌, ℕ, zero, suc, ◌<◌, List, [], ◌∷◌, slice_get, take}
use Rattle.std.specs.declared.option.Option.{Option}
use Rattle.std.specs.declared.option.Option.TheVariants.{Some}
use Rattle.std.proofs.Common.{ap, ◌∙◌, arith}
use Rattle.cc_format.specs.declared.record.StreamRecord.{StreamRecord}
use Rattle.cc_model.specs.Good.{IsGoodSoFar}
use Rattle.cc_model.specs.Setup.{Setup}
use Rattle.cc_pieces.specs.Explained.{IsExplained}
use Rattle.cc_restart_laws.specs.Updates.{IsUpdated}
use Rattle.cc_program.specs.Runs.{given_of}
use Rattle.cc_program.specs.Setups.{setup_of}
use Rattle.cc_command.specs.Words.{mode_in}
use Rattle.cc_script.specs.Within.{ScriptIsWithin}
use Rattle.cc_script.specs.declared.script.Mode.TheVariants as mode
use Rattle.cc_script.specs.declared.script.Script.{Script}
use Rattle.cc_script.specs.declared.script.StreamLine.{StreamLine}
use Rattle.cc_stop_laws.specs.Redoable.{StreamIsNumbered}
use Rattle.cc_traits.specs.Disk.{Disk, page_of}
use Rattle.cc_traits.specs.Log.{Log}
use Rattle.cc_turns.specs.Desk.{disk_at_first}
use Rattle.cc_turns.specs.Disk.{opening_of}
use Rattle.cc_run_laws.proofs.Asked.{stream-below, within-run}
use Rattle.cc_run_laws.proofs.Calls.{explained-run, good-run}
use Rattle.cc_run_laws.proofs.Left.{so-far}
use Rattle.cc_run_laws.specs.Calls.{RanUpdated}
use Rattle.cc_program.specs.Calls.{HasClauses, ProgramCall}
use Rattle.cc_run_laws.specs.Scripts.{HadDevices}

get-take : {A : Type 0} (n : ℕ) (xs : List A) (s : ℕ) (x : A) → s < n → slice_get xs s ≡ Some x → slice_get (take n xs) s ≡ Some x
get-take zero xs s x below at = absurd (omega (arith, below))
get-take (suc n) [] s x below at = absurd (cc at)
get-take (suc n) (y ∷ xs) zero x below at = at
get-take (suc n) (y ∷ xs) (suc s) x below at = get-take n xs s x (omega (arith, below)) at

module _ {D L : Type 0} (told : D → Option Disk) (faults : D → ℕ) (log_told : L → Option Log) (log_faults : L → ℕ) (call : ProgramCall D L) (clauses : HasClauses told faults log_told log_faults call) (s log : ℕ) (line : StreamLine) (read : Option StreamRecord)
    (opening left : Disk) (begun after : Log) (script : Script) (ran : call.script ≡ Some script) (named : slice_get script.streams s ≡ Some line) (mode_is : mode_in call.input.words ≡ mode.Run) (had : HadDevices told log_told call s log line read opening left begun after) where
  abbrev pub setup : Setup
  setup = setup_of told faults script call.disks_begun call.logs_begun

  pub explained : IsExplained setup (given_of script) call.told call.taken call.past
  explained = explained-run told faults log_told log_faults call clauses script ran mode_is

  pub good : IsGoodSoFar setup call.past
  good = so-far setup call.past (good-run told faults log_told log_faults call clauses script ran)

  pub within : ScriptIsWithin script
  within = within-run told faults log_told log_faults call clauses script ran

  -- the disk told the opening pages of the stream
  pub opens : setup.opening s ≡ Some (page_of opening)
  opens =
      ap (λ (o : Option D). opening_of (disk_at_first told faults o).told) (get-take 16 call.disks_begun s had.disk_begun.device (stream-below script within s line named) had.disk_begun.at)
      ∙ ap opening_of had.disk_begun.tells

  pub ran-updated : IsUpdated s log call.past → StreamIsNumbered s line read call.past → RanUpdated told log_told call s log line read opening left begun after
  ran-updated updated numbered = record {
    disk_begun = had.disk_begun;
    disk_left = had.disk_left;
    log_begun = had.log_begun;
    log_left = had.log_left;
    updated = updated;
    reads = had.reads;
    numbered = numbered;
  }

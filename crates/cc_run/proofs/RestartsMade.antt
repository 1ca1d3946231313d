-- What the restarts of a script left, for its run.
use Rattle.std.specs.Prelude.{◌≡◌, ◌⊎◌, ℕ, zero, suc, ◌+◌, ◌<◌, ◌≤◌, ◌==◌, Bool, true, false, List, [], ◌∷◌, length, map, refl, IfOk, Result, Ok, Err}
use Rattle.std.specs.declared.option.Option.{Option}
use Rattle.std.proofs.Common.{sym, ap, subst, ◌∙◌, append-nil, arith, eq-eqb, inl, inr}
use Rattle.std.proofs.lemmas.Bool.{cases_lt, ne_eqb}
use Rattle.std.proofs.lemmas.List.{length-map}
use Rattle.cc_entry.specs.declared.answer.LineReply.{LineReply}
use Rattle.cc_entry.specs.declared.entry.Entry.{Entry}
use Rattle.cc_model.specs.Setup.{Setup}
use Rattle.cc_script.specs.Grammar.{has_restart}
use Rattle.cc_script.specs.Modes.{IsOfMode}
use Rattle.cc_script.specs.Within.{AreRestartsWithin}
use Rattle.cc_script.specs.declared.script.Mode.{Mode}
use Rattle.cc_script.specs.declared.script.Mode.TheVariants as mode
use Rattle.cc_script.specs.declared.script.RestartLine.{RestartLine}
use Rattle.cc_script.specs.declared.script.Script.{Script}
use Rattle.cc_traits.specs.Disk.{Disk}
use Rattle.cc_traits.specs.Log.{Log}
use Rattle.cc_restarts.specs.Restarting.{LogsRestarted}
use Rattle.cc_restarts.specs.declared.ended.LogRestart.{LogRestart}
use Rattle.cc_restarts.proofs.Counts.{all-fallen, all-logs_fallen}
use Rattle.cc_restarts.proofs.Kept.{all-handles, all-lines}
use Rattle.cc_restarts.proofs.Refusals.{all-own}
use Rattle.cc_program.specs.Ends.{has_devices}
use Rattle.cc_program.specs.Restarting.{AreEndsOf, RestartsTold}

module _ {D L : Type 0} (told : D → Option Disk) (faults : D → ℕ) (log_told : L → Option Log) (log_faults : L → ℕ) (script : Script) (ended : List LogRestart) (disks begun : List D) (logs logs_begun : List L) (made : LogsRestarted told faults log_told log_faults script.streams script.restarts ended disks begun logs logs_begun) where
  pub ends-of : AreEndsOf script.restarts ended
  ends-of = record {
    lines = all-lines told faults log_told log_faults script.streams script.restarts ended disks begun logs logs_begun made;
    handles = all-handles told faults log_told log_faults script.streams script.restarts ended disks begun logs logs_begun made;
    refusals = all-own told faults log_told log_faults script.streams script.restarts ended disks begun logs logs_begun made;
  }

  -- there are as many disks and logs
  pub begun-enough : (posts : ℕ) → has_devices (length disks) (length logs) posts script ≡ true → has_devices (length begun) (length logs_begun) posts script ≡ true
  begun-enough posts enough =
      rw (
        (all-fallen told faults log_told log_faults script.streams script.restarts ended disks begun logs logs_begun made).count,
        (all-logs_fallen told faults log_told log_faults script.streams script.restarts ended disks begun logs logs_begun made).count,
      ) enough

-- where there is no restart, none has ended
none-ended : (restarts : List RestartLine) (ended : List LogRestart) → restarts ≡ [] → AreEndsOf restarts ended → ended ≡ []
none-ended [] [] none are = refl
none-ended [] (one ∷ ended) none are = absurd (cc are.lines)
none-ended (restart ∷ restarts) ended none are = absurd (cc none)

-- and none is told
pub none-told : {A E : Type 0} (u : Setup) (restarts : List RestartLine) (ended : List LogRestart) (result : Result A E) (replies : A → List LineReply) (past : A → List Entry) → restarts ≡ [] → AreEndsOf restarts ended → IfOk result (λ ran. RestartsTold u ended (replies ran) (past ran))
none-told u restarts ended (Ok ran) replies past none are = record {
  first = [];
  others = replies ran;
  begun = [];
  later = past ran;
  replies_are = refl;
  grew = sym (append-nil (past ran));
  ended_are = rw (none-ended restarts ended none are) refl;
  alone = λ me other. record { during = []; grew = refl; others = tt };
}
none-told u restarts ended (Err back) replies past none are = tt

-- a script of steps has no restart
pub no-restarts : (m : Mode) (script : Script) → m ≡ mode.Steps → IsOfMode m script → script.restarts ≡ []
no-restarts mode.Run script is of = absurd (cc is)
no-restarts mode.Steps script is of = of.restarts

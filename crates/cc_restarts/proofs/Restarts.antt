-- The restarts of a script's lines, one after the other.
use Rattle.std.specs.Prelude.{◌≡◌, ℕ, ◌+◌, ◌<◌, ◌≤◌, List, [], ◌∷◌, ◌++◌, All, length, slice_get, slice_set, Result, refl}
use Rattle.std.specs.declared.option.Option.{Option}
use Rattle.std.specs.declared.option.Option.TheVariants.{Some}
use Rattle.std.proofs.Common.{ap, sym, subst, ◌∙◌, arith, get_or, take}
use Rattle.std.proofs.lemmas.List.{take_more}
use Rattle.std.proofs.lemmas.Option.{slice_get-get_or}
use Rattle.cc_entry.specs.declared.error.CcError.{CcError}
use Rattle.cc_traits.specs.Disk.{Disk}
use Rattle.cc_traits.specs.Log.{Log}
use Rattle.cc_script.specs.declared.script.RestartLine.{RestartLine}
use Rattle.cc_script.specs.declared.script.StreamLine.{StreamLine}
use Rattle.cc_restarts.specs.Restarting.{LogRestarted, LogsRestarted}
use Rattle.cc_restarts.specs.declared.ended.LogRestart.{LogRestart}
use Rattle.cc_restarts.specs.declared.ended.Numbers.{Numbers}

module _ {D L : Type 0} (told : D → Option Disk) (faults : D → ℕ) (log_told : L → Option Log) (log_count : L → ℕ) (streams : List StreamLine) where
  -- one log more
  pub restarted-more : (restarts : List RestartLine) (ended : List LogRestart) (old between new : List D) (logs logs_between : List L) (restart : RestartLine) (one : LogRestart) (was now : L) →
      LogsRestarted told faults log_told log_count streams restarts ended old between logs logs_between → one.line ≡ restart.line → one.handle ≡ restart.handle →
      slice_get logs_between restart.handle ≡ Some was → LogRestarted told faults log_told log_count restart.handle streams one.ended between new was now →
      LogsRestarted told faults log_told log_count streams (restarts ++ restart ∷ []) (ended ++ one ∷ []) old new logs (slice_set logs_between restart.handle now)
  restarted-more [] [] old between new logs logs_between restart one was now before line handle held left =
      let disks_same : between ≡ old = before.0 in
      let logs_same : logs_between ≡ logs = before.1 in (
        new,
        was,
        now,
        line,
        handle,
        sym (ap (λ (l : List L). slice_get l restart.handle) logs_same) ∙ held,
        subst (λ (d : List D). LogRestarted told faults log_told log_count restart.handle streams one.ended d new was now) disks_same left,
        (refl, ap (λ (l : List L). slice_set l restart.handle now) logs_same),
      )
  restarted-more [] (first ∷ ended) old between new logs logs_between restart one was now before line handle held left = absurd before
  restarted-more (first ∷ restarts) [] old between new logs logs_between restart one was now before line handle held left = absurd before
  restarted-more (first ∷ restarts) (head ∷ ended) old between new logs logs_between restart one was now before line handle held left = (
    before.0,
    before.1,
    before.2,
    before.3,
    before.4,
    before.5,
    before.6,
    restarted-more restarts ended before.0 between new (slice_set logs first.handle before.2) logs_between restart one was now before.7 line handle held left,
  )

  -- the same of the next of a script's restarts
  pub restarted-next : (restarts : List RestartLine) (n : ℕ) (d : RestartLine) (ended more : List LogRestart) (old between new : List D) (logs logs_between : List L) (from : ℕ) (one now : L) (answer : Result Numbers CcError) →
      n < length restarts → All (λ restart. restart.handle < length logs) restarts → length logs_between ≡ length logs →
      LogsRestarted told faults log_told log_count streams (take n restarts) ended old between logs logs_between → from ≡ (get_or restarts n d).handle →
      more ≡ ended ++ record { line = (get_or restarts n d).line; handle = (get_or restarts n d).handle; ended = answer } ∷ [] →
      LogRestarted told faults log_told log_count (get_or restarts n d).handle streams answer between new (get_or logs_between from one) now →
      LogsRestarted told faults log_told log_count streams (take (n + 1) restarts) more old new logs (slice_set logs_between from now)
  restarted-next restarts n d ended more old between new logs logs_between from one now answer less within long before place items left =
      let restart : RestartLine = get_or restarts n d in
      let last : LogRestart = record { line = restart.line; handle = restart.handle; ended = answer } in
      let below : restart.handle < length logs = within n d less in
      let held : slice_get logs_between restart.handle ≡ Some (get_or logs_between from one) =
      subst (λ (k : ℕ). slice_get logs_between k ≡ Some (get_or logs_between from one)) place (slice_get-get_or logs_between from one (omega (arith, place, below, long))) in
      let all = restarted-more (take n restarts) ended old between new logs logs_between restart last (get_or logs_between from one) now before refl refl held left in
      subst (λ (l : List RestartLine). LogsRestarted told faults log_told log_count streams l more old new logs (slice_set logs_between from now)) (sym (take_more restarts n d less))
      (subst (λ (l : List LogRestart). LogsRestarted told faults log_told log_count streams (take n restarts ++ restart ∷ []) l old new logs (slice_set logs_between from now)) (sym items)
      (subst (λ (k : ℕ). LogsRestarted told faults log_told log_count streams (take n restarts ++ restart ∷ []) (ended ++ last ∷ []) old new logs (slice_set logs_between k now)) (sym place) all))

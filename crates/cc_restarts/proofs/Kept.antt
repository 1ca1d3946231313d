-- What restarts leave as it was: what the logs tell, and the disks of other streams.
use Rattle.std.specs.Prelude.{◌≡◌, ◌≢◌, ℕ, zero, suc, ◌+◌, ◌<◌, ◌≤◌, true, false, List, [], ◌∷◌, ◌++◌, length, map, slice_get, slice_set, Result, Ok, Err, refl, ◌⊎◌}
use Rattle.std.specs.declared.option.Option.{Option}
use Rattle.std.specs.declared.option.Option.TheVariants.{Some}
use Rattle.std.specs.List.{All}
use Rattle.std.proofs.Common.{ap, sym, subst, ◌∙◌, arith, inl, inr}
use Rattle.std.proofs.lemmas.Bool.{cases_eq, false≢true}
use Rattle.std.proofs.lemmas.List.{length-set}
use Rattle.std.proofs.lemmas.Option.{same_Some, slice_get_within}
use Rattle.cc_entry.specs.declared.error.CcError.{CcError}
use Rattle.cc_entry.specs.declared.error.CcError.TheVariants as error
use Rattle.cc_traits.specs.Disk.{Disk}
use Rattle.cc_traits.specs.Log.{Log}
use Rattle.cc_script.specs.declared.script.RestartLine.{RestartLine}
use Rattle.cc_script.specs.declared.script.StreamLine.{StreamLine}
use Rattle.cc_redo.specs.declared.redo.Redo.{Redo}
use Rattle.cc_redo.proofs.Disking.{get-set_other, get-set_same}
use Rattle.cc_restarts.specs.Given.{GivenTo, is_restarted}
use Rattle.cc_restarts.specs.Restarting.{IsNotRestarted, LogIsUnread, LogRestarted, LogsRestarted, ReadingLeft, RecordsRead, WasRestarted, no_rise}
use Rattle.cc_restarts.specs.Whole.{LogsTell}
use Rattle.cc_restarts.specs.declared.ended.LogRestart.{LogRestart}
use Rattle.cc_restarts.specs.declared.ended.Numbers.{Numbers}
use Rattle.cc_restarts.proofs.Counts.{held}
use Rattle.cc_restarts.proofs.Giving.{given-named}

reading-others : {D : Type 0} (told : D → Option Disk) (faults : D → ℕ) (handle : ℕ) (streams : List StreamLine) (old new : List D) (why : CcError) (s : ℕ) →
    ReadingLeft told faults handle streams old new why → IsNotRestarted handle streams s → slice_get new s ≡ slice_get old s
reading-others told faults handle streams old new (error.ReadFault page) s left apart = left.1.read.others s apart
reading-others told faults handle streams old new error.NoMemory s left apart = left.others s apart
reading-others told faults handle streams old new other s left apart = absurd left

module _ {D L : Type 0} (told : D → Option Disk) (faults : D → ℕ) (log_told : L → Option Log) (log_count : L → ℕ) where
  pub one-others : (handle : ℕ) (streams : List StreamLine) (ended : Result Numbers CcError) (old new : List D) (was now : L) (s : ℕ) →
      LogRestarted told faults log_told log_count handle streams ended old new was now → IsNotRestarted handle streams s → slice_get new s ≡ slice_get old s
  one-others handle streams ended old new was now s (inl unread) apart = reading-others told faults handle streams old new unread.why s unread.left apart
  one-others handle streams ended old new was now s (inr restarted) apart =
      restarted.leaves.others s
      (λ i redo is same.
      let named = given-named told old handle 0 streams restarted.given restarted.given_are i redo is in
      let at_s : slice_get streams s ≡ Some named.1 = ap (λ (k : ℕ). slice_get streams k) (let place = named.2 in omega (arith, same, place)) ∙ named.3 in
      false≢true (sym (apart named.1 at_s) ∙ named.4))
      ∙ restarted.read.others s apart

  pub one-tells : (handle : ℕ) (streams : List StreamLine) (ended : Result Numbers CcError) (old new : List D) (was now : L) →
      LogRestarted told faults log_told log_count handle streams ended old new was now → log_told now ≡ log_told was
  one-tells handle streams ended old new was now (inl unread) = ap log_told unread.log_is
  one-tells handle streams ended old new was now (inr restarted) = restarted.log_tells

  pub all-others : (streams : List StreamLine) (restarts : List RestartLine) (ended : List LogRestart) (old new : List D) (logs logs_after : List L) →
      LogsRestarted told faults log_told log_count streams restarts ended old new logs logs_after → (s : ℕ) → All (λ restart. IsNotRestarted restart.handle streams s) restarts →
      slice_get new s ≡ slice_get old s
  all-others streams [] [] old new logs logs_after restarted s apart = ap (λ (l : List D). slice_get l s) restarted.0
  all-others streams [] (one ∷ ended) old new logs logs_after restarted s apart = absurd restarted
  all-others streams (restart ∷ restarts) [] old new logs logs_after restarted s apart = absurd restarted
  all-others streams (restart ∷ restarts) (one ∷ ended) old new logs logs_after restarted s apart =
      all-others streams restarts ended restarted.0 new (slice_set logs restart.handle restarted.2) logs_after restarted.7 s (λ k d inside. apart (suc k) d (omega arith))
      ∙ one-others restart.handle streams one.ended old restarted.0 restarted.1 restarted.2 s restarted.6 (apart 0 restart (omega arith))

  set-tells : (logs : List L) (handle : ℕ) (was now : L) → slice_get logs handle ≡ Some was → log_told now ≡ log_told was → LogsTell log_told logs (slice_set logs handle now)
  set-tells logs handle was now is same = λ k before after before_is after_is. elim (cases_eq handle k) [
    | inl here ↦
        let inside = slice_get_within logs handle was is in
        let one : before ≡ was = same_Some before was (sym before_is ∙ sym (ap (λ (i : ℕ). slice_get logs i) here) ∙ is) in
        let other : after ≡ now = same_Some after now (sym after_is ∙ sym (ap (λ (i : ℕ). slice_get (slice_set logs handle now) i) here) ∙ get-set_same logs handle now inside) in
        ap log_told other ∙ same ∙ sym (ap log_told one)
    | inr apart ↦ ap log_told (same_Some after before (sym after_is ∙ get-set_other logs handle k now apart ∙ before_is))
  ]

  tells-then : (old between new : List L) → length between ≡ length old → LogsTell log_told old between → LogsTell log_told between new → LogsTell log_told old new
  tells-then old between new long first second = λ k before after before_is after_is.
      let inside : k < length between = let within = slice_get_within old k before before_is in omega arith in
      let here = held between k inside in
      second k here.0 after here.1 after_is ∙ first k before here.0 before_is here.1

  pub all-tell : (streams : List StreamLine) (restarts : List RestartLine) (ended : List LogRestart) (old new : List D) (logs logs_after : List L) →
      LogsRestarted told faults log_told log_count streams restarts ended old new logs logs_after → LogsTell log_told logs logs_after
  all-tell streams [] [] old new logs logs_after restarted = λ k before after before_is after_is.
      ap log_told (same_Some after before (sym after_is ∙ ap (λ (l : List L). slice_get l k) restarted.1 ∙ before_is))
  all-tell streams [] (one ∷ ended) old new logs logs_after restarted = absurd restarted
  all-tell streams (restart ∷ restarts) [] old new logs logs_after restarted = absurd restarted
  all-tell streams (restart ∷ restarts) (one ∷ ended) old new logs logs_after restarted =
      tells-then logs (slice_set logs restart.handle restarted.2) logs_after (length-set logs restart.handle restarted.2)
      (set-tells logs restart.handle restarted.1 restarted.2 restarted.5 (one-tells restart.handle streams one.ended old restarted.0 restarted.1 restarted.2 restarted.6))
      (all-tell streams restarts ended restarted.0 new (slice_set logs restart.handle restarted.2) logs_after restarted.7)

  -- the log of no restart is as it was
  pub all-logs_kept : (streams : List StreamLine) (restarts : List RestartLine) (ended : List LogRestart) (old new : List D) (logs logs_after : List L) →
      LogsRestarted told faults log_told log_count streams restarts ended old new logs logs_after → (k : ℕ) → All (λ restart. restart.handle ≢ k) restarts →
      slice_get logs_after k ≡ slice_get logs k
  all-logs_kept streams [] [] old new logs logs_after restarted k apart = ap (λ (l : List L). slice_get l k) restarted.1
  all-logs_kept streams [] (one ∷ ended) old new logs logs_after restarted k apart = absurd restarted
  all-logs_kept streams (restart ∷ restarts) [] old new logs logs_after restarted k apart = absurd restarted
  all-logs_kept streams (restart ∷ restarts) (one ∷ ended) old new logs logs_after restarted k apart =
      all-logs_kept streams restarts ended restarted.0 new (slice_set logs restart.handle restarted.2) logs_after restarted.7 k (λ i d inside. apart (suc i) d (omega arith))
      ∙ get-set_other logs restart.handle k restarted.2 (apart 0 restart (omega arith))

  pub all-lines : (streams : List StreamLine) (restarts : List RestartLine) (ended : List LogRestart) (old new : List D) (logs logs_after : List L) →
      LogsRestarted told faults log_told log_count streams restarts ended old new logs logs_after → map (λ restart. restart.line) ended ≡ map (λ restart. restart.line) restarts
  all-lines streams [] [] old new logs logs_after restarted = refl
  all-lines streams [] (one ∷ ended) old new logs logs_after restarted = absurd restarted
  all-lines streams (restart ∷ restarts) [] old new logs logs_after restarted = absurd restarted
  all-lines streams (restart ∷ restarts) (one ∷ ended) old new logs logs_after restarted =
      ap (λ (line : ℕ). line ∷ map (λ restart. restart.line) ended) restarted.3
      ∙ ap (λ (l : List ℕ). restart.line ∷ l) (all-lines streams restarts ended restarted.0 new (slice_set logs restart.handle restarted.2) logs_after restarted.7)

  pub all-handles : (streams : List StreamLine) (restarts : List RestartLine) (ended : List LogRestart) (old new : List D) (logs logs_after : List L) →
      LogsRestarted told faults log_told log_count streams restarts ended old new logs logs_after → map (λ restart. restart.handle) ended ≡ map (λ restart. restart.handle) restarts
  all-handles streams [] [] old new logs logs_after restarted = refl
  all-handles streams [] (one ∷ ended) old new logs logs_after restarted = absurd restarted
  all-handles streams (restart ∷ restarts) [] old new logs logs_after restarted = absurd restarted
  all-handles streams (restart ∷ restarts) (one ∷ ended) old new logs logs_after restarted =
      ap (λ (handle : ℕ). handle ∷ map (λ restart. restart.handle) ended) restarted.4
      ∙ ap (λ (l : List ℕ). restart.handle ∷ l) (all-handles streams restarts ended restarted.0 new (slice_set logs restart.handle restarted.2) logs_after restarted.7)

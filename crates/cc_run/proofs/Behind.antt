-- The counts of faults of disks and logs, from what was handed in over what the restarts left to what came back.
use Rattle.std.specs.Prelude.{◌≡◌, ◌≢◌, ℕ, zero, suc, ◌+◌, ◌<◌, ◌≤◌, ◌==◌, ◌||◌, Bool, true, false, List, [], ◌∷◌, All, length, map, slice_get, take, refl, ◌⊎◌}
use Rattle.std.specs.declared.option.Option.{Option}
use Rattle.std.specs.declared.option.Option.TheVariants.{Some, None}
use Rattle.std.specs.List.{list_any}
use Rattle.std.proofs.Common.{ap, sym, ◌∙◌, arith, get_or, inl, inr}
use Rattle.std.proofs.lemmas.Bool.{cases_lt}
use Rattle.std.proofs.lemmas.Option.{same_Some, slice_get_within}
use Rattle.cc_script.specs.Within.{AreRestartsWithin}
use Rattle.cc_script.specs.declared.script.RestartLine.{RestartLine}
use Rattle.cc_script.specs.declared.script.StreamLine.{StreamLine}
use Rattle.cc_traits.specs.Disk.{Disk}
use Rattle.cc_traits.specs.Log.{Log}
use Rattle.cc_restarts.specs.Given.{is_restarted}
use Rattle.cc_restarts.specs.Restarting.{IsNotRestarted, LogsRestarted}
use Rattle.cc_restarts.specs.Whole.{HaveNotFallen, HaveNotRisen, has_failed}
use Rattle.cc_restarts.specs.declared.ended.LogRestart.{LogRestart}
use Rattle.cc_restarts.proofs.Counts.{all-fallen, all-faultless, all-logs_fallen, held}
use Rattle.cc_restarts.proofs.Kept.{all-logs_kept, all-others}
use Rattle.cc_program.specs.Complete.{HaveStayed}
use Rattle.cc_program.specs.Disks.{HaveRisen}
use Rattle.cc_program.specs.Setups.{run_disks, run_logs}

take-get : {A : Type 0} (n : ℕ) (xs : List A) (s : ℕ) (x : A) → slice_get (take n xs) s ≡ Some x → (s < n) × (slice_get xs s ≡ Some x)
take-get zero xs s x is = absurd (cc is)
take-get (suc n) [] s x is = absurd (cc is)
take-get (suc n) (y ∷ xs) zero x is = (omega arith, is)
take-get (suc n) (y ∷ xs) (suc s) x is = let more = take-get n xs s x is in (let low = more.0 in omega (arith, low), more.1)

get-take : {A : Type 0} (n : ℕ) (xs : List A) (s : ℕ) (x : A) → s < n → slice_get xs s ≡ Some x → slice_get (take n xs) s ≡ Some x
get-take zero xs s x low is = absurd (omega arith)
get-take (suc n) [] s x low is = absurd (cc is)
get-take (suc n) (y ∷ xs) zero x low is = is
get-take (suc n) (y ∷ xs) (suc s) x low is = get-take n xs s x (omega arith) is

-- where the counts of the first n did not rise from what was handed in, they rose in neither step
module _ {D : Type 0} (faults : D → ℕ) (n : ℕ) (old begun new : List D) (fallen : HaveNotFallen faults old begun) (risen : HaveRisen faults begun new) (count : length new ≡ length begun) (kept : (s : ℕ) → n ≤ s → slice_get begun s ≡ slice_get old s) (stayed : HaveStayed faults (take n old) (take n new)) where
  pub stayed-behind : HaveStayed faults (take n begun) (take n new)
  stayed-behind s before after before_is after_is =
      let at_begun = take-get n begun s before before_is in
      let inside : s < length old = let within = slice_get_within begun s before at_begun.1 in let long = fallen.count in omega arith in
      let was = held old s inside in
      let up = fallen.each s was.0 before was.1 at_begun.1 in
      let all = stayed s was.0 after (get-take n old s was.0 at_begun.0 was.1) after_is in
      omega arith

  pub not-risen : HaveNotRisen faults old begun
  not-risen s was now is now_is = elim (cases_lt s n) [
    | inl low ↦
        let inside : s < length new = let within = slice_get_within begun s now now_is in omega arith in
        let last = held new s inside in
        let up = risen s now last.0 now_is last.1 in
        let all = stayed s was last.0 (get-take n old s was low is) (get-take n new s last.0 low last.1) in
        omega arith
    | inr high ↦
        let same : now ≡ was = same_Some now was (sym now_is ∙ kept s high ∙ is) in
        let counts : faults now ≡ faults was = ap faults same in
        omega arith
  ]

-- no stream is past the sixteenth, and no log that is restarted past the fourth
few-apart : (handle : ℕ) (streams : List StreamLine) (s : ℕ) → length streams ≤ 16 → 16 ≤ s → IsNotRestarted handle streams s
few-apart handle streams s few high = λ stream is. absurd (let inside = slice_get_within streams s stream is in omega arith)

all-apart : (restarts : List RestartLine) (streams : List StreamLine) (s : ℕ) → length streams ≤ 16 → 16 ≤ s → All (λ restart. IsNotRestarted restart.handle streams s) restarts
all-apart restarts streams s few high = λ i d inside. few-apart _ streams s few high

logs-apart : (restarts : List RestartLine) (k : ℕ) → AreRestartsWithin restarts → 4 ≤ k → (i : ℕ) (d : RestartLine) → i < length restarts → (get_or restarts i d).handle ≢ k
logs-apart [] k within high i d inside = absurd (omega (arith, inside))
logs-apart (restart ∷ restarts) k within high zero d inside = λ same. let low = within.0 in omega arith
logs-apart (restart ∷ restarts) k within high (suc i) d inside = logs-apart restarts k within.2 high i d (omega (arith, inside))

-- the restarts of a script over what was handed in, and a run over what they left, in which no count rose
module _ {D L : Type 0} (told : D → Option Disk) (faults : D → ℕ) (log_told : L → Option Log) (log_faults : L → ℕ) (streams : List StreamLine) (restarts : List RestartLine) (ended : List LogRestart) (disks disks_begun disks_after : List D) (logs logs_begun logs_after : List L) (few : length streams ≤ 16) (within : AreRestartsWithin restarts) (restarted : LogsRestarted told faults log_told log_faults streams restarts ended disks disks_begun logs logs_begun) (risen : HaveRisen faults disks_begun disks_after) (logs_risen : HaveRisen log_faults logs_begun logs_after) (count : length disks_after ≡ length disks_begun) (logs_count : length logs_after ≡ length logs_begun) (stayed : HaveStayed faults (run_disks disks) (run_disks disks_after)) (logs_stayed : HaveStayed log_faults (run_logs logs) (run_logs logs_after)) where
  fallen : HaveNotFallen faults disks disks_begun
  fallen = all-fallen told faults log_told log_faults streams restarts ended disks disks_begun logs logs_begun restarted

  logs_fallen : HaveNotFallen log_faults logs logs_begun
  logs_fallen = all-logs_fallen told faults log_told log_faults streams restarts ended disks disks_begun logs logs_begun restarted

  disks_kept : (s : ℕ) → 16 ≤ s → slice_get disks_begun s ≡ slice_get disks s
  disks_kept s high = all-others told faults log_told log_faults streams restarts ended disks disks_begun logs logs_begun restarted s (all-apart restarts streams s few high)

  logs_kept : (k : ℕ) → 4 ≤ k → slice_get logs_begun k ≡ slice_get logs k
  logs_kept k high = all-logs_kept told faults log_told log_faults streams restarts ended disks disks_begun logs logs_begun restarted k (logs-apart restarts k within high)

  pub run-stayed : HaveStayed faults (run_disks disks_begun) (run_disks disks_after)
  run-stayed = stayed-behind faults 16 disks disks_begun disks_after fallen risen count disks_kept stayed

  pub run-logs_stayed : HaveStayed log_faults (run_logs logs_begun) (run_logs logs_after)
  run-logs_stayed = stayed-behind log_faults 4 logs logs_begun logs_after logs_fallen logs_risen logs_count logs_kept logs_stayed

  pub restarts-calm : list_any (λ restart. has_failed restart.ended) ended ≡ false
  restarts-calm =
      all-faultless told faults log_told log_faults streams restarts ended disks disks_begun logs logs_begun restarted
      (not-risen faults 16 disks disks_begun disks_after fallen risen count disks_kept stayed)
      (not-risen log_faults 4 logs logs_begun logs_after logs_fallen logs_risen logs_count logs_kept logs_stayed)

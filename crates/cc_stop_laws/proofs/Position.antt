-- The restart of one log among those of a script: the disk of a stream of that log, and the log, are as they were until then, and stay
-- as they are then.
use Rattle.std.specs.Prelude.{◌≡◌, ◌≢◌, ℕ, zero, suc, ◌<◌, ◌==◌, ◌&&◌, Bool, true, false, List, [], ◌∷◌, length, slice_get, slice_set, refl}
use Rattle.std.specs.declared.option.Option.{Option}
use Rattle.std.specs.declared.option.Option.TheVariants.{Some}
use Rattle.std.proofs.Common.{ap, sym, subst, ◌∙◌, arith, get_or}
use Rattle.std.proofs.lemmas.Bool.{eqb-true}
use Rattle.std.proofs.lemmas.Option.{same_Some, slice_get-get_or, slice_get_within}
use Rattle.cc_redo.proofs.Disking.{get-set_other, get-set_same}
use Rattle.cc_restarts.proofs.Kept.{all-logs_kept, all-others, one-others}
use Rattle.cc_restarts.specs.Restarting.{IsNotRestarted, LogRestarted, LogsRestarted}
use Rattle.cc_restarts.specs.declared.ended.LogRestart.{LogRestart}
use Rattle.cc_script.specs.declared.script.RestartLine.{RestartLine}
use Rattle.cc_script.specs.declared.script.StreamLine.{StreamLine}
use Rattle.cc_traits.specs.Disk.{Disk}
use Rattle.cc_traits.specs.Log.{Log}
use Rattle.cc_model.specs.Stamps.{is_log}

-- a stream of this log is restarted from no other
apart-of : (streams : List StreamLine) (s log other : ℕ) (stream : StreamLine) → slice_get streams s ≡ Some stream → stream.log ≡ Some log → other ≢ log → IsNotRestarted other streams s
apart-of streams s log other stream named logged differs = λ line is.
    let same : stream ≡ line = same_Some stream line (sym named ∙ is) in
    let its : is_log other line.log ≡ (log == other) = ap (λ (l : StreamLine). is_log other l.log) (sym same) ∙ ap (is_log other) logged in
    go line.stored (is_log other line.log) (its ∙ unequal (log == other) refl)
  where
    unequal : (b : Bool) → (log == other) ≡ b → (log == other) ≡ false
    unequal false is = is
    unequal true is = absurd (differs (sym (eqb-true log other is)))

    go : (a b : Bool) → b ≡ false → (a && b) ≡ false
    go true b is = is
    go false b is = refl

module _ {D L : Type 0} (told : D → Option Disk) (faults : D → ℕ) (log_told : L → Option Log) (log_count : L → ℕ) where
  pub record IsAt (s log : ℕ) (streams : List StreamLine) (one : LogRestart) (disks disks_begun : List D) (logs logs_begun : List L) : Type 0 where
    pub old : List D
    pub new : List D
    pub was : L
    pub now : L
    pub before : slice_get old s ≡ slice_get disks s
    pub after : slice_get disks_begun s ≡ slice_get new s
    pub log_before : slice_get logs log ≡ Some was
    pub log_after : slice_get logs_begun log ≡ Some now
    pub restarted : LogRestarted told faults log_told log_count log streams one.ended old new was now

  module _ (streams : List StreamLine) (s log : ℕ) (stream : StreamLine) (named : slice_get streams s ≡ Some stream) (logged : stream.log ≡ Some log) where
    pub at-restart : (restarts : List RestartLine) (ended : List LogRestart) (disks disks_begun : List D) (logs logs_begun : List L) →
        LogsRestarted told faults log_told log_count streams restarts ended disks disks_begun logs logs_begun → (n : ℕ) (restart : RestartLine) (one : LogRestart) →
        slice_get restarts n ≡ Some restart → restart.handle ≡ log → slice_get ended n ≡ Some one →
        ((k : ℕ) (other : RestartLine) → slice_get restarts k ≡ Some other → other.handle ≡ log → k ≡ n) → IsAt s log streams one disks disks_begun logs logs_begun
    at-restart [] ended disks disks_begun logs logs_begun made n restart one at of_log ends once = absurd (cc at)
    at-restart (head ∷ restarts) [] disks disks_begun logs logs_begun made n restart one at of_log ends once = absurd made
    at-restart (head ∷ restarts) (first ∷ ended) disks disks_begun logs logs_begun made zero restart one at of_log ends once = record {
      old = disks;
      new = made.0;
      was = made.1;
      now = made.2;
      before = refl;
      after =
          all-others told faults log_told log_count streams restarts ended made.0 disks_begun (slice_set logs head.handle made.2) logs_begun made.7 s
          (λ k d inside. apart-of streams s log (get_or restarts k d).handle stream named logged (other-at k d inside));
      log_before = ap (λ (k : ℕ). slice_get logs k) (sym its_log) ∙ made.5;
      log_after =
          all-logs_kept told faults log_told log_count streams restarts ended made.0 disks_begun (slice_set logs head.handle made.2) logs_begun made.7 log other-at
          ∙ (ap (λ (k : ℕ). slice_get (slice_set logs head.handle made.2) k) (sym its_log) ∙ get-set_same logs head.handle made.2 (slice_get_within logs head.handle made.1 made.5));
      restarted =
          subst (λ (r : LogRestart). LogRestarted told faults log_told log_count log streams r.ended disks made.0 made.1 made.2) (same_Some first one ends)
          (subst (λ (h : ℕ). LogRestarted told faults log_told log_count h streams first.ended disks made.0 made.1 made.2) its_log made.6);
    }
      where
        its_log : head.handle ≡ log
        its_log = ap (λ (r : RestartLine). r.handle) (same_Some head restart at) ∙ of_log

        other-at : (k : ℕ) (d : RestartLine) → k < length restarts → (get_or restarts k d).handle ≢ log
        other-at k d inside is = let place = once (suc k) (get_or restarts k d) (slice_get-get_or restarts k d inside) is in absurd (omega (arith, place))
    at-restart (head ∷ restarts) (first ∷ ended) disks disks_begun logs logs_begun made (suc n) restart one at of_log ends once =
        let differs : head.handle ≢ log = λ is. let place = once 0 head refl is in absurd (omega (arith, place)) in
        let rest : IsAt s log streams one made.0 disks_begun (slice_set logs head.handle made.2) logs_begun =
        at-restart restarts ended made.0 disks_begun (slice_set logs head.handle made.2) logs_begun made.7 n restart one at of_log ends
        (λ k other is same. let place = once (suc k) other is same in omega (arith, place)) in
        record {
          old = rest.old;
          new = rest.new;
          was = rest.was;
          now = rest.now;
          before =
              rest.before
              ∙ one-others told faults log_told log_count head.handle streams first.ended disks made.0 made.1 made.2 s made.6 (apart-of streams s log head.handle stream named logged differs);
          after = rest.after;
          log_before = sym (get-set_other logs head.handle log made.2 differs) ∙ rest.log_before;
          log_after = rest.log_after;
          restarted = rest.restarted;
        }

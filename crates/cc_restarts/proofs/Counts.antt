-- The counts of faults of disks and logs: none falls in restarts, and where none rose no restart ended by a fault.
use Rattle.std.specs.Prelude.{◌≡◌, ◌≢◌, ℕ, zero, suc, ◌+◌, ◌<◌, ◌≤◌, ◌==◌, ◌||◌, Bool, true, false, if◌then◌else◌, List, [], ◌∷◌, length, slice_get, slice_set, Result, Ok, Err, refl, ◌⊎◌}
use Rattle.std.specs.declared.option.Option.{Option}
use Rattle.std.specs.declared.option.Option.TheVariants.{Some}
use Rattle.std.specs.List.{list_any}
use Rattle.std.proofs.Common.{ap, sym, subst, ◌∙◌, arith, inl, inr, eq-eqb}
use Rattle.std.proofs.lemmas.Bool.{cases_eq}
use Rattle.std.proofs.lemmas.List.{length-set}
use Rattle.std.proofs.lemmas.Option.{same_Some, slice_get_within}
use Rattle.cc_entry.specs.declared.error.CcError.{CcError}
use Rattle.cc_entry.specs.declared.error.CcError.TheVariants as error
use Rattle.cc_model.specs.Allowed.{is_fault}
use Rattle.cc_traits.specs.Disk.{Disk}
use Rattle.cc_traits.specs.Log.{Log}
use Rattle.cc_script.specs.declared.script.RestartLine.{RestartLine}
use Rattle.cc_script.specs.declared.script.StreamLine.{StreamLine}
use Rattle.cc_redo.specs.declared.redo.Redo.{Redo}
use Rattle.cc_redo.specs.declared.streams.Restarted.{Restarted}
use Rattle.cc_redo.specs.Ends.{EachDisk, IsCounted, IsFaultBy, IsRestartRefusal, OneFailed, log_faults}
use Rattle.cc_redo.proofs.Disking.{get-set_other, get-set_same}
use Rattle.cc_restarts.specs.Restarting.{LogIsUnread, LogRestarted, LogsRestarted, ReadingLeft, RecordsRead, WasRestarted, no_rise, numbers_of, one_rise, with_handle}
use Rattle.cc_restarts.specs.Whole.{HaveNotFallen, HaveNotRisen, has_failed}
use Rattle.cc_restarts.specs.declared.ended.LogRestart.{LogRestart}
use Rattle.cc_restarts.specs.declared.ended.Numbers.{Numbers}

pub held : {D : Type 0} (xs : List D) (k : ℕ) → k < length xs → (x : D) × (slice_get xs k ≡ Some x)
held [] k inside = absurd (omega arith)
held (x ∷ xs) zero inside = (x, refl)
held (x ∷ xs) (suc k) inside = held xs k (omega arith)

-- ---- one step behind another

pub fallen-same : {D : Type 0} (faults : D → ℕ) (old new : List D) → new ≡ old → HaveNotFallen faults old new
fallen-same {D} faults old new same = record {
  count = ap length same;
  each = λ s was now is now_is.
      let one : now ≡ was = same_Some now was (sym now_is ∙ ap (λ (l : List D). slice_get l s) same ∙ is) in
      let counts : faults now ≡ faults was = ap faults one in
      omega arith;
}

pub fallen-then : {D : Type 0} (faults : D → ℕ) (old between new : List D) → HaveNotFallen faults old between → HaveNotFallen faults between new → HaveNotFallen faults old new
fallen-then faults old between new first second = record {
  count = second.count ∙ first.count;
  each = λ s was now is now_is.
      let inside : s < length between = let within = slice_get_within old s was is in let count = first.count in omega arith in
      let here = held between s inside in
      let low = first.each s was here.0 is here.1 in
      let high = second.each s here.0 now here.1 now_is in
      omega arith;
}

-- where the counts of two steps did not rise, that of the first did not, if none falls in the second
risen-first : {D : Type 0} (faults : D → ℕ) (old between new : List D) → HaveNotFallen faults between new → HaveNotRisen faults old new → HaveNotRisen faults old between
risen-first faults old between new second total = λ s was now is now_is.
    let inside : s < length new = let within = slice_get_within between s now now_is in let count = second.count in omega arith in
    let last = held new s inside in
    let up = second.each s now last.0 now_is last.1 in
    let all = total s was last.0 is last.1 in
    omega arith

risen-second : {D : Type 0} (faults : D → ℕ) (old between new : List D) → HaveNotFallen faults old between → HaveNotRisen faults old new → HaveNotRisen faults between new
risen-second faults old between new first total = λ s was now is now_is.
    let inside : s < length old = let within = slice_get_within between s was is in let count = first.count in omega arith in
    let begun = held old s inside in
    let up = first.each s begun.0 was begun.1 is in
    let all = total s begun.0 now begun.1 now_is in
    omega arith

-- ---- the records are read

read-fallen : {D : Type 0} (told : D → Option Disk) (faults : D → ℕ) (handle : ℕ) (streams : List StreamLine) (rise : ℕ → ℕ) (old new : List D) → RecordsRead told faults handle streams rise old new → HaveNotFallen faults old new
read-fallen told faults handle streams rise old new read = record {
  count = read.count;
  each = λ s was now is now_is. let counted = read.counted s was now is now_is in omega arith;
}

reading-fallen : {D : Type 0} (told : D → Option Disk) (faults : D → ℕ) (handle : ℕ) (streams : List StreamLine) (old new : List D) (why : CcError) → ReadingLeft told faults handle streams old new why → HaveNotFallen faults old new
reading-fallen told faults handle streams old new (error.ReadFault page) left = read-fallen told faults handle streams (one_rise left.1.s) old new left.1.read
reading-fallen told faults handle streams old new error.NoMemory left = read-fallen told faults handle streams no_rise old new left
reading-fallen told faults handle streams old new other left = absurd left

one-rises : (s : ℕ) → one_rise s s ≡ 1
one-rises s = rw (eq-eqb s s refl) refl

reading-faultless : {D : Type 0} (told : D → Option Disk) (faults : D → ℕ) (handle : ℕ) (streams : List StreamLine) (old new : List D) (why : CcError) → ReadingLeft told faults handle streams old new why → HaveNotRisen faults old new → is_fault why ≡ false
reading-faultless told faults handle streams old new (error.ReadFault page) left stayed =
    let failed = left.1 in
    let inside : failed.s < length new = let within = slice_get_within old failed.s failed.disk failed.before in let count = failed.read.count in omega arith in
    let now = held new failed.s inside in
    let rose = failed.read.counted failed.s failed.disk now.0 failed.before now.1 in
    let one = one-rises failed.s in
    let low = stayed failed.s failed.disk now.0 failed.before now.1 in
    absurd (omega arith)
reading-faultless told faults handle streams old new error.NoMemory left stayed = refl
reading-faultless told faults handle streams old new other left stayed = absurd left

-- ---- the restart of a log

-- a disk is that of a stream that is given, or of none
pub given-at : (given : List Redo) (k : ℕ) → ((i : ℕ) × (redo : Redo) × (slice_get given i ≡ Some redo) × (redo.disk ≡ k))
    ⊎ ((i : ℕ) (redo : Redo) → slice_get given i ≡ Some redo → redo.disk ≢ k)
given-at [] k = inr (λ i redo is. absurd (cc is))
given-at (first ∷ given) k = elim (cases_eq first.disk k) [
  | inl same ↦ inl (zero, first, refl, same)
  | inr apart ↦ elim (given-at given k) [
    | inl there ↦ inl (suc there.0, there.1, there.2, there.3)
    | inr none ↦ inr (behind apart none)
  ]
]
  where
    behind : (first.disk ≢ k) → ((i : ℕ) (redo : Redo) → slice_get given i ≡ Some redo → redo.disk ≢ k) →
        (i : ℕ) (redo : Redo) → slice_get (first ∷ given) i ≡ Some redo → redo.disk ≢ k
    behind apart none zero redo is = subst (λ (r : Redo). r.disk ≢ k) (same_Some first redo is) apart
    behind apart none (suc i) redo is = none i redo is

counted-up : {A : Type 0} (answered : Result A CcError) (was now : ℕ) → IsCounted answered was now → was ≤ now
counted-up (Ok done) was now counted = let same : now ≡ was = counted in omega arith
counted-up (Err e) was now counted = counted

pub each-fallen : {D A : Type 0} (faults : D → ℕ) (given : List Redo) (answered : Result A CcError) (old new : List D) →
    EachDisk given (λ redo before after. IsCounted answered (faults before) (faults after)) old new → HaveNotFallen faults old new
each-fallen {D} faults given answered old new each = record {
  count = each.count;
  each = λ s was now is now_is. elim (given-at given s) [
    | inl there ↦
        let was_is : slice_get old there.1.disk ≡ Some was = ap (λ (k : ℕ). slice_get old k) there.3 ∙ is in
        let new_is : slice_get new there.1.disk ≡ Some now = ap (λ (k : ℕ). slice_get new k) there.3 ∙ now_is in
        counted-up answered (faults was) (faults now) (each.given there.0 there.1 was now there.2 was_is new_is)
    | inr none ↦
        let one : now ≡ was = same_Some now was (sym now_is ∙ each.others s none ∙ is) in
        let counts : faults now ≡ faults was = ap faults one in
        omega arith
  ];
}

-- no refusal of a restart is a fault whose count did not rise
one-failed : {D : Type 0} (faults : D → ℕ) (P : Redo → D → D → Type 0) (given : List Redo) (old new : List D) → OneFailed faults P given old new → HaveNotRisen faults old new → ⊥
one-failed faults P given old new failed stayed =
    let low = stayed failed.1.disk failed.2 failed.3 failed.5 failed.6 in
    let rose = failed.7 in
    omega arith

refused-faultless : {D : Type 0} (told : D → Option Disk) (faults : D → ℕ) (given : List Redo) (log : Option Log) (handle log_was log_now : ℕ) (old new : List D) (e : CcError) →
    IsRestartRefusal told faults given log old new e → log_now ≡ log_was + log_faults {A = Restarted} (Err e) → HaveNotRisen faults old new → log_now ≤ log_was → is_fault (with_handle handle e) ≡ false
refused-faultless told faults given log handle log_was log_now old new (error.TooLong limit) refused counted stayed log_stayed = refl
refused-faultless told faults given log handle log_was log_now old new (error.LogFault h) refused counted stayed log_stayed = absurd (omega arith)
refused-faultless told faults given log handle log_was log_now old new (error.ReadFault page) refused counted stayed log_stayed = absurd (one-failed faults (IsFaultBy told given log (error.ReadFault page)) given old new refused stayed)
refused-faultless told faults given log handle log_was log_now old new (error.WriteFault page) refused counted stayed log_stayed = absurd (one-failed faults (IsFaultBy told given log (error.WriteFault page)) given old new refused stayed)
refused-faultless told faults given log handle log_was log_now old new error.NoMemory refused counted stayed log_stayed = refl
refused-faultless told faults given log handle log_was log_now old new other refused counted stayed log_stayed = absurd refused

module _ {D L : Type 0} (told : D → Option Disk) (faults : D → ℕ) (log_told : L → Option Log) (log_count : L → ℕ) where
  was-fallen : (handle : ℕ) (streams : List StreamLine) (ended : Result Numbers CcError) (old new : List D) (was now : L) →
      WasRestarted told faults log_told log_count handle streams ended old new was now → HaveNotFallen faults old new
  was-fallen handle streams ended old new was now restarted =
      fallen-then faults old restarted.between new
      (read-fallen told faults handle streams no_rise old restarted.between restarted.read)
      (each-fallen faults restarted.given restarted.answered restarted.between new restarted.counted)

  pub one-fallen : (handle : ℕ) (streams : List StreamLine) (ended : Result Numbers CcError) (old new : List D) (was now : L) →
      LogRestarted told faults log_told log_count handle streams ended old new was now → HaveNotFallen faults old new
  one-fallen handle streams ended old new was now (inl unread) = reading-fallen told faults handle streams old new unread.why unread.left
  one-fallen handle streams ended old new was now (inr restarted) = was-fallen handle streams ended old new was now restarted

  pub one-log_fallen : (handle : ℕ) (streams : List StreamLine) (ended : Result Numbers CcError) (old new : List D) (was now : L) →
      LogRestarted told faults log_told log_count handle streams ended old new was now → log_count was ≤ log_count now
  one-log_fallen handle streams ended old new was now (inl unread) = let counts : log_count now ≡ log_count was = ap log_count unread.log_is in omega arith
  one-log_fallen handle streams ended old new was now (inr restarted) = let counts = restarted.log_counted in omega arith

  answered-faultless : (handle : ℕ) (given : List Redo) (log : Option Log) (log_was log_now : ℕ) (between new : List D) (answered : Result Restarted CcError) →
      ((e : CcError) → answered ≡ Err e → IsRestartRefusal told faults given log between new e) → log_now ≡ log_was + log_faults answered → HaveNotRisen faults between new → log_now ≤ log_was →
      has_failed (numbers_of handle answered) ≡ false
  answered-faultless handle given log log_was log_now between new (Ok done) refused counted stayed log_stayed = refl
  answered-faultless handle given log log_was log_now between new (Err e) refused counted stayed log_stayed =
      refused-faultless told faults given log handle log_was log_now between new e (refused e refl) counted stayed log_stayed

  pub one-faultless : (handle : ℕ) (streams : List StreamLine) (ended : Result Numbers CcError) (old new : List D) (was now : L) →
      LogRestarted told faults log_told log_count handle streams ended old new was now → HaveNotRisen faults old new → log_count now ≤ log_count was → has_failed ended ≡ false
  one-faultless handle streams ended old new was now (inl unread) stayed log_stayed =
      ap has_failed unread.ended_is ∙ reading-faultless told faults handle streams old new unread.why unread.left stayed
  one-faultless handle streams ended old new was now (inr restarted) stayed log_stayed =
      ap has_failed restarted.ended_is
      ∙ answered-faultless handle restarted.given (log_told was) (log_count was) (log_count now) restarted.between new restarted.answered restarted.refused restarted.log_counted
      (risen-second faults old restarted.between new (read-fallen told faults handle streams no_rise old restarted.between restarted.read) stayed) log_stayed

  -- one log of several was restarted
  pub set-fallen : (logs : List L) (handle : ℕ) (was now : L) → slice_get logs handle ≡ Some was → log_count was ≤ log_count now → HaveNotFallen log_count logs (slice_set logs handle now)
  set-fallen logs handle was now is up = record {
    count = length-set logs handle now;
    each = λ k before after before_is after_is. elim (cases_eq handle k) [
      | inl same ↦
          let inside = slice_get_within logs handle was is in
          let one : before ≡ was = same_Some before was (sym before_is ∙ sym (ap (λ (i : ℕ). slice_get logs i) same) ∙ is) in
          let other : after ≡ now = same_Some after now (sym after_is ∙ sym (ap (λ (i : ℕ). slice_get (slice_set logs handle now) i) same) ∙ get-set_same logs handle now inside) in
          let low : log_count before ≡ log_count was = ap log_count one in
          let high : log_count after ≡ log_count now = ap log_count other in
          omega arith
      | inr apart ↦
          let one : after ≡ before = same_Some after before (sym after_is ∙ get-set_other logs handle k now apart ∙ before_is) in
          let counts : log_count after ≡ log_count before = ap log_count one in
          omega arith
    ];
  }

  -- ---- all restarts of a script

  pub all-fallen : (streams : List StreamLine) (restarts : List RestartLine) (ended : List LogRestart) (old new : List D) (logs logs_after : List L) →
      LogsRestarted told faults log_told log_count streams restarts ended old new logs logs_after → HaveNotFallen faults old new
  all-fallen streams [] [] old new logs logs_after restarted = fallen-same faults old new restarted.0
  all-fallen streams [] (one ∷ ended) old new logs logs_after restarted = absurd restarted
  all-fallen streams (restart ∷ restarts) [] old new logs logs_after restarted = absurd restarted
  all-fallen streams (restart ∷ restarts) (one ∷ ended) old new logs logs_after restarted =
      fallen-then faults old restarted.0 new (one-fallen restart.handle streams one.ended old restarted.0 restarted.1 restarted.2 restarted.6)
      (all-fallen streams restarts ended restarted.0 new (slice_set logs restart.handle restarted.2) logs_after restarted.7)

  pub all-logs_fallen : (streams : List StreamLine) (restarts : List RestartLine) (ended : List LogRestart) (old new : List D) (logs logs_after : List L) →
      LogsRestarted told faults log_told log_count streams restarts ended old new logs logs_after → HaveNotFallen log_count logs logs_after
  all-logs_fallen streams [] [] old new logs logs_after restarted = fallen-same log_count logs logs_after restarted.1
  all-logs_fallen streams [] (one ∷ ended) old new logs logs_after restarted = absurd restarted
  all-logs_fallen streams (restart ∷ restarts) [] old new logs logs_after restarted = absurd restarted
  all-logs_fallen streams (restart ∷ restarts) (one ∷ ended) old new logs logs_after restarted =
      fallen-then log_count logs (slice_set logs restart.handle restarted.2) logs_after
      (set-fallen logs restart.handle restarted.1 restarted.2 restarted.5 (one-log_fallen restart.handle streams one.ended old restarted.0 restarted.1 restarted.2 restarted.6))
      (all-logs_fallen streams restarts ended restarted.0 new (slice_set logs restart.handle restarted.2) logs_after restarted.7)

  pub all-faultless : (streams : List StreamLine) (restarts : List RestartLine) (ended : List LogRestart) (old new : List D) (logs logs_after : List L) →
      LogsRestarted told faults log_told log_count streams restarts ended old new logs logs_after → HaveNotRisen faults old new → HaveNotRisen log_count logs logs_after →
      list_any (λ restart. has_failed restart.ended) ended ≡ false
  all-faultless streams [] [] old new logs logs_after restarted stayed logs_stayed = refl
  all-faultless streams [] (one ∷ ended) old new logs logs_after restarted stayed logs_stayed = absurd restarted
  all-faultless streams (restart ∷ restarts) [] old new logs logs_after restarted stayed logs_stayed = absurd restarted
  all-faultless streams (restart ∷ restarts) (one ∷ ended) old new logs logs_after restarted stayed logs_stayed =
      let handle = restart.handle in
      let between = restarted.0 in
      let was = restarted.1 in
      let now = restarted.2 in
      let set = slice_set logs handle now in
      let rest = all-fallen streams restarts ended between new set logs_after restarted.7 in
      let logs_rest = all-logs_fallen streams restarts ended between new set logs_after restarted.7 in
      let first = one-fallen handle streams one.ended old between was now restarted.6 in
      let logs_first = set-fallen logs handle was now restarted.5 (one-log_fallen handle streams one.ended old between was now restarted.6) in
      let inside = slice_get_within logs handle was restarted.5 in
      let log_stayed = risen-first log_count logs set logs_after logs_rest logs_stayed handle was now restarted.5 (get-set_same logs handle now inside) in
      let head = one-faultless handle streams one.ended old between was now restarted.6 (risen-first faults old between new rest stayed) log_stayed in
      let tail = all-faultless streams restarts ended between new set logs_after restarted.7 (risen-second faults old between new first stayed) (risen-second log_count logs set logs_after logs_first logs_stayed) in
      ap (λ (b : Bool). b || list_any (λ restart. has_failed restart.ended) ended) head ∙ tail

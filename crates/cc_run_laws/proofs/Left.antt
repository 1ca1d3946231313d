-- What the clauses of the program's call say of one disk and of one log that tell.
use Rattle.std.specs.Prelude.{◌≡◌, ℕ, zero, suc, ◌<◌, List, [], ◌∷◌, slice_get, take}
use Rattle.std.specs.declared.option.Option.{Option}
use Rattle.std.specs.declared.option.Option.TheVariants.{Some}
use Rattle.std.proofs.Common.{subst, arith}
use Rattle.cc_entry.specs.declared.entry.Entry.{Entry}
use Rattle.cc_log.specs.Turn.{HoldsLogEntries, appended}
use Rattle.cc_model.specs.Allowed.{IsAllowed}
use Rattle.cc_model.specs.Good.{IsGood, IsGoodSoFar}
use Rattle.cc_model.specs.History.{history}
use Rattle.cc_model.specs.Logs.{flushed_to}
use Rattle.cc_model.specs.Setup.{Setup}
use Rattle.cc_traits.specs.Disk.{Disk}
use Rattle.cc_traits.specs.Log.{Log}
use Rattle.cc_traits.specs.Told.{Both}
use Rattle.cc_turns.specs.Disk.{HasGone}
use Rattle.cc_turns.specs.RecordPage.{RecordHasGone}
use Rattle.cc_program.specs.Disks.{DisksLeft}
use Rattle.cc_program.specs.Logs.{LogsLeft}
use Rattle.cc_stop_laws.specs.Redoable.{HasLeft, TellsAt}

-- a good journal is good so far
pub so-far : (u : Setup) (past : List Entry) → IsGood u past → IsGoodSoFar u past
unfolding IsAllowed
so-far u past good = record { legal = good.legal; allowed = good.allowed.0; covered = good.covered }

get-take : {A : Type 0} (n : ℕ) (xs : List A) (s : ℕ) (x : A) → s < n → slice_get xs s ≡ Some x → slice_get (take n xs) s ≡ Some x
get-take zero xs s x low is = absurd (omega (arith, low))
get-take (suc n) [] s x low is = absurd (cc is)
get-take (suc n) (y ∷ xs) zero x low is = is
get-take (suc n) (y ∷ xs) (suc s) x low is = get-take n xs s x (omega (arith, low)) is

-- two that both tell stand as is said
both-of : {T : Type 0} (P : T → T → Type 0) (was now : Option T) (old new : T) → was ≡ Some old → now ≡ Some new → Both was now P → P old new
both-of P was now old new is also both = subst (λ o. Both (Some old) o P) also (subst (λ o. Both o now P) is both)

pub disk-gone : {D : Type 0} (told : D → Option Disk) (faults : D → ℕ) (past : List Entry) (disks disks_after : List D) → DisksLeft told faults past disks disks_after → (s : ℕ) → s < 16 → (opening left : Disk) →
    TellsAt told disks s opening → TellsAt told disks_after s left → HasGone (history past s) opening left × RecordHasGone past s opening left
disk-gone told faults past disks disks_after are s below opening left was now =
    let at_first = get-take 16 disks s was.device below was.at in
    let at_last = get-take 16 disks_after s now.device below now.at in (
      both-of (HasGone (history past s)) (told was.device) (told now.device) opening left was.tells now.tells (are.are.went s was.device now.device at_first at_last),
      both-of (RecordHasGone past s) (told was.device) (told now.device) opening left was.tells now.tells (are.are.records s was.device now.device at_first at_last),
    )

pub log-gone : {L : Type 0} (told : L → Option Log) (faults : L → ℕ) (past : List Entry) (logs logs_after : List L) → LogsLeft told faults past logs logs_after → (log : ℕ) → log < 4 → (begun after : Log) →
    TellsAt told logs log begun → TellsAt told logs_after log after → HoldsLogEntries (appended past log) (flushed_to past log) begun after
log-gone told faults past logs logs_after are log below begun after was now =
    both-of (HoldsLogEntries (appended past log) (flushed_to past log)) (told was.device) (told now.device) begun after was.tells now.tells
    (are.are.went log was.device now.device (get-take 4 logs log was.device below was.at) (get-take 4 logs_after log now.device below now.at))

pub has-left : {D L : Type 0} (told : D → Option Disk) (faults : D → ℕ) (log_told : L → Option Log) (log_faults : L → ℕ) (past : List Entry) (disks disks_after : List D) (logs logs_after : List L) → DisksLeft told faults past disks disks_after →
    LogsLeft log_told log_faults past logs logs_after → (s log : ℕ) (opening left : Disk) (begun after : Log) → s < 16 → log < 4 → TellsAt told disks s opening → TellsAt told disks_after s left → TellsAt log_told logs log begun → TellsAt log_told logs_after log after →
    HasLeft past s log opening left begun after
has-left told faults log_told log_faults past disks disks_after logs logs_after disks_left logs_left s log opening left begun after below low disk_was disk_now log_was log_now =
    let gone = disk-gone told faults past disks disks_after disks_left s below opening left disk_was disk_now in
    record { gone = gone.0; record_gone = gone.1; logged = log-gone log_told log_faults past logs logs_after logs_left log low begun after log_was log_now }

-- The disks that come back from a run.
use Rattle.std.specs.Prelude.{◌≡◌, ℕ, ◌+◌, ◌≤◌, List, [], ◌++◌, length, reverse, take, drop, slice_get, refl, Contains}
use Rattle.std.specs.declared.option.Option.{Option}
use Rattle.std.specs.declared.option.Option.TheVariants.{Some, None}
use Rattle.std.proofs.Common.{subst, sym, arith}
use Rattle.std.proofs.lemmas.List.Elements.{Contains-push}
use Rattle.cc_entry.specs.declared.entry.Entry.{Entry}
use Rattle.cc_traits.specs.Disk.{Disk, page_of}
use Rattle.cc_traits.specs.Told.{Both}
use Rattle.cc_model.specs.Allowed.{IsAllowed, IsAllowedSoFar}
use Rattle.cc_model.specs.Covered.{IsCovered}
use Rattle.cc_model.specs.Good.{IsGood}
use Rattle.cc_model.specs.History.{history}
use Rattle.cc_model.specs.Images.{image, crash_pages}
use Rattle.cc_model.specs.Legal.{IsLegal}
use Rattle.cc_model.specs.Setup.{Setup}
use Rattle.cc_effects.specs.Failures.{failures}
use Rattle.cc_turns.specs.Disk.{DiskStands, HasGone}
use Rattle.cc_turns.specs.RecordPage.{RecordHasGone}
use Rattle.cc_turns.proofs.RecordPage.{record_gone-none}
use Rattle.cc_turns.specs.Desk.{disk_at_first}
use Rattle.cc_program.specs.Disks.{Pairwise, DisksAre, DisksLeft, DisksStand, HaveRisen, AreCounted}
use Rattle.cc_run.proofs.Returned.{some-same, pairwise-same, as-many, firsts, others, of-all}

-- Disks of a run that stand for a past, before those that the run did not take.
module _ {D : Type 0} (told : D → Option Disk) (faults : D → ℕ) (past : List Entry) (old front new : List D) (stand : DisksStand told faults (λ s. disk_at_first told faults (slice_get (take 16 old) s)) (length (take 16 old)) past front) (back : new ≡ front ++ drop 16 old) where
  abbrev Stood : ℕ → D → D → Type 0
  Stood s before after = DiskStands told faults (disk_at_first told faults (Some before)) past s after

  stood : Pairwise Stood (take 16 old) front
  stood s before after was is = subst (λ o. DiskStands told faults (disk_at_first told faults o) past s after) was (stand.each s after is)

  stood-back : Pairwise Stood (take 16 old) (take 16 new)
  stood-back = firsts 16 Stood old front new stand.counted stood back

  disks-are : DisksAre told past old new
  disks-are = record {
    count = as-many 16 Stood old front new stand.counted stood back;
    went = λ s before after was is. (stood-back s before after was is).has_gone;
    records = λ s before after was is. (stood-back s before after was is).record_has_gone;
    rest = others 16 Stood old front new stand.counted stood back;
  }

  are-counted : AreCounted faults past old new
  are-counted s before after was is = (stood-back s before after was is).counted

  have-risen : HaveRisen faults old new
  have-risen =
      of-all 16 Stood old front new stand.counted stood back (λ before after. faults before ≤ faults after) (λ d. omega arith)
      (λ s before after stands. omega (arith, stands.counted))

  pub disks-left : DisksLeft told faults past old new
  disks-left = record { are = disks-are; counted = are-counted; risen = have-risen }

-- a disk that was not used has gone nowhere
gone-none : (now : Option Disk) → Both now now (HasGone (history [] 0))
unfolding history image crash_pages
gone-none None = tt
gone-none (Some disk) = record {
  images = λ p bytes apart is. some-same (page_of disk p) bytes is;
  among = λ p apart alone. subst (λ contents. Contains contents (page_of disk p)) (sym alone) (Contains-push [] (page_of disk p));
  crash = λ p content apart alone among. subst (λ contents. Contains contents content) alone among;
  exact = λ p apart alone free well. alone;
}

record-none : (s : ℕ) (now : Option Disk) → Both now now (RecordHasGone [] s)
record-none s None = tt
record-none s (Some disk) = record_gone-none s disk

failures-none : (s : ℕ) → failures s [] ≡ 0
unfolding failures
failures-none s = refl

history-none : (s : ℕ) → history [] s ≡ history [] 0
unfolding history
history-none s = refl

-- the disks as they were
disks-same : {D : Type 0} (told : D → Option Disk) (disks : List D) → DisksAre told [] disks disks
disks-same told disks = record {
  count = refl;
  went = pairwise-same (λ s before after. Both (told before) (told after) (HasGone (history [] s))) (take 16 disks) (λ s d. rw (history-none s) (gone-none (told d)));
  records = pairwise-same (λ s before after. Both (told before) (told after) (RecordHasGone [] s)) (take 16 disks) (λ s d. record-none s (told d));
  rest = refl;
}

risen-same : {D : Type 0} (faults : D → ℕ) (disks : List D) → HaveRisen faults disks disks
risen-same faults disks = pairwise-same (λ s before after. faults before ≤ faults after) disks (λ s d. omega arith)

counted-same : {D : Type 0} (faults : D → ℕ) (disks : List D) → AreCounted faults [] disks disks
counted-same faults disks =
    pairwise-same (λ s before after. faults before + failures s [] ≤ faults after) (take 16 disks) (λ s d. omega (arith, failures-none s))

pub disks-kept : {D : Type 0} (told : D → Option Disk) (faults : D → ℕ) (disks : List D) → DisksLeft told faults [] disks disks
disks-kept told faults disks = record {
  are = disks-same told disks;
  counted = counted-same faults disks;
  risen = risen-same faults disks;
}

-- the empty journal is good
pub good-none : (u : Setup) (journal : List Entry) → journal ≡ [] → IsGood u (reverse journal)
unfolding IsLegal IsAllowed IsAllowedSoFar IsCovered
good-none u journal is = rw is (record { legal = tt; allowed = (tt, refl); covered = tt })

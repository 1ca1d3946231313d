-- What a sync leaves of its disk.
use Rattle.std.specs.Prelude.{◌≡◌, ℕ, ◌+◌, ◌<◌, Bool, true, false, not, ◌||◌, ◌==◌, List, [], ◌∷◌, ◌++◌, Contains, Result, Ok, Err, OnOk, OnErr, refl}
use Rattle.std.specs.declared.option.Option.{Option}
use Rattle.std.specs.declared.option.Option.TheVariants.{Some, None}
use Rattle.std.proofs.Common.{arith, sym, ap, subst, ◌∙◌}
use Rattle.std.proofs.lemmas.Bool.{eq-eqb, and_parts}
use Rattle.std.proofs.lemmas.List.Elements.{Contains-push}
use Rattle.cc_entry.specs.declared.entry.Entry.{Entry}
use Rattle.cc_entry.specs.declared.entry.Entry.TheVariants as entry
use Rattle.cc_entry.specs.declared.entry.End.{End}
use Rattle.cc_entry.specs.declared.entry.End.TheVariants as end
use Rattle.cc_traits.specs.Disk.{Disk, page_of, may_of, Settled}
use Rattle.cc_traits.specs.Stop.{faults_in}
use Rattle.cc_traits.specs.Told.{Both}
use Rattle.cc_traits.specs.declared.stop.Stop.{Stop}
use Rattle.cc_traits.specs.declared.stop.Stop.TheVariants as stop
use Rattle.cc_effects.specs.Failures.{failures}
use Rattle.cc_laws.proofs.HistorySteps.{history-sync}
use Rattle.cc_laws.proofs.ImageSteps.{image-synced, crash_pages-synced_known, crash_pages-synced_unknown, crash_pages-synced_bad}
use Rattle.cc_laws.proofs.KeptLaws.{SameImages-synced}
use Rattle.cc_model.specs.Bytes.{page_bytes}
use Rattle.cc_model.specs.History.{Effect, Did, CameIn, WentOut, Began, Ended, Synced, history}
use Rattle.cc_model.specs.Images.{begun, image, image_after, crash_pages}
use Rattle.cc_model.specs.Sizes.{ended_ok}
use Rattle.cc_model.specs.Turns.{Device, is_quiet}
use Rattle.cc_turns.specs.Standing.{DiskAtFirst}
use Rattle.cc_turns.specs.Disk.{DiskStands, HasGone, all_ended_well}
use Rattle.cc_turns.specs.RecordPage.{record_number, RecordHasGone}
use Rattle.cc_turns.proofs.DiskGrows.{disk_grows, has_gone_same}
use Rattle.cc_turns.proofs.RecordPage.{only_one, record-left, record_gone-same, record_gone-synced}
use Rattle.cc_turns.specs.Transfers.{transfer_end, transfer_faults, synced}
use Rattle.cc_turns.proofs.Keeping.{both_so}
use Rattle.cc_turns.proofs.PageWritten.{both_through, faults_by-end}

-- an end that was good, or that was of no transfer, leaves a known image
known_after : (pages : ℕ → List ℕ) (p : ℕ) (front : Option (List Effect)) (good : Bool) (old : Option (List ℕ)) → good ≡ true → (bytes : List ℕ) × (old ≡ Some bytes) → (bytes : List ℕ) × (image_after pages p front good old ≡ Some bytes)
known_after pages p None good old well before = before
known_after pages p (Some front) true old well before = (page_bytes pages front p, refl)
known_after pages p (Some front) false old well before = absurd (cc)

-- the image of a page is known where each of its transfers that ended, ended well
known : (pages : ℕ → List ℕ) (h : List Effect) (p : ℕ) → all_ended_well h p ≡ true → (bytes : List ℕ) × (image pages h p ≡ Some bytes)
unfolding all_ended_well image
known pages [] p well = (pages p, refl)
known pages (Did pass call reply ∷ h) p well = known pages h p well
known pages (CameIn pass page from_disk ∷ h) p well = known pages h p well
known pages (WentOut pass page ∷ h) p well = known pages h p well
known pages (Began pass page ∷ h) p well = known pages h p well
known pages (Ended pass page how ∷ h) p well =
    let parts = and_parts (not (page == p) || ended_ok how) (all_ended_well h p) well in
    go (page == p) parts.0 (known pages h p parts.1)
  where
    go : (b : Bool) → (not b || ended_ok how) ≡ true → (bytes : List ℕ) × (image pages h p ≡ Some bytes) → (bytes : List ℕ) × (elim b as (λ x. Option (List ℕ)) [ true ↦ image_after pages p (begun h p) (ended_ok how) (image pages h p) | false ↦ image pages h p ] ≡ Some bytes)
    go true good before = known_after pages p (begun h p) (ended_ok how) (image pages h p) good before
    go false other before = before
known pages (Synced pass how ∷ h) p well = known pages h p well

-- A good sync left the disk that stands for it,
gone_settled : (h : List Effect) (pass : ℕ) (opening old new : Disk) → Settled old new → HasGone h opening old → HasGone (Synced pass end.Good ∷ h) opening new
unfolding all_ended_well
gone_settled h pass opening old new settled gone = record {
  images = λ p bytes apart is. settled.holds p ∙ gone.images p bytes apart (sym (image-synced (page_of opening) pass end.Good h p) ∙ is);
  among = λ p apart alone. rw (settled.may p, settled.holds p) (Contains-push [] (page_of old p));
  crash = λ p content apart alone among.
      crash p content apart alone (only_one (page_of old p) content (subst (λ contents. Contains contents content) (settled.may p) among))
      (image (page_of opening) h p) refl;
  exact = λ p apart alone free well.
      let image_is = known (page_of opening) h p well in
      settled.may p
      ∙ (ap (λ bytes. bytes ∷ []) (gone.images p image_is.0 apart image_is.1)
      ∙ sym (crash_pages-synced_known (page_of opening) pass end.Good h p image_is.0 refl image_is.1));
}
  where
    crash : (p : ℕ) (content : List ℕ) → (p == record_number) ≡ false → may_of opening p ≡ page_of opening p ∷ [] → page_of old p ≡ content → (o : Option (List ℕ)) → image (page_of opening) h p ≡ o → Contains (crash_pages (page_of opening) (Synced pass end.Good ∷ h) p) content
    crash p content apart alone same None unknown =
        rw (crash_pages-synced_unknown (page_of opening) pass end.Good h p refl unknown)
        (gone.crash p content apart alone (subst (λ bytes. Contains (may_of old p) bytes) same (gone.among p apart alone)))
    crash p content apart alone same (Some bytes) is =
        rw (crash_pages-synced_known (page_of opening) pass end.Good h p bytes refl is)
        (subst (λ held. Contains (bytes ∷ []) held) (sym (gone.images p bytes apart is) ∙ same) (Contains-push [] bytes))

-- and one that was not good did too, with the disk as it was.
gone_unsettled : (h : List Effect) (pass : ℕ) (how : End) (opening now : Disk) → ended_ok how ≡ false → HasGone h opening now → HasGone (Synced pass how ∷ h) opening now
unfolding all_ended_well
gone_unsettled h pass how opening now bad gone =
    has_gone_same h (Synced pass how ∷ h) opening now (SameImages-synced pass how h)
    (record { same_crash = λ pages p. crash_pages-synced_bad pages pass how h p bad }) (λ p. refl) gone

both_synced : (h : List Effect) (pass : ℕ) (answered : Result (Unit {0}) Stop) (first old new : Option Disk) → OnOk answered (Both old new Settled) → OnErr answered (new ≡ old) → Both first old (HasGone h) → Both first new (HasGone (Synced pass (transfer_end answered) ∷ h))
both_synced h pass (Ok done) first old new settled same gone =
    both_through (HasGone h) Settled (HasGone (Synced pass end.Good ∷ h)) first old new
    (λ x y z is stood it. gone_settled h pass x y z it stood) gone settled
both_synced h pass (Err stop.Failed) first old new settled same gone =
    subst (λ now. Both first now (HasGone (Synced pass end.Failed ∷ h))) (sym same)
    (both_so (HasGone h) (HasGone (Synced pass end.Failed ∷ h)) first old (λ x y is stood. gone_unsettled h pass end.Failed x y refl stood) gone)
both_synced h pass (Err stop.NoMemory) first old new settled same gone =
    subst (λ now. Both first now (HasGone (Synced pass end.NoMemory ∷ h))) (sym same)
    (both_so (HasGone h) (HasGone (Synced pass end.NoMemory ∷ h)) first old (λ x y is stood. gone_unsettled h pass end.NoMemory x y refl stood) gone)

-- So has the record page.
record_unsettled : (past : List Entry) (pass s : ℕ) (how : End) (first old new : Option Disk) → ended_ok how ≡ false → new ≡ old → Both first old (RecordHasGone past s) → Both first new (RecordHasGone (entry.Sync pass s how ∷ past) s)
record_unsettled past pass s how first old new bad same gone =
    subst (λ now. Both first now (RecordHasGone (entry.Sync pass s how ∷ past) s)) (sym same)
    (both_so (RecordHasGone past s) (RecordHasGone (entry.Sync pass s how ∷ past) s) first old
    (λ x y is. record_gone-same past (entry.Sync pass s how ∷ past) s x y (record-left (entry.Sync pass s how) past s (rw (eq-eqb s s refl, bad) refl)))
    gone)

record_synced : (past : List Entry) (pass s : ℕ) (answered : Result (Unit {0}) Stop) (first old new : Option Disk) → OnOk answered (Both old new Settled) → OnErr answered (new ≡ old) → Both first old (RecordHasGone past s) → Both first new (RecordHasGone (entry.Sync pass s (transfer_end answered) ∷ past) s)
record_synced past pass s (Ok done) first old new settled same gone =
    both_through (RecordHasGone past s) Settled (RecordHasGone (entry.Sync pass s end.Good ∷ past) s) first old new
    (λ x y z is stood it. record_gone-synced past pass s x y z it stood) gone settled
record_synced past pass s (Err stop.Failed) first old new settled same gone =
    record_unsettled past pass s end.Failed first old new refl same gone
record_synced past pass s (Err stop.NoMemory) first old new settled same gone =
    record_unsettled past pass s end.NoMemory first old new refl same gone

-- a sync shows a failure of its disk where its end says so
failures-synced : (pass s : ℕ) (how : End) (past : List Entry) → failures s (entry.Sync pass s how ∷ past) ≡ failures s past + transfer_faults how
unfolding failures
failures-synced pass s end.Good past = rw (eq-eqb s s refl) (omega arith)
failures-synced pass s end.Failed past = rw (eq-eqb s s refl) (omega arith)
failures-synced pass s end.NoMemory past = rw (eq-eqb s s refl) (omega arith)

-- After a sync the disk stands for it.
pub DiskStands-synced : {D : Type 0} (told : D → Option Disk) (faults : D → ℕ) (first : DiskAtFirst) (past later : List Entry) (s pass : ℕ) (answered : Result (Unit {0}) Stop) (old new : D) → OnOk answered (Both (told old) (told new) Settled) → OnErr answered (told new ≡ told old) → faults new ≡ faults old + faults_in answered → DiskStands told faults first past s old → is_quiet (Device s) later ≡ true → DiskStands told faults first (synced pass s (transfer_end answered) later past) s new
DiskStands-synced told faults first past later s pass answered old new settled same counted stands quiet =
    let stood = disk_grows told faults first later past s old quiet stands in
    record {
      has_gone = rw (history-sync pass s (transfer_end answered) (later ++ past) s (eq-eqb s s refl))
          (both_synced (history (later ++ past) s) pass answered first.told (told old) (told new) settled same stood.has_gone);
      record_has_gone = record_synced (later ++ past) pass s answered first.told (told old) (told new) settled same stood.record_has_gone;
      counted =
          let was = stood.counted in
          let told_by = faults_by-end answered in
          rw (failures-synced pass s (transfer_end answered) (later ++ past), counted) (omega (arith, was, told_by));
    }

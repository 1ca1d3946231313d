-- A disk stands for the past with a write of its stream's record, however that ended.
use Rattle.std.specs.Prelude.{◌≡◌, ℕ, ◌+◌, ◌^◌, Bool, true, false, ◌==◌, List, [], ◌∷◌, ◌++◌, Contains, Result, Ok, Err, OnOk, ◌⊎◌, refl, if◌then◌else◌}
use Rattle.std.specs.declared.option.Option.{Option}
use Rattle.std.specs.declared.option.Option.TheVariants.{Some, None}
use Rattle.std.proofs.Common.{ap, sym, subst, ◌∙◌, arith, inl, inr}
use Rattle.std.proofs.lemmas.Bool.{eq-eqb}
use Rattle.std.proofs.lemmas.List.Elements.{Contains-append_left, Contains-push, Contains-push_cases}
use Rattle.cc_entry.specs.declared.entry.End.{End}
use Rattle.cc_entry.specs.declared.entry.End.TheVariants as how
use Rattle.cc_entry.specs.declared.entry.Entry.{Entry}
use Rattle.cc_entry.specs.declared.entry.Entry.TheVariants as entry
use Rattle.cc_effects.specs.Failures.{failures}
use Rattle.cc_laws.proofs.HistorySteps.{history-no_effect}
use Rattle.cc_laws.proofs.QuietSteps.{eqb-swapped}
use Rattle.cc_model.specs.History.{Effect, history}
use Rattle.cc_model.specs.Records.{record_page, crash_records}
use Rattle.cc_traits.specs.Disk.{Disk, page_of, may_of, Wrote, WriteFailed}
use Rattle.cc_traits.specs.Stop.{faults_in, OnFailed, OnNoMemory}
use Rattle.cc_traits.specs.Told.{Both}
use Rattle.cc_traits.specs.declared.stop.Stop.{Stop}
use Rattle.cc_traits.specs.declared.stop.Stop.TheVariants as stop
use Rattle.cc_turns.specs.Disk.{DiskStands, HasGone}
use Rattle.cc_turns.specs.RecordPage.{record_number, record_image, all_records_stored, RecordHasGone}
use Rattle.cc_turns.specs.Standing.{DiskAtFirst}
use Rattle.cc_turns.specs.Transfers.{transfer_end}
use Rattle.cc_turns.proofs.DiskGrows.{both_same}
use Rattle.cc_turns.proofs.PageWritten.{both_through}

same_some : {A : Type 0} (x y : A) → Some x ≡ Some y → x ≡ y
same_some x y e = cc

none_some : {A : Type 0} (x : A) → None ≡ Some x → ⊥
none_some x e = absurd (cc)

clash : false ≡ true → ⊥
clash e = absurd (cc)

-- ---- the data pages are as they were

gone-aside : (h : List Effect) (opening old new : Disk) → ((p : ℕ) → (p == record_number) ≡ false → page_of new p ≡ page_of old p) → ((p : ℕ) → (p == record_number) ≡ false → may_of new p ≡ may_of old p) → HasGone h opening old → HasGone h opening new
gone-aside h opening old new holds may gone = record {
  images = λ p bytes apart is. holds p apart ∙ gone.images p bytes apart is;
  among = λ p apart alone.
      subst (λ (l : List (List ℕ)). Contains l (page_of new p)) (sym (may p apart))
      (subst (λ (c : List ℕ). Contains (may_of old p) c) (sym (holds p apart)) (gone.among p apart alone));
  crash = λ p content apart alone among. gone.crash p content apart alone (subst (λ (l : List (List ℕ)). Contains l content) (may p apart) among);
  exact = λ p apart alone rest well. may p apart ∙ gone.exact p apart alone rest well;
}

picked : {A : Type 0} (b : Bool) (x y : A) → b ≡ false → (if b then x else y) ≡ y
picked b x y is = rw is refl

gone-wrote : (h : List Effect) (bytes : List ℕ) (opening old new : Disk) → Wrote (2 ^ 51) bytes old new → HasGone h opening old → HasGone h opening new
gone-wrote h bytes opening old new wrote =
    gone-aside h opening old new
    (λ p apart. wrote.holds p ∙ picked (record_number == p) bytes (page_of old p) (eqb-swapped p record_number apart))
    (λ p apart. wrote.may p ∙ picked (record_number == p) (may_of old p ++ bytes ∷ []) (may_of old p) (eqb-swapped p record_number apart))

gone-failed : (h : List Effect) (bytes : List ℕ) (opening old new : Disk) → WriteFailed (2 ^ 51) bytes old new → HasGone h opening old → HasGone h opening new
gone-failed h bytes opening old new failed =
    gone-aside h opening old new
    (λ p apart. failed.others p (eqb-swapped p record_number apart))
    (λ p apart. failed.may p ∙ picked (record_number == p) (may_of old p ++ bytes ∷ []) (may_of old p) (eqb-swapped p record_number apart))

-- ---- the record page goes with the write

module _ (opening : List ℕ) (pass s size valid : ℕ) (past : List Entry) where
  abbrev wrote : End → Entry
  wrote end = entry.Record pass s size valid end

  image-good : record_image opening (wrote how.Good ∷ past) s ≡ Some (record_page size valid)
  unfolding record_image
  image-good = rw (eq-eqb s s refl, record_image) refl

  image-failed : record_image opening (wrote how.Failed ∷ past) s ≡ None
  unfolding record_image
  image-failed = rw (eq-eqb s s refl, record_image) refl

  image-no_memory : record_image opening (wrote how.NoMemory ∷ past) s ≡ None
  unfolding record_image
  image-no_memory = rw (eq-eqb s s refl, record_image) refl

  stored-good : all_records_stored (wrote how.Good ∷ past) s ≡ all_records_stored past s
  unfolding all_records_stored
  stored-good = rw (eq-eqb s s refl, all_records_stored) refl

  stored-failed : all_records_stored (wrote how.Failed ∷ past) s ≡ false
  unfolding all_records_stored
  stored-failed = rw (eq-eqb s s refl, all_records_stored) refl

  stored-no_memory : all_records_stored (wrote how.NoMemory ∷ past) s ≡ false
  unfolding all_records_stored
  stored-no_memory = rw (eq-eqb s s refl, all_records_stored) refl

  crash-wrote : (end : End) → crash_records opening (wrote end ∷ past) s ≡ crash_records opening past s ++ record_page size valid ∷ []
  unfolding crash_records
  crash-wrote end = rw (eq-eqb s s refl, crash_records) refl

module _ (pass s size valid : ℕ) (past : List Entry) (bytes : List ℕ) (spelled : bytes ≡ record_page size valid) (opening old new : Disk) (gone : RecordHasGone past s opening old) where
  abbrev first : List ℕ
  first = page_of opening record_number

  -- what a crash may leave is one of what it might, or the write
  among-crash : (end : End) (content : List ℕ) → may_of opening record_number ≡ page_of opening record_number ∷ [] → Contains (may_of old record_number) content ⊎ (bytes ≡ content) → Contains (crash_records (page_of opening record_number) (entry.Record pass s size valid end ∷ past) s) content
  among-crash end content alone among = subst (λ (l : List (List ℕ)). Contains l content) (sym (crash-wrote first pass s size valid past end)) (go among)
    where
      go : Contains (may_of old record_number) content ⊎ (bytes ≡ content) → Contains (crash_records first past s ++ record_page size valid ∷ []) content
      go (inl before) = Contains-append_left (crash_records first past s) (record_page size valid ∷ []) content (gone.crash content alone before)
      go (inr is) = subst (λ (c : List ℕ). Contains (crash_records first past s ++ record_page size valid ∷ []) c) (sym spelled ∙ is) (Contains-push (crash_records first past s) (record_page size valid))

  added : (may_of new record_number ≡ (if record_number == record_number then may_of old record_number ++ bytes ∷ [] else may_of old record_number)) → may_of new record_number ≡ may_of old record_number ++ bytes ∷ []
  added is = is ∙ ap (λ (b : Bool). if b then may_of old record_number ++ bytes ∷ [] else may_of old record_number) (eq-eqb record_number record_number refl)

  crash-added : (end : End) (content : List ℕ) → may_of opening record_number ≡ page_of opening record_number ∷ [] → may_of new record_number ≡ may_of old record_number ++ bytes ∷ [] → Contains (may_of new record_number) content → Contains (crash_records (page_of opening record_number) (entry.Record pass s size valid end ∷ past) s) content
  crash-added end content alone is among =
      among-crash end content alone (Contains-push_cases (may_of old record_number) bytes content (subst (λ (l : List (List ℕ)). Contains l content) is among))

  record_gone-good : Wrote (2 ^ 51) bytes old new → RecordHasGone (entry.Record pass s size valid how.Good ∷ past) s opening new
  record_gone-good wrote = record {
    holds = λ content is. here ∙ (spelled ∙ same_some (record_page size valid) content (sym (image-good first pass s size valid past) ∙ is));
    among = λ alone.
        subst (λ (c : List ℕ). Contains (may_of new record_number) c) (sym here)
        (subst (λ (l : List (List ℕ)). Contains l bytes) (sym more) (Contains-push (may_of old record_number) bytes));
    crash = λ content alone among. crash-added how.Good content alone more among;
    exact = λ alone well.
        more
        ∙ (ap (λ (l : List (List ℕ)). l ++ bytes ∷ []) (gone.exact alone (sym (stored-good first pass s size valid past) ∙ well))
        ∙ (ap (λ (c : List ℕ). crash_records first past s ++ c ∷ []) spelled
        ∙ sym (crash-wrote first pass s size valid past how.Good)));
  }
    where
      here : page_of new record_number ≡ bytes
      here = wrote.holds record_number ∙ ap (λ (b : Bool). if b then bytes else page_of old record_number) (eq-eqb record_number record_number refl)

      more : may_of new record_number ≡ may_of old record_number ++ bytes ∷ []
      more = added (wrote.may record_number)

  record_gone-failed : WriteFailed (2 ^ 51) bytes old new → RecordHasGone (entry.Record pass s size valid how.Failed ∷ past) s opening new
  record_gone-failed failed = record {
    holds = λ content is. absurd (none_some content (sym (image-failed first pass s size valid past) ∙ is));
    among = λ alone. failed.among (gone.among alone);
    crash = λ content alone among. crash-added how.Failed content alone (added (failed.may record_number)) among;
    exact = λ alone well. absurd (clash (sym (stored-failed first pass s size valid past) ∙ well));
  }

record_gone-no_memory : (pass s size valid : ℕ) (past : List Entry) (opening old : Disk) → RecordHasGone past s opening old → RecordHasGone (entry.Record pass s size valid how.NoMemory ∷ past) s opening old
record_gone-no_memory pass s size valid past opening old gone = record {
  holds = λ content is. absurd (none_some content (sym (image-no_memory (page_of opening record_number) pass s size valid past) ∙ is));
  among = gone.among;
  crash = λ content alone among. among-crash pass s size valid past (record_page size valid) refl opening old old gone how.NoMemory content alone (inl among);
  exact = λ alone well. absurd (clash (sym (stored-no_memory (page_of opening record_number) pass s size valid past) ∙ well));
}

-- ---- the disk

failures-wrote : (pass s size valid : ℕ) (written : Result (Unit {0}) Stop) (past : List Entry) → failures s (entry.Record pass s size valid (transfer_end written) ∷ past) ≡ failures s past + faults_in written
unfolding failures
failures-wrote pass s size valid (Ok done) past = rw (eq-eqb s s refl) (omega arith)
failures-wrote pass s size valid (Err stop.Failed) past = rw (eq-eqb s s refl) (omega arith)
failures-wrote pass s size valid (Err stop.NoMemory) past = rw (eq-eqb s s refl) (omega arith)

pages-wrote : (h : List Effect) (bytes : List ℕ) (written : Result (Unit {0}) Stop) (first old new : Option Disk) → OnOk written (Both old new (Wrote (2 ^ 51) bytes)) → OnFailed written (Both old new (WriteFailed (2 ^ 51) bytes)) → OnNoMemory written (new ≡ old) → Both first old (HasGone h) → Both first new (HasGone h)
pages-wrote h bytes (Ok done) first old new wrote failed no_memory gone =
    both_through (HasGone h) (Wrote (2 ^ 51) bytes) (HasGone h) first old new (λ x y z is stood it. gone-wrote h bytes x y z it stood) gone wrote
pages-wrote h bytes (Err stop.Failed) first old new wrote failed no_memory gone =
    both_through (HasGone h) (WriteFailed (2 ^ 51) bytes) (HasGone h) first old new (λ x y z is stood it. gone-failed h bytes x y z it stood) gone failed
pages-wrote h bytes (Err stop.NoMemory) first old new wrote failed no_memory gone =
    subst (λ (now : Option Disk). Both first now (HasGone h)) (sym no_memory) gone

page-wrote : (pass s size valid : ℕ) (past : List Entry) (bytes : List ℕ) (written : Result (Unit {0}) Stop) (first old new : Option Disk) → bytes ≡ record_page size valid → OnOk written (Both old new (Wrote (2 ^ 51) bytes)) → OnFailed written (Both old new (WriteFailed (2 ^ 51) bytes)) → OnNoMemory written (new ≡ old) → Both first old (RecordHasGone past s) → Both first new (RecordHasGone (entry.Record pass s size valid (transfer_end written) ∷ past) s)
page-wrote pass s size valid past bytes (Ok done) first old new spelled wrote failed no_memory gone =
    both_through (RecordHasGone past s) (Wrote (2 ^ 51) bytes) (RecordHasGone (entry.Record pass s size valid how.Good ∷ past) s) first old new
    (λ x y z is stood it. record_gone-good pass s size valid past bytes spelled x y z stood it) gone wrote
page-wrote pass s size valid past bytes (Err stop.Failed) first old new spelled wrote failed no_memory gone =
    both_through (RecordHasGone past s) (WriteFailed (2 ^ 51) bytes) (RecordHasGone (entry.Record pass s size valid how.Failed ∷ past) s) first old new
    (λ x y z is stood it. record_gone-failed pass s size valid past bytes spelled x y z stood it) gone failed
page-wrote pass s size valid past bytes (Err stop.NoMemory) first old new spelled wrote failed no_memory gone =
    subst (λ (now : Option Disk). Both first now (RecordHasGone (entry.Record pass s size valid how.NoMemory ∷ past) s)) (sym no_memory)
    (both_same (RecordHasGone past s) (RecordHasGone (entry.Record pass s size valid how.NoMemory ∷ past) s) first old
    (λ opening now. record_gone-no_memory pass s size valid past opening now) gone)

-- With its entry the disk stands for the past again.
pub DiskStands-recorded : {D : Type 0} (told : D → Option Disk) (faults : D → ℕ) (first : DiskAtFirst) (past : List Entry) (pass s size valid : ℕ) (bytes : List ℕ) (written : Result (Unit {0}) Stop) (old new : D) → bytes ≡ record_page size valid →
    OnOk written (Both (told old) (told new) (Wrote (2 ^ 51) bytes)) → OnFailed written (Both (told old) (told new) (WriteFailed (2 ^ 51) bytes)) → OnNoMemory written (told new ≡ told old) → faults new ≡ faults old + faults_in written →
    DiskStands told faults first past s old → DiskStands told faults first (entry.Record pass s size valid (transfer_end written) ∷ past) s new
DiskStands-recorded told faults first past pass s size valid bytes written old new spelled wrote failed no_memory counted stands = record {
  has_gone = rw (history-no_effect (entry.Record pass s size valid (transfer_end written)) past s refl)
      (pages-wrote (history past s) bytes written first.told (told old) (told new) wrote failed no_memory stands.has_gone);
  record_has_gone = page-wrote pass s size valid past bytes written first.told (told old) (told new) spelled wrote failed no_memory stands.record_has_gone;
  counted =
      let was = stands.counted in
      rw (failures-wrote pass s size valid written past, counted) (omega (arith, was));
}

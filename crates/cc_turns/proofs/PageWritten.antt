-- What a transfer leaves of its disk.
use Rattle.std.specs.Prelude.{◌≡◌, ℕ, ◌+◌, ◌*◌, ◌^◌, ◌<◌, Bool, true, false, not, ◌||◌, ◌==◌, List, [], ◌∷◌, ◌++◌, length, map, slice_index, Contains, Result, Ok, Err, ◌⊎◌, OnOk, refl, if◌then◌else◌}
use Rattle.std.specs.declared.option.Option.{Option}
use Rattle.std.specs.declared.option.Option.TheVariants.{Some, None}
use Rattle.std.proofs.Common.{arith, sym, ap, subst, ◌∙◌, inl, inr}
use Rattle.std.proofs.lemmas.Bool.{eq-eqb, eqb-true, and_parts}
use Rattle.std.proofs.lemmas.List.FromFn.{length-map-range_with_len, get_or-map-range_with_len}
use Rattle.std.specs.List.{list_all, range_with_len}
use Rattle.std.proofs.lemmas.List.{ext_get_or}
use Rattle.std.proofs.lemmas.List.Elements.{Contains-append_left, Contains-append_right, Contains-append_cases, Contains-push}
use Rattle.cc_entry.specs.declared.entry.Entry.{Entry}
use Rattle.cc_entry.specs.declared.entry.Entry.TheVariants as entry
use Rattle.cc_entry.specs.declared.entry.End.{End}
use Rattle.cc_entry.specs.declared.entry.End.TheVariants as end
use Rattle.cc_traits.specs.Disk.{Disk, page_of, may_of, Wrote, WriteFailed}
use Rattle.cc_traits.specs.Stop.{faults_in, OnFailed, OnNoMemory}
use Rattle.cc_traits.specs.Told.{Both}
use Rattle.cc_traits.specs.declared.stop.Stop.{Stop}
use Rattle.cc_traits.specs.declared.stop.Stop.TheVariants as stop
use Rattle.cc_content.specs.Contents.{IsByteOfContents}
use Rattle.cc_effects.specs.Failures.{failures}
use Rattle.cc_laws.proofs.HistorySteps.{history-write_begin, history-write_end}
use Rattle.cc_laws.proofs.ImageSteps.{begun-began_page, image-began, image-ended_good, image-ended_bad, image-ended_other, crash_pages-began_page, crash_pages-began_other, crash_pages-ended}
use Rattle.cc_model.specs.Bytes.{byte_of, page_bytes, page_size}
use Rattle.cc_model.specs.History.{Effect, Ended, history}
use Rattle.cc_model.specs.Images.{open_of, begun, image, crash_pages}
use Rattle.cc_model.specs.Sizes.{ended_ok}
use Rattle.cc_turns.specs.Standing.{DiskAtFirst}
use Rattle.cc_turns.specs.Disk.{DiskStands, HasGone, all_ended_well, opening_of}
use Rattle.cc_turns.specs.RecordPage.{record_number, RecordHasGone}
use Rattle.cc_turns.specs.Transfers.{TransferIsUnderWay, transfer_end, transfer_faults, leaves_transfer}
use Rattle.cc_turns.proofs.Keeping.{both_so, kept_by_entries, image-left, crash_pages-left, all_ended_well-left, begun-left}
use Rattle.cc_turns.proofs.RecordPage.{record-left, record_gone-same, record_gone-wrote, record_gone-failed}
use Rattle.cc_turns.proofs.OpenTransfers.{all_ended_well-began, is_transferred-none}

-- A transfer of a page is under way, on a disk that stood for what was before its begin: h is the history then, g the
-- one now.
record UnderWay (h g : List Effect) (page : ℕ) (bytes : List ℕ) (opening old : Disk) : Type 0 where
  gone : HasGone h opening old
  at_rest : open_of h ≡ None
  bytes_are : (p : ℕ) → (page == p) ≡ true → bytes ≡ page_bytes (page_of opening) h p
  begun_is : (p : ℕ) → (page == p) ≡ true → begun g p ≡ Some h
  images : (p : ℕ) → image (page_of opening) g p ≡ image (page_of opening) h p
  crash_page : (p : ℕ) → (page == p) ≡ true → crash_pages (page_of opening) g p ≡ crash_pages (page_of opening) h p ++ page_bytes (page_of opening) h p ∷ []
  crash_other : (p : ℕ) → (page == p) ≡ false → crash_pages (page_of opening) g p ≡ crash_pages (page_of opening) h p
  well : (p : ℕ) → all_ended_well g p ≡ all_ended_well h p

-- a write added the bytes to what a crash can leave of its page
abbrev Adds : ℕ → List ℕ → Disk → Disk → Type 0
Adds page bytes old new = (p : ℕ) → may_of new p ≡ (if page == p then may_of old p ++ bytes ∷ [] else may_of old p)

may-page : (page p : ℕ) (bytes : List ℕ) (old new : Disk) → Adds page bytes old new → (page == p) ≡ true → may_of new p ≡ may_of old p ++ bytes ∷ []
may-page page p bytes old new adds same = adds p ∙ ap (λ b. if b then may_of old p ++ bytes ∷ [] else may_of old p) same

may-other : (page p : ℕ) (bytes : List ℕ) (old new : Disk) → Adds page bytes old new → (page == p) ≡ false → may_of new p ≡ may_of old p
may-other page p bytes old new adds other = adds p ∙ ap (λ b. if b then may_of old p ++ bytes ∷ [] else may_of old p) other

-- after the end, what a crash may leave by the stream is what it was at the begin, and the page as it was then
crash-page : {h g : List Effect} {page : ℕ} {bytes : List ℕ} {opening old : Disk} → UnderWay h g page bytes opening old → (pass p : ℕ) (how : End) → (page == p) ≡ true → crash_pages (page_of opening) (Ended pass page how ∷ g) p ≡ crash_pages (page_of opening) h p ++ bytes ∷ []
crash-page {h = h} {g = g} {page = page} {opening = opening} way pass p how same =
    crash_pages-ended (page_of opening) pass page how g p
    ∙ (way.crash_page p same ∙ ap (λ content. crash_pages (page_of opening) h p ++ content ∷ []) (sym (way.bytes_are p same)))

crash-other : {h g : List Effect} {page : ℕ} {bytes : List ℕ} {opening old : Disk} → UnderWay h g page bytes opening old → (pass p : ℕ) (how : End) → (page == p) ≡ false → crash_pages (page_of opening) (Ended pass page how ∷ g) p ≡ crash_pages (page_of opening) h p
crash-other {g = g} {page = page} {opening = opening} way pass p how other =
    crash_pages-ended (page_of opening) pass page how g p ∙ way.crash_other p other

-- what is of one list is of another, where both get the same last element
contains_onto : (xs ys : List (List ℕ)) (last x : List ℕ) → (Contains xs x → Contains ys x) → Contains (xs ++ last ∷ []) x → Contains (ys ++ last ∷ []) x
contains_onto xs ys last x so among = go (Contains-append_cases xs (last ∷ []) x among)
  where
    go : Contains xs x ⊎ Contains (last ∷ []) x → Contains (ys ++ last ∷ []) x
    go (inl first) = Contains-append_left ys (last ∷ []) x (so first)
    go (inr is) = Contains-append_right ys (last ∷ []) x is

-- what a crash can leave of a page after the write, the stream allows
crash-added : {h g : List Effect} {page : ℕ} {bytes : List ℕ} {opening old : Disk} (new : Disk) → UnderWay h g page bytes opening old → Adds page bytes old new → (pass : ℕ) (how : End) (p : ℕ) (content : List ℕ) → (p == record_number) ≡ false → may_of opening p ≡ page_of opening p ∷ [] → Contains (may_of new p) content → Contains (crash_pages (page_of opening) (Ended pass page how ∷ g) p) content
crash-added {h = h} {g = g} {page = page} {bytes = bytes} {opening = opening} {old = old} new way adds pass how p content apart alone among = go (page == p) refl
  where
    go : (b : Bool) → (page == p) ≡ b → Contains (crash_pages (page_of opening) (Ended pass page how ∷ g) p) content
    go true same =
        rw (crash-page way pass p how same)
        (contains_onto (may_of old p) (crash_pages (page_of opening) h p) bytes content (way.gone.crash p content apart alone)
        (subst (λ contents. Contains contents content) (may-page page p bytes old new adds same) among))
    go false other =
        rw (crash-other way pass p how other)
        (way.gone.crash p content apart alone (subst (λ contents. Contains contents content) (may-other page p bytes old new adds other) among))

-- where with this end all transfers of a page ended well, those before did, and it did if it is of the page
ended_before : (pass page : ℕ) (how : End) (g : List Effect) (p : ℕ) → all_ended_well (Ended pass page how ∷ g) p ≡ true → all_ended_well g p ≡ true
unfolding all_ended_well
ended_before pass page how g p well = (and_parts (not (page == p) || ended_ok how) (all_ended_well g p) well).1

ended_now : (pass page : ℕ) (how : End) (g : List Effect) (p : ℕ) → (page == p) ≡ true → all_ended_well (Ended pass page how ∷ g) p ≡ true → ended_ok how ≡ true
unfolding all_ended_well
ended_now pass page how g p same well =
    ap (λ b. not b || ended_ok how) (sym same) ∙ (and_parts (not (page == p) || ended_ok how) (all_ended_well g p) well).0

-- where the write added the bytes, just that can be left of a page whose transfers all ended well
exact-added : {h g : List Effect} {page : ℕ} {bytes : List ℕ} {opening old : Disk} (new : Disk) → UnderWay h g page bytes opening old → Adds page bytes old new → (pass : ℕ) (how : End) (p : ℕ) → (p == record_number) ≡ false → may_of opening p ≡ page_of opening p ∷ [] → all_ended_well (Ended pass page how ∷ g) p ≡ true → may_of new p ≡ crash_pages (page_of opening) (Ended pass page how ∷ g) p
exact-added {h = h} {g = g} {page = page} {bytes = bytes} {opening = opening} {old = old} new way adds pass how p apart alone well =
    go (page == p) refl
    (way.gone.exact p apart alone (is_transferred-none (open_of h) p way.at_rest) (sym (way.well p) ∙ ended_before pass page how g p well))
  where
    go : (b : Bool) → (page == p) ≡ b → may_of old p ≡ crash_pages (page_of opening) h p → may_of new p ≡ crash_pages (page_of opening) (Ended pass page how ∷ g) p
    go true same exact =
        may-page page p bytes old new adds same
        ∙ (ap (λ contents. contents ++ bytes ∷ []) exact ∙ sym (crash-page way pass p how same))
    go false other exact = may-other page p bytes old new adds other ∙ (exact ∙ sym (crash-other way pass p how other))

-- the image of another page is as it was
image-other : {h g : List Effect} {page : ℕ} {bytes : List ℕ} {opening old : Disk} → UnderWay h g page bytes opening old → (pass : ℕ) (how : End) (p : ℕ) (content : List ℕ) → (p == record_number) ≡ false → (page == p) ≡ false → image (page_of opening) (Ended pass page how ∷ g) p ≡ Some content → page_of old p ≡ content
image-other {g = g} {page = page} {opening = opening} way pass how p content apart other is =
    way.gone.images p content apart (sym (way.images p) ∙ (sym (image-ended_other (page_of opening) pass page how g p other) ∙ is))

same_some : (xs ys : List ℕ) → Some xs ≡ Some ys → xs ≡ ys
same_some xs ys e = cc

-- A write that ended well left the disk that stands for the end.
gone_wrote : {h g : List Effect} {page : ℕ} {bytes : List ℕ} {opening old new : Disk} → UnderWay h g page bytes opening old → Wrote page bytes old new → (pass : ℕ) → HasGone (Ended pass page end.Good ∷ g) opening new
gone_wrote {h = h} {g = g} {page = page} {bytes = bytes} {opening = opening} {old = old} {new = new} way wrote pass = record {
  images = λ p content apart is. images p content apart is (page == p) refl;
  among = λ p apart alone. among p apart alone (page == p) refl;
  crash = crash-added new way wrote.may pass end.Good;
  exact = λ p apart alone free well. exact-added new way wrote.may pass end.Good p apart alone well;
}
  where
    images : (p : ℕ) (content : List ℕ) → (p == record_number) ≡ false → image (page_of opening) (Ended pass page end.Good ∷ g) p ≡ Some content → (b : Bool) → (page == p) ≡ b → page_of new p ≡ content
    images p content apart is true same =
        wrote.holds p ∙ (ap (λ b. if b then bytes else page_of old p) same
        ∙ (way.bytes_are p same
        ∙ same_some _ _ (sym (image-ended_good (page_of opening) pass page end.Good g h p same refl (way.begun_is p same)) ∙ is)))
    images p content apart is false other =
        wrote.holds p ∙ (ap (λ b. if b then bytes else page_of old p) other ∙ image-other way pass end.Good p content apart other is)

    among : (p : ℕ) → (p == record_number) ≡ false → may_of opening p ≡ page_of opening p ∷ [] → (b : Bool) → (page == p) ≡ b → Contains (may_of new p) (page_of new p)
    among p apart alone true same =
        let holds : page_of new p ≡ bytes = wrote.holds p ∙ ap (λ b. if b then bytes else page_of old p) same in
        rw (may-page page p bytes old new wrote.may same, holds) (Contains-push (may_of old p) bytes)
    among p apart alone false other =
        let holds : page_of new p ≡ page_of old p = wrote.holds p ∙ ap (λ b. if b then bytes else page_of old p) other in
        rw (may-other page p bytes old new wrote.may other, holds) (way.gone.among p apart alone)

-- the image of a page whose transfer did not end well is not known
image-bad : {h g : List Effect} {page : ℕ} {bytes : List ℕ} {opening old : Disk} → UnderWay h g page bytes opening old → (pass : ℕ) (how : End) (p : ℕ) (content : List ℕ) → ended_ok how ≡ false → (page == p) ≡ true → image (page_of opening) (Ended pass page how ∷ g) p ≡ Some content → ⊥
image-bad {h = h} {g = g} {page = page} {opening = opening} way pass how p content bad same is =
    let unknown = image-ended_bad (page_of opening) pass page how g h p same bad (way.begun_is p same) in absurd (cc (unknown, is))

-- A write that failed did too,
gone_failed : {h g : List Effect} {page : ℕ} {bytes : List ℕ} {opening old new : Disk} → UnderWay h g page bytes opening old → WriteFailed page bytes old new → (pass : ℕ) → HasGone (Ended pass page end.Failed ∷ g) opening new
gone_failed {h = h} {g = g} {page = page} {bytes = bytes} {opening = opening} {old = old} {new = new} way failed pass = record {
  images = λ p content apart is. images p content apart is (page == p) refl;
  among = λ p apart alone. among p apart alone (page == p) refl;
  crash = crash-added new way failed.may pass end.Failed;
  exact = λ p apart alone free well. exact-added new way failed.may pass end.Failed p apart alone well;
}
  where
    images : (p : ℕ) (content : List ℕ) → (p == record_number) ≡ false → image (page_of opening) (Ended pass page end.Failed ∷ g) p ≡ Some content → (b : Bool) → (page == p) ≡ b → page_of new p ≡ content
    images p content apart is true same = absurd (image-bad way pass end.Failed p content refl same is)
    images p content apart is false other = failed.others p other ∙ image-other way pass end.Failed p content apart other is

    among : (p : ℕ) → (p == record_number) ≡ false → may_of opening p ≡ page_of opening p ∷ [] → (b : Bool) → (page == p) ≡ b → Contains (may_of new p) (page_of new p)
    among p apart alone true same =
        let is : page ≡ p = eqb-true page p same in
        subst (λ q. Contains (may_of new q) (page_of new q)) is
        (failed.among (subst (λ q. Contains (may_of old q) (page_of old q)) (sym is) (way.gone.among p apart alone)))
    among p apart alone false other =
        rw (may-other page p bytes old new failed.may other, failed.others p other) (way.gone.among p apart alone)

-- and one that found no memory, which left the disk as it was.
gone_nowhere : {h g : List Effect} {page : ℕ} {bytes : List ℕ} {opening old : Disk} → UnderWay h g page bytes opening old → (pass : ℕ) → HasGone (Ended pass page end.NoMemory ∷ g) opening old
gone_nowhere {h = h} {g = g} {page = page} {bytes = bytes} {opening = opening} {old = old} way pass = record {
  images = λ p content apart is. images p content apart is (page == p) refl;
  among = way.gone.among;
  crash = λ p content apart alone among. crash p content (way.gone.crash p content apart alone among) (page == p) refl;
  exact = λ p apart alone free well.
      exact p well (way.gone.exact p apart alone (is_transferred-none (open_of h) p way.at_rest) (sym (way.well p) ∙ ended_before pass page end.NoMemory g p well))
      (page == p) refl;
}
  where
    images : (p : ℕ) (content : List ℕ) → (p == record_number) ≡ false → image (page_of opening) (Ended pass page end.NoMemory ∷ g) p ≡ Some content → (b : Bool) → (page == p) ≡ b → page_of old p ≡ content
    images p content apart is true same = absurd (image-bad way pass end.NoMemory p content refl same is)
    images p content apart is false other = image-other way pass end.NoMemory p content apart other is

    crash : (p : ℕ) (content : List ℕ) → Contains (crash_pages (page_of opening) h p) content → (b : Bool) → (page == p) ≡ b → Contains (crash_pages (page_of opening) (Ended pass page end.NoMemory ∷ g) p) content
    crash p content among true same =
        rw (crash-page way pass p end.NoMemory same) (Contains-append_left (crash_pages (page_of opening) h p) (bytes ∷ []) content among)
    crash p content among false other = rw (crash-other way pass p end.NoMemory other) among

    exact : (p : ℕ) → all_ended_well (Ended pass page end.NoMemory ∷ g) p ≡ true → may_of old p ≡ crash_pages (page_of opening) h p → (b : Bool) → (page == p) ≡ b → may_of old p ≡ crash_pages (page_of opening) (Ended pass page end.NoMemory ∷ g) p
    exact p well was true same = let ended = ended_now pass page end.NoMemory g p same well in absurd (cc (ended))
    exact p well was false other = was ∙ sym (crash-other way pass p end.NoMemory other)

-- the bytes are the page's, where the disk tells its opening pages
whole_page : (pages : ℕ → List ℕ) (h : List Effect) (page : ℕ) (bytes : List ℕ) → length bytes ≡ 4096 → ((i : ℕ) → i < 4096 → slice_index bytes i ≡ byte_of pages h (4096 * page + i)) → bytes ≡ page_bytes pages h page
unfolding page_bytes page_size
whole_page pages h page bytes whole at =
    ext_get_or 0 bytes (map (byte_of pages h) (range_with_len (4096 * page) 4096))
    (whole ∙ sym (length-map-range_with_len (byte_of pages h) (4096 * page) 4096))
    (λ i low.
    at i (rw (sym whole) low)
    ∙ sym (get_or-map-range_with_len (byte_of pages h) (4096 * page) 4096 i (4096 * page + i) 0 (rw (sym whole) low) refl))

-- the facts of a transfer under way, where only entries came since its begin that leave it
under_way : (before later : List Entry) (s pass page : ℕ) (bytes : List ℕ) (opening old : Disk) → list_all (leaves_transfer s) later ≡ true → HasGone (history before s) opening old → open_of (history before s) ≡ None → bytes ≡ page_bytes (page_of opening) (history before s) page → UnderWay (history before s) (history (later ++ entry.WriteBegin pass (record { stream = s; page = page }) ∷ before) s) page bytes opening old
under_way before later s pass page bytes opening old left gone at_rest bytes_are =
    let now = entry.WriteBegin pass (record { stream = s; page = page }) ∷ before in
    let began = history-write_begin pass (record { stream = s; page = page }) before s (eq-eqb s s refl) in
    let h = history before s in
    let pages = page_of opening in
    record {
      gone = gone;
      at_rest = at_rest;
      bytes_are = λ p same. bytes_are ∙ ap (page_bytes pages h) (eqb-true page p same);
      begun_is = λ p same.
          kept_by_entries (λ k. begun k p) (begun-left p) later now s left
          ∙ (ap (λ k. begun k p) began ∙ begun-began_page pass page h p same);
      images = λ p.
          kept_by_entries (λ k. image pages k p) (image-left pages p) later now s left
          ∙ (ap (λ k. image pages k p) began ∙ image-began pages pass page h p);
      crash_page = λ p same.
          kept_by_entries (λ k. crash_pages pages k p) (crash_pages-left pages p) later now s left
          ∙ (ap (λ k. crash_pages pages k p) began ∙ crash_pages-began_page pages pass page h p same);
      crash_other = λ p other.
          kept_by_entries (λ k. crash_pages pages k p) (crash_pages-left pages p) later now s left
          ∙ (ap (λ k. crash_pages pages k p) began ∙ crash_pages-began_other pages pass page h p other);
      well = λ p.
          kept_by_entries (λ k. all_ended_well k p) (all_ended_well-left p) later now s left
          ∙ (ap (λ k. all_ended_well k p) began ∙ all_ended_well-began pass page h p);
    }

-- what holds from first to old and from old to new, holds from first to new, as far as something is told
pub both_through : {A : Type 0} (P Q R : A → A → Type 0) (first old new : Option A) → ((x y z : A) → first ≡ Some x → P x y → Q y z → R x z) → Both first old P → Both old new Q → Both first new R
both_through P Q R None None None so gone wrote = tt
both_through P Q R None None (Some new) so gone wrote = absurd wrote
both_through P Q R None (Some old) new so gone wrote = absurd gone
both_through P Q R (Some first) None new so gone wrote = absurd gone
both_through P Q R (Some first) (Some old) None so gone wrote = absurd wrote
both_through P Q R (Some first) (Some old) (Some new) so gone wrote = so first old new refl gone wrote

both_ended : (h g : List Effect) (pass page : ℕ) (bytes : List ℕ) (written : Result (Unit {0}) Stop) (first old new : Option Disk) → ((opening now : Disk) → first ≡ Some opening → HasGone h opening now → UnderWay h g page bytes opening now) → OnOk written (Both old new (Wrote page bytes)) → OnFailed written (Both old new (WriteFailed page bytes)) → OnNoMemory written (new ≡ old) → Both first old (HasGone h) → Both first new (HasGone (Ended pass page (transfer_end written) ∷ g))
both_ended h g pass page bytes (Ok done) first old new way wrote failed no_memory gone =
    both_through (HasGone h) (Wrote page bytes) (HasGone (Ended pass page end.Good ∷ g)) first old new
    (λ x y z is stood it. gone_wrote (way x y is stood) it pass) gone wrote
both_ended h g pass page bytes (Err stop.Failed) first old new way wrote failed no_memory gone =
    both_through (HasGone h) (WriteFailed page bytes) (HasGone (Ended pass page end.Failed ∷ g)) first old new
    (λ x y z is stood it. gone_failed (way x y is stood) it pass) gone failed
both_ended h g pass page bytes (Err stop.NoMemory) first old new way wrote failed no_memory gone =
    subst (λ now. Both first now (HasGone (Ended pass page end.NoMemory ∷ g))) (sym no_memory)
    (both_so (HasGone h) (HasGone (Ended pass page end.NoMemory ∷ g)) first old (λ x y is stood. gone_nowhere (way x y is stood) pass) gone)

-- The record page of a disk is as it was after a transfer of a data page.
record_ended : (past : List Entry) (s page : ℕ) (bytes : List ℕ) (written : Result (Unit {0}) Stop) (first old new : Option Disk) → page < 2 ^ 51 → OnOk written (Both old new (Wrote page bytes)) → OnFailed written (Both old new (WriteFailed page bytes)) → OnNoMemory written (new ≡ old) → Both first old (RecordHasGone past s) → Both first new (RecordHasGone past s)
record_ended past s page bytes (Ok done) first old new numbered wrote failed no_memory gone =
    both_through (RecordHasGone past s) (Wrote page bytes) (RecordHasGone past s) first old new
    (λ x y z is stood it. record_gone-wrote past s page bytes x y z numbered it stood) gone wrote
record_ended past s page bytes (Err stop.Failed) first old new numbered wrote failed no_memory gone =
    both_through (RecordHasGone past s) (WriteFailed page bytes) (RecordHasGone past s) first old new
    (λ x y z is stood it. record_gone-failed past s page bytes x y z numbered it stood) gone failed
record_ended past s page bytes (Err stop.NoMemory) first old new numbered wrote failed no_memory gone =
    subst (λ now. Both first now (RecordHasGone past s)) (sym no_memory) gone

-- the end of a transfer shows a failure of its disk where it says so
failures-ended : (pass s page : ℕ) (how : End) (past : List Entry) → failures s (entry.WriteEnd pass (record { stream = s; page = page }) how ∷ past) ≡ failures s past + transfer_faults how
unfolding failures
failures-ended pass s page end.Good past = rw (eq-eqb s s refl) (omega arith)
failures-ended pass s page end.Failed past = rw (eq-eqb s s refl) (omega arith)
failures-ended pass s page end.NoMemory past = rw (eq-eqb s s refl) (omega arith)

pub faults_by-end : (written : Result (Unit {0}) Stop) → faults_in written ≡ transfer_faults (transfer_end written)
faults_by-end (Ok done) = refl
faults_by-end (Err stop.Failed) = refl
faults_by-end (Err stop.NoMemory) = refl

-- With the end of a transfer that was under way the disk stands for the past again.
pub DiskStands-ended : {D : Type 0} (told : D → Option Disk) (faults : D → ℕ) (first : DiskAtFirst) (past : List Entry) (pass s page : ℕ) (bytes : List ℕ) (written : Result (Unit {0}) Stop) (old new : D) → OnOk written (Both (told old) (told new) (Wrote page bytes)) → OnFailed written (Both (told old) (told new) (WriteFailed page bytes)) → OnNoMemory written (told new ≡ told old) → faults new ≡ faults old + faults_in written → TransferIsUnderWay told faults first past pass s page bytes old → DiskStands told faults first (entry.WriteEnd pass (record { stream = s; page = page }) (transfer_end written) ∷ past) s new
DiskStands-ended told faults first past pass s page bytes written old new wrote failed no_memory counted way =
    let h = history way.before s in
    record {
      has_gone = rw (history-write_end pass (record { stream = s; page = page }) (transfer_end written) past s (eq-eqb s s refl))
          (both_ended h (history past s) pass page bytes written first.told (told old) (told new)
          (λ opening now is stood.
          subst (λ (entries : List Entry). UnderWay h (history entries s) page bytes opening now) (sym way.began)
          (under_way way.before way.later s pass page bytes opening now way.left stood way.can.at_rest
          (whole_page (page_of opening) h page bytes way.can.whole
          (λ i low. subst (λ o. IsByteOfContents (opening_of o) h (4096 * page + i) (slice_index bytes i)) is (way.can.bytes_are i low)))))
          wrote failed no_memory way.can.stands.has_gone);
      record_has_gone =
          let ended : Entry = entry.WriteEnd pass (record { stream = s; page = page }) (transfer_end written) in
          both_so (RecordHasGone past s) (RecordHasGone (ended ∷ past) s) first.told (told new)
          (λ opening now is. record_gone-same past (ended ∷ past) s opening now (record-left ended past s refl))
          (record_ended past s page bytes written first.told (told old) (told new) way.can.numbered wrote failed no_memory way.stands.record_has_gone);
      counted =
          let was = way.stands.counted in
          let same = faults_by-end written in
          rw (failures-ended pass s page (transfer_end written) past, counted) (omega (arith, was, same));
    }

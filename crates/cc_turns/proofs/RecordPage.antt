-- The record page goes with the journal: with entries that leave it, with a transfer of another page, and with a sync.
use Rattle.std.specs.Prelude.{◌≡◌, ℕ, ◌^◌, ◌<◌, Bool, true, false, not, ◌&&◌, ◌||◌, ◌==◌, List, [], ◌∷◌, ◌++◌, Contains, ◌⊎◌, refl, if◌then◌else◌}
use Rattle.std.specs.declared.option.Option.{Option}
use Rattle.std.specs.declared.option.Option.TheVariants.{Some, None}
use Rattle.std.proofs.Common.{arith, sym, ap, subst, ◌∙◌, inl, inr}
use Rattle.std.proofs.lemmas.Bool.{eq-eqb, ne_eqb, and_parts}
use Rattle.std.proofs.lemmas.List.Elements.{Contains-push, Contains-push_cases}
use Rattle.cc_entry.specs.declared.entry.Entry.{Entry}
use Rattle.cc_entry.specs.declared.entry.Entry.TheVariants as entry
use Rattle.cc_entry.specs.declared.entry.End.{End}
use Rattle.cc_entry.specs.declared.entry.End.TheVariants as end
use Rattle.cc_traits.specs.Disk.{Disk, page_of, may_of, Wrote, WriteFailed, Settled}
use Rattle.cc_laws.proofs.QuietSteps.{eqb-swapped, is_quiet-first, is_quiet-rest}
use Rattle.cc_model.specs.Records.{record_page, is_record_stored, last_alone, record_settled, crash_records}
use Rattle.cc_model.specs.Sizes.{ended_ok}
use Rattle.cc_model.specs.Turns.{Device, needs, is_quiet}
use Rattle.cc_turns.specs.RecordPage.{record_number, record_image, all_records_stored, RecordHasGone, SameRecord}

-- whether an entry leaves the record page of the stream: it is no write of the record, and no good sync
abbrev pub leaves_record : ℕ → Entry → Bool
leaves_record s (entry.Sync pass stream how) = not (stream == s) || not (ended_ok how)
leaves_record s (entry.Record pass stream size valid how) = not (stream == s)
leaves_record s other = true

not-both : (a b : Bool) → (not a || not b) ≡ true → (a && b) ≡ false
not-both false b e = refl
not-both true false e = refl
not-both true true e = sym e

not-true : (b : Bool) → not b ≡ true → b ≡ false
not-true false e = refl
not-true true e = sym e

-- such an entry changes nothing of the record page,
pub record-left : (e : Entry) (past : List Entry) (s : ℕ) → leaves_record s e ≡ true → SameRecord past (e ∷ past) s
unfolding record_image crash_records all_records_stored
record-left (entry.Sync pass stream how) past s left = record {
  same_image = λ opening. refl;
  same_crash = λ opening. rw (not-both (stream == s) (ended_ok how) left, crash_records) refl;
  same_stored = refl;
}
record-left (entry.Record pass stream size valid how) past s left = record {
  same_image = λ opening. rw (not-true (stream == s) left, record_image) refl;
  same_crash = λ opening. rw (not-true (stream == s) left, crash_records) refl;
  same_stored = rw (not-true (stream == s) left, all_records_stored) refl;
}
record-left other past s left = record { same_image = λ opening. refl; same_crash = λ opening. refl; same_stored = refl }

pub record-same : (past : List Entry) (s : ℕ) → SameRecord past past s
record-same past s = record { same_image = λ opening. refl; same_crash = λ opening. refl; same_stored = refl }

pub record-then : (past between now : List Entry) (s : ℕ) → SameRecord past between s → SameRecord between now s → SameRecord past now s
record-then past between now s first second = record {
  same_image = λ opening. second.same_image opening ∙ first.same_image opening;
  same_crash = λ opening. second.same_crash opening ∙ first.same_crash opening;
  same_stored = second.same_stored ∙ first.same_stored;
}

-- and entries that do not need the disk do neither
leaves_record-unneeded : (e : Entry) (s : ℕ) → needs e (Device s) ≡ false → leaves_record s e ≡ true
leaves_record-unneeded (entry.Sync pass stream how) s unneeded = rw (eqb-swapped s stream unneeded) refl
leaves_record-unneeded (entry.Record pass stream size valid how) s unneeded = rw (eqb-swapped s stream unneeded) refl
leaves_record-unneeded other s unneeded = refl

pub record-quiet : (later past : List Entry) (s : ℕ) → is_quiet (Device s) later ≡ true → SameRecord past (later ++ past) s
record-quiet [] past s quiet = record-same past s
record-quiet (e ∷ later) past s quiet =
    record-then past (later ++ past) (e ∷ (later ++ past)) s
    (record-quiet later past s (is_quiet-rest (Device s) e later quiet))
    (record-left e (later ++ past) s (leaves_record-unneeded e s (is_quiet-first (Device s) e later quiet)))

-- where the record page is the same to two pasts, it has gone with both
pub record_gone-same : (past now : List Entry) (s : ℕ) (opening held : Disk) → SameRecord past now s → RecordHasGone past s opening held → RecordHasGone now s opening held
record_gone-same past now s opening held same gone = record {
  holds = λ bytes is. gone.holds bytes (sym (same.same_image (page_of opening record_number)) ∙ is);
  among = gone.among;
  crash = λ content alone among. rw (same.same_crash (page_of opening record_number)) (gone.crash content alone among);
  exact = λ alone well. gone.exact alone (sym same.same_stored ∙ well) ∙ sym (same.same_crash (page_of opening record_number));
}

-- the record page of a disk that holds what it held, and may lose what it might
record_gone-kept : (past : List Entry) (s : ℕ) (opening old new : Disk) → page_of new record_number ≡ page_of old record_number → may_of new record_number ≡ may_of old record_number → RecordHasGone past s opening old → RecordHasGone past s opening new
record_gone-kept past s opening old new holds may gone = record {
  holds = λ bytes is. holds ∙ gone.holds bytes is;
  among = λ alone. rw (may, holds) (gone.among alone);
  crash = λ content alone among. gone.crash content alone (subst (λ contents. Contains contents content) may among);
  exact = λ alone well. may ∙ gone.exact alone well;
}

-- a data page is not the record page
pub apart : (page : ℕ) → page < record_number → (page == record_number) ≡ false
apart page numbered = ne_eqb page record_number (λ same. go page (2 ^ 51) same numbered)
  where
    go : (n most : ℕ) → n ≡ most → n < most → ⊥
    go n most same less = absurd (omega (arith, same, less))

-- A write of a data page leaves the record page, whether it ended well or failed.
pub record_gone-wrote : (past : List Entry) (s page : ℕ) (bytes : List ℕ) (opening old new : Disk) → page < record_number → Wrote page bytes old new → RecordHasGone past s opening old → RecordHasGone past s opening new
record_gone-wrote past s page bytes opening old new numbered wrote =
    record_gone-kept past s opening old new
    (wrote.holds record_number ∙ ap (λ b. if b then bytes else page_of old record_number) (apart page numbered))
    (wrote.may record_number ∙ ap (λ b. if b then may_of old record_number ++ bytes ∷ [] else may_of old record_number) (apart page numbered))

pub record_gone-failed : (past : List Entry) (s page : ℕ) (bytes : List ℕ) (opening old new : Disk) → page < record_number → WriteFailed page bytes old new → RecordHasGone past s opening old → RecordHasGone past s opening new
record_gone-failed past s page bytes opening old new numbered failed =
    record_gone-kept past s opening old new
    (failed.others record_number (apart page numbered))
    (failed.may record_number ∙ ap (λ b. if b then may_of old record_number ++ bytes ∷ [] else may_of old record_number) (apart page numbered))

-- what a write of the record says, of its own stream and of another
module _ (opening : List ℕ) (pass stream size valid : ℕ) (how : End) (past : List Entry) (s : ℕ) where
  abbrev wrote : Entry
  wrote = entry.Record pass stream size valid how

  image-own : (stream == s) ≡ true → record_image opening (wrote ∷ past) s ≡ (if ended_ok how then Some (record_page size valid) else None)
  unfolding record_image
  image-own same = rw (same, record_image) refl

  image-other : (stream == s) ≡ false → record_image opening (wrote ∷ past) s ≡ record_image opening past s
  unfolding record_image
  image-other other = rw (other, record_image) refl

  stored-own : (stream == s) ≡ true → is_record_stored (wrote ∷ past) s ≡ ended_ok how
  unfolding is_record_stored
  stored-own same = rw (same, is_record_stored) refl

  stored-other : (stream == s) ≡ false → is_record_stored (wrote ∷ past) s ≡ is_record_stored past s
  unfolding is_record_stored
  stored-other other = rw (other, is_record_stored) refl

  crash-own : (stream == s) ≡ true → crash_records opening (wrote ∷ past) s ≡ crash_records opening past s ++ record_page size valid ∷ []
  unfolding crash_records
  crash-own same = rw (same, crash_records) refl

  crash-other : (stream == s) ≡ false → crash_records opening (wrote ∷ past) s ≡ crash_records opening past s
  unfolding crash_records
  crash-other other = rw (other, crash_records) refl

last-added : (contents : List (List ℕ)) (last : List ℕ) → last_alone (contents ++ last ∷ []) ≡ last ∷ []
last-added [] last = refl
last-added (content ∷ []) last = refl
last-added (content ∷ next ∷ contents) last = last-added (next ∷ contents) last

-- What the record page holds is known just where the last write of the record ended well, and is then the last of what a
-- crash may leave of it.
abbrev Known : List ℕ → List Entry → ℕ → Option (List ℕ) → Type 0
Known opening past s None = is_record_stored past s ≡ false
Known opening past s (Some bytes) =
    (is_record_stored past s ≡ true) × (last_alone (crash_records opening past s) ≡ bytes ∷ [])

module _ (opening : List ℕ) (pass stream size valid : ℕ) (how : End) (past : List Entry) (s : ℕ) where
  known-own : (good : Bool) → ended_ok how ≡ good → (stream == s) ≡ true → (o : Option (List ℕ)) → (if good then Some (record_page size valid) else None) ≡ o → Known opening (entry.Record pass stream size valid how ∷ past) s o
  known-own true good same None is = absurd (cc)
  known-own true good same (Some bytes) is =
      let its : record_page size valid ≡ bytes = cc (is) in (
        stored-own opening pass stream size valid how past s same ∙ good,
        ap last_alone (crash-own opening pass stream size valid how past s same)
            ∙ (last-added (crash_records opening past s) (record_page size valid) ∙ ap (λ content. content ∷ []) its),
      )
  known-own false bad same None is = stored-own opening pass stream size valid how past s same ∙ bad
  known-own false bad same (Some bytes) is = absurd (cc)

  known-other : (stream == s) ≡ false → (o : Option (List ℕ)) → Known opening past s o → Known opening (entry.Record pass stream size valid how ∷ past) s o
  known-other other None was = stored-other opening pass stream size valid how past s other ∙ was
  known-other other (Some bytes) was = (
    stored-other opening pass stream size valid how past s other ∙ was.0,
    ap last_alone (crash-other opening pass stream size valid how past s other) ∙ was.1,
  )

  known-recorded : (o : Option (List ℕ)) → ((o : Option (List ℕ)) → record_image opening past s ≡ o → Known opening past s o) → record_image opening (entry.Record pass stream size valid how ∷ past) s ≡ o → Known opening (entry.Record pass stream size valid how ∷ past) s o
  known-recorded o before is = go (stream == s) refl
    where
      go : (b : Bool) → (stream == s) ≡ b → Known opening (entry.Record pass stream size valid how ∷ past) s o
      go true same = known-own (ended_ok how) refl same o (sym (image-own opening pass stream size valid how past s same) ∙ is)
      go false other = known-other other o (before o (sym (image-other opening pass stream size valid how past s other) ∙ is))

-- what a sync leaves, that is a good one of the stream or not
crash-settled : (opening : List ℕ) (pass stream : ℕ) (how : End) (past : List Entry) (s : ℕ) → (stream == s && ended_ok how) ≡ true → crash_records opening (entry.Sync pass stream how ∷ past) s ≡ record_settled (is_record_stored past s) (crash_records opening past s)
unfolding crash_records
crash-settled opening pass stream how past s good = rw (good, crash_records) refl

crash-unsettled : (opening : List ℕ) (pass stream : ℕ) (how : End) (past : List Entry) (s : ℕ) → (stream == s && ended_ok how) ≡ false → crash_records opening (entry.Sync pass stream how ∷ past) s ≡ crash_records opening past s
unfolding crash_records
crash-unsettled opening pass stream how past s bad = rw (bad, crash_records) refl

synced-last : (opening : List ℕ) (pass stream : ℕ) (how : End) (past : List Entry) (s : ℕ) (bytes : List ℕ) → is_record_stored past s ≡ true → last_alone (crash_records opening past s) ≡ bytes ∷ [] → (b : Bool) → (stream == s && ended_ok how) ≡ b → last_alone (crash_records opening (entry.Sync pass stream how ∷ past) s) ≡ bytes ∷ []
synced-last opening pass stream how past s bytes stored last true good =
    ap last_alone (crash-settled opening pass stream how past s good)
    ∙ (ap (λ b. last_alone (record_settled b (crash_records opening past s))) stored
    ∙ ap last_alone last)
synced-last opening pass stream how past s bytes stored last false bad =
    ap last_alone (crash-unsettled opening pass stream how past s bad) ∙ last

known : (opening : List ℕ) (past : List Entry) (s : ℕ) (o : Option (List ℕ)) → record_image opening past s ≡ o → Known opening past s o
unfolding record_image crash_records is_record_stored
known opening [] s None is = absurd (cc)
known opening [] s (Some bytes) is = let its : opening ≡ bytes = cc (is) in (refl, ap (λ content. content ∷ []) its)
known opening (entry.Record pass stream size valid how ∷ past) s o is =
    known-recorded opening pass stream size valid how past s o (known opening past s) is
known opening (entry.Sync pass stream how ∷ past) s None is = known opening past s None is
known opening (entry.Sync pass stream how ∷ past) s (Some bytes) is =
    let was = known opening past s (Some bytes) is in
    (was.0, synced-last opening pass stream how past s bytes was.0 was.1 (stream == s && ended_ok how) refl)
known opening (other ∷ past) s None is = known opening past s None is
known opening (other ∷ past) s (Some bytes) is = known opening past s (Some bytes) is

-- it is known where each write of the record ended well
stored-known : (opening : List ℕ) (past : List Entry) (s : ℕ) → all_records_stored past s ≡ true → (bytes : List ℕ) × (record_image opening past s ≡ Some bytes)
unfolding record_image all_records_stored
stored-known opening [] s well = (opening, refl)
stored-known opening (entry.Record pass stream size valid how ∷ past) s well =
    let parts = and_parts (not (stream == s) || ended_ok how) (all_records_stored past s) well in
    go (stream == s) refl parts.0 (stored-known opening past s parts.1)
  where
    go : (b : Bool) → (stream == s) ≡ b → (not (stream == s) || ended_ok how) ≡ true → (bytes : List ℕ) × (record_image opening past s ≡ Some bytes) → (bytes : List ℕ) × (record_image opening (entry.Record pass stream size valid how ∷ past) s ≡ Some bytes)
    go true same good before = (
      record_page size valid,
      image-own opening pass stream size valid how past s same
          ∙ ap (λ g. if g then Some (record_page size valid) else None) (ap (λ b. not b || ended_ok how) (sym same) ∙ good),
    )
    go false other good before = (before.0, image-other opening pass stream size valid how past s other ∙ before.1)
stored-known opening (other ∷ past) s well = stored-known opening past s well

-- what a good sync leaves of the record page, where what it holds is known and where it is not
synced-known : (opening : List ℕ) (pass s : ℕ) (past : List Entry) (bytes : List ℕ) → record_image opening past s ≡ Some bytes → crash_records opening (entry.Sync pass s end.Good ∷ past) s ≡ bytes ∷ []
synced-known opening pass s past bytes is =
    let known_so = known opening past s (Some bytes) is in
    crash-settled opening pass s end.Good past s (rw (eq-eqb s s refl) refl)
    ∙ (ap (λ stored. record_settled stored (crash_records opening past s)) known_so.0 ∙ known_so.1)

synced-unknown : (opening : List ℕ) (pass s : ℕ) (past : List Entry) → record_image opening past s ≡ None → crash_records opening (entry.Sync pass s end.Good ∷ past) s ≡ crash_records opening past s
synced-unknown opening pass s past unknown =
    crash-settled opening pass s end.Good past s (rw (eq-eqb s s refl) refl)
    ∙ ap (λ stored. record_settled stored (crash_records opening past s)) (known opening past s None unknown)

-- a list of one content has no other
pub only_one : (bytes content : List ℕ) → Contains (bytes ∷ []) content → bytes ≡ content
only_one bytes content among = go (Contains-push_cases [] bytes content among)
  where
    go : Contains [] content ⊎ (bytes ≡ content) → bytes ≡ content
    go (inl none) = let below : none.0 < 0 = none.1 in absurd (omega (arith, below))
    go (inr same) = same

-- A good sync left the record page that goes with it.
pub record_gone-synced : (past : List Entry) (pass s : ℕ) (opening old new : Disk) → Settled old new → RecordHasGone past s opening old → RecordHasGone (entry.Sync pass s end.Good ∷ past) s opening new
unfolding record_image all_records_stored
record_gone-synced past pass s opening old new settled gone = record {
  holds = λ bytes is. settled.holds record_number ∙ gone.holds bytes is;
  among = λ alone. rw (settled.may record_number, settled.holds record_number) (Contains-push [] (page_of old record_number));
  crash = λ content alone among.
      crash content alone
      (only_one (page_of old record_number) content (subst (λ contents. Contains contents content) (settled.may record_number) among))
      (record_image (page_of opening record_number) past s) refl;
  exact = λ alone well.
      let image_is = stored-known (page_of opening record_number) past s well in
      settled.may record_number
      ∙ (ap (λ bytes. bytes ∷ []) (gone.holds image_is.0 image_is.1)
      ∙ sym (synced-known (page_of opening record_number) pass s past image_is.0 image_is.1));
}
  where
    crash : (content : List ℕ) → may_of opening record_number ≡ page_of opening record_number ∷ [] → page_of old record_number ≡ content → (o : Option (List ℕ)) → record_image (page_of opening record_number) past s ≡ o → Contains (crash_records (page_of opening record_number) (entry.Sync pass s end.Good ∷ past) s) content
    crash content alone same None unknown =
        rw (synced-unknown (page_of opening record_number) pass s past unknown)
        (gone.crash content alone (subst (λ bytes. Contains (may_of old record_number) bytes) same (gone.among alone)))
    crash content alone same (Some bytes) is =
        rw (synced-known (page_of opening record_number) pass s past bytes is)
        (subst (λ held. Contains (bytes ∷ []) held) (sym (gone.holds bytes is) ∙ same) (Contains-push [] bytes))

-- the record page of a disk as the run begins
pub record_gone-none : (s : ℕ) (disk : Disk) → RecordHasGone [] s disk disk
unfolding record_image crash_records
record_gone-none s disk = record {
  holds = λ bytes is. one (page_of disk record_number) bytes is;
  among = λ alone. subst (λ contents. Contains contents (page_of disk record_number)) (sym alone) (Contains-push [] (page_of disk record_number));
  crash = λ content alone among. subst (λ contents. Contains contents content) alone among;
  exact = λ alone well. alone;
}
  where
    one : (a b : List ℕ) → Some a ≡ Some b → a ≡ b
    one a b is = cc

-- What the record of a stream may tell after a stop may be given to a restart.
use Rattle.std.specs.Prelude.{◌≡◌, ℕ, ◌+◌, ◌*◌, ◌^◌, ◌<◌, ◌≤◌, ◌⊎◌, Bool, true, false, ◌==◌, ◌&&◌, List, [], ◌∷◌, ◌++◌, Contains, refl}
use Rattle.std.proofs.Common.{arith, ap, append_assoc, sym, subst, ◌∙◌, inl, inr}
use Rattle.std.proofs.lemmas.Bool.{eqb-true}
use Rattle.std.proofs.lemmas.List.Elements.{Contains-push_cases, Contains-append_right}
use Rattle.std.specs.declared.option.Option.{Option}
use Rattle.std.specs.declared.option.Option.TheVariants.{Some, None}
use Rattle.cc_entry.specs.declared.entry.End.{End}
use Rattle.cc_entry.specs.declared.entry.Entry.{Entry}
use Rattle.cc_entry.specs.declared.entry.Entry.TheVariants as entry
use Rattle.cc_format.proofs.Numbers.{spelled_once}
use Rattle.cc_format.specs.Spelling.{IsReadAs}
use Rattle.cc_format.specs.declared.record.StreamRecord.{StreamRecord}
use Rattle.cc_format.specs.declared.record.StreamRecord.TheVariants.{V2}
use Rattle.cc_laws.proofs.HistorySteps.{history-grown}
use Rattle.cc_laws.proofs.SoundFacts.{size_of-good, valid_of-good}
use Rattle.cc_laws.proofs.SteadyPasts.{IsSteady-good}
use Rattle.cc_model.specs.Allowed.{IsAllowedSoFar}
use Rattle.cc_model.specs.Good.{IsGoodSoFar}
use Rattle.cc_model.specs.History.{Effect, history}
use Rattle.cc_model.specs.Objects.{had_map}
use Rattle.cc_model.specs.Records.{first_valid, is_settled, MayRecord, record_page, is_record_stored, last_alone, record_settled, crash_records}
use Rattle.cc_model.specs.Setup.{Setup}
use Rattle.cc_model.specs.Sizes.{ended_ok}
use Rattle.cc_model.specs.Touches.{size_of, valid_of}
use Rattle.cc_records.proofs.FirstMaps.{valid-never}
use Rattle.cc_records.proofs.Settling.{first-stays, good-rest, had-stays, settled-stays}
use Rattle.cc_records.specs.Recorded.{told_valid}
use Rattle.cc_restart_laws.proofs.Entries.{good-tail}

-- ---- what a crash may leave of the record page

-- a write of the record spelled this
pub record IsWrittenAt (s : ℕ) (past : List Entry) (content : List ℕ) : Type 0 where
  pub later : List Entry
  pub front : List Entry
  pub pass : ℕ
  pub size : ℕ
  pub valid : ℕ
  pub how : End
  pub splits : past ≡ later ++ entry.Record pass s size valid how ∷ front
  pub spelled : record_page size valid ≡ content

written-longer : {s : ℕ} {past : List Entry} {content : List ℕ} (opening : List ℕ) (e : Entry) → (opening ≡ content) ⊎ IsWrittenAt s past content → (opening ≡ content) ⊎ IsWrittenAt s (e ∷ past) content
written-longer opening e (inl is) = inl is
written-longer opening e (inr k) = inr (record {
  later = e ∷ k.later;
  front = k.front;
  pass = k.pass;
  size = k.size;
  valid = k.valid;
  how = k.how;
  splits = ap (λ (l : List Entry). e ∷ l) k.splits;
  spelled = k.spelled;
})

last-among : (contents : List (List ℕ)) (content : List ℕ) → Contains (last_alone contents) content → Contains contents content
last-among [] content among = among
last-among (first ∷ []) content among = among
last-among (first ∷ next ∷ rest) content among = Contains-append_right (first ∷ []) (next ∷ rest) content (last-among (next ∷ rest) content among)

settled-among : (b : Bool) (contents : List (List ℕ)) (content : List ℕ) → Contains (record_settled b contents) content → Contains contents content
settled-among false contents content among = among
settled-among true contents content among = last-among contents content among

pub written-at : (opening : List ℕ) (past : List Entry) (s : ℕ) (content : List ℕ) → Contains (crash_records opening past s) content → (opening ≡ content) ⊎ IsWrittenAt s past content
unfolding crash_records
written-at opening [] s content among = go (Contains-push_cases [] opening content among)
  where
    go : Contains [] content ⊎ (opening ≡ content) → (opening ≡ content) ⊎ IsWrittenAt s [] content
    go (inl none) = absurd (omega (arith, none.1))
    go (inr is) = inl is
written-at opening (entry.Record pass stream size valid how ∷ past) s content among = go (stream == s) refl (λ before. written-at opening past s content before)
  where
    pushed : (stream == s) ≡ true → crash_records opening (entry.Record pass stream size valid how ∷ past) s ≡ crash_records opening past s ++ record_page size valid ∷ []
    pushed same = rw (same, crash_records) refl

    aside : (stream == s) ≡ false → crash_records opening (entry.Record pass stream size valid how ∷ past) s ≡ crash_records opening past s
    aside other = rw (other, crash_records) refl

    cases : (stream == s) ≡ true → Contains (crash_records opening past s) content ⊎ (record_page size valid ≡ content) → (Contains (crash_records opening past s) content → (opening ≡ content) ⊎ IsWrittenAt s past content) →
        (opening ≡ content) ⊎ IsWrittenAt s (entry.Record pass stream size valid how ∷ past) content
    cases same (inl before) rest = written-longer opening (entry.Record pass stream size valid how) (rest before)
    cases same (inr is) rest = inr (record {
      later = [];
      front = past;
      pass = pass;
      size = size;
      valid = valid;
      how = how;
      splits = ap (λ (n : ℕ). entry.Record pass n size valid how ∷ past) (eqb-true stream s same);
      spelled = is;
    })

    go : (b : Bool) → (stream == s) ≡ b → (Contains (crash_records opening past s) content → (opening ≡ content) ⊎ IsWrittenAt s past content) → (opening ≡ content) ⊎ IsWrittenAt s (entry.Record pass stream size valid how ∷ past) content
    go true same rest = cases same (Contains-push_cases (crash_records opening past s) (record_page size valid) content (subst (λ contents. Contains contents content) (pushed same) among)) rest
    go false other rest = written-longer opening (entry.Record pass stream size valid how) (rest (subst (λ contents. Contains contents content) (aside other) among))
written-at opening (entry.Sync pass stream how ∷ past) s content among =
    written-longer opening (entry.Sync pass stream how) (written-at opening past s content (go (stream == s && ended_ok how) refl))
  where
    settles : (stream == s && ended_ok how) ≡ true → crash_records opening (entry.Sync pass stream how ∷ past) s ≡ record_settled (is_record_stored past s) (crash_records opening past s)
    settles good = rw (good, crash_records) refl

    leaves : (stream == s && ended_ok how) ≡ false → crash_records opening (entry.Sync pass stream how ∷ past) s ≡ crash_records opening past s
    leaves bad = rw (bad, crash_records) refl

    go : (b : Bool) → (stream == s && ended_ok how) ≡ b → Contains (crash_records opening past s) content
    go true good = settled-among (is_record_stored past s) (crash_records opening past s) content (subst (λ contents. Contains contents content) (settles good) among)
    go false bad = subst (λ contents. Contains contents content) (leaves bad) among
written-at opening (other ∷ past) s content among = written-longer opening other (written-at opening past s content among)

-- ---- where it was written, and what that says

-- Of a good journal it was written behind a front of which it may tell this.
pub record IsToldAt (u : Setup) (s : ℕ) (past front : List Entry) (size valid : ℕ) : Type 0 where
  pub later : List Entry
  pub grew : past ≡ later ++ front
  pub good : IsGoodSoFar u front
  pub may : MayRecord (history front s) size valid

may-record : (u : Setup) (past : List Entry) (pass stream size valid : ℕ) (how : End) → IsGoodSoFar u (entry.Record pass stream size valid how ∷ past) → MayRecord (history past stream) size valid
unfolding IsAllowedSoFar
may-record u past pass stream size valid how good = good.allowed.1

pub told-at : (u : Setup) (past : List Entry) (s : ℕ) (content : List ℕ) → IsGoodSoFar u past → (k : IsWrittenAt s past content) → IsToldAt u s past k.front k.size k.valid
told-at u past s content good k = record {
  later = k.later ++ e ∷ [];
  grew = k.splits ∙ sym (append_assoc k.later (e ∷ []) k.front);
  good = good-tail u e k.front good_e;
  may = may-record u k.front k.pass s k.size k.valid k.how good_e;
}
  where
    e : Entry
    e = entry.Record k.pass s k.size k.valid k.how

    good_e : IsGoodSoFar u (e ∷ k.front)
    good_e = good-rest u k.later (e ∷ k.front) (subst (λ (l : List Entry). IsGoodSoFar u l) k.splits good)

-- a page is read in one way
pub read-once : (content : List ℕ) (one other : Option StreamRecord) → IsReadAs content one → IsReadAs content other → one ≡ other
read-once content None None one other = refl
read-once content None (Some told) one other = absurd (one told other)
read-once content (Some told) None one other = absurd (other told one)
read-once content (Some first) (Some second) one other = ap (λ (r : StreamRecord). Some r) (spelled_once content first second one other)

-- ---- the law

module _ (u : Setup) (past : List Entry) (s first : ℕ) (good : IsGoodSoFar u past) (opened : had_map (history past s) ≡ true → first_valid (history past s) ≡ first) where
  settled-since : (read : Option StreamRecord) (content : List ℕ) (p : ℕ) (w : IsWrittenAt s past content) → IsReadAs content read → first < told_valid read → first < 4096 * p + 4096 → 4096 * p < told_valid read → is_settled (history past s) p ≡ true
  settled-since read content p w reads above low high = go (had_map (history w.front s)) refl
    where
      k : IsToldAt u s past w.front w.size w.valid
      k = told-at u past s content good w

      size_fits : size_of (history w.front s) < 2 ^ 63
      size_fits = size_of-good u w.front s k.good

      within : w.valid ≤ valid_of (history w.front s)
      within = k.may.within

      told-is : told_valid read ≡ w.valid
      told-is =
          let sized = k.may.its_size in
          let least = valid_of-good u w.front s k.good in
          let fits = size_fits in
          let le = within in
          ap told_valid
          (read-once content read (Some (V2 w.size w.valid)) reads
          (record { in_range = record { size_in_range = omega (arith, sized, fits); within = omega (arith, sized, least, le) }; spelled = sym w.spelled }))

      grown : history past s ≡ history k.later s ++ history w.front s
      grown = ap (λ (l : List Entry). history l s) k.grew ∙ history-grown k.later w.front s

      go : (b : Bool) → had_map (history w.front s) ≡ b → is_settled (history past s) p ≡ true
      go false never =
          let none = valid-never (history w.front s) (IsSteady-good u w.front s k.good) never in
          let le = within in
          let told = told-is in
          absurd (omega (arith, none, le, told, above))
      go true had =
          let had_now : had_map (history past s) ≡ true = ap had_map grown ∙ had-stays (history k.later s) (history w.front s) had in
          let same : first_valid (history w.front s) ≡ first = sym (ap first_valid grown ∙ first-stays (history k.later s) (history w.front s) had) ∙ opened had_now in
          let told = told-is in
          ap (λ (h : List Effect). is_settled h p) grown
          ∙ settled-stays (history k.later s) (history w.front s) p
          (k.may.told p (omega (arith, same, told, above)) (omega (arith, same, low)) (omega (arith, told, high)))

  pub told-settled : (opening content : List ℕ) (before read : Option StreamRecord) → IsReadAs opening before → told_valid before ≤ first → Contains (crash_records opening past s) content → IsReadAs content read → (p : ℕ) →
      first < told_valid read → first < 4096 * p + 4096 → 4096 * p < told_valid read → is_settled (history past s) p ≡ true
  told-settled opening content before read opens least among reads p above low high = go (written-at opening past s content among)
    where
      go : (opening ≡ content) ⊎ IsWrittenAt s past content → is_settled (history past s) p ≡ true
      go (inl same) =
          let told : told_valid read ≡ told_valid before = ap told_valid (read-once content read before reads (subst (λ (l : List ℕ). IsReadAs l before) same opens)) in
          absurd (omega (arith, told, least, above))
      go (inr k) = settled-since read content p k reads above low high

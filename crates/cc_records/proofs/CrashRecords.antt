-- Each byte below the valid data length that a crash may leave in the record of a stream is one that the plain file had there.
use Rattle.std.specs.Prelude.{◌≡◌, ℕ, ◌+◌, ◌-◌, ◌*◌, ◌/◌, ◌%◌, ◌^◌, ◌<◌, ◌≤◌, ◌⊎◌, Bool, true, false, ◌==◌, ◌&&◌, nat_lt, List, [], ◌∷◌, ◌++◌, Contains, slice_index, refl}
use Rattle.std.specs.List.{cons_option}
use Rattle.std.proofs.Common.{arith, ap, sym, subst, ◌∙◌, inl, inr, ⊎_elim}
use Rattle.std.proofs.lemmas.Bool.{eqb-true, ltb-true, ltb-false}
use Rattle.std.proofs.lemmas.List.Elements.{Contains-push_cases, Contains-append_right}
use Rattle.std.specs.declared.option.Option.{Option}
use Rattle.std.specs.declared.option.Option.TheVariants.{Some, None}
use Rattle.cc_entry.specs.declared.entry.End.{End}
use Rattle.cc_entry.specs.declared.entry.Entry.{Entry}
use Rattle.cc_entry.specs.declared.entry.Entry.TheVariants as entry
use Rattle.cc_format.proofs.Numbers.{spelled_once}
use Rattle.cc_format.specs.Spelling.{IsReadAs, SpellsStreamRecord}
use Rattle.cc_format.specs.declared.record.StreamRecord.{StreamRecord}
use Rattle.cc_format.specs.declared.record.StreamRecord.TheVariants.{V1, V2}
use Rattle.cc_model.specs.Allowed.{IsAllowedSoFar}
use Rattle.cc_model.specs.Bytes.{byte_of}
use Rattle.cc_model.specs.Good.{IsGoodSoFar}
use Rattle.cc_model.specs.History.{Effect, effect_of, history}
use Rattle.cc_model.specs.Images.{crash_pages}
use Rattle.cc_model.specs.Objects.{had_map}
use Rattle.cc_model.specs.Records.{first_valid, is_settled, MayRecord, MayTellValid, record_page, is_record_stored, last_alone, record_settled, crash_records}
use Rattle.cc_model.specs.Setup.{Setup}
use Rattle.cc_model.specs.Sizes.{ended_ok}
use Rattle.cc_model.specs.Touches.{size_of, valid_of}
use Rattle.cc_laws.proofs.HistorySteps.{history-grown, history-no_effect}
use Rattle.cc_laws.proofs.SoundFacts.{valid_of-good, size_of-good}
use Rattle.cc_laws.proofs.Steady.{IsSteady}
use Rattle.cc_laws.proofs.SteadyPasts.{IsSteady-good}
use Rattle.cc_records.specs.Recorded.{told_valid, WasByte}
use Rattle.cc_records.proofs.CrashPages.{WasPage, WasByteOf, crash-was, crash-settled, was-byte, first-had, opening-was}
use Rattle.cc_records.proofs.FirstMaps.{valid-never}
use Rattle.cc_records.proofs.Settling.{good-rest, had-stays, first-stays, settled-stays}

-- ---- what a crash may leave of the record page

-- a write of the record spelled this
record IsRecorded (past : List Entry) (s : ℕ) (content : List ℕ) : Type 0 where
  later : List Entry
  before : List Entry
  pass : ℕ
  size : ℕ
  valid : ℕ
  how : End
  splits : past ≡ later ++ entry.Record pass s size valid how ∷ before
  spelled : record_page size valid ≡ content

recorded-longer : (e : Entry) {past : List Entry} {s : ℕ} {content : List ℕ} → IsRecorded past s content → IsRecorded (e ∷ past) s content
recorded-longer e k = record {
  later = e ∷ k.later;
  before = k.before;
  pass = k.pass;
  size = k.size;
  valid = k.valid;
  how = k.how;
  splits = ap (λ (l : List Entry). e ∷ l) k.splits;
  spelled = k.spelled;
}

either-longer : (opening : List ℕ) (e : Entry) {past : List Entry} {s : ℕ} {content : List ℕ} → (opening ≡ content) ⊎ IsRecorded past s content → (opening ≡ content) ⊎ IsRecorded (e ∷ past) s content
either-longer opening e (inl is) = inl is
either-longer opening e (inr k) = inr (recorded-longer e k)

last-among : (contents : List (List ℕ)) (content : List ℕ) → Contains (last_alone contents) content → Contains contents content
last-among [] content among = among
last-among (first ∷ []) content among = among
last-among (first ∷ next ∷ rest) content among = Contains-append_right (first ∷ []) (next ∷ rest) content (last-among (next ∷ rest) content among)

settled-among : (b : Bool) (contents : List (List ℕ)) (content : List ℕ) → Contains (record_settled b contents) content → Contains contents content
settled-among false contents content among = among
settled-among true contents content among = last-among contents content among

recorded : (opening : List ℕ) (past : List Entry) (s : ℕ) (content : List ℕ) → Contains (crash_records opening past s) content → (opening ≡ content) ⊎ IsRecorded past s content
unfolding crash_records
recorded opening [] s content among = go (Contains-push_cases [] opening content among)
  where
    go : Contains [] content ⊎ (opening ≡ content) → (opening ≡ content) ⊎ IsRecorded [] s content
    go (inl none) = absurd (omega (arith, none.1))
    go (inr is) = inl is
recorded opening (entry.Record pass stream size valid how ∷ past) s content among = go (stream == s) refl (recorded opening past s content)
  where
    pushed : (stream == s) ≡ true → crash_records opening (entry.Record pass stream size valid how ∷ past) s ≡ crash_records opening past s ++ record_page size valid ∷ []
    pushed same = rw (same, crash_records) refl

    aside : (stream == s) ≡ false → crash_records opening (entry.Record pass stream size valid how ∷ past) s ≡ crash_records opening past s
    aside other = rw (other, crash_records) refl

    cases : (stream == s) ≡ true → Contains (crash_records opening past s) content ⊎ (record_page size valid ≡ content) → (Contains (crash_records opening past s) content → (opening ≡ content) ⊎ IsRecorded past s content) → (opening ≡ content) ⊎ IsRecorded (entry.Record pass stream size valid how ∷ past) s content
    cases same (inl before) rest = either-longer opening (entry.Record pass stream size valid how) (rest before)
    cases same (inr is) rest = inr (record {
      later = [];
      before = past;
      pass = pass;
      size = size;
      valid = valid;
      how = how;
      splits = ap (λ (n : ℕ). entry.Record pass n size valid how ∷ past) (eqb-true stream s same);
      spelled = is;
    })

    go : (b : Bool) → (stream == s) ≡ b → (Contains (crash_records opening past s) content → (opening ≡ content) ⊎ IsRecorded past s content) → (opening ≡ content) ⊎ IsRecorded (entry.Record pass stream size valid how ∷ past) s content
    go true same rest =
        cases same (Contains-push_cases (crash_records opening past s) (record_page size valid) content (subst (λ contents. Contains contents content) (pushed same) among)) rest
    go false other rest = either-longer opening (entry.Record pass stream size valid how) (rest (subst (λ contents. Contains contents content) (aside other) among))
recorded opening (entry.Sync pass stream how ∷ past) s content among = either-longer opening (entry.Sync pass stream how) (recorded opening past s content (go (stream == s && ended_ok how) refl))
  where
    settles : (stream == s && ended_ok how) ≡ true → crash_records opening (entry.Sync pass stream how ∷ past) s ≡ record_settled (is_record_stored past s) (crash_records opening past s)
    settles good = rw (good, crash_records) refl

    leaves : (stream == s && ended_ok how) ≡ false → crash_records opening (entry.Sync pass stream how ∷ past) s ≡ crash_records opening past s
    leaves bad = rw (bad, crash_records) refl

    go : (b : Bool) → (stream == s && ended_ok how) ≡ b → Contains (crash_records opening past s) content
    go true good = settled-among (is_record_stored past s) (crash_records opening past s) content (subst (λ contents. Contains contents content) (settles good) among)
    go false bad = subst (λ contents. Contains contents content) (leaves bad) among
recorded opening (other ∷ past) s content among = either-longer opening other (recorded opening past s content among)

-- ---- a moment of a history is one of the journal

moments : (pages : ℕ → List ℕ) (past : List Entry) (s i byte : ℕ) → WasByteOf pages (history past s) i byte → WasByte pages past s i byte
unfolding history
moments pages [] s i byte k = record { later = []; before = []; splits = refl; was = ap (λ (h : List Effect). byte_of pages h i) (none k.later k.before k.splits) ∙ k.was }
  where
    none : (later before : List Effect) → [] ≡ later ++ before → [] ≡ before
    none [] before is = is
    none (e ∷ later) before is = absurd (cc)
moments pages (e ∷ past) s i byte k = go (effect_of e s) k.later k.before k.splits k.was (moments pages past s i byte) refl
  where
    rest : WasByte pages past s i byte → WasByte pages (e ∷ past) s i byte
    rest f = record { later = e ∷ f.later; before = f.before; splits = ap (λ (l : List Entry). e ∷ l) f.splits; was = f.was }

    tail : (one other : Effect) (l m : List Effect) → one ∷ l ≡ other ∷ m → l ≡ m
    tail one other l m is = cc

    go : (o : Option Effect) (later before : List Effect) → cons_option o (history past s) ≡ later ++ before → byte_of pages before i ≡ byte → (WasByteOf pages (history past s) i byte → WasByte pages past s i byte) → effect_of e s ≡ o → WasByte pages (e ∷ past) s i byte
    go None later before splits was step same = rest (step (record { later = later; before = before; splits = splits; was = was }))
    go (Some effect) [] before splits was step same = record {
      later = [];
      before = e ∷ past;
      splits = refl;
      was = ap (λ (h : List Effect). byte_of pages h i) (ap (λ (o : Option Effect). cons_option o (history past s)) same ∙ splits) ∙ was;
    }
    go (Some effect) (first ∷ later) before splits was step same =
        rest (step (record { later = later; before = before; splits = tail effect first (history past s) (later ++ before) splits; was = was }))

-- ---- the law

module _ (u : Setup) (past : List Entry) (s : ℕ) (pages : ℕ → List ℕ) (good : IsGoodSoFar u past) where
  h : List Effect
  h = history past s

  steady : IsSteady (history past s)
  steady = IsSteady-good u past s good

  -- a byte that the first initialise made valid
  early : (p i : ℕ) (bytes : List ℕ) → i < first_valid (history past s) → 4096 * p ≤ i → i < 4096 * p + 4096 → Contains (crash_pages pages (history past s) p) bytes → WasByteOf pages (history past s) i (slice_index bytes (i - 4096 * p))
  early p i bytes below low high among = go (crash-was pages p (history past s) bytes steady among)
    where
      at : (q r : ℕ) → q ≡ p → r ≡ i - 4096 * p → (l : List ℕ) → pages p ≡ l → slice_index (pages q) r ≡ slice_index l (i - 4096 * p)
      at q r same_page same_place l same = ap (λ (n : ℕ). slice_index (pages n) r) same_page ∙ (ap (λ (n : ℕ). slice_index (pages p) n) same_place ∙ ap (λ (m : List ℕ). slice_index m (i - 4096 * p)) same)

      go : (pages p ≡ bytes) ⊎ WasPage pages p (history past s) bytes → WasByteOf pages (history past s) i (slice_index bytes (i - 4096 * p))
      go (inl is) =
          subst (λ (n : ℕ). WasByteOf pages (history past s) i n) (at (i / 4096) (i % 4096) (omega arith) (omega arith) bytes is)
          (opening-was pages i (history past s) steady (first-had (history past s) (omega (arith, below))) below)
      go (inr was) = was-byte pages p i (history past s) bytes low high was

  -- one that the record tells beyond
  late : (p i : ℕ) (bytes : List ℕ) (later before : List Entry) (size valid : ℕ) → past ≡ later ++ before → IsGoodSoFar u before → MayRecord (history before s) size valid → i < valid → first_valid (history past s) ≤ i → 4096 * p ≤ i → i < 4096 * p + 4096 →
      Contains (crash_pages pages (history past s) p) bytes → WasByteOf pages (history past s) i (slice_index bytes (i - 4096 * p))
  late p i bytes later before size valid splits sound may below above low high among = go (had_map (history before s)) refl
    where
      within : valid ≤ valid_of (history before s)
      within = may.within

      grown : history past s ≡ history later s ++ history before s
      grown = ap (λ (l : List Entry). history l s) splits ∙ history-grown later before s

      go : (b : Bool) → had_map (history before s) ≡ b → WasByteOf pages (history past s) i (slice_index bytes (i - 4096 * p))
      go false never = let none = valid-never (history before s) (IsSteady-good u before s sound) never in absurd (omega (arith, none, within, below))
      go true had =
          let same : first_valid (history past s) ≡ first_valid (history before s) = ap first_valid grown ∙ first-stays (history later s) (history before s) had in
          let then : is_settled (history before s) p ≡ true = may.told p (omega (arith, same, above, below)) (omega (arith, same, above, high)) (omega (arith, low, below)) in
          let now : is_settled (history past s) p ≡ true = ap (λ (l : List Effect). is_settled l p) grown ∙ settled-stays (history later s) (history before s) p then in
          was-byte pages p i (history past s) bytes low high (crash-settled pages p (history past s) bytes steady now among)

  may-record : (later before : List Entry) (pass size valid : ℕ) (how : End) → past ≡ later ++ entry.Record pass s size valid how ∷ before → IsGoodSoFar u (entry.Record pass s size valid how ∷ before)
  may-record later before pass size valid how splits = good-rest u later (entry.Record pass s size valid how ∷ before) (subst (λ (l : List Entry). IsGoodSoFar u l) splits good)

  allowed : (before : List Entry) (pass size valid : ℕ) (how : End) → IsGoodSoFar u (entry.Record pass s size valid how ∷ before) → MayRecord (history before s) size valid
  unfolding IsAllowedSoFar
  allowed before pass size valid how sound = sound.allowed.1

  -- what a page that spells a record is read as
  read-so : (size valid : ℕ) (content : List ℕ) (read : Option StreamRecord) → record_page size valid ≡ content → size < 2 ^ 63 → valid ≤ size → IsReadAs content read → told_valid read ≡ valid
  read-so size valid content None is fits within reads = absurd (reads (V2 size valid) (record { in_range = record { size_in_range = fits; within = within }; spelled = sym is }))
  read-so size valid content (Some told) is fits within reads =
      ap (λ (r : StreamRecord). told_valid (Some r))
      (spelled_once content told (V2 size valid) reads (record { in_range = record { size_in_range = fits; within = within }; spelled = sym is }))

  -- a page is read in one way
  read-once : (content : List ℕ) (one other : Option StreamRecord) → IsReadAs content one → IsReadAs content other → told_valid one ≡ told_valid other
  read-once content None None one other = refl
  read-once content None (Some told) one other = absurd (one told other)
  read-once content (Some told) None one other = absurd (other told one)
  read-once content (Some first) (Some second) one other = ap (λ (r : StreamRecord). told_valid (Some r)) (spelled_once content first second one other)

  pub recorded-bytes : (opening content : List ℕ) (first read : Option StreamRecord) (p i : ℕ) (bytes : List ℕ) → IsReadAs opening first → told_valid first ≤ first_valid (history past s) →
      Contains (crash_records opening past s) content → IsReadAs content read → i < told_valid read → 4096 * p ≤ i → i < 4096 * p + 4096 → Contains (crash_pages pages (history past s) p) bytes →
      WasByte pages past s i (slice_index bytes (i - 4096 * p))
  recorded-bytes opening content first read p i bytes opens least among reads below low high crash =
      moments pages past s i (slice_index bytes (i - 4096 * p)) (go (nat_lt i (first_valid (history past s))) refl (recorded opening past s content among))
    where
      go : (b : Bool) → nat_lt i (first_valid (history past s)) ≡ b → (opening ≡ content) ⊎ IsRecorded past s content → WasByteOf pages (history past s) i (slice_index bytes (i - 4096 * p))
      go true is from = early p i bytes (ltb-true i (first_valid (history past s)) is) low high crash
      go false is (inl same) =
          let above = ltb-false i (first_valid (history past s)) is in
          let told : told_valid read ≡ told_valid first = read-once content read first reads (subst (λ (l : List ℕ). IsReadAs l first) same opens) in
          absurd (omega (arith, above, told, below, least))
      go false is (inr k) =
          let above = ltb-false i (first_valid (history past s)) is in
          let sound = may-record k.later k.before k.pass k.size k.valid k.how k.splits in
          let may = allowed k.before k.pass k.size k.valid k.how sound in
          let rest : IsGoodSoFar u k.before = good-rest u (entry.Record k.pass s k.size k.valid k.how ∷ []) k.before sound in
          let fits = size_of-good u k.before s rest in
          let sized = may.its_size in
          let within = may.within in
          let whole = valid_of-good u k.before s rest in
          let told : told_valid read ≡ k.valid = read-so k.size k.valid content read k.spelled (omega (arith, sized, fits)) (omega (arith, sized, within, whole)) reads in
          late p i bytes (k.later ++ entry.Record k.pass s k.size k.valid k.how ∷ []) k.before k.size k.valid (k.splits ∙ again k.later (entry.Record k.pass s k.size k.valid k.how) k.before) rest may (omega (arith, told, below)) above low high crash
        where
          again : (l : List Entry) (e : Entry) (m : List Entry) → l ++ e ∷ m ≡ (l ++ e ∷ []) ++ m
          again [] e m = refl
          again (first ∷ l) e m = ap (λ (r : List Entry). first ∷ r) (again l e m)

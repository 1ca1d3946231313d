-- The file after a stop and a restart: each byte of it is that of the opening file with the kept updates applied.
use Rattle.std.specs.Prelude.{◌≡◌, ℕ, zero, suc, ◌+◌, ◌-◌, ◌*◌, ◌/◌, ◌%◌, ◌<◌, ◌≤◌, ◌⊎◌, ◌&&◌, ◌==◌, Bool, true, false, nat_le, nat_lt, List, [], ◌∷◌, ◌++◌, length, Contains, slice_index, refl, if◌then◌else◌}
use Rattle.std.specs.declared.option.Option.{Option}
use Rattle.std.specs.declared.option.Option.TheVariants.{Some, None}
use Rattle.std.proofs.Common.{ap, sym, subst, ◌∙◌, inl, inr, arith}
use Rattle.std.proofs.lemmas.Bool.{and_from, and_parts, eq-eqb, leb-true, leb-false, ltb-true, lt-ltb}
use Rattle.std.proofs.lemmas.List.FromFn.{length-map-range_with_len}
use Rattle.cc_entry.specs.Pages.{has_byte, has_page, whole_range}
use Rattle.cc_entry.specs.Place.{Range}
use Rattle.cc_entry.specs.declared.entry.Entry.{Entry}
use Rattle.cc_entry.specs.declared.entry.Entry.TheVariants as entry
use Rattle.cc_entry.specs.declared.call.Call.TheVariants as call
use Rattle.cc_entry.specs.declared.query.Query.TheVariants as query
use Rattle.cc_entry.specs.declared.reply.Outcome.TheVariants as outcome
use Rattle.cc_log.specs.Turn.{appended}
use Rattle.cc_laws.proofs.ByteSteps.{byte_of-above, byte_of-below}
use Rattle.cc_laws.proofs.CoveredBytes.{has_page-byte}
use Rattle.cc_laws.proofs.DiskBytes.{page_bytes-at}
use Rattle.cc_laws.proofs.SoundFacts.{valid_of-good}
use Rattle.cc_format.specs.declared.log.OldestRow.{OldestRow}
use Rattle.cc_model.specs.Bytes.{byte_of, page_bytes, page_size}
use Rattle.cc_model.specs.Good.{IsGoodSoFar}
use Rattle.cc_model.specs.History.{Effect, history}
use Rattle.cc_model.specs.Images.{crash_pages}
use Rattle.cc_model.specs.Logs.{flushed_to}
use Rattle.cc_model.specs.Objects.{had_map}
use Rattle.cc_model.specs.Records.{first_valid, is_settled}
use Rattle.cc_model.specs.Settings.{log_of}
use Rattle.cc_model.specs.Setup.{Setup}
use Rattle.cc_model.specs.Stamps.{dirty_table}
use Rattle.cc_model.specs.Touches.{size_of, touches, valid_of}
use Rattle.cc_traits.specs.Log.{LogEntry}
use Rattle.cc_redo.specs.Changes.{byte_after, bytes_after, page_after}
use Rattle.cc_redo.specs.Heard.{Change, change_said, end_of_change, is_given, readings, redone_of}
use Rattle.cc_redo.specs.Reading.{said_by}
use Rattle.cc_redo.specs.declared.record.LogRecord.{LogRecord}
use Rattle.cc_redo.specs.declared.record.LogRecord.TheVariants.{Update}
use Rattle.cc_redo.specs.declared.redo.Redo.{Redo}
use Rattle.cc_restart_laws.proofs.Contents.{IsCovered, IsDecided, decided, first-least, first-more, had-more, never-valid, size-more, valid-covered, written-valid}
use Rattle.cc_restart_laws.proofs.Entries.{good-tail, next-lsn, updated-head, updated-rest, updated-tail}
use Rattle.cc_restart_laws.proofs.Fronts.{CrashLeaves, IsLeft}
use Rattle.cc_restart_laws.proofs.Listed.{IsAppendAt, among-map, append-at, has-row, held-had, leaves-behind, was-stamped, written-change, written-log}
use Rattle.cc_restart_laws.proofs.Logs.{durable-kept, kept-appended, lower-kept, said-update, update-said}
use Rattle.cc_restart_laws.proofs.Orders.{IsChange, IsSaid, change-more, change-said}
use Rattle.cc_restart_laws.proofs.Records.{IsAppended, appended-before, appended-floor, appended-once, good-rest', log-stays, may-append, range_of}
use Rattle.cc_restart_laws.proofs.Redoing.{EndsBehind, IsAmong, IsFromCheckpoint, IsGivenBy, IsUngiven, contains-any, covers, oldest-least, oldest-row, own_byte}
use Rattle.cc_restart_laws.proofs.Stamped.{has_stamp}
use Rattle.cc_restart_laws.proofs.Walks.{Behind, Front, IsBegunFront, IsFrontOf, front-rest, front-tail, traced}
use Rattle.cc_restart_laws.specs.Stops.{IsGivenAs, LogKeeps}
use Rattle.cc_restart_laws.specs.Updates.{IsCheckpoint, IsUpdated, MayAppend, MayLogRecord, Updating, WasStamped, row_told}

-- ---- bytes of a page

pub page-byte : (changes : List Change) (page from k : ℕ) (bytes : List ℕ) → k < length bytes → slice_index (bytes_after changes page from bytes) k ≡ byte_after changes page (from + k) (slice_index bytes k)
unfolding bytes_after
page-byte changes page from k [] below = absurd (omega (arith, below))
page-byte changes page from zero (byte ∷ bytes) below = ap (λ (n : ℕ). byte_after changes page n byte) (none from)
  where
    none : (n : ℕ) → n ≡ n + 0
    none n = omega arith
page-byte changes page from (suc k) (byte ∷ bytes) below =
    page-byte changes page (from + 1) k bytes (omega (arith, below)) ∙ ap (λ (n : ℕ). byte_after changes page n (slice_index bytes k)) (on from k)
  where
    on : (n m : ℕ) → n + 1 + m ≡ n + suc m
    on n m = omega arith

length-page : (pages : ℕ → List ℕ) (h : List Effect) (p : ℕ) → length (page_bytes pages h p) ≡ 4096
unfolding page_bytes page_size
length-page pages h p = length-map-range_with_len (byte_of pages h) (4096 * p) 4096

place-is : (i : ℕ) → 4096 * (i / 4096) + i % 4096 ≡ i
place-is i = omega arith

covers-byte : (at : ℕ) (bytes : List ℕ) (i : ℕ) → has_byte (whole_range at (length bytes)) i ≡ true → covers (record { at = at; bytes = bytes }) (i / 4096) (i % 4096) ≡ true
covers-byte at bytes i has =
    and_from (nat_lt (i % 4096) 4096) _ (lt-ltb (i % 4096) 4096 (omega arith))
    (ap (λ (n : ℕ). nat_le at n && nat_lt n (at + length bytes)) (place-is i) ∙ has)

byte-covers : (at : ℕ) (bytes : List ℕ) (i : ℕ) → covers (record { at = at; bytes = bytes }) (i / 4096) (i % 4096) ≡ true → has_byte (whole_range at (length bytes)) i ≡ true
byte-covers at bytes i is =
    sym (ap (λ (n : ℕ). nat_le at n && nat_lt n (at + length bytes)) (place-is i)) ∙ (and_parts (nat_lt (i % 4096) 4096) _ is).1

byte-below : (r : Range) (i : ℕ) → has_byte r i ≡ true → i < r.to
byte-below r i has = ltb-true i r.to (and_parts (nat_le r.from i) (nat_lt i r.to) has).1

pub covered-below : (change : Change) (i : ℕ) → covers change (i / 4096) (i % 4096) ≡ true → i < end_of_change change
covered-below change i is = byte-below (whole_range change.at (length change.bytes)) i (byte-covers change.at change.bytes i is)

-- two tests that guard two bytes
pub guarded : (a b : Bool) (x y : ℕ) → (a ≡ true → b ≡ true → x ≡ y) → (a ≡ true → b ≡ false → x ≡ 0) → (a ≡ false → b ≡ true → ⊥) → (if a then x else 0) ≡ (if b then y else 0)
guarded true true x y both left right = both refl refl
guarded true false x y both left right = left refl refl
guarded false true x y both left right = absurd (right refl refl)
guarded false false x y both left right = refl

pub chosen : (b : Bool) (x y : ℕ) → b ≡ true → (if b then x else y) ≡ x
chosen true x y is = refl
chosen false x y is = absurd (cc)

module _ (u : Setup) (whole : List Entry) (s log first durable : ℕ) (pages : ℕ → List ℕ) (below : s < 16) (good : IsGoodSoFar u whole) (updated : IsUpdated s log whole) (long : (p : ℕ) → length (pages p) ≡ 4096)
    (streams : List Redo) (redo : Redo) (handed : Contains streams redo) (given : IsGivenAs s first whole redo) (kept : List LogEntry) (flushed : flushed_to whole log ≤ durable) (keeps : LogKeeps durable (appended whole log) kept)
    (settled-left : (p : ℕ) → is_settled (history whole s) p ≡ true → CrashLeaves ⊥ (Front u s log p whole) pages s p (history whole s))
    (from : ℕ) (check-of : (x : LogEntry) → IsAmong kept x → x.lsn < from → IsFromCheckpoint streams kept from) (i : ℕ) where
  -- ---- a change of which the record is durable is among those kept

  ends-within : (it : Updating) → IsChange s log it whole → it.at + length it.bytes ≤ redo.size
  ends-within it is = go (had_map (history whole s)) refl
    where
      go : (b : Bool) → had_map (history whole s) ≡ b → it.at + length it.bytes ≤ redo.size
      go true had =
          let ends = written-valid u s log it whole good updated is in
          let valid = valid_of-good u whole s good in
          let size = given.size had in
          omega (arith, ends, valid, size)
      go false never = let ends = written-valid u s log it whole good updated is in let none = never-valid u s log whole good never in omega (arith, ends, none)

  record IsReadAs (it : Updating) : Type 0 where
    spelled : List ℕ
    among : IsAmong kept (record { lsn = it.lsn; bytes = spelled })
    said : change_said redo (said_by spelled) ≡ Some (record { at = it.at; bytes = it.bytes })

  read-as : (it : Updating) → IsChange s log it whole → (k : IsSaid s log it whole) → IsAmong kept (record { lsn = it.lsn; bytes = k.spelled }) → IsReadAs it
  read-as it is k among = record {
    spelled = k.spelled;
    among = among;
    said =
        ap (change_said redo) k.said
        ∙ (ap (λ (n : ℕ). change_said redo (Some (Update n it.at it.bytes))) (sym given.stream) ∙ update-said redo it.at it.bytes (ends-within it is));
  }

  durable-read : (it : Updating) → IsChange s log it whole → it.lsn ≤ flushed_to whole log → IsReadAs it
  durable-read it is least =
      let k = change-said s log it whole is in
      read-as it is k (durable-kept u log durable whole good kept keeps it.lsn k.spelled k.appended (omega (arith, least, flushed)))

  lower-read : (it : Updating) (x : LogEntry) → IsChange s log it whole → IsAmong kept x → it.lsn ≤ x.lsn → IsReadAs it
  lower-read it x is among least =
      let k = change-said s log it whole is in
      read-as it is k (lower-kept u log durable whole good kept keeps x it.lsn k.spelled among k.appended least)

  in-whole : (it : Updating) (front : List Entry) → IsFrontOf whole front → IsChange s log it front → IsChange s log it whole
  in-whole it front (later, grew) is = subst (λ (l : List Entry). IsChange s log it l) (sym grew) (change-more s log it later front is)

  first-at : (front : List Entry) → IsFrontOf whole front → had_map (history front s) ≡ true → first_valid (history front s) ≡ first
  first-at front (later, grew) had =
      let all : first_valid (history whole s) ≡ first_valid (history front s) = ap (λ (l : List Entry). first_valid (history l s)) grew ∙ first-more u s log later front had in
      let had_all : had_map (history whole s) ≡ true = ap (λ (l : List Entry). had_map (history l s)) grew ∙ had-more u s log later front had in
      sym all ∙ given.opened had_all

  size-at : (front : List Entry) → IsFrontOf whole front → had_map (history front s) ≡ true → size_of (history front s) ≡ size_of (history whole s)
  size-at front (later, grew) had =
      sym (ap (λ (l : List Entry). size_of (history l s)) grew ∙ size-more u s log later front (subst (λ (l : List Entry). IsGoodSoFar u l) grew good) (subst (λ (l : List Entry). IsUpdated s log l) grew updated) had)

  abbrev p : ℕ
  p = i / 4096

  abbrev place : ℕ
  place = i % 4096

  page-in : (it : Updating) → has_byte (range_of it) i ≡ true → has_page (range_of it) (i / 4096) ≡ true
  page-in it has = has_page-byte (range_of it) (i / 4096) i (omega arith) (omega arith) has

  at-place : (h : List Effect) → slice_index (page_bytes pages h (i / 4096)) (i % 4096) ≡ byte_of pages h i
  at-place h = ap (λ (n : ℕ). slice_index (page_bytes pages h (i / 4096)) n) (same i) ∙ page_bytes-at pages h (i / 4096) i (omega arith) (omega arith)
    where
      same : (n : ℕ) → n % 4096 ≡ n - 4096 * (n / 4096)
      same n = omega arith

  -- a page that is written has its byte
  written-byte : (bytes : List ℕ) (front : List Entry) → bytes ≡ page_bytes pages (history front s) (i / 4096) → slice_index bytes (i % 4096) ≡ byte_of pages (history front s) i
  written-byte bytes front is = ap (λ (l : List ℕ). slice_index l (i % 4096)) is ∙ at-place (history front s)

  left-long : {O : Type 0} {B : List Entry → Type 0} (bytes : List ℕ) → IsLeft O B pages s (i / 4096) bytes → length bytes ≡ 4096
  left-long bytes (inl opening) = ap length opening.1 ∙ long (i / 4096)
  left-long bytes (inr k) = ap length k.is ∙ length-page pages (history k.front s) (i / 4096)

  -- ---- where no kept update gives the byte

  module _ (none : IsUngiven redo from (i / 4096) (i % 4096) kept) where
    never-given : (it : Updating) → IsReadAs it → has_byte (range_of it) i ≡ true → ⊥
    never-given it k has = none.none (record { lsn = it.lsn; bytes = k.spelled }) (record { at = it.at; bytes = it.bytes }) k.among (k.said, covers-byte it.at it.bytes i has)

    -- at a front that is begun, none covers it
    uncovered : (front : List Entry) → IsBegunFront u s log (i / 4096) whole front → (it : Updating) → IsChange s log it front → has_byte (range_of it) i ≡ true → ⊥
    uncovered front k it is has = never-given it (durable-read it (in-whole it front k.within is) (k.flushed it is (page-in it has))) has

    -- it is the opening byte as far as that is valid, and zero behind
    begun-byte : (front : List Entry) → IsBegunFront u s log (i / 4096) whole front → i < first → byte_of pages (history front s) i ≡ slice_index (pages (i / 4096)) (i % 4096)
    begun-byte front k lt = go (decided u pages s log i front k.good k.updated)
      where
        valid : i < valid_of (history front s)
        valid =
            let least = first-least u s log front k.good k.updated k.had in
            let is = first-at front k.within k.had in
            omega (arith, least, is, lt)

        go : IsDecided pages s log front i → byte_of pages (history front s) i ≡ slice_index (pages (i / 4096)) (i % 4096)
        go (inl opening) = byte_of-below pages (history front s) i (lt-ltb i (valid_of (history front s)) valid) ∙ opening.is
        go (inr by) = absurd (uncovered front k by.it by.change by.covers)

    begun-zero : (front : List Entry) → IsBegunFront u s log (i / 4096) whole front → first ≤ i → byte_of pages (history front s) i ≡ 0
    begun-zero front k above = go (nat_lt i (valid_of (history front s))) refl
      where
        covered : (i < first_valid (history front s)) ⊎ IsCovered u s log front i → ⊥
        covered (inl lt) = let is = first-at front k.within k.had in omega (arith, is, lt, above)
        covered (inr c) = uncovered front k c.it c.change c.covers

        go : (b : Bool) → nat_lt i (valid_of (history front s)) ≡ b → byte_of pages (history front s) i ≡ 0
        go true is = absurd (covered (valid-covered u s log front i k.good k.updated (ltb-true i (valid_of (history front s)) is)))
        go false is = byte_of-above pages (history front s) i is

    -- no kept update ends behind it, past the opening file's valid data length
    pub none-ends : first ≤ i → EndsBehind redo kept i → ⊥
    none-ends above k = go (nat_le k.change.at i) refl
      where
        is : IsAppended log k.entry.lsn k.entry.bytes whole
        is = kept-appended u log durable whole good kept keeps k.entry k.among

        at-log : IsAppendAt log k.entry.lsn k.entry.bytes whole
        at-log = append-at log k.entry.lsn k.entry.bytes whole is

        said : said_by k.entry.bytes ≡ Some (Update s k.change.at k.change.bytes)
        said = said-update redo (said_by k.entry.bytes) k.change k.said ∙ ap (λ (n : ℕ). Some (Update n k.change.at k.change.bytes)) given.stream

        good-at : IsGoodSoFar u (entry.Append at-log.pass log k.entry.lsn k.entry.bytes ∷ at-log.front)
        good-at = good-rest' u at-log.later (entry.Append at-log.pass log k.entry.lsn k.entry.bytes ∷ at-log.front) (subst (λ (l : List Entry). IsGoodSoFar u l) at-log.splits good)

        updated-at : IsUpdated s log (entry.Append at-log.pass log k.entry.lsn k.entry.bytes ∷ at-log.front)
        updated-at = updated-rest s log at-log.later (entry.Append at-log.pass log k.entry.lsn k.entry.bytes ∷ at-log.front) (subst (λ (l : List Entry). IsUpdated s log l) at-log.splits updated)

        may : MayAppend s log at-log.pass k.change.at k.change.bytes at-log.front
        may = may-append s log at-log.pass k.entry.lsn k.change.at k.change.bytes k.entry.bytes at-log.front updated-at said

        good-front : IsGoodSoFar u at-log.front
        good-front = good-tail u (entry.Append at-log.pass log k.entry.lsn k.entry.bytes) at-log.front good-at

        updated-front : IsUpdated s log at-log.front
        updated-front = updated-tail s log (entry.Append at-log.pass log k.entry.lsn k.entry.bytes) at-log.front updated-at

        within : IsFrontOf whole at-log.front
        within = front-of at-log.later (entry.Append at-log.pass log k.entry.lsn k.entry.bytes) at-log.front at-log.splits
          where
            front-of : (later : List Entry) (e : Entry) (front : List Entry) → whole ≡ later ++ e ∷ front → IsFrontOf whole front
            front-of later e front splits = (later ++ e ∷ [], splits ∙ on later)
              where
                on : (l : List Entry) → l ++ e ∷ front ≡ (l ++ e ∷ []) ++ front
                on [] = refl
                on (x ∷ l) = ap (λ (r : List Entry). x ∷ r) (on l)

        older : (i < first_valid (history at-log.front s)) ⊎ IsCovered u s log at-log.front i → i < valid_of (history at-log.front s) → ⊥
        older (inl lt) valid = go (had_map (history at-log.front s)) refl
          where
            go : (b : Bool) → had_map (history at-log.front s) ≡ b → ⊥
            go true had = let same = first-at at-log.front within had in omega (arith, same, lt, above)
            go false never = let zero = never-valid u s log at-log.front good-front never in omega (arith, zero, valid)
        older (inr c) valid =
            let said-c = change-said s log c.it at-log.front c.change in
            let least = appended-floor log c.it.lsn said-c.spelled at-log.front said-c.appended in
            let next = (next-lsn u at-log.front at-log.pass log k.entry.lsn k.entry.bytes good-at).next in
            never-given c.it (lower-read c.it k.entry (in-whole c.it at-log.front within c.change) k.among (omega (arith, least, next))) c.covers

        go : (b : Bool) → nat_le k.change.at i ≡ b → ⊥
        go true le =
            none.none k.entry k.change k.among
            (k.said, covers-byte k.change.at k.change.bytes i (and_from (nat_le k.change.at i) (nat_lt i (end_of_change k.change)) le (lt-ltb i (end_of_change k.change) k.below)))
        go false le =
            let valid : i < valid_of (history at-log.front s) = before k.change.at i (valid_of (history at-log.front s)) le may.within in
            older (valid-covered u s log at-log.front i good-front updated-front valid) valid
          where
            before : (a n v : ℕ) → nat_le a n ≡ false → a ≤ v → n < v
            before a n v le within = grind arith

  -- ---- where one does, and it is older than what is redone

  module _ (last : IsGivenBy redo from (i / 4096) (i % 4096) kept) (early : last.entry.lsn < from) (in_size : 4096 * (i / 4096) < size_of (history whole s)) where
    is-appended-last : IsAppended log last.entry.lsn last.entry.bytes whole
    is-appended-last = kept-appended u log durable whole good kept keeps last.entry last.among

    said-last : said_by last.entry.bytes ≡ Some (Update s last.change.at last.change.bytes)
    said-last = said-update redo (said_by last.entry.bytes) last.change last.gives.0 ∙ ap (λ (n : ℕ). Some (Update n last.change.at last.change.bytes)) given.stream

    has-last : has_byte (whole_range last.change.at (length last.change.bytes)) i ≡ true
    has-last = byte-covers last.change.at last.change.bytes i last.gives.1

    -- an update with that LSN is that one
    same-said : (it : Updating) → IsSaid s log it whole → it.lsn ≡ last.entry.lsn → Some (Update s it.at it.bytes) ≡ Some (Update s last.change.at last.change.bytes)
    same-said it k same =
        let spelled : k.spelled ≡ last.entry.bytes =
        appended-once u log last.entry.lsn k.spelled last.entry.bytes whole good (subst (λ (n : ℕ). IsAppended log n k.spelled whole) same k.appended) is-appended-last in
        sym k.said ∙ (ap said_by spelled ∙ said-last)

    at-of : (a b : ℕ) (x y : List ℕ) → Some (Update s a x) ≡ Some (Update s b y) → a ≡ b
    at-of a b x y is = cc

    bytes-of : (a b : ℕ) (x y : List ℕ) → Some (Update s a x) ≡ Some (Update s b y) → x ≡ y
    bytes-of a b x y is = cc

    has-same : (it : Updating) → IsSaid s log it whole → it.lsn ≡ last.entry.lsn → has_byte (range_of it) i ≡ true
    has-same it k same =
        let is = same-said it k same in
        ap (λ (n : ℕ). has_byte (whole_range n (length it.bytes)) i) (at-of it.at last.change.at it.bytes last.change.bytes is)
        ∙ (ap (λ (l : List ℕ). has_byte (whole_range last.change.at (length l)) i) (bytes-of it.at last.change.at it.bytes last.change.bytes is) ∙ has-last)

    own-same : (it : Updating) → IsSaid s log it whole → it.lsn ≡ last.entry.lsn → slice_index it.bytes (i - it.at) ≡ own_byte last.change (i / 4096) (i % 4096)
    own-same it k same =
        let is = same-said it k same in
        ap (λ (l : List ℕ). slice_index l (i - it.at)) (bytes-of it.at last.change.at it.bytes last.change.bytes is)
        ∙ (ap (λ (n : ℕ). slice_index last.change.bytes (i - n)) (at-of it.at last.change.at it.bytes last.change.bytes is)
        ∙ ap (λ (n : ℕ). slice_index last.change.bytes (n - last.change.at)) (sym (place-is i)))

    -- a front behind its write has its byte
    behind-byte : (front : List Entry) → IsBegunFront u s log (i / 4096) whole front → (it : Updating) → it.lsn ≡ last.entry.lsn → IsChange s log it front → byte_of pages (history front s) i ≡ own_byte last.change (i / 4096) (i % 4096)
    behind-byte front k it same is = go (decided u pages s log i front k.good k.updated)
      where
        said-it : IsSaid s log it whole
        said-it = change-said s log it whole (in-whole it front k.within is)

        has : has_byte (range_of it) i ≡ true
        has = has-same it said-it same

        valid : i < valid_of (history front s)
        valid = let ends = written-valid u s log it front k.good k.updated is in let lt = byte-below (range_of it) i has in omega (arith, ends, lt)

        go : IsDecided pages s log front i → byte_of pages (history front s) i ≡ own_byte last.change (i / 4096) (i % 4096)
        go (inl opening) = absurd (opening.none it is has)
        go (inr by) =
            let in_all = in-whole by.it front k.within by.change in
            let read = durable-read by.it in_all (k.flushed by.it by.change (page-in by.it by.covers)) in
            let least : by.it.lsn ≤ last.entry.lsn = last.last (record { lsn = by.it.lsn; bytes = read.spelled }) (record { at = by.it.at; bytes = by.it.bytes }) read.among (read.said, covers-byte by.it.at by.it.bytes i by.covers) in
            let most : it.lsn ≤ by.it.lsn = by.last it is has in
            let lsn : by.it.lsn ≡ last.entry.lsn = omega (arith, least, most, same) in
            byte_of-below pages (history front s) i (lt-ltb i (valid_of (history front s)) valid) ∙ (by.is ∙ own-same by.it (change-said s log by.it whole in_all) lsn)

    -- what a crash leaves of the page has the byte, behind the checkpoint from which is redone
    module _ (rows : List OldestRow) (before past : List Entry) (all : whole ≡ before ++ past) (k : IsCheckpoint s log rows past) (earlier : IsAppended log last.entry.lsn last.entry.bytes past)
        (oldest : (row : OldestRow) → IsAmong rows row → is_given streams row.stream ≡ true → from ≤ row.oldest) where
      abbrev listing : Entry
      listing = entry.Call k.pass k.nth None (call.Query (query.DirtyPages log)) (outcome.Done k.reply)

      good_past : IsGoodSoFar u past
      good_past = good-rest' u before past (subst (λ (l : List Entry). IsGoodSoFar u l) all good)

      updated_past : IsUpdated s log past
      updated_past = updated-rest s log before past (subst (λ (l : List Entry). IsUpdated s log l) all updated)

      within_listed : IsFrontOf whole k.listed
      within_listed = front-tail whole listing k.listed (front-rest whole k.later (listing ∷ k.listed) (subst (λ (l : List Entry). IsFrontOf whole l) k.splits (before, all)))

      updated_listed : IsUpdated s log k.listed
      updated_listed = updated-tail s log listing k.listed (updated-rest s log k.later (listing ∷ k.listed) (subst (λ (l : List Entry). IsUpdated s log l) k.splits updated_past))

      stamped : WasStamped s log last.entry.lsn k.listed
      stamped = was-stamped s log last.entry.lsn last.change.at last.change.bytes last.entry.bytes rows past k earlier said-last

      within_base : IsFrontOf whole (stamped.stamp ∷ stamped.front)
      within_base = front-rest whole stamped.later (stamped.stamp ∷ stamped.front) (subst (λ (l : List Entry). IsFrontOf whole l) stamped.splits within_listed)

      updated_base : IsUpdated s log (stamped.stamp ∷ stamped.front)
      updated_base = updated-rest s log stamped.later (stamped.stamp ∷ stamped.front) (subst (λ (l : List Entry). IsUpdated s log l) stamped.splits updated_listed)

      changed : IsChange s log stamped.it stamped.front
      changed = written-change u s log (i / 4096) whole pages below stamped.it stamped.front stamped.written

      changed_all : IsChange s log stamped.it whole
      changed_all = in-whole stamped.it stamped.front (front-tail whole stamped.stamp stamped.front within_base) changed

      in_range : has_page (range_of stamped.it) (i / 4096) ≡ true
      in_range = page-in stamped.it (has-same stamped.it (change-said s log stamped.it whole changed_all) stamped.its_lsn)

      its_log : log_of (history k.listed s) ≡ Some log
      its_log =
          ap (λ (l : List Entry). log_of (history l s)) stamped.splits
          ∙ log-stays s log stamped.later (stamped.stamp ∷ stamped.front) (subst (λ (l : List Entry). IsUpdated s log l) stamped.splits updated_listed)
          (log-stays s log (stamped.stamp ∷ []) stamped.front updated_base
          (written-log u s log (i / 4096) whole pages below stamped.it stamped.front (updated-tail s log stamped.stamp stamped.front updated_base) stamped.written))

      is-mine : is_given streams s ≡ true
      is-mine = contains-any (λ (r : Redo). r.stream == s) streams redo handed (eq-eqb redo.stream s given.stream)

      gone : has_stamp last.entry.lsn (touches false (history k.listed s) (i / 4096)) ≡ true → ⊥
      gone left =
          let row = has-row s log last.entry.lsn (i / 4096) k.listed below its_log left in
          let here : IsAmong rows (row_told row.row) = subst (λ (l : List OldestRow). IsAmong l (row_told row.row)) (sym k.told) (among-map row_told (dirty_table k.listed log) row.row row.among) in
          let mine : is_given streams row.row.page.stream ≡ true = ap (is_given streams) row.stream ∙ is-mine in
          let least : from ≤ row.row.oldest = oldest (row_told row.row) here mine in
          let most = row.oldest in
          omega (arith, least, most, early)

      leaves : CrashLeaves ⊥ (Behind u s log (i / 4096) whole (stamped.stamp ∷ stamped.front)) pages s (i / 4096) (history whole s)
      leaves =
          subst (λ (l : List Entry). CrashLeaves ⊥ (Behind u s log (i / 4096) whole (stamped.stamp ∷ stamped.front)) pages s (i / 4096) (history l s)) (sym all)
          (leaves-behind u s log (i / 4096) whole pages below last.entry.lsn rows before past k stamped (subst (λ (l : List Entry). IsGoodSoFar u l) all good) (subst (λ (l : List Entry). IsUpdated s log l) all updated)
          (subst (λ (l : List Entry). IsFrontOf whole l) all ([], refl)) in_range in_size size-at gone)

      behind : (bytes : List ℕ) → IsLeft ⊥ (Behind u s log (i / 4096) whole (stamped.stamp ∷ stamped.front)) pages s (i / 4096) bytes → slice_index bytes (i % 4096) ≡ own_byte last.change (i / 4096) (i % 4096)
      behind bytes (inl opening) = absurd opening.0
      behind bytes (inr w) =
          let is : IsChange s log stamped.it w.front =
          subst (λ (l : List Entry). IsChange s log stamped.it l) (sym w.said.grew) (change-more s log stamped.it w.said.later (stamped.stamp ∷ stamped.front) (inr changed)) in
          written-byte bytes w.front w.is ∙ behind-byte w.front w.said.is stamped.it stamped.its_lsn is

      crash-byte : (bytes : List ℕ) → Contains (crash_pages pages (history whole s) (i / 4096)) bytes → slice_index bytes (i % 4096) ≡ own_byte last.change (i / 4096) (i % 4096)
      crash-byte bytes contains = behind bytes (leaves bytes contains)

    -- so it is of that checkpoint, wherever it stands
    module _ (check : IsFromCheckpoint streams kept from) where
      at-log : IsAppendAt log check.entry.lsn check.entry.bytes whole
      at-log = append-at log check.entry.lsn check.entry.bytes whole (kept-appended u log durable whole good kept keeps check.entry check.among)

      abbrev appending : Entry
      appending = entry.Append at-log.pass log check.entry.lsn check.entry.bytes

      good_at : IsGoodSoFar u (appending ∷ at-log.front)
      good_at = good-rest' u at-log.later (appending ∷ at-log.front) (subst (λ (l : List Entry). IsGoodSoFar u l) at-log.splits good)

      updated_at : IsUpdated s log (appending ∷ at-log.front)
      updated_at = updated-rest s log at-log.later (appending ∷ at-log.front) (subst (λ (l : List Entry). IsUpdated s log l) at-log.splits updated)

      checkpoint : IsCheckpoint s log check.rows at-log.front
      checkpoint =
          subst (λ (o : Option LogRecord). MayLogRecord s log at-log.pass o at-log.front) check.says
          ((updated-head s log appending at-log.front updated_at).by refl)

      lower : last.entry.lsn < check.entry.lsn
      lower =
          let least = oldest-least streams check.entry.lsn check.rows in
          let is = check.is in
          omega (arith, least, is, early)

      lsn-of : (p q n m : ℕ) (b c : List ℕ) → entry.Append p log n b ≡ entry.Append q log m c → n ≡ m
      lsn-of p q n m b c is = cc

      not-here : IsAppended log last.entry.lsn last.entry.bytes (appending ∷ at-log.front) → IsAppended log last.entry.lsn last.entry.bytes at-log.front
      not-here (inl here) =
          let same = lsn-of at-log.pass here.0 check.entry.lsn last.entry.lsn check.entry.bytes last.entry.bytes here.1 in let lt = lower in absurd (omega (arith, same, lt))
      not-here (inr before) = before

      appended-earlier : IsAppended log last.entry.lsn last.entry.bytes at-log.front
      appended-earlier =
          let reached = appended-floor log check.entry.lsn check.entry.bytes (appending ∷ at-log.front) (inl (at-log.pass, refl)) in
          let lt = lower in
          not-here
          (appended-before u log last.entry.lsn last.entry.bytes at-log.later (appending ∷ at-log.front)
          (subst (λ (l : List Entry). IsGoodSoFar u l) at-log.splits good) (subst (λ (l : List Entry). IsAppended log last.entry.lsn last.entry.bytes l) at-log.splits is-appended-last)
          (omega (arith, lt, reached)))

      all-of : (later : List Entry) (e : Entry) (front : List Entry) → later ++ e ∷ front ≡ (later ++ e ∷ []) ++ front
      all-of [] e front = refl
      all-of (x ∷ later) e front = ap (λ (l : List Entry). x ∷ l) (all-of later e front)

      checked-byte : (bytes : List ℕ) → Contains (crash_pages pages (history whole s) (i / 4096)) bytes → slice_index bytes (i % 4096) ≡ own_byte last.change (i / 4096) (i % 4096)
      checked-byte =
          crash-byte check.rows (at-log.later ++ appending ∷ []) at-log.front (at-log.splits ∙ all-of at-log.later appending at-log.front) checkpoint appended-earlier
          (λ row here mine. let least = oldest-row streams check.entry.lsn check.rows row here mine in let is = check.is in omega (arith, least, is))

    early-byte : (bytes : List ℕ) → Contains (crash_pages pages (history whole s) (i / 4096)) bytes → slice_index bytes (i % 4096) ≡ own_byte last.change (i / 4096) (i % 4096)
    early-byte = checked-byte (check-of last.entry last.among early)

  -- ---- the file

  module _ (disk : ℕ → List ℕ) (left : 4096 * (i / 4096) < redo.size → Contains (crash_pages pages (history whole s) (i / 4096)) (disk (i / 4096))) where
    all-traced : CrashLeaves (Unit {0}) (Front u s log (i / 4096) whole) pages s (i / 4096) (history whole s)
    all-traced = (traced u s log (i / 4096) whole pages whole good updated ([], refl)).crash

    module _ (inside : i < redo.size) where
      contains : Contains (crash_pages pages (history whole s) (i / 4096)) (disk (i / 4096))
      contains = left (omega arith)

      disk-long : length (disk (i / 4096)) ≡ 4096
      disk-long = left-long (disk (i / 4096)) (all-traced (disk (i / 4096)) contains)

      pub made-byte : (changes : List Change) → slice_index (page_after changes (i / 4096) (disk (i / 4096))) (i % 4096) ≡ byte_after changes (i / 4096) (i % 4096) (slice_index (disk (i / 4096)) (i % 4096))
      made-byte changes =
          page-byte changes (i / 4096) 0 (i % 4096) (disk (i / 4096)) (let long_disk = disk-long in omega (arith, long_disk))
          ∙ ap (λ (n : ℕ). byte_after changes (i / 4096) n (slice_index (disk (i / 4096)) (i % 4096))) (none (i % 4096))
        where
          none : (n : ℕ) → 0 + n ≡ n
          none n = omega arith

      -- no kept update gives the byte
      pub opening-byte : IsUngiven redo from (i / 4096) (i % 4096) kept → i < first → slice_index (disk (i / 4096)) (i % 4096) ≡ slice_index (pages (i / 4096)) (i % 4096)
      opening-byte none lt = go (all-traced (disk (i / 4096)) contains)
        where
          go : IsLeft (Unit {0}) (Front u s log (i / 4096) whole) pages s (i / 4096) (disk (i / 4096)) → slice_index (disk (i / 4096)) (i % 4096) ≡ slice_index (pages (i / 4096)) (i % 4096)
          go (inl opening) = ap (λ (l : List ℕ). slice_index l (i % 4096)) opening.1
          go (inr k) = written-byte (disk (i / 4096)) k.front k.is ∙ begun-byte none k.front k.said lt

      pub zero-byte : IsUngiven redo from (i / 4096) (i % 4096) kept → first ≤ i → is_settled (history whole s) (i / 4096) ≡ true → slice_index (disk (i / 4096)) (i % 4096) ≡ 0
      zero-byte none above settled = go (settled-left (i / 4096) settled (disk (i / 4096)) contains)
        where
          go : IsLeft ⊥ (Front u s log (i / 4096) whole) pages s (i / 4096) (disk (i / 4096)) → slice_index (disk (i / 4096)) (i % 4096) ≡ 0
          go (inl opening) = absurd opening.0
          go (inr k) = written-byte (disk (i / 4096)) k.front k.is ∙ begun-zero none k.front k.said above

      -- a kept update gives the byte, and stands in the file
      last-had : IsGivenBy redo from (i / 4096) (i % 4096) kept → had_map (history whole s) ≡ true
      last-had last =
          let is = kept-appended u log durable whole good kept keeps last.entry last.among in
          let at = append-at log last.entry.lsn last.entry.bytes whole is in
          let appending : Entry = entry.Append at.pass log last.entry.lsn last.entry.bytes in
          let good_at : IsGoodSoFar u (appending ∷ at.front) = good-rest' u at.later (appending ∷ at.front) (subst (λ (l : List Entry). IsGoodSoFar u l) at.splits good) in
          let updated_at : IsUpdated s log (appending ∷ at.front) = updated-rest s log at.later (appending ∷ at.front) (subst (λ (l : List Entry). IsUpdated s log l) at.splits updated) in
          let said : said_by last.entry.bytes ≡ Some (Update s last.change.at last.change.bytes) =
          said-update redo (said_by last.entry.bytes) last.change last.gives.0 ∙ ap (λ (n : ℕ). Some (Update n last.change.at last.change.bytes)) given.stream in
          let may = may-append s log at.pass last.entry.lsn last.change.at last.change.bytes last.entry.bytes at.front updated_at said in
          let had_front : had_map (history at.front s) ≡ true = held-had u at.front s may.hold may.pinned.it (good-tail u appending at.front good_at) may.pinned.found in
          ap (λ (l : List Entry). had_map (history l s)) at.splits ∙ had-more u s log at.later (appending ∷ at.front) (had-more u s log (appending ∷ []) at.front had_front)

      pub last-ends : (last : IsGivenBy redo from (i / 4096) (i % 4096) kept) → i < end_of_change last.change
      last-ends last = byte-below (whole_range last.change.at (length last.change.bytes)) i (byte-covers last.change.at last.change.bytes i last.gives.1)

      pub last-byte : (last : IsGivenBy redo from (i / 4096) (i % 4096) kept) (byte : ℕ) → (last.entry.lsn < from → byte ≡ slice_index (disk (i / 4096)) (i % 4096)) →
          byte_after (redone_of redo from (readings kept)) (i / 4096) (i % 4096) byte ≡ own_byte last.change (i / 4096) (i % 4096)
      last-byte last byte is = go (nat_le from last.entry.lsn) refl
        where
          in_size : 4096 * (i / 4096) < size_of (history whole s)
          in_size = let size = given.size (last-had last) in omega (arith, size, inside)

          go : (b : Bool) → nat_le from last.entry.lsn ≡ b → byte_after (redone_of redo from (readings kept)) (i / 4096) (i % 4096) byte ≡ own_byte last.change (i / 4096) (i % 4096)
          go true late = last.late (leb-true from last.entry.lsn late) byte
          go false early =
              let lt = leb-false from last.entry.lsn early in
              last.early lt byte ∙ (is lt ∙ early-byte last lt in_size (disk (i / 4096)) contains)

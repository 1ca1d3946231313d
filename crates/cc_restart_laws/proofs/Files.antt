-- The file after a stop and a restart, of a log that had entries before the run.
use Rattle.std.specs.Prelude.{◌≡◌, ℕ, ◌*◌, ◌/◌, ◌%◌, ◌<◌, ◌≤◌, ◌⊎◌, Bool, true, false, nat_le, nat_lt, max, List, [], ◌∷◌, ◌++◌, length, Contains, slice_index, refl, if◌then◌else◌}
use Rattle.std.specs.List.{cons_option}
use Rattle.std.specs.declared.option.Option.{Option}
use Rattle.std.specs.declared.option.Option.TheVariants.{Some, None}
use Rattle.std.proofs.Common.{ap, sym, subst, ◌∙◌, inl, inr, arith}
use Rattle.std.proofs.lemmas.Bool.{leb-true, leb-false, ltb-true, ltb-false, lt-ltb}
use Rattle.cc_entry.specs.declared.entry.Entry.{Entry}
use Rattle.cc_log.specs.Turn.{appended}
use Rattle.cc_model.specs.Good.{IsGoodSoFar}
use Rattle.cc_model.specs.History.{history}
use Rattle.cc_model.specs.Images.{crash_pages}
use Rattle.cc_model.specs.Logs.{flushed_to}
use Rattle.cc_model.specs.Records.{is_settled}
use Rattle.cc_model.specs.Setup.{Setup}
use Rattle.cc_traits.specs.Log.{LogEntry}
use Rattle.cc_redo.specs.Changes.{byte_after, page_after}
use Rattle.cc_redo.specs.Heard.{Change, change_said, end_of_change, from_of, raised_by_change, reading, readings, redone_by, redone_of, valid_behind}
use Rattle.cc_redo.specs.Reading.{said_by}
use Rattle.cc_redo.specs.declared.redo.Redo.{Redo}
use Rattle.cc_restart_laws.proofs.Ends.{chosen, covered-below, guarded, last-byte, last-ends, made-byte, none-ends, opening-byte, zero-byte}
use Rattle.cc_restart_laws.proofs.Fronts.{CrashLeaves}
use Rattle.cc_restart_laws.proofs.Logs.{among-cases, among-left, kept-appended, kept-rising, lsn-above, rising-across, rising-first}
use Rattle.cc_restart_laws.proofs.Walks.{Front}
use Rattle.cc_restart_laws.proofs.Redoing.{EndsBehind, IsAmong, IsFromCheckpoint, IsGivenBy, IsUngiven, decided-so, from-cases, oldest-least, valid-cases, valid-ends, valid-least, valid-same, valid-within}
use Rattle.cc_restart_laws.proofs.Settled.{settled-leaves}
use Rattle.cc_restart_laws.specs.Stops.{AreAscending, HadBegun, IsGivenAs, LogKeeps, MakesFile, file_byte, pages_redone, updated_byte, updates_in, valid_after_changes}
use Rattle.cc_restart_laws.specs.Updates.{IsUpdated}

-- ---- entries before others

option-append : {A : Type 0} (o : Option A) (xs ys : List A) → cons_option o (xs ++ ys) ≡ cons_option o xs ++ ys
option-append None xs ys = refl
option-append (Some x) xs ys = refl

redone-append : (redo : Redo) (from : ℕ) (first rest : List LogEntry) → redone_of redo from (readings (first ++ rest)) ≡ redone_of redo from (readings first) ++ redone_of redo from (readings rest)
redone-append redo from [] rest = refl
redone-append redo from (entry ∷ first) rest =
    ap (cons_option (redone_by redo from (reading entry))) (redone-append redo from first rest)
    ∙ option-append (redone_by redo from (reading entry)) (redone_of redo from (readings first)) (redone_of redo from (readings rest))

pub updates-append : (redo : Redo) (first rest : List LogEntry) → updates_in redo (first ++ rest) ≡ updates_in redo first ++ updates_in redo rest
updates-append redo [] rest = refl
updates-append redo (entry ∷ first) rest =
    ap (cons_option (change_said redo (said_by entry.bytes))) (updates-append redo first rest)
    ∙ option-append (change_said redo (said_by entry.bytes)) (updates_in redo first) (updates_in redo rest)

after-append : (xs ys : List Change) (page place byte : ℕ) → byte_after (xs ++ ys) page place byte ≡ byte_after ys page place (byte_after xs page place byte)
after-append [] ys page place byte = refl
after-append (x ∷ xs) ys page place byte = after-append xs ys page place (byte_after (x ∷ []) page place byte)

raised-append : (xs ys : List Change) (valid : ℕ) → valid_after_changes (xs ++ ys) valid ≡ valid_after_changes ys (valid_after_changes xs valid)
raised-append [] ys valid = refl
raised-append (x ∷ xs) ys valid = raised-append xs ys (max valid (end_of_change x))

behind-append : (redo : Redo) (first rest : List LogEntry) (valid : ℕ) → valid_behind (readings (first ++ rest)) redo valid ≡ valid_behind (readings rest) redo (valid_behind (readings first) redo valid)
behind-append redo [] rest valid = refl
behind-append redo (entry ∷ first) rest valid = behind-append redo first rest (raised_by_change valid (change_said redo (said_by entry.bytes)))

-- ---- none of what went before is redone where what is kept is older than that

passed-all : (redo : Redo) (from page place byte : ℕ) (entries : List LogEntry) → ((x : LogEntry) → IsAmong entries x → x.lsn < from) → byte_after (redone_of redo from (readings entries)) page place byte ≡ byte
passed-all redo from page place byte [] early = refl
passed-all redo from page place byte (entry ∷ entries) early =
    ap (λ (l : List Change). byte_after l page place byte) (none (nat_le from entry.lsn) refl) ∙ passed-all redo from page place byte entries (λ x among. early x (inr among))
  where
    none : (b : Bool) → nat_le from entry.lsn ≡ b → redone_of redo from (readings (entry ∷ entries)) ≡ redone_of redo from (readings entries)
    none false is = rw is refl
    none true is = let le = leb-true from entry.lsn is in let lt = early entry (inl refl) in absurd (omega (arith, le, lt))

module _ (u : Setup) (whole : List Entry) (s log first durable : ℕ) (pages : ℕ → List ℕ) (below : s < 16) (good : IsGoodSoFar u whole) (updated : IsUpdated s log whole) (long : (p : ℕ) → length (pages p) ≡ 4096)
    (streams : List Redo) (redo : Redo) (handed : Contains streams redo) (given : IsGivenAs s first whole redo) (kept : List LogEntry) (flushed : flushed_to whole log ≤ durable) (keeps : LogKeeps durable (appended whole log) kept)
    (begun : List LogEntry) (pages0 : ℕ → List ℕ) (first0 : ℕ) (ascending : AreAscending begun) (apart : (x y : LogEntry) → IsAmong begun x → IsAmong kept y → x.lsn < y.lsn)
    (reached : valid_after_changes (updates_in redo begun) first0 ≤ first) (i : ℕ) (opening : i < redo.size → file_byte pages first i ≡ updated_byte pages0 first0 (updates_in redo begun) i)
    (disk : ℕ → List ℕ) (left : 4096 * (i / 4096) < redo.size → Contains (crash_pages pages (history whole s) (i / 4096)) (disk (i / 4096))) where
  abbrev from : ℕ
  from = from_of streams (readings (begun ++ kept))

  abbrev byte : ℕ
  byte = slice_index (disk (i / 4096)) (i % 4096)

  settled-left : (p : ℕ) → is_settled (history whole s) p ≡ true → CrashLeaves ⊥ (Front u s log p whole) pages s p (history whole s)
  settled-left p is = settled-leaves u s log p whole pages good updated is

  check-of : (x : LogEntry) → IsAmong kept x → x.lsn < from → IsFromCheckpoint streams kept from
  check-of x among lt = go (from-cases streams (begun ++ kept) 1)
    where
      in-kept : (k : IsFromCheckpoint streams (begun ++ kept) from) → IsAmong begun k.entry ⊎ IsAmong kept k.entry → IsFromCheckpoint streams kept from
      in-kept k (inl before) =
          let lower = apart k.entry x before among in
          let least = oldest-least streams k.entry.lsn k.rows in
          let is = k.is in
          absurd (omega (arith, lower, least, is, lt))
      in-kept k (inr here) = record { entry = k.entry; rows = k.rows; among = here; says = k.says; is = k.is }

      go : (from_of streams (readings (begun ++ kept)) ≡ 1) ⊎ IsFromCheckpoint streams (begun ++ kept) (from_of streams (readings (begun ++ kept))) → IsFromCheckpoint streams kept from
      go (inl one) = let above = lsn-above u log x.lsn x.bytes whole good (kept-appended u log durable whole good kept keeps x among) in absurd (omega (arith, one, above, lt))
      go (inr k) = in-kept k (among-cases begun kept k.entry k.among)

  -- ---- the valid data lengths

  reached-is : valid_behind (readings begun) redo first0 ≤ first
  reached-is = let is = valid-same redo begun first0 in let le = reached in omega (arith, is, le)

  -- what the opening file has by the entries before it is within the valid data that they made
  begun-ends : EndsBehind redo begun i → i < valid_after_changes (updates_in redo begun) first0
  begun-ends k = let ends = valid-ends redo begun first0 k.entry k.change k.among k.said in let is = valid-same redo begun first0 in let lt = k.below in omega (arith, ends, is, lt)

  begun-valid : valid_behind (readings begun) redo redo.valid ≡ redo.valid
  begun-valid = go (nat_lt redo.valid (valid_behind (readings begun) redo redo.valid)) refl
    where
      none : (redo.valid < redo.valid) ⊎ EndsBehind redo begun redo.valid → ⊥
      none (inl lt) = omega (arith, lt)
      none (inr k) =
          let ends = valid-ends redo begun first0 k.entry k.change k.among k.said in
          let is = reached-is in
          let lt = k.below in
          let least = given.least in
          omega (arith, ends, is, lt, least)

      go : (b : Bool) → nat_lt redo.valid (valid_behind (readings begun) redo redo.valid) ≡ b → valid_behind (readings begun) redo redo.valid ≡ redo.valid
      go true is = absurd (none (valid-cases redo begun redo.valid redo.valid (ltb-true redo.valid (valid_behind (readings begun) redo redo.valid) is)))
      go false is =
          let most = ltb-false redo.valid (valid_behind (readings begun) redo redo.valid) is in
          let least = valid-least redo begun redo.valid in
          omega (arith, most, least)

  made-is : valid_behind (readings (begun ++ kept)) redo redo.valid ≡ valid_behind (readings kept) redo redo.valid
  made-is = behind-append redo begun kept redo.valid ∙ ap (valid_behind (readings kept) redo) begun-valid

  file-is : valid_after_changes (updates_in redo (begun ++ kept)) first0 ≡ valid_behind (readings kept) redo (valid_after_changes (updates_in redo begun) first0)
  file-is =
      ap (λ (l : List Change). valid_after_changes l first0) (updates-append redo begun kept)
      ∙ (raised-append (updates_in redo begun) (updates_in redo kept) first0 ∙ valid-same redo kept (valid_after_changes (updates_in redo begun) first0))

  -- ---- the bytes

  all-is : (base : ℕ) → byte_after (updates_in redo (begun ++ kept)) (i / 4096) (i % 4096) base
      ≡ byte_after (updates_in redo kept) (i / 4096) (i % 4096) (byte_after (updates_in redo begun) (i / 4096) (i % 4096) base)
  all-is base =
      ap (λ (l : List Change). byte_after l (i / 4096) (i % 4096) base) (updates-append redo begun kept) ∙ after-append (updates_in redo begun) (updates_in redo kept) (i / 4096) (i % 4096) base

  redone-is : (base : ℕ) → byte_after (redone_of redo from (readings (begun ++ kept))) (i / 4096) (i % 4096) base
      ≡ byte_after (redone_of redo from (readings kept)) (i / 4096) (i % 4096) (byte_after (redone_of redo from (readings begun)) (i / 4096) (i % 4096) base)
  redone-is base =
      ap (λ (l : List Change). byte_after l (i / 4096) (i % 4096) base) (redone-append redo from begun kept)
      ∙ after-append (redone_of redo from (readings begun)) (redone_of redo from (readings kept)) (i / 4096) (i % 4096) base

  module _ (inside : i < redo.size) where
    made : slice_index (page_after (redone_of redo from (readings (begun ++ kept))) (i / 4096) (disk (i / 4096))) (i % 4096)
        ≡ byte_after (redone_of redo from (readings kept)) (i / 4096) (i % 4096) (byte_after (redone_of redo from (readings begun)) (i / 4096) (i % 4096) byte)
    made =
        made-byte u whole s log first durable pages below good updated long streams redo handed given kept flushed keeps settled-left from check-of i disk left inside (redone_of redo from (readings (begun ++ kept)))
        ∙ redone-is byte

    below-first : IsUngiven redo from (i / 4096) (i % 4096) kept → i < valid_behind (readings kept) redo (valid_after_changes (updates_in redo begun) first0) → i < first
    below-first none lt = go (nat_lt i first) refl (valid-cases redo kept (valid_after_changes (updates_in redo begun) first0) i lt)
      where
        go : (b : Bool) → nat_lt i first ≡ b → (i < valid_after_changes (updates_in redo begun) first0) ⊎ EndsBehind redo kept i → i < first
        go b is (inl it) = let le = reached in omega (arith, le, it)
        go true is (inr ends) = ltb-true i first is
        go false is (inr ends) =
            absurd (none-ends u whole s log first durable pages below good updated long streams redo handed given kept flushed keeps settled-left from check-of i none (ltb-false i first is) ends)

    -- past what the entries before it made valid, they give no byte
    past-begun : valid_after_changes (updates_in redo begun) first0 ≤ i → IsUngiven redo from (i / 4096) (i % 4096) begun
    past-begun above = go (decided-so redo from (i / 4096) (i % 4096) begun ascending)
      where
        go : IsUngiven redo from (i / 4096) (i % 4096) begun ⊎ IsGivenBy redo from (i / 4096) (i % 4096) begun → IsUngiven redo from (i / 4096) (i % 4096) begun
        go (inl k) = k
        go (inr k) =
            let lt = begun-ends (record { entry = k.entry; change = k.change; among = k.among; said = k.gives.0; below = covered-below k.change i k.gives.1 }) in
            absurd (omega (arith, lt, above))

    -- where no kept update gives the byte, it is that of the opening file
    opening-is : IsUngiven redo from (i / 4096) (i % 4096) kept → i < first → byte ≡ updated_byte pages0 first0 (updates_in redo begun) i
    opening-is none lt =
        opening-byte u whole s log first durable pages below good updated long streams redo handed given kept flushed keeps settled-left from check-of i disk left inside none lt
        ∙ (sym (chosen (nat_lt i first) (slice_index (pages (i / 4096)) (i % 4096)) 0 (lt-ltb i first lt)) ∙ opening inside)

    zero-opened : IsUngiven redo from (i / 4096) (i % 4096) kept → i < first → valid_after_changes (updates_in redo begun) first0 ≤ i → byte ≡ 0
    zero-opened none lt above = opening-is none lt ∙ unchosen (nat_lt i (valid_after_changes (updates_in redo begun) first0)) _ (over i (valid_after_changes (updates_in redo begun) first0) above)
      where
        unchosen : (b : Bool) (x : ℕ) → b ≡ false → (if b then x else 0) ≡ 0
        unchosen false x is = refl
        unchosen true x is = absurd (cc)

        over : (n v : ℕ) → v ≤ n → nat_lt n v ≡ false
        over n v le = grind arith

    opened : IsUngiven redo from (i / 4096) (i % 4096) kept → i < first → byte ≡ byte_after (updates_in redo begun) (i / 4096) (i % 4096) (file_byte pages0 first0 i)
    opened none lt = go (nat_lt i (valid_after_changes (updates_in redo begun) first0)) refl
      where
        base-zero : valid_after_changes (updates_in redo begun) first0 ≤ i → file_byte pages0 first0 i ≡ 0
        base-zero above =
            unchosen (nat_lt i first0) _
            (over i first0 (let least = valid-least redo begun first0 in let is = valid-same redo begun first0 in omega (arith, least, is, above)))
          where
            unchosen : (b : Bool) (x : ℕ) → b ≡ false → (if b then x else 0) ≡ 0
            unchosen false x is = refl
            unchosen true x is = absurd (cc)

            over : (n v : ℕ) → v ≤ n → nat_lt n v ≡ false
            over n v le = grind arith

        go : (b : Bool) → nat_lt i (valid_after_changes (updates_in redo begun) first0) ≡ b → byte ≡ byte_after (updates_in redo begun) (i / 4096) (i % 4096) (file_byte pages0 first0 i)
        go true is = opening-is none lt ∙ chosen (nat_lt i (valid_after_changes (updates_in redo begun) first0)) _ 0 is
        go false is =
            let above = ltb-false i (valid_after_changes (updates_in redo begun) first0) is in
            zero-opened none lt above ∙ (sym (base-zero above) ∙ sym ((past-begun above).all (file_byte pages0 first0 i)))

    -- what is redone of the entries before it makes the same of it
    before-same : (base : ℕ) → byte ≡ byte_after (updates_in redo begun) (i / 4096) (i % 4096) base →
        byte_after (redone_of redo from (readings begun)) (i / 4096) (i % 4096) byte ≡ byte_after (updates_in redo begun) (i / 4096) (i % 4096) base
    before-same base is = go (decided-so redo from (i / 4096) (i % 4096) begun ascending)
      where
        late : (k : IsGivenBy redo from (i / 4096) (i % 4096) begun) (b : Bool) → nat_le from k.entry.lsn ≡ b →
            byte_after (redone_of redo from (readings begun)) (i / 4096) (i % 4096) byte ≡ byte_after (updates_in redo begun) (i / 4096) (i % 4096) base
        late k true le = k.late (leb-true from k.entry.lsn le) byte ∙ sym (k.all base)
        late k false lt = k.early (leb-false from k.entry.lsn lt) byte ∙ is

        go : IsUngiven redo from (i / 4096) (i % 4096) begun ⊎ IsGivenBy redo from (i / 4096) (i % 4096) begun →
            byte_after (redone_of redo from (readings begun)) (i / 4096) (i % 4096) byte ≡ byte_after (updates_in redo begun) (i / 4096) (i % 4096) base
        go (inl k) = k.redone byte ∙ is
        go (inr k) = late k (nat_le from k.entry.lsn) refl

    both : IsUngiven redo from (i / 4096) (i % 4096) kept ⊎ IsGivenBy redo from (i / 4096) (i % 4096) kept → nat_lt i (valid_behind (readings (begun ++ kept)) redo redo.valid) ≡ true →
        nat_lt i (valid_after_changes (updates_in redo (begun ++ kept)) first0) ≡ true →
        slice_index (page_after (redone_of redo from (readings (begun ++ kept))) (i / 4096) (disk (i / 4096))) (i % 4096) ≡ byte_after (updates_in redo (begun ++ kept)) (i / 4096) (i % 4096) (file_byte pages0 first0 i)
    both (inl none) yields file =
        let lt = below-first none (let below_file = ltb-true i (valid_after_changes (updates_in redo (begun ++ kept)) first0) file in let is = file-is in omega (arith, below_file, is)) in
        made
        ∙ (none.redone _
        ∙ (before-same (file_byte pages0 first0 i) (opened none lt)
        ∙ (sym (none.all (byte_after (updates_in redo begun) (i / 4096) (i % 4096) (file_byte pages0 first0 i))) ∙ sym (all-is (file_byte pages0 first0 i)))))
    both (inr last) yields file =
        made
        ∙ (last-byte u whole s log first durable pages below good updated long streams redo handed given kept flushed keeps settled-left from check-of i disk left inside last
        (byte_after (redone_of redo from (readings begun)) (i / 4096) (i % 4096) byte)
        (λ early. passed-all redo from (i / 4096) (i % 4096) byte begun (λ x among. let lower = apart x last.entry among last.among in omega (arith, lower, early)))
        ∙ (sym (last.all (byte_after (updates_in redo begun) (i / 4096) (i % 4096) (file_byte pages0 first0 i))) ∙ sym (all-is (file_byte pages0 first0 i))))

    -- past the file's valid data the byte is zero
    alone : IsUngiven redo from (i / 4096) (i % 4096) kept ⊎ IsGivenBy redo from (i / 4096) (i % 4096) kept → nat_lt i (valid_behind (readings (begun ++ kept)) redo redo.valid) ≡ true →
        nat_lt i (valid_after_changes (updates_in redo (begun ++ kept)) first0) ≡ false → slice_index (page_after (redone_of redo from (readings (begun ++ kept))) (i / 4096) (disk (i / 4096))) (i % 4096) ≡ 0
    alone (inl none) yields file = made ∙ (none.redone _ ∙ ((past-begun above-begun).redone byte ∙ go (nat_lt i first) refl))
      where
        above-begun : valid_after_changes (updates_in redo begun) first0 ≤ i
        above-begun =
            let is = file-is in
            let least = valid-least redo kept (valid_after_changes (updates_in redo begun) first0) in
            let past_file = ltb-false i (valid_after_changes (updates_in redo (begun ++ kept)) first0) file in
            omega (arith, is, least, past_file)

        settled : first ≤ i → (i < redo.valid) ⊎ EndsBehind redo kept i → is_settled (history whole s) (i / 4096) ≡ true
        settled above (inl lt) = given.told (i / 4096) (omega (arith, lt, above)) (omega (arith, above)) (omega (arith, lt))
        settled above (inr ends) = absurd (none-ends u whole s log first durable pages below good updated long streams redo handed given kept flushed keeps settled-left from check-of i none above ends)

        told : first ≤ i → is_settled (history whole s) (i / 4096) ≡ true
        told above =
            settled above (valid-cases redo kept redo.valid i
            (let lt = ltb-true i (valid_behind (readings (begun ++ kept)) redo redo.valid) yields in let is = made-is in omega (arith, lt, is)))

        go : (b : Bool) → nat_lt i first ≡ b → byte ≡ 0
        go true is = zero-opened none (ltb-true i first is) above-begun
        go false is =
            let above = ltb-false i first is in
            zero-byte u whole s log first durable pages below good updated long streams redo handed given kept flushed keeps settled-left from check-of i disk left inside none above (told above)
    alone (inr last) yields file =
        let is = file-is in
        let ends = valid-ends redo kept (valid_after_changes (updates_in redo begun) first0) last.entry last.change last.among last.gives.0 in
        let lt = last-ends u whole s log first durable pages below good updated long streams redo handed given kept flushed keeps settled-left from check-of i disk left inside last in
        let past_file = ltb-false i (valid_after_changes (updates_in redo (begun ++ kept)) first0) file in
        absurd (omega (arith, is, ends, lt, past_file))

    file-alone : nat_lt i (valid_behind (readings (begun ++ kept)) redo redo.valid) ≡ false → nat_lt i (valid_after_changes (updates_in redo (begun ++ kept)) first0) ≡ true → ⊥
    file-alone yields file =
        go (valid-cases redo kept (valid_after_changes (updates_in redo begun) first0) i (let lt = ltb-true i (valid_after_changes (updates_in redo (begun ++ kept)) first0) file in let is = file-is in omega (arith, lt, is)))
      where
        past_made : valid_behind (readings kept) redo redo.valid ≤ i
        past_made = let over = ltb-false i (valid_behind (readings (begun ++ kept)) redo redo.valid) yields in let is = made-is in omega (arith, over, is)

        go : (i < valid_after_changes (updates_in redo begun) first0) ⊎ EndsBehind redo kept i → ⊥
        go (inl lt) = let least = valid-least redo kept redo.valid in let told = given.least in let le = reached in let over = past_made in omega (arith, least, told, le, over, lt)
        go (inr k) = let ends = valid-ends redo kept redo.valid k.entry k.change k.among k.said in let lt = k.below in let over = past_made in omega (arith, ends, lt, over)

    decision : IsUngiven redo from (i / 4096) (i % 4096) kept ⊎ IsGivenBy redo from (i / 4096) (i % 4096) kept
    decision = decided-so redo from (i / 4096) (i % 4096) kept (kept-rising u log durable whole good kept keeps)

    inside-file : file_byte (pages_redone streams (begun ++ kept) redo disk) (valid_behind (readings (begun ++ kept)) redo redo.valid) i ≡ updated_byte pages0 first0 (updates_in redo (begun ++ kept)) i
    inside-file =
        guarded (nat_lt i (valid_behind (readings (begun ++ kept)) redo redo.valid)) (nat_lt i (valid_after_changes (updates_in redo (begun ++ kept)) first0)) _ _ (both decision) (alone decision) file-alone

  pub whole-file : redo.valid ≤ redo.size → file_byte (pages_redone streams (begun ++ kept) redo disk) (valid_behind (readings (begun ++ kept)) redo redo.valid) i ≡ updated_byte pages0 first0 (updates_in redo (begun ++ kept)) i
  whole-file within = go (nat_lt i redo.size) refl
    where
      past : (a b : Bool) (x y : ℕ) → a ≡ false → b ≡ false → (if a then x else 0) ≡ (if b then y else 0)
      past false false x y one other = refl
      past true b x y one other = absurd (cc)
      past false true x y one other = absurd (cc)

      over : (n v : ℕ) → v ≤ n → nat_lt n v ≡ false
      over n v le = grind arith

      go : (b : Bool) → nat_lt i redo.size ≡ b → file_byte (pages_redone streams (begun ++ kept) redo disk) (valid_behind (readings (begun ++ kept)) redo redo.valid) i ≡ updated_byte pages0 first0 (updates_in redo (begun ++ kept)) i
      go true is = inside-file (ltb-true i redo.size is)
      go false is =
          let above = ltb-false i redo.size is in
          let made_within = valid-within redo (begun ++ kept) redo.valid within in
          let least = given.least in
          let le = reached in
          let file_within = valid-within redo kept (valid_after_changes (updates_in redo begun) first0) (omega (arith, within, least, le)) in
          let same = file-is in
          past (nat_lt i (valid_behind (readings (begun ++ kept)) redo redo.valid)) (nat_lt i (valid_after_changes (updates_in redo (begun ++ kept)) first0)) _ _
          (over i (valid_behind (readings (begun ++ kept)) redo redo.valid) (omega (arith, above, made_within)))
          (over i (valid_after_changes (updates_in redo (begun ++ kept)) first0) (omega (arith, above, file_within, same)))

-- ---- a log that had no entry

twice : (b : Bool) (x : ℕ) → (if b then x else 0) ≡ (if b then (if b then x else 0) else 0)
twice true x = refl
twice false x = refl

self : (n : ℕ) → n ≤ n
self n = omega arith

none-lower : (kept : List LogEntry) (x y : LogEntry) → IsAmong [] x → IsAmong kept y → x.lsn < y.lsn
none-lower kept x y among here = absurd among

module _ (u : Setup) (whole : List Entry) (s log first durable : ℕ) (pages : ℕ → List ℕ) (below : s < 16) (good : IsGoodSoFar u whole) (updated : IsUpdated s log whole) (long : (p : ℕ) → length (pages p) ≡ 4096)
    (streams : List Redo) (redo : Redo) (handed : Contains streams redo) (given : IsGivenAs s first whole redo) (kept : List LogEntry) (flushed : flushed_to whole log ≤ durable) (keeps : LogKeeps durable (appended whole log) kept) where
  pub first-file : (disk : ℕ → List ℕ) → ((p : ℕ) → 4096 * p < redo.size → Contains (crash_pages pages (history whole s) p) (disk p)) → (i : ℕ) →
      file_byte (pages_redone streams kept redo disk) (valid_behind (readings kept) redo redo.valid) i ≡ updated_byte pages first (updates_in redo kept) i
  first-file disk left i =
      whole-file u whole s log first durable pages below good updated long streams redo handed given kept flushed keeps [] pages first tt (none-lower kept) (self first) i
      (λ lt. twice (nat_lt i first) (slice_index (pages (i / 4096)) (i % 4096))) disk (left (i / 4096)) redo.within

  pub first-page : (page : ℕ) (bytes : List ℕ) → 4096 * page < redo.size → Contains (crash_pages pages (history whole s) page) bytes → MakesFile streams kept redo pages first page bytes
  first-page page bytes in_size contains i same =
      whole-file u whole s log first durable pages below good updated long streams redo handed given kept flushed keeps [] pages first tt (none-lower kept) (self first) i
      (λ lt. twice (nat_lt i first) (slice_index (pages (i / 4096)) (i % 4096))) (λ p. bytes) (λ lt. subst (λ (q : ℕ). Contains (crash_pages pages (history whole s) q) bytes) (sym same) contains) redo.within

  -- ---- a log that had some
  pub later-file : (begun : List LogEntry) (old_pages : ℕ → List ℕ) (old_first : ℕ) → HadBegun redo begun (appended whole log) pages first old_pages old_first →
      (disk : ℕ → List ℕ) → ((p : ℕ) → 4096 * p < redo.size → Contains (crash_pages pages (history whole s) p) (disk p)) → (i : ℕ) →
      file_byte (pages_redone streams (begun ++ kept) redo disk) (valid_behind (readings (begun ++ kept)) redo redo.valid) i ≡ updated_byte old_pages old_first (updates_in redo (begun ++ kept)) i
  later-file begun old_pages old_first had disk left i =
      whole-file u whole s log first durable pages below good updated long streams redo handed given kept flushed keeps begun old_pages old_first (rising-first begun (appended whole log) had.ascending)
      (λ x y before here. rising-across begun (appended whole log) x y had.ascending before (subst (λ (l : List LogEntry). IsAmong l y) (sym keeps.splits) (among-left kept keeps.rest y here)))
      had.valid i (had.file i) disk (left (i / 4096)) redo.within

  pub later-page : (begun : List LogEntry) (old_pages : ℕ → List ℕ) (old_first : ℕ) → HadBegun redo begun (appended whole log) pages first old_pages old_first →
      (page : ℕ) (bytes : List ℕ) → 4096 * page < redo.size → Contains (crash_pages pages (history whole s) page) bytes → MakesFile streams (begun ++ kept) redo old_pages old_first page bytes
  later-page begun old_pages old_first had page bytes in_size contains i same =
      whole-file u whole s log first durable pages below good updated long streams redo handed given kept flushed keeps begun old_pages old_first (rising-first begun (appended whole log) had.ascending)
      (λ x y before here. rising-across begun (appended whole log) x y had.ascending before (subst (λ (l : List LogEntry). IsAmong l y) (sym keeps.splits) (among-left kept keeps.rest y here)))
      had.valid i (had.file i) (λ p. bytes) (λ lt. subst (λ (q : ℕ). Contains (crash_pages pages (history whole s) q) bytes) (sym same) contains) redo.within

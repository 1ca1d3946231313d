-- A restart that is done makes the file; one that is refused leaves a disk of which the next one makes it.
use Rattle.std.specs.Prelude.{◌≡◌, ℕ, zero, suc, ◌+◌, ◌*◌, ◌/◌, ◌%◌, ◌<◌, ◌≤◌, ◌⊎◌, ◌||◌, ◌==◌, Bool, true, false, nat_lt, List, [], ◌∷◌, ◌++◌, length, replicate, slice_index, Contains, refl, if◌then◌else◌}
use Rattle.std.specs.List.{list_any}
use Rattle.std.specs.declared.option.Option.{Option}
use Rattle.std.specs.declared.option.Option.TheVariants.{Some}
use Rattle.std.proofs.Common.{ap, sym, subst, ◌∙◌, arith, inl, inr}
use Rattle.std.proofs.lemmas.Bool.{eq-eqb}
use Rattle.std.proofs.lemmas.List.{length-append, length-replicate}
use Rattle.cc_format.specs.Spelling.{IsReadAs}
use Rattle.cc_format.specs.declared.record.StreamRecord.{StreamRecord}
use Rattle.cc_format.specs.declared.record.StreamRecord.TheVariants.{V2}
use Rattle.cc_model.specs.Records.{little_endian, record_page}
use Rattle.cc_redo.proofs.Patches.{length-after}
use Rattle.cc_redo.specs.Changes.{byte_after, page_after}
use Rattle.cc_redo.specs.Disks.{IsBetween, DiskIsMade, Was, changed_page, record_number}
use Rattle.cc_redo.specs.Ends.{made_by_log}
use Rattle.cc_redo.specs.Heard.{Change, from_of, is_given, readings, redone_of, valid_behind, redone_valid}
use Rattle.cc_redo.specs.declared.redo.Redo.{Redo}
use Rattle.cc_restart_laws.proofs.Again.{after-least, made-data, made-file, once-more, valid-more}
use Rattle.cc_restart_laws.proofs.Ends.{page-byte}
use Rattle.cc_restart_laws.proofs.Raised.{behind-same, from-same, makes-same, redone-same, updates-same}
use Rattle.cc_restart_laws.proofs.Redoing.{contains-any, valid-same, valid-within}
use Rattle.cc_restart_laws.proofs.Told.{read-once}
use Rattle.cc_restart_laws.specs.Stops.{MakesFile, file_byte, updated_byte, updates_in, valid_after_changes}
use Rattle.cc_restarts.specs.Given.{AreRestartSizes, IsRedoOf, size_said, valid_said}
use Rattle.cc_script.specs.declared.script.StreamLine.{StreamLine}
use Rattle.cc_traits.specs.Disk.{Disk, may_of, page_of}
use Rattle.cc_traits.specs.Log.{LogEntry}
use Rattle.cc_stop_laws.specs.Redoable.{IsFileMade, IsHandedOn, IsRedoable, TellsGreatest}
use Rattle.cc_stop_laws.proofs.Given.{SameSaid, one-alone, same-redo, same-sizes}

-- ---- the pages that are made are whole

little-long : (k n : ℕ) → length (little_endian k n) ≡ k
little-long zero n = refl
little-long (suc k) n = ap suc (little-long k (n / 256))

record-long : (size valid : ℕ) → length (record_page size valid) ≡ 4096
unfolding record_page
record-long size valid =
    let two = length-append (little_endian 4 2) (little_endian 8 size ++ (little_endian 8 valid ++ replicate 4072 0)) in
    let sized = length-append (little_endian 8 size) (little_endian 8 valid ++ replicate 4072 0) in
    let told = length-append (little_endian 8 valid) (replicate 4072 0) in
    let version = little-long 4 2 in
    let first = little-long 8 size in
    let second = little-long 8 valid in
    let rest = length-replicate {A = ℕ} 4072 0 in
    omega (arith, two, sized, told, version, first, second, rest)

made-long : (streams : List Redo) (kept : List LogEntry) (redo : Redo) (old : Disk) (p : ℕ) → length (page_of old p) ≡ 4096 → length (made_by_log streams (readings kept) redo old p) ≡ 4096
made-long streams kept redo old p long = go (record_number == p)
  where
    go : (b : Bool) → length (if b then record_page redo.size (redone_valid (readings kept) redo) else changed_page (redone_of redo (from_of streams (readings kept)) (readings kept)) old p) ≡ 4096
    go true = record-long redo.size (redone_valid (readings kept) redo)
    go false = length-after (redone_of redo (from_of streams (readings kept)) (readings kept)) p 0 (page_of old p) ∙ long

made-record : (streams : List Redo) (kept : List LogEntry) (redo : Redo) (old : Disk) → made_by_log streams (readings kept) redo old record_number ≡ record_page redo.size (redone_valid (readings kept) redo)
made-record streams kept redo old =
    pick (record_number == record_number) (record_page redo.size (redone_valid (readings kept) redo)) (changed_page (redone_of redo (from_of streams (readings kept)) (readings kept)) old record_number) (eq-eqb record_number record_number refl)
  where
    pick : (b : Bool) (x y : List ℕ) → b ≡ true → (if b then x else y) ≡ x
    pick true x y is = refl
    pick false x y is = absurd (cc)

-- ---- the page that a restart makes is made again by one that is given other streams

module _ (streams given : List Redo) (kept : List LogEntry) (redo : Redo) (pages : ℕ → List ℕ) (first page : ℕ) (old : List ℕ) (long : length old ≡ 4096) (makes : MakesFile streams kept redo pages first page old)
    (made : MakesFile given kept redo pages first page old) where
  remade : MakesFile streams kept redo pages first page (page_after (redone_of redo (from_of given (readings kept)) (readings kept)) page old)
  remade i at = go (nat_lt i (redone_valid (readings kept) redo)) refl
    where
      mine : List Change
      mine = redone_of redo (from_of streams (readings kept)) (readings kept)

      its : List Change
      its = redone_of redo (from_of given (readings kept)) (readings kept)

      file : ℕ
      file = updated_byte pages first (updates_in redo kept) i

      here : i % 4096 < 4096
      here = omega arith

      chosen : (b : Bool) (x y : ℕ) → b ≡ true → (if b then x else 0) ≡ y → x ≡ y
      chosen true x y is same = same
      chosen false x y is same = absurd (cc is)

      past : (b : Bool) (x y : ℕ) → b ≡ false → (if b then x else 0) ≡ (if b then y else 0)
      past false x y is = refl
      past true x y is = absurd (cc is)

      by-mine : nat_lt i (redone_valid (readings kept) redo) ≡ true → slice_index (page_after mine (i / 4096) old) (i % 4096) ≡ file
      by-mine is = chosen (nat_lt i (redone_valid (readings kept) redo)) _ _ is (makes i at)

      by-its : nat_lt i (redone_valid (readings kept) redo) ≡ true → slice_index (page_after its (i / 4096) old) (i % 4096) ≡ file
      by-its is = chosen (nat_lt i (redone_valid (readings kept) redo)) _ _ is (made i at)

      none : (n : ℕ) → 0 + n ≡ n
      none n = omega arith

      byte : (bytes : List ℕ) → length bytes ≡ 4096 → slice_index (page_after mine (i / 4096) bytes) (i % 4096) ≡ byte_after mine (i / 4096) (i % 4096) (slice_index bytes (i % 4096))
      byte bytes long = page-byte mine (i / 4096) 0 (i % 4096) bytes (omega (arith, long, here)) ∙ ap (λ (n : ℕ). byte_after mine (i / 4096) n (slice_index bytes (i % 4096))) (none (i % 4096))

      after-its : length (page_after its (i / 4096) old) ≡ 4096
      after-its = length-after its (i / 4096) 0 old ∙ long

      after-mine : length (page_after mine (i / 4096) old) ≡ 4096
      after-mine = length-after mine (i / 4096) 0 old ∙ long

      twice : nat_lt i (redone_valid (readings kept) redo) ≡ true → slice_index (page_after mine (i / 4096) (page_after its (i / 4096) old)) (i % 4096) ≡ file
      twice is =
          byte (page_after its (i / 4096) old) after-its
          ∙ (ap (byte_after mine (i / 4096) (i % 4096)) (by-its is ∙ sym (by-mine is))
          ∙ (sym (byte (page_after mine (i / 4096) old) after-mine)
          ∙ (ap (λ (l : List ℕ). slice_index l (i % 4096)) (once-more mine (i / 4096) old) ∙ by-mine is)))

      moved : page_after its page old ≡ page_after its (i / 4096) old
      moved = ap (λ (q : ℕ). page_after its q old) (sym at)

      go : (b : Bool) → nat_lt i (redone_valid (readings kept) redo) ≡ b →
          (if nat_lt i (redone_valid (readings kept) redo) then slice_index (page_after mine (i / 4096) (page_after its page old)) (i % 4096) else 0) ≡ file
      go true is =
          chosen-back (nat_lt i (redone_valid (readings kept) redo)) _ _ is (ap (λ (l : List ℕ). slice_index (page_after mine (i / 4096) l) (i % 4096)) moved ∙ twice is)
        where
          chosen-back : (b : Bool) (x y : ℕ) → b ≡ true → x ≡ y → (if b then x else 0) ≡ y
          chosen-back true x y is same = same
          chosen-back false x y is same = absurd (cc is)
      go false is = past (nat_lt i (redone_valid (readings kept) redo)) _ _ is ∙ makes i at

-- it is made with equal numbers too
makes-equal : (streams : List Redo) (kept : List LogEntry) (redo later : Redo) (pages : ℕ → List ℕ) (first page : ℕ) (bytes : List ℕ) → later.stream ≡ redo.stream → later.size ≡ redo.size → later.valid ≡ redo.valid →
    MakesFile streams kept redo pages first page bytes → MakesFile streams kept later pages first page bytes
makes-equal streams kept redo later pages first page bytes stream size valid makes = λ i at.
    ap (λ (v : ℕ). if nat_lt i v then slice_index (page_after (redone_of later (from_of streams (readings kept)) (readings kept)) (i / 4096) bytes) (i % 4096) else 0) reached
    ∙ (ap (λ (l : List Change). if nat_lt i (redone_valid (readings kept) redo) then slice_index (page_after l (i / 4096) bytes) (i % 4096) else 0) changes
    ∙ (makes i at ∙ sym (ap (λ (l : List Change). updated_byte pages first l i) (updates-same redo later stream size kept))))
  where
    reached : redone_valid (readings kept) later ≡ redone_valid (readings kept) redo
    reached = behind-same redo later stream size kept later.valid ∙ ap (λ (v : ℕ). valid_behind (readings kept) redo v) valid

    changes : redone_of later (from_of streams (readings kept)) (readings kept) ≡ redone_of redo (from_of streams (readings kept)) (readings kept)
    changes = redone-same redo later stream size (from_of streams (readings kept)) kept

-- a stream of that number once more among those that are given is one that is given already
given-once : (redo later : Redo) (streams : List Redo) → later.stream ≡ redo.stream → Contains streams later → (n : ℕ) → is_given streams n ≡ is_given (redo ∷ streams) n
given-once redo later streams same contains n = go (redo.stream == n) refl
  where
    go : (b : Bool) → (redo.stream == n) ≡ b → list_any (λ r. r.stream == n) streams ≡ (redo.stream == n || list_any (λ r. r.stream == n) streams)
    go true is = contains-any (λ (r : Redo). r.stream == n) streams later contains (ap (λ (m : ℕ). m == n) same ∙ is) ∙ sym (first is)
      where
        first : (redo.stream == n) ≡ true → (redo.stream == n || list_any (λ r. r.stream == n) streams) ≡ true
        first is = rw is refl
    go false is = sym (rest is)
      where
        rest : (redo.stream == n) ≡ false → (redo.stream == n || list_any (λ r. r.stream == n) streams) ≡ list_any (λ r. r.stream == n) streams
        rest is = rw is refl

contains-first : {A : Type 0} (x : A) (xs : List A) → Contains (x ∷ xs) x
contains-first x xs = (0, omega arith, refl)

-- ---- what a restart leaves of a disk that was handed on

module _ (s size first : ℕ) (stream : StreamLine) (kept : List LogEntry) (pages : ℕ → List ℕ) (left handed : Disk) (redoable : IsRedoable s stream size kept pages first left) (handed_on : IsHandedOn left handed)
    (given : List Redo) (read : Option StreamRecord) (redo : Redo) (spelled : IsReadAs (page_of handed record_number) read) (of_it : IsRedoOf s stream read redo) (contains : Contains given redo) where
  numbers : AreRestartSizes stream read × (size_said stream read ≡ size) × (first ≤ valid_said stream read)
  numbers = redoable.sizes (page_of handed record_number) read (handed_on.among record_number) spelled

  size-is : redo.size ≡ size
  size-is = of_it.size_is ∙ numbers.1

  least : first ≤ redo.valid
  least = let le = numbers.2 in let is = of_it.valid_is in omega (arith, le, is)

  -- each page is handed on so that the restart makes it
  makes-handed : (streams : List Redo) → Contains streams redo → (p : ℕ) → 4096 * p < size → MakesFile streams kept redo pages first p (page_of handed p)
  makes-handed streams among p below = redoable.makes (page_of handed record_number) read (handed_on.among record_number) spelled streams redo of_it among p (page_of handed p) below (handed_on.among p)

  abbrev pub reached : ℕ
  reached = redone_valid (readings kept) redo

  reached-within : reached ≤ redo.size
  reached-within = valid-within redo kept redo.valid redo.within

  spells-reached : (content : List ℕ) → content ≡ record_page redo.size reached → IsReadAs content (Some (V2 size reached))
  spells-reached content is =
      let within = reached-within in
      let its = size-is in
      let fits = redo.in_range in
      record { in_range = record { size_in_range = omega (arith, its, fits); within = omega (arith, its, within) }; spelled = is ∙ ap (λ (n : ℕ). record_page n reached) its }

  -- what it tells as valid, of a line of which it was given this valid data length
  told-greatest : (line : StreamLine) → redo.valid ≡ valid_said line read → TellsGreatest line handed kept redo reached
  told-greatest line given_is = record {
    read = read;
    reads = spelled;
    greatest = sym (valid-same redo kept redo.valid) ∙ ap (valid_after_changes (updates_in redo kept)) given_is;
  }

  pub file-made : (line : StreamLine) → redo.valid ≡ valid_said line read → (made : Disk) → DiskIsMade (made_by_log given (readings kept) redo handed) made →
      (file : IsFileMade s size kept pages first made) × TellsGreatest line handed kept file.has.redo file.valid
  file-made line given_is made is = (
    record {
      valid = reached;
      spelled = spells-reached (page_of made record_number) (is.holds record_number ∙ made-record given kept redo handed);
      has = record {
        redo = redo;
        stream_is = of_it.stream_is;
        size_is = size-is;
        least = valid-more kept redo first least;
        file = λ i below. let its = size-is in
            made-file given kept redo pages first handed made (λ p in_size. makes-handed given contains p (omega (arith, its, in_size))) is i (omega (arith, its, below));
        whole = record {
          long = λ p. ap length (is.holds p) ∙ made-long given kept redo handed p (handed_on.whole.long p);
          alone = λ p. is.may p ∙ ap (λ (l : List ℕ). l ∷ []) (sym (is.holds p));
        };
      };
    },
    told-greatest line given_is,
  )

  module _ (now : Disk) (between : IsBetween (made_by_log given (readings kept) redo handed) handed now) where
    -- what a crash may leave of a page was handed in, or is made
    left-or-made : (p : ℕ) (bytes : List ℕ) → Contains (may_of now p) bytes → (bytes ≡ page_of handed p) ⊎ (bytes ≡ made_by_log given (readings kept) redo handed p)
    left-or-made p bytes among = go (between.pages.may p bytes among)
      where
        go : Was handed p bytes ⊎ (bytes ≡ made_by_log given (readings kept) redo handed p) → (bytes ≡ page_of handed p) ⊎ (bytes ≡ made_by_log given (readings kept) redo handed p)
        go (inl (inl was)) = inl (sym (one-alone (page_of handed p) bytes (subst (λ (l : List (List ℕ)). Contains l bytes) (handed_on.whole.alone p) was)))
        go (inl (inr is)) = inl is
        go (inr is) = inr is

    read-left : (content : List ℕ) (other : Option StreamRecord) → Contains (may_of now record_number) content → IsReadAs content other → (other ≡ read) ⊎ (other ≡ Some (V2 size reached))
    read-left content other among reads = go (left-or-made record_number content among)
      where
        go : (content ≡ page_of handed record_number) ⊎ (content ≡ made_by_log given (readings kept) redo handed record_number) → (other ≡ read) ⊎ (other ≡ Some (V2 size reached))
        go (inl is) = inl (read-once content other read reads (subst (λ (l : List ℕ). IsReadAs l read) (sym is) spelled))
        go (inr is) = inr (read-once content other (Some (V2 size reached)) reads (spells-reached content (is ∙ made-record given kept redo handed)))

    -- whatever numbers the record then has, a restart makes of a page what this one made of it
    makes-page : (streams : List Redo) (p : ℕ) (bytes : List ℕ) → Contains streams redo → 4096 * p < size → (bytes ≡ page_of handed p) ⊎ (bytes ≡ made_by_log given (readings kept) redo handed p) → MakesFile streams kept redo pages first p bytes
    makes-page streams p bytes among below (inl is) = subst (λ (l : List ℕ). MakesFile streams kept redo pages first p l) (sym is) (makes-handed streams among p below)
    makes-page streams p bytes among below (inr is) =
        let its = size-is in
        subst (λ (l : List ℕ). MakesFile streams kept redo pages first p l) (sym (is ∙ made-data given kept redo pages first handed p (omega (arith, its, below))))
        (remade streams given kept redo pages first p (page_of handed p) (handed_on.whole.long p) (makes-handed streams among p below) (makes-handed given contains p below))

    makes-later : (other : Option StreamRecord) (streams : List Redo) (later : Redo) (p : ℕ) (bytes : List ℕ) → (other ≡ read) ⊎ (other ≡ Some (V2 size reached)) → IsRedoOf s stream other later → Contains streams later →
        MakesFile (redo ∷ streams) kept redo pages first p bytes → MakesFile streams kept later pages first p bytes
    makes-later other streams later p bytes (inl is) its among makes =
        makes-same-given (makes-equal (redo ∷ streams) kept redo later pages first p bytes same_stream same_size same_valid makes)
      where
        same_stream : later.stream ≡ redo.stream
        same_stream = its.stream_is ∙ sym of_it.stream_is

        same_size : later.size ≡ redo.size
        same_size = its.size_is ∙ (ap (size_said stream) is ∙ sym of_it.size_is)

        same_valid : later.valid ≡ redo.valid
        same_valid = its.valid_is ∙ (ap (valid_said stream) is ∙ sym of_it.valid_is)

        from : from_of streams (readings kept) ≡ from_of (redo ∷ streams) (readings kept)
        from = from-same (redo ∷ streams) streams (given-once redo later streams same_stream among) 1 kept

        makes-same-given : MakesFile (redo ∷ streams) kept later pages first p bytes → MakesFile streams kept later pages first p bytes
        makes-same-given makes = λ i at.
            ap (λ (n : ℕ). file_byte (λ q. page_after (redone_of later n (readings kept)) q bytes) (redone_valid (readings kept) later) i) from ∙ makes i at
    makes-later other streams later p bytes (inr is) its among makes =
        makes-same (redo ∷ streams) streams kept redo later pages first same_stream same_size raised (given-once redo later streams same_stream among) p bytes makes
      where
        same_stream : later.stream ≡ redo.stream
        same_stream = its.stream_is ∙ sym of_it.stream_is

        same_size : later.size ≡ redo.size
        same_size = its.size_is ∙ (ap (size_said stream) is ∙ sym size-is)

        raised : later.valid ≡ reached
        raised = its.valid_is ∙ ap (valid_said stream) is

    sizes-left : (other : Option StreamRecord) → (other ≡ read) ⊎ (other ≡ Some (V2 size reached)) → AreRestartSizes stream other × (size_said stream other ≡ size) × (first ≤ valid_said stream other)
    sizes-left other (inl is) = subst (λ o. AreRestartSizes stream o × (size_said stream o ≡ size) × (first ≤ valid_said stream o)) (sym is) numbers
    sizes-left other (inr is) = subst (λ o. AreRestartSizes stream o × (size_said stream o ≡ size) × (first ≤ valid_said stream o)) (sym is) (
      record { within = let le = reached-within in let same = size-is in omega (arith, le, same); in_range = let fits = redo.in_range in let same = size-is in omega (arith, fits, same) },
      refl,
      let more = valid-more kept redo first least in let grown = after-least (updates_in redo kept) first in omega (arith, more, grown),
    )

    pub redoable-again : IsRedoable s stream size kept pages first now
    redoable-again = record {
      sizes = λ content other among reads. sizes-left other (read-left content other among reads);
      makes = λ content other record_among reads streams later its among p bytes below contained.
          makes-later other streams later p bytes (read-left content other record_among reads) its among
          (makes-page (redo ∷ streams) p bytes (contains-first redo streams) below (left-or-made p bytes contained));
    }

-- a disk that was handed on can be redone itself
pub redoable-handed : (s size first : ℕ) (stream : StreamLine) (kept : List LogEntry) (pages : ℕ → List ℕ) (left handed : Disk) → IsRedoable s stream size kept pages first left → IsHandedOn left handed → IsRedoable s stream size kept pages first handed
redoable-handed s size first stream kept pages left handed redoable handed_on = record {
  sizes = λ content read among reads. redoable.sizes content read (still record_number content among) reads;
  makes = λ content read record_among reads streams redo its among p bytes below contained.
      redoable.makes content read (still record_number content record_among) reads streams redo its among p bytes below (still p bytes contained);
}
  where
    still : (p : ℕ) (bytes : List ℕ) → Contains (may_of handed p) bytes → Contains (may_of left p) bytes
    still p bytes among = subst (λ (l : List ℕ). Contains (may_of left p) l) (one-alone (page_of handed p) bytes (subst (λ (l : List (List ℕ)). Contains l bytes) (handed_on.whole.alone p) among)) (handed_on.among p)

-- and so can one on which the restart was done
pub between-made : (made : ℕ → List ℕ) (old new : Disk) → DiskIsMade made new → IsBetween made old new
between-made made old new is = record {
  pages = record {
    holds = λ page possible.
        subst (λ (l : List (List ℕ)). Contains l (page_of new page)) (sym (is.may page))
        (subst (λ (bytes : List ℕ). Contains (made page ∷ []) bytes) (sym (is.holds page)) (contains-first (made page) []));
    may = λ page bytes among. inr (sym (one-alone (made page) bytes (subst (λ (l : List (List ℕ)). Contains l bytes) (is.may page) among)));
  };
  ordered = inr (λ page other. (is.holds page, is.may page));
}

pub redoable-made : (s size first : ℕ) (stream : StreamLine) (kept : List LogEntry) (pages : ℕ → List ℕ) (left handed : Disk) → IsRedoable s stream size kept pages first left → IsHandedOn left handed →
    (given : List Redo) (read : Option StreamRecord) (redo : Redo) → IsReadAs (page_of handed record_number) read → IsRedoOf s stream read redo → Contains given redo →
    (made : Disk) → DiskIsMade (made_by_log given (readings kept) redo handed) made → IsRedoable s stream size kept pages first made
redoable-made s size first stream kept pages left handed redoable handed_on given read redo spelled of_it contains made is =
    redoable-again s size first stream kept pages left handed redoable handed_on given read redo spelled of_it contains made (between-made (made_by_log given (readings kept) redo handed) handed made is)

-- ---- for another line of the stream

-- it is so for another line, where that says the same numbers whatever was read
pub redoable-line : (s size first : ℕ) (line stream : StreamLine) (kept : List LogEntry) (pages : ℕ → List ℕ) (left : Disk) → IsRedoable s line size kept pages first left →
    ((content : List ℕ) (read : Option StreamRecord) → Contains (may_of left record_number) content → IsReadAs content read → SameSaid line stream read) → IsRedoable s stream size kept pages first left
redoable-line s size first line stream kept pages left redoable same = record {
  sizes = λ content read among reads.
      let its = redoable.sizes content read among reads in
      let says = same content read among reads in
      let least = its.2 in
      let valid = says.1 in
      (same-sizes line stream read says its.0, says.0 ∙ its.1, omega (arith, least, valid));
  makes = λ content read among reads streams redo its contained p bytes below may.
      redoable.makes content read among reads streams redo (same-redo s line stream read redo (same content read among reads) (redoable.sizes content read among reads).0 its) contained p bytes below may;
}

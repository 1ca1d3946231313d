-- A log is read entry by entry.
use Rattle.std.specs.Prelude.{◌≡◌, ℕ, zero, suc, ◌+◌, ◌<◌, ◌≤◌, List, [], ◌∷◌, ◌++◌, length, take, slice_get, refl}
use Rattle.std.specs.declared.option.Option.{Option}
use Rattle.std.specs.declared.option.Option.TheVariants.{Some, None}
use Rattle.std.proofs.Common.{ap, sym, subst, ◌∙◌, arith}
use Rattle.cc_traits.specs.Told.{IfTold}
use Rattle.cc_traits.specs.Log.{Log, LogEntry, HoldsEntry, LogEntryIsRead}
use Rattle.cc_redo.specs.declared.scan.ReadEntry.{ReadEntry}
use Rattle.cc_redo.specs.Heard.{reading, readings}
use Rattle.cc_redo.specs.Reading.{said_by}

-- the first n entries were read
pub record HasRead (n : ℕ) (items : List ReadEntry) (log : Log) : Type 0 where
  pub so_far : items ≡ readings (take n log.entries)
  pub within : n ≤ length log.entries

take-get : {A : Type 0} (xs : List A) (n : ℕ) (x : A) → slice_get xs n ≡ Some x → take (suc n) xs ≡ take n xs ++ x ∷ []
take-get {A} [] n x e = absurd (cc)
take-get {A} (y ∷ xs) zero x e = ap (λ (o : A). o ∷ []) (cc)
take-get {A} (y ∷ xs) (suc n) x e = ap (λ (l : List A). y ∷ l) (take-get xs n x e)

readings-push : (xs : List LogEntry) (x : LogEntry) → readings (xs ++ x ∷ []) ≡ readings xs ++ reading x ∷ []
readings-push [] x = refl
readings-push (y ∷ xs) x = ap (λ (l : List ReadEntry). reading y ∷ l) (readings-push xs x)

inside : {A : Type 0} (xs : List A) (n : ℕ) (x : A) → slice_get xs n ≡ Some x → n < length xs
inside [] n x e = absurd (cc)
inside (y ∷ xs) zero x e = omega arith
inside (y ∷ xs) (suc n) x e = let rest = inside xs n x e in omega arith

past : {A : Type 0} (xs : List A) (n : ℕ) → slice_get xs n ≡ None → length xs ≤ n
past [] n e = omega arith
past (y ∷ xs) zero e = absurd (cc)
past (y ∷ xs) (suc n) e = let rest = past xs n e in omega arith

take-all : {A : Type 0} (xs : List A) (n : ℕ) → length xs ≤ n → take n xs ≡ xs
take-all {A} [] zero h = refl
take-all {A} [] (suc n) h = refl
take-all {A} (y ∷ xs) zero h = absurd (omega arith)
take-all {A} (y ∷ xs) (suc n) h = ap (λ (l : List A). y ∷ l) (take-all xs n (omega arith))

-- one more
read-one : (log : Log) (n lsn : ℕ) (bytes : List ℕ) (items : List ReadEntry) (held : Option LogEntry) → slice_get log.entries n ≡ held →
    LogEntryIsRead held (Some lsn) bytes → HasRead n items log → HasRead (suc n) (items ++ record { lsn = lsn; says = said_by bytes } ∷ []) log
read-one log n lsn bytes items None is read has = absurd (cc)
read-one log n lsn bytes items (Some entry) is read has =
    let its_lsn : lsn ≡ entry.lsn = cc in
    let its_bytes : bytes ≡ entry.bytes = read.1 in
    let made : ReadEntry = record { lsn = lsn; says = said_by bytes } in
    let is_reading : made ≡ reading entry = one its_lsn its_bytes in
    let whole : readings (take (suc n) log.entries) ≡ readings (take n log.entries) ++ reading entry ∷ [] =
    ap readings (take-get log.entries n entry is) ∙ readings-push (take n log.entries) entry in
    record {
      so_far = ap (λ (l : List ReadEntry). l ++ made ∷ []) has.so_far ∙ ap (λ (r : ReadEntry). readings (take n log.entries) ++ r ∷ []) is_reading ∙ sym whole;
      within = let below = inside log.entries n entry is in omega arith;
    }
  where
    one : {lsn : ℕ} {bytes : List ℕ} {entry : LogEntry} → lsn ≡ entry.lsn → bytes ≡ entry.bytes → (let r : ReadEntry = record { lsn = lsn; says = said_by bytes } in r) ≡ reading entry
    one {lsn} {bytes} {entry} its_lsn its_bytes = rw (its_lsn, its_bytes) refl

pub read-more : (told : Option Log) (n lsn : ℕ) (bytes : List ℕ) (items : List ReadEntry) → IfTold told (HasRead n items) → IfTold told (HoldsEntry n (Some lsn) bytes) →
    IfTold told (HasRead (n + 1) (items ++ record { lsn = lsn; says = said_by bytes } ∷ []))
read-more None n lsn bytes items has holds = tt
read-more (Some log) n lsn bytes items has holds =
    let more : List ReadEntry = items ++ record { lsn = lsn; says = said_by bytes } ∷ [] in
    let next : suc n ≡ n + 1 = omega arith in
    subst (λ (m : ℕ). HasRead m more log) next (read-one log n lsn bytes items (slice_get log.entries n) refl holds has)

-- no more
read-end : (log : Log) (n : ℕ) (bytes : List ℕ) (items : List ReadEntry) (held : Option LogEntry) → slice_get log.entries n ≡ held →
    LogEntryIsRead held None bytes → HasRead n items log → (items ≡ readings log.entries) × (length log.entries ≤ n)
read-end log n bytes items None is read has =
    let short : length log.entries ≤ n = past log.entries n is in
    (has.so_far ∙ ap readings (take-all log.entries n short), short)
read-end log n bytes items (Some entry) is read has = absurd (cc)

pub read-all : (told : Option Log) (n : ℕ) (bytes : List ℕ) (items : List ReadEntry) → n ≤ 4194304 → IfTold told (HasRead n items) → IfTold told (HoldsEntry n None bytes) →
    IfTold told (λ log. (items ≡ readings log.entries) × (length log.entries ≤ 4194304))
read-all None n bytes items few has holds = tt
read-all (Some log) n bytes items few has holds =
    let end = read-end log n bytes items (slice_get log.entries n) refl holds has in
    (end.0, let short = end.1 in omega arith)

-- too many
read-past : (log : Log) (n lsn : ℕ) (bytes : List ℕ) (held : Option LogEntry) → slice_get log.entries n ≡ held → LogEntryIsRead held (Some lsn) bytes → n < length log.entries
read-past log n lsn bytes None is read = absurd (cc)
read-past log n lsn bytes (Some entry) is read = inside log.entries n entry is

pub read-too_many : (told : Option Log) (n lsn : ℕ) (bytes : List ℕ) → IfTold told (HoldsEntry n (Some lsn) bytes) → IfTold told (λ log. n < length log.entries)
read-too_many None n lsn bytes holds = tt
read-too_many (Some log) n lsn bytes holds = read-past log n lsn bytes (slice_get log.entries n) refl holds

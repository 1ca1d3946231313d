-- A byte of a page as the updates of a log leave it, all of them and those that are redone.
use Rattle.std.specs.Prelude.{◌≡◌, ℕ, zero, suc, ◌+◌, ◌-◌, ◌*◌, ◌<◌, ◌≤◌, ◌⊎◌, ◌&&◌, ◌==◌, Bool, true, false, nat_le, nat_lt, min, max, List, [], ◌∷◌, length, Contains, slice_index, refl, if◌then◌else◌}
use Rattle.std.specs.List.{AllByRecursion, cons_option, filter_map, list_any}
use Rattle.std.specs.declared.option.Option.{Option}
use Rattle.std.specs.declared.option.Option.TheVariants.{Some, None}
use Rattle.std.proofs.Common.{ap, sym, subst, ◌∙◌, inl, inr, arith}
use Rattle.std.proofs.lemmas.Bool.{leb-true, leb-false, le-leb, or_left, or_right}
use Rattle.cc_traits.specs.Log.{LogEntry}
use Rattle.cc_format.specs.declared.log.OldestRow.{OldestRow}
use Rattle.cc_redo.specs.Changes.{byte_after, byte_by}
use Rattle.cc_redo.specs.Heard.{Change, change_said, end_of_change, from_behind, from_said, is_given, oldest_given_in, raised_by_change, reading, readings, redone_by, redone_of, valid_behind}
use Rattle.cc_redo.specs.Reading.{said_by}
use Rattle.cc_redo.specs.declared.record.LogRecord.{LogRecord}
use Rattle.cc_redo.specs.declared.record.LogRecord.TheVariants.{Update, Checkpoint}
use Rattle.cc_redo.specs.declared.redo.Redo.{Redo}
use Rattle.cc_restart_laws.specs.Stops.{AreAscending, valid_after_changes}

-- one of a list
abbrev pub IsAmong : {A : Type 0} → List A → A → Type 0
IsAmong [] x = ⊥
IsAmong (y ∷ ys) x = (x ≡ y) ⊎ IsAmong ys x

all-among : {A : Type 0} (P : A → Type 0) (xs : List A) (x : A) → AllByRecursion P xs → IsAmong xs x → P x
all-among P [] x all among = absurd among
all-among P (y ∷ ys) x all (inl same) = subst P (sym same) all.0
all-among P (y ∷ ys) x all (inr among) = all-among P ys x all.1 among

-- whether a change gives a place of a page its byte, and that byte
abbrev pub covers : Change → ℕ → ℕ → Bool
covers change page place = nat_lt place 4096 && (nat_le change.at (4096 * page + place) && nat_lt (4096 * page + place) (end_of_change change))

abbrev pub own_byte : Change → ℕ → ℕ → ℕ
own_byte change page place = slice_index change.bytes (4096 * page + place - change.at)

abbrev pub all_of : Redo → List LogEntry → List Change
all_of redo entries = filter_map (λ entry. change_said redo (said_by entry.bytes)) entries

by-covered : (change : Change) (page place byte : ℕ) → covers change page place ≡ true → byte_by change page place byte ≡ own_byte change page place
by-covered change page place byte is = rw is refl

by-uncovered : (change : Change) (page place byte : ℕ) → covers change page place ≡ false → byte_by change page place byte ≡ byte
by-uncovered change page place byte is = rw is refl

module _ (redo : Redo) (from page place : ℕ) where
  -- an entry that gives the place its byte
  abbrev pub Gives : LogEntry → Change → Type 0
  Gives entry change = (change_said redo (said_by entry.bytes) ≡ Some change) × (covers change page place ≡ true)

  -- no entry does
  pub record IsUngiven (entries : List LogEntry) : Type 0 where
    pub none : (entry : LogEntry) (change : Change) → IsAmong entries entry → Gives entry change → ⊥
    pub all : (byte : ℕ) → byte_after (all_of redo entries) page place byte ≡ byte
    pub redone : (byte : ℕ) → byte_after (redone_of redo from (readings entries)) page place byte ≡ byte

  -- the last that does decides it; those redone do not where it is not among them
  pub record IsGivenBy (entries : List LogEntry) : Type 0 where
    pub entry : LogEntry
    pub change : Change
    pub among : IsAmong entries entry
    pub gives : Gives entry change
    pub last : (other : LogEntry) (its : Change) → IsAmong entries other → Gives other its → other.lsn ≤ entry.lsn
    pub all : (byte : ℕ) → byte_after (all_of redo entries) page place byte ≡ own_byte change page place
    pub late : from ≤ entry.lsn → (byte : ℕ) → byte_after (redone_of redo from (readings entries)) page place byte ≡ own_byte change page place
    pub early : entry.lsn < from → (byte : ℕ) → byte_after (redone_of redo from (readings entries)) page place byte ≡ byte

  abbrev pub IsDecidedSo : List LogEntry → Type 0
  IsDecidedSo entries = IsUngiven entries ⊎ IsGivenBy entries

  after-option : (o : Option Change) (changes : List Change) (byte : ℕ) → ℕ
  after-option None changes byte = byte_after changes page place byte
  after-option (Some change) changes byte = byte_after changes page place (byte_by change page place byte)

  passed-redone : (entry : LogEntry) (entries : List LogEntry) → redone_by redo from (reading entry) ≡ None → redone_of redo from (readings (entry ∷ entries)) ≡ redone_of redo from (readings entries)
  passed-redone entry entries none = rw none refl

  kept-redone : (entry : LogEntry) (entries : List LogEntry) (change : Change) → redone_by redo from (reading entry) ≡ Some change → redone_of redo from (readings (entry ∷ entries)) ≡ change ∷ redone_of redo from (readings entries)
  kept-redone entry entries change some = rw some refl

  passed-all : (entry : LogEntry) (entries : List LogEntry) → change_said redo (said_by entry.bytes) ≡ None → all_of redo (entry ∷ entries) ≡ all_of redo entries
  passed-all entry entries none = rw none refl

  kept-all : (entry : LogEntry) (entries : List LogEntry) (change : Change) → change_said redo (said_by entry.bytes) ≡ Some change → all_of redo (entry ∷ entries) ≡ change ∷ all_of redo entries
  kept-all entry entries change some = rw some refl

  redone-none : (entry : LogEntry) → change_said redo (said_by entry.bytes) ≡ None → redone_by redo from (reading entry) ≡ None
  redone-none entry none = go (nat_le from entry.lsn)
    where
      go : (b : Bool) → (if b then change_said redo (said_by entry.bytes) else None) ≡ None
      go true = none
      go false = refl

  redone-late : (entry : LogEntry) (change : Change) → change_said redo (said_by entry.bytes) ≡ Some change → nat_le from entry.lsn ≡ true → redone_by redo from (reading entry) ≡ Some change
  redone-late entry change said late = rw late said

  redone-early : (entry : LogEntry) → nat_le from entry.lsn ≡ false → redone_by redo from (reading entry) ≡ None
  redone-early entry early = rw early refl

  clash-some : (change other : Change) (b : Bool) → Some change ≡ Some other → covers change page place ≡ false → covers other page place ≡ true → ⊥
  clash-some change other b same bare covered = bad (sym covered ∙ (ap (λ (c : Change). covers c page place) (sym (some same)) ∙ bare))
    where
      bad : true ≡ false → ⊥
      bad is = cc

      some : Some change ≡ Some other → change ≡ other
      some is = cc

  none-said : (entry : LogEntry) (change : Change) → change_said redo (said_by entry.bytes) ≡ None → change_said redo (said_by entry.bytes) ≡ Some change → ⊥
  none-said entry change none some = cc

  -- an entry that gives the place nothing changes nothing of it
  longer : (entry : LogEntry) (entries : List LogEntry) → ((other : LogEntry) (change : Change) → other ≡ entry → Gives other change → ⊥) →
      ((byte : ℕ) → byte_after (all_of redo (entry ∷ entries)) page place byte ≡ byte_after (all_of redo entries) page place byte) →
      ((byte : ℕ) → byte_after (redone_of redo from (readings (entry ∷ entries))) page place byte ≡ byte_after (redone_of redo from (readings entries)) page place byte) → IsDecidedSo entries → IsDecidedSo (entry ∷ entries)
  longer entry entries idle all redone (inl k) = inl (record {
    none = λ other change among gives. go other change among gives;
    all = λ byte. all byte ∙ k.all byte;
    redone = λ byte. redone byte ∙ k.redone byte;
  })
    where
      go : (other : LogEntry) (change : Change) → IsAmong (entry ∷ entries) other → Gives other change → ⊥
      go other change (inl same) gives = idle other change same gives
      go other change (inr among) gives = k.none other change among gives
  longer entry entries idle all redone (inr k) = inr (record {
    entry = k.entry;
    change = k.change;
    among = inr k.among;
    gives = k.gives;
    last = λ other its among gives. go other its among gives;
    all = λ byte. all byte ∙ k.all byte;
    late = λ le byte. redone byte ∙ k.late le byte;
    early = λ lt byte. redone byte ∙ k.early lt byte;
  })
    where
      go : (other : LogEntry) (its : Change) → IsAmong (entry ∷ entries) other → Gives other its → other.lsn ≤ k.entry.lsn
      go other its (inl same) gives = absurd (idle other its same gives)
      go other its (inr among) gives = k.last other its among gives

  passed : (entry : LogEntry) (entries : List LogEntry) → change_said redo (said_by entry.bytes) ≡ None → IsDecidedSo entries → IsDecidedSo (entry ∷ entries)
  passed entry entries none k =
      longer entry entries
      (λ other change same gives. none-said entry change none (ap (λ (e : LogEntry). change_said redo (said_by e.bytes)) (sym same) ∙ gives.0))
      (λ byte. ap (λ (l : List Change). byte_after l page place byte) (passed-all entry entries none))
      (λ byte. ap (λ (l : List Change). byte_after l page place byte) (passed-redone entry entries (redone-none entry none))) k

  -- the same of one whose change does not cover the place, and of one that does
  aside : (entry : LogEntry) (entries : List LogEntry) (change : Change) → change_said redo (said_by entry.bytes) ≡ Some change → covers change page place ≡ false → IsDecidedSo entries → IsDecidedSo (entry ∷ entries)
  aside entry entries change said bare k =
      longer entry entries
      (λ other its same gives. clash-some change its true (sym said ∙ (ap (λ (e : LogEntry). change_said redo (said_by e.bytes)) (sym same) ∙ gives.0)) bare gives.1)
      (λ byte. ap (λ (l : List Change). byte_after l page place byte) (kept-all entry entries change said) ∙ ap (byte_after (all_of redo entries) page place) (by-uncovered change page place byte bare))
      (λ byte. go byte (nat_le from entry.lsn) refl) k
    where
      go : (byte : ℕ) (b : Bool) → nat_le from entry.lsn ≡ b → byte_after (redone_of redo from (readings (entry ∷ entries))) page place byte ≡ byte_after (redone_of redo from (readings entries)) page place byte
      go byte true late =
          ap (λ (l : List Change). byte_after l page place byte) (kept-redone entry entries change (redone-late entry change said late))
          ∙ ap (byte_after (redone_of redo from (readings entries)) page place) (by-uncovered change page place byte bare)
      go byte false early = ap (λ (l : List Change). byte_after l page place byte) (passed-redone entry entries (redone-early entry early))

  all-kept : (entry : LogEntry) (entries : List LogEntry) (change : Change) (byte : ℕ) → change_said redo (said_by entry.bytes) ≡ Some change →
      byte_after (all_of redo (entry ∷ entries)) page place byte ≡ byte_after (all_of redo entries) page place (byte_by change page place byte)
  all-kept entry entries change byte said = ap (λ (l : List Change). byte_after l page place byte) (kept-all entry entries change said)

  redone-kept : (entry : LogEntry) (entries : List LogEntry) (change : Change) (byte : ℕ) → change_said redo (said_by entry.bytes) ≡ Some change → from ≤ entry.lsn →
      byte_after (redone_of redo from (readings (entry ∷ entries))) page place byte ≡ byte_after (redone_of redo from (readings entries)) page place (byte_by change page place byte)
  redone-kept entry entries change byte said late =
      ap (λ (l : List Change). byte_after l page place byte) (kept-redone entry entries change (redone-late entry change said (le-leb from entry.lsn late)))

  redone-passed : (entry : LogEntry) (entries : List LogEntry) (byte : ℕ) → entry.lsn < from → byte_after (redone_of redo from (readings (entry ∷ entries))) page place byte ≡ byte_after (redone_of redo from (readings entries)) page place byte
  redone-passed entry entries byte early = ap (λ (l : List Change). byte_after l page place byte) (passed-redone entry entries (redone-early entry (go (nat_le from entry.lsn) refl)))
    where
      go : (b : Bool) → nat_le from entry.lsn ≡ b → nat_le from entry.lsn ≡ false
      go false is = is
      go true is = let le = leb-true from entry.lsn is in absurd (omega (arith, le, early))

  covering : (entry : LogEntry) (entries : List LogEntry) (change : Change) → AllByRecursion (λ later. entry.lsn < later.lsn) entries → change_said redo (said_by entry.bytes) ≡ Some change → covers change page place ≡ true → IsDecidedSo entries → IsDecidedSo (entry ∷ entries)
  covering entry entries change above said covered (inl k) = inr (record {
    entry = entry;
    change = change;
    among = inl refl;
    gives = (said, covered);
    last = λ other its among gives. go other its among gives;
    all = λ byte. all-kept entry entries change byte said ∙ (k.all (byte_by change page place byte) ∙ by-covered change page place byte covered);
    late = λ le byte. redone-kept entry entries change byte said le ∙ (k.redone (byte_by change page place byte) ∙ by-covered change page place byte covered);
    early = λ lt byte. redone-passed entry entries byte lt ∙ k.redone byte;
  })
    where
      same-lsn : (a b : LogEntry) → a ≡ b → a.lsn ≤ b.lsn
      same-lsn a b same = let lsn : a.lsn ≡ b.lsn = ap (λ (e : LogEntry). e.lsn) same in omega arith

      go : (other : LogEntry) (its : Change) → IsAmong (entry ∷ entries) other → Gives other its → other.lsn ≤ entry.lsn
      go other its (inl same) gives = same-lsn other entry same
      go other its (inr among) gives = absurd (k.none other its among gives)
  covering entry entries change above said covered (inr k) = inr (record {
    entry = k.entry;
    change = k.change;
    among = inr k.among;
    gives = k.gives;
    last = λ other its among gives. go other its among gives;
    all = λ byte. all-kept entry entries change byte said ∙ k.all (byte_by change page place byte);
    late = λ le byte. late le byte (nat_le from entry.lsn) refl;
    early = λ lt byte. redone-passed entry entries byte (omega (arith, lt, higher)) ∙ k.early lt byte;
  })
    where
      higher : entry.lsn < k.entry.lsn
      higher = all-among (λ (later : LogEntry). entry.lsn < later.lsn) entries k.entry above k.among

      same-lsn : (a b : LogEntry) → a ≡ b → a.lsn ≡ b.lsn
      same-lsn a b same = ap (λ (e : LogEntry). e.lsn) same

      go : (other : LogEntry) (its : Change) → IsAmong (entry ∷ entries) other → Gives other its → other.lsn ≤ k.entry.lsn
      go other its (inl same) gives = let lsn = same-lsn other entry same in omega (arith, higher, lsn)
      go other its (inr among) gives = k.last other its among gives

      late : from ≤ k.entry.lsn → (byte : ℕ) (b : Bool) → nat_le from entry.lsn ≡ b → byte_after (redone_of redo from (readings (entry ∷ entries))) page place byte ≡ own_byte k.change page place
      late le byte true is = redone-kept entry entries change byte said (leb-true from entry.lsn is) ∙ k.late le (byte_by change page place byte)
      late le byte false is = redone-passed entry entries byte (leb-false from entry.lsn is) ∙ k.late le byte

  pub decided-so : (entries : List LogEntry) → AreAscending entries → IsDecidedSo entries
  decided-so [] ascending = inl (record { none = λ entry change among gives. among; all = λ byte. refl; redone = λ byte. refl })
  decided-so (entry ∷ entries) ascending = go (change_said redo (said_by entry.bytes)) refl (decided-so entries ascending.1)
    where
      either : (change : Change) → change_said redo (said_by entry.bytes) ≡ Some change → (b : Bool) → covers change page place ≡ b → IsDecidedSo entries → IsDecidedSo (entry ∷ entries)
      either change said true covered k = covering entry entries change ascending.0 said covered k
      either change said false bare k = aside entry entries change said bare k

      go : (o : Option Change) → change_said redo (said_by entry.bytes) ≡ o → IsDecidedSo entries → IsDecidedSo (entry ∷ entries)
      go None none k = passed entry entries none k
      go (Some change) said k = either change said (covers change page place) refl k

-- ---- the valid data length

raised-more : (valid : ℕ) (o : Option Change) → valid ≤ raised_by_change valid o
raised-more valid None = omega arith
raised-more valid (Some change) = omega arith

pub valid-least : (redo : Redo) (entries : List LogEntry) (valid : ℕ) → valid ≤ valid_behind (readings entries) redo valid
valid-least redo [] valid = omega arith
valid-least redo (entry ∷ entries) valid =
    let here = raised-more valid (change_said redo (said_by entry.bytes)) in
    let rest = valid-least redo entries (raised_by_change valid (change_said redo (said_by entry.bytes))) in
    omega arith

-- a place below it is below what was given, or below the end of an update
pub record EndsBehind (redo : Redo) (entries : List LogEntry) (i : ℕ) : Type 0 where
  pub entry : LogEntry
  pub change : Change
  pub among : IsAmong entries entry
  pub said : change_said redo (said_by entry.bytes) ≡ Some change
  pub below : i < end_of_change change

pub valid-cases : (redo : Redo) (entries : List LogEntry) (valid i : ℕ) → i < valid_behind (readings entries) redo valid → (i < valid) ⊎ EndsBehind redo entries i
valid-cases redo [] valid i below = inl below
valid-cases redo (entry ∷ entries) valid i below = go (change_said redo (said_by entry.bytes)) refl (valid-cases redo entries (raised_by_change valid (change_said redo (said_by entry.bytes))) i below)
  where
    far : EndsBehind redo entries i → EndsBehind redo (entry ∷ entries) i
    far k = record { entry = k.entry; change = k.change; among = inr k.among; said = k.said; below = k.below }

    here : (change : Change) → change_said redo (said_by entry.bytes) ≡ Some change → (b : Bool) → nat_lt i valid ≡ b → i < max valid (end_of_change change) → (i < valid) ⊎ EndsBehind redo (entry ∷ entries) i
    here change said true is lt = inl (ltb i valid is)
      where
        ltb : (a b : ℕ) → nat_lt a b ≡ true → a < b
        ltb a b is = grind arith
    here change said false is lt = inr (record { entry = entry; change = change; among = inl refl; said = said; below = less i valid (end_of_change change) is lt })
      where
        less : (a b c : ℕ) → nat_lt a b ≡ false → a < max b c → a < c
        less a b c is lt = grind arith

    go : (o : Option Change) → change_said redo (said_by entry.bytes) ≡ o → (i < raised_by_change valid o) ⊎ EndsBehind redo entries i → (i < valid) ⊎ EndsBehind redo (entry ∷ entries) i
    go o said (inr k) = inr (far k)
    go None said (inl lt) = inl lt
    go (Some change) said (inl lt) = here change said (nat_lt i valid) refl lt

-- the end of an update is no farther
pub valid-ends : (redo : Redo) (entries : List LogEntry) (valid : ℕ) (entry : LogEntry) (change : Change) → IsAmong entries entry → change_said redo (said_by entry.bytes) ≡ Some change → end_of_change change ≤ valid_behind (readings entries) redo valid
valid-ends redo [] valid entry change among said = absurd among
valid-ends redo (first ∷ entries) valid entry change (inl same) said =
    let its : change_said redo (said_by first.bytes) ≡ Some change = ap (λ (e : LogEntry). change_said redo (said_by e.bytes)) (sym same) ∙ said in
    let rest = valid-least redo entries (raised_by_change valid (change_said redo (said_by first.bytes))) in
    let reached : raised_by_change valid (change_said redo (said_by first.bytes)) ≡ max valid (end_of_change change) = ap (raised_by_change valid) its in
    omega arith
valid-ends redo (first ∷ entries) valid entry change (inr among) said = valid-ends redo entries (raised_by_change valid (change_said redo (said_by first.bytes))) entry change among said

raised-within : (valid size : ℕ) (redo : Redo) (o : Option LogRecord) → size ≡ redo.size → valid ≤ size → raised_by_change valid (change_said redo o) ≤ size
raised-within valid size redo None same within = within
raised-within valid size redo (Some (Checkpoint rows)) same within = within
raised-within valid size redo (Some (Update stream at bytes)) same within = go (stream == redo.stream) (nat_le (at + length bytes) redo.size) refl
  where
    go : (b c : Bool) → nat_le (at + length bytes) redo.size ≡ c → raised_by_change valid (if b && c then Some (record { at = at; bytes = bytes }) else None) ≤ size
    go true true is = let le = leb-true (at + length bytes) redo.size is in omega arith
    go true false is = within
    go false c is = within

pub valid-within : (redo : Redo) (entries : List LogEntry) (valid : ℕ) → valid ≤ redo.size → valid_behind (readings entries) redo valid ≤ redo.size
valid-within redo [] valid within = within
valid-within redo (entry ∷ entries) valid within = valid-within redo entries (raised_by_change valid (change_said redo (said_by entry.bytes))) (raised-within valid redo.size redo (said_by entry.bytes) refl within)

-- ---- the updates as the definitions name them

pub valid-same : (redo : Redo) (entries : List LogEntry) (valid : ℕ) → valid_after_changes (all_of redo entries) valid ≡ valid_behind (readings entries) redo valid
valid-same redo [] valid = refl
valid-same redo (entry ∷ entries) valid = go (change_said redo (said_by entry.bytes)) refl (λ (v : ℕ). valid-same redo entries v)
  where
    go : (o : Option Change) → change_said redo (said_by entry.bytes) ≡ o → ((v : ℕ) → valid_after_changes (all_of redo entries) v ≡ valid_behind (readings entries) redo v) →
        valid_after_changes (cons_option o (all_of redo entries)) valid ≡ valid_behind (readings entries) redo (raised_by_change valid o)
    go None is rest = rest valid
    go (Some change) is rest = rest (max valid (end_of_change change))

-- ---- from where updates are redone

pub record IsFromCheckpoint (streams : List Redo) (entries : List LogEntry) (from : ℕ) : Type 0 where
  pub entry : LogEntry
  pub rows : List OldestRow
  pub among : IsAmong entries entry
  pub says : (said_by entry.bytes) ≡ Some (Checkpoint rows)
  pub is : from ≡ oldest_given_in streams entry.lsn rows

pub from-cases : (streams : List Redo) (entries : List LogEntry) (from : ℕ) → (from_behind streams from (readings entries) ≡ from) ⊎ IsFromCheckpoint streams entries (from_behind streams from (readings entries))
from-cases streams [] from = inl refl
from-cases streams (entry ∷ entries) from = go (said_by entry.bytes) refl (from-cases streams entries (from_said streams from (reading entry)))
  where
    far : IsFromCheckpoint streams entries (from_behind streams (from_said streams from (reading entry)) (readings entries)) → IsFromCheckpoint streams (entry ∷ entries) (from_behind streams (from_said streams from (reading entry)) (readings entries))
    far k = record { entry = k.entry; rows = k.rows; among = inr k.among; says = k.says; is = k.is }

    said : (o : Option LogRecord) → (said_by entry.bytes) ≡ o → from_said streams from (reading entry) ≡ from_said streams from (record { lsn = entry.lsn; says = o })
    said o is = ap (λ (x : Option LogRecord). from_said streams from (record { lsn = entry.lsn; says = x })) is

    go : (o : Option LogRecord) → (said_by entry.bytes) ≡ o → (from_behind streams (from_said streams from (reading entry)) (readings entries) ≡ from_said streams from (reading entry)) ⊎ IsFromCheckpoint streams entries (from_behind streams (from_said streams from (reading entry)) (readings entries)) →
        (from_behind streams (from_said streams from (reading entry)) (readings entries) ≡ from) ⊎ IsFromCheckpoint streams (entry ∷ entries) (from_behind streams (from_said streams from (reading entry)) (readings entries))
    go o says (inr k) = inr (far k)
    go None says (inl same) = inl (same ∙ said None says)
    go (Some (Update stream at bytes)) says (inl same) = inl (same ∙ said (Some (Update stream at bytes)) says)
    go (Some (Checkpoint rows)) says (inl same) = inr (record { entry = entry; rows = rows; among = inl refl; says = says; is = same ∙ said (Some (Checkpoint rows)) says })

-- it is no farther than the checkpoint, and than the oldest LSN of each row of a given stream
pub oldest-least : (streams : List Redo) (lsn : ℕ) (rows : List OldestRow) → oldest_given_in streams lsn rows ≤ lsn
oldest-least streams lsn [] = omega arith
oldest-least streams lsn (row ∷ rows) = go (is_given streams row.stream) (λ (n : ℕ). oldest-least streams n rows)
  where
    go : (b : Bool) → ((n : ℕ) → oldest_given_in streams n rows ≤ n) → oldest_given_in streams (if b then min lsn row.oldest else lsn) rows ≤ lsn
    go true rest = let le = rest (min lsn row.oldest) in omega arith
    go false rest = rest lsn

pub oldest-row : (streams : List Redo) (lsn : ℕ) (rows : List OldestRow) (row : OldestRow) → IsAmong rows row → is_given streams row.stream ≡ true → oldest_given_in streams lsn rows ≤ row.oldest
oldest-row streams lsn [] row among given = absurd among
oldest-row streams lsn (first ∷ rows) row (inl same) given =
    let its : is_given streams first.stream ≡ true = ap (λ (r : OldestRow). is_given streams r.stream) (sym same) ∙ given in
    let oldest : first.oldest ≡ row.oldest = ap (λ (r : OldestRow). r.oldest) (sym same) in
    go (is_given streams first.stream) its oldest
  where
    go : (b : Bool) → b ≡ true → first.oldest ≡ row.oldest → oldest_given_in streams (if b then min lsn first.oldest else lsn) rows ≤ row.oldest
    go true is oldest = let le = oldest-least streams (min lsn first.oldest) rows in omega arith
    go false is oldest = absurd (cc)
oldest-row streams lsn (first ∷ rows) row (inr among) given = oldest-row streams (if is_given streams first.stream then min lsn first.oldest else lsn) rows row among given

pub contains-any : {A : Type 0} (test : A → Bool) (xs : List A) (x : A) → Contains xs x → test x ≡ true → list_any test xs ≡ true
contains-any test [] x (k, below, is) passes = absurd (omega (arith, below))
contains-any test (y ∷ ys) x (zero, below, is) passes = or_left (test y) (list_any test ys) (ap test is ∙ passes)
contains-any test (y ∷ ys) x (suc k, below, is) passes = or_right (test y) (list_any test ys) (contains-any test ys x (k, omega (arith, below), is) passes)

-- Which pages changes change, and which page a fault names.
use Rattle.std.specs.Prelude.{◌≡◌, ◌≢◌, ℕ, zero, suc, ◌+◌, ◌*◌, ◌<◌, Bool, true, false, ◌||◌, is_some, List, [], ◌∷◌, length, ◌⊎◌, refl}
use Rattle.std.specs.declared.option.Option.{Option}
use Rattle.std.specs.declared.option.Option.TheVariants.{Some, None}
use Rattle.std.specs.Ordering.{nat_cmp}
use Rattle.std.specs.BTreeMap.{BTreeMap, get}
use Rattle.std.proofs.Common.{ap, sym, subst, ◌∙◌, arith, inl, inr, get_or}
use Rattle.std.proofs.lemmas.Bool.Decides.{nat_tests}
use Rattle.cc_entry.specs.declared.error.CcError.{CcError}
use Rattle.cc_entry.specs.declared.error.CcError.TheVariants as error
use Rattle.cc_traits.specs.declared.stop.Stop.{Stop}
use Rattle.cc_traits.specs.declared.stop.Stop.TheVariants as stop
use Rattle.cc_traits.specs.Told.{Both}
use Rattle.cc_traits.specs.Disk.{Disk, Settled, WriteFailed, Wrote}
use Rattle.cc_redo.specs.declared.redo.Redo.{Redo}
use Rattle.cc_redo.specs.declared.scan.ReadEntry.{ReadEntry}
use Rattle.cc_redo.specs.Heard.{Change, end_of_change, redone_by, redone_of}
use Rattle.cc_redo.specs.Changes.{change_covers, is_changed}
use Rattle.cc_redo.specs.Disks.{record_number}
use Rattle.cc_redo.specs.Scanned.{DataIsSettled, IsPagesRefusal, IsReadRefusal, IsSettleRefusal, IsWriteRefusal, write_refusal_of}
use Rattle.cc_redo.proofs.Options.{both-then}
use Rattle.cc_redo.proofs.Writes.{all-settled, settling-behind, settling-failed, settling-wrote}

-- a page in which a change that has bytes ends and begins
pub covers-within : (change : Change) (page : ℕ) → change.at < end_of_change change → change.at < 4096 * page + 4096 → 4096 * page < end_of_change change →
    change_covers change page ≡ true
covers-within change page some begins ends = grind (arith, nat_tests)

or-right : (b c : Bool) → c ≡ true → (b || c) ≡ true
or-right true c e = refl
or-right false c e = e

or-left : (b c : Bool) → b ≡ true → (b || c) ≡ true
or-left true c e = refl
or-left false c e = absurd (cc)

-- what one of the entries changes is changed
changed-behind : (redo : Redo) (from : ℕ) (first : ReadEntry) (rest : List ReadEntry) (page : ℕ) (o : Option Change) → redone_by redo from first ≡ o →
    is_changed (redone_of redo from rest) page ≡ true → is_changed (redone_of redo from (first ∷ rest)) page ≡ true
changed-behind redo from first rest page None none later =
    let same : redone_of redo from (first ∷ rest) ≡ redone_of redo from rest = rw none refl in
    ap (λ (l : List Change). is_changed l page) same ∙ later
changed-behind redo from first rest page (Some change) some later =
    let same : redone_of redo from (first ∷ rest) ≡ change ∷ redone_of redo from rest = rw some refl in
    ap (λ (l : List Change). is_changed l page) same ∙ or-right (change_covers change page) (is_changed (redone_of redo from rest) page) later

pub changed-by : (redo : Redo) (from : ℕ) (entries : List ReadEntry) (i : ℕ) (entry : ReadEntry) (change : Change) (page : ℕ) → i < length entries →
    entry ≡ get_or entries i entry → redone_by redo from entry ≡ Some change → change_covers change page ≡ true → is_changed (redone_of redo from entries) page ≡ true
changed-by redo from [] i entry change page below is some covered = absurd (omega arith)
changed-by redo from (first ∷ rest) zero entry change page below is some covered =
    let here : redone_by redo from first ≡ Some change = ap (redone_by redo from) (sym is) ∙ some in
    let same : redone_of redo from (first ∷ rest) ≡ change ∷ redone_of redo from rest = rw here refl in
    ap (λ (l : List Change). is_changed l page) same ∙ or-left (change_covers change page) (is_changed (redone_of redo from rest) page) covered
changed-by redo from (first ∷ rest) (suc i) entry change page below is some covered =
    changed-behind redo from first rest page (redone_by redo from first) refl (changed-by redo from rest i entry change page (omega arith) is some covered)

-- so what no entry changes, this one does not
unchanged : (b : Bool) → b ≡ false → (b ≡ true → ⊥)
unchanged true e t = absurd (cc)
unchanged false e t = absurd (cc)

pub spared-by : (redo : Redo) (from : ℕ) (entries : List ReadEntry) (i : ℕ) (entry : ReadEntry) (change : Change) (page : ℕ) → i < length entries →
    entry ≡ get_or entries i entry → redone_by redo from entry ≡ Some change → is_changed (redone_of redo from entries) page ≡ false → change_covers change page ≡ false
spared-by redo from entries i entry change page below is some none = by (change_covers change page) refl
  where
    by : (b : Bool) → change_covers change page ≡ b → change_covers change page ≡ false
    by false e = e
    by true e = absurd (unchanged (is_changed (redone_of redo from entries) page) none (changed-by redo from entries i entry change page below is some e))

-- pages that are kept, of a change and of entries
abbrev pub IsApart : Change → BTreeMap ℕ (List ℕ) → BTreeMap ℕ (List ℕ) → Type 0
IsApart change old now = (page : ℕ) → change_covers change page ≡ false → get nat_cmp now page ≡ get nat_cmp old page

abbrev pub AreChanged : List Change → BTreeMap ℕ (List ℕ) → Type 0
AreChanged changes kept = (page : ℕ) → is_changed changes page ≡ false → get nat_cmp kept page ≡ None

pub apart-step : (change : Change) (k : ℕ) (old now new : BTreeMap ℕ (List ℕ)) → change_covers change k ≡ true →
    ((q : ℕ) → q ≢ k → get nat_cmp new q ≡ get nat_cmp now q) → IsApart change old now → IsApart change old new
apart-step change k old now new covered others before = λ page e.
    others page (λ same. unchanged (change_covers change page) e (subst (λ (p : ℕ). change_covers change p ≡ true) (sym same) covered)) ∙ before page e

pub changed-kept : (changes : List Change) (kept : BTreeMap ℕ (List ℕ)) (page : ℕ) → AreChanged changes kept → is_some (get nat_cmp kept page) ≡ true →
    is_changed changes page ≡ true
changed-kept changes kept page are some = by (is_changed changes page) refl
  where
    by : (b : Bool) → is_changed changes page ≡ b → is_changed changes page ≡ true
    by true e = e
    by false e = let none : is_some (get nat_cmp kept page) ≡ false = ap (λ (o : Option (List ℕ)). is_some o) (are page e) in absurd (cc)

-- a refusal by a read or a write of such a page
pub read-so : (P Q : ℕ → Type 0) (e : CcError) → ((page : ℕ) → P page → Q page) → IsReadRefusal P e → IsReadRefusal Q e
read-so P Q (error.ReadFault page) weaker refused = weaker page refused
read-so P Q error.NoMemory weaker refused = tt
read-so P Q other weaker refused = absurd refused

pub write-so : (P Q : ℕ → Type 0) (e : CcError) → ((page : ℕ) → P page → Q page) → IsWriteRefusal P e → IsWriteRefusal Q e
write-so P Q (error.WriteFault page) weaker refused = weaker page refused
write-so P Q error.NoMemory weaker refused = tt
write-so P Q other weaker refused = absurd refused

pub write-at : (stopped : Stop) (page : ℕ) (P : ℕ → Type 0) → P page → IsWriteRefusal P (write_refusal_of page stopped)
write-at stop.Failed page P of_it = of_it
write-at stop.NoMemory page P of_it = tt

-- a page that is left is one that was kept
pub kept-some : (kept left : Option (List ℕ)) (content : List ℕ) → (kept ≡ None → left ≡ None) → left ≡ Some content → is_some kept ≡ true
kept-some (Some bytes) left content among is = refl
kept-some None left content among is = let none = among refl in absurd (cc (none, is))

pub pages-read : (changes : List Change) (old new : Option Disk) (e : CcError) → new ≡ old → IsReadRefusal (λ page. is_changed changes page ≡ true) e →
    IsPagesRefusal changes old new e
pages-read changes old new (error.ReadFault page) same refused = (refused, same)
pages-read changes old new error.NoMemory same refused = tt
pages-read changes old new other same refused = absurd refused

pub pages-written : (changes : List Change) (kept : BTreeMap ℕ (List ℕ)) (old new : Option Disk) (e : CcError) → AreChanged changes kept →
    IsWriteRefusal (λ page. is_some (get nat_cmp kept page) ≡ true) e → IsPagesRefusal changes old new e
pages-written changes kept old new (error.WriteFault page) are refused = changed-kept changes kept page are refused
pages-written changes kept old new error.NoMemory are refused = tt
pages-written changes kept old new other are refused = absurd refused

-- a refusal as the record is written: at the first sync, at the write, at the sync behind it
pub first-sync : (old new : Option Disk) (e : CcError) → new ≡ old → IsWriteRefusal (λ failed. failed ≡ 0) e → IsSettleRefusal old new e
first-sync old new e same refused = write-so (λ failed. failed ≡ 0) _ e (λ page is. inl (is, same)) refused

at-record : (old new : Option Disk) (e : CcError) → Both old new DataIsSettled → IsWriteRefusal (λ failed. failed ≡ record_number) e → IsSettleRefusal old new e
at-record old new e settled refused = write-so (λ failed. failed ≡ record_number) _ e (λ page is. inr (is, settled)) refused

data-synced : (old new : Disk) → Settled old new → DataIsSettled old new
data-synced old new synced = λ page e. (synced.holds page, synced.may page)

pub record-write : (told : List ℕ) (old now new : Option Disk) (e : CcError) → Both old now Settled →
    Both now new (λ o n. (n ≡ o) ⊎ WriteFailed record_number told o n) → IsWriteRefusal (λ failed. failed ≡ record_number) e → IsSettleRefusal old new e
record-write told old now new e first failed refused =
    at-record old new e
    (both-then Settled (λ o n. (n ≡ o) ⊎ WriteFailed record_number told o n) DataIsSettled old now new (λ o m n synced last. behind o m n synced last) first failed)
    refused
  where
    behind : (o m n : Disk) → Settled o m → (n ≡ m) ⊎ WriteFailed record_number told m n → DataIsSettled o n
    behind o m n synced (inl same) = subst (λ (d : Disk). DataIsSettled o d) (sym same) (data-synced o m synced)
    behind o m n synced (inr last) = (settling-behind told o m n synced (settling-failed told m n (all-settled o m synced) last)).others

pub last-sync : (told : List ℕ) (old now wrote new : Option Disk) (e : CcError) → Both old now Settled → Both now wrote (Wrote record_number told) →
    new ≡ wrote → IsWriteRefusal (λ failed. failed ≡ record_number) e → IsSettleRefusal old new e
last-sync told old now wrote new e first then same refused =
    at-record old new e
    (subst (λ (d : Option Disk). Both old d DataIsSettled) (sym same)
    (both-then Settled (Wrote record_number told) DataIsSettled old now wrote
    (λ o m n synced last. (settling-behind told o m n synced (settling-wrote told m n (all-settled o m synced) last)).others) first then))
    refused

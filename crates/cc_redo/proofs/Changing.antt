-- The pages that are kept, as changes are made in them.
use Rattle.std.specs.Prelude.{◌≡◌, ◌≢◌, ℕ, suc, ◌+◌, ◌*◌, ◌<◌, ◌≤◌, Bool, true, false, nat_le, List, [], ◌∷◌, length, drop, ◌⊎◌, Result, Ok, Err, OnOk, if◌then◌else◌, refl}
use Rattle.std.specs.declared.option.Option.{Option}
use Rattle.std.specs.declared.option.Option.TheVariants.{Some, None}
use Rattle.std.proofs.Common.{ap, sym, subst, ◌∙◌, arith, inl, inr, ⊎_elim, get_or}
use Rattle.std.proofs.Math.Seq.{drop-cons}
use Rattle.std.proofs.Math.ListN.{drop_of_length-le}
use Rattle.std.proofs.lemmas.Bool.Decides.{nat_tests}
use Rattle.std.proofs.lemmas.Bool.{cases_lt}
use Rattle.cc_traits.specs.Told.{Both, IfTold}
use Rattle.cc_traits.specs.Disk.{Disk, page_of}
use Rattle.cc_redo.specs.declared.redo.Redo.{Redo}
use Rattle.cc_redo.specs.declared.scan.ReadEntry.{ReadEntry}
use Rattle.cc_redo.specs.Heard.{Change, change_said, end_of_change, redone_by, redone_of}
use Rattle.cc_redo.specs.Changes.{page_after}
use Rattle.cc_redo.specs.Disks.{changed_page}
use Rattle.cc_redo.specs.Scanned.{HoldsMadePages, IsPartlyWritten}
use Rattle.cc_redo.proofs.Keeping.{told-both, told-map}
use Rattle.cc_redo.proofs.Options.{both-if, both-same, chosen, passed}
use Rattle.cc_redo.proofs.Patches.{after-cons, after-none, empty-stays, untouched}
use Rattle.cc_redo.proofs.Writes.{page_by, writing-begun}

-- The pages below n are as the change leaves them, and the others as they were.
pub record IsChanging (change : Change) (n : ℕ) (old now : ℕ → Option (List ℕ)) (disk : Disk) : Type 0 where
  pub behind : (page : ℕ) → page < n → page_by now disk page ≡ page_after (change ∷ []) page (page_by old disk page)
  pub ahead : (page : ℕ) → n ≤ page → page_by now disk page ≡ page_by old disk page

pub changing-begun : (change : Change) (n : ℕ) (old : ℕ → Option (List ℕ)) (disk : Disk) → 4096 * n ≤ change.at → IsChanging change n old old disk
changing-begun change n old disk first = record {
  behind = λ page below. sym (untouched change page (page_by old disk page) (inl (omega arith)));
  ahead = λ page _. refl;
}

pub changing-step : (change : Change) (n : ℕ) (old now new : ℕ → Option (List ℕ)) (disk : Disk) → IsChanging change n old now disk →
    page_by new disk n ≡ page_after (change ∷ []) n (page_by now disk n) → ((p : ℕ) → p ≢ n → page_by new disk p ≡ page_by now disk p) →
    IsChanging change (n + 1) old new disk
changing-step change n old now new disk changing changed others = record {
  behind = λ page below. behind_at page below (cases_lt page n);
  ahead = λ page after. others page (λ e. omega arith) ∙ changing.ahead page (omega arith);
}
  where
    behind_at : (page : ℕ) → page < n + 1 → (page < n) ⊎ (n ≤ page) → page_by new disk page ≡ page_after (change ∷ []) page (page_by old disk page)
    behind_at page below (inl less) = others page (λ e. omega arith) ∙ changing.behind page less
    behind_at page below (inr more) =
        let same : n ≡ page = omega arith in
        let here : page_by new disk n ≡ page_after (change ∷ []) n (page_by old disk n) =
        changed ∙ ap (λ (l : List ℕ). page_after (change ∷ []) n l) (changing.ahead n (omega arith)) in
        subst (λ (p : ℕ). page_by new disk p ≡ page_after (change ∷ []) p (page_by old disk p)) same here

-- all pages are as the change leaves them
abbrev pub IsChanged : Change → (ℕ → Option (List ℕ)) → (ℕ → Option (List ℕ)) → Disk → Type 0
IsChanged change old now disk = (page : ℕ) → page_by now disk page ≡ page_after (change ∷ []) page (page_by old disk page)

pub changing-done : (change : Change) (n : ℕ) (old now : ℕ → Option (List ℕ)) (disk : Disk) → end_of_change change ≤ 4096 * n → IsChanging change n old now disk →
    IsChanged change old now disk
changing-done change n old now disk last changing = λ page. page_at page (cases_lt page n)
  where
    page_at : (page : ℕ) → (page < n) ⊎ (n ≤ page) → page_by now disk page ≡ page_after (change ∷ []) page (page_by old disk page)
    page_at page (inl less) = changing.behind page less
    page_at page (inr more) = changing.ahead page more ∙ sym (untouched change page (page_by old disk page) (inr (omega arith)))

pub changing-none : (change : Change) (old : ℕ → Option (List ℕ)) (disk : Disk) → length change.bytes ≡ 0 → IsChanged change old old disk
changing-none change old disk none = λ page. sym (empty-stays change page 0 (page_by old disk page) none)

-- What is left of the entries makes of the pages as they are kept what all of them make of the pages of the disk.
abbrev pub IsRedoing : Redo → ℕ → List ReadEntry → List ReadEntry → (ℕ → Option (List ℕ)) → Disk → Type 0
IsRedoing redo from rest entries kept disk =
    (page : ℕ) → page_after (redone_of redo from rest) page (page_by kept disk page) ≡ page_after (redone_of redo from entries) page (page_of disk page)

pub redoing-passed : (redo : Redo) (from : ℕ) (entry : ReadEntry) (rest entries : List ReadEntry) (kept : ℕ → Option (List ℕ)) (disk : Disk) →
    redone_by redo from entry ≡ None → IsRedoing redo from (entry ∷ rest) entries kept disk → IsRedoing redo from rest entries kept disk
redoing-passed redo from entry rest entries kept disk none redoing = λ page.
    let same : redone_of redo from (entry ∷ rest) ≡ redone_of redo from rest = rw none refl in
    ap (λ (l : List Change). page_after l page (page_by kept disk page)) (sym same) ∙ redoing page

pub redoing-changed : (redo : Redo) (from : ℕ) (entry : ReadEntry) (rest entries : List ReadEntry) (change : Change) (old now : ℕ → Option (List ℕ)) (disk : Disk) →
    redone_by redo from entry ≡ Some change → IsChanged change old now disk → IsRedoing redo from (entry ∷ rest) entries old disk →
    IsRedoing redo from rest entries now disk
redoing-changed redo from entry rest entries change old now disk some changed redoing = λ page.
    let same : redone_of redo from (entry ∷ rest) ≡ change ∷ redone_of redo from rest = rw some refl in
    ap (λ (l : List ℕ). page_after (redone_of redo from rest) page l) (changed page)
    ∙ sym (after-cons change (redone_of redo from rest) page 0 (page_by old disk page))
    ∙ ap (λ (l : List Change). page_after l page (page_by old disk page)) (sym same)
    ∙ redoing page

pub redoing-done : (redo : Redo) (from : ℕ) (entries : List ReadEntry) (kept : ℕ → Option (List ℕ)) (disk : Disk) → IsRedoing redo from [] entries kept disk →
    (page : ℕ) → page_by kept disk page ≡ changed_page (redone_of redo from entries) disk page
redoing-done redo from entries kept disk redoing = λ page. sym (after-none page 0 (page_by kept disk page)) ∙ redoing page

-- pages that are to be written, by what is made of them
pub writing-same : (made other : ℕ → List ℕ) (old new : Disk) → ((page : ℕ) → made page ≡ other page) → IsPartlyWritten made old new → IsPartlyWritten other old new
writing-same made other old new same writing = record {
  pages = record {
    holds = writing.pages.holds;
    may = λ page bytes c. ⊎_elim (λ was. inl was) (λ (is : bytes ≡ made page). inr (is ∙ same page)) (writing.pages.may page bytes c);
  };
  stands = writing.stands;
}

pub holds-same : (made other : ℕ → List ℕ) (new : Disk) → ((page : ℕ) → made page ≡ other page) → HoldsMadePages made new → HoldsMadePages other new
holds-same made other new same holds = λ page. holds page ∙ same page

-- the entries one by one
drop-item : {A : Type 0} (l : List A) (i : ℕ) (x : A) → i < length l → x ≡ get_or l i x → drop i l ≡ x ∷ drop (i + 1) l
drop-item {A} l i x below is =
    let next : suc i ≡ i + 1 = omega arith in
    drop-cons l i x below ∙ ap (λ (y : A). y ∷ drop (suc i) l) (sym is) ∙ ap (λ (n : ℕ). x ∷ drop n l) next

pub redone-some : (redo : Redo) (from : ℕ) (entry : ReadEntry) (change : Change) → from ≤ entry.lsn → change_said redo entry.says ≡ Some change → redone_by redo from entry ≡ Some change
redone-some redo from entry change late some = chosen (nat_le from entry.lsn) (change_said redo entry.says) None (grind (arith, nat_tests)) ∙ some

redone-early : (redo : Redo) (from : ℕ) (entry : ReadEntry) → entry.lsn < from → redone_by redo from entry ≡ None
redone-early redo from entry early = passed (nat_le from entry.lsn) (change_said redo entry.says) None (grind (arith, nat_tests))

redone-none : (redo : Redo) (from : ℕ) (entry : ReadEntry) → change_said redo entry.says ≡ None → redone_by redo from entry ≡ None
redone-none redo from entry none = either (nat_le from entry.lsn) (change_said redo entry.says) none
  where
    either : (tested : Bool) (o : Option Change) → o ≡ None → (if tested then o else None) ≡ None
    either true o none = none
    either false o none = refl

pub entry-changed : (told : Option Disk) (redo : Redo) (from i : ℕ) (entries : List ReadEntry) (entry : ReadEntry) (change : Change) (old now : ℕ → Option (List ℕ)) →
    i < length entries → entry ≡ get_or entries i entry → from ≤ entry.lsn → change_said redo entry.says ≡ Some change →
    IfTold told (IsChanged change old now) → IfTold told (IsRedoing redo from (drop i entries) entries old) → IfTold told (IsRedoing redo from (drop (i + 1) entries) entries now)
entry-changed told redo from i entries entry change old now below is late some changed redoing =
    let split : drop i entries ≡ entry ∷ drop (i + 1) entries = drop-item entries i entry below is in
    told-both (IsChanged change old now) (IsRedoing redo from (drop i entries) entries old) (IsRedoing redo from (drop (i + 1) entries) entries now) told
    (λ disk ch re.
    redoing-changed redo from entry (drop (i + 1) entries) entries change old now disk (redone-some redo from entry change late some) ch
    (subst (λ (l : List ReadEntry). IsRedoing redo from l entries old disk) split re))
    changed redoing

entry-passed : (told : Option Disk) (redo : Redo) (from i : ℕ) (entries : List ReadEntry) (entry : ReadEntry) (kept : ℕ → Option (List ℕ)) →
    i < length entries → entry ≡ get_or entries i entry → redone_by redo from entry ≡ None →
    IfTold told (IsRedoing redo from (drop i entries) entries kept) → IfTold told (IsRedoing redo from (drop (i + 1) entries) entries kept)
entry-passed told redo from i entries entry kept below is none redoing =
    let split : drop i entries ≡ entry ∷ drop (i + 1) entries = drop-item entries i entry below is in
    told-map (IsRedoing redo from (drop i entries) entries kept) (IsRedoing redo from (drop (i + 1) entries) entries kept) told
    (λ disk re. redoing-passed redo from entry (drop (i + 1) entries) entries kept disk none (subst (λ (l : List ReadEntry). IsRedoing redo from l entries kept disk) split re))
    redoing

pub entry-early : (told : Option Disk) (redo : Redo) (from i : ℕ) (entries : List ReadEntry) (entry : ReadEntry) (kept : ℕ → Option (List ℕ)) →
    i < length entries → entry ≡ get_or entries i entry → entry.lsn < from →
    IfTold told (IsRedoing redo from (drop i entries) entries kept) → IfTold told (IsRedoing redo from (drop (i + 1) entries) entries kept)
entry-early told redo from i entries entry kept below is early redoing =
    entry-passed told redo from i entries entry kept below is (redone-early redo from entry early) redoing

pub entry-other : (told : Option Disk) (redo : Redo) (from i : ℕ) (entries : List ReadEntry) (entry : ReadEntry) (kept : ℕ → Option (List ℕ)) →
    i < length entries → entry ≡ get_or entries i entry → change_said redo entry.says ≡ None →
    IfTold told (IsRedoing redo from (drop i entries) entries kept) → IfTold told (IsRedoing redo from (drop (i + 1) entries) entries kept)
entry-other told redo from i entries entry kept below is none redoing =
    entry-passed told redo from i entries entry kept below is (redone-none redo from entry none) redoing

pub entries-done : (told : Option Disk) (redo : Redo) (from i : ℕ) (entries : List ReadEntry) (kept : ℕ → Option (List ℕ)) → length entries ≤ i →
    IfTold told (IsRedoing redo from (drop i entries) entries kept) → IfTold told (λ disk. (page : ℕ) → page_by kept disk page ≡ changed_page (redone_of redo from entries) disk page)
entries-done told redo from i entries kept all redoing =
    let none : drop i entries ≡ [] = drop_of_length-le entries all in
    told-map (IsRedoing redo from (drop i entries) entries kept) (λ disk. (page : ℕ) → page_by kept disk page ≡ changed_page (redone_of redo from entries) disk page) told
    (λ disk re. redoing-done redo from entries kept disk (subst (λ (l : List ReadEntry). IsRedoing redo from l entries kept disk) none re))
    redoing

-- the pages that are kept are written
pub redo-writing : (old mid new : Option Disk) (kept : ℕ → Option (List ℕ)) (changes : List Change) → mid ≡ old →
    IfTold old (λ disk. (page : ℕ) → page_by kept disk page ≡ changed_page changes disk page) →
    Both mid new (λ o n. IsPartlyWritten (page_by kept o) o n) → Both old new (λ o n. IsPartlyWritten (changed_page changes o) o n)
redo-writing old mid new kept changes same made writing =
    both-if (λ disk. (page : ℕ) → page_by kept disk page ≡ changed_page changes disk page) (λ o n. IsPartlyWritten (page_by kept o) o n) (λ o n. IsPartlyWritten (changed_page changes o) o n) old new
    (λ o n is w. writing-same (page_by kept o) (changed_page changes o) o n is w)
    made (subst (λ (m : Option Disk). Both m new (λ o n. IsPartlyWritten (page_by kept o) o n)) same writing)

pub redo-written : {A E : Type 0} (answer : Result A E) (old mid new : Option Disk) (kept : ℕ → Option (List ℕ)) (changes : List Change) → mid ≡ old →
    IfTold old (λ disk. (page : ℕ) → page_by kept disk page ≡ changed_page changes disk page) →
    OnOk answer (Both mid new (λ o n. HoldsMadePages (page_by kept o) n)) → OnOk answer (Both old new (λ o n. HoldsMadePages (changed_page changes o) n))
redo-written (Err e) old mid new kept changes same made holds = tt
redo-written (Ok a) old mid new kept changes same made holds =
    both-if (λ disk. (page : ℕ) → page_by kept disk page ≡ changed_page changes disk page) (λ o n. HoldsMadePages (page_by kept o) n) (λ o n. HoldsMadePages (changed_page changes o) n) old new
    (λ o n is h. holds-same (page_by kept o) (changed_page changes o) n is h)
    made (subst (λ (m : Option Disk). Both m new (λ o n. HoldsMadePages (page_by kept o) n)) same holds)

pub redo-begun : (old new : Option Disk) (changes : List Change) → new ≡ old → Both old new (λ o n. IsPartlyWritten (changed_page changes o) o n)
redo-begun old new changes same = both-same (λ o n. IsPartlyWritten (changed_page changes o) o n) old new (λ a. writing-begun (changed_page changes a) a) same

-- A restart that stopped is begun again.
use Rattle.std.specs.Prelude.{◌≡◌, ℕ, false, ◌==◌, List, length, Contains, refl}
use Rattle.std.proofs.Common.{ap, sym, ◌∙◌, inr, ⊎_elim}
use Rattle.std.proofs.Math.Seq.{take-length}
use Rattle.cc_traits.specs.Disk.{Disk, page_of, may_of}
use Rattle.cc_redo.specs.declared.redo.Redo.{Redo}
use Rattle.cc_redo.specs.declared.scan.ReadEntry.{ReadEntry}
use Rattle.cc_redo.specs.Heard.{Change, redone_of}
use Rattle.cc_redo.specs.Changes.{page_after}
use Rattle.cc_redo.specs.Disks.{IsBetween, Was, changed_page, page_made_by, record_number}
use Rattle.cc_redo.proofs.Again.{page-again}
use Rattle.cc_redo.proofs.Options.{passed}

twice : (changes : List Change) (page : ℕ) (bytes : List ℕ) → page_after changes page (page_after changes page bytes) ≡ page_after changes page bytes
twice changes page bytes =
    ap (λ (l : List Change). page_after changes page (page_after l page bytes)) (sym (take-length changes)) ∙ page-again changes (length changes) page bytes

pub redone-anew : (redo : Redo) (from : ℕ) (entries : List ReadEntry) (old new : Disk) → IsBetween (page_made_by redo from entries old) old new →
    (page : ℕ) (made : List ℕ) → (record_number == page) ≡ false →
    ((bytes : List ℕ) → Was old page bytes → page_after (redone_of redo from entries) page bytes ≡ made) →
    (bytes : List ℕ) → Contains (may_of new page) bytes → page_after (redone_of redo from entries) page bytes ≡ made
redone-anew redo from entries old new between page made apart before bytes c =
    let changes = redone_of redo from entries in
    let here : page_after changes page (page_of old page) ≡ made = before (page_of old page) (inr refl) in
    let is_made : page_made_by redo from entries old page ≡ page_after changes page (page_of old page) = passed (record_number == page) _ (changed_page changes old page) apart in
    ⊎_elim
    (λ (was : Was old page bytes). before bytes was)
    (λ (is : bytes ≡ page_made_by redo from entries old page). ap (λ (l : List ℕ). page_after changes page l) (is ∙ is_made) ∙ twice changes page (page_of old page) ∙ here)
    (between.pages.may page bytes c)

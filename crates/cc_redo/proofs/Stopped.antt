-- What the two stages of a restart leave of a disk, put together.
use Rattle.std.specs.Prelude.{◌≡◌, ℕ, Bool, true, false, ◌==◌, List, [], ◌∷◌, Contains, ◌⊎◌, if◌then◌else◌, refl}
use Rattle.std.proofs.Common.{ap, sym, subst, ◌∙◌, inl, inr, ⊎_elim}
use Rattle.std.proofs.lemmas.Bool.{eqb-true}
use Rattle.std.proofs.lemmas.List.Elements.{Contains-push}
use Rattle.cc_traits.specs.Disk.{Disk, page_of, may_of}
use Rattle.cc_redo.specs.Disks.{DataIsMade, IsBetween, DiskIsMade, IsPossible, RecordStands, Was, record_number, with_record}
use Rattle.cc_redo.specs.Scanned.{HoldsMadePages, DiskIsSettled, IsSettling, IsPartlyWritten}
use Rattle.cc_redo.proofs.Options.{chosen, passed}
use Rattle.cc_redo.proofs.Writes.{alone}

made-record : (told : List ℕ) (made : ℕ → List ℕ) (p : ℕ) → (record_number == p) ≡ true → with_record told made p ≡ told
made-record told made p e = chosen (record_number == p) told (made p) e

made-data : (told : List ℕ) (made : ℕ → List ℕ) (p : ℕ) → (record_number == p) ≡ false → with_record told made p ≡ made p
made-data told made p e = passed (record_number == p) told (made p) e

-- the pages were written, maybe not all, and the record was not begun
writing-may : (told : List ℕ) (made : ℕ → List ℕ) (old now : Disk) → IsPartlyWritten made old now → (p : ℕ) (bytes : List ℕ) → (b : Bool) →
    (record_number == p) ≡ b → Contains (may_of now p) bytes → Was old p bytes ⊎ (bytes ≡ with_record told made p)
writing-may told made old now writing p bytes true e c =
    let same : record_number ≡ p = eqb-true record_number p e in
    let may : may_of now p ≡ may_of old p = subst (λ (n : ℕ). may_of now n ≡ may_of old n) same writing.stands.may in
    inl (inl (rw may at c))
writing-may told made old now writing p bytes false e c =
    ⊎_elim
    (λ (was : Was old p bytes). inl was)
    (λ (is : bytes ≡ made p). inr (is ∙ sym (made-data told made p e)))
    (writing.pages.may p bytes c)

pub between-pages : (told : List ℕ) (made : ℕ → List ℕ) (old now : Disk) → IsPartlyWritten made old now → IsBetween (with_record told made) old now
between-pages told made old now writing = record {
  pages = record {
    holds = writing.pages.holds;
    may = λ p bytes c. writing-may told made old now writing p bytes (record_number == p) refl c;
  };
  ordered = inl writing.stands;
}

-- nothing was begun
pub between-begun : (made : ℕ → List ℕ) (disk : Disk) → IsBetween made disk disk
between-begun made disk = record {
  pages = record { holds = λ p was. was; may = λ p bytes c. inl (inl c) };
  ordered = inl (record { holds = refl; may = refl });
}

-- all pages were written, and the record was begun
settling-possible : (told : List ℕ) (now next : Disk) → IsSettling told now next → (p : ℕ) (b : Bool) → (record_number == p) ≡ b → IsPossible next p
settling-possible told now next settling p true e = subst (λ (n : ℕ). IsPossible next n) (eqb-true record_number p e) settling.record_is
settling-possible told now next settling p false e =
    rw ((settling.others p e).0, (settling.others p e).1) (Contains-push [] (page_of now p))

settling-may : (told : List ℕ) (made : ℕ → List ℕ) (old now next : Disk) → RecordStands old now → HoldsMadePages made now → IsSettling told now next →
    (p : ℕ) (bytes : List ℕ) → (b : Bool) → (record_number == p) ≡ b → Contains (may_of next p) bytes → Was old p bytes ⊎ (bytes ≡ with_record told made p)
settling-may told made old now next stands holds settling p bytes true e c =
    let same : record_number ≡ p = eqb-true record_number p e in
    let there : Contains (may_of next record_number) bytes = subst (λ (n : ℕ). Contains (may_of next n) bytes) (sym same) c in
    ⊎_elim
    (λ (was : bytes ≡ page_of now record_number). inl (inr (was ∙ stands.holds ∙ ap (λ (n : ℕ). page_of old n) same)))
    (λ (is : bytes ≡ told). inr (is ∙ sym (made-record told made p e)))
    (settling.record_may bytes there)
settling-may told made old now next stands holds settling p bytes false e c =
    let one : Contains (page_of now p ∷ []) bytes = rw ((settling.others p e).1) at c in
    inr (alone (page_of now p) bytes one ∙ holds p ∙ sym (made-data told made p e))

settling-data : (told : List ℕ) (made : ℕ → List ℕ) (now next : Disk) → HoldsMadePages made now → IsSettling told now next → DataIsMade (with_record told made) next
settling-data told made now next holds settling = λ p e.
    let is : page_of now p ≡ with_record told made p = holds p ∙ sym (made-data told made p e) in
    ((settling.others p e).0 ∙ is, (settling.others p e).1 ∙ ap (λ (l : List ℕ). l ∷ []) is)

pub between-record : (told : List ℕ) (made : ℕ → List ℕ) (old now next : Disk) → IsPartlyWritten made old now → HoldsMadePages made now →
    (next ≡ now) ⊎ IsSettling told now next → IsBetween (with_record told made) old next
between-record told made old now next writing holds (inl same) =
    subst (λ (d : Disk). IsBetween (with_record told made) old d) (sym same) (between-pages told made old now writing)
between-record told made old now next writing holds (inr settling) = record {
  pages = record {
    holds = λ p was. settling-possible told now next settling p (record_number == p) refl;
    may = λ p bytes c. settling-may told made old now next writing.stands holds settling p bytes (record_number == p) refl c;
  };
  ordered = inr (settling-data told made now next holds settling);
}

-- all was done
pub made-all : (told : List ℕ) (made : ℕ → List ℕ) (now next : Disk) → HoldsMadePages made now → DiskIsSettled told now next → DiskIsMade (with_record told made) next
made-all told made now next holds settled = record {
  holds = page-made;
  may = λ p. (settled p).1 ∙ ap (λ (l : List ℕ). l ∷ []) (page-made p);
}
  where
    page-made : (p : ℕ) → page_of next p ≡ with_record told made p
    page-made p = (settled p).0 ∙ ap (λ (l : List ℕ). if record_number == p then told else l) (holds p)

-- What the pages that were written say of the disk: by look-ups in the map that has them.
use Rattle.std.proofs.Common.{◌≡◌, ℕ, ◌+◌, ◌<◌, ◌≤◌, ◌==◌, length, get_or, drop, Bool, true, false, cond, if◌then◌else◌, List, [], ◌∷◌, ◌++◌, map, Option, Some, None, refl, sym, ◌∙◌, ap, arith}
use Rattle.std.specs.Ordering.{nat_cmp}
use Rattle.std.specs.Cmp.{nat_cmp_total, eq_by_cmp_equiv}
use Rattle.std.specs.List.Sorted.{IsStrictlySortedBy}
use Rattle.std.specs.Map.{keys_of, lookup}
use Rattle.std.specs.BTreeMap.{is_at}
use Rattle.std.proofs.lemmas.Bool.Decides.{nat_tests}
use Rattle.std.proofs.lemmas.Map.{lookup-none}
use Rattle.std.proofs.lemmas.Map.Entries.{none_past_head}
use Rattle.std.specs.Option.{option_map}
use Rattle.std.proofs.lemmas.Map.Made.{lookup-map_values}
use Rattle.std.proofs.lemmas.Map.Keys.{IsDistinct-from_sorted, sorted_tail}
use Rattle.std.proofs.lemmas.List.{append-nil, at_drop_more, at_drop_all}
use Rattle.std.proofs.lemmas.Bool.{eqb-true, eq-eqb}
use Rattle.cc_traits.specs.Disk.{Disk, blank_page, last_content, contents, or_alone, page_of, may_of, Settled}
use Rattle.cc_traits.proofs.DiskLemmas.{last_content-append, contents-append, Wrote-by_contents, WriteFailed-by_contents, Settled-by_contents}
use Rattle.cc_memdev.specs.Content.{PageContents, recorded, settled_page, held_contents, may_list, disk_over, Records}

abbrev pub Pages : Type 0
Pages = List (ℕ × PageContents)

-- the pages ascend
abbrev pub Ascend : Pages → Type 0
Ascend pages = IsStrictlySortedBy nat_cmp (keys_of pages)

abbrev pub written_at : ℕ → Pages → Option PageContents
written_at page pages = lookup (is_at (nat_cmp page)) pages

-- what a look-up found: the content held, or that given; the contents listed, or none
abbrev pub held_or : Option PageContents → List ℕ → List ℕ
held_or None bytes = bytes
held_or (Some page) bytes = page.held

abbrev pub listed_in : Option PageContents → List (List ℕ)
listed_in None = []
listed_in (Some page) = page.may

-- the test of a look-up is the test of a page
same_test : (key page : ℕ) → is_at (nat_cmp page) key ≡ (key == page)
same_test key page = grind (arith, nat_tests)

if_true : {A : Type 0} (b : Bool) (x y : A) → b ≡ true → (if b then x else y) ≡ x
if_true true x y e = refl
if_true false x y e = absurd (cc)

if_false : {A : Type 0} (b : Bool) (x y : A) → b ≡ false → (if b then x else y) ≡ y
if_false true x y e = absurd (cc)
if_false false x y e = refl

-- a page that the first entry has is in no later entry
absent_later : (entry : ℕ × PageContents) (rest : Pages) (page : ℕ) → Ascend (entry ∷ rest) → is_at (nat_cmp page) entry.0 ≡ true → written_at page rest ≡ None
absent_later entry rest page ascend e =
    lookup-none (is_at (nat_cmp page)) rest (none_past_head (eq_by_cmp_equiv nat_cmp_total) page entry rest (IsDistinct-from_sorted nat_cmp _ ascend) e)

later : (entry : ℕ × PageContents) (rest : Pages) → Ascend (entry ∷ rest) → Ascend rest
later entry rest ascend = sorted_tail nat_cmp entry.0 (keys_of rest) ascend

pub last_content-written : (pages : Pages) (page : ℕ) (bytes : List ℕ) → Ascend pages → last_content (held_contents pages) page bytes ≡ held_or (written_at page pages) bytes
unfolding last_content held_contents
last_content-written [] page bytes ascend = refl
last_content-written (entry ∷ rest) page bytes ascend =
    last_content-written rest page _ (later entry rest ascend) ∙ at_test (is_at (nat_cmp page) entry.0) (entry.0 == page) refl (same_test entry.0 page)
  where
    at_test : (b d : Bool) → is_at (nat_cmp page) entry.0 ≡ b → b ≡ d → held_or (written_at page rest) (if d then entry.1.held else bytes) ≡ held_or (cond b (Some entry.1) (written_at page rest)) bytes
    at_test true true e f =
        ap (λ o. held_or o entry.1.held) (absent_later entry rest page ascend e)
    at_test false false e f = refl
    at_test true false e f = absurd (cc)
    at_test false true e f = absurd (cc)

-- the contents of one page among pairs of one page
contents-pairs_same : (key page : ℕ) (cs : List (List ℕ)) → (key == page) ≡ true → contents (map (λ bytes. (key, bytes)) cs) page ≡ cs
unfolding contents
contents-pairs_same key page [] e = refl
contents-pairs_same key page (c ∷ cs) e =
    if_true (key == page) _ _ e ∙ ap (λ rest. c ∷ rest) (contents-pairs_same key page cs e)

contents-pairs_other : (key page : ℕ) (cs : List (List ℕ)) → (key == page) ≡ false → contents (map (λ bytes. (key, bytes)) cs) page ≡ []
unfolding contents
contents-pairs_other key page [] e = refl
contents-pairs_other key page (c ∷ cs) e =
    if_false (key == page) _ _ e ∙ contents-pairs_other key page cs e

pub contents-written : (pages : Pages) (page : ℕ) → Ascend pages → contents (may_list pages) page ≡ listed_in (written_at page pages)
unfolding contents may_list
contents-written [] page ascend = refl
contents-written (entry ∷ rest) page ascend =
    contents-append (map (λ bytes. (entry.0, bytes)) entry.1.may) (may_list rest) page ∙ ap (λ c. contents (map (λ bytes. (entry.0, bytes)) entry.1.may) page ++ c) (contents-written rest page (later entry rest ascend)) ∙ at_test (is_at (nat_cmp page) entry.0) refl (same_test entry.0 page)
  where
    at_test : (b : Bool) → is_at (nat_cmp page) entry.0 ≡ b → b ≡ (entry.0 == page) → contents (map (λ bytes. (entry.0, bytes)) entry.1.may) page ++ listed_in (written_at page rest) ≡ listed_in (cond b (Some entry.1) (written_at page rest))
    at_test true e f =
        ap (λ c. c ++ listed_in (written_at page rest)) (contents-pairs_same entry.0 page entry.1.may (sym f)) ∙ ap (λ o. entry.1.may ++ listed_in o) (absent_later entry rest page ascend e) ∙ append-nil entry.1.may
    at_test false e f =
        ap (λ c. c ++ listed_in (written_at page rest)) (contents-pairs_other entry.0 page entry.1.may (sym f))

-- the disk of a fill byte, the pages that it was made with, and those written
pub page_of-disk_over : (fill : ℕ) (opening : List (ℕ × List ℕ)) (pages : Pages) (page : ℕ) → Ascend pages → page_of (disk_over fill opening pages) page ≡ held_or (written_at page pages) (last_content opening page (blank_page fill))
unfolding page_of
page_of-disk_over fill opening pages page ascend =
    last_content-append opening (held_contents pages) page (blank_page fill) ∙ last_content-written pages page _ ascend

pub may_of-disk_over : (fill : ℕ) (opening : List (ℕ × List ℕ)) (pages : Pages) (page : ℕ) → Ascend pages → may_of (disk_over fill opening pages) page ≡ or_alone (listed_in (written_at page pages)) (page_of (disk_over fill opening pages) page)
unfolding may_of
may_of-disk_over fill opening pages page ascend =
    ap (λ c. or_alone c (page_of (disk_over fill opening pages) page)) (contents-written pages page ascend)

pub disk_over-empty : (fill : ℕ) (opening : List (ℕ × List ℕ)) (pages : Pages) → pages ≡ [] → disk_over fill opening pages ≡ record { fill = fill; holds = opening; may = [] }
unfolding held_contents may_list
disk_over-empty fill opening pages e =
    ap (disk_over fill opening) e ∙ ap (λ (holds : List (ℕ × List ℕ)). let disk : Disk = record { fill = fill; holds = holds; may = [] } in disk) (append-nil opening)

-- what a look-up that is known says of the disk
pub page_of-found : (disk : Disk) (fill : ℕ) (opening : List (ℕ × List ℕ)) (pages : Pages) (page : ℕ) (found : Option PageContents) → disk_over fill opening pages ≡ disk → Ascend pages → found ≡ written_at page pages → page_of disk page ≡ held_or found (last_content opening page (blank_page fill))
page_of-found disk fill opening pages page found is ascend e =
    ap (λ d. page_of d page) (sym is) ∙ page_of-disk_over fill opening pages page ascend ∙ ap (λ o. held_or o (last_content opening page (blank_page fill))) (sym e)

pub may_of-found : (disk : Disk) (fill : ℕ) (opening : List (ℕ × List ℕ)) (pages : Pages) (page : ℕ) (found : Option PageContents) → disk_over fill opening pages ≡ disk → Ascend pages → found ≡ written_at page pages → may_of disk page ≡ or_alone (listed_in found) (held_or found (last_content opening page (blank_page fill)))
may_of-found disk fill opening pages page found is ascend e =
    ap (λ d. may_of d page) (sym is) ∙ may_of-disk_over fill opening pages page ascend ∙ ap (λ b. or_alone (listed_in (written_at page pages)) b) (ap (λ d. page_of d page) is ∙ page_of-found disk fill opening pages page found is ascend e) ∙ ap (λ o. or_alone (listed_in o) (held_or found (last_content opening page (blank_page fill)))) (sym e)

-- A content recorded for one page.

recorded-held : (at : PageContents) (bytes : List ℕ) (old : Option PageContents) (base : List ℕ) (b d : Bool) → b ≡ d → held_or (cond b (Some (recorded true at bytes)) old) base ≡ (if d then bytes else held_or old base)
recorded-held at bytes old base true true e = refl
recorded-held at bytes old base false false e = refl
recorded-held at bytes old base true false e = absurd (cc)
recorded-held at bytes old base false true e = absurd (cc)

same_page : (page q : ℕ) → is_at (nat_cmp page) q ≡ (page == q)
same_page page q = grind (arith, nat_tests)

recorded-may : (stays : Bool) (at : PageContents) (bytes : List ℕ) → listed_in (Some (recorded stays at bytes)) ≡ or_alone at.may at.held ++ bytes ∷ []
recorded-may true at bytes = refl
recorded-may false at bytes = refl

-- the look-ups after a content was recorded for a page
abbrev pub Updated : Bool → ℕ → PageContents → List ℕ → Pages → Pages → Type 0
Updated stays page at bytes old new =
    (q : ℕ) → written_at q new ≡ cond (is_at (nat_cmp page) q) (Some (recorded stays at bytes)) (written_at q old)

own_contents : (stays : Bool) (page : ℕ) (at : PageContents) (bytes : List ℕ) (old new : Pages) → Ascend new → Updated stays page at bytes old new → contents (may_list new) page ≡ or_alone at.may at.held ++ bytes ∷ []
own_contents stays page at bytes old new ascend updated =
    contents-written new page ascend ∙ ap listed_in (updated page ∙ if_true (is_at (nat_cmp page) page) (Some (recorded stays at bytes)) (written_at page old) (same_page page page ∙ eq-eqb page page refl)) ∙ recorded-may stays at bytes

other_contents : (stays : Bool) (page : ℕ) (at : PageContents) (bytes : List ℕ) (old new : Pages) → Ascend old → Ascend new → Updated stays page at bytes old new → (q : ℕ) → (page == q) ≡ false → contents (may_list new) q ≡ contents (may_list old) q
other_contents stays page at bytes old new ascend ascend' updated q e =
    contents-written new q ascend' ∙ ap listed_in (updated q ∙ if_false (is_at (nat_cmp page) q) (Some (recorded stays at bytes)) (written_at q old) (same_page page q ∙ e)) ∙ sym (contents-written old q ascend)

held_after : (page : ℕ) (at : PageContents) (bytes : List ℕ) (fill : ℕ) (opening : List (ℕ × List ℕ)) (old new : Pages) → Ascend old → Ascend new → Updated true page at bytes old new → (q : ℕ) → page_of (disk_over fill opening new) q ≡ (if page == q then bytes else page_of (disk_over fill opening old) q)
held_after page at bytes fill opening old new ascend ascend' updated q =
    page_of-disk_over fill opening new q ascend' ∙ ap (λ o. held_or o (last_content opening q (blank_page fill))) (updated q) ∙ recorded-held at bytes (written_at q old) _ (is_at (nat_cmp page) q) (page == q) (same_page page q) ∙ ap (λ b. if page == q then bytes else b) (sym (page_of-disk_over fill opening old q ascend))

held_as_before : (page : ℕ) (at : PageContents) (bytes : List ℕ) (fill : ℕ) (opening : List (ℕ × List ℕ)) (old new : Pages) → Ascend old → Ascend new → Updated false page at bytes old new → at.held ≡ page_of (disk_over fill opening old) page → (q : ℕ) → page_of (disk_over fill opening new) q ≡ page_of (disk_over fill opening old) q
held_as_before page at bytes fill opening old new ascend ascend' updated held q =
    page_of-disk_over fill opening new q ascend' ∙ ap (λ o. held_or o (last_content opening q (blank_page fill))) (updated q) ∙ at_test (is_at (nat_cmp page) q) (same_page page q)
  where
    at_test : (b : Bool) → b ≡ (page == q) → held_or (cond b (Some (recorded false at bytes)) (written_at q old)) (last_content opening q (blank_page fill)) ≡ page_of (disk_over fill opening old) q
    at_test true e =
        held ∙ ap (λ p. page_of (disk_over fill opening old) p) (eqb-true page q (sym e))
    at_test false e = sym (page_of-disk_over fill opening old q ascend)

pub Records-updated : (stays : Bool) (page : ℕ) (at : PageContents) (bytes : List ℕ) (fill : ℕ) (opening : List (ℕ × List ℕ)) (old new : Pages) → Ascend old → Ascend new → Updated stays page at bytes old new → at.held ≡ page_of (disk_over fill opening old) page → or_alone at.may at.held ≡ may_of (disk_over fill opening old) page → Records stays page bytes (disk_over fill opening old) (disk_over fill opening new)
Records-updated true page at bytes fill opening old new ascend ascend' updated held may =
    Wrote-by_contents page bytes (disk_over fill opening old) (disk_over fill opening new) (held_after page at bytes fill opening old new ascend ascend' updated) (own_contents true page at bytes old new ascend' updated ∙ ap (λ c. c ++ bytes ∷ []) may) (other_contents true page at bytes old new ascend ascend' updated)
Records-updated false page at bytes fill opening old new ascend ascend' updated held may =
    let same = held_as_before page at bytes fill opening old new ascend ascend' updated held in
    record {
      holds = same;
      failed = WriteFailed-by_contents page bytes (disk_over fill opening old) (disk_over fill opening new) same (own_contents false page at bytes old new ascend' updated ∙ ap (λ c. c ++ bytes ∷ []) may) (other_contents false page at bytes old new ascend ascend' updated);
    }

-- Every page settled.

settled-held : (found : Option PageContents) (base : List ℕ) → held_or (option_map settled_page found) base ≡ held_or found base
settled-held None base = refl
settled-held (Some page) base = refl

settled-may : (found : Option PageContents) → listed_in (option_map settled_page found) ≡ []
settled-may None = refl
settled-may (Some page) = refl

pub Settled-mapped : (fill : ℕ) (opening : List (ℕ × List ℕ)) (old new : Pages) → Ascend old → Ascend new → new ≡ map (λ entry. (entry.0, settled_page entry.1)) old → Settled (disk_over fill opening old) (disk_over fill opening new)
Settled-mapped fill opening old new ascend ascend' is =
    let at : (q : ℕ) → written_at q new ≡ option_map settled_page (written_at q old) = λ q. ap (written_at q) is ∙ lookup-map_values settled_page (is_at (nat_cmp q)) old in
    Settled-by_contents (disk_over fill opening old) (disk_over fill opening new) (λ q. page_of-disk_over fill opening new q ascend' ∙ ap (λ o. held_or o (last_content opening q (blank_page fill))) (at q) ∙ settled-held (written_at q old) _ ∙ sym (page_of-disk_over fill opening old q ascend)) (λ q. contents-written new q ascend' ∙ ap listed_in (at q) ∙ settled-may (written_at q old))

-- One step of a walk along a list of pages, at a pair with the page and at another.

pub last_content-taken : (pages : List (ℕ × List ℕ)) (i page : ℕ) (found next : List ℕ) → i < length pages → (get_or pages i (0, [])).0 ≡ page → next ≡ (get_or pages i (0, [])).1 → last_content (drop (i + 1) pages) page next ≡ last_content (drop i pages) page found
unfolding last_content
last_content-taken pages i page found next lt same is =
    let at = get_or pages i (0, []) in
    ap (last_content (drop (i + 1) pages) page) (is ∙ sym (if_true (at.0 == page) at.1 found (eq-eqb at.0 page same))) ∙ sym (at_drop_more (λ listed. last_content listed page found) pages i (0, []) lt)

pub last_content-passed : (pages : List (ℕ × List ℕ)) (i page : ℕ) (found next : List ℕ) → i < length pages → ((get_or pages i (0, [])).0 ≡ page → ⊥) → next ≡ found → last_content (drop (i + 1) pages) page next ≡ last_content (drop i pages) page found
unfolding last_content
last_content-passed pages i page found next lt other is =
    let at = get_or pages i (0, []) in
    let e : (at.0 == page) ≡ false = other_test at.0 page other in
    ap (last_content (drop (i + 1) pages) page) (is ∙ sym (if_false (at.0 == page) at.1 found e)) ∙ sym (at_drop_more (λ listed. last_content listed page found) pages i (0, []) lt)
  where
    other_test : (a b : ℕ) → (a ≡ b → ⊥) → (a == b) ≡ false
    other_test a b other = grind (arith, nat_tests)

pub last_content-end : (pages : List (ℕ × List ℕ)) (i page : ℕ) (found : List ℕ) → length pages ≤ i → last_content (drop i pages) page found ≡ found
unfolding last_content
last_content-end pages i page found end =
    at_drop_all (λ listed. last_content listed page found) pages i end

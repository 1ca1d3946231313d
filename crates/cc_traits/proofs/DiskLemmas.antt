-- What a device needs to show that a write of its disk ended well or failed, or that it was settled: from the contents
-- that it lists, and for a device that puts each content behind the others.
use Rattle.std.proofs.Common.{◌≡◌, ℕ, ◌==◌, Bool, true, false, if◌then◌else◌, List, [], ◌∷◌, ◌++◌, Contains, refl, ◌∙◌, ap, subst, eq-eqb}
use Rattle.std.proofs.lemmas.Bool.{eqb-true}
use Rattle.std.proofs.lemmas.List.{append-nil}
use Rattle.std.proofs.lemmas.List.Elements.{Contains-append_left}
use Rattle.cc_traits.specs.Disk.{Disk, blank_page, last_content, contents, or_alone, page_of, may_of, Wrote, WriteFailed, Settled}

-- a choice at a test that is known
if_true : {A : Type 0} (b : Bool) (x y : A) → b ≡ true → (if b then x else y) ≡ x
if_true true x y e = refl
if_true false x y e = absurd (cc)

if_false : {A : Type 0} (b : Bool) (x y : A) → b ≡ false → (if b then x else y) ≡ y
if_false true x y e = absurd (cc)
if_false false x y e = refl

-- what the parts of a list of pages say of a page
pub last_content-append : (xs ys : List (ℕ × List ℕ)) (page : ℕ) (bytes : List ℕ) → last_content (xs ++ ys) page bytes ≡ last_content ys page (last_content xs page bytes)
unfolding last_content
last_content-append [] ys page bytes = refl
last_content-append (listed ∷ rest) ys page bytes = last_content-append rest ys page _

pub last_content-one : (listed page : ℕ) (content bytes : List ℕ) → last_content ((listed, content) ∷ []) page bytes ≡ (if listed == page then content else bytes)
unfolding last_content
last_content-one listed page content bytes = refl

choose-append : (b : Bool) (content : List ℕ) (xs ys : List (List ℕ)) → (if b then content ∷ (xs ++ ys) else (xs ++ ys)) ≡ (if b then content ∷ xs else xs) ++ ys
choose-append true content xs ys = refl
choose-append false content xs ys = refl

pub contents-append : (xs ys : List (ℕ × List ℕ)) (page : ℕ) → contents (xs ++ ys) page ≡ contents xs page ++ contents ys page
unfolding contents
contents-append [] ys page = refl
contents-append (listed ∷ rest) ys page =
    ap (λ c. if listed.0 == page then listed.1 ∷ c else c) (contents-append rest ys page) ∙ choose-append (listed.0 == page) listed.1 (contents rest page) (contents ys page)

pub contents-one : (listed page : ℕ) (content : List ℕ) → contents ((listed, content) ∷ []) page ≡ (if listed == page then content ∷ [] else [])
unfolding contents
contents-one listed page content = refl

-- a page that is listed has what is listed, and one that is not has what it holds alone
or_alone-some : (xs : List (List ℕ)) (bytes content : List ℕ) → or_alone (xs ++ content ∷ []) bytes ≡ xs ++ content ∷ []
or_alone-some [] bytes content = refl
or_alone-some (x ∷ xs) bytes content = refl

pub may_of-unlisted : (disk : Disk) (page : ℕ) → contents disk.may page ≡ [] → may_of disk page ≡ page_of disk page ∷ []
unfolding may_of
may_of-unlisted disk page e = ap (λ c. or_alone c (page_of disk page)) e

pub may_of-ending : (disk : Disk) (page : ℕ) (xs : List (List ℕ)) (bytes : List ℕ) → contents disk.may page ≡ xs ++ bytes ∷ [] → may_of disk page ≡ xs ++ bytes ∷ []
unfolding may_of
may_of-ending disk page xs bytes e =
    ap (λ c. or_alone c (page_of disk page)) e ∙ or_alone-some xs (page_of disk page) bytes

may_of-same : (old new : Disk) (page : ℕ) → contents new.may page ≡ contents old.may page → page_of new page ≡ page_of old page → may_of new page ≡ may_of old page
unfolding may_of
may_of-same old new page e f =
    ap (λ c. or_alone c (page_of new page)) e ∙ ap (λ b. or_alone (contents old.may page) b) f

-- what a crash can leave after a write of a page, ended well or not
may_of-more : (page : ℕ) (bytes : List ℕ) (old new : Disk) → ((p : ℕ) → (page == p) ≡ false → page_of new p ≡ page_of old p) → contents new.may page ≡ may_of old page ++ bytes ∷ [] → ((p : ℕ) → (page == p) ≡ false → contents new.may p ≡ contents old.may p) → (p : ℕ) (b : Bool) → (page == p) ≡ b → may_of new p ≡ (if b then may_of old p ++ bytes ∷ [] else may_of old p)
may_of-more page bytes old new others own rest p true e =
    let P : ℕ → Type 0 = λ q. may_of new q ≡ may_of old q ++ bytes ∷ [] in
    subst P (eqb-true page p e) (may_of-ending new page (may_of old page) bytes own)
may_of-more page bytes old new others own rest p false e =
    may_of-same old new p (rest p e) (others p e)

-- a disk was written where it holds the bytes, lists them behind what a crash could leave of the page
-- before, and lists of other pages what it listed
pub Wrote-by_contents : (page : ℕ) (bytes : List ℕ) (old new : Disk) → ((p : ℕ) → page_of new p ≡ (if page == p then bytes else page_of old p)) → contents new.may page ≡ may_of old page ++ bytes ∷ [] → ((p : ℕ) → (page == p) ≡ false → contents new.may p ≡ contents old.may p) → Wrote page bytes old new
Wrote-by_contents page bytes old new held own rest =
    let others : (p : ℕ) → (page == p) ≡ false → page_of new p ≡ page_of old p = λ p e. held p ∙ if_false (page == p) bytes (page_of old p) e in
    record {
      holds = held;
      may = λ p. may_of-more page bytes old new others own rest p (page == p) refl;
    }

-- a disk that holds what it held stands after a failed write where it lists the bytes behind what a crash could leave
pub WriteFailed-by_contents : (page : ℕ) (bytes : List ℕ) (old new : Disk) → ((p : ℕ) → page_of new p ≡ page_of old p) → contents new.may page ≡ may_of old page ++ bytes ∷ [] → ((p : ℕ) → (page == p) ≡ false → contents new.may p ≡ contents old.may p) → WriteFailed page bytes old new
WriteFailed-by_contents page bytes old new held own rest =
    let more : (p : ℕ) → may_of new p ≡ (if page == p then may_of old p ++ bytes ∷ [] else may_of old p) = λ p. may_of-more page bytes old new (λ q _. held q) own rest p (page == p) refl in
    record {
      others = λ p _. held p;
      may = more;
      among = λ was. among_more page bytes old new (held page) (may_of-ending new page (may_of old page) bytes own) was;
    }
  where
    among_more : (page : ℕ) (bytes : List ℕ) (old new : Disk) → page_of new page ≡ page_of old page → may_of new page ≡ may_of old page ++ bytes ∷ [] → Contains (may_of old page) (page_of old page) → Contains (may_of new page) (page_of new page)
    among_more page bytes old new held more was =
        rw (held, more) (Contains-append_left (may_of old page) (bytes ∷ []) (page_of old page) was)

-- a disk that holds what it held and lists no content has settled
pub Settled-by_contents : (old new : Disk) → ((p : ℕ) → page_of new p ≡ page_of old p) → ((p : ℕ) → contents new.may p ≡ []) → Settled old new
Settled-by_contents old new held none = record {
  holds = held;
  may = λ p. may_of-unlisted new p (none p) ∙ ap (λ b. b ∷ []) (held p);
}

-- A device that puts each content behind the others.

-- the list of contents with what the page holds, where the page was not listed
abbrev pub with_held : List (ℕ × List ℕ) → List (List ℕ) → ℕ → List ℕ → List (ℕ × List ℕ)
with_held may [] page bytes = may ++ (page, bytes) ∷ []
with_held may (_ ∷ _) page bytes = may

abbrev pub with_content : Disk → ℕ → List ℕ → List (ℕ × List ℕ)
with_content disk page bytes =
    with_held disk.may (contents disk.may page) page (page_of disk page) ++ (page, bytes) ∷ []

-- the disk after a write that ended well, after one that failed, and after a sync
abbrev pub pushed : Disk → ℕ → List ℕ → Disk
pushed disk page bytes = record {
  fill = disk.fill;
  holds = disk.holds ++ (page, bytes) ∷ [];
  may = with_content disk page bytes;
}

abbrev pub failed_write : Disk → ℕ → List ℕ → Disk
failed_write disk page bytes = record {
  fill = disk.fill;
  holds = disk.holds;
  may = with_content disk page bytes;
}

abbrev pub settled : Disk → Disk
settled disk = record { fill = disk.fill; holds = disk.holds; may = [] }

with_held-own : (may : List (ℕ × List ℕ)) (cs : List (List ℕ)) (page : ℕ) (bytes : List ℕ) → contents may page ≡ cs → contents (with_held may cs page bytes) page ≡ or_alone cs bytes
with_held-own may [] page bytes e =
    contents-append may ((page, bytes) ∷ []) page ∙ ap (λ c. c ++ contents ((page, bytes) ∷ []) page) e ∙ contents-one page page bytes ∙ if_true (page == page) (bytes ∷ []) [] (eq-eqb page page refl)
with_held-own may (c ∷ cs) page bytes e = e

with_held-others : (may : List (ℕ × List ℕ)) (cs : List (List ℕ)) (page : ℕ) (bytes : List ℕ) (p : ℕ) → (page == p) ≡ false → contents (with_held may cs page bytes) p ≡ contents may p
with_held-others may [] page bytes p e =
    contents-append may ((page, bytes) ∷ []) p ∙ ap (λ c. contents may p ++ c) (contents-one page p bytes ∙ if_false (page == p) (bytes ∷ []) [] e) ∙ append-nil (contents may p)
with_held-others may (c ∷ cs) page bytes p e = refl

with_content-own : (disk : Disk) (page : ℕ) (bytes : List ℕ) → contents (with_content disk page bytes) page ≡ may_of disk page ++ bytes ∷ []
unfolding may_of
with_content-own disk page bytes =
    let held = with_held disk.may (contents disk.may page) page (page_of disk page) in
    contents-append held ((page, bytes) ∷ []) page ∙ ap (λ c. contents held page ++ c) (contents-one page page bytes ∙ if_true (page == page) (bytes ∷ []) [] (eq-eqb page page refl)) ∙ ap (λ c. c ++ bytes ∷ []) (with_held-own disk.may (contents disk.may page) page (page_of disk page) refl)

with_content-others : (disk : Disk) (page : ℕ) (bytes : List ℕ) (p : ℕ) → (page == p) ≡ false → contents (with_content disk page bytes) p ≡ contents disk.may p
with_content-others disk page bytes p e =
    let held = with_held disk.may (contents disk.may page) page (page_of disk page) in
    contents-append held ((page, bytes) ∷ []) p ∙ ap (λ c. contents held p ++ c) (contents-one page p bytes ∙ if_false (page == p) (bytes ∷ []) [] e) ∙ append-nil (contents held p) ∙ with_held-others disk.may (contents disk.may page) page (page_of disk page) p e

page_of-pushed : (disk : Disk) (page : ℕ) (bytes : List ℕ) (p : ℕ) → page_of (pushed disk page bytes) p ≡ (if page == p then bytes else page_of disk p)
unfolding page_of
page_of-pushed disk page bytes p =
    last_content-append disk.holds ((page, bytes) ∷ []) p (blank_page disk.fill) ∙ last_content-one page p bytes (last_content disk.holds p (blank_page disk.fill))

page_of-holds : (old new : Disk) (page : ℕ) → new.fill ≡ old.fill → new.holds ≡ old.holds → page_of new page ≡ page_of old page
unfolding page_of
page_of-holds old new page e f =
    ap (λ h. last_content h page (blank_page new.fill)) f ∙ ap (λ b. last_content old.holds page (blank_page b)) e

pub Wrote-pushed : (disk : Disk) (page : ℕ) (bytes : List ℕ) → Wrote page bytes disk (pushed disk page bytes)
Wrote-pushed disk page bytes =
    Wrote-by_contents page bytes disk (pushed disk page bytes) (page_of-pushed disk page bytes) (with_content-own disk page bytes) (with_content-others disk page bytes)

pub WriteFailed-failed_write : (disk : Disk) (page : ℕ) (bytes : List ℕ) → WriteFailed page bytes disk (failed_write disk page bytes)
WriteFailed-failed_write disk page bytes =
    WriteFailed-by_contents page bytes disk (failed_write disk page bytes) (λ p. page_of-holds disk (failed_write disk page bytes) p refl refl) (with_content-own disk page bytes) (with_content-others disk page bytes)

pub Settled-settled : (disk : Disk) → Settled disk (settled disk)
unfolding contents
Settled-settled disk =
    Settled-by_contents disk (settled disk) (λ p. page_of-holds disk (settled disk) p refl refl) (λ p. refl)

-- The pages for which a discard is refused are found in what is kept.
use Rattle.std.specs.Prelude.{◌≡◌, ℕ, suc, ◌/◌, ◌<◌, Bool, true, false, cond, not, ◌==◌, ◌&&◌, ◌||◌, is_some, List, [], ◌∷◌, refl}
use Rattle.std.specs.List.{find, All, AllPairs, AllByRecursion}
use Rattle.std.specs.Option.{option_map}
use Rattle.std.proofs.Common.{ap, sym, subst, ◌∙◌, arith}
use Rattle.std.proofs.lemmas.Bool.{and_parts, and_from, or_left, or_right, eqb-true, eq-eqb}
use Rattle.std.proofs.lemmas.Bool.Decides.{nat_tests}
use Rattle.std.proofs.lemmas.List.Elements.{All-head, All-tail}
use Rattle.std.specs.declared.option.Option.{Option}
use Rattle.std.specs.declared.option.Option.TheVariants.{Some, None}
use Rattle.cc_entry.specs.Place.{File, Page, Range}
use Rattle.cc_entry.specs.declared.call.Call.TheVariants as call
use Rattle.cc_entry.specs.declared.error.CcError.TheVariants as error
use Rattle.cc_dirty.specs.Order.{same_page, precedes, RowsAscend}
use Rattle.cc_dirty.specs.Table.{row_of}
use Rattle.cc_dirty.specs.declared.row.Row.{Row}
use Rattle.cc_model.specs.Discards.{is_known, low_of, has_grown, unsettled, grown}
use Rattle.cc_model.specs.History.{Effect}
use Rattle.cc_model.specs.Numbers.{is_among}
use Rattle.cc_model.specs.Ranges.{span_has}
use Rattle.cc_model.specs.Touches.{valid_of, is_dirty, dirty_pages}
use Rattle.cc_laws.specs.LeastPages.{IsLeastDirty}
use Rattle.cc_laws.proofs.LeastPages.{unsettled-page, unsettled-none, grown-page, grown-none}
use Rattle.cc_images.specs.Dirty.{AreDirty}
use Rattle.cc_images.specs.PageSet.{is_in_set}
use Rattle.cc_images.specs.Images.{Images, ImagesStand, AscendsByPage}
use Rattle.cc_images.proofs.FirstBytes.{IsFirst, IsFirst-grown, grown-IsFirst, has-grown, HasFirst, HasFirst-grown}

-- what is found of a list passes the test
pub found-passes : {X : Type 0} (test : X → Bool) (xs : List X) (x : X) → find test xs ≡ Some x → test x ≡ true
found-passes test [] x found = absurd (cc)
found-passes {X} test (y ∷ xs) x found = go (test y) refl found (found-passes test xs x)
  where
    go : (b : Bool) → test y ≡ b → cond b (Some y) (find test xs) ≡ Some x → (find test xs ≡ Some x → test x ≡ true) → test x ≡ true
    go true passes it rest = let same : y ≡ x = cc in ap test (sym same) ∙ passes
    go false fails it rest = rest it

-- another test that it passes finds something
pub found-too : {X : Type 0} (test other : X → Bool) (xs : List X) (x : X) → find test xs ≡ Some x → other x ≡ true → is_some (find other xs) ≡ true
found-too test other [] x found passes = absurd (cc)
found-too {X} test other (y ∷ xs) x found passes = go (test y) refl found (other y) refl (found-too test other xs x)
  where
    go : (b : Bool) → test y ≡ b → cond b (Some y) (find test xs) ≡ Some x → (c : Bool) → other y ≡ c → (find test xs ≡ Some x → other x ≡ true → is_some (find other xs) ≡ true) → is_some (cond c (Some y) (find other xs)) ≡ true
    go b is it true also rest = refl
    go true is it false fails rest = let same : y ≡ x = cc in absurd (cc (ap other same))
    go false is it false fails rest = rest it passes

-- where nothing is found, what another test finds fails
pub none-fails : {X : Type 0} (test other : X → Bool) (xs : List X) (x : X) → find test xs ≡ None → find other xs ≡ Some x → test x ≡ false
none-fails test other [] x none found = absurd (cc)
none-fails {X} test other (y ∷ xs) x none found = go (test y) refl none (other y) refl found (none-fails test other xs x)
  where
    go : (b : Bool) → test y ≡ b → cond b (Some y) (find test xs) ≡ None → (c : Bool) → other y ≡ c → cond c (Some y) (find other xs) ≡ Some x → (find test xs ≡ None → find other xs ≡ Some x → test x ≡ false) → test x ≡ false
    go true is it c also this rest = absurd (cc)
    go false fails it true also this rest = let same : y ≡ x = cc in ap test (sym same) ∙ fails
    go false fails it false also this rest = rest it this

-- what holds of each element holds of what is found
pub all-found : {X : Type 0} (P : X → Type 0) (test : X → Bool) (xs : List X) (x : X) → All P xs → find test xs ≡ Some x → P x
all-found P test [] x all found = absurd (cc)
all-found {X} P test (y ∷ xs) x all found = go (test y) found (all-found P test xs x (All-tail P y xs all))
  where
    go : (b : Bool) → cond b (Some y) (find test xs) ≡ Some x → (find test xs ≡ Some x → P x) → P x
    go true it rest = let same : y ≡ x = cc in subst P same (All-head P y xs all)
    go false it rest = rest it

-- rows in their order: what is found is the first that passes
heads : {X : Type 0} (R : X → X → Type 0) (x : X) (xs : List X) → AllPairs R (x ∷ xs) → All (R x) xs
heads R x xs pairs = λ k d lt. pairs 0 (suc k) d (omega arith) (omega arith)

tails : {X : Type 0} (R : X → X → Type 0) (x : X) (xs : List X) → AllPairs R (x ∷ xs) → AllPairs R xs
tails R x xs pairs = λ i j d a b. pairs (suc i) (suc j) d (omega arith) (omega arith)

apart-after : (a b : Page) → precedes a b ≡ true → precedes b a ≡ true → ⊥
apart-after a b ab ba = grind (arith, nat_tests)

not-before : (a : Page) → precedes a a ≡ true → ⊥
not-before a before = grind (arith, nat_tests)

first-row : (test other : Row → Bool) (rows : List Row) (x y : Row) → RowsAscend rows → find test rows ≡ Some x → find other rows ≡ Some y → test y ≡ true → precedes y.page x.page ≡ true → ⊥
first-row test other [] x y ascends found also passes before = absurd (cc)
first-row test other (z ∷ rows) x y ascends found also passes before =
    go (test z) refl found (other z) refl also (first-row test other rows x y (tails (λ a b. precedes a.page b.page ≡ true) z rows ascends))
  where
    go : (b : Bool) → test z ≡ b → cond b (Some z) (find test rows) ≡ Some x → (c : Bool) → other z ≡ c → cond c (Some z) (find other rows) ≡ Some y → (find test rows ≡ Some x → find other rows ≡ Some y → test y ≡ true → precedes y.page x.page ≡ true → ⊥) → ⊥
    go true is it true too this rest =
        let first : z ≡ x = cc in
        let second : z ≡ y = cc in
        not-before z.page (subst (λ (r : Row). precedes z.page r.page ≡ true) (sym first) (subst (λ (r : Row). precedes r.page x.page ≡ true) (sym second) before))
    go true is it false too this rest =
        let first : z ≡ x = cc in
        let after = all-found (λ (r : Row). precedes z.page r.page ≡ true) other rows y (heads (λ a b. precedes a.page b.page ≡ true) z rows ascends) this in
        apart-after z.page y.page after (subst (λ (r : Row). precedes y.page r.page ≡ true) (sym first) before)
    go false is it true too this rest = let second : z ≡ y = cc in cc (ap test second)
    go false is it false too this rest = rest it this passes before

-- the reason names the page that is found
found-unsettled : (h : List Effect) (file : File) (span : Option Range) (o : Option ℕ) → option_map (λ p. error.Unsettled p) (find (λ p. span_has span p && not (is_known h p)) (dirty_pages h)) ≡ option_map (λ p. error.Unsettled p) o → find (λ p. span_has span p && not (is_known h p)) (dirty_pages h) ≡ o
found-unsettled h file span o is = go (find (λ p. span_has span p && not (is_known h p)) (dirty_pages h)) o is
  where
    go : (a b : Option ℕ) → option_map (λ p. error.Unsettled p) a ≡ option_map (λ p. error.Unsettled p) b → a ≡ b
    go None None is = refl
    go None (Some q) is = absurd (cc)
    go (Some p) None is = absurd (cc)
    go (Some p) (Some q) is = ap Some (same p q is)
      where
        same : (p q : ℕ) → Some (error.Unsettled p) ≡ Some (error.Unsettled q) → p ≡ q
        same p q e = cc

found-grown : (h : List Effect) (file : File) (span : Option Range) (o : Option ℕ) → option_map (λ p. error.Grown p) (find (λ p. span_has span p && has_grown h p) (dirty_pages h)) ≡ option_map (λ p. error.Grown p) o → find (λ p. span_has span p && has_grown h p) (dirty_pages h) ≡ o
found-grown h file span o is = go (find (λ p. span_has span p && has_grown h p) (dirty_pages h)) o is
  where
    go : (a b : Option ℕ) → option_map (λ p. error.Grown p) a ≡ option_map (λ p. error.Grown p) b → a ≡ b
    go None None is = refl
    go None (Some q) is = absurd (cc)
    go (Some p) None is = absurd (cc)
    go (Some p) (Some q) is = ap Some (same p q is)
      where
        same : (p q : ℕ) → Some (error.Grown p) ≡ Some (error.Grown q) → p ≡ q
        same p q e = cc

a_file : File
a_file = record { stream = 0; object = 0 }

-- the first row of a dirty page of the span whose image is not known
module _ (h : List Effect) (i : Images) (stream : ℕ) (rows : List Row) (span : Option Range) (stands : ImagesStand h i) (dirty : AreDirty h stream rows) where
  abbrev is_of : Row → Bool
  is_of row = row.page.stream == stream && (span_has span row.page.page && is_in_set row.page.page i.unknown)

  -- such a page is dirty
  of-dirty : (row : Row) → find is_of rows ≡ Some row → is_dirty h row.page.page ≡ true
  of-dirty row found =
      let passes = and_parts (row.page.stream == stream) _ (found-passes is_of rows row found) in
      sym (dirty.dirty row.page.page)
      ∙ found-too is_of (λ r. same_page r.page (record { stream = stream; page = row.page.page })) rows row found
      (and_from _ _ passes.0 (eq-eqb row.page.page row.page.page refl))

  -- and has the row that is its own
  record HasRow (p : ℕ) : Type 0 where
    row : Row
    is : row_of rows (record { stream = stream; page = p }) ≡ Some row
    same : same_page row.page (record { stream = stream; page = p }) ≡ true

  HasRow-dirty : (p : ℕ) → is_dirty h p ≡ true → HasRow p
  HasRow-dirty p is = go (row_of rows (record { stream = stream; page = p })) refl (dirty.dirty p ∙ is)
    where
      go : (o : Option Row) → row_of rows (record { stream = stream; page = p }) ≡ o → is_some o ≡ true → HasRow p
      go None none some = absurd (cc)
      go (Some row) found some = record { row = row; is = found; same = found-passes (λ (r : Row). same_page r.page (record { stream = stream; page = p })) rows row found }

  -- the row of a page of the span whose image is not known passes
  row-passes : (p : ℕ) (k : HasRow p) → span_has span p ≡ true → is_known h p ≡ false → is_of k.row ≡ true
  row-passes p k has unknown =
      let parts = and_parts (k.row.page.stream == stream) (k.row.page.page == p) k.same in
      let page : k.row.page.page ≡ p = eqb-true _ _ parts.1 in
      and_from _ _ parts.0
      (subst (λ q. (span_has span q && is_in_set q i.unknown) ≡ true) (sym page)
      (and_from _ _ has (stands.unknown_are p ∙ ap not unknown)))

  known-other : (p : ℕ) → not (is_known h p) ≡ true → is_known h p ≡ false
  known-other p is = go (is_known h p) is
    where
      go : (b : Bool) → not b ≡ true → b ≡ false
      go true it = absurd (cc)
      go false it = refl

  least-unknown : (row : Row) → find is_of rows ≡ Some row → IsLeastDirty h span (λ q. not (is_known h q)) row.page.page
  least-unknown row found =
      let passes = and_parts (row.page.stream == stream) _ (found-passes is_of rows row found) in
      let more = and_parts (span_has span row.page.page) _ passes.1 in
      record {
        dirty = of-dirty row found;
        in_span = more.0;
        passes = sym (stands.unknown_are row.page.page) ∙ more.1;
        least = λ q less is has. lesser q less is has (eqb-true _ _ passes.0) (is_known h q) refl;
      }
    where
      lesser : (q : ℕ) → q < row.page.page → is_dirty h q ≡ true → span_has span q ≡ true → row.page.stream ≡ stream → (b : Bool) → is_known h q ≡ b → not b ≡ false
      lesser q less is has of_stream true known = refl
      lesser q less is has of_stream false unknown =
          let k = HasRow-dirty q is in
          absurd (first-row is_of (λ r. same_page r.page (record { stream = stream; page = q })) rows row k.row dirty.sound.ascending found k.is
          (row-passes q k has unknown) (before k.row.page row.page q k.same of_stream less))
        where
          before : (a b : Page) (q : ℕ) → same_page a (record { stream = stream; page = q }) ≡ true → b.stream ≡ stream → q < b.page → precedes a b ≡ true
          before a b q same of less = grind (arith, nat_tests)

  pub unknown-found : option_map (λ (row : Row). row.page.page) (find is_of rows) ≡ find (λ p. span_has span p && not (is_known h p)) (dirty_pages h)
  unknown-found = sym (found-unsettled h a_file span _ (go (find is_of rows) refl))
    where
      none : find is_of rows ≡ None → (p : ℕ) → is_dirty h p ≡ true → span_has span p ≡ true → is_known h p ≡ true
      none absent p is has = at (is_known h p) refl
        where
          at : (b : Bool) → is_known h p ≡ b → b ≡ true
          at true known = refl
          at false unknown =
              let k = HasRow-dirty p is in
              absurd (cc (row-passes p k has unknown, none-fails is_of (λ r. same_page r.page (record { stream = stream; page = p })) rows k.row absent k.is))

      go : (o : Option Row) → find is_of rows ≡ o → unsettled h (call.Discard a_file span) ≡ option_map (λ p. error.Unsettled p) (option_map (λ (row : Row). row.page.page) o)
      go None absent = (unsettled-none h a_file span).1 (none absent)
      go (Some row) found = (unsettled-page h a_file span row.page.page).1 (least-unknown row found)

-- the first byte of a page of the span that has grown
found-among : (test : ℕ → Bool) (ns : List ℕ) (n : ℕ) → find test ns ≡ Some n → is_among n ns ≡ true
found-among test ns n found = found-any test ns n found
  where
    found-any : (test : ℕ → Bool) (ns : List ℕ) (n : ℕ) → find test ns ≡ Some n → is_among n ns ≡ true
    found-any test [] n found = absurd (cc)
    found-any test (m ∷ ns) n found = go (test m) found (found-any test ns n)
      where
        go : (b : Bool) → cond b (Some m) (find test ns) ≡ Some n → (find test ns ≡ Some n → is_among n ns ≡ true) → (m == n || is_among n ns) ≡ true
        go true it rest = let same : m ≡ n = cc in or_left _ _ (eq-eqb m n same)
        go false it rest = or_right (m == n) _ (rest it)

none-among : (test : ℕ → Bool) (ns : List ℕ) (n : ℕ) → find test ns ≡ None → is_among n ns ≡ true → test n ≡ false
none-among test [] n none among = absurd (cc)
none-among test (m ∷ ns) n none among = go (test m) refl none (m == n) refl among (none-among test ns n)
  where
    go : (b : Bool) → test m ≡ b → cond b (Some m) (find test ns) ≡ None → (c : Bool) → (m == n) ≡ c → (c || is_among n ns) ≡ true → (find test ns ≡ None → is_among n ns ≡ true → test n ≡ false) → test n ≡ false
    go true is it c same this rest = absurd (cc)
    go false fails it true same this rest = ap test (sym (eqb-true m n same)) ∙ fails
    go false fails it false other this rest = rest it this

all-below : (P : ℕ → Type 0) (ns : List ℕ) (n : ℕ) → AllByRecursion P ns → is_among n ns ≡ true → P n
all-below P [] n all among = absurd (cc)
all-below P (m ∷ ns) n all among = go (m == n) refl among (all-below P ns n all.1)
  where
    go : (b : Bool) → (m == n) ≡ b → (b || is_among n ns) ≡ true → (is_among n ns ≡ true → P n) → P n
    go true same it rest = subst P (eqb-true m n same) all.0
    go false other it rest = rest it

first-byte : (test : ℕ → Bool) (ns : List ℕ) (n m : ℕ) → AscendsByPage ns → find test ns ≡ Some n → is_among m ns ≡ true → m / 4096 < n / 4096 → test m ≡ false
first-byte test [] n m ascends found among less = absurd (cc)
first-byte test (z ∷ ns) n m ascends found among less = go (test z) refl found (z == m) refl among (first-byte test ns n m ascends.1)
  where
    go : (b : Bool) → test z ≡ b → cond b (Some z) (find test ns) ≡ Some n → (c : Bool) → (z == m) ≡ c → (c || is_among m ns) ≡ true → (find test ns ≡ Some n → is_among m ns ≡ true → m / 4096 < n / 4096 → test m ≡ false) → test m ≡ false
    go true is it true same this rest =
        let first : z ≡ n = cc in
        let second : z ≡ m = eqb-true z m same in
        absurd (omega arith)
    go true is it false other this rest =
        let first : z ≡ n = cc in
        let after : z / 4096 < m / 4096 = all-below (λ later. z / 4096 < later / 4096) ns m ascends.0 this in
        absurd (omega arith)
    go false fails it true same this rest = ap test (sym (eqb-true z m same)) ∙ fails
    go false fails it false other this rest = rest it this less

module _ (h : List Effect) (i : Images) (span : Option Range) (stands : ImagesStand h i) where
  abbrev is_in : ℕ → Bool
  is_in byte = span_has span (byte / 4096)

  kept-first : (byte : ℕ) → is_among byte i.grown ≡ true → IsFirst (low_of h (byte / 4096)) (valid_of h) byte
  kept-first byte among = IsFirst-grown h byte (sym (stands.grown_are byte) ∙ among)

  grown-among : (p : ℕ) (k : HasFirst h p) → is_among k.byte i.grown ≡ true
  grown-among p k = stands.grown_are k.byte ∙ grown-IsFirst h k.byte k.first

  least-grown : (byte : ℕ) → find is_in i.grown ≡ Some byte → IsLeastDirty h span (has_grown h) (byte / 4096)
  least-grown byte found =
      let has = has-grown h byte (kept-first byte (found-among is_in i.grown byte found)) in
      record {
        dirty = stands.grown_is_dirty (byte / 4096) has;
        in_span = found-passes is_in i.grown byte found;
        passes = has;
        least = λ q less is in_it. lesser q less in_it (has_grown h q) refl;
      }
    where
      lesser : (q : ℕ) → q < byte / 4096 → span_has span q ≡ true → (b : Bool) → has_grown h q ≡ b → b ≡ false
      lesser q less has false none = refl
      lesser q less has true grown =
          let k = HasFirst-grown h q grown in
          let page : k.byte / 4096 ≡ q = k.of_page in
          let fails = first-byte is_in i.grown byte k.byte stands.in_order found (grown-among q k) (omega arith) in
          absurd (cc (fails, ap (span_has span) page, has))

  pub grown-found : option_map (λ byte. byte / 4096) (find is_in i.grown) ≡ find (λ p. span_has span p && has_grown h p) (dirty_pages h)
  grown-found = sym (found-grown h a_file span _ (go (find is_in i.grown) refl))
    where
      none : find is_in i.grown ≡ None → (p : ℕ) → is_dirty h p ≡ true → span_has span p ≡ true → has_grown h p ≡ false
      none absent p is has = at (has_grown h p) refl
        where
          at : (b : Bool) → has_grown h p ≡ b → b ≡ false
          at false not_grown = refl
          at true grown =
              let k = HasFirst-grown h p grown in
              absurd (cc (none-among is_in i.grown k.byte absent (grown-among p k), ap (span_has span) k.of_page, has))

      go : (o : Option ℕ) → find is_in i.grown ≡ o → grown h (call.Discard a_file span) ≡ option_map (λ p. error.Grown p) (option_map (λ byte. byte / 4096) o)
      go None absent = (grown-none h a_file span).1 (none absent)
      go (Some byte) found = (grown-page h a_file span (byte / 4096)).1 (least-grown byte found)

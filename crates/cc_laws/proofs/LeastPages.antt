-- The dirty page for which a discard is refused is the least of its span that the reason holds of.
use Rattle.std.specs.Prelude.{◌≡◌, ℕ, ◌<◌, ◌≤◌, Bool, true, false, cond, not, ◌&&◌, ◌||◌, ◌==◌, ◌↔◌, nat_lt, List, [], ◌∷◌, refl}
use Rattle.std.specs.declared.option.Option.{Option}
use Rattle.std.specs.declared.option.Option.TheVariants.{Some, None}
use Rattle.std.specs.List.{find}
use Rattle.std.specs.Option.{option_map}
use Rattle.std.proofs.Common.{ap, sym, subst, ◌∙◌, arith}
use Rattle.std.proofs.lemmas.Bool.{and_parts, and_from, or_left, or_right, eqb-true, eq-eqb, ltb-true, ltb-false}
use Rattle.cc_entry.specs.Place.{File, Range}
use Rattle.cc_entry.specs.declared.call.Call.TheVariants as call
use Rattle.cc_entry.specs.declared.error.CcError.{CcError}
use Rattle.cc_entry.specs.declared.error.CcError.TheVariants as error
use Rattle.cc_model.specs.Numbers.{is_among, ascending}
use Rattle.cc_model.specs.History.{Effect}
use Rattle.cc_model.specs.Ranges.{span_has}
use Rattle.cc_model.specs.Touches.{touched, is_dirty, dirty_pages}
use Rattle.cc_model.specs.Discards.{is_known, has_grown, unsettled, grown}
use Rattle.cc_laws.specs.LeastPages.{IsLeastDirty}
use Rattle.cc_laws.proofs.BlockPages.{Above, Rises, rises-ascending, rises-filter}
use Rattle.cc_laws.proofs.DirtyAmong.{dirty-among, dirty_pages-dirty, find-none}

above-among : (n q : ℕ) (ns : List ℕ) → Above n ns → is_among q ns ≡ true → n < q
above-among n q [] above is = absurd (cc)
above-among n q (m ∷ ns) above is = go (m == q) refl is (above-among n q ns above.1)
  where
    go : (t : Bool) → (m == q) ≡ t → (t || is_among q ns) ≡ true → (is_among q ns ≡ true → n < q) → n < q
    go true same it rest = subst (λ k. n < k) (eqb-true m q same) above.0
    go false other it rest = rest it

-- what is found is in the list and passes the test
record IsFound (test : ℕ → Bool) (p : ℕ) (ns : List ℕ) : Type 0 where
  there : is_among p ns ≡ true
  passes : test p ≡ true

IsFound-find : (test : ℕ → Bool) (p : ℕ) (ns : List ℕ) → find test ns ≡ Some p → IsFound test p ns
IsFound-find test p [] is = absurd (cc)
IsFound-find test p (n ∷ ns) is = go (test n) refl is (IsFound-find test p ns)
  where
    go : (t : Bool) → test n ≡ t → cond t (Some n) (find test ns) ≡ Some p → (find test ns ≡ Some p → IsFound test p ns) → IsFound test p (n ∷ ns)
    go true passes it rest = let same : n ≡ p = cc in record { there = or_left _ _ (subst (λ k. (k == p) ≡ true) (sym same) (itself p)); passes = subst (λ k. test k ≡ true) same passes }
      where
        itself : (k : ℕ) → (k == k) ≡ true
        itself k = eq-eqb k k refl
    go false fails it rest = let k = rest it in record { there = or_right (n == p) _ k.there; passes = k.passes }

-- and no lesser one passes it, where the list ascends
find-least : (test : ℕ → Bool) (p q : ℕ) (ns : List ℕ) → Rises ns → find test ns ≡ Some p → q < p → is_among q ns ≡ true → test q ≡ false
find-least test p q [] rises is less among = absurd (cc)
find-least test p q (n ∷ ns) rises is less among = go (test n) refl is (n == q) refl among (find-least test p q ns rises.1)
  where
    go : (t : Bool) → test n ≡ t → cond t (Some n) (find test ns) ≡ Some p → (u : Bool) → (n == q) ≡ u → (u || is_among q ns) ≡ true → (find test ns ≡ Some p → q < p → is_among q ns ≡ true → test q ≡ false) → test q ≡ false
    go true passes it true same also rest = let first : n ≡ p = cc in let e : n ≡ q = eqb-true n q same in absurd (omega arith)
    go true passes it false other also rest = let first : n ≡ p = cc in let above : n < q = above-among n q ns rises.0 also in absurd (omega arith)
    go false fails it true same also rest = sym (ap test (eqb-true n q same)) ∙ fails
    go false fails it false other also rest = rest it less also

-- the least that passes the test is found
least-found : (test : ℕ → Bool) (p : ℕ) (ns : List ℕ) → Rises ns → is_among p ns ≡ true → test p ≡ true → ((q : ℕ) → q < p → is_among q ns ≡ true → test q ≡ false) → find test ns ≡ Some p
least-found test p ns rises among passes least = go (find test ns) refl
  where
    go : (o : Option ℕ) → find test ns ≡ o → o ≡ Some p
    go None none = absurd (cc (passes, find-none test p ns none among))
    go (Some q) found = ap Some (same (nat_lt q p) refl (nat_lt p q) refl)
      where
        between : q ≤ p → p ≤ q → q ≡ p
        between a b = omega arith

        same : (t : Bool) → nat_lt q p ≡ t → (u : Bool) → nat_lt p q ≡ u → q ≡ p
        same true less u is = let k = IsFound-find test q ns found in absurd (cc (k.passes, least q (ltb-true q p less) k.there))
        same false apart true more = absurd (cc (passes, find-least test q p ns rises found (ltb-true p q more) among))
        same false apart false none = between (ltb-false p q none) (ltb-false q p apart)

module _ (h : List Effect) (span : Option Range) (test : ℕ → Bool) where
  rises : Rises (dirty_pages h)
  rises = rises-filter (is_dirty h) (ascending (touched h)) (rises-ascending (touched h))

  refused : (p : ℕ) → find (λ q. span_has span q && test q) (dirty_pages h) ≡ Some p → IsLeastDirty h span test p
  refused p found =
      let k = IsFound-find (λ q. span_has span q && test q) p (dirty_pages h) found in
      record {
        dirty = dirty_pages-dirty h p k.there;
        in_span = (and_parts (span_has span p) (test p) k.passes).0;
        passes = (and_parts (span_has span p) (test p) k.passes).1;
        least = λ q less dirty has. second (span_has span q) (test q) has (find-least (λ r. span_has span r && test r) p q (dirty_pages h) rises found less (dirty-among h q dirty));
      }
    where
      second : (a b : Bool) → a ≡ true → (a && b) ≡ false → b ≡ false
      second true b is fails = fails
      second false b is fails = absurd (cc)

  refuses : (p : ℕ) → IsLeastDirty h span test p → find (λ q. span_has span q && test q) (dirty_pages h) ≡ Some p
  refuses p k =
      least-found (λ q. span_has span q && test q) p (dirty_pages h) rises (dirty-among h p k.dirty) (and_from _ _ k.in_span k.passes)
      (λ q less among. fails q less (dirty_pages-dirty h q among) (span_has span q) refl)
    where
      fails : (q : ℕ) → q < p → is_dirty h q ≡ true → (a : Bool) → span_has span q ≡ a → (span_has span q && test q) ≡ false
      fails q less dirty true has = ap (λ b. b && test q) has ∙ k.least q less dirty has
      fails q less dirty false has = ap (λ b. b && test q) has

  -- where no dirty page of the span passes the test, and only there, none is found
  none_refused : find (λ q. span_has span q && test q) (dirty_pages h) ≡ None → (p : ℕ) → is_dirty h p ≡ true → span_has span p ≡ true → test p ≡ false
  none_refused none p dirty has = second (span_has span p) (test p) has (find-none (λ q. span_has span q && test q) p (dirty_pages h) none (dirty-among h p dirty))
    where
      second : (a b : Bool) → a ≡ true → (a && b) ≡ false → b ≡ false
      second true b is fails = fails
      second false b is fails = absurd (cc)

  refuses_none : ((p : ℕ) → is_dirty h p ≡ true → span_has span p ≡ true → test p ≡ false) → find (λ q. span_has span q && test q) (dirty_pages h) ≡ None
  refuses_none free = go (find (λ q. span_has span q && test q) (dirty_pages h)) refl
    where
      go : (o : Option ℕ) → find (λ q. span_has span q && test q) (dirty_pages h) ≡ o → o ≡ None
      go None is = refl
      go (Some p) is = let k = refused p is in absurd (cc (k.passes, free p k.dirty k.in_span))

-- a reason that names a page
named-some : (reason : ℕ → CcError) → ((p q : ℕ) → reason p ≡ reason q → p ≡ q) → (o : Option ℕ) (p : ℕ) → (option_map reason o ≡ Some (reason p)) ↔ (o ≡ Some p)
named-some reason same o p = (to o, λ is. ap (option_map reason) is)
  where
    some : (a b : CcError) → Some a ≡ Some b → a ≡ b
    some a b e = cc

    to : (o : Option ℕ) → option_map reason o ≡ Some (reason p) → o ≡ Some p
    to None is = absurd (cc)
    to (Some q) is = ap Some (same q p (some (reason q) (reason p) is))

named-none : (reason : ℕ → CcError) (o : Option ℕ) → (option_map reason o ≡ None) ↔ (o ≡ None)
named-none reason o = (to o, λ is. ap (option_map reason) is)
  where
    to : (o : Option ℕ) → option_map reason o ≡ None → o ≡ None
    to None is = refl
    to (Some q) is = absurd (cc)

same_unsettled : (p q : ℕ) → error.Unsettled p ≡ error.Unsettled q → p ≡ q
same_unsettled p q e = cc

same_grown : (p q : ℕ) → error.Grown p ≡ error.Grown q → p ≡ q
same_grown p q e = cc

pub unsettled-page : (h : List Effect) (file : File) (span : Option Range) (p : ℕ) → (unsettled h (call.Discard file span) ≡ Some (error.Unsettled p)) ↔ IsLeastDirty h span (λ q. not (is_known h q)) p
unsettled-page h file span p =
    let named = named-some (λ q. error.Unsettled q) same_unsettled (find (λ q. span_has span q && not (is_known h q)) (dirty_pages h)) p in
    (λ is. refused h span (λ q. not (is_known h q)) p (named.0 is), λ k. named.1 (refuses h span (λ q. not (is_known h q)) p k))

pub unsettled-none : (h : List Effect) (file : File) (span : Option Range) → (unsettled h (call.Discard file span) ≡ None) ↔ ((p : ℕ) → is_dirty h p ≡ true → span_has span p ≡ true → is_known h p ≡ true)
unsettled-none h file span =
    let named = named-none (λ q. error.Unsettled q) (find (λ q. span_has span q && not (is_known h q)) (dirty_pages h)) in (
      λ is p dirty has. known (is_known h p) (none_refused h span (λ q. not (is_known h q)) (named.0 is) p dirty has),
      λ free. named.1 (refuses_none h span (λ q. not (is_known h q)) (λ p dirty has. ap not (free p dirty has))),
    )
  where
    known : (b : Bool) → not b ≡ false → b ≡ true
    known true is = refl
    known false is = absurd (cc)

pub grown-page : (h : List Effect) (file : File) (span : Option Range) (p : ℕ) → (grown h (call.Discard file span) ≡ Some (error.Grown p)) ↔ IsLeastDirty h span (has_grown h) p
grown-page h file span p =
    let named = named-some (λ q. error.Grown q) same_grown (find (λ q. span_has span q && has_grown h q) (dirty_pages h)) p in
    (λ is. refused h span (has_grown h) p (named.0 is), λ k. named.1 (refuses h span (has_grown h) p k))

pub grown-none : (h : List Effect) (file : File) (span : Option Range) → (grown h (call.Discard file span) ≡ None) ↔ ((p : ℕ) → is_dirty h p ≡ true → span_has span p ≡ true → has_grown h p ≡ false)
grown-none h file span =
    let named = named-none (λ q. error.Grown q) (find (λ q. span_has span q && has_grown h q) (dirty_pages h)) in
    (λ is. none_refused h span (has_grown h) (named.0 is), λ free. named.1 (refuses_none h span (has_grown h) free))

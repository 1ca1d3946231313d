-- The least page of a span to which a pin owes a stamp.
use Rattle.std.specs.Prelude.{◌≡◌, ℕ, ◌<◌, ◌≤◌, Bool, true, false, ◌&&◌, ◌||◌, ◌==◌, min, List, [], ◌∷◌, fold, cond, if◌then◌else◌, refl}
use Rattle.std.specs.declared.option.Option.{Option}
use Rattle.std.specs.declared.option.Option.TheVariants.{Some, None}
use Rattle.std.specs.List.{find, flat_map, list_any}
use Rattle.std.proofs.Common.{ap, sym, subst, ◌∙◌, inl, inr, arith}
use Rattle.std.proofs.lemmas.Bool.{cases_lt, eqb-true, eq-eqb, or_left, or_right}
use Rattle.std.proofs.lemmas.List.Folds.{list_any-append}
use Rattle.cc_entry.specs.Place.{Range}
use Rattle.cc_entry.specs.Pages.{has_page, pages_of}
use Rattle.cc_entry.specs.Kinds.{is_pin}
use Rattle.cc_model.specs.Numbers.{is_among}
use Rattle.cc_model.specs.History.{Effect}
use Rattle.cc_model.specs.Holds.{holds_of, lesser}
use Rattle.cc_model.specs.Holds as held
use Rattle.cc_model.specs.Ranges.{span_has}
use Rattle.cc_model.specs.Stamps.{owes_stamp, owed_pages}
use Rattle.cc_laws.proofs.BlockPages.{Above, Rises, rises-ascending}
use Rattle.cc_laws.proofs.DirtyAmong.{is_among-ascending}
use Rattle.cc_holds.specs.Holds.{is_unstamped_through}
use Rattle.cc_holds.specs.Touched.{has_touched}
use Rattle.cc_holds.specs.declared.holds.KeptHold.{KeptHold}
use Rattle.cc_holds.specs.Stands.{HoldsStand}
use Rattle.cc_holds.specs.Looks.{with_least, with_owed}
use Rattle.cc_holds.proofs.PagesOwed.{among-pages_of}
use Rattle.cc_holds.proofs.KeptReads.{any-kept, owes-kept}

-- the least number that is there and passes the test
record IsLeast (test there : ℕ → Bool) (p : ℕ) : Type 0 where
  is_there : there p ≡ true
  passes : test p ≡ true
  least : (q : ℕ) → q < p → there q ≡ true → test q ≡ false

abbrev IsLeastOf : (ℕ → Bool) → (ℕ → Bool) → Option ℕ → Type 0
IsLeastOf test there None = (q : ℕ) → there q ≡ true → test q ≡ false
IsLeastOf test there (Some p) = IsLeast test there p

least_of-same : (test there same : ℕ → Bool) (o : Option ℕ) → ((q : ℕ) → same q ≡ there q) → IsLeastOf test there o → IsLeastOf test same o
least_of-same test there same None is none = λ q at. none q (sym (is q) ∙ at)
least_of-same test there same (Some p) is least =
    record { is_there = is p ∙ least.is_there; passes = least.passes; least = λ q less at. least.least q less (sym (is q) ∙ at) }

-- one more number
or_other : (a b : Bool) → (a || b) ≡ true → a ≡ false → b ≡ true
or_other true b is none = absurd (cc)
or_other false b is none = is

least_of-one : (test there : ℕ → Bool) (n : ℕ) (o : Option ℕ) → IsLeastOf test there o → IsLeastOf test (λ q. there q || (n == q)) (if test n then lesser n o else o)
least_of-one test there n o least = go (test n) refl o least
  where
    here : (there n || (n == n)) ≡ true
    here = or_right (there n) (n == n) (eq-eqb n n refl)

    fails-other : test n ≡ false → (q : ℕ) → (there q || (n == q)) ≡ true → (there q ≡ true → test q ≡ false) → test q ≡ false
    fails-other fails q at rest = by (there q) refl
      where
        by : (b : Bool) → there q ≡ b → test q ≡ false
        by true is = rest is
        by false is = subst (λ k. test k ≡ false) (eqb-true n q (or_other (there q) (n == q) at is)) fails

    go : (b : Bool) → test n ≡ b → (o : Option ℕ) → IsLeastOf test there o → IsLeastOf test (λ q. there q || (n == q)) (if b then lesser n o else o)
    go false fails None none = λ q at. fails-other fails q at (none q)
    go false fails (Some p) least = record {
      is_there = or_left (there p) (n == p) least.is_there;
      passes = least.passes;
      least = λ q less at. fails-other fails q at (least.least q less);
    }
    go true passes None none = record { is_there = here; passes = passes; least = λ q less at. by q less at (there q) refl }
      where
        by : (q : ℕ) → q < n → (there q || (n == q)) ≡ true → (b : Bool) → there q ≡ b → test q ≡ false
        by q less at true is = none q is
        by q less at false is = let e : n ≡ q = eqb-true n q (or_other (there q) (n == q) at is) in absurd (omega arith)
    go true passes (Some p) least = elim (cases_lt p n) [
      | inl below ↦ subst (IsLeast test (λ q. there q || (n == q))) (right n p below) (record {
        is_there = or_left (there p) (n == p) least.is_there;
        passes = least.passes;
        least = λ q less at. by q less below at (there q) refl;
      })
      | inr above ↦ subst (IsLeast test (λ q. there q || (n == q))) (left n p above) (record {
        is_there = here;
        passes = passes;
        least = λ q less at. under q less above at (there q) refl;
      })
    ]
      where
        right : (n p : ℕ) → p < n → p ≡ min n p
        right n p less = omega arith

        left : (n p : ℕ) → n ≤ p → n ≡ min n p
        left n p less = omega arith

        by : (q : ℕ) → q < p → p < n → (there q || (n == q)) ≡ true → (b : Bool) → there q ≡ b → test q ≡ false
        by q less below at true is = least.least q less is
        by q less below at false is = let e : n ≡ q = eqb-true n q (or_other (there q) (n == q) at is) in absurd (omega arith)

        under : (q : ℕ) → q < n → n ≤ p → (there q || (n == q)) ≡ true → (b : Bool) → there q ≡ b → test q ≡ false
        under q less above at true is = least.least q (omega arith) is
        under q less above at false is = let e : n ≡ q = eqb-true n q (or_other (there q) (n == q) at is) in absurd (omega arith)

or_assoc : (a b c : Bool) → (a || (b || c)) ≡ ((a || b) || c)
or_assoc true b c = refl
or_assoc false b c = refl

or_none : (a : Bool) → a ≡ (a || false)
or_none true = refl
or_none false = refl

-- more numbers
least_of-more : (span : Option Range) (there : ℕ → Bool) (ns : List ℕ) (o : Option ℕ) → IsLeastOf (span_has span) there o → IsLeastOf (span_has span) (λ q. there q || is_among q ns) (fold (with_least span) o ns)
least_of-more span there [] o least = least_of-same (span_has span) there _ o (λ q. sym (or_none (there q))) least
least_of-more span there (n ∷ ns) o least =
    least_of-same (span_has span) _ _ (fold (with_least span) (with_least span o n) ns) (λ q. or_assoc (there q) (n == q) (is_among q ns))
    (least_of-more span (λ q. there q || (n == q)) ns (with_least span o n) (least_of-one (span_has span) there n o least))

-- the pages to which a hold owes a stamp
least_of-hold : (span : Option Range) (there : ℕ → Bool) (kept : KeptHold) (o : Option ℕ) → IsLeastOf (span_has span) there o → IsLeastOf (span_has span) (λ q. there q || is_unstamped_through q kept) (with_owed span o kept)
least_of-hold span there kept o least = go (is_pin kept.row.kind)
  where
    go : (b : Bool) → IsLeastOf (span_has span) (λ q. there q || (b && has_touched kept.touched q)) (if b then fold (with_least span) o kept.touched else o)
    go true = least_of-more span there kept.touched o least
    go false = least_of-same (span_has span) there _ o (λ q. sym (or_none (there q))) least

least_of-holds : (span : Option Range) (there : ℕ → Bool) (holds : List KeptHold) (o : Option ℕ) → IsLeastOf (span_has span) there o → IsLeastOf (span_has span) (λ q. there q || list_any (is_unstamped_through q) holds) (fold (with_owed span) o holds)
least_of-holds span there [] o least = least_of-same (span_has span) there _ o (λ q. sym (or_none (there q))) least
least_of-holds span there (kept ∷ holds) o least =
    least_of-same (span_has span) _ _ (fold (with_owed span) (with_owed span o kept) holds) (λ q. or_assoc (there q) (is_unstamped_through q kept) (list_any (is_unstamped_through q) holds))
    (least_of-holds span (λ q. there q || is_unstamped_through q kept) holds (with_owed span o kept) (least_of-hold span there kept o least))

-- the pages of holds to which they owe a stamp, by the definition
among-ranges : (p : ℕ) (owed : List Range) → is_among p (flat_map pages_of owed) ≡ list_any (λ r. has_page r p) owed
among-ranges p [] = refl
among-ranges p (r ∷ owed) =
    list_any-append (λ m. m == p) (pages_of r) (flat_map pages_of owed)
    ∙ (rw (among-pages_of r p, among-ranges p owed) refl)

abbrev pages_owed : held.Hold → List ℕ
pages_owed hold = if is_pin hold.kind then flat_map pages_of hold.owed else []

among-owed : (p : ℕ) (holds : List held.Hold) → is_among p (flat_map pages_owed holds) ≡ list_any (owes_stamp p) holds
among-owed p [] = refl
among-owed p (hold ∷ holds) =
    list_any-append (λ m. m == p) (pages_owed hold) (flat_map pages_owed holds)
    ∙ (rw (here (is_pin hold.kind), among-owed p holds) refl)
  where
    here : (b : Bool) → is_among p (if b then flat_map pages_of hold.owed else []) ≡ (b && list_any (λ r. has_page r p) hold.owed)
    here true = among-ranges p hold.owed
    here false = refl

-- the least of an ascending list is what is found first
above-other : (n q : ℕ) (ns : List ℕ) → Above n ns → is_among q ns ≡ true → n < q
above-other n q [] above is = absurd (cc)
above-other n q (m ∷ ns) above is = go (m == q) refl is (above-other n q ns above.1)
  where
    go : (t : Bool) → (m == q) ≡ t → (t || is_among q ns) ≡ true → (is_among q ns ≡ true → n < q) → n < q
    go true same it rest = subst (λ k. n < k) (eqb-true m q same) above.0
    go false other it rest = rest it

found-least : (test : ℕ → Bool) (ns : List ℕ) (o : Option ℕ) → Rises ns → IsLeastOf test (λ q. is_among q ns) o → find test ns ≡ o
found-least test [] None rises least = refl
found-least test [] (Some p) rises least = absurd (cc least.is_there)
found-least test (n ∷ ns) o rises least = go (test n) refl o least (found-least test ns)
  where
    first : is_among n (n ∷ ns) ≡ true
    first = or_left (n == n) (is_among n ns) (eq-eqb n n refl)

    go : (b : Bool) → test n ≡ b → (o : Option ℕ) → IsLeastOf test (λ q. is_among q (n ∷ ns)) o → ((o : Option ℕ) → Rises ns → IsLeastOf test (λ q. is_among q ns) o → find test ns ≡ o) → cond b (Some n) (find test ns) ≡ o
    go true passes None none rest = absurd (cc (none n first))
    go true passes (Some p) least rest = ap Some (by (n == p) refl)
      where
        by : (b : Bool) → (n == p) ≡ b → n ≡ p
        by true same = eqb-true n p same
        by false other = let above : n < p = above-other n p ns rises.0 (or_other (n == p) (is_among p ns) least.is_there other) in absurd (cc (least.least n above first))
    go false fails None none rest = rest None rises.1 (λ q at. none q (or_right (n == q) (is_among q ns) at))
    go false fails (Some p) least rest = rest (Some p) rises.1 (record {
      is_there = or_other (n == p) (is_among p ns) least.is_there (apart (n == p) refl);
      passes = least.passes;
      least = λ q less at. least.least q less (or_right (n == q) (is_among q ns) at);
    })
      where
        apart : (b : Bool) → (n == p) ≡ b → (n == p) ≡ false
        apart true same = absurd (cc (ap test (eqb-true n p same), least.passes))
        apart false other = other

-- the least page of the span to which a kept pin owes a stamp is that of the definition
pub least_owed-kept : (span : Option Range) (h : List Effect) (holds : List KeptHold) → HoldsStand h holds → find (span_has span) (owed_pages (holds_of h)) ≡ fold (with_owed span) None holds
least_owed-kept span h holds stands =
    found-least (span_has span) (owed_pages (holds_of h)) (fold (with_owed span) None holds) (rises-ascending (flat_map pages_owed (holds_of h)))
    (least_of-same (span_has span) _ _ (fold (with_owed span) None holds) (λ q. is_among-ascending q (flat_map pages_owed (holds_of h)) ∙ (among-owed q (holds_of h) ∙ sym (any-kept (owes_stamp q) (is_unstamped_through q) (owes-kept q) h holds stands)))
    (least_of-holds span (λ q. false) holds None (λ q at. absurd (cc))))

-- Each step keeps the rule of a queue.
use Rattle.std.proofs.Common.{◌≡◌, ◌≢◌, ℕ, zero, suc, ◌<◌, ◌≤◌, ◌⊎◌, Bool, true, false, List, [], ◌∷◌, ◌++◌, length, set, refl, ap, sym, ◌∙◌, subst, inl, inr, ⊎_elim, append_assoc, length-set, length-append, arith}
use Rattle.std.specs.Prelude.{◌==◌, if◌then◌else◌}
use Rattle.std.proofs.lemmas.Bool.{eq-eqb, ne_eqb}
use Rattle.std.proofs.lemmas.List.{map-append}
use mathlib.Core.Option.{some, some-injective, some-ne-none}
use lib.ListN.{get_elem?}
use Rattle.crossbeam_queue.specs.Fifo.{Pushes, Pops, Forks, Learns}
use Rattle.crossbeam_queue.proofs.Lists.{at_set, set_again}
use Rattle.cc_queue.specs.declared.rule.Hand.{Hand}
use Rattle.cc_queue.specs.Order.{empty_hand, items_by, all_items, IsInOneOrder, HasPushed, HasTaken, MayHold}

module _ {A : Type 0} where
  within : (l : List A) (i : ℕ) (a : A) → get_elem? l i ≡ some a → i < length l
  within [] i a at = absurd (some-ne-none a (sym at))
  within (x ∷ xs) zero a at = omega arith
  within (x ∷ xs) (suc i) a at = let below = within xs i a at in omega arith

  -- what is at a place of a list with one element more
  at_end : (l : List A) (a b : A) (i : ℕ) → get_elem? (l ++ a ∷ []) i ≡ some b → (get_elem? l i ≡ some b) ⊎ ((i ≡ length l) × (a ≡ b))
  at_end [] a b zero at = inr (refl, some-injective a b at)
  at_end [] a b (suc i) at = absurd (some-ne-none b (sym at))
  at_end (x ∷ xs) a b zero at = inl at
  at_end (x ∷ xs) a b (suc i) at = ⊎_elim (λ t. inl t) (λ t. inr (ap suc t.0, t.1)) (at_end xs a b i at)

module _ {T : Type 0} where
  -- an item behind the others is its place's alone
  behind : (place number : ℕ) (item : T) (l : List (ℕ × T)) → items_by place (l ++ (number, item) ∷ []) ≡ (if number == place then items_by place l ++ item ∷ [] else items_by place l)
  behind place number item [] = refl
  behind place number item ((n, x) ∷ l) = go (items_by place (l ++ (number, item) ∷ [])) (items_by place l) (n == place) (number == place) (behind place number item l)
    where
      go : (more rest : List T) (b c : Bool) → more ≡ (if c then rest ++ item ∷ [] else rest) → (if b then x ∷ more else more) ≡ (if c then (if b then x ∷ rest else rest) ++ item ∷ [] else (if b then x ∷ rest else rest))
      go more rest true true is = ap (λ l. x ∷ l) is
      go more rest true false is = ap (λ l. x ∷ l) is
      go more rest false true is = is
      go more rest false false is = is

  own-behind : (place number : ℕ) (item : T) (l : List (ℕ × T)) → place ≡ number → items_by place (l ++ (number, item) ∷ []) ≡ items_by place l ++ item ∷ []
  own-behind place number item l is = behind place number item l ∙ ap (λ (b : Bool). if b then items_by place l ++ item ∷ [] else items_by place l) (eq-eqb number place (sym is))

  other-behind : (place number : ℕ) (item : T) (l : List (ℕ × T)) → place ≢ number → items_by place (l ++ (number, item) ∷ []) ≡ items_by place l
  other-behind place number item l other = behind place number item l ∙ ap (λ (b : Bool). if b then items_by place l ++ item ∷ [] else items_by place l) (ne_eqb number place (λ is. other (sym is)))

  all-behind : (number : ℕ) (item : T) (l : List (ℕ × T)) → all_items (l ++ (number, item) ∷ []) ≡ all_items l ++ item ∷ []
  all-behind number item l = map-append (λ (entry : ℕ × T). entry.1) l ((number, item) ∷ [])

  -- A list of each place's items holds of what all have, where one place got an item behind its own: what it says of the
  -- others stays.
  one-more : (mine : Hand T → List T) (number : ℕ) (item : T) (l : List (ℕ × T)) (hands : List (Hand T)) (old new : Hand T)
      → get_elem? hands number ≡ some old → mine new ≡ mine old ++ item ∷ []
      → ((place : ℕ) (hand : Hand T) → get_elem? hands place ≡ some hand → mine hand ≡ items_by place l)
      → (place : ℕ) (hand : Hand T) → get_elem? (set hands number new) place ≡ some hand → mine hand ≡ items_by place (l ++ (number, item) ∷ [])
  one-more mine number item l hands old new has more each place hand at =
      ⊎_elim
      (λ (here : (place ≡ number) × (new ≡ hand)).
      ap mine (sym here.1) ∙ more ∙ ap (λ m. m ++ item ∷ []) (each number old has)
      ∙ ap (λ (n : ℕ). items_by n l ++ item ∷ []) (sym here.0) ∙ sym (own-behind place number item l here.0))
      (λ (there : (place ≢ number) × (get_elem? hands place ≡ some hand)). each place hand there.1 ∙ sym (other-behind place number item l there.0))
      (at_set hands number place new hand at)

  -- what is said of each place stays where one place changes otherwise
  same-mine : (mine : Hand T → List T) (number : ℕ) (l : List (ℕ × T)) (hands : List (Hand T)) (old new : Hand T)
      → get_elem? hands number ≡ some old → mine new ≡ mine old
      → ((place : ℕ) (hand : Hand T) → get_elem? hands place ≡ some hand → mine hand ≡ items_by place l)
      → (place : ℕ) (hand : Hand T) → get_elem? (set hands number new) place ≡ some hand → mine hand ≡ items_by place l
  same-mine mine number l hands old new has same each place hand at =
      ⊎_elim
      (λ (here : (place ≡ number) × (new ≡ hand)).
      ap mine (sym here.1) ∙ same ∙ each number old has ∙ ap (λ (n : ℕ). items_by n l) (sym here.0))
      (λ (there : (place ≢ number) × (get_elem? hands place ≡ some hand)). each place hand there.1)
      (at_set hands number place new hand at)

  -- and of those past the last
  none-more : (number : ℕ) (item : T) (l : List (ℕ × T)) (hands : List (Hand T)) (old new : Hand T)
      → get_elem? hands number ≡ some old
      → ((place : ℕ) → length hands ≤ place → items_by place l ≡ [])
      → (place : ℕ) → length (set hands number new) ≤ place → items_by place (l ++ (number, item) ∷ []) ≡ []
  none-more number item l hands old new has none place past =
      let long = length-set hands number new in
      let below = within hands number old has in
      other-behind place number item l (λ is. absurd (omega (arith, is, below, long, past))) ∙ none place (omega (arith, long, past))

  none-same : (number : ℕ) (l : List (ℕ × T)) (hands : List (Hand T)) (new : Hand T)
      → ((place : ℕ) → length hands ≤ place → items_by place l ≡ [])
      → (place : ℕ) → length (set hands number new) ≤ place → items_by place l ≡ []
  none-same number l hands new none place past = none place (let long = length-set hands number new in omega (arith, long, past))

  pub begins : IsInOneOrder [] (empty_hand {T = T} ∷ [])
  begins = record {
    pushed = [];
    taken = [];
    front = refl;
    each_pushed = λ place hand at. ap (λ (h : Hand T). h.pushed) (sym (only place hand at));
    each_taken = λ place hand at. ap (λ (h : Hand T). h.taken) (sym (only place hand at));
    none_pushed = λ place past. refl;
    none_taken = λ place past. refl;
  }
    where
      only : (place : ℕ) (hand : Hand T) → get_elem? (empty_hand ∷ []) place ≡ some hand → empty_hand ≡ hand
      only zero hand at = some-injective empty_hand hand at
      only (suc place) hand at = absurd (some-ne-none hand (sym at))

  pub pushes : (n number : ℕ) (v : Hand T) (item : T) → Pushes IsInOneOrder n number v item (HasPushed v item)
  pushes n number v item items hands room h has =
      let new : Hand T = record v { pushed = v.pushed ++ item ∷ [] } in (
        new,
        record {
          pushed = h.pushed ++ (number, item) ∷ [];
          taken = h.taken;
          front = all-behind number item h.pushed ∙ ap (λ l. l ++ item ∷ []) h.front ∙ append_assoc (all_items h.taken) items (item ∷ []);
          each_pushed = one-more (λ (hand : Hand T). hand.pushed) number item h.pushed hands v new has refl h.each_pushed;
          each_taken = same-mine (λ (hand : Hand T). hand.taken) number h.taken hands v new has refl h.each_taken;
          none_pushed = none-more number item h.pushed hands v new has h.none_pushed;
          none_taken = none-same number h.taken hands new h.none_taken;
        },
        refl,
      )

  pub takes : (number : ℕ) (v : Hand T) → Pops IsInOneOrder number v (HasTaken v)
  takes number v item items hands h has =
      let new : Hand T = record v { taken = v.taken ++ item ∷ [] } in (
        new,
        record {
          pushed = h.pushed;
          taken = h.taken ++ (number, item) ∷ [];
          front = h.front ∙ sym (ap (λ l. l ++ items) (all-behind number item h.taken) ∙ append_assoc (all_items h.taken) (item ∷ []) items);
          each_pushed = same-mine (λ (hand : Hand T). hand.pushed) number h.pushed hands v new has refl h.each_pushed;
          each_taken = one-more (λ (hand : Hand T). hand.taken) number item h.taken hands v new has refl h.each_taken;
          none_pushed = none-same number h.pushed hands new h.none_pushed;
          none_taken = none-more number item h.taken hands v new has h.none_taken;
        },
        refl,
      )

  pub forks : (number : ℕ) (v : Hand T) → Forks IsInOneOrder number v v empty_hand
  forks number v items hands h has = subst (λ (l : List (Hand T)). IsInOneOrder items (l ++ empty_hand ∷ [])) (sym (set_again hands number v has)) (record {
    pushed = h.pushed;
    taken = h.taken;
    front = h.front;
    each_pushed = λ place hand at. each (λ (x : Hand T). x.pushed) refl h.pushed h.each_pushed h.none_pushed place hand (at_end hands empty_hand hand place at);
    each_taken = λ place hand at. each (λ (x : Hand T). x.taken) refl h.taken h.each_taken h.none_taken place hand (at_end hands empty_hand hand place at);
    none_pushed = λ place past. h.none_pushed place (let long = length-append hands (empty_hand ∷ []) in omega (arith, long, past));
    none_taken = λ place past. h.none_taken place (let long = length-append hands (empty_hand ∷ []) in omega (arith, long, past));
  })
    where
      each : (mine : Hand T → List T) → mine empty_hand ≡ [] → (l : List (ℕ × T))
          → ((place : ℕ) (hand : Hand T) → get_elem? hands place ≡ some hand → mine hand ≡ items_by place l)
          → ((place : ℕ) → length hands ≤ place → items_by place l ≡ [])
          → (place : ℕ) (hand : Hand T) → (get_elem? hands place ≡ some hand) ⊎ ((place ≡ length hands) × (empty_hand ≡ hand)) → mine hand ≡ items_by place l
      each mine empty l all none place hand at =
          ⊎_elim (all place hand)
          (λ (last : (place ≡ length hands) × (empty_hand ≡ hand)). ap mine (sym last.1) ∙ empty ∙ sym (none place (let is = last.0 in omega (arith, is))))
          at

  pub learns : (number : ℕ) (v : Hand T) → Learns IsInOneOrder number v (MayHold v)
  learns number v items hands h has = record { hands = hands; place = number; rule = h; has = has }

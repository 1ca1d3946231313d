-- Dirty, said of places in a history: a touch of the page that no later transfer wrote and nothing cut.
use Rattle.std.specs.Prelude.{◌≡◌, ℕ, suc, ◌<◌, ◌≤◌, Bool, true, false, not, ◌&&◌, ◌||◌, ◌↔◌, cond, nat_lt, List, [], ◌∷◌, ◌++◌, length, refl}
use Rattle.std.specs.List.{list_all}
use Rattle.std.specs.declared.option.Option.{Option}
use Rattle.std.proofs.Common.{ap, sym, subst, ◌∙◌, arith}
use Rattle.std.proofs.lemmas.Bool.{and_parts, and_from, or_parts, or_from, or_left, or_right, ltb-true, lt-ltb}
use Rattle.cc_model.specs.Numbers.{is_empty}
use Rattle.cc_model.specs.History.{Effect}
use Rattle.cc_model.specs.Sizes.{Touch, touched_if}
use Rattle.cc_model.specs.Touches.{touches, unwritten, is_dirty}
use Rattle.cc_laws.specs.ByPlaces.{some_effect, touches_page, lsn_of_touch, cuts_page, begins_page_transfer, ends_well}
use Rattle.cc_laws.specs.ByPlacesDirty.{IsTransferredSince, IsTouch, Has, here, there, is_newest_first}
use Rattle.cc_laws.proofs.PlacesSteps.{touches_after, touches-effect}

-- whether what stands before these effects is written, where `ended` says whether a good end follows them
abbrev pub writes_it : Bool → List Effect → ℕ → Bool
writes_it ended [] p = false
writes_it ended (e ∷ later) p = (ended && begins_page_transfer p e) || writes_it (ended || ends_well p e) later p

-- a place whose touch is left
record IsLeft (ended : Bool) (h : List Effect) (p : ℕ) (t : Touch) : Type 0 where
  later : List Effect
  effect : Effect
  before : List Effect
  places : h ≡ later ++ effect ∷ before
  touches_it : touches_page p effect before ≡ true
  is : t ≡ record { place = suc (length before); lsn = lsn_of_touch effect }
  unwritten : writes_it ended later p ≡ false
  uncut : some_effect (cuts_page p) later (effect ∷ before) ≡ false

IsLeft-later : (ended : Bool) (e : Effect) (h : List Effect) (p : ℕ) (t : Touch) → cuts_page p e h ≡ false → (ended && begins_page_transfer p e) ≡ false → IsLeft (ended || ends_well p e) h p t → IsLeft ended (e ∷ h) p t
IsLeft-later ended e h p t uncut unwritten k =
    record {
      later = e ∷ k.later;
      effect = k.effect;
      before = k.before;
      places = ap (λ (rest : List Effect). e ∷ rest) k.places;
      touches_it = k.touches_it;
      is = k.is;
      unwritten = or_from _ _ unwritten k.unwritten;
      uncut = or_from _ _ (subst (λ (rest : List Effect). cuts_page p e rest ≡ false) k.places uncut) k.uncut;
    }

Has-cases : {P : Type 0} {s t : Touch} {ts : List Touch} → Has (s ∷ ts) t → (t ≡ s → P) → (Has ts t → P) → P
Has-cases here first rest = first refl
Has-cases (there has) first rest = rest has

Has-none : {P : Type 0} {t : Touch} → Has [] t → P
Has-none has = elim has [ ]

Has-after : {P : Type 0} (own cut written : Bool) (place : ℕ) (lsn : Option ℕ) (ts : List Touch) (t : Touch) → Has (touched_if own place lsn (cond cut [] (cond written [] ts))) t → (own ≡ true → t ≡ record { place = place; lsn = lsn } → P) → (cut ≡ false → written ≡ false → Has ts t → P) → P
Has-after true true written place lsn ts t has first rest = Has-cases has (first refl) Has-none
Has-after true false true place lsn ts t has first rest = Has-cases has (first refl) Has-none
Has-after true false false place lsn ts t has first rest = Has-cases has (first refl) (rest refl refl)
Has-after false true written place lsn ts t has first rest = Has-none has
Has-after false false true place lsn ts t has first rest = Has-none has
Has-after false false false place lsn ts t has first rest = rest refl refl has

IsLeft-has : (ended : Bool) (h : List Effect) (p : ℕ) (t : Touch) → Has (touches ended h p) t → IsLeft ended h p t
unfolding touches
IsLeft-has ended [] p t has = Has-none has
IsLeft-has ended (e ∷ h) p t has =
    let k : Has (touches_after ended e h p) t = subst (λ (ts : List Touch). Has ts t) (touches-effect ended e h p) has in
    Has-after (touches_page p e h) (cuts_page p e h) (ended && begins_page_transfer p e) (suc (length h)) (lsn_of_touch e) (touches (ended || ends_well p e) h p) t k
    (λ own is. record { later = []; effect = e; before = h; places = refl; touches_it = own; is = is; unwritten = refl; uncut = refl })
    (λ uncut unwritten rest. IsLeft-later ended e h p t uncut unwritten (IsLeft-has (ended || ends_well p e) h p t rest))

Has-own : (own : Bool) (place : ℕ) (lsn : Option ℕ) (ts : List Touch) → own ≡ true → Has (touched_if own place lsn ts) (record { place = place; lsn = lsn })
Has-own true place lsn ts is = here
Has-own false place lsn ts is = absurd (cc)

Has-rest : (own cut written : Bool) (place : ℕ) (lsn : Option ℕ) (ts : List Touch) (t : Touch) → cut ≡ false → written ≡ false → Has ts t → Has (touched_if own place lsn (cond cut [] (cond written [] ts))) t
Has-rest own true written place lsn ts t uncut unwritten has = absurd (cc)
Has-rest own false true place lsn ts t uncut unwritten has = absurd (cc)
Has-rest true false false place lsn ts t uncut unwritten has = there has
Has-rest false false false place lsn ts t uncut unwritten has = has

has-place : (ended : Bool) (later : List Effect) (e : Effect) (before : List Effect) (p : ℕ) → touches_page p e before ≡ true → writes_it ended later p ≡ false → some_effect (cuts_page p) later (e ∷ before) ≡ false → Has (touches ended (later ++ e ∷ before) p) (record { place = suc (length before); lsn = lsn_of_touch e })
has-place ended [] e before p own unwritten uncut =
    subst (λ (ts : List Touch). Has ts (record { place = suc (length before); lsn = lsn_of_touch e })) (sym (touches-effect ended e before p)) (Has-own (touches_page p e before) _ _ _ own)
has-place ended (x ∷ later) e before p own unwritten uncut =
    let w = or_parts (ended && begins_page_transfer p x) _ unwritten in
    let c = or_parts (cuts_page p x (later ++ e ∷ before)) _ uncut in
    subst (λ (ts : List Touch). Has ts (record { place = suc (length before); lsn = lsn_of_touch e })) (sym (touches-effect ended x (later ++ e ∷ before) p))
    (Has-rest (touches_page p x (later ++ e ∷ before)) _ _ _ _ _ _ c.0 w.0 (has-place (ended || ends_well p x) later e before p own w.1 c.1))

-- a first begin of the page, newest first
record IsBegun (later : List Effect) (p : ℕ) : Type 0 where
  between : List Effect
  begin : Effect
  front : List Effect
  places : later ≡ between ++ begin ∷ front
  begins_it : begins_page_transfer p begin ≡ true
  first : some_effect (λ e front. begins_page_transfer p e) between (begin ∷ front) ≡ false

IsBegun-writes : (later : List Effect) (p : ℕ) → writes_it true later p ≡ true → IsBegun later p
IsBegun-writes [] p is = absurd (cc)
IsBegun-writes (e ∷ later) p is = go (begins_page_transfer p e) refl is (IsBegun-writes later p)
  where
    go : (b : Bool) → begins_page_transfer p e ≡ b → (b || writes_it true later p) ≡ true → (writes_it true later p ≡ true → IsBegun later p) → IsBegun (e ∷ later) p
    go true begins_it it rest = record { between = []; begin = e; front = later; places = refl; begins_it = begins_it; first = refl }
    go false other it rest =
        let k = rest it in
        record { between = e ∷ k.between; begin = k.begin; front = k.front; places = ap (λ (l : List Effect). e ∷ l) k.places; begins_it = k.begins_it; first = or_from _ _ other k.first }

IsWritten-writes : (later : List Effect) (p : ℕ) → writes_it false later p ≡ true → IsTransferredSince later p
IsWritten-writes [] p is = absurd (cc)
IsWritten-writes (e ∷ later) p is = go (ends_well p e) refl is (IsWritten-writes later p)
  where
    go : (b : Bool) → ends_well p e ≡ b → writes_it b later p ≡ true → (writes_it false later p ≡ true → IsTransferredSince later p) → IsTransferredSince (e ∷ later) p
    go true ends_it it rest =
        let k = IsBegun-writes later p it in
        record { after = []; ok_end = e; between = k.between; begin = k.begin; front = k.front; places = ap (λ (l : List Effect). e ∷ l) k.places; begins_it = k.begins_it; ends_it = ends_it; same_transfer = k.first }
    go false other it rest =
        let k = rest it in
        record { after = e ∷ k.after; ok_end = k.ok_end; between = k.between; begin = k.begin; front = k.front; places = ap (λ (l : List Effect). e ∷ l) k.places; begins_it = k.begins_it; ends_it = k.ends_it; same_transfer = k.same_transfer }

begin-writes : (between : List Effect) (e : Effect) (front : List Effect) (p : ℕ) → begins_page_transfer p e ≡ true → writes_it true (between ++ e ∷ front) p ≡ true
begin-writes [] e front p is = or_left (begins_page_transfer p e) _ is
begin-writes (x ∷ between) e front p is = or_right (begins_page_transfer p x) _ (begin-writes between e front p is)

end-writes : (ended : Bool) (after : List Effect) (e : Effect) (rest : List Effect) (p : ℕ) → ends_well p e ≡ true → writes_it true rest p ≡ true → writes_it ended (after ++ e ∷ rest) p ≡ true
end-writes ended [] e rest p is writes =
    or_right (ended && begins_page_transfer p e) _ (subst (λ (b : Bool). writes_it b rest p ≡ true) (sym (or_right ended (ends_well p e) is)) writes)
end-writes ended (x ∷ after) e rest p is writes = or_right (ended && begins_page_transfer p x) _ (end-writes (ended || ends_well p x) after e rest p is writes)

pub writes-IsWritten : (later : List Effect) (p : ℕ) → IsTransferredSince later p → writes_it false later p ≡ true
writes-IsWritten later p k =
    ap (λ (l : List Effect). writes_it false l p) k.places
    ∙ end-writes false k.after k.ok_end (k.between ++ k.begin ∷ k.front) p k.ends_it (begin-writes k.between k.begin k.front p k.begins_it)

pub unwritten-writes : (later : List Effect) (p : ℕ) → (IsTransferredSince later p → ⊥) → writes_it false later p ≡ false
unwritten-writes later p never = go (writes_it false later p) refl
  where
    go : (b : Bool) → writes_it false later p ≡ b → b ≡ false
    go true is = absurd (never (IsWritten-writes later p is))
    go false is = refl

-- the touches that are left are those of the places that are neither written nor cut
pub unwritten-places : (h : List Effect) (p : ℕ) (t : Touch) → Has (unwritten h p) t ↔ IsTouch h p t
unwritten-places h p t = (there_is, has)
  where
    there_is : Has (touches false h p) t → IsTouch h p t
    there_is it =
        let k = IsLeft-has false h p t it in
        record {
          later = k.later;
          effect = k.effect;
          before = k.before;
          places = k.places;
          touches_it = k.touches_it;
          is = k.is;
          uncut = k.uncut;
          unwritten = λ w. absurd (cc (k.unwritten, writes-IsWritten k.later p w));
        }

    has : IsTouch h p t → Has (touches false h p) t
    has k =
        subst (λ (g : List Effect). Has (touches false g p) t) (sym k.places)
        (subst (λ (s : Touch). Has (touches false (k.later ++ k.effect ∷ k.before) p) s) (sym k.is)
        (has-place false k.later k.effect k.before p k.touches_it (unwritten-writes k.later p k.unwritten) k.uncut))

-- so a page is dirty where there is one
pub dirty-places : (h : List Effect) (p : ℕ) → (is_dirty h p ≡ true) ↔ ((t : Touch) × IsTouch h p t)
dirty-places h p = (there_is, has)
  where
    first : (ts : List Touch) → touches false h p ≡ ts → not (is_empty ts) ≡ true → (t : Touch) × IsTouch h p t
    first [] is some = absurd (cc)
    first (t ∷ ts) is some = (t, (unwritten-places h p t).0 (subst (λ (us : List Touch). Has us t) (sym is) here))

    there_is : is_dirty h p ≡ true → (t : Touch) × IsTouch h p t
    there_is dirty = first (touches false h p) refl dirty

    some : (ts : List Touch) (t : Touch) → Has ts t → not (is_empty ts) ≡ true
    some [] t it = Has-none it
    some (s ∷ ts) t it = refl

    has : ((t : Touch) × IsTouch h p t) → is_dirty h p ≡ true
    has k = some (touches false h p) k.0 ((unwritten-places h p k.0).1 k.1)

-- and they stand newest first
all-below : (ts : List Touch) (n m : ℕ) → n ≤ m → list_all (λ (s : Touch). nat_lt s.place n) ts ≡ true → list_all (λ (s : Touch). nat_lt s.place m) ts ≡ true
all-below [] n m le all = refl
all-below (t ∷ ts) n m le all =
    let k = and_parts (nat_lt t.place n) _ all in
    let low : t.place < n = ltb-true t.place n k.0 in
    and_from _ _ (lt-ltb t.place m (omega arith)) (all-below ts n m le k.1)

IsInOrder : ℕ → List Touch → Type 0
IsInOrder n ts = (list_all (λ (s : Touch). nat_lt s.place n) ts ≡ true) × (is_newest_first ts ≡ true)

order-after : (own cut written : Bool) (n : ℕ) (lsn : Option ℕ) (ts : List Touch) → IsInOrder n ts → IsInOrder (suc n) (touched_if own n lsn (cond cut [] (cond written [] ts)))
unfolding IsInOrder
order-after true true written n lsn ts k = (and_from _ _ (lt-ltb n (suc n) (omega arith)) refl, refl)
order-after true false true n lsn ts k = (and_from _ _ (lt-ltb n (suc n) (omega arith)) refl, refl)
order-after true false false n lsn ts k = (and_from _ _ (lt-ltb n (suc n) (omega arith)) (all-below ts n (suc n) (omega arith) k.0), and_from _ _ k.0 k.1)
order-after false true written n lsn ts k = (refl, refl)
order-after false false true n lsn ts k = (refl, refl)
order-after false false false n lsn ts k = (all-below ts n (suc n) (omega arith) k.0, k.1)

touches-order : (ended : Bool) (h : List Effect) (p : ℕ) → IsInOrder (suc (length h)) (touches ended h p)
unfolding touches IsInOrder
touches-order ended [] p = (refl, refl)
touches-order ended (e ∷ h) p =
    subst (IsInOrder (suc (suc (length h)))) (sym (touches-effect ended e h p))
    (order-after (touches_page p e h) (cuts_page p e h) (ended && begins_page_transfer p e) (suc (length h)) (lsn_of_touch e) _ (touches-order (ended || ends_well p e) h p))

pub unwritten-order : (h : List Effect) (p : ℕ) → is_newest_first (unwritten h p) ≡ true
unfolding IsInOrder
unwritten-order h p = (touches-order false h p).1

-- Grown, said of places: the least valid data length since the begin that the disk's bytes stand on.
use Rattle.std.specs.Prelude.{◌≡◌, ℕ, ◌+◌, ◌*◌, ◌<◌, ◌≤◌, Bool, true, false, ◌==◌, ◌&&◌, ◌||◌, ◌⊎◌, ◌↔◌, cond, nat_lt, min, max, List, [], ◌∷◌, ◌++◌, refl}
use Rattle.std.proofs.Common.{ap, sym, subst, ◌∙◌, arith, inl, inr}
use Rattle.std.proofs.lemmas.Bool.{or_parts, or_from, ltb-true, ltb-false, lt-ltb}
use Rattle.cc_entry.specs.declared.entry.End.{End}
use Rattle.cc_model.specs.History.{Effect, Did, CameIn, WentOut, Began, Ended, Synced}
use Rattle.cc_model.specs.Acts.{Act, act_of, Opens, Closes, Resizes, Writes, Zeroes, Stores, Stamps, Discards, Looks}
use Rattle.cc_model.specs.Objects.{had_map}
use Rattle.cc_model.specs.Touches.{sizes, valid_of}
use Rattle.cc_model.specs.Discards.{least_valid, low_since, low_of, has_grown}
use Rattle.cc_laws.specs.ByPlaces.{begins_page_transfer, ends_well}
use Rattle.cc_laws.specs.ByPlacesGrown.{WasPast, GrownByte}
use Rattle.cc_laws.proofs.ObjectSteps.{had_map-opens, had_map-closes, had_map-resizes, had_map-writes, had_map-zeroes, had_map-stores, had_map-stamps, had_map-discards, had_map-looks}
use Rattle.cc_laws.proofs.PlacesDirty.{writes_it, writes-IsWritten, unwritten-writes}

-- what a begin that ends the walk, or what stood before, makes of the least valid data length
abbrev low_after : Bool → Effect → List Effect → ℕ → ℕ
low_after ended e h p =
    cond (ended && begins_page_transfer p e) (valid_of (e ∷ h)) (least_valid (had_map h) (valid_of (e ∷ h)) (low_since (ended || ends_well p e) h p))

same_flag : (ended had : Bool) (now : ℕ) (h : List Effect) (p : ℕ) → least_valid had now (low_since ended h p) ≡ cond (ended && false) now (least_valid had now (low_since (ended || false) h p))
same_flag true had now h p = refl
same_flag false had now h p = refl

low-effect : (ended : Bool) (e : Effect) (h : List Effect) (p : ℕ) → low_since ended (e ∷ h) p ≡ low_after ended e h p
unfolding low_since sizes
low-effect ended (Did pass call reply) h p = same_flag ended (had_map h) (valid_of (Did pass call reply ∷ h)) h p
low-effect ended (CameIn pass page from_disk) h p = same_flag ended (had_map h) (valid_of h) h p
low-effect ended (WentOut pass page) h p = same_flag ended (had_map h) (valid_of h) h p
low-effect true (Began pass page) h p = go (page == p)
  where
    go : (b : Bool) → elim b as (λ x. ℕ) [ true ↦ valid_of h | false ↦ least_valid (had_map h) (valid_of h) (low_since true h p) ] ≡ cond b (valid_of h) (least_valid (had_map h) (valid_of h) (low_since true h p))
    go true = refl
    go false = refl
low-effect false (Began pass page) h p = refl
low-effect true (Ended pass page how) h p = refl
low-effect false (Ended pass page how) h p = refl
low-effect ended (Synced pass how) h p = same_flag ended (had_map h) (valid_of h) h p

least-now : (had : Bool) (now before : ℕ) → least_valid had now before ≤ now
least-now true now before = omega arith
least-now false now before = omega arith

-- it is no more than the valid data length now
low-now : (ended : Bool) (h : List Effect) (p : ℕ) → low_since ended h p ≤ valid_of h
unfolding low_since sizes
low-now ended [] p = omega arith
low-now ended (e ∷ h) p = subst (λ n. n ≤ valid_of (e ∷ h)) (sym (low-effect ended e h p)) (go (ended && begins_page_transfer p e))
  where
    go : (b : Bool) → cond b (valid_of (e ∷ h)) (least_valid (had_map h) (valid_of (e ∷ h)) (low_since (ended || ends_well p e) h p)) ≤ valid_of (e ∷ h)
    go true = omega arith
    go false = least-now (had_map h) (valid_of (e ∷ h)) (low_since (ended || ends_well p e) h p)

-- a place at which the valid data length was no more than the number
record WasLow (ended : Bool) (h : List Effect) (p i : ℕ) : Type 0 where
  later : List Effect
  before : List Effect
  places : h ≡ later ++ before
  past : valid_of before ≤ i
  initialised : (later ≡ []) ⊎ (had_map before ≡ true)
  unwritten : writes_it ended later p ≡ false

WasLow-now : (ended : Bool) (h : List Effect) (p i : ℕ) → valid_of h ≤ i → WasLow ended h p i
WasLow-now ended h p i past = record { later = []; before = h; places = refl; past = past; initialised = inl refl; unwritten = refl }

WasLow-later : (ended : Bool) (e : Effect) (h : List Effect) (p i : ℕ) → (ended && begins_page_transfer p e) ≡ false → had_map h ≡ true → WasLow (ended || ends_well p e) h p i → WasLow ended (e ∷ h) p i
WasLow-later ended e h p i apart had k = record {
  later = e ∷ k.later;
  before = k.before;
  places = ap (λ (g : List Effect). e ∷ g) k.places;
  past = k.past;
  initialised = inr (go k.initialised);
  unwritten = or_from _ _ apart k.unwritten;
}
  where
    go : (k.later ≡ []) ⊎ (had_map k.before ≡ true) → had_map k.before ≡ true
    go (inl none) = ap had_map (sym (k.places ∙ ap (λ (l : List Effect). l ++ k.before) none)) ∙ had
    go (inr before) = before

WasLow-low : (ended : Bool) (h : List Effect) (p i : ℕ) → low_since ended h p ≤ i → WasLow ended h p i
unfolding low_since sizes
WasLow-low ended [] p i low = WasLow-now ended [] p i low
WasLow-low ended (e ∷ h) p i low =
    go (ended && begins_page_transfer p e) refl (had_map h) refl (subst (λ n. n ≤ i) (low-effect ended e h p) low) (WasLow-low (ended || ends_well p e) h p i)
  where
    lesser : (a b : ℕ) → min a b ≤ i → (a ≤ i) ⊎ (b ≤ i)
    lesser a b le = at (nat_lt a b) refl
      where
        at : (t : Bool) → nat_lt a b ≡ t → (a ≤ i) ⊎ (b ≤ i)
        at true is = let less : a < b = ltb-true a b is in inl (omega arith)
        at false is = let less : b ≤ a = ltb-false a b is in inr (omega arith)

    go : (b : Bool) → (ended && begins_page_transfer p e) ≡ b → (had : Bool) → had_map h ≡ had → cond b (valid_of (e ∷ h)) (least_valid had (valid_of (e ∷ h)) (low_since (ended || ends_well p e) h p)) ≤ i → (low_since (ended || ends_well p e) h p ≤ i → WasLow (ended || ends_well p e) h p i) → WasLow ended (e ∷ h) p i
    go true begun had was le rest = WasLow-now ended (e ∷ h) p i le
    go false apart false was le rest = WasLow-now ended (e ∷ h) p i le
    go false apart true was le rest = either (lesser (valid_of (e ∷ h)) (low_since (ended || ends_well p e) h p) le)
      where
        either : (valid_of (e ∷ h) ≤ i) ⊎ (low_since (ended || ends_well p e) h p ≤ i) → WasLow ended (e ∷ h) p i
        either (inl now) = WasLow-now ended (e ∷ h) p i now
        either (inr before) = WasLow-later ended e h p i apart was (rest before)

-- a stream that had a map has had one ever since
had_map-effect : (e : Effect) (h : List Effect) → had_map h ≡ true → had_map (e ∷ h) ≡ true
unfolding had_map
had_map-effect (Did pass call reply) h had = go (act_of call) refl
  where
    go : (a : Act) → act_of call ≡ a → had_map (Did pass call reply ∷ h) ≡ true
    go (Opens file given quota temporary) is = had_map-opens pass call reply h is
    go (Closes file truncate) is = had_map-closes pass call reply h is ∙ had
    go (Resizes allocation size) is = had_map-resizes pass call reply h is ∙ had
    go (Writes at bytes) is = had_map-writes pass call reply h is ∙ had
    go (Zeroes from to) is = had_map-zeroes pass call reply h is ∙ had
    go (Stores page bytes) is = had_map-stores pass call reply h is ∙ had
    go (Stamps hold lsn) is = had_map-stamps pass call reply h is ∙ had
    go (Discards span) is = had_map-discards pass call reply h is ∙ had
    go Looks is = had_map-looks pass call reply h is ∙ had
had_map-effect (CameIn pass page from_disk) h had = had
had_map-effect (WentOut pass page) h had = had
had_map-effect (Began pass page) h had = had
had_map-effect (Ended pass page how) h had = had
had_map-effect (Synced pass how) h had = had

had_map-later : (later before : List Effect) → had_map before ≡ true → had_map (later ++ before) ≡ true
had_map-later [] before had = had
had_map-later (e ∷ later) before had = had_map-effect e (later ++ before) (had_map-later later before had)

low-place : (ended : Bool) (later before : List Effect) (p : ℕ) → had_map before ≡ true → writes_it ended later p ≡ false → low_since ended (later ++ before) p ≤ valid_of before
low-place ended [] before p had unwritten = low-now ended before p
low-place ended (e ∷ later) before p had unwritten =
    let w = or_parts (ended && begins_page_transfer p e) _ unwritten in
    subst (λ n. n ≤ valid_of before) (sym (low-effect ended e (later ++ before) p))
    (go (ended && begins_page_transfer p e) w.0 (had_map (later ++ before)) (had_map-later later before had) (low-place (ended || ends_well p e) later before p had w.1))
  where
    lower : (a b v : ℕ) → b ≤ v → min a b ≤ v
    lower a b v le = omega arith

    go : (b : Bool) → b ≡ false → (t : Bool) → t ≡ true → low_since (ended || ends_well p e) (later ++ before) p ≤ valid_of before → cond b (valid_of (e ∷ (later ++ before))) (least_valid t (valid_of (e ∷ (later ++ before))) (low_since (ended || ends_well p e) (later ++ before) p)) ≤ valid_of before
    go true is t was le = absurd (cc)
    go false is false was le = absurd (cc)
    go false is true was le = lower (valid_of (e ∷ (later ++ before))) (low_since (ended || ends_well p e) (later ++ before) p) (valid_of before) le

WasPast-low : (h : List Effect) (p i : ℕ) → low_of h p ≤ i → i < valid_of h → WasPast h p i
WasPast-low h p i low below =
    let k = WasLow-low false h p i low in
    record {
      later = k.later;
      before = k.before;
      places = k.places;
      past = k.past;
      initialised = go k k.initialised;
      unwritten = λ w. absurd (cc (k.unwritten, writes-IsWritten k.later p w));
    }
  where
    go : (k : WasLow false h p i) → (k.later ≡ []) ⊎ (had_map k.before ≡ true) → had_map k.before ≡ true
    go k (inr had) = had
    go k (inl none) =
        let same : h ≡ k.before = k.places ∙ ap (λ (l : List Effect). l ++ k.before) none in
        let past : valid_of h ≤ i = subst (λ g. valid_of g ≤ i) (sym same) k.past in
        absurd (omega arith)

low-WasPast : (h : List Effect) (p i : ℕ) → WasPast h p i → low_of h p ≤ i
low-WasPast h p i k =
    let low : low_since false (k.later ++ k.before) p ≤ valid_of k.before = low-place false k.later k.before p k.initialised (unwritten-writes k.later p k.unwritten) in
    let past : valid_of k.before ≤ i = k.past in
    subst (λ g. low_of g p ≤ i) (sym k.places) (through (low_since false (k.later ++ k.before) p) (valid_of k.before) low past)
  where
    through : (a b : ℕ) → a ≤ b → b ≤ i → a ≤ i
    through a b x y = omega arith

pub low-places : (h : List Effect) (p i : ℕ) → i < valid_of h → (low_of h p ≤ i) ↔ WasPast h p i
low-places h p i valid = (λ low. WasPast-low h p i low valid, low-WasPast h p i)

-- a page has grown where it has such a byte
pub grown-places : (h : List Effect) (p : ℕ) → (has_grown h p ≡ true) ↔ GrownByte h p
grown-places h p = (there_is, grows)
  where
    there_is : has_grown h p ≡ true → GrownByte h p
    there_is is =
        let some : max (4096 * p) (low_of h p) < min (4096 * p + 4096) (valid_of h) = ltb-true _ _ is in
        record {
          byte = max (4096 * p) (low_of h p);
          low = omega arith;
          high = omega arith;
          valid = omega arith;
          was_past = WasPast-low h p (max (4096 * p) (low_of h p)) (omega arith) (omega arith);
        }

    inside : (low valid byte : ℕ) → low ≤ byte → byte < valid → 4096 * p ≤ byte → byte < 4096 * p + 4096 → max (4096 * p) low < min (4096 * p + 4096) valid
    inside low valid byte a b c d = omega arith

    grows : GrownByte h p → has_grown h p ≡ true
    grows k = lt-ltb _ _ (inside (low_of h p) (valid_of h) k.byte (low-WasPast h p k.byte k.was_past) k.valid k.low k.high)

-- before its first initialise a stream has no less valid data than now
low-uninitialised : (ended : Bool) (h : List Effect) (p : ℕ) → had_map h ≡ false → low_since ended h p ≡ valid_of h
unfolding low_since sizes
low-uninitialised ended [] p never = refl
low-uninitialised ended (e ∷ h) p never = low-effect ended e h p ∙ go (ended && begins_page_transfer p e) (had_map h) refl
  where
    go : (b had : Bool) → had_map h ≡ had → cond b (valid_of (e ∷ h)) (least_valid had (valid_of (e ∷ h)) (low_since (ended || ends_well p e) h p)) ≡ valid_of (e ∷ h)
    go true had was = refl
    go false true was = absurd (cc (had_map-effect e h was, never))
    go false false was = refl

-- a sync leaves it
pub low_of-synced : (pass : ℕ) (how : End) (h : List Effect) (p : ℕ) → low_of (Synced pass how ∷ h) p ≡ low_of h p
unfolding low_since sizes
low_of-synced pass how h p = go (had_map h) refl
  where
    go : (had : Bool) → had_map h ≡ had → least_valid had (valid_of h) (low_since false h p) ≡ low_since false h p
    go true was = least (valid_of h) (low_since false h p) (low-now false h p)
      where
        least : (a b : ℕ) → b ≤ a → min a b ≡ b
        least a b le = omega arith
    go false was = sym (low-uninitialised false h p was)

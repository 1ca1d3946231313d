-- Changes of the pages of a span, block by block.
use Rattle.std.proofs.Common.{◌≡◌, ℕ, ◌+◌, ◌-◌, ◌*◌, ◌/◌, ◌%◌, ◌^◌, ◌<◌, ◌≤◌, zero, suc, Bool, true, false, cond, not, ◌&&◌, ◌||◌, ◌==◌, nat_eq, if◌then◌else◌, List, [], ◌∷◌, ◌++◌, length, take, drop, get_or, replicate, slice_get, Option, None, Some, is_some, refl, sym, ap, ◌∙◌, true≢false, inl, inr, arith, append_assoc, length-append, length-take, length-drop, drop-cons}
use Rattle.std.proofs.lemmas.Bool.{eqb-true, eq-eqb, cases_lt}
use Rattle.std.proofs.lemmas.Bool.Decides.{nat_tests}
use Rattle.std.proofs.lemmas.Grind.{common_steps}
use Rattle.std.proofs.lemmas.List.{take_more, take_all, append-nil, length-replicate, get_or-take, get_or-drop, get_or_past}
use Rattle.std.proofs.lemmas.Option.{slice_get_within, get_or_from_slice_get, same_Some}
use Rattle.std.specs.List.{filter, AllByRecursion, IsDistinct}
use Rattle.std.specs.Cmp.{nat_eq_equiv}
use Rattle.std.specs.Option.{option_map}
use Rattle.cc_entry.specs.Pages.{block_of, whole_range}
use Rattle.cc_views.specs.Views.{MappedViews, frames_at, ViewsAreSound}
use Rattle.cc_resident.specs.Residents.{frame_at, page_bytes_at, byte_at, blocks, is_block_among, order_without}
use Rattle.cc_resident.specs.Changes.{Clears, Zeroes, CoversRange, is_number_between}
use Rattle.cc_resident.proofs.Lists.{among_push, without_absent}
use Rattle.cc_resident.proofs.Frames.{frame_is, frame_in, none_from, among_is}
use Rattle.cc_resident.proofs.Kept.{page_from}
use Rattle.cc_resident.proofs.Bytes.{byte_is}

-- two tests that hold together
pub tests_alike : (a b : Bool) → (a ≡ true → b ≡ true) → (b ≡ true → a ≡ true) → a ≡ b
tests_alike true b f g = sym (f refl)
tests_alike false true f g = g refl
tests_alike false false f g = refl

both : (a b : Bool) → (a && b) ≡ true → (a ≡ true) × (b ≡ true)
both true b h = (refl, h)
both false b h = absurd (true≢false (sym h))

join : (a b : Bool) → a ≡ true → b ≡ true → (a && b) ≡ true
join a b p q = ap (λ x. x && b) p ∙ q

pub between-true : (from to p : ℕ) → is_number_between from to p ≡ true → (from ≤ p) × (p < to)
between-true from to p h = (grind (arith, nat_tests), grind (arith, nat_tests))

pub between : (from to p : ℕ) → from ≤ p → p < to → is_number_between from to p ≡ true
between from to p a b = grind (arith, nat_tests)

pub not_between : (from to p : ℕ) → (from ≤ p → p < to → ⊥) → is_number_between from to p ≡ false
not_between from to p h = by (is_number_between from to p) refl
  where
    by : (b : Bool) → is_number_between from to p ≡ b → is_number_between from to p ≡ false
    by true e = absurd (let k = between-true from to p e in h k.0 k.1)
    by false e = e

-- one page more of a span
pub between-more : (first page p : ℕ) → first ≤ page → is_number_between first (page + 1) p ≡ (is_number_between first page p || (p == page))
between-more first page p h = tests_alike (is_number_between first (page + 1) p) (is_number_between first page p || (p == page)) on (λ e. back (is_number_between first page p) refl e)
  where
    or_true : (z : Bool) → (z || true) ≡ true
    or_true true = refl
    or_true false = refl

    on : is_number_between first (page + 1) p ≡ true → (is_number_between first page p || (p == page)) ≡ true
    on e =
        let k = between-true first (page + 1) p e in
        elim (cases_lt p page) [
          | inl below ↦ ap (λ z. z || (p == page)) (between first page p k.0 below)
          | inr above ↦ ap (λ z. is_number_between first page p || z) (eq-eqb p page (omega (arith, k.1, above))) ∙ or_true (is_number_between first page p)
        ]

    back : (z : Bool) → is_number_between first page p ≡ z → (z || (p == page)) ≡ true → is_number_between first (page + 1) p ≡ true
    back true f e =
        let k = between-true first page p f in
        between first (page + 1) p k.0 (omega (arith, k.1))
    back false f e =
        let q : p ≡ page = eqb-true p page e in
        between first (page + 1) p (omega (arith, q)) (omega (arith, q))

pub Clears-then : (old mid new : MappedViews) (s u t : ℕ → Bool) → Clears old mid s → Clears mid new u → ((p : ℕ) → t p ≡ (s p || u p)) → Clears old new t
Clears-then old mid new s u t a b h =
    record {
      gone = λ p e. gone p (u p) (s p) refl refl (sym (h p) ∙ e);
      kept = λ p e. kept p (s p) (u p) refl refl (sym (h p) ∙ e);
      quota = b.quota ∙ a.quota;
      size = b.size ∙ a.size;
    }
  where
    gone : (p : ℕ) (x y : Bool) → u p ≡ x → s p ≡ y → (s p || u p) ≡ true → frame_at new p ≡ None
    gone p true y e f k = b.gone p e
    gone p false true e f k = b.kept p e ∙ a.gone p f
    gone p false false e f k = absurd (true≢false (sym k ∙ ap (λ z. z || u p) f ∙ e))

    kept : (p : ℕ) (y x : Bool) → s p ≡ y → u p ≡ x → (s p || u p) ≡ false → frame_at new p ≡ frame_at old p
    kept p true x f e k = absurd (true≢false (sym (ap (λ z. z || u p) f) ∙ k))
    kept p false true f e k = absurd (true≢false (sym (ap (λ z. z || u p) f ∙ e) ∙ k))
    kept p false false f e k = b.kept p e ∙ a.kept p f

-- the blocks at the first places of the order, one after the other
abbrev pub in_front : ℕ → List ℕ → ℕ → Bool
in_front place order block = is_block_among block (take place order)

pub take_at : (xs : List ℕ) (i x : ℕ) → slice_get xs i ≡ Some x → take (i + 1) xs ≡ take i xs ++ x ∷ []
take_at xs i x at = take_more xs i x (slice_get_within xs i x at) ∙ ap (λ y. take i xs ++ y ∷ []) (get_or_from_slice_get xs i x x at)

pub in_front-more : (place : ℕ) (order : List ℕ) (block b : ℕ) → slice_get order place ≡ Some block → in_front (place + 1) order b ≡ (in_front place order b || (b == block))
in_front-more place order block b at =
    ap (is_block_among b) (take_at order place block at) ∙ among_push b block (take place order) ∙ ap (λ z. in_front place order b || z) (nat_eq_equiv.symm block b)

pub in_front-all : (place : ℕ) (order : List ℕ) (b : ℕ) → length order ≤ place → in_front place order b ≡ is_block_among b order
in_front-all place order b h = ap (is_block_among b) (take_all place order h)

-- one block more of a test of two parts
pub front-more : (a b c d : Bool) → a ≡ (b || c) → (a && d) ≡ ((b && d) || (c && d))
front-more a b c d e = ap (λ z. z && d) e ∙ by b c d
  where
    by : (b c d : Bool) → ((b || c) && d) ≡ ((b && d) || (c && d))
    by true true true = refl
    by true true false = refl
    by true false true = refl
    by true false false = refl
    by false c d = refl

-- a mapped block is among the blocks
pub among_at : (xs : List ℕ) (i x : ℕ) → slice_get xs i ≡ Some x → is_block_among x xs ≡ true
among_at [] i x at = absurd (true≢false (sym (ap is_some at)))
among_at (y ∷ xs) zero x at = ap (λ b. b || is_block_among x xs) (eq-eqb y x (same_Some y x at))
among_at (y ∷ xs) (suc i) x at = ap (λ b. (y == x) || b) (among_at xs i x at) ∙ or_true (y == x)
  where
    or_true : (z : Bool) → (z || true) ≡ true
    or_true true = refl
    or_true false = refl

-- a page whose block is not mapped has no frame
pub no_frame : (m : MappedViews) (p : ℕ) → is_block_among (block_of p) (blocks m) ≡ false → frame_at m p ≡ None
no_frame m p h = frame_is m p ∙ ap (frame_in p) (none_from (frames_at m (block_of p)) (among_is m (block_of p) ∙ h))

-- all blocks were gone over
pub Clears-all : (old new : MappedViews) (place from to : ℕ) → length (blocks old) ≤ place → Clears old new (λ p. in_front place (blocks old) (block_of p) && is_number_between from to p) → Clears old new (is_number_between from to)
Clears-all old new place from to h w =
    record {
      gone = λ p e. gone p e (is_block_among (block_of p) (blocks old)) refl;
      kept = λ p e. w.kept p (right_false (in_front place (blocks old) (block_of p)) (is_number_between from to p) e);
      quota = w.quota;
      size = w.size;
    }
  where
    right_false : (a b : Bool) → b ≡ false → (a && b) ≡ false
    right_false true b e = e
    right_false false b e = refl

    gone : (p : ℕ) → is_number_between from to p ≡ true → (b : Bool) → is_block_among (block_of p) (blocks old) ≡ b → frame_at new p ≡ None
    gone p e true f = w.gone p (join _ _ (in_front-all place (blocks old) (block_of p) h ∙ f) e)
    gone p e false f =
        w.kept p (ap (λ z. z && is_number_between from to p) (in_front-all place (blocks old) (block_of p) h ∙ f)) ∙ no_frame old p f

absent : (x : ℕ) (ks : List ℕ) → AllByRecursion (λ y. nat_eq x y ≡ false) ks → is_block_among x ks ≡ false
absent x [] h = refl
absent x (k ∷ ks) h = ap (λ b. b || is_block_among x ks) (nat_eq_equiv.symm k x ∙ h.0) ∙ absent x ks h.1

apart : (x : ℕ) (ks : List ℕ) (i b : ℕ) → AllByRecursion (λ y. nat_eq x y ≡ false) ks → slice_get ks i ≡ Some b → (x == b) ≡ false
apart x [] i b h at = absurd (true≢false (sym (ap is_some at)))
apart x (k ∷ ks) zero b h at = ap (λ y. x == y) (sym (same_Some k b at)) ∙ h.0
apart x (k ∷ ks) (suc i) b h at = apart x ks i b h.1 at

filter-push : (f : ℕ → Bool) (xs : List ℕ) (b : ℕ) → filter f (xs ++ b ∷ []) ≡ filter f xs ++ cond (f b) (b ∷ []) []
filter-push f [] b = refl
filter-push f (x ∷ xs) b = by (f x) (filter-push f xs b)
  where
    by : (t : Bool) → filter f (xs ++ b ∷ []) ≡ filter f xs ++ cond (f b) (b ∷ []) [] → cond t (x ∷ filter f (xs ++ b ∷ [])) (filter f (xs ++ b ∷ [])) ≡ cond t (x ∷ filter f xs) (filter f xs) ++ cond (f b) (b ∷ []) []
    by true rest = ap (λ l. x ∷ l) rest
    by false rest = rest

take-front : (xs ys : List ℕ) (n : ℕ) → length xs ≡ n → take n (xs ++ ys) ≡ xs
take-front xs ys n e = grind (arith, common_steps)

drop-front : (xs ys : List ℕ) (n : ℕ) → length xs ≡ n → drop n (xs ++ ys) ≡ ys
drop-front xs ys n e = grind (arith, common_steps)

length-take_within : (n : ℕ) (xs : List ℕ) → n ≤ length xs → length (take n xs) ≡ n
length-take_within n xs h = grind (arith, common_steps)

-- a block without others of its number: what stands before it, and after it
without_at : (xs : List ℕ) (i b : ℕ) → IsDistinct nat_eq xs → slice_get xs i ≡ Some b → order_without b xs ≡ take i xs ++ drop (suc i) xs
unfolding IsDistinct
without_at [] i b d at = absurd (true≢false (sym (ap is_some at)))
without_at (x ∷ xs) zero b d at =
    let same : x ≡ b = same_Some x b at in
    ap (λ c. cond (not c) (x ∷ order_without b xs) (order_without b xs)) (eq-eqb x b same) ∙ ap (λ c. order_without c xs) (sym same) ∙ without_absent x xs (absent x xs d.0)
without_at (x ∷ xs) (suc i) b d at =
    ap (λ c. cond (not c) (x ∷ order_without b xs) (order_without b xs)) (apart x xs i b d.0 at) ∙ ap (λ l. x ∷ l) (without_at xs i b d.1 at)

-- what a pass from the last block to the first has done
pub record Dropped (f : ℕ → Bool) (first now : List ℕ) (place : ℕ) : Type 0 where
  pub within : place ≤ length now
  pub left : filter f (take place now) ++ drop place now ≡ filter f first

pub Dropped-more : (f : ℕ → Bool) (first now next : List ℕ) (from place b : ℕ) → from ≡ place + 1 → IsDistinct nat_eq now → slice_get now place ≡ Some b → next ≡ (if f b then now else order_without b now) → Dropped f first now from → Dropped f first next place
Dropped-more f first now next from place b n d at e w = by (f b) refl
  where
    within : place < length now
    within = slice_get_within now place b at

    was : filter f (take place now ++ b ∷ []) ++ drop (suc place) now ≡ filter f first
    was =
        let e : suc place ≡ from = omega (arith, n) in
        ap (λ l. filter f l ++ drop (suc place) now) (sym (take_at now place b at)) ∙ ap (λ k. filter f (take k now) ++ drop (suc place) now) (sym n) ∙ ap (λ k. filter f (take from now) ++ drop k now) e ∙ w.left

    rest : drop place now ≡ b ∷ drop (suc place) now
    rest = drop-cons now place b within ∙ ap (λ x. x ∷ drop (suc place) now) (get_or_from_slice_get now place b b at)

    by : (t : Bool) → f b ≡ t → Dropped f first next place
    by true t =
        let same : next ≡ now = e ∙ ap (λ c. if c then now else order_without b now) t in
        record {
          within = omega (arith, within, ap length same);
          left =
              ap (λ l. filter f (take place l) ++ drop place l) same ∙ ap (λ l. filter f (take place now) ++ l) rest
              ∙ sym (append_assoc (filter f (take place now)) (b ∷ []) (drop (suc place) now))
              ∙ ap (λ l. l ++ drop (suc place) now) (sym (filter-push f (take place now) b ∙ ap (λ c. filter f (take place now) ++ cond c (b ∷ []) []) t)) ∙ was;
        }
    by false t =
        let same : next ≡ take place now ++ drop (suc place) now = e ∙ ap (λ c. if c then now else order_without b now) t ∙ without_at now place b d at in
        let long : length (take place now) ≡ place = length-take_within place now (omega (arith, within)) in
        record {
          within = omega (arith, long, ap length same, length-append (take place now) (drop (suc place) now));
          left =
              ap (λ l. filter f (take place l) ++ drop place l) same
              ∙ ap (λ l. filter f l ++ drop place (take place now ++ drop (suc place) now)) (take-front (take place now) (drop (suc place) now) place long)
              ∙ ap (λ l. filter f (take place now) ++ l) (drop-front (take place now) (drop (suc place) now) place long)
              ∙ ap (λ l. l ++ drop (suc place) now) (sym (filter-push f (take place now) b ∙ ap (λ c. filter f (take place now) ++ cond c (b ∷ []) []) t ∙ append-nil (filter f (take place now)))) ∙ was;
        }

-- the number of a mapped block is small
pub small_block : (m : MappedViews) (order : List ℕ) (place block size : ℕ) → ViewsAreSound m → order ≡ blocks m → slice_get order place ≡ Some block → size ≡ m.size → size < 2 ^ 64 → block < 2 ^ 46
small_block m order place block size sound same at e fits =
    let there : is_some (frames_at m block) ≡ true = among_is m block ∙ among_at (blocks m) place block (ap (λ l. slice_get l place) (sym same) ∙ at) in
    omega (arith, sound.below block there, e, fits)

twice : (o : Option ℕ) → option_map {U = ℕ} (λ _. 0) (option_map {U = ℕ} (λ _. 0) o) ≡ option_map {U = ℕ} (λ _. 0) o
twice None = refl
twice (Some x) = refl

pub Zeroes-then : (old mid new : MappedViews) (s u t : ℕ → Bool) → Zeroes old mid s → Zeroes mid new u → ((i : ℕ) → t i ≡ (s i || u i)) → Zeroes old new t
Zeroes-then old mid new s u t a b h =
    record {
      inside = λ i e. inside i (u i) (s i) refl refl (sym (h i) ∙ e);
      outside = λ i e. outside i (s i) (u i) refl refl (sym (h i) ∙ e);
      pages = λ p. b.pages p ∙ a.pages p;
      shared = λ p. b.shared p ∙ a.shared p;
    }
  where
    inside : (i : ℕ) (x y : Bool) → u i ≡ x → s i ≡ y → (s i || u i) ≡ true → byte_at new i ≡ option_map (λ _. 0) (byte_at old i)
    inside i true true e f k = b.inside i e ∙ ap (option_map (λ _. 0)) (a.inside i f) ∙ twice (byte_at old i)
    inside i true false e f k = b.inside i e ∙ ap (option_map (λ _. 0)) (a.outside i f)
    inside i false true e f k = b.outside i e ∙ a.inside i f
    inside i false false e f k = absurd (true≢false (sym k ∙ ap (λ z. z || u i) f ∙ e))

    outside : (i : ℕ) (y x : Bool) → s i ≡ y → u i ≡ x → (s i || u i) ≡ false → byte_at new i ≡ byte_at old i
    outside i true x f e k = absurd (true≢false (sym (ap (λ z. z || u i) f) ∙ k))
    outside i false true f e k = absurd (true≢false (sym (ap (λ z. z || u i) f ∙ e) ∙ k))
    outside i false false f e k = b.outside i e ∙ a.outside i f

pub no_byte : (m : MappedViews) (i : ℕ) → page_bytes_at m (i / 4096) ≡ None → byte_at m i ≡ None
no_byte m i h = byte_is m i ∙ ap (option_map (λ bytes. get_or bytes (i % 4096) 0)) h

pub Covers-all : (old new : MappedViews) (place from to : ℕ) → length (blocks old) ≤ place → Zeroes old new (λ i. in_front place (blocks old) (block_of (i / 4096)) && is_number_between from to i) → CoversRange old new (record { from = from; to = to }) (λ _. 0)
Covers-all old new place from to h w =
    record {
      inside = λ i e. inside i e (is_block_among (block_of (i / 4096)) (blocks old)) refl;
      outside = λ i e. w.outside i (right_false (in_front place (blocks old) (block_of (i / 4096))) (is_number_between from to i) e);
      pages = w.pages;
      shared = w.shared;
    }
  where
    right_false : (a b : Bool) → b ≡ false → (a && b) ≡ false
    right_false true b e = e
    right_false false b e = refl

    inside : (i : ℕ) → is_number_between from to i ≡ true → (b : Bool) → is_block_among (block_of (i / 4096)) (blocks old) ≡ b → byte_at new i ≡ option_map (λ _. 0) (byte_at old i)
    inside i e true f = w.inside i (join _ _ (in_front-all place (blocks old) (block_of (i / 4096)) h ∙ f) e)
    inside i e false f =
        let none : byte_at old i ≡ None = no_byte old i (page_from old (i / 4096) None (no_frame old (i / 4096) f)) in
        w.outside i (ap (λ z. z && is_number_between from to i) (in_front-all place (blocks old) (block_of (i / 4096)) h ∙ f)) ∙ none ∙ sym (ap (option_map (λ _. 0)) none)

-- zeros written over a part of one page, which is resident or not
pub Zeroes-covers : (old new : MappedViews) (a b : ℕ) (zs : List ℕ) → CoversRange old new (record { from = a; to = a + length zs }) (λ i. get_or zs (i - a) 0) → a + length zs ≡ b → ((k : ℕ) → get_or zs k 0 ≡ 0) → Zeroes old new (is_number_between a b)
Zeroes-covers old new a b zs w n zeros =
    record {
      inside = λ i e. w.inside i (ap (λ t. is_number_between a t i) n ∙ e) ∙ ap (λ v. option_map (λ _. v) (byte_at old i)) (zeros (i - a));
      outside = λ i e. w.outside i (ap (λ t. is_number_between a t i) n ∙ e);
      pages = w.pages;
      shared = w.shared;
    }

pub Zeroes-absent : (m : MappedViews) (page from to : ℕ) → page_bytes_at m page ≡ None → to ≤ 4096 → Zeroes m m (is_number_between (4096 * page + from) (4096 * page + to))
Zeroes-absent m page from to h fits =
    record { inside = λ i e. inside i (between-true (4096 * page + from) (4096 * page + to) i e); outside = λ i _. refl; pages = λ p. refl; shared = λ p. refl }
  where
    inside : (i : ℕ) → (4096 * page + from ≤ i) × (i < 4096 * page + to) → byte_at m i ≡ option_map (λ _. 0) (byte_at m i)
    inside i k =
        let e : i / 4096 ≡ page = omega (arith, k.0, k.1, fits) in
        let none : byte_at m i ≡ None = no_byte m i (ap (page_bytes_at m) e ∙ h) in
        none ∙ sym (ap (option_map (λ _. 0)) none)

pub zero_within : (n k : ℕ) → get_or {A = ℕ} (replicate n 0) k 0 ≡ 0
zero_within zero k = refl
zero_within (suc n) zero = refl
zero_within (suc n) (suc k) = zero_within n k

zeros_long : (n from to : ℕ) → from ≤ to → to ≤ n → length (take (to - from) (drop from (replicate {A = ℕ} n 0))) ≡ to - from
zeros_long n from to a b = omega (arith, length-take (to - from) (drop from (replicate {A = ℕ} n 0)), length-drop from (replicate {A = ℕ} n 0), length-replicate {A = ℕ} n 0)

zeros_at : (n from count k : ℕ) → get_or (take count (drop from (replicate {A = ℕ} n 0))) k 0 ≡ 0
zeros_at n from count k =
    elim (cases_lt k count) [
      | inl h ↦ get_or-take count (drop from (replicate {A = ℕ} n 0)) k 0 h ∙ get_or-drop from (replicate {A = ℕ} n 0) k 0 ∙ zero_within n (from + k)
      | inr h ↦ get_or_past (take count (drop from (replicate {A = ℕ} n 0))) k 0 (omega (arith, length-take count (drop from (replicate {A = ℕ} n 0)), h))
    ]

pub Zeroes-written : (old new : MappedViews) (n page from to : ℕ) → from ≤ to → to ≤ n → CoversRange old new (whole_range (4096 * page + from) (length (take (to - from) (drop from (replicate {A = ℕ} n 0))))) (λ i. get_or (take (to - from) (drop from (replicate {A = ℕ} n 0))) (i - (4096 * page + from)) 0)
    → Zeroes old new (is_number_between (4096 * page + from) (4096 * page + to))
Zeroes-written old new n page from to a b w =
    Zeroes-covers old new (4096 * page + from) (4096 * page + to) (take (to - from) (drop from (replicate {A = ℕ} n 0))) w (omega (arith, zeros_long n from to a b, a)) (zeros_at n from (to - from))

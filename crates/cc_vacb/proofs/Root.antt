-- The root alone: its height where nothing is below it, and the number of its slots.
use Rattle.std.proofs.Common.{◌≡◌, ◌≢◌, ℕ, suc, zero, ◌+◌, ◌-◌, ◌/◌, ◌%◌, ◌^◌, ◌<◌, ◌≤◌, List, [], ◌∷◌, ◌++◌, length, get_or, set, take, replicate, count_by, refl, ap, sym, subst, ◌∙◌, arith, inl, inr}
use Rattle.std.proofs.lemmas.Bool.{cases_eq, cases_lt}
use Rattle.std.proofs.lemmas.List.{length-set, length-append, length-replicate, take_all, get_or-set_same, get_or-set_other, get_or_append_left, get_or-append_right, get_or_past, get_or-take, length-take, length-take-le, get_or_read}
use Rattle.std.proofs.Math.Nat.{pow-le-pow_right}
use Rattle.std.proofs.lemmas.List.Sums.{sum_by-cons}
use Rattle.cc_vacb.specs.declared.slots.Slot.{Slot}
use Rattle.cc_vacb.specs.declared.slots.Slot.TheVariants.{Empty}
use Rattle.cc_vacb.specs.Slots.{is_used, weight_of}
use Rattle.cc_vacb.specs.Block.{Block, no_block, used_slots}
use Rattle.cc_vacb.specs.Index.{block_in, slot_in, entry_in}
use Rattle.cc_vacb.specs.Tree.{IsTree, FilledBut, used_at, ChangesTop, EntriesBelow}
use Rattle.cc_vacb.proofs.Put.{node_in_range, Node≢Empty, View≢Empty}
use Rattle.cc_vacb.proofs.Count.{only_at}
use Rattle.cc_vacb.proofs.Child.{IsBlank, blank_slot}
use Rattle.cc_vacb.proofs.Removed.{empty_block}
use Rattle.cc_vacb.proofs.Raise.{blocks_at-set, used_at-set, then_top}
use Rattle.cc_vacb.proofs.Walk.{holder, entry_held, same_options, digit_in}
use Rattle.cc_vacb.proofs.Path.{slot_is}
use Rattle.cc_vacb.proofs.Alone.{alone_tree, alone_entry, alone_used}

-- where the root has no used slot there is no other block
no_inner : (top : ℕ) (bs : List Block) → IsTree top bs → used_slots (block_in bs 0) ≡ 0 → (d x : ℕ) → 0 < x → x < length bs → top ≤ (block_in bs x).height + d → ⊥
no_inner top bs t u zero x g l q = omega (arith, t.below_top x g l)
no_inner top bs t u (suc d) x g l q =
    let o = t.has_parent x g l in
    elim (cases_eq o.0 0) [
      | inl z ↦ Node≢Empty x (sym o.1 ∙ ap (λ y. slot_in bs y ((block_in bs x).prefix % 128)) z ∙ empty_block bs 0 _ u)
      | inr z ↦ no_inner top bs t u d o.0 (omega arith) (node_in_range bs o.0 _ _ o.1 (Node≢Empty x)) (omega (arith, (t.leads o.0 _ x o.1).height))
    ]

pub root_alone : (top : ℕ) (bs : List Block) → IsTree top bs → used_slots (block_in bs 0) ≡ 0 → length bs ≡ 1
root_alone top bs t u =
    elim (cases_lt 1 (length bs)) [
      | inl h ↦ absurd (no_inner top bs t u top 1 (omega arith) h (omega arith))
      | inr h ↦ omega (arith, t.some)
    ]

one_block : (bs : List Block) → length bs ≡ 1 → bs ≡ block_in bs 0 ∷ []
one_block [] e = absurd (omega arith)
one_block (b ∷ []) e = refl
one_block (b ∷ c ∷ bs) e = absurd (omega arith)

-- a root with no used slot may have any height, with the width for it
pub new_height : (top to : ℕ) (bs : List Block) (b : Block) → IsTree top bs → used_slots (block_in bs 0) ≡ 0 → b.height ≡ to → b.prefix ≡ 0 → b.slots ≡ (block_in bs 0).slots → (0 < to → length b.slots ≡ 128) → ChangesTop top to bs (set bs 0 b)
new_height top to bs b t u h p s d =
    let r = block_in bs 0 in
    let w = length r.slots in
    let e = one_block bs (root_alone top bs t u) in
    let old : IsBlank r top 0 w = record { height = t.root_height; prefix = t.root_prefix; width = refl; empty = λ k. empty_block bs 0 k u; unused = u } in
    let new : IsBlank b to 0 w = record {
      height = h;
      prefix = p;
      width = ap (λ (x : List Slot). length x) s;
      empty = λ k. ap (λ (x : List Slot). get_or x k Empty) s ∙ old.empty k;
      unused = ap (λ (x : List Slot). count_by is_used x) s ∙ u;
    } in
    let q : set bs 0 b ≡ b ∷ [] = ap (λ (c : List Block). set c 0 b) e in
    let v = alone_tree to w b new t.root_wide (λ g. sym (ap (λ (x : List Slot). length x) s) ∙ d g) in
    let o = subst (λ (c : List Block). IsTree top c) e t in
    subst (λ (c : List Block). ChangesTop top to bs c) (sym q) (record {
      tree = v;
      filled = λ x g l n. absurd (omega arith);
      entries = λ n. alone_entry to w b new v n ∙ sym (ap (λ (c : List Block). entry_in c top n) e ∙ alone_entry top w r old o n);
      count = omega (arith, alone_used 0 to 0 w b new, alone_used 0 top 0 w r old, ap (λ (c : List Block). used_at 0 c) e);
      len = omega (arith, t.some);
      used = λ g. absurd (omega (arith, u));
    })

-- two lists of slots that agree at each place have as many used slots
pub used_same : (xs ys : List Slot) → ((k : ℕ) → get_or xs k Empty ≡ get_or ys k Empty) → count_by is_used xs ≡ count_by is_used ys
used_same [] [] f = refl
used_same [] (y ∷ ys) f =
    let e : count_by is_used (y ∷ ys) ≡ weight_of y + count_by is_used ys = sum_by-cons weight_of y ys in
    omega (arith, e, ap weight_of (f 0), used_same [] ys (λ k. f (suc k)))
used_same (x ∷ xs) [] f =
    let e : count_by is_used (x ∷ xs) ≡ weight_of x + count_by is_used xs = sum_by-cons weight_of x xs in
    omega (arith, e, ap weight_of (f 0), used_same xs [] (λ k. f (suc k)))
used_same (x ∷ xs) (y ∷ ys) f =
    let d : count_by is_used (x ∷ xs) ≡ weight_of x + count_by is_used xs = sum_by-cons weight_of x xs in
    let e : count_by is_used (y ∷ ys) ≡ weight_of y + count_by is_used ys = sum_by-cons weight_of y ys in
    omega (arith, d, e, ap weight_of (f 0), used_same xs ys (λ k. f (suc k)))

-- the root with another number of slots, none of which is lost that is used
pub new_width : (top : ℕ) (bs : List Block) (b : Block) → IsTree top bs → FilledBut 0 bs → b.height ≡ (block_in bs 0).height → b.prefix ≡ (block_in bs 0).prefix → ((k : ℕ) → get_or b.slots k Empty ≡ slot_in bs 0 k) → length b.slots ≤ 128 → (0 < top → length b.slots ≡ 128) → ChangesTop top top bs (set bs 0 b)
new_width top bs b t f h p s w d =
    let new = set bs 0 b in
    let len : length new ≡ length bs = length-set bs 0 b in
    let root : block_in new 0 ≡ b = get_or-set_same bs 0 b no_block t.some in
    let other : (x : ℕ) → x ≢ 0 → block_in new x ≡ block_in bs x = λ x n. get_or-set_other bs 0 x b no_block n in
    let slot : (x j : ℕ) → slot_in new x j ≡ slot_in bs x j = λ x j. elim (cases_eq x 0) [
      | inl z ↦ ap (λ y. slot_in new y j) z ∙ ap (λ (c : Block). get_or c.slots j Empty) root ∙ s j ∙ ap (λ y. slot_in bs y j) (sym z)
      | inr z ↦ ap (λ (c : Block). get_or c.slots j Empty) (other x z)
    ] in
    let height : (x : ℕ) → (block_in new x).height ≡ (block_in bs x).height = λ x. elim (cases_eq x 0) [
      | inl z ↦ ap (λ y. (block_in new y).height) z ∙ ap (λ (c : Block). c.height) root ∙ h ∙ ap (λ y. (block_in bs y).height) (sym z)
      | inr z ↦ ap (λ (c : Block). c.height) (other x z)
    ] in
    let prefix : (x : ℕ) → (block_in new x).prefix ≡ (block_in bs x).prefix = λ x. elim (cases_eq x 0) [
      | inl z ↦ ap (λ y. (block_in new y).prefix) z ∙ ap (λ (c : Block). c.prefix) root ∙ p ∙ ap (λ y. (block_in bs y).prefix) (sym z)
      | inr z ↦ ap (λ (c : Block). c.prefix) (other x z)
    ] in
    let used_root : used_slots b ≡ used_slots (block_in bs 0) = used_same b.slots (block_in bs 0).slots s in
    let wide : length (block_in new 0).slots ≡ length b.slots = ap (λ (c : Block). length c.slots) root in
    let u : IsTree top new = record {
      some = omega (arith, len, t.some);
      root_height = height 0 ∙ t.root_height;
      root_prefix = prefix 0 ∙ t.root_prefix;
      below_top = λ x g l. omega (arith, height x, t.below_top x g (omega (arith, len)));
      leads = λ x j y e.
          let l = t.leads x j y (sym (slot x j) ∙ e) in
          record {
            below = omega (arith, len, l.below);
            not_root = l.not_root;
            height = omega (arith, height x, height y, l.height);
            prefix = omega (arith, prefix x, prefix y, l.prefix);
          };
      has_parent = λ y g l.
          let o = t.has_parent y g (omega (arith, len)) in
          (o.0, ap (λ q. slot_in new o.0 (q % 128)) (prefix y) ∙ slot o.0 _ ∙ o.1);
      views = λ x j v e. height x ∙ t.views x j v (sym (slot x j) ∙ e);
      wide = λ x g l. ap (λ (c : Block). length c.slots) (other x (λ z. omega arith)) ∙ t.wide x g (omega (arith, len));
      root_wide = omega (arith, wide, w);
      deep = λ g. wide ∙ d g;
      counted = λ k g.
          omega (arith, t.counted k g, blocks_at-set k bs 0 b t.some, used_at-set (suc k) bs 0 b t.some, ap (λ y. only_at k y 1) h, ap (λ y. only_at (suc k) y (used_slots b)) h, ap (λ y. only_at (suc k) (block_in bs 0).height y) used_root);
    } in
    record {
      tree = u;
      filled = λ x g l n. omega (arith, f x g (omega (arith, len)) n, ap used_slots (other x n));
      entries = λ n. same_options _ _
          (λ v e.
          let o = holder top new u n v e in
          entry_held top bs t n v o.0 (record { inside = omega (arith, o.1.inside, len); height = sym (height o.0) ∙ o.1.height; prefix = sym (prefix o.0) ∙ o.1.prefix; slot = sym (slot o.0 (n % 128)) ∙ o.1.slot }))
          (λ v e.
          let o = holder top bs t n v e in
          entry_held top new u n v o.0 (record { inside = omega (arith, o.1.inside, len); height = height o.0 ∙ o.1.height; prefix = prefix o.0 ∙ o.1.prefix; slot = slot o.0 (n % 128) ∙ o.1.slot }));
      count = omega (arith, used_at-set 0 bs 0 b t.some, ap (λ y. only_at 0 y (used_slots b)) h, ap (λ y. only_at 0 (block_in bs 0).height y) used_root);
      len = omega (arith, len);
      used = λ g. omega (arith, ap used_slots root, used_root);
    }

-- slots filled up with empty ones
pub widened_slot : (xs : List Slot) (n k : ℕ) → length xs ≤ n → get_or (take n xs ++ replicate (n - length xs) Empty) k Empty ≡ get_or xs k Empty
widened_slot xs n k l =
    ap (λ (ys : List Slot). get_or (ys ++ replicate (n - length xs) Empty) k Empty) (take_all n xs l)
    ∙ elim (cases_lt k (length xs)) [
      | inl h ↦ get_or_append_left xs (replicate (n - length xs) Empty) Empty k h
      | inr h ↦ get_or-append_right xs (replicate (n - length xs) Empty) (length xs) k Empty refl h ∙ blank_slot (n - length xs) (k - length xs) ∙ sym (get_or_past xs k Empty h)
    ]

pub widened_width : (xs : List Slot) (n : ℕ) → length xs ≤ n → length (take n xs ++ replicate (n - length xs) Empty) ≡ n
widened_width xs n l = omega (arith, length-append (take n xs) (replicate (n - length xs) Empty), length-replicate (n - length xs) Empty, ap (λ (ys : List Slot). length ys) (take_all n xs l))

-- slots cut off where they are empty
pub narrowed_slot : (xs : List Slot) (n k : ℕ) → ((i : ℕ) → n ≤ i → get_or xs i Empty ≡ Empty) → get_or (take n xs) k Empty ≡ get_or xs k Empty
narrowed_slot xs n k f =
    elim (cases_lt k n) [
      | inl h ↦ get_or-take n xs k Empty h
      | inr h ↦ get_or_past (take n xs) k Empty (omega (arith, length-take n xs)) ∙ sym (f k h)
    ]

pub same_top : (top : ℕ) (bs : List Block) → IsTree top bs → FilledBut 0 bs → ChangesTop top top bs bs
same_top top bs t f = record { tree = t; filled = f; entries = λ n. refl; count = refl; len = omega arith; used = λ g. g }

-- the root after it was filled up to 128 slots
pub widened : (top : ℕ) (bs cs : List Block) (r b : Block) → IsTree top bs → FilledBut 0 bs → cs ≡ bs → r ≡ block_in bs 0 → b ≡ record r { slots = take 128 r.slots ++ replicate (128 - length r.slots) Empty } → ChangesTop top top bs (set cs 0 b) × (length (block_in (set cs 0 b) 0).slots ≡ 128)
widened top bs cs r b t f ce re be =
    let w : length r.slots ≤ 128 = omega (arith, ap (λ (x : Block). length x.slots) re, t.root_wide) in
    let width : length b.slots ≡ 128 = ap (λ (x : Block). length x.slots) be ∙ widened_width r.slots 128 w in
    let slot : (k : ℕ) → get_or b.slots k Empty ≡ slot_in bs 0 k = λ k.
    ap (λ (x : Block). get_or x.slots k Empty) be ∙ widened_slot r.slots 128 k w ∙ ap (λ (x : Block). get_or x.slots k Empty) re in
    let q : set bs 0 b ≡ set cs 0 b = ap (λ (x : List Block). set x 0 b) (sym ce) in
    let c = new_width top bs b t f (ap (λ (x : Block). x.height) be ∙ ap (λ (x : Block). x.height) re) (ap (λ (x : Block). x.prefix) be ∙ ap (λ (x : Block). x.prefix) re) slot (omega arith) (λ _. width) in
    (subst (λ (x : List Block). ChangesTop top top bs x) q c, ap (λ (x : List Block). length (block_in x 0).slots) (sym q) ∙ ap (λ (x : Block). length x.slots) (get_or-set_same bs 0 b no_block t.some) ∙ width)

-- the root with no used slot after it was filled up and given its height
pub regrown : (top to : ℕ) (bs : List Block) (r b q d : Block) → IsTree top bs → FilledBut 0 bs → used_slots r ≡ 0 → r ≡ block_in bs 0 → b ≡ record r { slots = take 128 r.slots ++ replicate (128 - length r.slots) Empty } → q ≡ block_in (set bs 0 b) 0 → d ≡ record q { height = to } → top ≤ to → ChangesTop top to bs (set (set bs 0 b) 0 d) × (length (block_in (set (set bs 0 b) 0 d) 0).slots ≡ 128)
regrown top to bs r b q d t f u re be qe de l =
    let w = widened top bs bs r b t f refl re be in
    let c = w.0 in
    let same : used_slots b ≡ used_slots r =
    ap used_slots be ∙ used_same (take 128 r.slots ++ replicate (128 - length r.slots) Empty) r.slots (λ k. widened_slot r.slots 128 k (omega (arith, ap (λ (x : Block). length x.slots) re, t.root_wide))) in
    let head : block_in (set bs 0 b) 0 ≡ b = get_or-set_same bs 0 b no_block t.some in
    let none : used_slots (block_in (set bs 0 b) 0) ≡ 0 = ap used_slots head ∙ same ∙ u in
    let slots : d.slots ≡ (block_in (set bs 0 b) 0).slots = ap (λ (x : Block). x.slots) de ∙ ap (λ (x : Block). x.slots) qe in
    let width : length d.slots ≡ 128 = ap (λ (x : List Slot). length x) slots ∙ w.1 in
    let n = new_height top to (set bs 0 b) d c.tree none (ap (λ (x : Block). x.height) de) (ap (λ (x : Block). x.prefix) de ∙ ap (λ (x : Block). x.prefix) qe ∙ c.tree.root_prefix) slots (λ _. width) in (
      then_top top top to bs (set bs 0 b) _ (omega arith) c n,
      ap (λ (x : Block). length x.slots) (get_or-set_same (set bs 0 b) 0 d no_block c.tree.some) ∙ width,
    )

-- the root after it was cut off where its slots are empty
pub narrowed : (bs : List Block) (r b : Block) (w : ℕ) → IsTree 0 bs → FilledBut 0 bs → EntriesBelow 0 bs w → r ≡ block_in bs 0 → b ≡ record r { slots = take w r.slots } → w ≤ length (block_in bs 0).slots → ChangesTop 0 0 bs (set bs 0 b) × (length (block_in (set bs 0 b) 0).slots ≡ w)
narrowed bs r b w t f s re be l =
    let past : (k : ℕ) → w ≤ k → get_or r.slots k Empty ≡ Empty = λ k g.
    ap (λ (x : Block). get_or x.slots k Empty) re ∙ elim (slot_is (slot_in bs 0 k)) [
      | inl q ↦ q
      | inr q ↦ elim q [
        | inl q ↦ absurd (omega (arith, (t.leads 0 k q.0 q.1).height, t.root_height))
        | inr q ↦
            let d = digit_in 0 bs t 0 k _ q.1 (View≢Empty q.0) in
            let m : k % 128 ≡ k = omega arith in
            let p : (block_in bs 0).prefix ≡ k / 128 = omega (arith, t.root_prefix) in
            absurd (omega (arith, s k q.0 (entry_held 0 bs t k q.0 0 (record { inside = t.some; height = t.root_height; prefix = p; slot = ap (λ y. slot_in bs 0 y) m ∙ q.1 }))))
      ]
    ] in
    let width : length b.slots ≡ w = ap (λ (x : Block). length x.slots) be ∙ length-take-le w r.slots (omega (arith, ap (λ (x : Block). length x.slots) re)) in
    let slot : (k : ℕ) → get_or b.slots k Empty ≡ slot_in bs 0 k = λ k.
    ap (λ (x : Block). get_or x.slots k Empty) be ∙ narrowed_slot r.slots w k past ∙ ap (λ (x : Block). get_or x.slots k Empty) re in
    let c = new_width 0 bs b t f (ap (λ (x : Block). x.height) be ∙ ap (λ (x : Block). x.height) re) (ap (λ (x : Block). x.prefix) be ∙ ap (λ (x : Block). x.prefix) re) slot (omega (arith, width, l, t.root_wide)) (λ g. absurd (omega arith)) in
    (c, ap (λ (x : Block). length x.slots) (get_or-set_same bs 0 b no_block t.some) ∙ width)

-- a root with nothing below it is lowered
pub lower_empty : (top : ℕ) (bs : List Block) (r b : Block) → 0 < top → IsTree top bs → used_slots (block_in bs 0) ≡ 0 → r ≡ block_in bs 0 → b ≡ record r { height = top - 1 } → ChangesTop top (top - 1) bs (set bs 0 b) × (length (block_in bs 0).slots ≤ length (block_in (set bs 0 b) 0).slots)
lower_empty top bs r b g t u re be =
    let s : b.slots ≡ (block_in bs 0).slots = ap (λ (x : Block). x.slots) be ∙ ap (λ (x : Block). x.slots) re in (
      new_height top (top - 1) bs b t u (ap (λ (x : Block). x.height) be) (ap (λ (x : Block). x.prefix) be ∙ ap (λ (x : Block). x.prefix) re ∙ t.root_prefix) s (λ _. ap (λ (x : List Slot). length x) s ∙ t.deep g),
      omega (arith, ap (λ (x : Block). length x.slots) (get_or-set_same bs 0 b no_block t.some), ap (λ (x : List Slot). length x) s),
    )

pub small_then : (a b n to : ℕ) (xs ys : List Block) → ChangesTop a b xs ys → EntriesBelow a xs (128 ^ (to + 1)) → to < b → n ≡ b → EntriesBelow n ys (128 ^ n)
small_then a b n to xs ys c s l e = λ k v f.
    let g = s k v (sym (c.entries k) ∙ ap (λ h. entry_in ys h k) (sym e) ∙ f) in
    omega (arith, g, pow-le-pow_right {n = 128} (omega arith) {i = to + 1} {j = n} (omega arith))

pub flattened : (top : ℕ) (bs ls : List Block) (r b : Block) (w : ℕ) → IsTree top bs → EntriesBelow top bs w → w ≤ length (block_in bs 0).slots → ChangesTop top 0 bs ls → length (block_in bs 0).slots ≤ length (block_in ls 0).slots → r ≡ get_or ls 0 r → b ≡ record r { slots = take w r.slots } → ChangesTop top 0 bs (set ls 0 b) × (length (block_in (set ls 0 b) 0).slots ≡ w)
flattened top bs ls r b w t s l c g re be =
    let q = get_or_read ls 0 r c.tree.some re no_block in
    let small : EntriesBelow 0 ls w = λ k v f. s k v (sym (c.entries k) ∙ f) in
    let n = narrowed ls r b w c.tree c.filled small q be (omega (arith, l, g)) in
    (then_top top 0 0 bs ls (set ls 0 b) (omega arith) c n.0, n.1)

-- A new root above the old one, which goes to the end.
use Rattle.std.proofs.Common.{◌≡◌, ◌≢◌, ℕ, suc, ◌+◌, ◌-◌, ◌%◌, ◌<◌, ◌≤◌, ◌==◌, if◌then◌else◌, List, [], ◌∷◌, ◌++◌, length, get_or, set, refl, ap, sym, subst, ◌∙◌, arith, inl, inr}
use Rattle.std.proofs.lemmas.Bool.{cases_eq}
use Rattle.std.proofs.lemmas.List.{length_push, length-set, get_or-set_same, get_or-set_other, get_or_push}
use Rattle.std.proofs.lemmas.List.Sums.{sum_by-set, get_or-le-sum_by}
use Rattle.cc_vacb.specs.declared.slots.Slot.TheVariants.{Empty, Node, View}
use Rattle.cc_vacb.specs.Slots.{weight_of}
use Rattle.cc_vacb.specs.Block.{Block, no_block, blank_block, used_slots}
use Rattle.cc_vacb.specs.Index.{block_in, slot_in}
use Rattle.cc_vacb.specs.Tree.{IsTree, put_slot, FilledBut, used_at, blocks_at, was_at, now_at, ChangesTop}
use Rattle.cc_vacb.proofs.Put.{place-put_slot, length-put_slot, slot-put_same, slot-put_other, node_in_range, Node≢Empty, Node≢View, View≢Empty, block-put_other, block-push_old}
use Rattle.cc_vacb.proofs.Count.{blocks_at-put, used_at-put, blocks_at-push, used_at-push, only_at, only_at_none, only_at_same, only_at_other, used_by}
use Rattle.cc_vacb.proofs.Child.{IsBlank, blank-is}
use Rattle.cc_vacb.proofs.Removed.{was_same, was_other, now_same, now_other}
use Rattle.cc_vacb.proofs.Walk.{holder, entry_held, same_options}
use Rattle.cc_vacb.proofs.Bound.{none_at, one_root}

pub blocks_at-set : (h : ℕ) (bs : List Block) (x : ℕ) (b : Block) → x < length bs → blocks_at h (set bs x b) + only_at h (block_in bs x).height 1 ≡ blocks_at h bs + only_at h b.height 1
unfolding blocks_at only_at
blocks_at-set h bs x b l = sum_by-set (λ (b : Block). if b.height == h then 1 else 0) bs x b no_block l

pub used_at-set : (h : ℕ) (bs : List Block) (x : ℕ) (b : Block) → x < length bs → used_at h (set bs x b) + only_at h (block_in bs x).height (used_slots (block_in bs x)) ≡ used_at h bs + only_at h b.height (used_slots b)
unfolding used_at only_at
used_at-set h bs x b l = sum_by-set (λ (b : Block). if b.height == h then used_slots b else 0) bs x b no_block l

pub counted_one : (h : ℕ) (bs : List Block) (x : ℕ) → x < length bs → only_at h (block_in bs x).height 1 ≤ blocks_at h bs
unfolding blocks_at only_at
counted_one h bs x l = get_or-le-sum_by (λ (b : Block). if b.height == h then 1 else 0) bs x no_block l

abbrev pub with_root : List Block → Block → List Block
with_root bs b = put_slot (set bs 0 b ++ block_in bs 0 ∷ []) 0 0 (Node (length bs))

record Raised (top : ℕ) (bs new : List Block) : Type 0 where
  len : length new ≡ length bs + 1
  height : (block_in new 0).height ≡ suc top
  prefix : (block_in new 0).prefix ≡ 0
  width : length (block_in new 0).slots ≡ 128
  first : slot_in new 0 0 ≡ Node (length bs)
  rest : (j : ℕ) → j ≢ 0 → slot_in new 0 j ≡ Empty
  body : (x : ℕ) → 0 < x → x < length bs + 1 → block_in new x ≡ block_in bs (now_at 0 (length bs) x)
  blocks_sum : (h : ℕ) → blocks_at h new ≡ blocks_at h bs + only_at h (suc top) 1
  used_sum : (h : ℕ) → used_at h new ≡ used_at h bs + only_at h (suc top) 1

raised : (top : ℕ) (bs : List Block) (b : Block) → 0 < length bs → IsBlank b (suc top) 0 128 → Raised top bs (with_root bs b)
raised top bs b g blank =
    let n = length bs in
    let r = block_in bs 0 in
    let cs = set bs 0 b in
    let ds = cs ++ r ∷ [] in
    let new = with_root bs b in
    let cl : length cs ≡ n = length-set bs 0 b in
    let dl : length ds ≡ n + 1 = length_push cs r ∙ ap (λ x. x + 1) cl in
    let inside : 0 < length ds = omega (arith, dl) in
    let head : block_in ds 0 ≡ b = block-push_old cs r 0 (omega (arith, cl)) ∙ get_or-set_same bs 0 b no_block g in
    let wide : 0 < length (block_in ds 0).slots = omega (arith, ap (λ (z : Block). length z.slots) head, blank.width) in
    let hh : (block_in ds 0).height ≡ suc top = ap (λ (z : Block). z.height) head ∙ blank.height in
    let p = place-put_slot ds 0 0 (Node n) 0 inside in
    let was : slot_in ds 0 0 ≡ Empty = ap (λ (z : Block). get_or z.slots 0 Empty) head ∙ blank.empty 0 in
    record {
      len = length-put_slot ds 0 0 (Node n) ∙ dl;
      height = p.height ∙ hh;
      prefix = p.prefix ∙ ap (λ (z : Block). z.prefix) head ∙ blank.prefix;
      width = p.width ∙ ap (λ (z : Block). length z.slots) head ∙ blank.width;
      first = slot-put_same ds 0 0 (Node n) inside wide;
      rest = λ j m. slot-put_other ds 0 0 (Node n) 0 j inside (λ _ q. m q) ∙ ap (λ (z : Block). get_or z.slots j Empty) head ∙ blank.empty j;
      body = λ x l q.
          block-put_other ds 0 0 (Node n) x (λ z. omega arith)
          ∙ elim (cases_eq x n) [
            | inl e ↦ get_or_push cs r no_block x (omega (arith, cl)) ∙ ap (λ y. block_in bs y) (sym (now_same 0 n x e))
            | inr e ↦
                block-push_old cs r x (omega (arith, cl))
                ∙ get_or-set_other bs 0 x b no_block (λ z. omega arith)
                ∙ ap (λ y. block_in bs y) (sym (now_other 0 n x e))
          ];
      blocks_sum = λ h.
          omega (arith, blocks_at-put h ds 0 0 (Node n) inside, blocks_at-push h cs r, blocks_at-set h bs 0 b g, ap (λ x. only_at h x 1) blank.height);
      used_sum = λ h.
          omega (
            arith,
            used_at-put h ds 0 0 (Node n) inside wide,
            used_at-push h cs r,
            used_at-set h bs 0 b g,
            only_at_none h b.height (used_slots b) blank.unused,
            only_at_none h (block_in ds 0).height (weight_of (slot_in ds 0 0)) (ap weight_of was),
            ap (λ x. only_at h x 1) hh,
          );
    }

-- where a block of before stands
record Up (n x y : ℕ) : Type 0 where
  some : 0 < y
  below : y < n + 1
  back : now_at 0 n y ≡ x

up : (n x : ℕ) → 0 < n → x < n → Up n x (was_at 0 n x)
up n x g l =
    elim (cases_eq x 0) [
      | inl e ↦
          let w = was_same 0 n x e in
          record { some = omega (arith, w); below = omega (arith, w); back = now_same 0 n (was_at 0 n x) w ∙ sym e }
      | inr e ↦
          let w = was_other 0 n x e in
          record { some = omega (arith, w); below = omega (arith, w); back = now_other 0 n (was_at 0 n x) (λ q. omega (arith, w)) ∙ w }
    ]

down_below : (n x : ℕ) → 0 < n → x < n + 1 → now_at 0 n x < n
down_below n x g l =
    elim (cases_eq x n) [
      | inl e ↦ omega (arith, now_same 0 n x e)
      | inr e ↦ omega (arith, now_other 0 n x e)
    ]

pub low : (top : ℕ) (bs : List Block) → IsTree top bs → (x : ℕ) → x < length bs → (block_in bs x).height ≤ top
low top bs t x l =
    elim (cases_eq x 0) [
      | inl e ↦ omega (arith, ap (λ y. (block_in bs y).height) e, t.root_height)
      | inr e ↦ omega (arith, t.below_top x (omega arith) l)
    ]

raised_tree : (top : ℕ) (bs new : List Block) → IsTree top bs → length (block_in bs 0).slots ≡ 128 → Raised top bs new → IsTree (suc top) new
raised_tree top bs new t w r =
    let n = length bs in
    let slot : (x j : ℕ) → 0 < x → x < n + 1 → slot_in new x j ≡ slot_in bs (now_at 0 n x) j = λ x j g l. ap (λ (z : Block). get_or z.slots j Empty) (r.body x g l) in
    let place = λ (x : ℕ) (g : 0 < x) (l : x < n + 1). ap (λ (z : Block). z.height) (r.body x g l) in
    let prefix = λ (x : ℕ) (g : 0 < x) (l : x < n + 1). ap (λ (z : Block). z.prefix) (r.body x g l) in
    record {
      some = omega (arith, r.len);
      root_height = r.height;
      root_prefix = r.prefix;
      below_top = λ x g l.
          let q : x < n + 1 = omega (arith, r.len) in
          omega (arith, place x g q, low top bs t (now_at 0 n x) (down_below n x t.some q));
      leads = λ x j y e. elim (cases_eq x 0) [
        | inl z ↦
            let e0 : slot_in new 0 j ≡ Node y = ap (λ k. slot_in new k j) (sym z) ∙ e in
            elim (cases_eq j 0) [
              | inl k ↦
                  let f : Node n ≡ Node y = sym r.first ∙ ap (λ d. slot_in new 0 d) (sym k) ∙ e0 in
                  let yn : y ≡ n = cc in
                  let low0 = now_same 0 n n refl in
                  let some : 0 < n = t.some in
                  let fit : n < n + 1 = omega arith in
                  record {
                    below = omega (arith, r.len);
                    not_root = omega (arith, t.some);
                    height = omega (arith, ap (λ d. (block_in new d).height) yn, place n some fit, ap (λ d. (block_in bs d).height) low0, t.root_height, r.height, ap (λ d. (block_in new d).height) z);
                    prefix = omega (arith, ap (λ d. (block_in new d).prefix) yn, prefix n some fit, ap (λ d. (block_in bs d).prefix) low0, t.root_prefix, r.prefix, ap (λ d. (block_in new d).prefix) z, k);
                  }
              | inr k ↦ absurd (Node≢Empty y (sym e0 ∙ r.rest j k))
            ]
        | inr z ↦
            let g : 0 < x = omega arith in
            let q : x < n + 1 = omega (arith, node_in_range new x j _ e (Node≢Empty y), r.len) in
            let l = t.leads (now_at 0 n x) j y (sym (slot x j g q) ∙ e) in
            let yq : y < n + 1 = omega (arith, l.below) in
            let down = now_other 0 n y (λ d. omega (arith, l.below)) in
            record {
              below = omega (arith, r.len, l.below);
              not_root = l.not_root;
              height = omega (arith, place x g q, place y l.not_root yq, ap (λ d. (block_in bs d).height) down, l.height);
              prefix = omega (arith, prefix x g q, prefix y l.not_root yq, ap (λ d. (block_in bs d).prefix) down, l.prefix);
            }
      ];
      has_parent = λ y g l.
          let q : y < n + 1 = omega (arith, r.len) in
          elim (cases_eq y n) [
            | inl e ↦
                let d : (block_in new y).prefix % 128 ≡ 0 = omega (arith, prefix y g q, ap (λ k. (block_in bs k).prefix) (now_same 0 n y e), t.root_prefix) in
                (0, ap (λ k. slot_in new 0 k) d ∙ r.first ∙ ap Node (sym e))
            | inr e ↦
                let o = t.has_parent y g (omega arith) in
                let u = up n o.0 t.some (node_in_range bs o.0 _ _ o.1 (Node≢Empty y)) in
                let d : (block_in new y).prefix ≡ (block_in bs y).prefix = prefix y g q ∙ ap (λ k. (block_in bs k).prefix) (now_other 0 n y e) in
                (was_at 0 n o.0, ap (λ k. slot_in new (was_at 0 n o.0) (k % 128)) d ∙ slot _ _ u.some u.below ∙ ap (λ k. slot_in bs k ((block_in bs y).prefix % 128)) u.back ∙ o.1)
          ];
      views = λ x j v e. elim (cases_eq x 0) [
        | inl z ↦
            let e0 : slot_in new 0 j ≡ View v = ap (λ k. slot_in new k j) (sym z) ∙ e in
            elim (cases_eq j 0) [
              | inl k ↦ absurd (Node≢View n v (sym r.first ∙ ap (λ d. slot_in new 0 d) (sym k) ∙ e0))
              | inr k ↦ absurd (View≢Empty v (sym e0 ∙ r.rest j k))
            ]
        | inr z ↦
            let g : 0 < x = omega arith in
            let q : x < n + 1 = omega (arith, node_in_range new x j _ e (View≢Empty v), r.len) in
            place x g q ∙ t.views (now_at 0 n x) j v (sym (slot x j g q) ∙ e)
      ];
      wide = λ x g l.
          let q : x < n + 1 = omega (arith, r.len) in
          ap (λ (z : Block). length z.slots) (r.body x g q)
          ∙ elim (cases_eq (now_at 0 n x) 0) [
            | inl z ↦ ap (λ d. length (block_in bs d).slots) z ∙ w
            | inr z ↦ t.wide (now_at 0 n x) (omega arith) (down_below n x t.some q)
          ];
      root_wide = omega (arith, r.width);
      deep = λ _. r.width;
      counted = λ h l.
          let only = only_at_other h (suc top) 1 (λ e. omega arith) in
          elim (cases_eq h top) [
            | inl e ↦
                let none = none_at (suc h) bs (λ x q k. omega (arith, low top bs t x q)) in
                let some = counted_one h bs 0 t.some in
                let root = only_at_same h (block_in bs 0).height 1 (t.root_height ∙ sym e) in
                let one = one_root top bs t.below_top in
                omega (arith, r.blocks_sum h, r.used_sum (suc h), only, only_at_same (suc h) (suc top) 1 (ap suc (sym e)), none.1, some, root, one, ap (λ k. blocks_at k bs) e)
            | inr e ↦ omega (arith, r.blocks_sum h, r.used_sum (suc h), only, only_at_other (suc h) (suc top) 1 (λ k. omega arith), t.counted h (omega arith))
          ];
    }

pub then_top : (a b c : ℕ) (xs ys zs : List Block) → (b - a) + (c - b) ≤ c - a → ChangesTop a b xs ys → ChangesTop b c ys zs → ChangesTop a c xs zs
then_top a b c xs ys zs l p q = record {
  tree = q.tree;
  filled = q.filled;
  entries = λ n. q.entries n ∙ p.entries n;
  count = q.count ∙ p.count;
  len = omega (arith, p.len, q.len);
  used = λ g. q.used (p.used g);
}

pub one_up : (top : ℕ) (bs : List Block) (b : Block) → IsTree top bs → FilledBut 0 bs → 0 < used_slots (block_in bs 0) → length (block_in bs 0).slots ≡ 128 → IsBlank b (suc top) 0 128 → ChangesTop top (suc top) bs (with_root bs b)
one_up top bs b t f used w blank =
    let n = length bs in
    let new = with_root bs b in
    let r = raised top bs b t.some blank in
    let u = raised_tree top bs new t w r in
    let slot : (x j : ℕ) → 0 < x → x < n + 1 → slot_in new x j ≡ slot_in bs (now_at 0 n x) j = λ x j g l. ap (λ (z : Block). get_or z.slots j Empty) (r.body x g l) in
    record {
      tree = u;
      filled = λ x g l _.
          let q : x < n + 1 = omega (arith, r.len) in
          let same = ap used_slots (r.body x g q) in
          elim (cases_eq (now_at 0 n x) 0) [
            | inl z ↦ omega (arith, same, ap (λ d. used_slots (block_in bs d)) z, used)
            | inr z ↦ omega (arith, same, f (now_at 0 n x) (omega arith) (down_below n x t.some q) z)
          ];
      entries = λ k. same_options _ _
          (λ v e.
          let h = holder (suc top) new u k v e in
          elim (cases_eq h.0 0) [
            | inl z ↦ absurd (omega (arith, h.1.height, ap (λ d. (block_in new d).height) z, r.height))
            | inr z ↦
                let g : 0 < h.0 = omega arith in
                let q : h.0 < n + 1 = omega (arith, h.1.inside, r.len) in
                entry_held top bs t k v (now_at 0 n h.0) (record {
                  inside = down_below n h.0 t.some q;
                  height = sym (ap (λ (z : Block). z.height) (r.body h.0 g q)) ∙ h.1.height;
                  prefix = sym (ap (λ (z : Block). z.prefix) (r.body h.0 g q)) ∙ h.1.prefix;
                  slot = sym (slot h.0 (k % 128) g q) ∙ h.1.slot;
                })
          ])
          (λ v e.
          let h = holder top bs t k v e in
          let o = up n h.0 t.some h.1.inside in
          let y = was_at 0 n h.0 in
          let b : block_in new y ≡ block_in bs h.0 = r.body y o.some o.below ∙ ap (λ d. block_in bs d) o.back in
          entry_held (suc top) new u k v y (record {
            inside = omega (arith, o.below, r.len);
            height = ap (λ (z : Block). z.height) b ∙ h.1.height;
            prefix = ap (λ (z : Block). z.prefix) b ∙ h.1.prefix;
            slot = ap (λ (z : Block). get_or z.slots (k % 128) Empty) b ∙ h.1.slot;
          }));
      count = omega (arith, r.used_sum 0, only_at_other 0 (suc top) 1 (λ e. omega arith));
      len = omega (arith, r.len);
      used = λ _. omega (arith, used_by (block_in new 0) 0 (omega (arith, r.width)), ap weight_of r.first);
    }

pub raise_step : (top to n : ℕ) (old mid pushed new : List Block) (b r : Block) → top < to → ChangesTop top (to - 1) old mid → length (block_in mid 0).slots ≡ 128 → 0 < used_slots (block_in old 0) → b ≡ blank_block to 0 128 → r ≡ block_in mid 0 → pushed ≡ set mid 0 b ++ r ∷ [] → new ≡ put_slot pushed 0 0 (Node n) → n ≡ length mid → ChangesTop top to old new
raise_step top to n old mid pushed new b r g c w u be re pe ne le =
    let t : suc (to - 1) ≡ to = omega arith in
    let blank : IsBlank b (suc (to - 1)) 0 128 = subst (λ (x : Block). IsBlank x (suc (to - 1)) 0 128) (sym be) (subst (λ h. IsBlank (blank_block to 0 128) h 0 128) (sym t) (blank-is to 0 128)) in
    let q : new ≡ with_root mid b =
    ne
    ∙ ap (λ (x : List Block). put_slot x 0 0 (Node n)) (pe ∙ ap (λ (x : Block). set mid 0 b ++ x ∷ []) re)
    ∙ ap (λ x. put_slot (set mid 0 b ++ block_in mid 0 ∷ []) 0 0 (Node x)) le in
    let o = one_up (to - 1) mid b c.tree c.filled (c.used u) w blank in
    let p : ChangesTop (to - 1) to mid new = subst (λ h. ChangesTop (to - 1) h mid new) t (subst (λ (x : List Block). ChangesTop (to - 1) (suc (to - 1)) mid x) (sym q) o) in
    then_top top (to - 1) to old mid new (omega arith) c p

pub raise_width : (top to : ℕ) (old mid pushed : List Block) (b r : Block) → ChangesTop top to old mid → b ≡ blank_block (to + 1) 0 128 → pushed ≡ set mid 0 b ++ r ∷ [] → 0 < length (block_in pushed 0).slots
raise_width top to old mid pushed b r c be pe =
    let some = c.tree.some in
    let blank = blank-is (to + 1) 0 128 in
    let head : block_in pushed 0 ≡ b =
    ap (λ (x : List Block). block_in x 0) pe ∙ block-push_old (set mid 0 b) r 0 (omega (arith, length-set mid 0 b)) ∙ get_or-set_same mid 0 b no_block some in
    omega (arith, ap (λ (x : Block). length x.slots) (head ∙ be), blank.width)

-- Orders of use: where a block stands in them, and what a use or a new block leaves.
use Rattle.std.proofs.Common.{◌≡◌, ℕ, ◌+◌, ◌-◌, ◌<◌, ◌≤◌, zero, suc, Bool, true, false, cond, nat_eq, if◌then◌else◌, List, [], ◌∷◌, ◌++◌, length, drop, slice_get, position, Option, None, Some, is_some, unwrap_or, refl, sym, ap, subst, ◌∙◌, true≢false, arith, drop-cons}
use Rattle.std.proofs.lemmas.Bool.{eqb-true}
use Rattle.std.proofs.lemmas.Option.{slice_get_within, get_or_from_slice_get}
use Rattle.std.specs.Cmp.{nat_eq_equiv}
use Rattle.std.specs.List.{list_any, IsDistinct}
use Rattle.std.specs.Map.{keys_of, values_of, lookup, lookup_key}
use Rattle.std.specs.Option.{option_map_or}
use Rattle.indexmap.specs.IndexMap.{move_index, set_value_at, insert_entry}
use Rattle.indexmap.proofs.MapLemmas.{Found-position, Missing-position, remove_entry-first, insert_entry-first, index-first, some_index}
use Rattle.indexmap.proofs.RemoveLemmas.{moved_last, own_first}
use Rattle.cc_vacb.specs.Index.{Index}
use Rattle.cc_views.specs.Views.{ViewFrames, MappedViews, mapped_blocks, frames_at, without_view, views_after_use, with_frames, first_not_in}
use Rattle.cc_views.specs.Indexed.{ViewsAreIndexed}

pub none_from : {A : Type 0} (o : Option A) → is_some o ≡ false → o ≡ None
none_from None e = refl
none_from (Some x) e = absurd (true≢false e)

-- a block that is not mapped has no place
pub no_place : (es : List (ℕ × ViewFrames)) (block : ℕ) → is_some (lookup (nat_eq block) es) ≡ false → position (nat_eq block) (keys_of es) ≡ None
no_place es block e = none_from (position (nat_eq block) (keys_of es)) (some_index (nat_eq block) es ∙ e)

-- and taking it out changes nothing
pub without_none : (es : List (ℕ × ViewFrames)) (block : ℕ) → is_some (lookup (nat_eq block) es) ≡ false → without_view es block ≡ es
without_none [] block e = refl
without_none (x ∷ es) block e = by (nat_eq block x.0) (without_none es block) e
  where
    by : (b : Bool) → (is_some (lookup (nat_eq block) es) ≡ false → without_view es block ≡ es) → is_some (cond b (Some x.1) (lookup (nat_eq block) es)) ≡ false → cond b es (x ∷ without_view es block) ≡ x ∷ es
    by true rest h = absurd (true≢false h)
    by false rest h = ap (λ l. x ∷ l) (rest h)

-- a map as it is, with other views
abbrev pub put_views : MappedViews → List (ℕ × ViewFrames) → MappedViews
put_views m views = record m { views = views }

pub unremoved : (m : MappedViews) (block : ℕ) → is_some (frames_at m block) ≡ false → m ≡ put_views m (without_view m.views block)
unremoved m block e = ap (put_views m) (sym (without_none m.views block e))

same_some : (a b : ℕ) → Some a ≡ Some b → a ≡ b
same_some a b e = ap (λ o. unwrap_or o a) e

key_is : (es : List (ℕ × ViewFrames)) (block k : ℕ) → lookup_key (nat_eq block) es ≡ Some k → block ≡ k
key_is [] block k e = absurd (true≢false (sym (ap is_some e)))
key_is (x ∷ es) block k e = by (nat_eq block x.0) refl (key_is es block k) e
  where
    by : (b : Bool) → nat_eq block x.0 ≡ b → (lookup_key (nat_eq block) es ≡ Some k → block ≡ k) → cond b (Some x.0) (lookup_key (nat_eq block) es) ≡ Some k → block ≡ k
    by true p rest h = eqb-true block x.0 p ∙ same_some x.0 k h
    by false p rest h = rest h

length-keys : (es : List (ℕ × ViewFrames)) → length (keys_of es) ≡ length es
length-keys [] = refl
length-keys (e ∷ es) = ap suc (length-keys es)

-- an entry, its key and its value at one place
record At (es : List (ℕ × ViewFrames)) (i : ℕ) : Type 0 where
  key : ℕ
  value : ViewFrames
  entry : slice_get es i ≡ Some (key, value)
  at_key : slice_get (keys_of es) i ≡ Some key
  at_value : slice_get (values_of es) i ≡ Some value

at_entry : (es : List (ℕ × ViewFrames)) (i : ℕ) → i < length es → At es i
at_entry [] i h = absurd (omega arith)
at_entry (x ∷ es) zero h = record { key = x.0; value = x.1; entry = refl; at_key = refl; at_value = refl }
at_entry (x ∷ es) (suc i) h =
    let a = at_entry es i (omega arith) in
    record { key = a.key; value = a.value; entry = a.entry; at_key = a.at_key; at_value = a.at_value }

-- a block stands at one place only
pub place_is : (es : List (ℕ × ViewFrames)) (i block : ℕ) → IsDistinct nat_eq (keys_of es) → slice_get (keys_of es) i ≡ Some block → position (nat_eq block) (keys_of es) ≡ Some i
place_is es i block distinct at =
    let within : i < length es = omega (arith, slice_get_within (keys_of es) i block at, length-keys es) in
    let a = at_entry es i within in
    let same : a.key ≡ block = same_some a.key block (sym a.at_key ∙ at) in
    let first = own_first nat_eq nat_eq_equiv es i a.key a.value distinct a.entry in
    subst (λ b. position (nat_eq b) (keys_of es) ≡ Some i) same (index-first (nat_eq a.key) es i first)

-- the frames of a block stand at its place
pub frames_there : (es : List (ℕ × ViewFrames)) (block i : ℕ) → position (nat_eq block) (keys_of es) ≡ Some i → slice_get (values_of es) i ≡ lookup (nat_eq block) es
frames_there es block i p = sym (Found-position (nat_eq block) es i p).value

-- the entry of a mapped block, moved to the end
pub moved : (es : List (ℕ × ViewFrames)) (block i : ℕ) → position (nat_eq block) (keys_of es) ≡ Some i → move_index es i (length es - 1) ≡ views_after_use es block
moved es block i p =
    let t = nat_eq block in
    let f = Found-position t es i p in
    let a = at_entry es i f.within in
    let same : block ≡ a.key = key_is es block a.key (f.key ∙ a.at_key) in
    let at : slice_get es i ≡ Some (block, a.value) = a.entry ∙ ap (λ k. Some (k, a.value)) (sym same) in
    moved_last es i (block, a.value) at
    ∙ ap (λ l. l ++ (block, a.value) ∷ []) (sym (remove_entry-first t es i f.first))
    ∙ sym (ap (λ o. option_map_or (λ frames. without_view es block ++ (block, frames) ∷ []) o es) (f.value ∙ a.at_value))

-- a use of a block that has no place
pub unused : (m : MappedViews) (block : ℕ) → position (nat_eq block) (mapped_blocks m) ≡ None → m ≡ put_views m (views_after_use m.views block)
unused m block p = ap (put_views m) (sym (ap (λ o. option_map_or (λ frames. without_view m.views block ++ (block, frames) ∷ []) o m.views) (Missing-position (nat_eq block) m.views p).value))

-- the first that is not kept, from one place on
next : (kept blocks : List ℕ) (i block : ℕ) → slice_get blocks i ≡ Some block
    → first_not_in kept (drop i blocks) ≡ (if list_any (λ k. nat_eq k block) kept then first_not_in kept (drop (i + 1) blocks) else Some block)
next kept blocks i block at =
    let more : suc i ≡ i + 1 = omega arith in
    ap (first_not_in kept) (drop-cons blocks i block (slice_get_within blocks i block at) ∙ ap (λ x. x ∷ drop (suc i) blocks) (get_or_from_slice_get blocks i block block at))
    ∙ ap (λ n. if list_any (λ k. nat_eq k block) kept then first_not_in kept (drop n blocks) else Some block) more

-- the look ends at a block that is not kept, and goes on past one that is
pub stops : (kept blocks : List ℕ) (i block : ℕ) → slice_get blocks i ≡ Some block → list_any (λ k. nat_eq k block) kept ≡ false
    → first_not_in kept (drop i blocks) ≡ first_not_in kept blocks → Some block ≡ first_not_in kept blocks
stops kept blocks i block at out so_far =
    sym (ap (λ b. if b then first_not_in kept (drop (i + 1) blocks) else Some block) out) ∙ sym (next kept blocks i block at) ∙ so_far

pub goes_on : (kept blocks : List ℕ) (i block : ℕ) → slice_get blocks i ≡ Some block → list_any (λ k. nat_eq k block) kept ≡ true
    → first_not_in kept (drop i blocks) ≡ first_not_in kept blocks → first_not_in kept (drop (i + 1) blocks) ≡ first_not_in kept blocks
goes_on kept blocks i block at in_kept so_far =
    sym (ap (λ b. if b then first_not_in kept (drop (i + 1) blocks) else Some block) in_kept) ∙ sym (next kept blocks i block at) ∙ so_far

-- a write at one place leaves the blocks
pub keys-set : (es : List (ℕ × ViewFrames)) (i : ℕ) (w : ViewFrames) → keys_of (set_value_at es i w) ≡ keys_of es
keys-set [] i w = refl
keys-set (e ∷ es) zero w = refl
keys-set (e ∷ es) (suc i) w = ap (λ l. e.0 ∷ l) (keys-set es i w)

-- so the index fits as before
pub IsIndexed-set : (es : List (ℕ × ViewFrames)) (quota size : ℕ) (index : Index) (i : ℕ) (w : ViewFrames) → ViewsAreIndexed es quota size index → ViewsAreIndexed (set_value_at es i w) quota size index
IsIndexed-set es quota size index i w h =
    let fs = set_value_at es i w in
    let ks = keys-set es i w in
    let found = λ (block : ℕ). sym (some_index (nat_eq block) fs) ∙ ap (λ l. is_some (position (nat_eq block) l)) ks ∙ some_index (nat_eq block) es in
    let len : length fs ≡ length es = sym (length-keys fs) ∙ ap length ks ∙ length-keys es in
    record {
      sound = record {
        distinct = subst (IsDistinct nat_eq) (sym ks) h.sound.distinct;
        below = λ block s. h.sound.below block (sym (found block) ∙ s);
        within = subst (λ n. n ≤ quota) (sym len) h.sound.within;
      };
      few = h.few;
      sized = h.sized;
      indexed = λ block. h.indexed block ∙ sym (found block);
    }

set-insert : (es : List (ℕ × ViewFrames)) (block : ℕ) (w : ViewFrames) → is_some (lookup (nat_eq block) es) ≡ true → insert_entry nat_eq es block w ≡ with_frames es block w
set-insert [] block w e = absurd (true≢false (sym e))
set-insert (x ∷ es) block w e = by (nat_eq block x.0) (set-insert es block w) e
  where
    by : (b : Bool) → (is_some (lookup (nat_eq block) es) ≡ true → insert_entry nat_eq es block w ≡ with_frames es block w) → is_some (cond b (Some x.1) (lookup (nat_eq block) es)) ≡ true
        → cond b ((x.0, w) ∷ es) (x ∷ insert_entry nat_eq es block w) ≡ cond b ((x.0, w) ∷ es) (x ∷ with_frames es block w)
    by true rest h = refl
    by false rest h = ap (λ l. x ∷ l) (rest h)

-- a write at the place of a block is a write of its frames
pub set_value-at : (es : List (ℕ × ViewFrames)) (block i : ℕ) (w : ViewFrames) → position (nat_eq block) (keys_of es) ≡ Some i → set_value_at es i w ≡ with_frames es block w
set_value-at es block i w p =
    sym (insert_entry-first nat_eq block w es i (Found-position (nat_eq block) es i p).first) ∙ set-insert es block w (sym (some_index (nat_eq block) es) ∙ ap is_some p)

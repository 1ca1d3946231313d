-- A dirty page begins below the size of its stream.
use Rattle.std.specs.Prelude.{◌≡◌, ℕ, suc, ◌+◌, ◌*◌, ◌<◌, ◌≤◌, Bool, true, false, not, ◌&&◌, ◌==◌, nat_lt, nat_le, List, [], ◌∷◌, length, cond, min, refl}
use Rattle.std.specs.declared.option.Option.{Option}
use Rattle.std.specs.declared.option.Option.TheVariants.{Some, None}
use Rattle.std.proofs.Common.{arith}
use Rattle.std.proofs.lemmas.Bool.{and_parts, ltb-true, ltb-false, leb-false}
use Rattle.cc_entry.specs.Place.{Range}
use Rattle.cc_entry.specs.declared.call.Call.{Call}
use Rattle.cc_entry.specs.declared.reply.Reply.{Reply}
use Rattle.cc_entry.specs.declared.entry.End.{End}
use Rattle.cc_entry.specs.Pages.{has_page}
use Rattle.cc_model.specs.Numbers.{is_empty}
use Rattle.cc_model.specs.History.{Effect, Did, CameIn, WentOut, Began, Ended, Synced}
use Rattle.cc_model.specs.Acts.{Act, act_of, Opens, Closes, Resizes, Writes, Zeroes, Stores, Stamps, Discards, Looks}
use Rattle.cc_model.specs.Objects.{objects, truncation}
use Rattle.cc_model.specs.Holds.{Hold, range_held, hold_at, holds_of}
use Rattle.cc_model.specs.Sizes.{Sizes, Touch, resized_by, touched_if, cut_if, dropped_if, hold_has, stored_range, ended_ok}
use Rattle.cc_model.specs.Ranges.{span_has}
use Rattle.cc_model.specs.Touches.{sizes, touches, unwritten, is_dirty, size_of}
use Rattle.cc_laws.proofs.ActSteps.{sizes_by, sizes-done, touches_by, touches-done}
use Rattle.cc_laws.proofs.TouchSteps.{touches-began_open}
use Rattle.cc_laws.proofs.Lists1.{any-found}
use Rattle.cc_laws.proofs.SafeHistory.{IsActSafe, IsSafe}
use Rattle.cc_laws.proofs.SizeFacts.{ends_past, change-within, sized}
use Rattle.cc_laws.proofs.MapGone.{touches-since}
use Rattle.cc_laws.proofs.DirtyFacts.{dirty-mapped}

-- a page in which a range has a byte begins before its end
before-end : (r : Range) (p : ℕ) → has_page r p ≡ true → 4096 * p < r.to
before-end r p has =
    let later = (and_parts (nat_lt r.from r.to) _ has).1 in
    ltb-true (4096 * p) r.to (and_parts (nat_lt r.from (4096 * p + 4096)) _ later).1

before-within : (r : Range) (p size : ℕ) → r.to ≤ size → has_page r p ≡ true → 4096 * p < size
before-within r p size within has = let first : 4096 * p < r.to = before-end r p has in omega arith

-- a noncached store has bytes in no page that begins at the size or past it
stored-below : (page size p : ℕ) → has_page (stored_range page size) p ≡ true → 4096 * p < size
stored-below page size p has = go (nat_lt (4096 * page) size) has
  where
    go : (t : Bool)
        → has_page (record { from = 4096 * page; to = cond t (min (4096 * page + 4096) size) 0 }) p ≡ true
        → 4096 * p < size
    go true it =
        before-within (record { from = 4096 * page; to = min (4096 * page + 4096) size }) p size (omega arith) it
    go false it = before-within (record { from = 4096 * page; to = 0 }) p size (omega arith) it

-- a hold that ends within the size has pages that begin below it alone
held-below : (o : Option Hold) (id p size : ℕ) (holds : List Hold)
    → hold_at holds id ≡ o → ends_past size holds ≡ false → hold_has o p ≡ true → 4096 * p < size
held-below None id p size holds found within has = absurd (cc)
held-below (Some hold) id p size holds found within has = go (nat_lt size (hold.at + hold.len)) refl
  where
    go : (t : Bool) → nat_lt size (hold.at + hold.len) ≡ t → 4096 * p < size
    go true past =
        let some = any-found (λ x. x.id == id) (λ x. nat_lt size (x.at + x.len)) holds hold found past in
        absurd (cc)
    go false is = before-within (range_held hold) p size (ltb-false size (hold.at + hold.len) is) has

touched-below : (b : Bool) (place : ℕ) (lsn : Option ℕ) (ts : List Touch) (p size : ℕ)
    → (b ≡ true → 4096 * p < size) → (not (is_empty ts) ≡ true → 4096 * p < size)
    → not (is_empty (touched_if b place lsn ts)) ≡ true → 4096 * p < size
touched-below true place lsn ts p size here before dirty = here refl
touched-below false place lsn ts p size here before dirty = before dirty

cut-below : (o : Option ℕ) (s : Sizes) (p : ℕ) (ts : List Touch)
    → (not (is_empty ts) ≡ true → 4096 * p < s.size)
    → not (is_empty (cut_if o p ts)) ≡ true → 4096 * p < (resized_by o s).size
cut-below None s p ts before dirty = before dirty
cut-below (Some to) s p ts before dirty = go (nat_le to (4096 * p)) refl dirty
  where
    go : (t : Bool) → nat_le to (4096 * p) ≡ t → not (is_empty (cond t [] ts)) ≡ true → 4096 * p < to
    go true is it = absurd (cc)
    go false is it = leb-false to (4096 * p) is

dropped-below : (b : Bool) (ts : List Touch) (p size : ℕ)
    → (not (is_empty ts) ≡ true → 4096 * p < size)
    → not (is_empty (dropped_if b ts)) ≡ true → 4096 * p < size
dropped-below true ts p size before dirty = absurd (cc)
dropped-below false ts p size before dirty = before dirty

-- an act leaves dirty pages below the size that it leaves
act-below : (a : Act) (h : List Effect) (p : ℕ)
    → IsActSafe h a → ends_past (size_of h) (holds_of h) ≡ false → (is_dirty h p ≡ true → 4096 * p < size_of h)
    → not (is_empty (touches_by false a h p)) ≡ true → 4096 * p < (sizes_by a h).size
act-below (Opens file given quota temporary) h p safe within before dirty =
    rw (dirty-mapped h p dirty, sizes_by) (before dirty)
act-below (Closes file truncate) h p safe within before dirty =
    cut-below (truncation (objects h) (size_of h) file truncate) (sizes h) p (unwritten h p) before dirty
act-below (Resizes allocation size) h p safe within before dirty =
    cut-below (Some size) (sizes h) p (unwritten h p) before dirty
act-below (Writes at bytes) h p safe within before dirty =
    let range : Range = record { from = at; to = at + length bytes } in
    let below = before-within range p (size_of h) (change-within h at (at + length bytes) within safe) in
    touched-below (has_page range p) (suc (length h)) None (unwritten h p) p (size_of h) below before dirty
act-below (Zeroes from to) h p safe within before dirty =
    let range : Range = record { from = from; to = to } in
    let below = before-within range p (size_of h) (change-within h from to within safe) in
    touched-below (has_page range p) (suc (length h)) None (unwritten h p) p (size_of h) below before dirty
act-below (Stores page bytes) h p safe within before dirty =
    let range : Range = stored_range page (size_of h) in
    let below = stored-below page (size_of h) p in
    touched-below (has_page range p) (suc (length h)) None (unwritten h p) p (size_of h) below before dirty
act-below (Stamps hold lsn) h p safe within before dirty =
    let o : Option Hold = hold_at (holds_of h) hold in
    let below = held-below o hold p (size_of h) (holds_of h) refl within in
    touched-below (hold_has o p) (suc (length h)) lsn (unwritten h p) p (size_of h) below before dirty
act-below (Discards span) h p safe within before dirty =
    dropped-below (span_has span p) (unwritten h p) p (size_of h) before dirty
act-below Looks h p safe within before dirty = before dirty

-- a page that is dirty after a transfer ended was so before
dirty-before : (pass page : ℕ) (how : End) (h : List Effect) (p : ℕ)
    → is_dirty (Ended pass page how ∷ h) p ≡ true → is_dirty h p ≡ true
unfolding touches
dirty-before pass page how h p dirty = go (page == p && ended_ok how) dirty
  where
    left : (ts : List Touch) → touches false h p ≡ ts
        → not (is_empty (touches true h p)) ≡ true → not (is_empty ts) ≡ true
    left [] is it = let none : touches true h p ≡ [] = touches-since h p is in absurd (cc)
    left (t ∷ ts) is it = refl

    go : (t : Bool) → not (is_empty (touches t h p)) ≡ true → not (is_empty (touches false h p)) ≡ true
    go true it = left (touches false h p) refl it
    go false it = it

first-below : (p : ℕ) → is_dirty [] p ≡ true → 4096 * p < size_of []
unfolding touches
first-below p dirty = absurd (cc)

done-below : (pass : ℕ) (call : Call) (reply : Reply) (h : List Effect) (p : ℕ)
    → IsSafe (Did pass call reply ∷ h) → (is_dirty h p ≡ true → 4096 * p < size_of h)
    → is_dirty (Did pass call reply ∷ h) p ≡ true → 4096 * p < size_of (Did pass call reply ∷ h)
unfolding IsSafe
done-below pass call reply h p safe before dirty =
    let left = rw (touches-done false pass call reply h p) at dirty in
    rw (sizes-done pass call reply h, size_of)
    (act-below (act_of call) h p safe.0.1 (sized h safe.1).held_within before left)

-- each dirty page begins below the size
pub dirty-below : (h : List Effect) (p : ℕ) → IsSafe h → is_dirty h p ≡ true → 4096 * p < size_of h
unfolding IsSafe touches sizes
dirty-below [] p safe dirty = first-below p dirty
dirty-below (Did pass call reply ∷ h) p safe dirty =
    done-below pass call reply h p safe (dirty-below h p safe.1) dirty
dirty-below (CameIn pass page from_disk ∷ h) p safe dirty = dirty-below h p safe.1 dirty
dirty-below (WentOut pass page ∷ h) p safe dirty = dirty-below h p safe.1 dirty
dirty-below (Began pass page ∷ h) p safe dirty =
    dirty-below h p safe.1 (rw (touches-began_open pass page h p) at dirty)
dirty-below (Ended pass page how ∷ h) p safe dirty =
    dirty-below h p safe.1 (dirty-before pass page how h p dirty)
dirty-below (Synced pass how ∷ h) p safe dirty = dirty-below h p safe.1 dirty

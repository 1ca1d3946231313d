-- What a write of one slot leaves of the pages.
use Rattle.std.proofs.Common.{◌≡◌, ℕ, ◌<◌, true, List, Option, None, Some, length, get_or, set, ap, ◌∙◌, sym, inl, inr, arith}
use Rattle.std.proofs.lemmas.List.{map-set, length-map}
use Rattle.std.proofs.lemmas.Grind.{common_steps}
use Rattle.std.proofs.Math.ListN.{get_or-map}
use Rattle.std.proofs.lemmas.List.{get_or-map as get_or-map-at}
use Rattle.std.proofs.lemmas.Bool.{cases_lt}
use Rattle.std.proofs.lemmas.List.{get_or_past}
use Rattle.std.specs.Option.{option_map, IfSome}
use Rattle.cc_pages.specs.declared.frames.Kept.{Kept}
use Rattle.cc_pages.specs.Pages.{PageFrame, owned, page_at, page_in_slot, pages_in, shared, kept_page, is_owned, overwritten, KeepsOtherFrames, Snapshot}

abbrev Slot : Type 0
Slot = Option Kept

-- a slot that is written holds the new frame's bytes
pub page_at-set : (slots : List Slot) (i : ℕ) (x : Slot) → length slots ≡ 64 → i < 64 → page_at (pages_in (set slots i x)) i ≡ page_in_slot x
page_at-set slots i x n h = grind (arith, common_steps, map-set, length-map)

-- and every other slot is as it was
pub KeepsOthers-set : (slots : List Slot) (i : ℕ) (x : Slot) → KeepsOtherFrames (pages_in slots) (pages_in (set slots i x)) i
KeepsOthers-set slots i x = λ k ne. grind (arith, common_steps, map-set, length-map)

-- what a write to a page that is there leaves, in the clause's words
overwrites : (f : PageFrame → PageFrame) (now was new : Option PageFrame) → now ≡ was → new ≡ option_map f was → IfSome now (λ page. new ≡ Some (f page))
overwrites f None was new e w = tt
overwrites f (Some page) was new e w = w ∙ ap (option_map f) (sym e)

-- bytes written over the owned frame of a slot
pub page_at-overwritten : (slots : List Slot) (i : ℕ) (x y : Slot) (at : ℕ) (bytes : List ℕ) → length slots ≡ 64 → i < 64 → is_owned (page_at (pages_in slots) i) ≡ true
    → (is_owned (page_in_slot (get_or slots i x)) ≡ true → page_in_slot y ≡ option_map (λ page. owned (overwritten page.bytes at bytes)) (page_in_slot (get_or slots i x)))
    → IfSome (page_at (pages_in slots) i) (λ page. page_at (pages_in (set slots i y)) i ≡ Some (owned (overwritten page.bytes at bytes)))
page_at-overwritten slots i x y at bytes n h own w =
    let le : i < length slots = omega arith in
    let same : page_at (pages_in slots) i ≡ page_in_slot (get_or slots i x) = get_or-map-at page_in_slot slots i x None le in
    overwrites (λ page. owned (overwritten page.bytes at bytes)) (page_at (pages_in slots) i) (page_in_slot (get_or slots i x)) (page_at (pages_in (set slots i y)) i)
    same (page_at-set slots i y n h ∙ w (ap is_owned (sym same) ∙ own))

-- slots that are all empty show no page, also past the last
pub page_at-empty : (slots : List Slot) → ((i : ℕ) → i < length slots → get_or slots i None ≡ None) → (i : ℕ) → page_at (pages_in slots) i ≡ None
page_at-empty slots none i = elim (cases_lt i (length slots)) [
  | inl h ↦ get_or-map page_in_slot slots i None ∙ ap page_in_slot (none i h)
  | inr h ↦ get_or-map page_in_slot slots i None ∙ ap page_in_slot (get_or_past slots i None h)
]

-- a page of which a snapshot was made
snapshot : (was : Option PageFrame) (page new : PageFrame) (frame : List ℕ) → was ≡ Some page → frame ≡ page.bytes → new ≡ shared page.bytes → Snapshot was (Some new) (Some frame)
snapshot None page new frame there same kept = cc
snapshot (Some old) page new frame there same kept =
    let is : old ≡ page = cc in
    rw is (same, ap Some kept)

pub Snapshot-made : (slots : List Slot) (i : ℕ) (x : Slot) (old new : Kept) (frame : List ℕ) → length slots ≡ 64 → i < 64 → get_or slots i x ≡ Some old → frame ≡ (kept_page old).bytes → kept_page new ≡ shared (kept_page old).bytes → Snapshot (page_at (pages_in slots) i) (page_at (pages_in (set slots i (Some new))) i) (Some frame)
Snapshot-made slots i x old new frame n h there same kept =
    let le : i < length slots = omega arith in
    let was : page_at (pages_in slots) i ≡ Some (kept_page old) = get_or-map-at page_in_slot slots i x None le ∙ ap page_in_slot there in
    rw (page_at-set slots i (Some new) n h) (snapshot (page_at (pages_in slots) i) (kept_page old) (kept_page new) frame was same kept)

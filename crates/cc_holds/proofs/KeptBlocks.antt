-- View blocks of the holds that are kept.
use Rattle.std.specs.Prelude.{◌≡◌, ℕ, ◌||◌, ◌==◌, nat_lt, List, [], ◌∷◌, refl}
use Rattle.std.specs.List.{list_any, flat_map}
use Rattle.std.proofs.Common.{ap, sym, ◌∙◌}
use Rattle.std.proofs.lemmas.List.Folds.{list_any-append}
use Rattle.cc_entry.specs.Place.{Range}
use Rattle.cc_entry.specs.Pages.{blocks_of}
use Rattle.cc_model.specs.Numbers.{is_among}
use Rattle.cc_model.specs.History.{Effect}
use Rattle.cc_model.specs.Holds.{holds_of, range_held}
use Rattle.cc_model.specs.Holds as held
use Rattle.cc_model.specs.Views as views
use Rattle.cc_laws.proofs.BlockPages.{is_member-among}
use Rattle.cc_holds.specs.Blocks.{HasHeldBlocks}
use Rattle.cc_holds.specs.Holds.{row_range, has_block, held_blocks, active_blocks}
use Rattle.cc_holds.specs.declared.block_rows.BlockRow.{BlockRow}
use Rattle.cc_holds.specs.declared.holds.KeptHold.{KeptHold}
use Rattle.cc_holds.specs.Stands.{HoldsStand}
use Rattle.cc_holds.proofs.BlockNumbers.{count-among}
use Rattle.cc_holds.proofs.HoldBlocks.{Count, any-counted}
use Rattle.cc_holds.proofs.KeptReads.{any-kept, range-kept}

-- whether a number is among the blocks of holds, said of each hold
among-flat : {A : Type 0} (blocks : A → List ℕ) (b : ℕ) (xs : List A) → is_among b (flat_map blocks xs) ≡ list_any (λ x. is_among b (blocks x)) xs
among-flat blocks b [] = refl
among-flat blocks b (x ∷ xs) =
    list_any-append (λ m. m == b) (blocks x) (flat_map blocks xs)
    ∙ ap (λ t. is_among b (blocks x) || t) (among-flat blocks b xs)

-- the holds that are kept have the blocks of the open ones
pub among-held : (b : ℕ) (h : List Effect) (holds : List KeptHold) → HoldsStand h holds → is_among b (held_blocks holds) ≡ is_among b (held.held_blocks (holds_of h))
among-held b h holds stands =
    among-flat (λ (kept : KeptHold). blocks_of (row_range kept.row)) b holds
    ∙ (any-kept (λ (hold : held.Hold). is_among b (blocks_of (range_held hold))) (λ kept. is_among b (blocks_of (row_range kept.row))) (λ hold kept is. ap (λ r. is_among b (blocks_of r)) (range-kept hold kept is)) h holds stands
    ∙ sym (among-flat (λ (hold : held.Hold). blocks_of (range_held hold)) b (holds_of h)))

pub active-kept : (h : List Effect) (holds : List KeptHold) → HoldsStand h holds → active_blocks holds ≡ views.active_blocks (holds_of h)
active-kept h holds stands =
    count-among (held_blocks holds) (held.held_blocks (holds_of h)) (λ b. among-held b h holds stands)

-- the rows that are kept beside holds have their blocks
pub has-held : (holds : List KeptHold) (rows : List BlockRow) → Count holds rows → HasHeldBlocks rows (held_blocks holds)
has-held holds rows counts b =
    among-flat (λ (kept : KeptHold). blocks_of (row_range kept.row)) b holds
    ∙ (any-block holds ∙ (any-counted (has_block b) holds ∙ ap (nat_lt 0) (sym (counts b))))
  where
    any-block : (xs : List KeptHold) → list_any (λ (x : KeptHold). is_among b (blocks_of (row_range x.row))) xs ≡ list_any (has_block b) xs
    any-block [] = refl
    any-block (x ∷ xs) =
        ap (λ t. t || list_any (λ (y : KeptHold). is_among b (blocks_of (row_range y.row))) xs) (sym (is_member-among b (blocks_of (row_range x.row))))
        ∙ ap (λ t. has_block b x || t) (any-block xs)

-- and so those of the open holds
pub has-kept : (h : List Effect) (holds : List KeptHold) (rows : List BlockRow) → HoldsStand h holds → Count holds rows → HasHeldBlocks rows (held.held_blocks (holds_of h))
has-kept h holds rows stands counts b = sym (among-held b h holds stands) ∙ has-held holds rows counts b

-- a range is that of its ends
pub range-of : {a b : ℕ} (r : Range) → a ≡ r.from → b ≡ r.to → record { from = a; to = b } ≡ r
range-of r from to = rw (from, to) refl

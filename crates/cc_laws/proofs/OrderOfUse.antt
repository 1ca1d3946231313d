-- The order of use of a stream's view blocks has each mapped block once, and no other.
use Rattle.std.specs.Prelude.{◌≡◌, ℕ, suc, zero, ◌+◌, ◌-◌, ◌*◌, ◌/◌, ◌<◌, Bool, true, false, not, ◌&&◌, ◌||◌, ◌==◌, nat_lt, List, [], ◌∷◌, min, refl}
use Rattle.std.proofs.Common.{ap, ◌∙◌, arith}
use Rattle.std.proofs.lemmas.Bool.{or_left, or_right, lt-ltb, eq-eqb, eqb-true}
use Rattle.std.specs.declared.option.Option.{Option}
use Rattle.std.specs.declared.option.Option.TheVariants.{Some, None}
use Rattle.std.specs.List.{list_any, range_with_len, IsDistinct}
use Rattle.cc_entry.specs.declared.call.Call.TheVariants as call
use Rattle.cc_entry.specs.Pages.{block_of, blocks_of}
use Rattle.cc_model.specs.Numbers.{is_among, without}
use Rattle.cc_model.specs.History.{Effect, Did, CameIn, WentOut, Began, Ended, Synced}
use Rattle.cc_model.specs.Objects.{objects, truncation}
use Rattle.cc_model.specs.Sizes.{stored_range}
use Rattle.cc_model.specs.Ranges.{span_has}
use Rattle.cc_model.specs.Touches.{size_of, is_mapped}
use Rattle.cc_model.specs.Residency.{below, moved_by, residents, block_is_mapped, used_by, used, order_of_use}
use Rattle.cc_laws.specs.Facts.{IsOrderOfMapped}
use Rattle.cc_laws.proofs.ResidencySteps.{residents-mapped, residents-unmapped, order_of_use-effect}
use Rattle.cc_laws.proofs.BlockLists.{is_among-filter, list_any-filter, IsDistinct-filter, IsDistinct-used, is_among-used}

-- a noncached store is of a page below the size
abbrev pub StoresBelow : Effect → List Effect → Type 0
StoresBelow (Did pass (call.NcStore file page bytes) reply) h = 4096 * page < size_of h
StoresBelow other h = Unit {0}

-- whether pages are in the block
abbrev has_block : ℕ → List ℕ → Bool
has_block b pages = list_any (λ p. block_of p == b) pages

-- a page that comes in brings its own block
brought : (b page : ℕ) (pages : List ℕ) → has_block b (page ∷ without page pages) ≡ true → ((block_of page == b) || has_block b pages) ≡ true
brought b page pages some = go (block_of page == b) some
  where
    go : (t : Bool) → (t || has_block b (without page pages)) ≡ true → (t || has_block b pages) ≡ true
    go true some = refl
    go false some = list_any-filter (λ p. block_of p == b) (λ m. not (m == page)) pages some

-- the use of a stored page's blocks begins with its block
stored-first : (page size b : ℕ) → 4096 * page < size → (block_of page == b) ≡ true → is_among b (blocks_of (stored_range page size)) ≡ true
stored-first page size b inside same = rw (lt-ltb (4096 * page) size inside) (go (min (4096 * page + 4096) size) (omega arith))
  where
    head : (len : ℕ) → 0 < len → is_among b (range_with_len (4096 * page / 262144) len) ≡ true
    head zero none = absurd (omega arith)
    head (suc len) some = or_left _ (is_among b (range_with_len (4096 * page / 262144 + 1) len)) (eq-eqb _ _ (scaled ∙ eqb-true (page / 64) b same))
      where
        scaled : 4096 * page / 262144 ≡ page / 64
        scaled = omega arith

    go : (to : ℕ) → 4096 * page < to → is_among b (blocks_of (record { from = 4096 * page; to = to })) ≡ true
    go to below = rw (lt-ltb (4096 * page) to below) (head ((to - 1) / 262144 + 1 - 4096 * page / 262144) (omega arith))

moved-within : (e : Effect) (h : List Effect) (b : ℕ) → StoresBelow e h → has_block b (moved_by e h (residents h)) ≡ true → (is_among b (used_by e h) || block_is_mapped h b) ≡ true
moved-within (Did pass (call.NcStore file page bytes) reply) h b inside some = go (block_of page == b) refl (brought b page (residents h) some)
  where
    go : (t : Bool) → (block_of page == b) ≡ t → (t || block_is_mapped h b) ≡ true → (is_among b (blocks_of (stored_range page (size_of h))) || block_is_mapped h b) ≡ true
    go true same was = or_left _ (block_is_mapped h b) (stored-first page (size_of h) b inside same)
    go false other was = or_right (is_among b (blocks_of (stored_range page (size_of h)))) _ was
moved-within (Did pass (call.Uninitialise file truncate) reply) h b inside some =
    or_right (is_among b (used_by (Did pass (call.Uninitialise file truncate) reply) h)) _ (go (truncation (objects h) (size_of h) file truncate) some)
  where
    go : (o : Option ℕ) → has_block b (below o (residents h)) ≡ true → block_is_mapped h b ≡ true
    go None some = some
    go (Some to) some = list_any-filter (λ p. block_of p == b) (λ p. nat_lt (4096 * p) to) (residents h) some
moved-within (Did pass (call.SetSizes file allocation size) reply) h b inside some =
    or_right (is_among b (used_by (Did pass (call.SetSizes file allocation size) reply) h)) _ (list_any-filter (λ p. block_of p == b) (λ p. nat_lt (4096 * p) size) (residents h) some)
moved-within (Did pass (call.Discard file span) reply) h b inside some =
    or_right (is_among b (used_by (Did pass (call.Discard file span) reply) h)) _ (list_any-filter (λ p. block_of p == b) (λ p. not (span_has span p)) (residents h) some)
moved-within (Did pass (call.PreparePin file at len true exclusive) reply) h b inside some =
    or_right (is_among b (used_by (Did pass (call.PreparePin file at len true exclusive) reply) h)) _ some
moved-within (Did pass call reply) h b inside some = or_right (is_among b (used_by (Did pass call reply) h)) _ some
moved-within (CameIn pass page from_disk) h b inside some = go (block_of page == b) (brought b page (residents h) some)
  where
    go : (t : Bool) → (t || block_is_mapped h b) ≡ true → ((t || false) || block_is_mapped h b) ≡ true
    go true was = refl
    go false was = was
moved-within (WentOut pass page) h b inside some = list_any-filter (λ p. block_of p == b) (λ m. not (m == page)) (residents h) some
moved-within (Began pass page) h b inside some = some
moved-within (Ended pass page how) h b inside some = some
moved-within (Synced pass how) h b inside some = some

-- a block that is mapped now was used by the effect, or was mapped before
mapped-used : (e : Effect) (h : List Effect) (b : ℕ) → StoresBelow e h → block_is_mapped (e ∷ h) b ≡ true → (is_among b (used_by e h) || block_is_mapped h b) ≡ true
mapped-used e h b inside some = go (is_mapped (e ∷ h)) refl
  where
    go : (t : Bool) → is_mapped (e ∷ h) ≡ t → (is_among b (used_by e h) || block_is_mapped h b) ≡ true
    go true is = moved-within e h b inside (rw (residents-mapped e h is) at some)
    go false is = let none : false ≡ true = rw (residents-unmapped (e ∷ h) is) at some in absurd (cc)

pub IsOrderOfMapped-none : IsOrderOfMapped []
unfolding order_of_use residents IsDistinct
IsOrderOfMapped-none = record { distinct = tt; mapped = λ b. refl }

pub IsOrderOfMapped-effect : (e : Effect) (h : List Effect) → StoresBelow e h → IsOrderOfMapped h → IsOrderOfMapped (e ∷ h)
IsOrderOfMapped-effect e h inside before = record {
  distinct = rw (order_of_use-effect e h) (IsDistinct-filter _ _ (IsDistinct-used (used_by e h) (order_of_use h) before.distinct));
  mapped = λ b. ap (is_among b) (order_of_use-effect e h) ∙ (is_among-filter (block_is_mapped (e ∷ h)) b (used (used_by e h) (order_of_use h)) ∙ (ap (λ t. t && block_is_mapped (e ∷ h) b) (is_among-used b (used_by e h) (order_of_use h) ∙ ap (λ t. is_among b (used_by e h) || t) (before.mapped b)) ∙ both (is_among b (used_by e h) || block_is_mapped h b) (block_is_mapped (e ∷ h) b) (mapped-used e h b inside)));
}
  where
    both : (x y : Bool) → (y ≡ true → x ≡ true) → (x && y) ≡ y
    both true y so = refl
    both false true so = so refl
    both false false so = refl

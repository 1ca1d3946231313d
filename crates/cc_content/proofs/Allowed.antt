-- What is required of the pages that are kept follows from what a call is allowed on.
use Rattle.std.proofs.Common.{◌≡◌, ℕ, suc, ◌*◌, ◌<◌, ◌≤◌, ◌⊎◌, inl, inr, Bool, true, false, ◌||◌, ◌==◌, nat_eq, List, [], ◌∷◌, length, map, Option, Some, refl, sym, ap, ◌∙◌, true≢false, arith}
use Rattle.std.proofs.lemmas.Map.Made.{distinct_count-from_IsDistinct}
use Rattle.std.specs.Cmp.{nat_eq_equiv}
use Rattle.std.specs.List.{list_any, IsDistinct, AllByRecursion}
use Rattle.std.specs.Set.{distinct_count, is_member}
use Rattle.cc_entry.specs.Pages.{block_of, pages_of}
use Rattle.cc_entry.specs.Place.{File, Range}
use Rattle.cc_views.specs.Views.{MappedViews}
use Rattle.cc_resident.specs.Residents.{blocks, is_resident as is_kept, all_resident as all_kept, all_mapped}
use Rattle.cc_model.specs.History.{Effect}
use Rattle.cc_model.specs.Numbers.{is_among}
use Rattle.cc_model.specs.Objects.{objects, truncation}
use Rattle.cc_model.specs.Residency.{residents, is_resident, all_resident, block_is_mapped, order_of_use, mapped_blocks_with}
use Rattle.cc_model.specs.Settings.{quota_of}
use Rattle.cc_model.specs.Touches.{size_of}
use Rattle.cc_laws.proofs.BlockLists.{same-flip}
use Rattle.cc_laws.proofs.BlockPages.{is_member-among}
use Rattle.cc_laws.proofs.Lists1.{count-le}
use Rattle.cc_laws.proofs.SizeFacts.{truncation-last}
use Rattle.cc_content.specs.Contents.{PagesStand}
use Rattle.cc_content.proofs.KeptBlocks.{kept-all_mapped, all_weaker, all_among, order-mapped}

-- a block that has a page is one of the blocks of the pages
block-of-some : (b : ℕ) (ps : List ℕ) → list_any (λ p. block_of p == b) ps ≡ true
    → is_among b (map block_of ps) ≡ true
block-of-some b [] some = some
block-of-some b (p ∷ ps) some = by (block_of p == b) some (block-of-some b ps)
  where
    by : (t : Bool) → (t || list_any (λ q. block_of q == b) ps) ≡ true
        → (list_any (λ q. block_of q == b) ps ≡ true → is_among b (map block_of ps) ≡ true)
        → (t || is_among b (map block_of ps)) ≡ true
    by true k rest = refl
    by false k rest = rest k

apart : (b : ℕ) (xs : List ℕ) → is_among b xs ≡ false → AllByRecursion (λ x. nat_eq b x ≡ false) xs
apart b [] absent = tt
apart b (x ∷ xs) absent = by (x == b) refl absent (apart b xs)
  where
    by : (t : Bool) → (x == b) ≡ t → (t || is_among b xs) ≡ false
        → (is_among b xs ≡ false → AllByRecursion (λ y. nat_eq b y ≡ false) xs)
        → AllByRecursion (λ y. nat_eq b y ≡ false) (x ∷ xs)
    by true e k rest = absurd (true≢false k)
    by false e k rest = (same-flip b x ∙ e, rest k)

IsDistinct-more : (b : ℕ) (xs : List ℕ) → is_among b xs ≡ false → IsDistinct nat_eq xs
    → IsDistinct nat_eq (b ∷ xs)
unfolding IsDistinct
IsDistinct-more b xs absent distinct = (apart b xs absent, distinct)

module _ (opening : Option (ℕ → List ℕ)) (h : List Effect) (m : MappedViews)
    (stands : PagesStand opening h m) where
  -- each page of a range is kept, where each is resident
  pub all_kept-resident : (r : Range) → all_resident h r ≡ true → all_kept m r ≡ true
  all_kept-resident r all =
      all_weaker (is_resident h) (is_kept m) (pages_of r) (λ p is. stands.resident p ∙ is) all

  -- and each of its view blocks is mapped
  pub all_mapped-resident : (r : Range) → all_resident h r ≡ true → all_mapped m r ≡ true
  all_mapped-resident r all = kept-all_mapped m r (all_kept-resident r all)

  -- a page that starts below the size of the stream
  pub starts-below : (page : ℕ) → 4096 * page < size_of h → 4096 * page < m.size
  starts-below page below = omega (arith, stands.size, below)

  -- the size that an uninitialise sets is below that of the pages
  pub truncation-within : (file : File) (truncate : Option ℕ) (size : ℕ)
      → truncation (objects h) (size_of h) file truncate ≡ Some size → size ≤ m.size
  truncation-within file truncate size cut =
      omega (arith, stands.size, (truncation-last (objects h) (size_of h) file truncate size cut).1)

  -- there is room for the block of a page where the quota has room for the page
  pub room-for : (page : ℕ) → IsDistinct nat_eq (blocks m) → mapped_blocks_with h page ≤ quota_of h
      → (is_among (block_of page) (blocks m) ≡ true) ⊎ (length (blocks m) < m.quota)
  room-for page distinct within = by (is_among (block_of page) (blocks m)) refl
    where
      b : ℕ
      b = block_of page

      known : (q : ℕ) → is_member nat_eq (b ∷ blocks m) q ≡ true
          → is_member nat_eq (b ∷ map block_of (residents h)) q ≡ true
      known q is = by_first (nat_eq q b) is
        where
          there : is_member nat_eq (blocks m) q ≡ true → is_among q (order_of_use h) ≡ true
          there k = sym (ap (is_among q) stands.order) ∙ sym (is_member-among q (blocks m)) ∙ k

          by_first : (t : Bool) → (t || is_member nat_eq (blocks m) q) ≡ true
              → (t || is_member nat_eq (map block_of (residents h)) q) ≡ true
          by_first true k = refl
          by_first false k =
              is_member-among q (map block_of (residents h))
              ∙ block-of-some q (residents h)
              (all_among (block_is_mapped h) q (order_of_use h) (order-mapped h) (there k))

      by : (t : Bool) → is_among b (blocks m) ≡ t
          → (is_among b (blocks m) ≡ true) ⊎ (length (blocks m) < m.quota)
      by true there = inl there
      by false absent =
          let few : distinct_count nat_eq (b ∷ blocks m) ≤ distinct_count nat_eq (b ∷ map block_of (residents h)) =
          count-le (b ∷ blocks m) (b ∷ map block_of (residents h)) known in
          let whole : distinct_count nat_eq (b ∷ blocks m) ≡ suc (length (blocks m)) =
          distinct_count-from_IsDistinct nat_eq_equiv (b ∷ blocks m)
          (IsDistinct-more b (blocks m) absent distinct) in
          inr (fits (length (blocks m)) _ _ _ _ whole few within stands.quota)
        where
          fits : (n count other quota kept : ℕ) → count ≡ suc n → count ≤ other → other ≤ quota → kept ≡ quota
              → n < kept
          fits n count other quota kept a b c d = omega arith

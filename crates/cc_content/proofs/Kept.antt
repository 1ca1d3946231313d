-- Resident pages that stand for a history, and what stands for no map.
use Rattle.std.specs.Prelude.{◌≡◌, ℕ, zero, suc, ◌+◌, ◌-◌, ◌*◌, ◌/◌, ◌%◌, ◌<◌, ◌≤◌, Bool, true, false, not, ◌==◌, nat_eq, nat_lt, List, [], length, slice_index, slice_index_or, Option, None, Some, is_some, option_and_then, IfSome, refl}
use Rattle.std.proofs.Common.{ap, sym, subst, ◌∙◌, arith, true≢false, inl, inr, ◌⊎◌, if◌then◌else◌}
use Rattle.std.proofs.lemmas.Bool.{eqb-true, eq-eqb, ltb-true}
use Rattle.std.proofs.lemmas.Map.Made.{is_some-lookup}
use Rattle.std.specs.List.{find, list_any, list_all, range_with_len, IsDistinct}
use Rattle.std.specs.Bool.{then_some}
use Rattle.std.specs.Map.{keys_of}
use Rattle.std.specs.Option.{option_map}
use Rattle.cc_entry.specs.Pages.{block_of, pages_of}
use Rattle.cc_pages.specs.Pages.{PageFrame, page_at as page_in}
use Rattle.cc_views.specs.Views.{MappedViews, ViewFrames, frames_at}
use Rattle.cc_resident.specs.Residents.{frame_at, page_bytes_at, byte_at, is_resident as is_kept, blocks, has_pages, pages_in_block}
use Rattle.cc_model.specs.Numbers.{is_among}
use Rattle.cc_model.specs.History.{Effect}
use Rattle.cc_model.specs.Conditions.{MayComeIn}
use Rattle.cc_model.specs.Touches.{is_mapped}
use Rattle.cc_model.specs.Settings.{quota_of}
use Rattle.cc_model.specs.Residency.{residents, is_resident, block_is_mapped, mapped_block_count, mapped_blocks_with, order_of_use}
use Rattle.cc_laws.proofs.BlockPages.{is_member-among}
use Rattle.cc_laws.proofs.Lists1.{among-all, among-any, among-range}
use Rattle.cc_content.specs.Contents.{Contents, ContentsStand, MapStands, PagesStand, IsByteOfContents}
use Rattle.cc_content.specs.Filling.{HasRoomAmong, HasRoomToKeepPage}
use Rattle.cc_content.proofs.Found.{same_answer, Found-any, among-within}
use Rattle.cc_content.proofs.Orders.{is_resident-unmapped, length-mapped, length-with}

-- the two cases of what stands
pub pages_stand : (opening : Option (ℕ → List ℕ)) (h : List Effect) (c : Contents) (m : MappedViews) → ContentsStand opening h c → c.pages ≡ Some m → PagesStand opening h m
pages_stand opening h c m stands is = subst (MapStands opening h) is stands.map_is

pub no_map : (opening : Option (ℕ → List ℕ)) (h : List Effect) (c : Contents) → ContentsStand opening h c → c.pages ≡ None → is_mapped h ≡ false
no_map opening h c stands is = subst (MapStands opening h) is stands.map_is

-- a block has a kept page where it is mapped
pub has_pages-mapped : (m : MappedViews) (h : List Effect) → ((p : ℕ) → is_kept m p ≡ is_resident h p) → (b : ℕ) → has_pages m b ≡ block_is_mapped h b
unfolding has_pages
has_pages-mapped m h same b = same_answer (list_any (is_kept m) (pages_in_block b)) (block_is_mapped h b) goes comes
  where
    goes : list_any (is_kept m) (range_with_len (64 * b) 64) ≡ true → block_is_mapped h b ≡ true
    goes some =
        let found = Found-any (is_kept m) (range_with_len (64 * b) 64) some in
        let within = among-within found.at (64 * b) 64 found.among in
        let here : block_of found.at ≡ b = block_is found.at within.0 within.1 in
        among-any (λ p. block_of p == b) found.at (residents h) (sym (same found.at) ∙ found.passes) (eq-eqb (block_of found.at) b here)
      where
        block_is : (p : ℕ) → 64 * b ≤ p → p < 64 * b + 64 → p / 64 ≡ b
        block_is p low high = omega arith

    comes : block_is_mapped h b ≡ true → list_any (is_kept m) (range_with_len (64 * b) 64) ≡ true
    comes some =
        let found = Found-any (λ p. block_of p == b) (residents h) some in
        among-any (is_kept m) found.at (range_with_len (64 * b) 64) (within found.at (eqb-true (block_of found.at) b found.passes)) (same found.at ∙ found.among)
      where
        within : (p : ℕ) → p / 64 ≡ b → is_among p (range_with_len (64 * b) 64) ≡ true
        within p is = among-range p (64 * b) 64 (omega arith) (omega arith)

-- the block of a kept page is among the mapped ones
among-blocks : (m : MappedViews) (p : ℕ) → is_kept m p ≡ true → is_among (block_of p) (blocks m) ≡ true
unfolding page_bytes_at frame_at
among-blocks m p kept = sym (is_member-among (block_of p) (keys_of m.views)) ∙ (sym (is_some-lookup (nat_eq (block_of p)) m.views) ∙ go (frames_at m (block_of p)) kept)
  where
    go : (o : Option ViewFrames) → is_some (option_map (λ (frame : PageFrame). frame.bytes) (option_and_then (λ (frames : ViewFrames). page_in frames (p % 64)) o)) ≡ true → is_some o ≡ true
    go None some = some
    go (Some frames) some = refl

-- so the mapped blocks are those of the history
pub among-mapped : (m : MappedViews) (h : List Effect) → ((p : ℕ) → is_kept m p ≡ is_resident h p) → list_all (has_pages m) (blocks m) ≡ true → (b : ℕ) → is_among b (blocks m) ≡ block_is_mapped h b
among-mapped m h same all b = same_answer (is_among b (blocks m)) (block_is_mapped h b) goes comes
  where
    goes : is_among b (blocks m) ≡ true → block_is_mapped h b ≡ true
    goes some = sym (has_pages-mapped m h same b) ∙ among-all (has_pages m) b (blocks m) all some

    comes : block_is_mapped h b ≡ true → is_among b (blocks m) ≡ true
    comes some =
        let found = Found-any (λ p. block_of p == b) (residents h) some in
        sym (ap (λ k. is_among k (blocks m)) (eqb-true (block_of found.at) b found.passes)) ∙ among-blocks m found.at (same found.at ∙ found.among)

pub count-mapped : (opening : Option (ℕ → List ℕ)) (h : List Effect) (m : MappedViews) → PagesStand opening h m → IsDistinct nat_eq (blocks m) → list_all (has_pages m) (blocks m) ≡ true → length (blocks m) ≡ mapped_block_count h
count-mapped opening h m stands distinct all = length-mapped h (blocks m) distinct (among-mapped m h stands.resident all)

-- the bytes of a kept page
pub byte_at-is : (m : MappedViews) (page i : ℕ) (bytes : List ℕ) → page_bytes_at m page ≡ Some bytes → i < 4096 → byte_at m (4096 * page + i) ≡ Some (slice_index bytes i)
unfolding byte_at
byte_at-is m page i bytes is below =
    let there : (4096 * page + i) / 4096 ≡ page = omega arith in
    let at : (4096 * page + i) % 4096 ≡ i = omega arith in
    ap (option_map (λ bs. slice_index_or bs ((4096 * page + i) % 4096) 0)) (ap (page_bytes_at m) there ∙ is) ∙ ap (λ k. Some (slice_index_or bytes k 0)) at

pub bytes-are : {R : Type 0} (bytes_of : R → List ℕ) (r : Option R) (opening : Option (ℕ → List ℕ)) (h : List Effect) (m : MappedViews) (page : ℕ) → PagesStand opening h m → option_map bytes_of r ≡ page_bytes_at m page → IfSome r (λ x. (i : ℕ) → i < 4096 → IsByteOfContents opening h (4096 * page + i) (slice_index (bytes_of x) i))
bytes-are bytes_of None opening h m page stands is = tt
bytes-are bytes_of (Some x) opening h m page stands is =
    λ i below. stands.bytes (4096 * page + i) (slice_index (bytes_of x) i) (byte_at-is m page i (bytes_of x) (sym is) below)

-- with no map the first page of a range is absent
pub first_absent-unmapped : (h : List Effect) (from to : ℕ) → is_mapped h ≡ false → find (λ p. not (is_resident h p)) (pages_of (record { from = from; to = to })) ≡ then_some (nat_lt from to) (from / 4096)
first_absent-unmapped h from to unmapped = go (nat_lt from to) refl
  where
    absent : (p : ℕ) → not (is_resident h p) ≡ true
    absent p = ap not (is_resident-unmapped h p unmapped)

    first : (n len : ℕ) → 0 < len → find (λ p. not (is_resident h p)) (range_with_len n len) ≡ Some n
    first n zero some = absurd (omega arith)
    first n (suc len) some = ap (λ t. if t then Some n else find (λ p. not (is_resident h p)) (range_with_len (n + 1) len)) (absent n)

    go : (t : Bool) → nat_lt from to ≡ t → find (λ p. not (is_resident h p)) (if t then range_with_len (from / 4096) ((to - 1) / 4096 + 1 - from / 4096) else []) ≡ then_some t (from / 4096)
    go true is = let less = ltb-true from to is in first (from / 4096) ((to - 1) / 4096 + 1 - from / 4096) (omega arith)
    go false is = refl

-- a page that may come in has room
room-among : (opening : Option (ℕ → List ℕ)) (h : List Effect) (o : Option MappedViews) (page : ℕ) (from_disk : Bool) → MapStands opening h o → MayComeIn h page from_disk → HasRoomAmong o page
room-among opening h None page from_disk stands may = true≢false (sym may.mapped ∙ stands)
room-among opening h (Some m) page from_disk stands may =
    record {
      starts = rw stands.size may.below_size;
      room = go (is_among (block_of page) (blocks m)) refl;
    }
  where
    fewer : (n with_it quota : ℕ) → n < with_it → with_it ≤ quota → n < quota
    fewer n with_it quota a b = omega arith

    go : (t : Bool) → is_among (block_of page) (blocks m) ≡ t → (is_among (block_of page) (blocks m) ≡ true) ⊎ (length (blocks m) < m.quota)
    go true is = inl is
    go false is =
        inr (rw (stands.order, stands.quota) (fewer (length (order_of_use h)) (mapped_blocks_with h page) (quota_of h) (length-with h page (sym (ap (is_among (block_of page)) stands.order) ∙ is)) may.in_quota))

pub room-may_come_in : (opening : Option (ℕ → List ℕ)) (h : List Effect) (c : Contents) (page : ℕ) (from_disk : Bool) → ContentsStand opening h c → MayComeIn h page from_disk → HasRoomToKeepPage c page
room-may_come_in opening h c page from_disk stands may = room-among opening h c.pages page from_disk stands.map_is may

-- How what is kept of a stream's contents steps.
use Rattle.std.specs.Prelude.{◌≡◌, ℕ, ◌+◌, ◌-◌, ◌*◌, ◌/◌, ◌%◌, ◌<◌, ◌≤◌, Bool, true, false, not, ◌&&◌, ◌||◌, ◌==◌, nat_lt, List, [], ◌∷◌, slice_index, slice_index_or, Option, None, Some, is_some, refl}
use Rattle.std.proofs.Common.{ap, sym, subst, ◌∙◌, arith, true≢false}
use Rattle.std.proofs.lemmas.Bool.{or_parts, or_from, eqb-true, eqb-false, ltb-true, ltb-false}
use Rattle.std.specs.List.{filter, list_any}
use Rattle.std.specs.Option.{option_map}
use Rattle.cc_entry.specs.Pages.{block_of}
use Rattle.cc_entry.specs.declared.entry.End.{End}
use Rattle.cc_views.specs.Views.{MappedViews}
use Rattle.cc_resident.specs.Residents.{page_bytes_at, byte_at, is_resident as is_kept, blocks, has_pages, used}
use Rattle.cc_resident.specs.Changes.{KeepsOthers}
use Rattle.cc_model.specs.Bytes.{byte_of}
use Rattle.cc_model.specs.Numbers.{is_empty, is_among}
use Rattle.cc_entry.specs.Place.{File}
use Rattle.cc_entry.specs.declared.place.FileSizes.{FileSizes}
use Rattle.cc_entry.specs.declared.call.Call.{Call}
use Rattle.cc_entry.specs.declared.reply.Reply.{Reply}
use Rattle.cc_entry.specs.declared.call.Call.TheVariants as call
use Rattle.cc_model.specs.History.{Effect, Did, CameIn, WentOut, Began, Ended, Synced}
use Rattle.cc_model.specs.Objects.{objects}
use Rattle.cc_model.specs.Sizes.{Sizes, Touch, ended_ok}
use Rattle.cc_model.specs.Touches.{touched, touches, sizes, valid_of, is_dirty, is_mapped}
use Rattle.cc_model.specs.Residency.{residents, is_resident, block_is_mapped}
use Rattle.cc_laws.proofs.MapGone.{touches-since}
use Rattle.cc_laws.proofs.MapSteps.{is_mapped-opens, is_mapped-came_in, is_mapped-went_out, is_mapped-began, is_mapped-synced}
use Rattle.cc_laws.proofs.SizeSteps.{sizes-opens_mapped, sizes-opens_anew, sizes-came_in, sizes-went_out, sizes-began, sizes-ended, sizes-synced}
use Rattle.cc_laws.proofs.QuotaSteps.{quota_of-opens_mapped, quota_of-opens_anew, quota_of-came_in, quota_of-went_out, quota_of-began, quota_of-ended, quota_of-synced}
use Rattle.cc_laws.proofs.ByteSteps.{content-opens, byte_of-above, byte_of-same, byte_of-came_in, byte_of-went_out, byte_of-began, byte_of-ended, byte_of-synced}
use Rattle.cc_laws.proofs.PlacesResident.{among-in, among-without}
use Rattle.cc_laws.proofs.ResidencySteps.{residents-unmapped, residents-opens, residents-came_in, residents-went_out, residents-began, residents-ended, residents-synced, order_of_use-came_in, order_of_use-went_out, order_of_use-began, order_of_use-ended, order_of_use-synced, order_of_use-unused}
use Rattle.cc_content.specs.Contents.{Contents, ContentsStand, MapStands, PagesStand, IsByteOfContents}
use Rattle.cc_content.specs.Filling.{IsReadFrom, IsClearedFrom, Fills}
use Rattle.cc_content.specs.Leaves.{LeavesContents}
use Rattle.cc_content.proofs.Found.{filter-all, filter-same}
use Rattle.cc_content.proofs.Orders.{order_of_use-none}
use Rattle.cc_content.proofs.Kept.{pages_stand, no_map, has_pages-mapped}

-- a byte of a history is one of another that says the same of it
pub IsByteOf-same : (opening : Option (ℕ → List ℕ)) (h g : List Effect) (i byte : ℕ) → valid_of g ≡ valid_of h → ((pages : ℕ → List ℕ) → byte_of pages g i ≡ byte_of pages h i) → IsByteOfContents opening h i byte → IsByteOfContents opening g i byte
IsByteOf-same None h g i byte valid same is = λ past. is (subst (λ n. n ≤ i) valid past)
IsByteOf-same (Some pages) h g i byte valid same is = is ∙ sym (same pages)

-- pages that stand for a history stand for a later one that left them
pub PagesStand-left : (opening : Option (ℕ → List ℕ)) (h g : List Effect) (m : MappedViews) → LeavesContents h g → is_mapped g ≡ true → PagesStand opening h m → PagesStand opening g m
PagesStand-left opening h g m left mapped stands =
    record {
      mapped = mapped;
      quota = stands.quota ∙ sym left.quota;
      size = stands.size ∙ sym (ap (λ (s : Sizes). s.size) left.sizes);
      resident = λ p. stands.resident p ∙ sym (ap (is_among p) (left.residents mapped));
      order = stands.order ∙ sym (left.order mapped);
      bytes = λ i byte there. IsByteOf-same opening h g i byte (ap (λ (s : Sizes). s.valid) left.sizes) (λ pages. left.bytes pages i) (stands.bytes i byte there);
    }

MapStands-left : (opening : Option (ℕ → List ℕ)) (h g : List Effect) (o : Option MappedViews) → LeavesContents h g → is_mapped g ≡ is_mapped h → MapStands opening h o → MapStands opening g o
MapStands-left opening h g None left same stands = same ∙ stands
MapStands-left opening h g (Some m) left same stands = PagesStand-left opening h g m left (same ∙ stands.mapped) stands

-- what is kept stands for a later history that left it, and its map
pub stands-left : (opening : Option (ℕ → List ℕ)) (h g : List Effect) (c : Contents) → LeavesContents h g → is_mapped g ≡ is_mapped h → ContentsStand opening h c → ContentsStand opening g c
stands-left opening h g c left same stands =
    record {
      valid_is = stands.valid_is ∙ sym (ap (λ (s : Sizes). s.valid) left.sizes);
      map_is = MapStands-left opening h g c.pages left same stands.map_is;
    }

-- and without its pages for one in which the map is gone
pub stands-gone : (opening : Option (ℕ → List ℕ)) (h g : List Effect) (c : Contents) → LeavesContents h g → is_mapped g ≡ false → ContentsStand opening h c → ContentsStand opening g (record { valid = c.valid; pages = None })
stands-gone opening h g c left gone stands =
    record { valid_is = stands.valid_is ∙ sym (ap (λ (s : Sizes). s.valid) left.sizes); map_is = gone }

-- a map that is there was there
pub mapped-before : (h g : List Effect) → LeavesContents h g → is_mapped g ≡ true → is_mapped g ≡ is_mapped h
mapped-before h g left mapped = go (is_mapped h) refl
  where
    go : (t : Bool) → is_mapped h ≡ t → is_mapped g ≡ is_mapped h
    go true is = mapped ∙ sym is
    go false is = absurd (true≢false (sym mapped ∙ left.gone is))

-- the begin of a transfer and a sync leave everything
pub leaves-began : (pass page : ℕ) (h : List Effect) → LeavesContents h (Began pass page ∷ h)
leaves-began pass page h =
    record {
      gone = λ gone. is_mapped-began pass page h ∙ gone;
      quota = quota_of-began pass page h;
      sizes = sizes-began pass page h;
      residents = λ _. residents-began pass page h;
      order = λ _. order_of_use-began pass page h;
      bytes = λ pages i. byte_of-began pages pass page h i;
    }

pub leaves-synced : (pass : ℕ) (how : End) (h : List Effect) → LeavesContents h (Synced pass how ∷ h)
leaves-synced pass how h =
    record {
      gone = λ gone. is_mapped-synced pass how h ∙ gone;
      quota = quota_of-synced pass how h;
      sizes = sizes-synced pass how h;
      residents = λ _. residents-synced pass how h;
      order = λ _. order_of_use-synced pass how h;
      bytes = λ pages i. byte_of-synced pages pass how h i;
    }

pub stands-began : (opening : Option (ℕ → List ℕ)) (pass page : ℕ) (h : List Effect) (c : Contents) → ContentsStand opening h c → ContentsStand opening (Began pass page ∷ h) c
stands-began opening pass page h c stands =
    stands-left opening h (Began pass page ∷ h) c (leaves-began pass page h) (is_mapped-began pass page h) stands

pub stands-synced : (opening : Option (ℕ → List ℕ)) (pass : ℕ) (how : End) (h : List Effect) (c : Contents) → ContentsStand opening h c → ContentsStand opening (Synced pass how ∷ h) c
stands-synced opening pass how h c stands =
    stands-left opening h (Synced pass how ∷ h) c (leaves-synced pass how h) (is_mapped-synced pass how h) stands

-- the end of a transfer makes no page dirty, so it makes no map
is_dirty-ended : (pass page : ℕ) (how : End) (h : List Effect) (p : ℕ) → is_dirty h p ≡ false → is_dirty (Ended pass page how ∷ h) p ≡ false
unfolding touches
is_dirty-ended pass page how h p clean = go (touches false h p) refl clean (page == p && ended_ok how)
  where
    go : (ts : List Touch) → touches false h p ≡ ts → not (is_empty ts) ≡ false → (b : Bool) → not (is_empty (touches b h p)) ≡ false
    go [] is clean true = rw (touches-since h p is) refl
    go [] is clean false = rw is refl
    go (t ∷ ts) is clean b = absurd (true≢false clean)

none-dirty : (pass page : ℕ) (how : End) (h : List Effect) (ps : List ℕ) → list_any (is_dirty h) ps ≡ false → list_any (is_dirty (Ended pass page how ∷ h)) ps ≡ false
none-dirty pass page how h [] none = refl
none-dirty pass page how h (p ∷ ps) none =
    let parts = or_parts (is_dirty h p) (list_any (is_dirty h) ps) none in
    or_from (is_dirty (Ended pass page how ∷ h) p) (list_any (is_dirty (Ended pass page how ∷ h)) ps) (is_dirty-ended pass page how h p parts.0) (none-dirty pass page how h ps parts.1)

is_mapped-ended_gone : (pass page : ℕ) (how : End) (h : List Effect) → is_mapped h ≡ false → is_mapped (Ended pass page how ∷ h) ≡ false
unfolding objects touched
is_mapped-ended_gone pass page how h gone =
    let parts = or_parts (not (is_empty (objects h))) (list_any (is_dirty h) (touched h)) gone in
    or_from (not (is_empty (objects h))) (list_any (is_dirty (Ended pass page how ∷ h)) (touched h)) parts.0 (none-dirty pass page how h (touched h) parts.1)

pub leaves-ended : (pass page : ℕ) (how : End) (h : List Effect) → LeavesContents h (Ended pass page how ∷ h)
leaves-ended pass page how h =
    record {
      gone = is_mapped-ended_gone pass page how h;
      quota = quota_of-ended pass page how h;
      sizes = sizes-ended pass page how h;
      residents = residents-ended pass page how h;
      order = order_of_use-ended pass page how h;
      bytes = λ pages i. byte_of-ended pages pass page how h i;
    }

-- an initialise that joins the map leaves everything
pub leaves-joined : (pass : ℕ) (file : File) (given : FileSizes) (quota : ℕ) (temporary : Bool) (reply : Reply) (h : List Effect) → is_mapped h ≡ true → LeavesContents h (Did pass (call.Initialise file given quota temporary) reply ∷ h)
leaves-joined pass file given quota temporary reply h mapped =
    record {
      gone = λ gone. absurd (true≢false (sym mapped ∙ gone));
      quota = quota_of-opens_mapped pass initialise reply h refl mapped;
      sizes = same_sizes;
      residents = λ _. residents-opens pass initialise reply h refl;
      order = λ _. order_of_use-unused pass initialise reply h refl (residents-opens pass initialise reply h refl);
      bytes = λ pages i. byte_of-same pages (Did pass initialise reply ∷ h) h i same_sizes (content-opens pages pass initialise reply h i refl);
    }
  where
    initialise : Call
    initialise = call.Initialise file given quota temporary

    same_sizes : sizes (Did pass initialise reply ∷ h) ≡ sizes h
    same_sizes = sizes-opens_mapped pass initialise reply h refl mapped

pub stands-joined : (opening : Option (ℕ → List ℕ)) (pass : ℕ) (file : File) (given : FileSizes) (quota : ℕ) (temporary : Bool) (reply : Reply) (h : List Effect) (c : Contents) → is_mapped h ≡ true → ContentsStand opening h c → ContentsStand opening (Did pass (call.Initialise file given quota temporary) reply ∷ h) c
stands-joined opening pass file given quota temporary reply h c mapped stands =
    stands-left opening h (Did pass (call.Initialise file given quota temporary) reply ∷ h) c (leaves-joined pass file given quota temporary reply h mapped) (is_mapped-opens pass (call.Initialise file given quota temporary) reply h refl ∙ sym mapped) stands

-- a page went out
page-gone : (m n : MappedViews) (page : ℕ) → page_bytes_at n page ≡ None → KeepsOthers m n page → (i byte : ℕ) → byte_at n i ≡ Some byte → byte_at m i ≡ Some byte
unfolding byte_at
page-gone m n page none others i byte there = go (i / 4096 == page) refl
  where
    byte_in : Option (List ℕ) → Option ℕ
    byte_in o = option_map (λ bytes. slice_index_or bytes (i % 4096) 0) o

    go : (t : Bool) → (i / 4096 == page) ≡ t → option_map (λ bytes. slice_index_or bytes (i % 4096) 0) (page_bytes_at m (i / 4096)) ≡ Some byte
    go true is =
        let gone : page_bytes_at n (i / 4096) ≡ None = ap (page_bytes_at n) (eqb-true (i / 4096) page is) ∙ none in
        absurd (true≢false (sym (ap is_some (sym (ap (option_map (λ bytes. slice_index_or bytes (i % 4096) 0)) gone) ∙ there))))
    go false is = ap (option_map (λ bytes. slice_index_or bytes (i % 4096) 0)) (sym (others (i / 4096) (eqb-false (i / 4096) page is))) ∙ there

pub PagesStand-went_out : (opening : Option (ℕ → List ℕ)) (pass page : ℕ) (h : List Effect) (m n : MappedViews) → PagesStand opening h m → page_bytes_at n page ≡ None → KeepsOthers m n page → blocks n ≡ filter (has_pages n) (blocks m) → n.quota ≡ m.quota → n.size ≡ m.size → PagesStand opening (WentOut pass page ∷ h) n
PagesStand-went_out opening pass page h m n stands none others left quota size =
    record {
      mapped = is_mapped-went_out pass page h ∙ stands.mapped;
      quota = quota ∙ (stands.quota ∙ sym (quota_of-went_out pass page h));
      size = size ∙ (stands.size ∙ sym (ap (λ (s : Sizes). s.size) (sizes-went_out pass page h)));
      resident = resident;
      order = left ∙ (filter-same (has_pages n) (block_is_mapped (WentOut pass page ∷ h)) (blocks m) (has_pages-mapped n (WentOut pass page ∷ h) resident) ∙ (ap (filter (block_is_mapped (WentOut pass page ∷ h))) stands.order ∙ sym (order_of_use-went_out pass page h)));
      bytes = λ i byte there. IsByteOf-same opening h (WentOut pass page ∷ h) i byte (ap (λ (s : Sizes). s.valid) (sizes-went_out pass page h)) (λ pages. byte_of-went_out pages pass page h i) (stands.bytes i byte (page-gone m n page none others i byte there));
    }
  where
    resident : (p : ℕ) → is_kept n p ≡ is_resident (WentOut pass page ∷ h) p
    resident p = go (page == p) refl ∙ sym (ap (is_among p) (residents-went_out pass page h) ∙ among-without page p (residents h))
      where
        go : (t : Bool) → (page == p) ≡ t → is_kept n p ≡ (not (page == p) && is_among p (residents h))
        go true is = ap is_some (ap (page_bytes_at n) (sym (eqb-true page p is)) ∙ none) ∙ ap (λ b. not b && is_among p (residents h)) (sym is)
        go false is = ap is_some (others p (λ e. eqb-false page p is (sym e))) ∙ (stands.resident p ∙ ap (λ b. not b && is_among p (residents h)) (sym is))

pub stands-went_out : (opening : Option (ℕ → List ℕ)) (pass page : ℕ) (h : List Effect) (c : Contents) (m n : MappedViews) → ContentsStand opening h c → c.pages ≡ Some m → page_bytes_at n page ≡ None → KeepsOthers m n page → blocks n ≡ filter (has_pages n) (blocks m) → n.quota ≡ m.quota → n.size ≡ m.size → ContentsStand opening (WentOut pass page ∷ h) (record { valid = c.valid; pages = Some n })
stands-went_out opening pass page h c m n stands is none others left quota size =
    record {
      valid_is = stands.valid_is ∙ sym (ap (λ (s : Sizes). s.valid) (sizes-went_out pass page h));
      map_is = PagesStand-went_out opening pass page h m n (pages_stand opening h c m stands is) none others left quota size;
    }

-- without a map there is none to go out
pub stands-went_out_unmapped : (opening : Option (ℕ → List ℕ)) (pass page : ℕ) (h : List Effect) (c : Contents) → ContentsStand opening h c → c.pages ≡ None → ContentsStand opening (WentOut pass page ∷ h) c
stands-went_out_unmapped opening pass page h c stands is =
    record {
      valid_is = stands.valid_is ∙ sym (ap (λ (s : Sizes). s.valid) (sizes-went_out pass page h));
      map_is = subst (MapStands opening (WentOut pass page ∷ h)) (sym is) (is_mapped-went_out pass page h ∙ no_map opening h c stands is);
    }

-- a byte of a page that came in
pub IsByteOf-filled : (opening : Option (ℕ → List ℕ)) (h : List Effect) (page j : ℕ) (raw bytes : List ℕ) → j < 4096 → IsReadFrom opening h page raw → IsClearedFrom (valid_of h - 4096 * page) raw bytes → IsByteOfContents opening h (4096 * page + j) (slice_index bytes j)
IsByteOf-filled None h page j raw bytes inside read cleared = λ past. cleared.above j (omega arith)
IsByteOf-filled (Some pages) h page j raw bytes inside read cleared = go (nat_lt (4096 * page + j) (valid_of h)) refl
  where
    go : (t : Bool) → nat_lt (4096 * page + j) (valid_of h) ≡ t → slice_index bytes j ≡ byte_of pages h (4096 * page + j)
    go true is =
        let low = ltb-true (4096 * page + j) (valid_of h) is in
        cleared.below j (omega arith) ∙ read pages refl j inside low
    go false is =
        let high = ltb-false (4096 * page + j) (valid_of h) is in
        cleared.above j (omega arith) ∙ sym (byte_of-above pages h (4096 * page + j) is)

byte-of_page : (m : MappedViews) (page i byte : ℕ) (bytes : List ℕ) → page_bytes_at m page ≡ Some bytes → i / 4096 ≡ page → byte_at m i ≡ Some byte → slice_index bytes (i % 4096) ≡ byte
unfolding byte_at
byte-of_page m page i byte bytes is here there =
    let known : Some (slice_index bytes (i % 4096)) ≡ Some byte = sym (ap (option_map (λ bs. slice_index_or bs (i % 4096) 0)) (ap (page_bytes_at m) here ∙ is)) ∙ there in
    cc

byte-of_others : (m n : MappedViews) (i byte : ℕ) → page_bytes_at n (i / 4096) ≡ page_bytes_at m (i / 4096) → byte_at n i ≡ Some byte → byte_at m i ≡ Some byte
unfolding byte_at
byte-of_others m n i byte same there = ap (option_map (λ bytes. slice_index_or bytes (i % 4096) 0)) (sym same) ∙ there

PagesStand-came_in : (opening : Option (ℕ → List ℕ)) (pass page : ℕ) (from_disk : Bool) (h : List Effect) (m n : MappedViews) (raw : List ℕ) → PagesStand opening h m → Fills m n page (valid_of h - 4096 * page) raw → IsReadFrom opening h page raw → PagesStand opening (CameIn pass page from_disk ∷ h) n
PagesStand-came_in opening pass page from_disk h m n raw stands fills read =
    record {
      mapped = is_mapped-came_in pass page from_disk h ∙ stands.mapped;
      quota = fills.quota ∙ (stands.quota ∙ sym (quota_of-came_in pass page from_disk h));
      size = fills.size ∙ (stands.size ∙ sym (ap (λ (s : Sizes). s.size) (sizes-came_in pass page from_disk h)));
      resident = resident;
      order = sym (filter-all (has_pages n) (blocks n) fills.blocks_have_pages) ∙ (filter-same (has_pages n) (block_is_mapped later) (blocks n) (has_pages-mapped n later resident) ∙ (ap (filter (block_is_mapped later)) (fills.order ∙ ap (used (block_of page ∷ [])) stands.order) ∙ sym (order_of_use-came_in pass page from_disk h)));
      bytes = λ i byte there. IsByteOf-same opening h later i byte (ap (λ (s : Sizes). s.valid) (sizes-came_in pass page from_disk h)) (λ pages. byte_of-came_in pages pass page from_disk h i) (bytes i byte (i / 4096 == page) refl there);
    }
  where
    later : List Effect
    later = CameIn pass page from_disk ∷ h

    resident : (p : ℕ) → is_kept n p ≡ is_resident (CameIn pass page from_disk ∷ h) p
    resident p = go (page == p) refl ∙ sym (ap (is_among p) (residents-came_in pass page from_disk h stands.mapped) ∙ among-in page p (residents h))
      where
        go : (t : Bool) → (page == p) ≡ t → is_kept n p ≡ ((page == p) || is_among p (residents h))
        go true is = ap is_some (ap (page_bytes_at n) (sym (eqb-true page p is)) ∙ fills.page_is) ∙ ap (λ b. b || is_among p (residents h)) (sym is)
        go false is = ap is_some (fills.others p (λ e. eqb-false page p is (sym e))) ∙ (stands.resident p ∙ ap (λ b. b || is_among p (residents h)) (sym is))

    bytes : (i byte : ℕ) (t : Bool) → (i / 4096 == page) ≡ t → byte_at n i ≡ Some byte → IsByteOfContents opening h i byte
    bytes i byte true is there =
        let here : i / 4096 ≡ page = eqb-true (i / 4096) page is in
        let at : 4096 * page + i % 4096 ≡ i = omega arith in
        let filled = IsByteOf-filled opening h page (i % 4096) raw fills.bytes (omega arith) read fills.cleared in
        subst (λ k. IsByteOfContents opening h k byte) at (subst (IsByteOfContents opening h (4096 * page + i % 4096)) (byte-of_page n page i byte fills.bytes fills.page_is here there) filled)
    bytes i byte false is there =
        stands.bytes i byte (byte-of_others m n i byte (fills.others (i / 4096) (eqb-false (i / 4096) page is)) there)

-- a page came in
pub stands-came_in : (opening : Option (ℕ → List ℕ)) (pass page : ℕ) (from_disk : Bool) (h : List Effect) (c : Contents) (m n : MappedViews) (raw : List ℕ) → ContentsStand opening h c → c.pages ≡ Some m → Fills m n page (c.valid - 4096 * page) raw → IsReadFrom opening h page raw → ContentsStand opening (CameIn pass page from_disk ∷ h) (record { valid = c.valid; pages = Some n })
stands-came_in opening pass page from_disk h c m n raw stands is fills read =
    record {
      valid_is = stands.valid_is ∙ sym (ap (λ (s : Sizes). s.valid) (sizes-came_in pass page from_disk h));
      map_is = PagesStand-came_in opening pass page from_disk h m n raw (pages_stand opening h c m stands is) (subst (λ v. Fills m n page (v - 4096 * page) raw) stands.valid_is fills) read;
    }

-- an initialise made the map, with no page
pub stands-opened : (opening : Option (ℕ → List ℕ)) (pass : ℕ) (file : File) (given : FileSizes) (quota : ℕ) (temporary : Bool) (reply : Reply) (h : List Effect) (m : MappedViews) → is_mapped h ≡ false → ((p : ℕ) → page_bytes_at m p ≡ None) → blocks m ≡ [] → m.quota ≡ quota → m.size ≡ given.size → ContentsStand opening (Did pass (call.Initialise file given quota temporary) reply ∷ h) (record { valid = given.valid; pages = Some m })
unfolding byte_at
stands-opened opening pass file given quota temporary reply h m unmapped none order same_quota size =
    record {
      valid_is = sym (ap (λ (s : Sizes). s.valid) sized);
      map_is = record {
        mapped = is_mapped-opens pass initialise reply h refl;
        quota = same_quota ∙ sym (quota_of-opens_anew pass initialise reply h refl unmapped);
        size = size ∙ sym (ap (λ (s : Sizes). s.size) sized);
        resident = λ p. ap is_some (none p) ∙ sym (ap (is_among p) no_residents);
        order = order ∙ sym (order_of_use-none later no_residents);
        bytes = λ i byte there. absurd (true≢false (sym (ap is_some (sym (ap (option_map (λ bytes. slice_index_or bytes (i % 4096) 0)) (none (i / 4096))) ∙ there))));
      };
    }
  where
    initialise : Call
    initialise = call.Initialise file given quota temporary

    later : List Effect
    later = Did pass initialise reply ∷ h

    sized : sizes later ≡ record { size = given.size; valid = given.valid }
    sized = sizes-opens_anew pass initialise reply h refl unmapped

    no_residents : residents later ≡ []
    no_residents = residents-opens pass initialise reply h refl ∙ residents-unmapped h unmapped

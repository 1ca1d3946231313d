-- What is kept stands after an effect that leaves the valid data length, and after a begin.
use Rattle.std.specs.Prelude.{◌≡◌, ℕ, ◌*◌, ◌/◌, ◌+◌, ◌<◌, ◌≤◌, Bool, true, false, not, ◌==◌, ◌&&◌, nat_lt, min, max, is_some, List, [], ◌∷◌, length, refl}
use Rattle.std.proofs.Common.{ap, sym, subst, ◌∙◌, arith}
use Rattle.std.proofs.lemmas.Bool.{eq-eqb, ltb-true}
use Rattle.std.specs.declared.option.Option.TheVariants.{Some}
use Rattle.cc_entry.specs.declared.entry.End.{End}
use Rattle.cc_model.specs.History.{Effect, CameIn, WentOut, Began, Synced}
use Rattle.cc_model.specs.Images.{Transfer, open_of, image}
use Rattle.cc_model.specs.Numbers.{is_empty}
use Rattle.cc_model.specs.Settings.{quota_of}
use Rattle.cc_model.specs.Sizes.{Touch}
use Rattle.cc_model.specs.Touches.{sizes, touches, valid_of, is_dirty}
use Rattle.cc_model.specs.Discards.{is_known, low_since, low_of, has_grown}
use Rattle.cc_laws.proofs.SizeSteps.{sizes-came_in, sizes-went_out, sizes-began, sizes-synced}
use Rattle.cc_laws.proofs.TouchSteps.{touches-came_in, touches-went_out, touches-synced, touches-began_open}
use Rattle.cc_laws.proofs.QuotaSteps.{quota_of-came_in, quota_of-went_out, quota_of-began, quota_of-synced}
use Rattle.cc_laws.proofs.ImageSteps.{open_of-came_in, open_of-went_out, open_of-began, open_of-synced, image-came_in, image-went_out, image-began, image-synced}
use Rattle.cc_images.specs.Images.{Images, ImagesStand, is_first_grown}
use Rattle.cc_images.specs.PageSet.{PageSet, is_in_set}
use Rattle.cc_images.proofs.LowSteps.{low-came_in, low-went_out, low-synced, low-began, low-began_page}

-- of two histories what pages that have grown hang on is the same
pub record SameLow (later h : List Effect) : Type 0 where
  pub valid : valid_of later ≡ valid_of h
  pub low : (p : ℕ) → low_of later p ≡ low_of h p

pub same-first : (later h : List Effect) → SameLow later h → (byte : ℕ) → is_first_grown later byte ≡ is_first_grown h byte
same-first later h same byte =
    ap (λ low. byte == max (4096 * (byte / 4096)) low && nat_lt byte (valid_of later)) (same.low (byte / 4096))
    ∙ ap (λ valid. byte == max (4096 * (byte / 4096)) (low_of h (byte / 4096)) && nat_lt byte valid) same.valid

pub same-grown : (later h : List Effect) → SameLow later h → (p : ℕ) → has_grown later p ≡ has_grown h p
same-grown later h same p =
    ap (λ low. nat_lt (max (4096 * p) low) (min (4096 * p + 4096) (valid_of later))) (same.low p)
    ∙ ap (λ valid. nat_lt (max (4096 * p) (low_of h p)) (min (4096 * p + 4096) valid)) same.valid

-- the pages that have grown stay dirty where no touch goes
same-dirty : (later h : List Effect) → SameLow later h → ((p : ℕ) → touches false later p ≡ touches false h p) → ((p : ℕ) → has_grown h p ≡ true → is_dirty h p ≡ true) → (p : ℕ) → has_grown later p ≡ true → is_dirty later p ≡ true
same-dirty later h same touched dirty p grown =
    ap (λ (ts : List Touch). not (is_empty ts)) (touched p) ∙ dirty p (sym (same-grown later h same p) ∙ grown)

-- of two histories what is kept of transfers and images is the same
pub record SameTransfer (later h : List Effect) : Type 0 where
  pub quota : quota_of later ≡ quota_of h
  pub under_way : open_of later ≡ open_of h
  pub begun : (t : Transfer) → open_of later ≡ Some t → low_since true later t.page ≡ low_since true h t.page
  pub known : (p : ℕ) → is_known later p ≡ is_known h p

pub stands-kept : (later h : List Effect) (i : Images) → SameLow later h → SameTransfer later h → ((p : ℕ) → has_grown later p ≡ true → is_dirty later p ≡ true) → ImagesStand h i → ImagesStand later i
stands-kept later h i low same dirty stands = record {
  grown_are = λ byte. stands.grown_are byte ∙ sym (same-first later h low byte);
  in_order = stands.in_order;
  grown_is_dirty = dirty;
  grown_has_room = subst (λ n. 64 * n ≤ i.grown_room) (sym same.quota) stands.grown_has_room;
  begun_is = λ t under. stands.begun_is t (sym same.under_way ∙ under) ∙ sym (same.begun t under);
  unknown_are = λ p. stands.unknown_are p ∙ sym (ap not (same.known p));
  unknown_has_room = λ t under. stands.unknown_has_room t (sym same.under_way ∙ under);
}

pub stands-came_in : (pass page : ℕ) (from_disk : Bool) (h : List Effect) (i : Images) → ImagesStand h i → ImagesStand (CameIn pass page from_disk ∷ h) i
stands-came_in pass page from_disk h i stands =
    let low : SameLow (CameIn pass page from_disk ∷ h) h = record { valid = ap (λ s. s.valid) (sizes-came_in pass page from_disk h); low = low-came_in false pass page from_disk h } in
    stands-kept (CameIn pass page from_disk ∷ h) h i low
    (record {
      quota = quota_of-came_in pass page from_disk h;
      under_way = open_of-came_in pass page from_disk h;
      begun = λ t under. low-came_in true pass page from_disk h t.page;
      known = λ p. ap is_some (image-came_in (λ q. []) pass page from_disk h p);
    })
    (same-dirty (CameIn pass page from_disk ∷ h) h low (touches-came_in false pass page from_disk h) stands.grown_is_dirty) stands

pub stands-went_out : (pass page : ℕ) (h : List Effect) (i : Images) → ImagesStand h i → ImagesStand (WentOut pass page ∷ h) i
stands-went_out pass page h i stands =
    let low : SameLow (WentOut pass page ∷ h) h = record { valid = ap (λ s. s.valid) (sizes-went_out pass page h); low = low-went_out false pass page h } in
    stands-kept (WentOut pass page ∷ h) h i low
    (record {
      quota = quota_of-went_out pass page h;
      under_way = open_of-went_out pass page h;
      begun = λ t under. low-went_out true pass page h t.page;
      known = λ p. ap is_some (image-went_out (λ q. []) pass page h p);
    })
    (same-dirty (WentOut pass page ∷ h) h low (touches-went_out false pass page h) stands.grown_is_dirty) stands

pub stands-synced : (pass : ℕ) (how : End) (h : List Effect) (i : Images) → ImagesStand h i → ImagesStand (Synced pass how ∷ h) i
stands-synced pass how h i stands =
    let low : SameLow (Synced pass how ∷ h) h = record { valid = ap (λ s. s.valid) (sizes-synced pass how h); low = low-synced false pass how h } in
    stands-kept (Synced pass how ∷ h) h i low
    (record {
      quota = quota_of-synced pass how h;
      under_way = open_of-synced pass how h;
      begun = λ t under. low-synced true pass how h t.page;
      known = λ p. ap is_some (image-synced (λ q. []) pass how h p);
    })
    (same-dirty (Synced pass how ∷ h) h low (touches-synced false pass how h) stands.grown_is_dirty) stands

-- more room for the pages whose image is not known
pub stands-reserved : (h : List Effect) (i : Images) (unknown : PageSet) → ((p : ℕ) → is_in_set p unknown ≡ is_in_set p i.unknown) → length unknown.ranges ≡ length i.unknown.ranges → i.unknown.room ≤ unknown.room → ImagesStand h i → ImagesStand h (record i { unknown = unknown })
stands-reserved h i unknown has ranges more stands = record {
  grown_are = stands.grown_are;
  in_order = stands.in_order;
  grown_is_dirty = stands.grown_is_dirty;
  grown_has_room = stands.grown_has_room;
  begun_is = stands.begun_is;
  unknown_are = λ p. has p ∙ stands.unknown_are p;
  unknown_has_room = λ t under. let had : length i.unknown.ranges < i.unknown.room = stands.unknown_has_room t under in omega (arith, ranges, more);
}

-- a begin, with room for one range more of pages whose image is not known
pub stands-began : (pass page : ℕ) (h : List Effect) (i : Images) (valid : ℕ) → valid ≡ valid_of h → length i.unknown.ranges < i.unknown.room → ImagesStand h i → ImagesStand (Began pass page ∷ h) (record i { begun = valid })
stands-began pass page h i valid is more stands =
    let low : SameLow (Began pass page ∷ h) h = record { valid = ap (λ s. s.valid) (sizes-began pass page h); low = low-began pass page h } in
    record {
      grown_are = λ byte. stands.grown_are byte ∙ sym (same-first (Began pass page ∷ h) h low byte);
      in_order = stands.in_order;
      grown_is_dirty = same-dirty (Began pass page ∷ h) h low (touches-began_open pass page h) stands.grown_is_dirty;
      grown_has_room = subst (λ n. 64 * n ≤ i.grown_room) (sym (quota_of-began pass page h)) stands.grown_has_room;
      begun_is = λ t under. is ∙ sym (low-began_page pass page h t.page (eq-eqb page t.page (same t under)));
      unknown_are = λ p. stands.unknown_are p ∙ sym (ap not (ap is_some (image-began (λ q. []) pass page h p)));
      unknown_has_room = λ t under. more;
    }
  where
    same_page : (s t : Transfer) → Some s ≡ Some t → s.page ≡ t.page
    same_page s t e = let whole : s ≡ t = cc in ap (λ (v : Transfer). v.page) whole

    same : (t : Transfer) → open_of (Began pass page ∷ h) ≡ Some t → page ≡ t.page
    same t under = same_page (record { pass = pass; page = page }) t (sym (open_of-began pass page h) ∙ under)

-- before the first effect
pub stands-none : (begun grown_room : ℕ) (unknown : PageSet) → ((p : ℕ) → is_in_set p unknown ≡ false) → ImagesStand [] (record { grown = []; begun = begun; unknown = unknown; grown_room = grown_room })
unfolding sizes open_of image quota_of low_since
stands-none begun grown_room unknown empty = record {
  grown_are = λ byte. none byte (byte == max (4096 * (byte / 4096)) 0);
  in_order = tt;
  grown_is_dirty = λ p grown. absurd (no p grown);
  grown_has_room = omega arith;
  begun_is = λ t under. absurd (cc);
  unknown_are = λ p. empty p;
  unknown_has_room = λ t under. absurd (cc);
}
  where
    below : (byte : ℕ) → nat_lt byte 0 ≡ false
    below byte = grind (arith, ltb-true)

    none : (byte : ℕ) (b : Bool) → false ≡ (b && nat_lt byte 0)
    none byte true = sym (below byte)
    none byte false = refl

    no : (p : ℕ) → nat_lt (max (4096 * p) 0) (min (4096 * p + 4096) 0) ≡ true → ⊥
    no p grown = let some : max (4096 * p) 0 < min (4096 * p + 4096) 0 = ltb-true _ _ grown in omega arith

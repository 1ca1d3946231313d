-- What stands of contents of which only which pages are owned changed, and what a done call finds owned.
use Rattle.std.proofs.Common.{◌≡◌, ℕ, ◌+◌, Bool, true, false, List, Option, None, Some, is_some, Result, Ok, Err, ◌*◌, ◌<◌, slice_index, IfOk, refl, sym, ap, subst, ◌∙◌, true≢false}
use Rattle.std.specs.Option.{IfSome}
use Rattle.cc_entry.specs.Pages.{whole_range}
use Rattle.cc_entry.specs.Place.{File}
use Rattle.cc_entry.specs.declared.call.Call.{Call}
use Rattle.cc_entry.specs.declared.call.Call.TheVariants as call
use Rattle.cc_pages.specs.declared.frames.Frame.{Frame}
use Rattle.cc_views.specs.Views.{MappedViews}
use Rattle.cc_resident.specs.Changes.{SameBytes}
use Rattle.cc_resident.specs.Residents.{page_bytes_at}
use Rattle.cc_model.specs.Acts.{act_of, Zeroes}
use Rattle.cc_model.specs.History.{Effect}
use Rattle.cc_model.specs.Residency.{is_resident}
use Rattle.cc_content.specs.Contents.{Contents, ContentsStand, MapStands, PagesStand, IsByteOfContents}
use Rattle.cc_content.specs.Done.{is_look}
use Rattle.cc_content.specs.Owned.{AllOwnedAmong, OwnsChanged, SameMap, SameContents}
use Rattle.cc_content.proofs.Kept.{pages_stand, bytes-are}
use Rattle.cc_content.proofs.LooksStand.{SamePages-byte}

-- pages with the same bytes stand for the same histories
stands-same : (opening : Option (ℕ → List ℕ)) (h : List Effect) (m n : MappedViews) → SameBytes m n → PagesStand opening h m → PagesStand opening h n
stands-same opening h m n w was =
    record {
      mapped = was.mapped;
      quota = w.quota ∙ was.quota;
      size = w.size ∙ was.size;
      resident = λ p. ap is_some (w.pages p) ∙ was.resident p;
      order = w.blocks ∙ was.order;
      bytes = λ i byte is. was.bytes i byte (sym (SamePages-byte m n (record { pages = w.pages; quota = w.quota; size = w.size }) i) ∙ is);
    }

map-same : (opening : Option (ℕ → List ℕ)) (h : List Effect) (a b : Option MappedViews) → SameMap a b → MapStands opening h a → MapStands opening h b
map-same opening h None None same stands = stands
map-same opening h None (Some n) same stands = absurd same
map-same opening h (Some m) None same stands = absurd same
map-same opening h (Some m) (Some n) same stands = stands-same opening h m n same stands

pub SameContents-map : (old new : Contents) → new.valid ≡ old.valid → SameMap old.pages new.pages → SameContents old new
SameContents-map old new valid map =
    record {
      valid = valid;
      map = map;
      stands = λ opening h stands. record { valid_is = valid ∙ stands.valid_is; map_is = map-same opening h old.pages new.pages map stands.map_is };
    }

SameMap-refl : (o : Option MappedViews) → SameMap o o
SameMap-refl None = tt
SameMap-refl (Some m) = record { pages = λ p. refl; blocks = refl; quota = refl; size = refl }

pub SameContents-refl : (c : Contents) → SameContents c c
SameContents-refl c = SameContents-map c c refl (SameMap-refl c.pages)

-- only the map of the contents may have changed
pub SameContents-pages : (old new : Contents) (m n : MappedViews) → old.pages ≡ Some m → new ≡ record { valid = old.valid; pages = Some n } → SameBytes m n → SameContents old new
SameContents-pages old new m n was is same =
    SameContents-map old new (ap (λ (c : Contents). c.valid) is) (subst (λ o. SameMap o new.pages) (sym was) (subst (SameMap (Some m)) (sym (ap (λ (c : Contents). c.pages) is)) same))

-- no page is changed where no range is
pub owned-none : (o : Option MappedViews) → AllOwnedAmong o None
owned-none None = tt
owned-none (Some m) = tt

-- the pages that a call changes are those that this one does
pub owned-of : (c : Contents) (cut : Option ℕ) (it this : Call) → it ≡ this → OwnsChanged c it cut → OwnsChanged c this cut
owned-of c cut it this is own = subst (λ k. OwnsChanged c k cut) is own

-- a prepare that is no look zeroes its range
pub owned-prepared : (c : Contents) (cut : Option ℕ) (it : Call) (file : File) (at len : ℕ) (zero exclusive : Bool) → it ≡ call.PreparePin file at len zero exclusive → is_look (act_of it) ≡ false
    → OwnsChanged c it cut → AllOwnedAmong c.pages (Some (whole_range at len))
owned-prepared c cut it file at len true exclusive is look own = owned-of c cut it (call.PreparePin file at len true exclusive) is own
owned-prepared c cut it file at len false exclusive is look own = absurd (true≢false (sym (ap (λ k. is_look (act_of k)) is) ∙ look))

pub zeroes-prepared : (it : Call) (file : File) (at len : ℕ) (zero exclusive : Bool) → it ≡ call.PreparePin file at len zero exclusive → zero ≡ true → act_of it ≡ Zeroes at (at + len)
zeroes-prepared it file at len zero exclusive is test = ap act_of is ∙ ap (λ z. act_of (call.PreparePin file at len z exclusive)) test

-- a snapshot of a kept page
module _ (c : Contents) (m : MappedViews) (page : ℕ) (kept : c.pages ≡ Some m) where
  pub snapshot-resident : {E : Type 0} (r : Result (Option Frame) E) → IfOk r (λ frame. frame ≡ page_bytes_at m page)
      → IfOk r (λ frame. (opening : Option (ℕ → List ℕ)) (h : List Effect) → ContentsStand opening h c → is_some frame ≡ is_resident h page)
  snapshot-resident (Ok frame) is = λ opening h stands. let was = pages_stand opening h c m stands kept in ap is_some is ∙ was.resident page
  snapshot-resident (Err e) is = tt

  pub snapshot-bytes : {E : Type 0} (r : Result (Option Frame) E) → IfOk r (λ frame. frame ≡ page_bytes_at m page)
      → IfOk r (λ frame. (opening : Option (ℕ → List ℕ)) (h : List Effect) → ContentsStand opening h c → IfSome frame (λ bytes. (i : ℕ) → i < 4096 → IsByteOfContents opening h (4096 * page + i) (slice_index bytes i)))
  snapshot-bytes (Ok None) is = λ opening h stands. tt
  snapshot-bytes (Ok (Some bytes)) is = λ opening h stands. bytes-are (λ (x : List ℕ). x) (Some bytes) opening h m page (pages_stand opening h c m stands kept) is
  snapshot-bytes (Err e) is = tt

-- How transfers, images and what a crash may leave step.
use Rattle.std.specs.Prelude.{◌≡◌, ℕ, Bool, true, false, ◌==◌, List, [], ◌∷◌, ◌++◌, refl}
use Rattle.std.specs.declared.option.Option.TheVariants.{Some, None}
use Rattle.cc_entry.specs.declared.call.Call.{Call}
use Rattle.cc_entry.specs.declared.reply.Reply.{Reply}
use Rattle.cc_entry.specs.declared.entry.End.{End}
use Rattle.cc_model.specs.History.{Effect, Did, CameIn, WentOut, Began, Ended, Synced}
use Rattle.cc_model.specs.Sizes.{ended_ok}
use Rattle.cc_model.specs.Bytes.{page_bytes}
use Rattle.cc_model.specs.Images.{open_of, begun, image_after, image, settled, crash_pages}

pub open_of-done : (pass : ℕ) (call : Call) (reply : Reply) (h : List Effect) → open_of (Did pass call reply ∷ h) ≡ open_of h
unfolding open_of
open_of-done pass call reply h = refl

pub open_of-came_in : (pass page : ℕ) (from_disk : Bool) (h : List Effect) → open_of (CameIn pass page from_disk ∷ h) ≡ open_of h
unfolding open_of
open_of-came_in pass page from_disk h = refl

pub open_of-went_out : (pass page : ℕ) (h : List Effect) → open_of (WentOut pass page ∷ h) ≡ open_of h
unfolding open_of
open_of-went_out pass page h = refl

pub open_of-began : (pass page : ℕ) (h : List Effect) → open_of (Began pass page ∷ h) ≡ Some (record { pass = pass; page = page })
unfolding open_of
open_of-began pass page h = refl

pub open_of-ended : (pass page : ℕ) (how : End) (h : List Effect) → open_of (Ended pass page how ∷ h) ≡ None
unfolding open_of
open_of-ended pass page how h = refl

pub open_of-synced : (pass : ℕ) (how : End) (h : List Effect) → open_of (Synced pass how ∷ h) ≡ open_of h
unfolding open_of
open_of-synced pass how h = refl

pub begun-done : (pass : ℕ) (call : Call) (reply : Reply) (h : List Effect) (p : ℕ) → begun (Did pass call reply ∷ h) p ≡ begun h p
unfolding begun
begun-done pass call reply h p = refl

pub begun-came_in : (pass page : ℕ) (from_disk : Bool) (h : List Effect) (p : ℕ) → begun (CameIn pass page from_disk ∷ h) p ≡ begun h p
unfolding begun
begun-came_in pass page from_disk h p = refl

pub begun-went_out : (pass page : ℕ) (h : List Effect) (p : ℕ) → begun (WentOut pass page ∷ h) p ≡ begun h p
unfolding begun
begun-went_out pass page h p = refl

pub begun-began_page : (pass page : ℕ) (h : List Effect) (p : ℕ) → (page == p) ≡ true → begun (Began pass page ∷ h) p ≡ Some h
unfolding begun
begun-began_page pass page h p p0 = rw (p0, begun) refl

pub begun-began_other : (pass page : ℕ) (h : List Effect) (p : ℕ) → (page == p) ≡ false → begun (Began pass page ∷ h) p ≡ begun h p
unfolding begun
begun-began_other pass page h p p0 = rw (p0, begun) refl

pub begun-ended : (pass page : ℕ) (how : End) (h : List Effect) (p : ℕ) → begun (Ended pass page how ∷ h) p ≡ begun h p
unfolding begun
begun-ended pass page how h p = refl

pub begun-synced : (pass : ℕ) (how : End) (h : List Effect) (p : ℕ) → begun (Synced pass how ∷ h) p ≡ begun h p
unfolding begun
begun-synced pass how h p = refl

pub image-done : (pages : ℕ → List ℕ) (pass : ℕ) (call : Call) (reply : Reply) (h : List Effect) (p : ℕ) → image pages (Did pass call reply ∷ h) p ≡ image pages h p
unfolding image
image-done pages pass call reply h p = refl

pub image-came_in : (pages : ℕ → List ℕ) (pass page : ℕ) (from_disk : Bool) (h : List Effect) (p : ℕ) → image pages (CameIn pass page from_disk ∷ h) p ≡ image pages h p
unfolding image
image-came_in pages pass page from_disk h p = refl

pub image-went_out : (pages : ℕ → List ℕ) (pass page : ℕ) (h : List Effect) (p : ℕ) → image pages (WentOut pass page ∷ h) p ≡ image pages h p
unfolding image
image-went_out pages pass page h p = refl

pub image-began : (pages : ℕ → List ℕ) (pass page : ℕ) (h : List Effect) (p : ℕ) → image pages (Began pass page ∷ h) p ≡ image pages h p
unfolding image
image-began pages pass page h p = refl

pub image-ended_page : (pages : ℕ → List ℕ) (pass page : ℕ) (how : End) (h : List Effect) (p : ℕ) → (page == p) ≡ true → image pages (Ended pass page how ∷ h) p ≡ image_after pages p (begun h p) (ended_ok how) (image pages h p)
unfolding image
image-ended_page pages pass page how h p p0 = rw (p0, image) refl

pub image-ended_other : (pages : ℕ → List ℕ) (pass page : ℕ) (how : End) (h : List Effect) (p : ℕ) → (page == p) ≡ false → image pages (Ended pass page how ∷ h) p ≡ image pages h p
unfolding image
image-ended_other pages pass page how h p p0 = rw (p0, image) refl

pub image-synced : (pages : ℕ → List ℕ) (pass : ℕ) (how : End) (h : List Effect) (p : ℕ) → image pages (Synced pass how ∷ h) p ≡ image pages h p
unfolding image
image-synced pages pass how h p = refl

pub crash_pages-done : (pages : ℕ → List ℕ) (pass : ℕ) (call : Call) (reply : Reply) (h : List Effect) (p : ℕ) → crash_pages pages (Did pass call reply ∷ h) p ≡ crash_pages pages h p
unfolding crash_pages
crash_pages-done pages pass call reply h p = refl

pub crash_pages-came_in : (pages : ℕ → List ℕ) (pass page : ℕ) (from_disk : Bool) (h : List Effect) (p : ℕ) → crash_pages pages (CameIn pass page from_disk ∷ h) p ≡ crash_pages pages h p
unfolding crash_pages
crash_pages-came_in pages pass page from_disk h p = refl

pub crash_pages-went_out : (pages : ℕ → List ℕ) (pass page : ℕ) (h : List Effect) (p : ℕ) → crash_pages pages (WentOut pass page ∷ h) p ≡ crash_pages pages h p
unfolding crash_pages
crash_pages-went_out pages pass page h p = refl

pub crash_pages-began_page : (pages : ℕ → List ℕ) (pass page : ℕ) (h : List Effect) (p : ℕ) → (page == p) ≡ true → crash_pages pages (Began pass page ∷ h) p ≡ crash_pages pages h p ++ page_bytes pages h p ∷ []
unfolding crash_pages
crash_pages-began_page pages pass page h p p0 = rw (p0, crash_pages) refl

pub crash_pages-began_other : (pages : ℕ → List ℕ) (pass page : ℕ) (h : List Effect) (p : ℕ) → (page == p) ≡ false → crash_pages pages (Began pass page ∷ h) p ≡ crash_pages pages h p
unfolding crash_pages
crash_pages-began_other pages pass page h p p0 = rw (p0, crash_pages) refl

pub crash_pages-ended : (pages : ℕ → List ℕ) (pass page : ℕ) (how : End) (h : List Effect) (p : ℕ) → crash_pages pages (Ended pass page how ∷ h) p ≡ crash_pages pages h p
unfolding crash_pages
crash_pages-ended pages pass page how h p = refl

pub crash_pages-synced : (pages : ℕ → List ℕ) (pass : ℕ) (how : End) (h : List Effect) (p : ℕ) → crash_pages pages (Synced pass how ∷ h) p ≡ settled (ended_ok how) (image pages h p) (crash_pages pages h p)
unfolding crash_pages
crash_pages-synced pages pass how h p = refl

-- the image that an end leaves where the front of its begin is known, and what a sync leaves

pub image-ended_good : (pages : ℕ → List ℕ) (pass page : ℕ) (how : End) (h front : List Effect) (p : ℕ) → (page == p) ≡ true → ended_ok how ≡ true → begun h p ≡ Some front → image pages (Ended pass page how ∷ h) p ≡ Some (page_bytes pages front p)
unfolding image
image-ended_good pages pass page how h front p same good began = rw (same, good, began, image) refl

pub image-ended_bad : (pages : ℕ → List ℕ) (pass page : ℕ) (how : End) (h front : List Effect) (p : ℕ) → (page == p) ≡ true → ended_ok how ≡ false → begun h p ≡ Some front → image pages (Ended pass page how ∷ h) p ≡ None
unfolding image
image-ended_bad pages pass page how h front p same bad began = rw (same, bad, began, image) refl

pub crash_pages-synced_known : (pages : ℕ → List ℕ) (pass : ℕ) (how : End) (h : List Effect) (p : ℕ) (bytes : List ℕ) → ended_ok how ≡ true → image pages h p ≡ Some bytes → crash_pages pages (Synced pass how ∷ h) p ≡ bytes ∷ []
unfolding crash_pages
crash_pages-synced_known pages pass how h p bytes good known = rw (good, known, crash_pages) refl

pub crash_pages-synced_unknown : (pages : ℕ → List ℕ) (pass : ℕ) (how : End) (h : List Effect) (p : ℕ) → ended_ok how ≡ true → image pages h p ≡ None → crash_pages pages (Synced pass how ∷ h) p ≡ crash_pages pages h p
unfolding crash_pages
crash_pages-synced_unknown pages pass how h p good unknown = rw (good, unknown, crash_pages) refl

pub crash_pages-synced_bad : (pages : ℕ → List ℕ) (pass : ℕ) (how : End) (h : List Effect) (p : ℕ) → ended_ok how ≡ false → crash_pages pages (Synced pass how ∷ h) p ≡ crash_pages pages h p
unfolding crash_pages
crash_pages-synced_bad pages pass how h p bad = rw (bad, crash_pages) refl

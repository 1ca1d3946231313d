-- What the disk holds of a byte is what the page's image has of it, where the image is known.
use Rattle.std.specs.Prelude.{◌≡◌, ℕ, ◌+◌, ◌-◌, ◌*◌, ◌/◌, ◌%◌, ◌<◌, ◌≤◌, Bool, true, false, ◌==◌, ◌&&◌, cond, is_some, nat_lt, List, [], ◌∷◌, slice_index, refl}
use Rattle.std.specs.declared.option.Option.{Option}
use Rattle.std.specs.declared.option.Option.TheVariants.{Some, None}
use Rattle.std.proofs.Common.{arith, ap, sym, ◌∙◌}
use Rattle.std.proofs.lemmas.List.FromFn.{get_or-map-range_with_len}
use Rattle.cc_entry.specs.declared.call.Call.{Call}
use Rattle.cc_entry.specs.declared.reply.Reply.{Reply}
use Rattle.cc_entry.specs.declared.entry.End.{End}
use Rattle.cc_model.specs.History.{Effect, Did, CameIn, WentOut, Began, Ended, Synced}
use Rattle.cc_model.specs.Sizes.{ended_ok}
use Rattle.cc_model.specs.Touches.{valid_of}
use Rattle.cc_model.specs.Bytes.{content, on_disk, byte_of, page_size, page_bytes}
use Rattle.cc_model.specs.Images.{begun, image_after, image}
use Rattle.cc_laws.proofs.ImageSteps.{begun-began_page, begun-began_other, image-ended_page, image-ended_other}

-- the byte of a page as a list
pub page_bytes-at : (pages : ℕ → List ℕ) (h : List Effect) (p i : ℕ) → 4096 * p ≤ i → i < 4096 * p + 4096 → slice_index (page_bytes pages h p) (i - 4096 * p) ≡ byte_of pages h i
unfolding page_bytes page_size
page_bytes-at pages h p i low high = get_or-map-range_with_len (byte_of pages h) (4096 * p) 4096 (i - 4096 * p) i 0 (omega arith) (omega arith)

-- neither a call nor a sync changes what the disk holds
pub on_disk-done : (pages : ℕ → List ℕ) (pass : ℕ) (call : Call) (reply : Reply) (h : List Effect) (i : ℕ) → on_disk pages false (Did pass call reply ∷ h) i ≡ on_disk pages false h i
unfolding on_disk
on_disk-done pages pass call reply h i = refl

pub on_disk-synced : (pages : ℕ → List ℕ) (pass : ℕ) (how : End) (h : List Effect) (i : ℕ) → on_disk pages false (Synced pass how ∷ h) i ≡ on_disk pages false h i
unfolding on_disk
on_disk-synced pages pass how h i = refl

-- a begin gives the byte as its transfer began
on_disk-began_page : (pages : ℕ → List ℕ) (pass page : ℕ) (h : List Effect) (i : ℕ) → (page == i / 4096) ≡ true → on_disk pages true (Began pass page ∷ h) i ≡ byte_of pages h i
unfolding on_disk byte_of
on_disk-began_page pages pass page h i same = rw (same, on_disk) (go (nat_lt i (valid_of h)))
  where
    go : (b : Bool) → elim b as (λ x. ℕ) [ true ↦ content pages h i | false ↦ 0 ] ≡ cond b (content pages h i) 0
    go true = refl
    go false = refl

on_disk-began_other : (pages : ℕ → List ℕ) (pass page : ℕ) (h : List Effect) (i : ℕ) → (page == i / 4096) ≡ false → on_disk pages true (Began pass page ∷ h) i ≡ on_disk pages true h i
unfolding on_disk
on_disk-began_other pages pass page h i other = rw (other, on_disk) refl

-- after a good end, it is the byte as the last transfer began
on_disk-begun : (pages : ℕ → List ℕ) (h front : List Effect) (i : ℕ) → begun h (i / 4096) ≡ Some front → on_disk pages true h i ≡ byte_of pages front i
unfolding begun on_disk
on_disk-begun pages [] front i is = absurd (cc)
on_disk-begun pages (Did pass call reply ∷ h) front i is = on_disk-begun pages h front i is
on_disk-begun pages (CameIn pass page from_disk ∷ h) front i is = on_disk-begun pages h front i is
on_disk-begun pages (WentOut pass page ∷ h) front i is = on_disk-begun pages h front i is
on_disk-begun pages (Began pass page ∷ h) front i is = go (page == i / 4096) refl (on_disk-begun pages h front i)
  where
    same_front : (f g : List Effect) → Some f ≡ Some g → f ≡ g
    same_front f g e = cc

    go : (b : Bool) → (page == i / 4096) ≡ b → (begun h (i / 4096) ≡ Some front → on_disk pages true h i ≡ byte_of pages front i) → on_disk pages true (Began pass page ∷ h) i ≡ byte_of pages front i
    go true same rest =
        on_disk-began_page pages pass page h i same
        ∙ ap (λ g. byte_of pages g i) (same_front h front (sym (begun-began_page pass page h (i / 4096) same) ∙ is))
    go false other rest = on_disk-began_other pages pass page h i other ∙ rest (sym (begun-began_other pass page h (i / 4096) other) ∙ is)
on_disk-begun pages (Ended pass page how ∷ h) front i is = on_disk-begun pages h front i is
on_disk-begun pages (Synced pass how ∷ h) front i is = on_disk-begun pages h front i is

-- or the opening byte, where none began
on_disk-unbegun : (pages : ℕ → List ℕ) (h : List Effect) (i : ℕ) → begun h (i / 4096) ≡ None → on_disk pages true h i ≡ slice_index (pages (i / 4096)) (i % 4096)
unfolding begun on_disk
on_disk-unbegun pages [] i none = refl
on_disk-unbegun pages (Did pass call reply ∷ h) i none = on_disk-unbegun pages h i none
on_disk-unbegun pages (CameIn pass page from_disk ∷ h) i none = on_disk-unbegun pages h i none
on_disk-unbegun pages (WentOut pass page ∷ h) i none = on_disk-unbegun pages h i none
on_disk-unbegun pages (Began pass page ∷ h) i none = go (page == i / 4096) refl (on_disk-unbegun pages h i)
  where
    go : (b : Bool) → (page == i / 4096) ≡ b → (begun h (i / 4096) ≡ None → on_disk pages true h i ≡ slice_index (pages (i / 4096)) (i % 4096)) → on_disk pages true (Began pass page ∷ h) i ≡ slice_index (pages (i / 4096)) (i % 4096)
    go true same rest = absurd (cc (begun-began_page pass page h (i / 4096) same, none))
    go false other rest = on_disk-began_other pages pass page h i other ∙ rest (sym (begun-began_other pass page h (i / 4096) other) ∙ none)
on_disk-unbegun pages (Ended pass page how ∷ h) i none = on_disk-unbegun pages h i none
on_disk-unbegun pages (Synced pass how ∷ h) i none = on_disk-unbegun pages h i none

-- the image of a page of which no transfer began is the opening page
image-unbegun : (pages : ℕ → List ℕ) (h : List Effect) (p : ℕ) → begun h p ≡ None → image pages h p ≡ Some (pages p)
unfolding begun image
image-unbegun pages [] p none = refl
image-unbegun pages (Did pass call reply ∷ h) p none = image-unbegun pages h p none
image-unbegun pages (CameIn pass page from_disk ∷ h) p none = image-unbegun pages h p none
image-unbegun pages (WentOut pass page ∷ h) p none = image-unbegun pages h p none
image-unbegun pages (Began pass page ∷ h) p none = go (page == p) refl (image-unbegun pages h p)
  where
    go : (b : Bool) → (page == p) ≡ b → (begun h p ≡ None → image pages h p ≡ Some (pages p)) → image pages h p ≡ Some (pages p)
    go true same rest = absurd (cc (begun-began_page pass page h p same, none))
    go false other rest = rest (sym (begun-began_other pass page h p other) ∙ none)
image-unbegun pages (Ended pass page how ∷ h) p none = go (page == p) refl (image-unbegun pages h p none)
  where
    go : (b : Bool) → (page == p) ≡ b → image pages h p ≡ Some (pages p) → image pages (Ended pass page how ∷ h) p ≡ Some (pages p)
    go true same rest = image-ended_page pages pass page how h p same ∙ (ap (λ o. image_after pages p o (ended_ok how) (image pages h p)) none ∙ rest)
    go false other rest = image-ended_other pages pass page how h p other ∙ rest
image-unbegun pages (Synced pass how ∷ h) p none = image-unbegun pages h p none

-- whether the last transfer of the page that ended did not fail hangs on no opening page
known-after : (pages others : ℕ → List ℕ) (p : ℕ) (o : Option (List Effect)) (good : Bool) (a b : Option (List ℕ)) → is_some a ≡ is_some b → is_some (image_after pages p o good a) ≡ is_some (image_after others p o good b)
known-after pages others p None good a b same = same
known-after pages others p (Some front) false a b same = refl
known-after pages others p (Some front) true a b same = refl

pub image-known : (pages others : ℕ → List ℕ) (h : List Effect) (p : ℕ) → is_some (image pages h p) ≡ is_some (image others h p)
unfolding image
image-known pages others [] p = refl
image-known pages others (Did pass call reply ∷ h) p = image-known pages others h p
image-known pages others (CameIn pass page from_disk ∷ h) p = image-known pages others h p
image-known pages others (WentOut pass page ∷ h) p = image-known pages others h p
image-known pages others (Began pass page ∷ h) p = image-known pages others h p
image-known pages others (Ended pass page how ∷ h) p = go (page == p) refl (image-known pages others h p)
  where
    go : (b : Bool) → (page == p) ≡ b → is_some (image pages h p) ≡ is_some (image others h p) → is_some (image pages (Ended pass page how ∷ h) p) ≡ is_some (image others (Ended pass page how ∷ h) p)
    go true same rest =
        ap is_some (image-ended_page pages pass page how h p same)
        ∙ (known-after pages others p (begun h p) (ended_ok how) (image pages h p) (image others h p) rest
        ∙ ap is_some (sym (image-ended_page others pass page how h p same)))
    go false other rest =
        ap is_some (image-ended_other pages pass page how h p other) ∙ (rest ∙ ap is_some (sym (image-ended_other others pass page how h p other)))
image-known pages others (Synced pass how ∷ h) p = image-known pages others h p

-- the byte of the image
pub on_disk-image : (pages : ℕ → List ℕ) (h : List Effect) (i : ℕ) (bytes : List ℕ) → image pages h (i / 4096) ≡ Some bytes → on_disk pages false h i ≡ slice_index bytes (i - 4096 * (i / 4096))
unfolding on_disk image
on_disk-image pages [] i bytes is = at (i % 4096) (i - 4096 * (i / 4096)) (pages (i / 4096)) (omega arith) is
  where
    at : (j k : ℕ) (page : List ℕ) → j ≡ k → Some page ≡ Some bytes → slice_index page j ≡ slice_index bytes k
    at j k page same it = let e : page ≡ bytes = cc in cc
on_disk-image pages (Did pass call reply ∷ h) i bytes is = on_disk-image pages h i bytes is
on_disk-image pages (CameIn pass page from_disk ∷ h) i bytes is = on_disk-image pages h i bytes is
on_disk-image pages (WentOut pass page ∷ h) i bytes is = on_disk-image pages h i bytes is
on_disk-image pages (Began pass page ∷ h) i bytes is = on_disk-image pages h i bytes is
on_disk-image pages (Ended pass page how ∷ h) i bytes is = go (page == i / 4096) refl (on_disk-image pages h i bytes)
  where
    moved : (j k : ℕ) (page : List ℕ) → j ≡ k → page ≡ bytes → slice_index page j ≡ slice_index bytes k
    moved j k page same it = cc

    same_bytes : (x y : List ℕ) → Some x ≡ Some y → x ≡ y
    same_bytes x y e = cc

    ended : (o : Option (List Effect)) → begun h (i / 4096) ≡ o → (good : Bool) → image_after pages (i / 4096) o good (image pages h (i / 4096)) ≡ Some bytes → (image pages h (i / 4096) ≡ Some bytes → on_disk pages false h i ≡ slice_index bytes (i - 4096 * (i / 4096))) → on_disk pages good h i ≡ slice_index bytes (i - 4096 * (i / 4096))
    ended None none false it rest = rest it
    ended None none true it rest =
        on_disk-unbegun pages h i none
        ∙ moved (i % 4096) (i - 4096 * (i / 4096)) (pages (i / 4096)) (omega arith) (same_bytes (pages (i / 4096)) bytes (sym (image-unbegun pages h (i / 4096) none) ∙ it))
    ended (Some front) some false it rest = absurd (cc)
    ended (Some front) some true it rest =
        on_disk-begun pages h front i some
        ∙ (sym (page_bytes-at pages front (i / 4096) i (omega arith) (omega arith))
        ∙ ap (λ bs. slice_index bs (i - 4096 * (i / 4096))) (same_bytes (page_bytes pages front (i / 4096)) bytes it))

    go : (b : Bool) → (page == i / 4096) ≡ b → (image pages h (i / 4096) ≡ Some bytes → on_disk pages false h i ≡ slice_index bytes (i - 4096 * (i / 4096))) → on_disk pages (page == i / 4096 && ended_ok how) h i ≡ slice_index bytes (i - 4096 * (i / 4096))
    go true same rest =
        ap (λ b. on_disk pages (b && ended_ok how) h i) same
        ∙ ended (begun h (i / 4096)) refl (ended_ok how) (sym (image-ended_page pages pass page how h (i / 4096) same) ∙ is) rest
    go false other rest =
        ap (λ b. on_disk pages (b && ended_ok how) h i) other
        ∙ rest (sym (image-ended_other pages pass page how h (i / 4096) other) ∙ is)
on_disk-image pages (Synced pass how ∷ h) i bytes is = on_disk-image pages h i bytes is

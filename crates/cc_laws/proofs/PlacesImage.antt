-- The image of a page, said of places: the front of the last transfer of it that began and ended well.
use Rattle.std.specs.Prelude.{◌≡◌, ℕ, Bool, true, false, ◌==◌, ◌&&◌, ◌||◌, ◌⊎◌, cond, List, [], ◌∷◌, ◌++◌, refl}
use Rattle.std.specs.declared.option.Option.{Option}
use Rattle.std.specs.declared.option.Option.TheVariants.{Some, None}
use Rattle.std.proofs.Common.{ap, sym, ◌∙◌, inl, inr}
use Rattle.std.proofs.lemmas.Bool.{or_parts, or_from, or_left, or_right, cond-true, cond-false}
use Rattle.cc_model.specs.History.{Effect, Did, CameIn, WentOut, Began, Ended, Synced}
use Rattle.cc_model.specs.Sizes.{ended_ok}
use Rattle.cc_model.specs.Images.{begun, image_after, image}
use Rattle.cc_laws.specs.ByPlaces.{some_effect, begins_page_transfer, ends_page_transfer, ends_well, LastPlace}
use Rattle.cc_laws.specs.ByPlacesImage.{LastTransfer, ends_begun, image_left_by}
use Rattle.cc_laws.proofs.ImageSteps.{image-ended_page, image-ended_other, begun-began_page, begun-began_other}
use Rattle.cc_laws.proofs.PlacesLast.{some-first, last-place}

begun-effect : (e : Effect) (h : List Effect) (p : ℕ) → begun (e ∷ h) p ≡ cond (begins_page_transfer p e) (Some h) (begun h p)
unfolding begun
begun-effect (Did pass call reply) h p = refl
begun-effect (CameIn pass page from_disk) h p = refl
begun-effect (WentOut pass page) h p = refl
begun-effect (Began pass page) h p = go (page == p) refl
  where
    go : (b : Bool) → (page == p) ≡ b → begun (Began pass page ∷ h) p ≡ cond b (Some h) (begun h p)
    go true is = begun-began_page pass page h p is
    go false is = begun-began_other pass page h p is
begun-effect (Ended pass page how) h p = refl
begun-effect (Synced pass how) h p = refl

image-effect : (pages : ℕ → List ℕ) (e : Effect) (h : List Effect) (p : ℕ) → image pages (e ∷ h) p ≡ cond (ends_page_transfer p e) (image_after pages p (begun h p) (ends_well p e) (image pages h p)) (image pages h p)
unfolding image
image-effect pages (Did pass call reply) h p = refl
image-effect pages (CameIn pass page from_disk) h p = refl
image-effect pages (WentOut pass page) h p = refl
image-effect pages (Began pass page) h p = refl
image-effect pages (Ended pass page how) h p = go (page == p) refl
  where
    go : (b : Bool) → (page == p) ≡ b → image pages (Ended pass page how ∷ h) p ≡ cond b (image_after pages p (begun h p) (b && ended_ok how) (image pages h p)) (image pages h p)
    go true is = image-ended_page pages pass page how h p is
    go false is = image-ended_other pages pass page how h p is
image-effect pages (Synced pass how) h p = refl

begun-last : (between : List Effect) (e : Effect) (front : List Effect) (p : ℕ) → begins_page_transfer p e ≡ true → some_effect (λ b before. begins_page_transfer p b) between (e ∷ front) ≡ false → begun (between ++ e ∷ front) p ≡ Some front
begun-last [] e front p is first = begun-effect e front p ∙ cond-true (begins_page_transfer p e) _ _ is
begun-last (x ∷ between) e front p is first =
    let k = or_parts (begins_page_transfer p x) _ first in
    begun-effect x (between ++ e ∷ front) p ∙ cond-false (begins_page_transfer p x) _ _ k.0 ∙ begun-last between e front p is k.1

begun-none : (h : List Effect) (p : ℕ) → some_effect (λ b before. begins_page_transfer p b) h [] ≡ false → begun h p ≡ None
unfolding begun
begun-none [] p none = refl
begun-none (e ∷ h) p none =
    let k = or_parts (begins_page_transfer p e) _ none in
    begun-effect e h p ∙ cond-false (begins_page_transfer p e) _ _ k.0 ∙ begun-none h p k.1

after-begun : (pages : ℕ → List ℕ) (p : ℕ) (front : List Effect) (good : Bool) (old : Option (List ℕ)) → image_after pages p (Some front) good old ≡ image_left_by pages p front good
after-begun pages p front true old = refl
after-begun pages p front false old = refl

image-at : (pages : ℕ → List ℕ) (after : List Effect) (e : Effect) (h front : List Effect) (p : ℕ) → ends_page_transfer p e ≡ true → some_effect (λ x before. ends_page_transfer p x) after (e ∷ h) ≡ false → begun h p ≡ Some front → image pages (after ++ e ∷ h) p ≡ image_left_by pages p front (ends_well p e)
image-at pages [] e h front p is last began =
    image-effect pages e h p ∙ cond-true (ends_page_transfer p e) _ _ is ∙ ap (λ o. image_after pages p o (ends_well p e) (image pages h p)) began ∙ after-begun pages p front (ends_well p e) (image pages h p)
image-at pages (x ∷ after) e h front p is last began =
    let k = or_parts (ends_page_transfer p x) _ last in
    image-effect pages x (after ++ e ∷ h) p ∙ cond-false (ends_page_transfer p x) _ _ k.0 ∙ image-at pages after e h front p is k.1 began

-- the image is what the last transfer left
pub image-places : (pages : ℕ → List ℕ) (h : List Effect) (p : ℕ) (k : LastTransfer h p) → image pages h p ≡ image_left_by pages p k.front (ends_well p k.its_end)
image-places pages h p k =
    ap (λ (g : List Effect). image pages g p) k.places
    ∙ image-at pages k.after k.its_end (k.between ++ k.begin ∷ k.front) k.front p k.ends_it k.last (begun-last k.between k.begin k.front p k.begins_it k.same_transfer)

-- and the opening page where no transfer ended
pub image-opening : (pages : ℕ → List ℕ) (h : List Effect) (p : ℕ) → some_effect (ends_begun p) h [] ≡ false → image pages h p ≡ Some (pages p)
unfolding image
image-opening pages [] p none = refl
image-opening pages (e ∷ h) p none =
    let k = or_parts (ends_begun p e h) _ (sym (some-first (ends_begun p) e h) ∙ none) in
    image-effect pages e h p ∙ go (ends_page_transfer p e) (some_effect (λ b before. begins_page_transfer p b) h []) refl k.0 ∙ image-opening pages h p k.1
  where
    go : (b began : Bool) → some_effect (λ b before. begins_page_transfer p b) h [] ≡ began → (b && began) ≡ false → cond b (image_after pages p (begun h p) (ends_well p e) (image pages h p)) (image pages h p) ≡ image pages h p
    go true true is never = absurd (cc)
    go true false is never = ap (λ o. image_after pages p o (ends_well p e) (image pages h p)) (begun-none h p is)
    go false began is never = refl

-- one of the two is there
has-begin : (xs : List Effect) (b : Effect) (ys : List Effect) (p : ℕ) → begins_page_transfer p b ≡ true → some_effect (λ x before. begins_page_transfer p x) (xs ++ b ∷ ys) [] ≡ true
has-begin [] b ys p is = or_left (begins_page_transfer p b) _ is
has-begin (x ∷ xs) b ys p is = or_right (begins_page_transfer p x) _ (has-begin xs b ys p is)

has-begin_after : (xs : List Effect) (e : Effect) (rest : List Effect) (p : ℕ) → some_effect (λ x before. begins_page_transfer p x) rest [] ≡ true → some_effect (λ x before. begins_page_transfer p x) (xs ++ e ∷ rest) [] ≡ true
has-begin_after [] e rest p is = or_right (begins_page_transfer p e) _ is
has-begin_after (x ∷ xs) e rest p is = or_right (begins_page_transfer p x) _ (has-begin_after xs e rest p is)

has-begun : (h : List Effect) (p : ℕ) → LastTransfer h p → some_effect (λ x before. begins_page_transfer p x) h [] ≡ true
has-begun h p k =
    ap (λ (g : List Effect). some_effect (λ x before. begins_page_transfer p x) g []) k.places
    ∙ has-begin_after k.after k.its_end (k.between ++ k.begin ∷ k.front) p (has-begin k.between k.begin k.front p k.begins_it)

LastTransfer-has : (h : List Effect) (p : ℕ) → some_effect (ends_begun p) h [] ≡ true → LastTransfer h p
LastTransfer-has [] p is = absurd (cc)
LastTransfer-has (e ∷ h) p is = go (ends_page_transfer p e) (some_effect (λ b before. begins_page_transfer p b) h []) refl refl (sym (some-first (ends_begun p) e h) ∙ is) (LastTransfer-has h p)
  where
    later : ends_page_transfer p e ≡ false → LastTransfer h p → LastTransfer (e ∷ h) p
    later other k =
        record {
          after = e ∷ k.after;
          its_end = k.its_end;
          between = k.between;
          begin = k.begin;
          front = k.front;
          places = ap (λ (g : List Effect). e ∷ g) k.places;
          begins_it = k.begins_it;
          ends_it = k.ends_it;
          last = or_from _ _ other k.last;
          same_transfer = k.same_transfer;
        }

    here : ends_page_transfer p e ≡ true → LastPlace (λ b before. begins_page_transfer p b) h → LastTransfer (e ∷ h) p
    here ends_it k =
        record {
          after = [];
          its_end = e;
          between = k.later;
          begin = k.effect;
          front = k.before;
          places = ap (λ (g : List Effect). e ∷ g) k.places;
          begins_it = k.passes;
          ends_it = ends_it;
          last = refl;
          same_transfer = k.last;
        }

    go : (a b : Bool) → ends_page_transfer p e ≡ a → some_effect (λ x before. begins_page_transfer p x) h [] ≡ b → (ends_begun p e h || some_effect (ends_begun p) h []) ≡ true → (some_effect (ends_begun p) h [] ≡ true → LastTransfer h p) → LastTransfer (e ∷ h) p
    go true true ends_it began it rest = here ends_it (last-place (λ b before. begins_page_transfer p b) h began)
    go true false ends_it never it rest = absurd (both_ways (rest (tail (ends_page_transfer p e) _ _ never it)))
      where
        tail : (a b c : Bool) → b ≡ false → ((a && b) || c) ≡ true → c ≡ true
        tail true true c x y = absurd (cc)
        tail true false c x y = y
        tail false b c x y = y

        both_ways : LastTransfer h p → ⊥
        both_ways k = absurd (cc (never, has-begun h p k))
    go false b other began it rest = later other (rest (tail (ends_page_transfer p e) _ _ other it))
      where
        tail : (a b c : Bool) → a ≡ false → ((a && b) || c) ≡ true → c ≡ true
        tail true b c x y = absurd (cc)
        tail false b c x y = y

pub transfer-or_none : (h : List Effect) (p : ℕ) → LastTransfer h p ⊎ (some_effect (ends_begun p) h [] ≡ false)
transfer-or_none h p = go (some_effect (ends_begun p) h []) refl
  where
    go : (b : Bool) → some_effect (ends_begun p) h [] ≡ b → LastTransfer h p ⊎ (some_effect (ends_begun p) h [] ≡ false)
    go true is = inl (LastTransfer-has h p is)
    go false is = inr is

-- What an open transfer says of its page, and what a page keeps since its transfer began.
use Rattle.std.specs.Prelude.{◌≡◌, ℕ, ◌+◌, ◌*◌, ◌<◌, ◌≤◌, Bool, true, false, List, [], ◌∷◌, refl}
use Rattle.std.proofs.Common.{ap, sym, ◌∙◌}
use Rattle.std.proofs.lemmas.Bool.{eq-eqb}
use Rattle.std.specs.declared.option.Option.TheVariants.{Some}
use Rattle.cc_model.specs.History.{Effect, Did, CameIn, WentOut, Began, Ended, Synced}
use Rattle.cc_model.specs.Acts.{Act, act_of, Discards}
use Rattle.cc_model.specs.Objects.{had_map}
use Rattle.cc_model.specs.Touches.{sizes, touches, valid_of, is_dirty}
use Rattle.cc_model.specs.Bytes.{content}
use Rattle.cc_model.specs.Images.{Transfer, open_of, begun}
use Rattle.cc_laws.specs.ByPlaces.{act_discards}
use Rattle.cc_laws.proofs.ImageSteps.{begun-began_page}
use Rattle.cc_laws.proofs.Steady.{DiscardsSettled, IsSteady}
use Rattle.cc_laws.proofs.FirstMap.{IsFirst-steady}
use Rattle.cc_laws.proofs.KeptBytes.{IsKeptByte-done}

-- while a transfer is open nothing is discarded
none_discarded : (h : List Effect) (t : Transfer) (p : ℕ) (a : Act) → DiscardsSettled h a → open_of h ≡ Some t → act_discards a p ≡ false
none_discarded h t p (Discards span) settled under = absurd (cc (settled.no_transfer, under))
none_discarded h t p other settled under = refl

-- while a transfer is open its page is dirty, or has no byte below the valid data length
pub open_is_dirty : (h : List Effect) → IsSteady h → (t : Transfer) → open_of h ≡ Some t → (i : ℕ) → 4096 * t.page ≤ i → i < 4096 * t.page + 4096 → touches false h t.page ≡ [] → i < valid_of h → ⊥
unfolding open_of sizes touches
open_is_dirty [] steady t under i low high clean below = absurd (cc)
open_is_dirty (Did pass call reply ∷ h) steady t under i low high clean below =
    go (open_is_dirty h steady.1 t under i low high) (had_map h) refl
  where
    go : (touches false h t.page ≡ [] → i < valid_of h → ⊥) → (b : Bool) → had_map h ≡ b → ⊥
    go before true had =
        let apart = none_discarded h t t.page (act_of call) steady.0.settled under in
        let k = IsKeptByte-done (λ p. []) false pass call reply h t.page i low high clean below steady.0 had apart in
        before k.kept.clean k.kept.below
    go before false never = let none = (IsFirst-steady h steady.1 never).no_transfer in absurd (cc (none, under))
open_is_dirty (CameIn pass page from_disk ∷ h) steady t under i low high clean below = open_is_dirty h steady.1 t under i low high clean below
open_is_dirty (WentOut pass page ∷ h) steady t under i low high clean below = open_is_dirty h steady.1 t under i low high clean below
open_is_dirty (Began pass page ∷ h) steady t under i low high clean below =
    dirty-clean h page t.page (ap_page _ _ under) steady.0 clean
  where
    ap_page : (s u : Transfer) → Some s ≡ Some u → s.page ≡ u.page
    ap_page s u e = let same : s ≡ u = cc in ap (λ (v : Transfer). v.page) same

    dirty-clean : (g : List Effect) (p q : ℕ) → p ≡ q → is_dirty g p ≡ true → touches false g q ≡ [] → ⊥
    dirty-clean g p q same dirty none = absurd (cc)
open_is_dirty (Ended pass page how ∷ h) steady t under i low high clean below = absurd (cc)
open_is_dirty (Synced pass how ∷ h) steady t under i low high clean below = open_is_dirty h steady.1 t under i low high clean below

-- the transfer of the page began, and at its front the byte lay below the valid data length too, with the
-- same content
pub record IsSinceBegin (pages : ℕ → List ℕ) (h : List Effect) (p i : ℕ) : Type 0 where
  pub front : List Effect
  pub is : begun h p ≡ Some front
  pub below : i < valid_of front
  pub same : content pages front i ≡ content pages h i

-- of a page that nothing touched since its open transfer began
pub IsSinceBegin-untouched : (pages : ℕ → List ℕ) (h : List Effect) (pass p : ℕ) → IsSteady h → open_of h ≡ Some (record { pass = pass; page = p }) → (i : ℕ) → 4096 * p ≤ i → i < 4096 * p + 4096 → touches true h p ≡ [] → i < valid_of h → IsSinceBegin pages h p i
unfolding open_of begun sizes touches content
IsSinceBegin-untouched pages [] by p steady under i low high clean below = absurd (cc)
IsSinceBegin-untouched pages (Did pass call reply ∷ h) by p steady under i low high clean below =
    go (IsSinceBegin-untouched pages h by p steady.1 under i low high) (had_map h) refl
  where
    go : (touches true h p ≡ [] → i < valid_of h → IsSinceBegin pages h p i) → (b : Bool) → had_map h ≡ b → IsSinceBegin pages (Did pass call reply ∷ h) p i
    go before true had =
        let apart = none_discarded h (record { pass = by; page = p }) p (act_of call) steady.0.settled under in
        let k = IsKeptByte-done pages true pass call reply h p i low high clean below steady.0 had apart in
        let m = before k.kept.clean k.kept.below in
        record { front = m.front; is = m.is; below = m.below; same = m.same ∙ sym k.same }
    go before false never = let none = (IsFirst-steady h steady.1 never).no_transfer in absurd (cc (none, under))
IsSinceBegin-untouched pages (CameIn pass page from_disk ∷ h) by p steady under i low high clean below =
    let k = IsSinceBegin-untouched pages h by p steady.1 under i low high clean below in record { front = k.front; is = k.is; below = k.below; same = k.same }
IsSinceBegin-untouched pages (WentOut pass page ∷ h) by p steady under i low high clean below =
    let k = IsSinceBegin-untouched pages h by p steady.1 under i low high clean below in record { front = k.front; is = k.is; below = k.below; same = k.same }
IsSinceBegin-untouched pages (Began pass page ∷ h) by p steady under i low high clean below =
    record { front = h; is = begun-began_page pass page h p (eq-eqb page p (same_page _ _ under)); below = below; same = refl }
  where
    same_page : (s u : Transfer) → Some s ≡ Some u → s.page ≡ u.page
    same_page s u e = let whole : s ≡ u = cc in ap (λ (v : Transfer). v.page) whole
IsSinceBegin-untouched pages (Ended pass page how ∷ h) by p steady under i low high clean below = absurd (cc)
IsSinceBegin-untouched pages (Synced pass how ∷ h) by p steady under i low high clean below =
    let k = IsSinceBegin-untouched pages h by p steady.1 under i low high clean below in record { front = k.front; is = k.is; below = k.below; same = k.same }

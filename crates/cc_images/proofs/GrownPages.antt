-- A page that is not dirty has not grown.
use Rattle.std.specs.Prelude.{◌≡◌, ℕ, ◌+◌, ◌*◌, ◌<◌, ◌≤◌, Bool, true, false, ◌==◌, ◌&&◌, min, max, List, [], ◌∷◌, refl}
use Rattle.std.proofs.Common.{ap, sym, subst, ◌∙◌, arith}
use Rattle.std.proofs.lemmas.Bool.{eqb-true, eq-eqb, ltb-true, ltb-false}
use Rattle.std.specs.declared.option.Option.TheVariants.{Some}
use Rattle.cc_entry.specs.declared.call.Call.{Call}
use Rattle.cc_entry.specs.declared.reply.Reply.{Reply}
use Rattle.cc_entry.specs.declared.entry.Entry.{Entry}
use Rattle.cc_model.specs.Setup.{Setup}
use Rattle.cc_model.specs.History.{Effect, Did, CameIn, WentOut, Began, Ended, Synced, history}
use Rattle.cc_model.specs.Acts.{Act, act_of, Discards}
use Rattle.cc_model.specs.Objects.{had_map}
use Rattle.cc_model.specs.Sizes.{Sizes, Touch, ended_ok}
use Rattle.cc_model.specs.Touches.{sizes, touches, valid_of, is_dirty}
use Rattle.cc_model.specs.Images.{Transfer, open_of}
use Rattle.cc_model.specs.Discards.{least_valid, low_since, low_of, has_grown}
use Rattle.cc_model.specs.Good.{IsGoodSoFar}
use Rattle.cc_laws.specs.ByPlaces.{act_discards}
use Rattle.cc_laws.proofs.TouchSteps.{touches-ended_good, touches-ended_bad, touches-ended_other}
use Rattle.cc_laws.proofs.SizeSteps.{sizes-discards}
use Rattle.cc_laws.proofs.Steady.{DiscardsSettled, IsSteady}
use Rattle.cc_laws.proofs.SteadyPasts.{IsSteady-good}
use Rattle.cc_laws.proofs.KeptBytes.{IsKeptByte-done}
use Rattle.cc_images.proofs.LowSteps.{low-done, low-came_in, low-went_out, low-synced, low-began, low-began_page, low-ended_good, low-ended_other}
use Rattle.cc_images.proofs.DroppedPages.{DropsNoGrown, DropsNone, DropsNone-good}

-- a byte below the valid data length, and its least one, stays so
least-below : (had : Bool) (now before i : ℕ) → i < now → (had ≡ true → i < before) → i < least_valid had now before
least-below true now before i below was = let k : i < before = was refl in omega arith
least-below false now before i below was = below

-- while a transfer is open nothing is discarded
none_discarded : (h : List Effect) (t : Transfer) (p : ℕ) (a : Act) → DiscardsSettled h a → open_of h ≡ Some t → act_discards a p ≡ false
none_discarded h t p (Discards span) settled under = absurd (cc (settled.no_transfer, under))
none_discarded h t p other settled under = refl

same_page : (s u : Transfer) → Some s ≡ Some u → s.page ≡ u.page
same_page s u e = let whole : s ≡ u = cc in ap (λ (v : Transfer). v.page) whole

-- a page that nothing touched since its open transfer began has not grown since
begun-below : (h : List Effect) (t : Transfer) → IsSteady h → open_of h ≡ Some t → (i : ℕ) → 4096 * t.page ≤ i → i < 4096 * t.page + 4096 → touches true h t.page ≡ [] → i < valid_of h → i < low_since true h t.page
unfolding open_of sizes touches
begun-below [] t steady under i low high clean below = absurd (cc)
begun-below (Did pass call reply ∷ h) t steady under i low high clean below =
    subst (λ n. i < n) (sym (low-done true pass call reply h t.page))
    (least-below (had_map h) _ _ i below (was (begun-below h t steady.1 under i low high)))
  where
    was : (touches true h t.page ≡ [] → i < valid_of h → i < low_since true h t.page) → had_map h ≡ true → i < low_since true h t.page
    was before had =
        let apart = none_discarded h t t.page (act_of call) steady.0.settled under in
        let k = IsKeptByte-done (λ p. []) true pass call reply h t.page i low high clean below steady.0 had apart in
        before k.kept.clean k.kept.below
begun-below (CameIn pass page from_disk ∷ h) t steady under i low high clean below =
    subst (λ n. i < n) (sym (low-came_in true pass page from_disk h t.page)) (begun-below h t steady.1 under i low high clean below)
begun-below (WentOut pass page ∷ h) t steady under i low high clean below =
    subst (λ n. i < n) (sym (low-went_out true pass page h t.page)) (begun-below h t steady.1 under i low high clean below)
begun-below (Began pass page ∷ h) t steady under i low high clean below =
    subst (λ n. i < n) (sym (low-began_page pass page h t.page (eq-eqb page t.page (same_page _ _ under)))) below
begun-below (Ended pass page how ∷ h) t steady under i low high clean below = absurd (cc)
begun-below (Synced pass how ∷ h) t steady under i low high clean below =
    subst (λ n. i < n) (sym (low-synced true pass how h t.page)) (begun-below h t steady.1 under i low high clean below)

-- a page that has not grown has each of its valid bytes below its least valid data length
below-grown : (h : List Effect) (p i : ℕ) → has_grown h p ≡ false → 4096 * p ≤ i → i < 4096 * p + 4096 → i < valid_of h → i < low_of h p
below-grown h p i none low high below =
    let k : min (4096 * p + 4096) (valid_of h) ≤ max (4096 * p) (low_of h p) = ltb-false _ _ none in
    omega arith

no_touch : (h : List Effect) (p : ℕ) → is_dirty h p ≡ false → touches false h p ≡ []
no_touch h p clean = go (touches false h p) refl
  where
    go : (ts : List Touch) → touches false h p ≡ ts → ts ≡ []
    go [] is = refl
    go (t ∷ ts) is = absurd (cc)

-- a page that an act discards
dropped-below : (pass : ℕ) (call : Call) (reply : Reply) (h : List Effect) (p i : ℕ) → DropsNoGrown h (act_of call) → act_discards (act_of call) p ≡ true → 4096 * p ≤ i → i < 4096 * p + 4096 → i < valid_of (Did pass call reply ∷ h) → (touches false h p ≡ [] → i < valid_of h → i < low_of h p) → i < low_of h p
dropped-below pass call reply h p i none drops low high below before = go (act_of call) refl none drops
  where
    go : (a : Act) → act_of call ≡ a → DropsNoGrown h a → act_discards a p ≡ true → i < low_of h p
    go (Discards span) is free has =
        let was : i < valid_of h = subst (λ (s : Sizes). i < s.valid) (sizes-discards pass call reply h is) below in
        at (is_dirty h p) refl was
      where
        at : (b : Bool) → is_dirty h p ≡ b → i < valid_of h → i < low_of h p
        at true dirty was = below-grown h p i (free p dirty has) low high was
        at false clean was = before (no_touch h p clean) was
    go other is free has = absurd (cc)

clean-below : (h : List Effect) (p i : ℕ) → IsSteady h → DropsNone h → 4096 * p ≤ i → i < 4096 * p + 4096 → touches false h p ≡ [] → i < valid_of h → i < low_of h p
unfolding sizes touches
clean-below [] p i steady drops low high clean below = absurd (omega arith)
clean-below (Did pass call reply ∷ h) p i steady drops low high clean below =
    subst (λ n. i < n) (sym (low-done false pass call reply h p))
    (least-below (had_map h) _ _ i below (go (clean-below h p i steady.1 drops.1 low high) (act_discards (act_of call) p) refl))
  where
    go : (touches false h p ≡ [] → i < valid_of h → i < low_of h p) → (b : Bool) → act_discards (act_of call) p ≡ b → had_map h ≡ true → i < low_of h p
    go before true has had = dropped-below pass call reply h p i drops.0 has low high below before
    go before false apart had =
        let k = IsKeptByte-done (λ q. []) false pass call reply h p i low high clean below steady.0 had apart in
        before k.kept.clean k.kept.below
clean-below (CameIn pass page from_disk ∷ h) p i steady drops low high clean below =
    subst (λ n. i < n) (sym (low-came_in false pass page from_disk h p)) (clean-below h p i steady.1 drops.1 low high clean below)
clean-below (WentOut pass page ∷ h) p i steady drops low high clean below =
    subst (λ n. i < n) (sym (low-went_out false pass page h p)) (clean-below h p i steady.1 drops.1 low high clean below)
clean-below (Began pass page ∷ h) p i steady drops low high clean below =
    subst (λ n. i < n) (sym (low-began pass page h p)) (clean-below h p i steady.1 drops.1 low high clean below)
clean-below (Ended pass page how ∷ h) p i steady drops low high clean below =
    go (clean-below h p i steady.1 drops.1 low high) (page == p) refl (ended_ok how) refl
  where
    go : (touches false h p ≡ [] → i < valid_of h → i < low_of h p) → (b : Bool) → (page == p) ≡ b → (good : Bool) → ended_ok how ≡ good → i < low_of (Ended pass page how ∷ h) p
    go before false other good is =
        subst (λ n. i < n) (sym (low-ended_other pass page how h p (ap (λ b. b && ended_ok how) other)))
        (before (sym (touches-ended_other false pass page how h p other) ∙ clean) below)
    go before true same true is =
        let under = steady.0 ∙ ap (λ q. Some (record { pass = pass; page = q })) (eqb-true page p same) in
        subst (λ n. i < n) (sym (low-ended_good pass page how h p same is))
        (begun-below h (record { pass = pass; page = p }) steady.1 under i low high (sym (touches-ended_good false pass page how h p same is) ∙ clean) below)
    go before true same false is =
        subst (λ n. i < n) (sym (low-ended_other pass page how h p (ap (λ b. b && ended_ok how) same ∙ is)))
        (before (sym (touches-ended_bad false pass page how h p is) ∙ clean) below)
clean-below (Synced pass how ∷ h) p i steady drops low high clean below =
    subst (λ n. i < n) (sym (low-synced false pass how h p)) (clean-below h p i steady.1 drops.1 low high clean below)

grown-steady : (h : List Effect) (p : ℕ) → IsSteady h → DropsNone h → has_grown h p ≡ true → is_dirty h p ≡ true
grown-steady h p steady drops grown = go (is_dirty h p) refl
  where
    go : (b : Bool) → is_dirty h p ≡ b → b ≡ true
    go true dirty = refl
    go false clean =
        let byte : ℕ = max (4096 * p) (low_of h p) in
        let some : byte < min (4096 * p + 4096) (valid_of h) = ltb-true _ _ grown in
        let k : byte < low_of h p = clean-below h p byte steady drops (omega arith) (omega arith) (no_touch h p clean) (omega arith) in
        absurd (omega arith)

-- in a good journal each page that has grown is dirty
pub grown-dirty : (u : Setup) (past : List Entry) (s : ℕ) → IsGoodSoFar u past → (p : ℕ) → has_grown (history past s) p ≡ true → is_dirty (history past s) p ≡ true
grown-dirty u past s good p = grown-steady (history past s) p (IsSteady-good u past s good) (DropsNone-good u past s good)

-- Resident, said of places: the page came in, and nothing since took it out, cut it, or let the map go.
use Rattle.std.specs.Prelude.{◌≡◌, ℕ, ◌*◌, Bool, true, false, not, ◌==◌, ◌&&◌, ◌||◌, ◌↔◌, nat_lt, nat_le, List, ◌∷◌, refl}
use Rattle.std.specs.declared.option.Option.{Option}
use Rattle.std.specs.declared.option.Option.TheVariants.{Some, None}
use Rattle.std.specs.List.{filter}
use Rattle.std.proofs.Common.{ap, sym, ◌∙◌}
use Rattle.std.proofs.Math.Bool.{and_comm}
use Rattle.std.proofs.lemmas.Bool.{ltb-true, ltb-false, lt-leb, le-leb}
use Rattle.cc_model.specs.Numbers.{is_among, without}
use Rattle.cc_model.specs.History.{Effect, Did, CameIn, WentOut, Began, Ended, Synced}
use Rattle.cc_model.specs.Acts.{Act, act_of, Opens, Closes, Resizes, Writes, Zeroes, Stores, Stamps, Discards, Looks}
use Rattle.cc_model.specs.Objects.{objects, truncation}
use Rattle.cc_model.specs.Ranges.{span_has}
use Rattle.cc_model.specs.Touches.{size_of, is_mapped}
use Rattle.cc_model.specs.Residency.{below, moved_by, residents, is_resident}
use Rattle.cc_laws.specs.ByPlaces.{act_size, act_discards, is_past_size, cuts_page, SincePlace}
use Rattle.cc_laws.specs.ByPlacesResident.{act_stores, brings_page_in, takes_out, comes_in, goes_away}
use Rattle.cc_laws.proofs.BlockLists.{is_among-filter, same-flip}
use Rattle.cc_laws.proofs.ResidencySteps.{residents-mapped, residents-unmapped}
use Rattle.cc_laws.proofs.PlacesLast.{since-place}

pub among-filtered : (test : ℕ → Bool) (p : ℕ) (ns : List ℕ) → is_among p (filter test ns) ≡ (test p && is_among p ns)
among-filtered test p ns = is_among-filter test p ns ∙ and_comm (is_among p ns) (test p)

not-past : (to i : ℕ) → nat_lt i to ≡ not (nat_le to i)
not-past to i = go (nat_lt i to) refl
  where
    go : (b : Bool) → nat_lt i to ≡ b → nat_lt i to ≡ not (nat_le to i)
    go true is = is ∙ ap not (sym (lt-leb to i (ltb-true i to is)))
    go false is = is ∙ ap not (sym (le-leb to i (ltb-false i to is)))

among-below : (o : Option ℕ) (p : ℕ) (pages : List ℕ) → is_among p (below o pages) ≡ (not (is_past_size o p || false) && is_among p pages)
among-below None p pages = refl
among-below (Some to) p pages = among-filtered (λ q. nat_lt (4096 * q) to) p pages ∙ ap (λ b. b && is_among p pages) (not-past to (4096 * p) ∙ same (nat_le to (4096 * p)))
  where
    same : (b : Bool) → not b ≡ not (b || false)
    same true = refl
    same false = refl

pub among-without : (page p : ℕ) (pages : List ℕ) → is_among p (without page pages) ≡ (not (page == p) && is_among p pages)
among-without page p pages = among-filtered (λ m. not (m == page)) p pages ∙ ap (λ b. not b && is_among p pages) (same-flip p page)

pub among-in : (page p : ℕ) (pages : List ℕ) → is_among p (page ∷ without page pages) ≡ ((page == p) || is_among p pages)
among-in page p pages = ap (λ b. (page == p) || b) (among-without page p pages) ∙ go (page == p) (is_among p pages)
  where
    go : (a b : Bool) → (a || (not a && b)) ≡ (a || b)
    go true b = refl
    go false b = refl

-- what an effect leaves of the resident pages has the page where it brings it in, or leaves it
moved-among : (e : Effect) (h : List Effect) (p : ℕ) (pages : List ℕ) → is_among p (moved_by e h pages) ≡ (brings_page_in p e || (not (takes_out p e || cuts_page p e h) && is_among p pages))
moved-among (Did pass call reply) h p pages = go (act_of call) refl
  where
    go : (a : Act) → act_of call ≡ a → is_among p (moved_by (Did pass call reply) h pages) ≡ (act_stores p (act_of call) || (not (is_past_size (act_size (act_of call) h) p || act_discards (act_of call) p) && is_among p pages))
    go (Opens file given quota temporary) is = rw (is, moved_by) refl
    go (Closes file truncate) is = rw (is, moved_by) (among-below (truncation (objects h) (size_of h) file truncate) p pages)
    go (Resizes allocation size) is = rw (is, moved_by) (among-below (Some size) p pages)
    go (Writes at bytes) is = rw (is, moved_by) refl
    go (Zeroes from to) is = rw (is, moved_by) refl
    go (Stores page bytes) is = rw (is, moved_by) (among-in page p pages)
    go (Stamps hold lsn) is = rw (is, moved_by) refl
    go (Discards span) is = rw (is, moved_by) (among-filtered (λ q. not (span_has span q)) p pages)
    go Looks is = rw (is, moved_by) refl
moved-among (CameIn pass page from_disk) h p pages = among-in page p pages
moved-among (WentOut pass page) h p pages = among-without page p pages ∙ go (page == p)
  where
    go : (b : Bool) → (not b && is_among p pages) ≡ (not (b || false) && is_among p pages)
    go true = refl
    go false = refl
moved-among (Began pass page) h p pages = refl
moved-among (Ended pass page how) h p pages = refl
moved-among (Synced pass how) h p pages = refl

resident-effect : (p : ℕ) (e : Effect) (h : List Effect) → is_resident (e ∷ h) p ≡ (comes_in p e h || (not (goes_away p e h) && is_resident h p))
resident-effect p e h = go (is_mapped (e ∷ h)) refl
  where
    kept : (m b t c r : Bool) → m ≡ true → (b || (not (t || c) && r)) ≡ ((m && b) || (not (t || (c || not m)) && r))
    kept true b true c r is = refl
    kept true b false true r is = refl
    kept true b false false r is = refl
    kept false b t c r is = absurd (cc)

    gone : (m b t c r : Bool) → m ≡ false → false ≡ ((m && b) || (not (t || (c || not m)) && r))
    gone true b t c r is = absurd (cc)
    gone false b true c r is = refl
    gone false b false true r is = refl
    gone false b false false r is = refl

    go : (m : Bool) → is_mapped (e ∷ h) ≡ m → is_resident (e ∷ h) p ≡ ((is_mapped (e ∷ h) && brings_page_in p e) || (not (takes_out p e || (cuts_page p e h || not (is_mapped (e ∷ h)))) && is_resident h p))
    go true is = ap (is_among p) (residents-mapped e h is) ∙ moved-among e h p (residents h) ∙ kept (is_mapped (e ∷ h)) (brings_page_in p e) (takes_out p e) (cuts_page p e h) (is_resident h p) is
    go false is = ap (is_among p) (residents-unmapped (e ∷ h) is) ∙ gone (is_mapped (e ∷ h)) (brings_page_in p e) (takes_out p e) (cuts_page p e h) (is_resident h p) is

-- a page is resident since it came in
pub resident-places : (h : List Effect) (p : ℕ) → (is_resident h p ≡ true) ↔ SincePlace (comes_in p) (goes_away p) h
unfolding residents
resident-places h p = since-place (λ (g : List Effect). is_resident g p) (comes_in p) (goes_away p) refl (resident-effect p) h

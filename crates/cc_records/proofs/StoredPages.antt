-- Each page with a byte that became valid since its stream was first initialised is dirty, or its last transfer that ended,
-- ended well.
use Rattle.std.specs.Prelude.{◌≡◌, ℕ, ◌+◌, ◌*◌, ◌<◌, ◌≤◌, Bool, true, false, ◌==◌, ◌||◌, ◌&&◌, is_some, List, [], ◌∷◌, ◌++◌, max, refl}
use Rattle.std.proofs.Common.{arith, ap, sym, subst, ◌∙◌}
use Rattle.std.proofs.lemmas.Bool.{and_parts, eqb-true, eq-eqb}
use Rattle.std.specs.declared.option.Option.{Option}
use Rattle.std.specs.declared.option.Option.TheVariants.{Some, None}
use Rattle.cc_entry.specs.Place.{Range}
use Rattle.cc_entry.specs.declared.call.Call.{Call}
use Rattle.cc_entry.specs.declared.reply.Reply.{Reply}
use Rattle.cc_entry.specs.declared.entry.End.{End}
use Rattle.cc_entry.specs.declared.entry.Entry.{Entry}
use Rattle.cc_model.specs.Setup.{Setup}
use Rattle.cc_model.specs.History.{Effect, Did, CameIn, WentOut, Began, Ended, Synced, history}
use Rattle.cc_model.specs.Acts.{Act, act_of, Discards}
use Rattle.cc_model.specs.Discards.{is_known, has_grown}
use Rattle.cc_model.specs.Good.{IsGoodSoFar}
use Rattle.cc_model.specs.Images.{Transfer, image, begun, open_of}
use Rattle.cc_model.specs.Objects.{had_map}
use Rattle.cc_model.specs.Ranges.{span_has}
use Rattle.cc_model.specs.Records.{first_valid, is_stored}
use Rattle.cc_model.specs.Sizes.{Sizes, Touch, ended_ok}
use Rattle.cc_model.specs.Touches.{sizes, touches, valid_of, is_dirty}
use Rattle.cc_laws.specs.ByPlaces.{act_discards, ends_page_transfer, ends_well}
use Rattle.cc_laws.specs.ByPlacesDirty.{IsTransferredSince}
use Rattle.cc_laws.specs.ByPlacesGrown.{GrownByte}
use Rattle.cc_laws.proofs.ImageSteps.{begun-began_page, image-ended_bad, image-ended_other}
use Rattle.cc_laws.proofs.KeptBytes.{IsKeptByte-done}
use Rattle.cc_laws.proofs.OpenTransfers.{open_is_dirty}
use Rattle.cc_laws.proofs.PlacesGrown.{grown-places}
use Rattle.cc_laws.proofs.SizeSteps.{sizes-discards}
use Rattle.cc_laws.proofs.Steady.{DiscardsSettled, IsSteady}
use Rattle.cc_laws.proofs.SteadyPasts.{IsSteady-good}
use Rattle.cc_laws.proofs.TouchSteps.{touches-ended_bad, touches-ended_other}
use Rattle.cc_records.proofs.FirstMaps.{first-place, first_valid-did, valid-opened, valid-never}
use Rattle.cc_records.proofs.Ungrown.{IsCareful, IsCareful-good, DropsUngrown, dropped}

or_right : (a b : Bool) → b ≡ true → (a || b) ≡ true
or_right true b is = refl
or_right false b is = is

-- a transfer that is open began
open-begun : (h : List Effect) (pass p : ℕ) → open_of h ≡ Some (record { pass = pass; page = p }) → (front : List Effect) × (begun h p ≡ Some front)
unfolding open_of begun
open-begun [] pass p under = absurd (cc)
open-begun (Did by call reply ∷ h) pass p under = open-begun h pass p under
open-begun (CameIn by page from_disk ∷ h) pass p under = open-begun h pass p under
open-begun (WentOut by page ∷ h) pass p under = open-begun h pass p under
open-begun (Began by page ∷ h) pass p under = (h, begun-began_page by page h p (eq-eqb page p (same_page _ _ under)))
  where
    same_page : (s u : Transfer) → Some s ≡ Some u → s.page ≡ u.page
    same_page s u e = let whole : s ≡ u = cc in ap (λ (v : Transfer). v.page) whole
open-begun (Ended by page how ∷ h) pass p under = absurd (cc)
open-begun (Synced by how ∷ h) pass p under = open-begun h pass p under

-- whether a transfer of the page ended
abbrev has_end : List Effect → ℕ → Bool
has_end [] p = false
has_end (e ∷ h) p = ends_page_transfer p e || has_end h p

has_end-at : (after : List Effect) (e : Effect) (front : List Effect) (p : ℕ) → ends_page_transfer p e ≡ true → has_end (after ++ e ∷ front) p ≡ true
has_end-at [] e front p is = rw is refl
has_end-at (first ∷ after) e front p is = or_right (ends_page_transfer p first) _ (has_end-at after e front p is)

has_end-before : (later before : List Effect) (p : ℕ) → has_end later p ≡ true → has_end (later ++ before) p ≡ true
has_end-before [] before p is = absurd (cc)
has_end-before (e ∷ later) before p is = go (ends_page_transfer p e) refl (has_end-before later before p)
  where
    go : (b : Bool) → ends_page_transfer p e ≡ b → (has_end later p ≡ true → has_end (later ++ before) p ≡ true) → (ends_page_transfer p e || has_end (later ++ before) p) ≡ true
    go true here rest = rw here refl
    go false away rest = rw away (rest (ap (λ b. b || has_end later p) (sym away) ∙ is))

ended-well : (e : Effect) (p : ℕ) → ends_well p e ≡ true → ends_page_transfer p e ≡ true
ended-well (Ended pass page how) p is = (and_parts (page == p) (ended_ok how) is).0
ended-well (Did pass call reply) p is = absurd (cc)
ended-well (CameIn pass page from_disk) p is = absurd (cc)
ended-well (WentOut pass page) p is = absurd (cc)
ended-well (Began pass page) p is = absurd (cc)
ended-well (Synced pass how) p is = absurd (cc)

written-ends : (h later before : List Effect) (p : ℕ) → h ≡ later ++ before → IsTransferredSince later p → has_end h p ≡ true
written-ends h later before p places written =
    let within : has_end later p ≡ true = ap (λ l. has_end l p) written.places ∙ has_end-at written.after written.ok_end _ p (ended-well written.ok_end p written.ends_it) in
    ap (λ l. has_end l p) places ∙ has_end-before later before p within

-- what is stored after the end of a transfer
pub stored-ended_page : (pass page : ℕ) (how : End) (h : List Effect) (p : ℕ) → (page == p) ≡ true → is_stored (Ended pass page how ∷ h) p ≡ ended_ok how
unfolding is_stored
stored-ended_page pass page how h p same = rw (same, is_stored) refl

pub stored-ended_other : (pass page : ℕ) (how : End) (h : List Effect) (p : ℕ) → (page == p) ≡ false → is_stored (Ended pass page how ∷ h) p ≡ is_stored h p
unfolding is_stored
stored-ended_other pass page how h p other = rw (other, is_stored) refl

-- a page whose image is known and that is not stored had no transfer that ended
no_end-ended : (pass page : ℕ) (how : End) (h : List Effect) (p : ℕ) → IsSteady (Ended pass page how ∷ h) → is_stored (Ended pass page how ∷ h) p ≡ false → is_known (Ended pass page how ∷ h) p ≡ true → (is_stored h p ≡ false → is_known h p ≡ true → has_end h p ≡ false) → has_end (Ended pass page how ∷ h) p ≡ false
no_end-ended pass page how h p steady out known before = go (page == p) refl
  where
    go : (b : Bool) → (page == p) ≡ b → ((page == p) || has_end h p) ≡ false
    go true same =
        let began = open-begun h pass p (steady.0 ∙ ap (λ q. Some (record { pass = pass; page = q })) (eqb-true page p same)) in
        let lost = image-ended_bad (λ page. []) pass page how h began.0 p same (sym (stored-ended_page pass page how h p same) ∙ out) began.1 in
        absurd (clash (sym (ap is_some lost) ∙ known))
      where
        clash : false ≡ true → ⊥
        clash e = absurd (cc)
    go false other =
        rw other
        (before (sym (stored-ended_other pass page how h p other) ∙ out) (sym (ap is_some (image-ended_other (λ page. []) pass page how h p other)) ∙ known))

no_end : (h : List Effect) (p : ℕ) → IsSteady h → is_stored h p ≡ false → is_known h p ≡ true → has_end h p ≡ false
unfolding is_stored image
no_end [] p steady out known = refl
no_end (Did pass call reply ∷ h) p steady out known = no_end h p steady.1 out known
no_end (CameIn pass page from_disk ∷ h) p steady out known = no_end h p steady.1 out known
no_end (WentOut pass page ∷ h) p steady out known = no_end h p steady.1 out known
no_end (Began pass page ∷ h) p steady out known = no_end h p steady.1 out known
no_end (Ended pass page how ∷ h) p steady out known =
    no_end-ended pass page how h p steady out known (λ o k. no_end h p steady.1 o k)
no_end (Synced pass how ∷ h) p steady out known = no_end h p steady.1 out known

-- a page that did not grow, whose image is known, and that has a valid byte which the first initialise did not make valid
stored-ungrown : (h : List Effect) (p i : ℕ) → IsSteady h → had_map h ≡ true → 4096 * p ≤ i → i < 4096 * p + 4096 → i < valid_of h → first_valid h ≤ i → is_known h p ≡ true → has_grown h p ≡ false → is_stored h p ≡ true
stored-ungrown h p i steady had low high below since known ungrown = go (is_stored h p) refl
  where
    clash : true ≡ false → ⊥
    clash e = absurd (cc)

    go : (b : Bool) → is_stored h p ≡ b → is_stored h p ≡ true
    go true is = is
    go false out =
        let k = first-place h steady had in
        let grown = (grown-places h p).1 (record {
          byte = i;
          low = low;
          high = high;
          valid = below;
          was_past = record {
            later = k.later;
            before = k.before;
            places = k.places;
            past = subst (λ (n : ℕ). n ≤ i) (sym k.least) since;
            initialised = k.initialised;
            unwritten = λ written. clash (sym (written-ends h k.later k.before p k.places written) ∙ no_end h p steady out known);
          };
        }) in
        absurd (clash (sym grown ∙ ungrown))

-- a page that is not dirty has no touch left
no_touch : (h : List Effect) (p : ℕ) → is_dirty h p ≡ false → touches false h p ≡ []
no_touch h p clean = go (touches false h p) refl
  where
    go : (ts : List Touch) → touches false h p ≡ ts → ts ≡ []
    go [] is = refl
    go (t ∷ ts) is = absurd (cc)

-- a discard leaves it
stored-dropped : (pass : ℕ) (call : Call) (reply : Reply) (h : List Effect) (p i : ℕ) → IsSteady (Did pass call reply ∷ h) → DropsUngrown h call → had_map h ≡ true → 4096 * p ≤ i → i < 4096 * p + 4096 → act_discards (act_of call) p ≡ true → i < valid_of (Did pass call reply ∷ h) → first_valid h ≤ i → (touches false h p ≡ [] → i < valid_of h → is_stored h p ≡ true) → is_stored h p ≡ true
stored-dropped pass call reply h p i steady drops had low high has below since before = go (act_of call) refl steady.0.settled has
  where
    go : (a : Act) → act_of call ≡ a → DiscardsSettled h a → act_discards a p ≡ true → is_stored h p ≡ true
    go (Discards span) is settled in_span = by (is_dirty h p) refl
      where
        still : i < valid_of h
        still = subst (λ (s : Sizes). i < s.valid) (sizes-discards pass call reply h is) below

        by : (b : Bool) → is_dirty h p ≡ b → is_stored h p ≡ true
        by true touched = stored-ungrown h p i steady.1 had low high still since (settled.known p in_span touched) (dropped h call span is drops p touched in_span)
        by false untouched = before (no_touch h p untouched) still
    go other is settled in_span = absurd (cc)

-- so does any other call
stored-done : (pass : ℕ) (call : Call) (reply : Reply) (h : List Effect) (p i : ℕ) → IsSteady (Did pass call reply ∷ h) → DropsUngrown h call → 4096 * p ≤ i → i < 4096 * p + 4096 → touches false (Did pass call reply ∷ h) p ≡ [] → i < valid_of (Did pass call reply ∷ h) → first_valid (Did pass call reply ∷ h) ≤ i → (touches false h p ≡ [] → i < valid_of h → first_valid h ≤ i → is_stored h p ≡ true) → is_stored h p ≡ true
stored-done pass call reply h p i steady drops low high clean below since before =
    go (had_map h) refl (act_discards (act_of call) p) refl
  where
    same : had_map h ≡ true → first_valid h ≤ i
    same had = subst (λ (n : ℕ). n ≤ i) (first_valid-did pass call reply h had) since

    never_valid : had_map h ≡ false → (b : Bool) → had_map (Did pass call reply ∷ h) ≡ b → ⊥
    never_valid never true had =
        let first = valid-opened pass call reply h steady.1 never had in absurd (omega (arith, first))
    never_valid never false none = let zero = valid-never (Did pass call reply ∷ h) steady none in absurd (omega (arith, zero))

    go : (b : Bool) → had_map h ≡ b → (drops : Bool) → act_discards (act_of call) p ≡ drops → is_stored h p ≡ true
    go true had true has =
        stored-dropped pass call reply h p i steady drops had low high has below (same had) (λ none still. before none still (same had))
    go true had false apart =
        let k = IsKeptByte-done (λ page. []) false pass call reply h p i low high clean below steady.0 had apart in
        before k.kept.clean k.kept.below (same had)
    go false never b is = absurd (never_valid never (had_map (Did pass call reply ∷ h)) refl)

stored-ended : (pass page : ℕ) (how : End) (h : List Effect) (p i : ℕ) → IsSteady (Ended pass page how ∷ h) → 4096 * p ≤ i → i < 4096 * p + 4096 → touches false (Ended pass page how ∷ h) p ≡ [] → i < valid_of h → (touches false h p ≡ [] → is_stored h p ≡ true) → is_stored (Ended pass page how ∷ h) p ≡ true
stored-ended pass page how h p i steady low high clean below before = go (page == p) refl (ended_ok how) refl
  where
    go : (b : Bool) → (page == p) ≡ b → (good : Bool) → ended_ok how ≡ good → is_stored (Ended pass page how ∷ h) p ≡ true
    go false other good is =
        stored-ended_other pass page how h p other ∙ before (sym (touches-ended_other false pass page how h p other) ∙ clean)
    go true same true is = stored-ended_page pass page how h p same ∙ is
    go true same false is =
        absurd
        (open_is_dirty h steady.1 (record { pass = pass; page = p })
        (steady.0 ∙ ap (λ q. Some (record { pass = pass; page = q })) (eqb-true page p same)) i low high (sym (touches-ended_bad false pass page how h p is) ∙ clean) below)

stored-clean : (h : List Effect) (p i : ℕ) → IsSteady h → IsCareful h → 4096 * p ≤ i → i < 4096 * p + 4096 → touches false h p ≡ [] → i < valid_of h → first_valid h ≤ i → is_stored h p ≡ true
unfolding sizes touches is_stored first_valid
stored-clean [] p i steady careful low high clean below since = absurd (omega arith)
stored-clean (Did pass call reply ∷ h) p i steady careful low high clean below since =
    stored-done pass call reply h p i steady careful.0 low high clean below since
    (λ none still least. stored-clean h p i steady.1 careful.1 low high none still least)
stored-clean (CameIn pass page from_disk ∷ h) p i steady careful low high clean below since = stored-clean h p i steady.1 careful low high clean below since
stored-clean (WentOut pass page ∷ h) p i steady careful low high clean below since = stored-clean h p i steady.1 careful low high clean below since
stored-clean (Began pass page ∷ h) p i steady careful low high clean below since = stored-clean h p i steady.1 careful low high clean below since
stored-clean (Ended pass page how ∷ h) p i steady careful low high clean below since =
    stored-ended pass page how h p i steady low high clean below (λ none. stored-clean h p i steady.1 careful low high none below since)
stored-clean (Synced pass how ∷ h) p i steady careful low high clean below since = stored-clean h p i steady.1 careful low high clean below since

-- of a page with a byte that became valid since
pub stored-good : (u : Setup) (past : List Entry) (s p : ℕ) → IsGoodSoFar u past → first_valid (history past s) < valid_of (history past s) → first_valid (history past s) < 4096 * p + 4096 → 4096 * p < valid_of (history past s) → is_dirty (history past s) p ≡ false → is_stored (history past s) p ≡ true
stored-good u past s p good some reached here clean =
    let h = history past s in
    let i = max (4096 * p) (first_valid h) in
    stored-clean h p i (IsSteady-good u past s good) (IsCareful-good u past s good) (omega arith) (omega arith) (no_touch h p clean) (omega arith) (omega arith)

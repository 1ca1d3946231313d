-- What is said of each begin of a page's transfer, and from there of all that a crash may leave of the page.
use Rattle.std.specs.Prelude.{◌≡◌, ℕ, ◌≤◌, ◌⊎◌, Bool, true, false, not, ◌==◌, List, [], ◌∷◌, ◌++◌, Contains, is_some, refl, if◌then◌else◌}
use Rattle.std.specs.declared.option.Option.{Option}
use Rattle.std.specs.declared.option.Option.TheVariants.{Some, None}
use Rattle.std.proofs.Common.{ap, sym, subst, ◌∙◌, inl, inr, arith, append_assoc}
use Rattle.std.proofs.lemmas.List.Elements.{Contains-push_cases}
use Rattle.cc_entry.specs.Pages.{has_page}
use Rattle.cc_entry.specs.declared.entry.End.TheVariants as how
use Rattle.cc_entry.specs.declared.entry.Entry.{Entry}
use Rattle.cc_entry.specs.declared.entry.Entry.TheVariants as entry
use Rattle.cc_laws.proofs.DiskBytes.{image-known}
use Rattle.cc_laws.proofs.FirstMap.{IsFirst-steady}
use Rattle.cc_laws.proofs.HistorySteps.{history-effect, history-sync}
use Rattle.cc_laws.proofs.ImageSteps.{crash_pages-synced_known}
use Rattle.cc_laws.proofs.Steady.{IsSteady}
use Rattle.cc_laws.proofs.SteadyPasts.{IsSteady-good}
use Rattle.cc_model.specs.Discards.{is_known}
use Rattle.cc_model.specs.Good.{IsGoodSoFar}
use Rattle.cc_model.specs.History.{Effect, Began, effect_of, history}
use Rattle.cc_model.specs.Images.{begun, crash_pages, image}
use Rattle.cc_model.specs.Logs.{flushed_to}
use Rattle.cc_model.specs.Numbers.{is_empty}
use Rattle.cc_model.specs.Objects.{had_map}
use Rattle.cc_model.specs.Setup.{Setup}
use Rattle.cc_model.specs.Touches.{is_dirty, unwritten}
use Rattle.cc_restart_laws.proofs.Entries.{IsBegin, good-tail, updated-tail}
use Rattle.cc_restart_laws.proofs.Fronts.{AreBegun, CrashLeaves, IsKnownAs, IsSince, begun-step, crash-step, known-step, since-step}
use Rattle.cc_restart_laws.proofs.Orders.{IsChange}
use Rattle.cc_restart_laws.proofs.Records.{flushed-grows, range_of}
use Rattle.cc_restart_laws.proofs.Safe.{change-flushed, logged-at}
use Rattle.cc_restart_laws.specs.Updates.{IsUpdated, Updating}

-- a past is a front of the whole
abbrev pub IsFrontOf : List Entry → List Entry → Type 0
IsFrontOf whole past = (later : List Entry) × (whole ≡ later ++ past)

pub front-tail : (whole : List Entry) (e : Entry) (past : List Entry) → IsFrontOf whole (e ∷ past) → IsFrontOf whole past
front-tail whole e past (later, grew) = (later ++ e ∷ [], grew ∙ sym (append_assoc later (e ∷ []) past))

pub front-rest : (whole later past : List Entry) → IsFrontOf whole (later ++ past) → IsFrontOf whole past
front-rest whole [] past front = front
front-rest whole (e ∷ later) past front = front-rest whole later past (front-tail whole e (later ++ past) front)

-- what is said of a front at which a transfer of the page begins
pub record IsBegunFront (u : Setup) (s log p : ℕ) (whole front : List Entry) : Type 0 where
  pub good : IsGoodSoFar u front
  pub updated : IsUpdated s log front
  pub within : IsFrontOf whole front
  pub had : had_map (history front s) ≡ true
  pub flushed : (it : Updating) → IsChange s log it front → has_page (range_of it) p ≡ true → it.lsn ≤ flushed_to whole log

-- and it is at or behind a moment
pub record IsBegunBehind (u : Setup) (s log p : ℕ) (whole base front : List Entry) : Type 0 where
  pub is : IsBegunFront u s log p whole front
  pub later : List Entry
  pub grew : front ≡ later ++ base

dirty-had : (h : List Effect) (p : ℕ) → IsSteady h → is_dirty h p ≡ true → had_map h ≡ true
dirty-had h p steady dirty = go (had_map h) refl
  where
    go : (b : Bool) → had_map h ≡ b → had_map h ≡ true
    go true is = is
    go false never = absurd (none (unwritten h p) ((IsFirst-steady h steady never).untouched p) dirty)
      where
        none : {A : Type 0} (ts : List A) → ts ≡ [] → not (is_empty ts) ≡ true → ⊥
        none [] is some = cc
        none (t ∷ ts) is some = cc

begin-effect : (e : Entry) (s pass p : ℕ) → IsBegin e s pass p → effect_of e s ≡ Some (Began pass p)
begin-effect e s pass p k = ap (λ (x : Entry). effect_of x s) k.is ∙ go (k.place.stream == s) (same k.place.stream k.stream)
  where
    same : (n : ℕ) → n ≡ s → (n == s) ≡ true
    same n is = eq-eqb' n s is
      where
        eq-eqb' : (a b : ℕ) → a ≡ b → (a == b) ≡ true
        eq-eqb' a b is = grind arith

    go : (b : Bool) → b ≡ true → (if b then Some (Began pass k.place.page) else None) ≡ Some (Began pass p)
    go true is = ap (λ (n : ℕ). Some (Began pass n)) k.number
    go false is = absurd (cc)

module _ (u : Setup) (s log p : ℕ) (whole : List Entry) where
  abbrev pub Front : List Entry → Type 0
  Front front = IsBegunFront u s log p whole front

  pub begun-front : (e : Entry) (past : List Entry) → IsGoodSoFar u (e ∷ past) → IsUpdated s log (e ∷ past) → IsFrontOf whole past → (pass : ℕ) → IsBegin e s pass p → Front past
  begun-front e past good updated within pass begin =
      let rest = good-tail u e past good in
      let earlier = updated-tail s log e past updated in
      let steady : IsSteady (Began pass p ∷ history past s) =
      subst (λ (h : List Effect). IsSteady h) (history-effect e past s (Some (Began pass p)) (begin-effect e s pass p begin)) (IsSteady-good u (e ∷ past) s good) in
      record {
        good = rest;
        updated = earlier;
        within = within;
        had = dirty-had (history past s) p steady.1 steady.0;
        flushed = λ it is in_range. bounded it (change-flushed u s log it p past rest earlier (logged-at u e past s pass p p good begin refl) in_range is);
      }
    where
      bounded : (it : Updating) → it.lsn ≤ flushed_to past log → it.lsn ≤ flushed_to whole log
      bounded it least =
          let grows = flushed-grows log within.0 past in
          let same : flushed_to whole log ≡ flushed_to (within.0 ++ past) log = ap (λ (l : List Entry). flushed_to l log) within.1 in
          omega (arith, least, grows, same)

  -- ---- all that a crash may leave

  pub record IsTraced (pages : ℕ → List ℕ) (h : List Effect) : Type 0 where
    pub begins : AreBegun Front s p h
    pub known : IsKnownAs (Unit {0}) Front pages s p h
    pub crash : CrashLeaves (Unit {0}) Front pages s p h

  one-alone : (only bytes : List ℕ) → Contains (only ∷ []) bytes → only ≡ bytes
  one-alone only bytes among = go (Contains-push_cases [] only bytes among)
    where
      go : Contains [] bytes ⊎ (only ≡ bytes) → only ≡ bytes
      go (inl none) = absurd (omega (arith, none.1))
      go (inr is) = is

  some-is : {A : Type 0} (a b : A) → Some a ≡ Some b → a ≡ b
  some-is a b is = cc

  none-some : {A : Type 0} (b : A) → None ≡ Some b → ⊥
  none-some b is = cc

  traced-begun : (pages : ℕ → List ℕ) → IsTraced pages (history [] s)
  unfolding history begun image crash_pages
  traced-begun pages = record {
    begins = λ f is. absurd (none-some f is);
    known = λ bytes is. inl (tt, sym (some-is (pages p) bytes is));
    crash = λ bytes among. inl (tt, sym (one-alone (pages p) bytes among));
  }

  pub traced : (pages : ℕ → List ℕ) (past : List Entry) → IsGoodSoFar u past → IsUpdated s log past → IsFrontOf whole past → IsTraced pages (history past s)
  traced pages [] good updated within = traced-begun pages
  traced pages (e ∷ past) good updated within =
      let before = front-tail whole e past within in
      let k = traced pages past (good-tail u e past good) (updated-tail s log e past updated) before in
      let may = begun-front e past good updated before in
      let now = history-effect e past s (effect_of e s) refl in
      subst (λ (h : List Effect). IsTraced pages h) (sym now) (record {
        begins = begun-step (Unit {0}) Front pages s p e past may (effect_of e s) refl k.begins;
        known = known-step (Unit {0}) Front pages s p e past (effect_of e s) refl k.begins k.known;
        crash = crash-step (Unit {0}) Front pages s p e past may (effect_of e s) refl k.known k.crash;
      })

  -- ---- from a moment on

  module _ (base : List Entry) where
    abbrev pub Behind : List Entry → Type 0
    Behind front = IsBegunBehind u s log p whole base front

    begun-behind : (e : Entry) (later : List Entry) → IsGoodSoFar u (e ∷ (later ++ base)) → IsUpdated s log (e ∷ (later ++ base)) → IsFrontOf whole (later ++ base) → (pass : ℕ) → IsBegin e s pass p → Behind (later ++ base)
    begun-behind e later good updated within pass begin = record { is = begun-front e (later ++ base) good updated within pass begin; later = later; grew = refl }

    pub since-walk : (pages : ℕ → List ℕ) (n : ℕ) (later : List Entry) → IsGoodSoFar u (later ++ base) → IsUpdated s log (later ++ base) → IsFrontOf whole (later ++ base) → IsSince ⊥ Behind pages s p n (history base s) →
        IsSince ⊥ Behind pages s p n (history (later ++ base) s)
    since-walk pages n [] good updated within k = k
    since-walk pages n (e ∷ later) good updated within k =
        let before = front-tail whole e (later ++ base) within in
        subst (λ (h : List Effect). IsSince ⊥ Behind pages s p n h) (sym (history-effect e (later ++ base) s (effect_of e s) refl))
        (since-step ⊥ Behind pages s p u log n e (later ++ base) good updated (begun-behind e later good updated before) (effect_of e s) refl
        (since-walk pages n later (good-tail u e (later ++ base) good) (updated-tail s log e (later ++ base) updated) before k))

    -- the fronts and the image
    pub record IsKnownBehind (pages : ℕ → List ℕ) (h : List Effect) : Type 0 where
      pub begins : AreBegun Behind s p h
      pub known : IsKnownAs ⊥ Behind pages s p h

    pub known-walk : (pages : ℕ → List ℕ) (more since : List Entry) → IsGoodSoFar u (more ++ (since ++ base)) → IsUpdated s log (more ++ (since ++ base)) → IsFrontOf whole (more ++ (since ++ base)) → IsKnownBehind pages (history (since ++ base) s) →
        IsKnownBehind pages (history (more ++ (since ++ base)) s)
    known-walk pages [] since good updated within k = k
    known-walk pages (e ∷ more) since good updated within k =
        let before = front-tail whole e (more ++ (since ++ base)) within in
        let rest = known-walk pages more since (good-tail u e (more ++ (since ++ base)) good) (updated-tail s log e (more ++ (since ++ base)) updated) before k in
        let same : more ++ (since ++ base) ≡ (more ++ since) ++ base = sym (append_assoc more since base) in
        let may = λ (pass : ℕ) (begin : IsBegin e s pass p).
        subst (λ (l : List Entry). Behind l) (sym same)
        (begun-behind e (more ++ since) (subst (λ (l : List Entry). IsGoodSoFar u (e ∷ l)) same good) (subst (λ (l : List Entry). IsUpdated s log (e ∷ l)) same updated) (subst (λ (l : List Entry). IsFrontOf whole l) same before) pass begin) in
        subst (λ (h : List Effect). IsKnownBehind pages h) (sym (history-effect e (more ++ (since ++ base)) s (effect_of e s) refl)) (record {
          begins = begun-step ⊥ Behind pages s p e (more ++ (since ++ base)) may (effect_of e s) refl rest.begins;
          known = known-step ⊥ Behind pages s p e (more ++ (since ++ base)) (effect_of e s) refl rest.begins rest.known;
        })

    pub crash-walk : (pages : ℕ → List ℕ) (more since : List Entry) → IsGoodSoFar u (more ++ (since ++ base)) → IsUpdated s log (more ++ (since ++ base)) → IsFrontOf whole (more ++ (since ++ base)) → IsKnownBehind pages (history (since ++ base) s) →
        CrashLeaves ⊥ Behind pages s p (history (since ++ base) s) → CrashLeaves ⊥ Behind pages s p (history (more ++ (since ++ base)) s)
    crash-walk pages [] since good updated within k crash = crash
    crash-walk pages (e ∷ more) since good updated within k crash =
        let before = front-tail whole e (more ++ (since ++ base)) within in
        let good' = good-tail u e (more ++ (since ++ base)) good in
        let updated' = updated-tail s log e (more ++ (since ++ base)) updated in
        let known = known-walk pages more since good' updated' before k in
        let rest = crash-walk pages more since good' updated' before k crash in
        let same : more ++ (since ++ base) ≡ (more ++ since) ++ base = sym (append_assoc more since base) in
        let may = λ (pass : ℕ) (begin : IsBegin e s pass p).
        subst (λ (l : List Entry). Behind l) (sym same)
        (begun-behind e (more ++ since) (subst (λ (l : List Entry). IsGoodSoFar u (e ∷ l)) same good) (subst (λ (l : List Entry). IsUpdated s log (e ∷ l)) same updated) (subst (λ (l : List Entry). IsFrontOf whole l) same before) pass begin) in
        subst (λ (h : List Effect). CrashLeaves ⊥ Behind pages s p h) (sym (history-effect e (more ++ (since ++ base)) s (effect_of e s) refl))
        (crash-step ⊥ Behind pages s p e (more ++ (since ++ base)) may (effect_of e s) refl known.known rest)

    -- a good sync at which the image is known
    pub synced-leaves : (pages : ℕ → List ℕ) (pass : ℕ) (past : List Entry) → is_known (history past s) p ≡ true → IsKnownBehind pages (history past s) → CrashLeaves ⊥ Behind pages s p (history (entry.Sync pass s how.Good ∷ past) s)
    synced-leaves pages pass past known k = go (image pages (history past s) p) refl (sym (image-known (λ page. []) pages (history past s) p) ∙ known)
      where
        go : (o : Option (List ℕ)) → image pages (history past s) p ≡ o → is_some o ≡ true → CrashLeaves ⊥ Behind pages s p (history (entry.Sync pass s how.Good ∷ past) s)
        go None is some bytes among = absurd (cc)
        go (Some only) is some bytes among =
            let contents : crash_pages pages (history (entry.Sync pass s how.Good ∷ past) s) p ≡ only ∷ [] =
            ap (λ (h : List Effect). crash_pages pages h p) (history-sync pass s how.Good past s (same s)) ∙ crash_pages-synced_known pages pass how.Good (history past s) p only refl is in
            k.known bytes (is ∙ ap (λ (l : List ℕ). Some l) (one-alone only bytes (subst (λ (l : List (List ℕ)). Contains l bytes) contents among)))
          where
            same : (n : ℕ) → (n == n) ≡ true
            same n = grind arith

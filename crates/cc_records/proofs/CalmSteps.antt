-- What stays of a page while a stretch is calm: it is stored, or has a touch that is neither written nor cut since before
-- the stretch, or it went with a size step, and no byte of it is valid again.
use Rattle.std.specs.Prelude.{◌≡◌, ℕ, suc, ◌+◌, ◌*◌, ◌<◌, ◌≤◌, ◌⊎◌, Bool, true, false, not, ◌==◌, ◌||◌, ◌&&◌, nat_lt, nat_le, List, [], ◌∷◌, ◌++◌, length, min, max, refl}
use Rattle.std.specs.List.{list_any, list_all, filter}
use Rattle.std.proofs.Common.{arith, ap, sym, subst, ◌∙◌, inl, inr, ⊎_elim}
use Rattle.std.proofs.lemmas.Bool.{and_parts, eqb-true, ltb-true, ltb-false, leb-true, le-leb, lt-ltb}
use Rattle.std.specs.declared.option.Option.{Option}
use Rattle.std.specs.declared.option.Option.TheVariants.{Some, None}
use Rattle.cc_entry.specs.Place.{File, Range}
use Rattle.cc_entry.specs.Pages.{has_page}
use Rattle.cc_entry.specs.declared.place.FileSizes.{FileSizes}
use Rattle.cc_entry.specs.declared.call.Call.{Call}
use Rattle.cc_entry.specs.declared.reply.Reply.{Reply}
use Rattle.cc_entry.specs.declared.entry.End.{End}
use Rattle.cc_model.specs.Numbers.{is_among, without}
use Rattle.cc_model.specs.History.{Effect, Did, CameIn, WentOut, Began, Ended, Synced}
use Rattle.cc_model.specs.Acts.{Act, act_of, Opens, Closes, Resizes, Writes, Zeroes, Stores, Stamps, Discards, Looks}
use Rattle.cc_model.specs.Holds.{holds_of, hold_at}
use Rattle.cc_model.specs.Objects.{objects, had_map, truncation}
use Rattle.cc_model.specs.Records.{is_stored}
use Rattle.cc_model.specs.Residency.{is_resident, residents, below}
use Rattle.cc_model.specs.Sizes.{Sizes, Touch, touched_if, cut_if, resized_by, ended_ok, hold_has}
use Rattle.cc_model.specs.Touches.{sizes, touches, size_of, valid_of, is_mapped}
use Rattle.cc_laws.proofs.CoveredBytes.{has_page-raised}
use Rattle.cc_laws.proofs.FirstMap.{IsFirst-steady}
use Rattle.cc_laws.proofs.ObjectSteps.{had_map-opens, had_map-closes, had_map-resizes, had_map-writes, had_map-zeroes, had_map-stamps, had_map-looks, had_map-went_out, had_map-began, had_map-ended, had_map-synced}
use Rattle.cc_laws.proofs.PlacesResident.{among-filtered, among-without}
use Rattle.cc_laws.proofs.ResidencySteps.{residents-unmapped, residents-looks, residents-opens, residents-closes, residents-resizes, residents-writes, residents-zeroes, residents-stamps, residents-went_out, residents-began, residents-ended, residents-synced}
use Rattle.cc_laws.proofs.ResidentFacts.{change-resident}
use Rattle.cc_laws.proofs.SafeHistory.{IsSafe, IsEffectSafe, IsActSafe, MayChange}
use Rattle.cc_laws.proofs.SizeSteps.{sizes-opens_mapped, sizes-opens_anew, sizes-closes, sizes-resizes, sizes-writes, sizes-zeroes, sizes-stamps, sizes-looks, sizes-went_out, sizes-began, sizes-ended, sizes-synced}
use Rattle.cc_laws.proofs.Steady.{IsSteady, IsSteadyEffect, BeginsWithin, ComesBackWithin}
use Rattle.cc_laws.proofs.TouchSteps.{touches-opens, touches-closes, touches-resizes, touches-writes, touches-zeroes, touches-stamps, touches-looks, touches-went_out, touches-began_open, touches-ended_other, touches-synced}
use Rattle.cc_records.proofs.StoredPages.{stored-ended_page, stored-ended_other}
use Rattle.cc_records.specs.Calm.{is_calm_act, is_calm_effect}

-- whether one of the touches has a place up to this one
abbrev pub has_old : ℕ → List Touch → Bool
has_old n ts = list_any (λ t. nat_le t.place n) ts

-- a page went, and no byte of it is valid
pub record IsGone (p : ℕ) (h : List Effect) : Type 0 where
  pub had : had_map h ≡ true
  pub absent : is_resident h p ≡ false
  pub short : valid_of h ≤ 4096 * p

abbrev pub IsKept : ℕ → ℕ → List Effect → Type 0
IsKept p n h = (is_stored h p ≡ true) ⊎ ((has_old n (touches false h p) ≡ true) ⊎ IsGone p h)

old-more : (n : ℕ) (b : Bool) (place : ℕ) (lsn : Option ℕ) (ts : List Touch) → has_old n ts ≡ true → has_old n (touched_if b place lsn ts) ≡ true
old-more n false place lsn ts old = old
old-more n true place lsn ts old = go (nat_le place n)
  where
    go : (b : Bool) → (b || has_old n ts) ≡ true
    go true = refl
    go false = old

-- a stream with a touch has a map
had-touched : (h : List Effect) (p n : ℕ) → IsSteady h → has_old n (touches false h p) ≡ true → had_map h ≡ true
had-touched h p n steady old = go (had_map h) refl
  where
    go : (b : Bool) → had_map h ≡ b → had_map h ≡ true
    go true is = is
    go false never = absurd (none (touches false h p) ((IsFirst-steady h steady never).untouched p) old)
      where
        none : (ts : List Touch) → ts ≡ [] → has_old n ts ≡ true → ⊥
        none [] is some = absurd (cc)
        none (t ∷ ts) is some = absurd (cc)

-- a page that is among none is not resident
absent-as : (h : List Effect) (p : ℕ) (pages : List ℕ) → residents h ≡ pages → is_among p pages ≡ false → is_resident h p ≡ false
absent-as h p pages is away = ap (is_among p) is ∙ away

absent-either : (h : List Effect) (p : ℕ) → (is_mapped h ≡ true → is_resident h p ≡ false) → is_resident h p ≡ false
absent-either h p mapped = go (is_mapped h) refl
  where
    go : (b : Bool) → is_mapped h ≡ b → is_resident h p ≡ false
    go true is = mapped is
    go false is = absent-as h p [] (residents-unmapped h is) refl

absent-below : (o : Option ℕ) (p : ℕ) (pages : List ℕ) → is_among p pages ≡ false → is_among p (below o pages) ≡ false
absent-below None p pages away = away
absent-below (Some to) p pages away = among-filtered (λ q. nat_lt (4096 * q) to) p pages ∙ rw away (none (nat_lt (4096 * p) to))
  where
    none : (b : Bool) → (b && false) ≡ false
    none true = refl
    none false = refl

absent-cut : (to p : ℕ) (pages : List ℕ) → to ≤ 4096 * p → is_among p (below (Some to) pages) ≡ false
absent-cut to p pages past = among-filtered (λ q. nat_lt (4096 * q) to) p pages ∙ rw (under (nat_lt (4096 * p) to) refl) refl
  where
    under : (b : Bool) → nat_lt (4096 * p) to ≡ b → nat_lt (4096 * p) to ≡ false
    under false is = is
    under true is = let above = ltb-true (4096 * p) to is in absurd (omega (arith, above))

shorter : (to p valid : ℕ) → to ≤ 4096 * p → min valid to ≤ 4096 * p
shorter to p valid past = omega arith

lower : (o : Option ℕ) (p : ℕ) (s : Sizes) → s.valid ≤ 4096 * p → (resized_by o s).valid ≤ 4096 * p
lower None p s short = short
lower (Some to) p s short = under s.valid short
  where
    under : (valid : ℕ) → valid ≤ 4096 * p → min valid to ≤ 4096 * p
    under valid short = omega arith

-- ---- one step

module _ (pass : ℕ) (call : Call) (reply : Reply) (h : List Effect) (p n : ℕ) where
  abbrev did : Effect
  did = Did pass call reply

  -- a size step leaves the old touches of a page, or takes it away
  kept-cut : (o : Option ℕ) → had_map (did ∷ h) ≡ true → touches false (did ∷ h) p ≡ cut_if o p (touches false h p) →
      (is_mapped (did ∷ h) ≡ true → residents (did ∷ h) ≡ below o (residents h)) → sizes (did ∷ h) ≡ resized_by o (sizes h) →
      has_old n (touches false h p) ≡ true → IsKept p n (did ∷ h)
  kept-cut None had touched resident sized old = inr (inl (ap (has_old n) touched ∙ old))
  kept-cut (Some to) had touched resident sized old = go (nat_le to (4096 * p)) refl touched
    where
      go : (b : Bool) → nat_le to (4096 * p) ≡ b → touches false (did ∷ h) p ≡ cut_if (Some to) p (touches false h p) → IsKept p n (did ∷ h)
      go true past touched =
          let at = leb-true to (4096 * p) past in
          inr (inr (record {
            had = had;
            absent = absent-either (did ∷ h) p (λ mapped. absent-as (did ∷ h) p (below (Some to) (residents h)) (resident mapped) (absent-cut to p (residents h) at));
            short = subst (λ (s : Sizes). s.valid ≤ 4096 * p) (sym sized) (shorter to p (valid_of h) at);
          }))
      go false within touched = inr (inl (ap (has_old n) (touched ∙ uncut) ∙ old))
        where
          uncut : cut_if (Some to) p (touches false h p) ≡ touches false h p
          uncut = rw within refl

  -- a page that went stays away
  gone-cut : (o : Option ℕ) → had_map (did ∷ h) ≡ true → (is_mapped (did ∷ h) ≡ true → residents (did ∷ h) ≡ below o (residents h)) →
      sizes (did ∷ h) ≡ resized_by o (sizes h) → IsGone p h → IsGone p (did ∷ h)
  gone-cut o had resident sized gone = record {
    had = had;
    absent = absent-either (did ∷ h) p (λ mapped. absent-as (did ∷ h) p (below o (residents h)) (resident mapped) (absent-below o p (residents h) gone.absent));
    short = subst (λ (s : Sizes). s.valid ≤ 4096 * p) (sym sized) (lower o p (sizes h) gone.short);
  }

  gone-same : had_map (did ∷ h) ≡ true → (is_mapped (did ∷ h) ≡ true → residents (did ∷ h) ≡ residents h) → valid_of (did ∷ h) ≤ 4096 * p →
      IsGone p h → IsGone p (did ∷ h)
  gone-same had resident short gone = record {
    had = had;
    absent = absent-either (did ∷ h) p (λ mapped. absent-as (did ∷ h) p (residents h) (resident mapped) gone.absent);
    short = short;
  }

  -- a change of bytes brings none of it to validity: its pages are resident
  change-short : (from to : ℕ) → IsSafe h → MayChange h from to → from ≤ valid_of h → IsGone p h → max (valid_of h) to ≤ 4096 * p
  change-short from to safe may within gone = go (nat_lt (4096 * p) (max (valid_of h) to)) refl
    where
      go : (b : Bool) → nat_lt (4096 * p) (max (valid_of h) to) ≡ b → max (valid_of h) to ≤ 4096 * p
      go false is = ltb-false (4096 * p) (max (valid_of h) to) is
      go true is =
          let has = has_page-raised (record { from = from; to = to }) p (valid_of h) within gone.short (ltb-true (4096 * p) (max (valid_of h) to) is) in
          absurd (clash (sym (change-resident h from to p safe may has) ∙ gone.absent))
        where
          clash : true ≡ false → ⊥
          clash e = absurd (cc)

  gone-opens : (file : File) (given : FileSizes) (quota : ℕ) (temporary : Bool) → act_of call ≡ Opens file given quota temporary →
      (is_mapped h ≡ false → had_map h ≡ true → given.valid ≤ valid_of h) → IsGone p h → IsGone p (did ∷ h)
  gone-opens file given quota temporary is back gone =
      gone-same (had_map-opens pass call reply h is) (λ mapped. residents-opens pass call reply h is) (short (is_mapped h) refl) gone
    where
      short : (b : Bool) → is_mapped h ≡ b → valid_of (did ∷ h) ≤ 4096 * p
      short true mapped = subst (λ (s : Sizes). s.valid ≤ 4096 * p) (sym (sizes-opens_mapped pass call reply h is mapped)) gone.short
      short false unmapped =
          subst (λ (s : Sizes). s.valid ≤ 4096 * p) (sym (sizes-opens_anew pass call reply h is unmapped)) (less given.valid (valid_of h) (back unmapped gone.had) gone.short)
        where
          less : (a b : ℕ) → a ≤ b → b ≤ 4096 * p → a ≤ 4096 * p
          less a b first second = omega arith

  old-did : IsSteady h → is_calm_act (act_of call) ≡ true → has_old n (touches false h p) ≡ true → IsKept p n (did ∷ h)
  old-did steady calm old = go (act_of call) refl calm
    where
      had : had_map h ≡ true
      had = had-touched h p n steady old

      still : touches false (did ∷ h) p ≡ touches false h p → IsKept p n (did ∷ h)
      still same = inr (inl (ap (has_old n) same ∙ old))

      more : (b : Bool) (lsn : Option ℕ) → touches false (did ∷ h) p ≡ touched_if b (suc (length h)) lsn (touches false h p) → IsKept p n (did ∷ h)
      more b lsn is = inr (inl (ap (has_old n) is ∙ old-more n b (suc (length h)) lsn (touches false h p) old))

      go : (a : Act) → act_of call ≡ a → is_calm_act a ≡ true → IsKept p n (did ∷ h)
      go (Opens file given quota temporary) is calm = still (touches-opens false pass call reply h p is)
      go (Closes file truncate) is calm =
          kept-cut (truncation (objects h) (size_of h) file truncate) (had_map-closes pass call reply h is ∙ had) (touches-closes false pass call reply h p is)
          (λ mapped. residents-closes pass call reply h is mapped) (sizes-closes pass call reply h is) old
      go (Resizes allocation size) is calm =
          kept-cut (Some size) (had_map-resizes pass call reply h is ∙ had) (touches-resizes false pass call reply h p is)
          (λ mapped. residents-resizes pass call reply h is mapped) (sizes-resizes pass call reply h is) old
      go (Writes at bytes) is calm = more (has_page (record { from = at; to = at + length bytes }) p) None (touches-writes false pass call reply h p is)
      go (Zeroes from to) is calm = more (has_page (record { from = from; to = to }) p) None (touches-zeroes false pass call reply h p is)
      go (Stamps hold lsn) is calm = more (hold_has (hold_at (holds_of h) hold) p) lsn (touches-stamps false pass call reply h p is)
      go Looks is calm = still (touches-looks false pass call reply h p is)
      go other is calm = absurd (cc)

  gone-did : IsSafe h → IsActSafe h (act_of call) → BeginsWithin (valid_of h) (act_of call) → ComesBackWithin h (act_of call) → is_calm_act (act_of call) ≡ true → IsGone p h → IsGone p (did ∷ h)
  gone-did safe may within back calm gone = go (act_of call) refl may within back calm
    where
      go : (a : Act) → act_of call ≡ a → IsActSafe h a → BeginsWithin (valid_of h) a → ComesBackWithin h a → is_calm_act a ≡ true → IsGone p (did ∷ h)
      go (Opens file given quota temporary) is may within back calm = gone-opens file given quota temporary is back gone
      go (Closes file truncate) is may within back calm =
          gone-cut (truncation (objects h) (size_of h) file truncate) (had_map-closes pass call reply h is ∙ gone.had)
          (λ mapped. residents-closes pass call reply h is mapped) (sizes-closes pass call reply h is) gone
      go (Resizes allocation size) is may within back calm =
          gone-cut (Some size) (had_map-resizes pass call reply h is ∙ gone.had)
          (λ mapped. residents-resizes pass call reply h is mapped) (sizes-resizes pass call reply h is) gone
      go (Writes at bytes) is may within back calm =
          gone-same (had_map-writes pass call reply h is ∙ gone.had) (λ mapped. residents-writes pass call reply h is mapped)
          (subst (λ (s : Sizes). s.valid ≤ 4096 * p) (sym (sizes-writes pass call reply h is)) (change-short at (at + length bytes) safe may within gone)) gone
      go (Zeroes from to) is may within back calm =
          gone-same (had_map-zeroes pass call reply h is ∙ gone.had) (λ mapped. residents-zeroes pass call reply h is mapped)
          (subst (λ (s : Sizes). s.valid ≤ 4096 * p) (sym (sizes-zeroes pass call reply h is)) (change-short from to safe may within gone)) gone
      go (Stamps hold lsn) is may within back calm =
          gone-same (had_map-stamps pass call reply h is ∙ gone.had) (λ mapped. residents-stamps pass call reply h is mapped)
          (subst (λ (s : Sizes). s.valid ≤ 4096 * p) (sym (sizes-stamps pass call reply h is)) gone.short) gone
      go Looks is may within back calm =
          gone-same (had_map-looks pass call reply h is ∙ gone.had) (λ mapped. residents-looks pass call reply h is)
          (subst (λ (s : Sizes). s.valid ≤ 4096 * p) (sym (sizes-looks pass call reply h is)) gone.short) gone
      go other is may within back calm = absurd (cc)

is_stored-did : (pass : ℕ) (call : Call) (reply : Reply) (h : List Effect) (p : ℕ) → is_stored (Did pass call reply ∷ h) p ≡ is_stored h p
unfolding is_stored
is_stored-did pass call reply h p = refl

is_stored-went_out : (pass page : ℕ) (h : List Effect) (p : ℕ) → is_stored (WentOut pass page ∷ h) p ≡ is_stored h p
unfolding is_stored
is_stored-went_out pass page h p = refl

is_stored-began : (pass page : ℕ) (h : List Effect) (p : ℕ) → is_stored (Began pass page ∷ h) p ≡ is_stored h p
unfolding is_stored
is_stored-began pass page h p = refl

is_stored-synced : (pass : ℕ) (how : End) (h : List Effect) (p : ℕ) → is_stored (Synced pass how ∷ h) p ≡ is_stored h p
unfolding is_stored
is_stored-synced pass how h p = refl

pub gone-step : (e : Effect) (h : List Effect) (p : ℕ) → IsSteadyEffect e h → IsSafe h → IsEffectSafe e h → is_calm_effect e ≡ true → IsGone p h → IsGone p (e ∷ h)
gone-step (Did pass call reply) h p steady safe may calm gone = gone-did pass call reply h p 0 safe may.1 steady.within steady.back calm gone
gone-step (CameIn pass page from_disk) h p steady safe may calm gone = absurd (cc)
gone-step (WentOut pass page) h p steady safe may calm gone = record {
  had = had_map-went_out pass page h ∙ gone.had;
  absent = absent-as (WentOut pass page ∷ h) p (without page (residents h)) (residents-went_out pass page h) (among-without page p (residents h) ∙ rw gone.absent (none (not (page == p))));
  short = subst (λ (s : Sizes). s.valid ≤ 4096 * p) (sym (sizes-went_out pass page h)) gone.short;
}
  where
    none : (b : Bool) → (b && false) ≡ false
    none true = refl
    none false = refl
gone-step (Began pass page) h p steady safe may calm gone = record {
  had = had_map-began pass page h ∙ gone.had;
  absent = absent-as (Began pass page ∷ h) p (residents h) (residents-began pass page h) gone.absent;
  short = subst (λ (s : Sizes). s.valid ≤ 4096 * p) (sym (sizes-began pass page h)) gone.short;
}
gone-step (Ended pass page how) h p steady safe may calm gone = record {
  had = had_map-ended pass page how h ∙ gone.had;
  absent = absent-either (Ended pass page how ∷ h) p (λ mapped. absent-as (Ended pass page how ∷ h) p (residents h) (residents-ended pass page how h mapped) gone.absent);
  short = subst (λ (s : Sizes). s.valid ≤ 4096 * p) (sym (sizes-ended pass page how h)) gone.short;
}
gone-step (Synced pass how) h p steady safe may calm gone = record {
  had = had_map-synced pass how h ∙ gone.had;
  absent = absent-as (Synced pass how ∷ h) p (residents h) (residents-synced pass how h) gone.absent;
  short = subst (λ (s : Sizes). s.valid ≤ 4096 * p) (sym (sizes-synced pass how h)) gone.short;
}

-- a page that is stored stays so while transfers end well
stored-step : (e : Effect) (h : List Effect) (p : ℕ) → is_calm_effect e ≡ true → is_stored h p ≡ true → is_stored (e ∷ h) p ≡ true
stored-step (Did pass call reply) h p calm is = is_stored-did pass call reply h p ∙ is
stored-step (CameIn pass page from_disk) h p calm is = absurd (cc)
stored-step (WentOut pass page) h p calm is = is_stored-went_out pass page h p ∙ is
stored-step (Began pass page) h p calm is = is_stored-began pass page h p ∙ is
stored-step (Ended pass page how) h p calm is = go (page == p) refl
  where
    go : (b : Bool) → (page == p) ≡ b → is_stored (Ended pass page how ∷ h) p ≡ true
    go true same = stored-ended_page pass page how h p same ∙ calm
    go false other = stored-ended_other pass page how h p other ∙ is
stored-step (Synced pass how) h p calm is = is_stored-synced pass how h p ∙ is

old-step : (e : Effect) (h : List Effect) (p n : ℕ) → IsSteady h → is_calm_effect e ≡ true → has_old n (touches false h p) ≡ true → IsKept p n (e ∷ h)
old-step (Did pass call reply) h p n steady calm old = old-did pass call reply h p n steady calm old
old-step (CameIn pass page from_disk) h p n steady calm old = absurd (cc)
old-step (WentOut pass page) h p n steady calm old = inr (inl (ap (has_old n) (touches-went_out false pass page h p) ∙ old))
old-step (Began pass page) h p n steady calm old = inr (inl (ap (has_old n) (touches-began_open pass page h p) ∙ old))
old-step (Ended pass page how) h p n steady calm old = go (page == p) refl
  where
    go : (b : Bool) → (page == p) ≡ b → IsKept p n (Ended pass page how ∷ h)
    go true same = inl (stored-ended_page pass page how h p same ∙ calm)
    go false other = inr (inl (ap (has_old n) (touches-ended_other false pass page how h p other) ∙ old))
old-step (Synced pass how) h p n steady calm old = inr (inl (ap (has_old n) (touches-synced false pass how h p) ∙ old))

pub kept-step : (e : Effect) (h : List Effect) (p n : ℕ) → IsSteadyEffect e h → IsSteady h → IsSafe h → IsEffectSafe e h → is_calm_effect e ≡ true → IsKept p n h → IsKept p n (e ∷ h)
kept-step e h p n steady before safe may calm kept =
    ⊎_elim
    (λ is. inl (stored-step e h p calm is))
    (λ more. ⊎_elim (λ old. old-step e h p n before calm old) (λ gone. inr (inr (gone-step e h p steady safe may calm gone))) more)
    kept

-- ---- a stretch

pub kept-stretch : (more h : List Effect) (p n : ℕ) → IsSteady (more ++ h) → IsSafe (more ++ h) → list_all is_calm_effect more ≡ true → IsKept p n h → IsKept p n (more ++ h)
unfolding IsSafe
kept-stretch [] h p n steady safe calm kept = kept
kept-stretch (e ∷ more) h p n steady safe calm kept =
    let parts = and_parts (is_calm_effect e) (list_all is_calm_effect more) calm in
    kept-step e (more ++ h) p n steady.0 steady.1 safe.1 safe.0 parts.0 (kept-stretch more h p n steady.1 safe.1 parts.1 kept)

pub gone-stretch : (more h : List Effect) (p : ℕ) → IsSteady (more ++ h) → IsSafe (more ++ h) → list_all is_calm_effect more ≡ true → IsGone p h → IsGone p (more ++ h)
unfolding IsSafe
gone-stretch [] h p steady safe calm gone = gone
gone-stretch (e ∷ more) h p steady safe calm gone =
    let parts = and_parts (is_calm_effect e) (list_all is_calm_effect more) calm in
    gone-step e (more ++ h) p steady.0 safe.1 safe.0 parts.0 (gone-stretch more h p steady.1 safe.1 parts.1 gone)

-- What a flush settles in a calm stretch.
use Rattle.std.specs.Prelude.{◌≡◌, ℕ, suc, ◌+◌, ◌*◌, ◌<◌, ◌≤◌, ◌⊎◌, Bool, true, false, not, ◌==◌, ◌||◌, ◌&&◌, nat_lt, nat_le, List, [], ◌∷◌, ◌++◌, length, refl}
use Rattle.std.specs.List.{list_all, list_any, cons_option}
use Rattle.std.proofs.Common.{arith, ap, sym, subst, ◌∙◌, inl, inr, ⊎_elim}
use Rattle.std.proofs.lemmas.Bool.{and_parts, ltb-true, leb-true, eq-eqb}
use Rattle.std.specs.declared.option.Option.{Option}
use Rattle.std.specs.declared.option.Option.TheVariants.{Some, None}
use Rattle.cc_entry.specs.declared.call.Call.{Call}
use Rattle.cc_entry.specs.declared.reply.Reply.{Reply}
use Rattle.cc_entry.specs.declared.entry.End.{End}
use Rattle.cc_entry.specs.declared.entry.End.TheVariants as how
use Rattle.cc_entry.specs.declared.entry.Entry.{Entry}
use Rattle.cc_entry.specs.declared.entry.Entry.TheVariants as entry
use Rattle.cc_model.specs.Numbers.{is_empty}
use Rattle.cc_model.specs.Setup.{Setup}
use Rattle.cc_model.specs.Acts.{Act, act_of, Opens, Closes, Resizes, Writes, Zeroes, Stores, Stamps, Discards, Looks}
use Rattle.cc_model.specs.Flushed.{settled_since}
use Rattle.cc_model.specs.Good.{IsGoodSoFar}
use Rattle.cc_model.specs.History.{Effect, Did, CameIn, WentOut, Began, Ended, Synced, effect_of, history}
use Rattle.cc_model.specs.Objects.{had_map}
use Rattle.cc_model.specs.Records.{first_valid, is_stored, is_settled, MayTellValid}
use Rattle.cc_model.specs.Sizes.{Touch, ended_ok}
use Rattle.cc_model.specs.Touches.{touches, valid_of, is_dirty, dirty_pages, unwritten}
use Rattle.cc_laws.proofs.DirtyAmong.{dirty-among}
use Rattle.cc_laws.proofs.HistorySteps.{history-grown, history-sync}
use Rattle.cc_laws.proofs.Lists1.{among-all}
use Rattle.cc_laws.proofs.RoomPasts.{IsGoodSoFar-before}
use Rattle.cc_laws.proofs.SafeHistory.{IsSafe}
use Rattle.cc_laws.proofs.SafeJournals.{good-safe}
use Rattle.cc_laws.proofs.Steady.{IsSteady}
use Rattle.cc_laws.proofs.SteadyPasts.{IsSteady-good}
use Rattle.cc_records.specs.Calm.{IsCalm, is_calm_effect, is_calm_in}
use Rattle.cc_records.proofs.CalmSteps.{IsGone, IsKept, has_old, kept-stretch, gone-stretch}
use Rattle.cc_records.proofs.FirstMaps.{first_valid-did, valid-never, had-before}
use Rattle.cc_records.proofs.StoredPages.{stored-good}
use Rattle.cc_records.proofs.Within.{all_by, touches-by}

-- what stood before is good
pub good-rest : (u : Setup) (later past : List Entry) → IsGoodSoFar u (later ++ past) → IsGoodSoFar u past
good-rest u [] past good = good
good-rest u (e ∷ later) past good = good-rest u later past (IsGoodSoFar-before u (later ++ past) e good)

-- a calm stretch is calm to the stream
calm-history : (s : ℕ) (later : List Entry) → IsCalm s later → list_all is_calm_effect (history later s) ≡ true
unfolding history
calm-history s [] calm = refl
calm-history s (e ∷ later) calm =
    let parts = and_parts (is_calm_in (effect_of e s)) (list_all (λ e. is_calm_in (effect_of e s)) later) calm in
    go (effect_of e s) parts.0 (calm-history s later parts.1)
  where
    go : (o : Option Effect) → is_calm_in o ≡ true → list_all is_calm_effect (history later s) ≡ true → list_all is_calm_effect (cons_option o (history later s)) ≡ true
    go None calm rest = rest
    go (Some effect) calm rest = rw calm rest

-- a map that was had stays had, and the valid data length of the first initialise what it was
pub had-stays : (more h : List Effect) → had_map h ≡ true → had_map (more ++ h) ≡ true
unfolding had_map
had-stays [] h had = had
had-stays (Did pass call reply ∷ more) h had = go (had_map (Did pass call reply ∷ (more ++ h))) refl (had-stays more h had)
  where
    go : (b : Bool) → had_map (Did pass call reply ∷ (more ++ h)) ≡ b → had_map (more ++ h) ≡ true → had_map (Did pass call reply ∷ (more ++ h)) ≡ true
    go true is was = is
    go false never was = absurd (clash (sym was ∙ had-before pass call reply (more ++ h) never))
      where
        clash : true ≡ false → ⊥
        clash e = absurd (cc)
had-stays (CameIn pass page from_disk ∷ more) h had = had-stays more h had
had-stays (WentOut pass page ∷ more) h had = had-stays more h had
had-stays (Began pass page ∷ more) h had = had-stays more h had
had-stays (Ended pass page how ∷ more) h had = had-stays more h had
had-stays (Synced pass how ∷ more) h had = had-stays more h had

pub first-stays : (more h : List Effect) → had_map h ≡ true → first_valid (more ++ h) ≡ first_valid h
unfolding first_valid
first-stays [] h had = refl
first-stays (Did pass call reply ∷ more) h had = first_valid-did pass call reply (more ++ h) (had-stays more h had) ∙ first-stays more h had
first-stays (CameIn pass page from_disk ∷ more) h had = first-stays more h had
first-stays (WentOut pass page ∷ more) h had = first-stays more h had
first-stays (Began pass page ∷ more) h had = first-stays more h had
first-stays (Ended pass page how ∷ more) h had = first-stays more h had
first-stays (Synced pass how ∷ more) h had = first-stays more h had

-- what is settled stays settled
pub settled-stays : (more h : List Effect) (p : ℕ) → is_settled h p ≡ true → is_settled (more ++ h) p ≡ true
unfolding is_settled
settled-stays [] h p is = is
settled-stays (Did pass call reply ∷ more) h p is = settled-stays more h p is
settled-stays (CameIn pass page from_disk ∷ more) h p is = settled-stays more h p is
settled-stays (WentOut pass page ∷ more) h p is = settled-stays more h p is
settled-stays (Began pass page ∷ more) h p is = settled-stays more h p is
settled-stays (Ended pass page how ∷ more) h p is = settled-stays more h p is
settled-stays (Synced pass how ∷ more) h p is = rw (settled-stays more h p is) (either (ended_ok how && is_stored (more ++ h) p))
  where
    either : (b : Bool) → (b || true) ≡ true
    either true = refl
    either false = refl

settled-synced : (pass : ℕ) (h : List Effect) (p : ℕ) → is_stored h p ≡ true → is_settled (Synced pass how.Good ∷ h) p ≡ true
unfolding is_settled
settled-synced pass h p is = rw is refl

-- a flush that settled leaves no old touch
none-old : (n : ℕ) (ts : List Touch) → list_all (λ touch. nat_lt n touch.place) ts ≡ true → has_old n ts ≡ true → ⊥
none-old n [] later old = absurd (cc)
none-old n (t ∷ ts) later old =
    let parts = and_parts (nat_lt n t.place) (list_all (λ touch. nat_lt n touch.place) ts) later in
    go (nat_le t.place n) refl (ltb-true n t.place parts.0) (none-old n ts parts.1)
  where
    go : (b : Bool) → nat_le t.place n ≡ b → n < t.place → (has_old n ts ≡ true → ⊥) → ⊥
    go true is above rest = let by = leb-true t.place n is in absurd (omega (arith, by, above))
    go false is above rest = rest (ap (λ b. b || has_old n ts) (sym is) ∙ old)

old-settled : (n : ℕ) (h : List Effect) (p : ℕ) → settled_since n h None ≡ true → has_old n (touches false h p) ≡ true → ⊥
old-settled n h p settled old = go (is_dirty h p) refl
  where
    go : (b : Bool) → is_dirty h p ≡ b → ⊥
    go false clean = none (touches false h p) clean old
      where
        none : (ts : List Touch) → not (is_empty ts) ≡ false → has_old n ts ≡ true → ⊥
        none [] is some = absurd (cc)
        none (t ∷ ts) is some = absurd (cc)
    go true dirty =
        none-old n (touches false h p)
        (among-all (λ q. list_all (λ touch. nat_lt n touch.place) (unwritten h q)) p (dirty_pages h) settled (dirty-among h p dirty)) old

old-any : (n : ℕ) (ts : List Touch) → not (is_empty ts) ≡ true → all_by n ts ≡ true → has_old n ts ≡ true
old-any n [] some all = absurd (cc)
old-any n (t ∷ ts) some all = rw (and_parts (nat_le t.place n) (all_by n ts) all).0 refl

-- as the flush begins, the page is stored or has a touch
kept-first : (u : Setup) (old : List Entry) (s p : ℕ) → IsGoodSoFar u old → first_valid (history old s) < valid_of (history old s) → first_valid (history old s) < 4096 * p + 4096 → 4096 * p < valid_of (history old s) → IsKept p (length (history old s)) (history old s)
kept-first u old s p good some reached here = go (is_dirty (history old s) p) refl
  where
    go : (b : Bool) → is_dirty (history old s) p ≡ b → IsKept p (length (history old s)) (history old s)
    go false clean = inl (stored-good u old s p good some reached here clean)
    go true dirty =
        inr (inl (old-any (length (history old s)) (touches false (history old s) p) dirty (touches-by false (history old s) p (length (history old s)) (omega arith))))

module _ (u : Setup) (pass s : ℕ) (old later since : List Entry)
    (good : IsGoodSoFar u (since ++ entry.Sync pass s how.Good ∷ (later ++ old))) (calm : IsCalm s later) (still : IsCalm s since)
    (settled : settled_since (length (history old s)) (history (later ++ old) s) None ≡ true) where
  abbrev flushed : List Effect
  flushed = history later s ++ history old s

  abbrev synced : List Effect
  synced = Synced pass how.Good ∷ flushed

  good-synced : IsGoodSoFar u (entry.Sync pass s how.Good ∷ (later ++ old))
  good-synced = good-rest u since (entry.Sync pass s how.Good ∷ (later ++ old)) good

  good-flushed : IsGoodSoFar u (later ++ old)
  good-flushed = IsGoodSoFar-before u (later ++ old) (entry.Sync pass s how.Good) good-synced

  at-flushed : history (later ++ old) s ≡ flushed
  at-flushed = history-grown later old s

  at-synced : history (entry.Sync pass s how.Good ∷ (later ++ old)) s ≡ synced
  at-synced = history-sync pass s how.Good (later ++ old) s (eq-eqb s s refl) ∙ ap (λ (h : List Effect). Synced pass how.Good ∷ h) at-flushed

  at-end : history (since ++ entry.Sync pass s how.Good ∷ (later ++ old)) s ≡ history since s ++ synced
  at-end = history-grown since (entry.Sync pass s how.Good ∷ (later ++ old)) s ∙ ap (λ (h : List Effect). history since s ++ h) at-synced

  gone-end : (p : ℕ) → IsGone p flushed → valid_of (history since s ++ synced) ≤ 4096 * p
  gone-end p gone =
      (gone-stretch (history since s) synced p
      (subst (λ (h : List Effect). IsSteady h) at-end (IsSteady-good u (since ++ entry.Sync pass s how.Good ∷ (later ++ old)) s good))
      (subst (λ (h : List Effect). IsSafe h) at-end (good-safe u (since ++ entry.Sync pass s how.Good ∷ (later ++ old)) s good))
      (calm-history s since still)
      (gone-stretch (Synced pass how.Good ∷ []) flushed p
      (subst (λ (h : List Effect). IsSteady h) at-synced (IsSteady-good u (entry.Sync pass s how.Good ∷ (later ++ old)) s good-synced))
      (subst (λ (h : List Effect). IsSafe h) at-synced (good-safe u (entry.Sync pass s how.Good ∷ (later ++ old)) s good-synced))
      refl gone)).short

  settled-page : (p valid : ℕ) → had_map (history old s) ≡ true → first_valid (history old s) < valid → first_valid (history old s) < 4096 * p + 4096 → 4096 * p < valid → valid ≤ valid_of (history old s) → valid ≤ valid_of (history since s ++ synced) → is_settled (history since s ++ synced) p ≡ true
  settled-page p valid had some reached here before after =
      ⊎_elim
      (λ stored. settled-stays (history since s) synced p (settled-synced pass flushed p stored))
      (λ rest. ⊎_elim
      (λ aged. absurd (old-settled (length (history old s)) flushed p (subst (λ (h : List Effect). settled_since (length (history old s)) h None ≡ true) at-flushed settled) aged))
      (λ gone. let short = gone-end p gone in absurd (omega (arith, short, here, after)))
      rest)
      (kept-stretch (history later s) (history old s) p (length (history old s))
      (subst (λ (h : List Effect). IsSteady h) at-flushed (IsSteady-good u (later ++ old) s good-flushed))
      (subst (λ (h : List Effect). IsSafe h) at-flushed (good-safe u (later ++ old) s good-flushed))
      (calm-history s later calm)
      (kept-first u old s p (good-rest u later old good-flushed) (omega (arith, some, before)) reached (omega (arith, here, before))))

  -- the lesser of what is valid now and what was valid as the flush began may be told
  pub may-tell : (valid : ℕ) → valid ≤ valid_of (history old s) → valid ≤ valid_of (history (since ++ entry.Sync pass s how.Good ∷ (later ++ old)) s) → MayTellValid (history (since ++ entry.Sync pass s how.Good ∷ (later ++ old)) s) valid
  may-tell valid before after p some reached here = go (had_map (history old s)) refl
    where
      steady : IsSteady (history old s)
      steady = IsSteady-good u old s (good-rest u later old good-flushed)

      go : (b : Bool) → had_map (history old s) ≡ b → is_settled (history (since ++ entry.Sync pass s how.Good ∷ (later ++ old)) s) p ≡ true
      go false never = let none = valid-never (history old s) steady never in absurd (omega (arith, none, before, here))
      go true had =
          let since_first : first_valid (history (since ++ entry.Sync pass s how.Good ∷ (later ++ old)) s) ≡ first_valid (history old s) =
          ap first_valid at-end ∙ (first-stays (history since s) synced (had-stays (Synced pass how.Good ∷ history later s) (history old s) had)
          ∙ first-stays (Synced pass how.Good ∷ history later s) (history old s) had) in
          ap (λ (h : List Effect). is_settled h p) at-end
          ∙ settled-page p valid had (subst (λ (n : ℕ). n < valid) since_first some) (subst (λ (n : ℕ). n < 4096 * p + 4096) since_first reached) here before
          (subst (λ (h : List Effect). valid ≤ valid_of h) at-end after)

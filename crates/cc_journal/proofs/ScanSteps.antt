-- How what the lazy writer's scans left steps.
use Rattle.std.specs.Prelude.{◌≡◌, ℕ, suc, ◌-◌, false, not, List, [], ◌∷◌, ◌++◌, length, take, filter, slice_get, Option, None, Some, refl}
use Rattle.std.specs.Option.{option_or}
use Rattle.std.proofs.Common.{ap, sym, ◌∙◌, arith}
use Rattle.cc_entry.specs.Place.{Page}
use Rattle.cc_entry.specs.declared.entry.Entry.{Entry}
use Rattle.cc_entry.specs.declared.entry.Entry.TheVariants as entry
use Rattle.cc_model.specs.Setup.{Setup}
use Rattle.cc_model.specs.Cache.{lazy_pages}
use Rattle.cc_model.specs.Pick.{last_total, last_of, cursor, is_after, pick, pick_count}
use Rattle.cc_laws.proofs.QueueSteps.{last_total-scan, cursor-scan, cursor-scan_none, last_total-other, cursor-other, is_scan}
use Rattle.cc_journal.specs.Scans.{ScansStand}

-- nothing was scanned in an empty past
pub scans_none : ScansStand [] 0 None
unfolding last_total cursor
scans_none = (refl, refl)

-- the last of a list, by its place
pub last_of_at : (pages : List Page) → last_of pages ≡ slice_get pages (length pages - 1)
last_of_at [] = refl
last_of_at (page ∷ []) = refl
last_of_at (page ∷ next ∷ pages) =
    let place : (length (page ∷ next ∷ pages) - 1) ≡ suc (length (next ∷ pages) - 1) = omega arith in
    last_of_at (next ∷ pages) ∙ ap (slice_get (page ∷ next ∷ pages)) (sym place)

-- a scan that picked these
pub scans_scan : (past : List Entry) (pass : ℕ) (picked : List Page) (total total' : ℕ) (last new : Option Page)
    → total' ≡ length (lazy_pages past) → new ≡ option_or (slice_get picked (length picked - 1)) last
    → ScansStand past total last → ScansStand (entry.Scan pass picked ∷ past) total' new
scans_scan past pass picked total total' last new all is stood =
    (all ∙ sym (last_total-scan pass picked past), go (slice_get picked (length picked - 1)) refl)
  where
    go : (found : Option Page) → slice_get picked (length picked - 1) ≡ found
        → new ≡ cursor (entry.Scan pass picked ∷ past)
    go None none =
        is ∙ (ap (λ (o : Option Page). option_or o last) none
        ∙ (stood.1 ∙ sym (cursor-scan_none pass picked past (last_of_at picked ∙ none))))
    go (Some page) some =
        is ∙ (ap (λ (o : Option Page). option_or o last) some
        ∙ sym (cursor-scan pass picked past page (last_of_at picked ∙ some)))

-- what is picked
pub scans_pick : (u : Setup) (past : List Entry) (threshold most total : ℕ) (last : Option Page) (pages picked : List Page)
    → u.threshold ≡ threshold → pages ≡ lazy_pages past → ScansStand past total last
    → most ≡ pick_count threshold (length pages) total
    → picked ≡ take most (filter (is_after last) pages ++ filter (λ page. not (is_after last page)) pages)
    → picked ≡ pick u past
unfolding pick
scans_pick u past threshold most total last pages picked limit are stood count is =
    rw (← are, ← stood.0, ← stood.1, limit) (is ∙ ap (λ (n : ℕ). take n (filter (is_after last) pages ++ filter (λ page. not (is_after last page)) pages)) count)

-- another entry leaves what the scans left
pub scans_stand_other : (total : ℕ) (last : Option Page) (e : Entry) (past : List Entry) → is_scan e ≡ false
    → ScansStand past total last → ScansStand (e ∷ past) total last
scans_stand_other total last e past other stood =
    (stood.0 ∙ sym (last_total-other e past other), stood.1 ∙ sym (cursor-other e past other))

-- an entry that is no scan
pub scans_none_ran : (total : ℕ) (last : Option Page) (e : Entry) (past : List Entry) → ((pass : ℕ) (picked : List Page) → e ≡ entry.Scan pass picked → ⊥) → ScansStand past total last → ScansStand (e ∷ past) total last
scans_none_ran total last e past other stood = scans_stand_other total last e past (no_scan e other) stood
  where
    no_scan : (e : Entry) → ((pass : ℕ) (picked : List Page) → e ≡ entry.Scan pass picked → ⊥) → is_scan e ≡ false
    no_scan (entry.Scan pass picked) other = absurd (other pass picked refl)
    no_scan (entry.Record pass stream size valid how) other = refl
    no_scan (entry.RecordFailed pass stream) other = refl
    no_scan (entry.Locked pass file span exclusive granted id) other = refl
    no_scan (entry.Unlocked pass file id gone) other = refl
    no_scan (entry.Tested pass file span write conflict) other = refl
    no_scan (entry.Call pass nth stream call ended) other = refl
    no_scan (entry.PageIn pass page from_disk) other = refl
    no_scan (entry.PageOut pass page) other = refl
    no_scan (entry.FillFailed pass page) other = refl
    no_scan (entry.WriteBegin pass page) other = refl
    no_scan (entry.WriteEnd pass page how) other = refl
    no_scan (entry.Sync pass stream how) other = refl
    no_scan (entry.Append pass handle lsn bytes) other = refl
    no_scan (entry.Flushed pass handle to) other = refl
    no_scan (entry.LogFailed pass handle) other = refl
    no_scan (entry.Defer pass id file pages retrying) other = refl
    no_scan (entry.Posted id) other = refl

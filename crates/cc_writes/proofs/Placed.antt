-- A good journal stays good with the entries of a page's writing, and with those of a log.
use Rattle.std.specs.Prelude.{◌≡◌, ℕ, ◌<◌, true, false, ◌==◌, List, [], ◌∷◌, Option, None, Some, refl}
use Rattle.std.proofs.Common.{sym, ◌∙◌}
use Rattle.cc_entry.specs.Place.{Page}
use Rattle.cc_entry.specs.declared.entry.End.{End}
use Rattle.cc_entry.specs.declared.entry.Entry.{Entry}
use Rattle.cc_entry.specs.declared.entry.Entry.TheVariants as entry
use Rattle.cc_laws.proofs.QuietSteps.{eqb-swapped}
use Rattle.cc_laws.proofs.SoundFacts.{dirty_resident-good}
use Rattle.cc_laws.proofs.TurnSteps.{is_quiet-none, is_quiet-unneeded}
use Rattle.cc_model.specs.Allowed.{IsAllowed, IsAllowedSoFar, IsOwed, owed_begin}
use Rattle.cc_model.specs.Conditions.{MayBegin}
use Rattle.cc_model.specs.Covered.{IsCovered, IsCoveredEntry, IsLogged, IsNextLsn}
use Rattle.cc_model.specs.Good.{IsGood}
use Rattle.cc_model.specs.History.{history}
use Rattle.cc_model.specs.Images.{open_of}
use Rattle.cc_model.specs.Legal.{IsLegal, IsLegalEntry}
use Rattle.cc_model.specs.Logs.{flushed_to}
use Rattle.cc_model.specs.Setup.{Setup}
use Rattle.cc_model.specs.Touches.{is_dirty}
use Rattle.cc_model.specs.Turns.{Turn, Device, Book, Log, Journal, needs, is_quiet}
use Rattle.cc_step.proofs.Placed.{so-far}
use Rattle.cc_turns.specs.Standing.{TurnsHeld, is_the, holds}

nothing_owed : (e : Entry) (past : List Entry) → owed_begin past ≡ None → IsOwed (owed_begin past) e
nothing_owed e past none = rw none tt

-- the transfer of a page may begin
pub may_begin : (u : Setup) (past : List Entry) (s p : ℕ) → IsGood u past → is_dirty (history past s) p ≡ true → IsLogged past s p → open_of (history past s) ≡ None → MayBegin past s p
may_begin u past s p good dirty logged rest = record {
  resident = dirty_resident-good u past s (so-far u past good) p dirty;
  dirty = dirty;
  logged = logged;
  no_transfer = rest;
}

pub good-begun : (u : Setup) (past : List Entry) (pass : ℕ) (page : Page) → IsGood u past → MayBegin past page.stream page.page → IsGood u (entry.WriteBegin pass page ∷ past)
unfolding IsLegal IsLegalEntry IsAllowed IsAllowedSoFar IsCovered IsCoveredEntry
good-begun u past pass page good may = record {
  legal = (tt, good.legal);
  allowed = ((nothing_owed _ past good.allowed.1, may, good.allowed.0), refl);
  covered = (may.logged, good.covered);
}

pub good-ended : (u : Setup) (past : List Entry) (pass : ℕ) (page : Page) (how : End) → IsGood u past → open_of (history past page.stream) ≡ Some (record { pass = pass; page = page.page }) → IsGood u (entry.WriteEnd pass page how ∷ past)
unfolding IsLegal IsLegalEntry IsAllowed IsAllowedSoFar IsCovered IsCoveredEntry
good-ended u past pass page how good may = record {
  legal = (tt, good.legal);
  allowed = ((nothing_owed _ past good.allowed.1, may, good.allowed.0), refl);
  covered = (tt, good.covered);
}

pub good-appended : (u : Setup) (past : List Entry) (pass handle lsn : ℕ) (bytes : List ℕ) → IsGood u past → IsNextLsn past handle lsn → IsGood u (entry.Append pass handle lsn bytes ∷ past)
unfolding IsLegal IsLegalEntry IsAllowed IsAllowedSoFar IsCovered IsCoveredEntry
good-appended u past pass handle lsn bytes good may = record {
  legal = (tt, good.legal);
  allowed = ((nothing_owed _ past good.allowed.1, may, good.allowed.0), refl);
  covered = (may, good.covered);
}

pub good-flushed : (u : Setup) (past : List Entry) (pass handle to : ℕ) → IsGood u past → flushed_to past handle < to → IsGood u (entry.Flushed pass handle to ∷ past)
unfolding IsLegal IsLegalEntry IsAllowed IsAllowedSoFar IsCovered IsCoveredEntry
good-flushed u past pass handle to good may = record {
  legal = (tt, good.legal);
  allowed = ((nothing_owed _ past good.allowed.1, may, good.allowed.0), refl);
  covered = (tt, good.covered);
}

pub good-log_failed : (u : Setup) (past : List Entry) (pass handle : ℕ) → IsGood u past → IsGood u (entry.LogFailed pass handle ∷ past)
unfolding IsLegal IsLegalEntry IsAllowed IsAllowedSoFar IsCovered IsCoveredEntry
good-log_failed u past pass handle good = record {
  legal = (tt, good.legal);
  allowed = ((nothing_owed _ past good.allowed.1, tt, good.allowed.0), refl);
  covered = (tt, good.covered);
}

-- They need no turn that is not held: that of the log, or those of the stream's book and disk.
clash : true ≡ false → ⊥
clash e = absurd (cc)

away : (n m : ℕ) (held : Option ℕ) → held ≡ Some m → is_the n held ≡ false → (n == m) ≡ false
away n m held is free = eqb-swapped m n (rw is at free)

pub quiet-log : (h : TurnsHeld) (handle : ℕ) (e : Entry) → ((t : Turn) → needs e t ≡ needs (entry.LogFailed 0 handle) t) → h.log ≡ Some handle → h.journal ≡ true → (t : Turn) → holds h t ≡ false → is_quiet t (e ∷ []) ≡ true
quiet-log h handle e same log journal t free = is_quiet-unneeded t e [] (same t ∙ unneeded t free) ∙ is_quiet-none t
  where
    unneeded : (x : Turn) → holds h x ≡ false → needs (entry.LogFailed 0 handle) x ≡ false
    unneeded (Device n) apart = refl
    unneeded (Book n) apart = refl
    unneeded (Log n) apart = eqb-swapped handle n (rw log at apart)
    unneeded Journal apart = absurd (clash (sym journal ∙ apart))

pub quiet-page : (h : TurnsHeld) (page : Page) (e : Entry) → ((t : Turn) → needs e t ≡ needs (entry.WriteBegin 0 page) t) → h.book ≡ Some page.stream → h.device ≡ Some page.stream → h.journal ≡ true → (t : Turn) → holds h t ≡ false → is_quiet t (e ∷ []) ≡ true
quiet-page h page e same book device journal t free = is_quiet-unneeded t e [] (same t ∙ unneeded t free) ∙ is_quiet-none t
  where
    unneeded : (x : Turn) → holds h x ≡ false → needs (entry.WriteBegin 0 page) x ≡ false
    unneeded (Device n) apart = eqb-swapped page.stream n (rw device at apart)
    unneeded (Book n) apart = rw (eqb-swapped page.stream n (rw book at apart)) refl
    unneeded (Log n) apart = refl
    unneeded Journal apart = absurd (clash (sym journal ∙ apart))

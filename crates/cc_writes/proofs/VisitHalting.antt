-- A fault halts a call: the failed read of a page, and what the step of a call is told of a fault.
use Rattle.std.specs.Prelude.{◌≡◌, ℕ, Bool, true, false, ◌&&◌, ◌||◌, ◌==◌, List, [], ◌∷◌, ◌++◌, None, refl, if◌then◌else◌}
use Rattle.std.specs.List.{list_any}
use Rattle.std.proofs.Common.{ap, ◌∙◌, subst}
use Rattle.std.proofs.lemmas.Bool.{eq-eqb}
use Rattle.std.proofs.lemmas.List.Folds.{list_any-append}
use Rattle.cc_entry.specs.Place.{Page}
use Rattle.cc_entry.specs.declared.call.Call.{Call}
use Rattle.cc_entry.specs.declared.entry.Entry.{Entry}
use Rattle.cc_entry.specs.declared.entry.Entry.TheVariants as entry
use Rattle.cc_entry.specs.declared.error.CcError.{CcError}
use Rattle.cc_entry.specs.declared.error.CcError.TheVariants as error
use Rattle.cc_effects.specs.Asked.{brings_in, reads_noncached, reaches}
use Rattle.cc_effects.specs.Calls.{IsUnderWay}
use Rattle.cc_effects.specs.Moments.{AtSome}
use Rattle.cc_effects.specs.Places.{WasAsked, is_on_disk_alone, may_read}
use Rattle.cc_effects.specs.Stops.{tells}
use Rattle.cc_laws.proofs.FaultSteps.{faults_since-fill_failed}
use Rattle.cc_model.specs.Faults.{Fault, ReadFailed, faults_since, is_failed_read, is_failed_write, is_failed_sync, is_failed_log}
use Rattle.cc_model.specs.History.{history}
use Rattle.cc_model.specs.Ranges.{first_page}
use Rattle.cc_model.specs.Refusals.{refusal}
use Rattle.cc_model.specs.Setup.{Setup}
use Rattle.cc_step.proofs.Admitted.{admitted}
use Rattle.cc_step.specs.Faults.{IsMet}
use Rattle.cc_writes.specs.Ways.{IsHalted, WasWanted}

-- a moment at which one thing held is one at which what follows from it held
pub some-implies : (Holds Follows : List Entry → Type 0) (begun new : List Entry) → ((past : List Entry) → Holds past → Follows past) → AtSome Holds begun new → AtSome Follows begun new
some-implies Holds Follows begun new implies some = record {
  moment = some.moment;
  later = some.later;
  since = some.since;
  ends = some.ends;
  begins = some.begins;
  holds = implies some.moment some.holds;
}

reads : (it : Call) (page : Page) (past : List Entry) → brings_in it ≡ true → is_on_disk_alone page past ≡ true → may_read it page past ≡ true
reads it page past may alone = go (reads_noncached it)
  where
    go : (b : Bool) → (if b then true else (brings_in it && is_on_disk_alone page past)) ≡ true
    go true = refl
    go false = rw (may, alone) refl

-- the disk fails to read a page that was wanted for the call
pub halts-read : (u : Setup) (me s page : ℕ) (it : Call) (begun front : List Entry) → IsUnderWay me it begun front → may_read it (record { stream = s; page = page }) front ≡ true → WasWanted u it (record { stream = s; page = page }) begun front → IsHalted u me s it (error.ReadFault page) begun (entry.FillFailed me (record { stream = s; page = page }) ∷ front)
halts-read u me s page it begun front way may wanted = record {
  fault = ReadFailed page;
  is = eq-eqb page page refl;
  failed = record {
    stop = stop;
    stopped = record {
      during = stop ∷ way.during;
      grew = ap (λ l. stop ∷ l) way.grew;
      works = record {
        each = ((λ is. (subst (λ (past : List Entry). may_read it place past ≡ true) way.grew may, asked)), way.works.each);
        one_sync = rw (eq-eqb me me refl) way.works.one_sync;
        whole = rw (eq-eqb me me refl) way.works.whole;
      };
      stopped = record { since = []; before = way.during; split = refl; is_own = eq-eqb me me refl; quiet = tt; unstopped = way.unstopped };
    };
    shown = rw (eq-eqb me me refl) refl;
    since = [];
    earlier = faults_since front me;
    told = faults_since-fill_failed me place front me (eq-eqb me me refl);
  };
  admitted = subst (λ (past : List Entry). AtSome (λ moment. refusal u moment (history moment s) it ≡ None) begun past) way.grew
      (some-implies (λ moment. (refusal u moment (history moment s) it ≡ None) × (reaches it place moment ≡ true)) (λ moment. refusal u moment (history moment s) it ≡ None) begun front (λ past both. both.0) wanted);
}
  where
    place : Page
    place = record { stream = s; page = page }

    stop : Entry
    stop = entry.FillFailed me place

    asked : AtSome (WasAsked it place) begun (way.during ++ begun)
    asked = subst (λ (past : List Entry). AtSome (WasAsked it place) begun past) way.grew
        (some-implies (λ moment. (refusal u moment (history moment s) it ≡ None) × (reaches it place moment ≡ true)) (WasAsked it place) begun front (λ past both. record { admitted = admitted u past s it both.0; reached = both.1 }) wanted)

-- so where it was to come in
pub halts : (u : Setup) (me s page : ℕ) (it : Call) (begun front : List Entry) → IsUnderWay me it begun front → brings_in it ≡ true → is_on_disk_alone (record { stream = s; page = page }) front ≡ true → WasWanted u it (record { stream = s; page = page }) begun front → IsHalted u me s it (error.ReadFault page) begun (entry.FillFailed me (record { stream = s; page = page }) ∷ front)
halts u me s page it begun front way may alone wanted =
    halts-read u me s page it begun front way (reads it (record { stream = s; page = page }) front may alone) wanted

at-end : (b : Bool) → (b || true) ≡ true
at-end true = refl
at-end false = refl

-- the fault stands among those since the pass's last call
any-there : (test : Fault → Bool) (since earlier faults : List Fault) (fault : Fault) → faults ≡ since ++ fault ∷ earlier → test fault ≡ true → list_any test faults ≡ true
any-there test since earlier faults fault is passes =
    ap (list_any test) is ∙ (list_any-append test since (fault ∷ earlier) ∙ rw passes (at-end (list_any test since)))

met-by : (past : List Entry) (me : ℕ) (it : Call) (e : CcError) (fault : Fault) (since earlier : List Fault) → tells it e fault ≡ true → faults_since past me ≡ since ++ fault ∷ earlier → IsMet past me it e
met-by past me it (error.ReadFault page) fault since earlier is told = any-there (is_failed_read page) since earlier (faults_since past me) fault told is
met-by past me it (error.WriteFault page) fault since earlier is told = written (is_failed_write page fault) refl (is_failed_sync fault) refl (page == first_page it) refl
  where
    faults : List Fault
    faults = faults_since past me

    clash : false ≡ true → ⊥
    clash e = absurd (cc)

    written : (w : Bool) → is_failed_write page fault ≡ w → (s : Bool) → is_failed_sync fault ≡ s → (f : Bool) → (page == first_page it) ≡ f → (list_any (is_failed_write page) faults || (list_any is_failed_sync faults && page == first_page it)) ≡ true
    written true wrote s synced f first = rw (any-there (is_failed_write page) since earlier faults fault told wrote) refl
    written false wrote true synced true first = rw (any-there is_failed_sync since earlier faults fault told synced, first) (at-end (list_any (is_failed_write page) faults))
    written false wrote true synced false first = absurd (clash (rw (wrote, synced, first) at is))
    written false wrote false synced f first = absurd (clash (rw (wrote, synced) at is))
met-by past me it (error.LogFault handle) fault since earlier is told = any-there (is_failed_log handle) since earlier (faults_since past me) fault told is
met-by past me it other fault since earlier is told = absurd (cc)

pub met : (u : Setup) (me s : ℕ) (it : Call) (e : CcError) (begun front : List Entry) → IsHalted u me s it e begun front → IsMet front me it e
met u me s it e begun front halted = met-by front me it e halted.fault halted.failed.since halted.failed.earlier halted.is halted.failed.told

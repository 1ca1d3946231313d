-- The log was flushed to a page's newest LSN as each transfer of the page began; and what a crash may leave was sent so.
use Rattle.std.specs.Prelude.{◌≡◌, ℕ, ◌≤◌, ◌⊎◌, List, [], ◌∷◌, ◌++◌, Contains, refl}
use Rattle.std.specs.declared.option.Option.{Option}
use Rattle.std.specs.declared.option.Option.TheVariants.{Some, None}
use Rattle.std.proofs.Common.{ap, sym, subst, ◌∙◌, inl, inr, arith}
use Rattle.std.proofs.lemmas.List.{append_assoc}
use Rattle.cc_entry.specs.declared.entry.Entry.{Entry}
use Rattle.cc_entry.specs.declared.entry.Entry.TheVariants as entry
use Rattle.cc_crash_laws.specs.Logged.{HasStamps, IsShownLogged}
use Rattle.cc_laws.proofs.LogSteps.{flushed_to-entry}
use Rattle.cc_log.specs.Turn.{HoldsLogEntries}
use Rattle.cc_model.specs.Covered.{FlushedUpTo, IsLogged, IsCoveredEntry, IsCovered}
use Rattle.cc_model.specs.History.{Effect, effect_of, history}
use Rattle.cc_model.specs.Images.{begun, image, crash_pages}
use Rattle.cc_model.specs.Logs.{flushed_to}
use Rattle.cc_model.specs.Settings.{log_of}
use Rattle.cc_model.specs.Stamps.{newest_of}
use Rattle.cc_restart_laws.proofs.Fronts.{IsLeft, AreBegun, IsKnownAs, CrashLeaves, MayBeginAs, begun-step, known-step, crash-step, one-alone}
use Rattle.cc_traits.specs.Log.{Log, LogEntry}
use Rattle.cc_traits.specs.Told.{Both, IfTold}

-- what a log was flushed to it stays flushed to
flushed-grows : (later past : List Entry) (log : ℕ) → flushed_to past log ≤ flushed_to (later ++ past) log
flushed-grows [] past log = omega arith
flushed-grows (e ∷ later) past log =
    let before = flushed-grows later past log in
    let step = flushed_to-entry e (later ++ past) log in
    omega (arith, before, step)

covered-at : (later : List Entry) (e : Entry) (front : List Entry) → IsCovered (later ++ e ∷ front) → IsCoveredEntry front e
unfolding IsCovered
covered-at [] e front covered = covered.0
covered-at (x ∷ later) e front covered = covered-at later e front covered.1

begun-logged : (past later front : List Entry) (pass s p : ℕ) → IsCovered past → past ≡ later ++ entry.WriteBegin pass (record { stream = s; page = p }) ∷ front → IsLogged front s p
unfolding IsCoveredEntry
begun-logged past later front pass s p covered is =
    covered-at later (entry.WriteBegin pass (record { stream = s; page = p })) front (subst (λ (l : List Entry). IsCovered l) is covered)

flushed-up : (past : List Entry) (log lsn : ℕ) (its newest : Option ℕ) → FlushedUpTo past its newest → its ≡ Some log → newest ≡ Some lsn → lsn ≤ flushed_to past log
flushed-up past log lsn None newest up of is = absurd (cc)
flushed-up past log lsn (Some handle) None up of is = absurd (cc)
flushed-up past log lsn (Some handle) (Some n) up of is =
    let at : handle ≡ log = cc in
    let same : n ≡ lsn = cc in
    subst (λ (k : ℕ). lsn ≤ flushed_to past k) at (subst (λ (k : ℕ). k ≤ flushed_to past handle) same up)

pub has-stamps : (past later front : List Entry) (pass s p log : ℕ) (now : Log) → IsCovered past → past ≡ later ++ entry.WriteBegin pass (record { stream = s; page = p }) ∷ front → flushed_to past log ≤ now.durable → HasStamps front s p log now
has-stamps past later front pass s p log now covered is durable lsn of newest =
    let begin = entry.WriteBegin pass (record { stream = s; page = p }) in
    let up = flushed-up front log lsn (log_of (history front s)) (newest_of (history front s) p) (begun-logged past later front pass s p covered is).flushed of newest in
    let here = flushed_to-entry begin front log in
    let grown = flushed-grows later (begin ∷ front) log in
    let whole = ap (λ (l : List Entry). flushed_to l log) is in
    omega (arith, up, here, grown, whole, durable)

-- of a log that tells what it holds
pub if-told : (begun now : Option Log) (entries : List LogEntry) (lsn : ℕ) (P : Log → Type 0) → Both begun now (HoldsLogEntries entries lsn) → ((log : Log) → lsn ≤ log.durable → P log) → IfTold now P
if-told None None entries lsn P holds each = tt
if-told None (Some now) entries lsn P holds each = absurd holds
if-told (Some begun) None entries lsn P holds each = absurd holds
if-told (Some begun) (Some now) entries lsn P holds each = each now holds.durable

-- ---- each content that a crash may leave was sent as a transfer of the page began

-- the begin of a transfer of the page stands in the whole, behind a front
record IsBeginIn (whole : List Entry) (s p : ℕ) (front : List Entry) : Type 0 where
  later : List Entry
  pass : ℕ
  begins : whole ≡ later ++ entry.WriteBegin pass (record { stream = s; page = p }) ∷ front

record Walked (whole : List Entry) (pages : ℕ → List ℕ) (s p : ℕ) (h : List Effect) : Type 0 where
  begins : AreBegun (IsBeginIn whole s p) s p h
  known : IsKnownAs (Unit {0}) (IsBeginIn whole s p) pages s p h
  crash : CrashLeaves (Unit {0}) (IsBeginIn whole s p) pages s p h

same_some : {A : Type 0} (x y : A) → Some x ≡ Some y → x ≡ y
same_some x y e = cc

walk : (whole : List Entry) (pages : ℕ → List ℕ) (s p : ℕ) (newer past : List Entry) → whole ≡ newer ++ past → Walked whole pages s p (history past s)
unfolding history begun image crash_pages
walk whole pages s p newer [] is = record {
  begins = λ f none. absurd (cc);
  known = λ bytes found. inl (tt, sym (same_some (pages p) bytes found));
  crash = λ bytes among. inl (tt, sym (one-alone (Unit {0}) (IsBeginIn whole s p) pages s p (pages p) bytes among));
}
walk whole pages s p newer (e ∷ past) is =
    let before = walk whole pages s p (newer ++ e ∷ []) past (is ∙ sym (append_assoc newer (e ∷ []) past)) in
    let may : MayBeginAs (Unit {0}) (IsBeginIn whole s p) pages s p e past = λ pass b. record {
      later = newer;
      pass = pass;
      begins =
          is
          ∙ ap (λ (x : Entry). newer ++ x ∷ past)
          (b.is
          ∙ (ap (λ (n : ℕ). entry.WriteBegin pass (record { stream = n; page = b.place.page })) b.stream
          ∙ ap (λ (n : ℕ). entry.WriteBegin pass (record { stream = s; page = n })) b.number));
    } in
    record {
      begins = begun-step (Unit {0}) (IsBeginIn whole s p) pages s p e past may (effect_of e s) refl before.begins;
      known = known-step (Unit {0}) (IsBeginIn whole s p) pages s p e past (effect_of e s) refl before.begins before.known;
      crash = crash-step (Unit {0}) (IsBeginIn whole s p) pages s p e past may (effect_of e s) refl before.known before.crash;
    }

-- and of that the log had the stamps
pub shown-logged : (past : List Entry) (pages : ℕ → List ℕ) (s p log : ℕ) (after : Log) (content : List ℕ) → IsCovered past → flushed_to past log ≤ after.durable → Contains (crash_pages pages (history past s) p) content → (content ≡ pages p) ⊎ IsShownLogged pages past s p log after content
shown-logged past pages s p log after content covered durable among = go ((walk past pages s p [] past refl).crash content among)
  where
    go : IsLeft (Unit {0}) (IsBeginIn past s p) pages s p content → (content ≡ pages p) ⊎ IsShownLogged pages past s p log after content
    go (inl opened) = inl opened.1
    go (inr w) = inr (record {
      later = w.said.later;
      pass = w.said.pass;
      front = w.front;
      begins = w.said.begins;
      shown = w.is;
      logged = has-stamps past w.said.later w.front w.said.pass s p log after covered w.said.begins durable;
    })

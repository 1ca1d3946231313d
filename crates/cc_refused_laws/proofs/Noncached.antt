-- What noncached reads and refused noncached writes changed of files.
use Rattle.std.specs.Prelude.{◌≡◌, ℕ, zero, suc, ◌+◌, ◌/◌, List, [], ◌∷◌, ◌++◌, take, Option, Result, Ok, Err, refl, ◌⊎◌}
use Rattle.std.specs.declared.option.Option.TheVariants.{Some, None}
use Rattle.std.proofs.Common.{ap, sym, subst, inl, inr, arith}
use Rattle.cc_entry.specs.Place.{File}
use Rattle.cc_entry.specs.declared.call.Call.{Call}
use Rattle.cc_entry.specs.declared.call.Call.TheVariants as call
use Rattle.cc_entry.specs.declared.entry.End.{End}
use Rattle.cc_entry.specs.declared.entry.End.TheVariants as how
use Rattle.cc_entry.specs.declared.entry.Entry.{Entry}
use Rattle.cc_entry.specs.declared.entry.Entry.TheVariants as entry
use Rattle.cc_entry.specs.declared.error.CcError.{CcError}
use Rattle.cc_entry.specs.declared.error.CcError.TheVariants as error
use Rattle.cc_entry.specs.declared.reply.Outcome.TheVariants as outcome
use Rattle.cc_entry.specs.declared.reply.Reply.TheVariants as reply
use Rattle.cc_model.specs.Setup.{Setup}
use Rattle.cc_effects.specs.Asked.{Calls}
use Rattle.cc_effects.specs.Calls.{CallLeft}
use Rattle.cc_effects.specs.Licences.{IsEntryOf}
use Rattle.cc_effects.specs.Moments.{IsIdle, PlacedOnly}
use Rattle.cc_effects.specs.Noncached.{shape_refusal, pages_from, MisshapenLeft, IsUntold, EndsShort, PagesRead, PageReadsRefused, AlignedReadLeft, ShapedReadLeft, NcReadLeft, StoreIsTransferred, TransferRefused, PageRefused, AlignedWriteLeft, ShapedWriteLeft, NcWriteLeft}
use Rattle.cc_refused_laws.specs.Changed.{ChangedNoFile, ChangedNoFileBut, KeepsFiles}
use Rattle.cc_refused_laws.proofs.Calls.{looked-files, refused-files, steps-keep}
use Rattle.cc_refused_laws.proofs.Entries.{keeps-files, keeps-refused}
use Rattle.cc_refused_laws.proofs.Stretches.{is-entry, is-idle, is-implies, is-only, is-others, is-then, is-works}

read-done : (u : Setup) (me : ℕ) (file : File) (page : ℕ) (bytes : List ℕ) (old new : List Entry) → CallLeft u me (call.NcRead file page) (outcome.Done (reply.Read bytes)) old new → ChangedNoFile me old new
read-done u me file page bytes old new left = looked-files u me (call.NcRead file page) (reply.Read bytes) old new refl left

-- one entry of a refused call, and nothing else
only-refused : (me nth : ℕ) (file : File) (it : Call) (e : CcError) (old new : List Entry) → PlacedOnly me (entry.Call me nth (Some file.stream) it (outcome.Failed e)) old new → ChangedNoFile me old new
only-refused me nth file it e old new only =
    is-only me KeepsFiles (entry.Call me nth (Some file.stream) it (outcome.Failed e)) old new only (λ past. (keeps-refused me nth (Some file.stream) it e past).no_file)

misshapen-files : (me : ℕ) (file : File) (it : Call) (refusal e : CcError) (old new : List Entry) → MisshapenLeft me file it refusal e old new → ChangedNoFile me old new
misshapen-files me file it refusal error.NoMemory old new left = is-idle me KeepsFiles old new left
misshapen-files me file it refusal (error.JournalFull entries) old new left = is-idle me KeepsFiles old new left
misshapen-files me file it refusal error.NotCached old new left = only-refused me left.0 file it error.NotCached old new left.1
misshapen-files me file it refusal e old new left = only-refused me left.0 file it e old new left.2

untold-files : (u : Setup) (me : ℕ) (file : File) (pages : List ℕ) (old new : List Entry) → IsUntold u me file pages old new → ChangedNoFile me old new
untold-files u me file [] old new left = is-idle me KeepsFiles old new left
untold-files u me file (page ∷ pages) old new left = read-done u me file page left.0 old new left.1

short-files : (u : Setup) (me : ℕ) (file : File) (page : ℕ) (pages bytes : List ℕ) (old new : List Entry) → EndsShort u me file page pages bytes old new → ChangedNoFile me old new
short-files u me file page pages bytes old new left =
    is-then me KeepsFiles old left.0 new (read-done u me file page bytes old left.0 left.2) (untold-files u me file pages left.0 new left.3)

reads-files : (u : Setup) (me : ℕ) (file : File) (pages bytes : List ℕ) (old new : List Entry) → PagesRead u me file pages bytes old new → ChangedNoFile me old new
reads-files u me file [] bytes old new left = is-idle me KeepsFiles old new left.1
reads-files u me file (page ∷ pages) [] old new left = read-done u me file page [] old new left
reads-files u me file (page ∷ pages) (byte ∷ bytes) old new (inr left) = short-files u me file page pages (byte ∷ bytes) old new left
reads-files u me file (page ∷ pages) (byte ∷ bytes) old new (inl left) =
    is-then me KeepsFiles old left.0 new (read-done u me file page left.1 old left.0 left.5) (reads-files u me file pages left.2 left.0 new left.6)

reads-refused-files : (u : Setup) (me : ℕ) (file : File) (page done : ℕ) (e : CcError) (old new : List Entry) → PageReadsRefused u me file page done e old new → ChangedNoFile me old new
reads-refused-files u me file page zero e old new left = refused-files u me (call.NcRead file page) e old new left.1
reads-refused-files u me file page (suc done) e old new left =
    is-then me KeepsFiles old left.0 new (read-done u me file page left.1 old left.0 left.3) (reads-refused-files u me file (suc page) done e left.0 new left.4)

aligned-read-files : (u : Setup) (me : ℕ) (file : File) (at len : ℕ) (answered : Result (List ℕ) (ℕ × CcError)) (old new : List Entry) → AlignedReadLeft u me file at len answered old new → ChangedNoFile me old new
aligned-read-files u me file at zero (Ok bytes) old new left = is-idle me KeepsFiles old new left.1
aligned-read-files u me file at zero (Err failed) old new left = is-idle me KeepsFiles old new left.1
aligned-read-files u me file at (suc n) (Ok bytes) old new left = reads-files u me file (pages_from at (suc n)) bytes old new left
aligned-read-files u me file at (suc n) (Err failed) old new left = reads-refused-files u me file (at / 4096) failed.0 failed.1 old new left.1

shaped-read-files : (u : Setup) (me : ℕ) (file : File) (at len : ℕ) (shape : Option CcError) (answered : Result (List ℕ) (ℕ × CcError)) (old new : List Entry) → ShapedReadLeft u me file at len shape answered old new → ChangedNoFile me old new
shaped-read-files u me file at len None answered old new left = aligned-read-files u me file at len answered old new left
shaped-read-files u me file at len (Some refusal) (Ok bytes) old new left = absurd left
shaped-read-files u me file at len (Some refusal) (Err failed) old new left = misshapen-files me file (call.NcRead file (at / 4096)) refusal failed.1 old new left.1

pub read-files : (u : Setup) (me : ℕ) (file : File) (at len : ℕ) (answered : Result (List ℕ) (ℕ × CcError)) (old new : List Entry) → NcReadLeft u me file at len answered old new → ChangedNoFile me old new
read-files u me file at len answered old new left = shaped-read-files u me file at len (shape_refusal at len) answered old new left

-- ---- writes

pub page-refused-files : (u : Setup) (me : ℕ) (file : File) (page : ℕ) (bytes : List ℕ) (e : CcError) (old new : List Entry) → PageRefused u me file page bytes e old new → ChangedNoFile me old new ⊎ TransferRefused me file page bytes e old new
page-refused-files u me file page bytes e old new (inl is) = inl (refused-files u me (call.NcWrite file page) e old new is.1)
page-refused-files u me file page bytes e old new (inr is) = inr is

-- what the first page of a write leaves that finished none
abbrev FirstLeft : ℕ → File → ℕ → List ℕ → CcError → List Entry → List Entry → Type 0
FirstLeft me file page bytes e old new = ChangedNoFile me old new ⊎ ((between : List Entry) × IsIdle me old between × TransferRefused me file page bytes e between new)

first-page : (n : ℕ) → n + 0 ≡ n
first-page n = omega arith

first-aligned : (u : Setup) (me : ℕ) (file : File) (at : ℕ) (bytes : List ℕ) (e : CcError) (old new : List Entry) → AlignedWriteLeft u me file at bytes (Err (0, e)) old new → FirstLeft me file (at / 4096) (take 4096 bytes) e old new
first-aligned u me file at [] e old new left = inl (is-idle me KeepsFiles old new left.1)
first-aligned u me file at (byte ∷ bytes) e old new left = by (page-refused-files u me file (at / 4096 + 0) (take 4096 (byte ∷ bytes)) e left.1.0 new left.1.3)
  where
    idle : IsIdle me old left.1.0
    idle = left.1.2.1

    by : ChangedNoFile me left.1.0 new ⊎ TransferRefused me file (at / 4096 + 0) (take 4096 (byte ∷ bytes)) e left.1.0 new → FirstLeft me file (at / 4096) (take 4096 (byte ∷ bytes)) e old new
    by (inl kept) = inl (is-then me KeepsFiles old left.1.0 new (is-idle me KeepsFiles old left.1.0 idle) kept)
    by (inr refused) = inr (left.1.0, idle, subst (λ (n : ℕ). TransferRefused me file n (take 4096 (byte ∷ bytes)) e left.1.0 new) (first-page (at / 4096)) refused)

first-shaped : (u : Setup) (me : ℕ) (file : File) (at : ℕ) (bytes : List ℕ) (shape : Option CcError) (e : CcError) (old new : List Entry) → ShapedWriteLeft u me file at bytes shape (Err (0, e)) old new → FirstLeft me file (at / 4096) (take 4096 bytes) e old new
first-shaped u me file at bytes None e old new left = first-aligned u me file at bytes e old new left
first-shaped u me file at bytes (Some refusal) e old new left = inl (misshapen-files me file (call.NcWrite file (at / 4096)) refusal e old new left.1)

pub first-write-files : (u : Setup) (me : ℕ) (file : File) (at : ℕ) (bytes : List ℕ) (e : CcError) (old new : List Entry) → NcWriteLeft u me file at bytes (Err (0, e)) old new → FirstLeft me file (at / 4096) (take 4096 bytes) e old new
first-write-files u me file at bytes e old new left = first-shaped u me file at bytes _ e old new left

pub transfer-cause : (me : ℕ) (file : File) (page : ℕ) (bytes : List ℕ) (e : CcError) (old new : List Entry) → TransferRefused me file page bytes e old new → (e ≡ error.WriteFault page) ⊎ (e ≡ error.NoMemory)
transfer-cause me file page bytes (error.WriteFault failed) old new left = inl (ap (λ (n : ℕ). error.WriteFault n) left.0)
transfer-cause me file page bytes error.NoMemory old new left = inr refl
transfer-cause me file page bytes other old new left = absurd left

-- no file but by the store of the page
abbrev ButStore : ℕ → File → ℕ → List ℕ → List Entry → List Entry → Type 0
ButStore me file page bytes old new = ChangedNoFileBut me (IsEntryOf (call.NcStore file page bytes) (outcome.Done reply.Unit)) old new

abbrev KeptOrStore : File → ℕ → List ℕ → List Entry → Entry → Type 0
KeptOrStore file page bytes past e = KeepsFiles past e ⊎ IsEntryOf (call.NcStore file page bytes) (outcome.Done reply.Unit) e

kept-but : (me : ℕ) (file : File) (page : ℕ) (bytes : List ℕ) (old new : List Entry) → ChangedNoFile me old new → ButStore me file page bytes old new
kept-but me file page bytes old new kept = is-implies me KeepsFiles (KeptOrStore file page bytes) (λ past e is. inl is) old new kept

stored-but : (me : ℕ) (file : File) (page : ℕ) (bytes : List ℕ) (end : End) (old new : List Entry) → StoreIsTransferred me file page bytes end old new → ButStore me file page bytes old new
stored-but me file page bytes end old new is =
    subst (λ (l : List Entry). ButStore me file page bytes old l) (sym is.grew)
    (is-then me Is old _ _
    (is-then me Is old _ _
    (is-then me Is old _ _
    (is-then me Is old (is.earlier ++ old) _
    (is-works me Is (Calls (call.NcStore file page bytes)) is.earlier old (λ past e may. inl (steps-keep me (Calls (call.NcStore file page bytes)) old past e may)) is.works)
    (is-entry me Is (entry.Call me is.nth (Some file.stream) (call.NcStore file page bytes) (outcome.Done reply.Unit)) (is.earlier ++ old) (inr (refl, refl))))
    (is-entry me Is (entry.WriteBegin me (record { stream = file.stream; page = page })) _ (inl (keeps-files _ _ refl))))
    (is-others me Is is.waiting _ is.quiet))
    (is-entry me Is (entry.WriteEnd me (record { stream = file.stream; page = page }) end) _ (inl (keeps-files _ _ refl))))
  where
    Is : List Entry → Entry → Type 0
    Is = KeptOrStore file page bytes

pub transfer-refused-files : (me : ℕ) (file : File) (page : ℕ) (bytes : List ℕ) (e : CcError) (old new : List Entry) → TransferRefused me file page bytes e old new → ButStore me file page bytes old new
transfer-refused-files me file page bytes (error.WriteFault failed) old new left =
    is-then me (KeptOrStore file page bytes) old left.1 new (stored-but me file page bytes how.Failed old left.1 left.3)
    (kept-but me file page bytes left.1 new (only-refused me left.2 file (call.NcWrite file page) (error.WriteFault failed) left.1 new left.4))
transfer-refused-files me file page bytes error.NoMemory old new left =
    is-then me (KeptOrStore file page bytes) old left.0 new (stored-but me file page bytes how.NoMemory old left.0 left.1)
    (is-idle me (KeptOrStore file page bytes) left.0 new left.2)
transfer-refused-files me file page bytes other old new left = absurd left

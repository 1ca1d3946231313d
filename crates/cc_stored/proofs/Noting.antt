-- The entries that a pass places with a disk in hand, and what it knows in the visits in which it does.
use Rattle.std.specs.Prelude.{◌≡◌, ℕ, suc, ◌+◌, ◌-◌, ◌<◌, ◌≤◌, Bool, true, false, ◌==◌, List, [], ◌∷◌, Result, Ok, Err, None, Some, refl}
use Rattle.std.specs.List.{sum_by}
use Rattle.std.proofs.Common.{ap, sym, ◌∙◌, subst, arith}
use Rattle.std.proofs.lemmas.Bool.{eq-eqb}
use Rattle.std.proofs.lemmas.List.Sums.{sum_by-cons}
use Rattle.cc_entry.specs.declared.entry.End.{End}
use Rattle.cc_entry.specs.declared.entry.Entry.{Entry}
use Rattle.cc_entry.specs.declared.entry.Entry.TheVariants as entry
use Rattle.cc_entry.specs.declared.error.CcError.{CcError}
use Rattle.cc_journal.specs.Journal.{JournalState, MayBePushed}
use Rattle.cc_journal.proofs.GoodEntries.{MayBePushed-good}
use Rattle.cc_laws.proofs.HistorySteps.{history-no_effect, history-sync, history-sync_other}
use Rattle.cc_laws.proofs.HoldSteps.{holds_of-synced}
use Rattle.cc_laws.proofs.ImageSteps.{open_of-synced}
use Rattle.cc_laws.proofs.QueueSteps.{is_defer_or_post}
use Rattle.cc_laws.proofs.QuietSteps.{eqb-swapped}
use Rattle.cc_laws.proofs.TurnSteps.{is_quiet-none, is_quiet-unneeded}
use Rattle.cc_model.specs.Allowed.{IsAllowed, IsAllowedSoFar, IsOwed, owed_begin}
use Rattle.cc_model.specs.Cache.{all_streams}
use Rattle.cc_model.specs.Covered.{IsCovered, IsCoveredEntry}
use Rattle.cc_model.specs.Good.{IsGood}
use Rattle.cc_model.specs.History.{Effect, history}
use Rattle.cc_model.specs.Images.{open_of}
use Rattle.cc_model.specs.Legal.{IsLegal, IsLegalEntry}
use Rattle.cc_model.specs.Records.{MayRecord}
use Rattle.cc_model.specs.Room.{owed_by_stream, stores_unfinished, reserved_in}
use Rattle.cc_model.specs.Setup.{Setup}
use Rattle.cc_model.specs.Turns.{Turn, Device, Book, Log, Journal, needs, is_quiet}
use Rattle.cc_step.proofs.Placed.{so-far}
use Rattle.cc_turns.specs.Standing.{Standing, TurnsHeld, holds}
use Rattle.cc_turns.specs.Takes.{Grows, may_be_of}
use Rattle.cc_writes.proofs.OneVisit.{Visiting, Visited, visited, stepping-none}
use Rattle.cc_writes.proofs.Placed.{quiet-page}
use Rattle.cc_writes.proofs.Quiet.{history-kept}
use Rattle.cc_writes.proofs.Resting.{disk-held, rest-same}
use Rattle.cc_stored.specs.Stored.{MayNote, ReservedIn}

nothing_owed : (e : Entry) (past : List Entry) → owed_begin past ≡ None → IsOwed (owed_begin past) e
nothing_owed e past none = rw none tt

-- a good journal stays good with each of them
good-unread : (u : Setup) (past : List Entry) (pass s : ℕ) → IsGood u past → IsGood u (entry.RecordFailed pass s ∷ past)
unfolding IsLegal IsLegalEntry IsAllowed IsAllowedSoFar IsCovered IsCoveredEntry
good-unread u past pass s good = record {
  legal = (tt, good.legal);
  allowed = ((nothing_owed _ past good.allowed.1, tt, good.allowed.0), refl);
  covered = (tt, good.covered);
}

good-synced : (u : Setup) (past : List Entry) (pass s : ℕ) (how : End) → IsGood u past → open_of (history past s) ≡ None → IsGood u (entry.Sync pass s how ∷ past)
unfolding IsLegal IsLegalEntry IsAllowed IsAllowedSoFar IsCovered IsCoveredEntry
good-synced u past pass s how good may = record {
  legal = (tt, good.legal);
  allowed = ((nothing_owed _ past good.allowed.1, may, good.allowed.0), refl);
  covered = (tt, good.covered);
}

good-recorded : (u : Setup) (past : List Entry) (pass s size valid : ℕ) (how : End) → IsGood u past → MayRecord (history past s) size valid → IsGood u (entry.Record pass s size valid how ∷ past)
unfolding IsLegal IsLegalEntry IsAllowed IsAllowedSoFar IsCovered IsCoveredEntry
good-recorded u past pass s size valid how good may = record {
  legal = (tt, good.legal);
  allowed = ((nothing_owed _ past good.allowed.1, may, good.allowed.0), refl);
  covered = (tt, good.covered);
}

pub may_note-good : (w : Standing) (e : Entry) (past : List Entry) → MayNote w e → Grows w past → IsGood w.setup past → IsGood w.setup (e ∷ past)
may_note-good w (entry.RecordFailed pass s) past may grows good = good-unread w.setup past pass s good
may_note-good w (entry.Sync pass s how) past may grows good =
    good-synced w.setup past pass s how good (rest-same w.seen past s (disk-held w s past may.1 grows) may.2)
may_note-good w (entry.Record pass s size valid how) past may grows good =
    good-recorded w.setup past pass s size valid how good
    (subst (λ (h : List Effect). MayRecord h size valid) (sym (history-kept w s past may.2 may.1 grows)) may.3)
may_note-good w other past may grows good = absurd may

may_note-own : (w : Standing) (e : Entry) → MayNote w e → may_be_of w.number e ≡ true
may_note-own w (entry.RecordFailed pass s) may = eq-eqb pass w.number may.0
may_note-own w (entry.Sync pass s how) may = eq-eqb pass w.number may.0
may_note-own w (entry.Record pass s size valid how) may = eq-eqb pass w.number may.0
may_note-own w other may = absurd may

-- they need no turn that is not held
clash : true ≡ false → ⊥
clash e = absurd (cc)

quiet-disk : (h : TurnsHeld) (s : ℕ) (e : Entry) → ((t : Turn) → needs e t ≡ needs (entry.RecordFailed 0 s) t) → h.device ≡ Some s → h.journal ≡ true → (t : Turn) → holds h t ≡ false → is_quiet t (e ∷ []) ≡ true
quiet-disk h s e same device journal t free = is_quiet-unneeded t e [] (same t ∙ unneeded t free) ∙ is_quiet-none t
  where
    unneeded : (x : Turn) → holds h x ≡ false → needs (entry.RecordFailed 0 s) x ≡ false
    unneeded (Device n) apart = eqb-swapped s n (rw device at apart)
    unneeded (Book n) apart = refl
    unneeded (Log n) apart = refl
    unneeded Journal apart = absurd (clash (sym journal ∙ apart))

may_note-quiet : (w : Standing) (e : Entry) → MayNote w e → (t : Turn) → holds (record w.held { journal = true }) t ≡ false → is_quiet t (e ∷ []) ≡ true
may_note-quiet w (entry.RecordFailed pass s) may = quiet-disk (record w.held { journal = true }) s (entry.RecordFailed pass s) (λ t. refl) may.1 refl
may_note-quiet w (entry.Sync pass s how) may = quiet-disk (record w.held { journal = true }) s (entry.Sync pass s how) (λ t. refl) may.1 refl
may_note-quiet w (entry.Record pass s size valid how) may =
    quiet-page (record w.held { journal = true }) (record { stream = s; page = 0 }) (entry.Record pass s size valid how) (λ t. refl) may.2 may.1 refl
may_note-quiet w other may = absurd may

-- they reserve nothing
sum-same : (f g : ℕ → ℕ) (ns : List ℕ) → ((n : ℕ) → f n ≡ g n) → sum_by f ns ≡ sum_by g ns
sum-same f g [] same = refl
sum-same f g (n ∷ ns) same = sum_by-cons f n ns ∙ rw (same n, sum-same f g ns same) (sym (sum_by-cons g n ns))

owed-synced : (pass stream : ℕ) (how : End) (past : List Entry) (s : ℕ) → owed_by_stream (history (entry.Sync pass stream how ∷ past) s) ≡ owed_by_stream (history past s)
owed-synced pass stream how past s = go (stream == s) refl
  where
    go : (b : Bool) → (stream == s) ≡ b → owed_by_stream (history (entry.Sync pass stream how ∷ past) s) ≡ owed_by_stream (history past s)
    go true here = rw (history-sync pass stream how past s here, holds_of-synced pass how (history past s), open_of-synced pass how (history past s)) refl
    go false away = rw (history-sync_other pass stream how past s away) refl

may_note-reserved : (w : Standing) (e : Entry) (past : List Entry) → MayNote w e → reserved_in (e ∷ past) ≡ reserved_in past
unfolding reserved_in stores_unfinished
may_note-reserved w (entry.RecordFailed pass stream) past may =
    rw (sum-same (λ s. owed_by_stream (history (entry.RecordFailed pass stream ∷ past) s)) (λ s. owed_by_stream (history past s)) all_streams (λ s. ap owed_by_stream (history-no_effect (entry.RecordFailed pass stream) past s refl))) refl
may_note-reserved w (entry.Sync pass stream how) past may =
    rw (sum-same (λ s. owed_by_stream (history (entry.Sync pass stream how ∷ past) s)) (λ s. owed_by_stream (history past s)) all_streams (owed-synced pass stream how past)) refl
may_note-reserved w (entry.Record pass stream size valid how) past may =
    rw (sum-same (λ s. owed_by_stream (history (entry.Record pass stream size valid how ∷ past) s)) (λ s. owed_by_stream (history past s)) all_streams (λ s. ap owed_by_stream (history-no_effect (entry.Record pass stream size valid how) past s refl))) refl
may_note-reserved w other past may = absurd may

pub may_note-pushed : {Q : Type 0} (posted : Q → Bool) (w v : Standing) (e : Entry) (j : JournalState Q) → MayNote w e → Visiting posted w v j → MayBePushed j.entries e
may_note-pushed posted w v e j may vis = MayBePushed-good w.setup j.entries e (so-far w.setup (e ∷ j.entries) (may_note-good w e j.entries may vis.grows vis.good))

pub may_note-kind : (w : Standing) (e : Entry) → MayNote w e → is_defer_or_post e ≡ false
may_note-kind w (entry.RecordFailed pass s) may = refl
may_note-kind w (entry.Sync pass s how) may = refl
may_note-kind w (entry.Record pass s size valid how) may = refl
may_note-kind w other may = absurd may

-- one was placed, at the place that was reserved for it
pub noted : {Q : Type 0} (posted : Q → Bool) (w v : Standing) (e : Entry) (j k : JournalState Q) → w.held.journal ≡ false → w.in_flight ≡ 1 → MayNote w e → Visiting posted w v j → k ≡ record j { entries = e ∷ j.entries; reserved = j.reserved - 1; rows = k.rows } → Visited posted w v 0 k
noted {Q = Q} posted w v e j k away reserved may vis placed = visited posted w v 0 (e ∷ []) j k away vis (record {
  kept = placed ∙ ap (λ (n : ℕ). record j { entries = e ∷ j.entries; reserved = n; rows = k.rows }) (sym (ap (λ x. x.reserved) placed));
  good = subst (λ (past : List Entry). IsGood w.setup past) (sym (ap (λ x. x.entries) placed)) (may_note-good w e j.entries may vis.grows vis.good);
  event = tt;
  own = (may_note-own w e may, tt);
  held = may_note-quiet w e may;
  reserved = ap (λ x. x.reserved) placed
      ∙ (less j.reserved (reserved_in j.entries) w.in_flight v.others reserved vis.reserved_is
      ∙ ap (λ (n : ℕ). n + 0 + v.others) (sym (ap (λ x. reserved_in x.entries) placed ∙ may_note-reserved w e j.entries may)));
})
  where
    less : (n owed mine others : ℕ) → mine ≡ 1 → n ≡ owed + mine + others → n - 1 ≡ owed + 0 + others
    less n owed mine others one is = omega (arith, one, is)

-- a place is there for it
pub reserved-there : {Q : Type 0} (posted : Q → Bool) (w v : Standing) (j : JournalState Q) → w.in_flight ≡ 1 → Visiting posted w v j → 0 < j.reserved
reserved-there posted w v j reserved vis = some j.reserved (reserved_in j.entries) w.in_flight v.others vis.reserved_is reserved
  where
    some : (n owed mine others : ℕ) → n ≡ owed + mine + others → mine ≡ 1 → 0 < n
    some n owed mine others is one = omega (arith, is, one)

-- ---- a place was asked for

abbrev pub flight_after : Result (Unit {0}) CcError → ℕ → ℕ
flight_after (Ok done) n = suc n
flight_after (Err e) n = n

pub few-after : (result : Result (Unit {0}) CcError) (n : ℕ) → n ≡ 0 → flight_after result n ≤ 1
few-after (Ok done) n none = omega (arith, none)
few-after (Err e) n none = omega (arith, none)

pub reserved-visited : {Q : Type 0} (posted : Q → Bool) (w v : Standing) (result : Result (Unit {0}) CcError) (j k : JournalState Q) → w.held.journal ≡ false → Visiting posted w v j → ReservedIn result j k → Visited posted w v (flight_after result w.in_flight) k
reserved-visited posted w v (Ok done) j k away vis left =
    visited posted w v (suc w.in_flight) [] j k away vis (stepping-none posted w v (suc w.in_flight) (j.reserved + 1) j k vis left (more j.reserved (reserved_in j.entries) w.in_flight v.others vis.reserved_is))
  where
    more : (n owed mine others : ℕ) → n ≡ owed + mine + others → n + 1 ≡ owed + suc mine + others
    more n owed mine others is = omega (arith, is)
reserved-visited posted w v (Err e) j k away vis left =
    visited posted w v w.in_flight [] j k away vis (stepping-none posted w v w.in_flight j.reserved j k vis left.1 vis.reserved_is)

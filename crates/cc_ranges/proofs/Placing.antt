-- The entry of a sync, in a visit with the stream's disk in hand alone.
use Rattle.std.specs.Prelude.{◌≡◌, ℕ, ◌+◌, ◌-◌, ◌<◌, Bool, true, false, ◌==◌, List, [], ◌∷◌, None, Some, refl}
use Rattle.std.specs.List.{sum_by}
use Rattle.std.proofs.Common.{ap, sym, ◌∙◌, subst, arith}
use Rattle.std.proofs.lemmas.Bool.{eq-eqb}
use Rattle.std.proofs.lemmas.List.Sums.{sum_by-cons}
use Rattle.cc_entry.specs.declared.entry.End.{End}
use Rattle.cc_entry.specs.declared.entry.Entry.{Entry}
use Rattle.cc_entry.specs.declared.entry.Entry.TheVariants as entry
use Rattle.cc_journal.specs.Journal.{JournalState, MayBePushed}
use Rattle.cc_journal.proofs.GoodEntries.{MayBePushed-good}
use Rattle.cc_laws.proofs.HistorySteps.{history-sync, history-sync_other}
use Rattle.cc_laws.proofs.HoldSteps.{holds_of-synced}
use Rattle.cc_laws.proofs.ImageSteps.{open_of-synced}
use Rattle.cc_laws.proofs.QuietSteps.{eqb-swapped}
use Rattle.cc_laws.proofs.TurnSteps.{is_quiet-none, is_quiet-unneeded}
use Rattle.cc_model.specs.Allowed.{IsAllowed, IsAllowedSoFar}
use Rattle.cc_model.specs.Cache.{all_streams}
use Rattle.cc_model.specs.Covered.{IsCovered, IsCoveredEntry}
use Rattle.cc_model.specs.Good.{IsGood}
use Rattle.cc_model.specs.History.{history}
use Rattle.cc_model.specs.Images.{open_of}
use Rattle.cc_model.specs.Legal.{IsLegal, IsLegalEntry}
use Rattle.cc_model.specs.Room.{owed_by_stream, stores_unfinished, reserved_in}
use Rattle.cc_model.specs.Setup.{Setup}
use Rattle.cc_model.specs.Turns.{Turn, Device, Book, Log, Journal, needs, is_quiet}
use Rattle.cc_step.proofs.Placed.{so-far}
use Rattle.cc_turns.specs.Standing.{Standing, TurnsHeld, holds, nothing}
use Rattle.cc_writes.specs.Visits.{HasPlaced}
use Rattle.cc_writes.proofs.Resting.{disk-held, rest-same}
use Rattle.cc_writes.proofs.OneVisit.{Visiting, Visited, visited}
use Rattle.cc_ranges.proofs.FlushStepping.{nothing_owed}

-- a good journal stays good with it, where no transfer is under way
good-synced : (u : Setup) (past : List Entry) (pass s : ℕ) (how : End) → IsGood u past → open_of (history past s) ≡ None → IsGood u (entry.Sync pass s how ∷ past)
unfolding IsLegal IsLegalEntry IsAllowed IsAllowedSoFar IsCovered IsCoveredEntry
good-synced u past pass s how good may = record {
  legal = (tt, good.legal);
  allowed = ((nothing_owed _ past good.allowed.1, may, good.allowed.0), refl);
  covered = (tt, good.covered);
}

-- it reserves nothing
sum-same : (f g : ℕ → ℕ) (ns : List ℕ) → ((n : ℕ) → f n ≡ g n) → sum_by f ns ≡ sum_by g ns
sum-same f g [] same = refl
sum-same f g (n ∷ ns) same = sum_by-cons f n ns ∙ rw (same n, sum-same f g ns same) (sym (sum_by-cons g n ns))

owed-synced : (pass stream : ℕ) (how : End) (past : List Entry) (s : ℕ) → owed_by_stream (history (entry.Sync pass stream how ∷ past) s) ≡ owed_by_stream (history past s)
owed-synced pass stream how past s = go (stream == s) refl
  where
    go : (b : Bool) → (stream == s) ≡ b → owed_by_stream (history (entry.Sync pass stream how ∷ past) s) ≡ owed_by_stream (history past s)
    go true here = rw (history-sync pass stream how past s here, holds_of-synced pass how (history past s), open_of-synced pass how (history past s)) refl
    go false away = rw (history-sync_other pass stream how past s away) refl

reserved-synced : (pass stream : ℕ) (how : End) (past : List Entry) → reserved_in (entry.Sync pass stream how ∷ past) ≡ reserved_in past
unfolding reserved_in stores_unfinished
reserved-synced pass stream how past =
    rw (sum-same (λ s. owed_by_stream (history (entry.Sync pass stream how ∷ past) s)) (λ s. owed_by_stream (history past s)) all_streams (owed-synced pass stream how past)) refl

-- it needs no turn but the journal's and the disk's
clash : true ≡ false → ⊥
clash e = absurd (cc)

quiet-sync : (h : TurnsHeld) (pass s : ℕ) (how : End) → h.device ≡ Some s → h.journal ≡ true → (t : Turn) → holds h t ≡ false → is_quiet t (entry.Sync pass s how ∷ []) ≡ true
quiet-sync h pass s how device journal t free = is_quiet-unneeded t (entry.Sync pass s how) [] (unneeded t free) ∙ is_quiet-none t
  where
    unneeded : (x : Turn) → holds h x ≡ false → needs (entry.Sync pass s how) x ≡ false
    unneeded (Device n) apart = eqb-swapped s n (rw device at apart)
    unneeded (Book n) apart = refl
    unneeded (Log n) apart = refl
    unneeded Journal apart = absurd (clash (sym journal ∙ apart))

module _ {Q : Type 0} (posted : Q → Bool) (w v : Standing) (s : ℕ) (how : End) (j : JournalState Q)
    (held : w.held ≡ record nothing { device = Some s }) (rest : open_of (history w.seen s) ≡ None) (reserved : w.in_flight ≡ 1)
    (vis : Visiting posted w v j) (pass : ℕ) (me : pass ≡ w.number) where
  device : w.held.device ≡ Some s
  device = ap (λ (h : TurnsHeld). h.device) held

  good : IsGood w.setup (entry.Sync pass s how ∷ j.entries)
  good = good-synced w.setup j.entries pass s how vis.good (rest-same w.seen j.entries s (disk-held w s j.entries device vis.grows) rest)

  pub sync-pushed : MayBePushed j.entries (entry.Sync pass s how)
  sync-pushed = MayBePushed-good w.setup j.entries (entry.Sync pass s how) (so-far w.setup (entry.Sync pass s how ∷ j.entries) good)

  pub sync-reserved : 0 < j.reserved
  sync-reserved = some j.reserved (reserved_in j.entries) w.in_flight v.others vis.reserved_is reserved
    where
      some : (n owed mine others : ℕ) → n ≡ owed + mine + others → mine ≡ 1 → 0 < n
      some n owed mine others is one = omega (arith, is, one)

  module _ (k : JournalState Q) (placed : k ≡ record j { entries = entry.Sync pass s how ∷ j.entries; reserved = j.reserved - 1; rows = k.rows }) where
    pub sync-placed : HasPlaced w (entry.Sync w.number s how) k.entries
    sync-placed = record {
      front = j.entries;
      grows = vis.grows;
      placed = ap (λ (x : JournalState Q). x.entries) placed ∙ ap (λ (n : ℕ). entry.Sync n s how ∷ j.entries) me;
    }

    pub sync-given : Visited posted w v 0 k
    sync-given = visited posted w v 0 (entry.Sync pass s how ∷ []) j k (ap (λ (h : TurnsHeld). h.journal) held) vis (record {
      kept = placed ∙ ap (λ (n : ℕ). record j { entries = entry.Sync pass s how ∷ j.entries; reserved = n; rows = k.rows }) (sym (ap (λ (x : JournalState Q). x.reserved) placed));
      good = subst (λ (past : List Entry). IsGood w.setup past) (sym (ap (λ (x : JournalState Q). x.entries) placed)) good;
      event = tt;
      own = (eq-eqb pass w.number me, tt);
      held = quiet-sync (record w.held { journal = true }) pass s how device refl;
      reserved = ap (λ (x : JournalState Q). x.reserved) placed
          ∙ (less j.reserved (reserved_in j.entries) w.in_flight v.others reserved vis.reserved_is
          ∙ ap (λ (n : ℕ). n + 0 + v.others) (sym (ap (λ (x : JournalState Q). reserved_in x.entries) placed ∙ reserved-synced pass s how j.entries)));
    })
      where
        less : (n owed mine others : ℕ) → mine ≡ 1 → n ≡ owed + mine + others → n - 1 ≡ owed + 0 + others
        less n owed mine others one is = omega (arith, one, is)

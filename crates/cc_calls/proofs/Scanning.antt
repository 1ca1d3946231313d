-- A visit to the journal that placed a scan, or nothing for want of room or of memory.
use Rattle.std.specs.Prelude.{◌≡◌, ℕ, ◌+◌, ◌-◌, ◌<◌, ◌≤◌, Bool, true, false, List, [], ◌∷◌, ◌++◌, length, Result, Ok, Err, refl}
use Rattle.std.specs.List.{list_all, sum_by}
use Rattle.std.proofs.Common.{ap, sym, ◌∙◌, subst, arith, inl, inr, ⊎_elim}
use Rattle.std.proofs.lemmas.Bool.{eq-eqb}
use Rattle.cc_dirty.specs.declared.row.Row.{Row}
use Rattle.cc_entry.specs.Place.{Page}
use Rattle.cc_entry.specs.declared.entry.Entry.{Entry}
use Rattle.cc_entry.specs.declared.entry.Entry.TheVariants as entry
use Rattle.cc_entry.specs.declared.error.CcError.{CcError}
use Rattle.cc_entry.specs.declared.error.CcError.TheVariants as error
use Rattle.cc_journal.specs.Journal.{JournalState, MayBePushed, room_of}
use Rattle.cc_laws.proofs.HistorySteps.{history-scan}
use Rattle.cc_laws.proofs.TurnSteps.{is_quiet-none, is_quiet-unneeded}
use Rattle.cc_model.specs.Cache.{all_streams}
use Rattle.cc_model.specs.Good.{IsGood}
use Rattle.cc_model.specs.History.{history}
use Rattle.cc_model.specs.Pick.{pick}
use Rattle.cc_model.specs.Room.{owed_by_stream, reserved_in, stores_unfinished}
use Rattle.cc_model.specs.Setup.{Setup}
use Rattle.cc_model.specs.Turns.{Turn, Device, Book, Log, Journal, is_quiet, needs}
use Rattle.cc_step.specs.Step.{IsStop}
use Rattle.cc_step.proofs.Reserved.{sum-same}
use Rattle.cc_turns.specs.Journal.{JournalStands}
use Rattle.cc_turns.specs.Standing.{TurnsHeld, Standing, holds}
use Rattle.cc_turns.specs.Takes.{Grows, Takes, with_journal, without_journal}
use Rattle.cc_writes.specs.Hands.{WentWith}
use Rattle.cc_writes.specs.Logs.{IsStopAt}
use Rattle.cc_writes.specs.Ways.{IsFull}
use Rattle.cc_writes.proofs.Beginning.{want-stop}
use Rattle.cc_writes.proofs.OneVisit.{Visited, Visiting, stepping-none, visited, visiting}
use Rattle.cc_writes.proofs.Replies.{full-stopped}
use Rattle.cc_calls.specs.Answers.{IsFree}
use Rattle.cc_calls.specs.Ticks.{ArePicked, HasScannedIn, IsPickedTwice, ScanIn, ScanLeft, has_disk}
use Rattle.cc_calls.proofs.Picking.{are-picked, good-scan, pushed-scan}
use Rattle.cc_calls.proofs.Streamless.{reserving}

-- the entry needs the turn of the journal alone
quiet-scan : (h : TurnsHeld) (pass : ℕ) (picked : List Page) → h.journal ≡ true → (t : Turn) → holds h t ≡ false → is_quiet t (entry.Scan pass picked ∷ []) ≡ true
quiet-scan h pass picked journal t free = is_quiet-unneeded t (entry.Scan pass picked) [] (unneeded t free) ∙ is_quiet-none t
  where
    unneeded : (x : Turn) → holds h x ≡ false → needs (entry.Scan pass picked) x ≡ false
    unneeded (Device n) apart = refl
    unneeded (Book n) apart = refl
    unneeded (Log n) apart = refl
    unneeded Journal apart = absurd (clash (sym journal ∙ apart))
      where
        clash : true ≡ false → ⊥
        clash e = absurd (cc)

-- it reserves nothing
reserved-scan : (pass : ℕ) (picked : List Page) (past : List Entry) → reserved_in (entry.Scan pass picked ∷ past) ≡ reserved_in past
unfolding reserved_in stores_unfinished
reserved-scan pass picked past =
    rw (sum-same (λ s. owed_by_stream (history (entry.Scan pass picked ∷ past) s)) (λ s. owed_by_stream (history past s)) all_streams (λ s. ap owed_by_stream (history-scan pass picked past s))) refl

-- The entry of a scan was placed where one place was reserved for it.
back : (n : ℕ) → (n + 1) - 1 ≡ n
back n = omega arith

placed-from : {Q : Type 0} (e : Entry) (rows : List Row) (j i k : JournalState Q) → i ≡ reserving j → k ≡ record i { entries = e ∷ i.entries; reserved = i.reserved - 1; rows = rows } → k ≡ record j { entries = e ∷ j.entries; rows = rows }
placed-from {Q = Q} e rows j i k same placed =
    subst (λ (x : JournalState Q). k ≡ record x { entries = e ∷ x.entries; reserved = x.reserved - 1; rows = rows }) same placed
    ∙ ap (λ (n : ℕ). record j { entries = e ∷ j.entries; reserved = n; rows = rows }) (back j.reserved)

module _ {Q : Type 0} (u : Setup) (pass streams : ℕ) (picked told : List Page) (j i : JournalState Q) (good : IsGood u j.entries) (threshold : u.threshold ≡ j.threshold)
    (same : i ≡ reserving j) (twice : IsPickedTwice streams i (picked, told)) where
  entries_same : i.entries ≡ j.entries
  entries_same = ap (λ (x : JournalState Q). x.entries) same

  picks : (w : Setup) → w.threshold ≡ j.threshold → picked ≡ pick w j.entries
  picks w is = twice.is_pick w (is ∙ sym (ap (λ (x : JournalState Q). x.threshold) same)) ∙ ap (λ (past : List Entry). pick w past) entries_same

  pub may-scan : MayBePushed i.entries (entry.Scan pass picked)
  may-scan = subst (λ (past : List Entry). MayBePushed past (entry.Scan pass picked)) (sym entries_same) (pushed-scan u j.entries pass picked (picks u threshold) good)

  pub scanned-in : (k : JournalState Q) → k ≡ record i { entries = entry.Scan pass picked ∷ i.entries; reserved = i.reserved - 1; rows = k.rows } → HasScannedIn pass streams told j k
  scanned-in k placed = record {
    is_pick = λ w is. twice.again ∙ picks w is;
    are_picked = are-picked u j.entries streams told good (twice.again ∙ picks u threshold) (ap (list_all (has_disk streams)) twice.again ∙ twice.known);
    placed = placed-from (entry.Scan pass picked) k.rows j i k same placed ∙ ap (λ (l : List Page). record j { entries = entry.Scan pass l ∷ j.entries; rows = k.rows }) (sym twice.again);
  }

-- What the visit gives.
module _ {Q : Type 0} (posted : Q → Bool) (w v : Standing) (j k : JournalState Q) (can : IsFree w) (took : Takes with_journal w v) (stands : JournalStands posted v j)
    (pass streams : ℕ) (me : pass ≡ v.number) (all : streams ≡ w.streams) where
  vis : Visiting posted w v j
  vis = visiting posted w v j took stands

  away : w.held.journal ≡ false
  away = ap (λ (h : TurnsHeld). h.journal) can.free

  mine : pass ≡ w.number
  mine = me ∙ ap (λ (x : Standing). x.number) took.same

  threshold_is : w.setup.threshold ≡ j.threshold
  threshold_is = sym (stands.threshold_is ∙ ap (λ (x : Standing). x.setup.threshold) took.same)

  pub scan-good : (u : Setup) × IsGood u j.entries × (u.threshold ≡ j.threshold)
  scan-good = (w.setup, vis.good, threshold_is)

  visited-scanned : (picked : List Page) → HasScannedIn w.number w.streams picked j k → Visited posted w v w.in_flight k
  visited-scanned picked is = visited posted w v w.in_flight (entry.Scan w.number picked ∷ []) j k away vis (record {
    kept = is.placed ∙ ap (λ (n : ℕ). record j { entries = entry.Scan w.number picked ∷ j.entries; reserved = n; rows = k.rows }) (sym (ap (λ (x : JournalState Q). x.reserved) is.placed));
    good = subst (λ (past : List Entry). IsGood w.setup past) (sym (ap (λ (x : JournalState Q). x.entries) is.placed)) (good-scan w.setup j.entries w.number picked (is.is_pick w.setup threshold_is) vis.good);
    event = tt;
    own = (eq-eqb w.number w.number refl, tt);
    held = quiet-scan (record w.held { journal = true }) w.number picked refl;
    reserved = ap (λ (x : JournalState Q). x.reserved) is.placed
        ∙ (vis.reserved_is
        ∙ ap (λ (n : ℕ). n + w.in_flight + v.others) (sym (ap (λ (x : JournalState Q). reserved_in x.entries) is.placed ∙ reserved-scan w.number picked j.entries)));
  })

  visited-scan : (r : Result (List Page) CcError) → ScanIn w.number w.streams r j k → Visited posted w v w.in_flight k
  visited-scan (Ok picked) is = visited-scanned picked is
  visited-scan (Err e) is = visited posted w v w.in_flight [] j k away vis (stepping-none posted w v w.in_flight j.reserved j k vis is.1 vis.reserved_is)

  left-scan : (r : Result (List Page) CcError) → ScanIn w.number w.streams r j k → ScanLeft w r k.entries
  left-scan (Ok picked) is = (record { front = j.entries; grows = vis.grows; placed = ap (λ (x : JournalState Q). x.entries) is.placed }, is.are_picked)
  left-scan (Err e) is = (subst (λ (x : JournalState Q). Grows w x.entries) (sym is.1) vis.grows, want-stop 1 j e is.0)

  stop : (e : CcError) (x : JournalState Q) → IsStopAt 1 x e → IsStop 1 e x
  stop e x (inl full) = inl full
  stop e x (inr none) = inr (none, omega arith)

  full-scan : (r : Result (List Page) CcError) → ScanIn w.number w.streams r j k → IsFull 1 (without_journal k v) r
  full-scan (Ok picked) is = tt
  full-scan (Err e) is =
      full-stopped (List Page) posted 1 (without_journal k v) k e (visited-scan (Err e) is).journal (subst (λ (x : JournalState Q). IsStop 1 e x) (sym is.1) (stop e j is.0))

  module _ (result : Result (List Page) CcError) (left : ScanIn pass streams result j k) where
    here : ScanIn w.number w.streams result j k
    here = subst (λ (n : ℕ). ScanIn n w.streams result j k) mine (subst (λ (m : ℕ). ScanIn pass m result j k) all left)

    pub gives-scan : Visited posted w v w.in_flight k
    gives-scan = visited-scan result here

    pub scan-left : (z : Standing) → z ≡ without_journal k v → ScanLeft w result z.seen
    scan-left z is = subst (λ (past : List Entry). ScanLeft w result past) (sym (ap (λ (x : Standing). x.seen) is)) (left-scan result here)

    pub scan-full : (z : Standing) → z ≡ without_journal k v → IsFull 1 z result
    scan-full z is = subst (λ (x : Standing). IsFull 1 x result) (sym is) (full-scan result here)

    pub scan-goes : (z : Standing) → z ≡ without_journal k v → WentWith w.in_flight w z
    scan-goes z is = subst (λ (x : Standing). WentWith w.in_flight w x) (sym is) gives-scan.went

    pub scan-stays : (z : Standing) → z ≡ without_journal k v → IsGood w.setup z.seen
    scan-stays z is =
        subst (λ (past : List Entry). IsGood w.setup past) (sym (ap (λ (x : Standing). x.seen) is))
        (subst (λ (u : Setup). IsGood u k.entries) (ap (λ (x : Standing). x.setup) gives-scan.went.same) gives-scan.good)

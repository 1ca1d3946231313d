-- The log of a page: the entries that the pass places of it, and what it stands for meanwhile.
use Rattle.std.specs.Prelude.{◌≡◌, ℕ, suc, ◌+◌, ◌-◌, ◌<◌, ◌≤◌, Bool, true, false, List, [], ◌∷◌, Result, Ok, Err, Option, None, Some, refl}
use Rattle.std.proofs.Common.{ap, sym, ◌∙◌, subst, arith, inl, inr, ⊎_elim}
use Rattle.std.proofs.lemmas.Bool.{eq-eqb}
use Rattle.std.specs.List.{cons_option}
use Rattle.cc_entry.specs.Place.{Page}
use Rattle.cc_entry.specs.declared.entry.Entry.{Entry}
use Rattle.cc_entry.specs.declared.entry.Entry.TheVariants as entry
use Rattle.cc_entry.specs.declared.error.CcError.{CcError}
use Rattle.cc_entry.specs.declared.error.CcError.TheVariants as error
use Rattle.cc_traits.specs.Log.{Log}
use Rattle.cc_journal.specs.Journal.{JournalState, MayBePushed}
use Rattle.cc_journal.proofs.GoodEntries.{MayBePushed-good}
use Rattle.cc_laws.proofs.QueueSteps.{is_defer_or_post}
use Rattle.cc_log.specs.Turn.{LogTurnState, Stands, entry_left_by, log_faults_by}
use Rattle.cc_model.specs.Good.{IsGood}
use Rattle.cc_model.specs.History.{history}
use Rattle.cc_model.specs.Images.{open_of}
use Rattle.cc_model.specs.Logs.{floor_of, flushed_to}
use Rattle.cc_model.specs.Room.{reserved_in}
use Rattle.cc_model.specs.Turns.{Turn, Device, Book, Log as log_turn, Journal, is_quiet}
use Rattle.cc_step.proofs.Placed.{so-far}
use Rattle.cc_turns.specs.Log.{LogStands, log_failures}
use Rattle.cc_turns.specs.Standing.{Standing, TurnsHeld, LogAtFirst, holds}
use Rattle.cc_turns.specs.Takes.{Grows, may_be_of, with_journal, with_log, Takes}
use Rattle.cc_turns.proofs.LogGrows.{log_grows}
use Rattle.cc_turns.proofs.Taking.{transfer_kept}
use Rattle.cc_writes.specs.Hands.{WentWith, IsAtRest}
use Rattle.cc_writes.specs.Visits.{HasPlaced}
use Rattle.cc_writes.specs.Logs.{MayLog, HasLogged, FlushToLsnLeft, ReservedLeft}
use Rattle.cc_writes.specs.declared.log.LogFlush.{LogFlush}
use Rattle.cc_writes.specs.declared.log.LogFlush.TheVariants as flush
use Rattle.cc_writes.proofs.OneVisit.{Visiting, Visited, visited, stepping-none, grows-then, placed-then}
use Rattle.cc_writes.proofs.Quiet.{is_held, floor_of-held, flushed_to-grows, flushed_to-held, next_lsn-held}
use Rattle.cc_writes.proofs.Placed.{good-appended, good-flushed, good-log_failed, quiet-log}
use Rattle.cc_turns.proofs.Rooms.{reserved-appended, reserved-flushed, reserved-log_failed}

-- the entry of a log whose turn is held may stand
pub may_log-good : (w : Standing) (e : Entry) (past : List Entry) → MayLog w e → Grows w past → IsGood w.setup past → IsGood w.setup (e ∷ past)
may_log-good w (entry.Append pass handle lsn bytes) past may grows good =
    good-appended w.setup past pass handle lsn bytes good (next_lsn-held w past handle lsn may.1 grows may.2)
may_log-good w (entry.Flushed pass handle to) past may grows good =
    good-flushed w.setup past pass handle to good (subst (λ (n : ℕ). n < to) (sym (flushed_to-held w past handle may.1 grows)) may.2)
may_log-good w (entry.LogFailed pass handle) past may grows good = good-log_failed w.setup past pass handle good
may_log-good w other past may grows good = absurd may

may_log-own : (w : Standing) (e : Entry) → MayLog w e → may_be_of w.number e ≡ true
may_log-own w (entry.Append pass handle lsn bytes) may = eq-eqb pass w.number may.0
may_log-own w (entry.Flushed pass handle to) may = eq-eqb pass w.number may.0
may_log-own w (entry.LogFailed pass handle) may = eq-eqb pass w.number may.0
may_log-own w other may = absurd may

may_log-quiet : (w : Standing) (e : Entry) → MayLog w e → (t : Turn) → holds (record w.held { journal = true }) t ≡ false → is_quiet t (e ∷ []) ≡ true
may_log-quiet w (entry.Append pass handle lsn bytes) may = quiet-log (record w.held { journal = true }) handle (entry.Append pass handle lsn bytes) (λ t. refl) may.1 refl
may_log-quiet w (entry.Flushed pass handle to) may = quiet-log (record w.held { journal = true }) handle (entry.Flushed pass handle to) (λ t. refl) may.1 refl
may_log-quiet w (entry.LogFailed pass handle) may = quiet-log (record w.held { journal = true }) handle (entry.LogFailed pass handle) (λ t. refl) may.1 refl
may_log-quiet w other may = absurd may

may_log-reserved : (w : Standing) (e : Entry) (past : List Entry) → MayLog w e → reserved_in (e ∷ past) ≡ reserved_in past
may_log-reserved w (entry.Append pass handle lsn bytes) past may = reserved-appended pass handle lsn bytes past
may_log-reserved w (entry.Flushed pass handle to) past may = reserved-flushed pass handle to past
may_log-reserved w (entry.LogFailed pass handle) past may = reserved-log_failed pass handle past
may_log-reserved w other past may = absurd may

pub may_log-pushed : {Q : Type 0} (posted : Q → Bool) (w v : Standing) (e : Entry) (j : JournalState Q) → MayLog w e → Visiting posted w v j → MayBePushed j.entries e
may_log-pushed posted w v e j may vis = MayBePushed-good w.setup j.entries e (so-far w.setup (e ∷ j.entries) (may_log-good w e j.entries may vis.grows vis.good))

pub may_log-kind : (w : Standing) (e : Entry) → MayLog w e → is_defer_or_post e ≡ false
may_log-kind w (entry.Append pass handle lsn bytes) may = refl
may_log-kind w (entry.Flushed pass handle to) may = refl
may_log-kind w (entry.LogFailed pass handle) may = refl
may_log-kind w other may = absurd may

-- it was placed, at the place that was reserved for it
pub logged : {Q : Type 0} (posted : Q → Bool) (w v : Standing) (e : Entry) (j k : JournalState Q) → w.held.journal ≡ false → w.in_flight ≡ 1 → MayLog w e → Visiting posted w v j → k ≡ record j { entries = e ∷ j.entries; reserved = j.reserved - 1; rows = k.rows } → Visited posted w v 0 k
logged {Q = Q} posted w v e j k away reserved may vis placed = visited posted w v 0 (e ∷ []) j k away vis (record {
  kept = placed ∙ ap (λ (n : ℕ). record j { entries = e ∷ j.entries; reserved = n; rows = k.rows }) (sym (ap (λ x. x.reserved) placed));
  good = subst (λ (past : List Entry). IsGood w.setup past) (sym (ap (λ x. x.entries) placed)) (may_log-good w e j.entries may vis.grows vis.good);
  event = tt;
  own = (may_log-own w e may, tt);
  held = may_log-quiet w e may;
  reserved = ap (λ x. x.reserved) placed
      ∙ (less j.reserved (reserved_in j.entries) w.in_flight v.others reserved vis.reserved_is
      ∙ ap (λ (n : ℕ). n + 0 + v.others) (sym (ap (λ x. reserved_in x.entries) placed ∙ may_log-reserved w e j.entries may)));
})
  where
    less : (n owed mine others : ℕ) → mine ≡ 1 → n ≡ owed + mine + others → n - 1 ≡ owed + 0 + others
    less n owed mine others one is = omega (arith, one, is)

-- a log whose turn is held goes on standing while others go on
pub log-grown : {L : Type 0} (told : L → Option Log) (faults : L → ℕ) (first : LogAtFirst) (w : Standing) (handle : ℕ) (log : LogTurnState L) (seen : List Entry) → w.held.log ≡ Some handle → log.handle ≡ handle → Grows w seen → LogStands told faults first w.seen log → LogStands told faults first seen log
log-grown told faults first w handle log seen held is grows stands =
    subst (λ (past : List Entry). LogStands told faults first past log) (sym grows.grew)
    (log_grows told faults first grows.later w.seen log (grows.quiet (log_turn log.handle) (is_held log.handle w.held.log (held ∙ ap (λ (n : ℕ). Some n) (sym is)))) stands)

-- what it stands for after a step of it, and an entry that tells the step
log-after : {L : Type 0} (told : L → Option Log) (faults : L → ℕ) (first : LogAtFirst) (log after : LogTurnState L) (front now : List Entry) (m : ℕ) → after.handle ≡ log.handle → faults after.file ≡ faults log.file + m → log_failures log.handle now ≡ log_failures log.handle front + m → Stands told first.told now after → LogStands told faults first front log → LogStands told faults first now after
log-after told faults first log after front now m same more failed stands before = record {
  stands = stands;
  counted = subst (λ (n : ℕ). faults after.file ≡ first.faults + log_failures n now) (sym same)
      (still first.faults (log_failures log.handle front) (log_failures log.handle now) (faults log.file) (faults after.file) m before.counted failed more);
}
  where
    still : (a b c d e m : ℕ) → d ≡ a + b → c ≡ b + m → e ≡ d + m → e ≡ a + c
    still a b c d e m was x y = omega (arith, was, x, y)

pub failures-flushed : (pass handle to log : ℕ) (past : List Entry) → log_failures log (entry.Flushed pass handle to ∷ past) ≡ log_failures log past + 0
unfolding log_failures
failures-flushed pass handle to log past = omega arith

failures-failed : (pass log : ℕ) (past : List Entry) → log_failures log (entry.LogFailed pass log ∷ past) ≡ log_failures log past + 1
unfolding log_failures
failures-failed pass log past = rw (eq-eqb log log refl) (more (log_failures log past))
  where
    more : (n : ℕ) → suc n ≡ n + 1
    more n = omega arith

-- What a step of a log gave, told by its own entry where it was done.
pub record Gave {L T : Type 0} (told : L → Option Log) (faults : L → ℕ) (done : ℕ → ℕ → T → Entry) (result : Result T CcError) (log after : LogTurnState L) : Type 0 where
  pub counted : faults after.file ≡ faults log.file + log_faults_by result
  pub handle : after.handle ≡ log.handle
  pub stands : (begun : Option Log) (past : List Entry) (pass : ℕ) → Stands told begun past log → Stands told begun (cons_option (entry_left_by (done pass log.handle) pass log.handle result) past) after

module _ {L : Type 0} (told : L → Option Log) (faults : L → ℕ) (w x : Standing) (n handle : ℕ) (log : LogTurnState L)
    (held : w.held.log ≡ Some handle) (is : log.handle ≡ handle) (stands : LogStands told faults (w.logs handle) w.seen log)
    (went : WentWith n w x) where
  logs : x.logs handle ≡ w.logs handle
  logs = ap (λ y. y.logs handle) went.same

  -- while others went on
  held-before : (seen : List Entry) → Grows w seen → LogStands told faults (w.logs handle) seen log
  held-before seen grows = log-grown told faults (w.logs handle) w handle log seen held is grows stands

  -- where nothing was placed
  pub held-kept : Grows w x.seen → LogStands told faults (x.logs handle) x.seen log
  held-kept grows = subst (λ (first : LogAtFirst). LogStands told faults first x.seen log) (sym logs) (held-before x.seen grows)

  pub held-reached : (to : ℕ) → Grows w x.seen → to ≤ log.flushed → to ≤ flushed_to x.seen handle
  held-reached to grows within = still to log.flushed (flushed_to w.seen handle) (flushed_to x.seen handle) within
      (stands.stands.flushed_is ∙ ap (λ m. flushed_to w.seen m) is) (flushed_to-grows w x.seen handle grows)
    where
      still : (a b c d : ℕ) → a ≤ b → b ≡ c → c ≤ d → a ≤ d
      still a b c d first same second = omega (arith, first, same, second)

  -- the log was not flushed so far, at the front of what was placed
  pub held-due : (to : ℕ) (seen : List Entry) → Grows w seen → log.flushed < to → flushed_to seen handle < to
  held-due to seen grows less = subst (λ (m : ℕ). m < to)
      (stands.stands.flushed_is ∙ (ap (λ m. flushed_to w.seen m) is ∙ sym (flushed_to-held w seen handle held grows))) less

  -- its floor there is the one that it has
  pub held-floor : (seen : List Entry) → Grows w seen → floor_of seen handle ≡ log.floor
  held-floor seen grows = floor_of-held w seen handle held grows ∙ sym (stands.stands.floor_is ∙ ap (λ m. floor_of w.seen m) is)

  -- A step of the log was told by the entry that was placed, or by none: it stands for what was seen since.
  module _ {T : Type 0} (done : ℕ → ℕ → T → Entry) (result : Result T CcError) (after : LogTurnState L) (gave : Gave told faults done result log after) where
    told-by : (e : Entry) → entry_left_by (done w.number handle) w.number handle result ≡ Some e → ((past : List Entry) → log_failures log.handle (e ∷ past) ≡ log_failures log.handle past + log_faults_by result) → HasPlaced w e x.seen → LogStands told faults (x.logs handle) x.seen after
    told-by e left failed placed =
        let step : Stands told (w.logs handle).told (e ∷ placed.front) after =
        rw (is, left) at (gave.stands (w.logs handle).told placed.front w.number (held-before placed.front placed.grows).stands) in
        subst (λ (first : LogAtFirst). LogStands told faults first x.seen after) (sym logs)
        (subst (λ (past : List Entry). LogStands told faults (w.logs handle) past after) (sym placed.placed)
        (log-after told faults (w.logs handle) log after placed.front (e ∷ placed.front) (log_faults_by result) gave.handle gave.counted
        (failed placed.front) step (held-before placed.front placed.grows)))

    pub held-done : (value : T) → result ≡ Ok value → ((past : List Entry) → log_failures log.handle (done w.number handle value ∷ past) ≡ log_failures log.handle past + 0) → HasPlaced w (done w.number handle value) x.seen → LogStands told faults (x.logs handle) x.seen after
    held-done value ok none placed = told-by (done w.number handle value) (rw ok refl) (rw ok none) placed

    pub held-failed : (failed : ℕ) → result ≡ Err (error.LogFault failed) → HasPlaced w (entry.LogFailed w.number handle) x.seen → LogStands told faults (x.logs handle) x.seen after
    held-failed failed err placed = told-by (entry.LogFailed w.number handle) (rw err refl) (rw (err, is) (failures-failed w.number handle)) placed

    pub held-refused : (e : CcError) → result ≡ Err e → ((failed : ℕ) → e ≡ error.LogFault failed → ⊥) → Grows w x.seen → LogStands told faults (x.logs handle) x.seen after
    held-refused e err other grows =
        subst (λ (first : LogAtFirst). LogStands told faults first x.seen after) (sym logs)
        (log-after told faults (w.logs handle) log after x.seen x.seen 0 gave.handle (rw (err, unraised e other) at gave.counted)
        (none (log_failures log.handle x.seen)) (rw (err, untold e other) at (gave.stands (w.logs handle).told x.seen w.number (held-before x.seen grows).stands)) (held-before x.seen grows))
      where
        none : (a : ℕ) → a ≡ a + 0
        none a = omega arith

        unraised : (e : CcError) → ((failed : ℕ) → e ≡ error.LogFault failed → ⊥) → log_faults_by {T = T} (Err e) ≡ 0
        unraised (error.LogFault failed) other = absurd (other failed refl)
        unraised e other = refl

        untold : (e : CcError) → ((failed : ℕ) → e ≡ error.LogFault failed → ⊥) → entry_left_by {T = T} (done w.number log.handle) w.number log.handle (Err e) ≡ None
        untold (error.LogFault failed) other = absurd (other failed refl)
        untold e other = refl

-- a turn of a log that is taken beside those that are held
pub holds-log : (w x : Standing) (handle : ℕ) → Takes (with_log handle) w x → w.held.log ≡ None → (t : Turn) → holds w.held t ≡ true → holds x.held t ≡ true
holds-log w x handle takes none t held = subst (λ (h : TurnsHeld). holds h t ≡ true) (sym (ap (λ y. y.held) takes.same)) (still t held)
  where
    still : (t : Turn) → holds w.held t ≡ true → holds (record w.held { log = Some handle }) t ≡ true
    still (Device n) held = held
    still (Book n) held = held
    still (log_turn n) held = absurd (clash (rw none at held))
      where
        clash : false ≡ true → ⊥
        clash e = absurd (cc)
    still Journal held = held

-- what the flush of a log leaves, from where the pass stood before it took its turn
pub left-turn : (w x : Standing) (handle to : ℕ) (result : Result LogFlush CcError) (seen : List Entry) → x.number ≡ w.number → ((t : Turn) → holds w.held t ≡ true → holds x.held t ≡ true) → Grows w x.seen → FlushToLsnLeft x handle to result seen → FlushToLsnLeft w handle to result seen
left-turn w x handle to (Ok flush.Reached) seen same keeps first left =
    ⊎_elim
    (λ found. inl (grows-then w x seen same keeps first found.0, found.1))
    (λ flushed. inr (subst (λ (n : ℕ). HasLogged w handle to (entry.Flushed n handle to) seen) same (record { placed = placed-then w x (entry.Flushed x.number handle to) seen same keeps first flushed.placed; due = flushed.due })))
    left
left-turn w x handle to (Ok (flush.Failed failed)) seen same keeps first left =
    (left.0, subst (λ (n : ℕ). HasLogged w handle to (entry.LogFailed n handle) seen) same (record { placed = placed-then w x (entry.LogFailed x.number handle) seen same keeps first left.1.placed; due = left.1.due }))
left-turn w x handle to (Err e) seen same keeps first left = (grows-then w x seen same keeps first left.0, left.1)

-- The newest LSN was looked for: nothing was placed, and a place is reserved where it was found.
abbrev pub flight_after : Result (Option ℕ) CcError → ℕ → ℕ
flight_after (Ok (Some to)) n = suc n
flight_after (Ok None) n = n
flight_after (Err e) n = n

-- at most the one that is reserved
pub few-after : (result : Result (Option ℕ) CcError) (n : ℕ) → n ≡ 0 → flight_after result n ≤ 1
few-after (Ok (Some to)) n none = omega (arith, none)
few-after other n none = omega (arith, none)

pub newest-visited : {Q : Type 0} (posted : Q → Bool) (w v : Standing) (page : Page) (result : Result (Option ℕ) CcError) (j k : JournalState Q) → w.held.journal ≡ false → Visiting posted w v j → ReservedLeft page result j k → Visited posted w v (flight_after result w.in_flight) k
newest-visited posted w v page (Ok (Some to)) j k away vis left =
    visited posted w v (suc w.in_flight) [] j k away vis (stepping-none posted w v (suc w.in_flight) (j.reserved + 1) j k vis left.1 (more j.reserved (reserved_in j.entries) w.in_flight v.others vis.reserved_is))
  where
    more : (n owed mine others : ℕ) → n ≡ owed + mine + others → n + 1 ≡ owed + suc mine + others
    more n owed mine others is = omega (arith, is)
newest-visited posted w v page (Ok None) j k away vis left =
    visited posted w v w.in_flight [] j k away vis (stepping-none posted w v w.in_flight j.reserved j k vis left.1 vis.reserved_is)
newest-visited posted w v page (Err e) j k away vis left =
    visited posted w v w.in_flight [] j k away vis (stepping-none posted w v w.in_flight j.reserved j k vis left.1 vis.reserved_is)

pub rest-there : (w v : Standing) (s : ℕ) → Takes with_journal w v → IsAtRest w s → open_of (history v.seen s) ≡ None
rest-there w v s took rest = transfer_kept with_journal w v s took rest.device ∙ rest.no_transfer

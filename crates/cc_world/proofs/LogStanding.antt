-- A log and a journal that stand go on standing with an entry.
use Rattle.std.specs.Prelude.{◌≡◌, ◌⊎◌, ◌↔◌, ℕ, suc, ◌+◌, ◌^◌, ◌<◌, ◌≤◌, Bool, true, false, nat_le, List, [], ◌∷◌, length, Option, Some, None, Result, Err, IsErrOf, refl, if◌then◌else◌}
use Rattle.std.specs.List.{cons_option}
use Rattle.std.proofs.Common.{ap, sym, ◌∙◌, subst, arith, inl, inr}
use Rattle.std.proofs.lemmas.Bool.{eq-eqb, le-leb, lt-leb}
use Rattle.cc_entry.specs.declared.entry.Entry.{Entry}
use Rattle.cc_entry.specs.declared.entry.Entry.TheVariants as entry
use Rattle.cc_entry.specs.declared.error.CcError.{CcError}
use Rattle.cc_entry.specs.declared.error.CcError.TheVariants as error
use Rattle.cc_entry.specs.declared.reply.Reply.TheVariants as reply
use Rattle.cc_traits.specs.Log.{Log}
use Rattle.cc_journal.specs.Journal.{JournalState, MayBePushed, room_of}
use Rattle.cc_journal.proofs.GoodEntries.{MayBePushed-good}
use Rattle.cc_log.specs.Turn.{LogTurnState, Stands}
use Rattle.cc_model.specs.Allowed.{MayStand}
use Rattle.cc_model.specs.Covered.{IsNextLsn}
use Rattle.cc_model.specs.Good.{IsGood}
use Rattle.cc_model.specs.Logs.{floor_of, flushed_to}
use Rattle.cc_model.specs.Room.{reserved_in}
use Rattle.cc_model.specs.Setup.{Setup}
use Rattle.cc_turns.specs.Log.{LogStands, log_failures}
use Rattle.cc_turns.specs.Standing.{LogAtFirst}
use Rattle.cc_world.specs.Logs.{LogEnded, LogFaulted, LogEventLeft, LogStandsUnder, LogWent}
use Rattle.cc_effects.specs.Events.{IsWanting, asked_by_event, faulted_by}
use Rattle.cc_effects.specs.declared.events.Event.{Event}
use Rattle.cc_effects.specs.declared.events.Event.TheVariants as event
use Rattle.cc_effects.specs.declared.events.StepReply.{StepReply}
use Rattle.cc_effects.specs.declared.events.StepReply.TheVariants as step
use Rattle.cc_world.proofs.Owing.{owes_nothing, reserved-same}
use Rattle.cc_world.proofs.Placing.{is_call, good-placed, so-far}

-- the failures of a log with an entry of it
pub failures-flushed : (pass handle to log : ℕ) (past : List Entry) → log_failures log (entry.Flushed pass handle to ∷ past) ≡ log_failures log past + 0
unfolding log_failures
failures-flushed pass handle to log past = omega arith

pub failures-failed : (pass handle log : ℕ) (past : List Entry) → handle ≡ log → log_failures log (entry.LogFailed pass handle ∷ past) ≡ log_failures log past + 1
unfolding log_failures
failures-failed pass handle log past same = rw (eq-eqb handle log same) (more (log_failures log past))
  where
    more : (n : ℕ) → suc n ≡ n + 1
    more n = omega arith

module _ {L Q : Type 0} (told : L → Option Log) (faults : L → ℕ) (u : Setup) (first : LogAtFirst) (more : ℕ) (log : LogTurnState L) (j : JournalState Q) (stand : LogStandsUnder told faults u first more log j) where
  pub log-may-push : (e : Entry) → is_call e ≡ false → MayStand u j.entries e → MayBePushed j.entries e
  log-may-push e plain may = MayBePushed-good u j.entries e (so-far u (e ∷ j.entries) (good-placed u j.entries e plain stand.good may))

  -- The log after one entry, by which its failures rose as the count of its file.
  pub log-went-one : (n : ℕ) (e : Entry) (now : LogTurnState L) (k : JournalState Q) → is_call e ≡ false → owes_nothing e ≡ true → MayStand u j.entries e → k ≡ record j { entries = e ∷ j.entries; reserved = k.reserved; rows = k.rows } → k.reserved ≡ reserved_in j.entries → now.handle ≡ log.handle → Stands told first.told (e ∷ j.entries) now → log_failures log.handle (e ∷ j.entries) ≡ log_failures log.handle j.entries + n → faults now.file ≡ faults log.file + n → LogWent told faults u first n (e ∷ []) log now j k
  log-went-one n e now k plain owes may placed reserved same stands failed counted =
      let grown : k.entries ≡ e ∷ j.entries = ap (λ x. x.entries) placed in
      record {
        stands = record {
          good = subst (λ (past : List Entry). IsGood u past) (sym grown) (good-placed u j.entries e plain stand.good may);
          known = subst (λ (h : ℕ). h < u.logs) (sym same) stand.known;
          log_is = subst (λ (past : List Entry). LogStands told faults first past now) (sym grown) (record {
            stands = stands;
            counted = still _ _ _ _ _ _ (ap (λ (h : ℕ). log_failures h (e ∷ j.entries)) same) failed counted stand.log_is.counted;
          });
          reserved = nothing-more _ _ (reserved ∙ (sym (reserved-same e j.entries owes) ∙ ap reserved_in (sym grown)));
        };
        placed = placed;
        handle = same;
        counted = counted;
      }
    where
      nothing-more : (a b : ℕ) → a ≡ b → a ≡ b + 0
      nothing-more a b same = omega arith

      still : (x a b c d f : ℕ) → x ≡ a → a ≡ b + n → c ≡ d + n → d ≡ f + b → c ≡ f + x
      still x a b c d f same more now was = omega arith

  -- The log where nothing was placed.
  pub log-went-none : (now : LogTurnState L) (k : JournalState Q) → k ≡ record j { reserved = k.reserved } → k.reserved ≡ reserved_in j.entries → now.handle ≡ log.handle → Stands told first.told j.entries now → faults now.file ≡ faults log.file + 0 → LogWent told faults u first 0 [] log now j k
  log-went-none now k placed reserved same stands counted =
      let grown : k.entries ≡ j.entries = ap (λ x. x.entries) placed in
      record {
        stands = record {
          good = subst (λ (past : List Entry). IsGood u past) (sym grown) stand.good;
          known = subst (λ (h : ℕ). h < u.logs) (sym same) stand.known;
          log_is = subst (λ (past : List Entry). LogStands told faults first past now) (sym grown) (record {
            stands = stands;
            counted = still _ _ _ _ _ (ap (λ (h : ℕ). log_failures h j.entries) same) counted stand.log_is.counted;
          });
          reserved = nothing-more _ _ (reserved ∙ ap reserved_in (sym grown));
        };
        placed = placed ∙ ap (λ (rows : _). record j { reserved = k.reserved; rows = rows }) (sym (ap (λ x. x.rows) placed));
        handle = same;
        counted = counted;
      }
    where
      nothing-more : (a b : ℕ) → a ≡ b → a ≡ b + 0
      nothing-more a b same = omega arith

      still : (x a c d f : ℕ) → x ≡ a → c ≡ d + 0 → d ≡ f + a → c ≡ f + x
      still x a c d f same now was = omega arith

-- with a place reserved
pub log-reserved : {L Q : Type 0} (more : ℕ) (told : L → Option Log) (faults : L → ℕ) (u : Setup) (first : LogAtFirst) (log : LogTurnState L) (j r : JournalState Q) → r ≡ record j { reserved = j.reserved + more } → LogStandsUnder told faults u first 0 log j → LogStandsUnder told faults u first more log r
log-reserved more told faults u first log j r same stand = rw same (record {
  good = stand.good;
  log_is = stand.log_is;
  known = stand.known;
  reserved = beyond j.reserved (reserved_in j.entries) stand.reserved;
})
  where
    beyond : (n owed : ℕ) → n ≡ owed + 0 → n + more ≡ owed + more
    beyond n owed is = omega arith

log-from : {L Q : Type 0} (m : ℕ) (told : L → Option Log) (faults : L → ℕ) (u : Setup) (first : LogAtFirst) (n : ℕ) (added : List Entry) (old new : LogTurnState L) (j k : JournalState Q) → LogWent told faults u first n added old new (record j { reserved = m }) k → LogWent told faults u first n added old new j k
log-from m told faults u first n added old new j k went = record {
  stands = went.stands;
  placed = went.placed;
  handle = went.handle;
  counted = went.counted;
}

log-faulted-from : {L Q : Type 0} (m : ℕ) (told : L → Option Log) (faults : L → ℕ) (u : Setup) (first : LogAtFirst) (o : Option Entry) (old new : LogTurnState L) (j k : JournalState Q) → LogFaulted told faults u first o old new (record j { reserved = m }) k → LogFaulted told faults u first o old new j k
log-faulted-from m told faults u first None old new j k went = went
log-faulted-from m told faults u first (Some e) old new j k went = log-from m told faults u first 1 (e ∷ []) old new j k went

log-left-by : {L Q : Type 0} (n : ℕ) (told : L → Option Log) (faults : L → ℕ) (u : Setup) (first : LogAtFirst) (it : Event Q) (answer : StepReply Q) (old new : LogTurnState L) (j k : JournalState Q) → asked_by_event u j.entries it ≤ room_of j → LogEnded told faults u first it answer old new (record j { reserved = n }) k → LogEventLeft told faults u first it answer old new j k
log-left-by n told faults u first it step.NotNow old new j k room ended = absurd ended
log-left-by n told faults u first it (step.Refused (error.JournalFull entries)) old new j k room ended = absurd ended
log-left-by n told faults u first it step.Faulted old new j k room ended =
    (room, (ended.0, log-faulted-from n told faults u first (faulted_by j.entries it) old new j k ended.1))
log-left-by n told faults u first it (step.Refused error.NoMemory) old new j k room ended =
    (ended.0, ended.1, log-from n told faults u first 0 ended.0 old new j k ended.2)
log-left-by n told faults u first it other old new j k room ended =
    (room, (ended.0, ended.1, log-from n told faults u first 0 ended.0 old new j k ended.2))

-- What an event ends with that had places reserved before is what it leaves.
pub log-left : {L Q : Type 0} (more : ℕ) (told : L → Option Log) (faults : L → ℕ) (u : Setup) (first : LogAtFirst) (it : Event Q) (answer : StepReply Q) (old new : LogTurnState L) (j r k : JournalState Q) → asked_by_event u j.entries it ≤ room_of j → r ≡ record j { reserved = j.reserved + more } → LogEnded told faults u first it answer old new r k → LogEventLeft told faults u first it answer old new j k
log-left {L} {Q} more told faults u first it answer old new j r k room same ended =
    log-left-by (j.reserved + more) told faults u first it answer old new j k room
    (subst (λ (x : JournalState Q). LogEnded told faults u first it answer old new x k) same ended)

-- the log and the journal as they were
pub log-kept : {L Q : Type 0} (told : L → Option Log) (faults : L → ℕ) (u : Setup) (first : LogAtFirst) (log : LogTurnState L) (j k : JournalState Q) → LogStandsUnder told faults u first 0 log j → k ≡ j → LogWent told faults u first 0 [] log log j k
log-kept told faults u first log j k stand same =
    log-went-none told faults u first 0 log j stand log k
    (same ∙ ap (λ (n : ℕ). record j { reserved = n }) (sym (ap (λ x. x.reserved) same)))
    (ap (λ x. x.reserved) same ∙ (stand.reserved ∙ nothing-more (reserved_in j.entries))) refl stand.log_is.stands (no-more (faults log.file))
  where
    nothing-more : (a : ℕ) → a + 0 ≡ a
    nothing-more a = omega arith

    no-more : (a : ℕ) → a ≡ a + 0
    no-more a = omega arith

-- No place was reserved: for want of room, or of memory, where the event then places nothing.
pub log-unreserved : {L Q : Type 0} (told : L → Option Log) (faults : L → ℕ) (u : Setup) (first : LogAtFirst) (it : Event Q) (log : LogTurnState L) (j k : JournalState Q) (e : CcError) → LogStandsUnder told faults u first 0 log j → asked_by_event u j.entries it ≡ 1 → IsWanting j.entries it [] → (IsErrOf {T = Unit {0}} {E = CcError} (Err e) (error.JournalFull (length j.entries)) ↔ (room_of j < 1)) → (e ≡ error.JournalFull (length j.entries)) ⊎ (e ≡ error.NoMemory) → k ≡ j → LogEventLeft told faults u first it (step.Refused e) log log j k
log-unreserved {L} {Q} told faults u first it log j k e stand one wanting full (inl err) same =
    subst (λ (x : CcError). LogEventLeft told faults u first it (step.Refused x) log log j k) (sym err)
    (subst (λ (n : ℕ). room_of j < n) (sym one) (full.0 (as-err e (error.JournalFull (length j.entries)) err)), refl, refl, same)
  where
    as-err : (x y : CcError) → x ≡ y → IsErrOf {T = Unit {0}} {E = CcError} (Err x) y
    as-err x y is =
        let f : CcError → Result (Unit {0}) CcError = λ z. Err z in
        ap f is
log-unreserved told faults u first it log j k e stand one wanting full (inr err) same =
    subst (λ (x : CcError). LogEventLeft told faults u first it (step.Refused x) log log j k) (sym err)
    ([], wanting, log-kept told faults u first log j k stand same)

-- what a step of a log is told by
pub told-by : {L : Type 0} (told : L → Option Log) (begun : Option Log) (past : List Entry) (after : LogTurnState L) (o p : Option Entry) → o ≡ p → Stands told begun (cons_option o past) after → Stands told begun (cons_option p past) after
told-by told begun past after o p is stands = subst (λ (x : Option Entry). Stands told begun (cons_option x past) after) is stands

-- what a flush asks, by whether the log was flushed so far
flush-asks : (Q : Type 0) (u : Setup) (past : List Entry) (pass handle to : ℕ) (b : Bool) → nat_le to (flushed_to past handle) ≡ b → asked_by_event {Q = Q} u past (event.LogFlush pass handle to) ≡ (if b then 0 else 1)
flush-asks Q u past pass handle to b is = rw is refl

pub flush-asks-one : (Q : Type 0) (u : Setup) (past : List Entry) (pass handle to : ℕ) → flushed_to past handle < to → asked_by_event {Q = Q} u past (event.LogFlush pass handle to) ≡ 1
flush-asks-one Q u past pass handle to less = flush-asks Q u past pass handle to false (lt-leb to (flushed_to past handle) less)

-- nothing is done where the log was flushed so far
pub flush-nothing : {L Q : Type 0} (told : L → Option Log) (faults : L → ℕ) (u : Setup) (first : LogAtFirst) (log : LogTurnState L) (j : JournalState Q) (pass handle to : ℕ) → LogStandsUnder told faults u first 0 log j → log.handle ≡ handle → to ≤ log.flushed → LogEventLeft told faults u first (event.LogFlush pass handle to) (step.Done reply.Unit) log log j j
flush-nothing {L} {Q} told faults u first log j pass handle to stand same least =
    let far : nat_le to (flushed_to j.entries handle) ≡ true =
    le-leb to (flushed_to j.entries handle) (subst (λ (n : ℕ). to ≤ n) (stand.log_is.stands.flushed_is ∙ ap (λ (h : ℕ). flushed_to j.entries h) same) least) in (
      subst (λ (n : ℕ). n ≤ room_of j) (sym (flush-asks Q u j.entries pass handle to true far)) (omega arith),
      (
        [],
        (subst (λ (h : ℕ). h < u.logs) same stand.known, rw far refl),
        log-kept told faults u first log j j stand refl,
      ),
    )

-- what a flush places that was not flushed so far, and what tells its fault
pub flush-places : (past : List Entry) (pass handle to : ℕ) → flushed_to past handle < to → entry.Flushed pass handle to ∷ [] ≡ (if nat_le to (flushed_to past handle) then [] else entry.Flushed pass handle to ∷ [])
flush-places past pass handle to less = rw (lt-leb to (flushed_to past handle) less) refl

pub flush-fails : {L Q : Type 0} (told : L → Option Log) (faults : L → ℕ) (u : Setup) (first : LogAtFirst) (pass handle to : ℕ) (old new : LogTurnState L) (j k : JournalState Q) → flushed_to j.entries handle < to → LogWent told faults u first 1 (entry.LogFailed pass handle ∷ []) old new j k → LogFaulted told faults u first (faulted_by {Q = Q} j.entries (event.LogFlush pass handle to)) old new j k
flush-fails told faults u first pass handle to old new j k less went = rw (lt-leb to (flushed_to j.entries handle) less) went

pub not-flushed : {L Q : Type 0} (told : L → Option Log) (faults : L → ℕ) (u : Setup) (first : LogAtFirst) (log : LogTurnState L) (j : JournalState Q) (handle to : ℕ) → LogStandsUnder told faults u first 0 log j → log.handle ≡ handle → log.flushed < to → flushed_to j.entries handle < to
not-flushed told faults u first log j handle to stand same less =
    subst (λ (n : ℕ). n < to) (stand.log_is.stands.flushed_is ∙ ap (λ (h : ℕ). flushed_to j.entries h) same) less

-- the floor of a log is that of its handle
pub floor-of : {L Q : Type 0} (told : L → Option Log) (faults : L → ℕ) (u : Setup) (first : LogAtFirst) (more : ℕ) (log : LogTurnState L) (j : JournalState Q) (handle : ℕ) → LogStandsUnder told faults u first more log j → log.handle ≡ handle → log.floor ≡ floor_of j.entries handle
floor-of told faults u first more log j handle stand same = stand.log_is.stands.floor_is ∙ ap (λ (h : ℕ). floor_of j.entries h) same

pub failures-appended : (pass handle lsn : ℕ) (bytes : List ℕ) (log : ℕ) (past : List Entry) → log_failures log (entry.Append pass handle lsn bytes ∷ past) ≡ log_failures log past + 0
unfolding log_failures
failures-appended pass handle lsn bytes log past = omega arith

-- the LSN after the floor, where one is left
pub next-lsn : {L Q : Type 0} (told : L → Option Log) (faults : L → ℕ) (u : Setup) (first : LogAtFirst) (more : ℕ) (log : LogTurnState L) (j : JournalState Q) (handle lsn : ℕ) → LogStandsUnder told faults u first more log j → log.handle ≡ handle → lsn ≡ log.floor + 1 → lsn ≤ 2 ^ 62 → IsNextLsn j.entries handle lsn
next-lsn told faults u first more log j handle lsn stand same next within = record {
  next = after _ _ _ next (stand.log_is.stands.floor_is ∙ ap (λ (h : ℕ). floor_of j.entries h) same);
  in_range = within;
}
  where
    after : (a b c : ℕ) → a ≡ b + 1 → b ≡ c → a ≡ suc c
    after a b c one is = omega arith

-- What scans, deferrals, posts, and calls that are filed under no stream leave of the journal.
use Rattle.std.specs.Prelude.{◌≡◌, ℕ, suc, ◌+◌, ◌-◌, ◌≤◌, Bool, true, List, [], ◌∷◌, ◌++◌, slice_get, refl, if◌then◌else◌}
use Rattle.std.specs.Int.{div_ceil}
use Rattle.std.specs.Option.{option_map}
use Rattle.std.specs.declared.option.Option.{Option}
use Rattle.std.specs.declared.option.Option.TheVariants.{Some, None}
use Rattle.std.proofs.Common.{ap, sym, ◌∙◌, subst, arith}
use Rattle.cc_entry.specs.Place.{File}
use Rattle.cc_entry.specs.declared.call.Call.{Call}
use Rattle.cc_entry.specs.declared.call.Call.TheVariants as call
use Rattle.cc_entry.specs.declared.query.Query.TheVariants as query
use Rattle.cc_entry.specs.declared.entry.Entry.{Entry}
use Rattle.cc_entry.specs.declared.entry.Entry.TheVariants as entry
use Rattle.cc_entry.specs.declared.error.CcError.TheVariants as error
use Rattle.cc_entry.specs.declared.hold.Deferral.{Deferral}
use Rattle.cc_entry.specs.declared.reply.Outcome.{Outcome}
use Rattle.cc_entry.specs.declared.reply.Outcome.TheVariants as outcome
use Rattle.cc_entry.specs.declared.reply.Reply.{Reply}
use Rattle.cc_journal.specs.Calls.{owed_end}
use Rattle.cc_journal.specs.Journal.{JournalState, head_may_go, room_of}
use Rattle.cc_journal.specs.Queue.{AllUnposted}
use Rattle.cc_model.specs.Conditions.{MayPost}
use Rattle.cc_model.specs.Faults.{Fault, ReadFailed, WriteFailed, SyncFailed, LogFailed, faults_since, oldest}
use Rattle.cc_model.specs.Good.{IsGood}
use Rattle.cc_model.specs.Passes.{calls_of}
use Rattle.cc_model.specs.Refusals.{refusal}
use Rattle.cc_model.specs.Setup.{Setup}
use Rattle.cc_model.specs.Throttle.{pages_for}
use Rattle.cc_world.specs.Filing.{is_unfiled}
use Rattle.cc_world.specs.Journals.{JournalEnded, JournalStandsUnder, JournalWent}
use Rattle.cc_world.specs.Reserving.{unreserved}
use Rattle.cc_effects.specs.Events.{MayDo, asked_for, call_entry, entries_done, error_of, goes_first, reason_of}
use Rattle.cc_effects.specs.declared.events.Event.TheVariants as event
use Rattle.cc_effects.specs.declared.events.StepReply.TheVariants as step
use Rattle.cc_world.proofs.JournalStanding.{placed-from, went-one}
use Rattle.cc_world.proofs.Unfiled.{asked-fail, asked-table, fault-is, fault-stands, may-ask-table, reserved-unfiled, unfiled-under}

-- the head of the queue may be posted as the journal tells it
pub goes-first : (u : Setup) (past : List Entry) (queue : List Deferral) → goes_first u past queue ≡ head_may_go u past queue
goes-first u past [] = refl
goes-first u past (head ∷ rest) = refl

pub may-post : (u : Setup) (past : List Entry) (id : ℕ) (queue : List Deferral) → head_may_go u past queue ≡ true → option_map (λ d. d.id) (slice_get queue 0) ≡ Some id → MayPost u past id queue
may-post u past id [] goes is = absurd (cc)
may-post u past id (head ∷ rest) goes is = (same id head.id is, goes)
  where
    same : (a b : ℕ) → Some b ≡ Some a → a ≡ b
    same a b e = cc

-- the pages of a write, as they are counted
pub whole-pages : (bytes : ℕ) → div_ceil bytes 4096 ≡ pages_for bytes
whole-pages bytes = omega arith

-- the queue with a deferral, told by what it was before a place was reserved
pub defer-queued : {Q : Type 0} (old new : List (Deferral × Q)) (routine : Q) (before : List (Deferral × Q)) (id : ℕ) (file : File) (pages counted : ℕ) (retrying : Bool) → old ≡ before → pages ≡ counted → new ≡ (if retrying then (record { id = id; file = file; pages = pages }, routine) ∷ old else old ++ (record { id = id; file = file; pages = pages }, routine) ∷ []) → new ≡ (if retrying then (record { id = id; file = file; pages = counted }, routine) ∷ before else before ++ (record { id = id; file = file; pages = counted }, routine) ∷ [])
defer-queued old new routine before id file pages counted retrying same is waits = rw (← same, ← is) waits

-- The entry of a call that is filed under no stream was placed, and what was reserved for the end of a noncached write
-- given back.
pub went-unfiled : {Q : Type 0} (posted : Q → Bool) (u : Setup) (pass nth owed : ℕ) (it : Call) (ended : Outcome) (i pushed k : JournalState Q) → is_unfiled it ≡ true → nth ≡ suc (calls_of i.entries pass) → owed ≡ owed_end i.entries pass → pushed ≡ record i { entries = entry.Call pass nth None it ended ∷ i.entries; reserved = i.reserved - 1; rows = pushed.rows } → k ≡ record pushed { reserved = pushed.reserved - owed } → JournalStandsUnder posted u (unreserved i) → IsGood u (call_entry i.entries pass it ended ∷ i.entries) → JournalWent posted u (call_entry i.entries pass it ended ∷ []) (unreserved i) k
went-unfiled {Q} posted u pass nth owed it ended i pushed k unfiled next owes placed given stand good =
    let flat : k ≡ record i { entries = entry.Call pass nth None it ended ∷ i.entries; reserved = (i.reserved - 1) - owed; rows = pushed.rows } =
    given ∙ ap (λ (x : JournalState Q). record x { reserved = x.reserved - owed }) placed in
    let named : k ≡ record i { entries = call_entry i.entries pass it ended ∷ i.entries; reserved = (i.reserved - 1) - owed; rows = pushed.rows } =
    subst (λ (s : Option ℕ). k ≡ record i { entries = entry.Call pass (suc (calls_of i.entries pass)) s it ended ∷ i.entries; reserved = (i.reserved - 1) - owed; rows = pushed.rows }) (sym (unfiled-under i.entries it unfiled))
    (subst (λ (n : ℕ). k ≡ record i { entries = entry.Call pass n None it ended ∷ i.entries; reserved = (i.reserved - 1) - owed; rows = pushed.rows }) next flat) in
    went-one posted u (unreserved i) stand (call_entry i.entries pass it ended) k good
    (placed-from (call_entry i.entries pass it ended) i.reserved ((i.reserved - 1) - owed) pushed.rows i.queue (unreserved i) i k refl named)
    (count _ _ _ _ _ _ (ap (λ x. x.reserved) named) owes stand.reserved (reserved-unfiled i.entries pass it ended unfiled))
    (subst (λ (q : List (Deferral × Q)). AllUnposted posted q) (sym (ap (λ x. x.queue) named)) stand.unposted)
  where
    count : (k less owed end before after : ℕ) → k ≡ less - owed → owed ≡ end → less ≡ before → after + end ≡ before → k ≡ after
    count k less owed end before after is same was sums = omega (arith, is, same, was, sums)

-- What a call leaves that is filed under no stream and was done, or refused because there is no such log.
pub done-left : {Q : Type 0} (posted : Q → Bool) (u : Setup) (pass : ℕ) (it : Call) (placed told : Reply) (j k : JournalState Q) → is_unfiled it ≡ true → MayDo u j.entries pass it → reason_of u j.entries it ≡ None → placed ≡ told → asked_for j.entries pass it (reason_of u j.entries it) ≡ 1 → 1 ≤ room_of j → JournalWent posted u (call_entry j.entries pass it (outcome.Done placed) ∷ []) j k → JournalEnded posted u (event.Do pass it) (step.Done told) j k
done-left posted u pass it placed told j k unfiled may none same one room went = (
  may,
  subst (λ (n : ℕ). n ≤ room_of j) (sym one) room,
  (call_entry j.entries pass it (outcome.Done placed) ∷ [], (none, plain it unfiled), went),
)
  where
    plain : (c : Call) → is_unfiled c ≡ true → call_entry j.entries pass c (outcome.Done placed) ∷ [] ≡ entries_done j.entries pass c told
    plain (call.NcStore file page bytes) is = absurd (cc)
    plain other is = ap (λ (r : Reply). call_entry j.entries pass other (outcome.Done r) ∷ []) same

pub no-log-left : {Q : Type 0} (posted : Q → Bool) (u : Setup) (pass handle missing : ℕ) (j k : JournalState Q) → reason_of u j.entries (call.Query (query.DirtyPages handle)) ≡ Some (error.NoLog missing) → 1 ≤ room_of j → JournalWent posted u (call_entry j.entries pass (call.Query (query.DirtyPages handle)) (outcome.Failed (error.NoLog missing)) ∷ []) j k → JournalEnded posted u (event.Do pass (call.Query (query.DirtyPages handle))) (step.Refused (error.NoLog missing)) j k
no-log-left posted u pass handle missing j k refused room went = (
  may-ask-table u j.entries pass handle,
  subst (λ (n : ℕ). n ≤ room_of j) (sym (asked-table j.entries pass handle _)) room,
  (call_entry j.entries pass (call.Query (query.DirtyPages handle)) (outcome.Failed (error.NoLog missing)) ∷ [], (refused, refl), went),
)

-- What a call leaves that told the oldest fault.
pub told-left : {Q : Type 0} (posted : Q → Bool) (u : Setup) (pass : ℕ) (it : Call) (fault : Fault) (j k : JournalState Q) → is_unfiled it ≡ true → refusal u j.entries [] it ≡ None → oldest (faults_since j.entries pass) ≡ Some fault → 1 ≤ room_of j → JournalWent posted u (call_entry j.entries pass it (outcome.Failed (error_of it fault)) ∷ []) j k → JournalEnded posted u (event.Fail pass it) (step.Refused (error_of it fault)) j k
told-left {Q} posted u pass it fault j k unfiled none is room went = by fault is went
  where
    asked : (n room : ℕ) → n ≡ 1 → 1 ≤ room → n ≤ room
    asked n room one enough = omega (arith, one, enough)

    by : (f : Fault) → oldest (faults_since j.entries pass) ≡ Some f → JournalWent posted u (call_entry j.entries pass it (outcome.Failed (error_of it f)) ∷ []) j k → JournalEnded posted u (event.Fail pass it) (step.Refused (error_of it f)) j k
    by (ReadFailed page) found gone = (
      fault-stands u j.entries pass it (ReadFailed page) unfiled none found,
      asked _ _ (asked-fail j.entries pass it unfiled) room,
      (call_entry j.entries pass it (outcome.Failed (error_of it (ReadFailed page))) ∷ [], (refl, fault-is j.entries pass it (ReadFailed page) found), gone),
    )
    by (WriteFailed page) found gone = (
      fault-stands u j.entries pass it (WriteFailed page) unfiled none found,
      asked _ _ (asked-fail j.entries pass it unfiled) room,
      (call_entry j.entries pass it (outcome.Failed (error_of it (WriteFailed page))) ∷ [], (refl, fault-is j.entries pass it (WriteFailed page) found), gone),
    )
    by SyncFailed found gone = (
      fault-stands u j.entries pass it SyncFailed unfiled none found,
      asked _ _ (asked-fail j.entries pass it unfiled) room,
      (call_entry j.entries pass it (outcome.Failed (error_of it SyncFailed)) ∷ [], (refl, fault-is j.entries pass it SyncFailed found), gone),
    )
    by (LogFailed handle) found gone = (
      fault-stands u j.entries pass it (LogFailed handle) unfiled none found,
      asked _ _ (asked-fail j.entries pass it unfiled) room,
      (call_entry j.entries pass it (outcome.Failed (error_of it (LogFailed handle))) ∷ [], (refl, fault-is j.entries pass it (LogFailed handle) found), gone),
    )

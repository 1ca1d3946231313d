-- What an event places belongs to where it happens: to its stream, its log, or the journal alone.
use Rattle.std.specs.Prelude.{◌≡◌, ℕ, ◌<◌, Bool, true, false, nat_le, nat_lt, List, [], ◌∷◌, refl, if◌then◌else◌}
use Rattle.std.specs.declared.option.Option.{Option}
use Rattle.std.specs.declared.option.Option.TheVariants.{Some, None}
use Rattle.std.proofs.Common.{ap, sym, subst, inl, inr}
use Rattle.std.proofs.lemmas.Bool.{lt-ltb}
use Rattle.cc_entry.specs.declared.call.Call.{Call}
use Rattle.cc_entry.specs.declared.call.Call.TheVariants as call
use Rattle.cc_entry.specs.declared.entry.End.TheVariants as how
use Rattle.cc_entry.specs.declared.entry.Entry.{Entry}
use Rattle.cc_entry.specs.declared.entry.Entry.TheVariants as entry
use Rattle.cc_entry.specs.declared.error.CcError.TheVariants as error
use Rattle.cc_entry.specs.declared.hold.Deferral.{Deferral}
use Rattle.cc_entry.specs.declared.reply.Outcome.TheVariants as outcome
use Rattle.cc_entry.specs.declared.reply.Reply.{Reply}
use Rattle.cc_entry.specs.declared.reply.Reply.TheVariants as reply
use Rattle.cc_model.specs.Logs.{flushed_to}
use Rattle.cc_model.specs.Pick.{pick}
use Rattle.cc_model.specs.Setup.{Setup}
use Rattle.cc_model.specs.Throttle.{pages_for}
use Rattle.cc_world.specs.Journals.{Queued}
use Rattle.cc_effects.specs.Events.{Answers, IsWanting, OnStream, OnLog, OnJournal, Nowhere, call_entry, entries_done, faulted_by, filed_under, log_place, page_in_entry, place_of_event, place_on, read_fault, write_end}
use Rattle.cc_effects.specs.declared.events.Event.{Event}
use Rattle.cc_effects.specs.declared.events.Event.TheVariants as event
use Rattle.cc_effects.specs.declared.events.StepReply.{StepReply}
use Rattle.cc_effects.specs.declared.events.StepReply.TheVariants as step
use Rattle.cc_world.proofs.Quiet.{AreAlone, AreOnLog, AreWithin, IsAlone, IsOn, IsOnLog, alone-none, alone-one, on-log-none, on-log-one, within-more, within-none, within-one}

same-stream : (a b : ℕ) → OnStream a ≡ OnStream b → a ≡ b
same-stream a b at = cc

same-log : (a b : ℕ) → OnLog a ≡ OnLog b → a ≡ b
same-log a b at = cc

not-alone : (s : ℕ) → OnStream s ≡ OnJournal → ⊥
not-alone s at = absurd (cc)

not-on : (s : ℕ) → OnJournal ≡ OnStream s → ⊥
not-on s at = absurd (cc)

not-logged : (s handle : ℕ) → OnStream s ≡ OnLog handle → ⊥
not-logged s handle at = absurd (cc)

alone-not-logged : (handle : ℕ) → OnJournal ≡ OnLog handle → ⊥
alone-not-logged handle at = absurd (cc)

-- where a call is filed, and where it is not
pub filed-on : (o : Option ℕ) (s : ℕ) → place_on o ≡ OnStream s → o ≡ Some s
filed-on None s at = absurd (not-on s at)
filed-on (Some t) s at = ap (λ (n : ℕ). Some n) (same-stream t s at)

pub filed-alone : (o : Option ℕ) → place_on o ≡ OnJournal → o ≡ None
filed-alone None at = refl
filed-alone (Some t) at = absurd (not-alone t at)

filed-no-log : (o : Option ℕ) (handle : ℕ) → place_on o ≡ OnLog handle → ⊥
filed-no-log None handle at = alone-not-logged handle at
filed-no-log (Some t) handle at = not-logged t handle at

-- where the event of a log happens
log-is : (b : Bool) (own handle : ℕ) → (if b then OnLog own else Nowhere) ≡ OnLog handle → own ≡ handle
log-is true own handle at = same-log own handle at
log-is false own handle at = absurd (cc)

log-no-stream : (b : Bool) (own s : ℕ) → (if b then OnLog own else Nowhere) ≡ OnStream s → ⊥
log-no-stream true own s at = absurd (cc)
log-no-stream false own s at = absurd (cc)

log-not-alone : (b : Bool) (own : ℕ) → (if b then OnLog own else Nowhere) ≡ OnJournal → ⊥
log-not-alone true own at = absurd (cc)
log-not-alone false own at = absurd (cc)

-- one entry, of the stream, of the log, or of the journal alone
as-within : (s : ℕ) (added : List Entry) (e : Entry) → IsOn s e → added ≡ e ∷ [] → AreWithin s added
as-within s added e on is = subst (λ (x : List Entry). AreWithin s x) (sym is) (within-one s e on)

none-within : (s : ℕ) (added : List Entry) → added ≡ [] → AreWithin s added
none-within s added is = subst (λ (x : List Entry). AreWithin s x) (sym is) (within-none s)

as-on-log : (n : ℕ) (added : List Entry) (e : Entry) → IsOnLog n e → added ≡ e ∷ [] → AreOnLog n added
as-on-log n added e on is = subst (λ (x : List Entry). AreOnLog n x) (sym is) (on-log-one n e on)

none-on-log : (n : ℕ) (added : List Entry) → added ≡ [] → AreOnLog n added
none-on-log n added is = subst (λ (x : List Entry). AreOnLog n x) (sym is) (on-log-none n)

as-alone : (added : List Entry) (e : Entry) → IsAlone e → added ≡ e ∷ [] → AreAlone added
as-alone added e alone is = subst (λ (x : List Entry). AreAlone x) (sym is) (alone-one e alone)

none-alone : (added : List Entry) → added ≡ [] → AreAlone added
none-alone added is = subst (λ (x : List Entry). AreAlone x) (sym is) alone-none

-- what a done call places
done-within : (past : List Entry) (pass : ℕ) (it : Call) (r : Reply) (s : ℕ) → filed_under past it ≡ Some s → AreWithin s (entries_done past pass it r)
done-within past pass (call.NcStore file page bytes) r s filed =
    let e : Entry = call_entry past pass (call.NcStore file page bytes) (outcome.Done r) in
    within-more s (entry.WriteBegin pass (record { stream = file.stream; page = page })) (e ∷ []) (same-stream file.stream s (ap place_on filed)) refl (within-one s e filed)
done-within past pass other r s filed = within-one s (call_entry past pass other (outcome.Done r)) filed

done-alone : (past : List Entry) (pass : ℕ) (it : Call) (r : Reply) → filed_under past it ≡ None → AreAlone (entries_done past pass it r)
done-alone past pass (call.NcStore file page bytes) r filed = absurd (not-alone file.stream (ap place_on filed))
done-alone past pass other r filed = alone-one (call_entry past pass other (outcome.Done r)) filed

-- what was placed by what was replied is of the event's stream
pub answers-within : {Q : Type 0} (u : Setup) (past : List Entry) (it : Event Q) (answer : StepReply Q) (added : List Entry) (s : ℕ) → place_of_event u past it ≡ OnStream s → Answers u past it answer added → AreWithin s added
answers-within u past (event.Fill pass page) (step.Done reply.Unit) added s at is = as-within s added (page_in_entry past pass page) (same-stream page.stream s at) is
answers-within u past (event.Fill pass page) other added s at is = absurd is
answers-within u past (event.Drop page) (step.Done reply.Unit) added s at is = as-within s added (entry.PageOut 1 page) (same-stream page.stream s at) is
answers-within u past (event.Drop page) other added s at is = absurd is
answers-within u past (event.WriteBegin pass page) (step.Done reply.Unit) added s at is = as-within s added (entry.WriteBegin pass page) (same-stream page.stream s at) is
answers-within u past (event.WriteBegin pass page) other added s at is = absurd is
answers-within u past (event.WriteEnd page) (step.Done reply.Unit) added s at is = as-within s added (write_end past page how.Good) (same-stream page.stream s at) is
answers-within u past (event.WriteEnd page) other added s at is = absurd is
answers-within u past (event.Sync pass stream) (step.Done reply.Unit) added s at is = as-within s added (entry.Sync pass stream how.Good) (same-stream stream s at) is
answers-within u past (event.Sync pass stream) other added s at is = absurd is
answers-within u past (event.Do pass it) (step.Done r) added s at is =
    subst (λ (x : List Entry). AreWithin s x) (sym is.1) (done-within past pass it r s (filed-on (filed_under past it) s at))
answers-within u past (event.Do pass it) (step.Refused e) added s at is =
    as-within s added (call_entry past pass it (outcome.Failed e)) (filed-on (filed_under past it) s at) is.1
answers-within u past (event.Do pass it) other added s at is = absurd is
answers-within u past (event.Fail pass it) (step.Refused e) added s at is =
    as-within s added (call_entry past pass it (outcome.Failed e)) (filed-on (filed_under past it) s at) is.0
answers-within u past (event.Fail pass it) other added s at is = absurd is
answers-within u past (event.Append pass handle bytes) answer added s at is = absurd (log-no-stream (nat_lt handle u.logs) handle s at)
answers-within u past (event.LogFlush pass handle to) answer added s at is = absurd (log-no-stream (nat_lt handle u.logs) handle s at)
answers-within u past (event.Scan pass) answer added s at is = absurd (not-on s at)
answers-within u past (event.Defer pass file bytes retrying routine) answer added s at is = absurd (not-on s at)
answers-within u past (event.Post pass) answer added s at is = absurd (not-on s at)

-- of its log
pub answers-on-log : {Q : Type 0} (u : Setup) (past : List Entry) (it : Event Q) (answer : StepReply Q) (added : List Entry) (n : ℕ) → place_of_event u past it ≡ OnLog n → Answers u past it answer added → AreOnLog n added
answers-on-log u past (event.Fill pass page) answer added n at is = absurd (not-logged page.stream n at)
answers-on-log u past (event.Drop page) answer added n at is = absurd (not-logged page.stream n at)
answers-on-log u past (event.WriteBegin pass page) answer added n at is = absurd (not-logged page.stream n at)
answers-on-log u past (event.WriteEnd page) answer added n at is = absurd (not-logged page.stream n at)
answers-on-log u past (event.Sync pass stream) answer added n at is = absurd (not-logged stream n at)
answers-on-log u past (event.Do pass it) answer added n at is = absurd (filed-no-log (filed_under past it) n at)
answers-on-log u past (event.Fail pass it) answer added n at is = absurd (filed-no-log (filed_under past it) n at)
answers-on-log u past (event.Append pass handle bytes) (step.NewLsn lsn) added n at is =
    as-on-log n added (entry.Append pass handle lsn bytes) (log-is (nat_lt handle u.logs) handle n at) is.2
answers-on-log u past (event.Append pass handle bytes) (step.Refused (error.NoLog m)) added n at is = none-on-log n added is.2
answers-on-log u past (event.Append pass handle bytes) (step.Refused (error.LogFull m)) added n at is = none-on-log n added is.3
answers-on-log u past (event.Append pass handle bytes) other added n at is = absurd is
answers-on-log u past (event.LogFlush pass handle to) (step.Done reply.Unit) added n at is =
    go (nat_le to (flushed_to past handle)) is.1
  where
    go : (b : Bool) → added ≡ (if b then [] else entry.Flushed pass handle to ∷ []) → AreOnLog n added
    go true none = none-on-log n added none
    go false one = as-on-log n added (entry.Flushed pass handle to) (log-is (nat_lt handle u.logs) handle n at) one
answers-on-log u past (event.LogFlush pass handle to) (step.Refused (error.NoLog m)) added n at is = none-on-log n added is.2
answers-on-log u past (event.LogFlush pass handle to) other added n at is = absurd is
answers-on-log u past (event.Scan pass) answer added n at is = absurd (alone-not-logged n at)
answers-on-log u past (event.Defer pass file bytes retrying routine) answer added n at is = absurd (alone-not-logged n at)
answers-on-log u past (event.Post pass) answer added n at is = absurd (alone-not-logged n at)

-- of the journal alone
pub answers-alone : {Q : Type 0} (u : Setup) (past : List Entry) (it : Event Q) (answer : StepReply Q) (added : List Entry) → place_of_event u past it ≡ OnJournal → Answers u past it answer added → AreAlone added
answers-alone u past (event.Fill pass page) answer added at is = absurd (not-alone page.stream at)
answers-alone u past (event.Drop page) answer added at is = absurd (not-alone page.stream at)
answers-alone u past (event.WriteBegin pass page) answer added at is = absurd (not-alone page.stream at)
answers-alone u past (event.WriteEnd page) answer added at is = absurd (not-alone page.stream at)
answers-alone u past (event.Sync pass stream) answer added at is = absurd (not-alone stream at)
answers-alone u past (event.Do pass it) (step.Done r) added at is =
    subst (λ (x : List Entry). AreAlone x) (sym is.1) (done-alone past pass it r (filed-alone (filed_under past it) at))
answers-alone u past (event.Do pass it) (step.Refused e) added at is =
    as-alone added (call_entry past pass it (outcome.Failed e)) (filed-alone (filed_under past it) at) is.1
answers-alone u past (event.Do pass it) other added at is = absurd is
answers-alone u past (event.Fail pass it) (step.Refused e) added at is =
    as-alone added (call_entry past pass it (outcome.Failed e)) (filed-alone (filed_under past it) at) is.0
answers-alone u past (event.Fail pass it) other added at is = absurd is
answers-alone u past (event.Append pass handle bytes) answer added at is = absurd (log-not-alone (nat_lt handle u.logs) handle at)
answers-alone u past (event.LogFlush pass handle to) answer added at is = absurd (log-not-alone (nat_lt handle u.logs) handle at)
answers-alone u past (event.Scan pass) (step.Done reply.Unit) added at is = as-alone added (entry.Scan pass (pick u past)) tt is
answers-alone u past (event.Scan pass) other added at is = absurd is
answers-alone u past (event.Defer pass file bytes retrying routine) (step.Deferred id) added at is =
    as-alone added (entry.Defer pass id file (pages_for bytes) retrying) tt is.1
answers-alone u past (event.Defer pass file bytes retrying routine) (step.Refused error.NotCached) added at is = none-alone added is.1
answers-alone u past (event.Defer pass file bytes retrying routine) (step.Refused error.QueueFull) added at is = none-alone added is.2
answers-alone u past (event.Defer pass file bytes retrying routine) other added at is = absurd is
answers-alone u past (event.Post pass) (step.Posted (Some posted)) added at is = as-alone added (entry.Posted posted.id) tt is
answers-alone u past (event.Post pass) (step.Posted None) added at is = none-alone added is.1
answers-alone u past (event.Post pass) other added at is = absurd is

-- the entry of a failure, where it has one
same-entry : (a e : Entry) → Some a ≡ Some e → a ≡ e
same-entry a e is = cc

no-entry : (e : Entry) → None ≡ Some e → ⊥
no-entry e is = absurd (cc)

fault-is : (s : ℕ) (a e : Entry) → IsOn s a → Some a ≡ Some e → IsOn s e
fault-is s a e on is = subst (λ (x : Entry). IsOn s x) (same-entry a e is) on

log-fault-is : (n : ℕ) (a e : Entry) → IsOnLog n a → Some a ≡ Some e → IsOnLog n e
log-fault-is n a e on is = subst (λ (x : Entry). IsOnLog n x) (same-entry a e is) on

read-within : (past : List Entry) (pass : ℕ) (it : Call) (e : Entry) (s : ℕ) → filed_under past it ≡ Some s → read_fault pass it ≡ Some e → IsOn s e
read-within past pass (call.NcRead file page) e s filed is =
    fault-is s (entry.FillFailed pass (record { stream = file.stream; page = page })) e (same-stream file.stream s (ap place_on filed)) is
read-within past pass other e s filed is = absurd (no-entry e is)

pub fault-within : {Q : Type 0} (u : Setup) (past : List Entry) (it : Event Q) (e : Entry) (s : ℕ) → place_of_event u past it ≡ OnStream s → faulted_by past it ≡ Some e → IsOn s e
fault-within u past (event.Fill pass page) e s at is = fault-is s (entry.FillFailed pass page) e (same-stream page.stream s at) is
fault-within u past (event.WriteEnd page) e s at is = fault-is s (write_end past page how.Failed) e (same-stream page.stream s at) is
fault-within u past (event.Sync pass stream) e s at is = fault-is s (entry.Sync pass stream how.Failed) e (same-stream stream s at) is
fault-within u past (event.Do pass it) e s at is = read-within past pass it e s (filed-on (filed_under past it) s at) is
fault-within u past (event.Append pass handle bytes) e s at is = absurd (log-no-stream (nat_lt handle u.logs) handle s at)
fault-within u past (event.LogFlush pass handle to) e s at is = absurd (log-no-stream (nat_lt handle u.logs) handle s at)
fault-within u past other e s at is = absurd (no-entry e is)

pub fault-on-log : {Q : Type 0} (u : Setup) (past : List Entry) (it : Event Q) (e : Entry) (n : ℕ) → place_of_event u past it ≡ OnLog n → faulted_by past it ≡ Some e → IsOnLog n e
fault-on-log u past (event.Fill pass page) e n at is = absurd (not-logged page.stream n at)
fault-on-log u past (event.WriteEnd page) e n at is = absurd (not-logged page.stream n at)
fault-on-log u past (event.Sync pass stream) e n at is = absurd (not-logged stream n at)
fault-on-log u past (event.Do pass it) e n at is = absurd (filed-no-log (filed_under past it) n at)
fault-on-log u past (event.Append pass handle bytes) e n at is =
    log-fault-is n (entry.LogFailed pass handle) e (log-is (nat_lt handle u.logs) handle n at) is
fault-on-log u past (event.LogFlush pass handle to) e n at is = go (nat_le to (flushed_to past handle)) is
  where
    go : (b : Bool) → (if b then None else Some (entry.LogFailed pass handle)) ≡ Some e → IsOnLog n e
    go true it = absurd (no-entry e it)
    go false it = log-fault-is n (entry.LogFailed pass handle) e (log-is (nat_lt handle u.logs) handle n at) it
fault-on-log u past other e n at is = absurd (no-entry e is)

-- what was placed where no memory was found
pub wanting-within : {Q : Type 0} (u : Setup) (past : List Entry) (it : Event Q) (added : List Entry) (s : ℕ) → place_of_event u past it ≡ OnStream s → IsWanting past it added → AreWithin s added
wanting-within u past (event.WriteEnd page) added s at is = as-within s added (write_end past page how.NoMemory) (same-stream page.stream s at) is
wanting-within u past (event.Sync pass stream) added s at (inl is) = as-within s added (entry.Sync pass stream how.NoMemory) (same-stream stream s at) is
wanting-within u past (event.Sync pass stream) added s at (inr is) = none-within s added is
wanting-within u past other added s at is = none-within s added is

pub wanting-on-log : {Q : Type 0} (u : Setup) (past : List Entry) (it : Event Q) (added : List Entry) (n : ℕ) → place_of_event u past it ≡ OnLog n → IsWanting past it added → AreOnLog n added
wanting-on-log u past (event.WriteEnd page) added n at is = absurd (not-logged page.stream n at)
wanting-on-log u past (event.Sync pass stream) added n at is = absurd (not-logged stream n at)
wanting-on-log u past other added n at is = none-on-log n added is

pub wanting-alone : {Q : Type 0} (u : Setup) (past : List Entry) (it : Event Q) (added : List Entry) → place_of_event u past it ≡ OnJournal → IsWanting past it added → AreAlone added
wanting-alone u past (event.WriteEnd page) added at is = absurd (not-alone page.stream at)
wanting-alone u past (event.Sync pass stream) added at is = absurd (not-alone stream at)
wanting-alone u past other added at is = none-alone added is

-- no event that is answered hands its routine back
pub never-kept : {Q : Type 0} (u : Setup) (past : List Entry) (it : Event Q) (routine : Q) (e : _) (added : List Entry) → Answers u past it (step.Kept routine e) added → ⊥
never-kept u past (event.Fill pass page) routine e added is = is
never-kept u past (event.Drop page) routine e added is = is
never-kept u past (event.WriteBegin pass page) routine e added is = is
never-kept u past (event.WriteEnd page) routine e added is = is
never-kept u past (event.Sync pass stream) routine e added is = is
never-kept u past (event.Do pass it) routine e added is = is
never-kept u past (event.Fail pass it) routine e added is = is
never-kept u past (event.Append pass handle bytes) routine e added is = is
never-kept u past (event.LogFlush pass handle to) routine e added is = is
never-kept u past (event.Scan pass) routine e added is = is
never-kept u past (event.Defer pass file bytes retrying held) routine e added is = is
never-kept u past (event.Post pass) routine e added is = is

-- the log of an event is there
pub is-on-log : (u : Setup) (handle n : ℕ) → handle ≡ n → handle < u.logs → log_place u handle ≡ OnLog n
is-on-log u handle n same within = rw (lt-ltb handle u.logs within) (ap (λ (m : ℕ). OnLog m) same)

-- whether an event is neither a deferral nor a post, and so leaves the routines that wait
abbrev pub leaves_queue : {Q : Type 0} → Event Q → Bool
leaves_queue (event.Defer pass file bytes retrying routine) = false
leaves_queue (event.Post pass) = false
leaves_queue other = true

pub stream-leaves : {Q : Type 0} (u : Setup) (past : List Entry) (it : Event Q) (s : ℕ) → place_of_event u past it ≡ OnStream s → leaves_queue it ≡ true
stream-leaves u past (event.Defer pass file bytes retrying routine) s at = absurd (not-on s at)
stream-leaves u past (event.Post pass) s at = absurd (not-on s at)
stream-leaves u past other s at = refl

pub log-leaves : {Q : Type 0} (u : Setup) (past : List Entry) (it : Event Q) (n : ℕ) → place_of_event u past it ≡ OnLog n → leaves_queue it ≡ true
log-leaves u past (event.Defer pass file bytes retrying routine) n at = absurd (alone-not-logged n at)
log-leaves u past (event.Post pass) n at = absurd (alone-not-logged n at)
log-leaves u past other n at = refl

-- whether a reply hands a routine back
abbrev pub is_kept : {Q : Type 0} → StepReply Q → Bool
is_kept (step.Kept routine e) = true
is_kept other = false

pub queue-left : {Q : Type 0} (posted : Q → Bool) (it : Event Q) (answer : StepReply Q) (old new : List (Deferral × Q)) → leaves_queue it ≡ true → is_kept answer ≡ false → new ≡ old → Queued posted it answer old new
queue-left posted (event.Defer pass file bytes retrying routine) answer old new leaves plain same = absurd (cc)
queue-left posted (event.Post pass) answer old new leaves plain same = absurd (cc)
queue-left posted other (step.Kept routine e) old new leaves plain same = absurd (cc)
queue-left posted other answer old new leaves plain same = same

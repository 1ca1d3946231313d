-- An event that neither defers nor posts a write leaves the queue as it is.
use Rattle.std.specs.Prelude.{◌≡◌, ℕ, nat_le, Bool, true, false, List, [], ◌∷◌, ◌++◌, refl, if◌then◌else◌}
use Rattle.std.specs.declared.option.Option.{Option}
use Rattle.std.specs.declared.option.Option.TheVariants.{Some, None}
use Rattle.std.specs.List.{AllByRecursion}
use Rattle.std.proofs.Common.{subst, sym, ◌∙◌, ⊎_elim}
use Rattle.cc_entry.specs.declared.call.Call.{Call}
use Rattle.cc_entry.specs.declared.call.Call.TheVariants as call
use Rattle.cc_entry.specs.declared.entry.Entry.{Entry}
use Rattle.cc_entry.specs.declared.entry.Entry.TheVariants as entry
use Rattle.cc_entry.specs.declared.error.CcError.TheVariants as error
use Rattle.cc_entry.specs.declared.hold.Deferral.{Deferral}
use Rattle.cc_entry.specs.declared.reply.Reply.{Reply}
use Rattle.cc_entry.specs.declared.reply.Reply.TheVariants as reply
use Rattle.cc_laws.proofs.QueueSteps.{deferred-other, is_defer, is_defer_or_post}
use Rattle.cc_model.specs.Logs.{flushed_to}
use Rattle.cc_model.specs.Setup.{Setup}
use Rattle.cc_pieces.specs.Steps.{posts_it, was_posted}
use Rattle.cc_traits.specs.declared.post.PostedRoutine.{PostedRoutine}
use Rattle.cc_world.specs.Journals.{Queued}
use Rattle.cc_pieces.specs.Moments.{EventLeft}
use Rattle.cc_effects.specs.Events.{Answers, IsUnposted, IsWanting, entries_done, faulted_by, read_fault}
use Rattle.cc_effects.specs.declared.events.Event.{Event}
use Rattle.cc_effects.specs.declared.events.Event.TheVariants as event
use Rattle.cc_effects.specs.declared.events.StepReply.{StepReply}
use Rattle.cc_effects.specs.declared.events.StepReply.TheVariants as step
use Rattle.cc_event_lines.specs.Doing.{IsPlainEvent}
use Rattle.cc_event_lines.specs.Happening.{PostsNone, reply_without, without_routine}
use Rattle.cc_event_lines.specs.Routines.{IsQuiet}

-- entries of no deferral and no post
abbrev AreOthers : List Entry → Type 0
AreOthers added = AllByRecursion (λ e. is_defer_or_post e ≡ false) added

defers-none : (e : Entry) → is_defer_or_post e ≡ false → is_defer e ≡ false
defers-none (entry.Defer pass id file pages retrying) other = absurd (cc)
defers-none e other = refl

posts-none : (e : Entry) (id : ℕ) → is_defer_or_post e ≡ false → posts_it id e ≡ false
posts-none (entry.Posted own) id other = absurd (cc)
posts-none e id other = refl

-- one more entry, and several
posted-more : (e : Entry) (past : List Entry) (id : ℕ) → posts_it id e ≡ false → was_posted (e ∷ past) (Some (Some id)) ≡ was_posted past (Some (Some id))
posted-more e past id none = rw none refl

quiet-grown : (added past : List Entry) → AreOthers added → IsQuiet past (added ++ past)
quiet-grown [] past others = record { deferred_is = refl; posted_is = λ id. refl }
quiet-grown (e ∷ added) past others =
    let rest = quiet-grown added past others.1 in
    record {
      deferred_is = deferred-other e (added ++ past) (defers-none e others.0) ∙ rest.deferred_is;
      posted_is = λ id. posted-more e (added ++ past) id (posts-none e id others.0) ∙ rest.posted_is id;
    }

quiet-as : (added old new : List Entry) → new ≡ added ++ old → AreOthers added → IsQuiet old new
quiet-as added old new is others = subst (λ (past : List Entry). IsQuiet old past) (sym is) (quiet-grown added old others)

quiet-none : (old new : List Entry) → new ≡ old → IsQuiet old new
quiet-none old new is = quiet-as [] old new is tt

-- what an event placed, by its reply, its fault, or want of memory
one-other : (added : List Entry) (e : Entry) → added ≡ e ∷ [] → is_defer_or_post e ≡ false → AreOthers added
one-other added e is other = subst (λ (es : List Entry). AreOthers es) (sym is) (other, tt)

none-other : (added : List Entry) → added ≡ [] → AreOthers added
none-other added is = subst (λ (es : List Entry). AreOthers es) (sym is) tt

done-other : (past : List Entry) (pass : ℕ) (it : Call) (r : Reply) → AreOthers (entries_done past pass it r)
done-other past pass (call.NcStore file page bytes) r = (refl, (refl, tt))
done-other past pass it r = (refl, tt)

flushed-other : (b : Bool) (pass handle to : ℕ) → AreOthers (if b then [] else entry.Flushed pass handle to ∷ [])
flushed-other true pass handle to = tt
flushed-other false pass handle to = (refl, tt)

answers-others : {Q : Type 0} (u : Setup) (past : List Entry) (it : Event Q) (r : StepReply (Unit {0})) (added : List Entry) → IsPlainEvent it → Answers u past (without_routine it) r added → AreOthers added
answers-others u past (event.Fill pass page) (step.Done reply.Unit) added plain a = one-other added _ a refl
answers-others u past (event.Fill pass page) other added plain a = absurd a
answers-others u past (event.Drop page) (step.Done reply.Unit) added plain a = one-other added _ a refl
answers-others u past (event.Drop page) other added plain a = absurd a
answers-others u past (event.WriteBegin pass page) (step.Done reply.Unit) added plain a = one-other added _ a refl
answers-others u past (event.WriteBegin pass page) other added plain a = absurd a
answers-others u past (event.WriteEnd page) (step.Done reply.Unit) added plain a = one-other added _ a refl
answers-others u past (event.WriteEnd page) other added plain a = absurd a
answers-others u past (event.Sync pass stream) (step.Done reply.Unit) added plain a = one-other added _ a refl
answers-others u past (event.Sync pass stream) other added plain a = absurd a
answers-others u past (event.Do pass it) (step.Done r) added plain a = subst (λ (es : List Entry). AreOthers es) (sym a.1) (done-other past pass it r)
answers-others u past (event.Do pass it) (step.Refused e) added plain a = one-other added _ a.1 refl
answers-others u past (event.Do pass it) other added plain a = absurd a
answers-others u past (event.Fail pass it) (step.Refused e) added plain a = one-other added _ a.0 refl
answers-others u past (event.Fail pass it) other added plain a = absurd a
answers-others u past (event.Append pass handle bytes) (step.NewLsn lsn) added plain a = one-other added _ a.2 refl
answers-others u past (event.Append pass handle bytes) (step.Refused (error.NoLog n)) added plain a = none-other added a.2
answers-others u past (event.Append pass handle bytes) (step.Refused (error.LogFull n)) added plain a = none-other added a.3
answers-others u past (event.Append pass handle bytes) other added plain a = absurd a
answers-others u past (event.LogFlush pass handle to) (step.Done reply.Unit) added plain a =
    subst (λ (es : List Entry). AreOthers es) (sym a.1) (flushed-other _ pass handle to)
answers-others u past (event.LogFlush pass handle to) (step.Refused (error.NoLog n)) added plain a = none-other added a.2
answers-others u past (event.LogFlush pass handle to) other added plain a = absurd a
answers-others u past (event.Scan pass) (step.Done reply.Unit) added plain a = one-other added _ a refl
answers-others u past (event.Scan pass) other added plain a = absurd a
answers-others u past (event.Defer pass file bytes retrying routine) r added plain a = absurd plain
answers-others u past (event.Post pass) r added plain a = absurd plain

some-other : (o : Entry) (e : Entry) → is_defer_or_post o ≡ false → Some o ≡ Some e → is_defer_or_post e ≡ false
some-other o e other is = subst (λ (x : Entry). is_defer_or_post x ≡ false) (let same : o ≡ e = cc in same) other

no-fault : (e : Entry) → None ≡ Some e → is_defer_or_post e ≡ false
no-fault e is = absurd (cc)

read-other : (pass : ℕ) (it : Call) (e : Entry) → read_fault pass it ≡ Some e → is_defer_or_post e ≡ false
read-other pass (call.NcRead file page) e is = some-other _ e refl is
read-other pass other e is = no-fault e is

flush-other : (b : Bool) (pass handle : ℕ) (e : Entry) → (if b then None else Some (entry.LogFailed pass handle)) ≡ Some e → is_defer_or_post e ≡ false
flush-other true pass handle e is = no-fault e is
flush-other false pass handle e is = some-other _ e refl is

fault-other : {Q : Type 0} (past : List Entry) (it : Event Q) (e : Entry) → IsPlainEvent it → faulted_by past (without_routine it) ≡ Some e → is_defer_or_post e ≡ false
fault-other past (event.Fill pass page) e plain is = some-other _ e refl is
fault-other past (event.Drop page) e plain is = no-fault e is
fault-other past (event.WriteBegin pass page) e plain is = no-fault e is
fault-other past (event.WriteEnd page) e plain is = some-other _ e refl is
fault-other past (event.Sync pass stream) e plain is = some-other _ e refl is
fault-other past (event.Do pass it) e plain is = read-other pass it e is
fault-other past (event.Fail pass it) e plain is = no-fault e is
fault-other past (event.Append pass handle bytes) e plain is = some-other _ e refl is
fault-other past (event.LogFlush pass handle to) e plain is = flush-other (nat_le to (flushed_to past handle)) pass handle e is
fault-other past (event.Scan pass) e plain is = no-fault e is
fault-other past (event.Defer pass file bytes retrying routine) e plain is = absurd plain
fault-other past (event.Post pass) e plain is = absurd plain

wanting-others : {Q : Type 0} (past : List Entry) (it : Event Q) (added : List Entry) → IsPlainEvent it → IsWanting past (without_routine it) added → AreOthers added
wanting-others past (event.Fill pass page) added plain wants = none-other added wants
wanting-others past (event.Drop page) added plain wants = none-other added wants
wanting-others past (event.WriteBegin pass page) added plain wants = none-other added wants
wanting-others past (event.WriteEnd page) added plain wants = one-other added _ wants refl
wanting-others past (event.Sync pass stream) added plain wants =
    ⊎_elim (λ synced. one-other added _ synced refl) (λ none. none-other added none) wants
wanting-others past (event.Do pass it) added plain wants = none-other added wants
wanting-others past (event.Fail pass it) added plain wants = none-other added wants
wanting-others past (event.Append pass handle bytes) added plain wants = none-other added wants
wanting-others past (event.LogFlush pass handle to) added plain wants = none-other added wants
wanting-others past (event.Scan pass) added plain wants = none-other added wants
wanting-others past (event.Defer pass file bytes retrying routine) added plain wants = absurd plain
wanting-others past (event.Post pass) added plain wants = absurd plain

-- So it is quiet.
pub quiet-left : {Q : Type 0} (u : Setup) (it : Event Q) (r : StepReply (Unit {0})) (old new : List Entry) → IsPlainEvent it → EventLeft u (without_routine it) r old new → IsQuiet old new
quiet-left u it step.NotNow old new plain left = quiet-none old new left.1
quiet-left u it step.Faulted old new plain left =
    quiet-as (left.3.0 ∷ []) old new left.3.2 (fault-other old it left.3.0 plain left.3.1, tt)
quiet-left u it (step.Refused (error.JournalFull entries)) old new plain left = quiet-none old new left.3
quiet-left u it (step.Refused error.NoMemory) old new plain left =
    quiet-as left.0 old new left.2 (wanting-others old it left.0 plain left.1)
quiet-left u it other old new plain left =
    quiet-as left.2.0 old new left.2.2 (answers-others u old it other left.2.0 plain left.2.1)

-- It posts no write.
no-post : {Q : Type 0} (u : Setup) (past : List Entry) (it : Event Q) (posted : Option (PostedRoutine (Unit {0}))) (added : List Entry) → IsPlainEvent it → Answers u past (without_routine it) (step.Posted posted) added → ⊥
no-post u past (event.Fill pass page) posted added plain a = a
no-post u past (event.Drop page) posted added plain a = a
no-post u past (event.WriteBegin pass page) posted added plain a = a
no-post u past (event.WriteEnd page) posted added plain a = a
no-post u past (event.Sync pass stream) posted added plain a = a
no-post u past (event.Do pass it) posted added plain a = a
no-post u past (event.Fail pass it) posted added plain a = a
no-post u past (event.Append pass handle bytes) posted added plain a = a
no-post u past (event.LogFlush pass handle to) posted added plain a = a
no-post u past (event.Scan pass) posted added plain a = a
no-post u past (event.Defer pass file bytes retrying routine) posted added plain a = plain
no-post u past (event.Post pass) posted added plain a = plain

pub posts-no-routine : {Q : Type 0} (u : Setup) (it : Event Q) (r : StepReply Q) (old new : List Entry) → IsPlainEvent it → EventLeft u (without_routine it) (reply_without r) old new → PostsNone r
posts-no-routine u it (step.Posted None) old new plain left = no-post u old it None left.2.0 plain left.2.1
posts-no-routine u it (step.Posted (Some posted)) old new plain left =
    no-post u old it (Some (record { id = posted.id; routine = tt })) left.2.0 plain left.2.1
posts-no-routine u it other old new plain left = tt

-- Nothing waits anew, and nothing waits no more.
pub queue-same : {Q : Type 0} (posted : Q → Bool) (it : Event Q) (r : StepReply Q) (old new : List (Deferral × Q)) → IsPlainEvent it → Queued posted it r old new → new ≡ old
queue-same posted (event.Fill pass page) (step.Kept kept e) old new plain queued = absurd queued
queue-same posted (event.Fill pass page) other old new plain queued = queued
queue-same posted (event.Drop page) (step.Kept kept e) old new plain queued = absurd queued
queue-same posted (event.Drop page) other old new plain queued = queued
queue-same posted (event.WriteBegin pass page) (step.Kept kept e) old new plain queued = absurd queued
queue-same posted (event.WriteBegin pass page) other old new plain queued = queued
queue-same posted (event.WriteEnd page) (step.Kept kept e) old new plain queued = absurd queued
queue-same posted (event.WriteEnd page) other old new plain queued = queued
queue-same posted (event.Sync pass stream) (step.Kept kept e) old new plain queued = absurd queued
queue-same posted (event.Sync pass stream) other old new plain queued = queued
queue-same posted (event.Do pass it) (step.Kept kept e) old new plain queued = absurd queued
queue-same posted (event.Do pass it) other old new plain queued = queued
queue-same posted (event.Fail pass it) (step.Kept kept e) old new plain queued = absurd queued
queue-same posted (event.Fail pass it) other old new plain queued = queued
queue-same posted (event.Append pass handle bytes) (step.Kept kept e) old new plain queued = absurd queued
queue-same posted (event.Append pass handle bytes) other old new plain queued = queued
queue-same posted (event.LogFlush pass handle to) (step.Kept kept e) old new plain queued = absurd queued
queue-same posted (event.LogFlush pass handle to) other old new plain queued = queued
queue-same posted (event.Scan pass) (step.Kept kept e) old new plain queued = absurd queued
queue-same posted (event.Scan pass) other old new plain queued = queued
queue-same posted (event.Defer pass file bytes retrying routine) r old new plain queued = absurd plain
queue-same posted (event.Post pass) r old new plain queued = absurd plain

-- Its routine is none that was posted.
pub unposted-plainly : {Q : Type 0} (posted : Q → Bool) (it : Event Q) → IsPlainEvent it → IsUnposted posted it
unposted-plainly posted (event.Defer pass file bytes retrying routine) plain = absurd plain
unposted-plainly posted other plain = tt

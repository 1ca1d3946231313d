-- What a caller is told of the reply that stands in the journal's last entry.
use Rattle.std.specs.Prelude.{◌≡◌, ℕ, ◌≤◌, Bool, true, false, Ok, Err, List, ◌∷◌, length}
use Rattle.std.specs.declared.option.Option.{Option}
use Rattle.std.specs.declared.option.Option.TheVariants.{Some, None}
use Rattle.cc_entry.specs.declared.call.Call.{Call}
use Rattle.cc_entry.specs.declared.entry.Entry.{Entry}
use Rattle.cc_entry.specs.declared.entry.Entry.TheVariants as entry
use Rattle.cc_entry.specs.declared.error.CcError.{CcError}
use Rattle.cc_entry.specs.declared.reply.Outcome.TheVariants as outcome
use Rattle.cc_entry.specs.declared.reply.Reply.{Reply}
use Rattle.cc_entry.specs.declared.reply.Reply.TheVariants as reply
use Rattle.cc_step.specs.declared.ways.Attempt.{Attempt}
use Rattle.cc_step.specs.declared.ways.Attempt.TheVariants as attempt
use Rattle.cc_step.specs.declared.faults.Failed.{Failed}
use Rattle.cc_step.specs.declared.faults.Failed.TheVariants as ended
use Rattle.cc_writes.specs.Ways.{IsTold}
use Rattle.cc_writes.specs.declared.tell.Returned.{Returned}
use Rattle.cc_writes.specs.declared.course.Course.{Course}
use Rattle.cc_writes.specs.declared.course.Course.TheVariants as course

-- The last entry is that of a call that was done with this reply.
pub record HasAnswered (r : Reply) (entries : List Entry) : Type 0 where
  pub pass : ℕ
  pub nth : ℕ
  pub stream : Option ℕ
  pub it : Call
  pub front : List Entry
  pub last : entries ≡ entry.Call pass nth stream it (outcome.Done r) ∷ front

-- the reply of an entry whose call was done
abbrev pub reply_of : Entry → Option Reply
reply_of (entry.Call pass nth stream it (outcome.Done r)) = Some r
reply_of other = None

-- What the caller handed in has room for a reply.
abbrev pub FitsReply : Reply → List ℕ → Type 0
FitsReply (reply.Read bytes) out = length bytes ≤ length out
FitsReply other out = Unit {0}

-- What the caller handed in has room for the last reply.
abbrev pub FitsLast : List Entry → List ℕ → Type 0
FitsLast entries out = (r : Reply) → HasAnswered r entries → FitsReply r out

-- The caller is told the last reply.
abbrev pub ToldLast : List Entry → Returned → List ℕ → List ℕ → Type 0
ToldLast entries told was now = (r : Reply) → HasAnswered r entries → IsTold r told was now

-- Where a call was done, what was handed in has room for its reply.
abbrev pub FitsAttempt : {T : Type 0} → Attempt T → List Entry → List ℕ → Type 0
FitsAttempt attempt.Done entries out = FitsLast entries out
FitsAttempt other entries out = Unit {0}

-- The course of a call is as an attempt at it ended, and its caller was told the reply, if there is one.
abbrev pub CourseAs : {T : Type 0} → Attempt T → Course T → List Entry → List ℕ → List ℕ → Type 0
CourseAs attempt.Done answer entries was now =
    (told : Returned) × (answer ≡ course.Ended (Ok told)) × ToldLast entries told was now
CourseAs (attempt.Refused e) answer entries was now = (answer ≡ course.Ended (Err e)) × (now ≡ was)
CourseAs (attempt.Stopped e) answer entries was now = (answer ≡ course.Ended (Err e)) × (now ≡ was)
CourseAs (attempt.GoesOn way) answer entries was now = (answer ≡ course.GoesOn way) × (now ≡ was)

-- what a call answers that met a fault and ended so
abbrev pub fault_answer : Failed → CcError → CcError
fault_answer (ended.Refused e) fault = e
fault_answer ended.Told fault = fault
fault_answer (ended.Stopped e) fault = e

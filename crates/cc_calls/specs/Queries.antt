-- What a pass asks that makes a query, whichever it is, and what the query leaves.
use Rattle.std.specs.Prelude.{◌≡◌, ℕ, ◌<◌, Bool, Result, Ok, Err, IfSome}
use Rattle.std.specs.declared.option.Option.{Option}
use Rattle.std.specs.declared.option.Option.TheVariants.{Some, None}
use Rattle.cc_entry.specs.Queries.{file_of_query}
use Rattle.cc_entry.specs.declared.call.Call.TheVariants as call
use Rattle.cc_entry.specs.declared.error.CcError.{CcError}
use Rattle.cc_entry.specs.declared.query.Query.{Query}
use Rattle.cc_entry.specs.declared.reply.Outcome.{Outcome}
use Rattle.cc_entry.specs.declared.reply.Outcome.TheVariants as outcome
use Rattle.cc_entry.specs.declared.reply.Reply.{Reply}
use Rattle.cc_entry.specs.declared.reply.Reply.TheVariants as reply
use Rattle.cc_entry.specs.declared.query.Value.TheVariants as value
use Rattle.cc_turns.specs.Standing.{Standing, nothing}
use Rattle.cc_writes.specs.declared.tell.Returned.{Returned}
use Rattle.cc_writes.specs.declared.tell.Returned.TheVariants as returned
use Rattle.cc_calls.specs.Pages.{CallWithPagesLeft, IsFullFor}

-- A pass may make a query: the stream of its file, if it names one, has a disk, and the pass holds no turn and has nothing
-- under way.
pub record CanAsk (w : Standing) (asked : Query) : Type 0 where
  pub known : IfSome (file_of_query asked) (λ file. file.stream < w.streams)
  pub free : w.held ≡ nothing
  pub none : w.in_flight ≡ 0

-- the reply that a caller was told, where that is all of it
abbrev pub reply_told : Returned → Option Reply
reply_told (returned.Value found) = Some (reply.Value found)
reply_told other = None

-- a flag, as the reply that it is
abbrev pub flag_reply : Bool → Reply
flag_reply flag = reply.Value (value.Flag flag)

-- what was told, as the reply that it is
abbrev pub as_reply : {A : Type 0} → (A → Reply) → Result A CcError → Result Reply CcError
as_reply make (Ok told) = Ok (make told)
as_reply make (Err e) = Err e

-- how the entry of a call says that it ended, whose caller was answered its reply
abbrev pub reply_outcome : Result Reply CcError → Outcome
reply_outcome (Ok r) = outcome.Done r
reply_outcome (Err e) = outcome.Failed e

-- A query was answered so.
pub record AskEnds (old new : Standing) (asked : Query) (answer : Result Reply CcError) : Type 0 where
  pub pages : CallWithPagesLeft old new (call.Query asked) (reply_outcome answer)
  pub full : IsFullFor (call.Query asked) old new answer

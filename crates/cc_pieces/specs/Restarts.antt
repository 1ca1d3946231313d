-- The lines `restart`: before the streams are opened, pass 0 flushes each log up to the last LSN that its restart read, so that
-- later appends come behind it. What the restart itself did has no entry.
use Rattle.std.specs.Prelude.{◌≡◌, ℕ, zero, suc, ◌≤◌, ◌==◌, ◌^◌, List, [], ◌∷◌, Ok, Err, ◌⊎◌, if◌then◌else◌}
use Rattle.std.specs.declared.option.Option.{Option}
use Rattle.std.specs.declared.option.Option.TheVariants.{Some, None}
use Rattle.cc_entry.specs.declared.answer.Answer.{Answer}
use Rattle.cc_entry.specs.declared.answer.Answer.TheVariants as answer
use Rattle.cc_entry.specs.declared.answer.LineReply.{LineReply}
use Rattle.cc_entry.specs.declared.error.CcError.{CcError}
use Rattle.cc_entry.specs.declared.entry.Entry.{Entry}
use Rattle.cc_script.specs.declared.script.RestartLine.{RestartLine}
use Rattle.cc_model.specs.Setup.{Setup}
use Rattle.cc_effects.specs.Moments.{IsIdle, Between}
use Rattle.cc_effects.specs.LogCalls.{LogFlushLeft}
use Rattle.cc_pieces.specs.Rooms.{HadNoRoom}

-- the log was flushed up to the last LSN that was read, where one was
abbrev pub LastFlushed : Setup → ℕ → ℕ → Between
LastFlushed u handle zero old new = IsIdle 0 old new
LastFlushed u handle (suc n) old new = (suc n ≤ 2 ^ 62) × LogFlushLeft {T = Unit {0}} u 0 handle (suc n) (Ok tt) old new

-- A restart that is answered with a number was done, and its log flushed; one that was refused left nothing, or was done and
-- its log was not flushed.
abbrev pub RestartAnswered : Setup → ℕ → Answer → Between
RestartAnswered u handle (answer.Restarted updates) old new = (last : ℕ) × LastFlushed u handle last old new
RestartAnswered u handle (answer.Refused e) old new =
    IsIdle 0 old new ⊎ ((last : ℕ) × LogFlushLeft {T = Unit {0}} u 0 handle last (Err e) old new)
RestartAnswered u handle other old new = ⊥

-- The same of a restart that was done, which read this last LSN and found so many updates: it is answered with their number behind
-- the flush of its log up to that LSN, or with the refusal of that flush.
abbrev pub RestartEnded : Setup → ℕ → ℕ → ℕ → Answer → Between
RestartEnded u handle last updates (answer.Restarted n) old new = (n ≡ updates) × LastFlushed u handle last old new
RestartEnded u handle last updates (answer.Refused e) old new = LogFlushLeft {T = Unit {0}} u 0 handle last (Err e) old new
RestartEnded u handle last updates other old new = ⊥

-- the line of one restart
pub record Restarts (u : Setup) (handle : ℕ) (told : Answer) (old new : List Entry) : Type 0 where
  pub left : RestartAnswered u handle told old new
  pub room : HadNoRoom u 4 told old new

-- the lines of the restarts, each with its reply, left pieces that follow each other
abbrev pub RestartsInOrder : Setup → List RestartLine → List LineReply → Between
RestartsInOrder u [] [] old new = IsIdle 0 old new
RestartsInOrder u (restart ∷ restarts) (reply ∷ replies) old new =
    (between : List Entry) × Restarts u restart.handle reply.answer old between × RestartsInOrder u restarts replies between new
RestartsInOrder u restarts replies old new = ⊥

-- by what the restart of a log was refused
abbrev pub refusal_told : Answer → Option CcError
refusal_told (answer.Refused e) = Some e
refusal_told other = None

abbrev pub refused_restart : ℕ → List RestartLine → List LineReply → Option CcError
refused_restart handle (restart ∷ restarts) (reply ∷ replies) =
    if restart.handle == handle then refusal_told reply.answer else refused_restart handle restarts replies
refused_restart handle restarts replies = None

-- by what that of a stream's log was, where the stream has one
abbrev pub refused_for : Option ℕ → List RestartLine → List LineReply → Option CcError
refused_for None restarts replies = None
refused_for (Some handle) restarts replies = refused_restart handle restarts replies

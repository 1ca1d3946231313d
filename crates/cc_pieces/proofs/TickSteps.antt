-- The ticks of a phase: one more of them, and what others place behind the last one; of which streams their entries are, and
-- when no answer tells a fault.
use Rattle.std.specs.Prelude.{◌≡◌, ℕ, List, [], ◌∷◌, ◌++◌}
use Rattle.std.proofs.Common.{subst}
use Rattle.cc_entry.specs.declared.answer.LineReply.{LineReply}
use Rattle.cc_entry.specs.declared.entry.Entry.{Entry}
use Rattle.cc_model.specs.Setup.{Setup}
use Rattle.cc_effects.specs.Moments.{IsIdle}
use Rattle.cc_effects.proofs.Stretches.{idle-none, idle-then}
use Rattle.cc_pieces.specs.Answered.{TickAnswered}
use Rattle.cc_pieces.specs.Phases.{TicksRan, lazy_writer}
use Rattle.cc_pieces.specs.Rooms.{HadNoRoom}
use Rattle.cc_pieces.proofs.Faultless.{ShowsNone, TellNone, none-front, tick-none}
use Rattle.cc_pieces.proofs.LeftStreams.{HasHandles, IsLeft, left-idle, left-then, left-tick}
use Rattle.cc_pieces.proofs.LineSteps.{room-before, ticked-before}

-- one tick more
pub ticks-more : (u : Setup) (limit phase : ℕ) (replies : List LineReply) (reply : LineReply) (old between new : List Entry) → TicksRan u limit phase replies old between → reply.line ≡ phase → TickAnswered lazy_writer reply.answer between new → HadNoRoom u limit reply.answer between new → TicksRan u limit phase (replies ++ reply ∷ []) old new
ticks-more u limit phase [] reply old between new idle is left room = (
  new,
  is,
  ticked-before lazy_writer reply.answer old between new idle left,
  room-before u limit lazy_writer reply.answer old between new idle room,
  idle-none lazy_writer new,
)
ticks-more u limit phase (first ∷ replies) reply old between new ran is left room =
    (ran.0, ran.1, ran.2, ran.3, ticks-more u limit phase replies reply ran.0 between new ran.4 is left room)

-- others were there before the first
pub ticks-since : (u : Setup) (limit phase : ℕ) (replies : List LineReply) (older old new : List Entry) → IsIdle lazy_writer older old → TicksRan u limit phase replies old new → TicksRan u limit phase replies older new
ticks-since u limit phase [] older old new idle ran = idle-then lazy_writer older old new idle ran
ticks-since u limit phase (reply ∷ replies) older old new idle ran = (
  ran.0,
  ran.1,
  ticked-before lazy_writer reply.answer older old ran.0 idle ran.2,
  room-before u limit lazy_writer reply.answer older old ran.0 idle ran.3,
  ran.4,
)

-- others go on behind the last
pub ticks-idle : (u : Setup) (limit phase : ℕ) (replies : List LineReply) (old between new : List Entry) → TicksRan u limit phase replies old between → IsIdle lazy_writer between new → TicksRan u limit phase replies old new
ticks-idle u limit phase [] old between new ran idle = idle-then lazy_writer old between new ran idle
ticks-idle u limit phase (reply ∷ replies) old between new ran idle =
    (ran.0, ran.1, ran.2, ran.3, ticks-idle u limit phase replies ran.0 between new ran.4 idle)

-- what they placed is of the first streams
pub left-ticks : (u : Setup) (n : ℕ) (handles : HasHandles u) (limit phase : ℕ) (replies : List LineReply) (old new : List Entry) → TicksRan u limit phase replies old new → IsLeft u n lazy_writer old new
left-ticks u n handles limit phase [] old new ran = left-idle u n lazy_writer old new ran
left-ticks u n handles limit phase (reply ∷ replies) old new ran =
    left-then u n lazy_writer old ran.0 new (left-tick u n handles lazy_writer reply.answer old ran.0 ran.2)
    (left-ticks u n handles limit phase replies ran.0 new ran.4)

-- where the journal shows no failure, none tells one
pub ticks-none : (u : Setup) (n : ℕ) (handles : HasHandles u) (limit phase : ℕ) (replies : List LineReply) (old new : List Entry) → TicksRan u limit phase replies old new → ShowsNone new → TellNone replies
ticks-none u n handles limit phase [] old new ran none = tt
ticks-none u n handles limit phase (reply ∷ replies) old new ran none =
    let rest = left-ticks u n handles limit phase replies ran.0 new ran.4 in
    let front : ShowsNone ran.0 = none-front rest.during ran.0 (subst ShowsNone rest.grew none) in
    (tick-none lazy_writer reply.answer old ran.0 ran.2 front, ticks-none u n handles limit phase replies ran.0 new ran.4 none)

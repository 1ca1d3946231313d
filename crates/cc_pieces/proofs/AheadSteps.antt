-- The read-ahead steps of a phase: one more of them, and what others place before and behind; of which streams their entries are,
-- and when no answer tells a fault.
use Rattle.std.specs.Prelude.{◌≡◌, ℕ, List, [], ◌∷◌, ◌++◌, refl}
use Rattle.std.specs.declared.option.Option.TheVariants.{Some, None}
use Rattle.std.proofs.Common.{ap, subst}
use Rattle.cc_entry.specs.declared.answer.LineReply.{LineReply}
use Rattle.cc_entry.specs.declared.place.Request.{Request}
use Rattle.cc_entry.specs.declared.entry.Entry.{Entry}
use Rattle.cc_model.specs.Setup.{Setup}
use Rattle.cc_effects.specs.Moments.{IsIdle}
use Rattle.cc_effects.proofs.Stretches.{idle-none, idle-then}
use Rattle.cc_pieces.specs.Answered.{AheadAnswered}
use Rattle.cc_pieces.specs.Phases.{AheadsRan, read_ahead_worker}
use Rattle.cc_pieces.specs.Rooms.{HadNoRoom}
use Rattle.cc_pieces.proofs.Faultless.{ShowsNone, TellNone, none-front, step-none}
use Rattle.cc_pieces.proofs.LeftStreams.{HasHandles, IsLeft, left-ahead, left-idle, left-then}
use Rattle.cc_pieces.proofs.LineSteps.{room-before, stepped-before}

-- steps of which each took a request, and whatever others may follow
abbrev pub AllTook : Setup → ℕ → ℕ → List LineReply → List Request → List Entry → List Entry → Type 0
AllTook u limit phase [] taken old new = (taken ≡ []) × IsIdle read_ahead_worker old new
AllTook u limit phase (reply ∷ replies) taken old new =
    (between : List Entry)
    × (request : Request)
    × (others : List Request)
    × (taken ≡ request ∷ others)
    × (reply.line ≡ phase)
    × AheadAnswered u read_ahead_worker (Some request) reply.answer old between
    × HadNoRoom u limit reply.answer old between
    × AllTook u limit phase replies others between new

-- such steps are steps
pub took-ran : (u : Setup) (limit phase : ℕ) (replies : List LineReply) (taken : List Request) (old new : List Entry) → AllTook u limit phase replies taken old new → AheadsRan u limit phase replies taken old new
took-ran u limit phase [] taken old new took = took
took-ran u limit phase (reply ∷ replies) taken old new took =
    (took.0, Some took.1, took.2, took.3, took.4, took.5, took.6, (λ none. absurd (cc none)), took-ran u limit phase replies took.2 took.0 new took.7)

-- one more step that took one
pub took-more : (u : Setup) (limit phase : ℕ) (replies : List LineReply) (taken : List Request) (reply : LineReply) (request : Request) (old between new : List Entry) → AllTook u limit phase replies taken old between → reply.line ≡ phase → AheadAnswered u read_ahead_worker (Some request) reply.answer between new → HadNoRoom u limit reply.answer between new → AllTook u limit phase (replies ++ reply ∷ []) (taken ++ request ∷ []) old new
took-more u limit phase [] taken reply request old between new took is left room = (
  new,
  request,
  [],
  ap (λ l. l ++ request ∷ []) took.0,
  is,
  stepped-before u read_ahead_worker (Some request) reply.answer old between new took.1 left,
  room-before u limit read_ahead_worker reply.answer old between new took.1 room,
  (refl, idle-none read_ahead_worker new),
)
took-more u limit phase (first ∷ replies) taken reply request old between new took is left room = (
  took.0,
  took.1,
  took.2 ++ request ∷ [],
  ap (λ l. l ++ request ∷ []) took.3,
  took.4,
  took.5,
  took.6,
  took-more u limit phase replies took.2 reply request took.0 between new took.7 is left room,
)

-- the last one, which found none
pub none-more : (u : Setup) (limit phase : ℕ) (replies : List LineReply) (taken : List Request) (reply : LineReply) (old between new : List Entry) → AllTook u limit phase replies taken old between → reply.line ≡ phase → AheadAnswered u read_ahead_worker None reply.answer between new → HadNoRoom u limit reply.answer between new → AheadsRan u limit phase (replies ++ reply ∷ []) taken old new
none-more u limit phase [] taken reply old between new took is left room = (
  new,
  None,
  [],
  took.0,
  is,
  stepped-before u read_ahead_worker None reply.answer old between new took.1 left,
  room-before u limit read_ahead_worker reply.answer old between new took.1 room,
  (λ none. refl),
  (refl, idle-none read_ahead_worker new),
)
none-more u limit phase (first ∷ replies) taken reply old between new took is left room = (
  took.0,
  Some took.1,
  took.2,
  took.3,
  took.4,
  took.5,
  took.6,
  (λ none. absurd (cc none)),
  none-more u limit phase replies took.2 reply took.0 between new took.7 is left room,
)

-- others were there before the first
pub aheads-since : (u : Setup) (limit phase : ℕ) (replies : List LineReply) (taken : List Request) (older old new : List Entry) → IsIdle read_ahead_worker older old → AheadsRan u limit phase replies taken old new → AheadsRan u limit phase replies taken older new
aheads-since u limit phase [] taken older old new idle ran = (ran.0, idle-then read_ahead_worker older old new idle ran.1)
aheads-since u limit phase (reply ∷ replies) taken older old new idle ran = (
  ran.0,
  ran.1,
  ran.2,
  ran.3,
  ran.4,
  stepped-before u read_ahead_worker ran.1 reply.answer older old ran.0 idle ran.5,
  room-before u limit read_ahead_worker reply.answer older old ran.0 idle ran.6,
  ran.7,
  ran.8,
)

-- others go on behind the last
pub aheads-idle : (u : Setup) (limit phase : ℕ) (replies : List LineReply) (taken : List Request) (old between new : List Entry) → AheadsRan u limit phase replies taken old between → IsIdle read_ahead_worker between new → AheadsRan u limit phase replies taken old new
aheads-idle u limit phase [] taken old between new ran idle = (ran.0, idle-then read_ahead_worker old between new ran.1 idle)
aheads-idle u limit phase (reply ∷ replies) taken old between new ran idle =
    (ran.0, ran.1, ran.2, ran.3, ran.4, ran.5, ran.6, ran.7, aheads-idle u limit phase replies ran.2 ran.0 between new ran.8 idle)

-- what they placed is of the first streams
pub left-aheads : (u : Setup) (n : ℕ) (handles : HasHandles u) (limit phase : ℕ) (replies : List LineReply) (taken : List Request) (old new : List Entry) → AheadsRan u limit phase replies taken old new → IsLeft u n read_ahead_worker old new
left-aheads u n handles limit phase [] taken old new ran = left-idle u n read_ahead_worker old new ran.1
left-aheads u n handles limit phase (reply ∷ replies) taken old new ran =
    left-then u n read_ahead_worker old ran.0 new (left-ahead u n handles read_ahead_worker ran.1 reply.answer old ran.0 ran.5)
    (left-aheads u n handles limit phase replies ran.2 ran.0 new ran.8)

-- where no failure shows, no step tells one
pub aheads-none : (u : Setup) (n : ℕ) (handles : HasHandles u) (limit phase : ℕ) (replies : List LineReply) (taken : List Request) (old new : List Entry) → AheadsRan u limit phase replies taken old new → ShowsNone new → TellNone replies
aheads-none u n handles limit phase [] taken old new ran none = tt
aheads-none u n handles limit phase (reply ∷ replies) taken old new ran none =
    let rest = left-aheads u n handles limit phase replies ran.2 ran.0 new ran.8 in
    let front : ShowsNone ran.0 = none-front rest.during ran.0 (subst ShowsNone rest.grew none) in
    (step-none u read_ahead_worker ran.1 reply.answer old ran.0 ran.5 front, aheads-none u n handles limit phase replies ran.2 ran.0 new ran.8 none)

-- Answers of lines that post, of which some numbers go untold.
use Rattle.std.specs.Prelude.{◌≡◌, ℕ, nat_eq, ◌==◌, ◌⊎◌, Bool, List, [], ◌∷◌, drop, length, slice_get, slice_set, take}
use Rattle.std.specs.declared.option.Option.TheVariants.{Some}
use Rattle.std.specs.List.{IsDistinct, list_any}
use Rattle.cc_entry.specs.declared.answer.Answer.{Answer}
use Rattle.cc_entry.specs.declared.answer.Answer.TheVariants as answer
use Rattle.cc_entry.specs.declared.answer.LineReply.{LineReply}
use Rattle.cc_script.specs.declared.script.Action.{Action}
use Rattle.cc_script.specs.declared.script.Action.TheVariants as action
use Rattle.cc_script.specs.declared.script.ActionLine.{ActionLine}
use Rattle.cc_script.specs.declared.script.StreamLine.{StreamLine}
use Rattle.cc_pieces.specs.Explained.{posted_in}

-- whether a number is among those that are told
abbrev pub tells_it : ℕ → List ℕ → Bool
tells_it id ids = list_any (λ told. id == told) ids

-- an answer was put in place of another, which came back
pub record IsAnswerPut (at : ℕ) (answer told : Answer) (old new : List LineReply) : Type 0 where
  pub reply : LineReply
  pub there : slice_get old at ≡ Some reply
  pub told_is : told ≡ reply.answer
  pub left : new ≡ slice_set old at (record { line = reply.line; answer = answer })

-- some of these numbers, in their order
abbrev pub ArePart : List ℕ → List ℕ → Type 0
ArePart [] kept = kept ≡ []
ArePart (id ∷ ids) kept = ArePart ids kept ⊎ ((rest : List ℕ) × (kept ≡ id ∷ rest) × ArePart ids rest)

-- a line that posts tells some of the numbers that it told, and any other line tells the same
abbrev pub TellsPart : Action → Answer → Answer → Type 0
TellsPart action.Post (answer.Posts ids) (answer.Posts kept) = ArePart ids kept
TellsPart asked told kept = kept ≡ told

-- so does each of the lines
abbrev pub AllTellPart : List ActionLine → List LineReply → List LineReply → Type 0
AllTellPart [] [] [] = Unit {0}
AllTellPart (line ∷ lines) (reply ∷ replies) (kept ∷ more) =
    (kept.line ≡ reply.line) × TellsPart line.action reply.answer kept.answer × AllTellPart lines replies more
AllTellPart lines replies kept = ⊥

-- Behind the replies of the streams, each of the lines tells what it told, but a post that a later one tells too: no deferred
-- write is told posted in two, and each that was told is told still.
pub record AreToldOnce (streams : List StreamLine) (lines : List ActionLine) (told kept : List LineReply) : Type 0 where
  pub setup : take (length streams) kept ≡ take (length streams) told
  pub part : AllTellPart lines (drop (length streams) told) (drop (length streams) kept)
  pub once : IsDistinct nat_eq (posted_in lines (drop (length streams) kept))
  pub all : (id : ℕ) →
      tells_it id (posted_in lines (drop (length streams) told)) ≡ tells_it id (posted_in lines (drop (length streams) kept))

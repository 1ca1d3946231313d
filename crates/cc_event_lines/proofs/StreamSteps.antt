-- How the streams of a script are set up, one after the other.
use Rattle.std.specs.Prelude.{◌≡◌, ℕ, zero, suc, ◌+◌, ◌<◌, ◌≤◌, List, [], ◌∷◌, ◌++◌, drop, get_or, length, refl}
use Rattle.std.proofs.Common.{ap, append_assoc, arith, length-append, subst, sym, ◌∙◌}
use Rattle.std.proofs.Math.Seq.{drop-cons}
use Rattle.cc_entry.specs.declared.answer.Answer.{Answer}
use Rattle.cc_entry.specs.declared.answer.LineReply.{LineReply}
use Rattle.cc_entry.specs.declared.entry.Entry.{Entry}
use Rattle.cc_model.specs.Setup.{Setup}
use Rattle.cc_script.specs.declared.script.StreamLine.{StreamLine}
use Rattle.cc_pieces.specs.Steps.{StreamStepped, StreamsStepped}
use Rattle.cc_turns.specs.Desk.{Begun, Tells}
use Rattle.cc_world.specs.World.{WorldState}
use Rattle.cc_event_lines.specs.Lines.{StreamWent, StreamsWent}
use Rattle.cc_event_lines.specs.Routines.{IsQuiet}
use Rattle.cc_turns.specs.Slots.{setup_in}

pub quiet-then : (old between new : List Entry) → IsQuiet old between → IsQuiet between new → IsQuiet old new
quiet-then old between new first second = record {
  deferred_is = second.deferred_is ∙ first.deferred_is;
  posted_is = λ id. second.posted_is id ∙ first.posted_is id;
}

pub nothing-on : {A : Type 0} (xs : List A) → xs ++ [] ≡ xs
nothing-on [] = refl
nothing-on (x ∷ xs) = ap (λ ys. x ∷ ys) (nothing-on xs)

pub nothing-left : {A : Type 0} (n : ℕ) (xs : List A) → length xs ≤ n → drop n xs ≡ []
nothing-left zero [] within = refl
nothing-left (suc n) [] within = refl
nothing-left zero (x ∷ xs) within = absurd (omega arith)
nothing-left (suc n) (x ∷ xs) within = nothing-left n xs (omega arith)

-- The first so many streams were set up, and what the others leave goes on from there.
pub record StreamsSoFar {D L Q : Type 0} (tells : Tells D L Q) (streams : List StreamLine) (n : ℕ) (replied replies : List LineReply) (old new : WorldState D L Q) : Type 0 where
  pub answers : List LineReply
  pub replies_are : replies ≡ replied ++ answers
  pub counted : length answers ≡ n
  pub goes_on : (more : List LineReply) (end : List Entry) → StreamsStepped (setup_in tells old.begun) n (drop n streams) more new.journal.entries end → StreamsStepped (setup_in tells old.begun) 0 streams (answers ++ more) old.journal.entries end
  pub quiet : IsQuiet old.journal.entries new.journal.entries
  pub queue : new.journal.queue ≡ old.journal.queue
  pub begun : new.begun ≡ old.begun

pub none-yet : {D L Q : Type 0} (tells : Tells D L Q) (streams : List StreamLine) (replied : List LineReply) (w : WorldState D L Q) → StreamsSoFar tells streams 0 replied replied w w
none-yet tells streams replied w = record {
  answers = [];
  replies_are = sym (nothing-on replied);
  counted = refl;
  goes_on = λ more end stepped. stepped;
  quiet = record { deferred_is = refl; posted_is = λ id. refl };
  queue = refl;
  begun = refl;
}

module _ {D L Q : Type 0} (tells : Tells D L Q) (streams : List StreamLine) (n : ℕ) (replied replies now : List LineReply) (w v next : WorldState D L Q) (stream : StreamLine) (told : Answer) (within : n < length streams) (at : stream ≡ get_or streams n stream) (grown : now ≡ replies ++ record { line = stream.line; answer = told } ∷ []) (so_far : StreamsSoFar tells streams n replied replies w v) (went : StreamWent tells n stream told v next) where
  same-setup : setup_in tells v.begun ≡ setup_in tells w.begun
  same-setup = ap (λ (begun : Begun D L). setup_in tells begun) so_far.begun

  this-next : drop n streams ≡ stream ∷ drop (suc n) streams
  this-next = drop-cons streams n stream within ∙ ap (λ (s : StreamLine). s ∷ drop (suc n) streams) (sym at)

  step-on : (more : List LineReply) (end : List Entry) → StreamsStepped (setup_in tells w.begun) (suc n) (drop (suc n) streams) more next.journal.entries end → StreamsStepped (setup_in tells w.begun) 0 streams ((so_far.answers ++ record { line = stream.line; answer = told } ∷ []) ++ more) w.journal.entries end
  step-on more end stepped =
      let here : StreamStepped (setup_in tells w.begun) n stream stream.log told v.journal.entries next.journal.entries =
      subst (λ (u : Setup). StreamStepped u n stream stream.log told v.journal.entries next.journal.entries) same-setup went.stepped in
      subst (λ (rs : List LineReply). StreamsStepped (setup_in tells w.begun) 0 streams rs w.journal.entries end) (sym (append_assoc so_far.answers (record { line = stream.line; answer = told } ∷ []) more))
      (so_far.goes_on (record { line = stream.line; answer = told } ∷ more) end
      (subst (λ (left : List StreamLine). StreamsStepped (setup_in tells w.begun) n left (record { line = stream.line; answer = told } ∷ more) v.journal.entries end) (sym this-next)
      (next.journal.entries, refl, here, stepped)))

  pub one-further : StreamsSoFar tells streams (n + 1) replied now w next
  one-further = record {
    answers = so_far.answers ++ record { line = stream.line; answer = told } ∷ [];
    replies_are = grown ∙ (ap (λ (rs : List LineReply). rs ++ record { line = stream.line; answer = told } ∷ []) so_far.replies_are ∙ append_assoc replied so_far.answers (record { line = stream.line; answer = told } ∷ []));
    counted = omega (arith, length-append so_far.answers (record { line = stream.line; answer = told } ∷ []), so_far.counted);
    goes_on = λ more end stepped. step-on more end (subst (λ (m : ℕ). StreamsStepped (setup_in tells w.begun) m (drop m streams) more next.journal.entries end) (one-on n) stepped);
    quiet = quiet-then w.journal.entries v.journal.entries next.journal.entries so_far.quiet went.quiet;
    queue = went.queue ∙ so_far.queue;
    begun = went.begun ∙ so_far.begun;
  }
    where
      one-on : (n : ℕ) → n + 1 ≡ suc n
      one-on n = omega arith

-- All were set up.
pub streams-went : {D L Q : Type 0} (tells : Tells D L Q) (streams : List StreamLine) (n : ℕ) (replied replies : List LineReply) (w v : WorldState D L Q) → length streams ≤ n → n ≤ length streams → StreamsSoFar tells streams n replied replies w v → StreamsWent tells 0 streams replied replies w v
streams-went tells streams n replied replies w v all most so_far = record {
  answers = so_far.answers;
  replies_are = so_far.replies_are;
  counted = omega (arith, so_far.counted);
  stepped = subst (λ (rs : List LineReply). StreamsStepped (setup_in tells w.begun) 0 streams rs w.journal.entries v.journal.entries) (nothing-on so_far.answers)
      (so_far.goes_on [] v.journal.entries
      (subst (λ (left : List StreamLine). StreamsStepped (setup_in tells w.begun) n left [] v.journal.entries v.journal.entries) (sym (nothing-left n streams all)) refl));
  quiet = so_far.quiet;
  queue = so_far.queue;
  begun = so_far.begun;
}

-- The place of a pass at the queue of copied reads, line by line: what one line does there, several lines after one another, and
-- what follows for a whole run.
use Rattle.std.specs.Prelude.{◌≡◌, ℕ, suc, ◌+◌, ◌-◌, ◌^◌, ◌≤◌, Bool, false, List, [], ◌∷◌, ◌++◌, length, cond, refl}
use Rattle.std.specs.declared.option.Option.TheVariants.{Some, None}
use Rattle.std.specs.List.{count_by}
use Rattle.std.proofs.Common.{sym, ap, subst, arith, ◌∙◌, append_assoc}
use Rattle.std.proofs.lemmas.List.{append-nil, length-append}
use Rattle.std.proofs.lemmas.List.Sums.{count_by-le-length, sum_by-append}
use Rattle.cc_entry.specs.Place.{File}
use Rattle.cc_entry.specs.declared.answer.Answer.{Answer}
use Rattle.cc_entry.specs.declared.answer.Answer.TheVariants as answer
use Rattle.cc_entry.specs.declared.answer.AsyncStart.TheVariants as start
use Rattle.cc_entry.specs.declared.error.CcError.TheVariants as error
use Rattle.cc_script.specs.declared.script.Action.{Action}
use Rattle.cc_script.specs.declared.script.Action.TheVariants as action
use Rattle.cc_pieces.specs.AsyncQueue.{ReadsAreNumbered, AsyncPlace, AsyncRan, CompletionPlaced, HasQueued, Numbered, ReadPlaced, finds_empty, finds_full, is_async, reads_done, reads_queued, with_done, with_queued}
use Rattle.cc_pieces.specs.Explained.{Answered, GivenToRun}
use Rattle.cc_pieces.specs.Queue.{lines_told, risen_by}
use Rattle.cc_pieces.proofs.PlaceSteps.{risen-exact, risen-sum}

-- ---- one line

-- a line that is none of the queue leaves the place as it was
other-queues : (asked : Action) (told : Answer) (reads : List Numbered) → is_async asked ≡ false → with_queued asked told reads ≡ reads
other-queues (action.AsyncRead file at len) told reads plain = absurd (cc plain)
other-queues asked told reads plain = refl

other-completes : (asked : Action) (told : Answer) (reads : List Numbered) → is_async asked ≡ false → with_done asked told reads ≡ reads
other-completes action.Complete told reads plain = absurd (cc plain)
other-completes asked told reads plain = refl

other-empties : (asked : Action) (told : Answer) → is_async asked ≡ false → finds_empty (asked, told) ≡ false
other-empties action.Complete told plain = absurd (cc plain)
other-empties asked told plain = refl

other-fulls : (asked : Action) (told : Answer) → is_async asked ≡ false → finds_full (asked, told) ≡ false
other-fulls (action.AsyncRead file at len) told plain = absurd (cc plain)
other-fulls asked told plain = refl

numbers-none : (me n : ℕ) (reads : List Numbered) → reads ≡ [] → ReadsAreNumbered me n reads
numbers-none me n reads none = rw none tt

pub async-other : (me : ℕ) (asked : Action) (told : Answer) (place : AsyncPlace) → is_async asked ≡ false → AsyncRan me ((asked, told) ∷ []) place place
async-other me asked told place plain = record {
  numbered = numbers-none me (length place.queued) (with_queued asked told []) (other-queues asked told [] plain);
  queued = sym (append-nil place.queued) ∙ ap (λ l. place.queued ++ l) (sym (other-queues asked told [] plain));
  done = sym (append-nil place.done) ∙ ap (λ l. place.done ++ l) (sym (other-completes asked told [] plain));
  empties = rw (other-empties asked told plain) refl;
  fulls = rw (other-fulls asked told plain) refl;
}

-- no line
pub async-none : (me : ℕ) (place : AsyncPlace) → AsyncRan me [] place place
async-none me place = record { numbered = tt; queued = sym (append-nil place.queued); done = sym (append-nil place.done); empties = refl; fulls = refl }

-- a line that does nothing at its place, though it could
same-place : (me : ℕ) (asked : Action) (told : Answer) (before after : AsyncPlace) → after ≡ before → with_queued asked told [] ≡ [] → with_done asked told [] ≡ [] → finds_empty (asked, told) ≡ false → finds_full (asked, told) ≡ false → AsyncRan me ((asked, told) ∷ []) before after
same-place me asked told before after same none_queued none_done no_empty no_full = record {
  numbered = numbers-none me (length before.queued) (with_queued asked told []) none_queued;
  queued = ap (λ p. p.queued) same ∙ (sym (append-nil before.queued) ∙ ap (λ l. before.queued ++ l) (sym none_queued));
  done = ap (λ p. p.done) same ∙ (sym (append-nil before.done) ∙ ap (λ l. before.done ++ l) (sym none_done));
  empties = rw no_empty (ap (λ p. p.empties) same);
  fulls = rw no_full (ap (λ p. p.fulls) same);
}

-- a read that may be queued
pub async-read : (me : ℕ) (file : File) (at len : ℕ) (told : Answer) (before after : AsyncPlace) → ReadPlaced me file at len told before after → AsyncRan me ((action.AsyncRead file at len, told) ∷ []) before after
async-read me file at len (answer.Started (start.Queued id)) before after placed = record {
  queued = ap (λ p. p.queued) placed.1;
  numbered = (placed.0, tt);
  done = ap (λ p. p.done) placed.1 ∙ sym (append-nil before.done);
  empties = ap (λ p. p.empties) placed.1;
  fulls = ap (λ p. p.fulls) placed.1;
}
async-read me file at len (answer.Started (start.Ready bytes)) before after placed = same-place me (action.AsyncRead file at len) (answer.Started (start.Ready bytes)) before after placed refl refl refl refl
async-read me file at len (answer.Refused error.QueueFull) before after placed = record {
  queued = ap (λ p. p.queued) placed ∙ sym (append-nil before.queued);
  numbered = tt;
  done = ap (λ p. p.done) placed ∙ sym (append-nil before.done);
  empties = ap (λ p. p.empties) placed;
  fulls = ap (λ p. p.fulls) placed;
}
async-read me file at len (answer.Refused e) before after placed = same-place me (action.AsyncRead file at len) (answer.Refused e) before after placed refl refl refl refl
async-read me file at len other before after placed = same-place me (action.AsyncRead file at len) other before after placed refl refl refl refl

-- the completion of one
pub async-completed : (me : ℕ) (told : Answer) (before after : AsyncPlace) → CompletionPlaced told before after → AsyncRan me ((action.Complete, told) ∷ []) before after
async-completed me (answer.Completed (Some done)) before after placed = record {
  queued = ap (λ p. p.queued) placed ∙ sym (append-nil before.queued);
  numbered = tt;
  done = ap (λ p. p.done) placed;
  empties = ap (λ p. p.empties) placed;
  fulls = ap (λ p. p.fulls) placed;
}
async-completed me (answer.Completed None) before after placed = record {
  queued = ap (λ p. p.queued) placed ∙ sym (append-nil before.queued);
  numbered = tt;
  done = ap (λ p. p.done) placed ∙ sym (append-nil before.done);
  empties = ap (λ p. p.empties) placed;
  fulls = ap (λ p. p.fulls) placed;
}
async-completed me other before after placed = same-place me action.Complete other before after placed refl refl refl refl

-- ---- lines after lines

queued-more : (asked : Action) (told : Answer) (reads : List Numbered) → with_queued asked told reads ≡ with_queued asked told [] ++ reads
queued-more (action.AsyncRead file at len) (answer.Started (start.Queued id)) reads = refl
queued-more (action.AsyncRead file at len) told reads = refl
queued-more asked told reads = refl

done-more : (asked : Action) (told : Answer) (reads : List Numbered) → with_done asked told reads ≡ with_done asked told [] ++ reads
done-more action.Complete (answer.Completed (Some done)) reads = refl
done-more action.Complete told reads = refl
done-more asked told reads = refl

queued-append : (first rest : List (Action × Answer)) → reads_queued (first ++ rest) ≡ reads_queued first ++ reads_queued rest
queued-append [] rest = refl
queued-append (line ∷ first) rest =
    ap (with_queued line.0 line.1) (queued-append first rest)
    ∙ (queued-more line.0 line.1 (reads_queued first ++ reads_queued rest)
    ∙ (sym (append_assoc (with_queued line.0 line.1 []) (reads_queued first) (reads_queued rest))
    ∙ ap (λ l. l ++ reads_queued rest) (sym (queued-more line.0 line.1 (reads_queued first)))))

done-append : (first rest : List (Action × Answer)) → reads_done (first ++ rest) ≡ reads_done first ++ reads_done rest
done-append [] rest = refl
done-append (line ∷ first) rest =
    ap (with_done line.0 line.1) (done-append first rest)
    ∙ (done-more line.0 line.1 (reads_done first ++ reads_done rest)
    ∙ (sym (append_assoc (with_done line.0 line.1 []) (reads_done first) (reads_done rest))
    ∙ ap (λ l. l ++ reads_done rest) (sym (done-more line.0 line.1 (reads_done first)))))

counted-lines : (test : Action × Answer → Bool) (first rest : List (Action × Answer)) → count_by test (first ++ rest) ≡ count_by test first + count_by test rest
counted-lines test first rest = sum_by-append (λ line. cond (test line) 1 0) first rest

numbered-append : (me n m : ℕ) (xs ys : List Numbered) → m ≡ n + length xs → ReadsAreNumbered me n xs → ReadsAreNumbered me m ys → ReadsAreNumbered me n (xs ++ ys)
numbered-append me n m [] ys next one two = let same : m ≡ n = omega (arith, next) in rw same at two
numbered-append me n m (x ∷ xs) ys next one two = (one.0, numbered-append me (suc n) m xs ys (omega (arith, next)) one.1 two)

pub async-then : (me : ℕ) (first rest : List (Action × Answer)) (before mid after : AsyncPlace) → AsyncRan me first before mid → AsyncRan me rest mid after → AsyncRan me (first ++ rest) before after
async-then me first rest before mid after one two = record {
  queued =
      two.queued
      ∙ (ap (λ l. l ++ reads_queued rest) one.queued
      ∙ (append_assoc before.queued (reads_queued first) (reads_queued rest) ∙ ap (λ l. before.queued ++ l) (sym (queued-append first rest))));
  numbered =
      rw (queued-append first rest)
      (numbered-append me (length before.queued) (length mid.queued) (reads_queued first) (reads_queued rest)
      (ap length one.queued ∙ length-append before.queued (reads_queued first)) one.numbered two.numbered);
  done =
      two.done
      ∙ (ap (λ l. l ++ reads_done rest) one.done
      ∙ (append_assoc before.done (reads_done first) (reads_done rest) ∙ ap (λ l. before.done ++ l) (sym (done-append first rest))));
  empties =
      rw (counted-lines finds_empty first rest)
      (risen-sum before.empties mid.empties after.empties (count_by finds_empty first) (count_by finds_empty rest) one.empties two.empties);
  fulls =
      rw (counted-lines finds_full first rest)
      (risen-sum before.fulls mid.fulls after.fulls (count_by finds_full first) (count_by finds_full rest) one.fulls two.fulls);
}

-- ---- a whole run

-- a place at which nothing was done
abbrev pub untouched : AsyncPlace
untouched = record { queued = []; done = []; empties = 0; fulls = 0 }

-- so a caller has at the queue what its answers say
pub has-queued : (given : GivenToRun) (told : Answered) (me : ℕ) (place : AsyncPlace) → AsyncRan me (lines_told given told me) untouched place → length (lines_told given told me) ≤ 2 ^ 64 - 1 → HasQueued given told me place
has-queued given told me place ran few = record {
  queued = ran.queued;
  numbered = subst (ReadsAreNumbered me 0) (sym ran.queued) ran.numbered;
  done = ran.done;
  empties = exact (count_by finds_empty (lines_told given told me)) place.empties (count_by-le-length finds_empty (lines_told given told me)) ran.empties;
  fulls = exact (count_by finds_full (lines_told given told me)) place.fulls (count_by-le-length finds_full (lines_told given told me)) ran.fulls;
}
  where
    exact : (times count : ℕ) → times ≤ length (lines_told given told me) → count ≡ risen_by 0 times → times ≤ count
    exact times count least is = let same = risen-exact times (omega (arith, few, least)) in omega (arith, is, same)

-- The lines of queued copied reads: where one is told of a full journal it found it so, what it leaves explains it, in the journal and
-- at the queue, and the words stand on.
use Rattle.std.specs.Prelude.{◌≡◌, ℕ, suc, true, false, Result, Ok, Err, List, [], ◌∷◌, refl}
use Rattle.std.specs.declared.option.Option.{Option}
use Rattle.std.specs.declared.option.Option.TheVariants.{Some, None}
use Rattle.std.proofs.Common.{ap, arith, inl, subst, sym, ◌∙◌}
use Rattle.std.proofs.lemmas.List.{length-map, map-append}
use Rattle.cc_entry.specs.Place.{File}
use Rattle.cc_entry.specs.declared.answer.Answer.{Answer}
use Rattle.cc_entry.specs.declared.answer.Answer.TheVariants as answer
use Rattle.cc_entry.specs.declared.answer.AsyncDone.{AsyncDone}
use Rattle.cc_entry.specs.declared.answer.AsyncStart.{AsyncStart}
use Rattle.cc_entry.specs.declared.answer.AsyncStart.TheVariants as start
use Rattle.cc_entry.specs.declared.call.Call.TheVariants as call
use Rattle.cc_entry.specs.declared.entry.Entry.{Entry}
use Rattle.cc_entry.specs.declared.error.CcError.{CcError}
use Rattle.cc_entry.specs.declared.error.CcError.TheVariants as error
use Rattle.cc_entry.specs.declared.reply.Outcome.TheVariants as outcome
use Rattle.cc_entry.specs.declared.reply.Reply.TheVariants as reply
use Rattle.cc_script.specs.HoldWords.{bound_after}
use Rattle.cc_script.specs.declared.bound.Bound.{Bound}
use Rattle.cc_script.specs.declared.script.Action.{Action}
use Rattle.cc_script.specs.declared.script.Action.TheVariants as action
use Rattle.cc_async.specs.Reads.{CompletionLeft, AsyncReadLeft, StartLeft, StartedAt, bytes_outcome, taken_of}
use Rattle.cc_async.specs.declared.queue.QueuedRead.{QueuedRead}
use Rattle.cc_model.specs.Good.{IsGood}
use Rattle.cc_model.specs.Setup.{Setup}
use Rattle.cc_effects.proofs.Stretches.{idle-none}
use Rattle.cc_own.specs.Own.{IsUnchanged}
use Rattle.cc_own.proofs.Unchanged.{unchanged-call, unchanged-idle}
use Rattle.cc_pieces.specs.Answered.{CompletionAnswered, StartAnswered}
use Rattle.cc_pieces.specs.AsyncQueue.{AsyncRan, CompletionPlaced, ReadPlaced}
use Rattle.cc_pieces.specs.Bindings.{Binding}
use Rattle.cc_pieces.specs.Queue.{is_queue_action}
use Rattle.cc_pieces.specs.Served.{Served, bindings_after}
use Rattle.cc_pieces.proofs.AsyncPlaces.{async-completed, async-read}
use Rattle.cc_pieces.proofs.PlaceSteps.{place-other}
use Rattle.cc_queue.specs.Places.{PlaceState, PopLeft}
use Rattle.cc_calls.specs.Pages.{IsFullFor, WentOn}
use Rattle.cc_calls.proofs.Paging.{full-within}
use Rattle.cc_turns.specs.Standing.{Standing}
use Rattle.cc_lines.specs.Holds.{NamesState}
use Rattle.cc_lines.specs.Line.{AnyServed, IsFullIn, IsFullTold, NamesStandFor, start_told}
use Rattle.cc_lines.specs.Queues.{PlaceWent, copies_of, hand_of, numbered_of}
use Rattle.cc_lines.proofs.WordLines.{full-told, stand-on}

-- ---- a read that may be queued

pub start-answered : (u : Setup) (me : ℕ) (file : File) (at len : ℕ) (ended : Result AsyncStart CcError) (old new : List Entry) → StartLeft u me file at len ended old new → StartAnswered u me file at len (start_told ended) old new
start-answered u me file at len (Ok (start.Ready bytes)) old new left = left
start-answered u me file at len (Ok (start.Queued id)) old new left = left
start-answered u me file at len (Err error.QueueFull) old new left = left
start-answered u me file at len (Err (error.NotResident page)) old new left = absurd left
start-answered u me file at len (Err e) old new left = left

pub start-full : (file : File) (at len : ℕ) (old new : Standing) (ended : Result AsyncStart CcError) → IsFullFor (call.CopyRead file at len false) old new ended → IsFullTold new (start_told ended)
start-full file at len old new (Ok start) full = tt
start-full file at len old new (Err e) full = full-told 2 new e (omega arith) (full-within {A = AsyncStart} (call.CopyRead file at len false) old new (Err e) full)

pub start-placed : (me : ℕ) (file : File) (at len : ℕ) (ended : Result AsyncStart CcError) (was now : PlaceState QueuedRead) → StartedAt me file at len ended was now → ReadPlaced me file at len (start_told ended) (copies_of was) (copies_of now)
start-placed me file at len (Ok (start.Ready bytes)) was now placed = ap copies_of placed
start-placed me file at len (Ok (start.Queued id)) was now placed = (
  placed.0 ∙ ap (λ n. record { pass = me; n = suc n }) (sym (length-map was.pushed numbered_of)),
  ap copies_of placed.1
      ∙ ap (λ l. record (copies_of was) { queued = l }) (map-append numbered_of was.pushed (record { id = id; file = file; at = at; len = len } ∷ [])),
)
start-placed me file at len (Err error.QueueFull) was now placed = ap copies_of placed.0
start-placed me file at len (Err e) was now placed = ap copies_of placed

pub start-queue : (me : ℕ) (file : File) (at len : ℕ) (ended : Result AsyncStart CcError) (was now : PlaceState QueuedRead) → StartedAt me file at len ended was now → now.queue ≡ was.queue
start-queue me file at len (Ok (start.Ready bytes)) was now placed = ap (λ p. p.queue) placed
start-queue me file at len (Ok (start.Queued id)) was now placed = ap (λ p. p.queue) placed.1
start-queue me file at len (Err error.QueueFull) was now placed = ap (λ p. p.queue) placed.0
start-queue me file at len (Err e) was now placed = ap (λ p. p.queue) placed

-- ---- the completion of one

completed-left : (old new : Standing) (done : AsyncDone) (ended : Result (List ℕ) CcError) → AsyncReadLeft old new done.file done.at done.len true ended → done.answer ≡ ended → CompletionAnswered old.setup old.number (answer.Completed (Some done)) old.seen new.seen
completed-left old new done (Ok bytes) left is = rw is left.pages.left
completed-left old new done (Err e) left is = rw is left.pages.left

pub completed-answered : (old new : Standing) (done : Option AsyncDone) → CompletionLeft old new done → CompletionAnswered old.setup old.number (answer.Completed done) old.seen new.seen
completed-answered old new None left = rw left (idle-none old.number old.seen)
completed-answered old new (Some done) left = completed-left old new done done.answer left refl

completed-in : (file : File) (at len : ℕ) (old new : Standing) (ended : Result (List ℕ) CcError) → IsFullFor (call.CopyRead file at len true) old new ended → IsFullIn new ended
completed-in file at len old new (Ok bytes) full = tt
completed-in file at len old new (Err e) full = full-told 2 new e (omega arith) (full-within {A = List ℕ} (call.CopyRead file at len true) old new (Err e) full)

pub completed-full : (old new : Standing) (done : Option AsyncDone) → CompletionLeft old new done → IsFullTold new (answer.Completed done)
completed-full old new None left = tt
completed-full old new (Some done) left = completed-in done.file done.at done.len old new done.answer left.full

pub completed-placed : (done : Option AsyncDone) (was now : PlaceState QueuedRead) → PopLeft (taken_of done) was now → CompletionPlaced (answer.Completed done) (copies_of was) (copies_of now)
completed-placed None was now popped = ap copies_of popped.0
completed-placed (Some done) was now popped =
    ap copies_of popped
    ∙ ap (λ l. record (copies_of was) { done = l }) (map-append numbered_of was.taken (record { id = done.id; file = done.file; at = done.at; len = done.len } ∷ []))

pub completed-queue : (done : Option AsyncDone) (was now : PlaceState QueuedRead) → PopLeft (taken_of done) was now → now.queue ≡ was.queue
completed-queue None was now popped = ap (λ p. p.queue) popped.0
completed-queue (Some done) was now popped = ap (λ p. p.queue) popped

-- ---- the lines

started-unchanged : (u : Setup) (me id : ℕ) (file : File) (at len : ℕ) (told : Answer) (old new : List Entry) → StartAnswered u me file at len told old new → IsUnchanged me id old new
started-unchanged u me id file at len (answer.Started (start.Ready bytes)) old new left = unchanged-call u me id (call.CopyRead file at len false) (outcome.Done (reply.Read bytes)) old new left refl
started-unchanged u me id file at len (answer.Started (start.Queued n)) old new left = unchanged-call u me id (call.CopyRead file at len false) (outcome.Failed (error.NotResident left.0)) old new left.1 refl
started-unchanged u me id file at len (answer.Refused error.QueueFull) old new left = unchanged-call u me id (call.CopyRead file at len false) (outcome.Failed (error.NotResident left.0)) old new left.1 refl
started-unchanged u me id file at len (answer.Refused (error.NotResident page)) old new left = absurd left
started-unchanged u me id file at len (answer.Refused e) old new left = unchanged-call u me id (call.CopyRead file at len false) (outcome.Failed e) old new left refl
started-unchanged u me id file at len other old new left = absurd left

completed-unchanged : (u : Setup) (me id : ℕ) (told : Answer) (old new : List Entry) → CompletionAnswered u me told old new → IsUnchanged me id old new
completed-unchanged u me id (answer.Completed None) old new left = unchanged-idle me id old new left
completed-unchanged u me id (answer.Completed (Some done)) old new left = unchanged-call u me id (call.CopyRead done.file done.at done.len true) (bytes_outcome done.answer) old new left refl
completed-unchanged u me id other old new left = absurd left

module _ (old new : Standing) (told : Answer) (was now : NamesState) (full : IsFullTold new told) (went : WentOn old new) (good : IsGood old.setup new.seen) (rest : now ≡ record was { places = record was.places { copies = now.places.copies } }) where
  -- a line that left this explains its answer, keeps the holds of its pass, and did this at the queue
  copies-line : (asked : Action) → is_queue_action asked ≡ false → ((bindings : List Binding) → Served old.setup old.number bindings asked told old.seen new.seen) → ((bounds : List Bound) → bound_after asked bounds ≡ bounds) → ((bindings : List Binding) → bindings_after asked told bindings ≡ bindings) → ((id : ℕ) → IsUnchanged old.number id old.seen new.seen) → AsyncRan old.number ((asked, told) ∷ []) (copies_of was.places.copies) (copies_of now.places.copies) → now.places.copies.queue ≡ was.places.copies.queue → AnyServed old new asked told was now
  copies-line asked plain left bound binding keeps ran queue = record {
    served = λ bounds bindings stand right. (
      left bindings,
      rw (bound bounds, binding bindings)
          (subst (λ (n : NamesState). NamesStandFor new bounds bindings n) (sym rest) (stand-on old new went good bounds bindings was keeps stand)),
    );
    full = inl full;
    goes_on = went;
    good = good;
    room = ap (λ n. n.room) rest;
    placed = record {
      ahead =
          subst (λ p. PlaceWent old.number ((asked, told) ∷ []) was.places.ahead p old.seen new.seen) (sym (ap (λ n. n.places.ahead) rest))
          (record {
            ran = place-other old.setup old.number [] asked told (hand_of was.places.ahead) old.seen new.seen plain (left []);
            queue_is = refl;
          });
      copies = record { ran = ran; queue_is = queue };
    };
  }

  pub start-line : (file : File) (at len : ℕ) → StartAnswered old.setup old.number file at len told old.seen new.seen → ReadPlaced old.number file at len told (copies_of was.places.copies) (copies_of now.places.copies) → now.places.copies.queue ≡ was.places.copies.queue → AnyServed old new (action.AsyncRead file at len) told was now
  start-line file at len left placed queue =
      copies-line (action.AsyncRead file at len) refl (λ bindings. left) (λ bounds. refl) (λ bindings. refl)
      (λ id. started-unchanged old.setup old.number id file at len told old.seen new.seen left)
      (async-read old.number file at len told (copies_of was.places.copies) (copies_of now.places.copies) placed) queue

  pub complete-line : CompletionAnswered old.setup old.number told old.seen new.seen → CompletionPlaced told (copies_of was.places.copies) (copies_of now.places.copies) → now.places.copies.queue ≡ was.places.copies.queue → AnyServed old new action.Complete told was now
  complete-line left placed queue =
      copies-line action.Complete refl (λ bindings. left) (λ bounds. refl) (λ bindings. refl)
      (λ id. completed-unchanged old.setup old.number id told old.seen new.seen left)
      (async-completed old.number told (copies_of was.places.copies) (copies_of now.places.copies) placed) queue

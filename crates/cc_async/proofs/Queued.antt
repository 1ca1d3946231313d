-- What a read that may be queued leaves, by what the read at once left; and a step, by what the read left that it took.
use Rattle.std.specs.Prelude.{◌≡◌, ℕ, suc, Bool, true, false, List, length, Option, Some, None, Result, Ok, Err, refl, ◌⊎◌}
use Rattle.std.proofs.Common.{ap, sym, ◌∙◌, subst, inl, inr}
use Rattle.cc_entry.specs.Place.{File}
use Rattle.cc_entry.specs.declared.answer.AsyncDone.{AsyncDone}
use Rattle.cc_entry.specs.declared.answer.AsyncId.{AsyncId}
use Rattle.cc_entry.specs.declared.answer.AsyncStart.{AsyncStart}
use Rattle.cc_entry.specs.declared.answer.AsyncStart.TheVariants as start
use Rattle.cc_entry.specs.declared.call.Call.TheVariants as call
use Rattle.cc_entry.specs.declared.entry.Entry.{Entry}
use Rattle.cc_entry.specs.declared.error.CcError.{CcError}
use Rattle.cc_entry.specs.declared.error.CcError.TheVariants as error
use Rattle.cc_effects.specs.Calls.{IsOvertaken, IsRefused}
use Rattle.cc_queue.specs.Places.{PlaceState, PushLeft, PopLeft}
use Rattle.cc_turns.specs.Standing.{Standing}
use Rattle.cc_writes.specs.Hands.{Went}
use Rattle.cc_async.specs.declared.queue.QueuedRead.{QueuedRead}
use Rattle.cc_async.specs.Reads.{CompletionEnds, ReadIsQueued, AsyncReadLeft, StartEnds, completed_read, taken_of}
use Rattle.cc_async.proofs.Kept.{kept-none}

-- a read that may not wait is never answered that the queue is full
never-full : (me : ℕ) (file : File) (at len : ℕ) (old new : List Entry) (u : _) → IsRefused me (call.CopyRead file at len false) error.QueueFull old new ⊎ IsOvertaken u me (call.CopyRead file at len false) error.QueueFull old new → ⊥
never-full me file at len old new u (inl is) = absurd (cc (is.listed))
never-full me file at len old new u (inr is) = absurd (cc (is.listed))

module _ (w v : Standing) (file : File) (at len : ℕ) (was : PlaceState QueuedRead) where
  -- it took no turn of a disk
  went-at-once : (answer : Result (List ℕ) CcError) → AsyncReadLeft w v file at len false answer → Went w v
  went-at-once answer left = record {
    same = left.pages.goes_on.same ∙ ap (λ (n : ℕ). record w { seen = v.seen; others = v.others; device_turns = n }) (left.no_wait refl);
  }

  -- its bytes are ready
  pub starts-ready : (bytes : List ℕ) → AsyncReadLeft w v file at len false (Ok bytes) → StartEnds w v file at len was was (Ok (start.Ready bytes))
  starts-ready bytes left = record {
    left = left.pages.left;
    started = refl;
    plain = left.plain;
    full = inl (tt, inl tt);
    goes_on = went-at-once (Ok bytes) left;
    good = left.pages.good;
  }

  -- a page was not resident, and it was queued, or found no place
  pub starts-queued : (id : AsyncId) (now : PlaceState QueuedRead) (answer : Result AsyncStart CcError) → id ≡ record { pass = w.number; n = suc (length was.pushed) } → (page : ℕ) → AsyncReadLeft w v file at len false (Err (error.NotResident page)) → ReadIsQueued id file at len answer was now → StartEnds w v file at len was now answer
  starts-queued id now (Ok (start.Queued told)) is page left queued = record {
    left = (page, left.pages.left);
    started = (
      queued.0 ∙ is,
      subst (λ (x : AsyncId). PushLeft (record { id = x; file = file; at = at; len = len }) true was now) (sym queued.0) queued.1,
    );
    plain = λ good. tt;
    full = inl (tt, inl tt);
    goes_on = went-at-once (Err (error.NotResident page)) left;
    good = left.pages.good;
  }
  starts-queued id now (Ok (start.Ready bytes)) is page left queued = absurd queued
  starts-queued id now (Err error.QueueFull) is page left queued = record {
    left = (page, left.pages.left);
    started = queued;
    plain = λ good. tt;
    full = inl (tt, inl tt);
    goes_on = went-at-once (Err (error.NotResident page)) left;
    good = left.pages.good;
  }
  starts-queued id now (Err e) is page left queued = absurd queued

  -- it was refused for another reason
  pub starts-refused : (e : CcError) → ((page : ℕ) → e ≡ error.NotResident page → ⊥) → AsyncReadLeft w v file at len false (Err e) → StartEnds w v file at len was was (Err e)
  starts-refused (error.NotResident page) other left = absurd (other page refl)
  starts-refused error.QueueFull other left = absurd (never-full w.number file at len w.seen v.seen w.setup left.pages.left)
  starts-refused e other left = record {
    left = left.pages.left;
    started = refl;
    plain = λ good. tt;
    full = left.full;
    goes_on = went-at-once (Err e) left;
    good = left.pages.good;
  }

-- all numbers were given
pub starts-none : (w : Standing) (file : File) (at len : ℕ) (was : PlaceState QueuedRead) → StartEnds w w file at len was was (Err error.NoMemory)
starts-none w file at len was = starts-refused w w file at len was error.NoMemory (λ page is. absurd (cc (is))) (kept-none w file at len false)

-- a step completed what it took
pub completes : (w v : Standing) (was now : PlaceState QueuedRead) (done : AsyncDone) → PopLeft (Some (completed_read done)) was now → AsyncReadLeft w v done.file done.at done.len true done.answer → CompletionEnds w v was now (Some done)
completes w v was now done popped left = record { taken = popped; left = left; goes_on = left.pages.goes_on; good = left.pages.good }

-- it took nothing
pub completes-none : (w : Standing) (was now : PlaceState QueuedRead) → PopLeft None was now → CompletionEnds w w was now None
completes-none w was now popped = record { taken = popped; left = refl; goes_on = record { same = refl }; good = λ was_good. was_good }

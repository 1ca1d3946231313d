-- A call that found no room for so many places had none for more.
use Rattle.std.specs.Prelude.{◌≡◌, ℕ, ◌+◌, ◌<◌, ◌≤◌, ◌⊎◌, true, false, Result, Ok, Err, List, length, Some}
use Rattle.std.proofs.Common.{arith, inl, inr, sym, true≢false}
use Rattle.cc_entry.specs.declared.call.Call.{Call}
use Rattle.cc_entry.specs.declared.call.Call.TheVariants as call
use Rattle.cc_entry.specs.declared.error.CcError.{CcError}
use Rattle.cc_entry.specs.declared.error.CcError.TheVariants as error
use Rattle.cc_effects.specs.Asked.{brings_in}
use Rattle.cc_model.specs.Room.{reserved_in}
use Rattle.cc_model.specs.Acts.{file_of}
use Rattle.cc_model.specs.Filing.{IsFiled}
use Rattle.cc_model.specs.History.{history}
use Rattle.cc_model.specs.Holds.{Hold, holds_of}
use Rattle.cc_step.specs.Step.{IsReadyFor, asked_now, most_asked}
use Rattle.cc_step.proofs.Asking.{most}
use Rattle.cc_turns.specs.Standing.{Standing}
use Rattle.cc_turns.specs.Takes.{without_book, without_device}
use Rattle.cc_writes.specs.Ways.{IsFull, IsFullCall, IsFullError, IsFullOn, CallIsReady}
use Rattle.cc_writes.specs.Calls.{IsFullWriting}
use Rattle.cc_writes.specs.Fetch.{IsFullFetching}
use Rattle.cc_writes.specs.Rounds.{IsFullCourse, course_of}
use Rattle.cc_writes.specs.declared.tell.Returned.{Returned}
use Rattle.cc_writes.proofs.Attempting.{of-file}

pub full-more : (asked more : ℕ) (w : Standing) (e : CcError) → asked ≤ more → IsFullError asked w e → IsFullError more w e
full-more asked more w (error.JournalFull entries) most full =
    (full.0, less w.setup.capacity (length w.seen) (reserved_in w.seen + w.in_flight + w.others) full.1)
  where
    less : (capacity long owed : ℕ) → capacity < long + owed + asked → capacity < long + owed + more
    less capacity long owed short = omega (arith, short, most)
full-more asked more w other most full = tt

pub full-answer : {A : Type 0} (asked more : ℕ) (w : Standing) (r : Result A CcError) → asked ≤ more → IsFull asked w r → IsFull more w r
full-answer asked more w (Ok a) most full = tt
full-answer asked more w (Err e) most full = full-more asked more w e most full

-- where there is no room for one entry, there is none for all that a call asks
pub full-one : {A : Type 0} (it : Call) (w : Standing) (r : Result A CcError) → 1 ≤ most_asked it → IsFull 1 w r → IsFullCall it w r
full-one it w r some full = (full-answer 1 (most_asked it) w r some full, inl full)

-- what is said of a call on a stream is said of one on a file of it
pub full-named : {A : Type 0} (holds : List Hold) (pass s : ℕ) (it : Call) (w : Standing) (r : Result A CcError) → IsFiled holds pass (Some s) it (file_of it) → IsFullOn s it w r → IsFullCall it w r
full-named holds pass s it w r filed full =
    (full-answer (asked_now w.seen s it) (most_asked it) w r (most (holds_of (history w.seen s)) it) full.0, named full.1)
  where
    named : IsFull 1 w r ⊎ IsReadyFor w.setup w.seen s it → IsFull 1 w r ⊎ CallIsReady w.setup it w.seen
    named (inl none) = inl none
    named (inr ready) = inr (of-file (λ (n : ℕ). IsReadyFor w.setup w.seen n it) holds pass s it filed ready)

-- so of the places that a call asks where it is done
pub full-ended : {A : Type 0} (it : Call) (w : Standing) (r : Result A CcError) → IsFullCall it w r → IsFullFetching it w r
full-ended it w r full = inl full

-- a call that brings pages in asks one place at least
asks-one : (it : Call) → brings_in it ≡ true → 1 ≤ most_asked it
asks-one (call.CopyRead file at len wait) brings = omega arith
asks-one (call.CopyWrite file at bytes) brings = omega arith
asks-one (call.Zero file span) brings = omega arith
asks-one (call.Map file at len) brings = omega arith
asks-one (call.PinRead file at len exclusive) brings = omega arith
asks-one (call.PreparePin file at len true exclusive) brings = omega arith
asks-one (call.PreparePin file at len false exclusive) brings = omega arith
asks-one (call.MdlRead file at len) brings = omega arith
asks-one (call.MdlWrite file at len) brings = omega arith
asks-one (call.AheadStep request) brings = omega arith
asks-one (call.Query asked) brings = omega arith
asks-one other brings = absurd (true≢false (sym brings))

-- and where a page of its range comes in, or fails to
pub full-brought : (it : Call) (w : Standing) (r : Result Call CcError) → brings_in it ≡ true → IsFull 1 w r → IsFullCourse it w (course_of r)
full-brought it w (Ok again) brings full = tt
full-brought it w (Err e) brings full = inl (full-one {A = Returned} it w (Err e) (asks-one it brings) full)

-- or where a page is written for it
pub full-wrote : (it : Call) (w : Standing) (r : Result Call CcError) → brings_in it ≡ true → IsFullWriting it w r → IsFullCourse it w (course_of r)
full-wrote it w (Ok again) brings full = tt
full-wrote it w (Err e) brings (inl full) = inl (full-one {A = Returned} it w (Err e) (asks-one it brings) full)
full-wrote it w (Err e) brings (inr full) = inr full

-- so with the turns of the disk and of the book given back
pub given-full : {A : Type 0} (asked : ℕ) (y : Standing) (answer : Result A CcError) → IsFull asked y answer → IsFull asked (without_device (without_book y)) answer
given-full asked y (Ok told) full = tt
given-full asked y (Err (error.JournalFull entries)) full = full
given-full asked y (Err other) full = tt

pub given-fetching : {A : Type 0} (it : Call) (y : Standing) (answer : Result A CcError) → IsFullFetching it y answer → IsFullFetching it (without_device (without_book y)) answer
given-fetching it y answer (inl full) = inl (given-full (most_asked it) y answer full.0, given-ready full.1)
  where
    given-ready : IsFull 1 y answer ⊎ CallIsReady y.setup it y.seen → IsFull 1 (without_device (without_book y)) answer ⊎ CallIsReady y.setup it y.seen
    given-ready (inl none) = inl (given-full 1 y answer none)
    given-ready (inr ready) = inr ready
given-fetching it y answer (inr full) = inr (full.0, given-full 2 y answer full.1)

pub given-writing : {A : Type 0} (it : Call) (y : Standing) (answer : Result A CcError) → IsFullWriting it y answer → IsFullWriting it (without_device (without_book y)) answer
given-writing it y answer (inl full) = inl (given-full 1 y answer full)
given-writing it y answer (inr full) = inr (full.0, given-full 2 y answer full.1)

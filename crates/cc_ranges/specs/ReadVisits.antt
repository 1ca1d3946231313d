-- What the visits of a page of a noncached read leave of it, from whichever moment it is under way.
use Rattle.std.specs.Prelude.{◌≡◌, ℕ, ◌*◌, ◌<◌, ◌≤◌, ◌^◌, Bool, true, false, Result, Ok, Err, List, length, take, drop}
use Rattle.std.specs.declared.option.Option.TheVariants.{None}
use Rattle.cc_entry.specs.Place.{File, Page}
use Rattle.cc_entry.specs.declared.call.Call.TheVariants as call
use Rattle.cc_entry.specs.declared.entry.Entry.{Entry}
use Rattle.cc_entry.specs.declared.error.CcError.{CcError}
use Rattle.cc_entry.specs.declared.error.CcError.TheVariants as error
use Rattle.cc_entry.specs.declared.reply.Outcome.{Outcome}
use Rattle.cc_entry.specs.declared.reply.Outcome.TheVariants as outcome
use Rattle.cc_entry.specs.declared.reply.Reply.TheVariants as reply
use Rattle.cc_effects.specs.Asked.{reaches}
use Rattle.cc_effects.specs.Calls.{CallLeft, IsUnderWay, WasWritten}
use Rattle.cc_effects.specs.Noncached.{is_of_shape}
use Rattle.cc_effects.specs.PageWrites.{has_end}
use Rattle.cc_model.specs.History.{Effect, history}
use Rattle.cc_model.specs.Refusals.{refusal}
use Rattle.cc_model.specs.Setup.{Setup}
use Rattle.cc_model.specs.Sizes.{ended_ok}
use Rattle.cc_model.specs.Touches.{size_of}
use Rattle.cc_turns.specs.Standing.{Standing}
use Rattle.cc_writes.specs.Hands.{Went, WentWith}
use Rattle.cc_writes.specs.Told.{FitsLast, ToldLast}
use Rattle.cc_writes.specs.Ways.{IsFull, WasWanted}
use Rattle.cc_writes.specs.declared.tell.Returned.{Returned}
use Rattle.cc_writes.specs.declared.tell.Returned.TheVariants as returned
use Rattle.cc_writes.specs.Writes.{IsToWrite}
use Rattle.cc_book.specs.Noncached.{WasRead}
use Rattle.cc_ranges.specs.declared.read_steps.ReadEnd.{ReadEnd}
use Rattle.cc_ranges.specs.declared.read_steps.ReadEnd.TheVariants as ended
use Rattle.cc_ranges.specs.declared.read_steps.ReadNext.{ReadNext}
use Rattle.cc_ranges.specs.declared.read_steps.ReadNext.TheVariants as next
use Rattle.cc_ranges.specs.declared.read_visits.Look.{Look}
use Rattle.cc_ranges.specs.declared.read_visits.Look.TheVariants as look

-- a page of the stream of a file
abbrev pub file_page : File → ℕ → Page
file_page file page = record { stream = file.stream; page = page }

-- how an entry says that the read of a page ended that was answered so, with its bytes in the front of these
abbrev pub outcome_of_read : Result ℕ CcError → List ℕ → Outcome
outcome_of_read (Ok n) out = outcome.Done (reply.Read (take n out))
outcome_of_read (Err e) out = outcome.Failed e

-- what was handed in is as it was beyond the answer
abbrev pub KeepsBehind : Result ℕ CcError → List ℕ → List ℕ → Type 0
KeepsBehind (Ok n) was now = (n ≤ length was) × (drop n now ≡ drop n was)
KeepsBehind (Err e) was now = now ≡ was

-- an answer is no refusal of a place or a length
abbrev pub IsUnshaped : Result ℕ CcError → Type 0
IsUnshaped (Ok n) = Unit {0}
IsUnshaped (Err e) = is_of_shape e ≡ false

-- The read of a page that was under way ended so: done, with its bytes in the front of what was handed in, or failed. The
-- rest of that is as it was.
pub record ReadEnded (u : Setup) (me : ℕ) (file : File) (page : ℕ) (answer : Result ℕ CcError) (old new : List Entry)
    (was now : List ℕ) : Type 0 where
  pub left : CallLeft u me (call.NcRead file page) (outcome_of_read answer now) old new
  pub behind : KeepsBehind answer was now
  pub unshaped : IsUnshaped answer

-- The read of a page is under way since a moment. Where it is said to have written its page, a transfer of that ended
-- well since.
pub record IsReading (me : ℕ) (file : File) (page : ℕ) (written : Bool) (old new : List Entry) : Type 0 where
  pub way : IsUnderWay me (call.NcRead file page) old new
  pub wrote : written ≡ true → has_end ended_ok me (file_page file page) way.during ≡ true

-- It is to read the disk: its page was written, or had no bytes that could be, and at a moment nothing refused it and the
-- page was of its range.
pub record IsAtRead (u : Setup) (me : ℕ) (file : File) (page : ℕ) (old new : List Entry) : Type 0 where
  pub way : IsUnderWay me (call.NcRead file page) old new
  pub written : WasWritten me (file_page file page) way.during old
  pub wanted : WasWanted u (call.NcRead file page) (file_page file page) old new

-- It is to write its page first: nothing refuses it, the page is of its range and dirty, and no pin owes it a stamp.
pub record IsToWriteFirst (u : Setup) (file : File) (page : ℕ) (past : List Entry) : Type 0 where
  pub admitted : refusal u past (history past file.stream) (call.NcRead file page) ≡ None
  pub reached : reaches (call.NcRead file page) (file_page file page) past ≡ true
  pub to_write : IsToWrite (file_page file page) past

-- What a look leaves of the read, by cases.
abbrev pub LookLeft : Setup → ℕ → File → ℕ → Look → List Entry → List Entry → Type 0
LookLeft u me file page (look.Ended answer) old new = (out : List ℕ) → ReadEnded u me file page answer old new out out
LookLeft u me file page look.Writes old new = IsUnderWay me (call.NcRead file page) old new
LookLeft u me file page look.Reads old new = IsAtRead u me file page old new

-- What it asks then: a page that is written first was not written for it before, and one that is read has a number.
abbrev pub LookAsks : Setup → File → ℕ → Bool → Look → List Entry → Type 0
LookAsks u file page written (look.Ended answer) seen = Unit {0}
LookAsks u file page written look.Writes seen = (written ≡ false) × IsToWriteFirst u file page seen
LookAsks u file page written look.Reads seen = page < 2 ^ 51

-- A page that is written or read begins below the size, as the stream stands.
abbrev pub IsBelow : ℕ → Look → List Effect → Type 0
IsBelow page (look.Ended answer) h = Unit {0}
IsBelow page look.Writes h = 4096 * page < size_of h
IsBelow page look.Reads h = 4096 * page < size_of h

-- The pass goes on as it stood; before the disk is read it has a place reserved.
abbrev pub LookWent : Look → Standing → Standing → Type 0
LookWent look.Reads old new = WentWith 1 old new
LookWent other old new = Went old new

-- a read that found no room, with one place asked
abbrev pub IsFullLook : Standing → Look → Type 0
IsFullLook w (look.Ended answer) = IsFull 1 w answer
IsFullLook w other = Unit {0}

-- the step that was taken on the book
abbrev pub look_of : ReadNext → Look
look_of next.Done = look.Ended (Ok 0)
look_of (next.Refused e) = look.Ended (Err e)
look_of next.Writes = look.Writes
look_of next.Reads = look.Reads
look_of (next.Stopped e) = look.Ended (Err e)

-- what was read of a page is what the disk is known to hold of it, where the page is not resident
abbrev pub WasReadHere : Standing → File → ℕ → List ℕ → Type 0
WasReadHere w file page raw = WasRead (w.setup.opening file.stream) (history w.seen file.stream) page raw

-- Where the read was done, what was handed in has room for its reply.
abbrev pub FitsEnded : ReadEnd → List Entry → List ℕ → Type 0
FitsEnded ended.Done entries out = FitsLast entries out
FitsEnded other entries out = Unit {0}

-- how many bytes were told
abbrev pub told_count : Returned → ℕ
told_count (returned.Bytes count) = count
told_count other = 0

-- The answer is how the read ended, with the reply told where it was done.
abbrev pub ToldEnded : ReadEnd → Result ℕ CcError → List Entry → List ℕ → List ℕ → Type 0
ToldEnded ended.Done answer entries was now =
    (told : Returned) × (answer ≡ Ok (told_count told)) × ToldLast entries told was now
ToldEnded (ended.Refused e) answer entries was now = (answer ≡ Err e) × (now ≡ was)
ToldEnded ended.Stopped answer entries was now = (answer ≡ Err error.NoMemory) × (now ≡ was)

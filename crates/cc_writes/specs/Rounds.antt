-- What the rounds of a call leave of it, and what a page step of one asks and leaves.
use Rattle.std.specs.Prelude.{◌≡◌, ℕ, suc, ◌+◌, ◌-◌, ◌*◌, ◌/◌, ◌%◌, ◌^◌, ◌<◌, ◌≤◌, ◌⊎◌, OnOk, Bool, true, false, ◌&&◌, ◌==◌, nat_le, nat_lt, if◌then◌else◌, Result, Ok, Err, List, ◌∷◌, ◌++◌}
use Rattle.std.specs.declared.option.Option.{Option}
use Rattle.std.specs.declared.option.Option.TheVariants.{Some, None}
use Rattle.cc_entry.specs.Pages.{block_of, last_page}
use Rattle.cc_entry.specs.Place.{Range}
use Rattle.cc_entry.specs.declared.call.Call.{Call}
use Rattle.cc_entry.specs.declared.error.CcError.{CcError}
use Rattle.cc_entry.specs.declared.entry.Entry.{Entry}
use Rattle.cc_entry.specs.declared.entry.Entry.TheVariants as entry
use Rattle.cc_traits.specs.Disk.{Disk}
use Rattle.cc_effects.specs.Calls.{IsUnderWay}
use Rattle.cc_effects.specs.Places.{is_on_disk_alone}
use Rattle.cc_model.specs.History.{history}
use Rattle.cc_model.specs.Ranges.{range_of}
use Rattle.cc_model.specs.Setup.{Setup}
use Rattle.cc_model.specs.Touches.{size_of}
use Rattle.cc_model.specs.Turns.{Device, is_quiet}
use Rattle.cc_step.specs.Room.{has_room}
use Rattle.cc_step.specs.Step.{is_awaited}
use Rattle.cc_turns.specs.Transfers.{fill_failed}
use Rattle.cc_turns.specs.Disk.{DiskStands}
use Rattle.cc_turns.specs.Standing.{Standing}
use Rattle.cc_writes.specs.Hands.{SameDisk}
use Rattle.cc_writes.specs.Ways.{WasWanted}
use Rattle.cc_writes.specs.Visits.{CourseLeft, HasLanded, HasPlaced, OnEnded, OnGoing}
use Rattle.cc_writes.specs.Fetch.{IsFullFetching}
use Rattle.cc_writes.specs.Work.{work_left}
use Rattle.cc_writes.specs.declared.course.Course.{Course}
use Rattle.cc_writes.specs.declared.course.Course.TheVariants as course
use Rattle.cc_writes.specs.declared.keeping.Rounds.{Rounds}
use Rattle.cc_writes.specs.declared.tell.Returned.{Returned}
use Rattle.cc_writes.specs.declared.keeping.Writing.{Writing}
use Rattle.cc_writes.specs.declared.keeping.Writing.TheVariants as writing

-- What a round left of a call that was under way: it goes on, and its caller was told nothing, or it ended.
abbrev pub RoundLeft : Setup → ℕ → Call → Course Call → List Entry → List Entry → List ℕ → List ℕ → Type 0
RoundLeft u me it gone old new was now =
    CourseLeft (λ (again : Call). (again ≡ it) × IsUnderWay me it old new × (now ≡ was)) u me it gone old new was now

-- the course of a call after a page step
abbrev pub course_of : Result Call CcError → Course Call
course_of (Ok again) = course.GoesOn again
course_of (Err e) = course.Ended (Err e)

-- a call that found no room, or goes on, or ended otherwise
abbrev pub IsFullCourse : Call → Standing → Course Call → Type 0
IsFullCourse it w gone = OnEnded gone (λ (answer : Result Returned CcError). IsFullFetching it w answer)

-- The disk failed to read a page, and the pass may tell that: the disk stands for what the pass has seen with what
-- others place meanwhile and the entry of the failure.
abbrev pub MayTellFailure : {D : Type 0} → (D → Option Disk) → (D → ℕ) → Standing → ℕ → ℕ → D → Type 0
MayTellFailure told faults w s page disk =
    (later : List Entry) → is_quiet (Device s) later ≡ true →
    DiskStands told faults (w.disks s) (fill_failed w.number s page ∷ (later ++ w.seen)) s disk

-- The failure was told by its entry, or left untold, and nothing else was done that the disk stands for.
abbrev pub WasTold : Standing → Standing → ℕ → ℕ → Type 0
WasTold old new s page =
    ((placed : List Entry) × HasPlaced old (fill_failed old.number s page) placed × SameDisk placed new.seen s)
    ⊎ SameDisk old.seen new.seen s

-- a call is under way since a moment, and wanted a page at one since then
abbrev pub CallWantedPage : Standing → ℕ → Call → ℕ → Type 0
CallWantedPage w s it page =
    (begun : List Entry) × IsUnderWay w.number it begun w.seen
    × WasWanted w.setup it (record { stream = s; page = page }) begun w.seen

-- whether a page was read with the book free, or passed over, where this one was the last
abbrev pub is_read : Option ℕ → ℕ → Bool
is_read None page = false
is_read (Some last) page = nat_le page last

-- whether a page is the next of the block that is written with the book free, or the first of one
abbrev pub is_next : Writing → ℕ → Bool
is_next writing.Begins page = true
is_next (writing.CameTo last) page = (block_of last == block_of page) && nat_lt last page
is_next writing.Over page = false

-- the range of a call on a stream of the greatest size
abbrev pub widest_of : Call → Option Range
widest_of it = range_of (2 ^ 63) it

-- how many pages of a range are above the last that was read
abbrev pub pages_above : Option ℕ → Range → ℕ
pages_above None r = suc (last_page r) - r.from / 4096
pages_above (Some last) r = last_page r - last

-- how many pages of a call's range may still be read with the book free, and of the block that is given up be written
abbrev pub reads_left : Option ℕ → Option Range → ℕ
reads_left read None = 0
reads_left read (Some r) = pages_above read r

abbrev pub writes_left : Writing → ℕ
writes_left writing.Begins = 64
writes_left (writing.CameTo last) = 63 - last % 64
writes_left writing.Over = 0

-- How many transfers a call may still make with the book free: it reads each page of its range once at most, and before
-- and behind each read it writes the 64 pages of one block once at most.
abbrev pub free_left : Call → Rounds → ℕ
free_left it rounds = if rounds.kept then 0 else 65 * reads_left rounds.read (widest_of it) + writes_left rounds.block

-- The page that a call waited for came in: its entry is the last, and the call waited for it at that front.
pub record CameIn (w : Standing) (s : ℕ) (it : Call) (page : ℕ) (seen : List Entry) : Type 0 where
  pub front : List Entry
  pub from_disk : Bool
  pub placed : seen ≡ entry.PageIn w.number (record { stream = s; page = page }) from_disk ∷ front
  pub awaited : is_awaited w.setup front s it page ≡ true

-- Why a call goes on without a page that it waited for: it does not wait for it any more, there is no room for its block,
-- or the page is not on the disk alone any more.
abbrev pub AwaitedPageIsPassedOver : Setup → ℕ → Call → ℕ → List Entry → Type 0
AwaitedPageIsPassedOver u s it page past =
    (is_awaited u past s it page ≡ false)
    ⊎ (has_room (history past s) page ≡ false)
    ⊎ (is_on_disk_alone (record { stream = s; page = page }) past ≡ false)

-- What became of the page that a call waited for, where the call goes on.
abbrev pub AwaitedPageLeft : Standing → ℕ → Call → ℕ → List Entry → Type 0
AwaitedPageLeft w s it page seen = CameIn w s it page seen ⊎ AwaitedPageIsPassedOver w.setup s it page seen

-- With the book kept a page comes in for whose block there is room, where the call goes on.
abbrev pub IsBroughtKept : Standing → ℕ → Call → ℕ → Bool → Result Call CcError → List Entry → Type 0
IsBroughtKept w s it page keeps r seen =
    keeps ≡ true → has_room (history w.seen s) page ≡ true → OnOk r (HasLanded w s it page seen)

-- what is left to do for a call on a stream, while nobody else changes the stream
abbrev pub left_for : ℕ → Call → List Entry → ℕ
left_for s it past = work_left (history past s) (range_of (size_of (history past s)) it)

-- a call that goes on has less left to do
abbrev pub HasLess : ℕ → Call → Course Call → List Entry → List Entry → Type 0
HasLess s it gone old new = OnGoing gone (λ (again : Call). left_for s it new < left_for s it old)

-- A call that goes on is nearer to its end: fewer transfers with the book free are left to it, or no more, and less to do.
abbrev pub IsNearer : ℕ → Call → Course Call → Rounds → Rounds → List Entry → List Entry → Type 0
IsNearer s it gone was now old new =
    OnGoing gone (λ (again : Call).
    (free_left it now < free_left it was)
    ⊎ ((free_left it now ≤ free_left it was) × HasLess s it gone old new))

-- What a flush leaves, and what holds of its span where it was done.
use Rattle.std.specs.Prelude.{◌≡◌, ℕ, ◌^◌, ◌<◌, true, false, Result, OnOk, List, ◌∷◌, ◌++◌, length, Contains}
use Rattle.std.specs.declared.option.Option.{Option}
use Rattle.std.specs.declared.option.Option.TheVariants.{Some, None}
use Rattle.cc_entry.specs.Place.{File, Range}
use Rattle.cc_entry.specs.declared.call.Call.TheVariants as call
use Rattle.cc_entry.specs.declared.entry.Entry.{Entry}
use Rattle.cc_entry.specs.declared.entry.Entry.TheVariants as entry
use Rattle.cc_entry.specs.declared.entry.End.TheVariants as how
use Rattle.cc_entry.specs.declared.error.CcError.{CcError}
use Rattle.cc_effects.specs.Calls.{CallLeft}
use Rattle.cc_effects.specs.Moments.{own}
use Rattle.cc_effects.specs.Stops.{IsUnstopped}
use Rattle.cc_traits.specs.Disk.{Disk}
use Rattle.cc_ranges.specs.Crash.{IsKeptSince}
use Rattle.cc_model.specs.Flushed.{settled_since}
use Rattle.cc_model.specs.Good.{IsGood, IsGoodSoFar}
use Rattle.cc_model.specs.History.{history}
use Rattle.cc_model.specs.Images.{image, crash_pages, open_of}
use Rattle.cc_model.specs.Ranges.{span_has}
use Rattle.cc_model.specs.Setup.{Setup}
use Rattle.cc_model.specs.Touches.{is_dirty}
use Rattle.cc_turns.specs.Disk.{DiskStands, opening_of}
use Rattle.cc_turns.specs.Standing.{Standing, nothing}
use Rattle.cc_effects.specs.Begins.{BeginsAscending}
use Rattle.cc_writes.specs.Calls.{IsFullWriting}
use Rattle.cc_calls.specs.Answers.{outcome_of}
use Rattle.cc_calls.specs.Pages.{WentOn}

-- A pass holds the turn of a stream's disk alone: the disk stands for what it has seen, and no transfer of the stream is open.
pub record HasDisk {D : Type 0} (told : D → Option Disk) (faults : D → ℕ) (w : Standing) (s : ℕ) (device : D) : Type 0 where
  pub known : s < w.streams
  pub held : w.held ≡ record nothing { device = Some s }
  pub rest : open_of (history w.seen s) ≡ None
  pub stands : DiskStands told faults (w.disks s) w.seen s device
  pub opening : w.setup.opening s ≡ opening_of (w.disks s).told

-- Nothing stopped the pass from one moment to another: each transfer and each sync that it ended there ended well, and no log
-- failed it.
pub record EndedWell (me : ℕ) (old new : List Entry) : Type 0 where
  pub during : List Entry
  pub grew : new ≡ during ++ old
  pub unstopped : IsUnstopped me during

-- Whatever was placed from one moment to another is the pass's own, as on a desk.
pub record WasAlone (me : ℕ) (old new : List Entry) : Type 0 where
  pub during : List Entry
  pub grew : new ≡ during ++ old
  pub all_own : own me during ≡ during

-- Where the pass was alone, no page of the span is dirty at the end.
abbrev pub LeavesClean : ℕ → ℕ → Option Range → List Entry → List Entry → Type 0
LeavesClean me s span old new =
    WasAlone me old new → (p : ℕ) → span_has span p ≡ true → is_dirty (history new s) p ≡ false

-- There is a good sync of the pass. At it each touch of a page of the span that was there at the moment `old` is
-- written or cut. From it on, however far the journal goes on from `new`, what a crash may leave of a page of the span
-- whose image was known at the sync is that image, or the page as it was when one of its transfers began since.
pub record IsDurable (u : Setup) (me s : ℕ) (span : Option Range) (old new : List Entry) : Type 0 where
  pub before : List Entry
  pub after : List Entry
  pub synced : new ≡ after ++ (entry.Sync me s how.Good ∷ (before ++ old))
  pub settled : settled_since (length (history old s)) (history (before ++ old) s) span ≡ true
  pub kept : (pages : ℕ → List ℕ) (later : List Entry) (p : ℕ) (bytes content : List ℕ) →
      IsGoodSoFar u (later ++ new) → span_has span p ≡ true →
      image pages (history (before ++ old) s) p ≡ Some bytes →
      Contains (crash_pages pages (history (later ++ new) s) p) content →
      IsKeptSince pages s p bytes (later ++ after) (entry.Sync me s how.Good ∷ (before ++ old)) content

-- A flush of a span was answered so: it left what explains its answer; where it finds the journal full, there is no room for
-- one entry, or for the two of the transfer of a page that is to be written then; the pass goes on as it stood and may call
-- again, and what it has seen is good. Whatever it was answered, the pages that it began to write ascend. Where it was done,
-- the span is clean if the pass was alone, and durable whoever else was there.
pub record FlushEnds (old new : Standing) (file : File) (span : Option Range)
    (answer : Result (Unit {0}) CcError) : Type 0 where
  pub left : CallLeft old.setup old.number (call.Flush file span) (outcome_of answer) old.seen new.seen
  pub full : IsFullWriting (call.Flush file span) new answer
  pub goes_on : WentOn old new
  pub good : IsGood old.setup new.seen
  pub ascending : BeginsAscending old.number 0 (2 ^ 51) old.seen new.seen
  pub clean : OnOk answer (LeavesClean old.number file.stream span old.seen new.seen)
  pub durable : OnOk answer (IsDurable old.setup old.number file.stream span old.seen new.seen)

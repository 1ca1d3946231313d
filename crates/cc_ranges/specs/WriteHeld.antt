-- What the write of a page leaves, with the disk and the book of its stream in hand.
use Rattle.std.specs.Prelude.{ℕ, ◌<◌, ◌≤◌, ◌⊎◌, Result, Ok, Err, List}
use Rattle.cc_entry.specs.Place.{File}
use Rattle.cc_entry.specs.declared.call.Call.{Call}
use Rattle.cc_entry.specs.declared.call.Call.TheVariants as call
use Rattle.cc_entry.specs.declared.entry.Entry.{Entry}
use Rattle.cc_entry.specs.declared.error.CcError.{CcError}
use Rattle.cc_effects.specs.Noncached.{IsPageWritten, PageRefused}
use Rattle.cc_model.specs.Setup.{Setup}
use Rattle.cc_turns.specs.Standing.{Standing}
use Rattle.cc_writes.specs.Calls.{IsFullWriting}
use Rattle.cc_writes.specs.Rounds.{free_left, left_for}
use Rattle.cc_writes.specs.declared.keeping.Rounds.{Rounds}
use Rattle.cc_ranges.specs.Stores.{IsReadyToStore}
use Rattle.cc_ranges.specs.WriteVisits.{WriteIsTurnedAway, WriteIsUnderWay}
use Rattle.cc_ranges.specs.declared.write_held.Round.{Round}
use Rattle.cc_ranges.specs.declared.write_held.Round.TheVariants as round
use Rattle.cc_ranges.specs.ReadVisits.{file_page}

-- What the write of a page leaves, by cases over its answer.
abbrev pub WriteOfPageLeft : Setup → ℕ → File → ℕ → List ℕ → Result ℕ CcError → List Entry → List Entry → Type 0
WriteOfPageLeft u me file page bytes (Ok count) old new = IsPageWritten me file page bytes count old new
WriteOfPageLeft u me file page bytes (Err e) old new = PageRefused u me file page bytes e old new

-- the same of the making of room
abbrev pub RoomLeft : Setup → ℕ → File → ℕ → Result (Unit {0}) CcError → List Entry → List Entry → Type 0
RoomLeft u me file page (Ok done) old new = WriteIsUnderWay me file page old new
RoomLeft u me file page (Err e) old new = WriteIsTurnedAway u me file page e old new

-- and of one of its rounds
abbrev pub WriteRoundLeft : Setup → ℕ → File → ℕ → Round → List Entry → List Entry → Type 0
WriteRoundLeft u me file page (round.Ended e) old new = WriteIsTurnedAway u me file page e old new
WriteRoundLeft u me file page round.Ready old new = WriteIsUnderWay me file page old new
WriteRoundLeft u me file page round.GoesOn old new = WriteIsUnderWay me file page old new

-- a page of the file is ready to be stored, as the pass has seen the stream
abbrev pub IsReadyAfter : Standing → File → ℕ → Type 0
IsReadyAfter w file page = IsReadyToStore w.setup w.seen file (file_page file page)

abbrev pub RoundReady : Standing → File → ℕ → Round → Type 0
RoundReady w file page round.Ready = IsReadyAfter w file page
RoundReady w file page other = Unit {0}

-- a round that found no room for one entry, or for the transfer of a page that is to be written
abbrev pub IsFullWriteRound : File → ℕ → Standing → Round → Type 0
IsFullWriteRound file page w (round.Ended e) = IsFullWriting {A = Unit {0}} (call.NcWrite file page) w (Err e)
IsFullWriteRound file page w other = Unit {0}

-- how the write stands for which a page was written, or failed
abbrev pub write_round_of : Result Call CcError → Round
write_round_of (Ok again) = round.GoesOn
write_round_of (Err e) = round.Ended e

-- A write that goes on is nearer to its page being ready: fewer transfers with the book free are left to it, or no more, and
-- less to do. Those that are left are of the block that is given up, and of pages above the last that was written so.
abbrev pub WriteIsNearer : File → ℕ → Round → Rounds → Rounds → List Entry → List Entry → Type 0
WriteIsNearer file page round.GoesOn was now old new =
    (free_left (call.NcWrite file page) now < free_left (call.NcWrite file page) was)
    ⊎ ((free_left (call.NcWrite file page) now ≤ free_left (call.NcWrite file page) was)
    × (left_for file.stream (call.NcWrite file page) new < left_for file.stream (call.NcWrite file page) old))
WriteIsNearer file page other was now old new = Unit {0}

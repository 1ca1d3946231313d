-- What the journal keeps beside its entries, standing for them.
use Rattle.std.specs.Prelude.{◌≡◌, ℕ, ◌+◌, ◌^◌, ◌≤◌, List, length, Option}
use Rattle.cc_entry.specs.Place.{Page}
use Rattle.cc_entry.specs.declared.entry.Entry.{Entry}
use Rattle.cc_dirty.specs.Table.{Table}
use Rattle.cc_model.specs.Cache.{holds_made}
use Rattle.cc_stream.specs.Stream.{Stream}
use Rattle.cc_journal.specs.Calls.{CountsCalls}
use Rattle.cc_journal.specs.declared.calls.PassCalls.{PassCalls}
use Rattle.cc_journal.specs.Places.{HeldPlaces}
use Rattle.cc_journal.specs.Queue.{Waiting, QueueStands}
use Rattle.cc_journal.specs.Scans.{ScansStand}
use Rattle.cc_journal.specs.Streams.{StreamsStand}

-- all of it
pub record KeptStands {Q : Type 0} (past : List Entry) (states : List Stream) (places : HeldPlaces) (table : Table)
    (counts : List (ℕ × PassCalls)) (holds : ℕ) (waiting : Waiting Q) (total : ℕ) (last : Option Page) : Type 0 where
  pub streams : StreamsStand past states places table.rows
  pub calls : CountsCalls past counts
  pub made : holds ≡ holds_made past
  pub queue : QueueStands past waiting.writes waiting.count
  pub scans : ScansStand past total last
  pub few : length table.rows ≤ 16384
  pub capacity : 16384 ≤ table.capacity
  pub short : length waiting.writes ≤ 64

-- There is memory for what is reserved, within a capacity whose entries can be counted.
pub record HasMemory (capacity entries reserved : ℕ) (entry_room place_room count_room : ℕ) : Type 0 where
  pub within : entries + reserved ≤ capacity
  pub countable : capacity ≤ 2 ^ 63
  pub for_entries : reserved ≤ entry_room
  pub for_places : reserved ≤ place_room
  pub for_counts : reserved ≤ count_room

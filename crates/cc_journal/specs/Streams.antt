-- What is kept of all streams, standing for a past.
use Rattle.std.specs.Prelude.{◌≡◌, ℕ, ◌+◌, ◌*◌, ◌^◌, ◌<◌, ◌≤◌, Bool, true, false, not, ◌==◌, ◌&&◌, nat_lt, List, [], length, slice_index_or, Option, None, Some}
use Rattle.cc_entry.specs.Place.{Range}
use Rattle.cc_entry.specs.Pages.{has_page}
use Rattle.cc_entry.specs.declared.entry.Entry.{Entry}
use Rattle.cc_entry.specs.declared.entry.Entry.TheVariants as entry
use Rattle.cc_entry.specs.declared.reply.Outcome.TheVariants as outcome
use Rattle.cc_dirty.specs.declared.row.Row.{Row}
use Rattle.cc_dirty.specs.Table.{Table}
use Rattle.cc_events.specs.declared.event.StreamEvent.{StreamEvent}
use Rattle.cc_events.specs.declared.event.StreamEvent.TheVariants as event
use Rattle.cc_events.specs.Events.{event_of_act, event_on}
use Rattle.cc_model.specs.Acts.{act_of}
use Rattle.cc_model.specs.History.{Effect, history}
use Rattle.cc_model.specs.Settings.{is_temporary, has_no_write_behind}
use Rattle.cc_model.specs.Sizes.{stored_range}
use Rattle.cc_stream.specs.Stream.{Stream, StreamStands}
use Rattle.cc_journal.specs.Places.{HeldPlaces, PlacesHolds, held_at}
use Rattle.cc_journal.specs.Rows.{Follows, KeepsTransfers, absent_count}

-- what is kept of the streams stands for a past; there are 16 streams
pub record StreamsStand (past : List Entry) (states : List Stream) (places : HeldPlaces) (rows : List Row) : Type 0 where
  pub each : (s : ℕ) (d : Stream) → s < 16 → StreamStands (history past s) (slice_index_or states s d)
  pub held : PlacesHolds past places
  pub unwritten : Follows past rows

-- the state of a stream among those of all 16
abbrev pub no_state : Stream
no_state = record {
  opened = [];
  had_map = false;
  size = 0;
  allocation = 0;
  quota = 0;
  temporary = false;
  log = None;
  no_read_ahead = false;
  no_write_behind = false;
  threshold = 0;
}

abbrev pub state_in : List Stream → ℕ → Stream
state_in states stream = slice_index_or states stream no_state

-- the range of bytes that an event touches, given the size of its stream and the place of the hold that it
-- names; an empty one where it touches none
abbrev pub touched_range : StreamEvent → ℕ → Option (ℕ × ℕ) → Range
touched_range (event.Changes from to) size place = record { from = from; to = to }
touched_range (event.Stores page) size place = stored_range page size
touched_range (event.Stamps hold lsn) size (Some place) = record { from = place.0; to = place.0 + place.1 }
touched_range other size place = record { from = 0; to = 0 }

-- the hold that an event names, 0 where it names none
abbrev pub hold_in_event : StreamEvent → ℕ
hold_in_event (event.Stamps hold lsn) = hold
hold_in_event other = 0

-- whether an event may be what a done call does
abbrev pub is_of_call : StreamEvent → Bool
is_of_call (event.Began page) = false
is_of_call (event.Ended page ok) = false
is_of_call other = true

-- the pages of a range have numbers, and there is room for the rows of those that have none
pub record HasRoomForRows (table : Table) (stream : ℕ) (range : Range) : Type 0 where
  pub numbered : (p : ℕ) → has_page range p ≡ true → p < 2 ^ 51
  pub room : length table.rows + absent_count table.rows stream range ≤ table.capacity

-- there is room for what a done call touches
abbrev pub HasRoomForEntry : List Stream → HeldPlaces → Table → Entry → Type 0
HasRoomForEntry states places table (entry.Call pass nth (Some stream) call (outcome.Done reply)) =
    let what = event_of_act (act_of call) in
    stream < 16 → HasRoomForRows table stream (touched_range what (state_in states stream).size (held_at places stream (hold_in_event what)))
HasRoomForEntry states places table other = Unit {0}

-- an entry keeps one transfer of each stream at a time
abbrev pub KeepsTransfersIn : List Entry → Entry → Type 0
KeepsTransfersIn past e = (s : ℕ) → KeepsTransfers (event_on e s) (history past s)

-- whether an entry changes nothing of what is kept of the streams
abbrev pub leaves_streams : Entry → Bool
leaves_streams (entry.Call pass nth (Some stream) call (outcome.Done reply)) = false
leaves_streams (entry.WriteBegin pass page) = false
leaves_streams (entry.WriteEnd pass page how) = false
leaves_streams other = true

-- whether the lazy writer looks at the pages of a stream
abbrev pub is_written_behind : List Effect → Bool
is_written_behind h = not (is_temporary h) && not (has_no_write_behind h)

-- the marks are those of the streams that the lazy writer looks at
abbrev pub MarksWritten : List Entry → List Bool → Type 0
MarksWritten past marks = (s : ℕ) → s < 16 → slice_index_or marks s false ≡ is_written_behind (history past s)

-- whether a page begins below a size, where there is one
abbrev pub begins_below : Option ℕ → ℕ → Bool
begins_below None page = true
begins_below (Some size) page = nat_lt (4096 * page) size

-- whether a row is of a page of the stream that a cut at a size, where there is one, leaves
abbrev pub is_left : ℕ → Option ℕ → Row → Bool
is_left stream cut row = row.page.stream == stream && begins_below cut row.page.page

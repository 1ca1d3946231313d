-- What is kept of all streams, as one value.
use Rattle.std.specs.Prelude.{List}
use Rattle.cc_entry.specs.declared.entry.Entry.{Entry}
use Rattle.cc_journal.specs.declared.streams.Streams.{Streams}
use Rattle.cc_journal.specs.Streams.{StreamsStand, HasRoomForEntry}

-- it stands for a past
abbrev pub StreamsStandFor : List Entry → Streams → Type 0
StreamsStandFor past s = StreamsStand past s.states.value s.places.places.entries s.dirty.rows

-- there is room in it for what an entry touches
abbrev pub HasRoomInStreams : Streams → Entry → Type 0
HasRoomInStreams s e = HasRoomForEntry s.states.value s.places.places.entries s.dirty e

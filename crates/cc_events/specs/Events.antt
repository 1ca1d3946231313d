-- What an effect does to the sizes and pages of a stream, without the bytes.
use Rattle.std.specs.Prelude.{ℕ, ◌+◌, List, [], ◌∷◌, length, min, max, if◌then◌else◌}
use Rattle.std.specs.declared.option.Option.{Option}
use Rattle.std.specs.declared.option.Option.TheVariants.{Some, None}
use Rattle.cc_entry.specs.declared.entry.Entry.{Entry}
use Rattle.cc_events.specs.declared.event.StreamEvent.{StreamEvent}
use Rattle.cc_events.specs.declared.event.StreamEvent.TheVariants as event
use Rattle.cc_entry.specs.Pages.{pages_of}
use Rattle.cc_model.specs.Numbers.{without}
use Rattle.cc_model.specs.History.{Effect, Did, CameIn, WentOut, Began, Ended, Synced, effect_of}
use Rattle.cc_model.specs.Acts.{Act, act_of, Opens, Closes, Resizes, Writes, Zeroes, Stores, Stamps, Discards, Looks}
use Rattle.cc_model.specs.Objects.{objects, truncation}
use Rattle.cc_model.specs.Holds.{holds_of, hold_at}
use Rattle.cc_model.specs.Sizes.{stored_range, hold_pages, ended_ok}
use Rattle.cc_model.specs.Touches.{size_of, valid_of, is_mapped}

-- what an act does
abbrev pub event_of_act : Act → StreamEvent
event_of_act (Opens file sizes quota temporary) = event.Opens file.object sizes.size sizes.valid
event_of_act (Closes file truncate) = event.Closes file.object truncate
event_of_act (Resizes allocation size) = event.Resizes size
event_of_act (Writes at bytes) = event.Changes at (at + length bytes)
event_of_act (Zeroes from to) = event.Changes from to
event_of_act (Stores page bytes) = event.Stores page
event_of_act (Stamps hold lsn) = event.Stamps hold lsn
event_of_act (Discards span) = event.Discards span
event_of_act Looks = event.Rests

-- what an effect does, where there is one
abbrev pub event_of : Option Effect → StreamEvent
event_of None = event.Rests
event_of (Some (Did pass call reply)) = event_of_act (act_of call)
event_of (Some (CameIn pass page from_disk)) = event.CameIn page
event_of (Some (WentOut pass page)) = event.WentOut page
event_of (Some (Began pass page)) = event.Began page
event_of (Some (Ended pass page how)) = event.Ended page (ended_ok how)
event_of (Some (Synced pass how)) = event.Rests

-- what an entry does to a stream
abbrev pub event_on : Entry → ℕ → StreamEvent
event_on e s = event_of (effect_of e s)

-- where the bytes end that an event changes, 0 where it changes none
abbrev pub end_of_event : StreamEvent → ℕ
end_of_event (event.Changes from to) = to
end_of_event other = 0

-- the objects after an event
abbrev pub objects_after : StreamEvent → List ℕ → List ℕ
objects_after (event.Opens object size valid) opened = object ∷ without object opened
objects_after (event.Closes object truncate) opened = without object opened
objects_after other opened = opened

-- the size that an uninitialise of the object sets, where it sets one, given the objects and the size
abbrev pub truncation_by : ℕ → Option ℕ → List ℕ → ℕ → Option ℕ
truncation_by object truncate opened size = truncation opened size (record { stream = 0; object = object }) truncate

-- the pages that an event touches, given the stream before it
abbrev pub touched_pages : StreamEvent → List Effect → List ℕ
touched_pages (event.Changes from to) h = pages_of (record { from = from; to = to })
touched_pages (event.Stores page) h = page ∷ []
touched_pages (event.Stamps hold lsn) h = hold_pages (hold_at (holds_of h) hold)
touched_pages other h = []

-- the size after an event, given the stream before it
abbrev pub size_after : StreamEvent → List Effect → ℕ
size_after (event.Opens object size valid) h = if is_mapped h then size_of h else size
size_after (event.Closes object truncate) h =
    elim (truncation_by object truncate (objects h) (size_of h)) [ None ↦ size_of h | Some to ↦ to ]
size_after (event.Resizes size) h = size
size_after other h = size_of h

-- the valid data length after an event, given the stream before it
abbrev pub valid_after : StreamEvent → List Effect → ℕ
valid_after (event.Opens object size valid) h = if is_mapped h then valid_of h else valid
valid_after (event.Closes object truncate) h =
    elim (truncation_by object truncate (objects h) (size_of h)) [ None ↦ valid_of h | Some to ↦ min (valid_of h) to ]
valid_after (event.Resizes size) h = min (valid_of h) size
valid_after (event.Changes from to) h = max (valid_of h) to
valid_after (event.Stores page) h = max (valid_of h) (stored_range page (size_of h)).to
valid_after other h = valid_of h

-- What is kept of the private maps of a stream after a call that was done on it.
use Rattle.std.specs.Prelude.{◌≡◌, ℕ, ◌+◌, ◌==◌, Bool, List, [], ◌∷◌, length, take, slice_set, if◌then◌else◌}
use Rattle.cc_entry.specs.declared.call.Call.{Call}
use Rattle.cc_entry.specs.declared.call.Call.TheVariants as call
use Rattle.cc_entry.specs.declared.reply.Reply.{Reply}
use Rattle.cc_entry.specs.declared.reply.Reply.TheVariants as reply
use Rattle.cc_model.specs.Numbers.{is_among}
use Rattle.cc_ahead.specs.Kept.{ObjectReads, kept_of}

-- an object without its reads
abbrev pub without_reads : ObjectReads → ObjectReads
without_reads kept = record kept { reads = [] }

-- an object with one read more, of so many bytes from a place on, if it is one at least
abbrev pub with_read : ℕ → ℕ → ObjectReads → ObjectReads
with_read at len kept =
    if len == 0
    then kept
    else record kept { reads = take 2 (record { from = at; to = at + len } ∷ kept.reads) }

-- an object with a new granularity
abbrev pub with_granularity : ℕ → ObjectReads → ObjectReads
with_granularity bytes kept = record kept { granularity = bytes }

-- a change of one object
abbrev pub with_object_changed : List ObjectReads → ℕ → (ObjectReads → ObjectReads) → List ObjectReads
with_object_changed maps object change = slice_set maps object (change (kept_of maps object))

-- what is kept after a call, given whether the object that an initialise names was open before it
abbrev pub kept_after : Call → Reply → Bool → List ObjectReads → List ObjectReads
kept_after (call.Initialise file sizes quota temporary) r was_open maps =
    if was_open then maps else with_object_changed maps file.object without_reads
kept_after (call.Uninitialise file truncate) r was_open maps = with_object_changed maps file.object without_reads
kept_after (call.CopyRead file at len wait) (reply.Read bytes) was_open maps =
    with_object_changed maps file.object (with_read at (length bytes))
kept_after (call.SetGranularity file bytes) r was_open maps = with_object_changed maps file.object (with_granularity bytes)
kept_after other r was_open maps = maps

-- The flag says whether the object that an initialise names is among the open ones; of another call it says
-- nothing.
abbrev pub SaysOpen : Bool → Call → List ℕ → Type 0
SaysOpen was_open (call.Initialise file sizes quota temporary) opened = was_open ≡ is_among file.object opened
SaysOpen was_open other opened = Unit {0}

-- Read-ahead: the reads that an object's private map keeps, and the request that they lead to.
use Rattle.std.specs.Prelude.{ℕ, ◌+◌, ◌-◌, ◌*◌, ◌/◌, Bool, false, not, ◌&&◌, ◌==◌, nat_lt, List, [], ◌∷◌, length, min, if◌then◌else◌}
use Rattle.std.specs.declared.option.Option.{Option}
use Rattle.std.specs.declared.option.Option.TheVariants.{Some, None}
use Rattle.cc_entry.specs.Place.{File, Range}
use Rattle.cc_entry.specs.declared.call.Call.{Call}
use Rattle.cc_entry.specs.declared.call.Call.TheVariants as call
use Rattle.cc_entry.specs.declared.reply.Reply.{Reply}
use Rattle.cc_entry.specs.declared.reply.Reply.TheVariants as reply
use Rattle.cc_entry.specs.declared.place.Request.{Request}
use Rattle.cc_model.specs.Numbers.{is_empty, is_among}
use Rattle.cc_model.specs.History.{Effect, Did}
use Rattle.cc_model.specs.Objects.{objects}
use Rattle.cc_model.specs.Touches.{size_of}
use Rattle.cc_model.specs.Settings.{has_no_read_ahead, granularity_of}

-- a copied read of an object that answered at least one byte, from its place to its end
abbrev pub read_of : ℕ → Call → Reply → Option Range
read_of object (call.CopyRead file at len wait) (reply.Read bytes) =
    if file.object == object && not (is_empty bytes) then Some (record { from = at; to = at + length bytes }) else None
read_of object other r = None

-- one read more, where there is one
abbrev pub kept_with : Option Range → List Range → List Range
kept_with None reads = reads
kept_with (Some r) reads = r ∷ reads

-- whether a done call opens the object's private map anew, or ends it, given the open objects before
abbrev pub forgets_reads : ℕ → Call → List ℕ → Bool
forgets_reads object (call.Initialise file sizes quota temporary) opened = file.object == object && not (is_among object opened)
forgets_reads object (call.Uninitialise file truncate) opened = file.object == object
forgets_reads object other opened = false

-- the copied reads of an object that answered at least one byte since its private map was made, the
-- newest first
unfoldable pub reads_of : ℕ → List Effect → List Range
reads_of object [] = []
reads_of object (Did pass call r ∷ h) =
    if forgets_reads object call (objects h) then [] else kept_with (read_of object call r) (reads_of object h)
reads_of object (other ∷ h) = reads_of object h

-- whether the two kept reads lead up to the place: each ends where the next begins
abbrev pub is_sequential : ℕ → List Range → Bool
is_sequential at (newer ∷ older ∷ rest) = older.to == newer.from && newer.to == at
is_sequential at (newer ∷ []) = false
is_sequential at [] = false

-- a number rounded up to a multiple
abbrev pub rounded_up : ℕ → ℕ → ℕ
rounded_up n step = ((n + (step - 1)) / step) * step

-- The read-ahead that a read of len bytes at a place leads to, where it leads to one
-- (CcScheduleReadAhead): the granule that begins at its end, rounded up to a whole granule, cut at the size.
unfoldable pub ahead_of : List Effect → File → ℕ → ℕ → Option Request
ahead_of h file at len =
    let granule = granularity_of file.object h in
    let start = rounded_up (at + len) granule in
    if nat_lt 0 len
    && (is_sequential at (reads_of file.object h)
    && (not (has_no_read_ahead h)
    && nat_lt start (size_of h)))
    then Some (record { file = file; at = start; len = min (start + granule) (size_of h) - start })
    else None

-- View blocks: the quota of a stream, the pool of views, and ranges within a block.
use Rattle.std.specs.Prelude.{ℕ, List, [], ◌∷◌, ◌++◌, ◌+◌, ◌*◌, true, false, reverse, map, flat_map, replicate}
use Rattle.std.specs.List.{range_with_len}
use Rattle.std.specs.declared.option.Option.TheVariants.{Some, None}
use Rattle.cc_entry.specs.Place.{File}
use Rattle.cc_entry.specs.declared.call.Call.{Call}
use Rattle.cc_entry.specs.declared.call.Call.TheVariants as call
use Rattle.cc_entry.specs.declared.reply.Reply.TheVariants as reply
use Rattle.cc_entry.specs.declared.reply.Outcome.TheVariants as outcome
use Rattle.cc_entry.specs.declared.error.CcError.{CcError}
use Rattle.cc_entry.specs.declared.error.CcError.TheVariants as error
use Rattle.cc_entry.specs.declared.entry.Entry.{Entry}
use Rattle.cc_entry.specs.declared.entry.Entry.TheVariants as entry
use Rattle.cc_worked.specs.Values.{a, sized, opened, done, answers, refused, read_in, goes_out, begins}

-- the first byte of block k is mapped, by call k + 1 and as hold k + 1
abbrev pub held_in : ℕ → List Entry
held_in k = read_in 1 (64 * k) ∷ answers 1 (k + 1) (call.Map a (262144 * k) 1) (reply.Hold (k + 1)) ∷ []

-- so in each of the first eight blocks of a stream with a quota of eight
abbrev pub eight_held : List Entry
eight_held = done 0 1 (call.Initialise a (sized 2359296 2359296) 8 false) ∷ flat_map held_in (range_with_len 0 8)

-- a read in the ninth block is refused until a hold has ended, and then takes that one's block
abbrev pub block_taken_over : List Entry
block_taken_over =
    reverse (
    eight_held
    ++ refused 1 9 (call.CopyRead a 2097152 1 true) (error.NoViews 8 8)
    ∷ answers 1 10 (call.CopyRead a 0 1 true) (reply.Read (90 ∷ []))
    ∷ done 1 11 (call.EndHold 1)
    ∷ goes_out 1 0
    ∷ read_in 1 512
    ∷ answers 1 12 (call.CopyRead a 2097152 1 true) (reply.Read (90 ∷ []))
    ∷ [])

-- wrong: a page of a ninth block comes in
abbrev pub quota_exceeded : List Entry
quota_exceeded = reverse (eight_held ++ read_in 1 512 ∷ [])

-- A read in the ninth block that may not wait, a map of it, and a store and a noncached write of its first
-- page are refused; a read that may not wait and needs no further block is answered.
abbrev pub no_view_left : List Entry
no_view_left =
    reverse (
    eight_held
    ++ refused 1 9 (call.CopyRead a 2097152 1 false) (error.NoViews 8 8)
    ∷ refused 1 10 (call.Map a 2097152 1) (error.NoViews 8 8)
    ∷ refused 1 11 (call.NcStore a 512 (replicate 4096 205)) (error.NoViews 8 8)
    ∷ refused 1 12 (call.NcWrite a 512) (error.NoViews 8 8)
    ∷ answers 1 13 (call.CopyRead a 0 1 false) (reply.Read (90 ∷ []))
    ∷ [])

-- wrong: the read is told the page that is not there
abbrev pub page_before_view : CcError → List Entry
page_before_view cause = reverse (eight_held ++ refused 1 9 (call.CopyRead a 2097152 1 false) cause ∷ [])

-- wrong: a page of the ninth block is stored, or mapped
abbrev pub ninth_stored : List Entry
ninth_stored = reverse (eight_held ++ done 1 9 (call.NcStore a 512 (replicate 4096 205)) ∷ begins 1 512 ∷ [])

abbrev pub ninth_mapped : List Entry
ninth_mapped = reverse (eight_held ++ answers 1 9 (call.Map a 2097152 1) (reply.Hold 9) ∷ [])

-- the first object of a stream
abbrev pub first_of : ℕ → File
first_of s = record { stream = s; object = 0 }

-- stream s is initialised with a quota of 64, by call s + 1 of pass 0
abbrev pub initialised : ℕ → Entry
initialised s =
    entry.Call 0 (s + 1) (Some s) (call.Initialise (first_of s) (sized 8192 8192) 64 false) (outcome.Done reply.Unit)

-- four streams take all of the pool, and the fifth is refused
abbrev pub pool_taken : List Entry
pool_taken = map initialised (range_with_len 0 4)

abbrev pub fifth : Call
fifth = call.Initialise (first_of 4) (sized 8192 8192) 16 false

abbrev pub pool_empty : List Entry
pool_empty =
    reverse (
    pool_taken
    ++ entry.Call 0 5 (Some 4) fifth (outcome.Failed (error.NoVacbs 0))
    ∷ entry.Call 1 1 (Some 4) (call.CopyRead (first_of 4) 0 1 true) (outcome.Failed error.NotCached)
    ∷ [])

-- wrong: the fifth is given a map
abbrev pub pool_exceeded : List Entry
pool_exceeded = reverse (pool_taken ++ entry.Call 0 5 (Some 4) fifth (outcome.Done reply.Unit) ∷ [])

-- a map over the boundary of two blocks is refused; one of a whole block is pinned, written and stamped
abbrev pub within_a_block : List Entry
within_a_block =
    reverse (
    opened 1048576 1048576
    ∷ refused 1 1 (call.Map a 262143 2) error.ViewBoundary
    ∷ map (λ p. read_in 1 p) (range_with_len 64 64)
    ++ answers 1 2 (call.Map a 262144 262144) (reply.Hold 1)
    ∷ answers 1 3 (call.MappedRead 1 524287 1) (reply.Read (90 ∷ []))
    ∷ answers 1 4 (call.PinMapped 1 false) (reply.Hold 1)
    ∷ done 1 5 (call.PinnedWrite 1 524287 (171 ∷ []))
    ∷ done 1 6 (call.SetDirty 1 None)
    ∷ answers 1 7 (call.PinnedRead 1 524286 2) (reply.Read (90 ∷ 171 ∷ []))
    ∷ done 1 8 (call.EndHold 1)
    ∷ [])

-- wrong: a map over the boundary
abbrev pub over_the_boundary : List Entry
over_the_boundary =
    reverse (opened 1048576 1048576 ∷ read_in 1 63 ∷ read_in 1 64 ∷ answers 1 1 (call.Map a 262143 2) (reply.Hold 1) ∷ [])

-- Pins and empty holds: which hold bars which call.
use Rattle.std.specs.Prelude.{ℕ, List, [], ◌∷◌, ◌++◌, true, false, reverse}
use Rattle.std.specs.declared.option.Option.TheVariants.{Some, None}
use Rattle.cc_entry.specs.declared.call.Call.TheVariants as call
use Rattle.cc_entry.specs.declared.query.Query.TheVariants as query
use Rattle.cc_entry.specs.declared.reply.Reply.TheVariants as reply
use Rattle.cc_entry.specs.declared.query.Value.TheVariants as value
use Rattle.cc_entry.specs.declared.error.CcError.TheVariants as error
use Rattle.cc_entry.specs.declared.entry.Entry.{Entry}
use Rattle.cc_worked.specs.Values.{a, opened, done, answers, refused, read_in}

-- a map, and an exclusive pin of another range of the same page
abbrev pub map_and_pin : List Entry
map_and_pin =
    opened 8192 8192
    ∷ read_in 1 0
    ∷ answers 1 1 (call.Map a 0 16) (reply.Hold 1)
    ∷ answers 1 2 (call.PinRead a 100 16 true) (reply.Hold 2)
    ∷ []

-- the pin bars a pin of the map, and of any range of the page, and no copied write
abbrev pub barred_by_page : List Entry
barred_by_page =
    reverse (
    map_and_pin
    ++ refused 1 3 (call.PinMapped 1 false) (error.Busy 2)
    ∷ refused 1 4 (call.PinRead a 4095 1 false) (error.Busy 2)
    ∷ refused 1 5 (call.Purge a None) (error.Held 1)
    ∷ done 1 6 (call.CopyWrite a 100 (171 ∷ []))
    ∷ answers 1 7 (call.PinnedRead 2 100 2) (reply.Read (171 ∷ 90 ∷ []))
    ∷ done 1 8 (call.EndHold 2)
    ∷ answers 1 9 (call.PinMapped 1 true) (reply.Hold 1)
    ∷ [])

-- wrong: the map is pinned all the same
abbrev pub map_pinned : List Entry
map_pinned = reverse (map_and_pin ++ answers 1 3 (call.PinMapped 1 false) (reply.Hold 1) ∷ [])

-- wrong: the later hold is named
abbrev pub later_hold_named : List Entry
later_hold_named = reverse (map_and_pin ++ refused 1 3 (call.Purge a None) (error.Held 2) ∷ [])

-- wrong: a map is written into
abbrev pub map_written : List Entry
map_written = reverse (map_and_pin ++ done 1 3 (call.PinnedWrite 1 0 (171 ∷ [])) ∷ [])

-- wrong: the pin is written into past its range
abbrev pub written_past_pin : List Entry
written_past_pin = reverse (map_and_pin ++ done 1 3 (call.PinnedWrite 2 115 (171 ∷ 205 ∷ [])) ∷ [])

-- wrong: a map that was pinned is read as a map, or a repin is stamped
abbrev pub pin_read_as_map : List Entry
pin_read_as_map = answers 1 10 (call.MappedRead 1 0 1) (reply.Read (90 ∷ [])) ∷ barred_by_page

abbrev pub repin_stamped : List Entry
repin_stamped = done 1 11 (call.SetDirty 3 None) ∷ answers 1 10 (call.Repin 1) (reply.Hold 3) ∷ barred_by_page

-- two shared pins of a page stand, and an exclusive one is barred by the first
abbrev pub shared_pins : List Entry
shared_pins =
    reverse (
    opened 8192 8192
    ∷ read_in 1 0
    ∷ answers 1 1 (call.PinRead a 0 16 false) (reply.Hold 1)
    ∷ answers 2 1 (call.PinRead a 8 16 false) (reply.Hold 2)
    ∷ refused 3 1 (call.PinRead a 0 1 true) (error.Busy 1)
    ∷ [])

-- A hold of no byte has no page; it bars a size below its end, and no purge.
abbrev pub empty_hold : List Entry
empty_hold =
    opened 8192 8192 ∷ answers 1 1 (call.Map a 8192 0) (reply.Hold 1) ∷ []

abbrev pub empty_hold_bars_size : List Entry
empty_hold_bars_size =
    reverse (
    empty_hold
    ++ done 1 2 (call.Purge a None)
    ∷ refused 1 3 (call.SetSizes a 8192 8191) (error.Held 1)
    ∷ refused 1 4 (call.Uninitialise a None) (error.Held 1)
    ∷ [])

-- wrong: it bars a purge
abbrev pub empty_hold_bars_purge : List Entry
empty_hold_bars_purge = reverse (empty_hold ++ refused 1 2 (call.Purge a None) (error.Held 1) ∷ [])

-- pins of two pages with three stamps
abbrev pub lsns_told : ℕ → ℕ → List Entry
lsns_told oldest newest =
    reverse (
    opened 8192 8192
    ∷ read_in 1 0
    ∷ read_in 1 1
    ∷ answers 1 1 (call.PinRead a 0 16 false) (reply.Hold 1)
    ∷ answers 1 2 (call.PinRead a 4096 16 false) (reply.Hold 2)
    ∷ done 1 3 (call.SetDirty 2 (Some 5))
    ∷ done 1 4 (call.SetDirty 1 (Some 7))
    ∷ done 1 5 (call.SetDirty 1 (Some 6))
    ∷ answers 1 6 (call.Query (query.LsnForFile a)) (reply.Value (value.Lsns (Some (oldest, newest))))
    ∷ [])

-- a pin of a page that is valid up to 5000
abbrev pub pinned_around_valid : List Entry
pinned_around_valid = opened 8192 5000 ∷ read_in 1 1 ∷ answers 1 1 (call.PinRead a 4096 4096 false) (reply.Hold 1) ∷ []

-- a pinned write that starts past the valid data length is refused, one that starts there is done
abbrev pub pinned_write_at_valid : List Entry
pinned_write_at_valid =
    reverse (
    pinned_around_valid
    ++ refused 1 2 (call.PinnedWrite 1 5001 (171 ∷ [])) (error.BeyondValid 5000)
    ∷ done 1 3 (call.PinnedWrite 1 5000 (171 ∷ []))
    ∷ answers 1 4 (call.PinnedRead 1 4999 3) (reply.Read (90 ∷ 171 ∷ 0 ∷ []))
    ∷ [])

-- wrong: it is done past the valid data length
abbrev pub hole_under_pin : List Entry
hole_under_pin = reverse (pinned_around_valid ++ done 1 2 (call.PinnedWrite 1 5001 (171 ∷ [])) ∷ [])

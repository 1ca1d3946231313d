-- Maps: objects that come and go, and a map that outlives them.
use Rattle.std.specs.Prelude.{List, [], ◌∷◌, ◌++◌, true, false, reverse}
use Rattle.std.specs.declared.option.Option.TheVariants.{None}
use Rattle.cc_entry.specs.declared.call.Call.TheVariants as call
use Rattle.cc_entry.specs.declared.reply.Reply.TheVariants as reply
use Rattle.cc_entry.specs.declared.query.Value.TheVariants as value
use Rattle.cc_entry.specs.declared.error.CcError.TheVariants as error
use Rattle.cc_entry.specs.declared.entry.Entry.{Entry}
use Rattle.cc_entry.specs.declared.entry.Entry.TheVariants as entry
use Rattle.cc_worked.specs.Values.{a, second, page, sized, opened, done, answers, refused, read_in, written}

-- A page is dirty as the last object goes, so the map stays, closing.
abbrev pub closing : List Entry
closing =
    opened 8192 8192
    ∷ read_in 1 0
    ∷ done 1 1 (call.CopyWrite a 0 (171 ∷ []))
    ∷ done 1 2 (call.Initialise second (sized 8192 8192) 16 false)
    ∷ answers 1 3 (call.Uninitialise a None) (reply.Value (value.Flag false))
    ∷ answers 1 4 (call.Uninitialise second None) (reply.Value (value.Flag false))
    ∷ refused 1 5 (call.CopyRead a 0 1 true) error.NotCached
    ∷ []

-- the lazy writer writes the page, and with it goes the map
abbrev pub closed : List Entry
closed = closing ++ entry.Scan 1 (page 0 ∷ []) ∷ written 1 0

-- The stream is initialised anew, with no more valid bytes than it left.
abbrev pub opened_again : List Entry
opened_again =
    closed
    ++ refused 1 6 (call.Initialise a (sized 9000 8500) 16 false) error.BadSizes
    ∷ done 1 7 (call.Initialise a (sized 8192 8192) 16 false)
    ∷ []

-- it keeps its bytes, and its page is no longer there
abbrev pub bytes_outlive_map : List Entry
bytes_outlive_map =
    reverse (
    opened_again
    ++ refused 1 8 (call.CopyRead a 0 2 false) (error.NotResident 0)
    ∷ read_in 1 0
    ∷ answers 1 9 (call.CopyRead a 0 2 true) (reply.Read (171 ∷ 90 ∷ []))
    ∷ answers 1 10 (call.Uninitialise a None) (reply.Value (value.Flag true))
    ∷ [])

-- wrong: the map goes with its last object, though a page is dirty
abbrev pub gone_while_dirty : List Entry
gone_while_dirty =
    reverse (
    opened 8192 8192
    ∷ read_in 1 0
    ∷ done 1 1 (call.CopyWrite a 0 (171 ∷ []))
    ∷ answers 1 2 (call.Uninitialise a None) (reply.Value (value.Flag true))
    ∷ [])

-- wrong: an object that went reads on
abbrev pub read_without_object : List Entry
read_without_object = reverse (closing ++ answers 1 6 (call.CopyRead a 0 1 true) (reply.Read (171 ∷ [])) ∷ [])

-- wrong: the page comes in though the map went
abbrev pub page_without_map : List Entry
page_without_map = reverse (closed ++ read_in 1 0 ∷ [])

-- wrong: the stream comes back with more valid bytes than it left
abbrev pub valid_raised : List Entry
valid_raised = reverse (closed ++ done 1 6 (call.Initialise a (sized 9000 8500) 16 false) ∷ [])

-- wrong: the page outlives the map
abbrev pub page_outlives_map : List Entry
page_outlives_map = reverse (opened_again ++ answers 1 8 (call.CopyRead a 0 2 false) (reply.Read (171 ∷ 90 ∷ [])) ∷ [])

-- wrong: what was written is lost with the map
abbrev pub write_lost : List Entry
write_lost = reverse (opened_again ++ read_in 1 0 ∷ answers 1 8 (call.CopyRead a 0 2 true) (reply.Read (90 ∷ 90 ∷ [])) ∷ [])

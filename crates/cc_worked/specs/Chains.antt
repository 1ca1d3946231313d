-- Descriptor chains over two pages.
use Rattle.std.specs.Prelude.{List, [], ◌∷◌, ◌++◌, true, false, reverse}
use Rattle.cc_entry.specs.declared.call.Call.TheVariants as call
use Rattle.cc_entry.specs.declared.reply.Reply.TheVariants as reply
use Rattle.cc_entry.specs.declared.error.CcError.TheVariants as error
use Rattle.cc_entry.specs.declared.entry.Entry.{Entry}
use Rattle.cc_worked.specs.Values.{a, opened, done, answers, refused, dirty_is, read_in}

-- a chain for writing, a store over the boundary of its pages, and an abort; then a chain for reading
abbrev pub stored : List Entry
stored =
    opened 8192 8192
    ∷ read_in 1 0
    ∷ read_in 1 1
    ∷ answers 1 1 (call.MdlWrite a 4000 200) (reply.Hold 1)
    ∷ done 1 2 (call.MdlStore 1 4095 (171 ∷ 205 ∷ []))
    ∷ done 1 3 (call.EndHold 1)
    ∷ answers 1 4 (call.MdlRead a 4094 4) (reply.Hold 2)
    ∷ []

-- the chain for reading shows the store, and both pages are dirty
abbrev pub read_back : List Entry
read_back =
    reverse (
    stored
    ++ answers 1 5 (call.MdlBytes 2 4094 4) (reply.Read (90 ∷ 171 ∷ 205 ∷ 90 ∷ []))
    ∷ done 1 6 (call.EndHold 2)
    ∷ dirty_is 1 7 true
    ∷ [])

-- wrong: the abort takes the store back
abbrev pub store_taken_back : List Entry
store_taken_back = reverse (stored ++ answers 1 5 (call.MdlBytes 2 4094 4) (reply.Read (90 ∷ 90 ∷ 90 ∷ 90 ∷ [])) ∷ [])

-- wrong: a chain for reading is stored into
abbrev pub stored_for_reading : List Entry
stored_for_reading = reverse (stored ++ done 1 5 (call.MdlStore 2 4095 (171 ∷ [])) ∷ [])

-- wrong: a chain is read past its range
abbrev pub read_past_chain : List Entry
read_past_chain = reverse (stored ++ answers 1 5 (call.MdlBytes 2 4097 2) (reply.Read (90 ∷ 90 ∷ [])) ∷ [])

-- wrong: a chain is read by a caller that did not make it
abbrev pub chain_of_another_read : List Entry
chain_of_another_read = reverse (stored ++ answers 2 1 (call.MdlBytes 2 4094 4) (reply.Read (90 ∷ 171 ∷ 205 ∷ 90 ∷ [])) ∷ [])

-- wrong: a chain is read after its end
abbrev pub ended_chain_read : List Entry
ended_chain_read = answers 1 8 (call.MdlBytes 2 4094 4) (reply.Read (90 ∷ 171 ∷ 205 ∷ 90 ∷ [])) ∷ read_back

-- wrong: a chain is made with one of its two pages in the cache
abbrev pub half_a_chain : List Entry
half_a_chain = reverse (opened 8192 8192 ∷ read_in 1 0 ∷ answers 1 1 (call.MdlWrite a 4000 200) (reply.Hold 1) ∷ [])

-- a chain around the valid data length 5000
abbrev pub chain_around_valid : List Entry
chain_around_valid = opened 8192 5000 ∷ read_in 1 1 ∷ answers 1 1 (call.MdlWrite a 4096 4096) (reply.Hold 1) ∷ []

-- a store that starts past the valid data length is refused, one that starts there is done
abbrev pub stored_at_valid : List Entry
stored_at_valid =
    reverse (
    chain_around_valid
    ++ refused 1 2 (call.MdlStore 1 5001 (171 ∷ [])) (error.BeyondValid 5000)
    ∷ done 1 3 (call.MdlStore 1 5000 (171 ∷ []))
    ∷ answers 1 4 (call.CopyRead a 4999 3 false) (reply.Read (90 ∷ 171 ∷ 0 ∷ []))
    ∷ [])

-- wrong: it is done past the valid data length
abbrev pub hole_in_chain : List Entry
hole_in_chain = reverse (chain_around_valid ++ done 1 2 (call.MdlStore 1 5001 (171 ∷ [])) ∷ [])

-- chains of more than the limit are refused, of either kind, also where they pass the size
abbrev pub chains_too_long : List Entry
chains_too_long =
    reverse (
    opened 2097152 2097152
    ∷ refused 1 1 (call.MdlRead a 0 1048577) (error.TooLong 1048576)
    ∷ refused 1 2 (call.MdlWrite a 2097152 1048577) (error.TooLong 1048576)
    ∷ [])

-- wrong: chains of the limit itself are
abbrev pub read_chain_of_limit : List Entry
read_chain_of_limit = reverse (opened 2097152 2097152 ∷ refused 1 1 (call.MdlRead a 0 1048576) (error.TooLong 1048576) ∷ [])

abbrev pub write_chain_of_limit : List Entry
write_chain_of_limit = reverse (opened 2097152 2097152 ∷ refused 1 1 (call.MdlWrite a 0 1048576) (error.TooLong 1048576) ∷ [])

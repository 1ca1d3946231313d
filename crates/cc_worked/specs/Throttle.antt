-- Deferred writes: which writes are held back, and in which order they are posted.
use Rattle.std.specs.Prelude.{List, [], ◌∷◌, ◌++◌, true, false, reverse}
use Rattle.std.specs.declared.option.Option.TheVariants.{None}
use Rattle.cc_entry.specs.declared.call.Call.TheVariants as call
use Rattle.cc_entry.specs.declared.query.Query.TheVariants as query
use Rattle.cc_entry.specs.declared.reply.Reply.TheVariants as reply
use Rattle.cc_entry.specs.declared.query.Value.TheVariants as value
use Rattle.cc_entry.specs.declared.entry.Entry.{Entry}
use Rattle.cc_entry.specs.declared.entry.Entry.TheVariants as entry
use Rattle.cc_worked.specs.Values.{a, second, opened, done, answers, read_in, written, synced}

-- two writes of a page are deferred
abbrev pub two_deferred : List Entry
two_deferred = opened 8192 8192 ∷ entry.Defer 1 1 a 1 false ∷ entry.Defer 1 2 a 1 false ∷ []

-- they are posted in the order in which they came
abbrev pub posted_in_order : List Entry
posted_in_order = reverse (two_deferred ++ entry.Posted 1 ∷ entry.Posted 2 ∷ [])

-- one that is tried again goes to the head of the queue
abbrev pub retried : List Entry
retried = two_deferred ++ entry.Defer 2 3 a 1 true ∷ []

abbrev pub retry_posted_first : List Entry
retry_posted_first = reverse (retried ++ entry.Posted 3 ∷ entry.Posted 1 ∷ [])

-- wrong: the second is posted before the first
abbrev pub posted_out_of_order : List Entry
posted_out_of_order = reverse (two_deferred ++ entry.Posted 2 ∷ [])

-- wrong: one is posted twice
abbrev pub posted_twice : List Entry
posted_twice = reverse (two_deferred ++ entry.Posted 1 ∷ entry.Posted 1 ∷ [])

-- wrong: one that is tried again waits behind the others
abbrev pub retry_posted_last : List Entry
retry_posted_last = reverse (retried ++ entry.Posted 1 ∷ [])

-- wrong: a number of a deferral comes twice
abbrev pub number_deferred_twice : List Entry
number_deferred_twice = reverse (two_deferred ++ entry.Defer 1 2 a 1 false ∷ [])

-- wrong: a write is deferred of an object that is not open
abbrev pub uncached_deferred : List Entry
uncached_deferred = reverse (two_deferred ++ entry.Defer 1 3 second 1 false ∷ [])

-- The cache may have fewer than four dirty pages: with three, a write of one more is held back.
abbrev pub held_back : List Entry
held_back =
    opened 65536 65536
    ∷ read_in 1 0
    ∷ done 1 1 (call.CopyWrite a 0 (171 ∷ []))
    ∷ read_in 1 1
    ∷ done 1 2 (call.CopyWrite a 4096 (171 ∷ []))
    ∷ read_in 1 2
    ∷ done 1 3 (call.CopyWrite a 8192 (171 ∷ []))
    ∷ answers 1 4 (call.Query (query.CanWrite a 4096)) (reply.Value (value.Flag false))
    ∷ entry.Defer 1 1 a 1 false
    ∷ []

-- a flush lets it go; then a limit of the stream's own holds a write back
abbrev pub let_go : List Entry
let_go =
    reverse (
    held_back
    ++ written 1 0
    ++ written 1 1
    ++ written 1 2
    ++ synced 1
    ∷ done 1 5 (call.Flush a None)
    ∷ entry.Posted 1
    ∷ answers 1 6 (call.Query (query.CanWrite a 4096)) (reply.Value (value.Flag true))
    ∷ done 1 7 (call.SetThreshold a 2)
    ∷ done 1 8 (call.CopyWrite a 0 (171 ∷ []))
    ∷ answers 1 9 (call.Query (query.CanWrite a 4096)) (reply.Value (value.Flag false))
    ∷ [])

-- wrong: it is posted while it may not go
abbrev pub posted_while_held : List Entry
posted_while_held = reverse (held_back ++ entry.Posted 1 ∷ [])

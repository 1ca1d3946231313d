-- Room in the journal: what an entry asks, and what is left.
use Rattle.std.specs.Prelude.{ℕ, List, [], ◌∷◌, ◌++◌, ◌+◌, true, false, reverse, map}
use Rattle.std.specs.List.{range_with_len}
use Rattle.std.specs.declared.option.Option.TheVariants.{None}
use Rattle.cc_entry.specs.declared.call.Call.TheVariants as call
use Rattle.cc_entry.specs.declared.reply.Reply.TheVariants as reply
use Rattle.cc_entry.specs.declared.entry.Entry.{Entry}
use Rattle.cc_model.specs.Setup.{Setup}
use Rattle.cc_worked.specs.Values.{setup, a, opened, done, answers, read_in, begins, ends}
use Rattle.cc_worked.specs.Stores.{whole}

-- the setup with a journal of so many entries
abbrev pub with_capacity : ℕ → Setup
with_capacity n = record setup { capacity = n }

-- a pin of the first page, a write to it, and its stamp
abbrev pub pinned : List Entry
pinned = reverse (opened 8192 8192 ∷ read_in 1 0 ∷ answers 1 1 (call.PinRead a 0 16 false) (reply.Hold 1) ∷ [])

abbrev pub pinned_write : ℕ → Entry
pinned_write nth = done 1 nth (call.PinnedWrite 1 0 (171 ∷ []))

abbrev pub stamp : ℕ → Entry
stamp nth = done 1 nth (call.SetDirty 1 None)

abbrev pub end_of_pin : ℕ → Entry
end_of_pin nth = done 1 nth (call.EndHold 1)

abbrev pub owing : List Entry
owing = pinned_write 2 ∷ pinned

abbrev pub stamped : List Entry
stamped = stamp 3 ∷ owing

-- the transfer of the page begins
abbrev pub begun : List Entry
begun = begins 2 0 ∷ stamped

-- a noncached write of the second page: its store and its begin, its good end, and the write's own
abbrev pub store : Entry
store = done 2 1 (call.NcStore a 1 whole)

abbrev pub transferred : List Entry
transferred = ends 2 1 ∷ begins 2 1 ∷ store ∷ stamped

abbrev pub finish : ℕ → Entry
finish nth = done 2 nth (call.NcWrite a 1)

-- another call of the same caller before the write's own end
abbrev pub another_call : Entry
another_call = done 2 2 (call.SetThreshold a 2)

-- n copied reads by a second caller after a past, of a byte that nothing changed
abbrev pub reads_after : ℕ → List Entry → List Entry
reads_after n past = reverse (map (λ k. answers 2 (k + 1) (call.CopyRead a 100 1 true) (reply.Read (90 ∷ []))) (range_with_len 0 n)) ++ past

-- a stream and a page of it, to which a journal of 64 entries has room for 62 reads
abbrev pub read_in_once : List Entry
read_in_once = reverse (opened 8192 8192 ∷ read_in 2 0 ∷ [])

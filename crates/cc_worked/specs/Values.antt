-- What the worked journals and pieces share: the setup, file objects, pages, short forms of entries, and what it is
-- to leave a piece.
use Rattle.std.specs.Prelude.{ℕ, List, [], ◌∷◌, ◌++◌, Bool, true, false, replicate}
use Rattle.std.specs.declared.option.Option.TheVariants.{Some, None}
use Rattle.cc_entry.specs.Place.{File, Page}
use Rattle.cc_entry.specs.declared.place.FileSizes.{FileSizes}
use Rattle.cc_entry.specs.declared.place.DirtyRow.{DirtyRow}
use Rattle.cc_entry.specs.declared.call.Call.{Call}
use Rattle.cc_entry.specs.declared.call.Call.TheVariants as call
use Rattle.cc_entry.specs.declared.query.Query.TheVariants as query
use Rattle.cc_entry.specs.declared.reply.Reply.{Reply}
use Rattle.cc_entry.specs.declared.reply.Reply.TheVariants as reply
use Rattle.cc_entry.specs.declared.query.Value.TheVariants as value
use Rattle.cc_entry.specs.declared.reply.Outcome.TheVariants as outcome
use Rattle.cc_entry.specs.declared.answer.Answer.{Answer}
use Rattle.cc_entry.specs.declared.answer.Answer.TheVariants as answer
use Rattle.cc_entry.specs.declared.error.CcError.{CcError}
use Rattle.cc_entry.specs.declared.entry.End.TheVariants as how
use Rattle.cc_entry.specs.declared.entry.Entry.{Entry}
use Rattle.cc_entry.specs.declared.entry.Entry.TheVariants as entry
use Rattle.cc_model.specs.Setup.{Setup}
use Rattle.cc_effects.specs.Moments.{Between}
use Rattle.cc_effects.specs.Calls.{CallLeft}

-- Every page of every disk is 4096 times the byte 90, there are four logs, and the cache may have fewer
-- dirty pages than the threshold.
abbrev pub with_threshold : ℕ → Setup
with_threshold n = record { opening = λ s. Some (λ p. replicate 4096 90); logs = 4; capacity = 1048576; threshold = n }

abbrev pub setup : Setup
setup = with_threshold 1024

-- the same with disks that do not tell what they hold
abbrev pub untold : Setup
untold = record setup { opening = λ s. None }

-- two file objects of stream 0, and one of stream 1
abbrev pub a : File
a = record { stream = 0; object = 0 }

abbrev pub second : File
second = record { stream = 0; object = 1 }

abbrev pub b : File
b = record { stream = 1; object = 0 }

-- a page of stream 0
abbrev pub page : ℕ → Page
page p = record { stream = 0; page = p }

-- sizes with all of the allocation in use, valid up to a place
abbrev pub sized : ℕ → ℕ → FileSizes
sized size valid = record { allocation = size; size = size; valid = valid }

-- A caller's call on stream 0, by its number among the caller's calls: done with a reply, done with no
-- more to say, or refused.
abbrev pub answers : ℕ → ℕ → Call → Reply → Entry
answers pass nth it r = entry.Call pass nth (Some 0) it (outcome.Done r)

abbrev pub done : ℕ → ℕ → Call → Entry
done pass nth it = answers pass nth it reply.Unit

abbrev pub refused : ℕ → ℕ → Call → CcError → Entry
refused pass nth it e = entry.Call pass nth (Some 0) it (outcome.Failed e)

-- the question whether a page is dirty, and its answer; it is of no stream
abbrev pub dirty_is : ℕ → ℕ → Bool → Entry
dirty_is pass nth flag = entry.Call pass nth None (call.Query query.IsDirtyData) (outcome.Done (reply.Value (value.Flag flag)))

-- the row of the first page in a dirty page table
abbrev pub row : ℕ → ℕ → DirtyRow
row oldest newest = record { page = page 0; oldest = oldest; newest = newest }

-- stream 0 is initialised before the first caller comes
abbrev pub opened : ℕ → ℕ → Entry
opened size valid = done 0 1 (call.Initialise a (sized size valid) 16 false)

-- a page of stream 0 comes in from the disk, goes out, or is written whole
abbrev pub read_in : ℕ → ℕ → Entry
read_in pass p = entry.PageIn pass (page p) true

abbrev pub goes_out : ℕ → ℕ → Entry
goes_out pass p = entry.PageOut pass (page p)

abbrev pub begins : ℕ → ℕ → Entry
begins pass p = entry.WriteBegin pass (page p)

abbrev pub ends : ℕ → ℕ → Entry
ends pass p = entry.WriteEnd pass (page p) how.Good

abbrev pub fails : ℕ → ℕ → Entry
fails pass p = entry.WriteEnd pass (page p) how.Failed

abbrev pub written : ℕ → ℕ → List Entry
written pass p = begins pass p ∷ ends pass p ∷ []

-- the disk of stream 0 is synced
abbrev pub synced : ℕ → Entry
synced pass = entry.Sync pass 0 how.Good

-- all pages of stream 0 are discarded
abbrev pub discarded : ℕ → ℕ → Entry
discarded pass nth = done pass nth (call.Discard a None)

-- the answer of a line that has no more to say
abbrev pub unit : Answer
unit = answer.Given reply.Unit

-- the answer of a line that gives bytes
abbrev pub gives : List ℕ → Answer
gives bytes = answer.Given (reply.Read bytes)

-- On a past, a line that was answered so left this piece; or a call, a part of a call or a worker, each with answers of
-- its own type.
abbrev pub Leaves : {T : Type 0} → (T → Between) → T → List Entry → List Entry → Type 0
Leaves line told past piece = line told past (piece ++ past)

-- on a past, it was answered so and left nothing
abbrev pub LeavesNothing : {T : Type 0} → (T → Between) → T → List Entry → Type 0
LeavesNothing line told past = line told past past

-- on a past, a call of caller 1 was done with this reply, and left this piece
abbrev pub CallDone : Call → Reply → List Entry → List Entry → Type 0
CallDone it r past piece = CallLeft setup 1 it (outcome.Done r) past (piece ++ past)

-- on a past, a call of caller 1 failed so, and left this piece
abbrev pub CallFailed : Call → CcError → List Entry → List Entry → Type 0
CallFailed it e past piece = CallLeft setup 1 it (outcome.Failed e) past (piece ++ past)

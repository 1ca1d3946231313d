-- What lines leave: on holds, of the shim, and of the two workers. Each stretch has its newest entry first, and
-- stands on a past.
use Rattle.std.specs.Prelude.{ℕ, Bool, List, [], ◌∷◌, false}
use Rattle.std.specs.declared.option.Option.{Option}
use Rattle.std.specs.declared.option.Option.TheVariants.{None}
use Rattle.cc_entry.specs.declared.hold.HoldKind.{HoldKind}
use Rattle.cc_entry.specs.declared.hold.HoldKind.TheVariants as kind
use Rattle.cc_entry.specs.declared.call.Call.{Call}
use Rattle.cc_entry.specs.declared.call.Call.TheVariants as call
use Rattle.cc_entry.specs.declared.reply.Reply.{Reply}
use Rattle.cc_entry.specs.declared.reply.Reply.TheVariants as reply
use Rattle.cc_entry.specs.declared.answer.Answer.{Answer}
use Rattle.cc_entry.specs.declared.answer.Answer.TheVariants as answer
use Rattle.cc_entry.specs.declared.entry.Entry.{Entry}
use Rattle.cc_entry.specs.declared.answer.LineReply.{LineReply}
use Rattle.cc_effects.specs.Moments.{Between}
use Rattle.cc_pieces.specs.Bindings.{Binding}
use Rattle.cc_pieces.specs.HoldLines.{PinMappedLine, HeldReadLine, PinnedWriteLine, StampLine, UnpinLine, RepinLine, UnrepinLine}
use Rattle.cc_pieces.specs.HoldLines.{ChainReadLine, ChainStoreLine, ChainDoneLine, ChainAbortLine}
use Rattle.cc_worked.specs.Values.{setup, a, opened, done, answers, read_in, Leaves}
use Rattle.cc_worked.specs.PiecesWithoutEntry.{one_written}

-- the word of a hold, by its number
abbrev pub word : ℕ
word = 0

-- the caller's one binding, of the word to a map
abbrev pub one_map : List Binding
one_map = record { word = word; id = 1; kind = kind.Map } ∷ []

-- the same of a hold of another kind
abbrev pub one_of : HoldKind → List Binding
one_of its_kind = record { word = word; id = 1; kind = its_kind } ∷ []

-- the same of a pin, and of a chain of each kind
abbrev pub one_pin : List Binding
one_pin = one_of kind.Pin

abbrev pub one_read_chain : List Binding
one_read_chain = one_of kind.ReadChain

abbrev pub one_write_chain : List Binding
one_write_chain = one_of kind.WriteChain

-- another word
abbrev pub other_word : ℕ
other_word = 1

-- a page is mapped
abbrev pub mapped : List Entry
mapped = answers 1 1 (call.Map a 0 16) (reply.Hold 1) ∷ read_in 1 0 ∷ opened 8192 8192 ∷ []

-- the map ends
abbrev pub map_ends : List Entry
map_ends = done 1 2 (call.EndHold 1) ∷ []

-- the first bytes are held by such a call, as hold 1
abbrev pub held_by : Call → List Entry
held_by make = answers 1 1 make (reply.Hold 1) ∷ read_in 1 0 ∷ opened 8192 8192 ∷ []

-- they are pinned
abbrev pub pinned_range : List Entry
pinned_range = held_by (call.PinRead a 0 16 false)

-- a repin of it stands alone
abbrev pub repinned_range : List Entry
repinned_range = done 1 3 (call.EndHold 1) ∷ answers 1 2 (call.Repin 1) (reply.Hold 2) ∷ pinned_range

-- the word names the repin
abbrev pub one_repin : List Binding
one_repin = record { word = word; id = 2; kind = kind.Repin } ∷ []

-- the first bytes are held by a chain that is read, or by one that is stored into
abbrev pub read_chain_range : List Entry
read_chain_range = held_by (call.MdlRead a 0 16)

abbrev pub write_chain_range : List Entry
write_chain_range = held_by (call.MdlWrite a 0 16)

-- the caller's next call, with its reply
abbrev pub next : Call → Reply → List Entry
next it r = answers 1 2 it r ∷ []

-- on a past, the line makes this call, the caller's next, and answers what that replies
abbrev pub MakesCall : (Answer → Between) → List Entry → Call → Reply → Type 0
MakesCall line past it r = Leaves line (answer.Given r) past (next it r)

-- Lines of caller 1 on the hold that the word names by its bindings: a map is pinned, shared.
abbrev pub PinOn : List Binding → Answer → Between
PinOn bindings = PinMappedLine setup 1 bindings word false

-- the first byte of a map or a pin is read
abbrev pub ReadOn : List Binding → Answer → Between
ReadOn bindings = HeldReadLine setup 1 bindings word 0 1

-- the byte AB is written to the first byte of a pin
abbrev pub WriteOn : List Binding → Answer → Between
WriteOn bindings = PinnedWriteLine setup 1 bindings word 0 (171 ∷ [])

-- a pin is set dirty, with an LSN or without
abbrev pub StampOn : List Binding → Option ℕ → Answer → Between
StampOn bindings lsn = StampLine setup 1 bindings word lsn

-- a map or a pin ends
abbrev pub UnpinOn : List Binding → Answer → Between
UnpinOn bindings = UnpinLine setup 1 bindings word

-- a pin is repinned
abbrev pub RepinOn : List Binding → Answer → Between
RepinOn bindings = RepinLine setup 1 bindings word

-- a repin ends, with write through or without
abbrev pub UnrepinOn : List Binding → Bool → Answer → Between
UnrepinOn bindings through = UnrepinLine setup 1 bindings word through

-- the first byte of a read chain is read
abbrev pub ChainReadOn : List Binding → Answer → Between
ChainReadOn bindings = ChainReadLine setup 1 bindings word 0 1

-- the byte AB is stored into the first byte of a write chain
abbrev pub ChainStoreOn : List Binding → Answer → Between
ChainStoreOn bindings = ChainStoreLine setup 1 bindings word 0 (171 ∷ [])

-- a chain ends
abbrev pub ChainDoneOn : List Binding → Answer → Between
ChainDoneOn bindings = ChainDoneLine setup 1 bindings word

-- a write chain is aborted
abbrev pub ChainAbortOn : List Binding → Answer → Between
ChainAbortOn bindings = ChainAbortLine setup 1 bindings word

-- a tick's answer in a phase
abbrev pub tick_in : ℕ → LineReply
tick_in phase = record { line = phase; answer = answer.Ticked one_written }

-- a step that found no request
abbrev pub no_request : LineReply
no_request = record { line = 1; answer = answer.Stepped None }

-- What a list of calls leaves.
use Rattle.std.specs.Prelude.{◌≡◌, ◌==◌, ℕ, ◌+◌, ◌≤◌, Bool, true, false, nat_lt, List, ◌++◌, length, Result, Ok, Err}
use Rattle.std.specs.declared.option.Option.{Option}
use Rattle.std.specs.declared.option.Option.TheVariants.{Some, None}
use Rattle.std.specs.List.{list_any}
use Rattle.cc_entry.specs.Place.{File}
use Rattle.cc_entry.specs.Kinds.{is_pin}
use Rattle.cc_entry.specs.Pages.{has_page}
use Rattle.cc_entry.specs.declared.call.Call.{Call}
use Rattle.cc_entry.specs.declared.call.Call.TheVariants as call
use Rattle.cc_entry.specs.declared.error.CcError.{CcError}
use Rattle.cc_entry.specs.declared.error.CcError.TheVariants as error
use Rattle.cc_entry.specs.declared.entry.Entry.{Entry}
use Rattle.cc_entry.specs.declared.reply.Outcome.TheVariants as outcome
use Rattle.cc_entry.specs.declared.reply.Reply.TheVariants as reply
use Rattle.cc_model.specs.History.{history}
use Rattle.cc_model.specs.Passes.{HasSeen}
use Rattle.cc_model.specs.Setup.{Setup}
use Rattle.cc_model.specs.Sizes.{Touch}
use Rattle.cc_model.specs.Touches.{unwritten}
use Rattle.cc_effects.specs.Calls.{CallLeft}
use Rattle.cc_effects.specs.Moments.{AtSome, Between}
use Rattle.cc_turns.specs.Standing.{Standing}
use Rattle.cc_writes.specs.Ways.{IsFullError}
use Rattle.cc_calls.specs.Held.{IsHolding}
use Rattle.cc_calls.specs.Pages.{StaysGood, WentOn}
use Rattle.cc_calls.specs.declared.held.Held.{Held}
use Rattle.cc_pieces.specs.Shim.{CallsLeft, WriteTested}

-- Where it is answered that the journal is full, it was so at a moment: it had so many entries, and no room for so many more
-- beside what was owed and under way, of which others had no more than they ever have.
abbrev pub WasFullError : ℕ → Standing → Standing → CcError → Type 0
WasFullError asked old new (error.JournalFull entries) =
    AtSome
    (λ moment. (others : ℕ) × (others ≤ old.most_others)
    × IsFullError asked (record old { seen = moment; others = others }) (error.JournalFull entries))
    old.seen
    new.seen
WasFullError asked old new other = Unit {0}

-- So of a list of calls, of which each asks two places at most.
abbrev pub CallListWasFull : {A : Type 0} → Standing → Standing → Result A CcError → Type 0
CallListWasFull old new (Ok a) = Unit {0}
CallListWasFull old new (Err e) = WasFullError 2 old new e

-- A list of calls was answered so: it left what explains the answer, a journal that is told to be full was full, the pass
-- goes on as it stood and may call again, what it had seen stands, and what it has seen stays good.
pub record ListEnds {A : Type 0} (old new : Standing) (Left : Result A CcError → Between) (answer : Result A CcError) : Type 0 where
  pub left : Left answer old.seen new.seen
  pub full : CallListWasFull old new answer
  pub goes_on : WentOn old new
  pub grew : HasSeen old.seen new.seen
  pub good : StaysGood old new

-- The first calls of a list were done, so that what the rest leaves behind them the whole list has left; or one of them was
-- refused, which ends the list, whatever the rest is.
abbrev pub FirstLeft : Setup → ℕ → List Call → Result (Unit {0}) CcError → Between
FirstLeft u me calls (Ok done) old new =
    (rest : List Call) (answered : Result (Unit {0}) CcError) (last : List Entry) → CallsLeft u me rest answered new last
    → CallsLeft u me (calls ++ rest) answered old last
FirstLeft u me calls (Err e) old new = (rest : List Call) → CallsLeft u me (calls ++ rest) (Err e) old new

-- a write that extends the stream
abbrev pub ExtendingWriteLeft : Setup → ℕ → File → ℕ → List ℕ → Result (Unit {0}) CcError → Between
ExtendingWriteLeft u me file at bytes answered old new = WriteTested u me file at bytes (nat_lt 1048576 (length bytes)) answered old new

-- A list of calls under a pin was answered so, and the pass has the pin still.
pub record PinnedEnds {A : Type 0} (old new : Standing) (pin : Held) (Left : Result A CcError → Between)
    (answer : Result A CcError) : Type 0 where
  pub ends : ListEnds old new Left answer
  pub holding : IsHolding new is_pin pin

-- The pass made the pin of a range for itself alone, as it has seen it last.
abbrev pub WasPinned : Standing → File → ℕ → ℕ → ℕ → Type 0
WasPinned w file at len id =
    (before : List Entry)
    × CallLeft w.setup w.number (call.PinRead file at len true) (outcome.Done (reply.Hold id)) before w.seen

-- whether a touch of a page is a stamp with the LSN
abbrev pub is_lsn : ℕ → Option ℕ → Bool
is_lsn lsn None = false
is_lsn lsn (Some other) = other == lsn

abbrev pub has_lsn : ℕ → Touch → Bool
has_lsn lsn touch = is_lsn lsn touch.lsn

-- At a moment each page of a range of the stream bears the LSN: among its stamps that are neither written nor cut is one
-- with it.
abbrev pub BearsLsn : File → ℕ → ℕ → ℕ → Between
BearsLsn file at len lsn old new =
    AtSome
    (λ moment. (p : ℕ) → has_page (record { from = at; to = at + len }) p ≡ true →
    list_any (has_lsn lsn) (unwritten (history moment file.stream) p) ≡ true)
    old
    new

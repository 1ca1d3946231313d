-- Turns: what the placer of an entry has to hold.
use Rattle.std.specs.Prelude.{ℕ, Bool, true, false, not, ◌||◌, ◌==◌, List}
use Rattle.std.specs.declared.option.Option.{Option}
use Rattle.std.specs.declared.option.Option.TheVariants.{Some, None}
use Rattle.std.specs.List.{list_all}
use Rattle.cc_entry.specs.declared.call.Call.{Call}
use Rattle.cc_entry.specs.declared.call.Call.TheVariants as call
use Rattle.cc_entry.specs.declared.reply.Outcome.{Outcome}
use Rattle.cc_entry.specs.declared.reply.Outcome.TheVariants as outcome
use Rattle.cc_entry.specs.declared.entry.Entry.{Entry}
use Rattle.cc_entry.specs.declared.entry.Entry.TheVariants as entry

pub data Turn : Type 0 where
  -- of a stream's disk, and of its book
  Device : (stream : ℕ) → Turn
  Book : (stream : ℕ) → Turn
  Log : (handle : ℕ) → Turn
  Journal : Turn

abbrev pub is_device : ℕ → Turn → Bool
is_device s (Device stream) = stream == s
is_device s other = false

abbrev pub is_book : ℕ → Turn → Bool
is_book s (Book stream) = stream == s
is_book s other = false

abbrev pub is_log_turn : ℕ → Turn → Bool
is_log_turn h (Log handle) = handle == h
is_log_turn h other = false

abbrev pub is_journal : Turn → Bool
is_journal Journal = true
is_journal other = false

-- the turns of a stream that a call needs: its book, and where a noncached page was read or stored, or
-- pages were discarded, its disk too
abbrev pub call_needs : Option ℕ → Call → Outcome → Turn → Bool
call_needs None call ended turn = false
call_needs (Some s) (call.NcStore file page bytes) (outcome.Done reply) turn = is_book s turn || is_device s turn
call_needs (Some s) (call.NcRead file page) (outcome.Done reply) turn = is_book s turn || is_device s turn
call_needs (Some s) (call.Discard file span) (outcome.Done reply) turn = is_book s turn || is_device s turn
call_needs (Some s) other ended turn = is_book s turn

-- Whether the placer of an entry needs a turn; every entry needs the journal's. A stream without a disk
-- has no turns, so what is said of it binds nobody.
abbrev pub needs : Entry → Turn → Bool
needs (entry.Call pass nth stream call ended) turn = is_journal turn || call_needs stream call ended turn
needs (entry.PageIn pass page from_disk) turn = is_journal turn || (is_book page.stream turn || is_device page.stream turn)
needs (entry.PageOut pass page) turn = is_journal turn || (is_book page.stream turn || is_device page.stream turn)
needs (entry.FillFailed pass page) turn = is_journal turn || is_device page.stream turn
needs (entry.WriteBegin pass page) turn = is_journal turn || (is_book page.stream turn || is_device page.stream turn)
needs (entry.WriteEnd pass page how) turn = is_journal turn || (is_book page.stream turn || is_device page.stream turn)
needs (entry.Sync pass stream how) turn = is_journal turn || is_device stream turn
needs (entry.Append pass handle lsn bytes) turn = is_journal turn || is_log_turn handle turn
needs (entry.Flushed pass handle to) turn = is_journal turn || is_log_turn handle turn
needs (entry.LogFailed pass handle) turn = is_journal turn || is_log_turn handle turn
needs (entry.Defer pass id file pages retrying) turn = is_journal turn || is_book file.stream turn
needs (entry.Posted id) turn = is_journal turn
needs (entry.Scan pass picked) turn = is_journal turn
needs (entry.Record pass stream size valid how) turn = is_journal turn || (is_book stream turn || is_device stream turn)
needs (entry.RecordFailed pass stream) turn = is_journal turn || is_device stream turn
needs (entry.Locked pass file span exclusive granted id) turn = is_journal turn
needs (entry.Unlocked pass file id gone) turn = is_journal turn
needs (entry.Tested pass file span write conflict) turn = is_journal turn

-- whether none of the entries needs the turn
unfoldable pub is_quiet : Turn → List Entry → Bool
is_quiet turn entries = list_all (λ e. not (needs e turn)) entries

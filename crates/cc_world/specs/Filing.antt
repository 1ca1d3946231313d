-- What tells under which stream a call is filed.
use Rattle.std.specs.Prelude.{◌≡◌, ℕ, ◌<◌, ◌≤◌, Bool, true, false, not, List, [], length, slice_get}
use Rattle.std.specs.declared.option.Option.{Option}
use Rattle.std.specs.declared.option.Option.TheVariants.{Some, None}
use Rattle.cc_entry.specs.Queries.{is_of_stream, log_of_query}
use Rattle.cc_entry.specs.declared.call.Call.{Call}
use Rattle.cc_entry.specs.declared.call.Call.TheVariants as call
use Rattle.cc_entry.specs.declared.entry.Entry.{Entry}
use Rattle.cc_book.specs.Book.{BookStands}
use Rattle.cc_model.specs.Acts.{file_of}
use Rattle.cc_model.specs.History.{history}
use Rattle.cc_effects.specs.Events.{filed_under}
use Rattle.cc_world.specs.declared.filing.Filing.{Filing}
use Rattle.cc_world.specs.declared.filing.Filing.TheVariants as filing
use Rattle.cc_world.specs.declared.rows.StreamRow.{StreamRow}

-- a call is filed under no stream: it is a query that names no file
abbrev pub is_unfiled : Call → Bool
is_unfiled (call.Query query) = not (is_of_stream query)
is_unfiled other = false

-- the log that a call names
abbrev pub log_named : Call → Option ℕ
log_named (call.Query query) = log_of_query query
log_named other = None

-- There is a row for each stream to which something happened, at most 16, in their order, and its book stands.
pub record AreBooks {D : Type 0} (past : List Entry) (rows : List (StreamRow D)) : Type 0 where
  pub few : length rows ≤ 16
  pub stream : (s : ℕ) (row : StreamRow D) → slice_get rows s ≡ Some row → row.book.stream ≡ s
  pub stands : (s : ℕ) (row : StreamRow D) → slice_get rows s ≡ Some row →
      (opening : Option (ℕ → List ℕ)) × BookStands opening past row.book
  pub beyond : (s : ℕ) → length rows ≤ s → history past s ≡ []

-- Under which stream a call is filed. The stream of a hold is one of the rows'.
abbrev pub FilesUnder : ℕ → List Entry → Call → Filing → Type 0
FilesUnder rows past it (filing.Stream s) = (filed_under past it ≡ Some s) × (file_of it ≡ None → s < rows)
FilesUnder rows past it filing.Journal = (filed_under past it ≡ None) × (is_unfiled it ≡ true)
FilesUnder rows past it filing.NoHold = (filed_under past it ≡ None) × (is_unfiled it ≡ false)

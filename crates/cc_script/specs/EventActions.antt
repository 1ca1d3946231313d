-- The lines of `steps` alone, of read-ahead, of the throttle, and the settings of a stream: the words behind the verb, in their order.
use Rattle.std.specs.Prelude.{ℕ, suc, ◌==◌, Bool, true, false, Option, Some, None, List, [], ◌∷◌, length, if◌then◌else◌, codes}
use Rattle.cc_entry.specs.Place.{Page}
use Rattle.cc_script.specs.declared.script.Mode.{Mode}
use Rattle.cc_script.specs.declared.script.Mode.TheVariants as mode
use Rattle.cc_script.specs.declared.script.StreamLine.{StreamLine}
use Rattle.cc_script.specs.declared.script.Action.{Action}
use Rattle.cc_script.specs.declared.script.Action.TheVariants as action
use Rattle.cc_script.specs.declared.script.ActionLine.{ActionLine}
use Rattle.cc_script.specs.Outcome.{◌>>=◌}
use Rattle.cc_script.specs.Words.{parsed_number, number_between, parsed_bytes}
use Rattle.cc_script.specs.Actions.{next, flag, ended, stream_named, parsed_file, parsed_nc_read, parsed_nc_write}

-- PAGE: the number of a page, below 2^51
abbrev pub page_number : List ℕ → Option ℕ
page_number word = number_between 0 2251799813685247 word

-- NAME PAGE: a page of a stream
unfoldable pub parsed_page : List StreamLine → List (List ℕ) → Option (Page × List (List ℕ))
parsed_page streams ws = do
  stream ← next (stream_named streams) ws
  page ← next page_number stream.1
  Some (record { stream = stream.0; page = page.0 }, page.1)

-- fill NAME PAGE
unfoldable pub parsed_fill : List StreamLine → List (List ℕ) → Option Action
parsed_fill streams ws = do
  page ← parsed_page streams ws
  ended page.1 (action.Fill page.0)

-- out NAME PAGE
unfoldable pub parsed_drop : List StreamLine → List (List ℕ) → Option Action
parsed_drop streams ws = do
  page ← parsed_page streams ws
  ended page.1 (action.Drop page.0)

-- begin NAME PAGE
unfoldable pub parsed_write_begin : List StreamLine → List (List ℕ) → Option Action
parsed_write_begin streams ws = do
  page ← parsed_page streams ws
  ended page.1 (action.WriteBegin page.0)

-- end NAME PAGE
unfoldable pub parsed_write_end : List StreamLine → List (List ℕ) → Option Action
parsed_write_end streams ws = do
  page ← parsed_page streams ws
  ended page.1 (action.WriteEnd page.0)

-- sync NAME
unfoldable pub parsed_sync : List StreamLine → List (List ℕ) → Option Action
parsed_sync streams ws = do
  stream ← next (stream_named streams) ws
  ended stream.1 (action.Sync stream.0)

-- ncread FILE PAGE
unfoldable pub parsed_nc_read_page : List StreamLine → List (List ℕ) → Option Action
parsed_nc_read_page streams ws = do
  file ← next (parsed_file streams) ws
  page ← next page_number file.1
  ended page.1 (action.NcReadPage file.0 page.0)

-- ncstore FILE PAGE BYTES, the bytes of a whole page
unfoldable pub parsed_nc_store_page : List StreamLine → List (List ℕ) → Option Action
parsed_nc_store_page streams ws = do
  file ← next (parsed_file streams) ws
  page ← next page_number file.1
  bytes ← next parsed_bytes page.1
  if length bytes.0 == 4096 then ended bytes.1 (action.NcStorePage file.0 page.0 bytes.0) else None

-- ncwrite FILE PAGE
unfoldable pub parsed_nc_write_page : List StreamLine → List (List ℕ) → Option Action
parsed_nc_write_page streams ws = do
  file ← next (parsed_file streams) ws
  page ← next page_number file.1
  ended page.1 (action.NcWritePage file.0 page.0)

-- the noncached lines that both modes have, each in its own form
abbrev pub nc_read_in : Mode → List StreamLine → List (List ℕ) → Option Action
nc_read_in mode.Run streams ws = parsed_nc_read streams ws
nc_read_in mode.Steps streams ws = parsed_nc_read_page streams ws

abbrev pub nc_write_in : Mode → List StreamLine → List (List ℕ) → Option Action
nc_write_in mode.Run streams ws = parsed_nc_write streams ws
nc_write_in mode.Steps streams ws = parsed_nc_write_page streams ws

-- ask FILE AT LEN: any two numbers
unfoldable pub parsed_ask_ahead : List StreamLine → List (List ℕ) → Option Action
parsed_ask_ahead streams ws = do
  file ← next (parsed_file streams) ws
  at ← next parsed_number file.1
  len ← next parsed_number at.1
  ended len.1 (action.AskAhead file.0 at.0 len.0)

-- aread FILE AT LEN
unfoldable pub parsed_async_read : List StreamLine → List (List ℕ) → Option Action
parsed_async_read streams ws = do
  file ← next (parsed_file streams) ws
  at ← next parsed_number file.1
  len ← next (number_between 0 2097152) at.1
  ended len.1 (action.AsyncRead file.0 at.0 len.0)

-- defer FILE N [retry]
unfoldable pub parsed_defer : List StreamLine → List (List ℕ) → Option Action
parsed_defer streams ws = do
  file ← next (parsed_file streams) ws
  bytes ← next parsed_number file.1
  ended (flag (codes "retry") bytes.1).1 (action.Defer file.0 bytes.0 (flag (codes "retry") bytes.1).0)

-- granularity FILE N
unfoldable pub parsed_set_granularity : List StreamLine → List (List ℕ) → Option Action
parsed_set_granularity streams ws = do
  file ← next (parsed_file streams) ws
  bytes ← next parsed_number file.1
  ended bytes.1 (action.SetGranularity file.0 bytes.0)

-- attributes FILE A B: each 0 or 1
unfoldable pub parsed_set_attributes : List StreamLine → List (List ℕ) → Option Action
parsed_set_attributes streams ws = do
  file ← next (parsed_file streams) ws
  ahead ← next (number_between 0 1) file.1
  behind ← next (number_between 0 1) ahead.1
  ended behind.1 (action.SetAttributes file.0 (ahead.0 == 1) (behind.0 == 1))

-- fthreshold FILE N: a number below 2^32
unfoldable pub parsed_set_threshold : List StreamLine → List (List ℕ) → Option Action
parsed_set_threshold streams ws = do
  file ← next (parsed_file streams) ws
  pages ← next (number_between 0 4294967295) file.1
  ended pages.1 (action.SetThreshold file.0 pages.0)

-- how many lines are `defer`: each has a post routine of its own, in their order
abbrev pub is_defer : Action → Bool
is_defer (action.Defer _ _ _) = true
is_defer other = false

abbrev pub defer_lines : List ActionLine → ℕ
defer_lines [] = 0
defer_lines (line ∷ lines) = if is_defer line.action then suc (defer_lines lines) else defer_lines lines

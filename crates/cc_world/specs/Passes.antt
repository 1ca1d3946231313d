-- What is kept of each pass as entries come, and what it stands for.
use Rattle.std.specs.Prelude.{◌≡◌, ℕ, ◌<◌, nat_eq, cond, Bool, true, false, ◌&&◌, ◌||◌, is_some, List, length, if◌then◌else◌}
use Rattle.std.specs.declared.option.Option.{Option}
use Rattle.std.specs.declared.option.Option.TheVariants.{Some, None}
use Rattle.std.specs.List.{list_any}
use Rattle.std.specs.Map.{lookup}
use Rattle.std.specs.Option.{option_map, option_or}
use Rattle.cc_entry.specs.Place.{File, Page}
use Rattle.cc_entry.specs.declared.call.Call.{Call}
use Rattle.cc_entry.specs.declared.call.Call.TheVariants as call
use Rattle.cc_entry.specs.declared.entry.Entry.{Entry}
use Rattle.cc_entry.specs.declared.entry.Entry.TheVariants as entry
use Rattle.cc_entry.specs.declared.reply.Outcome.{Outcome}
use Rattle.cc_entry.specs.declared.reply.Outcome.TheVariants as outcome
use Rattle.cc_entry.specs.declared.reply.Reply.{Reply}
use Rattle.cc_model.specs.Faults.{faults_since, is_failed, oldest}
use Rattle.cc_model.specs.Passes.{is_mine, is_same_page, is_store, is_written_since, store_of, up_to_call}
use Rattle.cc_model.specs.Sizes.{ended_ok}
use Rattle.cc_world.specs.Faults.{fault_in}
use Rattle.cc_world.specs.declared.faults.Fault.{Fault}
use Rattle.cc_world.specs.declared.faults.Fault.TheVariants as fault
use Rattle.cc_world.specs.declared.blocks.PagePlace.{PagePlace}
use Rattle.cc_world.specs.declared.passes.PassRow.{PassRow}

-- the page at a place
abbrev pub page_at : PagePlace → Page
page_at place = record { stream = place.stream; page = place.page }

-- whether a page is the one that was stored, where one was
abbrev pub is_page_stored : Page → Option PagePlace → Bool
is_page_stored page None = false
is_page_stored page (Some place) = is_same_page page (page_at place)

-- what is kept of a pass that did nothing
abbrev pub no_row : PassRow
no_row = record { called = 0; stored = None; written = false; fault = None }

-- the row of a pass, where there is one
abbrev pub row_or_none : Option PassRow → PassRow
row_or_none None = no_row
row_or_none (Some row) = row

-- whether a pass has a row
abbrev pub has_row : List (ℕ × PassRow) → ℕ → Bool
has_row rows me = is_some (lookup (nat_eq me) rows)

-- where a pass has no row, there is room for one
abbrev pub HasRoomFor : ℕ → List (ℕ × PassRow) → ℕ → Type 0
HasRoomFor me rows most = has_row rows me ≡ false → length rows < most

-- what is kept of each pass, with this of one
abbrev pub IsPut : List (ℕ × PassRow) → List (ℕ × PassRow) → ℕ → PassRow → Type 0
IsPut old new pass row = (q : ℕ) → lookup (nat_eq q) new ≡ cond (nat_eq pass q) (Some row) (lookup (nat_eq q) old)

-- A row says of a pass how long the past up to its last call is, the page that this call stored, where it was a done noncached
-- store, whether that page was written since, and the oldest fault since its last call that is no such store.
pub record IsRowOfPass (past : List Entry) (me : ℕ) (row : PassRow) : Type 0 where
  pub called : row.called ≡ length (up_to_call past me)
  pub stored : option_map page_at row.stored ≡ store_of past me
  pub written : (page : Page) → store_of past me ≡ Some page → row.written ≡ is_written_since past me page
  pub fault : option_map fault_in row.fault ≡ oldest (faults_since past me)

-- The rows stand for a past: each pass has its row, which there is for pass 0 and for each pass that placed an entry.
pub record PassesStand (past : List Entry) (rows : List (ℕ × PassRow)) : Type 0 where
  pub each : (me : ℕ) → IsRowOfPass past me (row_or_none (lookup (nat_eq me) rows))
  pub first : has_row rows 0 ≡ true
  pub known : (me : ℕ) → list_any (is_mine me) past ≡ true → has_row rows me ≡ true

-- how many entries there are with the last call of a pass, after an entry of the pass that came at a place
abbrev pub called_after : ℕ → ℕ → Entry → ℕ
called_after place called (entry.Call pass nth stream it ended) = place
called_after place called other = called

-- where a call stored a page, being a done noncached store
abbrev pub place_stored : Option ℕ → Call → Outcome → Option PagePlace
place_stored (Some stream) (call.NcStore file page bytes) (outcome.Done reply) = Some (record { stream = stream; page = page })
place_stored stream other ended = None

abbrev pub stored_after : Option PagePlace → Entry → Option PagePlace
stored_after stored (entry.Call pass nth stream it ended) = place_stored stream it ended
stored_after stored other = stored

-- whether the page that was stored is written, after an entry of the pass
abbrev pub written_after : Option PagePlace → Bool → Entry → Bool
written_after stored written (entry.Call pass nth stream it ended) = false
written_after stored written (entry.WriteEnd pass page how) = (ended_ok how && is_page_stored page stored) || written
written_after stored written other = written

-- the older of two faults, where there is one
abbrev pub fault_after : Option Fault → Entry → Option Fault
fault_after known (entry.Call pass nth stream it ended) = if is_store it ended then known else None
fault_after known (entry.FillFailed pass page) = option_or known (Some (fault.Read page.page))
fault_after known (entry.WriteEnd pass page how) = if is_failed how then option_or known (Some (fault.Write page.page)) else known
fault_after known (entry.Sync pass stream how) = if is_failed how then option_or known (Some fault.Sync) else known
fault_after known (entry.LogFailed pass handle) = option_or known (Some (fault.Log handle))
fault_after known other = known

-- the row of a pass after an entry of it that came at a place
abbrev pub row_after : ℕ → PassRow → Entry → PassRow
row_after place row e = record {
  called = called_after place row.called e;
  stored = stored_after row.stored e;
  written = written_after row.stored row.written e;
  fault = fault_after row.fault e;
}

-- the row of a pass after its done noncached store of a page
abbrev pub row_stored : ℕ → PassRow → Page → PassRow
row_stored place row page = record {
  called = place;
  stored = Some (record { stream = page.stream; page = page.page });
  written = false;
  fault = row.fault;
}

-- the entry of a done noncached store of a page by a pass
abbrev pub store_entry : ℕ → ℕ → Page → File → List ℕ → Reply → Entry
store_entry pass nth page file bytes r =
    entry.Call pass nth (Some page.stream) (call.NcStore file page.page bytes) (outcome.Done r)

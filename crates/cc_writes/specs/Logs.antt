-- What the flush of a page's log asks and leaves.
use Rattle.std.specs.Prelude.{◌≡◌, ℕ, suc, ◌+◌, ◌<◌, ◌≤◌, ◌⊎◌, Result, Ok, Err, List, length}
use Rattle.std.specs.Option.{option_map}
use Rattle.std.specs.declared.option.Option.{Option}
use Rattle.std.specs.declared.option.Option.TheVariants.{Some, None}
use Rattle.cc_entry.specs.Place.{Page}
use Rattle.cc_entry.specs.declared.error.CcError.{CcError}
use Rattle.cc_entry.specs.declared.error.CcError.TheVariants as error
use Rattle.cc_entry.specs.declared.entry.Entry.{Entry}
use Rattle.cc_entry.specs.declared.entry.Entry.TheVariants as entry
use Rattle.cc_dirty.specs.declared.row.Row.{Row}
use Rattle.cc_journal.specs.Journal.{JournalState, room_of}
use Rattle.cc_journal.specs.Rows.{later_in}
use Rattle.cc_model.specs.Covered.{IsLogged, IsNextLsn}
use Rattle.cc_model.specs.History.{history}
use Rattle.cc_model.specs.Logs.{flushed_to}
use Rattle.cc_model.specs.Settings.{log_of}
use Rattle.cc_model.specs.Stamps.{newest_of}
use Rattle.cc_turns.specs.Standing.{Standing, nothing}
use Rattle.cc_turns.specs.Takes.{Grows}
use Rattle.cc_writes.specs.Hands.{Went, WentWith}
use Rattle.cc_writes.specs.Visits.{HasPlaced}
use Rattle.cc_writes.specs.declared.log.LogFlush.{LogFlush}
use Rattle.cc_writes.specs.declared.log.LogFlush.TheVariants as flush

-- room in the journal, or memory, was wanting
abbrev pub IsWant : CcError → Type 0
IsWant (error.JournalFull entries) = Unit {0}
IsWant error.NoMemory = Unit {0}
IsWant other = ⊥

-- the newest LSN that is stamped on a page and not yet written
abbrev pub newest_on : Page → List Entry → Option ℕ
newest_on page past = newest_of (history past page.stream) page.page

-- The log of a page's stream, and the page's newest LSN, to which it was not flushed yet.
pub record IsDue (page : Page) (handle to : ℕ) (past : List Entry) : Type 0 where
  pub log : log_of (history past page.stream) ≡ Some handle
  pub newest : newest_on page past ≡ Some to
  pub due : flushed_to past handle < to

-- Others went on, and then the pass placed an entry of a log that was due.
pub record HasPlacedDueEntry (w : Standing) (page : Page) (handle to : ℕ) (e : Entry) (seen : List Entry) : Type 0 where
  pub placed : HasPlaced w e seen
  pub due : IsDue page handle to placed.front

-- What a pass placed where the log of a page was found flushed, or was flushed: nothing, or that it was.
abbrev pub ReachedBy : Standing → Page → List Entry → Type 0
ReachedBy w page seen =
    Grows w seen
    ⊎ ((handle : ℕ) × (to : ℕ) × HasPlacedDueEntry w page handle to (entry.Flushed w.number handle to) seen)

-- What the flush of a page's log leaves, by cases over how it ended.
abbrev pub FlushLeft : Standing → Page → Result LogFlush CcError → List Entry → Type 0
FlushLeft w page (Ok flush.Reached) seen = ReachedBy w page seen × IsLogged seen page.stream page.page
FlushLeft w page (Ok (flush.Failed handle)) seen =
    (to : ℕ) × HasPlacedDueEntry w page handle to (entry.LogFailed w.number handle) seen
FlushLeft w page (Err e) seen = Grows w seen × IsWant e

-- Others went on, and then the pass placed an entry of a log that was not flushed so far.
pub record HasLogged (w : Standing) (handle to : ℕ) (e : Entry) (seen : List Entry) : Type 0 where
  pub placed : HasPlaced w e seen
  pub due : flushed_to placed.front handle < to

-- What the flush of a log to an LSN leaves, by cases over how it ended.
abbrev pub FlushToLsnLeft : Standing → ℕ → ℕ → Result LogFlush CcError → List Entry → Type 0
FlushToLsnLeft w handle to (Ok flush.Reached) seen =
    (Grows w seen × (to ≤ flushed_to seen handle))
    ⊎ HasLogged w handle to (entry.Flushed w.number handle to) seen
FlushToLsnLeft w handle to (Ok (flush.Failed failed)) seen =
    (failed ≡ handle) × HasLogged w handle to (entry.LogFailed w.number handle) seen
FlushToLsnLeft w handle to (Err e) seen = Grows w seen × (e ≡ error.NoMemory)

-- The newest LSN of a page was found, where it has one, with a place reserved for an entry of its log; or there was no
-- room for that entry.
abbrev pub NewestLeft : Standing → Page → Result (Option ℕ) CcError → Standing → Type 0
NewestLeft old page (Ok None) new = (newest_on page new.seen ≡ None) × Went old new
NewestLeft old page (Ok (Some to)) new = (newest_on page new.seen ≡ Some to) × WentWith (suc old.in_flight) old new
NewestLeft old page (Err e) new = IsWant e × Went old new

-- A pass may place an entry of its own of the log whose turn it holds: that its next LSN was appended, that it was
-- flushed further, or that it failed.
abbrev pub MayLog : Standing → Entry → Type 0
MayLog w (entry.Append pass handle lsn bytes) =
    (pass ≡ w.number) × (w.held.log ≡ Some handle) × IsNextLsn w.seen handle lsn
MayLog w (entry.Flushed pass handle to) =
    (pass ≡ w.number) × (w.held.log ≡ Some handle) × (flushed_to w.seen handle < to)
MayLog w (entry.LogFailed pass handle) = (pass ≡ w.number) × (w.held.log ≡ Some handle)
MayLog w other = ⊥

-- the newest LSN of the touches of a row that no transfer took
abbrev pub newest_later_in : Option Row → Option ℕ
newest_later_in row = option_map (λ lsns. lsns.1) (later_in row).lsns

-- the turns of a stream's disk and of its book are held, and no other
abbrev pub HoldsBoth : Standing → ℕ → Type 0
HoldsBoth w s = w.held ≡ record nothing { device = Some s; book = Some s }

-- The journal's room, beyond what is reserved in it, is less than so many entries, and the refusal says so; or memory
-- was wanting.
abbrev pub IsStopAt : {Q : Type 0} → ℕ → JournalState Q → CcError → Type 0
IsStopAt asked j e = ((e ≡ error.JournalFull (length j.entries)) × (room_of j < asked)) ⊎ (e ≡ error.NoMemory)

-- The same of a journal in hand: the LSN, with a place reserved.
abbrev pub ReservedLeft : {Q : Type 0} → Page → Result (Option ℕ) CcError → JournalState Q → JournalState Q → Type 0
ReservedLeft page (Ok None) j k = (newest_on page j.entries ≡ None) × (k ≡ j)
ReservedLeft page (Ok (Some to)) j k =
    (newest_on page j.entries ≡ Some to) × (k ≡ record j { reserved = j.reserved + 1 })
ReservedLeft page (Err e) j k = IsStopAt 1 j e × (k ≡ j)

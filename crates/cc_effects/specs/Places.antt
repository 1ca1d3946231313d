-- Which entries a call may place before its own one, each over its front.
use Rattle.std.specs.Prelude.{◌≡◌, ℕ, ◌*◌, ◌<◌, ◌≤◌, Bool, true, false, not, ◌&&◌, ◌||◌, nat_lt, List, [], ◌∷◌, length, if◌then◌else◌}
use Rattle.std.specs.declared.option.Option.{Option}
use Rattle.std.specs.declared.option.Option.TheVariants.{Some, None}
use Rattle.std.specs.List.{filter}
use Rattle.cc_entry.specs.Place.{Page}
use Rattle.cc_entry.specs.declared.call.Call.{Call}
use Rattle.cc_entry.specs.declared.entry.Entry.{Entry}
use Rattle.cc_entry.specs.declared.entry.Entry.TheVariants as entry
use Rattle.cc_model.specs.History.{history}
use Rattle.cc_model.specs.Touches.{valid_of}
use Rattle.cc_model.specs.Settings.{log_of}
use Rattle.cc_model.specs.Residency.{is_resident}
use Rattle.cc_model.specs.Images.{open_of}
use Rattle.cc_model.specs.Logs.{flushed_to}
use Rattle.cc_model.specs.Stamps.{newest_of, is_unstamped}
use Rattle.cc_model.specs.Passes.{is_same_page}
use Rattle.cc_effects.specs.Moments.{own, EachOwn, AtSome}
use Rattle.cc_effects.specs.Asked.{Work, Calls, Writes, is_admitted, brings_in, reads_noncached, reaches, may_bring_in, may_take_out, may_write, may_sync, stores}

-- whether a page is not resident and has a byte below the valid data length, so that its bytes are on the
-- disk alone
abbrev pub is_on_disk_alone : Page → List Entry → Bool
is_on_disk_alone page past =
    not (is_resident (history past page.stream) page.page) && nat_lt (4096 * page.page) (valid_of (history past page.stream))

-- whether the disk may be read for a page: by a noncached read, which always reads it, or to bring in a
-- page that is on the disk alone
abbrev pub may_read : Call → Page → List Entry → Bool
may_read it page past = if reads_noncached it then true else brings_in it && is_on_disk_alone page past

-- nothing refused a call at a moment, and a page was of its range
pub record WasAsked (it : Call) (page : Page) (moment : List Entry) : Type 0 where
  pub admitted : is_admitted it page.stream moment ≡ true
  pub reached : reaches it page moment ≡ true

-- The disk failed to read a page for a call: one that was of the range of the call, which nothing refused, at a moment
-- since it began; for the size may have fallen while the page was read.
abbrev pub MayFailToRead : Work → List Entry → Page → List Entry → Type 0
MayFailToRead (Calls it) old page past = (may_read it page past ≡ true) × AtSome (WasAsked it page) old past
MayFailToRead (Writes pages) old page past = ⊥

-- The disk of a stream was synced for a call, which nothing refused at a moment since it began.
abbrev pub MaySync : Work → List Entry → ℕ → List Entry → Type 0
MaySync (Calls it) old s past = (may_sync (Calls it) s ≡ true) × AtSome (λ moment. is_admitted it s moment ≡ true) old past
MaySync (Writes pages) old s past = ⊥

-- A page that is to be written, or stored by a noncached write, has this log, and this LSN as the newest
-- stamped on it. It is not Unstamped, for such a page is not written.
pub record AsksLog (work : Work) (handle to : ℕ) (past : List Entry) : Type 0 where
  pub page : Page
  pub writes : (may_write work page past || stores work page past) ≡ true
  pub log : log_of (history past page.stream) ≡ Some handle
  pub stamped : is_unstamped (history past page.stream) page.page ≡ false
  pub newest : newest_of (history past page.stream) page.page ≡ Some to

-- a log failed as it was to be flushed to such an LSN, to which it was not flushed before
pub record MayFailToFlush (work : Work) (handle : ℕ) (past : List Entry) : Type 0 where
  pub to : ℕ
  pub asks : AsksLog work handle to past
  pub due : flushed_to past handle < to

-- Which entry the pass may place for what is under way since the moment `old`, and before the call's own
-- entry. Nothing refuses the call where it brings a page in, begins a transfer, has a log flushed or takes a page out, but
-- for the page that a noncached write stored; and nothing did at a moment where a failed read or a sync ends. The end of a
-- transfer is that of a transfer of its own.
abbrev pub MayPlace : ℕ → Work → List Entry → List Entry → Entry → Type 0
MayPlace me work old past (entry.PageIn pass page from_disk) = may_bring_in work page past ≡ true
MayPlace me work old past (entry.PageOut pass page) = may_take_out me work page past ≡ true
MayPlace me work old past (entry.FillFailed pass page) = MayFailToRead work old page past
MayPlace me work old past (entry.WriteBegin pass page) = may_write work page past ≡ true
MayPlace me work old past (entry.WriteEnd pass page how) =
    open_of (history past page.stream) ≡ Some (record { pass = me; page = page.page })
MayPlace me work old past (entry.Sync pass stream how) = MaySync work old stream past
MayPlace me work old past (entry.Flushed pass handle to) = AsksLog work handle to past
MayPlace me work old past (entry.LogFailed pass handle) = MayFailToFlush work handle past
MayPlace me work old past (entry.Append pass handle lsn bytes) = ⊥
MayPlace me work old past (entry.Defer pass id file pages retrying) = ⊥
MayPlace me work old past (entry.Posted id) = ⊥
MayPlace me work old past (entry.Scan pass picked) = ⊥
MayPlace me work old past (entry.Record pass stream size valid how) = ⊥
MayPlace me work old past (entry.RecordFailed pass stream) = ⊥
MayPlace me work old past (entry.Locked pass file span exclusive granted id) = ⊥
MayPlace me work old past (entry.Unlocked pass file id gone) = ⊥
MayPlace me work old past (entry.Tested pass file span write conflict) = ⊥
MayPlace me work old past (entry.Call pass nth stream call ended) = ⊥

abbrev pub is_sync : Entry → Bool
is_sync (entry.Sync pass stream how) = true
is_sync other = false

-- the syncs of the pass in a stretch
abbrev pub syncs_of : ℕ → List Entry → List Entry
syncs_of me during = filter is_sync (own me during)

-- Whether each transfer that entries of one pass, newest first, speak of stands there whole: a begin is
-- followed by the end of its page, with no other entry between. The page is that of an end whose begin is still
-- to come.
abbrev pub are_whole : Option Page → List Entry → Bool
are_whole None [] = true
are_whole (Some page) [] = false
are_whole None (entry.WriteEnd pass page how ∷ earlier) = are_whole (Some page) earlier
are_whole (Some after) (entry.WriteEnd pass page how ∷ earlier) = false
are_whole None (entry.WriteBegin pass page ∷ earlier) = false
are_whole (Some after) (entry.WriteBegin pass page ∷ earlier) = is_same_page page after && are_whole None earlier
are_whole None (other ∷ earlier) = are_whole None earlier
are_whole (Some after) (other ∷ earlier) = false

-- The entries of the pass in a stretch are such entries, with one sync at most, and each of its transfers
-- stands there whole.
pub record Works (me : ℕ) (work : Work) (during old : List Entry) : Type 0 where
  pub each : EachOwn me (MayPlace me work old) during old
  pub one_sync : length (syncs_of me during) ≤ 1
  pub whole : are_whole None (own me during) ≡ true

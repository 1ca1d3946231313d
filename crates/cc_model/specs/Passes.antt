-- A pass is one caller. What it did, and what has befallen it since its last call.
use Rattle.std.specs.Prelude.{◌≡◌, ◌++◌, ℕ, suc, Bool, true, false, not, ◌&&◌, ◌||◌, ◌==◌, List, [], ◌∷◌, if◌then◌else◌}
use Rattle.std.specs.declared.option.Option.{Option}
use Rattle.std.specs.declared.option.Option.TheVariants.{Some, None}
use Rattle.std.specs.List.{filter}
use Rattle.cc_entry.specs.Place.{Page}
use Rattle.cc_entry.specs.declared.call.Call.{Call}
use Rattle.cc_entry.specs.declared.call.Call.TheVariants as call
use Rattle.cc_entry.specs.declared.reply.Outcome.{Outcome}
use Rattle.cc_entry.specs.declared.reply.Outcome.TheVariants as outcome
use Rattle.cc_entry.specs.declared.entry.Entry.{Entry}
use Rattle.cc_entry.specs.declared.entry.Entry.TheVariants as entry
use Rattle.cc_model.specs.Sizes.{ended_ok}

-- the pass that placed an entry; a post has none
abbrev pub pass_of : Entry → Option ℕ
pass_of (entry.Call pass nth stream call ended) = Some pass
pass_of (entry.PageIn pass page from_disk) = Some pass
pass_of (entry.PageOut pass page) = Some pass
pass_of (entry.FillFailed pass page) = Some pass
pass_of (entry.WriteBegin pass page) = Some pass
pass_of (entry.WriteEnd pass page how) = Some pass
pass_of (entry.Sync pass stream how) = Some pass
pass_of (entry.Append pass handle lsn bytes) = Some pass
pass_of (entry.Flushed pass handle to) = Some pass
pass_of (entry.LogFailed pass handle) = Some pass
pass_of (entry.Defer pass id file pages retrying) = Some pass
pass_of (entry.Posted id) = None
pass_of (entry.Scan pass picked) = Some pass
pass_of (entry.Record pass stream size valid how) = Some pass
pass_of (entry.RecordFailed pass stream) = Some pass
pass_of (entry.Locked pass file span exclusive granted id) = Some pass
pass_of (entry.Unlocked pass file id gone) = Some pass
pass_of (entry.Tested pass file span write conflict) = Some pass

abbrev pub is_pass : ℕ → Option ℕ → Bool
is_pass me None = false
is_pass me (Some pass) = pass == me

-- whether the pass placed the entry
abbrev pub is_mine : ℕ → Entry → Bool
is_mine me e = is_pass me (pass_of e)

-- the entries of a pass, newest first
unfoldable pub mine_of : ℕ → List Entry → List Entry
mine_of me past = filter (is_mine me) past

-- A pass has seen a part of the journal: the journal is that part, and what came later.
pub record HasSeen (seen past : List Entry) : Type 0 where
  pub later : List Entry
  pub grew : past ≡ later ++ seen

-- A call of a pass that had seen one part, and has seen another after it: what it placed stands after
-- the first, and its own entry is in the second.
pub record WasPlaced (me : ℕ) (e : Entry) (before after : List Entry) : Type 0 where
  pub later : List Entry
  pub earlier : List Entry
  pub grew : after ≡ later ++ e ∷ earlier ++ before
  pub is_own : is_mine me e ≡ true

-- whether an entry is a call of the pass
abbrev pub is_call_of : ℕ → Entry → Bool
is_call_of me (entry.Call pass nth stream call ended) = pass == me
is_call_of me other = false

-- how many calls of a pass have ended
unfoldable pub calls_of : List Entry → ℕ → ℕ
calls_of [] me = 0
calls_of (e ∷ past) me = if is_call_of me e then suc (calls_of past me) else calls_of past me

-- the past up to and with the last call of the pass, empty where it made none
unfoldable pub up_to_call : List Entry → ℕ → List Entry
up_to_call [] me = []
up_to_call (e ∷ past) me = elim (is_call_of me e) [ true ↦ e ∷ past | false ↦ up_to_call past me ]

-- whether a call is a done noncached store
abbrev pub is_store : Call → Outcome → Bool
is_store (call.NcStore file page bytes) (outcome.Done reply) = true
is_store other ended = false

-- whether an entry is a call of the pass that is no done noncached store
abbrev pub ends_call_of : ℕ → Entry → Bool
ends_call_of me (entry.Call pass nth stream call ended) = pass == me && not (is_store call ended)
ends_call_of me other = false

-- the page of a done noncached store
abbrev pub stored_page : Option ℕ → Call → Outcome → Option Page
stored_page (Some stream) (call.NcStore file page bytes) (outcome.Done reply) = Some (record { stream = stream; page = page })
stored_page stream other ended = None

-- the page that the pass's last call stored, where that was a done noncached store
abbrev pub stored_by : List Entry → Option Page
stored_by [] = None
stored_by (entry.Call pass nth stream call ended ∷ past) = stored_page stream call ended
stored_by (other ∷ past) = None

abbrev pub store_of : List Entry → ℕ → Option Page
store_of past me = stored_by (up_to_call past me)

-- whether two pages are the same
abbrev pub is_same_page : Page → Page → Bool
is_same_page a b = a.stream == b.stream && a.page == b.page

-- whether a page is the one that may be there
abbrev pub is_the_page : Page → Option Page → Bool
is_the_page page None = false
is_the_page page (Some other) = is_same_page page other

-- whether an entry is a good end of the pass's transfer of the page
abbrev pub is_ok_end_of : ℕ → Page → Entry → Bool
is_ok_end_of me page (entry.WriteEnd pass other how) = pass == me && (is_same_page page other && ended_ok how)
is_ok_end_of me page other = false

-- whether a good end of the pass's transfer of the page stands after the pass's last call
unfoldable pub is_written_since : List Entry → ℕ → Page → Bool
is_written_since [] me page = false
is_written_since (e ∷ past) me page =
    elim (is_call_of me e) [
      | true ↦ false
      | false ↦ is_ok_end_of me page e || is_written_since past me page
    ]

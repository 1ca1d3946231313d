-- What the entries of a journal mean to one stream.
--
-- A past is a list of entries, newest first, so what stood before an entry is the rest of the list.
-- All that is defined of one stream is defined on its history, so an entry of another stream, or one
-- that means nothing to any stream, changes none of it.
use Rattle.std.specs.Prelude.{ℕ, Bool, ◌==◌, List, [], ◌∷◌, if◌then◌else◌}
use Rattle.std.specs.declared.option.Option.{Option}
use Rattle.std.specs.declared.option.Option.TheVariants.{Some, None}
use Rattle.std.specs.List.{cons_option}
use Rattle.cc_entry.specs.declared.call.Call.{Call}
use Rattle.cc_entry.specs.declared.reply.Reply.{Reply}
use Rattle.cc_entry.specs.declared.reply.Outcome.TheVariants as outcome
use Rattle.cc_entry.specs.declared.entry.Entry.{Entry}
use Rattle.cc_entry.specs.declared.entry.Entry.TheVariants as entry
use Rattle.cc_entry.specs.declared.entry.End.{End}

pub data Effect : Type 0 where
  -- a call was done
  Did : (pass : ℕ) (call : Call) (reply : Reply) → Effect
  -- a page became resident, from the disk or as zeros
  CameIn : (pass page : ℕ) (from_disk : Bool) → Effect
  -- a page stopped being resident
  WentOut : (pass page : ℕ) → Effect
  -- the transfer of a page to the disk began, and ended
  Began : (pass page : ℕ) → Effect
  Ended : (pass page : ℕ) (how : End) → Effect
  -- a sync of the disk ended
  Synced : (pass : ℕ) (how : End) → Effect

-- what an entry means to the stream s
abbrev pub effect_of : Entry → ℕ → Option Effect
effect_of (entry.Call pass nth (Some stream) call (outcome.Done reply)) s =
    if stream == s then Some (Did pass call reply) else None
effect_of (entry.Call pass nth (Some stream) call (outcome.Failed error)) s = None
effect_of (entry.Call pass nth None call ended) s = None
effect_of (entry.PageIn pass page from_disk) s =
    if page.stream == s then Some (CameIn pass page.page from_disk) else None
effect_of (entry.PageOut pass page) s = if page.stream == s then Some (WentOut pass page.page) else None
effect_of (entry.FillFailed pass page) s = None
effect_of (entry.WriteBegin pass page) s = if page.stream == s then Some (Began pass page.page) else None
effect_of (entry.WriteEnd pass page how) s = if page.stream == s then Some (Ended pass page.page how) else None
effect_of (entry.Sync pass stream how) s = if stream == s then Some (Synced pass how) else None
effect_of (entry.Append pass handle lsn bytes) s = None
effect_of (entry.Flushed pass handle to) s = None
effect_of (entry.LogFailed pass handle) s = None
effect_of (entry.Defer pass id file pages retrying) s = None
effect_of (entry.Posted id) s = None
effect_of (entry.Scan pass picked) s = None
effect_of (entry.Record pass stream size valid how) s = None
effect_of (entry.RecordFailed pass stream) s = None
effect_of (entry.Locked pass file span exclusive granted id) s = None
effect_of (entry.Unlocked pass file id gone) s = None
effect_of (entry.Tested pass file span write conflict) s = None

-- what a past means to the stream s, newest first
unfoldable pub history : List Entry → ℕ → List Effect
history [] s = []
history (e ∷ past) s = cons_option (effect_of e s) (history past s)

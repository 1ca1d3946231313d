-- The actions by cases on their verb, and what each adds to the totals of a script.
use Rattle.std.specs.Prelude.{ℕ, Option, None, option_map, List, length}
use Rattle.cc_script.specs.declared.script.Mode.{Mode}
use Rattle.cc_script.specs.declared.script.StreamLine.{StreamLine}
use Rattle.cc_script.specs.declared.script.Action.{Action}
use Rattle.cc_script.specs.declared.script.Action.TheVariants as action
use Rattle.cc_entry.specs.declared.query.Query.TheVariants as query
use Rattle.cc_script.specs.declared.verb.Verb.{Verb}
use Rattle.cc_script.specs.declared.verb.Verb.TheVariants as verb
use Rattle.cc_script.specs.Actions.{ended, parsed_initialise, parsed_uninitialise, parsed_copy_read, parsed_copy_write, parsed_zero, parsed_set_sizes, parsed_flush, parsed_purge, parsed_discard, parsed_set_log, parsed_append, parsed_log_flush}
use Rattle.cc_script.specs.EventActions.{nc_read_in, nc_write_in, parsed_nc_store_page, parsed_ask_ahead, parsed_set_granularity, parsed_set_attributes, parsed_set_threshold, parsed_fill, parsed_drop, parsed_write_begin, parsed_write_end, parsed_sync, parsed_defer, parsed_async_read}
use Rattle.cc_script.specs.QueryLines.{parsed_query}
use Rattle.cc_script.specs.ShimActions.{parsed_read, parsed_write, parsed_update, parsed_levels, parsed_settle, parsed_checkpoint, parsed_lock, parsed_unlock}
use Rattle.cc_script.specs.HoldActions.{parsed_map, parsed_pin_read, parsed_pin_mapped, parsed_prepare_pin, parsed_held_read, parsed_pinned_write, parsed_set_dirty, parsed_unpin, parsed_repin, parsed_unpin_repinned, parsed_mdl_read, parsed_mdl_write, parsed_mdl_bytes, parsed_mdl_store, parsed_mdl_done, parsed_mdl_abort}

-- an action that binds no word
abbrev pub binds_none : List (List ℕ) → Option Action → Option (Action × List (List ℕ))
binds_none names action = option_map (λ a. (a, names)) action

-- the action of a verb, where its caller bound these words, and the words that are bound behind it
unfoldable pub action_of : Mode → List StreamLine → List (List ℕ) → Verb → List (List ℕ) → Option (Action × List (List ℕ))
action_of mode streams names verb.Initialise ws = binds_none names (parsed_initialise streams ws)
action_of mode streams names verb.Uninitialise ws = binds_none names (parsed_uninitialise streams ws)
action_of mode streams names verb.CopyRead ws = binds_none names (parsed_copy_read streams ws)
action_of mode streams names verb.CopyWrite ws = binds_none names (parsed_copy_write streams ws)
action_of mode streams names verb.Zero ws = binds_none names (parsed_zero streams ws)
action_of mode streams names verb.Map ws = parsed_map streams names ws
action_of mode streams names verb.PinRead ws = parsed_pin_read streams names ws
action_of mode streams names verb.PinMapped ws = binds_none names (parsed_pin_mapped names ws)
action_of mode streams names verb.PreparePin ws = parsed_prepare_pin streams names ws
action_of mode streams names verb.HeldRead ws = binds_none names (parsed_held_read names ws)
action_of mode streams names verb.PinnedWrite ws = binds_none names (parsed_pinned_write names ws)
action_of mode streams names verb.SetDirty ws = binds_none names (parsed_set_dirty names ws)
action_of mode streams names verb.Unpin ws = binds_none names (parsed_unpin names ws)
action_of mode streams names verb.Repin ws = parsed_repin names ws
action_of mode streams names verb.UnpinRepinned ws = binds_none names (parsed_unpin_repinned mode names ws)
action_of mode streams names verb.MdlRead ws = parsed_mdl_read streams names ws
action_of mode streams names verb.MdlWrite ws = parsed_mdl_write streams names ws
action_of mode streams names verb.MdlBytes ws = binds_none names (parsed_mdl_bytes names ws)
action_of mode streams names verb.MdlStore ws = binds_none names (parsed_mdl_store names ws)
action_of mode streams names verb.MdlDone ws = binds_none names (parsed_mdl_done names ws)
action_of mode streams names verb.MdlAbort ws = binds_none names (parsed_mdl_abort names ws)
action_of mode streams names verb.NcRead ws = binds_none names (nc_read_in mode streams ws)
action_of mode streams names verb.NcWrite ws = binds_none names (nc_write_in mode streams ws)
action_of mode streams names verb.NcStore ws = binds_none names (parsed_nc_store_page streams ws)
action_of mode streams names verb.SetSizes ws = binds_none names (parsed_set_sizes streams ws)
action_of mode streams names (verb.Query asked) ws = binds_none names (parsed_query streams asked ws)
action_of mode streams names verb.Flush ws = binds_none names (parsed_flush streams ws)
action_of mode streams names verb.Purge ws = binds_none names (parsed_purge streams ws)
action_of mode streams names verb.Discard ws = binds_none names (parsed_discard streams ws)
action_of mode streams names verb.Read ws = binds_none names (parsed_read streams ws)
action_of mode streams names verb.Write ws = binds_none names (parsed_write streams ws)
action_of mode streams names verb.Update ws = binds_none names (parsed_update streams ws)
action_of mode streams names verb.Lock ws = binds_none names (parsed_lock streams ws)
action_of mode streams names verb.Unlock ws = binds_none names (parsed_unlock streams ws)
action_of mode streams names verb.Levels ws = binds_none names (parsed_levels streams ws)
action_of mode streams names verb.Settle ws = binds_none names (parsed_settle streams ws)
action_of mode streams names verb.Checkpoint ws = binds_none names (parsed_checkpoint streams ws)
action_of mode streams names verb.SetLog ws = binds_none names (parsed_set_log streams ws)
action_of mode streams names verb.Append ws = binds_none names (parsed_append ws)
action_of mode streams names verb.LogFlush ws = binds_none names (parsed_log_flush ws)
action_of mode streams names verb.SetGranularity ws = binds_none names (parsed_set_granularity streams ws)
action_of mode streams names verb.SetAttributes ws = binds_none names (parsed_set_attributes streams ws)
action_of mode streams names verb.SetThreshold ws = binds_none names (parsed_set_threshold streams ws)
action_of mode streams names verb.Fill ws = binds_none names (parsed_fill streams ws)
action_of mode streams names verb.Drop ws = binds_none names (parsed_drop streams ws)
action_of mode streams names verb.WriteBegin ws = binds_none names (parsed_write_begin streams ws)
action_of mode streams names verb.WriteEnd ws = binds_none names (parsed_write_end streams ws)
action_of mode streams names verb.Sync ws = binds_none names (parsed_sync streams ws)
action_of mode streams names verb.Scan ws = binds_none names (ended ws action.Scan)
action_of mode streams names verb.AskAhead ws = binds_none names (parsed_ask_ahead streams ws)
action_of mode streams names verb.AheadStep ws = binds_none names (ended ws action.AheadStep)
action_of mode streams names verb.AsyncRead ws = binds_none names (parsed_async_read streams ws)
action_of mode streams names verb.Complete ws = binds_none names (ended ws action.Complete)
action_of mode streams names verb.Tick ws = binds_none names (ended ws action.Tick)
action_of mode streams names verb.Defer ws = binds_none names (parsed_defer streams ws)
action_of mode streams names verb.Post ws = binds_none names (ended ws action.Post)
action_of mode streams names verb.Stream ws = None
action_of mode streams names verb.Journal ws = None
action_of mode streams names verb.Threshold ws = None
action_of mode streams names verb.Workers ws = None
action_of mode streams names verb.Restart ws = None
action_of mode streams names verb.Phase ws = None
action_of mode streams names verb.Fail ws = None

-- how many bytes the words of an action say that it reads, writes or appends
abbrev pub bytes_moved : Action → ℕ
bytes_moved (action.CopyRead _ _ len _) = len
bytes_moved (action.CopyWrite _ _ bytes) = length bytes
bytes_moved (action.HeldRead _ _ len) = len
bytes_moved (action.PinnedWrite _ _ bytes) = length bytes
bytes_moved (action.MdlBytes _ _ len) = len
bytes_moved (action.MdlStore _ _ bytes) = length bytes
bytes_moved (action.NcRead _ _ len) = len
bytes_moved (action.NcWrite _ _ bytes) = length bytes
bytes_moved (action.NcStorePage _ _ bytes) = length bytes
bytes_moved (action.Read _ _ _ len) = len
bytes_moved (action.AsyncRead _ _ len) = len
bytes_moved (action.Write _ _ bytes) = length bytes
bytes_moved (action.Update _ _ bytes) = length bytes
bytes_moved (action.Append _ bytes) = length bytes
bytes_moved other = 0

-- how many bytes count in the total: those that it moves, the length of a hold that it makes, and that of a read that it
-- announces
abbrev pub bytes_counted : Action → ℕ
bytes_counted (action.Map _ _ len _) = len
bytes_counted (action.PinRead _ _ len _ _) = len
bytes_counted (action.PreparePin _ _ len _ _ _) = len
bytes_counted (action.MdlRead _ _ len _) = len
bytes_counted (action.MdlWrite _ _ len _) = len
bytes_counted (action.AskAhead _ _ len) = len
bytes_counted other = bytes_moved other

-- whether a line is `dirty`, as a number
abbrev pub dirty_lines : Action → ℕ
dirty_lines (action.Query (query.DirtyPages _)) = 1
dirty_lines other = 0

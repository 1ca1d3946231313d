-- What a call that is done answers.
use Rattle.std.specs.Prelude.{◌≡◌, ℕ, suc, ◌*◌, Bool, not, ◌&&◌, nat_le, List, ◌∷◌}
use Rattle.std.specs.declared.option.Option.{Option}
use Rattle.cc_entry.specs.declared.call.Call.{Call}
use Rattle.cc_entry.specs.declared.call.Call.TheVariants as call
use Rattle.cc_entry.specs.declared.place.Request.{Request}
use Rattle.cc_entry.specs.declared.reply.Reply.{Reply}
use Rattle.cc_entry.specs.declared.reply.Reply.TheVariants as reply
use Rattle.cc_entry.specs.declared.query.Value.TheVariants as value
use Rattle.cc_entry.specs.declared.entry.Entry.{Entry}
use Rattle.cc_model.specs.Setup.{Setup}
use Rattle.cc_model.specs.History.{Effect, Did}
use Rattle.cc_model.specs.Holds.{holds_of}
use Rattle.cc_model.specs.Touches.{size_of, is_mapped}
use Rattle.cc_model.specs.Settings.{quota_of}
use Rattle.cc_model.specs.Ranges.{cut_range}
use Rattle.cc_model.specs.ReadAhead.{ahead_of}
use Rattle.cc_model.specs.Cache.{holds_made}
use Rattle.cc_model.specs.Queries.{IsQueryReply}
use Rattle.cc_model.specs.Reasons.{is_open}
use Rattle.cc_model.specs.Views.{needed_blocks}
-- what is known of a read's answer
pub use Rattle.cc_model.specs.Bytes.{IsUntoldRead, Reads}

-- whether a read-ahead brings in every page of its request below the size: its object is open, and its
-- blocks fit the quota beside those of open holds
abbrev pub is_whole : List Effect → Request → Bool
is_whole h request =
    is_open h request.file && nat_le (needed_blocks (holds_of h) (cut_range (size_of h) request.at request.len)) (quota_of h)

-- the reply of a done call, given the opening pages and the history of its stream, and its pass
abbrev pub IsReply : Setup → List Entry → Option (ℕ → List ℕ) → List Effect → ℕ → Call → Reply → Type 0
IsReply u past told h pass (call.CopyRead file at len wait) r = Reads told h at len r
IsReply u past told h pass (call.MappedRead hold at len) r = Reads told h at len r
IsReply u past told h pass (call.PinnedRead hold at len) r = Reads told h at len r
IsReply u past told h pass (call.MdlBytes hold at len) r = Reads told h at len r
IsReply u past told h pass (call.NcRead file page) r = Reads told h (4096 * page) 4096 r
IsReply u past told h pass (call.Map file at len) r = r ≡ reply.Hold (suc (holds_made past))
IsReply u past told h pass (call.PinRead file at len exclusive) r = r ≡ reply.Hold (suc (holds_made past))
IsReply u past told h pass (call.PreparePin file at len zero exclusive) r = r ≡ reply.Hold (suc (holds_made past))
IsReply u past told h pass (call.Repin hold) r = r ≡ reply.Hold (suc (holds_made past))
IsReply u past told h pass (call.MdlRead file at len) r = r ≡ reply.Hold (suc (holds_made past))
IsReply u past told h pass (call.MdlWrite file at len) r = r ≡ reply.Hold (suc (holds_made past))
IsReply u past told h pass (call.PinMapped hold exclusive) r = r ≡ reply.Hold hold
IsReply u past told h pass (call.Uninitialise file truncate) r =
    r ≡ reply.Value (value.Flag (not (is_mapped (Did pass (call.Uninitialise file truncate) r ∷ h))))
IsReply u past told h pass (call.Query query) r = IsQueryReply u past told h query r
IsReply u past told h pass (call.AskAhead file at len) r = r ≡ reply.Ahead (ahead_of h file at len)
IsReply u past told h pass (call.AheadStep request) r = r ≡ reply.Whole (is_whole h request)
IsReply u past told h pass (call.Initialise file sizes quota temporary) r = r ≡ reply.Unit
IsReply u past told h pass (call.CopyWrite file at bytes) r = r ≡ reply.Unit
IsReply u past told h pass (call.Zero file span) r = r ≡ reply.Unit
IsReply u past told h pass (call.PinnedWrite hold at bytes) r = r ≡ reply.Unit
IsReply u past told h pass (call.SetDirty hold lsn) r = r ≡ reply.Unit
IsReply u past told h pass (call.EndHold hold) r = r ≡ reply.Unit
IsReply u past told h pass (call.MdlStore hold at bytes) r = r ≡ reply.Unit
IsReply u past told h pass (call.NcStore file page bytes) r = r ≡ reply.Unit
IsReply u past told h pass (call.NcWrite file page) r = r ≡ reply.Unit
IsReply u past told h pass (call.SetSizes file allocation size) r = r ≡ reply.Unit
IsReply u past told h pass (call.Flush file span) r = r ≡ reply.Unit
IsReply u past told h pass (call.Purge file span) r = r ≡ reply.Unit
IsReply u past told h pass (call.Discard file span) r = r ≡ reply.Unit
IsReply u past told h pass (call.SetLog file handle) r = r ≡ reply.Unit
IsReply u past told h pass (call.SetGranularity file bytes) r = r ≡ reply.Unit
IsReply u past told h pass (call.SetAttributes file no_read_ahead no_write_behind) r = r ≡ reply.Unit
IsReply u past told h pass (call.SetThreshold file pages) r = r ≡ reply.Unit

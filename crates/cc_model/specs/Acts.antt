-- What a call does to its stream once it is done, and what it names.
use Rattle.std.specs.Prelude.{ℕ, ◌+◌, Bool, true, false, List}
use Rattle.std.specs.declared.option.Option.{Option}
use Rattle.std.specs.declared.option.Option.TheVariants.{Some, None}
use Rattle.cc_entry.specs.Place.{File, Range}
use Rattle.cc_entry.specs.Queries.{file_of_query}
use Rattle.cc_entry.specs.declared.place.FileSizes.{FileSizes}
use Rattle.cc_entry.specs.declared.call.Call.{Call}
use Rattle.cc_entry.specs.declared.call.Call.TheVariants as call

pub data Act : Type 0 where
  -- an object's private cache map is made, and the stream's shared one if there is none
  Opens : (file : File) (sizes : FileSizes) (quota : ℕ) (temporary : Bool) → Act
  -- an object's private cache map goes; a truncate counts where it was the last
  Closes : (file : File) (truncate : Option ℕ) → Act
  -- the size is set
  Resizes : (allocation size : ℕ) → Act
  -- the three ways in which bytes change
  Writes : (at : ℕ) (bytes : List ℕ) → Act
  Zeroes : (from to : ℕ) → Act
  Stores : (page : ℕ) (bytes : List ℕ) → Act
  -- the pages of a pin are made dirty, with an LSN or without
  Stamps : (hold : ℕ) (lsn : Option ℕ) → Act
  -- the pages of the span go unwritten, all of them where there is none
  Discards : (span : Option Range) → Act
  -- no byte, size or dirty page changes
  Looks : Act

abbrev pub act_of : Call → Act
act_of (call.Initialise file sizes quota temporary) = Opens file sizes quota temporary
act_of (call.Uninitialise file truncate) = Closes file truncate
act_of (call.CopyRead file at len wait) = Looks
act_of (call.CopyWrite file at bytes) = Writes at bytes
act_of (call.Zero file span) = Zeroes span.from span.to
act_of (call.Map file at len) = Looks
act_of (call.PinRead file at len exclusive) = Looks
act_of (call.PinMapped hold exclusive) = Looks
act_of (call.PreparePin file at len true exclusive) = Zeroes at (at + len)
act_of (call.PreparePin file at len false exclusive) = Looks
act_of (call.MappedRead hold at len) = Looks
act_of (call.PinnedRead hold at len) = Looks
act_of (call.PinnedWrite hold at bytes) = Writes at bytes
act_of (call.SetDirty hold lsn) = Stamps hold lsn
act_of (call.EndHold hold) = Looks
act_of (call.Repin hold) = Looks
act_of (call.MdlRead file at len) = Looks
act_of (call.MdlWrite file at len) = Looks
act_of (call.MdlBytes hold at len) = Looks
act_of (call.MdlStore hold at bytes) = Writes at bytes
act_of (call.NcRead file page) = Looks
act_of (call.NcStore file page bytes) = Stores page bytes
act_of (call.NcWrite file page) = Looks
act_of (call.SetSizes file allocation size) = Resizes allocation size
act_of (call.Query query) = Looks
act_of (call.Flush file span) = Looks
act_of (call.Purge file span) = Looks
act_of (call.Discard file span) = Discards span
act_of (call.SetLog file handle) = Looks
act_of (call.SetGranularity file bytes) = Looks
act_of (call.SetAttributes file no_read_ahead no_write_behind) = Looks
act_of (call.SetThreshold file pages) = Looks
act_of (call.AskAhead file at len) = Looks
act_of (call.AheadStep request) = Looks

-- the file object that a call names
abbrev pub file_of : Call → Option File
file_of (call.Initialise file sizes quota temporary) = Some file
file_of (call.Uninitialise file truncate) = Some file
file_of (call.CopyRead file at len wait) = Some file
file_of (call.CopyWrite file at bytes) = Some file
file_of (call.Zero file span) = Some file
file_of (call.Map file at len) = Some file
file_of (call.PinRead file at len exclusive) = Some file
file_of (call.PinMapped hold exclusive) = None
file_of (call.PreparePin file at len zero exclusive) = Some file
file_of (call.MappedRead hold at len) = None
file_of (call.PinnedRead hold at len) = None
file_of (call.PinnedWrite hold at bytes) = None
file_of (call.SetDirty hold lsn) = None
file_of (call.EndHold hold) = None
file_of (call.Repin hold) = None
file_of (call.MdlRead file at len) = Some file
file_of (call.MdlWrite file at len) = Some file
file_of (call.MdlBytes hold at len) = None
file_of (call.MdlStore hold at bytes) = None
file_of (call.NcRead file page) = Some file
file_of (call.NcStore file page bytes) = Some file
file_of (call.NcWrite file page) = Some file
file_of (call.SetSizes file allocation size) = Some file
file_of (call.Query query) = file_of_query query
file_of (call.Flush file span) = Some file
file_of (call.Purge file span) = Some file
file_of (call.Discard file span) = Some file
file_of (call.SetLog file handle) = Some file
file_of (call.SetGranularity file bytes) = Some file
file_of (call.SetAttributes file no_read_ahead no_write_behind) = Some file
file_of (call.SetThreshold file pages) = Some file
file_of (call.AskAhead file at len) = Some file
file_of (call.AheadStep request) = Some request.file

-- The table of the verbs: a verb's text, and the verb that a word is in a mode.
use Rattle.std.specs.Prelude.{ℕ, Bool, true, false, Option, Some, None, List, find, codes, if◌then◌else◌}
use Rattle.std.specs.Str.{bytes_eq}
use Rattle.cc_script.specs.declared.verb.Verb.{Verb}
use Rattle.cc_script.specs.declared.verb.Verb.TheVariants as verb
use Rattle.cc_script.specs.declared.verb.TheConstants.{VERBS}
use Rattle.cc_script.specs.declared.script.Mode.{Mode}
use Rattle.cc_script.specs.Outcome.{◌>>=◌}
use Rattle.cc_script.specs.Modes.{stands, verb_modes}
use Rattle.cc_script.specs.QueryLines.{query_verb_text}

-- the word that a verb is written by
abbrev pub verb_text : Verb → List ℕ
verb_text verb.Stream = codes "stream"
verb_text verb.Journal = codes "journal"
verb_text verb.Threshold = codes "threshold"
verb_text verb.Workers = codes "workers"
verb_text verb.Restart = codes "restart"
verb_text verb.Phase = codes "phase"
verb_text verb.Initialise = codes "init"
verb_text verb.Uninitialise = codes "uninit"
verb_text verb.CopyRead = codes "cread"
verb_text verb.CopyWrite = codes "cwrite"
verb_text verb.Zero = codes "zero"
verb_text verb.Map = codes "map"
verb_text verb.PinRead = codes "pin"
verb_text verb.PinMapped = codes "pinmapped"
verb_text verb.PreparePin = codes "prepare"
verb_text verb.HeldRead = codes "hread"
verb_text verb.PinnedWrite = codes "pwrite"
verb_text verb.SetDirty = codes "stamp"
verb_text verb.Unpin = codes "unpin"
verb_text verb.Repin = codes "repin"
verb_text verb.UnpinRepinned = codes "unrepin"
verb_text verb.MdlRead = codes "mdlread"
verb_text verb.MdlWrite = codes "mdlwrite"
verb_text verb.MdlBytes = codes "mdlget"
verb_text verb.MdlStore = codes "mdlput"
verb_text verb.MdlDone = codes "mdldone"
verb_text verb.MdlAbort = codes "mdlabort"
verb_text verb.NcRead = codes "ncread"
verb_text verb.NcWrite = codes "ncwrite"
verb_text verb.SetSizes = codes "sizes"
verb_text (verb.Query asked) = query_verb_text asked
verb_text verb.Flush = codes "flush"
verb_text verb.Purge = codes "purge"
verb_text verb.Discard = codes "discard"
verb_text verb.Read = codes "read"
verb_text verb.Write = codes "write"
verb_text verb.Update = codes "update"
verb_text verb.Lock = codes "lock"
verb_text verb.Unlock = codes "unlock"
verb_text verb.Levels = codes "levels"
verb_text verb.Settle = codes "settle"
verb_text verb.Checkpoint = codes "checkpoint"
verb_text verb.SetLog = codes "setlog"
verb_text verb.Append = codes "append"
verb_text verb.LogFlush = codes "logflush"
verb_text verb.SetGranularity = codes "granularity"
verb_text verb.SetAttributes = codes "attributes"
verb_text verb.SetThreshold = codes "fthreshold"
verb_text verb.NcStore = codes "ncstore"
verb_text verb.Fill = codes "fill"
verb_text verb.Drop = codes "out"
verb_text verb.WriteBegin = codes "begin"
verb_text verb.WriteEnd = codes "end"
verb_text verb.Sync = codes "sync"
verb_text verb.Scan = codes "scan"
verb_text verb.AskAhead = codes "ask"
verb_text verb.AheadStep = codes "ahead"
verb_text verb.AsyncRead = codes "aread"
verb_text verb.Complete = codes "complete"
verb_text verb.Tick = codes "tick"
verb_text verb.Defer = codes "defer"
verb_text verb.Post = codes "post"
verb_text verb.Fail = codes "fail"

-- whether a caller word may stand before a verb
abbrev pub takes_caller : Verb → Bool
takes_caller verb.Drop = false
takes_caller verb.WriteEnd = false
takes_caller other = true

-- the verb that a word is
unfoldable pub verb_of : List ℕ → Option Verb
verb_of word = find (λ v. bytes_eq (verb_text v) word) VERBS

-- the verb that a word is in a mode
unfoldable pub verb_in : Mode → List ℕ → Option Verb
verb_in m word = do
  v ← verb_of word
  if stands (verb_modes v) m then Some v else None

-- The texts of the verbs, each found and each once.
use Rattle.std.proofs.Common.{◌≡◌, Some, None, refl, ap, sym, ◌∙◌}
use Rattle.cc_script.specs.declared.verb.Verb.{Verb}
use Rattle.cc_script.specs.declared.verb.Verb.TheVariants as verb
use Rattle.cc_script.specs.declared.verb.QueryVerb.TheVariants as query_verb
use Rattle.cc_script.specs.Words.{parsed_caller, number_between, parsed_number}
use Rattle.cc_script.specs.Verbs.{verb_text, verb_of}

pub verbs_found : (v : Verb) → verb_of (verb_text v) ≡ Some v
unfolding verb_of
verbs_found verb.Stream = refl
verbs_found verb.Journal = refl
verbs_found verb.Threshold = refl
verbs_found verb.Workers = refl
verbs_found verb.Restart = refl
verbs_found verb.Phase = refl
verbs_found verb.Initialise = refl
verbs_found verb.Uninitialise = refl
verbs_found verb.CopyRead = refl
verbs_found verb.CopyWrite = refl
verbs_found verb.Zero = refl
verbs_found verb.Map = refl
verbs_found verb.PinRead = refl
verbs_found verb.PinMapped = refl
verbs_found verb.PreparePin = refl
verbs_found verb.HeldRead = refl
verbs_found verb.PinnedWrite = refl
verbs_found verb.SetDirty = refl
verbs_found verb.Unpin = refl
verbs_found verb.Repin = refl
verbs_found verb.UnpinRepinned = refl
verbs_found verb.MdlRead = refl
verbs_found verb.MdlWrite = refl
verbs_found verb.MdlBytes = refl
verbs_found verb.MdlStore = refl
verbs_found verb.MdlDone = refl
verbs_found verb.MdlAbort = refl
verbs_found verb.NcRead = refl
verbs_found verb.NcWrite = refl
verbs_found verb.SetSizes = refl
verbs_found (verb.Query query_verb.State) = refl
verbs_found verb.Flush = refl
verbs_found verb.Purge = refl
verbs_found verb.Discard = refl
verbs_found verb.Read = refl
verbs_found verb.Write = refl
verbs_found verb.Update = refl
verbs_found verb.Lock = refl
verbs_found verb.Unlock = refl
verbs_found verb.Levels = refl
verbs_found verb.Settle = refl
verbs_found verb.Checkpoint = refl
verbs_found (verb.Query query_verb.IsDirtyData) = refl
verbs_found (verb.Query query_verb.DirtyPages) = refl
verbs_found (verb.Query query_verb.LsnForFile) = refl
verbs_found verb.SetLog = refl
verbs_found verb.Append = refl
verbs_found verb.LogFlush = refl
verbs_found verb.SetGranularity = refl
verbs_found verb.SetAttributes = refl
verbs_found verb.SetThreshold = refl
verbs_found verb.NcStore = refl
verbs_found verb.Fill = refl
verbs_found verb.Drop = refl
verbs_found verb.WriteBegin = refl
verbs_found verb.WriteEnd = refl
verbs_found verb.Sync = refl
verbs_found verb.Scan = refl
verbs_found verb.AskAhead = refl
verbs_found verb.AheadStep = refl
verbs_found verb.AsyncRead = refl
verbs_found verb.Complete = refl
verbs_found verb.Tick = refl
verbs_found (verb.Query query_verb.CanWrite) = refl
verbs_found verb.Defer = refl
verbs_found verb.Post = refl
verbs_found verb.Fail = refl

pub verbs_differ : (v w : Verb) → verb_text v ≡ verb_text w → v ≡ w
verbs_differ v w e =
    let same : Some v ≡ Some w = sym (verbs_found v) ∙ (ap verb_of e ∙ verbs_found w) in cc

pub verbs_no_callers : (v : Verb) → parsed_caller (verb_text v) ≡ None
unfolding parsed_caller number_between parsed_number
verbs_no_callers verb.Stream = refl
verbs_no_callers verb.Journal = refl
verbs_no_callers verb.Threshold = refl
verbs_no_callers verb.Workers = refl
verbs_no_callers verb.Restart = refl
verbs_no_callers verb.Phase = refl
verbs_no_callers verb.Initialise = refl
verbs_no_callers verb.Uninitialise = refl
verbs_no_callers verb.CopyRead = refl
verbs_no_callers verb.CopyWrite = refl
verbs_no_callers verb.Zero = refl
verbs_no_callers verb.Map = refl
verbs_no_callers verb.PinRead = refl
verbs_no_callers verb.PinMapped = refl
verbs_no_callers verb.PreparePin = refl
verbs_no_callers verb.HeldRead = refl
verbs_no_callers verb.PinnedWrite = refl
verbs_no_callers verb.SetDirty = refl
verbs_no_callers verb.Unpin = refl
verbs_no_callers verb.Repin = refl
verbs_no_callers verb.UnpinRepinned = refl
verbs_no_callers verb.MdlRead = refl
verbs_no_callers verb.MdlWrite = refl
verbs_no_callers verb.MdlBytes = refl
verbs_no_callers verb.MdlStore = refl
verbs_no_callers verb.MdlDone = refl
verbs_no_callers verb.MdlAbort = refl
verbs_no_callers verb.NcRead = refl
verbs_no_callers verb.NcWrite = refl
verbs_no_callers verb.SetSizes = refl
verbs_no_callers (verb.Query query_verb.State) = refl
verbs_no_callers verb.Flush = refl
verbs_no_callers verb.Purge = refl
verbs_no_callers verb.Discard = refl
verbs_no_callers verb.Read = refl
verbs_no_callers verb.Write = refl
verbs_no_callers verb.Update = refl
verbs_no_callers verb.Lock = refl
verbs_no_callers verb.Unlock = refl
verbs_no_callers verb.Levels = refl
verbs_no_callers verb.Settle = refl
verbs_no_callers verb.Checkpoint = refl
verbs_no_callers (verb.Query query_verb.IsDirtyData) = refl
verbs_no_callers (verb.Query query_verb.DirtyPages) = refl
verbs_no_callers (verb.Query query_verb.LsnForFile) = refl
verbs_no_callers verb.SetLog = refl
verbs_no_callers verb.Append = refl
verbs_no_callers verb.LogFlush = refl
verbs_no_callers verb.SetGranularity = refl
verbs_no_callers verb.SetAttributes = refl
verbs_no_callers verb.SetThreshold = refl
verbs_no_callers verb.NcStore = refl
verbs_no_callers verb.Fill = refl
verbs_no_callers verb.Drop = refl
verbs_no_callers verb.WriteBegin = refl
verbs_no_callers verb.WriteEnd = refl
verbs_no_callers verb.Sync = refl
verbs_no_callers verb.Scan = refl
verbs_no_callers verb.AskAhead = refl
verbs_no_callers verb.AheadStep = refl
verbs_no_callers verb.AsyncRead = refl
verbs_no_callers verb.Complete = refl
verbs_no_callers verb.Tick = refl
verbs_no_callers (verb.Query query_verb.CanWrite) = refl
verbs_no_callers verb.Defer = refl
verbs_no_callers verb.Post = refl
verbs_no_callers verb.Fail = refl

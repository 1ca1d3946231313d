-- Calls on the record of a stream that were refused.
use Rattle.std.specs.Prelude.{ℕ, List, ◌∷◌, Err, refl}
use Rattle.std.specs.declared.option.Option.TheVariants.{None}
use Rattle.std.proofs.Common.{inl, inr}
use Rattle.cc_entry.specs.Place.{File}
use Rattle.cc_entry.specs.declared.call.Call.TheVariants as call
use Rattle.cc_entry.specs.declared.query.Query.TheVariants as query
use Rattle.cc_entry.specs.declared.entry.End.{End}
use Rattle.cc_entry.specs.declared.entry.End.TheVariants as how
use Rattle.cc_entry.specs.declared.entry.Entry.{Entry}
use Rattle.cc_entry.specs.declared.entry.Entry.TheVariants as entry
use Rattle.cc_entry.specs.declared.error.CcError.{CcError}
use Rattle.cc_entry.specs.declared.error.CcError.TheVariants as error
use Rattle.cc_entry.specs.declared.place.FileState.{FileState}
use Rattle.cc_entry.specs.declared.reply.Reply.TheVariants as reply
use Rattle.cc_entry.specs.declared.query.Value.TheVariants as value
use Rattle.cc_model.specs.History.{history}
use Rattle.cc_model.specs.Setup.{Setup}
use Rattle.cc_model.specs.Touches.{valid_of}
use Rattle.cc_records.specs.Left.{StreamHasFlushed, LoadLeft, RecordStopped, SettleLeft, SyncedSome, WroteRecord, WroteSome}
use Rattle.cc_refused_laws.specs.Changed.{ChangedNoFile, ChangedNothing, KeepsAll, KeepsFiles}
use Rattle.cc_refused_laws.proofs.Calls.{looked-files, refused-files}
use Rattle.cc_refused_laws.proofs.Entries.{keeps-all-unlocked, keeps-files}
use Rattle.cc_refused_laws.proofs.Stretches.{is-entry, is-idle, is-only, is-then}

pub load-nothing : (me s : ℕ) (e : CcError) (old new : List Entry) → LoadLeft {A = Unit {0}} me s (Err e) old new → ChangedNothing me old new
load-nothing me s (error.ReadFault page) old new left =
    is-only me KeepsAll (entry.RecordFailed me s) old new left.1 (λ past. keeps-all-unlocked (entry.RecordFailed me s) past refl refl)
load-nothing me s (error.JournalFull entries) old new left = is-idle me KeepsAll old new left
load-nothing me s error.NoMemory old new left = is-idle me KeepsAll old new left
load-nothing me s other old new left = absurd left

wrote-files : (me s first size valid : ℕ) (end : End) (old new : List Entry) → WroteRecord me s first size valid end old new → ChangedNoFile me old new
wrote-files me s first size valid end old new wrote =
    is-then me KeepsFiles old wrote.front new (is-idle me KeepsFiles old wrote.front wrote.before)
    (is-then me KeepsFiles wrote.front (entry.Record me s size valid end ∷ wrote.front) new
    (is-entry me KeepsFiles (entry.Record me s size valid end) wrote.front (keeps-files (entry.Record me s size valid end) wrote.front refl))
    (is-idle me KeepsFiles (entry.Record me s size valid end ∷ wrote.front) new wrote.after))

some-files : (me s first : ℕ) (end : End) (old new : List Entry) → WroteSome me s first end old new → ChangedNoFile me old new
some-files me s first end old new some = wrote-files me s first some.size some.valid end old new some.wrote

synced-files : (me s first : ℕ) (end : End) (old new : List Entry) → SyncedSome me s first end old new → ChangedNoFile me old new
synced-files me s first end old new some =
    is-then me KeepsFiles old some.synced.written new (wrote-files me s first some.size some.valid how.Good old some.synced.written some.synced.wrote)
    (is-only me KeepsFiles (entry.Sync me s end) some.synced.written new some.synced.synced (λ past. keeps-files (entry.Sync me s end) past refl))

stopped-files : (me s first : ℕ) (e : CcError) (old new : List Entry) → RecordStopped me s first e old new → ChangedNoFile me old new
stopped-files me s first (error.JournalFull entries) old new (inl idle) = is-idle me KeepsFiles old new idle
stopped-files me s first (error.JournalFull entries) old new (inr wrote) = some-files me s first how.Good old new wrote
stopped-files me s first error.NoMemory old new (inl (inl idle)) = is-idle me KeepsFiles old new idle
stopped-files me s first error.NoMemory old new (inl (inr wrote)) = some-files me s first how.NoMemory old new wrote
stopped-files me s first error.NoMemory old new (inr (inl wrote)) = some-files me s first how.Good old new wrote
stopped-files me s first error.NoMemory old new (inr (inr synced)) = synced-files me s first how.NoMemory old new synced
stopped-files me s first (error.WriteFault page) old new (is, inl wrote) = some-files me s first how.Failed old new wrote
stopped-files me s first (error.WriteFault page) old new (is, inr synced) = synced-files me s first how.Failed old new synced
stopped-files me s first other old new left = absurd left

flushed-files : (u : Setup) (me : ℕ) (file : File) (told : FileState) (begun old new : List Entry) → StreamHasFlushed u me file told begun old new → ChangedNoFile me old new
flushed-files u me file told begun old new has =
    is-then me KeepsFiles old has.stated new (looked-files u me (call.Query (query.State file)) (reply.Value (value.State told)) old has.stated refl has.state)
    (is-then me KeepsFiles has.stated begun new (is-idle me KeepsFiles has.stated begun has.idle)
    (looked-files u me (call.Flush file None) reply.Unit begun new refl has.flush))

pub settle-files : (u : Setup) (me : ℕ) (file : File) (e : CcError) (old new : List Entry) → SettleLeft u me file (Err e) old new → ChangedNoFile me old new
settle-files u me file e old new (inl left) = refused-files u me (call.Query (query.State file)) e old new left
settle-files u me file e old new (inr (inl left)) =
    is-then me KeepsFiles old left.stated new (looked-files u me (call.Query (query.State file)) (reply.Value (value.State left.told)) old left.stated refl left.state)
    (is-then me KeepsFiles left.stated left.begun new (is-idle me KeepsFiles left.stated left.begun left.idle)
    (refused-files u me (call.Flush file None) e left.begun new left.flush))
settle-files u me file e old new (inr (inr left)) =
    is-then me KeepsFiles old left.flushed new (flushed-files u me file left.told left.begun old left.flushed left.has_flushed)
    (stopped-files me file.stream (valid_of (history left.begun file.stream)) e left.flushed new left.stopped)

-- The settling of a stream in longer stretches: what others placed before and after it belongs to it as well.
use Rattle.std.specs.Prelude.{ℕ, List, ◌∷◌, Result, Ok, Err, ◌⊎◌}
use Rattle.std.specs.declared.option.Option.TheVariants.{None}
use Rattle.std.proofs.Common.{inl, inr}
use Rattle.cc_entry.specs.Place.{File}
use Rattle.cc_entry.specs.declared.place.FileState.{FileState}
use Rattle.cc_entry.specs.declared.call.Call.TheVariants as call
use Rattle.cc_entry.specs.declared.query.Query.TheVariants as query
use Rattle.cc_entry.specs.declared.answer.Answer.{Answer}
use Rattle.cc_entry.specs.declared.answer.Answer.TheVariants as answer
use Rattle.cc_entry.specs.declared.entry.End.{End}
use Rattle.cc_entry.specs.declared.entry.End.TheVariants as how
use Rattle.cc_entry.specs.declared.entry.Entry.{Entry}
use Rattle.cc_entry.specs.declared.entry.Entry.TheVariants as entry
use Rattle.cc_entry.specs.declared.error.CcError.{CcError}
use Rattle.cc_entry.specs.declared.error.CcError.TheVariants as error
use Rattle.cc_entry.specs.declared.reply.Reply.TheVariants as reply
use Rattle.cc_entry.specs.declared.query.Value.TheVariants as value
use Rattle.cc_entry.specs.declared.reply.Outcome.TheVariants as outcome
use Rattle.cc_model.specs.Setup.{Setup}
use Rattle.cc_effects.specs.Moments.{IsIdle}
use Rattle.cc_effects.proofs.Stretches.{idle-then, only-after}
use Rattle.cc_effects.proofs.CallSteps.{left-after, left-before}
use Rattle.cc_records.specs.Left.{StreamHasFlushed, IsUnflushed, IsUnrecorded, RecordStopped, SettleLeft, SyncedRecord, SyncedSome, WroteRecord, WroteSome}
use Rattle.cc_pieces.specs.Answered.{SettleAnswered}

-- ---- what others placed before

module _ (u : Setup) (me : ℕ) (file : File) (older old : List Entry) (idle : IsIdle me older old) where
  has-flushed-before : (told : FileState) (begun new : List Entry) → StreamHasFlushed u me file told begun old new → StreamHasFlushed u me file told begun older new
  has-flushed-before told begun new is = record {
    stated = is.stated;
    state = left-before u me (call.Query (query.State file)) (outcome.Done (reply.Value (value.State told))) older old is.stated idle is.state;
    idle = is.idle;
    flush = is.flush;
  }

  unflushed-before : (e : CcError) (new : List Entry) → IsUnflushed u me file e old new → IsUnflushed u me file e older new
  unflushed-before e new is = record {
    told = is.told;
    stated = is.stated;
    state = left-before u me (call.Query (query.State file)) (outcome.Done (reply.Value (value.State is.told))) older old is.stated idle is.state;
    begun = is.begun;
    idle = is.idle;
    flush = is.flush;
  }

  unrecorded-before : (e : CcError) (new : List Entry) → IsUnrecorded u me file e old new → IsUnrecorded u me file e older new
  unrecorded-before e new is = record {
    told = is.told;
    begun = is.begun;
    flushed = is.flushed;
    has_flushed = has-flushed-before is.told is.begun is.flushed is.has_flushed;
    stopped = is.stopped;
  }

  settle-before : (answered : Result FileState CcError) (new : List Entry) → SettleLeft u me file answered old new → SettleLeft u me file answered older new
  settle-before (Ok state) new is = record {
    told = is.told;
    begun = is.begun;
    flushed = is.flushed;
    has_flushed = has-flushed-before is.told is.begun is.flushed is.has_flushed;
    recorded = is.recorded;
    allocation = is.allocation;
    log = is.log;
  }
  settle-before (Err e) new (inl left) = inl (left-before u me (call.Query (query.State file)) (outcome.Failed e) older old new idle left)
  settle-before (Err e) new (inr (inl is)) = inr (inl (unflushed-before e new is))
  settle-before (Err e) new (inr (inr is)) = inr (inr (unrecorded-before e new is))

  pub settled-before : (told : Answer) (new : List Entry) → SettleAnswered u me file told old new → SettleAnswered u me file told older new
  settled-before (answer.Given (reply.Value (value.State state))) new left = settle-before (Ok state) new left
  settled-before (answer.Refused e) new left = settle-before (Err e) new left
  settled-before other new left = absurd left

-- ---- what others placed after

module _ (me : ℕ) (new newer : List Entry) (idle : IsIdle me new newer) where
  wrote-after : (s first size valid : ℕ) (end : End) (old : List Entry) → WroteRecord me s first size valid end old new → WroteRecord me s first size valid end old newer
  wrote-after s first size valid end old is = record {
    front = is.front;
    before = is.before;
    its_size = is.its_size;
    its_valid = is.its_valid;
    after = idle-then me (entry.Record me s size valid end ∷ is.front) new newer is.after idle;
  }

  wrote-some-after : (s first : ℕ) (end : End) (old : List Entry) → WroteSome me s first end old new → WroteSome me s first end old newer
  wrote-some-after s first end old is =
      record { size = is.size; valid = is.valid; wrote = wrote-after s first is.size is.valid end old is.wrote }

  synced-after : (s first size valid : ℕ) (end : End) (old : List Entry) → SyncedRecord me s first size valid end old new → SyncedRecord me s first size valid end old newer
  synced-after s first size valid end old is = record {
    written = is.written;
    wrote = is.wrote;
    synced = only-after me (entry.Sync me s end) is.written new newer is.synced idle;
  }

  synced-some-after : (s first : ℕ) (end : End) (old : List Entry) → SyncedSome me s first end old new → SyncedSome me s first end old newer
  synced-some-after s first end old is =
      record { size = is.size; valid = is.valid; synced = synced-after s first is.size is.valid end old is.synced }

  stopped-after : (s first : ℕ) (e : CcError) (old : List Entry) → RecordStopped me s first e old new → RecordStopped me s first e old newer
  stopped-after s first (error.JournalFull entries) old (inl none) = inl (idle-then me old new newer none idle)
  stopped-after s first (error.JournalFull entries) old (inr wrote) = inr (wrote-some-after s first how.Good old wrote)
  stopped-after s first error.NoMemory old (inl (inl none)) = inl (inl (idle-then me old new newer none idle))
  stopped-after s first error.NoMemory old (inl (inr wrote)) = inl (inr (wrote-some-after s first how.NoMemory old wrote))
  stopped-after s first error.NoMemory old (inr (inl wrote)) = inr (inl (wrote-some-after s first how.Good old wrote))
  stopped-after s first error.NoMemory old (inr (inr synced)) = inr (inr (synced-some-after s first how.NoMemory old synced))
  stopped-after s first (error.WriteFault page) old left = (left.0, by left.1)
    where
      by : WroteSome me s first how.Failed old new ⊎ SyncedSome me s first how.Failed old new → WroteSome me s first how.Failed old newer ⊎ SyncedSome me s first how.Failed old newer
      by (inl wrote) = inl (wrote-some-after s first how.Failed old wrote)
      by (inr synced) = inr (synced-some-after s first how.Failed old synced)
  stopped-after s first other old left = absurd left

  module _ (u : Setup) (file : File) where
    unflushed-after : (e : CcError) (old : List Entry) → IsUnflushed u me file e old new → IsUnflushed u me file e old newer
    unflushed-after e old is = record {
      told = is.told;
      stated = is.stated;
      state = is.state;
      begun = is.begun;
      idle = is.idle;
      flush = left-after u me (call.Flush file None) (outcome.Failed e) is.begun new newer is.flush idle;
    }

    unrecorded-after : (e : CcError) (old : List Entry) → IsUnrecorded u me file e old new → IsUnrecorded u me file e old newer
    unrecorded-after e old is = record {
      told = is.told;
      begun = is.begun;
      flushed = is.flushed;
      has_flushed = is.has_flushed;
      stopped = stopped-after file.stream _ e is.flushed is.stopped;
    }

    settle-after : (answered : Result FileState CcError) (old : List Entry) → SettleLeft u me file answered old new → SettleLeft u me file answered old newer
    settle-after (Ok state) old is = record {
      told = is.told;
      begun = is.begun;
      flushed = is.flushed;
      has_flushed = is.has_flushed;
      recorded = synced-after file.stream _ state.sizes.size state.sizes.valid how.Good is.flushed is.recorded;
      allocation = is.allocation;
      log = is.log;
    }
    settle-after (Err e) old (inl left) = inl (left-after u me (call.Query (query.State file)) (outcome.Failed e) old new newer left idle)
    settle-after (Err e) old (inr (inl is)) = inr (inl (unflushed-after e old is))
    settle-after (Err e) old (inr (inr is)) = inr (inr (unrecorded-after e old is))

    pub settled-after : (told : Answer) (old : List Entry) → SettleAnswered u me file told old new → SettleAnswered u me file told old newer
    settled-after (answer.Given (reply.Value (value.State state))) old left = settle-after (Ok state) old left
    settled-after (answer.Refused e) old left = settle-after (Err e) old left
    settled-after other old left = absurd left

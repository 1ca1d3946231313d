-- The line that settles a stream: what the call left explains it, and the words stand on, since it changes no hold.
use Rattle.std.specs.Prelude.{ℕ, List, ◌∷◌, Result, Ok, Err, refl, ◌⊎◌}
use Rattle.std.specs.declared.option.Option.TheVariants.{None}
use Rattle.std.proofs.Common.{inl, inr}
use Rattle.cc_entry.specs.Place.{File}
use Rattle.cc_entry.specs.declared.place.FileState.{FileState}
use Rattle.cc_entry.specs.declared.answer.Answer.{Answer}
use Rattle.cc_entry.specs.declared.answer.Answer.TheVariants as answer
use Rattle.cc_entry.specs.declared.call.Call.TheVariants as call
use Rattle.cc_entry.specs.declared.query.Query.TheVariants as query
use Rattle.cc_entry.specs.declared.entry.End.{End}
use Rattle.cc_entry.specs.declared.entry.End.TheVariants as how
use Rattle.cc_entry.specs.declared.entry.Entry.{Entry}
use Rattle.cc_entry.specs.declared.entry.Entry.TheVariants as entry
use Rattle.cc_entry.specs.declared.error.CcError.{CcError}
use Rattle.cc_entry.specs.declared.error.CcError.TheVariants as error
use Rattle.cc_entry.specs.declared.reply.Outcome.{Outcome}
use Rattle.cc_entry.specs.declared.reply.Outcome.TheVariants as outcome
use Rattle.cc_entry.specs.declared.reply.Reply.TheVariants as reply
use Rattle.cc_entry.specs.declared.query.Value.TheVariants as value
use Rattle.cc_script.specs.declared.script.Action.TheVariants as action
use Rattle.cc_model.specs.Good.{IsGood}
use Rattle.cc_model.specs.Setup.{Setup}
use Rattle.cc_effects.specs.Calls.{CallLeft}
use Rattle.cc_own.specs.Own.{IsUnchanged}
use Rattle.cc_own.proofs.Unchanged.{unchanged-call, unchanged-entry, unchanged-idle, unchanged-only, unchanged-then}
use Rattle.cc_records.specs.Left.{StreamHasFlushed, IsUnflushed, RecordStopped, SettleLeft, SyncedRecord, WroteRecord, WroteSome, SyncedSome}
use Rattle.cc_pieces.specs.Answered.{SettleAnswered}
use Rattle.cc_turns.specs.Standing.{Standing}
use Rattle.cc_calls.specs.Pages.{WentOn}
use Rattle.cc_lines.specs.Holds.{NamesState}
use Rattle.cc_lines.specs.Line.{IsFullTold, LineServed}
use Rattle.cc_lines.proofs.WordLines.{stand-on}

module _ (u : Setup) (me id : ℕ) (file : File) where
  wrote-unchanged : (first size valid : ℕ) (end : End) (old new : List Entry) → WroteRecord me file.stream first size valid end old new → IsUnchanged me id old new
  wrote-unchanged first size valid end old new is =
      unchanged-then me id old is.front new (unchanged-idle me id old is.front is.before)
      (unchanged-then me id is.front (entry.Record me file.stream size valid end ∷ is.front) new
      (unchanged-entry me id (entry.Record me file.stream size valid end) is.front refl)
      (unchanged-idle me id _ new is.after))

  synced-unchanged : (first size valid : ℕ) (end : End) (old new : List Entry) → SyncedRecord me file.stream first size valid end old new → IsUnchanged me id old new
  synced-unchanged first size valid end old new is =
      unchanged-then me id old is.written new (wrote-unchanged first size valid how.Good old is.written is.wrote)
      (unchanged-only me id (entry.Sync me file.stream end) is.written new is.synced refl)

  some-unchanged : (first : ℕ) (end : End) (old new : List Entry) → WroteSome me file.stream first end old new → IsUnchanged me id old new
  some-unchanged first end old new is = wrote-unchanged first is.size is.valid end old new is.wrote

  synced-some-unchanged : (first : ℕ) (end : End) (old new : List Entry) → SyncedSome me file.stream first end old new → IsUnchanged me id old new
  synced-some-unchanged first end old new is = synced-unchanged first is.size is.valid end old new is.synced

  stopped-unchanged : (first : ℕ) (e : CcError) (old new : List Entry) → RecordStopped me file.stream first e old new → IsUnchanged me id old new
  stopped-unchanged first (error.JournalFull entries) old new (inl idle) = unchanged-idle me id old new idle
  stopped-unchanged first (error.JournalFull entries) old new (inr wrote) = some-unchanged first how.Good old new wrote
  stopped-unchanged first error.NoMemory old new (inl (inl idle)) = unchanged-idle me id old new idle
  stopped-unchanged first error.NoMemory old new (inl (inr wrote)) = some-unchanged first how.NoMemory old new wrote
  stopped-unchanged first error.NoMemory old new (inr (inl wrote)) = some-unchanged first how.Good old new wrote
  stopped-unchanged first error.NoMemory old new (inr (inr synced)) = synced-some-unchanged first how.NoMemory old new synced
  stopped-unchanged first (error.WriteFault page) old new left = by left.1
    where
      by : WroteSome me file.stream first how.Failed old new ⊎ SyncedSome me file.stream first how.Failed old new → IsUnchanged me id old new
      by (inl wrote) = some-unchanged first how.Failed old new wrote
      by (inr synced) = synced-some-unchanged first how.Failed old new synced
  stopped-unchanged first other old new left = absurd left

  state-unchanged : (ended : Outcome) (old new : List Entry) → CallLeft u me (call.Query (query.State file)) ended old new → IsUnchanged me id old new
  state-unchanged ended old new left = unchanged-call u me id (call.Query (query.State file)) ended old new left refl

  flush-unchanged : (ended : Outcome) (old new : List Entry) → CallLeft u me (call.Flush file None) ended old new → IsUnchanged me id old new
  flush-unchanged ended old new left = unchanged-call u me id (call.Flush file None) ended old new left refl

  flushed-unchanged : (told : FileState) (begun old new : List Entry) → StreamHasFlushed u me file told begun old new → IsUnchanged me id old new
  flushed-unchanged told begun old new is =
      unchanged-then me id old is.stated new (state-unchanged (outcome.Done (reply.Value (value.State told))) old is.stated is.state)
      (unchanged-then me id is.stated begun new (unchanged-idle me id is.stated begun is.idle) (flush-unchanged (outcome.Done reply.Unit) begun new is.flush))

  unflushed-unchanged : (e : CcError) (old new : List Entry) → IsUnflushed u me file e old new → IsUnchanged me id old new
  unflushed-unchanged e old new is =
      unchanged-then me id old is.stated new (state-unchanged (outcome.Done (reply.Value (value.State is.told))) old is.stated is.state)
      (unchanged-then me id is.stated is.begun new (unchanged-idle me id is.stated is.begun is.idle) (flush-unchanged (outcome.Failed e) is.begun new is.flush))

  pub settle-unchanged : (answered : Result FileState CcError) (old new : List Entry) → SettleLeft u me file answered old new → IsUnchanged me id old new
  settle-unchanged (Ok state) old new is =
      unchanged-then me id old is.flushed new (flushed-unchanged is.told is.begun old is.flushed is.has_flushed)
      (synced-unchanged _ state.sizes.size state.sizes.valid how.Good is.flushed new is.recorded)
  settle-unchanged (Err e) old new (inl left) = state-unchanged (outcome.Failed e) old new left
  settle-unchanged (Err e) old new (inr (inl is)) = unflushed-unchanged e old new is
  settle-unchanged (Err e) old new (inr (inr is)) =
      unchanged-then me id old is.flushed new (flushed-unchanged is.told is.begun old is.flushed is.has_flushed)
      (stopped-unchanged _ e is.flushed new is.stopped)

  pub settled-unchanged : (told : Answer) (old new : List Entry) → SettleAnswered u me file told old new → IsUnchanged me id old new
  settled-unchanged (answer.Given (reply.Value (value.State state))) old new left = settle-unchanged (Ok state) old new left
  settled-unchanged (answer.Refused e) old new left = settle-unchanged (Err e) old new left
  settled-unchanged other old new left = absurd left

module _ (old new : Standing) (told : Answer) (names : NamesState) (full : IsFullTold new told) (went : WentOn old new) (good : IsGood old.setup new.seen) where
  pub settle-line : (file : File) → SettleAnswered old.setup old.number file told old.seen new.seen → LineServed old new (action.Settle file) told names names
  settle-line file left = record {
    served = λ bounds bindings stand right. (
      left,
      stand-on old new went good bounds bindings names (λ id. settled-unchanged old.setup old.number id file told old.seen new.seen left) stand,
    );
    full = inl full;
    goes_on = went;
    good = good;
    room = refl;
    placed = refl;
  }

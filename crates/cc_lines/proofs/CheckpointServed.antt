-- The line that makes a checkpoint: what the call left explains it, and the words stand on, since it changes no hold.
use Rattle.std.specs.Prelude.{ℕ, zero, suc, List, [], ◌∷◌, map, Result, Ok, Err, refl, ◌⊎◌}
use Rattle.std.specs.declared.option.Option.{Option}
use Rattle.std.specs.declared.option.Option.TheVariants.{Some, None}
use Rattle.std.proofs.Common.{inl, inr}
use Rattle.cc_entry.specs.declared.place.DirtyRow.{DirtyRow}
use Rattle.cc_entry.specs.declared.place.FileState.{FileState}
use Rattle.cc_entry.specs.declared.answer.Answer.{Answer}
use Rattle.cc_entry.specs.declared.answer.Answer.TheVariants as answer
use Rattle.cc_entry.specs.declared.call.Call.TheVariants as call
use Rattle.cc_entry.specs.declared.query.Query.TheVariants as query
use Rattle.cc_entry.specs.declared.entry.Entry.{Entry}
use Rattle.cc_entry.specs.declared.error.CcError.{CcError}
use Rattle.cc_entry.specs.declared.error.CcError.TheVariants as error
use Rattle.cc_entry.specs.declared.reply.Outcome.TheVariants as outcome
use Rattle.cc_entry.specs.declared.reply.Reply.TheVariants as reply
use Rattle.cc_entry.specs.declared.query.Value.TheVariants as value
use Rattle.cc_script.specs.declared.script.Action.TheVariants as action
use Rattle.cc_model.specs.Good.{IsGood}
use Rattle.cc_model.specs.Setup.{Setup}
use Rattle.cc_own.specs.Own.{IsUnchanged}
use Rattle.cc_own.proofs.Unchanged.{unchanged-call, unchanged-idle, unchanged-then}
use Rattle.cc_own.proofs.VerbsKeep.{append-unchanged, log_flush-unchanged}
use Rattle.cc_pieces.specs.Shim.{CallsLeft}
use Rattle.cc_pieces.specs.Checkpoints.{AskingStopped, CheckpointAnswered, CheckpointLeft, RecordFlushed, RecordLogged, RowsLogged, StateAsked, StatesAsked, StateRefused, SyncedLogged, first_object, record_of_rows, sync_call}
use Rattle.cc_turns.specs.Standing.{Standing}
use Rattle.cc_calls.specs.Pages.{WentOn}
use Rattle.cc_lines.specs.Holds.{NamesState}
use Rattle.cc_lines.specs.Line.{LineServed, WasFullTold}
use Rattle.cc_lines.proofs.WordLines.{stand-on}

module _ (u : Setup) (me id streams handle : ℕ) where
  asked-unchanged : (s : ℕ) (state : Option FileState) (old new : List Entry) → StateAsked u me s state old new → IsUnchanged me id old new
  asked-unchanged s (Some state) old new left = unchanged-call u me id (call.Query (query.State (first_object s))) (outcome.Done (reply.Value (value.State state))) old new left refl
  asked-unchanged s None old new left = unchanged-call u me id (call.Query (query.State (first_object s))) (outcome.Failed error.NotCached) old new left refl

  states-unchanged : (n : ℕ) (found : List ℕ) (old new : List Entry) → StatesAsked u me handle n found old new → IsUnchanged me id old new
  states-unchanged zero found old new left = unchanged-idle me id old new left.1
  states-unchanged (suc n) found old new left =
      unchanged-then me id old left.2 new (states-unchanged n left.0 old left.2 left.4) (asked-unchanged n left.1 left.2 new left.5)

  syncs-unchanged : (found : List ℕ) (answered : Result (Unit {0}) CcError) (old new : List Entry) → CallsLeft u me (map sync_call found) answered old new → IsUnchanged me id old new
  syncs-unchanged [] (Ok done) old new left = unchanged-idle me id old new left
  syncs-unchanged [] (Err e) old new left = absurd left
  syncs-unchanged (s ∷ found) (Ok done) old new left =
      unchanged-then me id old left.0 new (unchanged-call u me id (sync_call s) (outcome.Done reply.Unit) old left.0 left.1 refl) (syncs-unchanged found (Ok done) left.0 new left.2)
  syncs-unchanged (s ∷ found) (Err e) old new (inl left) = unchanged-call u me id (sync_call s) (outcome.Failed e) old new left refl
  syncs-unchanged (s ∷ found) (Err e) old new (inr left) =
      unchanged-then me id old left.0 new (unchanged-call u me id (sync_call s) (outcome.Done reply.Unit) old left.0 left.1 refl) (syncs-unchanged found (Err e) left.0 new left.2)

  flushed-unchanged : (lsn : ℕ) (answered : Result ℕ CcError) (old new : List Entry) → RecordFlushed u me handle lsn answered old new → IsUnchanged me id old new
  flushed-unchanged lsn (Ok told) old new left = log_flush-unchanged {T = Unit {0}} u me id handle lsn (Ok tt) old new left.1
  flushed-unchanged lsn (Err e) old new left = log_flush-unchanged {T = Unit {0}} u me id handle lsn (Err e) old new left

  logged-unchanged : (spelled : List ℕ) (answered : Result ℕ CcError) (old new : List Entry) → RecordLogged u me handle spelled answered old new → IsUnchanged me id old new
  logged-unchanged spelled answered old new (inl left) = append-unchanged u me id handle spelled (Err left.0) old new left.2
  logged-unchanged spelled answered old new (inr left) =
      unchanged-then me id old left.0 new (append-unchanged u me id handle spelled (Ok left.1) old left.0 left.2) (flushed-unchanged left.1 answered left.0 new left.3)

  synced-unchanged : (found spelled : List ℕ) (answered : Result ℕ CcError) (old new : List Entry) → SyncedLogged u me handle found spelled answered old new → IsUnchanged me id old new
  synced-unchanged found spelled answered old new (inl left) = syncs-unchanged found (Err left.0) old new left.2
  synced-unchanged found spelled answered old new (inr left) =
      unchanged-then me id old left.0 new (syncs-unchanged found (Ok tt) old left.0 left.1) (logged-unchanged spelled answered left.0 new left.2)

  rows-unchanged : (rows : List DirtyRow) (answered : Result ℕ CcError) (old new : List Entry) → RowsLogged u me streams handle rows answered old new → IsUnchanged me id old new
  rows-unchanged rows answered old new (inl left) = by left.2
    where
      by : AskingStopped u me handle streams left.0 old new ⊎ StateRefused u me handle streams left.0 old new → IsUnchanged me id old new
      by (inl stopped) = states-unchanged stopped.n stopped.found old new stopped.asked
      by (inr refused) =
          unchanged-then me id old refused.between new (states-unchanged refused.n refused.found old refused.between refused.asked)
          (unchanged-call u me id (call.Query (query.State (first_object refused.n))) (outcome.Failed left.0) refused.between new refused.refused refl)
  rows-unchanged rows answered old new (inr left) =
      unchanged-then me id old left.0 new (states-unchanged streams left.1 old left.0 left.2)
      (synced-unchanged left.1 (record_of_rows rows) answered left.0 new left.3)

  left-unchanged : (answered : Result ℕ CcError) (old new : List Entry) → CheckpointLeft u me streams handle answered old new → IsUnchanged me id old new
  left-unchanged answered old new (inl left) = unchanged-call u me id (call.Query (query.DirtyPages handle)) (outcome.Failed left.0) old new left.2 refl
  left-unchanged answered old new (inr left) =
      unchanged-then me id old left.0 new (unchanged-call u me id (call.Query (query.DirtyPages handle)) (outcome.Done (reply.Rows left.1)) old left.0 left.2 refl)
      (rows-unchanged left.1 answered left.0 new left.3)

  pub checkpoint-unchanged : (told : Answer) (old new : List Entry) → CheckpointAnswered u me streams handle told old new → IsUnchanged me id old new
  checkpoint-unchanged (answer.NewLsn lsn) old new left = left-unchanged (Ok lsn) old new left
  checkpoint-unchanged (answer.Refused e) old new left = left-unchanged (Err e) old new left
  checkpoint-unchanged other old new left = absurd left

module _ (old new : Standing) (told : Answer) (names : NamesState) (full : WasFullTold old new told) (went : WentOn old new) (good : IsGood old.setup new.seen) where
  pub checkpoint-line : (streams handle : ℕ) → CheckpointAnswered old.setup old.number streams handle told old.seen new.seen → LineServed old new (action.Checkpoint streams handle) told names names
  checkpoint-line streams handle left = record {
    served = λ bounds bindings stand right. (
      left,
      stand-on old new went good bounds bindings names (λ id. checkpoint-unchanged old.setup old.number id streams handle told old.seen new.seen left) stand,
    );
    full = inr (tt, full);
    goes_on = went;
    good = good;
    room = refl;
    placed = refl;
  }

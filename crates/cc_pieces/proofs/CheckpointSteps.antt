-- What a checkpoint left in longer stretches: what others placed before and after belongs to it as well.
use Rattle.std.specs.Prelude.{ℕ, zero, suc, ◌<◌, Bool, true, false, List, [], ◌∷◌, ◌++◌, map, Result, Ok, Err, ◌⊎◌, if◌then◌else◌}
use Rattle.std.specs.List.{AllByRecursion}
use Rattle.std.specs.declared.option.Option.{Option}
use Rattle.std.specs.declared.option.Option.TheVariants.{Some, None}
use Rattle.std.proofs.Common.{arith, inl, inr, subst, sym}
use Rattle.cc_entry.specs.declared.place.DirtyRow.{DirtyRow}
use Rattle.cc_entry.specs.declared.place.FileState.{FileState}
use Rattle.cc_entry.specs.declared.call.Call.TheVariants as call
use Rattle.cc_entry.specs.declared.query.Query.TheVariants as query
use Rattle.cc_entry.specs.declared.answer.Answer.{Answer}
use Rattle.cc_entry.specs.declared.answer.Answer.TheVariants as answer
use Rattle.cc_entry.specs.declared.entry.Entry.{Entry}
use Rattle.cc_entry.specs.declared.error.CcError.{CcError}
use Rattle.cc_entry.specs.declared.error.CcError.TheVariants as error
use Rattle.cc_entry.specs.declared.reply.Reply.TheVariants as reply
use Rattle.cc_entry.specs.declared.query.Value.TheVariants as value
use Rattle.cc_entry.specs.declared.reply.Outcome.TheVariants as outcome
use Rattle.cc_model.specs.Setup.{Setup}
use Rattle.cc_effects.specs.Moments.{IsIdle}
use Rattle.cc_effects.proofs.Stretches.{idle-then}
use Rattle.cc_effects.proofs.CallSteps.{left-after, left-before}
use Rattle.cc_effects.proofs.OtherSteps.{append-after, log-flush-after}
use Rattle.cc_pieces.specs.Checkpoints.{AskingStopped, CheckpointAnswered, CheckpointLeft, RecordFlushed, RecordLogged, RowsLogged, StateAsked, StatesAsked, StateRefused, SyncedLogged, first_object, state_has_log, record_of_rows, sync_call}
use Rattle.cc_pieces.proofs.ShimSteps.{calls-after}

-- the streams that were found to have the log are among those that were asked
below-more : (n : ℕ) (found : List ℕ) → AllByRecursion (λ s. s < n) found → AllByRecursion (λ s. s < suc n) found
below-more n [] all = tt
below-more n (s ∷ found) all = let low = all.0 in (omega (arith, low), below-more n found all.1)

below-onto : (n : ℕ) (found : List ℕ) → AllByRecursion (λ s. s < n) found → AllByRecursion (λ s. s < suc n) (found ++ n ∷ [])
below-onto n [] all = (omega arith, tt)
below-onto n (s ∷ found) all = let low = all.0 in (omega (arith, low), below-onto n found all.1)

below-with : (n : ℕ) (found : List ℕ) (has : Bool) → AllByRecursion (λ s. s < n) found → AllByRecursion (λ s. s < suc n) (if has then found ++ n ∷ [] else found)
below-with n found true all = below-onto n found all
below-with n found false all = below-more n found all

pub found-below : (u : Setup) (me handle n : ℕ) (found : List ℕ) (old new : List Entry) → StatesAsked u me handle n found old new → AllByRecursion (λ s. s < n) found
found-below u me handle zero found old new left = subst (AllByRecursion (λ s. s < 0)) (sym left.0) tt
found-below u me handle (suc n) found old new left =
    subst (AllByRecursion (λ s. s < suc n)) (sym left.3) (below-with n left.0 (state_has_log handle left.1) (found-below u me handle n left.0 old left.2 left.4))

module _ (u : Setup) (me streams handle : ℕ) where
  -- what others placed before
  module _ (older old : List Entry) (idle : IsIdle me older old) where
    left-checkpoint-before : (answered : Result ℕ CcError) (new : List Entry) → CheckpointLeft u me streams handle answered old new → CheckpointLeft u me streams handle answered older new
    left-checkpoint-before answered new (inl left) =
        inl (left.0, left.1, left-before u me (call.Query (query.DirtyPages handle)) (outcome.Failed left.0) older old new idle left.2)
    left-checkpoint-before answered new (inr left) =
        inr (left.0, left.1, left-before u me (call.Query (query.DirtyPages handle)) (outcome.Done (reply.Rows left.1)) older old left.0 idle left.2, left.3)

    pub checkpoint-before : (told : Answer) (new : List Entry) → CheckpointAnswered u me streams handle told old new → CheckpointAnswered u me streams handle told older new
    checkpoint-before (answer.NewLsn lsn) new left = left-checkpoint-before (Ok lsn) new left
    checkpoint-before (answer.Refused e) new left = left-checkpoint-before (Err e) new left
    checkpoint-before other new left = absurd left

  -- what others placed after
  module _ (new newer : List Entry) (idle : IsIdle me new newer) where
    asked-after : (s : ℕ) (state : Option FileState) (old : List Entry) → StateAsked u me s state old new → StateAsked u me s state old newer
    asked-after s (Some state) old left = left-after u me (call.Query (query.State (first_object s))) (outcome.Done (reply.Value (value.State state))) old new newer left idle
    asked-after s None old left = left-after u me (call.Query (query.State (first_object s))) (outcome.Failed error.NotCached) old new newer left idle

    states-after : (n : ℕ) (found : List ℕ) (old : List Entry) → StatesAsked u me handle n found old new → StatesAsked u me handle n found old newer
    states-after zero found old left = (left.0, idle-then me old new newer left.1 idle)
    states-after (suc n) found old left = (left.0, left.1, left.2, left.3, left.4, asked-after n left.1 left.2 left.5)

    record-flushed-after : (lsn : ℕ) (answered : Result ℕ CcError) (old : List Entry) → RecordFlushed u me handle lsn answered old new → RecordFlushed u me handle lsn answered old newer
    record-flushed-after lsn (Ok told) old left = (left.0, log-flush-after {T = Unit {0}} u me handle lsn (Ok tt) old new newer left.1 idle)
    record-flushed-after lsn (Err e) old left = log-flush-after {T = Unit {0}} u me handle lsn (Err e) old new newer left idle

    record-logged-after : (spelled : List ℕ) (answered : Result ℕ CcError) (old : List Entry) → RecordLogged u me handle spelled answered old new → RecordLogged u me handle spelled answered old newer
    record-logged-after spelled answered old (inl left) = inl (left.0, left.1, append-after u me handle spelled (Err left.0) old new newer left.2 idle)
    record-logged-after spelled answered old (inr left) = inr (left.0, left.1, left.2, record-flushed-after left.1 answered left.0 left.3)

    synced-logged-after : (found spelled : List ℕ) (answered : Result ℕ CcError) (old : List Entry) → SyncedLogged u me handle found spelled answered old new → SyncedLogged u me handle found spelled answered old newer
    synced-logged-after found spelled answered old (inl left) = inl (left.0, left.1, calls-after u me new newer idle (map sync_call found) (Err left.0) old left.2)
    synced-logged-after found spelled answered old (inr left) = inr (left.0, left.1, record-logged-after spelled answered left.0 left.2)

    asking-after : (e : CcError) (old : List Entry) → AskingStopped u me handle streams e old new ⊎ StateRefused u me handle streams e old new → AskingStopped u me handle streams e old newer ⊎ StateRefused u me handle streams e old newer
    asking-after e old (inl is) = inl (record { n = is.n; found = is.found; within = is.within; wanting = is.wanting; asked = states-after is.n is.found old is.asked })
    asking-after e old (inr is) =
        inr (record {
          n = is.n;
          found = is.found;
          between = is.between;
          below = is.below;
          asked = is.asked;
          other = is.other;
          refused = left-after u me (call.Query (query.State (first_object is.n))) (outcome.Failed e) is.between new newer is.refused idle;
        })

    rows-logged-after : (rows : List DirtyRow) (answered : Result ℕ CcError) (old : List Entry) → RowsLogged u me streams handle rows answered old new → RowsLogged u me streams handle rows answered old newer
    rows-logged-after rows answered old (inl left) = inl (left.0, left.1, asking-after left.0 old left.2)
    rows-logged-after rows answered old (inr left) = inr (left.0, left.1, left.2, synced-logged-after left.1 (record_of_rows rows) answered left.0 left.3)

    left-checkpoint-after : (answered : Result ℕ CcError) (old : List Entry) → CheckpointLeft u me streams handle answered old new → CheckpointLeft u me streams handle answered old newer
    left-checkpoint-after answered old (inl left) =
        inl (left.0, left.1, left-after u me (call.Query (query.DirtyPages handle)) (outcome.Failed left.0) old new newer left.2 idle)
    left-checkpoint-after answered old (inr left) = inr (left.0, left.1, left.2, rows-logged-after left.1 answered left.0 left.3)

    pub checkpoint-after : (told : Answer) (old : List Entry) → CheckpointAnswered u me streams handle told old new → CheckpointAnswered u me streams handle told old newer
    checkpoint-after (answer.NewLsn lsn) old left = left-checkpoint-after (Ok lsn) old left
    checkpoint-after (answer.Refused e) old left = left-checkpoint-after (Err e) old left
    checkpoint-after other old left = absurd left

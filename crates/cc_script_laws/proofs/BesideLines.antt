-- Which lines keep the form of a journal of updates: each that leaves the stream to its updates, but a checkpoint of its log.
use Rattle.std.specs.Prelude.{◌≡◌, ℕ, ◌^◌, ◌<◌, ◌==◌, ◌&&◌, ◌||◌, nat_lt, Bool, true, false, not, List, ◌∷◌, length, Result, refl, ◌⊎◌}
use Rattle.std.specs.declared.option.Option.{Option}
use Rattle.std.specs.declared.option.Option.TheVariants.{Some, None}
use Rattle.std.proofs.Common.{arith, sym, subst, inl, inr, eq-eqb}
use Rattle.std.proofs.lemmas.Bool.{and_parts, eqb-true}
use Rattle.cc_entry.specs.Place.{File}
use Rattle.cc_entry.specs.declared.answer.Answer.{Answer}
use Rattle.cc_entry.specs.declared.call.Call.{Call}
use Rattle.cc_entry.specs.declared.call.Call.TheVariants as call
use Rattle.cc_entry.specs.declared.query.Query.TheVariants as query
use Rattle.cc_entry.specs.declared.entry.Entry.{Entry}
use Rattle.cc_entry.specs.declared.entry.Entry.TheVariants as entry
use Rattle.cc_entry.specs.declared.error.CcError.{CcError}
use Rattle.cc_entry.specs.declared.place.FileState.{FileState}
use Rattle.cc_entry.specs.declared.place.Request.{Request}
use Rattle.cc_entry.specs.declared.reply.Outcome.TheVariants as outcome
use Rattle.cc_script.specs.declared.script.Action.{Action}
use Rattle.cc_script.specs.declared.script.Action.TheVariants as action
use Rattle.cc_model.specs.Good.{IsGoodSoFar}
use Rattle.cc_model.specs.History.{history}
use Rattle.cc_model.specs.Objects.{had_map}
use Rattle.cc_model.specs.Passes.{HasSeen}
use Rattle.cc_model.specs.Setup.{Setup}
use Rattle.cc_effects.specs.Moments.{IsIdle}
use Rattle.cc_records.specs.Left.{SettleLeft}
use Rattle.cc_redo.specs.Reading.{said_by}
use Rattle.cc_redo.specs.declared.record.LogRecord.{LogRecord}
use Rattle.cc_redo.specs.declared.record.LogRecord.TheVariants.{Update, Checkpoint}
use Rattle.cc_restart_laws.specs.Updates.{IsUpdatedBy, MayLogRecord}
use Rattle.cc_update_laws.proofs.Keeping.{KeepsAll, all-idle, all-then}
use Rattle.cc_update_laws.proofs.Said.{said-update}
use Rattle.cc_update_laws.proofs.Updates.{all-update}
use Rattle.cc_update_laws.specs.Keeping.{HasNoneOpen}
use Rattle.cc_pieces.proofs.Grown.{grew-then}
use Rattle.cc_pieces.specs.Answered.{AheadAnswered, TickAnswered}
use Rattle.cc_pieces.specs.Bindings.{Binding}
use Rattle.cc_pieces.specs.Checkpoints.{CheckpointLeft}
use Rattle.cc_pieces.specs.Phases.{lazy_writer, read_ahead_worker}
use Rattle.cc_pieces.specs.Served.{Served}
use Rattle.cc_pieces.specs.Shim.{UpdateLeft}
use Rattle.cc_script_laws.specs.Lines.{checkpoints, is_apart, is_one_call, leaves_to_updates, left_to_updates, says_neither, was_refused}
use Rattle.cc_script_laws.specs.Told.{initialises}
use Rattle.cc_script_laws.proofs.Beside.{IsBeside, kept-append, kept-call, kept-failed, kept-plain, kept-record}
use Rattle.cc_script_laws.proofs.Growing.{good-seen, had-seen, seen-entry, seen-idle}
use Rattle.cc_script_laws.proofs.LineWalks.{Admits, Follows, IsCheckpointOf, IsNcWriteOf, IsReadOf, IsWriteOf, follow-ahead, follow-checkpoint-left, follow-refused, follow-served, follow-settle-left, follow-tick, follow-update-left}

clash : {b : Bool} → b ≡ true → b ≡ false → ⊥
clash a b = cc

pub not-false : (b : Bool) → not b ≡ true → b ≡ false
not-false false is = refl
not-false true is = absurd (cc is)

pub lt-told : (a b : ℕ) → nat_lt a b ≡ true → a < b
lt-told a b is = grind arith

pub either : (a b : Bool) → (a || b) ≡ true → (a ≡ true) ⊎ (b ≡ true)
either true b is = inl refl
either false b is = inr is

-- ---- the journal grows by an update

abbrev Any : Call → Type 0
Any it = Unit {0}

pub seen-follows : (me : ℕ) → Follows me Any HasSeen
seen-follows me = record {
  idle = seen-idle me;
  joins = grew-then;
  plain = λ e past plain own. seen-entry e past;
  called = λ it ended nth stream past makes filed. seen-entry (entry.Call me nth stream it ended) past;
}

pub seen-update : (u : Setup) (me : ℕ) (file : File) (at : ℕ) (bytes : List ℕ) (answered : Result ℕ CcError) (old new : List Entry) → UpdateLeft u me file at bytes answered old new → HasSeen old new
seen-update u me file at bytes answered old new left =
    follow-update-left u me Any HasSeen (seen-follows me) file at bytes (λ it is. tt) (λ handle lsn past. seen-entry (entry.Append me handle lsn _) past) answered old new left

-- ---- what a record says that is none of an update of the stream, and no checkpoint

log-neither : (s log me : ℕ) (told : Option LogRecord) (past : List Entry) → says_neither s told ≡ true → MayLogRecord s log me told past
log-neither s log me None past says = tt
log-neither s log me (Some (Update stream at bytes)) past says = λ same. absurd (clash (eq-eqb stream s same) (not-false (stream == s) says))
log-neither s log me (Some (Checkpoint rows)) past says = absurd (cc says)

pub append-by : (s log me handle lsn : ℕ) (bytes : List ℕ) (past : List Entry) → (not (handle == log) || says_neither s (said_by bytes)) ≡ true → IsUpdatedBy s log past (entry.Append me handle lsn bytes)
append-by s log me handle lsn bytes past may = by (either (not (handle == log)) (says_neither s (said_by bytes)) may)
  where
    by : (not (handle == log) ≡ true) ⊎ (says_neither s (said_by bytes) ≡ true) → IsUpdatedBy s log past (entry.Append me handle lsn bytes)
    by (inl other) = λ same. absurd (clash (eq-eqb handle log same) (not-false (handle == log) other))
    by (inr says) = λ same. log-neither s log me (said_by bytes) past says

-- What is said of two moments of a pass, where it is said of each call that may stand beside updates, is said of a line that leaves the
-- stream to them, where it is said of appends and settles; of updates and checkpoints it is asked.
module _ (u : Setup) (s log : ℕ) (opened : Type 0) where
  by-read : (file : File) (it : Call) → IsReadOf file it → IsBeside s log opened it
  by-read file (call.Query (query.State other)) is = (tt, tt)
  by-read file (call.CopyRead other at len wait) is = (tt, tt)
  by-read file (call.Map other at len) is = (tt, tt)
  by-read file (call.PinRead other at len exclusive) is = (tt, tt)
  by-read file (call.MdlRead other at len) is = (tt, tt)
  by-read file (call.NcRead other page) is = (tt, tt)
  by-read file (call.MappedRead hold at len) is = (tt, tt)
  by-read file (call.PinnedRead hold at len) is = (tt, tt)
  by-read file (call.MdlBytes hold at len) is = (tt, tt)
  by-read file (call.EndHold hold) is = (tt, tt)
  by-read file other is = absurd is

  same-apart : (file other : File) → other ≡ file → (file.stream == s) ≡ false → (other.stream == s) ≡ false
  same-apart file other is apart = subst (λ (f : File). (f.stream == s) ≡ false) (sym is) apart

  by-write : (file : File) → (file.stream == s) ≡ false → (it : Call) → IsWriteOf file it → IsBeside s log opened it
  by-write file apart (call.Query (query.State other)) is = (tt, tt)
  by-write file apart (call.SetSizes other allocation size) is = (same-apart file other is apart, tt)
  by-write file apart (call.Zero other span) is = (same-apart file other is apart, tt)
  by-write file apart (call.CopyWrite other at bytes) is = (same-apart file other is apart, tt)
  by-write file apart other is = absurd is

  by-nc-write : (file : File) → (file.stream == s) ≡ false → (it : Call) → IsNcWriteOf file it → IsBeside s log opened it
  by-nc-write file apart (call.NcStore other page bytes) is = (same-apart file other is apart, tt)
  by-nc-write file apart (call.NcWrite other page) is = (tt, tt)
  by-nc-write file apart other is = absurd is

  pub by-checkpoint : (it : Call) → IsCheckpointOf it → IsBeside s log opened it
  by-checkpoint (call.Query (query.DirtyPages handle)) is = (tt, tt)
  by-checkpoint (call.Query (query.State file)) is = (tt, tt)
  by-checkpoint (call.Flush file span) is = (tt, tt)
  by-checkpoint other is = absurd is

  module _ (me : ℕ) (W : List Entry → List Entry → Type 0) (f : Follows me (IsBeside s log opened) W)
      (appends : (handle lsn : ℕ) (bytes : List ℕ) (past : List Entry) → (not (handle == log) || says_neither s (said_by bytes)) ≡ true → W past (entry.Append me handle lsn bytes ∷ past))
      (settles : (file : File) (answered : Result FileState CcError) (old new : List Entry) → SettleLeft u me file answered old new → W old new) where
    pub admits-by : (asked : Action) → leaves_to_updates s log asked ≡ true →
        ((file : File) (at : ℕ) (bytes : List ℕ) → asked ≡ action.Update file at bytes → (answered : Result ℕ CcError) (old new : List Entry) → UpdateLeft u me file at bytes answered old new → W old new) →
        ((streams handle : ℕ) → asked ≡ action.Checkpoint streams handle → (answered : Result ℕ CcError) (old new : List Entry) → CheckpointLeft u me streams handle answered old new → W old new) →
        opened ⊎ (initialises s asked ≡ false) → Admits u me (IsBeside s log opened) W f asked
    admits-by (action.Initialise file sizes quota temporary) leaves updates logs may = (by may, tt)
      where
        by : opened ⊎ ((file.stream == s) ≡ false) → ((file.stream == s) ≡ false) ⊎ ((file.object ≡ 0) ⊎ opened)
        by (inl was) = inr (inr was)
        by (inr apart) = inl apart
    admits-by (action.Uninitialise file truncate) leaves updates logs may = (by (either (is_apart s file) (not (file.object == 0)) leaves), tt)
      where
        by : (is_apart s file ≡ true) ⊎ (not (file.object == 0) ≡ true) → ((file.stream == s) ≡ false) ⊎ ((file.object == 0) ≡ false)
        by (inl apart) = inl (not-false (file.stream == s) apart)
        by (inr other) = inr (not-false (file.object == 0) other)
    admits-by (action.CopyWrite file at bytes) leaves updates logs may = (not-false (file.stream == s) leaves, tt)
    admits-by (action.Zero file span) leaves updates logs may = (not-false (file.stream == s) leaves, tt)
    admits-by (action.PinMapped word exclusive) leaves updates logs may = λ id. (tt, tt)
    admits-by (action.PreparePin file at len word true exclusive) leaves updates logs may = (not-false (file.stream == s) leaves, tt)
    admits-by (action.PreparePin file at len word false exclusive) leaves updates logs may = (tt, tt)
    admits-by (action.HeldRead word at len) leaves updates logs may = ((λ id. (tt, tt)), λ id. (tt, tt))
    admits-by (action.PinnedWrite word at bytes) leaves updates logs may = absurd (cc leaves)
    admits-by (action.SetDirty word lsn) leaves updates logs may = λ id. (tt, tt)
    admits-by (action.Unpin word) leaves updates logs may = λ id. (tt, tt)
    admits-by (action.Repin word made) leaves updates logs may = λ id. (tt, tt)
    admits-by (action.UnpinRepinned word through) leaves updates logs may = ((λ id. (tt, tt)), λ file span. (tt, tt))
    admits-by (action.MdlBytes word at len) leaves updates logs may = λ id. (tt, tt)
    admits-by (action.MdlStore word at bytes) leaves updates logs may = absurd (cc leaves)
    admits-by (action.MdlDone word) leaves updates logs may = λ id. (tt, tt)
    admits-by (action.MdlAbort word) leaves updates logs may = λ id. (tt, tt)
    admits-by (action.SetSizes file allocation size) leaves updates logs may = (not-false (file.stream == s) leaves, tt)
    admits-by (action.Discard file span) leaves updates logs may = (not-false (file.stream == s) leaves, tt)
    admits-by (action.NcRead file at len) leaves updates logs may = λ page. (tt, tt)
    admits-by (action.NcWrite file at bytes) leaves updates logs may = by-nc-write file (not-false (file.stream == s) leaves)
    admits-by (action.Read file path at len) leaves updates logs may = by-read file
    admits-by (action.Write file at bytes) leaves updates logs may = by-write file (not-false (file.stream == s) leaves)
    admits-by (action.Update file at bytes) leaves updates logs may = ((tt, tt), λ answered first last left. updates file at bytes refl answered first last left)
    admits-by (action.Settle file) leaves updates logs may = settles file
    admits-by (action.Checkpoint streams handle) leaves updates logs may = logs streams handle refl
    admits-by (action.SetLog file handle) leaves updates logs may = (tt, by (either (is_apart s file) (handle == log) leaves))
      where
        by : (is_apart s file ≡ true) ⊎ ((handle == log) ≡ true) → ((file.stream == s) ≡ false) ⊎ (handle ≡ log)
        by (inl apart) = inl (not-false (file.stream == s) apart)
        by (inr same) = inr (eqb-true handle log same)
    admits-by (action.Append handle bytes) leaves updates logs may = λ lsn past. appends handle lsn bytes past leaves
    admits-by action.AheadStep leaves updates logs may = λ request. (tt, tt)
    admits-by action.Complete leaves updates logs may = λ file at len. (tt, tt)
    admits-by (action.Lock file span exclusive) leaves updates logs may = tt
    admits-by (action.Unlock file id) leaves updates logs may = tt
    admits-by (action.Levels file) leaves updates logs may = tt
    admits-by (action.LogFlush handle lsn) leaves updates logs may = tt
    admits-by (action.Defer file bytes retrying) leaves updates logs may = tt
    admits-by action.Post leaves updates logs may = tt
    admits-by action.Tick leaves updates logs may = tt
    admits-by (action.NcReadPage file page) leaves updates logs may = tt
    admits-by (action.NcStorePage file page bytes) leaves updates logs may = tt
    admits-by (action.NcWritePage file page) leaves updates logs may = tt
    admits-by (action.Fill page) leaves updates logs may = tt
    admits-by (action.Drop page) leaves updates logs may = tt
    admits-by (action.WriteBegin page) leaves updates logs may = tt
    admits-by (action.WriteEnd page) leaves updates logs may = tt
    admits-by (action.Sync stream) leaves updates logs may = tt
    admits-by action.Scan leaves updates logs may = tt
    admits-by other leaves updates logs may = (tt, tt)

-- From a moment on, up to the whole journal, each entry of the pass keeps the form. The stream has had a map as that moment comes, or no
-- line initialises it.
module _ (u : Setup) (whole : List Entry) (good : IsGoodSoFar u whole) (s log : ℕ) (begun : List Entry) (opened : Type 0) (has_opened : opened → had_map (history begun s) ≡ true) where
  abbrev pub Beside : ℕ → List Entry → List Entry → Type 0
  Beside me old new = HasSeen old new × (HasSeen begun old → HasSeen new whole → HasNoneOpen s log me old → KeepsAll s log me old new)

  pub beside-idle : (me : ℕ) (old new : List Entry) → IsIdle me old new → Beside me old new
  beside-idle me old new idle = (seen-idle me old new idle, λ since seen none. all-idle s log me old new none idle)

  pub beside-then : (me : ℕ) (old between new : List Entry) → Beside me old between → Beside me between new → Beside me old new
  beside-then me old between new first second = (
    grew-then old between new first.0 second.0,
    λ since seen none.
        all-then s log me old between new (first.1 since (grew-then between new whole second.0 seen) none) (λ now. second.1 (grew-then begun old between since first.0) seen now),
  )

  beside-entry : (me : ℕ) (e : Entry) (past : List Entry) → (HasSeen begun past → HasNoneOpen s log me past → KeepsAll s log me past (e ∷ past)) → Beside me past (e ∷ past)
  beside-entry me e past keeps = (seen-entry e past, λ since seen none. keeps since none)

  had-at : (past : List Entry) → HasSeen begun past → opened → had_map (history past s) ≡ true
  had-at past since was = had-seen u s begun past since (has_opened was)

  pub beside-follows : (me : ℕ) → Follows me (IsBeside s log opened) (Beside me)
  beside-follows me = record {
    idle = beside-idle me;
    joins = beside-then me;
    plain = λ e past plain own. beside-entry me e past (λ since none. kept-plain s log me e past plain own none);
    called = λ it ended nth stream past makes filed.
        beside-entry me (entry.Call me nth stream it ended) past (λ since none. kept-call s log me nth past opened (had-at past since) it ended stream makes filed none);
  }

  beside-append : (me handle lsn : ℕ) (bytes : List ℕ) (past : List Entry) → (not (handle == log) || says_neither s (said_by bytes)) ≡ true → Beside me past (entry.Append me handle lsn bytes ∷ past)
  beside-append me handle lsn bytes past may =
      beside-entry me (entry.Append me handle lsn bytes) past (λ since none. kept-append s log me handle lsn bytes past (λ updated. append-by s log me handle lsn bytes past may) none)

  pub beside-settle : (me : ℕ) (file : File) (answered : Result FileState CcError) (old new : List Entry) → SettleLeft u me file answered old new → Beside me old new
  beside-settle me file answered old new left =
      follow-settle-left u me (IsBeside s log opened) (Beside me) (beside-follows me) file (tt, tt) (tt, tt)
      (λ told begun_at first flushed front size valid end has idle is. beside-entry me (entry.Record me file.stream size valid end) front (λ since none. kept-record s log me file.stream size valid end front none))
      answered old new left

  -- the lines; a checkpoint of the log is said of by itself
  beside-update : (me : ℕ) (file : File) (at : ℕ) (bytes : List ℕ) → (nat_lt file.stream 255 && (nat_lt at (2 ^ 64) && nat_lt (length bytes) (2 ^ 32))) ≡ true → (answered : Result ℕ CcError) (old new : List Entry) → UpdateLeft u me file at bytes answered old new → Beside me old new
  beside-update me file at bytes fits answered old new left = (
    seen-update u me file at bytes answered old new left,
    λ since seen none.
        let first = and_parts (nat_lt file.stream 255) _ fits in
        let second = and_parts (nat_lt at (2 ^ 64)) _ first.1 in
        all-update u s log me file at bytes (said-update file at bytes (lt-told file.stream 255 first.0) (lt-told at (2 ^ 64) second.0) (lt-told (length bytes) (2 ^ 32) second.1)) old
        answered new (good-seen u new whole seen good) none left,
  )

  -- a checkpoint of another log
  pub beside-other : (me streams handle : ℕ) → (handle == log) ≡ false → (answered : Result ℕ CcError) (old new : List Entry) → CheckpointLeft u me streams handle answered old new → Beside me old new
  beside-other me streams handle apart answered old new left =
      follow-checkpoint-left u me (IsBeside s log opened) (Beside me) (beside-follows me) streams handle (by-checkpoint u s log opened)
      (λ rows lsn past. beside-append me handle lsn _ past (rw apart refl)) answered old new left

  pub beside-served : (me : ℕ) (bindings : List Binding) (asked : Action) (told : Answer) (old new : List Entry) → (left_to_updates s log asked told ≡ true) × (checkpoints log asked ≡ false) × (opened ⊎ (initialises s asked ≡ false)) →
      Served u me bindings asked told old new → Beside me old new
  beside-served me bindings asked told old new fits left = by (either (leaves_to_updates s log asked) (is_one_call asked && was_refused told) fits.0)
    where
      by : (leaves_to_updates s log asked ≡ true) ⊎ ((is_one_call asked && was_refused told) ≡ true) → Beside me old new
      by (inl leaves) =
          follow-served u me (IsBeside s log opened) (Beside me) (beside-follows me) bindings asked told old new
          (admits-by u s log opened me (Beside me) (beside-follows me) (beside-append me) (beside-settle me) asked leaves
          (λ file at bytes is. beside-update me file at bytes (subst (λ (a : Action). leaves_to_updates s log a ≡ true) is leaves))
          (λ streams handle is. beside-other me streams handle (subst (λ (a : Action). checkpoints log a ≡ false) is fits.1)) fits.2) left
      by (inr refused) =
          follow-refused u me (IsBeside s log opened) (Beside me) (beside-follows me) bindings asked told old new refused
          (λ it e nth stream past filed. beside-entry me (entry.Call me nth stream it (outcome.Failed e)) past (λ since none. kept-failed s log me nth past it e stream none)) left

  pub beside-tick : (told : Answer) (old new : List Entry) → TickAnswered lazy_writer told old new → Beside lazy_writer old new
  beside-tick told old new left = follow-tick u lazy_writer (IsBeside s log opened) (Beside lazy_writer) (beside-follows lazy_writer) told old new left

  pub beside-step : (taken : Option Request) (told : Answer) (old new : List Entry) → AheadAnswered u read_ahead_worker taken told old new → Beside read_ahead_worker old new
  beside-step taken told old new left =
      follow-ahead u read_ahead_worker (IsBeside s log opened) (Beside read_ahead_worker) (beside-follows read_ahead_worker) taken told old new (λ request. (tt, tt)) left

-- The calls and the record that the settling of a stream leaves, as marks, and those of the line of a stored stream.
use Rattle.std.specs.Prelude.{◌≡◌, ℕ, List, [], ◌∷◌, ◌++◌, Ok, refl}
use Rattle.std.specs.declared.option.Option.TheVariants.{Some, None}
use Rattle.std.proofs.Common.{inl, inr, ap, ◌∙◌, eq-eqb}
use Rattle.cc_entry.specs.Place.{File}
use Rattle.cc_entry.specs.declared.place.FileState.{FileState}
use Rattle.cc_entry.specs.declared.call.Call.TheVariants as call
use Rattle.cc_entry.specs.declared.query.Query.TheVariants as query
use Rattle.cc_entry.specs.declared.error.CcError.{CcError}
use Rattle.cc_entry.specs.declared.reply.Reply.TheVariants as reply
use Rattle.cc_entry.specs.declared.query.Value.TheVariants as value
use Rattle.cc_entry.specs.declared.reply.Outcome.TheVariants as outcome
use Rattle.cc_entry.specs.declared.answer.Answer.TheVariants as answer
use Rattle.cc_entry.specs.declared.entry.End.{End}
use Rattle.cc_entry.specs.declared.entry.End.TheVariants as how
use Rattle.cc_entry.specs.declared.entry.Entry.{Entry}
use Rattle.cc_entry.specs.declared.entry.Entry.TheVariants as entry
use Rattle.cc_format.specs.declared.record.StreamRecord.TheVariants.{V1}
use Rattle.cc_model.specs.Setup.{Setup}
use Rattle.cc_records.specs.Left.{StreamHasFlushed, SettleLeft, SyncedRecord, WroteRecord}
use Rattle.cc_pieces.specs.Openings.{RecordedOpening, first_object_of, recorded_call}
use Rattle.cc_worked.specs.Values.{unit}
use Rattle.cc_worked.specs.PiecesRecords.{stored}
use Rattle.cc_worked.proofs.Marks.{Ended, Mark, Marked, Recorded, mark_of, marked-call, marked-idle, marked-only, marked-then}

pub wrote-marked : (me s first size valid : ℕ) (end : End) (old new : List Entry) → WroteRecord me s first size valid end old new → Marked me (Recorded s size valid end ∷ []) old new
wrote-marked me s first size valid end old new is =
    let e = entry.Record me s size valid end in
    let its : mark_of me (entry.Record me s size valid end) ≡ Recorded s size valid end ∷ [] = rw (eq-eqb me me refl) refl in
    let marked : Marked me (mark_of me (entry.Record me s size valid end)) old new =
    marked-only me e old new
    (record {
      later = is.after.during;
      earlier = is.before.during;
      grew = is.after.grew ∙ ap (λ (l : List Entry). is.after.during ++ (entry.Record me s size valid end ∷ l)) is.before.grew;
      is_own = eq-eqb me me refl;
      quiet_after = is.after.others;
      quiet_before = is.before.others;
    }) in
    rw its at marked

pub synced-marked : (me s first size valid : ℕ) (end : End) (old new : List Entry) → SyncedRecord me s first size valid end old new → Marked me (Recorded s size valid how.Good ∷ []) old new
synced-marked me s first size valid end old new is =
    marked-then me (Recorded s size valid how.Good ∷ []) [] old is.written new
    (wrote-marked me s first size valid how.Good old is.written is.wrote)
    (marked-only me (entry.Sync me s end) is.written new is.synced)

-- the state was told, and the stream flushed
abbrev pub flushed_marks : File → FileState → List Mark
flushed_marks file told =
    Ended (call.Query (query.State file)) (outcome.Done (reply.Value (value.State told))) ∷ Ended (call.Flush file None) (outcome.Done reply.Unit) ∷ []

flushed-marked : (u : Setup) (me : ℕ) (file : File) (told : FileState) (begun old new : List Entry) → StreamHasFlushed u me file told begun old new → Marked me (flushed_marks file told) old new
flushed-marked u me file told begun old new is =
    let flushed = Ended (call.Flush file None) (outcome.Done reply.Unit) ∷ [] in
    marked-then me (Ended (call.Query (query.State file)) (outcome.Done (reply.Value (value.State told))) ∷ []) flushed old is.stated new
    (marked-call u me (call.Query (query.State file)) (outcome.Done (reply.Value (value.State told))) old is.stated is.state refl)
    (marked-then me [] flushed is.stated begun new (marked-idle me is.stated begun is.idle) (marked-call u me (call.Flush file None) (outcome.Done reply.Unit) begun new is.flush refl))

-- a stream was settled: its state was told, it was flushed, and its record was written as the answer tells
abbrev pub settle_marks : File → FileState → FileState → List Mark
settle_marks file told state =
    Ended (call.Query (query.State file)) (outcome.Done (reply.Value (value.State told)))
    ∷ Ended (call.Flush file None) (outcome.Done reply.Unit)
    ∷ Recorded file.stream state.sizes.size state.sizes.valid how.Good
    ∷ []

pub settle-marked : (u : Setup) (me : ℕ) (file : File) (state : FileState) (old new : List Entry) → SettleLeft u me file (Ok state) old new → (told : FileState) × Marked me (settle_marks file told state) old new
settle-marked u me file state old new is = (
  is.told,
  marked-then me (flushed_marks file is.told) (Recorded file.stream state.sizes.size state.sizes.valid how.Good ∷ []) old is.flushed new
      (flushed-marked u me file is.told is.begun old is.flushed is.has_flushed)
      (synced-marked me file.stream _ state.sizes.size state.sizes.valid how.Good is.flushed new is.recorded),
)

unit_not_refused : (e : CcError) → unit ≡ answer.Refused e → ⊥
unit_not_refused e same = absurd (cc)

-- a stored stream whose record is of the first version is opened with that, and settled
pub first-marked : (u : Setup) (size : ℕ) (old new : List Entry) → RecordedOpening u 0 stored (Some (V1 size)) unit old new → (told : FileState) × (state : FileState) × Marked 0 (Ended (recorded_call 0 stored (Some (V1 size))) (outcome.Done reply.Unit) ∷ settle_marks (first_object_of 0) told state) old new
first-marked u size old new (inl left) = absurd (unit_not_refused left.0 left.1)
first-marked u size old new (inr left) =
    let settled = settle-marked u 0 (first_object_of 0) left.2.0 left.0 new left.2.1 in (
      settled.0,
      left.2.0,
      marked-then 0 (Ended (recorded_call 0 stored (Some (V1 size))) (outcome.Done reply.Unit) ∷ []) (settle_marks (first_object_of 0) settled.0 left.2.0) old left.0 new
          (marked-call u 0 (recorded_call 0 stored (Some (V1 size))) (outcome.Done reply.Unit) old left.0 left.1 refl)
          settled.1,
    )

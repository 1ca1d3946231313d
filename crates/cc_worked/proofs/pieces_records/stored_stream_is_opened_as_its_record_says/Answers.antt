-- The read of the record, which leaves nothing, and the calls behind it, by their ends.
use Rattle.std.specs.Prelude.{◌≡◌, ℕ, ◌^◌, true, false, List, [], ◌∷◌, ◌++◌, Ok, refl}
use Rattle.std.specs.List.{list_any}
use Rattle.std.specs.declared.option.Option.{Option}
use Rattle.std.specs.declared.option.Option.TheVariants.{Some, None}
use Rattle.std.proofs.Common.{ap, arith, inl, inr, subst, sym}
use Rattle.std.proofs.lemmas.Option.{same_Some}
use Rattle.cc_entry.specs.declared.call.Call.TheVariants as call
use Rattle.cc_entry.specs.declared.query.Query.TheVariants as query
use Rattle.cc_entry.specs.declared.error.CcError.{CcError}
use Rattle.cc_entry.specs.declared.error.CcError.TheVariants as error
use Rattle.cc_entry.specs.declared.place.FileState.{FileState}
use Rattle.cc_entry.specs.declared.reply.Reply.TheVariants as reply
use Rattle.cc_entry.specs.declared.query.Value.TheVariants as value
use Rattle.cc_entry.specs.declared.reply.Outcome.TheVariants as outcome
use Rattle.cc_entry.specs.declared.answer.Answer.TheVariants as answer
use Rattle.cc_entry.specs.declared.entry.End.TheVariants as how
use Rattle.cc_entry.specs.declared.entry.Entry.{Entry}
use Rattle.cc_entry.specs.declared.entry.Entry.TheVariants as entry
use Rattle.cc_format.specs.Spelling.{SpellsStreamRecord, first_version_page}
use Rattle.cc_format.specs.declared.record.StreamRecord.{StreamRecord}
use Rattle.cc_format.specs.declared.record.StreamRecord.TheVariants.{V1, V2}
use Rattle.cc_format.proofs.Numbers.{spelled_once}
use Rattle.cc_effects.specs.Asked.{is_admitted}
use Rattle.cc_effects.specs.Calls.{CallLeft}
use Rattle.cc_effects.proofs.Starts.{begins, done_by, ends_done}
use Rattle.cc_effects.proofs.Stretches.{idle-none, some-begin}
use Rattle.cc_records.specs.Left.{SettleLeft}
use Rattle.cc_pieces.specs.Openings.{IsReadAtFirst, RecordedOpening, StreamOpening, first_object_of, is_record_of, recorded_call}
use Rattle.cc_worked.specs.Values.{a, setup, sized, synced, answers, unit}
use Rattle.cc_worked.specs.PiecesRuns.{initialises, opens, two_full}
use Rattle.cc_worked.specs.PiecesRecords.{first_versions, migrates, opens_and_flushes, record_fails, stored}
use Rattle.cc_worked.proofs.PiecesOpened.{computed}
use Rattle.cc_worked.proofs.Marks.{Ended, Mark, Marked, marked-call, marked-idle, marked-then, marks, shows}
use Rattle.cc_worked.proofs.RecordMarks.{first-marked, settle_marks}
use Rattle.cc_worked.proofs.pieces_records.stored_stream_is_opened_as_its_record_says.Goals as goal

pub returns-clause-unread : goal.returns-clause-unread
returns-clause-unread c = record {
  opened = inl (
    error.ReadFault 2251799813685248,
    refl,
    (refl, record { later = []; earlier = []; grew = refl; is_own = refl; quiet_after = tt; quiet_before = tt }),
  );
  room = λ none. tt;
}

pub returns-clause-recorded : goal.returns-clause-recorded
returns-clause-recorded c =
    let it = call.Initialise a (sized 8192 5001) 16 false in
    record {
      opened = inr (record {
        read = Some (V2 8192 5001);
        loaded = [];
        load = idle-none 0 [];
        at_first = λ pages is none. absurd (cc is);
        opened = ends_done 0 1 (Some 0) it reply.Unit [] [] (begins 0 it []) refl (λ during. tt);
      });
      room = λ none. tt;
    }

-- each page of such a disk spells the record of the first version
its_record : SpellsStreamRecord (first_version_page 8192) (V1 8192)
its_record = record { in_range = record { size_in_range = omega arith; within = omega arith }; spelled = refl }

its_opening : CallLeft first_versions 0 initialises (outcome.Done reply.Unit) [] opens
its_opening = ends_done 0 1 (Some 0) initialises reply.Unit [] [] (begins 0 initialises []) refl (λ during. tt)

-- the stream is settled behind its opening, by the pass that opened it
its_migration : SettleLeft first_versions 0 (first_object_of 0) (Ok two_full) opens migrates
unfolding computed
its_migration =
    let stated = answers 0 2 (call.Query (query.State a)) (reply.Value (value.State two_full)) ∷ opens in
    let written = entry.Record 0 0 8192 8192 how.Good ∷ opens_and_flushes in
    record {
      told = two_full;
      begun = stated;
      flushed = opens_and_flushes;
      has_flushed = record {
        stated = stated;
        state = ends_done 0 2 (Some 0) (call.Query (query.State a)) (reply.Value (value.State two_full)) opens opens (begins 0 (call.Query (query.State a)) opens) refl (λ during. tt);
        idle = idle-none 0 stated;
        flush = done_by 0 3 (Some 0) (call.Flush a None) reply.Unit (synced 0 ∷ []) stated (record { each = ((λ is. (refl, some-begin (λ moment. is_admitted (call.Flush a None) 0 moment ≡ true) [] stated refl)), tt); one_sync = omega arith; whole = refl }) refl refl (record { after = []; before = []; split = refl; quiet = tt; settled = refl });
      };
      recorded = record {
        written = written;
        wrote = record { front = opens_and_flushes; before = idle-none 0 opens_and_flushes; its_size = refl; its_valid = refl; after = idle-none 0 written };
        synced = record { later = []; earlier = []; grew = refl; is_own = refl; quiet_after = tt; quiet_before = tt };
      };
      allocation = refl;
      log = refl;
    }

pub returns-clause-migrated : goal.returns-clause-migrated
returns-clause-migrated c = record {
  opened = inr (record {
    read = Some (V1 8192);
    loaded = [];
    load = idle-none 0 [];
    at_first = λ pages is none. record {
      in_range = its_record.in_range;
      spelled = ap (λ (it : ℕ → List ℕ). it (2 ^ 51)) (sym (same_Some (λ p. first_version_page 8192) pages is));
    };
    opened = inr (opens, its_opening, (two_full, its_migration));
  });
  room = λ none. tt;
}

given_not_refused : (e : CcError) → unit ≡ answer.Refused e → ⊥
given_not_refused e same = absurd (cc)

-- whatever was read, the stream is initialised first
abbrev initialised : Option StreamRecord → Mark
initialised read = Ended (recorded_call 0 stored read) (outcome.Done reply.Unit)

opening-shown : (read : Option StreamRecord) (old new : List Entry) → RecordedOpening setup 0 stored read unit old new → (more : List Mark) × Marked 0 (initialised read ∷ more) old new
opening-shown (Some (V1 size)) old new left =
    let its = first-marked setup size old new left in
    (settle_marks (first_object_of 0) its.0 its.1, its.2)
opening-shown (Some (V2 size valid)) old new left =
    ([], marked-call setup 0 (recorded_call 0 stored (Some (V2 size valid))) (outcome.Done reply.Unit) old new left refl)
opening-shown None old new left = ([], marked-call setup 0 (recorded_call 0 stored None) (outcome.Done reply.Unit) old new left refl)

pub returns-clause-not_unread : goal.returns-clause-not_unread
returns-clause-not_unread c left = by left.opened
  where
    other : (read : Option StreamRecord) (more : List Mark) → marks 0 record_fails ≡ initialised read ∷ more → ⊥
    other read more same = absurd (cc)

    by : StreamOpening setup 0 stored true unit [] record_fails → ⊥
    by (inl refused) = given_not_refused refused.0 refused.1
    by (inr is) =
        let its = opening-shown is.read is.loaded record_fails is.opened in
        other is.read its.0 (shows 0 (initialised is.read ∷ its.0) record_fails [] (marked-then 0 [] (initialised is.read ∷ its.0) [] is.loaded record_fails (marked-idle 0 [] is.loaded is.load) its.1))

-- no record stands in any end of a stretch that is one call
unrecorded : (during loaded : List Entry) → opens ≡ during ++ loaded → list_any (is_record_of 0) loaded ≡ false
unrecorded [] loaded same = subst (λ (past : List Entry). list_any (is_record_of 0) past ≡ false) same refl
unrecorded (e ∷ []) loaded same = let none : [] ≡ loaded = cc in subst (λ (past : List Entry). list_any (is_record_of 0) past ≡ false) none refl
unrecorded (e ∷ f ∷ during) loaded same = absurd (cc)

pub returns-clause-not_unmigrated : goal.returns-clause-not_unmigrated
returns-clause-not_unmigrated c left = by left.opened
  where
    read_so : (read : Option StreamRecord) (loaded : List Entry) → IsReadAtFirst first_versions 0 loaded read → RecordedOpening first_versions 0 stored read unit loaded opens → Marked 0 [] [] loaded → ⊥
    read_so (Some (V1 size)) loaded at_first opened idle =
        let its = first-marked first_versions size loaded opens opened in
        settled size its.0 its.1 (shows 0 (initialised (Some (V1 size)) ∷ settle_marks (first_object_of 0) its.0 its.1) opens [] (marked-then 0 [] (initialised (Some (V1 size)) ∷ settle_marks (first_object_of 0) its.0 its.1) [] loaded opens idle its.2))
      where
        settled : (size : ℕ) (told state : FileState) → marks 0 opens ≡ initialised (Some (V1 size)) ∷ settle_marks (first_object_of 0) told state → ⊥
        settled size told state same = absurd (cc)
    read_so (Some (V2 size valid)) loaded at_first opened idle =
        let its = marked-call first_versions 0 (recorded_call 0 stored (Some (V2 size valid))) (outcome.Done reply.Unit) loaded opens opened refl in
        let once : V1 8192 ≡ V2 size valid = spelled_once (first_version_page 8192) (V1 8192) (V2 size valid) its_record (at_first (λ p. first_version_page 8192) refl (unrecorded its.during loaded its.grew)) in
        absurd (cc once)
    read_so None loaded at_first opened idle =
        let its = marked-call first_versions 0 (recorded_call 0 stored None) (outcome.Done reply.Unit) loaded opens opened refl in
        at_first (λ p. first_version_page 8192) refl (unrecorded its.during loaded its.grew) (V1 8192) its_record

    by : StreamOpening first_versions 0 stored true unit [] opens → ⊥
    by (inl refused) = given_not_refused refused.0 refused.1
    by (inr is) = read_so is.read is.loaded is.at_first is.opened (marked-idle 0 [] is.loaded is.load)

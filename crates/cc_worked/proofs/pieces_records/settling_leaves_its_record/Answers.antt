-- The state, the flush, the record and the sync, each by its end; a wrong settling by what it shows, or by what stands newest.
use Rattle.std.specs.Prelude.{◌≡◌, ℕ, zero, suc, ◌^◌, ◌≤◌, true, false, List, [], ◌∷◌, ◌++◌, length, take, drop, refl}
use Rattle.std.specs.declared.option.Option.TheVariants.{Some, None}
use Rattle.std.proofs.Common.{ap, append_assoc, arith, inl, inr, subst, sym, ◌∙◌}
use Rattle.std.proofs.lemmas.List.{append_cancel_right}
use Rattle.cc_entry.specs.declared.place.FileState.{FileState}
use Rattle.cc_entry.specs.declared.call.Call.TheVariants as call
use Rattle.cc_entry.specs.declared.query.Query.TheVariants as query
use Rattle.cc_entry.specs.declared.error.CcError.TheVariants as error
use Rattle.cc_entry.specs.declared.reply.Reply.TheVariants as reply
use Rattle.cc_entry.specs.declared.query.Value.TheVariants as value
use Rattle.cc_entry.specs.declared.reply.Outcome.TheVariants as outcome
use Rattle.cc_entry.specs.declared.entry.End.TheVariants as how
use Rattle.cc_entry.specs.declared.entry.Entry.{Entry}
use Rattle.cc_entry.specs.declared.entry.Entry.TheVariants as entry
use Rattle.cc_model.specs.History.{history}
use Rattle.cc_model.specs.Touches.{valid_of}
use Rattle.cc_effects.specs.Asked.{is_admitted}
use Rattle.cc_effects.proofs.Starts.{done_by}
use Rattle.cc_effects.proofs.Stretches.{idle-none, some-begin}
use Rattle.cc_records.specs.Left.{StreamHasFlushed}
use Rattle.cc_worked.specs.Values.{a, page, setup, done, synced}
use Rattle.cc_worked.specs.Records.{recorded}
use Rattle.cc_worked.specs.PiecesReads.{first_resident, one_valid}
use Rattle.cc_worked.specs.PiecesShim.{one_page_valid}
use Rattle.cc_worked.specs.PiecesRuns.{two_full}
use Rattle.cc_worked.specs.PiecesLocks.{tells}
use Rattle.cc_worked.specs.PiecesRecords.{flushed_behind, record_ends, settles, settles_beside, settles_first, settles_with, settles_without, valid_up_to}
use Rattle.cc_worked.proofs.PiecesOpened.{computed}
use Rattle.cc_worked.proofs.LockMarks.{alone, newest}
use Rattle.cc_worked.proofs.Marks.{Ended, Mark, Recorded, marked-call, marked-idle, marked-then, marks, shows}
use Rattle.cc_worked.proofs.RecordMarks.{settle-marked, settle_marks, synced-marked}
use Rattle.cc_worked.proofs.StateAsked.{state-told}
use Rattle.cc_worked.proofs.pieces_records.settling_leaves_its_record.Goals as goal

-- marks of the calls of a settling
abbrev told : FileState → Mark
told state = Ended (call.Query (query.State a)) (outcome.Done (reply.Value (value.State state)))

abbrev flush_mark : Mark
flush_mark = Ended (call.Flush a None) (outcome.Done reply.Unit)

abbrev fails : Mark
fails = Ended (call.Flush a None) (outcome.Failed (error.WriteFault 0))

-- a stream without dirty pages is flushed behind its state
flushed_full : StreamHasFlushed setup 1 a two_full (tells two_full ++ first_resident) first_resident (flushed_behind two_full ++ first_resident)
unfolding computed
flushed_full = record {
  stated = tells two_full ++ first_resident;
  state = state-told 1 two_full first_resident;
  idle = idle-none 1 (tells two_full ++ first_resident);
  flush = done_by 1 2 (Some 0) (call.Flush a None) reply.Unit (synced 1 ∷ []) (tells two_full ++ first_resident) (record { each = ((λ is. (refl, some-begin (λ moment. is_admitted (call.Flush a None) 0 moment ≡ true) [] (tells two_full ++ first_resident) refl)), tt); one_sync = omega arith; whole = refl }) refl refl (record { after = []; before = []; split = refl; quiet = tt; settled = refl });
}

flushed_less : StreamHasFlushed setup 1 a one_page_valid (tells one_page_valid ++ one_valid) one_valid (flushed_behind one_page_valid ++ one_valid)
unfolding computed
flushed_less = record {
  stated = tells one_page_valid ++ one_valid;
  state = state-told 1 one_page_valid one_valid;
  idle = idle-none 1 (tells one_page_valid ++ one_valid);
  flush = done_by 1 2 (Some 0) (call.Flush a None) reply.Unit (synced 1 ∷ []) (tells one_page_valid ++ one_valid) (record { each = ((λ is. (refl, some-begin (λ moment. is_admitted (call.Flush a None) 0 moment ≡ true) [] (tells one_page_valid ++ one_valid) refl)), tt); one_sync = omega arith; whole = refl }) refl refl (record { after = []; before = []; split = refl; quiet = tt; settled = refl });
}

pub returns-clause-settled : goal.returns-clause-settled
unfolding computed
returns-clause-settled c =
    let flushed = flushed_behind two_full ++ first_resident in
    let written = record_ends (recorded 8192 8192 how.Good) ++ first_resident in
    record {
      told = two_full;
      begun = tells two_full ++ first_resident;
      flushed = flushed;
      has_flushed = flushed_full;
      recorded = record {
        written = written;
        wrote = record { front = flushed; before = idle-none 1 flushed; its_size = refl; its_valid = refl; after = idle-none 1 written };
        synced = alone (synced 1) written refl;
      };
      allocation = refl;
      log = refl;
    }

pub returns-clause-lesser : goal.returns-clause-lesser
unfolding computed
returns-clause-lesser c =
    let flushed = flushed_behind one_page_valid ++ one_valid in
    let others = done 2 1 (call.CopyWrite a 4096 (171 ∷ [])) ∷ entry.PageIn 2 (page 1) false ∷ [] in
    let written = recorded 8192 4096 how.Good ∷ (others ++ flushed) in
    record {
      told = one_page_valid;
      begun = tells one_page_valid ++ one_valid;
      flushed = flushed;
      has_flushed = flushed_less;
      recorded = record {
        written = written;
        wrote = record {
          front = others ++ flushed;
          before = record { during = others; grew = refl; others = (refl, (refl, tt)) };
          its_size = refl;
          its_valid = refl;
          after = idle-none 1 written;
        };
        synced = alone (synced 1) written refl;
      };
      allocation = refl;
      log = refl;
    }

-- a stretch is parted where so many entries of it end
split-take : (later earlier : List Entry) → take (length later) (later ++ earlier) ≡ later
split-take [] earlier = refl
split-take (e ∷ later) earlier = ap (λ (l : List Entry). e ∷ l) (split-take later earlier)

split-drop : (later earlier : List Entry) → drop (length later) (later ++ earlier) ≡ earlier
split-drop [] earlier = refl
split-drop (e ∷ later) earlier = split-drop later earlier

-- where the flush is still to come, no more bytes are valid than at first
few-valid : (n : ℕ) (rest : List Mark) → marks 1 (take n (settles_beside 4097)) ≡ flush_mark ∷ rest → valid_of (history (drop n (settles_beside 4097) ++ one_valid) 0) ≤ 4096
unfolding computed
few-valid zero rest same = absurd (cc)
few-valid (suc zero) rest same = absurd (cc)
few-valid (suc (suc zero)) rest same = absurd (cc)
few-valid (suc (suc (suc zero))) rest same = absurd (cc)
few-valid (suc (suc (suc (suc zero)))) rest same = absurd (cc)
few-valid (suc (suc (suc (suc (suc zero))))) rest same = omega arith
few-valid (suc (suc (suc (suc (suc (suc zero)))))) rest same = omega arith
few-valid (suc (suc (suc (suc (suc (suc (suc zero))))))) rest same = omega arith
few-valid (suc (suc (suc (suc (suc (suc (suc (suc n)))))))) rest same = omega arith

pub returns-clause-not_more : goal.returns-clause-not_more
returns-clause-not_more c left =
    let new = settles_beside 4097 ++ one_valid in
    let rest = Recorded 0 8192 4097 how.Good ∷ [] in
    let behind = marked-then 1 (flush_mark ∷ []) rest left.begun left.flushed new (marked-call setup 1 (call.Flush a None) (outcome.Done reply.Unit) left.begun left.flushed left.has_flushed.flush refl) (synced-marked 1 0 _ 8192 4097 how.Good left.flushed new left.recorded) in
    let before = marked-then 1 (told left.told ∷ []) [] one_valid left.has_flushed.stated left.begun (marked-call setup 1 (call.Query (query.State a)) (outcome.Done (reply.Value (value.State left.told))) one_valid left.has_flushed.stated left.has_flushed.state refl) (marked-idle 1 left.has_flushed.stated left.begun left.has_flushed.idle) in
    let split : settles_beside 4097 ≡ behind.during ++ before.during =
    append_cancel_right (settles_beside 4097) (behind.during ++ before.during) one_valid (behind.grew ∙ (ap (λ (l : List Entry). behind.during ++ l) before.grew ∙ sym (append_assoc behind.during before.during one_valid))) in
    let taken : take (length behind.during) (settles_beside 4097) ≡ behind.during = ap (take (length behind.during)) split ∙ split-take behind.during before.during in
    let dropped : drop (length behind.during) (settles_beside 4097) ≡ before.during = ap (drop (length behind.during)) split ∙ split-drop behind.during before.during in
    let few = few-valid (length behind.during) rest (ap (marks 1) taken ∙ behind.same) in
    let begun : drop (length behind.during) (settles_beside 4097) ++ one_valid ≡ left.begun = ap (λ (l : List Entry). l ++ one_valid) dropped ∙ sym before.grew in
    let valid : valid_of (history left.begun 0) ≤ 4096 = subst (λ (past : List Entry). valid_of (history past 0) ≤ 4096) begun few in
    omega (arith, left.recorded.wrote.its_valid, valid)

pub returns-clause-failed : goal.returns-clause-failed
unfolding computed
returns-clause-failed c =
    let flushed = flushed_behind two_full ++ first_resident in
    inr (inr (record {
      told = two_full;
      begun = tells two_full ++ first_resident;
      flushed = flushed;
      has_flushed = flushed_full;
      stopped = (
        refl,
        inl (record {
          size = 8192;
          valid = 8192;
          wrote = record { front = flushed; before = idle-none 1 flushed; its_size = refl; its_valid = refl; after = idle-none 1 (record_ends (recorded 8192 8192 how.Failed) ++ first_resident) };
        }),
      );
    }))

pub returns-clause-not_without_record : goal.returns-clause-not_without_record
returns-clause-not_without_record c left =
    let its = settle-marked setup 1 a two_full first_resident (settles_without ++ first_resident) left in
    other its.0 (shows 1 (settle_marks a its.0 two_full) settles_without first_resident its.1)
  where
    other : (told : FileState) → marks 1 settles_without ≡ settle_marks a told two_full → ⊥
    other told same = absurd (cc)

pub returns-clause-not_before_flush : goal.returns-clause-not_before_flush
returns-clause-not_before_flush c left =
    let its = settle-marked setup 1 a two_full first_resident (settles_first ++ first_resident) left in
    other its.0 (shows 1 (settle_marks a its.0 two_full) settles_first first_resident its.1)
  where
    other : (told : FileState) → marks 1 settles_first ≡ settle_marks a told two_full → ⊥
    other told same = absurd (cc)

pub returns-clause-not_unsynced : goal.returns-clause-not_unsynced
returns-clause-not_unsynced c left =
    other (newest (synced 1) (recorded 8192 8192 how.Good) (flushed_behind two_full ++ first_resident) left.recorded.written left.recorded.synced refl)
  where
    other : recorded 8192 8192 how.Good ≡ synced 1 → ⊥
    other same = absurd (cc)

pub returns-clause-no_other_length : goal.returns-clause-no_other_length
returns-clause-no_other_length c left =
    let its = settle-marked setup 1 a (valid_up_to 5001) first_resident (settles ++ first_resident) left in
    other its.0 (shows 1 (settle_marks a its.0 (valid_up_to 5001)) settles first_resident its.1)
  where
    other : (told : FileState) → marks 1 settles ≡ settle_marks a told (valid_up_to 5001) → ⊥
    other told same = let valid : ◌≡◌ {A = ℕ} 8192 5001 = cc in omega (arith, valid)

pub returns-clause-not_failed : goal.returns-clause-not_failed
returns-clause-not_failed c left =
    let its = settle-marked setup 1 a two_full first_resident (settles_with (recorded 8192 8192 how.Failed) ++ first_resident) left in
    other its.0 (shows 1 (settle_marks a its.0 two_full) (settles_with (recorded 8192 8192 how.Failed)) first_resident its.1)
  where
    other : (told : FileState) → marks 1 (settles_with (recorded 8192 8192 how.Failed)) ≡ settle_marks a told two_full → ⊥
    other told same = absurd (cc)

-- the record that fails to be written, behind the state and the flush
unwritten : List Entry
unwritten = record_ends (recorded 8192 8192 how.Failed)

pub returns-clause-no_other_page : goal.returns-clause-no_other_page
unfolding unwritten
returns-clause-no_other_page c (inl left) =
    other (shows 1 (Ended (call.Query (query.State a)) (outcome.Failed (error.WriteFault 0)) ∷ []) unwritten first_resident (marked-call setup 1 (call.Query (query.State a)) (outcome.Failed (error.WriteFault 0)) first_resident (unwritten ++ first_resident) left refl))
  where
    other : marks 1 unwritten ≡ Ended (call.Query (query.State a)) (outcome.Failed (error.WriteFault 0)) ∷ [] → ⊥
    other same = absurd (cc)
returns-clause-no_other_page c (inr (inl is)) =
    other is.told (shows 1 (told is.told ∷ fails ∷ []) unwritten first_resident
    (marked-then 1 (told is.told ∷ []) (fails ∷ []) first_resident is.stated (unwritten ++ first_resident)
    (marked-call setup 1 (call.Query (query.State a)) (outcome.Done (reply.Value (value.State is.told))) first_resident is.stated is.state refl)
    (marked-then 1 [] (fails ∷ []) is.stated is.begun (unwritten ++ first_resident) (marked-idle 1 is.stated is.begun is.idle) (marked-call setup 1 (call.Flush a None) (outcome.Failed (error.WriteFault 0)) is.begun (unwritten ++ first_resident) is.flush refl))))
  where
    other : (state : FileState) → marks 1 unwritten ≡ told state ∷ fails ∷ [] → ⊥
    other state same = absurd (cc)
returns-clause-no_other_page c (inr (inr is)) = let page : ◌≡◌ {A = ℕ} 0 (2 ^ 51) = is.stopped.0 in omega (arith, page)

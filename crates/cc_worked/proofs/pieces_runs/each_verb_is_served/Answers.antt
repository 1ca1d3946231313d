-- The one call of the line, by its end, or the one entry of its log.
use Rattle.std.specs.Prelude.{◌≡◌, ℕ, true, false, List, [], ◌∷◌, ◌++◌, refl}
use Rattle.std.specs.declared.option.Option.TheVariants.{Some, None}
use Rattle.std.proofs.Common.{arith, ap, inl}
use Rattle.cc_entry.specs.declared.call.Call.{Call}
use Rattle.cc_entry.specs.declared.call.Call.TheVariants as call
use Rattle.cc_entry.specs.declared.query.Query.TheVariants as query
use Rattle.cc_entry.specs.declared.reply.Reply.{Reply}
use Rattle.cc_entry.specs.declared.reply.Reply.TheVariants as reply
use Rattle.cc_entry.specs.declared.query.Value.TheVariants as value
use Rattle.cc_entry.specs.declared.reply.Outcome.TheVariants as outcome
use Rattle.cc_entry.specs.declared.entry.Entry.{Entry}
use Rattle.cc_entry.specs.declared.entry.Entry.TheVariants as entry
use Rattle.cc_effects.specs.Asked.{is_admitted}
use Rattle.cc_effects.specs.Calls.{CallLeft}
use Rattle.cc_effects.proofs.Starts.{begins, done_by, ends_done}
use Rattle.cc_effects.proofs.Stretches.{idle-none, some-begin}
use Rattle.cc_effects.proofs.Licences.{only-own}
use Rattle.cc_worked.specs.Values.{setup, a, second, sized, done, answers, synced}
use Rattle.cc_worked.specs.PiecesReads.{first_resident, two_pages}
use Rattle.cc_worked.specs.PiecesRuns.{first_bytes, flushes, two_full}
use Rattle.cc_worked.specs.PiecesWithoutEntry.{flushed_to_three, appended}
use Rattle.cc_worked.proofs.PiecesOpened.{computed}
use Rattle.cc_worked.proofs.Marks.{Ended, marks, marked-call, shows}
use Rattle.cc_worked.proofs.StateAsked.{state-told}
use Rattle.cc_worked.proofs.pieces_runs.each_verb_is_served.Goals as goal

pub returns-clause-written : goal.returns-clause-written
returns-clause-written c =
    ends_done 1 1 (Some 0) (call.CopyWrite a 0 (171 ∷ [])) reply.Unit first_resident first_resident (begins 1 (call.CopyWrite a 0 (171 ∷ [])) first_resident) refl (λ during. tt)

pub returns-clause-zeroed : goal.returns-clause-zeroed
returns-clause-zeroed c =
    ends_done 1 1 (Some 0) (call.Zero a first_bytes) reply.Unit first_resident first_resident (begins 1 (call.Zero a first_bytes) first_resident) refl (λ during. tt)

pub returns-clause-sized : goal.returns-clause-sized
returns-clause-sized c =
    ends_done 1 1 (Some 0) (call.SetSizes a 8192 4096) reply.Unit first_resident first_resident (begins 1 (call.SetSizes a 8192 4096) first_resident) refl (λ during. tt)

pub returns-clause-asked : goal.returns-clause-asked
returns-clause-asked c = state-told 1 two_full first_resident

pub returns-clause-flushed : goal.returns-clause-flushed
unfolding computed
returns-clause-flushed c = record {
  left = done_by 1 1 (Some 0) (call.Flush a None) reply.Unit (synced 1 ∷ []) first_resident (record { each = ((λ is. (refl, some-begin (λ moment. is_admitted (call.Flush a None) 0 moment ≡ true) [] first_resident refl)), tt); one_sync = omega arith; whole = refl }) refl refl (record { after = []; before = []; split = refl; quiet = tt; settled = refl });
  ascending = record { during = flushes None; grew = refl; ascend = omega arith };
}

pub returns-clause-asked_dirty : goal.returns-clause-asked_dirty
returns-clause-asked_dirty c =
    ends_done 1 1 None (call.Query query.IsDirtyData) (reply.Value (value.Flag false)) first_resident first_resident (begins 1 (call.Query query.IsDirtyData) first_resident) refl (λ during. tt)

pub returns-clause-log_set : goal.returns-clause-log_set
returns-clause-log_set c =
    ends_done 1 1 (Some 0) (call.SetLog a 3) reply.Unit first_resident first_resident (begins 1 (call.SetLog a 3) first_resident) refl (λ during. tt)

pub returns-clause-appended : goal.returns-clause-appended
returns-clause-appended c = (omega arith, record { later = []; earlier = []; grew = refl; is_own = refl; quiet_after = tt; quiet_before = tt })

pub returns-clause-log_flushed : goal.returns-clause-log_flushed
returns-clause-log_flushed c =
    (omega arith, inl (record { later = []; earlier = []; grew = refl; is_own = refl; quiet_after = tt; quiet_before = tt }))

pub returns-clause-opened_again : goal.returns-clause-opened_again
returns-clause-opened_again c =
    ends_done 1 1 (Some 0) (call.Initialise second (sized 8192 8192) 16 false) reply.Unit first_resident first_resident (begins 1 (call.Initialise second (sized 8192 8192) 16 false) first_resident) refl (λ during. tt)

pub returns-clause-closed : goal.returns-clause-closed
returns-clause-closed c =
    ends_done 1 1 (Some 0) (call.Uninitialise a (Some 0)) (reply.Value (value.Flag false)) first_resident first_resident (begins 1 (call.Uninitialise a (Some 0)) first_resident) refl (λ during. tt)

pub returns-clause-purged : goal.returns-clause-purged
returns-clause-purged c =
    ends_done 1 1 (Some 0) (call.Purge a None) reply.Unit first_resident first_resident (begins 1 (call.Purge a None) first_resident) refl (λ during. tt)

pub returns-clause-no_page_read : goal.returns-clause-no_page_read
returns-clause-no_page_read c = (refl, idle-none 1 two_pages)

pub returns-clause-page_read_refused : goal.returns-clause-page_read_refused
returns-clause-page_read_refused c =
    (refl, (1, refl, record { later = []; earlier = []; grew = refl; is_own = refl; quiet_after = tt; quiet_before = tt }))

pub returns-clause-page_write_refused : goal.returns-clause-page_write_refused
returns-clause-page_write_refused c =
    (refl, (1, refl, record { later = []; earlier = []; grew = refl; is_own = refl; quiet_after = tt; quiet_before = tt }))

-- a stretch that a done call left has its end alone
one_call : (it : Call) (r : Reply) (piece : List Entry) → CallLeft setup 1 it (outcome.Done r) first_resident (piece ++ first_resident) → marks 1 piece ≡ Ended it (outcome.Done r) ∷ []
one_call it r piece left =
    shows 1 (Ended it (outcome.Done r) ∷ []) piece first_resident (marked-call setup 1 it (outcome.Done r) first_resident (piece ++ first_resident) left refl)

pub returns-clause-not_zeroed : goal.returns-clause-not_zeroed
returns-clause-not_zeroed c left = other (one_call (call.Zero a first_bytes) reply.Unit (done 1 1 (call.CopyWrite a 0 (0 ∷ [])) ∷ []) left)
  where
    other : Ended (call.CopyWrite a 0 (0 ∷ [])) (outcome.Done reply.Unit) ∷ [] ≡ Ended (call.Zero a first_bytes) (outcome.Done reply.Unit) ∷ [] → ⊥
    other same = absurd (cc)

pub returns-clause-no_other_sizes : goal.returns-clause-no_other_sizes
returns-clause-no_other_sizes c left = other (one_call (call.SetSizes a 8192 4096) reply.Unit (done 1 1 (call.SetSizes a 4096 8192) ∷ []) left)
  where
    other : Ended (call.SetSizes a 4096 8192) (outcome.Done reply.Unit) ∷ [] ≡ Ended (call.SetSizes a 8192 4096) (outcome.Done reply.Unit) ∷ [] → ⊥
    other same = let sizes : ◌≡◌ {A = ℕ} 4096 8192 = cc in omega (arith, sizes)

pub returns-clause-no_other_log : goal.returns-clause-no_other_log
returns-clause-no_other_log c left = other (one_call (call.SetLog a 3) reply.Unit (done 1 1 (call.SetLog a 2) ∷ []) left)
  where
    other : Ended (call.SetLog a 2) (outcome.Done reply.Unit) ∷ [] ≡ Ended (call.SetLog a 3) (outcome.Done reply.Unit) ∷ [] → ⊥
    other same = let handles : ◌≡◌ {A = ℕ} 2 3 = cc in omega (arith, handles)

pub returns-clause-no_other_bytes : goal.returns-clause-no_other_bytes
returns-clause-no_other_bytes c left = other (only-own 1 (entry.Append 1 0 4 (2 ∷ [])) appended flushed_to_three left.1)
  where
    other : ◌≡◌ {A = List Entry} (entry.Append 1 0 4 (1 ∷ []) ∷ []) (entry.Append 1 0 4 (2 ∷ []) ∷ []) → ⊥
    other same = let bytes : ◌≡◌ {A = ℕ} 1 2 = cc in omega (arith, bytes)

pub returns-clause-flush_has_no_lsn : goal.returns-clause-flush_has_no_lsn
returns-clause-flush_has_no_lsn c left = left

pub returns-clause-no_other_span : goal.returns-clause-no_other_span
returns-clause-no_other_span c left = other (one_call (call.Flush a None) reply.Unit (done 1 1 (call.Flush a (Some first_bytes)) ∷ synced 1 ∷ []) left.left)
  where
    other : Ended (call.Flush a (Some first_bytes)) (outcome.Done reply.Unit) ∷ [] ≡ Ended (call.Flush a None) (outcome.Done reply.Unit) ∷ [] → ⊥
    other same = absurd (cc)

pub returns-clause-no_other_file : goal.returns-clause-no_other_file
returns-clause-no_other_file c left = other (one_call (call.Query (query.State a)) (reply.Value (value.State two_full)) (answers 1 1 (call.Query (query.State second)) (reply.Value (value.State two_full)) ∷ []) left)
  where
    other : Ended (call.Query (query.State second)) (outcome.Done (reply.Value (value.State two_full))) ∷ [] ≡ Ended (call.Query (query.State a)) (outcome.Done (reply.Value (value.State two_full))) ∷ [] → ⊥
    other same = let file : second ≡ a = cc in let object : ◌≡◌ {A = ℕ} 1 0 = ap (λ f. f.object) file in omega (arith, object)

pub returns-clause-no_other_truncate : goal.returns-clause-no_other_truncate
returns-clause-no_other_truncate c left = other (one_call (call.Uninitialise a None) (reply.Value (value.Flag false)) (answers 1 1 (call.Uninitialise a (Some 0)) (reply.Value (value.Flag false)) ∷ []) left)
  where
    other : Ended (call.Uninitialise a (Some 0)) (outcome.Done (reply.Value (value.Flag false))) ∷ [] ≡ Ended (call.Uninitialise a None) (outcome.Done (reply.Value (value.Flag false))) ∷ [] → ⊥
    other same = absurd (cc)

pub returns-clause-purge_is_no_flush : goal.returns-clause-purge_is_no_flush
returns-clause-purge_is_no_flush c left = other (one_call (call.Purge a None) reply.Unit (done 1 1 (call.Flush a None) ∷ synced 1 ∷ []) left)
  where
    other : Ended (call.Flush a None) (outcome.Done reply.Unit) ∷ [] ≡ Ended (call.Purge a None) (outcome.Done reply.Unit) ∷ [] → ⊥
    other same = absurd (cc)

pub returns-clause-told_with_its_pages : goal.returns-clause-told_with_its_pages
returns-clause-told_with_its_pages c left = left

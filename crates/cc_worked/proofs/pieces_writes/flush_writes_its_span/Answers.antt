-- The begin of a page of the span, its end, and one sync.
use Rattle.std.specs.Prelude.{◌≡◌, ℕ, true, List, [], ◌∷◌, refl}
use Rattle.std.specs.declared.option.Option.{Option}
use Rattle.std.specs.declared.option.Option.TheVariants.{Some}
use Rattle.std.proofs.Common.{arith}
use Rattle.cc_entry.specs.declared.reply.Reply.TheVariants as reply
use Rattle.cc_entry.specs.declared.error.CcError.TheVariants as error
use Rattle.cc_entry.specs.declared.reply.Outcome.TheVariants as outcome
use Rattle.cc_entry.specs.declared.entry.End.TheVariants as how
use Rattle.cc_entry.specs.declared.entry.Entry.{Entry}
use Rattle.cc_entry.specs.declared.entry.Entry.TheVariants as entry
use Rattle.cc_model.specs.Faults.{WriteFailed, SyncFailed}
use Rattle.cc_effects.specs.Asked.{is_admitted}
use Rattle.cc_effects.proofs.Starts.{done_by, faulted_by}
use Rattle.cc_effects.proofs.Stretches.{some-begin}
use Rattle.cc_effects.proofs.Licences.{licensed, write-fault-shown, sync-last}
use Rattle.cc_worked.specs.Values.{a, setup, begins, ends, fails, synced}
use Rattle.cc_worked.specs.PiecesWrites.{both_dirty, first_page, other_is_written, write_of_another_fails, written_after_sync}
use Rattle.cc_worked.proofs.PiecesOpened.{computed, neither, not_so}
use Rattle.cc_worked.proofs.pieces_writes.flush_writes_its_span.Goals as goal

pub returns-clause-done : goal.returns-clause-done
unfolding computed
returns-clause-done c =
    done_by 1 3 (Some 0) first_page reply.Unit (synced 1 ∷ ends 1 0 ∷ begins 1 0 ∷ []) both_dirty (record { each = ((λ is. (refl, some-begin (λ moment. is_admitted first_page 0 moment ≡ true) (ends 1 0 ∷ begins 1 0 ∷ []) both_dirty refl)), ((λ is. refl), ((λ is. refl), tt))); one_sync = omega arith; whole = refl }) refl refl (record { after = []; before = ends 1 0 ∷ begins 1 0 ∷ []; split = refl; quiet = tt; settled = refl })

pub returns-clause-write_failed : goal.returns-clause-write_failed
unfolding computed
returns-clause-write_failed c =
    faulted_by 1 3 (Some 0) first_page (error.WriteFault 0) (fails 1 0) (begins 1 0 ∷ []) both_dirty (record { each = ((λ is. refl), ((λ is. refl), tt)); one_sync = omega arith; whole = refl }) refl refl refl refl (record { fault = WriteFailed 0; shown = refl; told = refl })

pub returns-clause-sync_failed : goal.returns-clause-sync_failed
unfolding computed
returns-clause-sync_failed c =
    faulted_by 1 3 (Some 0) first_page (error.WriteFault 0) (entry.Sync 1 0 how.Failed) (ends 1 0 ∷ begins 1 0 ∷ []) both_dirty (record { each = ((λ is. (refl, some-begin (λ moment. is_admitted first_page 0 moment ≡ true) (ends 1 0 ∷ begins 1 0 ∷ []) both_dirty refl)), ((λ is. refl), ((λ is. refl), tt))); one_sync = omega arith; whole = refl }) refl refl refl refl (record { fault = SyncFailed; shown = refl; told = refl })

pub returns-clause-no_other_page : goal.returns-clause-no_other_page
unfolding computed
returns-clause-no_other_page c left =
    neither (λ is. is) not_so ((licensed setup 1 first_page (outcome.Done reply.Unit) other_is_written both_dirty left refl).1.1.1.0 refl)

pub returns-clause-not_of_another : goal.returns-clause-not_of_another
returns-clause-not_of_another c left = not_so (write-fault-shown setup 1 first_page 0 write_of_another_fails both_dirty left)

pub returns-clause-sync_comes_last : goal.returns-clause-sync_comes_last
returns-clause-sync_comes_last c left =
    let last = sync-last 1 a (Some (record { from = 0; to = 4096 })) reply.Unit written_after_sync both_dirty left in
    other last.0 last.1 last.2 last.3
  where
    other : (nth : ℕ) (stream : Option ℕ) (before : List Entry) → written_after_sync ≡ entry.Call 1 nth stream first_page (outcome.Done reply.Unit) ∷ entry.Sync 1 0 how.Good ∷ before → ⊥
    other nth stream before same = absurd (cc)

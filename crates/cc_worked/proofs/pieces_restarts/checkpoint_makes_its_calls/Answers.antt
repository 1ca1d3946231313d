-- Each call in its order.
use Rattle.std.specs.Prelude.{◌≡◌, List, [], ◌∷◌, ◌++◌, true, Ok, refl}
use Rattle.std.specs.declared.option.Option.TheVariants.{Some, None}
use Rattle.std.proofs.Common.{arith, inl, inr}
use Rattle.cc_entry.specs.declared.call.Call.TheVariants as call
use Rattle.cc_entry.specs.declared.query.Query.TheVariants as query
use Rattle.cc_entry.specs.declared.reply.Reply.TheVariants as reply
use Rattle.cc_entry.specs.declared.reply.Outcome.TheVariants as outcome
use Rattle.cc_entry.specs.declared.entry.Entry.{Entry}
use Rattle.cc_entry.specs.declared.entry.Entry.TheVariants as entry
use Rattle.cc_effects.specs.Asked.{is_admitted}
use Rattle.cc_effects.specs.Calls.{CallLeft}
use Rattle.cc_effects.proofs.Starts.{begins, done_by, ends_done}
use Rattle.cc_effects.proofs.Stretches.{idle-none, some-begin}
use Rattle.cc_pieces.specs.Checkpoints.{StatesAsked, SyncedLogged, record_of_rows, sync_call}
use Rattle.cc_worked.specs.Values.{setup, synced}
use Rattle.cc_worked.specs.PiecesRestarts.{checkpoint_asks, checkpoint_made, checkpoint_syncs, first_dirty, one_row_record}
use Rattle.cc_worked.specs.PiecesShim.{logged, logged_state}
use Rattle.cc_worked.proofs.PiecesOpened.{computed}
use Rattle.cc_worked.proofs.StateAsked.{state-told}
use Rattle.cc_worked.proofs.pieces_restarts.checkpoint_makes_its_calls.Goals as goal

tabled : List Entry
tabled = entry.Call 1 1 None (call.Query (query.DirtyPages 0)) (outcome.Done (reply.Rows (first_dirty ∷ []))) ∷ logged 8192

its_table : CallLeft setup 1 (call.Query (query.DirtyPages 0)) (outcome.Done (reply.Rows (first_dirty ∷ []))) (logged 8192) tabled
unfolding computed tabled
its_table =
    ends_done 1 1 None (call.Query (query.DirtyPages 0)) (reply.Rows (first_dirty ∷ [])) (logged 8192) (logged 8192) (begins 1 (call.Query (query.DirtyPages 0)) (logged 8192)) refl (λ during. tt)

its_states : StatesAsked setup 1 0 1 (0 ∷ []) tabled (checkpoint_asks ++ logged 8192)
unfolding computed tabled
its_states = ([], Some (logged_state 8192), tabled, refl, (refl, idle-none 1 tabled), state-told 2 (logged_state 8192) tabled)

its_sync : CallLeft setup 1 (sync_call 0) (outcome.Done reply.Unit) (checkpoint_asks ++ logged 8192) (checkpoint_syncs ++ logged 8192)
unfolding computed
its_sync =
    done_by 1 3 (Some 0) (sync_call 0) reply.Unit (synced 1 ∷ []) (checkpoint_asks ++ logged 8192)
    (record { each = ((λ is. (refl, some-begin (λ moment. is_admitted (sync_call 0) 0 moment ≡ true) [] (checkpoint_asks ++ logged 8192) refl)), tt); one_sync = omega arith; whole = refl })
    refl refl (record { after = []; before = []; split = refl; quiet = tt; settled = refl })

its_end : SyncedLogged setup 1 0 (0 ∷ []) one_row_record (Ok 3) (checkpoint_asks ++ logged 8192) (checkpoint_made ++ logged 8192)
unfolding computed
its_end =
    inr (
      checkpoint_syncs ++ logged 8192,
      (checkpoint_syncs ++ logged 8192, its_sync, idle-none 1 (checkpoint_syncs ++ logged 8192)),
      inr (
        entry.Append 1 0 3 one_row_record ∷ (checkpoint_syncs ++ logged 8192),
        3,
        (omega arith, record { later = []; earlier = []; grew = refl; is_own = refl; quiet_after = tt; quiet_before = tt }),
        (refl, (omega arith, inl (record { later = []; earlier = []; grew = refl; is_own = refl; quiet_after = tt; quiet_before = tt }))),
      ),
    )

its_record : record_of_rows (first_dirty ∷ []) ≡ one_row_record
its_record = refl

pub returns-clause-record : goal.returns-clause-record
returns-clause-record c = its_record

pub returns-clause-made : goal.returns-clause-made
unfolding computed tabled
returns-clause-made c =
    inr (tabled, first_dirty ∷ [], its_table, inr (checkpoint_asks ++ logged 8192, 0 ∷ [], its_states, its_end))

-- The one call on the hold that the binding names; a wrong one by its end.
use Rattle.std.specs.Prelude.{◌≡◌, ℕ, false, List, [], ◌∷◌, ◌++◌, refl}
use Rattle.std.specs.declared.option.Option.TheVariants.{Some}
use Rattle.std.proofs.Common.{arith}
use Rattle.cc_entry.specs.declared.call.Call.{Call}
use Rattle.cc_entry.specs.declared.call.Call.TheVariants as call
use Rattle.cc_entry.specs.declared.reply.Reply.{Reply}
use Rattle.cc_entry.specs.declared.reply.Reply.TheVariants as reply
use Rattle.cc_entry.specs.declared.reply.Outcome.TheVariants as outcome
use Rattle.cc_entry.specs.declared.entry.Entry.{Entry}
use Rattle.cc_model.specs.Acts.{file_of}
use Rattle.cc_model.specs.Holds.{holds_of}
use Rattle.cc_model.specs.Legal.{stream_history}
use Rattle.cc_model.specs.Filing.{IsFiled}
use Rattle.cc_effects.specs.Calls.{HasDone, CallLeft}
use Rattle.cc_effects.proofs.Starts.{begins, ends_done}
use Rattle.cc_worked.specs.Values.{setup, a, done}
use Rattle.cc_worked.specs.PiecesReads.{a_byte}
use Rattle.cc_worked.specs.PiecesNoncached.{written_through, hold_alone}
use Rattle.cc_worked.specs.PiecesLines.{mapped, held_by, pinned_range, repinned_range, next}
use Rattle.cc_worked.proofs.PiecesOpened.{computed}
use Rattle.cc_worked.proofs.RepinEnds.{flushed-through, not-flushed}
use Rattle.cc_worked.proofs.Marks.{Ended, marked-call, shows}
use Rattle.cc_worked.proofs.pieces_lines.lines_call_on_their_hold.Goals as goal

-- the caller's second call, which needs no page
calls : (it : Call) (r : Reply) (old : List Entry) → IsFiled (holds_of (stream_history old (Some 0))) 1 (Some 0) it (file_of it) → ((during : List Entry) → HasDone 1 it during old) → CallLeft setup 1 it (outcome.Done r) old (next it r ++ old)
calls it r old filed has = ends_done 1 2 (Some 0) it r old old (begins 1 it old) filed has

pub returns-clause-pin_mapped : goal.returns-clause-pin_mapped
unfolding computed
returns-clause-pin_mapped c = calls (call.PinMapped 1 false) (reply.Hold 1) mapped refl (λ during. tt)

pub returns-clause-map_read : goal.returns-clause-map_read
unfolding computed
returns-clause-map_read c = calls (call.MappedRead 1 0 1) a_byte mapped refl (λ during. tt)

pub returns-clause-pin_read : goal.returns-clause-pin_read
unfolding computed
returns-clause-pin_read c = calls (call.PinnedRead 1 0 1) a_byte pinned_range refl (λ during. tt)

pub returns-clause-written : goal.returns-clause-written
unfolding computed
returns-clause-written c = calls (call.PinnedWrite 1 0 (171 ∷ [])) reply.Unit pinned_range refl (λ during. tt)

pub returns-clause-stamped : goal.returns-clause-stamped
unfolding computed
returns-clause-stamped c = calls (call.SetDirty 1 (Some 1)) reply.Unit pinned_range refl (λ during. tt)

pub returns-clause-repinned : goal.returns-clause-repinned
unfolding computed
returns-clause-repinned c = calls (call.Repin 1) (reply.Hold 2) pinned_range refl (λ during. tt)

pub returns-clause-chain_read : goal.returns-clause-chain_read
unfolding computed
returns-clause-chain_read c = calls (call.MdlBytes 1 0 1) a_byte (held_by (call.MdlRead a 0 16)) refl (λ during. tt)

pub returns-clause-chain_stored : goal.returns-clause-chain_stored
unfolding computed
returns-clause-chain_stored c = calls (call.MdlStore 1 0 (171 ∷ [])) reply.Unit (held_by (call.MdlWrite a 0 16)) refl (λ during. tt)

pub returns-clause-chain_done : goal.returns-clause-chain_done
unfolding computed
returns-clause-chain_done c = calls (call.EndHold 1) reply.Unit (held_by (call.MdlRead a 0 16)) refl (λ during. tt)

pub returns-clause-chain_aborted : goal.returns-clause-chain_aborted
unfolding computed
returns-clause-chain_aborted c = calls (call.EndHold 1) reply.Unit (held_by (call.MdlWrite a 0 16)) refl (λ during. tt)

pub returns-clause-unrepinned : goal.returns-clause-unrepinned
unfolding computed
returns-clause-unrepinned c = record {
  left = ends_done 1 4 (Some 0) (call.EndHold 2) reply.Unit repinned_range repinned_range (begins 1 (call.EndHold 2) repinned_range) refl (λ during. tt);
  ascending = record { during = done 1 4 (call.EndHold 2) ∷ []; grew = refl; ascend = omega arith };
}

pub returns-clause-flushed : goal.returns-clause-flushed
returns-clause-flushed c = record {
  left = flushed-through;
  ascending = record { during = written_through; grew = refl; ascend = (omega arith, omega arith) };
}

pub returns-clause-not_flushed : goal.returns-clause-not_flushed
returns-clause-not_flushed c = record {
  left = not-flushed;
  ascending = record { during = hold_alone; grew = refl; ascend = omega arith };
}

-- a stretch of one call is left by no other
one_call : (it other : Call) (r : Reply) (old : List Entry) → CallLeft setup 1 other (outcome.Done r) old (next it r ++ old) → Ended it (outcome.Done r) ∷ [] ≡ Ended other (outcome.Done r) ∷ []
one_call it other r old left =
    shows 1 (Ended other (outcome.Done r) ∷ []) (next it r) old (marked-call setup 1 other (outcome.Done r) old (next it r ++ old) left refl)

pub returns-clause-on_no_other_hold : goal.returns-clause-on_no_other_hold
returns-clause-on_no_other_hold c left = other (one_call (call.PinnedWrite 2 0 (171 ∷ [])) (call.PinnedWrite 1 0 (171 ∷ [])) reply.Unit pinned_range left)
  where
    other : Ended (call.PinnedWrite 2 0 (171 ∷ [])) (outcome.Done reply.Unit) ∷ [] ≡ Ended (call.PinnedWrite 1 0 (171 ∷ [])) (outcome.Done reply.Unit) ∷ [] → ⊥
    other same = absurd (cc)

pub returns-clause-no_other_bytes : goal.returns-clause-no_other_bytes
returns-clause-no_other_bytes c left = other (one_call (call.PinnedWrite 1 0 (172 ∷ [])) (call.PinnedWrite 1 0 (171 ∷ [])) reply.Unit pinned_range left)
  where
    other : Ended (call.PinnedWrite 1 0 (172 ∷ [])) (outcome.Done reply.Unit) ∷ [] ≡ Ended (call.PinnedWrite 1 0 (171 ∷ [])) (outcome.Done reply.Unit) ∷ [] → ⊥
    other same = let byte : ◌≡◌ {A = ℕ} 172 171 = cc in omega (arith, byte)

pub returns-clause-no_other_lsn : goal.returns-clause-no_other_lsn
returns-clause-no_other_lsn c left = other (one_call (call.SetDirty 1 (Some 2)) (call.SetDirty 1 (Some 1)) reply.Unit pinned_range left)
  where
    other : Ended (call.SetDirty 1 (Some 2)) (outcome.Done reply.Unit) ∷ [] ≡ Ended (call.SetDirty 1 (Some 1)) (outcome.Done reply.Unit) ∷ [] → ⊥
    other same = absurd (cc)

pub returns-clause-no_other_call : goal.returns-clause-no_other_call
returns-clause-no_other_call c left = other (one_call (call.PinnedRead 1 0 1) (call.MappedRead 1 0 1) a_byte mapped left)
  where
    other : Ended (call.PinnedRead 1 0 1) (outcome.Done a_byte) ∷ [] ≡ Ended (call.MappedRead 1 0 1) (outcome.Done a_byte) ∷ [] → ⊥
    other same = absurd (cc)

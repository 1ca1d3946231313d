-- The parts up to the refusal, by the calls that they show.
use Rattle.std.specs.Prelude.{◌≡◌, ℕ, Bool, true, false, List, [], ◌∷◌, ◌++◌, refl, ◌⊎◌, if◌then◌else◌}
use Rattle.std.specs.declared.option.Option.TheVariants.{Some, None}
use Rattle.std.proofs.Common.{inl, inr, arith}
use Rattle.cc_entry.specs.declared.place.FileState.{FileState}
use Rattle.cc_entry.specs.declared.call.Call.TheVariants as call
use Rattle.cc_entry.specs.declared.query.Query.TheVariants as query
use Rattle.cc_entry.specs.declared.error.CcError.{CcError}
use Rattle.cc_entry.specs.declared.error.CcError.TheVariants as error
use Rattle.cc_entry.specs.declared.reply.Reply.TheVariants as reply
use Rattle.cc_entry.specs.declared.reply.Outcome.TheVariants as outcome
use Rattle.cc_model.specs.Ranges.{cut_range}
use Rattle.cc_effects.specs.Calls.{leaves_entry}
use Rattle.cc_pieces.specs.Shim.{mapped_path, parts_of}
use Rattle.cc_effects.proofs.Starts.{begins, brings, ends_done, ends_refused, gives_up}
use Rattle.cc_effects.proofs.Stretches.{idle-none}
use Rattle.cc_worked.specs.Values.{setup, a, page, sized, read_in}
use Rattle.cc_worked.specs.PiecesReads.{two_pages}
use Rattle.cc_worked.specs.PiecesShim.{two_blocks, says, reads_on, held_unread}
use Rattle.cc_worked.proofs.PiecesOpened.{computed}
use Rattle.cc_worked.proofs.Marks.{Mark, Ended}
use Rattle.cc_worked.proofs.ShimMarks.{told_state, same_state}
use Rattle.cc_worked.proofs.PartMarks.{CutPartsMarks, refused-parts-shown}
use Rattle.cc_worked.proofs.StateAsked.{state-told}
use Rattle.cc_worked.proofs.pieces_shim.held_read_ends_at_a_refusal.Goals as goal

-- what a stream of such a size tells
whole : ℕ → FileState
whole size = record { sizes = sized size size; log = None }

pub returns-clause-refused : goal.returns-clause-refused
unfolding computed whole
returns-clause-refused c =
    let asked = says 524288 ++ two_blocks in
    let it = call.Map a 262143 1 in
    inr (asked, whole 524288, state-told 1 (whole 524288) two_blocks, inl (inl (inl (ends_refused 1 2 (Some 0) it (error.NoViews 0 16) asked asked (begins 1 it asked) refl refl))))

pub returns-clause-no_memory : goal.returns-clause-no_memory
unfolding computed whole
returns-clause-no_memory c =
    let asked = says 8192 ++ two_pages in
    let it = call.Map a 8191 1 in
    let held = held_unread ++ two_pages in
    let look = call.MappedRead 1 8191 1 in
    let its_map = ends_done 1 2 (Some 0) it (reply.Hold 1) asked (read_in 1 1 ∷ asked) (brings 1 it asked asked (page 1) true (begins 1 it asked) refl refl refl) refl (λ during. tt) in
    let its_end = ends_done 1 3 (Some 0) (call.EndHold 1) reply.Unit held held (begins 1 (call.EndHold 1) held) refl (λ during. tt) in
    inr (
      asked,
      whole 8192,
      state-told 1 (whole 8192) two_pages,
      inl (inr (1, held, held, its_map, gives_up 1 look error.NoMemory held held (begins 1 look held) refl refl, its_end)),
    )

pub returns-clause-unaligned : goal.returns-clause-unaligned
returns-clause-unaligned c = (inl refl, idle-none 1 two_pages)

pub returns-clause-noncached : goal.returns-clause-noncached
unfolding computed
returns-clause-noncached c =
    (0, (omega arith, (refl, inl (ends_refused 1 1 (Some 0) (call.NcRead a 0) error.NotCached [] [] (begins 1 (call.NcRead a 0) []) refl refl))))

-- what a read leaves after the question was answered so
after_question : (e : CcError) (at size : ℕ) (rest : List Mark) → (told_state a (whole size) ∷ rest ≡ (if leaves_entry (outcome.Failed e) then Ended (call.Query (query.State a)) (outcome.Failed e) ∷ [] else [])) ⊎ ((state : FileState) × (its : List Mark) × (told_state a (whole size) ∷ rest ≡ told_state a state ∷ its) × CutPartsMarks (mapped_path a) (parts_of (cut_range state.sizes.size at 2)) e its) → CutPartsMarks (mapped_path a) (parts_of (cut_range size at 2)) e rest
unfolding whole
after_question e at size rest (inl same) = absurd (by (leaves_entry (outcome.Failed e)) same)
  where
    by : (leaves : Bool) → told_state a (whole size) ∷ rest ≡ (if leaves then Ended (call.Query (query.State a)) (outcome.Failed e) ∷ [] else []) → ⊥
    by true same = absurd (cc)
    by false same = absurd (cc)
after_question e at size rest (inr told) =
    let same = same_state a (whole size) told.0 rest told.1 told.2 in
    by told.0 told.1 same.0 same.1 told.3
  where
    by : (state : FileState) (its : List Mark) → state ≡ whole size → its ≡ rest → CutPartsMarks (mapped_path a) (parts_of (cut_range state.sizes.size at 2)) e its → CutPartsMarks (mapped_path a) (parts_of (cut_range size at 2)) e rest
    by state its is are marked = rw (is, are) at marked

pub returns-clause-no_more : goal.returns-clause-no_more
unfolding whole
returns-clause-no_more c left =
    none (after_question (error.NoViews 0 16) 262143 524288 (failed ∷ rest) (refused-parts-shown setup 1 a (mapped_path a) parts_of 262143 2 (error.NoViews 0 16) reads_on two_blocks left))
  where
    failed : Mark
    failed = Ended (call.Map a 262143 1) (outcome.Failed (error.NoViews 0 16))

    rest : List Mark
    rest =
        Ended (call.Map a 262144 1) (outcome.Done (reply.Hold 1))
        ∷ Ended (call.MappedRead 1 262144 1) (outcome.Done (reply.Read (90 ∷ [])))
        ∷ Ended (call.EndHold 1) (outcome.Done reply.Unit)
        ∷ []

    none : CutPartsMarks (mapped_path a) (record { from = 262143; to = 262144 } ∷ record { from = 262144; to = 262145 } ∷ []) (error.NoViews 0 16) (failed ∷ rest) → ⊥
    none (inl (inl same)) = absurd (cc)
    none (inl (inr held)) = absurd (cc (held.1))
    none (inr read) = absurd (cc (read.3))

pub returns-clause-let_go : goal.returns-clause-let_go
unfolding whole
returns-clause-let_go c left =
    none (after_question error.NoMemory 8191 8192 (held ∷ []) (refused-parts-shown setup 1 a (mapped_path a) parts_of 8191 2 error.NoMemory held_unread two_pages left))
  where
    held : Mark
    held = Ended (call.Map a 8191 1) (outcome.Done (reply.Hold 1))

    none : CutPartsMarks (mapped_path a) (record { from = 8191; to = 8192 } ∷ []) error.NoMemory (held ∷ []) → ⊥
    none (inl (inl same)) = absurd (cc)
    none (inl (inr ended)) = absurd (cc (ended.1))
    none (inr read) = read.4

pub returns-clause-any_place : goal.returns-clause-any_place
returns-clause-any_place c left =
    none (refused-parts-shown setup 1 a (mapped_path a) parts_of 1 4096 error.Unaligned [] two_pages left)
  where
    none : ([] ≡ Ended (call.Query (query.State a)) (outcome.Failed error.Unaligned) ∷ []) ⊎ ((state : FileState) × (rest : List Mark) × ([] ≡ told_state a state ∷ rest) × CutPartsMarks (mapped_path a) (parts_of (cut_range state.sizes.size 1 4096)) error.Unaligned rest) → ⊥
    none (inl same) = absurd (cc)
    none (inr told) = absurd (cc (told.2))

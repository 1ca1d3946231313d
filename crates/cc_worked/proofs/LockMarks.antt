-- Lines that are tested against locks: what stands newest where one is told of a lock, and the marks of a read that is made.
use Rattle.std.specs.Prelude.{◌≡◌, ℕ, true, false, List, [], ◌∷◌, ◌++◌, Ok, refl}
use Rattle.std.specs.declared.option.Option.TheVariants.{None}
use Rattle.std.proofs.Common.{inl, inr, subst, sym, ◌∙◌}
use Rattle.cc_entry.specs.declared.place.FileState.{FileState}
use Rattle.cc_entry.specs.declared.call.Call.TheVariants as call
use Rattle.cc_entry.specs.declared.query.Query.TheVariants as query
use Rattle.cc_entry.specs.declared.reply.Reply.TheVariants as reply
use Rattle.cc_entry.specs.declared.query.Value.TheVariants as value
use Rattle.cc_entry.specs.declared.reply.Outcome.TheVariants as outcome
use Rattle.cc_entry.specs.declared.entry.Entry.{Entry}
use Rattle.cc_entry.specs.declared.entry.Entry.TheVariants as entry
use Rattle.cc_script.specs.declared.script.ReadPath.TheVariants.{Cached}
use Rattle.cc_model.specs.Passes.{is_mine}
use Rattle.cc_effects.specs.Moments.{Others, PlacedOnly}
use Rattle.cc_pieces.specs.Locks.{RangeTestedLeft, LockedReadLeft, tested_range}
use Rattle.cc_pieces.specs.Shim.{ReadTested, misaligned_for, too_long_for}
use Rattle.cc_worked.specs.Values.{a, setup}
use Rattle.cc_worked.specs.PiecesReads.{first_byte}
use Rattle.cc_worked.proofs.Marks.{Ended, Marked, Tested, marked-call, marked-only, marked-then}
use Rattle.cc_worked.proofs.PiecesOpened.{not_so}
use Rattle.cc_worked.proofs.ShimMarks.{done_not_refused, told_state}

-- caller 1 placed its newest entry alone
pub alone : (e : Entry) (old : List Entry) → is_mine 1 e ≡ true → PlacedOnly 1 e old (e ∷ old)
alone e old mine = record { later = []; earlier = []; grew = refl; is_own = mine; quiet_after = tt; quiet_before = tt }

-- what it placed alone is its newest entry
pub newest : (e x : Entry) (rest between : List Entry) → PlacedOnly 1 e between (x ∷ rest) → is_mine 1 x ≡ true → x ≡ e
newest e x rest between only mine = by only.later only.grew only.quiet_after
  where
    by : (later : List Entry) → x ∷ rest ≡ later ++ (e ∷ (only.earlier ++ between)) → Others 1 later → x ≡ e
    by [] grew quiet = cc
    by (y ∷ later) grew quiet =
        let same : x ≡ y = cc in
        absurd (not_so (sym quiet.0 ∙ subst (λ (z : Entry). is_mine 1 z ≡ true) same mine))

-- a read of the first byte that is made asks the state, is tested so that no lock conflicts, and reads
pub read-made : (bytes : List ℕ) (old new : List Entry) → LockedReadLeft setup 1 a Cached 0 1 (Ok bytes) old new → (state : FileState) × Marked 1 (told_state a state ∷ Tested a (tested_range 0 1) false None ∷ Ended first_byte (outcome.Done (reply.Read bytes)) ∷ []) old new
read-made bytes old new (inl left) = absurd (done_not_refused bytes left.0 left.1)
read-made bytes old new (inr left) =
    (left.1, marked-then 1 (told_state a left.1 ∷ []) (Tested a (tested_range 0 1) false None ∷ Ended first_byte (outcome.Done (reply.Read bytes)) ∷ []) old left.0 new (marked-call setup 1 (call.Query (query.State a)) (outcome.Done (reply.Value (value.State left.1))) old left.0 left.2 refl) (behind left.3))
  where
    behind : RangeTestedLeft 1 a (tested_range 0 1) false (ReadTested setup 1 a Cached 0 1 (too_long_for Cached 1) (misaligned_for Cached 0 1)) (Ok bytes) left.0 new → Marked 1 (Tested a (tested_range 0 1) false None ∷ Ended first_byte (outcome.Done (reply.Read bytes)) ∷ []) left.0 new
    behind (inl stopped) = absurd (done_not_refused bytes stopped.0 stopped.1)
    behind (inr made) =
        marked-then 1 (Tested a (tested_range 0 1) false None ∷ []) (Ended first_byte (outcome.Done (reply.Read bytes)) ∷ []) left.0 made.0 new
        (marked-only 1 (entry.Tested 1 a (tested_range 0 1) false None) left.0 made.0 made.1)
        (marked-call setup 1 first_byte (outcome.Done (reply.Read bytes)) made.0 new made.2 refl)

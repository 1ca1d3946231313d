-- The calls that a read leaves which holds what it reads, as marks, part by part.
use Rattle.std.specs.Prelude.{◌≡◌, ℕ, List, [], ◌∷◌, ◌++◌, Ok, Err, refl, ◌⊎◌}
use Rattle.std.proofs.Common.{inl, inr}
use Rattle.cc_entry.specs.Place.{File, Range}
use Rattle.cc_entry.specs.declared.place.FileState.{FileState}
use Rattle.cc_entry.specs.declared.call.Call.TheVariants as call
use Rattle.cc_entry.specs.declared.query.Query.TheVariants as query
use Rattle.cc_entry.specs.declared.error.CcError.{CcError}
use Rattle.cc_entry.specs.declared.reply.Reply.TheVariants as reply
use Rattle.cc_entry.specs.declared.query.Value.TheVariants as value
use Rattle.cc_entry.specs.declared.reply.Outcome.TheVariants as outcome
use Rattle.cc_entry.specs.declared.entry.Entry.{Entry}
use Rattle.cc_model.specs.Setup.{Setup}
use Rattle.cc_model.specs.Ranges.{cut_range}
use Rattle.cc_pieces.specs.Shim.{HoldPath, PartRead, PartRefused, PartsLeft, HeldPartsLeft}
use Rattle.cc_worked.proofs.Marks.{Mark, Ended, Marked, marks, end_of, marked-idle, marked-then, marked-call, marked-left, shows}
use Rattle.cc_worked.proofs.ShimMarks.{told_state, same_state}

-- a range was held, its bytes were read, or not, and it was let go
abbrev pub part_marks : HoldPath → Range → ℕ → List Mark → List Mark
part_marks path r id looked = Ended (path.make r) (outcome.Done (reply.Hold id)) ∷ (looked ++ Ended (call.EndHold id) (outcome.Done reply.Unit) ∷ [])

abbrev pub looked_at : HoldPath → Range → ℕ → List ℕ → List Mark
looked_at path r id bytes = Ended (path.look id r) (outcome.Done (reply.Read bytes)) ∷ []

-- ranges that were all read, with these bytes
abbrev pub PartsMarks : HoldPath → List Range → List ℕ → List Mark → Type 0
PartsMarks path [] bytes all = (bytes ≡ []) × (all ≡ [])
PartsMarks path (r ∷ rs) bytes all =
    (id : ℕ) × (first : List ℕ) × (rest : List ℕ) × (more : List Mark) × (bytes ≡ first ++ rest) × (all ≡ part_marks path r id (looked_at path r id first) ++ more) × PartsMarks path rs rest more

-- one range that was not read
abbrev pub UnreadMarks : HoldPath → Range → CcError → List Mark → Type 0
UnreadMarks path r e all =
    (all ≡ end_of (path.make r) (outcome.Failed e)) ⊎ ((id : ℕ) × (all ≡ part_marks path r id (end_of (path.look id r) (outcome.Failed e))))

-- ranges of which one was not read
abbrev pub CutPartsMarks : HoldPath → List Range → CcError → List Mark → Type 0
CutPartsMarks path [] e all = ⊥
CutPartsMarks path (r ∷ rs) e all =
    UnreadMarks path r e all
    ⊎ ((id : ℕ) × (first : List ℕ) × (more : List Mark) × (all ≡ part_marks path r id (looked_at path r id first) ++ more) × CutPartsMarks path rs e more)

-- a hold from its make to its end
held : (u : Setup) (me : ℕ) (path : HoldPath) (r : Range) (id : ℕ) (looked : List Mark) (old made seen new : List Entry) → Marked me (Ended (path.make r) (outcome.Done (reply.Hold id)) ∷ []) old made → Marked me looked made seen → Marked me (Ended (call.EndHold id) (outcome.Done reply.Unit) ∷ []) seen new → Marked me (part_marks path r id looked) old new
held u me path r id looked old made seen new first second third =
    marked-then me (Ended (path.make r) (outcome.Done (reply.Hold id)) ∷ []) (looked ++ Ended (call.EndHold id) (outcome.Done reply.Unit) ∷ []) old made new first
    (marked-then me looked (Ended (call.EndHold id) (outcome.Done reply.Unit) ∷ []) made seen new second third)

part-read : (u : Setup) (me : ℕ) (path : HoldPath) (r : Range) (bytes : List ℕ) (old new : List Entry) → PartRead u me path r bytes old new → (id : ℕ) × Marked me (part_marks path r id (looked_at path r id bytes)) old new
part-read u me path r bytes old new left =
    (left.0, held u me path r left.0 (looked_at path r left.0 bytes) old left.1 left.2 new (marked-call u me (path.make r) (outcome.Done (reply.Hold left.0)) old left.1 left.3 refl) (marked-call u me (path.look left.0 r) (outcome.Done (reply.Read bytes)) left.1 left.2 left.4 refl) (marked-call u me (call.EndHold left.0) (outcome.Done reply.Unit) left.2 new left.5 refl))

parts-read : (u : Setup) (me : ℕ) (path : HoldPath) (rs : List Range) (bytes : List ℕ) (old new : List Entry) → PartsLeft u me path rs (Ok bytes) old new → (all : List Mark) × PartsMarks path rs bytes all × Marked me all old new
parts-read u me path [] bytes old new left = ([], (left.0, refl), marked-idle me old new left.1)
parts-read u me path (r ∷ rs) bytes old new left =
    let one = part-read u me path r left.1 old left.0 left.4 in
    let others = parts-read u me path rs left.2 left.0 new left.5 in (
      part_marks path r one.0 (looked_at path r one.0 left.1) ++ others.0,
      (one.0, left.1, left.2, others.0, left.3, refl, others.1),
      marked-then me (part_marks path r one.0 (looked_at path r one.0 left.1)) others.0 old left.0 new one.1 others.2,
    )

unread : (u : Setup) (me : ℕ) (path : HoldPath) (r : Range) (e : CcError) (old new : List Entry) → PartRefused u me path r e old new → (all : List Mark) × UnreadMarks path r e all × Marked me all old new
unread u me path r e old new (inl left) =
    (end_of (path.make r) (outcome.Failed e), inl refl, marked-left u me (path.make r) (outcome.Failed e) old new left)
unread u me path r e old new (inr left) = (
  part_marks path r left.0 (end_of (path.look left.0 r) (outcome.Failed e)),
  inr (left.0, refl),
  held u me path r left.0 (end_of (path.look left.0 r) (outcome.Failed e)) old left.1 left.2 new (marked-call u me (path.make r) (outcome.Done (reply.Hold left.0)) old left.1 left.3 refl) (marked-left u me (path.look left.0 r) (outcome.Failed e) left.1 left.2 left.4) (marked-call u me (call.EndHold left.0) (outcome.Done reply.Unit) left.2 new left.5 refl),
)

parts-cut : (u : Setup) (me : ℕ) (path : HoldPath) (rs : List Range) (e : CcError) (old new : List Entry) → PartsLeft u me path rs (Err e) old new → (all : List Mark) × CutPartsMarks path rs e all × Marked me all old new
parts-cut u me path [] e old new left = absurd left
parts-cut u me path (r ∷ rs) e old new (inl left) =
    let one = unread u me path r e old new left in
    (one.0, inl one.1, one.2)
parts-cut u me path (r ∷ rs) e old new (inr left) =
    let one = part-read u me path r left.1 old left.0 left.2 in
    let others = parts-cut u me path rs e left.0 new left.3 in (
      part_marks path r one.0 (looked_at path r one.0 left.1) ++ others.0,
      inr (one.0, left.1, others.0, refl, others.1),
      marked-then me (part_marks path r one.0 (looked_at path r one.0 left.1)) others.0 old left.0 new one.1 others.2,
    )

-- a read that is done, by the sizes that its stretch shows
pub parts-shown : (u : Setup) (me : ℕ) (file : File) (path : HoldPath) (parts : Range → List Range) (at len : ℕ) (bytes : List ℕ) (state : FileState) (rest : List Mark) (piece old : List Entry) → marks me piece ≡ told_state file state ∷ rest → HeldPartsLeft u me file path parts at len (Ok bytes) old (piece ++ old) → PartsMarks path (parts (cut_range state.sizes.size at len)) bytes rest
parts-shown u me file path parts at len bytes state rest piece old has left =
    let its = parts-read u me path (parts (cut_range left.1.sizes.size at len)) bytes left.0 (piece ++ old) left.3 in
    let whole = shows me (told_state file left.1 ∷ its.0) piece old (marked-then me (told_state file left.1 ∷ []) its.0 old left.0 (piece ++ old) (marked-call u me (call.Query (query.State file)) (outcome.Done (reply.Value (value.State left.1))) old left.0 left.2 refl) its.2) in
    let same = same_state file state left.1 rest its.0 (rw has at whole) in
    by left.1 its.0 same.0 same.1 its.1
  where
    by : (told : FileState) (all : List Mark) → told ≡ state → all ≡ rest → PartsMarks path (parts (cut_range told.sizes.size at len)) bytes all → PartsMarks path (parts (cut_range state.sizes.size at len)) bytes rest
    by told all is are marked = rw (is, are) at marked

-- one that is refused: at the question, or at a part
pub refused-parts-shown : (u : Setup) (me : ℕ) (file : File) (path : HoldPath) (parts : Range → List Range) (at len : ℕ) (e : CcError) (piece old : List Entry) → HeldPartsLeft u me file path parts at len (Err e) old (piece ++ old) → (marks me piece ≡ end_of (call.Query (query.State file)) (outcome.Failed e)) ⊎ ((state : FileState) × (rest : List Mark) × (marks me piece ≡ told_state file state ∷ rest) × CutPartsMarks path (parts (cut_range state.sizes.size at len)) e rest)
refused-parts-shown u me file path parts at len e piece old (inl left) =
    inl (shows me (end_of (call.Query (query.State file)) (outcome.Failed e)) piece old (marked-left u me (call.Query (query.State file)) (outcome.Failed e) old (piece ++ old) left))
refused-parts-shown u me file path parts at len e piece old (inr left) =
    let its = parts-cut u me path (parts (cut_range left.1.sizes.size at len)) e left.0 (piece ++ old) left.3 in
    inr (left.1, its.0, shows me (told_state file left.1 ∷ its.0) piece old (marked-then me (told_state file left.1 ∷ []) its.0 old left.0 (piece ++ old) (marked-call u me (call.Query (query.State file)) (outcome.Done (reply.Value (value.State left.1))) old left.0 left.2 refl) its.2), its.1)

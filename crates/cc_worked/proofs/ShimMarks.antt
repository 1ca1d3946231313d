-- The calls that a line of the shim leaves, as marks, by what it answered.
use Rattle.std.specs.Prelude.{◌≡◌, ℕ, ◌+◌, ◌<◌, ◌≤◌, Bool, true, false, List, [], ◌∷◌, ◌++◌, Result, Ok, Err, refl, ◌⊎◌, if◌then◌else◌}
use Rattle.std.proofs.Common.{inl, inr, sym}
use Rattle.cc_entry.specs.Place.{File}
use Rattle.cc_entry.specs.declared.place.FileState.{FileState}
use Rattle.cc_entry.specs.declared.call.Call.{Call}
use Rattle.cc_entry.specs.declared.call.Call.TheVariants as call
use Rattle.cc_entry.specs.declared.query.Query.TheVariants as query
use Rattle.cc_entry.specs.declared.error.CcError.{CcError}
use Rattle.cc_entry.specs.declared.error.CcError.TheVariants as error
use Rattle.cc_entry.specs.declared.reply.Reply.TheVariants as reply
use Rattle.cc_entry.specs.declared.query.Value.TheVariants as value
use Rattle.cc_entry.specs.declared.reply.Outcome.TheVariants as outcome
use Rattle.cc_entry.specs.declared.entry.Entry.{Entry}
use Rattle.cc_model.specs.Setup.{Setup}
use Rattle.cc_effects.specs.Calls.{CallLeft, leaves_entry}
use Rattle.cc_pieces.specs.Shim.{RefusedSo, ShortWriteLeft, ToldWriteLeft, write_calls}
use Rattle.cc_worked.proofs.Marks.{Mark, Ended, Marked, marks, Cut, end_of, done_marks, marked-idle, marked-then, marked-call, marked-left, marked-calls, marked-cut, shows}
use Rattle.cc_worked.proofs.PiecesOpened.{neither}

pub done_not_refused : {T : Type 0} → (x : T) (e : CcError) → ◌≡◌ {A = Result T CcError} (Ok x) (Err e) → ⊥
done_not_refused x e same = absurd (cc)

-- what is done was refused by no test
pub not-tested : {T : Type 0} → (x : T) (e : CcError) → RefusedSo {T = T} e (Ok x) → ⊥
not-tested x e = neither (done_not_refused x e) (done_not_refused x error.NoMemory)

-- the question for the sizes, as it was answered
abbrev pub told_state : File → FileState → Mark
told_state file state = Ended (call.Query (query.State file)) (outcome.Done (reply.Value (value.State state)))

-- two marks of it with what follows are one
pub same_state : (file : File) (s t : FileState) (xs ys : List Mark) → told_state file s ∷ xs ≡ told_state file t ∷ ys → (t ≡ s) × (ys ≡ xs)
same_state file s t xs ys same = (cc, cc)

write-marks : (u : Setup) (me : ℕ) (file : File) (at : ℕ) (bytes : List ℕ) (old new : List Entry) → ShortWriteLeft u me file at bytes (Ok tt) old new → (state : FileState) × Marked me (told_state file state ∷ done_marks (write_calls file at bytes state)) old new
write-marks u me file at bytes old new (inl left) = absurd (done_not_refused tt left.0 left.1)
write-marks u me file at bytes old new (inr left) =
    (left.1, marked-then me (told_state file left.1 ∷ []) (done_marks (write_calls file at bytes left.1)) old left.0 new (marked-call u me (call.Query (query.State file)) (outcome.Done (reply.Value (value.State left.1))) old left.0 left.2 refl) (calls left.3))
  where
    calls : ToldWriteLeft u me file at bytes left.1 (Ok tt) left.0 new → Marked me (done_marks (write_calls file at bytes left.1)) left.0 new
    calls (inl told) = absurd (not-tested tt (error.GapTooLong 67108864) told.1)
    calls (inr told) = marked-calls u me (write_calls file at bytes left.1) left.0 new told.1

-- a write that is done, after what it was told, made just its calls
pub write-shown : (u : Setup) (me : ℕ) (file : File) (at : ℕ) (bytes : List ℕ) (piece old : List Entry) → ShortWriteLeft u me file at bytes (Ok tt) old (piece ++ old) → (state : FileState) × (marks me piece ≡ told_state file state ∷ done_marks (write_calls file at bytes state))
write-shown u me file at bytes piece old left =
    let its = write-marks u me file at bytes old (piece ++ old) left in
    (its.0, shows me (told_state file its.0 ∷ done_marks (write_calls file at bytes its.0)) piece old its.1)

-- so with the sizes that the stretch shows
pub write-told : (u : Setup) (me : ℕ) (file : File) (at : ℕ) (bytes : List ℕ) (state : FileState) (rest : List Mark) (piece old : List Entry) → marks me piece ≡ told_state file state ∷ rest → ShortWriteLeft u me file at bytes (Ok tt) old (piece ++ old) → rest ≡ done_marks (write_calls file at bytes state)
write-told u me file at bytes state rest piece old has left =
    let shown = write-shown u me file at bytes piece old left in
    let same = same_state file state shown.0 rest (done_marks (write_calls file at bytes shown.0)) (rw has at shown.1) in
    let its : done_marks (write_calls file at bytes state) ≡ rest = rw same.0 at same.1 in
    sym its

-- what a refused write leaves after it was told the sizes: nothing where the gap is too long, else its calls up
-- to the one that was refused
abbrev pub AfterTold : File → ℕ → List ℕ → CcError → FileState → List Mark → Type 0
AfterTold file at bytes e state rest =
    ((state.sizes.valid + 67108864 < at) × (rest ≡ [])) ⊎ ((at ≤ state.sizes.valid + 67108864) × Cut (write_calls file at bytes state) e rest)

-- and what it leaves as a whole
abbrev pub RefusedMarks : File → ℕ → List ℕ → CcError → List Mark → Type 0
RefusedMarks file at bytes e all =
    (all ≡ end_of (call.Query (query.State file)) (outcome.Failed e))
    ⊎ ((state : FileState) × (rest : List Mark) × (all ≡ told_state file state ∷ rest) × AfterTold file at bytes e state rest)

told-refused : (u : Setup) (me : ℕ) (file : File) (at : ℕ) (bytes : List ℕ) (e : CcError) (state : FileState) (old new : List Entry) → ToldWriteLeft u me file at bytes state (Err e) old new → (rest : List Mark) × AfterTold file at bytes e state rest × Marked me rest old new
told-refused u me file at bytes e state old new (inl left) = ([], inl (left.0, refl), marked-idle me old new left.2)
told-refused u me file at bytes e state old new (inr left) =
    let cut = marked-cut u me (write_calls file at bytes state) e old new left.1 in
    (cut.0, inr (left.0, cut.1), cut.2)

same_error : (e f : CcError) → ◌≡◌ {A = Result (Unit {0}) CcError} (Err e) (Err f) → e ≡ f
same_error e f same = cc

pub refusal-shown : (u : Setup) (me : ℕ) (file : File) (at : ℕ) (bytes : List ℕ) (e : CcError) (piece old : List Entry) → ShortWriteLeft u me file at bytes (Err e) old (piece ++ old) → RefusedMarks file at bytes e (marks me piece)
refusal-shown u me file at bytes e piece old (inl left) =
    let failed : CallLeft u me (call.Query (query.State file)) (outcome.Failed e) old (piece ++ old) = rw (sym (same_error e left.0 left.1)) at left.2 in
    inl (shows me (end_of (call.Query (query.State file)) (outcome.Failed e)) piece old (marked-left u me (call.Query (query.State file)) (outcome.Failed e) old (piece ++ old) failed))
refusal-shown u me file at bytes e piece old (inr left) =
    let its = told-refused u me file at bytes e left.1 left.0 (piece ++ old) left.3 in
    inr (left.1, its.0, shows me (told_state file left.1 ∷ its.0) piece old (marked-then me (told_state file left.1 ∷ []) its.0 old left.0 (piece ++ old) (marked-call u me (call.Query (query.State file)) (outcome.Done (reply.Value (value.State left.1))) old left.0 left.2 refl) its.2), its.1)

-- a list of marks that a refused call ends has no mark after it, and no refusal before
pub cut-here : (calls : List Call) (e : CcError) (it : Call) (f : CcError) (rest : List Mark) → Cut calls e (Ended it (outcome.Failed f) ∷ rest) → (rest ≡ []) × (e ≡ f)
cut-here calls e it f rest cut = by cut.before cut.same
  where
    end : (its : Call) (leaves : Bool) → Ended it (outcome.Failed f) ∷ rest ≡ (if leaves then Ended its (outcome.Failed e) ∷ [] else []) → (rest ≡ []) × (e ≡ f)
    end its true same = (cc, cc)
    end its false same = absurd (cc)

    by : (before : List Call) → Ended it (outcome.Failed f) ∷ rest ≡ done_marks before ++ end_of cut.it (outcome.Failed e) → (rest ≡ []) × (e ≡ f)
    by [] same = end cut.it (leaves_entry (outcome.Failed e)) same
    by (first ∷ before) same = absurd (cc)

-- where its refusal leaves an entry, it leaves some mark
pub cut-some : (calls : List Call) (e : CcError) → leaves_entry (outcome.Failed e) ≡ true → Cut calls e [] → ⊥
cut-some calls e leaves cut = by cut.before (rw leaves at cut.same)
  where
    by : (before : List Call) → [] ≡ done_marks before ++ Ended cut.it (outcome.Failed e) ∷ [] → ⊥
    by [] same = absurd (cc)
    by (first ∷ before) same = absurd (cc)

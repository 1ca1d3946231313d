-- The calls and the record that an update leaves, as marks, by what it answered.
use Rattle.std.specs.Prelude.{◌≡◌, ℕ, ◌<◌, List, [], ◌∷◌, ◌++◌, length, Bool, true, false, if◌then◌else◌, Result, Ok, Err, refl, ◌⊎◌}
use Rattle.std.specs.declared.option.Option.{Option}
use Rattle.std.specs.declared.option.Option.TheVariants.{Some, None}
use Rattle.std.proofs.Common.{inl, inr, sym, eq-eqb}
use Rattle.cc_entry.specs.Place.{File}
use Rattle.cc_entry.specs.declared.place.FileState.{FileState}
use Rattle.cc_entry.specs.declared.call.Call.{Call}
use Rattle.cc_entry.specs.declared.call.Call.TheVariants as call
use Rattle.cc_entry.specs.declared.query.Query.TheVariants as query
use Rattle.cc_entry.specs.declared.error.CcError.{CcError}
use Rattle.cc_entry.specs.declared.error.CcError.TheVariants as error
use Rattle.cc_entry.specs.declared.reply.Reply.TheVariants as reply
use Rattle.cc_entry.specs.declared.query.Value.TheVariants as value
use Rattle.cc_entry.specs.declared.reply.Outcome.TheVariants as outcome
use Rattle.cc_entry.specs.declared.entry.Entry.{Entry}
use Rattle.cc_entry.specs.declared.entry.Entry.TheVariants as entry
use Rattle.cc_model.specs.Setup.{Setup}
use Rattle.cc_effects.specs.Calls.{CallLeft, leaves_entry}
use Rattle.cc_effects.specs.LogCalls.{AppendLeft, AppendRefused}
use Rattle.cc_pieces.specs.Shim.{RefusedSo, update_record_of_file, LoggedLeft, ToldUpdateLeft, PinnedUpdateLeft, UpdateLeft}
use Rattle.cc_worked.proofs.Marks.{Mark, Ended, Logged, Marked, marks, Cut, mark_of, end_of, done_marks, marked-idle, marked-only, marked-then, marked-call, marked-left, marked-calls, marked-cut, shows}
use Rattle.cc_worked.proofs.ShimMarks.{done_not_refused, not-tested, told_state, same_state}

-- the pin that was made, and its end
abbrev pub pinned_as : File → ℕ → List ℕ → ℕ → Mark
pinned_as file at bytes id = Ended (call.PinRead file at (length bytes) true) (outcome.Done (reply.Hold id))

abbrev pub unpinned : ℕ → Mark
unpinned id = Ended (call.EndHold id) (outcome.Done reply.Unit)

-- the two calls that change the bytes and stamp them
abbrev pub two_calls : ℕ → ℕ → List ℕ → ℕ → List Call
two_calls id at bytes lsn = call.PinnedWrite id at bytes ∷ call.SetDirty id (Some lsn) ∷ []

-- what a done update leaves
abbrev pub updated_marks : File → ℕ → List ℕ → ℕ → FileState → ℕ → ℕ → List Mark
updated_marks file at bytes id state handle lsn =
    pinned_as file at bytes id
    ∷ told_state file state
    ∷ Logged handle lsn (update_record_of_file file at bytes)
    ∷ (done_marks (two_calls id at bytes lsn) ++ unpinned id ∷ [])

pub append-marked : (u : Setup) (me handle : ℕ) (bytes : List ℕ) (lsn : ℕ) (old new : List Entry) → AppendLeft u me handle bytes (Ok lsn) old new → Marked me (Logged handle lsn bytes ∷ []) old new
append-marked u me handle bytes lsn old new left =
    let is : mark_of me (entry.Append me handle lsn bytes) ≡ Logged handle lsn bytes ∷ [] = rw (eq-eqb me me refl) refl in
    let its : Marked me (mark_of me (entry.Append me handle lsn bytes)) old new = marked-only me (entry.Append me handle lsn bytes) old new left.1 in
    rw is at its

same_lsn : {a b : ℕ} → ◌≡◌ {A = Result ℕ CcError} (Ok a) (Ok b) → a ≡ b
same_lsn same = cc

logged-marks : (u : Setup) (me : ℕ) (file : File) (id at : ℕ) (bytes : List ℕ) (handle lsn : ℕ) (old new : List Entry) → LoggedLeft u me file id at bytes handle (Ok lsn) old new → Marked me (Logged handle lsn (update_record_of_file file at bytes) ∷ done_marks (two_calls id at bytes lsn)) old new
logged-marks u me file id at bytes handle lsn old new (inl left) = absurd (done_not_refused lsn left.0 left.1)
logged-marks u me file id at bytes handle lsn old new (inr left) =
    let its : lsn ≡ left.1 = left.3.0 in
    let calls : Marked me (done_marks (two_calls id at bytes lsn)) left.0 new = rw its (marked-calls u me (two_calls id at bytes left.1) left.0 new left.3.1) in
    let first : Marked me (Logged handle lsn (update_record_of_file file at bytes) ∷ []) old left.0 = rw its (append-marked u me handle (update_record_of_file file at bytes) left.1 old left.0 left.2) in
    marked-then me (Logged handle lsn (update_record_of_file file at bytes) ∷ []) (done_marks (two_calls id at bytes lsn)) old left.0 new first calls

told-marks : (u : Setup) (me : ℕ) (file : File) (id at : ℕ) (bytes : List ℕ) (log : Option ℕ) (valid lsn : ℕ) (old new : List Entry) → ToldUpdateLeft u me file id at bytes log valid (Ok lsn) old new → (handle : ℕ) × (log ≡ Some handle) × Marked me (Logged handle lsn (update_record_of_file file at bytes) ∷ done_marks (two_calls id at bytes lsn)) old new
told-marks u me file id at bytes None valid lsn old new left = absurd (not-tested lsn (error.NoLog 255) left.0)
told-marks u me file id at bytes (Some handle) valid lsn old new (inl left) = absurd (not-tested lsn (error.BeyondValid valid) left.1)
told-marks u me file id at bytes (Some handle) valid lsn old new (inr left) =
    (handle, refl, logged-marks u me file id at bytes handle lsn old new left.1)

pinned-marks : (u : Setup) (me : ℕ) (file : File) (id at : ℕ) (bytes : List ℕ) (lsn : ℕ) (old new : List Entry) → PinnedUpdateLeft u me file id at bytes (Ok lsn) old new → (state : FileState) × (handle : ℕ) × Marked me (told_state file state ∷ Logged handle lsn (update_record_of_file file at bytes) ∷ done_marks (two_calls id at bytes lsn)) old new
pinned-marks u me file id at bytes lsn old new (inl left) = absurd (done_not_refused lsn left.0 left.1)
pinned-marks u me file id at bytes lsn old new (inr left) =
    let told = told-marks u me file id at bytes left.1.log left.1.sizes.valid lsn left.0 new left.3 in
    (left.1, told.0, marked-then me (told_state file left.1 ∷ []) (Logged told.0 lsn (update_record_of_file file at bytes) ∷ done_marks (two_calls id at bytes lsn)) old left.0 new (marked-call u me (call.Query (query.State file)) (outcome.Done (reply.Value (value.State left.1))) old left.0 left.2 refl) told.2)

-- a done update left its pin, the question, the record, the two calls and the end of the pin
pub update-shown : (u : Setup) (me : ℕ) (file : File) (at : ℕ) (bytes : List ℕ) (lsn : ℕ) (piece old : List Entry) → UpdateLeft u me file at bytes (Ok lsn) old (piece ++ old) → (id : ℕ) × (state : FileState) × (handle : ℕ) × (marks me piece ≡ updated_marks file at bytes id state handle lsn)
update-shown u me file at bytes lsn piece old (inl left) = absurd (done_not_refused lsn left.0 left.1)
update-shown u me file at bytes lsn piece old (inr left) =
    let its = pinned-marks u me file left.0 at bytes lsn left.1 left.2 left.4 in
    let middle = told_state file its.0 ∷ Logged its.1 lsn (update_record_of_file file at bytes) ∷ done_marks (two_calls left.0 at bytes lsn) in
    let from_pin = marked-then me (pinned_as file at bytes left.0 ∷ []) middle old left.1 left.2 (marked-call u me (call.PinRead file at (length bytes) true) (outcome.Done (reply.Hold left.0)) old left.1 left.3 refl) its.2 in
    let whole = marked-then me (pinned_as file at bytes left.0 ∷ middle) (unpinned left.0 ∷ []) old left.2 (piece ++ old) from_pin (marked-call u me (call.EndHold left.0) (outcome.Done reply.Unit) left.2 (piece ++ old) left.5 refl) in
    (left.0, its.0, its.1, shows me (updated_marks file at bytes left.0 its.0 its.1 lsn) piece old whole)

-- a refused append leaves no mark
pub refused-append : (u : Setup) (me handle : ℕ) (e : CcError) (old new : List Entry) → AppendRefused u me handle e old new → Marked me [] old new
refused-append u me handle (error.NoLog missing) old new left = marked-idle me old new left.2
refused-append u me handle (error.LogFull full) old new left = marked-idle me old new left.2
refused-append u me handle (error.LogFault failed) old new left = marked-only me (entry.LogFailed me handle) old new left.2.1
refused-append u me handle (error.JournalFull entries) old new left = marked-idle me old new left
refused-append u me handle error.NoMemory old new left = marked-idle me old new left
refused-append u me handle other old new left = absurd left

pub same_error : {e f : CcError} → ◌≡◌ {A = Result ℕ CcError} (Err e) (Err f) → e ≡ f
same_error same = cc

-- What a refused update leaves after it was told its log and its sizes: nothing, where it has no log, begins
-- behind the valid data length, or its append was refused; else its record, and its calls up to the refusal.
abbrev pub AfterAsked : File → ℕ → ℕ → List ℕ → CcError → Option ℕ → ℕ → List Mark → Type 0
AfterAsked file id at bytes e None valid rest = (rest ≡ []) × RefusedSo {T = ℕ} (error.NoLog 255) (Err e)
AfterAsked file id at bytes e (Some handle) valid rest =
    ((rest ≡ []) × (valid < at) × RefusedSo {T = ℕ} (error.BeyondValid valid) (Err e))
    ⊎ (((rest ≡ []) × ((u : Setup) × (me : ℕ) × (old : List Entry) × (new : List Entry) × AppendRefused u me handle e old new))
    ⊎ ((lsn : ℕ) × (more : List Mark) × (rest ≡ Logged handle lsn (update_record_of_file file at bytes) ∷ more) × Cut (two_calls id at bytes lsn) e more))

-- what it leaves under its pin
abbrev pub UnderPin : File → ℕ → ℕ → List ℕ → CcError → List Mark → Type 0
UnderPin file id at bytes e all =
    (all ≡ end_of (call.Query (query.State file)) (outcome.Failed e))
    ⊎ ((state : FileState) × (rest : List Mark) × (all ≡ told_state file state ∷ rest) × AfterAsked file id at bytes e state.log state.sizes.valid rest)

-- and as a whole: the pin was refused, or made and ended
abbrev pub RefusedUpdate : File → ℕ → List ℕ → CcError → List Mark → Type 0
RefusedUpdate file at bytes e all =
    (all ≡ end_of (call.PinRead file at (length bytes) true) (outcome.Failed e))
    ⊎ ((id : ℕ) × (under : List Mark) × (all ≡ pinned_as file at bytes id ∷ (under ++ unpinned id ∷ [])) × UnderPin file id at bytes e under)

logged-refused : (u : Setup) (me : ℕ) (file : File) (id at : ℕ) (bytes : List ℕ) (e : CcError) (handle valid : ℕ) (old new : List Entry) → LoggedLeft u me file id at bytes handle (Err e) old new → (rest : List Mark) × AfterAsked file id at bytes e (Some handle) valid rest × Marked me rest old new
logged-refused u me file id at bytes e handle valid old new (inl left) =
    let refused : AppendRefused u me handle e old new = rw (sym (same_error left.1)) at left.2 in
    ([], inr (inl (refl, (u, me, old, new, refused))), refused-append u me handle e old new refused)
logged-refused u me file id at bytes e handle valid old new (inr left) =
    let cut = marked-cut u me (two_calls id at bytes left.1) e left.0 new left.3.1 in
    let record_there = append-marked u me handle (update_record_of_file file at bytes) left.1 old left.0 left.2 in (
      Logged handle left.1 (update_record_of_file file at bytes) ∷ cut.0,
      inr (inr (left.1, cut.0, refl, cut.1)),
      marked-then me (Logged handle left.1 (update_record_of_file file at bytes) ∷ []) cut.0 old left.0 new record_there cut.2,
    )

told-refused : (u : Setup) (me : ℕ) (file : File) (id at : ℕ) (bytes : List ℕ) (e : CcError) (log : Option ℕ) (valid : ℕ) (old new : List Entry) → ToldUpdateLeft u me file id at bytes log valid (Err e) old new → (rest : List Mark) × AfterAsked file id at bytes e log valid rest × Marked me rest old new
told-refused u me file id at bytes e None valid old new left = ([], (refl, left.0), marked-idle me old new left.1)
told-refused u me file id at bytes e (Some handle) valid old new (inl left) = ([], inl (refl, left.0, left.1), marked-idle me old new left.2)
told-refused u me file id at bytes e (Some handle) valid old new (inr left) = logged-refused u me file id at bytes e handle valid old new left.1

pinned-refused : (u : Setup) (me : ℕ) (file : File) (id at : ℕ) (bytes : List ℕ) (e : CcError) (old new : List Entry) → PinnedUpdateLeft u me file id at bytes (Err e) old new → (all : List Mark) × UnderPin file id at bytes e all × Marked me all old new
pinned-refused u me file id at bytes e old new (inl left) =
    let failed : CallLeft u me (call.Query (query.State file)) (outcome.Failed e) old new = rw (sym (same_error left.1)) at left.2 in
    (end_of (call.Query (query.State file)) (outcome.Failed e), inl refl, marked-left u me (call.Query (query.State file)) (outcome.Failed e) old new failed)
pinned-refused u me file id at bytes e old new (inr left) =
    let its = told-refused u me file id at bytes e left.1.log left.1.sizes.valid left.0 new left.3 in (
      told_state file left.1 ∷ its.0,
      inr (left.1, its.0, refl, its.1),
      marked-then me (told_state file left.1 ∷ []) its.0 old left.0 new (marked-call u me (call.Query (query.State file)) (outcome.Done (reply.Value (value.State left.1))) old left.0 left.2 refl) its.2,
    )

pub refused-update-shown : (u : Setup) (me : ℕ) (file : File) (at : ℕ) (bytes : List ℕ) (e : CcError) (piece old : List Entry) → UpdateLeft u me file at bytes (Err e) old (piece ++ old) → RefusedUpdate file at bytes e (marks me piece)
refused-update-shown u me file at bytes e piece old (inl left) =
    let failed : CallLeft u me (call.PinRead file at (length bytes) true) (outcome.Failed e) old (piece ++ old) = rw (sym (same_error left.1)) at left.2 in
    inl (shows me (end_of (call.PinRead file at (length bytes) true) (outcome.Failed e)) piece old (marked-left u me (call.PinRead file at (length bytes) true) (outcome.Failed e) old (piece ++ old) failed))
refused-update-shown u me file at bytes e piece old (inr left) =
    let its = pinned-refused u me file left.0 at bytes e left.1 left.2 left.4 in
    let from_pin = marked-then me (pinned_as file at bytes left.0 ∷ []) its.0 old left.1 left.2 (marked-call u me (call.PinRead file at (length bytes) true) (outcome.Done (reply.Hold left.0)) old left.1 left.3 refl) its.2 in
    let whole = marked-then me (pinned_as file at bytes left.0 ∷ its.0) (unpinned left.0 ∷ []) old left.2 (piece ++ old) from_pin (marked-call u me (call.EndHold left.0) (outcome.Done reply.Unit) left.2 (piece ++ old) left.5 refl) in
    inr (left.0, its.0, shows me (pinned_as file at bytes left.0 ∷ (its.0 ++ unpinned left.0 ∷ [])) piece old whole, its.1)

-- what stands before the last mark, and that mark
appended : (xs ys : List Mark) (m n : Mark) → xs ++ m ∷ [] ≡ ys ++ n ∷ [] → (xs ≡ ys) × (m ≡ n)
appended [] [] m n same = (refl, cc)
appended [] (y ∷ []) m n same = absurd (cc)
appended [] (y ∷ z ∷ ys) m n same = absurd (cc)
appended (x ∷ []) [] m n same = absurd (cc)
appended (x ∷ y ∷ xs) [] m n same = absurd (cc)
appended (x ∷ xs) (y ∷ ys) m n same =
    let first : x ≡ y = cc in
    let rest = appended xs ys m n (cc) in
    (rw (first, rest.0) refl, rest.1)

-- the pin ended last, and what was done under it stands before
pub under-pin : (file : File) (at : ℕ) (bytes : List ℕ) (e : CcError) (id : ℕ) (under : List Mark) (last : Mark) → RefusedUpdate file at bytes e (pinned_as file at bytes id ∷ (under ++ last ∷ [])) → (its : ℕ) × (last ≡ unpinned its) × UnderPin file its at bytes e under
under-pin file at bytes e id under last (inl same) = by (leaves_entry (outcome.Failed e)) same
  where
    by : (leaves : Bool) → pinned_as file at bytes id ∷ (under ++ last ∷ []) ≡ (if leaves then Ended (call.PinRead file at (length bytes) true) (outcome.Failed e) ∷ [] else []) → (its : ℕ) × (last ≡ unpinned its) × UnderPin file its at bytes e under
    by true same = absurd (cc)
    by false same = absurd (cc)
under-pin file at bytes e id under last (inr left) =
    let parts = appended under left.1 last (unpinned left.0) (cc (left.2)) in
    (left.0, parts.1, rw parts.0 left.3)

-- after the question with this answer stands the rest
pub after-question : (file : File) (id at : ℕ) (bytes : List ℕ) (e : CcError) (state : FileState) (rest : List Mark) → UnderPin file id at bytes e (told_state file state ∷ rest) → AfterAsked file id at bytes e state.log state.sizes.valid rest
after-question file id at bytes e state rest (inl same) = by (leaves_entry (outcome.Failed e)) same
  where
    by : (leaves : Bool) → told_state file state ∷ rest ≡ (if leaves then Ended (call.Query (query.State file)) (outcome.Failed e) ∷ [] else []) → AfterAsked file id at bytes e state.log state.sizes.valid rest
    by true same = absurd (cc)
    by false same = absurd (cc)
after-question file id at bytes e state rest (inr told) =
    let same = same_state file state told.0 rest told.1 told.2 in
    rw (same.0, same.1) at told.3

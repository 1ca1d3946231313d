-- An update that is refused for want of memory and had changed its bytes: the stamp wanted memory at a moment,
-- after which only the pin ended.
use Rattle.std.specs.Prelude.{◌≡◌, ℕ, Bool, true, false, List, [], ◌∷◌, ◌++◌, length, Err, refl, ◌⊎◌, ◌||◌}
use Rattle.std.specs.List.{list_any}
use Rattle.std.specs.declared.option.Option.{Option}
use Rattle.std.specs.declared.option.Option.TheVariants.{Some, None}
use Rattle.std.proofs.Common.{inl, inr, sym, ap, ◌∙◌, append_assoc}
use Rattle.std.proofs.lemmas.List.{append_cancel_right}
use Rattle.cc_entry.specs.Place.{File}
use Rattle.cc_entry.specs.declared.call.Call.TheVariants as call
use Rattle.cc_entry.specs.declared.query.Query.TheVariants as query
use Rattle.cc_entry.specs.declared.error.CcError.TheVariants as error
use Rattle.cc_entry.specs.declared.reply.Reply.TheVariants as reply
use Rattle.cc_entry.specs.declared.query.Value.TheVariants as value
use Rattle.cc_entry.specs.declared.reply.Outcome.TheVariants as outcome
use Rattle.cc_entry.specs.declared.entry.Entry.{Entry}
use Rattle.cc_model.specs.Setup.{Setup}
use Rattle.cc_effects.specs.Asked.{Calls}
use Rattle.cc_effects.specs.Calls.{CallLeft, IsUnplaced}
use Rattle.cc_effects.specs.Refusals.{owes_nothing}
use Rattle.cc_effects.specs.LogCalls.{AppendRefused}
use Rattle.cc_pieces.specs.Shim.{update_record_of_file, CallsLeft, LoggedLeft, ToldUpdateLeft, PinnedUpdateLeft, UpdateLeft}
use Rattle.cc_worked.proofs.Marks.{Mark, Ended, Logged, Marked, marks, marks-append, marks-works, marked-idle, marked-then, marked-call, marked-left, shows}
use Rattle.cc_worked.proofs.ShimMarks.{told_state}
use Rattle.cc_worked.proofs.UpdateMarks.{pinned_as, unpinned, two_calls, append-marked, refused-append, same_error}

-- whether a mark is the end of a pinned write
abbrev pub is_change : Mark → Bool
is_change (Ended (call.PinnedWrite id at bytes) answered) = true
is_change other = false

-- marks without a pinned write were left
abbrev pub Unchanged : ℕ → List Entry → List Entry → Type 0
Unchanged me old new = (all : List Mark) × (list_any is_change all ≡ false) × Marked me all old new

-- the stamp of a hold wanted memory at a moment, and after it the pass left no mark
pub record WantsAt (me id : ℕ) (old new : List Entry) : Type 0 where
  pub later : List Entry
  pub since : List Entry
  pub grew : new ≡ later ++ (since ++ old)
  pub none : marks me later ≡ []
  pub wants : owes_nothing id (since ++ old) ≡ true

first-none : (xs ys : List Mark) → xs ++ ys ≡ [] → ys ≡ []
first-none [] ys is = is
first-none (x ∷ xs) ys is = absurd (cc)

-- the call that stamps left nothing
stamp-wants : (me id lsn : ℕ) (old new : List Entry) → IsUnplaced me (call.SetDirty id (Some lsn)) error.NoMemory old new → WantsAt me id old new
stamp-wants me id lsn old new left =
    let some = left.wants in
    let whole : new ≡ some.later ++ (some.since ++ old) = some.ends ∙ ap (λ l. some.later ++ l) some.begins in
    let both : some.later ++ some.since ≡ left.during = append_cancel_right (some.later ++ some.since) left.during old (append_assoc some.later some.since old ∙ (sym whole ∙ left.grew)) in
    let none : marks me some.since ++ marks me some.later ≡ [] = sym (marks-append me some.later some.since) ∙ (ap (marks me) both ∙ marks-works me (Calls (call.SetDirty id (Some lsn))) left.during old left.works.each) in
    record {
      later = some.later;
      since = some.since;
      grew = whole;
      none = first-none (marks me some.since) (marks me some.later) none;
      wants = rw some.begins at some.holds;
    }

-- and so of a stretch that began earlier
earlier : (me id : ℕ) (all : List Mark) (older old new : List Entry) → Marked me all older old → WantsAt me id old new → WantsAt me id older new
earlier me id all older old new marked is = record {
  later = is.later;
  since = is.since ++ marked.during;
  grew = is.grew ∙ ap (λ l. is.later ++ l) longer;
  none = is.none;
  wants = rw longer at is.wants;
}
  where
    longer : is.since ++ old ≡ (is.since ++ marked.during) ++ older
    longer = ap (λ l. is.since ++ l) marked.grew ∙ sym (append_assoc is.since marked.during older)

-- the two calls of the record: neither was made, or the stamp wanted memory
calls-want : (u : Setup) (me id at : ℕ) (bytes : List ℕ) (lsn : ℕ) (old new : List Entry) → CallsLeft u me (two_calls id at bytes lsn) (Err error.NoMemory) old new → Marked me [] old new ⊎ WantsAt me id old new
calls-want u me id at bytes lsn old new (inl left) = inl (marked-left u me (call.PinnedWrite id at bytes) (outcome.Failed error.NoMemory) old new left)
calls-want u me id at bytes lsn old new (inr (between, change, inl stamp)) =
    inr (earlier me id (Ended (call.PinnedWrite id at bytes) (outcome.Done reply.Unit) ∷ []) old between new (marked-call u me (call.PinnedWrite id at bytes) (outcome.Done reply.Unit) old between change refl) (stamp-wants me id lsn between new stamp))
calls-want u me id at bytes lsn old new (inr (between, change, inr rest)) = absurd rest.2

logged-want : (u : Setup) (me : ℕ) (file : File) (id at : ℕ) (bytes : List ℕ) (handle : ℕ) (old new : List Entry) → LoggedLeft u me file id at bytes handle (Err error.NoMemory) old new → Unchanged me old new ⊎ WantsAt me id old new
logged-want u me file id at bytes handle old new (inl left) =
    let refused : AppendRefused u me handle error.NoMemory old new = rw (sym (same_error left.1)) at left.2 in
    inl ([], refl, refused-append u me handle error.NoMemory old new refused)
logged-want u me file id at bytes handle old new (inr left) = by (calls-want u me id at bytes left.1 left.0 new left.3.1)
  where
    recorded : Marked me (Logged handle left.1 (update_record_of_file file at bytes) ∷ []) old left.0
    recorded = append-marked u me handle (update_record_of_file file at bytes) left.1 old left.0 left.2

    by : Marked me [] left.0 new ⊎ WantsAt me id left.0 new → Unchanged me old new ⊎ WantsAt me id old new
    by (inl none) =
        inl (Logged handle left.1 (update_record_of_file file at bytes) ∷ [], refl, marked-then me (Logged handle left.1 (update_record_of_file file at bytes) ∷ []) [] old left.0 new recorded none)
    by (inr wants) = inr (earlier me id (Logged handle left.1 (update_record_of_file file at bytes) ∷ []) old left.0 new recorded wants)

told-want : (u : Setup) (me : ℕ) (file : File) (id at : ℕ) (bytes : List ℕ) (log : Option ℕ) (valid : ℕ) (old new : List Entry) → ToldUpdateLeft u me file id at bytes log valid (Err error.NoMemory) old new → Unchanged me old new ⊎ WantsAt me id old new
told-want u me file id at bytes None valid old new left = inl ([], refl, marked-idle me old new left.1)
told-want u me file id at bytes (Some handle) valid old new (inl left) = inl ([], refl, marked-idle me old new left.2)
told-want u me file id at bytes (Some handle) valid old new (inr left) = logged-want u me file id at bytes handle old new left.1

pinned-want : (u : Setup) (me : ℕ) (file : File) (id at : ℕ) (bytes : List ℕ) (old new : List Entry) → PinnedUpdateLeft u me file id at bytes (Err error.NoMemory) old new → Unchanged me old new ⊎ WantsAt me id old new
pinned-want u me file id at bytes old new (inl left) =
    let failed : CallLeft u me (call.Query (query.State file)) (outcome.Failed error.NoMemory) old new = rw (sym (same_error left.1)) at left.2 in
    inl ([], refl, marked-left u me (call.Query (query.State file)) (outcome.Failed error.NoMemory) old new failed)
pinned-want u me file id at bytes old new (inr left) = by (told-want u me file id at bytes left.1.log left.1.sizes.valid left.0 new left.3)
  where
    told : Marked me (told_state file left.1 ∷ []) old left.0
    told = marked-call u me (call.Query (query.State file)) (outcome.Done (reply.Value (value.State left.1))) old left.0 left.2 refl

    by : Unchanged me left.0 new ⊎ WantsAt me id left.0 new → Unchanged me old new ⊎ WantsAt me id old new
    by (inl none) = inl (told_state file left.1 ∷ none.0, none.1, marked-then me (told_state file left.1 ∷ []) none.0 old left.0 new told none.2)
    by (inr wants) = inr (earlier me id (told_state file left.1 ∷ []) old left.0 new told wants)

-- a stretch of the journal parts at a moment at which the stamp wanted memory, and after it the pin ended
pub record StampWants (me : ℕ) (piece old : List Entry) : Type 0 where
  pub id : ℕ
  pub after : List Entry
  pub before : List Entry
  pub split : piece ≡ after ++ before
  pub ended : marks me after ≡ unpinned id ∷ []
  pub wants : owes_nothing id (before ++ old) ≡ true

any-last : (all : List Mark) (id : ℕ) → list_any is_change all ≡ false → list_any is_change (all ++ unpinned id ∷ []) ≡ false
any-last [] id is = refl
any-last (m ∷ all) id is = by (is_change m) is (any-last all id)
  where
    by : (b : Bool) → (b || list_any is_change all) ≡ false → (list_any is_change all ≡ false → list_any is_change (all ++ unpinned id ∷ []) ≡ false) → (b || list_any is_change (all ++ unpinned id ∷ [])) ≡ false
    by true same rest = absurd (cc)
    by false same rest = rest same

pub want-shown : (u : Setup) (me : ℕ) (file : File) (at : ℕ) (bytes : List ℕ) (piece old : List Entry) → UpdateLeft u me file at bytes (Err error.NoMemory) old (piece ++ old) → StampWants me piece old ⊎ (list_any is_change (marks me piece) ≡ false)
want-shown u me file at bytes piece old (inl left) =
    let failed : CallLeft u me (call.PinRead file at (length bytes) true) (outcome.Failed error.NoMemory) old (piece ++ old) = rw (sym (same_error left.1)) at left.2 in
    inr (rw (shows me [] piece old (marked-left u me (call.PinRead file at (length bytes) true) (outcome.Failed error.NoMemory) old (piece ++ old) failed)) refl)
want-shown u me file at bytes piece old (inr left) = by (pinned-want u me file left.0 at bytes left.1 left.2 left.4)
  where
    made : Marked me (pinned_as file at bytes left.0 ∷ []) old left.1
    made = marked-call u me (call.PinRead file at (length bytes) true) (outcome.Done (reply.Hold left.0)) old left.1 left.3 refl

    ended : Marked me (unpinned left.0 ∷ []) left.2 (piece ++ old)
    ended = marked-call u me (call.EndHold left.0) (outcome.Done reply.Unit) left.2 (piece ++ old) left.5 refl

    from : WantsAt me left.0 old left.2 → StampWants me piece old
    from is = record {
      id = left.0;
      after = ended.during ++ is.later;
      before = is.since;
      split = append_cancel_right piece ((ended.during ++ is.later) ++ is.since) old (ended.grew ∙ (ap (λ l. ended.during ++ l) is.grew ∙ (sym (append_assoc ended.during is.later (is.since ++ old)) ∙ sym (append_assoc (ended.during ++ is.later) is.since old))));
      ended = marks-append me ended.during is.later ∙ rw (is.none, ended.same) refl;
      wants = is.wants;
    }

    by : Unchanged me left.1 left.2 ⊎ WantsAt me left.0 left.1 left.2 → StampWants me piece old ⊎ (list_any is_change (marks me piece) ≡ false)
    by (inl none) =
        let whole = marked-then me (pinned_as file at bytes left.0 ∷ none.0) (unpinned left.0 ∷ []) old left.2 (piece ++ old) (marked-then me (pinned_as file at bytes left.0 ∷ []) none.0 old left.1 left.2 made none.2) ended in
        inr (rw (shows me (pinned_as file at bytes left.0 ∷ (none.0 ++ unpinned left.0 ∷ [])) piece old whole) (any-last none.0 left.0 none.1))
    by (inr wants) = inl (from (earlier me left.0 (pinned_as file at bytes left.0 ∷ []) old left.1 left.2 made wants))

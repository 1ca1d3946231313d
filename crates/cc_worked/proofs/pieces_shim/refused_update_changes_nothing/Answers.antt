-- The pin and its end, with the question between; a wrong one by the calls that it shows.
use Rattle.std.specs.Prelude.{◌≡◌, ℕ, ◌+◌, ◌<◌, ◌^◌, false, true, List, [], ◌∷◌, ◌++◌, length, Ok, Err, refl}
use Rattle.std.specs.List.{list_any}
use Rattle.std.specs.declared.option.Option.TheVariants.{Some}
use Rattle.std.proofs.Common.{arith, inl, inr, ap}
use Rattle.std.proofs.lemmas.List.{length-append}
use Rattle.cc_entry.specs.declared.place.FileState.{FileState}
use Rattle.cc_entry.specs.declared.call.Call.TheVariants as call
use Rattle.cc_entry.specs.declared.query.Query.TheVariants as query
use Rattle.cc_entry.specs.declared.error.CcError.{CcError}
use Rattle.cc_entry.specs.declared.error.CcError.TheVariants as error
use Rattle.cc_entry.specs.declared.reply.Reply.TheVariants as reply
use Rattle.cc_entry.specs.declared.query.Value.TheVariants as value
use Rattle.cc_entry.specs.declared.reply.Outcome.TheVariants as outcome
use Rattle.cc_entry.specs.declared.entry.Entry.{Entry}
use Rattle.cc_entry.specs.declared.entry.Entry.TheVariants as entry
use Rattle.cc_model.specs.Setup.{Setup}
use Rattle.cc_model.specs.Holds.{hold_at, holds_of}
use Rattle.cc_model.specs.Legal.{stream_history}
use Rattle.cc_model.specs.Filing.{serves}
use Rattle.cc_effects.specs.Asked.{is_admitted, reaches}
use Rattle.cc_effects.specs.Calls.{CallLeft}
use Rattle.cc_effects.specs.Refusals.{owes_nothing}
use Rattle.cc_effects.specs.LogCalls.{AppendLeft, AppendRefused}
use Rattle.cc_pieces.specs.Shim.{update_record_of_file}
use Rattle.cc_effects.proofs.Starts.{begins, brings, ends_done, ends_refused, gives_up}
use Rattle.cc_effects.proofs.Stretches.{idle-none}
use Rattle.cc_worked.specs.Values.{setup, a, page, done, answers, read_in}
use Rattle.cc_worked.specs.PiecesReads.{two_pages}
use Rattle.cc_worked.specs.PiecesShim.{logged, logged_state, unlogged_state, pins, pinned_and_asked, its_record, log_fails_pinned, changes, unpins, changes_all_the_same, changes_unstamped, nothing_changes}
use Rattle.cc_worked.proofs.PiecesOpened.{computed, neither, not_so}
use Rattle.cc_worked.proofs.Marks.{Mark, Ended, marks}
use Rattle.cc_worked.proofs.ShimMarks.{told_state}
use Rattle.cc_worked.proofs.StampWants.{is_change, want-shown}
use Rattle.cc_worked.proofs.UpdateMarks.{unpinned, AfterAsked, UnderPin, refused-update-shown, under-pin, after-question}
use Rattle.cc_worked.proofs.StateAsked.{state-told}
use Rattle.cc_worked.proofs.pieces_shim.refused_update_changes_nothing.Goals as goal

-- the pin of a range in a page is made, on a past, and ends with nothing between that changes the holds
pinned_on : List Entry → List Entry
pinned_on old = answers 1 1 pins (reply.Hold 1) ∷ read_in 1 0 ∷ old

its_pin : (old : List Entry) → is_admitted pins 0 old ≡ true → reaches pins (page 0) old ≡ true → CallLeft setup 1 pins (outcome.Done (reply.Hold 1)) old (pinned_on old)
unfolding pinned_on
its_pin old admitted reached =
    ends_done 1 1 (Some 0) pins (reply.Hold 1) old (read_in 1 0 ∷ old) (brings 1 pins old old (page 0) true (begins 1 pins old) refl admitted reached) refl (λ during. tt)

asked : (state : FileState) (old : List Entry) → List Entry
unfolding pinned_on
asked state old = answers 1 2 (call.Query (query.State a)) (reply.Value (value.State state)) ∷ pinned_on old

its_end : (old : List Entry) → serves 1 (λ its_kind. true) (hold_at (holds_of (stream_history old (Some 0))) 1) ≡ true → CallLeft setup 1 (call.EndHold 1) (outcome.Done reply.Unit) old (done 1 3 (call.EndHold 1) ∷ old)
its_end old serving =
    ends_done 1 3 (Some 0) (call.EndHold 1) reply.Unit old old (begins 1 (call.EndHold 1) old) serving (λ during. tt)

pub returns-clause-no_log : goal.returns-clause-no_log
unfolding computed pinned_on asked
returns-clause-no_log c =
    let told = asked unlogged_state two_pages in
    inr (
      1,
      pinned_on two_pages,
      told,
      its_pin two_pages refl refl,
      inr (told, unlogged_state, state-told 2 unlogged_state (pinned_on two_pages), (inl refl, idle-none 1 told)),
      its_end told refl,
    )

pub returns-clause-behind_valid : goal.returns-clause-behind_valid
unfolding computed
returns-clause-behind_valid c =
    let its = call.PinRead a 4097 1 true in
    let pinned = answers 1 1 its (reply.Hold 1) ∷ entry.PageIn 1 (page 1) false ∷ logged 4096 in
    let told = answers 1 2 (call.Query (query.State a)) (reply.Value (value.State (logged_state 4096))) ∷ pinned in
    inr (
      1,
      pinned,
      told,
      ends_done 1 1 (Some 0) its (reply.Hold 1) (logged 4096) (entry.PageIn 1 (page 1) false ∷ logged 4096) (brings 1 its (logged 4096) (logged 4096) (page 1) false (begins 1 its (logged 4096)) refl refl refl) refl (λ during. tt),
      inr (told, logged_state 4096, state-told 2 (logged_state 4096) pinned, inl (omega arith, inl refl, idle-none 1 told)),
      its_end told refl,
    )

pub returns-clause-log_failed : goal.returns-clause-log_failed
unfolding computed pinned_on asked
returns-clause-log_failed c =
    let told = asked (logged_state 8192) (logged 8192) in
    let below : 0 < 2 ^ 62 = omega arith in
    let append : AppendLeft setup 1 0 (update_record_of_file a 258 (171 ∷ [])) (Err (error.LogFault 0)) told (entry.LogFailed 1 0 ∷ told) = (refl, record { moment = told; later = entry.LogFailed 1 0 ∷ []; since = []; ends = refl; begins = refl; holds = below }, (omega arith, record { later = []; earlier = []; grew = refl; is_own = refl; quiet_after = tt; quiet_before = tt })) in
    inr (
      1,
      pinned_on (logged 8192),
      entry.LogFailed 1 0 ∷ told,
      its_pin (logged 8192) refl refl,
      inr (told, logged_state 8192, state-told 2 (logged_state 8192) (pinned_on (logged 8192)), inr (omega arith, inl (error.LogFault 0, refl, append))),
      its_end (entry.LogFailed 1 0 ∷ told) refl,
    )

pub returns-clause-no_memory : goal.returns-clause-no_memory
unfolding computed pinned_on asked
returns-clause-no_memory c =
    let told = asked (logged_state 8192) (logged 8192) in
    let recorded = entry.Append 1 0 1 its_record ∷ told in
    let change = call.PinnedWrite 1 258 (171 ∷ []) in
    let append : AppendLeft setup 1 0 (update_record_of_file a 258 (171 ∷ [])) (Ok 1) told recorded = (omega arith, record { later = []; earlier = []; grew = refl; is_own = refl; quiet_after = tt; quiet_before = tt }) in
    inr (
      1,
      pinned_on (logged 8192),
      recorded,
      its_pin (logged 8192) refl refl,
      inr (told, logged_state 8192, state-told 2 (logged_state 8192) (pinned_on (logged 8192)), inr (omega arith, inr (recorded, 1, append, (tt, inl (gives_up 1 change error.NoMemory recorded recorded (begins 1 change recorded) refl refl))))),
      its_end recorded refl,
    )

pub returns-clause-pin_refused : goal.returns-clause-pin_refused
unfolding computed
returns-clause-pin_refused c =
    inl (error.Busy 1, refl, inl (ends_refused 1 1 (Some 0) pins (error.Busy 1) (logged 8192) (logged 8192) (begins 1 pins (logged 8192)) refl refl))

-- where there is a log and the place is valid, the update is not refused before its append
not_before : (e : CcError) (its : ℕ) → ((u : Setup) (me : ℕ) (old new : List Entry) → AppendRefused u me 0 e old new → ⊥) → UnderPin a its 258 (171 ∷ []) e (told_state a (logged_state 8192) ∷ []) → ⊥
not_before e its appends under = by (after-question a its 258 (171 ∷ []) e (logged_state 8192) [] under)
  where
    by : AfterAsked a its 258 (171 ∷ []) e (Some 0) 8192 [] → ⊥
    by (inl behind) = let over : 8192 < 258 = behind.1 in omega (arith, over)
    by (inr (inl refused)) = appends refused.1.0 refused.1.1 refused.1.2 refused.1.3 refused.1.4
    by (inr (inr recorded)) = absurd (cc (recorded.2))

pub returns-clause-there_is_a_log : goal.returns-clause-there_is_a_log
returns-clause-there_is_a_log c left =
    let shown = under-pin a 258 (171 ∷ []) (error.NoLog 255) 1 (told_state a (logged_state 8192) ∷ []) (unpinned 1) (refused-update-shown setup 1 a 258 (171 ∷ []) (error.NoLog 255) (nothing_changes (logged_state 8192)) (logged 8192) left) in
    not_before (error.NoLog 255) shown.0 (λ u me old new refused. let same : ◌≡◌ {A = ℕ} 255 0 = refused.0 in omega (arith, same)) shown.2

pub returns-clause-not_behind_valid : goal.returns-clause-not_behind_valid
returns-clause-not_behind_valid c left =
    let shown = under-pin a 258 (171 ∷ []) (error.BeyondValid 8192) 1 (told_state a (logged_state 8192) ∷ []) (unpinned 1) (refused-update-shown setup 1 a 258 (171 ∷ []) (error.BeyondValid 8192) (nothing_changes (logged_state 8192)) (logged 8192) left) in
    not_before (error.BeyondValid 8192) shown.0 (λ u me old new refused. refused) shown.2

pub returns-clause-let_go : goal.returns-clause-let_go
returns-clause-let_go c left =
    let shown = under-pin a 258 (171 ∷ []) (error.LogFault 0) 1 [] (told_state a (logged_state 8192)) (refused-update-shown setup 1 a 258 (171 ∷ []) (error.LogFault 0) log_fails_pinned (logged 8192) left) in
    other shown.0 shown.1
  where
    other : (id : ℕ) → told_state a (logged_state 8192) ≡ unpinned id → ⊥
    other id same = absurd (cc)

pub returns-clause-not_changed : goal.returns-clause-not_changed
returns-clause-not_changed c left =
    let change = Ended (call.PinnedWrite 1 258 (171 ∷ [])) (outcome.Done reply.Unit) in
    let shown = under-pin a 258 (171 ∷ []) (error.LogFault 0) 1 (told_state a (logged_state 8192) ∷ change ∷ []) (unpinned 1) (refused-update-shown setup 1 a 258 (171 ∷ []) (error.LogFault 0) changes_all_the_same (logged 8192) left) in
    by shown.0 (after-question a shown.0 258 (171 ∷ []) (error.LogFault 0) (logged_state 8192) (change ∷ []) shown.2)
  where
    by : (id : ℕ) → AfterAsked a id 258 (171 ∷ []) (error.LogFault 0) (Some 0) 8192 (Ended (call.PinnedWrite 1 258 (171 ∷ [])) (outcome.Done reply.Unit) ∷ []) → ⊥
    by id (inl behind) = absurd (cc (behind.0))
    by id (inr (inl refused)) = absurd (cc (refused.0))
    by id (inr (inr recorded)) = absurd (cc (recorded.2))

-- what stands after the moment is the end of the pin, and at the moment the change is there
unstamped : (after before : List Entry) (id : ℕ) → changes_unstamped ≡ after ++ before → marks 1 after ≡ unpinned id ∷ [] → owes_nothing id (before ++ logged 8192) ≡ true → ⊥
unfolding computed
unstamped [] before id split ended wants = absurd (cc)
unstamped (x ∷ []) before id split ended wants = owes id (rw rest at wants) its
  where
    rest : before ≡ changes 3 ∷ entry.Append 1 0 1 its_record ∷ (pinned_and_asked (logged_state 8192))
    rest = cc

    first : x ≡ unpins 4
    first = cc

    its : unpinned 1 ≡ unpinned id
    its = let same : unpinned 1 ∷ [] ≡ unpinned id ∷ [] = rw first at ended in cc

    owes : (id : ℕ) → owes_nothing id (changes 3 ∷ entry.Append 1 0 1 its_record ∷ (pinned_and_asked (logged_state 8192) ++ logged 8192)) ≡ true → unpinned 1 ≡ unpinned id → ⊥
    owes id wants same =
        let one : id ≡ 1 = cc in
        not_so (rw one at wants)
unstamped (x ∷ y ∷ after) before id split ended wants =
    let first : x ≡ unpins 4 = cc in
    let second : y ≡ changes 3 = cc in
    let both : (marks 1 after ++ change ∷ []) ++ unpinned 1 ∷ [] ≡ unpinned id ∷ [] = rw (first, second) at ended in
    let long : length ((marks 1 after ++ change ∷ []) ++ unpinned 1 ∷ []) ≡ 1 = ap length both in
    let inner : length (marks 1 after ++ change ∷ []) ≡ length (marks 1 after) + 1 = length-append (marks 1 after) (change ∷ []) in
    let outer : length ((marks 1 after ++ change ∷ []) ++ unpinned 1 ∷ []) ≡ length (marks 1 after ++ change ∷ []) + 1 = length-append (marks 1 after ++ change ∷ []) (unpinned 1 ∷ []) in
    omega (arith, long, inner, outer)
  where
    change : Mark
    change = Ended (call.PinnedWrite 1 258 (171 ∷ [])) (outcome.Done reply.Unit)

pub returns-clause-not_unstamped : goal.returns-clause-not_unstamped
returns-clause-not_unstamped c left =
    neither (λ is. unstamped is.after is.before is.id is.split is.ended is.wants) changed (want-shown setup 1 a 258 (171 ∷ []) changes_unstamped (logged 8192) left)
  where
    changed : list_any is_change (marks 1 changes_unstamped) ≡ false → ⊥
    changed same = absurd (cc)

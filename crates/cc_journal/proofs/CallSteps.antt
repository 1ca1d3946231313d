-- How what is kept of the calls of each pass steps.
use Rattle.std.specs.Prelude.{◌≡◌, ℕ, suc, ◌+◌, ◌≤◌, nat_eq, cond, Bool, true, false, List, [], ◌∷◌, length, Option, Some, refl}
use Rattle.std.specs.Map.{lookup}
use Rattle.std.proofs.Common.{ap, sym, ◌∙◌, arith}
use Rattle.std.proofs.lemmas.Bool.{eqb-true}
use Rattle.cc_entry.specs.declared.call.Call.{Call}
use Rattle.cc_entry.specs.declared.entry.Entry.{Entry}
use Rattle.cc_entry.specs.declared.entry.Entry.TheVariants as entry
use Rattle.cc_entry.specs.declared.reply.Outcome.{Outcome}
use Rattle.cc_model.specs.Passes.{calls_of, is_call_of, is_store, up_to_call}
use Rattle.cc_laws.proofs.PassSteps.{calls_of-call, calls_of-other, up_to_call-call, up_to_call-other}
use Rattle.cc_journal.specs.Calls.{CountsCalls, call_count_in, call_count, ends_in_store, owes_in, owes_store, owing}
use Rattle.cc_journal.specs.declared.calls.PassCalls.{PassCalls}

-- no call has ended in an empty past
pub counts_none : (counts : List (ℕ × PassCalls)) → counts ≡ [] → CountsCalls [] counts
unfolding calls_of up_to_call
counts_none counts is = record { count = λ pass. rw is refl; owes = λ pass. rw is refl }

-- the count of the pass of a call after it, and what it owes then
abbrev pub after_call : List (ℕ × PassCalls) → ℕ → Bool → PassCalls
after_call old pass stores = record { count = call_count_in old pass + 1; owes = stores }

-- what is kept of a pass after a call of one
abbrev pub IsKept : List (ℕ × PassCalls) → List (ℕ × PassCalls) → ℕ → Bool → Type 0
IsKept old new pass stores =
    (q : ℕ) → lookup (nat_eq q) new ≡ cond (nat_eq pass q) (Some (after_call old pass stores)) (lookup (nat_eq q) old)

-- a call of a pass raises its count, says what it owes, and changes no other
pub counts_call : (old new : List (ℕ × PassCalls)) (pass nth : ℕ) (stream : Option ℕ) (call : Call) (ended : Outcome) (past : List Entry) → IsKept old new pass (is_store call ended) → CountsCalls past old → CountsCalls (entry.Call pass nth stream call ended ∷ past) new
counts_call old new pass nth stream call ended past is stood = record { count = λ q. go q (nat_eq pass q) refl; owes = λ q. owe q (nat_eq pass q) refl }
  where
    kept : (q : ℕ) (b : Bool) → nat_eq pass q ≡ b → lookup (nat_eq q) new ≡ cond b (Some (after_call old pass (is_store call ended))) (lookup (nat_eq q) old)
    kept q b same = is q ∙ ap (λ (b : Bool). cond b (Some (after_call old pass (is_store call ended))) (lookup (nat_eq q) old)) same

    go : (q : ℕ) (b : Bool) → nat_eq pass q ≡ b → call_count_in new q ≡ calls_of (entry.Call pass nth stream call ended ∷ past) q
    go q true same =
        ap call_count (kept q true same)
        ∙ (omega (arith, stood.count pass) ∙ (ap (λ (n : ℕ). suc (calls_of past n)) (eqb-true pass q same) ∙ sym (calls_of-call pass nth stream call ended past q same)))
    go q false other = ap call_count (kept q false other) ∙ (stood.count q ∙ sym (calls_of-other (entry.Call pass nth stream call ended) past q other))

    owe : (q : ℕ) (b : Bool) → nat_eq pass q ≡ b → owes_in new q ≡ owes_store (entry.Call pass nth stream call ended ∷ past) q
    owe q true same = ap owing (kept q true same) ∙ sym (ap ends_in_store (up_to_call-call pass nth stream call ended past q same))
    owe q false other =
        ap owing (kept q false other)
        ∙ (stood.owes q ∙ sym (ap ends_in_store (up_to_call-other (entry.Call pass nth stream call ended) past q other)))

-- another entry leaves them
pub counts_other : (counts : List (ℕ × PassCalls)) (e : Entry) (past : List Entry) → ((q : ℕ) → is_call_of q e ≡ false) → CountsCalls past counts → CountsCalls (e ∷ past) counts
counts_other counts e past none stood = record {
  count = λ q. stood.count q ∙ sym (calls_of-other e past q (none q));
  owes = λ q. stood.owes q ∙ sym (ap ends_in_store (up_to_call-other e past q (none q)));
}

-- a pass has ended at most as many calls as there are entries
pub calls_within : (past : List Entry) (me : ℕ) → calls_of past me ≤ length past
unfolding calls_of
calls_within [] me = omega arith
calls_within (e ∷ past) me = go (calls_within past me) (is_call_of me e) refl
  where
    go : calls_of past me ≤ length past → (b : Bool) → is_call_of me e ≡ b → calls_of (e ∷ past) me ≤ length (e ∷ past)
    go within true is = rw is (omega (arith, within))
    go within false is = rw is (omega (arith, within))

-- an entry that is no call
pub counts_none_ended : (counts : List (ℕ × PassCalls)) (e : Entry) (past : List Entry) → ((pass nth : ℕ) (stream : Option ℕ) (call : Call) (ended : Outcome) → e ≡ entry.Call pass nth stream call ended → ⊥) → CountsCalls past counts → CountsCalls (e ∷ past) counts
counts_none_ended counts e past other stood = counts_other counts e past (λ q. no_call e q other) stood
  where
    no_call : (e : Entry) (q : ℕ) → ((pass nth : ℕ) (stream : Option ℕ) (call : Call) (ended : Outcome) → e ≡ entry.Call pass nth stream call ended → ⊥) → is_call_of q e ≡ false
    no_call (entry.Call pass nth stream call ended) q other = absurd (other pass nth stream call ended refl)
    no_call (entry.PageIn pass page from_disk) q other = refl
    no_call (entry.PageOut pass page) q other = refl
    no_call (entry.FillFailed pass page) q other = refl
    no_call (entry.WriteBegin pass page) q other = refl
    no_call (entry.WriteEnd pass page how) q other = refl
    no_call (entry.Sync pass stream how) q other = refl
    no_call (entry.Append pass handle lsn bytes) q other = refl
    no_call (entry.Flushed pass handle to) q other = refl
    no_call (entry.LogFailed pass handle) q other = refl
    no_call (entry.Defer pass id file pages retrying) q other = refl
    no_call (entry.Posted id) q other = refl
    no_call (entry.Scan pass picked) q other = refl
    no_call (entry.Record pass stream size valid how) q other = refl
    no_call (entry.RecordFailed pass stream) q other = refl
    no_call (entry.Locked pass file span exclusive granted id) q other = refl
    no_call (entry.Unlocked pass file id gone) q other = refl
    no_call (entry.Tested pass file span write conflict) q other = refl

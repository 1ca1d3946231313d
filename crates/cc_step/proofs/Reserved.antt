-- What the past owes after the entry of a call that changes no hold: as before, but for the end of a noncached write of
-- its pass.
use Rattle.std.specs.Prelude.{◌≡◌, ℕ, suc, ◌+◌, ◌≤◌, Bool, true, false, ◌||◌, ◌==◌, List, [], ◌∷◌, Option, Some, refl, if◌then◌else◌}
use Rattle.std.proofs.Common.{ap, sym, ◌∙◌, subst, arith}
use Rattle.std.proofs.lemmas.Bool.{eqb-true, eq-eqb}
use Rattle.std.specs.List.{sum_by}
use Rattle.std.proofs.lemmas.List.Sums.{sum_by-cons}
use Rattle.cc_entry.specs.declared.call.Call.{Call}
use Rattle.cc_entry.specs.declared.call.Call.TheVariants as call
use Rattle.cc_entry.specs.declared.entry.Entry.{Entry}
use Rattle.cc_entry.specs.declared.entry.Entry.TheVariants as entry
use Rattle.cc_entry.specs.declared.error.CcError.{CcError}
use Rattle.cc_entry.specs.declared.reply.Outcome.{Outcome}
use Rattle.cc_entry.specs.declared.reply.Outcome.TheVariants as outcome
use Rattle.cc_entry.specs.declared.reply.Reply.{Reply}
use Rattle.cc_laws.proofs.HoldSteps.{changes_holds, holds_of-other}
use Rattle.cc_laws.proofs.HistorySteps.{history-done, history-no_effect}
use Rattle.cc_laws.proofs.ImageSteps.{open_of-done}
use Rattle.cc_laws.proofs.PassSteps.{up_to_call-call, up_to_call-other}
use Rattle.cc_model.specs.Cache.{all_streams}
use Rattle.cc_model.specs.History.{history}
use Rattle.cc_model.specs.Numbers.{is_among}
use Rattle.cc_model.specs.Passes.{is_store, up_to_call}
use Rattle.cc_model.specs.Room.{owed_by_stream, stores_unfinished, reserved_in}
use Rattle.cc_journal.specs.Calls.{ends_in_store, owed_end}
use Rattle.cc_step.specs.Step.{is_answered}

none-more : (n : ℕ) → 0 + n ≡ n
none-more n = omega arith

-- the call of a pass that was passed over, and of one that was not
stores-seen : (pass nth : ℕ) (stream : Option ℕ) (it : Call) (ended : Outcome) (past : List Entry) (seen : List ℕ) → is_among pass seen ≡ true → stores_unfinished seen (entry.Call pass nth stream it ended ∷ past) ≡ stores_unfinished seen past
unfolding stores_unfinished
stores-seen pass nth stream it ended past seen there = rw (there, stores_unfinished) refl

stores-new : (pass nth : ℕ) (stream : Option ℕ) (it : Call) (ended : Outcome) (past : List Entry) (seen : List ℕ) → is_among pass seen ≡ false → stores_unfinished seen (entry.Call pass nth stream it ended ∷ past) ≡ (if is_store it ended then 1 else 0) + stores_unfinished (pass ∷ seen) past
unfolding stores_unfinished
stores-new pass nth stream it ended past seen away = rw (away, stores_unfinished) refl

-- two lists of passes that have the same ones leave the same stores unfinished
same-stores : (past : List Entry) (seen other : List ℕ) → ((n : ℕ) → is_among n other ≡ is_among n seen) → stores_unfinished seen past ≡ stores_unfinished other past
unfolding stores_unfinished
same-stores [] seen other same = refl
same-stores (entry.Call pass nth stream it ended ∷ past) seen other same = go (is_among pass seen) refl (same-stores past seen other same) (same-stores past (pass ∷ seen) (pass ∷ other) (λ n. ap (λ b. (pass == n) || b) (same n)))
  where
    go : (b : Bool) → is_among pass seen ≡ b → stores_unfinished seen past ≡ stores_unfinished other past → stores_unfinished (pass ∷ seen) past ≡ stores_unfinished (pass ∷ other) past → stores_unfinished seen (entry.Call pass nth stream it ended ∷ past) ≡ stores_unfinished other (entry.Call pass nth stream it ended ∷ past)
    go true is rest more = stores-seen pass nth stream it ended past seen is ∙ rest ∙ sym (stores-seen pass nth stream it ended past other (same pass ∙ is))
    go false is rest more = stores-new pass nth stream it ended past seen is ∙ ap (λ n. (if is_store it ended then 1 else 0) + n) more ∙ sym (stores-new pass nth stream it ended past other (same pass ∙ is))
same-stores (entry.PageIn pass page from_disk ∷ past) seen other same = same-stores past seen other same
same-stores (entry.PageOut pass page ∷ past) seen other same = same-stores past seen other same
same-stores (entry.FillFailed pass page ∷ past) seen other same = same-stores past seen other same
same-stores (entry.WriteBegin pass page ∷ past) seen other same = same-stores past seen other same
same-stores (entry.WriteEnd pass page how ∷ past) seen other same = same-stores past seen other same
same-stores (entry.Sync pass stream how ∷ past) seen other same = same-stores past seen other same
same-stores (entry.Append pass handle lsn bytes ∷ past) seen other same = same-stores past seen other same
same-stores (entry.Flushed pass handle to ∷ past) seen other same = same-stores past seen other same
same-stores (entry.LogFailed pass handle ∷ past) seen other same = same-stores past seen other same
same-stores (entry.Defer pass id file pages retrying ∷ past) seen other same = same-stores past seen other same
same-stores (entry.Posted id ∷ past) seen other same = same-stores past seen other same
same-stores (entry.Scan pass picked ∷ past) seen other same = same-stores past seen other same
same-stores (entry.Record pass stream size valid how ∷ past) seen other same = same-stores past seen other same
same-stores (entry.RecordFailed pass stream ∷ past) seen other same = same-stores past seen other same
same-stores (entry.Locked pass file span exclusive granted id ∷ past) seen other same = same-stores past seen other same
same-stores (entry.Unlocked pass file id gone ∷ past) seen other same = same-stores past seen other same
same-stores (entry.Tested pass file span write conflict ∷ past) seen other same = same-stores past seen other same

swap : (a b n : ℕ) → a + (b + n) ≡ b + (a + n)
swap a b n = omega arith

among-more : (n : ℕ) (seen other : List ℕ) (me : ℕ) → is_among n other ≡ ((me == n) || is_among n seen) → is_among n seen ≡ true → is_among n other ≡ true
among-more n seen other me is there = is ∙ rw there (at-end (me == n))
  where
    at-end : (a : Bool) → (a || true) ≡ true
    at-end true = refl
    at-end false = refl

swapped : (pass n : ℕ) (seen other : List ℕ) (me : ℕ) → is_among n other ≡ ((me == n) || is_among n seen) → ((pass == n) || is_among n other) ≡ ((me == n) || ((pass == n) || is_among n seen))
swapped pass n seen other me is = rw is (turn (pass == n) (me == n) (is_among n seen))
  where
    turn : (a b c : Bool) → (a || (b || c)) ≡ (b || (a || c))
    turn true true c = refl
    turn true false c = refl
    turn false true c = refl
    turn false false c = refl

-- what a pass owes after a call of its own, and of another
owed-own : (pass nth : ℕ) (stream : Option ℕ) (it : Call) (ended : Outcome) (past : List Entry) (me : ℕ) → (pass == me) ≡ true → owed_end (entry.Call pass nth stream it ended ∷ past) me ≡ (if is_store it ended then 1 else 0)
owed-own pass nth stream it ended past me mine = ap (λ b. if b then 1 else 0) (ap ends_in_store (up_to_call-call pass nth stream it ended past me mine))

owed-other : (pass nth : ℕ) (stream : Option ℕ) (it : Call) (ended : Outcome) (past : List Entry) (me : ℕ) → (pass == me) ≡ false → owed_end (entry.Call pass nth stream it ended ∷ past) me ≡ owed_end past me
owed-other pass nth stream it ended past me yours = ap (λ b. if b then 1 else 0) (ap ends_in_store (up_to_call-other (entry.Call pass nth stream it ended) past me yours))

-- a pass that is passed over takes what it owes with it
skip : (past : List Entry) (me : ℕ) (seen other : List ℕ) → ((n : ℕ) → is_among n other ≡ ((me == n) || is_among n seen)) → is_among me seen ≡ false → stores_unfinished seen past ≡ owed_end past me + stores_unfinished other past
unfolding stores_unfinished up_to_call
skip [] me seen other same out = refl
skip (entry.Call pass nth stream it ended ∷ past) me seen other same out =
    go (pass == me) refl (is_among pass seen) refl (skip past me seen other same out)
    (λ not_me. skip past me (pass ∷ seen) (pass ∷ other) (λ n. swapped pass n seen other me (same n)) (rw (not_me, out) refl))
  where
    go : (b : Bool) → (pass == me) ≡ b → (t : Bool) → is_among pass seen ≡ t → stores_unfinished seen past ≡ owed_end past me + stores_unfinished other past → ((pass == me) ≡ false → stores_unfinished (pass ∷ seen) past ≡ owed_end past me + stores_unfinished (pass ∷ other) past) → stores_unfinished seen (entry.Call pass nth stream it ended ∷ past) ≡ owed_end (entry.Call pass nth stream it ended ∷ past) me + stores_unfinished other (entry.Call pass nth stream it ended ∷ past)
    go true mine true there rest more = absurd (clash (subst (λ (k : ℕ). is_among k seen ≡ true) (eqb-true pass me mine) there) out)
      where
        clash : {b : Bool} → b ≡ true → b ≡ false → ⊥
        clash t f = absurd (cc)
    go true mine false away rest more =
        let here : is_among pass other ≡ true = same pass ∙ rw (eq-eqb me pass (sym (eqb-true pass me mine))) refl in
        stores-new pass nth stream it ended past seen away
        ∙ (ap (λ n. (if is_store it ended then 1 else 0) + n) (same-stores past (pass ∷ seen) other (λ n. same n ∙ ap (λ p. (p == n) || is_among n seen) (sym (eqb-true pass me mine))))
        ∙ sym (ap (λ n. n + stores_unfinished other (entry.Call pass nth stream it ended ∷ past)) (owed-own pass nth stream it ended past me mine)
        ∙ ap (λ n. (if is_store it ended then 1 else 0) + n) (stores-seen pass nth stream it ended past other here)))
    go false yours true there rest more =
        stores-seen pass nth stream it ended past seen there
        ∙ (rest
        ∙ sym (ap (λ n. n + stores_unfinished other (entry.Call pass nth stream it ended ∷ past)) (owed-other pass nth stream it ended past me yours)
        ∙ ap (λ n. owed_end past me + n) (stores-seen pass nth stream it ended past other (among-more pass seen other me (same pass) there))))
    go false yours false away rest more =
        let here : is_among pass other ≡ false = same pass ∙ rw (away, differs) refl in
        stores-new pass nth stream it ended past seen away
        ∙ (ap (λ n. (if is_store it ended then 1 else 0) + n) (more yours)
        ∙ (swap (if is_store it ended then 1 else 0) (owed_end past me) (stores_unfinished (pass ∷ other) past)
        ∙ sym (ap (λ n. n + stores_unfinished other (entry.Call pass nth stream it ended ∷ past)) (owed-other pass nth stream it ended past me yours)
        ∙ ap (λ n. owed_end past me + n) (stores-new pass nth stream it ended past other here))))
      where
        differs : (me == pass) ≡ false
        differs = by (me == pass) refl
          where
            by : (a : Bool) → (me == pass) ≡ a → (me == pass) ≡ false
            by true is = absurd (clash (eq-eqb pass me (sym (eqb-true me pass is))) yours)
              where
                clash : (pass == me) ≡ true → (pass == me) ≡ false → ⊥
                clash t f = absurd (cc)
            by false is = is
skip (entry.PageIn pass page from_disk ∷ past) me seen other same out = skip past me seen other same out
skip (entry.PageOut pass page ∷ past) me seen other same out = skip past me seen other same out
skip (entry.FillFailed pass page ∷ past) me seen other same out = skip past me seen other same out
skip (entry.WriteBegin pass page ∷ past) me seen other same out = skip past me seen other same out
skip (entry.WriteEnd pass page how ∷ past) me seen other same out = skip past me seen other same out
skip (entry.Sync pass stream how ∷ past) me seen other same out = skip past me seen other same out
skip (entry.Append pass handle lsn bytes ∷ past) me seen other same out = skip past me seen other same out
skip (entry.Flushed pass handle to ∷ past) me seen other same out = skip past me seen other same out
skip (entry.LogFailed pass handle ∷ past) me seen other same out = skip past me seen other same out
skip (entry.Defer pass id file pages retrying ∷ past) me seen other same out = skip past me seen other same out
skip (entry.Posted id ∷ past) me seen other same out = skip past me seen other same out
skip (entry.Scan pass picked ∷ past) me seen other same out = skip past me seen other same out
skip (entry.Record pass stream size valid how ∷ past) me seen other same out = skip past me seen other same out
skip (entry.RecordFailed pass stream ∷ past) me seen other same out = skip past me seen other same out
skip (entry.Locked pass file span exclusive granted id ∷ past) me seen other same out = skip past me seen other same out
skip (entry.Unlocked pass file id gone ∷ past) me seen other same out = skip past me seen other same out
skip (entry.Tested pass file span write conflict ∷ past) me seen other same out = skip past me seen other same out

-- sums over the same terms are the same
pub sum-same : (f g : ℕ → ℕ) (ns : List ℕ) → ((n : ℕ) → f n ≡ g n) → sum_by f ns ≡ sum_by g ns
sum-same f g [] same = refl
sum-same f g (n ∷ ns) same = sum_by-cons f n ns ∙ rw (same n, sum-same f g ns same) (sym (sum_by-cons g n ns))

-- what a stream owes after an entry that changes neither its holds nor its transfer
owed-done : (past : List Entry) (pass nth stream s : ℕ) (it : Call) (r : Reply) → changes_holds it ≡ false → owed_by_stream (history (entry.Call pass nth (Some stream) it (outcome.Done r) ∷ past) s) ≡ owed_by_stream (history past s)
owed-done past pass nth stream s it r kept = go (stream == s) refl
  where
    go : (b : Bool) → (stream == s) ≡ b → owed_by_stream (history (entry.Call pass nth (Some stream) it (outcome.Done r) ∷ past) s) ≡ owed_by_stream (history past s)
    go true here = rw (history-done pass nth stream it r past s here, holds_of-other pass it r (history past s) kept, open_of-done pass it r (history past s)) refl
    go false away = rw (history-no_effect (entry.Call pass nth (Some stream) it (outcome.Done r)) past s (rw away refl)) refl

owed-failed : (past : List Entry) (pass nth stream s : ℕ) (it : Call) (e : CcError) → owed_by_stream (history (entry.Call pass nth (Some stream) it (outcome.Failed e) ∷ past) s) ≡ owed_by_stream (history past s)
owed-failed past pass nth stream s it e = rw (history-no_effect (entry.Call pass nth (Some stream) it (outcome.Failed e)) past s refl) refl

-- the stores that are unfinished after a call that is none, with what its pass owed before
pub stores-call : (past : List Entry) (pass nth : ℕ) (stream : Option ℕ) (it : Call) (ended : Outcome) → is_store it ended ≡ false → owed_end past pass + stores_unfinished [] (entry.Call pass nth stream it ended ∷ past) ≡ stores_unfinished [] past
unfolding stores_unfinished
stores-call past pass nth stream it ended store =
    ap (λ n. owed_end past pass + n) (stores-new pass nth stream it ended past [] refl ∙ rw store (none-more (stores_unfinished (pass ∷ []) past)))
    ∙ sym (skip past pass [] (pass ∷ []) (λ n. refl) refl)

pub no-store : (it : Call) (ended : Outcome) → is_answered it ≡ true → is_store it ended ≡ false
no-store (call.NcStore file page bytes) ended here = absurd (cc)
no-store other ended here = refl

with-stores : (owed sums before stores : ℕ) → owed + stores ≡ before → owed + (sums + stores) ≡ sums + before
with-stores owed sums before stores is = omega (arith, is)

pub reserved-done : (past : List Entry) (pass nth stream : ℕ) (it : Call) (r : Reply) → is_answered it ≡ true → changes_holds it ≡ false → owed_end past pass + reserved_in (entry.Call pass nth (Some stream) it (outcome.Done r) ∷ past) ≡ reserved_in past
unfolding reserved_in
reserved-done past pass nth stream it r here kept =
    rw (sum-same (λ s. owed_by_stream (history (entry.Call pass nth (Some stream) it (outcome.Done r) ∷ past) s)) (λ s. owed_by_stream (history past s)) all_streams (λ s. owed-done past pass nth stream s it r kept))
    (with-stores _ _ _ _ (stores-call past pass nth (Some stream) it (outcome.Done r) (no-store it (outcome.Done r) here)))

pub reserved-failed : (past : List Entry) (pass nth stream : ℕ) (it : Call) (e : CcError) → is_answered it ≡ true → owed_end past pass + reserved_in (entry.Call pass nth (Some stream) it (outcome.Failed e) ∷ past) ≡ reserved_in past
unfolding reserved_in
reserved-failed past pass nth stream it e here =
    rw (sum-same (λ s. owed_by_stream (history (entry.Call pass nth (Some stream) it (outcome.Failed e) ∷ past) s)) (λ s. owed_by_stream (history past s)) all_streams (λ s. owed-failed past pass nth stream s it e))
    (with-stores _ _ _ _ (stores-call past pass nth (Some stream) it (outcome.Failed e) (no-store it (outcome.Failed e) here)))

-- what a pass owes is among what the past owes
pub owed-least : (past : List Entry) (pass : ℕ) → owed_end past pass ≤ reserved_in past
unfolding reserved_in
owed-least past pass = within _ _ _ _ (skip past pass [] (pass ∷ []) (λ n. refl) refl)
  where
    within : (sums stores owed rest : ℕ) → stores ≡ owed + rest → owed ≤ sums + stores
    within sums stores owed rest is = omega (arith, is)

-- The entry of a noncached store that is done reserves that of the write's end.
stores-stored : (past : List Entry) (pass nth : ℕ) (stream : Option ℕ) (it : Call) (ended : Outcome) → is_store it ended ≡ true → owed_end past pass + stores_unfinished [] (entry.Call pass nth stream it ended ∷ past) ≡ suc (stores_unfinished [] past)
stores-stored past pass nth stream it ended store =
    more _ _ _ _ (stores-new pass nth stream it ended past [] refl ∙ rw store refl) (skip past pass [] (pass ∷ []) (λ n. refl) refl)
  where
    more : (owed now rest before : ℕ) → now ≡ 1 + rest → before ≡ owed + rest → owed + now ≡ suc before
    more owed now rest before is was = omega (arith, is, was)

pub reserved-stored : (past : List Entry) (pass nth stream : ℕ) (it : Call) (r : Reply) → is_store it (outcome.Done r) ≡ true → changes_holds it ≡ false → owed_end past pass + reserved_in (entry.Call pass nth (Some stream) it (outcome.Done r) ∷ past) ≡ suc (reserved_in past)
unfolding reserved_in
reserved-stored past pass nth stream it r store kept =
    rw (sum-same (λ s. owed_by_stream (history (entry.Call pass nth (Some stream) it (outcome.Done r) ∷ past) s)) (λ s. owed_by_stream (history past s)) all_streams (λ s. owed-done past pass nth stream s it r kept))
    (with-store _ _ _ _ (stores-stored past pass nth (Some stream) it (outcome.Done r) store))
  where
    with-store : (owed sums now before : ℕ) → owed + now ≡ suc before → owed + (sums + now) ≡ suc (sums + before)
    with-store owed sums now before is = omega (arith, is)

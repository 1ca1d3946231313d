-- Before a page goes to the disk, the log was flushed to the records of all its changes.
use Rattle.std.specs.Prelude.{◌≡◌, ℕ, suc, ◌≤◌, ◌⊎◌, Bool, true, false, ◌==◌, List, [], ◌∷◌, length, refl}
use Rattle.std.specs.List.{cons_option}
use Rattle.std.specs.Option.{option_map}
use Rattle.std.specs.declared.option.Option.{Option}
use Rattle.std.specs.declared.option.Option.TheVariants.{Some, None}
use Rattle.std.proofs.Common.{ap, sym, subst, ◌∙◌, inl, inr, arith}
use Rattle.std.proofs.lemmas.Bool.{eqb-true, eq-eqb}
use Rattle.cc_entry.specs.Pages.{has_page}
use Rattle.cc_entry.specs.declared.call.Call.TheVariants as call
use Rattle.cc_entry.specs.declared.entry.Entry.{Entry}
use Rattle.cc_entry.specs.declared.entry.Entry.TheVariants as entry
use Rattle.cc_entry.specs.declared.reply.Outcome.TheVariants as outcome
use Rattle.cc_entry.specs.declared.reply.Reply.{Reply}
use Rattle.cc_laws.proofs.HistorySteps.{history-effect}
use Rattle.cc_laws.proofs.LogSteps.{flushed_to-entry}
use Rattle.cc_laws.proofs.TouchSteps.{touches-stamps, touches-came_in, touches-went_out, touches-synced, touches-began_other, touches-ended_after}
use Rattle.cc_model.specs.Covered.{FlushedUpTo, IsLogged}
use Rattle.cc_model.specs.Good.{IsGoodSoFar}
use Rattle.cc_model.specs.History.{Effect, Did, CameIn, WentOut, Began, Ended, Synced, effect_of, history}
use Rattle.cc_model.specs.Holds.{Hold, hold_at, holds_of}
use Rattle.cc_model.specs.Logs.{flushed_to}
use Rattle.cc_model.specs.Passes.{is_mine}
use Rattle.cc_model.specs.Settings.{log_of}
use Rattle.cc_model.specs.Setup.{Setup}
use Rattle.cc_model.specs.Sizes.{hold_has}
use Rattle.cc_model.specs.Stamps.{newest_of}
use Rattle.cc_model.specs.Touches.{touches, unwritten}
use Rattle.cc_restart_laws.proofs.Entries.{IsBegin, began-entry, did-entry, good-tail, logged, updated-head, updated-tail}
use Rattle.cc_restart_laws.proofs.Orders.{IsChange, IsChangeBy}
use Rattle.cc_restart_laws.proofs.Records.{held-page, log-stays, owing-of, range_of, recorded-log, unstamped-of}
use Rattle.cc_restart_laws.proofs.Stamped.{has_stamp, stamp-between, stamp-did, stamp-new, stamp-open}
use Rattle.cc_restart_laws.specs.Updates.{UpdateHasWritten, IsStamp, IsUpdated, Updating}

-- A change of a page waits for its set-dirty, or its record is flushed, or its stamp is not yet in a transfer.
abbrev pub IsSafe : ℕ → ℕ → Updating → ℕ → List Entry → Type 0
IsSafe s log it p past = UpdateHasWritten s log it past ⊎ ((it.lsn ≤ flushed_to past log) ⊎ (has_stamp it.lsn (touches true (history past s) p) ≡ true))

-- the stream's log is the one
pub change-log : (s log : ℕ) (it : Updating) (past : List Entry) → IsUpdated s log past → IsChange s log it past → log_of (history past s) ≡ Some log
change-log s log it [] updated is = absurd is
change-log s log it (e ∷ past) updated (inl by) = log-stays s log (e ∷ []) past updated (recorded-log s log it past (updated-tail s log e past updated) by.recorded)
change-log s log it (e ∷ past) updated (inr before) = log-stays s log (e ∷ []) past updated (change-log s log it past (updated-tail s log e past updated) before)

flushed-newest : (past : List Entry) (o : Option ℕ) (log n high : ℕ) (newest : Option ℕ) → o ≡ Some log → newest ≡ Some high → n ≤ high → FlushedUpTo past o newest → n ≤ flushed_to past log
flushed-newest past o log n high newest its greatest le flushed =
    let up : FlushedUpTo past (Some log) (Some high) = subst (λ (x : Option ℕ). FlushedUpTo past (Some log) x) greatest (subst (λ (x : Option ℕ). FlushedUpTo past x newest) its flushed) in
    omega (arith, up)

-- a page that may go to the disk has its stamps flushed
pub stamp-flushed : (past : List Entry) (s log n p : ℕ) → log_of (history past s) ≡ Some log → IsLogged past s p → has_stamp n (touches true (history past s) p) ≡ true → n ≤ flushed_to past log
stamp-flushed past s log n p its may stamped =
    let between = stamp-between n (unwritten (history past s) p) (stamp-open n (history past s) p stamped) in
    let newest : newest_of (history past s) p ≡ Some between.pair.1 = ap (option_map (λ (lsns : ℕ × ℕ). lsns.1)) between.is in
    flushed-newest past (log_of (history past s)) log n between.pair.1 (newest_of (history past s) p) its newest between.greatest may.flushed

pub safe-flushed : (u : Setup) (s log : ℕ) (it : Updating) (p : ℕ) (past : List Entry) → IsGoodSoFar u past → log_of (history past s) ≡ Some log → IsLogged past s p → has_page (range_of it) p ≡ true → IsSafe s log it p past → it.lsn ≤ flushed_to past log
safe-flushed u s log it p past good its may in_range (inl written) = absurd (clash (sym (unstamped-of u s log it past p good written in_range) ∙ may.stamped))
  where
    clash : true ≡ false → ⊥
    clash is = cc
safe-flushed u s log it p past good its may in_range (inr (inl flushed)) = flushed
safe-flushed u s log it p past good its may in_range (inr (inr stamped)) = stamp-flushed past s log it.lsn p its may stamped

more-flushed : (log n : ℕ) (e : Entry) (past : List Entry) → n ≤ flushed_to past log → n ≤ flushed_to (e ∷ past) log
more-flushed log n e past le = let step = flushed_to-entry e past log in omega arith

pub logged-at : (u : Setup) (e : Entry) (past : List Entry) (s pass page p : ℕ) → IsGoodSoFar u (e ∷ past) → IsBegin e s pass page → page ≡ p → IsLogged past s p
logged-at u e past s pass page p good k same =
    subst (λ (n : ℕ). IsLogged past s n) (k.number ∙ same)
    (subst (λ (n : ℕ). IsLogged past n k.place.page) k.stream (logged u past pass k.place (subst (λ (x : Entry). IsGoodSoFar u (x ∷ past)) k.is good)))

-- what is stamped stays so, or is flushed
stamped-step : (u : Setup) (s log n p : ℕ) (e : Entry) (past : List Entry) → IsGoodSoFar u (e ∷ past) → IsUpdated s log (e ∷ past) → log_of (history past s) ≡ Some log →
    has_stamp n (touches true (history past s) p) ≡ true → (o : Option Effect) → effect_of e s ≡ o → (n ≤ flushed_to past log) ⊎ (has_stamp n (touches true (cons_option o (history past s)) p) ≡ true)
stamped-step u s log n p e past good updated its is None effect = inr is
stamped-step u s log n p e past good updated its is (Some (Did pass it reply)) effect =
    let k = did-entry e s pass it reply effect in
    inr (stamp-did u s log past pass k.nth it reply (subst (λ (x : Entry). IsGoodSoFar u (x ∷ past)) k.is good) (subst (λ (x : Entry). IsUpdated s log (x ∷ past)) k.is updated) true n p is)
stamped-step u s log n p e past good updated its is (Some (CameIn pass page from_disk)) effect = inr (ap (has_stamp n) (touches-came_in true pass page from_disk (history past s) p) ∙ is)
stamped-step u s log n p e past good updated its is (Some (WentOut pass page)) effect = inr (ap (has_stamp n) (touches-went_out true pass page (history past s) p) ∙ is)
stamped-step u s log n p e past good updated its is (Some (Began pass page)) effect = go (page == p) refl
  where
    go : (b : Bool) → (page == p) ≡ b → (n ≤ flushed_to past log) ⊎ (has_stamp n (touches true (Began pass page ∷ history past s) p) ≡ true)
    go true same = inl (stamp-flushed past s log n p its (logged-at u e past s pass page p good (began-entry e s pass page effect) (eqb-true page p same)) is)
    go false other = inr (ap (has_stamp n) (touches-began_other true pass page (history past s) p other) ∙ is)
stamped-step u s log n p e past good updated its is (Some (Ended pass page how)) effect = inr (ap (has_stamp n) (touches-ended_after pass page how (history past s) p) ∙ is)
stamped-step u s log n p e past good updated its is (Some (Synced pass how)) effect = inr (ap (has_stamp n) (touches-synced true pass how (history past s) p) ∙ is)

-- the set-dirty of an update stamps the pages of its range
pub stamp-set : (u : Setup) (s log : ℕ) (it : Updating) (p : ℕ) (e : Entry) (past : List Entry) → IsGoodSoFar u past → UpdateHasWritten s log it past → IsStamp s it e → has_page (range_of it) p ≡ true → (ended : Bool) →
    has_stamp it.lsn (touches ended (history (e ∷ past) s) p) ≡ true
stamp-set u s log it p e past good written stamp in_range ended =
    let owing = owing-of u s log it past good written in
    let has : hold_has (hold_at (holds_of (history past s)) it.hold) p ≡ true =
    ap (λ (o : Option Hold). hold_has o p) owing.held.has.found ∙ held-page s it past p owing.held in_range in
    let effect : effect_of e s ≡ Some (Did it.pass (call.SetDirty it.hold (Some it.lsn)) stamp.reply) = ap (λ (x : Entry). effect_of x s) stamp.is ∙ own stamp.nth stamp.reply in
    ap (λ (h : List Effect). has_stamp it.lsn (touches ended h p)) (history-effect e past s (Some (Did it.pass (call.SetDirty it.hold (Some it.lsn)) stamp.reply)) effect)
    ∙ (ap (has_stamp it.lsn) (touches-stamps ended it.pass (call.SetDirty it.hold (Some it.lsn)) stamp.reply (history past s) p refl)
    ∙ stamp-new it.lsn (suc (length (history past s))) (touches ended (history past s) p) (hold_has (hold_at (holds_of (history past s)) it.hold) p) has)
  where
    own : (nth : ℕ) (reply : Reply) → effect_of (entry.Call it.pass nth (Some s) (call.SetDirty it.hold (Some it.lsn)) (outcome.Done reply)) s ≡ Some (Did it.pass (call.SetDirty it.hold (Some it.lsn)) reply)
    own nth reply = rw (eq-eqb s s refl) refl

safe-begun : (s log : ℕ) (it : Updating) (e : Entry) (past : List Entry) → IsChangeBy s log it past e → UpdateHasWritten s log it (e ∷ past)
safe-begun s log it e past by = record {
  nth = by.nth;
  reply = by.reply;
  front = past;
  recorded = by.recorded;
  idle = record { during = []; grew = ap (λ (x : Entry). x ∷ past) by.is; others = tt };
}

written-longer : (s log : ℕ) (it : Updating) (e : Entry) (past : List Entry) → is_mine it.pass e ≡ false → UpdateHasWritten s log it past → UpdateHasWritten s log it (e ∷ past)
written-longer s log it e past other k = record {
  nth = k.nth;
  reply = k.reply;
  front = k.front;
  recorded = k.recorded;
  idle = record { during = e ∷ k.idle.during; grew = ap (λ (l : List Entry). e ∷ l) k.idle.grew; others = (other, k.idle.others) };
}

pub change-safe : (u : Setup) (s log : ℕ) (it : Updating) (p : ℕ) (past : List Entry) → IsGoodSoFar u past → IsUpdated s log past → has_page (range_of it) p ≡ true → IsChange s log it past → IsSafe s log it p past
change-safe u s log it p [] good updated in_range is = absurd is
change-safe u s log it p (e ∷ past) good updated in_range (inl by) = inl (safe-begun s log it e past by)
change-safe u s log it p (e ∷ past) good updated in_range (inr before) = step (change-safe u s log it p past rest earlier in_range before)
  where
    rest : IsGoodSoFar u past
    rest = good-tail u e past good

    earlier : IsUpdated s log past
    earlier = updated-tail s log e past updated

    its : log_of (history past s) ≡ Some log
    its = change-log s log it past earlier before

    same : (n : ℕ) → has_stamp n (touches true (cons_option (effect_of e s) (history past s)) p) ≡ true → has_stamp n (touches true (history (e ∷ past) s) p) ≡ true
    same n is = ap (λ (h : List Effect). has_stamp n (touches true h p)) (history-effect e past s (effect_of e s) refl) ∙ is

    waiting : UpdateHasWritten s log it past → (b : Bool) → is_mine it.pass e ≡ b → IsSafe s log it p (e ∷ past)
    waiting written false other = inl (written-longer s log it e past other written)
    waiting written true mine = inr (inr (stamp-set u s log it p e past rest written ((updated-head s log e past updated).finishes it written mine) in_range true))

    on : (it.lsn ≤ flushed_to past log) ⊎ (has_stamp it.lsn (touches true (cons_option (effect_of e s) (history past s)) p) ≡ true) → IsSafe s log it p (e ∷ past)
    on (inl flushed) = inr (inl (more-flushed log it.lsn e past flushed))
    on (inr stamped) = inr (inr (same it.lsn stamped))

    step : IsSafe s log it p past → IsSafe s log it p (e ∷ past)
    step (inl written) = waiting written (is_mine it.pass e) refl
    step (inr (inl flushed)) = inr (inl (more-flushed log it.lsn e past flushed))
    step (inr (inr stamped)) = on (stamped-step u s log it.lsn p e past good updated its stamped (effect_of e s) refl)

-- at the begin of a page's transfer the log was flushed to the record of each change of it
pub change-flushed : (u : Setup) (s log : ℕ) (it : Updating) (p : ℕ) (past : List Entry) → IsGoodSoFar u past → IsUpdated s log past → IsLogged past s p → has_page (range_of it) p ≡ true → IsChange s log it past →
    it.lsn ≤ flushed_to past log
change-flushed u s log it p past good updated may in_range is =
    safe-flushed u s log it p past good (change-log s log it past updated is) may in_range (change-safe u s log it p past good updated in_range is)

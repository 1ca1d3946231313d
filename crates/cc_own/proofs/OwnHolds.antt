-- A pass's hold stays as it was, but for what its own done calls make of it.
use Rattle.std.specs.Prelude.{◌≡◌, ℕ, Bool, true, false, cond, ◌&&◌, ◌==◌, List, [], ◌∷◌, ◌++◌, length, refl}
use Rattle.std.specs.declared.option.Option.{Option}
use Rattle.std.specs.declared.option.Option.TheVariants.{Some, None}
use Rattle.std.specs.List.{list_any}
use Rattle.std.proofs.Common.{ap, sym, ◌∙◌, inl, inr, subst}
use Rattle.std.proofs.lemmas.Bool.{and_parts, or_parts, eqb-true, eq-eqb}
use Rattle.cc_entry.specs.Place.{File}
use Rattle.cc_entry.specs.declared.hold.HoldKind.{HoldKind}
use Rattle.cc_entry.specs.declared.call.Call.{Call}
use Rattle.cc_entry.specs.declared.call.Call.TheVariants as call
use Rattle.cc_entry.specs.declared.reply.Reply.{Reply}
use Rattle.cc_entry.specs.declared.reply.Outcome.{Outcome}
use Rattle.cc_entry.specs.declared.reply.Outcome.TheVariants as outcome
use Rattle.cc_entry.specs.declared.entry.Entry.{Entry}
use Rattle.cc_entry.specs.declared.entry.Entry.TheVariants as entry
use Rattle.cc_model.specs.Setup.{Setup}
use Rattle.cc_model.specs.History.{history}
use Rattle.cc_model.specs.Acts.{file_of}
use Rattle.cc_model.specs.Holds.{Hold, hold_at, holds_of, id_of}
use Rattle.cc_model.specs.Passes.{is_mine}
use Rattle.cc_model.specs.Filing.{serves, serves_range, IsFiled}
use Rattle.cc_model.specs.Allowed.{IsAllowedSoFar}
use Rattle.cc_model.specs.Good.{IsGoodSoFar}
use Rattle.cc_laws.proofs.RoomPasts.{IsGoodSoFar-before}
use Rattle.cc_effects.specs.Moments.{own, Others}
use Rattle.cc_own.specs.Own.{HasHold, hold_after, changes_it, changes_hold, hold_of_done_call}
use Rattle.cc_own.proofs.FoundHolds.{found-after, after-same, after-pass, made-found, made-pass}
use Rattle.cc_own.proofs.OpenIds.{StepsAt, steps-at, held-done, fresh-id}

-- a pass that serves a call has a hold of it
pub served : (pass : ℕ) (of_kind : HoldKind → Bool) (o : Option Hold) → serves pass of_kind o ≡ true → (hold : Hold) × ((o ≡ Some hold) × (hold.pass ≡ pass))
served pass of_kind None is = absurd (cc)
served pass of_kind (Some hold) is = (hold, (refl, eqb-true hold.pass pass (and_parts (hold.pass == pass) _ is).0))

pub served-range : (pass : ℕ) (of_kind : HoldKind → Bool) (at n : ℕ) (o : Option Hold) → serves_range pass of_kind at n o ≡ true → serves pass of_kind o ≡ true
served-range pass of_kind at n None is = absurd (cc)
served-range pass of_kind at n (Some hold) is = (and_parts (hold.pass == pass && of_kind hold.kind) _ is).0

-- a hold of one pass serves no other
apart : (me pass : ℕ) (of_kind : HoldKind → Bool) (holds : List Hold) (id named : ℕ) (hold : Hold) → hold_at holds id ≡ Some hold → hold.pass ≡ me → (pass == me) ≡ false → serves pass of_kind (hold_at holds named) ≡ true → (named == id) ≡ false
apart me pass of_kind holds id named hold found mine other filed = go (named == id) refl
  where
    go : (b : Bool) → (named == id) ≡ b → b ≡ false
    go false is = refl
    go true is =
        let at_id : serves pass of_kind (hold_at holds id) ≡ true = subst (λ n. serves pass of_kind (hold_at holds n) ≡ true) (eqb-true named id is) filed in
        let at_hold : serves pass of_kind (Some hold) ≡ true = subst (λ o. serves pass of_kind o ≡ true) found at_id in
        let whose : hold.pass ≡ pass = eqb-true hold.pass pass (and_parts (hold.pass == pass) _ at_hold).0 in
        let same : (pass == me) ≡ true = eq-eqb pass me (sym whose ∙ mine) in
        cc

-- a call of another pass changes no hold of this one
pub filed-apart : (me pass : ℕ) (call : Call) (stream : Option ℕ) (file : Option File) (holds : List Hold) (id : ℕ) (hold : Hold) → hold_at holds id ≡ Some hold → hold.pass ≡ me → (pass == me) ≡ false → IsFiled holds pass stream call file → changes_it id call ≡ false
filed-apart me pass (call.PinMapped named exclusive) stream file holds id hold found mine other filed = apart me pass _ holds id named hold found mine other filed
filed-apart me pass (call.PinnedWrite named at bytes) stream file holds id hold found mine other filed =
    apart me pass _ holds id named hold found mine other (served-range pass _ at (length bytes) (hold_at holds named) filed)
filed-apart me pass (call.SetDirty named lsn) stream file holds id hold found mine other filed = apart me pass _ holds id named hold found mine other filed
filed-apart me pass (call.EndHold named) stream file holds id hold found mine other filed = apart me pass _ holds id named hold found mine other filed
filed-apart me pass called stream file holds id hold found mine other filed = refl

pub filed-at : (u : Setup) (pass nth s : ℕ) (call : Call) (ended : Outcome) (past : List Entry) → IsAllowedSoFar u (entry.Call pass nth (Some s) call ended ∷ past) → IsFiled (holds_of (history past s)) pass (Some s) call (file_of call)
unfolding IsAllowedSoFar
filed-at u pass nth s call ended past allowed = allowed.1.filed

-- what a done call under the stream makes of the hold
pub done-changes : (u : Setup) (me s id : ℕ) (hold new : Hold) (pass nth : ℕ) (call : Call) (reply : Reply) (past : List Entry) → IsGoodSoFar u (entry.Call pass nth (Some s) call (outcome.Done reply) ∷ past) → HasHold me s id hold past → hold_after id call hold ≡ Some new → HasHold me s id new (entry.Call pass nth (Some s) call (outcome.Done reply) ∷ past)
done-changes u me s id hold new pass nth call reply past good has after = record {
  found =
      ap (λ holds. hold_at holds id) (held-done pass nth s call reply past)
      ∙ (found-after pass call (id_of reply) (holds_of (history past s)) id hold (fresh-id u past pass nth s s id call reply good.legal (hold, has.found)) has.found
      ∙ after);
  mine = after-pass id call hold new after ∙ has.mine;
}

-- a done call of the pass makes a hold of its own
pub done-makes : (me s nth : ℕ) (call : Call) (reply : Reply) (past : List Entry) (hold : Hold) → hold_of_done_call (id_of reply) me call (holds_of (history past s)) ≡ Some hold → HasHold me s (id_of reply) hold (entry.Call me nth (Some s) call (outcome.Done reply) ∷ past)
done-makes me s nth call reply past hold makes = record {
  found = ap (λ holds. hold_at holds (id_of reply)) (held-done me nth s call reply past) ∙ made-found (id_of reply) me call (holds_of (history past s)) hold makes;
  mine = made-pass (id_of reply) me call (holds_of (history past s)) hold makes;
}

-- an entry that does not change the hold of the id, or is another pass's, leaves it
pub entry-keeps : (u : Setup) (me s id : ℕ) (hold : Hold) (e : Entry) (past : List Entry) → IsGoodSoFar u (e ∷ past) → (is_mine me e && changes_hold id e) ≡ false → HasHold me s id hold past → HasHold me s id hold (e ∷ past)
entry-keeps u me s id hold e past good kept has = by (steps-at s e past)
  where
    call-kept : (pass nth : ℕ) (call : Call) (reply : Reply) → IsGoodSoFar u (entry.Call pass nth (Some s) call (outcome.Done reply) ∷ past) → ((pass == me) && changes_it id call) ≡ false → HasHold me s id hold (entry.Call pass nth (Some s) call (outcome.Done reply) ∷ past)
    call-kept pass nth call reply good kept =
        done-changes u me s id hold hold pass nth call reply past good has (after-same id call hold (go (pass == me) refl kept))
      where
        go : (b : Bool) → (pass == me) ≡ b → (b && changes_it id call) ≡ false → changes_it id call ≡ false
        go true is kept = kept
        go false is kept = filed-apart me pass call (Some s) _ (holds_of (history past s)) id hold has.found has.mine is (filed-at u pass nth s call _ past good.allowed)

    by : StepsAt s e past → HasHold me s id hold (e ∷ past)
    by (inr same) = record { found = ap (λ holds. hold_at holds id) same ∙ has.found; mine = has.mine }
    by (inl done) = subst (λ x. HasHold me s id hold (x ∷ past)) (sym done.is) (call-kept done.pass done.nth done.call done.reply (subst (λ x. IsGoodSoFar u (x ∷ past)) done.is good) (subst (λ x. (is_mine me x && changes_hold id x) ≡ false) done.is kept))

-- so do entries that are none of the pass's, or change no hold of the id
pub all-keep : (u : Setup) (me s id : ℕ) (hold : Hold) (during past : List Entry) → IsGoodSoFar u (during ++ past) → list_any (changes_hold id) (own me during) ≡ false → HasHold me s id hold past → HasHold me s id hold (during ++ past)
all-keep u me s id hold [] past good none has = has
all-keep u me s id hold (e ∷ during) past good none has =
    entry-keeps u me s id hold e (during ++ past) good (first (is_mine me e) none)
    (all-keep u me s id hold during past (IsGoodSoFar-before u (during ++ past) e good) (rest (is_mine me e) none) has)
  where
    first : (b : Bool) → list_any (changes_hold id) (cond b (e ∷ own me during) (own me during)) ≡ false → (b && changes_hold id e) ≡ false
    first true none = (or_parts (changes_hold id e) _ none).0
    first false none = refl

    rest : (b : Bool) → list_any (changes_hold id) (cond b (e ∷ own me during) (own me during)) ≡ false → list_any (changes_hold id) (own me during) ≡ false
    rest true none = (or_parts (changes_hold id e) _ none).1
    rest false none = none

-- one own entry that does not change the hold
pub own-keeps : (u : Setup) (me s id : ℕ) (hold : Hold) (e : Entry) (past : List Entry) → IsGoodSoFar u (e ∷ past) → changes_hold id e ≡ false → HasHold me s id hold past → HasHold me s id hold (e ∷ past)
own-keeps u me s id hold e past good kept has = entry-keeps u me s id hold e past good (by (is_mine me e)) has
  where
    by : (b : Bool) → (b && changes_hold id e) ≡ false
    by true = kept
    by false = refl

pub others-change_none : (me id : ℕ) (later : List Entry) → Others me later → list_any (changes_hold id) (own me later) ≡ false
others-change_none me id [] others = refl
others-change_none me id (e ∷ later) others = rw others.0 (others-change_none me id later others.1)

-- others' entries leave it
pub others-keep : (u : Setup) (me s id : ℕ) (hold : Hold) (later past : List Entry) → IsGoodSoFar u (later ++ past) → Others me later → HasHold me s id hold past → HasHold me s id hold (later ++ past)
others-keep u me s id hold later past good others has = all-keep u me s id hold later past good (others-change_none me id later others) has

-- a hold that serves a pass is found as it was after others' entries
same-found : (u : Setup) (me s named : ℕ) (of_kind : HoldKind → Bool) (later past : List Entry) → IsGoodSoFar u (later ++ past) → Others me later → serves me of_kind (hold_at (holds_of (history past s)) named) ≡ true → hold_at (holds_of (history (later ++ past) s)) named ≡ hold_at (holds_of (history past s)) named
same-found u me s named of_kind later past good others filed =
    let has = served me of_kind (hold_at (holds_of (history past s)) named) filed in
    (others-keep u me s named has.0 later past good others (record { found = has.1.0; mine = has.1.1 })).found ∙ sym has.1.0

grown : (u : Setup) (me s named : ℕ) (of_kind : HoldKind → Bool) (later past : List Entry) → IsGoodSoFar u (later ++ past) → Others me later → serves me of_kind (hold_at (holds_of (history past s)) named) ≡ true → serves me of_kind (hold_at (holds_of (history (later ++ past) s)) named) ≡ true
grown u me s named of_kind later past good others filed = ap (serves me of_kind) (same-found u me s named of_kind later past good others filed) ∙ filed

grown-range : (u : Setup) (me s named : ℕ) (of_kind : HoldKind → Bool) (at n : ℕ) (later past : List Entry) → IsGoodSoFar u (later ++ past) → Others me later → serves_range me of_kind at n (hold_at (holds_of (history past s)) named) ≡ true → serves_range me of_kind at n (hold_at (holds_of (history (later ++ past) s)) named) ≡ true
grown-range u me s named of_kind at n later past good others filed =
    ap (serves_range me of_kind at n) (same-found u me s named of_kind later past good others (served-range me of_kind at n _ filed)) ∙ filed

-- a call that is filed under a stream still is after others' entries
pub filed-grows : (u : Setup) (me s : ℕ) (it : Call) (later past : List Entry) → IsGoodSoFar u (later ++ past) → Others me later → IsFiled (holds_of (history past s)) me (Some s) it (file_of it) → IsFiled (holds_of (history (later ++ past) s)) me (Some s) it (file_of it)
filed-grows u me s (call.PinMapped named exclusive) later past good others filed = grown u me s named _ later past good others filed
filed-grows u me s (call.MappedRead named at len) later past good others filed = grown-range u me s named _ at len later past good others filed
filed-grows u me s (call.PinnedRead named at len) later past good others filed = grown-range u me s named _ at len later past good others filed
filed-grows u me s (call.PinnedWrite named at bytes) later past good others filed = grown-range u me s named _ at (length bytes) later past good others filed
filed-grows u me s (call.SetDirty named lsn) later past good others filed = grown u me s named _ later past good others filed
filed-grows u me s (call.EndHold named) later past good others filed = grown u me s named _ later past good others filed
filed-grows u me s (call.Repin named) later past good others filed = grown u me s named _ later past good others filed
filed-grows u me s (call.MdlBytes named at len) later past good others filed = grown-range u me s named _ at len later past good others filed
filed-grows u me s (call.MdlStore named at bytes) later past good others filed = grown-range u me s named _ at (length bytes) later past good others filed
filed-grows u me s other later past good others filed = filed

-- The ids of open holds: a new one is greater than each, and none is open on two streams.
use Rattle.std.specs.Prelude.{◌≡◌, ℕ, suc, ◌≤◌, Bool, true, false, ◌==◌, List, [], ◌∷◌, refl, ◌⊎◌, if◌then◌else◌}
use Rattle.std.specs.declared.option.Option.{Option}
use Rattle.std.specs.declared.option.Option.TheVariants.{Some, None}
use Rattle.std.specs.List.{cons_option}
use Rattle.std.proofs.Common.{ap, sym, ◌∙◌, inl, inr, subst, arith}
use Rattle.std.proofs.lemmas.Bool.{eqb-true, eq-eqb, ne_eqb}
use Rattle.cc_entry.specs.declared.call.Call.{Call}
use Rattle.cc_entry.specs.declared.call.Call.TheVariants as call
use Rattle.cc_entry.specs.declared.reply.Reply.{Reply}
use Rattle.cc_entry.specs.declared.reply.Outcome.{Outcome}
use Rattle.cc_entry.specs.declared.reply.Outcome.TheVariants as outcome
use Rattle.cc_entry.specs.declared.entry.Entry.{Entry}
use Rattle.cc_entry.specs.declared.entry.Entry.TheVariants as entry
use Rattle.cc_model.specs.Setup.{Setup}
use Rattle.cc_model.specs.History.{Effect, Did, history}
use Rattle.cc_model.specs.Holds.{hold_at, id_of, held_after, holds_of}
use Rattle.cc_model.specs.Cache.{makes_hold, holds_made}
use Rattle.cc_model.specs.Replies.{IsReply}
use Rattle.cc_model.specs.Legal.{IsLegal, IsLegalEntry, stream_history, stream_opening}
use Rattle.cc_laws.proofs.HistorySteps.{history-done}
use Rattle.cc_laws.proofs.HoldSteps.{holds_of-done, holds_of-came_in, holds_of-went_out, holds_of-began, holds_of-ended, holds_of-synced}
use Rattle.cc_laws.proofs.PassSteps.{holds_made-entry, holds_made-made}
use Rattle.cc_laws.proofs.RoomPasts.{IsLegal-before}
use Rattle.cc_own.proofs.FoundHolds.{IsOpen, WasOpen, found-before}

-- the reply of a call that makes a hold has the next id
next-id : (u : Setup) (past : List Entry) (told : Option (ℕ → List ℕ)) (h : List Effect) (pass : ℕ) (call : Call) (reply : Reply) → IsReply u past told h pass call reply → makes_hold call ≡ true → id_of reply ≡ suc (holds_made past)
next-id u past told h pass (call.Map file at len) reply is makes = ap id_of is
next-id u past told h pass (call.PinRead file at len exclusive) reply is makes = ap id_of is
next-id u past told h pass (call.PreparePin file at len zero exclusive) reply is makes = ap id_of is
next-id u past told h pass (call.Repin hold) reply is makes = ap id_of is
next-id u past told h pass (call.MdlRead file at len) reply is makes = ap id_of is
next-id u past told h pass (call.MdlWrite file at len) reply is makes = ap id_of is
next-id u past told h pass other reply is makes = absurd (cc)

-- an entry is a done call under the stream
pub record IsDoneAt (s : ℕ) (e : Entry) : Type 0 where
  pub pass : ℕ
  pub nth : ℕ
  pub call : Call
  pub reply : Reply
  pub is : e ≡ entry.Call pass nth (Some s) call (outcome.Done reply)

-- or it leaves the open holds of the stream
abbrev pub StepsAt : ℕ → Entry → List Entry → Type 0
StepsAt s e past = IsDoneAt s e ⊎ (holds_of (history (e ∷ past) s) ≡ holds_of (history past s))

abbrev Leaves : Effect → List Effect → Type 0
Leaves e h = holds_of (e ∷ h) ≡ holds_of h

left-if : (same : Bool) (e : Effect) (h : List Effect) → Leaves e h → holds_of (cons_option (if same then Some e else None) h) ≡ holds_of h
left-if true e h leaves = leaves
left-if false e h leaves = refl

pub steps-at : (s : ℕ) (e : Entry) (past : List Entry) → StepsAt s e past
unfolding history
steps-at s (entry.Call pass nth (Some stream) call (outcome.Done reply)) past = go (stream == s) refl
  where
    go : (b : Bool) → (stream == s) ≡ b → IsDoneAt s (entry.Call pass nth (Some stream) call (outcome.Done reply)) ⊎ (holds_of (cons_option (if b then Some (Did pass call reply) else None) (history past s)) ≡ holds_of (history past s))
    go true same = inl (record { pass = pass; nth = nth; call = call; reply = reply; is = ap (λ n. entry.Call pass nth (Some n) call (outcome.Done reply)) (eqb-true stream s same) })
    go false other = inr refl
steps-at s (entry.Call pass nth (Some stream) call (outcome.Failed error)) past = inr refl
steps-at s (entry.Call pass nth None call ended) past = inr refl
steps-at s (entry.PageIn pass page from_disk) past = inr (left-if (page.stream == s) _ (history past s) (holds_of-came_in pass page.page from_disk (history past s)))
steps-at s (entry.PageOut pass page) past = inr (left-if (page.stream == s) _ (history past s) (holds_of-went_out pass page.page (history past s)))
steps-at s (entry.WriteBegin pass page) past = inr (left-if (page.stream == s) _ (history past s) (holds_of-began pass page.page (history past s)))
steps-at s (entry.WriteEnd pass page how) past = inr (left-if (page.stream == s) _ (history past s) (holds_of-ended pass page.page how (history past s)))
steps-at s (entry.Sync pass stream how) past = inr (left-if (stream == s) _ (history past s) (holds_of-synced pass how (history past s)))
steps-at s other past = inr refl

-- the open holds of its stream after a done call
pub held-done : (pass nth s : ℕ) (call : Call) (reply : Reply) (past : List Entry) → holds_of (history (entry.Call pass nth (Some s) call (outcome.Done reply) ∷ past) s) ≡ held_after pass call (id_of reply) (holds_of (history past s))
held-done pass nth s call reply past =
    ap holds_of (history-done pass nth s call reply past s (eq-eqb s s refl)) ∙ holds_of-done pass call reply (history past s)

legal-reply : (u : Setup) (pass nth s : ℕ) (call : Call) (reply : Reply) (past : List Entry) → IsLegal u (entry.Call pass nth (Some s) call (outcome.Done reply) ∷ past) → makes_hold call ≡ true → id_of reply ≡ suc (holds_made past)
unfolding IsLegal IsLegalEntry
legal-reply u pass nth s call reply past legal makes =
    next-id u past (stream_opening u (Some s)) (stream_history past (Some s)) pass call reply legal.0.1 makes

pub none-open : (id : ℕ) → IsOpen (holds_of []) id → ⊥
unfolding holds_of
none-open id opened = cc opened.1

none-begun : (s id : ℕ) → IsOpen (holds_of (history [] s)) id → ⊥
unfolding history
none-begun s id opened = none-open id opened

open-step : (s id : ℕ) (e : Entry) (past : List Entry) → holds_of (history (e ∷ past) s) ≡ holds_of (history past s) → IsOpen (holds_of (history (e ∷ past) s)) id → IsOpen (holds_of (history past s)) id
open-step s id e past same opened = (opened.0, subst (λ holds. hold_at holds id ≡ Some opened.0) same opened.1)

-- a hold that is open after a done call
was-open : (s id pass nth : ℕ) (call : Call) (reply : Reply) (e : Entry) (past : List Entry) → e ≡ entry.Call pass nth (Some s) call (outcome.Done reply) → IsOpen (holds_of (history (e ∷ past) s)) id → WasOpen call (id_of reply) (holds_of (history past s)) id
was-open s id pass nth call reply e past is opened =
    let there : hold_at (holds_of (history (entry.Call pass nth (Some s) call (outcome.Done reply) ∷ past) s)) id ≡ Some opened.0 = subst (λ x. hold_at (holds_of (history (x ∷ past) s)) id ≡ Some opened.0) is opened.1 in
    found-before pass call (id_of reply) (holds_of (history past s)) id opened.0 (subst (λ holds. hold_at holds id ≡ Some opened.0) (held-done pass nth s call reply past) there)

-- the id of an open hold is no greater than how many were made
pub open-below : (u : Setup) (past : List Entry) (s id : ℕ) → IsLegal u past → IsOpen (holds_of (history past s)) id → id ≤ holds_made past
open-below u [] s id legal opened = absurd (none-begun s id opened)
open-below u (e ∷ past) s id legal opened = by (steps-at s e past) (open-below u past s id (IsLegal-before u past e legal))
  where
    more : id ≤ holds_made past → id ≤ holds_made (e ∷ past)
    more below = omega (arith, holds_made-entry e past)

    by : StepsAt s e past → (IsOpen (holds_of (history past s)) id → id ≤ holds_made past) → id ≤ holds_made (e ∷ past)
    by (inr same) rest = more (rest (open-step s id e past same opened))
    by (inl done) rest = was (was-open s id done.pass done.nth done.call done.reply e past done.is opened)
      where
        was : WasOpen done.call (id_of done.reply) (holds_of (history past s)) id → id ≤ holds_made (e ∷ past)
        was (inr opened) = more (rest opened)
        was (inl new) =
            let front : IsLegal u (entry.Call done.pass done.nth (Some s) done.call (outcome.Done done.reply) ∷ past) = subst (λ x. IsLegal u (x ∷ past)) done.is legal in
            let next = legal-reply u done.pass done.nth s done.call done.reply past front new.0 in
            let counted = holds_made-made done.pass done.nth (Some s) done.call done.reply past new.0 in
            let same : id_of done.reply ≡ id = new.1 in
            let made : holds_made (e ∷ past) ≡ suc (holds_made past) = ap (λ x. holds_made (x ∷ past)) done.is ∙ counted in
            omega arith

-- so a new hold has another id than each that is open, on whatever stream
pub fresh-id : (u : Setup) (past : List Entry) (pass nth s t id : ℕ) (call : Call) (reply : Reply) → IsLegal u (entry.Call pass nth (Some s) call (outcome.Done reply) ∷ past) → IsOpen (holds_of (history past t)) id → makes_hold call ≡ true → (id_of reply == id) ≡ false
fresh-id u past pass nth s t id call reply legal opened makes = ne_eqb (id_of reply) id apart
  where
    apart : id_of reply ≡ id → ⊥
    apart same =
        let below = open-below u past t id (IsLegal-before u past _ legal) opened in
        let next = legal-reply u pass nth s call reply past legal makes in
        omega arith

-- an entry is a done call under one stream at most
one-stream : (s t : ℕ) (e : Entry) → IsDoneAt s e → IsDoneAt t e → s ≡ t
one-stream s t e a b = some-same s t (call-stream _ _ _ _ _ _ _ _ _ _ (sym a.is ∙ b.is))
  where
    call-stream : (p q n m : ℕ) (x y : Option ℕ) (c d : Call) (i j : Outcome) → entry.Call p n x c i ≡ entry.Call q m y d j → x ≡ y
    call-stream p q n m x y c d i j same = cc

    some-same : (a b : ℕ) → Some a ≡ Some b → a ≡ b
    some-same a b same = cc

-- an id that is open on one stream is open on no other
pub ids-apart : (u : Setup) (past : List Entry) (s t id : ℕ) → IsLegal u past → IsOpen (holds_of (history past s)) id → IsOpen (holds_of (history past t)) id → s ≡ t
ids-apart u [] s t id legal here there = absurd (none-begun s id here)
ids-apart u (e ∷ past) s t id legal here there =
    by (steps-at s e past) (steps-at t e past) (λ a b. ids-apart u past s t id (IsLegal-before u past e legal) a b)
  where
    clash : (m : ℕ) (other : ℕ) (done : IsDoneAt m e) → makes_hold done.call ≡ true → id_of done.reply ≡ id → IsOpen (holds_of (history past other)) id → s ≡ t
    clash m other done makes same opened =
        let front : IsLegal u (entry.Call done.pass done.nth (Some m) done.call (outcome.Done done.reply) ∷ past) = subst (λ x. IsLegal u (x ∷ past)) done.is legal in
        let fresh = fresh-id u past done.pass done.nth m other id done.call done.reply front opened makes in
        let is = eq-eqb (id_of done.reply) id same in
        absurd (cc (fresh, is))

    by : StepsAt s e past → StepsAt t e past → (IsOpen (holds_of (history past s)) id → IsOpen (holds_of (history past t)) id → s ≡ t) → s ≡ t
    by (inr a) (inr b) rest = rest (open-step s id e past a here) (open-step t id e past b there)
    by (inl a) (inl b) rest = one-stream s t e a b
    by (inl a) (inr b) rest = was (was-open s id a.pass a.nth a.call a.reply e past a.is here)
      where
        was : WasOpen a.call (id_of a.reply) (holds_of (history past s)) id → s ≡ t
        was (inr opened) = rest opened (open-step t id e past b there)
        was (inl new) = clash s t a new.0 new.1 (open-step t id e past b there)
    by (inr a) (inl b) rest = was (was-open t id b.pass b.nth b.call b.reply e past b.is there)
      where
        was : WasOpen b.call (id_of b.reply) (holds_of (history past t)) id → s ≡ t
        was (inr opened) = rest (open-step s id e past a here) opened
        was (inl new) = clash t s b new.0 new.1 (open-step s id e past a here)

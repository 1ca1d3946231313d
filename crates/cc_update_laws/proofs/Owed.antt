-- A pin that owes a set-dirty has an entry reserved for it: at no moment may its set-dirty find no room.
use Rattle.std.specs.Prelude.{◌≡◌, ℕ, Bool, true, false, cond, ◌&&◌, ◌||◌, ◌==◌, nat_eq, List, [], ◌∷◌, ◌++◌, refl, ◌⊎◌}
use Rattle.std.specs.List.{AllByRecursion, IsDistinct, list_any}
use Rattle.std.specs.declared.option.Option.{Option}
use Rattle.std.specs.declared.option.Option.TheVariants.{Some}
use Rattle.std.proofs.Common.{ap, sym, subst, ◌∙◌, inl, inr, append_assoc}
use Rattle.std.proofs.lemmas.Bool.{eqb-true, eq-eqb, or_from, or_parts}
use Rattle.std.proofs.lemmas.List.{append_cancel_right}
use Rattle.std.proofs.lemmas.List.Folds.{list_any-append}
use Rattle.cc_entry.specs.declared.call.Call.TheVariants as call
use Rattle.cc_entry.specs.declared.entry.Entry.{Entry}
use Rattle.cc_entry.specs.declared.error.CcError.{CcError}
use Rattle.cc_entry.specs.declared.error.CcError.TheVariants as error
use Rattle.cc_entry.specs.declared.reply.Outcome.TheVariants as outcome
use Rattle.cc_model.specs.Cache.{all_streams}
use Rattle.cc_model.specs.Good.{IsGoodSoFar}
use Rattle.cc_model.specs.History.{history}
use Rattle.cc_model.specs.Holds.{Hold, hold_at, holds_of}
use Rattle.cc_model.specs.Numbers.{is_empty}
use Rattle.cc_model.specs.Setup.{Setup}
use Rattle.cc_effects.specs.Asked.{Calls}
use Rattle.cc_effects.specs.Calls.{CallLeft, IsOvertaken, IsRefused, IsUnplaced}
use Rattle.cc_effects.specs.Moments.{own}
use Rattle.cc_effects.specs.Refusals.{may_refuse, owes_nothing}
use Rattle.cc_effects.proofs.Stretches.{own-append}
use Rattle.cc_own.specs.Own.{HasHold, changes_hold, ids_of}
use Rattle.cc_own.proofs.CallsKeep.{good-tail, works-kept}
use Rattle.cc_own.proofs.DistinctIds.{ids-distinct}
use Rattle.cc_own.proofs.FoundHolds.{IsOpen}
use Rattle.cc_own.proofs.OpenIds.{ids-apart}
use Rattle.cc_own.proofs.OwnHolds.{all-keep}

-- whether an open hold of the id owes nothing
abbrev owing_none : ℕ → Hold → Bool
owing_none id hold = hold.id == id && is_empty hold.owed

no-other : (id : ℕ) (holds : List Hold) → AllByRecursion (λ other. nat_eq id other ≡ false) (ids_of holds) → list_any (owing_none id) holds ≡ false
no-other id [] apart = refl
no-other id (it ∷ holds) apart = or_from (owing_none id it) _ (here (it.id == id) refl) (no-other id holds apart.1)
  where
    here : (b : Bool) → (it.id == id) ≡ b → (b && is_empty it.owed) ≡ false
    here false is = refl
    here true is =
        let same : nat_eq id it.id ≡ true = eq-eqb id it.id (sym (eqb-true it.id id is)) in
        absurd (cc (same, apart.0))

owes-still : (id : ℕ) (hold : Hold) (holds : List Hold) → IsDistinct nat_eq (ids_of holds) → hold_at holds id ≡ Some hold → is_empty hold.owed ≡ false → list_any (owing_none id) holds ≡ false
unfolding IsDistinct
owes-still id hold [] distinct found owes = refl
owes-still id hold (it ∷ holds) distinct found owes = go (it.id == id) refl found (owes-still id hold holds distinct.1)
  where
    go : (b : Bool) → (it.id == id) ≡ b → cond b (Some it) (hold_at holds id) ≡ Some hold → (hold_at holds id ≡ Some hold → is_empty hold.owed ≡ false → list_any (owing_none id) holds ≡ false) → ((b && is_empty it.owed) || list_any (owing_none id) holds) ≡ false
    go false is found rest = rest found owes
    go true is found rest =
        let same : it ≡ hold = cc in
        or_from (is_empty it.owed) _ (rw same owes) (no-other id holds (subst (λ n. AllByRecursion (λ other. nat_eq n other ≡ false) (ids_of holds)) (eqb-true it.id id is) distinct.0))

none-there : (id : ℕ) (holds : List Hold) → (IsOpen holds id → ⊥) → list_any (owing_none id) holds ≡ false
none-there id [] closed = refl
none-there id (it ∷ holds) closed = go (it.id == id) refl (λ rest. none-there id holds rest)
  where
    go : (b : Bool) → (it.id == id) ≡ b → ((IsOpen holds id → ⊥) → list_any (owing_none id) holds ≡ false) → ((b && is_empty it.owed) || list_any (owing_none id) holds) ≡ false
    go true is none = absurd (closed (it, rw is refl))
    go false is none = none (λ there. closed (there.0, rw is there.1))

module _ (u : Setup) (me s id : ℕ) (hold : Hold) (past : List Entry) (good : IsGoodSoFar u past) (has : HasHold me s id hold past) (owes : is_empty hold.owed ≡ false) where
  stream-owes : (t : ℕ) → list_any (owing_none id) (holds_of (history past t)) ≡ false
  stream-owes t = go (t == s) refl
    where
      go : (b : Bool) → (t == s) ≡ b → list_any (owing_none id) (holds_of (history past t)) ≡ false
      go true is = rw (eqb-true t s is) (owes-still id hold (holds_of (history past s)) (ids-distinct u past s good.legal) has.found owes)
      go false is =
          none-there id (holds_of (history past t)) (λ there.
          let same : (t == s) ≡ true = eq-eqb t s (ids-apart u past t s id good.legal there (hold, has.found)) in cc)

  each-owes : (streams : List ℕ) → list_any (λ t. list_any (owing_none id) (holds_of (history past t))) streams ≡ false
  each-owes [] = refl
  each-owes (t ∷ streams) = or_from (list_any (owing_none id) (holds_of (history past t))) _ (stream-owes t) (each-owes streams)

  still-owes : owes_nothing id past ≡ false
  still-owes = each-owes all_streams

had-room : (u : Setup) (me s id : ℕ) (lsn : Option ℕ) (e : CcError) (hold : Hold) (old new : List Entry) → IsGoodSoFar u new → HasHold me s id hold old → is_empty hold.owed ≡ false → IsUnplaced me (call.SetDirty id lsn) e old new → ⊥
had-room u me s id lsn e hold old new good has owes left =
    let at = left.wants in
    let begins : at.moment ≡ at.since ++ old = at.begins in
    let grew : left.during ++ old ≡ at.later ++ (at.since ++ old) = sym left.grew ∙ (at.ends ∙ ap (λ l. at.later ++ l) begins) in
    let split : left.during ≡ at.later ++ at.since = append_cancel_right left.during (at.later ++ at.since) old (grew ∙ sym (append_assoc at.later at.since old)) in
    let none = works-kept me id (Calls (call.SetDirty id lsn)) left.during old left.works in
    let parts : (list_any (changes_hold id) (own me at.later) || list_any (changes_hold id) (own me at.since)) ≡ false =
    sym (ap (list_any (changes_hold id)) (own-append me at.later at.since) ∙ list_any-append (changes_hold id) (own me at.later) (own me at.since))
    ∙ (ap (λ l. list_any (changes_hold id) (own me l)) (sym split) ∙ none) in
    let then : IsGoodSoFar u (at.since ++ old) = subst (IsGoodSoFar u) begins (good-tail u at.later at.moment (subst (IsGoodSoFar u) at.ends good)) in
    let there = all-keep u me s id hold at.since old then (or_parts (list_any (changes_hold id) (own me at.later)) _ parts).1 has in
    let still = still-owes u me s id hold (at.since ++ old) then there owes in
    let wants : owes_nothing id (at.since ++ old) ≡ true = subst (λ past. owes_nothing id past ≡ true) begins at.holds in
    cc (still, wants)

unlisted : (u : Setup) (me id : ℕ) (lsn : Option ℕ) (e : CcError) (old new : List Entry) → may_refuse (call.SetDirty id lsn) e ≡ false → IsRefused me (call.SetDirty id lsn) e old new ⊎ IsOvertaken u me (call.SetDirty id lsn) e old new → ⊥
unlisted u me id lsn e old new none (inl is) = cc (none, is.listed)
unlisted u me id lsn e old new none (inr is) = cc (none, is.listed)

-- the set-dirty that a pin owes is done
pub stamp-sure : (u : Setup) (me s id : ℕ) (lsn : Option ℕ) (e : CcError) (hold : Hold) (old new : List Entry) → IsGoodSoFar u new → HasHold me s id hold old → is_empty hold.owed ≡ false → CallLeft u me (call.SetDirty id lsn) (outcome.Failed e) old new → ⊥
stamp-sure u me s id lsn (error.JournalFull entries) hold old new good has owes left = had-room u me s id lsn _ hold old new good has owes left
stamp-sure u me s id lsn error.NoMemory hold old new good has owes left = had-room u me s id lsn _ hold old new good has owes left
stamp-sure u me s id lsn (error.ReadFault page) hold old new good has owes left = cc left.listed
stamp-sure u me s id lsn (error.WriteFault page) hold old new good has owes left = cc left.listed
stamp-sure u me s id lsn (error.LogFault handle) hold old new good has owes left = cc left.listed
stamp-sure u me s id lsn e hold old new good has owes left = unlisted u me id lsn e old new refl left

-- A set-dirty that its pin owes finds its place reserved, so it can't fail.
use Rattle.std.specs.Prelude.{◌≡◌, ℕ, Bool, true, false, cond, not, ◌&&◌, ◌||◌, ◌==◌, nat_eq, List, [], ◌∷◌, ◌++◌, refl, ◌⊎◌}
use Rattle.std.specs.declared.option.Option.{Option}
use Rattle.std.specs.declared.option.Option.TheVariants.{Some, None}
use Rattle.std.specs.List.{AllByRecursion, IsDistinct, list_any}
use Rattle.std.proofs.Common.{ap, sym, ◌∙◌, subst, inl, inr, append_assoc}
use Rattle.std.proofs.lemmas.Bool.{eq-eqb, eqb-true, or_from, or_parts}
use Rattle.std.proofs.lemmas.List.{append_cancel_right}
use Rattle.std.proofs.lemmas.List.Folds.{list_any-append}
use Rattle.cc_entry.specs.Kinds.{is_pin}
use Rattle.cc_entry.specs.declared.call.Call.{Call}
use Rattle.cc_entry.specs.declared.call.Call.TheVariants as call
use Rattle.cc_entry.specs.declared.entry.Entry.{Entry}
use Rattle.cc_entry.specs.declared.entry.Entry.TheVariants as entry
use Rattle.cc_entry.specs.declared.error.CcError.{CcError}
use Rattle.cc_entry.specs.declared.error.CcError.TheVariants as error
use Rattle.cc_entry.specs.declared.reply.Outcome.TheVariants as outcome
use Rattle.cc_effects.specs.Asked.{Calls, Work}
use Rattle.cc_effects.specs.Calls.{CallLeft, IsOvertaken, IsRefused, IsUnplaced}
use Rattle.cc_effects.specs.Moments.{EachOwn, own}
use Rattle.cc_effects.specs.Places.{MayPlace}
use Rattle.cc_effects.specs.Refusals.{may_refuse, owes_nothing}
use Rattle.cc_effects.proofs.Stretches.{own-append}
use Rattle.cc_model.specs.Cache.{all_streams}
use Rattle.cc_model.specs.Good.{IsGood, IsGoodSoFar}
use Rattle.cc_model.specs.History.{history}
use Rattle.cc_model.specs.Holds.{Hold, hold_at, holds_of}
use Rattle.cc_model.specs.Numbers.{is_empty}
use Rattle.cc_model.specs.Passes.{is_mine}
use Rattle.cc_model.specs.Setup.{Setup}
use Rattle.cc_own.specs.Own.{HasHold, changes_hold, ids_of}
use Rattle.cc_own.proofs.CallsKeep.{good-tail}
use Rattle.cc_own.proofs.DistinctIds.{ids-distinct}
use Rattle.cc_own.proofs.FoundHolds.{IsOpen}
use Rattle.cc_own.proofs.OpenIds.{ids-apart}
use Rattle.cc_own.proofs.OwnHolds.{all-keep, served}
use Rattle.cc_step.specs.Step.{asked_now}
use Rattle.cc_turns.specs.Standing.{Standing}
use Rattle.cc_writes.specs.Visits.{IsFiledNow}
use Rattle.cc_calls.specs.Ends.{OwesSetDirty, writes_through}
use Rattle.cc_calls.specs.declared.held.Held.{Held}
use Rattle.cc_calls.proofs.Holding.{so-far}
use Rattle.cc_model.specs.Room.{owes_set_dirty}

-- what a pass may place before the entry of its call changes no hold
placed-kept : (me id : ℕ) (work : Work) (old past : List Entry) (e : Entry) → MayPlace me work old past e → changes_hold id e ≡ false
placed-kept me id work old past (entry.Call pass nth stream call ended) may = absurd may
placed-kept me id work old past other may = refl

each-kept : (me id : ℕ) (work : Work) (begun during old : List Entry) → EachOwn me (MayPlace me work begun) during old → list_any (changes_hold id) (own me during) ≡ false
each-kept me id work begun [] old each = refl
each-kept me id work begun (e ∷ during) old each = by (is_mine me e) refl (each-kept me id work begun during old each.1)
  where
    by : (b : Bool) → is_mine me e ≡ b → list_any (changes_hold id) (own me during) ≡ false → list_any (changes_hold id) (cond b (e ∷ own me during) (own me during)) ≡ false
    by true is rest = or_from (changes_hold id e) _ (placed-kept me id work begun (during ++ old) e (each.0 is)) rest
    by false is rest = rest

-- so none that stood at a moment of the call did
kept-since : (me id : ℕ) (during later since old : List Entry) → during ++ old ≡ later ++ (since ++ old) → list_any (changes_hold id) (own me during) ≡ false → list_any (changes_hold id) (own me since) ≡ false
kept-since me id during later since old grew none =
    let split : during ≡ later ++ since = append_cancel_right during (later ++ since) old (grew ∙ sym (append_assoc later since old)) in
    let parts : (list_any (changes_hold id) (own me later) || list_any (changes_hold id) (own me since)) ≡ false = sym (ap (list_any (changes_hold id)) (own-append me later since) ∙ list_any-append (changes_hold id) (own me later) (own me since)) ∙ (ap (λ l. list_any (changes_hold id) (own me l)) (sym split) ∙ none) in
    (or_parts (list_any (changes_hold id) (own me later)) _ parts).1

-- whether an open hold of the id owes nothing
abbrev owing_none : ℕ → Hold → Bool
owing_none id hold = hold.id == id && is_empty hold.owed

-- the hold of an id that owes something is the only one of the id
no-other : (id : ℕ) (holds : List Hold) → AllByRecursion (λ other. nat_eq id other ≡ false) (ids_of holds) → list_any (owing_none id) holds ≡ false
no-other id [] apart = refl
no-other id (it ∷ holds) apart = or_from (owing_none id it) _ (here (it.id == id) refl) (no-other id holds apart.1)
  where
    here : (b : Bool) → (it.id == id) ≡ b → (b && is_empty it.owed) ≡ false
    here false is = refl
    here true is =
        let same : nat_eq id it.id ≡ true = eq-eqb id it.id (sym (eqb-true it.id id is)) in
        absurd (cc (same, apart.0))

owes-still : (id : ℕ) (hold : Hold) (holds : List Hold) → IsDistinct nat_eq (ids_of holds) → hold_at holds id ≡ Some hold → is_empty hold.owed ≡ false → list_any (owing_none id) holds ≡ false
unfolding IsDistinct
owes-still id hold [] distinct found owes = refl
owes-still id hold (it ∷ holds) distinct found owes = go (it.id == id) refl found (owes-still id hold holds distinct.1)
  where
    go : (b : Bool) → (it.id == id) ≡ b → cond b (Some it) (hold_at holds id) ≡ Some hold → (hold_at holds id ≡ Some hold → is_empty hold.owed ≡ false → list_any (owing_none id) holds ≡ false) → ((b && is_empty it.owed) || list_any (owing_none id) holds) ≡ false
    go false is found rest = rest found owes
    go true is found rest =
        let same : it ≡ hold = cc in
        or_from (is_empty it.owed) _ (rw same owes) (no-other id holds (subst (λ n. AllByRecursion (λ other. nat_eq n other ≡ false) (ids_of holds)) (eqb-true it.id id is) distinct.0))

-- an id with no open hold has none that owes nothing
none-there : (id : ℕ) (holds : List Hold) → (IsOpen holds id → ⊥) → list_any (owing_none id) holds ≡ false
none-there id [] closed = refl
none-there id (it ∷ holds) closed = go (it.id == id) refl (λ rest. none-there id holds rest)
  where
    go : (b : Bool) → (it.id == id) ≡ b → ((IsOpen holds id → ⊥) → list_any (owing_none id) holds ≡ false) → ((b && is_empty it.owed) || list_any (owing_none id) holds) ≡ false
    go true is none = absurd (closed (it, rw is refl))
    go false is none = none (λ there. closed (there.0, rw is there.1))

module _ (u : Setup) (me s id : ℕ) (hold : Hold) (past : List Entry) (good : IsGoodSoFar u past) (has : HasHold me s id hold past) (owes : is_empty hold.owed ≡ false) where
  stream-owes : (t : ℕ) → list_any (owing_none id) (holds_of (history past t)) ≡ false
  stream-owes t = go (t == s) refl
    where
      go : (b : Bool) → (t == s) ≡ b → list_any (owing_none id) (holds_of (history past t)) ≡ false
      go true is = rw (eqb-true t s is) (owes-still id hold (holds_of (history past s)) (ids-distinct u past s good.legal) has.found owes)
      go false is =
          none-there id (holds_of (history past t)) (λ there.
          let same : (t == s) ≡ true = eq-eqb t s (ids-apart u past t s id good.legal there (hold, has.found)) in cc)

  each-owes : (streams : List ℕ) → list_any (λ t. list_any (owing_none id) (holds_of (history past t))) streams ≡ false
  each-owes [] = refl
  each-owes (t ∷ streams) = or_from (list_any (owing_none id) (holds_of (history past t))) _ (stream-owes t) (each-owes streams)

  still-owes : owes_nothing id past ≡ false
  still-owes = each-owes all_streams

-- at no moment of the call was there little room for it
had-room : (u : Setup) (me s id : ℕ) (lsn : Option ℕ) (e : CcError) (hold : Hold) (old new : List Entry) → IsGoodSoFar u new → HasHold me s id hold old → is_empty hold.owed ≡ false → IsUnplaced me (call.SetDirty id lsn) e old new → ⊥
had-room u me s id lsn e hold old new good has owes left =
    let at = left.wants in
    let begins : at.moment ≡ at.since ++ old = at.begins in
    let grew : left.during ++ old ≡ at.later ++ (at.since ++ old) = sym left.grew ∙ (at.ends ∙ ap (λ l. at.later ++ l) begins) in
    let none = kept-since me id left.during at.later at.since old grew (each-kept me id (Calls (call.SetDirty id lsn)) old left.during old left.works.each) in
    let then : IsGoodSoFar u (at.since ++ old) = subst (IsGoodSoFar u) begins (good-tail u at.later at.moment (subst (IsGoodSoFar u) at.ends good)) in
    let there = all-keep u me s id hold at.since old then none has in
    let still = still-owes u me s id hold (at.since ++ old) then there owes in
    let wants : owes_nothing id (at.since ++ old) ≡ true = subst (λ past. owes_nothing id past ≡ true) begins at.holds in
    cc (still, wants)

unlisted : (u : Setup) (me id : ℕ) (lsn : Option ℕ) (e : CcError) (old new : List Entry) → may_refuse (call.SetDirty id lsn) e ≡ false → IsRefused me (call.SetDirty id lsn) e old new ⊎ IsOvertaken u me (call.SetDirty id lsn) e old new → ⊥
unlisted u me id lsn e old new none (inl is) = cc (none, is.listed)
unlisted u me id lsn e old new none (inr is) = cc (none, is.listed)

dirty-sure : (u : Setup) (me s id : ℕ) (lsn : Option ℕ) (e : CcError) (hold : Hold) (old new : List Entry) → IsGoodSoFar u new → HasHold me s id hold old → is_empty hold.owed ≡ false → CallLeft u me (call.SetDirty id lsn) (outcome.Failed e) old new → ⊥
dirty-sure u me s id lsn (error.JournalFull entries) hold old new good has owes left = had-room u me s id lsn _ hold old new good has owes left
dirty-sure u me s id lsn error.NoMemory hold old new good has owes left = had-room u me s id lsn _ hold old new good has owes left
dirty-sure u me s id lsn (error.ReadFault page) hold old new good has owes left = cc left.listed
dirty-sure u me s id lsn (error.WriteFault page) hold old new good has owes left = cc left.listed
dirty-sure u me s id lsn (error.LogFault handle) hold old new good has owes left = cc left.listed
dirty-sure u me s id lsn e hold old new good has owes left = unlisted u me id lsn e old new refl left

-- what is there for a call that asks no place
owes-of : (o : Option Hold) (hold : Hold) → o ≡ Some hold → ◌≡◌ {A = ℕ} (cond (owes_set_dirty o) 0 1) 0 → is_empty hold.owed ≡ false
owes-of None hold found none = absurd (cc)
owes-of (Some it) hold found none = go (is_pin it.kind) (is_empty it.owed) refl none
  where
    go : (a b : Bool) → is_empty it.owed ≡ b → ◌≡◌ {A = ℕ} (cond (a && not b) 0 1) 0 → is_empty hold.owed ≡ false
    go true false is none = let same : it ≡ hold = cc in subst (λ (one : Hold). is_empty one.owed ≡ false) same is
    go true true is none = absurd (cc)
    go false b is none = absurd (cc)

asks-one : (b : Bool) → ◌≡◌ {A = ℕ} (cond b 1 2) 0 → ⊥
asks-one true none = cc
asks-one false none = cc

-- a call that writes through a hold, and asks no place, does not fail
pub never-fails : (w v : Standing) (s : ℕ) (it : Call) (e : CcError) → writes_through it ≡ true → IsFiledNow w s it → asked_now w.seen s it ≡ 0 → IsGood w.setup v.seen → CallLeft w.setup w.number it (outcome.Failed e) w.seen v.seen → ⊥
never-fails w v s (call.SetDirty id lsn) e writes filed none good left =
    let has = served w.number is_pin (hold_at (holds_of (history w.seen s)) id) filed in
    dirty-sure w.setup w.number s id lsn e has.0 w.seen v.seen (so-far w.setup v.seen good) (record { found = has.1.0; mine = has.1.1 }) (owes-of _ has.0 has.1.0 none) left
never-fails w v s (call.PinnedWrite id at bytes) e writes filed none good left = asks-one _ none
never-fails w v s (call.MdlStore id at bytes) e writes filed none good left = cc none
never-fails w v s other e writes filed none good left = absurd (cc)

-- a set-dirty that a pin owes asks none
pub owed-asks : (w : Standing) (held : Held) (lsn : Option ℕ) → OwesSetDirty w held → asked_now w.seen held.file.stream (call.SetDirty held.id lsn) ≡ 0
owed-asks w held lsn owes = rw owes refl

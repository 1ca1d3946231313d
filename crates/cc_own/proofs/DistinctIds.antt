-- The open holds of a stream have different ids.
use Rattle.std.specs.Prelude.{◌≡◌, ℕ, Bool, true, false, cond, not, ◌==◌, nat_eq, List, [], ◌∷◌, refl}
use Rattle.std.specs.declared.option.Option.{Option}
use Rattle.std.specs.declared.option.Option.TheVariants.{Some, None}
use Rattle.std.specs.List.{AllByRecursion, IsDistinct, filter}
use Rattle.std.proofs.Common.{ap, sym, inl, inr, subst}
use Rattle.std.proofs.lemmas.Bool.{eq-eqb}
use Rattle.cc_entry.specs.declared.call.Call.{Call}
use Rattle.cc_entry.specs.declared.call.Call.TheVariants as call
use Rattle.cc_entry.specs.declared.reply.Reply.{Reply}
use Rattle.cc_entry.specs.declared.reply.Outcome.TheVariants as outcome
use Rattle.cc_entry.specs.declared.entry.Entry.{Entry}
use Rattle.cc_entry.specs.declared.entry.Entry.TheVariants as entry
use Rattle.cc_model.specs.Setup.{Setup}
use Rattle.cc_model.specs.History.{history}
use Rattle.cc_model.specs.Holds.{Hold, hold_at, changed_at, repinned, id_of, held_after, holds_of}
use Rattle.cc_model.specs.Cache.{makes_hold}
use Rattle.cc_model.specs.Legal.{IsLegal}
use Rattle.cc_laws.proofs.BlockLists.{IsDistinct-filter}
use Rattle.cc_laws.proofs.RoomPasts.{IsLegal-before}
use Rattle.cc_own.specs.Own.{ids_of}
use Rattle.cc_own.proofs.FoundHolds.{IsOpen}
use Rattle.cc_own.proofs.OpenIds.{StepsAt, steps-at, held-done, fresh-id}

-- what is so of each id that is open is so of each that the holds have
each-id : (P : ℕ → Type 0) (holds : List Hold) → ((id : ℕ) → IsOpen holds id → P id) → AllByRecursion P (ids_of holds)
each-id P [] each = tt
each-id P (it ∷ holds) each = (each it.id (it, rw (eq-eqb it.id it.id refl) refl), each-id P holds (λ id there. each id (later id (it.id == id) there)))
  where
    later : (id : ℕ) (b : Bool) → IsOpen holds id → (hold : Hold) × (cond b (Some it) (hold_at holds id) ≡ Some hold)
    later id true there = (it, refl)
    later id false there = there

ids-changed : (named : ℕ) (change : Hold → Hold) (holds : List Hold) → ((hold : Hold) → (change hold).id ≡ hold.id) → ids_of (changed_at named change holds) ≡ ids_of holds
ids-changed named change [] same = refl
ids-changed named change (it ∷ holds) same = go (it.id == named) (ids-changed named change holds same)
  where
    go : (b : Bool) → ids_of (changed_at named change holds) ≡ ids_of holds → (let new : Hold = cond b (change it) it in new.id ∷ ids_of (changed_at named change holds)) ≡ it.id ∷ ids_of holds
    go true rest = rw (same it, rest) refl
    go false rest = rw rest refl

ids-filtered : (named : ℕ) (holds : List Hold) → ids_of (filter (λ it. not (it.id == named)) holds) ≡ filter (λ id. not (id == named)) (ids_of holds)
ids-filtered named [] = refl
ids-filtered named (it ∷ holds) = go (not (it.id == named)) (ids-filtered named holds)
  where
    go : (b : Bool) → ids_of (filter (λ hold. not (hold.id == named)) holds) ≡ filter (λ id. not (id == named)) (ids_of holds) → ids_of (cond b (it ∷ filter (λ hold. not (hold.id == named)) holds) (filter (λ hold. not (hold.id == named)) holds)) ≡ cond b (it.id ∷ filter (λ id. not (id == named)) (ids_of holds)) (filter (λ id. not (id == named)) (ids_of holds))
    go true rest = ap (λ ids. it.id ∷ ids) rest
    go false rest = rest

abbrev AreDistinct : List Hold → Type 0
AreDistinct holds = IsDistinct nat_eq (ids_of holds)

distinct-changed : (named : ℕ) (change : Hold → Hold) (holds : List Hold) → ((hold : Hold) → (change hold).id ≡ hold.id) → AreDistinct holds → AreDistinct (changed_at named change holds)
distinct-changed named change holds same distinct = subst (IsDistinct nat_eq) (sym (ids-changed named change holds same)) distinct

distinct-ended : (named : ℕ) (holds : List Hold) → AreDistinct holds → AreDistinct (filter (λ it. not (it.id == named)) holds)
distinct-ended named holds distinct = subst (IsDistinct nat_eq) (sym (ids-filtered named holds)) (IsDistinct-filter _ (ids_of holds) distinct)

-- a new id, apart from each
abbrev IsFresh : ℕ → List Hold → Type 0
IsFresh new holds = AllByRecursion (λ id. nat_eq new id ≡ false) (ids_of holds)

distinct-made : (new : ℕ) (holds : List Hold) → IsFresh new holds → AreDistinct holds → IsDistinct nat_eq (new ∷ ids_of holds)
unfolding IsDistinct
distinct-made new holds fresh distinct = (fresh, distinct)

distinct-after : (pass : ℕ) (call : Call) (new : ℕ) (holds : List Hold) → (makes_hold call ≡ true → IsFresh new holds) → AreDistinct holds → AreDistinct (held_after pass call new holds)
distinct-after pass (call.Map file at len) new holds fresh distinct = distinct-made new holds (fresh refl) distinct
distinct-after pass (call.PinRead file at len exclusive) new holds fresh distinct = distinct-made new holds (fresh refl) distinct
distinct-after pass (call.PinMapped named exclusive) new holds fresh distinct = distinct-changed named _ holds (λ it. refl) distinct
distinct-after pass (call.PreparePin file at len true exclusive) new holds fresh distinct = distinct-made new holds (fresh refl) distinct
distinct-after pass (call.PreparePin file at len false exclusive) new holds fresh distinct = distinct-made new holds (fresh refl) distinct
distinct-after pass (call.PinnedWrite named at bytes) new holds fresh distinct = distinct-changed named _ holds (λ it. refl) distinct
distinct-after pass (call.SetDirty named lsn) new holds fresh distinct = distinct-changed named _ holds (λ it. refl) distinct
distinct-after pass (call.EndHold named) new holds fresh distinct = distinct-ended named holds distinct
distinct-after pass (call.Repin named) new holds fresh distinct = go (hold_at holds named)
  where
    go : (o : Option Hold) → AreDistinct (repinned new pass o holds)
    go None = distinct
    go (Some it) = distinct-made new holds (fresh refl) distinct
distinct-after pass (call.MdlRead file at len) new holds fresh distinct = distinct-made new holds (fresh refl) distinct
distinct-after pass (call.MdlWrite file at len) new holds fresh distinct = distinct-made new holds (fresh refl) distinct
distinct-after pass other new holds fresh distinct = distinct

distinct-none : AreDistinct (holds_of [])
unfolding holds_of IsDistinct
distinct-none = tt

distinct-begun : (s : ℕ) → AreDistinct (holds_of (history [] s))
unfolding history
distinct-begun s = distinct-none

-- the open holds of a stream of a legal journal have different ids
pub ids-distinct : (u : Setup) (past : List Entry) (s : ℕ) → IsLegal u past → IsDistinct nat_eq (ids_of (holds_of (history past s)))
ids-distinct u [] s legal = distinct-begun s
ids-distinct u (e ∷ past) s legal = by (steps-at s e past) (ids-distinct u past s (IsLegal-before u past e legal))
  where
    done-distinct : (pass nth : ℕ) (call : Call) (reply : Reply) → IsLegal u (entry.Call pass nth (Some s) call (outcome.Done reply) ∷ past) → AreDistinct (holds_of (history past s)) → AreDistinct (holds_of (history (entry.Call pass nth (Some s) call (outcome.Done reply) ∷ past) s))
    done-distinct pass nth call reply legal before =
        subst AreDistinct (sym (held-done pass nth s call reply past))
        (distinct-after pass call (id_of reply) (holds_of (history past s)) (λ makes. each-id (λ id. nat_eq (id_of reply) id ≡ false) (holds_of (history past s)) (λ id there. fresh-id u past pass nth s s id call reply legal there makes)) before)

    by : StepsAt s e past → AreDistinct (holds_of (history past s)) → AreDistinct (holds_of (history (e ∷ past) s))
    by (inr same) before = subst AreDistinct (sym same) before
    by (inl done) before = subst (λ x. AreDistinct (holds_of (history (x ∷ past) s))) (sym done.is) (done-distinct done.pass done.nth done.call done.reply (subst (λ x. IsLegal u (x ∷ past)) done.is legal) before)

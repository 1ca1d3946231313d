-- A map owes nothing: only a pin changes bytes in place.
use Rattle.std.specs.Prelude.{◌≡◌, ℕ, Bool, true, false, cond, ◌==◌, List, [], ◌∷◌, length, refl}
use Rattle.std.specs.declared.option.Option.{Option}
use Rattle.std.specs.declared.option.Option.TheVariants.{Some, None}
use Rattle.std.specs.List.{AllByRecursion, filter}
use Rattle.std.proofs.Common.{sym, inl, inr, subst}
use Rattle.std.proofs.lemmas.Bool.{and_parts, eqb-true}
use Rattle.cc_entry.specs.Kinds.{is_map, is_pin}
use Rattle.cc_entry.specs.declared.call.Call.{Call}
use Rattle.cc_entry.specs.declared.call.Call.TheVariants as call
use Rattle.cc_entry.specs.declared.entry.Entry.{Entry}
use Rattle.cc_entry.specs.declared.entry.Entry.TheVariants as entry
use Rattle.cc_entry.specs.declared.hold.HoldKind.{HoldKind}
use Rattle.cc_entry.specs.declared.hold.HoldKind.TheVariants as kind
use Rattle.cc_entry.specs.declared.reply.Outcome.TheVariants as outcome
use Rattle.cc_entry.specs.declared.reply.Reply.{Reply}
use Rattle.cc_laws.proofs.RoomPasts.{IsGoodSoFar-before}
use Rattle.cc_model.specs.Acts.{file_of}
use Rattle.cc_model.specs.Filing.{serves, IsFiled}
use Rattle.cc_model.specs.Good.{IsGoodSoFar}
use Rattle.cc_model.specs.History.{history}
use Rattle.cc_model.specs.Holds.{Hold, hold_at, changed_at, repinned, id_of, held_after, holds_of}
use Rattle.cc_model.specs.Setup.{Setup}
use Rattle.cc_own.proofs.DistinctIds.{ids-distinct}
use Rattle.cc_own.proofs.FoundHolds.{some-is}
use Rattle.cc_own.proofs.OpenIds.{StepsAt, steps-at, held-done}
use Rattle.cc_own.proofs.OwnHolds.{served-range, filed-at}
use Rattle.cc_step.proofs.HoldSums.{AreDistinct, IsApart, distinct-apart, distinct-rest, changed-apart}

-- a hold owes nothing where it is a map
abbrev OwesAsPin : Hold → Type 0
OwesAsPin hold = is_map hold.kind ≡ true → hold.owed ≡ []

abbrev OweAsPins : List Hold → Type 0
OweAsPins holds = AllByRecursion OwesAsPin holds

-- the kind of a hold that serves
pub serves-kind : (pass : ℕ) (of_kind : HoldKind → Bool) (o : Option Hold) (hold : Hold) → o ≡ Some hold → serves pass of_kind o ≡ true → of_kind hold.kind ≡ true
serves-kind pass of_kind None hold is serves = absurd (cc)
serves-kind pass of_kind (Some other) hold is serves =
    subst (λ (it : Hold). of_kind it.kind ≡ true) (some-is other hold is) (and_parts (other.pass == pass) _ serves).1

as-pins-changed : (id : ℕ) (change : Hold → Hold) (holds : List Hold) → AreDistinct holds → ((hold : Hold) → hold_at holds id ≡ Some hold → OwesAsPin (change hold)) → OweAsPins holds → OweAsPins (changed_at id change holds)
as-pins-changed id change [] distinct changed before = tt
as-pins-changed id change (it ∷ holds) distinct changed before =
    go (it.id == id) refl (λ later. as-pins-changed id change holds (distinct-rest it holds distinct) later before.1)
  where
    go : (b : Bool) → (it.id == id) ≡ b → (((hold : Hold) → hold_at holds id ≡ Some hold → OwesAsPin (change hold)) → OweAsPins (changed_at id change holds)) → OweAsPins (cond b (change it) it ∷ changed_at id change holds)
    go true is rest =
        let apart : IsApart id holds = subst (λ n. IsApart n holds) (eqb-true it.id id is) (distinct-apart it holds distinct) in
        rw (changed-apart id change holds apart) (changed it (rw is refl), before.1)
    go false is rest = (before.0, rest (λ hold found. changed hold (rw is found)))

as-pins-ended : (test : Hold → Bool) (holds : List Hold) → OweAsPins holds → OweAsPins (filter test holds)
as-pins-ended test [] before = tt
as-pins-ended test (it ∷ holds) before = go (test it) (as-pins-ended test holds before.1)
  where
    go : (b : Bool) → OweAsPins (filter test holds) → OweAsPins (cond b (it ∷ filter test holds) (filter test holds))
    go true rest = (before.0, rest)
    go false rest = rest

-- a pin is no map
pin-no-map : (its_kind : HoldKind) → is_pin its_kind ≡ true → is_map its_kind ≡ true → ⊥
pin-no-map kind.Map pin map = absurd (cc)
pin-no-map kind.Pin pin map = absurd (cc)
pin-no-map kind.Repin pin map = absurd (cc)
pin-no-map kind.ReadChain pin map = absurd (cc)
pin-no-map kind.WriteChain pin map = absurd (cc)

as-pins-after : (pass s : ℕ) (it : Call) (id : ℕ) (holds : List Hold) → IsFiled holds pass (Some s) it (file_of it) → AreDistinct holds → OweAsPins holds → OweAsPins (held_after pass it id holds)
as-pins-after pass s (call.Map file at len) id holds filed distinct before = (λ map. refl, before)
as-pins-after pass s (call.PinRead file at len exclusive) id holds filed distinct before = (λ map. refl, before)
as-pins-after pass s (call.PinMapped hold exclusive) id holds filed distinct before =
    as-pins-changed hold _ holds distinct (λ it found map. absurd (pin-no-map kind.Pin refl map)) before
as-pins-after pass s (call.PreparePin file at len true exclusive) id holds filed distinct before =
    (λ map. absurd (pin-no-map kind.Pin refl map), before)
as-pins-after pass s (call.PreparePin file at len false exclusive) id holds filed distinct before = (λ map. refl, before)
as-pins-after pass s (call.PinnedWrite hold at bytes) id holds filed distinct before =
    as-pins-changed hold _ holds distinct
    (λ it found map. absurd (pin-no-map it.kind (serves-kind pass is_pin (hold_at holds hold) it found (served-range pass is_pin at (length bytes) (hold_at holds hold) filed)) map)) before
as-pins-after pass s (call.SetDirty hold lsn) id holds filed distinct before = as-pins-changed hold _ holds distinct (λ it found map. refl) before
as-pins-after pass s (call.EndHold hold) id holds filed distinct before = as-pins-ended _ holds before
as-pins-after pass s (call.Repin hold) id holds filed distinct before = go (hold_at holds hold)
  where
    go : (o : Option Hold) → OweAsPins (repinned id pass o holds)
    go None = before
    go (Some it) = (λ map. refl, before)
as-pins-after pass s (call.MdlRead file at len) id holds filed distinct before = (λ map. refl, before)
as-pins-after pass s (call.MdlWrite file at len) id holds filed distinct before = (λ map. refl, before)
as-pins-after pass s other id holds filed distinct before = before

as-pins-none : OweAsPins (holds_of [])
unfolding holds_of
as-pins-none = tt

as-pins-begun : (s : ℕ) → OweAsPins (holds_of (history [] s))
unfolding history
as-pins-begun s = as-pins-none

as-pins-past : (u : Setup) (past : List Entry) (s : ℕ) → IsGoodSoFar u past → OweAsPins (holds_of (history past s))
as-pins-past u [] s good = as-pins-begun s
as-pins-past u (e ∷ past) s good = by (steps-at s e past) (as-pins-past u past s (IsGoodSoFar-before u past e good))
  where
    done-so : (pass nth : ℕ) (it : Call) (reply : Reply) → IsGoodSoFar u (entry.Call pass nth (Some s) it (outcome.Done reply) ∷ past) → OweAsPins (holds_of (history past s)) → OweAsPins (holds_of (history (entry.Call pass nth (Some s) it (outcome.Done reply) ∷ past) s))
    done-so pass nth it reply good_so before =
        subst OweAsPins (sym (held-done pass nth s it reply past))
        (as-pins-after pass s it (id_of reply) (holds_of (history past s)) (filed-at u pass nth s it (outcome.Done reply) past good_so.allowed)
        (ids-distinct u past s (IsGoodSoFar-before u past e good).legal) before)

    by : StepsAt s e past → OweAsPins (holds_of (history past s)) → OweAsPins (holds_of (history (e ∷ past) s))
    by (inr same) before = subst OweAsPins (sym same) before
    by (inl done) before = subst (λ x. OweAsPins (holds_of (history (x ∷ past) s))) (sym done.is) (done-so done.pass done.nth done.call done.reply (subst (λ x. IsGoodSoFar u (x ∷ past)) done.is good) before)

found-so : (P : Hold → Type 0) (holds : List Hold) (id : ℕ) (hold : Hold) → AllByRecursion P holds → hold_at holds id ≡ Some hold → P hold
found-so P [] id hold each found = absurd (cc)
found-so P (it ∷ holds) id hold each found = go (it.id == id) found (found-so P holds id hold each.1)
  where
    go : (b : Bool) → cond b (Some it) (hold_at holds id) ≡ Some hold → (hold_at holds id ≡ Some hold → P hold) → P hold
    go true found rest = subst P (some-is it hold found) each.0
    go false found rest = rest found

-- so the open map of an id owes nothing
pub map-owes_none : (u : Setup) (past : List Entry) (s id : ℕ) (hold : Hold) → IsGoodSoFar u past → hold_at (holds_of (history past s)) id ≡ Some hold → is_map hold.kind ≡ true → hold.owed ≡ []
map-owes_none u past s id hold good found = found-so OwesAsPin (holds_of (history past s)) id hold (as-pins-past u past s good) found

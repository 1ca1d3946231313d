-- A call that asks a place may find no room and no memory; a set-dirty asks one where its pin owes nothing.
use Rattle.std.specs.Prelude.{◌≡◌, ℕ, ◌<◌, Bool, true, false, cond, not, ◌&&◌, ◌||◌, ◌==◌, List, [], ◌∷◌, Some, refl, if◌then◌else◌}
use Rattle.std.specs.List.{list_any}
use Rattle.std.proofs.Common.{arith}
use Rattle.cc_entry.specs.Kinds.{is_pin}
use Rattle.cc_entry.specs.declared.call.Call.{Call}
use Rattle.cc_entry.specs.declared.call.Call.TheVariants as call
use Rattle.cc_entry.specs.declared.entry.Entry.{Entry}
use Rattle.cc_effects.specs.Refusals.{owes_nothing}
use Rattle.cc_laws.proofs.Lists1.{among-any, among-range}
use Rattle.cc_model.specs.Acts.{file_of}
use Rattle.cc_model.specs.Cache.{all_streams}
use Rattle.cc_model.specs.Filing.{IsFiled, serves}
use Rattle.cc_model.specs.History.{history}
use Rattle.cc_model.specs.Holds.{Hold, hold_at, holds_of}
use Rattle.cc_model.specs.Numbers.{is_empty}
use Rattle.cc_model.specs.Room.{owes_set_dirty}
use Rattle.cc_step.specs.Step.{is_answered, asked_now}
use Rattle.cc_writes.proofs.Refusals.{MayStop, stops-free}

empty : (mine pin none rest : Bool) → (mine && pin) ≡ true → (pin && not none) ≡ false → (none || rest) ≡ true
empty true true true rest serves owes = refl
empty true true false rest serves owes = absurd (cc)
empty true false none rest serves owes = absurd (cc)
empty false pin none rest serves owes = absurd (cc)

-- the open pin of this id is one of the holds, and owes nothing
found-clean : (holds : List Hold) (pass id : ℕ) → serves pass is_pin (hold_at holds id) ≡ true → owes_set_dirty (hold_at holds id) ≡ false → list_any (λ hold. hold.id == id && is_empty hold.owed) holds ≡ true
found-clean [] pass id served owes = absurd (cc)
found-clean (hold ∷ holds) pass id served owes = go (hold.id == id) served owes (λ s o. found-clean holds pass id s o)
  where
    go : (b : Bool) → serves pass is_pin (cond b (Some hold) (hold_at holds id)) ≡ true → owes_set_dirty (cond b (Some hold) (hold_at holds id)) ≡ false → (serves pass is_pin (hold_at holds id) ≡ true → owes_set_dirty (hold_at holds id) ≡ false → list_any (λ x. x.id == id && is_empty x.owed) holds ≡ true) → ((b && is_empty hold.owed) || list_any (λ x. x.id == id && is_empty x.owed) holds) ≡ true
    go true s o rest = empty (hold.pass == pass) (is_pin hold.kind) (is_empty hold.owed) _ s o
    go false s o rest = rest s o

asks-one : (owes : Bool) → 0 < (if owes then 0 else 1) → owes ≡ false
asks-one true asks = absurd (omega (arith, asks))
asks-one false asks = refl

nothing-owed : (past : List Entry) (s pass id : ℕ) → s < 16 → serves pass is_pin (hold_at (holds_of (history past s)) id) ≡ true → 0 < (if owes_set_dirty (hold_at (holds_of (history past s)) id) then 0 else 1) → owes_nothing id past ≡ true
nothing-owed past s pass id known served asks =
    among-any (λ n. list_any (λ hold. hold.id == id && is_empty hold.owed) (holds_of (history past n))) s all_streams
    (among-range s 0 16 (omega arith) (omega (arith, known)))
    (found-clean (holds_of (history past s)) pass id served (asks-one (owes_set_dirty (hold_at (holds_of (history past s)) id)) asks))

pub stops-asked : (past : List Entry) (s pass : ℕ) (it : Call) → s < 16 → is_answered it ≡ true → IsFiled (holds_of (history past s)) pass (Some s) it (file_of it) → 0 < asked_now past s it → MayStop it past
stops-asked past s pass (call.SetDirty hold lsn) known here filed asks = record {
  full = λ entries. refl;
  memoryless = refl;
  wants = nothing-owed past s pass hold known filed asks;
}
stops-asked past s pass (call.EndHold hold) known here filed asks = absurd (omega (arith, asks))
stops-asked past s pass other known here filed asks = stops-free other past here refl

-- What the done calls of a legal journal have room for.
use Rattle.std.specs.Prelude.{◌≡◌, ℕ, Bool, true, false, ◌==◌, List, ◌∷◌, refl, if◌then◌else◌}
use Rattle.std.proofs.Common.{subst}
use Rattle.std.proofs.lemmas.Bool.{eqb-true}
use Rattle.std.specs.declared.option.Option.{Option}
use Rattle.std.specs.declared.option.Option.TheVariants.{Some, None}
use Rattle.cc_entry.specs.declared.reply.Outcome.TheVariants as outcome
use Rattle.cc_entry.specs.declared.entry.Entry.{Entry}
use Rattle.cc_entry.specs.declared.entry.Entry.TheVariants as entry
use Rattle.cc_model.specs.Setup.{Setup}
use Rattle.cc_model.specs.History.{Effect, Did, CameIn, WentOut, Began, Ended, Synced, effect_of, history}
use Rattle.cc_model.specs.Legal.{IsLegal, IsLegalEntry}
use Rattle.cc_model.specs.Allowed.{IsAllowedSoFar}
use Rattle.cc_model.specs.Covered.{IsCovered}
use Rattle.cc_model.specs.Good.{IsGoodSoFar}
use Rattle.cc_laws.proofs.AdmittedCalls.{HasRoomFor, HasRoomFor-admitted}

abbrev pub RoomEffect : List Entry → Effect → List Effect → Type 0
RoomEffect past (Did pass call reply) h = HasRoomFor past h call
RoomEffect past other h = Unit {0}

abbrev pub RoomOption : List Entry → Option Effect → List Effect → Type 0
RoomOption past None h = Unit {0}
RoomOption past (Some e) h = RoomEffect past e h

RoomOption-if : (stream s : ℕ) (past : List Entry) (e : Effect) → RoomEffect past e (history past stream) → RoomOption past (if stream == s then Some e else None) (history past s)
RoomOption-if stream s past e room = go (stream == s) refl
  where
    go : (same : Bool) → (stream == s) ≡ same → RoomOption past (if same then Some e else None) (history past s)
    go true is = subst (λ t. RoomEffect past e (history past t)) (eqb-true stream s is) room
    go false is = tt

RoomOption-entry : (u : Setup) (past : List Entry) (e : Entry) (s : ℕ) → IsLegalEntry u past e → RoomOption past (effect_of e s) (history past s)
unfolding IsLegalEntry
RoomOption-entry u past (entry.Call pass nth (Some stream) call (outcome.Done reply)) s legal =
    RoomOption-if stream s past (Did pass call reply) (HasRoomFor-admitted u past (history past stream) call legal.0)
RoomOption-entry u past (entry.Call pass nth (Some stream) call (outcome.Failed error)) s legal = tt
RoomOption-entry u past (entry.Call pass nth None call ended) s legal = tt
RoomOption-entry u past (entry.PageIn pass page from_disk) s legal = RoomOption-if page.stream s past (CameIn pass page.page from_disk) tt
RoomOption-entry u past (entry.PageOut pass page) s legal = RoomOption-if page.stream s past (WentOut pass page.page) tt
RoomOption-entry u past (entry.WriteBegin pass page) s legal = RoomOption-if page.stream s past (Began pass page.page) tt
RoomOption-entry u past (entry.WriteEnd pass page how) s legal = RoomOption-if page.stream s past (Ended pass page.page how) tt
RoomOption-entry u past (entry.Sync pass stream how) s legal = RoomOption-if stream s past (Synced pass how) tt
RoomOption-entry u past other s legal = tt

pub RoomOption-legal : (u : Setup) (past : List Entry) (e : Entry) (s : ℕ) → IsLegal u (e ∷ past) → RoomOption past (effect_of e s) (history past s)
unfolding IsLegal
RoomOption-legal u past e s legal = RoomOption-entry u past e s legal.0

pub IsLegal-before : (u : Setup) (past : List Entry) (e : Entry) → IsLegal u (e ∷ past) → IsLegal u past
unfolding IsLegal
IsLegal-before u past e legal = legal.1

pub IsGoodSoFar-before : (u : Setup) (past : List Entry) (e : Entry) → IsGoodSoFar u (e ∷ past) → IsGoodSoFar u past
unfolding IsLegal IsAllowedSoFar IsCovered
IsGoodSoFar-before u past e good = record { legal = good.legal.1; allowed = good.allowed.2; covered = good.covered.1 }

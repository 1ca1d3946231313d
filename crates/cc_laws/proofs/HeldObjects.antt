-- A stream with an open hold has an open object.
use Rattle.std.specs.Prelude.{◌≡◌, ℕ, true, List, [], ◌∷◌, refl}
use Rattle.std.proofs.Common.{ap, sym, ◌∙◌}
use Rattle.std.specs.declared.option.Option.{Option}
use Rattle.std.specs.declared.option.Option.TheVariants.{Some, None}
use Rattle.std.specs.List.{cons_option}
use Rattle.cc_entry.specs.declared.call.Call.{Call}
use Rattle.cc_entry.specs.declared.call.Call.TheVariants as call
use Rattle.cc_entry.specs.declared.reply.Reply.{Reply}
use Rattle.cc_entry.specs.declared.entry.Entry.{Entry}
use Rattle.cc_model.specs.Setup.{Setup}
use Rattle.cc_model.specs.History.{Effect, Did, effect_of, history}
use Rattle.cc_model.specs.Objects.{objects}
use Rattle.cc_model.specs.Holds.{Hold, holds_of, id_of, held_after, lesser, least_id}
use Rattle.cc_model.specs.Conflicts.{held_by}
use Rattle.cc_model.specs.Good.{IsGoodSoFar}
use Rattle.cc_laws.proofs.HoldSteps.{holds_of-done}
use Rattle.cc_laws.proofs.Steady.{IsSteadyCall, IsSteadyEffect, IsSteady}
use Rattle.cc_laws.proofs.SteadyPasts.{IsSteady-good}
use Rattle.cc_laws.proofs.AdmittedCalls.{HasRoomFor}
use Rattle.cc_laws.proofs.RoomPasts.{RoomEffect, RoomOption, RoomOption-legal, IsGoodSoFar-before}

-- where no hold may be open, none is
none_held : (holds : List Hold) → held_by (least_id (λ hold. true) holds) ≡ None → holds ≡ []
none_held [] e = refl
none_held (hold ∷ holds) e = go (least_id (λ hold. true) holds) e
  where
    go : (o : Option ℕ) → held_by (lesser hold.id o) ≡ None → (hold ∷ holds) ≡ []
    go None e = absurd (cc)
    go (Some m) e = absurd (cc)

abbrev pub HoldsAsOpen : List Effect → Type 0
HoldsAsOpen h = objects h ≡ [] → holds_of h ≡ []

-- a done call that leaves the objects
HoldsAsOpen-kept : (pass : ℕ) (call : Call) (reply : Reply) (h : List Effect) → objects (Did pass call reply ∷ h) ≡ objects h → IsSteadyCall h call → HoldsAsOpen h → HoldsAsOpen (Did pass call reply ∷ h)
HoldsAsOpen-kept pass call reply h same steady before none =
    let was : objects h ≡ [] = sym same ∙ none in
    let free : holds_of h ≡ [] = before was in
    holds_of-done pass call reply h ∙ (ap (held_after pass call (id_of reply)) free ∙ steady.unheld was free pass (id_of reply))

HoldsAsOpen-done : (past : List Entry) (pass : ℕ) (call : Call) (reply : Reply) (h : List Effect) → HasRoomFor past h call → IsSteadyCall h call → HoldsAsOpen h → HoldsAsOpen (Did pass call reply ∷ h)
unfolding objects holds_of
HoldsAsOpen-done past pass (call.Initialise file sizes quota temporary) reply h room steady before none = absurd (cc)
HoldsAsOpen-done past pass (call.Uninitialise file truncate) reply h room steady before none =
    none_held (holds_of h) (rw none at room.unheld)
HoldsAsOpen-done past pass (call.PreparePin file at len true exclusive) reply h room steady before none =
    HoldsAsOpen-kept pass (call.PreparePin file at len true exclusive) reply h refl steady before none
HoldsAsOpen-done past pass other reply h room steady before none = HoldsAsOpen-kept pass other reply h refl steady before none

HoldsAsOpen-effect : (past : List Entry) (e : Effect) (h : List Effect) → RoomEffect past e h → IsSteadyEffect e h → HoldsAsOpen h → HoldsAsOpen (e ∷ h)
unfolding objects holds_of
HoldsAsOpen-effect past (Did pass call reply) h room steady before = HoldsAsOpen-done past pass call reply h room steady before
HoldsAsOpen-effect past other h room steady before = before

HoldsAsOpen-onto : (past : List Entry) (o : Option Effect) (h : List Effect) → RoomOption past o h → IsSteady (cons_option o h) → HoldsAsOpen h → HoldsAsOpen (cons_option o h)
HoldsAsOpen-onto past None h room steady before = before
HoldsAsOpen-onto past (Some e) h room steady before = HoldsAsOpen-effect past e h room steady.0 before

pub HoldsAsOpen-good : (u : Setup) (past : List Entry) (s : ℕ) → IsGoodSoFar u past → HoldsAsOpen (history past s)
unfolding history objects holds_of
HoldsAsOpen-good u [] s good = λ none. refl
HoldsAsOpen-good u (e ∷ past) s good =
    HoldsAsOpen-onto past (effect_of e s) (history past s) (RoomOption-legal u past e s good.legal) (IsSteady-good u (e ∷ past) s good) (HoldsAsOpen-good u past s (IsGoodSoFar-before u past e good))

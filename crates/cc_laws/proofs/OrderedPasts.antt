-- The order of use at every place of a legal journal.
use Rattle.std.specs.Prelude.{ℕ, List, [], ◌∷◌}
use Rattle.std.specs.declared.option.Option.{Option}
use Rattle.std.specs.declared.option.Option.TheVariants.{Some, None}
use Rattle.std.specs.List.{cons_option}
use Rattle.cc_entry.specs.declared.call.Call.TheVariants as call
use Rattle.cc_entry.specs.declared.entry.Entry.{Entry}
use Rattle.cc_model.specs.Setup.{Setup}
use Rattle.cc_model.specs.History.{Effect, Did, effect_of, history}
use Rattle.cc_model.specs.Touches.{size_of}
use Rattle.cc_model.specs.Legal.{IsLegal}
use Rattle.cc_laws.specs.Facts.{IsOrderOfMapped}
use Rattle.cc_laws.proofs.AdmittedCalls.{stores_below}
use Rattle.cc_laws.proofs.RoomPasts.{RoomEffect, RoomOption, RoomOption-legal, IsLegal-before}
use Rattle.cc_laws.proofs.OrderOfUse.{StoresBelow, IsOrderOfMapped-none, IsOrderOfMapped-effect}

StoresBelow-room : (past : List Entry) (e : Effect) (h : List Effect) → RoomEffect past e h → StoresBelow e h
StoresBelow-room past (Did pass (call.NcStore file page bytes) reply) h room = stores_below (size_of h) page _ room.within
StoresBelow-room past other h room = tt

IsOrderOfMapped-onto : (past : List Entry) (o : Option Effect) (h : List Effect) → RoomOption past o h → IsOrderOfMapped h → IsOrderOfMapped (cons_option o h)
IsOrderOfMapped-onto past None h room before = before
IsOrderOfMapped-onto past (Some e) h room before = IsOrderOfMapped-effect e h (StoresBelow-room past e h room) before

pub IsOrderOfMapped-legal : (u : Setup) (past : List Entry) (s : ℕ) → IsLegal u past → IsOrderOfMapped (history past s)
unfolding history
IsOrderOfMapped-legal u [] s legal = IsOrderOfMapped-none
IsOrderOfMapped-legal u (e ∷ past) s legal =
    IsOrderOfMapped-onto past (effect_of e s) (history past s) (RoomOption-legal u past e s legal) (IsOrderOfMapped-legal u past s (IsLegal-before u past e legal))

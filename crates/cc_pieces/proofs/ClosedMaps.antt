-- In a good journal an uninitialise tells whether the shared map went.
use Rattle.std.specs.Prelude.{◌≡◌, ℕ, Bool, not, List, ◌∷◌, ◌++◌}
use Rattle.std.specs.declared.option.Option.{Option}
use Rattle.std.specs.declared.option.Option.TheVariants.{Some}
use Rattle.cc_entry.specs.Place.{File}
use Rattle.cc_entry.specs.declared.call.Call.TheVariants as call
use Rattle.cc_entry.specs.declared.reply.Reply.TheVariants as reply
use Rattle.cc_entry.specs.declared.query.Value.TheVariants as value
use Rattle.cc_entry.specs.declared.reply.Outcome.TheVariants as outcome
use Rattle.cc_entry.specs.declared.answer.Answer.TheVariants as answer
use Rattle.cc_entry.specs.declared.entry.Entry.{Entry}
use Rattle.cc_entry.specs.declared.entry.Entry.TheVariants as entry
use Rattle.cc_script.specs.declared.script.Action.TheVariants as action
use Rattle.cc_model.specs.Setup.{Setup}
use Rattle.cc_model.specs.History.{Did, history}
use Rattle.cc_model.specs.Touches.{is_mapped}
use Rattle.cc_model.specs.Legal.{IsLegal, IsLegalEntry}
use Rattle.cc_model.specs.Good.{IsGood}
use Rattle.cc_effects.proofs.FrontLaws.{legal-tail}
use Rattle.cc_pieces.specs.Bindings.{Binding}
use Rattle.cc_pieces.specs.Runs.{Explains}

close-legal : (u : Setup) (me nth : ℕ) (file : File) (truncate : Option ℕ) (gone : Bool) (front : List Entry) → IsLegal u (entry.Call me nth (Some file.stream) (call.Uninitialise file truncate) (outcome.Done (reply.Value (value.Flag gone))) ∷ front) → gone ≡ not (is_mapped (Did me (call.Uninitialise file truncate) (reply.Value (value.Flag gone)) ∷ history front file.stream))
unfolding IsLegal IsLegalEntry
close-legal u me nth file truncate gone front legal = let same = legal.0.1 in cc same

pub close-tells : (u : Setup) (limit me : ℕ) (bindings : List Binding) (file : File) (truncate : Option ℕ) (gone : Bool) (old new newer : List Entry) → IsGood u (newer ++ new) → Explains u limit me bindings (action.Uninitialise file truncate) (answer.Given (reply.Value (value.Flag gone))) old new → (nth : ℕ) × (later : List Entry) × (earlier : List Entry) × (new ≡ later ++ (entry.Call me nth (Some file.stream) (call.Uninitialise file truncate) (outcome.Done (reply.Value (value.Flag gone))) ∷ (earlier ++ old))) × (gone ≡ not (is_mapped (Did me (call.Uninitialise file truncate) (reply.Value (value.Flag gone)) ∷ history (earlier ++ old) file.stream)))
close-tells u limit me bindings file truncate gone old new newer good explains =
    let done = explains.served in
    let placed = done.placed in
    let tail : IsLegal u new = legal-tail u newer new good.legal in
    let grew : new ≡ placed.later ++ (entry.Call me placed.nth (Some file.stream) (call.Uninitialise file truncate) (outcome.Done (reply.Value (value.Flag gone))) ∷ (done.earlier ++ old)) = rw placed.filed at placed.grew in
    let front : IsLegal u (entry.Call me placed.nth (Some file.stream) (call.Uninitialise file truncate) (outcome.Done (reply.Value (value.Flag gone))) ∷ (done.earlier ++ old)) = legal-tail u placed.later _ (rw grew at tail) in
    (placed.nth, placed.later, done.earlier, grew, close-legal u me placed.nth file truncate gone (done.earlier ++ old) front)

-- A copied read in a good journal answers the plain file's bytes: of its own line, of one that may be queued, and completed.
use Rattle.std.specs.Prelude.{◌≡◌, ℕ, Bool, true, false, List, ◌∷◌, ◌++◌, Ok}
use Rattle.std.specs.declared.option.Option.TheVariants.{Some}
use Rattle.cc_entry.specs.Place.{File}
use Rattle.cc_entry.specs.declared.call.Call.TheVariants as call
use Rattle.cc_entry.specs.declared.reply.Reply.TheVariants as reply
use Rattle.cc_entry.specs.declared.reply.Outcome.TheVariants as outcome
use Rattle.cc_entry.specs.declared.answer.Answer.TheVariants as answer
use Rattle.cc_entry.specs.declared.answer.AsyncDone.{AsyncDone}
use Rattle.cc_entry.specs.declared.answer.AsyncStart.TheVariants as start
use Rattle.cc_entry.specs.declared.entry.Entry.{Entry}
use Rattle.cc_entry.specs.declared.entry.Entry.TheVariants as entry
use Rattle.cc_script.specs.declared.script.Action.TheVariants as action
use Rattle.cc_model.specs.Setup.{Setup}
use Rattle.cc_model.specs.History.{history}
use Rattle.cc_model.specs.Replies.{Reads}
use Rattle.cc_model.specs.Legal.{IsLegal, IsLegalEntry}
use Rattle.cc_model.specs.Good.{IsGood}
use Rattle.cc_effects.specs.Calls.{CallLeft}
use Rattle.cc_effects.proofs.FrontLaws.{legal-tail}
use Rattle.cc_pieces.specs.Answered.{bytes_outcome}
use Rattle.cc_pieces.specs.Bindings.{Binding}
use Rattle.cc_pieces.specs.PlainReads.{IsPlainRead}
use Rattle.cc_pieces.specs.Runs.{Explains}

read-legal : (u : Setup) (me nth : ℕ) (file : File) (at len : ℕ) (wait : Bool) (bytes : List ℕ) (front : List Entry) → IsLegal u (entry.Call me nth (Some file.stream) (call.CopyRead file at len wait) (outcome.Done (reply.Read bytes)) ∷ front) → Reads (u.opening file.stream) (history front file.stream) at len (reply.Read bytes)
unfolding IsLegal IsLegalEntry
read-legal u me nth file at len wait bytes front legal = legal.0.1

-- what a copied read left that is done
call-plain : (u : Setup) (me : ℕ) (file : File) (at len : ℕ) (wait : Bool) (bytes : List ℕ) (old new newer : List Entry) → IsGood u (newer ++ new) → CallLeft u me (call.CopyRead file at len wait) (outcome.Done (reply.Read bytes)) old new → IsPlainRead u me file at len wait bytes old new
call-plain u me file at len wait bytes old new newer good done =
    let placed = done.placed in
    let tail : IsLegal u new = legal-tail u newer new good.legal in
    let grew : new ≡ placed.later ++ (entry.Call me placed.nth (Some file.stream) (call.CopyRead file at len wait) (outcome.Done (reply.Read bytes)) ∷ (done.earlier ++ old)) = rw placed.filed at placed.grew in
    let front : IsLegal u (entry.Call me placed.nth (Some file.stream) (call.CopyRead file at len wait) (outcome.Done (reply.Read bytes)) ∷ (done.earlier ++ old)) = legal-tail u placed.later _ (rw grew at tail) in
    record { nth = placed.nth; later = placed.later; earlier = done.earlier; grew = grew; plain = read-legal u me placed.nth file at len wait bytes (done.earlier ++ old) front }

pub read-plain : (u : Setup) (limit me : ℕ) (bindings : List Binding) (file : File) (at len : ℕ) (wait : Bool) (bytes : List ℕ) (old new newer : List Entry) → IsGood u (newer ++ new) → Explains u limit me bindings (action.CopyRead file at len wait) (answer.Given (reply.Read bytes)) old new → IsPlainRead u me file at len wait bytes old new
read-plain u limit me bindings file at len wait bytes old new newer good explains = call-plain u me file at len wait bytes old new newer good explains.served

pub ready-plain : (u : Setup) (limit me : ℕ) (bindings : List Binding) (file : File) (at len : ℕ) (bytes : List ℕ) (old new newer : List Entry) → IsGood u (newer ++ new) → Explains u limit me bindings (action.AsyncRead file at len) (answer.Started (start.Ready bytes)) old new → IsPlainRead u me file at len false bytes old new
ready-plain u limit me bindings file at len bytes old new newer good explains = call-plain u me file at len false bytes old new newer good explains.served

pub completed-plain : (u : Setup) (limit me : ℕ) (bindings : List Binding) (done : AsyncDone) (bytes : List ℕ) (old new newer : List Entry) → IsGood u (newer ++ new) → done.answer ≡ Ok bytes → Explains u limit me bindings action.Complete (answer.Completed (Some done)) old new → IsPlainRead u me done.file done.at done.len true bytes old new
completed-plain u limit me bindings done bytes old new newer good is explains =
    let left : CallLeft u me (call.CopyRead done.file done.at done.len true) (bytes_outcome done.answer) old new = explains.served in
    call-plain u me done.file done.at done.len true bytes old new newer good (rw is at left)

-- The journal grows by what a call leaves.
use Rattle.std.specs.Prelude.{ℕ, List, ◌∷◌, ◌++◌, refl}
use Rattle.std.proofs.Common.{ap, sym, ◌∙◌, append_assoc}
use Rattle.cc_entry.specs.declared.call.Call.{Call}
use Rattle.cc_entry.specs.declared.entry.Entry.{Entry}
use Rattle.cc_entry.specs.declared.entry.Entry.TheVariants as entry
use Rattle.cc_entry.specs.declared.error.CcError.TheVariants as error
use Rattle.cc_entry.specs.declared.reply.Outcome.{Outcome}
use Rattle.cc_entry.specs.declared.reply.Outcome.TheVariants as outcome
use Rattle.cc_model.specs.Passes.{HasSeen}
use Rattle.cc_model.specs.Setup.{Setup}
use Rattle.cc_effects.specs.Calls.{CallLeft, IsPlaced}
use Rattle.cc_effects.specs.Moments.{PlacedOnly}
use Rattle.cc_effects.proofs.FrontLaws.{placed-of}

grew-placed : (me : ℕ) (it : Call) (ended : Outcome) (earlier old new : List Entry) → IsPlaced me it ended earlier old new → HasSeen old new
grew-placed me it ended earlier old new p =
    let mine = entry.Call me p.nth p.stream it ended in
    record { later = p.later ++ (mine ∷ earlier); grew = p.grew ∙ sym (append_assoc p.later (mine ∷ earlier) old) }

pub grew-call : (u : Setup) (me : ℕ) (it : Call) (ended : Outcome) (old new : List Entry) → CallLeft u me it ended old new → HasSeen old new
grew-call u me it (outcome.Done r) old new left = grew-placed me it (outcome.Done r) left.earlier old new left.placed
grew-call u me it (outcome.Failed (error.JournalFull entries)) old new left = record { later = left.during; grew = left.grew }
grew-call u me it (outcome.Failed error.NoMemory) old new left = record { later = left.during; grew = left.grew }
grew-call u me it (outcome.Failed e) old new left =
    let p = placed-of u me it (outcome.Failed e) old new left refl in
    grew-placed me it (outcome.Failed e) p.0 old new p.1

pub grew-only : (me : ℕ) (e : Entry) (old new : List Entry) → PlacedOnly me e old new → HasSeen old new
grew-only me e old new only = record { later = only.later ++ (e ∷ only.earlier); grew = only.grew ∙ sym (append_assoc only.later (e ∷ only.earlier) old) }

pub grew-then : (old between new : List Entry) → HasSeen old between → HasSeen between new → HasSeen old new
grew-then old between new first second = record {
  later = second.later ++ first.later;
  grew = second.grew ∙ (ap (λ l. second.later ++ l) first.grew ∙ sym (append_assoc second.later first.later old));
}

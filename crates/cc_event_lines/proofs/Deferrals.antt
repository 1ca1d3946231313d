-- What a deferral and a post leave of the World and of the routines.
use Rattle.std.specs.Prelude.{◌≡◌, ℕ, Bool, false, List, [], ◌∷◌, ◌++◌, drop, refl, slice_get, if◌then◌else◌}
use Rattle.std.specs.declared.option.Option.TheVariants.{Some, None}
use Rattle.std.proofs.Common.{ap, subst, sym, ◌∙◌}
use Rattle.std.proofs.lemmas.List.{map-append}
use Rattle.cc_entry.specs.Place.{File}
use Rattle.cc_entry.specs.declared.answer.Answer.TheVariants as answer
use Rattle.cc_entry.specs.declared.entry.Entry.{Entry}
use Rattle.cc_entry.specs.declared.entry.Entry.TheVariants as entry
use Rattle.cc_entry.specs.declared.error.CcError.{CcError}
use Rattle.cc_entry.specs.declared.error.CcError.TheVariants as error
use Rattle.cc_entry.specs.declared.hold.Deferral.{Deferral}
use Rattle.cc_model.specs.Setup.{Setup}
use Rattle.cc_model.specs.Throttle.{deferred, pages_for}
use Rattle.cc_pieces.specs.Steps.{was_posted}
use Rattle.cc_turns.specs.Desk.{Tells}
use Rattle.cc_pieces.specs.Moments.{EventLeft}
use Rattle.cc_world.specs.World.{WorldState}
use Rattle.cc_effects.specs.declared.events.Event.TheVariants as event
use Rattle.cc_effects.specs.declared.events.StepReply.TheVariants as step
use Rattle.cc_event_lines.specs.Happening.{HasHappened}
use Rattle.cc_event_lines.specs.Lines.{EventWent, RoutinesWent}
use Rattle.cc_event_lines.specs.Routines.{IsQuiet, RoutinesStand, RoutinesState, come_back, deferrals_of_slots}
use Rattle.cc_event_lines.specs.declared.routines.RoutineSlot.{RoutineSlot}
use Rattle.cc_event_lines.proofs.RoutineSteps.{stand-deferred, stand-quiet, stand-refused, taken}
use Rattle.cc_event_lines.proofs.RoutineEnds.{deferrals-back, stand-posted, unposted-at}
use Rattle.cc_turns.specs.Slots.{setup_in}

-- the routine that is next was not posted
pub next-unposted : {Q : Type 0} (posted : Q → Bool) (past : List Entry) (queue : List (Deferral × Q)) (r : RoutinesState Q) (routine : Q) (rest : List Q) → RoutinesStand posted past queue r → r.unused ≡ routine ∷ rest → posted routine ≡ false
next-unposted {Q} posted past queue r routine rest stand next =
    unposted-at posted past queue r stand _ routine (sym (stand.unused 0) ∙ ap (λ (u : List Q). slice_get u 0) next)

nothing-more : {A : Type 0} (xs : List A) → xs ≡ xs ++ []
nothing-more [] = refl
nothing-more (x ∷ xs) = ap (λ ys. x ∷ ys) (nothing-more xs)

-- The routines behind an event that left them as they were.
pub routines-kept : {D L Q : Type 0} (tells : Tells D L Q) (w v : WorldState D L Q) (r : RoutinesState Q) → IsQuiet w.journal.entries v.journal.entries → v.journal.queue ≡ w.journal.queue → RoutinesStand tells.posted w.journal.entries w.journal.queue r → RoutinesWent tells [] v r r
routines-kept tells w v r quiet same stand = record {
  stand = stand-quiet tells.posted w.journal.entries v.journal.entries w.journal.queue v.journal.queue r quiet same stand;
  deferrals = nothing-more (deferrals_of_slots r.slots);
  handed = refl;
}

pub still-quiet : (old new : List Entry) → new ≡ old → IsQuiet old new
still-quiet old new same = record { deferred_is = ap deferred same; posted_is = λ id. ap (λ (p : List Entry). was_posted p (Some (Some id))) same }

-- A refusal of a deferral, or of a post, places nothing.
deferral-refused : (u : Setup) (pass : ℕ) (file : File) (bytes : ℕ) (retrying : Bool) (e : CcError) (old new : List Entry) → EventLeft {Q = Unit {0}} u (event.Defer pass file bytes retrying tt) (step.Refused e) old new → new ≡ old
deferral-refused u pass file bytes retrying (error.JournalFull entries) old new left = left.3
deferral-refused u pass file bytes retrying error.NoMemory old new left = left.2 ∙ ap (λ (added : List Entry). added ++ old) left.1
deferral-refused u pass file bytes retrying error.NotCached old new left = left.2.2 ∙ ap (λ (added : List Entry). added ++ old) left.2.1.1
deferral-refused u pass file bytes retrying error.QueueFull old new left = left.2.2 ∙ ap (λ (added : List Entry). added ++ old) left.2.1.2
deferral-refused u pass file bytes retrying other old new left = absurd left.2.1

post-refused : (u : Setup) (pass : ℕ) (e : CcError) (old new : List Entry) → EventLeft {Q = Unit {0}} u (event.Post pass) (step.Refused e) old new → new ≡ old
post-refused u pass (error.JournalFull entries) old new left = left.3
post-refused u pass error.NoMemory old new left = left.2 ∙ ap (λ (added : List Entry). added ++ old) left.1
post-refused u pass other old new left = absurd left.2.1

-- what is kept of the routine that was taken out
kept-so : {Q : Type 0} (r next s : RoutinesState Q) (slot : RoutineSlot Q) → next ≡ record r { unused = next.unused } → s ≡ record next { slots = next.slots ++ slot ∷ [] } → s ≡ taken r next.unused slot
kept-so {Q} r next s slot rest kept = kept ∙ ap (λ (x : RoutinesState Q). record x { slots = x.slots ++ slot ∷ [] }) rest

deferrals-so : {Q : Type 0} (r s : RoutinesState Q) (rest : List Q) (slot : RoutineSlot Q) → s ≡ taken r rest slot → deferrals_of_slots s.slots ≡ deferrals_of_slots r.slots ++ slot.deferral ∷ []
deferrals-so {Q} r s rest slot is = ap (λ (x : RoutinesState Q). deferrals_of_slots x.slots) is ∙ map-append (λ (x : RoutineSlot Q). x.deferral) r.slots (slot ∷ [])

-- A deferral that was done: its routine waits.
pub went-deferred : {D L Q : Type 0} (tells : Tells D L Q) (w v : WorldState D L Q) (pass : ℕ) (file : File) (bytes : ℕ) (retrying : Bool) (routine : Q) (id : ℕ) (r next s : RoutinesState Q) → HasHappened tells (event.Defer pass file bytes retrying routine) (step.Deferred id) w v → RoutinesStand tells.posted w.journal.entries w.journal.queue r → r.unused ≡ routine ∷ next.unused → next ≡ record r { unused = next.unused } → s ≡ record next { slots = next.slots ++ record { deferral = Some id; routine = None } ∷ [] } → EventWent tells (event.Defer pass file bytes retrying tt) (Some id ∷ []) (answer.Deferred id) w v r s
went-deferred {D} {L} {Q} tells w v pass file bytes retrying routine id r next s happened stand at rest kept =
    let is = kept-so r next s (record { deferral = Some id; routine = None }) rest kept in
    let placed : v.journal.entries ≡ entry.Defer pass id file (pages_for bytes) retrying ∷ w.journal.entries =
    happened.left.2.2 ∙ ap (λ (added : List Entry). added ++ w.journal.entries) happened.left.2.1.1 in
    let behind = stand-deferred tells.posted w.journal.entries w.journal.queue r routine next.unused pass id file (pages_for bytes) retrying at happened.left.2.1.0 stand in
    record {
      answered = record { reply = step.Deferred id; answer_is = refl; left = happened.left };
      begun = happened.begun;
      routines = record {
        stand = subst (λ (x : RoutinesState Q). RoutinesStand tells.posted v.journal.entries v.journal.queue x) (sym is)
            (subst (λ (q : List (Deferral × Q)). RoutinesStand tells.posted v.journal.entries q (taken r next.unused (record { deferral = Some id; routine = None }))) (sym happened.queued)
            (subst (λ (p : List Entry). RoutinesStand tells.posted p (if retrying then (record { id = id; file = file; pages = pages_for bytes }, routine) ∷ w.journal.queue else w.journal.queue ++ (record { id = id; file = file; pages = pages_for bytes }, routine) ∷ []) (taken r next.unused (record { deferral = Some id; routine = None }))) (sym placed) behind));
        deferrals = deferrals-so r s next.unused (record { deferral = Some id; routine = None }) is;
        handed = ap (λ (x : RoutinesState Q). x.handed) is;
      };
    }

-- A deferral that was refused: its routine is kept.
pub went-refused : {D L Q : Type 0} (tells : Tells D L Q) (w v : WorldState D L Q) (pass : ℕ) (file : File) (bytes : ℕ) (retrying : Bool) (routine back : Q) (e : CcError) (r next s : RoutinesState Q) → HasHappened tells (event.Defer pass file bytes retrying routine) (step.Kept back e) w v → RoutinesStand tells.posted w.journal.entries w.journal.queue r → r.unused ≡ routine ∷ next.unused → next ≡ record r { unused = next.unused } → s ≡ record next { slots = next.slots ++ record { deferral = None; routine = Some back } ∷ [] } → EventWent tells (event.Defer pass file bytes retrying tt) (None ∷ []) (answer.Refused e) w v r s
went-refused {D} {L} {Q} tells w v pass file bytes retrying routine back e r next s happened stand at rest kept =
    let is : s ≡ taken r next.unused (record { deferral = None; routine = Some routine }) =
    kept-so r next s (record { deferral = None; routine = Some back }) rest kept
    ∙ ap (λ (q : Q). taken r next.unused (record { deferral = None; routine = Some q })) happened.queued.0 in
    let placed = deferral-refused (setup_in tells w.begun) pass file bytes retrying e w.journal.entries v.journal.entries happened.left in
    let behind = stand-refused tells.posted w.journal.entries v.journal.entries w.journal.queue v.journal.queue r routine next.unused at placed happened.queued.1 stand in
    record {
      answered = record { reply = step.Refused e; answer_is = refl; left = happened.left };
      begun = happened.begun;
      routines = record {
        stand = subst (λ (x : RoutinesState Q). RoutinesStand tells.posted v.journal.entries v.journal.queue x) (sym is) behind;
        deferrals = deferrals-so r s next.unused (record { deferral = None; routine = Some routine }) is;
        handed = ap (λ (x : RoutinesState Q). x.handed) is;
      };
    }

-- A post: its routine is back at its place.
pub went-posted : {D L Q : Type 0} (tells : Tells D L Q) (w v : WorldState D L Q) (pass : ℕ) (id : ℕ) (routine : Q) (r s : RoutinesState Q) (ids : List ℕ) → HasHappened tells (event.Post pass) (step.Posted (Some (record { id = id; routine = routine }))) w v → RoutinesStand tells.posted w.journal.entries w.journal.queue r → s ≡ record r { slots = come_back id routine r.slots } → ids ≡ id ∷ [] → EventWent tells (event.Post pass) [] (answer.Posts ids) w v r s
went-posted {D} {L} {Q} tells w v pass id routine r s ids happened stand is alone =
    let placed : v.journal.entries ≡ entry.Posted id ∷ w.journal.entries =
    happened.left.2.2 ∙ ap (λ (added : List Entry). added ++ w.journal.entries) happened.left.2.1 in
    let behind = stand-posted tells.posted w.journal.entries w.journal.queue r id routine happened.queued.0 happened.queued.1 stand in
    record {
      answered = record { reply = step.Posted (Some (record { id = id; routine = tt })); answer_is = ap (λ (ns : List ℕ). answer.Posts ns) alone; left = happened.left };
      begun = happened.begun;
      routines = record {
        stand = subst (λ (x : RoutinesState Q). RoutinesStand tells.posted v.journal.entries v.journal.queue x) (sym is)
            (subst (λ (q : List (Deferral × Q)). RoutinesStand tells.posted v.journal.entries q (record r { slots = come_back id routine r.slots })) (sym happened.queued.2)
            (subst (λ (p : List Entry). RoutinesStand tells.posted p (drop 1 w.journal.queue) (record r { slots = come_back id routine r.slots })) (sym placed) behind));
        deferrals = ap (λ (x : RoutinesState Q). deferrals_of_slots x.slots) is ∙ (deferrals-back id routine r.slots ∙ nothing-more (deferrals_of_slots r.slots));
        handed = ap (λ (x : RoutinesState Q). x.handed) is;
      };
    }

-- A post that found nothing to post, and one that was refused.
pub went-none : {D L Q : Type 0} (tells : Tells D L Q) (w v : WorldState D L Q) (pass : ℕ) (r : RoutinesState Q) → HasHappened tells (event.Post pass) (step.Posted None) w v → RoutinesStand tells.posted w.journal.entries w.journal.queue r → EventWent tells (event.Post pass) [] (answer.Posts []) w v r r
went-none tells w v pass r happened stand =
    let placed : v.journal.entries ≡ w.journal.entries =
    happened.left.2.2 ∙ ap (λ (added : List Entry). added ++ w.journal.entries) happened.left.2.1.1 in
    record {
      answered = record { reply = step.Posted None; answer_is = refl; left = happened.left };
      begun = happened.begun;
      routines = routines-kept tells w v r (still-quiet w.journal.entries v.journal.entries placed) happened.queued stand;
    }

pub went-not : {D L Q : Type 0} (tells : Tells D L Q) (w v : WorldState D L Q) (pass : ℕ) (e : CcError) (r : RoutinesState Q) → HasHappened tells (event.Post pass) (step.Refused e) w v → RoutinesStand tells.posted w.journal.entries w.journal.queue r → EventWent tells (event.Post pass) [] (answer.Refused e) w v r r
went-not tells w v pass e r happened stand =
    let placed = post-refused (setup_in tells w.begun) pass e w.journal.entries v.journal.entries happened.left in
    record {
      answered = record { reply = step.Refused e; answer_is = refl; left = happened.left };
      begun = happened.begun;
      routines = routines-kept tells w v r (still-quiet w.journal.entries v.journal.entries placed) happened.queued stand;
    }

-- Where there is no memory for the number of a post, nothing happened.
pub went-wanting : {D L Q : Type 0} (tells : Tells D L Q) (w : WorldState D L Q) (pass : ℕ) (r : RoutinesState Q) → RoutinesStand tells.posted w.journal.entries w.journal.queue r → EventWent tells (event.Post pass) [] (answer.Refused error.NoMemory) w w r r
went-wanting tells w pass r stand = record {
  answered = record { reply = step.Refused error.NoMemory; answer_is = refl; left = ([], refl, refl) };
  begun = refl;
  routines = routines-kept tells w w r (still-quiet w.journal.entries w.journal.entries refl) refl stand;
}

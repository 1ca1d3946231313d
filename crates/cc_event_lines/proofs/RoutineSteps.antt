-- How the routines go on standing: behind an event that neither defers nor posts, behind a deferral that was done or
-- refused, and behind a post.
use Rattle.std.specs.Prelude.{◌≡◌, ℕ, zero, suc, ◌+◌, ◌<◌, ◌≤◌, Bool, true, false, List, [], ◌∷◌, ◌++◌, drop, length, slice_get, refl, if◌then◌else◌, ◌⊎◌}
use Rattle.std.specs.declared.option.Option.{Option}
use Rattle.std.specs.declared.option.Option.TheVariants.{Some, None}
use Rattle.std.specs.Option.{option_map}
use Rattle.std.proofs.Common.{ap, arith, inl, inr, length-append, subst, sym, ◌∙◌, ⊎_elim}
use Rattle.std.proofs.lemmas.List.{length-map, map-append}
use Rattle.std.proofs.lemmas.Option.{slice_get-map, slice_get_within}
use Rattle.cc_entry.specs.Place.{File}
use Rattle.cc_entry.specs.declared.entry.Entry.{Entry}
use Rattle.cc_entry.specs.declared.entry.Entry.TheVariants as entry
use Rattle.cc_entry.specs.declared.hold.Deferral.{Deferral}
use Rattle.cc_laws.proofs.QueueSteps.{deferred-deferred}
use Rattle.cc_model.specs.Throttle.{deferred}
use Rattle.cc_pieces.specs.Steps.{was_posted}
use Rattle.cc_event_lines.specs.Routines.{AreApart, AreNew, IsQuiet, RoutinesStand, RoutinesState, SlotStands, RoutineWaits, deferrals_of_slots}
use Rattle.cc_event_lines.specs.declared.routines.RoutineSlot.{RoutineSlot}

pub one : {A : Type 0} (a b : A) → Some a ≡ Some b → a ≡ b
one a b is = cc

pub none : {A : Type 0} (a : A) → None ≡ Some a → ⊥
none a is = absurd (cc)

-- a place of two lists one behind the other
pub at-front : {A : Type 0} (xs ys : List A) (k : ℕ) → k < length xs → slice_get (xs ++ ys) k ≡ slice_get xs k
at-front [] ys k within = absurd (omega arith)
at-front (x ∷ xs) ys zero within = refl
at-front (x ∷ xs) ys (suc k) within = at-front xs ys k (omega arith)

at-end : {A : Type 0} (xs : List A) (y : A) → slice_get (xs ++ y ∷ []) (length xs) ≡ Some y
at-end [] y = refl
at-end (x ∷ xs) y = at-end xs y

-- what is at a place of a list with one more is at the same place before, or is the one more
pushed : {A : Type 0} (xs : List A) (y a : A) (k : ℕ) → slice_get (xs ++ y ∷ []) k ≡ Some a → (slice_get xs k ≡ Some a) ⊎ ((k ≡ length xs) × (y ≡ a))
pushed [] y a zero is = inr (refl, one y a is)
pushed [] y a (suc k) is = absurd (none a is)
pushed (x ∷ xs) y a zero is = inl is
pushed (x ∷ xs) y a (suc k) is =
    ⊎_elim (λ (there : slice_get xs k ≡ Some a). inl there) (λ (last : (k ≡ length xs) × (y ≡ a)). inr (ap suc last.0, last.1)) (pushed xs y a k is)

pub at-drop : {A : Type 0} (xs : List A) (k : ℕ) → slice_get (drop 1 xs) k ≡ slice_get xs (suc k)
at-drop [] k = refl
at-drop (x ∷ xs) k = refl

pub there-is : {A : Type 0} (xs : List A) (k : ℕ) → k < length xs → (a : A) × (slice_get xs k ≡ Some a)
there-is [] k within = absurd (omega arith)
there-is (x ∷ xs) zero within = (x, refl)
there-is (x ∷ xs) (suc k) within = there-is xs k (omega arith)

-- the numbers stay apart with one more, which no other write has
apart-pushed : (ds : List (Option ℕ)) (d : Option ℕ) → AreApart ds → ((k id : ℕ) → slice_get ds k ≡ Some (Some id) → d ≡ Some id → ⊥) → AreApart (ds ++ d ∷ [])
apart-pushed ds d apart other k m id at too = by (pushed ds d (Some id) k at) (pushed ds d (Some id) m too)
  where
    by : (slice_get ds k ≡ Some (Some id)) ⊎ ((k ≡ length ds) × (d ≡ Some id)) → (slice_get ds m ≡ Some (Some id)) ⊎ ((m ≡ length ds) × (d ≡ Some id)) → k ≡ m
    by (inl a) (inl b) = apart k m id a b
    by (inl a) (inr b) = absurd (other k id a b.1)
    by (inr a) (inl b) = absurd (other m id b a.1)
    by (inr a) (inr b) = a.0 ∙ sym b.0

-- at a quiet event
slot-quiet : {Q : Type 0} (posted : Q → Bool) (past new : List Entry) (queue now : List (Deferral × Q)) (handed : Q) (d : Option ℕ) (o : Option Q) → IsQuiet past new → now ≡ queue → SlotStands posted past queue handed d o → SlotStands posted new now handed d o
slot-quiet posted past new queue now handed None None quiet same stands = stands
slot-quiet posted past new queue now handed None (Some routine) quiet same stands = stands
slot-quiet {Q} posted past new queue now handed (Some id) None quiet same stands =
    (subst (λ (q : List (Deferral × Q)). RoutineWaits q id handed) (sym same) stands.0, quiet.posted_is id ∙ stands.1, omega (arith, quiet.deferred_is, stands.2))
slot-quiet posted past new queue now handed (Some id) (Some routine) quiet same stands =
    (stands.0, quiet.posted_is id ∙ stands.1, omega (arith, quiet.deferred_is, stands.2))

pub stand-quiet : {Q : Type 0} (posted : Q → Bool) (past new : List Entry) (queue now : List (Deferral × Q)) (r : RoutinesState Q) → IsQuiet past new → now ≡ queue → RoutinesStand posted past queue r → RoutinesStand posted new now r
stand-quiet posted past new queue now r quiet same stand = record {
  unposted = stand.unposted;
  slots = λ k slot handed at from. slot-quiet posted past new queue now handed slot.deferral slot.routine quiet same (stand.slots k slot handed at from);
  unused = stand.unused;
  counted = stand.counted;
  room = stand.room;
  apart = stand.apart;
  numbered = λ n waiting at. omega (arith, quiet.deferred_is, stand.numbered n waiting (ap (λ q. slice_get q n) (sym same) ∙ at));
  known = λ id was. omega (arith, quiet.deferred_is, stand.known id (sym (quiet.posted_is id) ∙ was));
}

-- at first
pub stand-new : {Q : Type 0} (posted : Q → Bool) (past : List Entry) (queue : List (Deferral × Q)) (r : RoutinesState Q) → IsQuiet [] past → queue ≡ [] → AreNew posted r → RoutinesStand posted past queue r
stand-new {Q} posted past queue r quiet empty new = stand-quiet posted [] past [] queue r quiet empty (record {
  unposted = new.unposted;
  slots = λ k slot handed at from. absurd (none slot (ap (λ (s : List (RoutineSlot Q)). slice_get s k) (sym new.slots) ∙ at));
  unused = λ k. ap (λ (u : List Q). slice_get u k) new.unused ∙ ap (λ (n : ℕ). slice_get r.handed n) (start k (length r.slots) (ap length new.slots));
  counted = omega (arith, ap length new.slots, ap length new.unused);
  room = new.room;
  apart = λ k m id at. absurd (none (Some id) (ap (λ (s : List (RoutineSlot Q)). slice_get (deferrals_of_slots s) k) (sym new.slots) ∙ at));
  numbered = λ n waiting at. absurd (none waiting at);
  known = λ id was. absurd (cc);
})
  where
    start : (k n : ℕ) → n ≡ 0 → k ≡ n + k
    start k n is = omega arith

-- the number of each write is one that was deferred
number-of : {Q : Type 0} (posted : Q → Bool) (past : List Entry) (queue : List (Deferral × Q)) (handed : Q) (d : Option ℕ) (o : Option Q) (id : ℕ) → d ≡ Some id → SlotStands posted past queue handed d o → id ≤ deferred past
number-of posted past queue handed None o id is stands = absurd (none id is)
number-of posted past queue handed (Some own) None id is stands = let same : own ≡ id = one own id is in omega (arith, stands.2)
number-of posted past queue handed (Some own) (Some routine) id is stands = let same : own ≡ id = one own id is in omega (arith, stands.2)

numbers : {Q : Type 0} (posted : Q → Bool) (past : List Entry) (queue : List (Deferral × Q)) (r : RoutinesState Q) (k id : ℕ) → RoutinesStand posted past queue r → slice_get (deferrals_of_slots r.slots) k ≡ Some (Some id) → id ≤ deferred past
numbers {Q} posted past queue r k id stand at =
    let within : k < length r.slots = subst (λ (n : ℕ). k < n) (length-map r.slots (λ (slot : RoutineSlot Q). slot.deferral)) (slice_get_within (deferrals_of_slots r.slots) k (Some id) at) in
    let slot = there-is r.slots k within in
    let handed = there-is r.handed k (omega (arith, within, stand.counted)) in
    let is : slot.0.deferral ≡ Some id = one slot.0.deferral (Some id) (sym (slice_get-map (λ (s : RoutineSlot Q). s.deferral) r.slots k ∙ ap (λ o. option_map (λ (s : RoutineSlot Q). s.deferral) o) slot.1) ∙ at) in
    number-of posted past queue handed.0 slot.0.deferral slot.0.routine id is (stand.slots k slot.0 handed.0 slot.1 handed.1)

-- The routines behind one that was taken out, of which this became.
abbrev pub taken : {Q : Type 0} → RoutinesState Q → List Q → RoutineSlot Q → RoutinesState Q
taken r rest slot = record r { slots = r.slots ++ slot ∷ []; unused = rest }

module _ {Q : Type 0} (posted : Q → Bool) (past new : List Entry) (queue now : List (Deferral × Q)) (r : RoutinesState Q) (routine : Q) (rest : List Q) (slot : RoutineSlot Q) (next : r.unused ≡ routine ∷ rest) (stand : RoutinesStand posted past queue r) where
  -- the one that was taken out is the next of those that were handed in
  taken-handed : (handed : Q) → slice_get r.handed (length r.slots) ≡ Some handed → routine ≡ handed
  taken-handed handed at = one routine handed (ap (λ (u : List Q). slice_get u 0) (sym next) ∙ (stand.unused 0 ∙ (ap (λ (n : ℕ). slice_get r.handed n) (plus-none (length r.slots)) ∙ at)))
    where
      plus-none : (n : ℕ) → n + 0 ≡ n
      plus-none n = omega arith

  taken-unused : (k : ℕ) → slice_get rest k ≡ slice_get r.handed (length (r.slots ++ slot ∷ []) + k)
  taken-unused k =
      ap (λ (u : List Q). slice_get u (suc k)) (sym next) ∙ (stand.unused (suc k) ∙ ap (λ (n : ℕ). slice_get r.handed n) (one-on (length r.slots) k (length (r.slots ++ slot ∷ [])) (length-append r.slots (slot ∷ []))))
    where
      one-on : (n k m : ℕ) → m ≡ n + 1 → n + suc k ≡ m + k
      one-on n k m is = omega arith

  taken-counted : length (r.slots ++ slot ∷ []) + length rest ≡ length r.handed
  taken-counted = omega (arith, length-append r.slots (slot ∷ []), ap length next, stand.counted)

  -- each slot stands, those before and the new one
  taken-slots : ((k : ℕ) (s : RoutineSlot Q) (handed : Q) → slice_get r.slots k ≡ Some s → slice_get r.handed k ≡ Some handed → SlotStands posted new now handed s.deferral s.routine) → SlotStands posted new now routine slot.deferral slot.routine → (k : ℕ) (s : RoutineSlot Q) (handed : Q) → slice_get (r.slots ++ slot ∷ []) k ≡ Some s → slice_get r.handed k ≡ Some handed → SlotStands posted new now handed s.deferral s.routine
  taken-slots before last k s handed at from =
      ⊎_elim (λ (there : slice_get r.slots k ≡ Some s). before k s handed there from)
      (λ (here : (k ≡ length r.slots) × (slot ≡ s)).
      let own : routine ≡ handed = taken-handed handed (ap (λ (n : ℕ). slice_get r.handed n) (sym here.0) ∙ from) in
      subst (λ (x : RoutineSlot Q). SlotStands posted new now handed x.deferral x.routine) here.1
      (subst (λ (q : Q). SlotStands posted new now q slot.deferral slot.routine) own last))
      (pushed r.slots slot s k at)

  -- what stands behind, where the slot does and no other write has its number
  taken-stand : ((k : ℕ) (s : RoutineSlot Q) (handed : Q) → slice_get r.slots k ≡ Some s → slice_get r.handed k ≡ Some handed → SlotStands posted new now handed s.deferral s.routine) → SlotStands posted new now routine slot.deferral slot.routine → ((k id : ℕ) → slice_get (deferrals_of_slots r.slots) k ≡ Some (Some id) → slot.deferral ≡ Some id → ⊥) → ((n : ℕ) (waiting : Deferral × Q) → slice_get now n ≡ Some waiting → waiting.0.id ≤ deferred new) → ((id : ℕ) → was_posted new (Some (Some id)) ≡ true → id ≤ deferred new) → RoutinesStand posted new now (taken r rest slot)
  taken-stand before last other numbered known = record {
    unposted = stand.unposted;
    slots = taken-slots before last;
    unused = taken-unused;
    counted = taken-counted;
    room = stand.room;
    apart = subst AreApart (sym (map-append (λ (s : RoutineSlot Q). s.deferral) r.slots (slot ∷ []))) (apart-pushed (deferrals_of_slots r.slots) slot.deferral stand.apart other);
    numbered = numbered;
    known = known;
  }

-- a deferral that was refused keeps its routine
pub stand-refused : {Q : Type 0} (posted : Q → Bool) (past new : List Entry) (queue now : List (Deferral × Q)) (r : RoutinesState Q) (routine : Q) (rest : List Q) → r.unused ≡ routine ∷ rest → new ≡ past → now ≡ queue → RoutinesStand posted past queue r → RoutinesStand posted new now (taken r rest (record { deferral = None; routine = Some routine }))
stand-refused {Q} posted past new queue now r routine rest next same still stand =
    let quiet : IsQuiet past new = record { deferred_is = ap deferred same; posted_is = λ id. ap (λ (p : List Entry). was_posted p (Some (Some id))) same } in
    let goes = stand-quiet posted past new queue now r quiet still stand in
    taken-stand posted past new queue now r routine rest (record { deferral = None; routine = Some routine }) next stand
    goes.slots refl (λ k id at is. none id is) goes.numbered goes.known

-- what a deferral places
deferral-posted : (pass id : ℕ) (file : File) (pages : ℕ) (retrying : Bool) (past : List Entry) (own : ℕ) → was_posted (entry.Defer pass id file pages retrying ∷ past) (Some (Some own)) ≡ was_posted past (Some (Some own))
deferral-posted pass id file pages retrying past own = refl

-- what waits with one more, at the head or at the tail
abbrev queued : {Q : Type 0} → Bool → Deferral × Q → List (Deferral × Q) → List (Deferral × Q)
queued retrying one queue = if retrying then one ∷ queue else queue ++ one ∷ []

queued-either : {Q : Type 0} (retrying : Bool) (one other : Deferral × Q) (queue : List (Deferral × Q)) (n : ℕ) → slice_get (queued retrying one queue) n ≡ Some other → ((m : ℕ) × (slice_get queue m ≡ Some other)) ⊎ (one ≡ other)
queued-either true first other queue zero at = inr (one first other at)
queued-either true first other queue (suc n) at = inl (n, at)
queued-either false last other queue n at =
    ⊎_elim (λ (there : slice_get queue n ≡ Some other). inl (n, there)) (λ (here : (n ≡ length queue) × (last ≡ other)). inr here.1) (pushed queue last other n at)

queued-old : {Q : Type 0} (retrying : Bool) (one other : Deferral × Q) (queue : List (Deferral × Q)) (n : ℕ) → slice_get queue n ≡ Some other → (m : ℕ) × (slice_get (queued retrying one queue) m ≡ Some other)
queued-old true first other queue n at = (suc n, at)
queued-old false last other queue n at = (n, at-front queue (last ∷ []) n (slice_get_within queue n other at) ∙ at)

queued-new : {Q : Type 0} (retrying : Bool) (one : Deferral × Q) (queue : List (Deferral × Q)) → (m : ℕ) × (slice_get (queued retrying one queue) m ≡ Some one)
queued-new true first queue = (0, refl)
queued-new false last queue = (length queue, at-end queue last)

module _ {Q : Type 0} (posted : Q → Bool) (past : List Entry) (queue : List (Deferral × Q)) (r : RoutinesState Q) (routine : Q) (rest : List Q) (pass id : ℕ) (file : File) (pages : ℕ) (retrying : Bool) (next : r.unused ≡ routine ∷ rest) (is : id ≡ suc (deferred past)) (stand : RoutinesStand posted past queue r) where
  abbrev waiting : Deferral × Q
  waiting = (record { id = id; file = file; pages = pages }, routine)

  abbrev new : List Entry
  new = entry.Defer pass id file pages retrying ∷ past

  more : deferred new ≡ suc (deferred past)
  more = deferred-deferred pass id file pages retrying past

  -- what waits under a number that was there waits on
  waits-on : (own : ℕ) (handed : Q) → own ≤ deferred past → RoutineWaits queue own handed → RoutineWaits (queued retrying waiting queue) own handed
  waits-on own handed below waits =
      let kept = queued-old retrying waiting waits.waiting queue waits.place waits.there in
      record {
        place = kept.0;
        waiting = waits.waiting;
        there = kept.1;
        number = waits.number;
        same = λ n other at number.
            ⊎_elim (λ (there : (m : ℕ) × (slice_get queue m ≡ Some other)). waits.same there.0 other there.1 number)
            (λ (here : waiting ≡ other). absurd (above own (ap (λ (w : Deferral × Q). w.0.id) here ∙ number) below))
            (queued-either retrying waiting other queue n at);
      }
    where
      above : (own : ℕ) → id ≡ own → own ≤ deferred past → ⊥
      above own same below = absurd (omega (arith, is))

  slot-on : (handed : Q) (d : Option ℕ) (o : Option Q) → SlotStands posted past queue handed d o → SlotStands posted new (queued retrying waiting queue) handed d o
  slot-on handed None None stands = stands
  slot-on handed None (Some own) stands = stands
  slot-on handed (Some own) None stands = (waits-on own handed stands.2 stands.0, deferral-posted pass id file pages retrying past own ∙ stands.1, omega (arith, more, stands.2))
  slot-on handed (Some own) (Some q) stands = (stands.0, deferral-posted pass id file pages retrying past own ∙ stands.1, omega (arith, more, stands.2))

  -- the new number was never posted
  unposted-yet : (b : Bool) → was_posted past (Some (Some id)) ≡ b → was_posted past (Some (Some id)) ≡ false
  unposted-yet true was = absurd (too-great (stand.known id was))
    where
      too-great : id ≤ deferred past → ⊥
      too-great below = absurd (omega (arith, is))
  unposted-yet false was = was

  waits-new : RoutineWaits (queued retrying waiting queue) id routine
  waits-new =
      let there = queued-new retrying waiting queue in
      record {
        place = there.0;
        waiting = waiting;
        there = there.1;
        number = refl;
        same = λ n other at number.
            ⊎_elim (λ (old : (m : ℕ) × (slice_get queue m ≡ Some other)). absurd (too-great other number (stand.numbered old.0 other old.1)))
            (λ (here : waiting ≡ other). sym (ap (λ (w : Deferral × Q). w.1) here))
            (queued-either retrying waiting other queue n at);
      }
    where
      too-great : (other : Deferral × Q) → other.0.id ≡ id → other.0.id ≤ deferred past → ⊥
      too-great other same below = absurd (omega (arith, is))

  -- A deferral that was done: its routine waits under the new number.
  pub stand-deferred : RoutinesStand posted (entry.Defer pass id file pages retrying ∷ past) (if retrying then (record { id = id; file = file; pages = pages }, routine) ∷ queue else queue ++ (record { id = id; file = file; pages = pages }, routine) ∷ []) (taken r rest (record { deferral = Some id; routine = None }))
  stand-deferred =
      taken-stand posted past new queue (queued retrying waiting queue) r routine rest (record { deferral = Some id; routine = None }) next stand
      (λ k s handed at from. slot-on handed s.deferral s.routine (stand.slots k s handed at from))
      (waits-new, deferral-posted pass id file pages retrying past id ∙ unposted-yet (was_posted past (Some (Some id))) refl, omega (arith, more, is))
      (λ k own at same. absurd (too-great own (one id own same) (numbers posted past queue r k own stand at)))
      (λ n other at.
      ⊎_elim (λ (old : (m : ℕ) × (slice_get queue m ≡ Some other)). omega (arith, more, stand.numbered old.0 other old.1))
      (λ (here : waiting ≡ other). omega (arith, more, is, ap (λ (w : Deferral × Q). w.0.id) here))
      (queued-either retrying waiting other queue n at))
      (λ own was. omega (arith, more, stand.known own (sym (deferral-posted pass id file pages retrying past own) ∙ was)))
    where
      too-great : (own : ℕ) → id ≡ own → own ≤ deferred past → ⊥
      too-great own same below = absurd (omega (arith, is))

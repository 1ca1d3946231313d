-- How a routine comes back: behind a post, and all at the end.
--
-- Since the numbers of writes are apart, a routine that comes back fills just the place that waits for it, so what comes
-- back can be told of each place by itself (`come_back-map`, `all_back-map`). At the end every place is filled: by the
-- routine that was handed in, where its write still waits, and by the posted one where its write was posted (`posts-left`).
use Rattle.std.specs.Prelude.{◌≡◌, ℕ, zero, suc, ◌+◌, ◌<◌, ◌≤◌, ◌==◌, ◌||◌, Bool, true, false, All, List, [], ◌∷◌, ◌++◌, drop, length, map, slice_get, refl, if◌then◌else◌, ◌⊎◌}
use Rattle.std.specs.declared.option.Option.{Option}
use Rattle.std.specs.declared.option.Option.TheVariants.{Some, None}
use Rattle.std.specs.Option.{option_map}
use Rattle.std.proofs.Common.{ap, arith, inl, inr, length-append, subst, sym, ◌∙◌, ⊎_elim}
use Rattle.std.proofs.lemmas.Bool.{eq-eqb, eqb-false, eqb-true, ne_eqb}
use Rattle.std.proofs.lemmas.List.{length-map}
use Rattle.std.proofs.lemmas.List.Elements.{All-get_or}
use Rattle.std.proofs.lemmas.Option.{get_or_from_slice_get, slice_get-map, slice_get_past, slice_get_within}
use Rattle.cc_entry.specs.declared.entry.Entry.{Entry}
use Rattle.cc_entry.specs.declared.entry.Entry.TheVariants as entry
use Rattle.cc_entry.specs.declared.hold.Deferral.{Deferral}
use Rattle.cc_journal.specs.Queue.{routines_of}
use Rattle.cc_laws.proofs.QueueSteps.{deferred-other}
use Rattle.cc_model.specs.Throttle.{deferred}
use Rattle.cc_pieces.specs.Steps.{RoutinesLeft, was_posted}
use Rattle.cc_event_lines.specs.Routines.{AreApart, RoutinesStand, RoutinesState, SlotStands, RoutineWaits, all_back, come_back, deferrals_of_slots, here, waits_as, waits_for}
use Rattle.cc_event_lines.specs.declared.routines.RoutineSlot.{RoutineSlot}
use Rattle.cc_event_lines.proofs.RoutineSteps.{at-drop, at-front, none, one, there-is}

-- a place that a routine fills, where it waits for it
abbrev filled : {Q : Type 0} → ℕ → Q → RoutineSlot Q → RoutineSlot Q
filled id routine slot = if waits_for id slot then record { deferral = Some id; routine = Some routine } else slot

-- a place that waits under a number has it, and is empty
waits-number : {Q : Type 0} (id : ℕ) (d : Option ℕ) (o : Option Q) → waits_as id d o ≡ true → d ≡ Some id
waits-number id None o waits = absurd (cc)
waits-number id (Some own) None waits = ap (λ (n : ℕ). Some n) (eqb-true own id waits)
waits-number id (Some own) (Some routine) waits = absurd (cc)

deferral-kept : {Q : Type 0} (id : ℕ) (routine : Q) (slot : RoutineSlot Q) → (filled id routine slot).deferral ≡ slot.deferral
deferral-kept {Q} id routine slot = by (waits_for id slot) refl
  where
    by : (b : Bool) → waits_for id slot ≡ b → (filled id routine slot).deferral ≡ slot.deferral
    by true is = rw is (sym (waits-number id slot.deferral slot.routine is))
    by false is = rw is refl

-- nothing else waits under a number that one place has
none-waits : {Q : Type 0} (id : ℕ) (routine : Q) (slots : List (RoutineSlot Q)) → ((k : ℕ) → slice_get (deferrals_of_slots slots) k ≡ Some (Some id) → ⊥) → map (filled id routine) slots ≡ slots
none-waits id routine [] other = refl
none-waits {Q} id routine (slot ∷ slots) other = by (waits_for id slot) refl (none-waits id routine slots (λ k at. other (suc k) at))
  where
    by : (b : Bool) → waits_for id slot ≡ b → map (filled id routine) slots ≡ slots → filled id routine slot ∷ map (filled id routine) slots ≡ slot ∷ slots
    by true is rest = absurd (other 0 (ap (λ (d : Option ℕ). Some d) (waits-number id slot.deferral slot.routine is)))
    by false is rest = rw is (ap (λ (s : List (RoutineSlot Q)). slot ∷ s) rest)

apart-tail : (d : Option ℕ) (ds : List (Option ℕ)) → AreApart (d ∷ ds) → AreApart ds
apart-tail d ds apart k m id at too = less k m (apart (suc k) (suc m) id at too)
  where
    less : (k m : ℕ) → suc k ≡ suc m → k ≡ m
    less k m is = omega arith

pub come_back-map : {Q : Type 0} (id : ℕ) (routine : Q) (slots : List (RoutineSlot Q)) → AreApart (deferrals_of_slots slots) → come_back id routine slots ≡ map (filled id routine) slots
come_back-map id routine [] apart = refl
come_back-map {Q} id routine (slot ∷ slots) apart = by (waits_for id slot) refl (come_back-map id routine slots (apart-tail slot.deferral (deferrals_of_slots slots) apart))
  where
    apart-here : (k : ℕ) → slot.deferral ≡ Some id → slice_get (deferrals_of_slots slots) k ≡ Some (Some id) → ⊥
    apart-here k own at = let same : 0 ≡ suc k = apart 0 (suc k) id (ap (λ (d : Option ℕ). Some d) own) at in absurd (omega arith)

    by : (b : Bool) → waits_for id slot ≡ b → come_back id routine slots ≡ map (filled id routine) slots → come_back id routine (slot ∷ slots) ≡ filled id routine slot ∷ map (filled id routine) slots
    by true is rest =
        let only = none-waits id routine slots (λ k at. apart-here k (waits-number id slot.deferral slot.routine is) at) in
        rw is (ap (λ (s : List (RoutineSlot Q)). record { deferral = Some id; routine = Some routine } ∷ s) (sym only))
    by false is rest = rw is (ap (λ (s : List (RoutineSlot Q)). slot ∷ s) rest)

pub deferrals-back : {Q : Type 0} (id : ℕ) (routine : Q) (slots : List (RoutineSlot Q)) → deferrals_of_slots (come_back id routine slots) ≡ deferrals_of_slots slots
deferrals-back id routine [] = refl
deferrals-back {Q} id routine (slot ∷ slots) = by (waits_for id slot) refl (deferrals-back id routine slots)
  where
    by : (b : Bool) → waits_for id slot ≡ b → deferrals_of_slots (come_back id routine slots) ≡ deferrals_of_slots slots → deferrals_of_slots (come_back id routine (slot ∷ slots)) ≡ slot.deferral ∷ deferrals_of_slots slots
    by true is rest = rw is (ap (λ (d : Option ℕ). d ∷ deferrals_of_slots slots) (sym (waits-number id slot.deferral slot.routine is)))
    by false is rest = rw is (ap (λ (ds : List (Option ℕ)). slot.deferral ∷ ds) rest)

pub length-back : {Q : Type 0} (id : ℕ) (routine : Q) (slots : List (RoutineSlot Q)) → length (come_back id routine slots) ≡ length slots
length-back {Q} id routine slots =
    sym (length-map (come_back id routine slots) (λ (s : RoutineSlot Q). s.deferral)) ∙ (ap length (deferrals-back id routine slots) ∙ length-map slots (λ (s : RoutineSlot Q). s.deferral))

-- what is at a place of a list that a function went over
mapped-at : {A B : Type 0} (f : A → B) (xs : List A) (k : ℕ) (b : B) → slice_get (map f xs) k ≡ Some b → (a : A) × (slice_get xs k ≡ Some a) × (f a ≡ b)
mapped-at f [] k b at = absurd (none b at)
mapped-at f (x ∷ xs) zero b at = (x, refl, one (f x) b at)
mapped-at f (x ∷ xs) (suc k) b at = mapped-at f xs k b at

-- the head of the queue
head-of : {Q : Type 0} (o : Option (Deferral × Q)) (id : ℕ) → option_map (λ (w : Deferral × Q). w.0.id) o ≡ Some id → (w : Deferral × Q) × (o ≡ Some w) × (w.0.id ≡ id)
head-of None id is = absurd (none id is)
head-of (Some w) id is = (w, refl, one w.0.id id is)

-- whether a write was posted, behind a post
posted-on : (past : List Entry) (id own : ℕ) → was_posted past (Some (Some own)) ≡ true → was_posted (entry.Posted id ∷ past) (Some (Some own)) ≡ true
posted-on past id own was = by (id == own)
  where
    by : (b : Bool) → (b || was_posted past (Some (Some own))) ≡ true
    by true = refl
    by false = was

posted-other : (past : List Entry) (id own : ℕ) → (own == id) ≡ false → was_posted past (Some (Some own)) ≡ false → was_posted (entry.Posted id ∷ past) (Some (Some own)) ≡ false
posted-other past id own apart was = rw (ne_eqb id own (λ same. eqb-false own id apart (sym same)), was) refl

module _ {Q : Type 0} (posted : Q → Bool) (past : List Entry) (queue : List (Deferral × Q)) (r : RoutinesState Q) (id : ℕ) (routine : Q) (head : option_map (λ (w : Deferral × Q). w.0.id) (slice_get queue 0) ≡ Some id) (is : posted routine ≡ true) (stand : RoutinesStand posted past queue r) where
  same-count : deferred (entry.Posted id ∷ past) ≡ deferred past
  same-count = deferred-other (entry.Posted id) past refl

  below : id ≤ deferred past
  below =
      let first = head-of (slice_get queue 0) id head in
      omega (arith, first.2, stand.numbered 0 first.0 first.1)

  -- another write waits on
  waits-on : (own : ℕ) (handed : Q) → (own == id) ≡ false → RoutineWaits queue own handed → RoutineWaits (drop 1 queue) own handed
  waits-on own handed apart waits = by waits.place waits.there
    where
      first : (w : Deferral × Q) × (slice_get queue 0 ≡ Some w) × (w.0.id ≡ id)
      first = head-of (slice_get queue 0) id head

      by : (place : ℕ) → slice_get queue place ≡ Some waits.waiting → RoutineWaits (drop 1 queue) own handed
      by zero at =
          let same : first.0 ≡ waits.waiting = one first.0 waits.waiting (sym first.1 ∙ at) in
          absurd (eqb-false own id apart (sym waits.number ∙ (sym (ap (λ (w : Deferral × Q). w.0.id) same) ∙ first.2)))
      by (suc n) at = record {
        place = n;
        waiting = waits.waiting;
        there = at-drop queue n ∙ at;
        number = waits.number;
        same = λ m other there number. waits.same (suc m) other (sym (at-drop queue m) ∙ there) number;
      }

  slot-on : (handed : Q) (slot : RoutineSlot Q) → SlotStands posted past queue handed slot.deferral slot.routine → SlotStands posted (entry.Posted id ∷ past) (drop 1 queue) handed (filled id routine slot).deferral (filled id routine slot).routine
  slot-on handed slot stands = by slot.deferral slot.routine stands
    where
      by : (d : Option ℕ) (o : Option Q) → SlotStands posted past queue handed d o → SlotStands posted (entry.Posted id ∷ past) (drop 1 queue) handed (filled id routine (record { deferral = d; routine = o })).deferral (filled id routine (record { deferral = d; routine = o })).routine
      by None None stands = stands
      by None (Some own) stands = stands
      by (Some own) (Some q) stands = (stands.0, posted-on past id own stands.1, omega (arith, same-count, stands.2))
      by (Some own) None stands = if-waits (own == id) refl
        where
          if-waits : (b : Bool) → (own == id) ≡ b → SlotStands posted (entry.Posted id ∷ past) (drop 1 queue) handed (filled id routine (record { deferral = Some own; routine = None })).deferral (filled id routine (record { deferral = Some own; routine = None })).routine
          if-waits true same = rw same (is, rw (eq-eqb id id refl) refl, omega (arith, same-count, below))
          if-waits false apart = rw apart (waits-on own handed apart stands.0, posted-other past id own apart stands.1, omega (arith, same-count, stands.2))

  -- A post: its routine is back at its place.
  pub stand-posted : RoutinesStand posted (entry.Posted id ∷ past) (drop 1 queue) (record r { slots = come_back id routine r.slots })
  stand-posted = record {
    unposted = stand.unposted;
    slots = λ k slot handed at from.
        let was = mapped-at (filled id routine) r.slots k slot (ap (λ s. slice_get s k) (sym (come_back-map id routine r.slots stand.apart)) ∙ at) in
        subst (λ (s : RoutineSlot Q). SlotStands posted (entry.Posted id ∷ past) (drop 1 queue) handed s.deferral s.routine) was.2 (slot-on handed was.0 (stand.slots k was.0 handed was.1 from));
    unused = λ k. stand.unused k ∙ ap (λ (n : ℕ). slice_get r.handed (n + k)) (sym (length-back id routine r.slots));
    counted = omega (arith, length-back id routine r.slots, stand.counted);
    room = stand.room;
    apart = subst AreApart (sym (deferrals-back id routine r.slots)) stand.apart;
    numbered = λ n waiting at. omega (arith, same-count, stand.numbered (suc n) waiting (sym (at-drop queue n) ∙ at));
    known = λ own was. by own (id == own) refl was;
  }
    where
      by : (own : ℕ) (b : Bool) → (id == own) ≡ b → was_posted (entry.Posted id ∷ past) (Some (Some own)) ≡ true → own ≤ deferred (entry.Posted id ∷ past)
      by own true same was = let same-id = eqb-true id own same in omega (arith, same-id, below, same-count)
      by own false apart was = omega (arith, same-count, stand.known own (rw apart at was))

-- a place that several routines went by
abbrev filled_all : {Q : Type 0} → List (ℕ × Q) → RoutineSlot Q → RoutineSlot Q
filled_all [] slot = slot
filled_all (back ∷ rest) slot = filled back.0 back.1 (filled_all rest slot)

deferrals-all_back : {Q : Type 0} (backs : List (ℕ × Q)) (slots : List (RoutineSlot Q)) → deferrals_of_slots (all_back backs slots) ≡ deferrals_of_slots slots
deferrals-all_back [] slots = refl
deferrals-all_back (back ∷ rest) slots = deferrals-back back.0 back.1 (all_back rest slots) ∙ deferrals-all_back rest slots

map-same : {A : Type 0} (xs : List A) → xs ≡ map (λ x. x) xs
map-same [] = refl
map-same (x ∷ xs) = ap (λ ys. x ∷ ys) (map-same xs)

map-twice : {A B C : Type 0} (f : B → C) (h : A → B) (xs : List A) → map f (map h xs) ≡ map (λ x. f (h x)) xs
map-twice f h [] = refl
map-twice f h (x ∷ xs) = ap (λ ys. f (h x) ∷ ys) (map-twice f h xs)

all_back-map : {Q : Type 0} (backs : List (ℕ × Q)) (slots : List (RoutineSlot Q)) → AreApart (deferrals_of_slots slots) → all_back backs slots ≡ map (filled_all backs) slots
all_back-map [] slots apart = map-same slots
all_back-map {Q} (back ∷ rest) slots apart =
    come_back-map back.0 back.1 (all_back rest slots) (subst AreApart (sym (deferrals-all_back rest slots)) apart)
    ∙ (ap (λ (s : List (RoutineSlot Q)). map (filled back.0 back.1) s) (all_back-map rest slots apart) ∙ map-twice (filled back.0 back.1) (filled_all rest) slots)

-- a place that is filled, or whose routine was never handed on, stays so
filled-some : {Q : Type 0} (backs : List (ℕ × Q)) (d : Option ℕ) (q : Q) → filled_all backs (record { deferral = d; routine = Some q }) ≡ record { deferral = d; routine = Some q }
filled-some [] d q = refl
filled-some {Q} (back ∷ rest) d q = ap (filled back.0 back.1) (filled-some rest d q) ∙ by d
  where
    by : (d : Option ℕ) → filled back.0 back.1 (record { deferral = d; routine = Some q }) ≡ record { deferral = d; routine = Some q }
    by None = refl
    by (Some own) = refl

module _ {Q : Type 0} (P : Q → Type 0) (own : ℕ) where
  -- what a place that waits under the number is behind them, where each of that number is of this kind
  abbrev Waiting : RoutineSlot Q → Type 0
  Waiting slot = (slot ≡ record { deferral = Some own; routine = None }) ⊎ ((q : Q) × (slot ≡ record { deferral = Some own; routine = Some q }) × P q)

  abbrev Came : RoutineSlot Q → Type 0
  Came slot = (q : Q) × (slot ≡ record { deferral = Some own; routine = Some q }) × P q

  filled-next : (id : ℕ) (routine : Q) (slot : RoutineSlot Q) → (id ≡ own → P routine) → Waiting slot → Waiting (filled id routine slot)
  filled-next id routine slot holds (inl waits) = rw waits (by (own == id) refl)
    where
      by : (b : Bool) → (own == id) ≡ b → Waiting (filled id routine (record { deferral = Some own; routine = None }))
      by true same = rw same (inr (routine, ap (λ (n : ℕ). record { deferral = Some n; routine = Some routine }) (sym (eqb-true own id same)), holds (sym (eqb-true own id same))))
      by false apart = rw apart (inl refl)
  filled-next id routine slot holds (inr came) = rw came.1 (inr (came.0, refl, came.2))

  filled-came : (id : ℕ) (routine : Q) (slot : RoutineSlot Q) → Came slot → Came (filled id routine slot)
  filled-came id routine slot came = rw came.1 (came.0, refl, came.2)

  filled-own : (id : ℕ) (routine : Q) (slot : RoutineSlot Q) → id ≡ own → P routine → Waiting slot → Came (filled id routine slot)
  filled-own id routine slot same holds (inl waits) =
      rw (waits, eq-eqb own id (sym same)) (routine, ap (λ (n : ℕ). record { deferral = Some n; routine = Some routine }) same, holds)
  filled-own id routine slot same holds (inr came) = filled-came id routine slot came

  all-waiting : (backs : List (ℕ × Q)) → ((n : ℕ) (back : ℕ × Q) → slice_get backs n ≡ Some back → back.0 ≡ own → P back.1) → Waiting (filled_all backs (record { deferral = Some own; routine = None }))
  all-waiting [] holds = inl refl
  all-waiting (back ∷ rest) holds =
      filled-next back.0 back.1 (filled_all rest (record { deferral = Some own; routine = None })) (holds 0 back refl) (all-waiting rest (λ n other at. holds (suc n) other at))

  all-came : (backs : List (ℕ × Q)) (n : ℕ) (back : ℕ × Q) → slice_get backs n ≡ Some back → back.0 ≡ own → ((n : ℕ) (back : ℕ × Q) → slice_get backs n ≡ Some back → back.0 ≡ own → P back.1) → Came (filled_all backs (record { deferral = Some own; routine = None }))
  all-came [] n back at same holds = absurd (none back at)
  all-came (first ∷ rest) zero back at same holds =
      let own-first : first.0 ≡ own = ap (λ (b : ℕ × Q). b.0) (one first back at) ∙ same in
      filled-own first.0 first.1 (filled_all rest (record { deferral = Some own; routine = None })) own-first (holds 0 first refl own-first) (all-waiting rest (λ m other there. holds (suc m) other there))
  all-came (first ∷ rest) (suc n) back at same holds =
      filled-came first.0 first.1 (filled_all rest (record { deferral = Some own; routine = None })) (all-came rest n back at same (λ m other there. holds (suc m) other there))

-- the routines that are here, where each place is filled
here-length : {Q : Type 0} (slots : List (RoutineSlot Q)) → ((k : ℕ) (slot : RoutineSlot Q) → slice_get slots k ≡ Some slot → (q : Q) × (slot.routine ≡ Some q)) → length (here slots) ≡ length slots
here-length [] full = refl
here-length {Q} (slot ∷ slots) full =
    let own = full 0 slot refl in
    rw own.1 (ap suc (here-length slots (λ k other at. full (suc k) other at)))

here-at : {Q : Type 0} (slots : List (RoutineSlot Q)) → ((k : ℕ) (slot : RoutineSlot Q) → slice_get slots k ≡ Some slot → (q : Q) × (slot.routine ≡ Some q)) → (k : ℕ) (slot : RoutineSlot Q) → slice_get slots k ≡ Some slot → slice_get (here slots) k ≡ slot.routine
here-at [] full k slot at = absurd (none slot at)
here-at {Q} (first ∷ slots) full zero slot at =
    let own = full 0 first refl in
    rw own.1 (sym own.1 ∙ ap (λ (s : RoutineSlot Q). s.routine) (one first slot at))
here-at {Q} (first ∷ slots) full (suc k) slot at =
    let own = full 0 first refl in
    rw own.1 (here-at slots (λ m other there. full (suc m) other there) k slot at)

at-back : {A : Type 0} (xs ys : List A) (n j : ℕ) → length xs ≡ n → slice_get (xs ++ ys) (n + j) ≡ slice_get ys j
at-back [] ys n j is = ap (λ (m : ℕ). slice_get ys m) (start n j is)
  where
    start : (n j : ℕ) → 0 ≡ n → n + j ≡ j
    start n j is = omega arith
at-back {A} (x ∷ xs) ys n j is = ap (λ (m : ℕ). slice_get (x ∷ xs ++ ys) m) (next n j (length xs) is) ∙ at-back xs ys (length xs) j refl
  where
    next : (n j m : ℕ) → suc m ≡ n → n + j ≡ suc (m + j)
    next n j m is = omega arith

split : (k n : ℕ) → (k < n) ⊎ ((j : ℕ) × (k ≡ n + j))
split k zero = inr (k, omega arith)
split zero (suc n) = inl (omega arith)
split (suc k) (suc n) =
    ⊎_elim (λ (less : k < n). inl (omega arith)) (λ (more : (j : ℕ) × (k ≡ n + j)). inr (more.0, omega (arith, more.1))) (split k n)

all-at : {A : Type 0} (P : A → Type 0) (xs : List A) (k : ℕ) (a : A) → All P xs → slice_get xs k ≡ Some a → P a
all-at P xs k a all at = subst P (get_or_from_slice_get xs k a a at) (All-get_or P xs k a (slice_get_within xs k a at) all)

module _ {Q : Type 0} (posted : Q → Bool) (past : List Entry) (queue : List (Deferral × Q)) (r : RoutinesState Q) (stand : RoutinesStand posted past queue r) where
  pub unposted-at : (k : ℕ) (q : Q) → slice_get r.handed k ≡ Some q → posted q ≡ false
  unposted-at k q at = all-at (λ routine. posted routine ≡ false) r.handed k q stand.unposted at

  -- what a place has at the end
  record HasBack (handed : Q) (d : Option ℕ) (slot : RoutineSlot Q) : Type 0 where
    q : Q
    filled_by : slot.routine ≡ Some q
    each : posted q ≡ was_posted past (Some d)
    same : posted q ≡ false → q ≡ handed

  has-back : (handed : Q) (d : Option ℕ) (o : Option Q) → posted handed ≡ false → SlotStands posted past queue handed d o → HasBack handed d (filled_all (routines_of queue) (record { deferral = d; routine = o }))
  has-back handed None None fresh stands = absurd stands
  has-back handed None (Some q) fresh stands = record {
    q = q;
    filled_by = ap (λ (s : RoutineSlot Q). s.routine) (filled-some (routines_of queue) None q);
    each = ap posted stands ∙ fresh;
    same = λ not. stands;
  }
  has-back handed (Some own) (Some q) fresh stands = record {
    q = q;
    filled_by = ap (λ (s : RoutineSlot Q). s.routine) (filled-some (routines_of queue) (Some own) q);
    each = stands.0 ∙ sym stands.1;
    same = λ not. absurd (cc);
  }
  has-back handed (Some own) None fresh stands =
      let waits = stands.0 in
      let there : slice_get (routines_of queue) waits.place ≡ Some (waits.waiting.0.id, waits.waiting.1) =
      slice_get-map (λ (w : Deferral × Q). (w.0.id, w.1)) queue waits.place ∙ ap (λ o. option_map (λ (w : Deferral × Q). (w.0.id, w.1)) o) waits.there in
      let came = all-came (λ (q : Q). q ≡ handed) own (routines_of queue) waits.place (waits.waiting.0.id, waits.waiting.1) there waits.number back-same in
      record {
        q = came.0;
        filled_by = ap (λ (s : RoutineSlot Q). s.routine) came.1;
        each = ap posted came.2 ∙ (fresh ∙ sym stands.1);
        same = λ not. came.2;
      }
    where
      back-same : (n : ℕ) (back : ℕ × Q) → slice_get (routines_of queue) n ≡ Some back → back.0 ≡ own → back.1 ≡ handed
      back-same n back at number =
          let was = mapped-at (λ (w : Deferral × Q). (w.0.id, w.1)) queue n back at in
          ap (λ (b : ℕ × Q). b.1) (sym was.2) ∙ stands.0.same n was.0 was.1 (ap (λ (b : ℕ × Q). b.0) was.2 ∙ number)

  abbrev ended : List (RoutineSlot Q)
  ended = all_back (routines_of queue) r.slots

  -- each place at the end, with the routine that was handed in there
  end-at : (k : ℕ) (slot : RoutineSlot Q) → slice_get ended k ≡ Some slot → (handed : Q) × (was : RoutineSlot Q) × (slice_get r.handed k ≡ Some handed) × (slice_get r.slots k ≡ Some was) × HasBack handed was.deferral slot
  end-at k slot at =
      let was = mapped-at (filled_all (routines_of queue)) r.slots k slot (ap (λ (s : List (RoutineSlot Q)). slice_get s k) (sym (all_back-map (routines_of queue) r.slots stand.apart)) ∙ at) in
      let handed = there-is r.handed k (within (slice_get_within r.slots k was.0 was.1)) in
      (handed.0, was.0, handed.1, was.1, subst (λ (s : RoutineSlot Q). HasBack handed.0 was.0.deferral s) was.2 (has-back handed.0 was.0.deferral was.0.routine (unposted-at k handed.0 handed.1) (stand.slots k was.0 handed.0 was.1 handed.1)))
    where
      within : k < length r.slots → k < length r.handed
      within less = omega (arith, less, stand.counted)

  full : (k : ℕ) (slot : RoutineSlot Q) → slice_get ended k ≡ Some slot → (q : Q) × (slot.routine ≡ Some q)
  full k slot at = let back = (end-at k slot at).4 in (back.q, back.filled_by)

  ended-length : length ended ≡ length r.slots
  ended-length =
      sym (length-map ended (λ (s : RoutineSlot Q). s.deferral)) ∙ (ap length (deferrals-all_back (routines_of queue) r.slots) ∙ length-map r.slots (λ (s : RoutineSlot Q). s.deferral))

  here-count : length (here ended) ≡ length r.slots
  here-count = here-length ended full ∙ ended-length

  -- a routine that comes back, by its place
  record HasCome (k : ℕ) (routine : Q) : Type 0 where
    each : posted routine ≡ was_posted past (slice_get (deferrals_of_slots r.slots) k)
    same : posted routine ≡ false → slice_get r.handed k ≡ Some routine

  come-front : (k : ℕ) (routine : Q) → k < length r.slots → slice_get (here ended ++ r.unused) k ≡ Some routine → HasCome k routine
  come-front k routine less at =
      let slot = there-is ended k (omega (arith, less, ended-length)) in
      let back = end-at k slot.0 slot.1 in
      let own : back.4.q ≡ routine =
      one back.4.q routine (sym back.4.filled_by ∙ (sym (here-at ended full k slot.0 slot.1) ∙ (sym (at-front (here ended) r.unused k (omega (arith, less, here-count))) ∙ at))) in
      record {
        each = ap posted (sym own) ∙ (back.4.each ∙ ap (was_posted past) (sym (slice_get-map (λ (s : RoutineSlot Q). s.deferral) r.slots k ∙ ap (λ o. option_map (λ (s : RoutineSlot Q). s.deferral) o) back.3)));
        same = λ not. back.2 ∙ ap (λ (q : Q). Some q) (sym (back.4.same (ap posted own ∙ not)) ∙ own);
      }

  come-back : (k : ℕ) (routine : Q) (j : ℕ) → k ≡ length r.slots + j → slice_get (here ended ++ r.unused) k ≡ Some routine → HasCome k routine
  come-back k routine j is at =
      let there : slice_get r.handed k ≡ Some routine =
      ap (λ (n : ℕ). slice_get r.handed n) is ∙ (sym (stand.unused j) ∙ (sym (at-back (here ended) r.unused (length r.slots) j here-count) ∙ (ap (λ (n : ℕ). slice_get (here ended ++ r.unused) n) (sym is) ∙ at))) in
      record {
        each = unposted-at k routine there ∙ ap (was_posted past) (sym (slice_get_past (deferrals_of_slots r.slots) k (omega (arith, is, length-map r.slots (λ (s : RoutineSlot Q). s.deferral)))));
        same = λ not. there;
      }

  come : (k : ℕ) (routine : Q) → slice_get (here ended ++ r.unused) k ≡ Some routine → HasCome k routine
  come k routine at =
      ⊎_elim (λ (less : k < length r.slots). come-front k routine less at) (λ (more : (j : ℕ) × (k ≡ length r.slots + j)). come-back k routine more.0 more.1 at) (split k (length r.slots))

  -- All come back, each as its line was answered.
  pub posts-left : RoutinesLeft posted (deferrals_of_slots r.slots) past r.handed (here (all_back (routines_of queue) r.slots) ++ r.unused)
  posts-left = record {
    counted = omega (arith, length-append (here ended) r.unused, here-count, stand.counted);
    each = λ k routine at. (come k routine at).each;
    same = λ k routine at not. (come k routine at).same not;
  }

-- Lists as loops leave them: taken from the end.
use Rattle.std.specs.Prelude.{◌≡◌, ℕ, zero, suc, ◌+◌, ◌<◌, ◌≤◌, Bool, true, false, List, [], ◌∷◌, ◌++◌, get_or, length, map, position, reverse, slice_set, refl, ◌⊎◌}
use Rattle.std.specs.declared.option.Option.{Option}
use Rattle.std.specs.declared.option.Option.TheVariants.{Some, None}
use Rattle.std.specs.List.{position_from}
use Rattle.std.proofs.Common.{ap, append_assoc, arith, inl, inr, sym, ◌∙◌, ⊎_elim}
use Rattle.std.proofs.lemmas.Iterator.Adapters.{position_from-zero}
use Rattle.std.proofs.lemmas.List.{reverse-append}
use Rattle.cc_event_lines.specs.Routines.{RoutinesState, all_back, and_here, come_back, here, waits_for}
use Rattle.cc_event_lines.specs.declared.routines.RoutineSlot.{RoutineSlot}

pub reverse-one : {A : Type 0} (xs : List A) (x : A) → reverse (xs ++ x ∷ []) ≡ x ∷ reverse xs
reverse-one xs x = reverse-append xs (x ∷ [])

-- the routines that are here, with one place more
pub here-one : {Q : Type 0} (slots : List (RoutineSlot Q)) (slot : RoutineSlot Q) → here (slots ++ slot ∷ []) ≡ here slots ++ and_here slot.routine []
here-one [] slot = refl
here-one {Q} (first ∷ slots) slot = by first.routine (here-one slots slot)
  where
    by : (o : Option Q) → here (slots ++ slot ∷ []) ≡ here slots ++ and_here slot.routine [] → and_here o (here (slots ++ slot ∷ [])) ≡ and_here o (here slots) ++ and_here slot.routine []
    by None rest = rest
    by (Some q) rest = ap (λ (qs : List Q). q ∷ qs) rest

-- those that come back, the last first
pub all_back-one : {Q : Type 0} (backs : List (ℕ × Q)) (back : ℕ × Q) (slots : List (RoutineSlot Q)) → all_back (backs ++ back ∷ []) slots ≡ all_back backs (come_back back.0 back.1 slots)
all_back-one [] back slots = refl
all_back-one {Q} (first ∷ backs) back slots = ap (λ (s : List (RoutineSlot Q)). come_back first.0 first.1 s) (all_back-one backs back slots)

-- Where a routine comes back to: the first place that waits for it.
abbrev ComesAt : {Q : Type 0} → ℕ → ℕ → Q → List (RoutineSlot Q) → Option ℕ → Type 0
ComesAt n id routine slots place =
    ((place ≡ None) × (come_back id routine slots ≡ slots))
    ⊎ ((k : ℕ) × (place ≡ Some (n + k)) × (come_back id routine slots ≡ slice_set slots k (record { deferral = Some id; routine = Some routine })))

comes-from : {Q : Type 0} (n id : ℕ) (routine : Q) (slots : List (RoutineSlot Q)) → ComesAt n id routine slots (position_from (waits_for id) n slots)
comes-from n id routine [] = inl (refl, refl)
comes-from {Q} n id routine (slot ∷ slots) = by (waits_for id slot) refl (comes-from (n + 1) id routine slots)
  where
    here-at : n ≡ n + 0
    here-at = omega arith

    later-at : (k : ℕ) → (n + 1) + k ≡ n + suc k
    later-at k = omega arith

    by : (b : Bool) → waits_for id slot ≡ b → ComesAt (n + 1) id routine slots (position_from (waits_for id) (n + 1) slots) → ComesAt n id routine (slot ∷ slots) (position_from (waits_for id) n (slot ∷ slots))
    by true is rest = inr (0, rw is (ap (λ (m : ℕ). Some m) here-at), rw is refl)
    by false is (inl none) = inl (rw is none.0, rw is (ap (λ (s : List (RoutineSlot Q)). slot ∷ s) none.1))
    by false is (inr some) = inr (suc some.0, rw is (some.1 ∙ ap (λ (m : ℕ). Some m) (later-at some.0)), rw is (ap (λ (s : List (RoutineSlot Q)). slot ∷ s) some.2))

pub comes-there : {Q : Type 0} (id : ℕ) (routine : Q) (slots : List (RoutineSlot Q)) (place : ℕ) → position (waits_for id) slots ≡ Some place → come_back id routine slots ≡ slice_set slots place (record { deferral = Some id; routine = Some routine })
comes-there {Q} id routine slots place at =
    ⊎_elim (λ (none : (position_from (waits_for id) 0 slots ≡ None) × (come_back id routine slots ≡ slots)). absurd (apart place (sym at ∙ (position_from-zero (waits_for id) slots ∙ none.0))))
    (λ (some : (k : ℕ) × (position_from (waits_for id) 0 slots ≡ Some (0 + k)) × (come_back id routine slots ≡ slice_set slots k (record { deferral = Some id; routine = Some routine }))).
    some.2 ∙ ap (λ (k : ℕ). slice_set slots k (record { deferral = Some id; routine = Some routine })) (same some.0 place (sym (sym at ∙ (position_from-zero (waits_for id) slots ∙ some.1)))))
    (comes-from 0 id routine slots)
  where
    apart : (n : ℕ) → Some n ≡ None → ⊥
    apart n is = absurd (cc)

    same : (k n : ℕ) → Some (0 + k) ≡ Some n → k ≡ n
    same k n is = let e : 0 + k ≡ n = cc in omega (arith, e)

pub comes-nowhere : {Q : Type 0} (id : ℕ) (routine : Q) (slots : List (RoutineSlot Q)) → position (waits_for id) slots ≡ None → come_back id routine slots ≡ slots
comes-nowhere {Q} id routine slots at =
    ⊎_elim (λ (none : (position_from (waits_for id) 0 slots ≡ None) × (come_back id routine slots ≡ slots)). none.1)
    (λ (some : (k : ℕ) × (position_from (waits_for id) 0 slots ≡ Some (0 + k)) × (come_back id routine slots ≡ slice_set slots k (record { deferral = Some id; routine = Some routine }))).
    absurd (apart some.0 (sym some.1 ∙ (sym (position_from-zero (waits_for id) slots) ∙ at))))
    (comes-from 0 id routine slots)
  where
    apart : (n : ℕ) → Some (0 + n) ≡ None → ⊥
    apart n is = absurd (cc)

-- a place that is taken from the end, with its routine and without
pub popped-some : {Q : Type 0} (slots left : List (RoutineSlot Q)) (routines now all : List Q) (unused : List Q) (slot : RoutineSlot Q) (routine : Q) → slots ≡ left ++ slot ∷ [] → now ≡ routines ++ routine ∷ [] → slot.routine ≡ Some routine → here slots ++ reverse routines ≡ all ++ unused → here left ++ reverse now ≡ all ++ unused
popped-some {Q} slots left routines now all unused slot routine is grown has was =
    ap (λ (qs : List Q). here left ++ reverse qs) grown
    ∙ (ap (λ (qs : List Q). here left ++ qs) (reverse-one routines routine)
    ∙ (sym (append_assoc (here left) (routine ∷ []) (reverse routines))
    ∙ (ap (λ (o : Option Q). (here left ++ and_here o []) ++ reverse routines) (sym has)
    ∙ (ap (λ (qs : List Q). qs ++ reverse routines) (sym (here-one left slot) ∙ ap here (sym is)) ∙ was))))

pub popped-none : {Q : Type 0} (slots left : List (RoutineSlot Q)) (routines all : List Q) (slot : RoutineSlot Q) → slots ≡ left ++ slot ∷ [] → slot.routine ≡ None → here slots ++ reverse routines ≡ all → here left ++ reverse routines ≡ all
popped-none {Q} slots left routines all slot is has was =
    ap (λ (qs : List Q). qs ++ reverse routines) (nothing-on (here left) ∙ (ap (λ (o : Option Q). here left ++ and_here o []) (sym has) ∙ (sym (here-one left slot) ∙ ap here (sym is)))) ∙ was
  where
    nothing-on : (xs : List Q) → xs ≡ xs ++ []
    nothing-on [] = refl
    nothing-on (x ∷ xs) = ap (λ ys. x ∷ ys) (nothing-on xs)

-- all but the places is as at first
pub same-rest : {Q : Type 0} (first now next : RoutinesState Q) (slots : List (RoutineSlot Q)) → next ≡ record now { slots = slots } → now ≡ record first { slots = now.slots } → next ≡ record first { slots = next.slots }
same-rest {Q} first now next slots new old =
    new ∙ (ap (λ (r : RoutinesState Q). record r { slots = slots }) old ∙ ap (λ (s : List (RoutineSlot Q)). record first { slots = s }) (sym (ap (λ (r : RoutinesState Q). r.slots) new)))

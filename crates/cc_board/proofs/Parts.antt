-- What each part of the rule becomes as one pass's view changes, and with it a word and a slot.
use Rattle.std.specs.Prelude.{◌≡◌, ◌≢◌, ℕ, suc, ◌+◌, ◌≤◌, Bool, true, List, [], ◌∷◌, length, slice_index, slice_set, if◌then◌else◌, Contains, Option, refl}
use Rattle.std.proofs.Common.{sym, ap, ◌∙◌, subst, ⊎_elim, arith, get_or-set_same, get_or-set_other}
use mathlib.Core.Option.{some, some-injective, some-ne-none, Option as Maybe}
use mathlib.Core.Logic.{dite}
use native.Mathlib.Decide.{ℕ_discrete}
use lib.ListN.{get_elem?}
use Rattle.atomic_table.proofs.Lists.{at_set, set_else}
use Rattle.cc_entry.specs.declared.entry.Entry.{Entry}
use Rattle.cc_effects.specs.Moments.{IsIdle}
use Rattle.cc_model.specs.Turns.{Turn}
use Rattle.cc_turns.specs.Standing.{holds}
use Rattle.cc_turns.specs.Desk.{Begun, Tells}
use Rattle.cc_turns.specs.Slots.{slot_of, slots_of, HasTurn, Fits}
use Rattle.cc_turns.specs.declared.slots.Place.{Place}
use Rattle.cc_board.specs.declared.rule.View.{View}
use Rattle.cc_board.specs.View.{turns_held}
use Rattle.cc_board.specs.Rule.{under_way, living, turn_word, given_numbers, IsAtHome, IsTaken, IsHeld, IsView, PassesAreNumbered}
use Rattle.cc_board.proofs.Views.{total-at, total-set}
use Rattle.cc_board.proofs.Standing.{slot-within}

-- what was changed is there
pub set-there : {A : Type 0} (l : List A) (i : ℕ) (a b : A) → get_elem? l i ≡ some a → get_elem? (slice_set l i b) i ≡ some b
set-there [] i a b e = absurd (some-ne-none a (sym e))
set-there (x ∷ xs) ℕ.zero a b e = refl
set-there (x ∷ xs) (suc i) a b e = set-there xs i a b e

-- ---- the word of a turn

-- the word of a turn that was taken, or given
pub word-here : {D L : Type 0} (begun : Begun D L) (words : List ℕ) (t : Turn) (n : ℕ) → length words ≡ suc (slots_of begun) → HasTurn begun t → slice_index (slice_set words (turn_word begun t) n) (turn_word begun t) ≡ n
word-here begun words t n sized known =
    let within = slot-within begun t known in
    get_or-set_same words (turn_word begun t) n 0 (omega arith)

-- the word of another stays
pub word-else : {D L : Type 0} (begun : Begun D L) (words : List ℕ) (t u : Turn) (n : ℕ) → slot_of begun u ≢ slot_of begun t → slice_index (slice_set words (turn_word begun t) n) (turn_word begun u) ≡ slice_index words (turn_word begun u)
word-else begun words t u n apart =
    get_or-set_other words (turn_word begun t) (turn_word begun u) n 0 (λ same. apart (omega arith))

-- so does the count of the passes
pub word-first : {D L : Type 0} (begun : Begun D L) (words : List ℕ) (t : Turn) (n : ℕ) → slice_index (slice_set words (turn_word begun t) n) 0 ≡ slice_index words 0
word-first begun words t n = get_or-set_other words (turn_word begun t) 0 n 0 (λ same. omega arith)

-- ---- what is at home

-- what another turn is of stays at home
pub home-else : {D L Q : Type 0} (tells : Tells D L Q) (begun : Begun D L) (past : List Entry) (n m : ℕ) (homes : List (Maybe (Option (Place D L Q)))) (t u : Turn) (x : Maybe (Option (Place D L Q))) → slot_of begun u ≢ slot_of begun t → n ≡ m → IsAtHome tells begun past n homes u → IsAtHome tells begun past m (slice_set homes (slot_of begun t) x) u
home-else tells begun past n m homes t u x apart same home = record {
  place = home.place;
  there = set_else homes (slot_of begun t) (slot_of begun u) x apart ∙ home.there;
  fits = subst (λ k. Fits tells begun past k u home.place) same home.fits;
}

-- ---- what is out

-- a turn that a pass holds, it holds on
pub held-kept : {D L : Type 0} (views : List (View D L)) (id : ℕ) (v w : View D L) (u : Turn) → get_elem? views id ≡ some v → (holds (turns_held v) u ≡ true → holds (turns_held w) u ≡ true) → IsHeld views u → IsHeld (slice_set views id w) u
held-kept views id v w u at kept held = dite (ℕ_discrete held.id id)
    (λ same. let is : held.view ≡ v = some-injective held.view v (sym held.there ∙ ap (λ i. get_elem? views i) same ∙ at) in record {
      id = id;
      view = w;
      there = set-there views id v w at;
      held = kept (subst (λ x. holds (turns_held x) u ≡ true) is held.held);
    })
    (λ apart. record {
      id = held.id;
      view = held.view;
      there = set_else views id held.id w apart ∙ held.there;
      held = held.held;
    })

-- ---- each view

-- where the words of what a pass holds stay, so does what is true of its view
pub view-else : {D L Q : Type 0} (tells : Tells D L Q) (begun : Begun D L) (past : List Entry) (words changed : List ℕ) (v : View D L) → ((u : Turn) → holds (turns_held v) u ≡ true → IsTaken begun words u → IsTaken begun changed u) → IsView tells begun past words v → IsView tells begun past changed v
view-else tells begun past words changed v kept is = record {
  of_run = is.of_run;
  grows = is.grows;
  spent = is.spent;
  none = is.none;
  one = is.one;
  taken = λ u held. kept u held (is.taken u held);
}

-- ---- no turn is held twice

abbrev pub AreApart : {D L : Type 0} → List (View D L) → Type 0
AreApart {D} {L} views = (a b : ℕ) (u v : View D L) (turn : Turn) → get_elem? views a ≡ some u → get_elem? views b ≡ some v →
    holds (turns_held u) turn ≡ true → holds (turns_held v) turn ≡ true → a ≡ b

-- nor after a view has changed, where no other pass holds a turn of it
pub apart-set : {D L : Type 0} (views : List (View D L)) (id : ℕ) (w : View D L) → ((b : ℕ) (x : View D L) (turn : Turn) → b ≢ id → get_elem? views b ≡ some x → holds (turns_held w) turn ≡ true → holds (turns_held x) turn ≡ true → ⊥) → AreApart views → AreApart (slice_set views id w)
apart-set {D} {L} views id w alone apart a b u v turn at_a at_b held_a held_b = ⊎_elim
    (λ here_a. ⊎_elim (λ here_b. here_a.0 ∙ sym here_b.0)
    (λ else_b. absurd (alone b v turn else_b.0 else_b.1 (subst (λ x. holds (turns_held x) turn ≡ true) (sym here_a.1) held_a) held_b))
    (at_set views id b w v at_b))
    (λ else_a. ⊎_elim (λ here_b. absurd (alone a u turn else_a.0 else_a.1 (subst (λ x. holds (turns_held x) turn ≡ true) (sym here_b.1) held_b) held_a))
    (λ else_b. apart a b u v turn else_a.1 else_b.1 held_a held_b)
    (at_set views id b w v at_b))
    (at_set views id a w u at_a)

-- ---- what passes have reserved

-- a view that has as much under way leaves the sum
pub under_way-kept : {D L : Type 0} (views : List (View D L)) (id : ℕ) (v w : View D L) → get_elem? views id ≡ some v → w.in_flight ≡ v.in_flight → under_way (slice_set views id w) ≡ under_way views
under_way-kept {D} {L} views id v w at same =
    let sum = total-set (λ (x : View D L). x.in_flight) views id v w at in omega arith

-- it is within the sum
pub under_way-at : {D L : Type 0} (views : List (View D L)) (id : ℕ) (v : View D L) → get_elem? views id ≡ some v → v.in_flight ≤ under_way views
under_way-at {D} {L} views id v at = total-at (λ (x : View D L). x.in_flight) views id v at

abbrev pub AreReserved : {D L : Type 0} → List (View D L) → Type 0
AreReserved {D} {L} views = (id : ℕ) (v : View D L) → get_elem? views id ≡ some v → v.journal ≡ true → under_way views ≡ v.in_flight + v.others

-- who holds the journal knows what others have under way, where the sum stays
pub reserved-set : {D L : Type 0} (views : List (View D L)) (id : ℕ) (w : View D L) → under_way (slice_set views id w) ≡ under_way views → (w.journal ≡ true → under_way views ≡ w.in_flight + w.others) → AreReserved views → AreReserved (slice_set views id w)
reserved-set {D} {L} views id w same knows reserved a v at held = ⊎_elim
    (λ here. same ∙ subst (λ (x : View D L). x.journal ≡ true → under_way views ≡ x.in_flight + x.others) here.1 knows held)
    (λ other. same ∙ reserved a v other.1 held)
    (at_set views id a w v at)

-- ---- the numbers of passes

-- A view keeps what is true of the numbers of passes; that of pass 0 keeps what it has under way too.
pub record SameNumber {D L : Type 0} (v w : View D L) : Type 0 where
  pub live : w.live ≡ v.live
  pub number : w.number ≡ v.number
  pub made : w.made ≡ v.made
  pub drawn : w.drawn ≡ v.drawn
  pub ended : w.ended ≡ v.ended
  pub passes : w.passes ≡ v.passes
  pub before : w.before ≡ v.before
  pub in_flight : v.number ≡ 0 → w.in_flight ≡ v.in_flight

pub same-itself : {D L : Type 0} (v : View D L) → SameNumber v v
same-itself v = record { live = refl; number = refl; made = refl; drawn = refl; ended = refl; passes = refl; before = refl; in_flight = λ first. refl }

-- it gave away as many numbers
given-same : {D L : Type 0} (v w : View D L) → SameNumber v w → given_numbers w ≡ given_numbers v
given-same v w same = rw (same.drawn, same.made) refl

-- A view after the change, and the one that was there before, of the same number.
record WasThere {D L : Type 0} (views : List (View D L)) (id : ℕ) (now : View D L) : Type 0 where
  before : View D L
  there : get_elem? views id ≡ some before
  same : SameNumber before now

was_there : {D L : Type 0} (views : List (View D L)) (id : ℕ) (v w : View D L) (a : ℕ) (now : View D L) → get_elem? views id ≡ some v → SameNumber v w → get_elem? (slice_set views id w) a ≡ some now → WasThere views a now
was_there views id v w a now at same there = ⊎_elim
    (λ here. record { before = v; there = ap (λ i. get_elem? views i) here.0 ∙ at; same = subst (λ x. SameNumber v x) here.1 same })
    (λ other. record { before = now; there = other.1; same = same-itself now })
    (at_set views id a w now there)

-- The view of pass 0 after the change.
record IsFirst {D L : Type 0} (views : List (View D L)) (first : View D L) : Type 0 where
  now : View D L
  there : get_elem? views 0 ≡ some now
  same : SameNumber first now

first-set : {D L : Type 0} (views : List (View D L)) (id : ℕ) (v w first : View D L) → get_elem? views id ≡ some v → get_elem? views 0 ≡ some first → SameNumber v w → IsFirst (slice_set views id w) first
first-set {D} {L} views id v w first at at_first same = dite (ℕ_discrete 0 id)
    (λ here. let is : v ≡ first = some-injective v first (sym at ∙ ap (λ i. get_elem? views i) (sym here) ∙ at_first) in record {
      now = w;
      there = ap (λ i. get_elem? (slice_set views id w) i) here ∙ set-there views id v w at;
      same = subst (λ (x : View D L). SameNumber x w) is same;
    })
    (λ apart. record { now = first; there = set_else views id 0 w apart ∙ at_first; same = same-itself first })

abbrev one_if : Bool → ℕ
one_if b = if b then 1 else 0

-- as many passes live
living-same : {D L : Type 0} (views : List (View D L)) (id : ℕ) (v w : View D L) → get_elem? views id ≡ some v → w.live ≡ v.live → living (slice_set views id w) ≡ living views
living-same {D} {L} views id v w at same =
    let sum = total-set (λ (x : View D L). one_if x.live) views id v w at in
    let one : one_if w.live ≡ one_if v.live = ap one_if same in
    omega arith

-- The numbers of passes as one view changes that keeps its own, and the past with it.
pub numbers-set : {D L : Type 0} (past later : List Entry) (words changed : List ℕ) (views : List (View D L)) (id : ℕ) (v w first : View D L) → get_elem? views id ≡ some v → SameNumber v w → slice_index changed 0 ≡ slice_index words 0 →
    ((number : ℕ) (seen : List Entry) → Contains first.ended (number, seen) → IsIdle number seen later) →
    ((u : View D L) → get_elem? (slice_set views id w) 0 ≡ some u → (number : ℕ) → given_numbers first ≤ number → IsIdle number u.seen later) →
    PassesAreNumbered past words views first → (now : View D L) × PassesAreNumbered later changed (slice_set views id w) now
numbers-set {D} {L} past later words changed views id v w first at same word ended idle are =
    let head = first-set views id v w first at are.there same in
    let given = given-same first head.now head.same in
    let was = λ (a : ℕ) (u : View D L) (there : get_elem? (slice_set views id w) a ≡ some u). was_there views id v w a u at same there in
    let back = λ (number : ℕ) (seen : List Entry) (among : Contains head.now.ended (number, seen)). subst (λ (l : List (ℕ × List Entry)). Contains l (number, seen)) head.same.ended among in (
      head.now,
      record {
        there = head.there;
        is_live = head.same.live ∙ are.is_live;
        is_first = head.same.number ∙ are.is_first;
        word = word ∙ are.word ∙ sym head.same.made;
        few = rw (head.same.made, head.same.passes) are.few;
        alike = λ a u at_a live.
            let old = was a u at_a in
            let is = are.alike a old.before old.there (sym old.same.live ∙ live) in
            (old.same.passes ∙ is.0 ∙ sym head.same.passes, old.same.before ∙ is.1 ∙ sym head.same.before);
        kept = rw (head.same.in_flight are.is_first, head.same.before, head.same.ended) are.kept;
        apart = λ a b u x at_a at_b live_u live_x n.
            let old = was a u at_a in let other = was b x at_b in
            are.apart a b old.before other.before old.there other.there (sym old.same.live ∙ live_u) (sym other.same.live ∙ live_x) (sym old.same.number ∙ n ∙ other.same.number);
        below = λ a u at_a live.
            let old = was a u at_a in
            rw (old.same.number, given) (are.below a old.before old.there (sym old.same.live ∙ live));
        ended = λ number seen among. ended number seen (back number seen among);
        ended_below = λ number seen among. rw given (are.ended_below number seen (back number seen among));
        ended_apart = λ number seen a u among at_a live.
            let old = was a u at_a in
            λ n. are.ended_apart number seen a old.before (back number seen among) old.there (sym old.same.live ∙ live) (sym old.same.number ∙ n);
        unmade = λ number free. idle head.now head.there number (rw given at free);
        counted =
            let all = living-same views id v w at same.live in
            let over : length head.now.ended ≡ length first.ended = ap (λ (l : List (ℕ × List Entry)). length l) head.same.ended in
            let sum = are.counted in
            omega arith;
      },
    )

-- The same where the past stays, and the view sees no less.
pub numbers-kept : {D L : Type 0} (past : List Entry) (words changed : List ℕ) (views : List (View D L)) (id : ℕ) (v w first : View D L) → get_elem? views id ≡ some v → SameNumber v w → slice_index changed 0 ≡ slice_index words 0 → ((number : ℕ) → IsIdle number v.seen past → IsIdle number w.seen past) → PassesAreNumbered past words views first → (now : View D L) × PassesAreNumbered past changed (slice_set views id w) now
numbers-kept {D} {L} past words changed views id v w first at same word sees are = numbers-set past past words changed views id v w first at same word are.ended
    (λ u there number free. ⊎_elim
    (λ here. let is : v ≡ first = some-injective v first (sym at ∙ ap (λ i. get_elem? views i) (sym here.0) ∙ are.there) in
    subst (λ (x : View D L). IsIdle number x.seen past) here.1 (sees number (subst (λ (x : View D L). IsIdle number x.seen past) (sym is) (are.unmade number free))))
    (λ other. let is : first ≡ u = some-injective first u (sym are.there ∙ other.1) in
    subst (λ (x : View D L). IsIdle number x.seen past) is (are.unmade number free))
    (at_set views id 0 w u there))
    are

-- The step that takes a turn keeps the rule, and tells what was taken.
use Rattle.std.specs.Prelude.{◌≡◌, ◌≢◌, ◌⊎◌, ℕ, suc, ◌+◌, ◌-◌, ◌≤◌, Bool, true, false, List, [], ◌∷◌, length, slice_index, slice_set, refl}
use Rattle.std.specs.declared.option.Option.TheVariants.{Some, None}
use Rattle.std.specs.Bool.{MatchBool}
use Rattle.std.proofs.Common.{sym, ap, ◌∙◌, subst, inl, inr, ⊎_elim, arith, length-set}
use Rattle.std.proofs.lemmas.Bool.{eqb-true, eq-eqb, ne_eqb}
use mathlib.Core.Option.{some, none}
use mathlib.Core.Logic.{dite}
use native.Mathlib.Decide.{ℕ_discrete}
use lib.ListN.{get_elem?}
use Rattle.atomic_table.specs.Table.{State, Me, step, keeps, takes, stepped, Allows}
use Rattle.atomic_table.proofs.Lists.{at_set, set_again}
use Rattle.cc_entry.specs.declared.entry.Entry.{Entry}
use Rattle.cc_model.specs.Turns.{Turn, Device, Book, Log, Journal}
use Rattle.cc_laws.proofs.TurnSteps.{is_quiet-none}
use Rattle.cc_turns.specs.Standing.{holds}
use Rattle.cc_turns.specs.Desk.{Begun, Tells}
use Rattle.cc_turns.specs.Slots.{slot_of, slots_of, HasTurn, Fits}
use Rattle.cc_board.specs.declared.rule.View.{View}
use Rattle.cc_board.specs.View.{run_of, turns_held, with_turn}
use Rattle.cc_board.specs.Plays.{TurnSlot, TookTurn, TakesTurn}
use Rattle.cc_board.specs.Board.{PassIsWithin}
use Rattle.cc_board.specs.Rule.{under_way, turn_word, IsAtHome, IsTaken, IsHeld, IsView, PassesAreNumbered, IsBoard}
use Rattle.cc_board.proofs.UnderWay.{under_way_most}
use Rattle.cc_board.proofs.Standing.{slot-apart, slot-within}
use Rattle.cc_board.proofs.Resting.{SameTurns, same_turns, taken_word, view_still, board_still}
use Rattle.cc_board.proofs.Parts.{set-there, word-here, word-else, word-first, home-else, held-kept, view-else, apart-set, under_way-kept, under_way-at, reserved-set, SameNumber, same-itself, numbers-kept}

-- a pass holds no turn of this one's kind
abbrev pub Lacks : {D L : Type 0} → Turn → View D L → Type 0
Lacks (Device stream) v = v.device ≡ None
Lacks (Book stream) v = v.book ≡ None
Lacks (Log handle) v = v.log ≡ None
Lacks Journal v = v.journal ≡ false

-- ---- the view with a turn more

abbrev taken_view : {D L : Type 0} → Turn → List Entry → ℕ → View D L → View D L
taken_view t past others v = record (with_turn t v) { seen = past; others = others }

-- it holds the turn
with-new : {D L : Type 0} (t : Turn) (v : View D L) → holds (turns_held (with_turn t v)) t ≡ true
with-new (Device s) v = eq-eqb s s refl
with-new (Book s) v = eq-eqb s s refl
with-new (Log h) v = eq-eqb h h refl
with-new Journal v = refl

-- and no other that it did not hold
with-one : {D L : Type 0} (t : Turn) (v : View D L) (u : Turn) → holds (turns_held (with_turn t v)) u ≡ true → (u ≡ t) ⊎ (holds (turns_held v) u ≡ true)
with-one (Device s) v (Device r) held = inl (ap Device (sym (eqb-true s r held)))
with-one (Device s) v other held = inr held
with-one (Book s) v (Book r) held = inl (ap Book (sym (eqb-true s r held)))
with-one (Book s) v other held = inr held
with-one (Log s) v (Log r) held = inl (ap Log (sym (eqb-true s r held)))
with-one (Log s) v other held = inr held
with-one Journal v Journal held = inl refl
with-one Journal v other held = inr held

-- it holds those that it held
with-old : {D L : Type 0} (t : Turn) (v : View D L) (u : Turn) → Lacks t v → holds (turns_held v) u ≡ true → holds (turns_held (with_turn t v)) u ≡ true
with-old (Device s) v (Device r) lacks held = let no_turn = rw lacks at held in absurd (cc)
with-old (Device s) v other lacks held = held
with-old (Book s) v (Book r) lacks held = let no_turn = rw lacks at held in absurd (cc)
with-old (Book s) v other lacks held = held
with-old (Log s) v (Log r) lacks held = let no_turn = rw lacks at held in absurd (cc)
with-old (Log s) v other lacks held = held
with-old Journal v Journal lacks held = refl
with-old Journal v other lacks held = held

-- it is of the same number and run, and has as much under way
same-taken : {D L : Type 0} (t : Turn) (past : List Entry) (n : ℕ) (v : View D L) → SameNumber v (taken_view t past n v)
same-taken (Device s) past n v = record { live = refl; number = refl; made = refl; drawn = refl; ended = refl; passes = refl; before = refl; in_flight = λ first. refl }
same-taken (Book s) past n v = record { live = refl; number = refl; made = refl; drawn = refl; ended = refl; passes = refl; before = refl; in_flight = λ first. refl }
same-taken (Log h) past n v = record { live = refl; number = refl; made = refl; drawn = refl; ended = refl; passes = refl; before = refl; in_flight = λ first. refl }
same-taken Journal past n v = record { live = refl; number = refl; made = refl; drawn = refl; ended = refl; passes = refl; before = refl; in_flight = λ first. refl }

run-taken : {D L : Type 0} (t : Turn) (past : List Entry) (n : ℕ) (v : View D L) → run_of (taken_view t past n v) ≡ run_of v
run-taken (Device s) past n v = refl
run-taken (Book s) past n v = refl
run-taken (Log h) past n v = refl
run-taken Journal past n v = refl

in_flight-taken : {D L : Type 0} (t : Turn) (past : List Entry) (n : ℕ) (v : View D L) → (taken_view t past n v).in_flight ≡ v.in_flight
in_flight-taken (Device s) past n v = refl
in_flight-taken (Book s) past n v = refl
in_flight-taken (Log h) past n v = refl
in_flight-taken Journal past n v = refl

-- a pass that knows what the others have under way at most, still does
within-taken : {D L : Type 0} (t : Turn) (past : List Entry) (n : ℕ) (v : View D L) → n ≤ v.before + v.passes → PassIsWithin v → PassIsWithin (taken_view t past n v)
within-taken t past n v few within = let same = same-taken t past n v in record {
  is_other = λ first. within.is_other (sym same.number ∙ first);
  one = rw (in_flight-taken t past n v) within.one;
  few = rw (same.before, same.passes) few;
}

pub within-took : {D L Q : Type 0} (tells : Tells D L Q) (t : Turn) (me now : Me (TurnSlot D L Q) (View D L)) → TookTurn tells t me now → PassIsWithin me.0 → PassIsWithin now.0
within-took {D} {L} tells t me now took within = subst (λ (x : View D L). PassIsWithin x) (sym took.same) (within-taken t now.0.seen now.0.others me.0 took.few within)

-- ---- a turn that is taken stays taken

taken-on : {D L : Type 0} (begun : Begun D L) (words : List ℕ) (t u : Turn) (n : ℕ) → n ≢ 0 → length words ≡ suc (slots_of begun) → HasTurn begun t → IsTaken begun words u → IsTaken begun (slice_set words (turn_word begun t) n) u
taken-on begun words t u n not_zero sized known taken = record {
  known = taken.known;
  word = λ free. dite (ℕ_discrete (slot_of begun u) (slot_of begun t))
      (λ same. let here = rw same at free in not_zero (sym (word-here begun words t n sized known) ∙ here))
      (λ apart. taken.word (sym (word-else begun words t u n apart) ∙ free));
}

-- ---- the parts of the rule after a free turn was taken

module _ {D L Q : Type 0} (tells : Tells D L Q) (t : Turn) (id : ℕ) (v : View D L) (live : v.live ≡ true) (known : HasTurn (run_of v) t) (lacks : Lacks t v)
    (s : State (TurnSlot D L Q) (View D L)) (r : IsBoard tells (run_of v) s) (at : get_elem? s.views id ≡ some v) (free : slice_index s.words (turn_word (run_of v) t) ≡ 0)
    (word : ℕ) (not_zero : word ≢ 0) where
  abbrev run : Begun D L
  run = run_of v

  abbrev now : View D L
  now = taken_view t r.past (under_way s.views - v.in_flight) v

  abbrev words : List ℕ
  words = slice_set s.words (turn_word run t) word

  abbrev views : List (View D L)
  views = slice_set s.views id now

  now-word : slice_index words (turn_word run t) ≢ 0
  now-word is_free = not_zero (sym (word-here run s.words t word r.sized.0 known) ∙ is_free)

  as_much : under_way views ≡ under_way s.views
  as_much = under_way-kept s.views id v now at (in_flight-taken t r.past (under_way s.views - v.in_flight) v)

  -- nobody holds it
  none_has : (a : ℕ) (x : View D L) → get_elem? s.views a ≡ some x → holds (turns_held x) t ≡ true → ⊥
  none_has a x there held = ((r.views a x there).taken t held).word free

  -- what a turn that is free still is of is at home
  home : (u : Turn) → HasTurn run u → slice_index words (turn_word run u) ≡ 0 → IsAtHome tells run r.past (under_way views) (slice_set s.homes (slot_of run t) none) u
  home u has none_there = dite (ℕ_discrete (slot_of run u) (slot_of run t))
      (λ same. let there = rw same at none_there in absurd (now-word there))
      (λ apart. home-else tells run r.past (under_way s.views) (under_way views) s.homes t u none apart (sym as_much)
      (r.home u has (sym (word-else run s.words t u word apart) ∙ none_there)))

  -- the turn is held, and each other that is not free
  out : (u : Turn) → HasTurn run u → slice_index words (turn_word run u) ≢ 0 → IsHeld views u
  out u has some_there = dite (ℕ_discrete (slot_of run u) (slot_of run t))
      (λ same. record { id = id; view = now; there = set-there s.views id v now at; held = rw (slot-apart run u t has known same) (with-new t v) })
      (λ apart. held-kept s.views id v now u at (with-old t v u lacks) (r.out u has (λ none_there. some_there (word-else run s.words t u word apart ∙ none_there))))

  -- the words of what the pass holds say so
  now-taken : (u : Turn) → holds (turns_held now) u ≡ true → IsTaken run words u
  now-taken u held = ⊎_elim
      (λ same. record { known = rw same known; word = rw same now-word })
      (λ old. taken-on run s.words t u word not_zero r.sized.0 known ((r.views id v at).taken u old))
      (with-one t v u held)

  -- what is true of its view
  now-view : IsView tells run r.past words now
  now-view = record {
    of_run = λ lives. run-taken t r.past (under_way s.views - v.in_flight) v;
    grows = λ lives. record { later = []; grew = refl; quiet = λ u held. is_quiet-none u; others = tt };
    spent = λ dead. let lives = (same-taken t r.past (under_way s.views - v.in_flight) v).live in absurd (cc);
    none = λ dead. let lives = (same-taken t r.past (under_way s.views - v.in_flight) v).live in absurd (cc);
    one = λ apart. rw (in_flight-taken t r.past (under_way s.views - v.in_flight) v)
        ((r.views id v at).one (λ is. apart ((same-taken t r.past (under_way s.views - v.in_flight) v).number ∙ is)));
    taken = now-taken;
  }

  -- and of each other
  each : (a : ℕ) (x : View D L) → get_elem? views a ≡ some x → IsView tells run r.past words x
  each a x there = ⊎_elim
      (λ here. subst (λ y. IsView tells run r.past words y) here.1 now-view)
      (λ other. view-else tells run r.past s.words words x (λ u held taken. taken-on run s.words t u word not_zero r.sized.0 known taken) (r.views a x other.1))
      (at_set s.views id a now x there)

  -- no turn is held twice
  alone : (b : ℕ) (x : View D L) (u : Turn) → b ≢ id → get_elem? s.views b ≡ some x → holds (turns_held now) u ≡ true → holds (turns_held x) u ≡ true → ⊥
  alone b x u other there held held_there = ⊎_elim
      (λ same. none_has b x there (subst (λ y. holds (turns_held x) y ≡ true) same held_there))
      (λ old. other (sym (r.apart id b v x u at there old held_there)))
      (with-one t v u held)

  -- it knows what the others have under way
  knows : now.journal ≡ true → under_way s.views ≡ now.in_flight + now.others
  knows held =
      let within = under_way-at s.views id v at in
      let same = in_flight-taken t r.past (under_way s.views - v.in_flight) v in
      omega arith

  numbers : (first : View D L) × PassesAreNumbered r.past words views first
  numbers = numbers-kept r.past s.words words s.views id v now r.first at (same-taken t r.past (under_way s.views - v.in_flight) v) (word-first run s.words t word)
      (λ number idle. record { during = []; grew = refl; others = tt }) r.numbers

  -- the rule after a free turn was taken
  after : (c : List (ℕ × TurnSlot D L Q)) → IsBoard tells run (stepped s (turn_word run t) word id c now (takes (slot_of run t) (Some (r.home t known free).place)))
  after c = record {
    past = r.past;
    good = r.good;
    within = r.within;
    few = r.few;
    sized = (length-set s.words (turn_word run t) word ∙ r.sized.0, length-set s.homes (slot_of run t) none ∙ r.sized.1);
    home = home;
    out = out;
    views = each;
    apart = apart-set s.views id now alone r.apart;
    reserved = reserved-set s.views id now as_much knows r.reserved;
    first = numbers.0;
    numbers = numbers.1;
  }

  -- the others have no more under way than was at first, and one for each pass
  few : under_way s.views - v.in_flight ≤ v.before + v.passes
  few =
      let most = under_way_most tells run r.past s.words s.views r.first r.numbers r.views in
      let alike = r.numbers.alike id v at live in
      omega arith

  -- what the step tells
  took : (c : List (ℕ × TurnSlot D L Q)) → TookTurn tells t (v, c) (now, (slot_of run t, Some (r.home t known free).place) ∷ c)
  took c =
      let within = under_way-at s.views id v at in
      let sum : under_way s.views ≡ v.in_flight + (under_way s.views - v.in_flight) = omega arith in
      record {
        place = (r.home t known free).place;
        carried = refl;
        same = refl;
        grows = (r.views id v at).grows live;
        good = r.good;
        fits = subst (λ n. Fits tells run r.past n t (r.home t known free).place) sum (r.home t known free).fits;
        few = few;
      }

-- ---- the step

-- where the turn is not free, another word may say so
stays : {D L Q : Type 0} (tells : Tells D L Q) (begun : Begun D L) (t : Turn) (n id : ℕ) (me : Me (TurnSlot D L Q) (View D L)) (s : State (TurnSlot D L Q) (View D L)) → HasTurn begun t → IsBoard tells begun s → get_elem? s.views id ≡ some me.0 → slice_index s.words (turn_word begun t) ≢ 0 → n ≢ 0 → IsBoard tells begun (stepped s (turn_word begun t) n id me.1 me.0 keeps)
stays {D} {L} {Q} tells begun t n id me s known r at taken not_zero =
    let within = slot-within begun t known in
    let sized = r.sized.0 in
    let same = taken_word s.words (slot_of begun t) n (omega arith) taken not_zero in
    let views = set_again s.views id me.0 at in
    let numbers = numbers-kept r.past s.words (slice_set s.words (turn_word begun t) n) s.views id me.0 me.0 r.first at (same-itself me.0) (word-first begun s.words t n) (λ number idle. idle) r.numbers in
    board_still tells begun s r (slice_set s.words (turn_word begun t) n) (slice_set s.views id me.0) same
    (subst (λ (l : List (View D L)). SameTurns s.views l) (sym views) (same_turns s.views))
    (λ a x there. view_still tells begun x same (r.views a x (subst (λ (l : List (View D L)). get_elem? l a ≡ some x) views there)))
    numbers.0 numbers.1

-- a pass may take the turn of its own run
takes_own : {D L Q : Type 0} (tells : Tells D L Q) (turn_at : Begun D L → ℕ → Turn) (t : Turn) (id : ℕ) (me : Me (TurnSlot D L Q) (View D L)) (f : ℕ → ℕ) (first second : ℕ) → ((n : ℕ) → f n ≢ 0) → me.0.live ≡ true → HasTurn (run_of me.0) t → Lacks t me.0 → turn_at (run_of me.0) (turn_word (run_of me.0) t) ≡ t →
    Allows (IsBoard tells (run_of me.0)) (slots_of (run_of me.0)) id me (turn_word (run_of me.0) t) f
    (TakesTurn tells turn_at (step (slots_of (run_of me.0)) (turn_word (run_of me.0) t) first second none) me)
takes_own {D} {L} {Q} tells turn_at t id me f first second leaves live known lacks at_is s r sized at small =
    let i : ℕ = turn_word (run_of me.0) t in
    let x : ℕ = slice_index s.words i in
    dite (ℕ_discrete x 0)
    (λ free.
    let place = (r.home t known free).place in
    let w : View D L = taken_view t r.past (under_way s.views - me.0.in_flight) me.0 in
    let there : Me (TurnSlot D L Q) (View D L) = (w, (slot_of (run_of me.0) t, Some place) ∷ me.1) in (
      w,
      takes (slot_of (run_of me.0) t) (Some place),
      (r.home t known free).there,
      after tells t id me.0 live known lacks s r at free (f x) (leaves x) me.1,
      subst (λ (b : Bool). MatchBool b (TookTurn tells (turn_at (run_of me.0) i) me there) (there ≡ me)) (sym (eq-eqb x 0 free))
          (subst (λ (u : Turn). TookTurn tells u me there) (sym at_is) (took tells t id me.0 live known lacks s r at free (f x) (leaves x) me.1)),
    ))
    (λ taken. (
      me.0,
      keeps,
      tt,
      stays tells (run_of me.0) t (f x) id me s known r at taken (leaves x),
      subst (λ (b : Bool). MatchBool b (TookTurn tells (turn_at (run_of me.0) i) me me) (me ≡ me)) (sym (ne_eqb x 0 taken)) refl,
    ))

-- a pass may take a turn of its board's run, where it holds none of the kind
pub takes_turn : {D L Q : Type 0} (tells : Tells D L Q) (begun : Begun D L) (turn_at : Begun D L → ℕ → Turn) (t : Turn) (id : ℕ) (me : Me (TurnSlot D L Q) (View D L)) (f : ℕ → ℕ) (first second : ℕ) → ((n : ℕ) → f n ≢ 0) → run_of me.0 ≡ begun → me.0.live ≡ true → HasTurn begun t → Lacks t me.0 → turn_at begun (turn_word begun t) ≡ t →
    Allows (IsBoard tells begun) (slots_of begun) id me (turn_word begun t) f
    (TakesTurn tells turn_at (step (slots_of begun) (turn_word begun t) first second none) me)
takes_turn {D} {L} {Q} tells begun turn_at t id me f first second leaves run_is live known lacks at_is =
    subst (λ (b : Begun D L). HasTurn b t → turn_at b (turn_word b t) ≡ t →
    Allows (IsBoard tells b) (slots_of b) id me (turn_word b t) f (TakesTurn tells turn_at (step (slots_of b) (turn_word b t) first second none) me))
    run_is (λ has is. takes_own tells turn_at t id me f first second leaves live has lacks is) known at_is

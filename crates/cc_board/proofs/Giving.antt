-- The step that gives back a turn, other than the journal's, keeps the rule.
use Rattle.std.specs.Prelude.{◌≡◌, ◌≢◌, ℕ, ◌+◌, true, false, List, ◌∷◌, ◌++◌, slice_index, slice_set, Option, refl}
use Rattle.std.specs.declared.option.Option.TheVariants.{Some, None}
use Rattle.std.proofs.Common.{sym, ap, ◌∙◌, subst, ⊎_elim, arith, length-set}
use Rattle.std.proofs.lemmas.Bool.{eqb-true}
use mathlib.Core.Option.{some, none, Option as Maybe}
use mathlib.Core.Logic.{dite}
use native.Mathlib.Decide.{ℕ_discrete}
use lib.ListN.{get_elem?}
use Rattle.atomic_table.specs.Table.{State, Me, step, gives, stepped, Allows}
use Rattle.atomic_table.proofs.Lists.{at_set, set_here}
use Rattle.cc_model.specs.Turns.{Turn, Device, Book, Log, Journal, is_journal}
use Rattle.cc_turns.specs.Standing.{holds, is_the}
use Rattle.cc_turns.specs.Desk.{Begun, Tells}
use Rattle.cc_turns.specs.Slots.{slot_of, slots_of, HasTurn, Fits}
use Rattle.cc_turns.specs.declared.slots.Place.{Place}
use Rattle.cc_board.specs.declared.rule.View.{View}
use Rattle.cc_board.specs.View.{run_of, turns_held, without_turn}
use Rattle.cc_board.specs.Plays.{TurnSlot, GivesTurn}
use Rattle.cc_board.specs.Rule.{under_way, turn_word, IsAtHome, IsTaken, IsHeld, IsView, PassesAreNumbered, IsBoard}
use Rattle.cc_board.proofs.Standing.{slot-apart, slot-within, fits_grows, fits_any}
use Rattle.cc_board.proofs.Parts.{word-here, word-else, word-first, home-else, held-kept, view-else, apart-set, under_way-kept, reserved-set, SameNumber, numbers-kept}

-- ---- the view with a turn less

-- of each kind a pass holds one turn alone
one-of : (held : Option ℕ) (a b : ℕ) → is_the a held ≡ true → is_the b held ≡ true → a ≡ b
one-of None a b h k = absurd (cc)
one-of (Some n) a b h k = sym (eqb-true n a h) ∙ eqb-true n b k

-- it does not hold the turn
without-gone : {D L Q : Type 0} (t : Turn) (given : Place D L Q) (v : View D L) → is_journal t ≡ false → holds (turns_held (without_turn t given v)) t ≡ false
without-gone (Device s) given v other = refl
without-gone (Book s) given v other = refl
without-gone (Log h) given v other = refl
without-gone Journal given v other = absurd (cc)

-- what it holds, it held
without-held : {D L Q : Type 0} (t : Turn) (given : Place D L Q) (v : View D L) (u : Turn) → is_journal t ≡ false → holds (turns_held (without_turn t given v)) u ≡ true → holds (turns_held v) u ≡ true
without-held (Device s) given v (Device r) other held = absurd (cc)
without-held (Device s) given v u other held = held
without-held (Book s) given v (Book r) other held = absurd (cc)
without-held (Book s) given v u other held = held
without-held (Log s) given v (Log r) other held = absurd (cc)
without-held (Log s) given v u other held = held
without-held Journal given v u other held = absurd (cc)

-- and each other that it held, it holds
without-old : {D L Q : Type 0} (t : Turn) (given : Place D L Q) (v : View D L) (u : Turn) → is_journal t ≡ false → holds (turns_held v) t ≡ true → u ≢ t → holds (turns_held v) u ≡ true → holds (turns_held (without_turn t given v)) u ≡ true
without-old (Device s) given v (Device r) other has apart held = absurd (apart (ap Device (one-of v.device r s held has)))
without-old (Device s) given v u other has apart held = held
without-old (Book s) given v (Book r) other has apart held = absurd (apart (ap Book (one-of v.book r s held has)))
without-old (Book s) given v u other has apart held = held
without-old (Log s) given v (Log r) other has apart held = absurd (apart (ap Log (one-of v.log r s held has)))
without-old (Log s) given v u other has apart held = held
without-old Journal given v u other has apart held = absurd (cc)

-- A view keeps all but the turns that it holds.
record SameBut {D L : Type 0} (v w : View D L) : Type 0 where
  number : SameNumber v w
  run : run_of w ≡ run_of v
  seen : w.seen ≡ v.seen
  in_flight : w.in_flight ≡ v.in_flight
  others : w.others ≡ v.others
  journal : w.journal ≡ v.journal

same-but : {D L Q : Type 0} (t : Turn) (given : Place D L Q) (v : View D L) → is_journal t ≡ false → SameBut v (without_turn t given v)
same-but (Device s) given v other = record { number = record { live = refl; number = refl; made = refl; drawn = refl; ended = refl; passes = refl; before = refl; in_flight = λ first. refl }; run = refl; seen = refl; in_flight = refl; others = refl; journal = refl }
same-but (Book s) given v other = record { number = record { live = refl; number = refl; made = refl; drawn = refl; ended = refl; passes = refl; before = refl; in_flight = λ first. refl }; run = refl; seen = refl; in_flight = refl; others = refl; journal = refl }
same-but (Log h) given v other = record { number = record { live = refl; number = refl; made = refl; drawn = refl; ended = refl; passes = refl; before = refl; in_flight = λ first. refl }; run = refl; seen = refl; in_flight = refl; others = refl; journal = refl }
same-but Journal given v other = absurd (cc)

-- ---- the parts of the rule after a turn was given

module _ {D L Q : Type 0} (tells : Tells D L Q) (run : Begun D L) (t : Turn) (place : Place D L Q) (n : ℕ) (id : ℕ) (v : View D L) (run_is : run_of v ≡ run) (live : v.live ≡ true) (known : HasTurn run t)
    (other : is_journal t ≡ false) (has : holds (turns_held v) t ≡ true) (fits : Fits tells run v.seen n t place)
    (s : State (TurnSlot D L Q) (View D L)) (r : IsBoard tells run s) (at : get_elem? s.views id ≡ some v) where
  abbrev now : View D L
  now = without_turn t place v

  abbrev words : List ℕ
  words = slice_set s.words (turn_word run t) 0

  abbrev views : List (View D L)
  views = slice_set s.views id now

  abbrev homes : List (Maybe (TurnSlot D L Q))
  homes = slice_set s.homes (slot_of run t) (some (Some place))

  same : SameBut v now
  same = same-but t place v other

  as_much : under_way views ≡ under_way s.views
  as_much = under_way-kept s.views id v now at same.in_flight

  -- a turn that another pass holds, or that this one still does, has another slot
  slot-held : (a : ℕ) (x : View D L) (u : Turn) → a ≢ id → get_elem? s.views a ≡ some x → holds (turns_held x) u ≡ true → u ≢ t
  slot-held a x u apart there held is = apart (r.apart a id x v t there at (subst (λ y. holds (turns_held x) y ≡ true) is held) has)

  now-held : (u : Turn) → holds (turns_held now) u ≡ true → u ≢ t
  now-held u held is = let gone = without-gone t place v other in let still = subst (λ y. holds (turns_held now) y ≡ true) is held in absurd (cc)

  -- the word of another turn that is taken stays
  taken-on : (u : Turn) → u ≢ t → IsTaken run s.words u → IsTaken run words u
  taken-on u apart taken = record {
    known = taken.known;
    word = λ free. taken.word (sym (word-else run s.words t u 0 (λ same. apart (slot-apart run u t taken.known known same))) ∙ free);
  }

  -- what the turn is of is at home, as what each free turn is of
  home-given : IsAtHome tells run r.past (under_way views) homes t
  home-given =
      let grows = (r.views id v at).grows live in
      let within = slot-within run t known in
      let sized = r.sized.1 in
      record {
        place = place;
        there = set_here s.homes (slot_of run t) (some (Some place)) (omega arith);
        fits = subst (λ past. Fits tells run past (under_way views) t place) (sym grows.grew)
            (fits_any tells run (grows.later ++ v.seen) n (under_way views) t place other
            (fits_grows tells run grows.later v.seen n t place (grows.quiet t has) fits));
      }

  home : (u : Turn) → HasTurn run u → slice_index words (turn_word run u) ≡ 0 → IsAtHome tells run r.past (under_way views) homes u
  home u had none_there = dite (ℕ_discrete (slot_of run u) (slot_of run t))
      (λ is. subst (λ y. IsAtHome tells run r.past (under_way views) homes y) (sym (slot-apart run u t had known is)) home-given)
      (λ apart. home-else tells run r.past (under_way s.views) (under_way views) s.homes t u (some (Some place)) apart (sym as_much)
      (r.home u had (sym (word-else run s.words t u 0 apart) ∙ none_there)))

  -- a turn that is not free is held
  out : (u : Turn) → HasTurn run u → slice_index words (turn_word run u) ≢ 0 → IsHeld views u
  out u had some_there = dite (ℕ_discrete (slot_of run u) (slot_of run t))
      (λ is. let none_there = word-here run s.words t 0 r.sized.0 known in absurd (some_there (rw is none_there)))
      (λ apart. held-kept s.views id v now u at (without-old t place v u other has (λ is. apart (ap (λ y. slot_of run y) is)))
      (r.out u had (λ none_there. some_there (word-else run s.words t u 0 apart ∙ none_there))))

  -- what is true of the view of the pass
  now-view : IsView tells run r.past words now
  now-view =
      let grows = (r.views id v at).grows live in
      record {
        of_run = λ lives. same.run ∙ run_is;
        grows = λ lives. record {
          later = grows.later;
          grew = rw same.seen grows.grew;
          quiet = λ u held. grows.quiet u (without-held t place v u other held);
          others = rw same.number.number grows.others;
        };
        spent = λ dead. let lives = same.number.live in absurd (cc);
        none = λ dead. let lives = same.number.live in absurd (cc);
        one = λ apart. rw same.in_flight ((r.views id v at).one (λ is. apart (same.number.number ∙ is)));
        taken = λ u held. taken-on u (now-held u held) ((r.views id v at).taken u (without-held t place v u other held));
      }

  -- and of each other
  each : (a : ℕ) (x : View D L) → get_elem? views a ≡ some x → IsView tells run r.past words x
  each a x there = ⊎_elim
      (λ here. subst (λ y. IsView tells run r.past words y) here.1 now-view)
      (λ else. view-else tells run r.past s.words words x (λ u held taken. taken-on u (slot-held a x u else.0 else.1 held) taken) (r.views a x else.1))
      (at_set s.views id a now x there)

  -- no turn is held twice
  alone : (b : ℕ) (x : View D L) (u : Turn) → b ≢ id → get_elem? s.views b ≡ some x → holds (turns_held now) u ≡ true → holds (turns_held x) u ≡ true → ⊥
  alone b x u apart there held held_there = apart (sym (r.apart id b v x u at there (without-held t place v u other held) held_there))

  -- it knows what the others have under way, where it holds the journal
  knows : now.journal ≡ true → under_way s.views ≡ now.in_flight + now.others
  knows held =
      let in_flight = same.in_flight in
      let others = same.others in
      let sum = r.reserved id v at (sym same.journal ∙ held) in
      omega arith

  numbers : (first : View D L) × PassesAreNumbered r.past words views first
  numbers = numbers-kept r.past s.words words s.views id v now r.first at same.number (word-first run s.words t 0)
      (λ number idle. rw same.seen idle) r.numbers

  -- the rule after a turn was given
  after : (c : List (ℕ × TurnSlot D L Q)) → IsBoard tells run (stepped s (turn_word run t) 0 id ((slot_of run t, Some place) ∷ c) now gives)
  after c = record {
    past = r.past;
    good = r.good;
    within = r.within;
    few = r.few;
    sized = (length-set s.words (turn_word run t) 0 ∙ r.sized.0, length-set s.homes (slot_of run t) (some (Some place)) ∙ r.sized.1);
    home = home;
    out = out;
    views = each;
    apart = apart-set s.views id now alone r.apart;
    reserved = reserved-set s.views id now as_much knows r.reserved;
    first = numbers.0;
    numbers = numbers.1;
  }

-- ---- the step

-- a pass may give a turn that it holds and took last, where what the turn is of stands for all that it has seen
pub gives_turn : {D L Q : Type 0} (tells : Tells D L Q) (run : Begun D L) (turn_at : Begun D L → ℕ → Turn) (t : Turn) (place : Place D L Q) (n id : ℕ) (v : View D L) (c : List (ℕ × TurnSlot D L Q)) → run_of v ≡ run → v.live ≡ true → HasTurn run t → is_journal t ≡ false → holds (turns_held v) t ≡ true → Fits tells run v.seen n t place → turn_at run (turn_word run t) ≡ t →
    Allows (IsBoard tells run) (slots_of run) id (v, (slot_of run t, Some place) ∷ c) (turn_word run t) (λ _. 0)
    (GivesTurn turn_at (step (slots_of run) (turn_word run t) 0 0 none) (v, (slot_of run t, Some place) ∷ c))
gives_turn {D} {L} {Q} tells run turn_at t place n id v c run_is live known other has fits at_is s r sized at small = let there : Me (TurnSlot D L Q) (View D L) = (without_turn t place v, c) in (
  without_turn t place v,
  gives,
  tt,
  after tells run t place n id v run_is live known other has fits s r at c,
  subst (λ (u : Turn). let back : Me (TurnSlot D L Q) (View D L) = (without_turn u place v, c) in there ≡ back) (sym (ap (λ (b : Begun D L). turn_at b (turn_word run t)) run_is ∙ at_is)) refl,
)

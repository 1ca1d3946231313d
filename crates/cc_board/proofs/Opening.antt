-- A board that was just made keeps its rule.
use Rattle.std.proofs.Common.{◌≡◌, ℕ, zero, suc, ◌-◌, ◌<◌, false, List, [], ◌∷◌, map, replicate, get_or, refl, sym, ap, ◌∙◌, subst, arith}
use mathlib.Core.Option.{some, some-injective, some-ne-none}
use lib.ListN.{get_elem?}
use Rattle.std.specs.List.{slice_get}
use Rattle.std.specs.declared.option.Option.TheVariants.{Some}
use Rattle.std.proofs.lemmas.List.{length-replicate, length-map}
use Rattle.atomic_table.specs.Table.{opening}
use Rattle.cc_entry.specs.declared.entry.Entry.{Entry}
use Rattle.cc_journal.specs.Journal.{JournalState}
use Rattle.cc_model.specs.Room.{reserved_in}
use Rattle.cc_model.specs.Turns.{Turn}
use Rattle.cc_turns.specs.Standing.{nothing}
use Rattle.cc_turns.specs.Desk.{Begun, Tells, DeskState}
use Rattle.cc_turns.specs.Slots.{HasTurn, slot_of, slots_of, AreInSlots, Fits, under_way_in}
use Rattle.cc_board.specs.declared.rule.View.{View}
use Rattle.cc_board.specs.declared.rule.Key.{Key}
use Rattle.cc_board.specs.View.{run_in, first_view}
use Rattle.cc_board.specs.Plays.{TurnSlot}
use Rattle.cc_board.specs.Rule.{IsBoard, IsView, IsAtHome, PassesAreNumbered, under_way}
use Rattle.cc_board.proofs.Resting.{none_held}
use Rattle.cc_board.proofs.Passes.{contains_none}

-- each of these numbers is 0
zeros : (n k : ℕ) → get_or {A = ℕ} (replicate n 0) k 0 ≡ 0
zeros zero k = refl
zeros (suc n) zero = refl
zeros (suc n) (suc k) = zeros n k

-- what `slice_get` finds in a list, is in the list of what is at home
home_at : {A : Type 0} (l : List A) (i : ℕ) (a : A) → slice_get l i ≡ Some a → get_elem? (map some l) i ≡ some (some a)
home_at [] i a e = absurd (cc)
home_at {A = A} (x ∷ xs) zero a e = let is : x ≡ a = cc in ap (λ (y : A). some (some y)) is
home_at (x ∷ xs) (suc i) a e = home_at xs i a e

-- a list of one has it alone
one_there : {A : Type 0} (x a : A) (i : ℕ) → get_elem? (x ∷ []) i ≡ some a → (i ≡ 0) × (x ≡ a)
one_there x a zero e = (refl, some-injective x a e)
one_there x a (suc i) e = absurd (some-ne-none a (sym e))

module _ {D L Q : Type 0} (tells : Tells D L Q) (key : Key D L Q) (turns : ℕ) (slots : List (TurnSlot D L Q)) where
  abbrev begun : Begun D L
  begun = run_in key

  abbrev first : View D L
  first = first_view key

  abbrev words : List ℕ
  words = 1 ∷ replicate turns 0

  abbrev past : List Entry
  past = key.journal.value.entries

  first_numbers : PassesAreNumbered past words (first ∷ []) first
  first_numbers = record {
    there = refl;
    is_live = refl;
    is_first = refl;
    word = refl;
    few = omega arith;
    alike = λ id v at lv. let is = (one_there first v id at).1 in (ap (λ (x : View D L). x.passes) (sym is), ap (λ (x : View D L). x.before) (sym is));
    kept = omega arith;
    apart = λ a b u v at bt lu lv e. (one_there first u a at).0 ∙ sym (one_there first v b bt).0;
    below = λ id v at lv. subst (λ (x : View D L). x.number < 1) (one_there first v id at).1 (omega arith);
    ended = λ number seen has. absurd (contains_none (number, seen) has);
    ended_below = λ number seen has. absurd (contains_none (number, seen) has);
    ended_apart = λ number seen id v has. absurd (contains_none (number, seen) has);
    unmade = λ number more. record { during = []; grew = refl; others = tt };
    counted = refl;
  }

  first_right : IsView tells begun past words first
  first_right = record {
    of_run = λ h. refl;
    grows = λ h. record { later = []; grew = refl; quiet = λ t k. absurd (none_held nothing t refl k); others = tt };
    spent = λ h. refl;
    none = λ h. absurd (cc);
    one = λ h. absurd (h refl);
    taken = λ turn h. absurd (none_held nothing turn refl h);
  }

  module _ (are : AreInSlots tells begun past first.in_flight slots) (counted : turns ≡ slots_of begun) where
    first_home : (turn : Turn) → HasTurn begun turn → IsAtHome tells begun past (under_way (first ∷ [])) (map some slots) turn
    first_home turn has = let i = are.each turn has in record {
      place = i.place;
      there = home_at slots (slot_of begun turn) (Some i.place) i.there;
      fits = let same : first.in_flight ≡ under_way (first ∷ []) = omega arith in subst (λ (n : ℕ). Fits tells begun past n turn i.place) same i.fits;
    }

    -- the rule of a board that was just made
    pub opened : IsBoard tells begun (opening words slots first)
    opened = record {
      past = past;
      good = are.good;
      within = are.within;
      few = are.few;
      sized = (ap suc (length-replicate {A = ℕ} turns 0 ∙ counted), length-map slots some ∙ are.counted);
      home = λ turn has free. first_home turn has;
      out = λ turn has taken. absurd (taken (zeros turns (slot_of begun turn)));
      views = λ id v at. subst (λ (x : View D L). IsView tells begun past words x) (one_there first v id at).1 first_right;
      apart = λ a b u v turn at bt hu hv. (one_there first u a at).0 ∙ sym (one_there first v b bt).0;
      reserved = λ id v at h. let none : false ≡ v.journal = ap (λ (x : View D L). x.journal) (one_there first v id at).1 in absurd (cc);
      first = first;
      numbers = first_numbers;
    }

-- the rule of a board that was just made of a desk
pub opens : {D L Q : Type 0} (tells : Tells D L Q) (key : Key D L Q) (words : List ℕ) (slots : List (TurnSlot D L Q)) (turns : ℕ) (desk : DeskState D L Q)
    → AreInSlots tells desk.begun desk.last.entries (under_way_in desk) slots → run_in key ≡ desk.begun → key.journal.value ≡ desk.last
    → words ≡ 1 ∷ replicate turns 0 → turns ≡ slots_of desk.begun → IsBoard tells (run_in key) (opening words slots (first_view key))
opens {D = D} {L = L} {Q = Q} tells key words slots turns desk are run journal words_are counted = rw words_are (opened tells key turns slots
    (subst (λ (z : Begun D L × JournalState Q). AreInSlots tells z.0 z.1.entries (z.1.reserved - reserved_in z.1.entries) slots) (λ i. (sym run i, sym journal i)) are)
    (counted ∙ ap (λ (b : Begun D L). slots_of b) (sym run)))

-- what was taken apart is there still, where the board was not made
pub refused : {D L Q : Type 0} (tells : Tells D L Q) (begun emptied : Begun D L) (past : List Entry) (reserved : ℕ) (slots room : List (TurnSlot D L Q)) → AreInSlots tells begun past reserved slots
    → emptied ≡ begun → room ≡ slots → AreInSlots tells emptied past reserved room
refused tells begun emptied past reserved slots room are same_run same_slots = rw (same_run, same_slots) are

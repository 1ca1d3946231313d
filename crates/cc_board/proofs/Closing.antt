-- How a board is closed: its slots are taken out, and where all passes were joined they hold what all turns are of.
use Rattle.std.proofs.Common.{◌≡◌, ◌≢◌, ℕ, zero, suc, ◌+◌, ◌<◌, Bool, true, false, List, [], ◌∷◌, ◌++◌, length, get_or, take, set, refl, sym, ap, ◌∙◌, subst, arith, get_or-set_other, get_or-set_same}
use mathlib.Core.Option.{some, some-injective, some-ne-none}
use mathlib.Core.Logic.{dite}
use native.Mathlib.Decide.{ℕ_discrete}
use lib.ListN.{get_elem?}
use Rattle.std.specs.Mem.Slots.Ownership.{Filled}
use Rattle.std.specs.List.{slice_get}
use Rattle.std.specs.declared.option.Option.TheVariants.{Some}
use Rattle.atomic_table.specs.Table.{State, Final, Seen}
use Rattle.cc_entry.specs.declared.entry.Entry.{Entry}
use Rattle.cc_model.specs.Turns.{Turn}
use Rattle.cc_turns.specs.Standing.{nothing}
use Rattle.cc_turns.specs.Desk.{Begun, Tells, DeskState}
use Rattle.cc_turns.specs.Slots.{HasTurn, slot_of, AreInSlots, IsPutTogether}
use Rattle.cc_board.specs.declared.rule.View.{View}
use Rattle.cc_board.specs.View.{turns_held}
use Rattle.cc_board.specs.Plays.{TurnSlot}
use Rattle.cc_board.specs.Board.{BoardState, FirstState, PassIsAtRest, IsClosed}
use Rattle.cc_board.specs.Rule.{IsBoard, IsAtHome, PassesAreNumbered, under_way, given_numbers, turn_word}
use Rattle.cc_board.proofs.Views.{total-at, total-two}
use Rattle.cc_board.proofs.UnderWay.{counts, lives, beside_first}
use Rattle.cc_board.proofs.Resting.{none_held}
use Rattle.cc_board.proofs.Passes.{given_at_rest, numbers_of}

-- a place was emptied: those above it are full still
pub filled_after : (filled : List Bool) (i high : ℕ) → Filled filled i high → Filled (set filled i false) (i + 1) high
filled_after filled i high full k low within = get_or-set_other filled i k false false (λ e. omega arith) ∙ full k (omega arith) within

-- and those up to it are empty
pub emptied_after : (filled : List Bool) (i : ℕ) → i < length filled → ((k : ℕ) → k < i → get_or filled k false ≡ false) → (k : ℕ) → k < i + 1 → get_or (set filled i false) k false ≡ false
emptied_after filled i long emptied k low = dite (ℕ_discrete k i)
    (λ (e : k ≡ i). rw e (get_or-set_same filled i false false long))
    (λ (ne : k ≢ i). get_or-set_other filled i k false false ne ∙ emptied k (omega arith))

-- one more was taken
pub taken_more : {A : Type 0} (l : List A) (i n : ℕ) (a : A) → get_elem? l i ≡ some a → n ≡ suc i → take i l ++ a ∷ [] ≡ take n l
taken_more l i n a e is = rw is (one_more l i a e)
  where
    one_more : {A : Type 0} (l : List A) (i : ℕ) (a : A) → get_elem? l i ≡ some a → take i l ++ a ∷ [] ≡ take (suc i) l
    one_more [] i a e = absurd (some-ne-none a (sym e))
    one_more {A = A} (x ∷ xs) zero a e = ap (λ (y : A). y ∷ []) (sym (some-injective x a e))
    one_more {A = A} (x ∷ xs) (suc i) a e = ap (λ (l : List A). x ∷ l) (one_more xs i a e)

-- what is in a list, `slice_get` finds
pub found_at : {A : Type 0} (l : List A) (i : ℕ) (a : A) → get_elem? l i ≡ some a → slice_get l i ≡ Some a
found_at [] i a e = absurd (some-ne-none a (sym e))
found_at {A = A} (x ∷ xs) zero a e = ap (λ (y : A). Some y) (some-injective x a e)
found_at (x ∷ xs) (suc i) a e = found_at xs i a e

-- each other pass that was made was joined
abbrev pub AllJoined : {D L : Type 0} → View D L → Type 0
AllJoined v = suc (length v.ended) ≡ v.made

module _ {D L Q : Type 0} (tells : Tells D L Q) (begun : Begun D L) (s : State (TurnSlot D L Q) (View D L)) (r : IsBoard tells begun s)
    (id : ℕ) (v : View D L) (there : get_elem? s.views id ≡ some v) (rest : PassIsAtRest v) (zero_is : v.number ≡ 0) where
  numbers : PassesAreNumbered r.past s.words s.views v
  numbers = (numbers_of tells begun s r id v there rest.is_live zero_is).1

  given : given_numbers v ≡ v.made
  given = given_at_rest v rest.none_drawn

  module _ (all : AllJoined v) where
    -- each other pass was joined
    one_lives : (j : ℕ) (u : View D L) → get_elem? s.views j ≡ some u → u.live ≡ true → j ≡ 0
    one_lives j u at is_live = dite (ℕ_discrete j 0) (λ (e : j ≡ 0). e)
        (λ (ne : j ≢ 0). let a = total-two counts s.views j 0 u v at numbers.there ne in let b = lives u is_live in let c = lives v rest.is_live in let d = numbers.counted in let e = given in absurd (omega arith))

    -- so each holds nothing
    at_rest : (j : ℕ) (u : View D L) → get_elem? s.views j ≡ some u → (live : Bool) → u.live ≡ live → turns_held u ≡ nothing
    at_rest j u at true is = let first : j ≡ 0 = one_lives j u at is in
        ap (λ (x : View D L). turns_held x) (some-injective u v (sym at ∙ subst (λ (k : ℕ). get_elem? s.views k ≡ some v) (sym first) numbers.there)) ∙ rest.held_is
    at_rest j u at false is = (r.views j u at).spent is

    -- and each turn is free
    all_home : (turn : Turn) → HasTurn begun turn → IsAtHome tells begun r.past (under_way s.views) s.homes turn
    all_home turn has = dite (ℕ_discrete (get_or s.words (turn_word begun turn) 0) 0) (λ free. r.home turn has free)
        (λ taken. let h = r.out turn has taken in absurd (none_held (turns_held h.view) turn (at_rest h.id h.view h.there h.view.live refl) h.held))

    -- and none but the first has anything under way
    all_under_way : under_way s.views ≡ v.in_flight
    all_under_way =
        let most = beside_first tells begun r.past s.words s.views v numbers r.views in let least = total-at (λ (x : View D L). x.in_flight) s.views 0 v numbers.there in
        let d = numbers.counted in let e = given in omega arith

    -- what all turns are of is in the slots
    pub closed_slots : (slots : List (TurnSlot D L Q)) → length s.homes ≡ length slots
        → ((k : ℕ) (y : TurnSlot D L Q) → get_elem? s.homes k ≡ some (some y) → get_elem? slots k ≡ some y)
        → AreInSlots tells begun r.past (under_way s.views) slots
    closed_slots slots long same = record {
      counted = sym long ∙ r.sized.1;
      few = r.few;
      good = r.good;
      within = r.within;
      each = λ turn has. let h = all_home turn has in
          record { place = h.place; there = found_at slots (slot_of begun turn) (Some h.place) (same (slot_of begun turn) (Some h.place) h.there); fits = h.fits };
    }

-- the desk that is put together of them
closed_desk : {D L Q : Type 0} (tells : Tells D L Q) (board : BoardState D L) (first : FirstState D L) (desk : DeskState D L Q) (s : State (TurnSlot D L Q) (View D L)) (r : IsBoard tells board.begun s)
    (id : ℕ) → get_elem? s.views id ≡ some first.knows → PassIsAtRest first.knows → first.knows.number ≡ 0 → AllJoined first.knows → IsPutTogether board.begun r.past (under_way s.views) desk → IsClosed board first desk
closed_desk tells board first desk s r id there rest zero_is all made = let n = numbers tells board.begun s r id first.knows there rest zero_is in let g = (r.views id first.knows there).grows rest.is_live in
    let e : given_numbers first.knows ≡ first.knows.made = given_at_rest first.knows rest.none_drawn in
    record {
      run_is = made.begun_is;
      held_is = made.held_is;
      pass_is = made.pass_is;
      under_way_is = made.under_way_is ∙ all_under_way tells board.begun s r id first.knows there rest zero_is all;
      first = rw made.past_is record { during = g.later; grew = g.grew; others = rw (← zero_is) g.others };
      others = λ number seen has. rw made.past_is (n.ended number seen has);
      unmade = λ number more. rw made.past_is (n.unmade number (omega arith));
    }

-- What was taken out of a board whose passes were all joined, and what a desk that is put together of it is.
pub record Ended {D L Q : Type 0} (tells : Tells D L Q) (begun emptied : Begun D L) (v : View D L) (room : List (TurnSlot D L Q)) : Type 0 where
  pub past : List Entry
  pub reserved : ℕ
  pub are : AreInSlots tells emptied past reserved room
  pub closes : (board : BoardState D L) (first : FirstState D L) (desk : DeskState D L Q) → board.begun ≡ begun → first.knows ≡ v → IsPutTogether emptied past reserved desk → IsClosed board first desk

pub ended : {D L Q : Type 0} (tells : Tells D L Q) (begun emptied : Begun D L) (id : ℕ) (v : View D L) (words : List ℕ) (slots room : List (TurnSlot D L Q))
    → Final (Seen (IsBoard tells begun) id v) words slots → PassIsAtRest v → v.number ≡ 0 → AllJoined v → emptied ≡ begun → room ≡ slots → Ended tells begun emptied v room
ended {D = D} {L = L} {Q = Q} tells begun emptied id v words slots room final rest zero_is all same_run same_slots =
    let s : State (TurnSlot D L Q) (View D L) = final.0 in let r : IsBoard tells begun s = final.1.0 in let there : get_elem? s.views id ≡ some v = final.1.1 in
    record {
      past = r.past;
      reserved = under_way s.views;
      are = rw (same_run, same_slots) (closed_slots tells begun s r id v there rest zero_is all slots final.3 final.4);
      closes = λ board first desk begun_is knows made.
          subst (λ (z : Begun D L × View D L). IsClosed record { id = board.id; begun = z.0 } record { board = first.board; knows = z.1 } desk)
          (λ i. (sym begun_is i, sym knows i))
          (closed_desk tells record { id = board.id; begun = begun } record { board = first.board; knows = v } desk s r id there rest zero_is all
          (subst (λ (x : Begun D L). IsPutTogether x r.past (under_way s.views) desk) same_run made));
    }

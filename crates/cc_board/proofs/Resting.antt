-- A step that changes views only of passes that hold no turn leaves what the rule says of turns.
use Rattle.std.proofs.Common.{◌≡◌, ◌≢◌, ℕ, suc, ◌+◌, ◌<◌, ◌⊎◌, true, List, length, get_or, set, refl, sym, ◌∙◌, subst, inr, ⊎_elim, arith, length-set, get_or-set_same, get_or-set_other}
use mathlib.Core.Option.{some}
use mathlib.Core.Logic.{dite}
use native.Mathlib.Decide.{ℕ_discrete}
use lib.ListN.{get_elem?}
use Rattle.cc_entry.specs.declared.entry.Entry.{Entry}
use Rattle.cc_model.specs.Turns.{Turn, Device, Book, Log, Journal}
use Rattle.cc_turns.specs.Standing.{holds, nothing, TurnsHeld}
use Rattle.cc_turns.specs.Desk.{Begun, Tells}
use Rattle.cc_turns.specs.Slots.{HasTurn, slot_of, Fits}
use Rattle.cc_board.specs.Plays.{TurnSlot}
use Rattle.atomic_table.specs.Table.{State}
use Rattle.cc_board.specs.declared.rule.View.{View}
use Rattle.cc_board.specs.View.{turns_held}
use Rattle.cc_board.specs.Rule.{IsBoard, IsView, IsTaken, IsHeld, IsAtHome, PassesAreNumbered, under_way, turn_word}

-- nothing is held where no turn is
pub none_held : (held : TurnsHeld) (turn : Turn) → held ≡ nothing → holds held turn ≡ true → ⊥
none_held held turn is h = none turn (subst (λ (x : TurnsHeld). holds x turn ≡ true) is h)
  where
    none : (turn : Turn) → holds nothing turn ≡ true → ⊥
    none (Device stream) h = cc
    none (Book stream) h = cc
    none (Log handle) h = cc
    none Journal h = cc

-- Of two lists of views, those that differ hold no turn, and as many entries are reserved.
pub record SameTurns {D L : Type 0} (views ws : List (View D L)) : Type 0 where
  pub reserved : under_way ws ≡ under_way views
  pub came : (id : ℕ) (u : View D L) → get_elem? ws id ≡ some u → (turns_held u ≡ nothing) ⊎ (get_elem? views id ≡ some u)
  pub stayed : (id : ℕ) (u : View D L) → get_elem? views id ≡ some u → (turns_held u ≡ nothing) ⊎ (get_elem? ws id ≡ some u)

pub same_turns : {D L : Type 0} (views : List (View D L)) → SameTurns views views
same_turns views = record { reserved = refl; came = λ id u there. inr there; stayed = λ id u there. inr there }

-- two rows of words, of which the same turns are free; the first word, which counts passes, may be any
pub record SameWords (words others : List ℕ) : Type 0 where
  pub counted : length others ≡ length words
  pub was_free : (k : ℕ) → get_or others (suc k) 0 ≡ 0 → get_or words (suc k) 0 ≡ 0
  pub is_free : (k : ℕ) → get_or words (suc k) 0 ≡ 0 → get_or others (suc k) 0 ≡ 0

pub same_words : (words : List ℕ) → SameWords words words
same_words words = record { counted = refl; was_free = λ k free. free; is_free = λ k free. free }

pub first_word : (words : List ℕ) (n : ℕ) → SameWords words (set words 0 n)
first_word words n = record { counted = length-set words 0 n; was_free = λ k free. sym (same k) ∙ free; is_free = λ k free. same k ∙ free }
  where
    same : (k : ℕ) → get_or (set words 0 n) (suc k) 0 ≡ get_or words (suc k) 0
    same k = get_or-set_other words 0 (suc k) n 0 (λ e. omega arith)

-- the word of a turn that is taken may become any but 0
pub taken_word : (words : List ℕ) (i n : ℕ) → suc i < length words → get_or words (suc i) 0 ≢ 0 → n ≢ 0 → SameWords words (set words (suc i) n)
taken_word words i n within taken not_zero = record {
  counted = length-set words (suc i) n;
  was_free = λ k free. dite (ℕ_discrete k i)
      (λ here. absurd (not_zero (sym (get_or-set_same words (suc i) n 0 within) ∙ subst (λ (j : ℕ). get_or (set words (suc i) n) (suc j) 0 ≡ 0) here free)))
      (λ apart. sym (other k apart) ∙ free);
  is_free = λ k free. dite (ℕ_discrete k i)
      (λ here. absurd (taken (subst (λ (j : ℕ). get_or words (suc j) 0 ≡ 0) here free)))
      (λ apart. other k apart ∙ free);
}
  where
    other : (k : ℕ) → k ≢ i → get_or (set words (suc i) n) (suc k) 0 ≡ get_or words (suc k) 0
    other k apart = get_or-set_other words (suc i) (suc k) n 0 (λ e. apart (omega arith))

module _ {D L Q : Type 0} (tells : Tells D L Q) (begun : Begun D L) where
  abbrev Table : Type 0
  Table = State (TurnSlot D L Q) (View D L)

  -- what a view says of the words, where no turn's word has changed
  pub taken_still : {words others : List ℕ} → SameWords words others → (turn : Turn) → IsTaken begun words turn → IsTaken begun others turn
  taken_still same turn t = record { known = t.known; word = λ free. t.word (same.was_free (slot_of begun turn) free) }

  pub view_still : {past : List Entry} {words others : List ℕ} (v : View D L) → SameWords words others → IsView tells begun past words v → IsView tells begun past others v
  view_still v same i = record { of_run = i.of_run; grows = i.grows; spent = i.spent; none = i.none; one = i.one; taken = λ turn h. taken_still same turn (i.taken turn h) }

  module _ (s : Table) (r : IsBoard tells begun s) (words : List ℕ) (views : List (View D L)) (same_word : SameWords s.words words) (same : SameTurns s.views views) where
    home_still : (turn : Turn) → HasTurn begun turn → get_or words (turn_word begun turn) 0 ≡ 0 → IsAtHome tells begun r.past (under_way views) s.homes turn
    home_still turn has free = let h = r.home turn has (same_word.was_free (slot_of begun turn) free) in
        record { place = h.place; there = h.there; fits = subst (λ (n : ℕ). Fits tells begun r.past n turn h.place) (sym same.reserved) h.fits }

    out_still : (turn : Turn) → HasTurn begun turn → get_or words (turn_word begun turn) 0 ≢ 0 → IsHeld views turn
    out_still turn has taken = let h = r.out turn has (λ free. taken (same_word.is_free (slot_of begun turn) free)) in
        ⊎_elim (λ (none : turns_held h.view ≡ nothing). absurd (none_held (turns_held h.view) turn none h.held))
        (λ there. record { id = h.id; view = h.view; there = there; held = h.held }) (same.stayed h.id h.view h.there)

    apart_still : (a b : ℕ) (u v : View D L) (turn : Turn) → get_elem? views a ≡ some u → get_elem? views b ≡ some v →
        holds (turns_held u) turn ≡ true → holds (turns_held v) turn ≡ true → a ≡ b
    apart_still a b u v turn at bt hu hv = ⊎_elim (λ (none : turns_held u ≡ nothing). absurd (none_held (turns_held u) turn none hu))
        (λ was. ⊎_elim (λ (none : turns_held v ≡ nothing). absurd (none_held (turns_held v) turn none hv)) (λ is. r.apart a b u v turn was is hu hv) (same.came b v bt)) (same.came a u at)

    reserved_still : (id : ℕ) (v : View D L) → get_elem? views id ≡ some v → v.journal ≡ true → under_way views ≡ v.in_flight + v.others
    reserved_still id v there has = ⊎_elim (λ (none : turns_held v ≡ nothing). absurd (none_held (turns_held v) Journal none has))
        (λ was. same.reserved ∙ r.reserved id v was has) (same.came id v there)

    -- the rule, where the views are those of the run, and the numbers are right
    pub board_still : ((id : ℕ) (v : View D L) → get_elem? views id ≡ some v → IsView tells begun r.past words v)
        → (first : View D L) → PassesAreNumbered r.past words views first → IsBoard tells begun record { words = words; homes = s.homes; views = views }
    board_still are first numbers = record {
      past = r.past;
      good = r.good;
      within = r.within;
      few = r.few;
      sized = (same_word.counted ∙ r.sized.0, r.sized.1);
      home = home_still;
      out = out_still;
      views = are;
      apart = apart_still;
      reserved = reserved_still;
      first = first;
      numbers = numbers;
    }

-- Counting passes, drawing a number, splitting a pass and joining it keep the rule.
use Rattle.std.proofs.Common.{◌≡◌, ◌≢◌, ℕ, zero, suc, ◌+◌, ◌-◌, ◌<◌, ◌≤◌, ◌⊎◌, true, false, List, [], ◌∷◌, ◌++◌, length, set, refl, sym, ap, ◌∙◌, subst, inl, inr, ⊎_elim, arith, get_or-set_same, if◌then◌else◌}
use Rattle.std.proofs.lemmas.List.{set-get_or}
use mathlib.Core.Option.{none, some, some-injective, some-ne-none}
use mathlib.Core.Logic.{dite}
use native.Mathlib.Decide.{ℕ_discrete}
use lib.ListN.{get_elem?}
use Rattle.std.specs.List.{Contains}
use Rattle.atomic_table.specs.Table.{State, Me, step, keeps, Allows, Splits, Joins}
use Rattle.atomic_table.proofs.Lists.{at_set, set_here, set_else, set_again, at_longer}
use Rattle.cc_entry.specs.declared.entry.Entry.{Entry}
use Rattle.cc_effects.specs.Moments.{IsIdle}
use Rattle.cc_turns.specs.Standing.{nothing}
use Rattle.cc_turns.specs.Desk.{Begun, Tells}
use Rattle.cc_board.specs.declared.rule.View.{View}
use Rattle.cc_board.specs.View.{turns_held, with_number, split_left, split_right, joined_view, spent}
use Rattle.cc_board.specs.Plays.{TurnSlot, CountsPasses, LearnsRun, DrawsNumber}
use Rattle.cc_board.specs.Board.{PassIsAtRest}
use Rattle.cc_board.specs.Rule.{IsBoard, IsView, PassesAreNumbered, living, given_numbers}
use Rattle.cc_board.proofs.Views.{total-at, total-set, total-snoc}
use Rattle.cc_board.proofs.UnderWay.{counts, lives}
use Rattle.cc_board.proofs.Resting.{SameTurns, same_words, first_word, view_still, board_still, none_held}

-- what is in a longer list is its first, or in the rest
pub contains_rest : {A : Type 0} (x y : A) (xs : List A) → Contains (x ∷ xs) y → (x ≡ y) ⊎ Contains xs y
contains_rest x y xs (zero, h, e) = inl e
contains_rest x y xs (suc k, h, e) = inr (k, omega arith, e)

-- nothing is in the empty list
pub contains_none : {A : Type 0} (y : A) → Contains [] y → ⊥
contains_none y (k, h, e) = omega arith

-- a list with one more has what it had, and at its end the new one
pub at_end : {A : Type 0} (l : List A) (a b : A) (j : ℕ) → get_elem? (l ++ a ∷ []) j ≡ some b → (get_elem? l j ≡ some b) ⊎ ((j ≡ length l) × (a ≡ b))
at_end [] a b zero e = inr (refl, some-injective a b e)
at_end [] a b (suc j) e = absurd (some-ne-none b (sym e))
at_end (x ∷ xs) a b zero e = inl e
at_end (x ∷ xs) a b (suc j) e = ⊎_elim (λ h. inl h) (λ h. inr (ap suc h.0, h.1)) (at_end xs a b j e)

-- what is there is within
pub at_within : {A : Type 0} (l : List A) (i : ℕ) (a : A) → get_elem? l i ≡ some a → i < length l
at_within [] i a e = absurd (some-ne-none a (sym e))
at_within (x ∷ xs) zero a e = omega arith
at_within (x ∷ xs) (suc i) a e = let r = at_within xs i a e in omega arith

-- how many numbers were given away, where none is drawn and where one is
pub given_at_rest : {D L : Type 0} (v : View D L) → v.drawn ≡ false → given_numbers v ≡ v.made
given_at_rest v is = rw is refl

given_drawn : {D L : Type 0} (v : View D L) → v.drawn ≡ true → given_numbers v ≡ v.made - 1
given_drawn v is = rw is refl

-- what each pass knows of the whole board: how many passes there are at most, and what was under way at first
abbrev limits : {D L : Type 0} → View D L → ℕ × ℕ
limits v = (v.passes, v.before)

module _ {D L : Type 0} where
  -- the pass whose number is 0 is the first
  pub first_is : (past : List Entry) (words : List ℕ) (views : List (View D L)) (first : View D L) → PassesAreNumbered past words views first
      → (id : ℕ) (v : View D L) → get_elem? views id ≡ some v → v.live ≡ true → v.number ≡ 0 → (id ≡ 0) × (first ≡ v)
  first_is past words views first n id v there live zero_is = let at : id ≡ 0 = n.apart id 0 v first there n.there live n.is_live (zero_is ∙ sym n.is_first) in
      (at, some-injective first v (sym n.there ∙ subst (λ (k : ℕ). get_elem? views k ≡ some v) at there))

  -- each pass that was not joined has a pass of its number among the others, at the same place, which knows the same of
  -- the whole board
  pub record SameNumbers (views ws : List (View D L)) : Type 0 where
    pub was : (id : ℕ) (u : View D L) → get_elem? ws id ≡ some u → u.live ≡ true
        → (w : View D L) × (get_elem? views id ≡ some w) × (w.live ≡ true) × (u.number ≡ w.number) × (limits u ≡ limits w)

  -- the number of a pass that was not joined is not that of another
  pub apart_still : (past : List Entry) (words : List ℕ) (views ws : List (View D L)) (first : View D L) → PassesAreNumbered past words views first → SameNumbers views ws
      → (a b : ℕ) (u v : View D L) → get_elem? ws a ≡ some u → get_elem? ws b ≡ some v → u.live ≡ true → v.live ≡ true → u.number ≡ v.number → a ≡ b
  apart_still past words views ws first n same a b u v at bt lu lv e = let x = same.was a u at lu in let y = same.was b v bt lv in
      n.apart a b x.0 y.0 x.1 y.1 x.2 y.2 (sym x.3 ∙ e ∙ y.3)

  -- and is below those that were given away
  pub below_still : (past : List Entry) (words : List ℕ) (views ws : List (View D L)) (first : View D L) → PassesAreNumbered past words views first → SameNumbers views ws
      → (id : ℕ) (v : View D L) → get_elem? ws id ≡ some v → v.live ≡ true → v.number < given_numbers first
  below_still past words views ws first n same id v at lv = let x = same.was id v at lv in let is = x.3 in let r = n.below id x.0 x.1 x.2 in rw is r

  -- and is that of no pass that was joined
  pub ended_still : (past : List Entry) (words : List ℕ) (views ws : List (View D L)) (first : View D L) → PassesAreNumbered past words views first → SameNumbers views ws
      → (number : ℕ) (seen : List Entry) (id : ℕ) (v : View D L) → Contains first.ended (number, seen) → get_elem? ws id ≡ some v → v.live ≡ true → v.number ≢ number
  ended_still past words views ws first n same number seen id v has at lv e = let x = same.was id v at lv in n.ended_apart number seen id x.0 has x.1 x.2 (sym x.3 ∙ e)

  -- and knows what all do of the whole board
  alike_still : (past : List Entry) (words : List ℕ) (views ws : List (View D L)) (first : View D L) → PassesAreNumbered past words views first → SameNumbers views ws
      → (id : ℕ) (v : View D L) → get_elem? ws id ≡ some v → v.live ≡ true → (v.passes ≡ first.passes) × (v.before ≡ first.before)
  alike_still past words views ws first n same id v at lv = let x = same.was id v at lv in let is = n.alike id x.0 x.1 x.2 in
      (ap (λ (l : ℕ × ℕ). l.0) x.4 ∙ is.0, ap (λ (l : ℕ × ℕ). l.1) x.4 ∙ is.1)

  -- a view was changed, but not its number
  one_changed : (views : List (View D L)) (i : ℕ) (v w : View D L) → get_elem? views i ≡ some v → v.live ≡ true → w.number ≡ v.number → limits w ≡ limits v → SameNumbers views (set views i w)
  one_changed views i v w there is_live number knows = record {
    was = λ id u at lu. ⊎_elim
        (λ h. (v, subst (λ (k : ℕ). get_elem? views k ≡ some v) (sym h.0) there, is_live, ap (λ (x : View D L). x.number) (sym h.1) ∙ number, ap (λ (x : View D L). limits x) (sym h.1) ∙ knows))
        (λ h. (u, h.1, lu, refl, refl)) (at_set views i id w u at);
  }

  -- the first pass has drawn a number
  pub numbers_drawn : (past : List Entry) (words : List ℕ) (views : List (View D L)) (v : View D L) (new : ℕ) → PassesAreNumbered past words views v → v.drawn ≡ false → v.made ≤ v.passes
      → 0 < length words → new ≡ v.made + 1 → PassesAreNumbered past (set words 0 new) (set views 0 (with_number v)) (with_number v)
  numbers_drawn past words views v new n none_drawn few long is =
      let same : SameNumbers views (set views 0 (with_number v)) = one_changed views 0 v (with_number v) n.there n.is_live refl refl in
      let given : given_numbers v ≡ v.made = given_at_rest v none_drawn in
      let given' : given_numbers (with_number v) ≡ v.made = omega arith in
      record {
        there = set_here views 0 (with_number v) (at_within views 0 v n.there);
        is_live = n.is_live;
        is_first = n.is_first;
        word = get_or-set_same words 0 new 0 long ∙ is;
        few = omega arith;
        alike = alike_still past words views (set views 0 (with_number v)) v n same;
        kept = n.kept;
        apart = apart_still past words views (set views 0 (with_number v)) v n same;
        below = λ id u at lu. rw (given' ∙ sym given) (below_still past words views (set views 0 (with_number v)) v n same id u at lu);
        ended = n.ended;
        ended_below = λ number seen has. rw (given' ∙ sym given) (n.ended_below number seen has);
        ended_apart = ended_still past words views (set views 0 (with_number v)) v n same;
        unmade = λ number more. n.unmade number (rw (given ∙ sym given') more);
        counted = let r = total-set (λ (x : View D L). if x.live then 1 else 0) views 0 v (with_number v) n.there in let c = n.counted in omega arith;
      }

  module _ (past : List Entry) (words : List ℕ) (views : List (View D L)) (v : View D L) (n : PassesAreNumbered past words views v) (drawn : v.drawn ≡ true) where
    abbrev lefts : List (View D L)
    lefts = set views 0 (split_left v)

    abbrev parts : List (View D L)
    parts = lefts ++ split_right v ∷ []

    left_same : SameNumbers views lefts
    left_same = one_changed views 0 v (split_left v) n.there n.is_live refl refl

    given_then : given_numbers v ≡ v.made - 1
    given_then = given_drawn v drawn

    two_made : 2 ≤ v.made
    two_made = let a : counts v ≡ 1 = lives v n.is_live in let b : counts v ≤ living views = total-at counts views 0 v n.there in let c = n.counted in let d = given_then in omega arith

    left_below : (id : ℕ) (u : View D L) → get_elem? lefts id ≡ some u → u.live ≡ true → u.number < v.made - 1
    left_below id u at lu = let r = below_still past words views lefts v n left_same id u at lu in let e = given_then in omega arith

    split_apart : (a b : ℕ) (u w : View D L) → get_elem? parts a ≡ some u → get_elem? parts b ≡ some w → u.live ≡ true → w.live ≡ true → u.number ≡ w.number → a ≡ b
    split_apart a b u w at bt lu lw e = ⊎_elim
        (λ (h : get_elem? lefts a ≡ some u). ⊎_elim (λ (k : get_elem? lefts b ≡ some w). apart_still past words views lefts v n left_same a b u w h k lu lw e)
        (λ (k : (b ≡ length lefts) × (split_right v ≡ w)). let r = left_below a u h lu in let is : v.made - 1 ≡ w.number = ap (λ (x : View D L). x.number) k.1 in absurd (omega arith)) (at_end lefts (split_right v) w b bt))
        (λ (h : (a ≡ length lefts) × (split_right v ≡ u)). ⊎_elim
        (λ (k : get_elem? lefts b ≡ some w). let r = left_below b w k lw in let is : v.made - 1 ≡ u.number = ap (λ (x : View D L). x.number) h.1 in absurd (omega arith))
        (λ (k : (b ≡ length lefts) × (split_right v ≡ w)). h.0 ∙ sym k.0) (at_end lefts (split_right v) w b bt)) (at_end lefts (split_right v) u a at)

    split_below : (id : ℕ) (u : View D L) → get_elem? parts id ≡ some u → u.live ≡ true → u.number < v.made
    split_below id u at lu = ⊎_elim (λ (h : get_elem? lefts id ≡ some u). let r = left_below id u h lu in omega arith)
        (λ (h : (id ≡ length lefts) × (split_right v ≡ u)). let is : v.made - 1 ≡ u.number = ap (λ (x : View D L). x.number) h.1 in let m = two_made in omega arith) (at_end lefts (split_right v) u id at)

    split_ended : (number : ℕ) (seen : List Entry) (id : ℕ) (u : View D L) → Contains v.ended (number, seen) → get_elem? parts id ≡ some u → u.live ≡ true → u.number ≢ number
    split_ended number seen id u has at lu e = ⊎_elim (λ (h : get_elem? lefts id ≡ some u). ended_still past words views lefts v n left_same number seen id u has h lu e)
        (λ (h : (id ≡ length lefts) × (split_right v ≡ u)). let is : v.made - 1 ≡ u.number = ap (λ (x : View D L). x.number) h.1 in let r = n.ended_below number seen has in let d = given_then in omega arith)
        (at_end lefts (split_right v) u id at)

    split_alike : (id : ℕ) (u : View D L) → get_elem? parts id ≡ some u → u.live ≡ true → (u.passes ≡ v.passes) × (u.before ≡ v.before)
    split_alike id u at lu = ⊎_elim (λ (h : get_elem? lefts id ≡ some u). alike_still past words views lefts v n left_same id u h lu)
        (λ (h : (id ≡ length lefts) × (split_right v ≡ u)). (ap (λ (x : View D L). x.passes) (sym h.1), ap (λ (x : View D L). x.before) (sym h.1))) (at_end lefts (split_right v) u id at)

    split_counted : living parts + length v.ended ≡ v.made
    split_counted = let a = total-snoc counts lefts (split_right v) in let b = total-set counts views 0 v (split_left v) n.there in let c = n.counted in let d = given_then in
        let one : counts v ≡ 1 = lives v n.is_live in let m = two_made in omega arith

    -- the pass of the number that was drawn is made
    pub numbers_split : PassesAreNumbered past words parts (split_left v)
    numbers_split = record {
      there = at_longer lefts (split_right v ∷ []) 0 (split_left v) (set_here views 0 (split_left v) (at_within views 0 v n.there));
      is_live = n.is_live;
      is_first = n.is_first;
      word = n.word;
      few = n.few;
      alike = split_alike;
      kept = n.kept;
      apart = split_apart;
      below = split_below;
      ended = n.ended;
      ended_below = λ number seen has. let r = n.ended_below number seen has in let d = given_then in omega arith;
      ended_apart = split_ended;
      unmade = λ number more. n.unmade number (let d = given_then in let more' : v.made ≤ number = more in omega arith);
      counted = split_counted;
    }

  module _ (past : List Entry) (words : List ℕ) (views : List (View D L)) (v w : View D L) (other : ℕ) (n : PassesAreNumbered past words views v) (idle : IsIdle w.number w.seen past)
      (one : w.in_flight ≤ 1) (elsewhere : other ≢ 0) (there : get_elem? views other ≡ some w) (is_live : w.live ≡ true) where
    abbrev both : List (View D L)
    both = set views 0 (joined_view v w)

    abbrev after : List (View D L)
    after = set both other spent

    -- who was not joined is another than the one that is
    still_else : (id : ℕ) (u : View D L) → get_elem? after id ≡ some u → u.live ≡ true → (id ≢ other) × (get_elem? both id ≡ some u)
    still_else id u at lu = ⊎_elim (λ (h : (id ≡ other) × (spent ≡ u)). let dead : false ≡ u.live = ap (λ (x : View D L). x.live) h.1 in absurd (cc)) (λ h. h) (at_set both other id spent u at)

    join_same : SameNumbers views after
    join_same = record { was = λ id u at lu. (one_changed views 0 v (joined_view v w) n.there n.is_live refl refl).was id u (still_else id u at lu).1 lu }

    join_ended : (number : ℕ) (seen : List Entry) → Contains ((w.number, w.seen) ∷ v.ended) (number, seen) → IsIdle number seen past
    join_ended number seen has = ⊎_elim (λ (e : (w.number, w.seen) ≡ (number, seen)). subst (λ (x : ℕ × List Entry). IsIdle x.0 x.1 past) e idle) (λ h. n.ended number seen h) (contains_rest (w.number, w.seen) (number, seen) v.ended has)

    join_below : (number : ℕ) (seen : List Entry) → Contains ((w.number, w.seen) ∷ v.ended) (number, seen) → number < given_numbers v
    join_below number seen has = ⊎_elim (λ (e : (w.number, w.seen) ≡ (number, seen)). subst (λ (x : ℕ × List Entry). x.0 < given_numbers v) e (n.below other w there is_live))
        (λ h. n.ended_below number seen h) (contains_rest (w.number, w.seen) (number, seen) v.ended has)

    join_apart : (number : ℕ) (seen : List Entry) (id : ℕ) (u : View D L) → Contains ((w.number, w.seen) ∷ v.ended) (number, seen) → get_elem? after id ≡ some u → u.live ≡ true → u.number ≢ number
    join_apart number seen id u has at lu is = ⊎_elim
        (λ (e : (w.number, w.seen) ≡ (number, seen)). let x = join_same.was id u at lu in
        (still_else id u at lu).0 (n.apart id other x.0 w x.1 there x.2 is_live (sym x.3 ∙ is ∙ sym (ap (λ (y : ℕ × List Entry). y.0) e))))
        (λ h. ended_still past words views after v n join_same number seen id u h at lu is) (contains_rest (w.number, w.seen) (number, seen) v.ended has)

    join_counted : living after + suc (length v.ended) ≡ given_numbers v
    join_counted = let a = total-set counts both other w spent (set_else views 0 other (joined_view v w) elsewhere ∙ there) in let b = total-set counts views 0 v (joined_view v w) n.there in let c = n.counted in
        let one : counts w ≡ 1 = lives w is_live in omega arith

    -- the first pass has taken another back
    pub numbers_joined : PassesAreNumbered past words after (joined_view v w)
    numbers_joined = record {
      there = set_else both other 0 spent (λ e. elsewhere (sym e)) ∙ set_here views 0 (joined_view v w) (at_within views 0 v n.there);
      is_live = n.is_live;
      is_first = n.is_first;
      word = n.word;
      few = n.few;
      alike = alike_still past words views after v n join_same;
      kept = let kept = n.kept in omega arith;
      apart = apart_still past words views after v n join_same;
      below = below_still past words views after v n join_same;
      ended = join_ended;
      ended_below = join_below;
      ended_apart = join_apart;
      unmade = n.unmade;
      counted = join_counted;
    }

  -- The views of the first pass, which holds nothing, and of another that holds nothing have changed: no turn has.
  rest_changed : (views : List (View D L)) (i : ℕ) (v w : View D L) → get_elem? views i ≡ some v → turns_held v ≡ nothing → turns_held w ≡ nothing
      → (id : ℕ) (u : View D L) → get_elem? views id ≡ some u → (turns_held u ≡ nothing) ⊎ (get_elem? (set views i w) id ≡ some u)
  rest_changed views i v w there none_v none_w id u at = dite (ℕ_discrete id i)
      (λ (e : id ≡ i). inl (ap (λ (x : View D L). turns_held x) (some-injective u v (sym at ∙ subst (λ (k : ℕ). get_elem? views k ≡ some v) (sym e) there)) ∙ none_v))
      (λ (ne : id ≢ i). inr (set_else views i id w ne ∙ at))

  rest_came : (views : List (View D L)) (i : ℕ) (w : View D L) → turns_held w ≡ nothing
      → (id : ℕ) (u : View D L) → get_elem? (set views i w) id ≡ some u → (turns_held u ≡ nothing) ⊎ (get_elem? views id ≡ some u)
  rest_came views i w none_w id u at = ⊎_elim (λ (h : (id ≡ i) × (w ≡ u)). inl (ap (λ (x : View D L). turns_held x) (sym h.1) ∙ none_w)) (λ h. inr h.1) (at_set views i id w u at)

  abbrev reserves : View D L → ℕ
  reserves v = v.in_flight

  -- one view changed
  pub same_one : (views : List (View D L)) (i : ℕ) (v w : View D L) → get_elem? views i ≡ some v → turns_held v ≡ nothing → turns_held w ≡ nothing → w.in_flight ≡ v.in_flight
      → SameTurns views (set views i w)
  same_one views i v w there none_v none_w same = record {
    reserved = let a = total-set reserves views i v w there in omega arith;
    came = rest_came views i w none_w;
    stayed = rest_changed views i v w there none_v none_w;
  }

  -- one view changed, and one was added
  pub same_split : (views : List (View D L)) (i : ℕ) (v w new : View D L) → get_elem? views i ≡ some v → turns_held v ≡ nothing → turns_held w ≡ nothing → turns_held new ≡ nothing
      → w.in_flight ≡ v.in_flight → new.in_flight ≡ 0 → SameTurns views (set views i w ++ new ∷ [])
  same_split views i v w new there none_v none_w none_new same none_reserved = record {
    reserved = let a = total-set reserves views i v w there in let b = total-snoc reserves (set views i w) new in omega arith;
    came = λ id u at. ⊎_elim (λ (h : get_elem? (set views i w) id ≡ some u). rest_came views i w none_w id u h)
        (λ (h : (id ≡ length (set views i w)) × (new ≡ u)). inl (ap (λ (x : View D L). turns_held x) (sym h.1) ∙ none_new)) (at_end (set views i w) new u id at);
    stayed = λ id u at. ⊎_elim (λ (h : turns_held u ≡ nothing). inl h) (λ (h : get_elem? (set views i w) id ≡ some u). inr (at_longer (set views i w) (new ∷ []) id u h))
        (rest_changed views i v w there none_v none_w id u at);
  }

  -- two views changed
  pub same_two : (views : List (View D L)) (i j : ℕ) (v w v' w' : View D L) → j ≢ i → get_elem? views i ≡ some v → get_elem? views j ≡ some w → turns_held v ≡ nothing → turns_held w ≡ nothing
      → turns_held v' ≡ nothing → turns_held w' ≡ nothing → v'.in_flight + w'.in_flight ≡ v.in_flight + w.in_flight → SameTurns views (set (set views i v') j w')
  same_two views i j v w v' w' ne at bt none_v none_w none_v' none_w' same = let bt' : get_elem? (set views i v') j ≡ some w = set_else views i j v' ne ∙ bt in record {
    reserved = let a = total-set reserves views i v v' at in let b = total-set reserves (set views i v') j w w' bt' in omega arith;
    came = λ id u h. ⊎_elim (λ (k : turns_held u ≡ nothing). inl k) (λ (k : get_elem? (set views i v') id ≡ some u). rest_came views i v' none_v' id u k) (rest_came (set views i v') j w' none_w' id u h);
    stayed = λ id u h. ⊎_elim (λ (k : turns_held u ≡ nothing). inl k) (λ (k : get_elem? (set views i v') id ≡ some u). rest_changed (set views i v') j w w' bt' none_w none_w' id u k)
        (rest_changed views i v v' at none_v none_v' id u h);
  }

module _ {D L Q : Type 0} (tells : Tells D L Q) (begun : Begun D L) where
  abbrev St : Type 0
  St = State (TurnSlot D L Q) (View D L)

  abbrev V : Type 0
  V = View D L

  -- each view is right where it was, but one
  views_set : (past : List Entry) (words : List ℕ) (views : List V) (i : ℕ) (w : V) → ((id : ℕ) (v : V) → get_elem? views id ≡ some v → IsView tells begun past words v)
      → IsView tells begun past words w → (id : ℕ) (v : V) → get_elem? (set views i w) id ≡ some v → IsView tells begun past words v
  views_set past words views i w are is id v at = ⊎_elim (λ (h : (id ≡ i) × (w ≡ v)). subst (λ (x : V). IsView tells begun past words x) h.1 is) (λ h. are id v h.1) (at_set views i id w v at)

  -- the rule's first pass is the one that the step is of
  pub numbers_of : (s : St) (r : IsBoard tells begun s) (id : ℕ) (v : V) → get_elem? s.views id ≡ some v → v.live ≡ true → v.number ≡ 0
      → (id ≡ 0) × PassesAreNumbered r.past s.words s.views v
  numbers_of s r id v there is_live zero_is = let f = first_is r.past s.words s.views r.first r.numbers id v there is_live zero_is in
      (f.0, subst (λ (x : V). PassesAreNumbered r.past s.words s.views x) f.1 r.numbers)

  -- a pass that was not joined is of the board's run, by the rule
  pub learns_run : (slots id : ℕ) (me : Me (TurnSlot D L Q) V) (run : Begun D L) → begun ≡ run → me.0.live ≡ true
      → Allows (IsBoard tells begun) slots id me 0 (λ n. n) (LearnsRun run (step slots 0 0 0 none) me)
  learns_run slots id me run is live s r counted there small = (
    me.0,
    keeps,
    tt,
    subst (λ (z : List ℕ × List V). IsBoard tells begun record { words = z.0; homes = s.homes; views = z.1 })
        (λ i. (sym (set-get_or s.words 0 0) i, sym (set_again s.views id me.0 there) i)) r,
    (refl, (r.views id me.0 there).of_run live ∙ is),
  )

  -- counting passes changes nothing
  pub counts_passes : (slots id : ℕ) (me : Me (TurnSlot D L Q) V) → PassIsAtRest me.0 → me.0.number ≡ 0
      → Allows (IsBoard tells begun) slots id me 0 (λ n. n) (CountsPasses (step slots 0 0 0 none) me)
  counts_passes slots id me rest zero_is s r counted there small = let n = (numbers_of s r id me.0 there rest.is_live zero_is).1 in (
    me.0,
    keeps,
    tt,
    subst (λ (z : List ℕ × List V). IsBoard tells begun record { words = z.0; homes = s.homes; views = z.1 })
        (λ i. (sym (set-get_or s.words 0 0) i, sym (set_again s.views id me.0 there) i)) r,
    record {
      count = n.word;
      same = refl;
      few = n.few;
      fewer_ended = let a : given_numbers me.0 ≡ me.0.made = given_at_rest me.0 rest.none_drawn in let b = n.counted in
          let one : (if me.0.live then 1 else 0) ≡ 1 = lives me.0 rest.is_live in let d = total-at (λ (x : V). if x.live then 1 else 0) s.views 0 me.0 n.there in omega arith;
      others_ended = λ number seen has e. n.ended_apart number seen 0 me.0 has n.there rest.is_live (zero_is ∙ sym e);
    },
  )

  -- drawing a number keeps the rule
  pub draws_number : (slots id new : ℕ) (me : Me (TurnSlot D L Q) V) → PassIsAtRest me.0 → me.0.number ≡ 0 → me.0.made ≤ me.0.passes → new ≡ me.0.made + 1
      → Allows (IsBoard tells begun) slots id me 0 (λ _. new) (λ _. DrawsNumber (step slots 0 new 0 none) me new)
  draws_number slots id new me rest zero_is few is s r counted there small = let m = numbers_of s r id me.0 there rest.is_live zero_is in let v : V = me.0 in (
    with_number v,
    keeps,
    tt,
    subst (λ (k : ℕ). IsBoard tells begun record { words = set s.words 0 new; homes = s.homes; views = set s.views k (with_number v) }) (sym m.0)
        (board_still tells begun s r (set s.words 0 new) (set s.views 0 (with_number v)) (first_word s.words new)
        (same_one s.views 0 v (with_number v) m.1.there rest.held_is rest.held_is refl)
        (views_set r.past (set s.words 0 new) s.views 0 (with_number v) (λ j u at. view_still tells begun u (first_word s.words new) (r.views j u at))
        (let i = view_still tells begun v (first_word s.words new) (r.views 0 v m.1.there) in record { of_run = i.of_run; grows = i.grows; spent = i.spent; none = i.none; one = i.one; taken = i.taken }))
        (with_number v) (numbers_drawn r.past s.words s.views v new m.1 rest.none_drawn few (let z = r.sized.0 in omega arith) is)),
    refl,
  )

  -- what no pass knows is right
  pub spent_view : (past : List Entry) (words : List ℕ) → IsView tells begun past words spent
  spent_view past words = record { of_run = λ h. absurd (cc); grows = λ h. absurd (cc); spent = λ h. refl; none = λ h. refl; one = λ h. omega arith; taken = λ turn h. absurd (none_held nothing turn refl h) }

  -- what pass 0 has seen, a pass of a number that was not given away may know
  right_view : (past : List Entry) (words : List ℕ) (v : V) → IsView tells begun past words v → v.live ≡ true → IsIdle (v.made - 1) v.seen past → IsView tells begun past words (split_right v)
  right_view past words v i is_live idle = record {
    of_run = i.of_run;
    grows = λ h. record { later = idle.during; grew = idle.grew; quiet = λ t k. absurd (none_held nothing t refl k); others = idle.others };
    spent = λ h. refl;
    none = λ h. refl;
    one = λ h. omega arith;
    taken = λ turn h. absurd (none_held nothing turn refl h);
  }

  -- splitting the pass whose number was drawn keeps the rule
  pub splits : (id : ℕ) (v : V) → v.live ≡ true → turns_held v ≡ nothing → v.drawn ≡ true → v.number ≡ 0
      → Splits (IsBoard tells begun) id v (split_left v) (split_right v)
  splits id v is_live no_turn drawn zero_is s r there = let m = numbers_of s r id v there is_live zero_is in let n = m.1 in let i = r.views 0 v n.there in let lefts : List V = set s.views 0 (split_left v) in
      subst (λ (k : ℕ). IsBoard tells begun record { words = s.words; homes = s.homes; views = set s.views k (split_left v) ++ split_right v ∷ [] }) (sym m.0)
      (board_still tells begun s r s.words (lefts ++ split_right v ∷ []) (same_words s.words)
      (same_split s.views 0 v (split_left v) (split_right v) n.there no_turn no_turn refl refl refl)
      (λ j u at. ⊎_elim
      (λ (h : get_elem? lefts j ≡ some u). views_set r.past s.words s.views 0 (split_left v) r.views record { of_run = i.of_run; grows = i.grows; spent = i.spent; none = i.none; one = i.one; taken = i.taken } j u h)
      (λ (h : (j ≡ length lefts) × (split_right v ≡ u)). subst (λ (x : V). IsView tells begun r.past s.words x) h.1
      (right_view r.past s.words v i is_live (n.unmade (v.made - 1) (let e : given_numbers v ≡ v.made - 1 = given_drawn v drawn in omega arith))))
      (at_end lefts (split_right v) u j at))
      (split_left v) (numbers_split r.past s.words s.views v n drawn))

  -- joining a pass keeps the rule
  pub joins : (id : ℕ) (v : V) (other : ℕ) (w : V) → PassIsAtRest v → v.number ≡ 0 → PassIsAtRest w
      → Joins (IsBoard tells begun) id v other w (joined_view v w) spent
  joins id v other w rest zero_is other_rest s r there elsewhere other_there = let m = numbers_of s r id v there rest.is_live zero_is in let n = m.1 in let i = r.views 0 v n.there in
      let apart : other ≢ 0 = λ e. elsewhere (e ∙ sym m.0) in
      let at : get_elem? s.views other ≡ some w = sym (set_else s.views id other (joined_view v w) elsewhere) ∙ other_there in
      let g = (r.views other w at).grows other_rest.is_live in let f = i.grows rest.is_live in
      let one = (r.views other w at).one (λ e. apart (numbers_of s r other w at other_rest.is_live e).0) in
      subst (λ (k : ℕ). IsBoard tells begun record { words = s.words; homes = s.homes; views = set (set s.views k (joined_view v w)) other spent }) (sym m.0)
      (board_still tells begun s r s.words (set (set s.views 0 (joined_view v w)) other spent) (same_words s.words)
      (same_two s.views 0 other v w (joined_view v w) spent apart n.there at rest.held_is other_rest.held_is rest.held_is refl (omega arith))
      (views_set r.past s.words (set s.views 0 (joined_view v w)) other spent
      (views_set r.past s.words s.views 0 (joined_view v w) r.views record {
        of_run = i.of_run;
        grows = λ h. record { later = f.later; grew = f.grew; quiet = f.quiet; others = f.others };
        spent = i.spent;
        none = λ h. absurd (cc (h, rest.is_live));
        one = λ other_than. absurd (other_than zero_is);
        taken = i.taken;
      })
      (spent_view r.past s.words))
      (joined_view v w) (numbers_joined r.past s.words s.views v w other n record { during = g.later; grew = g.grew; others = g.others } one apart at other_rest.is_live))

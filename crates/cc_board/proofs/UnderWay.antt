-- What all passes have under way: what was at first, and one entry for each pass, at most.
use Rattle.std.specs.Prelude.{◌≡◌, ◌≢◌, ℕ, ◌+◌, ◌≤◌, Bool, true, false, List, if◌then◌else◌}
use Rattle.std.proofs.Common.{refl, sym, ◌∙◌, arith}
use mathlib.Core.Option.{some}
use lib.ListN.{get_elem?}
use Rattle.cc_entry.specs.declared.entry.Entry.{Entry}
use Rattle.cc_turns.specs.Desk.{Begun, Tells}
use Rattle.cc_board.specs.declared.rule.View.{View}
use Rattle.cc_board.specs.Rule.{under_way, living, given_numbers, IsView, PassesAreNumbered}
use Rattle.cc_board.proofs.Views.{total-within}

-- a pass that was not joined counts once
abbrev pub counts : {D L : Type 0} → View D L → ℕ
counts v = if v.live then 1 else 0

pub lives : {D L : Type 0} (v : View D L) → v.live ≡ true → counts v ≡ 1
lives v is = rw is refl

-- no more numbers were given away than passes were made
given_most : {D L : Type 0} (v : View D L) (drawn : Bool) → v.drawn ≡ drawn → given_numbers v ≤ v.made
given_most v true is = rw is (omega arith)
given_most v false is = rw is (omega arith)

module _ {D L Q : Type 0} (tells : Tells D L Q) (begun : Begun D L) (past : List Entry) (words : List ℕ) (views : List (View D L)) (first : View D L)
    (n : PassesAreNumbered past words views first) (are : (id : ℕ) (v : View D L) → get_elem? views id ≡ some v → IsView tells begun past words v) where
  -- each other pass has one entry under way at most, and none once it was joined
  one_each : (id : ℕ) (v : View D L) → id ≢ 0 → get_elem? views id ≡ some v → (live : Bool) → v.live ≡ live → v.in_flight ≤ counts v
  one_each id v apart at true is =
      let one = (are id v at).one (λ same. apart (n.apart id 0 v first at n.there is n.is_live (same ∙ sym n.is_first))) in
      let once = lives v is in omega arith
  one_each id v apart at false is = let none = (are id v at).none is in omega arith

  -- so all have no more than the first, and one for each other that was not joined
  pub beside_first : under_way views + 1 ≤ living views + first.in_flight
  beside_first =
      let sum = total-within (λ (v : View D L). v.in_flight) (λ (v : View D L). if v.live then 1 else 0) views 0 first n.there (λ id v apart at. one_each id v apart at v.live refl) in
      let once = lives first n.is_live in omega arith

  pub under_way_most : under_way views ≤ first.before + first.passes
  under_way_most =
      let beside = beside_first in let counted = n.counted in let kept = n.kept in let few = n.few in
      let given = given_most first first.drawn refl in omega arith

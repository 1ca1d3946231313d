-- A board of the tests.
use Rattle.std.specs.Prelude.{◌≡◌, ℕ, [], length}
use Rattle.cc_board.specs.Board.{BoardState, FirstState, IsFirstOf, IsOfBoard, PassState}

-- A board of which so many passes can be split, and none was.
pub record IsNewBoard {D L : Type 0} (passes : ℕ) (board : BoardState D L) (first : FirstState D L) : Type 0 where
  pub is_of : IsFirstOf board first
  pub passes_are : first.knows.passes ≡ passes
  pub one_made : first.knows.made ≡ 1
  pub none_ended : first.knows.ended ≡ []

-- A pass of a board of two streams that has nothing under way.
pub record MayAct {D L : Type 0} (board : BoardState D L) (pass : PassState D L) : Type 0 where
  pub is_of : IsOfBoard board pass
  pub streams : length pass.knows.disks ≡ 2
  pub none : pass.knows.in_flight ≡ 0

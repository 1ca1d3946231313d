-- A board of this program, and its passes.
use Rattle.std.specs.Prelude.{◌≡◌, ◌<◌, ℕ, [], length}
use Rattle.cc_board.specs.Board.{BoardState, FirstState, IsFirstOf, IsOfBoard, PassState}

-- A board of four streams, of which four passes can be split, and none was.
pub record IsNewBoard {D L : Type 0} (board : BoardState D L) (first : FirstState D L) : Type 0 where
  pub is_of : IsFirstOf board first
  pub streams : length first.knows.disks ≡ 4
  pub passes : first.knows.passes ≡ 4
  pub made : first.knows.made ≡ 1
  pub ended : first.knows.ended ≡ []

-- A pass of a board that may call on a stream: the stream has a disk, and the pass has nothing under way.
pub record MayAct {D L : Type 0} (board : BoardState D L) (pass : PassState D L) (stream : ℕ) : Type 0 where
  pub is_of : IsOfBoard board pass
  pub known : stream < length pass.knows.disks
  pub none : pass.knows.in_flight ≡ 0

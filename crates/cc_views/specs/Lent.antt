-- What a change of lent frames leaves.
use Rattle.std.specs.Prelude.{ℕ, Option}
use Rattle.std.specs.Borrow.{Fml, MutBor, LendsIf}
use Rattle.cc_pages.specs.contracts.frames.Frames.{the_row as frames_row}
use Rattle.cc_views.specs.Views.{MappedViews, ViewFrames, with_frames}
use Rattle.cc_views.specs.contracts.views.Views.{the_row}

-- the block has the frames last written through the reference
abbrev pub LendsFrames : MutBor MappedViews → ℕ → Option (MutBor ViewFrames) → Fml
LendsFrames s block r = LendsIf the_row frames_row s r (λ w. record s.now { views = with_frames s.now.views block w }) s.now

use Rattle.std.proofs.Common.{deque_capacity}
use Rattle.cc_images.proofs.Standing.{stands-none}
use Rattle.cc_images.proofs.images.Images.new.Goals as goal

pub returns : goal.returns
returns c = λ h is.
    rw (is, c.new.ensures.items) (stands-none 0 (deque_capacity c.new.result) c.new-2.result c.new-2.ensures)

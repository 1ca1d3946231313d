use Rattle.cc_pieces.proofs.ClosedMaps.{close-tells}
use Rattle.cc_pieces.proofs.laws.uninitialise_tells_whether_the_map_went.Goals as goal

pub returns : goal.returns
returns c = close-tells

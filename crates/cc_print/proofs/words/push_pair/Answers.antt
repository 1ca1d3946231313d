use Rattle.std.proofs.lemmas.Str.{IsUtf8-from_ascii}
use Rattle.cc_print.proofs.words.push_pair.Goals as goal

pub from_utf8_unchecked-requires : goal.from_utf8_unchecked-requires
from_utf8_unchecked-requires c = IsUtf8-from_ascii _ c.pair_of-pair.ensures.ascii

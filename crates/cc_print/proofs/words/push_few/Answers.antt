use Rattle.std.proofs.Common.{map, arith}
use Rattle.std.proofs.lemmas.Str.{IsUtf8-from_ascii}
use Rattle.cc_entry.specs.Runs.{byte_alone}
use Rattle.cc_print.specs.Words.{more_runs}
use Rattle.cc_print.proofs.Pairs.{each_ascii}
use Rattle.cc_print.proofs.words.push_few.Goals as goal

pub from_utf8_unchecked-requires : goal.from_utf8_unchecked-requires
from_utf8_unchecked-requires c =
    rw c.put_each-end.ensures.front (IsUtf8-from_ascii (more_runs (map byte_alone c.args.bytes.now)) (each_ascii c.args.bytes.now (λ k. omega (arith, c.type_inv.bytes k))))

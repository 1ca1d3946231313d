use Rattle.std.proofs.Common.{arith}
use Rattle.cc_tests.proofs.Desks.{can_at_first}
use Rattle.cc_tests.proofs.desk.a_desk_is_made_acted_on_and_ended.Goals as goal

pub initialize-begun-requires : goal.initialize-begun-requires
initialize-begun-requires g c = can_at_first _ _ _ _ c.in_ok-desk.desk c.act_as.new.self 3 c.in_ok-file.file.stream 1 c.in_ok-desk.ensures c.act_as.ensures (omega (arith, c.in_ok-file.ensures))

use Rattle.cc_world.proofs.PassRows.{passes-begun}
use Rattle.cc_world.proofs.passes.Passes.new.Goals as goal

pub returns : goal.returns
returns c = passes-begun _ _ _ c.in_ok-rows.ensures.items c.new.ensures c.push_reserved.ensures.items

use Rattle.std.proofs.Common.{sym, ◌∙◌}
use Rattle.cc_world.proofs.HoldServes.{says-served, says-unheld}
use Rattle.cc_world.proofs.filed.is_filed.Goals as goal

pub returns-in-Some : goal.returns-in-Some
returns-in-Some c opening past stands here =
    says-served past c.args.pass c.args.book.now.stream c.args.call.now c.in-Some.asked c.serves.result here (sym c.use_of.ensures ∙ c.in-Some.is)
    (c.serves.ensures opening past stands)

pub returns-in-None : goal.returns-in-None
returns-in-None c opening past stands here =
    says-unheld past c.args.pass c.args.book.now.stream c.args.call.now here (sym c.use_of.ensures ∙ c.in-None.is)

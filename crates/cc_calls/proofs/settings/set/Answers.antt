use Rattle.cc_calls.proofs.SettingCalls.{set-done}
use Rattle.cc_calls.proofs.settings.set.Goals as goal

pub returns : goal.returns
returns g c =
    set-done (g.T.Turns.standing c.args.turns.now) (g.T.Turns.standing c.call_at_once.new.turns) c.args.call c.in_ok-call_at_once.field-0 _ _
    c.requires.sets (rw c.in_ok-call_at_once.was at c.call_at_once.ensures.ends)

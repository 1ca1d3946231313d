-- The deferral may stand, with the next number; where no place is reserved, nothing changed.
use Rattle.std.proofs.Common.{ap, sym, ◌∙◌, subst}
use Rattle.cc_journal.specs.Queue.{AllUnposted}
use Rattle.cc_calls.proofs.Throttling.{deferred-there, whole-pages}
use Rattle.cc_calls.proofs.throttle.defer_in.Goals as goal

pub push_defer-requires-clause-room : goal.push_defer-requires-clause-room
push_defer-requires-clause-room g c = rw (ap (λ j. j.entries) c.in-Ok.ensures.2) c.in-Ok.ensures.1

pub returns-in-Ok : goal.returns-in-Ok
returns-in-Ok g c = record {
  left = deferred-there c.args.pass c.push_defer.result c.args.file c.args.bytes c.div_ceil-pages.result c.args.retrying c.args.journal.now
      c.reserve_deferral.new.journal c.push_defer.new.self c.in-Ok.ensures (c.div_ceil-pages.ensures ∙ whole-pages c.args.bytes) c.push_defer.ensures.id c.push_defer.ensures.placed;
  back = tt;
  waiting = c.push_defer.ensures.unposted
      (subst (λ q. AllUnposted g.Q.PostRoutine.posted q) (sym (ap (λ j. j.queue) c.in-Ok.ensures.2)) c.requires.waiting);
}

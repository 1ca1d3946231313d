use Rattle.cc_event_lines.proofs.Deferrals.{next-unposted, went-deferred, went-refused}
use Rattle.cc_event_lines.proofs.lines.defer.Goals as goal

pub happen-requires-clause-unposted : goal.happen-requires-clause-unposted
happen-requires-clause-unposted g c =
    next-unposted g.Q.PostRoutine.posted _ _ c.args.routines.now c.next.result _ c.requires.routines c.next.ensures.taken

pub returns-in-Deferred : goal.returns-in-Deferred
returns-in-Deferred g c =
    went-deferred _ _ _ c.args.pass c.args.file c.args.bytes c.args.retrying c.next.result c.in-Deferred.id c.args.routines.now c.next.new.self c.keep.new.self c.in-Deferred.ensures c.requires.routines c.next.ensures.taken c.next.ensures.rest c.keep.ensures

pub returns-in-Kept : goal.returns-in-Kept
returns-in-Kept g c =
    went-refused _ _ _ c.args.pass c.args.file c.args.bytes c.args.retrying c.next.result c.in-Kept.routine c.in-Kept.error c.args.routines.now c.next.new.self c.keep-in-Kept.new.self c.in-Kept.ensures c.requires.routines c.next.ensures.taken c.next.ensures.rest c.keep-in-Kept.ensures

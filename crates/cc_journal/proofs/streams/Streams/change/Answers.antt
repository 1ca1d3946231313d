use Rattle.cc_journal.proofs.StreamsSteps.{stands_began, stands_ended}
use Rattle.cc_journal.proofs.streams.Streams.change.Goals as goal

pub returns-in-Call-clause-stands : goal.returns-in-Call-clause-stands
returns-in-Call-clause-stands c past here keeps stands = let e = c.in-Call in rw e.is (c.call_ended.ensures.stands past e.pass e.nth here stands)

pub returns-in-WriteBegin-clause-stands : goal.returns-in-WriteBegin-clause-stands
returns-in-WriteBegin-clause-stands c past here keeps stands =
    let e = c.in-WriteBegin in
    rw e.is (stands_began e.pass e.page past c.args.self.now.states.value c.args.self.now.places.places.entries c.args.self.now.dirty.rows c.begin.new.self.rows
    (rw e.is at keeps) c.begin.ensures.row c.begin.ensures.others stands)

pub returns-in-WriteEnd-clause-stands : goal.returns-in-WriteEnd-clause-stands
returns-in-WriteEnd-clause-stands c past here keeps stands =
    let e = c.in-WriteEnd in
    rw e.is (stands_ended e.pass e.page e.how past c.args.self.now.states.value c.args.self.now.places.places.entries c.args.self.now.dirty.rows c.end.new.self.rows
    (rw e.is at keeps) (rw c.is_good.ensures at c.end.ensures.row) c.end.ensures.others stands)

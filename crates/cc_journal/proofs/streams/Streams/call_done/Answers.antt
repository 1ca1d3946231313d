-- The rows change as the act of the call says, and the holds and the state follow it; so all streams stand after.
use Rattle.std.specs.Prelude.{ℕ, ◌≡◌, ◌<◌, true, slice_index_or}
use Rattle.std.proofs.Common.{ap, ◌∙◌}
use Rattle.cc_events.specs.Holdings.{holding_of_call}
use Rattle.cc_model.specs.Acts.{act_of}
use Rattle.cc_model.specs.Holds.{id_of}
use Rattle.cc_model.specs.History.{history}
use Rattle.cc_stream.specs.Stream.{StreamStands}
use Rattle.cc_journal.specs.Streams.{is_of_call}
use Rattle.cc_journal.proofs.StreamsSteps.{stands_call, within_states, of_act}
use Rattle.cc_journal.proofs.streams.Streams.call_done.Goals as goal

pub returns-clause-stands : goal.returns-clause-stands
returns-clause-stands c past pass nth here stands =
    let h = history past c.args.stream in
    let at : c.from-at.result ≡ c.args.stream = c.from-at.ensures ∙ c.number.ensures.same in
    let below : c.args.stream < 16 = rw c.number.ensures.same at c.number.ensures.in_range in
    let d = c.index-deref-at.result in
    let state : StreamStands h (slice_index_or c.deref.result.now c.from-at.result d) = rw (c.deref.ensures, c.change_rows.ensures.states, at) (stands.each c.args.stream d below) in
    let now = c.done.ensures.stands h pass c.args.reply.now state (c.is_mapped-mapped.ensures past stands) in
    let what : c.holding_by.result ≡ holding_of_call c.args.call.now (id_of c.args.reply.now) = c.holding_by.ensures ∙ ap (λ (n : ℕ). holding_of_call c.args.call.now n) c.id_in.ensures in
    let holds = rw what at (rw c.change_rows.ensures.places at c.follow.ensures.holds) in
    let of_call : is_of_call c.act.result ≡ true = ap is_of_call c.act.ensures.what ∙ of_act (act_of c.args.call.now) in
    let changes = rw (c.act.ensures.what, here) at (c.change_rows.ensures.rows past stands of_call) in
    rw (c.deref_mut.ensures.value, c.change_rows.ensures.states, at)
    (stands_call pass nth c.args.stream c.args.call.now c.args.reply.now past c.args.self.now.states.value c.done.new.self c.args.self.now.places.places.entries
    c.follow.new.self.places.entries c.args.self.now.dirty.rows c.change_rows.new.self.dirty.rows (within_states past c.args.self.now.states.value c.args.self.now.places.places.entries c.args.self.now.dirty.rows c.args.stream below stands) now holds changes stands)

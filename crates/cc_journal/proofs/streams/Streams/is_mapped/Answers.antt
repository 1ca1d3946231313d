-- A stream is mapped by an open object or by a dirty page; the state knows the one, the total of the rows the other.
use Rattle.std.specs.Prelude.{nat_lt, false}
use Rattle.std.proofs.Common.{ap, sym, ◌∙◌, subst}
use Rattle.cc_model.specs.History.{history}
use Rattle.cc_stream.specs.Stream.{Stream, StreamStands}
use Rattle.cc_journal.proofs.StreamsSteps.{mapped_by, opened_by}
use Rattle.cc_journal.proofs.streams.Streams.is_mapped.Goals as goal

pub returns-then-has_objects : goal.returns-then-has_objects
returns-then-has_objects c past stands =
    let h = history past c.args.stream in
    let d = c.state.result.now in
    let state = subst (λ (s : Stream). StreamStands h s) (sym (c.state.ensures.is d)) (stands.each c.args.stream d c.state.ensures.numbered) in
    c.if-has_objects.true ∙ sym (opened_by h (sym (c.has_objects.ensures.stands h state) ∙ c.if-has_objects.true))

pub returns-else-has_objects : goal.returns-else-has_objects
returns-else-has_objects c past stands =
    let h = history past c.args.stream in
    let d = c.state.result.now in
    let state = subst (λ (s : Stream). StreamStands h s) (sym (c.state.ensures.is d)) (stands.each c.args.stream d c.state.ensures.numbered) in
    ap (nat_lt 0) c.total.ensures.count
    ∙ sym (mapped_by past c.args.self.now.states.value c.args.self.now.places.places.entries c.args.self.now.dirty.rows c.args.stream false c.total.ensures.sound stands
    (sym c.if-has_objects.false ∙ c.has_objects.ensures.stands h state))

use Rattle.std.specs.Prelude.{◌≡◌}
use Rattle.std.proofs.Common.{◌∙◌}
use Rattle.cc_journal.proofs.streams.Streams.state.Goals as goal

pub returns-clause-stands : goal.returns-clause-stands
returns-clause-stands c past stands =
    let at : c.from.result ≡ c.args.stream = c.from.ensures ∙ c.number.ensures.same in
    rw (c.deref.ensures, at) (stands.each c.args.stream _ (rw c.number.ensures.same at c.number.ensures.in_range))

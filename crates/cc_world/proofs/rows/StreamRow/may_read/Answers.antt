use Rattle.std.proofs.Common.{◌∙◌}
use Rattle.cc_model.specs.History.{history}
use Rattle.cc_model.specs.Residency.{is_resident}
use Rattle.cc_world.proofs.UncachedCalls.{busy-used, resting-used}
use Rattle.cc_world.proofs.rows.StreamRow.may_read.Goals as goal

pub returns-in-None : goal.returns-in-None
returns-in-None g c opening first past stands =
    let row = c.args.self.now in
    resting-used g.D.Told.told g.D.Told.faults first past row.book.stream row.disk row.kept (is_resident (history past row.book.stream) c.args.page) c.in-None.is stands.disk

pub returns-in-Some : goal.returns-in-Some
returns-in-Some g c opening first past stands =
    let row = c.args.self.now in
    busy-used g.D.Told.told g.D.Told.faults first past row.book.stream row.disk row.kept c.in-Some.field-0 (is_resident (history past row.book.stream) c.args.page) c.is_some.result
    c.in-Some.is (c.is_some.ensures ∙ c.page.ensures.resident opening past stands.book) stands.disk

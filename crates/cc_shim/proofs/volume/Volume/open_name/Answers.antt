-- The place of the name is the number of its stream.
use Rattle.std.specs.Prelude.{string_bytes}
use Rattle.std.proofs.Common.{sym, ◌∙◌, arith}
use Rattle.cc_shim.proofs.Naming.{found-named, found-within, named-file, opened, unopened}
use Rattle.cc_shim.proofs.volume.Volume.open_name.Goals as goal

pub returns-in_err-stream-clause-found : goal.returns-in_err-stream-clause-found
returns-in_err-stream-clause-found c =
    rw (← c.self.view_is)
    (unopened string_bytes c.args.name.now c.self.inside.names.items c.args.object c.from_residual.result (rw c.deref.ensures.value at (sym c.place_of.ensures ∙ c.in_err-stream.was)) c.from_residual.ensures)

pub returns-clause-found : goal.returns-clause-found
returns-clause-found c =
    let place = rw c.deref.ensures.value at (sym c.place_of.ensures ∙ c.in_ok-stream.was) in
    let within = found-within string_bytes c.args.name.now c.self.inside.names.items c.in_ok-stream.stream place in
    rw (← c.self.view_is)
    (opened string_bytes c.args.name.now c.self.inside.names.items c.in_ok-stream.stream c.args.object c.new.result place (omega (arith, within, c.self.invariant)) c.new.ensures.in_range)

pub returns-clause-stream : goal.returns-clause-stream
returns-clause-stream c =
    let place = rw c.deref.ensures.value at (sym c.place_of.ensures ∙ c.in_ok-stream.was) in
    rw (← c.self.view_is)
    (named-file _ c.args.name.now c.in_ok-stream.stream c.new.result (found-named string_bytes c.args.name.now c.self.inside.names.items c.in_ok-stream.stream place) c.new.ensures.stream)

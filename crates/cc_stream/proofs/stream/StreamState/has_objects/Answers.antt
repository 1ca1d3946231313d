use Rattle.std.proofs.Common.{ap, ◌∙◌}
use Rattle.cc_model.specs.Objects.{objects}
use Rattle.cc_stream.specs.Stream.{Stream, any_open}
use Rattle.cc_stream.proofs.Flags.{any_open-is}
use Rattle.cc_stream.proofs.stream.StreamState.has_objects.Goals as goal

pub returns-clause-stands : goal.returns-clause-stands
returns-clause-stands c = λ h stands.
    c.any_open.ensures
    ∙ (ap (λ (s : Stream). any_open s.opened) c.self.view_is ∙ any_open-is c.args.self.now.opened (objects h) stands.opened)

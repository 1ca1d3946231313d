use Rattle.std.proofs.Common.{◌≡◌, length}
use Rattle.cc_command.proofs.Told.{HasTaken}
use Rattle.cc_command.proofs.output.put_all.Given as goal

abbrev pub invariant-loop-rest : goal.invariant-loop-rest
invariant-loop-rest g l = record {
  faults : g.K.Sink.faults l.sink ≡ g.K.Sink.faults l.initial.sink;
  stalls : g.K.Sink.stalls l.sink ≡ g.K.Sink.stalls l.initial.sink;
  taken : HasTaken l.text l.rest (g.K.Sink.told l.initial.sink) (g.K.Sink.told l.sink);
}

abbrev pub decreases-loop-rest : goal.decreases-loop-rest
decreases-loop-rest g l = length l.rest

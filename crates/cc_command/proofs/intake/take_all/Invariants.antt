use Rattle.std.proofs.Common.{◌≡◌, ◌≤◌, ◌++◌, vec_len}
use Rattle.cc_command.proofs.Told.{HasGiven}
use Rattle.cc_command.proofs.intake.take_all.Given as goal

abbrev pub invariant-loop : goal.invariant-loop
invariant-loop g l = record {
  few : vec_len l.bytes ≤ 16777216;
  faults : g.S.Source.faults l.source ≡ g.S.Source.faults l.initial.source;
  noted : g.S.Source.given l.source ≡ g.S.Source.given l.initial.source ++ l.bytes.items;
  given : HasGiven l.bytes.items (g.S.Source.told l.initial.source) (g.S.Source.told l.source);
}

use Rattle.std.specs.Prelude.{◌≡◌, ℕ, Some}
use Rattle.std.specs.declared.option.Option.{Option}
use Rattle.std.proofs.Common.{subst, sym}
use Rattle.cc_pieces.specs.Restarts.{refused_for}
use Rattle.cc_program.specs.Runs.{given_of}
use Rattle.cc_program.specs.Setups.{setup_of}
use Rattle.cc_run_laws.proofs.Calls.{explained-run}
use Rattle.cc_run_laws.proofs.scripts.refused_restarts_leave_the_stream.Goals as goal

pub returns : goal.returns
returns g c = λ call clauses s log line its closed e refused.
    c.refused_restarts_open_no_stream.ensures (setup_of g.D.Told.told g.D.Told.faults its.script call.disks_begun call.logs_begun) (given_of its.script) call.told call.taken call.past
    (explained-run g.D.Told.told g.D.Told.faults g.L.LogFile.told g.L.LogFile.faults call clauses its.script its.ran its.mode_is) s line e its.named
    (subst (λ (o : Option ℕ). refused_for o its.script.restarts call.told.replies ≡ Some e) (sym its.logged) refused) closed

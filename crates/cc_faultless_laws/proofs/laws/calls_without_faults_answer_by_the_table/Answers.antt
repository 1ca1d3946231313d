use Rattle.std.specs.Prelude.{◌++◌}
use Rattle.cc_faultless_laws.proofs.Quiet.{by-table-before}
use Rattle.cc_faultless_laws.proofs.laws.calls_without_faults_answer_by_the_table.Goals as goal

pub returns : goal.returns
returns c = λ u me it answered old new newer good none left leaves.
    let stands = c.outcomes_are_as_defined.ensures u me it answered old new newer good left leaves in
    (stands.0, stands.1, stands.2, stands.3, stands.4, by-table-before u newer new good none stands.2 (stands.3 ++ old) me stands.0 stands.1 it answered stands.4)
